use Rattle.std.proofs.Common.{◌≡◌, Bool, true, false, rules, sym, subst}
use Rattle.std.specs.Prelude.{IfOk, OnOk, cond, map}
use Rattle.std.specs.List.{filter}
use Rattle.ode_arising_laws.specs.Arising.{firing_by}
use Rattle.ode_point_laws.specs.Points.{point_of, sees_whole}
use Rattle.ode_run.proofs.wholes.go_on_by.Goals as goal
use Rattle.ode_states.specs.Advance.{advanced, fired_in}

pub returns-then-whole-clause-acts : goal.returns-then-whole-clause-acts
returns-then-whole-clause-acts c = λ o found.
    let p = c.args.program.now in
    let there = c.args.there.now in
    let point = point_of c.args.id o c.args.kind.now c.args.args.now in
    let is : c.args.whole ≡ true = search rules in
    subst (λ (w : Bool). OnOk c.go_on_whole.result (c.go_on_whole.new.there ≡ cond w (map (λ a. cond (sees_whole p.classes a) (advanced p.tables p.alphabets p.classes point a) a) there) (map (advanced p.tables p.alphabets p.classes point) there))) (sym is)
    (c.go_on_whole.ensures.acts o found)

pub returns-then-whole-clause-fired : goal.returns-then-whole-clause-fired
returns-then-whole-clause-fired c = λ o found.
    let p = c.args.program.now in
    let there = c.args.there.now in
    let point = point_of c.args.id o c.args.kind.now c.args.args.now in
    let is : c.args.whole ≡ true = search rules in
    subst (λ (w : Bool). IfOk c.go_on_whole.result (λ firings. firings ≡ map (firing_by c.args.id) (fired_in p.tables p.alphabets p.classes point (cond w (filter (sees_whole p.classes) there) there)))) (sym is)
    (c.go_on_whole.ensures.fired o found)

pub returns-else-whole-clause-fired : goal.returns-else-whole-clause-fired
returns-else-whole-clause-fired c = λ o found.
    let p = c.args.program.now in
    let there = c.args.there.now in
    let point = point_of c.args.id o c.args.kind.now c.args.args.now in
    let is : c.args.whole ≡ false = search rules in
    subst (λ (w : Bool). IfOk c.go_on.result (λ firings. firings ≡ map (firing_by c.args.id) (fired_in p.tables p.alphabets p.classes point (cond w (filter (sees_whole p.classes) there) there)))) (sym is)
    (c.go_on.ensures.fired o found)
