use Rattle.std.proofs.Common.{sym, subst, ap, refl, ◌∙◌}
use Rattle.std.specs.Prelude.{map, List}
use Rattle.std.specs.List.{AllByRecursion, filter}
use Rattle.ode_arising_laws.specs.Arising.{HasShortArgs, firing_by}
use Rattle.ode_laws.proofs.Each.{all-filter}
use Rattle.ode_point_laws.specs.Points.{point_of, sees_whole}
use Rattle.ode_run.proofs.WholeLaws.{merged_map}
use Rattle.ode_run.proofs.wholes.go_on_whole.Goals as goal
use Rattle.ode_run.specs.Wholes.{merged}
use Rattle.ode_states.specs.Advance.{advanced, fired_in}
use Rattle.ode_types.specs.declared.running.Running.{Running}

pub returns-clause-acts : goal.returns-clause-acts
returns-clause-acts c = λ o found.
    let p = c.args.program.now in
    let there = c.args.there.now in
    let on : Running → Running = advanced p.tables p.alphabets p.classes (point_of c.args.id o c.args.kind.now c.args.args.now) in
    let kept = c.in_ok-wholes.ensures ∙ ap (filter (sees_whole p.classes)) c.as_slice.ensures in
    c.merge.ensures ∙ ap (λ (rs : List Running). merged (sees_whole p.classes) there rs) (c.as_slice-2.ensures ∙ c.in_ok-firings.ensures.acts o found ∙ ap (map on) kept)
    ∙ merged_map (sees_whole p.classes) on (λ a. refl) there

pub returns-clause-fired : goal.returns-clause-fired
returns-clause-fired c = λ o found.
    let p = c.args.program.now in
    let kept = c.in_ok-wholes.ensures ∙ ap (filter (sees_whole p.classes)) c.as_slice.ensures in
    c.in_ok-firings.ensures.fired o found ∙ ap (λ (rs : List Running). map (firing_by c.args.id) (fired_in p.tables p.alphabets p.classes (point_of c.args.id o c.args.kind.now c.args.args.now) rs)) kept

pub returns-clause-short : goal.returns-clause-short
returns-clause-short c = λ short.
    let cs = c.args.program.now.classes in
    let kept = c.in_ok-wholes.ensures ∙ ap (filter (sees_whole cs)) c.as_slice.ensures in
    c.in_ok-firings.ensures.short (subst (AllByRecursion HasShortArgs) (sym kept) (all-filter HasShortArgs (sees_whole cs) c.args.there.now short))
