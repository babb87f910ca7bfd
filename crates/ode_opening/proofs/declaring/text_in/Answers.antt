use Rattle.std.proofs.Common.{◌≡◌, ◌+◌, ◌-◌, ◌<◌, ℕ, List, Ok, drop, length, ap, sym, ◌∙◌, arith}
use Rattle.ode_opening.specs.Declaring.{text_in}
use Rattle.ode_opening.proofs.Cut.{cut_ends, cut_goes, cut_stops, no_front, with_front}
use Rattle.ode_opening.proofs.declaring.text_in.Goals as goal

pub loop-left-init : goal.loop-left-init
loop-left-init c =
    let m = text_in c.args.class c.args.length (drop c.args.at c.args.records.now) in
    ap (λ (t : List ℕ). with_front t m) c.new-text.ensures.items ∙ no_front m

pub returns-in_default-clause-meant : goal.returns-in_default-clause-meant
returns-in_default-clause-meant c =
    let some : 0 < c.loop-left.left = omega arith in
    cut_stops c.args.class c.loop-left.left some c.args.records.now c.loop-left.at c.loop-left.text.items (text_in c.args.class c.args.length (drop c.args.at c.args.records.now))
    c.loop-left.invariant (sym c.in_default.ensures.piece)

pub loop-left-preserved : goal.loop-left-preserved
loop-left-preserved c =
    let some : 0 < c.loop-left.left = omega arith in
    let front = c.loop-left.text.items in
    let bytes = c.in-Some.piece.now in
    let on = cut_goes c.args.class c.loop-left.left some c.args.records.now c.loop-left.at front (text_in c.args.class c.args.length (drop c.args.at c.args.records.now))
    c.loop-left.invariant bytes (sym c.in-Some.ensures.piece) in
    ap (λ (t : List ℕ). with_front t (text_in c.args.class (c.loop-left.left - length bytes) (drop (c.loop-left.at + 1) c.args.records.now))) c.in_ok-extend_from_slice.ensures.items
    ∙ on

pub returns-clause-meant : goal.returns-clause-meant
returns-clause-meant c =
    let none : c.loop-left.left ≡ 0 = omega arith in
    cut_ends c.args.class c.loop-left.left (drop c.loop-left.at c.args.records.now) c.loop-left.text.items (text_in c.args.class c.args.length (drop c.args.at c.args.records.now))
    none c.loop-left.invariant
    ∙ ap (λ (t : List ℕ). Ok (t, drop c.loop-left.at c.args.records.now)) (sym c.from_vec.ensures)
