use Rattle.std.proofs.Common.{ℕ, [], ◌∷◌, ◌++◌, sym, ◌∙◌, arith}
use Rattle.std.proofs.lemmas.List.FromFn.{map-range_with_len_more}
use Rattle.ode_value.specs.Marks.{spelled}
use Rattle.ode_value.specs.Symbols.{mark_among}
use Rattle.ode_table.proofs.building.marks_of.Goals as goal

pub loop-s-preserved : goal.loop-s-preserved
loop-s-preserved c =
    c.in_ok-push.ensures.ok
    ∙ (λ i. c.loop-s.invariant i ++ (c.in_ok-mark.ensures.mark i ∷ []))
    ∙ sym (map-range_with_len_more (λ (s : ℕ). spelled c.args.e.now (mark_among c.args.a.now s)) 0 c.loop-s.s c.loop-s.s (omega arith))
