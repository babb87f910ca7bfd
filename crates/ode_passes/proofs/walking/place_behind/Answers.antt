use Rattle.std.proofs.Common.{◌≡◌, ◌<◌, ◌∙◌, true, Option, ap, sym, arith}
use Rattle.ode_value.specs.declared.key.Key.{Key}
use Rattle.ode_passes.specs.Walking.{ahead, follows, has_range}
use Rattle.ode_passes.proofs.Keyed.{above_is_from, none_above, none_past}
use Rattle.ode_passes.proofs.walking.place_behind.Goals as goal

pub returns-in_err-next-clause-on : goal.returns-in_err-next-clause-on
returns-in_err-next-clause-on c = λ entries.
    let end : (k : Key) → has_range k ≡ true → follows c.args.at k ≡ true → c.args.last < k.kind =
    λ k range after. let far = c.in_err-next.ensures.last k range after in omega arith in
    none_above c.args.at c.args.last end entries ∙ sym (ap (λ (o : Option Key). ahead o c.args.last entries) c.from_residual.ensures)

pub returns-then-next-last-clause-on : goal.returns-then-next-last-clause-on
returns-then-next-last-clause-on c = λ entries.
    above_is_from c.args.at c.in_ok-next.next c.args.last c.in_ok-next.ensures.next entries
    ∙ none_past c.in_ok-next.next c.args.last entries c.if-next-last.true

pub returns-clause-on : goal.returns-clause-on
returns-clause-on c = λ entries. above_is_from c.args.at c.in_ok-next.next c.args.last c.in_ok-next.ensures.next entries
