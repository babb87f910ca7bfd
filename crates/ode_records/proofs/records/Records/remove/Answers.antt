use Rattle.std.proofs.Common.{◌≡◌, ap, arith, length, sym}
use Rattle.ode_keep.specs.Entries.{Entries}
use Rattle.ode_records.specs.Kinds.{all_of}
use Rattle.ode_records.proofs.Kinding.{all_rising}
use Rattle.ode_records.proofs.Lengths.{ones, ones_none, ones_some, taken_length}
use Rattle.ode_records.proofs.records.Records.remove.Goals as goal

pub overflow_sub-self : goal.overflow_sub-self
overflow_sub-self c =
    let kinds = c.self.inside.kinds.items in
    let one : ones c.take-old.result ≡ 1 = ones_some c.take-old.result (sym c.if-is_some.ensures) in
    omega (arith, one, ap ones c.take-old.ensures.old, taken_length (all_of kinds) c.args.key (all_rising kinds c.self.invariant.0), c.self.invariant.1)

pub invariant_of-self : goal.invariant_of-self
invariant_of-self c =
    let kinds = c.self.inside.kinds.items in
    let one : ones c.take-old.result ≡ 1 = ones_some c.take-old.result (sym c.if-is_some.ensures) in (
      c.take-old.ensures.kinds,
      omega (
        arith,
        one,
        ap ones c.take-old.ensures.old,
        taken_length (all_of kinds) c.args.key (all_rising kinds c.self.invariant.0),
        c.self.invariant.1,
        ap (λ (l : Entries). length l) c.take-old.ensures.rest,
      ),
    )

pub invariant_of-self-else-is_some : goal.invariant_of-self-else-is_some
invariant_of-self-else-is_some c =
    let kinds = c.self.inside.kinds.items in
    let none : ones c.take-old.result ≡ 0 = ones_none c.take-old.result (sym c.if-is_some.ensures) in (
      c.take-old.ensures.kinds,
      omega (
        arith,
        none,
        ap ones c.take-old.ensures.old,
        taken_length (all_of kinds) c.args.key (all_rising kinds c.self.invariant.0),
        c.self.invariant.1,
        ap (λ (l : Entries). length l) c.take-old.ensures.rest,
      ),
    )
