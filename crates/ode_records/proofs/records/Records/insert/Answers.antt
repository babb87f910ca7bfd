use Rattle.std.proofs.Common.{◌≡◌, true, ap, arith, length, sym, ◌∙◌}
use Rattle.std.specs.Prelude.{is_some, not}
use Rattle.ode_keep.specs.Entries.{Entries, value_under}
use Rattle.ode_records.specs.Kinds.{all_of}
use Rattle.ode_records.proofs.Kinding.{all_rising, none_there, on_any_err}
use Rattle.ode_records.proofs.Lengths.{copied_some, ones, ones_none, ones_some, put_length}
use Rattle.ode_records.proofs.records.Records.insert.Goals as goal
use Rattle.ode_records.proofs.records.Records.insert.Goals.{else-self-via-then-self+else-is_none, else-self-via-else-self}

pub returns-in_err-make_room-clause-absent : goal.returns-in_err-make_room-clause-absent
returns-in_err-make_room-clause-absent c =
    on_any_err c.from_residual.result (rw (← c.self.view_is) (none_there c.args.key c.self.inside.kinds.items c.in_err-make_room.ensures.needed c.self.invariant.0))

pub overflow_add-self : goal.overflow_add-self
overflow_add-self c = elim c.else-self.branch [
  | else-self-via-then-self+else-is_none w ↦
      let there : is_some c.in_ok-old.old ≡ true =
      ap is_some (c.in_ok-old.ensures.old ∙ ap (λ (l : Entries). value_under l c.args.key) (c.in_ok-make_room.ensures.same ∙ c.self.view_is) ∙ sym w.get.ensures)
      ∙ copied_some w.get.result ∙ w.is_none.ensures ∙ ap not w.if-is_none.false in
      absurd (cc (there, c.if-is_none-2.ensures))
  | else-self-via-else-self w ↦ omega (arith, c.self.ranges)
]

pub invariant_of-self-then-is_none-2 : goal.invariant_of-self-then-is_none-2
invariant_of-self-then-is_none-2 c =
    let kinds = c.make_room.new.kinds.items in
    let none : ones c.in_ok-old.old ≡ 0 = ones_none c.in_ok-old.old c.if-is_none-2.ensures in (
      c.in_ok-old.ensures.kinds,
      omega (
        arith,
        none,
        ap ones c.in_ok-old.ensures.old,
        put_length (all_of kinds) c.args.key c.args.value (all_rising kinds c.in_ok-make_room.ensures.kinds),
        c.self.invariant.1,
        ap (λ (l : Entries). length l) c.in_ok-make_room.ensures.same,
        ap (λ (l : Entries). length l) c.in_ok-old.ensures.put,
      ),
    )

pub invariant_of-self-else-is_none-2 : goal.invariant_of-self-else-is_none-2
invariant_of-self-else-is_none-2 c =
    let kinds = c.make_room.new.kinds.items in
    let one : ones c.in_ok-old.old ≡ 1 = ones_some c.in_ok-old.old c.if-is_none-2.ensures in (
      c.in_ok-old.ensures.kinds,
      omega (
        arith,
        one,
        ap ones c.in_ok-old.ensures.old,
        put_length (all_of kinds) c.args.key c.args.value (all_rising kinds c.in_ok-make_room.ensures.kinds),
        c.self.invariant.1,
        ap (λ (l : Entries). length l) c.in_ok-make_room.ensures.same,
        ap (λ (l : Entries). length l) c.in_ok-old.ensures.put,
      ),
    )
