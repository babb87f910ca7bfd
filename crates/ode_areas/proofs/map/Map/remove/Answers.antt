use Rattle.std.proofs.Common.{◌≡◌, List, Option, ℕ, Some, None, subst, sym, ap, ◌∙◌, arith}
use Rattle.std.specs.BTreeMap.{is_at}
use Rattle.ode_value.specs.Keys.{entry_kind, key_cmp}
use Rattle.ode_keep.specs.Entries.{Entries, count_of_kind, record_bytes, value_under}
use Rattle.ode_keep.specs.Growth.{bytes_of, one_of_kind}
use Rattle.ode_keep.proofs.Counts.{removed_counts}
use Rattle.ode_keep.proofs.Growing.{removed_shrinks}
use Rattle.ode_keep.proofs.Applying.{taken_out}
use Rattle.ode_keep.specs.Snapshots.{FitsSnapshot}
use Rattle.ode_areas.proofs.Fitting.{changed_fits}
use Rattle.ode_areas.proofs.map.Map.remove.Goals as goal

pub overflow_sub-self : goal.overflow_sub-self
overflow_sub-self c =
    let entries = c.self.inside.records in
    let shrinks = removed_shrinks (is_at (key_cmp c.args.key)) entries in
    let found : value_under entries c.args.key ≡ Some c.in-Some.old = sym c.in-Some.ensures.old in
    omega (arith, shrinks, ap bytes_of found, c.self.invariant.0, c.len.ensures)

pub overflow_sub-self-in-Some : goal.overflow_sub-self-in-Some
overflow_sub-self-in-Some c =
    let entries = c.self.inside.records in
    let found : value_under entries c.args.key ≡ Some c.in-Some.old = sym c.in-Some.ensures.old in
    omega (arith, removed_counts entry_kind entries c.args.key, ap (λ (o : Option (List ℕ)). one_of_kind entry_kind c.args.key o) found, c.self.invariant.1, c.one_queued-taken.ensures)

pub invariant_of-self : goal.invariant_of-self
invariant_of-self c =
    let entries = c.self.inside.records in
    let shrinks = removed_shrinks (is_at (key_cmp c.args.key)) entries in
    let found : value_under entries c.args.key ≡ Some c.in-Some.old = sym c.in-Some.ensures.old in
    let gone = c.remove.ensures.rest ∙ taken_out entries c.args.key c.self.invariant.2.rising in (
      omega (arith, shrinks, ap bytes_of found, c.self.invariant.0, c.len.ensures, ap record_bytes gone),
      omega (
        arith,
        removed_counts entry_kind entries c.args.key,
        ap (λ (o : Option (List ℕ)). one_of_kind entry_kind c.args.key o) found,
        c.self.invariant.1,
        c.one_queued-taken.ensures,
        ap (λ (l : Entries). count_of_kind entry_kind l) gone,
      ),
      subst FitsSnapshot (sym c.remove.ensures.rest) (changed_fits entries c.args.key None (record { key = record { kind = omega arith; a = omega arith; b = omega arith }; value = tt }) c.self.invariant.2),
    )

pub invariant_of-self-in_default : goal.invariant_of-self-in_default
invariant_of-self-in_default c =
    let entries = c.self.inside.records in
    let shrinks = removed_shrinks (is_at (key_cmp c.args.key)) entries in
    let none : value_under entries c.args.key ≡ None = sym c.remove.ensures.old ∙ c.in_default.is in
    let gone = c.remove.ensures.rest ∙ taken_out entries c.args.key c.self.invariant.2.rising in (
      omega (arith, shrinks, ap bytes_of none, c.self.invariant.0, ap record_bytes gone),
      omega (
        arith,
        removed_counts entry_kind entries c.args.key,
        ap (λ (o : Option (List ℕ)). one_of_kind entry_kind c.args.key o) none,
        c.self.invariant.1,
        ap (λ (l : Entries). count_of_kind entry_kind l) gone,
      ),
      subst FitsSnapshot (sym c.remove.ensures.rest) (changed_fits entries c.args.key None (record { key = record { kind = omega arith; a = omega arith; b = omega arith }; value = tt }) c.self.invariant.2),
    )
