use Rattle.std.proofs.Common.{◌≡◌, List, Option, ℕ, Some, None, subst, sym, ap, ◌∙◌, arith}
use Rattle.std.specs.Prelude.{◌==◌}
use Rattle.ode_keep.specs.Entries.{Entries, count_of_kind, record_bytes, value_under}
use Rattle.ode_keep.specs.Growth.{bytes_of, one_of_kind}
use Rattle.ode_value.specs.Keys.{entry_kind}
use Rattle.ode_keep.proofs.Counts.{at_most_one, count_within, put_counts}
use Rattle.ode_keep.proofs.Growing.{put_grows}
use Rattle.ode_keep.specs.Snapshots.{FitsSnapshot}
use Rattle.ode_areas.proofs.Fitting.{changed_fits}
use Rattle.ode_areas.proofs.map.Map.put.Goals as goal
use Rattle.ode_areas.proofs.map.Map.put.Goals.{in-Some-old, in-None}

pub overflow_add-self : goal.overflow_add-self
overflow_add-self c =
    omega (
      arith,
      count_within entry_kind c.self.inside.records,
      at_most_one entry_kind (c.args.key.kind == entry_kind),
      c.self.invariant.0,
      c.self.invariant.1,
      c.in-Some.ensures,
      c.one_added-added.ensures,
    )

pub overflow_sub-self : goal.overflow_sub-self
overflow_sub-self c =
    let entries = c.self.inside.records in
    let grows = put_grows entries c.args.key c.args.value c.self.invariant.2.rising in
    let found : value_under entries c.args.key ≡ Some c.in-Some-old.old = sym c.in_ok-old.ensures.old ∙ c.in-Some-old.is in
    omega (arith, grows, ap bytes_of found, c.self.invariant.0, c.in-Some.ensures, c.len.ensures, c.len-length.ensures)

pub invariant_of-self-2 : goal.invariant_of-self-2
invariant_of-self-2 c =
    let entries = c.self.inside.records in
    let grows = put_grows entries c.args.key c.args.value c.self.invariant.2.rising in
    let now = ap record_bytes c.in_ok-old.ensures.put in
    let counts : c.match-old.self ≡ record_bytes c.insert.new.self = elim c.match-old.branch [
      | in-Some-old w ↦
          let found : value_under entries c.args.key ≡ Some w.in-Some-old.old = sym c.in_ok-old.ensures.old ∙ w.in-Some-old.is in
          omega (arith, grows, now, ap bytes_of found, c.self.invariant.0, c.in-Some.ensures, w.len.ensures, c.len-length.ensures, w.self-is)
      | in-None w ↦
          let found : value_under entries c.args.key ≡ None = sym c.in_ok-old.ensures.old ∙ w.in-None.is in
          omega (arith, grows, now, ap bytes_of found, c.self.invariant.0, c.in-Some.ensures, c.len-length.ensures, w.self-is)
    ] in (
      counts,
      omega (
        arith,
        put_counts entry_kind entries c.args.key c.args.value c.self.invariant.2.rising,
        ap (λ (l : Entries). count_of_kind entry_kind l) c.in_ok-old.ensures.put,
        ap (λ (o : Option (List ℕ)). one_of_kind entry_kind c.args.key o) c.as_ref.ensures.value,
        ap (λ (o : Option (List ℕ)). one_of_kind entry_kind c.args.key o) c.in_ok-old.ensures.old,
        c.self.invariant.1,
        c.one_added-added.ensures,
      ),
      subst FitsSnapshot (sym c.in_ok-old.ensures.put) (changed_fits entries c.args.key (Some c.args.value) (record { key = record { kind = omega arith; a = omega arith; b = omega arith }; value = c.requires }) c.self.invariant.2),
    )
