use Rattle.std.proofs.Common.{◌≡◌, ℕ, List, length, ◌≤◌, ap, sym, subst, arith, Some}
use Rattle.std.specs.BTreeMap.{insert_entry}
use Rattle.std.specs.Option.{IfSome}
use Rattle.std.proofs.lemmas.Map.Views.{All-values-insert_entry}
use Rattle.ode_keep.specs.Entries.{Changes}
use Rattle.ode_keep.specs.declared.limits.TheConstants.{MAX_VALUE}
use Rattle.ode_value.specs.Keys.{key_cmp}
use Rattle.ode_value.specs.declared.key.Key.{Key}
use Rattle.ode_keep.specs.ShortValues.{HasShortValues}
use Rattle.ode_record_tests.proofs.database.putting.Goals.{then-row-le-MAX_VALUE+in_ok-from_slice+in_ok-put, else-row-le-MAX_VALUE}
use Rattle.ode_record_tests.proofs.database.putting.Goals as goal

short_put : (old new : Changes) (k : Key) (v : List ℕ) → new ≡ insert_entry key_cmp old k (Some v) → length v ≤ MAX_VALUE → HasShortValues old → HasShortValues new
short_put old new k v is short all =
    rw is (All-values-insert_entry key_cmp k (Some v) (λ w. IfSome w (λ bytes. length bytes ≤ MAX_VALUE)) old all short)

pub loop-row-preserved : goal.loop-row-preserved
loop-row-preserved c = elim c.if-row-le-MAX_VALUE.branch [
  | then-row-le-MAX_VALUE+in_ok-from_slice+in_ok-put w ↦
      let short : length w.in_ok-from_slice.field-0 ≤ MAX_VALUE = omega (arith, ap length w.in_ok-from_slice.ensures, w.if-row-le-MAX_VALUE.true) in
      subst HasShortValues (sym w.batch-is) (short_put _ _ _ _ w.in_ok-put.ensures.ok short c.loop-row.invariant)
  | else-row-le-MAX_VALUE w ↦ subst HasShortValues (sym w.batch-is) c.loop-row.invariant
]
