use Rattle.std.proofs.Common.{length, ◌≤◌, None}
use Rattle.std.specs.Option.{IfSome}
use Rattle.std.proofs.lemmas.Map.Views.{All-values-insert_entry}
use Rattle.ode_keep.specs.declared.limits.TheConstants.{MAX_VALUE}
use Rattle.ode_value.specs.Keys.{key_cmp}
use Rattle.ode_store_tests.proofs.keepers.removing_many.Goals as goal

pub loop-a-preserved : goal.loop-a-preserved
loop-a-preserved c =
    rw c.in_ok-remove.ensures.ok
    (All-values-insert_entry key_cmp c.key.result None (λ v. IfSome v (λ bytes. length bytes ≤ MAX_VALUE)) c.loop-a.batch c.loop-a.invariant tt)
