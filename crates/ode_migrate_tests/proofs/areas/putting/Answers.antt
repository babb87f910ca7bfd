use Rattle.std.proofs.Common.{length, ◌≤◌, ap, arith, Some}
use Rattle.std.specs.Option.{IfSome}
use Rattle.std.proofs.lemmas.Map.Views.{All-values-insert_entry}
use Rattle.ode_keep.specs.declared.limits.TheConstants.{MAX_VALUE}
use Rattle.ode_value.specs.Keys.{key_cmp}
use Rattle.ode_migrate_tests.proofs.areas.putting.Goals as goal

pub loop-a-preserved : goal.loop-a-preserved
loop-a-preserved c =
    let short : length c.from_vec-value.result ≤ MAX_VALUE = omega (arith, ap length c.from_vec-value.ensures, c.in_ok-vec.ensures.len, c.requires) in
    rw c.in_ok-put.ensures.ok
    (All-values-insert_entry key_cmp c.entry.result (Some c.from_vec-value.result) (λ v. IfSome v (λ bytes. length bytes ≤ MAX_VALUE)) c.loop-a.batch c.loop-a.invariant short)
