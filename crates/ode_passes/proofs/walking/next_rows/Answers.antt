use Rattle.std.proofs.Common.{◌≡◌, true, None, arith}
use Rattle.std.specs.Ordering.{is_le}
use Rattle.std.proofs.lemmas.Bool.Decides.{nat_tests}
use Rattle.ode_value.specs.Keys.{key_cmp}
use Rattle.ode_passes.specs.Walking.{has_range, last_key}
use Rattle.ode_passes.proofs.Batches.{last_has, last_rank, starts_batch}
use Rattle.ode_passes.proofs.walking.next_rows.Goals as goal

pub returns-clause-next : goal.returns-clause-next
returns-clause-next g c = λ last entries holds.
    let law = g.met.K.Keep.stands c.args.keeper.now c.args.host.now entries holds in
    starts_batch last c.args.from entries c.in_ok-rows_from.field-0 (g.met.K.Keep.rising law.0 entries law.2) (c.in_ok-rows_from.ensures.value entries holds)
    (last_has (λ q. is_le (key_cmp c.args.from q) ≡ true) None c.in_ok-rows_from.field-0 tt c.in_ok-rows_from.ensures.above)

pub returns-clause-above : goal.returns-clause-above
returns-clause-above g c =
    let range : has_range c.args.from ≡ true = grind (arith, nat_tests) in
    last_rank c.args.from (last_key None c.in_ok-rows_from.field-0) range
    (last_has (λ q. is_le (key_cmp c.args.from q) ≡ true) None c.in_ok-rows_from.field-0 tt c.in_ok-rows_from.ensures.above)
