use Rattle.std.proofs.Common.{◌≡◌, Some, false, true, arith}
use Rattle.std.specs.Prelude.{◌==◌}
use Rattle.std.specs.Option.{is_some}
use Rattle.std.proofs.lemmas.Bool.Decides.{nat_tests}
use Rattle.ode_codec.specs.Reading.{record_under}
use Rattle.ode_codec.specs.Spelling.{spelled}
use Rattle.ode_codec.specs.declared.record.Record.{Record}
use Rattle.ode_value.specs.Keys.{counters_kind}
use Rattle.ode_passes.proofs.Others.{other_counters}
use Rattle.ode_passes.proofs.tally.counters_behind.Goals as goal

pub returns-then-is_record-clause-meant : goal.returns-then-is_record-clause-meant
returns-then-is_record-clause-meant c =
    let other : (c.args.key.kind == counters_kind) ≡ false = grind (arith, nat_tests, c.if-key-eq-COUNTERS.false) in
    let some : is_some (record_under c.args.key c.args.value.now) ≡ true = cc (c.is_record.ensures, c.if-is_record.true) in
    let same : (r : Record) → record_under c.args.key c.args.value.now ≡ Some r → (c.args.key, c.args.value.now) ≡ spelled r =
    λ r reads. (c.one_spelling.ensures.only c.args.key c.args.value.now r (omega arith) (omega arith) (λ i. omega (arith, c.type_inv.value i)) reads).1 in
    other_counters c.args.before c.args.key c.args.value.now same other some
