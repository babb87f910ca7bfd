use Rattle.std.proofs.Common.{arith}
use Rattle.ode_gate.proofs.Spelling.{fields_spell}
use Rattle.ode_gate.proofs.header.Header.of_fields.Goals as goal

pub returns-clause-spells : goal.returns-clause-spells
returns-clause-spells c =
    fields_spell c.args.bytes.now _ (omega arith) c.in_ok-take_u32.ensures.spelled c.in_ok-take_u32-2.ensures.spelled c.in_ok-take_u64.ensures.spelled
    c.in_ok-take_u64-2.ensures.spelled c.in_ok-take_u64-3.ensures.spelled c.in_ok-take_u64-4.ensures.spelled c.in_ok-take_u64-5.ensures.spelled
