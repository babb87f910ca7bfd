use Rattle.std.proofs.Common.{◌-◌, ◌+◌, arith, append_assoc}
use Rattle.std.proofs.lemmas.Grind.{common_steps}
use Rattle.std.specs.Prelude.{◌/◌}
use Rattle.ode_gen.specs.Generating.{call_line, lines_from}
use Rattle.ode_gen.proofs.Steps.{next_line, no_lines}
use Rattle.ode_gen.proofs.generation.put_calls.Goals as goal

pub loop-done-preserved : goal.loop-done-preserved
loop-done-preserved c =
    let next = next_line c.args.count c.loop-done.done c.loop-done.last c.drawn-last.result c.loop-done-test.true c.drawn-last.ensures.next in
    let regrouped = append_assoc c.loop-done.text.items (call_line (c.drawn-last.result / 65536)) (lines_from (c.args.count - (c.loop-done.done + 1)) c.drawn-last.result) in
    record {
      lines = cc (next, regrouped, c.in_ok-put_call.ensures);
      small = omega (arith, c.drawn-last.ensures.bound);
    }

pub returns : goal.returns
returns c =
    let none = no_lines c.args.count c.loop-done.done c.loop-done.last c.loop-done-test.false in
    grind (arith, common_steps, none)
