use Rattle.std.proofs.Common.{sym, ◌∙◌}
use Rattle.ode_syntax.proofs.Readings.{skip_step}
use Rattle.ode_syntax.proofs.reader.advance.Goals as goal

pub loop-item-preserved : goal.loop-item-preserved
loop-item-preserved c =
    let s = skip_step c.pop.new.self c.loop-item.items c.in-Some.item c.in-Part.part c.in-Some-skipped.action c.loop-item.made c.build-in-Some-skipped.new.self
    (record { terminal = c.args.terminal; kind = c.args.kind; bytes = c.args.bytes.now })
    c.in-Some.ensures.some c.in-Part.is c.in-None.ensures.none (sym c.skipped.ensures ∙ c.in-Some-skipped.is) c.in_ok-build-in-Some-skipped.ensures in
    record {
      next = s.next_same ∙ c.loop-item.invariant.next;
      made = s.made_same ∙ c.loop-item.invariant.made;
    }
