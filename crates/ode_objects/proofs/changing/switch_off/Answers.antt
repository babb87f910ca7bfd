use Rattle.std.proofs.Common.{arith, ap, set, ◌∙◌}
use Rattle.std.proofs.lemmas.List.{length-set}
use Rattle.std.proofs.lemmas.List.Edits.{map_over_more}
use Rattle.ode_objects.specs.Objects.{turned_off}
use Rattle.ode_objects.proofs.changing.switch_off.Goals as goal

pub loop-i-preserved : goal.loop-i-preserved
loop-i-preserved c =
    let ys = c.loop-i.activations.items in
    let i = c.loop-i.i in
    record {
      length = length-set ys i c.turn_off.new.active ∙ c.loop-i.invariant.length;
      items = ap (set ys i) c.turn_off.ensures
          ∙ map_over_more (turned_off c.args.number) c.args.activations.now.items ys i c.index_mut.result.now (omega arith) c.loop-i.invariant.items c.index_mut.ensures.value;
    }
