use Rattle.std.proofs.Common.{take, ◌∙◌}
use Rattle.ode_paging.proofs.Changed.{item_moves, present_more}
use Rattle.ode_paging.proofs.changing.make_room.Goals as goal

pub loop-key-preserved : goal.loop-key-preserved
loop-key-preserved c =
    let so_far = c.loop-key.invariant in
    let moves = c.args.moves.now in
    record {
      room = present_more moves c.loop-key.key-index _ c.loop-key-test.true c.room_for.new.leads.entries
          (c.in_ok-room_for.ensures.kept (take c.loop-key.key-index moves) so_far.room) c.in_ok-room_for.ensures.room;
      same = c.in_ok-room_for.ensures.same moves (item_moves moves c.loop-key.key-index _ c.loop-key-test.true) ∙ so_far.same;
      back = λ old before. c.in_ok-room_for.ensures.back old (so_far.back old before);
    }
