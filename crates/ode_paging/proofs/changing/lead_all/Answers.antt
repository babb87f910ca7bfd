use Rattle.ode_paging.proofs.Changed.{ahead_more, item_present, rest_rising, still_ordered, still_present}
use Rattle.ode_paging.proofs.changing.lead_all.Goals as goal

pub lead_one-requires : goal.lead_one-requires
lead_one-requires c = item_present c.args.moves.now c.loop-key.key-index _ c.loop-key-test.true c.loop-key.leads.entries c.loop-key.invariant.present

pub loop-key-preserved : goal.loop-key-preserved
loop-key-preserved c =
    let so_far = c.loop-key.invariant in
    let leads = c.loop-key.leads.entries in
    let after = c.lead_one.new.leads.entries in
    record {
      ahead = ahead_more c.args.moves.now c.loop-key.key-index _ c.loop-key-test.true leads after so_far.rising so_far.order c.lead_one.ensures _ so_far.ahead;
      present = still_present c.args.moves.now c.loop-key.key-index _ c.loop-key-test.true leads after so_far.rising so_far.order c.lead_one.ensures so_far.present;
      rising = rest_rising c.args.moves.now c.loop-key.key-index _ c.loop-key-test.true leads after so_far.rising so_far.order c.lead_one.ensures;
      order = still_ordered c.args.moves.now c.loop-key.key-index _ c.loop-key-test.true leads after so_far.rising so_far.order c.lead_one.ensures;
    }
