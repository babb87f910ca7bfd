use Rattle.ode_eventsyn.proofs.Fronts.{longest_at}
use Rattle.ode_eventsyn.proofs.parser.parse_event.Goals as goal

pub returns-clause-ok : goal.returns-clause-ok
returns-clause-ok c = (
  c.in_ok-made.made,
  longest_at _ _ c.args.text.now c.args.tokens.now c.behind.result.now c.args.from c.in_ok-made.count c.place_behind.result c.in_ok-made.made
      c.behind.ensures c.in_ok-made.ensures.ok c.place_behind.ensures,
  c.into_event.ensures,
)
