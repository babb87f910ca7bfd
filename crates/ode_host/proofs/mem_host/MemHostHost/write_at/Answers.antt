use Rattle.std.proofs.Common.{rules, ap, Some}
use Rattle.ode_host.proofs.MemViews.{elapses_of}
use Rattle.ode_host.proofs.mem_host.MemHostHost.write_at.Goals as goal

pub returns-in-Ok-clause-writes : goal.returns-in-Ok-clause-writes
returns-in-Ok-clause-writes c = record {
  keeps = search rules;
  text = ap Some c.write.ensures.text;
  time = elapses_of _ _ _ _ _ _ _ _ _ _ _ _ _ _ _ _ _ c.write.ensures.start c.write.ensures.time;
  written = search rules;
  fetched = search rules;
  print_faults = search rules;
}

pub returns-in-Ok-2-clause-writes : goal.returns-in-Ok-2-clause-writes
returns-in-Ok-2-clause-writes c = record {
  keeps = search rules;
  text = ap Some c.write.ensures.text;
  time = elapses_of _ _ _ _ _ _ _ _ _ _ _ _ _ _ _ _ _ c.write.ensures.start c.write.ensures.time;
  written = search rules;
  fetched = search rules;
  print_faults = search rules;
}
