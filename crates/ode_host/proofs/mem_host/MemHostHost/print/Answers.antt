use Rattle.std.proofs.Common.{rules, ap, Some}
use Rattle.ode_host.proofs.MemViews.{elapses_of}
use Rattle.ode_host.proofs.mem_host.MemHostHost.print.Goals as goal

pub returns-in-Ok-clause-prints : goal.returns-in-Ok-clause-prints
returns-in-Ok-clause-prints c = record {
  keeps = search rules;
  image = ap Some c.print.ensures.image;
  time = elapses_of _ _ _ _ _ _ _ _ _ _ _ _ _ _ _ _ _ c.print.ensures.start c.print.ensures.time;
  written = search rules;
  fetched = search rules;
  disk_faults = search rules;
}

pub returns-in-Err-clause-prints : goal.returns-in-Err-clause-prints
returns-in-Err-clause-prints c = record {
  keeps = search rules;
  image = ap Some c.print.ensures.image;
  time = elapses_of _ _ _ _ _ _ _ _ _ _ _ _ _ _ _ _ _ c.print.ensures.start c.print.ensures.time;
  written = search rules;
  fetched = search rules;
  disk_faults = search rules;
}
