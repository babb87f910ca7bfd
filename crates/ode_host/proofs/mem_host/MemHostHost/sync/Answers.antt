use Rattle.std.proofs.Common.{rules, ap, Some, ◌∙◌, ◌≡◌}
use Rattle.ode_host.proofs.MemViews.{elapses_of}
use Rattle.ode_host.proofs.mem_host.MemHostHost.sync.Goals as goal

pub returns-in-Err-clause-looks : goal.returns-in-Err-clause-looks
returns-in-Err-clause-looks c = record {
  keeps = search rules;
  image = ap Some c.sync.ensures.image;
  text = ap Some c.sync.ensures.text;
  time = elapses_of _ _ _ _ _ _ _ _ _ _ _ _ _ _ _ _ _ c.sync.ensures.start c.sync.ensures.time;
  written = search rules;
  print_faults = search rules;
}

pub returns-in-Ok-clause-looks : goal.returns-in-Ok-clause-looks
returns-in-Ok-clause-looks c = record {
  keeps = search rules;
  image = ap Some c.sync.ensures.image;
  text = ap Some c.sync.ensures.text;
  time = elapses_of _ _ _ _ _ _ _ _ _ _ _ _ _ _ _ _ _ c.sync.ensures.start c.sync.ensures.time;
  written = search rules;
  print_faults = search rules;
}

pub returns-in-Ok-clause-durable : goal.returns-in-Ok-clause-durable
returns-in-Ok-clause-durable c file tells image out left =
    let same : c.args.self.now.tape.image.items ≡ file = cc (tells.image) in
    c.in-Ok.ensures.durable image out left ∙ c.sync.ensures.image ∙ same
