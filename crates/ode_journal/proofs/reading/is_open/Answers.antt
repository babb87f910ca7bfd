use Rattle.std.proofs.Common.{List, ℕ, nat_eq, slice_index_or}
use Rattle.std.proofs.lemmas.Bool.{OnFalse_from, OnTrue_at, OnTrue_from}
use Rattle.ode_gate.specs.declared.gate.TheConstants.{OPEN}
use Rattle.ode_journal.specs.Ahead.{TellsAhead}
use Rattle.ode_journal.specs.Frames.{HasGate, IsShut}
use Rattle.ode_journal.proofs.Ahead.{gate_read, is_gate, no_gate}
use Rattle.ode_journal.proofs.reading.is_open.Goals as goal

pub returns-clause-opened : goal.returns-clause-opened
returns-clause-opened g c =
    let to = c.read_exact.new.to in
    OnTrue_from (nat_eq (slice_index_or to 0 0) 165) ((file : List ℕ) → TellsAhead (g.H.Host.view c.args.host.now) c.args.ahead.now file → HasGate c.args.at OPEN file)
    (λ yes file reads.
    rw (← is_gate (slice_index_or to 0 0) 165 yes) (gate_read c.args.at to file c.read_exact.auto.to (OnTrue_at c.if-not-branch.false c.in_ok-read_exact.ensures.bytes file reads)))

pub returns-clause-shut : goal.returns-clause-shut
returns-clause-shut g c =
    let to = c.read_exact.new.to in
    OnFalse_from (nat_eq (slice_index_or to 0 0) 165) ((file : List ℕ) → TellsAhead (g.H.Host.view c.args.host.now) c.args.ahead.now file → IsShut c.args.end c.args.at file)
    (λ no file reads.
    record {
      within = c.if-at-end.false;
      gate = slice_index_or to 0 0;
      shut = no_gate (slice_index_or to 0 0) 165 no;
      stands = gate_read c.args.at to file c.read_exact.auto.to (OnTrue_at c.if-not-branch.false c.in_ok-read_exact.ensures.bytes file reads);
    })
