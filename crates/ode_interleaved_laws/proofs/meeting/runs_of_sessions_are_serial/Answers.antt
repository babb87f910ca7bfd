use Rattle.ode_interleaved_laws.proofs.RunLaws.{run_serial}
use Rattle.ode_interleaved_laws.proofs.meeting.runs_of_sessions_are_serial.Goals as goal

pub returns : goal.returns
returns c speaks reads w well script = run_serial speaks reads w well script
