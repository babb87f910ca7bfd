-- What the open sessions are, as the machine has them.
use Rattle.std.specs.Prelude.{◌==◌, ℕ, Bool, List, map}
use Rattle.ode_machine.specs.Interleaving.{Open, Taken}
use Rattle.ode_holders.specs.declared.opens.Open as code
use Rattle.ode_holders.specs.declared.opens.Taken as code_taken

abbrev pub taken_as : code_taken.Taken → Taken
taken_as t = record { literals = t.literals; checked = t.checked }

abbrev pub taken_all : List code_taken.Taken → List Taken
taken_all taken = map taken_as taken

abbrev pub open_as : code.Open → Open
open_as o = record {
  session = o.session;
  taken = taken_all o.taken;
  held = record { looked = o.looked; drew = o.drew; queued = o.met_queue };
}

abbrev pub opens_as : List code.Open → List Open
opens_as sessions = map open_as sessions

-- it is the session of this number
abbrev pub is_of : ℕ → code.Open → Bool
is_of n o = o.session == n

abbrev pub number_of : code.Open → ℕ
number_of o = o.session
