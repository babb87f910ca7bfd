-- The numbers of the statuses.
use Rattle.std.specs.Prelude.{ℕ}
use Rattle.ode_host.specs.declared.status.Status.{Status}
use Rattle.ode_host.specs.declared.status.Status.TheVariants.{Ok, Refused, Usage, BadFile, DiskFault, ReadFault, WriteFault, Memory, LongStatement, LongScript}

abbrev pub code_of : Status → ℕ
code_of Ok = 0
code_of Refused = 1
code_of Usage = 2
code_of BadFile = 3
code_of DiskFault = 4
code_of ReadFault = 5
code_of WriteFault = 6
code_of Memory = 7
code_of LongStatement = 8
code_of LongScript = 9
