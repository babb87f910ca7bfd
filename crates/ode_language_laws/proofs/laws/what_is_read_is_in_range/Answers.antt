use Rattle.ode_language_laws.proofs.ReadRefs.{literals_are}
use Rattle.ode_language_laws.proofs.Seconds.{instants_fit}
use Rattle.ode_language_laws.proofs.laws.what_is_read_is_in_range.Goals as goal

pub returns-clause-literals : goal.returns-clause-literals
returns-clause-literals c piece s is = literals_are piece s is

pub returns-clause-instants : goal.returns-clause-instants
returns-clause-instants c text t is = instants_fit text t is
