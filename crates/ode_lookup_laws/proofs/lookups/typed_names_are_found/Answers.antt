use Rattle.ode_lookup_laws.proofs.Finding as laws
use Rattle.ode_lookup_laws.proofs.lookups.typed_names_are_found.Goals as goal

pub returns-clause-method : goal.returns-clause-method
returns-clause-method c b at frame h call s typed r received o there = laws.method_found b at frame h call s typed r received o there

pub returns-clause-trigger : goal.returns-clause-trigger
returns-clause-trigger c b at frame h e name args s typed r received o there = laws.trigger_found b at frame h e name args s typed r received o there

pub returns-clause-class : goal.returns-clause-class
returns-clause-class c b at frame h name sets s typed = laws.class_found b at frame h name sets s typed

pub returns-clause-field : goal.returns-clause-field
returns-clause-field c b at frame h place r set v is = laws.field_found b at frame h place r set v is

pub returns-clause-local : goal.returns-clause-local
returns-clause-local c b at frame h place r set = laws.local_found b at frame h place r set

pub returns-clause-entry : goal.returns-clause-entry
returns-clause-entry c b e fits = laws.entry_found b e fits
