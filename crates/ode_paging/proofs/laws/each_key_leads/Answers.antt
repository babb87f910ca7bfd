use Rattle.ode_paging.proofs.Led.{opened_lacks, opened_leads}
use Rattle.ode_paging.proofs.laws.each_key_leads.Goals as goal

pub returns-clause-there : goal.returns-clause-there
returns-clause-there c header file opened entries key page opens there = opened_leads header file opened entries opens key page there

pub returns-clause-nowhere : goal.returns-clause-nowhere
returns-clause-nowhere c header file opened entries key opens none = opened_lacks header file opened entries opens key none
