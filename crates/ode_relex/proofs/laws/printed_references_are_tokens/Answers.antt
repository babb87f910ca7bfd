use Rattle.ode_relex.proofs.ReferenceTokens.{reference_token}
use Rattle.ode_relex.proofs.laws.printed_references_are_tokens.Goals as goal

pub returns : goal.returns
returns c = reference_token
