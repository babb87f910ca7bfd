use Rattle.ode_relex.proofs.NumberTokens.{number_token}
use Rattle.ode_relex.proofs.laws.printed_numbers_are_tokens.Goals as goal

pub returns : goal.returns
returns c = number_token
