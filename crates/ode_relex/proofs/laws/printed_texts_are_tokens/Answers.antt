use Rattle.ode_relex.proofs.TextTokens.{text_token}
use Rattle.ode_relex.proofs.laws.printed_texts_are_tokens.Goals as goal

pub returns : goal.returns
returns c = text_token
