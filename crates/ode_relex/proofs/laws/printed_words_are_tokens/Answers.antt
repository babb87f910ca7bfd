use Rattle.ode_relex.proofs.WordTokens.{word_token}
use Rattle.ode_relex.proofs.laws.printed_words_are_tokens.Goals as goal

pub returns : goal.returns
returns c = word_token
