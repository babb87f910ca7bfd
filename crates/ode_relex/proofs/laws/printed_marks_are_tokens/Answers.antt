use Rattle.ode_relex.proofs.MarkTokens.{mark_token}
use Rattle.ode_relex.proofs.laws.printed_marks_are_tokens.Goals as goal

pub returns : goal.returns
returns c = mark_token
