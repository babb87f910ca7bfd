use Rattle.ode_lex.proofs.Digits.{digits_in_front}
use Rattle.ode_lex.proofs.number.numeral_at.Goals as goal

pub number_of-requires : goal.number_of-requires
number_of-requires c = rw c.digit_count-length.ensures (digits_in_front c.args.bytes.now)
