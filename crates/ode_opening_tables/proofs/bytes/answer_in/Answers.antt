use Rattle.std.proofs.Common.{[], ◌∷◌, ap, sym, arith, ℕ}
use Rattle.ode_opening_tables.proofs.Spelled.{no_answer}
use Rattle.ode_opening_tables.proofs.bytes.answer_in.Goals as goal

pub returns-in-0 : goal.returns-in-0
returns-in-0 c = ap (λ (n : ℕ). n ∷ []) (sym c.in-0.is)

pub returns-in-1 : goal.returns-in-1
returns-in-1 c = ap (λ (n : ℕ). n ∷ []) (sym c.in-1.is)

pub returns-in_default : goal.returns-in_default
returns-in_default c = no_answer c.args.byte (λ is. omega (arith, is)) (λ is. omega (arith, is))
