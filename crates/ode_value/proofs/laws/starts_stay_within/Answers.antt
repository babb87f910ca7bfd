use Rattle.std.proofs.Common.{[], ◌∷◌, arith, length-append}
use Rattle.ode_value.proofs.laws.starts_stay_within.Goals as goal

pub returns-clause-first : goal.returns-clause-first
returns-clause-first c h = record { whole = omega arith; committed = omega arith }

pub returns-clause-point : goal.returns-clause-point
returns-clause-point c h start p within = record {
  whole = omega (arith, within.whole, length-append h.whole (p ∷ []));
  committed = omega (arith, within.committed, length-append h.committed (p ∷ []));
}

pub returns-clause-whole_point : goal.returns-clause-whole_point
returns-clause-whole_point c h start p within = record { whole = omega (arith, within.whole, length-append h.whole (p ∷ [])); committed = within.committed }

pub returns-clause-abort : goal.returns-clause-abort
returns-clause-abort c first now start within longer = record { whole = omega (arith, within.whole, longer); committed = within.committed }
