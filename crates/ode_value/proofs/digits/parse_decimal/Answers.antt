use Rattle.std.proofs.Common.{◌≡◌, ℕ, ◌<◌, ◌^◌, refl, subst, sym}
use Rattle.ode_value.specs.Decimal.{digits_of, BeginsAsNumber}
use Rattle.ode_value.proofs.Decimals.{number_begins, reads}
use Rattle.ode_value.proofs.digits.parse_decimal.Goals as goal

spells_none : (c : goal.Then-not-begins_as_number) (n : ℕ) → n < 2 ^ 64 → c.args.digits.now ≡ digits_of n → ⊥
spells_none c n small e =
    absurd (cc (c.if-not-begins_as_number.ensures.1 (subst BeginsAsNumber (sym e) (number_begins n small))))

pub returns-then-not-begins_as_number-clause-none : goal.returns-then-not-begins_as_number-clause-none
returns-then-not-begins_as_number-clause-none c = spells_none c

pub returns-then-not-begins_as_number-clause-reads : goal.returns-then-not-begins_as_number-clause-reads
returns-then-not-begins_as_number-clause-reads c = λ n small e. absurd (spells_none c n small e)

pub returns-clause-found : goal.returns-clause-found
returns-clause-found c = (reads _ _ (c.if-not-begins_as_number.ensures.0 refl) c.value_of.ensures).found

pub returns-clause-none : goal.returns-clause-none
returns-clause-none c = (reads _ _ (c.if-not-begins_as_number.ensures.0 refl) c.value_of.ensures).none

pub returns-clause-reads : goal.returns-clause-reads
returns-clause-reads c = (reads _ _ (c.if-not-begins_as_number.ensures.0 refl) c.value_of.ensures).reads
