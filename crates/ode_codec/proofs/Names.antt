-- A name is a text.
use Rattle.std.proofs.Common.{◌≡◌, ℕ, ◌+◌, List, [], ◌∷◌, Bool, true, false, not, cond, nat_lt, length, Option, Some, None, refl, sym, ap, ◌∙◌, arith}
use Rattle.std.specs.Prelude.{◌&&◌, nat_le, position}
use Rattle.std.specs.List.{position_from}
use Rattle.std.specs.Option.{is_none}
use Rattle.std.proofs.lemmas.Bool.Decides.{nat_tests}
use Rattle.std.proofs.lemmas.Iterator.Adapters.{position_from-zero}
use Rattle.ode_value.specs.Limits.{name_limit}
use Rattle.ode_value.specs.Text.{IsText, is_bad_byte, is_name, is_name_byte}

-- what no name has
strange : ℕ → Bool
strange b = not (is_name_byte b)

good_byte : (b : ℕ) → strange b ≡ false → is_bad_byte b ≡ false
unfolding strange
good_byte b name = grind (arith, nat_tests)

some_is : (b : Bool) (k : ℕ) (rest : Option ℕ) → cond b (Some k) rest ≡ None → (b ≡ false) × (rest ≡ None)
some_is true k rest h = absurd (cc)
some_is false k rest h = (refl, h)

none_bad : (bs : List ℕ) (k : ℕ) → position_from strange k bs ≡ None → position_from is_bad_byte k bs ≡ None
none_bad [] k none = refl
none_bad (b ∷ bs) k none =
    let parts = some_is (strange b) k (position_from strange (k + 1) bs) none in
    ap (λ t. cond t (Some k) (position_from is_bad_byte (k + 1) bs)) (good_byte b parts.0) ∙ none_bad bs (k + 1) parts.1

pub all_three : (a b c : Bool) → (a && (b && c)) ≡ true → (a ≡ true) × (b ≡ true) × (c ≡ true)
all_three true true c h = (refl, refl, h)
all_three true false c h = absurd (cc)
all_three false b c h = absurd (cc)

none_there : (o : Option ℕ) → is_none o ≡ true → o ≡ None
none_there None h = refl
none_there (Some n) h = absurd (cc)

pub name_text : (bs : List ℕ) → is_name bs ≡ true → IsText bs
unfolding strange
name_text bs is =
    let parts = all_three (nat_lt 0 (length bs)) (nat_le (length bs) name_limit) (is_none (position (λ b. not (is_name_byte b)) bs)) is in
    let short : nat_le (length bs) name_limit ≡ true = parts.1 in
    let none : position_from strange 0 bs ≡ None = sym (position_from-zero (λ b. not (is_name_byte b)) bs) ∙ none_there (position (λ b. not (is_name_byte b)) bs) parts.2 in
    record { short = grind (arith, nat_tests); each = position_from-zero is_bad_byte bs ∙ none_bad bs 0 none }

choice : (b : Bool) (bs : List ℕ) → (b ≡ true → ⊥) → cond b (Some bs) None ≡ None
choice true bs h = absurd (h refl)
choice false bs h = refl

pub no_name : (bs : List ℕ) → (IsText bs → ⊥) → cond (is_name bs) (Some bs) None ≡ None
no_name bs h = choice (is_name bs) bs (λ is. h (name_text bs is))
