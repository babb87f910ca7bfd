-- What operators make of values that fit.
use Rattle.std.proofs.Common.{◌≡◌, ℕ, ◌+◌, ◌≤◌, ℤ, pos, negsuc, Bool, true, false, cond, not, List, [], ◌∷◌, ◌++◌, length, Option, Some, None, Result, Ok, Err, refl, sym, ap, ◌∙◌, subst, arith}
use Rattle.std.specs.Prelude.{FitsSigned, nat_le, ◌&&◌, ◌-ℤ◌, ◌+ℤ◌, ◌*ℤ◌, int_le, int_div, int_rem, is_ok, is_none, position}
use Rattle.std.specs.Cmp.Lexicographic.{slice_cmp}
use Rattle.std.specs.Int.{w64}
use Rattle.std.specs.List.{position_from}
use Rattle.std.specs.Ordering.{nat_cmp, int_cmp, int_eq}
use Rattle.std.specs.declared.cmp.Ordering.{Ordering}
use Rattle.std.proofs.lemmas.Bool.{leb-true, and_parts}
use Rattle.std.proofs.lemmas.Iterator.Adapters.{position_from-zero}
use Rattle.ode_value.specs.declared.arithmetic.Fault.{Fault}
use Rattle.ode_value.specs.declared.arithmetic.Fault.TheVariants.{Overflow, DivideByZero}
use Rattle.ode_value.specs.declared.operator.BinOp.{BinOp}
use Rattle.ode_value.specs.declared.operator.BinOp.TheVariants.{Add, Sub, Mul, Div, Eq, Ne, Lt, Le, Gt, Ge}
use Rattle.ode_value.specs.declared.value.Value.{Value}
use Rattle.ode_value.specs.declared.value.Value.TheVariants as value
use Rattle.ode_value.specs.Arithmetic.{within, by, is_arithmetic, int_result}
use Rattle.ode_value.specs.Evaluation.{joined}
use Rattle.ode_value.specs.Limits.{text_limit}
use Rattle.ode_value.specs.Operators.{truth, int_value, compared, matched, binary_value}
use Rattle.ode_value.specs.Same.{same_bool, same_ref}
use Rattle.ode_value.specs.Text.{IsText, is_bad_byte}
use Rattle.ode_sound_laws.proofs.Basics.{same_ok}

-- ---- ints

abbrev bounds : ℤ → Bool
bounds z = int_le (negsuc 9223372036854775807) z && int_le z (pos 9223372036854775807)

bounded : (z : ℤ) → bounds z ≡ true → FitsSigned w64 z
bounded (pos n) e = let parts = and_parts (int_le (negsuc 9223372036854775807) (pos n)) (int_le (pos n) (pos 9223372036854775807)) e in
    record { sfits = let less : n ≤ 9223372036854775807 = leb-true n 9223372036854775807 parts.1 in omega arith }
bounded (negsuc n) e = let parts = and_parts (int_le (negsuc 9223372036854775807) (negsuc n)) (int_le (negsuc n) (pos 9223372036854775807)) e in
    record { sfits = let less : n ≤ 9223372036854775807 = leb-true n 9223372036854775807 parts.0 in omega arith }

pub within_fits : (z n : ℤ) → within z ≡ Ok n → (n ≡ z) × FitsSigned w64 n
within_fits z n e = by_test (bounds z) refl e where
  by_test : (b : Bool) → bounds z ≡ b → cond b (Ok z) (Err Overflow) ≡ Ok n → (n ≡ z) × FitsSigned w64 n
  by_test true h f = let same : z ≡ n = same_ok z n f in (sym same, subst (FitsSigned w64) same (bounded z h))
  by_test false h f = absurd (cc)

pub is_int_fits : (z : ℤ) → is_ok (within z) ≡ true → FitsSigned w64 z
is_int_fits z e = by_test (bounds z) refl e where
  by_test : (b : Bool) → bounds z ≡ b → is_ok (cond b (Ok z) (Err Overflow)) ≡ true → FitsSigned w64 z
  by_test true h f = bounded z h
  by_test false h f = absurd (cc)

by_fits : (d z n : ℤ) → by d z ≡ Ok n → FitsSigned w64 n
by_fits d z n e = by_test (int_eq d (pos 0)) e where
  by_test : (b : Bool) → cond b (Err DivideByZero) (within z) ≡ Ok n → FitsSigned w64 n
  by_test true f = absurd (cc)
  by_test false f = (within_fits z n f).1

result_fits : (op : BinOp) (a b n : ℤ) → int_result op a b ≡ Ok n → FitsSigned w64 n
result_fits Add a b n e = (within_fits (a +ℤ b) n e).1
result_fits Sub a b n e = (within_fits (a -ℤ b) n e).1
result_fits Mul a b n e = (within_fits (a *ℤ b) n e).1
result_fits Div a b n e = by_fits b (int_div a b) n e
result_fits _ a b n e = by_fits b (int_rem a b) n e

-- a value is an int that fits; it is a bool
abbrev pub IsInt : Value → Type 0
IsInt (value.Int n) = FitsSigned w64 n
IsInt _ = ⊥

abbrev pub IsBool : Value → Type 0
IsBool (value.Bool b) = Unit {0}
IsBool _ = ⊥

abbrev pub IsTextValue : Value → Type 0
IsTextValue (value.Text t) = IsText t
IsTextValue _ = ⊥

int_ok : (r : Result ℤ Fault) (u : Value) → ((n : ℤ) → r ≡ Ok n → FitsSigned w64 n) → int_value r ≡ Ok u → IsInt u
int_ok (Ok n) u fits e = subst IsInt (same_ok (value.Int n) u e) (fits n refl)
int_ok (Err fault) u fits e = absurd (cc)

truth_ok : (b : Bool) (u : Value) → truth b ≡ Ok u → IsBool u
truth_ok b u e = subst IsBool (same_ok (value.Bool b) u e) tt

pub minus_fits : (n : ℤ) (u : Value) → int_value (int_result Sub (pos 0) n) ≡ Ok u → IsInt u
minus_fits n u e = int_ok (int_result Sub (pos 0) n) u (λ m f. result_fits Sub (pos 0) n m f) e

pub not_fits : (b : Bool) (u : Value) → truth (not b) ≡ Ok u → IsBool u
not_fits b u e = truth_ok (not b) u e

pub sum_fits : (op : BinOp) → is_arithmetic op ≡ true → (m n : ℤ) (u : Value) → binary_value op (value.Int m) (value.Int n) ≡ Ok u → IsInt u
sum_fits op is m n u e =
    int_ok (int_result op m n) u (λ k f. result_fits op m n k f)
    (ap (λ b. cond b (int_value (int_result op m n)) (compared op (int_cmp m n))) (sym is) ∙ e)

-- a comparison gives a bool
compared_fits : (op : BinOp) (order : Ordering) (u : Value) → compared op order ≡ Ok u → IsBool u
compared_fits Eq order u e = truth_ok _ u e
compared_fits Ne order u e = truth_ok _ u e
compared_fits Lt order u e = truth_ok _ u e
compared_fits Le order u e = truth_ok _ u e
compared_fits Gt order u e = truth_ok _ u e
compared_fits Ge order u e = truth_ok _ u e
compared_fits _ order u e = absurd (cc)

matched_fits : (op : BinOp) (same : Bool) (u : Value) → matched op same ≡ Ok u → IsBool u
matched_fits Eq same u e = truth_ok same u e
matched_fits Ne same u e = truth_ok (not same) u e
matched_fits _ same u e = absurd (cc)

pub test_fits : (op : BinOp) → is_arithmetic op ≡ false → (v w u : Value) → binary_value op v w ≡ Ok u → IsBool u
test_fits op is (value.Int m) (value.Int n) u e =
    compared_fits op (int_cmp m n) u (ap (λ b. cond b (int_value (int_result op m n)) (compared op (int_cmp m n))) (sym is) ∙ e)
test_fits op is (value.Text s) (value.Text t) u e = compared_fits op (slice_cmp nat_cmp s t) u e
test_fits op is (value.Bool b) (value.Bool c) u e = matched_fits op (same_bool b c) u e
test_fits op is (value.Reference r) (value.Reference s) u e = matched_fits op (same_ref r s) u e
test_fits op is _ _ u e = absurd (cc)

-- ---- texts

-- no byte of two texts is bad where none of each is
some_is : (b : Bool) (k : ℕ) (rest : Option ℕ) → cond b (Some k) rest ≡ None → (b ≡ false) × (rest ≡ None)
some_is true k rest e = absurd (cc)
some_is false k rest e = (refl, e)

none_from : (t : List ℕ) (j k : ℕ) → position_from is_bad_byte j t ≡ None → position_from is_bad_byte k t ≡ None
none_from [] j k e = refl
none_from (b ∷ t) j k e =
    let parts = some_is (is_bad_byte b) j (position_from is_bad_byte (j + 1) t) e in
    ap (λ x. cond x (Some k) (position_from is_bad_byte (k + 1) t)) parts.0 ∙ none_from t (j + 1) (k + 1) parts.1

from_append : (s t : List ℕ) (k : ℕ) → position_from is_bad_byte k s ≡ None → position_from is_bad_byte 0 t ≡ None → position_from is_bad_byte k (s ++ t) ≡ None
from_append [] t k one two = none_from t 0 k two
from_append (b ∷ s) t k one two =
    let parts = some_is (is_bad_byte b) k (position_from is_bad_byte (k + 1) s) one in
    ap (λ x. cond x (Some k) (position_from is_bad_byte (k + 1) (s ++ t))) parts.0 ∙ from_append s t (k + 1) parts.1 two

position_append : (s t : List ℕ) → position is_bad_byte s ≡ None → position is_bad_byte t ≡ None → position is_bad_byte (s ++ t) ≡ None
position_append s t one two =
    position_from-zero is_bad_byte (s ++ t) ∙ from_append s t 0 (sym (position_from-zero is_bad_byte s) ∙ one) (sym (position_from-zero is_bad_byte t) ∙ two)

pub joined_fits : (s t : List ℕ) (u : Value) → IsText s → IsText t → joined (s ++ t) ≡ Ok u → IsTextValue u
joined_fits s t u one two e = by_test (nat_le (length (s ++ t)) text_limit) refl e where
  by_test : (b : Bool) → nat_le (length (s ++ t)) text_limit ≡ b → cond b (Ok (value.Text (s ++ t))) (Err Overflow) ≡ Ok u → IsTextValue u
  by_test true h f =
      subst IsTextValue (same_ok (value.Text (s ++ t)) u f) (record { short = leb-true (length (s ++ t)) text_limit h; each = position_append s t one.each two.each })
  by_test false h f = absurd (cc)

none_is : {X : Type 0} (o : Option X) → is_none o ≡ true → o ≡ None
none_is None e = refl
none_is (Some x) e = absurd (cc)

pub is_text_fits : (t : List ℕ) → (nat_le (length t) text_limit && is_none (position is_bad_byte t)) ≡ true → IsText t
is_text_fits t e =
    let parts = and_parts (nat_le (length t) text_limit) (is_none (position is_bad_byte t)) e in
    record { short = leb-true (length t) text_limit parts.0; each = none_is (position is_bad_byte t) parts.1 }
