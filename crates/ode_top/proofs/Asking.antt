-- The number that the words of a call give to a script.
use Rattle.std.proofs.Common.{◌≡◌, ◌∙◌, ◌≤◌, ◌<◌, ◌^◌, ℕ, List, [], ◌∷◌, Bool, true, false, cond, Option, Some, None, ap, arith, refl, sym}
use Rattle.std.proofs.lemmas.Bool.Decides.{nat_tests}
use Rattle.std.proofs.lemmas.Fmt.{decimal_is_IsNumeral}
use Rattle.std.proofs.lemmas.Slice.Eq.{bytes_eq-Decides}
use Rattle.std.specs.Option.{option_map}
use Rattle.std.specs.Prelude.{◌&&◌, codes, nat_le}
use Rattle.std.specs.Str.{bytes_eq}
use Rattle.std.specs.Str.Parse.{digits_value}
use Rattle.ode_gen.specs.Generating.{gen_limit}
use Rattle.ode_questions.specs.declared.asked.Asked.{Asked}
use Rattle.ode_questions.specs.declared.asked.Asked.TheVariants.{Queries, Comparisons}
use Rattle.ode_value.specs.Decimal.{digits_of}
use Rattle.ode_top.specs.Answers.{Asks}
use Rattle.ode_begin.specs.Words.{is_file}
use Rattle.ode_top.specs.Calls.{call_of, mode_named, number_within, script_number}
use Rattle.ode_top.specs.declared.call.Mode.{Mode}
use Rattle.ode_top.specs.declared.call.Mode.TheVariants.{Init, Run, Check, Dump, Ask, Ship, Follow, Gen}

-- ---- a word that is read

at_test : {A : Type 0} (b : Bool) (o : Option A) (x : A) → cond b o None ≡ Some x → (b ≡ true) × (o ≡ Some x)
at_test true o x is = (refl, is)
at_test false o x is = absurd (cc (is))

-- digits that spell a number give it, where it is within the limit
pub number_reads : (word : List ℕ) (n : ℕ) → n < 2 ^ 64 → word ≡ digits_of n → script_number word ≡ cond (nat_le 1 n && nat_le n gen_limit) (Some n) None
unfolding script_number
number_reads word n small is =
    let value : digits_value 10 word ≡ n = ap (digits_value 10) is ∙ (decimal_is_IsNumeral n small).1 in
    let same : bytes_eq word (digits_of n) ≡ true = (bytes_eq-Decides word (digits_of n)).1 is in
    ap (number_within word) value ∙ ap (λ (b : Bool). cond b (cond (nat_le 1 n && nat_le n gen_limit) (Some n) None) None) same

-- and such that spell none give none
none_within : (word : List ℕ) (n : ℕ) (same low high : Bool) → bytes_eq word (digits_of n) ≡ same → nat_le n gen_limit ≡ high → (word ≡ digits_of n → n < 2 ^ 64 → ⊥)
    → cond same (cond (low && high) (Some n) None) None ≡ None
unfolding gen_limit
none_within word n false low high is_same is_high none = refl
none_within word n true false high is_same is_high none = refl
none_within word n true true false is_same is_high none = refl
none_within word n true true true is_same is_high none = absurd (none ((bytes_eq-Decides word (digits_of n)).0 is_same) (grind (arith, nat_tests)))

pub number_none : (word : List ℕ) → ((n : ℕ) → n < 2 ^ 64 → word ≡ digits_of n → ⊥) → None ≡ script_number word
unfolding script_number
number_none word none =
    let n : ℕ = digits_value 10 word in
    sym (none_within word n (bytes_eq word (digits_of n)) (nat_le 1 n) (nat_le n gen_limit) refl refl (λ is small. none n small is))

-- ---- the number is within the limit

below_limit : (m n : ℕ) (low high : Bool) → nat_le m gen_limit ≡ high → cond (low && high) (Some m) None ≡ Some n → n ≤ gen_limit
unfolding gen_limit
below_limit m n false high is found = absurd (cc (found))
below_limit m n true false is found = absurd (cc (found))
below_limit m n true true is found = let same : m ≡ n = cc (found) in grind (arith, nat_tests)

script_within : (word : List ℕ) (n : ℕ) → script_number word ≡ Some n → n ≤ gen_limit
unfolding script_number
script_within word n is =
    let m : ℕ = digits_value 10 word in
    below_limit m n (nat_le 1 m) (nat_le m gen_limit) refl (at_test (bytes_eq word (digits_of m)) (cond (nat_le 1 m && nat_le m gen_limit) (Some m) None) n is).1

no_gen : (n : ℕ) (a b c d e f g h : Bool)
    → cond a (Some Init) (cond b (Some Run) (cond c (Some Check) (cond d (Some Dump)
    (cond e (Some (Ask Queries)) (cond f (Some (Ask Comparisons)) (cond g (Some Ship) (cond h (Some Follow) None))))))) ≡ Some (Gen n) → ⊥
no_gen n true b c d e f g h is = cc (is)
no_gen n false true c d e f g h is = cc (is)
no_gen n false false true d e f g h is = cc (is)
no_gen n false false false true e f g h is = cc (is)
no_gen n false false false false true f g h is = cc (is)
no_gen n false false false false false true g h is = cc (is)
no_gen n false false false false false false true h is = cc (is)
no_gen n false false false false false false false true is = cc (is)
no_gen n false false false false false false false false is = cc (is)

-- the mode of what was asked for
abbrev mode_in : Option (Mode × List ℕ) → Option Mode
mode_in None = None
mode_in (Some call) = Some call.0

mapped_mode : (o : Option Mode) (file found : List ℕ) (n : ℕ) → option_map {U = Mode × List ℕ} (λ (m : Mode). (m, file)) o ≡ Some (Gen n, found) → o ≡ Some (Gen n)
mapped_mode None file found n is = absurd (cc (is))
mapped_mode (Some m) file found n is = ap mode_in is

mapped_number : (o : Option ℕ) (file found : List ℕ) (n : ℕ) → option_map {U = Mode × List ℕ} (λ (k : ℕ). (Gen k, file)) o ≡ Some (Gen n, found) → o ≡ Some n
mapped_number None file found n is = absurd (cc (is))
mapped_number (Some k) file found n is = let mode : Some (Gen k) ≡ Some (Gen n) = ap mode_in is in let same : k ≡ n = cc (mode) in ap Some same

pub asked_within : (words : List (List ℕ)) (n : ℕ) → Asks (Gen n) words → n ≤ gen_limit
asked_within [] n asks = absurd (cc (asks.1))
asked_within (mode ∷ []) n asks = absurd (cc (asks.1))
asked_within (mode ∷ file ∷ []) n asks =
    absurd
    (no_gen n (bytes_eq mode (codes "init")) (bytes_eq mode (codes "run")) (bytes_eq mode (codes "check")) (bytes_eq mode (codes "dump"))
    (bytes_eq mode (codes "query")) (bytes_eq mode (codes "same")) (bytes_eq mode (codes "ship")) (bytes_eq mode (codes "follow"))
    (mapped_mode (mode_named mode) file asks.0 n (at_test (is_file file) (option_map {U = Mode × List ℕ} (λ (m : Mode). (m, file)) (mode_named mode)) (Gen n, asks.0) asks.1).1))
asked_within (mode ∷ file ∷ number ∷ []) n asks =
    script_within number n
    (mapped_number (script_number number) file asks.0 n (at_test (bytes_eq mode (codes "gen") && is_file file) (option_map {U = Mode × List ℕ} (λ (k : ℕ). (Gen k, file)) (script_number number)) (Gen n, asks.0) asks.1).1)
asked_within (mode ∷ file ∷ number ∷ word ∷ words) n asks = absurd (cc (asks.1))

-- the questions that were asked are those that were read
pub questions_same : (words : List (List ℕ)) (asked other : Asked) (file : List ℕ) → call_of words ≡ Some (Ask asked, file) → Asks (Ask other) words → asked ≡ other
questions_same words asked other file is asks = let mode : Some (Ask asked) ≡ Some (Ask other) = ap mode_in (sym is ∙ asks.1) in cc (mode)

-- the number that was asked for is the one that was read
pub asked_same : (words : List (List ℕ)) (m n : ℕ) (file : List ℕ) → call_of words ≡ Some (Gen m, file) → Asks (Gen n) words → m ≡ n
asked_same words m n file is asks = let mode : Some (Gen m) ≡ Some (Gen n) = ap mode_in (sym is ∙ asks.1) in cc (mode)
