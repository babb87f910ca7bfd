-- What a comparison comes to, by what is known of the words on which two expressions differ.
use Rattle.std.proofs.Common.{◌≡◌, ◌≢◌, ℕ, zero, suc, ◌+◌, ◌<◌, ◌≤◌, Bool, true, false, cond, List, [], ◌∷◌, length, refl, sym, ap, ◌∙◌, arith, inl, inr, ◌⊎◌, Option, Some, None, Ok, Err}
use Rattle.std.specs.Prelude.{All, not, min, ◌==◌, ◌&&◌, codes, is_some, nat_lt, option_map}
use Rattle.std.specs.Option.{option_map_or}
use Rattle.std.proofs.lemmas.Bool.{and_from, cases_lt, eq-eqb, false≢true, le-ltb, lt-ltb, or_left, or_right}
use Rattle.std.proofs.lemmas.List.Elements.{All-cons, All-head, All-nil, All-tail}
use Rattle.ode_value.specs.Answers.{Answer, ◌>>=◌, ◌>>◌, refuses}
use Rattle.ode_value.specs.declared.event.EventExpr.{EventExpr}
use Rattle.ode_value.specs.declared.reason.Refusal.{Refusal}
use Rattle.ode_value.specs.declared.reason.Refusal.TheVariants as refusal
use Rattle.ode_value.specs.Limits.{counted_symbols, state_limit, symbol_limit}
use Rattle.ode_value.specs.Symbols.{alphabet, symbol_count}
use Rattle.ode_walk.specs.Relation.{is_lower}
use Rattle.ode_same.specs.declared.error.SameError.{SameError}
use Rattle.ode_same.specs.declared.error.SameError.TheVariants.{Memory, TooManySymbols, TooManyStates}
use Rattle.ode_same.specs.declared.verdict.Verdict.{Verdict}
use Rattle.ode_same.specs.declared.verdict.Verdict.TheVariants.{Same, Differs}
use Rattle.ode_same.specs.Comparing.{compared, comparison_text, few_first, few_second, few_symbols, first_found, first_word, least_word, one_fires, verdict_of}
use Rattle.ode_same.specs.Differing.{Differ, IsAllowed, IsCause, IsLeast, IsVerdict, either, fires_at, longest_word, states_over}
use Rattle.ode_same.specs.Parts.{IsToldAs}
use Rattle.ode_same.specs.Texts.{verdict_text}

-- ---- the first number at which something is found

module _ {A : Type 0} (find : ℕ → Option A) where
  found_end : (from : ℕ) → first_found find from zero ≡ None
  unfolding first_found
  found_end from = refl

  found_here : (from more : ℕ) (x : A) → find from ≡ Some x → first_found find from (suc more) ≡ Some x
  unfolding first_found
  found_here from more x is = ap (λ o. cond (is_some o) o (first_found find (from + 1) more)) is

  found_later : (from more : ℕ) → find from ≡ None → first_found find from (suc more) ≡ first_found find (from + 1) more
  unfolding first_found
  found_later from more is = ap (λ o. cond (is_some o) o (first_found find (from + 1) more)) is

  found_none : (from more : ℕ) → ((k : ℕ) → from ≤ k → k < from + more → find k ≡ None) → first_found find from more ≡ None
  found_none from zero none = found_end from
  found_none from (suc more) none = found_later from more (none from (omega arith) (omega arith)) ∙ found_none (from + 1) more (λ k low high. none k (omega arith) (omega arith))

  found_at : (x : A) (from more k : ℕ) → from ≤ k → k < from + more → find k ≡ Some x → ((j : ℕ) → from ≤ j → j < k → find j ≡ None) → first_found find from more ≡ Some x
  found_at x from zero k low high is none = absurd (omega arith)
  found_at x from (suc more) k low high is none =
      by (cases_lt from k) (λ before. found_later from more (none from (omega arith) before) ∙ found_at x (from + 1) more k (omega arith) (omega arith) is (λ j after less. none j (omega arith) less)) where
        by : (from < k) ⊎ (k ≤ from) → (from < k → first_found find from (suc more) ≡ Some x) → first_found find from (suc more) ≡ Some x
        by (inl before) later = later before
        by (inr after) later = let here : from ≡ k = omega arith in found_here from more x (ap find here ∙ is)

-- ---- the first word of a length

abbrev pub found_behind : ℕ → (List ℕ → Bool) → ℕ → ℕ → Option (List ℕ)
found_behind symbols test more s = option_map (λ word. s ∷ word) (first_word symbols (λ word. test (s ∷ word)) more)

pub word_empty : (symbols : ℕ) (test : List ℕ → Bool) (b : Bool) → test [] ≡ b → first_word symbols test zero ≡ cond b (Some []) None
unfolding first_word
word_empty symbols test b is = ap (λ b. cond b (Some []) None) is

pub word_more : (symbols : ℕ) (test : List ℕ → Bool) (more : ℕ) → first_word symbols test (suc more) ≡ first_found (found_behind symbols test more) 0 symbols
unfolding first_word
word_more symbols test more = refl

word_none : (symbols : ℕ) (test : List ℕ → Bool) (n : ℕ) → ((word : List ℕ) → length word ≡ n → All (λ s. s < symbols) word → test word ≡ false) → first_word symbols test n ≡ None
word_none symbols test zero none = word_empty symbols test false (none [] refl (All-nil (λ s. s < symbols)))
word_none symbols test (suc more) none =
    word_more symbols test more
    ∙ found_none (found_behind symbols test more) 0 symbols
    (λ s low high. ap (option_map (λ word. s ∷ word)) (word_none symbols (λ word. test (s ∷ word)) more (λ word long all. none (s ∷ word) (omega arith) (All-cons (λ x. x < symbols) s word (omega arith) all))))

-- words behind one symbol, and behind a lower one
lower_behind : (x : ℕ) (other word : List ℕ) → is_lower other word ≡ true → is_lower (x ∷ other) (x ∷ word) ≡ true
lower_behind x other word low = or_right (nat_lt x x) (x == x && is_lower other word) (and_from (x == x) (is_lower other word) (eq-eqb x x refl) low)

lower_before : (s x : ℕ) (other word : List ℕ) → s < x → is_lower (s ∷ other) (x ∷ word) ≡ true
lower_before s x other word less = or_left (nat_lt s x) (s == x && is_lower other word) (lt-ltb s x less)

word_some : (symbols : ℕ) (test : List ℕ → Bool) (n : ℕ) (word : List ℕ) → length word ≡ n → All (λ s. s < symbols) word → test word ≡ true
    → ((other : List ℕ) → length other ≡ n → All (λ s. s < symbols) other → is_lower other word ≡ true → test other ≡ false) → first_word symbols test n ≡ Some word
word_some symbols test zero [] long all is lower = word_empty symbols test true is
word_some symbols test zero (x ∷ word) long all is lower = absurd (omega arith)
word_some symbols test (suc more) [] long all is lower = absurd (omega arith)
word_some symbols test (suc more) (x ∷ word) long all is lower =
    let small : x < symbols = All-head (λ s. s < symbols) x word all in
    let same = word_some symbols (λ rest. test (x ∷ rest)) more word (omega arith) (All-tail (λ s. s < symbols) x word all) is
    (λ other as_long each low. lower (x ∷ other) (omega arith) (All-cons (λ s. s < symbols) x other small each) (lower_behind x other word low)) in
    word_more symbols test more
    ∙ found_at (found_behind symbols test more) (x ∷ word) 0 symbols x (omega arith) (omega arith) (ap (option_map (λ rest. x ∷ rest)) same)
    (λ s low less. ap (option_map (λ rest. s ∷ rest)) (word_none symbols (λ rest. test (s ∷ rest)) more
    (λ other as_long each. lower (s ∷ other) (omega arith) (All-cons (λ y. y < symbols) s other (omega arith) each) (lower_before s x other word less))))

-- ---- the least of the shortest words

one-false : (a b : Bool) → (a ≢ b → ⊥) → cond a (not b) b ≡ false
one-false true true h = refl
one-false true false h = absurd (h (λ same. false≢true (sym same)))
one-false false true h = absurd (h false≢true)
one-false false false h = refl

pub one-true : (a b : Bool) → a ≢ b → cond a (not b) b ≡ true
one-true true true h = absurd (h refl)
one-true true false h = refl
one-true false true h = refl
one-true false false h = absurd (h refl)

module _ (e f : EventExpr) where
  abbrev of : EventExpr
  of = either e f

  -- both fire on a word's marks, or neither does, where they don't differ on it
  both-fire : (word : List ℕ) → 0 < length word → All (λ s. s < symbol_count of) word → (Differ e f word → ⊥) → one_fires e f word ≡ false
  both-fire word some each h = one-false (fires_at e of word) (fires_at f of word) (λ one. h record { is_word = record { some = some; each = each }; one_fires = one })

  least-none : ((word : List ℕ) → Differ e f word → ⊥) → least_word e f ≡ None
  unfolding least_word
  least-none h =
      found_none (first_word (symbol_count of) (one_fires e f)) 1 longest_word
      (λ n low high. word_none (symbol_count of) (one_fires e f) n (λ word long each. both-fire word (omega arith) each (h word)))

  -- the word is the first of its length, and shorter ones have none
  first-of-length : (word : List ℕ) → IsLeast e f word → first_word (symbol_count of) (one_fires e f) (length word) ≡ Some word
  first-of-length word h =
      word_some (symbol_count of) (one_fires e f) (length word) word refl h.differ.is_word.each (one-true (fires_at e of word) (fires_at f of word) h.differ.one_fires)
      (λ other long each low. both-fire other (omega (arith, h.differ.is_word.some)) each (λ d. false≢true (sym (h.least other d long) ∙ low)))

  none-shorter : (word : List ℕ) → IsLeast e f word → (n : ℕ) → 1 ≤ n → n < length word → first_word (symbol_count of) (one_fires e f) n ≡ None
  none-shorter word h n low less =
      word_none (symbol_count of) (one_fires e f) n (λ other long each. both-fire other (omega arith) each (λ d. omega (arith, h.shortest other d)))

  least-some : (word : List ℕ) → IsLeast e f word → least_word e f ≡ Some word
  unfolding least_word
  least-some word h =
      found_at (first_word (symbol_count of) (one_fires e f)) word 1 longest_word (length word) (omega (arith, h.differ.is_word.some)) (omega (arith, h.limit)) (first-of-length word h) (none-shorter word h)

  abbrev verdict_by : Option (List ℕ) → Verdict
  verdict_by least = option_map_or (λ word. Differs word (fires_at e of word)) least Same

  verdict-is : (v : Verdict) → IsVerdict e f v → verdict_of e f ≡ v
  verdict-is Same h = ap verdict_by (least-none h)
  verdict-is (Differs word first) h = ap verdict_by (least-some word h.0) ∙ ap (λ b. Differs word b) (sym h.1)

-- ---- the limits

passes : (limit n : ℕ) (why : Refusal) → n ≤ limit → refuses (nat_lt limit n) why ≡ Ok tt
passes limit n why h = ap (λ b. refuses b why) (le-ltb limit n h)

stops : (limit n : ℕ) (why : Refusal) → limit < n → refuses (nat_lt limit n) why ≡ Err why
stops limit n why h = ap (λ b. refuses b why) (lt-ltb limit n h)

module _ (e f : EventExpr) where
  symbols-pass : symbol_count (either e f) ≤ symbol_limit → few_symbols e f ≡ Ok tt
  symbols-pass h = passes symbol_limit (symbol_count (either e f)) _ h

  first-pass : states_over e (either e f) ≤ state_limit → few_first e f ≡ Ok tt
  first-pass h = passes state_limit (states_over e (either e f)) (refusal.TooManyStates (codes "first")) h

  second-pass : states_over f (either e f) ≤ state_limit → few_second e f ≡ Ok tt
  second-pass h = passes state_limit (states_over f (either e f)) (refusal.TooManyStates (codes "second")) h

  compared-ok : (v : Verdict) → IsAllowed e f → IsVerdict e f v → compared e f ≡ Ok v
  unfolding compared
  compared-ok v h is = λ i. symbols-pass h.symbols i >> (first-pass h.first i >> (second-pass h.second i >> Ok (verdict-is e f v is i)))

  -- what is refused
  abbrev refused : Refusal → Answer Verdict
  refused why = Err why

  compared-stops : (error : SameError) (why : Refusal) → IsCause e f error → IsToldAs error why → compared e f ≡ refused why
  unfolding compared
  compared-stops Memory why cause told = absurd told
  compared-stops (TooManySymbols count) why cause told =
      let most : Refusal = refusal.TooManySymbols (codes "same") (min (symbol_count (either e f)) counted_symbols) in
      (λ i. stops symbol_limit (symbol_count (either e f)) most cause.0 i >> (few_first e f >> (few_second e f >> Ok (verdict_of e f))))
      ∙ ap (λ n. refused (refusal.TooManySymbols (codes "same") n)) (sym cause.1) ∙ ap refused (sym told)
  compared-stops (TooManyStates false) why cause told =
      (λ i. symbols-pass cause.0 i >> (stops state_limit (states_over e (either e f)) (refusal.TooManyStates (codes "first")) cause.1 i >> (few_second e f >> Ok (verdict_of e f))))
      ∙ ap refused (sym told)
  compared-stops (TooManyStates true) why cause told =
      (λ i. symbols-pass cause.0 i >> (first-pass cause.1.0 i >> (stops state_limit (states_over f (either e f)) (refusal.TooManyStates (codes "second")) cause.1.1 i >> Ok (verdict_of e f))))
      ∙ ap refused (sym told)

  pub text_ok : (v : Verdict) → IsAllowed e f → IsVerdict e f v → comparison_text e f ≡ Ok (verdict_text (alphabet (either e f)) v)
  unfolding comparison_text
  text_ok v h is = ap (λ answer. answer >>= (λ verdict. Ok (verdict_text (alphabet (either e f)) verdict))) (compared-ok v h is)

  pub text_stops : (error : SameError) (why : Refusal) → IsCause e f error → IsToldAs error why → comparison_text e f ≡ Err why
  unfolding comparison_text
  text_stops error why cause told = ap (λ answer. answer >>= (λ verdict. Ok (verdict_text (alphabet (either e f)) verdict))) (compared-stops error why cause told)
