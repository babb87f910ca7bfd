-- What a comparison comes to is the verdict.
use Rattle.std.proofs.Common.{◌≡◌, ◌≢◌, ℕ, ◌<◌, ◌≤◌, Bool, true, false, cond, List, length, refl, sym, ◌∙◌, subst, arith, inl, inr, ◌⊎◌, Option, Some, None, Ok}
use Rattle.std.specs.Prelude.{not, min, codes, nat_lt}
use Rattle.std.specs.Option.{option_map_or}
use Rattle.std.proofs.lemmas.Bool.{cases_Bool, cases_lt, false≢true, lt-ltb}
use Rattle.ode_value.specs.Answers.{Answer, ◌>>◌, refuses}
use Rattle.ode_value.specs.declared.event.EventExpr.{EventExpr}
use Rattle.ode_value.specs.declared.reason.Refusal.{Refusal}
use Rattle.ode_value.specs.declared.reason.Refusal.TheVariants as refusal
use Rattle.ode_value.specs.Limits.{counted_symbols, state_limit, symbol_limit}
use Rattle.ode_value.specs.Symbols.{symbol_count}
use Rattle.ode_walk.specs.Relation.{is_lower}
use Rattle.ode_same.specs.declared.verdict.Verdict.{Verdict}
use Rattle.ode_same.specs.declared.verdict.Verdict.TheVariants.{Same, Differs}
use Rattle.ode_same.specs.Comparing.{compared, few_first, few_second, first_word, least_word, one_fires, verdict_of}
use Rattle.ode_same.specs.Differing.{Differ, IsAllowed, IsLeast, IsVerdict, either, fires_at, longest_word, states_over}
use Rattle.ode_same.proofs.ComparingLaws.{one-true}
use Rattle.ode_verdict_laws.proofs.Cut.{no-word}
use Rattle.ode_verdict_laws.proofs.Found.{IsFirstWord, IsFound, first-word, found, found-none, no-words}

-- ---- within the limits

passed : {S : Type 0} (b : Bool) (why : Refusal) (rest : Answer S) (v : S) → (refuses b why >> rest) ≡ Ok v → (b ≡ false) × (rest ≡ Ok v)
passed true why rest v h = cc
passed false why rest v h = (refl, h)

abbrev answered : {S : Type 0} → S → Answer S
answered v = Ok v

ok-same : {S : Type 0} (v w : S) → answered v ≡ answered w → v ≡ w
ok-same v w h = cc

at-most : (limit n : ℕ) → nat_lt limit n ≡ false → n ≤ limit
at-most limit n h = by (cases_lt limit n) where
  by : (limit < n) ⊎ (n ≤ limit) → n ≤ limit
  by (inl above) = absurd (false≢true (sym h ∙ lt-ltb limit n above))
  by (inr low) = low

module _ (e f : EventExpr) where
  abbrev of : EventExpr
  of = either e f

  one-apart : (a b : Bool) → cond a (not b) b ≡ true → a ≢ b
  one-apart true true h = absurd (false≢true h)
  one-apart true false h = λ same. false≢true (sym same)
  one-apart false true h = false≢true
  one-apart false false h = absurd (false≢true h)

  -- where one expression alone fires on a word, the test of the search passes
  tested : (word : List ℕ) → Differ e f word → one_fires e f word ≡ true
  tested word d = one-true (fires_at e of word) (fires_at f of word) d.one_fires

  missed : (word : List ℕ) → Differ e f word → one_fires e f word ≡ false → ⊥
  missed word d h = false≢true (sym h ∙ tested word d)

  -- a length at which nothing is found has no word on which they differ
  none-at : (n : ℕ) → first_word (symbol_count of) (one_fires e f) n ≡ None → (word : List ℕ) → length word ≡ n → Differ e f word → ⊥
  none-at n h word long d = missed word d (no-words (symbol_count of) (one_fires e f) n h word long d.is_word.each)

  abbrev search : ℕ → Option (List ℕ)
  search n = first_word (symbol_count of) (one_fires e f) n

  none-short : least_word e f ≡ None → (word : List ℕ) → length word ≤ longest_word → Differ e f word → ⊥
  unfolding least_word
  none-short h word low d = none-at (length word) (found-none search 1 longest_word h (length word) (omega (arith, d.is_word.some)) (omega arith)) word refl d

  found-word : (word : List ℕ) → least_word e f ≡ Some word → IsFound search 1 longest_word word
  unfolding least_word
  found-word word h = found search 1 longest_word word h

  is-least : (word : List ℕ) → least_word e f ≡ Some word → IsLeast e f word
  is-least word h = record {
    differ = record {
      is_word = record { some = omega (arith, r.low, p.long); each = p.each };
      one_fires = one-apart (fires_at e of word) (fires_at f of word) p.passes;
    };
    shortest = λ other d. by_length other d (cases_lt (length other) (length word));
    least = λ other d long. by_order other d long (cases_Bool (is_lower other word));
    limit = omega (arith, r.high, p.long);
  } where
    r : IsFound search 1 longest_word word
    r = found-word word h

    p : IsFirstWord (symbol_count of) (one_fires e f) r.at word
    p = first-word (symbol_count of) (one_fires e f) r.at word r.is

    by_length : (other : List ℕ) → Differ e f other → (length other < length word) ⊎ (length word ≤ length other) → length word ≤ length other
    by_length other d (inl less) = absurd (none-at (length other) (r.none (length other) (omega (arith, d.is_word.some)) (omega (arith, p.long))) other refl d)
    by_length other d (inr more) = more

    by_order : (other : List ℕ) → Differ e f other → length other ≡ length word → (is_lower other word ≡ true) ⊎ (is_lower other word ≡ false) → is_lower other word ≡ false
    by_order other d long (inl low) = absurd (missed other d (p.lower other (long ∙ p.long) d.is_word.each low))
    by_order other d long (inr above) = above

  abbrev verdict_by : Option (List ℕ) → Verdict
  verdict_by least = option_map_or (λ word. Differs word (fires_at e of word)) least Same

  searched : IsAllowed e f → (o : Option (List ℕ)) → least_word e f ≡ o → IsVerdict e f (verdict_by o)
  searched allowed None is = no-word e f allowed (none-short is)
  searched allowed (Some word) is = (is-least word is, refl)

pub is-verdict : (e f : EventExpr) (verdict : Verdict) → compared e f ≡ Ok verdict → IsVerdict e f verdict
unfolding compared
is-verdict e f verdict h =
    let most : Refusal = refusal.TooManySymbols (codes "same") (min (symbol_count (either e f)) counted_symbols) in
    let a = passed (nat_lt symbol_limit (symbol_count (either e f))) most (few_first e f >> (few_second e f >> Ok (verdict_of e f))) verdict h in
    let b = passed (nat_lt state_limit (states_over e (either e f))) (refusal.TooManyStates (codes "first")) (few_second e f >> Ok (verdict_of e f)) verdict a.1 in
    let c = passed (nat_lt state_limit (states_over f (either e f))) (refusal.TooManyStates (codes "second")) (Ok (verdict_of e f)) verdict b.1 in
    let allowed : IsAllowed e f = record {
      symbols = at-most symbol_limit (symbol_count (either e f)) a.0;
      first = at-most state_limit (states_over e (either e f)) b.0;
      second = at-most state_limit (states_over f (either e f)) c.0;
    } in
    subst (IsVerdict e f) (ok-same (verdict_of e f) verdict c.1) (searched e f allowed (least_word e f) refl)
