-- What two tables say of their expressions.
use Rattle.std.proofs.Common.{◌≡◌, ℕ, ◌*◌, ◌<◌, ◌≤◌, true, false, List, length, sym, ◌∙◌, subst, arith, inl, inr, ◌⊎◌}
use Rattle.std.proofs.lemmas.Bool.{cases_Bool, cases_lt}
use Rattle.std.proofs.lemmas.Nat.{mul-le}
use Rattle.ode_value.specs.declared.event.EventExpr.{EventExpr}
use Rattle.ode_value.specs.Limits.{state_limit, symbol_limit}
use Rattle.ode_value.specs.Symbols.{Alphabet, alphabet, symbol_count}
use Rattle.ode_value.specs.Tables.{IsWord, Table, run, says_yes}
use Rattle.ode_table.specs.Built.{IsBuilt, IsOver}
use Rattle.ode_walk.specs.Relation.{IsShortest, is_lower}
use Rattle.ode_same.specs.declared.verdict.Verdict.{Verdict}
use Rattle.ode_same.specs.declared.verdict.Verdict.TheVariants.{Same, Differs}
use Rattle.ode_same.specs.declared.error.SameError.{SameError}
use Rattle.ode_same.specs.declared.error.SameError.TheVariants.{Memory, TooManySymbols, TooManyStates}
use Rattle.ode_same.specs.Differing.{Differ, HasTooMany, IsAllowed, IsCause, IsLeast, IsVerdict, either, fires_at, longest_word, states_over}
use Rattle.ode_same.specs.Parts.{IsAlphabetCause, IsBuildCause, IsComparison}
use Rattle.ode_same.proofs.BothLaws.{first-conditions, second-conditions}

-- the alphabet of both is over each of them
pub over-first : (e f : EventExpr) (a : Alphabet) → a ≡ alphabet (either e f) → IsOver e (either e f) a
over-first e f a is = record { alphabet_is = is; conditions = first-conditions e f }

pub over-second : (e f : EventExpr) (a : Alphabet) → a ≡ alphabet (either e f) → IsOver f (either e f) a
over-second e f a is = record { alphabet_is = is; conditions = second-conditions e f }

pub longest : (t u : Table) (n : ℕ) → t.states ≤ state_limit → u.states ≤ state_limit → n ≤ t.states * u.states → n ≤ longest_word
unfolding longest_word
longest t u n low_t low_u low = omega (arith, mul-le t.states u.states state_limit state_limit low_t low_u)

module _ (e f : EventExpr) (t u : Table) (first : IsBuilt e (either e f) t) (second : IsBuilt f (either e f) u) (low_first : t.states ≤ state_limit) (low_second : u.states ≤ state_limit) where
  abbrev of : EventExpr
  of = either e f

  pub same-symbols : t.symbols ≡ u.symbols
  same-symbols = first.symbols ∙ sym second.symbols

  first-fires : (word : List ℕ) → IsWord t.symbols word → says_yes t (run t 0 word) ≡ fires_at e of word
  first-fires word is = first.answers word is

  second-fires : (word : List ℕ) → IsWord t.symbols word → says_yes u (run u 0 word) ≡ fires_at f of word
  second-fires word is = second.answers word (subst (λ n. IsWord n word) same-symbols is)

  -- where the tables answer alike on a word, the expressions don't differ on it
  not-differ : (word : List ℕ) → Differ e f word → (IsWord t.symbols word → says_yes t (run t 0 word) ≡ says_yes u (run u 0 word)) → ⊥
  not-differ word d alike =
      let is : IsWord t.symbols word = subst (λ n. IsWord n word) (sym first.symbols) d.is_word in
      d.one_fires (sym (first-fires word is) ∙ alike is ∙ second-fires word is)

  least : (word : List ℕ) → IsShortest t u word → IsLeast e f word
  least word h = record {
    differ = record {
      is_word = subst (λ n. IsWord n word) first.symbols h.is_word;
      one_fires = λ same. h.differs (first-fires word h.is_word ∙ same ∙ sym (second-fires word h.is_word));
    };
    shortest = λ other d. by_length other d (cases_lt (length other) (length word));
    least = λ other d long. by_order other d long (cases_Bool (is_lower other word));
    limit = longest t u (length word) low_first low_second h.limit;
  } where
    by_length : (other : List ℕ) → Differ e f other → (length other < length word) ⊎ (length word ≤ length other) → length word ≤ length other
    by_length other d (inl less) = absurd (not-differ other d (λ is. h.shortest other is less))
    by_length other d (inr more) = more

    by_order : (other : List ℕ) → Differ e f other → length other ≡ length word → (is_lower other word ≡ true) ⊎ (is_lower other word ≡ false) → is_lower other word ≡ false
    by_order other d long (inl lower) = absurd (not-differ other d (λ is. h.least other is long lower))
    by_order other d long (inr not_lower) = not_lower

  pub verdict : (v : Verdict) → IsComparison t u v → IsVerdict e f v
  verdict Same agrees = λ word d. not-differ word d (agrees word)
  verdict (Differs word answer) both = (least word both.0, both.1 ∙ first-fires word both.0.is_word)

  pub allowed : symbol_count of ≤ symbol_limit → IsAllowed e f
  allowed few = record {
    symbols = few;
    first = subst (λ n. n ≤ state_limit) first.states low_first;
    second = subst (λ n. n ≤ state_limit) second.states low_second;
  }

-- ---- no verdict

pub cause_alphabet : (e f : EventExpr) (error : SameError) → IsAlphabetCause (either e f) error → IsCause e f error
cause_alphabet e f Memory h = tt
cause_alphabet e f (TooManySymbols count) h = h
cause_alphabet e f (TooManyStates second) h = absurd h

pub cause-first : (e f : EventExpr) (error : SameError) → symbol_count (either e f) ≤ symbol_limit → IsBuildCause e (either e f) false error → IsCause e f error
cause-first e f Memory few h = tt
cause-first e f (TooManySymbols count) few h = absurd h
cause-first e f (TooManyStates told) few h = (few, subst (HasTooMany e f) (sym h.0) h.1)

pub cause-second : (e f : EventExpr) (error : SameError) → symbol_count (either e f) ≤ symbol_limit → states_over e (either e f) ≤ state_limit
    → IsBuildCause f (either e f) true error → IsCause e f error
cause-second e f Memory few low h = tt
cause-second e f (TooManySymbols count) few low h = absurd h
cause-second e f (TooManyStates told) few low h = (few, subst (HasTooMany e f) (sym h.0) (low, h.1))
