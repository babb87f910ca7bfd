-- Records whose keys rise stand by their kinds: those of some kinds and those of the next ones are together those of all these.
use Rattle.std.proofs.Common.{◌≡◌, ℕ, ◌+◌, ◌<◌, ◌≤◌, [], ◌∷◌, ◌++◌, Bool, true, false, cond, Ok, Err, refl, sym, ap, ◌∙◌, arith}
use Rattle.std.specs.Prelude.{◌||◌}
use Rattle.std.specs.List.{AllByRecursion}
use Rattle.std.specs.List.Sorted.{IsStrictlySortedBy}
use Rattle.std.specs.Map.{keys_of}
use Rattle.std.specs.declared.cmp.Ordering.TheVariants.{Less}
use Rattle.std.proofs.lemmas.Bool.Decides.{nat_tests}
use Rattle.ode_keep.specs.Entries.{Entries, HasRisingKeys}
use Rattle.ode_passes.specs.Rules.{Ruled, ◌>>=◌, each}
use Rattle.ode_passes.specs.Walking.{is_from, within}
use Rattle.ode_value.specs.Keys.{activation_kind, entry_kind, key, key_cmp, version_kind}
use Rattle.ode_value.specs.Records.{Row}
use Rattle.ode_value.specs.declared.key.Key.{Key}

abbrev AllAbove : Key → Entries → Type 0
AllAbove q es = AllByRecursion (λ k. key_cmp q k ≡ Less) (keys_of es)

-- one record more in front
abbrev put : Bool → Row → Entries → Entries
put b e es = cond b (e ∷ es) es

abbrev is_in : ℕ → ℕ → Key → Bool
is_in first last k = is_from (key first 0 0) last k

module _ (first middle last : ℕ) (low : first ≤ middle) (high : middle < last) where
  either : (k : Key) → is_in first last k ≡ is_in first middle k || is_in (middle + 1) last k
  either k = grind (arith, nat_tests)

  not_both : (k : Key) → is_in first middle k ≡ true → is_in (middle + 1) last k ≡ false
  not_both k front = grind (arith, nat_tests)

  not_behind : (q k : Key) → is_in (middle + 1) last q ≡ true → key_cmp q k ≡ Less → is_in first middle k ≡ false
  not_behind q k back less = grind (arith, nat_tests)

  none_behind : (q : Key) (es : Entries) → is_in (middle + 1) last q ≡ true → AllAbove q es → within first middle es ≡ []
  none_behind q [] back above = refl
  none_behind q (e ∷ es) back above = ap (λ b. put b e (within first middle es)) (not_behind q e.0 back above.0) ∙ none_behind q es back above.1

  abbrev Split : Entries → Type 0
  Split es = within first last es ≡ within first middle es ++ within (middle + 1) last es

  step : (e : Row) (es : Entries) → AllAbove e.0 es → Split es → (a b : Bool) → is_in first middle e.0 ≡ a → is_in (middle + 1) last e.0 ≡ b
      → put (a || b) e (within first last es) ≡ put a e (within first middle es) ++ put b e (within (middle + 1) last es)
  step e es above more true true front back = let one : is_in (middle + 1) last e.0 ≡ false = not_both e.0 front in absurd (cc (one, back))
  step e es above more true false front back = ap (λ (all : Entries). e ∷ all) more
  step e es above more false true front back =
      ap (λ (all : Entries). e ∷ all) (more ∙ ap (λ (none : Entries). none ++ within (middle + 1) last es) (none_behind e.0 es back above))
      ∙ sym (ap (λ (none : Entries). none ++ e ∷ within (middle + 1) last es) (none_behind e.0 es back above))
  step e es above more false false front back = more

  pub split : (es : Entries) → HasRisingKeys es → Split es
  unfolding IsStrictlySortedBy
  split [] rising = refl
  split (e ∷ es) rising =
      ap (λ b. put b e (within first last es)) (either e.0) ∙ step e es rising.0 (split es rising.1) (is_in first middle e.0) (is_in (middle + 1) last e.0) refl refl

-- ---- a rule of each

module _ (rule : Row → Ruled (Unit {0})) where
  bound : (m : Ruled (Unit {0})) (xs ys : Entries) → each rule (xs ++ ys) ≡ (each rule xs >>= λ _. each rule ys) → (m >>= λ _. each rule (xs ++ ys)) ≡ ((m >>= λ _. each rule xs) >>= λ _. each rule ys)
  bound (Ok u) xs ys more = more
  bound (Err cause) xs ys more = refl

  each_append : (xs ys : Entries) → each rule (xs ++ ys) ≡ (each rule xs >>= λ _. each rule ys)
  each_append [] ys = refl
  each_append (x ∷ xs) ys = bound (rule x) xs ys (each_append xs ys)

  -- of versions, activations and entries
  pub by_kinds : (es : Entries) → HasRisingKeys es
      → each rule (within version_kind entry_kind es)
      ≡ (each rule (within version_kind version_kind es) >>= λ _. (each rule (within activation_kind activation_kind es) >>= λ _. each rule (within entry_kind entry_kind es)))
  by_kinds es rising =
      ap (each rule) (split version_kind version_kind entry_kind (omega arith) (omega arith) es rising)
      ∙ each_append (within version_kind version_kind es) (within activation_kind entry_kind es)
      ∙ ap (λ (m : Ruled (Unit {0})). each rule (within version_kind version_kind es) >>= λ _. m)
      (ap (each rule) (split activation_kind activation_kind entry_kind (omega arith) (omega arith) es rising)
      ∙ each_append (within activation_kind activation_kind es) (within entry_kind entry_kind es))
