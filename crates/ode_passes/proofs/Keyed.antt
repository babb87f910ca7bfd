-- Of records, those at or above a key, and those above one.
use Rattle.std.proofs.Common.{◌≡◌, ℕ, ◌<◌, ◌≤◌, [], ◌∷◌, Bool, true, false, cond, refl, sym, ap, ◌∙◌, arith}
use Rattle.std.specs.Prelude.{◌&&◌, nat_le}
use Rattle.std.specs.Ordering.{is_le}
use Rattle.std.specs.declared.cmp.Ordering.TheVariants.{Less}
use Rattle.std.proofs.lemmas.Bool.Decides.{nat_tests}
use Rattle.ode_keep.specs.Entries.{Entries}
use Rattle.ode_value.specs.Keys.{key_cmp}
use Rattle.ode_value.specs.Records.{Row}
use Rattle.ode_value.specs.declared.key.Key.{Key}
use Rattle.ode_passes.specs.Walking.{follows, has_range, is_from, rank, records_above, records_from}

-- ---- tests of keys

pub not_before : (from q k : Key) → is_le (key_cmp from q) ≡ true → is_le (key_cmp from k) ≡ false → follows q k ≡ false
not_before from q k le below = grind (arith, nat_tests)

pub not_itself : (q : Key) → follows q q ≡ false
not_itself q = grind (arith, nat_tests)

pub not_under : (k q : Key) → key_cmp k q ≡ Less → follows q k ≡ false
not_under k q less = grind (arith, nat_tests)

pub rank_from : (from q : Key) → is_le (key_cmp from q) ≡ true → has_range from ≡ true → has_range q ≡ true → rank from ≤ rank q
rank_from from q le range_from range_q = grind (arith, nat_tests)

past_kind : (from k : Key) (last : ℕ) → last < from.kind → is_from from last k ≡ false
past_kind from k last past = grind (arith, nat_tests)

-- ---- one record more in front

abbrev pub put : Bool → Row → Entries → Entries
put b e es = cond b (e ∷ es) es

-- ---- from a key past the last kind there is none

pub none_past : (from : Key) (last : ℕ) (es : Entries) → last < from.kind → records_from from last es ≡ []
none_past from last [] past = refl
none_past from last (e ∷ es) past = ap (λ b. put b e (records_from from last es)) (past_kind from e.0 last past) ∙ none_past from last es past

-- ---- above a key, and from the next one on

out_of_range : (x y z : Bool) → x && (y && false) ≡ z && (y && false)
out_of_range true true true = refl
out_of_range true true false = refl
out_of_range true false true = refl
out_of_range true false false = refl
out_of_range false true true = refl
out_of_range false true false = refl
out_of_range false false true = refl
out_of_range false false false = refl

module _ (q n : Key) (last : ℕ) (next : (k : Key) → has_range k ≡ true → is_le (key_cmp n k) ≡ follows q k) where
  same_by : (k : Key) (b : Bool) → has_range k ≡ b → follows q k && (nat_le k.kind last && b) ≡ is_le (key_cmp n k) && (nat_le k.kind last && b)
  same_by k true range = ap (λ t. t && (nat_le k.kind last && true)) (sym (next k range))
  same_by k false range = out_of_range (follows q k) (nat_le k.kind last) (is_le (key_cmp n k))

  pub above_is_from : (es : Entries) → records_above q last es ≡ records_from n last es
  above_is_from [] = refl
  above_is_from (e ∷ es) =
      ap (λ b. put b e (records_above q last es)) (same_by e.0 (has_range e.0) refl) ∙ ap (λ (more : Entries). put (is_from n last e.0) e more) (above_is_from es)

module _ (q : Key) (last : ℕ) (end : (k : Key) → has_range k ≡ true → follows q k ≡ true → last < k.kind) where
  none_by : (k : Key) (a b : Bool) → follows q k ≡ a → has_range k ≡ b → a && (nat_le k.kind last && b) ≡ false
  none_by k true true after range = let past : last < k.kind = end k range after in grind (arith, nat_tests)
  none_by k true false after range = out_of_range true (nat_le k.kind last) false
  none_by k false b after range = refl

  pub none_above : (es : Entries) → records_above q last es ≡ []
  none_above [] = refl
  none_above (e ∷ es) = ap (λ b. put b e (records_above q last es)) (none_by e.0 (follows q e.0) (has_range e.0) refl refl) ∙ none_above es
