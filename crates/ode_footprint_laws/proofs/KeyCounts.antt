-- Sets of keys with new ones: how many they are, and what holds of each.
use Rattle.std.proofs.Common.{◌≡◌, ℕ, suc, ◌<◌, ◌≤◌, Bool, true, false, cond, List, [], ◌∷◌, length, ◌==◌, refl, sym, ap, ◌∙◌, subst, arith}
use Rattle.std.specs.Cmp.{ranked}
use Rattle.std.specs.List.{AllByRecursion, fold}
use Rattle.std.specs.Ordering.{match_ordering, nat_cmp, ordering_then}
use Rattle.std.specs.Prelude.{◌||◌}
use Rattle.std.specs.declared.cmp.Ordering.{Ordering}
use Rattle.std.specs.declared.cmp.Ordering.TheVariants.{Less, Equal, Greater}
use Rattle.ode_footprint_laws.proofs.Meets.{active_keys, new_keys}
use Rattle.ode_footprint_laws.specs.Fresh.{IsDrawnKey}
use Rattle.ode_laws.proofs.Each.{all-then}
use Rattle.ode_value.specs.declared.key.Key.{Key}
use Rattle.ode_value.specs.Changes.{with_key}
use Rattle.ode_value.specs.Keys.{activation_key, activation_kind, key_cmp, object_key, object_kind, version_key, version_kind}

-- ---- what holds of each

all_with_key : (P : Key → Type 0) (ls : List Key) (k : Key) → AllByRecursion P ls → P k → AllByRecursion P (with_key ls k)
all_with_key P [] k all holds = (holds, tt)
all_with_key P (l ∷ ls) k all holds = by_order (key_cmp k l) (all_with_key P ls k all.1 holds) where
  by_order : (o : Ordering) → AllByRecursion P (with_key ls k) → AllByRecursion P (match_ordering o (k ∷ l ∷ ls) (l ∷ ls) (l ∷ with_key ls k))
  by_order Less rest = (holds, all)
  by_order Equal rest = all
  by_order Greater rest = (all.0, rest)

pub all_held : (P : Key → Type 0) (keys ls : List Key) → AllByRecursion P ls → AllByRecursion P keys → AllByRecursion P (fold with_key ls keys)
all_held P [] ls all news = all
all_held P (k ∷ keys) ls all news = all_held P keys (with_key ls k) (all_with_key P ls k all news.0) news.1

-- ---- how many they are

-- a key is none of these
abbrev IsNew : Key → Key → Type 0
IsNew k l = key_cmp k l ≡ Equal → ⊥

one_more : (ls : List Key) (k : Key) → AllByRecursion (IsNew k) ls → length (with_key ls k) ≡ suc (length ls)
one_more [] k all = refl
one_more (l ∷ ls) k all = by_order (key_cmp k l) all.0 (one_more ls k all.1) where
  by_order : (o : Ordering) → (o ≡ Equal → ⊥) → length (with_key ls k) ≡ suc (length ls) → length (match_ordering o (k ∷ l ∷ ls) (l ∷ ls) (l ∷ with_key ls k)) ≡ suc (suc (length ls))
  by_order Less new rest = refl
  by_order Equal new rest = absurd (new refl)
  by_order Greater new rest = ap (λ n. suc n) rest

-- ---- keys with numbers that weren't drawn

both_equal : (o p : Ordering) → ordering_then o p ≡ Equal → (o ≡ Equal) × (p ≡ Equal)
both_equal Equal p is = (refl, is)
both_equal Less p is = absurd (cc)
both_equal Greater p is = absurd (cc)

same_numbers : (k l : Key) → key_cmp k l ≡ Equal → (k.kind ≡ l.kind) × (k.a ≡ l.a) × (k.b ≡ l.b)
same_numbers k l is =
    let kind = both_equal (nat_cmp k.kind l.kind) (ordering_then (nat_cmp k.a l.a) (nat_cmp k.b l.b)) is in
    let rest = both_equal (nat_cmp k.a l.a) (nat_cmp k.b l.b) kind.1 in
    (ranked k.kind l.kind Equal (sym kind.0), ranked k.a l.a Equal (sym rest.0), ranked k.b l.b Equal (sym rest.1))

-- what a drawn key's kind says of its numbers
abbrev DrawnBy : ℕ → (kind a b : ℕ) → Type 0
DrawnBy next kind a b = IsDrawnKey next (record { kind = kind; a = a; b = b })

new_object : (next : ℕ) (l : Key) → IsDrawnKey next l → IsNew (object_key next) l
new_object next l drawn is =
    let same = same_numbers (object_key next) l is in
    let below : l.a < next = subst (λ kind. DrawnBy next kind l.a l.b) (sym same.0) drawn in
    let equal : next ≡ l.a = same.1 in
    absurd (omega arith)

new_version : (next number : ℕ) (l : Key) → IsDrawnKey next l → IsNew (version_key next number) l
new_version next number l drawn is =
    let same = same_numbers (version_key next number) l is in
    let below : l.a < next = subst (λ kind. DrawnBy next kind l.a l.b) (sym same.0) drawn in
    let equal : next ≡ l.a = same.1 in
    absurd (omega arith)

new_activation : (id next : ℕ) (l : Key) → IsDrawnKey next l → IsNew (activation_key id next) l
new_activation id next l drawn is =
    let same = same_numbers (activation_key id next) l is in
    let below : l.b < next = subst (λ kind. DrawnBy next kind l.a l.b) (sym same.0) drawn in
    let equal : next ≡ l.b = same.2 in
    absurd (omega arith)

version_of_new : (next number : ℕ) → IsNew (version_key next number) (object_key next)
version_of_new next number is = absurd (cc)

-- the keys of a new object are two more, and that of a new activation is one more
pub two_more : (next : ℕ) (ls : List Key) → AllByRecursion (IsDrawnKey next) ls → length (fold with_key ls (new_keys next)) ≡ suc (suc (length ls))
two_more next ls all =
    one_more (with_key ls (object_key next)) (version_key next 1)
    (all_with_key (IsNew (version_key next 1)) ls (object_key next) (all-then (IsDrawnKey next) (IsNew (version_key next 1)) (new_version next 1) ls all) (version_of_new next 1))
    ∙ ap (λ n. suc n) (one_more ls (object_key next) (all-then (IsDrawnKey next) (IsNew (object_key next)) (new_object next) ls all))

pub active_more : (id next : ℕ) (ls : List Key) → AllByRecursion (IsDrawnKey next) ls → length (fold with_key ls (active_keys id next)) ≡ suc (length ls)
active_more id next ls all = one_more ls (activation_key id next) (all-then (IsDrawnKey next) (IsNew (activation_key id next)) (new_activation id next) ls all)

-- ---- more numbers are drawn

pub drawn_more : (next more : ℕ) → next ≤ more → (k : Key) → IsDrawnKey next k → IsDrawnKey more k
drawn_more next more less k = by_kind (k.kind == object_kind || k.kind == version_kind) (k.kind == activation_kind) where
  by_kind : (b c : Bool) → cond b (k.a < next) (cond c (k.b < next) (Unit {0})) → cond b (k.a < more) (cond c (k.b < more) (Unit {0}))
  by_kind true c drawn = let below : k.a < next = drawn in omega arith
  by_kind false true drawn = let below : k.b < next = drawn in omega arith
  by_kind false false drawn = tt
