-- The changes of a batch behind those of another one.
use Rattle.std.proofs.Common.{◌≡◌, ◌≤◌, ◌+◌, List, ℕ, [], ◌∷◌, length, Option, Some, arith, cond, ap, sym, ◌∙◌, subst}
use Rattle.std.specs.BTreeMap.{insert_entry, is_at}
use Rattle.std.specs.List.{AllByRecursion}
use Rattle.std.specs.Option.{IfSome}
use Rattle.std.specs.Ordering.{match_ordering}
use Rattle.std.specs.declared.cmp.Ordering.{Ordering}
use Rattle.std.specs.declared.cmp.Ordering.TheVariants.{Less, Equal, Greater}
use Rattle.std.proofs.lemmas.Map.Views.{All-values-insert_entry}
use Rattle.ode_keep.proofs.Applying.{changed_at}
use Rattle.ode_keep.proofs.Lengths.{IsShortChange}
use Rattle.ode_keep.specs.Entries.{Changes, Entries, applied, changed, value_under}
use Rattle.ode_keep.specs.ShortValues.{HasShortValues}
use Rattle.ode_keep.specs.declared.limits.TheConstants.{MAX_CHANGES, MAX_VALUE}
use Rattle.ode_laws.specs.Alike.{NumberWorld}
use Rattle.ode_overlay.specs.Layers.{Layer}
use Rattle.ode_overlay.specs.Records.{batch}
use Rattle.ode_overlay.specs.declared.origin.Origin.TheVariants as from
use Rattle.ode_value.specs.Keys.{key_cmp}
use Rattle.ode_value.specs.Limits.{class_limit}
use Rattle.ode_value.specs.declared.key.Key.{Key}
use Rattle.ode_view_laws.specs.Viewing.{began_over}

-- the same is left of records that are the same by each key
applied_same : (cs : Changes) (xs ys : Entries) → ((q : Key) → value_under xs q ≡ value_under ys q) → (q : Key) → value_under (applied cs xs) q ≡ value_under (applied cs ys) q
applied_same [] xs ys same q = same q
applied_same (c ∷ cs) xs ys same q =
    applied_same cs (changed xs c.0 c.1) (changed ys c.0 c.1)
    (λ r. changed_at xs c.0 c.1 r ∙ ap (λ (found : Option (List ℕ)). cond (is_at (key_cmp c.0) r) c.1 found) (same r) ∙ sym (changed_at ys c.0 c.1 r)) q

-- what a change under this key leaves
abbrev Counts : Key → Option (List ℕ) → Changes → Changes → Type 0
Counts k w old new = (entries : Entries) (q : Key) → value_under (applied new entries) q ≡ cond (is_at (key_cmp k) q) w (value_under (applied old entries) q)

abbrev Both : Changes → Changes → Changes → Changes → Type 0
Both left old more first = (base : Entries) (q : Key) → value_under (applied left (applied old base)) q ≡ value_under (applied more (applied first base)) q

-- one more of them was put
pub one_more : (k : Key) (w : Option (List ℕ)) (left rest old new more first : Changes) → left ≡ (k, w) ∷ rest → Counts k w old new → Both left old more first → Both rest new more first
one_more k w left rest old new more first split counts both = λ base q.
    applied_same rest (applied new base) (changed (applied old base) k w) (λ r. counts base r ∙ sym (changed_at (applied old base) k w r)) q
    ∙ ap (λ (cs : Changes). value_under (applied cs (applied old base)) q) (sym split) ∙ both base q

pub short_more : (k : Key) (w : Option (List ℕ)) (old new : Changes) → new ≡ insert_entry key_cmp old k w → IsShortChange (k, w) → HasShortValues old → HasShortValues new
short_more k w old new is one short =
    subst HasShortValues (sym is) (All-values-insert_entry key_cmp k w (λ (v : Option (List ℕ)). IfSome v (λ bytes. length bytes ≤ MAX_VALUE)) old short one)

-- a copy of a value
pub copied : (found : Option (List ℕ)) (value slice copy : List ℕ) → found ≡ Some value → slice ≡ value → copy ≡ slice → found ≡ Some copy
copied found value slice copy is read made = is ∙ ap (λ (v : List ℕ). Some v) (sym (made ∙ read))

-- the first of those that are left, and the others
pub short_first : (k : Key) (w : Option (List ℕ)) (left rest : Changes) → left ≡ (k, w) ∷ rest → AllByRecursion IsShortChange left → IsShortChange (k, w) × AllByRecursion IsShortChange rest
short_first k w left rest split all = subst (AllByRecursion IsShortChange) split all

-- ---- how many they are

longer_at : (e : Key × Option (List ℕ)) (es : Changes) (k : Key) (w : Option (List ℕ)) → length (insert_entry key_cmp es k w) ≤ length es + 1
    → (o : Ordering) → length (match_ordering o ((k, w) ∷ e ∷ es) ((e.0, w) ∷ es) (e ∷ insert_entry key_cmp es k w)) ≤ length (e ∷ es) + 1
longer_at e es k w more Less = omega arith
longer_at e es k w more Equal = omega arith
longer_at e es k w more Greater = omega (arith, more)

-- a change makes a batch longer by one at most
one_longer : (es : Changes) (k : Key) (w : Option (List ℕ)) → length (insert_entry key_cmp es k w) ≤ length es + 1
one_longer [] k w = omega arith
one_longer (e ∷ es) k w = longer_at e es k w (one_longer es k w) (key_cmp k e.0)

-- and what is left is one fewer
pub still_few : (k : Key) (w : Option (List ℕ)) (left rest old new : Changes) (most : ℕ) → left ≡ (k, w) ∷ rest → new ≡ insert_entry key_cmp old k w → length old + length left ≤ most → length new + length rest ≤ most
still_few k w left rest old new most split is few =
    let one = one_longer old k w in
    let now : length new ≡ length (insert_entry key_cmp old k w) = ap (λ (cs : Changes). length cs) is in
    let behind : length left ≡ length ((k, w) ∷ rest) = ap (λ (cs : Changes). length cs) split in
    omega (arith, one, now, behind, few)

-- a transaction that did nothing changes the counters alone
counters_alone : (first : NumberWorld) → length (batch (began_over from.Script first)) ≤ 1
unfolding batch
counters_alone first = omega arith

-- with the records of a class they aren't too many
pub few_joined : (x : Layer) (first : NumberWorld) (changes more : Changes) → more ≡ batch x → x ≡ began_over from.Script first → length changes ≤ class_limit → length changes + length more ≤ MAX_CHANGES
unfolding class_limit
few_joined x first changes more is began few =
    let same : length more ≡ length (batch (began_over from.Script first)) = ap (λ (cs : Changes). length cs) is ∙ ap (λ (y : Layer). length (batch y)) began in
    let alone = counters_alone first in
    omega (arith, same, alone, few)
