-- Changes under a key that comes to its place.
use Rattle.std.proofs.Common.{◌≡◌, ◌<◌, ◌≤◌, zero, suc, ℕ, List, [], ◌∷◌, Option, true, false, refl, sym, ap, subst, ◌∙◌, length, drop, get_or, set, arith}
use Rattle.std.proofs.lemmas.Cmp.{eq_by_cmp_equiv}
use Rattle.std.specs.Prelude.{Result, Ok, Err, OnErr, OnOk}
use Rattle.std.specs.BTreeMap.{insert_entry}
use Rattle.std.specs.Cmp.{Equal-is}
use Rattle.std.specs.List.{AllByRecursion, insert}
use Rattle.std.specs.List.Sorted.{IsStrictlySortedBy}
use Rattle.std.specs.Map.{keys_of}
use Rattle.std.specs.Ordering.{is_eq, is_le, is_lt, match_ordering, ordering_reverse}
use Rattle.std.specs.declared.cmp.Ordering.{Ordering}
use Rattle.std.specs.declared.cmp.Ordering.TheVariants.{Less, Equal, Greater}
use Rattle.ode_value.specs.declared.key.Key.{Key}
use Rattle.ode_value.specs.Keys.{key_cmp}
use Rattle.ode_keep.specs.Batches.{changes_of}
use Rattle.ode_keep.specs.Entries.{Changes, HasRisingKeys}
use Rattle.ode_keep.specs.Placing.{IsFree, IsPlace}
use Rattle.ode_keep.specs.declared.batch.Change.{Change}
use Rattle.ode_keep.proofs.Keys.{key_total, same_key}
use Rattle.ode_keep.proofs.Maps.{rising_put}

abbrev Item : Type 0
Item = Key × Option (List ℕ)

pub length_of : (cs : List Change) → length (changes_of cs) ≡ length cs
length_of [] = refl
length_of (c ∷ cs) = ap suc (length_of cs)

-- at the end of the changes in front of a place
put_front : (k : Key) (v : Option (List ℕ)) (e : Item) (es : Changes) → key_cmp e.0 k ≡ Less → insert_entry key_cmp (e ∷ es) k v ≡ e ∷ insert_entry key_cmp es k v
put_front k v e es less =
    ap (λ r. match_ordering r ((k, v) ∷ e ∷ es) ((e.0, v) ∷ es) (e ∷ insert_entry key_cmp es k v)) (key_total.antisymm k e.0 ∙ ap ordering_reverse less)

less_of : (r : Ordering) → is_le r ≡ true → is_eq r ≡ false → r ≡ Less
less_of Less le other = refl
less_of Equal le other = absurd (cc (other))
less_of Greater le other = absurd (cc (le))

-- a change comes in at the place
pub come_in : (cs : List Change) (k : Key) (v : Option (List ℕ)) (at : ℕ) → IsPlace (changes_of cs) k at → IsFree (drop at (changes_of cs)) k
    → changes_of (insert cs at (record { key = k; value = v })) ≡ insert_entry key_cmp (changes_of cs) k v
come_in [] k v zero place free = refl
come_in [] k v (suc at) place free = absurd (omega (arith, place.within))
come_in (c ∷ cs) k v zero place free =
    sym (ap (λ r. match_ordering r ((k, v) ∷ changes_of (c ∷ cs)) ((c.key, v) ∷ changes_of cs) ((c.key, c.value) ∷ insert_entry key_cmp (changes_of cs) k v)) (less_of (key_cmp k c.key) place.above.0 free))
come_in (c ∷ cs) k v (suc at) place free =
    ap (λ (l : Changes). (c.key, c.value) ∷ l) (come_in cs k v at (record { within = omega (arith, place.within); below = place.below.1; above = place.above }) free)
    ∙ sym (put_front k v (c.key, c.value) (changes_of cs) place.below.0)

equal_to : (k l : Key) → l ≡ k → key_cmp k l ≡ Equal
equal_to k l same = (Equal-is (key_cmp k l)).0 (subst (λ (m : Key). is_eq (key_cmp k m) ≡ true) (sym same) ((eq_by_cmp_equiv key_total).refl k))

-- the change at the place gets another value
pub come_over : (cs : List Change) (k : Key) (v : Option (List ℕ)) (at : ℕ) (d : Change) → IsPlace (changes_of cs) k at → at < length cs → (get_or cs at d).key ≡ k
    → changes_of (set cs at (record { key = k; value = v })) ≡ insert_entry key_cmp (changes_of cs) k v
come_over [] k v at d place within same = absurd (omega (arith, within))
come_over (c ∷ cs) k v zero d place within same =
    ap (λ (q : Key). (q, v) ∷ changes_of cs) (sym same)
    ∙ sym (ap (λ r. match_ordering r ((k, v) ∷ changes_of (c ∷ cs)) ((c.key, v) ∷ changes_of cs) ((c.key, c.value) ∷ insert_entry key_cmp (changes_of cs) k v)) (equal_to k c.key same))
come_over (c ∷ cs) k v (suc at) d place within same =
    ap (λ (l : Changes). (c.key, c.value) ∷ l)
    (come_over cs k v at d (record { within = omega (arith, place.within); below = place.below.1; above = place.above }) (omega (arith, within)) same)
    ∙ sym (put_front k v (c.key, c.value) (changes_of cs) place.below.0)

-- ---- the search

abbrev pub AreFrom : Key → Changes → Type 0
AreFrom k es = AllByRecursion (λ y. is_le (key_cmp k y) ≡ true) (keys_of es)

turned : (r s : Ordering) → s ≡ ordering_reverse r → is_lt r ≡ false → is_le s ≡ true
turned Less s is other = absurd (cc (other))
turned Equal s is other = ap is_le is
turned Greater s is other = ap is_le is

pub less_at : (r : Ordering) → is_lt r ≡ true → r ≡ Less
less_at Less less = refl
less_at Equal less = absurd (cc (less))
less_at Greater less = absurd (cc (less))

-- one change more isn't below the key
pub from_more : (cs : List Change) (k : Key) (at : ℕ) (d : Change) → at < length cs → is_lt (key_cmp (get_or cs at d).key k) ≡ false → AreFrom k (drop (suc at) (changes_of cs)) → AreFrom k (drop at (changes_of cs))
from_more [] k at d within other from = absurd (omega (arith, within))
from_more (c ∷ cs) k zero d within other from = (turned (key_cmp c.key k) (key_cmp k c.key) (key_total.antisymm k c.key) other, from)
from_more (c ∷ cs) k (suc at) d within other from = from_more cs k at d (omega (arith, within)) other from

each_key : (P : Key → Type 0) (cs : List Change) (at : ℕ) (d : Change) → at < length cs → AllByRecursion P (keys_of (changes_of cs)) → P (get_or cs at d).key
each_key P [] at d within all = absurd (omega (arith, within))
each_key P (c ∷ cs) zero d within all = all.0
each_key P (c ∷ cs) (suc at) d within all = each_key P cs at d (omega (arith, within)) all.1

-- the key belongs behind a change below it, where none behind that one is
pub behind_less : (cs : List Change) (k : Key) (at : ℕ) (d : Change) → HasRisingKeys (changes_of cs) → at < length cs → key_cmp (get_or cs at d).key k ≡ Less → AreFrom k (drop (suc at) (changes_of cs))
    → IsPlace (changes_of cs) k (suc at)
unfolding IsStrictlySortedBy
behind_less [] k at d rising within less from = absurd (omega (arith, within))
behind_less (c ∷ cs) k zero d rising within less from = record { within = omega arith; below = (less, tt); above = from }
behind_less (c ∷ cs) k (suc at) d rising within less from =
    let later = behind_less cs k at d rising.1 (omega (arith, within)) less from in
    let first : key_cmp c.key (get_or cs at d).key ≡ Less = each_key (λ y. key_cmp c.key y ≡ Less) cs at d (omega (arith, within)) rising.0 in
    record { within = omega (arith, later.within); below = (key_total.trans c.key (get_or cs at d).key k first less, later.below); above = later.above }

-- behind all changes there is none
pub none_from : (cs : List Change) (k : Key) → AreFrom k (drop (length cs) (changes_of cs))
none_from [] k = tt
none_from (c ∷ cs) k = none_from cs k

-- where a change came in, or none did for want of memory, the keys still rise
pub kept_rising : {T E : Type 0} (r : Result T E) (old new : List Change) (k : Key) (v : Option (List ℕ)) → HasRisingKeys (changes_of old)
    → OnOk r (changes_of new ≡ insert_entry key_cmp (changes_of old) k v) → OnErr r (new ≡ old) → HasRisingKeys (changes_of new)
kept_rising (Ok done) old new k v rising ok err = subst (λ (cs : Changes). HasRisingKeys cs) (sym ok) (rising_put key_total k v (changes_of old) rising)
kept_rising (Err error) old new k v rising ok err = subst (λ (cs : List Change). HasRisingKeys (changes_of cs)) (sym err) rising

pub none_rising : (cs : List Change) → cs ≡ [] → HasRisingKeys (changes_of cs)
unfolding IsStrictlySortedBy
none_rising cs none = subst (λ (l : List Change). HasRisingKeys (changes_of l)) (sym none) tt

pub none_of : (cs : List Change) → changes_of cs ≡ [] → cs ≡ []
none_of [] none = refl
none_of (c ∷ cs) none = absurd (omega (arith, ap length none))

-- ---- the change at a place

pub free_behind : (cs : List Change) (k : Key) (at : ℕ) → length cs ≤ at → IsFree (drop at (changes_of cs)) k
free_behind [] k zero behind = tt
free_behind [] k (suc at) behind = tt
free_behind (c ∷ cs) k zero behind = absurd (omega (arith, behind))
free_behind (c ∷ cs) k (suc at) behind = free_behind cs k at (omega (arith, behind))

pub free_here : (cs : List Change) (k : Key) (at : ℕ) (d : Change) → at < length cs → is_eq (key_cmp k (get_or cs at d).key) ≡ false → IsFree (drop at (changes_of cs)) k
free_here [] k at d within other = absurd (omega (arith, within))
free_here (c ∷ cs) k zero d within other = other
free_here (c ∷ cs) k (suc at) d within other = free_here cs k at d (omega (arith, within)) other

pub same_here : (cs : List Change) (k : Key) (at : ℕ) (r d : Change) → at < length cs → is_eq (key_cmp k (get_or cs at r).key) ≡ true → (get_or cs at d).key ≡ k
same_here [] k at r d within same = absurd (omega (arith, within))
same_here (c ∷ cs) k zero r d within same = same_key k c.key same
same_here (c ∷ cs) k (suc at) r d within same = same_here cs k at r d (omega (arith, within)) same
