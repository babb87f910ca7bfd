-- Records cut at a key: what is asked of the key, or changed under it, is asked and changed between the cuts.
use Rattle.std.proofs.Common.{◌≡◌, ℕ, List, [], ◌∷◌, ◌++◌, Bool, true, false, cond, Option, Some, None, ◌<◌, ◌-◌, ◌≤◌, suc, refl, sym, ap, ◌∙◌, length, take, drop, get_or, arith}
use Rattle.std.specs.Prelude.{◌&&◌, not}
use Rattle.std.specs.BTreeMap.{insert_entry, is_at}
use Rattle.std.specs.List.{AllByRecursion, filter}
use Rattle.std.specs.List.Sorted.{IsStrictlySortedBy}
use Rattle.std.specs.Map.{lookup, keys_of, remove_entry, set_value}
use Rattle.std.specs.Ordering.{is_eq, is_le, match_ordering, ordering_reverse}
use Rattle.std.specs.declared.cmp.Ordering.{Ordering}
use Rattle.std.specs.declared.cmp.Ordering.TheVariants.{Less, Equal, Greater}
use Rattle.std.proofs.Math.ListN.{drop_of_length-le}
use Rattle.std.proofs.Math.Seq.{drop-cons}
use Rattle.std.proofs.lemmas.Cmp.{tied_itself}
use Rattle.std.proofs.lemmas.List.{take-append-drop}
use Rattle.std.proofs.lemmas.List.Elements.{All-from_recursion, filter-append, recursion_from_All}
use Rattle.std.proofs.lemmas.Map.Views.{All-keys-insert_entry}
use Rattle.ode_value.specs.declared.key.Key.{Key}
use Rattle.ode_value.specs.Keys.{key_cmp}
use Rattle.ode_value.specs.Records.{Row}
use Rattle.ode_keep.specs.Entries.{Entries, HasRisingKeys, changed, entries_from, value_under}
use Rattle.ode_keep.proofs.Keys.{key_total}
use Rattle.ode_chunks.specs.Cuts.{AreAbove, AreBelow, IsCut}

-- what holds of all holds of all, where it is less
pub all_less : {X : Type 0} (P Q : X → Type 0) → ((x : X) → P x → Q x) → (xs : List X) → AllByRecursion P xs → AllByRecursion Q xs
all_less P Q less [] all = tt
all_less P Q less (x ∷ xs) all = (less x all.0, all_less P Q less xs all.1)

-- a list without items is empty
pub no_items : (rows : Entries) → length rows ≡ 0 → rows ≡ []
no_items [] none = refl
no_items (r ∷ rows) none = absurd (omega arith)

-- the keys of two lists
pub keys_joined : {X : Type 0} (P : Key → Type 0) (xs ys : List (Key × X)) → AllByRecursion P (keys_of xs) → AllByRecursion P (keys_of ys) → AllByRecursion P (keys_of (xs ++ ys))
keys_joined P [] ys front back = back
keys_joined P (x ∷ xs) ys front back = (front.0, keys_joined P xs ys front.1 back)

-- those of the first of them
pub keys_front : {X : Type 0} (P : Key → Type 0) (xs ys : List (Key × X)) → AllByRecursion P (keys_of (xs ++ ys)) → AllByRecursion P (keys_of xs)
keys_front P [] ys all = tt
keys_front P (x ∷ xs) ys all = (all.0, keys_front P xs ys all.1)

-- and of the second
pub keys_behind : {X : Type 0} (P : Key → Type 0) (xs ys : List (Key × X)) → AllByRecursion P (keys_of (xs ++ ys)) → AllByRecursion P (keys_of ys)
keys_behind P [] ys all = all
keys_behind P (x ∷ xs) ys all = keys_behind P xs ys all.1

-- a key is above one that is below it
pub turned : (y k : Key) → key_cmp y k ≡ Less → key_cmp k y ≡ Greater
turned y k less = key_total.antisymm k y ∙ ap ordering_reverse less

-- a key is at itself
itself : (k : Key) → is_at (key_cmp k) k ≡ true
itself k = ap is_eq (tied_itself key_total k)

below_if_at : (k y : Key) (r : Ordering) → key_cmp k y ≡ r → is_le r ≡ false → key_cmp y k ≡ Less
below_if_at k y Less is gone = absurd (cc (gone))
below_if_at k y Equal is gone = absurd (cc (gone))
below_if_at k y Greater is gone = key_total.antisymm y k ∙ ap ordering_reverse is

-- a key that isn't at or above another is below it
pub below_if : (k y : Key) → is_le (key_cmp k y) ≡ false → key_cmp y k ≡ Less
below_if k y gone = below_if_at k y (key_cmp k y) refl gone

le_less_at : (x y z : Key) (r : Ordering) → key_cmp x y ≡ r → is_le r ≡ true → key_cmp y z ≡ Less → key_cmp x z ≡ Less
le_less_at x y z Less is le less = key_total.trans x y z is less
le_less_at x y z Equal is le less = key_total.congr x y z is ∙ less
le_less_at x y z Greater is le less = absurd (cc (le))

-- at or below a key that is below another
pub le_less : (x y z : Key) → is_le (key_cmp x y) ≡ true → key_cmp y z ≡ Less → key_cmp x z ≡ Less
le_less x y z le less = le_less_at x y z (key_cmp x y) refl le less

less_le_at : (x y z : Key) (r : Ordering) → key_cmp y z ≡ r → is_le r ≡ true → key_cmp x y ≡ Less → key_cmp x z ≡ Less
less_le_at x y z Less is le less = key_total.trans x y z less is
less_le_at x y z Equal is le less =
    let back : key_cmp z y ≡ Equal = key_total.antisymm z y ∙ ap ordering_reverse is in
    let same : key_cmp z x ≡ key_cmp y x = key_total.congr z y x back in
    key_total.antisymm x z ∙ ap ordering_reverse (same ∙ turned x y less)
less_le_at x y z Greater is le less = absurd (cc (le))

-- below a key that is at or below another
pub less_le : (x y z : Key) → key_cmp x y ≡ Less → is_le (key_cmp y z) ≡ true → key_cmp x z ≡ Less
less_le x y z less le = less_le_at x y z (key_cmp y z) refl le less

-- ---- a list with keys below in front

module _ {X : Type 0} where
  insert_below : (bs es : List (Key × X)) (k : Key) (v : X) → AreBelow k (keys_of bs) → insert_entry key_cmp (bs ++ es) k v ≡ bs ++ insert_entry key_cmp es k v
  insert_below [] es k v below = refl
  insert_below (b ∷ bs) es k v below =
      ap (λ r. match_ordering r ((k, v) ∷ b ∷ (bs ++ es)) ((b.0, v) ∷ (bs ++ es)) (b ∷ insert_entry key_cmp (bs ++ es) k v)) (turned b.0 k below.0)
      ∙ ap (λ l. b ∷ l) (insert_below bs es k v below.1)

  lookup_below : (bs es : List (Key × X)) (k : Key) → AreBelow k (keys_of bs) → lookup (is_at (key_cmp k)) (bs ++ es) ≡ lookup (is_at (key_cmp k)) es
  lookup_below [] es k below = refl
  lookup_below (b ∷ bs) es k below =
      ap (λ r. cond (is_eq r) (Some b.1) (lookup (is_at (key_cmp k)) (bs ++ es))) (turned b.0 k below.0)
      ∙ lookup_below bs es k below.1

  set_below : (bs es : List (Key × X)) (k : Key) (w : X) → AreBelow k (keys_of bs) → set_value (is_at (key_cmp k)) (bs ++ es) w ≡ bs ++ set_value (is_at (key_cmp k)) es w
  set_below [] es k w below = refl
  set_below (b ∷ bs) es k w below =
      ap (λ r. cond (is_eq r) ((b.0, w) ∷ (bs ++ es)) (b ∷ set_value (is_at (key_cmp k)) (bs ++ es) w)) (turned b.0 k below.0)
      ∙ ap (λ l. b ∷ l) (set_below bs es k w below.1)

  remove_below : (bs es : List (Key × X)) (k : Key) → AreBelow k (keys_of bs) → remove_entry (is_at (key_cmp k)) (bs ++ es) ≡ bs ++ remove_entry (is_at (key_cmp k)) es
  remove_below [] es k below = refl
  remove_below (b ∷ bs) es k below =
      ap (λ r. cond (is_eq r) (bs ++ es) (b ∷ remove_entry (is_at (key_cmp k)) (bs ++ es))) (turned b.0 k below.0)
      ∙ ap (λ l. b ∷ l) (remove_below bs es k below.1)

  -- what stands under a key behind those below it is found, set and removed
  pub found_behind : (bs es : List (Key × X)) (k : Key) (v : X) → AreBelow k (keys_of bs) → lookup (is_at (key_cmp k)) (bs ++ (k, v) ∷ es) ≡ Some v
  found_behind bs es k v below = lookup_below bs ((k, v) ∷ es) k below ∙ ap (λ b. cond b (Some v) (lookup (is_at (key_cmp k)) es)) (itself k)

  pub set_behind : (bs es : List (Key × X)) (k : Key) (v w : X) → AreBelow k (keys_of bs) → set_value (is_at (key_cmp k)) (bs ++ (k, v) ∷ es) w ≡ bs ++ (k, w) ∷ es
  set_behind bs es k v w below = set_below bs ((k, v) ∷ es) k w below ∙ ap (λ b. bs ++ cond b ((k, w) ∷ es) ((k, v) ∷ set_value (is_at (key_cmp k)) es w)) (itself k)

  pub removed_behind : (bs es : List (Key × X)) (k : Key) (v : X) → AreBelow k (keys_of bs) → remove_entry (is_at (key_cmp k)) (bs ++ (k, v) ∷ es) ≡ bs ++ es
  removed_behind bs es k v below = remove_below bs ((k, v) ∷ es) k below ∙ ap (λ b. bs ++ cond b es ((k, v) ∷ remove_entry (is_at (key_cmp k)) es)) (itself k)

  -- a key above those in front and below the next goes between them
  pub inserted_behind : (bs es : List (Key × X)) (k q : Key) (v w : X) → AreBelow k (keys_of bs) → key_cmp k q ≡ Less → insert_entry key_cmp (bs ++ (q, w) ∷ es) k v ≡ bs ++ (k, v) ∷ (q, w) ∷ es
  inserted_behind bs es k q v w below less =
      insert_below bs ((q, w) ∷ es) k v below
      ∙ ap (λ r. bs ++ match_ordering r ((k, v) ∷ (q, w) ∷ es) ((q, v) ∷ es) ((q, w) ∷ insert_entry key_cmp es k v)) less

  -- ---- and with keys above behind

  insert_above_at : (k : Key) (v : X) (m : Key × X) (ms ss rest more : List (Key × X)) (r : Ordering) → rest ≡ more ++ ss
      → match_ordering r ((k, v) ∷ m ∷ (ms ++ ss)) ((m.0, v) ∷ (ms ++ ss)) (m ∷ rest) ≡ match_ordering r ((k, v) ∷ m ∷ ms) ((m.0, v) ∷ ms) (m ∷ more) ++ ss
  insert_above_at k v m ms ss rest more Less is = refl
  insert_above_at k v m ms ss rest more Equal is = refl
  insert_above_at k v m ms ss rest more Greater is = ap (λ l. m ∷ l) is

  insert_above : (ms ss : List (Key × X)) (k : Key) (v : X) → AreAbove k (keys_of ss) → insert_entry key_cmp (ms ++ ss) k v ≡ insert_entry key_cmp ms k v ++ ss
  insert_above [] [] k v above = refl
  insert_above [] (s ∷ ss) k v above = ap (λ r. match_ordering r ((k, v) ∷ s ∷ ss) ((s.0, v) ∷ ss) (s ∷ insert_entry key_cmp ss k v)) above.0
  insert_above (m ∷ ms) ss k v above = insert_above_at k v m ms ss (insert_entry key_cmp (ms ++ ss) k v) (insert_entry key_cmp ms k v) (key_cmp k m.0) (insert_above ms ss k v above)

  lookup_above : (ms ss : List (Key × X)) (k : Key) → AreAbove k (keys_of ss) → lookup (is_at (key_cmp k)) (ms ++ ss) ≡ lookup (is_at (key_cmp k)) ms
  lookup_above [] [] k above = refl
  lookup_above [] (s ∷ ss) k above = ap (λ r. cond (is_eq r) (Some s.1) (lookup (is_at (key_cmp k)) ss)) above.0 ∙ lookup_above [] ss k above.1
  lookup_above (m ∷ ms) ss k above = ap (λ l. cond (is_at (key_cmp k) m.0) (Some m.1) l) (lookup_above ms ss k above)

  -- ---- what a test keeps

  -- all
  kept : (p : Key → Bool) (es : List (Key × X)) → AllByRecursion (λ y. p y ≡ true) (keys_of es) → filter (λ e. p e.0) es ≡ es
  kept p [] all = refl
  kept p (e ∷ es) all = ap (λ b. cond b (e ∷ filter (λ e. p e.0) es) (filter (λ e. p e.0) es)) all.0 ∙ ap (λ l. e ∷ l) (kept p es all.1)

  -- and nothing
  pub gone : (p : Key → Bool) (es : List (Key × X)) → AllByRecursion (λ y. p y ≡ false) (keys_of es) → filter (λ e. p e.0) es ≡ []
  gone p [] all = refl
  gone p (e ∷ es) all = ap (λ b. cond b (e ∷ filter (λ e. p e.0) es) (filter (λ e. p e.0) es)) all.0 ∙ gone p es all.1

-- ---- records that are cut

-- a test that both ends pass tests the middle
between : (p : Key → Bool) (bs ms ss : Entries) → AllByRecursion (λ y. p y ≡ true) (keys_of bs) → AllByRecursion (λ y. p y ≡ true) (keys_of ss)
    → filter (λ e. p e.0) (bs ++ (ms ++ ss)) ≡ bs ++ (filter (λ e. p e.0) ms ++ ss)
between p bs ms ss front back =
    filter-append (λ e. p e.0) bs (ms ++ ss)
    ∙ ap (λ l. l ++ filter (λ e. p e.0) (ms ++ ss)) (kept p bs front)
    ∙ ap (λ l. bs ++ l) (filter-append (λ e. p e.0) ms ss ∙ ap (λ l. filter (λ e. p e.0) ms ++ l) (kept p ss back))

-- a change of the parts changes the middle
changed_parts : (bs ms ss : Entries) (k : Key) (w : Option (List ℕ)) → AreBelow k (keys_of bs) → AreAbove k (keys_of ss) → changed (bs ++ (ms ++ ss)) k w ≡ bs ++ (changed ms k w ++ ss)
changed_parts bs ms ss k None below above =
    between (λ y. not (is_at (key_cmp k) y)) bs ms ss
    (all_less (λ y. key_cmp y k ≡ Less) (λ y. not (is_at (key_cmp k) y) ≡ true) (λ y less. ap (λ r. not (is_eq r)) (turned y k less)) (keys_of bs) below)
    (all_less (λ y. key_cmp k y ≡ Less) (λ y. not (is_at (key_cmp k) y) ≡ true) (λ y less. ap (λ r. not (is_eq r)) less) (keys_of ss) above)
changed_parts bs ms ss k (Some v) below above = insert_below bs (ms ++ ss) k v below ∙ ap (λ l. bs ++ l) (insert_above ms ss k v above)

-- a change changes what is between
pub changed_between : (rows : Entries) (k : Key) (before here behind : Entries) (w : Option (List ℕ)) → IsCut rows k before here behind → changed rows k w ≡ before ++ (changed here k w ++ behind)
changed_between rows k before here behind w cut = ap (λ l. changed l k w) cut.whole ∙ changed_parts before here behind k w cut.below cut.above

-- the value under the key is there
pub value_between : (rows : Entries) (k : Key) (before here behind : Entries) → IsCut rows k before here behind → value_under rows k ≡ value_under here k
value_between rows k before here behind cut = ap (λ l. value_under l k) cut.whole ∙ lookup_below before (here ++ behind) k cut.below ∙ lookup_above here behind k cut.above

-- the records from the key on begin there
pub from_between : (rows : Entries) (k : Key) (before here behind : Entries) → IsCut rows k before here behind → entries_from rows k ≡ entries_from here k ++ behind
from_between rows k before here behind cut =
    ap (λ l. entries_from l k) cut.whole
    ∙ filter-append (λ e. is_le (key_cmp k e.0)) before (here ++ behind)
    ∙ ap (λ l. l ++ entries_from (here ++ behind) k) (gone (λ y. is_le (key_cmp k y)) before (all_less (λ y. key_cmp y k ≡ Less) (λ y. is_le (key_cmp k y) ≡ false) (λ y less. ap is_le (turned y k less)) (keys_of before) cut.below))
    ∙ filter-append (λ e. is_le (key_cmp k e.0)) here behind
    ∙ ap (λ l. entries_from here k ++ l) (kept (λ y. is_le (key_cmp k y)) behind (all_less (λ y. key_cmp k y ≡ Less) (λ y. is_le (key_cmp k y) ≡ true) (λ y less. ap is_le less) (keys_of behind) cut.above))

filtered_at : (P : Key → Type 0) (e : Row) (rest : Entries) (b : Bool) → P e.0 → AllByRecursion P (keys_of rest) → AllByRecursion P (keys_of (cond b (e ∷ rest) rest))
filtered_at P e rest true here all = (here, all)
filtered_at P e rest false here all = all

-- what all keys have, those that pass have
filtered : (P : Key → Type 0) (test : Row → Bool) (rows : Entries) → AllByRecursion P (keys_of rows) → AllByRecursion P (keys_of (filter test rows))
filtered P test [] all = tt
filtered P test (e ∷ rows) all = filtered_at P e (filter test rows) (test e) all.0 (filtered P test rows all.1)

-- what all keys have and the key of a change has, all keys have after it
pub changed_keys : (P : Key → Type 0) (rows : Entries) (k : Key) (o : Option (List ℕ)) → AllByRecursion P (keys_of rows) → P k → AllByRecursion P (keys_of (changed rows k o))
changed_keys P rows k None all here = filtered P (λ e. not (is_at (key_cmp k) e.0)) rows all
changed_keys P rows k (Some v) all here =
    recursion_from_All P (keys_of (insert_entry key_cmp rows k v)) (All-keys-insert_entry key_cmp k v P rows (All-from_recursion P (keys_of rows) all) here)

-- one record under its key: it is changed, stands there, and is at the key
pub one_changed : (k : Key) (v w : List ℕ) → changed ((k, v) ∷ []) k (Some w) ≡ (k, w) ∷ []
one_changed k v w = ap (λ r. match_ordering r ((k, w) ∷ (k, v) ∷ []) ((k, w) ∷ []) ((k, v) ∷ (k, w) ∷ [])) (tied_itself key_total k)

pub one_gone : (k : Key) (v : List ℕ) → changed ((k, v) ∷ []) k None ≡ []
one_gone k v = ap (λ b. cond (not b) ((k, v) ∷ []) []) (itself k)

pub one_under : (k : Key) (v : List ℕ) → value_under ((k, v) ∷ []) k ≡ Some v
one_under k v = ap (λ b. cond b (Some v) None) (itself k)

pub one_from : (k : Key) (v : List ℕ) → entries_from ((k, v) ∷ []) k ≡ (k, v) ∷ []
one_from k v = ap (λ r. cond (is_le r) ((k, v) ∷ []) []) (tied_itself key_total k)

-- the keys that rise, in two parts
pub rising_below : {X : Type 0} (bs : List (Key × X)) (e : Key × X) (es : List (Key × X)) → HasRisingKeys (bs ++ e ∷ es) → AreBelow e.0 (keys_of bs)
unfolding IsStrictlySortedBy
rising_below [] e es rising = tt
rising_below (b ∷ bs) e es rising = ((keys_behind (λ y. key_cmp b.0 y ≡ Less) bs (e ∷ es) rising.0).0, rising_below bs e es rising.1)

-- those behind rise
pub rising_behind : {X : Type 0} (bs es : List (Key × X)) → HasRisingKeys (bs ++ es) → HasRisingKeys es
unfolding IsStrictlySortedBy
rising_behind [] es rising = rising
rising_behind (b ∷ bs) es rising = rising_behind bs es rising.1

-- and are above the one in front of them
pub rising_above : {X : Type 0} (bs : List (Key × X)) (e : Key × X) (es : List (Key × X)) → HasRisingKeys (bs ++ e ∷ es) → AreAbove e.0 (keys_of es)
unfolding IsStrictlySortedBy
rising_above bs e es rising = (rising_behind bs (e ∷ es) rising).0

and_true : (b : Bool) → (b && not false) ≡ b
and_true true = refl
and_true false = refl

-- what a range without an end has
pub range_from : {X : Type 0} (k : Key) (es : List (Key × X)) → filter (λ e. is_le (key_cmp k e.0) && not false) es ≡ filter (λ e. is_le (key_cmp k e.0)) es
range_from k es = ap (λ p. filter p es) (λ i e. and_true (is_le (key_cmp k e.0)) i)

-- records of which this is the last
pub last_split : (rows : Entries) (r : Row) → 0 < length rows → r ≡ get_or rows (length rows - 1) r → rows ≡ take (length rows - 1) rows ++ r ∷ []
last_split rows r some is =
    let within : length rows - 1 < length rows = omega arith in
    let long : length rows ≤ suc (length rows - 1) = omega arith in
    let none : drop (suc (length rows - 1)) rows ≡ [] = drop_of_length-le rows long in
    sym (take-append-drop (length rows - 1) rows)
    ∙ ap (λ (l : Entries). take (length rows - 1) rows ++ l) (drop-cons rows (length rows - 1) r within ∙ ap (λ (q : Row). q ∷ drop (suc (length rows - 1)) rows) (sym is))
    ∙ ap (λ (l : Entries). take (length rows - 1) rows ++ r ∷ l) none

-- no key is above that of the last one in front of those above it
pub up_to : (front : Entries) (r : Row) → AreBelow r.0 (keys_of front) → AllByRecursion (λ y. is_le (key_cmp y r.0) ≡ true) (keys_of (front ++ r ∷ []))
up_to front r below =
    keys_joined (λ y. is_le (key_cmp y r.0) ≡ true) front (r ∷ [])
    (all_less (λ y. key_cmp y r.0 ≡ Less) (λ y. is_le (key_cmp y r.0) ≡ true) (λ y less. ap is_le less) (keys_of front) below)
    (ap is_le (tied_itself key_total r.0), tt)
