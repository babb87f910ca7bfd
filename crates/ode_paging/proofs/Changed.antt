-- Keys that are made room for, and lead where they are to lead then.
use Rattle.std.proofs.Common.{◌≡◌, ◌<◌, ℕ, zero, suc, ◌+◌, List, [], ◌∷◌, ◌++◌, drop, reverse, take, arith, get_or, Bool, true, false, cond, length, Option, Some, None, Result, Ok, Err, OnErr, OnOk, refl, sym, ap, subst, ◌∙◌}
use Rattle.std.specs.Prelude.{IsSome}
use Rattle.std.specs.BTreeMap.{insert_entry, is_at}
use Rattle.std.specs.List.{AllByRecursion}
use Rattle.std.specs.List.Sorted.{IsStrictlySortedBy}
use Rattle.std.specs.Map.{lookup, keys_of}
use Rattle.std.specs.Option.{IfSome, is_some}
use Rattle.std.specs.Ordering.{is_eq}
use Rattle.std.specs.declared.cmp.Ordering.{Ordering}
use Rattle.std.specs.declared.cmp.Ordering.TheVariants.{Less}
use Rattle.std.proofs.lemmas.Cmp.{tied_itself}
use Rattle.std.proofs.lemmas.List.{drop_more, reverse-append, take_more}
use Rattle.ode_value.specs.declared.key.Key.{Key}
use Rattle.ode_value.specs.Keys.{key_cmp}
use Rattle.ode_keep.specs.Entries.{HasRisingKeys}
use Rattle.ode_keep.proofs.Keys.{key_total, same_key}
use Rattle.ode_keep.proofs.Maps.{lookup_put}
use Rattle.ode_keep.proofs.SameMaps.{same_map}
use Rattle.ode_paging.specs.Changing.{ArePresent, IsPresent, forgotten}
use Rattle.ode_paging.specs.Indexing.{Leads}
use Rattle.ode_paging.specs.Making.{Moves, all_pointed}
use Rattle.ode_paging.specs.Replacing.{pointed}
use Rattle.ode_paging.proofs.Made.{no_pointer}
use Rattle.ode_paging.proofs.Replaced.{pointed_at, pointed_rising, pointed_twice}

-- A key of these moves may be pointed anywhere before.
swapped_at : (b c : Bool) → (b ≡ true → c ≡ true → ⊥) → (x y found : Option ℕ) → cond c y (cond b x found) ≡ cond b x (cond c y found)
swapped_at true true apart x y found = absurd (apart refl refl)
swapped_at true false apart x y found = refl
swapped_at false c apart x y found = refl

swapped : (leads : Leads) (k l : Key) (x y : Option ℕ) → HasRisingKeys leads → is_at (key_cmp k) l ≡ false → pointed (pointed leads k x) l y ≡ pointed (pointed leads l y) k x
swapped leads k l x y rising other =
    let first = pointed_rising leads k x rising in
    let second = pointed_rising leads l y rising in
    same_map (pointed (pointed leads k x) l y) (pointed (pointed leads l y) k x) (pointed_rising (pointed leads k x) l y first) (pointed_rising (pointed leads l y) k x second)
    (λ q. pointed_at (pointed leads k x) l y q first
    ∙ ap (λ (f : Option ℕ). cond (is_at (key_cmp l) q) y f) (pointed_at leads k x q rising)
    ∙ swapped_at (is_at (key_cmp k) q) (is_at (key_cmp l) q)
    (λ at_k at_l. let same : k ≡ l = sym (same_key k q at_k) ∙ same_key l q at_l in
    let there : is_at (key_cmp k) l ≡ true = ap (λ (z : Key). is_at (key_cmp k) z) (sym (same_key l q at_l)) ∙ at_k in cc (other, there))
    x y (lookup (is_at (key_cmp q)) leads)
    ∙ ap (λ (f : Option ℕ). cond (is_at (key_cmp k) q) x f) (sym (pointed_at leads l y q rising))
    ∙ sym (pointed_at (pointed leads l y) k x q second))

-- the key is one of those of the moves
abbrev Moved : Key → Moves → Type 0
Moved k moves = IsSome (lookup (is_at (key_cmp k)) moves)

absorbed_at : (m : Key × Option ℕ) (moves : Moves) (leads : Leads) (k : Key) (x : Option ℕ) → HasRisingKeys leads
    → (HasRisingKeys (pointed leads m.0 m.1) → Moved k moves → all_pointed moves (pointed (pointed leads m.0 m.1) k x) ≡ all_pointed moves (pointed leads m.0 m.1))
    → (b : Bool) → is_at (key_cmp k) m.0 ≡ b → IsSome (cond b (Some m.1) (lookup (is_at (key_cmp k)) moves))
    → all_pointed moves (pointed (pointed leads k x) m.0 m.1) ≡ all_pointed moves (pointed leads m.0 m.1)
absorbed_at m moves leads k x rising more true is some =
    let same : m.0 ≡ k = same_key k m.0 is in
    ap (λ (l : Leads). all_pointed moves l)
    (ap (λ (z : Key). pointed (pointed leads z x) m.0 m.1) (sym same) ∙ pointed_twice leads m.0 x m.1 rising)
absorbed_at m moves leads k x rising more false is some =
    ap (λ (l : Leads). all_pointed moves l) (swapped leads k m.0 x m.1 rising is) ∙ more (pointed_rising leads m.0 m.1 rising) some

pub absorbed : (moves : Moves) (leads : Leads) (k : Key) (x : Option ℕ) → HasRisingKeys leads → Moved k moves → all_pointed moves (pointed leads k x) ≡ all_pointed moves leads
absorbed [] leads k x rising moved = absurd (cc (moved))
absorbed (m ∷ moves) leads k x rising moved =
    absorbed_at m moves leads k x rising (λ order later. absorbed moves (pointed leads m.0 m.1) k x order later) (is_at (key_cmp k) m.0) refl moved

-- Presence.
some_at : (b : Bool) (page : ℕ) (found : Option ℕ) → IsSome found → IsSome (cond b (Some page) found)
some_at true page found some = refl
some_at false page found some = some

put_some : (leads : Leads) (k : Key) (page : ℕ) (q : Key) → IsSome (lookup (is_at (key_cmp q)) leads) → IsSome (lookup (is_at (key_cmp q)) (insert_entry key_cmp leads k page))
put_some leads k page q some =
    subst (λ (o : Option ℕ). IsSome o) (sym (lookup_put key_total k page q leads)) (some_at (is_at (key_cmp k) q) page (lookup (is_at (key_cmp q)) leads) some)

if_some : {P Q : Type 0} (o : Option ℕ) → (P → Q) → IfSome o (λ _. P) → IfSome o (λ _. Q)
if_some None to was = tt
if_some (Some page) to was = to was

pub present_put : (moves : Moves) (leads : Leads) (k : Key) (page : ℕ) → ArePresent moves leads → ArePresent moves (insert_entry key_cmp leads k page)
present_put [] leads k page present = tt
present_put (m ∷ moves) leads k page present = (if_some m.1 (put_some leads k page m.0) present.0, present_put moves leads k page present.1)

pub present_push : (moves : Moves) (m : Key × Option ℕ) (leads : Leads) → ArePresent moves leads → IfSome m.1 (λ _. IsSome (lookup (is_at (key_cmp m.0)) leads)) → ArePresent (moves ++ m ∷ []) leads
present_push [] m leads present here = (here, tt)
present_push (n ∷ moves) m leads present here = (present.0, present_push moves m leads present.1 here)

-- a key that is put is there
pub put_there : (leads : Leads) (k : Key) (page : ℕ) → IsSome (lookup (is_at (key_cmp k)) (insert_entry key_cmp leads k page))
put_there leads k page =
    subst (λ (o : Option ℕ). IsSome o) (sym (lookup_put key_total k page k leads))
    (ap (λ (r : Ordering). is_some (cond (is_eq r) (Some page) (lookup (is_at (key_cmp k)) leads))) (tied_itself key_total k))

later_some : (b : Bool) (x : Option ℕ) (found : Option (Option ℕ)) → IsSome found → IsSome (cond b (Some x) found)
later_some true x found some = refl
later_some false x found some = some

moved_at : (moves : Moves) (i : ℕ) (d : Key × Option ℕ) → i < length moves → IsSome (lookup (is_at (key_cmp (get_or moves i d).0)) moves)
moved_at [] i d within = absurd (omega (arith, within))
moved_at (m ∷ moves) zero d within =
    ap (λ (r : Ordering). is_some (cond (is_eq r) (Some m.1) (lookup (is_at (key_cmp m.0)) moves))) (tied_itself key_total m.0)
moved_at (m ∷ moves) (suc i) d within =
    later_some (is_at (key_cmp (get_or moves i d).0) m.0) m.1 (lookup (is_at (key_cmp (get_or moves i d).0)) moves) (moved_at moves i d (omega (arith, within)))

-- one key more is noted
pub back_more : (leads after : Leads) (added noted : List Key) (k : Key) (page : ℕ) (old : Leads) → HasRisingKeys leads → lookup (is_at (key_cmp k)) leads ≡ None
    → after ≡ insert_entry key_cmp leads k page → noted ≡ added ++ k ∷ [] → forgotten (reverse added) leads ≡ old → forgotten (reverse noted) after ≡ old
back_more leads after added noted k page old rising none made is before =
    (λ i. forgotten (reverse (is i)) (made i))
    ∙ ap (λ (ks : List Key). forgotten ks (insert_entry key_cmp leads k page)) (reverse-append added (k ∷ []))
    ∙ ap (λ (l : Leads). forgotten (reverse added) l) (pointed_twice leads k (Some page) None rising ∙ no_pointer leads k rising none)
    ∙ before

-- What making room for one key leaves.
pub on_ok : {T E : Type 0} {P Q : Type 0} (r : Result T E) → OnOk r P → (P → Q) → OnOk r Q
on_ok (Ok x) was to = to was
on_ok (Err e) was to = tt

pub room_there : (leads after : Leads) (k : Key) (page : ℕ) (o : Option ℕ) → o ≡ Some page → after ≡ insert_entry key_cmp leads k page → IsPresent after k o
room_there leads after k page o is made =
    subst (λ (p : Option ℕ). IsPresent after k p) (sym is) (subst (λ (l : Leads). IsSome (lookup (is_at (key_cmp k)) l)) (sym made) (put_there leads k page))

pub room_back : {T E : Type 0} (r : Result T E) (leads after : Leads) (added noted : List Key) (k : Key) (page : ℕ) (old : Leads) → OnOk r (after ≡ insert_entry key_cmp leads k page)
    → OnOk r (noted ≡ added ++ k ∷ []) → OnErr r (after ≡ leads) → OnErr r (noted ≡ added) → HasRisingKeys leads → lookup (is_at (key_cmp k)) leads ≡ None
    → forgotten (reverse added) leads ≡ old → forgotten (reverse noted) after ≡ old
room_back (Ok x) leads after added noted k page old made is same no_note rising none before = back_more leads after added noted k page old rising none made is before
room_back (Err e) leads after added noted k page old made is same no_note rising none before = (λ i. forgotten (reverse (no_note i)) (same i)) ∙ before

-- keys above one that moves are still there
pub present_after : (moves : Moves) (leads : Leads) (k : Key) (page : Option ℕ) → HasRisingKeys leads → AllByRecursion (λ (y : Key). key_cmp k y ≡ Less) (keys_of moves) → ArePresent moves leads
    → ArePresent moves (pointed leads k page)
present_after [] leads k page rising above present = tt
present_after (m ∷ moves) leads k page rising above present = (
  if_some m.1
      (λ some. subst (λ (o : Option ℕ). IsSome o)
      (sym (pointed_at leads k page m.0 rising ∙ ap (λ (r : Ordering). cond (is_eq r) page (lookup (is_at (key_cmp m.0)) leads)) above.0)) some)
      present.0,
  present_after moves leads k page rising above.1 present.1,
)

-- One step through the moves.
module _ (moves : Moves) (i : ℕ) (d : Key × Option ℕ) (within : i < length moves) where
  abbrev item : Key × Option ℕ
  item = get_or moves i d

  rest_is : drop i moves ≡ item ∷ drop (i + 1) moves
  rest_is = drop_more moves i d within

  pub item_moves : IsSome (lookup (is_at (key_cmp item.0)) moves)
  item_moves = moved_at moves i d within

  pub present_more : (leads : Leads) → ArePresent (take i moves) leads → IsPresent leads item.0 item.1 → ArePresent (take (i + 1) moves) leads
  present_more leads present here = subst (λ (ms : Moves). ArePresent ms leads) (sym (take_more moves i d within)) (present_push (take i moves) item leads present here)

  pub item_present : (leads : Leads) → ArePresent (drop i moves) leads → IsPresent leads item.0 item.1
  item_present leads present = (subst (λ (ms : Moves). ArePresent ms leads) rest_is present).0

  module _ (leads after : Leads) (rising : HasRisingKeys (drop i moves)) (order : HasRisingKeys leads) (made : after ≡ pointed leads item.0 item.1) where
    pub ahead_more : (whole : Leads) → all_pointed (drop i moves) leads ≡ whole → all_pointed (drop (i + 1) moves) after ≡ whole
    ahead_more whole so_far =
        ap (λ (l : Leads). all_pointed (drop (i + 1) moves) l) made ∙ ap (λ (ms : Moves). all_pointed ms leads) (sym rest_is) ∙ so_far

    pub still_present : ArePresent (drop i moves) leads → ArePresent (drop (i + 1) moves) after
    unfolding IsStrictlySortedBy
    still_present present =
        let keys = subst (λ (ms : Moves). HasRisingKeys ms) rest_is rising in
        let there = subst (λ (ms : Moves). ArePresent ms leads) rest_is present in
        subst (λ (l : Leads). ArePresent (drop (i + 1) moves) l) (sym made) (present_after (drop (i + 1) moves) leads item.0 item.1 order keys.0 there.1)

    pub rest_rising : HasRisingKeys (drop (i + 1) moves)
    unfolding IsStrictlySortedBy
    rest_rising = (subst (λ (ms : Moves). HasRisingKeys ms) rest_is rising).1

    pub still_ordered : HasRisingKeys after
    still_ordered = subst (λ (l : Leads). HasRisingKeys l) (sym made) (pointed_rising leads item.0 item.1 order)
