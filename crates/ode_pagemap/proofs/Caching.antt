-- Pages in a cache: one that is used comes first.
use Rattle.std.proofs.Common.{◌≡◌, ◌<◌, ◌≤◌, ℕ, suc, zero, ◌-◌, List, [], ◌∷◌, Bool, true, false, cond, nat_eq, length, take, Option, Some, None, IsSome, refl, sym, ap, subst, ◌∙◌, arith, length-take}
use Rattle.std.specs.Prelude.{not}
use Rattle.std.specs.List.{AllByRecursion, IsDistinct, filter}
use Rattle.std.specs.Map.{keys_of, lookup, lookup_entry, remove_entry}
use Rattle.std.specs.Option.{option_map_or}
use Rattle.std.proofs.lemmas.List.{take-map, take_all}
use Rattle.std.specs.Cmp.{nat_eq_equiv}
use Rattle.std.proofs.lemmas.Map.{lookup-none}
use Rattle.std.proofs.lemmas.Map.Entries.{none_past_head}
use Rattle.std.proofs.lemmas.Map.Keys.{IsDistinct-head, IsDistinct-tail}
use Rattle.std.proofs.lemmas.Map.Views.{exact_unsigned_eq}
use Rattle.std.specs.Prelude.{Result, Ok, Err, OnErr, OnOk}
use Rattle.lru.specs.LruCache.{LruCache, lru_cache, promoted, put_entries}
use Rattle.ode_pagemap.specs.Cached.{used}

-- what has another number than this one
abbrev others : ℕ → List ℕ → List ℕ
others n ks = filter (λ m. not (nat_eq n m)) ks

no_other : (n : ℕ) (ks : List ℕ) → AllByRecursion (λ m. nat_eq n m ≡ false) ks → others n ks ≡ ks
no_other n [] all = refl
no_other n (k ∷ ks) all =
    ap (λ (b : Bool). cond (not b) (k ∷ others n ks) (others n ks)) all.0
    ∙ ap (λ (l : List ℕ). k ∷ l) (no_other n ks all.1)

module _ {X : Type 0} (n : ℕ) where
  none_at : (b : Bool) (x : X) (found : Option X) → cond b (Some x) found ≡ None → (b ≡ false) × (found ≡ None)
  none_at true x found none = absurd (cc (none))
  none_at false x found none = (refl, none)

  all_differ : (es : List (ℕ × X)) → lookup (nat_eq n) es ≡ None → AllByRecursion (λ m. nat_eq n m ≡ false) (keys_of es)
  all_differ [] none = tt
  all_differ (e ∷ es) none = let both = none_at (nat_eq n e.0) e.1 (lookup (nat_eq n) es) none in (both.0, all_differ es both.1)

  -- ---- one that isn't held

  -- numbers are those of a page that is taken in, and behind it those there were, as many as there is room for
  pub taken_keys : (most : ℕ) (x : X) (es : List (ℕ × X)) → lookup (nat_eq n) es ≡ None → keys_of (take most ((n, x) ∷ es)) ≡ used most n (keys_of es)
  taken_keys most x es none =
      sym (take-map (λ (e : ℕ × X). e.0) most ((n, x) ∷ es))
      ∙ ap (λ (l : List ℕ). take most (n ∷ l)) (sym (no_other n (keys_of es) (all_differ es none)))

  no_entry_at : (b : Bool) (e : ℕ × X) (found : Option X) (entry : Option (ℕ × X)) → (found ≡ None → entry ≡ None) → cond b (Some e.1) found ≡ None → cond b (Some e) entry ≡ None
  no_entry_at true e found entry more none = absurd (cc (none))
  no_entry_at false e found entry more none = more none

  no_entry : (es : List (ℕ × X)) → lookup (nat_eq n) es ≡ None → lookup_entry (nat_eq n) es ≡ None
  no_entry [] none = refl
  no_entry (e ∷ es) none = no_entry_at (nat_eq n e.0) e (lookup (nat_eq n) es) (lookup_entry (nat_eq n) es) (no_entry es) none

  front_taken : (cap : ℕ) (e : ℕ × X) (es : List (ℕ × X)) → 0 < cap → e ∷ take (cap - 1) es ≡ take cap (e ∷ es)
  front_taken zero e es some = absurd (omega (arith, some))
  front_taken (suc cap) e es some = let less : suc cap - 1 ≡ cap = omega arith in ap (λ (k : ℕ). e ∷ take k es) less

  module _ (x : X) (cache : LruCache ℕ X) (none : lookup (nat_eq n) cache.entries ≡ None) (some : 0 < cache.cap) where
    -- what a cache has in which one was put
    pub put_taken : put_entries nat_eq cache n x ≡ take cache.cap ((n, x) ∷ cache.entries)
    put_taken =
        ap (λ (o : Option (ℕ × X)). option_map_or (λ (e : ℕ × X). (e.0, x) ∷ remove_entry (nat_eq n) cache.entries) o ((n, x) ∷ take (cache.cap - 1) cache.entries)) (no_entry cache.entries none)
        ∙ front_taken cache.cap (n, x) cache.entries some

    -- there is room for it
    pub put_within : {A E : Type 0} (r : Result A E) (now : LruCache ℕ X) → length cache.entries ≤ cache.cap → OnOk r (now ≡ lru_cache (put_entries nat_eq cache n x) cache.cap) → OnErr r (now ≡ cache)
        → length now.entries ≤ now.cap
    put_within (Ok a) now within put same =
        subst (λ (c : LruCache ℕ X). length c.entries ≤ c.cap) (sym put)
        (subst (λ (l : List (ℕ × X)). length l ≤ cache.cap) (sym put_taken) (omega (arith, length-take cache.cap ((n, x) ∷ cache.entries))))
    put_within (Err e) now within put same = subst (λ (c : LruCache ℕ X). length c.entries ≤ c.cap) (sym same) within

  -- ---- one that is held

  found_at : (b : Bool) (k : ℕ) (x : X) (found : Option X) (entry : Option (ℕ × X)) → (b ≡ true → k ≡ n) → ((y : X) → found ≡ Some y → entry ≡ Some (n, y))
      → (y : X) → cond b (Some x) found ≡ Some y → cond b (Some (k, x)) entry ≡ Some (n, y)
  found_at true k x found entry same more y is = let here : x ≡ y = cc (is) in λ i. Some (same refl i, here i)
  found_at false k x found entry same more y is = more y is

  entry_found : (es : List (ℕ × X)) (x : X) → lookup (nat_eq n) es ≡ Some x → lookup_entry (nat_eq n) es ≡ Some (n, x)
  entry_found [] x found = absurd (cc (found))
  entry_found (e ∷ es) x found =
      found_at (nat_eq n e.0) e.0 e.1 (lookup (nat_eq n) es) (lookup_entry (nat_eq n) es) (λ is. sym (exact_unsigned_eq n e.0 is)) (λ y more. entry_found es y more) x found

  removed_at : (b : Bool) (e : ℕ × X) (es rest : List (ℕ × X)) → (b ≡ true → others n (keys_of es) ≡ keys_of es) → keys_of rest ≡ others n (keys_of es)
      → keys_of (cond b es (e ∷ rest)) ≡ cond (not b) (e.0 ∷ others n (keys_of es)) (others n (keys_of es))
  removed_at true e es rest none more = sym (none refl)
  removed_at false e es rest none more = ap (λ (l : List ℕ). e.0 ∷ l) more

  removed_keys : (es : List (ℕ × X)) → IsDistinct nat_eq (keys_of es) → keys_of (remove_entry (nat_eq n) es) ≡ others n (keys_of es)
  removed_keys [] distinct = refl
  removed_keys (e ∷ es) distinct =
      removed_at (nat_eq n e.0) e es (remove_entry (nat_eq n) es)
      (λ is. no_other n (keys_of es) (subst (λ (k : ℕ). AllByRecursion (λ m. nat_eq k m ≡ false) (keys_of es)) (sym (exact_unsigned_eq n e.0 is)) (IsDistinct-head nat_eq e.0 (keys_of es) distinct)))
      (removed_keys es (IsDistinct-tail nat_eq e.0 (keys_of es) distinct))

  one_less_at : (b : Bool) (e : ℕ × X) (es rest : List (ℕ × X)) (found : Option X) → (IsSome found → suc (length rest) ≡ length es) → IsSome (cond b (Some e.1) found) → suc (length (cond b es (e ∷ rest))) ≡ suc (length es)
  one_less_at true e es rest found more some = refl
  one_less_at false e es rest found more some = ap suc (more some)

  one_less : (es : List (ℕ × X)) → IsSome (lookup (nat_eq n) es) → suc (length (remove_entry (nat_eq n) es)) ≡ length es
  one_less [] some = absurd (cc (some))
  one_less (e ∷ es) some = one_less_at (nat_eq n e.0) e es (remove_entry (nat_eq n) es) (lookup (nat_eq n) es) (one_less es) some

  some_of : (found : Option X) → IsSome found → (x : X) × (found ≡ Some x)
  some_of None some = absurd (cc (some))
  some_of (Some x) some = (x, refl)

  in_front : (es : List (ℕ × X)) (x : X) → lookup (nat_eq n) es ≡ Some x → promoted (nat_eq n) es ≡ (n, x) ∷ remove_entry (nat_eq n) es
  in_front es x found = ap (λ (o : Option (ℕ × X)). option_map_or (λ (e : ℕ × X). e ∷ remove_entry (nat_eq n) es) o es) (entry_found es x found)

  -- as many as there were
  pub promoted_length : (es : List (ℕ × X)) → IsSome (lookup (nat_eq n) es) → length (promoted (nat_eq n) es) ≡ length es
  promoted_length es some =
      let found = some_of (lookup (nat_eq n) es) some in
      ap (λ (l : List (ℕ × X)). length l) (in_front es found.0 found.1) ∙ one_less es some

  -- its number comes first, and then the others
  pub promoted_keys : (most : ℕ) (es : List (ℕ × X)) → IsSome (lookup (nat_eq n) es) → IsDistinct nat_eq (keys_of es) → length es ≤ most → keys_of (promoted (nat_eq n) es) ≡ used most n (keys_of es)
  promoted_keys most es some distinct within =
      let found = some_of (lookup (nat_eq n) es) some in
      let here : promoted (nat_eq n) es ≡ (n, found.0) ∷ remove_entry (nat_eq n) es = in_front es found.0 found.1 in
      let short : length ((n, found.0) ∷ remove_entry (nat_eq n) es) ≤ most = omega (arith, one_less es some, within) in
      ap (λ (l : List (ℕ × X)). keys_of l) (here ∙ sym (take_all most ((n, found.0) ∷ remove_entry (nat_eq n) es) short))
      ∙ sym (take-map (λ (e : ℕ × X). e.0) most ((n, found.0) ∷ remove_entry (nat_eq n) es))
      ∙ ap (λ (l : List ℕ). take most (n ∷ l)) (removed_keys es distinct)

  -- ---- one that is let go

  fewer_at : (b : Bool) (e : ℕ × X) (es rest : List (ℕ × X)) → length rest ≤ length es → length (cond b es (e ∷ rest)) ≤ suc (length es)
  fewer_at true e es rest more = omega arith
  fewer_at false e es rest more = omega (arith, more)

  pub fewer : (es : List (ℕ × X)) → length (remove_entry (nat_eq n) es) ≤ length es
  fewer [] = omega arith
  fewer (e ∷ es) = fewer_at (nat_eq n e.0) e es (remove_entry (nat_eq n) es) (fewer es)

  gone_at_lookup : (b : Bool) (e : ℕ × X) (es rest : List (ℕ × X)) → nat_eq n e.0 ≡ b → (b ≡ true → lookup (nat_eq n) es ≡ None) → lookup (nat_eq n) rest ≡ None
      → lookup (nat_eq n) (cond b es (e ∷ rest)) ≡ None
  gone_at_lookup true e es rest is none more = none refl
  gone_at_lookup false e es rest is none more = ap (λ (b : Bool). cond b (Some e.1) (lookup (nat_eq n) rest)) is ∙ more

  -- it isn't there any more
  pub none_left : (es : List (ℕ × X)) → IsDistinct nat_eq (keys_of es) → lookup (nat_eq n) (remove_entry (nat_eq n) es) ≡ None
  none_left [] distinct = refl
  none_left (e ∷ es) distinct =
      gone_at_lookup (nat_eq n e.0) e es (remove_entry (nat_eq n) es) refl
      (λ is. lookup-none (nat_eq n) es (none_past_head nat_eq_equiv n e es distinct is))
      (none_left es (IsDistinct-tail nat_eq e.0 (keys_of es) distinct))

  -- ---- what holds of all pages

  module _ (P : ℕ × X → Type 0) where
    here_at : (b : Bool) (e : ℕ × X) (found : Option X) → (b ≡ true → e.0 ≡ n) → P e → ((x : X) → found ≡ Some x → P (n, x)) → (x : X) → cond b (Some e.1) found ≡ Some x → P (n, x)
    here_at true e found same here more x is = let value : e.1 ≡ x = cc (is) in subst P (λ i. (same refl i, value i)) here
    here_at false e found same here more x is = more x is

    -- holds of one that is held
    pub all_found : (es : List (ℕ × X)) (x : X) → AllByRecursion P es → lookup (nat_eq n) es ≡ Some x → P (n, x)
    all_found [] x all found = absurd (cc (found))
    all_found (e ∷ es) x all found = here_at (nat_eq n e.0) e (lookup (nat_eq n) es) (λ is. sym (exact_unsigned_eq n e.0 is)) all.0 (λ y more. all_found es y all.1 more) x found

    all_take : (most : ℕ) (es : List (ℕ × X)) → AllByRecursion P es → AllByRecursion P (take most es)
    all_take zero es all = tt
    all_take (suc most) [] all = tt
    all_take (suc most) (e ∷ es) all = (all.0, all_take most es all.1)

    -- and of those that are held after one was taken in
    pub all_taken : (most : ℕ) (x : X) (es : List (ℕ × X)) → P (n, x) → AllByRecursion P es → AllByRecursion P (take most ((n, x) ∷ es))
    all_taken most x es here all = all_take most ((n, x) ∷ es) (here, all)

    gone_at : (b : Bool) (e : ℕ × X) (es rest : List (ℕ × X)) → P e → AllByRecursion P es → AllByRecursion P rest → AllByRecursion P (cond b es (e ∷ rest))
    gone_at true e es rest here all more = all
    gone_at false e es rest here all more = (here, more)

    -- and after one was let go
    pub all_gone : (es : List (ℕ × X)) → AllByRecursion P es → AllByRecursion P (remove_entry (nat_eq n) es)
    all_gone [] all = tt
    all_gone (e ∷ es) all = gone_at (nat_eq n e.0) e es (remove_entry (nat_eq n) es) all.0 all.1 (all_gone es all.1)

    -- and after one was used
    pub all_promoted : (es : List (ℕ × X)) → IsSome (lookup (nat_eq n) es) → AllByRecursion P es → AllByRecursion P (promoted (nat_eq n) es)
    all_promoted es some all =
        let found = some_of (lookup (nat_eq n) es) some in
        subst (λ (l : List (ℕ × X)). AllByRecursion P l) (sym (in_front es found.0 found.1)) (all_found es found.0 all found.1, all_gone es all)
