-- What is found under a number in the queue.
use Rattle.std.proofs.Common.{◌≡◌, ◌≢◌, ℕ, ◌+◌, ◌<◌, ◌≤◌, Bool, true, false, cond, not, List, [], ◌∷◌, ◌++◌, map, length, ◌==◌, Option, Some, None, refl, sym, ap, ◌∙◌, subst, arith}
use Rattle.std.specs.List.{AllByRecursion, enumerate_from, filter}
use Rattle.std.proofs.lemmas.Bool.{eqb-true, eqb-false, ne_eqb, eq-eqb}
use Rattle.ode_value.specs.GoodWorlds.{RiseFrom}
use Rattle.ode_value.specs.Worlds.{Entry, Bones, kept_at}
use Rattle.ode_laws.proofs.Each.{all-append, all-then}
use Rattle.ode_laws.proofs.Numbers.{apart, rise_lower}
use Rattle.ode_queue_laws.specs.Entries.{HasNumberedQueue, AddsEntries}

abbrev Rows : Type 0
Rows = List (ℕ × Entry)

abbrev number_in : ℕ × Entry → ℕ
number_in q = q.0

abbrev pub AreBelow : ℕ → Rows → Type 0
AreBelow next qs = AllByRecursion (λ (q : ℕ × Entry). q.0 < next) qs

abbrev pub HaveRisen : Rows → Type 0
HaveRisen qs = RiseFrom 0 (map number_in qs)

abbrev pub AreFrom : ℕ → Rows → Type 0
AreFrom low qs = AllByRecursion (λ (q : ℕ × Entry). low ≤ q.0) qs

-- ---- what stands under a number

pub none_behind : (n : ℕ) (xs ys : Rows) → kept_at n xs ≡ None → kept_at n (xs ++ ys) ≡ kept_at n ys
none_behind n [] ys none = refl
none_behind n (q ∷ xs) ys none = by_test (q.0 == n) none (none_behind n xs ys) where
  by_test : (b : Bool) → cond b (Some q.1) (kept_at n xs) ≡ None → (kept_at n xs ≡ None → kept_at n (xs ++ ys) ≡ kept_at n ys) → cond b (Some q.1) (kept_at n (xs ++ ys)) ≡ kept_at n ys
  by_test true e rest = absurd (cc)
  by_test false e rest = rest e

pub some_before : (n : ℕ) (xs ys : Rows) (e : Entry) → kept_at n xs ≡ Some e → kept_at n (xs ++ ys) ≡ Some e
some_before n [] ys e some = absurd (cc)
some_before n (q ∷ xs) ys e some = by_test (q.0 == n) some (some_before n xs ys e) where
  by_test : (b : Bool) → cond b (Some q.1) (kept_at n xs) ≡ Some e → (kept_at n xs ≡ Some e → kept_at n (xs ++ ys) ≡ Some e) → cond b (Some q.1) (kept_at n (xs ++ ys)) ≡ Some e
  by_test true is rest = is
  by_test false is rest = rest is

-- none stands under a number above all
pub none_above : (next n : ℕ) (xs : Rows) → next ≤ n → AreBelow next xs → kept_at n xs ≡ None
none_above next n [] up below = refl
none_above next n (q ∷ xs) up below =
    let here : q.0 < next = below.0 in ap (λ b. cond b (Some q.1) (kept_at n xs)) (apart q.0 n (omega arith)) ∙ none_above next n xs up below.1

-- nor under one below all
pub none_below : (low n : ℕ) (xs : Rows) → n < low → AreFrom low xs → kept_at n xs ≡ None
none_below low n [] less from = refl
none_below low n (q ∷ xs) less from = let here : low ≤ q.0 = from.0 in ap (λ b. cond b (Some q.1) (kept_at n xs)) (ne_eqb q.0 n (omega arith)) ∙ none_below low n xs less from.1

pub some_is_below : (next n : ℕ) (xs : Rows) (e : Entry) → AreBelow next xs → kept_at n xs ≡ Some e → n < next
some_is_below next n [] e below some = absurd (cc)
some_is_below next n (q ∷ xs) e below some = by_test (q.0 == n) (eqb-true q.0 n) some (some_is_below next n xs e below.1) where
  by_test : (b : Bool) → (b ≡ true → q.0 ≡ n) → cond b (Some q.1) (kept_at n xs) ≡ Some e → (kept_at n xs ≡ Some e → n < next) → n < next
  by_test true same is rest = let here : q.0 < next = below.0 in let it : q.0 ≡ n = same refl in omega arith
  by_test false same is rest = rest is

-- ---- new entries

pub new_from : (from : ℕ) (es : List Entry) → AreFrom from (enumerate_from from es)
new_from from [] = tt
new_from from (e ∷ es) = (omega arith, all-then (λ (q : ℕ × Entry). from + 1 ≤ q.0) (λ (q : ℕ × Entry). from ≤ q.0) (λ q up. omega arith) (enumerate_from (from + 1) es) (new_from (from + 1) es))

pub new_below : (from : ℕ) (es : List Entry) → AreBelow (from + length es) (enumerate_from from es)
new_below from [] = tt
new_below from (e ∷ es) =
    let next : from + 1 + length es ≡ from + length (e ∷ es) = omega arith in
    (omega arith, subst (λ m. AreBelow m (enumerate_from (from + 1) es)) next (new_below (from + 1) es))

pub new_rise : (from : ℕ) (es : List Entry) → RiseFrom from (map number_in (enumerate_from from es))
new_rise from [] = tt
new_rise from (e ∷ es) = (omega arith, new_rise (from + 1) es)

-- each of their numbers is given
pub new_given : (from n : ℕ) (es : List Entry) → from ≤ n → kept_at n (enumerate_from from es) ≡ None → from + length es ≤ n
new_given from n [] up none = omega arith
new_given from n (e ∷ es) up none = by_test (from == n) (eqb-false from n) none (new_given (from + 1) n es) where
  by_test : (b : Bool) → (b ≡ false → from ≢ n) → cond b (Some e) (kept_at n (enumerate_from (from + 1) es)) ≡ None
      → (from + 1 ≤ n → kept_at n (enumerate_from (from + 1) es) ≡ None → from + 1 + length es ≤ n) → from + length (e ∷ es) ≤ n
  by_test true differ is rest = absurd (cc)
  by_test false differ is rest = let unlike : from ≢ n = differ refl in let free : from + 1 + length es ≤ n = rest (omega arith) is in omega arith

-- ---- numbers that rise

pub rise_from : (low : ℕ) (xs : Rows) → RiseFrom low (map number_in xs) → AreFrom low xs
rise_from low [] rise = tt
rise_from low (q ∷ xs) rise = let here : low ≤ q.0 = rise.0 in (here, all-then (λ (p : ℕ × Entry). q.0 + 1 ≤ p.0) (λ (p : ℕ × Entry). low ≤ p.0) (λ p up. omega arith) xs (rise_from (q.0 + 1) xs rise.1))

rise_append : (low n : ℕ) (xs ys : Rows) → low ≤ n → RiseFrom low (map number_in xs) → AreBelow n xs → RiseFrom n (map number_in ys) → RiseFrom low (map number_in (xs ++ ys))
rise_append low n [] ys less rise below more = rise_lower low n (map number_in ys) less more
rise_append low n (q ∷ xs) ys less rise below more = let here : q.0 < n = below.0 in (rise.0, rise_append (q.0 + 1) n xs ys (omega arith) rise.1 below.1 more)

filter_all : (p : ℕ × Entry → Bool) (xs : Rows) → AllByRecursion (λ q. p q ≡ true) xs → filter p xs ≡ xs
filter_all p [] all = refl
filter_all p (q ∷ xs) all = ap (λ b. cond b (q ∷ filter p xs) (filter p xs)) all.0 ∙ ap (λ ys. q ∷ ys) (filter_all p xs all.1)

-- those behind the front
pub rise_rest : (q : ℕ × Entry) (rest : Rows) → HaveRisen (q ∷ rest) → HaveRisen rest
rise_rest q rest rise = rise_lower 0 (q.0 + 1) (map number_in rest) (omega arith) rise.1

-- all but the front
pub without_front : (q : ℕ × Entry) (rest : Rows) → HaveRisen (q ∷ rest) → filter (λ (p : ℕ × Entry). not (p.0 == q.0)) (q ∷ rest) ≡ rest
without_front q rest rise =
    ap (λ b. cond (not b) (q ∷ filter (λ (p : ℕ × Entry). not (p.0 == q.0)) rest) (filter (λ (p : ℕ × Entry). not (p.0 == q.0)) rest)) (eq-eqb q.0 q.0 refl)
    ∙ filter_all (λ (p : ℕ × Entry). not (p.0 == q.0)) rest
    (all-then (λ (p : ℕ × Entry). q.0 + 1 ≤ p.0) (λ (p : ℕ × Entry). not (p.0 == q.0) ≡ true) (λ p up. ap not (ne_eqb p.0 q.0 (omega arith))) rest (rise_from (q.0 + 1) rest rise.1))

-- none of a number that is left out
pub filter_gone : (n : ℕ) (xs : Rows) → kept_at n (filter (λ (p : ℕ × Entry). not (p.0 == n)) xs) ≡ None
filter_gone n [] = refl
filter_gone n (q ∷ xs) = by_test (q.0 == n) refl (filter_gone n xs) where
  by_test : (b : Bool) → (q.0 == n) ≡ b → kept_at n (filter (λ (p : ℕ × Entry). not (p.0 == n)) xs) ≡ None
      → kept_at n (cond (not b) (q ∷ filter (λ (p : ℕ × Entry). not (p.0 == n)) xs) (filter (λ (p : ℕ × Entry). not (p.0 == n)) xs)) ≡ None
  by_test true e rest = rest
  by_test false e rest = ap (λ b. cond b (Some q.1) (kept_at n (filter (λ (p : ℕ × Entry). not (p.0 == n)) xs))) e ∙ rest

-- ---- a queue with new entries

module _ (old new : Bones) (stay : Rows) (generation : ℕ) (adds : AddsEntries old new stay generation) where
  pub next_up : old.next_entry ≤ new.next_entry
  next_up = let next : new.next_entry ≡ old.next_entry + length adds.entries = adds.next in omega arith

  pub adds_numbered : HaveRisen stay → AreBelow old.next_entry stay → HasNumberedQueue new
  adds_numbered rise below = record {
    rising = subst HaveRisen (sym adds.queue)
        (rise_append 0 old.next_entry stay (enumerate_from old.next_entry adds.entries) (omega arith) rise below (new_rise old.next_entry adds.entries));
    given = subst (λ (qs : Rows). AreBelow new.next_entry qs) (sym adds.queue)
        (all-append (λ (q : ℕ × Entry). q.0 < new.next_entry) stay (enumerate_from old.next_entry adds.entries)
        (all-then (λ (q : ℕ × Entry). q.0 < old.next_entry) (λ (q : ℕ × Entry). q.0 < new.next_entry) (λ q less. let up : old.next_entry ≤ new.next_entry = next_up in omega arith) stay below)
        (subst (λ m. AreBelow m (enumerate_from old.next_entry adds.entries)) (sym adds.next) (new_below old.next_entry adds.entries)));
  }

  -- an old number is found where it was among those that stay
  pub old_found : (n : ℕ) → n < old.next_entry → kept_at n new.queue ≡ kept_at n stay
  old_found n less = ap (λ (qs : Rows). kept_at n qs) adds.queue ∙ by_found (kept_at n stay) refl where
    by_found : (m : Option Entry) → kept_at n stay ≡ m → kept_at n (stay ++ enumerate_from old.next_entry adds.entries) ≡ m
    by_found None e = none_behind n stay (enumerate_from old.next_entry adds.entries) e ∙ none_below old.next_entry n (enumerate_from old.next_entry adds.entries) less (new_from old.next_entry adds.entries)
    by_found (Some f) e = some_before n stay (enumerate_from old.next_entry adds.entries) f e

  -- a new number that isn't found isn't given
  pub new_found : (n : ℕ) → AreBelow old.next_entry stay → old.next_entry ≤ n → kept_at n new.queue ≡ None → new.next_entry ≤ n
  new_found n below up none =
      let free : old.next_entry + length adds.entries ≤ n =
      new_given old.next_entry n adds.entries up
      (sym (none_behind n stay (enumerate_from old.next_entry adds.entries) (none_above old.next_entry n stay up below)) ∙ sym (ap (λ (qs : Rows). kept_at n qs) adds.queue) ∙ none) in
      let next : new.next_entry ≡ old.next_entry + length adds.entries = adds.next in
      omega arith
