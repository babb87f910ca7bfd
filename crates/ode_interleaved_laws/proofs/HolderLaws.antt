-- Who holds what a step needs: nobody, and then the step stays apart from all others; or an open session that has it.
use Rattle.std.proofs.Common.{◌≡◌, ◌+◌, ◌≤◌, ℕ, Bool, true, false, cond, List, [], ◌∷◌, map, Option, Some, None, refl, sym, ap, ◌∙◌, subst, arith}
use Rattle.std.proofs.lemmas.Bool.{eqb-true, eq-eqb}
use Rattle.std.specs.List.{AllByRecursion, filter, find, list_any}
use Rattle.std.specs.Option.{option_map}
use Rattle.std.specs.Prelude.{◌&&◌, ◌||◌, nat_eq, not}
use Rattle.ode_footprint_laws.proofs.Among.{either_left, either_right, itself}
use Rattle.ode_footprint_laws.specs.Agreeing.{IsAmong}
use Rattle.ode_interleaved_laws.specs.Meeting.{AreApart, Clashes}
use Rattle.ode_laws.proofs.Numbers.{apart}
use Rattle.ode_machine.specs.Interleaving.{Holder, Open, first_with, holder, holder_of, holds_object, is_session, or_else, others_of, session_of}
use Rattle.ode_machine.specs.declared.owned.Owned.{Owned}
use Rattle.ode_machine.specs.declared.owned.Owned.TheVariants as on
use Rattle.ode_value.specs.Footprints.{Footprint}
use Rattle.ode_value.specs.GoodWorlds.{RiseFrom}

one_here : (i : ℕ) (ids : List ℕ) → IsAmong i (i ∷ ids)
one_here i ids = either_left (nat_eq i i) (list_any (nat_eq i) ids) (itself i)

one_more : (i : ℕ) (ids : List ℕ) (id : ℕ) → IsAmong id ids → IsAmong id (i ∷ ids)
one_more i ids id among = either_right (nat_eq id i) (list_any (nat_eq id) ids) among

-- ---- nobody

none_first : (a b : Option Holder) → or_else a b ≡ None → a ≡ None
none_first None b is = refl
none_first (Some h) b is = absurd (cc)

none_second : (a b : Option Holder) → or_else a b ≡ None → b ≡ None
none_second None b is = is
none_second (Some h) b is = absurd (cc)

pub find_none : (p : Open → Bool) (os : List Open) → find p os ≡ None → AllByRecursion (λ o. p o ≡ false) os
find_none p [] is = tt
find_none p (o ∷ os) is = by_test (p o) refl is (find_none p os) where
  by_test : (b : Bool) → p o ≡ b → cond b (Some o) (find p os) ≡ None → (find p os ≡ None → AllByRecursion (λ q. p q ≡ false) os) → AllByRecursion (λ q. p q ≡ false) (o ∷ os)
  by_test true e none rest = absurd (cc)
  by_test false e none rest = (e, rest none)

first_none : (what : Owned) (p : Open → Bool) (os : List Open) → first_with what p os ≡ None → AllByRecursion (λ o. p o ≡ false) os
first_none what p os is = find_none p os (by_found (find p os) is) where
  by_found : (o : Option Open) → option_map {U = Holder} (λ (q : Open). (q.session, what)) o ≡ None → o ≡ None
  by_found None e = refl
  by_found (Some o) e = absurd (cc)

objects_none : (ids : List ℕ) (os : List Open) → holder_of ids os ≡ None → (id : ℕ) → IsAmong id ids → AllByRecursion (λ o. holds_object id o ≡ false) os
objects_none [] os is id among = absurd (cc)
objects_none (i ∷ ids) os is id among = by_test (nat_eq id i) refl among (objects_none ids os (none_second (first_with (on.Object i) (holds_object i) os) (holder_of ids os) is) id) where
  by_test : (b : Bool) → nat_eq id i ≡ b → (b || list_any (nat_eq id) ids) ≡ true → (IsAmong id ids → AllByRecursion (λ o. holds_object id o ≡ false) os) → AllByRecursion (λ o. holds_object id o ≡ false) os
  by_test true e here rest =
      subst (λ n. AllByRecursion (λ o. holds_object n o ≡ false) os) (sym (eqb-true id i e))
      (first_none (on.Object i) (holds_object i) os (none_first (first_with (on.Object i) (holds_object i) os) (holder_of ids os) is))
  by_test false e here rest = rest here

-- two tests of which one fails
not_both : (a b : Bool) → (a && b) ≡ false → a ≡ true → b ≡ true → ⊥
not_both true true is e f = absurd (cc)
not_both true false is e f = absurd (cc)
not_both false b is e f = absurd (cc)

all_apart : (f : Footprint) (os : List Open) → AllByRecursion (λ o. (f.drew && o.held.drew) ≡ false) os → ((id : ℕ) → IsAmong id f.looked → AllByRecursion (λ o. holds_object id o ≡ false) os)
    → AllByRecursion (λ o. (f.queued && o.held.queued) ≡ false) os → AllByRecursion (λ (o : Open). AreApart f o.held) os
all_apart f [] numbers objects queue = tt
all_apart f (o ∷ os) numbers objects queue = (
  record {
    objects = λ id one two. let clash : true ≡ false = sym two ∙ (objects id one).0 in absurd (cc);
    numbers = not_both f.drew o.held.drew numbers.0;
    queue = not_both f.queued o.held.queued queue.0;
  },
  all_apart f os numbers.1 (λ id among. (objects id among).1) queue.1,
)

-- nobody holds what the step needs
pub record IsFree (alone : Bool) (f : Footprint) (others : List Open) : Type 0 where
  pub lone : alone ≡ true → others ≡ []
  pub apart : AllByRecursion (λ (o : Open). AreApart f o.held) others

pub none_holds : (alone : Bool) (f : Footprint) (others : List Open) → holder alone f others ≡ None → IsFree alone f others
none_holds alone f others is = record {
  lone = λ e. by_lone alone others e (first_none on.All (λ o. alone) others (none_first all rest is));
  apart =
      all_apart f others (first_none on.Numbers (λ o. f.drew && o.held.drew) others (none_first numbers behind (none_second all rest is)))
      (objects_none f.looked others (none_first objects queue (none_second numbers behind (none_second all rest is))))
      (first_none on.Queue (λ o. f.queued && o.held.queued) others (none_second objects queue (none_second numbers behind (none_second all rest is))));
}
  where
    all : Option Holder
    all = first_with on.All (λ o. alone) others

    numbers : Option Holder
    numbers = first_with on.Numbers (λ o. f.drew && o.held.drew) others

    objects : Option Holder
    objects = holder_of f.looked others

    queue : Option Holder
    queue = first_with on.Queue (λ o. f.queued && o.held.queued) others

    behind : Option Holder
    behind = or_else objects queue

    rest : Option Holder
    rest = or_else numbers behind

    by_lone : (a : Bool) (os : List Open) → a ≡ true → AllByRecursion (λ (o : Open). a ≡ false) os → os ≡ []
    by_lone a [] e fails = refl
    by_lone a (o ∷ os) e fails = let clash : true ≡ false = sym e ∙ fails.0 in absurd (cc)

-- ---- nobody, where all are apart

all_none : (p : Open → Bool) (os : List Open) → AllByRecursion (λ o. p o ≡ false) os → find p os ≡ None
all_none p [] all = refl
all_none p (o ∷ os) all = ap (λ b. cond b (Some o) (find p os)) all.0 ∙ all_none p os all.1

none_with : (what : Owned) (p : Open → Bool) (os : List Open) → AllByRecursion (λ o. p o ≡ false) os → first_with what p os ≡ None
none_with what p os all = ap (option_map (λ (o : Open). (o.session, what))) (all_none p os all)

none_of : (ids : List ℕ) (os : List Open) → ((id : ℕ) → IsAmong id ids → AllByRecursion (λ o. holds_object id o ≡ false) os) → holder_of ids os ≡ None
none_of [] os all = refl
none_of (i ∷ ids) os all =
    ap (λ h. or_else h (holder_of ids os)) (none_with (on.Object i) (holds_object i) os (all i (one_here i ids)))
    ∙ none_of ids os (λ id among. all id (one_more i ids id among))

-- what doesn't hold of both
fails_one : (a b : Bool) → (a ≡ true → b ≡ true → ⊥) → (a && b) ≡ false
fails_one true true none = absurd (none refl refl)
fails_one true false none = refl
fails_one false b none = refl

pub none_true : (b : Bool) → (b ≡ true → ⊥) → b ≡ false
none_true true none = absurd (none refl)
none_true false none = refl

all_numbers : (f : Footprint) (os : List Open) → AllByRecursion (λ (o : Open). AreApart f o.held) os → AllByRecursion (λ o. (f.drew && o.held.drew) ≡ false) os
all_numbers f [] all = tt
all_numbers f (o ∷ os) all = (fails_one f.drew o.held.drew all.0.numbers, all_numbers f os all.1)

all_queue : (f : Footprint) (os : List Open) → AllByRecursion (λ (o : Open). AreApart f o.held) os → AllByRecursion (λ o. (f.queued && o.held.queued) ≡ false) os
all_queue f [] all = tt
all_queue f (o ∷ os) all = (fails_one f.queued o.held.queued all.0.queue, all_queue f os all.1)

all_objects : (f : Footprint) (os : List Open) → AllByRecursion (λ (o : Open). AreApart f o.held) os → (id : ℕ) → IsAmong id f.looked → AllByRecursion (λ o. holds_object id o ≡ false) os
all_objects f [] all id among = tt
all_objects f (o ∷ os) all id among = (none_true (holds_object id o) (λ holds. all.0.objects id among holds), all_objects f os all.1 id among)

all_false : (os : List Open) → AllByRecursion (λ (o : Open). false ≡ false) os
all_false [] = tt
all_false (o ∷ os) = (refl, all_false os)

-- a step that needn't be alone, and is apart from all others
pub none_clashes : (f : Footprint) (others : List Open) → AllByRecursion (λ (o : Open). AreApart f o.held) others → holder false f others ≡ None
none_clashes f others all =
    ap (λ h. or_else h (or_else (first_with on.Numbers (λ o. f.drew && o.held.drew) others) (or_else (holder_of f.looked others) (first_with on.Queue (λ o. f.queued && o.held.queued) others))))
    (none_with on.All (λ o. false) others (all_false others))
    ∙ ap (λ h. or_else h (or_else (holder_of f.looked others) (first_with on.Queue (λ o. f.queued && o.held.queued) others))) (none_with on.Numbers (λ o. f.drew && o.held.drew) others (all_numbers f others all))
    ∙ ap (λ h. or_else h (first_with on.Queue (λ o. f.queued && o.held.queued) others)) (none_of f.looked others (all_objects f others all))
    ∙ none_with on.Queue (λ o. f.queued && o.held.queued) others (all_queue f others all)

-- ---- an open session

-- what is found among sessions by a test: it is the open one of its number, and passes
pub record IsFound (p : Open → Bool) (low : ℕ) (sessions : List Open) (o : Open) : Type 0 where
  pub at : session_of o.session sessions ≡ Some o
  pub least : low ≤ o.session
  pub passes : p o ≡ true

pub found_at : (p : Open → Bool) (low : ℕ) (sessions : List Open) → RiseFrom low (map (λ (o : Open). o.session) sessions) → (o : Open) → find p sessions ≡ Some o → IsFound p low sessions o
found_at p low [] rise o is = absurd (cc)
found_at p low (q ∷ more) rise o is = by_test (p q) refl is (found_at p (q.session + 1) more rise.1 o) where
  by_test : (b : Bool) → p q ≡ b → cond b (Some q) (find p more) ≡ Some o → (find p more ≡ Some o → IsFound p (q.session + 1) more o) → IsFound p low (q ∷ more) o
  by_test true e found rest =
      let same : q ≡ o = cc in
      subst (λ (s : Open). IsFound p low (q ∷ more) s) same (record { at = ap (λ b. cond b (Some q) (session_of q.session more)) (eq-eqb q.session q.session refl); least = rise.0; passes = e })
  by_test false e found rest =
      let it = rest found in
      let above : q.session + 1 ≤ o.session = it.least in
      let below : low ≤ q.session = rise.0 in
      record { at = ap (λ b. cond b (Some q) (session_of o.session more)) (apart q.session o.session (omega arith)) ∙ it.at; least = omega arith; passes = it.passes }

find_filter : (p r : Open → Bool) (os : List Open) → find p (filter r os) ≡ find (λ o. r o && p o) os
find_filter p r [] = refl
find_filter p r (o ∷ os) = by_test (r o) (find_filter p r os) where
  by_test : (b : Bool) → find p (filter r os) ≡ find (λ q. r q && p q) os → find p (cond b (o ∷ filter r os) (filter r os)) ≡ cond (b && p o) (Some o) (find (λ q. r q && p q) os)
  by_test true rest = ap (λ more. cond (p o) (Some o) more) rest
  by_test false rest = rest

pub by_both : (a b : Bool) → (a && b) ≡ true → (a ≡ true) × (b ≡ true)
by_both true true e = (refl, refl)
by_both true false e = absurd (cc)
by_both false b e = absurd (cc)

module _ (alone : Bool) (f : Footprint) (n : ℕ) (sessions : List Open) (rise : RiseFrom 0 (map (λ (o : Open). o.session) sessions)) where
  -- an open session, another than this one, that holds what the step needs
  pub record IsHeldBy (h : Holder) : Type 0 where
    pub one : Open
    pub at : session_of h.0 sessions ≡ Some one
    pub other : h.0 ≡ n → ⊥
    pub clashes : Clashes alone f h.1 one

  not_own : (o : Open) → not (is_session n o) ≡ true → o.session ≡ n → ⊥
  not_own o is same = let own : is_session n o ≡ true = eq-eqb o.session n same in by_test (is_session n o) is own where
    by_test : (b : Bool) → not b ≡ true → b ≡ true → ⊥
    by_test true e g = absurd (cc)
    by_test false e g = absurd (cc)

  held_first : (what : Owned) (p : Open → Bool) → ((o : Open) → p o ≡ true → Clashes alone f what o) → (h : Holder) → first_with what p (others_of n sessions) ≡ Some h → IsHeldBy h
  held_first what p clash h is = by_found (find p (others_of n sessions)) refl is where
    by_found : (a : Option Open) → find p (others_of n sessions) ≡ a → option_map (λ (o : Open). (o.session, what)) a ≡ Some h → IsHeldBy h
    by_found None e found = absurd (cc)
    by_found (Some o) e found =
        let it = found_at (λ q. not (is_session n q) && p q) 0 sessions rise o (sym (find_filter p (λ q. not (is_session n q)) sessions) ∙ e) in
        let passes = by_both (not (is_session n o)) (p o) it.passes in
        let same : (o.session, what) ≡ h = cc in
        subst IsHeldBy same (record { one = o; at = it.at; other = not_own o passes.0; clashes = clash o passes.1 })

  held_object : (ids : List ℕ) → ((id : ℕ) → IsAmong id ids → IsAmong id f.looked) → (h : Holder) → holder_of ids (others_of n sessions) ≡ Some h → IsHeldBy h
  held_object [] within h is = absurd (cc)
  held_object (i ∷ ids) within h is =
      by_first (first_with (on.Object i) (holds_object i) (others_of n sessions)) refl is (held_object ids (λ id among. within id (one_more i ids id among)) h)
    where
      here : IsAmong i (i ∷ ids)
      here = one_here i ids

      by_first : (a : Option Holder) → first_with (on.Object i) (holds_object i) (others_of n sessions) ≡ a → or_else a (holder_of ids (others_of n sessions)) ≡ Some h
          → (holder_of ids (others_of n sessions) ≡ Some h → IsHeldBy h) → IsHeldBy h
      by_first (Some g) e found rest = held_first (on.Object i) (holds_object i) (λ o has. (within i here, has)) h (e ∙ found)
      by_first None e found rest = rest found

  pub one_holds : (h : Holder) → holder alone f (others_of n sessions) ≡ Some h → IsHeldBy h
  one_holds h is = by_all (first_with on.All (λ o. alone) others) refl is where
    others : List Open
    others = others_of n sessions

    by_objects : (a : Option Holder) → holder_of f.looked others ≡ a → or_else a (first_with on.Queue (λ o. f.queued && o.held.queued) others) ≡ Some h → IsHeldBy h
    by_objects (Some g) e found = held_object f.looked (λ id among. among) h (e ∙ found)
    by_objects None e found = held_first on.Queue (λ o. f.queued && o.held.queued) (λ o has. by_both f.queued o.held.queued has) h found

    by_numbers : (a : Option Holder) → first_with on.Numbers (λ o. f.drew && o.held.drew) others ≡ a → or_else a (or_else (holder_of f.looked others) (first_with on.Queue (λ o. f.queued && o.held.queued) others)) ≡ Some h → IsHeldBy h
    by_numbers (Some g) e found = held_first on.Numbers (λ o. f.drew && o.held.drew) (λ o has. by_both f.drew o.held.drew has) h (e ∙ found)
    by_numbers None e found = by_objects (holder_of f.looked others) refl found

    by_all : (a : Option Holder) → first_with on.All (λ o. alone) others ≡ a
        → or_else a (or_else (first_with on.Numbers (λ o. f.drew && o.held.drew) others) (or_else (holder_of f.looked others) (first_with on.Queue (λ o. f.queued && o.held.queued) others))) ≡ Some h → IsHeldBy h
    by_all (Some g) e found = held_first on.All (λ o. alone) (λ o has. has) h (e ∙ found)
    by_all None e found = by_numbers (first_with on.Numbers (λ o. f.drew && o.held.drew) others) refl found
