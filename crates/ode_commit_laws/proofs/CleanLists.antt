-- Objects without those that aren't live and without activations that are off.
use Rattle.std.proofs.Common.{◌≡◌, ◌==◌, ℕ, ◌+◌, ◌<◌, ◌≤◌, List, [], ◌∷◌, map, Bool, true, false, cond, not, Option, Some, None, refl, sym, ap, ◌∙◌, arith}
use Rattle.std.proofs.lemmas.Bool.{eqb-true}
use Rattle.std.proofs.lemmas.Bool.Decides.{nat_tests}
use Rattle.std.specs.Prelude.{◌&&◌, ◌||◌}
use Rattle.std.specs.List.{filter, find, list_any}
use Rattle.std.specs.Option.{option_and_then, option_map}
use Rattle.ode_laws.proofs.Rows.{id_of}
use Rattle.ode_value.specs.Denoting.{if_live, object_at, object_numbered}
use Rattle.ode_value.specs.Firings.{after_firings, ends_by, object_after}
use Rattle.ode_value.specs.GoodWorlds.{RiseFrom}
use Rattle.ode_value.specs.Keeping.{is_active, is_there, kept_bones, kept_object}
use Rattle.ode_value.specs.Objects.{Activation}
use Rattle.ode_value.specs.Transactions.{Firing}
use Rattle.ode_value.specs.Worlds.{Bones, Object, with_object}

above : (a b low : ℕ) → a < low → low ≤ b → (b == a) ≡ false
above a b low less up = grind (arith, nat_tests)

-- ---- activations

abbrev pub of_number : ℕ → Activation → Bool
of_number n a = a.number == n

abbrev pub number_of : Activation → ℕ
number_of a = a.number

twice : (acts : List Activation) → filter is_active (filter is_active acts) ≡ filter is_active acts
twice [] = refl
twice (a ∷ acts) = by_on a.on refl (twice acts) where
  by_on : (b : Bool) → a.on ≡ b → filter is_active (filter is_active acts) ≡ filter is_active acts → filter is_active (cond b (a ∷ filter is_active acts) (filter is_active acts)) ≡ cond b (a ∷ filter is_active acts) (filter is_active acts)
  by_on true is more = ap (λ t. cond t (a ∷ filter is_active (filter is_active acts)) (filter is_active (filter is_active acts))) is ∙ ap (λ (bs : List Activation). a ∷ bs) more
  by_on false is more = more

pub kept_twice : (o : Object) → kept_object (kept_object o) ≡ kept_object o
kept_twice o = ap (λ (acts : List Activation). record o { activations = acts }) (twice o.activations)

-- those that firings leave on were on
after_on : (fs : List Firing) (acts : List Activation) → filter is_active (map (after_firings fs) (filter is_active acts)) ≡ filter is_active (map (after_firings fs) acts)
after_on fs [] = refl
after_on fs (a ∷ acts) = by_on a.on refl (after_on fs acts) where
  by_on : (b : Bool) → a.on ≡ b → filter is_active (map (after_firings fs) (filter is_active acts)) ≡ filter is_active (map (after_firings fs) acts)
      → filter is_active (map (after_firings fs) (cond b (a ∷ filter is_active acts) (filter is_active acts)))
      ≡ cond (a.on && not (list_any (ends_by a.number) fs)) (after_firings fs a ∷ filter is_active (map (after_firings fs) acts)) (filter is_active (map (after_firings fs) acts))
  by_on true is more = ap (λ (bs : List Activation). cond (a.on && not (list_any (ends_by a.number) fs)) (after_firings fs a ∷ bs) bs) more
  by_on false is more =
      more ∙ sym (ap (λ t. cond (t && not (list_any (ends_by a.number) fs)) (after_firings fs a ∷ filter is_active (map (after_firings fs) acts)) (filter is_active (map (after_firings fs) acts))) is)

pub kept_after : (fs : List Firing) (o : Object) → kept_object (object_after fs (kept_object o)) ≡ kept_object (object_after fs o)
kept_after fs o = ap (λ (acts : List Activation). record o { activations = acts }) (after_on fs o.activations)

none_later : (n low : ℕ) (acts : List Activation) → n < low → RiseFrom low (map number_of acts) → list_any (of_number n) (filter is_active acts) ≡ false
none_later n low [] less rise = refl
none_later n low (a ∷ acts) less rise = by_on a.on (none_later n (a.number + 1) acts (let up : low ≤ a.number = rise.0 in omega arith) rise.1) where
  by_on : (b : Bool) → list_any (of_number n) (filter is_active acts) ≡ false → list_any (of_number n) (cond b (a ∷ filter is_active acts) (filter is_active acts)) ≡ false
  by_on true more = let up : low ≤ a.number = rise.0 in ap (λ t. t || list_any (of_number n) (filter is_active acts)) (above n a.number low less up) ∙ more
  by_on false more = more

-- one that is on is found as before
pub found_on : (n low : ℕ) (acts : List Activation) → RiseFrom low (map number_of acts) → list_any (of_number n) (filter is_active acts) ≡ true → find (of_number n) (filter is_active acts) ≡ find (of_number n) acts
found_on n low [] rise has = refl
found_on n low (a ∷ acts) rise has = by_tests a.on (a.number == n) refl has (λ more. found_on n (a.number + 1) acts rise.1 more) where
  by_tests : (b t : Bool) → (a.number == n) ≡ t → list_any (of_number n) (cond b (a ∷ filter is_active acts) (filter is_active acts)) ≡ true
      → (list_any (of_number n) (filter is_active acts) ≡ true → find (of_number n) (filter is_active acts) ≡ find (of_number n) acts)
      → find (of_number n) (cond b (a ∷ filter is_active acts) (filter is_active acts)) ≡ cond t (Some a) (find (of_number n) acts)
  by_tests true true is some more = ap (λ u. cond u (Some a) (find (of_number n) (filter is_active acts))) is
  by_tests true false is some more =
      ap (λ u. cond u (Some a) (find (of_number n) (filter is_active acts))) is ∙ more (sym (ap (λ u. u || list_any (of_number n) (filter is_active acts)) is) ∙ some)
  by_tests false false is some more = more some
  by_tests false true is some more =
      let same : a.number ≡ n = eqb-true a.number n is in
      absurd (let none = none_later n (a.number + 1) acts (omega arith) rise.1 in cc (none, some))

-- ---- objects

-- as it is kept, where it is live
abbrev pub kept_live : Object → Option Object
kept_live o = cond o.live (Some (kept_object o)) None

pub none_numbered : (id low : ℕ) (os : List Object) → id < low → RiseFrom low (map id_of os) → object_numbered id os ≡ None
none_numbered id low [] less rise = refl
none_numbered id low (o ∷ os) less rise =
    let up : low ≤ o.id = rise.0 in
    ap (λ t. cond t (Some o) (object_numbered id os)) (above id o.id low less up) ∙ none_numbered id (o.id + 1) os (omega arith) rise.1

pub kept_numbered : (id low : ℕ) (os : List Object) → RiseFrom low (map id_of os) → object_numbered id (map kept_object (filter is_there os)) ≡ option_and_then kept_live (object_numbered id os)
kept_numbered id low [] rise = refl
kept_numbered id low (o ∷ os) rise = by_tests o.live (o.id == id) refl (kept_numbered id (o.id + 1) os rise.1) where
  none : (o.id == id) ≡ true → object_numbered id (map kept_object (filter is_there os)) ≡ option_and_then kept_live (object_numbered id os) → object_numbered id (map kept_object (filter is_there os)) ≡ None
  none is more =
      let same : o.id ≡ id = eqb-true o.id id is in
      more ∙ ap (option_and_then kept_live) (none_numbered id (o.id + 1) os (omega arith) rise.1)

  by_tests : (live b : Bool) → (o.id == id) ≡ b → object_numbered id (map kept_object (filter is_there os)) ≡ option_and_then kept_live (object_numbered id os)
      → object_numbered id (map kept_object (cond live (record o { live = live } ∷ filter is_there os) (filter is_there os)))
      ≡ option_and_then kept_live (cond b (Some (record o { live = live })) (object_numbered id os))
  by_tests true true is more = ap (λ t. cond t (Some (kept_object (record o { live = true }))) (object_numbered id (map kept_object (filter is_there os)))) is
  by_tests false true is more = none is more
  by_tests true false is more = ap (λ t. cond t (Some (kept_object (record o { live = true }))) (object_numbered id (map kept_object (filter is_there os)))) is ∙ more
  by_tests false false is more = more

-- the live object of a number, as it is kept
pub kept_at_number : (b : Bones) (id : ℕ) → RiseFrom 0 (map id_of b.objects) → object_at (kept_bones b) id ≡ option_map kept_object (object_at b id)
kept_at_number b id rise = ap (option_and_then if_live) (kept_numbered id 0 b.objects rise) ∙ by_object (object_numbered id b.objects) where
  by_live : (o : Object) (t : Bool) → option_and_then if_live (cond t (Some (kept_object (record o { live = t }))) None) ≡ option_map kept_object (cond t (Some (record o { live = t })) None)
  by_live o true = refl
  by_live o false = refl

  by_object : (f : Option Object) → option_and_then if_live (option_and_then kept_live f) ≡ option_map kept_object (option_and_then if_live f)
  by_object None = refl
  by_object (Some o) = by_live o o.live

pub all_twice : (os : List Object) → map kept_object (filter is_there (map kept_object (filter is_there os))) ≡ map kept_object (filter is_there os)
all_twice [] = refl
all_twice (o ∷ os) = by_live o.live refl (all_twice os) where
  by_live : (b : Bool) → o.live ≡ b → map kept_object (filter is_there (map kept_object (filter is_there os))) ≡ map kept_object (filter is_there os)
      → map kept_object (filter is_there (map kept_object (cond b (o ∷ filter is_there os) (filter is_there os)))) ≡ map kept_object (cond b (o ∷ filter is_there os) (filter is_there os))
  by_live true is more =
      ap (λ t. map kept_object (cond t (kept_object o ∷ filter is_there (map kept_object (filter is_there os))) (filter is_there (map kept_object (filter is_there os))))) is
      ∙ ap (λ (q : Object). q ∷ map kept_object (filter is_there (map kept_object (filter is_there os)))) (kept_twice o) ∙ ap (λ (qs : List Object). kept_object o ∷ qs) more
  by_live false is more = more

-- a change of one that is live
module _ (id : ℕ) (f : Object → Object) (live : (o : Object) → (f o).live ≡ o.live) (kept : (o : Object) → kept_object (f (kept_object o)) ≡ kept_object (f o)) where
  pub kept_with : (os : List Object) (p : Object) → option_and_then if_live (object_numbered id os) ≡ Some p
      → map kept_object (filter is_there (with_object id f (map kept_object (filter is_there os)))) ≡ map kept_object (filter is_there (with_object id f os))
  kept_with [] p is = absurd (cc)
  kept_with (o ∷ os) p is = by_tests o.live refl (o.id == id) refl is (λ more. kept_with os p more) where
    by_tests : (b : Bool) → o.live ≡ b → (t : Bool) → (o.id == id) ≡ t → option_and_then if_live (cond t (Some o) (object_numbered id os)) ≡ Some p
        → (option_and_then if_live (object_numbered id os) ≡ Some p → map kept_object (filter is_there (with_object id f (map kept_object (filter is_there os)))) ≡ map kept_object (filter is_there (with_object id f os)))
        → map kept_object (filter is_there (with_object id f (map kept_object (cond b (o ∷ filter is_there os) (filter is_there os)))))
        ≡ map kept_object (filter is_there (cond t (f o ∷ os) (o ∷ with_object id f os)))
    by_tests true on true at e more =
        ap (λ t. map kept_object (filter is_there (cond t (f (kept_object o) ∷ map kept_object (filter is_there os)) (kept_object o ∷ with_object id f (map kept_object (filter is_there os)))))) at
        ∙ ap (λ t. map kept_object (cond t (f (kept_object o) ∷ filter is_there (map kept_object (filter is_there os))) (filter is_there (map kept_object (filter is_there os))))) (live (kept_object o) ∙ on)
        ∙ ap (λ (q : Object). q ∷ map kept_object (filter is_there (map kept_object (filter is_there os)))) (kept o)
        ∙ ap (λ (qs : List Object). kept_object (f o) ∷ qs) (all_twice os)
        ∙ sym (ap (λ t. map kept_object (cond t (f o ∷ filter is_there os) (filter is_there os))) (live o ∙ on))
    by_tests true on false at e more =
        ap (λ t. map kept_object (filter is_there (cond t (f (kept_object o) ∷ map kept_object (filter is_there os)) (kept_object o ∷ with_object id f (map kept_object (filter is_there os)))))) at
        ∙ ap (λ t. map kept_object (cond t (kept_object o ∷ filter is_there (with_object id f (map kept_object (filter is_there os)))) (filter is_there (with_object id f (map kept_object (filter is_there os)))))) on
        ∙ ap (λ (q : Object). q ∷ map kept_object (filter is_there (with_object id f (map kept_object (filter is_there os))))) (kept_twice o)
        ∙ ap (λ (qs : List Object). kept_object o ∷ qs) (more e)
        ∙ sym (ap (λ t. map kept_object (cond t (o ∷ filter is_there (with_object id f os)) (filter is_there (with_object id f os)))) on)
    by_tests false off true at e more = absurd (cc (sym (ap (λ t. cond t (Some o) None) off) ∙ e))
    by_tests false off false at e more = more e ∙ sym (ap (λ t. map kept_object (cond t (o ∷ filter is_there (with_object id f os)) (filter is_there (with_object id f os)))) off)
