-- Some word leads to the state of each activation of a world that is held.
use Rattle.std.proofs.Common.{◌≡◌, ℕ, suc, ◌+◌, ◌-◌, ◌<◌, ◌≤◌, List, [], ◌∷◌, map, true, false, cond, Option, Some, None, refl, sym, ap, subst, ◌∙◌, arith}
use Rattle.std.specs.Prelude.{◌==◌, slice_get}
use Rattle.std.specs.List.{AllByRecursion, enumerate_from}
use Rattle.std.specs.Option.{option_and_then, option_map, option_map_or, unwrap_or}
use Rattle.std.proofs.lemmas.Bool.Decides.{nat_tests}
use Rattle.ode_codec.specs.Standing.{ArePasts, AreStates, HasTables, IsStateOf, IsTableOf, StandsBy}
use Rattle.ode_codec.specs.StoredRows.{state_in, state_of}
use Rattle.ode_laws.proofs.Numbers.{all-at}
use Rattle.ode_opened_laws.proofs.Placed.{IsPlacedIn}
use Rattle.ode_opening_laws.proofs.Each.{all_then}
use Rattle.ode_opening_laws.proofs.Sized.{whole_of}
use Rattle.ode_opening_objects.specs.Triggers.{is_reached_in, table_place}
use Rattle.ode_sound_laws.proofs.WalkCompleting.{placed as placed_there}
use Rattle.ode_table.specs.Whole.{IsWhole}
use Rattle.ode_value.specs.Classes.{Trigger, own_triggers, trigger_at, trigger_of, watch_of}
use Rattle.ode_value.specs.GoodWorlds.{RiseFrom}
use Rattle.ode_value.specs.Objects.{Activation, Histories, Starts}
use Rattle.ode_value.specs.Pasts.{Kept}
use Rattle.ode_value.specs.Tables.{Table}
use Rattle.ode_value.specs.Worlds.{Declared, Object, World, kept_at}
use Rattle.ode_value.specs.declared.member.TriggerDecl.{TriggerDecl}
use Rattle.ode_walk.specs.Reaching.{is_reached}
use Rattle.ode_walk.specs.Relation.{IsReached}

-- a state that a word leads to is told without the word
abbrev pub AreTold : Type 0
AreTold = (t : Table) (q : ℕ) → IsWhole t → IsReached t q → is_reached t q ≡ true

same_test : (m n : ℕ) → m ≡ n → (m == n) ≡ true
same_test m n same = grind (arith, nat_tests)

other_test : (m n low : ℕ) → m < low → low ≤ n → (m == n) ≡ false
other_test m n low less le = grind (arith, nat_tests)

-- ---- where the table of a trigger stands

not_0 : (n : ℕ) → (suc n == 0) ≡ false
not_0 n = grind (arith, nat_tests)

one_less : (n : ℕ) → suc n - 1 ≡ n
one_less n = omega arith

module _ (tables : ℕ → ℕ → Table) (own : List Table) (maps : List ℕ) where
  -- a state is reached in a trigger's own table
  abbrev IsOwn : Trigger → Type 0
  IsOwn t = (q : ℕ) → is_reached_in own maps t.class t.place q ≡ is_reached (tables t.class t.place) q

  place_of : (d : Declared) (is : IsPlacedIn tables own maps d) (place : ℕ) → table_place maps d.class.number place ≡ Some (is.first + place)
  place_of d is place =
      ap (λ (n : ℕ). table_place maps n place) is.number
      ∙ ap (λ b. cond b None (option_map (λ first. first + place) (slice_get maps (suc is.before - 1)))) (not_0 is.before)
      ∙ ap (λ (n : ℕ). option_map (λ first. first + place) (slice_get maps n)) (one_less is.before)
      ∙ ap (option_map (λ first. first + place)) is.is

  own_at : (d : Declared) → IsPlacedIn tables own maps d → (place : ℕ) (t : TriggerDecl) → slice_get d.class.triggers place ≡ Some t → IsOwn (trigger_of d.class.number (place, t))
  own_at d is place t at q =
      ap (λ (o : Option ℕ). option_map_or (λ table. is_reached table q) (option_and_then (slice_get own) o) false) (place_of d is place)
      ∙ ap (λ (o : Option Table). option_map_or (λ table. is_reached table q) o false) (is.each place t at)

  own_from : (d : Declared) → IsPlacedIn tables own maps d → (first : ℕ) (ts : List TriggerDecl) → ((k : ℕ) (t : TriggerDecl) → slice_get ts k ≡ Some t → slice_get d.class.triggers (first + k) ≡ Some t)
      → AllByRecursion IsOwn (map (trigger_of d.class.number) (enumerate_from first ts))
  own_from d is first [] at = tt
  own_from d is first (t ∷ ts) at =
      let here : first + 0 ≡ first = omega arith in (
        own_at d is first t (subst (λ (n : ℕ). slice_get d.class.triggers n ≡ Some t) here (at 0 t refl)),
        own_from d is (first + 1) ts
            (λ k u there.
            let next : first + suc k ≡ first + 1 + k = omega arith in
            subst (λ (n : ℕ). slice_get d.class.triggers n ≡ Some u) next (at (suc k) u there)),
      )

  own_all : (cs : List Declared) → AllByRecursion (IsPlacedIn tables own maps) cs → AllByRecursion (λ (d : Declared). AllByRecursion IsOwn (own_triggers d.class)) cs
  own_all cs placed =
      all_then (IsPlacedIn tables own maps) (λ (d : Declared). AllByRecursion IsOwn (own_triggers d.class))
      (λ d is. own_from d is 0 d.class.triggers (λ k t there. let same : k ≡ 0 + k = omega arith in subst (λ (n : ℕ). slice_get d.class.triggers n ≡ Some t) same there)) cs placed

  -- ---- the states of activations

  module _ (cs : List Declared) (mean : AllByRecursion (HasTables tables) cs) (placed : AllByRecursion (IsPlacedIn tables own maps) cs) (told : AreTold) where
    abbrev IsTold : Activation → ℕ → Type 0
    IsTold a state = is_reached_in own maps a.class a.trigger state ≡ true

    state_told : (h : Histories) (a : Activation) (row : ℕ × ℕ) (start : ℕ × Starts) → IsStateOf tables cs h a row start → IsTold a row.1
    state_told h a row start is = by_trigger (trigger_at cs a.class a.trigger) refl is.stands
      where
        by_trigger : (o : Option Trigger) → trigger_at cs a.class a.trigger ≡ o → StandsBy tables cs h row start (option_map (λ t. watch_of t a.args) o) → IsTold a row.1
        by_trigger None at stands = absurd stands
        by_trigger (Some t) at stands =
            let means : IsTableOf tables t = all-at (IsTableOf tables) cs mean a.class a.trigger t at in
            let its : IsOwn t = all-at IsOwn cs (own_all cs placed) a.class a.trigger t at in
            let is_it = placed_there cs a.class a.trigger t at in
            let reached : is_reached (tables t.class t.place) row.1 ≡ true =
            told (tables t.class t.place) row.1 (whole_of (tables t.class t.place) means.whole) (record { word = stands.word; symbols = stands.symbols; reached = stands.reached }) in
            ap (λ (n : ℕ). is_reached_in own maps n a.trigger row.1) (sym is_it.0) ∙ ap (λ (n : ℕ). is_reached_in own maps t.class n row.1) (sym is_it.1) ∙ its row.1 ∙ reached

    -- rows in the order of activations, and each under its number
    states_told : (h : Histories) (acts : List Activation) (rows : List (ℕ × ℕ)) (starts : List (ℕ × Starts)) (low : ℕ) → RiseFrom low (map (λ (a : Activation). a.number) acts)
        → AreStates tables cs h acts rows starts → AllByRecursion (λ (a : Activation). IsTold a (unwrap_or (kept_at a.number rows) 0)) acts
    states_told h [] rows starts low rising are = tt
    states_told h (a ∷ acts) [] starts low rising are = absurd are
    states_told h (a ∷ acts) (row ∷ rows) [] low rising are = absurd are
    states_told h (a ∷ acts) (row ∷ rows) (start ∷ starts) low rising are =
        let first : kept_at a.number (row ∷ rows) ≡ Some row.1 = ap (λ b. cond b (Some row.1) (kept_at a.number rows)) (same_test row.0 a.number are.0.number) in (
          subst (λ (o : Option ℕ). IsTold a (unwrap_or o 0)) (sym first) (state_told h a row start are.0),
          passed acts row rows a.number are.0.number (a.number + 1) (omega arith) rising.1 (states_told h acts rows starts (a.number + 1) rising.1 are.1),
        )
      where
        passed : (acts : List Activation) (row : ℕ × ℕ) (rows : List (ℕ × ℕ)) (number : ℕ) → row.0 ≡ number → (low_ : ℕ) → number < low_ → RiseFrom low_ (map (λ (a : Activation). a.number) acts)
            → AllByRecursion (λ (a : Activation). IsTold a (unwrap_or (kept_at a.number rows) 0)) acts → AllByRecursion (λ (a : Activation). IsTold a (unwrap_or (kept_at a.number (row ∷ rows)) 0)) acts
        passed [] row rows number is low_ less rising all = tt
        passed (b ∷ acts) row rows number is low_ less rising all =
            let not_it : (row.0 == b.number) ≡ false = other_test row.0 b.number low_ (omega (arith, is, less)) rising.0 in
            let same : kept_at b.number (row ∷ rows) ≡ kept_at b.number rows = ap (λ t. cond t (Some row.1) (kept_at b.number rows)) not_it in (
              subst (λ (o : Option ℕ). IsTold b (unwrap_or o 0)) (sym same) all.0,
              passed acts row rows number is (b.number + 1) (let least = rising.0 in omega (arith, less, least)) rising.1 all.1,
            )

    -- rows in the order of objects
    abbrev AreTold_in : List (ℕ × Kept (Unit {0}) ℕ) → Object → Type 0
    AreTold_in pasts o = AllByRecursion (λ (a : Activation). IsTold a (option_map_or (state_in a.number) (kept_at o.id pasts) 0)) o.activations

    objects_told : (os : List Object) (rows : List (ℕ × Kept (Unit {0}) ℕ)) (pasts : List (ℕ × Kept Histories Starts)) (low : ℕ) → RiseFrom low (map (λ (o : Object). o.id) os)
        → AllByRecursion (λ (o : Object). RiseFrom 0 (map (λ (a : Activation). a.number) o.activations)) os → ArePasts tables cs os rows pasts → AllByRecursion (AreTold_in rows) os
    objects_told [] rows pasts low rising each are = tt
    objects_told (o ∷ os) [] pasts low rising each are = absurd are
    objects_told (o ∷ os) (row ∷ rows) [] low rising each are = absurd are
    objects_told (o ∷ os) (row ∷ rows) (past ∷ pasts) low rising each are =
        let first : kept_at o.id (row ∷ rows) ≡ Some row.1 = ap (λ b. cond b (Some row.1) (kept_at o.id rows)) (same_test row.0 o.id are.0) in (
          subst (λ (k : Option (Kept (Unit {0}) ℕ)). AllByRecursion (λ (a : Activation). IsTold a (option_map_or (state_in a.number) k 0)) o.activations) (sym first)
              (states_told past.1.own o.activations row.1.activations past.1.activations 0 each.0 are.1),
          passed os row rows o.id are.0 (o.id + 1) (omega arith) rising.1 (objects_told os rows pasts (o.id + 1) rising.1 each.1 are.2),
        )
      where
        passed : (os : List Object) (row : ℕ × Kept (Unit {0}) ℕ) (rows : List (ℕ × Kept (Unit {0}) ℕ)) (number : ℕ) → row.0 ≡ number → (low_ : ℕ) → number < low_ → RiseFrom low_ (map (λ (o : Object). o.id) os)
            → AllByRecursion (AreTold_in rows) os → AllByRecursion (AreTold_in (row ∷ rows)) os
        passed [] row rows number is low_ less rising all = tt
        passed (p ∷ os) row rows number is low_ less rising all =
            let not_it : (row.0 == p.id) ≡ false = other_test row.0 p.id low_ (omega (arith, is, less)) rising.0 in
            let same : kept_at p.id (row ∷ rows) ≡ kept_at p.id rows = ap (λ t. cond t (Some row.1) (kept_at p.id rows)) not_it in (
              subst (λ (k : Option (Kept (Unit {0}) ℕ)). AllByRecursion (λ (a : Activation). IsTold a (option_map_or (state_in a.number) k 0)) p.activations) (sym same) all.0,
              passed os row rows number is (p.id + 1) (let least = rising.0 in omega (arith, less, least)) rising.1 all.1,
            )

    pub are_reached : (w : World (Unit {0}) ℕ) (os : List Object) (pasts : List (ℕ × Kept Histories Starts)) → RiseFrom 0 (map (λ (o : Object). o.id) os)
        → AllByRecursion (λ (o : Object). RiseFrom 0 (map (λ (a : Activation). a.number) o.activations)) os → ArePasts tables cs os w.pasts pasts
        → AllByRecursion (λ (o : Object). AllByRecursion (λ (a : Activation). is_reached_in own maps a.class a.trigger (state_of w o.id a.number) ≡ true) o.activations) os
    are_reached w os pasts rising each are = objects_told os w.pasts pasts 0 rising each are
