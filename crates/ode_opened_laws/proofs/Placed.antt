-- Where the stored tables of a world stand in one list.
use Rattle.std.proofs.Common.{◌≡◌, ℕ, zero, suc, ◌+◌, List, [], ◌∷◌, ◌++◌, map, length, Some, refl, sym, ap, subst, ◌∙◌, arith, append_assoc, length-append}
use Rattle.std.specs.Prelude.{slice_get}
use Rattle.std.specs.List.{AllByRecursion, enumerate_from}
use Rattle.std.proofs.lemmas.List.{map-append}
use Rattle.ode_opening_laws.specs.Holding.{class_of, stored_tables}
use Rattle.ode_opening_tables.specs.Tables.{all_triggers, places_from}
use Rattle.ode_value.specs.Classes.{Trigger, own_triggers, trigger_of}
use Rattle.ode_value.specs.GoodWorlds.{AreClasses}
use Rattle.ode_value.specs.Language.{Language}
use Rattle.ode_value.specs.Tables.{Table}
use Rattle.ode_value.specs.Worlds.{Declared}
use Rattle.ode_value.specs.declared.change.Added.{Added}
use Rattle.ode_value.specs.declared.class.Class.{Class}
use Rattle.ode_value.specs.declared.member.TriggerDecl.{TriggerDecl}

-- ---- lists, one behind the other

get_left : {X : Type 0} (xs ys : List X) (k : ℕ) (x : X) → slice_get xs k ≡ Some x → slice_get (xs ++ ys) k ≡ Some x
get_left [] ys k x is = absurd (cc)
get_left (y ∷ xs) ys zero x is = is
get_left (y ∷ xs) ys (suc k) x is = get_left xs ys k x is

get_right : {X : Type 0} (xs ys : List X) (k : ℕ) → slice_get (xs ++ ys) (length xs + k) ≡ slice_get ys k
get_right [] ys k = let same : 0 + k ≡ k = omega arith in ap (slice_get ys) same
get_right (x ∷ xs) ys k =
    let same : suc (length xs) + k ≡ suc (length xs + k) = omega arith in
    ap (slice_get (x ∷ (xs ++ ys))) same ∙ get_right xs ys k

module _ (tables : ℕ → ℕ → Table) where
  abbrev table_of : Trigger → Table
  table_of t = tables t.class t.place

  -- those of one class
  abbrev own_tables : Class → List Table
  own_tables c = map table_of (own_triggers c)

  as_many_from : (class n : ℕ) (ts : List TriggerDecl) → length (map table_of (map (trigger_of class) (enumerate_from n ts))) ≡ length ts
  as_many_from class n [] = refl
  as_many_from class n (t ∷ ts) = ap suc (as_many_from class (n + 1) ts)

  own_from : (class n : ℕ) (ts : List TriggerDecl) (k : ℕ) (t : TriggerDecl) → slice_get ts k ≡ Some t
      → slice_get (map table_of (map (trigger_of class) (enumerate_from n ts))) k ≡ Some (tables class (n + k))
  own_from class n [] k t is = absurd (cc)
  own_from class n (u ∷ ts) zero t is = let same : n ≡ n + 0 = omega arith in ap (λ (m : ℕ). Some (tables class m)) same
  own_from class n (u ∷ ts) (suc k) t is =
      let same : n + 1 + k ≡ n + suc k = omega arith in
      own_from class (n + 1) ts k t is ∙ ap (λ (m : ℕ). Some (tables class m)) same

  own_at : (c : Class) (place : ℕ) (t : TriggerDecl) → slice_get c.triggers place ≡ Some t → slice_get (own_tables c) place ≡ Some (tables c.number place)
  own_at c place t is = let same : 0 + place ≡ place = omega arith in own_from c.number 0 c.triggers place t is ∙ ap (λ (m : ℕ). Some (tables c.number m)) same

  -- From one place on the tables of a class's triggers follow one another, in the order of these.
  pub record IsPlacedIn (all : List Table) (maps : List ℕ) (d : Declared) : Type 0 where
    pub before : ℕ
    pub number : d.class.number ≡ suc before
    pub first : ℕ
    pub is : slice_get maps before ≡ Some first
    pub each : (place : ℕ) (t : TriggerDecl) → slice_get d.class.triggers place ≡ Some t → slice_get all (first + place) ≡ Some (tables d.class.number place)

  placed_behind : (l : Language) (added : List Added) (earlier ds : List Declared) (front : List Table) (maps : List ℕ) (all : List Table) (places : List ℕ) → length maps ≡ length earlier → AreClasses l added earlier ds
      → all ≡ front ++ stored_tables tables ds → places ≡ maps ++ places_from (length front) (map class_of ds) → AllByRecursion (IsPlacedIn all places) ds
  placed_behind l added earlier [] front maps all places as_many are all_are places_are = tt
  placed_behind l added earlier (d ∷ ds) front maps all places as_many are all_are places_are =
      let c = d.class in
      let rest : List Table = stored_tables tables ds in
      let behind : List ℕ = places_from (length front + length c.triggers) (map class_of ds) in
      let number : c.number ≡ length earlier + 1 = are.0.number in
      let tables_are : all ≡ front ++ (own_tables c ++ rest) = all_are ∙ ap (λ (ts : List Table). front ++ ts) (map-append table_of (own_triggers c) (all_triggers (map class_of ds))) in
      let here : slice_get places (length maps + 0) ≡ Some (length front) = ap (λ (ns : List ℕ). slice_get ns (length maps + 0)) places_are ∙ get_right maps (length front ∷ behind) 0 in
      let before : length maps + 0 ≡ length maps = omega arith in
      let grown : length front + length c.triggers ≡ length (front ++ own_tables c) = ap (λ (n : ℕ). length front + n) (sym (as_many_from c.number 0 c.triggers)) ∙ sym (length-append front (own_tables c)) in (
        record {
          before = length maps;
          number = omega (arith, number, as_many);
          first = length front;
          is = subst (λ (n : ℕ). slice_get places n ≡ Some (length front)) before here;
          each = λ place t is.
              ap (λ (ts : List Table). slice_get ts (length front + place)) tables_are
              ∙ get_right front (own_tables c ++ rest) place
              ∙ get_left (own_tables c) rest place (tables c.number place) (own_at c place t is);
        },
        placed_behind l added (earlier ++ d ∷ []) ds (front ++ own_tables c) (maps ++ length front ∷ []) all places
            (let longer = length-append maps (length front ∷ []) in let further = length-append earlier (d ∷ []) in omega (arith, as_many, longer, further))
            are.1
            (tables_are ∙ sym (append_assoc front (own_tables c) rest))
            (places_are ∙ sym (append_assoc maps (length front ∷ []) behind) ∙ ap (λ (n : ℕ). (maps ++ length front ∷ []) ++ places_from n (map class_of ds)) grown),
      )

  -- the stored tables of a world's classes stand so
  pub all_placed : (l : Language) (added : List Added) (ds : List Declared) → AreClasses l added [] ds → AllByRecursion (IsPlacedIn (stored_tables tables ds) (places_from 0 (map class_of ds))) ds
  all_placed l added ds are = placed_behind l added [] ds [] [] (stored_tables tables ds) (places_from 0 (map class_of ds)) refl are refl refl
