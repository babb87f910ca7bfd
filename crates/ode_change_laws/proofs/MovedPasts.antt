-- Where a class gets fields, the state numbers that were stored stand for the views of the changed world.
use Rattle.std.proofs.Common.{◌≡◌, ◌≤◌, ℕ, ◌+◌, Bool, true, false, List, [], ◌∷◌, length, map, Option, Some, None, refl, ap, sym, ◌∙◌, subst}
use Rattle.std.specs.Prelude.{cond}
use Rattle.std.specs.List.{AllByRecursion, AllZip, enumerate_from}
use Rattle.std.specs.Option.{option_map, option_map_or}
use Rattle.ode_codec.specs.Standing.{AreStates, ArePasts, HasTables, IsTableOf, StandsBy}
use Rattle.ode_value.specs.declared.change.Change.{Change}
use Rattle.ode_value.specs.declared.class.Field.{Field}
use Rattle.ode_value.specs.declared.event.EventExpr.{EventExpr}
use Rattle.ode_value.specs.declared.event.Point.{Point}
use Rattle.ode_value.specs.declared.member.TriggerDecl.{TriggerDecl}
use Rattle.ode_value.specs.declared.value.Value.{Value}
use Rattle.ode_value.specs.Changing.{changed_object, changed_past, changed_place, gets, literals_of, point_with}
use Rattle.ode_value.specs.Classes.{trigger_of}
use Rattle.ode_value.specs.Denoting.{object_numbered}
use Rattle.ode_value.specs.Firings.{watch_by}
use Rattle.ode_value.specs.GoodWorlds.{IsPast, IsStart}
use Rattle.ode_value.specs.Objects.{Activation, Histories, Starts, altered}
use Rattle.ode_value.specs.Pasts.{Kept, Watch, lists, numbers}
use Rattle.ode_value.specs.Tables.{Means, Table}
use Rattle.ode_value.specs.TreeCount.{tree_count}
use Rattle.ode_value.specs.Worlds.{Bones, Declared, Object}
use Rattle.ode_change_laws.specs.Moves.{AreAnew, AreWatched, IsFound, IsAnew, IsClassAnew, IsWatched, event_where, moved_watch}
use Rattle.ode_change_laws.proofs.MovedTables.{means-moved, stands-altered, trees-moved, within-altered}

-- ---- tables

module _ (at : ℕ) (fields : List Field) where
  abbrev more : ℕ
  more = length fields

  means-where : (gets : Bool) (t : Table) (e : EventExpr) → Means t e → Means t (event_where at more gets e)
  means-where true t e means = means-moved at more e t means
  means-where false t e means = means

  pub trees-where : (gets : Bool) (e : EventExpr) → tree_count (event_where at more gets e) ≡ tree_count e
  trees-where true e = trees-moved at more e
  trees-where false e = refl

  module _ (tables : ℕ → ℕ → Table) where
    table-anew : (gets : Bool) (number place : ℕ) (t u : TriggerDecl) → IsAnew (event_where at more gets) t u
        → IsTableOf tables (trigger_of number (place, t)) → IsTableOf tables (trigger_of number (place, u))
    table-anew gets number place t u anew is = record {
      whole = is.whole;
      small = subst (λ n. (tables number place).states ≤ n) (sym (ap tree_count anew.event ∙ trees-where gets t.event)) is.small;
      means = subst (Means (tables number place)) (sym anew.event) (means-where gets (tables number place) t.event is.means);
    }

    each-anew : (gets : Bool) (number place : ℕ) (ts us : List TriggerDecl) → AllZip (IsAnew (event_where at more gets)) ts us
        → AllByRecursion (IsTableOf tables) (map (trigger_of number) (enumerate_from place ts))
        → AllByRecursion (IsTableOf tables) (map (trigger_of number) (enumerate_from place us))
    each-anew gets number place [] [] all is = tt
    each-anew gets number place [] (u ∷ us) all is = absurd all
    each-anew gets number place (t ∷ ts) [] all is = absurd all
    each-anew gets number place (t ∷ ts) (u ∷ us) all is =
        (table-anew gets number place t u all.0 is.0, each-anew gets number (place + 1) ts us all.1 is.1)

    class-anew : (gets : Bool) (c d : Declared) → IsClassAnew at fields gets c d → HasTables tables c → HasTables tables d
    class-anew gets c d anew has =
        subst (λ n. AllByRecursion (IsTableOf tables) (map (trigger_of n) (enumerate_from 0 d.class.triggers))) (sym anew.number)
        (each-anew gets c.class.number 0 c.class.triggers d.class.triggers anew.triggers has)

    pub classes-anew : (test : ℕ → Bool) (cs ds : List Declared) → AreAnew at fields test cs ds → AllByRecursion (HasTables tables) cs → AllByRecursion (HasTables tables) ds
    classes-anew test [] [] all has = tt
    classes-anew test [] (d ∷ ds) all has = absurd all
    classes-anew test (c ∷ cs) [] all has = absurd all
    classes-anew test (c ∷ cs) (d ∷ ds) all has = (class-anew (test c.class.number) c d all.0 has.0, classes-anew test cs ds all.1 has.1)

-- ---- the state numbers of an object

module _ (tables : ℕ → ℕ → Table) (old new : List Declared) (values : List Value) (at : ℕ) (h : Histories) where
  abbrev then : Histories
  then = altered (point_with at values) h

  stands-by : (row : ℕ × ℕ) (start : ℕ × Starts) (w : Option Watch) → StandsBy tables old h row start w
      → StandsBy tables new then row start (option_map (moved_watch at (length values)) w)
  stands-by row start None stands = absurd stands
  stands-by row start (Some w) stands = stands-altered values at tables w h start.1 row.1 stands

  same-by : (row : ℕ × ℕ) (start : ℕ × Starts) (w : Option Watch) → StandsBy tables old h row start w → StandsBy tables new h row start w
  same-by row start None stands = absurd stands
  same-by row start (Some w) stands = stands

  states-moved : (acts : List Activation) (rows : List (ℕ × ℕ)) (starts : List (ℕ × Starts)) → AllByRecursion (IsWatched at (length values) old new true) acts
      → AreStates tables old h acts rows starts → AreStates tables new then acts rows starts
  states-moved [] [] [] watched are = tt
  states-moved [] [] (s ∷ starts) watched are = absurd are
  states-moved [] (r ∷ rows) starts watched are = absurd are
  states-moved (a ∷ acts) [] starts watched are = absurd are
  states-moved (a ∷ acts) (r ∷ rows) [] watched are = absurd are
  states-moved (a ∷ acts) (r ∷ rows) (s ∷ starts) watched are = (
    record { number = are.0.number; stands = subst (StandsBy tables new then r s) (sym watched.0) (stands-by r s (watch_by old a) are.0.stands) },
    states-moved acts rows starts watched.1 are.1,
  )

  states-same : (acts : List Activation) (rows : List (ℕ × ℕ)) (starts : List (ℕ × Starts)) → AllByRecursion (IsWatched at (length values) old new false) acts
      → AreStates tables old h acts rows starts → AreStates tables new h acts rows starts
  states-same [] [] [] watched are = tt
  states-same [] [] (s ∷ starts) watched are = absurd are
  states-same [] (r ∷ rows) starts watched are = absurd are
  states-same (a ∷ acts) [] starts watched are = absurd are
  states-same (a ∷ acts) (r ∷ rows) [] watched are = absurd are
  states-same (a ∷ acts) (r ∷ rows) (s ∷ starts) watched are = (
    record { number = are.0.number; stands = subst (StandsBy tables new h r s) (sym watched.0) (same-by r s (watch_by old a) are.0.stands) },
    states-same acts rows starts watched.1 are.1,
  )

-- starts within the changed lists
starts-altered : (change : Point → Point) (h : Histories) (acts : List Activation) (starts : List (ℕ × Starts)) → AllZip (IsStart h) acts starts → AllZip (IsStart (altered change h)) acts starts
starts-altered change h [] [] all = tt
starts-altered change h [] (s ∷ starts) all = absurd all
starts-altered change h (a ∷ acts) [] all = absurd all
starts-altered change h (a ∷ acts) (s ∷ starts) all =
    (record { number = all.0.number; within = within-altered change h s.1 all.0.within }, starts-altered change h acts starts all.1)

-- ---- those of all objects

module _ (tables : ℕ → ℕ → Table) (b : Bones) (c : Change) (classes : List Declared) where
  abbrev at : ℕ
  at = changed_place b c

  abbrev values : List Value
  values = literals_of c

  abbrev number_past : ℕ × Kept (Unit {0}) ℕ → ℕ × Kept (Unit {0}) ℕ
  number_past = changed_past (numbers tables) classes c b

  abbrev list_past : ℕ × Kept Histories Starts → ℕ × Kept Histories Starts
  list_past = changed_past lists classes c b

  abbrev test_of : ℕ → Bool
  test_of id = option_map_or (gets b c) (object_numbered id b.objects) false

  test-is : (o : Object) (id : ℕ) → id ≡ o.id → IsFound b c classes o → test_of id ≡ gets b c o
  test-is o id is found = ap test_of is ∙ ap (λ x. option_map_or (gets b c) x false) found

  -- the rows of numbers stay
  number-stays : (t : Bool) (row : ℕ × Kept (Unit {0}) ℕ) → cond t (row.0, record row.1 { own = tt }) row ≡ row
  number-stays true row = refl
  number-stays false row = refl

  pub numbers-stay : (rows : List (ℕ × Kept (Unit {0}) ℕ)) → map number_past rows ≡ rows
  numbers-stay [] = refl
  numbers-stay (row ∷ rows) = λ i. number-stays (test_of row.0) row i ∷ numbers-stay rows i

  abbrev altered_kept : Kept Histories Starts → Kept Histories Starts
  altered_kept kept = record kept { own = altered (point_with at values) kept.own }

  states-by : (o : Object) (rows : List (ℕ × ℕ)) (past : ℕ × Kept Histories Starts) (t : Bool) → gets b c o ≡ t
      → AllByRecursion (IsWatched at (length values) b.classes classes t) o.activations
      → AreStates tables b.classes past.1.own o.activations rows past.1.activations
      → let p = cond t (past.0, altered_kept past.1) past in AreStates tables classes p.1.own o.activations rows p.1.activations
  states-by o rows past true is watched are = states-moved tables b.classes classes values at past.1.own o.activations rows past.1.activations watched are
  states-by o rows past false is watched are = states-same tables b.classes classes values at past.1.own o.activations rows past.1.activations watched are

  states-anew : (o : Object) (rows : List (ℕ × ℕ)) (past : ℕ × Kept Histories Starts) → past.0 ≡ o.id → IsFound b c classes o → AreWatched b c classes o
      → AreStates tables b.classes past.1.own o.activations rows past.1.activations
      → AreStates tables classes (list_past past).1.own o.activations rows (list_past past).1.activations
  states-anew o rows past same found watched are =
      subst (λ (t : Bool). AreStates tables classes (cond t (past.0, altered_kept past.1) past).1.own o.activations rows (cond t (past.0, altered_kept past.1) past).1.activations)
      (sym (test-is o past.0 same found))
      (states-by o rows past (gets b c o) refl watched are)

  pub pasts-anew : (os : List Object) (rows : List (ℕ × Kept (Unit {0}) ℕ)) (pasts : List (ℕ × Kept Histories Starts))
      → AllByRecursion (IsFound b c classes) os → AllByRecursion (AreWatched b c classes) os → AllZip IsPast os pasts
      → ArePasts tables b.classes os rows pasts → ArePasts tables classes (map (changed_object b c) os) rows (map list_past pasts)
  pasts-anew [] [] [] found watched within are = tt
  pasts-anew [] [] (p ∷ pasts) found watched within are = absurd are
  pasts-anew [] (r ∷ rows) pasts found watched within are = absurd are
  pasts-anew (o ∷ os) [] pasts found watched within are = absurd are
  pasts-anew (o ∷ os) (r ∷ rows) [] found watched within are = absurd are
  pasts-anew (o ∷ os) (r ∷ rows) (p ∷ pasts) found watched within are = (
    are.0,
    states-anew o r.1.activations p within.0.number found.0 watched.0 are.1,
    pasts-anew os rows pasts found.1 watched.1 within.1 are.2,
  )

  past-by : (o : Object) (past : ℕ × Kept Histories Starts) (t : Bool) → IsPast o past → IsPast (changed_object b c o) (cond t (past.0, altered_kept past.1) past)
  past-by o past true is = record { number = is.number; starts = starts-altered (point_with at values) past.1.own o.activations past.1.activations is.starts }
  past-by o past false is = record { number = is.number; starts = is.starts }

  pub within-anew : (os : List Object) (pasts : List (ℕ × Kept Histories Starts)) → AllZip IsPast os pasts → AllZip IsPast (map (changed_object b c) os) (map list_past pasts)
  within-anew [] [] all = tt
  within-anew [] (p ∷ pasts) all = absurd all
  within-anew (o ∷ os) [] all = absurd all
  within-anew (o ∷ os) (p ∷ pasts) all = (past-by o p (test_of p.0) all.0, within-anew os pasts all.1)
