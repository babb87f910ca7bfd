-- Numbers that stand for views, as rows, and what points do to them.
use Rattle.std.proofs.Common.{◌≡◌, ℕ, ◌≤◌, Bool, true, false, List, [], ◌∷◌, map, length, ◌==◌, Option, Some, None, refl, sym, ap, ◌∙◌, subst, arith}
use Rattle.std.specs.Prelude.{◌&&◌}
use Rattle.std.specs.List.{AllByRecursion, AllZip, find, filter, flat_map}
use Rattle.std.specs.Option.{option_map, option_map_or, option_and_then}
use Rattle.std.proofs.lemmas.Bool.{eqb-true}
use Rattle.std.proofs.lemmas.List.{length-append}
use Rattle.ode_value.specs.declared.event.Point.{Point}
use Rattle.ode_value.specs.declared.value.Value.{Value}
use Rattle.ode_value.specs.Classes.{Trigger, triggers_of, trigger_at, watch_of}
use Rattle.ode_value.specs.Firings.{is_of, watch_by, watch_at, firing_of, changed_row, Place, both_lists, whole_list, grown_past, is_firing, fired_by, fired_in}
use Rattle.ode_value.specs.GoodWorlds.{RiseFrom, IsStart, IsPast}
use Rattle.ode_value.specs.Objects.{Activation, Histories, Starts, IsWithin, grown, grown_whole}
use Rattle.ode_value.specs.Pasts.{Kept, Watch, lists, numbers, table_of, StandsFor}
use Rattle.ode_value.specs.Tables.{Table, Means}
use Rattle.ode_value.specs.Worlds.{Declared, Object, kept_at}
use Rattle.ode_value.proofs.PastLaws.{step_stands, whole_stands, step_fires, whole_fires}
use Rattle.ode_codec.specs.Standing.{IsTableOf, HasTables, StandsBy, AreStates, ArePasts}
use Rattle.ode_laws.proofs.Numbers.{IsPlaced, all-at, triggers_placed}
use Rattle.ode_laws.proofs.Each.{all-of, all-then, all-passing, filter_same, flat_same}
use Rattle.ode_laws.proofs.Rows.{Rows, id_of, Found, rows_at, rows_move, find_rising, kept-map}

abbrev pub number_of : Activation → ℕ
number_of a = a.number

module _ (tables : ℕ → ℕ → Table) (classes : List Declared) where
  -- a state stands for the view by which an activation watches
  abbrev pub Sees : Histories → Starts → ℕ → Option Watch → Type 0
  Sees h start state None = ⊥
  Sees h start state (Some w) = StandsFor tables w h start state

  pub record Stays (h : Histories) (a : Activation) (state : ℕ) (start : Starts) : Type 0 where
    pub within : IsWithin start h
    pub sees : Sees h start state (watch_by classes a)

  -- an object's activations, with their states and starts
  abbrev pub Object3 : Object → Kept (Unit {0}) ℕ → Kept Histories Starts → Type 0
  Object3 o k l = Rows number_of (Stays l.own) o.activations k.activations l.activations

  abbrev pub Pasts3 : List Object → List (ℕ × Kept (Unit {0}) ℕ) → List (ℕ × Kept Histories Starts) → Type 0
  Pasts3 os ks ls = Rows id_of Object3 os ks ls

  -- ---- to rows and back

  sees_by : (h : Histories) (row : ℕ × ℕ) (start : ℕ × Starts) (o : Option Watch) → StandsBy tables classes h row start o → Sees h start.1 row.1 o
  sees_by h row start None s = absurd s
  sees_by h row start (Some w) s = s

  stands_by : (h : Histories) (row : ℕ × ℕ) (start : ℕ × Starts) (o : Option Watch) → Sees h start.1 row.1 o → StandsBy tables classes h row start o
  stands_by h row start None s = absurd s
  stands_by h row start (Some w) s = s

  rows_of_states : (h : Histories) (acts : List Activation) (ks : List (ℕ × ℕ)) (ls : List (ℕ × Starts)) → AreStates tables classes h acts ks ls → AllZip (IsStart h) acts ls → Rows number_of (Stays h) acts ks ls
  rows_of_states h [] [] [] s z = tt
  rows_of_states h (a ∷ acts) (k ∷ ks) (l ∷ ls) s z =
      (s.0.number, z.0.number, record { within = z.0.within; sees = sees_by h k l (watch_by classes a) s.0.stands }, rows_of_states h acts ks ls s.1 z.1)
  rows_of_states h [] (k ∷ ks) ls s z = absurd s
  rows_of_states h [] [] (l ∷ ls) s z = absurd s
  rows_of_states h (a ∷ acts) [] ls s z = absurd s
  rows_of_states h (a ∷ acts) (k ∷ ks) [] s z = absurd s

  pub rows_of_pasts : (os : List Object) (ks : List (ℕ × Kept (Unit {0}) ℕ)) (ls : List (ℕ × Kept Histories Starts)) → ArePasts tables classes os ks ls → AllZip IsPast os ls → Pasts3 os ks ls
  rows_of_pasts [] [] [] s z = tt
  rows_of_pasts (o ∷ os) (k ∷ ks) (l ∷ ls) s z =
      (s.0, z.0.number, rows_of_states l.1.own o.activations k.1.activations l.1.activations s.1 z.0.starts, rows_of_pasts os ks ls s.2 z.1)
  rows_of_pasts [] (k ∷ ks) ls s z = absurd s
  rows_of_pasts [] [] (l ∷ ls) s z = absurd s
  rows_of_pasts (o ∷ os) [] ls s z = absurd s
  rows_of_pasts (o ∷ os) (k ∷ ks) [] s z = absurd s

  states_of_rows : (h : Histories) (acts : List Activation) (ks : List (ℕ × ℕ)) (ls : List (ℕ × Starts)) → Rows number_of (Stays h) acts ks ls → AreStates tables classes h acts ks ls × AllZip (IsStart h) acts ls
  states_of_rows h [] [] [] r = (tt, tt)
  states_of_rows h (a ∷ acts) (k ∷ ks) (l ∷ ls) r =
      let rest : AreStates tables classes h acts ks ls × AllZip (IsStart h) acts ls = states_of_rows h acts ks ls r.3 in
      ((record { number = r.0; stands = stands_by h k l (watch_by classes a) r.2.sees }, rest.0), (record { number = r.1; within = r.2.within }, rest.1))
  states_of_rows h [] (k ∷ ks) ls r = absurd r
  states_of_rows h [] [] (l ∷ ls) r = absurd r
  states_of_rows h (a ∷ acts) [] ls r = absurd r
  states_of_rows h (a ∷ acts) (k ∷ ks) [] r = absurd r

  pub pasts_of_rows : (os : List Object) (ks : List (ℕ × Kept (Unit {0}) ℕ)) (ls : List (ℕ × Kept Histories Starts)) → Pasts3 os ks ls → ArePasts tables classes os ks ls × AllZip IsPast os ls
  pasts_of_rows [] [] [] r = (tt, tt)
  pasts_of_rows (o ∷ os) (k ∷ ks) (l ∷ ls) r =
      let here : AreStates tables classes l.1.own o.activations k.1.activations l.1.activations × AllZip (IsStart l.1.own) o.activations l.1.activations = states_of_rows l.1.own o.activations k.1.activations l.1.activations r.2 in
      let rest : ArePasts tables classes os ks ls × AllZip IsPast os ls = pasts_of_rows os ks ls r.3 in
      ((r.0, here.0, rest.0), (record { number = r.1; starts = here.1 }, rest.1))
  pasts_of_rows [] (k ∷ ks) ls r = absurd r
  pasts_of_rows [] [] (l ∷ ls) r = absurd r
  pasts_of_rows (o ∷ os) [] ls r = absurd r
  pasts_of_rows (o ∷ os) (k ∷ ks) [] r = absurd r

  module _ (mean : AllByRecursion (HasTables tables) classes) where
    -- what an activation watches for has a table that means it
    pub watch_means : (a : Activation) (w : Watch) → watch_by classes a ≡ Some w → Means (table_of tables w) w.event
    watch_means a w is = by_trigger (trigger_at classes a.class a.trigger) (all-at (IsTableOf tables) classes mean a.class a.trigger) is where
      by_trigger : (o : Option Trigger) → ((t : Trigger) → o ≡ Some t → IsTableOf tables t) → option_map (λ t. watch_of t a.args) o ≡ Some w → Means (table_of tables w) w.event
      by_trigger None known e = absurd (cc)
      by_trigger (Some t) known e = let it : watch_of t a.args ≡ w = cc in subst (λ v. Means (table_of tables v) v.event) it (known t refl).means

    -- ---- points

    -- a place of both machines where points keep what stands
    pub record Places (k : Place (Unit {0}) ℕ) (l : Place Histories Starts) : Type 0 where
      pub within : (start : Starts) (h : Histories) (p : Point) → IsWithin start h → IsWithin start (l.grow h p)
      pub stays : (w : Watch) (start : Starts) (p : Point) → l.step p w start ≡ start
      pub stands : (w : Watch) → Means (table_of tables w) w.event → (h : Histories) (start : Starts) (state : ℕ) (p : Point) → IsWithin start h → StandsFor tables w h start state
          → StandsFor tables w (l.grow h p) start (k.step p w state)
      pub sees : (t : Trigger) → k.sees t ≡ l.sees t
      pub fires : (t : Trigger) (args : List Value) → l.sees t ≡ true → Means (table_of tables (watch_of t args)) t.decl.event → (h : Histories) (start : Starts) (state : ℕ) (p : Point) → IsWithin start h → StandsFor tables (watch_of t args) h start state
          → (numbers tables).fires (watch_of t args) tt (k.step p (watch_of t args) state) ≡ lists.fires (watch_of t args) (l.grow h p) start

    within_more : (start : Starts) (h : Histories) (p : Point) → IsWithin start h → IsWithin start (grown h p)
    within_more start h p is = record {
      whole = let here : start.whole ≤ length h.whole = is.whole in omega (arith, length-append h.whole (p ∷ []));
      committed = let here : start.committed ≤ length h.committed = is.committed in omega (arith, length-append h.committed (p ∷ []));
    }

    within_whole : (start : Starts) (h : Histories) (p : Point) → IsWithin start h → IsWithin start (grown_whole h p)
    within_whole start h p is = record {
      whole = let here : start.whole ≤ length h.whole = is.whole in omega (arith, length-append h.whole (p ∷ []));
      committed = is.committed;
    }

    pub both_places : Places (both_lists (numbers tables)) (both_lists lists)
    both_places = record {
      within = within_more;
      stays = λ w start p. refl;
      stands = λ w means h start state p within stands. step_stands tables w means h start state p within stands;
      sees = λ t. refl;
      fires = λ t args seen means h start state p within stands. step_fires tables (watch_of t args) means h start state p within stands;
    }

    pub whole_places : Places (whole_list (numbers tables)) (whole_list lists)
    whole_places = record {
      within = within_whole;
      stays = λ w start p. refl;
      stands = λ w means h start state p within stands. whole_stands tables w means h start state p within stands;
      sees = λ t. refl;
      fires = λ t args seen means h start state p within stands. whole_fires tables (watch_of t args) means h start state p seen within stands;
    }

    module _ (k : Place (Unit {0}) ℕ) (l : Place Histories Starts) (places : Places k l) (p : Point) (o : Object) (rising : RiseFrom 0 (map number_of o.activations)) where
      abbrev IsFound : Activation → Type 0
      IsFound a = find (λ (b : Activation). b.number == a.number) o.activations ≡ Some a

      found : AllByRecursion IsFound o.activations
      found = find_rising number_of 0 o.activations rising

      -- one activation, behind the point
      abbrev number_row : ℕ × ℕ → ℕ × ℕ
      number_row = changed_row (λ number. k.step p) (watch_at classes o)

      abbrev start_row : ℕ × Starts → ℕ × Starts
      start_row = changed_row (λ number. l.step p) (watch_at classes o)

      moved : (h : Histories) (a : Activation) (row : ℕ × ℕ) (start : ℕ × Starts) → IsFound a → row.0 ≡ a.number → start.0 ≡ a.number → Stays h a row.1 start.1 → Stays (l.grow h p) a (number_row row).1 (start_row start).1
      moved h a row start is e f s = by_watch (watch_by classes a) refl (watch_at classes o row.0) (watch_at classes o start.0) (at row.0 e) (at start.0 f) s.sees where
        at : (n : ℕ) → n ≡ a.number → watch_at classes o n ≡ watch_by classes a
        at n q = ap (λ m. watch_at classes o m) q ∙ ap (λ b. option_and_then (watch_by classes) b) is

        by_watch : (v : Option Watch) → watch_by classes a ≡ v → (v1 v2 : Option Watch) → v1 ≡ watch_by classes a → v2 ≡ watch_by classes a → Sees h start.1 row.1 v
            → Stays (l.grow h p) a (option_map_or (λ w. k.step p w row.1) v1 row.1) (option_map_or (λ w. l.step p w start.1) v2 start.1)
        by_watch None q v1 v2 e1 e2 seen = absurd seen
        by_watch (Some w) q v1 v2 e1 e2 seen =
            subst (λ v. Stays (l.grow h p) a (option_map_or (λ w. k.step p w row.1) v row.1) (option_map_or (λ w. l.step p w start.1) v2 start.1)) (sym (e1 ∙ q))
            (subst (λ v. Stays (l.grow h p) a (k.step p w row.1) (option_map_or (λ w. l.step p w start.1) v start.1)) (sym (e2 ∙ q))
            (subst (λ t. Stays (l.grow h p) a (k.step p w row.1) t) (sym (places.stays w start.1 p))
            (record {
              within = places.within start.1 h p s.within;
              sees = subst (Sees (l.grow h p) start.1 (k.step p w row.1)) (sym q) (places.stands w (watch_means a w q) h start.1 row.1 p s.within seen);
            })))

      pub past_grown : (kn : Kept (Unit {0}) ℕ) (kl : Kept Histories Starts) → Object3 o kn kl → Object3 o (grown_past (numbers tables) k p classes o kn) (grown_past lists l p classes o kl)
      past_grown kn kl rows =
          rows_move number_of IsFound (Stays kl.own) (Stays (l.grow kl.own p)) number_row start_row (λ row. refl) (λ row. refl) (moved kl.own) o.activations kn.activations kl.activations found rows

      -- ---- firings
      module _ (kn : Kept (Unit {0}) ℕ) (kl : Kept Histories Starts) (rows : Object3 o kn kl) where
        abbrev new_numbers : Kept (Unit {0}) ℕ
        new_numbers = grown_past (numbers tables) k p classes o kn

        abbrev new_lists : Kept Histories Starts
        new_lists = grown_past lists l p classes o kl

        -- an activation of a trigger watches for what the trigger says
        watch_is : (t : Trigger) → IsPlaced classes t → (a : Activation) → is_of t a ≡ true → watch_by classes a ≡ Some (watch_of t a.args)
        watch_is t placed a is = by_tests (a.class == t.class) (a.trigger == t.place) refl refl is where
          by_tests : (b c : Bool) → (a.class == t.class) ≡ b → (a.trigger == t.place) ≡ c → (b && c) ≡ true → watch_by classes a ≡ Some (watch_of t a.args)
          by_tests true true e f q =
              ap (λ n. option_map (λ u. watch_of u a.args) (trigger_at classes n a.trigger)) (eqb-true a.class t.class e)
              ∙ ap (λ n. option_map (λ u. watch_of u a.args) (trigger_at classes t.class n)) (eqb-true a.trigger t.place f)
              ∙ ap (λ u. option_map (λ v. watch_of v a.args) u) placed
          by_tests true false e f q = absurd (cc)
          by_tests false c e f q = absurd (cc)

        fires_alike : (t : Trigger) → IsPlaced classes t → l.sees t ≡ true → (a : Activation) → IsFound a → is_of t a ≡ true
            → is_firing (numbers tables) new_numbers t a ≡ is_firing lists new_lists t a
        fires_alike t placed seen a is of =
            let at : Found number_of (Stays kl.own) a (kept_at a.number kn.activations) (kept_at a.number kl.activations) = rows_at number_of (Stays kl.own) a.number o.activations kn.activations kl.activations rows a is in
            let w : watch_by classes a ≡ Some (watch_of t a.args) = watch_is t placed a of in
            let here : watch_at classes o a.number ≡ Some (watch_of t a.args) = ap (λ b. option_and_then (watch_by classes) b) is ∙ w in
            ap (λ b. a.on && b)
            (ap (λ s. option_map_or ((numbers tables).fires (watch_of t a.args) new_numbers.own) s false)
            (kept-map a.number number_row (λ row. refl) kn.activations at.k at.k_is ∙ ap (λ v. Some (option_map_or (λ u. k.step p u at.k) v at.k)) here)
            ∙ places.fires t a.args seen (watch_means a (watch_of t a.args) w) kl.own at.l at.k p at.holds.within (subst (Sees kl.own at.l at.k) w at.holds.sees)
            ∙ sym (ap (λ s. option_map_or (lists.fires (watch_of t a.args) new_lists.own) s false)
            (kept-map a.number start_row (λ row. refl) kl.activations at.l at.l_is ∙ ap (λ v. Some (option_map_or (λ u. l.step p u at.l) v at.l)) here ∙ ap (λ v. Some v) (places.stays (watch_of t a.args) at.l p))))

        tests_agree : (t : Trigger) → IsPlaced classes t → l.sees t ≡ true → (a : Activation) → IsFound a
            → (is_of t a && is_firing (numbers tables) new_numbers t a) ≡ (is_of t a && is_firing lists new_lists t a)
        tests_agree t placed seen a is = by_test (is_of t a) refl where
          by_test : (b : Bool) → is_of t a ≡ b → (b && is_firing (numbers tables) new_numbers t a) ≡ (b && is_firing lists new_lists t a)
          by_test true e = fires_alike t placed seen a is e
          by_test false e = refl

        pub fired_alike : RiseFrom 0 (map (λ (d : Declared). d.class.number) classes) → fired_in (numbers tables) k o classes new_numbers ≡ fired_in lists l o classes new_lists
        fired_alike rising_classes =
            ap (λ ts. flat_map (fired_by (numbers tables) o new_numbers) ts) (filter_same k.sees l.sees (triggers_of classes o.class) (all-of (λ t. k.sees t ≡ l.sees t) places.sees (triggers_of classes o.class)))
            ∙ flat_same (fired_by (numbers tables) o new_numbers) (fired_by lists o new_lists) (filter l.sees (triggers_of classes o.class))
            (all-then (λ t. IsPlaced classes t × (l.sees t ≡ true)) (λ t. fired_by (numbers tables) o new_numbers t ≡ fired_by lists o new_lists t)
            (λ t known. ap (λ acts. map (firing_of o t) acts) (filter_same (λ a. is_of t a && is_firing (numbers tables) new_numbers t a) (λ a. is_of t a && is_firing lists new_lists t a) o.activations
            (all-then IsFound (λ a. (is_of t a && is_firing (numbers tables) new_numbers t a) ≡ (is_of t a && is_firing lists new_lists t a)) (tests_agree t known.0 known.1) o.activations found)))
            (filter l.sees (triggers_of classes o.class)) (all-passing (IsPlaced classes) l.sees (triggers_of classes o.class) (triggers_placed classes rising_classes o.class)))
