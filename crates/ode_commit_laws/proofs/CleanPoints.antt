-- A point of a live object, in a world and in the same without what is gone.
use Rattle.std.proofs.Common.{◌≡◌, ◌==◌, ℕ, List, [], ◌∷◌, map, Bool, true, false, cond, Option, Some, refl, sym, ap, ◌∙◌}
use Rattle.std.proofs.lemmas.Bool.{eqb-true, false≢true}
use Rattle.std.specs.Prelude.{◌&&◌}
use Rattle.std.specs.List.{AllByRecursion, filter}
use Rattle.std.specs.Option.{option_and_then, option_map, option_map_or}
use Rattle.ode_commit_laws.proofs.CleanLists.{found_on, number_of}
use Rattle.ode_commit_laws.proofs.CleanRows.{IsWithin, kept_chosen}
use Rattle.ode_laws.proofs.Each.{all-of, all-then, flat_same}
use Rattle.ode_laws.proofs.KeptRows.{any_on}
use Rattle.ode_value.specs.Classes.{Trigger, triggers_of, watch_of}
use Rattle.ode_value.specs.Firings.{Place, fired_by, fired_in, firing_of, grown_past, is_firing, is_of, watch_at, watch_by}
use Rattle.ode_value.specs.GoodWorlds.{RiseFrom}
use Rattle.ode_value.specs.Keeping.{has_activation, is_active, kept_object, kept_past}
use Rattle.ode_value.specs.Objects.{Activation}
use Rattle.ode_value.specs.Pasts.{Kept, Past, Watch}
use Rattle.ode_value.specs.Worlds.{Declared, Object, kept_at}
use Rattle.ode_value.specs.declared.event.Point.{Point}

-- ---- rows that are changed by their numbers

module _ {A : Type 0} (step : Watch → A → A) where
  abbrev stepped : Option Watch → A → A
  stepped w a = option_map_or (λ (v : Watch). step v a) w a

  abbrev moved : (ℕ → Option Watch) → ℕ × A → ℕ × A
  moved watch row = (row.0, stepped (watch row.0) row.1)

  moved_at : (watch : ℕ → Option Watch) (n : ℕ) (rows : List (ℕ × A)) → kept_at n (map (moved watch) rows) ≡ option_map (stepped (watch n)) (kept_at n rows)
  moved_at watch n [] = refl
  moved_at watch n (row ∷ rows) = by_test (row.0 == n) refl (moved_at watch n rows) where
    by_test : (b : Bool) → (row.0 == n) ≡ b → kept_at n (map (moved watch) rows) ≡ option_map (stepped (watch n)) (kept_at n rows)
        → cond b (Some (stepped (watch row.0) row.1)) (kept_at n (map (moved watch) rows)) ≡ option_map (stepped (watch n)) (cond b (Some row.1) (kept_at n rows))
    by_test true is more = ap (λ m. Some (stepped (watch m) row.1)) (eqb-true row.0 n is)
    by_test false is more = more

  -- of those that are among others
  moved_among : (watch other : ℕ → Option Watch) (p q : ℕ → Bool) → ((n : ℕ) → p n ≡ true → q n ≡ true) → ((n : ℕ) → q n ≡ true → other n ≡ watch n) → (rows : List (ℕ × A))
      → filter (λ (row : ℕ × A). p row.0) (map (moved other) (filter (λ (row : ℕ × A). q row.0) rows)) ≡ filter (λ (row : ℕ × A). p row.0) (map (moved watch) rows)
  moved_among watch other p q within same [] = refl
  moved_among watch other p q within same (row ∷ rows) = by_tests (q row.0) refl (p row.0) refl (moved_among watch other p q within same rows) where
    by_tests : (b : Bool) → q row.0 ≡ b → (c : Bool) → p row.0 ≡ c
        → filter (λ (r : ℕ × A). p r.0) (map (moved other) (filter (λ (r : ℕ × A). q r.0) rows)) ≡ filter (λ (r : ℕ × A). p r.0) (map (moved watch) rows)
        → filter (λ (r : ℕ × A). p r.0) (map (moved other) (cond b (row ∷ filter (λ (r : ℕ × A). q r.0) rows) (filter (λ (r : ℕ × A). q r.0) rows)))
        ≡ cond c (moved watch row ∷ filter (λ (r : ℕ × A). p r.0) (map (moved watch) rows)) (filter (λ (r : ℕ × A). p r.0) (map (moved watch) rows))
    by_tests true is c goes more =
        ap (λ t. cond t (moved other row ∷ filter (λ (r : ℕ × A). p r.0) (map (moved other) (filter (λ (r : ℕ × A). q r.0) rows))) (filter (λ (r : ℕ × A). p r.0) (map (moved other) (filter (λ (r : ℕ × A). q r.0) rows)))) goes
        ∙ ap (λ (w : Option Watch). cond c ((row.0, stepped w row.1) ∷ filter (λ (r : ℕ × A). p r.0) (map (moved other) (filter (λ (r : ℕ × A). q r.0) rows))) (filter (λ (r : ℕ × A). p r.0) (map (moved other) (filter (λ (r : ℕ × A). q r.0) rows)))) (same row.0 is)
        ∙ ap (λ (rs : List (ℕ × A)). cond c (moved watch row ∷ rs) rs) more
    by_tests false is true goes more = absurd (false≢true (sym is ∙ within row.0 goes))
    by_tests false is false goes more = more

-- of activations that are on
filter_on : (p q : Activation → Bool) (acts : List Activation) → AllByRecursion (λ (a : Activation). a.on ≡ true → p a ≡ q a) acts → AllByRecursion (λ (a : Activation). a.on ≡ false → q a ≡ false) acts
    → filter p (filter is_active acts) ≡ filter q acts
filter_on p q [] same off = refl
filter_on p q (a ∷ acts) same off = by_on a.on refl (filter_on p q acts same.1 off.1) where
  by_on : (b : Bool) → a.on ≡ b → filter p (filter is_active acts) ≡ filter q acts → filter p (cond b (a ∷ filter is_active acts) (filter is_active acts)) ≡ cond (q a) (a ∷ filter q acts) (filter q acts)
  by_on true is more = ap (λ t. cond t (a ∷ filter p (filter is_active acts)) (filter p (filter is_active acts))) (same.0 is) ∙ ap (λ (bs : List Activation). cond (q a) (a ∷ bs) bs) more
  by_on false is more = more ∙ sym (ap (λ t. cond t (a ∷ filter q acts) (filter q acts)) (off.0 is))

-- ---- one object

module _ {O A : Type 0} (past : Past O A) (place : Place O A) (p : Point) (classes : List Declared) (o : Object) (rise : RiseFrom 0 (map number_of o.activations)) where
  abbrev its : Object
  its = kept_object o

  abbrev grow : Kept O A → Kept O A
  grow = grown_past past place p classes o

  abbrev grow_its : Kept O A → Kept O A
  grow_its = grown_past past place p classes its

  same_watch : (n : ℕ) → has_activation its n ≡ true → watch_at classes its n ≡ watch_at classes o n
  same_watch n has = ap (option_and_then (watch_by classes)) (found_on n 0 o.activations rise has)

  pub same_growth : (c : Object) → IsWithin c its → (k : Kept O A) → kept_past (grow_its (kept_past k its)) c ≡ kept_past (grow k) c
  same_growth c within k =
      ap (λ (rows : List (ℕ × A)). record { own = place.grow k.own p; activations = rows })
      (moved_among (place.step p) (watch_at classes o) (watch_at classes its) (has_activation c) (has_activation its) within same_watch k.activations)

  same_kept : (k : Kept O A) (n : ℕ) → has_activation its n ≡ true → kept_at n (grow_its (kept_past k its)).activations ≡ kept_at n (grow k).activations
  same_kept k n has =
      moved_at (place.step p) (watch_at classes its) n (kept_past k its).activations
      ∙ ap (option_map (stepped (place.step p) (watch_at classes its n))) (kept_chosen n (has_activation its) has k.activations)
      ∙ ap (λ (w : Option Watch). option_map (stepped (place.step p) w) (kept_at n k.activations)) (same_watch n has)
      ∙ sym (moved_at (place.step p) (watch_at classes o) n k.activations)

  off_test : (b c : Bool) → (b && (false && c)) ≡ false
  off_test true c = refl
  off_test false c = refl

  same_by : (k : Kept O A) (t : Trigger) → fired_by past its (grow_its (kept_past k its)) t ≡ fired_by past o (grow k) t
  same_by k t =
      ap (map (firing_of o t))
      (filter_on (λ a. is_of t a && is_firing past (grow_its (kept_past k its)) t a) (λ a. is_of t a && is_firing past (grow k) t a) o.activations
      (all-then (λ (a : Activation). has_activation its a.number ≡ a.on) (λ (a : Activation). a.on ≡ true → (is_of t a && is_firing past (grow_its (kept_past k its)) t a) ≡ (is_of t a && is_firing past (grow k) t a))
      (λ a has on. ap (λ (m : Option A). is_of t a && (a.on && option_map_or (past.fires (watch_of t a.args) (place.grow k.own p)) m false)) (same_kept k a.number (has ∙ on))) o.activations (any_on 0 o.activations rise))
      (all-of (λ (a : Activation). a.on ≡ false → (is_of t a && is_firing past (grow k) t a) ≡ false)
      (λ a off.
      ap (λ b. is_of t a && (b && option_map_or (past.fires (watch_of t a.args) (grow k).own) (kept_at a.number (grow k).activations) false)) off
      ∙ off_test (is_of t a) (option_map_or (past.fires (watch_of t a.args) (grow k).own) (kept_at a.number (grow k).activations) false)) o.activations))

  pub same_fired : (k : Kept O A) → fired_in past place its classes (grow_its (kept_past k its)) ≡ fired_in past place o classes (grow k)
  same_fired k =
      flat_same (fired_by past its (grow_its (kept_past k its))) (fired_by past o (grow k)) (filter place.sees (triggers_of classes o.class))
      (all-of (λ t. fired_by past its (grow_its (kept_past k its)) t ≡ fired_by past o (grow k) t) (same_by k) (filter place.sees (triggers_of classes o.class)))
