-- What an abort leaves of an object, in the overlay and in the machine.
use Rattle.std.proofs.Common.{◌≡◌, ◌+◌, ◌≤◌, ◌==◌, ℕ, List, [], ◌∷◌, Bool, true, false, cond, find, map, option_map, slice_get, unwrap_or, Option, Some, None, refl, sym, ap, subst, ◌∙◌, arith}
use Rattle.std.proofs.lemmas.Bool.{eqb-true}
use Rattle.std.specs.List.{AllByRecursion, AllZip}
use Rattle.std.specs.Option.{option_and_then, option_map_or}
use Rattle.ode_heap.specs.Answering.{class_of}
use Rattle.ode_heap_laws.proofs.Classes.{same_numbered}
use Rattle.ode_laws.proofs.Rows.{find_rising}
use Rattle.ode_laws.specs.Alike.{NumberWorld}
use Rattle.ode_objects.specs.Objects.{has_number}
use Rattle.ode_objects.specs.Rewinding.{is_whole, rewound_active, rewound_object, sees_in, sees_whole, state_in}
use Rattle.ode_objects.specs.declared.object.Active.{Active}
use Rattle.ode_objects.specs.declared.object.Object.{Object}
use Rattle.ode_overlay_laws.specs.Standing.{active_as, kept_as, object_as}
use Rattle.ode_value.specs.Classes.{trigger_of, watch_of}
use Rattle.ode_value.specs.Denoting.{object_numbered}
use Rattle.ode_value.specs.Firings.{changed_row, changed_rows, watch_at, watch_by}
use Rattle.ode_value.specs.GoodWorlds.{RiseFrom}
use Rattle.ode_value.specs.Keeping.{back, rewound_by, rewound_past, rewound_row, with_last}
use Rattle.ode_value.specs.Objects.{Activation}
use Rattle.ode_value.specs.Pasts.{Kept, Watch, numbers}
use Rattle.ode_value.specs.Tables.{Table}
use Rattle.ode_value.specs.Worlds as worlds
use Rattle.ode_value.specs.Worlds.{Bones, Declared, kept_at}
use Rattle.ode_value.specs.declared.class.Class.{Class}
use Rattle.ode_value.specs.declared.member.TriggerDecl.{TriggerDecl}

-- ---- look-ups in what is left

pub numbered_left : (id : ℕ) (now : Bones) (os : List worlds.Object) → object_numbered id (map (with_last now) os) ≡ option_map (with_last now) (object_numbered id os)
numbered_left id now [] = refl
numbered_left id now (o ∷ os) = by_test (o.id == id) (numbered_left id now os) where
  by_test : (b : Bool) → object_numbered id (map (with_last now) os) ≡ option_map (with_last now) (object_numbered id os)
      → cond b (Some (with_last now o)) (object_numbered id (map (with_last now) os)) ≡ option_map (with_last now) (cond b (Some o) (object_numbered id os))
  by_test true rest = refl
  by_test false rest = rest

module _ (tables : ℕ → ℕ → Table) (first now : NumberWorld) where
  -- a row of the first world by its number
  abbrev left : ℕ → Kept (Unit {0}) ℕ → Kept (Unit {0}) ℕ
  left id k = rewound_by (numbers tables) first id k (unwrap_or (kept_at id now.pasts) k)

  pub kept_left : (id : ℕ) (rows : List (ℕ × Kept (Unit {0}) ℕ)) → kept_at id (map (rewound_row (numbers tables) first now) rows) ≡ option_map (left id) (kept_at id rows)
  kept_left id [] = refl
  kept_left id (row ∷ rows) = by_test (row.0 == id) (eqb-true row.0 id) (kept_left id rows) where
    by_test : (b : Bool) → (b ≡ true → row.0 ≡ id) → kept_at id (map (rewound_row (numbers tables) first now) rows) ≡ option_map (left id) (kept_at id rows)
        → cond b (Some (left row.0 row.1)) (kept_at id (map (rewound_row (numbers tables) first now) rows)) ≡ option_map (left id) (cond b (Some row.1) (kept_at id rows))
    by_test true same rest = ap (λ (n : ℕ). Some (left n row.1)) (same refl)
    by_test false same rest = rest

-- ---- the states of activations

abbrev row_of : Active → ℕ × ℕ
row_of a = (a.number, a.state)

abbrev rows_of : List Active → List (ℕ × ℕ)
rows_of activations = map row_of activations

-- the state that an activation has now
state_same : (n s : ℕ) (now : List Active) → unwrap_or (kept_at n (rows_of now)) s ≡ option_map_or (λ (b : Active). b.state) (find (has_number n) now) s
state_same n s [] = refl
state_same n s (b ∷ now) = by_test (b.number == n) (state_same n s now) where
  by_test : (t : Bool) → unwrap_or (kept_at n (rows_of now)) s ≡ option_map_or (λ (b : Active). b.state) (find (has_number n) now) s
      → unwrap_or (cond t (Some b.state) (kept_at n (rows_of now))) s ≡ option_map_or (λ (b : Active). b.state) (cond t (Some b) (find (has_number n) now)) s
  by_test true rest = refl
  by_test false rest = rest

pub same_parts : (classes : List Class) (now activations : List Active) → map active_as (map (rewound_active classes now) activations) ≡ map active_as activations
same_parts classes now [] = refl
same_parts classes now (a ∷ more) = ap (λ (acts : List Activation). active_as a ∷ acts) (same_parts classes now more)

module _ (tables : ℕ → ℕ → Table) (declared : List Declared) (now : List Active) where
  abbrev classes : List Class
  classes = map class_of declared

  abbrev states : ℕ → Watch → ℕ → ℕ
  states = back (numbers tables) (rows_of now)

  -- by what an activation watches for
  state_left : (a : Active) → option_map_or (λ w. states a.number w a.state) (watch_by declared (active_as a)) a.state ≡ (rewound_active classes now a).state
  state_left a = by_class (worlds.class_numbered a.class declared) ∙ sym (ap (λ (c : Option Class). cond (sees_in c a.trigger) (state_in now a) a.state) (same_numbered declared a.class)) where
    by_trigger : (f : Option TriggerDecl)
        → option_map_or (λ w. states a.number w a.state) (option_map (λ t. watch_of t a.args) (option_map (λ t. trigger_of a.class (a.trigger, t)) f)) a.state ≡ cond (sees_whole f) (state_in now a) a.state
    by_trigger None = refl
    by_trigger (Some t) = ap (λ (s : ℕ). cond t.whole s a.state) (state_same a.number a.state now)

    by_class : (c : Option Class)
        → option_map_or (λ w. states a.number w a.state)
        (option_map (λ t. watch_of t a.args) (option_map (λ t. trigger_of a.class (a.trigger, t)) (option_and_then (λ (c : Class). slice_get c.triggers a.trigger) c))) a.state
        ≡ cond (sees_in c a.trigger) (state_in now a) a.state
    by_class None = refl
    by_class (Some c) = by_trigger (slice_get c.triggers a.trigger)

  -- of an object whose activations are found by their numbers
  rows_left : (o : worlds.Object) (activations : List Active) → AllByRecursion (λ a. find (λ (b : Activation). b.number == a.number) o.activations ≡ Some a) (map active_as activations)
      → changed_rows states declared o (rows_of activations) ≡ rows_of (map (rewound_active classes now) activations)
  rows_left o [] each = refl
  rows_left o (a ∷ more) each =
      let row : changed_row states (watch_at declared o) (row_of a) ≡ row_of (rewound_active classes now a) =
      ap (λ (f : Option Activation). (a.number, option_map_or (λ w. states a.number w a.state) (option_and_then (watch_by declared) f) a.state)) each.0
      ∙ ap (λ (s : ℕ). (a.number, s)) (state_left a)
      in
      ap (λ (r : ℕ × ℕ). r ∷ changed_rows states declared o (rows_of more)) row
      ∙ ap (λ (rs : List (ℕ × ℕ)). row_of (rewound_active classes now a) ∷ rs) (rows_left o more each.1)

  pub past_left : (id : ℕ) (o : Object) (p : Object) → p.activations ≡ now → RiseFrom 0 (map (λ (a : Activation). a.number) (object_as id o).activations)
      → rewound_past (numbers tables) declared (kept_as o) (kept_as p) (object_as id o) ≡ kept_as (rewound_object classes o p)
  past_left id o p is rise =
      ap (λ (acts : List Active). record {
        own = tt;
        activations = changed_rows (back (numbers tables) (rows_of acts)) declared (object_as id o) (rows_of o.activations);
      }) is
      ∙ ap (λ (rows : List (ℕ × ℕ)). record { own = tt; activations = rows }) (rows_left (object_as id o) o.activations (find_rising (λ (a : Activation). a.number) 0 (object_as id o).activations rise))
      ∙ ap (λ (acts : List Active). kept_as (record o { activations = map (rewound_active classes acts) o.activations })) (sym is)

-- ---- an object that didn't change

whole_or_not : (b : Bool) (s : ℕ) → cond b s s ≡ s
whole_or_not true s = refl
whole_or_not false s = refl

rises_as : (low : ℕ) (activations : List Active) → RiseFrom low (map (λ (a : Activation). a.number) (map active_as activations)) → RiseFrom low (map (λ (a : Active). a.number) activations)
rises_as low [] rise = tt
rises_as low (a ∷ more) rise = (rise.0, rises_as (a.number + 1) more rise.1)

module _ (classes : List Class) where
  unchanged : (all activations : List Active) → AllByRecursion (λ a. find (λ (b : Active). b.number == a.number) all ≡ Some a) activations → map (rewound_active classes all) activations ≡ activations
  unchanged all [] each = refl
  unchanged all (a ∷ more) each =
      let state : (rewound_active classes all a).state ≡ a.state =
      ap (λ (f : Option Active). cond (is_whole classes a) (option_map_or (λ (b : Active). b.state) f a.state) a.state) each.0 ∙ whole_or_not (is_whole classes a) a.state
      in
      ap (λ (s : ℕ). record a { state = s } ∷ map (rewound_active classes all) more) state ∙ ap (λ (acts : List Active). a ∷ acts) (unchanged all more each.1)

  pub object_unchanged : (id : ℕ) (o : Object) → RiseFrom 0 (map (λ (a : Activation). a.number) (object_as id o).activations) → rewound_object classes o o ≡ o
  object_unchanged id o rise =
      ap (λ (acts : List Active). record o { activations = acts }) (unchanged o.activations o.activations (find_rising (λ (a : Active). a.number) 0 o.activations (rises_as 0 o.activations rise)))

-- ---- what is kept of one that didn't change

pub kept_find : (n : ℕ) (rows : List (ℕ × ℕ)) → kept_at n rows ≡ option_map (λ (row : ℕ × ℕ). row.1) (find (λ (row : ℕ × ℕ). row.0 == n) rows)
kept_find n [] = refl
kept_find n (row ∷ rows) = by_test (row.0 == n) (kept_find n rows) where
  by_test : (b : Bool) → kept_at n rows ≡ option_map (λ (row : ℕ × ℕ). row.1) (find (λ (row : ℕ × ℕ). row.0 == n) rows)
      → cond b (Some row.1) (kept_at n rows) ≡ option_map (λ (row : ℕ × ℕ). row.1) (cond b (Some row) (find (λ (row : ℕ × ℕ). row.0 == n) rows))
  by_test true rest = refl
  by_test false rest = rest

module _ (tables : ℕ → ℕ → Table) (declared : List Declared) where
  rows_unchanged : (o : worlds.Object) (all rows : List (ℕ × ℕ)) → AllByRecursion (λ row. find (λ (r : ℕ × ℕ). r.0 == row.0) all ≡ Some row) rows
      → changed_rows (back (numbers tables) all) declared o rows ≡ rows
  rows_unchanged o all [] each = refl
  rows_unchanged o all (row ∷ rows) each =
      let now : unwrap_or (kept_at row.0 all) row.1 ≡ row.1 =
      ap (λ (f : Option ℕ). unwrap_or f row.1) (kept_find row.0 all ∙ ap (option_map (λ (r : ℕ × ℕ). r.1)) each.0)
      in
      let one : changed_row (back (numbers tables) all) (watch_at declared o) row ≡ row =
      ap (λ (s : ℕ). (row.0, option_map_or (λ (w : Watch). cond w.whole s row.1) (watch_at declared o row.0) row.1)) now ∙ ap (λ (s : ℕ). (row.0, s)) (by_watch row.1 (watch_at declared o row.0))
      in
      ap (λ (r : ℕ × ℕ). r ∷ changed_rows (back (numbers tables) all) declared o rows) one ∙ ap (λ (rs : List (ℕ × ℕ)). row ∷ rs) (rows_unchanged o all rows each.1)
    where
      by_watch : (s : ℕ) (f : Option Watch) → option_map_or (λ (w : Watch). cond w.whole s s) f s ≡ s
      by_watch s None = refl
      by_watch s (Some w) = whole_or_not w.whole s

  pub past_unchanged : (k : Kept (Unit {0}) ℕ) (f : Option worlds.Object) → ((o : worlds.Object) → f ≡ Some o → RiseFrom 0 (map (λ (row : ℕ × ℕ). row.0) k.activations))
      → option_map_or (rewound_past (numbers tables) declared k k) f k ≡ k
  past_unchanged k None rise = refl
  past_unchanged k (Some o) rise =
      ap (λ (rows : List (ℕ × ℕ)). record { own = tt; activations = rows })
      (rows_unchanged o k.activations k.activations (find_rising (λ (row : ℕ × ℕ). row.0) 0 k.activations (rise o refl)))

-- rows of activations whose numbers rise
pub rows_rise : (low : ℕ) (activations : List Activation) (rows : List (ℕ × ℕ)) → AllZip (λ (a : Activation) (row : ℕ × ℕ). row.0 ≡ a.number) activations rows
    → RiseFrom low (map (λ (a : Activation). a.number) activations) → RiseFrom low (map (λ (row : ℕ × ℕ). row.0) rows)
rows_rise low [] [] same rise = tt
rows_rise low (a ∷ more) (row ∷ rows) same rise =
    let one : row.0 ≡ a.number = same.0 in
    let from : low ≤ a.number = rise.0 in
    (omega (arith, one, from), subst (λ (n : ℕ). RiseFrom (n + 1) (map (λ (row : ℕ × ℕ). row.0) rows)) (sym one) (rows_rise (a.number + 1) more rows same.1 rise.1))
rows_rise low [] (row ∷ rows) same rise = absurd same
rows_rise low (a ∷ more) [] same rise = absurd same
