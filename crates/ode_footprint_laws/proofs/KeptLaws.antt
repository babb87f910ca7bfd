-- Worlds that agree on a footprint, as a commit and an abort keep them.
use Rattle.std.proofs.Common.{◌≡◌, ℕ, ◌+◌, ◌<◌, ◌≤◌, Bool, true, false, cond, List, [], ◌∷◌, map, ◌==◌, Option, Some, None, refl, sym, ap, ◌∙◌, arith}
use Rattle.std.proofs.lemmas.Bool.{eqb-true}
use Rattle.std.specs.List.{cons_option, filter, filter_map}
use Rattle.std.specs.Option.{option_and_then, option_map, option_map_or, unwrap_or}
use Rattle.ode_footprint_laws.specs.Agreeing.{Agree, AgreeOn, IsSameAt}
use Rattle.ode_laws.proofs.Numbers.{apart}
use Rattle.ode_laws.proofs.Rows.{eq_swap, id_of, numbered_id}
use Rattle.ode_laws.specs.Numbered.{AreNumbered}
use Rattle.ode_value.specs.Denoting.{if_live, object_at, object_numbered}
use Rattle.ode_value.specs.Footprints.{Footprint}
use Rattle.ode_value.specs.GoodWorlds.{RiseFrom}
use Rattle.ode_value.specs.Keeping.{is_there, kept_bones, kept_object, kept_past, kept_row, kept_world, rewound_past, rewound_row, rewound_world, with_last}
use Rattle.ode_value.specs.Language.{ListTx, ListWorld}
use Rattle.ode_value.specs.Objects.{Histories, Starts}
use Rattle.ode_value.specs.Pasts.{Kept, lists}
use Rattle.ode_value.specs.Settling.{aborted, committed, is_independent}
use Rattle.ode_value.specs.Worlds.{Bones, Declared, Object, kept_at}

abbrev pub Past : Type 0
Past = Kept Histories Starts

-- ---- objects that a commit keeps

rising_none : (n low : ℕ) (os : List Object) → n < low → RiseFrom low (map id_of os) → object_numbered n os ≡ None
rising_none n low [] less rise = refl
rising_none n low (o ∷ os) less rise =
    let least : low ≤ o.id = rise.0 in
    let other : (o.id == n) ≡ false = eq_swap o.id n ∙ apart n o.id (omega arith) in
    ap (λ t. cond t (Some o) (object_numbered n os)) other ∙ rising_none n (o.id + 1) os (omega arith) rise.1

pub numbered_kept : (n low : ℕ) (os : List Object) → RiseFrom low (map id_of os) → object_numbered n (map kept_object (filter is_there os)) ≡ option_map kept_object (option_and_then if_live (object_numbered n os))
numbered_kept n low [] rise = refl
numbered_kept n low (o ∷ os) rise = by_tests (o.id == n) o.live refl refl (eqb-true o.id n) (numbered_kept n (o.id + 1) os rise.1) where
  rest : List Object
  rest = filter is_there os

  found : Option Object → Option Object
  found p = option_map kept_object (option_and_then if_live p)

  none_behind : o.id ≡ n → object_numbered n os ≡ None
  none_behind same = rising_none n (o.id + 1) os (omega arith) rise.1

  by_tests : (t l : Bool) → (o.id == n) ≡ t → o.live ≡ l → (t ≡ true → o.id ≡ n) → object_numbered n (map kept_object rest) ≡ found (object_numbered n os)
      → object_numbered n (map kept_object (cond l (o ∷ rest) rest)) ≡ found (cond t (Some o) (object_numbered n os))
  by_tests true true e live same more =
      ap (λ t. cond t (Some (kept_object o)) (object_numbered n (map kept_object rest))) e ∙ ap (λ l. option_map kept_object (cond l (Some o) None)) (sym live)
  by_tests true false e live same more =
      more ∙ ap found (none_behind (same refl)) ∙ ap (λ l. option_map kept_object (cond l (Some o) None)) (sym live)
  by_tests false true e live same more = ap (λ t. cond t (Some (kept_object o)) (object_numbered n (map kept_object rest))) e ∙ more
  by_tests false false e live same more = more

-- ---- pasts that it keeps

-- with an object that is there, where one is
abbrev pub past_of : Option Object → Option Past → Option Past
past_of None k = None
past_of (Some o) k = option_map (λ p. kept_past p o) k

past_none : (o : Option Object) → None ≡ past_of o None
past_none None = refl
past_none (Some o) = refl

pub rows_kept_at : (n : ℕ) (b : Bones) (rows : List (ℕ × Past)) → kept_at n (filter_map (kept_row b) rows) ≡ past_of (object_at b n) (kept_at n rows)
rows_kept_at n b [] = past_none (object_at b n)
rows_kept_at n b (row ∷ rows) = by_tests (row.0 == n) (object_at b row.0) refl refl (eqb-true row.0 n) (rows_kept_at n b rows) where
  rest : List (ℕ × Past)
  rest = filter_map (kept_row b) rows

  by_tests : (t : Bool) (o : Option Object) → (row.0 == n) ≡ t → object_at b row.0 ≡ o → (t ≡ true → row.0 ≡ n) → kept_at n rest ≡ past_of (object_at b n) (kept_at n rows)
      → kept_at n (cons_option (option_map (λ p. (row.0, kept_past row.1 p)) o) rest) ≡ past_of (object_at b n) (cond t (Some row.1) (kept_at n rows))
  by_tests true (Some p) e is same more =
      ap (λ t. cond t (Some (kept_past row.1 p)) (kept_at n rest)) e ∙ ap (λ o. past_of o (Some row.1)) (sym is ∙ ap (object_at b) (same refl))
  by_tests true None e is same more =
      let none : object_at b n ≡ None = sym (ap (object_at b) (same refl)) ∙ is in
      more ∙ ap (λ o. past_of o (kept_at n rows)) none ∙ sym (ap (λ o. past_of o (Some row.1)) none)
  by_tests false (Some p) e is same more = ap (λ t. cond t (Some (kept_past row.1 p)) (kept_at n rest)) e ∙ more
  by_tests false None e is same more = more

-- ---- what an abort goes back to

pub numbered_last : (n : ℕ) (now : Bones) (os : List Object) → object_numbered n (map (with_last now) os) ≡ option_map (with_last now) (object_numbered n os)
numbered_last n now [] = refl
numbered_last n now (o ∷ os) = by_test (o.id == n) (numbered_last n now os) where
  by_test : (t : Bool) → object_numbered n (map (with_last now) os) ≡ option_map (with_last now) (object_numbered n os)
      → cond t (Some (with_last now o)) (object_numbered n (map (with_last now) os)) ≡ option_map (with_last now) (cond t (Some o) (object_numbered n os))
  by_test true more = refl
  by_test false more = more

-- a past of the first world, by its classes and its object, and by the past now
abbrev pub back_to : List Declared → Option Object → Option Past → Past → Past
back_to cs o now k = option_map_or (rewound_past lists cs k (unwrap_or now k)) o k

pub rows_rewound_at : (n : ℕ) (first now : ListWorld) (rows : List (ℕ × Past)) → kept_at n (map (rewound_row lists first now) rows) ≡ option_map (back_to first.bones.classes (object_at first.bones n) (kept_at n now.pasts)) (kept_at n rows)
rows_rewound_at n first now [] = refl
rows_rewound_at n first now (row ∷ rows) = by_test (row.0 == n) (eqb-true row.0 n) (rows_rewound_at n first now rows) where
  rewound_at : ℕ → Past
  rewound_at i = back_to first.bones.classes (object_at first.bones i) (kept_at i now.pasts) row.1

  by_test : (t : Bool) → (t ≡ true → row.0 ≡ n) → kept_at n (map (rewound_row lists first now) rows) ≡ option_map (back_to first.bones.classes (object_at first.bones n) (kept_at n now.pasts)) (kept_at n rows)
      → cond t (Some (rewound_at row.0)) (kept_at n (map (rewound_row lists first now) rows)) ≡ option_map (back_to first.bones.classes (object_at first.bones n) (kept_at n now.pasts)) (cond t (Some row.1) (kept_at n rows))
  by_test true same more = ap (λ i. Some (rewound_at i)) (same refl)
  by_test false same more = more

-- the numbers of a world's objects rise
abbrev Rises : ListWorld → Type 0
Rises w = RiseFrom 0 (map id_of w.bones.objects)

-- ---- two worlds with the same object of a number

module _ (n : ℕ) where
  kept_same : (v w : ListWorld) → Rises v → Rises w → IsSameAt v w n → IsSameAt (kept_world v) (kept_world w) n
  kept_same v w rise_v rise_w same = record {
    object = same_object;
    past =
        rows_kept_at n (kept_bones v.bones) v.pasts
        ∙ ap (λ o. past_of (option_and_then if_live o) (kept_at n v.pasts)) same_object
        ∙ ap (past_of (object_at (kept_bones w.bones) n)) same.past
        ∙ sym (rows_kept_at n (kept_bones w.bones) w.pasts);
  }
    where
      same_object : object_numbered n (kept_bones v.bones).objects ≡ object_numbered n (kept_bones w.bones).objects
      same_object =
          numbered_kept n 0 v.bones.objects rise_v ∙ ap (λ o. option_map kept_object (option_and_then if_live o)) same.object ∙ sym (numbered_kept n 0 w.bones.objects rise_w)

  -- the last version of an object now
  last_same : (v w : ListWorld) → IsSameAt v w n → (os : List Object) → option_map (with_last v.bones) (object_numbered n os) ≡ option_map (with_last w.bones) (object_numbered n os)
  last_same v w same os = by_found (object_numbered n os) refl where
    by_found : (o : Option Object) → object_numbered n os ≡ o → option_map (with_last v.bones) o ≡ option_map (with_last w.bones) o
    by_found None is = refl
    by_found (Some p) is =
        let id : p.id ≡ n = numbered_id n os p is in
        ap (λ i. Some (record p { last = option_map_or (λ (q : Object). q.last) (object_numbered i v.bones.objects) p.last })) id
        ∙ ap (λ o. Some (record p { last = option_map_or (λ (q : Object). q.last) o p.last })) same.object
        ∙ ap (λ i. Some (record p { last = option_map_or (λ (q : Object). q.last) (object_numbered i w.bones.objects) p.last })) (sym id)

  rewound_same : (v0 v w0 w : ListWorld) → v0.bones.classes ≡ w0.bones.classes → IsSameAt v0 w0 n → IsSameAt v w n → IsSameAt (rewound_world lists v0 v) (rewound_world lists w0 w) n
  rewound_same v0 v w0 w classes first now = record {
    object =
        numbered_last n v.bones v0.bones.objects ∙ ap (option_map (with_last v.bones)) first.object ∙ last_same v w now w0.bones.objects ∙ sym (numbered_last n w.bones w0.bones.objects);
    past =
        rows_rewound_at n v0 v v0.pasts
        ∙ ap (option_map (back_to v0.bones.classes (object_at v0.bones n) (kept_at n v.pasts))) first.past
        ∙ ap (λ cs. option_map (back_to cs (object_at v0.bones n) (kept_at n v.pasts)) (kept_at n w0.pasts)) classes
        ∙ ap (λ o. option_map (back_to w0.bones.classes (option_and_then if_live o) (kept_at n v.pasts)) (kept_at n w0.pasts)) first.object
        ∙ ap (λ k. option_map (back_to w0.bones.classes (object_at w0.bones n) k) (kept_at n w0.pasts)) now.past
        ∙ sym (rows_rewound_at n w0 w w0.pasts);
  }

module _ (f : Footprint) where
  on_kept : (v w : ListWorld) → Rises v → Rises w → AgreeOn f v w → AgreeOn f (kept_world v) (kept_world w)
  on_kept v w rise_v rise_w a = record { classes = a.classes; added = a.added; objects = λ n among. kept_same n v w rise_v rise_w (a.objects n among); next = a.next }

  on_rewound : (v0 v w0 w : ListWorld) → AgreeOn f v0 w0 → AgreeOn f v w → AgreeOn f (rewound_world lists v0 v) (rewound_world lists w0 w)
  on_rewound v0 v w0 w first now = record {
    classes = first.classes;
    added = first.added;
    objects = λ n among. rewound_same n v0 v w0 w first.classes (first.objects n among) (now.objects n among);
    next = now.next;
  }

  -- ---- transactions

  pub agree_committed : (y x : ListTx) → AreNumbered y.now.bones → AreNumbered x.now.bones → Agree f y x → Agree f (committed lists y) (committed lists x)
  agree_committed y x numbered_y numbered_x a = record {
    first = a.first;
    now = on_kept y.now x.now numbered_y.rising numbered_x.rising a.now;
    origin = a.origin;
    touched = a.touched;
    deferred = a.deferred;
    collected = a.collected;
    gathered = a.gathered;
    text = a.text;
    run = a.run;
    keys = a.keys;
    footprint = a.footprint;
  }

  pub agree_aborted : (y x : ListTx) → Agree f y x → Agree f (aborted lists y) (aborted lists x)
  agree_aborted y x a = record {
    first = a.first;
    now = on_rewound y.first y.now x.first x.now a.first.worlds a.now;
    origin = a.origin;
    touched = a.touched;
    deferred = a.deferred;
    collected = ap (filter is_independent) a.collected;
    gathered = a.gathered;
    text = a.text;
    run = a.run;
    keys = a.keys;
    footprint = a.footprint;
  }
