-- What was changed is taken back, in the overlay and in the machine.
use Rattle.std.proofs.Common.{◌≡◌, ℕ, List, [], ◌∷◌, Bool, true, false, cond, map, option_map, Option, Some, None, refl, sym, ap, subst, ◌∙◌}
use Rattle.std.specs.BTreeMap.{is_at}
use Rattle.std.specs.List.{AllByRecursion, filter}
use Rattle.std.specs.Map.{lookup}
use Rattle.std.specs.Option.{option_and_then, option_map_or, unwrap_or}
use Rattle.std.specs.Ordering.{nat_cmp}
use Rattle.ode_heap.specs.Answering.{class_of}
use Rattle.ode_laws.proofs.Each.{all-then}
use Rattle.ode_laws.proofs.Rows.{at_numbered, numbered_id}
use Rattle.ode_laws.specs.Alike.{NumberTx, NumberWorld}
use Rattle.ode_objects.specs.Rewinding.{rewound, rewound_object}
use Rattle.ode_objects.specs.declared.object.Object.{Object}
use Rattle.ode_objects.specs.declared.tracked.First.{First}
use Rattle.ode_objects.specs.declared.tracked.First.TheVariants.{Same, Other, Absent}
use Rattle.ode_objects.specs.declared.tracked.Tracked.{Tracked}
use Rattle.ode_overlay.specs.Layers.{Layer, tracked_at}
use Rattle.ode_overlay.specs.Rewinding.{put_rewound, rewind, rewound_from, stays}
use Rattle.ode_overlay.specs.declared.overlay.Collected.{Collected}
use Rattle.ode_overlay_laws.specs.Standing.{IsAsAtFirst, IsIn, Stands, collected_as, kept_as, object_as}
use Rattle.ode_value.specs.Denoting.{if_live, object_at, object_numbered}
use Rattle.ode_value.specs.GoodWorlds.{RiseFrom}
use Rattle.ode_value.specs.Keeping.{rewound_by, rewound_past, rewound_world, with_last}
use Rattle.ode_value.specs.Objects.{Activation}
use Rattle.ode_value.specs.Pasts.{Kept, numbers}
use Rattle.ode_value.specs.Settling.{aborted, is_independent}
use Rattle.ode_value.specs.Tables.{Table}
use Rattle.ode_value.specs.Transactions as transactions
use Rattle.ode_value.specs.Worlds as worlds
use Rattle.ode_value.specs.Worlds.{kept_at}
use Rattle.ode_value.specs.declared.class.Class.{Class}
use Rattle.ode_version_laws.proofs.RememberLaws.{remembers_none, remembers_put}
use Rattle.ode_version_laws.proofs.TrackedMaps.{all_found, rewound_at}
use Rattle.ode_version_laws.proofs.RewoundRows.{kept_left, numbered_left, object_unchanged, past_left, past_unchanged, rows_rise, same_parts}
use Rattle.ode_version_laws.specs.Remembering.{IsOutside, Remembers, WasFirst}
use Rattle.ode_version_laws.specs.Showing.{AreSettled}

independent_same : (cs : List Collected) → filter is_independent (map collected_as cs) ≡ map collected_as (filter stays cs)
independent_same [] = refl
independent_same (c ∷ cs) = by_test c.independent (independent_same cs) where
  by_test : (b : Bool) → filter is_independent (map collected_as cs) ≡ map collected_as (filter stays cs)
      → cond b (collected_as c ∷ filter is_independent (map collected_as cs)) (filter is_independent (map collected_as cs)) ≡ map collected_as (cond b (c ∷ filter stays cs) (filter stays cs))
  by_test true rest = ap (λ (ds : List transactions.Collected). collected_as c ∷ ds) rest
  by_test false rest = rest

module _ (tables : ℕ → ℕ → Table) (x : Layer) (y : NumberTx) (stands : Stands x y) (remembers : Remembers x.objects y.first) (settled : AreSettled y.first) where
  abbrev classes : List Class
  classes = map class_of y.first.bones.classes

  abbrev left : NumberWorld
  left = rewound_world (numbers tables) y.first y.now

  abbrev left_of : ℕ → Kept (Unit {0}) ℕ → Kept (Unit {0}) ℕ
  left_of id k = rewound_by (numbers tables) y.first id k (unwrap_or (kept_at id y.now.pasts) k)

  objects_left : (id : ℕ) → object_numbered id left.bones.objects ≡ option_map (with_last y.now.bones) (object_numbered id y.first.bones.objects)
  objects_left id = numbered_left id y.now.bones y.first.bones.objects

  pasts_left : (id : ℕ) → kept_at id left.pasts ≡ option_map (left_of id) (kept_at id y.first.pasts)
  pasts_left id = kept_left tables y.first y.now id y.first.pasts

  -- an object of the first world
  left_in : (id : ℕ) (o p : Object) → IsIn y.first id o → IsIn y.now id p → IsIn left id (rewound_object classes o p)
  left_in id o p first now = record {
    object =
        objects_left id
        ∙ ap (option_map (with_last y.now.bones)) first.object
        ∙ ap (λ (q : Option worlds.Object). Some (record (object_as id o) { last = option_map_or (λ (r : worlds.Object). r.last) q o.last })) now.object
        ∙ ap (λ (acts : List Activation). Some (record (object_as id o) { last = p.last; activations = acts })) (sym (same_parts classes p.activations o.activations));
    kept =
        pasts_left id
        ∙ ap (option_map (left_of id)) first.kept
        ∙ ap (λ (k : Option (Kept (Unit {0}) ℕ)). Some (rewound_by (numbers tables) y.first id (kept_as o) (unwrap_or k (kept_as o)))) now.kept
        ∙ ap (λ (q : Option worlds.Object). Some (option_map_or (rewound_past (numbers tables) y.first.bones.classes (kept_as o) (kept_as p)) q (kept_as o))) there
        ∙ ap (λ (k : Kept (Unit {0}) ℕ). Some k) (past_left tables y.first.bones.classes p.activations id o p refl (settled id (object_as id o) first.object).rising);
  }
    where
      there : object_at y.first.bones id ≡ Some (object_as id o)
      there = ap (option_and_then if_live) first.object ∙ ap (λ (b : Bool). cond b (Some (object_as id o)) None) (settled id (object_as id o) first.object).live

  -- one that is tracked
  tracked_left : (id : ℕ) (now : Object) (f : First) → IsIn y.now id now → WasFirst y.first id now f → (t : Tracked) → rewound classes (record { first = f; current = now }) ≡ Some t → IsIn left id t.current
  tracked_left id now Same at was t is =
      let one : record { first = Same; current = now } ≡ t = cc in
      let same : rewound_object classes now now ≡ now = object_unchanged classes id now (settled id (object_as id now) was.object).rising in
      subst (λ (u : Tracked). IsIn left id u.current) one (subst (IsIn left id) same (left_in id now now was at))
  tracked_left id now (Other o) at was t is =
      let one : record { first = Other o; current = rewound_object classes o now } ≡ t = cc in
      subst (λ (u : Tracked). IsIn left id u.current) one (left_in id o now was.is at)
  tracked_left id now Absent at was t is = absurd (cc)

  -- one that isn't
  outside_left : (id : ℕ) → IsOutside y.first id → IsAsAtFirst left y.first id
  outside_left id outside = record {
    object = objects_left id ∙ ap (option_map (with_last y.now.bones)) outside.object ∙ sym outside.object;
    kept = pasts_left id ∙ ap (option_map (left_of id)) outside.kept ∙ sym outside.kept;
  }

  same_last : (id : ℕ) (o : worlds.Object) → object_numbered id y.now.bones.objects ≡ Some o → o.id ≡ id → with_last y.now.bones o ≡ o
  same_last id o now is =
      ap (λ (f : Option worlds.Object). record o { last = option_map_or (λ (p : worlds.Object). p.last) f o.last }) (ap (λ (n : ℕ). object_numbered n y.now.bones.objects) is ∙ now)

  object_same : (id : ℕ) (f : Option worlds.Object) → object_numbered id y.first.bones.objects ≡ f → object_numbered id y.now.bones.objects ≡ f → option_map (with_last y.now.bones) f ≡ f
  object_same id None first now = refl
  object_same id (Some o) first now = ap (λ (p : worlds.Object). Some p) (same_last id o now (numbered_id id y.first.bones.objects o first))

  past_same : (id : ℕ) (f : Option (Kept (Unit {0}) ℕ)) → kept_at id y.first.pasts ≡ f → kept_at id y.now.pasts ≡ f → option_map (left_of id) f ≡ f
  past_same id None first now = refl
  past_same id (Some k) first now =
      ap (λ (m : Option (Kept (Unit {0}) ℕ)). Some (rewound_by (numbers tables) y.first id k (unwrap_or m k))) now
      ∙ ap (λ (m : Kept (Unit {0}) ℕ). Some m) (past_unchanged tables y.first.bones.classes k (object_at y.first.bones id) rises)
    where
      rises : (o : worlds.Object) → object_at y.first.bones id ≡ Some o → RiseFrom 0 (map (λ (row : ℕ × ℕ). row.0) k.activations)
      rises o is =
          let known = settled id o (at_numbered y.first.bones id o is) in
          let there : kept_at id y.first.pasts ≡ Some known.past = known.kept in
          let same : known.past ≡ k = cc (there, first) in
          subst (λ (m : Kept (Unit {0}) ℕ). RiseFrom 0 (map (λ (row : ℕ × ℕ). row.0) m.activations)) same (rows_rise 0 o.activations known.past.activations known.numbers known.rising)

  same_left : (id : ℕ) → IsAsAtFirst y.now y.first id → IsAsAtFirst left y.first id
  same_left id same = record {
    object = objects_left id ∙ object_same id (object_numbered id y.first.bones.objects) refl same.object;
    kept = pasts_left id ∙ past_same id (kept_at id y.first.pasts) refl same.kept;
  }

  others_left : (id : ℕ) (now : Object) (f : First) → WasFirst y.first id now f → rewound classes (record { first = f; current = now }) ≡ None → IsAsAtFirst left y.first id
  others_left id now Same was is = absurd (cc)
  others_left id now (Other o) was is = absurd (cc)
  others_left id now Absent was is = outside_left id was

  -- by what is tracked before
  tracked_then : (id : ℕ) (f : Option Tracked) → tracked_at id x ≡ f → (t : Tracked) → option_and_then (rewound classes) f ≡ Some t → IsIn left id t.current
  tracked_then id None was t is = absurd (cc)
  tracked_then id (Some u) was t is = tracked_left id u.current u.first (stands.tracked id u was) (remembers.first id u was) t is

  others_then : (id : ℕ) (f : Option Tracked) → tracked_at id x ≡ f → option_and_then (rewound classes) f ≡ None → IsAsAtFirst left y.first id
  others_then id None was is = same_left id (stands.others id was)
  others_then id (Some u) was is = others_left id u.current u.first (remembers.first id u was) is

  pub rewinds_law : Stands (rewind classes x) (aborted (numbers tables) y)
  unfolding rewind
  rewinds_law = record {
    origin = stands.origin;
    counters = stands.counters;
    queued = stands.queued;
    next = stands.next;
    added = refl;
    tracked = λ id t is. tracked_then id (tracked_at id x) refl t (sym (rewound_at classes id x.objects remembers.rising) ∙ is);
    others = λ id is. others_then id (tracked_at id x) refl (sym (rewound_at classes id x.objects remembers.rising) ∙ is);
    touched = stands.touched;
    collected = ap (filter is_independent) stands.collected ∙ independent_same x.collected;
    gathered = stands.gathered;
    keys = stands.keys;
    footprint = stands.footprint;
  }

-- ---- what was remembered

module _ (classes : List Class) (w : NumberWorld) where
  was_left : (id : ℕ) (t : Tracked) → WasFirst w id t.current t.first → (f : Option Tracked) → rewound classes t ≡ f → (done : List (ℕ × Tracked)) → Remembers done w → Remembers (put_rewound id f done) w
  was_left id t was None is done remembers = remembers
  was_left id t was (Some u) is done remembers = remembers_put w done id remembers u (by_first t.current t.first was is) where
    by_first : (now : Object) (f : First) → WasFirst w id now f → rewound classes (record { first = f; current = now }) ≡ Some u → WasFirst w id u.current u.first
    by_first now Same was is = let one : record { first = Same; current = now } ≡ u = cc in subst (λ (v : Tracked). WasFirst w id v.current v.first) one was
    by_first now (Other o) was is =
        let one : record { first = Other o; current = rewound_object classes o now } ≡ u = cc in subst (λ (v : Tracked). WasFirst w id v.current v.first) one (record { is = was.is; last = was.last })
    by_first now Absent was is = absurd (cc)

  -- each of these was in the first world
  abbrev AllWere : List (ℕ × Tracked) → Type 0
  AllWere es = AllByRecursion (λ (e : ℕ × Tracked). WasFirst w e.0 e.1.current e.1.first) es

  all_left : (es done : List (ℕ × Tracked)) → AllWere es → Remembers done w → Remembers (rewound_from classes done es) w
  all_left [] done all remembers = remembers
  all_left (e ∷ es) done all remembers = all_left es (put_rewound e.0 (rewound classes e.1) done) all.1 (was_left e.0 e.1 all.0 (rewound classes e.1) refl done remembers)

  pub rewound_remembers : (es : List (ℕ × Tracked)) → Remembers es w → Remembers (rewound_from classes [] es) w
  rewound_remembers es remembers =
      all_left es [] (all-then (λ (e : ℕ × Tracked). lookup (is_at (nat_cmp e.0)) es ≡ Some e.1) (λ (e : ℕ × Tracked). WasFirst w e.0 e.1.current e.1.first)
      (λ e is. remembers.first e.0 e.1 is) es (all_found es remembers.rising)) (remembers_none w)

pub remembers_law : (tables : ℕ → ℕ → Table) (x : Layer) (y : NumberTx) → Remembers x.objects y.first
    → Remembers (rewind (map class_of y.first.bones.classes) x).objects (aborted (numbers tables) y).first
unfolding rewind
remembers_law tables x y remembers = rewound_remembers (map class_of y.first.bones.classes) y.first x.objects remembers
