-- A transaction's work over numbers and over lists.
use Rattle.std.proofs.Common.{◌≡◌, ℕ, ◌+◌, ◌≤◌, Bool, true, false, cond, List, [], ◌∷◌, ◌++◌, map, ◌==◌, Option, Some, None, refl, sym, ap, ◌∙◌, subst, arith}
use Rattle.std.specs.List.{AllByRecursion, AllZip, fold}
use Rattle.std.specs.Option.{option_map_or}
use Rattle.ode_value.specs.declared.event.Kind.{Kind}
use Rattle.ode_value.specs.declared.event.Point.{Point}
use Rattle.ode_value.specs.declared.value.Value.{Value}
use Rattle.ode_value.specs.Acts.{Act, go_on, ◌>>=◌, ◌>>◌, gives, reads, turns, found, with_line, with_statement}
use Rattle.ode_value.specs.Changes.{with_key, alters_object, holding}
use Rattle.ode_value.specs.Classes.{Trigger}
use Rattle.ode_value.specs.Denoting.{object_at, object_numbered}
use Rattle.ode_value.specs.Firings.{new_point, after_firings, object_after, Place, both_lists, grown_past, with_point, fired_in, fired, arises}
use Rattle.ode_value.specs.GoodWorlds.{RiseFrom}
use Rattle.ode_value.specs.Language.{ListWorld, ListTx}
use Rattle.ode_value.specs.Making.{drawn, stamp_now, derived_from, switched_off, object_with, with_activation, with_past, with_new, with_active}
use Rattle.ode_value.specs.Objects.{Activation, Histories, Starts, new_starts}
use Rattle.ode_value.specs.Pasts.{Past, Kept, lists, numbers}
use Rattle.ode_value.specs.Posting.{with_deferred, with_entry, entry_of}
use Rattle.ode_value.specs.Tables.{Table}
use Rattle.ode_value.specs.Transactions.{Firing, generation_of, touching, footed}
use Rattle.ode_value.specs.Versions.{Version}
use Rattle.ode_value.specs.Worlds.{Declared, Object, Bones, with_object, kept_at, with_kept}
use Rattle.ode_codec.specs.Standing.{HasTables}
use Rattle.ode_laws.specs.Alike.{NumberWorld, NumberTx, StaysIn}
use Rattle.ode_laws.proofs.Sides.{EndsBy, Same, told, Sides, altered, turned, stamp_in, set_in, dropped_from, removed, off_in}
use Rattle.ode_laws.proofs.AlikeRows.{Places, both_places}
use Rattle.ode_laws.proofs.AlikePairs.{IsGentle, altered_bones, zip_then, gentle_stays, new_stays, with_active_stays, point_stays, Pair, gentle_pair, new_pair, active_pair, point_pair, fired_pair}
use Rattle.ode_laws.proofs.Numbers.{IsPlaced, triggers_placed}
use Rattle.ode_laws.proofs.Rows.{map_itself, at_numbered, numbered_id}

-- ---- changes that keep what stands

leaves_all : (f : Object → Object) → ((o : Object) → (f o).id ≡ o.id) → ((o : Object) → (f o).activations ≡ o.activations) → IsGentle f
leaves_all f ids acts = record {
  id = ids;
  each = λ o a. a;
  activations = λ o. acts o ∙ sym (map_itself o.activations);
  same = λ o a. refl;
}

pub set_gentle : (stamp : ℕ) (v : Version) (place : ℕ) (value : Value) → IsGentle (set_in stamp v place value)
set_gentle stamp v place value = leaves_all (set_in stamp v place value) (λ o. refl) (λ o. refl)

pub derived_gentle : (stamp : ℕ) (v : Version) → IsGentle (derived_from stamp v)
derived_gentle stamp v = leaves_all (derived_from stamp v) (λ o. refl) (λ o. refl)

pub dropped_gentle : (v : Version) → IsGentle (dropped_from v)
dropped_gentle v = leaves_all (dropped_from v) (λ o. refl) (λ o. refl)

pub removed_gentle : IsGentle removed
removed_gentle = leaves_all removed (λ o. refl) (λ o. refl)

switched_same : (number : ℕ) (a : Activation) → record (switched_off number a) { on = a.on } ≡ a
switched_same number a = by_test (a.number == number) where
  by_test : (b : Bool) → record (cond b (record a { on = false }) a) { on = a.on } ≡ a
  by_test true = refl
  by_test false = refl

pub off_gentle : (number : ℕ) → IsGentle (off_in number)
off_gentle number = record { id = λ o. refl; each = λ o. switched_off number; activations = λ o. refl; same = λ o. switched_same number }

pub after_gentle : (firings : List Firing) → IsGentle (object_after firings)
after_gentle firings = record { id = λ o. refl; each = λ o. after_firings firings; activations = λ o. refl; same = λ o a. refl }

module _ (tables : ℕ → ℕ → Table) (classes : List Declared) (mean : AllByRecursion (HasTables tables) classes) (rising : RiseFrom 0 (map (λ (d : Declared). d.class.number) classes)) (v0 : NumberWorld) (w0 : ListWorld) where
  -- worlds alike, and what holds of the lists' world now
  pub record Held (Hold : ListWorld → Type 0) (y : NumberTx) (x : ListTx) : Type 0 where
    pub same : Same classes y x
    pub pair : Pair tables classes x.now.bones y.now.pasts x.now.pasts
    pub first_y : y.first ≡ v0
    pub first_x : x.first ≡ w0
    pub hold : Hold x.now

  -- ---- a point

  module _ (Hold : ListWorld → Type 0) (gentle : (w : ListWorld) (id : ℕ) (f : Object → Object) → IsGentle f → Hold w → Hold (record w { bones = altered_bones id f w.bones }))
      (k : Place (Unit {0}) ℕ) (l : Place Histories Starts) (places : Places tables classes mean k l)
      (pointed : (w : ListWorld) (p : Point) (cs : List Declared) (o : Object) → Hold w → Hold (record w { pasts = with_kept o.id (grown_past lists l p cs o) w.pasts })) where
    abbrev pointing : {O A : Type 0} → Past O A → Place O A → ℕ → Kind → List Value → Object → Act O A (List Firing)
    pointing past place id kind args o =
        turns (with_point past place (new_point kind args o) o) >> (reads (λ z. fired past place o z.now) >>= λ firings. alters_object id (object_after firings) >> gives firings)

    module _ (y : NumberTx) (x : ListTx) (id : ℕ) (kind : Kind) (args : List Value) (h : Held Hold y x) where
      classes_y : y.now.bones.classes ≡ classes
      classes_y = ap (λ (b : Bones). b.classes) h.same.bones ∙ h.same.classes

      module _ (o : Object) (there : object_at x.now.bones id ≡ Some o) where
        abbrev p : Point
        p = new_point kind args o

        at_id : object_numbered id x.now.bones.objects ≡ Some o
        at_id = at_numbered x.now.bones id o there

        at : object_numbered o.id x.now.bones.objects ≡ Some o
        at = ap (λ n. object_numbered n x.now.bones.objects) (numbered_id id x.now.bones.objects o at_id) ∙ at_id

        abbrev numbers_now : List Declared → List (ℕ × Kept (Unit {0}) ℕ)
        numbers_now cs = with_kept o.id (grown_past (numbers tables) k p cs o) y.now.pasts

        abbrev lists_now : List Declared → List (ℕ × Kept Histories Starts)
        lists_now cs = with_kept o.id (grown_past lists l p cs o) x.now.pasts

        abbrev fired_y : List Firing
        fired_y = fired (numbers tables) k o (with_point (numbers tables) k p o y.now)

        abbrev fired_x : List Firing
        fired_x = fired lists l o (with_point lists l p o x.now)

        fired_same : fired_y ≡ fired_x
        fired_same =
            ap (λ cs. option_map_or (fired_in (numbers tables) k o cs) (kept_at o.id (numbers_now cs)) []) classes_y
            ∙ fired_pair tables classes mean k l places p rising x.now.bones o at y.now.pasts x.now.pasts h.pair
            ∙ sym (ap (λ cs. option_map_or (fired_in lists l o cs) (kept_at o.id (lists_now cs)) []) h.same.classes)

        pair_now : Pair tables classes x.now.bones (numbers_now y.now.bones.classes) (lists_now x.now.bones.classes)
        pair_now =
            subst (λ cs. Pair tables classes x.now.bones (numbers_now cs) (lists_now x.now.bones.classes)) (sym classes_y)
            (subst (λ cs. Pair tables classes x.now.bones (numbers_now classes) (lists_now cs)) (sym h.same.classes)
            (point_pair tables classes mean k l places p x.now.bones o at y.now.pasts x.now.pasts h.pair))

        held_now : Held Hold (altered id (object_after fired_y) (turned (with_point (numbers tables) k p o) y)) (altered id (object_after fired_x) (turned (with_point lists l p o) x))
        held_now = record {
          same = record {
            bones = ap (λ fs. altered_bones id (object_after fs) y.now.bones) fired_same ∙ ap (altered_bones id (object_after fired_x)) h.same.bones;
            classes = h.same.classes;
            first = h.same.first;
            origin = h.same.origin;
            touched = h.same.touched;
            deferred = h.same.deferred;
            collected = h.same.collected;
            gathered = h.same.gathered;
            text = h.same.text;
            run = h.same.run;
            keys = h.same.keys;
            footprint = h.same.footprint;
          };
          pair = gentle_pair tables classes id (object_after fired_x) (after_gentle fired_x) x.now.bones (numbers_now y.now.bones.classes) (lists_now x.now.bones.classes) pair_now;
          first_y = h.first_y;
          first_x = h.first_x;
          hold = gentle (with_point lists l p o x.now) id (object_after fired_x) (after_gentle fired_x) (pointed x.now p x.now.bones.classes o h.hold);
        }

        done : EndsBy (Held Hold) (Held Hold) (pointing (numbers tables) k id kind args o y) (pointing lists l id kind args o x)
        done = (fired_same, held_now)

      pub point_held : EndsBy (Held Hold) (Held Hold) (arises (numbers tables) k id kind args y) (arises lists l id kind args x)
      point_held = by_found (object_at y.now.bones id) (object_at x.now.bones id) (ap (λ b. object_at b id) h.same.bones) refl where
        by_found : (a b : Option Object) → a ≡ b → object_at x.now.bones id ≡ b
            → EndsBy (Held Hold) (Held Hold) (go_on (found a y) (pointing (numbers tables) k id kind args)) (go_on (found b x) (pointing lists l id kind args))
        by_found (Some a) (Some b) e is =
            let it : b ≡ a = cc in
            subst (λ c. EndsBy (Held Hold) (Held Hold) (pointing (numbers tables) k id kind args c y) (pointing lists l id kind args b x)) it (done b is)
        by_found None None e is = (refl, h)
        by_found (Some a) None e is = absurd (cc)
        by_found None (Some b) e is = absurd (cc)

  -- ---- the work

  -- what an abort needs of the first world is still there
  pub record StaysAll (w : ListWorld) : Type 0 where
    pub all : AllZip (StaysIn w) w0.bones.objects w0.pasts
    pub next : w0.bones.next ≤ w.bones.next

  abbrev pub Work : NumberTx → ListTx → Type 0
  Work = Held StaysAll

  pub gentle_all : (w : ListWorld) (id : ℕ) (f : Object → Object) → IsGentle f → StaysAll w → StaysAll (record w { bones = altered_bones id f w.bones })
  gentle_all w id f g s = record {
    all = zip_then (StaysIn w) (StaysIn (record w { bones = altered_bones id f w.bones })) (gentle_stays id f g w) w0.bones.objects w0.pasts s.all;
    next = s.next;
  }

  pub point_all : (w : ListWorld) (p : Point) (cs : List Declared) (o : Object) → StaysAll w → StaysAll (record w { pasts = with_kept o.id (grown_past lists (both_lists lists) p cs o) w.pasts })
  point_all w p cs o s = record {
    all =
        zip_then (StaysIn w) (StaysIn (record w { pasts = with_kept o.id (grown_past lists (both_lists lists) p cs o) w.pasts }))
        (point_stays (both_lists lists) (λ v start q. refl) p cs o w o.id) w0.bones.objects w0.pasts s.all;
    next = s.next;
  }

  -- with what is the same told anew
  abbrev pub again : (y : NumberTx) (x : ListTx) → Work y x → (v : NumberTx) (w : ListTx) → v.first ≡ y.first → w.first ≡ x.first → v.now ≡ y.now → w.now ≡ x.now → Same classes v w → Work v w
  again y x h v w fy fx ny nx same = record {
    same = same;
    pair = subst (λ n. Pair tables classes n.bones v.now.pasts n.pasts) (sym nx) (subst (λ n. Pair tables classes x.now.bones n.pasts x.now.pasts) (sym ny) h.pair);
    first_y = fy ∙ h.first_y;
    first_x = fx ∙ h.first_x;
    hold = subst StaysAll (sym nx) h.hold;
  }

  pub altered_work : (id : ℕ) (f : Object → Object) → IsGentle f → (y : NumberTx) (x : ListTx) → Work y x → Work (altered id f y) (altered id f x)
  altered_work id f g y x h = record {
    same = record {
      bones = ap (altered_bones id f) h.same.bones;
      classes = h.same.classes;
      first = h.same.first;
      origin = h.same.origin;
      touched = h.same.touched;
      deferred = h.same.deferred;
      collected = h.same.collected;
      gathered = h.same.gathered;
      text = h.same.text;
      run = h.same.run;
      keys = h.same.keys;
      footprint = h.same.footprint;
    };
    pair = gentle_pair tables classes id f g x.now.bones y.now.pasts x.now.pasts h.pair;
    first_y = h.first_y;
    first_x = h.first_x;
    hold = gentle_all x.now id f g h.hold;
  }

  abbrev new_bones : ℕ → List Value → Bones → Bones
  new_bones class fields b = drawn (record b { objects = b.objects ++ object_with (stamp_now b) b.next class fields ∷ [] })

  pub new_work : (class : ℕ) (fields : List Value) (y : NumberTx) (x : ListTx) → Work y x → Work (turned (with_new (numbers tables) class fields) y) (turned (with_new lists class fields) x)
  new_work class fields y x h = record {
    same = record {
      bones = ap (new_bones class fields) h.same.bones;
      classes = h.same.classes;
      first = h.same.first;
      origin = h.same.origin;
      touched = h.same.touched;
      deferred = h.same.deferred;
      collected = h.same.collected;
      gathered = h.same.gathered;
      text = h.same.text;
      run = h.same.run;
      keys = h.same.keys;
      footprint = h.same.footprint;
    };
    pair =
        subst (λ n. Pair tables classes (new_bones class fields x.now.bones) (y.now.pasts ++ (n, record { own = tt; activations = [] }) ∷ []) (x.now.pasts ++ (x.now.bones.next, record { own = lists.empty; activations = [] }) ∷ []))
        (sym (ap (λ (b : Bones). b.next) h.same.bones)) (new_pair tables classes x.now.bones class fields y.now.pasts x.now.pasts h.pair);
    first_y = h.first_y;
    first_x = h.first_x;
    hold = record {
      all =
          zip_then (StaysIn x.now) (StaysIn (with_new lists class fields x.now))
          (new_stays x.now (new_bones class fields x.now.bones) (object_with (stamp_in x) x.now.bones.next class fields) (x.now.bones.next, record { own = lists.empty; activations = [] }) refl)
          w0.bones.objects w0.pasts h.hold.all;
      next = let here : w0.bones.next ≤ x.now.bones.next = h.hold.next in omega arith;
    };
  }

  abbrev active_bones : ℕ → Trigger → List Value → Bones → Bones
  active_bones id t args b = drawn (record b { objects = with_object id (with_activation t args b.next) b.objects })

  pub active_work : (id : ℕ) (t : Trigger) (args : List Value) → IsPlaced classes t → (y : NumberTx) (x : ListTx) → Work y x → Work (turned (with_active (numbers tables) id t args) y) (turned (with_active lists id t args) x)
  active_work id t args placed y x h = record {
    same = record {
      bones = ap (active_bones id t args) h.same.bones;
      classes = h.same.classes;
      first = h.same.first;
      origin = h.same.origin;
      touched = h.same.touched;
      deferred = h.same.deferred;
      collected = h.same.collected;
      gathered = h.same.gathered;
      text = h.same.text;
      run = h.same.run;
      keys = h.same.keys;
      footprint = h.same.footprint;
    };
    pair =
        subst (λ n. Pair tables classes (active_bones id t args x.now.bones) (with_kept id (with_past (numbers tables) n) y.now.pasts) (with_kept id (with_past lists x.now.bones.next) x.now.pasts))
        (sym (ap (λ (b : Bones). b.next) h.same.bones)) (active_pair tables classes mean x.now.bones id t placed args y.now.pasts x.now.pasts h.pair);
    first_y = h.first_y;
    first_x = h.first_x;
    hold = record {
      all =
          zip_then (StaysIn x.now) (StaysIn (with_active lists id t args x.now))
          (with_active_stays x.now (active_bones id t args x.now.bones) id x.now.bones.next t args new_starts refl) w0.bones.objects w0.pasts h.hold.all;
      next = let here : w0.bones.next ≤ x.now.bones.next = h.hold.next in omega arith;
    };
  }

  pub collect_same : (y : NumberTx) (x : ListTx) (independent : Bool) (f : Firing) → Same classes y x → Same classes (with_entry independent f y) (with_entry independent f x)
  collect_same y x independent f s =
      told classes y x s (with_entry independent f y) (with_entry independent f x) refl refl refl refl s.origin s.touched s.deferred
      (ap (λ cs. cs ++ record { entry = entry_of (generation_of y.origin + 1) f; independent = independent } ∷ []) s.collected
      ∙ ap (λ g. x.collected ++ record { entry = entry_of (generation_of g + 1) f; independent = independent } ∷ []) s.origin)
      (ap (λ g. g + 1) s.gathered) s.text s.run s.keys s.footprint

  abbrev pub work : Sides (Unit {0}) ℕ Histories Starts
  work = record {
    past = numbers tables;
    other = lists;
    classes = classes;
    Known = IsPlaced classes;
    knows = triggers_placed classes rising;
    Related = λ n. Work;
    same = λ n y x h. h.same;
    less = λ n y x h. h;
    statement = λ n y x h more. again y x h (with_statement y) (with_statement x) refl refl refl refl (told classes y x h.same (with_statement y) (with_statement x) refl refl refl refl h.same.origin h.same.touched h.same.deferred h.same.collected h.same.gathered h.same.text (ap (λ r. r + 1) h.same.run) h.same.keys h.same.footprint);
    foot = λ n y x change h. again y x h (footed change y) (footed change x) refl refl refl refl (told classes y x h.same (footed change y) (footed change x) refl refl refl refl h.same.origin h.same.touched h.same.deferred h.same.collected h.same.gathered h.same.text h.same.run h.same.keys (ap change h.same.footprint));
    line = λ n y x line h fits. again y x h (with_line line y) (with_line line x) refl refl refl refl (told classes y x h.same (with_line line y) (with_line line x) refl refl refl refl h.same.origin h.same.touched h.same.deferred h.same.collected h.same.gathered (ap (λ t. t ++ line) h.same.text) h.same.run h.same.keys h.same.footprint);
    keys = λ n y x keys h fits. again y x h (holding keys y) (holding keys x) refl refl refl refl (told classes y x h.same (holding keys y) (holding keys x) refl refl refl refl h.same.origin h.same.touched h.same.deferred h.same.collected h.same.gathered h.same.text h.same.run (ap (λ ks. fold with_key ks keys) h.same.keys) h.same.footprint);
    touch = λ n y x id h. again y x h (touching id y) (touching id x) refl refl refl refl (told classes y x h.same (touching id y) (touching id x) refl refl refl refl h.same.origin (ap (λ ids. ids ++ id ∷ []) h.same.touched) h.same.deferred h.same.collected h.same.gathered h.same.text h.same.run h.same.keys h.same.footprint);
    defer = λ n y x f h more. again y x h (with_deferred f y) (with_deferred f x) refl refl refl refl (told classes y x h.same (with_deferred f y) (with_deferred f x) refl refl refl refl h.same.origin h.same.touched (ap (λ fs. fs ++ f ∷ []) h.same.deferred) h.same.collected h.same.gathered h.same.text h.same.run h.same.keys h.same.footprint);
    collect = λ n y x independent f h room. again y x h (with_entry independent f y) (with_entry independent f x) refl refl refl refl (collect_same y x independent f h.same);
    set = λ n y x r v place value h is small. altered_work r.object (set_in (stamp_in x) v place value) (set_gentle (stamp_in x) v place value) y x h;
    derive = λ n y x r v o h is there more small. altered_work o.id (derived_from (stamp_in x) v) (derived_gentle (stamp_in x) v) y x h;
    drop = λ n y x r v o h is there more. altered_work o.id (dropped_from v) (dropped_gentle v) y x h;
    remove = λ n y x id h. altered_work id removed removed_gentle y x h;
    off = λ n y x id number h. altered_work id (off_in number) (off_gentle number) y x h;
    new = λ n y x class fields h left small. new_work class fields y x h;
    active = λ n y x id t args h left short known. active_work id t args known y x h;
    point = λ n y x id kind args h. point_held StaysAll gentle_all (both_lists (numbers tables)) (both_lists lists) (both_places tables classes mean) point_all y x id kind args h;
  }
