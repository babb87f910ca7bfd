-- The transaction that an overlay stands for, as a function.
use Rattle.std.proofs.Common.{◌≡◌, ℕ, Bool, true, false, cond, List, [], ◌∷◌, map, ◌==◌, Option, Some, None, refl, sym, ap, ◌∙◌, subst, arith}
use Rattle.std.proofs.lemmas.Bool.Decides.{nat_tests}
use Rattle.std.specs.BTreeMap.{is_at}
use Rattle.std.specs.List.{find}
use Rattle.std.specs.Map.{lookup}
use Rattle.std.specs.Option.{option_map, option_map_or}
use Rattle.std.specs.Ordering.{nat_cmp}
use Rattle.ode_laws.proofs.Rows.{numbered_find}
use Rattle.ode_laws.specs.Alike.{NumberTx, NumberWorld}
use Rattle.ode_objects.specs.declared.tracked.Tracked.{Tracked}
use Rattle.ode_overlay.specs.Layers.{Layer, tracked_at}
use Rattle.ode_overlay_laws.specs.Following.{Continues}
use Rattle.ode_overlay_laws.specs.Standing.{Stands, kept_as, object_as}
use Rattle.ode_value.specs.Denoting.{object_numbered}
use Rattle.ode_value.specs.GoodWorlds.{RiseFrom}
use Rattle.ode_value.specs.Pasts.{Kept}
use Rattle.ode_value.specs.Worlds.{Bones, Declared, Object, kept_at}
use Rattle.ode_view_laws.proofs.PutLaws.{find_put, one_rising, rise_put}
use Rattle.ode_view_laws.specs.Ordering.{IsOrdered, number_of, row_number}
use Rattle.ode_view_laws.specs.Viewing.{Beside, IsOver, objects_now, pasts_now, running, world_now}

abbrev Row : Type 0
Row = ℕ × Kept (Unit {0}) ℕ

same_at : (n m : ℕ) → is_at (nat_cmp n) m ≡ (m == n)
same_at n m = grind (arith, nat_tests)

-- ---- what is found in the world now

abbrev found_object : ℕ → Option Object → Option Tracked → Option Object
found_object n first tracked = option_map_or (λ (t : Tracked). Some (object_as n t.current)) tracked first

abbrev found_row : ℕ → Option Row → Option Tracked → Option Row
found_row n first tracked = option_map_or (λ (t : Tracked). Some (n, kept_as t.current)) tracked first

objects_found : (es : List (ℕ × Tracked)) (first : List Object) (n : ℕ)
    → find (λ o. number_of o == n) (objects_now es first) ≡ found_object n (find (λ o. number_of o == n) first) (lookup (is_at (nat_cmp n)) es)
objects_found [] first n = refl
objects_found (e ∷ es) first n =
    find_put number_of (object_as e.0 e.1.current) n (objects_now es first)
    ∙ by_test (e.0 == n) (is_at (nat_cmp n) e.0) refl (sym (same_at n e.0)) (objects_found es first n)
  where
    by_test : (a b : Bool) → (e.0 == n) ≡ a → a ≡ b → find (λ o. number_of o == n) (objects_now es first) ≡ found_object n (find (λ o. number_of o == n) first) (lookup (is_at (nat_cmp n)) es)
        → cond a (Some (object_as e.0 e.1.current)) (find (λ o. number_of o == n) (objects_now es first))
        ≡ found_object n (find (λ o. number_of o == n) first) (cond b (Some e.1) (lookup (is_at (nat_cmp n)) es))
    by_test true true is same rest = let number : e.0 ≡ n = grind (arith, nat_tests) in ap (λ m. Some (object_as m e.1.current)) number
    by_test false false is same rest = rest
    by_test true false is same rest = absurd (cc)
    by_test false true is same rest = absurd (cc)

rows_found : (es : List (ℕ × Tracked)) (first : List Row) (n : ℕ)
    → find (λ row. row_number row == n) (pasts_now es first) ≡ found_row n (find (λ row. row_number row == n) first) (lookup (is_at (nat_cmp n)) es)
rows_found [] first n = refl
rows_found (e ∷ es) first n =
    find_put row_number (e.0, kept_as e.1.current) n (pasts_now es first)
    ∙ by_test (e.0 == n) (is_at (nat_cmp n) e.0) refl (sym (same_at n e.0)) (rows_found es first n)
  where
    by_test : (a b : Bool) → (e.0 == n) ≡ a → a ≡ b → find (λ row. row_number row == n) (pasts_now es first) ≡ found_row n (find (λ row. row_number row == n) first) (lookup (is_at (nat_cmp n)) es)
        → cond a (Some (e.0, kept_as e.1.current)) (find (λ row. row_number row == n) (pasts_now es first))
        ≡ found_row n (find (λ row. row_number row == n) first) (cond b (Some e.1) (lookup (is_at (nat_cmp n)) es))
    by_test true true is same rest = let number : e.0 ≡ n = grind (arith, nat_tests) in ap (λ (m : ℕ). Some (m, kept_as e.1.current)) number
    by_test false false is same rest = rest
    by_test true false is same rest = absurd (cc)
    by_test false true is same rest = absurd (cc)

kept_find : (n : ℕ) (rows : List Row) → kept_at n rows ≡ option_map (λ (row : Row). row.1) (find (λ row. row_number row == n) rows)
kept_find n [] = refl
kept_find n (row ∷ rows) = by_test (row.0 == n) (kept_find n rows) where
  by_test : (b : Bool) → kept_at n rows ≡ option_map (λ (r : Row). r.1) (find (λ r. row_number r == n) rows)
      → cond b (Some row.1) (kept_at n rows) ≡ option_map (λ (r : Row). r.1) (cond b (Some row) (find (λ r. row_number r == n) rows))
  by_test true rest = refl
  by_test false rest = rest

-- a row is found with its number
find_kept : (n : ℕ) (rows : List Row) → find (λ row. row_number row == n) rows ≡ option_map (λ (k : Kept (Unit {0}) ℕ). (n, k)) (kept_at n rows)
find_kept n [] = refl
find_kept n (row ∷ rows) = by_test (row.0 == n) refl (find_kept n rows) where
  by_test : (b : Bool) → (row.0 == n) ≡ b → find (λ r. row_number r == n) rows ≡ option_map (λ (k : Kept (Unit {0}) ℕ). (n, k)) (kept_at n rows)
      → cond b (Some row) (find (λ r. row_number r == n) rows) ≡ option_map (λ (k : Kept (Unit {0}) ℕ). (n, k)) (cond b (Some row.1) (kept_at n rows))
  by_test true is rest = let number : row.0 ≡ n = grind (arith, nat_tests) in ap (λ (m : ℕ). Some (m, row.1)) number
  by_test false is rest = rest

pub object_now : (es : List (ℕ × Tracked)) (first : List Object) (n : ℕ) → object_numbered n (objects_now es first) ≡ found_object n (object_numbered n first) (lookup (is_at (nat_cmp n)) es)
object_now es first n =
    numbered_find n (objects_now es first) ∙ objects_found es first n
    ∙ ap (λ (o : Option Object). found_object n o (lookup (is_at (nat_cmp n)) es)) (sym (numbered_find n first))

pub kept_now : (es : List (ℕ × Tracked)) (first : List Row) (n : ℕ)
    → kept_at n (pasts_now es first) ≡ option_map_or (λ (t : Tracked). Some (kept_as t.current)) (lookup (is_at (nat_cmp n)) es) (kept_at n first)
kept_now es first n =
    kept_find n (pasts_now es first) ∙ ap (λ (o : Option Row). option_map (λ (row : Row). row.1) o) (rows_found es first n)
    ∙ by_tracked (lookup (is_at (nat_cmp n)) es)
  where
    by_tracked : (o : Option Tracked) → option_map (λ (row : Row). row.1) (found_row n (find (λ row. row_number row == n) first) o)
        ≡ option_map_or (λ (t : Tracked). Some (kept_as t.current)) o (kept_at n first)
    by_tracked (Some t) = refl
    by_tracked None = sym (kept_find n first)

-- ---- the view

module _ (classes : List Declared) (first : NumberWorld) (x : Layer) (beside : Beside) where
  -- the overlay stands for it
  pub view_stands : IsOver first x → Stands x (running classes first x beside)
  unfolding world_now
  view_stands over = record {
    origin = refl;
    counters = over.counters;
    queued = over.queued;
    next = refl;
    added = refl;
    tracked = λ id t is. record {
      object = object_now x.objects first.bones.objects id ∙ ap (found_object id (object_numbered id first.bones.objects)) is;
      kept = kept_now x.objects first.pasts id ∙ ap (λ (o : Option Tracked). option_map_or (λ (u : Tracked). Some (kept_as u.current)) o (kept_at id first.pasts)) is;
    };
    others = λ id is. record {
      object = object_now x.objects first.bones.objects id ∙ ap (found_object id (object_numbered id first.bones.objects)) is;
      kept = kept_now x.objects first.pasts id ∙ ap (λ (o : Option Tracked). option_map_or (λ (u : Tracked). Some (kept_as u.current)) o (kept_at id first.pasts)) is;
    };
    touched = refl;
    collected = refl;
    gathered = refl;
    keys = refl;
    footprint = refl;
  }

-- the numbers of the world now rise
objects_rise : (es : List (ℕ × Tracked)) (first : List Object) → RiseFrom 0 (map number_of first) → RiseFrom 0 (map number_of (objects_now es first))
objects_rise [] first rise = rise
objects_rise (e ∷ es) first rise = rise_put number_of (object_as e.0 e.1.current) 0 (objects_now es first) (omega arith) (objects_rise es first rise)

rows_rise : (es : List (ℕ × Tracked)) (first : List Row) → RiseFrom 0 (map row_number first) → RiseFrom 0 (map row_number (pasts_now es first))
rows_rise [] first rise = rise
rows_rise (e ∷ es) first rise = rise_put row_number (e.0, kept_as e.1.current) 0 (pasts_now es first) (omega arith) (rows_rise es first rise)

-- ---- there is no other

module _ (first : NumberWorld) (ordered : IsOrdered first) (x : Layer) (z : NumberTx) (stands : Stands x z) (rises : IsOrdered z.now) (begins : z.first ≡ first) where
  same_object : (n : ℕ) → object_numbered n z.now.bones.objects ≡ found_object n (object_numbered n first.bones.objects) (tracked_at n x)
  same_object n = by_tracked (tracked_at n x) refl where
    by_tracked : (o : Option Tracked) → tracked_at n x ≡ o → object_numbered n z.now.bones.objects ≡ found_object n (object_numbered n first.bones.objects) o
    by_tracked (Some t) is = (stands.tracked n t is).object
    by_tracked None is = (stands.others n is).object ∙ ap (λ (w : NumberWorld). object_numbered n w.bones.objects) begins

  same_kept : (n : ℕ) → kept_at n z.now.pasts ≡ option_map_or (λ (t : Tracked). Some (kept_as t.current)) (tracked_at n x) (kept_at n first.pasts)
  same_kept n = by_tracked (tracked_at n x) refl where
    by_tracked : (o : Option Tracked) → tracked_at n x ≡ o → kept_at n z.now.pasts ≡ option_map_or (λ (t : Tracked). Some (kept_as t.current)) o (kept_at n first.pasts)
    by_tracked (Some t) is = (stands.tracked n t is).kept
    by_tracked None is = (stands.others n is).kept ∙ ap (λ (w : NumberWorld). kept_at n w.pasts) begins

  objects_same : z.now.bones.objects ≡ objects_now x.objects first.bones.objects
  objects_same =
      one_rising number_of 0 0 z.now.bones.objects (objects_now x.objects first.bones.objects) rises.rising (objects_rise x.objects first.bones.objects ordered.rising)
      (λ n. sym (numbered_find n z.now.bones.objects) ∙ same_object n ∙ sym (object_now x.objects first.bones.objects n) ∙ numbered_find n (objects_now x.objects first.bones.objects))

  pasts_same : z.now.pasts ≡ pasts_now x.objects first.pasts
  pasts_same =
      let now : RiseFrom 0 (map row_number z.now.pasts) = subst (RiseFrom 0) (sym rises.rows) rises.rising in
      let then : RiseFrom 0 (map row_number first.pasts) = subst (RiseFrom 0) (sym ordered.rows) ordered.rising in
      one_rising row_number 0 0 z.now.pasts (pasts_now x.objects first.pasts) now (rows_rise x.objects first.pasts then)
      (λ n. find_kept n z.now.pasts ∙ ap (option_map (λ (k : Kept (Unit {0}) ℕ). (n, k))) (same_kept n ∙ sym (kept_now x.objects first.pasts n)) ∙ sym (find_kept n (pasts_now x.objects first.pasts)))

  pub only_view : (classes : List Declared) (beside : Beside)
      → record z.now.bones { objects = first.bones.objects; next = first.bones.next } ≡ record first.bones { classes = classes }
      → z.deferred ≡ beside.deferred → z.text ≡ beside.text → z.run ≡ beside.run → z ≡ running classes first x beside
  unfolding world_now
  only_view classes beside bones deferred text run = λ i. record {
    origin = stands.origin i;
    first = begins i;
    now = record { bones = record (bones i) { objects = objects_same i; next = stands.next i }; pasts = pasts_same i };
    touched = stands.touched i;
    deferred = deferred i;
    collected = stands.collected i;
    gathered = stands.gathered i;
    text = text i;
    run = run i;
    keys = stands.keys i;
    footprint = stands.footprint i;
  }

-- what continues the view of an overlay is the view of the overlay for which it stands
pub continued_view : (classes : List Declared) (first : NumberWorld) (x : Layer) (beside : Beside) → IsOrdered first → (x' : Layer) (z : NumberTx) → Stands x' z → IsOrdered z.now
    → Continues (running classes first x beside) z → z ≡ running classes first x' beside
unfolding world_now
continued_view classes first x beside ordered x' z stands rises on =
    only_view first ordered x' z stands rises on.first classes beside
    (ap (λ (b : Bones). record b { objects = first.bones.objects; next = first.bones.next }) on.bones) on.deferred on.text on.run
