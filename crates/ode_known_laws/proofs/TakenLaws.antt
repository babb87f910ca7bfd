-- Activations take over states.
use Rattle.std.proofs.Common.{◌≡◌, ◌==◌, ◌<◌, ℕ, Bool, true, false, cond, List, [], ◌∷◌, map, Option, Ok, Err, refl, sym, ap, ◌∙◌, arith}
use Rattle.std.specs.Prelude.{nat_lt}
use Rattle.ode_keep.specs.Entries.{Entries}
use Rattle.ode_known_laws.proofs.KnownLaws.{Leaves, known_behind, numbered_by, views_go_on}
use Rattle.ode_known_laws.specs.Knowing.{IsKnown, StaysKnown}
use Rattle.ode_laws.proofs.Each.{all-then}
use Rattle.ode_laws.specs.Alike.{NumberWorld}
use Rattle.ode_laws.specs.Numbered.{HasNumbers}
use Rattle.ode_object_laws.proofs.NumberLaws.{each_numbered}
use Rattle.ode_object_laws.specs.Objects.{HaveNumbers}
use Rattle.ode_objects.specs.declared.tracked.Tracked.{Tracked}
use Rattle.ode_overlay.specs.Answers.{Answer}
use Rattle.ode_overlay.specs.Changing.{fresh, put_acts}
use Rattle.ode_overlay.specs.Layers.{Layer}
use Rattle.ode_overlay_laws.specs.Standing.{kept_as, object_as}
use Rattle.ode_types.specs.declared.running.Running.{Running}
use Rattle.ode_value.specs.GoodWorlds.{RiseFrom}
use Rattle.ode_value.specs.Pasts.{Kept}
use Rattle.ode_value.specs.Worlds.{Object}
use Rattle.ode_value.specs.declared.class.Class.{Class}
use Rattle.ode_version_laws.proofs.CallLaws.{put_leaves}
use Rattle.ode_version_laws.specs.Leaving.{IfDone}
use Rattle.ode_view_laws.proofs.DrawnLaws.{AreDrawn}
use Rattle.ode_view_laws.proofs.PutLaws.{rise_put}
use Rattle.ode_view_laws.proofs.ViewLaws.{view_stands}
use Rattle.ode_view_laws.specs.Ordering.{IsOrdered, number_of, row_number}
use Rattle.ode_view_laws.specs.Putting.{put}
use Rattle.ode_view_laws.specs.Viewing.{IsOver, nothing_beside, objects_now, pasts_now, running, world_now}

-- ---- the order of a layer's world

numbers_put : {X : Type 0} (number : X → ℕ) (x : X) (xs : List X) → map number (put number x xs) ≡ put (λ (n : ℕ). n) (number x) (map number xs)
numbers_put number x [] = refl
numbers_put {X} number x (y ∷ ys) = by_tests (nat_lt (number y) (number x)) (number y == number x) (numbers_put number x ys) where
  by_tests : (a b : Bool) → map number (put number x ys) ≡ put (λ (n : ℕ). n) (number x) (map number ys)
      → map number (cond a (y ∷ put number x ys) (cond b (x ∷ ys) (x ∷ y ∷ ys)))
      ≡ cond a (number y ∷ put (λ (n : ℕ). n) (number x) (map number ys)) (cond b (number x ∷ map number ys) (number x ∷ number y ∷ map number ys))
  by_tests true b rest = ap (λ (ns : List ℕ). number y ∷ ns) rest
  by_tests false true rest = refl
  by_tests false false rest = refl

rows_same : (es : List (ℕ × Tracked)) (os : List Object) (rows : List (ℕ × Kept (Unit {0}) ℕ)) → map row_number rows ≡ map number_of os → map row_number (pasts_now es rows) ≡ map number_of (objects_now es os)
rows_same [] os rows same = same
rows_same (e ∷ es) os rows same =
    numbers_put row_number (e.0, kept_as e.1.current) (pasts_now es rows) ∙ ap (put (λ (n : ℕ). n) e.0) (rows_same es os rows same)
    ∙ sym (numbers_put number_of (object_as e.0 e.1.current) (objects_now es os))

objects_rise : (es : List (ℕ × Tracked)) (os : List Object) → RiseFrom 0 (map number_of os) → RiseFrom 0 (map number_of (objects_now es os))
objects_rise [] os rise = rise
objects_rise (e ∷ es) os rise = rise_put number_of (object_as e.0 e.1.current) 0 (objects_now es os) (omega arith) (objects_rise es os rise)

layer_ordered : (first : NumberWorld) (x : Layer) → IsOrdered first → HaveNumbers (world_now first.bones.classes first x).bones → IsOrdered (world_now first.bones.classes first x)
unfolding world_now
layer_ordered first x began numbers =
    let rising = objects_rise x.objects first.bones.objects began.rising in
    record {
      rising = rising;
      drawn =
          all-then (HasNumbers x.next) (λ (o : Object). o.id < x.next) (λ o has. has.drawn) (objects_now x.objects first.bones.objects)
          (each_numbered (world_now first.bones.classes first x).bones rising numbers);
      rows = rows_same x.objects first.bones.objects first.pasts began.rows;
    }

-- ---- what is known then

module _ (base : Entries) (first : NumberWorld) (x : Layer) (known : IsKnown base first x) where
  abbrev IsAbove : Layer → Type 0
  IsAbove x' = IsOver first x' × AreDrawn x'

  pub put_above : (classes : List Class) (id : ℕ) (rs : List Running) (new : Option Tracked) → fresh classes base id x ≡ Ok new → IfDone IsAbove (put_acts classes base id rs x)
  put_above classes id rs new read =
      let over = known.viewed.over in
      put_leaves IsAbove classes base x id rs new read (over, known.viewed.touched) (λ t keys is. (record { counters = over.counters; queued = over.queued }, known.viewed.touched))

  pub put_known : (answer : Answer (Unit {0} × Layer)) → IfDone IsAbove answer → Leaves base (running first.bones.classes first x nothing_beside) answer → StaysKnown base first answer
  put_known (Err why) above left = tt
  put_known (Ok done) above left =
      let classes = first.bones.classes in
      let numbers = left.numbers (running classes first done.1 nothing_beside) (view_stands classes first done.1 nothing_beside above.0) (views_go_on classes first nothing_beside x done.1) in
      known_behind classes first nothing_beside base x known done.1
      (record { over = above.0; began = known.viewed.began; now = layer_ordered first done.1 known.viewed.began (numbered_by classes classes first done.1 numbers.0); touched = above.1 })
      (record { remembers = left.remembers; versions = left.versions; numbers = left.numbers; triggers = left.triggers; formed = left.formed; keys = left.keys })
