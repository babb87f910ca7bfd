-- The world that records hold, and what is read of it.
use Rattle.std.proofs.Common.{◌≡◌, ◌<◌, ℕ, List, [], ◌∷◌, map, Option, Some, None, Ok, Err, refl, sym, ap, subst, ◌∙◌}
use Rattle.std.specs.Option.{option_and_then, option_map}
use Rattle.ode_codec.specs.Standing.{ArePasts}
use Rattle.ode_codec.specs.StoredRows.{Stored, activation_rows, object_row, rows, version_rows}
use Rattle.ode_formed_laws.proofs.ObjectLaws.{by_form}
use Rattle.ode_formed_laws.specs.Staying.{IsStored, IsUnused}
use Rattle.ode_held_laws.specs.Fresh.{ReadsFresh}
use Rattle.ode_heap.specs.Answering.{class_of}
use Rattle.ode_heap_laws.specs.Few.{HoldsCounted}
use Rattle.ode_keep.specs.Entries.{Entries, value_under}
use Rattle.ode_known_laws.specs.Knowing.{IsHeld, declared_in}
use Rattle.ode_laws.proofs.Each.{all-then}
use Rattle.ode_laws.proofs.Rows.{id_of}
use Rattle.ode_laws.specs.Alike.{NumberTx, NumberWorld}
use Rattle.ode_laws.specs.Numbered.{AreNumbered, HasNumbers}
use Rattle.ode_objects.specs.declared.tracked.Tracked.{Tracked}
use Rattle.ode_overlay.specs.Answers.{Answer}
use Rattle.ode_overlay.specs.Changing.{fresh}
use Rattle.ode_overlay.specs.Layers.{Layer, tracked_at}
use Rattle.ode_overlay_laws.specs.Following.{IsNewNumber}
use Rattle.ode_overlay_laws.specs.Standing.{Stands}
use Rattle.ode_settling_laws.proofs.KindLaws.{activation_stands, object_stands, version_stands}
use Rattle.ode_value.specs.Denoting.{object_numbered}
use Rattle.ode_value.specs.GoodWorlds.{RiseFrom}
use Rattle.ode_value.specs.Keys.{activation_key, version_key}
use Rattle.ode_value.specs.Language.{Language, ListWorld}
use Rattle.ode_value.specs.Objects.{Histories, Starts}
use Rattle.ode_value.specs.Pasts.{Kept}
use Rattle.ode_value.specs.Tables.{Table}
use Rattle.ode_value.specs.Worlds.{Bones, Declared, Object}
use Rattle.ode_value.specs.declared.class.Class.{Class}
use Rattle.ode_value.specs.declared.key.Key.{Key}
use Rattle.ode_version_laws.specs.Denoting.{IsRead}
use Rattle.ode_view_laws.specs.Ordering.{IsOrdered, number_of, row_number}

-- what objects are read as, and where this stands
abbrev pub ReadsAll : Type 0
ReadsAll = (l : Language) (records : Entries) (w : ListWorld) (x : Layer) (y : NumberTx) (id : ℕ) (held : HoldsCounted l records w) → Stands x y → y.first ≡ held.world.stored.world
    → ReadsFresh x y id (fresh (map class_of w.bones.classes) records id x)

abbrev pub StoresAll : Type 0
StoresAll = (l : Language) (records : Entries) (w : ListWorld) (x : Layer) (id : ℕ) (new : Option Tracked) → HoldsCounted l records w
    → fresh (map class_of w.bones.classes) records id x ≡ Ok new → IsStored w.bones.classes records id new

is_read : (classes : List Class) (base : Entries) (x : Layer) (y : NumberTx) (id : ℕ) → ReadsFresh x y id (fresh classes base id x) → IsRead classes base x y id
is_read classes base x y id reads = by_answer (fresh classes base id x) refl reads where
  by_answer : (answer : Answer (Option Tracked)) → fresh classes base id x ≡ answer → ReadsFresh x y id answer → IsRead classes base x y id
  by_answer (Ok new) read fresh = record { object = new; read = read; is = fresh }
  by_answer (Err why) read none = absurd none

-- a row of the past for each object
same_rows : (tables : ℕ → ℕ → Table) (classes : List Declared) (os : List Object) (rows : List (ℕ × Kept (Unit {0}) ℕ)) (pasts : List (ℕ × Kept Histories Starts)) → ArePasts tables classes os rows pasts
    → map row_number rows ≡ map number_of os
same_rows tables classes [] [] [] are = refl
same_rows tables classes (o ∷ os) (row ∷ rows) (past ∷ pasts) are = λ i. are.0 i ∷ same_rows tables classes os rows pasts are.2 i
same_rows tables classes [] [] (past ∷ pasts) are = absurd are
same_rows tables classes [] (row ∷ rows) pasts are = absurd are
same_rows tables classes (o ∷ os) [] pasts are = absurd are
same_rows tables classes (o ∷ os) (row ∷ rows) [] are = absurd are

module _ (base : Entries) (first : NumberWorld) (held : IsHeld base first) where
  pub on_first : (P : NumberWorld → Type 0) → P held.held.world.stored.world → P first
  on_first P holds = subst P (sym held.is) holds

  same_bones : first.bones ≡ held.world.bones
  same_bones = ap (λ (w : NumberWorld). w.bones) held.is ∙ held.held.world.stands.bones

  same_classes : map class_of held.world.bones.classes ≡ declared_in first
  same_classes = ap (λ (b : Bones). map class_of b.classes) (sym same_bones)

  pub held_numbered : AreNumbered held.world.bones → AreNumbered first.bones
  held_numbered numbered = subst AreNumbered (sym same_bones) numbered

  pub held_ordered : AreNumbered held.world.bones → IsOrdered first
  held_ordered numbered =
      let stored = held.held.world.stored.world in
      let bones : held.world.bones ≡ stored.bones = sym held.held.world.stands.bones in
      let own = held_numbered numbered in
      record {
        rising = own.rising;
        drawn = all-then (HasNumbers first.bones.next) (λ (o : Object). o.id < first.bones.next) (λ o has. has.drawn) first.bones.objects own.objects;
        rows = on_first (λ (w : NumberWorld). map row_number w.pasts ≡ map number_of w.bones.objects) (
            same_rows held.held.world.stored.tables held.world.bones.classes held.world.bones.objects stored.pasts held.world.pasts held.held.world.stands.pasts
            ∙ ap (λ (b : Bones). map number_of b.objects) bones);
      }

  -- ---- what is read

  module _ (x : Layer) where
    pub read_now : (y : NumberTx) (id : ℕ) → Stands x y → y.first ≡ first → ReadsAll → IsRead (declared_in first) base x y id
    read_now y id stands begins reads =
        is_read (declared_in first) base x y id
        (subst (λ (cs : List Class). ReadsFresh x y id (fresh cs base id x)) same_classes (reads held.language base held.world x y id held.held stands (begins ∙ held.is)))

    pub stored_now : (id : ℕ) (new : Option Tracked) → fresh (declared_in first) base id x ≡ Ok new → StoresAll → IsStored first.bones.classes base id new
    stored_now id new read stores =
        subst (λ (b : Bones). IsStored b.classes base id new) (sym same_bones)
        (stores held.language base held.world x id new held.held (subst (λ (cs : List Class). fresh cs base id x ≡ Ok new) (sym same_classes) read))

  -- ---- nothing stands under the keys of the next number

  none_first : (x : Layer) (y : NumberTx) → Stands x y → y.first ≡ first → IsNewNumber x y x.next → object_numbered x.next first.bones.objects ≡ None
  none_first x y stands begins new = by_tracked (tracked_at x.next x) refl where
    by_tracked : (f : Option Tracked) → tracked_at x.next x ≡ f → object_numbered x.next first.bones.objects ≡ None
    by_tracked (Some t) is = let there = (stands.tracked x.next t is).object in absurd (cc (there, new.object))
    by_tracked None is =
        ap (λ (w : NumberWorld). object_numbered x.next w.bones.objects) (sym begins) ∙ sym (stands.others x.next is).object ∙ new.object

  abbrev s : Stored
  s = held.held.world.stored

  pub unused_now : (x : Layer) (y : NumberTx) → Stands x y → y.first ≡ first → IsNewNumber x y x.next → IsOrdered first → IsUnused base x.next
  unused_now x y stands begins new ordered q own at =
      ap (λ (es : Entries). value_under es q) held.held.world.rows
      ∙ by_form (λ (k : Key). value_under (rows s) k ≡ None) x.next
      (object_stands s x.next ∙ ap (option_map (λ (o : Object). (object_row o).1)) none)
      (λ n. version_stands s rising x.next n ∙ ap (option_and_then (λ (o : Object). value_under (version_rows s.world.bones.classes o) (version_key x.next n))) none)
      (λ n. activation_stands s rising x.next n ∙ ap (option_and_then (λ (o : Object). value_under (activation_rows s.world o) (activation_key x.next n))) none) q own at
    where
      none : object_numbered x.next s.world.bones.objects ≡ None
      none = subst (λ (w : NumberWorld). object_numbered x.next w.bones.objects ≡ None) held.is (none_first x y stands begins new)

      rising : RiseFrom 0 (map id_of s.world.bones.objects)
      rising = subst (λ (w : NumberWorld). RiseFrom 0 (map id_of w.bones.objects)) held.is ordered.rising
