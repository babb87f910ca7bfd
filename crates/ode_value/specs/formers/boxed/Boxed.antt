-- Where a `Boxed` keeps its value, for the types that hold themselves through it: in its `Box`.
use mathlib.Core.List.{List}
use mathlib.Core.Path.{◌≡◌, refl, ap}
use mathlib.Core.Former.{Former, this, const, pair, via}
use base.Fml.{Fml, Lft, ftrue}
use base.Stored.{gnil}
use denote.Hole.Fix.{over}
use denote.HoleLaws.{Alike}
use denote.HolePlaces.{Recodes, struct_places, laid, one_value}
use denote.Memory.{part_of}
use denote.Model.Placed.{held, view_places}
use denote.Param.Weighed.{Weighed}
use denote.RattleType.{RattleType}
use denote.RawPtr.{Ptr}
use denote.Sharing.{nothing}
use mir.Syntax.{Ty}
use mir.Val.{Val}
use Prim.Native.Nat.{ℕ}
use Rattle.std.specs.contracts.alloc.Global as heap
use Rattle.std.specs.contracts.boxed.Box as box
use Rattle.std.specs.contracts.impls.GlobalAllocator.TheImpl.{ghosts}
use Rattle.std.specs.declared.alloc.Global.{Global}
use Rattle.std.specs.declared.boxed.Box.{Box}
use Rattle.ode_value.specs.contracts.boxed.Boxed as row
use Rattle.ode_value.specs.contracts.boxed.Boxed.TheInside as inside
use Rattle.ode_value.specs.declared.boxed.Boxed.TheInside.{Inside}
use Rattle.ode_value.specs.declared.boxed.Boxed.TheView.{view, invariant}

-- ---- what a contract sees: the value itself

abbrev pub the_former : Former {0} → Former {0}
the_former value = value

abbrev pub the_weighed : {value : Former {0}} → Weighed value → Weighed (the_former value)
the_weighed value = value

-- ---- what the struct has: a box, which is a place on the heap and the value

abbrev Place : Type 0
Place = Ptr × Global

abbrev place_and_value : (X : Type 0) → Inside X → Place × X
place_and_value X fields = ((fields.inner.ptr, fields.inner.alloc), fields.inner.value)

abbrev box_at : {X : Type 0} → Place → X → Box X Global
box_at place value = record { ptr = place.0; alloc = place.1; value = value }

abbrev in_struct : (X : Type 0) → Place × X → Inside X
in_struct X parts = record { inner = box_at parts.0 parts.1 }

abbrev stored : Former {0}
stored = via (pair (const Place) this) Inside place_and_value in_struct (λ X fields. refl) (λ X parts. refl)

-- the view goes along a map of the value
view-map : (X Y : Type 0) (f : X → Y) (fields : Inside X) → view Y (stored.map X Y f fields) ≡ f (view X fields)
view-map X Y f fields = refl

-- and shows the one value that the struct has
view-holds : (X : Type 0) (fields : Inside X) → held this X (view X fields) ≡ held stored X fields
view-holds X fields = refl

-- ---- boxes of values that are alike are alike

abbrev box_row : RattleType → RattleType
box_row R = box.the_row R heap.the_row ghosts

abbrev mapped : {X Y : Type 0} → (X → Y) → Box X Global → Box Y Global
mapped f b = box_at (b.ptr, b.alloc) (f b.value)

-- how a value lies, what it owns and what it lends
abbrev Parts : Type 1
Parts = List Ty × (List Val → Fml) × (ℕ → ℕ → Lft → Fml)

abbrev lies_only : List Ty → Parts
lies_only types = (types, (λ _. ftrue), λ _ _. nothing)

module _ (R S : RattleType) (f : R.Denot → S.Denot) (same : Alike R S f) where
  -- the parts of a value of R are those of its image
  same_parts : (value : R.Denot)
      → ◌≡◌ {A = Parts} (S.mir, S.own_val (f value), S.shr_at (f value)) (R.mir, R.own_val value, R.shr_at value)
  same_parts value = λ i. (same.mir_same i, same.own_same value i, same.shr_same value i)

  -- the box's row, where the value inside has these parts
  abbrev around : Parts → RattleType
  around parts = box_row (one_value R parts.0 parts.1 parts.2 gnil)

  boxes_alike : Alike (box_row R) (box_row S) (mapped f)
  unfolding part_of
  boxes_alike = record {
    mir_same = ap (λ types. (around (lies_only types)).mir) same.mir_same;
    own_same = λ b. ap (λ (parts : Parts). (around parts).own_val (mapped (λ _. tt) b)) (same_parts b.value);
    shr_same = λ b. ap (λ (parts : Parts). (around parts).shr_at (mapped (λ _. tt) b)) (same_parts b.value);
  }

  fields_alike : Alike (inside.the_row R) (inside.the_row S) (stored.map R.Denot S.Denot f)
  fields_alike =
      struct_places (inside.the_type R) (inside.the_type S) (mapped f, tt) _ (λ fields. refl) refl
      (laid _ _ _ boxes_alike, tt)

  pub the_places : Alike (row.the_row R) (row.the_row S) ((the_former this).map R.Denot S.Denot f)
  the_places =
      view_places stored this view view-map view-holds R.Denot S.Denot f
      (row.the_row R).coded (row.the_row S).coded (invariant R.Denot) (invariant S.Denot) (λ _ _ _. refl) (λ _ _ _. refl) (λ _ _. tt) (λ _ _. tt)
      (over (inside.the_row R)) (over (inside.the_row S)) fields_alike

module _ (R S : RattleType) (f : R.Denot → S.Denot) where
  pub the_codes_placed : Recodes R S f
      → Recodes (row.the_row R) (row.the_row S) ((the_former this).map R.Denot S.Denot f)
  the_codes_placed same = same
