-- Where a `List` keeps its elements, for the types that hold themselves through it: in its `Vec`, in their order.
use mathlib.Core.Path.{◌≡◌, refl, sym}
use mathlib.Core.List.{List, [], map}
use mathlib.Core.Former.{Former, this, list, via, children}
use base.Stored.{code_map}
use denote.RattleType.{RattleType}
use denote.Hole.Carrier.{listed, list-listed}
use denote.Hole.Fix.{over}
use denote.HoleLaws.{Alike}
use denote.HolePlaces.{Recodes, struct_places, laid}
use denote.Model.Placed.{held, view_places}
use denote.Param.Weighed.{Weighed, w_list}
use Rattle.std.specs.contracts.alloc.Global as heap
use Rattle.std.specs.contracts.impls.GlobalAllocator.TheImpl.{ghosts}
use Rattle.std.specs.declared.alloc.Global.{Global}
use Rattle.std.specs.declared.vec.Vec.{Vec}
use Rattle.std.specs.formers.vec.Vec as vec
use Rattle.ode_value.specs.contracts.list.List as row
use Rattle.ode_value.specs.contracts.list.List.TheInside as inside
use Rattle.ode_value.specs.declared.list.List.TheInside.{Inside}
use Rattle.ode_value.specs.declared.list.List.TheView.{view, invariant}

-- ---- what a contract sees: a list, which holds its elements and no more

abbrev pub the_former : Former {0} → Former {0}
the_former element = list element

abbrev pub the_weighed : {element : Former {0}} → Weighed element → Weighed (the_former element)
the_weighed element = w_list element

pub the_empty : List ⊥
the_empty = []

abbrev pub the_items : (X : Type 0) → List X → List X
the_items X items = items

pub the_items_listed : (X : Type 0) (items : List X) → listed _ (children (the_former this) X items) ≡ the_items X items
the_items_listed = list-listed

-- ---- what the struct has: a `Vec`, which holds the same elements

abbrev vec_of : (X : Type 0) → Inside X → Vec X Global
vec_of X fields = fields.items

abbrev with_vec : (X : Type 0) → Vec X Global → Inside X
with_vec X items = record { items = items }

abbrev stored : Former {0}
stored = via (vec.the_former this Global) Inside vec_of with_vec (λ X fields. refl) (λ X items. refl)

-- the view goes along a map of the elements
view-map : (X Y : Type 0) (f : X → Y) (fields : Inside X) → view Y (stored.map X Y f fields) ≡ map f (view X fields)
view-map X Y f fields = refl

-- and shows each element that the struct has
view-holds : (X : Type 0) (fields : Inside X) → held (list this) X (view X fields) ≡ held stored X fields
view-holds X fields = refl

-- ---- so lists of elements that are alike are alike

module _ (R S : RattleType) (f : R.Denot → S.Denot) where
  fields_alike : Alike R S f → Alike (inside.the_row R) (inside.the_row S) (stored.map R.Denot S.Denot f)
  fields_alike same =
      let vecs = vec.the_places heap.the_row ghosts R S f same in
      struct_places (inside.the_type R) (inside.the_type S) (vec.mapped f, tt) _ (λ fields. refl) refl
      (laid _ _ _ vecs, tt)

  pub the_places : Alike R S f → Alike (row.the_row R) (row.the_row S) ((the_former this).map R.Denot S.Denot f)
  the_places same =
      view_places stored (list this) view view-map view-holds R.Denot S.Denot f
      (row.the_row R).coded (row.the_row S).coded (invariant R.Denot) (invariant S.Denot) (λ _ _ _. refl) (λ _ _ _. refl) (λ _ _. tt) (λ _ _. tt)
      (over (inside.the_row R)) (over (inside.the_row S)) (fields_alike same)

  pub the_codes_placed : Recodes R S f
      → Recodes (row.the_row R) (row.the_row S) ((the_former this).map R.Denot S.Denot f)
  the_codes_placed same items = sym (code_map R.coded.code S.coded.code f (λ item. sym (same item)) items)
