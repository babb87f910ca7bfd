-- A class that was checked.
use Rattle.std.specs.Prelude.{◌≡◌, List, [], ◌∷◌, ◌++◌, Ok}
use Rattle.ode_value.specs.declared.change.Added.{Added}
use Rattle.ode_value.specs.declared.class.Class.{Class}
use Rattle.ode_value.specs.declared.statement.ClassDecl.{ClassDecl}
use Rattle.ode_types.specs.Static.{check_grown}

-- it is what a tree came to with fields that are added to it, against these classes
pub record IsChecked (known : List Class) (c : Class) : Type 0 where
  pub tree : ClassDecl
  pub added : List Added
  pub checks : check_grown known added tree ≡ Ok c

-- each class was checked against these and those before it
abbrev pub AreCheckedBehind : List Class → List Class → Type 0
AreCheckedBehind known [] = Unit {0}
AreCheckedBehind known (c ∷ cs) = IsChecked known c × AreCheckedBehind (known ++ c ∷ []) cs

-- each class was checked against those before it
abbrev pub AreChecked : List Class → Type 0
AreChecked classes = AreCheckedBehind [] classes
