-- Languages whose static rules are sound.
use Rattle.std.specs.Prelude.{◌≡◌, ◌<◌, ◌≤◌, ◌+◌, ◌^◌, ℕ, List, [], ◌∷◌, ◌++◌, length, Ok}
use Rattle.std.specs.List.{AllByRecursion, sum_by}
use Rattle.ode_value.specs.declared.change.Added.{Added}
use Rattle.ode_value.specs.declared.class.Class.{Class}
use Rattle.ode_value.specs.declared.statement.ClassDecl.{ClassDecl}
use Rattle.ode_value.specs.declared.statement.Stmt.{Stmt}
use Rattle.ode_value.specs.declared.value.Ref.{Ref}
use Rattle.ode_value.specs.Changing.{added_to}
use Rattle.ode_value.specs.Fields.{AreBorn}
use Rattle.ode_value.specs.Language.{Language}
use Rattle.ode_value.specs.PrintedClasses.{decl_text}
use Rattle.ode_value.specs.Worlds.{Declared}
use Rattle.ode_types.specs.Kept.{IsTypedStatement}
use Rattle.ode_types.specs.Static.{check_grown, check_statement}
use Rattle.ode_sound_laws.specs.Sound.{AreSound}

-- each class is what a language makes of its tree behind the earlier ones, with the fields that were added to it
abbrev pub AreAccepted : Language → List Added → List Class → List Declared → Type 0
AreAccepted l added earlier [] = Unit {0}
AreAccepted l added earlier (c ∷ cs) = (l.class_of earlier (added_to c.class.number added) c.tree ≡ Ok c.class) × AreAccepted l added (earlier ++ c.class ∷ []) cs

-- a language checks classes and statements by the static rules
pub record HasStaticRules (l : Language) : Type 0 where
  pub class_of : l.class_of ≡ check_grown
  pub checked : l.checked ≡ check_statement

-- the bytes of a class's text
abbrev pub text_size : Declared → ℕ
text_size c = length (decl_text c.tree)

-- an added field had been added when so many had been
abbrev pub WasAdded : ℕ → Added → Type 0
WasAdded stamp a = a.birth ≤ stamp

-- Checked statements are typed. Accepted classes are sound, and list no more kinds than their texts have bytes together; each has the next
-- number, of 32 bits. Its fields were there at a stamp where those of the earlier classes were, and those that were added to it.
pub record HasSoundRules (l : Language) : Type 0 where
  pub checked : (cs : List Class) (literals : List (Ref × ℕ)) (s t : Stmt) → l.checked cs literals s ≡ Ok t → IsTypedStatement cs literals t
  pub accepted : (added : List Added) (cs : List Declared) → AreAccepted l added [] cs → AreSound cs
  pub kinds : (added : List Added) (cs : List Declared) → AreAccepted l added [] cs → AllByRecursion (λ (c : Declared). length c.class.kinds ≤ sum_by text_size cs) cs
  pub numbered : (cs : List Class) (added : List Added) (d : ClassDecl) (c : Class) → l.class_of cs added d ≡ Ok c → (c.number ≡ length cs + 1) × (c.number < 2 ^ 32)
  pub fields : (stamp : ℕ) (cs : List Class) (added : List Added) (d : ClassDecl) (c : Class) → AllByRecursion (AreBorn stamp) cs → AllByRecursion (WasAdded stamp) added → l.class_of cs added d ≡ Ok c
      → AreBorn stamp c
