-- Classes that are checked anew, of which some have new fields at a place.
use Rattle.std.specs.Prelude.{◌≡◌, ◌≤◌, ℕ, List, ◌++◌, length, map, Bool, true, false, Option}
use Rattle.std.specs.List.{AllZip}
use Rattle.std.specs.Option.{option_map_or}
use Rattle.ode_value.specs.declared.change.Added.{Added}
use Rattle.ode_value.specs.declared.class.Class.{Class}
use Rattle.ode_value.specs.declared.class.Field.{Field}
use Rattle.ode_value.specs.Fields.{field_of}
use Rattle.ode_types.proofs.KeptHeads.{method_head}
use Rattle.ode_change_laws.specs.Moves.{IsAnew as IsTriggerAnew, event_where, fields_where}

-- a class as another was, for what is seen of it from outside its bodies, with the new fields where it gets them
pub record IsAnew (at : ℕ) (new : List Field) (gets : Bool) (c d : Class) : Type 0 where
  pub number : d.number ≡ c.number
  pub name : d.name ≡ c.name
  pub parent : d.parent ≡ c.parent
  pub kinds : d.kinds ≡ c.kinds
  pub fields : d.fields ≡ fields_where at new gets c.fields
  pub place : gets ≡ true → at ≤ length c.fields
  pub methods : map method_head d.methods ≡ map method_head c.methods

module _ (at : ℕ) (new : List Field) (test : ℕ → Bool) where
  -- each class, where these numbers get the fields
  abbrev pub AreAnew : List Class → List Class → Type 0
  AreAnew cs ds = AllZip (λ (c d : Class). IsAnew at new (test c.number) c d) cs ds

  -- the same with its triggers
  pub record IsCheckedAnew (c e : Class) : Type 0 where
    pub class : IsAnew at new (test c.number) c e
    pub triggers : AllZip (IsTriggerAnew (event_where at (length new) (test c.number))) c.triggers e.triggers

-- whether a parent of a number gets the fields
abbrev pub flag_of : (ℕ → Bool) → Option ℕ → Bool
flag_of test parent = option_map_or test parent false

-- the same is added as before, and the class gets what its parent gets; or the new fields come behind, and the parent gets none
pub data Way (at : ℕ) (new : List Field) (test : ℕ → Bool) (own then : List Added) (c : Class) : Type 0 where
  Same : then ≡ own → test c.number ≡ flag_of test c.parent → Way at new test own then c
  Changed : (more : List Added) → then ≡ own ++ more → map field_of more ≡ new → at ≡ length c.fields → test c.number ≡ true → flag_of test c.parent ≡ false → Way at new test own then c
