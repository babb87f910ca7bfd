-- What a stop leaves of a run, and a run that was cut short.
use Rattle.std.specs.Prelude.{◌≡◌, ℕ, List, Some}
use Rattle.ode_host.specs.Host.{Tells}
use Rattle.ode_host.specs.View.{View}
use Rattle.ode_host.specs.declared.status.Status.{Status}
use Rattle.ode_host.specs.declared.status.Status.TheVariants.{Ok, Refused, Usage, BadFile, DiskFault, ReadFault, WriteFault, Memory, LongStatement, LongScript}
use Rattle.ode_keep.specs.Entries.{Entries}
use Rattle.ode_keeper.specs.Files.{FileMeans}
use Rattle.ode_machine.specs.Moments.{IsAfterSome}
use Rattle.ode_machine.specs.Runs.{Item}
use Rattle.ode_value.specs.Language.{ListWorld}
use Rattle.ode_begin.specs.Holds.{Holds}

-- A run of these items was cut short at one of its moments.
pub record CutShort (items : List Item) (w : ListWorld) (text : List ℕ) (view : View) : Type 0 where
  pub image : List ℕ
  pub out : List ℕ
  pub tells : Tells view image
  pub said : view.text ≡ Some out
  pub moment : IsAfterSome Holds items w text image out

-- A call was cut short at one of its moments, which leave this.
pub record IsCutAt (P : List ℕ → List ℕ → Type 0) (view : View) : Type 0 where
  pub image : List ℕ
  pub out : List ℕ
  pub tells : Tells view image
  pub said : view.text ≡ Some out
  pub moment : P image out

-- the image holds this world still, and nothing more was printed
abbrev pub StaysHeld : ListWorld → List ℕ → List ℕ → List ℕ → Type 0
StaysHeld w text image out = Holds image w × (out ≡ text)

-- and it stands for these records still
abbrev pub StaysIn : ListWorld → Entries → List ℕ → List ℕ → List ℕ → Type 0
StaysIn w entries text image out = StaysHeld w text image out × FileMeans image entries

-- the statuses of a run that was cut short
abbrev pub IsCut : Status → Type 0
IsCut DiskFault = Unit {0}
IsCut ReadFault = Unit {0}
IsCut WriteFault = Unit {0}
IsCut Memory = Unit {0}
IsCut Ok = ⊥
IsCut Refused = ⊥
IsCut Usage = ⊥
IsCut BadFile = ⊥
IsCut LongStatement = ⊥
IsCut LongScript = ⊥
