-- Where a run of a script begins, and what it leaves at its end.
use Rattle.std.specs.Prelude.{◌≡◌, ℕ, List, [], ◌++◌, Bool, Option, Some}
use Rattle.ode_good_laws.specs.Well.{IsWell}
use Rattle.ode_host.specs.Host.{Stands}
use Rattle.ode_host.specs.View.{View}
use Rattle.ode_host.specs.declared.status.Status.{Status}
use Rattle.ode_host.specs.declared.status.Status.TheVariants.{Ok, Refused}
use Rattle.ode_keep.specs.Entries.{Entries}
use Rattle.ode_language.specs.Languages.{ode}
use Rattle.ode_machine.specs.Runs.{Item, any_refused, final, status_at, text_of}
use Rattle.ode_opened.specs.declared.opened.Opened.{Opened}
use Rattle.ode_script.specs.Cutting.{Ending}
use Rattle.ode_transact.specs.Resting.{HoldsBy, IsAtRest}
use Rattle.ode_transact.specs.Settling.{Meaning}
use Rattle.ode_value.specs.Language.{ListWorld}

-- ---- at its start

module _ {H K : Type 0} (seen : H → View) (held : K → View → Entries → Type 0) (live : K → Bool) where
  -- an opened file holds this world, and this was printed
  pub record Begins (w : ListWorld) (o : Opened K) (host : H) (text : List ℕ) : Type 0 where
    pub well : IsWell ode w
    pub rests : IsAtRest seen held live ode w o host
    pub printed : (seen host).text ≡ Some text

-- ---- at its end

-- The disk holds this world, and so does each that a stop from now on leaves, as long as nothing more is written; this is what was
-- printed.
pub record EndsWith (means : Meaning) (view : View) (w : ListWorld) (text : List ℕ) : Type 0 where
  pub image : List ℕ
  pub stands : Stands image view
  pub holds : HoldsBy ode means image w
  pub printed : view.text ≡ Some text

-- nothing of the script is left where the status says that it was read to its end
abbrev pub LeavesNothing : Status → Option (List ℕ) → Type 0
LeavesNothing Ok left = left ≡ Some []
LeavesNothing Refused left = left ≡ Some []
LeavesNothing _ left = Unit {0}

-- A run of which these items are heard, from a world, with this text printed before it and this ending of the script, has ended as the
-- machine's.
pub record RanAs (means : Meaning) (items : List Item) (ending : Ending) (w : ListWorld) (text : List ℕ) (left : Option (List ℕ)) (view : View) (status : Status) : Type 0 where
  pub stated : status ≡ status_at ending (any_refused items)
  pub ends : EndsWith means view (final w items) (text ++ text_of items)
  pub nothing : LeavesNothing status left
