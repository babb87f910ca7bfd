-- What an image and an opened file hold.
use Rattle.std.specs.Prelude.{◌≡◌, ℕ, List, Bool, true}
use Rattle.ode_codec.specs.Standing.{HoldsWorld}
use Rattle.ode_transact.specs.Settling.{Meaning}
use Rattle.ode_opened.specs.declared.opened.Opened.{Opened}
use Rattle.ode_heap_laws.specs.Few.{HoldsCounted}
use Rattle.ode_host.specs.View.{View}
use Rattle.ode_keep.specs.Entries.{Entries}
use Rattle.ode_run.specs.Knowing.{declared_in}
use Rattle.ode_schema.specs.Parts.{AreFit, Parts, table_by}
use Rattle.ode_sound_laws.specs.Typed.{AreFromOne}
use Rattle.ode_value.specs.Language.{Language, ListWorld}
use Rattle.ode_value.specs.Tables.{Table}
use Rattle.ode_value.specs.Weights.{weight}

-- an image stands for records that hold a world, and its versions' numbers begin at 1
pub record HoldsBy (l : Language) (means : Meaning) (image : List ℕ) (w : ListWorld) : Type 0 where
  pub entries : Entries
  pub are : means image entries
  pub world : HoldsWorld l entries w
  pub ones : AreFromOne w.bones

-- its classes, with the tables and alphabets of their triggers
abbrev pub resting_parts : {K : Type 0} → Opened K → Parts
resting_parts o = record { classes = o.classes; tables = o.tables; alphabets = o.alphabets; maps = o.maps }

abbrev pub resting_tables : {K : Type 0} → Opened K → ℕ → ℕ → Table
resting_tables o = table_by o.tables o.maps

module _ {H K : Type 0} (seen : H → View) (held : K → View → Entries → Type 0) (live : K → Bool) where
  -- A keeper may be used and holds records that hold this world; the classes and tables are those of the records and fit each other, and
  -- the bytes are the world's weight.
  pub record IsAtRest (l : Language) (w : ListWorld) (o : Opened K) (host : H) : Type 0 where
    pub entries : Entries
    pub world : HoldsCounted l entries w
    pub usable : live o.keeper ≡ true
    pub records : held o.keeper (seen host) entries
    pub classes : o.classes ≡ declared_in world.world.stored.world
    pub tables : world.world.stored.tables ≡ resting_tables o
    pub fit : AreFit (resting_parts o)
    pub bytes : o.bytes ≡ weight world.world.stored.world.bones
