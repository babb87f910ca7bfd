-- A file that was opened to the records of a world is at rest in it.
use Rattle.std.proofs.Common.{◌≡◌, ℕ, Bool, List, Ok, true, subst}
use Rattle.ode_codec.specs.Standing.{HoldsWorld}
use Rattle.ode_host.specs.View.{View}
use Rattle.ode_keep.specs.Entries.{Entries}
use Rattle.ode_language.specs.Languages.{ode}
use Rattle.ode_opened.specs.declared.opened.Opened.{Opened}
use Rattle.ode_open.specs.Opening.{base_in}
use Rattle.ode_opening_records.specs.Reading.{AreOpened}
use Rattle.ode_opening_records.specs.declared.base.Base.{Base}
use Rattle.ode_resting_laws.specs.Showing.{IsShown}
use Rattle.ode_schema.specs.Parts.{AreFit}
use Rattle.ode_sound_laws.specs.Typed.{AreFromOne}
use Rattle.ode_transact.specs.Resting.{HoldsBy, IsAtRest, resting_parts}
use Rattle.ode_transact.specs.Settling.{Meaning}
use Rattle.ode_value.specs.Language.{ListWorld}

-- what is opened of records that hold a world is this world's
abbrev pub ShowWorlds : Type 0
ShowWorlds =
    (first : Bool) (records : Entries) (w : ListWorld) (opened : Base) → HoldsWorld ode records w → AreFromOne w.bones → AreOpened first ode records (Ok opened) → IsShown records w opened

-- A keeper of any kind, whose images stand for one map each.
module _ {H K : Type 0} (seen : H → View) (holds : K → View → Entries → Type 0) (live : K → Bool) (means : Meaning)
    (one_map : (image : List ℕ) (entries others : Entries) → means image entries → means image others → entries ≡ others) where
  pub at_rest : (host : H) (image : List ℕ) (w : ListWorld) (o : Opened K) (entries : Entries) (first : Bool) → ShowWorlds → HoldsBy ode means image w → means image entries
      → holds o.keeper (seen host) entries → AreOpened first ode entries (Ok (base_in o)) → live o.keeper ≡ true → AreFit (resting_parts o) → IsAtRest seen holds live ode w o host
  at_rest host image w o entries first show held meant kept opened usable fit =
      let same : held.entries ≡ entries = one_map image held.entries entries held.are meant in
      let world : HoldsWorld ode entries w = subst (λ (es : Entries). HoldsWorld ode es w) same held.world in
      let shown = show first entries w (base_in o) world held.ones opened in
      record {
        entries = entries;
        world = shown.world;
        usable = usable;
        records = kept;
        classes = shown.classes;
        tables = shown.tables;
        fit = fit;
        bytes = shown.bytes;
      }
