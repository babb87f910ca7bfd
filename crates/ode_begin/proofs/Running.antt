-- A run begins on an opened file.
use Rattle.std.proofs.Common.{◌≡◌, ◌⊎◌, ⊎_elim, ℕ, List, Some, Ok, Err}
use Rattle.ode_keeper.specs.Files.{FileMeans}
use Rattle.ode_keeper.specs.declared.keeper.Keeper.{Keeper}
use Rattle.ode_codec.specs.Standing.{HoldsWorld}
use Rattle.ode_file_laws.specs.Fitting.{FitsFile}
use Rattle.ode_good_laws.specs.Well.{IsWell}
use Rattle.ode_host.specs.View.{View}
use Rattle.ode_keep.specs.Entries.{Entries}
use Rattle.ode_language.specs.Languages.{ode}
use Rattle.ode_open.specs.Opening.{Found, IsOpenedTo, base_in}
use Rattle.ode_open.specs.declared.error.OpenError.{OpenError}
use Rattle.ode_opened.specs.declared.opened.Opened.{Opened}
use Rattle.ode_pagemap.specs.Holding.{LastHold, is_live}
use Rattle.ode_pagemap.specs.declared.map.PageMap.{PageMap}
use Rattle.ode_sound_laws.specs.Sound.{AreSound}
use Rattle.ode_sound_laws.specs.Typed.{AreFromOne}
use Rattle.ode_ends.specs.Endings.{Begins}
use Rattle.ode_ends.specs.Resting.{IsAtRest}
use Rattle.ode_value.specs.GoodWorlds.{IsGood}
use Rattle.ode_value.specs.Language.{ListWorld}
use Rattle.ode_begin.specs.Answers.{BreaksRule}
use Rattle.ode_begin.specs.Holds.{Holds}
use Rattle.ode_begin.specs.Opening.{OpensTo}
use Rattle.ode_begin.proofs.Claiming.{NoneBroken}
use Rattle.ode_begin.proofs.Holding.{fits_file}

-- a world that an opened file holds is well
pub well : (w : ListWorld) (o : Opened PageMap) (view : View) → OpensTo w o view → (IsGood ode w → AreSound w.bones.classes) → IsWell ode w
well w o view opens sound = record { good = opens.holds.world.good; sound = sound opens.holds.world.good; ones = opens.holds.ones }

module _ {H : Type 0} (seen : H → View) (host : H) (w : ListWorld) (o : Opened PageMap) (opens : OpensTo w o (seen host)) where
  pub begins : (text : List ℕ) → (IsGood ode w → AreSound w.bones.classes) → IsAtRest seen LastHold is_live ode w o host → (seen host).text ≡ Some text → Begins seen LastHold is_live w o host text
  begins text sound rests told = record {
    well = well w o (seen host) opens sound;
    rests = rests;
    printed = told;
  }

-- ---- a file that was opened

-- it keeps all rules
pub breaks_none : (image : List ℕ) (o : Opened Keeper) → ((found : Found) → IsOpenedTo image found → ⊥ ⊎ (Ok (base_in o) ≡ found)) → BreaksRule image → ⊥
breaks_none image o only breaks = ⊎_elim (λ (none : ⊥). none) (λ is. cc (is)) (only (Err breaks.0) breaks.1)

-- ---- the files of worlds

-- the law of such files
abbrev pub Unbroken : Type 0
Unbroken = (image : List ℕ) (entries : Entries) (w : ListWorld) → FileMeans image entries → HoldsWorld ode entries w → AreFromOne w.bones → FitsFile image w.bones
    → (error : OpenError) → IsOpenedTo image (Err error) → ⊥

pub held_unbroken : Unbroken → (image : List ℕ) (w : ListWorld) → Holds image w → (error : OpenError) → IsOpenedTo image (Err error) → ⊥
held_unbroken unbroken image w holds error to =
    unbroken image holds.held.entries w holds.held.are holds.held.world holds.held.ones (fits_file image w holds) error to

-- they break no rule, where the law of such files says so
pub none_broken : Unbroken → (old : View) → NoneBroken old
none_broken unbroken old image w tells holds breaks = held_unbroken unbroken image w holds breaks.0 breaks.1
