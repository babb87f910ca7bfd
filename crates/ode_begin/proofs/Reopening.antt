-- A file that is opened for a run, over the keeper of its pages.
use Rattle.std.proofs.Common.{◌≡◌, ◌∙◌, ◌⊎◌, ⊎_elim, inr, ℕ, List, Bool, Result, Ok, Err, Some, IsTrue, ap, length, refl, subst, sym}
use Rattle.std.specs.Prelude.{◌==◌, IfErr, IsErrOf, false}
use Rattle.ode_ends.specs.Resting.{resting_parts}
use Rattle.ode_gate.specs.declared.places.TheConstants.{FIRST_FORMAT, FORMAT}
use Rattle.ode_schema.specs.Parts.{AreAligned, AreFit, Parts, places_from, trigger_count}
use Rattle.ode_host.proofs.Calls.{looks_calls, rose_as, rose_on}
use Rattle.ode_host.proofs.Moments.{keeps_joined, tells_looks}
use Rattle.ode_host.specs.Causes.{RoseIf}
use Rattle.ode_host.specs.FirstSync.{SyncedRun}
use Rattle.ode_host.specs.Host.{DiskCalls, Looks, Stands, Tells}
use Rattle.ode_host.specs.View.{View}
use Rattle.ode_keep.specs.Entries.{Entries}
use Rattle.ode_keeper.proofs.Held.{held_last}
use Rattle.ode_keeper.specs.Files.{FileMeans}
use Rattle.ode_keeper.specs.Holding as of_either
use Rattle.ode_keeper.specs.Holding.{HoldsLast, KeeperHolds}
use Rattle.ode_keeper.specs.OneMap.{one_map}
use Rattle.ode_keeper.specs.declared.keeper.Keeper.{Keeper}
use Rattle.ode_keeper.specs.declared.keeper.Keeper.TheVariants.{Areas, Pages}
use Rattle.ode_language.specs.Languages.{ode}
use Rattle.ode_migrate.specs.declared.error.MigrateError.{MigrateError}
use Rattle.ode_migrate.specs.declared.error.MigrateError.TheVariants.{Changed}
use Rattle.ode_migrate.specs.declared.error.MigrateError.TheVariants as unmigrated
use Rattle.ode_open.proofs.Synced.{synced_as}
use Rattle.ode_open.specs.Opening.{IsFromOutside, IsOpenedTo, Stays, base_in, program_of}
use Rattle.ode_open.specs.declared.error.OpenError.{OpenError}
use Rattle.ode_open.specs.declared.error.OpenError.TheVariants.{DiskFault}
use Rattle.ode_opened.specs.declared.opened.Opened.{Opened}
use Rattle.ode_opening_records.specs.Reading.{AreOpened}
use Rattle.ode_opening_records.specs.declared.base.Base.{Base}
use Rattle.ode_pagemap.specs.Holding.{is_live}
use Rattle.ode_pagemap.specs.declared.map.PageMap.{PageMap}
use Rattle.ode_paging.specs.Meaning.{PagesMeanIn}
use Rattle.ode_value.specs.Language.{Language, ListWorld}
use Rattle.ode_begin.proofs.Holding.{tells_one}
use Rattle.ode_begin.specs.Answers.{BreaksRule}
use Rattle.ode_begin.specs.Holds.{Holds, HoldsInPages}
use Rattle.ode_begin.specs.Opening.{HasAreas, IsOver, OpensTo, unmoved}
use Rattle.ode_begin.specs.Stops.{StaysHeld, StaysIn}

-- records that are opened as those of a format are opened to the same as any
abbrev pub OpenedAlike : Type 0
OpenedAlike = (first : Bool) (l : Language) (entries : Entries) (base : Base) → AreOpened first l entries (Ok base) → AreOpened false l entries (Ok base)

-- ---- over the keeper of the pages

no_areas : (k : Keeper) (view : View) (entries : Entries) → HoldsLast k view entries → HasAreas k → ⊥
no_areas (Areas keeper) view entries held areas = held
no_areas (Pages keeper) view entries held areas = areas

-- A file of the last format that holds a world was opened.
module _ (w : ListWorld) (image : List ℕ) (o : Opened Keeper) (view : View) (holds : HoldsInPages image w) (stands : Stands image view)
    (kept : (entries : Entries) × FileMeans image entries × KeeperHolds o.keeper view entries × AreOpened (o.format == FIRST_FORMAT) ode entries (Ok (base_in o))) where
  last : PagesMeanIn FORMAT image kept.0
  last = subst (PagesMeanIn FORMAT image) (one_map image holds.entries kept.0 (inr holds.are.means) kept.1) holds.are

  held : HoldsLast o.keeper view kept.0
  held = held_last image kept.0 last o.keeper view kept.0 stands kept.2

  pub opens_over : OpenedAlike → (p : Opened PageMap) → IsOver o p → OpensTo w p view
  opens_over alike p over = record {
    image = image;
    holds = holds;
    entries = kept.0;
    means = last;
    kept = subst (λ (k : Keeper). HoldsLast k view kept.0) over.keeper held;
    opened = subst (λ (b : Base). AreOpened false ode kept.0 (Ok b)) (sym over.base) (alike (o.format == FIRST_FORMAT) ode kept.0 (base_in o) kept.3);
  }

  -- its keeper is one of pages
  pub never_areas : HasAreas o.keeper → ⊥
  never_areas areas = no_areas o.keeper view kept.0 held areas

abbrev parts_of : Base → Parts
parts_of b = record { classes = b.classes; tables = b.tables; alphabets = b.alphabets; maps = b.maps }

module _ (o : Opened Keeper) (p : Opened PageMap) (over : IsOver o p) where
  pub live_over : IsTrue (of_either.is_live o.keeper) → IsTrue (is_live p.keeper)
  live_over live = subst (λ (k : Keeper). IsTrue (of_either.is_live k)) over.keeper live

  pub fit_over : AreFit (program_of o) → AreFit (resting_parts p)
  fit_over fit = subst (λ (b : Base). AreFit (parts_of b)) (sym over.base) fit

  -- the tables of all triggers follow one another, and each table has an alphabet
  pub aligned_over : o.maps ≡ places_from 0 o.classes → (length o.tables ≡ trigger_count o.classes) × (length o.alphabets ≡ length o.tables) → AreAligned (resting_parts p)
  aligned_over places as_many = subst (λ (b : Base). AreAligned (parts_of b)) (sym over.base) (record { places = places; tables = as_many.0; alphabets = as_many.1 })

-- ---- why not

-- an error that isn't the file's came from outside
pub outside_only : (image : List ℕ) (w : ListWorld) (why : OpenError) → (IsOpenedTo image (Err why) → ⊥) → IsFromOutside why ⊎ IsOpenedTo image (Err why) → IsFromOutside why
outside_only image w why none answer =
    ⊎_elim (λ (outside : IsFromOutside why). outside) (λ (to : IsOpenedTo image (Err why)). absurd (none to)) answer

-- so did why a file isn't migrated that is what it was
pub outside_moved : (error : MigrateError) → ((at : ℕ) → error ≡ Changed at → ⊥) → IsFromOutside (unmoved error)
outside_moved unmigrated.Memory same = tt
outside_moved unmigrated.DiskFault same = tt
outside_moved (unmigrated.Changed at) same = absurd (same at refl)

-- a file of two areas is no fault of the disk
pub never_fault : (r : Result (Opened PageMap) OpenError) → IfErr r (λ why. why ≡ unmoved (Changed 0)) → IsErrOf r DiskFault → ⊥
never_fault (Ok p) other is = cc (is)
never_fault (Err why) other is = cc (other, is)

pub fault_moved : (error : MigrateError) → unmoved error ≡ DiskFault → error ≡ unmigrated.DiskFault
fault_moved unmigrated.DiskFault is = refl
fault_moved unmigrated.Memory is = absurd (cc (is))
fault_moved (unmigrated.Changed at) is = absurd (cc (is))

-- a fault of the disk is one, whatever was asked for
pub fault_in : {T : Type 0} (why : OpenError) → IsErrOf {T = T} (Err why) DiskFault → why ≡ DiskFault
fault_in why is = cc (is)

pub fault_as : {S T : Type 0} (why : OpenError) → IsErrOf {T = S} (Err why) DiskFault → IsErrOf {T = T} (Err why) DiskFault
fault_as why is = ap Err (fault_in why is)

pub moved_in : {T : Type 0} (error : MigrateError) → IsErrOf {T = T} (Err error) unmigrated.DiskFault → error ≡ unmigrated.DiskFault
moved_in error is = cc (is)

-- ---- what was done

pub disk_as : (F G : Type 0) (a b : View) → (F → G) → (G → F) → DiskCalls F a b → DiskCalls G a b
disk_as F G a b to back calls = record {
  keeps = calls.keeps;
  text = calls.text;
  print_faults = calls.print_faults;
  disk_faults = rose_as F G a.disk_faults b.disk_faults to back calls.disk_faults;
}

-- calls of the disk that didn't fail, and then one that only looked
pub looks_behind : (E F : Type 0) (a b c : View) → (E → ⊥) → DiskCalls E a b → Looks b c → RoseIf F b.disk_faults c.disk_faults → DiskCalls F a c
looks_behind E F a b c none first looks rose = record {
  keeps = keeps_joined a b c first.keeps looks.keeps;
  text = looks.text ∙ first.text;
  print_faults = looks.print_faults ∙ first.print_faults;
  disk_faults = rose_on E F a.disk_faults b.disk_faults c.disk_faults none first.disk_faults rose;
}

-- only looked
pub looks_only : (E F : Type 0) (a b : View) → Looks a b → RoseIf E a.disk_faults b.disk_faults → (E → F) → (F → E) → DiskCalls F a b
looks_only E F a b looks rose to back = looks_calls F a b looks (rose_as E F a.disk_faults b.disk_faults to back rose)

-- a file that holds a world in these records was only looked at
module _ (w : ListWorld) (entries : Entries) (image text : List ℕ) (old new : View) (holds : Holds image w) (means : FileMeans image entries) where
  pub stays_held : (c o : List ℕ) → Stays image text c o → StaysIn w entries text c o
  stays_held c o same = (
    (subst (λ (file : List ℕ). Holds file w) (sym same.0) holds, same.1),
    subst (λ (file : List ℕ). FileMeans file entries) (sym same.0) means,
  )

  pub looks_stop : (failed other : Type 0) → SyncedRun old new image failed (Stays image text) → (failed → other) → SyncedRun old new image other (StaysIn w entries text)
  looks_stop failed other run to = synced_as old new image failed other (Stays image text) (StaysIn w entries text) stays_held run to

  pub looks_left : Looks old new → Tells old image → (file : List ℕ) → Tells new file → Holds file w × FileMeans file entries
  looks_left looks tells file now =
      let same = tells_one new image file (tells_looks image old new looks tells) now in
      (subst (λ (f : List ℕ). Holds f w) same holds, subst (λ (f : List ℕ). FileMeans f entries) same means)

-- ---- what holds for a world's records holds for the world

-- of what a stop leaves
abbrev pub StopsIn : View → View → Type 0 → Type 0
StopsIn old new failed = (image text : List ℕ) (w : ListWorld) (entries : Entries) → Tells old image → Holds image w → FileMeans image entries → old.text ≡ Some text
    → SyncedRun old new image failed (StaysIn w entries text)

pub stops_held : (old new : View) (failed : Type 0) → StopsIn old new failed
    → (image text : List ℕ) (w : ListWorld) → Tells old image → Holds image w → old.text ≡ Some text → SyncedRun old new image failed (StaysHeld w text)
stops_held old new failed stops image text w tells holds said =
    synced_as old new image failed failed (StaysIn w holds.held.entries text) (StaysHeld w text) (λ c o stays. stays.0)
    (stops image text w holds.held.entries tells holds holds.held.are said) (λ is. is)

-- and of what the disk tells
abbrev pub LeftIn : View → View → Type 0
LeftIn old new = (image text file : List ℕ) (w : ListWorld) (entries : Entries) → Tells old image → Holds image w → FileMeans image entries → old.text ≡ Some text
    → Tells new file → Holds file w × FileMeans file entries

pub left_held : (old new : View) → LeftIn old new
    → (image text file : List ℕ) (w : ListWorld) → Tells old image → Holds image w → old.text ≡ Some text → Tells new file → Holds file w
left_held old new left image text file w tells holds said now = (left image text file w holds.held.entries tells holds holds.held.are said now).0

-- a file that breaks a rule is the one that a host tells
pub other_image : (view : View) (image other : List ℕ) → Tells view image → Tells view other → BreaksRule image → BreaksRule other
other_image view image other tells told breaks = subst BreaksRule (tells_one view image other tells told) breaks
