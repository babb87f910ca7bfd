-- What is kept of settled transactions: the number of each, and its changes.
use Rattle.std.specs.Prelude.{◌≡◌, ◌≤◌, ℕ, List, [], ◌∷◌, ◌++◌, length, Option, Some, None}
use Rattle.std.specs.List.{AllByRecursion}
use Rattle.ode_codec.specs.Standing.{HoldsWorld}
use Rattle.ode_host.specs.Host.{Stands}
use Rattle.ode_host.specs.View.{View}
use Rattle.ode_keep.specs.Entries.{Changes, Entries, applied}
use Rattle.ode_keep.specs.ShortValues.{HasShortValues}
use Rattle.ode_keep.specs.declared.limits.TheConstants.{MAX_CHANGES}
use Rattle.ode_sound_laws.specs.Typed.{AreFromOne}
use Rattle.ode_transact.specs.Settling.{Meaning}
use Rattle.ode_value.specs.Language.{Language, ListWorld, Settlings}

-- a settled transaction: its number and its changes
abbrev pub Kept : Type 0
Kept = ℕ × Changes

-- a log, where one is kept, with more behind
abbrev pub logged : Option (List Kept) → List Kept → Option (List Kept)
logged None news = None
logged (Some kept) news = Some (kept ++ news)

-- the bounds of a commit
abbrev pub IsBounded : Kept → Type 0
IsBounded k = (length k.1 ≤ MAX_CHANGES) × HasShortValues k.1

-- a log has grown, if at all, by batches within the bounds of a commit
pub record HasGrown (old new : Option (List Kept)) : Type 0 where
  pub news : List Kept
  pub grown : new ≡ logged old news
  pub bounded : AllByRecursion IsBounded news

-- the records behind all these changes
abbrev pub behind : Entries → List Kept → Entries
behind entries [] = entries
behind entries (k ∷ ks) = behind (applied k.1 entries) ks

-- the disk stands for these records
abbrev pub DiskHas : Meaning → Entries → View → Type 0
DiskHas means entries view = (file : List ℕ) × Stands file view × means file entries

-- records hold a world, and its versions' numbers begin at 1
abbrev pub AreOf : Language → Entries → ListWorld → Type 0
AreOf l entries w = HoldsWorld l entries w × AreFromOne w.bones

-- what is kept of transactions that settled one after the other, over records of this world: for each its number, and changes that leave
-- records of the world behind it
abbrev pub AreKept : Language → ListWorld → Entries → Settlings → List Kept → Type 0
AreKept l w entries [] [] = Unit {0}
AreKept l w entries (s ∷ settled) (k ∷ kept) = (k.0 ≡ w.bones.transaction) × AreOf l (applied k.1 entries) s.0 × AreKept l s.0 (applied k.1 entries) settled kept
AreKept l w entries _ _ = ⊥

-- A call that settled these, over a disk that stood for these records, has kept them: its log went on by them, and the disk stands for the
-- records behind them.
pub record Logs (means : Meaning) (l : Language) (w : ListWorld) (entries : Entries) (settled : Settlings) (old new : Option (List Kept)) (view : View) : Type 0 where
  pub news : List Kept
  pub grown : new ≡ logged old news
  pub kept : AreKept l w entries settled news
  pub disk : DiskHas means (behind entries news) view
