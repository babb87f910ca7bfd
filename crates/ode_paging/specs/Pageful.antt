-- What was read of the pages of a file.
use Rattle.std.specs.Prelude.{◌≡◌, ◌<◌, ℕ, List, [], length}
use Rattle.ode_gate.specs.declared.header.Header.{Header}
use Rattle.ode_host.specs.Host.{Tells}
use Rattle.ode_host.specs.View.{View}
use Rattle.ode_keep.specs.Entries.{Entries}
use Rattle.ode_paging.specs.Gathering.{AreApart, HaveNewKeys, gathered}
use Rattle.ode_paging.specs.Images.{Image}
use Rattle.ode_paging.specs.Indexing.{Leads, indexed}
use Rattle.ode_paging.specs.Summed.{AreSums}
use Rattle.ode_paging.specs.Standing.{HasPage, HavePages}
use Rattle.ode_paging.specs.declared.sums.Sums.{Sums}

-- So many pages stand there from the first one on, if the host tells, with no key in two of them. Each key leads to its page,
-- and the sums are those of all their records.
pub record AreRead (view : View) (header : Header) (images : List Image) (count : ℕ) (leads : Leads) (sums : Sums) : Type 0 where
  pub pages : List Entries
  pub many : count ≡ length pages
  pub each : (file : List ℕ) → Tells view file → HavePages header images file 0 pages
  pub apart : HaveNewKeys [] pages
  pub leads_are : leads ≡ indexed 0 [] pages
  pub sums_are : AreSums sums (gathered [] pages)

-- The pages before this one, of so many, stand there. If the host tells, this one has no entries with keys of its own.
pub record StopsAt (view : View) (header : Header) (images : List Image) (count page : ℕ) : Type 0 where
  pub front : List Entries
  pub place : page ≡ length front
  pub within : page < count
  pub each : (file : List ℕ) → Tells view file → HavePages header images file 0 front
  pub apart : HaveNewKeys [] front
  pub bad : (file : List ℕ) → Tells view file → (entries : Entries) → HasPage header images file page entries → AreApart entries (gathered [] front) → ⊥
