-- What was read of a file of pages when it was opened.
use Rattle.std.specs.Prelude.{◌≡◌, ℕ, List, [], length}
use Rattle.ode_gate.specs.declared.header.Header.{Header}
use Rattle.ode_journal.specs.Frames.{gate_behind}
use Rattle.ode_value.specs.Keys.{entry_kind}
use Rattle.ode_keep.specs.Entries.{Entries, count_of_kind, record_bytes}
use Rattle.ode_paging.specs.declared.opening.Opened.{Opened}
use Rattle.ode_paging.specs.Indexing.{indexed}
use Rattle.ode_paging.specs.Meaning.{HasMap}

-- under this header the file has these records; the images are those of its journal, which ends there, and each key leads
-- to its page; so many bytes and entries of the queue the records have
pub record OpensAs (header : Header) (file : List ℕ) (opened : Opened) (entries : Entries) : Type 0 where
  pub has : HasMap header file entries
  pub images : opened.images ≡ has.images
  pub journal : opened.journal ≡ record { at = gate_behind header.journal_at has.over.frames; end = header.journal_end }
  pub count : opened.count ≡ length has.pages
  pub leads : opened.index ≡ indexed 0 [] has.pages
  pub bytes : opened.bytes ≡ record_bytes entries
  pub queued : opened.queued ≡ count_of_kind entry_kind entries
