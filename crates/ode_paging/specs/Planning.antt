-- What a commit is to write.
use Rattle.std.specs.Prelude.{◌≡◌, ℕ, List, [], length}
use Rattle.ode_gate.specs.declared.header.Header.{Header}
use Rattle.ode_keep.specs.Entries.{Changes, Entries, applied, count_of_kind, record_bytes}
use Rattle.ode_value.specs.Keys.{entry_kind}
use Rattle.ode_paging.specs.declared.planning.Counts.{Counts}
use Rattle.ode_paging.specs.declared.planning.Plan.{Plan}
use Rattle.ode_paging.specs.Gathering.{gathered}
use Rattle.ode_paging.specs.Images.{Image}
use Rattle.ode_paging.specs.Indexing.{indexed}
use Rattle.ode_paging.specs.Making.{all_pointed}
use Rattle.ode_paging.specs.Overlays.{laid}
use Rattle.ode_paging.specs.Replacing.{ArePages}
use Rattle.ode_paging.specs.Standing.{HavePages, page_count}

-- Once its images are laid over those that there were, the file has other pages, so many. These have the records with the
-- changes of the batch, and the keys lead to them where the moves say.
pub record IsPlanned (header : Header) (images : List Image) (file : List ℕ) (pages : List Entries) (changes : Changes) (plan : Plan) : Type 0 where
  pub now : List Entries
  pub stand : HavePages header (laid plan.images images) file 0 now
  pub count : plan.count ≡ length now
  pub many : length pages ≡ page_count header.body_len images → length now ≡ page_count header.body_len (laid plan.images images)
  pub are : ArePages now
  pub entries : gathered [] now ≡ applied changes (gathered [] pages)
  pub leads : indexed 0 [] now ≡ all_pointed plan.moves.items (indexed 0 [] pages)

-- that is what these records count
pub record IsCountOf (counts : Counts) (entries : Entries) : Type 0 where
  pub bytes : counts.bytes ≡ record_bytes entries
  pub queued : counts.queued ≡ count_of_kind entry_kind entries
