-- What a commit has at hand before its first write.
use Rattle.std.specs.Prelude.{◌≡◌, ◌<◌, ◌≤◌, ◌+◌, ◌*◌, ℕ, List, [], length, IsSome}
use Rattle.std.specs.Option.{IfSome}
use Rattle.ode_gate.specs.Changes.{WritesAtMost}
use Rattle.ode_gate.specs.declared.places.TheConstants.{MAX_PAGES, REGION_LEN}
use Rattle.ode_host.specs.View.{View}
use Rattle.ode_journal.specs.Appends.{need_of, room_of}
use Rattle.ode_value.specs.Keys.{entry_kind}
use Rattle.ode_keep.specs.Entries.{Changes, Entries, HasRisingKeys, applied, count_of_kind, record_bytes}
use Rattle.ode_keep.specs.declared.limits.TheConstants.{MAX_PAGED_BYTES}
use Rattle.ode_paging.specs.declared.encode.TheConstants.{MAX_IMAGES}
use Rattle.ode_paging.specs.declared.opening.Opened.{Opened}
use Rattle.ode_paging.specs.declared.planning.Plan.{Plan}
use Rattle.ode_paging.specs.Gathering.{gathered}
use Rattle.ode_paging.specs.Images.{Image, IsPayload, payload_of}
use Rattle.ode_paging.specs.Imaging.{AreImages}
use Rattle.ode_paging.specs.Indexing.{indexed}
use Rattle.ode_paging.specs.Planning.{IsCountOf, IsPlanned}
use Rattle.ode_pagemap.specs.declared.checkpoint.Checkpoint.{Checkpoint}
use Rattle.ode_pagemap.specs.declared.map.PageMap.{PageMap}
use Rattle.ode_pagemap.specs.declared.ready.Ready.{Ready}
use Rattle.ode_pagemap.specs.Cached.{AreAmong}
use Rattle.ode_pagemap.specs.Holding.{PagesHold}
use Rattle.ode_pagemap.specs.Steps.{ChangesRegion, IsOf, Makes, StandUnder, checkpoint_length, images_after}

-- what a frame of these images takes
abbrev pub need_for : List Image → ℕ
need_for images = need_of (payload_of images)

-- the checkpoint has the images of the file, and counts its pages, of which a header may count so many
pub record CountsFor (opened : Opened) (checkpoint : Checkpoint) : Type 0 where
  pub images : checkpoint.images ≡ opened.images
  pub count : checkpoint.count ≡ opened.count
  pub few : checkpoint.count ≤ MAX_PAGES

-- the keeper holds these records, and this is a plan of the changes
pub record IsPlannedFor (keeper : PageMap) (view : View) (entries : Entries) (changes : Changes) (plan : Plan) : Type 0 where
  pub holds : PagesHold keeper view entries
  pub planned : IsPlanned keeper.header keeper.opened.images holds.file holds.opens.has.pages changes plan
  pub counted : IsCountOf plan.counts (applied changes entries)

-- What holds of a plan whatever the host is. The keys of its moves rise, its images are those of its pages, and its full frame
-- spells them and fits an empty region.
pub record IsFormed (plan : Plan) : Type 0 where
  pub rising : HasRisingKeys plan.moves.items
  pub pages : AreImages plan.pages.entries plan.images
  pub few : length plan.images ≤ MAX_IMAGES
  pub payload : IsPayload plan.images plan.frame.payload
  pub full : plan.frame.spare ≡ 0
  pub fits : need_of plan.frame.payload ≤ REGION_LEN
  pub within : plan.counts.bytes ≤ MAX_PAGED_BYTES

-- The frame spells the images of at most two pages for each change. Where it doesn't fit behind the journal, and only there, a
-- checkpoint of the images that there were is due.
pub record IsLeast (older : PageMap) (changes : Changes) (ready : Ready) : Type 0 where
  pub over : List Image
  pub spelled : IsPayload over ready.frame.payload
  pub few : length over ≤ 2 * length changes
  pub due : IfSome ready.due (λ c. (c.images ≡ older.opened.images) × (room_of older.opened.journal < need_of ready.frame.payload))

-- What a commit writes: a frame of the images of at most two pages for each change, in the region of the journal, where it fits
-- there. Else a checkpoint of the images that there were stands in front of it.
pub record WritesLeast (older : PageMap) (changes : Changes) (old new : View) : Type 0 where
  pub over : List Image
  pub payload : List ℕ
  pub spelled : IsPayload over payload
  pub few : length over ≤ 2 * length changes
  pub frame : need_of payload ≤ room_of older.opened.journal → IsSome old.image → new.written ≡ old.written + need_of payload
  pub region : need_of payload ≤ room_of older.opened.journal → (entries : Entries) → (h : PagesHold older old entries)
      → ChangesRegion older.header older.opened.journal h.file new
  pub checkpoint : WritesAtMost (checkpoint_length older.opened.images + need_of payload) old new

-- In memory are these images, and what is to know of these pages, which have these records. Those that are held are among them.
pub record Knows (keeper : PageMap) (images : List Image) (pages : List Entries) (entries : Entries) : Type 0 where
  pub images_are : keeper.opened.images ≡ images
  pub count : keeper.opened.count ≡ length pages
  pub leads : keeper.opened.index ≡ indexed 0 [] pages
  pub map : entries ≡ gathered [] pages
  pub bytes : keeper.opened.bytes ≡ record_bytes entries
  pub queued : keeper.opened.queued ≡ count_of_kind entry_kind entries
  pub cached : AreAmong pages keeper.cache.pages.entries

-- These records still stand on the disk. A frame is at hand that makes the changes, and a checkpoint of them where one is
-- due. In memory the changes are made, behind which the records are within the limit.
pub record IsReady (keeper : PageMap) (view : View) (changes : Changes) (entries : Entries) (ready : Ready) : Type 0 where
  pub images : List Image
  pub over : List Image
  pub pages : List Entries
  pub later : List Entries
  pub stand : StandUnder keeper.header keeper.opened.journal images pages view
  pub map : entries ≡ gathered [] pages
  pub of : IfSome ready.due (λ c. IsOf images pages c)
  pub makes : Makes changes over ready.frame.payload pages later
  pub knows : Knows keeper (images_after ready.due over images) later (applied changes entries)
  pub within : record_bytes (applied changes entries) ≤ MAX_PAGED_BYTES
