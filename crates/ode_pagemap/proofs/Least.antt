-- A commit writes no more than it must.
use Rattle.std.proofs.Common.{◌≡◌, ◌<◌, ◌≤◌, ◌+◌, ◌*◌, ℕ, List, Bor, Option, Some, None, length, refl, ◌∙◌, ap, subst, arith}
use Rattle.std.specs.Prelude.{MatchOption, OnOk, Result, Ok, Err}
use Rattle.std.specs.Option.{IfSome, option_copied}
use Rattle.ode_gate.specs.Changes.{WritesAtMost}
use Rattle.ode_gate.specs.declared.header.Header.{Header}
use Rattle.ode_host.specs.Host.{Looks, Puts}
use Rattle.ode_host.specs.View.{View}
use Rattle.ode_host.proofs.Moments.{stands_looks}
use Rattle.ode_journal.specs.Appends.{need_of, room_of}
use Rattle.ode_journal.specs.declared.journal.Journal.{Journal}
use Rattle.ode_keep.specs.Entries.{Changes, Entries}
use Rattle.ode_paging.specs.Images.{Image, payload_of}
use Rattle.ode_paging.specs.declared.planning.Plan.{Plan}
use Rattle.ode_pagemap.specs.Ready.{CountsFor, IsFormed, IsLeast, WritesLeast, need_for}
use Rattle.ode_pagemap.specs.Steps.{ChangesRegion, StandUnder, bytes_before, checkpoint_length}
use Rattle.ode_pagemap.specs.declared.checkpoint.Checkpoint.{Checkpoint}
use Rattle.ode_pagemap.specs.declared.map.PageMap.{PageMap}
use Rattle.ode_pagemap.specs.declared.ready.Ready.{Ready}
use Rattle.ode_pagemap.proofs.Under.{in_of}

module _ (keeper : PageMap) (plan : Plan) (formed : IsFormed plan) where
  due_least : (due : Option Checkpoint) → IfSome due (λ c. CountsFor keeper.opened c)
      → MatchOption due (need_for plan.images ≤ room_of keeper.opened.journal) (λ _. room_of keeper.opened.journal < need_for plan.images)
      → IfSome due (λ c. (c.images ≡ keeper.opened.images) × (room_of keeper.opened.journal < need_of plan.frame.payload))
  due_least None counts room = tt
  due_least (Some c) counts room =
      let long : length plan.frame.payload ≡ length (payload_of plan.images) = ap length formed.payload.spelled in
      (counts.images, omega (arith, long, room))

  -- what a plan makes ready is the least
  pub least_of : (changes : Changes) (due : Option Checkpoint) → length plan.images ≤ 2 * length changes → IfSome due (λ c. CountsFor keeper.opened c)
      → MatchOption due (need_for plan.images ≤ room_of keeper.opened.journal) (λ _. room_of keeper.opened.journal < need_for plan.images)
      → IsLeast keeper changes (record { frame = plan.frame; due = due })
  least_of changes due few counts room = record { over = plan.images; spelled = formed.payload; few = few; due = due_least due counts room }

-- what is lent is there where the thing is
pub none_lent : {A : Type 0} (lent : Option (Bor A)) (o : Option A) → option_copied lent ≡ o → o ≡ None → lent ≡ None
none_lent None o same none = refl
none_lent (Some x) o same none = absurd (cc (same, none))

none_due : (due : Option Checkpoint) (older : PageMap) (need : ℕ) → IfSome due (λ c. (c.images ≡ older.opened.images) × (room_of older.opened.journal < need)) → need ≤ room_of older.opened.journal → due ≡ None
none_due None older need needed fits = refl
none_due (Some c) older need needed fits = absurd (omega (arith, needed.1, fits))

few_before : (due : Option Checkpoint) (older : PageMap) (need : ℕ) → IfSome due (λ c. (c.images ≡ older.opened.images) × (room_of older.opened.journal < need))
    → bytes_before due ≤ checkpoint_length older.opened.images
few_before None older need needed = omega arith
few_before (Some c) older need needed = let same : length c.images ≡ length older.opened.images = ap (λ (l : List Image). length l) needed.0 in omega (arith, same)

-- the writes of what is ready
module _ (older mid : PageMap) (changes : Changes) (old seen new : View) (ready : Ready) (least : IsLeast older changes ready) (header : mid.header ≡ older.header)
    (journal : mid.opened.journal ≡ older.opened.journal) (looks : Looks old seen) where
  abbrev Region : Header → Journal → Type 0
  Region h place = (images : List Image) (pages : List Entries) → (stand : StandUnder h place images pages seen) → ChangesRegion h place stand.file new

  writes_least : (ready.due ≡ None → Region mid.header mid.opened.journal) → (ready.due ≡ None → Puts (need_of ready.frame.payload) seen new)
      → WritesAtMost (bytes_before ready.due + need_of ready.frame.payload) seen new → WritesLeast older changes old new
  writes_least region puts most =
      let need = need_of ready.frame.payload in
      let own : ready.due ≡ None → Region older.header older.opened.journal =
      λ none. subst (λ (h : Header). Region h older.opened.journal) header (subst (λ (place : Journal). Region mid.header place) journal (region none)) in
      record {
        over = least.over;
        payload = ready.frame.payload;
        spelled = least.spelled;
        few = least.few;
        frame = λ fits told.
            (puts (none_due ready.due older need least.due fits)).written (looks.keeps.told told) ∙ ap (λ (n : ℕ). n + need) (looks.written told);
        region = λ fits entries h.
            own (none_due ready.due older need least.due fits) older.opened.images h.opens.has.pages
            (record { file = h.file; stands = stands_looks h.file old seen looks h.journal.stands; counts = h.counts; has = in_of older old entries h });
        checkpoint = λ told. omega (arith, most (looks.keeps.told told), looks.written told, few_before ready.due older need least.due);
      }

  pub all_least : {T E : Type 0} (r : Result T E) → (ready.due ≡ None → OnOk r (Region mid.header mid.opened.journal)) → (ready.due ≡ None → OnOk r (Puts (need_of ready.frame.payload) seen new))
      → OnOk r (WritesAtMost (bytes_before ready.due + need_of ready.frame.payload) seen new) → OnOk r (WritesLeast older changes old new)
  all_least (Ok x) region puts most = writes_least region puts most
  all_least (Err e) region puts most = tt
