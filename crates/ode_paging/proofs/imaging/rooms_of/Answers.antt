use Rattle.std.proofs.Common.{◌≡◌, ◌++◌, List, ℕ, ap, ◌∙◌}
use Rattle.ode_keep.specs.Entries.{Entries}
use Rattle.ode_paging.specs.Imaging.{rooms_in}
use Rattle.ode_paging.proofs.Imaged.{all_rooms, one_room}
use Rattle.ode_paging.proofs.imaging.rooms_of.Goals as goal

pub loop-page-init : goal.loop-page-init
loop-page-init c =
    let same : c.into_iter-page-iterator.result ≡ c.args.hand.now.pages.entries = cc in
    ap (λ (l : List (ℕ × ℕ)). l ++ rooms_in c.into_iter-page-iterator.result) c.new-rooms.ensures.items ∙ ap (λ (l : List (ℕ × Entries)). rooms_in l) same

pub loop-page-preserved : goal.loop-page-preserved
loop-page-preserved c =
    one_room c.args.hand.now.pages.entries c.loop-page.page-iterator c.next.new.self c.loop-page.rooms.items c.push.new.self.items c.in-Some.page.now _ c.in-Some.entries.now
    c.loop-page.invariant c.in-Some.ensures.steps c.room.ensures.room c.in_ok-push.ensures.items

pub returns : goal.returns
returns c = all_rooms c.args.hand.now.pages.entries c.loop-page.page-iterator c.loop-page.rooms.items c.loop-page.invariant c.in-None.ensures.steps.0
