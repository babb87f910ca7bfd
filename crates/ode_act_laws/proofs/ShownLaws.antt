-- Versions and activations change on the view as in the machine.
use Rattle.std.proofs.Common.{◌≡◌, ◌+◌, ℕ, pos, Bool, true, false, cond, length, List, [], Option, Ok, refl}
use Rattle.std.specs.Prelude.{nat_le}
use Rattle.ode_activation_laws.specs.Switching.{tells_line, tells_value}
use Rattle.ode_keep.specs.Entries.{Entries}
use Rattle.ode_laws.specs.Alike.{NumberTx, NumberWorld}
use Rattle.ode_objects.specs.declared.tracked.Tracked.{Tracked}
use Rattle.ode_overlay.specs.Changing.{activate, activate_with, deactivate, deactivate_with, derive, drop_version, fresh, write}
use Rattle.ode_overlay.specs.Layers.{Layer}
use Rattle.ode_overlay_laws.specs.Following.{Follows, FollowsDrawing, on_live}
use Rattle.ode_overlay_laws.specs.Standing.{IsFresh}
use Rattle.ode_value.specs.Acts.{Outcome, Done, Aborted, does, gives, go_on, prints, reached, with_line}
use Rattle.ode_value.specs.Classes.{Trigger}
use Rattle.ode_value.specs.Making.{derives, drops, sets_field}
use Rattle.ode_value.specs.Pasts.{numbers}
use Rattle.ode_value.specs.Statements.{activates_initial, switches_off_numbered, switches_on_named}
use Rattle.ode_value.specs.Tables.{Table}
use Rattle.ode_value.specs.Texts.{active_line, version_line}
use Rattle.ode_value.specs.Worlds.{Declared}
use Rattle.ode_value.specs.declared.class.Class.{Class}
use Rattle.ode_value.specs.declared.reason.Reason.TheVariants.{Output}
use Rattle.ode_value.specs.declared.value.Ref.{Ref}
use Rattle.ode_value.specs.declared.value.Value.{Value}
use Rattle.ode_value.specs.declared.value.Value.TheVariants as value
use Rattle.ode_version_laws.specs.Denoting.{tells_version}
use Rattle.ode_view_laws.proofs.ActLaws.{behind_drawing, behind_read, gives_quiet, line_quiet, live_tidy}
use Rattle.ode_view_laws.proofs.DrawnLaws.{AreDrawn, Leaves, activate_leaves, deactivate_leaves, derive_leaves, drop_leaves, leaves_then, write_leaves}
use Rattle.ode_view_laws.proofs.OrderLaws.{derive_tidy, drop_tidy, initial_tidy, named_tidy, off_tidy, set_tidy}
use Rattle.ode_view_laws.proofs.ShowLaws.{draws_shown, shown, view}
use Rattle.ode_view_laws.specs.Showing.{IsViewed, Shows, ShowsDrawing, StaysViewed}
use Rattle.ode_view_laws.specs.Viewing.{Beside, running}

-- a line alone leaves the world as it was
abbrev tested : NumberTx → Bool → Outcome (Unit {0}) ℕ (Unit {0})
tested z b = cond b (Done tt z) (Aborted Output z)

pub line_alone : (line : List ℕ) (z : NumberTx) → (reached (prints line z)).now ≡ z.now
line_alone line z = by_room (nat_le (length z.text + length line) _) where
  by_room : (b : Bool) → (reached (go_on (tested z b) (λ _. does (with_line line)))).now ≡ z.now
  by_room true = refl
  by_room false = refl

-- ---- touched numbers were drawn

module _ (declared : List Class) (base : Entries) (x : Layer) (drawn : AreDrawn x) where
  derive_all : (r : Ref) → Leaves (derive declared base r x)
  unfolding derive
  derive_all r = search (leaves_then, derive_leaves, drawn)

  drop_all : (r : Ref) → Leaves (drop_version declared base r x)
  unfolding drop_version
  drop_all r = search (leaves_then, drop_leaves, drawn)

  write_all : (r : Ref) (slot : ℕ) (v : Value) → Leaves (write declared base r slot v x)
  unfolding write
  write_all r slot v = search (leaves_then, write_leaves, drawn)

module _ (classes : List Declared) (first : NumberWorld) (beside : Beside) (x : Layer) (viewed : IsViewed first x) where
  abbrev y : NumberTx
  y = running classes first x beside

  abbrev now : Layer → NumberTx
  now = view classes first beside

  -- ---- versions

  pub derive_shown : (declared : List Class) (base : Entries) (r : Ref) → Follows y tells_version (derive declared base r x) (derives r y)
      → Shows now tells_version x (derive declared base r x) (derives r y) × StaysViewed first (derive declared base r x)
  derive_shown declared base r follows =
      shown classes first beside x tells_version (derives r) viewed (derive_tidy r) (λ n z. line_quiet (version_line n) n z) (derive declared base r x)
      (derive_all declared base x viewed.touched r) follows

  pub drop_shown : (declared : List Class) (base : Entries) (r : Ref) → Follows y gives (drop_version declared base r x) (drops r y)
      → Shows now gives x (drop_version declared base r x) (drops r y) × StaysViewed first (drop_version declared base r x)
  drop_shown declared base r follows =
      shown classes first beside x gives (drops r) viewed (drop_tidy r) gives_quiet (drop_version declared base r x) (drop_all declared base x viewed.touched r) follows

  pub write_shown : (declared : List Class) (base : Entries) (r : Ref) (slot : ℕ) (v : Value) → Follows y gives (write declared base r slot v x) (sets_field r slot v y)
      → Shows now gives x (write declared base r slot v x) (sets_field r slot v y) × StaysViewed first (write declared base r slot v x)
  write_shown declared base r slot v follows =
      shown classes first beside x gives (sets_field r slot v) viewed (set_tidy r slot v) gives_quiet (write declared base r slot v x) (write_all declared base x viewed.touched r slot v) follows

  -- ---- activations

  module _ (declared : List Class) (base : Entries) (id : ℕ) (new : Option Tracked) (read : fresh declared base id x ≡ Ok new) (is : IsFresh x y id new) where
    pub initial_shown : (tables : ℕ → ℕ → Table) (t : Trigger) → FollowsDrawing y tells_line (activate_with new id t.class t.place [] x) (on_live id (activates_initial (numbers tables) id t) y)
        → ShowsDrawing now tells_line x (activate declared base id t.class t.place [] x) (on_live id (activates_initial (numbers tables) id t) y)
        × StaysViewed first (activate declared base id t.class t.place [] x)
    unfolding activate
    initial_shown tables t follows =
        behind_drawing classes first beside x viewed declared base id new read is tells_line (λ o. activate_with o id t.class t.place [] x) (on_live id (activates_initial (numbers tables) id t) y)
        (draws_shown classes first beside x tells_line (on_live id (activates_initial (numbers tables) id t)) viewed (live_tidy id (activates_initial (numbers tables) id t) (initial_tidy tables id t))
        (λ n z. line_alone (active_line n) z) (activate_with new id t.class t.place [] x) (activate_leaves new x viewed.touched id t.class t.place []) follows)

  pub named_shown : (declared : List Class) (base : Entries) (r : Ref) (new : Option Tracked) (read : fresh declared base r.object x ≡ Ok new) (is : IsFresh x y r.object new)
      (tables : ℕ → ℕ → Table) (name : List ℕ) (t : Trigger) (args : List Value)
      → FollowsDrawing y tells_value (activate_with new r.object t.class t.place args x) (switches_on_named (numbers tables) r name args y)
      → ShowsDrawing now tells_value x (activate declared base r.object t.class t.place args x) (switches_on_named (numbers tables) r name args y)
      × StaysViewed first (activate declared base r.object t.class t.place args x)
  unfolding activate
  named_shown declared base r new read is tables name t args follows =
      behind_drawing classes first beside x viewed declared base r.object new read is tells_value (λ o. activate_with o r.object t.class t.place args x) (switches_on_named (numbers tables) r name args y)
      (draws_shown classes first beside x tells_value (switches_on_named (numbers tables) r name args) viewed (named_tidy tables r name args)
      (λ n z. line_quiet (active_line n) (value.Int (pos n)) z) (activate_with new r.object t.class t.place args x) (activate_leaves new x viewed.touched r.object t.class t.place args) follows)

  pub off_shown : (declared : List Class) (base : Entries) (r : Ref) (number : ℕ) (new : Option Tracked) (read : fresh declared base r.object x ≡ Ok new) (is : IsFresh x y r.object new)
      (tables : ℕ → ℕ → Table)
      → Follows y gives (deactivate_with new r.object number x) (on_live r.object (switches_off_numbered (numbers tables) r (value.Int (pos number))) y)
      → Shows now gives x (deactivate declared base r.object number x) (on_live r.object (switches_off_numbered (numbers tables) r (value.Int (pos number))) y)
      × StaysViewed first (deactivate declared base r.object number x)
  unfolding deactivate
  off_shown declared base r number new read is tables follows =
      behind_read classes first beside x viewed declared base r.object new read is gives (λ o. deactivate_with o r.object number x)
      (on_live r.object (switches_off_numbered (numbers tables) r (value.Int (pos number))) y)
      (shown classes first beside x gives (on_live r.object (switches_off_numbered (numbers tables) r (value.Int (pos number)))) viewed
      (live_tidy r.object (switches_off_numbered (numbers tables) r (value.Int (pos number))) (off_tidy tables r (value.Int (pos number)))) gives_quiet (deactivate_with new r.object number x)
      (deactivate_leaves new x viewed.touched r.object number) follows)
