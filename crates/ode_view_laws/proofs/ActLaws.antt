-- Objects are touched, made and removed, and firings collected, on the view.
use Rattle.std.proofs.Common.{◌≡◌, ◌==◌, ℕ, ◌+◌, ◌<◌, Bool, true, false, cond, List, [], ◌∷◌, length, map, Option, Some, None, Ok, refl, sym, ap, subst, ◌∙◌, arith}
use Rattle.std.specs.Prelude.{nat_eq, nat_le, ◌||◌, ◌&&◌}
use Rattle.std.specs.List.{AllByRecursion, list_any}
use Rattle.std.proofs.lemmas.Bool.Decides.{nat_tests}
use Rattle.ode_keep.specs.Entries.{Entries}
use Rattle.ode_laws.proofs.AlikePairs.{all_found}
use Rattle.ode_laws.specs.Alike.{NumberTx, NumberWorld}
use Rattle.ode_objects.specs.Values.{are_args}
use Rattle.ode_objects.specs.declared.tracked.Tracked.{Tracked}
use Rattle.ode_overlay.specs.Answers.{Answer, ◌>>=◌}
use Rattle.ode_overlay.specs.Changing.{create, fresh, object_of, remove, remove_with, touch, touch_with}
use Rattle.ode_overlay.specs.Layers.{Layer, generation_of, queueing}
use Rattle.ode_overlay.specs.Settling.{collect, has_room, with_entry}
use Rattle.ode_overlay_laws.proofs.AlteredLaws.{Has, has_found}
use Rattle.ode_overlay_laws.proofs.CollectLaws.{collects_law}
use Rattle.ode_overlay_laws.proofs.MakingLaws.{made_law}
use Rattle.ode_overlay_laws.proofs.ObjectLaws.{removed}
use Rattle.ode_overlay_laws.proofs.TouchLaws.{touched_law}
use Rattle.ode_overlay_laws.specs.Following.{Collects, IsNewNumber, entry_by, joins_first, on_live, tells_new}
use Rattle.ode_overlay_laws.specs.Standing.{IsFresh, Stands, object_as}
use Rattle.ode_value.specs.Acts.{Act, Deed, Outcome, Done, Aborted, ◌>>◌, does, gives, go_on, prints, reached, with_line}
use Rattle.ode_value.specs.Changes.{is_live}
use Rattle.ode_value.specs.Denoting.{object_numbered}
use Rattle.ode_value.specs.Making.{makes, removes}
use Rattle.ode_value.specs.Pasts.{Kept, numbers}
use Rattle.ode_value.specs.Posting as posting
use Rattle.ode_value.specs.Posting.{collects, dropped_text, joins}
use Rattle.ode_value.specs.Tables.{Table}
use Rattle.ode_value.specs.Texts.{new_line}
use Rattle.ode_value.specs.Transactions as transactions
use Rattle.ode_value.specs.Transactions.{Firing, looking}
use Rattle.ode_value.specs.Worlds.{Declared, Object, kept_at}
use Rattle.ode_value.specs.declared.class.Class.{Class}
use Rattle.ode_value.specs.declared.reason.Reason.{Reason}
use Rattle.ode_value.specs.declared.reason.Reason.TheVariants.{NoObject, Output}
use Rattle.ode_value.specs.declared.value.Value.{Value}
use Rattle.ode_view_laws.proofs.DrawnLaws.{AreDrawn, create_leaves, remove_leaves, touch_leaves}
use Rattle.ode_view_laws.proofs.OrderLaws.{join_tidy, makes_tidy, remove_tidy}
use Rattle.ode_view_laws.proofs.ShowLaws.{IsQuiet, draws_shown, ordered_by, shown, view, viewed_then}
use Rattle.ode_view_laws.proofs.ViewLaws.{view_stands}
use Rattle.ode_view_laws.specs.Showing.{IsViewed, Shows, ShowsCollected, ShowsDrawing, StaysViewed}
use Rattle.ode_view_laws.specs.Ordering.{IsOrdered, number_of, row_number}
use Rattle.ode_view_laws.specs.Viewing.{Beside, running, world_now}

-- ---- acts that leave the world as it was

pub gives_quiet : {R : Type 0} → IsQuiet (gives {R = R})
gives_quiet r z = refl

-- a test
abbrev tested : Reason → NumberTx → Bool → Outcome (Unit {0}) ℕ (Unit {0})
tested why z b = cond b (Done tt z) (Aborted why z)

-- a line, and then an answer
pub line_quiet : {S : Type 0} (line : List ℕ) (answer : S) (z : NumberTx) → (reached ((prints line >> gives answer) z)).now ≡ z.now
line_quiet {S} line answer z = by_room (nat_le (length z.text + length line) _) where
  by_room : (b : Bool) → (reached (go_on (go_on (tested Output z b) (λ _. does (with_line line))) (λ _. gives answer))).now ≡ z.now
  by_room true = refl
  by_room false = refl

-- ---- the order of what is on a live object

pub live_tidy : {R : Type 0} (id : ℕ) (act : Act (Unit {0}) ℕ R) → ((y : NumberTx) → IsOrdered y.now → IsOrdered (reached (act y)).now)
    → (y : NumberTx) → IsOrdered y.now → IsOrdered (reached (on_live id act y)).now
live_tidy {R} id act tidy y h = by_live (is_live id y) where
  by_live : (b : Bool) → IsOrdered (reached (go_on (tested (NoObject id) y b) (λ _. act))).now
  by_live true = tidy y h
  by_live false = h

first_tidy : (id : ℕ) (y : NumberTx) → IsOrdered y.now → IsOrdered (reached (joins_first id y)).now
first_tidy id y h = by_touched (posting.is_touched id y) where
  by_joined : (o : Outcome (Unit {0}) ℕ (Unit {0})) → IsOrdered (reached o).now → IsOrdered (reached (go_on o (λ _. gives true))).now
  by_joined (Done u z) ordered = ordered
  by_joined (Aborted why z) ordered = ordered

  joined : IsOrdered (reached ((joins id >> gives true) y)).now
  joined = by_joined (joins id y) (join_tidy id y h)

  by_touched : (b : Bool) → IsOrdered (reached (cond b (gives false) (joins id >> gives true) y)).now
  by_touched true = h
  by_touched false = joined

-- ---- no object has the next number

none_numbered : (next : ℕ) (os : List Object) → AllByRecursion (λ (o : Object). o.id < next) os → object_numbered next os ≡ None
none_numbered next [] all = refl
none_numbered next (o ∷ os) all =
    let less : o.id < next = all.0 in
    let other : (o.id == next) ≡ false = grind (arith, nat_tests) in
    ap (λ b. cond b (Some o) (object_numbered next os)) other ∙ none_numbered next os all.1

numbers_drawn : (next : ℕ) (os : List Object) → AllByRecursion (λ (o : Object). o.id < next) os → AllByRecursion (λ n. n < next) (map number_of os)
numbers_drawn next [] all = tt
numbers_drawn next (o ∷ os) all = (all.0, numbers_drawn next os all.1)

none_kept : (next : ℕ) (rows : List (ℕ × Kept (Unit {0}) ℕ)) → AllByRecursion (λ n. n < next) (map row_number rows) → kept_at next rows ≡ None
none_kept next [] all = refl
none_kept next (row ∷ rows) all =
    let less : row.0 < next = all.0 in
    let other : (row.0 == next) ≡ false = grind (arith, nat_tests) in
    ap (λ b. cond b (Some row.1) (kept_at next rows)) other ∙ none_kept next rows all.1

none_touched : (next : ℕ) (ids : List ℕ) → AllByRecursion (λ id. id < next) ids → list_any (nat_eq next) ids ≡ false
none_touched next [] all = refl
none_touched next (id ∷ ids) all =
    let less : id < next = all.0 in
    let other : nat_eq next id ≡ false = grind (arith, nat_tests) in
    ap (λ b. b || list_any (nat_eq next) ids) other ∙ none_touched next ids all.1

module _ (classes : List Declared) (first : NumberWorld) (beside : Beside) (x : Layer) (viewed : IsViewed first x) where
  abbrev y : NumberTx
  y = running classes first x beside

  stands : Stands x y
  stands = view_stands classes first x beside viewed.over

  ordered : IsOrdered (world_now classes first x)
  ordered = ordered_by first.bones.classes classes first x viewed.now

  ordered_y : IsOrdered y.now
  ordered_y = ordered

  next_same : y.now.bones.next ≡ x.next
  next_same = stands.next

  pub is_new : IsNewNumber x y x.next
  is_new =
      let drawn : AllByRecursion (λ (o : Object). o.id < x.next) y.now.bones.objects = subst (λ n. AllByRecursion (λ (o : Object). o.id < n) y.now.bones.objects) next_same ordered_y.drawn in
      record {
        object = none_numbered x.next y.now.bones.objects drawn;
        kept = none_kept x.next y.now.pasts (subst (AllByRecursion (λ n. n < x.next)) (sym ordered_y.rows) (numbers_drawn x.next y.now.bones.objects drawn));
        touched = none_touched x.next x.touched viewed.touched;
      }

  -- an object that is tracked, or was read, was drawn
  pub was_drawn : (id : ℕ) (new : Option Tracked) → IsFresh x y id new → (t : Tracked) → object_of new id x ≡ Some t → id < x.next
  was_drawn id new is t at =
      let has : Has y id (Some t) = subst (Has y id) at (has_found x y id new stands is) in
      let less : id < y.now.bones.next = all_found (λ (o : Object). o.id < y.now.bones.next) id y.now.bones.objects ordered_y.drawn (object_as id t.current) has.object in
      subst (λ n. id < n) next_same less

  -- ---- what is read first

  module _ (declared : List Class) (base : Entries) (id : ℕ) (new : Option Tracked) (read : fresh declared base id x ≡ Ok new) (is : IsFresh x y id new) where
    pub behind_read : {R S : Type 0} (next : R → Act (Unit {0}) ℕ S) (with : Option Tracked → Answer (R × Layer)) (outcome : Outcome (Unit {0}) ℕ S)
        → Shows (view classes first beside) next x (with new) outcome × StaysViewed first (with new)
        → Shows (view classes first beside) next x (fresh declared base id x >>= with) outcome × StaysViewed first (fresh declared base id x >>= with)
    behind_read {R} {S} next with outcome h =
        subst (λ (a : Answer (Option Tracked)). Shows (view classes first beside) next x (a >>= with) outcome × StaysViewed first (a >>= with)) (sym read) h

    -- the same of a call that draws a number
    pub behind_drawing : {R S : Type 0} (next : R → Act (Unit {0}) ℕ S) (with : Option Tracked → Answer (R × Layer)) (outcome : Outcome (Unit {0}) ℕ S)
        → ShowsDrawing (view classes first beside) next x (with new) outcome × StaysViewed first (with new)
        → ShowsDrawing (view classes first beside) next x (fresh declared base id x >>= with) outcome × StaysViewed first (fresh declared base id x >>= with)
    behind_drawing {R} {S} next with outcome h =
        subst (λ (a : Answer (Option Tracked)). ShowsDrawing (view classes first beside) next x (a >>= with) outcome × StaysViewed first (a >>= with)) (sym read) h

    pub touch_shows : Shows (view classes first beside) gives x (touch declared base id x) (on_live id (joins_first id) y) × StaysViewed first (touch declared base id x)
    unfolding touch
    touch_shows =
        behind_read gives (λ t. touch_with t id x) (on_live id (joins_first id) y)
        (shown classes first beside x gives (on_live id (joins_first id)) viewed (live_tidy id (joins_first id) (first_tidy id)) gives_quiet (touch_with new id x)
        (touch_leaves new x viewed.touched id (was_drawn id new is)) (touched_law x y id new stands is))

    pub remove_shows : Shows (view classes first beside) gives x (remove declared base id x) (on_live id (removes id) y) × StaysViewed first (remove declared base id x)
    unfolding remove
    remove_shows =
        behind_read gives (λ t. remove_with t id x) (on_live id (removes id) y)
        (shown classes first beside x gives (on_live id (removes id)) viewed (live_tidy id (removes id) (remove_tidy id)) gives_quiet (remove_with new id x)
        (remove_leaves new x viewed.touched id) (removed x y id new stands is))

  -- ---- a new object

  pub create_shows : (tables : ℕ → ℕ → Table) (class : ℕ) (fields : List Value)
      → ShowsDrawing (view classes first beside) tells_new x (create class fields x) (makes (numbers tables) class fields y) × StaysViewed first (create class fields x)
  create_shows tables class fields =
      draws_shown classes first beside x tells_new (makes (numbers tables) class fields) viewed (makes_tidy tables class fields) (λ n z. line_quiet (new_line n) n (looking (n ∷ []) z)) (create class fields x)
      (create_leaves class fields x viewed.touched) (made_law tables class fields x y stands is_new)

  -- ---- firings

  -- behind the mark that it met the queue
  queued_viewed : IsViewed first (queueing x)
  unfolding world_now
  queued_viewed = record {
    over = record { counters = viewed.over.counters; queued = viewed.over.queued };
    began = viewed.began;
    now = record { rising = viewed.now.rising; drawn = viewed.now.drawn; rows = viewed.now.rows };
    touched = viewed.touched;
  }

  queued_view : view classes first beside (queueing x) ≡ transactions.queueing y
  unfolding world_now
  queued_view = refl

  module _ (says : List ℕ → Deed (Unit {0}) ℕ) (tidy : (line : List ℕ) → IsOrdered (reached (says line (transactions.queueing y))).now) (independent : Bool) (f : Firing) (kept : are_args f.args ≡ true) where
    abbrev now : Layer
    now = (collect (entry_by (generation_of x.origin + 1) f) independent x).1

    room_tidy : (b : Bool) → IsOrdered (reached (cond b (does (posting.with_entry independent f)) (says (dropped_text f)) (transactions.queueing y))).now
    room_tidy true = ordered_y
    room_tidy false = tidy (dropped_text f)

    drawn_then : (b : Bool) → AreDrawn (cond {A = Bool × Layer} b (true, with_entry (entry_by (generation_of x.origin + 1) f) independent (queueing x)) (false, queueing x)).1
    drawn_then true = viewed.touched
    drawn_then false = viewed.touched

    drawn_now : AreDrawn now
    unfolding collect
    drawn_now = drawn_then (has_room x && are_args f.args)

    same_then : (b : Bool) → (let c : Bool × Layer = cond b (true, with_entry (entry_by (generation_of x.origin + 1) f) independent (queueing x)) (false, queueing x) in c.0 ≡ false → c.1 ≡ queueing x)
    same_then true is = absurd (cc)
    same_then false is = refl

    same_now : (collect (entry_by (generation_of x.origin + 1) f) independent x).0 ≡ false → now ≡ queueing x
    unfolding collect
    same_now = same_then (has_room x && are_args f.args)

    by_room : (b : Bool) → (collect (entry_by (generation_of x.origin + 1) f) independent x).0 ≡ b
        → Collects b now y (says (dropped_text f) (transactions.queueing y)) (collects says independent f y)
        → ShowsCollected b (view classes first beside) now y (says (dropped_text f) (transactions.queueing y)) (collects says independent f y) × IsViewed first now
    by_room true is c =
        let z = c.0 in
        let ends : IsOrdered z.now = subst (λ (o : Outcome (Unit {0}) ℕ (Unit {0})). IsOrdered (reached o).now) c.1.1.1 (room_tidy (posting.has_room y)) in
        let then = viewed_then classes first beside x now z viewed drawn_now c.1.0 c.1.1.0 ends in
        (c.1.1.1 ∙ ap (Done tt) then.0, then.1)
    by_room false is c = ((ap (view classes first beside) (same_now is) ∙ queued_view, c.1), subst (IsViewed first) (sym (same_now is)) queued_viewed)

    pub collect_shows : let e = entry_by (generation_of x.origin + 1) f in
        ShowsCollected (collect e independent x).0 (view classes first beside) (collect e independent x).1 y (says (dropped_text f) (transactions.queueing y)) (collects says independent f y) × IsViewed first (collect e independent x).1
    collect_shows = by_room (collect (entry_by (generation_of x.origin + 1) f) independent x).0 refl (collects_law x y stands says independent f kept)
