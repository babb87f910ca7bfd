-- An act that the overlay follows leads from its view to its view.
use Rattle.std.proofs.Common.{◌≡◌, ℕ, List, length, Ok, Err, refl, ap, subst, ◌∙◌}
use Rattle.ode_heap.specs.Answering.{counters_of}
use Rattle.ode_laws.specs.Alike.{NumberTx, NumberWorld}
use Rattle.ode_overlay.specs.Answers.{Answer}
use Rattle.ode_overlay.specs.Changing.{left_by}
use Rattle.ode_overlay.specs.Layers.{Layer}
use Rattle.ode_overlay.specs.declared.error.OverlayError.{OverlayError}
use Rattle.ode_overlay.specs.declared.error.OverlayError.TheVariants as error
use Rattle.ode_overlay_laws.specs.Following.{Continues, Follows, FollowsDrawing, drawn_by}
use Rattle.ode_value.specs.Acts.{Act, Aborted, reached}
use Rattle.ode_value.specs.Posting.{waiting}
use Rattle.ode_value.specs.Worlds.{Declared}
use Rattle.ode_overlay_laws.specs.Standing.{Stands, origin_as}
use Rattle.ode_view_laws.proofs.DrawnLaws.{AreDrawn, Leaves}
use Rattle.ode_view_laws.proofs.ViewLaws.{continued_view}
use Rattle.ode_view_laws.specs.Showing.{IsViewed, Shows, ShowsDrawing, StaysViewed}
use Rattle.ode_view_laws.specs.Ordering.{IsOrdered}
use Rattle.ode_view_laws.specs.Viewing.{Beside, running, world_now}

-- other classes change no order
pub ordered_by : (classes other : List Declared) (first : NumberWorld) (x : Layer) → IsOrdered (world_now classes first x) → IsOrdered (world_now other first x)
unfolding world_now
ordered_by classes other first x h = record { rising = h.rising; drawn = h.drawn; rows = h.rows }

-- acts that end so leave the world as it was
abbrev pub IsQuiet : {R S : Type 0} → (R → Act (Unit {0}) ℕ S) → Type 0
IsQuiet {R} next = (r : R) (z : NumberTx) → (reached (next r z)).now ≡ z.now

module _ (classes : List Declared) (first : NumberWorld) (beside : Beside) where
  abbrev pub view : Layer → NumberTx
  view x = running classes first x beside

  -- what continues the view of an overlay is the view of the one for which it stands, and what was known of the first is known of the other
  pub viewed_then : (x x' : Layer) (z : NumberTx) → IsViewed first x → AreDrawn x' → Stands x' z → Continues (view x) z → IsOrdered z.now → (z ≡ view x') × IsViewed first x'
  viewed_then x x' z viewed drawn stands on behind =
      let one : z ≡ view x' = continued_view classes first x beside viewed.began x' z stands behind on in
      let now : IsOrdered (world_now classes first x') = subst (λ (y : NumberTx). IsOrdered y.now) one behind in (
        one,
        record {
          over = record {
            counters = stands.counters ∙ ap (λ (w : NumberWorld). counters_of w.bones) on.first;
            queued = stands.queued ∙ ap (λ o. length (waiting o z.first.bones.queue)) stands.origin ∙ ap (λ (w : NumberWorld). length (waiting (origin_as x'.origin) w.bones.queue)) on.first;
          };
          began = viewed.began;
          now = ordered_by classes first.bones.classes first x' now;
          touched = drawn;
        },
      )

  -- what a call that draws a number leaves at an error, on the view
  left_view : (why : OverlayError) (x : Layer) → drawn_by why (view x) ≡ view (left_by why x)
  unfolding world_now
  left_view (error.NoObject id) x = refl
  left_view (error.NoVersion r) x = refl
  left_view (error.LastVersion id) x = refl
  left_view error.TooManyChanges x = refl
  left_view error.TooLong x = refl
  left_view error.NoNumber x = refl
  left_view error.Memory x = refl
  left_view error.DiskFault x = refl
  left_view (error.Damaged key) x = refl

  module _ {R S : Type 0} (x : Layer) (next : R → Act (Unit {0}) ℕ S) (act : Act (Unit {0}) ℕ S) (viewed : IsViewed first x)
      (tidy : (y : NumberTx) → IsOrdered y.now → IsOrdered (reached (act y)).now) (quiet : IsQuiet next) where
    pub shown : (answer : Answer (R × Layer)) → Leaves answer → Follows (view x) next answer (act (view x)) → Shows view next x answer (act (view x)) × StaysViewed first answer
    shown (Err why) drawn follows = (follows, tt)
    shown (Ok done) drawn follows =
        let z = follows.0 in
        let is = follows.1.1.1 in
        let before : IsOrdered (view x).now = ordered_by first.bones.classes classes first x viewed.now in
        let ends : IsOrdered (reached (next done.0 z)).now = subst (λ o. IsOrdered (reached o).now) is (tidy (view x) before) in
        let behind : IsOrdered z.now = subst IsOrdered (quiet done.0 z) ends in
        let then = viewed_then x done.1 z viewed drawn follows.1.0 follows.1.1.0 behind in
        (is ∙ ap (next done.0) then.0, then.1)

    pub draws_shown : (answer : Answer (R × Layer)) → Leaves answer → FollowsDrawing (view x) next answer (act (view x)) → ShowsDrawing view next x answer (act (view x)) × StaysViewed first answer
    draws_shown (Err why) drawn follows = ((follows.0, (follows.1.0, follows.1.1 ∙ ap (λ (z : NumberTx). Aborted follows.0 z) (left_view why x))), tt)
    draws_shown (Ok done) drawn follows = shown (Ok done) drawn follows
