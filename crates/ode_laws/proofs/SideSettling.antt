-- Two machines side by side: the last points of a transaction, and its settling.
use Rattle.std.proofs.Common.{◌≡◌, ℕ, Bool, true, false, cond, List, [], ◌∷◌, Option, Some, None, refl, sym, ap, ◌∙◌, subst}
use Rattle.std.specs.Prelude.{is_some}
use Rattle.std.specs.Option.{option_map_or}
use Rattle.ode_value.specs.declared.event.Kind.{Kind}
use Rattle.ode_value.specs.Acts.{Outcome, Done, Aborted, Act, Deed, go_on, does, when, each, sees, found, with_line, reached}
use Rattle.ode_value.specs.Changes.{is_live}
use Rattle.ode_value.specs.Classes.{lists_kind}
use Rattle.ode_value.specs.Denoting.{object_at}
use Rattle.ode_value.specs.Firings.{Place, arises}
use Rattle.ode_value.specs.Pasts.{Past}
use Rattle.ode_value.specs.Posting.{has_room, with_entry, collects, dropped_text, is_listed}
use Rattle.ode_value.specs.Settling.{says, arises_last, posts_last_listed, posts_last, posted}
use Rattle.ode_value.specs.Transactions.{Tx, Firing, footed, looking, queueing}
use Rattle.ode_value.specs.Worlds.{Declared, Object}
use Rattle.ode_laws.proofs.Sides.{EndsBy, Same}
use Rattle.ode_laws.proofs.SidePosting.{room_by}
use Rattle.ode_value.specs.Footprints.{Footprint, with_looks, with_queue}

-- The relation in settling, the place of the last points, and what keeps it.
pub record Settlings (O A P B : Type 0) : Type 1 where
  pub past : Past O A
  pub other : Past P B
  pub classes : List Declared
  pub place : Place O A
  pub other_place : Place P B
  pub Related : Tx O A → Tx P B → Type 0
  pub same : (y : Tx O A) (x : Tx P B) → Related y x → Same classes y x
  pub foot : (y : Tx O A) (x : Tx P B) (change : Footprint → Footprint) → Related y x → Related (footed change y) (footed change x)
  pub line : (y : Tx O A) (x : Tx P B) (line : List ℕ) → Related y x → Related (with_line line y) (with_line line x)
  pub collect : (y : Tx O A) (x : Tx P B) (f : Firing) → Related y x → has_room x ≡ true → Related (with_entry true f y) (with_entry true f x)
  pub point : (y : Tx O A) (x : Tx P B) (id : ℕ) (kind : Kind) → Related y x → EndsBy Related Related (arises past place id kind [] y) (arises other other_place id kind [] x)

module _ {O A P B : Type 0} (s : Settlings O A P B) where
  abbrev Ends : {X : Type 0} → Outcome O A X → Outcome P B X → Type 0
  Ends p q = EndsBy s.Related s.Related p q

  abbrev Alike : {X : Type 0} → Act O A X → Act P B X → Type 0
  Alike a b = (y : Tx O A) (x : Tx P B) → s.Related y x → Ends (a y) (b x)

  go_alike : {X Y : Type 0} (p : Outcome O A X) (q : Outcome P B X) → Ends p q → (f : X → Act O A Y) (g : X → Act P B Y) → ((r : X) → Alike (f r) (g r)) → Ends (go_on p f) (go_on q g)
  go_alike (Done r y) (Done t x) h f g rest = subst (λ u. Ends (f r y) (g u x)) h.0 (rest r y x h.1)
  go_alike (Aborted r y) (Aborted t x) h f g rest = h
  go_alike (Done r y) (Aborted t x) h f g rest = absurd h
  go_alike (Aborted r y) (Done t x) h f g rest = absurd h

  when_alike : (b : Bool) (f : Deed O A) (g : Deed P B) → Alike f g → Alike (when b f) (when b g)
  when_alike true f g are = are
  when_alike false f g are = λ y x r. (refl, r)

  every_alike : {X : Type 0} (f : X → Deed O A) (g : X → Deed P B) → ((r : X) → Alike (f r) (g r)) → (rs : List X) → Alike (each f rs) (each g rs)
  every_alike f g are [] = λ y x r. (refl, r)
  every_alike f g are (q ∷ qs) = λ y x r. go_alike (f q y) (g q x) (are q y x r) (λ _. each f qs) (λ _. each g qs) (λ _. every_alike f g are qs)

  collects_alike : (f : Firing) → Alike (collects says true f) (collects says true f)
  collects_alike f y x r = by_room (has_room y) (has_room x) (room_by s.classes y x (s.same y x r)) refl where
    queued : s.Related (queueing y) (queueing x)
    queued = s.foot y x with_queue r

    by_room : (b c : Bool) → b ≡ c → has_room x ≡ c
        → Ends (cond b (does (with_entry true f)) (says (dropped_text f)) (queueing y)) (cond c (does (with_entry true f)) (says (dropped_text f)) (queueing x))
    by_room true true e room = (refl, s.collect (queueing y) (queueing x) f queued room)
    by_room false false e room = (refl, s.line (queueing y) (queueing x) (dropped_text f) queued)
    by_room true false e room = absurd (cc)
    by_room false true e room = absurd (cc)

  last_alike : (kind : Kind) (id : ℕ) → Alike (arises_last s.past s.place kind id) (arises_last s.other s.other_place kind id)
  last_alike kind id y x r =
      go_alike (arises s.past s.place id kind [] y) (arises s.other s.other_place id kind [] x) (s.point y x id kind r) (each (collects says true)) (each (collects says true))
      (every_alike (collects says true) (collects says true) collects_alike)

  listed_alike : (id : ℕ) (kind : Kind) → Alike (is_listed id kind) (is_listed id kind)
  listed_alike id kind y x r = by_found (object_at y.now.bones id) (object_at x.now.bones id) (ap (λ b. object_at b id) (s.same y x r).bones) where
    tells : {O A : Type 0} → Object → Act O A Bool
    tells o = sees (λ b. lists_kind b.classes o.class kind)

    by_found : (o p : Option Object) → o ≡ p → Ends (go_on (found o y) tells) (go_on (found p x) tells)
    by_found (Some a) (Some b) e =
        let it : a.class ≡ b.class = ap (λ (q : Option Object). option_map_or (λ (c : Object). c.class) q 0) e in
        (ap (λ (c : ℕ). lists_kind y.now.bones.classes c kind) it ∙ ap (λ q. lists_kind q.classes b.class kind) (s.same y x r).bones, r)
    by_found None None e = (refl, r)
    by_found (Some a) None e = absurd (cc)
    by_found None (Some b) e = absurd (cc)

  posts_alike : (kind : Kind) (id : ℕ) → Alike (posts_last s.past s.place kind id) (posts_last s.other s.other_place kind id)
  unfolding posts_last
  posts_alike kind id y x r =
      subst (λ b. Ends (when (is_live id y) (posts_last_listed s.past s.place kind id) (looking (id ∷ []) y)) (when b (posts_last_listed s.other s.other_place kind id) (looking (id ∷ []) x))) (ap (λ b. is_some (object_at b id)) (s.same y x r).bones)
      (when_alike (is_live id y) (posts_last_listed s.past s.place kind id) (posts_last_listed s.other s.other_place kind id) listed (looking (id ∷ []) y) (looking (id ∷ []) x) (s.foot y x (with_looks (id ∷ [])) r))
    where
      listed : Alike (posts_last_listed s.past s.place kind id) (posts_last_listed s.other s.other_place kind id)
      listed v w h =
          go_alike (is_listed id kind v) (is_listed id kind w) (listed_alike id kind v w h) (λ l. when l (arises_last s.past s.place kind id)) (λ l. when l (arises_last s.other s.other_place kind id))
          (λ l. when_alike l (arises_last s.past s.place kind id) (arises_last s.other s.other_place kind id) (last_alike kind id))

  reached_related : {X : Type 0} (p : Outcome O A X) (q : Outcome P B X) → Ends p q → s.Related (reached p) (reached q)
  reached_related (Done r y) (Done t x) h = h.1
  reached_related (Aborted r y) (Aborted t x) h = h.1
  reached_related (Done r y) (Aborted t x) h = absurd h
  reached_related (Aborted r y) (Done t x) h = absurd h

  -- behind the last points
  pub posted_related : (kind : Kind) (y : Tx O A) (x : Tx P B) → s.Related y x → s.Related (posted s.past s.place kind y) (posted s.other s.other_place kind x)
  unfolding posted
  posted_related kind y x r =
      subst (λ ids. s.Related (reached (each (posts_last s.past s.place kind) ids y)) (reached (each (posts_last s.other s.other_place kind) x.touched x))) (sym (s.same y x r).touched)
      (reached_related (each (posts_last s.past s.place kind) x.touched y) (each (posts_last s.other s.other_place kind) x.touched x)
      (every_alike (posts_last s.past s.place kind) (posts_last s.other s.other_place kind) (posts_alike kind) x.touched y x r))
