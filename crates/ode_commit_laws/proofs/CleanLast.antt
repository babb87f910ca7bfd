-- The last points of a commit, before and behind what is gone is dropped.
use Rattle.std.proofs.Common.{◌≡◌, ℕ, List, [], ◌∷◌, ◌++◌, Bool, true, false, cond, Option, Some, None, refl, sym, ap, subst, ◌∙◌}
use Rattle.std.specs.Prelude.{is_some}
use Rattle.std.specs.Option.{option_map}
use Rattle.ode_commit_laws.proofs.CleanLists.{kept_at_number}
use Rattle.ode_commit_laws.proofs.CleanWorlds.{fired_at, fired_clean, pointed, world_clean, world_twice}
use Rattle.ode_laws.proofs.AlikePairs.{gentle_numbered}
use Rattle.ode_laws.proofs.AlikeWork.{after_gentle}
use Rattle.ode_laws.proofs.KeptRows.{kept_numbered}
use Rattle.ode_laws.proofs.Rows.{at_numbered, numbered_id}
use Rattle.ode_laws.proofs.Sides.{EndsBy}
use Rattle.ode_laws.specs.Numbered.{AreNumbered}
use Rattle.ode_value.specs.Acts.{Act, Deed, Outcome, Done, Aborted, does, each, found, go_on, reached, sees, when, with_line}
use Rattle.ode_value.specs.Changes.{is_live}
use Rattle.ode_value.specs.Classes.{lists_kind}
use Rattle.ode_value.specs.Denoting.{object_at}
use Rattle.ode_value.specs.Firings.{Place, arises, both_lists, object_after}
use Rattle.ode_value.specs.Keeping.{kept_object, kept_world}
use Rattle.ode_value.specs.Pasts.{Past}
use Rattle.ode_value.specs.Posting.{collects, dropped_text, has_room, is_listed, with_entry}
use Rattle.ode_value.specs.Settling.{arises_last, commit, committed, posted, posts_last, posts_last_listed, says, settled, settled_bones}
use Rattle.ode_value.specs.Texts.{committed_line}
use Rattle.ode_value.specs.Transactions.{Firing, Tx, looking, queueing}
use Rattle.ode_value.specs.Worlds.{Object, World}
use Rattle.ode_value.specs.declared.event.Kind.{Kind}
use Rattle.ode_value.specs.declared.event.Kind.TheVariants.{TCommit}

module _ {O A : Type 0} (past : Past O A) where
  -- two transactions that are the same without what is gone
  pub record IsSame (y x : Tx O A) : Type 0 where
    pub same : committed past y ≡ committed past x
    pub numbered : AreNumbered y.now.bones
    pub numbered_too : AreNumbered x.now.bones

  abbrev Ends : {X : Type 0} → Outcome O A X → Outcome O A X → Type 0
  Ends p q = EndsBy IsSame IsSame p q

  abbrev Alike : {X : Type 0} → Act O A X → Act O A X → Type 0
  Alike a b = (y x : Tx O A) → IsSame y x → Ends (a y) (b x)

  go_alike : {X Y : Type 0} (p q : Outcome O A X) → Ends p q → (f : X → Act O A Y) → ((r : X) → Alike (f r) (f r)) → Ends (go_on p f) (go_on q f)
  go_alike (Done r y) (Done t x) h f rest = subst (λ u. Ends (f r y) (f u x)) h.0 (rest r y x h.1)
  go_alike (Aborted r y) (Aborted t x) h f rest = h
  go_alike (Done r y) (Aborted t x) h f rest = absurd h
  go_alike (Aborted r y) (Done t x) h f rest = absurd h

  when_alike : (b : Bool) (f : Deed O A) → Alike f f → Alike (when b f) (when b f)
  when_alike true f are = are
  when_alike false f are = λ y x r. (refl, r)

  every_alike : {X : Type 0} (f : X → Deed O A) → ((r : X) → Alike (f r) (f r)) → (rs : List X) → Alike (each f rs) (each f rs)
  every_alike f are [] = λ y x r. (refl, r)
  every_alike f are (q ∷ qs) = λ y x r. go_alike (f q y) (f q x) (are q y x r) (λ _. each f qs) (λ _. every_alike f are qs)

  -- ---- objects

  kept_same : (y x : Tx O A) → IsSame y x → (id : ℕ) → option_map kept_object (object_at y.now.bones id) ≡ option_map kept_object (object_at x.now.bones id)
  kept_same y x r id =
      sym (kept_at_number y.now.bones id r.numbered.rising) ∙ ap (λ (z : Tx O A). object_at z.now.bones id) r.same ∙ kept_at_number x.now.bones id r.numbered_too.rising

  collects_alike : (f : Firing) → Alike (collects says true f) (collects says true f)
  collects_alike f y x r = by_room (has_room y) (has_room x) (ap (λ (z : Tx O A). has_room z) r.same) where
    by_room : (b c : Bool) → b ≡ c → Ends (cond b (does (with_entry true f)) (says (dropped_text f)) (queueing y)) (cond c (does (with_entry true f)) (says (dropped_text f)) (queueing x))
    by_room true true e = (refl, record { same = ap (λ (z : Tx O A). with_entry true f (queueing z)) r.same; numbered = r.numbered; numbered_too = r.numbered_too })
    by_room false false e = (refl, record { same = ap (λ (z : Tx O A). with_line (dropped_text f) (queueing z)) r.same; numbered = r.numbered; numbered_too = r.numbered_too })
    by_room true false e = absurd (cc)
    by_room false true e = absurd (cc)

  listed_alike : (id : ℕ) (kind : Kind) → Alike (is_listed id kind) (is_listed id kind)
  listed_alike id kind y x r = by_found (object_at y.now.bones id) (object_at x.now.bones id) (kept_same y x r id) where
    by_found : (o p : Option Object) → option_map kept_object o ≡ option_map kept_object p
        → Ends (go_on (found o y) (λ q. sees (λ b. lists_kind b.classes q.class kind))) (go_on (found p x) (λ q. sees (λ b. lists_kind b.classes q.class kind)))
    by_found (Some a) (Some b) e =
        let it : kept_object a ≡ kept_object b = cc in
        (ap (λ (q : Object). lists_kind y.now.bones.classes q.class kind) it ∙ ap (λ (z : Tx O A). lists_kind z.now.bones.classes b.class kind) r.same, r)
    by_found None None e = (refl, r)
    by_found (Some a) None e = absurd (cc)
    by_found None (Some b) e = absurd (cc)

  module _ (place : Place O A) (kind : Kind) where
    -- ---- a point

    point_by : (id : ℕ) (y x : Tx O A) → IsSame y x → (o q : Object) → object_at y.now.bones id ≡ Some o → object_at x.now.bones id ≡ Some q → kept_object o ≡ kept_object q
        → Ends (Done (fired_at past place kind y.now o) (record y { now = pointed past place kind id (fired_at past place kind y.now o) y.now o }))
        (Done (fired_at past place kind x.now q) (record x { now = pointed past place kind id (fired_at past place kind x.now q) x.now q }))
    point_by id y x r o q at_y at_x same = (
      firings,
      record {
        same = λ i. record (r.same i) { now = nows i };
        numbered = gentle_numbered id (object_after (fired_at past place kind y.now o)) (after_gentle (fired_at past place kind y.now o)) y.now.bones r.numbered;
        numbered_too = gentle_numbered id (object_after (fired_at past place kind x.now q)) (after_gentle (fired_at past place kind x.now q)) x.now.bones r.numbered_too;
      },
    ) where
      there : (z : Tx O A) (u : Object) → object_at z.now.bones id ≡ Some u → u.id ≡ id
      there z u is = numbered_id id z.now.bones.objects u (at_numbered z.now.bones id u is)

      at_own : (z : Tx O A) (u : Object) → object_at z.now.bones id ≡ Some u → object_at z.now.bones u.id ≡ Some u
      at_own z u is = ap (object_at z.now.bones) (there z u is) ∙ is

      firings : fired_at past place kind y.now o ≡ fired_at past place kind x.now q
      firings =
          sym (fired_clean past place kind y.now o (at_own y o at_y) r.numbered)
          ∙ ap (λ (z : Tx O A). fired_at past place kind z.now (kept_object o)) r.same ∙ ap (fired_at past place kind (kept_world x.now)) same
          ∙ fired_clean past place kind x.now q (at_own x q at_x) r.numbered_too

      clean : (z : Tx O A) (u : Object) → object_at z.now.bones id ≡ Some u → AreNumbered z.now.bones → (fs : List Firing)
          → kept_world (pointed past place kind id fs (kept_world z.now) (kept_object u)) ≡ kept_world (pointed past place kind id fs z.now u)
      clean z u is numbered fs =
          subst (λ n. kept_world (pointed past place kind n fs (kept_world z.now) (kept_object u)) ≡ kept_world (pointed past place kind n fs z.now u)) (there z u is)
          (world_clean past place kind z.now u (at_own z u is) numbered fs)

      nows : kept_world (pointed past place kind id (fired_at past place kind y.now o) y.now o) ≡ kept_world (pointed past place kind id (fired_at past place kind x.now q) x.now q)
      nows =
          sym (clean y o at_y r.numbered (fired_at past place kind y.now o))
          ∙ ap (λ (z : Tx O A). kept_world (pointed past place kind id (fired_at past place kind y.now o) z.now (kept_object o))) r.same
          ∙ ap (λ (u : Object). kept_world (pointed past place kind id (fired_at past place kind y.now o) (kept_world x.now) u)) same
          ∙ ap (λ (fs : List Firing). kept_world (pointed past place kind id fs (kept_world x.now) (kept_object q))) firings
          ∙ clean x q at_x r.numbered_too (fired_at past place kind x.now q)

    abbrev pointing : ℕ → Object → Act O A (List Firing)
    pointing id o z = Done (fired_at past place kind z.now o) (record z { now = pointed past place kind id (fired_at past place kind z.now o) z.now o })

    point_alike : (id : ℕ) → Alike (arises past place id kind []) (arises past place id kind [])
    point_alike id y x r = by_found (object_at y.now.bones id) (object_at x.now.bones id) refl refl (kept_same y x r id) where
      by_found : (f g : Option Object) → object_at y.now.bones id ≡ f → object_at x.now.bones id ≡ g → option_map kept_object f ≡ option_map kept_object g
          → Ends (go_on (found f y) (pointing id)) (go_on (found g x) (pointing id))
      by_found (Some o) (Some q) is it e = let one : kept_object o ≡ kept_object q = cc in point_by id y x r o q is it one
      by_found None None is it e = (refl, r)
      by_found (Some o) None is it e = absurd (cc)
      by_found None (Some q) is it e = absurd (cc)

    last_alike : (id : ℕ) → Alike (arises_last past place kind id) (arises_last past place kind id)
    last_alike id y x r =
        go_alike (arises past place id kind [] y) (arises past place id kind [] x) (point_alike id y x r) (each (collects says true)) (every_alike (collects says true) collects_alike)

    listed_last : (id : ℕ) → Alike (posts_last_listed past place kind id) (posts_last_listed past place kind id)
    listed_last id y x r =
        go_alike (is_listed id kind y) (is_listed id kind x) (listed_alike id kind y x r) (λ l. when l (arises_last past place kind id)) (λ l. when_alike l (arises_last past place kind id) (last_alike id))

    some_same : (f g : Option Object) → option_map kept_object f ≡ option_map kept_object g → is_some f ≡ is_some g
    some_same None None e = refl
    some_same (Some o) (Some q) e = refl
    some_same (Some o) None e = absurd (cc)
    some_same None (Some q) e = absurd (cc)

    posts_alike : (id : ℕ) → Alike (posts_last past place kind id) (posts_last past place kind id)
    unfolding posts_last
    posts_alike id y x r =
        subst (λ b. Ends (when (is_live id y) (posts_last_listed past place kind id) (looking (id ∷ []) y)) (when b (posts_last_listed past place kind id) (looking (id ∷ []) x)))
        (some_same (object_at y.now.bones id) (object_at x.now.bones id) (kept_same y x r id))
        (when_alike (is_live id y) (posts_last_listed past place kind id) (listed_last id) (looking (id ∷ []) y) (looking (id ∷ []) x)
        (record { same = ap (looking (id ∷ [])) r.same; numbered = r.numbered; numbered_too = r.numbered_too }))

    reached_same : {X : Type 0} (p q : Outcome O A X) → Ends p q → IsSame (reached p) (reached q)
    reached_same (Done r y) (Done t x) h = h.1
    reached_same (Aborted r y) (Aborted t x) h = h.1
    reached_same (Done r y) (Aborted t x) h = absurd h
    reached_same (Aborted r y) (Done t x) h = absurd h

    pub posted_same : (y x : Tx O A) → IsSame y x → IsSame (posted past place kind y) (posted past place kind x)
    unfolding posted
    posted_same y x r =
        subst (λ ids. IsSame (reached (each (posts_last past place kind) y.touched y)) (reached (each (posts_last past place kind) ids x))) (ap (λ (z : Tx O A). z.touched) r.same)
        (reached_same (each (posts_last past place kind) y.touched y) (each (posts_last past place kind) y.touched x) (every_alike (posts_last past place kind) posts_alike y.touched y x r))

  -- ---- the commit

  abbrev left : Tx O A → World O A
  left z = record z.now { bones = settled_bones z z.now.bones }

  pub commit_same : (y : Tx O A) → AreNumbered y.now.bones → commit past y ≡ settled past (both_lists past) TCommit (committed_line y.first.bones.transaction) y
  commit_same y numbered =
      let line = committed_line y.first.bones.transaction in
      let last = posted_same (both_lists past) TCommit (committed past y) y (record {
        same = ap (λ (w : World O A). record y { now = w }) (world_twice y.now);
        numbered = kept_numbered y.now.bones numbered;
        numbered_too = numbered;
      }) in
      λ i. (left (last.same i), (last.same i).text ++ line)
