-- The world that a settled transaction leaves follows the one that it began in.
use Rattle.std.proofs.Common.{◌≡◌, ℕ, ◌<◌, ◌≤◌, Bool, true, false, cond, List, [], ◌∷◌, map, ◌==◌, Option, Some, None, refl, sym, ap, ◌∙◌, subst, arith}
use Rattle.std.specs.List.{AllByRecursion, filter, find}
use Rattle.std.specs.Option.{IfNone, MatchOption, option_map_or}
use Rattle.std.proofs.lemmas.Bool.{eq-eqb}
use Rattle.ode_value.specs.declared.event.Kind.{Kind}
use Rattle.ode_value.specs.declared.event.Kind.TheVariants.{TCommit, TAbort}
use Rattle.ode_value.specs.declared.reason.Reason.{Reason}
use Rattle.ode_value.specs.Acts.{Outcome, Done, Aborted, Act, Deed, go_on, ◌>>=◌, ◌>>◌, gives, reads, turns, found, with_line}
use Rattle.ode_value.specs.Changes.{alters_object}
use Rattle.ode_value.specs.Completing.{completes}
use Rattle.ode_value.specs.Denoting.{object_at, object_numbered}
use Rattle.ode_value.specs.Firings.{new_point, object_after, Place, both_lists, whole_list, with_point, fired, arises}
use Rattle.ode_value.specs.GoodWorlds.{RiseFrom}
use Rattle.ode_value.specs.Keeping.{is_active, is_there, kept_object, kept_bones, with_last}
use Rattle.ode_value.specs.Objects.{Activation}
use Rattle.ode_value.specs.Pasts.{Past}
use Rattle.ode_value.specs.Posting.{with_entry}
use Rattle.ode_value.specs.Settling.{settled_world, posted, commit, abort, settle, committed, aborted, transaction}
use Rattle.ode_value.specs.Transactions.{Tx, Origin, Firing, begun, footed}
use Rattle.ode_value.specs.Versions.{Version, version_numbered}
use Rattle.ode_value.specs.Worlds.{Declared, Object, Bones, World}
use Rattle.ode_machine.specs.Stability.{IsOldVersion, StaysObject, IsOldActivation, AreActivations, FollowsObject, Follows}
use Rattle.ode_laws.specs.Numbered.{HasNumbers, AreNumbered}
use Rattle.ode_laws.proofs.Alone.{Alone, alone}
use Rattle.ode_laws.proofs.AlikePairs.{all_found}
use Rattle.ode_laws.proofs.AlikeWork.{after_gentle}
use Rattle.ode_laws.proofs.Each.{all-then, all-map, all-filter, all-passing, all-of}
use Rattle.ode_laws.proofs.KeptRows.{kept_numbered}
use Rattle.ode_laws.proofs.Rows.{id_of, numbered_id, find_rising, numbered_find}
use Rattle.ode_laws.proofs.SideActs.{Alike, next_alike}
use Rattle.ode_laws.proofs.SideCompleting.{completes_alike}
use Rattle.ode_laws.proofs.SideSettling.{Settlings, posted_related}
use Rattle.ode_laws.proofs.Sides.{EndsBy, Sides, turned}
use Rattle.ode_run_laws.specs.Orders.{HasVersions, AreLive, unclassed, IsOrdered}
use Rattle.ode_run_laws.proofs.FollowLaws.{follows_by, Following, plain_following, following_keeps}

-- each version of an object is one of its old ones, and each activation
old_versions : (P : Type 0) (vs : List Version) → AllByRecursion (λ (v : Version). IfNone (version_numbered v.number vs) P) vs
old_versions P [] = tt
old_versions P (v ∷ vs) = (here, behind vs (old_versions P vs)) where
  here : IfNone (version_numbered v.number (v ∷ vs)) P
  here = subst (λ b. IfNone (cond b (Some v) (version_numbered v.number vs)) P) (sym (eq-eqb v.number v.number refl)) tt

  later : (w : Version) (b : Bool) → IfNone (version_numbered w.number vs) P → IfNone (cond b (Some v) (version_numbered w.number vs)) P
  later w true old = tt
  later w false old = old

  behind : (ws : List Version) → AllByRecursion (λ (w : Version). IfNone (version_numbered w.number vs) P) ws → AllByRecursion (λ (w : Version). IfNone (version_numbered w.number (v ∷ vs)) P) ws
  behind [] all = tt
  behind (w ∷ ws) all = (later w (v.number == w.number) all.0, behind ws all.1)

old_activations : (next : ℕ) (acts : List Activation) → AllByRecursion (λ (a : Activation). MatchOption (find (λ (b : Activation). b.number == a.number) acts) (next ≤ a.number) (λ b. Unit {0})) acts
old_activations next [] = tt
old_activations next (a ∷ acts) = (here, behind acts (old_activations next acts)) where
  here : MatchOption (find (λ (b : Activation). b.number == a.number) (a ∷ acts)) (next ≤ a.number) (λ b. Unit {0})
  here = subst (λ b. MatchOption (cond b (Some a) (find (λ (c : Activation). c.number == a.number) acts)) (next ≤ a.number) (λ c. Unit {0})) (sym (eq-eqb a.number a.number refl)) tt

  later : (c : Activation) (b : Bool) → MatchOption (find (λ (d : Activation). d.number == c.number) acts) (next ≤ c.number) (λ d. Unit {0}) → MatchOption (cond b (Some a) (find (λ (d : Activation). d.number == c.number) acts)) (next ≤ c.number) (λ d. Unit {0})
  later c true old = tt
  later c false old = old

  behind : (cs : List Activation) → AllByRecursion (λ (c : Activation). MatchOption (find (λ (d : Activation). d.number == c.number) acts) (next ≤ c.number) (λ d. Unit {0})) cs
      → AllByRecursion (λ (c : Activation). MatchOption (find (λ (d : Activation). d.number == c.number) (a ∷ acts)) (next ≤ c.number) (λ d. Unit {0})) cs
  behind [] all = tt
  behind (c ∷ cs) all = (later c (a.number == c.number) all.0, behind cs all.1)

last_ids : (now : Bones) (os : List Object) → map id_of (map (with_last now) os) ≡ map id_of os
last_ids now [] = refl
last_ids now (o ∷ os) = ap (λ ns. o.id ∷ ns) (last_ids now os)

-- bones that a settled transaction leaves, from those that it began with
pub record IsSettled (b0 bs : Bones) : Type 0 where
  pub follows : Follows b0 bs
  pub ordered : IsOrdered bs

module _ {O A : Type 0} (past : Past O A) (b0 : Bones) (ordered : IsOrdered b0) where
  abbrev Held : ℕ → Tx O A → Type 0
  Held n x = Following b0 past ordered.numbered.objects n x

  -- ---- what a commit keeps

  kept_follows : (bs : Bones) → AllByRecursion (FollowsObject b0) bs.objects → AllByRecursion (FollowsObject b0) (kept_bones bs).objects
  kept_follows bs all =
      all-map (FollowsObject b0) kept_object (filter is_there bs.objects)
      (all-filter (λ o. FollowsObject b0 (kept_object o)) is_there bs.objects
      (all-then (FollowsObject b0) (λ o. FollowsObject b0 (kept_object o))
      (λ o. follows_by b0 o (kept_object o) refl refl (omega arith) (λ P new every. every) (λ P new every. all-filter (λ (a : Activation). P a.number) is_active o.activations every)) bs.objects all))

  kept_versions : (bs : Bones) → AllByRecursion HasVersions bs.objects → AllByRecursion HasVersions (kept_bones bs).objects
  kept_versions bs all =
      all-map HasVersions kept_object (filter is_there bs.objects)
      (all-filter (λ o. HasVersions (kept_object o)) is_there bs.objects
      (all-then HasVersions (λ o. HasVersions (kept_object o)) (λ o h. record { some = h.some; rising = h.rising; drawn = h.drawn }) bs.objects all))

  kept_live : (bs : Bones) → AreLive (kept_bones bs)
  kept_live bs =
      all-map (λ (o : Object). o.live ≡ true) kept_object (filter is_there bs.objects)
      (all-then (λ o. Unit {0} × (o.live ≡ true)) (λ (o : Object). o.live ≡ true) (λ o h. h.1) (filter is_there bs.objects)
      (all-passing (λ o. Unit {0}) is_there bs.objects (all-of (λ o. Unit {0}) (λ o. tt) bs.objects)))

  settled_follows : (x : Tx O A) (n : ℕ) → Held n x → IsSettled b0 (settled_world x).bones
  settled_follows x n h = record {
    follows = record { next = h.next; objects = kept_follows x.now.bones h.objects };
    ordered = record {
      numbered =
          let kept : AreNumbered (kept_bones (unclassed x.now.bones)) = kept_numbered (unclassed x.now.bones) h.numbered in
          record { classes = tt; rising = kept.rising; objects = kept.objects };
      versions = kept_versions x.now.bones h.versions;
      live = kept_live x.now.bones;
    };
  }

  -- ---- the last points

  abbrev Still : List Declared → Tx O A → Tx O A → Type 0
  Still cs y x = (y ≡ x) × (x.now.bones.classes ≡ cs) × Held 0 x

  abbrev pointing : Place O A → ℕ → Kind → Object → Act O A (List Firing)
  pointing place id kind o =
      turns (with_point past place (new_point kind [] o) o) >> (reads (λ z. fired past place o z.now) >>= λ firings. alters_object id (object_after firings) >> gives firings)

  point_still : (place : Place O A) (cs : List Declared) (x : Tx O A) (id : ℕ) (kind : Kind) → x.now.bones.classes ≡ cs → Held 0 x → EndsBy (Still cs) (Still cs) (arises past place id kind [] x) (arises past place id kind [] x)
  point_still place cs x id kind is h = by_found (object_at x.now.bones id) where
    by_found : (a : Option Object) → EndsBy (Still cs) (Still cs) (go_on (found a x) (pointing place id kind)) (go_on (found a x) (pointing place id kind))
    by_found (Some o) = (
      refl,
      (
        refl,
        is,
        plain_following b0 past ordered.numbered.objects 0 (turned (with_point past place (new_point kind [] o) o) x) id (object_after (fired past place o (with_point past place (new_point kind [] o) o x.now)))
            (after_gentle (fired past place o (with_point past place (new_point kind [] o) o x.now))) (λ q. refl) (λ q. refl) (λ q. refl)
            (record { first = h.first; next = h.next; objects = h.objects; numbered = h.numbered; versions = h.versions }),
      ),
    )
    by_found None = (refl, (refl, is, h))

  abbrev lasting : Place O A → List Declared → Settlings O A O A
  lasting place cs = record {
    past = past;
    other = past;
    classes = cs;
    place = place;
    other_place = place;
    Related = Still cs;
    same = λ y x r. record {
      bones = ap (λ (z : Tx O A). z.now.bones) r.0;
      classes = r.1;
      first = ap (λ (z : Tx O A). z.first.bones) r.0;
      origin = ap (λ (z : Tx O A). z.origin) r.0;
      touched = ap (λ (z : Tx O A). z.touched) r.0;
      deferred = ap (λ (z : Tx O A). z.deferred) r.0;
      collected = ap (λ (z : Tx O A). z.collected) r.0;
      gathered = ap (λ (z : Tx O A). z.gathered) r.0;
      text = ap (λ (z : Tx O A). z.text) r.0;
      run = ap (λ (z : Tx O A). z.run) r.0;
      keys = ap (λ (z : Tx O A). z.keys) r.0;
      footprint = ap (λ (z : Tx O A). z.footprint) r.0;
    };
    foot = λ y x change r. (ap (footed change) r.0, r.1, record { first = r.2.first; next = r.2.next; objects = r.2.objects; numbered = r.2.numbered; versions = r.2.versions });
    line = λ y x line r. (ap (with_line line) r.0, r.1, record { first = r.2.first; next = r.2.next; objects = r.2.objects; numbered = r.2.numbered; versions = r.2.versions });
    collect = λ y x f r room. (ap (with_entry true f) r.0, r.1, record { first = r.2.first; next = r.2.next; objects = r.2.objects; numbered = r.2.numbered; versions = r.2.versions });
    point = λ y x id kind r. subst (λ z. EndsBy (Still cs) (Still cs) (arises past place id kind [] z) (arises past place id kind [] x)) (sym r.0) (point_still place cs x id kind r.1 r.2);
  }

  last_follows : (place : Place O A) (kind : Kind) (x : Tx O A) → Held 0 x → Held 0 (posted past place kind x)
  last_follows place kind x h = (posted_related (lasting place x.now.bones.classes) kind x x (refl, refl, h)).2

  -- ---- commit and abort

  pub commit_follows : (x : Tx O A) → Held 0 x → IsSettled b0 (commit past x).0.bones
  commit_follows x h =
      settled_follows (posted past (both_lists past) TCommit (committed past x)) 0 (last_follows (both_lists past) TCommit (committed past x) (record {
        first = h.first;
        next = h.next;
        objects = kept_follows x.now.bones h.objects;
        numbered =
            let kept : AreNumbered (kept_bones (unclassed x.now.bones)) = kept_numbered (unclassed x.now.bones) h.numbered in
            record { classes = tt; rising = kept.rising; objects = kept.objects };
        versions = kept_versions x.now.bones h.versions;
      }))

  abbrev IsOwn : Object → Type 0
  IsOwn o = object_numbered o.id b0.objects ≡ Some o

  last_up : (now : Bones) → AllByRecursion (FollowsObject b0) now.objects → (o : Object) → IsOwn o → o.last ≤ (with_last now o).last
  last_up now all o own = by_found (object_numbered o.id now.objects) (λ p is. all_found (FollowsObject b0) o.id now.objects all p is) (λ p is. numbered_id o.id now.objects p is) where
    by_old : (p : Object) (m : Option Object) → m ≡ Some o → MatchOption m ((b0.next ≤ p.id) × AreActivations b0.next p.activations) (λ q. StaysObject q p × AllByRecursion (IsOldActivation b0.next q) p.activations) → o.last ≤ p.last
    by_old p None is f = absurd (cc)
    by_old p (Some q) is f = let it : q ≡ o = cc in subst (λ z. z.last ≤ p.last) it f.0.last

    by_found : (m : Option Object) → ((p : Object) → m ≡ Some p → FollowsObject b0 p) → ((p : Object) → m ≡ Some p → p.id ≡ o.id) → o.last ≤ option_map_or (λ (p : Object). p.last) m o.last
    by_found None old ids = omega arith
    by_found (Some p) old ids = by_old p (object_numbered p.id b0.objects) (ap (λ n. object_numbered n b0.objects) (ids p refl) ∙ own) (old p refl)

  own_all : AllByRecursion IsOwn b0.objects
  own_all = all-then (λ (o : Object). find (λ (q : Object). q.id == o.id) b0.objects ≡ Some o) IsOwn (λ o is. numbered_find o.id b0.objects ∙ is) b0.objects (find_rising id_of 0 b0.objects ordered.numbered.rising)

  back_object : (now : Bones) → AllByRecursion (FollowsObject b0) now.objects → (o : Object) → IsOwn o → FollowsObject b0 (with_last now o)
  back_object now all o own =
      subst (λ m. MatchOption m ((b0.next ≤ o.id) × AreActivations b0.next o.activations) (λ p. StaysObject p (with_last now o) × AllByRecursion (IsOldActivation b0.next p) o.activations)) (sym own)
      (record { class = refl; last = last_up now all o own; versions = old_versions_of o }, old_activations b0.next o.activations)
    where
      old_versions_of : (q : Object) → AllByRecursion (IsOldVersion q q.last) q.versions
      old_versions_of q = every q.versions (old_versions ⊥ q.versions) where
        keeps : (m : Option Version) (P : Type 0) → IfNone m ⊥ → IfNone m P
        keeps None P old = absurd old
        keeps (Some v) P old = tt

        every : (vs : List Version) → AllByRecursion (λ (v : Version). IfNone (version_numbered v.number q.versions) ⊥) vs → AllByRecursion (IsOldVersion q q.last) vs
        every [] old = tt
        every (v ∷ vs) old = (keeps (version_numbered v.number q.versions) (q.last < v.number) old.0, every vs old.1)

  back_versions : (now : Bones) → AllByRecursion (FollowsObject b0) now.objects → (o : Object) → IsOwn o → HasVersions o → HasVersions (with_last now o)
  back_versions now all o own h = record {
    some = h.some;
    rising = h.rising;
    drawn = let up : o.last ≤ (with_last now o).last = last_up now all o own in all-then (λ (v : Version). v.number ≤ o.last) (λ (v : Version). v.number ≤ (with_last now o).last) (λ v less. omega arith) o.versions h.drawn;
  }

  both : (P Q : Object → Type 0) (os : List Object) → AllByRecursion P os → AllByRecursion Q os → AllByRecursion (λ o. P o × Q o) os
  both P Q [] all more = tt
  both P Q (o ∷ os) all more = ((all.0, more.0), both P Q os all.1 more.1)

  more_numbers : (next : ℕ) → b0.next ≤ next → (now : Bones) (o : Object) → HasNumbers b0.next o → HasNumbers next (with_last now o)
  more_numbers next less now o h = record {
    drawn = let here : o.id < b0.next = h.drawn in omega arith;
    rising = h.rising;
    activations = all-then (λ (a : Activation). a.number < b0.next) (λ (a : Activation). a.number < next) (λ a below. omega arith) o.activations h.activations;
  }

  abbrev back_bones : Bones → Bones → Bones
  back_bones first now = record first { next = now.next; objects = map (with_last now) first.objects }

  pub abort_follows : (reason : Reason) (x : Tx O A) → Held 0 x → IsSettled b0 (abort past reason x).0.bones
  abort_follows reason x h =
      settled_follows (posted past (whole_list past) TAbort (aborted past x)) 0 (last_follows (whole_list past) TAbort (aborted past x) (record {
        first = h.first;
        next = h.next;
        objects = subst (λ (f : Bones). AllByRecursion (FollowsObject b0) (map (with_last x.now.bones) f.objects)) (sym h.first)
            (all-map (FollowsObject b0) (with_last x.now.bones) b0.objects (all-then IsOwn (λ o. FollowsObject b0 (with_last x.now.bones o)) (back_object x.now.bones h.objects) b0.objects own_all));
        numbered = subst (λ (f : Bones). AreNumbered (unclassed (back_bones f x.now.bones))) (sym h.first) (record {
          classes = tt;
          rising = subst (RiseFrom 0) (sym (last_ids x.now.bones b0.objects)) ordered.numbered.rising;
          objects =
              all-map (HasNumbers x.now.bones.next) (with_last x.now.bones) b0.objects
              (all-then (HasNumbers b0.next) (λ o. HasNumbers x.now.bones.next (with_last x.now.bones o)) (more_numbers x.now.bones.next h.next x.now.bones) b0.objects ordered.numbered.objects);
        });
        versions = subst (λ (f : Bones). AllByRecursion HasVersions (map (with_last x.now.bones) f.objects)) (sym h.first)
            (all-map HasVersions (with_last x.now.bones) b0.objects
            (all-then (λ o. IsOwn o × HasVersions o) (λ o. HasVersions (with_last x.now.bones o)) (λ o own. back_versions x.now.bones h.objects o own.0 own.1) b0.objects (both IsOwn HasVersions b0.objects own_all ordered.versions)));
      }))

  -- ---- whole transactions

  begun_object : (o : Object) → IsOwn o → FollowsObject b0 o
  begun_object o own = subst (λ m. MatchOption m ((b0.next ≤ o.id) × AreActivations b0.next o.activations) (λ p. StaysObject p o × AllByRecursion (IsOldActivation b0.next p) o.activations)) (sym own)
      (record { class = refl; last = omega arith; versions = (back_object_versions o) }, old_activations b0.next o.activations)
    where
      keeps : (m : Option Version) (P : Type 0) → IfNone m ⊥ → IfNone m P
      keeps None P old = absurd old
      keeps (Some v) P old = tt

      every : (q : Object) (vs : List Version) → AllByRecursion (λ (v : Version). IfNone (version_numbered v.number q.versions) ⊥) vs → AllByRecursion (IsOldVersion q q.last) vs
      every q [] old = tt
      every q (v ∷ vs) old = (keeps (version_numbered v.number q.versions) (q.last < v.number) old.0, every q vs old.1)

      back_object_versions : (q : Object) → AllByRecursion (IsOldVersion q q.last) q.versions
      back_object_versions q = every q q.versions (old_versions ⊥ q.versions)

  pub begun_follows : (n : ℕ) (origin : Origin) (w : World O A) → w.bones ≡ b0 → Held n (begun origin w)
  begun_follows n origin w is = record {
    first = is;
    next = subst (λ (b : Bones). b0.next ≤ b.next) (sym is) (let same : b0.next ≤ b0.next = omega arith in same);
    objects = subst (λ (b : Bones). AllByRecursion (FollowsObject b0) b.objects) (sym is) (all-then IsOwn (FollowsObject b0) begun_object b0.objects own_all);
    numbered = subst (λ (b : Bones). AreNumbered (unclassed b)) (sym is) ordered.numbered;
    versions = subst (λ (b : Bones). AllByRecursion HasVersions b.objects) (sym is) ordered.versions;
  }

  abbrev pub followed : List Declared → Sides O A O A
  followed cs = alone past Held (following_keeps b0 past ordered.numbered.objects) cs

  abbrev pub StaysHeld : List Declared → Tx O A → Tx O A → Type 0
  StaysHeld cs = Alone past Held (following_keeps b0 past ordered.numbered.objects) cs 0

  pub settle_follows : (cs : List Declared) (p : Outcome O A (Unit {0})) → EndsBy (StaysHeld cs) (StaysHeld cs) p p → IsSettled b0 (settle past p).0.bones
  settle_follows cs (Done r x) h = commit_follows x h.1.2
  settle_follows cs (Aborted r x) h = abort_follows r x h.1.2

  pub transaction_follows : (origin : Origin) (n : ℕ) (a : Deed O A) (w : World O A) → w.bones ≡ b0 → ((cs : List Declared) → Alike (followed cs) n 0 a a) → IsSettled b0 (transaction past origin a w).0.bones
  unfolding transaction
  transaction_follows origin n a w is are =
      settle_follows w.bones.classes ((a >> completes past) (begun origin w))
      (next_alike (followed w.bones.classes) n 0 0 a a (are w.bones.classes) (completes past) (completes past) (completes_alike (followed w.bones.classes) 0) (begun origin w) (begun origin w) (refl, refl, begun_follows n origin w is))
