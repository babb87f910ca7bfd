-- What a settled transaction leaves of the queue that it began with.
use Rattle.std.proofs.Common.{◌≡◌, ℕ, ◌+◌, Bool, true, List, [], ◌∷◌, ◌++◌, map, length, Option, Some, None, refl, sym, ap, ◌∙◌, subst}
use Rattle.std.specs.List.{AllByRecursion, enumerate_from}
use Rattle.std.proofs.lemmas.List.{length-map}
use Rattle.ode_value.specs.declared.event.Kind.{Kind}
use Rattle.ode_value.specs.declared.event.Kind.TheVariants.{TCommit, TAbort}
use Rattle.ode_value.specs.declared.reason.Reason.{Reason}
use Rattle.ode_value.specs.Acts.{Outcome, Done, Aborted, Act, Deed, go_on, ◌>>=◌, ◌>>◌, gives, reads, turns, found, with_line, with_statement}
use Rattle.ode_value.specs.Changes.{holding, alters_object}
use Rattle.ode_value.specs.Completing.{completes}
use Rattle.ode_value.specs.Denoting.{object_at}
use Rattle.ode_value.specs.Firings.{new_point, object_after, Place, both_lists, whole_list, with_point, fired, arises}
use Rattle.ode_value.specs.Making.{derived_from, with_new, with_active}
use Rattle.ode_value.specs.Pasts.{Past}
use Rattle.ode_value.specs.Posting.{waiting, with_deferred, with_entry, entry_of}
use Rattle.ode_value.specs.Settling.{is_independent, entry_in, settled_world, posted, commit, abort, settle, committed, aborted, transaction}
use Rattle.ode_value.specs.Transactions.{Tx, Origin, Firing, Collected, generation_of, begun, touching, footed}
use Rattle.ode_value.specs.Worlds.{Declared, Entry, Object, Bones, World}
use Rattle.ode_laws.proofs.Alone.{Keeps, Alone, alone}
use Rattle.ode_laws.proofs.Each.{all-append, all-filter, all-map}
use Rattle.ode_laws.proofs.SideActs.{Alike, next_alike}
use Rattle.ode_laws.proofs.SideCompleting.{completes_alike}
use Rattle.ode_laws.proofs.SideSettling.{Settlings, posted_related}
use Rattle.ode_laws.proofs.Sides.{EndsBy, Sides, same_self, altered, turned, stamp_in, set_in, dropped_from, removed, off_in}
use Rattle.ode_queue_laws.specs.Entries.{AddsEntries}

-- from these bones a transaction of this origin leaves what waits, with new entries of the next generation behind it
abbrev pub Leaves : Origin → (old new : Bones) → Type 0
Leaves origin old new = AddsEntries old new (waiting origin old.queue) (generation_of origin + 1)

module _ (origin : Origin) (b0 : Bones) where
  abbrev IsNext : Collected → Type 0
  IsNext c = c.entry.generation ≡ generation_of origin + 1

  -- a transaction of this origin from these bones
  pub record Collecting {O A : Type 0} (x : Tx O A) : Type 0 where
    pub is_from : x.origin ≡ origin
    pub first : x.first.bones ≡ b0
    pub collected : AllByRecursion IsNext x.collected

  module _ {O A : Type 0} where
    again : (x y : Tx O A) → Collecting x → y.origin ≡ x.origin → y.first ≡ x.first → y.collected ≡ x.collected → Collecting y
    again x y h is_from first collected = record {
      is_from = is_from ∙ h.is_from;
      first = ap (λ (w : World O A). w.bones) first ∙ h.first;
      collected = subst (AllByRecursion IsNext) (sym collected) h.collected;
    }

    more : (x : Tx O A) (independent : Bool) (f : Firing) → Collecting x → Collecting (with_entry independent f x)
    more x independent f h = record {
      is_from = h.is_from;
      first = h.first;
      collected =
          all-append IsNext x.collected (record { entry = entry_of (generation_of x.origin + 1) f; independent = independent } ∷ []) h.collected
          (ap (λ (o : Origin). generation_of o + 1) h.is_from, tt);
    }

    pub begun_collecting : (w : World O A) → w.bones ≡ b0 → Collecting (begun origin w)
    begun_collecting w is = record { is_from = refl; first = is; collected = tt }

    settled_leaves : (x : Tx O A) → Collecting x → Leaves origin b0 (settled_world x).bones
    settled_leaves x h = record {
      entries = map entry_in x.collected;
      queue =
          ap (λ (o : Origin). waiting o x.first.bones.queue ++ enumerate_from x.first.bones.next_entry (map entry_in x.collected)) h.is_from
          ∙ ap (λ (b : Bones). waiting origin b.queue ++ enumerate_from b.next_entry (map entry_in x.collected)) h.first;
      next = ap (λ (b : Bones). b.next_entry + length x.collected) h.first ∙ ap (λ (n : ℕ). b0.next_entry + n) (sym (length-map x.collected entry_in));
      generations = all-map (λ (e : Entry). e.generation ≡ generation_of origin + 1) entry_in x.collected h.collected;
    }

    module _ (past : Past O A) where
      abbrev pub Holds : ℕ → Tx O A → Type 0
      Holds n x = Collecting x

      pub collecting_keeps : Keeps past Holds
      collecting_keeps = record {
        less = λ n x h. h;
        statement = λ n x h left. again x (with_statement x) h refl refl refl;
        foot = λ n x change h. again x (footed change x) h refl refl refl;
        line = λ n x line h fits. again x (with_line line x) h refl refl refl;
        keys = λ n x keys h fits. again x (holding keys x) h refl refl refl;
        touch = λ n x id h. again x (touching id x) h refl refl refl;
        defer = λ n x f h left. again x (with_deferred f x) h refl refl refl;
        collect = λ n x independent f h room. more x independent f h;
        set = λ n x r v place value h is small. again x (altered r.object (set_in (stamp_in x) v place value) x) h refl refl refl;
        derive = λ n x r v o h is there left small. again x (altered o.id (derived_from (stamp_in x) v) x) h refl refl refl;
        drop = λ n x r v o h is there left. again x (altered o.id (dropped_from v) x) h refl refl refl;
        remove = λ n x id h. again x (altered id removed x) h refl refl refl;
        off = λ n x id number h. again x (altered id (off_in number) x) h refl refl refl;
        new = λ n x class fields h left small. again x (turned (with_new past class fields) x) h refl refl refl;
        active = λ n x id t args h left short. again x (turned (with_active past id t args) x) h refl refl refl;
        point = λ n x id p o firings h there. again x (altered id (object_after firings) (turned (with_point past (both_lists past) p o) x)) h refl refl refl;
      }

      abbrev pub collected_by : List Declared → Sides O A O A
      collected_by cs = alone past Holds collecting_keeps cs

      abbrev pub Stays : List Declared → Tx O A → Tx O A → Type 0
      Stays cs = Alone past Holds collecting_keeps cs 0

      -- ---- the last points

      abbrev Still : List Declared → Tx O A → Tx O A → Type 0
      Still cs y x = (y ≡ x) × (x.now.bones.classes ≡ cs) × Collecting x

      abbrev pointing : Place O A → ℕ → Kind → Object → Act O A (List Firing)
      pointing place id kind o =
          turns (with_point past place (new_point kind [] o) o) >> (reads (λ z. fired past place o z.now) >>= λ firings. alters_object id (object_after firings) >> gives firings)

      point_still : (place : Place O A) (cs : List Declared) (x : Tx O A) (id : ℕ) (kind : Kind) → x.now.bones.classes ≡ cs → Collecting x → EndsBy (Still cs) (Still cs) (arises past place id kind [] x) (arises past place id kind [] x)
      point_still place cs x id kind is h = by_found (object_at x.now.bones id) where
        by_found : (a : Option Object) → EndsBy (Still cs) (Still cs) (go_on (found a x) (pointing place id kind)) (go_on (found a x) (pointing place id kind))
        by_found (Some o) = (refl, (refl, is, record { is_from = h.is_from; first = h.first; collected = h.collected }))
        by_found None = (refl, (refl, is, h))

      abbrev lasting : Place O A → List Declared → Settlings O A O A
      lasting place cs = record {
        past = past;
        other = past;
        classes = cs;
        place = place;
        other_place = place;
        Related = Still cs;
        same = λ y x r. same_self cs y x r.0 r.1;
        foot = λ y x change r. (ap (footed change) r.0, r.1, again x (footed change x) r.2 refl refl refl);
        line = λ y x line r. (ap (with_line line) r.0, r.1, again x (with_line line x) r.2 refl refl refl);
        collect = λ y x f r room. (ap (with_entry true f) r.0, r.1, more x true f r.2);
        point = λ y x id kind r. subst (λ z. EndsBy (Still cs) (Still cs) (arises past place id kind [] z) (arises past place id kind [] x)) (sym r.0) (point_still place cs x id kind r.1 r.2);
      }

      last_collecting : (place : Place O A) (kind : Kind) (x : Tx O A) → Collecting x → Collecting (posted past place kind x)
      last_collecting place kind x h = (posted_related (lasting place x.now.bones.classes) kind x x (refl, refl, h)).2

      -- ---- settling

      pub commit_leaves : (x : Tx O A) → Collecting x → Leaves origin b0 (commit past x).0.bones
      commit_leaves x h =
          settled_leaves (posted past (both_lists past) TCommit (committed past x))
          (last_collecting (both_lists past) TCommit (committed past x) (record { is_from = h.is_from; first = h.first; collected = h.collected }))

      pub abort_leaves : (reason : Reason) (x : Tx O A) → Collecting x → Leaves origin b0 (abort past reason x).0.bones
      abort_leaves reason x h =
          settled_leaves (posted past (whole_list past) TAbort (aborted past x))
          (last_collecting (whole_list past) TAbort (aborted past x) (record { is_from = h.is_from; first = h.first; collected = all-filter IsNext is_independent x.collected h.collected }))

      pub settle_leaves : (cs : List Declared) (p : Outcome O A (Unit {0})) → EndsBy (Stays cs) (Stays cs) p p → Leaves origin b0 (settle past p).0.bones
      settle_leaves cs (Done r x) h = commit_leaves x h.1.2
      settle_leaves cs (Aborted r x) h = abort_leaves r x h.1.2

      pub transaction_leaves : (n : ℕ) (work : Deed O A) (w : World O A) → w.bones ≡ b0 → ((cs : List Declared) → Alike (collected_by cs) n 0 work work) → Leaves origin b0 (transaction past origin work w).0.bones
      unfolding transaction
      transaction_leaves n work w is are =
          settle_leaves w.bones.classes ((work >> completes past) (begun origin w))
          (next_alike (collected_by w.bones.classes) n 0 0 work work (are w.bones.classes) (completes past) (completes past) (completes_alike (collected_by w.bones.classes) 0) (begun origin w) (begun origin w)
          (refl, refl, begun_collecting w is))
