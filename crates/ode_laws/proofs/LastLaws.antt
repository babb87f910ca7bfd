-- The last points of a transaction keep its keys within their limit, and its text behind what it printed.
use Rattle.std.proofs.Common.{◌≡◌, ℕ, ◌<◌, ◌≤◌, true, List, [], ◌++◌, Option, Some, None, refl, sym, ap, ◌∙◌, subst, arith}
use Rattle.std.proofs.lemmas.List.{append_assoc, append-nil}
use Rattle.ode_value.specs.declared.event.Kind.{Kind}
use Rattle.ode_value.specs.declared.event.Kind.TheVariants.{TCommit, TAbort}
use Rattle.ode_value.specs.declared.reason.Reason.{Reason}
use Rattle.ode_value.specs.Acts.{Act, go_on, ◌>>=◌, ◌>>◌, gives, reads, turns, found, with_line}
use Rattle.ode_value.specs.Changes.{key_count, alters_object}
use Rattle.ode_value.specs.Denoting.{object_at}
use Rattle.ode_value.specs.Firings.{new_point, object_after, Place, both_lists, whole_list, with_point, fired, arises}
use Rattle.ode_value.specs.Limits.{change_limit}
use Rattle.ode_value.specs.Pasts.{Past}
use Rattle.ode_value.specs.Posting.{with_entry}
use Rattle.ode_value.specs.Settling.{ends_with, posted, commit, abort, committed, aborted}
use Rattle.ode_value.specs.Texts.{committed_line, aborted_line}
use Rattle.ode_value.specs.Transactions.{Tx, Firing, footed}
use Rattle.ode_value.specs.Worlds.{Declared, Object}
use Rattle.ode_laws.specs.Bounds.{Prints}
use Rattle.ode_laws.proofs.Sides.{EndsBy, same_self}
use Rattle.ode_laws.proofs.SideSettling.{Settlings, posted_related}
use Rattle.ode_laws.proofs.BoundLaws.{room_for_key}

module _ {O A : Type 0} (past : Past O A) (place : Place O A) (cs : List Declared) (old : Tx O A) where
  pub record IsLast (x : Tx O A) : Type 0 where
    pub keys : key_count x ≤ change_limit
    pub more : List ℕ
    pub text : x.text ≡ old.text ++ more

  abbrev Alone : Tx O A → Tx O A → Type 0
  Alone y x = (y ≡ x) × (x.now.bones.classes ≡ cs) × IsLast x

  abbrev pointing : ℕ → Kind → Object → Act O A (List Firing)
  pointing id kind o =
      turns (with_point past place (new_point kind [] o) o) >> (reads (λ z. fired past place o z.now) >>= λ firings. alters_object id (object_after firings) >> gives firings)

  point_alone : (x : Tx O A) (id : ℕ) (kind : Kind) → x.now.bones.classes ≡ cs → IsLast x → EndsBy Alone Alone (arises past place id kind [] x) (arises past place id kind [] x)
  point_alone x id kind is h = by_found (object_at x.now.bones id) where
    by_found : (a : Option Object) → EndsBy Alone Alone (go_on (found a x) (pointing id kind)) (go_on (found a x) (pointing id kind))
    by_found (Some o) = (refl, (refl, is, record { keys = h.keys; more = h.more; text = h.text }))
    by_found None = (refl, (refl, is, h))

  abbrev lasting : Settlings O A O A
  lasting = record {
    past = past;
    other = past;
    classes = cs;
    place = place;
    other_place = place;
    Related = Alone;
    same = λ y x r. same_self cs y x r.0 r.1;
    foot = λ y x change r. (ap (footed change) r.0, r.1, record { keys = r.2.keys; more = r.2.more; text = r.2.text });
    line = λ y x line r. (ap (with_line line) r.0, r.1, record { keys = r.2.keys; more = r.2.more ++ line; text = ap (λ t. t ++ line) r.2.text ∙ append_assoc old.text r.2.more line });
    collect = λ y x f r room. (ap (with_entry true f) r.0, r.1, record { keys = let here : key_count x < change_limit = room_for_key x room in omega arith; more = r.2.more; text = r.2.text });
    point = λ y x id kind r.
        subst (λ z. EndsBy Alone Alone (arises past place id kind [] z) (arises past place id kind [] x)) (sym r.0) (point_alone x id kind r.1 r.2);
  }

  last_posted : (kind : Kind) (x : Tx O A) → x.now.bones.classes ≡ cs → IsLast x → IsLast (posted past place kind x)
  last_posted kind x is h = (posted_related lasting kind x x (refl, is, h)).2

module _ {O A : Type 0} (past : Past O A) where
  start_last : (place : Place O A) (cs : List Declared) (x y : Tx O A) → key_count y ≤ change_limit → y.text ≡ x.text → IsLast past place cs x y
  start_last place cs x y keys text = record { keys = keys; more = []; text = text ∙ sym (append-nil x.text) }

  -- the keys of the last points, behind a commit
  pub commit_keys : (x : Tx O A) → key_count x ≤ change_limit → key_count (posted past (both_lists past) TCommit (committed past x)) ≤ change_limit
  commit_keys x keys =
      (last_posted past (both_lists past) x.now.bones.classes x TCommit (committed past x) refl (start_last (both_lists past) x.now.bones.classes x (committed past x) keys refl)).keys

  pub abort_keys : (x : Tx O A) → key_count x ≤ change_limit → key_count (posted past (whole_list past) TAbort (aborted past x)) ≤ change_limit
  abort_keys x keys =
      (last_posted past (whole_list past) x.first.bones.classes x TAbort (aborted past x) refl (start_last (whole_list past) x.first.bones.classes x (aborted past x) keys refl)).keys

  -- what was printed stays printed
  last_text : (place : Place O A) (cs : List Declared) (x y : Tx O A) → IsLast past place cs x y → (line : List ℕ) → Prints x (ends_with line y).1
  last_text place cs x y h line = record { more = h.more ++ line; is = ap (λ t. t ++ line) h.text ∙ append_assoc x.text h.more line }

  pub commit_text : (x : Tx O A) → key_count x ≤ change_limit → Prints x (commit past x).1
  commit_text x keys =
      last_text (both_lists past) x.now.bones.classes x (posted past (both_lists past) TCommit (committed past x))
      (last_posted past (both_lists past) x.now.bones.classes x TCommit (committed past x) refl (start_last (both_lists past) x.now.bones.classes x (committed past x) keys refl)) (committed_line x.first.bones.transaction)

  pub abort_text : (reason : Reason) (x : Tx O A) → key_count x ≤ change_limit → Prints x (abort past reason x).1
  abort_text reason x keys =
      last_text (whole_list past) x.first.bones.classes x (posted past (whole_list past) TAbort (aborted past x))
      (last_posted past (whole_list past) x.first.bones.classes x TAbort (aborted past x) refl (start_last (whole_list past) x.first.bones.classes x (aborted past x) keys refl)) (aborted_line x.first.bones.transaction reason)
