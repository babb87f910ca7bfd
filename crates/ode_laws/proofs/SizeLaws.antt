-- Versions and arguments stay short enough for a record's value.
use Rattle.std.proofs.Common.{◌≡◌, ℕ, ◌+◌, ◌≤◌, Bool, true, false, cond, not, List, [], ◌∷◌, map, ◌==◌, Option, Some, None, refl, sym, ap, ◌∙◌, subst}
use Rattle.std.specs.Prelude.{nat_le, slice_set}
use Rattle.std.specs.List.{AllByRecursion, filter}
use Rattle.std.proofs.lemmas.Bool.{leb-true}
use Rattle.ode_value.specs.declared.event.Kind.{Kind}
use Rattle.ode_value.specs.declared.event.Kind.TheVariants.{TCommit, TAbort}
use Rattle.ode_value.specs.declared.reason.Reason.{Reason}
use Rattle.ode_value.specs.declared.statement.Stmt.{Stmt}
use Rattle.ode_value.specs.declared.value.Value.{Value}
use Rattle.ode_value.specs.Acts.{Outcome, Done, Aborted, Act, Deed, go_on, ◌>>=◌, ◌>>◌, gives, reads, turns, found, with_line, with_statement}
use Rattle.ode_value.specs.Changes.{holding, alters_object}
use Rattle.ode_value.specs.Completing.{completes}
use Rattle.ode_value.specs.Denoting.{object_at}
use Rattle.ode_value.specs.Executing.{commands}
use Rattle.ode_value.specs.Firings.{new_point, after_firings, object_after, Place, both_lists, whole_list, with_point, fired, arises}
use Rattle.ode_value.specs.Keeping.{is_active, is_there, kept_object, kept_bones, with_last}
use Rattle.ode_value.specs.Lengths.{values_length, version_size}
use Rattle.ode_value.specs.Limits.{value_limit, args_limit}
use Rattle.ode_value.specs.Making.{with_fields, derived_from, switched_off, object_with, with_activation, with_new, with_active}
use Rattle.ode_value.specs.Objects.{Activation}
use Rattle.ode_value.specs.Pasts.{Past}
use Rattle.ode_value.specs.Posting.{with_deferred, with_entry}
use Rattle.ode_value.specs.Settling.{posted, settled_world, commit, abort, committed, aborted}
use Rattle.ode_value.specs.Transactions.{Tx, Firing, touching, footed}
use Rattle.ode_value.specs.Versions.{Version}
use Rattle.ode_value.specs.Worlds.{Declared, Object, Bones, with_object}
use Rattle.ode_laws.specs.Sized.{IsShortVersion, IsShortActivation, HasSizes, AreSized, IsSized, StaysSized}
use Rattle.ode_laws.proofs.Alone.{Keeps, Alone, alone}
use Rattle.ode_laws.proofs.AlikePairs.{all_with}
use Rattle.ode_laws.proofs.Each.{all-append, all-then, all-map, all-filter}
use Rattle.ode_laws.proofs.SideCompleting.{completes_alike}
use Rattle.ode_laws.proofs.SideSettling.{Settlings, posted_related}
use Rattle.ode_laws.proofs.SideStatements.{commands_alike}
use Rattle.ode_laws.proofs.Sides.{EndsBy, same_self, altered, turned, stamp_in, set_in, dropped_from, removed, off_in}

-- ---- an object

set_short : (stamp number : ℕ) (fields : List Value) → version_size stamp fields ≤ value_limit → (v : Version) → IsShortVersion v → IsShortVersion (with_fields stamp number fields v)
set_short stamp number fields short v is = by_test (v.number == number) where
  by_test : (b : Bool) → IsShortVersion (cond b (record v { fields = fields; stamp = stamp }) v)
  by_test true = short
  by_test false = is

off_short : (number : ℕ) (a : Activation) → IsShortActivation a → IsShortActivation (switched_off number a)
off_short number a is = by_test (a.number == number) where
  by_test : (b : Bool) → IsShortActivation (cond b (record a { on = false }) a)
  by_test true = is
  by_test false = is

after_sizes : (firings : List Firing) (o : Object) → HasSizes o → HasSizes (object_after firings o)
after_sizes firings o h = record { versions = h.versions; activations = all-map IsShortActivation (after_firings firings) o.activations h.activations }

kept_sizes : (o : Object) → HasSizes o → HasSizes (kept_object o)
kept_sizes o h = record { versions = h.versions; activations = all-filter IsShortActivation is_active o.activations h.activations }

kept_sized : (b : Bones) → AreSized b → AreSized (kept_bones b)
kept_sized b all =
    all-map HasSizes kept_object (filter is_there b.objects)
    (all-filter (λ o. HasSizes (kept_object o)) is_there b.objects (all-then HasSizes (λ o. HasSizes (kept_object o)) kept_sizes b.objects all))

module _ {O A : Type 0} (past : Past O A) where
  abbrev Sizing : ℕ → Tx O A → Type 0
  Sizing n x = IsSized x

  with_change : (x : Tx O A) (id : ℕ) (f : Object → Object) → ((o : Object) → HasSizes o → HasSizes (f o)) → IsSized x → IsSized (altered id f x)
  with_change x id f keeps h = record { first = h.first; now = all_with HasSizes id f keeps x.now.bones.objects h.now }

  sizing_keeps : Keeps past Sizing
  sizing_keeps = record {
    less = λ n x h. h;
    statement = λ n x h more. record { first = h.first; now = h.now };
    foot = λ n x change h. record { first = h.first; now = h.now };
    line = λ n x line h fits. record { first = h.first; now = h.now };
    keys = λ n x keys h fits. record { first = h.first; now = h.now };
    touch = λ n x id h. record { first = h.first; now = h.now };
    defer = λ n x f h more. record { first = h.first; now = h.now };
    collect = λ n x independent f h room. record { first = h.first; now = h.now };
    set = λ n x r v place value h is small.
        with_change x r.object (set_in (stamp_in x) v place value) (λ o s. record {
          versions =
              all-map IsShortVersion (with_fields (stamp_in x) v.number (slice_set v.fields place value)) o.versions
              (all-then IsShortVersion (λ w. IsShortVersion (with_fields (stamp_in x) v.number (slice_set v.fields place value) w))
              (set_short (stamp_in x) v.number (slice_set v.fields place value) (leb-true (version_size (stamp_in x) (slice_set v.fields place value)) value_limit small)) o.versions s.versions);
          activations = s.activations;
        }) h;
    derive = λ n x r v o h is there more small.
        with_change x o.id (derived_from (stamp_in x) v) (λ q s. record {
          versions =
              all-append IsShortVersion q.versions (record { number = q.last + 1; parent = Some v.number; stamp = stamp_in x; fields = v.fields } ∷ []) s.versions
              (leb-true (version_size (stamp_in x) v.fields) value_limit small, tt);
          activations = s.activations;
        }) h;
    drop = λ n x r v o h is there more.
        with_change x o.id (dropped_from v) (λ q s. record { versions = all-filter IsShortVersion (λ (w : Version). not (w.number == v.number)) q.versions s.versions; activations = s.activations }) h;
    remove = λ n x id h. with_change x id removed (λ o s. record { versions = s.versions; activations = s.activations }) h;
    off = λ n x id number h.
        with_change x id (off_in number) (λ o s. record {
          versions = s.versions;
          activations = all-map IsShortActivation (switched_off number) o.activations (all-then IsShortActivation (λ a. IsShortActivation (switched_off number a)) (off_short number) o.activations s.activations);
        }) h;
    new = λ n x class fields h left small. record {
      first = h.first;
      now =
          all-append HasSizes x.now.bones.objects (object_with (stamp_in x) x.now.bones.next class fields ∷ []) h.now
          (record { versions = (leb-true (version_size (stamp_in x) fields) value_limit small, tt); activations = tt }, tt);
    };
    active = λ n x id t args h left short. record {
      first = h.first;
      now =
          all_with HasSizes id (with_activation t args x.now.bones.next) (λ o s. record {
            versions = s.versions;
            activations =
                all-append IsShortActivation o.activations (record { number = x.now.bones.next; class = t.class; trigger = t.place; args = args; on = true } ∷ []) s.activations
                (leb-true (values_length args) args_limit short, tt);
          }) x.now.bones.objects h.now;
    };
    point = λ n x id p o firings h there.
        with_change (turned (with_point past (both_lists past) p o) x) id (object_after firings) (after_sizes firings) (record { first = h.first; now = h.now });
  }

  abbrev OneSized : List Declared → Tx O A → Tx O A → Type 0
  OneSized cs y x = Alone past Sizing sizing_keeps cs 0 y x

  stays_by : {X : Type 0} (cs : List Declared) (p : Outcome O A X) → EndsBy (OneSized cs) (OneSized cs) p p → StaysSized p
  stays_by cs (Done r x) h = h.1.2
  stays_by cs (Aborted r x) h = h.1.2

  pub statements_sized : (x : Tx O A) → IsSized x → (s : Stmt) → StaysSized (commands past s x)
  statements_sized x h s = stays_by x.now.bones.classes (commands past s x) (commands_alike (alone past Sizing sizing_keeps x.now.bones.classes) 0 s x x (refl, refl, h))

  pub completion_sized : (x : Tx O A) → IsSized x → StaysSized (completes past x)
  completion_sized x h = stays_by x.now.bones.classes (completes past x) (completes_alike (alone past Sizing sizing_keeps x.now.bones.classes) 0 x x (refl, refl, h))

  -- ---- settling

  abbrev Still : List Declared → Tx O A → Tx O A → Type 0
  Still cs y x = (y ≡ x) × (x.now.bones.classes ≡ cs) × IsSized x

  abbrev pointing : Place O A → ℕ → Kind → Object → Act O A (List Firing)
  pointing place id kind o =
      turns (with_point past place (new_point kind [] o) o) >> (reads (λ z. fired past place o z.now) >>= λ firings. alters_object id (object_after firings) >> gives firings)

  point_still : (place : Place O A) (cs : List Declared) (x : Tx O A) (id : ℕ) (kind : Kind) → x.now.bones.classes ≡ cs → IsSized x → EndsBy (Still cs) (Still cs) (arises past place id kind [] x) (arises past place id kind [] x)
  point_still place cs x id kind is h = by_found (object_at x.now.bones id) where
    by_found : (a : Option Object) → EndsBy (Still cs) (Still cs) (go_on (found a x) (pointing place id kind)) (go_on (found a x) (pointing place id kind))
    by_found (Some o) = (
      refl,
      (
        refl,
        is,
        with_change (turned (with_point past place (new_point kind [] o) o) x) id (object_after (fired past place o (with_point past place (new_point kind [] o) o x.now)))
            (after_sizes (fired past place o (with_point past place (new_point kind [] o) o x.now))) (record { first = h.first; now = h.now }),
      ),
    )
    by_found None = (refl, (refl, is, h))

  abbrev lasting : Place O A → List Declared → Settlings O A O A
  lasting place cs = record {
    past = past;
    other = past;
    classes = cs;
    place = place;
    other_place = place;
    Related = Still cs;
    same = λ y x r. same_self cs y x r.0 r.1;
    foot = λ y x change r. (ap (footed change) r.0, r.1, record { first = r.2.first; now = r.2.now });
    line = λ y x line r. (ap (with_line line) r.0, r.1, record { first = r.2.first; now = r.2.now });
    collect = λ y x f r room. (ap (with_entry true f) r.0, r.1, record { first = r.2.first; now = r.2.now });
    point = λ y x id kind r. subst (λ z. EndsBy (Still cs) (Still cs) (arises past place id kind [] z) (arises past place id kind [] x)) (sym r.0) (point_still place cs x id kind r.1 r.2);
  }

  last_sized : (place : Place O A) (kind : Kind) (x : Tx O A) → IsSized x → IsSized (posted past place kind x)
  last_sized place kind x h = (posted_related (lasting place x.now.bones.classes) kind x x (refl, refl, h)).2

  pub commit_sized : (x : Tx O A) → IsSized x → AreSized (commit past x).0.bones
  commit_sized x h =
      kept_sized (posted past (both_lists past) TCommit (committed past x)).now.bones
      (last_sized (both_lists past) TCommit (committed past x) (record { first = h.first; now = kept_sized x.now.bones h.now })).now

  pub abort_sized : (reason : Reason) (x : Tx O A) → IsSized x → AreSized (abort past reason x).0.bones
  abort_sized reason x h =
      kept_sized (posted past (whole_list past) TAbort (aborted past x)).now.bones
      (last_sized (whole_list past) TAbort (aborted past x) (record {
        first = h.first;
        now = all-map HasSizes (with_last x.now.bones) x.first.bones.objects (all-then HasSizes (λ o. HasSizes (with_last x.now.bones o)) (λ o s. record { versions = s.versions; activations = s.activations }) x.first.bones.objects h.first);
      })).now
