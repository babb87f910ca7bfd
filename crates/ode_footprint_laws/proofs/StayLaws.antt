-- What a transaction doesn't look at it leaves as it was.
use Rattle.std.proofs.Common.{◌≡◌, ℕ, Bool, true, false, cond, List, [], ◌∷◌, ◌==◌, None, Some, refl, sym, ap, ◌∙◌, subst}
use Rattle.std.proofs.lemmas.Bool.{eqb-true}
use Rattle.ode_footprint_laws.proofs.AgreeLaws.{agree_self}
use Rattle.ode_footprint_laws.proofs.DependsMaking.{found_id}
use Rattle.ode_footprint_laws.proofs.Lookups.{either_none, either_of, kept_append, kept_with, not_this, numbered_append, numbered_with}
use Rattle.ode_footprint_laws.proofs.Meets.{Meets, Steady, active_keys, new_keys}
use Rattle.ode_footprint_laws.specs.Agreeing.{Agree, IsAmong}
use Rattle.ode_footprint_laws.specs.Staying.{StaysBut}
use Rattle.ode_laws.proofs.AlikePairs.{IsGentle, altered_bones}
use Rattle.ode_laws.proofs.Rows.{eq_swap}
use Rattle.ode_laws.proofs.Sides.{altered, turned}
use Rattle.ode_value.specs.declared.event.Point.{Point}
use Rattle.ode_value.specs.declared.value.Value.{Value}
use Rattle.ode_value.specs.Acts.{with_line, with_statement}
use Rattle.ode_value.specs.Changes.{holding, key_count}
use Rattle.ode_value.specs.Classes.{Trigger}
use Rattle.ode_value.specs.Denoting.{object_numbered}
use Rattle.ode_value.specs.Firings.{Place, grown_past, with_point}
use Rattle.ode_value.specs.Footprints.{Footprint}
use Rattle.ode_value.specs.Language.{ListTx, ListWorld}
use Rattle.ode_value.specs.Making.{object_with, stamp_now, with_activation, with_active, with_new, with_past}
use Rattle.ode_value.specs.Objects.{Histories, Starts}
use Rattle.ode_value.specs.Pasts.{Kept, lists}
use Rattle.ode_value.specs.Posting.{with_deferred, with_entry}
use Rattle.ode_value.specs.Transactions.{footed, touching}
use Rattle.ode_value.specs.Worlds.{Object, kept_at}

module _ (f : Footprint) (before : ListWorld) where
  -- another number than one that was looked at
  other : (n id : ℕ) → (IsAmong n f.looked → ⊥) → IsAmong id f.looked → (n == id) ≡ false
  other n id none among = by_test (n == id) refl where
    by_test : (b : Bool) → (n == id) ≡ b → b ≡ false
    by_test true e = absurd (none (subst (λ i. IsAmong i f.looked) (sym (eqb-true n id e)) among))
    by_test false e = refl

  pub alter_stays : (w : ListWorld) (id : ℕ) (change : Object → Object) → IsAmong id f.looked → IsGentle change → StaysBut f before w → StaysBut f before (record w { bones = altered_bones id change w.bones })
  alter_stays w id change among gentle s = record {
    classes = s.classes;
    added = s.added;
    objects = λ n none. record {
      object = numbered_with n id change gentle.id w.bones.objects ∙ not_this (n == id) change (object_numbered n w.bones.objects) (other n id none among) ∙ (s.objects n none).object;
      past = (s.objects n none).past;
    };
    next = s.next;
  }

  pub point_stays : (w : ListWorld) (place : Place Histories Starts) (p : Point) (o : Object) → IsAmong o.id f.looked → StaysBut f before w → StaysBut f before (with_point lists place p o w)
  point_stays w place p o among s = record {
    classes = s.classes;
    added = s.added;
    objects = λ n none. record {
      object = (s.objects n none).object;
      past =
          kept_with n o.id (grown_past lists place p w.bones.classes o) w.pasts
          ∙ not_this (n == o.id) (grown_past lists place p w.bones.classes o) (kept_at n w.pasts) (other n o.id none among)
          ∙ (s.objects n none).past;
    };
    next = s.next;
  }

  -- with a number drawn nothing is said of the next one
  drew_then : {X : Type 0} → f.drew ≡ true → f.drew ≡ false → X
  drew_then drew none = let clash : true ≡ false = sym drew ∙ none in absurd (cc)

  pub new_stays : (w : ListWorld) (class : ℕ) (fields : List Value) → f.drew ≡ true → IsAmong w.bones.next f.looked → StaysBut f before w → StaysBut f before (with_new lists class fields w)
  new_stays w class fields drew among s = record {
    classes = s.classes;
    added = s.added;
    objects = λ n none. record {
      object =
          numbered_append n w.bones.objects (new ∷ [])
          ∙ ap (λ t. either_of (object_numbered n w.bones.objects) (cond t (Some new) None)) (apart n none)
          ∙ either_none (object_numbered n w.bones.objects) ∙ (s.objects n none).object;
      past =
          kept_append n w.pasts ((w.bones.next, past) ∷ [])
          ∙ ap (λ t. either_of (kept_at n w.pasts) (cond t (Some past) None)) (apart n none)
          ∙ either_none (kept_at n w.pasts) ∙ (s.objects n none).past;
    };
    next = drew_then drew;
  }
    where
      new : Object
      new = object_with (stamp_now w.bones) w.bones.next class fields

      past : Kept Histories Starts
      past = record { own = lists.empty; activations = [] }

      apart : (n : ℕ) → (IsAmong n f.looked → ⊥) → (w.bones.next == n) ≡ false
      apart n none = eq_swap w.bones.next n ∙ other n w.bones.next none among

  pub active_stays : (w : ListWorld) (id : ℕ) (t : Trigger) (args : List Value) → f.drew ≡ true → IsAmong id f.looked → StaysBut f before w → StaysBut f before (with_active lists id t args w)
  active_stays w id t args drew among s = record {
    classes = s.classes;
    added = s.added;
    objects = λ n none. record {
      object =
          numbered_with n id (with_activation t args w.bones.next) (λ o. refl) w.bones.objects
          ∙ not_this (n == id) (with_activation t args w.bones.next) (object_numbered n w.bones.objects) (other n id none among) ∙ (s.objects n none).object;
      past =
          kept_with n id (with_past lists w.bones.next) w.pasts ∙ not_this (n == id) (with_past lists w.bones.next) (kept_at n w.pasts) (other n id none among) ∙ (s.objects n none).past;
    };
    next = drew_then drew;
  }

-- what was collected stays, where no firing was collected or dropped
abbrev pub StaysCollected : Footprint → ListTx → ListTx → Type 0
StaysCollected f old x = f.queued ≡ false → x.collected ≡ old.collected

module _ (f : Footprint) (old : ListTx) where
  -- one transaction, whose world stays so
  abbrev pub Resting : ListTx → ListTx → Type 0
  Resting y x = (y ≡ x) × StaysBut f old.now x.now × StaysCollected f old x

  pub resting_agree : (y x : ListTx) → Resting y x → Agree f y x
  resting_agree y x r = subst (λ z. Agree f z x) (sym r.0) (agree_self f x)

  pub queued_then : {X : Type 0} → f.queued ≡ true → f.queued ≡ false → X
  queued_then queued none = let clash : true ≡ false = sym queued ∙ none in absurd (cc)

  abbrev pub resting : Meets f
  resting = record {
    Related = Resting;
    agree = resting_agree;
    foot = λ y x change r. (ap (footed change) r.0, r.1, r.2);
    line = λ y x line r. (ap (with_line line) r.0, r.1, r.2);
    collect = λ y x independent g r queued. (ap (with_entry independent g) r.0, r.1, queued_then queued);
    point = λ y x place id p o r among there.
        (ap (turned (with_point lists place p o)) r.0, point_stays f old.now x.now place p o (subst (λ n. IsAmong n f.looked) (sym (found_id x.now.bones id o there)) among) r.1, r.2);
    alter = λ y x id change r among gentle. (ap (altered id change) r.0, alter_stays f old.now x.now id change among gentle r.1, r.2);
  }

  abbrev pub still : Steady f
  still = record {
    meets = resting;
    statement = λ y x r. (ap with_statement r.0, r.1, r.2);
    touch = λ y x id r among. (ap (touching id) r.0, r.1, r.2);
    defer = λ y x g r. (ap (with_deferred g) r.0, r.1, r.2);
    hold = λ y x id o keys r among there of. (ap (holding keys) r.0, r.1, r.2);
    new = λ y x class fields r drew among.
        (ap (λ z. turned (with_new lists class fields) (holding (new_keys x.now.bones.next) z)) r.0, new_stays f old.now x.now class fields drew among r.1, r.2);
    active = λ y x id t args r drew among.
        (ap (λ z. turned (with_active lists id t args) (holding (active_keys id x.now.bones.next) z)) r.0, active_stays f old.now x.now id t args drew among r.1, r.2);
    new_count = λ y x r. ap (λ (z : ListTx). key_count (holding (new_keys z.now.bones.next) z)) r.0;
    active_count = λ y x id r. ap (λ (z : ListTx). key_count (holding (active_keys id z.now.bones.next) z)) r.0;
  }

  pub resting_self : Resting old old
  resting_self = (refl, record { classes = refl; added = refl; objects = λ id none. record { object = refl; past = refl }; next = λ drew. refl }, λ none. refl)
