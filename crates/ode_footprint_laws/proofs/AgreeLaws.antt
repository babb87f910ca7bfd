-- Worlds that agree on a footprint, behind one change of both.
use Rattle.std.proofs.Common.{◌≡◌, ℕ, ◌+◌, Bool, true, cond, List, [], ◌∷◌, ◌++◌, length, ◌==◌, refl, sym, ap, ◌∙◌}
use Rattle.std.specs.List.{fold}
use Rattle.std.specs.Option.{option_map}
use Rattle.ode_footprint_laws.proofs.Lookups.{either_of, kept_append, kept_with, numbered_append, numbered_with}
use Rattle.ode_footprint_laws.proofs.Meets.{Meets}
use Rattle.ode_footprint_laws.specs.Agreeing.{Agree, AgreeOn}
use Rattle.ode_laws.proofs.AlikePairs.{IsGentle, altered_bones}
use Rattle.ode_laws.proofs.Sides.{turned}
use Rattle.ode_value.specs.declared.event.Point.{Point}
use Rattle.ode_value.specs.declared.key.Key.{Key}
use Rattle.ode_value.specs.declared.value.Value.{Value}
use Rattle.ode_value.specs.Acts.{with_line, with_statement}
use Rattle.ode_value.specs.Changes.{holding, with_key}
use Rattle.ode_value.specs.Classes.{Trigger}
use Rattle.ode_value.specs.Denoting.{object_numbered}
use Rattle.ode_value.specs.Firings.{Place, grown_past, with_point}
use Rattle.ode_value.specs.Footprints.{Footprint}
use Rattle.ode_value.specs.Language.{ListTx, ListWorld}
use Rattle.ode_value.specs.Making.{object_with, stamp_now, with_activation, with_active, with_new, with_past}
use Rattle.ode_value.specs.Objects.{Histories, Starts}
use Rattle.ode_value.specs.Pasts.{Kept, lists}
use Rattle.ode_value.specs.Posting.{entry_of, with_deferred, with_entry}
use Rattle.ode_value.specs.Transactions.{Firing, footed, generation_of, touching}
use Rattle.ode_value.specs.Worlds.{Declared, Object, kept_at}

module _ (f : Footprint) where
  -- ---- worlds

  pub on_alter : (v w : ListWorld) (id : ℕ) (change : Object → Object) → IsGentle change → AgreeOn f v w
      → AgreeOn f (record v { bones = altered_bones id change v.bones }) (record w { bones = altered_bones id change w.bones })
  on_alter v w id change gentle a = record {
    classes = a.classes;
    added = a.added;
    objects = λ n among. record {
      object =
          numbered_with n id change gentle.id v.bones.objects
          ∙ ap (option_map (λ o. cond (n == id) (change o) o)) (a.objects n among).object
          ∙ sym (numbered_with n id change gentle.id w.bones.objects);
      past = (a.objects n among).past;
    };
    next = a.next;
  }

  pub on_point : (v w : ListWorld) (place : Place Histories Starts) (p : Point) (o : Object) → AgreeOn f v w → AgreeOn f (with_point lists place p o v) (with_point lists place p o w)
  on_point v w place p o a = record {
    classes = a.classes;
    added = a.added;
    objects = λ n among. record {
      object = (a.objects n among).object;
      past =
          kept_with n o.id (grown_past lists place p v.bones.classes o) v.pasts
          ∙ ap (λ cs. option_map (chosen n cs) (kept_at n v.pasts)) a.classes
          ∙ ap (option_map (chosen n w.bones.classes)) (a.objects n among).past
          ∙ sym (kept_with n o.id (grown_past lists place p w.bones.classes o) w.pasts);
    };
    next = a.next;
  }
    where
      chosen : ℕ → List Declared → Kept Histories Starts → Kept Histories Starts
      chosen n cs k = cond (n == o.id) (grown_past lists place p cs o k) k

  pub on_new : (v w : ListWorld) (class : ℕ) (fields : List Value) → f.drew ≡ true → AgreeOn f v w → AgreeOn f (with_new lists class fields v) (with_new lists class fields w)
  on_new v w class fields drew a = record {
    classes = a.classes;
    added = a.added;
    objects = λ n among. record {
      object =
          numbered_append n v.bones.objects (one (stamp_now v.bones) v.bones.next)
          ∙ ap (λ o. either_of o (object_numbered n (one (stamp_now v.bones) v.bones.next))) (a.objects n among).object
          ∙ ap (λ fs. either_of (object_numbered n w.bones.objects) (object_numbered n (one (length fs) v.bones.next))) a.added
          ∙ ap (λ i. either_of (object_numbered n w.bones.objects) (object_numbered n (one (stamp_now w.bones) i))) (a.next drew)
          ∙ sym (numbered_append n w.bones.objects (one (stamp_now w.bones) w.bones.next));
      past =
          kept_append n v.pasts (row v.bones.next)
          ∙ ap (λ k. either_of k (kept_at n (row v.bones.next))) (a.objects n among).past
          ∙ ap (λ i. either_of (kept_at n w.pasts) (kept_at n (row i))) (a.next drew)
          ∙ sym (kept_append n w.pasts (row w.bones.next));
    };
    next = λ drew. ap (λ i. i + 1) (a.next drew);
  }
    where
      one : ℕ → ℕ → List Object
      one stamp id = object_with stamp id class fields ∷ []

      row : ℕ → List (ℕ × Kept Histories Starts)
      row id = (id, record { own = lists.empty; activations = [] }) ∷ []

  pub on_active : (v w : ListWorld) (id : ℕ) (t : Trigger) (args : List Value) → f.drew ≡ true → AgreeOn f v w → AgreeOn f (with_active lists id t args v) (with_active lists id t args w)
  on_active v w id t args drew a = record {
    classes = a.classes;
    added = a.added;
    objects = λ n among. record {
      object =
          numbered_with n id (with_activation t args v.bones.next) (λ o. refl) v.bones.objects
          ∙ ap (option_map (chosen n v.bones.next)) (a.objects n among).object
          ∙ ap (λ i. option_map (chosen n i) (object_numbered n w.bones.objects)) (a.next drew)
          ∙ sym (numbered_with n id (with_activation t args w.bones.next) (λ o. refl) w.bones.objects);
      past =
          kept_with n id (with_past lists v.bones.next) v.pasts
          ∙ ap (option_map (kept_one n v.bones.next)) (a.objects n among).past
          ∙ ap (λ i. option_map (kept_one n i) (kept_at n w.pasts)) (a.next drew)
          ∙ sym (kept_with n id (with_past lists w.bones.next) w.pasts);
    };
    next = λ drew. ap (λ i. i + 1) (a.next drew);
  }
    where
      chosen : ℕ → ℕ → Object → Object
      chosen n i o = cond (n == id) (with_activation t args i o) o

      kept_one : ℕ → ℕ → Kept Histories Starts → Kept Histories Starts
      kept_one n i k = cond (n == id) (with_past lists i k) k

  -- ---- transactions

  -- with other worlds now
  pub agree_turned : (y x : ListTx) (g h : ListWorld → ListWorld) → Agree f y x → AgreeOn f (g y.now) (h x.now) → Agree f (turned g y) (turned h x)
  agree_turned y x g h a now = record {
    first = a.first;
    now = now;
    origin = a.origin;
    touched = a.touched;
    deferred = a.deferred;
    collected = a.collected;
    gathered = a.gathered;
    text = a.text;
    run = a.run;
    keys = a.keys;
    footprint = a.footprint;
  }

  pub agree_foot : (y x : ListTx) (change : Footprint → Footprint) → Agree f y x → Agree f (footed change y) (footed change x)
  agree_foot y x change a = record {
    first = a.first;
    now = a.now;
    origin = a.origin;
    touched = a.touched;
    deferred = a.deferred;
    collected = a.collected;
    gathered = a.gathered;
    text = a.text;
    run = a.run;
    keys = a.keys;
    footprint = ap change a.footprint;
  }

  pub agree_line : (y x : ListTx) (line : List ℕ) → Agree f y x → Agree f (with_line line y) (with_line line x)
  agree_line y x line a = record {
    first = a.first;
    now = a.now;
    origin = a.origin;
    touched = a.touched;
    deferred = a.deferred;
    collected = a.collected;
    gathered = a.gathered;
    text = ap (λ text. text ++ line) a.text;
    run = a.run;
    keys = a.keys;
    footprint = a.footprint;
  }

  pub agree_collect : (y x : ListTx) (independent : Bool) (g : Firing) → Agree f y x → Agree f (with_entry independent g y) (with_entry independent g x)
  agree_collect y x independent g a = record {
    first = a.first;
    now = a.now;
    origin = a.origin;
    touched = a.touched;
    deferred = a.deferred;
    collected =
        ap (λ cs. cs ++ record { entry = entry_of (generation_of y.origin + 1) g; independent = independent } ∷ []) a.collected
        ∙ ap (λ o. x.collected ++ record { entry = entry_of (generation_of o + 1) g; independent = independent } ∷ []) a.origin;
    gathered = ap (λ n. n + 1) a.gathered;
    text = a.text;
    run = a.run;
    keys = a.keys;
    footprint = a.footprint;
  }

  pub agree_statement : (y x : ListTx) → Agree f y x → Agree f (with_statement y) (with_statement x)
  agree_statement y x a = record {
    first = a.first;
    now = a.now;
    origin = a.origin;
    touched = a.touched;
    deferred = a.deferred;
    collected = a.collected;
    gathered = a.gathered;
    text = a.text;
    run = ap (λ n. n + 1) a.run;
    keys = a.keys;
    footprint = a.footprint;
  }

  pub agree_touch : (y x : ListTx) (id : ℕ) → Agree f y x → Agree f (touching id y) (touching id x)
  agree_touch y x id a = record {
    first = a.first;
    now = a.now;
    origin = a.origin;
    touched = ap (λ ids. ids ++ id ∷ []) a.touched;
    deferred = a.deferred;
    collected = a.collected;
    gathered = a.gathered;
    text = a.text;
    run = a.run;
    keys = a.keys;
    footprint = a.footprint;
  }

  pub agree_defer : (y x : ListTx) (g : Firing) → Agree f y x → Agree f (with_deferred g y) (with_deferred g x)
  agree_defer y x g a = record {
    first = a.first;
    now = a.now;
    origin = a.origin;
    touched = a.touched;
    deferred = ap (λ gs. gs ++ g ∷ []) a.deferred;
    collected = a.collected;
    gathered = a.gathered;
    text = a.text;
    run = a.run;
    keys = a.keys;
    footprint = a.footprint;
  }

  pub agree_hold : (y x : ListTx) (keys : List Key) → Agree f y x → Agree f (holding keys y) (holding keys x)
  agree_hold y x keys a = record {
    first = a.first;
    now = a.now;
    origin = a.origin;
    touched = a.touched;
    deferred = a.deferred;
    collected = a.collected;
    gathered = a.gathered;
    text = a.text;
    run = a.run;
    keys = ap (λ ks. fold with_key ks keys) a.keys;
    footprint = a.footprint;
  }

  -- a world with a change of an object
  abbrev altered_world : ℕ → (Object → Object) → ListWorld → ListWorld
  altered_world id change w = record w { bones = altered_bones id change w.bones }

  -- agreement alone is kept by what a settling does
  abbrev pub agreeing : Meets f
  agreeing = record {
    Related = Agree f;
    agree = λ y x a. a;
    foot = agree_foot;
    line = agree_line;
    collect = λ y x independent g a queued. agree_collect y x independent g a;
    point = λ y x place id p o a among there. agree_turned y x (with_point lists place p o) (with_point lists place p o) a (on_point y.now x.now place p o a.now);
    alter = λ y x id change a among gentle. agree_turned y x (altered_world id change) (altered_world id change) a (on_alter y.now x.now id change gentle a.now);
  }

-- two worlds that agree on a footprint agree with others in turn
pub on_then : (f : Footprint) (u v w : ListWorld) → AgreeOn f u v → AgreeOn f v w → AgreeOn f u w
on_then f u v w a b = record {
  classes = a.classes ∙ b.classes;
  added = a.added ∙ b.added;
  objects = λ n among. record { object = (a.objects n among).object ∙ (b.objects n among).object; past = (a.objects n among).past ∙ (b.objects n among).past };
  next = λ drew. a.next drew ∙ b.next drew;
}

pub on_self : (f : Footprint) (w : ListWorld) → AgreeOn f w w
on_self f w = record { classes = refl; added = refl; objects = λ n among. record { object = refl; past = refl }; next = λ drew. refl }

-- a transaction agrees with itself
pub agree_self : (f : Footprint) (x : ListTx) → Agree f x x
agree_self f x = record {
  first = record { worlds = on_self f x.first; waiting = λ queued. refl; next_entry = λ queued. refl };
  now = on_self f x.now;
  origin = refl;
  touched = refl;
  deferred = refl;
  collected = refl;
  gathered = refl;
  text = refl;
  run = refl;
  keys = refl;
  footprint = refl;
}
