-- What an activation watches for, where the classes are checked anew with the fields of a change.
use Rattle.std.proofs.Common.{◌≡◌, ℕ, zero, suc, Bool, true, false, cond, List, [], ◌∷◌, length, Option, Some, None, refl, ap, sym, ◌∙◌}
use Rattle.std.specs.Prelude.{◌==◌, slice_get}
use Rattle.std.specs.List.{AllZip}
use Rattle.std.specs.Option.{IfSome, option_and_then, option_map}
use Rattle.std.proofs.lemmas.Bool.Decides.{Decides-eqb}
use Rattle.ode_value.specs.declared.class.Class.{Class}
use Rattle.ode_value.specs.declared.class.Field.{Field}
use Rattle.ode_value.specs.declared.event.EventExpr.{EventExpr}
use Rattle.ode_value.specs.declared.member.TriggerDecl.{TriggerDecl}
use Rattle.ode_value.specs.Classes.{trigger_of, watch_of}
use Rattle.ode_value.specs.Firings.{watch_by}
use Rattle.ode_value.specs.Moving.{moved_event}
use Rattle.ode_value.specs.Objects.{Activation}
use Rattle.ode_value.specs.Pasts.{Watch}
use Rattle.ode_value.specs.Worlds.{Declared, class_numbered}
use Rattle.ode_change_laws.specs.Moves.{AreAnew, IsAnew, IsWatched, event_where, moved_watch}

abbrev watch_with : (EventExpr → EventExpr) → Watch → Watch
watch_with f w = record w { event = f w.event }

module _ (f : EventExpr → EventExpr) (class place : ℕ) (a : Activation) where
  abbrev watch_in : TriggerDecl → Watch
  watch_in t = watch_of (trigger_of class (place, t)) a.args

  watch-at : (ts us : List TriggerDecl) → AllZip (IsAnew f) ts us → (k : ℕ) → option_map watch_in (slice_get us k) ≡ option_map (watch_with f) (option_map watch_in (slice_get ts k))
  watch-at [] [] all zero = refl
  watch-at [] [] all (suc k) = refl
  watch-at [] (u ∷ us) all k = absurd all
  watch-at (t ∷ ts) [] all k = absurd all
  watch-at (t ∷ ts) (u ∷ us) all zero =
      let is = all.0 in
      λ i. Some (record { class = class; trigger = place; event = is.event i; whole = is.whole i; args = a.args })
  watch-at (t ∷ ts) (u ∷ us) all (suc k) = watch-at ts us all.1 k

-- the same by a class that may be there
joined : (class place : ℕ) (a : Activation) (x : Option TriggerDecl)
    → option_map (λ t. watch_of t a.args) (option_map (λ t. trigger_of class (place, t)) x) ≡ option_map (watch_in (λ e. e) class place a) x
joined class place a None = refl
joined class place a (Some t) = refl

module _ (at : ℕ) (new : List Field) (test : ℕ → Bool) (a : Activation) where
  abbrev f : EventExpr → EventExpr
  f = event_where at (length new) (test a.class)

  abbrev watched_in : Option Class → Option Watch
  watched_in x = option_map (λ t. watch_of t a.args) (option_map (λ t. trigger_of a.class (a.trigger, t)) (option_and_then (λ (c : Class). slice_get c.triggers a.trigger) x))

  watch-anew : (cs ds : List Declared) → AreAnew at new test cs ds → watch_by ds a ≡ option_map (watch_with f) (watch_by cs a)
  watch-anew [] [] all = refl
  watch-anew [] (d ∷ ds) all = absurd all
  watch-anew (c ∷ cs) [] all = absurd all
  watch-anew (c ∷ cs) (d ∷ ds) all =
      ap (λ n. watched_in (cond (n == a.class) (Some d.class) (class_numbered a.class ds))) all.0.number ∙ by (c.class.number == a.class) refl (watch-anew cs ds all.1)
    where
      by : (t : Bool) → (c.class.number == a.class) ≡ t → watch_by ds a ≡ option_map (watch_with f) (watch_by cs a)
          → watched_in (cond t (Some d.class) (class_numbered a.class ds)) ≡ option_map (watch_with f) (watched_in (cond t (Some c.class) (class_numbered a.class cs)))
      by true here rest =
          let g = event_where at (length new) (test c.class.number) in
          let same : g ≡ f = ap (λ n. event_where at (length new) (test n)) ((Decides-eqb c.class.number a.class).0 here) in
          joined a.class a.trigger a (slice_get d.class.triggers a.trigger)
          ∙ watch-at g a.class a.trigger a c.class.triggers d.class.triggers all.0.triggers a.trigger
          ∙ ap (λ h. option_map (watch_with h) (option_map (watch_in (λ e. e) a.class a.trigger a) (slice_get c.class.triggers a.trigger))) same
          ∙ ap (option_map (watch_with f)) (sym (joined a.class a.trigger a (slice_get c.class.triggers a.trigger)))
      by false here rest = rest

-- by whether the trigger's class gets the fields, and whether the object does
module _ (at more : ℕ) where
  watched-by : (t g : Bool) → (t ≡ true → g ≡ true) → (old now : Option Watch) → now ≡ option_map (watch_with (event_where at more t)) old
      → (g ≡ true → t ≡ false → IfSome old (λ w. moved_event at more w.event ≡ w.event)) → now ≡ cond g (option_map (moved_watch at more) old) old
  watched-by true true up old now is low = is
  watched-by true false up old now is low = absurd (cc (up refl))
  watched-by false true up None now is low = is
  watched-by false true up (Some w) now is low = is ∙ (λ i. Some (record w { event = sym (low refl refl) i }))
  watched-by false false up None now is low = is
  watched-by false false up (Some w) now is low = is

  as-watched : (old new : List Declared) (g : Bool) (a : Activation) → watch_by new a ≡ cond g (option_map (moved_watch at more) (watch_by old a)) (watch_by old a) → IsWatched at more old new g a
  as-watched old new true a is = is
  as-watched old new false a is = is

-- An activation of an object: where its trigger's class gets the fields the object does, since it inherits from that class; and where
-- only the object does, the masks name fields before the new ones.
pub watched : (at : ℕ) (new : List Field) (test : ℕ → Bool) (cs ds : List Declared) → AreAnew at new test cs ds → (class : ℕ) (a : Activation)
    → (test a.class ≡ true → test class ≡ true)
    → (test class ≡ true → test a.class ≡ false → IfSome (watch_by cs a) (λ w. moved_event at (length new) w.event ≡ w.event))
    → IsWatched at (length new) cs ds (test class) a
watched at new test cs ds anew class a up low =
    as-watched at (length new) cs ds (test class) a
    (watched-by at (length new) (test a.class) (test class) up (watch_by cs a) (watch_by ds a) (watch-anew at new test a cs ds anew) low)
