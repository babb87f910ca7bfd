-- Good worlds fit; whole transactions and drains leave worlds that fit.
use Rattle.std.proofs.Common.{◌≡◌, ℕ, zero, suc, ◌<◌, Bool, true, false, cond, List, [], ◌∷◌, map, Option, Some, None, refl, sym, ap, ◌∙◌, subst, arith}
use Rattle.std.specs.Prelude.{nat_lt}
use Rattle.std.specs.List.{AllByRecursion}
use Rattle.std.specs.Option.{IsSome, IsSomeAnd, option_and_then}
use Rattle.ode_value.specs.declared.class.Class.{Class}
use Rattle.ode_value.specs.declared.event.Kind.{Kind}
use Rattle.ode_value.specs.declared.statement.Stmt.{Stmt}
use Rattle.ode_value.specs.declared.value.Ref.{Ref}
use Rattle.ode_value.specs.declared.value.Value.{Value}
use Rattle.ode_value.specs.Acts.{Outcome, Done, Aborted, Deed, go_on}
use Rattle.ode_value.specs.Classes.{Trigger, trigger_at}
use Rattle.ode_value.specs.Completing.{completes}
use Rattle.ode_value.specs.Denoting.{object_numbered, object_at, if_live}
use Rattle.ode_value.specs.Draining.{runs_entry, entry_settled, front, drain}
use Rattle.ode_value.specs.Executing.{commands, first_actions}
use Rattle.ode_value.specs.Fitting.{FitFields, HaveTrigger, trigger_in}
use Rattle.ode_value.specs.GoodWorlds.{IsVersion, IsActivation, IsObject, IsEntry, activation_of, IsGood}
use Rattle.ode_value.specs.Language.{Language, ListWorld}
use Rattle.ode_value.specs.Limits.{number_limit}
use Rattle.ode_value.specs.Objects.{Activation}
use Rattle.ode_value.specs.Pasts.{Past}
use Rattle.ode_value.specs.Posting.{posts, runs, touches}
use Rattle.ode_value.specs.Settling.{Settled, settle, transaction}
use Rattle.ode_value.specs.Transactions.{Tx, Firing, Origin, Queue, begun}
use Rattle.ode_value.specs.Versions.{Version}
use Rattle.ode_value.specs.Worlds.{Entry, Object, Bones, World, class_numbered, empty_bones}
use Rattle.ode_laws.proofs.AlikePairs.{all_found}
use Rattle.ode_laws.proofs.BornLaws.{classes_born}
use Rattle.ode_laws.proofs.Each.{all-then}
use Rattle.ode_sound_laws.specs.Fits.{alive, all_alive, FitsVersion, FitsWorld, FitsEntry, FitsFiring, FitsLiteral}
use Rattle.ode_types.specs.Kept.{IsTypedStatement}
use Rattle.ode_sound_laws.specs.Sound.{AreSound, checked_classes}
use Rattle.ode_sound_laws.specs.Typed.{IsWhole, IsTypedWorld, AreFromOne, IsTyped, StaysTyped}
use Rattle.ode_sound_laws.proofs.Basics.{if_some_at}
use Rattle.ode_sound_laws.proofs.GrowLaws.{grows_itself}
use Rattle.ode_sound_laws.proofs.SettleLaws.{both, commit_typed, abort_typed}
use Rattle.ode_sound_laws.proofs.WalkActs.{Any, Ends}
use Rattle.ode_sound_laws.proofs.WalkCompleting.{completes_ends, entry_ends}
use Rattle.ode_sound_laws.proofs.WalkPosting.{runs_ends, posts_ends, touches_ends}
use Rattle.ode_sound_laws.proofs.WalkStatements.{first_fits, commands_ends}

-- ---- good worlds

pub alive_same : (os : List Object) → AllByRecursion (λ (o : Object). o.live ≡ true) os → map alive os ≡ os
alive_same [] all = refl
alive_same (o ∷ os) all = ap (λ t. record o { live = t } ∷ map alive os) (sym all.0) ∙ ap (λ ps. o ∷ ps) (alive_same os all.1)

some_class : (m : Option Class) → IsSome m → (c : Class) × (m ≡ Some c)
some_class (Some c) is = (c, refl)
some_class None is = absurd (cc)

module _ (b : Bones) (live : all_alive b ≡ b) where
  version_fits : (c : Class) (last : ℕ) (v : Version) → 0 < v.number → IsVersion b c last v → FitsVersion b c last v
  version_fits c last v some is = record { some = some; number = is.number; parent = is.parent; stamp = is.stamp; fields = subst (λ d. FitFields d c.fields v.fields) (sym live) is.fields; later = is.later }

  object_fits : (o : Object) → IsObject b o → AllByRecursion (λ (v : Version). 0 < v.number) o.versions → FitsWorld b o
  object_fits o is some =
      let c = some_class (class_numbered o.class b.classes) is.class in
      record {
        number = is.number;
        class = c.0;
        known = c.1;
        last = is.last;
        versions = all-then (λ (v : Version). (0 < v.number) × IsVersion b c.0 o.last v) (FitsVersion b c.0 o.last) (λ v h. version_fits c.0 o.last v h.0 h.1) o.versions
            (both (λ (v : Version). 0 < v.number) (IsVersion b c.0 o.last) o.versions some (if_some_at (λ d. AllByRecursion (IsVersion b d o.last) o.versions) (class_numbered o.class b.classes) is.versions c.0 c.1));
        activations = all-then (IsActivation b o.class) (λ (a : Activation). HaveTrigger (all_alive b) a.args (trigger_in b.classes o.class a))
            (λ a h. subst (λ d. HaveTrigger d a.args (trigger_in b.classes o.class a)) (sym live) h.trigger) o.activations is.activations;
      }

  some_and_of : (m : Option Trigger) → IsSome m → IsSomeAnd m (λ t. Unit {0})
  some_and_of (Some t) is = tt
  some_and_of None is = absurd (cc)

  live_at : (id : ℕ) (o : Object) → o.live ≡ true → object_numbered id b.objects ≡ Some o → object_at b id ≡ Some o
  live_at id o is e = ap (option_and_then if_live) e ∙ ap (λ t. cond t (Some o) None) is

  entry_fits : AllByRecursion (λ (o : Object). o.live ≡ true) b.objects → (q : ℕ × Entry) → IsEntry b q → FitsEntry b q.1
  entry_fits all q is = record {
    trigger = subst (λ d. HaveTrigger d q.1.args (trigger_at b.classes q.1.class q.1.trigger)) (sym live) is.trigger;
    drawn = is.object;
    object = λ o there.
        some_and_of (trigger_in b.classes o.class (activation_of q.1))
        (if_some_at (λ (p : Object). IsSome (trigger_in b.classes p.class (activation_of q.1))) (object_at b q.1.object) is.fits o (live_at q.1.object o (all_found (λ (p : Object). p.live ≡ true) q.1.object b.objects all o there) there));
  }

pub good_typed : (l : Language) (w : ListWorld) → IsGood l w → AreSound w.bones.classes → AreFromOne w.bones → IsTypedWorld w.bones
good_typed l w good sound ones =
    let live : AllByRecursion (λ (o : Object). o.live ≡ true) w.bones.objects = all-then (IsObject w.bones) (λ (o : Object). o.live ≡ true) (λ o is. is.live) w.bones.objects good.bones.objects in
    let same : all_alive w.bones ≡ w.bones = ap (λ os. record w.bones { objects = os }) (alive_same w.bones.objects live) in
    record {
      sound = sound;
      fit = record {
        next = good.bones.next;
        rising = good.bones.rising;
        born = classes_born l w.bones.added [] w.bones.classes good.bones.classes;
        objects = all-then (λ (o : Object). IsObject w.bones o × AllByRecursion (λ (v : Version). 0 < v.number) o.versions) (FitsWorld w.bones) (λ o h. object_fits w.bones same o h.0 h.1) w.bones.objects
            (both (IsObject w.bones) (λ (o : Object). AllByRecursion (λ (v : Version). 0 < v.number) o.versions) w.bones.objects good.bones.objects ones);
      };
      whole = all-then (IsObject w.bones) IsWhole (λ o is. record { live = is.live; on = all-then (IsActivation w.bones o.class) (λ (a : Activation). a.on ≡ true) (λ a h. h.on) o.activations is.activations }) w.bones.objects good.bones.objects;
      queue = all-then (IsEntry w.bones) (λ (q : ℕ × Entry). FitsEntry w.bones q.1) (entry_fits w.bones same live) w.bones.queue good.bones.queue;
    }

-- ---- a fresh database

-- no classes are sound
sound_none : AreSound []
sound_none = record {
  inherited = λ number sub name e f. absurd (cc);
  named = λ name c e. absurd (cc);
  numbered = λ number c e. absurd (cc);
  itself = λ c known. let none = known.named in absurd (cc);
  fields = λ number c d known e. absurd (cc);
  apart = λ c known. let none = known.named in absurd (cc);
  sorts = λ c known. let none = known.named in absurd (cc);
  methods = λ number c known e. absurd (cc);
  activated = λ number c known e. absurd (cc);
  triggers = λ number. tt;
  declared = λ class place t e. absurd (cc);
}

pub fresh_typed : IsTypedWorld empty_bones
fresh_typed = record { sound = sound_none; fit = record { next = record { some = omega arith; bounded = omega arith }; rising = tt; born = tt; objects = tt }; whole = tt; queue = tt }

-- ---- acts

module _ {O A : Type 0} where
  pub stays : {X : Type 0} (b : Bones) (post : Bones → X → Type 0) (o : Outcome O A X) → Ends b post o → StaysTyped o
  stays b post (Done r y) h = h.0
  stays b post (Aborted reason y) h = h

  stays_then : (o : Outcome O A (Unit {0})) → StaysTyped o → (f : Deed O A) → ((y : Tx O A) → IsTyped y → StaysTyped (f y)) → StaysTyped (go_on o (λ u. f))
  stays_then (Done r y) h f rest = rest y h
  stays_then (Aborted reason y) h f rest = h

  pub begun_typed : (origin : Origin) (w : World O A) → IsTypedWorld w.bones → IsTyped (begun origin w)
  begun_typed origin w h = record { sound = h.sound; grows = grows_itself w.bones; first = h.fit; waiting = h.queue; now = h.fit; deferred = tt; collected = tt }

  module _ (past : Past O A) where
    pub statement_typed : (x : Tx O A) → IsTyped x → (literals : List (Ref × ℕ)) → AllByRecursion (FitsLiteral x.now.bones) literals → (s : Stmt) → IsTypedStatement (checked_classes x.now.bones.classes) literals s → StaysTyped (commands past s x)
    statement_typed x h literals known s typed = stays x.now.bones (Any (Unit {0})) (commands past s x) (commands_ends past literals s x h typed known)

    pub touch_typed : (x : Tx O A) → IsTyped x → (id : ℕ) → StaysTyped (touches past (first_actions past) id x)
    touch_typed x h id = stays x.now.bones (Any (Unit {0})) (touches past (first_actions past) id x) (touches_ends past (first_actions past) (first_fits past) id x h)

    pub point_typed : (x : Tx O A) → IsTyped x → (id : ℕ) (kind : Kind) (args : List Value) → StaysTyped (posts past (first_actions past) id kind args x)
    point_typed x h id kind args = stays x.now.bones (Any (Unit {0})) (posts past (first_actions past) id kind args x) (posts_ends past (first_actions past) (first_fits past) id kind args x h)

    pub firing_typed : (x : Tx O A) → IsTyped x → (f : Firing) → FitsFiring x.now.bones f → StaysTyped (runs (first_actions past) f x)
    firing_typed x h f fits = stays x.now.bones (Any (Unit {0})) (runs (first_actions past) f x) (runs_ends (first_actions past) (first_fits past) f x h fits)

    pub completion_typed : (x : Tx O A) → IsTyped x → StaysTyped (completes past x)
    completion_typed x h = stays x.now.bones (Any (Unit {0})) (completes past x) (completes_ends past x h)

    -- ---- transactions

    pub settle_typed : (o : Outcome O A (Unit {0})) → StaysTyped o → IsTypedWorld (settle past o).0.bones
    settle_typed (Done r x) h = commit_typed past x h
    settle_typed (Aborted reason x) h = abort_typed past reason x h

    pub whole_typed : (origin : Origin) (work : Deed O A) (w : World O A) → IsTypedWorld w.bones → StaysTyped (work (begun origin w)) → IsTypedWorld (transaction past origin work w).0.bones
    unfolding transaction
    whole_typed origin work w h does = settle_typed (go_on (work (begun origin w)) (λ u. completes past)) (stays_then (work (begun origin w)) does (completes past) completion_typed)

    pub entry_typed : (w : World O A) → IsTypedWorld w.bones → (q : ℕ × Entry) → FitsEntry w.bones q.1 → IsTypedWorld (entry_settled past w q).0.bones
    entry_typed w h q fits =
        whole_typed (Queue q.0 q.1.generation) (runs_entry past q.1) w h
        (stays w.bones (Any (Unit {0})) (runs_entry past q.1 (begun (Queue q.0 q.1.generation) w)) (entry_ends past q.1 (begun (Queue q.0 q.1.generation) w) (begun_typed (Queue q.0 q.1.generation) w h) fits))

    pub drain_typed : (most : ℕ) (w : World O A) → IsTypedWorld w.bones → AllByRecursion (λ (s : Settled O A). IsTypedWorld s.0.bones) (drain past most w)
    unfolding drain
    drain_typed zero w h = tt
    drain_typed (suc most) w h = by_queue w.bones.queue h.queue (λ s typed. (typed, drain_typed most s.0 typed)) where
      by_room : (q : ℕ × Entry) → FitsEntry w.bones q.1 → (t : Bool) → ((s : Settled O A) → IsTypedWorld s.0.bones → AllByRecursion (λ (s : Settled O A). IsTypedWorld s.0.bones) (s ∷ drain past most s.0))
          → AllByRecursion (λ (s : Settled O A). IsTypedWorld s.0.bones) (cond t (entry_settled past w q ∷ drain past most (entry_settled past w q).0) [])
      by_room q fits true rest = rest (entry_settled past w q) (entry_typed w h q fits)
      by_room q fits false rest = tt

      by_queue : (qs : List (ℕ × Entry)) → AllByRecursion (λ (q : ℕ × Entry). FitsEntry w.bones q.1) qs → ((s : Settled O A) → IsTypedWorld s.0.bones → AllByRecursion (λ (s : Settled O A). IsTypedWorld s.0.bones) (s ∷ drain past most s.0))
          → AllByRecursion (λ (s : Settled O A). IsTypedWorld s.0.bones) (front past qs w (λ s. s ∷ drain past most s.0))
      by_queue [] all rest = tt
      by_queue (q ∷ qs) all rest = by_room q all.0 (nat_lt w.bones.transaction number_limit) rest
