-- Completion of typed transactions, and the work of entries.
use Rattle.std.proofs.Common.{◌≡◌, ℕ, zero, suc, Bool, true, false, cond, List, [], ◌∷◌, Option, Some, None, refl, sym, ap, ◌∙◌, subst}
use Rattle.std.specs.Prelude.{nat_le, slice_get}
use Rattle.std.specs.Option.{IsSomeAnd, option_and_then}
use Rattle.ode_value.specs.declared.class.Class.{Class}
use Rattle.ode_value.specs.declared.event.Kind.TheVariants.{TComplete}
use Rattle.ode_value.specs.declared.member.TriggerDecl.{TriggerDecl}
use Rattle.ode_value.specs.declared.reason.Reason.TheVariants.{Space}
use Rattle.ode_value.specs.Acts.{Done, Aborted, Deed, ◌>>=◌, ◌>>◌, when, finds}
use Rattle.ode_value.specs.Changes.{is_live}
use Rattle.ode_value.specs.Classes.{Trigger, trigger_of, trigger_at}
use Rattle.ode_value.specs.Completing.{rounds, tests_object, tests_touched, tests_all, weighs, posts_tcomplete, round, goes_round, completes}
use Rattle.ode_value.specs.Denoting.{object_at}
use Rattle.ode_value.specs.Draining.{firing_in, runs_entry}
use Rattle.ode_value.specs.Executing.{first_actions}
use Rattle.ode_value.specs.Fitting.{HaveTrigger, trigger_in}
use Rattle.ode_value.specs.Keeping.{kept_bones}
use Rattle.ode_value.specs.Limits.{weight_limit}
use Rattle.ode_value.specs.Pasts.{Past}
use Rattle.ode_value.specs.Posting.{posts, runs, touches}
use Rattle.ode_value.specs.Transactions.{Tx, Firing, looking}
use Rattle.ode_value.specs.Weights.{weight}
use Rattle.ode_value.specs.Worlds.{Declared, Entry, Object, Bones, class_numbered}
use Rattle.ode_sound_laws.specs.Typed.{IsTyped}
use Rattle.ode_sound_laws.specs.Fits.{all_alive, FitsEntry, FitsFiring}
use Rattle.ode_sound_laws.proofs.Basics.{all_at, map_some}
use Rattle.ode_sound_laws.proofs.FitLaws.{entry_follows}
use Rattle.ode_sound_laws.proofs.GrowLaws.{grows_itself}
use Rattle.ode_sound_laws.proofs.WalkActs.{Any, Ends, ends_then, found_ends, when_ends, look_typed}
use Rattle.ode_sound_laws.proofs.WalkCalls.{each_any, soft_ends}
use Rattle.ode_sound_laws.proofs.WalkPosting.{runs_ends, posts_ends, touches_ends}
use Rattle.ode_sound_laws.proofs.WalkStatements.{first_fits}

-- the trigger at a place has that place
pub placed : (cs : List Declared) (class place : ℕ) (t : Trigger) → trigger_at cs class place ≡ Some t → (t.class ≡ class) × (t.place ≡ place)
placed cs class place t e =
    let it = map_some (λ (d : TriggerDecl). trigger_of class (place, d)) (option_and_then (λ (c : Class). slice_get c.triggers place) (class_numbered class cs)) t e in
    (ap (λ (u : Trigger). u.class) (sym it.2), ap (λ (u : Trigger). u.place) (sym it.2))

-- the firing of an entry
pub entry_firing : (b : Bones) (e : Entry) (t : Trigger) → FitsEntry b e → trigger_at b.classes e.class e.trigger ≡ Some t → FitsFiring b (firing_in e t)
entry_firing b e t h at =
    let it = placed b.classes e.class e.trigger t at in
    let here : trigger_at b.classes t.class t.place ≡ Some t = ap (λ c. trigger_at b.classes c t.place) it.0 ∙ ap (trigger_at b.classes e.class) it.1 ∙ at in
    record {
      entry = record {
        trigger = subst (HaveTrigger (all_alive b) e.args) (at ∙ sym here) h.trigger;
        drawn = h.drawn;
        object = λ o there.
            subst (λ c. IsSomeAnd (trigger_in b.classes o.class (record { number = 0; class = c; trigger = t.place; args = e.args; on = true })) (λ u. Unit {0})) (sym it.0)
            (subst (λ p. IsSomeAnd (trigger_in b.classes o.class (record { number = 0; class = e.class; trigger = p; args = e.args; on = true })) (λ u. Unit {0})) (sym it.1) (h.object o there));
      };
      trigger = here;
    }

module _ {O A : Type 0} where
  object_tests : (o : Option Object) (x : Tx O A) → IsTyped x → Ends x.now.bones (Any (Unit {0})) (tests_object o x)
  object_tests None x h = (h, grows_itself x.now.bones, tt)
  object_tests (Some o) x h = soft_ends o x h

  tests_ends : (x : Tx O A) → IsTyped x → Ends x.now.bones (Any (Unit {0})) (tests_all x)
  unfolding tests_all
  tests_ends x h = each_any tests_touched (λ id y typed. object_tests (object_at y.now.bones id) y typed) x.touched (looking x.touched x) (look_typed x.touched x h)

  weighs_ends : (x : Tx O A) → IsTyped x → Ends x.now.bones (Any (Unit {0})) (weighs x)
  unfolding weighs
  weighs_ends x h = by_test (nat_le (weight (kept_bones x.now.bones)) weight_limit) where
    by_test : (t : Bool) → Ends x.now.bones (Any (Unit {0})) (cond t (Done tt x) (Aborted Space x))
    by_test true = (h, grows_itself x.now.bones, tt)
    by_test false = h

  module _ (past : Past O A) where
    tcomplete_ends : (id : ℕ) (x : Tx O A) → IsTyped x → Ends x.now.bones (Any (Unit {0})) (posts_tcomplete past id x)
    unfolding posts_tcomplete
    tcomplete_ends id x h =
        let typed = look_typed (id ∷ []) x h in
        when_ends (is_live id x) (posts past (first_actions past) id TComplete []) (looking (id ∷ []) x) typed (λ live. posts_ends past (first_actions past) (first_fits past) id TComplete [] (looking (id ∷ []) x) typed)

    round_ends : (id : Option ℕ) (f : Option Firing) (at ran : ℕ) (rest : ℕ → ℕ → Deed O A) → ((at ran : ℕ) (y : Tx O A) → IsTyped y → Ends y.now.bones (Any (Unit {0})) (rest at ran y)) → (x : Tx O A) → IsTyped x
        → ((g : Firing) → f ≡ Some g → FitsFiring x.now.bones g) → Ends x.now.bones (Any (Unit {0})) (round past id f at ran rest x)
    round_ends (Some id) f at ran rest goes x h fits =
        ends_then x.now.bones (Any (Unit {0})) (Any (Unit {0})) (posts_tcomplete past id x) (tcomplete_ends id x h) (λ u. rest (suc at) ran) (λ u y typed grows is. goes (suc at) ran y typed)
    round_ends None (Some f) at ran rest goes x h fits =
        ends_then x.now.bones (Any (Unit {0})) (Any (Unit {0})) (runs (first_actions past) f x) (runs_ends (first_actions past) (first_fits past) f x h (fits f refl)) (λ u. rest at (suc ran)) (λ u y typed grows is. goes at (suc ran) y typed)
    round_ends None None at ran rest goes x h fits = (h, grows_itself x.now.bones, tt)

    goes_ends : (n at ran : ℕ) (x : Tx O A) → IsTyped x → Ends x.now.bones (Any (Unit {0})) (goes_round past n at ran x)
    unfolding goes_round
    goes_ends zero at ran x h = (h, grows_itself x.now.bones, tt)
    goes_ends (suc n) at ran x h =
        round_ends (slice_get x.touched at) (slice_get x.deferred ran) at ran (goes_round past n) (goes_ends n) x h (λ g e. all_at (FitsFiring x.now.bones) x.deferred h.deferred ran g e)

    pub completes_ends : (x : Tx O A) → IsTyped x → Ends x.now.bones (Any (Unit {0})) (completes past x)
    unfolding completes
    completes_ends x h =
        ends_then x.now.bones (Any (Unit {0})) (Any (Unit {0})) (goes_round past (rounds x) 0 0 x) (goes_ends (rounds x) 0 0 x h) (λ u. tests_all >> weighs) (λ u y typed grows is.
        ends_then y.now.bones (Any (Unit {0})) (Any (Unit {0})) (tests_all y) (tests_ends y typed) (λ v. weighs) (λ v z later more so. weighs_ends z later))

    -- the work of an entry
    pub entry_ends : (e : Entry) (x : Tx O A) → IsTyped x → FitsEntry x.now.bones e → Ends x.now.bones (Any (Unit {0})) (runs_entry past e x)
    entry_ends e x h fits =
        ends_then x.now.bones (Any (Unit {0})) (Any (Unit {0})) (when (is_live e.object x) (touches past (first_actions past) e.object) x)
        (when_ends (is_live e.object x) (touches past (first_actions past) e.object) x h (λ live. touches_ends past (first_actions past) (first_fits past) e.object x h))
        (λ u. finds (λ b. trigger_at b.classes e.class e.trigger) >>= λ t. runs (first_actions past) (firing_in e t)) (λ u y typed grows is.
        found_ends y.now.bones (Any (Unit {0})) (trigger_at y.now.bones.classes e.class e.trigger) y typed (λ t. runs (first_actions past) (firing_in e t)) (λ t at.
        runs_ends (first_actions past) (first_fits past) (firing_in e t) y typed (entry_firing y.now.bones e t (entry_follows x.now.bones y.now.bones grows.follows e fits) at)))
