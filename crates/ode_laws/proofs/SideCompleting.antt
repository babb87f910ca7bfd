-- Two machines side by side: completion, and the work of entries.
use Rattle.std.proofs.Common.{◌≡◌, ℕ, zero, suc, ◌+◌, [], length, Option, Some, None, ap, ◌∙◌, List}
use Rattle.std.specs.Prelude.{◌-◌, nat_le, is_some, slice_get}
use Rattle.ode_value.specs.declared.event.Kind.TheVariants.{TComplete}
use Rattle.ode_value.specs.declared.reason.Reason.TheVariants.{Space}
use Rattle.ode_value.specs.Acts.{Deed, ◌>>◌, nothing, when, each, looks}
use Rattle.ode_value.specs.Changes.{is_live, asks_live}
use Rattle.ode_value.specs.Classes.{trigger_at}
use Rattle.ode_value.specs.Completing.{rounds, tests_object, tests_touched, tests_all, weighs, posts_tcomplete, round, goes_round, completes}
use Rattle.ode_value.specs.Denoting.{object_at}
use Rattle.ode_value.specs.Draining.{firing_in, runs_entry}
use Rattle.ode_value.specs.Executing.{first_actions}
use Rattle.ode_value.specs.Keeping.{kept_bones}
use Rattle.ode_value.specs.Limits.{budget_limit, cascade_limit, weight_limit}
use Rattle.ode_value.specs.Posting.{posts, touches, runs}
use Rattle.ode_value.specs.Transactions.{Tx, Firing}
use Rattle.ode_value.specs.Weights.{weight}
use Rattle.ode_value.specs.Worlds.{Object, Entry}
use Rattle.ode_laws.proofs.Sides.{Sides}
use Rattle.ode_laws.proofs.SideActs.{Alike, next_alike, less_alike, done_alike, reads_alike, sees_alike, finds_alike, needs_alike, cond_alike, when_alike, every_alike, soft_alike, then_alike, looks_alike, asks_alike}
use Rattle.ode_laws.proofs.SidePosting.{posts_alike, touches_alike, runs_alike}
use Rattle.ode_laws.proofs.SideStatements.{first_alike}

module _ {O A P B : Type 0} (s : Sides O A P B) where
  object_tests : (n : ℕ) (o : Option Object) → Alike s n n (tests_object o) (tests_object o)
  object_tests n None = done_alike s n tt
  object_tests n (Some o) = soft_alike s n o

  pub tests_alike : (n : ℕ) → Alike s n n tests_all tests_all
  unfolding tests_all
  tests_alike n =
      reads_alike s n n (λ x. x.touched) (λ x. x.touched) (λ y x r. (s.same n y x r).touched) looked looked (λ touched.
      next_alike s n n n (looks touched) (looks touched) (looks_alike s n touched) (each tests_touched touched) (each tests_touched touched)
      (every_alike s n tests_touched tests_touched (λ id. sees_alike s n n (λ b. object_at b id) tests_object tests_object (λ o. object_tests n o)) touched))
    where
      looked : {O A : Type 0} → List ℕ → Deed O A
      looked touched = looks touched >> each tests_touched touched

  pub weighs_alike : (n : ℕ) → Alike s n n weighs weighs
  unfolding weighs
  weighs_alike n =
      needs_alike s n Space (λ x. nat_le (weight (kept_bones x.now.bones)) weight_limit) (λ x. nat_le (weight (kept_bones x.now.bones)) weight_limit)
      (λ y x r. ap (λ b. nat_le (weight (kept_bones b)) weight_limit) (s.same n y x r).bones)

  live_same : (n id : ℕ) (y : Tx O A) (x : Tx P B) → s.Related n y x → is_live id y ≡ is_live id x
  live_same n id y x r = ap (λ b. is_some (object_at b id)) (s.same n y x r).bones

  pub tcomplete_alike : (n id : ℕ) → Alike s n n (posts_tcomplete s.past id) (posts_tcomplete s.other id)
  unfolding posts_tcomplete
  tcomplete_alike n id =
      then_alike s n n n (asks_live id) (asks_live id) (asks_alike s n id)
      (λ live. when live (posts s.past (first_actions s.past) id TComplete [])) (λ live. when live (posts s.other (first_actions s.other) id TComplete [])) (λ live.
      when_alike s n live (posts s.past (first_actions s.past) id TComplete []) (posts s.other (first_actions s.other) id TComplete [])
      (posts_alike s n (first_actions s.past) (first_actions s.other) (first_alike s) id TComplete []))

  pub first_runs_alike : (n : ℕ) (f : Firing) → Alike s n n (runs (first_actions s.past) f) (runs (first_actions s.other) f)
  first_runs_alike n f = runs_alike s n (first_actions s.past) (first_actions s.other) (first_alike s) f

  pub round_alike : (n : ℕ) (id : Option ℕ) (f : Option Firing) (at ran : ℕ) (rest : ℕ → ℕ → Deed O A) (other : ℕ → ℕ → Deed P B)
      → ((at ran : ℕ) → Alike s n n (rest at ran) (other at ran)) → Alike s n n (round s.past id f at ran rest) (round s.other id f at ran other)
  round_alike n (Some id) f at ran rest other are =
      next_alike s n n n (posts_tcomplete s.past id) (posts_tcomplete s.other id) (tcomplete_alike n id) (rest (suc at) ran) (other (suc at) ran) (are (suc at) ran)
  round_alike n None (Some f) at ran rest other are =
      next_alike s n n n (runs (first_actions s.past) f) (runs (first_actions s.other) f) (first_runs_alike n f) (rest at (suc ran)) (other at (suc ran)) (are at (suc ran))
  round_alike n None None at ran rest other are = done_alike s n tt

  pub goes_alike : (n more at ran : ℕ) → Alike s n n (goes_round s.past more at ran) (goes_round s.other more at ran)
  unfolding goes_round
  goes_alike n zero at ran = done_alike s n tt
  goes_alike n (suc more) at ran =
      reads_alike s n n (λ x. slice_get x.touched at) (λ x. slice_get x.touched at) (λ y x r. ap (λ ids. slice_get ids at) (s.same n y x r).touched) _ _ (λ id.
      reads_alike s n n (λ x. slice_get x.deferred ran) (λ x. slice_get x.deferred ran) (λ y x r. ap (λ fs. slice_get fs ran) (s.same n y x r).deferred)
      (λ f. round s.past id f at ran (goes_round s.past more)) (λ f. round s.other id f at ran (goes_round s.other more)) (λ f.
      round_alike n id f at ran (goes_round s.past more) (goes_round s.other more) (goes_alike n more)))

  rounds_same : (n : ℕ) (y : Tx O A) (x : Tx P B) → s.Related n y x → rounds y ≡ rounds x
  rounds_same n y x r =
      ap (λ run. (budget_limit - run) + length y.touched + cascade_limit) (s.same n y x r).run ∙ ap (λ ids. (budget_limit - x.run) + length ids + cascade_limit) (s.same n y x r).touched

  pub completes_alike : (n : ℕ) → Alike s n n (completes s.past) (completes s.other)
  unfolding completes
  completes_alike n =
      reads_alike s n n rounds rounds (rounds_same n) _ _ (λ more.
      next_alike s n n n (goes_round s.past more 0 0) (goes_round s.other more 0 0) (goes_alike n more 0 0) _ _
      (next_alike s n n n tests_all tests_all (tests_alike n) weighs weighs (weighs_alike n)))

  -- the work of an entry
  pub entry_alike : (n : ℕ) (e : Entry) → Alike s (suc n) n (runs_entry s.past e) (runs_entry s.other e)
  entry_alike n e =
      reads_alike s (suc n) n (is_live e.object) (is_live e.object) (live_same (suc n) e.object) _ _ (λ live.
      next_alike s (suc n) n n (when live (touches s.past (first_actions s.past) e.object)) (when live (touches s.other (first_actions s.other) e.object))
      (cond_alike s (suc n) n live (touches s.past (first_actions s.past) e.object) nothing (touches s.other (first_actions s.other) e.object) nothing
      (touches_alike s n (first_actions s.past) (first_actions s.other) (first_alike s) e.object) (less_alike s n n nothing nothing (done_alike s n tt))) _ _
      (finds_alike s n n (λ b. trigger_at b.classes e.class e.trigger) _ _ (λ t. first_runs_alike n (firing_in e t))))
