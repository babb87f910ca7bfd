-- Calls in turn, and the keys that they hold.
use Rattle.std.proofs.Common.{◌≡◌, List, Bool, true, false, cond, ℕ, Option, Some, None, Ok, Err, refl, sym, subst}
use Rattle.std.specs.Prelude.{nat_le}
use Rattle.std.specs.List.{fold}
use Rattle.ode_objects.specs.declared.object.Object.{Object}
use Rattle.ode_objects.specs.declared.tracked.Tracked.{Tracked}
use Rattle.ode_overlay.specs.Answers.{Answer, ◌>>=◌}
use Rattle.ode_overlay.specs.Changing.{live_of}
use Rattle.ode_overlay.specs.Layers.{Layer, holding, key_count}
use Rattle.ode_overlay.specs.declared.error.OverlayError.TheVariants.{NoObject, TooManyChanges}
use Rattle.ode_value.specs.Changes.{with_key}
use Rattle.ode_value.specs.Limits.{change_limit}
use Rattle.ode_value.specs.declared.key.Key.{Key}
use Rattle.ode_version_laws.specs.Leaving.{IfDone}

module _ {R : Type 0} (P : Layer → Type 0) where
  pub bound : {A : Type 0} (a : Answer A) (next : A → Answer (R × Layer)) → ((v : A) → IfDone P (next v)) → IfDone P (a >>= next)
  bound (Ok v) next each = each v
  bound (Err why) next each = tt

  pub held_bound : (x : Layer) (ks : List Key) (next : List Key → Answer (R × Layer)) → IfDone P (next (fold with_key x.keys ks)) → IfDone P (holding ks x >>= next)
  unfolding holding
  held_bound x ks next leaves = by_test (nat_le (key_count (fold with_key x.keys ks) x) change_limit) where
    by_test : (b : Bool) → IfDone P (cond b (Ok (fold with_key x.keys ks)) (Err TooManyChanges) >>= next)
    by_test true = leaves
    by_test false = tt

  pub read_bound : (a : Answer (Option Tracked)) (new : Option Tracked) (next : Option Tracked → Answer (R × Layer)) → a ≡ Ok new → IfDone P (next new) → IfDone P (a >>= next)
  read_bound a new next is leaves = subst (λ (b : Answer (Option Tracked)). IfDone P (b >>= next)) (sym is) leaves

  pub live_bound : (id : ℕ) (f : Option Tracked) (next : Object → Answer (R × Layer)) → ((t : Tracked) → f ≡ Some t → IfDone P (next t.current)) → IfDone P (live_of id f >>= next)
  live_bound id None next each = tt
  live_bound id (Some t) next each = by_live t.current.live where
    by_live : (b : Bool) → IfDone P (cond b (Ok t.current) (Err (NoObject id)) >>= next)
    by_live true = each t refl
    by_live false = tt

  pub choice_bound : (b : Bool) (a c : Answer (R × Layer)) → IfDone P a → IfDone P c → IfDone P (cond b a c)
  choice_bound true a c first second = first
  choice_bound false a c first second = second
