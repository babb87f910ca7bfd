-- A change whose values fit or don't, and for which there is space or isn't.
use Rattle.std.proofs.Common.{◌≡◌, ℕ, List, Bool, true, false, cond, Ok, Err, refl, sym, ap, subst, ◌∙◌}
use Rattle.std.specs.Prelude.{◌&&◌, nat_le}
use Rattle.std.specs.List.{AllByRecursion, fold}
use Rattle.ode_laws.specs.Alike.{NumberTx}
use Rattle.ode_overlay.specs.Answers.{Answer, ◌>>=◌}
use Rattle.ode_overlay.specs.Changing as calls
use Rattle.ode_overlay.specs.Layers.{Layer, few, holding, key_count}
use Rattle.ode_overlay.specs.declared.error.OverlayError.TheVariants.{NoNumber, TooLong, TooManyChanges}
use Rattle.ode_overlay_laws.proofs.AlteredLaws.{altered}
use Rattle.ode_overlay_laws.proofs.FollowingLaws.{counts_same, tested}
use Rattle.ode_overlay_laws.proofs.KeySets.{IsPart}
use Rattle.ode_overlay_laws.specs.Following.{Continues, Follows}
use Rattle.ode_overlay_laws.specs.Standing.{Stands}
use Rattle.ode_value.specs.Acts.{Act, Outcome, ◌>>◌, does, go_on, needs}
use Rattle.ode_value.specs.Changes as machine
use Rattle.ode_value.specs.Changes.{Draw, changes, with_key}
use Rattle.ode_value.specs.Limits.{change_limit, value_limit}
use Rattle.ode_value.specs.Transactions.{drawing}
use Rattle.ode_value.specs.Worlds as worlds
use Rattle.ode_value.specs.declared.key.Key.{Key}
use Rattle.ode_value.specs.declared.reason.Reason.TheVariants as reason

-- what goes on as another answer does
pub answers_well : {R S : Type 0} (y : NumberTx) (go : R → Act (Unit {0}) ℕ S) (a b : Answer (R × Layer)) (m : Outcome (Unit {0}) ℕ S) → a ≡ b → Follows y go b m → Follows y go a m
answers_well {R} {S} y go a b m same follows = subst (λ (c : Answer (R × Layer)). Follows y go c m) (sym same) follows

-- a change of one object leaves all else as it was
pub altered_continues : (y : NumberTx) (id : ℕ) (g : worlds.Object → worlds.Object) (ks : List Key) → Continues y (altered id g ks y)
altered_continues y id g ks = record { first = refl; bones = refl; deferred = refl; text = refl; run = refl }

-- what draws no number of an object or an activation, where there is space or isn't
abbrev spacing : Bool → Draw
spacing room = record { left = λ b. room; number = false }

module _ (x : Layer) (y : NumberTx) (ks : List Key) (stands : Stands x y) (parts : AllByRecursion IsPart ks) where
  abbrev held : List Key
  held = fold with_key x.keys ks

  abbrev spaced : {S : Type 0} → Act (Unit {0}) ℕ S → Bool → Bool → Outcome (Unit {0}) ℕ S
  spaced act room b = go_on (go_on (tested y b) (λ _. does (drawing false) >> (needs reason.Space (λ (z : NumberTx). room) >> does (machine.holding ks)))) (λ _. act)

  pub follows_spaced : {R S : Type 0} (size : ℕ) (short room : Bool) (go : R → Act (Unit {0}) ℕ S) (rest : List Key → Answer (R × Layer)) (act : Act (Unit {0}) ℕ S)
      → short ≡ nat_le size value_limit → Follows y go (rest held) (act (machine.holding ks y))
      → Follows y go (calls.needs TooLong short >>= λ _. holding ks x >>= λ keys. calls.needs NoNumber room >>= λ _. rest keys) (go_on (changes ks size (spacing room) y) (λ _. act))
  unfolding holding
  follows_spaced {R} {S} size short room go rest act same next =
      subst (λ (b : Bool). Follows y go (calls.needs TooLong short >>= λ _. few held x >>= λ keys. calls.needs NoNumber room >>= λ _. rest keys) (spaced act room b)) (sym test)
      (by_tests short (nat_le (key_count held x) change_limit) room) where
        test : (nat_le size value_limit && nat_le (machine.key_count (machine.holding ks y)) change_limit) ≡ (short && nat_le (key_count held x) change_limit)
        test =
            ap (λ s. s && nat_le (machine.key_count (machine.holding ks y)) change_limit) (sym same)
            ∙ ap (λ n. short && nat_le n change_limit) (counts_same x y ks stands parts)

        by_tests : (a b c : Bool) → Follows y go (calls.needs TooLong a >>= λ _. cond b (Ok held) (Err TooManyChanges) >>= λ keys. calls.needs NoNumber c >>= λ _. rest keys) (spaced act c (a && b))
        by_tests true true true = next
        by_tests true true false = (reason.Space, (refl, refl))
        by_tests true false c = (reason.Size, (refl, refl))
        by_tests false b c = (reason.Size, (refl, refl))
