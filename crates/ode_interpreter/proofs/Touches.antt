-- A touch, by whether it is the first.
use Rattle.std.proofs.Common.{◌≡◌, ℕ, Bool, true, false, cond, [], ◌∷◌, Option, Result, refl, sym, ap, subst, ◌∙◌}
use Rattle.std.specs.Prelude.{not}
use Rattle.ode_value.specs.declared.event.Kind.TheVariants.{TBegin}
use Rattle.ode_value.specs.declared.reason.Reason.{Reason}
use Rattle.ode_value.specs.declared.reason.Reason.TheVariants.{NoObject}
use Rattle.ode_value.specs.Pasts.{Past}
use Rattle.ode_value.specs.Acts.{Outcome, Done, Aborted, ◌>>=◌, ◌>>◌, gives, go_on, reads, when}
use Rattle.ode_value.specs.Changes.{is_live}
use Rattle.ode_value.specs.Posting.{Body, is_touched, joins, posts, touches, touches_first}
use Rattle.ode_value.specs.Transactions.{Tx, looking}
use Rattle.ode_interpreter.specs.declared.stop.Stop.{Stop}
use Rattle.ode_interpreter.specs.Seen.{Ends, NumberTx}
use Rattle.ode_interpreter.specs.Touching.{joins_first}

module _ {O A : Type 0} (past : Past O A) (d : Option (Body O A)) (id : ℕ) where
  by_joined : (o : Outcome O A (Unit {0})) → go_on o (λ _. posts past d id TBegin []) ≡ go_on (go_on o (λ _. gives true)) (λ first. when first (posts past d id TBegin []))
  by_joined (Done u z) = refl
  by_joined (Aborted why z) = refl

  by_touched : (x : Tx O A) (b : Bool)
      → when (not b) (touches_first past d id) x ≡ go_on (cond b (gives false) (joins id >> gives true) x) (λ first. when first (posts past d id TBegin []))
  by_touched x true = refl
  by_touched x false = by_joined (joins id x)

  -- whether the object is there
  abbrev there : Tx O A → Bool → Outcome O A (Unit {0})
  there x b = cond b (Done tt x) (Aborted (NoObject id) x)

  by_live : (x : Tx O A) (b : Bool)
      → go_on (there x b) (λ _. reads (is_touched id) >>= λ touched. when (not touched) (touches_first past d id))
      ≡ go_on (go_on (there x b) (λ _. reads (is_touched id) >>= λ touched. cond touched (gives false) (joins id >> gives true)))
      (λ first. when first (posts past d id TBegin []))
  by_live x true = by_touched x (is_touched id x)
  by_live x false = refl

  pub touch_is : (x : Tx O A) → touches past d id x ≡ go_on (joins_first id x) (λ first. when first (posts past d id TBegin []))
  unfolding touches
  touch_is x = let seen = looking (id ∷ []) x in by_live seen (is_live id seen)

module _ (past : Past (Unit {0}) ℕ) (d : Option (Body (Unit {0}) ℕ)) (id : ℕ) (x : NumberTx) where
  -- by what the joining answers
  abbrev behind : Outcome (Unit {0}) ℕ Bool → Outcome (Unit {0}) ℕ (Unit {0})
  behind o = go_on o (λ first. when first (posts past d id TBegin []))

  pub touched_anew : (result : Result (Unit {0}) Stop) (y z : NumberTx) (b : Bool) → b ≡ true → joins_first id x ≡ Done b z
      → Ends result y (posts past d id TBegin [] z) → Ends result y (touches past d id x)
  touched_anew result y z b is joined h =
      subst (Ends result y) (sym (touch_is past d id x ∙ ap behind joined ∙ ap (λ c. behind (Done c z)) is)) h

  pub touched_again : (z : NumberTx) (b : Bool) → b ≡ false → joins_first id x ≡ Done b z → touches past d id x ≡ Done tt z
  touched_again z b is joined = touch_is past d id x ∙ ap behind joined ∙ ap (λ c. behind (Done c z)) is

  pub not_touched : (why : Reason) (z : NumberTx) → joins_first id x ≡ Aborted why z → touches past d id x ≡ Aborted why z
  not_touched why z joined = touch_is past d id x ∙ ap behind joined
