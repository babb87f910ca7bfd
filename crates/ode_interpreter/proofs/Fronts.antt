-- Calls and actions by what comes before the body that they run.
use Rattle.std.proofs.Common.{◌≡◌, ℕ, List, Option, Result, refl}
use Rattle.ode_value.specs.declared.event.Kind.TheVariants.{Before}
use Rattle.ode_value.specs.declared.member.Method.{Method}
use Rattle.ode_value.specs.declared.value.Ref.{Ref}
use Rattle.ode_value.specs.declared.value.Value.{Value}
use Rattle.ode_value.specs.Acts.{Act, Deed, Outcome, Done, Aborted, ◌>>=◌, ◌>>◌, finds, gives, go_on, nothing, prints}
use Rattle.ode_value.specs.Changes.{class_of, lives}
use Rattle.ode_value.specs.Classes.{method_named}
use Rattle.ode_value.specs.Expressions.{stands}
use Rattle.ode_value.specs.Pasts.{Past}
use Rattle.ode_value.specs.Posting.{Body, enters, fired_text, frame_of, posts, runs, touches}
use Rattle.ode_value.specs.Statements.{Inner, calls_inside}
use Rattle.ode_value.specs.Transactions.{Tx, Firing}
use Rattle.ode_interpreter.specs.Calling.{runs_method}
use Rattle.ode_interpreter.specs.declared.stop.Stop.{Stop}
use Rattle.ode_interpreter.specs.Seen.{Ends, NumberTx}

module _ {O A : Type 0} where
  behind_one : {R S : Type 0} (o : Outcome O A (Unit {0})) (v : R) (k : R → Act O A S) → go_on o (λ _. k v) ≡ go_on (go_on o (λ _. gives v)) k
  behind_one (Done u y) v k = refl
  behind_one (Aborted why y) v k = refl

  behind_two : {R S : Type 0} (o : Outcome O A (Unit {0})) (b : Deed O A) (v : R) (k : R → Act O A S)
      → go_on o (λ _. b >> k v) ≡ go_on (go_on o (λ _. b >> gives v)) k
  behind_two (Done u y) b v k = behind_one (b y) v k
  behind_two (Aborted why y) b v k = refl

  -- an action, behind its line and its object
  pub runs_is : (d : Option (Body O A)) (f : Firing) (x : Tx O A)
      → runs d f x ≡ go_on (go_on (prints (fired_text f) x) (λ _. lives f.object >> gives (frame_of f))) (λ frame. enters d f.trigger.decl.action frame >>= λ _. nothing)
  unfolding runs
  runs_is d f x = behind_two (prints (fired_text f) x) (lives f.object) (frame_of f) (λ frame. enters d f.trigger.decl.action frame >>= λ _. nothing)

  behind_answer : {Q R S : Type 0} (o : Outcome O A Q) (b : Q → Act O A R) (k : R → Act O A S) → go_on o (λ v. b v >>= k) ≡ go_on (go_on o b) k
  behind_answer (Done v y) b k = refl
  behind_answer (Aborted why y) b k = refl

  behind_both : {Q R S : Type 0} (o : Outcome O A (Unit {0})) (a : Act O A Q) (b : Q → Act O A R) (k : R → Act O A S)
      → go_on o (λ _. a >>= λ v. b v >>= k) ≡ go_on (go_on o (λ _. a >>= b)) k
  behind_both (Done u y) a b k = behind_answer (a y) b k
  behind_both (Aborted why y) a b k = refl

  alike : {S : Type 0} (o : Outcome O A (Unit {0})) (k l : Act O A S) → ((y : Tx O A) → k y ≡ l y) → go_on o (λ _. k) ≡ go_on o (λ _. l)
  alike (Done u y) k l h = h y
  alike (Aborted why y) k l h = refl

  -- the method of an object that is there
  abbrev pub found_method : ℕ → List ℕ → Act O A Method
  found_method id name = lives id >> (class_of id >>= λ class. finds (λ b. method_named b.classes class name))

  module _ (past : Past O A) (inner : Inner O A) (r : Ref) (name : List ℕ) (args : List Value) where
    abbrev running : Method → Act O A Value
    running m = runs_method past inner r name args m

    pub inside_is : (x : Tx O A) → calls_inside past inner r name args x
        ≡ go_on (touches past inner.actions r.object x) (λ _ y. go_on (stands r y) (λ _ z. go_on (posts past inner.actions r.object (Before name) args z) (λ _ w. go_on (found_method r.object name w) running)))
    unfolding calls_inside
    inside_is x =
        alike (touches past inner.actions r.object x) _ _ (λ y.
        alike (stands r y) _ _ (λ z.
        alike (posts past inner.actions r.object (Before name) args z) _ _ (λ w.
        behind_both (lives r.object w) (class_of r.object) (λ class. finds (λ b. method_named b.classes class name)) running)))

module _ (past : Past (Unit {0}) ℕ) (inner : Inner (Unit {0}) ℕ) (r : Ref) (name : List ℕ) (args : List Value) where
  -- a call, up to the method that it runs
  pub calls_by : (result : Result Value Stop) (x y z w v : NumberTx)
      → touches past inner.actions r.object x ≡ Done tt y → stands r y ≡ Done tt z → posts past inner.actions r.object (Before name) args z ≡ Done tt w
      → Ends result v (go_on (found_method r.object name w) (runs_method past inner r name args)) → Ends result v (calls_inside past inner r name args x)
  calls_by result x y z w v touched stood posted h = rw (inside_is past inner r name args x, touched, stood, posted) h

  -- where there is one
  pub calls_found : (result : Result Value Stop) (m : Method) (x y z w u v : NumberTx)
      → touches past inner.actions r.object x ≡ Done tt y → stands r y ≡ Done tt z → posts past inner.actions r.object (Before name) args z ≡ Done tt w
      → found_method r.object name w ≡ Done m u → Ends result v (runs_method past inner r name args m u) → Ends result v (calls_inside past inner r name args x)
  calls_found result m x y z w u v touched stood posted found h = calls_by result x y z w v touched stood posted (rw found h)
