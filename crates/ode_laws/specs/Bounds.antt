-- What a transaction keeps within its limits, and what of it stays.
use Rattle.std.specs.Prelude.{◌≡◌, ◌≤◌, ℕ, ◌++◌, List, length}
use Rattle.std.specs.List.{Contains}
use Rattle.ode_value.specs.declared.key.Key.{Key}
use Rattle.ode_value.specs.Acts.{Outcome, Done, Aborted}
use Rattle.ode_value.specs.Changes.{key_count}
use Rattle.ode_value.specs.Limits.{budget_limit, output_limit, change_limit, cascade_limit}
use Rattle.ode_value.specs.Transactions.{Tx}

-- its statements, its text, its keys with what was collected, and its deferred firings are within their limits
pub record IsBounded {O A : Type 0} (x : Tx O A) : Type 0 where
  pub run : x.run ≤ budget_limit
  pub text : length x.text ≤ output_limit
  pub keys : key_count x ≤ change_limit
  pub deferred : length x.deferred ≤ cascade_limit

-- a transaction goes on from another: its text begins with the other's, and it holds the other's keys
pub record GoesOn {O A : Type 0} (old new : Tx O A) : Type 0 where
  pub first : new.first ≡ old.first
  pub more : List ℕ
  pub text : new.text ≡ old.text ++ more
  pub keys : (k : Key) → Contains old.keys k → Contains new.keys k
  pub gathered : old.gathered ≤ new.gathered

-- what an act reached is within its limits, and goes on from where it began
abbrev pub StaysBounded : {O A R : Type 0} → Tx O A → Outcome O A R → Type 0
StaysBounded old (Done answer x) = IsBounded x × GoesOn old x
StaysBounded old (Aborted reason x) = IsBounded x × GoesOn old x

-- a text begins with what a transaction has printed
pub record Prints {O A : Type 0} (x : Tx O A) (text : List ℕ) : Type 0 where
  pub more : List ℕ
  pub is : text ≡ x.text ++ more
