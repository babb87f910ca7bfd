-- The acts that a transaction is made of, and how they follow one another.
use Rattle.std.specs.Prelude.{ℕ, ◌+◌, List, [], ◌∷◌, ◌++◌, length, Bool, cond, nat_lt, nat_le, Option, Some, None, Result, Ok, Err}
use Rattle.ode_value.specs.declared.arithmetic.Fault.{Fault}
use Rattle.ode_value.specs.declared.reason.Reason.{Reason}
use Rattle.ode_value.specs.declared.reason.Reason.TheVariants.{NoObject, Budget, Output}
use Rattle.ode_value.specs.Evaluation.{reason_of}
use Rattle.ode_value.specs.Limits.{budget_limit, output_limit}
use Rattle.ode_value.specs.Transactions.{Tx, with_bones, looking}
use Rattle.ode_value.specs.Worlds.{Bones, World}

-- how an act ends: done, with an answer, or aborted, with a reason; and the transaction reached
pub data Outcome (O A R : Type 0) : Type 0 where
  Done : (answer : R) (x : Tx O A) → Outcome O A R
  Aborted : (reason : Reason) (x : Tx O A) → Outcome O A R

-- an act
abbrev pub Act : (O A R : Type 0) → Type 0
Act O A R = Tx O A → Outcome O A R

-- an act without an answer
abbrev pub Deed : (O A : Type 0) → Type 0
Deed O A = Act O A (Unit {0})

module _ {O A : Type 0} where
  -- goes on with the answer, where the act is done
  abbrev pub go_on : {R S : Type 0} → Outcome O A R → (R → Act O A S) → Outcome O A S
  go_on (Done answer x) next = next answer x
  go_on (Aborted reason x) next = Aborted reason x

  -- an act, and then what follows from its answer
  infixl 10 ◌>>=◌
  abbrev pub ◌>>=◌ : {R S : Type 0} → Act O A R → (R → Act O A S) → Act O A S
  ◌>>=◌ act next x = go_on (act x) next

  -- one act, and then the other
  infixl 10 ◌>>◌
  abbrev pub ◌>>◌ : {S : Type 0} → Deed O A → Act O A S → Act O A S
  ◌>>◌ act next x = go_on (act x) (λ _. next)

  -- an answer that is known
  abbrev pub gives : {R : Type 0} → R → Act O A R
  gives answer x = Done answer x

  -- nothing
  abbrev pub nothing : Deed O A
  nothing x = Done tt x

  -- aborts
  abbrev pub aborts : {R : Type 0} → Reason → Act O A R
  aborts reason x = Aborted reason x

  -- aborts unless this holds
  abbrev pub needs : Reason → (Tx O A → Bool) → Deed O A
  needs reason holds x = cond (holds x) (Done tt x) (Aborted reason x)

  -- a change that can't abort
  abbrev pub does : (Tx O A → Tx O A) → Deed O A
  does f x = Done tt (f x)

  -- a deed where a test is true
  abbrev pub when : Bool → Deed O A → Deed O A
  when b deed = cond b deed nothing

  -- a deed for each member, in order
  abbrev pub each : {R : Type 0} → (R → Deed O A) → List R → Deed O A
  each deed [] = nothing
  each deed (r ∷ rs) = deed r >> each deed rs

  -- what is read of the transaction
  abbrev pub reads : {R : Type 0} → (Tx O A → R) → Act O A R
  reads f x = Done (f x) x

  -- what is seen of the bones of the world now
  abbrev pub sees : {R : Type 0} → (Bones → R) → Act O A R
  sees f x = Done (f x.now.bones) x

  -- a look at the objects of these numbers
  abbrev pub looks : List ℕ → Deed O A
  looks ids = does (looking ids)

  -- what was found; nothing reads as null does
  abbrev pub found : {R : Type 0} → Option R → Act O A R
  found (Some r) x = Done r x
  found None x = Aborted (NoObject 0) x

  -- what a look-up in the bones finds
  abbrev pub finds : {R : Type 0} → (Bones → Option R) → Act O A R
  finds f x = found (f x.now.bones) x

  -- a value, or the abort of a fault
  abbrev pub valued : {R : Type 0} → Result R Fault → Act O A R
  valued (Ok v) x = Done v x
  valued (Err fault) x = Aborted (reason_of fault) x

  -- the value that is computed from the bones
  abbrev pub computes : {R : Type 0} → (Bones → Result R Fault) → Act O A R
  computes f x = valued (f x.now.bones) x

  -- a change of the world now
  abbrev pub turns : (World O A → World O A) → Deed O A
  turns f = does (λ x. record x { now = f x.now })

  -- a change of its bones
  abbrev pub alters : (Bones → Bones) → Deed O A
  alters f = does (with_bones f)

  -- a line that is kept
  abbrev pub with_line : List ℕ → Tx O A → Tx O A
  with_line line x = record x { text = x.text ++ line }

  -- every line: the text has room for it
  abbrev pub prints : List ℕ → Deed O A
  prints line = needs Output (λ x. nat_le (length x.text + length line) output_limit) >> does (with_line line)

  -- one more statement
  abbrev pub with_statement : Tx O A → Tx O A
  with_statement x = record x { run = x.run + 1 }

  -- every statement: one more may run
  abbrev pub counts : Deed O A
  counts = needs Budget (λ x. nat_lt x.run budget_limit) >> does with_statement

  -- the transaction that an outcome reached
  abbrev pub reached : {R : Type 0} → Outcome O A R → Tx O A
  reached (Done answer x) = x
  reached (Aborted reason x) = x
