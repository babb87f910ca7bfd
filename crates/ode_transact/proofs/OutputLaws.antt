-- What is heard and counted of transactions that settle one after the other.
use Rattle.std.proofs.Common.{◌≡◌, ◌∙◌, ◌+◌, ◌-◌, ◌≤◌, ◌^◌, ◌++◌, ℕ, List, [], ◌∷◌, length, min, Bool, true, false, Result, Ok, Err, ap, arith, refl, sym}
use Rattle.std.proofs.lemmas.List.{length-append, map-append}
use Rattle.std.specs.Prelude.{OnOk}
use Rattle.ode_transact.specs.Items.{texts_of}
use Rattle.ode_transact.specs.Output.{all_heard, counted_on, counting, heard, heard_of}
use Rattle.ode_transact.specs.declared.output.Output.{Output}
use Rattle.ode_transact.specs.declared.error.EngineError.{EngineError}
use Rattle.ode_value.specs.Draining.{world_after}
use Rattle.ode_value.specs.Language.{ListWorld, Settlings}

-- ---- what is heard

-- an output that isn't quiet tells all
pub heard_loud : (text : List ℕ) → heard false text ≡ text
heard_loud text = refl

pub all_heard_loud : (settled : Settlings) → all_heard false settled ≡ settled
all_heard_loud [] = refl
all_heard_loud (s ∷ settled) = ap (λ (rest : Settlings). s ∷ rest) (all_heard_loud settled)

-- one behind the other
pub heard_append : (quiet : Bool) (a b : List ℕ) → heard quiet (a ++ b) ≡ heard quiet a ++ heard quiet b
heard_append true a b = refl
heard_append false a b = refl

pub all_heard_append : (quiet : Bool) (settled more : Settlings) → all_heard quiet (settled ++ more) ≡ all_heard quiet settled ++ all_heard quiet more
all_heard_append quiet settled more = map-append (λ s. heard_of quiet s) settled more

-- their texts are what is heard of all texts
pub texts_heard : (quiet : Bool) (settled : Settlings) → texts_of (all_heard quiet settled) ≡ heard quiet (texts_of settled)
texts_heard true [] = refl
texts_heard false [] = refl
texts_heard quiet (s ∷ settled) = ap (λ (rest : List ℕ). heard quiet s.1 ++ rest) (texts_heard quiet settled) ∙ sym (heard_append quiet s.1 (texts_of settled))

-- and their worlds are the same
pub world_heard : (quiet : Bool) (w : ListWorld) (settled : Settlings) → world_after w (all_heard quiet settled) ≡ world_after w settled
world_heard quiet w [] = refl
world_heard quiet w (s ∷ settled) = world_heard quiet s.0 settled

-- ---- what is counted

-- up to the most
pub counted_most : (n : ℕ) (text : List ℕ) → n ≤ 2 ^ 64 - 1 → min (n + length text) (2 ^ 64 - 1) ≡ counted_on n text
unfolding counted_on
counted_most n text few = omega (arith, few)

pub counted_none : (n : ℕ) → counted_on n [] ≡ n
unfolding counted_on
counted_none n = omega arith

added_twice : (n a b : ℕ) → n + min a (2 ^ 64 - 1 - n) + min b (2 ^ 64 - 1 - (n + min a (2 ^ 64 - 1 - n))) ≡ n + min (a + b) (2 ^ 64 - 1 - n)
added_twice n a b = omega arith

pub counted_append : (n : ℕ) (a b : List ℕ) → counted_on (counted_on n a) b ≡ counted_on n (a ++ b)
unfolding counted_on
counted_append n a b = added_twice n (length a) (length b) ∙ ap (λ (len : ℕ). n + min len (2 ^ 64 - 1 - n)) (sym (length-append a b))

-- an output counts no text, or one behind the other
pub counting_none : (output : Output) → output ≡ counting output []
counting_none output = ap (λ (n : ℕ). record { quiet = output.quiet; counted = n }) (sym (counted_none output.counted))

pub counting_append : (output : Output) (a b : List ℕ) → counting (counting output a) b ≡ counting output (a ++ b)
counting_append output a b = ap (λ (n : ℕ). record { quiet = output.quiet; counted = n }) (counted_append output.counted a b)

-- a text in other words
pub counted_as : {R : Type 0} (result : Result R EngineError) (output new : Output) (a b : List ℕ) → a ≡ b → OnOk result (new ≡ counting output a) → OnOk result (new ≡ counting output b)
counted_as (Err why) output new a b same counts = counts
counted_as (Ok done) output new a b same counts = counts ∙ ap (λ (text : List ℕ). counting output text) same

-- and one more text behind a call
pub counted_then : {R : Type 0} (result : Result R EngineError) (output mid new : Output) (a b : List ℕ) → mid ≡ counting output a → OnOk result (new ≡ counting mid b) → OnOk result (new ≡ counting output (a ++ b))
counted_then (Err why) output mid new a b first counts = counts
counted_then (Ok done) output mid new a b first counts = counts ∙ ap (λ (o : Output). counting o b) first ∙ counting_append output a b
