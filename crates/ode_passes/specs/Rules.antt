-- Rules: one that holds gives something, one that is broken has its cause; and how they follow one another.
use Rattle.std.specs.Prelude.{List, [], ◌∷◌, Bool, cond, Option, Some, None, Result, Ok, Err}
use Rattle.ode_passes.specs.declared.cause.Cause.{Cause}

abbrev pub Ruled : Type 0 → Type 0
Ruled X = Result X Cause

-- goes on with what a rule gave; the first broken one ends it
infixl 10 ◌>>=◌
abbrev pub ◌>>=◌ : {X Y : Type 0} → Ruled X → (X → Ruled Y) → Ruled Y
(Ok x) >>= next = next x
(Err cause) >>= next = Err cause

-- this holds
abbrev pub needs : Cause → Bool → Ruled (Unit {0})
needs cause holds = cond holds (Ok tt) (Err cause)

-- what is looked for is there
abbrev pub found : {X : Type 0} → Cause → Option X → Ruled X
found cause (Some x) = Ok x
found cause None = Err cause

-- all keep it
abbrev pub each : {X : Type 0} → (X → Ruled (Unit {0})) → List X → Ruled (Unit {0})
each rule [] = Ok tt
each rule (x ∷ xs) = rule x >>= λ _. each rule xs

-- each goes on from what the one before it left
abbrev pub through : {S X : Type 0} → (S → X → Ruled S) → S → List X → Ruled S
through step s [] = Ok s
through step s (x ∷ xs) = step s x >>= λ t. through step t xs
