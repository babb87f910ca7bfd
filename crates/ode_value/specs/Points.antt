-- The points of an event expression, and where it fires. That an expression denotes a subset of the points of a history is from
-- Gehani, Jagadish and Shmueli, SIGMOD 1992 and VLDB 1992; the operators and their positions are this project's own.
use Rattle.std.specs.Prelude.{ℕ, zero, suc, ◌+◌, ◌-◌, ◌%◌, ◌==◌, nat_lt, ◌&&◌, ◌||◌, not, if◌then◌else◌, Bool, false, List, [], ◌∷◌, length, drop, slice_index_or}
use Rattle.ode_value.specs.declared.event.EventExpr.{EventExpr, fold-EventExpr}
use Rattle.ode_value.specs.declared.event.EventExpr.TheOpen as event
use Rattle.ode_value.specs.declared.value.Value.{Value}
use Rattle.ode_value.specs.Views.{History}
use Rattle.ode_value.specs.Marks.{OfLeaf, OfEvent, Mark, no_mark, marks}

-- a set of positions of a history, of which the marks are known
abbrev pub Points : Type 0
Points = List Mark → ℕ → Bool

-- some number below n passes
abbrev pub some_below : (ℕ → Bool) → ℕ → Bool
some_below p zero = false
some_below p (suc n) = some_below p n || p n

-- how many numbers below n pass
abbrev pub count_below : (ℕ → Bool) → ℕ → ℕ
count_below p zero = 0
count_below p (suc n) = if p n then count_below p n + 1 else count_below p n

-- the positions after one of E that F has on the part strictly after it
abbrev pub after_each : Points → Points → Points
after_each e f m i = some_below (λ p. e m p && f (drop (suc p) m) (i - suc p)) i

-- the first position of F
abbrev pub first_of : Points → Points
first_of f m i = f m i && not (some_below (f m) i)

-- the first position of F, unless one of G is before it
abbrev pub first_unless : Points → Points → Points
first_unless f g m i = f m i && not (some_below (λ k. f m k || g m k) i)

-- a first position of F after one of E, unless one of G on the whole history is between them
abbrev pub after_each_unless : Points → Points → Points → Points
after_each_unless e f g m i =
    some_below (λ p. e m p && (first_of f (drop (suc p) m) (i - suc p) && not (some_below (λ k. g m (suc p + k)) (i - suc p)))) i

-- a position of E, or one after such a position that E has on the part strictly after it, and so on, at most n positions in all
abbrev pub chained : Points → ℕ → Points
chained e zero m i = false
chained e (suc n) m i = e m i || after_each (chained e n) e m i

-- the members of a list at the positions that pass
abbrev pub picked : {A : Type 0} → (ℕ → Bool) → List A → List A
picked p [] = []
picked p (x ∷ xs) = if p 0 then x ∷ picked (λ i. p (suc i)) xs else picked (λ i. p (suc i)) xs

-- a position of E at which F is, on the history of the positions of E alone
abbrev pub piped : Points → Points → Points
piped e f m i = e m i && f (picked (e m) m) (count_below (e m) i)

-- by one level of the expression
abbrev pub points_of : event.EventExpr-F Points → Points
points_of (event.Leaf kind mask) m i = nat_lt i (length m) && slice_index_or m i no_mark (OfLeaf kind mask)
points_of event.Any m i = nat_lt i (length m)
points_of event.First m i = nat_lt i (length m) && (i == 0)
points_of (event.And e f) m i = e m i && f m i
points_of (event.Or e f) m i = e m i || f m i
points_of (event.Not e) m i = nat_lt i (length m) && not (e m i)
points_of (event.Prior e f) m i = some_below (e m) i && f m i
points_of (event.Sequence e f) m zero = false
points_of (event.Sequence e f) m (suc i) = e m i && f m (suc i)
points_of (event.Choose n e) m i = e m i && (count_below (e m) i + 1 == n)
points_of (event.Every n e) m i = e m i && ((count_below (e m) i + 1) % n == 0)
points_of (event.Relative e f) m i = after_each e f m i
points_of (event.RelPlus e) m i = chained e (suc i) m i
points_of (event.Pipe e f) m i = piped e f m i
points_of (event.Fa e f g) m i = after_each e (first_unless f g) m i
points_of (event.FaAbs e f g) m i = after_each_unless e f g m i
points_of (event.Masked e mask) m i = e m i && slice_index_or m i no_mark (OfEvent mask)

-- the positions at which there is a point of the expression
unfoldable pub points : EventExpr → Points
points = fold-EventExpr Points points_of

-- the last position is one of them
abbrev pub fires : EventExpr → List Mark → Bool
fires e m = nat_lt 0 (length m) && points e m (length m - 1)

-- the same of a history, with the arguments of the trigger
abbrev pub fires_on : EventExpr → List Value → History → Bool
fires_on e params history = fires e (marks e params history)
