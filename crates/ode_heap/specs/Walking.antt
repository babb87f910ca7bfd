-- What the records of a kind with one first number come to, in the order of their keys.
use Rattle.std.specs.Prelude.{ℕ, ◌^◌, List, [], ◌∷◌, ◌++◌, Bool, cond, nat_le, nat_lt, ◌==◌, ◌&&◌, Option, Some, None}
use Rattle.ode_codec.specs.declared.record.Record.{Record}
use Rattle.ode_heap.specs.Answers.{Found, ◌>>=◌}
use Rattle.ode_heap.specs.Answers.{There, Broken}
use Rattle.ode_heap.specs.Looking.{decoded, looked_up}
use Rattle.ode_keep.specs.Entries.{Entries, least_from}
use Rattle.ode_value.specs.declared.key.Key.{Key}

-- a key of this kind and first number, whose second is this or more, and fits its type
abbrev pub is_from : ℕ → ℕ → ℕ → Key → Bool
is_from kind a n k = k.kind == kind && (k.a == a && (nat_le n k.b && nat_lt k.b (2 ^ 64)))

-- what each record under such a key is taken for, up to the first that is none
abbrev pub collected : {X : Type 0} → (Key → Bool) → (Key → List ℕ → Found X) → Entries → Found (List X)
collected test take [] = There []
collected test take (e ∷ es) = cond (test e.0) (take e.0 e.1 >>= λ x. collected test take es >>= λ xs. There (x ∷ xs)) (collected test take es)

-- a record is decoded, and then taken for something
abbrev pub taken : {X : Type 0} → (Key → Record → Found X) → Key → List ℕ → Found X
taken form k bytes = decoded k bytes >>= form k

-- all of them
unfoldable pub block : {X : Type 0} → (Key → Record → Found X) → ℕ → ℕ → ℕ → Entries → Found (List X)
block form kind a n entries = collected (is_from kind a n) (taken form) entries

-- the first of them, with its key
abbrev pub with_key : Key → Option Record → Found (Option (Key × Record))
with_key k None = Broken k
with_key k (Some r) = There (Some (k, r))

abbrev pub next_at : Entries → Key → Option Key → Found (Option (Key × Record))
next_at entries start None = There None
next_at entries start (Some k) = cond (is_from start.kind start.a start.b k) (looked_up entries k >>= with_key k) (There None)

unfoldable pub next_in : Entries → Key → Found (Option (Key × Record))
next_in entries start = next_at entries start (least_from entries start)

-- behind what was collected before
abbrev pub with_front : {X : Type 0} → List X → Found (List X) → Found (List X)
with_front front rest = rest >>= λ xs. There (front ++ xs)
