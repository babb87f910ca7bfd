-- A read that comes after some that took nothing.
use Rattle.std.proofs.Common.{ℕ, List, Option, Some, None, Result, Ok, Err, sym, ◌∙◌, take}
use Rattle.std.specs.Io.KnownBytes.{Keeps, Consumes, ReadConsumes}
use Rattle.std.proofs.KnownBytes.{Keeps-trans}

Keeps-Consumes : (a b c : Option (List ℕ)) (bytes : List ℕ) → Keeps a b → Consumes b c bytes → Consumes a c bytes
Keeps-Consumes None b c bytes kept consumed = tt
Keeps-Consumes (Some xs) None c bytes kept consumed = absurd kept
Keeps-Consumes (Some xs) (Some ys) None bytes kept consumed = absurd consumed
Keeps-Consumes (Some xs) (Some ys) (Some zs) bytes kept consumed = sym kept ∙ consumed

pub Keeps-ReadConsumes : {E : Type 0} (a b c : Option (List ℕ)) (result : Result ℕ E) (to : List ℕ) → Keeps a b → ReadConsumes b c result to → ReadConsumes a c result to
Keeps-ReadConsumes a b c (Ok n) to kept read = (Keeps-Consumes a b c (take n to) kept read.0, read.1)
Keeps-ReadConsumes a b c (Err e) to kept read = Keeps-trans a b c kept read
