-- Where keys of a kind, and of a first number, stand among keys that rise.
use Rattle.std.specs.Prelude.{ℕ, Bool, ◌==◌, ◌&&◌, ◌||◌, nat_le, nat_lt}
use Rattle.ode_value.specs.declared.key.Key.{Key}

-- a key comes before those of this kind and first number
abbrev pub is_before : ℕ → ℕ → Key → Bool
is_before kind a k = nat_lt k.kind kind || ((k.kind == kind) && nat_lt k.a a)

-- it comes before them, or is one of them
abbrev pub is_up_to : ℕ → ℕ → Key → Bool
is_up_to kind a k = nat_lt k.kind kind || ((k.kind == kind) && nat_le k.a a)
