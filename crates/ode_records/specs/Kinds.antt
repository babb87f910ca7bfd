-- Records kind by kind.
use Rattle.std.specs.Prelude.{◌≡◌, ◌∷◌, ℕ, suc, List, []}
use Rattle.std.specs.List.{AllByRecursion, flat_map}
use Rattle.std.specs.Map.{keys_of}
use Rattle.ode_value.specs.declared.key.Key.{Key}
use Rattle.ode_keep.specs.Entries.{Entries, HasRisingKeys}

-- those of all kinds, one kind behind the other
abbrev pub all_of : List Entries → Entries
all_of kinds = flat_map (λ (es : Entries). es) kinds

-- records whose keys rise, and have this kind
abbrev pub AreOfKind : ℕ → Entries → Type 0
AreOfKind kind es = HasRisingKeys es × AllByRecursion (λ (k : Key). k.kind ≡ kind) (keys_of es)

-- those of this kind, of the next one, and so on
abbrev pub AreKinds : ℕ → List Entries → Type 0
AreKinds kind [] = Unit {0}
AreKinds kind (es ∷ kinds) = AreOfKind kind es × AreKinds (suc kind) kinds
