-- What an abort leaves of a transaction.
use Rattle.std.specs.Prelude.{ℕ, List, [], ◌∷◌, Bool, Option, Some, None}
use Rattle.std.specs.List.{filter}
use Rattle.std.specs.BTreeMap.{insert_entry}
use Rattle.std.specs.Ordering.{nat_cmp}
use Rattle.ode_objects.specs.Rewinding.{rewound}
use Rattle.ode_objects.specs.declared.tracked.Tracked.{Tracked}
use Rattle.ode_overlay.specs.Layers.{Layer}
use Rattle.ode_overlay.specs.declared.overlay.Collected.{Collected}
use Rattle.ode_value.specs.declared.class.Class.{Class}

-- the objects that were there when it began
abbrev pub put_rewound : ℕ → Option Tracked → List (ℕ × Tracked) → List (ℕ × Tracked)
put_rewound id None done = done
put_rewound id (Some t) done = insert_entry nat_cmp done id t

abbrev pub rewound_from : List Class → List (ℕ × Tracked) → List (ℕ × Tracked) → List (ℕ × Tracked)
rewound_from classes done [] = done
rewound_from classes done (e ∷ es) = rewound_from classes (put_rewound e.0 (rewound classes e.1) done) es

abbrev pub stays : Collected → Bool
stays c = c.independent

-- of the collected firings the independent ones stay; the keys stay all
unfoldable pub rewind : List Class → Layer → Layer
rewind classes x = record x { objects = rewound_from classes [] x.objects; collected = filter stays x.collected }
