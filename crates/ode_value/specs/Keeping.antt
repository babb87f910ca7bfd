-- What a transaction leaves of a world: at a commit the world now, without what is gone; at an abort the first one, rewound.
use Rattle.std.specs.Prelude.{ℕ, List, map, Bool, ◌==◌, Option}
use Rattle.std.specs.List.{filter, filter_map, list_any}
use Rattle.std.specs.Option.{option_map, option_map_or, unwrap_or}
use Rattle.ode_value.specs.Objects.{Activation}
use Rattle.ode_value.specs.Pasts.{Past, Kept, Watch}
use Rattle.ode_value.specs.Worlds.{Declared, Object, Bones, World, kept_at}
use Rattle.ode_value.specs.Firings.{changed_rows}
use Rattle.ode_value.specs.Denoting.{object_at, object_numbered}

-- an activation is on
abbrev pub is_active : Activation → Bool
is_active a = a.on

-- an object is live
abbrev pub is_there : Object → Bool
is_there o = o.live

-- an object has an activation of this number
abbrev pub has_activation : Object → ℕ → Bool
has_activation o number = list_any (λ (a : Activation). a.number == number) o.activations

-- an object without activations that are off
abbrev pub kept_object : Object → Object
kept_object o = record o { activations = filter is_active o.activations }

-- the bones without objects that aren't live and activations that are off
abbrev pub kept_bones : Bones → Bones
kept_bones b = record b { objects = map kept_object (filter is_there b.objects) }

-- an object with the last number that a version of it now had
abbrev pub with_last : Bones → Object → Object
with_last now o = record o { last = option_map_or (λ (p : Object). p.last) (object_numbered o.id now.objects) o.last }

module _ {O A : Type 0} where
  -- what is kept of an object's past, without activations that aren't there
  abbrev pub kept_past : Kept O A → Object → Kept O A
  kept_past kept o = record kept { activations = filter (λ (row : ℕ × A). has_activation o row.0) kept.activations }

  -- the same, where the object is there
  abbrev pub kept_row : Bones → ℕ × Kept O A → Option (ℕ × Kept O A)
  kept_row b row = option_map (λ o. (row.0, kept_past row.1 o)) (object_at b row.0)

  -- a world without objects that aren't live and activations that are off
  abbrev pub kept_world : World O A → World O A
  kept_world w = record { bones = kept_bones w.bones; pasts = filter_map (kept_row (kept_bones w.bones)) w.pasts }

module _ {O A : Type 0} (past : Past O A) where
  -- what is kept of an activation of the first world, by what is kept now
  abbrev pub back : List (ℕ × A) → ℕ → Watch → A → A
  back now number w first = past.back w first (unwrap_or (kept_at number now) first)

  -- what is kept of an object of the first world
  abbrev pub rewound_past : List Declared → Kept O A → Kept O A → Object → Kept O A
  rewound_past classes first now o = record {
    own = past.rewind first.own now.own;
    activations = changed_rows (back now.activations) classes o first.activations;
  }

  -- the same by its row, and by the row now
  abbrev pub rewound_by : World O A → ℕ → Kept O A → Kept O A → Kept O A
  rewound_by first id kept now = option_map_or (rewound_past first.bones.classes kept now) (object_at first.bones id) kept

  -- a row of the first world
  abbrev pub rewound_row : World O A → World O A → ℕ × Kept O A → ℕ × Kept O A
  rewound_row first now row = (row.0, rewound_by first row.0 row.1 (unwrap_or (kept_at row.0 now.pasts) row.1))

  -- The first world, but for what was drawn: the next number, and each object's last version number. In the whole lists the points
  -- stay that arose, and all that was kept by these goes on.
  abbrev pub rewound_world : World O A → World O A → World O A
  rewound_world first now = record {
    bones = record first.bones { next = now.bones.next; objects = map (with_last now.bones) first.bones.objects };
    pasts = map (rewound_row first now) first.pasts;
  }
