-- What an abort leaves of an object.
use Rattle.std.specs.Prelude.{ℕ, List, map, Bool, false, cond, Option, Some, None}
use Rattle.std.specs.List.{find, slice_get}
use Rattle.std.specs.Option.{option_map_or}
use Rattle.ode_objects.specs.Objects.{has_number}
use Rattle.ode_objects.specs.declared.object.Active.{Active}
use Rattle.ode_objects.specs.declared.object.Object.{Object}
use Rattle.ode_objects.specs.declared.tracked.First.{First}
use Rattle.ode_objects.specs.declared.tracked.First.TheVariants.{Same, Other, Absent}
use Rattle.ode_objects.specs.declared.tracked.Tracked.{Tracked}
use Rattle.ode_types.specs.Families.{class_numbered}
use Rattle.ode_value.specs.declared.class.Class.{Class}
use Rattle.ode_value.specs.declared.member.TriggerDecl.{TriggerDecl}

-- whether the trigger of an activation sees whole histories
abbrev pub sees_whole : Option TriggerDecl → Bool
sees_whole None = false
sees_whole (Some t) = t.whole

abbrev pub sees_in : Option Class → ℕ → Bool
sees_in None place = false
sees_in (Some c) place = sees_whole (slice_get c.triggers place)

abbrev pub is_whole : List Class → Active → Bool
is_whole classes a = sees_in (class_numbered classes a.class) a.trigger

-- the state that the activation of this number has now
abbrev pub state_in : List Active → Active → ℕ
state_in now a = option_map_or (λ (b : Active). b.state) (find (has_number a.number) now) a.state

-- an activation of the first world: whole histories go on
abbrev pub rewound_active : List Class → List Active → Active → Active
rewound_active classes now a = record a { state = cond (is_whole classes a) (state_in now a) a.state }

-- an object of the first world, with the last number that a version of it ever had
abbrev pub rewound_object : List Class → Object → Object → Object
rewound_object classes first now = record first { last = now.last; activations = map (rewound_active classes now.activations) first.activations }

-- an object that was made is gone
abbrev pub rewound_by : List Class → Object → First → Option Tracked
rewound_by classes now Same = Some (record { first = Same; current = now })
rewound_by classes now (Other first) = Some (record { first = Other first; current = rewound_object classes first now })
rewound_by classes now Absent = None

abbrev pub rewound : List Class → Tracked → Option Tracked
rewound classes t = rewound_by classes t.current t.first
