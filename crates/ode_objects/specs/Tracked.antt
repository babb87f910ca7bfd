-- Objects that a transaction has read or made.
use Rattle.ode_objects.specs.declared.object.Object.{Object}
use Rattle.ode_objects.specs.declared.tracked.First.{First}
use Rattle.ode_objects.specs.declared.tracked.First.TheVariants.{Same, Other, Absent}
use Rattle.ode_objects.specs.declared.tracked.Tracked.{Tracked}

-- as it was when the transaction began, by what it is now
abbrev pub as_first : Object → First → First
as_first now Same = Other now
as_first now (Other o) = Other o
as_first now Absent = Absent

-- an object as it was read, and one that was made
abbrev pub read_object : Object → Tracked
read_object o = record { first = Same; current = o }

abbrev pub made_object : Object → Tracked
made_object o = record { first = Absent; current = o }

-- it is this from now on
abbrev pub changed_to : Object → Tracked → Tracked
changed_to now t = record { first = as_first t.current t.first; current = now }
