-- What a check's answer says of what was meant.
use Rattle.std.specs.Prelude.{◌≡◌, Result, Ok, Err}
use Rattle.ode_types.specs.Checks.{Check}
use Rattle.ode_types.specs.declared.stop.CheckStop.{CheckStop}
use Rattle.ode_types.specs.declared.stop.CheckStop.TheVariants as stop

-- a tree or a broken rule is what was meant; want of memory says nothing
abbrev pub Answers : {T : Type 0} → Check T → Result T CheckStop → Type 0
Answers meant (Ok t) = meant ≡ Ok t
Answers meant (Err (stop.Broken e)) = meant ≡ Err e
Answers meant (Err stop.Memory) = Unit {0}

-- the same of a check that leaves something for what comes next
abbrev pub AnswersWith : {T S : Type 0} → Check (T × S) → S → Result T CheckStop → Type 0
AnswersWith meant s (Ok t) = meant ≡ Ok (t, s)
AnswersWith meant s (Err (stop.Broken e)) = meant ≡ Err e
AnswersWith meant s (Err stop.Memory) = Unit {0}

-- the same of a check whose only answer is what it leaves
abbrev pub Leaves : {S : Type 0} → Check S → S → Result (Unit {0}) CheckStop → Type 0
Leaves meant s (Ok u) = meant ≡ Ok s
Leaves meant s (Err (stop.Broken e)) = meant ≡ Err e
Leaves meant s (Err stop.Memory) = Unit {0}
