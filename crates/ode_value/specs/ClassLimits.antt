-- Which checked classes are within the limits.
use Rattle.std.specs.Prelude.{List, [], ◌∷◌, min, nat_lt, Ok}
use Rattle.ode_value.specs.declared.member.TriggerDecl.{TriggerDecl}
use Rattle.ode_value.specs.declared.reason.Refusal.TheVariants as refusal
use Rattle.ode_value.specs.Answers.{Answer, ◌>>◌, refuses}
use Rattle.ode_value.specs.Limits.{symbol_limit, counted_symbols, state_limit, class_limit}
use Rattle.ode_value.specs.Symbols.{symbol_count}
use Rattle.ode_value.specs.TreeCount.{tree_count}
use Rattle.ode_value.specs.Weights.{record_count}
use Rattle.ode_value.specs.Worlds.{Declared}

-- a trigger has few symbols, and then few states
abbrev pub limits_trigger : TriggerDecl → Answer (Unit {0})
limits_trigger t = do
  refuses (nat_lt symbol_limit (symbol_count t.event)) (refusal.TooManySymbols t.name (min (symbol_count t.event) counted_symbols))
  refuses (nat_lt state_limit (tree_count t.event)) (refusal.TooManyStates t.name)

-- each trigger, in order
abbrev pub limits_triggers : List TriggerDecl → Answer (Unit {0})
limits_triggers [] = Ok tt
limits_triggers (t ∷ ts) = limits_trigger t >> limits_triggers ts

-- a class within the limits: its triggers, and then its records
abbrev pub limits_class : Declared → Answer Declared
limits_class c = do
  limits_triggers c.class.triggers
  refuses (nat_lt class_limit (record_count c)) (refusal.ClassTooLarge (record_count c))
  Ok c
