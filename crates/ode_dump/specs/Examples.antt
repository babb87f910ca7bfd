-- A database of one object with one activation, for an example of a dump.
use Rattle.std.specs.Prelude.{ℕ, List, [], ◌∷◌, ◌++◌, codes, map, Bool, true, false, ℤ, pos, negsuc, None}
use Rattle.ode_codec.specs.declared.record.Counters.{Counters}
use Rattle.ode_codec.specs.declared.record.Entry.{Entry}
use Rattle.ode_codec.specs.declared.record.Record.{Record}
use Rattle.ode_codec.specs.declared.record.Record.TheVariants as of
use Rattle.ode_value.specs.Keys.{key, counters_kind, class_head_kind, table_head_kind, object_kind, version_kind, activation_kind}
use Rattle.ode_value.specs.Texts.{line}
use Rattle.ode_value.specs.declared.class.Class.{Class}
use Rattle.ode_value.specs.declared.event.EventExpr.TheVariants.{Any}
use Rattle.ode_value.specs.declared.event.Mode.TheVariants.{Immediate}
use Rattle.ode_value.specs.declared.key.Key.{Key}
use Rattle.ode_value.specs.declared.member.TriggerDecl.{TriggerDecl}
use Rattle.ode_value.specs.declared.value.Value.TheVariants.{Int, Text}
use Rattle.ode_dump.specs.Lines.{record_line}
use Rattle.ode_dump.specs.Order.{Lines}

-- a class with one trigger
abbrev pub low : TriggerDecl
low = record { name = codes "low"; initial = false; perpetual = false; whole = false; mode = Immediate; params = []; event = Any; action = [] }

abbrev pub account : Class
account = record { number = 1; name = codes "Account"; parent = None; fields = []; methods = []; constraints = []; kinds = []; triggers = low ∷ [] }

-- counters whose clock is set, or isn't
abbrev pub counters : Bool → ℤ → Counters
counters clock_set instant = record { next_number = 3; next_transaction = 4; next_entry = 1; clock_set = clock_set; instant = instant; object = 0; place = 0; added = 0 }

-- the trigger waits on the object
abbrev pub waiting : Entry
waiting = record { object = 1; class = 1; trigger = 0; generation = 2; args = Int (negsuc 6) ∷ [] }

-- all records but pieces
abbrev pub records : List (Key × Record)
records =
    (key counters_kind 0 0, of.Counters (counters false (pos 0)))
    ∷ (key class_head_kind 1 0, of.ClassHead 1 (codes "Account") 0 120 1)
    ∷ (key table_head_kind 1 0, of.TableHead 1 0 2 3)
    ∷ (key object_kind 1 0, of.Object 1 1 1)
    ∷ (key version_kind 1 1, of.Version 1 1 0 0 (Int (pos 80) ∷ Text (codes "Ann") ∷ []))
    ∷ (key activation_kind 1 2, of.Activation (record { object = 1; number = 2; class = 1; trigger = 0; state = 1; args = Int (pos 100) ∷ [] }))
    ∷ []

abbrev pub lines : Lines
lines = map (λ f. (f.0, record_line (account ∷ []) f.1)) records

-- and the dump of all
abbrev pub text : List ℕ
text =
    line (codes "counters next 3 tx 4 entry 1")
    ++ line (codes "clock none")
    ++ line (codes "class 1 Account")
    ++ line (codes "table 1 0 states 2 symbols 3")
    ++ line (codes "object #1 class Account last 1")
    ++ line (codes "version #1@1 parent 0 80 \"Ann\"")
    ++ line (codes "active 2 on #1 trigger low state 1 100")
