-- What the code's values are seen as, and how a call ends as an act does.
use Rattle.std.specs.Prelude.{◌≡◌, ℕ, List, true, nat_le, Option, Some, None, Result, Ok, Err}
use Rattle.ode_value.specs.declared.member.TriggerDecl.{TriggerDecl}
use Rattle.ode_value.specs.declared.value.Value.{Value}
use Rattle.ode_value.specs.Acts.{Outcome, Done, Aborted}
use Rattle.ode_value.specs.Classes.{Trigger}
use Rattle.ode_value.specs.Evaluation.{Frame}
use Rattle.ode_value.specs.Executing.{Flow, Goes, Gives}
use Rattle.ode_value.specs.Lengths.{values_length}
use Rattle.ode_value.specs.Limits.{args_limit}
use Rattle.ode_value.specs.Transactions.{Tx, Firing}
use Rattle.ode_value.specs.Worlds.{Declared}
use Rattle.ode_interpreter.specs.declared.firing.Firing as fired
use Rattle.ode_interpreter.specs.declared.firing.Trigger as code
use Rattle.ode_interpreter.specs.declared.scene.Scene.{Scene}
use Rattle.ode_interpreter.specs.declared.stop.Stop.{Stop}
use Rattle.ode_interpreter.specs.declared.stop.Stop.TheVariants.{Abort, Memory, DiskFault, Damaged}

-- a transaction over state numbers
abbrev pub NumberTx : Type 0
NumberTx = Tx (Unit {0}) ℕ

-- with these classes in its world now: they stand apart from what changes
abbrev pub with_classes : List Declared → NumberTx → NumberTx
with_classes classes x = record x { now = record x.now { bones = record x.now.bones { classes = classes } } }

-- the frame that a scene is
abbrev pub scene : Scene → Frame
scene on = record { this = on.this; locals = on.locals }

-- a trigger, as it is declared by its class and place
abbrev pub trigger : (ℕ → ℕ → TriggerDecl) → code.Trigger → Trigger
trigger declared t = record { class = t.class; place = t.place; decl = declared t.class t.place }

-- the firing of one
abbrev pub firing : (ℕ → ℕ → TriggerDecl) → fired.Firing → Firing
firing declared f = record { object = f.object; activation = f.activation; trigger = trigger declared f.trigger; args = f.args }

-- its arguments aren't too long for a record
abbrev pub IsShort : fired.Firing → Type 0
IsShort f = nat_le (values_length f.args) args_limit ≡ true

-- what follows a statement that ended with this frame, and perhaps with a value
abbrev pub flow_of : Frame → Option Value → Flow
flow_of frame None = Goes frame
flow_of frame (Some v) = Gives v

-- a call ended as an act does
abbrev pub Ends : {R : Type 0} → Result R Stop → NumberTx → Outcome (Unit {0}) ℕ R → Type 0
Ends (Ok v) x o = o ≡ Done v x
Ends (Err (Abort why)) x o = o ≡ Aborted why x
Ends (Err Memory) x o = Unit {0}
Ends (Err DiskFault) x o = Unit {0}
Ends (Err (Damaged key)) x o = Unit {0}

-- the same, where its answer is read in another way
abbrev pub EndsBy : {R S : Type 0} → (S → R) → Result S Stop → NumberTx → Outcome (Unit {0}) ℕ R → Type 0
EndsBy says (Ok v) x o = o ≡ Done (says v) x
EndsBy says (Err (Abort why)) x o = o ≡ Aborted why x
EndsBy says (Err Memory) x o = Unit {0}
EndsBy says (Err DiskFault) x o = Unit {0}
EndsBy says (Err (Damaged key)) x o = Unit {0}

-- what a call leaves: the one, or the other where the disk failed or a record is damaged
abbrev pub Leaves : {R : Type 0} → Result R Stop → Type 0 → (Stop → Type 0) → Type 0
Leaves (Ok v) kept failed = kept
Leaves (Err (Abort why)) kept failed = kept
Leaves (Err Memory) kept failed = kept
Leaves (Err DiskFault) kept failed = failed DiskFault
Leaves (Err (Damaged key)) kept failed = failed (Damaged key)

-- no abort
abbrev pub IsFault : Stop → Type 0
IsFault (Abort why) = ⊥
IsFault Memory = Unit {0}
IsFault DiskFault = Unit {0}
IsFault (Damaged key) = Unit {0}
