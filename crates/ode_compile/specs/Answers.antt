-- What an answer says of what was meant.
use Rattle.std.specs.Prelude.{◌≡◌, Result, Ok, Err}
use Rattle.ode_value.specs.Answers.{Answer}
use Rattle.ode_value.specs.Worlds.{Declared}
use Rattle.ode_value.specs.declared.statement.ClassDecl.{ClassDecl}
use Rattle.ode_compile.specs.declared.compiling.Compiled.{Compiled}
use Rattle.ode_compile.specs.declared.stop.CompileStop.{CompileStop}
use Rattle.ode_compile.specs.declared.stop.CompileStop.TheVariants as stop

-- a refusal is what was meant; want of memory says nothing
abbrev pub Stops : {R : Type 0} → Answer R → CompileStop → Type 0
Stops meant (stop.Refused why) = meant ≡ Err why
Stops meant stop.Memory = Unit {0}

-- what is given is what was meant
abbrev pub Gives : {R : Type 0} → Answer R → Result R CompileStop → Type 0
Gives meant (Ok r) = meant ≡ Ok r
Gives meant (Err s) = Stops meant s

-- a test is passed where something is given, whatever that is
abbrev pub Passes : {R : Type 0} → Answer (Unit {0}) → Result R CompileStop → Type 0
Passes meant (Ok r) = meant ≡ Ok tt
Passes meant (Err s) = Stops meant s

-- what is given is the class that was meant, of this tree
abbrev pub Answers : ClassDecl → Answer Declared → Result Compiled CompileStop → Type 0
Answers d meant (Ok made) = meant ≡ Ok (record { class = made.class; tree = d })
Answers d meant (Err s) = Stops meant s
