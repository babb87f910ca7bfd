-- The tests of constraints.
use Rattle.std.specs.Prelude.{[], true, false, Result, Ok, Err}
use Rattle.ode_value.specs.declared.arithmetic.Fault.{Fault}
use Rattle.ode_value.specs.declared.member.Constraint.{Constraint}
use Rattle.ode_value.specs.declared.reason.Reason.TheVariants as reason
use Rattle.ode_value.specs.declared.value.Ref.{Ref}
use Rattle.ode_value.specs.declared.value.Value.{Value}
use Rattle.ode_value.specs.declared.value.Value.TheVariants as value
use Rattle.ode_value.specs.Masks.{plain}
use Rattle.ode_value.specs.Versions.{Version}
use Rattle.ode_value.specs.Acts.{Deed, ◌>>=◌, sees, nothing, aborts, each}
use Rattle.ode_value.specs.Changes.{object, version}
use Rattle.ode_value.specs.Classes.{constraints_of}
use Rattle.ode_value.specs.Evaluation.{reason_of}
use Rattle.ode_value.specs.Worlds.{Object}

module _ {O A : Type 0} where
  -- false aborts with the constraint's name, and a fault with its own reason
  abbrev pub judges : Constraint → Result Value Fault → Deed O A
  judges c (Ok (value.Bool true)) = nothing
  judges c (Ok _) = aborts (reason.Constraint c.name)
  judges c (Err fault) = aborts (reason_of fault)

  -- a constraint on a version
  abbrev pub tests : Version → Constraint → Deed O A
  tests v c = judges c (plain c.test (record { locals = []; own = v.fields }))

  -- the hard constraints, on the version that a reference denotes
  abbrev pub tests_hard : Ref → Deed O A
  tests_hard r = do
    v ← version r
    o ← object r.object
    hard ← sees (λ b. constraints_of false b.classes o.class)
    each (tests v) hard

  -- the soft ones, on a version of an object
  abbrev pub tests_version : Object → Version → Deed O A
  tests_version o v = do
    soft ← sees (λ b. constraints_of true b.classes o.class)
    each (tests v) soft

  -- on each version, in rising order
  abbrev pub tests_soft : Object → Deed O A
  tests_soft o = each (tests_version o) o.versions
