-- The work of transactions that no simple statement makes: a class declaration, a change of a class, and those of the clock.
use Rattle.std.specs.Prelude.{ℕ, ◌-◌, List, [], ◌∷◌, ◌++◌, length, cond, nat_le, is_some, slice_get}
use Rattle.ode_value.specs.declared.change.Change.{Change}
use Rattle.ode_value.specs.declared.reason.Reason.TheVariants.{Space}
use Rattle.ode_value.specs.Pasts.{Past}
use Rattle.ode_value.specs.Texts.{changed_line, class_line}
use Rattle.ode_value.specs.Worlds.{Declared, Position, World}
use Rattle.ode_value.specs.Acts.{Deed, ◌>>=◌, ◌>>◌, needs, finds, alters, turns, prints, nothing}
use Rattle.ode_value.specs.Changes.{object, there}
use Rattle.ode_value.specs.Changing.{changed_bones, changed_world}
use Rattle.ode_value.specs.Draining.{with_drain, world_after}
use Rattle.ode_machine.specs.TimeRows.{kinds_of}
use Rattle.ode_value.specs.Executing.{first_actions}
use Rattle.ode_value.specs.Limits.{weight_limit}
use Rattle.ode_value.specs.Posting.{posts, touches}
use Rattle.ode_value.specs.Settling.{Settled, transaction}
use Rattle.ode_value.specs.Transactions.{Clock}
use Rattle.ode_value.specs.Denoting.{object_at}
use Rattle.ode_value.specs.Weights.{weight}

-- a class is declared
abbrev pub declares : {O A : Type 0} → Declared → Deed O A
declares c = alters (λ b. record b { classes = b.classes ++ c ∷ [] }) >> prints (class_line c.class.name)

module _ {O A : Type 0} (past : Past O A) where
  -- a class gets fields, where the world isn't too heavy with them, and these are the classes then
  abbrev pub changes_class : List Declared → Change → Deed O A
  changes_class classes c = do
    prints (changed_line c.class)
    needs Space (λ x. nat_le (weight (changed_bones x.now.bones c classes)) weight_limit)
    turns (changed_world past classes c)

  -- what happens at a position of the clock: its object's point of the kind at its place
  abbrev pub ticks : Position → Deed O A
  ticks p = do
    touches past (first_actions past) p.object
    there p.object
    o ← object p.object
    kind ← finds (λ b. slice_get (kinds_of b.classes o.class) p.place)
    posts past (first_actions past) p.object kind []

  -- a tick of the clock
  abbrev pub tick : Position → World O A → Settled O A
  tick p w = transaction past (Clock p) (ticks p) w

  -- the move that ends a clock command
  abbrev pub move : Position → World O A → Settled O A
  move p w = transaction past (Clock p) nothing w

  -- what is settled from a world on, where so many entries may run
  abbrev pub Rest : Type 0
  Rest = ℕ → World O A → List (Settled O A)

  -- a settled transaction with its drain, and then the rest, with as many entries less as have run
  abbrev pub then_rest : Rest → ℕ → World O A → List (Settled O A) → List (Settled O A)
  then_rest rest most w settled = settled ++ rest (most - (length settled - 1)) (world_after w settled)

  -- a tick, where its object is there when its turn comes
  abbrev pub ticks_then : Position → Rest → Rest
  ticks_then p rest most w =
      cond (is_some (object_at w.bones p.object)) (then_rest rest most w (with_drain past most (tick p w))) (rest most w)

  -- the ticks in order, and then the move
  abbrev pub clock_run : List Position → Position → Rest
  clock_run [] last most w = with_drain past most (move last w)
  clock_run (p ∷ ps) last most w = ticks_then p (clock_run ps last) most w
