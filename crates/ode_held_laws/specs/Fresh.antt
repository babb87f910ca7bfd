-- What an overlay reads of an object that it hasn't read yet.
use Rattle.std.specs.Prelude.{ℕ, Option, Ok, Err}
use Rattle.ode_laws.specs.Alike.{NumberTx}
use Rattle.ode_objects.specs.declared.tracked.Tracked.{Tracked}
use Rattle.ode_overlay.specs.Answers.{Answer}
use Rattle.ode_overlay.specs.Layers.{Layer}
use Rattle.ode_overlay_laws.specs.Standing.{IsFresh}

-- it is read, and is what the world now has
abbrev pub ReadsFresh : Layer → NumberTx → ℕ → Answer (Option Tracked) → Type 0
ReadsFresh x y id (Ok new) = IsFresh x y id new
ReadsFresh x y id (Err why) = ⊥
