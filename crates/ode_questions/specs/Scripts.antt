-- What a script of questions prints over a world, and its status.
use Rattle.std.specs.Prelude.{ℕ, List, [], ◌++◌, Bool, false, ◌||◌}
use Rattle.ode_host.specs.declared.status.Status.{Status}
use Rattle.ode_machine.specs.Runs.{status_at}
use Rattle.ode_script.specs.Cutting.{Ended, Pieces, Then, ending_of, pieces}
use Rattle.ode_value.specs.Worlds.{Bones}
use Rattle.ode_questions.specs.Saying.{said}
use Rattle.ode_questions.specs.declared.asked.Asked.{Asked}

module _ (asked : Asked) (b : Bones) where
  -- the texts of the pieces, one behind the other
  unfoldable pub pieces_text : Pieces → List ℕ
  pieces_text (Ended ending) = []
  pieces_text (Then line text rest) = (said asked b line text).text ++ pieces_text rest

  -- some piece is refused
  unfoldable pub any_refused : Pieces → Bool
  any_refused (Ended ending) = false
  any_refused (Then line text rest) = (said asked b line text).refused || any_refused rest

  -- of a whole script
  abbrev pub script_text : List ℕ → List ℕ
  script_text script = pieces_text (pieces script)

  abbrev pub script_status : List ℕ → Status
  script_status script = status_at (ending_of (pieces script)) (any_refused (pieces script))
