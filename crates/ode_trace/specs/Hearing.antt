-- What is heard of a run.
use Rattle.std.specs.Prelude.{Bool, List, map}
use Rattle.ode_machine.specs.Runs.{Item, Refuses, Settles}
use Rattle.ode_transact.specs.Output.{heard}

-- what is heard of a settled transaction, or of a refusal
abbrev pub heard_item : Bool → Item → Item
heard_item quiet (Settles w text) = Settles w (heard quiet text)
heard_item quiet (Refuses line) = Refuses (heard quiet line)

-- what is heard of a run of these items: all, or nothing where it is quiet
abbrev pub heard_items : Bool → List Item → List Item
heard_items quiet items = map (heard_item quiet) items
