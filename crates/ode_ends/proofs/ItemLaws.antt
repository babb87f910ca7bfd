-- The text and the world of settled transactions, as items of a run.
use Rattle.std.proofs.Common.{◌≡◌, ℕ, List, [], ◌∷◌, ◌++◌, append-nil, refl, ap, subst}
use Rattle.ode_host.specs.Host.{LeavesOnly}
use Rattle.ode_host.specs.View.{View}
use Rattle.ode_machine.specs.Moments.{Holding, IsAfterSome}
use Rattle.ode_machine.specs.Runs.{Item, final, text_of}
use Rattle.ode_transact.specs.Items.{items_of, texts_of}
use Rattle.ode_value.specs.Draining.{world_after}
use Rattle.ode_value.specs.Language.{ListWorld, Settlings}

pub texts_are : (settled : Settlings) → texts_of settled ≡ text_of (items_of settled)
texts_are [] = refl
texts_are (s ∷ settled) = ap (λ (l : List ℕ). s.1 ++ l) (texts_are settled)

pub world_is : (w : ListWorld) (settled : Settlings) → final w (items_of settled) ≡ world_after w settled
world_is w [] = refl
world_is w (s ∷ settled) = world_is s.0 settled

-- nothing more
pub no_more : (holds : Holding) (items : List Item) (w : ListWorld) (text : List ℕ) (old new : View) → LeavesOnly old new (IsAfterSome holds (items ++ []) w text) → LeavesOnly old new (IsAfterSome holds items w text)
no_more holds items w text old new run = subst (λ (l : List Item). LeavesOnly old new (IsAfterSome holds l w text)) (append-nil items) run
