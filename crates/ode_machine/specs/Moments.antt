-- What a stop leaves of a run, whatever it is that an image holds a world.
use Rattle.std.specs.Prelude.{◌≡◌, ◌⊎◌, ℕ, List, ◌++◌, take}
use Rattle.ode_machine.specs.Runs.{Item, text_until, world_at}
use Rattle.ode_value.specs.Language.{ListWorld}

-- an image holds a world
abbrev pub Holding : Type 1
Holding = List ℕ → ListWorld → Type 0

-- A run of these items is at one of its moments: the image holds the world after some of its settled transactions, and what is printed
-- behind this text is a front of what is printed up to the next one, never more than the image has.
pub record IsAfterSome (holds : Holding) (items : List Item) (w : ListWorld) (text image out : List ℕ) : Type 0 where
  pub settled : ℕ
  pub held : holds image (world_at settled w items)
  pub front : List ℕ
  pub rest : List ℕ
  pub is_front : text_until settled items ≡ front ++ rest
  pub printed : out ≡ text ++ front

-- A settling is at one of its moments: the image holds the world before it and nothing is printed, or the one after it, and a front of
-- its text is printed.
abbrev pub LeavesSettling : Holding → (before after : ListWorld) → (text said image out : List ℕ) → Type 0
LeavesSettling holds before after text said image out =
    (holds image before × (out ≡ text)) ⊎ (holds image after × (n : ℕ) × (out ≡ text ++ take n said))
