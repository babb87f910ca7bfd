-- Changes that a commit makes in the pages of a file.
use Rattle.std.specs.Prelude.{◌≡◌, ℕ, List, [], ◌∷◌, Option}
use Rattle.ode_gate.specs.declared.header.Header.{Header}
use Rattle.ode_host.specs.View.{View}
use Rattle.ode_value.specs.declared.key.Key.{Key}
use Rattle.ode_keep.specs.Entries.{Changes, Entries, applied, changed}
use Rattle.ode_paging.specs.declared.hand.Hand.{Hand}
use Rattle.ode_paging.specs.Gathering.{gathered}
use Rattle.ode_paging.specs.Hands.{HasInHand}
use Rattle.ode_paging.specs.Images.{Image}
use Rattle.ode_paging.specs.Indexing.{Leads, indexed}
use Rattle.ode_paging.specs.Replacing.{ArePages, pointed}

-- the value under a key changed to this, and it stands in this page then, if in any
pub record IsMade (view : View) (header : Header) (images : List Image) (hand : Hand) (pages now : List Entries) (k : Key) (value : Option (List ℕ)) (page : Option ℕ) : Type 0 where
  pub after : List Entries
  pub has : HasInHand view header images hand pages after
  pub are : ArePages after
  pub entries : gathered [] after ≡ changed (gathered [] now) k value
  pub leads : indexed 0 [] after ≡ pointed (indexed 0 [] now) k page

-- keys and the pages to which they lead from then on
abbrev pub Moves : Type 0
Moves = List (Key × Option ℕ)

-- after these moves, the first of them first
abbrev pub all_pointed : Moves → Leads → Leads
all_pointed [] leads = leads
all_pointed (m ∷ moves) leads = all_pointed moves (pointed leads m.0 m.1)

-- all changes are made, and the keys lead where these moves say
pub record AreMade (view : View) (header : Header) (images : List Image) (hand : Hand) (pages : List Entries) (changes : Changes) (moves : Moves) : Type 0 where
  pub after : List Entries
  pub has : HasInHand view header images hand pages after
  pub are : ArePages after
  pub entries : gathered [] after ≡ applied changes (gathered [] pages)
  pub leads : indexed 0 [] after ≡ all_pointed moves (indexed 0 [] pages)
