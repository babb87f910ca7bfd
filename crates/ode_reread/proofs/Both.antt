-- Trees and heights of the same tokens.
use Rattle.std.proofs.Common.{List, map}
use Rattle.ode_grammar.specs.declared.terminal.Terminal.{Terminal}
use Rattle.ode_grammar.specs.declared.item.Action.{Action}
use Rattle.ode_grammar.specs.declared.item.Item.{Item}
use Rattle.ode_grammar.specs.Texts.{Meaning, Derives, Done, Next, Make, Rule, Skip}
use Rattle.ode_heights.specs.declared.height.Heights.{Heights}
use Rattle.ode_heights.specs.Heights.{heights as of_heights, risen}
use Rattle.ode_syntax.specs.declared.trees.Trees.{Trees}
use Rattle.ode_syntax.specs.Built.{built}
use Rattle.ode_syntax.specs.Kept.{Spelled, kept}
use Rattle.ode_syntax.specs.Trees.{trees as of_trees}

pub record Both : Type 0 where
  pub trees : Trees
  pub heights : Heights

abbrev pub keep : Spelled → Both → Both
keep t b = record { trees = kept t b.trees; heights = b.heights }

abbrev pub make : Action → Both → Both
make a b = record { trees = built a b.trees; heights = risen a b.heights }

abbrev pub both : Meaning Spelled Both
both = record { seen = λ t. t.terminal; keep = keep; make = make }

abbrev pub seen_of : List Spelled → List Terminal
seen_of ts = map (λ (t : Spelled). t.terminal) ts

-- the trees have heights
pub record Lifted (items : List Item) (v : Trees) (h : Heights) (ts : List Spelled) (out : Trees) : Type 0 where
  pub heights : Heights
  pub derives : Derives both items (record { trees = v; heights = h }) ts (record { trees = out; heights = heights })

pub lifted : {items : List Item} {v : Trees} {ts : List Spelled} {out : Trees} → Derives of_trees items v ts out → (h : Heights) → Lifted items v h ts out
lifted Done h = record { heights = h; derives = Done }
lifted (Next k e d) h = let r = lifted d h in record { heights = r.heights; derives = Next k e r.derives }
lifted (Make a d) h = let r = lifted d (risen a h) in record { heights = r.heights; derives = Make a r.derives }
lifted (Rule p row e d) h = let r = lifted d h in record { heights = r.heights; derives = Rule p row e r.derives }
lifted (Skip p a e d) h = let r = lifted d (risen a h) in record { heights = r.heights; derives = Skip p a e r.derives }

-- and each by itself
pub its_trees : {items : List Item} {b : Both} {ts : List Spelled} {out : Both} → Derives both items b ts out → Derives of_trees items b.trees ts out.trees
its_trees Done = Done
its_trees (Next k e d) = Next k e (its_trees d)
its_trees (Make a d) = Make a (its_trees d)
its_trees (Rule p row e d) = Rule p row e (its_trees d)
its_trees (Skip p a e d) = Skip p a e (its_trees d)

pub its_heights : {items : List Item} {b : Both} {ts : List Spelled} {out : Both} → Derives both items b ts out
    → Derives of_heights items b.heights (seen_of ts) out.heights
its_heights Done = Done
its_heights (Next k e d) = Next k e (its_heights d)
its_heights (Make a d) = Make a (its_heights d)
its_heights (Rule p row e d) = Rule p row e (its_heights d)
its_heights (Skip p a e d) = Skip p a e (its_heights d)
