-- The trees of texts.
use Rattle.std.specs.Prelude.{List, []}
use Rattle.ode_grammar.specs.declared.reader.Start.{Start}
use Rattle.ode_grammar.specs.Grammar.{items_of}
use Rattle.ode_grammar.specs.Texts.{Meaning, Derives}
use Rattle.ode_syntax.specs.declared.trees.Trees.{Trees}
use Rattle.ode_syntax.specs.Built.{built}
use Rattle.ode_syntax.specs.Kept.{Spelled, kept}

-- what tokens make of trees
abbrev pub trees : Meaning Spelled Trees
trees = record { seen = λ s. s.terminal; keep = kept; make = built }

abbrev pub no_trees : Trees
no_trees =
    record {
      names = [];
      leaves = [];
      marks = [];
      exprs = [];
      args = [];
      sets = [];
      right_sides = [];
      statements = [];
      bodies = [];
      kinds = [];
      kind_lists = [];
      events = [];
      sorts = [];
      params = [];
      parents = [];
      flags = [];
      modes = [];
      members = [];
      classes = [];
      changes = [];
      scripts = [];
    }

-- the tokens are a text of this sort, and these are its trees
abbrev pub Makes : Start → List Spelled → Trees → Type 0
Makes start tokens made = Derives trees (items_of start) no_trees tokens made
