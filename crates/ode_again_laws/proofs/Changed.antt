-- A change of a class that is read adds fields with names, sorts and literals in their ranges.
use Rattle.std.proofs.Common.{◌≡◌, ℕ, List, Some, Ok, sym, ◌∙◌, ap, subst}
use Rattle.ode_grammar.specs.declared.reader.Start.TheVariants as start
use Rattle.ode_grammar.specs.Grammar.{items_of}
use Rattle.ode_heights.specs.declared.height.TheConstants.{HEIGHT_LIMIT}
use Rattle.ode_terminals.specs.declared.seen.Place.TheVariants as place
use Rattle.ode_value.specs.declared.change.Change.{Change}
use Rattle.ode_syntax.specs.declared.trees.Trees.{Trees}
use Rattle.ode_syntax.specs.Built.{change_tree}
use Rattle.ode_language.specs.Languages.{change_of}
use Rattle.ode_reread.specs.Rereading.{IsRead}
use Rattle.ode_reread.proofs.Both.{Both}
use Rattle.ode_reread.proofs.Readings.{at_start}
use Rattle.ode_reread_classes.proofs.Additions.{GoodChange}
use Rattle.ode_reread_classes.proofs.ChangeRows.{change_does}
use Rattle.ode_reread_classes.proofs.Readings.{reading}
use Rattle.ode_again_laws.proofs.Reading.{change_is}

pub change_good : (piece : List ℕ) (c : Change) → change_of piece ≡ Some (Ok c) → GoodChange c
unfolding items_of
change_good piece c e =
    let s = change_is piece c e in
    let read : IsRead HEIGHT_LIMIT start.Change place.Change piece s.made = record { tokens = s.tokens; lexed_as = s.lexed_as; makes = s.is_tree.makes; within = s.is_tree.within } in
    let x = reading HEIGHT_LIMIT start.Change place.Change piece s.made read in
    let a = change_does place.Change at_start x.out x.does in
    let same : a.x ≡ c = sym (ap (λ (b : Both). change_tree b.trees.changes) a.is) ∙ (ap (λ (v : Trees). change_tree v.changes) x.trees ∙ s.same) in
    subst GoodChange same a.good
