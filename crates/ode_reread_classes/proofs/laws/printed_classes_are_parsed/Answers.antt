use Rattle.std.proofs.Common.{ℕ, List, sym, ◌∙◌, ap, subst}
use Rattle.ode_grammar.specs.declared.reader.Start.TheVariants as start
use Rattle.ode_heights.specs.declared.height.TheConstants.{HEIGHT_LIMIT}
use Rattle.ode_terminals.specs.declared.seen.Place.TheVariants.{Class}
use Rattle.ode_value.specs.PrintedClasses.{decl_text}
use Rattle.ode_value.specs.declared.statement.ClassDecl.{ClassDecl}
use Rattle.ode_syntax.specs.declared.trees.Trees.{Trees}
use Rattle.ode_syntax.specs.Built.{class_tree}
use Rattle.ode_classyn.specs.Texts.{in_class, IsClassOf, IsParsed}
use Rattle.ode_reread.specs.Rereading.{IsRead}
use Rattle.ode_reread_classes.proofs.Parsed.{not_refused, one_tree}
use Rattle.ode_reread_classes.proofs.Readings.{class_again}
use Rattle.ode_reread_classes.proofs.laws.printed_classes_are_parsed.Goals as goal

is_read : (text : List ℕ) (made : Trees) → IsParsed start.Class in_class text made → IsRead HEIGHT_LIMIT start.Class Class text made
is_read text made p = record { tokens = p.tokens; lexed_as = p.lexed_as; makes = p.is_tree.makes; within = p.is_tree.within }

is_parsed : (text : List ℕ) (made : Trees) → IsRead HEIGHT_LIMIT start.Class Class text made → IsParsed start.Class in_class text made
is_parsed text made r = record { tokens = r.tokens; lexed_as = r.lexed_as; is_tree = record { makes = r.makes; within = r.within } }

-- the printed text is a text of the class
itself : (text : List ℕ) (class : ClassDecl) → IsClassOf text class → IsClassOf (decl_text class) class
itself text class p =
    let x = class_again HEIGHT_LIMIT Class text p.0 (is_read text p.0 p.1) in
    subst (λ c. IsClassOf (decl_text c) c) (sym p.2) (x.0, is_parsed (decl_text (class_tree p.0.classes)) x.0 x.1, sym x.2)

pub returns-clause-itself : goal.returns-clause-itself
returns-clause-itself c = itself

pub returns-clause-no_other : goal.returns-clause-no_other
returns-clause-no_other c = λ text class other p q.
    let x = itself text class p in
    q.2 ∙ (ap (λ (v : Trees). class_tree v.classes) (one_tree start.Class in_class (decl_text class) q.0 x.0 q.1 x.1) ∙ sym x.2)

pub returns-clause-not_refused : goal.returns-clause-not_refused
returns-clause-not_refused c = λ text class why p h.
    let x = itself text class p in
    not_refused start.Class in_class (decl_text class) x.0 x.1 why h
