use Rattle.std.proofs.Common.{◌≡◌, ℕ, List, sym, ◌∙◌, ap, subst}
use Rattle.ode_grammar.specs.declared.reader.Start.TheVariants as start
use Rattle.ode_heights.specs.declared.height.TheConstants.{HEIGHT_LIMIT}
use Rattle.ode_terminals.specs.Seen.{place_of}
use Rattle.ode_terminals.specs.declared.seen.Place.TheVariants.{Script}
use Rattle.ode_value.specs.PrintedClasses.{stmt_text}
use Rattle.ode_value.specs.declared.statement.Statement.TheVariants as statement
use Rattle.ode_value.specs.declared.statement.Stmt.{Stmt}
use Rattle.ode_syntax.specs.declared.trees.Trees.{Trees}
use Rattle.ode_syntax.specs.Built.{script_tree}
use Rattle.ode_classyn.specs.Texts.{IsParsed, IsStatementOf}
use Rattle.ode_eventsyn.specs.Parsing.{AreTree}
use Rattle.ode_reread.specs.Rereading.{IsRead}
use Rattle.ode_reread_classes.proofs.Parsed.{not_refused, one_tree}
use Rattle.ode_reread_classes.proofs.Places.{in_script}
use Rattle.ode_reread_classes.proofs.Readings.{simple_again}
use Rattle.ode_reread_classes.proofs.laws.printed_statements_are_parsed.Goals as goal

-- a simple statement is read in a script
is_read : (text : List ℕ) (made : Trees) (s : Stmt) → IsParsed start.Statement place_of text made → script_tree made.scripts ≡ statement.Simple s
    → IsRead HEIGHT_LIMIT start.Statement Script text made
is_read text made s p e =
    let place = in_script (place_of text p.tokens) text p.tokens made s p.lexed_as p.is_tree.makes e in
    let tree = subst (λ x. AreTree start.Statement x text p.tokens made) place p.is_tree in
    record { tokens = p.tokens; lexed_as = p.lexed_as; makes = tree.makes; within = tree.within }

is_parsed : (text : List ℕ) (made : Trees) (s : Stmt) → IsRead HEIGHT_LIMIT start.Statement Script text made → script_tree made.scripts ≡ statement.Simple s
    → IsParsed start.Statement place_of text made
is_parsed text made s r e =
    let place = in_script Script text r.tokens made s r.lexed_as r.makes e in
    record {
      tokens = r.tokens;
      lexed_as = r.lexed_as;
      is_tree = subst (λ x. AreTree start.Statement x text r.tokens made) (sym place) (record { makes = r.makes; within = r.within });
    }

-- the printed text is a text of the statement
itself : (text : List ℕ) (s : Stmt) → IsStatementOf text (statement.Simple s) → IsStatementOf (stmt_text s) (statement.Simple s)
itself text s p =
    let x = simple_again HEIGHT_LIMIT Script text p.0 s (is_read text p.0 s p.1 (sym p.2)) (sym p.2) in
    (x.0, is_parsed (stmt_text s) x.0 s x.1 x.2, sym x.2)

pub returns-clause-itself : goal.returns-clause-itself
returns-clause-itself c = itself

pub returns-clause-no_other : goal.returns-clause-no_other
returns-clause-no_other c = λ text s other p q.
    let x = itself text s p in
    q.2 ∙ (ap (λ (v : Trees). script_tree v.scripts) (one_tree start.Statement place_of (stmt_text s) q.0 x.0 q.1 x.1) ∙ sym x.2)

pub returns-clause-not_refused : goal.returns-clause-not_refused
returns-clause-not_refused c = λ text s why p h.
    let x = itself text s p in
    not_refused start.Statement place_of (stmt_text s) x.0 x.1 why h
