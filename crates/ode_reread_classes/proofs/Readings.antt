-- What a whole text makes, and that its printed text makes the same.
use Rattle.std.proofs.Common.{◌≡◌, ◌≤◌, ℕ, true, codes, List, [], ◌∷◌, ◌++◌, map, refl, sym, ◌∙◌, ap, subst, arith}
use Rattle.std.proofs.lemmas.Bool.{false≢true}
use Rattle.std.proofs.lemmas.List.{append-nil}
use Rattle.ode_lex.specs.declared.token.TokenKind.TheVariants as kind
use Rattle.ode_grammar.specs.declared.item.Action.TheVariants as action
use Rattle.ode_grammar.specs.declared.item.Item.TheVariants as item
use Rattle.ode_grammar.specs.declared.item.Part.TheVariants as part
use Rattle.ode_grammar.specs.declared.reader.Start.{Start}
use Rattle.ode_grammar.specs.declared.reader.Start.TheVariants as start
use Rattle.ode_grammar.specs.declared.terminal.Terminal.{Terminal}
use Rattle.ode_grammar.specs.declared.terminal.Terminal.TheVariants as terminal
use Rattle.ode_grammar.specs.Grammar.{items_of, row_of}
use Rattle.ode_grammar.specs.Stacks.{top}
use Rattle.ode_grammar.specs.Statements.{body, class_rest}
use Rattle.ode_grammar.specs.Texts.{Derives, Done, Make, Rule}
use Rattle.ode_grammar.proofs.Follows.{follow, nothing_then, start_well, starts}
use Rattle.ode_grammar.proofs.Runs.{one_meaning}
use Rattle.ode_heights.specs.declared.height.Heights.{Heights}
use Rattle.ode_heights.specs.Heights.{heights as of_heights, highest, none, raised}
use Rattle.ode_terminals.specs.declared.seen.Place.{Place}
use Rattle.ode_terminals.specs.Seen.{terminal_of}
use Rattle.ode_terminals.specs.Words.{word_terminal}
use Rattle.ode_value.specs.PrintedClasses.{body_text, decl_text, stmt_text}
use Rattle.ode_value.specs.declared.statement.ClassDecl.{ClassDecl}
use Rattle.ode_value.specs.declared.statement.Statement.{Statement}
use Rattle.ode_value.specs.declared.statement.Statement.TheVariants as statement
use Rattle.ode_value.specs.declared.statement.Stmt.{Stmt}
use Rattle.ode_syntax.specs.declared.trees.Trees.{Trees}
use Rattle.ode_syntax.specs.Built.{built, built_right_side, built_statement, built_event, built_kind, built_class, built_member, built_script, class_tree, script_tree}
use Rattle.ode_syntax.specs.Kept.{kept_as, Spelled}
use Rattle.ode_reread.specs.Rereading.{IsRead}
use Rattle.ode_reread.proofs.Both.{its_heights, its_trees, lifted, both, Both}
use Rattle.ode_reread.proofs.Cuts.{spell, Cut}
use Rattle.ode_reread.proofs.Cuts as cuts
use Rattle.ode_reread.proofs.CutTexts.{cut_text}
use Rattle.ode_reread.proofs.Prints.{Ds}
use Rattle.ode_reread.proofs.Readings.{at_start, is_read, same_seen}
use Rattle.ode_reread.proofs.Sounds.{text_sounds}
use Rattle.ode_reread.proofs.Spells.{Spells}
use Rattle.ode_reread_classes.specs.Bodies.{IsBodyOf}
use Rattle.ode_reread_classes.proofs.AllParts.{does}
use Rattle.ode_reread_classes.proofs.Classes.{printed_class, GoodClass}
use Rattle.ode_reread_classes.proofs.Does.{Does, GoodScript}
use Rattle.ode_reread_classes.proofs.Puts.{with_body, with_class, with_script}
use Rattle.ode_reread_classes.proofs.StatementRows.{bodied}
use Rattle.ode_reread_classes.proofs.Statements.{printed_body, GoodAlone, GoodBody}

-- what was read, with its height
pub record Reading (most : ℕ) (s : Start) (place : Place) (made : Trees) : Type 0 where
  pub out : Both
  pub trees : out.trees ≡ made
  pub within : highest out.heights ≤ most
  pub does : Does place (items_of s) at_start out

pub reading : (most : ℕ) (s : Start) (place : Place) (text : List ℕ) (made : Trees) → IsRead most s place text made → Reading most s place made
reading most s place text made r =
    let x = lifted r.makes none in
    let out : Both = record { trees = made; heights = x.heights } in
    let seen = subst (λ ks. Derives of_heights (items_of s) none ks x.heights) (same_seen place text r.tokens) (its_heights x.derives) in
    let same = one_meaning of_heights (items_of s) none (map (terminal_of place text) r.tokens) r.within.made x.heights (start_well s) r.within.is_text seen in
    record {
      out = out;
      trees = refl;
      within = subst (λ (h : Heights). highest h ≤ most) same r.within.within;
      does = does place x.derives (text_sounds place text r.tokens r.lexed_as);
    }

pub cut_whole : (place : Place) (text : List ℕ) (ts : List Spelled) → Spells place text ts → Cut place text ts
cut_whole place text ts s =
    subst (λ (x : List ℕ). Cut place x ts) (append-nil text) (subst (λ us. Cut place (text ++ []) us) (append-nil ts) (s.cuts [] [] refl cuts.End))

own_plain : (n most : ℕ) → n ≤ most → highest (record { shaped = []; plain = n ∷ [] }) ≤ most
own_plain n most l = omega arith

pub plain_own : (n most : ℕ) → highest (record { shaped = []; plain = n ∷ [] }) ≤ most → n ≤ most
plain_own n most l = omega arith

-- ---- classes

class_derives : (place : Place) (n : ℕ) (c : ClassDecl) → (g : GoodClass place n c)
    → Ds (item.Part part.Class ∷ []) at_start (spell place kind.Word (codes "class") ∷ (printed_class place n c g).tokens) (with_class c (printed_class place n c g).low at_start)
unfolding row_of word_terminal kept_as
class_derives place n c g =
    let p = printed_class place n c g in
    Rule part.Class class_rest refl (subst (λ us. Derives both class_rest at_start us (with_class c p.low at_start)) (append-nil p.tokens) (p.does [] at_start [] (with_class c p.low at_start) Done))

class_good_again : (most : ℕ) (place : Place) (n : ℕ) (c : ClassDecl) → GoodClass place n c → n ≤ most
    → (again : Trees) × IsRead most start.Class place (decl_text c) again × (class_tree again.classes ≡ c)
unfolding items_of
class_good_again most place n c g l =
    let p = printed_class place n c g in
    let m = p.no_higher in
    let out = with_class c p.low at_start in
    let ts = spell place kind.Word (codes "class") ∷ p.tokens in
    (out.trees, is_read most start.Class place (decl_text c) ts out (cut_whole place (decl_text c) ts p.spells) (class_derives place n c g) (own_plain p.low most (omega arith)), refl)

pub class_again : (most : ℕ) (place : Place) (text : List ℕ) (made : Trees) → IsRead most start.Class place text made
    → (again : Trees) × IsRead most start.Class place (decl_text (class_tree made.classes)) again × (class_tree again.classes ≡ class_tree made.classes)
unfolding items_of
class_again most place text made r =
    let x = reading most start.Class place text made r in
    let l = x.does in
    let a = l.1.1 in
    let is : x.out ≡ with_class a.x a.n at_start = sym l.2 ∙ a.is in
    let same : class_tree made.classes ≡ a.x = ap (λ (v : Trees). class_tree v.classes) (sym x.trees) ∙ ap (λ (b : Both). class_tree b.trees.classes) is in
    let within = plain_own a.n most (subst (λ (b : Both). highest b.heights ≤ most) is x.within) in
    subst (λ c. (again : Trees) × IsRead most start.Class place (decl_text c) again × (class_tree again.classes ≡ c)) (sym same) (class_good_again most place a.n a.x a.good within)

-- ---- simple statements of scripts

simple_good_again : (most : ℕ) (place : Place) (n : ℕ) (s : Stmt) → GoodAlone place n s → n ≤ most
    → (again : Trees) × IsRead most start.Statement place (stmt_text s) again × (script_tree again.scripts ≡ statement.Simple s)
unfolding items_of built built_right_side built_statement built_event built_kind built_class built_member built_script raised
simple_good_again most place n s g l =
    let m = g.no_higher in
    let out = with_script (statement.Simple s) g.low at_start in
    let d = subst (λ us. Derives both (item.Part part.Statement ∷ []) at_start us out) (append-nil g.tokens) (g.does [] at_start [] out (Make action.Simple Done)) in
    (out.trees, is_read most start.Statement place (stmt_text s) g.tokens out (cut_whole place (stmt_text s) g.tokens g.spells) d (own_plain g.low most (omega arith)), refl)

-- what there is where it is a simple one
simple_is : (place : Place) (n : ℕ) (x : Statement) (s : Stmt) → GoodScript place n x → x ≡ statement.Simple s → GoodAlone place n s
simple_is place n x s g e = subst (GoodScript place n) e g

pub simple_again : (most : ℕ) (place : Place) (text : List ℕ) (made : Trees) (s : Stmt) → IsRead most start.Statement place text made → script_tree made.scripts ≡ statement.Simple s
    → (again : Trees) × IsRead most start.Statement place (stmt_text s) again × (script_tree again.scripts ≡ statement.Simple s)
unfolding items_of
simple_again most place text made s r e =
    let x = reading most start.Statement place text made r in
    let l = x.does in
    let a = l.1.1 in
    let is : x.out ≡ with_script a.x a.n at_start = sym l.2 ∙ a.is in
    let same : a.x ≡ statement.Simple s = sym (ap (λ (b : Both). script_tree b.trees.scripts) is) ∙ (ap (λ (v : Trees). script_tree v.scripts) x.trees ∙ e) in
    let within = plain_own a.n most (subst (λ (b : Both). highest b.heights ≤ most) is x.within) in
    simple_good_again most place a.n s (simple_is place a.n a.x s a.good same) within

-- ---- bodies

body_good_again : (most : ℕ) (place : Place) (n : ℕ) (xs : List Stmt) → GoodBody place n xs → n ≤ most → IsBodyOf most place (body_text xs) xs
body_good_again most place n xs g l =
    let p = printed_body place n xs g in
    let m = p.no_higher in
    let out = with_body xs p.low at_start in
    let d = subst (λ us. Derives both body at_start us out) (append-nil p.tokens) (p.does [] at_start [] out Done) in
    let x = cut_text place (body_text xs) p.tokens (cut_whole place (body_text xs) p.tokens p.spells) in
    let made = subst (λ us. Derives both body at_start us out) (sym x.2) d in
    record {
      tokens = x.0;
      lexed_as = x.1;
      made = out.trees;
      makes = its_trees made;
      same = refl;
      high = out.heights;
      is_high = subst (λ ks. Derives of_heights body none ks out.heights) (same_seen place (body_text xs) x.0) (its_heights made);
      within = own_plain p.low most (omega arith);
    }

-- behind the statements of a body comes its brace
closing : (k : Terminal) → starts nothing_then (item.Token terminal.CloseBrace ∷ []) k ≡ true → follow part.Inners k ≡ true
closing terminal.CloseBrace e = refl
closing other e = absurd (false≢true e)

pub body_again : (most : ℕ) (place : Place) (text : List ℕ) (xs : List Stmt) → IsBodyOf most place text xs → IsBodyOf most place (body_text xs) xs
body_again most place text xs r =
    let x = lifted r.makes none in
    let out : Both = record { trees = r.made; heights = x.heights } in
    let seen = subst (λ ks. Derives of_heights body none ks x.heights) (same_seen place text r.tokens) (its_heights x.derives) in
    let l = does place x.derives (text_sounds place text r.tokens r.lexed_as) in
    let b = bodied place [] at_start out l in
    let a = b.body in
    let is : out ≡ with_body a.x a.n at_start = sym b.behind ∙ a.is in
    let same : xs ≡ a.x = r.same ∙ ap (λ (v : Both). top [] v.trees.bodies) is in
    let one = body_meaning (map (terminal_of place text) r.tokens) r.high x.heights r.is_high seen in
    let high = subst (λ (h : Heights). highest h ≤ most) one r.within in
    let within = plain_own a.n most (subst (λ (v : Both). highest v.heights ≤ most) is high) in
    subst (λ ys. IsBodyOf most place (body_text ys) ys) (sym same) (body_good_again most place a.n a.x a.good within)
  where
    body_meaning : (ts : List Terminal) (h k : Heights) → Derives of_heights body none ts h → Derives of_heights body none ts k → h ≡ k
    body_meaning ts h k d e = one_meaning of_heights body none ts h k (closing, tt) d e
