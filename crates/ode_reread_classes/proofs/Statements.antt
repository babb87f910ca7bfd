-- Statements whose printed text is read as they are, no higher than they were read.
use Rattle.std.proofs.Common.{◌≡◌, ◌≤◌, ℕ, ◌+◌, max, true, codes, List, [], ◌∷◌, ◌++◌, append_assoc, map, Option, Some, None, refl, sym, ◌∙◌, ap, subst, arith}
use Rattle.ode_lex.specs.declared.token.Mark.TheVariants as mark
use Rattle.ode_lex.specs.declared.token.TokenKind.TheVariants as kind
use Rattle.ode_grammar.specs.declared.item.Action.{Action}
use Rattle.ode_grammar.specs.declared.item.Action.TheVariants as action
use Rattle.ode_grammar.specs.declared.item.Item.{Item}
use Rattle.ode_grammar.specs.declared.item.Item.TheVariants as item
use Rattle.ode_grammar.specs.declared.item.Part.{Part}
use Rattle.ode_grammar.specs.declared.item.Part.TheVariants as part
use Rattle.ode_grammar.specs.declared.terminal.Terminal.{Terminal}
use Rattle.ode_grammar.specs.declared.terminal.Terminal.TheVariants as terminal
use Rattle.ode_grammar.specs.Grammar.{after, row_of, skipped}
use Rattle.ode_grammar.specs.Statements.{body}
use Rattle.ode_grammar.specs.Texts.{Next, Make, Rule, Skip}
use Rattle.ode_heights.specs.declared.height.Height.{Height}
use Rattle.ode_heights.specs.Heights.{raised}
use Rattle.ode_terminals.specs.declared.seen.Place.{Place}
use Rattle.ode_terminals.specs.Words.{word_terminal}
use Rattle.ode_value.specs.Printing.{expr_text}
use Rattle.ode_value.specs.PrintedClasses.{body_text, else_part, rhs_text, stmt_text, stmt_text_of}
use Rattle.ode_value.specs.Words.{is_free, is_word}
use Rattle.ode_value.specs.declared.binding.Var.{Var}
use Rattle.ode_value.specs.declared.binding.Var.TheVariants as var
use Rattle.ode_value.specs.declared.statement.Expr.{Expr}
use Rattle.ode_value.specs.declared.statement.Rhs.{Rhs}
use Rattle.ode_value.specs.declared.statement.Stmt.{Stmt, fold-roll-Stmt}
use Rattle.ode_value.specs.declared.statement.Stmt.TheOpen as shape
use Rattle.ode_value.specs.declared.statement.Stmt.TheVariants as stmt
use Rattle.ode_value.proofs.PrintLaws.{stmt_text_if}
use Rattle.ode_syntax.specs.Built.{built, built_right_side, built_statement}
use Rattle.ode_syntax.specs.Kept.{kept_as, Spelled}
use Rattle.ode_reread.proofs.Both.{Both, keep, make}
use Rattle.ode_reread.proofs.Cuts.{spell}
use Rattle.ode_reread.proofs.Goods.{free_word, Good}
use Rattle.ode_reread.proofs.Marked.{bracketed, marked, with_expr, with_name}
use Rattle.ode_reread.proofs.Prints.{regroup, Ds}
use Rattle.ode_reread.proofs.Spells.{brackets_spell, ends, opens_append, word_opens, Spells}
use Rattle.ode_reread_classes.proofs.Chains.{alone, appended, name_next, name_rule}
use Rattle.ode_reread_classes.proofs.Derivations.{from, next_mark, skip_nothing, with_tokens}
use Rattle.ode_reread_classes.proofs.Lists.{braced, braces_open, elements, one_more, weaker, Each, Element, Elements}
use Rattle.ode_reread_classes.proofs.Parts.{has_owner, is_do, up, GoodExpr, GoodRight}
use Rattle.ode_reread_classes.proofs.Pieces.{begun, between_blanks, blank, closing_mark, expr_spells, join, mark_blank, nothing, of_spells, then_blank, to_spells, word, word_begun, worded, Piece}
use Rattle.ode_reread_classes.proofs.Puts.{with_body, with_stmt}
use Rattle.ode_reread_classes.proofs.SideForms.{printed_right, script_side, script_simple, AsDo, AsRight, IsSimple, PrintedRight}
use Rattle.ode_reread_classes.proofs.Sides.{begins, Begins}

-- the tokens are this statement at the part, before what follows it
abbrev pub AsAt : Part → List Item → Stmt → ℕ → List Spelled → Type 0
AsAt p more s n us = (items : List Item) (b : Both) (ts : List Spelled) (out : Both) → Ds (more ++ items) (with_stmt s n b) ts out → Ds (item.Part p ∷ items) b (us ++ ts) out

pub record GoodAt (p : Part) (more : List Item) (place : Place) (n : ℕ) (s : Stmt) : Type 0 where
  pub tokens : List Spelled
  pub low : ℕ
  pub no_higher : low ≤ n
  pub spells : Spells place (stmt_text s) tokens
  pub does : AsAt p more s low tokens

-- in a body, and alone in a script
abbrev pub GoodStmt : Place → ℕ → Stmt → Type 0
GoodStmt place n s = GoodAt part.Inners appended place n s

abbrev pub GoodAlone : Place → ℕ → Stmt → Type 0
GoodAlone place n s = GoodAt part.Statement alone place n s

pub stmt_up : (place : Place) (n m : ℕ) (s : Stmt) → n ≤ m → GoodStmt place n s → GoodStmt place m s
stmt_up place n m s l g = let p = g.no_higher in record {
  tokens = g.tokens;
  low = g.low;
  no_higher = omega arith;
  spells = g.spells;
  does = g.does;
}

-- by its printed text
stmt_good : {p : Part} {more : List Item} (place : Place) (n : ℕ) (s : Stmt) (text : List ℕ) (tokens : List Spelled) (low : ℕ) → stmt_text s ≡ text → low ≤ n → Spells place text tokens
    → AsAt p more s low tokens → GoodAt p more place n s
stmt_good place n s text tokens low e l p d = record {
  tokens = tokens;
  low = low;
  no_higher = l;
  spells = subst (λ t. Spells place t tokens) (sym e) p;
  does = d;
}

-- ---- printed statements by their form

stmt-Let : (v : Var) (r : Rhs) → stmt_text (stmt.Let v r) ≡ stmt_text_of (shape.Let v r)
unfolding stmt_text
stmt-Let v r = ap stmt_text (sym (stmt.rolls-Let v r)) ∙ fold-roll-Stmt (List ℕ) stmt_text_of (shape.Let v r)

stmt-Set : (v : Var) (r : Rhs) → stmt_text (stmt.Set v r) ≡ stmt_text_of (shape.Set v r)
unfolding stmt_text
stmt-Set v r = ap stmt_text (sym (stmt.rolls-Set v r)) ∙ fold-roll-Stmt (List ℕ) stmt_text_of (shape.Set v r)

stmt-Do : (r : Rhs) → stmt_text (stmt.Do r) ≡ stmt_text_of (shape.Do r)
unfolding stmt_text
stmt-Do r = ap stmt_text (sym (stmt.rolls-Do r)) ∙ fold-roll-Stmt (List ℕ) stmt_text_of (shape.Do r)

stmt-Show : (r : Rhs) → stmt_text (stmt.Show r) ≡ stmt_text_of (shape.Show r)
unfolding stmt_text
stmt-Show r = ap stmt_text (sym (stmt.rolls-Show r)) ∙ fold-roll-Stmt (List ℕ) stmt_text_of (shape.Show r)

stmt-Return : (v : Option Expr) → stmt_text (stmt.Return v) ≡ stmt_text_of (shape.Return v)
unfolding stmt_text
stmt-Return v = ap stmt_text (sym (stmt.rolls-Return v)) ∙ fold-roll-Stmt (List ℕ) stmt_text_of (shape.Return v)

stmt-Delete : (e : Expr) → stmt_text (stmt.Delete e) ≡ stmt_text_of (shape.Delete e)
unfolding stmt_text
stmt-Delete e = ap stmt_text (sym (stmt.rolls-Delete e)) ∙ fold-roll-Stmt (List ℕ) stmt_text_of (shape.Delete e)

stmt-DropVersion : (e : Expr) → stmt_text (stmt.DropVersion e) ≡ stmt_text_of (shape.DropVersion e)
unfolding stmt_text
stmt-DropVersion e = ap stmt_text (sym (stmt.rolls-DropVersion e)) ∙ fold-roll-Stmt (List ℕ) stmt_text_of (shape.DropVersion e)

stmt-Deactivate : (e f : Expr) → stmt_text (stmt.Deactivate e f) ≡ stmt_text_of (shape.Deactivate e f)
unfolding stmt_text
stmt-Deactivate e f = ap stmt_text (sym (stmt.rolls-Deactivate e f)) ∙ fold-roll-Stmt (List ℕ) stmt_text_of (shape.Deactivate e f)

stmt-Say : (e : Expr) → stmt_text (stmt.Say e) ≡ stmt_text_of (shape.Say e)
unfolding stmt_text
stmt-Say e = ap stmt_text (sym (stmt.rolls-Say e)) ∙ fold-roll-Stmt (List ℕ) stmt_text_of (shape.Say e)

stmt-TAbort : stmt_text stmt.TAbort ≡ stmt_text_of shape.TAbort
unfolding stmt_text
stmt-TAbort = ap stmt_text (sym stmt.rolls-TAbort) ∙ fold-roll-Stmt (List ℕ) stmt_text_of shape.TAbort

-- ---- an expression behind a word

worded_does : (p : Part) (more : List Item) (k : Terminal) (a : Action) (of : Expr → Stmt)
    → after p k ≡ Some (item.Part part.Expr ∷ item.Token terminal.Semi ∷ item.Build a ∷ more) → ((e : Expr) (h : Height) (b : Both) → make a (with_expr e h b) ≡ with_stmt (of e) h.own b)
    → (t : Spelled) → t.terminal ≡ k → ((b : Both) → keep t b ≡ b) → (place : Place) (e : Expr) (h : Height) → (g : Good place e h)
    → AsAt p more (of e) g.low.own (t ∷ (g.tokens ++ marked mark.Semi ∷ []))
unfolding kept_as
worded_does p more k a of r made t seen kept place e h g items b ts out d =
    let row = item.Part part.Expr ∷ item.Token terminal.Semi ∷ item.Build a ∷ more in
    Rule p row (ap (after p) seen ∙ r)
    (from (kept b)
    (regroup g.tokens (marked mark.Semi ∷ []) ts
    (g.prints.whole (item.Token terminal.Semi ∷ item.Build a ∷ (more ++ items)) b (marked mark.Semi ∷ ts) out
    (Next terminal.Semi refl (Make a (from (made e g.low b) d))))))

worded_spells : (place : Place) (w : List ℕ) (e : Expr) (h : Height) → is_word w ≡ true → (g : Good place e h)
    → Spells place (w ++ codes " " ++ expr_text e ++ codes ";") (spell place kind.Word w ∷ (g.tokens ++ marked mark.Semi ∷ []))
worded_spells place w e h f g =
    to_spells (opens_append (w ++ codes " " ++ expr_text e) (codes ";") (opens_append (w ++ codes " ") (expr_text e) (opens_append w (codes " ") (word_opens w f))))
    (join (join (worded place w f) (of_spells (expr_spells g)) (begun (expr_spells g))) (closing_mark place mark.Semi) (λ rest x. refl))

made_say : (e : Expr) (h : Height) (b : Both) → make action.Say (with_expr e h b) ≡ with_stmt (stmt.Say e) h.own b
unfolding built built_right_side built_statement raised
made_say e h b = refl

pub say_good : {p : Part} {more : List Item} → IsSimple p more → (place : Place) (n : ℕ) (e : Expr) → GoodExpr place n e → GoodAt p more place n (stmt.Say e)
unfolding kept_as word_terminal
say_good {p = p} {more = more} i place n e g =
    stmt_good place n (stmt.Say e) _ _ g.low.own (stmt-Say e) g.no_higher (worded_spells place (codes "say") e (up n) refl g)
    (worded_does p more terminal.Say action.Say stmt.Say i.say made_say (spell place kind.Word (codes "say")) refl (λ b. refl) place e (up n) g)

made_delete : (e : Expr) (h : Height) (b : Both) → make action.Delete (with_expr e h b) ≡ with_stmt (stmt.Delete e) h.own b
unfolding built built_right_side built_statement raised
made_delete e h b = refl

pub delete_good : {p : Part} {more : List Item} → IsSimple p more → (place : Place) (n : ℕ) (e : Expr) → GoodExpr place n e → GoodAt p more place n (stmt.Delete e)
unfolding kept_as word_terminal
delete_good {p = p} {more = more} i place n e g =
    stmt_good place n (stmt.Delete e) _ _ g.low.own (stmt-Delete e) g.no_higher (worded_spells place (codes "pdelete") e (up n) refl g)
    (worded_does p more terminal.PDelete action.Delete stmt.Delete i.pdelete made_delete (spell place kind.Word (codes "pdelete")) refl (λ b. refl) place e (up n) g)

made_drop_version : (e : Expr) (h : Height) (b : Both) → make action.DropVersion (with_expr e h b) ≡ with_stmt (stmt.DropVersion e) h.own b
unfolding built built_right_side built_statement raised
made_drop_version e h b = refl

pub drop_version_good : {p : Part} {more : List Item} → IsSimple p more → (place : Place) (n : ℕ) (e : Expr) → GoodExpr place n e → GoodAt p more place n (stmt.DropVersion e)
unfolding kept_as word_terminal
drop_version_good {p = p} {more = more} i place n e g =
    stmt_good place n (stmt.DropVersion e) _ _ g.low.own (stmt-DropVersion e) g.no_higher (worded_spells place (codes "delversion") e (up n) refl g)
    (worded_does p more terminal.DropVersion action.DropVersion stmt.DropVersion i.dropversion made_drop_version (spell place kind.Word (codes "delversion")) refl (λ b. refl) place e (up n) g)

pub deactivate_good : {p : Part} {more : List Item} → IsSimple p more → (place : Place) (n : ℕ) (e f : Expr) → GoodExpr place n e → GoodExpr place n f
    → GoodAt p more place n (stmt.Deactivate e f)
unfolding kept_as word_terminal built built_right_side built_statement raised
deactivate_good {p = p} {more = more} i place n e f g r = let l = g.no_higher in let m = r.no_higher in
    stmt_good place n (stmt.Deactivate e f) _
    (spell place kind.Word (codes "deactivate") ∷ (((g.tokens ++ marked mark.Comma ∷ []) ++ r.tokens) ++ marked mark.Semi ∷ []))
    (max g.low.own r.low.own) (stmt-Deactivate e f) (omega arith)
    (to_spells refl
    (join
    (join (join (join (worded place (codes "deactivate") refl) (of_spells (expr_spells g)) (begun (expr_spells g))) (mark_blank place mark.Comma) (λ rest x. refl))
    (of_spells (expr_spells r)) (begun (expr_spells r)))
    (closing_mark place mark.Semi) (λ rest x. refl)))
    (λ items b ts out d.
    let semi = item.Token terminal.Semi ∷ item.Build action.Deactivate ∷ (more ++ items) in
    let second = r.prints.whole semi (with_expr e g.low b) (marked mark.Semi ∷ ts) out (Next terminal.Semi refl (Make action.Deactivate d)) in
    let first = g.prints.whole (item.Token terminal.Comma ∷ item.Part part.Expr ∷ semi) b (marked mark.Comma ∷ (r.tokens ++ marked mark.Semi ∷ ts)) out (Next terminal.Comma refl second) in
    Rule p (item.Part part.Expr ∷ item.Token terminal.Comma ∷ item.Part part.Expr ∷ item.Token terminal.Semi ∷ item.Build action.Deactivate ∷ more) i.deactivate
    (with_tokens (sym (regrouped g.tokens r.tokens ts)) first))
  where
    regrouped : (us vs ts : List Spelled)
        → (((us ++ marked mark.Comma ∷ []) ++ vs) ++ marked mark.Semi ∷ []) ++ ts ≡ us ++ (marked mark.Comma ∷ (vs ++ marked mark.Semi ∷ ts))
    regrouped us vs ts = simp append_assoc

pub tabort_good : (place : Place) (n : ℕ) → GoodStmt place n stmt.TAbort
unfolding row_of kept_as word_terminal built built_right_side built_statement raised
tabort_good place n =
    stmt_good place n stmt.TAbort _ (spell place kind.Word (codes "tabort") ∷ marked mark.Semi ∷ []) 0 stmt-TAbort (omega arith)
    (to_spells refl (join (word place (codes "tabort") refl) (closing_mark place mark.Semi) (λ rest x. refl)))
    (λ items b ts out d. Rule part.Inners (item.Token terminal.Semi ∷ item.Build action.TAbort ∷ appended) refl (Next terminal.Semi refl (Make action.TAbort d)))

-- ---- right sides

pub let_good : (place : Place) (n : ℕ) (name : List ℕ) (r : Rhs) → is_free name ≡ true → GoodRight place n r → GoodStmt place n (stmt.Let (var.Name name) r)
unfolding row_of kept_as word_terminal built built_right_side built_statement raised
let_good place n name r f g =
    let p = printed_right place n r g in
    let w = free_word name f in
    stmt_good place n (stmt.Let (var.Name name) r) _
    (spell place kind.Word (codes "let") ∷ spell place kind.Word name ∷ marked mark.Assign ∷ (p.tokens ++ marked mark.Semi ∷ [])) p.low (stmt-Let (var.Name name) r) p.no_higher
    (to_spells refl
    (join
    (join (join (join (worded place (codes "let") refl) (word place name w) (word_begun name w)) (between_blanks place mark.Assign) (λ rest x. refl)) (of_spells p.spells) (begun p.spells))
    (closing_mark place mark.Semi) (λ rest x. refl)))
    (λ items b ts out d.
    Rule part.Inners (item.Token terminal.Name ∷ item.Token terminal.Assign ∷ item.Part part.Rhs ∷ item.Build action.Let ∷ appended) refl
    (name_next place name f
    (Next terminal.Assign refl
    (regroup p.tokens (marked mark.Semi ∷ []) ts (p.right (item.Build action.Let ∷ (appended ++ items)) (with_name name b) ts out (Make action.Let d))))))

pub set_good : (place : Place) (n : ℕ) (name : List ℕ) (r : Rhs) → is_free name ≡ true → GoodRight place n r → GoodStmt place n (stmt.Set (var.Name name) r)
unfolding row_of kept_as word_terminal built built_right_side built_statement raised
set_good place n name r f g =
    let p = printed_right place n r g in
    let w = free_word name f in
    stmt_good place n (stmt.Set (var.Name name) r) _
    (spell place kind.Word name ∷ marked mark.Assign ∷ (p.tokens ++ marked mark.Semi ∷ [])) p.low (stmt-Set (var.Name name) r) p.no_higher
    (to_spells
    (opens_append (name ++ codes " = " ++ rhs_text r) (codes ";") (opens_append (name ++ codes " = ") (rhs_text r) (opens_append name (codes " = ") (word_opens name w))))
    (join (join (join (word place name w) (between_blanks place mark.Assign) (λ rest x. refl)) (of_spells p.spells) (begun p.spells)) (closing_mark place mark.Semi) (λ rest x. refl)))
    (λ items b ts out d.
    name_rule place name f part.Inners (item.Part part.InnerName ∷ appended) refl
    (Rule part.InnerName (item.Part part.Rhs ∷ item.Build action.Set ∷ []) refl
    (regroup p.tokens (marked mark.Semi ∷ []) ts (p.right (item.Build action.Set ∷ (appended ++ items)) (with_name name b) ts out (Make action.Set d)))))

-- shown by a part of right sides
shown_by : {p : Part} {more : List Item} (q : Part) → after p terminal.Show ≡ Some (item.Part q ∷ item.Build action.Show ∷ more) → (place : Place) (n : ℕ) (r : Rhs)
    → (x : PrintedRight place n r) → AsRight q r x.low x.tokens → GoodAt p more place n (stmt.Show r)
unfolding kept_as word_terminal built built_right_side built_statement raised
shown_by {p = p} {more = more} q row place n r x right =
    stmt_good place n (stmt.Show r) _ (spell place kind.Word (codes "show") ∷ (x.tokens ++ marked mark.Semi ∷ [])) x.low (stmt-Show r) x.no_higher
    (to_spells refl (join (join (worded place (codes "show") refl) (of_spells x.spells) (begun x.spells)) (closing_mark place mark.Semi) (λ rest z. refl)))
    (λ items b ts out d.
    Rule p (item.Part q ∷ item.Build action.Show ∷ more) row
    (regroup x.tokens (marked mark.Semi ∷ []) ts (right (item.Build action.Show ∷ (more ++ items)) b ts out (Make action.Show d))))

pub show_good : (place : Place) (n : ℕ) (r : Rhs) → GoodRight place n r → GoodStmt place n (stmt.Show r)
unfolding row_of
show_good place n r g = let x = printed_right place n r g in shown_by part.Rhs refl place n r x x.right

pub show_alone : (place : Place) (n : ℕ) (r : Rhs) → has_owner r ≡ true → GoodRight place n r → GoodAlone place n (stmt.Show r)
unfolding row_of
show_alone place n r o g = let x = printed_right place n r g in shown_by part.ScriptRhs refl place n r x (x.side o part.ScriptRhs script_side)

done_by : {p : Part} {more : List Item} (place : Place) (n : ℕ) (r : Rhs) → (x : PrintedRight place n r) → AsDo p more r x.low x.tokens → GoodAt p more place n (stmt.Do r)
unfolding kept_as built built_right_side built_statement raised
done_by place n r x f =
    stmt_good place n (stmt.Do r) _ (x.tokens ++ marked mark.Semi ∷ []) x.low (stmt-Do r) x.no_higher
    (to_spells (opens_append (rhs_text r) (codes ";") x.spells.begins) (join (of_spells x.spells) (closing_mark place mark.Semi) (λ rest z. refl)))
    (λ items b ts out d. regroup x.tokens (marked mark.Semi ∷ []) ts (f items b (marked mark.Semi ∷ ts) out (Next terminal.Semi refl (Make action.Do d))))

pub do_good : (place : Place) (n : ℕ) (r : Rhs) → is_do r ≡ true → GoodRight place n r → GoodStmt place n (stmt.Do r)
do_good place n r o g = let x = printed_right place n r g in done_by place n r x (x.alone o)

pub do_alone : (place : Place) (n : ℕ) (r : Rhs) → is_do r ≡ true → has_owner r ≡ true → GoodRight place n r → GoodAlone place n (stmt.Do r)
do_alone place n r o k g = let x = printed_right place n r g in done_by place n r x (x.simple o k part.Statement alone script_simple)

-- ---- what a method returns

return_begin : Begins part.ReturnValue (item.Token terminal.Semi ∷ item.Build action.Return ∷ [])
unfolding row_of
return_begin terminal.Leaf = refl
return_begin terminal.Number = refl
return_begin terminal.Seconds = refl
return_begin terminal.Count = refl
return_begin terminal.Text = refl
return_begin terminal.Instant = refl
return_begin terminal.Name = refl
return_begin terminal.OpenParen = refl
return_begin terminal.Version = refl
return_begin terminal.Minus = refl
return_begin terminal.Not = refl
return_begin other = tt

pub return_good : (place : Place) (n : ℕ) (e : Expr) → GoodExpr place n e → GoodStmt place n (stmt.Return (Some e))
unfolding row_of kept_as word_terminal built built_right_side built_statement raised
return_good place n e g =
    stmt_good place n (stmt.Return (Some e)) _ (spell place kind.Word (codes "return") ∷ (g.tokens ++ marked mark.Semi ∷ [])) g.low.own (stmt-Return (Some e)) g.no_higher
    (worded_spells place (codes "return") e (up n) refl g)
    (λ items b ts out d.
    let value = g.prints.whole (item.Token terminal.Semi ∷ item.Build action.Return ∷ (appended ++ items)) b (marked mark.Semi ∷ ts) out (Next terminal.Semi refl (Make action.Return d)) in
    Rule part.Inners (item.Part part.ReturnValue ∷ appended) refl (regroup g.tokens (marked mark.Semi ∷ []) ts (begins part.ReturnValue (item.Token terminal.Semi ∷ item.Build action.Return ∷ []) return_begin (appended ++ items) value)))

pub return_nothing_good : (place : Place) (n : ℕ) → GoodStmt place n (stmt.Return None)
unfolding row_of kept_as word_terminal built built_right_side built_statement raised
return_nothing_good place n =
    stmt_good place n (stmt.Return None) _ (spell place kind.Word (codes "return") ∷ marked mark.Semi ∷ []) 0 (stmt-Return None) (omega arith)
    (to_spells refl (join (word place (codes "return") refl) (closing_mark place mark.Semi) (λ rest x. refl)))
    (λ items b ts out d.
    Rule part.Inners (item.Part part.ReturnValue ∷ appended) refl (Rule part.ReturnValue (item.Build action.ReturnNothing ∷ []) refl (Make action.ReturnNothing d)))

-- ---- bodies

-- a body counts one more than its statements
pub record GoodBody (place : Place) (n : ℕ) (xs : List Stmt) : Type 0 where
  pub inside : ℕ
  pub below : inside + 1 ≤ n
  pub each : Each (GoodStmt place inside) xs

pub no_body : (place : Place) → GoodBody place 1 []
no_body place = record { inside = 0; below = omega arith; each = tt }

pub body_up : (place : Place) (n m : ℕ) (xs : List Stmt) → n ≤ m → GoodBody place n xs → GoodBody place m xs
body_up place n m xs l g = let e = g.below in record { inside = g.inside; below = omega arith; each = g.each }

pub more_body : (place : Place) (n k : ℕ) (xs : List Stmt) (s : Stmt) → GoodBody place n xs → GoodStmt place k s → GoodBody place (max n (k + 1)) (xs ++ s ∷ [])
more_body place n k xs s g h = let e = g.below in record {
  inside = max g.inside k;
  below = omega arith;
  each = one_more (GoodStmt place (max g.inside k)) xs s
      (weaker (GoodStmt place g.inside) (GoodStmt place (max g.inside k)) (λ x y. stmt_up place g.inside (max g.inside k) x (omega arith) y) xs g.each)
      (stmt_up place k (max g.inside k) s (omega arith) h);
}

statement : (place : Place) (n : ℕ) (s : Stmt) → GoodStmt place n s → Element place with_body (item.Part part.Inners) (codes " ") stmt_text (n + 1) s
unfolding built built_right_side built_statement raised
statement place n s g = let p = g.no_higher in record {
  tokens = g.tokens;
  low = g.low + 1;
  no_higher = omega arith;
  piece = join (blank place) (of_spells g.spells) (begun g.spells);
  begins = λ rest. refl;
  does = λ done k items b ts out d. g.does items (with_body done k b) ts out (Make action.Append d);
}

pub record PrintedBody (place : Place) (n : ℕ) (xs : List Stmt) : Type 0 where
  pub tokens : List Spelled
  pub low : ℕ
  pub no_higher : low ≤ n
  pub spells : Spells place (body_text xs) tokens
  pub does : (items : List Item) (b : Both) (ts : List Spelled) (out : Both) → Ds items (with_body xs low b) ts out → Ds (body ++ items) b (tokens ++ ts) out

body_by : (place : Place) (m n : ℕ) (xs : List Stmt) → Elements place with_body (item.Part part.Inners) (codes " ") stmt_text m xs → m ≤ n → 1 ≤ n → PrintedBody place n xs
unfolding row_of skipped kept_as built built_right_side built_statement raised
body_by place m n xs r k l = let p = r.no_higher in record {
  tokens = marked mark.OpenBrace ∷ (r.tokens ++ marked mark.CloseBrace ∷ []);
  low = max 1 r.low;
  no_higher = omega arith;
  spells = to_spells (braces_open (map stmt_text xs)) (braced place with_body (item.Part part.Inners) stmt_text m xs r);
  does = λ items b ts out d.
      let close = marked mark.CloseBrace ∷ ts in
      let ended = skip_nothing part.Inners refl (next_mark mark.CloseBrace refl d) in
      Next terminal.OpenBrace refl
      (Make action.Body (regroup r.tokens (marked mark.CloseBrace ∷ []) ts (r.does [] 1 (item.Token terminal.CloseBrace ∷ items) b close out ended)));
}

pub printed_body : (place : Place) (n : ℕ) (xs : List Stmt) → GoodBody place n xs → PrintedBody place n xs
printed_body place n xs g =
    let e = g.below in
    body_by place (g.inside + 1) n xs
    (elements place with_body (item.Part part.Inners) (codes " ") stmt_text (g.inside + 1) xs
    (weaker (GoodStmt place g.inside) (Element place with_body (item.Part part.Inners) (codes " ") stmt_text (g.inside + 1)) (λ s x. statement place g.inside s x) xs g.each))
    e (omega arith)

-- ---- `if`

-- the body behind `else`, which is left out where it has no statements
abbrev pub GoodElse : Place → ℕ → List Stmt → Type 0
GoodElse place n [] = Unit {0}
GoodElse place n (s ∷ xs) = GoodBody place n (s ∷ xs)

record PrintedElse (place : Place) (n : ℕ) (xs : List Stmt) : Type 0 where
  pub tokens : List Spelled
  pub low : ℕ
  pub no_higher : low ≤ n
  pub piece : Piece place ends (else_part (map stmt_text xs)) tokens
  pub begins : (rest : List ℕ) → ends rest ≡ true → ends (else_part (map stmt_text xs) ++ rest) ≡ true
  pub does : (items : List Item) (b : Both) (ts : List Spelled) (out : Both) → Ds items (with_body xs low b) ts out → Ds (item.Part part.Else ∷ items) b (tokens ++ ts) out

printed_else : (place : Place) (n : ℕ) (xs : List Stmt) → GoodElse place n xs → PrintedElse place n xs
unfolding row_of skipped kept_as word_terminal built built_right_side built_statement raised
printed_else place n [] g = record {
  tokens = [];
  low = 0;
  no_higher = omega arith;
  piece = nothing place;
  begins = λ rest e. e;
  does = λ items b ts out d. Skip part.Else action.Absent refl d;
}
printed_else place n (s ∷ xs) g =
    let r = printed_body place n (s ∷ xs) g in
    record {
      tokens = spell place kind.Word (codes "else") ∷ r.tokens;
      low = r.low;
      no_higher = r.no_higher;
      piece = join (join (blank place) (worded place (codes "else") refl) (λ rest e. refl)) (of_spells r.spells) (begun r.spells);
      begins = λ rest e. refl;
      does = λ items b ts out d. Rule part.Else body refl (r.does items b ts out d);
    }

pub if_good : (place : Place) (n : ℕ) (e : Expr) (xs ys : List Stmt) → GoodExpr place n e → GoodBody place n xs → GoodElse place n ys → GoodStmt place n (stmt.If e xs ys)
unfolding row_of kept_as word_terminal built built_right_side built_statement raised
if_good place n e xs ys g h k =
    let x = printed_body place n xs h in
    let y = printed_else place n ys k in
    let p = g.no_higher in
    let q = x.no_higher in
    let r = y.no_higher in
    let test = brackets_spell place (expr_text e) g.tokens (expr_spells g) in
    stmt_good place n (stmt.If e xs ys) _ (spell place kind.Word (codes "if") ∷ ((bracketed g.tokens ++ x.tokens) ++ y.tokens)) (max g.low.own (max x.low y.low))
    (stmt_text_if e xs ys) (omega arith)
    (to_spells refl
    (join (join (then_blank (join (worded place (codes "if") refl) (of_spells test) (begun test)) (λ rest. refl)) (of_spells x.spells) (begun x.spells)) y.piece y.begins))
    (λ items b ts out d.
    let last = y.does (item.Build action.If ∷ (appended ++ items)) (with_body xs x.low (with_expr e g.low b)) ts out (Make action.If d) in
    let first = x.does (item.Part part.Else ∷ item.Build action.If ∷ (appended ++ items)) (with_expr e g.low b) (y.tokens ++ ts) out last in
    let behind = body ++ item.Part part.Else ∷ item.Build action.If ∷ (appended ++ items) in
    let close = next_mark mark.CloseParen refl first in
    let tested = g.prints.whole (item.Token terminal.CloseParen ∷ behind) b (marked mark.CloseParen ∷ (x.tokens ++ (y.tokens ++ ts))) out close in
    Rule part.Inners
    (item.Token terminal.OpenParen ∷ item.Part part.Expr ∷ item.Token terminal.CloseParen ∷ body ++ item.Part part.Else ∷ item.Build action.If ∷ appended) refl
    (Next terminal.OpenParen refl (with_tokens (sym (regrouped g.tokens x.tokens y.tokens ts)) tested)))
  where
    regrouped : (us vs ws ts : List Spelled)
        → (((us ++ marked mark.CloseParen ∷ []) ++ vs) ++ ws) ++ ts ≡ us ++ (marked mark.CloseParen ∷ (vs ++ (ws ++ ts)))
    regrouped us vs ws ts = simp append_assoc
