-- What the rows of statements and bodies do.
use Rattle.std.proofs.Common.{◌≡◌, ◌≤◌, ℕ, ◌+◌, max, true, List, [], ◌∷◌, ◌++◌, Some, None, refl, ◌∙◌, ap, arith}
use Rattle.ode_grammar.specs.declared.item.Action.{Action}
use Rattle.ode_grammar.specs.declared.item.Action.TheVariants as action
use Rattle.ode_grammar.specs.declared.item.Item.{Item}
use Rattle.ode_grammar.specs.declared.item.Item.TheVariants as item
use Rattle.ode_grammar.specs.declared.item.Part.TheVariants as part
use Rattle.ode_grammar.specs.declared.terminal.Terminal.{Terminal}
use Rattle.ode_grammar.specs.declared.terminal.Terminal.TheVariants as terminal
use Rattle.ode_grammar.specs.Expressions.{arguments}
use Rattle.ode_grammar.specs.Grammar.{row_of}
use Rattle.ode_grammar.specs.Statements.{body, dotted_call}
use Rattle.ode_grammar.proofs.Follows.{IfRow}
use Rattle.ode_heights.specs.declared.height.Height.{Height}
use Rattle.ode_heights.specs.Heights.{leaf, raised}
use Rattle.ode_terminals.specs.declared.seen.Place.{Place}
use Rattle.ode_value.specs.declared.binding.Var.TheVariants as var
use Rattle.ode_value.specs.declared.statement.Expr.{Expr}
use Rattle.ode_value.specs.declared.statement.Expr.TheVariants as expr
use Rattle.ode_value.specs.declared.statement.Rhs.TheVariants as rhs
use Rattle.ode_value.specs.declared.statement.Stmt.{Stmt}
use Rattle.ode_value.specs.declared.statement.Stmt.TheVariants as stmt
use Rattle.ode_syntax.specs.Built.{built, built_right_side, built_statement}
use Rattle.ode_syntax.specs.Kept.{kept_as, name_of}
use Rattle.ode_reread.proofs.AllRows.{row_is}
use Rattle.ode_reread.proofs.Both.{Both, keep, make}
use Rattle.ode_reread.proofs.Effects.{name_free, spelt}
use Rattle.ode_reread.proofs.Goods.{name_good}
use Rattle.ode_reread.proofs.Marked.{with_expr, with_name}
use Rattle.ode_reread_classes.proofs.Chains.{appended, leaf_front, pair_front, version_front}
use Rattle.ode_reread_classes.proofs.Does.{old, parted, raised_by, unowned, AddsCall, AddsOwned, AddsRight, AddsStmt, Changes, Does, Raises, RowDoes}
use Rattle.ode_reread_classes.proofs.Parts.{args_up, expr_up, is_do, is_do as is_do_of, GoodExpr, GoodOf, GoodRight}
use Rattle.ode_reread_classes.proofs.Puts.{with_args, with_body, with_right, with_stmt}
use Rattle.ode_reread_classes.proofs.SideForms.{done, inner_simple}
use Rattle.ode_reread_classes.proofs.SideRows.{activate_changes, argued_call, atom_called, leaf_row, newversion_changes, pair_row, pnew_changes, sign_row, variable_row, version_row, Called, Changed}
use Rattle.ode_reread_classes.proofs.Statements.{body_up, deactivate_good, delete_good, do_good, drop_version_good, if_good, let_good, more_body, no_body, return_good, return_nothing_good, say_good, set_good, show_good, tabort_good, GoodBody, GoodElse, GoodStmt}

-- ---- bodies

-- a statement more in a body, and those that follow it
appending : (place : Place) (b d w : Both) → AddsStmt place b d → Does place appended d w → Changes with_body (GoodBody place) b w
unfolding built built_right_side built_statement raised
appending place b d w s l = λ xs n c is good.
    let made : make action.Append d ≡ with_body (xs ++ s.x ∷ []) (max n (s.n + 1)) c = ap (make action.Append) (s.is ∙ ap (with_stmt s.x s.n) is) in
    raised_by (l.1.1 (xs ++ s.x ∷ []) (max n (s.n + 1)) c made (more_body place n s.n xs s.x good s.good)) l.2

-- a body, and what follows it
pub record Bodied (place : Place) (more : List Item) (b w : Both) : Type 0 where
  pub mid : Both
  pub body : Raises with_body (GoodBody place) b mid
  pub behind : Does place more mid w

pub bodied : (place : Place) (more : List Item) (b w : Both) → Does place (body ++ more) b w → Bodied place more b w
unfolding kept_as built built_right_side built_statement raised
bodied place more b w l =
    let p = l.3 in
    record { mid = p.0; body = p.1.1 [] 1 b refl (no_body place); behind = p.2.3 }

else_after : (place : Place) → RowDoes place part.Else terminal.Else body
unfolding kept_as
else_after place kd bytes s b w l =
    let r = bodied place [] b w l in
    raised_by (record { x = r.body.x; n = r.body.n; good = else_of r.body.x r.body.n r.body.good; is = r.body.is }) r.behind
  where
    else_of : {place : Place} (xs : List Stmt) (n : ℕ) → GoodBody place n xs → GoodElse place n xs
    else_of [] n g = tt
    else_of (s ∷ xs) n g = g

pub else_rows : (place : Place) (k : Terminal) → IfRow (RowDoes place part.Else k) (row_of part.Else k)
unfolding row_of
else_rows place terminal.Else = else_after place
else_rows place other = tt

pub no_else : (place : Place) (b : Both) → Raises with_body (GoodElse place) b (make action.Absent b)
unfolding built built_right_side built_statement raised
no_else place b = record { x = []; n = 0; good = tt; is = refl }

else_up : (place : Place) (n m : ℕ) (xs : List Stmt) → n ≤ m → GoodElse place n xs → GoodElse place m xs
else_up place n m [] l g = tt
else_up place n m (s ∷ xs) l g = body_up place n m (s ∷ xs) l g

-- ---- a word and an expression

-- what is said, deleted and dropped, with its semicolon
pub expression_said : (place : Place) (a : Action) (of : Expr → Stmt) → ((e : Expr) (h : Height) (c : Both) → make a (with_expr e h c) ≡ with_stmt (of e) h.own c)
    → (P : ℕ → Stmt → Type 0) → ((n : ℕ) (e : Expr) → GoodExpr place n e → P n (of e)) → (more : List Item) (b w : Both)
    → Does place (item.Part part.Expr ∷ item.Token terminal.Semi ∷ item.Build a ∷ more) b w → (d : Both) × Raises with_stmt P b d × Does place more d w
unfolding kept_as
expression_said place a of made P good more b w l =
    let x = l.1.0 in
    (make a l.0, record { x = of x.e; n = x.h.own; good = good x.h.own x.e (expr_up place x.e x.h x.h.own (omega arith) x.good); is = ap (make a) x.is ∙ made x.e x.h b }, l.2.3)

said_after : (place : Place) → RowDoes place part.Inners terminal.Say (item.Part part.Expr ∷ item.Token terminal.Semi ∷ item.Build action.Say ∷ appended)
unfolding kept_as built built_right_side built_statement raised
said_after place kd bytes s b w l =
    let r = expression_said place action.Say stmt.Say (λ e h c. refl) (GoodStmt place) (say_good inner_simple place) appended b w l in
    appending place b r.0 w r.1 r.2

deleted_after : (place : Place) → RowDoes place part.Inners terminal.PDelete (item.Part part.Expr ∷ item.Token terminal.Semi ∷ item.Build action.Delete ∷ appended)
unfolding kept_as built built_right_side built_statement raised
deleted_after place kd bytes s b w l =
    let r = expression_said place action.Delete stmt.Delete (λ e h c. refl) (GoodStmt place) (delete_good inner_simple place) appended b w l in
    appending place b r.0 w r.1 r.2

dropped_after : (place : Place) → RowDoes place part.Inners terminal.DropVersion (item.Part part.Expr ∷ item.Token terminal.Semi ∷ item.Build action.DropVersion ∷ appended)
unfolding kept_as built built_right_side built_statement raised
dropped_after place kd bytes s b w l =
    let r = expression_said place action.DropVersion stmt.DropVersion (λ e h c. refl) (GoodStmt place) (drop_version_good inner_simple place) appended b w l in
    appending place b r.0 w r.1 r.2

pub deactivation : (place : Place) (P : ℕ → Stmt → Type 0) → ((n : ℕ) (e f : Expr) → GoodExpr place n e → GoodExpr place n f → P n (stmt.Deactivate e f)) → (more : List Item) (b w : Both)
    → Does place (item.Part part.Expr ∷ item.Token terminal.Comma ∷ item.Part part.Expr ∷ item.Token terminal.Semi ∷ item.Build action.Deactivate ∷ more) b w
    → (d : Both) × Raises with_stmt P b d × Does place more d w
unfolding kept_as built built_right_side built_statement raised
deactivation place P good more b w l =
    let x = l.1.0 in
    let p = l.2.3 in
    let y = p.1.0 in
    let n = max x.h.own y.h.own in
    let both = good n x.e y.e (expr_up place x.e x.h n (omega arith) x.good) (expr_up place y.e y.h n (omega arith) y.good) in
    (make action.Deactivate p.0, record { x = stmt.Deactivate x.e y.e; n = n; good = both; is = ap (make action.Deactivate) (y.is ∙ ap (with_expr y.e y.h) x.is) }, p.2.3)

deactivated_after : (place : Place)
    → RowDoes place part.Inners terminal.Deactivate
    (item.Part part.Expr ∷ item.Token terminal.Comma ∷ item.Part part.Expr ∷ item.Token terminal.Semi ∷ item.Build action.Deactivate ∷ appended)
unfolding kept_as
deactivated_after place kd bytes s b w l =
    let r = deactivation place (GoodStmt place) (deactivate_good inner_simple place) appended b w l in
    appending place b r.0 w r.1 r.2

tabort_after : (place : Place) → RowDoes place part.Inners terminal.TAbort (item.Token terminal.Semi ∷ item.Build action.TAbort ∷ appended)
unfolding kept_as built built_right_side built_statement raised
tabort_after place kd bytes s b w l = appending place b (make action.TAbort b) w (record { x = stmt.TAbort; n = 0; good = tabort_good place 0; is = refl }) l.3

-- ---- right sides

let_after : (place : Place) → RowDoes place part.Inners terminal.Let (item.Token terminal.Name ∷ item.Token terminal.Assign ∷ item.Part part.Rhs ∷ item.Build action.Let ∷ appended)
unfolding kept_as built built_right_side built_statement raised
let_after place kd bytes s b w l =
    let name = name_of l.1 in
    let p = l.3.3 in
    let r = p.1.1 in
    appending place b (make action.Let p.0) w
    (record { x = stmt.Let (var.Name name) r.x; n = r.n; good = let_good place r.n name r.x (name_free l.1) r.good; is = ap (make action.Let) r.is }) p.2

show_after : (place : Place) → RowDoes place part.Inners terminal.Show (item.Part part.Rhs ∷ item.Build action.Show ∷ appended)
unfolding kept_as built built_right_side built_statement raised
show_after place kd bytes s b w l =
    let r = l.1.1 in
    appending place b (make action.Show l.0) w (record { x = stmt.Show r.x; n = r.n; good = show_good place r.n r.x r.good; is = ap (make action.Show) r.is }) l.2

-- what stands alone, its semicolon and what follows
done_by : (place : Place) (b d w : Both) → (r : AddsRight place b d) → is_do r.x ≡ true → Does place (done appended) d w → Changes with_body (GoodBody place) b w
unfolding kept_as built built_right_side built_statement raised
done_by place b d w r o l =
    appending place b (make action.Do d) w (record { x = stmt.Do r.x; n = r.n; good = do_good place r.n r.x o r.good; is = ap (make action.Do) r.is }) l.3

changed_alone : (place : Place) (b w : Both) → Changed place (done appended) b w → Changes with_body (GoodBody place) b w
changed_alone place b w c = done_by place b c.mid w (unowned c.right) c.is_do c.behind

-- a call by a reference as a right side
pub record CallRight (place : Place) (b d : Both) : Type 0 where
  pub right : AddsOwned place b d
  pub is_do : is_do_of right.x ≡ true

pub call_right : (place : Place) (b d : Both) → AddsCall place b d → CallRight place b (make action.Call d)
unfolding built built_right_side raised
call_right place b d a =
    let n = max (a.h.own + 1) a.n in
    let of : GoodOf place n a.e = record { h = a.h; good = a.good; below = omega arith } in
    record {
      right = record {
        x = rhs.Call (record { of = Some a.e; method = a.name; args = a.args });
        n = n;
        good = ((of, a.free, args_up place a.n n a.args (omega arith) a.goods), refl);
        is = ap (make action.Call) a.is;
      };
      is_do = refl;
    }

called_alone : (place : Place) (b w : Both) → Called place (item.Build action.Call ∷ done appended) b w → Changes with_body (GoodBody place) b w
called_alone place b w c =
    let r = call_right place b c.mid c.call in
    done_by place b (make action.Call c.mid) w (unowned r.right) r.is_do c.behind

abbrev called_done : List Item
called_done = item.Build action.Call ∷ done appended

call_after : (place : Place) → (k : Terminal) (pre : List Item) → row_of part.Unary k ≡ Some (pre ++ item.Part part.Dots ∷ [])
    → RowDoes place part.Inners k (pre ++ (dotted_call ++ called_done))
call_after place k pre e kd bytes s b w l = called_alone place b w (atom_called place k pre called_done e kd bytes s b w l)

name_after : (place : Place) → RowDoes place part.Inners terminal.Name (item.Part part.InnerName ∷ appended)
unfolding kept_as
name_after place kd bytes s b w l = appending place b l.0 w (l.1.1 (name_of bytes) b refl (name_free bytes)) l.2

-- ---- what follows a name

assign_after : (place : Place) → RowDoes place part.InnerName terminal.Assign (item.Part part.Rhs ∷ item.Build action.Set ∷ [])
unfolding kept_as built built_right_side built_statement raised
assign_after place kd bytes s b w l = λ m c is f.
    let r = l.1.1 in
    raised_by (record { x = stmt.Set (var.Name m) r.x; n = r.n; good = set_good place r.n m r.x f r.good; is = ap (make action.Set) (r.is ∙ ap (with_right r.x r.n) is) }) l.2

own_after : (place : Place) → RowDoes place part.InnerName terminal.OpenParen (arguments ++ item.Build action.OwnCall ∷ done [])
unfolding kept_as built built_right_side built_statement raised
own_after place kd bytes s b w l = λ m c is f.
    let r = parted place arguments (item.Build action.OwnCall ∷ done []) b w l in
    let a = argued_call place b r.mid r.first in
    let x = rhs.Call (record { of = None; method = m; args = a.x }) in
    let good : GoodRight place a.n x = (tt, f, a.good) in
    raised_by (record { x = stmt.Do x; n = a.n; good = do_good place a.n x refl good; is = ap (λ z. make action.Do (make action.OwnCall z)) (a.is ∙ ap (with_args a.x a.n) is) }) r.behind.3

dot_after : (place : Place) → RowDoes place part.InnerName terminal.Dot (item.Build action.Variable ∷ item.Token terminal.Name ∷ item.Part part.CallDot ∷ item.Build action.Call ∷ done [])
unfolding kept_as built built_right_side built_statement raised
dot_after place kd bytes s b w l = λ m c is f.
    let name = name_of l.1 in
    let p = l.3 in
    let a = p.1.1 name (expr.Name m) leaf c (ap (λ x. with_name name (make action.Variable x)) is) (name_free l.1) (name_good place m f) in
    let r = call_right place c p.0 a in
    raised_by (record { x = stmt.Do r.right.x; n = r.right.n; good = do_good place r.right.n r.right.x r.is_do r.right.good.0; is = ap (make action.Do) r.right.is }) p.2.3

pub inner_name_rows : (place : Place) (k : Terminal) → IfRow (RowDoes place part.InnerName k) (row_of part.InnerName k)
unfolding row_of
inner_name_rows place terminal.Assign = assign_after place
inner_name_rows place terminal.OpenParen = own_after place
inner_name_rows place terminal.Dot = dot_after place
inner_name_rows place other = tt

-- ---- what is returned

abbrev return_items : List Item
return_items = item.Token terminal.Semi ∷ item.Build action.Return ∷ []

value_after : (place : Place) → (k : Terminal) (row : List Item) → row_of part.Expr k ≡ Some row → RowDoes place part.ReturnValue k (row ++ return_items)
unfolding kept_as built built_right_side built_statement raised
value_after place k row e kd bytes s b w l =
    let r = parted place row return_items (keep (spelt k kd bytes) b) w l in
    let a = row_is place part.Expr k row e kd bytes s b r.mid (old place row _ r.mid r.first) in
    raised_by (record { x = stmt.Return (Some a.e); n = a.h.own; good = return_good place a.h.own a.e (expr_up place a.e a.h a.h.own (omega arith) a.good); is = ap (make action.Return) a.is }) r.behind.3

no_value_after : (place : Place) → RowDoes place part.ReturnValue terminal.Semi (item.Build action.ReturnNothing ∷ [])
unfolding kept_as built built_right_side built_statement raised
no_value_after place kd bytes s b w l = raised_by (record { x = stmt.Return None; n = 0; good = return_nothing_good place 0; is = refl }) l

pub return_value_rows : (place : Place) → (k : Terminal) → IfRow (RowDoes place part.ReturnValue k) (row_of part.ReturnValue k)
unfolding row_of
return_value_rows place terminal.Semi = no_value_after place
return_value_rows place terminal.Leaf = value_after place terminal.Leaf leaf_row refl
return_value_rows place terminal.Number = value_after place terminal.Number leaf_row refl
return_value_rows place terminal.Seconds = value_after place terminal.Seconds leaf_row refl
return_value_rows place terminal.Count = value_after place terminal.Count leaf_row refl
return_value_rows place terminal.Text = value_after place terminal.Text leaf_row refl
return_value_rows place terminal.Instant = value_after place terminal.Instant leaf_row refl
return_value_rows place terminal.OpenParen = value_after place terminal.OpenParen pair_row refl
return_value_rows place terminal.Version = value_after place terminal.Version version_row refl
return_value_rows place terminal.Name = value_after place terminal.Name variable_row refl
return_value_rows place terminal.Minus = value_after place terminal.Minus sign_row refl
return_value_rows place terminal.Not = value_after place terminal.Not sign_row refl
return_value_rows place other = tt

return_after : (place : Place) → RowDoes place part.Inners terminal.Return (item.Part part.ReturnValue ∷ appended)
unfolding kept_as
return_after place kd bytes s b w l = appending place b l.0 w l.1.1 l.2

-- ---- `if`

if_after : (place : Place)
    → RowDoes place part.Inners terminal.If
    (item.Token terminal.OpenParen ∷ item.Part part.Expr ∷ item.Token terminal.CloseParen ∷ body ++ item.Part part.Else ∷ item.Build action.If ∷ appended)
unfolding kept_as built built_right_side built_statement raised
if_after place kd bytes s b w l =
    let p = l.3 in
    let a = p.1.0 in
    let q = bodied place (item.Part part.Else ∷ item.Build action.If ∷ appended) p.0 w p.2.3 in
    let x = q.body in
    let r = q.behind in
    let y = r.1.1 in
    let n = max a.h.own (max x.n y.n) in
    let good = if_good place n a.e x.x y.x (expr_up place a.e a.h n (omega arith) a.good) (body_up place x.n n x.x (omega arith) x.good) (else_up place y.n n y.x (omega arith) y.good) in
    appending place b (make action.If r.0) w
    (record { x = stmt.If a.e x.x y.x; n = n; good = good; is = ap (make action.If) (y.is ∙ ap (with_body y.x y.n) (x.is ∙ ap (with_body x.x x.n) a.is)) }) r.2

-- ---- all statements of a body

pub inners_rows : (place : Place) → (k : Terminal) → IfRow (RowDoes place part.Inners k) (row_of part.Inners k)
unfolding row_of kept_as
inners_rows place terminal.Let = let_after place
inners_rows place terminal.Name = name_after place
inners_rows place terminal.If = if_after place
inners_rows place terminal.Return = return_after place
inners_rows place terminal.TAbort = tabort_after place
inners_rows place terminal.Show = show_after place
inners_rows place terminal.Say = said_after place
inners_rows place terminal.PDelete = deleted_after place
inners_rows place terminal.DropVersion = dropped_after place
inners_rows place terminal.Deactivate = deactivated_after place
inners_rows place terminal.PNew = λ kd bytes s b w l. changed_alone place b w (pnew_changes place (done appended) kd bytes b w l)
inners_rows place terminal.NewVersion = λ kd bytes s b w l. changed_alone place b w (newversion_changes place (done appended) kd bytes b w l)
inners_rows place terminal.Activate = λ kd bytes s b w l. changed_alone place b w (activate_changes place (done appended) kd bytes b w l)
inners_rows place terminal.Leaf = call_after place terminal.Leaf leaf_front refl
inners_rows place terminal.Number = call_after place terminal.Number leaf_front refl
inners_rows place terminal.Seconds = call_after place terminal.Seconds leaf_front refl
inners_rows place terminal.Count = call_after place terminal.Count leaf_front refl
inners_rows place terminal.Text = call_after place terminal.Text leaf_front refl
inners_rows place terminal.Instant = call_after place terminal.Instant leaf_front refl
inners_rows place terminal.OpenParen = call_after place terminal.OpenParen pair_front refl
inners_rows place terminal.Version = call_after place terminal.Version version_front refl
inners_rows place other = tt
