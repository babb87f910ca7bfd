-- A printed expression is a text of its tree, and its height is that of the tree.
use Rattle.std.proofs.Common.{◌≡◌, ℕ, ◌+◌, max, Bool, true, false, List, [], ◌∷◌, ◌++◌, append_assoc, Some, refl, sym, ◌∙◌, ap, subst}
use Rattle.ode_lex.specs.declared.token.Mark.TheVariants as mark
use Rattle.ode_grammar.specs.declared.item.Part.TheVariants as part
use Rattle.ode_grammar.specs.declared.item.Action.TheVariants as action
use Rattle.ode_grammar.specs.declared.item.Item.{Item}
use Rattle.ode_grammar.specs.declared.item.Item.TheVariants as item
use Rattle.ode_grammar.specs.declared.terminal.Terminal.TheVariants as terminal
use Rattle.ode_grammar.specs.Expressions.{behind_unary, term, sum, comp, conj}
use Rattle.ode_grammar.specs.Grammar.{after, row_of, skipped}
use Rattle.ode_grammar.specs.Terminals.{named}
use Rattle.ode_grammar.specs.Texts.{Derives, Next, Make, Rule, Skip}
use Rattle.ode_grammar.proofs.TerminalLaws.{stands_for-named}
use Rattle.ode_heights.specs.declared.height.Height.{Height}
use Rattle.ode_heights.specs.Heights.{above, leaf, raised}
use Rattle.ode_value.specs.declared.operator.BinOp.{BinOp}
use Rattle.ode_value.specs.declared.operator.BinOp.TheVariants as binary
use Rattle.ode_value.specs.declared.operator.UnOp.{UnOp}
use Rattle.ode_value.specs.declared.operator.UnOp.TheVariants as unary
use Rattle.ode_value.specs.declared.statement.Expr.{Expr}
use Rattle.ode_value.specs.declared.statement.Expr.TheVariants as expr
use Rattle.ode_syntax.specs.Built.{built, built_right_side, built_statement, built_event, built_kind, built_class, built_member, built_script}
use Rattle.ode_syntax.specs.Kept.{Spelled, kept_as, leaf_of, with_leaf}
use Rattle.ode_reread.proofs.Both.{Both, both, keep, make}
use Rattle.ode_reread.proofs.ExprRows.{begins}
use Rattle.ode_reread.proofs.Marked.{marked, sign_mark, operator_mark, bracketed, as_operand, operand_height, with_expr, with_name, with_mark_on, leaf_row, leaf_kept, IsLeaf, IsNamed}

abbrev pub Ds : List Item → Both → List Spelled → Both → Type 0
Ds items b ts out = Derives both items b ts out

abbrev pub AsOperand : Expr → Height → List Spelled → Type 0
AsOperand e h us = (items : List Item) (b : Both) (ts : List Spelled) (out : Both)
    → Ds (item.Part part.Dots ∷ items) (with_expr e h b) ts out → Ds (item.Part part.Unary ∷ items) b (us ++ ts) out

abbrev pub AsWhole : Expr → Height → List Spelled → Type 0
AsWhole e h us = (items : List Item) (b : Both) (ts : List Spelled) (out : Both)
    → Ds items (with_expr e h b) ts out → Ds (item.Part part.Expr ∷ items) b (us ++ ts) out

pub record Prints (e : Expr) (is_operator : Bool) (h : Height) (us : List Spelled) : Type 0 where
  pub operand : AsOperand e (operand_height is_operator h) (as_operand is_operator us)
  pub whole : AsWhole e h us

pub regroup : {items : List Item} {b out : Both} (xs ys ts : List Spelled) → Ds items b (xs ++ (ys ++ ts)) out → Ds items b ((xs ++ ys) ++ ts) out
regroup {items = items} {b = b} {out = out} xs ys ts d = subst (λ us. Derives both items b us out) (sym (append_assoc xs ys ts)) d

pub at : {b c : Both} (items : List Item) (ts : List Spelled) (out : Both) → b ≡ c → Ds items c ts out → Ds items b ts out
at items ts out e d = subst (λ x. Derives both items x ts out) (sym e) d

-- ---- nothing more in an expression

pub nothing : (b : Both) → make action.Nothing b ≡ b
unfolding built built_right_side built_statement built_event built_kind built_class built_member built_script raised
nothing b = refl

pub no_dots : {items : List Item} {b : Both} {ts : List Spelled} {out : Both} → Ds items b ts out → Ds (item.Part part.Dots ∷ items) b ts out
unfolding skipped
no_dots {items = items} {b = b} {ts = ts} {out = out} d = Skip part.Dots action.Nothing refl (at items ts out (nothing b) d)

pub no_factors : {items : List Item} {b : Both} {ts : List Spelled} {out : Both} → Ds items b ts out → Ds (item.Part part.Factors ∷ items) b ts out
unfolding skipped
no_factors {items = items} {b = b} {ts = ts} {out = out} d = Skip part.Factors action.Nothing refl (at items ts out (nothing b) d)

pub no_sums : {items : List Item} {b : Both} {ts : List Spelled} {out : Both} → Ds items b ts out → Ds (item.Part part.Sums ∷ items) b ts out
unfolding skipped
no_sums {items = items} {b = b} {ts = ts} {out = out} d = Skip part.Sums action.Nothing refl (at items ts out (nothing b) d)

pub no_compare : {items : List Item} {b : Both} {ts : List Spelled} {out : Both} → Ds items b ts out → Ds (item.Part part.Compare ∷ items) b ts out
unfolding skipped
no_compare {items = items} {b = b} {ts = ts} {out = out} d = Skip part.Compare action.Nothing refl (at items ts out (nothing b) d)

pub no_ands : {items : List Item} {b : Both} {ts : List Spelled} {out : Both} → Ds items b ts out → Ds (item.Part part.Ands ∷ items) b ts out
unfolding skipped
no_ands {items = items} {b = b} {ts = ts} {out = out} d = Skip part.Ands action.Nothing refl (at items ts out (nothing b) d)

pub no_ors : {items : List Item} {b : Both} {ts : List Spelled} {out : Both} → Ds items b ts out → Ds (item.Part part.Ors ∷ items) b ts out
unfolding skipped
no_ors {items = items} {b = b} {ts = ts} {out = out} d = Skip part.Ors action.Nothing refl (at items ts out (nothing b) d)

-- behind an operand the end of the expression
pub ended : {items : List Item} {b : Both} {ts : List Spelled} {out : Both} → Ds items b ts out → Ds (behind_unary ++ items) b ts out
ended d = no_factors (no_sums (no_compare (no_ands (no_ors d))))

-- ---- brackets

-- brackets round an operator count nothing
pair : (e : Expr) (n : ℕ) (b : Both) → make action.Pair (with_expr e (above n) b) ≡ with_expr e (record { own = n + 1; bare = true }) b
unfolding built built_right_side built_statement built_event built_kind built_class built_member built_script raised
pair e n b = refl

pub opened : (b : Both) → keep (marked mark.OpenParen) b ≡ b
unfolding kept_as
opened b = refl

pub closed : (b : Both) → keep (marked mark.CloseParen) b ≡ b
unfolding kept_as
closed b = refl

abbrev pair_items : List Item → List Item
pair_items items = item.Part part.Expr ∷ item.Token terminal.CloseParen ∷ item.Build action.Pair ∷ item.Part part.Dots ∷ items

paren_row : after part.Unary terminal.OpenParen ≡ Some (pair_items [])
unfolding row_of
paren_row = refl

bracketed_operand : (e : Expr) (n : ℕ) (us : List Spelled) → AsWhole e (above n) us → AsOperand e (record { own = n + 1; bare = true }) (bracketed us)
bracketed_operand e n us whole items b ts out d =
    let inner = with_expr e (above n) b in
    let made = Make action.Pair (at (item.Part part.Dots ∷ items) ts out (pair e n b) d) in
    let close = Next terminal.CloseParen refl (at (item.Build action.Pair ∷ item.Part part.Dots ∷ items) ts out (closed inner) made) in
    let all = regroup us (marked mark.CloseParen ∷ []) ts
    (whole (item.Token terminal.CloseParen ∷ item.Build action.Pair ∷ item.Part part.Dots ∷ items) b (marked mark.CloseParen ∷ ts) out close) in
    Rule part.Unary (pair_items []) paren_row (at (pair_items items) ((us ++ marked mark.CloseParen ∷ []) ++ ts) out (opened b) all)

-- an operator, and what is none
pub an_operator : (e : Expr) (n : ℕ) (us : List Spelled) → AsWhole e (above n) us → Prints e true (above n) us
an_operator e n us whole = record { operand = bracketed_operand e n us whole; whole = whole }

pub no_operator : (e : Expr) (h : Height) (us : List Spelled) → AsOperand e h us → Prints e false h us
no_operator e h us operand = record {
  operand = operand;
  whole = λ items b ts out d. begins (operand (behind_unary ++ items) b ts out (no_dots (ended d)));
}

-- ---- leaves and names

made_leaf : (e : Expr) (t : Spelled) (b : Both) → leaf_of t.kind t.bytes ≡ e
    → make action.Leaf (record { trees = with_leaf t.kind t.bytes b.trees; heights = b.heights }) ≡ with_expr e leaf b
unfolding built raised
made_leaf e t b h = ap (λ x. with_expr x leaf b) h

kept_leaf : (e : Expr) (t : Spelled) (b : Both) → IsLeaf t e → keep t b ≡ record { trees = with_leaf t.kind t.bytes b.trees; heights = b.heights }
kept_leaf e t b h = ap (λ v. record { trees = v; heights = b.heights }) (leaf_kept t.terminal t.kind t.bytes b.trees h.seen)

pub leaf_prints : (e : Expr) (t : Spelled) → IsLeaf t e → Prints e false leaf (t ∷ [])
leaf_prints e t h = no_operator e leaf (t ∷ []) (λ items b ts out d.
    Rule part.Unary (item.Build action.Leaf ∷ item.Part part.Dots ∷ []) (leaf_row t.terminal h.seen)
    (at (item.Build action.Leaf ∷ item.Part part.Dots ∷ items) ts out (kept_leaf e t b h)
    (Make action.Leaf (at (item.Part part.Dots ∷ items) ts out (made_leaf e t b h.says) d))))

pub kept_named : (t : Spelled) (name : List ℕ) (b : Both) → IsNamed t name → keep t b ≡ with_name name b
unfolding kept_as
kept_named t name b h = ap (λ k. record { trees = kept_as k t.kind t.bytes b.trees; heights = b.heights }) h.seen ∙ ap (λ n. with_name n b) h.says

made_variable : (name : List ℕ) (b : Both) → make action.Variable (with_name name b) ≡ with_expr (expr.Name name) leaf b
unfolding built raised
made_variable name b = refl

named_row : (t : Spelled) → named t.terminal ≡ terminal.Name → after part.Unary t.terminal ≡ Some (item.Build action.Variable ∷ item.Part part.Dots ∷ [])
unfolding row_of
named_row t h = ap (row_of part.Unary) h

pub named_prints : (name : List ℕ) (t : Spelled) → IsNamed t name → Prints (expr.Name name) false leaf (t ∷ [])
named_prints name t h = no_operator (expr.Name name) leaf (t ∷ []) (λ items b ts out d.
    Rule part.Unary (item.Build action.Variable ∷ item.Part part.Dots ∷ []) (named_row t h.seen)
    (at (item.Build action.Variable ∷ item.Part part.Dots ∷ items) ts out (kept_named t name b h)
    (Make action.Variable (at (item.Part part.Dots ∷ items) ts out (made_variable name b) d))))

-- ---- fields and versions

kept_dot : (b : Both) → keep (marked mark.Dot) b ≡ b
unfolding kept_as
kept_dot b = refl

dot_row : after part.Dots terminal.Dot ≡ Some (item.Token terminal.Name ∷ item.Build action.Field ∷ item.Part part.Dots ∷ [])
unfolding row_of
dot_row = refl

pub made_field : (e : Expr) (h : Height) (name : List ℕ) (b : Both) → make action.Field (with_name name (with_expr e h b)) ≡ with_expr (expr.Field e name) (above h.own) b
unfolding built raised
made_field e h name b = refl

operand_own : (c : Bool) (h : Height) → (operand_height c h).own ≡ h.own
operand_own true h = refl
operand_own false h = refl

pub field_prints : (e : Expr) (c : Bool) (h : Height) (us : List Spelled) (name : List ℕ) (t : Spelled) → Prints e c h us → IsNamed t name
    → Prints (expr.Field e name) false (above h.own) (as_operand c us ++ marked mark.Dot ∷ t ∷ [])
field_prints e c h us name t p n =
    let k = operand_height c h in
    no_operator (expr.Field e name) (above h.own) (as_operand c us ++ marked mark.Dot ∷ t ∷ []) (λ items b ts out d.
    let made = made_field e k name b ∙ ap (λ m. with_expr (expr.Field e name) (above m) b) (operand_own c h) in
    regroup (as_operand c us) (marked mark.Dot ∷ t ∷ []) ts
    (p.operand items b (marked mark.Dot ∷ t ∷ ts) out
    (Rule part.Dots (item.Token terminal.Name ∷ item.Build action.Field ∷ item.Part part.Dots ∷ []) dot_row
    (at (item.Token terminal.Name ∷ item.Build action.Field ∷ item.Part part.Dots ∷ items) (t ∷ ts) out (kept_dot (with_expr e k b))
    (Next terminal.Name (stands_for-named t.terminal terminal.Name n.seen)
    (at (item.Build action.Field ∷ item.Part part.Dots ∷ items) ts out (kept_named t name (with_expr e k b) n)
    (Make action.Field (at (item.Part part.Dots ∷ items) ts out made d))))))))

kept_version : (t : Spelled) (b : Both) → t.terminal ≡ terminal.Version → keep t b ≡ b
unfolding kept_as
kept_version t b h = ap (λ k. record { trees = kept_as (named k) t.kind t.bytes b.trees; heights = b.heights }) h

abbrev version_items : List Item → List Item
version_items items =
    item.Token terminal.OpenParen ∷ item.Part part.Expr ∷ item.Token terminal.CloseParen ∷ item.Build action.Version ∷ item.Part part.Dots ∷ items

version_row : (t : Spelled) → t.terminal ≡ terminal.Version → after part.Unary t.terminal ≡ Some (version_items [])
unfolding row_of
version_row t h = ap (after part.Unary) h

pub made_version : (e : Expr) (h : Height) (b : Both) → make action.Version (with_expr e h b) ≡ with_expr (expr.Version e) (above h.own) b
unfolding built raised
made_version e h b = refl

pub version_prints : (e : Expr) (c : Bool) (h : Height) (us : List Spelled) (t : Spelled) → t.terminal ≡ terminal.Version → Prints e c h us
    → Prints (expr.Version e) false (above h.own) (t ∷ bracketed us)
version_prints e c h us t k p = no_operator (expr.Version e) (above h.own) (t ∷ bracketed us) (λ items b ts out d.
    let inner = with_expr e h b in
    let made = Make action.Version (at (item.Part part.Dots ∷ items) ts out (made_version e h b) d) in
    let close = Next terminal.CloseParen refl (at (item.Build action.Version ∷ item.Part part.Dots ∷ items) ts out (closed inner) made) in
    let all = regroup us (marked mark.CloseParen ∷ []) ts
    (p.whole (item.Token terminal.CloseParen ∷ item.Build action.Version ∷ item.Part part.Dots ∷ items) b (marked mark.CloseParen ∷ ts) out close) in
    let open_items = item.Part part.Expr ∷ item.Token terminal.CloseParen ∷ item.Build action.Version ∷ item.Part part.Dots ∷ items in
    let paren = Next terminal.OpenParen refl (at open_items ((us ++ marked mark.CloseParen ∷ []) ++ ts) out (opened b) all) in
    Rule part.Unary (version_items []) (version_row t k) (at (version_items items) (bracketed us ++ ts) out (kept_version t b k) paren))

-- ---- operators

kept_sign : (op : UnOp) (b : Both) → keep (marked (sign_mark op)) b ≡ with_mark_on (sign_mark op) b
unfolding kept_as
kept_sign unary.Minus b = refl
kept_sign unary.Not b = refl

sign_row : (op : UnOp) → after part.Unary (marked (sign_mark op)).terminal ≡ Some (item.Part part.Unary ∷ item.Build action.Sign ∷ [])
unfolding row_of
sign_row unary.Minus = refl
sign_row unary.Not = refl

made_sign : (op : UnOp) (e : Expr) (h : Height) (b : Both) → make action.Sign (with_expr e h (with_mark_on (sign_mark op) b)) ≡ with_expr (expr.Unary op e) (above h.own) b
unfolding built raised
made_sign unary.Minus e h b = refl
made_sign unary.Not e h b = refl

pub unary_prints : (op : UnOp) (e : Expr) (c : Bool) (h : Height) (us : List Spelled) → Prints e c h us
    → Prints (expr.Unary op e) true (above h.own) (marked (sign_mark op) ∷ as_operand c us)
unary_prints op e c h us p =
    let k = operand_height c h in
    an_operator (expr.Unary op e) h.own (marked (sign_mark op) ∷ as_operand c us) (λ items b ts out d.
    let made = made_sign op e k b ∙ ap (λ m. with_expr (expr.Unary op e) (above m) b) (operand_own c h) in
    begins
    (Rule part.Unary (item.Part part.Unary ∷ item.Build action.Sign ∷ []) (sign_row op)
    (at (item.Part part.Unary ∷ item.Build action.Sign ∷ behind_unary ++ items) (as_operand c us ++ ts) out (kept_sign op b)
    (p.operand (item.Build action.Sign ∷ behind_unary ++ items) (with_mark_on (sign_mark op) b) ts out (no_dots
    (Make action.Sign (at (behind_unary ++ items) ts out made (ended d))))))))

kept_operator : (op : BinOp) (b : Both) → keep (marked (operator_mark op)) b ≡ with_mark_on (operator_mark op) b
unfolding kept_as
kept_operator binary.Add b = refl
kept_operator binary.Sub b = refl
kept_operator binary.Mul b = refl
kept_operator binary.Div b = refl
kept_operator binary.Rem b = refl
kept_operator binary.Eq b = refl
kept_operator binary.Ne b = refl
kept_operator binary.Lt b = refl
kept_operator binary.Le b = refl
kept_operator binary.Gt b = refl
kept_operator binary.Ge b = refl
kept_operator binary.And b = refl
kept_operator binary.Or b = refl

made_binary : (op : BinOp) (e f : Expr) (h k : Height) (b : Both)
    → make action.Binary (with_expr f k (with_mark_on (operator_mark op) (with_expr e h b))) ≡ with_expr (expr.Binary op e f) (above (max h.own k.own)) b
unfolding built raised
made_binary binary.Add e f h k b = refl
made_binary binary.Sub e f h k b = refl
made_binary binary.Mul e f h k b = refl
made_binary binary.Div e f h k b = refl
made_binary binary.Rem e f h k b = refl
made_binary binary.Eq e f h k b = refl
made_binary binary.Ne e f h k b = refl
made_binary binary.Lt e f h k b = refl
made_binary binary.Le e f h k b = refl
made_binary binary.Gt e f h k b = refl
made_binary binary.Ge e f h k b = refl
made_binary binary.And e f h k b = refl
made_binary binary.Or e f h k b = refl

-- behind the second operand
second : (op : BinOp) (e f : Expr) (h k : Height) (items : List Item) (b : Both) (ts : List Spelled) (out : Both)
    → Ds items (with_expr (expr.Binary op e f) (above (max h.own k.own)) b) ts out
    → Ds (item.Build action.Binary ∷ items) (with_expr f k (with_mark_on (operator_mark op) (with_expr e h b))) ts out
second op e f h k items b ts out d = Make action.Binary (at items ts out (made_binary op e f h k b) d)

abbrev AfterFirst : BinOp → Expr → Expr → Height → Height → List Spelled → Type 0
AfterFirst op e f h k us = (items : List Item) (b : Both) (ts : List Spelled) (out : Both) → Ds items (with_expr (expr.Binary op e f) (above (max h.own k.own)) b) ts out
    → Ds (behind_unary ++ items) (with_expr e h b) (marked (operator_mark op) ∷ us ++ ts) out

marked_on : (op : BinOp) (e : Expr) (h : Height) (items : List Item) (b : Both) (ts : List Spelled) (out : Both)
    → Ds items (with_mark_on (operator_mark op) (with_expr e h b)) ts out → Ds items (keep (marked (operator_mark op)) (with_expr e h b)) ts out
marked_on op e h items b ts out d = at items ts out (kept_operator op (with_expr e h b)) d

factor : (op : BinOp) (e f : Expr) (h k : Height) (us : List Spelled)
    → after part.Factors (marked (operator_mark op)).terminal ≡ Some (item.Part part.Unary ∷ item.Build action.Binary ∷ item.Part part.Factors ∷ [])
    → AsOperand f k us → AfterFirst op e f h k us
factor op e f h k us r p items b ts out d =
    Rule part.Factors (item.Part part.Unary ∷ item.Build action.Binary ∷ item.Part part.Factors ∷ []) r
    (marked_on op e h _ b (us ++ ts) out (p _ _ ts out (no_dots (second op e f h k _ b ts out (ended d)))))

sum_of : (op : BinOp) (e f : Expr) (h k : Height) (us : List Spelled)
    → after part.Sums (marked (operator_mark op)).terminal ≡ Some (term ++ item.Build action.Binary ∷ item.Part part.Sums ∷ [])
    → AsOperand f k us → AfterFirst op e f h k us
sum_of op e f h k us r p items b ts out d =
    no_factors (Rule part.Sums (term ++ item.Build action.Binary ∷ item.Part part.Sums ∷ []) r
    (marked_on op e h _ b (us ++ ts) out (p _ _ ts out (no_dots (no_factors (second op e f h k _ b ts out (no_sums (no_compare (no_ands (no_ors d))))))))))

comparison : (op : BinOp) (e f : Expr) (h k : Height) (us : List Spelled)
    → after part.Compare (marked (operator_mark op)).terminal ≡ Some (sum ++ item.Build action.Binary ∷ [])
    → AsOperand f k us → AfterFirst op e f h k us
comparison op e f h k us r p items b ts out d =
    no_factors (no_sums (Rule part.Compare (sum ++ item.Build action.Binary ∷ []) r
    (marked_on op e h _ b (us ++ ts) out (p _ _ ts out (no_dots (no_factors (no_sums (second op e f h k _ b ts out (no_ands (no_ors d))))))))))

conjunction : (op : BinOp) (e f : Expr) (h k : Height) (us : List Spelled)
    → after part.Ands (marked (operator_mark op)).terminal ≡ Some (comp ++ item.Build action.Binary ∷ item.Part part.Ands ∷ [])
    → AsOperand f k us → AfterFirst op e f h k us
conjunction op e f h k us r p items b ts out d =
    no_factors (no_sums (no_compare (Rule part.Ands (comp ++ item.Build action.Binary ∷ item.Part part.Ands ∷ []) r
    (marked_on op e h _ b (us ++ ts) out (p _ _ ts out (no_dots (no_factors (no_sums (no_compare (second op e f h k _ b ts out (no_ands (no_ors d))))))))))))

disjunction : (op : BinOp) (e f : Expr) (h k : Height) (us : List Spelled)
    → after part.Ors (marked (operator_mark op)).terminal ≡ Some (conj ++ item.Build action.Binary ∷ item.Part part.Ors ∷ [])
    → AsOperand f k us → AfterFirst op e f h k us
disjunction op e f h k us r p items b ts out d =
    no_factors (no_sums (no_compare (no_ands (Rule part.Ors (conj ++ item.Build action.Binary ∷ item.Part part.Ors ∷ []) r
    (marked_on op e h _ b (us ++ ts) out (p _ _ ts out (no_dots (no_factors (no_sums (no_compare (no_ands (second op e f h k _ b ts out (no_ors d)))))))))))))

operation : (op : BinOp) (e f : Expr) (h k : Height) (us : List Spelled) → AsOperand f k us → AfterFirst op e f h k us
unfolding row_of
operation binary.Add e f h k us r = sum_of binary.Add e f h k us refl r
operation binary.Sub e f h k us r = sum_of binary.Sub e f h k us refl r
operation binary.Mul e f h k us r = factor binary.Mul e f h k us refl r
operation binary.Div e f h k us r = factor binary.Div e f h k us refl r
operation binary.Rem e f h k us r = factor binary.Rem e f h k us refl r
operation binary.Eq e f h k us r = comparison binary.Eq e f h k us refl r
operation binary.Ne e f h k us r = comparison binary.Ne e f h k us refl r
operation binary.Lt e f h k us r = comparison binary.Lt e f h k us refl r
operation binary.Le e f h k us r = comparison binary.Le e f h k us refl r
operation binary.Gt e f h k us r = comparison binary.Gt e f h k us refl r
operation binary.Ge e f h k us r = comparison binary.Ge e f h k us refl r
operation binary.And e f h k us r = conjunction binary.And e f h k us refl r
operation binary.Or e f h k us r = disjunction binary.Or e f h k us refl r

pub binary_prints : (op : BinOp) (e f : Expr) (c d : Bool) (h k : Height) (us vs : List Spelled) → Prints e c h us → Prints f d k vs
    → Prints (expr.Binary op e f) true (above (max h.own k.own)) (as_operand c us ++ marked (operator_mark op) ∷ as_operand d vs)
binary_prints op e f c d h k us vs p q =
    let g = operand_height c h in
    let l = operand_height d k in
    an_operator (expr.Binary op e f) (max h.own k.own) (as_operand c us ++ marked (operator_mark op) ∷ as_operand d vs) (λ items b ts out r.
    let same : above (max g.own l.own) ≡ above (max h.own k.own) = ap (λ m. above (max m l.own)) (operand_own c h) ∙ ap (λ m. above (max h.own m)) (operand_own d k) in
    begins
    (regroup (as_operand c us) (marked (operator_mark op) ∷ as_operand d vs) ts
    (p.operand (behind_unary ++ items) b (marked (operator_mark op) ∷ as_operand d vs ++ ts) out
    (no_dots (operation op e f g l (as_operand d vs) q.operand items b ts out (at items ts out (ap (λ m. with_expr (expr.Binary op e f) m b) same) r))))))
