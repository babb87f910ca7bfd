-- What a text of each part does to the trees and heights: an expression adds one that is good.
use Rattle.std.proofs.Common.{◌≡◌, ◌≤◌, ℕ, ◌+◌, max, Bool, true, false, cond, codes, List, [], ◌∷◌, ◌++◌, Option, Some, None, refl, sym, ◌∙◌, ap, subst, arith}
use Rattle.ode_lex.specs.declared.token.Mark.{Mark}
use Rattle.ode_lex.specs.declared.token.TokenKind.{TokenKind}
use Rattle.ode_lex.specs.declared.token.TokenKind.TheVariants as kind
use Rattle.ode_grammar.specs.declared.item.Part.{Part}
use Rattle.ode_grammar.specs.declared.item.Part.TheVariants as part
use Rattle.ode_grammar.specs.declared.item.Action.TheVariants as action
use Rattle.ode_grammar.specs.declared.item.Item.{Item}
use Rattle.ode_grammar.specs.declared.item.Item.TheVariants as item
use Rattle.ode_grammar.specs.declared.terminal.Terminal.{Terminal}
use Rattle.ode_grammar.specs.declared.terminal.Terminal.TheVariants as terminal
use Rattle.ode_grammar.specs.Expressions.{behind_unary, term, sum, comp, conj}
use Rattle.ode_grammar.specs.Grammar.{row_of}
use Rattle.ode_grammar.proofs.Follows.{IfRow}
use Rattle.ode_heights.specs.declared.height.Height.{Height}
use Rattle.ode_heights.specs.Heights.{above, in_pair, leaf, raised}
use Rattle.ode_terminals.specs.declared.seen.Place.{Place}
use Rattle.ode_value.specs.Words.{is_free, reserved}
use Rattle.ode_value.specs.declared.event.EventExpr.{EventExpr}
use Rattle.ode_value.specs.declared.event.Kind.{Kind}
use Rattle.ode_value.specs.declared.statement.Expr.{Expr}
use Rattle.ode_value.specs.declared.statement.Expr.TheVariants as expr
use Rattle.ode_syntax.specs.Built.{binary_of, built, built_right_side, built_statement, built_event, built_kind, built_class, built_member, built_script, unary_of}
use Rattle.ode_syntax.specs.Kept.{kept_as, leaf_of, name_of, Spelled}
use Rattle.ode_reread.proofs.Both.{Both, keep, make}
use Rattle.ode_reread.proofs.EventGoods.{GoodEvent, GoodInstants, GoodKind}
use Rattle.ode_reread.proofs.EventPrints.{paired, with_event, with_kind}
use Rattle.ode_reread.proofs.ExprRows.{longer, rows}
use Rattle.ode_reread.proofs.Leaves.{leaf_read}
use Rattle.ode_reread.proofs.Marked.{is_leaf, with_expr, with_mark_on, with_name}
use Rattle.ode_reread.proofs.Prints.{made_field, made_version}
use Rattle.ode_reread.proofs.Goods.{binary_good, field_good, good_up, name_good, unary_good, version_good, Good}
use Rattle.ode_reread.proofs.Sounds.{is_operator, operator_is_mark, seen_as, Sound}

abbrev pub spelt : Terminal → TokenKind → List ℕ → Spelled
spelt k kd bytes = record { terminal = k; kind = kd; bytes = bytes }

-- a good expression more
pub record Adds (place : Place) (b w : Both) : Type 0 where
  pub e : Expr
  pub h : Height
  pub good : Good place e h
  pub is : w ≡ with_expr e h b

-- a good expression in place of the one on top
abbrev pub Replaces : Place → Both → Both → Type 0
Replaces place b w = (e : Expr) (h : Height) (c : Both) → b ≡ with_expr e h c → Good place e h → Adds place c w

-- an event expression more, or one in place of the one on top, that is good where the instants are
pub record AddsEvent (place : Place) (b w : Both) : Type 0 where
  pub e : EventExpr
  pub h : Height
  pub good : GoodInstants place → GoodEvent place e h
  pub is : w ≡ with_event e h b

abbrev pub ReplacesEvent : Place → Both → Both → Type 0
ReplacesEvent place b w = (e : EventExpr) (h : Height) (c : Both) → b ≡ with_event e h c → (GoodInstants place → GoodEvent place e h) → AddsEvent place c w

-- a kind more, and an event expression in place of a kind
pub record AddsKind (place : Place) (b w : Both) : Type 0 where
  pub k : Kind
  pub good : GoodInstants place → GoodKind place k
  pub is : w ≡ with_kind k b

abbrev pub Masks : Place → Both → Both → Type 0
Masks place b w = (k : Kind) (c : Both) → b ≡ with_kind k c → (GoodInstants place → GoodKind place k) → AddsEvent place c w

-- an event expression, or a masked one, in place of one in brackets, whose height without them is this
abbrev pub MasksPair : Place → Both → Both → Type 0
MasksPair place b w = (e : EventExpr) (h : Height) (c : Both) → b ≡ with_event e (paired h) c → (GoodInstants place → GoodEvent place e h) → AddsEvent place c w

abbrev pub Effect : Place → Part → Both → Both → Type 0
Effect place part.EventUnary b w = AddsEvent place b w
Effect place part.EventAnds b w = ReplacesEvent place b w
Effect place part.EventOrs b w = ReplacesEvent place b w
Effect place part.MoreRelative b w = ReplacesEvent place b w
Effect place part.MorePrior b w = ReplacesEvent place b w
Effect place part.MoreSequence b w = ReplacesEvent place b w
Effect place part.Mask b w = Masks place b w
Effect place part.EventMask b w = MasksPair place b w
Effect place part.Kind b w = AddsKind place b w
Effect place part.AfterWhat b w = AddsKind place b w
Effect place part.BeforeWhat b w = AddsKind place b w
Effect place part.TimeWhat b w = AddsKind place b w
Effect place part.Period b w = AddsKind place b w
Effect place part.Expr b w = Adds place b w
Effect place part.Unary b w = Adds place b w
Effect place part.Dots b w = Replaces place b w
Effect place part.Factors b w = Replaces place b w
Effect place part.Sums b w = Replaces place b w
Effect place part.Compare b w = Replaces place b w
Effect place part.Ands b w = Replaces place b w
Effect place part.Ors b w = Replaces place b w
Effect place other b w = Unit {0}

-- what items do, one after the other
abbrev pub Leads : Place → List Item → Both → Both → Type 0
Leads place [] b w = b ≡ w
Leads place (item.Token k ∷ items) b w =
    (kd : TokenKind) × (bytes : List ℕ) × Sound place (spelt k kd bytes) × Leads place items (keep (spelt k kd bytes) b) w
Leads place (item.Build a ∷ items) b w = Leads place items (make a b) w
Leads place (item.Part p ∷ items) b w = (c : Both) × Effect place p b c × Leads place items c w

-- what a row does behind its token
abbrev pub RowIs : Place → Part → Terminal → List Item → Type 0
RowIs place p k row = (kd : TokenKind) (bytes : List ℕ) → Sound place (spelt k kd bytes) → (b w : Both)
    → Leads place row (keep (spelt k kd bytes) b) w → Effect place p b w

pub replaced : (place : Place) (b c w : Both) → Adds place b c → Replaces place c w → Adds place b w
replaced place b c w a r = r a.e a.h b a.is a.good

pub finished : (place : Place) (b c w : Both) → Adds place b c → c ≡ w → Adds place b w
finished place b c w a e = subst (λ x. Adds place b x) e a

pub added : (place : Place) (b m : Both) (e : Expr) (h : Height) → Good place e h → m ≡ with_expr e h b → Adds place b m
added place b m e h good is = record { e = e; h = h; good = good; is = is }

-- ---- names

pub name_free : (bytes : List ℕ) → is_free (name_of bytes) ≡ true
unfolding reserved
name_free bytes = cases (is_free bytes) refl
  where
    cases : (c : Bool) → is_free bytes ≡ c → is_free (cond c bytes (codes "x")) ≡ true
    cases true e = e
    cases false e = refl

-- ---- operands

leaf_after : (place : Place) (k : Terminal) → is_leaf k ≡ true
    → ((kd : TokenKind) (bytes : List ℕ) (b : Both) → make action.Leaf (keep (spelt k kd bytes) b) ≡ with_expr (leaf_of kd bytes) leaf b)
    → RowIs place part.Unary k (item.Build action.Leaf ∷ item.Part part.Dots ∷ [])
leaf_after place k e made kd bytes s b w l =
    let x = added place b (make action.Leaf (keep (spelt k kd bytes) b)) (leaf_of kd bytes) leaf (leaf_read place k kd bytes e s) (made kd bytes b) in
    finished place b l.0 w (replaced place b _ l.0 x l.1) l.2

in_brackets_up : (h : Height) → h.own ≤ in_pair h
in_brackets_up h = cases h.bare
  where
    cases : (c : Bool) → h.own ≤ cond c (h.own + 1) h.own
    cases true = omega arith
    cases false = omega arith

made_pair : (e : Expr) (h : Height) (b : Both) → make action.Pair (with_expr e h b) ≡ with_expr e (record { own = in_pair h; bare = true }) b
unfolding built built_right_side built_statement built_event built_kind built_class built_member built_script raised
made_pair e h b = refl

paren_after : (place : Place)
    → RowIs place part.Unary terminal.OpenParen (item.Part part.Expr ∷ item.Token terminal.CloseParen ∷ item.Build action.Pair ∷ item.Part part.Dots ∷ [])
unfolding kept_as
paren_after place kd bytes s b w l =
    let a = l.1 in
    let k : Height = record { own = in_pair a.h; bare = true } in
    let x = added place b (make action.Pair l.0) a.e k (good_up place a.e a.h k (in_brackets_up a.h) a.good) (ap (make action.Pair) a.is ∙ made_pair a.e a.h b) in
    finished place b l.2.3.0 w (replaced place b (make action.Pair l.0) l.2.3.0 x l.2.3.1) l.2.3.2

version_after : (place : Place)
    → RowIs place part.Unary terminal.Version
    (item.Token terminal.OpenParen ∷ item.Part part.Expr ∷ item.Token terminal.CloseParen ∷ item.Build action.Version ∷ item.Part part.Dots ∷ [])
unfolding kept_as
version_after place kd bytes s b w l =
    let c = l.3.0 in
    let a = l.3.1 in
    let x = added place b (make action.Version c) (expr.Version a.e) (above a.h.own) (version_good place a.e a.h a.good) (ap (make action.Version) a.is ∙ made_version a.e a.h b) in
    let d = l.3.2.3.0 in
    finished place b d w (replaced place b (make action.Version c) d x l.3.2.3.1) l.3.2.3.2

made_sign : (m : Mark) (e : Expr) (h : Height) (b : Both) → make action.Sign (with_expr e h (with_mark_on m b)) ≡ with_expr (expr.Unary (unary_of m) e) (above h.own) b
unfolding built raised
made_sign m e h b = refl

sign_after : (place : Place) (k : Terminal) → is_operator k ≡ true → ((m : Mark) (bytes : List ℕ) (b : Both) → keep (spelt k (kind.Mark m) bytes) b ≡ with_mark_on m b)
    → RowIs place part.Unary k (item.Part part.Unary ∷ item.Build action.Sign ∷ [])
sign_after place k o kept kd bytes s b w l =
    let m = operator_is_mark place k kd bytes (seen_as is_operator refl s o) o in
    let a = l.1 in
    let same : keep (spelt k kd bytes) b ≡ with_mark_on m.0 b = ap (λ j. keep (spelt k j bytes) b) m.1 ∙ kept m.0 bytes b in
    let is = ap (make action.Sign) (a.is ∙ ap (with_expr a.e a.h) same) ∙ made_sign m.0 a.e a.h b in
    finished place b (make action.Sign l.0) w (added place b (make action.Sign l.0) (expr.Unary (unary_of m.0) a.e) (above a.h.own) (unary_good place (unary_of m.0) a.e a.h a.good) is) l.2

made_variable : (name : List ℕ) (b : Both) → make action.Variable (with_name name b) ≡ with_expr (expr.Name name) leaf b
unfolding built raised
made_variable name b = refl

name_after : (place : Place) → RowIs place part.Unary terminal.Name (item.Build action.Variable ∷ item.Part part.Dots ∷ [])
unfolding kept_as
name_after place kd bytes s b w l =
    let name = name_of bytes in
    let x = added place b (make action.Variable (with_name name b)) (expr.Name name) leaf (name_good place name (name_free bytes)) (made_variable name b) in
    finished place b l.0 w (replaced place b _ l.0 x l.1) l.2

pub unary_rows : (place : Place) (k : Terminal) → IfRow (RowIs place part.Unary k) (row_of part.Unary k)
unfolding row_of kept_as built raised
unary_rows place terminal.Leaf = leaf_after place terminal.Leaf refl (λ kd bs b. refl)
unary_rows place terminal.Number = leaf_after place terminal.Number refl (λ kd bs b. refl)
unary_rows place terminal.Seconds = leaf_after place terminal.Seconds refl (λ kd bs b. refl)
unary_rows place terminal.Count = leaf_after place terminal.Count refl (λ kd bs b. refl)
unary_rows place terminal.Text = leaf_after place terminal.Text refl (λ kd bs b. refl)
unary_rows place terminal.Instant = leaf_after place terminal.Instant refl (λ kd bs b. refl)
unary_rows place terminal.OpenParen = paren_after place
unary_rows place terminal.Version = version_after place
unary_rows place terminal.Minus = sign_after place terminal.Minus refl (λ m bytes b. refl)
unary_rows place terminal.Not = sign_after place terminal.Not refl (λ m bytes b. refl)
unary_rows place terminal.Name = name_after place
unary_rows place other = tt

-- ---- fields

dot_after : (place : Place) → RowIs place part.Dots terminal.Dot (item.Token terminal.Name ∷ item.Build action.Field ∷ item.Part part.Dots ∷ [])
unfolding kept_as
dot_after place kd bytes s b w l = λ e h c is good.
    let name = name_of l.1 in
    let m = make action.Field (with_name name b) in
    let x = added place c m (expr.Field e name) (above h.own) (field_good place e h name (name_free l.1) good) (ap (λ y. make action.Field (with_name name y)) is ∙ made_field e h name c) in
    finished place c l.3.0 w (replaced place c m l.3.0 x l.3.1) l.3.2

pub dots_rows : (place : Place) (k : Terminal) → IfRow (RowIs place part.Dots k) (row_of part.Dots k)
unfolding row_of
dots_rows place terminal.Dot = dot_after place
dots_rows place other = tt

-- ---- operators of two operands

made_binary : (m : Mark) (e f : Expr) (h k : Height) (b : Both)
    → make action.Binary (with_expr f k (with_mark_on m (with_expr e h b))) ≡ with_expr (expr.Binary (binary_of m) e f) (above (max h.own k.own)) b
unfolding built raised
made_binary m e f h k b = refl

-- behind the operator and its second operand
binary_added : (place : Place) (k : Terminal) (kd : TokenKind) (bytes : List ℕ) → is_operator k ≡ true
    → ((m : Mark) (bytes : List ℕ) (b : Both) → keep (spelt k (kind.Mark m) bytes) b ≡ with_mark_on m b) → Sound place (spelt k kd bytes)
    → (b d : Both) → Adds place (keep (spelt k kd bytes) b) d
    → (e : Expr) (h : Height) (c : Both) → b ≡ with_expr e h c → Good place e h → Adds place c (make action.Binary d)
binary_added place k kd bytes o kept s b d a e h c is good =
    let m = operator_is_mark place k kd bytes (seen_as is_operator refl s o) o in
    let same : keep (spelt k kd bytes) b ≡ with_mark_on m.0 (with_expr e h c) =
    ap (λ j. keep (spelt k j bytes) b) m.1 ∙ (kept m.0 bytes b ∙ ap (with_mark_on m.0) is) in
    added place c (make action.Binary d) (expr.Binary (binary_of m.0) e a.e) (above (max h.own a.h.own)) (binary_good place (binary_of m.0) e a.e h a.h good a.good)
    (ap (make action.Binary) (a.is ∙ ap (with_expr a.e a.h) same) ∙ made_binary m.0 e a.e h a.h c)

factor_after : (place : Place) → RowIs place part.Factors terminal.Times (item.Part part.Unary ∷ item.Build action.Binary ∷ item.Part part.Factors ∷ [])
unfolding kept_as
factor_after place kd bytes s b w l = λ e h c is good.
    let x = binary_added place terminal.Times kd bytes refl (λ m bytes b. refl) s b l.0 l.1 e h c is good in
    finished place c l.2.0 w (replaced place c _ l.2.0 x l.2.1) l.2.2

sum_after : (place : Place) (k : Terminal) → is_operator k ≡ true → ((m : Mark) (bytes : List ℕ) (b : Both) → keep (spelt k (kind.Mark m) bytes) b ≡ with_mark_on m b)
    → RowIs place part.Sums k (term ++ item.Build action.Binary ∷ item.Part part.Sums ∷ [])
sum_after place k o kept kd bytes s b w l = λ e h c is good.
    let a = replaced place _ l.0 l.2.0 l.1 l.2.1 in
    let x = binary_added place k kd bytes o kept s b l.2.0 a e h c is good in
    let r = l.2.2 in
    finished place c r.0 w (replaced place c _ r.0 x r.1) r.2

compare_after : (place : Place) → RowIs place part.Compare terminal.Compares (sum ++ item.Build action.Binary ∷ [])
unfolding kept_as
compare_after place kd bytes s b w l = λ e h c is good.
    let first = replaced place _ l.0 l.2.0 l.1 l.2.1 in
    let r = l.2.2 in
    let a = replaced place _ l.2.0 r.0 first r.1 in
    finished place c _ w (binary_added place terminal.Compares kd bytes refl (λ m bytes b. refl) s b r.0 a e h c is good) r.2

and_after : (place : Place) → RowIs place part.Ands terminal.AndAnd (comp ++ item.Build action.Binary ∷ item.Part part.Ands ∷ [])
unfolding kept_as
and_after place kd bytes s b w l = λ e h c is good.
    let first = replaced place _ l.0 l.2.0 l.1 l.2.1 in
    let r = l.2.2 in
    let second = replaced place _ l.2.0 r.0 first r.1 in
    let q = r.2 in
    let a = replaced place _ r.0 q.0 second q.1 in
    let x = binary_added place terminal.AndAnd kd bytes refl (λ m bytes b. refl) s b q.0 a e h c is good in
    let o = q.2 in
    finished place c o.0 w (replaced place c _ o.0 x o.1) o.2

or_after : (place : Place) → RowIs place part.Ors terminal.OrOr (conj ++ item.Build action.Binary ∷ item.Part part.Ors ∷ [])
unfolding kept_as
or_after place kd bytes s b w l = λ e h c is good.
    let first = replaced place _ l.0 l.2.0 l.1 l.2.1 in
    let r = l.2.2 in
    let second = replaced place _ l.2.0 r.0 first r.1 in
    let q = r.2 in
    let third = replaced place _ r.0 q.0 second q.1 in
    let p = q.2 in
    let a = replaced place _ q.0 p.0 third p.1 in
    let x = binary_added place terminal.OrOr kd bytes refl (λ m bytes b. refl) s b p.0 a e h c is good in
    let o = p.2 in
    finished place c o.0 w (replaced place c _ o.0 x o.1) o.2

pub factors_rows : (place : Place) (k : Terminal) → IfRow (RowIs place part.Factors k) (row_of part.Factors k)
unfolding row_of
factors_rows place terminal.Times = factor_after place
factors_rows place other = tt

pub sums_rows : (place : Place) (k : Terminal) → IfRow (RowIs place part.Sums k) (row_of part.Sums k)
unfolding row_of kept_as
sums_rows place terminal.Plus = sum_after place terminal.Plus refl (λ m bytes b. refl)
sums_rows place terminal.Minus = sum_after place terminal.Minus refl (λ m bytes b. refl)
sums_rows place other = tt

pub compare_rows : (place : Place) (k : Terminal) → IfRow (RowIs place part.Compare k) (row_of part.Compare k)
unfolding row_of
compare_rows place terminal.Compares = compare_after place
compare_rows place other = tt

pub ands_rows : (place : Place) (k : Terminal) → IfRow (RowIs place part.Ands k) (row_of part.Ands k)
unfolding row_of
ands_rows place terminal.AndAnd = and_after place
ands_rows place other = tt

pub ors_rows : (place : Place) (k : Terminal) → IfRow (RowIs place part.Ors k) (row_of part.Ors k)
unfolding row_of
ors_rows place terminal.OrOr = or_after place
ors_rows place other = tt

-- ---- items one after the other

pub record Split (place : Place) (xs ys : List Item) (b w : Both) : Type 0 where
  pub mid : Both
  pub first : Leads place xs b mid
  pub behind : Leads place ys mid w

pub split : (place : Place) (xs ys : List Item) (b w : Both) → Leads place (xs ++ ys) b w → Split place xs ys b w
split place [] ys b w l = record { mid = b; first = refl; behind = l }
split place (item.Token k ∷ xs) ys b w l =
    let r = split place xs ys (keep (spelt k l.0 l.1) b) w l.3 in
    record { mid = r.mid; first = (l.0, l.1, l.2, r.first); behind = r.behind }
split place (item.Build a ∷ xs) ys b w l = let r = split place xs ys (make a b) w l in record { mid = r.mid; first = r.first; behind = r.behind }
split place (item.Part p ∷ xs) ys b w l = let r = split place xs ys l.0 w l.2 in record { mid = r.mid; first = (l.0, l.1, r.first); behind = r.behind }

-- ---- whole expressions

-- an operand, and what follows it in an expression
whole_row : (place : Place) (k : Terminal) (r : Option (List Item)) → IfRow (RowIs place part.Unary k) r → IfRow (RowIs place part.Expr k) (longer behind_unary r)
whole_row place k None p = tt
whole_row place k (Some row) p = λ kd bytes s b w l.
    let x = split place row behind_unary (keep (spelt k kd bytes) b) w l in
    let a = p kd bytes s b x.mid x.first in
    let f = x.behind in
    let a1 = replaced place b x.mid f.0 a f.1 in
    let g = f.2 in
    let a2 = replaced place b f.0 g.0 a1 g.1 in
    let i = g.2 in
    let a3 = replaced place b g.0 i.0 a2 i.1 in
    let j = i.2 in
    let a4 = replaced place b i.0 j.0 a3 j.1 in
    let n = j.2 in
    let a5 = replaced place b j.0 n.0 a4 n.1 in
    finished place b n.0 w a5 n.2

pub expr_rows : (place : Place) (k : Terminal) → IfRow (RowIs place part.Expr k) (row_of part.Expr k)
expr_rows place k = subst (IfRow (RowIs place part.Expr k)) (sym (rows k)) (whole_row place k (row_of part.Unary k) (unary_rows place k))
