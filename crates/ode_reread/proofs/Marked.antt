-- The tokens of printed expressions, and what they do.
use Rattle.std.proofs.Common.{◌≡◌, ℕ, Bool, true, false, cond, List, [], ◌∷◌, ◌++◌, Some, refl}
use Rattle.std.proofs.lemmas.Bool.{false≢true}
use Rattle.ode_lex.specs.Marks.{spelled_mark}
use Rattle.ode_lex.specs.declared.token.Mark.{Mark}
use Rattle.ode_lex.specs.declared.token.Mark.TheVariants as mark
use Rattle.ode_lex.specs.declared.token.TokenKind.{TokenKind}
use Rattle.ode_lex.specs.declared.token.TokenKind.TheVariants as kind
use Rattle.ode_grammar.specs.declared.item.Part.TheVariants as part
use Rattle.ode_grammar.specs.declared.item.Action.TheVariants as action
use Rattle.ode_grammar.specs.declared.item.Item.TheVariants as item
use Rattle.ode_grammar.specs.declared.terminal.Terminal.{Terminal}
use Rattle.ode_grammar.specs.declared.terminal.Terminal.TheVariants as terminal
use Rattle.ode_grammar.specs.Grammar.{after, row_of}
use Rattle.ode_grammar.specs.Terminals.{named}
use Rattle.ode_heights.specs.declared.height.Height.{Height}
use Rattle.ode_terminals.specs.Seen.{mark_terminal}
use Rattle.ode_value.specs.declared.operator.BinOp.{BinOp}
use Rattle.ode_value.specs.declared.operator.BinOp.TheVariants as binary
use Rattle.ode_value.specs.declared.operator.UnOp.{UnOp}
use Rattle.ode_value.specs.declared.operator.UnOp.TheVariants as unary
use Rattle.ode_value.specs.declared.statement.Expr.{Expr}
use Rattle.ode_syntax.specs.declared.trees.Trees.{Trees}
use Rattle.ode_syntax.specs.Kept.{Spelled, kept_as, leaf_of, name_of, with_leaf}
use Rattle.ode_reread.proofs.Both.{Both}

-- the token of a mark
abbrev pub marked : Mark → Spelled
marked m = record { terminal = mark_terminal m; kind = kind.Mark m; bytes = spelled_mark m }

abbrev pub sign_mark : UnOp → Mark
sign_mark unary.Minus = mark.Minus
sign_mark unary.Not = mark.Not

abbrev pub operator_mark : BinOp → Mark
operator_mark binary.Add = mark.Plus
operator_mark binary.Sub = mark.Minus
operator_mark binary.Mul = mark.Star
operator_mark binary.Div = mark.Slash
operator_mark binary.Rem = mark.Percent
operator_mark binary.Eq = mark.Equal
operator_mark binary.Ne = mark.NotEqual
operator_mark binary.Lt = mark.Less
operator_mark binary.Le = mark.LessEqual
operator_mark binary.Gt = mark.Greater
operator_mark binary.Ge = mark.GreaterEqual
operator_mark binary.And = mark.AndAnd
operator_mark binary.Or = mark.OrOr

abbrev pub bracketed : List Spelled → List Spelled
bracketed ts = marked mark.OpenParen ∷ ts ++ marked mark.CloseParen ∷ []

-- an operator stands in brackets where it is an operand, round which they count nothing
abbrev pub as_operand : Bool → List Spelled → List Spelled
as_operand is_operator ts = cond is_operator (bracketed ts) ts

abbrev pub operand_height : Bool → Height → Height
operand_height is_operator h = cond is_operator (record { own = h.own; bare = true }) h

-- with this expression on top
abbrev pub with_expr : Expr → Height → Both → Both
with_expr e h b =
    record {
      trees = record b.trees { exprs = e ∷ b.trees.exprs };
      heights = record b.heights { shaped = h ∷ b.heights.shaped };
    }

abbrev pub with_name : List ℕ → Both → Both
with_name name b = record { trees = record b.trees { names = name ∷ b.trees.names }; heights = b.heights }

abbrev pub with_mark_on : Mark → Both → Both
with_mark_on m b = record { trees = record b.trees { marks = m ∷ b.trees.marks }; heights = b.heights }

-- ---- leaves

-- the terminals of leaves
abbrev pub is_leaf : Terminal → Bool
is_leaf terminal.Leaf = true
is_leaf terminal.Number = true
is_leaf terminal.Seconds = true
is_leaf terminal.Count = true
is_leaf terminal.Text = true
is_leaf terminal.Instant = true
is_leaf other = false

pub leaf_row : (k : Terminal) → is_leaf k ≡ true → after part.Unary k ≡ Some (item.Build action.Leaf ∷ item.Part part.Dots ∷ [])
unfolding row_of
leaf_row terminal.Leaf h = refl
leaf_row terminal.Number h = refl
leaf_row terminal.Seconds h = refl
leaf_row terminal.Count h = refl
leaf_row terminal.Text h = refl
leaf_row terminal.Instant h = refl
leaf_row other h = absurd (false≢true h)

pub leaf_kept : (k : Terminal) (kd : TokenKind) (bytes : List ℕ) (v : Trees) → is_leaf k ≡ true → kept_as (named k) kd bytes v ≡ with_leaf kd bytes v
unfolding kept_as
leaf_kept terminal.Leaf kd bytes v h = refl
leaf_kept terminal.Number kd bytes v h = refl
leaf_kept terminal.Seconds kd bytes v h = refl
leaf_kept terminal.Count kd bytes v h = refl
leaf_kept terminal.Text kd bytes v h = refl
leaf_kept terminal.Instant kd bytes v h = refl
leaf_kept other kd bytes v h = absurd (false≢true h)

-- the token is a leaf of this tree
pub record IsLeaf (t : Spelled) (e : Expr) : Type 0 where
  pub seen : is_leaf t.terminal ≡ true
  pub says : leaf_of t.kind t.bytes ≡ e

-- the token is this name
pub record IsNamed (t : Spelled) (name : List ℕ) : Type 0 where
  pub seen : named t.terminal ≡ terminal.Name
  pub says : name_of t.bytes ≡ name
