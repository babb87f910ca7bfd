-- Fields that are added to a class, as they are read: names, sorts, and literals in their ranges.
use Rattle.std.proofs.Common.{◌≡◌, ◌<◌, ◌^◌, ℕ, Bool, true, false, cond, codes, ℤ, pos, List, None, refl, sym, subst, arith}
use Rattle.std.specs.Prelude.{◌-ℤ◌, FitsSigned, int_lt}
use Rattle.std.specs.Int.{w64}
use Rattle.std.specs.Str.{bytes_eq}
use Rattle.std.proofs.lemmas.Int.{ints}
use Rattle.ode_lex.specs.declared.token.TokenKind.{TokenKind}
use Rattle.ode_lex.specs.declared.token.TokenKind.TheVariants as kind
use Rattle.ode_value.specs.Words.{is_free}
use Rattle.ode_value.specs.declared.change.Change.{Change}
use Rattle.ode_value.specs.declared.statement.Expr.{Expr}
use Rattle.ode_value.specs.declared.statement.Expr.TheVariants as expr
use Rattle.ode_value.specs.declared.statement.Sort.{Sort}
use Rattle.ode_value.specs.declared.value.Value.{Value}
use Rattle.ode_value.specs.declared.value.Value.TheVariants as value
use Rattle.ode_syntax.specs.Built.{below_zero, negative, value_of}
use Rattle.ode_syntax.specs.Kept.{content_of, is_text, leaf_of, word_leaf}
use Rattle.ode_reread.proofs.Leaves.{is_a_text}
use Rattle.ode_reread.proofs.Sounds.{SoundKind}
use Rattle.ode_reread_classes.proofs.Lists.{Each}
use Rattle.ode_reread_classes.proofs.Members.{GoodSort}

-- what a literal says: a number has 64 bits, and a text holds what a text may
abbrev pub GoodValue : Value → Type 0
GoodValue (value.Int n) = FitsSigned w64 n
GoodValue (value.Text t) = is_text t ≡ true
GoodValue (value.Bool b) = Unit {0}
GoodValue (value.Reference r) = Unit {0}

abbrev pub GoodLeaf : Expr → Type 0
GoodLeaf e = GoodValue (value_of e)

pub record GoodField (f : List ℕ × Sort × Value) : Type 0 where
  pub free : is_free f.0 ≡ true
  pub sort : GoodSort f.1
  pub value : GoodValue f.2

pub record GoodChange (c : Change) : Type 0 where
  pub free : is_free c.class ≡ true
  pub fields : Each GoodField c.fields

-- ---- leaves

zero_fits : FitsSigned w64 (pos 0)
zero_fits = grind (arith, ints)

number_fits : (m : ℕ) → m < 2 ^ 63 → FitsSigned w64 (pos m)
number_fits m less = grind (arith, ints)

good_either : (c : Bool) (e f : Expr) → GoodLeaf e → GoodLeaf f → GoodLeaf (cond c e f)
good_either true e f g h = g
good_either false e f g h = h

abbrev yes_leaf : Expr
yes_leaf = expr.Lit (value.Bool true)

abbrev no_leaf : Expr
no_leaf = expr.Lit (value.Bool false)

abbrev null_leaf : Expr
null_leaf = expr.Lit (value.Reference (record { object = 0; version = None }))

word_value : (bytes : List ℕ) → GoodLeaf (word_leaf bytes)
word_value bytes =
    let null = bytes_eq bytes (codes "null") in
    let no = bytes_eq bytes (codes "false") in
    good_either (bytes_eq bytes (codes "true")) yes_leaf (cond no no_leaf (cond null null_leaf expr.This)) tt
    (good_either no no_leaf (cond null null_leaf expr.This) tt (good_either null null_leaf expr.This tt zero_fits))

pub leaf_value : (kd : TokenKind) (bytes : List ℕ) → SoundKind kd → GoodLeaf (leaf_of kd bytes)
leaf_value kind.Word bytes s = word_value bytes
leaf_value (kind.Number n) bytes s = subst (FitsSigned w64) (sym s.1) (number_fits s.0 s.2)
leaf_value kind.Text bytes s = is_a_text (content_of bytes)
leaf_value (kind.Reference r) bytes s = tt
leaf_value (kind.Mark m) bytes s = zero_fits

-- ---- behind a minus

below_fits : (n : ℤ) → FitsSigned w64 n → FitsSigned w64 (below_zero n)
below_fits n fits = by_sign (int_lt n (pos 0)) refl where
  by_sign : (b : Bool) → int_lt n (pos 0) ≡ b → FitsSigned w64 (cond b n (pos 0 -ℤ n))
  by_sign true is = fits
  by_sign false is = grind (arith, ints)

pub negative_good : (e : Expr) → GoodLeaf e → GoodLeaf (negative e)
negative_good (expr.Lit (value.Int n)) h = below_fits n h
negative_good (expr.Lit (value.Bool b)) h = h
negative_good (expr.Lit (value.Text t)) h = h
negative_good (expr.Lit (value.Reference r)) h = h
negative_good other h = h
