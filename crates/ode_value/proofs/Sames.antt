-- Kinds, values, operators and expressions that pass for the same are the same.
use Rattle.std.proofs.Common.{◌≡◌, ℕ, List, [], ◌∷◌, Bool, true, false, Some, None, Option, refl, ap, sym, ◌∙◌, subst}
use Rattle.std.specs.Prelude.{◌&&◌, ◌==◌, slice_index_or}
use Rattle.std.specs.Bool.{Decides}
use Rattle.std.specs.Str.{bytes_eq}
use Rattle.std.proofs.lemmas.Bool.{and_from, and_parts}
use Rattle.std.proofs.lemmas.Bool.Decides.{Decides-eqb, Decides-int_eq}
use Rattle.std.proofs.lemmas.Slice.Eq.{bytes_eq-Decides}
use Rattle.ode_value.specs.declared.event.Kind.{Kind}
use Rattle.ode_value.specs.declared.event.Kind.TheVariants as kind
use Rattle.ode_value.specs.declared.operator.BinOp.{BinOp}
use Rattle.ode_value.specs.declared.operator.BinOp.TheVariants as binary
use Rattle.ode_value.specs.declared.operator.UnOp.{UnOp}
use Rattle.ode_value.specs.declared.operator.UnOp.TheVariants as unary
use Rattle.ode_value.specs.declared.statement.Expr.{Expr, out-Expr, roll-Expr, out-roll-Expr, roll-out-Expr, fold-roll-Expr, fold_out-Expr, the_lemmas, map-Expr, ind-Expr}
use Rattle.ode_value.specs.declared.statement.Expr.TheOpen as expr
use Rattle.ode_value.specs.declared.statement.Expr.TheVariants as v
use Rattle.ode_value.specs.declared.value.Ref.{Ref}
use Rattle.ode_value.specs.declared.value.Value.{Value}
use Rattle.ode_value.specs.declared.value.Value.TheVariants as value
use Rattle.ode_value.specs.Same.{same_kind, same_bool, same_version, same_value, same_unary, place_of, same_binary, same_expr_of, same_expr}

pub kind-same : (k l : Kind) → same_kind k l ≡ true → k ≡ l
kind-same kind.Create kind.Create h = refl
kind-same kind.Delete kind.Delete h = refl
kind-same kind.NewVersion kind.NewVersion h = refl
kind-same kind.DropVersion kind.DropVersion h = refl
kind-same (kind.Before m) (kind.Before n) h = ap kind.Before ((bytes_eq-Decides m n).0 h)
kind-same (kind.After m) (kind.After n) h = ap kind.After ((bytes_eq-Decides m n).0 h)
kind-same kind.TBegin kind.TBegin h = refl
kind-same kind.TComplete kind.TComplete h = refl
kind-same kind.TCommit kind.TCommit h = refl
kind-same kind.TAbort kind.TAbort h = refl
kind-same (kind.TimeEvery m) (kind.TimeEvery n) h = ap kind.TimeEvery ((Decides-eqb m n).0 h)
kind-same (kind.TimeAt m) (kind.TimeAt n) h = ap kind.TimeAt ((Decides-int_eq m n).0 h)
kind-same _ _ h = cc

bool-same : (b c : Bool) → same_bool b c ≡ true → b ≡ c
bool-same false false h = refl
bool-same false true h = cc
bool-same true false h = cc
bool-same true true h = refl

version-same : (m n : Option ℕ) → same_version m n ≡ true → m ≡ n
version-same None None h = refl
version-same (Some m) (Some n) h = ap Some ((Decides-eqb m n).0 h)
version-same _ _ h = cc

ref-same : (r s : Ref) → ((r.object == s.object) && same_version r.version s.version) ≡ true → r ≡ s
ref-same r s h =
    let parts = and_parts (r.object == s.object) (same_version r.version s.version) h in
    let object = (Decides-eqb r.object s.object).0 parts.0 in
    let version = version-same r.version s.version parts.1 in
    λ i. record { object = object i; version = version i }

value-same : (v w : Value) → same_value v w ≡ true → v ≡ w
value-same (value.Int m) (value.Int n) h = ap value.Int ((Decides-int_eq m n).0 h)
value-same (value.Bool b) (value.Bool c) h = ap value.Bool (bool-same b c h)
value-same (value.Text s) (value.Text t) h = ap value.Text ((bytes_eq-Decides s t).0 h)
value-same (value.Reference r) (value.Reference s) h = ap value.Reference (ref-same r s h)
value-same _ _ h = cc

unary-same : (o p : UnOp) → same_unary o p ≡ true → o ≡ p
unary-same unary.Minus unary.Minus h = refl
unary-same unary.Not unary.Not h = refl
unary-same _ _ h = cc

abbrev operators : List BinOp
operators =
    binary.Add ∷ binary.Sub ∷ binary.Mul ∷ binary.Div ∷ binary.Rem ∷ binary.Eq ∷ binary.Ne ∷ binary.Lt ∷ binary.Le ∷ binary.Gt ∷ binary.Ge ∷ binary.And ∷ []

-- the operator at a place
abbrev operator_at : ℕ → BinOp
operator_at n = slice_index_or operators n binary.Or

at-place : (o : BinOp) → operator_at (place_of o) ≡ o
at-place binary.Add = refl
at-place binary.Sub = refl
at-place binary.Mul = refl
at-place binary.Div = refl
at-place binary.Rem = refl
at-place binary.Eq = refl
at-place binary.Ne = refl
at-place binary.Lt = refl
at-place binary.Le = refl
at-place binary.Gt = refl
at-place binary.Ge = refl
at-place binary.And = refl
at-place binary.Or = refl

binary-same : (o p : BinOp) → same_binary o p ≡ true → o ≡ p
binary-same o p h = sym (at-place o) ∙ ap operator_at ((Decides-eqb (place_of o) (place_of p)).0 h) ∙ at-place p

-- what an induction shows of an expression
abbrev Tells : Expr → Type 0
Tells e = (f : Expr) → same_expr e f ≡ true → e ≡ f

abbrev Told : Type 0
Told = (e : Expr) × Tells e

abbrev expr_of : Told → Expr
expr_of x = x.0

pub same_expr-roll : (d : expr.Expr-F Expr) (f : Expr) → same_expr (roll-Expr d) f ≡ same_expr_of (map-Expr Expr (Expr → Bool) same_expr d) (out-Expr f)
unfolding same_expr
same_expr-roll d f = ap (λ g. g f) (fold-roll-Expr (Expr → Bool) (λ x y. same_expr_of x (out-Expr y)) d)

level-same : (y : expr.Expr-F Told) (d : expr.Expr-F Expr) → same_expr_of (map-Expr Expr (Expr → Bool) same_expr (map-Expr Told Expr expr_of y)) d ≡ true → map-Expr Told Expr expr_of y ≡ d
level-same (expr.Lit v) (expr.Lit w) h = ap expr.Lit (value-same v w h)
level-same (expr.Name m) (expr.Name n) h = ap expr.Name ((bytes_eq-Decides m n).0 h)
level-same (expr.Local m) (expr.Local n) h = ap expr.Local ((Decides-eqb m n).0 h)
level-same (expr.Own m) (expr.Own n) h = ap expr.Own ((Decides-eqb m n).0 h)
level-same expr.This expr.This h = refl
level-same (expr.Slot e m) (expr.Slot f n) h =
    let parts = and_parts (same_expr e.0 f) (m == n) h in
    ap (λ x. expr.Slot x m) (e.1 f parts.0) ∙ ap (expr.Slot f) ((Decides-eqb m n).0 parts.1)
level-same (expr.Version e) (expr.Version f) h = ap expr.Version (e.1 f h)
level-same (expr.Unary o e) (expr.Unary p f) h =
    let parts = and_parts (same_unary o p) (same_expr e.0 f) h in
    ap (λ x. expr.Unary x e.0) (unary-same o p parts.0) ∙ ap (expr.Unary p) (e.1 f parts.1)
level-same (expr.Binary o e g) (expr.Binary p f h) is =
    let parts = and_parts (same_binary o p) (same_expr e.0 f && same_expr g.0 h) is in
    let more = and_parts (same_expr e.0 f) (same_expr g.0 h) parts.1 in
    ap (λ x. expr.Binary x e.0 g.0) (binary-same o p parts.0) ∙ ap (λ x. expr.Binary p x g.0) (e.1 f more.0) ∙ ap (expr.Binary p f) (g.1 h more.1)
level-same (expr.Field e m) (expr.Field f n) h =
    let parts = and_parts (same_expr e.0 f) (bytes_eq m n) h in
    ap (λ x. expr.Field x m) (e.1 f parts.0) ∙ ap (expr.Field f) ((bytes_eq-Decides m n).0 parts.1)
level-same _ _ h = cc

pub expr-same : (e f : Expr) → same_expr e f ≡ true → e ≡ f
expr-same = ind-Expr Tells (λ x y q. subst (λ d. Tells (roll-Expr d)) q (here y)) where
  here : (y : expr.Expr-F Told) → Tells (roll-Expr (map-Expr Told Expr expr_of y))
  here y f h =
      let d = map-Expr Told Expr expr_of y in
      ap roll-Expr (level-same y (out-Expr f) (sym (same_expr-roll d f) ∙ h)) ∙ roll-out-Expr f

-- ---- and each passes for itself

bytes-itself : (s : List ℕ) → bytes_eq s s ≡ true
bytes-itself s = (bytes_eq-Decides s s).1 refl

number-itself : (n : ℕ) → (n == n) ≡ true
number-itself n = (Decides-eqb n n).1 refl

pub kind-itself : (k : Kind) → same_kind k k ≡ true
kind-itself kind.Create = refl
kind-itself kind.Delete = refl
kind-itself kind.NewVersion = refl
kind-itself kind.DropVersion = refl
kind-itself (kind.Before m) = bytes-itself m
kind-itself (kind.After m) = bytes-itself m
kind-itself kind.TBegin = refl
kind-itself kind.TComplete = refl
kind-itself kind.TCommit = refl
kind-itself kind.TAbort = refl
kind-itself (kind.TimeEvery n) = number-itself n
kind-itself (kind.TimeAt n) = (Decides-int_eq n n).1 refl

bool-itself : (b : Bool) → same_bool b b ≡ true
bool-itself false = refl
bool-itself true = refl

version-itself : (v : Option ℕ) → same_version v v ≡ true
version-itself None = refl
version-itself (Some n) = number-itself n

value-itself : (v : Value) → same_value v v ≡ true
value-itself (value.Int n) = (Decides-int_eq n n).1 refl
value-itself (value.Bool b) = bool-itself b
value-itself (value.Text s) = bytes-itself s
value-itself (value.Reference r) = and_from (r.object == r.object) (same_version r.version r.version) (number-itself r.object) (version-itself r.version)

unary-itself : (op : UnOp) → same_unary op op ≡ true
unary-itself unary.Minus = refl
unary-itself unary.Not = refl

abbrev Itself : Type 0
Itself = (e : Expr) × (same_expr e e ≡ true)

abbrev itself_of : Itself → Expr
itself_of x = x.0

level-itself : (y : expr.Expr-F Itself) → same_expr_of (map-Expr Expr (Expr → Bool) same_expr (map-Expr Itself Expr itself_of y)) (map-Expr Itself Expr itself_of y) ≡ true
level-itself (expr.Lit v) = value-itself v
level-itself (expr.Name name) = bytes-itself name
level-itself (expr.Local place) = number-itself place
level-itself (expr.Own place) = number-itself place
level-itself expr.This = refl
level-itself (expr.Slot e place) = and_from (same_expr e.0 e.0) (place == place) e.1 (number-itself place)
level-itself (expr.Version e) = e.1
level-itself (expr.Unary op e) = and_from (same_unary op op) (same_expr e.0 e.0) (unary-itself op) e.1
level-itself (expr.Binary op e f) =
    and_from (same_binary op op) (same_expr e.0 e.0 && same_expr f.0 f.0) (number-itself (place_of op)) (and_from (same_expr e.0 e.0) (same_expr f.0 f.0) e.1 f.1)
level-itself (expr.Field e name) = and_from (same_expr e.0 e.0) (bytes_eq name name) e.1 (bytes-itself name)

pub expr-itself : (e : Expr) → same_expr e e ≡ true
expr-itself = ind-Expr (λ e. same_expr e e ≡ true) (λ x y q. subst (λ d. same_expr (roll-Expr d) (roll-Expr d) ≡ true) q (here y)) where
  here : (y : expr.Expr-F Itself) → same_expr (roll-Expr (map-Expr Itself Expr itself_of y)) (roll-Expr (map-Expr Itself Expr itself_of y)) ≡ true
  here y =
      let d = map-Expr Itself Expr itself_of y in
      same_expr-roll d (roll-Expr d) ∙ ap (same_expr_of (map-Expr Expr (Expr → Bool) same_expr d)) (out-roll-Expr d) ∙ level-itself y

-- so the tests decide
pub kind_decides : (k l : Kind) → Decides (same_kind k l) (k ≡ l)
kind_decides k l = (kind-same k l, λ p. subst (λ x. same_kind k x ≡ true) p (kind-itself k))

pub expr_decides : (e f : Expr) → Decides (same_expr e f) (e ≡ f)
expr_decides e f = (expr-same e f, λ p. subst (λ x. same_expr e x ≡ true) p (expr-itself e))

-- literals, as clauses name them
pub same_lits : (x y : Value) → same_expr (v.Lit x) (v.Lit y) ≡ same_value x y
same_lits x y =
    ap (λ e. same_expr e (v.Lit y)) (sym (v.rolls-Lit x)) ∙ same_expr-roll (expr.Lit x) (v.Lit y)
    ∙ ap (same_expr_of (map-Expr Expr (Expr → Bool) same_expr (expr.Lit x))) (v.outs-Lit y)

-- by one level of each expression
pub same_out : (e f : Expr) → same_expr e f ≡ same_expr_of (map-Expr Expr (Expr → Bool) same_expr (out-Expr e)) (out-Expr f)
unfolding same_expr
same_out e f = ap (λ g. g f) (fold_out-Expr (Expr → Bool) (λ x y. same_expr_of x (out-Expr y)) e)

pub ruleset same_exprs = (the_lemmas, same_out)
