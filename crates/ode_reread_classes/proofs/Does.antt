-- What a text of each part does to the trees and heights: it adds something good, or replaces what is on top by something good.
use Rattle.std.proofs.Common.{◌≡◌, ◌≤◌, ℕ, true, List, [], ◌∷◌, ◌++◌, length, Some, refl, sym, subst}
use Rattle.ode_lex.specs.declared.token.Mark.{Mark}
use Rattle.ode_lex.specs.declared.token.TokenKind.{TokenKind}
use Rattle.ode_grammar.specs.declared.item.Item.{Item}
use Rattle.ode_grammar.specs.declared.item.Item.TheVariants as item
use Rattle.ode_grammar.specs.declared.item.Part.{Part}
use Rattle.ode_grammar.specs.declared.item.Part.TheVariants as part
use Rattle.ode_grammar.specs.declared.terminal.Terminal.{Terminal}
use Rattle.ode_grammar.specs.Grammar.{row_of}
use Rattle.ode_heights.specs.declared.height.Height.{Height}
use Rattle.ode_terminals.specs.declared.seen.Place.{Place}
use Rattle.ode_value.specs.Words.{is_free}
use Rattle.ode_value.specs.declared.change.Change.{Change}
use Rattle.ode_value.specs.declared.event.Kind.{Kind}
use Rattle.ode_value.specs.declared.binding.Param.{Param}
use Rattle.ode_value.specs.declared.statement.Expr.{Expr}
use Rattle.ode_value.specs.declared.statement.Member.{Member}
use Rattle.ode_value.specs.declared.statement.Sort.{Sort}
use Rattle.ode_reread.proofs.AllRows.{row_is}
use Rattle.ode_reread.proofs.Both.{Both, keep, make}
use Rattle.ode_reread.proofs.Effects.{spelt, Adds, Effect, Leads, Replaces}
use Rattle.ode_reread.proofs.Goods.{Good}
use Rattle.ode_reread.proofs.Marked.{with_expr, with_mark_on, with_name}
use Rattle.ode_reread.proofs.Sounds.{Sound}
use Rattle.ode_value.specs.declared.statement.Statement.{Statement}
use Rattle.ode_value.specs.declared.statement.Statement.TheVariants as statement
use Rattle.ode_reread.proofs.EventPrints.{with_leaf_on}
use Rattle.ode_reread_classes.proofs.Additions.{GoodChange, GoodLeaf}
use Rattle.ode_reread_classes.proofs.Classes.{GoodClass, GoodParent}
use Rattle.ode_reread_classes.proofs.Lists.{Each}
use Rattle.ode_reread_classes.proofs.Members.{GoodKinds, GoodMember, GoodParam, GoodParams, GoodSort}
use Rattle.ode_reread_classes.proofs.Parts.{GoodArgs, GoodOwned, GoodRight, GoodSets}
use Rattle.ode_reread_classes.proofs.Puts.{with_args, with_body, with_change, with_class, with_flag, with_kinds, with_members, with_mode, with_params, with_parent, with_right, with_script, with_sets, with_sort, with_stmt}
use Rattle.ode_reread_classes.proofs.Statements.{GoodAlone, GoodBody, GoodElse, GoodStmt}

-- one more that is good
pub record Gives {X : Type 0} (put : X → Both → Both) (P : X → Type 0) (b w : Both) : Type 0 where
  pub x : X
  pub good : P x
  pub is : w ≡ put x b

-- and one with a height
pub record Raises {X : Type 0} (put : X → ℕ → Both → Both) (P : ℕ → X → Type 0) (b w : Both) : Type 0 where
  pub x : X
  pub n : ℕ
  pub good : P n x
  pub is : w ≡ put x n b

-- a good one in place of that on top
abbrev pub Changes : {X : Type 0} → (X → ℕ → Both → Both) → (ℕ → X → Type 0) → Both → Both → Type 0
Changes {X} put P b w = (x : X) (n : ℕ) (c : Both) → b ≡ put x n c → P n x → Raises put P c w

pub given_by : {X : Type 0} {put : X → Both → Both} {P : X → Type 0} {b c w : Both} → Gives put P b c → c ≡ w → Gives put P b w
given_by {put = put} {P = P} {b = b} a e = subst (λ x. Gives put P b x) e a

pub raised_by : {X : Type 0} {put : X → ℕ → Both → Both} {P : ℕ → X → Type 0} {b c w : Both} → Raises put P b c → c ≡ w → Raises put P b w
raised_by {put = put} {P = P} {b = b} a e = subst (λ x. Raises put P b x) e a

-- a call by a reference
pub record AddsCall (place : Place) (b w : Both) : Type 0 where
  pub e : Expr
  pub h : Height
  pub name : List ℕ
  pub args : List Expr
  pub n : ℕ
  pub good : Good place e h
  pub free : is_free name ≡ true
  pub goods : GoodArgs place n args
  pub is : w ≡ with_args args n (with_name name (with_expr e h b))

abbrev pub AddsRight : Place → Both → Both → Type 0
AddsRight place b w = Raises with_right (GoodRight place) b w

abbrev pub AddsOwned : Place → Both → Both → Type 0
AddsOwned place b w = Raises with_right (GoodOwned place) b w

abbrev pub unowned : {place : Place} {b w : Both} → AddsOwned place b w → AddsRight place b w
unowned a = record { x = a.x; n = a.n; good = a.good.0; is = a.is }

abbrev pub AddsStmt : Place → Both → Both → Type 0
AddsStmt place b w = Raises with_stmt (GoodStmt place) b w

abbrev pub GoodMembers : Place → ℕ → List Member → Type 0
GoodMembers place n ms = Each (GoodMember place n) ms

-- parameters, so many of them at most before
abbrev pub ChangesParams : ℕ → Both → Both → Type 0
ChangesParams k b w = (xs : List Param) (c : Both) → b ≡ with_params xs c → length xs ≤ k → Each GoodParam xs → Gives with_params GoodParams c w

-- a statement of a script, as far as one is printed
abbrev pub GoodScript : Place → ℕ → Statement → Type 0
GoodScript place n (statement.Simple s) = GoodAlone place n s
GoodScript place n (statement.Class c) = GoodClass place n c
GoodScript place n other = Unit {0}

abbrev pub AddsScript : Place → Both → Both → Type 0
AddsScript place b w = Raises with_script (GoodScript place) b w

abbrev pub News : Place → Part → Both → Both → Type 0
News place part.Args b w = Changes with_args (GoodArgs place) b w
News place part.MoreArgs b w = Changes with_args (GoodArgs place) b w
News place part.Sets b w = Changes with_sets (GoodSets place) b w
News place part.MoreSets b w = Changes with_sets (GoodSets place) b w
News place part.Chained b w = AddsCall place b w
News place part.CallDot b w = (m : List ℕ) (e : Expr) (h : Height) (c : Both) → b ≡ with_name m (with_expr e h c) → is_free m ≡ true → Good place e h → AddsCall place c w
News place part.Rhs b w = AddsRight place b w
News place part.ScriptRhs b w = AddsOwned place b w
News place part.RhsDots b w = (e : Expr) (h : Height) (c : Both) → b ≡ with_expr e h c → Good place e h → AddsOwned place c w
News place part.RhsDot b w = (m : List ℕ) (e : Expr) (h : Height) (c : Both) → b ≡ with_name m (with_expr e h c) → is_free m ≡ true → Good place e h → AddsOwned place c w
News place part.RhsName b w = (m : List ℕ) (c : Both) → b ≡ with_name m c → is_free m ≡ true → AddsRight place c w
News place part.Inners b w = Changes with_body (GoodBody place) b w
News place part.InnerName b w = (m : List ℕ) (c : Both) → b ≡ with_name m c → is_free m ≡ true → AddsStmt place c w
News place part.ReturnValue b w = AddsStmt place b w
News place part.Else b w = Raises with_body (GoodElse place) b w
News place part.Sort b w = Gives with_sort GoodSort b w
News place part.Params b w = ChangesParams 0 b w
News place part.SecondParam b w = ChangesParams 1 b w
News place part.ThirdParam b w = ChangesParams 2 b w
News place part.FourthParam b w = ChangesParams 3 b w
News place part.FifthParam b w = ChangesParams 4 b w
News place part.SixthParam b w = ChangesParams 5 b w
News place part.SeventhParam b w = ChangesParams 6 b w
News place part.EighthParam b w = ChangesParams 7 b w
News place part.NinthParam b w = ChangesParams 8 b w
News place part.TenthParam b w = ChangesParams 9 b w
News place part.EleventhParam b w = ChangesParams 10 b w
News place part.TwelfthParam b w = ChangesParams 11 b w
News place part.ThirteenthParam b w = ChangesParams 12 b w
News place part.FourteenthParam b w = ChangesParams 13 b w
News place part.FifteenthParam b w = ChangesParams 14 b w
News place part.SixteenthParam b w = ChangesParams 15 b w
News place part.MoreKinds b w = (xs : List Kind) (c : Both) → b ≡ with_kinds xs c → GoodKinds place xs → Gives with_kinds (GoodKinds place) c w
News place part.Initial b w = Gives with_flag (λ f. Unit {0}) b w
News place part.Lasting b w = Gives with_flag (λ f. Unit {0}) b w
News place part.Scope b w = Gives with_flag (λ f. Unit {0}) b w
News place part.Mode b w = Gives with_mode (λ m. Unit {0}) b w
News place part.Parent b w = Gives with_parent GoodParent b w
News place part.Members b w = Changes with_members (GoodMembers place) b w
News place part.FieldOrMethod b w =
    (m : List ℕ) (s : Sort) (ms : List Member) (n : ℕ) (c : Both) → b ≡ with_name m (with_sort s (with_members ms n c)) → is_free m ≡ true → GoodSort s → GoodMembers place n ms
    → Raises with_members (GoodMembers place) c w
News place part.Class b w = Raises with_class (GoodClass place) b w
News place part.ClockText b w = (x : Expr) × (w ≡ with_leaf_on x b)
News place part.Statement b w = AddsScript place b w
News place part.Literal b w = Gives with_leaf_on GoodLeaf b w
News place part.Negative b w = (m : Mark) (c : Both) → b ≡ with_mark_on m c → Gives with_leaf_on GoodLeaf c w
News place part.Additions b w = (x : Change) (c : Both) → b ≡ with_change x c → GoodChange x → Gives with_change GoodChange c w
News place other b w = Unit {0}

-- what items do, one after the other
abbrev pub Does : Place → List Item → Both → Both → Type 0
Does place [] b w = b ≡ w
Does place (item.Token k ∷ items) b w =
    (kd : TokenKind) × (bytes : List ℕ) × Sound place (spelt k kd bytes) × Does place items (keep (spelt k kd bytes) b) w
Does place (item.Build a ∷ items) b w = Does place items (make a b) w
Does place (item.Part p ∷ items) b w = (c : Both) × (Effect place p b c × News place p b c) × Does place items c w

-- what a row does behind its token
abbrev pub RowDoes : Place → Part → Terminal → List Item → Type 0
RowDoes place p k row = (kd : TokenKind) (bytes : List ℕ) → Sound place (spelt k kd bytes) → (b w : Both) → Does place row (keep (spelt k kd bytes) b) w → News place p b w

-- what was known before
pub old : (place : Place) (items : List Item) (b w : Both) → Does place items b w → Leads place items b w
old place [] b w l = l
old place (item.Token k ∷ items) b w l = (l.0, l.1, l.2, old place items (keep (spelt k l.0 l.1) b) w l.3)
old place (item.Build a ∷ items) b w l = old place items (make a b) w l
old place (item.Part p ∷ items) b w l = (l.0, l.1.0, old place items l.0 w l.2)

-- ---- items one after the other

pub record Parted (place : Place) (xs ys : List Item) (b w : Both) : Type 0 where
  pub mid : Both
  pub first : Does place xs b mid
  pub behind : Does place ys mid w

pub parted : (place : Place) (xs ys : List Item) (b w : Both) → Does place (xs ++ ys) b w → Parted place xs ys b w
parted place [] ys b w l = record { mid = b; first = refl; behind = l }
parted place (item.Token k ∷ xs) ys b w l =
    let r = parted place xs ys (keep (spelt k l.0 l.1) b) w l.3 in
    record { mid = r.mid; first = (l.0, l.1, l.2, r.first); behind = r.behind }
parted place (item.Build a ∷ xs) ys b w l = let r = parted place xs ys (make a b) w l in record { mid = r.mid; first = r.first; behind = r.behind }
parted place (item.Part p ∷ xs) ys b w l = let r = parted place xs ys l.0 w l.2 in record { mid = r.mid; first = (l.0, l.1, r.first); behind = r.behind }

then_leads : (place : Place) (xs ys : List Item) (b mid w : Both) → Leads place xs b mid → Leads place ys mid w → Leads place (xs ++ ys) b w
then_leads place [] ys b mid w l m = subst (λ x. Leads place ys x w) (sym l) m
then_leads place (item.Token k ∷ xs) ys b mid w l m = (l.0, l.1, l.2, then_leads place xs ys (keep (spelt k l.0 l.1) b) mid w l.3 m)
then_leads place (item.Build a ∷ xs) ys b mid w l m = then_leads place xs ys (make a b) mid w l m
then_leads place (item.Part p ∷ xs) ys b mid w l m = (l.0, l.1, then_leads place xs ys l.0 mid w l.2 m)

-- what begins an operand adds a good expression, before any dots
pub fronted : (place : Place) → (k : Terminal) (pre : List Item) → row_of part.Unary k ≡ Some (pre ++ item.Part part.Dots ∷ [])
    → (kd : TokenKind) (bytes : List ℕ) → Sound place (spelt k kd bytes) → (b mid : Both) → Does place pre (keep (spelt k kd bytes) b) mid → Adds place b mid
fronted place k pre e kd bytes s b mid l =
    let no_dots : Replaces place mid mid = λ x h c is good. record { e = x; h = h; good = good; is = is } in
    row_is place part.Unary k (pre ++ item.Part part.Dots ∷ []) e kd bytes s b mid
    (then_leads place pre (item.Part part.Dots ∷ []) (keep (spelt k kd bytes) b) mid mid (old place pre (keep (spelt k kd bytes) b) mid l) (mid, no_dots, refl))
