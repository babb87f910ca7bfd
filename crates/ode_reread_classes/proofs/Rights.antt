-- Expressions as right sides: what the rows of an expression derive, the rows of right sides derive.
use Rattle.std.proofs.Common.{◌≡◌, ◌≤◌, ℕ, zero, suc, Bool, true, false, List, [], ◌∷◌, ◌++◌, append_assoc, length, Option, Some, None, refl, sym, ◌∙◌, ap, arith}
use Rattle.std.proofs.lemmas.Bool.{false≢true}
use Rattle.std.proofs.lemmas.List.{append-nil}
use Rattle.std.proofs.lemmas.Option.{none-some, same_Some}
use Rattle.ode_lex.specs.declared.token.Mark.TheVariants as mark
use Rattle.ode_lex.specs.declared.token.TokenKind.{TokenKind}
use Rattle.ode_grammar.specs.declared.item.Action.{Action}
use Rattle.ode_grammar.specs.declared.item.Action.TheVariants as action
use Rattle.ode_grammar.specs.declared.item.Item.{Item}
use Rattle.ode_grammar.specs.declared.item.Item.TheVariants as item
use Rattle.ode_grammar.specs.declared.item.Part.{Part}
use Rattle.ode_grammar.specs.declared.item.Part.TheVariants as part
use Rattle.ode_grammar.specs.declared.terminal.Terminal.{Terminal}
use Rattle.ode_grammar.specs.declared.terminal.Terminal.TheVariants as terminal
use Rattle.ode_grammar.specs.Expressions.{behind_unary}
use Rattle.ode_grammar.specs.Grammar.{after, row_of, skipped}
use Rattle.ode_grammar.specs.Terminals.{named}
use Rattle.ode_grammar.specs.Texts.{Done, Next, Make, Rule}
use Rattle.ode_grammar.proofs.Follows.{named_after, IfRow}
use Rattle.ode_syntax.specs.Built.{built}
use Rattle.ode_syntax.specs.Kept.{kept_as, Spelled}
use Rattle.ode_reread.proofs.Both.{Both, keep, make}
use Rattle.ode_reread.proofs.Effects.{spelt}
use Rattle.ode_reread.proofs.ExprRows.{longer, rows}
use Rattle.ode_reread.proofs.Marked.{marked}
use Rattle.ode_reread.proofs.Prints.{Ds}
use Rattle.ode_reread_classes.proofs.Chains.{acted, dots_view, early, kept_dot, late, leaf_front, name_row, pair_front, rhs_atoms, script_rhs_atoms, undo, version_front, Dotted, DotsView, Ended, IsAtoms}
use Rattle.ode_reread_classes.proofs.Derivations.{from, left_nothing, known_row, splits, together, view, with_items, with_tokens, Left, Ruled, View}

abbrev pub plain_items : List Item
plain_items = item.Build action.Plain ∷ item.Token terminal.Semi ∷ []

abbrev pub after_ands : List Item
after_ands = item.Part part.Ors ∷ []

abbrev pub after_compare : List Item
after_compare = item.Part part.Ands ∷ after_ands

abbrev pub after_sums : List Item
after_sums = item.Part part.Compare ∷ after_compare

abbrev pub after_factors : List Item
after_factors = item.Part part.Sums ∷ after_sums

-- ---- parts behind the first chain of a right side

-- the tokens before which a part's rows do what was put off
abbrev pub is_held : Terminal → Bool
is_held terminal.Times = true
is_held terminal.Plus = true
is_held terminal.Minus = true
is_held terminal.Compares = true
is_held terminal.AndAnd = true
is_held terminal.OrOr = true
is_held terminal.Semi = true
is_held terminal.Dot = true
is_held other = false

-- it may be done as well behind the token
abbrev pub Commutes : Option Action → Type 0
Commutes o = (k : Terminal) (kd : TokenKind) (bytes : List ℕ) (c : Both) → is_held k ≡ true → acted o (keep (spelt k kd bytes) c) ≡ keep (spelt k kd bytes) (acted o c)

field_commutes : Commutes (Some action.Field)
unfolding built kept_as
field_commutes terminal.Times kd bytes c h = refl
field_commutes terminal.Plus kd bytes c h = refl
field_commutes terminal.Minus kd bytes c h = refl
field_commutes terminal.Compares kd bytes c h = refl
field_commutes terminal.AndAnd kd bytes c h = refl
field_commutes terminal.OrOr kd bytes c h = refl
field_commutes terminal.Semi kd bytes c h = refl
field_commutes terminal.Dot kd bytes c h = refl
field_commutes other kd bytes c h = absurd (false≢true h)

variable_commutes : Commutes (Some action.Variable)
unfolding built kept_as
variable_commutes terminal.Times kd bytes c h = refl
variable_commutes terminal.Plus kd bytes c h = refl
variable_commutes terminal.Minus kd bytes c h = refl
variable_commutes terminal.Compares kd bytes c h = refl
variable_commutes terminal.AndAnd kd bytes c h = refl
variable_commutes terminal.OrOr kd bytes c h = refl
variable_commutes terminal.Semi kd bytes c h = refl
variable_commutes terminal.Dot kd bytes c h = refl
variable_commutes other kd bytes c h = absurd (false≢true h)

-- the part has the rows of an operator's part q, before what comes behind q, and does first what was put off
abbrev pub HasRows : Part → Option Action → Part → List Item → Type 0
HasRows p o q xs = (k : Terminal) → IfRow (λ row. (after p k ≡ Some (early o ++ (row ++ (xs ++ plain_items)))) × (is_held k ≡ true)) (after q k)

pub record IsStand (p : Part) (o : Option Action) : Type 0 where
  pub dot : after p terminal.Dot ≡ Some (early o ++ (item.Token terminal.Name ∷ item.Part part.RhsDot ∷ []))
  pub semi : after p terminal.Semi ≡ Some (early o ++ (item.Build action.Plain ∷ []))
  pub factors : HasRows p o part.Factors after_factors
  pub sums : HasRows p o part.Sums after_sums
  pub compare : HasRows p o part.Compare after_compare
  pub ands : HasRows p o part.Ands after_ands
  pub ors : HasRows p o part.Ors []
  pub commutes : Commutes o

-- by the terminals of operators alone
has_factors : (p : Part) (o : Option Action) → after p terminal.Times ≡ Some (early o ++ (item.Part part.Unary ∷ item.Build action.Binary ∷ behind_unary ++ plain_items)) → HasRows p o part.Factors after_factors
unfolding row_of
has_factors p o e terminal.Times = (e, refl)
has_factors p o e other = tt

abbrev pub sums_row : List Item
sums_row = item.Part part.Unary ∷ item.Part part.Factors ∷ item.Build action.Binary ∷ item.Part part.Sums ∷ (after_sums ++ plain_items)

has_sums : (p : Part) (o : Option Action) → after p terminal.Plus ≡ Some (early o ++ sums_row) → after p terminal.Minus ≡ Some (early o ++ sums_row) → HasRows p o part.Sums after_sums
unfolding row_of
has_sums p o e f terminal.Plus = (e, refl)
has_sums p o e f terminal.Minus = (f, refl)
has_sums p o e f other = tt

abbrev pub compare_row : List Item
compare_row = item.Part part.Unary ∷ item.Part part.Factors ∷ item.Part part.Sums ∷ item.Build action.Binary ∷ (after_compare ++ plain_items)

has_compare : (p : Part) (o : Option Action) → after p terminal.Compares ≡ Some (early o ++ compare_row) → HasRows p o part.Compare after_compare
unfolding row_of
has_compare p o e terminal.Compares = (e, refl)
has_compare p o e other = tt

abbrev pub ands_row : List Item
ands_row =
    item.Part part.Unary ∷ item.Part part.Factors ∷ item.Part part.Sums ∷ item.Part part.Compare ∷ item.Build action.Binary ∷ item.Part part.Ands ∷ (after_ands ++ plain_items)

has_ands : (p : Part) (o : Option Action) → after p terminal.AndAnd ≡ Some (early o ++ ands_row) → HasRows p o part.Ands after_ands
unfolding row_of
has_ands p o e terminal.AndAnd = (e, refl)
has_ands p o e other = tt

abbrev pub ors_row : List Item
ors_row =
    item.Part part.Unary ∷ item.Part part.Factors ∷ item.Part part.Sums ∷ item.Part part.Compare ∷ item.Part part.Ands ∷ item.Build action.Binary ∷ item.Part part.Ors
    ∷ plain_items

has_ors : (p : Part) (o : Option Action) → after p terminal.OrOr ≡ Some (early o ++ ors_row) → HasRows p o part.Ors []
unfolding row_of
has_ors p o e terminal.OrOr = (e, refl)
has_ors p o e other = tt

pub dots_stand : IsStand part.RhsDots None
unfolding row_of
dots_stand = record {
  dot = refl;
  semi = refl;
  factors = has_factors part.RhsDots None refl;
  sums = has_sums part.RhsDots None refl refl;
  compare = has_compare part.RhsDots None refl;
  ands = has_ands part.RhsDots None refl;
  ors = has_ors part.RhsDots None refl;
  commutes = λ k kd bytes c h. refl;
}

pub dot_stand : IsStand part.RhsDot (Some action.Field)
unfolding row_of
dot_stand = record {
  dot = refl;
  semi = refl;
  factors = has_factors part.RhsDot (Some action.Field) refl;
  sums = has_sums part.RhsDot (Some action.Field) refl refl;
  compare = has_compare part.RhsDot (Some action.Field) refl;
  ands = has_ands part.RhsDot (Some action.Field) refl;
  ors = has_ors part.RhsDot (Some action.Field) refl;
  commutes = field_commutes;
}

pub name_stand : IsStand part.RhsName (Some action.Variable)
unfolding row_of
name_stand = record {
  dot = refl;
  semi = refl;
  factors = has_factors part.RhsName (Some action.Variable) refl;
  sums = has_sums part.RhsName (Some action.Variable) refl refl;
  compare = has_compare part.RhsName (Some action.Variable) refl;
  ands = has_ands part.RhsName (Some action.Variable) refl;
  ors = has_ors part.RhsName (Some action.Variable) refl;
  commutes = variable_commutes;
}

-- ---- behind a chain

regrouped : (row xs ys items : List Item) → (row ++ xs) ++ (ys ++ items) ≡ (row ++ (xs ++ ys)) ++ items
regrouped row xs ys items = simp append_assoc

kept_semi : (c : Both) → keep (marked mark.Semi) c ≡ c
unfolding kept_as
kept_semi c = refl

-- an operator and what follows it
operator_stands : {p : Part} {o : Option Action} (xs row : List Item) {t : Spelled} {us : List Spelled} {d e : Both} → IsStand p o
    → (after p t.terminal ≡ Some (early o ++ (row ++ (xs ++ plain_items)))) × (is_held t.terminal ≡ true) → Ds (row ++ xs) (keep t d) us e
    → (c : Both) → acted o c ≡ d → (items : List Item) (ts : List Spelled) (out : Both) → Ds items (make action.Plain e) ts out
    → Ds (item.Part p ∷ items) c (t ∷ (us ++ marked mark.Semi ∷ ts)) out
operator_stands {p = p} {o = o} xs row {t = t} {us = us} {e = e} s r x c q items ts out d =
    let z = together x (Make action.Plain (Next terminal.Semi refl (from (kept_semi (make action.Plain e)) d))) in
    let y = late o (from (s.commutes t.terminal t.kind t.bytes c r.1 ∙ ap (keep t) q) (with_items (regrouped row xs plain_items items) z)) in
    Rule p (early o ++ (row ++ (xs ++ plain_items))) r.0 (with_items (sym (append_assoc (early o) (row ++ (xs ++ plain_items)) items)) y)

semi_stands : {p : Part} {o : Option Action} {e : Both} → IsStand p o → (c : Both) → acted o c ≡ e → (items : List Item) (ts : List Spelled) (out : Both)
    → Ds items (make action.Plain e) ts out → Ds (item.Part p ∷ items) c (marked mark.Semi ∷ ts) out
semi_stands {p = p} {o = o} s c q items ts out d =
    Rule p (early o ++ item.Build action.Plain ∷ []) s.semi
    (from (kept_semi c) (with_items (sym (append_assoc (early o) (item.Build action.Plain ∷ []) items)) (late o (Make action.Plain (from (ap (make action.Plain) q) d)))))

skips_factors : skipped part.Factors ≡ Some action.Nothing
unfolding skipped
skips_factors = refl

skips_sums : skipped part.Sums ≡ Some action.Nothing
unfolding skipped
skips_sums = refl

skips_compare : skipped part.Compare ≡ Some action.Nothing
unfolding skipped
skips_compare = refl

skips_ands : skipped part.Ands ≡ Some action.Nothing
unfolding skipped
skips_ands = refl

skips_ors : skipped part.Ors ≡ Some action.Nothing
unfolding skipped
skips_ors = refl

module _ {p : Part} {o : Option Action} (s : IsStand p o) where
  end_stands : {d e : Both} {us : List Spelled} → Ds [] d us e → (c : Both) → acted o c ≡ d → (items : List Item) (ts : List Spelled) (out : Both)
      → Ds items (make action.Plain e) ts out → Ds (item.Part p ∷ items) c (us ++ marked mark.Semi ∷ ts) out
  end_stands Done c q items ts out d = semi_stands s c q items ts out d

  ors_stand : {d e : Both} {us : List Spelled} → View part.Ors [] d e us → (c : Both) → acted o c ≡ d → (items : List Item) (ts : List Spelled) (out : Both)
      → Ds items (make action.Plain e) ts out → Ds (item.Part p ∷ items) c (us ++ marked mark.Semi ∷ ts) out
  ors_stand (Ruled t row f x) c q items ts out d = operator_stands [] row s (known_row _ (s.ors t.terminal) f) x c q items ts out d
  ors_stand (Left a f x) c q items ts out d = end_stands (left_nothing part.Ors skips_ors a f x) c q items ts out d

  ands_stand : {d e : Both} {us : List Spelled} → View part.Ands after_ands d e us → (c : Both) → acted o c ≡ d → (items : List Item) (ts : List Spelled) (out : Both)
      → Ds items (make action.Plain e) ts out → Ds (item.Part p ∷ items) c (us ++ marked mark.Semi ∷ ts) out
  ands_stand (Ruled t row f x) c q items ts out d = operator_stands after_ands row s (known_row _ (s.ands t.terminal) f) x c q items ts out d
  ands_stand (Left a f x) c q items ts out d = ors_stand (view (left_nothing part.Ands skips_ands a f x)) c q items ts out d

  compare_stands : {d e : Both} {us : List Spelled} → View part.Compare after_compare d e us → (c : Both) → acted o c ≡ d → (items : List Item) (ts : List Spelled) (out : Both)
      → Ds items (make action.Plain e) ts out → Ds (item.Part p ∷ items) c (us ++ marked mark.Semi ∷ ts) out
  compare_stands (Ruled t row f x) c q items ts out d = operator_stands after_compare row s (known_row _ (s.compare t.terminal) f) x c q items ts out d
  compare_stands (Left a f x) c q items ts out d = ands_stand (view (left_nothing part.Compare skips_compare a f x)) c q items ts out d

  sums_stand : {d e : Both} {us : List Spelled} → View part.Sums after_sums d e us → (c : Both) → acted o c ≡ d → (items : List Item) (ts : List Spelled) (out : Both)
      → Ds items (make action.Plain e) ts out → Ds (item.Part p ∷ items) c (us ++ marked mark.Semi ∷ ts) out
  sums_stand (Ruled t row f x) c q items ts out d = operator_stands after_sums row s (known_row _ (s.sums t.terminal) f) x c q items ts out d
  sums_stand (Left a f x) c q items ts out d = compare_stands (view (left_nothing part.Sums skips_sums a f x)) c q items ts out d

  factors_stand : {d e : Both} {us : List Spelled} → View part.Factors after_factors d e us → (c : Both) → acted o c ≡ d → (items : List Item) (ts : List Spelled) (out : Both)
      → Ds items (make action.Plain e) ts out → Ds (item.Part p ∷ items) c (us ++ marked mark.Semi ∷ ts) out
  factors_stand (Ruled t row f x) c q items ts out d = operator_stands after_factors row s (known_row _ (s.factors t.terminal) f) x c q items ts out d
  factors_stand (Left a f x) c q items ts out d = sums_stand (view (left_nothing part.Factors skips_factors a f x)) c q items ts out d

chain_stands : (n : ℕ) {p : Part} {o : Option Action} → IsStand p o → {us : List Spelled} {d e : Both} → DotsView behind_unary d e us → length us ≤ n → (c : Both) → acted o c ≡ d
    → (items : List Item) (ts : List Spelled) (out : Both) → Ds items (make action.Plain e) ts out → Ds (item.Part p ∷ items) c (us ++ marked mark.Semi ∷ ts) out
chain_stands n s (Ended x) l c q items ts out d = factors_stand s (view x) c q items ts out d
chain_stands zero s (Dotted a t f g y) l c q items ts out d = absurd (omega arith)
chain_stands (suc n) {p = p} {o = o} s {d = b} (Dotted {ts = us} a t f g y) l c q items ts out d =
    let r = chain_stands n dot_stand (dots_view y) (omega arith) (keep t b) refl items ts out d in
    let more = item.Token terminal.Name ∷ item.Part part.RhsDot ∷ [] in
    Rule p (early o ++ more) (ap (after p) f ∙ s.dot)
    (from (kept_dot a c f) (with_items (sym (append_assoc (early o) more items)) (late o (from q (Next terminal.Name g r)))))

-- ---- whole right sides

pub data BegunRight (r : Part) (k : Terminal) (row : List Item) : Type 0 where
  Chain : (pre : List Item) (o : Option Action) (q : Part) → row ≡ pre ++ (early o ++ item.Part part.Dots ∷ []) → row_of r k ≡ Some (pre ++ item.Part q ∷ []) → IsStand q o
      → BegunRight r k row
  Signed : row ≡ item.Part part.Unary ∷ item.Build action.Sign ∷ [] → row_of r k ≡ Some (item.Part part.Unary ∷ item.Build action.Sign ∷ (behind_unary ++ plain_items))
      → BegunRight r k row

abbrev pub IsRight : Part → Type 0
IsRight r = (k : Terminal) → IfRow (BegunRight r k) (row_of part.Unary k)

right_by : (r : Part) → IsAtoms r (item.Part part.RhsDots ∷ []) → BegunRight r terminal.Name name_row
    → row_of r terminal.Minus ≡ Some (item.Part part.Unary ∷ item.Build action.Sign ∷ (behind_unary ++ plain_items))
    → row_of r terminal.Not ≡ Some (item.Part part.Unary ∷ item.Build action.Sign ∷ (behind_unary ++ plain_items)) → IsRight r
unfolding row_of
right_by r i n e f terminal.Leaf = Chain leaf_front None part.RhsDots refl i.leaf dots_stand
right_by r i n e f terminal.Number = Chain leaf_front None part.RhsDots refl i.number dots_stand
right_by r i n e f terminal.Seconds = Chain leaf_front None part.RhsDots refl i.seconds dots_stand
right_by r i n e f terminal.Count = Chain leaf_front None part.RhsDots refl i.count dots_stand
right_by r i n e f terminal.Text = Chain leaf_front None part.RhsDots refl i.text dots_stand
right_by r i n e f terminal.Instant = Chain leaf_front None part.RhsDots refl i.instant dots_stand
right_by r i n e f terminal.OpenParen = Chain pair_front None part.RhsDots refl i.pair dots_stand
right_by r i n e f terminal.Version = Chain version_front None part.RhsDots refl i.version dots_stand
right_by r i n e f terminal.Name = n
right_by r i n e f terminal.Minus = Signed refl e
right_by r i n e f terminal.Not = Signed refl f
right_by r i n e f other = tt

pub rhs_right : IsRight part.Rhs
unfolding row_of
rhs_right = right_by part.Rhs rhs_atoms (Chain [] (Some action.Variable) part.RhsName refl refl name_stand) refl refl

pub script_right : IsRight part.ScriptRhs
unfolding row_of
script_right = right_by part.ScriptRhs script_rhs_atoms (Chain (item.Build action.Variable ∷ []) None part.RhsDots refl refl dots_stand) refl refl

-- the row of an operand in that of an expression
record Longer (more : List Item) (o : Option (List Item)) (row : List Item) : Type 0 where
  pub front : List Item
  pub some : o ≡ Some front
  pub same : row ≡ front ++ more

is_longer : (more : List Item) (o : Option (List Item)) (row : List Item) → longer more o ≡ Some row → Longer more o row
is_longer more None row e = absurd (none-some row e)
is_longer more (Some front) row e = record { front = front; some = refl; same = sym (same_Some (front ++ more) row e) }

pub no_expr_skip : (a : Action) → skipped part.Expr ≡ Some a → ⊥
unfolding skipped
no_expr_skip a e = none-some a e

right_front : (pre : List Item) (o : Option Action) (more : List Item) → (pre ++ (early o ++ item.Part part.Dots ∷ [])) ++ more ≡ pre ++ (early o ++ item.Part part.Dots ∷ more)
right_front pre o more = simp append_assoc

plain_by : (r : Part) → IsRight r → (us : List Spelled) (b e : Both) → View part.Expr [] b e us → (items : List Item) (ts : List Spelled) (out : Both)
    → Ds items (make action.Plain e) ts out → Ds (item.Part r ∷ items) b (us ++ marked mark.Semi ∷ ts) out
plain_by r i us b e (Left a f x) items ts out d = absurd (no_expr_skip a f)
plain_by r i us b e (Ruled {ts = vs} t row f x) items ts out d = cases (known_row _ (i (named t.terminal)) l.some)
  where
    l : Longer behind_unary (row_of part.Unary (named t.terminal)) row
    l = is_longer behind_unary (row_of part.Unary (named t.terminal)) row (sym (rows (named t.terminal)) ∙ f)

    y : Ds (l.front ++ behind_unary) (keep t b) vs e
    y = with_items (append-nil row ∙ l.same) x

    cases : BegunRight r (named t.terminal) l.front → Ds (item.Part r ∷ items) b (t ∷ (vs ++ marked mark.Semi ∷ ts)) out
    cases (Signed q g) =
        let z = together (with_items (ap (λ zs. zs ++ behind_unary) q) y) (Make action.Plain (Next terminal.Semi refl (from (kept_semi (make action.Plain e)) d))) in
        Rule r (item.Part part.Unary ∷ item.Build action.Sign ∷ (behind_unary ++ plain_items)) (named_after r t.terminal _ g) z
    cases (Chain pre o q same g s) =
        let p = splits (with_items (ap (λ zs. zs ++ behind_unary) same ∙ right_front pre o behind_unary) y) pre (early o ++ item.Part part.Dots ∷ behind_unary) refl in
        let w = chain_stands (length p.vs) s (dots_view (undo o p.behind)) (omega arith) p.mid refl items ts out d in
        let z = marked mark.Semi ∷ ts in
        Rule r (pre ++ item.Part q ∷ []) (named_after r t.terminal _ g)
        (with_items (sym (append_assoc pre (item.Part q ∷ []) items)) (with_tokens (sym (append_assoc p.us p.vs z) ∙ ap (λ ws. ws ++ z) p.same) (together p.first w)))

-- what is derived as an expression is one as a right side
pub plain_right : {r : Part} → IsRight r → {us : List Spelled} {b e : Both} → Ds (item.Part part.Expr ∷ []) b us e → (items : List Item) (ts : List Spelled) (out : Both)
    → Ds items (make action.Plain e) ts out → Ds (item.Part r ∷ items) b (us ++ marked mark.Semi ∷ ts) out
plain_right {r = r} i {us = us} {b = b} {e = e} x items ts out d = plain_by r i us b e (view x) items ts out d
