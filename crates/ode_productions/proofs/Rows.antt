-- What the rows derive is what the productions say.
use Rattle.std.proofs.Common.{◌≡◌, ◌⊎◌, List, [], ◌∷◌, ◌++◌, append_assoc, Option, Some, None, refl, sym, ◌∙◌, ap, subst}
use Rattle.std.proofs.lemmas.List.{append-nil}
use Rattle.ode_grammar.specs.declared.item.Part.{Part}
use Rattle.ode_grammar.specs.declared.item.Part.TheVariants as part
use Rattle.ode_grammar.specs.declared.item.Action.{Action}
use Rattle.ode_grammar.specs.declared.item.Action.TheVariants as action
use Rattle.ode_grammar.specs.declared.item.Item.{Item}
use Rattle.ode_grammar.specs.declared.item.Item.TheVariants as item
use Rattle.ode_grammar.specs.declared.terminal.Terminal.{Terminal}
use Rattle.ode_grammar.specs.declared.terminal.Terminal.TheVariants as terminal
use Rattle.ode_grammar.specs.Expressions.{behind_unary, term}
use Rattle.ode_grammar.specs.Events.{counted, evand, event as whole_event, folded, of_one, of_three, of_two}
use Rattle.ode_grammar.specs.Grammar.{row_of}
use Rattle.ode_grammar.proofs.Follows.{IfRow}
use Rattle.ode_productions.specs.Productions.{Is, Symbol}
use Rattle.ode_productions.specs.Productions as is
use Rattle.ode_productions.specs.Phrases.{Says, AArguments, AMoreArguments, ADotted, ASets, AMoreSets, AGiven, ARight, AInner, AInners, AOtherwise, ASort, AParams, AMoreKinds, AInitially, ALasts, AScoped, AModed, AMember, AMembers, AParented, AClass, ALiteral, AAdditions, ATest, AMoreExpressions, ASorting, AStatement, AMoreParams, AMoreRanges}
use Rattle.ode_productions.proofs.Texts.{longer, pair_items, rows}

-- the tokens of a part: a symbol's, or those that make one of the symbol before them
abbrev pub PartYields : Part → List Terminal → Type 0
PartYields part.Expr ts = Is is.Expression ts
PartYields part.Unary ts = Is is.Unary ts
PartYields part.Dots ts = (xs : List Terminal) → Is is.Chain xs → Is is.Chain (xs ++ ts)
PartYields part.Factors ts = (xs : List Terminal) → Is is.Term xs → Is is.Term (xs ++ ts)
PartYields part.Sums ts = (xs : List Terminal) → Is is.Sum xs → Is is.Sum (xs ++ ts)
PartYields part.Compare ts = (xs : List Terminal) → Is is.Sum xs → Is is.Comparison (xs ++ ts)
PartYields part.Ands ts = (xs : List Terminal) → Is is.Conjunction xs → Is is.Conjunction (xs ++ ts)
PartYields part.Ors ts = (xs : List Terminal) → Is is.Expression xs → Is is.Expression (xs ++ ts)
PartYields part.EventUnary ts = Is is.Negated ts
PartYields part.EventAnds ts = (xs : List Terminal) → Is is.Conjoined xs → Is is.Conjoined (xs ++ ts)
PartYields part.EventOrs ts = (xs : List Terminal) → Is is.Event xs → Is is.Event (xs ++ ts)
PartYields part.MoreRelative ts = (xs : List Terminal) → Is is.Event xs → Is is.More (terminal.Comma ∷ xs ++ ts)
PartYields part.MorePrior ts = (xs : List Terminal) → Is is.Event xs → Is is.More (terminal.Comma ∷ xs ++ ts)
PartYields part.MoreSequence ts = (xs : List Terminal) → Is is.Event xs → Is is.More (terminal.Comma ∷ xs ++ ts)
PartYields part.Mask ts = (xs : List Terminal) → Is is.Kind xs → Is is.EventAtom (xs ++ ts)
PartYields part.EventMask ts = (xs : List Terminal) → Is is.Event xs → Is is.EventAtom (terminal.OpenParen ∷ xs ++ terminal.CloseParen ∷ ts)
PartYields part.Kind ts = Is is.Kind ts
PartYields part.AfterWhat ts = Is is.Kind (terminal.After ∷ ts)
PartYields part.BeforeWhat ts = Is is.Kind (terminal.Before ∷ ts)
PartYields part.TimeWhat ts = Is is.Kind (terminal.Time ∷ ts)
PartYields part.Period ts = Is is.Kind (terminal.Time ∷ terminal.Every ∷ ts)
PartYields part.Args ts = Says AArguments ts
PartYields part.MoreArgs ts = Says AMoreArguments ts
PartYields part.CallDot ts = (xs : List Terminal) → Is is.Chain xs → Says ADotted (xs ++ terminal.Dot ∷ terminal.Name ∷ ts)
PartYields part.Chained ts = Says ADotted ts
PartYields part.Sets ts = Says ASets ts
PartYields part.MoreSets ts = Says AMoreSets ts
PartYields part.Rhs ts = Says ARight ts
PartYields part.ScriptRhs ts = Says AGiven ts
PartYields part.RhsDots ts = (xs : List Terminal) → Is is.Chain xs → Says AGiven (xs ++ ts)
PartYields part.RhsDot ts = (xs : List Terminal) → Is is.Chain xs → Says AGiven (xs ++ terminal.Dot ∷ terminal.Name ∷ ts)
PartYields part.RhsName ts = Says ARight (terminal.Name ∷ ts)
PartYields part.Inners ts = Says AInners ts
PartYields part.InnerName ts = Says AInner (terminal.Name ∷ ts)
PartYields part.ReturnValue ts = Says AInner (terminal.Return ∷ ts)
PartYields part.Else ts = Says AOtherwise ts
PartYields part.Class ts = Says AClass ts
PartYields part.Additions ts = Says AAdditions ts
PartYields part.Literal ts = Says ALiteral ts
PartYields part.Negative ts = Says ALiteral (terminal.Minus ∷ ts)
PartYields part.SecondRange ts = Says (AMoreRanges 3) ts
PartYields part.ThirdRange ts = Says (AMoreRanges 2) ts
PartYields part.FourthRange ts = Says (AMoreRanges 1) ts
PartYields part.SuchThat ts = Says ATest ts
PartYields part.By ts = Says ASorting ts
PartYields part.MoreExprs ts = Says AMoreExpressions ts
PartYields part.Parent ts = Says AParented ts
PartYields part.Members ts = Says AMembers ts
PartYields part.FieldOrMethod ts = (xs : List Terminal) → Says ASort xs → Says AMember (xs ++ terminal.Name ∷ ts)
PartYields part.MoreKinds ts = Says AMoreKinds ts
PartYields part.Initial ts = Says AInitially ts
PartYields part.Lasting ts = Says ALasts ts
PartYields part.Scope ts = Says AScoped ts
PartYields part.Mode ts = Says AModed ts
PartYields part.Sort ts = Says ASort ts
PartYields part.Params ts = Says AParams ts
PartYields part.Statement ts = Says AStatement ts
PartYields part.ClockText ts = (ts ≡ terminal.Text ∷ []) ⊎ (ts ≡ terminal.Instant ∷ [])
PartYields part.SecondParam ts = Says (AMoreParams 15) ts
PartYields part.ThirdParam ts = Says (AMoreParams 14) ts
PartYields part.FourthParam ts = Says (AMoreParams 13) ts
PartYields part.FifthParam ts = Says (AMoreParams 12) ts
PartYields part.SixthParam ts = Says (AMoreParams 11) ts
PartYields part.SeventhParam ts = Says (AMoreParams 10) ts
PartYields part.EighthParam ts = Says (AMoreParams 9) ts
PartYields part.NinthParam ts = Says (AMoreParams 8) ts
PartYields part.TenthParam ts = Says (AMoreParams 7) ts
PartYields part.EleventhParam ts = Says (AMoreParams 6) ts
PartYields part.TwelfthParam ts = Says (AMoreParams 5) ts
PartYields part.ThirteenthParam ts = Says (AMoreParams 4) ts
PartYields part.FourteenthParam ts = Says (AMoreParams 3) ts
PartYields part.FifteenthParam ts = Says (AMoreParams 2) ts
PartYields part.SixteenthParam ts = Says (AMoreParams 1) ts

abbrev pub Yields : List Item → List Terminal → Type 0
Yields [] ts = ts ≡ []
Yields (item.Token k ∷ items) ts = (us : List Terminal) × (ts ≡ k ∷ us) × Yields items us
Yields (item.Build a ∷ items) ts = Yields items ts
Yields (item.Part p ∷ items) ts = (us : List Terminal) × (vs : List Terminal) × (ts ≡ us ++ vs) × PartYields p us × Yields items vs

abbrev pub RowYields : Part → Terminal → List Item → Type 0
RowYields p k row = (us : List Terminal) → Yields row us → PartYields p (k ∷ us)

-- ---- pieces

pub ended : (us a v : List Terminal) → us ≡ a ++ v → v ≡ [] → us ≡ a
ended us a v e f = e ∙ (ap (λ x. a ++ x) f ∙ append-nil a)

pub looped : (xs us u d : List Terminal) (k : Terminal) → us ≡ u ++ d → xs ++ k ∷ us ≡ (xs ++ k ∷ u) ++ d
looped xs us u d k e = ap (λ x. xs ++ k ∷ x) e ∙ sym (append_assoc xs (k ∷ u) d)

-- a symbol in front of what items yield
pub record Front (s : Symbol) (items : List Item) (us : List Terminal) : Type 0 where
  pub a : List Terminal
  pub rest : List Terminal
  pub is : us ≡ a ++ rest
  pub front : Is s a
  pub behind : Yields items rest

pub finish : (s : Symbol) (us : List Terminal) → Front s [] us → Is s us
finish s us f = subst (Is s) (sym (ended us f.a f.rest f.is f.behind)) f.front

pub extend : (s t : Symbol) (q : Part) (items : List Item) (us : List Terminal) → ((a b : List Terminal) → Is s a → PartYields q b → Is t (a ++ b))
    → Front s (item.Part q ∷ items) us → Front t items us
extend s t q items us f x =
    let y = x.behind in
    record { a = x.a ++ y.0; rest = y.1; is = x.is ∙ (ap (λ z. x.a ++ z) y.2 ∙ sym (append_assoc x.a y.0 y.1)); front = f x.a y.0 x.front y.3; behind = y.4 }

pub one : (items : List Item) (us : List Terminal) → Yields (item.Part part.Unary ∷ items) us → Front is.Unary items us
one items us l = record { a = l.0; rest = l.1; is = l.2; front = l.3; behind = l.4 }

pub to_term : (items : List Item) (us : List Terminal) → Front is.Unary (item.Part part.Factors ∷ items) us → Front is.Term items us
to_term items us f = extend is.Unary is.Term part.Factors items us (λ a b x y. y a (is.OneUnary x)) f

pub to_sum : (items : List Item) (us : List Terminal) → Front is.Term (item.Part part.Sums ∷ items) us → Front is.Sum items us
to_sum items us f = extend is.Term is.Sum part.Sums items us (λ a b x y. y a (is.OneTerm x)) f

pub to_comparison : (items : List Item) (us : List Terminal) → Front is.Sum (item.Part part.Compare ∷ items) us → Front is.Comparison items us
to_comparison items us f = extend is.Sum is.Comparison part.Compare items us (λ a b x y. y a x) f

pub to_conjunction : (items : List Item) (us : List Terminal) → Front is.Comparison (item.Part part.Ands ∷ items) us → Front is.Conjunction items us
to_conjunction items us f = extend is.Comparison is.Conjunction part.Ands items us (λ a b x y. y a (is.OneComparison x)) f

pub to_expression : (items : List Item) (us : List Terminal) → Front is.Conjunction (item.Part part.Ors ∷ items) us → Front is.Expression items us
to_expression items us f = extend is.Conjunction is.Expression part.Ors items us (λ a b x y. y a (is.OneConjunction x)) f

pub conjoined_front : (items : List Item) (us : List Terminal) → Yields (evand ++ items) us → Front is.Conjoined items us
conjoined_front items us l =
    extend is.Negated is.Conjoined part.EventAnds items us (λ a b x y. y a (is.OneNegated x)) (record { a = l.0; rest = l.1; is = l.2; front = l.3; behind = l.4 })

pub event_front : (items : List Item) (us : List Terminal) → Yields (whole_event ++ items) us → Front is.Event items us
event_front items us l =
    extend is.Conjoined is.Event part.EventOrs items us (λ a b x y. y a (is.OneConjoined x)) (conjoined_front (item.Part part.EventOrs ∷ items) us l)

-- ---- operands

pub leaf_row : (k : Terminal) → Is is.Atom (k ∷ []) → RowYields part.Unary k (item.Part part.Dots ∷ [])
leaf_row k a us l = subst (λ x. Is is.Unary (k ∷ x)) (sym (ended us l.0 l.1 l.2 l.4)) (is.OneChain (l.3 (k ∷ []) (is.OneAtom a)))

pub paren_row : RowYields part.Unary terminal.OpenParen (item.Part part.Expr ∷ item.Token terminal.CloseParen ∷ item.Build action.Pair ∷ item.Part part.Dots ∷ [])
paren_row us l =
    let c = l.4 in
    let d = c.2 in
    let all : us ≡ (l.0 ++ terminal.CloseParen ∷ []) ++ d.0 =
    l.2 ∙ (ap (λ x. l.0 ++ x) (c.1 ∙ ap (λ x. terminal.CloseParen ∷ x) (ended c.0 d.0 d.1 d.2 d.4)) ∙ sym (append_assoc l.0 (terminal.CloseParen ∷ []) d.0)) in
    subst (λ x. Is is.Unary (terminal.OpenParen ∷ x)) (sym all) (is.OneChain (d.3 (terminal.OpenParen ∷ l.0 ++ terminal.CloseParen ∷ []) (is.OneAtom (is.Brackets l.3))))

pub version_row : RowYields part.Unary terminal.Version
    (item.Token terminal.OpenParen ∷ item.Part part.Expr ∷ item.Token terminal.CloseParen ∷ item.Build action.Version ∷ item.Part part.Dots ∷ [])
version_row us l =
    let e = l.2 in
    let c = e.4 in
    let d = c.2 in
    let inner : l.0 ≡ (e.0 ++ terminal.CloseParen ∷ []) ++ d.0 =
    e.2 ∙ (ap (λ x. e.0 ++ x) (c.1 ∙ ap (λ x. terminal.CloseParen ∷ x) (ended c.0 d.0 d.1 d.2 d.4)) ∙ sym (append_assoc e.0 (terminal.CloseParen ∷ []) d.0)) in
    let all = l.1 ∙ ap (λ x. terminal.OpenParen ∷ x) inner in
    subst (λ x. Is is.Unary (terminal.Version ∷ x)) (sym all)
    (is.OneChain (d.3 (terminal.Version ∷ terminal.OpenParen ∷ e.0 ++ terminal.CloseParen ∷ []) (is.OneAtom (is.VersionOf e.3))))

pub unary_rows : (k : Terminal) → IfRow (RowYields part.Unary k) (row_of part.Unary k)
unfolding row_of
unary_rows terminal.Leaf = leaf_row terminal.Leaf is.LeafAtom
unary_rows terminal.Number = leaf_row terminal.Number is.NumberAtom
unary_rows terminal.Seconds = leaf_row terminal.Seconds is.SecondsAtom
unary_rows terminal.Count = leaf_row terminal.Count is.CountAtom
unary_rows terminal.Text = leaf_row terminal.Text is.TextAtom
unary_rows terminal.Instant = leaf_row terminal.Instant is.InstantAtom
unary_rows terminal.Name = leaf_row terminal.Name is.NameAtom
unary_rows terminal.OpenParen = paren_row
unary_rows terminal.Version = version_row
unary_rows terminal.Minus = λ us l. subst (λ x. Is is.Unary (terminal.Minus ∷ x)) (sym (ended us l.0 l.1 l.2 l.4)) (is.Minus l.3)
unary_rows terminal.Not = λ us l. subst (λ x. Is is.Unary (terminal.Not ∷ x)) (sym (ended us l.0 l.1 l.2 l.4)) (is.Not l.3)
unary_rows other = tt

pub dot_row : RowYields part.Dots terminal.Dot (item.Token terminal.Name ∷ item.Build action.Field ∷ item.Part part.Dots ∷ [])
dot_row us l = λ xs c.
    let d = l.2 in
    let all : us ≡ (terminal.Name ∷ []) ++ d.0 = l.1 ∙ ap (λ x. terminal.Name ∷ x) (ended l.0 d.0 d.1 d.2 d.4) in
    subst (Is is.Chain) (sym (looped xs us (terminal.Name ∷ []) d.0 terminal.Dot all)) (d.3 (xs ++ terminal.Dot ∷ terminal.Name ∷ []) (is.Field c))

pub dots_rows : (k : Terminal) → IfRow (RowYields part.Dots k) (row_of part.Dots k)
unfolding row_of
dots_rows terminal.Dot = dot_row
dots_rows other = tt

-- ---- operators

pub factors_rows : (k : Terminal) → IfRow (RowYields part.Factors k) (row_of part.Factors k)
unfolding row_of
factors_rows terminal.Times = λ us l xs t.
    let f = one (item.Build action.Binary ∷ item.Part part.Factors ∷ []) us l in
    let d = f.behind in
    let all : us ≡ f.a ++ d.0 = f.is ∙ ap (λ x. f.a ++ x) (ended f.rest d.0 d.1 d.2 d.4) in
    subst (Is is.Term) (sym (looped xs us f.a d.0 terminal.Times all)) (d.3 (xs ++ terminal.Times ∷ f.a) (is.Factor t f.front))
factors_rows other = tt

pub sum_row : (k : Terminal) → ((xs us : List Terminal) → Is is.Sum xs → Is is.Term us → Is is.Sum (xs ++ k ∷ us))
    → RowYields part.Sums k (term ++ item.Build action.Binary ∷ item.Part part.Sums ∷ [])
sum_row k make us l = λ xs t.
    let items = item.Build action.Binary ∷ item.Part part.Sums ∷ [] in
    let f = to_term items us (one (item.Part part.Factors ∷ items) us l) in
    let d = f.behind in
    let all : us ≡ f.a ++ d.0 = f.is ∙ ap (λ x. f.a ++ x) (ended f.rest d.0 d.1 d.2 d.4) in
    subst (Is is.Sum) (sym (looped xs us f.a d.0 k all)) (d.3 (xs ++ k ∷ f.a) (make xs f.a t f.front))

pub sums_rows : (k : Terminal) → IfRow (RowYields part.Sums k) (row_of part.Sums k)
unfolding row_of
sums_rows terminal.Plus = sum_row terminal.Plus (λ xs us x y. is.Plus x y)
sums_rows terminal.Minus = sum_row terminal.Minus (λ xs us x y. is.Less x y)
sums_rows other = tt

pub compare_rows : (k : Terminal) → IfRow (RowYields part.Compare k) (row_of part.Compare k)
unfolding row_of
compare_rows terminal.Compares = λ us l xs t.
    let items = item.Build action.Binary ∷ [] in
    let f = to_sum items us (to_term (item.Part part.Sums ∷ items) us (one (item.Part part.Factors ∷ item.Part part.Sums ∷ items) us l)) in
    subst (λ x. Is is.Comparison (xs ++ terminal.Compares ∷ x)) (sym (ended us f.a f.rest f.is f.behind)) (is.Compared t f.front)
compare_rows other = tt

pub ands_rows : (k : Terminal) → IfRow (RowYields part.Ands k) (row_of part.Ands k)
unfolding row_of
ands_rows terminal.AndAnd = λ us l xs t.
    let items = item.Build action.Binary ∷ item.Part part.Ands ∷ [] in
    let f = to_comparison items us (to_sum (item.Part part.Compare ∷ items) us (to_term (item.Part part.Sums ∷ item.Part part.Compare ∷ items) us
    (one (item.Part part.Factors ∷ item.Part part.Sums ∷ item.Part part.Compare ∷ items) us l))) in
    let d = f.behind in
    let all : us ≡ f.a ++ d.0 = f.is ∙ ap (λ x. f.a ++ x) (ended f.rest d.0 d.1 d.2 d.4) in
    subst (Is is.Conjunction) (sym (looped xs us f.a d.0 terminal.AndAnd all)) (d.3 (xs ++ terminal.AndAnd ∷ f.a) (is.And t f.front))
ands_rows other = tt

pub ors_rows : (k : Terminal) → IfRow (RowYields part.Ors k) (row_of part.Ors k)
unfolding row_of
ors_rows terminal.OrOr = λ us l xs t.
    let items = item.Build action.Binary ∷ item.Part part.Ors ∷ [] in
    let more = item.Part part.Ands ∷ items in
    let f = to_conjunction items us (to_comparison more us (to_sum (item.Part part.Compare ∷ more) us (to_term (item.Part part.Sums ∷ item.Part part.Compare ∷ more) us
    (one (item.Part part.Factors ∷ item.Part part.Sums ∷ item.Part part.Compare ∷ more) us l)))) in
    let d = f.behind in
    let all : us ≡ f.a ++ d.0 = f.is ∙ ap (λ x. f.a ++ x) (ended f.rest d.0 d.1 d.2 d.4) in
    subst (Is is.Expression) (sym (looped xs us f.a d.0 terminal.OrOr all)) (d.3 (xs ++ terminal.OrOr ∷ f.a) (is.Or t f.front))
ors_rows other = tt

-- ---- whole expressions

pub record Split (xs ys : List Item) (us : List Terminal) : Type 0 where
  pub a : List Terminal
  pub b : List Terminal
  pub is : us ≡ a ++ b
  pub first : Yields xs a
  pub behind : Yields ys b

pub split : (xs ys : List Item) (us : List Terminal) → Yields (xs ++ ys) us → Split xs ys us
split [] ys us l = record { a = []; b = us; is = refl; first = refl; behind = l }
split (item.Token k ∷ xs) ys us l =
    let r = split xs ys l.0 l.2 in
    record { a = k ∷ r.a; b = r.b; is = l.1 ∙ ap (λ x. k ∷ x) r.is; first = (r.a, refl, r.first); behind = r.behind }
split (item.Build x ∷ xs) ys us l = let r = split xs ys us l in record { a = r.a; b = r.b; is = r.is; first = r.first; behind = r.behind }
split (item.Part p ∷ xs) ys us l =
    let r = split xs ys l.1 l.4 in
    record { a = l.0 ++ r.a; b = r.b; is = l.2 ∙ (ap (λ x. l.0 ++ x) r.is ∙ sym (append_assoc l.0 r.a r.b)); first = (l.0, r.a, refl, l.3, r.first); behind = r.behind }

pub whole_row : (k : Terminal) (r : Option (List Item)) → IfRow (RowYields part.Unary k) r → IfRow (RowYields part.Expr k) (longer behind_unary r)
whole_row k None p = tt
whole_row k (Some row) p = λ us l.
    let x = split row behind_unary us l in
    let f : Front is.Unary behind_unary (k ∷ us) = record { a = k ∷ x.a; rest = x.b; is = ap (λ y. k ∷ y) x.is; front = p x.a x.first; behind = x.behind } in
    let ors = item.Part part.Ors ∷ [] in
    let ands = item.Part part.Ands ∷ ors in
    let compares = item.Part part.Compare ∷ ands in
    let sums = item.Part part.Sums ∷ compares in
    finish is.Expression (k ∷ us)
    (to_expression [] (k ∷ us) (to_conjunction ors (k ∷ us) (to_comparison ands (k ∷ us) (to_sum compares (k ∷ us) (to_term sums (k ∷ us) f)))))

pub expr_rows : (k : Terminal) → IfRow (RowYields part.Expr k) (row_of part.Expr k)
expr_rows k = subst (IfRow (RowYields part.Expr k)) (sym (rows k)) (whole_row k (row_of part.Unary k) (unary_rows k))

-- ---- event expressions

pub event_paren_row : RowYields part.EventUnary terminal.OpenParen (whole_event ++ pair_items)
event_paren_row us l =
    let f = event_front pair_items us l in
    let c = f.behind in
    let m = c.2 in
    let all : us ≡ f.a ++ terminal.CloseParen ∷ m.0 = f.is ∙ ap (λ x. f.a ++ x) (c.1 ∙ ap (λ x. terminal.CloseParen ∷ x) (ended c.0 m.0 m.1 m.2 m.4)) in
    subst (λ x. Is is.Negated (terminal.OpenParen ∷ x)) (sym all) (is.OneEventAtom (m.3 f.a f.front))

pub kind_row : (k : Terminal) (p : Part) → ((us : List Terminal) → PartYields p us → Is is.Kind (k ∷ us)) → RowYields part.EventUnary k (item.Part p ∷ item.Part part.Mask ∷ [])
kind_row k p f us l =
    let m = l.4 in
    let all : us ≡ l.0 ++ m.0 = l.2 ∙ ap (λ x. l.0 ++ x) (ended l.1 m.0 m.1 m.2 m.4) in
    subst (λ x. Is is.Negated (k ∷ x)) (sym all) (is.OneEventAtom (m.3 (k ∷ l.0) (f l.0 l.3)))

pub relative_row : RowYields part.EventUnary terminal.Relative (folded (item.Build action.Relative) (item.Part part.MoreRelative))
relative_row us l =
    let f = event_front (item.Token terminal.Comma ∷ whole_event ++ item.Build action.Relative ∷ item.Part part.MoreRelative ∷ []) l.0 l.2 in
    let c = f.behind in
    let g = event_front (item.Build action.Relative ∷ item.Part part.MoreRelative ∷ []) c.0 c.2 in
    let m = g.behind in
    let more = m.3 g.a g.front in
    let rest : c.0 ≡ g.a ++ m.0 = g.is ∙ ap (λ x. g.a ++ x) (ended g.rest m.0 m.1 m.2 m.4) in
    let all : us ≡ terminal.OpenParen ∷ f.a ++ (terminal.Comma ∷ g.a ++ m.0) =
    l.1 ∙ ap (λ x. terminal.OpenParen ∷ x) (f.is ∙ ap (λ x. f.a ++ x) (c.1 ∙ ap (λ x. terminal.Comma ∷ x) rest)) in
    subst (λ x. Is is.Negated (terminal.Relative ∷ x)) (sym all) (is.OneEventAtom (is.Relative f.front more))

pub more_relative_row : RowYields part.MoreRelative terminal.Comma (whole_event ++ item.Build action.Relative ∷ item.Part part.MoreRelative ∷ [])
more_relative_row us l = λ xs x.
    let f = event_front (item.Build action.Relative ∷ item.Part part.MoreRelative ∷ []) us l in
    let m = f.behind in
    let rest : us ≡ f.a ++ m.0 = f.is ∙ ap (λ y. f.a ++ y) (ended f.rest m.0 m.1 m.2 m.4) in
    subst (λ y. Is is.More (terminal.Comma ∷ xs ++ terminal.Comma ∷ y)) (sym rest) (is.NextEvent x (m.3 f.a f.front))

pub more_relative_rows : (k : Terminal) → IfRow (RowYields part.MoreRelative k) (row_of part.MoreRelative k)
unfolding row_of
more_relative_rows terminal.Comma = more_relative_row
more_relative_rows terminal.CloseParen = λ us l xs x. subst (λ y. Is is.More (terminal.Comma ∷ xs ++ terminal.CloseParen ∷ y)) (sym l) (is.LastEvent x)
more_relative_rows other = tt

pub prior_row : RowYields part.EventUnary terminal.Prior (folded (item.Build action.Prior) (item.Part part.MorePrior))
prior_row us l =
    let f = event_front (item.Token terminal.Comma ∷ whole_event ++ item.Build action.Prior ∷ item.Part part.MorePrior ∷ []) l.0 l.2 in
    let c = f.behind in
    let g = event_front (item.Build action.Prior ∷ item.Part part.MorePrior ∷ []) c.0 c.2 in
    let m = g.behind in
    let more = m.3 g.a g.front in
    let rest : c.0 ≡ g.a ++ m.0 = g.is ∙ ap (λ x. g.a ++ x) (ended g.rest m.0 m.1 m.2 m.4) in
    let all : us ≡ terminal.OpenParen ∷ f.a ++ (terminal.Comma ∷ g.a ++ m.0) =
    l.1 ∙ ap (λ x. terminal.OpenParen ∷ x) (f.is ∙ ap (λ x. f.a ++ x) (c.1 ∙ ap (λ x. terminal.Comma ∷ x) rest)) in
    subst (λ x. Is is.Negated (terminal.Prior ∷ x)) (sym all) (is.OneEventAtom (is.Prior f.front more))

pub more_prior_row : RowYields part.MorePrior terminal.Comma (whole_event ++ item.Build action.Prior ∷ item.Part part.MorePrior ∷ [])
more_prior_row us l = λ xs x.
    let f = event_front (item.Build action.Prior ∷ item.Part part.MorePrior ∷ []) us l in
    let m = f.behind in
    let rest : us ≡ f.a ++ m.0 = f.is ∙ ap (λ y. f.a ++ y) (ended f.rest m.0 m.1 m.2 m.4) in
    subst (λ y. Is is.More (terminal.Comma ∷ xs ++ terminal.Comma ∷ y)) (sym rest) (is.NextEvent x (m.3 f.a f.front))

pub more_prior_rows : (k : Terminal) → IfRow (RowYields part.MorePrior k) (row_of part.MorePrior k)
unfolding row_of
more_prior_rows terminal.Comma = more_prior_row
more_prior_rows terminal.CloseParen = λ us l xs x. subst (λ y. Is is.More (terminal.Comma ∷ xs ++ terminal.CloseParen ∷ y)) (sym l) (is.LastEvent x)
more_prior_rows other = tt

pub sequence_row : RowYields part.EventUnary terminal.Sequence (folded (item.Build action.Sequence) (item.Part part.MoreSequence))
sequence_row us l =
    let f = event_front (item.Token terminal.Comma ∷ whole_event ++ item.Build action.Sequence ∷ item.Part part.MoreSequence ∷ []) l.0 l.2 in
    let c = f.behind in
    let g = event_front (item.Build action.Sequence ∷ item.Part part.MoreSequence ∷ []) c.0 c.2 in
    let m = g.behind in
    let more = m.3 g.a g.front in
    let rest : c.0 ≡ g.a ++ m.0 = g.is ∙ ap (λ x. g.a ++ x) (ended g.rest m.0 m.1 m.2 m.4) in
    let all : us ≡ terminal.OpenParen ∷ f.a ++ (terminal.Comma ∷ g.a ++ m.0) =
    l.1 ∙ ap (λ x. terminal.OpenParen ∷ x) (f.is ∙ ap (λ x. f.a ++ x) (c.1 ∙ ap (λ x. terminal.Comma ∷ x) rest)) in
    subst (λ x. Is is.Negated (terminal.Sequence ∷ x)) (sym all) (is.OneEventAtom (is.Sequence f.front more))

pub more_sequence_row : RowYields part.MoreSequence terminal.Comma (whole_event ++ item.Build action.Sequence ∷ item.Part part.MoreSequence ∷ [])
more_sequence_row us l = λ xs x.
    let f = event_front (item.Build action.Sequence ∷ item.Part part.MoreSequence ∷ []) us l in
    let m = f.behind in
    let rest : us ≡ f.a ++ m.0 = f.is ∙ ap (λ y. f.a ++ y) (ended f.rest m.0 m.1 m.2 m.4) in
    subst (λ y. Is is.More (terminal.Comma ∷ xs ++ terminal.Comma ∷ y)) (sym rest) (is.NextEvent x (m.3 f.a f.front))

pub more_sequence_rows : (k : Terminal) → IfRow (RowYields part.MoreSequence k) (row_of part.MoreSequence k)
unfolding row_of
more_sequence_rows terminal.Comma = more_sequence_row
more_sequence_rows terminal.CloseParen = λ us l xs x. subst (λ y. Is is.More (terminal.Comma ∷ xs ++ terminal.CloseParen ∷ y)) (sym l) (is.LastEvent x)
more_sequence_rows other = tt

pub choose_row : RowYields part.EventUnary terminal.Choose (counted (item.Build action.Choose))
choose_row us l =
    let o = l.2 in
    let f = event_front (item.Token terminal.CloseParen ∷ item.Build action.Choose ∷ []) o.0 o.2 in
    let c = f.behind in
    let all : us ≡ terminal.Count ∷ terminal.OpenParen ∷ f.a ++ terminal.CloseParen ∷ [] =
    l.1 ∙ ap (λ x. terminal.Count ∷ x) (o.1 ∙ ap (λ x. terminal.OpenParen ∷ x) (f.is ∙ ap (λ x. f.a ++ x) (c.1 ∙ ap (λ x. terminal.CloseParen ∷ x) c.2))) in
    subst (λ x. Is is.Negated (terminal.Choose ∷ x)) (sym all) (is.OneEventAtom (is.Choose f.front))

pub every_row : RowYields part.EventUnary terminal.Every (counted (item.Build action.Every))
every_row us l =
    let o = l.2 in
    let f = event_front (item.Token terminal.CloseParen ∷ item.Build action.Every ∷ []) o.0 o.2 in
    let c = f.behind in
    let all : us ≡ terminal.Count ∷ terminal.OpenParen ∷ f.a ++ terminal.CloseParen ∷ [] =
    l.1 ∙ ap (λ x. terminal.Count ∷ x) (o.1 ∙ ap (λ x. terminal.OpenParen ∷ x) (f.is ∙ ap (λ x. f.a ++ x) (c.1 ∙ ap (λ x. terminal.CloseParen ∷ x) c.2))) in
    subst (λ x. Is is.Negated (terminal.Every ∷ x)) (sym all) (is.OneEventAtom (is.Every f.front))

pub row_of_one : (k : Terminal) (a : Action)
    → ((ts : List Terminal) → Is is.Event ts → Is is.EventAtom (k ∷ terminal.OpenParen ∷ ts ++ terminal.CloseParen ∷ []))
    → RowYields part.EventUnary k (of_one (item.Build a))
row_of_one k a make us l =
    let f = event_front (item.Token terminal.CloseParen ∷ item.Build a ∷ []) l.0 l.2 in
    let c = f.behind in
    let all : us ≡ terminal.OpenParen ∷ f.a ++ terminal.CloseParen ∷ [] =
    l.1 ∙ ap (λ x. terminal.OpenParen ∷ x) (f.is ∙ ap (λ x. f.a ++ x) (c.1 ∙ ap (λ x. terminal.CloseParen ∷ x) c.2)) in
    subst (λ x. Is is.Negated (k ∷ x)) (sym all) (is.OneEventAtom (make f.a f.front))

pub row_of_two : (k : Terminal) (a : Action)
    → ((ts us : List Terminal) → Is is.Event ts → Is is.Event us → Is is.EventAtom (k ∷ terminal.OpenParen ∷ ts ++ terminal.Comma ∷ us ++ terminal.CloseParen ∷ []))
    → RowYields part.EventUnary k (of_two (item.Build a))
row_of_two k a make us l =
    let last = item.Token terminal.CloseParen ∷ item.Build a ∷ [] in
    let f = event_front (item.Token terminal.Comma ∷ whole_event ++ last) l.0 l.2 in
    let c = f.behind in
    let g = event_front last c.0 c.2 in
    let d = g.behind in
    let second : c.0 ≡ g.a ++ terminal.CloseParen ∷ [] = g.is ∙ ap (λ x. g.a ++ x) (d.1 ∙ ap (λ x. terminal.CloseParen ∷ x) d.2) in
    let first : l.0 ≡ f.a ++ (terminal.Comma ∷ (g.a ++ terminal.CloseParen ∷ [])) = f.is ∙ ap (λ x. f.a ++ x) (c.1 ∙ ap (λ x. terminal.Comma ∷ x) second) in
    let all = l.1 ∙ ap (λ x. terminal.OpenParen ∷ x) (first ∙ sym (regrouped f.a g.a)) in
    subst (λ x. Is is.Negated (k ∷ x)) (sym all) (is.OneEventAtom (make f.a g.a f.front g.front))
  where
    regrouped : (ts us : List Terminal) → (ts ++ terminal.Comma ∷ us) ++ terminal.CloseParen ∷ [] ≡ ts ++ (terminal.Comma ∷ (us ++ terminal.CloseParen ∷ []))
    regrouped ts us = simp append_assoc

pub row_of_three : (k : Terminal) (a : Action)
    → ((ts us vs : List Terminal) → Is is.Event ts → Is is.Event us → Is is.Event vs
    → Is is.EventAtom (k ∷ terminal.OpenParen ∷ ts ++ terminal.Comma ∷ us ++ terminal.Comma ∷ vs ++ terminal.CloseParen ∷ []))
    → RowYields part.EventUnary k (of_three (item.Build a))
row_of_three k a make us l =
    let last = item.Token terminal.CloseParen ∷ item.Build a ∷ [] in
    let f = event_front (item.Token terminal.Comma ∷ whole_event ++ item.Token terminal.Comma ∷ whole_event ++ last) l.0 l.2 in
    let c = f.behind in
    let g = event_front (item.Token terminal.Comma ∷ whole_event ++ last) c.0 c.2 in
    let d = g.behind in
    let h = event_front last d.0 d.2 in
    let e = h.behind in
    let third : d.0 ≡ h.a ++ terminal.CloseParen ∷ [] = h.is ∙ ap (λ x. h.a ++ x) (e.1 ∙ ap (λ x. terminal.CloseParen ∷ x) e.2) in
    let second : c.0 ≡ g.a ++ (terminal.Comma ∷ (h.a ++ terminal.CloseParen ∷ [])) = g.is ∙ ap (λ x. g.a ++ x) (d.1 ∙ ap (λ x. terminal.Comma ∷ x) third) in
    let first : l.0 ≡ f.a ++ (terminal.Comma ∷ (g.a ++ (terminal.Comma ∷ (h.a ++ terminal.CloseParen ∷ [])))) = f.is ∙ ap (λ x. f.a ++ x) (c.1 ∙ ap (λ x. terminal.Comma ∷ x) second) in
    let all = l.1 ∙ ap (λ x. terminal.OpenParen ∷ x) (first ∙ sym (regrouped f.a g.a h.a)) in
    subst (λ x. Is is.Negated (k ∷ x)) (sym all) (is.OneEventAtom (make f.a g.a h.a f.front g.front h.front))
  where
    regrouped : (ts us vs : List Terminal)
        → ((ts ++ terminal.Comma ∷ us) ++ terminal.Comma ∷ vs) ++ terminal.CloseParen ∷ []
        ≡ ts ++ (terminal.Comma ∷ (us ++ (terminal.Comma ∷ (vs ++ terminal.CloseParen ∷ []))))
    regrouped ts us vs = simp append_assoc

pub event_unary_rows : (k : Terminal) → IfRow (RowYields part.EventUnary k) (row_of part.EventUnary k)
unfolding row_of
event_unary_rows terminal.Not = λ us l. subst (λ x. Is is.Negated (terminal.Not ∷ x)) (sym (ended us l.0 l.1 l.2 l.4)) (is.NotEvent l.3)
event_unary_rows terminal.OpenParen = event_paren_row
event_unary_rows terminal.Any = λ us l. subst (λ x. Is is.Negated (terminal.Any ∷ x)) (sym l) (is.OneEventAtom is.AnyPoint)
event_unary_rows terminal.First = λ us l. subst (λ x. Is is.Negated (terminal.First ∷ x)) (sym l) (is.OneEventAtom is.FirstPoint)
event_unary_rows terminal.After = kind_row terminal.After part.AfterWhat (λ us x. x)
event_unary_rows terminal.Before = kind_row terminal.Before part.BeforeWhat (λ us x. x)
event_unary_rows terminal.Time = kind_row terminal.Time part.TimeWhat (λ us x. x)
event_unary_rows terminal.Relative = relative_row
event_unary_rows terminal.Prior = prior_row
event_unary_rows terminal.Sequence = sequence_row
event_unary_rows terminal.Choose = choose_row
event_unary_rows terminal.Every = every_row
event_unary_rows terminal.Fa = row_of_three terminal.Fa action.Fa (λ ts us vs x y z. is.Fa x y z)
event_unary_rows terminal.FaAbs = row_of_three terminal.FaAbs action.FaAbs (λ ts us vs x y z. is.FaAbs x y z)
event_unary_rows terminal.RelPlus = row_of_one terminal.RelPlus action.RelPlus (λ ts x. is.RelPlus x)
event_unary_rows terminal.Pipe = row_of_two terminal.Pipe action.Pipe (λ ts us x y. is.Pipe x y)
event_unary_rows other = tt

pub event_ands_rows : (k : Terminal) → IfRow (RowYields part.EventAnds k) (row_of part.EventAnds k)
unfolding row_of
event_ands_rows terminal.And = λ us l xs t.
    let d = l.4 in
    let all : us ≡ l.0 ++ d.0 = l.2 ∙ ap (λ x. l.0 ++ x) (ended l.1 d.0 d.1 d.2 d.4) in
    subst (Is is.Conjoined) (sym (looped xs us l.0 d.0 terminal.And all)) (d.3 (xs ++ terminal.And ∷ l.0) (is.AndEvents t l.3))
event_ands_rows other = tt

pub event_ors_rows : (k : Terminal) → IfRow (RowYields part.EventOrs k) (row_of part.EventOrs k)
unfolding row_of
event_ors_rows terminal.Or = λ us l xs t.
    let f = conjoined_front (item.Build action.OrEvents ∷ item.Part part.EventOrs ∷ []) us l in
    let d = f.behind in
    let all : us ≡ f.a ++ d.0 = f.is ∙ ap (λ x. f.a ++ x) (ended f.rest d.0 d.1 d.2 d.4) in
    subst (Is is.Event) (sym (looped xs us f.a d.0 terminal.Or all)) (d.3 (xs ++ terminal.Or ∷ f.a) (is.OrEvents t f.front))
event_ors_rows other = tt

pub mask_rows : (k : Terminal) → IfRow (RowYields part.Mask k) (row_of part.Mask k)
unfolding row_of
mask_rows terminal.AndAnd = λ us l xs t.
    subst (λ x. Is is.EventAtom (xs ++ terminal.AndAnd ∷ x)) (sym (ended us l.0 l.1 l.2 l.4)) (is.Masked t l.3)
mask_rows other = tt

pub event_mask_rows : (k : Terminal) → IfRow (RowYields part.EventMask k) (row_of part.EventMask k)
unfolding row_of
event_mask_rows terminal.AndAnd = λ us l xs t.
    subst (λ x. Is is.EventAtom (terminal.OpenParen ∷ xs ++ terminal.CloseParen ∷ terminal.AndAnd ∷ x)) (sym (ended us l.0 l.1 l.2 l.4)) (is.MaskedBrackets t l.3)
event_mask_rows other = tt

pub kind_rows : (k : Terminal) → IfRow (RowYields part.Kind k) (row_of part.Kind k)
unfolding row_of
kind_rows terminal.After = λ us l. subst (λ x. Is is.Kind (terminal.After ∷ x)) (sym (ended us l.0 l.1 l.2 l.4)) l.3
kind_rows terminal.Before = λ us l. subst (λ x. Is is.Kind (terminal.Before ∷ x)) (sym (ended us l.0 l.1 l.2 l.4)) l.3
kind_rows terminal.Time = λ us l. subst (λ x. Is is.Kind (terminal.Time ∷ x)) (sym (ended us l.0 l.1 l.2 l.4)) l.3
kind_rows other = tt

pub after_what_rows : (k : Terminal) → IfRow (RowYields part.AfterWhat k) (row_of part.AfterWhat k)
unfolding row_of
after_what_rows terminal.Create = λ us l. subst (λ x. Is is.Kind (terminal.After ∷ terminal.Create ∷ x)) (sym l) is.AfterCreate
after_what_rows terminal.Name = λ us l. subst (λ x. Is is.Kind (terminal.After ∷ terminal.Name ∷ x)) (sym l) is.AfterMethod
after_what_rows terminal.TBegin = λ us l. subst (λ x. Is is.Kind (terminal.After ∷ terminal.TBegin ∷ x)) (sym l) is.AfterTBegin
after_what_rows terminal.TCommit = λ us l. subst (λ x. Is is.Kind (terminal.After ∷ terminal.TCommit ∷ x)) (sym l) is.AfterTCommit
after_what_rows terminal.TAbort = λ us l. subst (λ x. Is is.Kind (terminal.After ∷ terminal.TAbort ∷ x)) (sym l) is.AfterTAbort
after_what_rows terminal.NewVersion = λ us l. subst (λ x. Is is.Kind (terminal.After ∷ terminal.NewVersion ∷ x)) (sym l) is.AfterNewVersion
after_what_rows other = tt

pub before_what_rows : (k : Terminal) → IfRow (RowYields part.BeforeWhat k) (row_of part.BeforeWhat k)
unfolding row_of
before_what_rows terminal.Delete = λ us l. subst (λ x. Is is.Kind (terminal.Before ∷ terminal.Delete ∷ x)) (sym l) is.BeforeDelete
before_what_rows terminal.Name = λ us l. subst (λ x. Is is.Kind (terminal.Before ∷ terminal.Name ∷ x)) (sym l) is.BeforeMethod
before_what_rows terminal.TComplete = λ us l. subst (λ x. Is is.Kind (terminal.Before ∷ terminal.TComplete ∷ x)) (sym l) is.BeforeTComplete
before_what_rows terminal.DropVersion = λ us l. subst (λ x. Is is.Kind (terminal.Before ∷ terminal.DropVersion ∷ x)) (sym l) is.BeforeDropVersion
before_what_rows other = tt

pub time_what_rows : (k : Terminal) → IfRow (RowYields part.TimeWhat k) (row_of part.TimeWhat k)
unfolding row_of
time_what_rows terminal.Every = λ us l. subst (λ x. Is is.Kind (terminal.Time ∷ terminal.Every ∷ x)) (sym (ended us l.0 l.1 l.2 l.4)) l.3
time_what_rows terminal.At = λ us l. subst (λ x. Is is.Kind (terminal.Time ∷ terminal.At ∷ x)) (sym (l.1 ∙ ap (λ x. terminal.Instant ∷ x) l.2)) is.AtInstant
time_what_rows other = tt

pub period_rows : (k : Terminal) → IfRow (RowYields part.Period k) (row_of part.Period k)
unfolding row_of
period_rows terminal.Seconds = λ us l. subst (λ x. Is is.Kind (terminal.Time ∷ terminal.Every ∷ terminal.Seconds ∷ x)) (sym l) is.EverySeconds
period_rows terminal.Count = λ us l. subst (λ x. Is is.Kind (terminal.Time ∷ terminal.Every ∷ terminal.Count ∷ x)) (sym l) is.EveryCount
period_rows other = tt
