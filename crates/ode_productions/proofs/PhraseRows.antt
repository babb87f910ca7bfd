-- What the rows of statements and classes derive is what the productions say.
use Rattle.std.proofs.Common.{◌≡◌, ℕ, suc, ◌⊎◌, inl, inr, List, [], ◌∷◌, ◌++◌, append_assoc, Option, Some, None, refl, sym, ◌∙◌, ap, subst}
use Rattle.std.proofs.lemmas.List.{append-nil}
use Rattle.ode_grammar.specs.declared.item.Part.{Part}
use Rattle.ode_grammar.specs.declared.item.Part.TheVariants as part
use Rattle.ode_grammar.specs.declared.item.Action.TheVariants as action
use Rattle.ode_grammar.specs.declared.item.Item.{Item}
use Rattle.ode_grammar.specs.declared.item.Item.TheVariants as item
use Rattle.ode_grammar.specs.declared.terminal.Terminal.{Terminal}
use Rattle.ode_grammar.specs.declared.terminal.Terminal.TheVariants as terminal
use Rattle.ode_grammar.specs.Expressions.{atom, behind_unary, comp, conj, sum}
use Rattle.ode_grammar.specs.Events.{event as whole_event}
use Rattle.ode_grammar.specs.Changes.{additions, change}
use Rattle.ode_grammar.specs.Comparisons.{comparison}
use Rattle.ode_grammar.specs.Grammar.{row_of}
use Rattle.ode_grammar.specs.Queries.{exprs, query, range}
use Rattle.ode_grammar.specs.Statements.{body, done, dotted_call, new}
use Rattle.ode_grammar.proofs.Follows.{IfRow}
use Rattle.ode_productions.specs.Productions.{Is, Symbol}
use Rattle.ode_productions.specs.Productions as is
use Rattle.ode_productions.specs.Phrases.{Phrase, Says, AArguments, AMoreArguments, ADotted, ASets, AMoreSets, AChange, AGiven, ARight, ASimple, AInner, AInners, AOtherwise, ASort, AParams, AMoreKinds, AInitially, ALasts, AScoped, AModed, AMember, AMembers, AParented, AClass, ALiteral, AAdditions, AClassChange, ATest, AExpressions, AQuery, AComparison, AStatement, AMoreParams, AMoreRanges}
use Rattle.ode_productions.specs.Phrases as says
use Rattle.ode_productions.proofs.Rows.{ended, event_front, extend, one, split, to_comparison, to_conjunction, to_expression, to_sum, to_term, unary_rows, Front, PartYields, RowYields, Yields}
use Rattle.ode_productions.proofs.Texts.{longer}

-- ---- expressions in front of items

expression_front : (items : List Item) (us : List Terminal) → Front is.Unary (behind_unary ++ items) us → Front is.Expression items us
expression_front items us f =
    let ors = item.Part part.Ors ∷ items in
    let ands = item.Part part.Ands ∷ ors in
    let compares = item.Part part.Compare ∷ ands in
    let sums = item.Part part.Sums ∷ compares in
    to_expression items us (to_conjunction ors us (to_comparison ands us (to_sum compares us (to_term sums us f))))

then_row : (p : Part) (k : Terminal) (items : List Item) → ((us : List Terminal) → Front is.Expression items us → PartYields p us)
    → (r : Option (List Item)) → IfRow (RowYields part.Unary k) r → IfRow (RowYields p k) (longer (behind_unary ++ items) r)
then_row p k items f None y = tt
then_row p k items f (Some row) y = λ us l.
    let x = split row (behind_unary ++ items) us l in
    f (k ∷ us) (expression_front items (k ∷ us) (record { a = k ∷ x.a; rest = x.b; is = ap (λ z. k ∷ z) x.is; front = y x.a x.first; behind = x.behind }))

chain_expression : (xs : List Terminal) → Is is.Chain xs → Is is.Expression xs
chain_expression xs c = is.OneConjunction (is.OneComparison (is.OneSum (is.OneTerm (is.OneUnary (is.OneChain c)))))

-- behind an operator, where a chain stands before it
term_again : (items : List Item) (us : List Terminal) → Front is.Term (item.Part part.Factors ∷ items) us → Front is.Term items us
term_again items us f = extend is.Term is.Term part.Factors items us (λ a b x y. y a x) f

sum_again : (items : List Item) (us : List Terminal) → Front is.Sum (item.Part part.Sums ∷ items) us → Front is.Sum items us
sum_again items us f = extend is.Sum is.Sum part.Sums items us (λ a b x y. y a x) f

conjunction_again : (items : List Item) (us : List Terminal) → Front is.Conjunction (item.Part part.Ands ∷ items) us → Front is.Conjunction items us
conjunction_again items us f = extend is.Conjunction is.Conjunction part.Ands items us (λ a b x y. y a x) f

expression_again : (items : List Item) (us : List Terminal) → Front is.Expression (item.Part part.Ors ∷ items) us → Front is.Expression items us
expression_again items us f = extend is.Expression is.Expression part.Ors items us (λ a b x y. y a x) f

-- two symbols with a token between them
joined : (s t : Symbol) (items : List Item) (xs us : List Terminal) (k : Terminal) → ((ys : List Terminal) → Is s ys → Is t (xs ++ k ∷ ys)) → Front s items us
    → Front t items (xs ++ k ∷ us)
joined s t items xs us k make f = record {
  a = xs ++ k ∷ f.a;
  rest = f.rest;
  is = ap (λ z. xs ++ k ∷ z) f.is ∙ sym (append_assoc xs (k ∷ f.a) f.rest);
  front = make f.a f.front;
  behind = f.behind;
}

abbrev O : List Item → List Item
O items = item.Part part.Ors ∷ items

abbrev A : List Item → List Item
A items = item.Part part.Ands ∷ O items

abbrev C : List Item → List Item
C items = item.Part part.Compare ∷ A items

abbrev S : List Item → List Item
S items = item.Part part.Sums ∷ C items

abbrev F : List Item → List Item
F items = item.Part part.Factors ∷ S items

times_front : (items : List Item) (us xs : List Terminal) → Is is.Chain xs → Yields (item.Part part.Unary ∷ F items) us
    → Front is.Expression items (xs ++ terminal.Times ∷ us)
times_front items us xs c l =
    let t = joined is.Unary is.Term (F items) xs us terminal.Times (λ ys y. is.Factor (is.OneUnary (is.OneChain c)) y) (one (F items) us l) in
    let ts = xs ++ terminal.Times ∷ us in
    to_expression items ts (to_conjunction (O items) ts (to_comparison (A items) ts (to_sum (C items) ts (term_again (S items) ts t))))

plus_front : (items : List Item) (us xs : List Terminal) → Is is.Chain xs → Yields (item.Part part.Unary ∷ item.Part part.Factors ∷ S items) us
    → Front is.Expression items (xs ++ terminal.Plus ∷ us)
plus_front items us xs c l =
    let t = joined is.Term is.Sum (S items) xs us terminal.Plus (λ ys y. is.Plus (is.OneTerm (is.OneUnary (is.OneChain c))) y) (to_term (S items) us (one (item.Part part.Factors ∷ S items) us l)) in
    let ts = xs ++ terminal.Plus ∷ us in
    to_expression items ts (to_conjunction (O items) ts (to_comparison (A items) ts (sum_again (C items) ts t)))

minus_front : (items : List Item) (us xs : List Terminal) → Is is.Chain xs → Yields (item.Part part.Unary ∷ item.Part part.Factors ∷ S items) us
    → Front is.Expression items (xs ++ terminal.Minus ∷ us)
minus_front items us xs c l =
    let t = joined is.Term is.Sum (S items) xs us terminal.Minus (λ ys y. is.Less (is.OneTerm (is.OneUnary (is.OneChain c))) y) (to_term (S items) us (one (item.Part part.Factors ∷ S items) us l)) in
    let ts = xs ++ terminal.Minus ∷ us in
    to_expression items ts (to_conjunction (O items) ts (to_comparison (A items) ts (sum_again (C items) ts t)))

compares_front : (items : List Item) (us xs : List Terminal) → Is is.Chain xs → Yields (sum ++ A items) us → Front is.Expression items (xs ++ terminal.Compares ∷ us)
compares_front items us xs c l =
    let t = joined is.Sum is.Comparison (A items) xs us terminal.Compares (λ ys y. is.Compared (is.OneTerm (is.OneUnary (is.OneChain c))) y)
    (to_sum (A items) us (to_term (item.Part part.Sums ∷ A items) us (one (item.Part part.Factors ∷ item.Part part.Sums ∷ A items) us l))) in
    let ts = xs ++ terminal.Compares ∷ us in
    to_expression items ts (to_conjunction (O items) ts t)

and_front : (items : List Item) (us xs : List Terminal) → Is is.Chain xs → Yields (comp ++ A items) us → Front is.Expression items (xs ++ terminal.AndAnd ∷ us)
and_front items us xs c l =
    let t = joined is.Comparison is.Conjunction (A items) xs us terminal.AndAnd (λ ys y. is.And (is.OneComparison (is.OneSum (is.OneTerm (is.OneUnary (is.OneChain c))))) y)
    (to_comparison (A items) us (to_sum (item.Part part.Compare ∷ A items) us (to_term (item.Part part.Sums ∷ item.Part part.Compare ∷ A items) us
    (one (item.Part part.Factors ∷ item.Part part.Sums ∷ item.Part part.Compare ∷ A items) us l)))) in
    let ts = xs ++ terminal.AndAnd ∷ us in
    to_expression items ts (conjunction_again (O items) ts t)

or_front : (items : List Item) (us xs : List Terminal) → Is is.Chain xs → Yields (conj ++ O items) us → Front is.Expression items (xs ++ terminal.OrOr ∷ us)
or_front items us xs c l =
    let more = item.Part part.Ands ∷ O items in
    let t = joined is.Conjunction is.Expression (O items) xs us terminal.OrOr (λ ys y. is.Or (chain_expression xs c) y)
    (to_conjunction (O items) us (to_comparison more us (to_sum (item.Part part.Compare ∷ more) us (to_term (item.Part part.Sums ∷ item.Part part.Compare ∷ more) us
    (one (item.Part part.Factors ∷ item.Part part.Sums ∷ item.Part part.Compare ∷ more) us l))))) in
    expression_again items (xs ++ terminal.OrOr ∷ us) t

signed_front : (k : Terminal) (items : List Item) → ((ts : List Terminal) → Is is.Unary ts → Is is.Unary (k ∷ ts)) → (us : List Terminal)
    → Yields (item.Part part.Unary ∷ behind_unary ++ items) us → Front is.Expression items (k ∷ us)
signed_front k items make us l =
    expression_front items (k ∷ us) (record { a = k ∷ l.0; rest = l.1; is = ap (λ x. k ∷ x) l.2; front = make l.0 l.3; behind = l.4 })

-- ---- atoms in front of items

abbrev AtomIs : List Item → Terminal → List Item → Type 0
AtomIs items k row = (us : List Terminal) → Yields row us → Front is.Atom items (k ∷ us)

one_token : (items : List Item) (k : Terminal) → Is is.Atom (k ∷ []) → AtomIs items k items
one_token items k a us l = record { a = k ∷ []; rest = us; is = refl; front = a; behind = l }

atom_rows : (items : List Item) (k : Terminal) → IfRow (AtomIs items k) (atom items k)
atom_rows items terminal.Leaf = one_token items terminal.Leaf is.LeafAtom
atom_rows items terminal.Number = one_token items terminal.Number is.NumberAtom
atom_rows items terminal.Seconds = one_token items terminal.Seconds is.SecondsAtom
atom_rows items terminal.Count = one_token items terminal.Count is.CountAtom
atom_rows items terminal.Text = one_token items terminal.Text is.TextAtom
atom_rows items terminal.Instant = one_token items terminal.Instant is.InstantAtom
atom_rows items terminal.OpenParen = λ us l. record {
  a = terminal.OpenParen ∷ l.0 ++ terminal.CloseParen ∷ [];
  rest = l.4.0;
  is = ap (λ x. terminal.OpenParen ∷ x) (l.2 ∙ (ap (λ x. l.0 ++ x) l.4.1 ∙ sym (append_assoc l.0 (terminal.CloseParen ∷ []) l.4.0)));
  front = is.Brackets l.3;
  behind = l.4.2;
}
atom_rows items terminal.Version = λ us l. record {
  a = terminal.Version ∷ terminal.OpenParen ∷ l.2.0 ++ terminal.CloseParen ∷ [];
  rest = l.2.4.0;
  is = ap (λ x. terminal.Version ∷ x)
      (l.1 ∙ ap (λ x. terminal.OpenParen ∷ x) (l.2.2 ∙ (ap (λ x. l.2.0 ++ x) l.2.4.1 ∙ sym (append_assoc l.2.0 (terminal.CloseParen ∷ []) l.2.4.0))));
  front = is.VersionOf l.2.3;
  behind = l.2.4.2;
}
atom_rows items other = tt

atom_case : (p : Part) (k : Terminal) (items : List Item) → ((us : List Terminal) → Front is.Atom items us → PartYields p us) → (r : Option (List Item))
    → IfRow (AtomIs items k) r → IfRow (RowYields p k) r
atom_case p k items f None y = tt
atom_case p k items f (Some row) y = λ us l. f (k ∷ us) (y us l)

atom_then : (p : Part) (k : Terminal) (items : List Item) → ((us : List Terminal) → Front is.Atom items us → PartYields p us) → IfRow (RowYields p k) (atom items k)
atom_then p k items f = atom_case p k items f (atom items k) (atom_rows items k)

-- ---- phrases in front of items

record Fronted (s : Phrase) (items : List Item) (us : List Terminal) : Type 0 where
  pub a : List Terminal
  pub rest : List Terminal
  pub is : us ≡ a ++ rest
  pub front : Says s a
  pub behind : Yields items rest

-- a phrase and the semicolon behind it, and what comes then
record Closed (s : Phrase) (items : List Item) (us : List Terminal) : Type 0 where
  pub a : List Terminal
  pub rest : List Terminal
  pub is : us ≡ (a ++ terminal.Semi ∷ []) ++ rest
  pub front : Says s a
  pub behind : Yields items rest

closed : (s : Phrase) (items : List Item) (us : List Terminal) → Fronted s (item.Token terminal.Semi ∷ items) us → Closed s items us
closed s items us f =
    let b = f.behind in
    record { a = f.a; rest = b.0; is = f.is ∙ (ap (λ x. f.a ++ x) b.1 ∙ sym (append_assoc f.a (terminal.Semi ∷ []) b.0)); front = f.front; behind = b.2 }

-- an expression and the semicolon that ends it
closed_end : (us a rest : List Terminal) → us ≡ (a ++ terminal.Semi ∷ []) ++ rest → rest ≡ [] → us ≡ a ++ terminal.Semi ∷ []
closed_end us a rest e f = e ∙ (ap (λ x. (a ++ terminal.Semi ∷ []) ++ x) f ∙ append-nil (a ++ terminal.Semi ∷ []))

abbrev plain_items : List Item
plain_items = item.Build action.Plain ∷ item.Token terminal.Semi ∷ []

plain_end : (us : List Terminal) → Front is.Expression plain_items us → Says AGiven us
plain_end us f =
    let b = f.behind in
    subst (Says AGiven) (sym (f.is ∙ ap (λ x. f.a ++ x) (b.1 ∙ ap (λ x. terminal.Semi ∷ x) b.2))) (says.GivenExpression f.front)

given_right : (us : List Terminal) → Says AGiven us → Says ARight us
given_right us g = says.OneGiven g

same_given : (us : List Terminal) → Says AGiven us → Says AGiven us
same_given us g = g

-- ---- calls by a reference

dotted_from : (xs : List Terminal) → Is is.Chain xs → (us : List Terminal) → Yields dotted_call us → Says ADotted (xs ++ us)
dotted_from xs c us l =
    let n = l.2 in
    let d = n.2 in
    subst (λ x. Says ADotted (xs ++ x)) (sym (l.1 ∙ ap (λ x. terminal.Dot ∷ x) (n.1 ∙ ap (λ x. terminal.Name ∷ x) (ended n.0 d.0 d.1 d.2 d.4)))) (d.3 xs c)

dotted_front : (us : List Terminal) → Front is.Atom dotted_call us → Says ADotted us
dotted_front us f = subst (Says ADotted) (sym f.is) (dotted_from f.a (is.OneAtom f.front) f.rest f.behind)

dotted_done : (items : List Item) (us : List Terminal) → Front is.Atom (dotted_call ++ item.Build action.Call ∷ items) us → Fronted ADotted items us
dotted_done items us f =
    let l = f.behind in
    let n = l.2 in
    let d = n.2 in
    record {
      a = f.a ++ terminal.Dot ∷ terminal.Name ∷ d.0;
      rest = d.1;
      is = f.is ∙ (ap (λ x. f.a ++ x) (l.1 ∙ ap (λ x. terminal.Dot ∷ x) (n.1 ∙ ap (λ x. terminal.Name ∷ x) d.2)) ∙ sym (append_assoc f.a (terminal.Dot ∷ terminal.Name ∷ d.0) d.1));
      front = d.3 f.a (is.OneAtom f.front);
      behind = d.4;
    }

call_given : (xs us : List Terminal) → Is is.Chain xs → Yields (item.Part part.Args ∷ item.Token terminal.Semi ∷ []) us
    → Says AGiven (xs ++ terminal.Dot ∷ terminal.Name ∷ terminal.OpenParen ∷ us)
call_given xs us c l =
    let b = l.4 in
    let e : us ≡ l.0 ++ terminal.Semi ∷ [] = l.2 ∙ ap (λ x. l.0 ++ x) (b.1 ∙ ap (λ x. terminal.Semi ∷ x) b.2) in
    subst (Says AGiven)
    (sym (ap (λ x. xs ++ terminal.Dot ∷ terminal.Name ∷ terminal.OpenParen ∷ x) e
    ∙ sym (append_assoc xs (terminal.Dot ∷ terminal.Name ∷ terminal.OpenParen ∷ l.0) (terminal.Semi ∷ []))))
    (says.GivenCall (says.DottedCall c l.3))

name_call : (us : List Terminal) → Yields (item.Token terminal.Name ∷ item.Part part.CallDot ∷ item.Token terminal.Semi ∷ []) us
    → Says AInner (terminal.Name ∷ terminal.Dot ∷ us)
name_call us l =
    let d = l.2 in
    let b = d.4 in
    let e : us ≡ terminal.Name ∷ d.0 ++ terminal.Semi ∷ [] = l.1 ∙ ap (λ x. terminal.Name ∷ x) (d.2 ∙ ap (λ x. d.0 ++ x) (b.1 ∙ ap (λ x. terminal.Semi ∷ x) b.2)) in
    subst (λ x. Says AInner (terminal.Name ∷ terminal.Dot ∷ x)) (sym e) (says.OneSimple (says.DoCall (d.3 (terminal.Name ∷ []) (is.OneAtom is.NameAtom))))

dots_end : (us : List Terminal) → Front is.Atom (item.Part part.RhsDots ∷ []) us → Says AGiven us
dots_end us f =
    let d = f.behind in
    subst (Says AGiven) (sym (f.is ∙ ap (λ x. f.a ++ x) (ended f.rest d.0 d.1 d.2 d.4))) (d.3 f.a (is.OneAtom f.front))

-- ---- changes

new_front : (items : List Item) (us : List Terminal) → Yields (new ++ items) us → Fronted AChange items (terminal.PNew ∷ us)
new_front items us l =
    let o = l.2 in
    let p = o.2 in
    record {
      a = terminal.PNew ∷ terminal.Name ∷ terminal.OpenParen ∷ p.0;
      rest = p.1;
      is = ap (λ x. terminal.PNew ∷ x) (l.1 ∙ ap (λ x. terminal.Name ∷ x) (o.1 ∙ ap (λ x. terminal.OpenParen ∷ x) p.2));
      front = says.NewObject p.3;
      behind = p.4;
    }

newversion_front : (items : List Item) (us : List Terminal) → Yields (item.Part part.Expr ∷ items) us → Fronted AChange items (terminal.NewVersion ∷ us)
newversion_front items us l =
    record { a = terminal.NewVersion ∷ l.0; rest = l.1; is = ap (λ x. terminal.NewVersion ∷ x) l.2; front = says.NewVersion l.3; behind = l.4 }

activate_front : (items : List Item) (us : List Terminal) → Yields (item.Part part.Chained ∷ items) us → Fronted AChange items (terminal.Activate ∷ us)
activate_front items us l =
    record { a = terminal.Activate ∷ l.0; rest = l.1; is = ap (λ x. terminal.Activate ∷ x) l.2; front = says.Activate l.3; behind = l.4 }

change_given : (us : List Terminal) → Fronted AChange (item.Token terminal.Semi ∷ []) us → Says AGiven us
change_given us f =
    let x = closed AChange [] us f in
    subst (Says AGiven) (sym (closed_end us x.a x.rest x.is x.behind)) (says.GivenChange x.front)

change_right : (us : List Terminal) → Fronted AChange (item.Token terminal.Semi ∷ []) us → Says ARight us
change_right us f = says.OneGiven (change_given us f)

-- ---- statements

done_front : (s : Phrase) (us : List Terminal) (items : List Item) → ((ts : List Terminal) → Says s ts → Says ASimple (ts ++ terminal.Semi ∷ [])) → Fronted s (done items) us
    → Fronted ASimple items us
done_front s us items make f =
    let x = closed s (item.Build action.Do ∷ items) us f in
    record { a = x.a ++ terminal.Semi ∷ []; rest = x.rest; is = x.is; front = make x.a x.front; behind = x.behind }

say_front : (k : Terminal) (items : List Item) → ((ts : List Terminal) → Is is.Expression ts → Says ASimple (k ∷ ts ++ terminal.Semi ∷ [])) → (us : List Terminal)
    → Yields (item.Part part.Expr ∷ item.Token terminal.Semi ∷ items) us → Fronted ASimple items (k ∷ us)
say_front k items make us l =
    let b = l.4 in
    record {
      a = k ∷ l.0 ++ terminal.Semi ∷ [];
      rest = b.0;
      is = ap (λ x. k ∷ x) (l.2 ∙ (ap (λ x. l.0 ++ x) b.1 ∙ sym (append_assoc l.0 (terminal.Semi ∷ []) b.0)));
      front = make l.0 l.3;
      behind = b.2;
    }

deactivate_front : (items : List Item) (us : List Terminal)
    → Yields (item.Part part.Expr ∷ item.Token terminal.Comma ∷ item.Part part.Expr ∷ item.Token terminal.Semi ∷ items) us
    → Fronted ASimple items (terminal.Deactivate ∷ us)
deactivate_front items us l =
    let b = l.4 in
    let x = b.2 in
    let c = x.4 in
    let q : l.0 ++ (terminal.Comma ∷ (x.0 ++ (terminal.Semi ∷ c.0))) ≡ ((l.0 ++ terminal.Comma ∷ x.0) ++ terminal.Semi ∷ []) ++ c.0 = simp append_assoc in
    record {
      a = terminal.Deactivate ∷ l.0 ++ terminal.Comma ∷ x.0 ++ terminal.Semi ∷ [];
      rest = c.0;
      is = ap (λ y. terminal.Deactivate ∷ y) (l.2 ∙ (ap (λ y. l.0 ++ y) (b.1 ∙ ap (λ y. terminal.Comma ∷ y) (x.2 ∙ ap (λ y. x.0 ++ y) c.1)) ∙ q));
      front = says.Deactivate l.3 x.3;
      behind = c.2;
    }

abbrev next_items : List Item
next_items = item.Build action.Append ∷ item.Part part.Inners ∷ []

inner_end : (us : List Terminal) → Fronted AInner next_items us → Says AInners us
inner_end us f =
    let d = f.behind in
    subst (Says AInners) (sym (f.is ∙ ap (λ x. f.a ++ x) (ended f.rest d.0 d.1 d.2 d.4))) (says.MoreInners f.front d.3)

simple_inner : (us : List Terminal) → Fronted ASimple next_items us → Says AInners us
simple_inner us f = inner_end us (record { a = f.a; rest = f.rest; is = f.is; front = says.OneSimple f.front; behind = f.behind })

simple_alone : (us : List Terminal) → Fronted ASimple (item.Build action.Simple ∷ []) us → Says AStatement us
simple_alone us f = subst (Says AStatement) (sym (ended us f.a f.rest f.is f.behind)) (says.Alone f.front)

let_front : (us : List Terminal) → Yields (item.Token terminal.Name ∷ item.Token terminal.Assign ∷ item.Part part.Rhs ∷ next_items) us
    → Fronted AInner next_items (terminal.Let ∷ us)
let_front us l =
    let a = l.2 in
    let r = a.2 in
    record {
      a = terminal.Let ∷ terminal.Name ∷ terminal.Assign ∷ r.0;
      rest = r.1;
      is = ap (λ x. terminal.Let ∷ x) (l.1 ∙ ap (λ x. terminal.Name ∷ x) (a.1 ∙ ap (λ x. terminal.Assign ∷ x) r.2));
      front = says.Let r.3;
      behind = r.4;
    }

if_front : (us : List Terminal)
    → Yields (item.Token terminal.OpenParen ∷ item.Part part.Expr ∷ item.Token terminal.CloseParen ∷ body ++ item.Part part.Else ∷ item.Build action.If ∷ next_items) us
    → Fronted AInner next_items (terminal.If ∷ us)
if_front us l =
    let e = l.2 in
    let c = e.4 in
    let o = c.2 in
    let i = o.2 in
    let d = i.4 in
    let r = d.2 in
    let q : e.0 ++ (terminal.CloseParen ∷ (terminal.OpenBrace ∷ (i.0 ++ (terminal.CloseBrace ∷ (r.0 ++ r.1)))))
    ≡ ((e.0 ++ terminal.CloseParen ∷ (terminal.OpenBrace ∷ i.0 ++ terminal.CloseBrace ∷ [])) ++ r.0) ++ r.1 = simp append_assoc in
    record {
      a = terminal.If ∷ terminal.OpenParen ∷ e.0 ++ terminal.CloseParen ∷ (terminal.OpenBrace ∷ i.0 ++ terminal.CloseBrace ∷ []) ++ r.0;
      rest = r.1;
      is = ap (λ x. terminal.If ∷ x)
          (l.1 ∙ ap (λ x. terminal.OpenParen ∷ x)
          (e.2 ∙ (ap (λ x. e.0 ++ x) (c.1 ∙ ap (λ x. terminal.CloseParen ∷ x) (o.1 ∙ ap (λ x. terminal.OpenBrace ∷ x) (i.2 ∙ ap (λ x. i.0 ++ x) (d.1 ∙ ap (λ x. terminal.CloseBrace ∷ x) r.2)))) ∙ q)));
      front = says.If e.3 (says.Body i.3) r.3;
      behind = r.4;
    }

args_done : (us : List Terminal) → Front is.Expression (item.Build action.Argument ∷ item.Part part.MoreArgs ∷ []) us → Says AArguments us
args_done us f =
    let d = f.behind in
    subst (Says AArguments) (sym (f.is ∙ ap (λ x. f.a ++ x) (ended f.rest d.0 d.1 d.2 d.4))) (says.SomeArguments f.front d.3)

return_done : (us : List Terminal) → Front is.Expression (item.Token terminal.Semi ∷ item.Build action.Return ∷ []) us → Says AInner (terminal.Return ∷ us)
return_done us f =
    let b = f.behind in
    subst (λ x. Says AInner (terminal.Return ∷ x)) (sym (f.is ∙ ap (λ x. f.a ++ x) (b.1 ∙ ap (λ x. terminal.Semi ∷ x) b.2))) (says.Return f.front)

clock_end : (us : List Terminal) → Yields (item.Part part.ClockText ∷ item.Token terminal.Semi ∷ []) us → Says AStatement (terminal.Clock ∷ us)
clock_end us l = cases l.3
  where
    whole : (k : Terminal) → l.0 ≡ k ∷ [] → us ≡ k ∷ terminal.Semi ∷ []
    whole k e = l.2 ∙ (ap (λ x. x ++ l.1) e ∙ ap (λ x. k ∷ x) (l.4.1 ∙ ap (λ x. terminal.Semi ∷ x) l.4.2))

    cases : (l.0 ≡ terminal.Text ∷ []) ⊎ (l.0 ≡ terminal.Instant ∷ []) → Says AStatement (terminal.Clock ∷ us)
    cases (inl e) = subst (λ x. Says AStatement (terminal.Clock ∷ x)) (sym (whole terminal.Text e)) says.ClockText
    cases (inr e) = subst (λ x. Says AStatement (terminal.Clock ∷ x)) (sym (whole terminal.Instant e)) says.ClockInstant

-- ---- members

field_members : (xs : List Terminal) → Says ASort xs → (us : List Terminal)
    → Yields (item.Token terminal.Name ∷ item.Part part.FieldOrMethod ∷ item.Part part.Members ∷ []) us → Says AMembers (xs ++ us)
field_members xs s us l =
    let d = l.2 in
    let m = d.4 in
    let e : us ≡ terminal.Name ∷ (d.0 ++ m.0) = l.1 ∙ ap (λ x. terminal.Name ∷ x) (d.2 ∙ ap (λ x. d.0 ++ x) (ended d.1 m.0 m.1 m.2 m.4)) in
    subst (Says AMembers) (sym (ap (λ x. xs ++ x) e ∙ sym (append_assoc xs (terminal.Name ∷ d.0) m.0))) (says.MoreMembers (d.3 xs s) m.3)

ref_members : (us : List Terminal)
    → Yields (item.Token terminal.Name ∷ item.Token terminal.Name ∷ item.Part part.FieldOrMethod ∷ item.Part part.Members ∷ []) us
    → Says AMembers (terminal.Ref ∷ us)
ref_members us l = subst (λ x. Says AMembers (terminal.Ref ∷ x)) (sym l.1) (field_members (terminal.Ref ∷ terminal.Name ∷ []) says.RefSort l.0 l.2)

first_param : (xs : List Terminal) → Says ASort xs → (us : List Terminal) → Yields (item.Token terminal.Name ∷ item.Part part.SecondParam ∷ []) us → Says AParams (xs ++ us)
first_param xs s us l =
    let d = l.2 in
    subst (λ x. Says AParams (xs ++ x)) (sym (l.1 ∙ ap (λ x. terminal.Name ∷ x) (ended l.0 d.0 d.1 d.2 d.4))) (says.SomeParams s d.3)

-- the pieces of a trigger, and the members behind it
trigger_split : (a b c d p e i m : List Terminal)
    → (a ++ b ++ c ++ d ++ terminal.Name ∷ terminal.OpenParen ∷ p ++ terminal.Colon ∷ e ++ terminal.Arrow ∷ (terminal.OpenBrace ∷ i ++ terminal.CloseBrace ∷ [])) ++ m
    ≡ a ++ (b ++ (c ++ (d ++ (terminal.Name ∷ (terminal.OpenParen ∷ (p ++ (terminal.Colon ∷ (e ++ (terminal.Arrow ∷ (terminal.OpenBrace ∷ (i ++ (terminal.CloseBrace ∷ m))))))))))))
trigger_split a b c d p e i m =
    let action = terminal.Arrow ∷ (terminal.OpenBrace ∷ (i ++ (terminal.CloseBrace ∷ m))) in
    let event = terminal.Colon ∷ (e ++ action) in
    let params = terminal.Name ∷ (terminal.OpenParen ∷ (p ++ event)) in
    let mode = (a ++ b) ++ c in
    let name = mode ++ d in
    let colon = name ++ (terminal.Name ∷ (terminal.OpenParen ∷ p)) in
    let arrow = colon ++ (terminal.Colon ∷ e) in
    append_assoc arrow (terminal.Arrow ∷ (terminal.OpenBrace ∷ (i ++ (terminal.CloseBrace ∷ [])))) m
    ∙ (ap (λ z. arrow ++ (terminal.Arrow ∷ (terminal.OpenBrace ∷ z))) (append_assoc i (terminal.CloseBrace ∷ []) m)
    ∙ (append_assoc colon (terminal.Colon ∷ e) action
    ∙ (append_assoc name (terminal.Name ∷ (terminal.OpenParen ∷ p)) event
    ∙ (append_assoc mode d params
    ∙ (append_assoc (a ++ b) c (d ++ params)
    ∙ append_assoc a b (c ++ (d ++ params)))))))

trigger_members : (us : List Terminal)
    → Yields (item.Part part.Initial ∷ item.Part part.Lasting ∷ item.Part part.Scope ∷ item.Part part.Mode ∷ item.Token terminal.Name ∷ item.Token terminal.OpenParen
    ∷ item.Part part.Params ∷ item.Token terminal.Colon ∷ whole_event ++ item.Token terminal.Arrow ∷ body ++ item.Part part.Members ∷ []) us
    → Says AMembers (terminal.Trigger ∷ us)
trigger_members us l =
    let la = l.4 in
    let sc = la.4 in
    let mo = sc.4 in
    let n = mo.4 in
    let o = n.2 in
    let p = o.2 in
    let c = p.4 in
    let ev = event_front (item.Token terminal.Arrow ∷ body ++ item.Part part.Members ∷ []) c.0 c.2 in
    let ar = ev.behind in
    let ob = ar.2 in
    let inn = ob.2 in
    let cb = inn.4 in
    let ms = cb.2 in
    let action_is = ar.1 ∙ ap (λ x. terminal.Arrow ∷ x) (ob.1 ∙ ap (λ x. terminal.OpenBrace ∷ x) (inn.2 ∙ ap (λ x. inn.0 ++ x) (cb.1 ∙ ap (λ x. terminal.CloseBrace ∷ x) (ended cb.0 ms.0 ms.1 ms.2 ms.4)))) in
    let params_are = o.1 ∙ ap (λ x. terminal.OpenParen ∷ x) (p.2 ∙ ap (λ x. p.0 ++ x) (c.1 ∙ ap (λ x. terminal.Colon ∷ x) (ev.is ∙ ap (λ x. ev.a ++ x) action_is))) in
    let all = l.2 ∙ ap (λ x. l.0 ++ x) (la.2 ∙ ap (λ x. la.0 ++ x) (sc.2 ∙ ap (λ x. sc.0 ++ x) (mo.2 ∙ ap (λ x. mo.0 ++ x) (n.1 ∙ ap (λ x. terminal.Name ∷ x) params_are)))) in
    let q = sym (trigger_split (terminal.Trigger ∷ l.0) la.0 sc.0 mo.0 p.0 ev.a inn.0 ms.0) in
    subst (Says AMembers) (sym (ap (λ x. terminal.Trigger ∷ x) all ∙ q)) (says.MoreMembers (says.Trigger l.3 la.3 sc.3 mo.3 p.3 ev.front (says.Body inn.3)) ms.3)

-- ---- the rows

pub args_rows : (k : Terminal) → IfRow (RowYields part.Args k) (row_of part.Args k)
unfolding row_of
args_rows terminal.CloseParen = λ us l. subst (Says AArguments) (sym (ap (λ x. terminal.CloseParen ∷ x) (l))) (says.NoArguments)
args_rows other = then_row part.Args other (item.Build action.Argument ∷ item.Part part.MoreArgs ∷ []) args_done (row_of part.Unary other) (unary_rows other)

pub more_args_rows : (k : Terminal) → IfRow (RowYields part.MoreArgs k) (row_of part.MoreArgs k)
unfolding row_of
more_args_rows terminal.Comma = λ us l. subst (Says AMoreArguments) (sym (ap (λ x. terminal.Comma ∷ x) (l.2 ∙ ap (λ x. l.0 ++ x) (ended (l.1) l.4.0 l.4.1 l.4.2 l.4.4)))) (says.NextArgument l.3 l.4.3)
more_args_rows terminal.CloseParen = λ us l. subst (Says AMoreArguments) (sym (ap (λ x. terminal.CloseParen ∷ x) (l))) (says.LastArgument)
more_args_rows other = tt

pub call_dot_rows : (k : Terminal) → IfRow (RowYields part.CallDot k) (row_of part.CallDot k)
unfolding row_of
call_dot_rows terminal.Dot = λ us l xs c. subst (Says ADotted) (sym (ap (λ x. xs ++ (terminal.Dot ∷ terminal.Name ∷ terminal.Dot ∷ x)) (l.1 ∙ ap (λ x. terminal.Name ∷ x) (ended l.0 l.2.0 l.2.1 l.2.2 l.2.4)) ∙ sym (append_assoc xs (terminal.Dot ∷ terminal.Name ∷ []) (terminal.Dot ∷ terminal.Name ∷ l.2.0)))) (l.2.3 (xs ++ terminal.Dot ∷ terminal.Name ∷ []) (is.Field c))
call_dot_rows terminal.OpenParen = λ us l xs c. subst (Says ADotted) (sym (ap (λ x. xs ++ (terminal.Dot ∷ (terminal.Name ∷ (terminal.OpenParen ∷ x)))) (ended (us) l.0 l.1 l.2 l.4))) (says.DottedCall c l.3)
call_dot_rows other = tt

pub chained_rows : (k : Terminal) → IfRow (RowYields part.Chained k) (row_of part.Chained k)
unfolding row_of
chained_rows terminal.Name = λ us l. dotted_from (terminal.Name ∷ []) (is.OneAtom is.NameAtom) us l
chained_rows other = atom_then part.Chained other dotted_call (λ us f. dotted_front us f)

pub sets_rows : (k : Terminal) → IfRow (RowYields part.Sets k) (row_of part.Sets k)
unfolding row_of
sets_rows terminal.Name = λ us l. subst (Says ASets) (sym (ap (λ x. terminal.Name ∷ x) (l.1 ∙ ap (λ x. terminal.Assign ∷ x) (l.2.2 ∙ ap (λ x. l.2.0 ++ x) (ended (l.2.1) l.2.4.0 l.2.4.1 l.2.4.2 l.2.4.4))))) (says.SomeSets l.2.3 l.2.4.3)
sets_rows terminal.CloseParen = λ us l. subst (Says ASets) (sym (ap (λ x. terminal.CloseParen ∷ x) (l))) (says.NoSets)
sets_rows other = tt

pub more_sets_rows : (k : Terminal) → IfRow (RowYields part.MoreSets k) (row_of part.MoreSets k)
unfolding row_of
more_sets_rows terminal.Comma = λ us l. subst (Says AMoreSets) (sym (ap (λ x. terminal.Comma ∷ x) (l.1 ∙ ap (λ x. terminal.Name ∷ x) (l.2.1 ∙ ap (λ x. terminal.Assign ∷ x) (l.2.2.2 ∙ ap (λ x. l.2.2.0 ++ x) (ended (l.2.2.1) l.2.2.4.0 l.2.2.4.1 l.2.2.4.2 l.2.2.4.4)))))) (says.NextSet l.2.2.3 l.2.2.4.3)
more_sets_rows terminal.CloseParen = λ us l. subst (Says AMoreSets) (sym (ap (λ x. terminal.CloseParen ∷ x) (l))) (says.LastSet)
more_sets_rows other = tt

pub rhs_rows : (k : Terminal) → IfRow (RowYields part.Rhs k) (row_of part.Rhs k)
unfolding row_of
rhs_rows terminal.Minus = λ us l. given_right (terminal.Minus ∷ us) (plain_end (terminal.Minus ∷ us) (signed_front terminal.Minus plain_items (λ ts x. is.Minus x) us l))
rhs_rows terminal.Not = λ us l. given_right (terminal.Not ∷ us) (plain_end (terminal.Not ∷ us) (signed_front terminal.Not plain_items (λ ts x. is.Not x) us l))
rhs_rows terminal.Name = λ us l. subst (λ x. Says ARight (terminal.Name ∷ x)) (sym (ended us l.0 l.1 l.2 l.4)) l.3
rhs_rows terminal.PNew = λ us l. change_right (terminal.PNew ∷ us) (new_front (item.Token terminal.Semi ∷ []) us l)
rhs_rows terminal.NewVersion = λ us l. change_right (terminal.NewVersion ∷ us) (newversion_front (item.Token terminal.Semi ∷ []) us l)
rhs_rows terminal.Activate = λ us l. change_right (terminal.Activate ∷ us) (activate_front (item.Token terminal.Semi ∷ []) us l)
rhs_rows other = atom_then part.Rhs other (item.Part part.RhsDots ∷ []) (λ us f. given_right us (dots_end us f))

pub script_rhs_rows : (k : Terminal) → IfRow (RowYields part.ScriptRhs k) (row_of part.ScriptRhs k)
unfolding row_of
script_rhs_rows terminal.Minus = λ us l. same_given (terminal.Minus ∷ us) (plain_end (terminal.Minus ∷ us) (signed_front terminal.Minus plain_items (λ ts x. is.Minus x) us l))
script_rhs_rows terminal.Not = λ us l. same_given (terminal.Not ∷ us) (plain_end (terminal.Not ∷ us) (signed_front terminal.Not plain_items (λ ts x. is.Not x) us l))
script_rhs_rows terminal.Name = λ us l. subst (λ x. Says AGiven (terminal.Name ∷ x)) (sym (ended us l.0 l.1 l.2 l.4)) (l.3 (terminal.Name ∷ []) (is.OneAtom is.NameAtom))
script_rhs_rows terminal.PNew = λ us l. change_given (terminal.PNew ∷ us) (new_front (item.Token terminal.Semi ∷ []) us l)
script_rhs_rows terminal.NewVersion = λ us l. change_given (terminal.NewVersion ∷ us) (newversion_front (item.Token terminal.Semi ∷ []) us l)
script_rhs_rows terminal.Activate = λ us l. change_given (terminal.Activate ∷ us) (activate_front (item.Token terminal.Semi ∷ []) us l)
script_rhs_rows other = atom_then part.ScriptRhs other (item.Part part.RhsDots ∷ []) (λ us f. dots_end us f)

pub rhs_dots_rows : (k : Terminal) → IfRow (RowYields part.RhsDots k) (row_of part.RhsDots k)
unfolding row_of
rhs_dots_rows terminal.Dot = λ us l xs c. subst (λ x. Says AGiven (xs ++ terminal.Dot ∷ x)) (sym (l.1 ∙ ap (λ x. terminal.Name ∷ x) (ended l.0 l.2.0 l.2.1 l.2.2 l.2.4))) (l.2.3 xs c)
rhs_dots_rows terminal.Semi = λ us l xs c. subst (λ x. Says AGiven (xs ++ terminal.Semi ∷ x)) (sym l) (says.GivenExpression (chain_expression xs c))
rhs_dots_rows terminal.Times = λ us l xs c. plain_end (xs ++ terminal.Times ∷ us) (times_front plain_items us xs c l)
rhs_dots_rows terminal.Plus = λ us l xs c. plain_end (xs ++ terminal.Plus ∷ us) (plus_front plain_items us xs c l)
rhs_dots_rows terminal.Minus = λ us l xs c. plain_end (xs ++ terminal.Minus ∷ us) (minus_front plain_items us xs c l)
rhs_dots_rows terminal.Compares = λ us l xs c. plain_end (xs ++ terminal.Compares ∷ us) (compares_front plain_items us xs c l)
rhs_dots_rows terminal.AndAnd = λ us l xs c. plain_end (xs ++ terminal.AndAnd ∷ us) (and_front plain_items us xs c l)
rhs_dots_rows terminal.OrOr = λ us l xs c. plain_end (xs ++ terminal.OrOr ∷ us) (or_front plain_items us xs c l)
rhs_dots_rows other = tt

pub rhs_dot_rows : (k : Terminal) → IfRow (RowYields part.RhsDot k) (row_of part.RhsDot k)
unfolding row_of
rhs_dot_rows terminal.Dot = λ us l xs c. subst (Says AGiven) (sym (ap (λ x. xs ++ (terminal.Dot ∷ terminal.Name ∷ terminal.Dot ∷ x)) (l.1 ∙ ap (λ x. terminal.Name ∷ x) (ended l.0 l.2.0 l.2.1 l.2.2 l.2.4)) ∙ sym (append_assoc xs (terminal.Dot ∷ terminal.Name ∷ []) (terminal.Dot ∷ terminal.Name ∷ l.2.0)))) (l.2.3 (xs ++ terminal.Dot ∷ terminal.Name ∷ []) (is.Field c))
rhs_dot_rows terminal.Semi = λ us l xs c. subst (Says AGiven) (sym (ap (λ x. xs ++ (terminal.Dot ∷ terminal.Name ∷ terminal.Semi ∷ x)) l ∙ sym (append_assoc xs (terminal.Dot ∷ terminal.Name ∷ []) (terminal.Semi ∷ [])))) (says.GivenExpression (chain_expression (xs ++ terminal.Dot ∷ terminal.Name ∷ []) (is.Field c)))
rhs_dot_rows terminal.OpenParen = λ us l xs c. call_given xs us c l
rhs_dot_rows terminal.Times = λ us l xs c. subst (Says AGiven) (append_assoc xs (terminal.Dot ∷ terminal.Name ∷ []) (terminal.Times ∷ us)) (plain_end ((xs ++ terminal.Dot ∷ terminal.Name ∷ []) ++ terminal.Times ∷ us) (times_front plain_items us (xs ++ terminal.Dot ∷ terminal.Name ∷ []) (is.Field c) l))
rhs_dot_rows terminal.Plus = λ us l xs c. subst (Says AGiven) (append_assoc xs (terminal.Dot ∷ terminal.Name ∷ []) (terminal.Plus ∷ us)) (plain_end ((xs ++ terminal.Dot ∷ terminal.Name ∷ []) ++ terminal.Plus ∷ us) (plus_front plain_items us (xs ++ terminal.Dot ∷ terminal.Name ∷ []) (is.Field c) l))
rhs_dot_rows terminal.Minus = λ us l xs c. subst (Says AGiven) (append_assoc xs (terminal.Dot ∷ terminal.Name ∷ []) (terminal.Minus ∷ us)) (plain_end ((xs ++ terminal.Dot ∷ terminal.Name ∷ []) ++ terminal.Minus ∷ us) (minus_front plain_items us (xs ++ terminal.Dot ∷ terminal.Name ∷ []) (is.Field c) l))
rhs_dot_rows terminal.Compares = λ us l xs c. subst (Says AGiven) (append_assoc xs (terminal.Dot ∷ terminal.Name ∷ []) (terminal.Compares ∷ us)) (plain_end ((xs ++ terminal.Dot ∷ terminal.Name ∷ []) ++ terminal.Compares ∷ us) (compares_front plain_items us (xs ++ terminal.Dot ∷ terminal.Name ∷ []) (is.Field c) l))
rhs_dot_rows terminal.AndAnd = λ us l xs c. subst (Says AGiven) (append_assoc xs (terminal.Dot ∷ terminal.Name ∷ []) (terminal.AndAnd ∷ us)) (plain_end ((xs ++ terminal.Dot ∷ terminal.Name ∷ []) ++ terminal.AndAnd ∷ us) (and_front plain_items us (xs ++ terminal.Dot ∷ terminal.Name ∷ []) (is.Field c) l))
rhs_dot_rows terminal.OrOr = λ us l xs c. subst (Says AGiven) (append_assoc xs (terminal.Dot ∷ terminal.Name ∷ []) (terminal.OrOr ∷ us)) (plain_end ((xs ++ terminal.Dot ∷ terminal.Name ∷ []) ++ terminal.OrOr ∷ us) (or_front plain_items us (xs ++ terminal.Dot ∷ terminal.Name ∷ []) (is.Field c) l))
rhs_dot_rows other = tt

pub rhs_name_rows : (k : Terminal) → IfRow (RowYields part.RhsName k) (row_of part.RhsName k)
unfolding row_of
rhs_name_rows terminal.Dot = λ us l. subst (λ x. Says ARight (terminal.Name ∷ terminal.Dot ∷ x)) (sym (l.1 ∙ ap (λ x. terminal.Name ∷ x) (ended l.0 l.2.0 l.2.1 l.2.2 l.2.4))) (says.OneGiven (l.2.3 (terminal.Name ∷ []) (is.OneAtom is.NameAtom)))
rhs_name_rows terminal.Semi = λ us l. subst (λ x. Says ARight (terminal.Name ∷ terminal.Semi ∷ x)) (sym l) (says.OneGiven (says.GivenExpression (chain_expression (terminal.Name ∷ []) (is.OneAtom is.NameAtom))))
rhs_name_rows terminal.OpenParen = λ us l. subst (Says ARight) (sym (ap (λ x. terminal.Name ∷ (terminal.OpenParen ∷ x)) (l.2 ∙ ap (λ x. l.0 ++ x) (l.4.1 ∙ ap (λ x. terminal.Semi ∷ x) (l.4.2))))) (says.OwnCall l.3)
rhs_name_rows terminal.Times = λ us l. says.OneGiven (plain_end (terminal.Name ∷ terminal.Times ∷ us) (times_front plain_items us (terminal.Name ∷ []) (is.OneAtom is.NameAtom) l))
rhs_name_rows terminal.Plus = λ us l. says.OneGiven (plain_end (terminal.Name ∷ terminal.Plus ∷ us) (plus_front plain_items us (terminal.Name ∷ []) (is.OneAtom is.NameAtom) l))
rhs_name_rows terminal.Minus = λ us l. says.OneGiven (plain_end (terminal.Name ∷ terminal.Minus ∷ us) (minus_front plain_items us (terminal.Name ∷ []) (is.OneAtom is.NameAtom) l))
rhs_name_rows terminal.Compares = λ us l. says.OneGiven (plain_end (terminal.Name ∷ terminal.Compares ∷ us) (compares_front plain_items us (terminal.Name ∷ []) (is.OneAtom is.NameAtom) l))
rhs_name_rows terminal.AndAnd = λ us l. says.OneGiven (plain_end (terminal.Name ∷ terminal.AndAnd ∷ us) (and_front plain_items us (terminal.Name ∷ []) (is.OneAtom is.NameAtom) l))
rhs_name_rows terminal.OrOr = λ us l. says.OneGiven (plain_end (terminal.Name ∷ terminal.OrOr ∷ us) (or_front plain_items us (terminal.Name ∷ []) (is.OneAtom is.NameAtom) l))
rhs_name_rows other = tt

pub inners_rows : (k : Terminal) → IfRow (RowYields part.Inners k) (row_of part.Inners k)
unfolding row_of
inners_rows terminal.Let = λ us l. inner_end (terminal.Let ∷ us) (let_front us l)
inners_rows terminal.Name = λ us l. inner_end (terminal.Name ∷ us) (record { a = terminal.Name ∷ l.0; rest = l.1; is = ap (λ x. terminal.Name ∷ x) l.2; front = l.3; behind = l.4 })
inners_rows terminal.If = λ us l. inner_end (terminal.If ∷ us) (if_front us l)
inners_rows terminal.Return = λ us l. inner_end (terminal.Return ∷ us) (record { a = terminal.Return ∷ l.0; rest = l.1; is = ap (λ x. terminal.Return ∷ x) l.2; front = l.3; behind = l.4 })
inners_rows terminal.TAbort = λ us l. inner_end (terminal.TAbort ∷ us) (record { a = terminal.TAbort ∷ terminal.Semi ∷ []; rest = l.0; is = ap (λ x. terminal.TAbort ∷ x) l.1; front = says.TAbort; behind = l.2 })
inners_rows terminal.Show = λ us l. inner_end (terminal.Show ∷ us) (record { a = terminal.Show ∷ l.0; rest = l.1; is = ap (λ x. terminal.Show ∷ x) l.2; front = says.ShowRight l.3; behind = l.4 })
inners_rows terminal.Say = λ us l. simple_inner (terminal.Say ∷ us) (say_front terminal.Say next_items (λ ts x. says.Say x) us l)
inners_rows terminal.PDelete = λ us l. simple_inner (terminal.PDelete ∷ us) (say_front terminal.PDelete next_items (λ ts x. says.Delete x) us l)
inners_rows terminal.DropVersion = λ us l. simple_inner (terminal.DropVersion ∷ us) (say_front terminal.DropVersion next_items (λ ts x. says.DropVersion x) us l)
inners_rows terminal.Deactivate = λ us l. simple_inner (terminal.Deactivate ∷ us) (deactivate_front next_items us l)
inners_rows terminal.PNew = λ us l. simple_inner (terminal.PNew ∷ us) (done_front AChange (terminal.PNew ∷ us) next_items (λ ts x. says.DoChange x) (new_front (done next_items) us l))
inners_rows terminal.NewVersion = λ us l. simple_inner (terminal.NewVersion ∷ us) (done_front AChange (terminal.NewVersion ∷ us) next_items (λ ts x. says.DoChange x) (newversion_front (done next_items) us l))
inners_rows terminal.Activate = λ us l. simple_inner (terminal.Activate ∷ us) (done_front AChange (terminal.Activate ∷ us) next_items (λ ts x. says.DoChange x) (activate_front (done next_items) us l))
inners_rows other = atom_then part.Inners other (dotted_call ++ item.Build action.Call ∷ done next_items) (λ us f. simple_inner us (done_front ADotted us next_items (λ ts x. says.DoCall x) (dotted_done (done next_items) us f)))

pub statement_rows : (k : Terminal) → IfRow (RowYields part.Statement k) (row_of part.Statement k)
unfolding row_of
statement_rows terminal.Class = λ us l. let q : terminal.Class ∷ (terminal.Name ∷ (l.2.0 ++ (terminal.OpenBrace ∷ (l.2.4.2.0 ++ (terminal.CloseBrace ∷ (terminal.Semi ∷ [])))))) ≡ ((terminal.Class ∷ terminal.Name ∷ l.2.0 ++ terminal.OpenBrace ∷ l.2.4.2.0) ++ terminal.CloseBrace ∷ []) ++ terminal.Semi ∷ [] = simp append_assoc in subst (Says AStatement) (sym (ap (λ x. terminal.Class ∷ x) (l.1 ∙ ap (λ x. terminal.Name ∷ x) (l.2.2 ∙ ap (λ x. l.2.0 ++ x) (l.2.4.1 ∙ ap (λ x. terminal.OpenBrace ∷ x) (l.2.4.2.2 ∙ ap (λ x. l.2.4.2.0 ++ x) (l.2.4.2.4.1 ∙ ap (λ x. terminal.CloseBrace ∷ x) (l.2.4.2.4.2.1 ∙ ap (λ x. terminal.Semi ∷ x) (l.2.4.2.4.2.2))))))) ∙ q)) (says.Declare (says.Class l.2.3 l.2.4.2.3))
statement_rows terminal.Begin = λ us l. subst (λ x. Says AStatement (terminal.Begin ∷ x)) (sym (l.1 ∙ ap (λ x. terminal.Semi ∷ x) l.2)) says.Begin
statement_rows terminal.Commit = λ us l. subst (λ x. Says AStatement (terminal.Commit ∷ x)) (sym (l.1 ∙ ap (λ x. terminal.Semi ∷ x) l.2)) says.Commit
statement_rows terminal.Abort = λ us l. subst (λ x. Says AStatement (terminal.Abort ∷ x)) (sym (l.1 ∙ ap (λ x. terminal.Semi ∷ x) l.2)) says.Abort
statement_rows terminal.Clock = λ us l. clock_end us l
statement_rows terminal.Semi = λ us l. subst (λ x. Says AStatement (terminal.Semi ∷ x)) (sym l) says.Empty
statement_rows terminal.Show = λ us l. subst (λ x. Says AStatement (terminal.Show ∷ x)) (sym (ended us l.0 l.1 l.2 l.4)) (says.ShowGiven l.3)
statement_rows terminal.Name = λ us l. simple_alone (terminal.Name ∷ us) (done_front ADotted (terminal.Name ∷ us) (item.Build action.Simple ∷ []) (λ ts x. says.DoCall x) (dotted_done (done (item.Build action.Simple ∷ [])) (terminal.Name ∷ us) (record { a = terminal.Name ∷ []; rest = us; is = refl; front = is.NameAtom; behind = l })))
statement_rows terminal.Say = λ us l. simple_alone (terminal.Say ∷ us) (say_front terminal.Say (item.Build action.Simple ∷ []) (λ ts x. says.Say x) us l)
statement_rows terminal.PDelete = λ us l. simple_alone (terminal.PDelete ∷ us) (say_front terminal.PDelete (item.Build action.Simple ∷ []) (λ ts x. says.Delete x) us l)
statement_rows terminal.DropVersion = λ us l. simple_alone (terminal.DropVersion ∷ us) (say_front terminal.DropVersion (item.Build action.Simple ∷ []) (λ ts x. says.DropVersion x) us l)
statement_rows terminal.Deactivate = λ us l. simple_alone (terminal.Deactivate ∷ us) (deactivate_front (item.Build action.Simple ∷ []) us l)
statement_rows terminal.PNew = λ us l. simple_alone (terminal.PNew ∷ us) (done_front AChange (terminal.PNew ∷ us) (item.Build action.Simple ∷ []) (λ ts x. says.DoChange x) (new_front (done (item.Build action.Simple ∷ [])) us l))
statement_rows terminal.NewVersion = λ us l. simple_alone (terminal.NewVersion ∷ us) (done_front AChange (terminal.NewVersion ∷ us) (item.Build action.Simple ∷ []) (λ ts x. says.DoChange x) (newversion_front (done (item.Build action.Simple ∷ [])) us l))
statement_rows terminal.Activate = λ us l. simple_alone (terminal.Activate ∷ us) (done_front AChange (terminal.Activate ∷ us) (item.Build action.Simple ∷ []) (λ ts x. says.DoChange x) (activate_front (done (item.Build action.Simple ∷ [])) us l))
statement_rows other = atom_then part.Statement other (dotted_call ++ item.Build action.Call ∷ done (item.Build action.Simple ∷ [])) (λ us f. simple_alone us (done_front ADotted us (item.Build action.Simple ∷ []) (λ ts x. says.DoCall x) (dotted_done (done (item.Build action.Simple ∷ [])) us f)))

pub clock_text_rows : (k : Terminal) → IfRow (RowYields part.ClockText k) (row_of part.ClockText k)
unfolding row_of
clock_text_rows terminal.Text = λ us l. inl (ap (λ x. terminal.Text ∷ x) l)
clock_text_rows terminal.Instant = λ us l. inr (ap (λ x. terminal.Instant ∷ x) l)
clock_text_rows other = tt

pub inner_name_rows : (k : Terminal) → IfRow (RowYields part.InnerName k) (row_of part.InnerName k)
unfolding row_of
inner_name_rows terminal.Assign = λ us l. subst (λ x. Says AInner (terminal.Name ∷ terminal.Assign ∷ x)) (sym (ended us l.0 l.1 l.2 l.4)) (says.Set l.3)
inner_name_rows terminal.OpenParen = λ us l. subst (Says AInner) (sym (ap (λ x. terminal.Name ∷ (terminal.OpenParen ∷ x)) (l.2 ∙ ap (λ x. l.0 ++ x) (l.4.1 ∙ ap (λ x. terminal.Semi ∷ x) (l.4.2))))) (says.DoOwnCall l.3)
inner_name_rows terminal.Dot = λ us l. name_call us l
inner_name_rows other = tt

pub return_value_rows : (k : Terminal) → IfRow (RowYields part.ReturnValue k) (row_of part.ReturnValue k)
unfolding row_of
return_value_rows terminal.Semi = λ us l. subst (λ x. Says AInner (terminal.Return ∷ terminal.Semi ∷ x)) (sym l) says.ReturnNothing
return_value_rows other = then_row part.ReturnValue other (item.Token terminal.Semi ∷ item.Build action.Return ∷ []) return_done (row_of part.Unary other) (unary_rows other)

pub else_rows : (k : Terminal) → IfRow (RowYields part.Else k) (row_of part.Else k)
unfolding row_of
else_rows terminal.Else = λ us l. subst (Says AOtherwise) (sym (ap (λ x. terminal.Else ∷ x) (l.1 ∙ ap (λ x. terminal.OpenBrace ∷ x) (l.2.2 ∙ ap (λ x. l.2.0 ++ x) (l.2.4.1 ∙ ap (λ x. terminal.CloseBrace ∷ x) (l.2.4.2)))))) (says.Else (says.Body l.2.3))
else_rows other = tt

pub class_rows : (k : Terminal) → IfRow (RowYields part.Class k) (row_of part.Class k)
unfolding row_of
class_rows terminal.Class = λ us l. subst (Says AClass) (sym (ap (λ x. terminal.Class ∷ x) (l.1 ∙ ap (λ x. terminal.Name ∷ x) (l.2.2 ∙ ap (λ x. l.2.0 ++ x) (l.2.4.1 ∙ ap (λ x. terminal.OpenBrace ∷ x) (l.2.4.2.2 ∙ ap (λ x. l.2.4.2.0 ++ x) (l.2.4.2.4.1 ∙ ap (λ x. terminal.CloseBrace ∷ x) (l.2.4.2.4.2)))))) ∙ sym (append_assoc ((terminal.Class ∷ terminal.Name ∷ l.2.0)) (terminal.OpenBrace ∷ l.2.4.2.0) (terminal.CloseBrace ∷ [])))) (says.Class l.2.3 l.2.4.2.3)
class_rows other = tt

pub parent_rows : (k : Terminal) → IfRow (RowYields part.Parent k) (row_of part.Parent k)
unfolding row_of
parent_rows terminal.Colon = λ us l. subst (Says AParented) (sym (ap (λ x. terminal.Colon ∷ x) (l.1 ∙ ap (λ x. terminal.Name ∷ x) (l.2)))) (says.Parent)
parent_rows other = tt

pub members_rows : (k : Terminal) → IfRow (RowYields part.Members k) (row_of part.Members k)
unfolding row_of
members_rows terminal.SortWord = λ us l. field_members (terminal.SortWord ∷ []) says.SortWord us l
members_rows terminal.Ref = λ us l. ref_members us l
members_rows terminal.Void = λ us l. let q : terminal.Void ∷ (terminal.Name ∷ (terminal.OpenParen ∷ (l.2.2.0 ++ (terminal.OpenBrace ∷ (l.2.2.4.2.0 ++ (terminal.CloseBrace ∷ l.2.2.4.2.4.2.0)))))) ≡ ((terminal.Void ∷ terminal.Name ∷ terminal.OpenParen ∷ l.2.2.0) ++ (terminal.OpenBrace ∷ l.2.2.4.2.0 ++ terminal.CloseBrace ∷ [])) ++ l.2.2.4.2.4.2.0 = simp append_assoc in subst (Says AMembers) (sym (ap (λ x. terminal.Void ∷ x) (l.1 ∙ ap (λ x. terminal.Name ∷ x) (l.2.1 ∙ ap (λ x. terminal.OpenParen ∷ x) (l.2.2.2 ∙ ap (λ x. l.2.2.0 ++ x) (l.2.2.4.1 ∙ ap (λ x. terminal.OpenBrace ∷ x) (l.2.2.4.2.2 ∙ ap (λ x. l.2.2.4.2.0 ++ x) (l.2.2.4.2.4.1 ∙ ap (λ x. terminal.CloseBrace ∷ x) (ended (l.2.2.4.2.4.0) l.2.2.4.2.4.2.0 l.2.2.4.2.4.2.1 l.2.2.4.2.4.2.2 l.2.2.4.2.4.2.4))))))) ∙ q)) (says.MoreMembers (says.VoidMethod l.2.2.3 (says.Body l.2.2.4.2.3)) l.2.2.4.2.4.2.3)
members_rows terminal.Soft = λ us l. subst (Says AMembers) (sym (ap (λ x. terminal.Soft ∷ x) (l.1 ∙ ap (λ x. terminal.Constraint ∷ x) (l.2.1 ∙ ap (λ x. terminal.Name ∷ x) (l.2.2.1 ∙ ap (λ x. terminal.Colon ∷ x) (l.2.2.2.2 ∙ ap (λ x. l.2.2.2.0 ++ x) (l.2.2.2.4.1 ∙ ap (λ x. terminal.Semi ∷ x) (ended (l.2.2.2.4.0) l.2.2.2.4.2.0 l.2.2.2.4.2.1 l.2.2.2.4.2.2 l.2.2.2.4.2.4)))))) ∙ sym (append_assoc ((terminal.Soft ∷ terminal.Constraint ∷ terminal.Name ∷ terminal.Colon ∷ l.2.2.2.0)) (terminal.Semi ∷ []) (l.2.2.2.4.2.0)))) (says.MoreMembers (says.SoftConstraint l.2.2.2.3) l.2.2.2.4.2.3)
members_rows terminal.Constraint = λ us l. subst (Says AMembers) (sym (ap (λ x. terminal.Constraint ∷ x) (l.1 ∙ ap (λ x. terminal.Name ∷ x) (l.2.1 ∙ ap (λ x. terminal.Colon ∷ x) (l.2.2.2 ∙ ap (λ x. l.2.2.0 ++ x) (l.2.2.4.1 ∙ ap (λ x. terminal.Semi ∷ x) (ended (l.2.2.4.0) l.2.2.4.2.0 l.2.2.4.2.1 l.2.2.4.2.2 l.2.2.4.2.4))))) ∙ sym (append_assoc ((terminal.Constraint ∷ terminal.Name ∷ terminal.Colon ∷ l.2.2.0)) (terminal.Semi ∷ []) (l.2.2.4.2.0)))) (says.MoreMembers (says.Constraint l.2.2.3) l.2.2.4.2.3)
members_rows terminal.Event = λ us l. subst (Says AMembers) (sym (ap (λ x. terminal.Event ∷ x) (l.2 ∙ ap (λ x. l.0 ++ x) (l.4.2 ∙ ap (λ x. l.4.0 ++ x) (ended (l.4.1) l.4.4.0 l.4.4.1 l.4.4.2 l.4.4.4))) ∙ sym (append_assoc ((terminal.Event ∷ l.0)) (l.4.0) (l.4.4.0)))) (says.MoreMembers (says.Events l.3 l.4.3) l.4.4.3)
members_rows terminal.Trigger = λ us l. trigger_members us l
members_rows other = tt

pub field_or_method_rows : (k : Terminal) → IfRow (RowYields part.FieldOrMethod k) (row_of part.FieldOrMethod k)
unfolding row_of
field_or_method_rows terminal.Semi = λ us l xs s. subst (λ x. Says AMember (xs ++ terminal.Name ∷ terminal.Semi ∷ x)) (sym l) (says.FieldMember s)
field_or_method_rows terminal.OpenParen = λ us l xs s. let q : xs ++ (terminal.Name ∷ (terminal.OpenParen ∷ (l.0 ++ (terminal.OpenBrace ∷ (l.4.2.0 ++ (terminal.CloseBrace ∷ [])))))) ≡ (xs ++ terminal.Name ∷ terminal.OpenParen ∷ l.0) ++ (terminal.OpenBrace ∷ l.4.2.0 ++ terminal.CloseBrace ∷ []) = simp append_assoc in subst (Says AMember) (sym (ap (λ x. xs ++ (terminal.Name ∷ (terminal.OpenParen ∷ x))) (l.2 ∙ ap (λ x. l.0 ++ x) (l.4.1 ∙ ap (λ x. terminal.OpenBrace ∷ x) (l.4.2.2 ∙ ap (λ x. l.4.2.0 ++ x) (l.4.2.4.1 ∙ ap (λ x. terminal.CloseBrace ∷ x) (l.4.2.4.2))))) ∙ q)) (says.Method s l.3 (says.Body l.4.2.3))
field_or_method_rows other = tt

pub more_kinds_rows : (k : Terminal) → IfRow (RowYields part.MoreKinds k) (row_of part.MoreKinds k)
unfolding row_of
more_kinds_rows terminal.Comma = λ us l. subst (Says AMoreKinds) (sym (ap (λ x. terminal.Comma ∷ x) (l.2 ∙ ap (λ x. l.0 ++ x) (ended (l.1) l.4.0 l.4.1 l.4.2 l.4.4)))) (says.NextKind l.3 l.4.3)
more_kinds_rows terminal.Semi = λ us l. subst (Says AMoreKinds) (sym (ap (λ x. terminal.Semi ∷ x) (l))) (says.LastKind)
more_kinds_rows other = tt

pub initial_rows : (k : Terminal) → IfRow (RowYields part.Initial k) (row_of part.Initial k)
unfolding row_of
initial_rows terminal.Initial = λ us l. subst (Says AInitially) (sym (ap (λ x. terminal.Initial ∷ x) (l))) (says.Initial)
initial_rows other = tt

pub lasting_rows : (k : Terminal) → IfRow (RowYields part.Lasting k) (row_of part.Lasting k)
unfolding row_of
lasting_rows terminal.Lasting = λ us l. subst (Says ALasts) (sym (ap (λ x. terminal.Lasting ∷ x) (l))) (says.Lasting)
lasting_rows other = tt

pub scope_rows : (k : Terminal) → IfRow (RowYields part.Scope k) (row_of part.Scope k)
unfolding row_of
scope_rows terminal.Scope = λ us l. subst (Says AScoped) (sym (ap (λ x. terminal.Scope ∷ x) (l))) (says.Scope)
scope_rows other = tt

pub mode_rows : (k : Terminal) → IfRow (RowYields part.Mode k) (row_of part.Mode k)
unfolding row_of
mode_rows terminal.Mode = λ us l. subst (Says AModed) (sym (ap (λ x. terminal.Mode ∷ x) (l))) (says.Mode)
mode_rows other = tt

pub sort_rows : (k : Terminal) → IfRow (RowYields part.Sort k) (row_of part.Sort k)
unfolding row_of
sort_rows terminal.SortWord = λ us l. subst (Says ASort) (sym (ap (λ x. terminal.SortWord ∷ x) (l))) (says.SortWord)
sort_rows terminal.Ref = λ us l. subst (Says ASort) (sym (ap (λ x. terminal.Ref ∷ x) (l.1 ∙ ap (λ x. terminal.Name ∷ x) (l.2)))) (says.RefSort)
sort_rows other = tt

pub params_rows : (k : Terminal) → IfRow (RowYields part.Params k) (row_of part.Params k)
unfolding row_of
params_rows terminal.CloseParen = λ us l. subst (Says AParams) (sym (ap (λ x. terminal.CloseParen ∷ x) (l))) (says.NoParams)
params_rows terminal.SortWord = λ us l. first_param (terminal.SortWord ∷ []) says.SortWord us l
params_rows terminal.Ref = λ us l. subst (λ x. Says AParams (terminal.Ref ∷ x)) (sym l.1) (first_param (terminal.Ref ∷ terminal.Name ∷ []) says.RefSort l.0 l.2)
params_rows other = tt

pub second_param_rows : (k : Terminal) → IfRow (RowYields part.SecondParam k) (row_of part.SecondParam k)
unfolding row_of
second_param_rows terminal.Comma = λ us l. subst (Says (AMoreParams 15)) (sym (ap (λ x. terminal.Comma ∷ x) (l.2 ∙ ap (λ x. l.0 ++ x) (l.4.1 ∙ ap (λ x. terminal.Name ∷ x) (ended (l.4.0) l.4.2.0 l.4.2.1 l.4.2.2 l.4.2.4))))) (says.NextParam {n = 14} l.3 l.4.2.3)
second_param_rows terminal.CloseParen = λ us l. subst (λ x. Says (AMoreParams 15) (terminal.CloseParen ∷ x)) (sym l) says.LastParam
second_param_rows other = tt

pub third_param_rows : (k : Terminal) → IfRow (RowYields part.ThirdParam k) (row_of part.ThirdParam k)
unfolding row_of
third_param_rows terminal.Comma = λ us l. subst (Says (AMoreParams 14)) (sym (ap (λ x. terminal.Comma ∷ x) (l.2 ∙ ap (λ x. l.0 ++ x) (l.4.1 ∙ ap (λ x. terminal.Name ∷ x) (ended (l.4.0) l.4.2.0 l.4.2.1 l.4.2.2 l.4.2.4))))) (says.NextParam {n = 13} l.3 l.4.2.3)
third_param_rows terminal.CloseParen = λ us l. subst (λ x. Says (AMoreParams 14) (terminal.CloseParen ∷ x)) (sym l) says.LastParam
third_param_rows other = tt

pub fourth_param_rows : (k : Terminal) → IfRow (RowYields part.FourthParam k) (row_of part.FourthParam k)
unfolding row_of
fourth_param_rows terminal.Comma = λ us l. subst (Says (AMoreParams 13)) (sym (ap (λ x. terminal.Comma ∷ x) (l.2 ∙ ap (λ x. l.0 ++ x) (l.4.1 ∙ ap (λ x. terminal.Name ∷ x) (ended (l.4.0) l.4.2.0 l.4.2.1 l.4.2.2 l.4.2.4))))) (says.NextParam {n = 12} l.3 l.4.2.3)
fourth_param_rows terminal.CloseParen = λ us l. subst (λ x. Says (AMoreParams 13) (terminal.CloseParen ∷ x)) (sym l) says.LastParam
fourth_param_rows other = tt

pub fifth_param_rows : (k : Terminal) → IfRow (RowYields part.FifthParam k) (row_of part.FifthParam k)
unfolding row_of
fifth_param_rows terminal.Comma = λ us l. subst (Says (AMoreParams 12)) (sym (ap (λ x. terminal.Comma ∷ x) (l.2 ∙ ap (λ x. l.0 ++ x) (l.4.1 ∙ ap (λ x. terminal.Name ∷ x) (ended (l.4.0) l.4.2.0 l.4.2.1 l.4.2.2 l.4.2.4))))) (says.NextParam {n = 11} l.3 l.4.2.3)
fifth_param_rows terminal.CloseParen = λ us l. subst (λ x. Says (AMoreParams 12) (terminal.CloseParen ∷ x)) (sym l) says.LastParam
fifth_param_rows other = tt

pub sixth_param_rows : (k : Terminal) → IfRow (RowYields part.SixthParam k) (row_of part.SixthParam k)
unfolding row_of
sixth_param_rows terminal.Comma = λ us l. subst (Says (AMoreParams 11)) (sym (ap (λ x. terminal.Comma ∷ x) (l.2 ∙ ap (λ x. l.0 ++ x) (l.4.1 ∙ ap (λ x. terminal.Name ∷ x) (ended (l.4.0) l.4.2.0 l.4.2.1 l.4.2.2 l.4.2.4))))) (says.NextParam {n = 10} l.3 l.4.2.3)
sixth_param_rows terminal.CloseParen = λ us l. subst (λ x. Says (AMoreParams 11) (terminal.CloseParen ∷ x)) (sym l) says.LastParam
sixth_param_rows other = tt

pub seventh_param_rows : (k : Terminal) → IfRow (RowYields part.SeventhParam k) (row_of part.SeventhParam k)
unfolding row_of
seventh_param_rows terminal.Comma = λ us l. subst (Says (AMoreParams 10)) (sym (ap (λ x. terminal.Comma ∷ x) (l.2 ∙ ap (λ x. l.0 ++ x) (l.4.1 ∙ ap (λ x. terminal.Name ∷ x) (ended (l.4.0) l.4.2.0 l.4.2.1 l.4.2.2 l.4.2.4))))) (says.NextParam {n = 9} l.3 l.4.2.3)
seventh_param_rows terminal.CloseParen = λ us l. subst (λ x. Says (AMoreParams 10) (terminal.CloseParen ∷ x)) (sym l) says.LastParam
seventh_param_rows other = tt

pub eighth_param_rows : (k : Terminal) → IfRow (RowYields part.EighthParam k) (row_of part.EighthParam k)
unfolding row_of
eighth_param_rows terminal.Comma = λ us l. subst (Says (AMoreParams 9)) (sym (ap (λ x. terminal.Comma ∷ x) (l.2 ∙ ap (λ x. l.0 ++ x) (l.4.1 ∙ ap (λ x. terminal.Name ∷ x) (ended (l.4.0) l.4.2.0 l.4.2.1 l.4.2.2 l.4.2.4))))) (says.NextParam {n = 8} l.3 l.4.2.3)
eighth_param_rows terminal.CloseParen = λ us l. subst (λ x. Says (AMoreParams 9) (terminal.CloseParen ∷ x)) (sym l) says.LastParam
eighth_param_rows other = tt

pub ninth_param_rows : (k : Terminal) → IfRow (RowYields part.NinthParam k) (row_of part.NinthParam k)
unfolding row_of
ninth_param_rows terminal.Comma = λ us l. subst (Says (AMoreParams 8)) (sym (ap (λ x. terminal.Comma ∷ x) (l.2 ∙ ap (λ x. l.0 ++ x) (l.4.1 ∙ ap (λ x. terminal.Name ∷ x) (ended (l.4.0) l.4.2.0 l.4.2.1 l.4.2.2 l.4.2.4))))) (says.NextParam {n = 7} l.3 l.4.2.3)
ninth_param_rows terminal.CloseParen = λ us l. subst (λ x. Says (AMoreParams 8) (terminal.CloseParen ∷ x)) (sym l) says.LastParam
ninth_param_rows other = tt

pub tenth_param_rows : (k : Terminal) → IfRow (RowYields part.TenthParam k) (row_of part.TenthParam k)
unfolding row_of
tenth_param_rows terminal.Comma = λ us l. subst (Says (AMoreParams 7)) (sym (ap (λ x. terminal.Comma ∷ x) (l.2 ∙ ap (λ x. l.0 ++ x) (l.4.1 ∙ ap (λ x. terminal.Name ∷ x) (ended (l.4.0) l.4.2.0 l.4.2.1 l.4.2.2 l.4.2.4))))) (says.NextParam {n = 6} l.3 l.4.2.3)
tenth_param_rows terminal.CloseParen = λ us l. subst (λ x. Says (AMoreParams 7) (terminal.CloseParen ∷ x)) (sym l) says.LastParam
tenth_param_rows other = tt

pub eleventh_param_rows : (k : Terminal) → IfRow (RowYields part.EleventhParam k) (row_of part.EleventhParam k)
unfolding row_of
eleventh_param_rows terminal.Comma = λ us l. subst (Says (AMoreParams 6)) (sym (ap (λ x. terminal.Comma ∷ x) (l.2 ∙ ap (λ x. l.0 ++ x) (l.4.1 ∙ ap (λ x. terminal.Name ∷ x) (ended (l.4.0) l.4.2.0 l.4.2.1 l.4.2.2 l.4.2.4))))) (says.NextParam {n = 5} l.3 l.4.2.3)
eleventh_param_rows terminal.CloseParen = λ us l. subst (λ x. Says (AMoreParams 6) (terminal.CloseParen ∷ x)) (sym l) says.LastParam
eleventh_param_rows other = tt

pub twelfth_param_rows : (k : Terminal) → IfRow (RowYields part.TwelfthParam k) (row_of part.TwelfthParam k)
unfolding row_of
twelfth_param_rows terminal.Comma = λ us l. subst (Says (AMoreParams 5)) (sym (ap (λ x. terminal.Comma ∷ x) (l.2 ∙ ap (λ x. l.0 ++ x) (l.4.1 ∙ ap (λ x. terminal.Name ∷ x) (ended (l.4.0) l.4.2.0 l.4.2.1 l.4.2.2 l.4.2.4))))) (says.NextParam {n = 4} l.3 l.4.2.3)
twelfth_param_rows terminal.CloseParen = λ us l. subst (λ x. Says (AMoreParams 5) (terminal.CloseParen ∷ x)) (sym l) says.LastParam
twelfth_param_rows other = tt

pub thirteenth_param_rows : (k : Terminal) → IfRow (RowYields part.ThirteenthParam k) (row_of part.ThirteenthParam k)
unfolding row_of
thirteenth_param_rows terminal.Comma = λ us l. subst (Says (AMoreParams 4)) (sym (ap (λ x. terminal.Comma ∷ x) (l.2 ∙ ap (λ x. l.0 ++ x) (l.4.1 ∙ ap (λ x. terminal.Name ∷ x) (ended (l.4.0) l.4.2.0 l.4.2.1 l.4.2.2 l.4.2.4))))) (says.NextParam {n = 3} l.3 l.4.2.3)
thirteenth_param_rows terminal.CloseParen = λ us l. subst (λ x. Says (AMoreParams 4) (terminal.CloseParen ∷ x)) (sym l) says.LastParam
thirteenth_param_rows other = tt

pub fourteenth_param_rows : (k : Terminal) → IfRow (RowYields part.FourteenthParam k) (row_of part.FourteenthParam k)
unfolding row_of
fourteenth_param_rows terminal.Comma = λ us l. subst (Says (AMoreParams 3)) (sym (ap (λ x. terminal.Comma ∷ x) (l.2 ∙ ap (λ x. l.0 ++ x) (l.4.1 ∙ ap (λ x. terminal.Name ∷ x) (ended (l.4.0) l.4.2.0 l.4.2.1 l.4.2.2 l.4.2.4))))) (says.NextParam {n = 2} l.3 l.4.2.3)
fourteenth_param_rows terminal.CloseParen = λ us l. subst (λ x. Says (AMoreParams 3) (terminal.CloseParen ∷ x)) (sym l) says.LastParam
fourteenth_param_rows other = tt

pub fifteenth_param_rows : (k : Terminal) → IfRow (RowYields part.FifteenthParam k) (row_of part.FifteenthParam k)
unfolding row_of
fifteenth_param_rows terminal.Comma = λ us l. subst (Says (AMoreParams 2)) (sym (ap (λ x. terminal.Comma ∷ x) (l.2 ∙ ap (λ x. l.0 ++ x) (l.4.1 ∙ ap (λ x. terminal.Name ∷ x) (ended (l.4.0) l.4.2.0 l.4.2.1 l.4.2.2 l.4.2.4))))) (says.NextParam {n = 1} l.3 l.4.2.3)
fifteenth_param_rows terminal.CloseParen = λ us l. subst (λ x. Says (AMoreParams 2) (terminal.CloseParen ∷ x)) (sym l) says.LastParam
fifteenth_param_rows other = tt

pub sixteenth_param_rows : (k : Terminal) → IfRow (RowYields part.SixteenthParam k) (row_of part.SixteenthParam k)
unfolding row_of
sixteenth_param_rows terminal.Comma = λ us l. subst (Says (AMoreParams 1)) (sym (ap (λ x. terminal.Comma ∷ x) (l.2 ∙ ap (λ x. l.0 ++ x) (l.4.1 ∙ ap (λ x. terminal.Name ∷ x) (l.4.2.1 ∙ ap (λ x. terminal.CloseParen ∷ x) (l.4.2.2)))))) (says.NextParam {n = 0} l.3 says.LastParam)
sixteenth_param_rows terminal.CloseParen = λ us l. subst (λ x. Says (AMoreParams 1) (terminal.CloseParen ∷ x)) (sym l) says.LastParam
sixteenth_param_rows other = tt

-- ---- changes of classes

-- an added field behind its sort, and those behind it
more_additions : (xs us : List Terminal) → Says ASort xs → Yields additions us → Says AAdditions (xs ++ us)
more_additions xs us s l =
    let x = l.2.2 in
    let y = x.4.2 in
    let read : us ≡ terminal.Name ∷ (terminal.Assign ∷ (x.0 ++ (terminal.Semi ∷ y.0))) =
    l.1 ∙ ap (λ z. terminal.Name ∷ z) (l.2.1 ∙ ap (λ z. terminal.Assign ∷ z) (x.2 ∙ ap (λ z. x.0 ++ z) (x.4.1 ∙ ap (λ z. terminal.Semi ∷ z) (ended x.4.0 y.0 y.1 y.2 y.4)))) in
    let grouped : xs ++ (terminal.Name ∷ (terminal.Assign ∷ (x.0 ++ (terminal.Semi ∷ y.0)))) ≡ (xs ++ terminal.Name ∷ terminal.Assign ∷ x.0 ++ terminal.Semi ∷ []) ++ y.0 = simp append_assoc in
    subst (Says AAdditions) (sym (ap (λ z. xs ++ z) read ∙ grouped)) (says.MoreAdditions (says.Addition s x.3) y.3)

pub additions_rows : (k : Terminal) → IfRow (RowYields part.Additions k) (row_of part.Additions k)
unfolding row_of
additions_rows terminal.SortWord = λ us l. more_additions (terminal.SortWord ∷ []) us says.SortWord l
additions_rows terminal.Ref = λ us l. subst (λ x. Says AAdditions (terminal.Ref ∷ x)) (sym l.1) (more_additions (terminal.Ref ∷ terminal.Name ∷ []) l.0 says.RefSort l.2)
additions_rows other = tt

pub literal_rows : (k : Terminal) → IfRow (RowYields part.Literal k) (row_of part.Literal k)
unfolding row_of
literal_rows terminal.Leaf = λ us l. subst (λ x. Says ALiteral (terminal.Leaf ∷ x)) (sym l) says.LeafLiteral
literal_rows terminal.Number = λ us l. subst (λ x. Says ALiteral (terminal.Number ∷ x)) (sym l) says.NumberLiteral
literal_rows terminal.Seconds = λ us l. subst (λ x. Says ALiteral (terminal.Seconds ∷ x)) (sym l) says.SecondsLiteral
literal_rows terminal.Count = λ us l. subst (λ x. Says ALiteral (terminal.Count ∷ x)) (sym l) says.CountLiteral
literal_rows terminal.Text = λ us l. subst (λ x. Says ALiteral (terminal.Text ∷ x)) (sym l) says.TextLiteral
literal_rows terminal.Instant = λ us l. subst (λ x. Says ALiteral (terminal.Instant ∷ x)) (sym l) says.InstantLiteral
literal_rows terminal.Minus = λ us l. subst (λ x. Says ALiteral (terminal.Minus ∷ x)) (sym (ended us l.0 l.1 l.2 l.4)) l.3
literal_rows other = tt

pub negative_rows : (k : Terminal) → IfRow (RowYields part.Negative k) (row_of part.Negative k)
unfolding row_of
negative_rows terminal.Number = λ us l. subst (λ x. Says ALiteral (terminal.Minus ∷ terminal.Number ∷ x)) (sym l) says.NegativeNumber
negative_rows terminal.Seconds = λ us l. subst (λ x. Says ALiteral (terminal.Minus ∷ terminal.Seconds ∷ x)) (sym l) says.NegativeSeconds
negative_rows terminal.Count = λ us l. subst (λ x. Says ALiteral (terminal.Minus ∷ terminal.Count ∷ x)) (sym l) says.NegativeCount
negative_rows other = tt

pub whole_change : (us : List Terminal) → Yields change us → Says AClassChange us
whole_change us l =
    let o = l.2.2.2 in
    let s = o.2 in
    let n = s.4 in
    let x = n.2.2 in
    let y = x.4.2 in
    let e = y.4 in
    let closing : y.1 ≡ terminal.CloseBrace ∷ (terminal.Semi ∷ []) = e.1 ∙ ap (λ z. terminal.CloseBrace ∷ z) (e.2.1 ∙ ap (λ z. terminal.Semi ∷ z) e.2.2) in
    let fields : o.0 ≡ s.0 ++ (terminal.Name ∷ (terminal.Assign ∷ (x.0 ++ (terminal.Semi ∷ (y.0 ++ (terminal.CloseBrace ∷ (terminal.Semi ∷ []))))))) =
    s.2 ∙ ap (λ z. s.0 ++ z) (n.1 ∙ ap (λ z. terminal.Name ∷ z) (n.2.1 ∙ ap (λ z. terminal.Assign ∷ z) (x.2 ∙ ap (λ z. x.0 ++ z) (x.4.1 ∙ ap (λ z. terminal.Semi ∷ z) (y.2 ∙ ap (λ z. y.0 ++ z) closing))))) in
    let read : us ≡ terminal.Change ∷ (terminal.Class ∷ (terminal.Name ∷ (terminal.OpenBrace ∷ o.0))) =
    l.1 ∙ ap (λ z. terminal.Change ∷ z) (l.2.1 ∙ ap (λ z. terminal.Class ∷ z) (l.2.2.1 ∙ ap (λ z. terminal.Name ∷ z) o.1)) in
    let grouped : s.0 ++ (terminal.Name ∷ (terminal.Assign ∷ (x.0 ++ (terminal.Semi ∷ (y.0 ++ (terminal.CloseBrace ∷ (terminal.Semi ∷ []))))))) ≡ ((s.0 ++ terminal.Name ∷ terminal.Assign ∷ x.0 ++ terminal.Semi ∷ []) ++ y.0) ++ terminal.CloseBrace ∷ terminal.Semi ∷ [] = simp append_assoc in
    subst (Says AClassChange) (sym (read ∙ ap (λ z. terminal.Change ∷ (terminal.Class ∷ (terminal.Name ∷ (terminal.OpenBrace ∷ z)))) (fields ∙ grouped)))
    (says.ClassChange (says.Addition s.3 x.3) y.3)

-- ---- queries

-- a variable of a query and its class, and what comes then
range_front : (items : List Item) (us : List Terminal) → Yields (range ++ items) us
    → (rest : List Terminal) × (us ≡ terminal.Name ∷ terminal.In ∷ terminal.Name ∷ rest) × Yields items rest
range_front items us l = (
  l.2.2.0,
  l.1 ∙ ap (λ x. terminal.Name ∷ x) (l.2.1 ∙ ap (λ x. terminal.In ∷ x) l.2.2.1),
  l.2.2.2,
)

one_more_range : (n : ℕ) (p : Part) → ((ts : List Terminal) → PartYields p ts → Says (AMoreRanges n) ts) → (us : List Terminal)
    → Yields (range ++ item.Part p ∷ []) us → Says (AMoreRanges (suc n)) (terminal.Comma ∷ us)
one_more_range n p says_more us l =
    let r = range_front (item.Part p ∷ []) us l in
    let m = r.2 in
    subst (λ x. Says (AMoreRanges (suc n)) (terminal.Comma ∷ x)) (sym (r.1 ∙ ap (λ x. terminal.Name ∷ terminal.In ∷ terminal.Name ∷ x) (ended r.0 m.0 m.1 m.2 m.4)))
    (says.NextRange (says_more m.0 m.3))

pub second_range_rows : (k : Terminal) → IfRow (RowYields part.SecondRange k) (row_of part.SecondRange k)
unfolding row_of
second_range_rows terminal.Comma = λ us l. one_more_range 2 part.ThirdRange (λ ts x. x) us l
second_range_rows other = tt

pub third_range_rows : (k : Terminal) → IfRow (RowYields part.ThirdRange k) (row_of part.ThirdRange k)
unfolding row_of
third_range_rows terminal.Comma = λ us l. one_more_range 1 part.FourthRange (λ ts x. x) us l
third_range_rows other = tt

pub fourth_range_rows : (k : Terminal) → IfRow (RowYields part.FourthRange k) (row_of part.FourthRange k)
unfolding row_of
fourth_range_rows terminal.Comma = λ us l.
    let r = range_front [] us l in
    subst (λ x. Says (AMoreRanges 1) (terminal.Comma ∷ x)) (sym (r.1 ∙ ap (λ x. terminal.Name ∷ terminal.In ∷ terminal.Name ∷ x) r.2)) (says.NextRange {n = 0} says.LastRange)
fourth_range_rows other = tt

exprs_front : (items : List Item) (us : List Terminal) → Yields (exprs ++ items) us → Fronted AExpressions items us
exprs_front items us l =
    let m = l.4 in
    record {
      a = l.0 ++ m.0;
      rest = m.1;
      is = l.2 ∙ (ap (λ x. l.0 ++ x) m.2 ∙ sym (append_assoc l.0 m.0 m.1));
      front = says.Expressions l.3 m.3;
      behind = m.4;
    }

whole_exprs : (us : List Terminal) → Yields exprs us → Says AExpressions us
whole_exprs us l = let f = exprs_front [] us l in subst (Says AExpressions) (sym (ended us f.a f.rest f.is f.behind)) f.front

pub such_that_rows : (k : Terminal) → IfRow (RowYields part.SuchThat k) (row_of part.SuchThat k)
unfolding row_of
such_that_rows terminal.SuchThat = λ us l. subst (λ x. Says ATest (terminal.SuchThat ∷ x)) (sym (ended us l.0 l.1 l.2 l.4)) (says.Test l.3)
such_that_rows other = tt

pub by_rows : (k : Terminal) → IfRow (RowYields part.By k) (row_of part.By k)
unfolding row_of
by_rows terminal.By = λ us l. says.Sorting (whole_exprs us l)
by_rows other = tt

pub more_exprs_rows : (k : Terminal) → IfRow (RowYields part.MoreExprs k) (row_of part.MoreExprs k)
unfolding row_of
more_exprs_rows terminal.Comma = λ us l. says.NextExpressions (whole_exprs us l)
more_exprs_rows other = tt

-- what stands behind the first variable of a query and its class
abbrev behind_range : List Item
behind_range =
    item.Part part.SecondRange ∷ item.Build action.Arguments ∷ item.Part part.SuchThat ∷ item.Build action.Arguments ∷ item.Part part.By ∷ item.Token terminal.Show
    ∷ item.Build action.Arguments ∷ exprs ++ item.Token terminal.Semi ∷ []

pub whole_query : (us : List Terminal) → Yields query us → Says AQuery us
whole_query us l =
    let r = range_front behind_range l.0 l.2 in
    let m = r.2 in
    let t = m.4 in
    let b = t.4 in
    let s = b.4 in
    let f = exprs_front (item.Token terminal.Semi ∷ []) s.0 s.2 in
    let e = f.behind in
    let shown : s.0 ≡ f.a ++ terminal.Semi ∷ [] = f.is ∙ ap (λ x. f.a ++ x) (e.1 ∙ ap (λ x. terminal.Semi ∷ x) e.2) in
    let read : r.0 ≡ m.0 ++ (t.0 ++ (b.0 ++ (terminal.Show ∷ (f.a ++ terminal.Semi ∷ [])))) =
    m.2 ∙ ap (λ x. m.0 ++ x) (t.2 ∙ ap (λ x. t.0 ++ x) (b.2 ∙ ap (λ x. b.0 ++ x) (s.1 ∙ ap (λ x. terminal.Show ∷ x) shown))) in
    let grouped : m.0 ++ (t.0 ++ (b.0 ++ (terminal.Show ∷ (f.a ++ terminal.Semi ∷ [])))) ≡ (((m.0 ++ t.0) ++ b.0) ++ terminal.Show ∷ f.a) ++ terminal.Semi ∷ [] = simp append_assoc in
    subst (Says AQuery) (sym (l.1 ∙ ap (λ x. terminal.For ∷ x) (r.1 ∙ ap (λ x. terminal.Name ∷ terminal.In ∷ terminal.Name ∷ x) (read ∙ grouped))))
    (says.Query m.3 t.3 b.3 f.front)

-- ---- comparisons

pub whole_comparison : (us : List Terminal) → Yields comparison us → Says AComparison us
whole_comparison us l =
    let o = l.2.2 in
    let p = o.2 in
    let c = p.4 in
    let f = event_front (item.Token terminal.Comma ∷ whole_event ++ item.Token terminal.Semi ∷ []) c.0 c.2 in
    let d = f.behind in
    let g = event_front (item.Token terminal.Semi ∷ []) d.0 d.2 in
    let e = g.behind in
    let second : d.0 ≡ g.a ++ terminal.Semi ∷ [] = g.is ∙ ap (λ x. g.a ++ x) (e.1 ∙ ap (λ x. terminal.Semi ∷ x) e.2) in
    let first : c.0 ≡ f.a ++ (terminal.Comma ∷ (g.a ++ terminal.Semi ∷ [])) = f.is ∙ ap (λ x. f.a ++ x) (d.1 ∙ ap (λ x. terminal.Comma ∷ x) second) in
    let read : o.0 ≡ p.0 ++ (terminal.Colon ∷ (f.a ++ (terminal.Comma ∷ (g.a ++ terminal.Semi ∷ [])))) = p.2 ∙ ap (λ x. p.0 ++ x) (c.1 ∙ ap (λ x. terminal.Colon ∷ x) first) in
    subst (Says AComparison) (sym (l.1 ∙ ap (λ x. terminal.Same ∷ x) (l.2.1 ∙ ap (λ x. terminal.Name ∷ x) (o.1 ∙ ap (λ x. terminal.OpenParen ∷ x) (read ∙ regrouped p.0 f.a g.a)))))
    (says.Compared p.3 f.front g.front)
  where
    regrouped : (ps es fs : List Terminal)
        → ps ++ (terminal.Colon ∷ (es ++ (terminal.Comma ∷ (fs ++ terminal.Semi ∷ []))))
        ≡ ((ps ++ terminal.Colon ∷ es) ++ terminal.Comma ∷ fs) ++ terminal.Semi ∷ []
    regrouped ps es fs = simp append_assoc
