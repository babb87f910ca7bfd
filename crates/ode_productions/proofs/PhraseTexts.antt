-- What the productions of statements and classes say is what the rows derive.
use Rattle.std.proofs.Common.{◌≡◌, ℕ, zero, suc, List, [], ◌∷◌, ◌++◌, append_assoc, Option, Some, None, refl, sym, subst}
use Rattle.std.proofs.lemmas.List.{append-nil}
use Rattle.ode_grammar.specs.declared.item.Part.{Part}
use Rattle.ode_grammar.specs.declared.item.Part.TheVariants as part
use Rattle.ode_grammar.specs.declared.item.Action.TheVariants as action
use Rattle.ode_grammar.specs.declared.item.Item.{Item}
use Rattle.ode_grammar.specs.declared.item.Item.TheVariants as item
use Rattle.ode_grammar.specs.declared.reader.Start.TheVariants as start
use Rattle.ode_grammar.specs.declared.terminal.Terminal.{Terminal}
use Rattle.ode_grammar.specs.declared.terminal.Terminal.TheVariants as terminal
use Rattle.ode_grammar.specs.Expressions.{arguments, behind_unary, comp, conj, sum, term}
use Rattle.ode_grammar.specs.Events.{event as whole_event}
use Rattle.ode_grammar.specs.Statements.{alone, body, class_rest, done, dotted_call, ending, field_set, new, next}
use Rattle.ode_grammar.specs.Changes.{additions, change}
use Rattle.ode_grammar.specs.Classes.{method, one_param, test, trigger}
use Rattle.ode_grammar.specs.Comparisons.{comparison}
use Rattle.ode_grammar.specs.Grammar.{after, items_of, row_of, skipped}
use Rattle.ode_grammar.specs.Queries.{exprs, query, range}
use Rattle.ode_grammar.specs.Texts.{Done, IsText, Make, Next, Rule, Skip}
use Rattle.ode_grammar.proofs.Follows.{IfRow}
use Rattle.ode_productions.specs.Productions.{Is, Symbol}
use Rattle.ode_productions.specs.Productions as is
use Rattle.ode_productions.specs.Phrases.{Phrase, Says, AClass, AClassChange, AComparison, AQuery, AStatement}
use Rattle.ode_productions.specs.Phrases as says
use Rattle.ode_productions.proofs.Texts.{derived, event_whole, no_ands, no_compare, no_factors, no_ors, no_sums, no_unary_skip, regroup, token, whole, C, D, F, S, U}

-- ---- pieces

together : {xs items : List Item} {us ts : List Terminal} → D xs us → D items ts → D (xs ++ items) (us ++ ts)
together Done d = d
together (Next k e x) d = Next k e (together x d)
together (Make a x) d = Make a (together x d)
together {items = items} {ts = ts} (Rule {items = xs} {ts = us} p row e x) d =
    Rule p row e (subst (λ is. D is (us ++ ts)) (append_assoc row xs items) (together x d))
together (Skip p a e x) d = Skip p a e (together x d)

expr : (us : List Terminal) → Is is.Expression us → D (item.Part part.Expr ∷ []) us
expr us x = subst (λ ts. D (item.Part part.Expr ∷ []) ts) (append-nil us) (whole us (derived x) [] [] Done)

event : (us : List Terminal) → Is is.Event us → D whole_event us
event us x = subst (λ ts. D whole_event ts) (append-nil us) (event_whole us (derived x) [] [] Done)

row_alone : (p : Part) (k : Terminal) (row : List Item) (ts : List Terminal) → after p k ≡ Some row → D row ts → D (item.Part p ∷ []) (k ∷ ts)
row_alone p k row ts e d = Rule p row e (subst (λ is. D is ts) (sym (append-nil row)) d)

kind_part : {us : List Terminal} → Is is.Kind us → D (item.Part part.Kind ∷ []) us
unfolding row_of
kind_part is.AfterCreate = Rule part.Kind (item.Part part.AfterWhat ∷ []) refl (Rule part.AfterWhat (item.Build action.AfterCreate ∷ []) refl (Make action.AfterCreate Done))
kind_part is.BeforeDelete = Rule part.Kind (item.Part part.BeforeWhat ∷ []) refl (Rule part.BeforeWhat (item.Build action.BeforeDelete ∷ []) refl (Make action.BeforeDelete Done))
kind_part is.AfterMethod = Rule part.Kind (item.Part part.AfterWhat ∷ []) refl (Rule part.AfterWhat (item.Build action.AfterMethod ∷ []) refl (Make action.AfterMethod Done))
kind_part is.BeforeMethod = Rule part.Kind (item.Part part.BeforeWhat ∷ []) refl (Rule part.BeforeWhat (item.Build action.BeforeMethod ∷ []) refl (Make action.BeforeMethod Done))
kind_part is.AfterTBegin = Rule part.Kind (item.Part part.AfterWhat ∷ []) refl (Rule part.AfterWhat (item.Build action.AfterTBegin ∷ []) refl (Make action.AfterTBegin Done))
kind_part is.BeforeTComplete = Rule part.Kind (item.Part part.BeforeWhat ∷ []) refl (Rule part.BeforeWhat (item.Build action.BeforeTComplete ∷ []) refl (Make action.BeforeTComplete Done))
kind_part is.AfterTCommit = Rule part.Kind (item.Part part.AfterWhat ∷ []) refl (Rule part.AfterWhat (item.Build action.AfterTCommit ∷ []) refl (Make action.AfterTCommit Done))
kind_part is.AfterTAbort = Rule part.Kind (item.Part part.AfterWhat ∷ []) refl (Rule part.AfterWhat (item.Build action.AfterTAbort ∷ []) refl (Make action.AfterTAbort Done))
kind_part is.AfterNewVersion = Rule part.Kind (item.Part part.AfterWhat ∷ []) refl (Rule part.AfterWhat (item.Build action.AfterNewVersion ∷ []) refl (Make action.AfterNewVersion Done))
kind_part is.BeforeDropVersion = Rule part.Kind (item.Part part.BeforeWhat ∷ []) refl (Rule part.BeforeWhat (item.Build action.BeforeDropVersion ∷ []) refl (Make action.BeforeDropVersion Done))
kind_part is.EveryCount =
    Rule part.Kind (item.Part part.TimeWhat ∷ []) refl
    (Rule part.TimeWhat (item.Part part.Period ∷ []) refl (Rule part.Period (item.Build action.TimeEvery ∷ []) refl (Make action.TimeEvery Done)))
kind_part is.EverySeconds =
    Rule part.Kind (item.Part part.TimeWhat ∷ []) refl
    (Rule part.TimeWhat (item.Part part.Period ∷ []) refl (Rule part.Period (item.Build action.TimeEvery ∷ []) refl (Make action.TimeEvery Done)))
kind_part is.AtInstant =
    Rule part.Kind (item.Part part.TimeWhat ∷ []) refl
    (Rule part.TimeWhat (item.Token terminal.Instant ∷ item.Build action.TimeAt ∷ []) refl (token terminal.Instant (Make action.TimeAt Done)))

-- ---- right sides

abbrev plain_items : List Item
plain_items = item.Build action.Plain ∷ item.Token terminal.Semi ∷ []

abbrev ors_items : List Item
ors_items = item.Part part.Ors ∷ plain_items

abbrev ands_items : List Item
ands_items = item.Part part.Ands ∷ ors_items

abbrev compare_items : List Item
compare_items = C ∷ ands_items

abbrev sums_items : List Item
sums_items = S ∷ compare_items

abbrev factors_items : List Item
factors_items = F ∷ sums_items

-- a part behind the first chain of a right side, and what its rows make first
record IsState (p : Part) (first : List Item) : Type 0 where
  pub made : (items : List Item) (ts : List Terminal) → D items ts → D (first ++ items) ts
  pub dot : after p terminal.Dot ≡ Some (first ++ (item.Token terminal.Name ∷ item.Part part.RhsDot ∷ []))
  pub semi : after p terminal.Semi ≡ Some (first ++ (item.Build action.Plain ∷ []))
  pub times : after p terminal.Times ≡ Some (first ++ (U ∷ item.Build action.Binary ∷ factors_items))
  pub plus : after p terminal.Plus ≡ Some (first ++ (U ∷ F ∷ item.Build action.Binary ∷ sums_items))
  pub minus : after p terminal.Minus ≡ Some (first ++ (U ∷ F ∷ item.Build action.Binary ∷ sums_items))
  pub compares : after p terminal.Compares ≡ Some (first ++ (U ∷ F ∷ S ∷ item.Build action.Binary ∷ ands_items))
  pub ands : after p terminal.AndAnd ≡ Some (first ++ (U ∷ F ∷ S ∷ C ∷ item.Build action.Binary ∷ ands_items))
  pub ors : after p terminal.OrOr ≡ Some (first ++ (U ∷ F ∷ S ∷ C ∷ item.Part part.Ands ∷ item.Build action.Binary ∷ ors_items))

dots_state : IsState part.RhsDots []
unfolding row_of
dots_state = record { made = λ items ts d. d; dot = refl; semi = refl; times = refl; plus = refl; minus = refl; compares = refl; ands = refl; ors = refl }

dot_state : IsState part.RhsDot (item.Build action.Field ∷ [])
unfolding row_of
dot_state = record { made = λ items ts d. Make action.Field d; dot = refl; semi = refl; times = refl; plus = refl; minus = refl; compares = refl; ands = refl; ors = refl }

name_state : IsState part.RhsName (item.Build action.Variable ∷ [])
unfolding row_of
name_state = record { made = λ items ts d. Make action.Variable d; dot = refl; semi = refl; times = refl; plus = refl; minus = refl; compares = refl; ands = refl; ors = refl }

-- the tokens may stand behind a chain
abbrev Stands : List Terminal → Type 0
Stands ts = (p : Part) (first : List Item) → IsState p first → D (item.Part p ∷ []) ts

-- and behind an operand
record Tail (items : List Item) (ts : List Terminal) : Type 0 where
  pub rows : D items ts
  pub stands : Stands ts

tail_of : (q : Part) (k : Terminal) (row rest : List Item) (ts : List Terminal) → after q k ≡ Some row
    → ((p : Part) (first : List Item) → IsState p first → after p k ≡ Some (first ++ (row ++ rest))) → D (row ++ rest) ts → Tail (item.Part q ∷ rest) (k ∷ ts)
tail_of q k row rest ts e f d = record {
  rows = Rule q row e d;
  stands = λ p first s. row_alone p k (first ++ (row ++ rest)) ts (f p first s) (s.made (row ++ rest) ts d);
}

semi_tail : Tail ors_items (terminal.Semi ∷ [])
semi_tail = record {
  rows = no_ors (Make action.Plain (token terminal.Semi Done));
  stands = λ p first s. row_alone p terminal.Semi (first ++ (item.Build action.Plain ∷ [])) [] s.semi (s.made (item.Build action.Plain ∷ []) [] (Make action.Plain Done));
}

-- a part that changes may begin
record IsChange (p : Part) (more : List Item) : Type 0 where
  pub pnew : after p terminal.PNew ≡ Some (new ++ more)
  pub newversion : after p terminal.NewVersion ≡ Some (item.Part part.Expr ∷ item.Build action.NewVersion ∷ more)
  pub activate : after p terminal.Activate ≡ Some (item.Part part.Chained ∷ item.Build action.Activate ∷ more)

-- a part that an atom may begin, and what follows the atom
record IsAtoms (p : Part) (more : List Item) : Type 0 where
  pub leaf : after p terminal.Leaf ≡ Some (item.Build action.Leaf ∷ more)
  pub number : after p terminal.Number ≡ Some (item.Build action.Leaf ∷ more)
  pub seconds : after p terminal.Seconds ≡ Some (item.Build action.Leaf ∷ more)
  pub count : after p terminal.Count ≡ Some (item.Build action.Leaf ∷ more)
  pub text : after p terminal.Text ≡ Some (item.Build action.Leaf ∷ more)
  pub instant : after p terminal.Instant ≡ Some (item.Build action.Leaf ∷ more)
  pub pair : after p terminal.OpenParen ≡ Some (item.Part part.Expr ∷ item.Token terminal.CloseParen ∷ item.Build action.Pair ∷ more)
  pub version : after p terminal.Version ≡ Some (item.Token terminal.OpenParen ∷ item.Part part.Expr ∷ item.Token terminal.CloseParen ∷ item.Build action.Version ∷ more)

atom_first : {us : List Terminal} → (p : Part) (more : List Item) → IsAtoms p more → (ts : List Terminal) → Is is.Atom us
    → D (item.Part p ∷ []) (terminal.Name ∷ ts) → D more ts → D (item.Part p ∷ []) (us ++ ts)
atom_first p more i ts is.LeafAtom n d = row_alone p terminal.Leaf (item.Build action.Leaf ∷ more) ts i.leaf (Make action.Leaf d)
atom_first p more i ts is.NumberAtom n d = row_alone p terminal.Number (item.Build action.Leaf ∷ more) ts i.number (Make action.Leaf d)
atom_first p more i ts is.SecondsAtom n d = row_alone p terminal.Seconds (item.Build action.Leaf ∷ more) ts i.seconds (Make action.Leaf d)
atom_first p more i ts is.CountAtom n d = row_alone p terminal.Count (item.Build action.Leaf ∷ more) ts i.count (Make action.Leaf d)
atom_first p more i ts is.TextAtom n d = row_alone p terminal.Text (item.Build action.Leaf ∷ more) ts i.text (Make action.Leaf d)
atom_first p more i ts is.InstantAtom n d = row_alone p terminal.Instant (item.Build action.Leaf ∷ more) ts i.instant (Make action.Leaf d)
atom_first p more i ts is.NameAtom n d = n
atom_first p more i ts (is.Brackets {ts = vs} x) n d =
    row_alone p terminal.OpenParen (item.Part part.Expr ∷ item.Token terminal.CloseParen ∷ item.Build action.Pair ∷ more) ((vs ++ terminal.CloseParen ∷ []) ++ ts) i.pair
    (together (together (expr vs x) (token terminal.CloseParen Done)) (Make action.Pair d))
atom_first p more i ts (is.VersionOf {ts = vs} x) n d =
    row_alone p terminal.Version (item.Token terminal.OpenParen ∷ item.Part part.Expr ∷ item.Token terminal.CloseParen ∷ item.Build action.Version ∷ more)
    (terminal.OpenParen ∷ ((vs ++ terminal.CloseParen ∷ []) ++ ts)) i.version
    (token terminal.OpenParen (together (together (expr vs x) (token terminal.CloseParen Done)) (Make action.Version d)))

-- a part of right sides
record IsRight (r : Part) : Type 0 where
  pub atoms : IsAtoms r (item.Part part.RhsDots ∷ [])
  pub change : IsChange r ending
  pub minus : after r terminal.Minus ≡ Some (U ∷ item.Build action.Sign ∷ factors_items)
  pub not : after r terminal.Not ≡ Some (U ∷ item.Build action.Sign ∷ factors_items)
  pub name : (ts : List Terminal) → Stands ts → D (item.Part r ∷ []) (terminal.Name ∷ ts)

inner_right : IsRight part.Rhs
unfolding row_of
inner_right = record {
  atoms = record { leaf = refl; number = refl; seconds = refl; count = refl; text = refl; instant = refl; pair = refl; version = refl };
  change = record { pnew = refl; newversion = refl; activate = refl };
  minus = refl;
  not = refl;
  name = λ ts k. Rule part.Rhs (item.Part part.RhsName ∷ []) refl (k part.RhsName (item.Build action.Variable ∷ []) name_state);
}

script_right : IsRight part.ScriptRhs
unfolding row_of
script_right = record {
  atoms = record { leaf = refl; number = refl; seconds = refl; count = refl; text = refl; instant = refl; pair = refl; version = refl };
  change = record { pnew = refl; newversion = refl; activate = refl };
  minus = refl;
  not = refl;
  name = λ ts k. Rule part.ScriptRhs (item.Build action.Variable ∷ item.Part part.RhsDots ∷ []) refl (Make action.Variable (k part.RhsDots [] dots_state));
}

abbrev AsRight : Part → Symbol → List Terminal → Type 0
AsRight r is.Atom us = (ts : List Terminal) → Stands ts → D (item.Part r ∷ []) (us ++ ts)
AsRight r is.Chain us = (ts : List Terminal) → Stands ts → D (item.Part r ∷ []) (us ++ ts)
AsRight r is.Unary us = (ts : List Terminal) → Tail factors_items ts → D (item.Part r ∷ []) (us ++ ts)
AsRight r is.Term us = (ts : List Terminal) → Tail factors_items ts → D (item.Part r ∷ []) (us ++ ts)
AsRight r is.Sum us = (ts : List Terminal) → Tail sums_items ts → D (item.Part r ∷ []) (us ++ ts)
AsRight r is.Comparison us = (ts : List Terminal) → Tail ands_items ts → D (item.Part r ∷ []) (us ++ ts)
AsRight r is.Conjunction us = (ts : List Terminal) → Tail ands_items ts → D (item.Part r ∷ []) (us ++ ts)
AsRight r is.Expression us = (ts : List Terminal) → Tail ors_items ts → D (item.Part r ∷ []) (us ++ ts)
AsRight r is.Event us = Unit {0}
AsRight r is.More us = Unit {0}
AsRight r is.Conjoined us = Unit {0}
AsRight r is.Negated us = Unit {0}
AsRight r is.EventAtom us = Unit {0}
AsRight r is.Kind us = Unit {0}

right_atom : {us : List Terminal} → (r : Part) → IsRight r → Is is.Atom us → AsRight r is.Atom us
right_atom r i x = λ ts k. atom_first r (item.Part part.RhsDots ∷ []) i.atoms ts x (i.name ts k) (k part.RhsDots [] dots_state)

right : (r : Part) → IsRight r → {s : Symbol} {ts : List Terminal} → Is s ts → AsRight r s ts
unfolding row_of
right r i is.LeafAtom = right_atom r i is.LeafAtom
right r i is.NumberAtom = right_atom r i is.NumberAtom
right r i is.SecondsAtom = right_atom r i is.SecondsAtom
right r i is.CountAtom = right_atom r i is.CountAtom
right r i is.TextAtom = right_atom r i is.TextAtom
right r i is.InstantAtom = right_atom r i is.InstantAtom
right r i is.NameAtom = right_atom r i is.NameAtom
right r i (is.Brackets x) = right_atom r i (is.Brackets x)
right r i (is.VersionOf x) = right_atom r i (is.VersionOf x)
right r i (is.OneAtom x) = right r i x
right r i (is.Field {ts = us} x) = λ ts k.
    regroup us (terminal.Dot ∷ terminal.Name ∷ []) ts
    (right r i x (terminal.Dot ∷ terminal.Name ∷ ts) (λ p first s.
    row_alone p terminal.Dot (first ++ (item.Token terminal.Name ∷ item.Part part.RhsDot ∷ [])) (terminal.Name ∷ ts) s.dot
    (s.made (item.Token terminal.Name ∷ item.Part part.RhsDot ∷ []) (terminal.Name ∷ ts) (token terminal.Name (k part.RhsDot (item.Build action.Field ∷ []) dot_state)))))
right r i (is.Minus {ts = us} x) = λ ts t.
    row_alone r terminal.Minus (U ∷ item.Build action.Sign ∷ factors_items) (us ++ ts) i.minus (derived x (item.Build action.Sign ∷ factors_items) ts (Make action.Sign t.rows))
right r i (is.Not {ts = us} x) = λ ts t.
    row_alone r terminal.Not (U ∷ item.Build action.Sign ∷ factors_items) (us ++ ts) i.not (derived x (item.Build action.Sign ∷ factors_items) ts (Make action.Sign t.rows))
right r i (is.OneChain x) = λ ts t. right r i x ts t.stands
right r i (is.OneUnary x) = λ ts t. right r i x ts t
right r i (is.Factor {ts = us} {us = vs} x y) = λ ts t.
    regroup us (terminal.Times ∷ vs) ts
    (right r i x (terminal.Times ∷ vs ++ ts)
    (tail_of part.Factors terminal.Times (U ∷ item.Build action.Binary ∷ F ∷ []) sums_items (vs ++ ts) refl (λ p first s. s.times)
    (derived y (item.Build action.Binary ∷ factors_items) ts (Make action.Binary t.rows))))
right r i (is.OneTerm x) = λ ts t. right r i x ts (record { rows = no_factors t.rows; stands = t.stands })
right r i (is.Plus {ts = us} {us = vs} x y) = λ ts t.
    regroup us (terminal.Plus ∷ vs) ts
    (right r i x (terminal.Plus ∷ vs ++ ts)
    (tail_of part.Sums terminal.Plus (term ++ item.Build action.Binary ∷ S ∷ []) compare_items (vs ++ ts) refl (λ p first s. s.plus)
    (derived y (item.Build action.Binary ∷ sums_items) ts (no_factors (Make action.Binary t.rows)))))
right r i (is.Less {ts = us} {us = vs} x y) = λ ts t.
    regroup us (terminal.Minus ∷ vs) ts
    (right r i x (terminal.Minus ∷ vs ++ ts)
    (tail_of part.Sums terminal.Minus (term ++ item.Build action.Binary ∷ S ∷ []) compare_items (vs ++ ts) refl (λ p first s. s.minus)
    (derived y (item.Build action.Binary ∷ sums_items) ts (no_factors (Make action.Binary t.rows)))))
right r i (is.OneSum x) = λ ts t. right r i x ts (record { rows = no_sums (no_compare t.rows); stands = t.stands })
right r i (is.Compared {ts = us} {us = vs} x y) = λ ts t.
    let behind = tail_of part.Compare terminal.Compares (sum ++ item.Build action.Binary ∷ []) ands_items (vs ++ ts) refl (λ p first s. s.compares)
    (derived y (item.Build action.Binary ∷ ands_items) ts (no_sums (Make action.Binary t.rows))) in
    regroup us (terminal.Compares ∷ vs) ts (right r i x (terminal.Compares ∷ vs ++ ts) (record { rows = no_sums behind.rows; stands = behind.stands }))
right r i (is.OneComparison x) = λ ts t. right r i x ts t
right r i (is.And {ts = us} {us = vs} x y) = λ ts t.
    regroup us (terminal.AndAnd ∷ vs) ts
    (right r i x (terminal.AndAnd ∷ vs ++ ts)
    (tail_of part.Ands terminal.AndAnd (comp ++ item.Build action.Binary ∷ item.Part part.Ands ∷ []) ors_items (vs ++ ts) refl (λ p first s. s.ands)
    (derived y (item.Build action.Binary ∷ ands_items) ts (Make action.Binary t.rows))))
right r i (is.OneConjunction x) = λ ts t. right r i x ts (record { rows = no_ands t.rows; stands = t.stands })
right r i (is.Or {ts = us} {us = vs} x y) = λ ts t.
    regroup us (terminal.OrOr ∷ vs) ts
    (right r i x (terminal.OrOr ∷ vs ++ ts)
    (tail_of part.Ors terminal.OrOr (conj ++ item.Build action.Binary ∷ item.Part part.Ors ∷ []) plain_items (vs ++ ts) refl (λ p first s. s.ors)
    (derived y (item.Build action.Binary ∷ ors_items) ts (no_ands (Make action.Binary t.rows)))))
right r i is.AfterCreate = tt
right r i is.BeforeDelete = tt
right r i is.AfterMethod = tt
right r i is.BeforeMethod = tt
right r i is.AfterTBegin = tt
right r i is.BeforeTComplete = tt
right r i is.AfterTCommit = tt
right r i is.AfterTAbort = tt
right r i is.AfterNewVersion = tt
right r i is.BeforeDropVersion = tt
right r i is.EveryCount = tt
right r i is.EverySeconds = tt
right r i is.AtInstant = tt
right r i (is.EventBrackets x) = tt
right r i (is.MaskedBrackets x y) = tt
right r i is.AnyPoint = tt
right r i is.FirstPoint = tt
right r i (is.OneKind x) = tt
right r i (is.Masked x y) = tt
right r i (is.Relative x y) = tt
right r i (is.Prior x y) = tt
right r i (is.Sequence x y) = tt
right r i (is.Choose x) = tt
right r i (is.Every x) = tt
right r i (is.Fa x y z) = tt
right r i (is.FaAbs x y z) = tt
right r i (is.RelPlus x) = tt
right r i (is.Pipe x y) = tt
right r i (is.LastEvent x) = tt
right r i (is.NextEvent x y) = tt
right r i (is.NotEvent x) = tt
right r i (is.OneEventAtom x) = tt
right r i (is.OneNegated x) = tt
right r i (is.AndEvents x y) = tt
right r i (is.OneConjoined x) = tt
right r i (is.OrEvents x y) = tt

-- ---- calls by a reference

-- a part that such a call may begin, and what follows the call
record IsPlace (p : Part) (items : List Item) : Type 0 where
  pub atoms : IsAtoms p (item.Token terminal.Dot ∷ item.Token terminal.Name ∷ item.Part part.CallDot ∷ items)
  pub name : (ts : List Terminal) → D (item.Part part.CallDot ∷ items) ts → D (item.Part p ∷ []) (terminal.Name ∷ terminal.Dot ∷ terminal.Name ∷ ts)

abbrev Called : List Terminal → Type 0
Called us = (p : Part) (items : List Item) → IsPlace p items → (ts : List Terminal) → D (item.Part part.CallDot ∷ items) ts
    → D (item.Part p ∷ []) (us ++ terminal.Dot ∷ terminal.Name ∷ ts)

chained : {us : List Terminal} → Is is.Chain us → Called us
unfolding row_of
chained (is.OneAtom x) = λ p items i ts d.
    atom_first p (item.Token terminal.Dot ∷ item.Token terminal.Name ∷ item.Part part.CallDot ∷ items) i.atoms (terminal.Dot ∷ terminal.Name ∷ ts) x (i.name ts d)
    (token terminal.Dot (token terminal.Name d))
chained (is.Field {ts = vs} x) = λ p items i ts d.
    regroup vs (terminal.Dot ∷ terminal.Name ∷ []) (terminal.Dot ∷ terminal.Name ∷ ts)
    (chained x p items i (terminal.Dot ∷ terminal.Name ∷ ts)
    (Rule part.CallDot (item.Build action.Field ∷ item.Token terminal.Name ∷ item.Part part.CallDot ∷ []) refl (Make action.Field (token terminal.Name d))))

chained_place : IsPlace part.Chained []
unfolding row_of
chained_place = record {
  atoms = record { leaf = refl; number = refl; seconds = refl; count = refl; text = refl; instant = refl; pair = refl; version = refl };
  name = λ ts d. Rule part.Chained (item.Build action.Variable ∷ dotted_call) refl (Make action.Variable (token terminal.Dot (token terminal.Name d)));
}

record Dotted (us : List Terminal) : Type 0 where
  pub place : (p : Part) (items : List Item) → IsPlace p items → (ts : List Terminal) → D items ts → D (item.Part p ∷ []) (us ++ ts)
  pub side : (r : Part) → IsRight r → D (item.Part r ∷ []) (us ++ terminal.Semi ∷ [])

dotted : (cs vs : List Terminal) → Is is.Chain cs → D (item.Part part.Args ∷ []) vs → Dotted (cs ++ terminal.Dot ∷ terminal.Name ∷ terminal.OpenParen ∷ vs)
unfolding row_of
dotted cs vs c a = record {
  place = λ p items i ts d.
      regroup cs (terminal.Dot ∷ terminal.Name ∷ terminal.OpenParen ∷ vs) ts
      (chained c p items i (terminal.OpenParen ∷ vs ++ ts) (Rule part.CallDot arguments refl (Make action.Arguments (together a d))));
  side = λ r i.
      regroup cs (terminal.Dot ∷ terminal.Name ∷ terminal.OpenParen ∷ vs) (terminal.Semi ∷ [])
      (right r i c (terminal.Dot ∷ terminal.Name ∷ terminal.OpenParen ∷ vs ++ terminal.Semi ∷ []) (λ p first s.
      row_alone p terminal.Dot (first ++ (item.Token terminal.Name ∷ item.Part part.RhsDot ∷ [])) (terminal.Name ∷ terminal.OpenParen ∷ vs ++ terminal.Semi ∷ []) s.dot
      (s.made (item.Token terminal.Name ∷ item.Part part.RhsDot ∷ []) (terminal.Name ∷ terminal.OpenParen ∷ vs ++ terminal.Semi ∷ [])
      (token terminal.Name
      (Rule part.RhsDot (arguments ++ item.Build action.Call ∷ ending) refl (Make action.Arguments (together a (Make action.Call (token terminal.Semi Done)))))))));
}

-- ---- expressions at the parts whose rows begin one

abbrev args_items : List Item
args_items = item.Build action.Argument ∷ item.Part part.MoreArgs ∷ []

abbrev return_items : List Item
return_items = item.Token terminal.Semi ∷ item.Build action.Return ∷ []

args_like : (k : Terminal) → IfRow (λ row. after part.Args k ≡ Some (row ++ (behind_unary ++ args_items))) (after part.Unary k)
unfolding row_of
args_like terminal.Leaf = refl
args_like terminal.Number = refl
args_like terminal.Seconds = refl
args_like terminal.Count = refl
args_like terminal.Text = refl
args_like terminal.Instant = refl
args_like terminal.Name = refl
args_like terminal.Change = refl
args_like terminal.FaAbs = refl
args_like terminal.By = refl
args_like terminal.For = refl
args_like terminal.In = refl
args_like terminal.Same = refl
args_like terminal.SuchThat = refl
args_like terminal.Pipe = refl
args_like terminal.RelPlus = refl
args_like terminal.OpenParen = refl
args_like terminal.Version = refl
args_like terminal.Minus = refl
args_like terminal.Not = refl
args_like other = tt

return_like : (k : Terminal) → IfRow (λ row. after part.ReturnValue k ≡ Some (row ++ (behind_unary ++ return_items))) (after part.Unary k)
unfolding row_of
return_like terminal.Leaf = refl
return_like terminal.Number = refl
return_like terminal.Seconds = refl
return_like terminal.Count = refl
return_like terminal.Text = refl
return_like terminal.Instant = refl
return_like terminal.Name = refl
return_like terminal.Change = refl
return_like terminal.FaAbs = refl
return_like terminal.By = refl
return_like terminal.For = refl
return_like terminal.In = refl
return_like terminal.Same = refl
return_like terminal.SuchThat = refl
return_like terminal.Pipe = refl
return_like terminal.RelPlus = refl
return_like terminal.OpenParen = refl
return_like terminal.Version = refl
return_like terminal.Minus = refl
return_like terminal.Not = refl
return_like other = tt

begins_like : (p : Part) (items : List Item) → ((k : Terminal) → IfRow (λ row. after p k ≡ Some (row ++ (behind_unary ++ items))) (after part.Unary k))
    → {ts : List Terminal} → D (item.Part part.Unary ∷ behind_unary ++ items) ts → D (item.Part p ∷ []) ts
begins_like p items like (Rule {t = t} {ts = ts} q row e d) =
    row_alone p t (row ++ (behind_unary ++ items)) ts (subst (IfRow (λ r. after p t ≡ Some (r ++ (behind_unary ++ items)))) e (like t)) d
begins_like p items like (Skip q a e d) = absurd (no_unary_skip a e)

-- ---- parameters

-- the item at which at most so many parameters more may come
abbrev param_part : ℕ → Option Item
param_part zero = Some (item.Token terminal.CloseParen)
param_part (suc zero) = Some (item.Part part.SixteenthParam)
param_part (suc (suc zero)) = Some (item.Part part.FifteenthParam)
param_part (suc (suc (suc zero))) = Some (item.Part part.FourteenthParam)
param_part (suc (suc (suc (suc zero)))) = Some (item.Part part.ThirteenthParam)
param_part (suc (suc (suc (suc (suc zero))))) = Some (item.Part part.TwelfthParam)
param_part (suc (suc (suc (suc (suc (suc zero)))))) = Some (item.Part part.EleventhParam)
param_part (suc (suc (suc (suc (suc (suc (suc zero))))))) = Some (item.Part part.TenthParam)
param_part (suc (suc (suc (suc (suc (suc (suc (suc zero)))))))) = Some (item.Part part.NinthParam)
param_part (suc (suc (suc (suc (suc (suc (suc (suc (suc zero))))))))) = Some (item.Part part.EighthParam)
param_part (suc (suc (suc (suc (suc (suc (suc (suc (suc (suc zero)))))))))) = Some (item.Part part.SeventhParam)
param_part (suc (suc (suc (suc (suc (suc (suc (suc (suc (suc (suc zero))))))))))) = Some (item.Part part.SixthParam)
param_part (suc (suc (suc (suc (suc (suc (suc (suc (suc (suc (suc (suc zero)))))))))))) = Some (item.Part part.FifthParam)
param_part (suc (suc (suc (suc (suc (suc (suc (suc (suc (suc (suc (suc (suc zero))))))))))))) = Some (item.Part part.FourthParam)
param_part (suc (suc (suc (suc (suc (suc (suc (suc (suc (suc (suc (suc (suc (suc zero)))))))))))))) = Some (item.Part part.ThirdParam)
param_part (suc (suc (suc (suc (suc (suc (suc (suc (suc (suc (suc (suc (suc (suc (suc zero))))))))))))))) = Some (item.Part part.SecondParam)
param_part (suc (suc (suc (suc (suc (suc (suc (suc (suc (suc (suc (suc (suc (suc (suc (suc n)))))))))))))))) = None

abbrev IfPart : Option Item → List Terminal → Type 0
IfPart None us = Unit {0}
IfPart (Some i) us = D (i ∷ []) us

last_param : (n : ℕ) → IfPart (param_part n) (terminal.CloseParen ∷ [])
unfolding row_of
last_param zero = token terminal.CloseParen Done
last_param (suc zero) = Rule part.SixteenthParam [] refl Done
last_param (suc (suc zero)) = Rule part.FifteenthParam [] refl Done
last_param (suc (suc (suc zero))) = Rule part.FourteenthParam [] refl Done
last_param (suc (suc (suc (suc zero)))) = Rule part.ThirteenthParam [] refl Done
last_param (suc (suc (suc (suc (suc zero))))) = Rule part.TwelfthParam [] refl Done
last_param (suc (suc (suc (suc (suc (suc zero)))))) = Rule part.EleventhParam [] refl Done
last_param (suc (suc (suc (suc (suc (suc (suc zero))))))) = Rule part.TenthParam [] refl Done
last_param (suc (suc (suc (suc (suc (suc (suc (suc zero)))))))) = Rule part.NinthParam [] refl Done
last_param (suc (suc (suc (suc (suc (suc (suc (suc (suc zero))))))))) = Rule part.EighthParam [] refl Done
last_param (suc (suc (suc (suc (suc (suc (suc (suc (suc (suc zero)))))))))) = Rule part.SeventhParam [] refl Done
last_param (suc (suc (suc (suc (suc (suc (suc (suc (suc (suc (suc zero))))))))))) = Rule part.SixthParam [] refl Done
last_param (suc (suc (suc (suc (suc (suc (suc (suc (suc (suc (suc (suc zero)))))))))))) = Rule part.FifthParam [] refl Done
last_param (suc (suc (suc (suc (suc (suc (suc (suc (suc (suc (suc (suc (suc zero))))))))))))) = Rule part.FourthParam [] refl Done
last_param (suc (suc (suc (suc (suc (suc (suc (suc (suc (suc (suc (suc (suc (suc zero)))))))))))))) = Rule part.ThirdParam [] refl Done
last_param (suc (suc (suc (suc (suc (suc (suc (suc (suc (suc (suc (suc (suc (suc (suc zero))))))))))))))) = Rule part.SecondParam [] refl Done
last_param (suc (suc (suc (suc (suc (suc (suc (suc (suc (suc (suc (suc (suc (suc (suc (suc n)))))))))))))))) = tt

one_more : (p : Part) (i : Item) → after p terminal.Comma ≡ Some (one_param i) → (us vs : List Terminal) → D (item.Part part.Sort ∷ []) us → D (i ∷ []) vs
    → D (item.Part p ∷ []) (terminal.Comma ∷ us ++ terminal.Name ∷ vs)
one_more p i e us vs x y = Rule p (one_param i) e (together x (token terminal.Name (Make action.Param y)))

next_param : (n : ℕ) (us vs : List Terminal) → D (item.Part part.Sort ∷ []) us → IfPart (param_part n) vs → IfPart (param_part (suc n)) (terminal.Comma ∷ us ++ terminal.Name ∷ vs)
unfolding row_of
next_param zero us vs x y = one_more part.SixteenthParam (item.Token terminal.CloseParen) refl us vs x y
next_param (suc zero) us vs x y = one_more part.FifteenthParam (item.Part part.SixteenthParam) refl us vs x y
next_param (suc (suc zero)) us vs x y = one_more part.FourteenthParam (item.Part part.FifteenthParam) refl us vs x y
next_param (suc (suc (suc zero))) us vs x y = one_more part.ThirteenthParam (item.Part part.FourteenthParam) refl us vs x y
next_param (suc (suc (suc (suc zero)))) us vs x y = one_more part.TwelfthParam (item.Part part.ThirteenthParam) refl us vs x y
next_param (suc (suc (suc (suc (suc zero))))) us vs x y = one_more part.EleventhParam (item.Part part.TwelfthParam) refl us vs x y
next_param (suc (suc (suc (suc (suc (suc zero)))))) us vs x y = one_more part.TenthParam (item.Part part.EleventhParam) refl us vs x y
next_param (suc (suc (suc (suc (suc (suc (suc zero))))))) us vs x y = one_more part.NinthParam (item.Part part.TenthParam) refl us vs x y
next_param (suc (suc (suc (suc (suc (suc (suc (suc zero)))))))) us vs x y = one_more part.EighthParam (item.Part part.NinthParam) refl us vs x y
next_param (suc (suc (suc (suc (suc (suc (suc (suc (suc zero))))))))) us vs x y = one_more part.SeventhParam (item.Part part.EighthParam) refl us vs x y
next_param (suc (suc (suc (suc (suc (suc (suc (suc (suc (suc zero)))))))))) us vs x y = one_more part.SixthParam (item.Part part.SeventhParam) refl us vs x y
next_param (suc (suc (suc (suc (suc (suc (suc (suc (suc (suc (suc zero))))))))))) us vs x y = one_more part.FifthParam (item.Part part.SixthParam) refl us vs x y
next_param (suc (suc (suc (suc (suc (suc (suc (suc (suc (suc (suc (suc zero)))))))))))) us vs x y = one_more part.FourthParam (item.Part part.FifthParam) refl us vs x y
next_param (suc (suc (suc (suc (suc (suc (suc (suc (suc (suc (suc (suc (suc zero))))))))))))) us vs x y = one_more part.ThirdParam (item.Part part.FourthParam) refl us vs x y
next_param (suc (suc (suc (suc (suc (suc (suc (suc (suc (suc (suc (suc (suc (suc zero)))))))))))))) us vs x y = one_more part.SecondParam (item.Part part.ThirdParam) refl us vs x y
next_param (suc (suc (suc (suc (suc (suc (suc (suc (suc (suc (suc (suc (suc (suc (suc n))))))))))))))) us vs x y = tt

-- ---- variables of queries

-- where at most so many variables more may come
abbrev AsRanges : ℕ → List Terminal → Type 0
AsRanges zero us = D [] us
AsRanges (suc zero) us = D (item.Part part.FourthRange ∷ []) us
AsRanges (suc (suc zero)) us = D (item.Part part.ThirdRange ∷ []) us
AsRanges (suc (suc (suc zero))) us = D (item.Part part.SecondRange ∷ []) us
AsRanges (suc (suc (suc (suc n)))) us = Unit {0}

last_range : (n : ℕ) → AsRanges n []
unfolding skipped
last_range zero = Done
last_range (suc zero) = Skip part.FourthRange action.Nothing refl Done
last_range (suc (suc zero)) = Skip part.ThirdRange action.Nothing refl Done
last_range (suc (suc (suc zero))) = Skip part.SecondRange action.Nothing refl Done
last_range (suc (suc (suc (suc n)))) = tt

one_range : {items : List Item} {ts : List Terminal} → D items ts → D (range ++ items) (terminal.Name ∷ terminal.In ∷ terminal.Name ∷ ts)
one_range d = token terminal.Name (token terminal.In (Make action.DropWord (token terminal.Name (Make action.RefSort (Make action.Param d)))))

next_range : (n : ℕ) (us : List Terminal) → AsRanges n us → AsRanges (suc n) (terminal.Comma ∷ terminal.Name ∷ terminal.In ∷ terminal.Name ∷ us)
unfolding row_of
next_range zero us d = Rule part.FourthRange range refl (one_range d)
next_range (suc zero) us d = Rule part.ThirdRange (range ++ item.Part part.FourthRange ∷ []) refl (one_range d)
next_range (suc (suc zero)) us d = Rule part.SecondRange (range ++ item.Part part.ThirdRange ∷ []) refl (one_range d)
next_range (suc (suc (suc n))) us d = tt

-- ---- statements

-- a part that simple statements may begin, and what follows them
record IsSimple (p : Part) (more : List Item) : Type 0 where
  pub say : after p terminal.Say ≡ Some (item.Part part.Expr ∷ item.Token terminal.Semi ∷ item.Build action.Say ∷ more)
  pub pdelete : after p terminal.PDelete ≡ Some (item.Part part.Expr ∷ item.Token terminal.Semi ∷ item.Build action.Delete ∷ more)
  pub dropversion : after p terminal.DropVersion ≡ Some (item.Part part.Expr ∷ item.Token terminal.Semi ∷ item.Build action.DropVersion ∷ more)
  pub deactivate : after p terminal.Deactivate
      ≡ Some (item.Part part.Expr ∷ item.Token terminal.Comma ∷ item.Part part.Expr ∷ item.Token terminal.Semi ∷ item.Build action.Deactivate ∷ more)
  pub change : IsChange p (done more)
  pub place : IsPlace p (item.Build action.Call ∷ done more)

inner_simple : IsSimple part.Inners next
unfolding row_of
inner_simple = record {
  say = refl;
  pdelete = refl;
  dropversion = refl;
  deactivate = refl;
  change = record { pnew = refl; newversion = refl; activate = refl };
  place = record {
    atoms = record { leaf = refl; number = refl; seconds = refl; count = refl; text = refl; instant = refl; pair = refl; version = refl };
    name = λ ts d.
        Rule part.Inners (item.Part part.InnerName ∷ next) refl
        (Rule part.InnerName (item.Build action.Variable ∷ item.Token terminal.Name ∷ item.Part part.CallDot ∷ item.Build action.Call ∷ done []) refl
        (Make action.Variable (token terminal.Name d)));
  };
}

script_simple : IsSimple part.Statement alone
unfolding row_of
script_simple = record {
  say = refl;
  pdelete = refl;
  dropversion = refl;
  deactivate = refl;
  change = record { pnew = refl; newversion = refl; activate = refl };
  place = record {
    atoms = record { leaf = refl; number = refl; seconds = refl; count = refl; text = refl; instant = refl; pair = refl; version = refl };
    name = λ ts d.
        Rule part.Statement (item.Build action.Variable ∷ dotted_call ++ item.Build action.Call ∷ done alone) refl
        (Make action.Variable (token terminal.Dot (token terminal.Name d)));
  };
}

-- an expression and its semicolon
closed : (us : List Terminal) → Is is.Expression us → D (item.Part part.Expr ∷ item.Token terminal.Semi ∷ []) (us ++ terminal.Semi ∷ [])
closed us x = together (expr us x) (token terminal.Semi Done)

-- a text and nothing behind it
regroup_nil : {items : List Item} (us ts : List Terminal) → D items ((us ++ []) ++ ts) → D items (us ++ ts)
regroup_nil {items = items} us ts d = subst (λ z. D items (z ++ ts)) (append-nil us) d

-- ---- all

record Sorted (us : List Terminal) : Type 0 where
  pub sort : D (item.Part part.Sort ∷ []) us
  pub member : (ts : List Terminal) → D (item.Token terminal.Name ∷ item.Part part.FieldOrMethod ∷ item.Part part.Members ∷ []) ts
      → D (item.Part part.Members ∷ []) (us ++ ts)
  pub param : (ts : List Terminal) → D (item.Token terminal.Name ∷ item.Build action.Param ∷ item.Part part.SecondParam ∷ []) ts
      → D (item.Part part.Params ∷ []) (us ++ ts)
  pub addition : (ts : List Terminal) → D additions ts → D (item.Part part.Additions ∷ []) (us ++ ts)

-- what ends a change of a class
abbrev closing : List Item
closing = item.Token terminal.CloseBrace ∷ item.Token terminal.Semi ∷ []

-- an added field: the first of a change, and any other
record Adds (us : List Terminal) : Type 0 where
  pub first : (ts : List Terminal) → D (item.Part part.Additions ∷ closing) ts → D (item.Part part.Sort ∷ additions ++ closing) (us ++ ts)
  pub other : (ts : List Terminal) → D (item.Part part.Additions ∷ []) ts → D (item.Part part.Additions ∷ []) (us ++ ts)

abbrev AsPhrase : Phrase → List Terminal → Type 0
AsPhrase says.AArguments us = D (item.Part part.Args ∷ []) us
AsPhrase says.AMoreArguments us = D (item.Part part.MoreArgs ∷ []) us
AsPhrase says.ADotted us = Dotted us
AsPhrase says.ASets us = D (item.Part part.Sets ∷ []) us
AsPhrase says.AMoreSets us = D (item.Part part.MoreSets ∷ []) us
AsPhrase says.AChange us = (p : Part) (more : List Item) → IsChange p more → (ts : List Terminal) → D more ts → D (item.Part p ∷ []) (us ++ ts)
AsPhrase says.AGiven us = (r : Part) → IsRight r → D (item.Part r ∷ []) us
AsPhrase says.ARight us = D (item.Part part.Rhs ∷ []) us
AsPhrase says.ASimple us = (p : Part) (more : List Item) → IsSimple p more → (ts : List Terminal) → D more ts → D (item.Part p ∷ []) (us ++ ts)
AsPhrase says.AInner us = (ts : List Terminal) → D (item.Part part.Inners ∷ []) ts → D (item.Part part.Inners ∷ []) (us ++ ts)
AsPhrase says.AInners us = D (item.Part part.Inners ∷ []) us
AsPhrase says.ABody us = D body us
AsPhrase says.AOtherwise us = D (item.Part part.Else ∷ []) us
AsPhrase says.ASort us = Sorted us
AsPhrase says.AParams us = D (item.Part part.Params ∷ []) us
AsPhrase says.AMoreKinds us = D (item.Part part.MoreKinds ∷ []) us
AsPhrase says.AInitially us = D (item.Part part.Initial ∷ []) us
AsPhrase says.ALasts us = D (item.Part part.Lasting ∷ []) us
AsPhrase says.AScoped us = D (item.Part part.Scope ∷ []) us
AsPhrase says.AModed us = D (item.Part part.Mode ∷ []) us
AsPhrase says.AMember us = (ts : List Terminal) → D (item.Part part.Members ∷ []) ts → D (item.Part part.Members ∷ []) (us ++ ts)
AsPhrase says.AMembers us = D (item.Part part.Members ∷ []) us
AsPhrase says.AParented us = D (item.Part part.Parent ∷ []) us
AsPhrase says.AClass us = (rest : List Terminal) × (us ≡ terminal.Class ∷ rest) × D class_rest rest
AsPhrase says.ALiteral us = D (item.Part part.Literal ∷ []) us
AsPhrase says.AAddition us = Adds us
AsPhrase says.AAdditions us = D (item.Part part.Additions ∷ []) us
AsPhrase says.AClassChange us = D change us
AsPhrase says.ATest us = D (item.Part part.SuchThat ∷ []) us
AsPhrase says.AExpressions us = D exprs us
AsPhrase says.AMoreExpressions us = D (item.Part part.MoreExprs ∷ []) us
AsPhrase says.ASorting us = D (item.Part part.By ∷ []) us
AsPhrase says.AQuery us = D query us
AsPhrase says.AComparison us = D comparison us
AsPhrase says.AStatement us = D (item.Part part.Statement ∷ []) us
AsPhrase (says.AMoreParams n) us = IfPart (param_part n) us
AsPhrase (says.AMoreRanges n) us = AsRanges n us

said : {s : Phrase} {ts : List Terminal} → Says s ts → AsPhrase s ts
unfolding row_of skipped
said says.NoArguments = Rule part.Args [] refl Done
said (says.SomeArguments {us = vs} x y) =
    begins_like part.Args args_items args_like (derived x args_items vs (no_ors (Make action.Argument (said y))))
said says.LastArgument = Rule part.MoreArgs [] refl Done
said (says.NextArgument {ts = us} x y) = Rule part.MoreArgs (item.Part part.Expr ∷ args_items) refl (together (expr us x) (Make action.Argument (said y)))
said (says.DottedCall {ts = us} {us = vs} x y) = dotted us vs x (said y)
said says.NoSets = Rule part.Sets [] refl Done
said (says.SomeSets {ts = us} x y) = Rule part.Sets field_set refl (token terminal.Assign (together (expr us x) (Make action.AddSet (said y))))
said says.LastSet = Rule part.MoreSets [] refl Done
said (says.NextSet {ts = us} x y) =
    Rule part.MoreSets (item.Token terminal.Name ∷ field_set) refl
    (token terminal.Name (token terminal.Assign (together (expr us x) (Make action.AddSet (said y)))))
said (says.NewObject {ts = us} x) = λ p more i ts d.
    row_alone p terminal.PNew (new ++ more) (terminal.Name ∷ terminal.OpenParen ∷ us ++ ts) i.pnew
    (token terminal.Name (token terminal.OpenParen (Make action.Sets (together (said x) (Make action.New d)))))
said (says.NewVersion {ts = us} x) = λ p more i ts d.
    row_alone p terminal.NewVersion (item.Part part.Expr ∷ item.Build action.NewVersion ∷ more) (us ++ ts) i.newversion (together (expr us x) (Make action.NewVersion d))
said (says.Activate {ts = us} x) = λ p more i ts d.
    row_alone p terminal.Activate (item.Part part.Chained ∷ item.Build action.Activate ∷ more) (us ++ ts) i.activate
    (regroup_nil us ts (together ((said x).place part.Chained [] chained_place [] Done) (Make action.Activate d)))
said (says.GivenExpression x) = λ r i. right r i x (terminal.Semi ∷ []) semi_tail
said (says.GivenCall x) = λ r i. (said x).side r i
said (says.GivenChange x) = λ r i. said x r ending i.change (terminal.Semi ∷ []) (token terminal.Semi Done)
said (says.OneGiven x) = said x part.Rhs inner_right
said (says.OwnCall x) =
    Rule part.Rhs (item.Part part.RhsName ∷ []) refl
    (Rule part.RhsName (arguments ++ item.Build action.OwnCall ∷ ending) refl (Make action.Arguments (together (said x) (Make action.OwnCall (token terminal.Semi Done)))))
said (says.Say {ts = us} x) = λ p more i ts d.
    row_alone p terminal.Say (item.Part part.Expr ∷ item.Token terminal.Semi ∷ item.Build action.Say ∷ more) ((us ++ terminal.Semi ∷ []) ++ ts) i.say
    (together (closed us x) (Make action.Say d))
said (says.Delete {ts = us} x) = λ p more i ts d.
    row_alone p terminal.PDelete (item.Part part.Expr ∷ item.Token terminal.Semi ∷ item.Build action.Delete ∷ more) ((us ++ terminal.Semi ∷ []) ++ ts) i.pdelete
    (together (closed us x) (Make action.Delete d))
said (says.DropVersion {ts = us} x) = λ p more i ts d.
    row_alone p terminal.DropVersion (item.Part part.Expr ∷ item.Token terminal.Semi ∷ item.Build action.DropVersion ∷ more) ((us ++ terminal.Semi ∷ []) ++ ts) i.dropversion
    (together (closed us x) (Make action.DropVersion d))
said (says.Deactivate {ts = us} {us = vs} x y) = λ p more i ts d.
    row_alone p terminal.Deactivate
    (item.Part part.Expr ∷ item.Token terminal.Comma ∷ item.Part part.Expr ∷ item.Token terminal.Semi ∷ item.Build action.Deactivate ∷ more)
    (((us ++ terminal.Comma ∷ vs) ++ terminal.Semi ∷ []) ++ ts) i.deactivate
    (together (together (together (expr us x) (token terminal.Comma (expr vs y))) (token terminal.Semi Done)) (Make action.Deactivate d))
said (says.DoChange {ts = us} x) = λ p more i ts d.
    regroup us (terminal.Semi ∷ []) ts (said x p (done more) i.change (terminal.Semi ∷ ts) (token terminal.Semi (Make action.Do d)))
said (says.DoCall {ts = us} x) = λ p more i ts d.
    regroup us (terminal.Semi ∷ []) ts
    ((said x).place p (item.Build action.Call ∷ done more) i.place (terminal.Semi ∷ ts) (Make action.Call (token terminal.Semi (Make action.Do d))))
said (says.OneSimple x) = λ ts d. said x part.Inners next inner_simple ts (Make action.Append d)
said (says.ShowRight x) = λ ts d.
    Rule part.Inners (item.Part part.Rhs ∷ item.Build action.Show ∷ next) refl (together (said x) (Make action.Show (Make action.Append d)))
said (says.Let x) = λ ts d.
    Rule part.Inners (item.Token terminal.Name ∷ item.Token terminal.Assign ∷ item.Part part.Rhs ∷ item.Build action.Let ∷ next) refl
    (token terminal.Name (token terminal.Assign (together (said x) (Make action.Let (Make action.Append d)))))
said (says.Set x) = λ ts d.
    Rule part.Inners (item.Part part.InnerName ∷ next) refl
    (Rule part.InnerName (item.Part part.Rhs ∷ item.Build action.Set ∷ []) refl (together (said x) (Make action.Set (Make action.Append d))))
said (says.If {ts = us} x y z) = λ ts d.
    Rule part.Inners
    (item.Token terminal.OpenParen ∷ item.Part part.Expr ∷ item.Token terminal.CloseParen ∷ body ++ item.Part part.Else ∷ item.Build action.If ∷ next) refl
    (token terminal.OpenParen
    (together (together (together (expr us x) (token terminal.CloseParen (said y))) (said z)) (Make action.If (Make action.Append d))))
said says.ReturnNothing = λ ts d.
    Rule part.Inners (item.Part part.ReturnValue ∷ next) refl
    (Rule part.ReturnValue (item.Build action.ReturnNothing ∷ []) refl (Make action.ReturnNothing (Make action.Append d)))
said (says.Return x) = λ ts d.
    Rule part.Inners (item.Part part.ReturnValue ∷ next) refl
    (together (begins_like part.ReturnValue return_items return_like
    (derived x return_items (terminal.Semi ∷ []) (no_ors (token terminal.Semi (Make action.Return Done)))))
    (Make action.Append d))
said says.TAbort = λ ts d.
    Rule part.Inners (item.Token terminal.Semi ∷ item.Build action.TAbort ∷ next) refl (token terminal.Semi (Make action.TAbort (Make action.Append d)))
said (says.DoOwnCall {ts = us} x) = λ ts d.
    Rule part.Inners (item.Part part.InnerName ∷ next) refl
    (Rule part.InnerName (arguments ++ item.Build action.OwnCall ∷ done []) refl
    (Make action.Arguments
    (regroup us (terminal.Semi ∷ []) ts (together (said x) (Make action.OwnCall (token terminal.Semi (Make action.Do (Make action.Append d))))))))
said says.NoElse = Skip part.Else action.Absent refl Done
said (says.Else x) = Rule part.Else body refl (said x)
said says.NoInners = Skip part.Inners action.Nothing refl Done
said (says.MoreInners {us = vs} x y) = said x vs (said y)
said (says.Body x) = token terminal.OpenBrace (Make action.Body (together (said x) (token terminal.CloseBrace Done)))
said says.SortWord = record {
  sort = Rule part.Sort (item.Build action.Sort ∷ []) refl (Make action.Sort Done);
  member = λ ts d. Rule part.Members (item.Build action.Sort ∷ item.Token terminal.Name ∷ item.Part part.FieldOrMethod ∷ item.Part part.Members ∷ []) refl (Make action.Sort d);
  param = λ ts d. Rule part.Params (item.Build action.Sort ∷ item.Token terminal.Name ∷ item.Build action.Param ∷ item.Part part.SecondParam ∷ []) refl (Make action.Sort d);
  addition = λ ts d. Rule part.Additions (item.Build action.Sort ∷ additions) refl (Make action.Sort d);
}
said says.RefSort = record {
  sort = Rule part.Sort (item.Token terminal.Name ∷ item.Build action.RefSort ∷ []) refl (token terminal.Name (Make action.RefSort Done));
  member = λ ts d.
      Rule part.Members (item.Token terminal.Name ∷ item.Build action.RefSort ∷ item.Token terminal.Name ∷ item.Part part.FieldOrMethod ∷ item.Part part.Members ∷ []) refl
      (token terminal.Name (Make action.RefSort d));
  param = λ ts d.
      Rule part.Params (item.Token terminal.Name ∷ item.Build action.RefSort ∷ item.Token terminal.Name ∷ item.Build action.Param ∷ item.Part part.SecondParam ∷ []) refl
      (token terminal.Name (Make action.RefSort d));
  addition = λ ts d. Rule part.Additions (item.Token terminal.Name ∷ item.Build action.RefSort ∷ additions) refl (token terminal.Name (Make action.RefSort d));
}
said says.NoParams = Rule part.Params [] refl Done
said (says.SomeParams {us = vs} x y) = (said x).param (terminal.Name ∷ vs) (token terminal.Name (Make action.Param (said y)))
said (says.LastParam {n = n}) = last_param n
said (says.NextParam {n = n} {ts = us} {us = vs} x y) = next_param n us vs (said x).sort (said y)
said says.LastKind = Rule part.MoreKinds [] refl Done
said (says.NextKind x y) =
    Rule part.MoreKinds (item.Part part.Kind ∷ item.Build action.Listed ∷ item.Part part.MoreKinds ∷ []) refl (together (kind_part x) (Make action.Listed (said y)))
said says.NotInitial = Skip part.Initial action.NotInitial refl Done
said says.Initial = Rule part.Initial (item.Build action.Initial ∷ []) refl (Make action.Initial Done)
said says.NotLasting = Skip part.Lasting action.Once refl Done
said says.Lasting = Rule part.Lasting (item.Build action.Lasting ∷ []) refl (Make action.Lasting Done)
said says.NoScope = Skip part.Scope action.Committed refl Done
said says.Scope = Rule part.Scope (item.Build action.Scope ∷ []) refl (Make action.Scope Done)
said says.NoMode = Skip part.Mode action.Immediate refl Done
said says.Mode = Rule part.Mode (item.Build action.Mode ∷ []) refl (Make action.Mode Done)
said (says.FieldMember {ts = us} x) = λ ts d.
    regroup us (terminal.Name ∷ terminal.Semi ∷ []) ts
    ((said x).member (terminal.Name ∷ terminal.Semi ∷ ts)
    (token terminal.Name (Rule part.FieldOrMethod (item.Build action.FieldMember ∷ []) refl (Make action.FieldMember d))))
said (says.Method {ts = us} {us = ps} {vs = vs} x y z) = λ ts d.
    regroup (us ++ terminal.Name ∷ terminal.OpenParen ∷ ps) vs ts
    (regroup us (terminal.Name ∷ terminal.OpenParen ∷ ps) (vs ++ ts)
    ((said x).member (terminal.Name ∷ terminal.OpenParen ∷ ps ++ (vs ++ ts))
    (token terminal.Name (Rule part.FieldOrMethod method refl (Make action.Params (together (said y) (together (said z) (Make action.Method d))))))))
said (says.VoidMethod {us = ps} {vs = vs} y z) = λ ts d.
    Rule part.Members (item.Build action.VoidSort ∷ item.Token terminal.Name ∷ item.Token terminal.OpenParen ∷ method ++ item.Part part.Members ∷ []) refl
    (Make action.VoidSort (token terminal.Name (token terminal.OpenParen (Make action.Params (regroup ps vs ts (together (said y) (together (said z) (Make action.Method d))))))))
said (says.Constraint {ts = us} x) = λ ts d.
    Rule part.Members (test (item.Build action.Constraint)) refl (token terminal.Name (token terminal.Colon (together (closed us x) (Make action.Constraint d))))
said (says.SoftConstraint {ts = us} x) = λ ts d.
    Rule part.Members (item.Token terminal.Constraint ∷ test (item.Build action.SoftConstraint)) refl
    (token terminal.Constraint (token terminal.Name (token terminal.Colon (together (closed us x) (Make action.SoftConstraint d)))))
said (says.Events {ts = us} {us = vs} x y) = λ ts d.
    Rule part.Members
    (item.Build action.Kinds ∷ item.Part part.Kind ∷ item.Build action.Listed ∷ item.Part part.MoreKinds ∷ item.Build action.Events ∷ item.Part part.Members ∷ []) refl
    (Make action.Kinds (regroup us vs ts (together (kind_part x) (Make action.Listed (together (said y) (Make action.Events d))))))
said (says.Trigger {es = es} a b c m p x w) = λ ts d.
    let words = together (together (together (said a) (said b)) (said c)) (said m) in
    let params = together words (token terminal.Name (token terminal.OpenParen (Make action.Params (said p)))) in
    let events = together params (token terminal.Colon (event es x)) in
    Rule part.Members (trigger ++ item.Part part.Members ∷ []) refl (together (together events (token terminal.Arrow (said w))) (Make action.Trigger d))
said says.NoMembers = Skip part.Members action.Nothing refl Done
said (says.MoreMembers {us = vs} x y) = said x vs (said y)
said says.NoParent = Skip part.Parent action.NoParent refl Done
said says.Parent = Rule part.Parent (item.Token terminal.Name ∷ item.Build action.Parent ∷ []) refl (token terminal.Name (Make action.Parent Done))
said (says.Class {ts = us} {us = vs} x y) = (
  terminal.Name ∷ ((us ++ terminal.OpenBrace ∷ vs) ++ terminal.CloseBrace ∷ []),
  refl,
  token terminal.Name (together (together (said x) (token terminal.OpenBrace (Make action.Members (said y)))) (token terminal.CloseBrace (Make action.Class Done))),
)
said says.LeafLiteral = Rule part.Literal [] refl Done
said says.NumberLiteral = Rule part.Literal [] refl Done
said says.SecondsLiteral = Rule part.Literal [] refl Done
said says.CountLiteral = Rule part.Literal [] refl Done
said says.TextLiteral = Rule part.Literal [] refl Done
said says.InstantLiteral = Rule part.Literal [] refl Done
said says.NegativeNumber =
    Rule part.Literal (item.Part part.Negative ∷ []) refl (Rule part.Negative (item.Build action.Negative ∷ []) refl (Make action.Negative Done))
said says.NegativeSeconds =
    Rule part.Literal (item.Part part.Negative ∷ []) refl (Rule part.Negative (item.Build action.Negative ∷ []) refl (Make action.Negative Done))
said says.NegativeCount =
    Rule part.Literal (item.Part part.Negative ∷ []) refl (Rule part.Negative (item.Build action.Negative ∷ []) refl (Make action.Negative Done))
said (says.Addition {ts = us} {us = vs} x y) = record {
  first = λ ts d.
      regroup (us ++ terminal.Name ∷ terminal.Assign ∷ vs) (terminal.Semi ∷ []) ts
      (regroup us (terminal.Name ∷ terminal.Assign ∷ vs) (terminal.Semi ∷ ts)
      (together (said x).sort (token terminal.Name (token terminal.Assign (together (said y) (token terminal.Semi (Make action.Addition d)))))));
  other = λ ts d.
      regroup (us ++ terminal.Name ∷ terminal.Assign ∷ vs) (terminal.Semi ∷ []) ts
      (regroup us (terminal.Name ∷ terminal.Assign ∷ vs) (terminal.Semi ∷ ts)
      ((said x).addition (terminal.Name ∷ terminal.Assign ∷ vs ++ terminal.Semi ∷ ts)
      (token terminal.Name (token terminal.Assign (together (said y) (token terminal.Semi (Make action.Addition d)))))));
}
said says.NoAdditions = Skip part.Additions action.Nothing refl Done
said (says.MoreAdditions {us = vs} x y) = (said x).other vs (said y)
said (says.ClassChange {ts = us} {us = vs} x y) =
    token terminal.Change (token terminal.Class (token terminal.Name (token terminal.OpenBrace (Make action.Change
    (regroup us vs (terminal.CloseBrace ∷ terminal.Semi ∷ [])
    ((said x).first (vs ++ terminal.CloseBrace ∷ terminal.Semi ∷ []) (together (said y) (token terminal.CloseBrace (token terminal.Semi Done)))))))))
said (says.LastRange {n = n}) = last_range n
said (says.NextRange {n = n} {ts = us} x) = next_range n us (said x)
said says.NoTest = Skip part.SuchThat action.Nothing refl Done
said (says.Test {ts = us} x) =
    subst (λ z. D (item.Part part.SuchThat ∷ []) (terminal.SuchThat ∷ z)) (append-nil us)
    (Rule part.SuchThat (item.Build action.DropWord ∷ item.Part part.Expr ∷ item.Build action.Argument ∷ []) refl
    (Make action.DropWord (together (expr us x) (Make action.Argument Done))))
said (says.Expressions {ts = us} x y) = together (expr us x) (Make action.Argument (said y))
said says.LastExpression = Skip part.MoreExprs action.Nothing refl Done
said (says.NextExpressions x) = Rule part.MoreExprs exprs refl (said x)
said says.NoSorting = Skip part.By action.Nothing refl Done
said (says.Sorting x) = Rule part.By (item.Build action.DropWord ∷ exprs) refl (Make action.DropWord (said x))
said (says.Query x y z w) =
    let tested = together (said x) (Make action.Arguments (said y)) in
    let sorted = together tested (Make action.Arguments (said z)) in
    let shown = together sorted (token terminal.Show (Make action.Arguments (said w))) in
    token terminal.For (Make action.DropWord (Make action.Params (one_range (together shown (token terminal.Semi Done)))))
said (says.Compared {es = us} {fs = vs} x y z) =
    let first = together (said x) (token terminal.Colon (event us y)) in
    let second = together first (token terminal.Comma (event vs z)) in
    token terminal.Same (Make action.DropWord (token terminal.Name (token terminal.OpenParen (Make action.Params (together second (token terminal.Semi Done))))))
said (says.Declare x) =
    let l = said x in
    subst (λ z. D (item.Part part.Statement ∷ []) (z ++ terminal.Semi ∷ [])) (sym l.1)
    (Rule part.Statement (class_rest ++ item.Token terminal.Semi ∷ item.Build action.Declare ∷ []) refl (together l.2 (token terminal.Semi (Make action.Declare Done))))
said says.Begin = Rule part.Statement (item.Token terminal.Semi ∷ item.Build action.Begin ∷ []) refl (token terminal.Semi (Make action.Begin Done))
said says.Commit = Rule part.Statement (item.Token terminal.Semi ∷ item.Build action.Commit ∷ []) refl (token terminal.Semi (Make action.Commit Done))
said says.Abort = Rule part.Statement (item.Token terminal.Semi ∷ item.Build action.Abort ∷ []) refl (token terminal.Semi (Make action.Abort Done))
said says.ClockText =
    Rule part.Statement (item.Part part.ClockText ∷ item.Token terminal.Semi ∷ item.Build action.Clock ∷ []) refl
    (Rule part.ClockText [] refl (token terminal.Semi (Make action.Clock Done)))
said says.ClockInstant =
    Rule part.Statement (item.Part part.ClockText ∷ item.Token terminal.Semi ∷ item.Build action.Clock ∷ []) refl
    (Rule part.ClockText [] refl (token terminal.Semi (Make action.Clock Done)))
said says.Empty = Rule part.Statement (item.Build action.Empty ∷ []) refl (Make action.Empty Done)
said (says.Alone {ts = us} x) = subst (λ z. D (item.Part part.Statement ∷ []) z) (append-nil us) (said x part.Statement alone script_simple [] (Make action.Simple Done))
said (says.ShowGiven {ts = us} x) =
    Rule part.Statement (item.Part part.ScriptRhs ∷ item.Build action.Show ∷ alone) refl
    (subst (λ z. D (item.Part part.ScriptRhs ∷ item.Build action.Show ∷ alone) z) (append-nil us)
    (together (said x part.ScriptRhs script_right) (Make action.Show (Make action.Simple Done))))

pub class_text : (tokens : List Terminal) → Says AClass tokens → IsText start.Class tokens
unfolding items_of row_of
class_text tokens x = let l = said x in subst (λ z. D (item.Part part.Class ∷ []) z) (sym l.1) (Rule part.Class class_rest refl l.2)

pub change_text : (tokens : List Terminal) → Says AClassChange tokens → IsText start.Change tokens
unfolding items_of
change_text tokens x = said x

pub query_text : (tokens : List Terminal) → Says AQuery tokens → IsText start.Query tokens
unfolding items_of
query_text tokens x = said x

pub comparison_text : (tokens : List Terminal) → Says AComparison tokens → IsText start.Comparison tokens
unfolding items_of
comparison_text tokens x = said x

pub statement_text : (tokens : List Terminal) → Says AStatement tokens → IsText start.Statement tokens
unfolding items_of
statement_text tokens x = said x
