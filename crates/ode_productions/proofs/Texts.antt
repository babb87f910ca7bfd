-- What the productions say is what the rows derive.
use Rattle.std.proofs.Common.{◌≡◌, List, [], ◌∷◌, ◌++◌, append_assoc, Option, Some, None, refl, sym, ◌∙◌, ap, subst}
use Rattle.std.proofs.lemmas.List.{append-nil}
use Rattle.std.proofs.lemmas.Option.{none-some}
use Rattle.ode_grammar.specs.declared.item.Part.{Part}
use Rattle.ode_grammar.specs.declared.item.Part.TheVariants as part
use Rattle.ode_grammar.specs.declared.item.Action.{Action}
use Rattle.ode_grammar.specs.declared.item.Action.TheVariants as action
use Rattle.ode_grammar.specs.declared.item.Item.{Item}
use Rattle.ode_grammar.specs.declared.item.Item.TheVariants as item
use Rattle.ode_grammar.specs.declared.reader.Start.TheVariants as start
use Rattle.ode_grammar.specs.declared.terminal.Terminal.{Terminal}
use Rattle.ode_grammar.specs.declared.terminal.Terminal.TheVariants as terminal
use Rattle.ode_grammar.specs.Expressions.{behind_unary, comp, conj, sum, term}
use Rattle.ode_grammar.specs.Events.{counted, evand, event as whole_event, folded, of_one, of_three, of_two}
use Rattle.ode_grammar.specs.Terminals.{named}
use Rattle.ode_grammar.specs.Grammar.{after, items_of, row_of, skipped}
use Rattle.ode_grammar.specs.Texts.{plain, Derives, Done, IsText, Make, Next, Rule, Skip}
use Rattle.ode_grammar.proofs.TerminalLaws.{stands_for-itself}
use Rattle.ode_productions.specs.Productions.{Is, Symbol}
use Rattle.ode_productions.specs.Productions as is

abbrev pub D : List Item → List Terminal → Type 0
D items ts = Derives plain items tt ts tt

-- ---- an expression begins as an operand does

abbrev pub longer : List Item → Option (List Item) → Option (List Item)
longer more None = None
longer more (Some row) = Some (row ++ more)

-- the rows of an expression are those of an operand, and what follows it
pub rows : (k : Terminal) → row_of part.Expr k ≡ longer behind_unary (row_of part.Unary k)
unfolding row_of
rows terminal.Leaf = refl
rows terminal.Number = refl
rows terminal.Seconds = refl
rows terminal.Count = refl
rows terminal.Text = refl
rows terminal.Instant = refl
rows terminal.Name = refl
rows terminal.Stray = refl
rows terminal.OpenBrace = refl
rows terminal.CloseBrace = refl
rows terminal.OpenParen = refl
rows terminal.CloseParen = refl
rows terminal.Semi = refl
rows terminal.Comma = refl
rows terminal.Dot = refl
rows terminal.Colon = refl
rows terminal.Assign = refl
rows terminal.Arrow = refl
rows terminal.Not = refl
rows terminal.Minus = refl
rows terminal.Plus = refl
rows terminal.Times = refl
rows terminal.Compares = refl
rows terminal.AndAnd = refl
rows terminal.OrOr = refl
rows terminal.Abort = refl
rows terminal.Activate = refl
rows terminal.After = refl
rows terminal.And = refl
rows terminal.Any = refl
rows terminal.At = refl
rows terminal.Before = refl
rows terminal.Begin = refl
rows terminal.Change = refl
rows terminal.Choose = refl
rows terminal.Class = refl
rows terminal.Clock = refl
rows terminal.Commit = refl
rows terminal.Constraint = refl
rows terminal.Create = refl
rows terminal.Deactivate = refl
rows terminal.Delete = refl
rows terminal.DropVersion = refl
rows terminal.Else = refl
rows terminal.Event = refl
rows terminal.Every = refl
rows terminal.Fa = refl
rows terminal.FaAbs = refl
rows terminal.By = refl
rows terminal.For = refl
rows terminal.In = refl
rows terminal.Same = refl
rows terminal.SuchThat = refl
rows terminal.First = refl
rows terminal.If = refl
rows terminal.Initial = refl
rows terminal.Lasting = refl
rows terminal.Let = refl
rows terminal.Mode = refl
rows terminal.NewVersion = refl
rows terminal.Or = refl
rows terminal.PDelete = refl
rows terminal.Pipe = refl
rows terminal.PNew = refl
rows terminal.Prior = refl
rows terminal.Ref = refl
rows terminal.Relative = refl
rows terminal.RelPlus = refl
rows terminal.Return = refl
rows terminal.Say = refl
rows terminal.Scope = refl
rows terminal.Sequence = refl
rows terminal.Show = refl
rows terminal.Soft = refl
rows terminal.SortWord = refl
rows terminal.TAbort = refl
rows terminal.TBegin = refl
rows terminal.TCommit = refl
rows terminal.TComplete = refl
rows terminal.Time = refl
rows terminal.Trigger = refl
rows terminal.Version = refl
rows terminal.Void = refl

pub no_unary_skip : (a : Action) → skipped part.Unary ≡ Some a → ⊥
unfolding skipped
no_unary_skip a e = none-some a e

pub begins : {items : List Item} {ts : List Terminal} → D (item.Part part.Unary ∷ behind_unary ++ items) ts → D (item.Part part.Expr ∷ items) ts
begins {items = items} (Rule {t = t} {ts = ts} p row e d) =
    Rule part.Expr (row ++ behind_unary) (rows (named t) ∙ ap (longer behind_unary) e) (subst (λ is. D is ts) (sym (append_assoc row behind_unary items)) d)
begins (Skip p a e d) = absurd (no_unary_skip a e)

-- ---- what each symbol does

abbrev pub U : Item
U = item.Part part.Unary

abbrev pub F : Item
F = item.Part part.Factors

abbrev pub S : Item
S = item.Part part.Sums

abbrev pub C : Item
C = item.Part part.Compare

abbrev pub As : List Item → List Item → List Terminal → Type 0
As behind front us = (items : List Item) (ts : List Terminal) → D (behind ++ items) ts → D (front ++ items) (us ++ ts)

-- the words that take two events or more
pub record IsFolding (k : Terminal) (a : Action) (p : Part) : Type 0 where
  pub first : after part.EventUnary k ≡ Some (folded (item.Build a) (item.Part p))
  pub comma : after p terminal.Comma ≡ Some (whole_event ++ item.Build a ∷ item.Part p ∷ [])
  pub closed : after p terminal.CloseParen ≡ Some []

pub relative_folds : IsFolding terminal.Relative action.Relative part.MoreRelative
unfolding row_of
relative_folds = record { first = refl; comma = refl; closed = refl }

pub prior_folds : IsFolding terminal.Prior action.Prior part.MorePrior
unfolding row_of
prior_folds = record { first = refl; comma = refl; closed = refl }

pub sequence_folds : IsFolding terminal.Sequence action.Sequence part.MoreSequence
unfolding row_of
sequence_folds = record { first = refl; comma = refl; closed = refl }

-- behind the first event, and behind a later one
pub record AsMore (us : List Terminal) : Type 0 where
  pub first : (k : Terminal) (a : Action) (p : Part) → IsFolding k a p → As [] (item.Token terminal.Comma ∷ whole_event ++ item.Build a ∷ item.Part p ∷ []) us
  pub later : (k : Terminal) (a : Action) (p : Part) → IsFolding k a p → As [] (item.Part p ∷ []) us

abbrev pub AsSymbol : Symbol → List Terminal → Type 0
AsSymbol is.Atom us = As (item.Part part.Dots ∷ []) (U ∷ []) us
AsSymbol is.Chain us = As (item.Part part.Dots ∷ []) (U ∷ []) us
AsSymbol is.Unary us = As [] (U ∷ []) us
AsSymbol is.Term us = As (F ∷ []) (U ∷ F ∷ []) us
AsSymbol is.Sum us = As (S ∷ []) (U ∷ F ∷ S ∷ []) us
AsSymbol is.Comparison us = As [] (U ∷ F ∷ S ∷ C ∷ []) us
AsSymbol is.Conjunction us = As (item.Part part.Ands ∷ []) (U ∷ F ∷ S ∷ C ∷ item.Part part.Ands ∷ []) us
AsSymbol is.Expression us = As (item.Part part.Ors ∷ []) (U ∷ F ∷ S ∷ C ∷ item.Part part.Ands ∷ item.Part part.Ors ∷ []) us
AsSymbol is.Kind us = As (item.Part part.Mask ∷ []) (item.Part part.EventUnary ∷ []) us
AsSymbol is.EventAtom us = As [] (item.Part part.EventUnary ∷ []) us
AsSymbol is.Negated us = As [] (item.Part part.EventUnary ∷ []) us
AsSymbol is.Conjoined us = As (item.Part part.EventAnds ∷ []) (item.Part part.EventUnary ∷ item.Part part.EventAnds ∷ []) us
AsSymbol is.Event us = As (item.Part part.EventOrs ∷ []) whole_event us
AsSymbol is.More us = AsMore us

-- ---- pieces

pub regroup : {items : List Item} (xs ys ts : List Terminal) → D items (xs ++ (ys ++ ts)) → D items ((xs ++ ys) ++ ts)
regroup {items = items} xs ys ts d = subst (λ us. D items us) (sym (append_assoc xs ys ts)) d

pub no : (p : Part) → skipped p ≡ Some action.Nothing → {items : List Item} {ts : List Terminal} → D items ts → D (item.Part p ∷ items) ts
no p e d = Skip p action.Nothing e d

pub no_dots : {items : List Item} {ts : List Terminal} → D items ts → D (item.Part part.Dots ∷ items) ts
unfolding skipped
no_dots d = no part.Dots refl d

pub no_factors : {items : List Item} {ts : List Terminal} → D items ts → D (F ∷ items) ts
unfolding skipped
no_factors d = no part.Factors refl d

pub no_sums : {items : List Item} {ts : List Terminal} → D items ts → D (S ∷ items) ts
unfolding skipped
no_sums d = no part.Sums refl d

pub no_compare : {items : List Item} {ts : List Terminal} → D items ts → D (C ∷ items) ts
unfolding skipped
no_compare d = no part.Compare refl d

pub no_ands : {items : List Item} {ts : List Terminal} → D items ts → D (item.Part part.Ands ∷ items) ts
unfolding skipped
no_ands d = no part.Ands refl d

pub no_ors : {items : List Item} {ts : List Terminal} → D items ts → D (item.Part part.Ors ∷ items) ts
unfolding skipped
no_ors d = no part.Ors refl d

pub no_event_ands : {items : List Item} {ts : List Terminal} → D items ts → D (item.Part part.EventAnds ∷ items) ts
unfolding skipped
no_event_ands d = no part.EventAnds refl d

pub no_event_ors : {items : List Item} {ts : List Terminal} → D items ts → D (item.Part part.EventOrs ∷ items) ts
unfolding skipped
no_event_ors d = no part.EventOrs refl d

pub no_mask : {items : List Item} {ts : List Terminal} → D items ts → D (item.Part part.Mask ∷ items) ts
unfolding skipped
no_mask d = Skip part.Mask action.Unmasked refl d

-- a whole expression, and a whole event expression
pub whole : (us : List Terminal) → AsSymbol is.Expression us → (items : List Item) (ts : List Terminal) → D items ts → D (item.Part part.Expr ∷ items) (us ++ ts)
whole us x items ts d = begins (x items ts (no_ors d))

pub event_whole : (us : List Terminal) → AsSymbol is.Event us → (items : List Item) (ts : List Terminal) → D items ts → D (whole_event ++ items) (us ++ ts)
event_whole us x items ts d = x items ts (no_event_ors d)

pub token : (k : Terminal) {items : List Item} {ts : List Terminal} → D items ts → D (item.Token k ∷ items) (k ∷ ts)
token k d = Next k (stands_for-itself k) d

pub atom : (k : Terminal) (row : List Item) → after part.Unary k ≡ Some (row ++ item.Part part.Dots ∷ []) → ((items : List Item) (ts : List Terminal) → D items ts → D (row ++ items) ts)
    → AsSymbol is.Atom (k ∷ [])
atom k row e f = λ items ts d.
    Rule part.Unary (row ++ item.Part part.Dots ∷ []) e (subst (λ is. D is ts) (sym (append_assoc row (item.Part part.Dots ∷ []) items)) (f (item.Part part.Dots ∷ items) ts d))

pub leaf_atom : (k : Terminal) → after part.Unary k ≡ Some (item.Build action.Leaf ∷ item.Part part.Dots ∷ []) → AsSymbol is.Atom (k ∷ [])
leaf_atom k e = λ items ts d. Rule part.Unary (item.Build action.Leaf ∷ item.Part part.Dots ∷ []) e (Make action.Leaf d)

pub kind_of : (k l : Terminal) (p : Part) (a : Action) → after part.EventUnary k ≡ Some (item.Part p ∷ item.Part part.Mask ∷ [])
    → after p l ≡ Some (item.Build a ∷ []) → AsSymbol is.Kind (k ∷ l ∷ [])
kind_of k l p a e f = λ items ts d. Rule part.EventUnary (item.Part p ∷ item.Part part.Mask ∷ []) e (Rule p (item.Build a ∷ []) f (Make a d))

pub folded_event : (k : Terminal) (a : Action) (p : Part) → IsFolding k a p → (ts us : List Terminal) → AsSymbol is.Event ts → AsMore us
    → AsSymbol is.EventAtom (k ∷ terminal.OpenParen ∷ ts ++ us)
folded_event k a p i ts us x m = λ items rest d.
    Rule part.EventUnary (folded (item.Build a) (item.Part p)) i.first
    (token terminal.OpenParen (regroup ts us rest (event_whole ts x (item.Token terminal.Comma ∷ whole_event ++ item.Build a ∷ item.Part p ∷ items) (us ++ rest) (m.first k a p i items rest d))))

pub counted_event : (k : Terminal) (a : Action) → after part.EventUnary k ≡ Some (counted (item.Build a)) → (ts : List Terminal) → AsSymbol is.Event ts
    → AsSymbol is.EventAtom (k ∷ terminal.Count ∷ terminal.OpenParen ∷ ts ++ terminal.CloseParen ∷ [])
counted_event k a e ts x = λ items rest d.
    Rule part.EventUnary (counted (item.Build a)) e
    (token terminal.Count (token terminal.OpenParen (regroup ts (terminal.CloseParen ∷ []) rest
    (event_whole ts x (item.Token terminal.CloseParen ∷ item.Build a ∷ items) (terminal.CloseParen ∷ rest) (token terminal.CloseParen (Make a d))))))

pub last_event : (ts : List Terminal) → AsSymbol is.Event ts → AsMore (terminal.Comma ∷ ts ++ terminal.CloseParen ∷ [])
last_event ts x = record {
  first = λ k a p i items rest d.
      token terminal.Comma (regroup ts (terminal.CloseParen ∷ []) rest
      (event_whole ts x (item.Build a ∷ item.Part p ∷ items) (terminal.CloseParen ∷ rest) (Make a (Rule p [] i.closed d))));
  later = λ k a p i items rest d.
      Rule p (whole_event ++ item.Build a ∷ item.Part p ∷ []) i.comma (regroup ts (terminal.CloseParen ∷ []) rest
      (event_whole ts x (item.Build a ∷ item.Part p ∷ items) (terminal.CloseParen ∷ rest) (Make a (Rule p [] i.closed d))));
}

pub next_event : (ts us : List Terminal) → AsSymbol is.Event ts → AsMore us → AsMore (terminal.Comma ∷ ts ++ us)
next_event ts us x m = record {
  first = λ k a p i items rest d.
      token terminal.Comma (regroup ts us rest (event_whole ts x (item.Build a ∷ item.Part p ∷ items) (us ++ rest) (Make a (m.later k a p i items rest d))));
  later = λ k a p i items rest d.
      Rule p (whole_event ++ item.Build a ∷ item.Part p ∷ []) i.comma (regroup ts us rest
      (event_whole ts x (item.Build a ∷ item.Part p ∷ items) (us ++ rest) (Make a (m.later k a p i items rest d))));
}

pub event_of_one : (k : Terminal) (a : Action) → after part.EventUnary k ≡ Some (of_one (item.Build a)) → (ts : List Terminal) → AsSymbol is.Event ts
    → AsSymbol is.EventAtom (k ∷ terminal.OpenParen ∷ ts ++ terminal.CloseParen ∷ [])
event_of_one k a e ts x = λ items rest d.
    Rule part.EventUnary (of_one (item.Build a)) e
    (token terminal.OpenParen (regroup ts (terminal.CloseParen ∷ []) rest
    (event_whole ts x (item.Token terminal.CloseParen ∷ item.Build a ∷ items) (terminal.CloseParen ∷ rest) (token terminal.CloseParen (Make a d)))))

pub event_of_two : (k : Terminal) (a : Action) → after part.EventUnary k ≡ Some (of_two (item.Build a)) → (ts us : List Terminal)
    → AsSymbol is.Event ts → AsSymbol is.Event us → AsSymbol is.EventAtom (k ∷ terminal.OpenParen ∷ ts ++ terminal.Comma ∷ us ++ terminal.CloseParen ∷ [])
event_of_two k a e ts us x y = λ items rest d.
    let last = item.Token terminal.CloseParen ∷ item.Build a ∷ items in
    let second = token terminal.Comma (event_whole us y last (terminal.CloseParen ∷ rest) (token terminal.CloseParen (Make a d))) in
    let first = event_whole ts x (item.Token terminal.Comma ∷ whole_event ++ last) _ second in
    Rule part.EventUnary (of_two (item.Build a)) e
    (token terminal.OpenParen (subst (λ zs. D (whole_event ++ item.Token terminal.Comma ∷ whole_event ++ last) zs) (sym (regrouped ts us rest)) first))
  where
    regrouped : (ts us rest : List Terminal) → (((ts ++ terminal.Comma ∷ us) ++ terminal.CloseParen ∷ []) ++ rest) ≡ ts ++ (terminal.Comma ∷ (us ++ terminal.CloseParen ∷ rest))
    regrouped ts us rest = simp append_assoc

pub event_of_three : (k : Terminal) (a : Action) → after part.EventUnary k ≡ Some (of_three (item.Build a)) → (ts us vs : List Terminal)
    → AsSymbol is.Event ts → AsSymbol is.Event us → AsSymbol is.Event vs
    → AsSymbol is.EventAtom (k ∷ terminal.OpenParen ∷ ts ++ terminal.Comma ∷ us ++ terminal.Comma ∷ vs ++ terminal.CloseParen ∷ [])
event_of_three k a e ts us vs x y z = λ items rest d.
    let last = item.Token terminal.CloseParen ∷ item.Build a ∷ items in
    let third = token terminal.Comma (event_whole vs z last (terminal.CloseParen ∷ rest) (token terminal.CloseParen (Make a d))) in
    let second = token terminal.Comma (event_whole us y (item.Token terminal.Comma ∷ whole_event ++ last) _ third) in
    let first = event_whole ts x (item.Token terminal.Comma ∷ whole_event ++ item.Token terminal.Comma ∷ whole_event ++ last) _ second in
    Rule part.EventUnary (of_three (item.Build a)) e
    (token terminal.OpenParen
    (subst (λ zs. D (whole_event ++ item.Token terminal.Comma ∷ whole_event ++ item.Token terminal.Comma ∷ whole_event ++ last) zs) (sym (regrouped ts us vs rest)) first))
  where
    regrouped : (ts us vs rest : List Terminal)
        → ((((ts ++ terminal.Comma ∷ us) ++ terminal.Comma ∷ vs) ++ terminal.CloseParen ∷ []) ++ rest)
        ≡ ts ++ (terminal.Comma ∷ (us ++ (terminal.Comma ∷ (vs ++ terminal.CloseParen ∷ rest))))
    regrouped ts us vs rest = simp append_assoc

-- the items behind an event in brackets
abbrev pub pair_items : List Item
pair_items = item.Token terminal.CloseParen ∷ item.Build action.EventPair ∷ item.Part part.EventMask ∷ []

pub no_event_mask : {items : List Item} {ts : List Terminal} → D items ts → D (item.Part part.EventMask ∷ items) ts
unfolding skipped
no_event_mask d = no part.EventMask refl d

-- ---- all

pub derived : {s : Symbol} {ts : List Terminal} → Is s ts → AsSymbol s ts
unfolding row_of
derived is.LeafAtom = leaf_atom terminal.Leaf refl
derived is.NumberAtom = leaf_atom terminal.Number refl
derived is.SecondsAtom = leaf_atom terminal.Seconds refl
derived is.CountAtom = leaf_atom terminal.Count refl
derived is.TextAtom = leaf_atom terminal.Text refl
derived is.InstantAtom = leaf_atom terminal.Instant refl
derived is.NameAtom = λ items ts d. Rule part.Unary (item.Build action.Variable ∷ item.Part part.Dots ∷ []) refl (Make action.Variable d)
derived (is.Brackets {ts = us} x) = λ items ts d.
    Rule part.Unary (item.Part part.Expr ∷ item.Token terminal.CloseParen ∷ item.Build action.Pair ∷ item.Part part.Dots ∷ []) refl
    (regroup us (terminal.CloseParen ∷ []) ts
    (whole us (derived x) (item.Token terminal.CloseParen ∷ item.Build action.Pair ∷ item.Part part.Dots ∷ items) (terminal.CloseParen ∷ ts) (token terminal.CloseParen (Make action.Pair d))))
derived (is.VersionOf {ts = us} x) = λ items ts d.
    Rule part.Unary (item.Token terminal.OpenParen ∷ item.Part part.Expr ∷ item.Token terminal.CloseParen ∷ item.Build action.Version ∷ item.Part part.Dots ∷ []) refl
    (token terminal.OpenParen (regroup us (terminal.CloseParen ∷ []) ts
    (whole us (derived x) (item.Token terminal.CloseParen ∷ item.Build action.Version ∷ item.Part part.Dots ∷ items) (terminal.CloseParen ∷ ts) (token terminal.CloseParen (Make action.Version d)))))
derived (is.OneAtom x) = derived x
derived (is.Field {ts = us} x) = λ items ts d.
    regroup us (terminal.Dot ∷ terminal.Name ∷ []) ts
    (derived x items (terminal.Dot ∷ terminal.Name ∷ ts)
    (Rule part.Dots (item.Token terminal.Name ∷ item.Build action.Field ∷ item.Part part.Dots ∷ []) refl (token terminal.Name (Make action.Field d))))
derived (is.Minus x) = λ items ts d. Rule part.Unary (U ∷ item.Build action.Sign ∷ []) refl (derived x (item.Build action.Sign ∷ items) ts (Make action.Sign d))
derived (is.Not x) = λ items ts d. Rule part.Unary (U ∷ item.Build action.Sign ∷ []) refl (derived x (item.Build action.Sign ∷ items) ts (Make action.Sign d))
derived (is.OneChain x) = λ items ts d. derived x items ts (no_dots d)
derived (is.OneUnary x) = λ items ts d. derived x (F ∷ items) ts d
derived (is.Factor {ts = us} {us = vs} x y) = λ items ts d.
    regroup us (terminal.Times ∷ vs) ts
    (derived x items (terminal.Times ∷ vs ++ ts)
    (Rule part.Factors (U ∷ item.Build action.Binary ∷ F ∷ []) refl (derived y (item.Build action.Binary ∷ F ∷ items) ts (Make action.Binary d))))
derived (is.OneTerm x) = λ items ts d. derived x (S ∷ items) ts (no_factors d)
derived (is.Plus {ts = us} {us = vs} x y) = λ items ts d.
    regroup us (terminal.Plus ∷ vs) ts
    (derived x items (terminal.Plus ∷ vs ++ ts)
    (Rule part.Sums (term ++ item.Build action.Binary ∷ S ∷ []) refl (derived y (item.Build action.Binary ∷ S ∷ items) ts (no_factors (Make action.Binary d)))))
derived (is.Less {ts = us} {us = vs} x y) = λ items ts d.
    regroup us (terminal.Minus ∷ vs) ts
    (derived x items (terminal.Minus ∷ vs ++ ts)
    (Rule part.Sums (term ++ item.Build action.Binary ∷ S ∷ []) refl (derived y (item.Build action.Binary ∷ S ∷ items) ts (no_factors (Make action.Binary d)))))
derived (is.OneSum x) = λ items ts d. derived x (C ∷ items) ts (no_sums (no_compare d))
derived (is.Compared {ts = us} {us = vs} x y) = λ items ts d.
    regroup us (terminal.Compares ∷ vs) ts
    (derived x (C ∷ items) (terminal.Compares ∷ vs ++ ts)
    (no_sums (Rule part.Compare (sum ++ item.Build action.Binary ∷ []) refl (derived y (item.Build action.Binary ∷ items) ts (no_sums (Make action.Binary d))))))
derived (is.OneComparison x) = λ items ts d. derived x (item.Part part.Ands ∷ items) ts d
derived (is.And {ts = us} {us = vs} x y) = λ items ts d.
    regroup us (terminal.AndAnd ∷ vs) ts
    (derived x items (terminal.AndAnd ∷ vs ++ ts)
    (Rule part.Ands (comp ++ item.Build action.Binary ∷ item.Part part.Ands ∷ []) refl (derived y (item.Build action.Binary ∷ item.Part part.Ands ∷ items) ts (Make action.Binary d))))
derived (is.OneConjunction x) = λ items ts d. derived x (item.Part part.Ors ∷ items) ts (no_ands d)
derived (is.Or {ts = us} {us = vs} x y) = λ items ts d.
    regroup us (terminal.OrOr ∷ vs) ts
    (derived x items (terminal.OrOr ∷ vs ++ ts)
    (Rule part.Ors (conj ++ item.Build action.Binary ∷ item.Part part.Ors ∷ []) refl (derived y (item.Build action.Binary ∷ item.Part part.Ors ∷ items) ts (no_ands (Make action.Binary d)))))
derived is.AfterCreate = kind_of terminal.After terminal.Create part.AfterWhat action.AfterCreate refl refl
derived is.BeforeDelete = kind_of terminal.Before terminal.Delete part.BeforeWhat action.BeforeDelete refl refl
derived is.AfterMethod = kind_of terminal.After terminal.Name part.AfterWhat action.AfterMethod refl refl
derived is.BeforeMethod = kind_of terminal.Before terminal.Name part.BeforeWhat action.BeforeMethod refl refl
derived is.AfterTBegin = kind_of terminal.After terminal.TBegin part.AfterWhat action.AfterTBegin refl refl
derived is.BeforeTComplete = kind_of terminal.Before terminal.TComplete part.BeforeWhat action.BeforeTComplete refl refl
derived is.AfterTCommit = kind_of terminal.After terminal.TCommit part.AfterWhat action.AfterTCommit refl refl
derived is.AfterTAbort = kind_of terminal.After terminal.TAbort part.AfterWhat action.AfterTAbort refl refl
derived is.AfterNewVersion = kind_of terminal.After terminal.NewVersion part.AfterWhat action.AfterNewVersion refl refl
derived is.BeforeDropVersion = kind_of terminal.Before terminal.DropVersion part.BeforeWhat action.BeforeDropVersion refl refl
derived is.EveryCount = λ items ts d.
    Rule part.EventUnary (item.Part part.TimeWhat ∷ item.Part part.Mask ∷ []) refl
    (Rule part.TimeWhat (item.Part part.Period ∷ []) refl (Rule part.Period (item.Build action.TimeEvery ∷ []) refl (Make action.TimeEvery d)))
derived is.EverySeconds = λ items ts d.
    Rule part.EventUnary (item.Part part.TimeWhat ∷ item.Part part.Mask ∷ []) refl
    (Rule part.TimeWhat (item.Part part.Period ∷ []) refl (Rule part.Period (item.Build action.TimeEvery ∷ []) refl (Make action.TimeEvery d)))
derived is.AtInstant = λ items ts d.
    Rule part.EventUnary (item.Part part.TimeWhat ∷ item.Part part.Mask ∷ []) refl
    (Rule part.TimeWhat (item.Token terminal.Instant ∷ item.Build action.TimeAt ∷ []) refl (token terminal.Instant (Make action.TimeAt d)))
derived (is.EventBrackets {ts = us} x) = λ items ts d.
    Rule part.EventUnary (whole_event ++ pair_items) refl
    (regroup us (terminal.CloseParen ∷ []) ts
    (event_whole us (derived x) (pair_items ++ items) (terminal.CloseParen ∷ ts) (token terminal.CloseParen (Make action.EventPair (no_event_mask d)))))
derived (is.MaskedBrackets {ts = us} {us = vs} x y) = λ items ts d.
    Rule part.EventUnary (whole_event ++ pair_items) refl
    (regroup us (terminal.CloseParen ∷ terminal.AndAnd ∷ vs) ts
    (event_whole us (derived x) (pair_items ++ items) (terminal.CloseParen ∷ terminal.AndAnd ∷ vs ++ ts)
    (token terminal.CloseParen (Make action.EventPair
    (Rule part.EventMask (item.Part part.Expr ∷ item.Build action.MaskedEvent ∷ []) refl
    (whole vs (derived y) (item.Build action.MaskedEvent ∷ items) ts (Make action.MaskedEvent d)))))))
derived is.AnyPoint = λ items ts d. Rule part.EventUnary (item.Build action.Any ∷ []) refl (Make action.Any d)
derived is.FirstPoint = λ items ts d. Rule part.EventUnary (item.Build action.First ∷ []) refl (Make action.First d)
derived (is.OneKind x) = λ items ts d. derived x items ts (no_mask d)
derived (is.Masked {ts = us} {us = vs} x y) = λ items ts d.
    regroup us (terminal.AndAnd ∷ vs) ts
    (derived x items (terminal.AndAnd ∷ vs ++ ts)
    (Rule part.Mask (item.Part part.Expr ∷ item.Build action.Masked ∷ []) refl (whole vs (derived y) (item.Build action.Masked ∷ items) ts (Make action.Masked d))))
derived (is.Relative {ts = us} {us = vs} x y) = folded_event terminal.Relative action.Relative part.MoreRelative relative_folds us vs (derived x) (derived y)
derived (is.Prior {ts = us} {us = vs} x y) = folded_event terminal.Prior action.Prior part.MorePrior prior_folds us vs (derived x) (derived y)
derived (is.Sequence {ts = us} {us = vs} x y) = folded_event terminal.Sequence action.Sequence part.MoreSequence sequence_folds us vs (derived x) (derived y)
derived (is.Choose {ts = us} x) = counted_event terminal.Choose action.Choose refl us (derived x)
derived (is.Every {ts = us} x) = counted_event terminal.Every action.Every refl us (derived x)
derived (is.Fa {ts = us} {us = vs} {vs = ws} x y z) = event_of_three terminal.Fa action.Fa refl us vs ws (derived x) (derived y) (derived z)
derived (is.FaAbs {ts = us} {us = vs} {vs = ws} x y z) = event_of_three terminal.FaAbs action.FaAbs refl us vs ws (derived x) (derived y) (derived z)
derived (is.RelPlus {ts = us} x) = event_of_one terminal.RelPlus action.RelPlus refl us (derived x)
derived (is.Pipe {ts = us} {us = vs} x y) = event_of_two terminal.Pipe action.Pipe refl us vs (derived x) (derived y)
derived (is.LastEvent {ts = us} x) = last_event us (derived x)
derived (is.NextEvent {ts = us} {us = vs} x y) = next_event us vs (derived x) (derived y)
derived (is.NotEvent x) = λ items ts d.
    Rule part.EventUnary (item.Part part.EventUnary ∷ item.Build action.NotEvent ∷ []) refl (derived x (item.Build action.NotEvent ∷ items) ts (Make action.NotEvent d))
derived (is.OneEventAtom x) = λ items ts d. derived x items ts d
derived (is.OneNegated x) = λ items ts d. derived x (item.Part part.EventAnds ∷ items) ts d
derived (is.AndEvents {ts = us} {us = vs} x y) = λ items ts d.
    regroup us (terminal.And ∷ vs) ts
    (derived x items (terminal.And ∷ vs ++ ts)
    (Rule part.EventAnds (item.Part part.EventUnary ∷ item.Build action.AndEvents ∷ item.Part part.EventAnds ∷ []) refl
    (derived y (item.Build action.AndEvents ∷ item.Part part.EventAnds ∷ items) ts (Make action.AndEvents d))))
derived (is.OneConjoined x) = λ items ts d. derived x (item.Part part.EventOrs ∷ items) ts (no_event_ands d)
derived (is.OrEvents {ts = us} {us = vs} x y) = λ items ts d.
    regroup us (terminal.Or ∷ vs) ts
    (derived x items (terminal.Or ∷ vs ++ ts)
    (Rule part.EventOrs (evand ++ item.Build action.OrEvents ∷ item.Part part.EventOrs ∷ []) refl
    (derived y (item.Build action.OrEvents ∷ item.Part part.EventOrs ∷ items) ts (no_event_ands (Make action.OrEvents d)))))

pub expression_text : (tokens : List Terminal) → Is is.Expression tokens → IsText start.Expr tokens
unfolding items_of
expression_text tokens x = subst (λ ts. D (item.Part part.Expr ∷ []) ts) (append-nil tokens) (whole tokens (derived x) [] [] Done)

pub event_text : (tokens : List Terminal) → Is is.Event tokens → IsText start.Event tokens
unfolding items_of
event_text tokens x = subst (λ ts. D whole_event ts) (append-nil tokens) (event_whole tokens (derived x) [] [] Done)
