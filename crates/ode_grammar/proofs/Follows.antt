-- Which terminals may follow a part: one token is enough to choose how the grammar goes on.
use Rattle.std.proofs.Common.{◌≡◌, ℕ, Bool, true, false, ◌&&◌, ◌||◌, not, List, [], ◌∷◌, ◌++◌, Option, Some, None, zero, suc, ◌<◌, length, get_or, arith, refl, sym, ◌∙◌, ap, subst}
use Rattle.std.proofs.lemmas.Bool.{false≢true}
use Rattle.std.proofs.lemmas.Option.{none-some}
use Rattle.ode_grammar.specs.declared.terminal.Terminal.{Terminal}
use Rattle.ode_grammar.specs.declared.terminal.Terminal.TheVariants as terminal
use Rattle.ode_grammar.specs.declared.item.Part.{Part}
use Rattle.ode_grammar.specs.declared.item.Part.TheVariants as part
use Rattle.ode_grammar.specs.declared.item.Action.{Action}
use Rattle.ode_grammar.specs.declared.item.Item.{Item}
use Rattle.ode_grammar.specs.declared.item.Item.TheVariants as item
use Rattle.ode_grammar.specs.declared.reader.Start.{Start}
use Rattle.ode_grammar.specs.declared.reader.Start.TheVariants as start
use Rattle.ode_grammar.specs.Terminals.{named, number, stands_for}
use Rattle.ode_grammar.specs.Grammar.{after, row_of, skipped, items_of}
use Rattle.ode_grammar.specs.Texts.{Meaning, Derives, Next, Make, Rule, Skip}
use Rattle.ode_grammar.proofs.TerminalLaws.{terminals, back, below}

abbrev pub has : {A : Type 0} → Option A → Bool
has None = false
has (Some x) = true

-- whether items may begin with a terminal, where `then` says what may begin behind them
abbrev pub starts : (Terminal → Bool) → List Item → Terminal → Bool
starts then [] k = then k
starts then (item.Token j ∷ items) k = stands_for k j
starts then (item.Build a ∷ items) k = starts then items k
starts then (item.Part p ∷ items) k = has (after p k) || (has (skipped p) && starts then items k)

abbrev pub nothing_then : Terminal → Bool
nothing_then k = false

-- which terminals may follow a part
abbrev ends_mode : Terminal → Bool
ends_mode k = stands_for k terminal.Name

abbrev ends_parent : Terminal → Bool
ends_parent terminal.OpenBrace = true
ends_parent other = false

abbrev ends_inners : Terminal → Bool
ends_inners terminal.CloseBrace = true
ends_inners other = false

abbrev ends_clock_text : Terminal → Bool
ends_clock_text terminal.Semi = true
ends_clock_text other = false

abbrev ends_scope : Terminal → Bool
ends_scope terminal.Mode = true
ends_scope other = ends_mode other

abbrev ends_params : Terminal → Bool
ends_params terminal.OpenBrace = true
ends_params terminal.Colon = true
ends_params other = false

abbrev ends_kind : Terminal → Bool
ends_kind terminal.Semi = true
ends_kind terminal.Comma = true
ends_kind other = false

abbrev ends_lasting : Terminal → Bool
ends_lasting terminal.Scope = true
ends_lasting other = ends_scope other

abbrev ends_event_ors : Terminal → Bool
ends_event_ors terminal.CloseParen = true
ends_event_ors terminal.Semi = true
ends_event_ors terminal.Comma = true
ends_event_ors terminal.Arrow = true
ends_event_ors other = false

abbrev ends_initial : Terminal → Bool
ends_initial terminal.Lasting = true
ends_initial other = ends_lasting other

abbrev ends_event_ands : Terminal → Bool
ends_event_ands terminal.Or = true
ends_event_ands other = ends_event_ors other

abbrev ends_event_unary : Terminal → Bool
ends_event_unary terminal.And = true
ends_event_unary other = ends_event_ands other

abbrev ends_expr : Terminal → Bool
ends_expr terminal.By = true
ends_expr terminal.Show = true
ends_expr other = ends_event_unary other

abbrev ends_by : Terminal → Bool
ends_by terminal.Show = true
ends_by other = false

abbrev ends_such_that : Terminal → Bool
ends_such_that terminal.By = true
ends_such_that other = ends_by other

abbrev ends_range : Terminal → Bool
ends_range terminal.SuchThat = true
ends_range other = ends_such_that other

abbrev ends_exprs : Terminal → Bool
ends_exprs terminal.Semi = true
ends_exprs other = ends_by other

abbrev ends_after_what : Terminal → Bool
ends_after_what terminal.AndAnd = true
ends_after_what other = ends_expr other

abbrev ends_ands : Terminal → Bool
ends_ands terminal.OrOr = true
ends_ands other = ends_expr other

abbrev ends_field_or_method : Terminal → Bool
ends_field_or_method terminal.CloseBrace = true
ends_field_or_method terminal.Constraint = true
ends_field_or_method terminal.Event = true
ends_field_or_method terminal.Ref = true
ends_field_or_method terminal.Soft = true
ends_field_or_method terminal.SortWord = true
ends_field_or_method terminal.Trigger = true
ends_field_or_method terminal.Void = true
ends_field_or_method other = false

abbrev ends_compare : Terminal → Bool
ends_compare terminal.OrOr = true
ends_compare other = ends_after_what other

abbrev ends_sums : Terminal → Bool
ends_sums terminal.Compares = true
ends_sums other = ends_compare other

abbrev ends_factors : Terminal → Bool
ends_factors terminal.Minus = true
ends_factors terminal.Plus = true
ends_factors other = ends_sums other

abbrev ends_unary : Terminal → Bool
ends_unary terminal.Times = true
ends_unary other = ends_factors other

abbrev ends_inner_name : Terminal → Bool
ends_inner_name terminal.Leaf = true
ends_inner_name terminal.Number = true
ends_inner_name terminal.Seconds = true
ends_inner_name terminal.Count = true
ends_inner_name terminal.Text = true
ends_inner_name terminal.Instant = true
ends_inner_name terminal.CloseBrace = true
ends_inner_name terminal.OpenParen = true
ends_inner_name terminal.Activate = true
ends_inner_name terminal.Deactivate = true
ends_inner_name terminal.DropVersion = true
ends_inner_name terminal.If = true
ends_inner_name terminal.Let = true
ends_inner_name terminal.NewVersion = true
ends_inner_name terminal.PDelete = true
ends_inner_name terminal.PNew = true
ends_inner_name terminal.Return = true
ends_inner_name terminal.Say = true
ends_inner_name terminal.Show = true
ends_inner_name terminal.TAbort = true
ends_inner_name terminal.Version = true
ends_inner_name other = ends_mode other

abbrev pub follow : Part → Terminal → Bool
follow part.Statement k = false
follow part.ClockText k = ends_clock_text k
follow part.Inners k = ends_inners k
follow part.InnerName k = ends_inner_name k
follow part.ReturnValue k = ends_inner_name k
follow part.Else k = ends_inner_name k
follow part.Chained k = ends_clock_text k
follow part.CallDot k = ends_clock_text k
follow part.Sets k = ends_clock_text k
follow part.MoreSets k = ends_clock_text k
follow part.Rhs k = ends_inner_name k
follow part.ScriptRhs k = false
follow part.RhsDots k = ends_inner_name k
follow part.RhsDot k = ends_inner_name k
follow part.RhsName k = ends_inner_name k
follow part.Class k = false
follow part.Additions k = ends_inners k
follow part.Literal k = ends_clock_text k
follow part.Negative k = ends_clock_text k
follow part.Parent k = ends_parent k
follow part.Members k = ends_inners k
follow part.FieldOrMethod k = ends_field_or_method k
follow part.MoreKinds k = ends_field_or_method k
follow part.Initial k = ends_initial k
follow part.Lasting k = ends_lasting k
follow part.Scope k = ends_scope k
follow part.Mode k = ends_mode k
follow part.Sort k = ends_mode k
follow part.Params k = ends_params k
follow part.SecondParam k = ends_params k
follow part.ThirdParam k = ends_params k
follow part.FourthParam k = ends_params k
follow part.FifthParam k = ends_params k
follow part.SixthParam k = ends_params k
follow part.SeventhParam k = ends_params k
follow part.EighthParam k = ends_params k
follow part.NinthParam k = ends_params k
follow part.TenthParam k = ends_params k
follow part.EleventhParam k = ends_params k
follow part.TwelfthParam k = ends_params k
follow part.ThirteenthParam k = ends_params k
follow part.FourteenthParam k = ends_params k
follow part.FifteenthParam k = ends_params k
follow part.SixteenthParam k = ends_params k
follow part.SecondRange k = ends_range k
follow part.ThirdRange k = ends_range k
follow part.FourthRange k = ends_range k
follow part.SuchThat k = ends_such_that k
follow part.By k = ends_by k
follow part.MoreExprs k = ends_exprs k
follow part.EventUnary k = ends_event_unary k
follow part.EventAnds k = ends_event_ands k
follow part.EventOrs k = ends_event_ors k
follow part.MoreRelative k = ends_event_unary k
follow part.MorePrior k = ends_event_unary k
follow part.MoreSequence k = ends_event_unary k
follow part.Mask k = ends_event_unary k
follow part.EventMask k = ends_event_unary k
follow part.Kind k = ends_kind k
follow part.AfterWhat k = ends_after_what k
follow part.BeforeWhat k = ends_after_what k
follow part.TimeWhat k = ends_after_what k
follow part.Period k = ends_after_what k
follow part.Expr k = ends_expr k
follow part.Unary k = ends_unary k
follow part.Dots k = ends_unary k
follow part.Factors k = ends_factors k
follow part.Sums k = ends_sums k
follow part.Compare k = ends_compare k
follow part.Ands k = ends_ands k
follow part.Ors k = ends_expr k
follow part.Args k = ends_clock_text k
follow part.MoreArgs k = ends_clock_text k

-- a test holds of every terminal
abbrev every_of : (Terminal → Bool) → List Terminal → Bool
every_of test [] = true
every_of test (k ∷ ks) = test k && every_of test ks

abbrev every : (Terminal → Bool) → Bool
every test = every_of test terminals

both : (a b : Bool) → (a && b) ≡ true → (a ≡ true) × (b ≡ true)
both true b h = (refl, h)
both false b h = (h, absurd (false≢true h))

at_index : (test : Terminal → Bool) (ks : List Terminal) (n : ℕ) → every_of test ks ≡ true → n < length ks → test (get_or ks n terminal.Leaf) ≡ true
at_index test [] n h l = absurd (omega arith)
at_index test (k ∷ ks) zero h l = (both (test k) (every_of test ks) h).0
at_index test (k ∷ ks) (suc n) h l = at_index test ks n (both (test k) (every_of test ks) h).1 (omega arith)

every-true : (test : Terminal → Bool) → every test ≡ true → (k : Terminal) → test k ≡ true
every-true test h k = subst (λ j. test j ≡ true) (back k) (at_index test terminals (number k) h (below k))

abbrev pub implies : Bool → Bool → Bool
implies true b = b
implies false b = true

follows : (a b : Bool) → implies a b ≡ true → a ≡ true → b ≡ true
follows true b h e = h
follows false b h e = absurd (false≢true e)

-- each part among the items is followed by what may follow it, where `then` says what may follow the items
abbrev pub Well : (Terminal → Bool) → List Item → Type 0
Well then [] = Unit {0}
Well then (item.Token k ∷ items) = Well then items
Well then (item.Build a ∷ items) = Well then items
Well then (item.Part p ∷ items) = ((k : Terminal) → starts then items k ≡ true → follow p k ≡ true) × Well then items

abbrev well : (Terminal → Bool) → List Item → Bool
well then [] = true
well then (item.Token k ∷ items) = well then items
well then (item.Build a ∷ items) = well then items
well then (item.Part p ∷ items) = every (λ k. implies (starts then items k) (follow p k)) && well then items

Well-checked : (then : Terminal → Bool) (items : List Item) → well then items ≡ true → Well then items
Well-checked then [] h = tt
Well-checked then (item.Token k ∷ items) h = Well-checked then items h
Well-checked then (item.Build a ∷ items) h = Well-checked then items h
Well-checked then (item.Part p ∷ items) h =
    let e = both (every (λ k. implies (starts then items k) (follow p k))) (well then items) h in
    ((λ k g. follows (starts then items k) (follow p k) (every-true (λ j. implies (starts then items j) (follow p j)) e.0 k) g), Well-checked then items e.1)

-- THE TABLE'S CHECK: what follows a part that may be left out doesn't begin it, and the parts of each row are followed so
abbrev row_well : Part → Option (List Item) → Bool
row_well p None = true
row_well p (Some row) = well (follow p) row

apart_checked : (p : Part) → every (λ k. implies (has (skipped p)) (implies (has (after p k)) (not (follow p k)))) ≡ true
unfolding row_of skipped
apart_checked part.Statement = refl
apart_checked other = refl

rows_checked : (p : Part) → every (λ k. row_well p (after p k)) ≡ true
unfolding row_of skipped
rows_checked part.Statement = refl
rows_checked other = refl

start_checked : (s : Start) → well nothing_then (items_of s) ≡ true
unfolding items_of row_of skipped
start_checked start.Expr = refl
start_checked other = refl

pub start_well : (s : Start) → Well nothing_then (items_of s)
start_well s = Well-checked nothing_then (items_of s) (start_checked s)

-- where a part is left out, what begins behind it doesn't begin it
pub no_row : (p : Part) (k : Terminal) (a : Action) → skipped p ≡ Some a → follow p k ≡ true → after p k ≡ None
no_row p k a s f = go (after p k) refl
  where
    go : (r : Option (List Item)) → after p k ≡ r → r ≡ None
    go None e = refl
    go (Some row) e =
        let h = every-true (λ j. implies (has (skipped p)) (implies (has (after p j)) (not (follow p j)))) (apart_checked p) k in
        let h1 = follows (has (skipped p)) (implies (has (after p k)) (not (follow p k))) h (ap has s) in
        let h2 = follows (has (after p k)) (not (follow p k)) h1 (ap has e) in
        absurd (false≢true (sym (ap not f) ∙ h2))

row_well-at : (p : Part) (k : Terminal) (row : List Item) → after p k ≡ Some row → Well (follow p) row
row_well-at p k row e =
    Well-checked (follow p) row (ap (row_well p) (sym e) ∙ every-true (λ j. row_well p (after p j)) (rows_checked p) k)

starts-append : (then : Terminal → Bool) (xs ys : List Item) (k : Terminal) → starts then (xs ++ ys) k ≡ starts (starts then ys) xs k
starts-append then [] ys k = refl
starts-append then (item.Token j ∷ xs) ys k = refl
starts-append then (item.Build a ∷ xs) ys k = starts-append then xs ys k
starts-append then (item.Part p ∷ xs) ys k = ap (λ b. has (after p k) || (has (skipped p) && b)) (starts-append then xs ys k)

or_and : (a b x y : Bool) → (x ≡ true → y ≡ true) → (a || (b && x)) ≡ true → (a || (b && y)) ≡ true
or_and true b x y f h = refl
or_and false true x y f h = f h
or_and false false x y f h = h

starts-more : (f g : Terminal → Bool) (k : Terminal) → (f k ≡ true → g k ≡ true) → (xs : List Item) → starts f xs k ≡ true → starts g xs k ≡ true
starts-more f g k more [] h = more h
starts-more f g k more (item.Token j ∷ xs) h = h
starts-more f g k more (item.Build a ∷ xs) h = starts-more f g k more xs h
starts-more f g k more (item.Part p ∷ xs) h =
    or_and (has (after p k)) (has (skipped p)) (starts f xs k) (starts g xs k) (λ e. starts-more f g k more xs e) h

Well-append : (f then : Terminal → Bool) (xs ys : List Item) → ((k : Terminal) → starts then ys k ≡ true → f k ≡ true) → Well f xs → Well then ys → Well then (xs ++ ys)
Well-append f then [] ys more wx wy = wy
Well-append f then (item.Token j ∷ xs) ys more wx wy = Well-append f then xs ys more wx wy
Well-append f then (item.Build a ∷ xs) ys more wx wy = Well-append f then xs ys more wx wy
Well-append f then (item.Part p ∷ xs) ys more wx wy =
    ((λ k h. wx.0 k (starts-more (starts then ys) f k (more k) xs (sym (starts-append then xs ys k) ∙ h))), Well-append f then xs ys more wx.1 wy)

-- a row keeps the items well
pub row_kept : (then : Terminal → Bool) (p : Part) (k : Terminal) (row items : List Item) → after p k ≡ Some row → Well then (item.Part p ∷ items) → Well then (row ++ items)
row_kept then p k row items e w = Well-append (follow p) then row items w.0 (row_well-at p k row e) w.1

or_left : (a b : Bool) → a ≡ true → (a || b) ≡ true
or_left true b h = refl
or_left false b h = absurd (false≢true h)

or_right : (a b c : Bool) → b ≡ true → c ≡ true → (a || (b && c)) ≡ true
or_right true b c g h = refl
or_right false true c g h = h
or_right false false c g h = absurd (false≢true g)

starts-row : (items : List Item) (p : Part) (k : Terminal) (row : List Item) → after p k ≡ Some row → starts nothing_then (item.Part p ∷ items) k ≡ true
starts-row items p k row e = or_left (has (after p k)) (has (skipped p) && starts nothing_then items k) (ap has e)

starts-skip : (items : List Item) (p : Part) (k : Terminal) (a : Action) → skipped p ≡ Some a → starts nothing_then items k ≡ true → starts nothing_then (item.Part p ∷ items) k ≡ true
starts-skip items p k a e h = or_right (has (after p k)) (has (skipped p)) (starts nothing_then items k) (ap has e) h

-- what items derive begins with a token that they may begin with
pub starts-derived : {T M : Type 0} {g : Meaning T M} {items : List Item} {m : M} {t : T} {ts : List T} {out : M}
    → Derives g items m (t ∷ ts) out → starts nothing_then items (g.seen t) ≡ true
starts-derived (Next k e d) = e
starts-derived (Make a d) = starts-derived d
starts-derived {g = g} {t = t} (Rule {items = items} p row e d) = starts-row items p (g.seen t) row e
starts-derived {g = g} {t = t} (Skip {items = items} p a e d) = starts-skip items p (g.seen t) a e (starts-derived d)

abbrev pub IfRow : (List Item → Type 0) → Option (List Item) → Type 0
IfRow P None = Unit {0}
IfRow P (Some row) = P row

-- a token has at a part the row that it has as a name, since no event expression and no part of a query begins with one
event_after : (t : Terminal) (row : List Item) → row_of part.EventUnary (named t) ≡ Some row → after part.EventUnary t ≡ Some row
unfolding row_of
event_after terminal.By row h = absurd (none-some row h)
event_after terminal.Change row h = absurd (none-some row h)
event_after terminal.FaAbs row h = absurd (none-some row h)
event_after terminal.For row h = absurd (none-some row h)
event_after terminal.In row h = absurd (none-some row h)
event_after terminal.Pipe row h = absurd (none-some row h)
event_after terminal.RelPlus row h = absurd (none-some row h)
event_after terminal.Same row h = absurd (none-some row h)
event_after terminal.SuchThat row h = absurd (none-some row h)
event_after other row h = h

such_that_row_after : (t : Terminal) (row : List Item) → row_of part.SuchThat (named t) ≡ Some row → after part.SuchThat t ≡ Some row
unfolding row_of
such_that_row_after terminal.By row h = absurd (none-some row h)
such_that_row_after terminal.Change row h = absurd (none-some row h)
such_that_row_after terminal.FaAbs row h = absurd (none-some row h)
such_that_row_after terminal.For row h = absurd (none-some row h)
such_that_row_after terminal.In row h = absurd (none-some row h)
such_that_row_after terminal.Pipe row h = absurd (none-some row h)
such_that_row_after terminal.RelPlus row h = absurd (none-some row h)
such_that_row_after terminal.Same row h = absurd (none-some row h)
such_that_row_after terminal.SuchThat row h = absurd (none-some row h)
such_that_row_after other row h = h

by_row_after : (t : Terminal) (row : List Item) → row_of part.By (named t) ≡ Some row → after part.By t ≡ Some row
unfolding row_of
by_row_after terminal.By row h = absurd (none-some row h)
by_row_after terminal.Change row h = absurd (none-some row h)
by_row_after terminal.FaAbs row h = absurd (none-some row h)
by_row_after terminal.For row h = absurd (none-some row h)
by_row_after terminal.In row h = absurd (none-some row h)
by_row_after terminal.Pipe row h = absurd (none-some row h)
by_row_after terminal.RelPlus row h = absurd (none-some row h)
by_row_after terminal.Same row h = absurd (none-some row h)
by_row_after terminal.SuchThat row h = absurd (none-some row h)
by_row_after other row h = h

pub named_after : (p : Part) (t : Terminal) (row : List Item) → row_of p (named t) ≡ Some row → after p t ≡ Some row
named_after part.EventUnary t row h = event_after t row h
named_after part.SuchThat t row h = such_that_row_after t row h
named_after part.By t row h = by_row_after t row h
named_after other t row h = h
