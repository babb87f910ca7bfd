-- What items derive is what their parts say.
use Rattle.std.proofs.Common.{◌≡◌, ◌⊎◌, inl, inr, true, List, [], ◌∷◌, ◌++◌, Some, refl, sym, ◌∙◌, ap, subst}
use Rattle.std.proofs.lemmas.List.{append-nil}
use Rattle.std.proofs.lemmas.Option.{none-some}
use Rattle.ode_grammar.specs.declared.item.Part.{Part}
use Rattle.ode_grammar.specs.declared.item.Part.TheVariants as part
use Rattle.ode_grammar.specs.declared.item.Action.{Action}
use Rattle.ode_grammar.specs.declared.item.Item.{Item}
use Rattle.ode_grammar.specs.declared.reader.Start.{Start}
use Rattle.ode_grammar.specs.declared.reader.Start.TheVariants as start
use Rattle.ode_grammar.specs.declared.terminal.Terminal.{Terminal}
use Rattle.ode_grammar.specs.Terminals.{named, stands_for}
use Rattle.ode_grammar.specs.Grammar.{after, items_of, row_of, skipped, standing}
use Rattle.ode_grammar.specs.Texts.{plain, Derives, Done, IsText, Make, Next, Rule, Skip}
use Rattle.ode_grammar.proofs.Follows.{named_after, IfRow}
use Rattle.ode_grammar.proofs.TerminalLaws.{named-named, stands_at, stands_for-either, stands_for-trans}
use Rattle.ode_productions.specs.Productions.{Is, Symbol}
use Rattle.ode_productions.specs.Productions as is
use Rattle.ode_productions.specs.Phrases.{Says, AClass, AClassChange, AComparison, AQuery, AStatement}
use Rattle.ode_productions.specs.Phrases as says
use Rattle.ode_productions.specs.Standing.{StandFor, StandsFor}
use Rattle.ode_productions.proofs.Rows.{after_what_rows, ands_rows, before_what_rows, compare_rows, dots_rows, ended, event_ands_rows, event_front, event_mask_rows, event_ors_rows, event_unary_rows, expr_rows, factors_rows, finish, kind_rows, mask_rows, more_prior_rows, more_relative_rows, more_sequence_rows, ors_rows, period_rows, split, sums_rows, time_what_rows, unary_rows, PartYields, RowYields, Yields}
use Rattle.ode_productions.proofs.PhraseRows.{additions_rows, args_rows, by_rows, call_dot_rows, chained_rows, class_rows, clock_text_rows, eighth_param_rows, eleventh_param_rows, else_rows, field_or_method_rows, fifteenth_param_rows, fifth_param_rows, fourteenth_param_rows, fourth_param_rows, fourth_range_rows, initial_rows, inner_name_rows, inners_rows, lasting_rows, literal_rows, members_rows, mode_rows, more_args_rows, more_exprs_rows, more_kinds_rows, more_sets_rows, negative_rows, ninth_param_rows, params_rows, parent_rows, return_value_rows, rhs_dot_rows, rhs_dots_rows, rhs_name_rows, rhs_rows, scope_rows, script_rhs_rows, second_param_rows, second_range_rows, sets_rows, seventh_param_rows, sixteenth_param_rows, sixth_param_rows, sort_rows, statement_rows, such_that_rows, tenth_param_rows, third_param_rows, third_range_rows, thirteenth_param_rows, twelfth_param_rows, whole_change, whole_comparison, whole_query}

-- ---- all parts

all_rows : (p : Part) (k : Terminal) → IfRow (RowYields p k) (row_of p k)
all_rows part.Expr k = expr_rows k
all_rows part.Unary k = unary_rows k
all_rows part.Dots k = dots_rows k
all_rows part.Factors k = factors_rows k
all_rows part.Sums k = sums_rows k
all_rows part.Compare k = compare_rows k
all_rows part.Ands k = ands_rows k
all_rows part.Ors k = ors_rows k
all_rows part.EventUnary k = event_unary_rows k
all_rows part.EventAnds k = event_ands_rows k
all_rows part.EventOrs k = event_ors_rows k
all_rows part.MoreRelative k = more_relative_rows k
all_rows part.MorePrior k = more_prior_rows k
all_rows part.MoreSequence k = more_sequence_rows k
all_rows part.Mask k = mask_rows k
all_rows part.EventMask k = event_mask_rows k
all_rows part.Kind k = kind_rows k
all_rows part.AfterWhat k = after_what_rows k
all_rows part.BeforeWhat k = before_what_rows k
all_rows part.TimeWhat k = time_what_rows k
all_rows part.Period k = period_rows k
all_rows part.Args k = args_rows k
all_rows part.MoreArgs k = more_args_rows k
all_rows part.CallDot k = call_dot_rows k
all_rows part.Chained k = chained_rows k
all_rows part.Sets k = sets_rows k
all_rows part.MoreSets k = more_sets_rows k
all_rows part.Rhs k = rhs_rows k
all_rows part.ScriptRhs k = script_rhs_rows k
all_rows part.RhsDots k = rhs_dots_rows k
all_rows part.RhsDot k = rhs_dot_rows k
all_rows part.RhsName k = rhs_name_rows k
all_rows part.Inners k = inners_rows k
all_rows part.Statement k = statement_rows k
all_rows part.ClockText k = clock_text_rows k
all_rows part.InnerName k = inner_name_rows k
all_rows part.ReturnValue k = return_value_rows k
all_rows part.Else k = else_rows k
all_rows part.Class k = class_rows k
all_rows part.Additions k = additions_rows k
all_rows part.Literal k = literal_rows k
all_rows part.Negative k = negative_rows k
all_rows part.SecondRange k = second_range_rows k
all_rows part.ThirdRange k = third_range_rows k
all_rows part.FourthRange k = fourth_range_rows k
all_rows part.SuchThat k = such_that_rows k
all_rows part.By k = by_rows k
all_rows part.MoreExprs k = more_exprs_rows k
all_rows part.Parent k = parent_rows k
all_rows part.Members k = members_rows k
all_rows part.FieldOrMethod k = field_or_method_rows k
all_rows part.MoreKinds k = more_kinds_rows k
all_rows part.Initial k = initial_rows k
all_rows part.Lasting k = lasting_rows k
all_rows part.Scope k = scope_rows k
all_rows part.Mode k = mode_rows k
all_rows part.Sort k = sort_rows k
all_rows part.Params k = params_rows k
all_rows part.SecondParam k = second_param_rows k
all_rows part.ThirdParam k = third_param_rows k
all_rows part.FourthParam k = fourth_param_rows k
all_rows part.FifthParam k = fifth_param_rows k
all_rows part.SixthParam k = sixth_param_rows k
all_rows part.SeventhParam k = seventh_param_rows k
all_rows part.EighthParam k = eighth_param_rows k
all_rows part.NinthParam k = ninth_param_rows k
all_rows part.TenthParam k = tenth_param_rows k
all_rows part.EleventhParam k = eleventh_param_rows k
all_rows part.TwelfthParam k = twelfth_param_rows k
all_rows part.ThirteenthParam k = thirteenth_param_rows k
all_rows part.FourteenthParam k = fourteenth_param_rows k
all_rows part.FifteenthParam k = fifteenth_param_rows k
all_rows part.SixteenthParam k = sixteenth_param_rows k

with_nothing : (s : Symbol) (xs : List Terminal) → Is s xs → Is s (xs ++ [])
with_nothing s xs x = subst (Is s) (sym (append-nil xs)) x

left_out : (p : Part) (a : Action) → skipped p ≡ Some a → PartYields p []
unfolding skipped
left_out part.Expr a e = absurd (none-some a e)
left_out part.Unary a e = absurd (none-some a e)
left_out part.Dots a e = λ xs x. with_nothing is.Chain xs x
left_out part.Factors a e = λ xs x. with_nothing is.Term xs x
left_out part.Sums a e = λ xs x. with_nothing is.Sum xs x
left_out part.Compare a e = λ xs x. with_nothing is.Comparison xs (is.OneSum x)
left_out part.Ands a e = λ xs x. with_nothing is.Conjunction xs x
left_out part.Ors a e = λ xs x. with_nothing is.Expression xs x
left_out part.EventUnary a e = absurd (none-some a e)
left_out part.EventAnds a e = λ xs x. with_nothing is.Conjoined xs x
left_out part.EventOrs a e = λ xs x. with_nothing is.Event xs x
left_out part.MoreRelative a e = absurd (none-some a e)
left_out part.MorePrior a e = absurd (none-some a e)
left_out part.MoreSequence a e = absurd (none-some a e)
left_out part.Mask a e = λ xs x. with_nothing is.EventAtom xs (is.OneKind x)
left_out part.EventMask a e = λ xs x. is.EventBrackets x
left_out part.Kind a e = absurd (none-some a e)
left_out part.AfterWhat a e = absurd (none-some a e)
left_out part.BeforeWhat a e = absurd (none-some a e)
left_out part.TimeWhat a e = absurd (none-some a e)
left_out part.Period a e = absurd (none-some a e)
left_out part.Args a e = absurd (none-some a e)
left_out part.MoreArgs a e = absurd (none-some a e)
left_out part.CallDot a e = absurd (none-some a e)
left_out part.Chained a e = absurd (none-some a e)
left_out part.Sets a e = absurd (none-some a e)
left_out part.MoreSets a e = absurd (none-some a e)
left_out part.Rhs a e = absurd (none-some a e)
left_out part.ScriptRhs a e = absurd (none-some a e)
left_out part.RhsDots a e = absurd (none-some a e)
left_out part.RhsDot a e = absurd (none-some a e)
left_out part.RhsName a e = absurd (none-some a e)
left_out part.Inners a e = says.NoInners
left_out part.Statement a e = absurd (none-some a e)
left_out part.ClockText a e = absurd (none-some a e)
left_out part.InnerName a e = absurd (none-some a e)
left_out part.ReturnValue a e = absurd (none-some a e)
left_out part.Else a e = says.NoElse
left_out part.Class a e = absurd (none-some a e)
left_out part.Additions a e = says.NoAdditions
left_out part.Literal a e = absurd (none-some a e)
left_out part.Negative a e = absurd (none-some a e)
left_out part.SecondRange a e = says.LastRange
left_out part.ThirdRange a e = says.LastRange
left_out part.FourthRange a e = says.LastRange
left_out part.SuchThat a e = says.NoTest
left_out part.By a e = says.NoSorting
left_out part.MoreExprs a e = says.LastExpression
left_out part.Parent a e = says.NoParent
left_out part.Members a e = says.NoMembers
left_out part.FieldOrMethod a e = absurd (none-some a e)
left_out part.MoreKinds a e = absurd (none-some a e)
left_out part.Initial a e = says.NotInitial
left_out part.Lasting a e = says.NotLasting
left_out part.Scope a e = says.NoScope
left_out part.Mode a e = says.NoMode
left_out part.Sort a e = absurd (none-some a e)
left_out part.Params a e = absurd (none-some a e)
left_out part.SecondParam a e = absurd (none-some a e)
left_out part.ThirdParam a e = absurd (none-some a e)
left_out part.FourthParam a e = absurd (none-some a e)
left_out part.FifthParam a e = absurd (none-some a e)
left_out part.SixthParam a e = absurd (none-some a e)
left_out part.SeventhParam a e = absurd (none-some a e)
left_out part.EighthParam a e = absurd (none-some a e)
left_out part.NinthParam a e = absurd (none-some a e)
left_out part.TenthParam a e = absurd (none-some a e)
left_out part.EleventhParam a e = absurd (none-some a e)
left_out part.TwelfthParam a e = absurd (none-some a e)
left_out part.ThirteenthParam a e = absurd (none-some a e)
left_out part.FourteenthParam a e = absurd (none-some a e)
left_out part.FifteenthParam a e = absurd (none-some a e)
left_out part.SixteenthParam a e = absurd (none-some a e)

-- ---- what tokens stand for

record Read (items : List Item) (tokens : List Terminal) : Type 0 where
  pub read : List Terminal
  pub stand : StandFor tokens read
  pub yields : Yields items read

yields : {items : List Item} {m : Unit {0}} {ts : List Terminal} {out : Unit {0}} → Derives plain items m ts out → Read items ts
yields Done = record { read = []; stand = tt; yields = refl }
yields (Next k e d) = let y = yields d in record { read = k ∷ y.read; stand = (e, y.stand); yields = (y.read, refl, y.yields) }
yields (Make a d) = let y = yields d in record { read = y.read; stand = y.stand; yields = y.yields }
yields (Rule {items = items} {t = t} p row e d) =
    let y = yields d in
    let k = standing p t in
    let x = split row items y.read y.yields in
    record {
      read = k ∷ y.read;
      stand = (stands_at p t, y.stand);
      yields = (k ∷ x.a, x.b, ap (λ z. k ∷ z) x.is, subst (IfRow (RowYields p k)) e (all_rows p k) x.a x.first, x.behind);
    }
yields (Skip p a e d) = let y = yields d in record { read = y.read; stand = y.stand; yields = ([], y.read, refl, left_out p a e, y.yields) }

pub expression_is : (tokens : List Terminal) → IsText start.Expr tokens → StandsFor (Is is.Expression) tokens
unfolding items_of
expression_is tokens d = let y = yields d in let l = y.yields in (y.read, y.stand, subst (Is is.Expression) (sym (ended y.read l.0 l.1 l.2 l.4)) l.3)

pub event_is : (tokens : List Terminal) → IsText start.Event tokens → StandsFor (Is is.Event) tokens
unfolding items_of
event_is tokens d = let y = yields d in (y.read, y.stand, finish is.Event y.read (event_front [] y.read y.yields))

pub class_is : (tokens : List Terminal) → IsText start.Class tokens → StandsFor (Says AClass) tokens
unfolding items_of
class_is tokens d = let y = yields d in let l = y.yields in (y.read, y.stand, subst (Says AClass) (sym (ended y.read l.0 l.1 l.2 l.4)) l.3)

pub change_is : (tokens : List Terminal) → IsText start.Change tokens → StandsFor (Says AClassChange) tokens
unfolding items_of
change_is tokens d = let y = yields d in (y.read, y.stand, whole_change y.read y.yields)

pub query_is : (tokens : List Terminal) → IsText start.Query tokens → StandsFor (Says AQuery) tokens
unfolding items_of
query_is tokens d = let y = yields d in (y.read, y.stand, whole_query y.read y.yields)

pub comparison_is : (tokens : List Terminal) → IsText start.Comparison tokens → StandsFor (Says AComparison) tokens
unfolding items_of
comparison_is tokens d = let y = yields d in (y.read, y.stand, whole_comparison y.read y.yields)

pub statement_is : (tokens : List Terminal) → IsText start.Statement tokens → StandsFor (Says AStatement) tokens
unfolding items_of
statement_is tokens d = let y = yields d in let l = y.yields in (y.read, y.stand, subst (Says AStatement) (sym (ended y.read l.0 l.1 l.2 l.4)) l.3)

-- ---- and the other way round

named_stands : (p : Part) (t : Terminal) → standing p (named t) ≡ named t
named_stands part.EventUnary t = refl
named_stands part.SuchThat t = refl
named_stands part.By t = refl
named_stands other t = named-named t

-- a token has the row of what it stands for
same_row : (p : Part) (t k : Terminal) (row : List Item) → stands_for t k ≡ true → after p k ≡ Some row → after p t ≡ Some row
same_row p t k row s e = go (stands_for-either t k s)
  where
    go : (t ≡ k) ⊎ (named t ≡ k) → after p t ≡ Some row
    go (inl f) = ap (after p) f ∙ e
    go (inr f) = named_after p t row (sym (ap (row_of p) (named_stands p t)) ∙ (ap (after p) f ∙ e))

derives_so : {items : List Item} {m : Unit {0}} {read : List Terminal} {out : Unit {0}} → (tokens : List Terminal) → StandFor tokens read
    → Derives plain items m read out → Derives plain items m tokens out
derives_so [] s Done = Done
derives_so (t ∷ ts) s Done = absurd s
derives_so [] s (Next k e d) = absurd s
derives_so (t ∷ ts) s (Next {t = j} k e d) = Next k (stands_for-trans t j k s.0 e) (derives_so ts s.1 d)
derives_so ts s (Make a d) = Make a (derives_so ts s d)
derives_so [] s (Rule p row e d) = absurd s
derives_so (t ∷ ts) s (Rule {t = k} p row e d) = Rule p row (same_row p t k row s.0 e) (derives_so ts s.1 d)
derives_so ts s (Skip p a e d) = Skip p a e (derives_so ts s d)

pub stands_text : (start : Start) (tokens read : List Terminal) → StandFor tokens read → IsText start read → IsText start tokens
stands_text start tokens read s d = derives_so tokens s d
