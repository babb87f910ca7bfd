-- The grammar: what may stand at each part, by the token that it begins with.
use Rattle.std.specs.Prelude.{List, [], ◌∷◌, ◌++◌, Option, Some, None}
use Rattle.ode_grammar.specs.declared.terminal.Terminal.{Terminal}
use Rattle.ode_grammar.specs.declared.terminal.Terminal.TheVariants as terminal
use Rattle.ode_grammar.specs.declared.item.Part.{Part}
use Rattle.ode_grammar.specs.declared.item.Part.TheVariants as part
use Rattle.ode_grammar.specs.declared.item.Action.{Action}
use Rattle.ode_grammar.specs.declared.item.Action.TheVariants as action
use Rattle.ode_grammar.specs.declared.item.Item.{Item}
use Rattle.ode_grammar.specs.declared.item.Item.TheVariants.{Token, Part as A}
use Rattle.ode_grammar.specs.declared.reader.Start.{Start}
use Rattle.ode_grammar.specs.declared.reader.Start.TheVariants as start
use Rattle.ode_grammar.specs.Terminals.{named}
use Rattle.ode_grammar.specs.Expressions.{expr_after, unary_after, dots_after, factors_after, sums_after, compare_after, ands_after, ors_after, args_after, more_args_after}
use Rattle.ode_grammar.specs.Events.{event, event_unary_after, event_ands_after, event_ors_after, more_relative_after, more_prior_after, more_sequence_after, mask_after, event_mask_after, kind_after, after_what_after, before_what_after, time_what_after, period_after}
use Rattle.ode_grammar.specs.Statements.{statement_after, clock_text_after, inners_after, inner_name_after, return_value_after, else_after, chained_after, call_dot_after, sets_after, more_sets_after, rhs_after, script_rhs_after, rhs_dots_after, rhs_dot_after, rhs_name_after}
use Rattle.ode_grammar.specs.Changes.{additions_after, change, literal_after, negative_after}
use Rattle.ode_grammar.specs.Comparisons.{comparison}
use Rattle.ode_grammar.specs.Queries.{by_after, more_exprs_after, more_ranges, query, range, such_that_after}
use Rattle.ode_grammar.specs.Classes.{class_after, parent_after, members_after, field_or_method_after, more_kinds_after, initial_after, lasting_after, scope_after, mode_after, sort_after, params_after, one_param, more_params}

-- the row of the token at a part
unfoldable pub row_of : Part → Terminal → Option (List Item)
row_of part.Statement k = statement_after k
row_of part.ClockText k = clock_text_after k
row_of part.Inners k = inners_after k
row_of part.InnerName k = inner_name_after k
row_of part.ReturnValue k = return_value_after k
row_of part.Else k = else_after k
row_of part.Chained k = chained_after k
row_of part.CallDot k = call_dot_after k
row_of part.Sets k = sets_after k
row_of part.MoreSets k = more_sets_after k
row_of part.Rhs k = rhs_after k
row_of part.ScriptRhs k = script_rhs_after k
row_of part.RhsDots k = rhs_dots_after k
row_of part.RhsDot k = rhs_dot_after k
row_of part.RhsName k = rhs_name_after k
row_of part.Class k = class_after k
row_of part.Additions k = additions_after k
row_of part.Literal k = literal_after k
row_of part.Negative k = negative_after k
row_of part.Parent k = parent_after k
row_of part.Members k = members_after k
row_of part.FieldOrMethod k = field_or_method_after k
row_of part.MoreKinds k = more_kinds_after k
row_of part.Initial k = initial_after k
row_of part.Lasting k = lasting_after k
row_of part.Scope k = scope_after k
row_of part.Mode k = mode_after k
row_of part.Sort k = sort_after k
row_of part.Params k = params_after k
row_of part.SecondParam k = more_params (one_param (A part.ThirdParam)) k
row_of part.ThirdParam k = more_params (one_param (A part.FourthParam)) k
row_of part.FourthParam k = more_params (one_param (A part.FifthParam)) k
row_of part.FifthParam k = more_params (one_param (A part.SixthParam)) k
row_of part.SixthParam k = more_params (one_param (A part.SeventhParam)) k
row_of part.SeventhParam k = more_params (one_param (A part.EighthParam)) k
row_of part.EighthParam k = more_params (one_param (A part.NinthParam)) k
row_of part.NinthParam k = more_params (one_param (A part.TenthParam)) k
row_of part.TenthParam k = more_params (one_param (A part.EleventhParam)) k
row_of part.EleventhParam k = more_params (one_param (A part.TwelfthParam)) k
row_of part.TwelfthParam k = more_params (one_param (A part.ThirteenthParam)) k
row_of part.ThirteenthParam k = more_params (one_param (A part.FourteenthParam)) k
row_of part.FourteenthParam k = more_params (one_param (A part.FifteenthParam)) k
row_of part.FifteenthParam k = more_params (one_param (A part.SixteenthParam)) k
row_of part.SixteenthParam k = more_params (one_param (Token terminal.CloseParen)) k
row_of part.SecondRange k = more_ranges (range ++ A part.ThirdRange ∷ []) k
row_of part.ThirdRange k = more_ranges (range ++ A part.FourthRange ∷ []) k
row_of part.FourthRange k = more_ranges range k
row_of part.SuchThat k = such_that_after k
row_of part.By k = by_after k
row_of part.MoreExprs k = more_exprs_after k
row_of part.EventUnary k = event_unary_after k
row_of part.EventAnds k = event_ands_after k
row_of part.EventOrs k = event_ors_after k
row_of part.MoreRelative k = more_relative_after k
row_of part.MorePrior k = more_prior_after k
row_of part.MoreSequence k = more_sequence_after k
row_of part.Mask k = mask_after k
row_of part.EventMask k = event_mask_after k
row_of part.Kind k = kind_after k
row_of part.AfterWhat k = after_what_after k
row_of part.BeforeWhat k = before_what_after k
row_of part.TimeWhat k = time_what_after k
row_of part.Period k = period_after k
row_of part.Expr k = expr_after k
row_of part.Unary k = unary_after k
row_of part.Dots k = dots_after k
row_of part.Factors k = factors_after k
row_of part.Sums k = sums_after k
row_of part.Compare k = compare_after k
row_of part.Ands k = ands_after k
row_of part.Ors k = ors_after k
row_of part.Args k = args_after k
row_of part.MoreArgs k = more_args_after k

-- the token as it stands at a part
abbrev pub standing : Part → Terminal → Terminal
standing part.EventUnary k = k
standing part.SuchThat k = k
standing part.By k = k
standing other k = named k

-- what follows the token at a part
abbrev pub after : Part → Terminal → Option (List Item)
after p k = row_of p (standing p k)

-- the parts that may be left out, and what is made of one that is
unfoldable pub skipped : Part → Option Action
skipped part.Inners = Some action.Nothing
skipped part.Else = Some action.Absent
skipped part.Parent = Some action.NoParent
skipped part.Members = Some action.Nothing
skipped part.Additions = Some action.Nothing
skipped part.Initial = Some action.NotInitial
skipped part.Lasting = Some action.Once
skipped part.Scope = Some action.Committed
skipped part.Mode = Some action.Immediate
skipped part.SecondRange = Some action.Nothing
skipped part.ThirdRange = Some action.Nothing
skipped part.FourthRange = Some action.Nothing
skipped part.SuchThat = Some action.Nothing
skipped part.By = Some action.Nothing
skipped part.MoreExprs = Some action.Nothing
skipped part.EventAnds = Some action.Nothing
skipped part.EventOrs = Some action.Nothing
skipped part.Mask = Some action.Unmasked
skipped part.EventMask = Some action.Nothing
skipped part.Dots = Some action.Nothing
skipped part.Factors = Some action.Nothing
skipped part.Sums = Some action.Nothing
skipped part.Compare = Some action.Nothing
skipped part.Ands = Some action.Nothing
skipped part.Ors = Some action.Nothing
skipped other = None

-- what is read: an expression, an event expression, a class, a change of one, a query, a comparison of event expressions, or a statement
unfoldable pub items_of : Start → List Item
items_of start.Expr = A part.Expr ∷ []
items_of start.Event = event
items_of start.Class = A part.Class ∷ []
items_of start.Change = change
items_of start.Query = query
items_of start.Comparison = comparison
items_of start.Statement = A part.Statement ∷ []
