-- Any items can be completed.
use Rattle.std.proofs.Common.{List, [], ◌∷◌, ◌++◌, refl}
use Rattle.ode_grammar.specs.declared.terminal.Terminal.{Terminal}
use Rattle.ode_grammar.specs.declared.terminal.Terminal.TheVariants as terminal
use Rattle.ode_grammar.specs.declared.item.Part.{Part}
use Rattle.ode_grammar.specs.declared.item.Part.TheVariants as part
use Rattle.ode_grammar.specs.declared.item.Action.TheVariants as action
use Rattle.ode_grammar.specs.declared.item.Item.{Item}
use Rattle.ode_grammar.specs.declared.item.Item.TheVariants as item
use Rattle.ode_grammar.specs.Grammar.{row_of, skipped}
use Rattle.ode_grammar.specs.Texts.{plain, Derives, Done, Next, Make, Rule, Skip}
use Rattle.ode_grammar.proofs.TerminalLaws.{stands_for-itself}

-- a shortest text of each part
abbrev pub tokens_of : Part → List Terminal
tokens_of part.Statement = terminal.Semi ∷ []
tokens_of part.ClockText = terminal.Text ∷ []
tokens_of part.InnerName = terminal.OpenParen ∷ terminal.CloseParen ∷ terminal.Semi ∷ []
tokens_of part.ReturnValue = terminal.Semi ∷ []
tokens_of part.Chained = terminal.Name ∷ terminal.Dot ∷ terminal.Name ∷ terminal.OpenParen ∷ terminal.CloseParen ∷ []
tokens_of part.CallDot = terminal.OpenParen ∷ terminal.CloseParen ∷ []
tokens_of part.Sets = terminal.CloseParen ∷ []
tokens_of part.MoreSets = terminal.CloseParen ∷ []
tokens_of part.Rhs = terminal.Name ∷ terminal.Semi ∷ []
tokens_of part.ScriptRhs = terminal.Name ∷ terminal.Semi ∷ []
tokens_of part.RhsDots = terminal.Semi ∷ []
tokens_of part.RhsDot = terminal.Semi ∷ []
tokens_of part.RhsName = terminal.Semi ∷ []
tokens_of part.Class = terminal.Class ∷ terminal.Name ∷ terminal.OpenBrace ∷ terminal.CloseBrace ∷ []
tokens_of part.Literal = terminal.Leaf ∷ []
tokens_of part.Negative = terminal.Number ∷ []
tokens_of part.FieldOrMethod = terminal.Semi ∷ []
tokens_of part.MoreKinds = terminal.Semi ∷ []
tokens_of part.Sort = terminal.SortWord ∷ []
tokens_of part.Params = terminal.CloseParen ∷ []
tokens_of part.SecondParam = terminal.CloseParen ∷ []
tokens_of part.ThirdParam = terminal.CloseParen ∷ []
tokens_of part.FourthParam = terminal.CloseParen ∷ []
tokens_of part.FifthParam = terminal.CloseParen ∷ []
tokens_of part.SixthParam = terminal.CloseParen ∷ []
tokens_of part.SeventhParam = terminal.CloseParen ∷ []
tokens_of part.EighthParam = terminal.CloseParen ∷ []
tokens_of part.NinthParam = terminal.CloseParen ∷ []
tokens_of part.TenthParam = terminal.CloseParen ∷ []
tokens_of part.EleventhParam = terminal.CloseParen ∷ []
tokens_of part.TwelfthParam = terminal.CloseParen ∷ []
tokens_of part.ThirteenthParam = terminal.CloseParen ∷ []
tokens_of part.FourteenthParam = terminal.CloseParen ∷ []
tokens_of part.FifteenthParam = terminal.CloseParen ∷ []
tokens_of part.SixteenthParam = terminal.CloseParen ∷ []
tokens_of part.EventUnary = terminal.Any ∷ []
tokens_of part.MoreRelative = terminal.CloseParen ∷ []
tokens_of part.MorePrior = terminal.CloseParen ∷ []
tokens_of part.MoreSequence = terminal.CloseParen ∷ []
tokens_of part.Kind = terminal.After ∷ terminal.Name ∷ []
tokens_of part.AfterWhat = terminal.Name ∷ []
tokens_of part.BeforeWhat = terminal.Name ∷ []
tokens_of part.TimeWhat = terminal.At ∷ terminal.Instant ∷ []
tokens_of part.Period = terminal.Seconds ∷ []
tokens_of part.Expr = terminal.Name ∷ []
tokens_of part.Unary = terminal.Name ∷ []
tokens_of part.Args = terminal.CloseParen ∷ []
tokens_of part.MoreArgs = terminal.CloseParen ∷ []
tokens_of other = []

abbrev pub shortest : List Item → List Terminal
shortest [] = []
shortest (item.Token k ∷ items) = k ∷ shortest items
shortest (item.Build a ∷ items) = shortest items
shortest (item.Part p ∷ items) = tokens_of p ++ shortest items

-- these items derive these tokens
abbrev Gives : List Item → List Terminal → Type 0
Gives items ts = Derives plain items tt ts tt

statement_derives : {items : List Item} {ts : List Terminal} → Gives items ts → Gives (item.Part part.Statement ∷ items) (tokens_of part.Statement ++ ts)
unfolding row_of skipped
statement_derives d = Rule {t = terminal.Semi} part.Statement (item.Build action.Empty ∷ []) refl (Make action.Empty d)

clock_text_derives : {items : List Item} {ts : List Terminal} → Gives items ts → Gives (item.Part part.ClockText ∷ items) (tokens_of part.ClockText ++ ts)
unfolding row_of skipped
clock_text_derives d = Rule {t = terminal.Text} part.ClockText ([]) refl d

args_derives : {items : List Item} {ts : List Terminal} → Gives items ts → Gives (item.Part part.Args ∷ items) (tokens_of part.Args ++ ts)
unfolding row_of skipped
args_derives d = Rule {t = terminal.CloseParen} part.Args ([]) refl d

inner_name_derives : {items : List Item} {ts : List Terminal} → Gives items ts → Gives (item.Part part.InnerName ∷ items) (tokens_of part.InnerName ++ ts)
unfolding row_of skipped
inner_name_derives d = Rule {t = terminal.OpenParen} part.InnerName (item.Build action.Arguments ∷ item.Part part.Args ∷ item.Build action.OwnCall ∷ item.Token terminal.Semi ∷ item.Build action.Do ∷ []) refl (Make action.Arguments (args_derives (Make action.OwnCall (Next terminal.Semi refl (Make action.Do d)))))

return_value_derives : {items : List Item} {ts : List Terminal} → Gives items ts → Gives (item.Part part.ReturnValue ∷ items) (tokens_of part.ReturnValue ++ ts)
unfolding row_of skipped
return_value_derives d = Rule {t = terminal.Semi} part.ReturnValue (item.Build action.ReturnNothing ∷ []) refl (Make action.ReturnNothing d)

call_dot_derives : {items : List Item} {ts : List Terminal} → Gives items ts → Gives (item.Part part.CallDot ∷ items) (tokens_of part.CallDot ++ ts)
unfolding row_of skipped
call_dot_derives d = Rule {t = terminal.OpenParen} part.CallDot (item.Build action.Arguments ∷ item.Part part.Args ∷ []) refl (Make action.Arguments (args_derives d))

chained_derives : {items : List Item} {ts : List Terminal} → Gives items ts → Gives (item.Part part.Chained ∷ items) (tokens_of part.Chained ++ ts)
unfolding row_of skipped
chained_derives d = Rule {t = terminal.Name} part.Chained (item.Build action.Variable ∷ item.Token terminal.Dot ∷ item.Token terminal.Name ∷ item.Part part.CallDot ∷ []) refl (Make action.Variable (Next terminal.Dot refl (Next terminal.Name refl (call_dot_derives d))))

sets_derives : {items : List Item} {ts : List Terminal} → Gives items ts → Gives (item.Part part.Sets ∷ items) (tokens_of part.Sets ++ ts)
unfolding row_of skipped
sets_derives d = Rule {t = terminal.CloseParen} part.Sets ([]) refl d

more_sets_derives : {items : List Item} {ts : List Terminal} → Gives items ts → Gives (item.Part part.MoreSets ∷ items) (tokens_of part.MoreSets ++ ts)
unfolding row_of skipped
more_sets_derives d = Rule {t = terminal.CloseParen} part.MoreSets ([]) refl d

rhs_name_derives : {items : List Item} {ts : List Terminal} → Gives items ts → Gives (item.Part part.RhsName ∷ items) (tokens_of part.RhsName ++ ts)
unfolding row_of skipped
rhs_name_derives d = Rule {t = terminal.Semi} part.RhsName (item.Build action.Variable ∷ item.Build action.Plain ∷ []) refl (Make action.Variable (Make action.Plain d))

rhs_derives : {items : List Item} {ts : List Terminal} → Gives items ts → Gives (item.Part part.Rhs ∷ items) (tokens_of part.Rhs ++ ts)
unfolding row_of skipped
rhs_derives d = Rule {t = terminal.Name} part.Rhs (item.Part part.RhsName ∷ []) refl (rhs_name_derives d)

rhs_dots_derives : {items : List Item} {ts : List Terminal} → Gives items ts → Gives (item.Part part.RhsDots ∷ items) (tokens_of part.RhsDots ++ ts)
unfolding row_of skipped
rhs_dots_derives d = Rule {t = terminal.Semi} part.RhsDots (item.Build action.Plain ∷ []) refl (Make action.Plain d)

script_rhs_derives : {items : List Item} {ts : List Terminal} → Gives items ts → Gives (item.Part part.ScriptRhs ∷ items) (tokens_of part.ScriptRhs ++ ts)
unfolding row_of skipped
script_rhs_derives d = Rule {t = terminal.Name} part.ScriptRhs (item.Build action.Variable ∷ item.Part part.RhsDots ∷ []) refl (Make action.Variable (rhs_dots_derives d))

rhs_dot_derives : {items : List Item} {ts : List Terminal} → Gives items ts → Gives (item.Part part.RhsDot ∷ items) (tokens_of part.RhsDot ++ ts)
unfolding row_of skipped
rhs_dot_derives d = Rule {t = terminal.Semi} part.RhsDot (item.Build action.Field ∷ item.Build action.Plain ∷ []) refl (Make action.Field (Make action.Plain d))

class_derives : {items : List Item} {ts : List Terminal} → Gives items ts → Gives (item.Part part.Class ∷ items) (tokens_of part.Class ++ ts)
unfolding row_of skipped
class_derives d = Rule {t = terminal.Class} part.Class (item.Token terminal.Name ∷ item.Part part.Parent ∷ item.Token terminal.OpenBrace ∷ item.Build action.Members ∷ item.Part part.Members ∷ item.Token terminal.CloseBrace ∷ item.Build action.Class ∷ []) refl (Next terminal.Name refl (Skip part.Parent action.NoParent refl (Next terminal.OpenBrace refl (Make action.Members (Skip part.Members action.Nothing refl (Next terminal.CloseBrace refl (Make action.Class d)))))))

literal_derives : {items : List Item} {ts : List Terminal} → Gives items ts → Gives (item.Part part.Literal ∷ items) (tokens_of part.Literal ++ ts)
unfolding row_of skipped
literal_derives d = Rule {t = terminal.Leaf} part.Literal ([]) refl d

negative_derives : {items : List Item} {ts : List Terminal} → Gives items ts → Gives (item.Part part.Negative ∷ items) (tokens_of part.Negative ++ ts)
unfolding row_of skipped
negative_derives d = Rule {t = terminal.Number} part.Negative (item.Build action.Negative ∷ []) refl (Make action.Negative d)

field_or_method_derives : {items : List Item} {ts : List Terminal} → Gives items ts → Gives (item.Part part.FieldOrMethod ∷ items) (tokens_of part.FieldOrMethod ++ ts)
unfolding row_of skipped
field_or_method_derives d = Rule {t = terminal.Semi} part.FieldOrMethod (item.Build action.FieldMember ∷ []) refl (Make action.FieldMember d)

more_kinds_derives : {items : List Item} {ts : List Terminal} → Gives items ts → Gives (item.Part part.MoreKinds ∷ items) (tokens_of part.MoreKinds ++ ts)
unfolding row_of skipped
more_kinds_derives d = Rule {t = terminal.Semi} part.MoreKinds ([]) refl d

sort_derives : {items : List Item} {ts : List Terminal} → Gives items ts → Gives (item.Part part.Sort ∷ items) (tokens_of part.Sort ++ ts)
unfolding row_of skipped
sort_derives d = Rule {t = terminal.SortWord} part.Sort (item.Build action.Sort ∷ []) refl (Make action.Sort d)

params_derives : {items : List Item} {ts : List Terminal} → Gives items ts → Gives (item.Part part.Params ∷ items) (tokens_of part.Params ++ ts)
unfolding row_of skipped
params_derives d = Rule {t = terminal.CloseParen} part.Params ([]) refl d

second_param_derives : {items : List Item} {ts : List Terminal} → Gives items ts → Gives (item.Part part.SecondParam ∷ items) (tokens_of part.SecondParam ++ ts)
unfolding row_of skipped
second_param_derives d = Rule {t = terminal.CloseParen} part.SecondParam ([]) refl d

third_param_derives : {items : List Item} {ts : List Terminal} → Gives items ts → Gives (item.Part part.ThirdParam ∷ items) (tokens_of part.ThirdParam ++ ts)
unfolding row_of skipped
third_param_derives d = Rule {t = terminal.CloseParen} part.ThirdParam ([]) refl d

fourth_param_derives : {items : List Item} {ts : List Terminal} → Gives items ts → Gives (item.Part part.FourthParam ∷ items) (tokens_of part.FourthParam ++ ts)
unfolding row_of skipped
fourth_param_derives d = Rule {t = terminal.CloseParen} part.FourthParam ([]) refl d

fifth_param_derives : {items : List Item} {ts : List Terminal} → Gives items ts → Gives (item.Part part.FifthParam ∷ items) (tokens_of part.FifthParam ++ ts)
unfolding row_of skipped
fifth_param_derives d = Rule {t = terminal.CloseParen} part.FifthParam ([]) refl d

sixth_param_derives : {items : List Item} {ts : List Terminal} → Gives items ts → Gives (item.Part part.SixthParam ∷ items) (tokens_of part.SixthParam ++ ts)
unfolding row_of skipped
sixth_param_derives d = Rule {t = terminal.CloseParen} part.SixthParam ([]) refl d

seventh_param_derives : {items : List Item} {ts : List Terminal} → Gives items ts → Gives (item.Part part.SeventhParam ∷ items) (tokens_of part.SeventhParam ++ ts)
unfolding row_of skipped
seventh_param_derives d = Rule {t = terminal.CloseParen} part.SeventhParam ([]) refl d

eighth_param_derives : {items : List Item} {ts : List Terminal} → Gives items ts → Gives (item.Part part.EighthParam ∷ items) (tokens_of part.EighthParam ++ ts)
unfolding row_of skipped
eighth_param_derives d = Rule {t = terminal.CloseParen} part.EighthParam ([]) refl d

ninth_param_derives : {items : List Item} {ts : List Terminal} → Gives items ts → Gives (item.Part part.NinthParam ∷ items) (tokens_of part.NinthParam ++ ts)
unfolding row_of skipped
ninth_param_derives d = Rule {t = terminal.CloseParen} part.NinthParam ([]) refl d

tenth_param_derives : {items : List Item} {ts : List Terminal} → Gives items ts → Gives (item.Part part.TenthParam ∷ items) (tokens_of part.TenthParam ++ ts)
unfolding row_of skipped
tenth_param_derives d = Rule {t = terminal.CloseParen} part.TenthParam ([]) refl d

eleventh_param_derives : {items : List Item} {ts : List Terminal} → Gives items ts → Gives (item.Part part.EleventhParam ∷ items) (tokens_of part.EleventhParam ++ ts)
unfolding row_of skipped
eleventh_param_derives d = Rule {t = terminal.CloseParen} part.EleventhParam ([]) refl d

twelfth_param_derives : {items : List Item} {ts : List Terminal} → Gives items ts → Gives (item.Part part.TwelfthParam ∷ items) (tokens_of part.TwelfthParam ++ ts)
unfolding row_of skipped
twelfth_param_derives d = Rule {t = terminal.CloseParen} part.TwelfthParam ([]) refl d

thirteenth_param_derives : {items : List Item} {ts : List Terminal} → Gives items ts → Gives (item.Part part.ThirteenthParam ∷ items) (tokens_of part.ThirteenthParam ++ ts)
unfolding row_of skipped
thirteenth_param_derives d = Rule {t = terminal.CloseParen} part.ThirteenthParam ([]) refl d

fourteenth_param_derives : {items : List Item} {ts : List Terminal} → Gives items ts → Gives (item.Part part.FourteenthParam ∷ items) (tokens_of part.FourteenthParam ++ ts)
unfolding row_of skipped
fourteenth_param_derives d = Rule {t = terminal.CloseParen} part.FourteenthParam ([]) refl d

fifteenth_param_derives : {items : List Item} {ts : List Terminal} → Gives items ts → Gives (item.Part part.FifteenthParam ∷ items) (tokens_of part.FifteenthParam ++ ts)
unfolding row_of skipped
fifteenth_param_derives d = Rule {t = terminal.CloseParen} part.FifteenthParam ([]) refl d

sixteenth_param_derives : {items : List Item} {ts : List Terminal} → Gives items ts → Gives (item.Part part.SixteenthParam ∷ items) (tokens_of part.SixteenthParam ++ ts)
unfolding row_of skipped
sixteenth_param_derives d = Rule {t = terminal.CloseParen} part.SixteenthParam ([]) refl d

event_unary_derives : {items : List Item} {ts : List Terminal} → Gives items ts → Gives (item.Part part.EventUnary ∷ items) (tokens_of part.EventUnary ++ ts)
unfolding row_of skipped
event_unary_derives d = Rule {t = terminal.Any} part.EventUnary (item.Build action.Any ∷ []) refl (Make action.Any d)

more_relative_derives : {items : List Item} {ts : List Terminal} → Gives items ts → Gives (item.Part part.MoreRelative ∷ items) (tokens_of part.MoreRelative ++ ts)
unfolding row_of skipped
more_relative_derives d = Rule {t = terminal.CloseParen} part.MoreRelative ([]) refl d

more_prior_derives : {items : List Item} {ts : List Terminal} → Gives items ts → Gives (item.Part part.MorePrior ∷ items) (tokens_of part.MorePrior ++ ts)
unfolding row_of skipped
more_prior_derives d = Rule {t = terminal.CloseParen} part.MorePrior ([]) refl d

more_sequence_derives : {items : List Item} {ts : List Terminal} → Gives items ts → Gives (item.Part part.MoreSequence ∷ items) (tokens_of part.MoreSequence ++ ts)
unfolding row_of skipped
more_sequence_derives d = Rule {t = terminal.CloseParen} part.MoreSequence ([]) refl d

after_what_derives : {items : List Item} {ts : List Terminal} → Gives items ts → Gives (item.Part part.AfterWhat ∷ items) (tokens_of part.AfterWhat ++ ts)
unfolding row_of skipped
after_what_derives d = Rule {t = terminal.Name} part.AfterWhat (item.Build action.AfterMethod ∷ []) refl (Make action.AfterMethod d)

kind_derives : {items : List Item} {ts : List Terminal} → Gives items ts → Gives (item.Part part.Kind ∷ items) (tokens_of part.Kind ++ ts)
unfolding row_of skipped
kind_derives d = Rule {t = terminal.After} part.Kind (item.Part part.AfterWhat ∷ []) refl (after_what_derives d)

before_what_derives : {items : List Item} {ts : List Terminal} → Gives items ts → Gives (item.Part part.BeforeWhat ∷ items) (tokens_of part.BeforeWhat ++ ts)
unfolding row_of skipped
before_what_derives d = Rule {t = terminal.Name} part.BeforeWhat (item.Build action.BeforeMethod ∷ []) refl (Make action.BeforeMethod d)

time_what_derives : {items : List Item} {ts : List Terminal} → Gives items ts → Gives (item.Part part.TimeWhat ∷ items) (tokens_of part.TimeWhat ++ ts)
unfolding row_of skipped
time_what_derives d = Rule {t = terminal.At} part.TimeWhat (item.Token terminal.Instant ∷ item.Build action.TimeAt ∷ []) refl (Next terminal.Instant refl (Make action.TimeAt d))

period_derives : {items : List Item} {ts : List Terminal} → Gives items ts → Gives (item.Part part.Period ∷ items) (tokens_of part.Period ++ ts)
unfolding row_of skipped
period_derives d = Rule {t = terminal.Seconds} part.Period (item.Build action.TimeEvery ∷ []) refl (Make action.TimeEvery d)

expr_derives : {items : List Item} {ts : List Terminal} → Gives items ts → Gives (item.Part part.Expr ∷ items) (tokens_of part.Expr ++ ts)
unfolding row_of skipped
expr_derives d = Rule {t = terminal.Name} part.Expr (item.Build action.Variable ∷ item.Part part.Dots ∷ item.Part part.Factors ∷ item.Part part.Sums ∷ item.Part part.Compare ∷ item.Part part.Ands ∷ item.Part part.Ors ∷ []) refl (Make action.Variable (Skip part.Dots action.Nothing refl (Skip part.Factors action.Nothing refl (Skip part.Sums action.Nothing refl (Skip part.Compare action.Nothing refl (Skip part.Ands action.Nothing refl (Skip part.Ors action.Nothing refl d)))))))

unary_derives : {items : List Item} {ts : List Terminal} → Gives items ts → Gives (item.Part part.Unary ∷ items) (tokens_of part.Unary ++ ts)
unfolding row_of skipped
unary_derives d = Rule {t = terminal.Name} part.Unary (item.Build action.Variable ∷ item.Part part.Dots ∷ []) refl (Make action.Variable (Skip part.Dots action.Nothing refl d))

more_args_derives : {items : List Item} {ts : List Terminal} → Gives items ts → Gives (item.Part part.MoreArgs ∷ items) (tokens_of part.MoreArgs ++ ts)
unfolding row_of skipped
more_args_derives d = Rule {t = terminal.CloseParen} part.MoreArgs ([]) refl d

part_derives : (p : Part) {items : List Item} {ts : List Terminal} → Gives items ts → Gives (item.Part p ∷ items) (tokens_of p ++ ts)
unfolding skipped
part_derives part.Statement d = statement_derives d
part_derives part.ClockText d = clock_text_derives d
part_derives part.Inners d = Skip part.Inners action.Nothing refl d
part_derives part.InnerName d = inner_name_derives d
part_derives part.ReturnValue d = return_value_derives d
part_derives part.Else d = Skip part.Else action.Absent refl d
part_derives part.Chained d = chained_derives d
part_derives part.CallDot d = call_dot_derives d
part_derives part.Sets d = sets_derives d
part_derives part.MoreSets d = more_sets_derives d
part_derives part.Rhs d = rhs_derives d
part_derives part.ScriptRhs d = script_rhs_derives d
part_derives part.RhsDots d = rhs_dots_derives d
part_derives part.RhsDot d = rhs_dot_derives d
part_derives part.RhsName d = rhs_name_derives d
part_derives part.Class d = class_derives d
part_derives part.Additions d = Skip part.Additions action.Nothing refl d
part_derives part.Literal d = literal_derives d
part_derives part.Negative d = negative_derives d
part_derives part.Parent d = Skip part.Parent action.NoParent refl d
part_derives part.Members d = Skip part.Members action.Nothing refl d
part_derives part.FieldOrMethod d = field_or_method_derives d
part_derives part.MoreKinds d = more_kinds_derives d
part_derives part.Initial d = Skip part.Initial action.NotInitial refl d
part_derives part.Lasting d = Skip part.Lasting action.Once refl d
part_derives part.Scope d = Skip part.Scope action.Committed refl d
part_derives part.Mode d = Skip part.Mode action.Immediate refl d
part_derives part.Sort d = sort_derives d
part_derives part.Params d = params_derives d
part_derives part.SecondParam d = second_param_derives d
part_derives part.ThirdParam d = third_param_derives d
part_derives part.FourthParam d = fourth_param_derives d
part_derives part.FifthParam d = fifth_param_derives d
part_derives part.SixthParam d = sixth_param_derives d
part_derives part.SeventhParam d = seventh_param_derives d
part_derives part.EighthParam d = eighth_param_derives d
part_derives part.NinthParam d = ninth_param_derives d
part_derives part.TenthParam d = tenth_param_derives d
part_derives part.EleventhParam d = eleventh_param_derives d
part_derives part.TwelfthParam d = twelfth_param_derives d
part_derives part.ThirteenthParam d = thirteenth_param_derives d
part_derives part.FourteenthParam d = fourteenth_param_derives d
part_derives part.FifteenthParam d = fifteenth_param_derives d
part_derives part.SixteenthParam d = sixteenth_param_derives d
part_derives part.SecondRange d = Skip part.SecondRange action.Nothing refl d
part_derives part.ThirdRange d = Skip part.ThirdRange action.Nothing refl d
part_derives part.FourthRange d = Skip part.FourthRange action.Nothing refl d
part_derives part.SuchThat d = Skip part.SuchThat action.Nothing refl d
part_derives part.By d = Skip part.By action.Nothing refl d
part_derives part.MoreExprs d = Skip part.MoreExprs action.Nothing refl d
part_derives part.EventUnary d = event_unary_derives d
part_derives part.EventAnds d = Skip part.EventAnds action.Nothing refl d
part_derives part.EventOrs d = Skip part.EventOrs action.Nothing refl d
part_derives part.MoreRelative d = more_relative_derives d
part_derives part.MorePrior d = more_prior_derives d
part_derives part.MoreSequence d = more_sequence_derives d
part_derives part.Mask d = Skip part.Mask action.Unmasked refl d
part_derives part.EventMask d = Skip part.EventMask action.Nothing refl d
part_derives part.Kind d = kind_derives d
part_derives part.AfterWhat d = after_what_derives d
part_derives part.BeforeWhat d = before_what_derives d
part_derives part.TimeWhat d = time_what_derives d
part_derives part.Period d = period_derives d
part_derives part.Expr d = expr_derives d
part_derives part.Unary d = unary_derives d
part_derives part.Dots d = Skip part.Dots action.Nothing refl d
part_derives part.Factors d = Skip part.Factors action.Nothing refl d
part_derives part.Sums d = Skip part.Sums action.Nothing refl d
part_derives part.Compare d = Skip part.Compare action.Nothing refl d
part_derives part.Ands d = Skip part.Ands action.Nothing refl d
part_derives part.Ors d = Skip part.Ors action.Nothing refl d
part_derives part.Args d = args_derives d
part_derives part.MoreArgs d = more_args_derives d

pub least_derives : (items : List Item) → Gives items (shortest items)
least_derives [] = Done
least_derives (item.Token k ∷ items) = Next k (stands_for-itself k) (least_derives items)
least_derives (item.Build a ∷ items) = Make a (least_derives items)
least_derives (item.Part p ∷ items) = part_derives p (least_derives items)
