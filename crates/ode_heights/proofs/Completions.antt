-- Any items can be completed by a text of their least height.
use Rattle.std.proofs.Common.{List, [], ◌∷◌, ◌++◌, refl}
use Rattle.ode_grammar.specs.declared.terminal.Terminal.{Terminal}
use Rattle.ode_grammar.specs.declared.terminal.Terminal.TheVariants as terminal
use Rattle.ode_grammar.specs.declared.item.Part.{Part}
use Rattle.ode_grammar.specs.declared.item.Part.TheVariants as part
use Rattle.ode_grammar.specs.declared.item.Action.TheVariants as action
use Rattle.ode_grammar.specs.declared.item.Item.{Item}
use Rattle.ode_grammar.specs.declared.item.Item.TheVariants as item
use Rattle.ode_grammar.specs.Grammar.{row_of, skipped}
use Rattle.ode_grammar.specs.Texts.{Derives, Done, Next, Make, Rule, Skip}
use Rattle.ode_grammar.proofs.TerminalLaws.{stands_for-itself}
use Rattle.ode_heights.specs.declared.height.Heights.{Heights}
use Rattle.ode_heights.specs.Heights.{heights, raised, risen}
use Rattle.ode_heights.specs.Lowest.{low_of, lowest}

-- a least high text of each part
abbrev pub tokens_of : Part → List Terminal
tokens_of part.Statement = terminal.Semi ∷ []
tokens_of part.ClockText = terminal.Text ∷ []
tokens_of part.InnerName = terminal.OpenParen ∷ terminal.CloseParen ∷ terminal.Semi ∷ []
tokens_of part.ReturnValue = terminal.Semi ∷ []
tokens_of part.Chained = terminal.Name ∷ terminal.Dot ∷ terminal.Name ∷ terminal.OpenParen ∷ terminal.CloseParen ∷ []
tokens_of part.CallDot = terminal.OpenParen ∷ terminal.CloseParen ∷ []
tokens_of part.Sets = terminal.CloseParen ∷ []
tokens_of part.MoreSets = terminal.CloseParen ∷ []
tokens_of part.Rhs = terminal.Name ∷ terminal.OpenParen ∷ terminal.CloseParen ∷ terminal.Semi ∷ []
tokens_of part.ScriptRhs = terminal.PNew ∷ terminal.Name ∷ terminal.OpenParen ∷ terminal.CloseParen ∷ terminal.Semi ∷ []
tokens_of part.RhsDots = terminal.Semi ∷ []
tokens_of part.RhsDot = terminal.Semi ∷ []
tokens_of part.RhsName = terminal.OpenParen ∷ terminal.CloseParen ∷ terminal.Semi ∷ []
tokens_of part.Class = terminal.Class ∷ terminal.Name ∷ terminal.OpenBrace ∷ terminal.CloseBrace ∷ []
tokens_of part.Literal = terminal.Leaf ∷ []
tokens_of part.Negative = terminal.Number ∷ []
tokens_of part.FieldOrMethod = terminal.Semi ∷ []
tokens_of part.MoreKinds = terminal.Semi ∷ []
tokens_of part.Sort = terminal.SortWord ∷ []
tokens_of part.Params = terminal.CloseParen ∷ []
tokens_of part.SecondParam = terminal.CloseParen ∷ []
tokens_of part.ThirdParam = terminal.CloseParen ∷ []
tokens_of part.FourthParam = terminal.CloseParen ∷ []
tokens_of part.FifthParam = terminal.CloseParen ∷ []
tokens_of part.SixthParam = terminal.CloseParen ∷ []
tokens_of part.SeventhParam = terminal.CloseParen ∷ []
tokens_of part.EighthParam = terminal.CloseParen ∷ []
tokens_of part.NinthParam = terminal.CloseParen ∷ []
tokens_of part.TenthParam = terminal.CloseParen ∷ []
tokens_of part.EleventhParam = terminal.CloseParen ∷ []
tokens_of part.TwelfthParam = terminal.CloseParen ∷ []
tokens_of part.ThirteenthParam = terminal.CloseParen ∷ []
tokens_of part.FourteenthParam = terminal.CloseParen ∷ []
tokens_of part.FifteenthParam = terminal.CloseParen ∷ []
tokens_of part.SixteenthParam = terminal.CloseParen ∷ []
tokens_of part.EventUnary = terminal.Any ∷ []
tokens_of part.MoreRelative = terminal.CloseParen ∷ []
tokens_of part.MorePrior = terminal.CloseParen ∷ []
tokens_of part.MoreSequence = terminal.CloseParen ∷ []
tokens_of part.Kind = terminal.After ∷ terminal.Name ∷ []
tokens_of part.AfterWhat = terminal.Name ∷ []
tokens_of part.BeforeWhat = terminal.Name ∷ []
tokens_of part.TimeWhat = terminal.At ∷ terminal.Instant ∷ []
tokens_of part.Period = terminal.Seconds ∷ []
tokens_of part.Expr = terminal.Name ∷ []
tokens_of part.Unary = terminal.Name ∷ []
tokens_of part.Args = terminal.CloseParen ∷ []
tokens_of part.MoreArgs = terminal.CloseParen ∷ []
tokens_of other = []

abbrev pub shortest : List Item → List Terminal
shortest [] = []
shortest (item.Token k ∷ items) = k ∷ shortest items
shortest (item.Build a ∷ items) = shortest items
shortest (item.Part p ∷ items) = tokens_of p ++ shortest items

statement_derives : {items : List Item} {m : Heights} {ts : List Terminal} {out : Heights}
    → Derives heights items (low_of part.Statement m) ts out → Derives heights (item.Part part.Statement ∷ items) m (tokens_of part.Statement ++ ts) out
unfolding row_of skipped raised
statement_derives d = Rule {t = terminal.Semi} part.Statement (item.Build action.Empty ∷ []) refl (Make action.Empty d)

clock_text_derives : {items : List Item} {m : Heights} {ts : List Terminal} {out : Heights}
    → Derives heights items (low_of part.ClockText m) ts out → Derives heights (item.Part part.ClockText ∷ items) m (tokens_of part.ClockText ++ ts) out
unfolding row_of skipped raised
clock_text_derives d = Rule {t = terminal.Text} part.ClockText ([]) refl d

args_derives : {items : List Item} {m : Heights} {ts : List Terminal} {out : Heights}
    → Derives heights items (low_of part.Args m) ts out → Derives heights (item.Part part.Args ∷ items) m (tokens_of part.Args ++ ts) out
unfolding row_of skipped raised
args_derives d = Rule {t = terminal.CloseParen} part.Args ([]) refl d

inner_name_derives : {items : List Item} {m : Heights} {ts : List Terminal} {out : Heights}
    → Derives heights items (low_of part.InnerName m) ts out → Derives heights (item.Part part.InnerName ∷ items) m (tokens_of part.InnerName ++ ts) out
unfolding row_of skipped raised
inner_name_derives d = Rule {t = terminal.OpenParen} part.InnerName (item.Build action.Arguments ∷ item.Part part.Args ∷ item.Build action.OwnCall ∷ item.Token terminal.Semi ∷ item.Build action.Do ∷ []) refl (Make action.Arguments (args_derives (Make action.OwnCall (Next terminal.Semi refl (Make action.Do d)))))

return_value_derives : {items : List Item} {m : Heights} {ts : List Terminal} {out : Heights}
    → Derives heights items (low_of part.ReturnValue m) ts out → Derives heights (item.Part part.ReturnValue ∷ items) m (tokens_of part.ReturnValue ++ ts) out
unfolding row_of skipped raised
return_value_derives d = Rule {t = terminal.Semi} part.ReturnValue (item.Build action.ReturnNothing ∷ []) refl (Make action.ReturnNothing d)

call_dot_derives : {items : List Item} {m : Heights} {ts : List Terminal} {out : Heights}
    → Derives heights items (low_of part.CallDot m) ts out → Derives heights (item.Part part.CallDot ∷ items) m (tokens_of part.CallDot ++ ts) out
unfolding row_of skipped raised
call_dot_derives d = Rule {t = terminal.OpenParen} part.CallDot (item.Build action.Arguments ∷ item.Part part.Args ∷ []) refl (Make action.Arguments (args_derives d))

chained_derives : {items : List Item} {m : Heights} {ts : List Terminal} {out : Heights}
    → Derives heights items (low_of part.Chained m) ts out → Derives heights (item.Part part.Chained ∷ items) m (tokens_of part.Chained ++ ts) out
unfolding row_of skipped raised
chained_derives d = Rule {t = terminal.Name} part.Chained (item.Build action.Variable ∷ item.Token terminal.Dot ∷ item.Token terminal.Name ∷ item.Part part.CallDot ∷ []) refl (Make action.Variable (Next terminal.Dot refl (Next terminal.Name refl (call_dot_derives d))))

sets_derives : {items : List Item} {m : Heights} {ts : List Terminal} {out : Heights}
    → Derives heights items (low_of part.Sets m) ts out → Derives heights (item.Part part.Sets ∷ items) m (tokens_of part.Sets ++ ts) out
unfolding row_of skipped raised
sets_derives d = Rule {t = terminal.CloseParen} part.Sets ([]) refl d

more_sets_derives : {items : List Item} {m : Heights} {ts : List Terminal} {out : Heights}
    → Derives heights items (low_of part.MoreSets m) ts out → Derives heights (item.Part part.MoreSets ∷ items) m (tokens_of part.MoreSets ++ ts) out
unfolding row_of skipped raised
more_sets_derives d = Rule {t = terminal.CloseParen} part.MoreSets ([]) refl d

rhs_name_derives : {items : List Item} {m : Heights} {ts : List Terminal} {out : Heights}
    → Derives heights items (low_of part.RhsName m) ts out → Derives heights (item.Part part.RhsName ∷ items) m (tokens_of part.RhsName ++ ts) out
unfolding row_of skipped raised
rhs_name_derives d = Rule {t = terminal.OpenParen} part.RhsName (item.Build action.Arguments ∷ item.Part part.Args ∷ item.Build action.OwnCall ∷ item.Token terminal.Semi ∷ []) refl (Make action.Arguments (args_derives (Make action.OwnCall (Next terminal.Semi refl d))))

rhs_derives : {items : List Item} {m : Heights} {ts : List Terminal} {out : Heights}
    → Derives heights items (low_of part.Rhs m) ts out → Derives heights (item.Part part.Rhs ∷ items) m (tokens_of part.Rhs ++ ts) out
unfolding row_of skipped raised
rhs_derives d = Rule {t = terminal.Name} part.Rhs (item.Part part.RhsName ∷ []) refl (rhs_name_derives d)

script_rhs_derives : {items : List Item} {m : Heights} {ts : List Terminal} {out : Heights}
    → Derives heights items (low_of part.ScriptRhs m) ts out → Derives heights (item.Part part.ScriptRhs ∷ items) m (tokens_of part.ScriptRhs ++ ts) out
unfolding row_of skipped raised
script_rhs_derives d = Rule {t = terminal.PNew} part.ScriptRhs (item.Token terminal.Name ∷ item.Token terminal.OpenParen ∷ item.Build action.Sets ∷ item.Part part.Sets ∷ item.Build action.New ∷ item.Token terminal.Semi ∷ []) refl (Next terminal.Name refl (Next terminal.OpenParen refl (Make action.Sets (sets_derives (Make action.New (Next terminal.Semi refl d))))))

rhs_dots_derives : {items : List Item} {m : Heights} {ts : List Terminal} {out : Heights}
    → Derives heights items (low_of part.RhsDots m) ts out → Derives heights (item.Part part.RhsDots ∷ items) m (tokens_of part.RhsDots ++ ts) out
unfolding row_of skipped raised
rhs_dots_derives d = Rule {t = terminal.Semi} part.RhsDots (item.Build action.Plain ∷ []) refl (Make action.Plain d)

rhs_dot_derives : {items : List Item} {m : Heights} {ts : List Terminal} {out : Heights}
    → Derives heights items (low_of part.RhsDot m) ts out → Derives heights (item.Part part.RhsDot ∷ items) m (tokens_of part.RhsDot ++ ts) out
unfolding row_of skipped raised
rhs_dot_derives d = Rule {t = terminal.Semi} part.RhsDot (item.Build action.Field ∷ item.Build action.Plain ∷ []) refl (Make action.Field (Make action.Plain d))

class_derives : {items : List Item} {m : Heights} {ts : List Terminal} {out : Heights}
    → Derives heights items (low_of part.Class m) ts out → Derives heights (item.Part part.Class ∷ items) m (tokens_of part.Class ++ ts) out
unfolding row_of skipped raised
class_derives d = Rule {t = terminal.Class} part.Class (item.Token terminal.Name ∷ item.Part part.Parent ∷ item.Token terminal.OpenBrace ∷ item.Build action.Members ∷ item.Part part.Members ∷ item.Token terminal.CloseBrace ∷ item.Build action.Class ∷ []) refl (Next terminal.Name refl (Skip part.Parent action.NoParent refl (Next terminal.OpenBrace refl (Make action.Members (Skip part.Members action.Nothing refl (Next terminal.CloseBrace refl (Make action.Class d)))))))

literal_derives : {items : List Item} {m : Heights} {ts : List Terminal} {out : Heights}
    → Derives heights items (low_of part.Literal m) ts out → Derives heights (item.Part part.Literal ∷ items) m (tokens_of part.Literal ++ ts) out
unfolding row_of skipped raised
literal_derives d = Rule {t = terminal.Leaf} part.Literal ([]) refl d

negative_derives : {items : List Item} {m : Heights} {ts : List Terminal} {out : Heights}
    → Derives heights items (low_of part.Negative m) ts out → Derives heights (item.Part part.Negative ∷ items) m (tokens_of part.Negative ++ ts) out
unfolding row_of skipped raised
negative_derives d = Rule {t = terminal.Number} part.Negative (item.Build action.Negative ∷ []) refl (Make action.Negative d)

field_or_method_derives : {items : List Item} {m : Heights} {ts : List Terminal} {out : Heights}
    → Derives heights items (low_of part.FieldOrMethod m) ts out → Derives heights (item.Part part.FieldOrMethod ∷ items) m (tokens_of part.FieldOrMethod ++ ts) out
unfolding row_of skipped raised
field_or_method_derives d = Rule {t = terminal.Semi} part.FieldOrMethod (item.Build action.FieldMember ∷ []) refl (Make action.FieldMember d)

more_kinds_derives : {items : List Item} {m : Heights} {ts : List Terminal} {out : Heights}
    → Derives heights items (low_of part.MoreKinds m) ts out → Derives heights (item.Part part.MoreKinds ∷ items) m (tokens_of part.MoreKinds ++ ts) out
unfolding row_of skipped raised
more_kinds_derives d = Rule {t = terminal.Semi} part.MoreKinds ([]) refl d

sort_derives : {items : List Item} {m : Heights} {ts : List Terminal} {out : Heights}
    → Derives heights items (low_of part.Sort m) ts out → Derives heights (item.Part part.Sort ∷ items) m (tokens_of part.Sort ++ ts) out
unfolding row_of skipped raised
sort_derives d = Rule {t = terminal.SortWord} part.Sort (item.Build action.Sort ∷ []) refl (Make action.Sort d)

params_derives : {items : List Item} {m : Heights} {ts : List Terminal} {out : Heights}
    → Derives heights items (low_of part.Params m) ts out → Derives heights (item.Part part.Params ∷ items) m (tokens_of part.Params ++ ts) out
unfolding row_of skipped raised
params_derives d = Rule {t = terminal.CloseParen} part.Params ([]) refl d

second_param_derives : {items : List Item} {m : Heights} {ts : List Terminal} {out : Heights}
    → Derives heights items (low_of part.SecondParam m) ts out → Derives heights (item.Part part.SecondParam ∷ items) m (tokens_of part.SecondParam ++ ts) out
unfolding row_of skipped raised
second_param_derives d = Rule {t = terminal.CloseParen} part.SecondParam ([]) refl d

third_param_derives : {items : List Item} {m : Heights} {ts : List Terminal} {out : Heights}
    → Derives heights items (low_of part.ThirdParam m) ts out → Derives heights (item.Part part.ThirdParam ∷ items) m (tokens_of part.ThirdParam ++ ts) out
unfolding row_of skipped raised
third_param_derives d = Rule {t = terminal.CloseParen} part.ThirdParam ([]) refl d

fourth_param_derives : {items : List Item} {m : Heights} {ts : List Terminal} {out : Heights}
    → Derives heights items (low_of part.FourthParam m) ts out → Derives heights (item.Part part.FourthParam ∷ items) m (tokens_of part.FourthParam ++ ts) out
unfolding row_of skipped raised
fourth_param_derives d = Rule {t = terminal.CloseParen} part.FourthParam ([]) refl d

fifth_param_derives : {items : List Item} {m : Heights} {ts : List Terminal} {out : Heights}
    → Derives heights items (low_of part.FifthParam m) ts out → Derives heights (item.Part part.FifthParam ∷ items) m (tokens_of part.FifthParam ++ ts) out
unfolding row_of skipped raised
fifth_param_derives d = Rule {t = terminal.CloseParen} part.FifthParam ([]) refl d

sixth_param_derives : {items : List Item} {m : Heights} {ts : List Terminal} {out : Heights}
    → Derives heights items (low_of part.SixthParam m) ts out → Derives heights (item.Part part.SixthParam ∷ items) m (tokens_of part.SixthParam ++ ts) out
unfolding row_of skipped raised
sixth_param_derives d = Rule {t = terminal.CloseParen} part.SixthParam ([]) refl d

seventh_param_derives : {items : List Item} {m : Heights} {ts : List Terminal} {out : Heights}
    → Derives heights items (low_of part.SeventhParam m) ts out → Derives heights (item.Part part.SeventhParam ∷ items) m (tokens_of part.SeventhParam ++ ts) out
unfolding row_of skipped raised
seventh_param_derives d = Rule {t = terminal.CloseParen} part.SeventhParam ([]) refl d

eighth_param_derives : {items : List Item} {m : Heights} {ts : List Terminal} {out : Heights}
    → Derives heights items (low_of part.EighthParam m) ts out → Derives heights (item.Part part.EighthParam ∷ items) m (tokens_of part.EighthParam ++ ts) out
unfolding row_of skipped raised
eighth_param_derives d = Rule {t = terminal.CloseParen} part.EighthParam ([]) refl d

ninth_param_derives : {items : List Item} {m : Heights} {ts : List Terminal} {out : Heights}
    → Derives heights items (low_of part.NinthParam m) ts out → Derives heights (item.Part part.NinthParam ∷ items) m (tokens_of part.NinthParam ++ ts) out
unfolding row_of skipped raised
ninth_param_derives d = Rule {t = terminal.CloseParen} part.NinthParam ([]) refl d

tenth_param_derives : {items : List Item} {m : Heights} {ts : List Terminal} {out : Heights}
    → Derives heights items (low_of part.TenthParam m) ts out → Derives heights (item.Part part.TenthParam ∷ items) m (tokens_of part.TenthParam ++ ts) out
unfolding row_of skipped raised
tenth_param_derives d = Rule {t = terminal.CloseParen} part.TenthParam ([]) refl d

eleventh_param_derives : {items : List Item} {m : Heights} {ts : List Terminal} {out : Heights}
    → Derives heights items (low_of part.EleventhParam m) ts out → Derives heights (item.Part part.EleventhParam ∷ items) m (tokens_of part.EleventhParam ++ ts) out
unfolding row_of skipped raised
eleventh_param_derives d = Rule {t = terminal.CloseParen} part.EleventhParam ([]) refl d

twelfth_param_derives : {items : List Item} {m : Heights} {ts : List Terminal} {out : Heights}
    → Derives heights items (low_of part.TwelfthParam m) ts out → Derives heights (item.Part part.TwelfthParam ∷ items) m (tokens_of part.TwelfthParam ++ ts) out
unfolding row_of skipped raised
twelfth_param_derives d = Rule {t = terminal.CloseParen} part.TwelfthParam ([]) refl d

thirteenth_param_derives : {items : List Item} {m : Heights} {ts : List Terminal} {out : Heights}
    → Derives heights items (low_of part.ThirteenthParam m) ts out → Derives heights (item.Part part.ThirteenthParam ∷ items) m (tokens_of part.ThirteenthParam ++ ts) out
unfolding row_of skipped raised
thirteenth_param_derives d = Rule {t = terminal.CloseParen} part.ThirteenthParam ([]) refl d

fourteenth_param_derives : {items : List Item} {m : Heights} {ts : List Terminal} {out : Heights}
    → Derives heights items (low_of part.FourteenthParam m) ts out → Derives heights (item.Part part.FourteenthParam ∷ items) m (tokens_of part.FourteenthParam ++ ts) out
unfolding row_of skipped raised
fourteenth_param_derives d = Rule {t = terminal.CloseParen} part.FourteenthParam ([]) refl d

fifteenth_param_derives : {items : List Item} {m : Heights} {ts : List Terminal} {out : Heights}
    → Derives heights items (low_of part.FifteenthParam m) ts out → Derives heights (item.Part part.FifteenthParam ∷ items) m (tokens_of part.FifteenthParam ++ ts) out
unfolding row_of skipped raised
fifteenth_param_derives d = Rule {t = terminal.CloseParen} part.FifteenthParam ([]) refl d

sixteenth_param_derives : {items : List Item} {m : Heights} {ts : List Terminal} {out : Heights}
    → Derives heights items (low_of part.SixteenthParam m) ts out → Derives heights (item.Part part.SixteenthParam ∷ items) m (tokens_of part.SixteenthParam ++ ts) out
unfolding row_of skipped raised
sixteenth_param_derives d = Rule {t = terminal.CloseParen} part.SixteenthParam ([]) refl d

event_unary_derives : {items : List Item} {m : Heights} {ts : List Terminal} {out : Heights}
    → Derives heights items (low_of part.EventUnary m) ts out → Derives heights (item.Part part.EventUnary ∷ items) m (tokens_of part.EventUnary ++ ts) out
unfolding row_of skipped raised
event_unary_derives d = Rule {t = terminal.Any} part.EventUnary (item.Build action.Any ∷ []) refl (Make action.Any d)

more_relative_derives : {items : List Item} {m : Heights} {ts : List Terminal} {out : Heights}
    → Derives heights items (low_of part.MoreRelative m) ts out → Derives heights (item.Part part.MoreRelative ∷ items) m (tokens_of part.MoreRelative ++ ts) out
unfolding row_of skipped raised
more_relative_derives d = Rule {t = terminal.CloseParen} part.MoreRelative ([]) refl d

more_prior_derives : {items : List Item} {m : Heights} {ts : List Terminal} {out : Heights}
    → Derives heights items (low_of part.MorePrior m) ts out → Derives heights (item.Part part.MorePrior ∷ items) m (tokens_of part.MorePrior ++ ts) out
unfolding row_of skipped raised
more_prior_derives d = Rule {t = terminal.CloseParen} part.MorePrior ([]) refl d

more_sequence_derives : {items : List Item} {m : Heights} {ts : List Terminal} {out : Heights}
    → Derives heights items (low_of part.MoreSequence m) ts out → Derives heights (item.Part part.MoreSequence ∷ items) m (tokens_of part.MoreSequence ++ ts) out
unfolding row_of skipped raised
more_sequence_derives d = Rule {t = terminal.CloseParen} part.MoreSequence ([]) refl d

after_what_derives : {items : List Item} {m : Heights} {ts : List Terminal} {out : Heights}
    → Derives heights items (low_of part.AfterWhat m) ts out → Derives heights (item.Part part.AfterWhat ∷ items) m (tokens_of part.AfterWhat ++ ts) out
unfolding row_of skipped raised
after_what_derives d = Rule {t = terminal.Name} part.AfterWhat (item.Build action.AfterMethod ∷ []) refl (Make action.AfterMethod d)

kind_derives : {items : List Item} {m : Heights} {ts : List Terminal} {out : Heights}
    → Derives heights items (low_of part.Kind m) ts out → Derives heights (item.Part part.Kind ∷ items) m (tokens_of part.Kind ++ ts) out
unfolding row_of skipped raised
kind_derives d = Rule {t = terminal.After} part.Kind (item.Part part.AfterWhat ∷ []) refl (after_what_derives d)

before_what_derives : {items : List Item} {m : Heights} {ts : List Terminal} {out : Heights}
    → Derives heights items (low_of part.BeforeWhat m) ts out → Derives heights (item.Part part.BeforeWhat ∷ items) m (tokens_of part.BeforeWhat ++ ts) out
unfolding row_of skipped raised
before_what_derives d = Rule {t = terminal.Name} part.BeforeWhat (item.Build action.BeforeMethod ∷ []) refl (Make action.BeforeMethod d)

time_what_derives : {items : List Item} {m : Heights} {ts : List Terminal} {out : Heights}
    → Derives heights items (low_of part.TimeWhat m) ts out → Derives heights (item.Part part.TimeWhat ∷ items) m (tokens_of part.TimeWhat ++ ts) out
unfolding row_of skipped raised
time_what_derives d = Rule {t = terminal.At} part.TimeWhat (item.Token terminal.Instant ∷ item.Build action.TimeAt ∷ []) refl (Next terminal.Instant refl (Make action.TimeAt d))

period_derives : {items : List Item} {m : Heights} {ts : List Terminal} {out : Heights}
    → Derives heights items (low_of part.Period m) ts out → Derives heights (item.Part part.Period ∷ items) m (tokens_of part.Period ++ ts) out
unfolding row_of skipped raised
period_derives d = Rule {t = terminal.Seconds} part.Period (item.Build action.TimeEvery ∷ []) refl (Make action.TimeEvery d)

expr_derives : {items : List Item} {m : Heights} {ts : List Terminal} {out : Heights}
    → Derives heights items (low_of part.Expr m) ts out → Derives heights (item.Part part.Expr ∷ items) m (tokens_of part.Expr ++ ts) out
unfolding row_of skipped raised
expr_derives d = Rule {t = terminal.Name} part.Expr (item.Build action.Variable ∷ item.Part part.Dots ∷ item.Part part.Factors ∷ item.Part part.Sums ∷ item.Part part.Compare ∷ item.Part part.Ands ∷ item.Part part.Ors ∷ []) refl (Make action.Variable (Skip part.Dots action.Nothing refl (Skip part.Factors action.Nothing refl (Skip part.Sums action.Nothing refl (Skip part.Compare action.Nothing refl (Skip part.Ands action.Nothing refl (Skip part.Ors action.Nothing refl d)))))))

unary_derives : {items : List Item} {m : Heights} {ts : List Terminal} {out : Heights}
    → Derives heights items (low_of part.Unary m) ts out → Derives heights (item.Part part.Unary ∷ items) m (tokens_of part.Unary ++ ts) out
unfolding row_of skipped raised
unary_derives d = Rule {t = terminal.Name} part.Unary (item.Build action.Variable ∷ item.Part part.Dots ∷ []) refl (Make action.Variable (Skip part.Dots action.Nothing refl d))

more_args_derives : {items : List Item} {m : Heights} {ts : List Terminal} {out : Heights}
    → Derives heights items (low_of part.MoreArgs m) ts out → Derives heights (item.Part part.MoreArgs ∷ items) m (tokens_of part.MoreArgs ++ ts) out
unfolding row_of skipped raised
more_args_derives d = Rule {t = terminal.CloseParen} part.MoreArgs ([]) refl d

part_derives : (p : Part) {items : List Item} {m : Heights} {ts : List Terminal} {out : Heights}
    → Derives heights items (low_of p m) ts out → Derives heights (item.Part p ∷ items) m (tokens_of p ++ ts) out
unfolding skipped raised
part_derives part.Statement d = statement_derives d
part_derives part.ClockText d = clock_text_derives d
part_derives part.Inners d = Skip part.Inners action.Nothing refl d
part_derives part.InnerName d = inner_name_derives d
part_derives part.ReturnValue d = return_value_derives d
part_derives part.Else d = Skip part.Else action.Absent refl d
part_derives part.Chained d = chained_derives d
part_derives part.CallDot d = call_dot_derives d
part_derives part.Sets d = sets_derives d
part_derives part.MoreSets d = more_sets_derives d
part_derives part.Rhs d = rhs_derives d
part_derives part.ScriptRhs d = script_rhs_derives d
part_derives part.RhsDots d = rhs_dots_derives d
part_derives part.RhsDot d = rhs_dot_derives d
part_derives part.RhsName d = rhs_name_derives d
part_derives part.Class d = class_derives d
part_derives part.Additions d = Skip part.Additions action.Nothing refl d
part_derives part.Literal d = literal_derives d
part_derives part.Negative d = negative_derives d
part_derives part.Parent d = Skip part.Parent action.NoParent refl d
part_derives part.Members d = Skip part.Members action.Nothing refl d
part_derives part.FieldOrMethod d = field_or_method_derives d
part_derives part.MoreKinds d = more_kinds_derives d
part_derives part.Initial d = Skip part.Initial action.NotInitial refl d
part_derives part.Lasting d = Skip part.Lasting action.Once refl d
part_derives part.Scope d = Skip part.Scope action.Committed refl d
part_derives part.Mode d = Skip part.Mode action.Immediate refl d
part_derives part.Sort d = sort_derives d
part_derives part.Params d = params_derives d
part_derives part.SecondParam d = second_param_derives d
part_derives part.ThirdParam d = third_param_derives d
part_derives part.FourthParam d = fourth_param_derives d
part_derives part.FifthParam d = fifth_param_derives d
part_derives part.SixthParam d = sixth_param_derives d
part_derives part.SeventhParam d = seventh_param_derives d
part_derives part.EighthParam d = eighth_param_derives d
part_derives part.NinthParam d = ninth_param_derives d
part_derives part.TenthParam d = tenth_param_derives d
part_derives part.EleventhParam d = eleventh_param_derives d
part_derives part.TwelfthParam d = twelfth_param_derives d
part_derives part.ThirteenthParam d = thirteenth_param_derives d
part_derives part.FourteenthParam d = fourteenth_param_derives d
part_derives part.FifteenthParam d = fifteenth_param_derives d
part_derives part.SixteenthParam d = sixteenth_param_derives d
part_derives part.SecondRange d = Skip part.SecondRange action.Nothing refl d
part_derives part.ThirdRange d = Skip part.ThirdRange action.Nothing refl d
part_derives part.FourthRange d = Skip part.FourthRange action.Nothing refl d
part_derives part.SuchThat d = Skip part.SuchThat action.Nothing refl d
part_derives part.By d = Skip part.By action.Nothing refl d
part_derives part.MoreExprs d = Skip part.MoreExprs action.Nothing refl d
part_derives part.EventUnary d = event_unary_derives d
part_derives part.EventAnds d = Skip part.EventAnds action.Nothing refl d
part_derives part.EventOrs d = Skip part.EventOrs action.Nothing refl d
part_derives part.MoreRelative d = more_relative_derives d
part_derives part.MorePrior d = more_prior_derives d
part_derives part.MoreSequence d = more_sequence_derives d
part_derives part.Mask d = Skip part.Mask action.Unmasked refl d
part_derives part.EventMask d = Skip part.EventMask action.Nothing refl d
part_derives part.Kind d = kind_derives d
part_derives part.AfterWhat d = after_what_derives d
part_derives part.BeforeWhat d = before_what_derives d
part_derives part.TimeWhat d = time_what_derives d
part_derives part.Period d = period_derives d
part_derives part.Expr d = expr_derives d
part_derives part.Unary d = unary_derives d
part_derives part.Dots d = Skip part.Dots action.Nothing refl d
part_derives part.Factors d = Skip part.Factors action.Nothing refl d
part_derives part.Sums d = Skip part.Sums action.Nothing refl d
part_derives part.Compare d = Skip part.Compare action.Nothing refl d
part_derives part.Ands d = Skip part.Ands action.Nothing refl d
part_derives part.Ors d = Skip part.Ors action.Nothing refl d
part_derives part.Args d = args_derives d
part_derives part.MoreArgs d = more_args_derives d

pub least_derives : (items : List Item) (m : Heights) → Derives heights items m (shortest items) (lowest items m)
least_derives [] m = Done
least_derives (item.Token k ∷ items) m = Next k (stands_for-itself k) (least_derives items m)
least_derives (item.Build a ∷ items) m = Make a (least_derives items (risen a m))
least_derives (item.Part p ∷ items) m = part_derives p (least_derives items (low_of p m))
