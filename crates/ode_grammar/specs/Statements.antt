-- The rows of statements: what follows a token at each part. A row that takes `more` goes on with it.
use Rattle.std.specs.Prelude.{List, [], ◌∷◌, ◌++◌, Option, Some, None}
use Rattle.ode_grammar.specs.declared.terminal.Terminal.{Terminal}
use Rattle.ode_grammar.specs.declared.terminal.Terminal.TheVariants as terminal
use Rattle.ode_grammar.specs.declared.item.Part.TheVariants as part
use Rattle.ode_grammar.specs.declared.item.Action.TheVariants as action
use Rattle.ode_grammar.specs.declared.item.Item.{Item}
use Rattle.ode_grammar.specs.declared.item.Item.TheVariants.{Token, Part as A, Build}
use Rattle.ode_grammar.specs.Expressions.{atom, expr, operator, arguments, behind_unary}

-- body := "{" { inner } "}"
abbrev pub body : List Item
body = Token terminal.OpenBrace ∷ Build action.Body ∷ A part.Inners ∷ Token terminal.CloseBrace ∷ []

-- call := [ chain "." ] NAME "(" [ args ] ")": the dot and what follows it, behind the first atom of the chain
abbrev pub dotted_call : List Item
dotted_call = Token terminal.Dot ∷ Token terminal.Name ∷ A part.CallDot ∷ []

-- "(" [ NAME "=" expr { "," NAME "=" expr } ] ")"
abbrev pub new : List Item
new = Token terminal.Name ∷ Token terminal.OpenParen ∷ Build action.Sets ∷ A part.Sets ∷ Build action.New ∷ []

-- do := call | "pnew" NAME "(" .. ")" | "newversion" expr | "activate" chain "." NAME "(" [ args ] ")", without calls
abbrev pub changed : List Item → Terminal → Option (List Item)
changed more terminal.PNew = Some (new ++ more)
changed more terminal.NewVersion = Some (A part.Expr ∷ Build action.NewVersion ∷ more)
changed more terminal.Activate = Some (A part.Chained ∷ Build action.Activate ∷ more)
changed more other = None

abbrev pub done : List Item → List Item
done more = Token terminal.Semi ∷ Build action.Do ∷ more

-- simple := do ";" | "show" rhs ";" | "say" expr ";" | "pdelete" expr ";" | "delversion" expr ";" | "deactivate" expr "," expr ";", without
-- those that begin with a NAME
abbrev pub simple : Item → List Item → Terminal → Option (List Item)
simple rhs more terminal.Show = Some (rhs ∷ Build action.Show ∷ more)
simple rhs more terminal.Say = Some (A part.Expr ∷ Token terminal.Semi ∷ Build action.Say ∷ more)
simple rhs more terminal.PDelete = Some (A part.Expr ∷ Token terminal.Semi ∷ Build action.Delete ∷ more)
simple rhs more terminal.DropVersion = Some (A part.Expr ∷ Token terminal.Semi ∷ Build action.DropVersion ∷ more)
simple rhs more terminal.Deactivate = Some (A part.Expr ∷ Token terminal.Comma ∷ A part.Expr ∷ Token terminal.Semi ∷ Build action.Deactivate ∷ more)
simple rhs more terminal.PNew = changed (done more) terminal.PNew
simple rhs more terminal.NewVersion = changed (done more) terminal.NewVersion
simple rhs more terminal.Activate = changed (done more) terminal.Activate
simple rhs more other = atom (dotted_call ++ Build action.Call ∷ done more) other

-- class := "class" NAME [ ":" NAME ] "{" { member } "}", behind its first word
abbrev pub class_rest : List Item
class_rest =
    Token terminal.Name ∷ A part.Parent ∷ Token terminal.OpenBrace ∷ Build action.Members ∷ A part.Members ∷ Token terminal.CloseBrace
    ∷ Build action.Class ∷ []

abbrev pub alone : List Item
alone = Build action.Simple ∷ []

-- statement := class ";" | "begin" ";" | "commit" ";" | "abort" ";" | "clock" TEXT ";" | ";" | simple. A call has a chain.
abbrev pub statement_after : Terminal → Option (List Item)
statement_after terminal.Class = Some (class_rest ++ Token terminal.Semi ∷ Build action.Declare ∷ [])
statement_after terminal.Begin = Some (Token terminal.Semi ∷ Build action.Begin ∷ [])
statement_after terminal.Commit = Some (Token terminal.Semi ∷ Build action.Commit ∷ [])
statement_after terminal.Abort = Some (Token terminal.Semi ∷ Build action.Abort ∷ [])
statement_after terminal.Clock = Some (A part.ClockText ∷ Token terminal.Semi ∷ Build action.Clock ∷ [])
statement_after terminal.Semi = Some (Build action.Empty ∷ [])
statement_after terminal.Name = Some (Build action.Variable ∷ dotted_call ++ Build action.Call ∷ done alone)
statement_after other = simple (A part.ScriptRhs) alone other

abbrev pub clock_text_after : Terminal → Option (List Item)
clock_text_after terminal.Text = Some []
clock_text_after terminal.Instant = Some []
clock_text_after other = None

-- inner := simple | "let" NAME "=" rhs ";" | NAME "=" rhs ";" | "if" "(" expr ")" body [ "else" body ] | "return" [ expr ] ";" | "tabort" ";"
abbrev pub next : List Item
next = Build action.Append ∷ A part.Inners ∷ []

abbrev pub inners_after : Terminal → Option (List Item)
inners_after terminal.Let = Some (Token terminal.Name ∷ Token terminal.Assign ∷ A part.Rhs ∷ Build action.Let ∷ next)
inners_after terminal.Name = Some (A part.InnerName ∷ next)
inners_after terminal.If = Some (Token terminal.OpenParen ∷ A part.Expr ∷ Token terminal.CloseParen ∷ body ++ A part.Else ∷ Build action.If ∷ next)
inners_after terminal.Return = Some (A part.ReturnValue ∷ next)
inners_after terminal.TAbort = Some (Token terminal.Semi ∷ Build action.TAbort ∷ next)
inners_after other = simple (A part.Rhs) next other

abbrev pub inner_name_after : Terminal → Option (List Item)
inner_name_after terminal.Assign = Some (A part.Rhs ∷ Build action.Set ∷ [])
inner_name_after terminal.OpenParen = Some (arguments ++ Build action.OwnCall ∷ done [])
inner_name_after terminal.Dot = Some (Build action.Variable ∷ Token terminal.Name ∷ A part.CallDot ∷ Build action.Call ∷ done [])
inner_name_after other = None

abbrev pub return_value_after : Terminal → Option (List Item)
return_value_after terminal.Semi = Some (Build action.ReturnNothing ∷ [])
return_value_after other = expr (Token terminal.Semi ∷ Build action.Return ∷ []) other

abbrev pub else_after : Terminal → Option (List Item)
else_after terminal.Else = Some body
else_after other = None

-- chain "." NAME "(" [ args ] ")"
abbrev pub chained_after : Terminal → Option (List Item)
chained_after terminal.Name = Some (Build action.Variable ∷ dotted_call)
chained_after other = atom dotted_call other

-- a name behind a dot is a field before one more dot, and else the method or the trigger
abbrev pub call_dot_after : Terminal → Option (List Item)
call_dot_after terminal.Dot = Some (Build action.Field ∷ Token terminal.Name ∷ A part.CallDot ∷ [])
call_dot_after terminal.OpenParen = Some arguments
call_dot_after other = None

abbrev pub field_set : List Item
field_set = Token terminal.Assign ∷ A part.Expr ∷ Build action.AddSet ∷ A part.MoreSets ∷ []

abbrev pub sets_after : Terminal → Option (List Item)
sets_after terminal.Name = Some field_set
sets_after terminal.CloseParen = Some []
sets_after other = None

abbrev pub more_sets_after : Terminal → Option (List Item)
more_sets_after terminal.Comma = Some (Token terminal.Name ∷ field_set)
more_sets_after terminal.CloseParen = Some []
more_sets_after other = None

-- rhs := do | expr, always before a ";", which stands in these rows. An expression begins as a call by a reference may; behind a call nothing
-- else can come.
abbrev pub ending : List Item
ending = Token terminal.Semi ∷ []

abbrev pub plain : List Item
plain = Build action.Plain ∷ ending

abbrev pub right_side : List Item → Terminal → Option (List Item)
right_side name terminal.Minus = Some (A part.Unary ∷ Build action.Sign ∷ behind_unary ++ plain)
right_side name terminal.Not = Some (A part.Unary ∷ Build action.Sign ∷ behind_unary ++ plain)
right_side name terminal.Name = Some name
right_side name terminal.PNew = changed ending terminal.PNew
right_side name terminal.NewVersion = changed ending terminal.NewVersion
right_side name terminal.Activate = changed ending terminal.Activate
right_side name other = atom (A part.RhsDots ∷ []) other

abbrev pub rhs_after : Terminal → Option (List Item)
rhs_after k = right_side (A part.RhsName ∷ []) k

-- a call has a chain
abbrev pub script_rhs_after : Terminal → Option (List Item)
script_rhs_after k = right_side (Build action.Variable ∷ A part.RhsDots ∷ []) k

abbrev pub rhs_dots_after : Terminal → Option (List Item)
rhs_dots_after terminal.Dot = Some (Token terminal.Name ∷ A part.RhsDot ∷ [])
rhs_dots_after terminal.Semi = Some (Build action.Plain ∷ [])
rhs_dots_after other = operator [] plain other

abbrev pub rhs_dot_after : Terminal → Option (List Item)
rhs_dot_after terminal.Dot = Some (Build action.Field ∷ Token terminal.Name ∷ A part.RhsDot ∷ [])
rhs_dot_after terminal.Semi = Some (Build action.Field ∷ Build action.Plain ∷ [])
rhs_dot_after terminal.OpenParen = Some (arguments ++ Build action.Call ∷ ending)
rhs_dot_after other = operator (Build action.Field ∷ []) plain other

abbrev pub rhs_name_after : Terminal → Option (List Item)
rhs_name_after terminal.Dot = Some (Build action.Variable ∷ Token terminal.Name ∷ A part.RhsDot ∷ [])
rhs_name_after terminal.Semi = Some (Build action.Variable ∷ Build action.Plain ∷ [])
rhs_name_after terminal.OpenParen = Some (arguments ++ Build action.OwnCall ∷ ending)
rhs_name_after other = operator (Build action.Variable ∷ []) plain other
