-- The grammar of statements, classes, changes of classes, queries and comparisons of event expressions as people write it: an alternative of a production a line.
use Rattle.std.specs.Prelude.{ℕ, suc, List, [], ◌∷◌, ◌++◌}
use Rattle.ode_grammar.specs.declared.terminal.Terminal.{Terminal}
use Rattle.ode_grammar.specs.declared.terminal.Terminal.TheVariants as terminal
use Rattle.ode_productions.specs.Productions.{Is}
use Rattle.ode_productions.specs.Productions as is

pub data Phrase : Type 0 where
  AArguments : Phrase
  AMoreArguments : Phrase
  ADotted : Phrase
  ASets : Phrase
  AMoreSets : Phrase
  AChange : Phrase
  AGiven : Phrase
  ARight : Phrase
  ASimple : Phrase
  AInner : Phrase
  AInners : Phrase
  ABody : Phrase
  AOtherwise : Phrase
  ASort : Phrase
  AParams : Phrase
  AMoreKinds : Phrase
  AInitially : Phrase
  ALasts : Phrase
  AScoped : Phrase
  AModed : Phrase
  AMember : Phrase
  AMembers : Phrase
  AParented : Phrase
  AClass : Phrase
  ALiteral : Phrase
  AAddition : Phrase
  AAdditions : Phrase
  AClassChange : Phrase
  ATest : Phrase
  AExpressions : Phrase
  AMoreExpressions : Phrase
  ASorting : Phrase
  AQuery : Phrase
  AComparison : Phrase
  AStatement : Phrase
  AMoreParams : ℕ → Phrase
  AMoreRanges : ℕ → Phrase

-- the tokens are such a phrase
pub data Says : Phrase → List Terminal → Type 0 where
  -- args := ")" | expr { "," expr } ")", behind the bracket
  NoArguments : Says AArguments (terminal.CloseParen ∷ [])
  SomeArguments : {ts us : List Terminal} → Is is.Expression ts → Says AMoreArguments us → Says AArguments (ts ++ us)
  LastArgument : Says AMoreArguments (terminal.CloseParen ∷ [])
  NextArgument : {ts us : List Terminal} → Is is.Expression ts → Says AMoreArguments us → Says AMoreArguments (terminal.Comma ∷ ts ++ us)
  -- dotted := chain "." NAME "(" args
  DottedCall : {ts us : List Terminal} → Is is.Chain ts → Says AArguments us → Says ADotted (ts ++ terminal.Dot ∷ terminal.Name ∷ terminal.OpenParen ∷ us)
  -- sets := ")" | NAME "=" expr { "," NAME "=" expr } ")", behind the bracket
  NoSets : Says ASets (terminal.CloseParen ∷ [])
  SomeSets : {ts us : List Terminal} → Is is.Expression ts → Says AMoreSets us → Says ASets (terminal.Name ∷ terminal.Assign ∷ ts ++ us)
  LastSet : Says AMoreSets (terminal.CloseParen ∷ [])
  NextSet : {ts us : List Terminal} → Is is.Expression ts → Says AMoreSets us → Says AMoreSets (terminal.Comma ∷ terminal.Name ∷ terminal.Assign ∷ ts ++ us)
  -- change := "pnew" NAME "(" sets | "newversion" expr | "activate" dotted
  NewObject : {ts : List Terminal} → Says ASets ts → Says AChange (terminal.PNew ∷ terminal.Name ∷ terminal.OpenParen ∷ ts)
  NewVersion : {ts : List Terminal} → Is is.Expression ts → Says AChange (terminal.NewVersion ∷ ts)
  Activate : {ts : List Terminal} → Says ADotted ts → Says AChange (terminal.Activate ∷ ts)
  -- given := expr ";" | dotted ";" | change ";"
  GivenExpression : {ts : List Terminal} → Is is.Expression ts → Says AGiven (ts ++ terminal.Semi ∷ [])
  GivenCall : {ts : List Terminal} → Says ADotted ts → Says AGiven (ts ++ terminal.Semi ∷ [])
  GivenChange : {ts : List Terminal} → Says AChange ts → Says AGiven (ts ++ terminal.Semi ∷ [])
  -- right := given | NAME "(" args ";"
  OneGiven : {ts : List Terminal} → Says AGiven ts → Says ARight (ts)
  OwnCall : {ts : List Terminal} → Says AArguments ts → Says ARight (terminal.Name ∷ terminal.OpenParen ∷ ts ++ terminal.Semi ∷ [])
  -- simple := "say" expr ";" | "pdelete" expr ";" | "delversion" expr ";" | "deactivate" expr "," expr ";" | change ";" | dotted ";"
  Say : {ts : List Terminal} → Is is.Expression ts → Says ASimple (terminal.Say ∷ ts ++ terminal.Semi ∷ [])
  Delete : {ts : List Terminal} → Is is.Expression ts → Says ASimple (terminal.PDelete ∷ ts ++ terminal.Semi ∷ [])
  DropVersion : {ts : List Terminal} → Is is.Expression ts → Says ASimple (terminal.DropVersion ∷ ts ++ terminal.Semi ∷ [])
  Deactivate : {ts us : List Terminal} → Is is.Expression ts → Is is.Expression us → Says ASimple (terminal.Deactivate ∷ ts ++ terminal.Comma ∷ us ++ terminal.Semi ∷ [])
  DoChange : {ts : List Terminal} → Says AChange ts → Says ASimple (ts ++ terminal.Semi ∷ [])
  DoCall : {ts : List Terminal} → Says ADotted ts → Says ASimple (ts ++ terminal.Semi ∷ [])
  -- inner := simple | "show" right | "let" NAME "=" right | NAME "=" right | "if" "(" expr ")" body [ "else" body ] | "return" [ expr ] ";"
  --        | "tabort" ";" | NAME "(" args ";"
  OneSimple : {ts : List Terminal} → Says ASimple ts → Says AInner (ts)
  ShowRight : {ts : List Terminal} → Says ARight ts → Says AInner (terminal.Show ∷ ts)
  Let : {ts : List Terminal} → Says ARight ts → Says AInner (terminal.Let ∷ terminal.Name ∷ terminal.Assign ∷ ts)
  Set : {ts : List Terminal} → Says ARight ts → Says AInner (terminal.Name ∷ terminal.Assign ∷ ts)
  If : {ts us vs : List Terminal} → Is is.Expression ts → Says ABody us → Says AOtherwise vs → Says AInner (terminal.If ∷ terminal.OpenParen ∷ ts ++ terminal.CloseParen ∷ us ++ vs)
  ReturnNothing : Says AInner (terminal.Return ∷ terminal.Semi ∷ [])
  Return : {ts : List Terminal} → Is is.Expression ts → Says AInner (terminal.Return ∷ ts ++ terminal.Semi ∷ [])
  TAbort : Says AInner (terminal.TAbort ∷ terminal.Semi ∷ [])
  DoOwnCall : {ts : List Terminal} → Says AArguments ts → Says AInner (terminal.Name ∷ terminal.OpenParen ∷ ts ++ terminal.Semi ∷ [])
  -- [ "else" body ]
  NoElse : Says AOtherwise []
  Else : {ts : List Terminal} → Says ABody ts → Says AOtherwise (terminal.Else ∷ ts)
  -- body := "{" { inner } "}"
  NoInners : Says AInners []
  MoreInners : {ts us : List Terminal} → Says AInner ts → Says AInners us → Says AInners (ts ++ us)
  Body : {ts : List Terminal} → Says AInners ts → Says ABody (terminal.OpenBrace ∷ ts ++ terminal.CloseBrace ∷ [])
  -- sort := "int" | "bool" | "text" | "ref" NAME
  SortWord : Says ASort (terminal.SortWord ∷ [])
  RefSort : Says ASort (terminal.Ref ∷ terminal.Name ∷ [])
  -- params := ")" | sort NAME { "," sort NAME } ")", behind the bracket, at most 16 of them: the number is of those that may still come
  NoParams : Says AParams (terminal.CloseParen ∷ [])
  SomeParams : {ts us : List Terminal} → Says ASort ts → Says (AMoreParams 15) us → Says AParams (ts ++ terminal.Name ∷ us)
  LastParam : {n : ℕ} → Says (AMoreParams n) (terminal.CloseParen ∷ [])
  NextParam : {n : ℕ} {ts us : List Terminal} → Says ASort ts → Says (AMoreParams n) us → Says (AMoreParams (suc n)) (terminal.Comma ∷ ts ++ terminal.Name ∷ us)
  -- kinds := { "," kind } ";", behind the first kind
  LastKind : Says AMoreKinds (terminal.Semi ∷ [])
  NextKind : {ts us : List Terminal} → Is is.Kind ts → Says AMoreKinds us → Says AMoreKinds (terminal.Comma ∷ ts ++ us)
  -- the words of a trigger: [ "initial" ], [ "once" | "perpetual" ], [ "committed" | "whole" ] and
  -- [ "immediate" | "deferred" | "dependent" | "independent" ]
  NotInitial : Says AInitially []
  Initial : Says AInitially (terminal.Initial ∷ [])
  NotLasting : Says ALasts []
  Lasting : Says ALasts (terminal.Lasting ∷ [])
  NoScope : Says AScoped []
  Scope : Says AScoped (terminal.Scope ∷ [])
  NoMode : Says AModed []
  Mode : Says AModed (terminal.Mode ∷ [])
  -- member := sort NAME ";" | ( sort | "void" ) NAME "(" params body | [ "soft" ] "constraint" NAME ":" expr ";" | "event" kind kinds
  --         | "trigger" words NAME "(" params ":" event "==>" body
  FieldMember : {ts : List Terminal} → Says ASort ts → Says AMember (ts ++ terminal.Name ∷ terminal.Semi ∷ [])
  Method : {ts us vs : List Terminal} → Says ASort ts → Says AParams us → Says ABody vs → Says AMember (ts ++ terminal.Name ∷ terminal.OpenParen ∷ us ++ vs)
  VoidMethod : {us vs : List Terminal} → Says AParams us → Says ABody vs → Says AMember (terminal.Void ∷ terminal.Name ∷ terminal.OpenParen ∷ us ++ vs)
  Constraint : {ts : List Terminal} → Is is.Expression ts → Says AMember (terminal.Constraint ∷ terminal.Name ∷ terminal.Colon ∷ ts ++ terminal.Semi ∷ [])
  SoftConstraint : {ts : List Terminal} → Is is.Expression ts → Says AMember (terminal.Soft ∷ terminal.Constraint ∷ terminal.Name ∷ terminal.Colon ∷ ts ++ terminal.Semi ∷ [])
  Events : {ts us : List Terminal} → Is is.Kind ts → Says AMoreKinds us → Says AMember (terminal.Event ∷ ts ++ us)
  Trigger : {ms bs cs ds ps es ws : List Terminal} → Says AInitially ms → Says ALasts bs → Says AScoped cs → Says AModed ds → Says AParams ps → Is is.Event es → Says ABody ws → Says AMember (terminal.Trigger ∷ ms ++ bs ++ cs ++ ds ++ terminal.Name ∷ terminal.OpenParen ∷ ps ++ terminal.Colon ∷ es ++ terminal.Arrow ∷ ws)
  -- class := "class" NAME [ ":" NAME ] "{" { member } "}"
  NoMembers : Says AMembers []
  MoreMembers : {ts us : List Terminal} → Says AMember ts → Says AMembers us → Says AMembers (ts ++ us)
  NoParent : Says AParented []
  Parent : Says AParented (terminal.Colon ∷ terminal.Name ∷ [])
  Class : {ts us : List Terminal} → Says AParented ts → Says AMembers us → Says AClass (terminal.Class ∷ terminal.Name ∷ ts ++ terminal.OpenBrace ∷ us ++ terminal.CloseBrace ∷ [])
  -- literal := NUMBER | "-" NUMBER | TEXT | "true" | "false" | "null"
  LeafLiteral : Says ALiteral (terminal.Leaf ∷ [])
  NumberLiteral : Says ALiteral (terminal.Number ∷ [])
  SecondsLiteral : Says ALiteral (terminal.Seconds ∷ [])
  CountLiteral : Says ALiteral (terminal.Count ∷ [])
  TextLiteral : Says ALiteral (terminal.Text ∷ [])
  InstantLiteral : Says ALiteral (terminal.Instant ∷ [])
  NegativeNumber : Says ALiteral (terminal.Minus ∷ terminal.Number ∷ [])
  NegativeSeconds : Says ALiteral (terminal.Minus ∷ terminal.Seconds ∷ [])
  NegativeCount : Says ALiteral (terminal.Minus ∷ terminal.Count ∷ [])
  -- addition := sort NAME "=" literal ";"
  Addition : {ts us : List Terminal} → Says ASort ts → Says ALiteral us → Says AAddition (ts ++ terminal.Name ∷ terminal.Assign ∷ us ++ terminal.Semi ∷ [])
  -- change := "change" "class" NAME "{" addition { addition } "}" ";"
  NoAdditions : Says AAdditions []
  MoreAdditions : {ts us : List Terminal} → Says AAddition ts → Says AAdditions us → Says AAdditions (ts ++ us)
  ClassChange : {ts us : List Terminal} → Says AAddition ts → Says AAdditions us → Says AClassChange (terminal.Change ∷ terminal.Class ∷ terminal.Name ∷ terminal.OpenBrace ∷ ts ++ us ++ terminal.CloseBrace ∷ terminal.Semi ∷ [])
  -- ranges := { "," NAME "in" NAME }, behind the first range: the number is of those that may still come
  LastRange : {n : ℕ} → Says (AMoreRanges n) []
  NextRange : {n : ℕ} {ts : List Terminal} → Says (AMoreRanges n) ts → Says (AMoreRanges (suc n)) (terminal.Comma ∷ terminal.Name ∷ terminal.In ∷ terminal.Name ∷ ts)
  -- test := [ "suchthat" expr ]
  NoTest : Says ATest []
  Test : {ts : List Terminal} → Is is.Expression ts → Says ATest (terminal.SuchThat ∷ ts)
  -- exprs := expr { "," expr }
  Expressions : {ts us : List Terminal} → Is is.Expression ts → Says AMoreExpressions us → Says AExpressions (ts ++ us)
  LastExpression : Says AMoreExpressions []
  NextExpressions : {ts : List Terminal} → Says AExpressions ts → Says AMoreExpressions (terminal.Comma ∷ ts)
  -- sorting := [ "by" exprs ]
  NoSorting : Says ASorting []
  Sorting : {ts : List Terminal} → Says AExpressions ts → Says ASorting (terminal.By ∷ ts)
  -- query := "for" NAME "in" NAME ranges test sorting "show" exprs ";", with at most 4 ranges
  Query : {rs ts bs es : List Terminal} → Says (AMoreRanges 3) rs → Says ATest ts → Says ASorting bs → Says AExpressions es → Says AQuery (terminal.For ∷ terminal.Name ∷ terminal.In ∷ terminal.Name ∷ rs ++ ts ++ bs ++ terminal.Show ∷ es ++ terminal.Semi ∷ [])
  -- comparison := "same" NAME "(" params ":" event "," event ";"
  Compared : {ps es fs : List Terminal} → Says AParams ps → Is is.Event es → Is is.Event fs → Says AComparison (terminal.Same ∷ terminal.Name ∷ terminal.OpenParen ∷ ps ++ terminal.Colon ∷ es ++ terminal.Comma ∷ fs ++ terminal.Semi ∷ [])
  -- statement := class ";" | "begin" ";" | "commit" ";" | "abort" ";" | "clock" TEXT ";" | ";" | simple | "show" given
  Declare : {ts : List Terminal} → Says AClass ts → Says AStatement (ts ++ terminal.Semi ∷ [])
  Begin : Says AStatement (terminal.Begin ∷ terminal.Semi ∷ [])
  Commit : Says AStatement (terminal.Commit ∷ terminal.Semi ∷ [])
  Abort : Says AStatement (terminal.Abort ∷ terminal.Semi ∷ [])
  ClockText : Says AStatement (terminal.Clock ∷ terminal.Text ∷ terminal.Semi ∷ [])
  ClockInstant : Says AStatement (terminal.Clock ∷ terminal.Instant ∷ terminal.Semi ∷ [])
  Empty : Says AStatement (terminal.Semi ∷ [])
  Alone : {ts : List Terminal} → Says ASimple ts → Says AStatement (ts)
  ShowGiven : {ts : List Terminal} → Says AGiven ts → Says AStatement (terminal.Show ∷ ts)
