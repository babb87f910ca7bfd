-- The grammar of expressions and event expressions as people write it: an alternative of a production a line.
use Rattle.std.specs.Prelude.{List, [], ◌∷◌, ◌++◌}
use Rattle.ode_grammar.specs.declared.terminal.Terminal.{Terminal}
use Rattle.ode_grammar.specs.declared.terminal.Terminal.TheVariants as terminal

pub data Symbol : Type 0 where
  Expression : Symbol
  Conjunction : Symbol
  Comparison : Symbol
  Sum : Symbol
  Term : Symbol
  Unary : Symbol
  Chain : Symbol
  Atom : Symbol
  Event : Symbol
  More : Symbol
  Conjoined : Symbol
  Negated : Symbol
  EventAtom : Symbol
  Kind : Symbol

-- the tokens are what this symbol stands for
pub data Is : Symbol → List Terminal → Type 0 where
  -- atom := NUMBER | TEXT | "true" | "false" | "null" | REFERENCE | "this" | NAME | "(" expr ")" | "version" "(" expr ")"
  LeafAtom : Is Atom (terminal.Leaf ∷ [])
  NumberAtom : Is Atom (terminal.Number ∷ [])
  SecondsAtom : Is Atom (terminal.Seconds ∷ [])
  CountAtom : Is Atom (terminal.Count ∷ [])
  TextAtom : Is Atom (terminal.Text ∷ [])
  InstantAtom : Is Atom (terminal.Instant ∷ [])
  NameAtom : Is Atom (terminal.Name ∷ [])
  Brackets : {ts : List Terminal} → Is Expression ts → Is Atom (terminal.OpenParen ∷ ts ++ terminal.CloseParen ∷ [])
  VersionOf : {ts : List Terminal} → Is Expression ts → Is Atom (terminal.Version ∷ terminal.OpenParen ∷ ts ++ terminal.CloseParen ∷ [])
  -- chain := atom { "." NAME }
  OneAtom : {ts : List Terminal} → Is Atom ts → Is Chain ts
  Field : {ts : List Terminal} → Is Chain ts → Is Chain (ts ++ terminal.Dot ∷ terminal.Name ∷ [])
  -- unary := ( "-" | "!" ) unary | chain
  Minus : {ts : List Terminal} → Is Unary ts → Is Unary (terminal.Minus ∷ ts)
  Not : {ts : List Terminal} → Is Unary ts → Is Unary (terminal.Not ∷ ts)
  OneChain : {ts : List Terminal} → Is Chain ts → Is Unary ts
  -- term := unary { ( "*" | "/" | "%" ) unary }
  OneUnary : {ts : List Terminal} → Is Unary ts → Is Term ts
  Factor : {ts us : List Terminal} → Is Term ts → Is Unary us → Is Term (ts ++ terminal.Times ∷ us)
  -- sum := term { ( "+" | "-" ) term }
  OneTerm : {ts : List Terminal} → Is Term ts → Is Sum ts
  Plus : {ts us : List Terminal} → Is Sum ts → Is Term us → Is Sum (ts ++ terminal.Plus ∷ us)
  Less : {ts us : List Terminal} → Is Sum ts → Is Term us → Is Sum (ts ++ terminal.Minus ∷ us)
  -- comp := sum [ ( "==" | "!=" | "<" | "<=" | ">" | ">=" ) sum ]
  OneSum : {ts : List Terminal} → Is Sum ts → Is Comparison ts
  Compared : {ts us : List Terminal} → Is Sum ts → Is Sum us → Is Comparison (ts ++ terminal.Compares ∷ us)
  -- conj := comp { "&&" comp }
  OneComparison : {ts : List Terminal} → Is Comparison ts → Is Conjunction ts
  And : {ts us : List Terminal} → Is Conjunction ts → Is Comparison us → Is Conjunction (ts ++ terminal.AndAnd ∷ us)
  -- expr := conj { "||" conj }
  OneConjunction : {ts : List Terminal} → Is Conjunction ts → Is Expression ts
  Or : {ts us : List Terminal} → Is Expression ts → Is Conjunction us → Is Expression (ts ++ terminal.OrOr ∷ us)
  -- kind := "after" "create" | "before" "delete" | "after" NAME | "before" NAME | "after" "tbegin" | "before" "tcomplete" | "after" "tcommit"
  --       | "after" "tabort" | "time" "every" NUMBER | "time" "at" TEXT | "after" "newversion" | "before" "delversion"
  AfterCreate : Is Kind (terminal.After ∷ terminal.Create ∷ [])
  BeforeDelete : Is Kind (terminal.Before ∷ terminal.Delete ∷ [])
  AfterMethod : Is Kind (terminal.After ∷ terminal.Name ∷ [])
  BeforeMethod : Is Kind (terminal.Before ∷ terminal.Name ∷ [])
  AfterTBegin : Is Kind (terminal.After ∷ terminal.TBegin ∷ [])
  BeforeTComplete : Is Kind (terminal.Before ∷ terminal.TComplete ∷ [])
  AfterTCommit : Is Kind (terminal.After ∷ terminal.TCommit ∷ [])
  AfterTAbort : Is Kind (terminal.After ∷ terminal.TAbort ∷ [])
  EveryCount : Is Kind (terminal.Time ∷ terminal.Every ∷ terminal.Count ∷ [])
  EverySeconds : Is Kind (terminal.Time ∷ terminal.Every ∷ terminal.Seconds ∷ [])
  AtInstant : Is Kind (terminal.Time ∷ terminal.At ∷ terminal.Instant ∷ [])
  AfterNewVersion : Is Kind (terminal.After ∷ terminal.NewVersion ∷ [])
  BeforeDropVersion : Is Kind (terminal.Before ∷ terminal.DropVersion ∷ [])
  -- evatom := "(" event ")" [ "&&" expr ] | "any" | "first" | kind [ "&&" expr ]
  --         | ( "relative" | "prior" | "sequence" ) "(" event "," event { "," event } ")" | ( "choose" | "every" ) NUMBER "(" event ")"
  --         | ( "fa" | "faabs" ) "(" event "," event "," event ")" | "relplus" "(" event ")" | "pipe" "(" event "," event ")"
  EventBrackets : {ts : List Terminal} → Is Event ts → Is EventAtom (terminal.OpenParen ∷ ts ++ terminal.CloseParen ∷ [])
  MaskedBrackets : {ts us : List Terminal} → Is Event ts → Is Expression us
      → Is EventAtom (terminal.OpenParen ∷ ts ++ terminal.CloseParen ∷ terminal.AndAnd ∷ us)
  AnyPoint : Is EventAtom (terminal.Any ∷ [])
  FirstPoint : Is EventAtom (terminal.First ∷ [])
  OneKind : {ts : List Terminal} → Is Kind ts → Is EventAtom ts
  Masked : {ts us : List Terminal} → Is Kind ts → Is Expression us → Is EventAtom (ts ++ terminal.AndAnd ∷ us)
  Relative : {ts us : List Terminal} → Is Event ts → Is More us → Is EventAtom (terminal.Relative ∷ terminal.OpenParen ∷ ts ++ us)
  Prior : {ts us : List Terminal} → Is Event ts → Is More us → Is EventAtom (terminal.Prior ∷ terminal.OpenParen ∷ ts ++ us)
  Sequence : {ts us : List Terminal} → Is Event ts → Is More us → Is EventAtom (terminal.Sequence ∷ terminal.OpenParen ∷ ts ++ us)
  Choose : {ts : List Terminal} → Is Event ts → Is EventAtom (terminal.Choose ∷ terminal.Count ∷ terminal.OpenParen ∷ ts ++ terminal.CloseParen ∷ [])
  Every : {ts : List Terminal} → Is Event ts → Is EventAtom (terminal.Every ∷ terminal.Count ∷ terminal.OpenParen ∷ ts ++ terminal.CloseParen ∷ [])
  Fa : {ts us vs : List Terminal} → Is Event ts → Is Event us → Is Event vs
      → Is EventAtom (terminal.Fa ∷ terminal.OpenParen ∷ ts ++ terminal.Comma ∷ us ++ terminal.Comma ∷ vs ++ terminal.CloseParen ∷ [])
  FaAbs : {ts us vs : List Terminal} → Is Event ts → Is Event us → Is Event vs
      → Is EventAtom (terminal.FaAbs ∷ terminal.OpenParen ∷ ts ++ terminal.Comma ∷ us ++ terminal.Comma ∷ vs ++ terminal.CloseParen ∷ [])
  RelPlus : {ts : List Terminal} → Is Event ts → Is EventAtom (terminal.RelPlus ∷ terminal.OpenParen ∷ ts ++ terminal.CloseParen ∷ [])
  Pipe : {ts us : List Terminal} → Is Event ts → Is Event us
      → Is EventAtom (terminal.Pipe ∷ terminal.OpenParen ∷ ts ++ terminal.Comma ∷ us ++ terminal.CloseParen ∷ [])
  -- behind the first event of `relative`, `prior` or `sequence`: "," event { "," event } ")"
  LastEvent : {ts : List Terminal} → Is Event ts → Is More (terminal.Comma ∷ ts ++ terminal.CloseParen ∷ [])
  NextEvent : {ts us : List Terminal} → Is Event ts → Is More us → Is More (terminal.Comma ∷ ts ++ us)
  -- evnot := "!" evnot | evatom
  NotEvent : {ts : List Terminal} → Is Negated ts → Is Negated (terminal.Not ∷ ts)
  OneEventAtom : {ts : List Terminal} → Is EventAtom ts → Is Negated ts
  -- evand := evnot { "and" evnot }
  OneNegated : {ts : List Terminal} → Is Negated ts → Is Conjoined ts
  AndEvents : {ts us : List Terminal} → Is Conjoined ts → Is Negated us → Is Conjoined (ts ++ terminal.And ∷ us)
  -- event := evand { "or" evand }
  OneConjoined : {ts : List Terminal} → Is Conjoined ts → Is Event ts
  OrEvents : {ts us : List Terminal} → Is Event ts → Is Conjoined us → Is Event (ts ++ terminal.Or ∷ us)
