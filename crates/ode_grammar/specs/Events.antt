-- The rows of event expressions: what follows a token at each part.
use Rattle.std.specs.Prelude.{List, [], ◌∷◌, ◌++◌, Option, Some, None}
use Rattle.ode_grammar.specs.declared.terminal.Terminal.{Terminal}
use Rattle.ode_grammar.specs.declared.terminal.Terminal.TheVariants as terminal
use Rattle.ode_grammar.specs.declared.item.Part.TheVariants as part
use Rattle.ode_grammar.specs.declared.item.Action.TheVariants as action
use Rattle.ode_grammar.specs.declared.item.Item.{Item}
use Rattle.ode_grammar.specs.declared.item.Item.TheVariants.{Token, Part as A, Build}

-- event := evand { "or" evand } · evand := evnot { "and" evnot }
abbrev pub evand : List Item
evand = A part.EventUnary ∷ A part.EventAnds ∷ []

abbrev pub event : List Item
event = evand ++ A part.EventOrs ∷ []

-- "(" event "," event { "," event } ")", folded from the left
abbrev pub folded : Item → Item → List Item
folded build more = Token terminal.OpenParen ∷ event ++ Token terminal.Comma ∷ event ++ build ∷ more ∷ []

-- NUMBER "(" event ")"
abbrev pub counted : Item → List Item
counted build = Token terminal.Count ∷ Token terminal.OpenParen ∷ event ++ Token terminal.CloseParen ∷ build ∷ []

-- "(" event ")", "(" event "," event ")" and "(" event "," event "," event ")"
abbrev pub of_one : Item → List Item
of_one build = Token terminal.OpenParen ∷ event ++ Token terminal.CloseParen ∷ build ∷ []

abbrev pub of_two : Item → List Item
of_two build = Token terminal.OpenParen ∷ event ++ Token terminal.Comma ∷ event ++ Token terminal.CloseParen ∷ build ∷ []

abbrev pub of_three : Item → List Item
of_three build =
    Token terminal.OpenParen ∷ event ++ Token terminal.Comma ∷ event ++ Token terminal.Comma ∷ event ++ Token terminal.CloseParen ∷ build ∷ []

-- evnot := "!" evnot | evatom
-- evatom := "(" event ")" [ "&&" expr ] | "any" | "first" | kind [ "&&" expr ]
--         | ("relative"|"prior"|"sequence") "(" event "," event { "," event } ")" | ("choose"|"every") NUMBER "(" event ")"
--         | ("fa"|"faabs") "(" event "," event "," event ")" | "relplus" "(" event ")" | "pipe" "(" event "," event ")"
abbrev pub event_unary_after : Terminal → Option (List Item)
event_unary_after terminal.Not = Some (A part.EventUnary ∷ Build action.NotEvent ∷ [])
event_unary_after terminal.OpenParen = Some (event ++ Token terminal.CloseParen ∷ Build action.EventPair ∷ A part.EventMask ∷ [])
event_unary_after terminal.Any = Some (Build action.Any ∷ [])
event_unary_after terminal.First = Some (Build action.First ∷ [])
event_unary_after terminal.After = Some (A part.AfterWhat ∷ A part.Mask ∷ [])
event_unary_after terminal.Before = Some (A part.BeforeWhat ∷ A part.Mask ∷ [])
event_unary_after terminal.Time = Some (A part.TimeWhat ∷ A part.Mask ∷ [])
event_unary_after terminal.Relative = Some (folded (Build action.Relative) (A part.MoreRelative))
event_unary_after terminal.Prior = Some (folded (Build action.Prior) (A part.MorePrior))
event_unary_after terminal.Sequence = Some (folded (Build action.Sequence) (A part.MoreSequence))
event_unary_after terminal.Choose = Some (counted (Build action.Choose))
event_unary_after terminal.Every = Some (counted (Build action.Every))
event_unary_after terminal.Fa = Some (of_three (Build action.Fa))
event_unary_after terminal.FaAbs = Some (of_three (Build action.FaAbs))
event_unary_after terminal.RelPlus = Some (of_one (Build action.RelPlus))
event_unary_after terminal.Pipe = Some (of_two (Build action.Pipe))
event_unary_after other = None

abbrev pub event_ands_after : Terminal → Option (List Item)
event_ands_after terminal.And = Some (A part.EventUnary ∷ Build action.AndEvents ∷ A part.EventAnds ∷ [])
event_ands_after other = None

abbrev pub event_ors_after : Terminal → Option (List Item)
event_ors_after terminal.Or = Some (evand ++ Build action.OrEvents ∷ A part.EventOrs ∷ [])
event_ors_after other = None

abbrev pub more_folded : Item → Item → Terminal → Option (List Item)
more_folded build more terminal.Comma = Some (event ++ build ∷ more ∷ [])
more_folded build more terminal.CloseParen = Some []
more_folded build more other = None

abbrev pub more_relative_after : Terminal → Option (List Item)
more_relative_after k = more_folded (Build action.Relative) (A part.MoreRelative) k

abbrev pub more_prior_after : Terminal → Option (List Item)
more_prior_after k = more_folded (Build action.Prior) (A part.MorePrior) k

abbrev pub more_sequence_after : Terminal → Option (List Item)
more_sequence_after k = more_folded (Build action.Sequence) (A part.MoreSequence) k

abbrev pub mask_after : Terminal → Option (List Item)
mask_after terminal.AndAnd = Some (A part.Expr ∷ Build action.Masked ∷ [])
mask_after other = None

abbrev pub event_mask_after : Terminal → Option (List Item)
event_mask_after terminal.AndAnd = Some (A part.Expr ∷ Build action.MaskedEvent ∷ [])
event_mask_after other = None

-- kind := "after" "create" | "before" "delete" | "after" NAME | "before" NAME | "after" "tbegin" | "before" "tcomplete" | "after" "tcommit"
--       | "after" "tabort" | "time" "every" NUMBER | "time" "at" TEXT | "after" "newversion" | "before" "delversion"
abbrev pub kind_after : Terminal → Option (List Item)
kind_after terminal.After = Some (A part.AfterWhat ∷ [])
kind_after terminal.Before = Some (A part.BeforeWhat ∷ [])
kind_after terminal.Time = Some (A part.TimeWhat ∷ [])
kind_after other = None

abbrev pub after_what_after : Terminal → Option (List Item)
after_what_after terminal.Create = Some (Build action.AfterCreate ∷ [])
after_what_after terminal.Name = Some (Build action.AfterMethod ∷ [])
after_what_after terminal.TBegin = Some (Build action.AfterTBegin ∷ [])
after_what_after terminal.TCommit = Some (Build action.AfterTCommit ∷ [])
after_what_after terminal.TAbort = Some (Build action.AfterTAbort ∷ [])
after_what_after terminal.NewVersion = Some (Build action.AfterNewVersion ∷ [])
after_what_after other = None

abbrev pub before_what_after : Terminal → Option (List Item)
before_what_after terminal.Delete = Some (Build action.BeforeDelete ∷ [])
before_what_after terminal.Name = Some (Build action.BeforeMethod ∷ [])
before_what_after terminal.TComplete = Some (Build action.BeforeTComplete ∷ [])
before_what_after terminal.DropVersion = Some (Build action.BeforeDropVersion ∷ [])
before_what_after other = None

abbrev pub time_what_after : Terminal → Option (List Item)
time_what_after terminal.Every = Some (A part.Period ∷ [])
time_what_after terminal.At = Some (Token terminal.Instant ∷ Build action.TimeAt ∷ [])
time_what_after other = None

abbrev pub period_after : Terminal → Option (List Item)
period_after terminal.Seconds = Some (Build action.TimeEvery ∷ [])
period_after terminal.Count = Some (Build action.TimeEvery ∷ [])
period_after other = None
