-- The rows of classes and their members: what follows a token at each part.
use Rattle.std.specs.Prelude.{List, [], ◌∷◌, ◌++◌, Option, Some, None}
use Rattle.ode_grammar.specs.declared.terminal.Terminal.{Terminal}
use Rattle.ode_grammar.specs.declared.terminal.Terminal.TheVariants as terminal
use Rattle.ode_grammar.specs.declared.item.Part.TheVariants as part
use Rattle.ode_grammar.specs.declared.item.Action.TheVariants as action
use Rattle.ode_grammar.specs.declared.item.Item.{Item}
use Rattle.ode_grammar.specs.declared.item.Item.TheVariants.{Token, Part as A, Build}
use Rattle.ode_grammar.specs.Events.{event}
use Rattle.ode_grammar.specs.Statements.{body, class_rest}

abbrev pub class_after : Terminal → Option (List Item)
class_after terminal.Class = Some class_rest
class_after other = None

abbrev pub parent_after : Terminal → Option (List Item)
parent_after terminal.Colon = Some (Token terminal.Name ∷ Build action.Parent ∷ [])
parent_after other = None

-- "(" [ params ] ")" body, behind the bracket
abbrev pub method : List Item
method = Build action.Params ∷ A part.Params ∷ body ++ Build action.Method ∷ []

abbrev pub test : Item → List Item
test build = Token terminal.Name ∷ Token terminal.Colon ∷ A part.Expr ∷ Token terminal.Semi ∷ build ∷ A part.Members ∷ []

-- the words of a trigger may be left out
abbrev pub trigger : List Item
trigger =
    A part.Initial ∷ A part.Lasting ∷ A part.Scope ∷ A part.Mode ∷ Token terminal.Name ∷ Token terminal.OpenParen ∷ Build action.Params ∷ A part.Params
    ∷ Token terminal.Colon ∷ event ++ Token terminal.Arrow ∷ body ++ Build action.Trigger ∷ []

-- member := sort NAME ";" | ( sort | "void" ) NAME "(" [ params ] ")" body | [ "soft" ] "constraint" NAME ":" expr ";" | "event" kind { "," kind } ";"
--         | "trigger" [ "initial" ] [ "once" | "perpetual" ] [ "committed" | "whole" ] [ "immediate" | "deferred" | "dependent" | "independent" ]
--           NAME "(" [ params ] ")" ":" event "==>" body
abbrev pub members_after : Terminal → Option (List Item)
members_after terminal.SortWord = Some (Build action.Sort ∷ Token terminal.Name ∷ A part.FieldOrMethod ∷ A part.Members ∷ [])
members_after terminal.Ref = Some (Token terminal.Name ∷ Build action.RefSort ∷ Token terminal.Name ∷ A part.FieldOrMethod ∷ A part.Members ∷ [])
members_after terminal.Void = Some (Build action.VoidSort ∷ Token terminal.Name ∷ Token terminal.OpenParen ∷ method ++ A part.Members ∷ [])
members_after terminal.Soft = Some (Token terminal.Constraint ∷ test (Build action.SoftConstraint))
members_after terminal.Constraint = Some (test (Build action.Constraint))
members_after terminal.Event =
    Some (Build action.Kinds ∷ A part.Kind ∷ Build action.Listed ∷ A part.MoreKinds ∷ Build action.Events ∷ A part.Members ∷ [])
members_after terminal.Trigger = Some (trigger ++ A part.Members ∷ [])
members_after other = None

abbrev pub field_or_method_after : Terminal → Option (List Item)
field_or_method_after terminal.Semi = Some (Build action.FieldMember ∷ [])
field_or_method_after terminal.OpenParen = Some method
field_or_method_after other = None

abbrev pub more_kinds_after : Terminal → Option (List Item)
more_kinds_after terminal.Comma = Some (A part.Kind ∷ Build action.Listed ∷ A part.MoreKinds ∷ [])
more_kinds_after terminal.Semi = Some []
more_kinds_after other = None

abbrev pub initial_after : Terminal → Option (List Item)
initial_after terminal.Initial = Some (Build action.Initial ∷ [])
initial_after other = None

abbrev pub lasting_after : Terminal → Option (List Item)
lasting_after terminal.Lasting = Some (Build action.Lasting ∷ [])
lasting_after other = None

abbrev pub scope_after : Terminal → Option (List Item)
scope_after terminal.Scope = Some (Build action.Scope ∷ [])
scope_after other = None

abbrev pub mode_after : Terminal → Option (List Item)
mode_after terminal.Mode = Some (Build action.Mode ∷ [])
mode_after other = None

-- sort := "int" | "bool" | "text" | "ref" NAME
abbrev pub sort_after : Terminal → Option (List Item)
sort_after terminal.SortWord = Some (Build action.Sort ∷ [])
sort_after terminal.Ref = Some (Token terminal.Name ∷ Build action.RefSort ∷ [])
sort_after other = None

-- [ params ] ")" · params := sort NAME { "," sort NAME }, at most 16 of them
abbrev pub params_after : Terminal → Option (List Item)
params_after terminal.CloseParen = Some []
params_after terminal.SortWord = Some (Build action.Sort ∷ Token terminal.Name ∷ Build action.Param ∷ A part.SecondParam ∷ [])
params_after terminal.Ref =
    Some (Token terminal.Name ∷ Build action.RefSort ∷ Token terminal.Name ∷ Build action.Param ∷ A part.SecondParam ∷ [])
params_after other = None

-- one parameter more, and what follows it
abbrev pub one_param : Item → List Item
one_param next = A part.Sort ∷ Token terminal.Name ∷ Build action.Param ∷ next ∷ []

abbrev pub more_params : List Item → Terminal → Option (List Item)
more_params row terminal.Comma = Some row
more_params row terminal.CloseParen = Some []
more_params row other = None
