-- Event expressions: the kinds of their leaves, and their masks.
use Rattle.std.specs.Prelude.{ℕ, List, [], Bool, Option, Some, None, Ok, false}
use Rattle.std.specs.List.{list_any}
use Rattle.std.specs.Option.{option_and_then, option_map_or}
use Rattle.ode_value.specs.declared.binding.Param.{Param}
use Rattle.ode_value.specs.declared.class.Class.{Class}
use Rattle.ode_value.specs.declared.event.EventExpr.{EventExpr, fold-EventExpr}
use Rattle.ode_value.specs.declared.event.EventExpr.TheOpen as event
use Rattle.ode_value.specs.declared.event.EventExpr.TheVariants as checked
use Rattle.ode_value.specs.declared.event.Kind.{Kind}
use Rattle.ode_value.specs.declared.event.Kind.TheVariants as kind
use Rattle.ode_value.specs.declared.member.Method.{Method}
use Rattle.ode_value.specs.declared.statement.Expr.{Expr}
use Rattle.ode_value.specs.declared.statement.Sort.TheVariants as sort
use Rattle.ode_value.specs.Same.{same_kind}
use Rattle.ode_types.specs.Checks.{Check, ◌>>=◌, ◌>>◌, needs}
use Rattle.ode_types.specs.Families.{line_of, method_named}
use Rattle.ode_types.specs.Scopes.{Scope, wrong, plain_scope, with_params}
use Rattle.ode_types.specs.Typing.{fitting}

-- a check of an event expression
abbrev pub Listing : Type 0
Listing = Scope → Check EventExpr

-- the method that a kind names
abbrev pub kind_method : Kind → Option (List ℕ)
kind_method (kind.Before name) = Some name
kind_method (kind.After name) = Some name
kind_method _ = None

-- the nearest method that a kind names, of a class
abbrev pub event_method_in : List Class → Option Class → Kind → Option Method
event_method_in classes class k =
    option_and_then (λ name. option_and_then (λ (c : Class). method_named (line_of classes c) name) class) (kind_method k)

-- the parameters of an event: those of its method
abbrev pub event_params : Scope → Kind → List Param
event_params scope k = option_map_or (λ (m : Method). m.params) (event_method_in scope.classes scope.class k) []

-- the class lists a kind, or an ancestor does
abbrev pub is_listed : Scope → Kind → Bool
is_listed scope k = option_map_or (λ (c : Class). list_any (same_kind k) c.kinds) scope.class false

-- a mask, which sees the event's parameters behind the trigger's, and is plain
unfoldable pub mask : Kind → Option Expr → Scope → Check (Option Expr)
mask k None scope = Ok None
mask k (Some e) scope = do
  test ← fitting sort.Bool e (plain_scope (with_params (event_params scope k) scope))
  Ok (Some test)

-- two parts, from left to right
abbrev pub two : (EventExpr → EventExpr → EventExpr) → Listing → Listing → Listing
two make e f scope = do
  a ← e scope
  b ← f scope
  Ok (make a b)

-- one part
abbrev pub one : (EventExpr → EventExpr) → Listing → Listing
one make e scope = do
  a ← e scope
  Ok (make a)

-- a leaf: its kind is listed
unfoldable pub leaf_listed : Kind → Option Expr → Listing
leaf_listed k m scope = do
  needs (wrong scope) (is_listed scope k)
  test ← mask k m scope
  Ok (checked.Leaf k test)

-- three parts, from left to right
abbrev pub three : (EventExpr → EventExpr → EventExpr → EventExpr) → Listing → Listing → Listing → Listing
three make e f g scope = do
  a ← e scope
  b ← f scope
  c ← g scope
  Ok (make a b c)

-- a mask on a composite event, which is plain and sees the trigger's parameters
unfoldable pub masked : Listing → Expr → Listing
masked e x scope = do
  a ← e scope
  test ← fitting sort.Bool x (plain_scope scope)
  Ok (checked.Masked a test)

-- one level of an event expression
abbrev pub listing_of : event.EventExpr-F Listing → Listing
listing_of (event.Leaf k m) scope = leaf_listed k m scope
listing_of event.Any scope = Ok checked.Any
listing_of event.First scope = Ok checked.First
listing_of (event.Not e) scope = one checked.Not e scope
listing_of (event.And e f) scope = two checked.And e f scope
listing_of (event.Or e f) scope = two checked.Or e f scope
listing_of (event.Relative e f) scope = two checked.Relative e f scope
listing_of (event.RelPlus e) scope = one checked.RelPlus e scope
listing_of (event.Prior e f) scope = two checked.Prior e f scope
listing_of (event.Sequence e f) scope = two checked.Sequence e f scope
listing_of (event.Pipe e f) scope = two checked.Pipe e f scope
listing_of (event.Choose n e) scope = one (checked.Choose n) e scope
listing_of (event.Every n e) scope = one (checked.Every n) e scope
listing_of (event.Fa e f g) scope = three checked.Fa e f g scope
listing_of (event.FaAbs e f g) scope = three checked.FaAbs e f g scope
listing_of (event.Masked e x) scope = masked e x scope

-- a whole one
unfoldable pub listed : EventExpr → Listing
listed = fold-EventExpr Listing listing_of
