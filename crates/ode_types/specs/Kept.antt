-- What holds of a checked tree: each expression has a sort, each slot in it is there and holds a value of its sort, and each
-- method, trigger, class and field that it names is found.
use Rattle.std.specs.Prelude.{ℕ, ◌-◌, List, [], ◌∷◌, ◌++◌, length, map, replicate, Bool, true, false, not, ◌&&◌, ◌==◌, is_some, IsTrue, Option, Some, None, slice_get}
use Rattle.std.specs.List.{list_all, list_any}
use Rattle.std.specs.Option.{option_and_then, option_map, option_map_or}
use Rattle.ode_value.specs.declared.binding.Param.{Param}
use Rattle.ode_value.specs.declared.binding.Var.{Var}
use Rattle.ode_value.specs.declared.binding.Var.TheVariants as var
use Rattle.ode_value.specs.declared.class.Class.{Class}
use Rattle.ode_value.specs.declared.class.Field.{Field}
use Rattle.ode_value.specs.declared.event.EventExpr.{EventExpr, fold-EventExpr}
use Rattle.ode_value.specs.declared.event.EventExpr.TheOpen as event
use Rattle.ode_value.specs.declared.event.Kind.{Kind}
use Rattle.ode_value.specs.declared.member.Constraint.{Constraint}
use Rattle.ode_value.specs.declared.member.Method.{Method}
use Rattle.ode_value.specs.declared.member.TriggerDecl.{TriggerDecl}
use Rattle.ode_value.specs.declared.statement.Expr.{Expr, fold-Expr}
use Rattle.ode_value.specs.declared.statement.Expr.TheOpen as expr
use Rattle.ode_value.specs.declared.statement.Rhs.{Rhs}
use Rattle.ode_value.specs.declared.statement.Rhs.TheVariants as rhs
use Rattle.ode_value.specs.declared.statement.Sort.{Sort}
use Rattle.ode_value.specs.declared.statement.Sort.TheVariants as sort
use Rattle.ode_value.specs.declared.statement.Stmt.{Stmt, fold-Stmt}
use Rattle.ode_value.specs.declared.statement.Stmt.TheOpen as stmt
use Rattle.ode_value.specs.declared.value.Ref.{Ref}
use Rattle.ode_value.specs.Same.{same_kind}
use Rattle.ode_types.specs.Events.{event_method_in}
use Rattle.ode_types.specs.Families.{class_named, field_named, line_of, method_named, trigger_named}
use Rattle.ode_types.specs.Sorts.{binary_sort, class_of, fits, is_reference, is_void, starting, unary_sort}
use Rattle.ode_types.specs.Typing.{value_sort, where_so}

-- the classes, the class that `this` is of, what `return` gives, whether expressions are plain, the literals' classes; and what each
-- slot holds: a value of a sort, or nothing that may be read
pub record Setting : Type 0 where
  pub classes : List Class
  pub class : Option Class
  pub result : Sort
  pub is_plain : Bool
  pub literals : List (Ref × ℕ)
  pub slots : List (Option Sort)

-- with other slots
abbrev pub with_slots : List (Option Sort) → Setting → Setting
with_slots slots at = record at { slots = slots }

-- the sort of an expression, where it has one; null's is none of the sorts
abbrev pub Sorting : Type 0
Sorting = Setting → Option (Option Sort)

-- the sort of the field in a slot of a class
abbrev pub field_sort : Option Class → ℕ → Option (Option Sort)
field_sort class place = option_map (λ (f : Field). Some f.sort) (option_and_then (λ (c : Class). slice_get c.fields place) class)

-- one level of an expression; a checked one has no names
abbrev pub sorting_of : expr.Expr-F Sorting → Sorting
sorting_of (expr.Lit v) at = value_sort at.classes at.literals v
sorting_of (expr.Local place) at = option_map (λ s. Some s) (option_and_then (λ s. s) (slice_get at.slots place))
sorting_of (expr.Own place) at = field_sort at.class place
sorting_of expr.This at = where_so (not at.is_plain) (option_map (λ (c : Class). Some (sort.Reference c.name)) at.class)
sorting_of (expr.Slot e place) at = where_so (not at.is_plain) (option_and_then (λ s. field_sort (class_of at.classes s) place) (e at))
sorting_of (expr.Version e) at = where_so (not at.is_plain) (option_and_then (λ s. where_so (is_reference s) (Some s)) (e at))
sorting_of (expr.Unary op e) at = option_and_then (λ s. option_map (λ t. Some t) (unary_sort op s)) (e at)
sorting_of (expr.Binary op e f) at = option_and_then (λ s. option_and_then (λ t. option_map (λ u. Some u) (binary_sort at.is_plain op s t)) (f at)) (e at)
sorting_of _ at = None

-- of a whole expression
unfoldable pub sort_in : Expr → Sorting
sort_in = fold-Expr Sorting sorting_of

-- an expression has a sort that fits this one
abbrev pub is_fit : Setting → Sort → Expr → Bool
is_fit at s e = option_map_or (λ t. fits at.classes t s) (sort_in e at) false

-- it is a reference, or null
abbrev pub is_ref : Setting → Expr → Bool
is_ref at e = option_map_or is_reference (sort_in e at) false

-- each argument fits its parameter, and there are as many
abbrev pub are_fit : Setting → List Param → List Expr → Bool
are_fit at [] [] = true
are_fit at (p ∷ ps) (e ∷ es) = is_fit at p.sort e && are_fit at ps es
are_fit at _ _ = false

-- the class of a receiver: of `this`, where none is written
abbrev pub receiver_class : Setting → Option Expr → Option Class
receiver_class at None = at.class
receiver_class at (Some e) = option_and_then (class_of at.classes) (sort_in e at)

-- a field that is set fits
abbrev pub is_set : Setting → Class → List ℕ × Expr → Bool
is_set at c (name, e) = option_map_or (λ (f : ℕ × Field). is_fit at f.1.sort e) (field_named c.fields name) false

-- the sort of a right side, where it has one
abbrev pub right_sort : Setting → Rhs → Option (Option Sort)
right_sort at (rhs.Plain e) = sort_in e at
right_sort at (rhs.Call c) =
    option_and_then (λ (m : Method). where_so (are_fit at m.params c.args) (Some (Some m.result)))
    (option_and_then (λ (d : Class). method_named (line_of at.classes d) c.method) (receiver_class at c.of))
right_sort at (rhs.New class sets) = option_and_then (λ (c : Class). where_so (list_all (is_set at c) sets) (Some (Some (sort.Reference class)))) (class_named at.classes class)
right_sort at (rhs.NewVersion e) = where_so (is_ref at e) (sort_in e at)
right_sort at (rhs.Activate e trigger args) =
    option_and_then (λ (t : TriggerDecl). where_so (are_fit at t.params args) (Some (Some sort.Int)))
    (option_and_then (λ (d : Class). trigger_named (line_of at.classes d) trigger) (receiver_class at (Some e)))

-- a right side has a sort that fits this one
abbrev pub is_right : Setting → Sort → Rhs → Bool
is_right at s r = option_map_or (λ t. fits at.classes t s) (right_sort at r) false

-- the slots behind a statement, where it is typed
abbrev pub Slots : Type 0
Slots = Setting → Option (List (Option Sort))

-- behind an inner body: its locals aren't read any more
abbrev pub without_inner : Setting → List (Option Sort) → List (Option Sort)
without_inner at slots = at.slots ++ replicate (length slots - length at.slots) None

-- the statements of a body, one behind the other
abbrev pub slots_through : List Slots → Slots
slots_through [] at = Some at.slots
slots_through (s ∷ ss) at = option_and_then (λ slots. slots_through ss (with_slots slots at)) (s at)

-- an inner body
abbrev pub inner_slots : List Slots → Slots
inner_slots ss at = option_map (without_inner at) (slots_through ss at)

-- a local is made in the next slot
abbrev pub let_slots : Var → Rhs → Slots
let_slots (var.Local place) r at = where_so (place == length at.slots) (option_map (λ s. at.slots ++ Some s ∷ []) (option_and_then starting (right_sort at r)))
let_slots _ r at = None

-- what is set is there, and the value fits it
abbrev pub is_assigned : Var → Rhs → Setting → Bool
is_assigned (var.Local place) r at = option_map_or (λ s. is_right at s r) (option_and_then (λ s. s) (slice_get at.slots place)) false
is_assigned (var.Own place) r at = option_map_or (λ (f : Field). is_right at f.sort r) (option_and_then (λ (c : Class). slice_get c.fields place) at.class) false
is_assigned (var.Name name) r at = false

-- the slots stay, where this holds
abbrev pub keeps_slots : Bool → Slots
keeps_slots so at = where_so so (Some at.slots)

-- one level of a statement
abbrev pub slots_of : stmt.Stmt-F Slots → Slots
slots_of (stmt.Let v r) at = let_slots v r at
slots_of (stmt.Set v r) at = keeps_slots (is_assigned v r at) at
slots_of (stmt.Do r) at = keeps_slots (is_some (right_sort at r)) at
slots_of (stmt.If test first second) at =
    where_so (is_fit at sort.Bool test) (option_and_then (λ slots. inner_slots second (with_slots slots at)) (inner_slots first at))
slots_of (stmt.Return None) at = keeps_slots (is_void (Some at.result)) at
slots_of (stmt.Return (Some e)) at = keeps_slots (is_fit at at.result e) at
slots_of (stmt.Delete e) at = keeps_slots (is_ref at e) at
slots_of (stmt.DropVersion e) at = keeps_slots (is_ref at e) at
slots_of (stmt.Deactivate e f) at = keeps_slots (is_ref at e && is_fit at sort.Int f) at
slots_of (stmt.Show r) at = keeps_slots (option_map_or (λ s. not (is_void s)) (right_sort at r) false) at
slots_of (stmt.Say e) at = keeps_slots (is_fit at sort.Text e) at
slots_of stmt.TAbort at = Some at.slots

-- of a whole statement
unfoldable pub slots_behind : Stmt → Slots
slots_behind = fold-Stmt Slots slots_of

-- a body is typed
abbrev pub is_body : Setting → List Stmt → Bool
is_body at body = is_some (slots_through (map slots_behind body) at)

-- what the slots of parameters hold
abbrev pub held : List Param → List (Option Sort)
held params = map (λ (p : Param). Some p.sort) params

-- where a member of a class stands, with these parameters
abbrev pub member_setting : List Class → Class → List Param → Sort → Setting
member_setting classes c params result = record {
  classes = classes;
  class = Some c;
  result = result;
  is_plain = false;
  literals = [];
  slots = held params;
}

abbrev pub plain_setting : Setting → Setting
plain_setting at = record at { is_plain = true }

-- a mask is a plain test, which sees the event's parameters behind the trigger's
abbrev pub is_mask : Setting → Option Method → Expr → Bool
is_mask at m e = is_fit (plain_setting (with_slots (at.slots ++ held (option_map_or (λ (n : Method). n.params) m [])) at)) sort.Bool e

-- each leaf's kind is listed, and its mask is one; a mask on a composite event is a plain test
abbrev pub is_leaf : Kind → Option Expr → Setting → Bool
is_leaf k test at =
    option_map_or (λ (c : Class). list_any (same_kind k) c.kinds) at.class false
    && option_map_or (is_mask at (event_method_in at.classes at.class k)) test true

abbrev pub are_masks_of : event.EventExpr-F (Setting → Bool) → Setting → Bool
are_masks_of (event.Leaf k test) at = is_leaf k test at
are_masks_of event.Any at = true
are_masks_of event.First at = true
are_masks_of (event.Not e) at = e at
are_masks_of (event.And e f) at = e at && f at
are_masks_of (event.Or e f) at = e at && f at
are_masks_of (event.Relative e f) at = e at && f at
are_masks_of (event.RelPlus e) at = e at
are_masks_of (event.Prior e f) at = e at && f at
are_masks_of (event.Sequence e f) at = e at && f at
are_masks_of (event.Pipe e f) at = e at && f at
are_masks_of (event.Choose n e) at = e at
are_masks_of (event.Every n e) at = e at
are_masks_of (event.Fa e f g) at = e at && f at && g at
are_masks_of (event.FaAbs e f g) at = e at && f at && g at
are_masks_of (event.Masked e x) at = e at && is_fit (plain_setting at) sort.Bool x

unfoldable pub are_masks : EventExpr → Setting → Bool
are_masks = fold-EventExpr (Setting → Bool) are_masks_of

-- the members of a class are typed, by all classes
abbrev pub is_method : List Class → Class → Method → Bool
is_method classes c m = is_body (member_setting classes c m.params m.result) m.body

abbrev pub is_constraint : List Class → Class → Constraint → Bool
is_constraint classes c x = is_fit (plain_setting (member_setting classes c [] sort.Void)) sort.Bool x.test

abbrev pub is_trigger : List Class → Class → TriggerDecl → Bool
is_trigger classes c t =
    let at = member_setting classes c t.params sort.Void in
    are_masks t.event at && is_body at t.action

-- a class is typed, by all classes, which have it among them
pub record IsTypedClass (classes : List Class) (c : Class) : Type 0 where
  pub methods : IsTrue (list_all (is_method classes c) c.methods)
  pub constraints : IsTrue (list_all (is_constraint classes c) c.constraints)
  pub triggers : IsTrue (list_all (is_trigger classes c) c.triggers)

-- where a statement of a script stands
abbrev pub script_setting : List Class → List (Ref × ℕ) → Setting
script_setting classes literals = record { classes = classes; class = None; result = sort.Void; is_plain = false; literals = literals; slots = [] }

-- a statement of a script is typed, by all classes and by the classes of its literals
abbrev pub IsTypedStatement : List Class → List (Ref × ℕ) → Stmt → Type 0
IsTypedStatement classes literals s = IsTrue (is_some (slots_behind s (script_setting classes literals)))
