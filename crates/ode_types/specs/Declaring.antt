-- The first pass over a class: names, class names in sorts, kinds and numbers, without bodies.
use Rattle.std.specs.Prelude.{ℕ, ◌+◌, List, [], ◌∷◌, ◌++◌, length, codes, Bool, true, false, not, ◌&&◌, ◌||◌, nat_le, nat_lt, ◌==◌, is_some, is_none, Option, Some, None, Ok}
use Rattle.std.specs.List.{list_any}
use Rattle.std.specs.Option.{option_map, option_map_or}
use Rattle.std.specs.Str.{bytes_eq}
use Rattle.ode_value.specs.declared.binding.Param.{Param}
use Rattle.ode_value.specs.declared.change.Added.{Added}
use Rattle.ode_value.specs.declared.class.Class.{Class}
use Rattle.ode_value.specs.declared.event.Kind.{Kind}
use Rattle.ode_value.specs.declared.event.Kind.TheVariants as kind
use Rattle.ode_value.specs.declared.member.Method.{Method}
use Rattle.ode_value.specs.declared.member.TriggerDecl.{TriggerDecl}
use Rattle.ode_value.specs.declared.reason.CheckError.TheVariants.{UnknownName, Duplicate, WrongSort, NotInherited, TooMany}
use Rattle.ode_value.specs.declared.statement.ClassDecl.{ClassDecl}
use Rattle.ode_value.specs.declared.statement.Member.{Member}
use Rattle.ode_value.specs.declared.statement.Member.TheVariants as member
use Rattle.ode_value.specs.declared.statement.Sort.{Sort}
use Rattle.ode_value.specs.declared.statement.Sort.TheVariants as sort
use Rattle.ode_value.specs.Fields.{field_of}
use Rattle.ode_value.specs.Same.{same_kind, same_sort}
use Rattle.ode_types.specs.Checks.{Check, ◌>>=◌, ◌>>◌, needs, found, through}
use Rattle.ode_types.specs.Events.{kind_method}
use Rattle.ode_types.specs.Families.{class_named, ancestors_of, line_of, field_named, method_named, constraint_named, trigger_named}
use Rattle.ode_types.specs.Limits.{field_limit, trigger_limit, ancestor_limit, classes_limit}
use Rattle.ode_types.specs.Sorts.{is_void}

-- a class without members of its own: its number and name, and what it inherits
abbrev pub without_members : ℕ → List ℕ → Option Class → Class
without_members number name parent = record {
  number = number;
  name = name;
  parent = option_map (λ (p : Class). p.number) parent;
  fields = option_map_or (λ (p : Class). p.fields) parent [];
  methods = [];
  constraints = [];
  kinds = option_map_or (λ (p : Class). p.kinds) parent [];
  triggers = [];
}

-- with one more member
abbrev pub with_member : Class → Member → Class
with_member c (member.Field name s) = record c { fields = c.fields ++ record { name = name; sort = s; birth = 0; literal = None } ∷ [] }
with_member c (member.Method m) = record c { methods = c.methods ++ m ∷ [] }
with_member c (member.Constraint x) = record c { constraints = c.constraints ++ x ∷ [] }
with_member c (member.Events kinds) = record c { kinds = c.kinds ++ kinds }
with_member c (member.Trigger t) = record c { triggers = c.triggers ++ t ∷ [] }

-- with one more field, which is added to it
abbrev pub with_added : Class → Added → Class
with_added c a = record c { fields = c.fields ++ field_of a ∷ [] }

-- the parent is declared, where the class has one
abbrev pub parent_in : List Class → Option (List ℕ) → Check (Option Class)
parent_in known None = Ok None
parent_in known (Some name) = do
  p ← found (UnknownName name) (class_named known name)
  Ok (Some p)

-- the next number, where one is left
abbrev pub numbered : List Class → List ℕ → Check ℕ
numbered known name = do
  needs (TooMany name) (nat_lt (length known) classes_limit)
  Ok (length known + 1)

-- the class's name is new, its parent is declared, and a number is left for it
unfoldable pub begins : List Class → ClassDecl → Check Class
begins known d = do
  needs (Duplicate d.name) (is_none (class_named known d.name))
  parent ← parent_in known d.parent
  number ← numbered known d.name
  Ok (without_members number d.name parent)

-- the kind's last word, or the method's name
abbrev pub kind_word : Kind → List ℕ
kind_word kind.Create = codes "create"
kind_word kind.Delete = codes "delete"
kind_word kind.NewVersion = codes "newversion"
kind_word kind.DropVersion = codes "delversion"
kind_word (kind.Before name) = name
kind_word (kind.After name) = name
kind_word kind.TBegin = codes "tbegin"
kind_word kind.TComplete = codes "tcomplete"
kind_word kind.TCommit = codes "tcommit"
kind_word kind.TAbort = codes "tabort"
kind_word (kind.TimeEvery n) = codes "every"
kind_word (kind.TimeAt t) = codes "at"

-- a member is a method of this name
abbrev pub is_method : List ℕ → Member → Bool
is_method name (member.Method m) = bytes_eq name m.name
is_method name _ = false

-- two methods have the same result and parameter sorts
abbrev pub same_params : List Param → List Param → Bool
same_params [] [] = true
same_params (p ∷ ps) (q ∷ qs) = same_sort p.sort q.sort && same_params ps qs
same_params _ _ = false

abbrev pub same_shape : Method → Method → Bool
same_shape m n = same_sort m.result n.result && same_params m.params n.params

-- a method has the shape of the one that it redefines
abbrev pub inherits_shape : List Class → Class → Method → Check (Unit {0})
inherits_shape known c m = needs (NotInherited m.name) (option_map_or (same_shape m) (method_named (ancestors_of known c) m.name) true)

-- an initial trigger, which nothing calls with arguments, has no parameters
abbrev pub is_callable : TriggerDecl → Bool
is_callable t = not t.initial || length t.params == 0

-- a class is within the limits
abbrev pub is_small : List Class → Class → Bool
is_small known c = nat_le (length c.fields) field_limit && nat_le (length c.triggers) trigger_limit && nat_le (length (ancestors_of known c)) ancestor_limit

module _ (known : List Class) (d : ClassDecl) where
  -- a class in a sort is declared earlier, or is the class itself
  abbrev pub knows_sort : Sort → Check (Unit {0})
  knows_sort (sort.Reference name) = needs (UnknownName name) (bytes_eq name d.name || is_some (class_named known name))
  knows_sort _ = Ok tt

  -- a value's sort; no text has a value of the sort void
  abbrev pub knows_value : List ℕ → Sort → Check (Unit {0})
  knows_value name s = do
    knows_sort s
    needs (WrongSort name) (not (is_void (Some s)))

  -- a parameter behind those before it
  abbrev pub knows_param : List Param → Param → Check (Unit {0})
  knows_param before p = do
    knows_value p.name p.sort
    needs (Duplicate p.name) (not (list_any (λ (q : Param). bytes_eq q.name p.name) before))

  abbrev pub next_param : List Param → Param → Check (List Param)
  next_param before p = do
    knows_param before p
    Ok (before ++ p ∷ [])

  -- parameters differ
  abbrev pub knows_params : List Param → Check (Unit {0})
  knows_params params = do
    _ ← through next_param [] params
    Ok tt

  -- a method of this name is among the members, or an ancestor has one
  abbrev pub has_method : Class → List ℕ → Bool
  has_method c name = list_any (is_method name) d.members || is_some (method_named (ancestors_of known c) name)

  -- a kind isn't listed yet, and names a method where it names one
  abbrev pub lists : Class → Kind → Check Class
  lists c k = do
    needs (Duplicate (kind_word k)) (not (list_any (same_kind k) c.kinds))
    needs (UnknownName (kind_word k)) (option_map_or (has_method c) (kind_method k) true)
    Ok (with_member c (member.Events (k ∷ [])))

  -- a method: its result's class is known, the class has none of its name, and it has the shape of the one that it redefines
  abbrev pub knows_method : Class → Method → Check (Unit {0})
  knows_method c m = do
    knows_sort m.result
    needs (Duplicate m.name) (is_none (method_named (c ∷ []) m.name))
    inherits_shape known c m
    knows_params m.params

  -- a trigger: its name is new, and an initial one has no parameters
  abbrev pub knows_trigger : Class → TriggerDecl → Check (Unit {0})
  knows_trigger c t = do
    needs (Duplicate t.name) (is_none (trigger_named (line_of known c) t.name))
    knows_params t.params
    needs (WrongSort t.name) (is_callable t)

  -- a member, behind those that the class has so far
  abbrev pub declares : Class → Member → Check Class
  declares c (member.Field name s) = do
    knows_value name s
    needs (Duplicate name) (is_none (field_named c.fields name))
    Ok (with_member c (member.Field name s))
  declares c (member.Method m) = do
    knows_method c m
    Ok (with_member c (member.Method m))
  declares c (member.Constraint x) = do
    needs (Duplicate x.name) (is_none (constraint_named (line_of known c) x.name))
    Ok (with_member c (member.Constraint x))
  declares c (member.Events kinds) = through lists c kinds
  declares c (member.Trigger t) = do
    knows_trigger c t
    Ok (with_member c (member.Trigger t))

  -- an added field, behind those that the class has so far
  abbrev pub adds : Class → Added → Check Class
  adds c a = do
    knows_value a.name a.sort
    needs (Duplicate a.name) (is_none (field_named c.fields a.name))
    Ok (with_added c a)

  -- all members, and then all fields that are added
  unfoldable pub declared : List Added → Class → Check Class
  declared added start = do
    c ← through declares start d.members
    grown ← through adds c added
    needs (TooMany d.name) (is_small known grown)
    Ok grown
