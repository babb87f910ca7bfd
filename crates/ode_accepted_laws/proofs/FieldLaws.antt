-- The fields of a class that was checked were there at a stamp, where those of its parent were and those that were added to it.
use Rattle.std.proofs.Common.{◌≡◌, ℕ, List, [], ◌∷◌, fold, Option, Some, None, Ok, sym, subst, arith}
use Rattle.std.specs.List.{AllByRecursion}
use Rattle.std.specs.Option.{IfSome}
use Rattle.std.specs.Str.{bytes_eq}
use Rattle.ode_value.specs.declared.change.Added.{Added}
use Rattle.ode_value.specs.declared.class.Class.{Class}
use Rattle.ode_value.specs.declared.class.Field.{Field}
use Rattle.ode_value.specs.declared.statement.ClassDecl.{ClassDecl}
use Rattle.ode_value.specs.declared.statement.Member.{Member}
use Rattle.ode_value.specs.declared.statement.Member.TheVariants as member
use Rattle.ode_value.specs.Fields.{AreBorn, IsBorn, field_of}
use Rattle.ode_types.specs.Declaring.{with_added, with_member}
use Rattle.ode_types.specs.Static.{check_grown}
use Rattle.ode_types.proofs.CheckedClasses.{came_of}
use Rattle.ode_laws.proofs.Each.{all-append, all-find}
use Rattle.ode_accepted_laws.specs.Languages.{WasAdded}
use Rattle.ode_accepted_laws.proofs.Members.{IsParent, begun, fields_of}

module _ (stamp : ℕ) where
  member_born : (c : Class) (m : Member) → AreBorn stamp c → AreBorn stamp (with_member c m)
  member_born c (member.Field name s) all =
      let new : Field = record { name = name; sort = s; birth = 0; literal = None } in all-append (IsBorn stamp) c.fields (new ∷ []) all (omega arith, tt)
  member_born c (member.Events kinds) all = all
  member_born c (member.Method m) all = all
  member_born c (member.Constraint x) all = all
  member_born c (member.Trigger t) all = all

  members_born : (ms : List Member) (c : Class) → AreBorn stamp c → AreBorn stamp (fold with_member c ms)
  members_born [] c all = all
  members_born (m ∷ ms) c all = members_born ms (with_member c m) (member_born c m all)

  added_born : (added : List Added) (c : Class) → AllByRecursion (WasAdded stamp) added → AreBorn stamp c → AreBorn stamp (fold with_added c added)
  added_born [] c were all = all
  added_born (a ∷ added) c were all = added_born added (with_added c a) were.1 (all-append (IsBorn stamp) c.fields (field_of a ∷ []) all (were.0, tt))

  parent_born : (known : List Class) → AllByRecursion (AreBorn stamp) known → (parent : Option Class) → IfSome parent (IsParent known) → AllByRecursion (IsBorn stamp) (fields_of parent)
  parent_born known all None there = tt
  parent_born known all (Some p) there = all-find (AreBorn stamp) (λ (c : Class). bytes_eq c.name there.0) known all p there.1

  pub checked_born : (known : List Class) (added : List Added) (d : ClassDecl) (c : Class) → AllByRecursion (AreBorn stamp) known → AllByRecursion (WasAdded stamp) added → check_grown known added d ≡ Ok c
      → AreBorn stamp c
  checked_born known added d c all were h =
      let came = came_of known added d c h in
      let begin = begun known d came.start came.begun in
      let above : AreBorn stamp came.start = subst (AllByRecursion (IsBorn stamp)) (sym begin.fields) (parent_born known all begin.parent begin.there) in
      subst (AreBorn stamp) came.made (added_born added (fold with_member came.start came.members) were (members_born came.members came.start above))
