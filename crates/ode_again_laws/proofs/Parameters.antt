-- The triggers of a class that is read have few parameters.
use Rattle.std.proofs.Common.{◌≡◌, ℕ, ◌<◌, ◌≤◌, ◌^◌, List, [], ◌∷◌, ◌++◌, length, fold, Ok, ap, sym, ◌∙◌, subst, arith}
use Rattle.std.specs.Prelude.{is_none}
use Rattle.std.specs.List.{AllByRecursion}
use Rattle.ode_terminals.specs.declared.seen.Place.{Place}
use Rattle.ode_value.specs.declared.change.Added.{Added}
use Rattle.ode_value.specs.declared.class.Class.{Class}
use Rattle.ode_value.specs.declared.member.TriggerDecl.{TriggerDecl}
use Rattle.ode_value.specs.declared.reason.CheckError.TheVariants.{Duplicate}
use Rattle.ode_value.specs.declared.statement.ClassDecl.{ClassDecl}
use Rattle.ode_value.specs.declared.statement.Member.{Member}
use Rattle.ode_value.specs.declared.statement.Member.TheVariants as member
use Rattle.ode_value.specs.declared.statement.Sort.TheVariants as sort
use Rattle.ode_value.specs.declared.statement.Statement.TheVariants as statement
use Rattle.ode_language.specs.Languages.{statement_of}
use Rattle.ode_types.specs.Bodies.{body}
use Rattle.ode_types.specs.Checks.{◌>>=◌, each, needs}
use Rattle.ode_types.specs.Declaring.{begins, numbered, parent_in, with_member, without_members}
use Rattle.ode_types.specs.Events.{listed}
use Rattle.ode_types.specs.Families.{class_named}
use Rattle.ode_types.specs.Scopes.{member_scope}
use Rattle.ode_types.specs.Static.{check_grown, checked_member, constraint_checked, method_checked, trigger_checked}
use Rattle.ode_types.proofs.CheckedClasses.{bind-ok, came_of}
use Rattle.ode_types.proofs.KeptEvents.{all_more}
use Rattle.ode_reread_classes.proofs.Does.{GoodMembers}
use Rattle.ode_reread_classes.proofs.Members.{GoodMember}
use Rattle.ode_compile.proofs.NumberLaws.{grown_triggers}
use Rattle.ode_again_laws.proofs.Numbered.{piece_good}

abbrev pub HasFew : TriggerDecl → Type 0
HasFew t = length t.params < 2 ^ 8

abbrev HasFewIn : Member → Type 0
HasFewIn (member.Trigger t) = HasFew t
HasFewIn _ = Unit {0}

-- ---- the members of a tree

member_few : (place : Place) (n : ℕ) (m : Member) → GoodMember place n m → HasFewIn m
member_few place n (member.Field name s) g = tt
member_few place n (member.Method m) g = tt
member_few place n (member.Constraint c) g = tt
member_few place n (member.Events ks) g = tt
member_few place n (member.Trigger t) g = let few : length t.params ≤ 16 = g.params.few in omega (arith, few)

members_few : (place : Place) (n : ℕ) (ms : List Member) → GoodMembers place n ms → AllByRecursion HasFewIn ms
members_few place n [] g = tt
members_few place n (m ∷ ms) g = (member_few place n m g.0, members_few place n ms g.1)

-- ---- both passes over a class

module _ (cs : List Class) (c : Class) where
  member_kept : (m n : Member) → checked_member cs c m ≡ Ok n → HasFewIn m → HasFewIn n
  unfolding trigger_checked
  member_kept (member.Field name s) n h has = let same : member.Field name s ≡ n = cc in subst HasFewIn same has
  member_kept (member.Method m) n h has =
      let p = bind-ok (method_checked cs c m) (λ x. Ok (member.Method x)) n h in
      let same : member.Method p.0 ≡ n = cc (p.2) in
      subst HasFewIn same tt
  member_kept (member.Constraint x) n h has =
      let p = bind-ok (constraint_checked cs c x) (λ y. Ok (member.Constraint y)) n h in
      let same : member.Constraint p.0 ≡ n = cc (p.2) in
      subst HasFewIn same tt
  member_kept (member.Events kinds) n h has = let same : member.Events kinds ≡ n = cc in subst HasFewIn same has
  member_kept (member.Trigger t) n h has =
      let scope = member_scope cs c t.name t.params sort.Void in
      let p = bind-ok (trigger_checked cs c t) (λ x. Ok (member.Trigger x)) n h in
      let q = bind-ok (listed t.event scope) (λ e. body t.action scope >>= (λ ss. Ok (record t { event = e; action = ss }))) p.0 p.1 in
      let r = bind-ok (body t.action scope) (λ ss. Ok (record t { event = q.0; action = ss })) p.0 q.2 in
      let made : TriggerDecl = record t { event = q.0; action = r.0 } in
      let one : made ≡ p.0 = cc (r.2) in
      let two : member.Trigger p.0 ≡ n = cc (p.2) in
      subst HasFewIn two (subst HasFew one has)

  members_kept : (ms ns : List Member) → each (checked_member cs c) ms ≡ Ok ns → AllByRecursion HasFewIn ms → AllByRecursion HasFewIn ns
  members_kept [] ns h all = let none : List Member = [] in let same : none ≡ ns = cc in subst (AllByRecursion HasFewIn) same tt
  members_kept (m ∷ ms) ns h all =
      let p = bind-ok (checked_member cs c m) (λ x. each (checked_member cs c) ms >>= (λ xs. Ok (x ∷ xs))) ns h in
      let q = bind-ok (each (checked_member cs c) ms) (λ xs. Ok (p.0 ∷ xs)) ns p.2 in
      let same : p.0 ∷ q.0 ≡ ns = cc (q.2) in
      subst (AllByRecursion HasFewIn) same (member_kept m p.0 p.1 all.0, members_kept ms q.0 q.1 all.1)

with_kept : (c : Class) (m : Member) → AllByRecursion HasFew c.triggers → HasFewIn m → AllByRecursion HasFew (with_member c m).triggers
with_kept c (member.Field name s) all has = all
with_kept c (member.Method m) all has = all
with_kept c (member.Constraint x) all has = all
with_kept c (member.Events kinds) all has = all
with_kept c (member.Trigger t) all has = all_more HasFew c.triggers (t ∷ []) all (has, tt)

all_with : (ms : List Member) (c : Class) → AllByRecursion HasFew c.triggers → AllByRecursion HasFewIn ms → AllByRecursion HasFew (fold with_member c ms).triggers
all_with [] c all has = all
all_with (m ∷ ms) c all has = all_with ms (with_member c m) (with_kept c m all has.0) has.1

begins_without : (known : List Class) (d : ClassDecl) (start : Class) → begins known d ≡ Ok start → AllByRecursion HasFew start.triggers
unfolding begins
begins_without known d start h =
    let first = bind-ok (needs (Duplicate d.name) (is_none (class_named known d.name))) (λ _. parent_in known d.parent >>= (λ parent. numbered known d.name >>= (λ number. Ok (without_members number d.name parent)))) start h in
    let second = bind-ok (parent_in known d.parent) (λ parent. numbered known d.name >>= (λ number. Ok (without_members number d.name parent))) start first.2 in
    let third = bind-ok (numbered known d.name) (λ number. Ok (without_members number d.name second.0)) start second.2 in
    let is : without_members third.0 d.name second.0 ≡ start = cc (third.2) in
    subst (λ (x : Class). AllByRecursion HasFew x.triggers) is tt

few_kept : (known : List Class) (added : List Added) (d : ClassDecl) (c : Class) → check_grown known added d ≡ Ok c → AllByRecursion HasFewIn d.members
    → AllByRecursion HasFew c.triggers
few_kept known added d c h has =
    let came = came_of known added d c h in
    subst (AllByRecursion HasFew) (sym (grown_triggers added (fold with_member came.start came.members)) ∙ ap (λ (x : Class). x.triggers) came.made)
    (all_with came.members came.start (begins_without known d came.start came.begun) (members_kept (known ++ came.draft ∷ []) came.draft d.members came.members came.checked has))

-- ---- a class that is read

pub few_parameters : (piece : List ℕ) (d : ClassDecl) (known : List Class) (added : List Added) (c : Class) → statement_of piece ≡ Ok (statement.Class d)
    → check_grown known added d ≡ Ok c → AllByRecursion HasFew c.triggers
few_parameters piece d known added c read checked =
    let good = piece_good piece d read in
    few_kept known added d c checked (members_few good.0 good.1 d.members good.2.members)
