-- What a class that was checked has of its tree and of the classes before it.
use Rattle.std.proofs.Common.{◌≡◌, ◌+◌, List, [], ◌∷◌, ◌++◌, length, Bool, true, false, Some, None, Option, Ok, Err, refl, ap, sym, ◌∙◌, fold}
use Rattle.std.specs.Option.{is_none}
use Rattle.std.specs.Prelude.{nat_lt}
use Rattle.ode_value.specs.declared.change.Added.{Added}
use Rattle.ode_value.specs.declared.class.Class.{Class}
use Rattle.ode_value.specs.declared.reason.CheckError.{CheckError}
use Rattle.ode_value.specs.declared.reason.CheckError.TheVariants.{Duplicate, TooMany}
use Rattle.ode_value.specs.declared.statement.ClassDecl.{ClassDecl}
use Rattle.ode_value.specs.declared.statement.Member.{Member}
use Rattle.ode_value.specs.declared.statement.Member.TheVariants as member
use Rattle.ode_types.specs.Checks.{Check, ◌>>=◌, needs, each}
use Rattle.ode_types.specs.Checked.{IsChecked}
use Rattle.ode_types.specs.Declaring.{begins, declared, numbered, parent_in, with_added, with_member, without_members}
use Rattle.ode_types.specs.Families.{class_named}
use Rattle.ode_types.specs.Limits.{classes_limit}
use Rattle.ode_types.specs.Static.{check_grown, checked_member, completed, members_completed}

-- both parts of a check that is passed
pub bind-ok : {R S : Type 0} (m : Check R) (next : R → Check S) (s : S) → m >>= next ≡ Ok s → (r : R) × (m ≡ Ok r) × (next r ≡ Ok s)
bind-ok (Ok r) next s h = (r, refl, h)
bind-ok (Err e) next s h = absurd (cc)

-- a rule that is kept
pub needs-ok : (broken : CheckError) (holds : Bool) (u : Unit {0}) → needs broken holds ≡ Ok u → holds ≡ true
needs-ok broken true u h = refl
needs-ok broken false u h = absurd (cc)

-- members change neither number nor name
record SameHead (c d : Class) : Type 0 where
  number : d.number ≡ c.number
  name : d.name ≡ c.name

same_member : (c : Class) (m : Member) → SameHead c (with_member c m)
same_member c (member.Field name s) = record { number = refl; name = refl }
same_member c (member.Method m) = record { number = refl; name = refl }
same_member c (member.Constraint x) = record { number = refl; name = refl }
same_member c (member.Events kinds) = record { number = refl; name = refl }
same_member c (member.Trigger t) = record { number = refl; name = refl }

same_members : (ms : List Member) (c : Class) → SameHead c (fold with_member c ms)
same_members [] c = record { number = refl; name = refl }
same_members (m ∷ ms) c =
    let here = same_member c m in
    let rest = same_members ms (with_member c m) in
    record { number = rest.number ∙ here.number; name = rest.name ∙ here.name }

-- nor do added fields
same_grown : (added : List Added) (c : Class) → SameHead c (fold with_added c added)
same_grown [] c = record { number = refl; name = refl }
same_grown (a ∷ added) c = let rest = same_grown added (with_added c a) in record { number = rest.number; name = rest.name }

-- how a class came of a tree and of fields that are added to it: what it begins with, the first pass, and the members of the second
pub record CameOf (known : List Class) (added : List Added) (d : ClassDecl) (c : Class) : Type 0 where
  pub start : Class
  pub draft : Class
  pub members : List Member
  pub begun : begins known d ≡ Ok start
  pub drafted : declared known d added start ≡ Ok draft
  pub checked : each (checked_member (known ++ draft ∷ []) draft) d.members ≡ Ok members
  pub made : fold with_added (fold with_member start members) added ≡ c

pub came_of : (known : List Class) (added : List Added) (d : ClassDecl) (c : Class) → check_grown known added d ≡ Ok c → CameOf known added d c
unfolding check_grown members_completed
came_of known added d c h =
    let first = bind-ok (begins known d) (λ start. declared known d added start >>= (λ draft. completed (known ++ draft ∷ []) draft d added start)) c h in
    let start = first.0 in
    let second = bind-ok (declared known d added start) (λ draft. completed (known ++ draft ∷ []) draft d added start) c first.2 in
    let draft = second.0 in
    let cs = known ++ draft ∷ [] in
    let third = bind-ok (members_completed cs draft d start) (λ e. Ok (fold with_added e added)) c second.2 in
    let fourth = bind-ok (each (checked_member cs draft) d.members) (λ ms. Ok (fold with_member start ms)) third.0 third.1 in
    let whole : fold with_member start fourth.0 ≡ third.0 = cc (fourth.2) in
    let grown : fold with_added third.0 added ≡ c = cc (third.2) in
    record { start = start; draft = draft; members = fourth.0; begun = first.1; drafted = second.1; checked = fourth.1; made = ap (λ (x : Class). fold with_added x added) whole ∙ grown }

-- the class's name is new, and its number is the next one
pub record IsNext (known : List Class) (c : Class) : Type 0 where
  pub number : c.number ≡ length known + 1
  pub fresh : class_named known c.name ≡ None

none_there : (o : Option Class) → is_none o ≡ true → o ≡ None
none_there None h = refl
none_there (Some x) h = absurd (cc)

begins-next : (known : List Class) (d : ClassDecl) (c : Class) → begins known d ≡ Ok c → IsNext known c
unfolding begins
begins-next known d c h =
    let first = bind-ok (needs (Duplicate d.name) (is_none (class_named known d.name))) (λ _. parent_in known d.parent >>= (λ parent. numbered known d.name >>= (λ number. Ok (without_members number d.name parent)))) c h in
    let second = bind-ok (parent_in known d.parent) (λ parent. numbered known d.name >>= (λ number. Ok (without_members number d.name parent))) c first.2 in
    let third = bind-ok (numbered known d.name) (λ number. Ok (without_members number d.name second.0)) c second.2 in
    let next = bind-ok (needs (TooMany d.name) (nat_lt (length known) classes_limit)) (λ _. Ok (length known + 1)) third.0 third.1 in
    let is : without_members third.0 d.name second.0 ≡ c = cc (third.2) in
    let counted : length known + 1 ≡ third.0 = cc (next.2) in
    let fresh : class_named known d.name ≡ None = none_there (class_named known d.name) (needs-ok (Duplicate d.name) (is_none (class_named known d.name)) first.0 first.1) in
    record { number = sym (ap (λ (x : Class). x.number) is) ∙ sym counted; fresh = ap (λ (x : Class). class_named known x.name) (sym is) ∙ fresh }

pub checked-next : (known : List Class) (c : Class) → IsChecked known c → IsNext known c
checked-next known c is =
    let came = came_of known is.added is.tree c is.checks in
    let head = same_members came.members came.start in
    let more = same_grown is.added (fold with_member came.start came.members) in
    let start = begins-next known is.tree came.start came.begun in
    let number : c.number ≡ came.start.number = sym (ap (λ (x : Class). x.number) came.made) ∙ more.number ∙ head.number in
    let name : c.name ≡ came.start.name = sym (ap (λ (x : Class). x.name) came.made) ∙ more.name ∙ head.name in
    record { number = number ∙ start.number; fresh = ap (class_named known) name ∙ start.fresh }
