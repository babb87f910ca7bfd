-- The fields that a change of a class adds are good: names, sorts that are known, and literals of them.
use Rattle.std.proofs.Common.{◌≡◌, ℕ, zero, suc, ◌+◌, List, [], ◌∷◌, ◌++◌, fold, map, length, take, Bool, true, false, cond, Option, Some, None, Ok, refl, ap, sym, ◌∙◌, subst, arith}
use Rattle.std.specs.Prelude.{◌||◌, ◌==◌, is_none}
use Rattle.std.specs.List.{AllByRecursion, AllZip, enumerate_from, list_any}
use Rattle.std.specs.Option.{IsSome}
use Rattle.std.specs.Str.{bytes_eq}
use Rattle.std.proofs.lemmas.Bool.{and_parts, eqb-true, false≢true}
use Rattle.ode_value.specs.declared.change.Added.{Added}
use Rattle.ode_value.specs.declared.class.Class.{Class}
use Rattle.ode_value.specs.declared.reason.CheckError.TheVariants.{Duplicate, UnknownName}
use Rattle.ode_value.specs.declared.statement.ClassDecl.{ClassDecl}
use Rattle.ode_value.specs.declared.statement.Member.{Member}
use Rattle.ode_value.specs.declared.statement.Member.TheVariants as member
use Rattle.ode_value.specs.declared.statement.Sort.{Sort}
use Rattle.ode_value.specs.declared.statement.Sort.TheVariants as sort
use Rattle.ode_value.specs.declared.value.Ref.{Ref}
use Rattle.ode_value.specs.declared.value.Value.{Value}
use Rattle.ode_value.specs.declared.value.Value.TheVariants as value
use Rattle.ode_value.specs.Changing.{added_as}
use Rattle.ode_value.specs.Classes.{null}
use Rattle.ode_value.specs.Fitting.{IsLiteralOf}
use Rattle.ode_value.specs.GoodWorlds.{AreAdded, IsKnownSort}
use Rattle.ode_value.specs.Same.{same_ref, same_version}
use Rattle.ode_value.specs.Worlds.{Declared, class_named, class_numbered}
use Rattle.ode_types.specs.Checks.{◌>>=◌, needs}
use Rattle.ode_types.specs.Declaring.{begins, numbered, parent_in, with_added, with_member, without_members}
use Rattle.ode_types.specs.Families.{class_named as named_class}
use Rattle.ode_types.specs.Static.{check_grown}
use Rattle.ode_types.proofs.CheckedClasses.{bind-ok, came_of, needs-ok}
use Rattle.ode_evolve.specs.Evolving.{is_literal, is_named, knows_class}
use Rattle.ode_evolve.proofs.ChangedLaws.{IsNew}
use Rattle.ode_good_runs.specs.Reading.{IsReadField, IsReadValue}

-- ---- literals

no_version : (o : Option ℕ) → same_version o None ≡ true → o ≡ None
no_version None h = refl
no_version (Some n) h = absurd (false≢true h)

null_is : (r : Ref) → same_ref r (record { object = 0; version = None }) ≡ true → value.Reference r ≡ null
null_is r is =
    let parts = and_parts (r.object == 0) (same_version r.version None) is in
    let object : r.object ≡ 0 = eqb-true r.object 0 parts.0 in
    let version : r.version ≡ None = no_version r.version parts.1 in
    λ i. value.Reference (record { object = object i; version = version i })

literal_is : (s : Sort) (v : Value) → is_literal s v ≡ true → IsReadValue v → IsLiteralOf s v
literal_is sort.Int (value.Int n) is fits = fits
literal_is sort.Int (value.Bool b) is fits = absurd (false≢true is)
literal_is sort.Int (value.Text t) is fits = absurd (false≢true is)
literal_is sort.Int (value.Reference r) is fits = absurd (false≢true is)
literal_is sort.Bool (value.Int n) is fits = absurd (false≢true is)
literal_is sort.Bool (value.Bool b) is fits = tt
literal_is sort.Bool (value.Text t) is fits = absurd (false≢true is)
literal_is sort.Bool (value.Reference r) is fits = absurd (false≢true is)
literal_is sort.Text (value.Int n) is fits = absurd (false≢true is)
literal_is sort.Text (value.Bool b) is fits = absurd (false≢true is)
literal_is sort.Text (value.Text t) is fits = fits
literal_is sort.Text (value.Reference r) is fits = absurd (false≢true is)
literal_is (sort.Reference class) (value.Int n) is fits = absurd (false≢true is)
literal_is (sort.Reference class) (value.Bool b) is fits = absurd (false≢true is)
literal_is (sort.Reference class) (value.Text t) is fits = absurd (false≢true is)
literal_is (sort.Reference class) (value.Reference r) is fits = null_is r is
literal_is sort.Void v is fits = absurd (false≢true is)

-- ---- names of classes are those of their trees

member_name : (c : Class) (m : Member) → (with_member c m).name ≡ c.name
member_name c (member.Field name s) = refl
member_name c (member.Method m) = refl
member_name c (member.Constraint x) = refl
member_name c (member.Events kinds) = refl
member_name c (member.Trigger t) = refl

members_name : (ms : List Member) (c : Class) → (fold with_member c ms).name ≡ c.name
members_name [] c = refl
members_name (m ∷ ms) c = members_name ms (with_member c m) ∙ member_name c m

grown_name : (added : List Added) (c : Class) → (fold with_added c added).name ≡ c.name
grown_name [] c = refl
grown_name (a ∷ added) c = grown_name added (with_added c a)

begins_name : (known : List Class) (d : ClassDecl) (start : Class) → begins known d ≡ Ok start → start.name ≡ d.name
unfolding begins
begins_name known d start h =
    let first = bind-ok (needs (Duplicate d.name) (is_none (named_class known d.name))) (λ _. parent_in known d.parent >>= (λ parent. numbered known d.name >>= (λ number. Ok (without_members number d.name parent)))) start h in
    let second = bind-ok (parent_in known d.parent) (λ parent. numbered known d.name >>= (λ number. Ok (without_members number d.name parent))) start first.2 in
    let third = bind-ok (numbered known d.name) (λ number. Ok (without_members number d.name second.0)) start second.2 in
    let is : without_members third.0 d.name second.0 ≡ start = cc (third.2) in
    ap (λ (x : Class). x.name) (sym is)

pub name_is : (known : List Class) (added : List Added) (d : ClassDecl) (c : Class) → check_grown known added d ≡ Ok c → c.name ≡ d.name
name_is known added d c h =
    let came = came_of known added d c h in
    ap (λ (x : Class). x.name) (sym came.made) ∙ grown_name added (fold with_member came.start came.members) ∙ members_name came.members came.start ∙ begins_name known d came.start came.begun

-- ---- classes that keep their numbers and names

pub record KeepsHead (c d : Declared) : Type 0 where
  pub number : d.class.number ≡ c.class.number
  pub name : d.class.name ≡ c.class.name

abbrev pub KeepHeads : List Declared → List Declared → Type 0
KeepHeads old new = AllZip KeepsHead old new

pub numbered_stays : (old new : List Declared) → KeepHeads old new → (n : ℕ) → IsSome (class_numbered n old) → IsSome (class_numbered n new)
numbered_stays [] [] heads n some = some
numbered_stays [] (d ∷ new) heads n some = absurd heads
numbered_stays (c ∷ old) [] heads n some = absurd heads
numbered_stays (c ∷ old) (d ∷ new) heads n some =
    subst (λ m. IsSome (cond (m == n) (Some d.class) (class_numbered n new))) (sym heads.0.number) (by_number (c.class.number == n) some (numbered_stays old new heads.1 n)) where
      by_number : (b : Bool) → IsSome (cond b (Some c.class) (class_numbered n old)) → (IsSome (class_numbered n old) → IsSome (class_numbered n new)) → IsSome (cond b (Some d.class) (class_numbered n new))
      by_number true is rest = refl
      by_number false is rest = rest is

named_stays : (old new : List Declared) → KeepHeads old new → (name : List ℕ) → IsSome (class_named name old) → IsSome (class_named name new)
named_stays [] [] heads name some = some
named_stays [] (d ∷ new) heads name some = absurd heads
named_stays (c ∷ old) [] heads name some = absurd heads
named_stays (c ∷ old) (d ∷ new) heads name some =
    subst (λ m. IsSome (cond (bytes_eq m name) (Some d.class) (class_named name new))) (sym heads.0.name) (by_name (bytes_eq c.class.name name) some (named_stays old new heads.1 name)) where
      by_name : (b : Bool) → IsSome (cond b (Some c.class) (class_named name old)) → (IsSome (class_named name old) → IsSome (class_named name new)) → IsSome (cond b (Some d.class) (class_named name new))
      by_name true is rest = refl
      by_name false is rest = rest is

sort_stays : (old new : List Declared) → KeepHeads old new → (s : Sort) → IsKnownSort old s → IsKnownSort new s
sort_stays old new heads (sort.Reference name) known = named_stays old new heads name known
sort_stays old new heads sort.Int known = tt
sort_stays old new heads sort.Bool known = tt
sort_stays old new heads sort.Text known = tt
sort_stays old new heads sort.Void known = tt

-- what was added before stays
pub added_stay : (old new : List Declared) → KeepHeads old new → (birth : ℕ) (added : List Added) → AreAdded old birth added → AreAdded new birth added
added_stay old new heads birth [] all = tt
added_stay old new heads birth (a ∷ added) all = (
  all.0,
  record { class = numbered_stays old new heads a.class all.1.class; name = all.1.name; sort = sort_stays old new heads a.sort all.1.sort; literal = all.1.literal },
  added_stay old new heads (birth + 1) added all.2,
)

-- ---- new fields

-- the names of classes are those of their trees
abbrev pub AreNamed : List Declared → Type 0
AreNamed ds = AllByRecursion (λ (d : Declared). d.class.name ≡ d.tree.name) ds

named_there : (ds : List Declared) → AreNamed ds → (name : List ℕ) → list_any (is_named name) (map (λ (d : Declared). d.tree) ds) ≡ true → IsSome (class_named name ds)
named_there [] all name is = absurd (false≢true is)
named_there (d ∷ ds) all name is =
    subst (λ m. IsSome (cond (bytes_eq m name) (Some d.class) (class_named name ds))) (sym all.0) (by_name (bytes_eq d.tree.name name) is (named_there ds all.1 name)) where
      by_name : (b : Bool) → (b || list_any (is_named name) (map (λ (e : Declared). e.tree) ds)) ≡ true → (list_any (is_named name) (map (λ (e : Declared). e.tree) ds) ≡ true → IsSome (class_named name ds))
          → IsSome (cond b (Some d.class) (class_named name ds))
      by_name true h rest = refl
      by_name false h rest = rest h

any_taken : (p : ClassDecl → Bool) (n : ℕ) (xs : List ClassDecl) → list_any p (take n xs) ≡ true → list_any p xs ≡ true
any_taken p zero xs h = absurd (false≢true h)
any_taken p (suc n) [] h = h
any_taken p (suc n) (x ∷ xs) h = by_first (p x) h (any_taken p n xs) where
  by_first : (b : Bool) → (b || list_any p (take n xs)) ≡ true → (list_any p (take n xs) ≡ true → list_any p xs ≡ true) → (b || list_any p xs) ≡ true
  by_first true e rest = refl
  by_first false e rest = rest e

known_sort : (n : ℕ) (ds : List Declared) → AreNamed ds → (s : Sort) → knows_class (take n (map (λ (d : Declared). d.tree) ds)) s ≡ Ok tt → IsKnownSort ds s
known_sort n ds all (sort.Reference name) h =
    let trees = map (λ (d : Declared). d.tree) ds in
    named_there ds all name (any_taken (is_named name) n trees (needs-ok (UnknownName name) (list_any (is_named name) (take n trees)) tt h))
known_sort n ds all sort.Int h = tt
known_sort n ds all sort.Bool h = tt
known_sort n ds all sort.Text h = tt
known_sort n ds all sort.Void h = tt

module _ (old new : List Declared) (heads : KeepHeads old new) (named : AreNamed old) (n class : ℕ) (there : IsSome (class_numbered class new)) where
  pub new_added : (fs : List (List ℕ × Sort × Value)) (birth : ℕ) → AllByRecursion (IsNew (take n (map (λ (d : Declared). d.tree) old))) fs → AllByRecursion IsReadField fs
      → AreAdded new birth (map (added_as class) (enumerate_from birth fs))
  new_added [] birth fresh read = tt
  new_added (f ∷ fs) birth fresh read = (
    refl,
    record {
      class = there;
      name = read.0.name;
      sort = sort_stays old new heads f.1 (known_sort n old named f.1 fresh.0.known);
      literal = literal_is f.1 f.2 fresh.0.literal read.0.value;
    },
    new_added fs (birth + 1) fresh.1 read.1,
  )

-- one behind the other
pub added_append : (cs : List Declared) (birth : ℕ) (xs ys : List Added) → AreAdded cs birth xs → AreAdded cs (birth + length xs) ys → AreAdded cs birth (xs ++ ys)
added_append cs birth [] ys all more = let same : birth + 0 ≡ birth = omega arith in subst (λ m. AreAdded cs m ys) same more
added_append cs birth (x ∷ xs) ys all more =
    let same : birth + suc (length xs) ≡ birth + 1 + length xs = omega arith in
    (all.0, all.1, added_append cs (birth + 1) xs ys all.2 (subst (λ m. AreAdded cs m ys) same more))
