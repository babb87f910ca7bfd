-- The heads of accepted classes have spellings.
use Rattle.std.proofs.Common.{◌≡◌, ℕ, ◌+◌, ◌<◌, ◌≤◌, ◌^◌, List, [], ◌∷◌, ◌++◌, map, length, Bool, true, false, cond, Option, Some, None, Ok, refl, sym, ap, subst, ◌∙◌, arith, fold}
use Rattle.std.specs.List.{AllByRecursion}
use Rattle.std.specs.Option.{is_none, option_map, unwrap_or}
use Rattle.std.specs.Str.{bytes_eq}
use Rattle.std.proofs.lemmas.Bool.{leb-true}
use Rattle.std.proofs.lemmas.List.{map-append}
use Rattle.ode_codec.specs.Rules.{HasRanges, IsKept, IsRecord}
use Rattle.ode_language.specs.Languages.{ode}
use Rattle.ode_types.specs.Checks.{◌>>=◌, found, needs}
use Rattle.ode_types.specs.Declaring.{begins, numbered, parent_in, with_added, with_member, without_members}
use Rattle.ode_types.specs.Families.{class_named}
use Rattle.ode_types.specs.Static.{check_grown}
use Rattle.ode_types.proofs.CheckedClasses.{bind-ok, came_of}
use Rattle.ode_value.proofs.FreeNames.{free_name}
use Rattle.ode_value.specs.Changing.{added_to}
use Rattle.ode_value.specs.GoodWorlds.{AreClasses, IsClass}
use Rattle.ode_value.specs.Lengths.{piece_count}
use Rattle.ode_value.specs.Limits.{class_limit, value_limit}
use Rattle.ode_value.specs.PrintedClasses.{decl_text}
use Rattle.ode_value.specs.Text.{IsName}
use Rattle.ode_value.specs.Worlds.{Declared}
use Rattle.ode_value.specs.declared.change.Added.{Added}
use Rattle.ode_value.specs.declared.class.Class.{Class}
use Rattle.ode_value.specs.declared.reason.CheckError.TheVariants.{Duplicate, UnknownName}
use Rattle.ode_value.specs.declared.statement.ClassDecl.{ClassDecl}
use Rattle.ode_value.specs.declared.statement.Member.{Member}
use Rattle.ode_value.specs.declared.statement.Member.TheVariants as member
use Rattle.ode_opening_laws.specs.Holding.{class_of, head_of}
use Rattle.ode_opening_laws.proofs.Limits.{few_triggers_of, short_of}
use Rattle.ode_opening_laws.proofs.Named.{class_is_named}

-- members change neither name nor parent
record SameHead (c d : Class) : Type 0 where
  name : d.name ≡ c.name
  parent : d.parent ≡ c.parent

same_member : (c : Class) (m : Member) → SameHead c (with_member c m)
same_member c (member.Field name s) = record { name = refl; parent = refl }
same_member c (member.Method m) = record { name = refl; parent = refl }
same_member c (member.Constraint x) = record { name = refl; parent = refl }
same_member c (member.Events kinds) = record { name = refl; parent = refl }
same_member c (member.Trigger t) = record { name = refl; parent = refl }

same_members : (ms : List Member) (c : Class) → SameHead c (fold with_member c ms)
same_members [] c = record { name = refl; parent = refl }
same_members (m ∷ ms) c =
    let here = same_member c m in
    let rest = same_members ms (with_member c m) in
    record { name = rest.name ∙ here.name; parent = rest.parent ∙ here.parent }

-- nor do added fields
same_grown : (added : List Added) (c : Class) → SameHead c (fold with_added c added)
same_grown [] c = record { name = refl; parent = refl }
same_grown (a ∷ added) c = let rest = same_grown added (with_added c a) in record { name = rest.name; parent = rest.parent }

-- what a class has of its tree, and of its parent
record HasHead (known : List Class) (d : ClassDecl) (c : Class) : Type 0 where
  above : Option Class
  there : parent_in known d.parent ≡ Ok above
  name : c.name ≡ d.name
  parent : c.parent ≡ option_map (λ (p : Class). p.number) above

begun : (known : List Class) (d : ClassDecl) (c : Class) → begins known d ≡ Ok c → HasHead known d c
unfolding begins
begun known d c h =
    let first = bind-ok (needs (Duplicate d.name) (is_none (class_named known d.name))) (λ _. parent_in known d.parent >>= (λ parent. numbered known d.name >>= (λ number. Ok (without_members number d.name parent)))) c h in
    let second = bind-ok (parent_in known d.parent) (λ parent. numbered known d.name >>= (λ number. Ok (without_members number d.name parent))) c first.2 in
    let third = bind-ok (numbered known d.name) (λ number. Ok (without_members number d.name second.0)) c second.2 in
    let is : without_members third.0 d.name second.0 ≡ c = cc (third.2) in
    record {
      above = second.0;
      there = second.1;
      name = sym (ap (λ (x : Class). x.name) is);
      parent = sym (ap (λ (x : Class). x.parent) is);
    }

has_head : (known : List Class) (added : List Added) (d : ClassDecl) (c : Class) → check_grown known added d ≡ Ok c → HasHead known d c
has_head known added d c checks =
    let came = came_of known added d c checks in
    let head = same_members came.members came.start in
    let more = same_grown added (fold with_member came.start came.members) in
    let start = begun known d came.start came.begun in
    record {
      above = start.above;
      there = start.there;
      name = sym (ap (λ (x : Class). x.name) came.made) ∙ more.name ∙ head.name ∙ start.name;
      parent = sym (ap (λ (x : Class). x.parent) came.made) ∙ more.parent ∙ head.parent ∙ start.parent;
    }

-- ---- the parent's number

abbrev pub IsLow : Class → Type 0
IsLow c = c.number < 2 ^ 32

named_step : (c q : Class) (cs : List Class) (name : List ℕ) → IsLow c → (class_named cs name ≡ Some q → IsLow q) → (b : Bool) → cond b (Some c) (class_named cs name) ≡ Some q → IsLow q
named_step c q cs name low more true is = let same : c ≡ q = cc in subst IsLow same low
named_step c q cs name low more false is = more is

named_low : (cs : List Class) (name : List ℕ) (q : Class) → AllByRecursion IsLow cs → class_named cs name ≡ Some q → IsLow q
named_low [] name q all is = absurd (cc)
named_low (c ∷ cs) name q all is = named_step c q cs name all.0 (named_low cs name q all.1) (bytes_eq c.name name) is

abbrev LowIn : Option Class → Type 0
LowIn o = unwrap_or (option_map (λ (p : Class). p.number) o) 0 < 2 ^ 32

parent_low : (known : List Class) (o : Option (List ℕ)) (p : Option Class) → AllByRecursion IsLow known → parent_in known o ≡ Ok p → LowIn p
parent_low known None p all is = let same : None ≡ p = cc in subst LowIn same (omega arith)
parent_low known (Some name) p all is = by (class_named known name) refl is
  where
    by : (o : Option Class) → class_named known name ≡ o → (found (UnknownName name) o >>= λ q. Ok (Some q)) ≡ Ok p → LowIn p
    by None named got = absurd (cc)
    by (Some q) named got = let same : Some q ≡ p = cc (got) in subst LowIn same (named_low known name q all named)

-- ---- a head

text_low : (n : ℕ) → 1 + piece_count n ≤ class_limit → n < 2 ^ 32
unfolding class_limit value_limit
text_low n few = omega arith

head_kept : (added : List Added) (earlier : List Declared) (d : Declared) → AllByRecursion IsLow (map class_of earlier) → IsClass ode added earlier d → IsRecord (head_of d)
unfolding IsKept HasRanges
head_kept added earlier d low is =
    let head = has_head (map class_of earlier) (added_to d.class.number added) d.tree d.class is.checked in
    let free = class_is_named _ d.tree is.text in
    let name : IsName d.class.name = subst IsName (sym head.name) (free_name d.tree.name free) in
    let parent : unwrap_or d.class.parent 0 < 2 ^ 32 =
    subst (λ (o : Option ℕ). unwrap_or o 0 < 2 ^ 32) (sym head.parent) (parent_low (map class_of earlier) d.tree.parent head.above low head.there) in
    let short : length (decl_text d.tree) < 2 ^ 32 = text_low (length (decl_text d.tree)) (leb-true _ _ (short_of d is.limits)) in
    record { kept = tt; ranges = (is.low, name, parent, short, few_triggers_of added earlier d is) }

append_low : (xs : List Class) (c : Class) → AllByRecursion IsLow xs → IsLow c → AllByRecursion IsLow (xs ++ c ∷ [])
append_low [] c all low = (low, tt)
append_low (x ∷ xs) c all low = (all.0, append_low xs c all.1 low)

spelled_behind : (added : List Added) (earlier ds : List Declared) → AreClasses ode added earlier ds → AllByRecursion IsLow (map class_of earlier) → AllByRecursion (λ d. IsRecord (head_of d)) ds
spelled_behind added earlier [] classes low = tt
spelled_behind added earlier (d ∷ ds) classes low = (
  head_kept added earlier d low classes.0,
  spelled_behind added (earlier ++ d ∷ []) ds classes.1 (subst (AllByRecursion IsLow) (sym (map-append class_of earlier (d ∷ []))) (append_low (map class_of earlier) d.class low classes.0.low)),
)

pub heads_spelled : (added : List Added) (ds : List Declared) → AreClasses ode added [] ds → AllByRecursion (λ d. IsRecord (head_of d)) ds
heads_spelled added ds classes = spelled_behind added [] ds classes tt
