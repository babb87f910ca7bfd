-- Classes that were checked one behind the other are typed by all of them.
use Rattle.std.proofs.Common.{◌≡◌, ◌≤◌, ◌<◌, ℕ, ◌+◌, List, [], ◌∷◌, ◌++◌, fold, length, Option, Some, None, Ok, refl, ap, sym, ◌∙◌, subst, arith, append-nil, append_assoc, length-append}
use Rattle.std.specs.Prelude.{is_none}
use Rattle.std.specs.List.{AllByRecursion}
use Rattle.std.specs.Option.{option_map, unwrap_or}
use Rattle.std.specs.Str.{bytes_eq}
use Rattle.ode_value.specs.declared.change.Added.{Added}
use Rattle.ode_value.specs.declared.class.Class.{Class}
use Rattle.ode_value.specs.declared.reason.CheckError.TheVariants.{Duplicate, UnknownName}
use Rattle.ode_value.specs.declared.statement.ClassDecl.{ClassDecl}
use Rattle.ode_value.specs.declared.statement.Member.{Member}
use Rattle.ode_value.specs.declared.statement.Member.TheVariants as member
use Rattle.ode_types.specs.Checked.{IsChecked}
use Rattle.ode_types.specs.Checked.{AreChecked, AreCheckedBehind}
use Rattle.ode_types.specs.Checks.{◌>>=◌, found, needs}
use Rattle.ode_types.specs.Declaring.{begins, numbered, parent_in, with_added, with_member, without_members}
use Rattle.ode_types.specs.Families.{class_named}
use Rattle.ode_types.specs.Kept.{IsTypedClass}
use Rattle.ode_types.proofs.CheckedClasses.{bind-ok, came_of, checked-next}
use Rattle.ode_types.proofs.KeptClasses.{typed_class}
use Rattle.ode_types.proofs.KeptEvents.{all_more}
use Rattle.ode_types.proofs.KeptLaws.{found-ok}
use Rattle.ode_typing_laws.proofs.Longer.{stays_typed}
use Rattle.ode_typing_laws.proofs.More.{IsNotBelow, find_in}

-- neither the class's number nor its parent's is above this one
pub record IsLow (n : ℕ) (c : Class) : Type 0 where
  pub number : c.number ≤ n
  pub parent : unwrap_or c.parent 0 ≤ n

-- members change no parent
same_parent : (c : Class) (m : Member) → (with_member c m).parent ≡ c.parent
same_parent c (member.Field name s) = refl
same_parent c (member.Method m) = refl
same_parent c (member.Constraint x) = refl
same_parent c (member.Events kinds) = refl
same_parent c (member.Trigger t) = refl

same_parents : (ms : List Member) (c : Class) → (fold with_member c ms).parent ≡ c.parent
same_parents [] c = refl
same_parents (m ∷ ms) c = same_parents ms (with_member c m) ∙ same_parent c m

-- nor do added fields
grown_parent : (added : List Added) (c : Class) → (fold with_added c added).parent ≡ c.parent
grown_parent [] c = refl
grown_parent (a ∷ added) c = grown_parent added (with_added c a)

-- the parent is among the classes that are known
low_parent : (known : List Class) (n : ℕ) → AllByRecursion (IsLow n) known → (name : Option (List ℕ)) (parent : Option Class) → parent_in known name ≡ Ok parent → unwrap_or (option_map (λ (p : Class). p.number) parent) 0 ≤ n
low_parent known n low None parent h =
    let none : Option Class = None in
    let same : none ≡ parent = cc in
    subst (λ (o : Option Class). unwrap_or (option_map (λ (p : Class). p.number) o) 0 ≤ n) same (omega arith)
low_parent known n low (Some name) parent h =
    let p = bind-ok (found (UnknownName name) (class_named known name)) (λ c. Ok (Some c)) parent h in
    let same : Some p.0 ≡ parent = cc (p.2) in
    let there = find_in (IsLow n) (λ (c : Class). bytes_eq c.name name) known low p.0 (found-ok (UnknownName name) (class_named known name) p.0 p.1) in
    subst (λ (o : Option Class). unwrap_or (option_map (λ (c : Class). c.number) o) 0 ≤ n) same there.number

begins_low : (known : List Class) (n : ℕ) → AllByRecursion (IsLow n) known → (d : ClassDecl) (start : Class) → begins known d ≡ Ok start → unwrap_or start.parent 0 ≤ n
unfolding begins
begins_low known n low d start h =
    let first = bind-ok (needs (Duplicate d.name) (is_none (class_named known d.name))) (λ _. parent_in known d.parent >>= (λ parent. numbered known d.name >>= (λ number. Ok (without_members number d.name parent)))) start h in
    let second = bind-ok (parent_in known d.parent) (λ parent. numbered known d.name >>= (λ number. Ok (without_members number d.name parent))) start first.2 in
    let third = bind-ok (numbered known d.name) (λ number. Ok (without_members number d.name second.0)) start second.2 in
    let is : without_members third.0 d.name second.0 ≡ start = cc (third.2) in
    subst (λ (x : Class). unwrap_or x.parent 0 ≤ n) is (low_parent known n low d.parent second.0 second.1)

pub checked_low : (known : List Class) (n : ℕ) → AllByRecursion (IsLow n) known → (c : Class) → IsChecked known c → unwrap_or c.parent 0 ≤ n
checked_low known n low c is =
    let came = came_of known is.added is.tree c is.checks in
    let members : Class = fold with_member came.start came.members in
    let parent : c.parent ≡ came.start.parent = sym (ap (λ (x : Class). x.parent) came.made) ∙ grown_parent is.added members ∙ same_parents came.members came.start in
    subst (λ o. unwrap_or o 0 ≤ n) (sym parent) (begins_low known n low is.tree came.start came.begun)

-- the same with a greater number
pub all_low : (m n : ℕ) → m ≤ n → (cs : List Class) → AllByRecursion (IsLow m) cs → AllByRecursion (IsLow n) cs
all_low m n less [] all = tt
all_low m n less (c ∷ cs) all = (record { number = omega (arith, all.0.number); parent = omega (arith, all.0.parent) }, all_low m n less cs all.1)

all_above : (m n : ℕ) → m < n → (cs : List Class) → AllByRecursion (IsLow m) cs → AllByRecursion (IsNotBelow n) cs
all_above m n less [] all = tt
all_above m n less (c ∷ cs) all = (λ e. absurd (omega (arith, all.0.parent, e)), all_above m n less cs all.1)

-- what is typed stays typed
all_stay : (cs : List Class) (d : Class) → AllByRecursion (IsNotBelow d.number) cs → (es : List Class) → AllByRecursion (IsNotBelow d.number) es → AllByRecursion (IsTypedClass cs) es → AllByRecursion (IsTypedClass (cs ++ d ∷ [])) es
all_stay cs d above [] others all = tt
all_stay cs d above (e ∷ es) others all = (stays_typed cs d above e others.0 all.0, all_stay cs d above es others.1 all.1)

chain : (cs known : List Class) → AllByRecursion (IsLow (length known)) known → AllByRecursion (IsTypedClass known) known → AreCheckedBehind known cs → AllByRecursion (IsTypedClass (known ++ cs)) (known ++ cs)
chain [] known low typed checked = subst (λ (all : List Class). AllByRecursion (IsTypedClass all) all) (sym (append-nil known)) typed
chain (c ∷ cs) known low typed checked =
    let n = length known in
    let next : List Class = known ++ c ∷ [] in
    let is = checked-next known c checked.0 in
    let longer : length next ≡ n + 1 = length-append known (c ∷ []) in
    let above : AllByRecursion (IsNotBelow c.number) known = all_above n c.number (omega (arith, is.number)) known low in
    let parent : unwrap_or c.parent 0 ≤ n = checked_low known n low c checked.0 in
    let here : IsLow (length next) c = record { number = omega (arith, longer, is.number); parent = omega (arith, longer, parent) } in
    let lower : AllByRecursion (IsLow (length next)) next = all_more (IsLow (length next)) known (c ∷ []) (all_low n (length next) (omega (arith, longer)) known low) (here, tt) in
    let one : IsTypedClass next c = typed_class known checked.0.added checked.0.tree c checked.0.checks in
    let all : AllByRecursion (IsTypedClass next) next = all_more (IsTypedClass next) known (c ∷ []) (all_stay known c above known above typed) (one, tt) in
    subst (λ (es : List Class). AllByRecursion (IsTypedClass es) es) (append_assoc known (c ∷ []) cs) (chain cs next lower all checked.1)

-- classes that were checked one behind the other
pub checked_typed : (cs : List Class) → AreChecked cs → AllByRecursion (IsTypedClass cs) cs
checked_typed cs checked = chain cs [] tt tt checked

pub ruleset checked_are_typed = (checked_typed)
