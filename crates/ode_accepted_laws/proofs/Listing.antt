-- Accepted classes list no more kinds than their texts have bytes together.
use Rattle.std.proofs.Common.{◌≡◌, ◌≤◌, ◌+◌, ℕ, List, [], ◌∷◌, ◌++◌, fold, length, map, Option, Some, None, Ok, refl, ap, sym, ◌∙◌, subst, arith}
use Rattle.std.specs.Prelude.{codes}
use Rattle.std.specs.List.{AllByRecursion, flat_map, sum_by}
use Rattle.std.specs.Option.{IfSome}
use Rattle.std.specs.Str.{bytes_eq}
use Rattle.std.proofs.lemmas.List.{append-nil, append_assoc, length-append, length-map, map-append}
use Rattle.std.proofs.lemmas.List.Sums.{sum_by_push}
use Rattle.ode_value.specs.declared.change.Added.{Added}
use Rattle.ode_value.specs.declared.class.Class.{Class}
use Rattle.ode_value.specs.declared.event.Kind.{Kind}
use Rattle.ode_value.specs.declared.statement.ClassDecl.{ClassDecl}
use Rattle.ode_value.specs.declared.statement.Member.{Member}
use Rattle.ode_value.specs.declared.statement.Member.TheVariants as member
use Rattle.ode_value.specs.Changing.{added_to}
use Rattle.ode_value.specs.Language.{Language}
use Rattle.ode_value.specs.PrintedClasses.{decl_text, in_braces, member_text, parent_text}
use Rattle.ode_value.specs.Printing.{kind_text, with_commas}
use Rattle.ode_value.specs.Worlds.{Declared}
use Rattle.ode_types.specs.Checks.{◌>>=◌, each}
use Rattle.ode_types.specs.Declaring.{with_added, with_member}
use Rattle.ode_types.specs.Static.{check_grown, checked_member, constraint_checked, method_checked, trigger_checked}
use Rattle.ode_types.proofs.CheckedClasses.{bind-ok, came_of}
use Rattle.ode_laws.proofs.Each.{all-append, all-find, all-map, all-then}
use Rattle.ode_sound_laws.specs.Sound.{checked_classes}
use Rattle.ode_accepted_laws.specs.Languages.{AreAccepted, HasStaticRules, text_size}
use Rattle.ode_accepted_laws.proofs.Members.{IsParent, begun, kinds_of}

-- ---- the kinds of members

abbrev pub kinds_in : Member → List Kind
kinds_in (member.Events kinds) = kinds
kinds_in (member.Field name s) = []
kinds_in (member.Method m) = []
kinds_in (member.Constraint x) = []
kinds_in (member.Trigger t) = []

with_kinds : (c : Class) (m : Member) → (with_member c m).kinds ≡ c.kinds ++ kinds_in m
with_kinds c (member.Events kinds) = refl
with_kinds c (member.Field name s) = sym (append-nil c.kinds)
with_kinds c (member.Method m) = sym (append-nil c.kinds)
with_kinds c (member.Constraint x) = sym (append-nil c.kinds)
with_kinds c (member.Trigger t) = sym (append-nil c.kinds)

fold_kinds : (ms : List Member) (c : Class) → (fold with_member c ms).kinds ≡ c.kinds ++ flat_map kinds_in ms
fold_kinds [] c = sym (append-nil c.kinds)
fold_kinds (m ∷ ms) c =
    fold_kinds ms (with_member c m) ∙ ap (λ ks. ks ++ flat_map kinds_in ms) (with_kinds c m) ∙ append_assoc c.kinds (kinds_in m) (flat_map kinds_in ms)

module _ (cs : List Class) (x : Class) where
  checked_kinds : (m n : Member) → checked_member cs x m ≡ Ok n → kinds_in n ≡ kinds_in m
  checked_kinds (member.Events kinds) n h = let same : member.Events kinds ≡ n = cc in ap kinds_in (sym same)
  checked_kinds (member.Field name s) n h = let same : member.Field name s ≡ n = cc in ap kinds_in (sym same)
  checked_kinds (member.Method m) n h =
      let p = bind-ok (method_checked cs x m) (λ k. Ok (member.Method k)) n h in
      let same : member.Method p.0 ≡ n = cc (p.2) in
      ap kinds_in (sym same)
  checked_kinds (member.Constraint y) n h =
      let p = bind-ok (constraint_checked cs x y) (λ k. Ok (member.Constraint k)) n h in
      let same : member.Constraint p.0 ≡ n = cc (p.2) in
      ap kinds_in (sym same)
  checked_kinds (member.Trigger t) n h =
      let p = bind-ok (trigger_checked cs x t) (λ k. Ok (member.Trigger k)) n h in
      let same : member.Trigger p.0 ≡ n = cc (p.2) in
      ap kinds_in (sym same)

  all_kinds : (ms ns : List Member) → each (checked_member cs x) ms ≡ Ok ns → flat_map kinds_in ns ≡ flat_map kinds_in ms
  all_kinds [] ns h = let none : List Member = [] in let same : none ≡ ns = cc in ap (flat_map kinds_in) (sym same)
  all_kinds (m ∷ ms) ns h =
      let p = bind-ok (checked_member cs x m) (λ n. each (checked_member cs x) ms >>= (λ js. Ok (n ∷ js))) ns h in
      let q = bind-ok (each (checked_member cs x) ms) (λ js. Ok (p.0 ∷ js)) ns p.2 in
      let same : p.0 ∷ q.0 ≡ ns = cc (q.2) in
      ap (flat_map kinds_in) (sym same) ∙ ap (λ ks. ks ++ flat_map kinds_in q.0) (checked_kinds m p.0 p.1) ∙ ap (λ ks. kinds_in m ++ ks) (all_kinds ms q.0 q.1)

-- ---- their text

longer_front : {X : Type 0} (xs ys : List X) → length xs ≤ length (xs ++ ys)
longer_front xs ys = let both : length (xs ++ ys) ≡ length xs + length ys = length-append xs ys in omega (arith, both)

longer_end : {X : Type 0} (xs ys : List X) → length ys ≤ length (xs ++ ys)
longer_end xs ys = let both : length (xs ++ ys) ≡ length xs + length ys = length-append xs ys in omega (arith, both)

-- each text but the first has a separator before it
commas_long : (texts : List (List ℕ)) → length texts ≤ length (flat_map (λ text. codes ", " ++ text) texts)
commas_long [] = omega arith
commas_long (t ∷ texts) =
    let past = commas_long texts in
    let here : length ((codes ", " ++ t) ++ flat_map (λ text. codes ", " ++ text) texts) ≡ length (codes ", " ++ t) + length (flat_map (λ text. codes ", " ++ text) texts) =
    length-append (codes ", " ++ t) (flat_map (λ text. codes ", " ++ text) texts) in
    omega (arith, past, here)

listed_long : (texts : List (List ℕ)) → length texts ≤ length (with_commas texts) + 1
listed_long [] = omega arith
listed_long (t ∷ texts) =
    let past = commas_long texts in
    let here = longer_end t (flat_map (λ text. codes ", " ++ text) texts) in
    omega (arith, past, here)

member_long : (m : Member) → length (kinds_in m) ≤ length (member_text m)
member_long (member.Field name s) = omega arith
member_long (member.Method m) = omega arith
member_long (member.Constraint x) = omega arith
member_long (member.Trigger t) = omega arith
member_long (member.Events kinds) =
    let texts = with_commas (map kind_text kinds) in
    let same : length (map kind_text kinds) ≡ length kinds = length-map kinds kind_text in
    let listed : length (map kind_text kinds) ≤ length texts + 1 = listed_long (map kind_text kinds) in
    let ended : length (texts ++ codes ";") ≡ length texts + length (codes ";") = length-append texts (codes ";") in
    omega (arith, same, listed, ended)

spaced_long : (ms : List Member) → length (flat_map kinds_in ms) ≤ length (flat_map (λ text. codes " " ++ text) (map member_text ms))
spaced_long [] = omega arith
spaced_long (m ∷ ms) =
    let past = spaced_long ms in
    let here = member_long m in
    let kinds : length (kinds_in m ++ flat_map kinds_in ms) ≡ length (kinds_in m) + length (flat_map kinds_in ms) = length-append (kinds_in m) (flat_map kinds_in ms) in
    let text : length ((codes " " ++ member_text m) ++ flat_map (λ t. codes " " ++ t) (map member_text ms)) ≡ length (codes " " ++ member_text m) + length (flat_map (λ t. codes " " ++ t) (map member_text ms)) =
    length-append (codes " " ++ member_text m) (flat_map (λ t. codes " " ++ t) (map member_text ms)) in
    omega (arith, past, here, kinds, text)

braces_long : (ms : List Member) → length (flat_map kinds_in ms) ≤ length (in_braces (map member_text ms))
braces_long [] = omega arith
braces_long (m ∷ ms) =
    let joined = member_text m ++ flat_map (λ t. codes " " ++ t) (map member_text ms) in
    let past = spaced_long ms in
    let here = member_long m in
    let kinds : length (kinds_in m ++ flat_map kinds_in ms) ≡ length (kinds_in m) + length (flat_map kinds_in ms) = length-append (kinds_in m) (flat_map kinds_in ms) in
    let text : length joined ≡ length (member_text m) + length (flat_map (λ t. codes " " ++ t) (map member_text ms)) = length-append (member_text m) (flat_map (λ t. codes " " ++ t) (map member_text ms)) in
    let ended : length joined ≤ length (joined ++ codes " }") = longer_front joined (codes " }") in
    omega (arith, past, here, kinds, text, ended)

decl_long : (d : ClassDecl) → length (flat_map kinds_in d.members) ≤ length (decl_text d)
decl_long d =
    let body = in_braces (map member_text d.members) in
    let inside : length (flat_map kinds_in d.members) ≤ length body = braces_long d.members in
    let whole : length body ≤ length (decl_text d) = longer_end (codes "class " ++ d.name ++ parent_text d.parent ++ codes " ") body in
    omega (arith, inside, whole)

-- ---- a class

-- the parent's kinds and its members', and no more own ones than the text has bytes
record HasKinds (known : List Class) (d : ClassDecl) (c : Class) : Type 0 where
  parent : Option Class
  there : IfSome parent (IsParent known)
  are : c.kinds ≡ kinds_of parent ++ flat_map kinds_in d.members
  few : length c.kinds ≤ length (kinds_of parent) + length (decl_text d)

-- fields that are added change no kinds
grown_kinds : (added : List Added) (c : Class) → (fold with_added c added).kinds ≡ c.kinds
grown_kinds [] c = refl
grown_kinds (a ∷ added) c = grown_kinds added (with_added c a)

has_kinds : (known : List Class) (added : List Added) (d : ClassDecl) (c : Class) → check_grown known added d ≡ Ok c → HasKinds known d c
has_kinds known added d c h =
    let came = came_of known added d c h in
    let ms = came.members in
    let begin = begun known d came.start came.begun in
    let cs = known ++ came.draft ∷ [] in
    let is : c.kinds ≡ kinds_of begin.parent ++ flat_map kinds_in d.members =
    sym (ap (λ (k : Class). k.kinds) came.made) ∙ grown_kinds added (fold with_member came.start ms) ∙ fold_kinds ms came.start ∙ ap (λ ks. ks ++ flat_map kinds_in ms) begin.kinds
    ∙ ap (λ ks. kinds_of begin.parent ++ ks) (all_kinds cs came.draft d.members ms came.checked) in
    let both : length (kinds_of begin.parent ++ flat_map kinds_in d.members) ≡ length (kinds_of begin.parent) + length (flat_map kinds_in d.members) = length-append (kinds_of begin.parent) (flat_map kinds_in d.members) in
    let own = decl_long d in
    let long : length c.kinds ≡ length (kinds_of begin.parent ++ flat_map kinds_in d.members) = ap (λ ks. length ks) is in
    record { parent = begin.parent; there = begin.there; are = is; few = omega (arith, both, own, long) }

-- ---- all classes

abbrev Few : ℕ → Class → Type 0
Few n c = length c.kinds ≤ n

parent_few : (n : ℕ) (known : List Class) → AllByRecursion (Few n) known → (parent : Option Class) → IfSome parent (IsParent known) → length (kinds_of parent) ≤ n
parent_few n known all None there = omega arith
parent_few n known all (Some p) there = all-find (Few n) (λ (c : Class). bytes_eq c.name there.0) known all p there.1

module _ (l : Language) (rules : HasStaticRules l) (added : List Added) where
  -- a class that is accepted behind others
  class_kinds : (earlier : List Declared) (c : Declared) → l.class_of (checked_classes earlier) (added_to c.class.number added) c.tree ≡ Ok c.class → HasKinds (checked_classes earlier) c.tree c.class
  class_kinds earlier c is =
      let own = added_to c.class.number added in has_kinds (checked_classes earlier) own c.tree c.class (ap (λ f. f (checked_classes earlier) own c.tree) (sym rules.class_of) ∙ is)

  pub kinds_few : (earlier cs : List Declared) → AllByRecursion (λ (c : Declared). Few (sum_by text_size earlier) c.class) earlier → AreAccepted l added (checked_classes earlier) cs
      → AllByRecursion (λ (c : Declared). Few (sum_by text_size (earlier ++ cs)) c.class) (earlier ++ cs)
  kinds_few earlier [] all accepted = subst (λ (es : List Declared). AllByRecursion (λ (c : Declared). Few (sum_by text_size es) c.class) es) (sym (append-nil earlier)) all
  kinds_few earlier (c ∷ cs) all accepted =
      let n = sum_by text_size earlier in
      let more : List Declared = earlier ++ c ∷ [] in
      let total : sum_by text_size more ≡ n + text_size c = sum_by_push text_size earlier c in
      let has = class_kinds earlier c accepted.0 in
      let above : length (kinds_of has.parent) ≤ n = parent_few n (checked_classes earlier) (all-map (Few n) (λ (d : Declared). d.class) earlier all) has.parent has.there in
      let here : Few (sum_by text_size more) c.class = omega (arith, total, above, has.few) in
      let old : AllByRecursion (λ (d : Declared). Few (sum_by text_size more) d.class) earlier =
      all-then (λ (d : Declared). Few n d.class) (λ (d : Declared). Few (sum_by text_size more) d.class) (λ d few. omega (arith, total, few)) earlier all in
      let both : AllByRecursion (λ (d : Declared). Few (sum_by text_size more) d.class) more = all-append (λ (d : Declared). Few (sum_by text_size more) d.class) earlier (c ∷ []) old (here, tt) in
      let next : AreAccepted l added (checked_classes more) cs = subst (λ es. AreAccepted l added es cs) (sym (map-append (λ (d : Declared). d.class) earlier (c ∷ []))) accepted.1 in
      subst (λ (es : List Declared). AllByRecursion (λ (d : Declared). Few (sum_by text_size es) d.class) es) (append_assoc earlier (c ∷ []) cs) (kinds_few more cs both next)

-- ---- what all kinds have

-- what the kinds of a class's own members have
abbrev pub ListsAll : (Kind → Type 0) → ClassDecl → Type 0
ListsAll P d = AllByRecursion P (flat_map kinds_in d.members)

abbrev pub HasAll : (Kind → Type 0) → Class → Type 0
HasAll P c = AllByRecursion P c.kinds

parent_all : (P : Kind → Type 0) (known : List Class) → AllByRecursion (HasAll P) known → (parent : Option Class) → IfSome parent (IsParent known) → AllByRecursion P (kinds_of parent)
parent_all P known all None there = tt
parent_all P known all (Some p) there = all-find (HasAll P) (λ (c : Class). bytes_eq c.name there.0) known all p there.1

-- the kinds of accepted classes have it too, those that they inherit among them
module _ (l : Language) (rules : HasStaticRules l) (added : List Added) (P : Kind → Type 0) where
  pub kinds_have : (earlier cs : List Declared) → AllByRecursion (λ (c : Declared). HasAll P c.class) earlier → AreAccepted l added (checked_classes earlier) cs
      → AllByRecursion (λ (c : Declared). ListsAll P c.tree) cs → AllByRecursion (λ (c : Declared). HasAll P c.class) (earlier ++ cs)
  kinds_have earlier [] all accepted listed = subst (λ (es : List Declared). AllByRecursion (λ (c : Declared). HasAll P c.class) es) (sym (append-nil earlier)) all
  kinds_have earlier (c ∷ cs) all accepted listed =
      let more : List Declared = earlier ++ c ∷ [] in
      let has = class_kinds l rules added earlier c accepted.0 in
      let above : AllByRecursion P (kinds_of has.parent) = parent_all P (checked_classes earlier) (all-map (HasAll P) (λ (d : Declared). d.class) earlier all) has.parent has.there in
      let here : HasAll P c.class = subst (AllByRecursion P) (sym has.are) (all-append P (kinds_of has.parent) (flat_map kinds_in c.tree.members) above listed.0) in
      let both : AllByRecursion (λ (d : Declared). HasAll P d.class) more = all-append (λ (d : Declared). HasAll P d.class) earlier (c ∷ []) all (here, tt) in
      let next : AreAccepted l added (checked_classes more) cs = subst (λ es. AreAccepted l added es cs) (sym (map-append (λ (d : Declared). d.class) earlier (c ∷ []))) accepted.1 in
      subst (λ (es : List Declared). AllByRecursion (λ (d : Declared). HasAll P d.class) es) (append_assoc earlier (c ∷ []) cs) (kinds_have more cs both next listed.1)
