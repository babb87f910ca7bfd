-- Look-ups along a line: what is found above is found below, with the same sorts, and a trigger is the same whether one begins at the
-- class or at its first ancestor.
use Rattle.std.proofs.Common.{◌≡◌, ◌<◌, ℕ, ◌+◌, List, [], ◌∷◌, ◌++◌, map, reverse, length, Bool, true, false, cond, ◌==◌, Option, Some, None, refl, ap, sym, ◌∙◌, subst, arith}
use Rattle.std.specs.Prelude.{◌&&◌, ◌||◌, slice_get}
use Rattle.std.specs.List.{AllByRecursion, AllZip, enumerate_from, find, flat_map, list_any}
use Rattle.std.specs.Option.{option_map, option_map_or, option_or, unwrap_or}
use Rattle.std.specs.Str.{bytes_eq}
use Rattle.std.proofs.lemmas.Bool.{and_parts, eq-eqb}
use Rattle.std.proofs.lemmas.Bool.Decides.{nat_tests}
use Rattle.std.proofs.lemmas.List.{append_assoc, length-append}
use Rattle.std.proofs.lemmas.List.Folds.{find-append}
use Rattle.ode_value.specs.declared.binding.Param.{Param}
use Rattle.ode_value.specs.declared.class.Class.{Class}
use Rattle.ode_value.specs.declared.member.Method.{Method}
use Rattle.ode_value.specs.declared.member.TriggerDecl.{TriggerDecl}
use Rattle.ode_value.specs.Classes.{Trigger, own_triggers, trigger_of}
use Rattle.ode_value.specs.Firings.{is_of}
use Rattle.ode_value.specs.Same.{same_sort}
use Rattle.ode_types.specs.Declaring.{same_params, same_shape}
use Rattle.ode_types.specs.Families.{class_named, line_of, method_named, trigger_named, upward}
use Rattle.ode_types.proofs.ClassLists.{slice_get-behind}
use Rattle.ode_types.proofs.FamilyLaws.{method_named-next, method_named-own, trigger_named-next, trigger_named-own}
use Rattle.ode_laws.proofs.Each.{all-append, all-find, all-then}
use Rattle.ode_laws.proofs.Rows as rows
use Rattle.ode_sound_laws.specs.Sound.{activation_by}
use Rattle.ode_sound_laws.proofs.Basics.{found_same}
use Rattle.ode_sound_laws.proofs.ExprLaws.{find_passes, sort_same}
use Rattle.ode_sound_laws.proofs.SettleLaws.{both}
use Rattle.ode_sound_laws.proofs.WalkPosting.{all-flat}
use Rattle.ode_accepted_laws.proofs.Lists.{all-reverse, find-none, flat-next, names_same}
use Rattle.ode_accepted_laws.proofs.Lines.{Continues, IsLine, IsPlaced, upward_number}
use Rattle.ode_accepted_laws.proofs.Members.{Begins, IsFresh, IsShaped}

-- ---- from a class up

-- a line in which a class is named ends with that class's line
pub record Reaches (line below : List Class) : Type 0 where
  pub front : List Class
  pub is : line ≡ front ++ below

pub reach : (cs : List Class) (c : Class) → IsPlaced cs c → (n : ℕ) (line : List Class) → upward n (reverse cs) ≡ line → AllByRecursion (IsPlaced cs) line → list_any (λ (e : Class). bytes_eq e.name c.name) line ≡ true → Reaches line (line_of cs c)
reach cs c placed n [] is all any = absurd (cc)
reach cs c placed n (e ∷ line) is all any =
    let here : upward n (reverse cs) ≡ line_of cs e = ap (λ m. upward m (reverse cs)) (sym (upward_number n (reverse cs) e line is)) ∙ all.0.line in
    let above : e ∷ line ≡ line_of cs e = sym is ∙ here in
    let rest : upward (unwrap_or e.parent 0) (reverse cs) ≡ line = cc (above) in
    by_test above (bytes_eq e.name c.name) (names_same e.name c.name) any (reach cs c placed (unwrap_or e.parent 0) line rest all.1)
  where
    by_test : e ∷ line ≡ line_of cs e → (b : Bool) → (b ≡ true → e.name ≡ c.name) → (b || list_any (λ (d : Class). bytes_eq d.name c.name) line) ≡ true
        → (list_any (λ (d : Class). bytes_eq d.name c.name) line ≡ true → Reaches line (line_of cs c)) → Reaches (e ∷ line) (line_of cs c)
    by_test above true same found past =
        let it : e ≡ c = found_same (class_named cs c.name) e c (ap (class_named cs) (sym (same refl)) ∙ all.0.named) placed.named in
        record { front = []; is = above ∙ ap (line_of cs) it }
    by_test above false same found past =
        let up = past found in
        record { front = e ∷ up.front; is = ap (λ l. e ∷ l) up.is }

-- ---- fields

pub fields_along : (front above : List Class) (c d : Class) (line : List Class) → d ∷ line ≡ front ++ c ∷ above → IsLine (front ++ c ∷ above) → Begins c.fields d.fields
fields_along [] above c d line is all place f at = let same : c ≡ d = cc in subst (λ (e : Class). slice_get e.fields place ≡ Some f) same at
fields_along (e ∷ []) above c d line is all place f at = let same : e ≡ d = cc in subst (λ (x : Class). slice_get x.fields place ≡ Some f) same (all.0.fields place f at)
fields_along (e ∷ p ∷ front) above c d line is all place f at =
    let same : e ≡ d = cc in
    subst (λ (x : Class). slice_get x.fields place ≡ Some f) same (all.0.fields place f (fields_along (p ∷ front) above c p (front ++ c ∷ above) refl all.1 place f at))

-- ---- methods

-- a method has the sorts of another one
pub record HasSorts (m n : Method) : Type 0 where
  pub params : AllZip (λ (p q : Param). q.sort ≡ p.sort) m.params n.params
  pub result : n.result ≡ m.result

same_itself : (ps : List Param) → AllZip (λ (p q : Param). q.sort ≡ p.sort) ps ps
same_itself [] = tt
same_itself (p ∷ ps) = (refl, same_itself ps)

same_on : (ps qs rs : List Param) → AllZip (λ (p q : Param). q.sort ≡ p.sort) ps qs → AllZip (λ (p q : Param). q.sort ≡ p.sort) qs rs → AllZip (λ (p q : Param). q.sort ≡ p.sort) ps rs
same_on [] [] [] one two = tt
same_on (p ∷ ps) (q ∷ qs) (r ∷ rs) one two = (two.0 ∙ one.0, same_on ps qs rs one.1 two.1)
same_on [] [] (r ∷ rs) one two = absurd two
same_on [] (q ∷ qs) rs one two = absurd one
same_on (p ∷ ps) [] rs one two = absurd one
same_on (p ∷ ps) (q ∷ qs) [] one two = absurd two

params_same : (qs ps : List Param) → same_params qs ps ≡ true → AllZip (λ (p q : Param). q.sort ≡ p.sort) ps qs
params_same [] [] h = tt
params_same (q ∷ qs) (p ∷ ps) h =
    let parts = and_parts (same_sort q.sort p.sort) (same_params qs ps) h in
    (sort_same q.sort p.sort parts.0, params_same qs ps parts.1)
params_same [] (p ∷ ps) h = absurd (cc)
params_same (q ∷ qs) [] h = absurd (cc)

shape_sorts : (n m : Method) → same_shape n m ≡ true → HasSorts m n
shape_sorts n m h =
    let parts = and_parts (same_sort n.result m.result) (same_params n.params m.params) h in
    record { params = params_same n.params m.params parts.1; result = sort_same n.result m.result parts.0 }

-- the method below of the name of one above
pub record IsBelow (line : List Class) (name : List ℕ) (m : Method) : Type 0 where
  pub method : Method
  pub found : method_named line name ≡ Some method
  pub sorts : HasSorts m method

pub methods_along : (front above : List Class) → IsLine (front ++ above) → (name : List ℕ) (m : Method) → method_named above name ≡ Some m → IsBelow (front ++ above) name m
methods_along [] above line name m h = record { method = m; found = h; sorts = record { params = same_itself m.params; result = refl } }
methods_along (c ∷ front) above line name m h = by_own (methods_along front above line.1 name m h) (method_named (c ∷ []) name) refl where
  by_own : IsBelow (front ++ above) name m → (o : Option Method) → method_named (c ∷ []) name ≡ o → IsBelow (c ∷ front ++ above) name m
  by_own past None own = record {
    method = past.method;
    found = method_named-next c (front ++ above) name ∙ ap (λ o. option_or o (method_named (front ++ above) name)) own ∙ past.found;
    sorts = past.sorts;
  }
  by_own past (Some k) own =
      let here : find (λ (n : Method). bytes_eq n.name name) c.methods ≡ Some k = sym (method_named-own c name) ∙ own in
      let is : k.name ≡ name = names_same k.name name (find_passes (λ (n : Method). bytes_eq n.name name) c.methods k here) in
      let shaped : IsShaped (front ++ above) k = all-find (IsShaped (front ++ above)) (λ (n : Method). bytes_eq n.name name) c.methods line.0.methods k here in
      let same : same_shape k past.method ≡ true = ap (λ o. option_map_or (same_shape k) o true) (sym (ap (method_named (front ++ above)) is ∙ past.found)) ∙ shaped in
      let sorts = shape_sorts k past.method same in
      record {
        method = k;
        found = method_named-next c (front ++ above) name ∙ ap (λ o. option_or o (method_named (front ++ above) name)) own;
        sorts = record { params = same_on m.params past.method.params k.params past.sorts.params sorts.params; result = sorts.result ∙ past.sorts.result };
      }

-- ---- triggers by name

-- those of a line, its first ancestor's first
abbrev pub triggers_from : List Class → List Trigger
triggers_from line = flat_map own_triggers (reverse line)

-- a trigger that is named above isn't among a class's own
own_none : (c : Class) (above : List Class) → Continues above c → (name : List ℕ) (t : TriggerDecl) → trigger_named above name ≡ Some t → trigger_named (c ∷ []) name ≡ None
own_none c above on name t h = trigger_named-own c name ∙ by_own (find (λ (u : TriggerDecl). bytes_eq u.name name) c.triggers) refl where
  by_own : (o : Option TriggerDecl) → find (λ (u : TriggerDecl). bytes_eq u.name name) c.triggers ≡ o → o ≡ None
  by_own None own = refl
  by_own (Some u) own =
      let is : u.name ≡ name = names_same u.name name (find_passes (λ (v : TriggerDecl). bytes_eq v.name name) c.triggers u own) in
      let fresh : IsFresh above u = all-find (IsFresh above) (λ (v : TriggerDecl). bytes_eq v.name name) c.triggers on.triggers u own in
      let none : None ≡ Some t = sym fresh.fresh ∙ ap (trigger_named above) is ∙ h in
      absurd (cc)

pub triggers_along : (front above : List Class) → IsLine (front ++ above) → (name : List ℕ) (t : TriggerDecl) → trigger_named above name ≡ Some t → trigger_named (front ++ above) name ≡ Some t
triggers_along [] above line name t h = h
triggers_along (c ∷ front) above line name t h =
    let past = triggers_along front above line.1 name t h in
    trigger_named-next c (front ++ above) name ∙ ap (λ o. option_or o (trigger_named (front ++ above) name)) (own_none c (front ++ above) line.0 name t past) ∙ past

abbrev is_named : List ℕ → Trigger → Bool
is_named name t = bytes_eq t.decl.name name

abbrev tree_of : Option Trigger → Option TriggerDecl
tree_of o = option_map (λ (t : Trigger). t.decl) o

own_found : (class n : ℕ) (ts : List TriggerDecl) (name : List ℕ) → tree_of (find (is_named name) (map (trigger_of class) (enumerate_from n ts))) ≡ find (λ (t : TriggerDecl). bytes_eq t.name name) ts
own_found class n [] name = refl
own_found class n (t ∷ ts) name = by_test (bytes_eq t.name name) (own_found class (n + 1) ts name) where
  by_test : (b : Bool) → tree_of (find (is_named name) (map (trigger_of class) (enumerate_from (n + 1) ts))) ≡ find (λ (u : TriggerDecl). bytes_eq u.name name) ts
      → tree_of (cond b (Some (trigger_of class (n, t))) (find (is_named name) (map (trigger_of class) (enumerate_from (n + 1) ts)))) ≡ cond b (Some t) (find (λ (u : TriggerDecl). bytes_eq u.name name) ts)
  by_test true past = refl
  by_test false past = past

-- the trigger of a name is the same, whether one begins below or above
pub same_found : (line : List Class) → IsLine line → (name : List ℕ) → tree_of (find (is_named name) (triggers_from line)) ≡ trigger_named line name
same_found [] all name = refl
same_found (c ∷ line) all name =
    ap (λ ts. tree_of (find (is_named name) ts)) (flat-next own_triggers c line)
    ∙ ap tree_of (find-append (is_named name) (triggers_from line) (own_triggers c))
    ∙ by_above (find (is_named name) (triggers_from line)) (same_found line all.1 name) ∙ sym (trigger_named-next c line name)
  where
    own : tree_of (find (is_named name) (own_triggers c)) ≡ trigger_named (c ∷ []) name
    own = own_found c.number 0 c.triggers name ∙ sym (trigger_named-own c name)

    only : (o : Option TriggerDecl) → o ≡ option_or o None
    only None = refl
    only (Some t) = refl

    by_above : (o : Option Trigger) → tree_of o ≡ trigger_named line name → tree_of (option_or o (find (is_named name) (own_triggers c))) ≡ option_or (trigger_named (c ∷ []) name) (trigger_named line name)
    by_above None is = own ∙ only (trigger_named (c ∷ []) name) ∙ ap (option_or (trigger_named (c ∷ []) name)) is
    by_above (Some t) is = is ∙ sym (ap (λ o. option_or o (trigger_named line name)) (own_none c line all.0 name t.decl (sym is)))

-- ---- triggers by place

-- a class's own trigger
pub record IsOwn (c : Class) (t : Trigger) : Type 0 where
  pub class : t.class ≡ c.number
  pub at : slice_get c.triggers t.place ≡ Some t.decl

own_from : (c : Class) (front ts : List TriggerDecl) (n : ℕ) → n ≡ length front → c.triggers ≡ front ++ ts → AllByRecursion (IsOwn c) (map (trigger_of c.number) (enumerate_from n ts))
own_from c front [] n is all = tt
own_from c front (t ∷ ts) n is all = (
  record { class = refl; at = ap (λ us. slice_get us n) all ∙ ap (slice_get (front ++ t ∷ ts)) is ∙ slice_get-behind (λ _. true) front t ts },
  own_from c (front ++ t ∷ []) ts (n + 1) (let longer : length (front ++ t ∷ []) ≡ length front + 1 = length-append front (t ∷ []) in omega (arith, is, longer)) (all ∙ sym (append_assoc front (t ∷ []) ts)),
)

pub all_own : (c : Class) → AllByRecursion (IsOwn c) (own_triggers c)
all_own c = own_from c [] c.triggers 0 refl refl

-- what holds of each tree holds of each own trigger
own_trees : (P : TriggerDecl → Type 0) (class n : ℕ) (ts : List TriggerDecl) → AllByRecursion P ts → AllByRecursion (λ (t : Trigger). P t.decl) (map (trigger_of class) (enumerate_from n ts))
own_trees P class n [] all = tt
own_trees P class n (t ∷ ts) all = (all.0, own_trees P class (n + 1) ts all.1)

pub all_trees : (P : TriggerDecl → Type 0) (c : Class) → AllByRecursion P c.triggers → AllByRecursion (λ (t : Trigger). P t.decl) (own_triggers c)
all_trees P c all = own_trees P c.number 0 c.triggers all

-- a trigger is found by its class and its place
abbrev pub IsFoundIn : List Trigger → Trigger → Type 0
IsFoundIn ts t = find (λ (u : Trigger). is_of u (activation_by t)) ts ≡ Some t

-- not of this one: it has another class, or another place
other_class : (t u : Trigger) → u.class < t.class → is_of u (activation_by t) ≡ false
other_class t u less = grind (arith, nat_tests)

other_place : (t u : Trigger) → u.place < t.place → is_of u (activation_by t) ≡ false
other_place t u less = by_class (t.class == u.class) where
  apart-from : (t.place == u.place) ≡ false
  apart-from = grind (arith, nat_tests)

  by_class : (b : Bool) → (b && (t.place == u.place)) ≡ false
  by_class true = apart-from
  by_class false = refl

of_itself : (t : Trigger) → is_of t (activation_by t) ≡ true
of_itself t = ap (λ b. b && (t.place == t.place)) (eq-eqb t.class t.class refl) ∙ eq-eqb t.place t.place refl

places_from : (class low n : ℕ) → low < n → (ts : List TriggerDecl) → AllByRecursion (λ (t : Trigger). low < t.place) (map (trigger_of class) (enumerate_from n ts))
places_from class low n less [] = tt
places_from class low n less (t ∷ ts) = (less, places_from class low (n + 1) (omega (arith, less)) ts)

found_from : (class n : ℕ) (ts : List TriggerDecl) → AllByRecursion (IsFoundIn (map (trigger_of class) (enumerate_from n ts))) (map (trigger_of class) (enumerate_from n ts))
found_from class n [] = tt
found_from class n (t ∷ ts) =
    let here = trigger_of class (n, t) in
    let rest = map (trigger_of class) (enumerate_from (n + 1) ts) in (
      ap (λ b. cond b (Some here) (find (λ (u : Trigger). is_of u (activation_by here)) rest)) (of_itself here),
      all-then (λ (u : Trigger). IsFoundIn rest u × (n < u.place)) (IsFoundIn (here ∷ rest))
          (λ u h. ap (λ b. cond b (Some here) (find (λ (v : Trigger). is_of v (activation_by u)) rest)) (other_place u here h.1) ∙ h.0) rest
          (both (IsFoundIn rest) (λ (u : Trigger). n < u.place) rest (found_from class (n + 1) ts) (places_from class n (n + 1) (omega arith) ts)),
    )

pub found_each : (line : List Class) → IsLine line → AllByRecursion (IsFoundIn (triggers_from line)) (triggers_from line)
found_each [] all = tt
found_each (c ∷ line) all = subst (λ ts. AllByRecursion (IsFoundIn ts) ts) (sym (flat-next own_triggers c line)) (all-append (IsFoundIn whole) old (own_triggers c) (left (found_each line all.1)) right) where
  old : List Trigger
  old = triggers_from line

  whole : List Trigger
  whole = triggers_from line ++ own_triggers c

  left : AllByRecursion (IsFoundIn old) old → AllByRecursion (IsFoundIn whole) old
  left found = all-then (IsFoundIn old) (IsFoundIn whole) (λ t h. rows.find-append (λ (u : Trigger). is_of u (activation_by t)) old (own_triggers c) t h) old found

  lower : AllByRecursion (λ (u : Trigger). u.class < c.number) old
  lower =
      all-flat (λ (e : Class). e.number < c.number) (λ (u : Trigger). u.class < c.number) own_triggers
      (λ e less. all-then (IsOwn e) (λ (u : Trigger). u.class < c.number) (λ u own. subst (λ n. n < c.number) (sym own.class) less) (own_triggers e) (all_own e))
      (reverse line) (all-reverse (λ (e : Class). e.number < c.number) line all.0.numbers)

  here : (t : Trigger) → IsOwn c t × IsFoundIn (own_triggers c) t → IsFoundIn whole t
  here t h =
      let p : Trigger → Bool = λ u. is_of u (activation_by t) in
      let none : find p old ≡ None =
      find-none p old (all-then (λ (u : Trigger). u.class < c.number) (λ (u : Trigger). p u ≡ false) (λ u less. other_class t u (subst (λ n. u.class < n) (sym h.0.class) less)) old lower) in
      find-append p old (own_triggers c) ∙ ap (λ o. option_or o (find p (own_triggers c))) none ∙ h.1

  right : AllByRecursion (IsFoundIn whole) (own_triggers c)
  right =
      all-then (λ (t : Trigger). IsOwn c t × IsFoundIn (own_triggers c) t) (IsFoundIn whole) here (own_triggers c)
      (both (IsOwn c) (IsFoundIn (own_triggers c)) (own_triggers c) (all_own c) (found_from c.number 0 c.triggers))
