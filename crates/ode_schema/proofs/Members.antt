-- The triggers of a class that was checked: how many there are, and that no ancestor has one of their names.
use Rattle.std.proofs.Common.{◌≡◌, ◌≤◌, ℕ, List, [], ◌∷◌, ◌++◌, fold, map, length, Bool, true, Option, Some, None, Ok, refl, ap, sym, ◌∙◌, subst, arith, append-nil, append_assoc}
use Rattle.std.specs.Prelude.{◌&&◌, not, nat_le, is_none}
use Rattle.std.specs.List.{AllByRecursion, find, flat_map, list_any}
use Rattle.std.specs.Option.{option_map_or, option_or}
use Rattle.std.specs.Str.{bytes_eq}
use Rattle.std.proofs.lemmas.Bool.Decides.{nat_tests}
use Rattle.std.proofs.lemmas.List.{length-map, map-append}
use Rattle.std.proofs.lemmas.List.Folds.{find-append}
use Rattle.ode_value.specs.declared.change.Added.{Added}
use Rattle.ode_value.specs.declared.class.Class.{Class}
use Rattle.ode_value.specs.declared.event.Kind.{Kind}
use Rattle.ode_value.specs.declared.member.TriggerDecl.{TriggerDecl}
use Rattle.ode_value.specs.declared.reason.CheckError.TheVariants.{Duplicate, TooMany, UnknownName, WrongSort}
use Rattle.ode_value.specs.declared.statement.ClassDecl.{ClassDecl}
use Rattle.ode_value.specs.declared.statement.Member.{Member}
use Rattle.ode_value.specs.declared.statement.Member.TheVariants as member
use Rattle.ode_value.specs.declared.statement.Sort.TheVariants as sort
use Rattle.ode_value.specs.Same.{same_kind}
use Rattle.ode_types.specs.Bodies.{body}
use Rattle.ode_types.specs.Checked.{IsChecked}
use Rattle.ode_types.specs.Checks.{◌>>=◌, ◌>>◌, each, needs, through}
use Rattle.ode_types.specs.Declaring.{adds, begins, declared, declares, has_method, is_callable, is_small, kind_word, knows_method, knows_params, knows_trigger, knows_value, lists, numbered, parent_in, with_added, with_member, without_members}
use Rattle.ode_types.specs.Events.{kind_method, listed}
use Rattle.ode_types.specs.Families.{ancestors_of, class_named, constraint_named, field_named, line_of, trigger_named}
use Rattle.ode_types.specs.Limits.{field_limit, trigger_limit, ancestor_limit}
use Rattle.ode_types.specs.Scopes.{member_scope}
use Rattle.ode_types.specs.Static.{checked_member, constraint_checked, method_checked, trigger_checked}
use Rattle.ode_types.proofs.CheckedClasses.{bind-ok, came_of, needs-ok}
use Rattle.ode_types.proofs.KeptClasses.{declared-adds}
use Rattle.ode_laws.proofs.Each.{all-append}

-- ---- the names of triggers

abbrev pub names_of : List TriggerDecl → List (List ℕ)
names_of ts = map (λ (t : TriggerDecl). t.name) ts

abbrev names_in : Member → List (List ℕ)
names_in (member.Field name s) = []
names_in (member.Method m) = []
names_in (member.Constraint x) = []
names_in (member.Events kinds) = []
names_in (member.Trigger t) = t.name ∷ []

with-names : (c : Class) (m : Member) → names_of (with_member c m).triggers ≡ names_of c.triggers ++ names_in m
with-names c (member.Field name s) = sym (append-nil (names_of c.triggers))
with-names c (member.Method m) = sym (append-nil (names_of c.triggers))
with-names c (member.Constraint x) = sym (append-nil (names_of c.triggers))
with-names c (member.Events kinds) = sym (append-nil (names_of c.triggers))
with-names c (member.Trigger t) = map-append (λ (u : TriggerDecl). u.name) c.triggers (t ∷ [])

fold-names : (ms : List Member) (c : Class) → names_of (fold with_member c ms).triggers ≡ names_of c.triggers ++ flat_map names_in ms
fold-names [] c = sym (append-nil (names_of c.triggers))
fold-names (m ∷ ms) c =
    fold-names ms (with_member c m) ∙ ap (λ (l : List (List ℕ)). l ++ flat_map names_in ms) (with-names c m)
    ∙ append_assoc (names_of c.triggers) (names_in m) (flat_map names_in ms)

-- members change no parent
same_parent : (c : Class) (m : Member) → (with_member c m).parent ≡ c.parent
same_parent c (member.Field name s) = refl
same_parent c (member.Method m) = refl
same_parent c (member.Constraint x) = refl
same_parent c (member.Events kinds) = refl
same_parent c (member.Trigger t) = refl

same_parents : (ms : List Member) (c : Class) → (fold with_member c ms).parent ≡ c.parent
same_parents [] c = refl
same_parents (m ∷ ms) c = same_parents ms (with_member c m) ∙ same_parent c m

-- added fields change neither its parent nor its triggers
grown_parent : (added : List Added) (c : Class) → (fold with_added c added).parent ≡ c.parent
grown_parent [] c = refl
grown_parent (a ∷ added) c = grown_parent added (with_added c a)

grown_names : (added : List Added) (c : Class) → names_of (fold with_added c added).triggers ≡ names_of c.triggers
grown_names [] c = refl
grown_names (a ∷ added) c = grown_names added (with_added c a)

-- ---- the first pass

-- no ancestor has a trigger of this name
abbrev pub IsFresh : List Class → Class → List ℕ → Type 0
IsFresh known c name = trigger_named (ancestors_of known c) name ≡ None

is-fresh : (known : List Class) (c e : Class) (name : List ℕ) → c.parent ≡ e.parent → IsFresh known e name → IsFresh known c name
is-fresh known c e name same fresh = subst (λ (p : Option ℕ). trigger_named (ancestors_of known (record e { parent = p })) name ≡ None) (sym same) fresh

all-fresh : (known : List Class) (c e : Class) → c.parent ≡ e.parent → (names : List (List ℕ)) → AllByRecursion (IsFresh known e) names → AllByRecursion (IsFresh known c) names
all-fresh known c e same [] all = tt
all-fresh known c e same (n ∷ names) all = (is-fresh known c e n same all.0, all-fresh known c e same names all.1)

none_here : {X : Type 0} (o : Option X) → is_none o ≡ true → o ≡ None
none_here None h = refl
none_here (Some x) h = absurd (cc)

none_behind : (p : TriggerDecl → Bool) (xs ys : List TriggerDecl) → find p (xs ++ ys) ≡ None → find p ys ≡ None
none_behind p xs ys h = by (find p xs) (sym (find-append p xs ys) ∙ h) where
  by : (o : Option TriggerDecl) → option_or o (find p ys) ≡ None → find p ys ≡ None
  by None e = e
  by (Some x) e = absurd (cc)

module _ (known : List Class) (d : ClassDecl) where
  lists-adds : (c : Class) (k : Kind) (e : Class) → lists known d c k ≡ Ok e → with_member c (member.Events (k ∷ [])) ≡ e
  lists-adds c k e h =
      let new = not (list_any (same_kind k) c.kinds) in
      let named = option_map_or (has_method known d c) (kind_method k) true in
      let p = bind-ok (needs (Duplicate (kind_word k)) new) (λ _. needs (UnknownName (kind_word k)) named >> Ok (with_member c (member.Events (k ∷ [])))) e h in
      let q = bind-ok (needs (UnknownName (kind_word k)) named) (λ _. Ok (with_member c (member.Events (k ∷ [])))) e p.2 in
      cc (q.2)

  kinds-add : (kinds : List Kind) (c e : Class) → through (lists known d) c kinds ≡ Ok e → with_member c (member.Events kinds) ≡ e
  kinds-add [] c e h =
      let same : c ≡ e = cc in
      ap (λ (ks : List Kind). record c { kinds = ks }) (append-nil c.kinds) ∙ same
  kinds-add (k ∷ ks) c e h =
      let p = bind-ok (lists known d c k) (λ x. through (lists known d) x ks) e h in
      ap (λ (all : List Kind). record c { kinds = all }) (sym (append_assoc c.kinds (k ∷ []) ks))
      ∙ ap (λ (x : Class). with_member x (member.Events ks)) (lists-adds c k p.0 p.1)
      ∙ kinds-add ks p.0 e p.2

  -- a member stands as it is, and the name of a trigger is fresh
  record Adds (c : Class) (m : Member) (e : Class) : Type 0 where
    made : with_member c m ≡ e
    fresh : AllByRecursion (IsFresh known c) (names_in m)

  declares-adds : (c : Class) (m : Member) (e : Class) → declares known d c m ≡ Ok e → Adds c m e
  declares-adds c (member.Field name s) e h =
      let new = is_none (field_named c.fields name) in
      let made = with_member c (member.Field name s) in
      let p = bind-ok (knows_value known d name s) (λ _. needs (Duplicate name) new >> Ok made) e h in
      let q = bind-ok (needs (Duplicate name) new) (λ _. Ok made) e p.2 in
      record { made = cc (q.2); fresh = tt }
  declares-adds c (member.Method m) e h =
      let p = bind-ok (knows_method known d c m) (λ _. Ok (with_member c (member.Method m))) e h in
      record { made = cc (p.2); fresh = tt }
  declares-adds c (member.Constraint x) e h =
      let new = is_none (constraint_named (line_of known c) x.name) in
      let made = with_member c (member.Constraint x) in
      let p = bind-ok (needs (Duplicate x.name) new) (λ _. Ok made) e h in
      record { made = cc (p.2); fresh = tt }
  declares-adds c (member.Events kinds) e h = record { made = kinds-add kinds c e h; fresh = tt }
  declares-adds c (member.Trigger t) e h =
      let new = is_none (trigger_named (line_of known c) t.name) in
      let p = bind-ok (knows_trigger known d c t) (λ _. Ok (with_member c (member.Trigger t))) e h in
      let q = bind-ok (needs (Duplicate t.name) new) (λ _. knows_params known d t.params >> needs (WrongSort t.name) (is_callable t)) p.0 p.1 in
      let none : trigger_named (line_of known c) t.name ≡ None = none_here (trigger_named (line_of known c) t.name) (needs-ok (Duplicate t.name) new q.0 q.1) in
      record {
        made = cc (p.2);
        fresh = (none_behind (λ (u : TriggerDecl). bytes_eq u.name t.name) c.triggers (flat_map (λ (a : Class). a.triggers) (ancestors_of known c)) none, tt);
      }

  record AddAll (c : Class) (ms : List Member) (e : Class) : Type 0 where
    made : fold with_member c ms ≡ e
    fresh : AllByRecursion (IsFresh known c) (flat_map names_in ms)

  all-add : (ms : List Member) (c e : Class) → through (declares known d) c ms ≡ Ok e → AddAll c ms e
  all-add [] c e h = record { made = cc; fresh = tt }
  all-add (m ∷ ms) c e h =
      let p = bind-ok (declares known d c m) (λ x. through (declares known d) x ms) e h in
      let here = declares-adds c m p.0 p.1 in
      let rest = all-add ms p.0 e p.2 in
      record {
        made = ap (λ (x : Class). fold with_member x ms) here.made ∙ rest.made;
        fresh =
            all-append (IsFresh known c) (names_in m) (flat_map names_in ms) here.fresh
            (all-fresh known c p.0 (sym (same_parent c m) ∙ ap (λ (x : Class). x.parent) here.made) (flat_map names_in ms) rest.fresh);
      }

  record IsDeclared (start draft : Class) : Type 0 where
    fresh : AllByRecursion (IsFresh known start) (flat_map names_in d.members)
    small : is_small known draft ≡ true

  declared-fresh : (added : List Added) (start draft : Class) → declared known d added start ≡ Ok draft → IsDeclared start draft
  unfolding declared
  declared-fresh added start draft h =
      let p = bind-ok (through (declares known d) start d.members) (λ c. through (adds known d) c added >>= (λ e. needs (TooMany d.name) (is_small known e) >> Ok e)) draft h in
      let q = bind-ok (through (adds known d) p.0 added) (λ e. needs (TooMany d.name) (is_small known e) >> Ok e) draft p.2 in
      let r = bind-ok (needs (TooMany d.name) (is_small known q.0)) (λ _. Ok q.0) draft q.2 in
      let same : q.0 ≡ draft = cc (r.2) in
      let all : AddAll start d.members p.0 = all-add d.members start p.0 p.1 in
      subst (IsDeclared start) same (record { fresh = all.fresh; small = needs-ok (TooMany d.name) (is_small known q.0) r.0 r.1 })

-- ---- the second pass

module _ (cs : List Class) (c : Class) where
  checked-names : (m n : Member) → checked_member cs c m ≡ Ok n → names_in n ≡ names_in m
  unfolding method_checked constraint_checked trigger_checked
  checked-names (member.Field name s) n h = let same : member.Field name s ≡ n = cc in ap names_in (sym same)
  checked-names (member.Method m) n h =
      let p = bind-ok (method_checked cs c m) (λ x. Ok (member.Method x)) n h in
      let two : member.Method p.0 ≡ n = cc (p.2) in
      ap names_in (sym two)
  checked-names (member.Constraint x) n h =
      let p = bind-ok (constraint_checked cs c x) (λ y. Ok (member.Constraint y)) n h in
      let two : member.Constraint p.0 ≡ n = cc (p.2) in
      ap names_in (sym two)
  checked-names (member.Events kinds) n h = let same : member.Events kinds ≡ n = cc in ap names_in (sym same)
  checked-names (member.Trigger t) n h =
      let scope = member_scope cs c t.name t.params sort.Void in
      let p = bind-ok (trigger_checked cs c t) (λ x. Ok (member.Trigger x)) n h in
      let q = bind-ok (listed t.event scope) (λ e. body t.action scope >>= (λ ss. Ok (record t { event = e; action = ss }))) p.0 p.1 in
      let r = bind-ok (body t.action scope) (λ ss. Ok (record t { event = q.0; action = ss })) p.0 q.2 in
      let made : TriggerDecl = record t { event = q.0; action = r.0 } in
      let one : made ≡ p.0 = cc (r.2) in
      let two : member.Trigger p.0 ≡ n = cc (p.2) in
      ap names_in (sym two) ∙ ap (λ (x : TriggerDecl). x.name ∷ []) (sym one)

  all-names : (ms ns : List Member) → each (checked_member cs c) ms ≡ Ok ns → flat_map names_in ns ≡ flat_map names_in ms
  all-names [] ns h = let none : List Member = [] in let same : none ≡ ns = cc in ap (flat_map names_in) (sym same)
  all-names (m ∷ ms) ns h =
      let p = bind-ok (checked_member cs c m) (λ x. each (checked_member cs c) ms >>= (λ xs. Ok (x ∷ xs))) ns h in
      let q = bind-ok (each (checked_member cs c) ms) (λ xs. Ok (p.0 ∷ xs)) ns p.2 in
      let same : p.0 ∷ q.0 ≡ ns = cc (q.2) in
      ap (flat_map names_in) (sym same)
      ∙ ap (λ (l : List (List ℕ)). l ++ flat_map names_in q.0) (checked-names m p.0 p.1)
      ∙ ap (λ (l : List (List ℕ)). names_in m ++ l) (all-names ms q.0 q.1)

-- ---- the whole check

-- a class begins with no triggers of its own
begins-bare : (known : List Class) (d : ClassDecl) (start : Class) → begins known d ≡ Ok start → start.triggers ≡ []
unfolding begins
begins-bare known d start h =
    let first = bind-ok (needs (Duplicate d.name) (is_none (class_named known d.name))) (λ _. parent_in known d.parent >>= (λ parent. numbered known d.name >>= (λ number. Ok (without_members number d.name parent)))) start h in
    let second = bind-ok (parent_in known d.parent) (λ parent. numbered known d.name >>= (λ number. Ok (without_members number d.name parent))) start first.2 in
    let third = bind-ok (numbered known d.name) (λ number. Ok (without_members number d.name second.0)) start second.2 in
    let is : without_members third.0 d.name second.0 ≡ start = cc (third.2) in
    ap (λ (x : Class). x.triggers) (sym is)

few_by : (f t a : ℕ) → (nat_le f field_limit && nat_le t trigger_limit && nat_le a ancestor_limit) ≡ true → t ≤ trigger_limit
few_by f t a h = grind (arith, nat_tests)

-- its triggers are few, and no ancestor has one of their names
pub record HasOwnTriggers (known : List Class) (c : Class) : Type 0 where
  pub few : length c.triggers ≤ trigger_limit
  pub fresh : AllByRecursion (IsFresh known c) (names_of c.triggers)

pub own_triggers_checked : (known : List Class) (c : Class) → IsChecked known c → HasOwnTriggers known c
own_triggers_checked known c is =
    let d = is.tree in
    let came = came_of known is.added d c is.checks in
    let start = came.start in
    let draft = came.draft in
    let cs = known ++ draft ∷ [] in
    let passed = declared-fresh known d is.added start draft came.drafted in
    let none : names_of start.triggers ≡ [] = ap names_of (begins-bare known d start came.begun) in
    let of_c : names_of c.triggers ≡ flat_map names_in d.members =
    ap (λ (x : Class). names_of x.triggers) (sym came.made) ∙ grown_names is.added (fold with_member start came.members) ∙ fold-names came.members start
    ∙ ap (λ (l : List (List ℕ)). l ++ flat_map names_in came.members) none ∙ all-names cs draft d.members came.members came.checked in
    let of_draft : names_of draft.triggers ≡ flat_map names_in d.members =
    ap (λ (x : Class). names_of x.triggers) (sym (declared-adds known d is.added start draft came.drafted)) ∙ grown_names is.added (fold with_member start d.members)
    ∙ fold-names d.members start ∙ ap (λ (l : List (List ℕ)). l ++ flat_map names_in d.members) none in
    let many : length c.triggers ≡ length draft.triggers =
    sym (length-map c.triggers (λ (t : TriggerDecl). t.name)) ∙ ap (λ (l : List (List ℕ)). length l) (of_c ∙ sym of_draft) ∙ length-map draft.triggers (λ (t : TriggerDecl). t.name) in
    let few : length draft.triggers ≤ trigger_limit = few_by (length draft.fields) (length draft.triggers) (length (ancestors_of known draft)) passed.small in
    let parent : c.parent ≡ start.parent =
    ap (λ (x : Class). x.parent) (sym came.made) ∙ grown_parent is.added (fold with_member start came.members) ∙ same_parents came.members start in
    record {
      few = omega (arith, many, few);
      fresh = subst (AllByRecursion (IsFresh known c)) (sym of_c) (all-fresh known c start parent (flat_map names_in d.members) passed.fresh);
    }
