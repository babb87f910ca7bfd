-- A class that was checked is typed.
use Rattle.std.proofs.Common.{◌≡◌, ℕ, ◌-◌, List, [], ◌∷◌, ◌++◌, fold, map, Bool, true, Option, Some, None, Ok, refl, ap, sym, ◌∙◌, subst, arith, append-nil, append_assoc}
use Rattle.std.specs.Prelude.{not, is_some, is_none}
use Rattle.std.specs.List.{AllByRecursion, list_all, list_any}
use Rattle.std.specs.Option.{option_map_or}
use Rattle.std.proofs.lemmas.List.{map-append}
use Rattle.std.proofs.lemmas.List.Folds.{list_all-append}
use Rattle.ode_value.specs.declared.binding.Param.{Param}
use Rattle.ode_value.specs.declared.change.Added.{Added}
use Rattle.ode_value.specs.declared.class.Class.{Class}
use Rattle.ode_value.specs.declared.event.Kind.{Kind}
use Rattle.ode_value.specs.declared.member.Constraint.{Constraint}
use Rattle.ode_value.specs.declared.member.Method.{Method}
use Rattle.ode_value.specs.declared.member.TriggerDecl.{TriggerDecl}
use Rattle.ode_value.specs.declared.reason.CheckError.TheVariants.{Duplicate, TooMany, UnknownName}
use Rattle.ode_value.specs.declared.statement.ClassDecl.{ClassDecl}
use Rattle.ode_value.specs.declared.statement.Member.{Member}
use Rattle.ode_value.specs.declared.statement.Member.TheVariants as member
use Rattle.ode_value.specs.declared.statement.Sort.{Sort}
use Rattle.ode_value.specs.declared.statement.Sort.TheVariants as sort
use Rattle.ode_value.specs.declared.statement.Stmt.{Stmt}
use Rattle.ode_value.specs.Same.{same_kind}
use Rattle.ode_types.specs.Bodies.{body, body_checked, next_checked}
use Rattle.ode_types.specs.Checks.{◌>>=◌, ◌>>◌, each, in_turn, needs, through}
use Rattle.ode_types.specs.Declaring.{begins, declared, declares, has_method, is_small, kind_word, knows_method, knows_trigger, knows_value, lists, adds, numbered, parent_in, with_added, with_member, without_members}
use Rattle.ode_types.specs.Events.{kind_method, listed}
use Rattle.ode_types.specs.Families.{class_named, constraint_named, field_named, line_of}
use Rattle.ode_types.specs.Kept.{IsTypedClass, are_masks, held, is_body, is_constraint, is_method, is_trigger, slots_behind, slots_through, with_slots}
use Rattle.ode_types.specs.Limits.{slot_limit}
use Rattle.ode_types.specs.Scopes.{Scope, behind, member_scope, plain_scope}
use Rattle.ode_types.specs.Static.{check_grown, checked_member, constraint_checked, method_checked, trigger_checked}
use Rattle.ode_types.specs.Typing.{fitting}
use Rattle.ode_types.proofs.CheckedClasses.{bind-ok, came_of}
use Rattle.ode_types.proofs.KeptBodies.{is_constraint-same, is_method-same, is_trigger-same}
use Rattle.ode_types.proofs.KeptEvents.{event_kept, held_behind, length_held}
use Rattle.ode_types.proofs.KeptHeads.{all-same, constraint_head, head, method_head, trigger_head}
use Rattle.ode_types.proofs.KeptLaws.{Shows, setting_of}
use Rattle.ode_types.proofs.KeptRights.{both_true, fitting_kept}
use Rattle.ode_types.proofs.KeptStatements.{Settles, statement_settles}

-- ---- the first pass adds the members as they stand

module _ (known : List Class) (d : ClassDecl) where
  lists-adds : (c : Class) (k : Kind) (e : Class) → lists known d c k ≡ Ok e → with_member c (member.Events (k ∷ [])) ≡ e
  lists-adds c k e h =
      let new = not (list_any (same_kind k) c.kinds) in
      let named = option_map_or (has_method known d c) (kind_method k) true in
      let p = bind-ok (needs (Duplicate (kind_word k)) new) (λ _. needs (UnknownName (kind_word k)) named >> Ok (with_member c (member.Events (k ∷ [])))) e h in
      let q = bind-ok (needs (UnknownName (kind_word k)) named) (λ _. Ok (with_member c (member.Events (k ∷ [])))) e p.2 in
      cc (q.2)

  kinds-add : (kinds : List Kind) (c e : Class) → through (lists known d) c kinds ≡ Ok e → with_member c (member.Events kinds) ≡ e
  kinds-add [] c e h =
      let same : c ≡ e = cc in
      ap (λ (ks : List Kind). record c { kinds = ks }) (append-nil c.kinds) ∙ same
  kinds-add (k ∷ ks) c e h =
      let p = bind-ok (lists known d c k) (λ x. through (lists known d) x ks) e h in
      ap (λ (all : List Kind). record c { kinds = all }) (sym (append_assoc c.kinds (k ∷ []) ks))
      ∙ ap (λ (x : Class). with_member x (member.Events ks)) (lists-adds c k p.0 p.1)
      ∙ kinds-add ks p.0 e p.2

  declares-adds : (c : Class) (m : Member) (e : Class) → declares known d c m ≡ Ok e → with_member c m ≡ e
  declares-adds c (member.Field name s) e h =
      let new = is_none (field_named c.fields name) in
      let made = with_member c (member.Field name s) in
      let p = bind-ok (knows_value known d name s) (λ _. needs (Duplicate name) new >> Ok made) e h in
      let q = bind-ok (needs (Duplicate name) new) (λ _. Ok made) e p.2 in
      cc (q.2)
  declares-adds c (member.Method m) e h =
      let p = bind-ok (knows_method known d c m) (λ _. Ok (with_member c (member.Method m))) e h in
      cc (p.2)
  declares-adds c (member.Constraint x) e h =
      let new = is_none (constraint_named (line_of known c) x.name) in
      let made = with_member c (member.Constraint x) in
      let p = bind-ok (needs (Duplicate x.name) new) (λ _. Ok made) e h in
      cc (p.2)
  declares-adds c (member.Events kinds) e h = kinds-add kinds c e h
  declares-adds c (member.Trigger t) e h =
      let p = bind-ok (knows_trigger known d c t) (λ _. Ok (with_member c (member.Trigger t))) e h in
      cc (p.2)

  all-add : (ms : List Member) (c e : Class) → through (declares known d) c ms ≡ Ok e → fold with_member c ms ≡ e
  all-add [] c e h = cc
  all-add (m ∷ ms) c e h =
      let p = bind-ok (declares known d c m) (λ x. through (declares known d) x ms) e h in
      ap (λ (x : Class). fold with_member x ms) (declares-adds c m p.0 p.1) ∙ all-add ms p.0 e p.2

  adds-added : (c : Class) (a : Added) (e : Class) → adds known d c a ≡ Ok e → with_added c a ≡ e
  adds-added c a e h =
      let new = is_none (field_named c.fields a.name) in
      let p = bind-ok (knows_value known d a.name a.sort) (λ _. needs (Duplicate a.name) new >> Ok (with_added c a)) e h in
      let q = bind-ok (needs (Duplicate a.name) new) (λ _. Ok (with_added c a)) e p.2 in
      cc (q.2)

  all-added : (added : List Added) (c e : Class) → through (adds known d) c added ≡ Ok e → fold with_added c added ≡ e
  all-added [] c e h = cc
  all-added (a ∷ added) c e h =
      let p = bind-ok (adds known d c a) (λ x. through (adds known d) x added) e h in
      ap (λ (x : Class). fold with_added x added) (adds-added c a p.0 p.1) ∙ all-added added p.0 e p.2

  pub declared-adds : (added : List Added) (start draft : Class) → declared known d added start ≡ Ok draft → fold with_added (fold with_member start d.members) added ≡ draft
  unfolding declared
  declared-adds added start draft h =
      let p = bind-ok (through (declares known d) start d.members) (λ ms. through (adds known d) ms added >>= (λ c. needs (TooMany d.name) (is_small known c) >> Ok c)) draft h in
      let q = bind-ok (through (adds known d) p.0 added) (λ c. needs (TooMany d.name) (is_small known c) >> Ok c) draft p.2 in
      let r = bind-ok (needs (TooMany d.name) (is_small known q.0)) (λ _. Ok q.0) draft q.2 in
      let same : q.0 ≡ draft = cc (r.2) in
      ap (λ (x : Class). fold with_added x added) (all-add d.members start p.0 p.1) ∙ all-added added p.0 q.0 q.1 ∙ same

-- ---- the second pass changes no heads

abbrev member_head : Member → Member
member_head (member.Field name s) = member.Field name s
member_head (member.Method m) = member.Method (method_head m)
member_head (member.Constraint x) = member.Constraint (constraint_head x)
member_head (member.Events kinds) = member.Events kinds
member_head (member.Trigger t) = member.Trigger (trigger_head t)

head-with : (c : Class) (m : Member) → head (with_member c m) ≡ with_member (head c) (member_head m)
head-with c (member.Field name s) = refl
head-with c (member.Method m) = ap (λ (ms : List Method). record (head c) { methods = ms }) (map-append method_head c.methods (m ∷ []))
head-with c (member.Constraint x) = ap (λ (xs : List Constraint). record (head c) { constraints = xs }) (map-append constraint_head c.constraints (x ∷ []))
head-with c (member.Events kinds) = refl
head-with c (member.Trigger t) = ap (λ (ts : List TriggerDecl). record (head c) { triggers = ts }) (map-append trigger_head c.triggers (t ∷ []))

pub head-fold : (ms : List Member) (c : Class) → head (fold with_member c ms) ≡ fold with_member (head c) (map member_head ms)
head-fold [] c = refl
head-fold (m ∷ ms) c = head-fold ms (with_member c m) ∙ ap (λ (x : Class). fold with_member x (map member_head ms)) (head-with c m)

pub head-grown : (added : List Added) (c : Class) → head (fold with_added c added) ≡ fold with_added (head c) added
head-grown [] c = refl
head-grown (a ∷ added) c = head-grown added (with_added c a)

module _ (cs : List Class) (c : Class) where
  checked-head : (m n : Member) → checked_member cs c m ≡ Ok n → member_head n ≡ member_head m
  unfolding method_checked constraint_checked trigger_checked
  checked-head (member.Field name s) n h = let same : member.Field name s ≡ n = cc in ap member_head (sym same)
  checked-head (member.Method m) n h =
      let p = bind-ok (method_checked cs c m) (λ x. Ok (member.Method x)) n h in
      let q = bind-ok (body m.body (member_scope cs c m.name m.params m.result)) (λ ss. Ok (record m { body = ss })) p.0 p.1 in
      let made : Method = record m { body = q.0 } in
      let one : made ≡ p.0 = cc (q.2) in
      let two : member.Method p.0 ≡ n = cc (p.2) in
      ap member_head (sym two) ∙ ap (λ (x : Method). member.Method (method_head x)) (sym one)
  checked-head (member.Constraint x) n h =
      let p = bind-ok (constraint_checked cs c x) (λ y. Ok (member.Constraint y)) n h in
      let q = bind-ok (fitting sort.Bool x.test (plain_scope (member_scope cs c x.name [] sort.Void))) (λ t. Ok (record x { test = t })) p.0 p.1 in
      let made : Constraint = record x { test = q.0 } in
      let one : made ≡ p.0 = cc (q.2) in
      let two : member.Constraint p.0 ≡ n = cc (p.2) in
      ap member_head (sym two) ∙ ap (λ (y : Constraint). member.Constraint (constraint_head y)) (sym one)
  checked-head (member.Events kinds) n h = let same : member.Events kinds ≡ n = cc in ap member_head (sym same)
  checked-head (member.Trigger t) n h =
      let scope = member_scope cs c t.name t.params sort.Void in
      let p = bind-ok (trigger_checked cs c t) (λ x. Ok (member.Trigger x)) n h in
      let q = bind-ok (listed t.event scope) (λ e. body t.action scope >>= (λ ss. Ok (record t { event = e; action = ss }))) p.0 p.1 in
      let r = bind-ok (body t.action scope) (λ ss. Ok (record t { event = q.0; action = ss })) p.0 q.2 in
      let made : TriggerDecl = record t { event = q.0; action = r.0 } in
      let one : made ≡ p.0 = cc (r.2) in
      let two : member.Trigger p.0 ≡ n = cc (p.2) in
      ap member_head (sym two) ∙ ap (λ (x : TriggerDecl). member.Trigger (trigger_head x)) (sym one)

  pub all-heads : (ms ns : List Member) → each (checked_member cs c) ms ≡ Ok ns → map member_head ns ≡ map member_head ms
  all-heads [] ns h = let none : List Member = [] in let same : none ≡ ns = cc in ap (map member_head) (sym same)
  all-heads (m ∷ ms) ns h =
      let p = bind-ok (checked_member cs c m) (λ x. each (checked_member cs c) ms >>= (λ xs. Ok (x ∷ xs))) ns h in
      let q = bind-ok (each (checked_member cs c) ms) (λ xs. Ok (p.0 ∷ xs)) ns p.2 in
      let same : p.0 ∷ q.0 ≡ ns = cc (q.2) in
      ap (map member_head) (sym same) ∙ ap (λ (x : Member). x ∷ map member_head q.0) (checked-head m p.0 p.1) ∙ ap (λ (xs : List Member). member_head m ∷ xs) (all-heads ms q.0 q.1)

-- ---- a body is typed

statements_settle : (ss : List Stmt) (scope : Scope) (slots : List (Option Sort)) → Shows scope slots → (r : List Stmt × Scope) → in_turn next_checked scope ss ≡ Ok r
    → Settles scope r.1 slots (slots_through (map slots_behind r.0) (setting_of scope slots))
statements_settle [] scope slots shows r h =
    let made : List Stmt × Scope = ([], scope) in
    let same : made ≡ r = cc in
    subst (λ (x : List Stmt × Scope). Settles scope x.1 slots (slots_through (map slots_behind x.0) (setting_of scope slots))) same
    (record { after = slots; typed = refl; shows = shows; more = omega arith; same = λ ss. refl })
statements_settle (s ∷ ss) scope slots shows r h =
    let p = bind-ok (next_checked scope s) (λ x. in_turn next_checked x.1 ss >>= (λ z. Ok (x.0 ∷ z.0, z.1))) r h in
    let q = bind-ok (in_turn next_checked p.0.1 ss) (λ z. Ok (p.0.0 ∷ z.0, z.1)) r p.2 in
    let same : (p.0.0 ∷ q.0.0, q.0.1) ≡ r = cc (q.2) in
    let here = statement_settles s scope slots shows p.0 p.1 in
    let rest = statements_settle ss p.0.1 here.after here.shows q.0 q.1 in
    subst (λ (x : List Stmt × Scope). Settles scope x.1 slots (slots_through (map slots_behind x.0) (setting_of scope slots))) same
    (record {
      after = rest.after;
      typed =
          ap (λ o. elim o as (λ _. Option (List (Option Sort))) [ None ↦ None | Some z ↦ slots_through (map slots_behind q.0.0) (with_slots z (setting_of scope slots)) ]) here.typed
          ∙ ap (slots_through (map slots_behind q.0.0)) (sym (here.same here.after)) ∙ rest.typed;
      shows = rest.shows;
      more = omega (arith, here.more, rest.more);
      same = λ ss. rest.same ss ∙ here.same ss;
    })

body_typed : (ss ts : List Stmt) (scope : Scope) (slots : List (Option Sort)) → Shows scope slots → body ss scope ≡ Ok ts → is_body (setting_of scope slots) ts ≡ true
unfolding body_checked
body_typed ss ts scope slots shows h =
    let p = bind-ok (body_checked ss scope) (λ r. Ok r.0) ts h in
    let q = bind-ok (in_turn next_checked scope ss) (λ r. Ok (r.0, behind r.1 scope)) p.0 p.1 in
    let one : (q.0.0, behind q.0.1 scope) ≡ p.0 = cc (q.2) in
    let two : p.0.0 ≡ ts = cc (p.2) in
    let same : q.0.0 ≡ ts = ap (λ (x : List Stmt × Scope). x.0) one ∙ two in
    ap (λ (x : List Stmt). is_body (setting_of scope slots) x) (sym same) ∙ ap is_some (statements_settle ss scope slots shows q.0 q.1).typed

-- ---- the members are typed

module _ (cs : List Class) (c : Class) where
  -- where a member stands
  member_shows : (name : List ℕ) (params : List Param) (result : Sort) → Shows (member_scope cs c name params result) (held params)
  member_shows name params result = record {
    next = length_held params;
    seen = held_behind params [] 0 (slot_limit - 0) refl;
  }

  abbrev IsTypedMember : Member → Type 0
  IsTypedMember (member.Method m) = is_method cs c m ≡ true
  IsTypedMember (member.Constraint x) = is_constraint cs c x ≡ true
  IsTypedMember (member.Trigger t) = is_trigger cs c t ≡ true
  IsTypedMember (member.Field name s) = Unit {0}
  IsTypedMember (member.Events kinds) = Unit {0}

  member_typed : (m n : Member) → checked_member cs c m ≡ Ok n → IsTypedMember n
  unfolding method_checked constraint_checked trigger_checked
  member_typed (member.Field name s) n h = let same : member.Field name s ≡ n = cc in subst IsTypedMember same tt
  member_typed (member.Method m) n h =
      let scope = member_scope cs c m.name m.params m.result in
      let p = bind-ok (method_checked cs c m) (λ x. Ok (member.Method x)) n h in
      let q = bind-ok (body m.body scope) (λ ss. Ok (record m { body = ss })) p.0 p.1 in
      let made : Method = record m { body = q.0 } in
      let one : made ≡ p.0 = cc (q.2) in
      let two : member.Method p.0 ≡ n = cc (p.2) in
      subst IsTypedMember two (subst (λ (x : Method). is_method cs c x ≡ true) one (body_typed m.body q.0 scope (held m.params) (member_shows m.name m.params m.result) q.1))
  member_typed (member.Constraint x) n h =
      let scope = plain_scope (member_scope cs c x.name [] sort.Void) in
      let p = bind-ok (constraint_checked cs c x) (λ y. Ok (member.Constraint y)) n h in
      let q = bind-ok (fitting sort.Bool x.test scope) (λ t. Ok (record x { test = t })) p.0 p.1 in
      let made : Constraint = record x { test = q.0 } in
      let one : made ≡ p.0 = cc (q.2) in
      let two : member.Constraint p.0 ≡ n = cc (p.2) in
      subst IsTypedMember two (subst (λ (y : Constraint). is_constraint cs c y ≡ true) one (fitting_kept scope [] (member_shows x.name [] sort.Void).seen sort.Bool x.test q.0 q.1))
  member_typed (member.Events kinds) n h = let same : member.Events kinds ≡ n = cc in subst IsTypedMember same tt
  member_typed (member.Trigger t) n h =
      let scope = member_scope cs c t.name t.params sort.Void in
      let at = setting_of scope (held t.params) in
      let p = bind-ok (trigger_checked cs c t) (λ x. Ok (member.Trigger x)) n h in
      let q = bind-ok (listed t.event scope) (λ e. body t.action scope >>= (λ ss. Ok (record t { event = e; action = ss }))) p.0 p.1 in
      let r = bind-ok (body t.action scope) (λ ss. Ok (record t { event = q.0; action = ss })) p.0 q.2 in
      let made : TriggerDecl = record t { event = q.0; action = r.0 } in
      let one : made ≡ p.0 = cc (r.2) in
      let two : member.Trigger p.0 ≡ n = cc (p.2) in
      let shows = member_shows t.name t.params sort.Void in
      subst IsTypedMember two (subst (λ (x : TriggerDecl). is_trigger cs c x ≡ true) one
      (both_true (are_masks q.0 at) (is_body at r.0) (event_kept t.event scope (held t.params) shows q.0 q.1) (body_typed t.action r.0 scope (held t.params) shows r.1)))

  all-typed : (ms ns : List Member) → each (checked_member cs c) ms ≡ Ok ns → AllByRecursion IsTypedMember ns
  all-typed [] ns h = let none : List Member = [] in let same : none ≡ ns = cc in subst (AllByRecursion IsTypedMember) same tt
  all-typed (m ∷ ms) ns h =
      let p = bind-ok (checked_member cs c m) (λ x. each (checked_member cs c) ms >>= (λ xs. Ok (x ∷ xs))) ns h in
      let q = bind-ok (each (checked_member cs c) ms) (λ xs. Ok (p.0 ∷ xs)) ns p.2 in
      let same : p.0 ∷ q.0 ≡ ns = cc (q.2) in
      subst (AllByRecursion IsTypedMember) same (member_typed m p.0 p.1, all-typed ms q.0 q.1)

  -- the class so far has typed members
  record HasTyped (e : Class) : Type 0 where
    methods : list_all (is_method cs c) e.methods ≡ true
    constraints : list_all (is_constraint cs c) e.constraints ≡ true
    triggers : list_all (is_trigger cs c) e.triggers ≡ true

  one_more : {X : Type 0} (p : X → Bool) (xs : List X) (x : X) → list_all p xs ≡ true → p x ≡ true → list_all p (xs ++ x ∷ []) ≡ true
  one_more p xs x all here = list_all-append p xs (x ∷ []) ∙ both_true (list_all p xs) (list_all p (x ∷ [])) all (both_true (p x) true here refl)

  with-typed : (e : Class) (m : Member) → HasTyped e → IsTypedMember m → HasTyped (with_member e m)
  with-typed e (member.Field name s) all here = record { methods = all.methods; constraints = all.constraints; triggers = all.triggers }
  with-typed e (member.Method m) all here = record { methods = one_more (is_method cs c) e.methods m all.methods here; constraints = all.constraints; triggers = all.triggers }
  with-typed e (member.Constraint x) all here = record { methods = all.methods; constraints = one_more (is_constraint cs c) e.constraints x all.constraints here; triggers = all.triggers }
  with-typed e (member.Events kinds) all here = record { methods = all.methods; constraints = all.constraints; triggers = all.triggers }
  with-typed e (member.Trigger t) all here = record { methods = all.methods; constraints = all.constraints; triggers = one_more (is_trigger cs c) e.triggers t all.triggers here }

  fold-typed : (ms : List Member) (e : Class) → HasTyped e → AllByRecursion IsTypedMember ms → HasTyped (fold with_member e ms)
  fold-typed [] e all here = all
  fold-typed (m ∷ ms) e all here = fold-typed ms (with_member e m) (with-typed e m all here.0) here.1

  grown-typed : (added : List Added) (e : Class) → HasTyped e → HasTyped (fold with_added e added)
  grown-typed [] e all = all
  grown-typed (a ∷ added) e all = grown-typed added (with_added e a) (record { methods = all.methods; constraints = all.constraints; triggers = all.triggers })

-- ---- a class is typed

-- a class begins without members of its own
begins-typed : (known cs : List Class) (e : Class) (d : ClassDecl) (start : Class) → begins known d ≡ Ok start → HasTyped cs e start
unfolding begins
begins-typed known cs e d start h =
    let first = bind-ok (needs (Duplicate d.name) (is_none (class_named known d.name))) (λ _. parent_in known d.parent >>= (λ parent. numbered known d.name >>= (λ number. Ok (without_members number d.name parent)))) start h in
    let second = bind-ok (parent_in known d.parent) (λ parent. numbered known d.name >>= (λ number. Ok (without_members number d.name parent))) start first.2 in
    let third = bind-ok (numbered known d.name) (λ number. Ok (without_members number d.name second.0)) start second.2 in
    let is : without_members third.0 d.name second.0 ≡ start = cc (third.2) in
    subst (HasTyped cs e) is (record { methods = refl; constraints = refl; triggers = refl })

pub typed_class : (known : List Class) (added : List Added) (d : ClassDecl) (c : Class) → check_grown known added d ≡ Ok c → IsTypedClass (known ++ c ∷ []) c
typed_class known added d c h =
    let came = came_of known added d c h in
    let start = came.start in
    let draft = came.draft in
    let ms = came.members in
    let cs = known ++ draft ∷ [] in
    let same_heads : head (fold with_member start d.members) ≡ head (fold with_member start ms) =
    head-fold d.members start ∙ ap (fold with_member (head start)) (sym (all-heads cs draft d.members ms came.checked)) ∙ sym (head-fold ms start) in
    let heads : head draft ≡ head c =
    ap head (sym (declared-adds known d added start draft came.drafted)) ∙ head-grown added (fold with_member start d.members)
    ∙ ap (λ (x : Class). fold with_added x added) same_heads
    ∙ sym (head-grown added (fold with_member start ms)) ∙ ap head came.made in
    let members_typed : HasTyped cs draft (fold with_member start ms) =
    fold-typed cs draft ms start (begins-typed known cs draft d start came.begun) (all-typed cs draft d.members ms came.checked) in
    let all : HasTyped cs draft c = subst (HasTyped cs draft) came.made (grown-typed cs draft added (fold with_member start ms) members_typed) in
    record {
      methods = sym (all-same (is_method cs draft) (is_method (known ++ c ∷ []) c) (is_method-same known draft c heads) c.methods) ∙ all.methods;
      constraints = sym (all-same (is_constraint cs draft) (is_constraint (known ++ c ∷ []) c) (is_constraint-same known draft c heads) c.constraints) ∙ all.constraints;
      triggers = sym (all-same (is_trigger cs draft) (is_trigger (known ++ c ∷ []) c) (is_trigger-same known draft c heads) c.triggers) ∙ all.triggers;
    }

pub ruleset classes_keep = (typed_class)
