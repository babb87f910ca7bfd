-- What a class that was checked has: its parent's fields and its own, methods in the shape of those that they redefine, and triggers
-- with names of their own.
use Rattle.std.proofs.Common.{◌≡◌, ◌⊎◌, inl, inr, ◌≤◌, ℕ, ◌+◌, ◌-◌, List, [], ◌∷◌, ◌++◌, fold, length, reverse, Bool, true, false, cond, Option, Some, None, Ok, refl, ap, sym, ◌∙◌, subst, arith}
use Rattle.std.specs.Prelude.{◌&&◌, ◌||◌, ◌==◌, nat_le, not, is_none, slice_get}
use Rattle.std.specs.List.{AllByRecursion, enumerate_from, find, list_any}
use Rattle.std.specs.Option.{IfSome, option_map, option_map_or, option_or, unwrap_or}
use Rattle.std.specs.Str.{bytes_eq}
use Rattle.std.proofs.lemmas.Bool.{and_parts}
use Rattle.std.proofs.lemmas.Bool.Decides.{Decides-eqb, nat_tests}
use Rattle.std.proofs.lemmas.List.{length-append, take_all}
use Rattle.std.proofs.lemmas.List.Folds.{find-append}
use Rattle.ode_value.specs.declared.binding.Param.{Param}
use Rattle.ode_value.specs.declared.change.Added.{Added}
use Rattle.ode_value.specs.declared.class.Class.{Class}
use Rattle.ode_value.specs.declared.class.Field.{Field}
use Rattle.ode_value.specs.declared.event.Kind.{Kind}
use Rattle.ode_value.specs.declared.member.Constraint.{Constraint}
use Rattle.ode_value.specs.declared.member.Method.{Method}
use Rattle.ode_value.specs.declared.member.TriggerDecl.{TriggerDecl}
use Rattle.ode_value.specs.declared.reason.CheckError.TheVariants.{Duplicate, NotInherited, TooMany, UnknownName, WrongSort}
use Rattle.ode_value.specs.declared.statement.ClassDecl.{ClassDecl}
use Rattle.ode_value.specs.declared.statement.Member.{Member}
use Rattle.ode_value.specs.declared.statement.Member.TheVariants as member
use Rattle.ode_value.specs.declared.statement.Sort.{Sort}
use Rattle.ode_value.specs.declared.statement.Sort.TheVariants as sort
use Rattle.ode_value.specs.Fields.{field_of}
use Rattle.ode_value.specs.Same.{same_kind}
use Rattle.ode_types.specs.Bodies.{body}
use Rattle.ode_types.specs.Checked.{IsChecked}
use Rattle.ode_types.specs.Checks.{◌>>=◌, ◌>>◌, each, found, needs, through}
use Rattle.ode_types.specs.Declaring.{adds, begins, declared, declares, has_method, inherits_shape, is_callable, is_small, kind_word, knows_method, knows_param, knows_params, knows_sort, knows_trigger, knows_value, lists, next_param, numbered, parent_in, same_shape, with_added, with_member, without_members}
use Rattle.ode_types.specs.Events.{kind_method, listed}
use Rattle.ode_types.specs.Families.{ancestors_of, class_named, constraint_named, field_named, line_of, method_named, trigger_named, upward}
use Rattle.ode_types.specs.Limits.{ancestor_limit, field_limit, slot_limit, trigger_limit}
use Rattle.ode_types.specs.Scopes.{member_scope}
use Rattle.ode_types.specs.Sorts.{is_void}
use Rattle.ode_types.specs.Static.{checked_member, constraint_checked, method_checked, trigger_checked}
use Rattle.ode_types.proofs.CheckedClasses.{bind-ok, came_of, needs-ok}
use Rattle.ode_types.proofs.FamilyLaws.{trigger_named-next}
use Rattle.ode_types.proofs.KeptLaws.{found-ok}
use Rattle.ode_laws.proofs.Each.{all-append, all-find}
use Rattle.ode_sound_laws.specs.Sound.{IsFieldSort}
use Rattle.ode_accepted_laws.proofs.Lists.{enumerate-append, get-last, get-left, name_itself, none_is, second_none}

-- ---- fields

value_sort : (s : Sort) → not (is_void (Some s)) ≡ true → IsFieldSort s
value_sort sort.Int h = tt
value_sort sort.Bool h = tt
value_sort sort.Text h = tt
value_sort (sort.Reference name) h = tt
value_sort sort.Void h = absurd (cc)

-- the first of some numbered fields that has a name
abbrev pub first_named : List Field → List ℕ → Option (ℕ × Field)
first_named fields name = find (λ (f : ℕ × Field). bytes_eq f.1.name name) (enumerate_from 0 fields)

-- each field is the first one of its name
abbrev pub AreApart : List Field → Type 0
AreApart fields = (place : ℕ) (f : Field) → slice_get fields place ≡ Some f → first_named fields f.name ≡ Some (place, f)

-- fields hold values, and those that have slots are told apart
pub record AreFields (fields : List Field) : Type 0 where
  pub sorts : AllByRecursion (λ (f : Field). IsFieldSort f.sort) fields
  pub apart : length fields ≤ slot_limit → AreApart fields

no_fields : AreFields []
no_fields = record { sorts = tt; apart = λ few place f at. absurd (cc) }

first_named-more : (fields : List Field) (g : Field) (name : List ℕ) → first_named (fields ++ g ∷ []) name ≡ option_or (first_named fields name) (cond (bytes_eq g.name name) (Some (0 + length fields, g)) None)
first_named-more fields g name =
    ap (find (λ (f : ℕ × Field). bytes_eq f.1.name name)) (enumerate-append 0 fields (g ∷ []))
    ∙ find-append (λ (f : ℕ × Field). bytes_eq f.1.name name) (enumerate_from 0 fields) ((0 + length fields, g) ∷ [])

apart_more : (fields : List Field) (g : Field) → AreApart fields → first_named fields g.name ≡ None → AreApart (fields ++ g ∷ [])
apart_more fields g apart new place f at = by_place (get-last fields g f place at) where
  by_place : (slice_get fields place ≡ Some f) ⊎ ((place ≡ length fields) × (g ≡ f)) → first_named (fields ++ g ∷ []) f.name ≡ Some (place, f)
  by_place (inl old) = first_named-more fields g f.name ∙ ap (λ o. option_or o (cond (bytes_eq g.name f.name) (Some (0 + length fields, g)) None)) (apart place f old)
  by_place (inr last) =
      let there : 0 + length fields ≡ place = omega (arith, last.0) in
      subst (λ (h : Field). first_named (fields ++ g ∷ []) h.name ≡ Some (place, h)) last.1
      (first_named-more fields g g.name ∙ ap (λ o. option_or o (cond (bytes_eq g.name g.name) (Some (0 + length fields, g)) None)) new
      ∙ ap (λ b. cond b (Some (0 + length fields, g)) None) (name_itself g.name) ∙ ap (λ n. Some (n, g)) there)

fields_more : (fields : List Field) (g : Field) → AreFields fields → IsFieldSort g.sort → field_named fields g.name ≡ None → AreFields (fields ++ g ∷ [])
fields_more fields g are fits new = record {
  sorts = all-append (λ (f : Field). IsFieldSort f.sort) fields (g ∷ []) are.sorts (fits, tt);
  apart = λ few.
      let longer : length (fields ++ g ∷ []) ≡ length fields + 1 = length-append fields (g ∷ []) in
      let fewer : length fields ≤ slot_limit = omega (arith, few, longer) in
      let within : length fields ≤ slot_limit - 0 = omega (arith, fewer) in
      apart_more fields g (are.apart fewer) (subst (λ fs. find (λ (f : ℕ × Field). bytes_eq f.1.name g.name) (enumerate_from 0 fs) ≡ None) (take_all (slot_limit - 0) fields within) new);
}

-- ---- methods and triggers

-- a method has the shape of the one that it redefines
abbrev pub IsShaped : List Class → Method → Type 0
IsShaped above m = option_map_or (same_shape m) (method_named above m.name) true ≡ true

-- a trigger's name is new, and its parameters are values; an initial one has none
pub record IsFresh (above : List Class) (t : TriggerDecl) : Type 0 where
  pub fresh : trigger_named above t.name ≡ None
  pub sorts : AllByRecursion (λ (p : Param). IsFieldSort p.sort) t.params
  pub initial : t.initial ≡ true → t.params ≡ []

-- fields begin with others, at the same places
abbrev pub Begins : List Field → List Field → Type 0
Begins first all = (place : ℕ) (f : Field) → slice_get first place ≡ Some f → slice_get all place ≡ Some f

-- a class has these fields, and members of its own, behind these ancestors
pub record HasMembers (above : List Class) (inherited : List Field) (c : Class) : Type 0 where
  pub begins : Begins inherited c.fields
  pub fields : AreFields c.fields
  pub methods : AllByRecursion (IsShaped above) c.methods
  pub triggers : AllByRecursion (IsFresh above) c.triggers

no_params : (params : List Param) → (length params == 0) ≡ true → params ≡ []
no_params [] h = refl
no_params (p ∷ ps) h = absurd (omega (arith, (Decides-eqb (length (p ∷ ps)) 0).0 h))

callable : (t : TriggerDecl) → is_callable t ≡ true → t.initial ≡ true → t.params ≡ []
callable t h initial = no_params t.params (by_initial t.initial initial h) where
  by_initial : (b : Bool) → b ≡ true → (not b || length t.params == 0) ≡ true → (length t.params == 0) ≡ true
  by_initial true is e = e
  by_initial false is e = absurd (cc)

-- ---- the first pass, and with it the second

module _ (known : List Class) (d : ClassDecl) where
  value_known : (name : List ℕ) (s : Sort) (u : Unit {0}) → knows_value known d name s ≡ Ok u → IsFieldSort s
  value_known name s u h =
      let value = bind-ok (knows_sort known d s) (λ _. needs (WrongSort name) (not (is_void (Some s)))) u h in
      value_sort s (needs-ok (WrongSort name) (not (is_void (Some s))) u value.2)

  params_known : (params before after : List Param) → through (next_param known d) before params ≡ Ok after → AllByRecursion (λ (p : Param). IsFieldSort p.sort) params
  params_known [] before after h = tt
  params_known (p ∷ ps) before after h =
      let first = bind-ok (next_param known d before p) (λ ks. through (next_param known d) ks ps) after h in
      let one = bind-ok (knows_param known d before p) (λ _. Ok (before ++ p ∷ [])) first.0 first.1 in
      let value = bind-ok (knows_value known d p.name p.sort) (λ _. needs (Duplicate p.name) (not (list_any (λ (q : Param). bytes_eq q.name p.name) before))) one.0 one.1 in
      (value_known p.name p.sort value.0 value.1, params_known ps first.0 after first.2)

  -- kinds change neither fields nor the parent
  record KeepsHead (c e : Class) : Type 0 where
    fields : e.fields ≡ c.fields
    parent : e.parent ≡ c.parent

  kinds_keep : (kinds : List Kind) (c e : Class) → through (lists known d) c kinds ≡ Ok e → KeepsHead c e
  kinds_keep [] c e h = let same : c ≡ e = cc in subst (KeepsHead c) same (record { fields = refl; parent = refl })
  kinds_keep (k ∷ ks) c e h =
      let listed = with_member c (member.Events (k ∷ [])) in
      let new = not (list_any (same_kind k) c.kinds) in
      let named = option_map_or (has_method known d c) (kind_method k) true in
      let p = bind-ok (lists known d c k) (λ x. through (lists known d) x ks) e h in
      let q = bind-ok (needs (Duplicate (kind_word k)) new) (λ _. needs (UnknownName (kind_word k)) named >> Ok listed) p.0 p.1 in
      let r = bind-ok (needs (UnknownName (kind_word k)) named) (λ _. Ok listed) p.0 q.2 in
      let same : listed ≡ p.0 = cc (r.2) in
      let rest = kinds_keep ks p.0 e p.2 in
      record { fields = rest.fields ∙ sym (ap (λ (x : Class). x.fields) same); parent = rest.parent ∙ sym (ap (λ (x : Class). x.parent) same) }

  module _ (cs : List Class) (x start : Class) where
    abbrev above : List Class
    above = ancestors_of known start

    -- a class so far by the first pass, and by both
    record Goes (c e : Class) : Type 0 where
      fields : e.fields ≡ c.fields
      parent : c.parent ≡ start.parent
      own : e.parent ≡ start.parent
      has : HasMembers above start.fields e

    above_is : (c : Class) → c.parent ≡ start.parent → ancestors_of known c ≡ above
    above_is c same = ap (λ p. upward (unwrap_or p 0) (reverse known)) same

    -- one more field, of a new name
    with_field : (c e : Class) → Goes c e → (g : Field) → IsFieldSort g.sort → field_named c.fields g.name ≡ None → Goes (record c { fields = c.fields ++ g ∷ [] }) (record e { fields = e.fields ++ g ∷ [] })
    with_field c e goes g fits none =
        let here : field_named e.fields g.name ≡ None = ap (λ fs. field_named fs g.name) goes.fields ∙ none in
        record {
          fields = ap (λ (fs : List Field). fs ++ g ∷ []) goes.fields;
          parent = goes.parent;
          own = goes.own;
          has = record {
            begins = λ place f at. get-left e.fields (g ∷ []) place f (goes.has.begins place f at);
            fields = fields_more e.fields g goes.has.fields fits here;
            methods = goes.has.methods;
            triggers = goes.has.triggers;
          };
        }

    field_goes : (c e : Class) → Goes c e → (name : List ℕ) (s : Sort) (k n : Class) → declares known d c (member.Field name s) ≡ Ok k → with_member e (member.Field name s) ≡ n → Goes k n
    field_goes c e goes name s k n h is =
        let g : Field = record { name = name; sort = s; birth = 0; literal = None } in
        let new = is_none (field_named c.fields name) in
        let made = with_member c (member.Field name s) in
        let p = bind-ok (knows_value known d name s) (λ _. needs (Duplicate name) new >> Ok made) k h in
        let q = bind-ok (needs (Duplicate name) new) (λ _. Ok made) k p.2 in
        let same : made ≡ k = cc (q.2) in
        let none : field_named c.fields name ≡ None = none_is (field_named c.fields name) (needs-ok (Duplicate name) new q.0 q.1) in
        let then : Goes made (with_member e (member.Field name s)) = with_field c e goes g (value_known name s p.0 p.1) none in
        subst (λ (j : Class). Goes j n) same (subst (Goes made) is then)

    added_goes : (c e : Class) → Goes c e → (a : Added) (k : Class) → adds known d c a ≡ Ok k → Goes k (with_added e a)
    added_goes c e goes a k h =
        let new = is_none (field_named c.fields a.name) in
        let made = with_added c a in
        let p = bind-ok (knows_value known d a.name a.sort) (λ _. needs (Duplicate a.name) new >> Ok made) k h in
        let q = bind-ok (needs (Duplicate a.name) new) (λ _. Ok made) k p.2 in
        let same : made ≡ k = cc (q.2) in
        let none : field_named c.fields a.name ≡ None = none_is (field_named c.fields a.name) (needs-ok (Duplicate a.name) new q.0 q.1) in
        let then : Goes made (with_added e a) = with_field c e goes (field_of a) (value_known a.name a.sort p.0 p.1) none in
        subst (λ (j : Class). Goes j (with_added e a)) same then

    all_added : (added : List Added) (c e : Class) → Goes c e → (k : Class) → through (adds known d) c added ≡ Ok k → Goes k (fold with_added e added)
    all_added [] c e goes k h = let same : c ≡ k = cc in subst (λ (j : Class). Goes j e) same goes
    all_added (a ∷ added) c e goes k h =
        let p = bind-ok (adds known d c a) (λ j. through (adds known d) j added) k h in
        all_added added p.0 (with_added e a) (added_goes c e goes a p.0 p.1) k p.2

    method_goes : (c e : Class) → Goes c e → (m : Method) (k : Class) (n : Member) → declares known d c (member.Method m) ≡ Ok k → checked_member cs x (member.Method m) ≡ Ok n → Goes k (with_member e n)
    unfolding method_checked
    method_goes c e goes m k n h check =
        let added = with_member c (member.Method m) in
        let none = is_none (method_named (c ∷ []) m.name) in
        let p = bind-ok (knows_method known d c m) (λ _. Ok added) k h in
        let same : added ≡ k = cc (p.2) in
        let one = bind-ok (knows_sort known d m.result) (λ _. needs (Duplicate m.name) none >> (inherits_shape known c m >> knows_params known d m.params)) p.0 p.1 in
        let two = bind-ok (needs (Duplicate m.name) none) (λ _. inherits_shape known c m >> knows_params known d m.params) p.0 one.2 in
        let three = bind-ok (inherits_shape known c m) (λ _. knows_params known d m.params) p.0 two.2 in
        let shape = needs-ok (NotInherited m.name) (option_map_or (same_shape m) (method_named (ancestors_of known c) m.name) true) three.0 three.1 in
        let shaped : IsShaped above m = subst (λ line. option_map_or (same_shape m) (method_named line m.name) true ≡ true) (above_is c goes.parent) shape in
        let q = bind-ok (method_checked cs x m) (λ y. Ok (member.Method y)) n check in
        let r = bind-ok (body m.body (member_scope cs x m.name m.params m.result)) (λ ss. Ok (record m { body = ss })) q.0 q.1 in
        let made : Method = record m { body = r.0 } in
        let is : made ≡ q.0 = cc (r.2) in
        let gives : member.Method q.0 ≡ n = cc (q.2) in
        let then : Goes added (with_member e (member.Method made)) = record {
          fields = goes.fields;
          parent = goes.parent;
          own = goes.own;
          has = record {
            begins = goes.has.begins;
            fields = goes.has.fields;
            methods = all-append (IsShaped above) e.methods (made ∷ []) goes.has.methods (shaped, tt);
            triggers = goes.has.triggers;
          };
        } in
        subst (λ (j : Class). Goes j (with_member e n)) same (subst (λ j. Goes added (with_member e j)) gives (subst (λ j. Goes added (with_member e (member.Method j))) is then))

    constraint_goes : (c e : Class) → Goes c e → (y : Constraint) (k : Class) (n : Member) → declares known d c (member.Constraint y) ≡ Ok k → checked_member cs x (member.Constraint y) ≡ Ok n → Goes k (with_member e n)
    constraint_goes c e goes y k n h check =
        let added = with_member c (member.Constraint y) in
        let p = bind-ok (needs (Duplicate y.name) (is_none (constraint_named (line_of known c) y.name))) (λ _. Ok added) k h in
        let same : added ≡ k = cc (p.2) in
        let q = bind-ok (constraint_checked cs x y) (λ z. Ok (member.Constraint z)) n check in
        let gives : member.Constraint q.0 ≡ n = cc (q.2) in
        let then : Goes added (with_member e (member.Constraint q.0)) = record {
          fields = goes.fields;
          parent = goes.parent;
          own = goes.own;
          has = record { begins = goes.has.begins; fields = goes.has.fields; methods = goes.has.methods; triggers = goes.has.triggers };
        } in
        subst (λ (j : Class). Goes j (with_member e n)) same (subst (λ j. Goes added (with_member e j)) gives then)

    events_go : (c e : Class) → Goes c e → (kinds : List Kind) (k : Class) (n : Member) → declares known d c (member.Events kinds) ≡ Ok k → checked_member cs x (member.Events kinds) ≡ Ok n → Goes k (with_member e n)
    events_go c e goes kinds k n h check =
        let keeps = kinds_keep kinds c k h in
        let gives : member.Events kinds ≡ n = cc in
        let then : Goes k (with_member e (member.Events kinds)) = record {
          fields = goes.fields ∙ sym keeps.fields;
          parent = keeps.parent ∙ goes.parent;
          own = goes.own;
          has = record { begins = goes.has.begins; fields = goes.has.fields; methods = goes.has.methods; triggers = goes.has.triggers };
        } in
        subst (λ j. Goes k (with_member e j)) gives then

    trigger_goes : (c e : Class) → Goes c e → (t : TriggerDecl) (k : Class) (n : Member) → declares known d c (member.Trigger t) ≡ Ok k → checked_member cs x (member.Trigger t) ≡ Ok n → Goes k (with_member e n)
    unfolding trigger_checked
    trigger_goes c e goes t k n h check =
        let added = with_member c (member.Trigger t) in
        let new = is_none (trigger_named (line_of known c) t.name) in
        let p = bind-ok (knows_trigger known d c t) (λ _. Ok added) k h in
        let same : added ≡ k = cc (p.2) in
        let one = bind-ok (needs (Duplicate t.name) new) (λ _. knows_params known d t.params >> needs (WrongSort t.name) (is_callable t)) p.0 p.1 in
        let two = bind-ok (knows_params known d t.params) (λ _. needs (WrongSort t.name) (is_callable t)) p.0 one.2 in
        let params = bind-ok (through (next_param known d) [] t.params) (λ _. Ok tt) two.0 two.1 in
        let none : trigger_named (line_of known c) t.name ≡ None = none_is (trigger_named (line_of known c) t.name) (needs-ok (Duplicate t.name) new one.0 one.1) in
        let fresh : trigger_named (ancestors_of known c) t.name ≡ None =
        second_none (trigger_named (c ∷ []) t.name) (trigger_named (ancestors_of known c) t.name) (sym (trigger_named-next c (ancestors_of known c) t.name) ∙ none) in
        let scope = member_scope cs x t.name t.params sort.Void in
        let q = bind-ok (trigger_checked cs x t) (λ y. Ok (member.Trigger y)) n check in
        let r = bind-ok (listed t.event scope) (λ v. body t.action scope >>= (λ ss. Ok (record t { event = v; action = ss }))) q.0 q.1 in
        let s = bind-ok (body t.action scope) (λ ss. Ok (record t { event = r.0; action = ss })) q.0 r.2 in
        let made : TriggerDecl = record t { event = r.0; action = s.0 } in
        let is : made ≡ q.0 = cc (s.2) in
        let gives : member.Trigger q.0 ≡ n = cc (q.2) in
        let here : IsFresh above made = record {
          fresh = subst (λ line. trigger_named line t.name ≡ None) (above_is c goes.parent) fresh;
          sorts = params_known t.params [] params.0 params.1;
          initial = callable t (needs-ok (WrongSort t.name) (is_callable t) p.0 two.2);
        } in
        let then : Goes added (with_member e (member.Trigger made)) = record {
          fields = goes.fields;
          parent = goes.parent;
          own = goes.own;
          has = record {
            begins = goes.has.begins;
            fields = goes.has.fields;
            methods = goes.has.methods;
            triggers = all-append (IsFresh above) e.triggers (made ∷ []) goes.has.triggers (here, tt);
          };
        } in
        subst (λ (j : Class). Goes j (with_member e n)) same (subst (λ j. Goes added (with_member e j)) gives (subst (λ j. Goes added (with_member e (member.Trigger j))) is then))

    member_goes : (c e : Class) → Goes c e → (m n : Member) (k : Class) → declares known d c m ≡ Ok k → checked_member cs x m ≡ Ok n → Goes k (with_member e n)
    member_goes c e goes (member.Field name s) n k h check = let gives : member.Field name s ≡ n = cc in field_goes c e goes name s k (with_member e n) h (ap (with_member e) gives)
    member_goes c e goes (member.Method m) n k h check = method_goes c e goes m k n h check
    member_goes c e goes (member.Constraint y) n k h check = constraint_goes c e goes y k n h check
    member_goes c e goes (member.Events kinds) n k h check = events_go c e goes kinds k n h check
    member_goes c e goes (member.Trigger t) n k h check = trigger_goes c e goes t k n h check

    members_go : (ms ns : List Member) (c e : Class) → Goes c e → (k : Class) → through (declares known d) c ms ≡ Ok k → each (checked_member cs x) ms ≡ Ok ns → Goes k (fold with_member e ns)
    members_go [] ns c e goes k h check =
        let none : List Member = [] in
        let is : none ≡ ns = cc in
        let same : c ≡ k = cc in
        subst (λ js. Goes k (fold with_member e js)) is (subst (λ (j : Class). Goes j e) same goes)
    members_go (m ∷ ms) ns c e goes k h check =
        let p = bind-ok (declares known d c m) (λ j. through (declares known d) j ms) k h in
        let q = bind-ok (checked_member cs x m) (λ n. each (checked_member cs x) ms >>= (λ js. Ok (n ∷ js))) ns check in
        let r = bind-ok (each (checked_member cs x) ms) (λ js. Ok (q.0 ∷ js)) ns q.2 in
        let same : q.0 ∷ r.0 ≡ ns = cc (r.2) in
        subst (λ js. Goes k (fold with_member e js)) same (members_go ms r.0 p.0 (with_member e q.0) (member_goes c e goes m q.0 p.0 p.1 q.1) k p.2 r.1)

-- ---- a class

-- the parent is one of the classes that are known
abbrev pub IsParent : List Class → Class → Type 0
IsParent known p = (name : List ℕ) × (class_named known name ≡ Some p)

abbrev pub fields_of : Option Class → List Field
fields_of parent = option_map_or (λ (p : Class). p.fields) parent []

abbrev pub kinds_of : Option Class → List Kind
kinds_of parent = option_map_or (λ (p : Class). p.kinds) parent []

-- a class that was checked, by its parent
pub record IsAccepted (known : List Class) (c : Class) : Type 0 where
  pub parent : Option Class
  pub there : IfSome parent (IsParent known)
  pub number : c.parent ≡ option_map (λ (p : Class). p.number) parent
  pub has : HasMembers (ancestors_of known c) (fields_of parent) c
  pub few : length c.fields ≤ field_limit

parent_there : (known : List Class) (name : Option (List ℕ)) (parent : Option Class) → parent_in known name ≡ Ok parent → IfSome parent (IsParent known)
parent_there known None parent h =
    let none : Option Class = None in
    let same : none ≡ parent = cc in
    subst (λ o. IfSome o (IsParent known)) same tt
parent_there known (Some name) parent h =
    let p = bind-ok (found (UnknownName name) (class_named known name)) (λ c. Ok (Some c)) parent h in
    let same : Some p.0 ≡ parent = cc (p.2) in
    subst (λ o. IfSome o (IsParent known)) same (name, found-ok (UnknownName name) (class_named known name) p.0 p.1)

parent_fields : (known : List Class) → AllByRecursion (λ (c : Class). AreFields c.fields) known → (parent : Option Class) → IfSome parent (IsParent known) → AreFields (fields_of parent)
parent_fields known all None there = no_fields
parent_fields known all (Some p) there = all-find (λ (c : Class). AreFields c.fields) (λ (c : Class). bytes_eq c.name there.0) known all p there.1

-- a class begins with its parent's fields and kinds
pub record IsBegun (known : List Class) (start : Class) : Type 0 where
  pub parent : Option Class
  pub there : IfSome parent (IsParent known)
  pub number : start.parent ≡ option_map (λ (p : Class). p.number) parent
  pub fields : start.fields ≡ fields_of parent
  pub kinds : start.kinds ≡ kinds_of parent
  pub methods : start.methods ≡ []
  pub triggers : start.triggers ≡ []

pub begun : (known : List Class) (d : ClassDecl) (start : Class) → begins known d ≡ Ok start → IsBegun known start
unfolding begins
begun known d start h =
    let first = bind-ok (needs (Duplicate d.name) (is_none (class_named known d.name))) (λ _. parent_in known d.parent >>= (λ parent. numbered known d.name >>= (λ number. Ok (without_members number d.name parent)))) start h in
    let second = bind-ok (parent_in known d.parent) (λ parent. numbered known d.name >>= (λ number. Ok (without_members number d.name parent))) start first.2 in
    let third = bind-ok (numbered known d.name) (λ number. Ok (without_members number d.name second.0)) start second.2 in
    let is : without_members third.0 d.name second.0 ≡ start = cc (third.2) in
    subst (IsBegun known) is (record { parent = second.0; there = parent_there known d.parent second.0 second.1; number = refl; fields = refl; kinds = refl; methods = refl; triggers = refl })

small_fields : (known : List Class) (c : Class) → is_small known c ≡ true → length c.fields ≤ field_limit
small_fields known c h =
    let fields = nat_le (length c.fields) field_limit in
    let triggers = nat_le (length c.triggers) trigger_limit in
    let first = and_parts (fields && triggers) (nat_le (length (ancestors_of known c)) ancestor_limit) h in
    let test : nat_le (length c.fields) field_limit ≡ true = (and_parts fields triggers first.0).0 in
    at_most (length c.fields) field_limit test where
      at_most : (m n : ℕ) → nat_le m n ≡ true → m ≤ n
      at_most m n is = grind (arith, nat_tests)

pub accepted : (known : List Class) → AllByRecursion (λ (c : Class). AreFields c.fields) known → (c : Class) → IsChecked known c → IsAccepted known c
unfolding declared
accepted known all c is =
    let d = is.tree in
    let came = came_of known is.added d c is.checks in
    let start = came.start in
    let draft = came.draft in
    let cs = known ++ draft ∷ [] in
    let run = bind-ok (through (declares known d) start d.members) (λ ms. through (adds known d) ms is.added >>= (λ k. needs (TooMany d.name) (is_small known k) >> Ok k)) draft came.drafted in
    let grown = bind-ok (through (adds known d) run.0 is.added) (λ k. needs (TooMany d.name) (is_small known k) >> Ok k) draft run.2 in
    let test = bind-ok (needs (TooMany d.name) (is_small known grown.0)) (λ _. Ok grown.0) draft grown.2 in
    let few : length grown.0.fields ≤ field_limit = small_fields known grown.0 (needs-ok (TooMany d.name) (is_small known grown.0) test.0 test.1) in
    let begin = begun known d start came.begun in
    let fields : AreFields start.fields = subst AreFields (sym begin.fields) (parent_fields known all begin.parent begin.there) in
    let goes : Goes known d cs draft start start start = record {
      fields = refl;
      parent = refl;
      own = refl;
      has = record {
        begins = λ place f at. at;
        fields = fields;
        methods = subst (AllByRecursion (IsShaped (ancestors_of known start))) (sym begin.methods) tt;
        triggers = subst (AllByRecursion (IsFresh (ancestors_of known start))) (sym begin.triggers) tt;
      };
    } in
    let members : Goes known d cs draft start run.0 (fold with_member start came.members) = members_go known d cs draft start d.members came.members start start goes run.0 run.1 came.checked in
    let went : Goes known d cs draft start grown.0 c =
    subst (Goes known d cs draft start grown.0) came.made (all_added known d cs draft start is.added run.0 (fold with_member start came.members) members grown.0 grown.1) in
    record {
      parent = begin.parent;
      there = begin.there;
      number = went.own ∙ begin.number;
      has = subst (λ line. HasMembers line (fields_of begin.parent) c) (sym (above_is known d cs draft start c went.own)) (subst (λ fs. HasMembers (ancestors_of known start) fs c) begin.fields went.has);
      few = subst (λ fs. length fs ≤ field_limit) (sym went.fields) few;
    }
