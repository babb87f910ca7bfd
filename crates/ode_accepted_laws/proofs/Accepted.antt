-- Classes that were checked one behind the other are sound, in the words of the machine.
use Rattle.std.proofs.Common.{◌≡◌, ◌≤◌, ℕ, ◌-◌, List, [], ◌∷◌, ◌++◌, reverse, length, Bool, true, false, cond, ◌==◌, Option, Some, None, refl, ap, sym, ◌∙◌, subst, arith}
use Rattle.std.specs.Prelude.{◌||◌, slice_get}
use Rattle.std.specs.List.{AllByRecursion, enumerate_from, find, list_all, list_any}
use Rattle.std.specs.Option.{option_and_then, option_map, option_map_or, unwrap_or}
use Rattle.std.specs.Str.{bytes_eq}
use Rattle.std.proofs.lemmas.Bool.{and_parts, eqb-true}
use Rattle.std.proofs.lemmas.List.{take_all}
use Rattle.std.proofs.lemmas.List.Folds.{list_any-append}
use Rattle.ode_value.specs.declared.class.Class.{Class}
use Rattle.ode_value.specs.declared.class.Field.{Field}
use Rattle.ode_value.specs.declared.member.Method.{Method}
use Rattle.ode_value.specs.declared.member.TriggerDecl.{TriggerDecl}
use Rattle.ode_value.specs.declared.statement.Sort.TheVariants as sort
use Rattle.ode_value.specs.Classes as machine
use Rattle.ode_value.specs.Classes.{Trigger, own_triggers, trigger_of, triggers_of, trigger_at}
use Rattle.ode_value.specs.Worlds as worlds
use Rattle.ode_value.specs.Worlds.{Declared}
use Rattle.ode_types.specs.Checked.{AreChecked}
use Rattle.ode_types.specs.Families.{class_named, class_numbered, field_named, line_of, method_named, trigger_named, upward}
use Rattle.ode_types.specs.Kept.{IsTypedClass, are_masks, is_body, is_method, is_trigger, member_setting}
use Rattle.ode_types.specs.Limits.{field_limit, slot_limit}
use Rattle.ode_types.specs.Sorts.{inherits}
use Rattle.ode_laws.proofs.Each.{all-find, all-then}
use Rattle.ode_laws.proofs.Numbers.{all-at}
use Rattle.ode_typing_laws.proofs.Chain.{checked_typed}
use Rattle.ode_sound_laws.specs.Sound.{AreSound, Inherits, IsKnown, IsSoundTrigger, IsTypedIn, Redefines, checked_classes}
use Rattle.ode_sound_laws.proofs.Basics.{map_some}
use Rattle.ode_sound_laws.proofs.ExprLaws.{find_passes}
use Rattle.ode_sound_laws.proofs.SettleLaws.{both}
use Rattle.ode_sound_laws.proofs.WalkPosting.{all-flat}
use Rattle.ode_accepted_laws.proofs.Along.{IsOwn, IsFoundIn, Reaches, all_own, all_trees, fields_along, found_each, methods_along, reach, same_found, triggers_along, triggers_from}
use Rattle.ode_accepted_laws.proofs.Lines.{AreKept, IsLine, IsPlaced, all-upward, kept_all, line_from}
use Rattle.ode_accepted_laws.proofs.Lists.{all-any, all-reverse, all-right, all-tested, find-flat, flat-next, map-reverse, name_itself, names_same}
use Rattle.ode_accepted_laws.proofs.Members.{AreFields, IsFresh}

-- ---- the words of the machine

upward_is : (n : ℕ) (ds : List Declared) → machine.upward n ds ≡ upward n (checked_classes ds)
upward_is n [] = refl
upward_is n (d ∷ ds) = by_test (d.class.number == n) (upward_is (unwrap_or d.class.parent 0) ds) (upward_is n ds) where
  by_test : (b : Bool) → machine.upward (unwrap_or d.class.parent 0) ds ≡ upward (unwrap_or d.class.parent 0) (checked_classes ds) → machine.upward n ds ≡ upward n (checked_classes ds)
      → cond b (d.class ∷ machine.upward (unwrap_or d.class.parent 0) ds) (machine.upward n ds) ≡ cond b (d.class ∷ upward (unwrap_or d.class.parent 0) (checked_classes ds)) (upward n (checked_classes ds))
  by_test true here past = ap (λ l. d.class ∷ l) here
  by_test false here past = past

pub line_is : (cs : List Declared) (n : ℕ) → machine.line_of cs n ≡ upward n (reverse (checked_classes cs))
line_is cs n = upward_is n (reverse cs) ∙ ap (upward n) (map-reverse (λ (d : Declared). d.class) cs)

numbered_is : (n : ℕ) (cs : List Declared) → worlds.class_numbered n cs ≡ class_numbered (checked_classes cs) n
numbered_is n [] = refl
numbered_is n (d ∷ ds) = ap (cond (d.class.number == n) (Some d.class)) (numbered_is n ds)

-- ---- tests

or_right : (a b : Bool) → b ≡ true → (a || b) ≡ true
or_right true b h = refl
or_right false b h = h

some_any : (o : Option Class) (p : Class → Bool) → option_map_or p o false ≡ true → (c : Class) × (o ≡ Some c) × (p c ≡ true)
some_any None p h = absurd (cc)
some_any (Some c) p h = (c, refl, h)

-- a class is named in its own line
head_named : (c : Class) (line : List Class) → list_any (λ (e : Class). bytes_eq e.name c.name) (c ∷ line) ≡ true
head_named c line = ap (λ b. b || list_any (λ (e : Class). bytes_eq e.name c.name) line) (name_itself c.name)

-- the trees that pass a test
all_tests : {X : Type 0} (p : X → Bool) (xs : List X) → list_all p xs ≡ true → AllByRecursion (λ x. p x ≡ true) xs
all_tests p [] all = tt
all_tests p (x ∷ xs) all = let parts = and_parts (p x) (list_all p xs) all in (parts.0, all_tests p xs parts.1)

module _ (cs : List Declared) (checked : AreChecked (checked_classes cs)) where
  abbrev classes : List Class
  classes = checked_classes cs

  kept : AreKept classes
  kept = kept_all classes checked

  -- a class in its place, typed
  record IsThere (c : Class) : Type 0 where
    placed : IsPlaced classes c
    typed : IsTypedClass classes c
    fields : AreFields c.fields
    few : length c.fields ≤ field_limit

  abbrev line : ℕ → List Class
  line n = upward n (reverse classes)

  all_there : AllByRecursion IsThere classes
  all_there =
      let P : Class → Type 0 = λ c. IsPlaced classes c × IsTypedClass classes c in
      let F : Class → Type 0 = λ c. AreFields c.fields × (length c.fields ≤ field_limit) in
      all-then (λ (c : Class). P c × F c) IsThere (λ c h. record { placed = h.0.0; typed = h.0.1; fields = h.1.0; few = h.1.1 }) classes
      (both P F classes
      (both (IsPlaced classes) (IsTypedClass classes) classes kept.placed (checked_typed classes checked))
      (both (λ (c : Class). AreFields c.fields) (λ (c : Class). length c.fields ≤ field_limit) classes kept.fields kept.few))

  there_above : (n : ℕ) → AllByRecursion IsThere (line n)
  there_above n = all-upward IsThere n (reverse classes) (all-reverse IsThere classes all_there)

  placed_above : (n : ℕ) → AllByRecursion (IsPlaced classes) (line n)
  placed_above n = all-then IsThere (IsPlaced classes) (λ c there. there.placed) (line n) (there_above n)

  is_line : (n : ℕ) → IsLine (line n)
  is_line n = line_from n (reverse classes) kept.family

  -- ---- known classes

  known_is : (c : Class) → IsPlaced classes c → IsKnown cs c
  known_is c placed = record { named = placed.named; numbered = numbered_is c.number cs ∙ placed.numbered }

  named_there : (name : List ℕ) (c : Class) → class_named classes name ≡ Some c → IsThere c
  named_there name c h = all-find IsThere (λ (e : Class). bytes_eq e.name name) classes all_there c h

  there : (c : Class) → IsKnown cs c → IsThere c
  there c known = named_there c.name c known.named

  named : (name : List ℕ) (c : Class) → class_named classes name ≡ Some c → IsKnown cs c × (c.name ≡ name)
  named name c h = (known_is c (named_there name c h).placed, names_same c.name name (find_passes (λ (e : Class). bytes_eq e.name name) classes c h))

  numbered_there : (n : ℕ) (c : Class) → class_numbered classes n ≡ Some c → IsThere c × (c.number ≡ n)
  numbered_there n c h = (
    all-find IsThere (λ (e : Class). e.number == n) classes all_there c h,
    eqb-true c.number n (find_passes (λ (e : Class). e.number == n) classes c h),
  )

  numbered : (n : ℕ) (c : Class) → class_numbered classes n ≡ Some c → IsKnown cs c × (c.number ≡ n)
  numbered n c h = let it = numbered_there n c h in (known_is c it.0.placed, it.1)

  -- ---- lines

  -- a class is named in a line
  abbrev IsIn : ℕ → List ℕ → Type 0
  IsIn n name = list_any (λ (e : Class). bytes_eq e.name name) (line n) ≡ true

  in_line : (n : ℕ) (name : List ℕ) → machine.is_a cs n name ≡ true → IsIn n name
  in_line n name h = sym (ap (list_any (λ (e : Class). bytes_eq e.name name)) (line_is cs n)) ∙ h

  is_in : (n : ℕ) (name : List ℕ) → IsIn n name → machine.is_a cs n name ≡ true
  is_in n name h = ap (list_any (λ (e : Class). bytes_eq e.name name)) (line_is cs n) ∙ h

  -- the line of a number ends with the line of a class that is named in it
  reaches : (n : ℕ) (c : Class) → IsPlaced classes c → IsIn n c.name → Reaches (line n) (line_of classes c)
  reaches n c placed h = reach classes c placed n (line n) refl (placed_above n) h

  inherited : (n : ℕ) (sub name : List ℕ) → machine.is_a cs n sub ≡ true → inherits classes sub name ≡ true → machine.is_a cs n name ≡ true
  inherited n sub name above h =
      let c = some_any (class_named classes sub) (λ (e : Class). list_any (λ (d : Class). bytes_eq d.name name) (line_of classes e)) h in
      let is = (named sub c.0 c.1).1 in
      let r = reaches n c.0 (named_there sub c.0 c.1).placed (subst (IsIn n) (sym is) (in_line n sub above)) in
      is_in n name
      (ap (list_any (λ (d : Class). bytes_eq d.name name)) r.is ∙ list_any-append (λ (d : Class). bytes_eq d.name name) r.front (line_of classes c.0)
      ∙ or_right (list_any (λ (d : Class). bytes_eq d.name name) r.front) (list_any (λ (d : Class). bytes_eq d.name name) (line_of classes c.0)) c.2)

  itself : (c : Class) → IsKnown cs c → machine.is_a cs c.number c.name ≡ true
  itself c known =
      let place = (there c known).placed in
      is_in c.number c.name (ap (list_any (λ (e : Class). bytes_eq e.name c.name)) place.line ∙ head_named c (upward (unwrap_or c.parent 0) (reverse classes)))

  -- ---- fields

  fields : (n : ℕ) (c d : Class) → IsKnown cs c → machine.is_a cs n c.name ≡ true → worlds.class_numbered n cs ≡ Some d → (place : ℕ) (f : Field) → slice_get c.fields place ≡ Some f → slice_get d.fields place ≡ Some f
  fields n c d known above h place f at =
      let below = numbered_there n d (sym (numbered_is n cs) ∙ h) in
      let r = reaches n c (there c known).placed (in_line n c.name above) in
      let from : line n ≡ line_of classes d = ap line (sym below.1) ∙ below.0.placed.line in
      fields_along r.front (upward (unwrap_or c.parent 0) (reverse classes)) c d (upward (unwrap_or d.parent 0) (reverse classes)) (sym from ∙ r.is) (subst IsLine r.is (is_line n)) place f at

  few_slots : (n : ℕ) → n ≤ field_limit → n ≤ slot_limit
  unfolding field_limit slot_limit
  few_slots n few = omega (arith, few)

  apart : (c : Class) → IsKnown cs c → (place : ℕ) (f : Field) → slice_get c.fields place ≡ Some f → field_named c.fields f.name ≡ Some (place, f)
  apart c known place f at =
      let it = there c known in
      let few : length c.fields ≤ slot_limit = few_slots (length c.fields) it.few in
      ap (λ fs. find (λ (g : ℕ × Field). bytes_eq g.1.name f.name) (enumerate_from 0 fs)) (take_all (slot_limit - 0) c.fields (omega (arith, few)))
      ∙ it.fields.apart few place f at

  -- ---- what is declared in a line is typed in a class of it

  record IsAbove (n : ℕ) (c : Class) : Type 0 where
    there : IsThere c
    named : IsIn n c.name

  all_above : (n : ℕ) → AllByRecursion (IsAbove n) (line n)
  all_above n =
      all-then (λ (c : Class). IsThere c × IsIn n c.name) (IsAbove n) (λ c h. record { there = h.0; named = h.1 }) (line n)
      (both IsThere (λ (c : Class). IsIn n c.name) (line n) (there_above n) (all-any (λ (c e : Class). bytes_eq e.name c.name) (λ c. name_itself c.name) (line n)))

  typed_method : (n : ℕ) (name : List ℕ) (m : Method) → method_named (line n) name ≡ Some m → IsTypedIn cs n m.params m.result m.body
  typed_method n name m h =
      let c = find-flat (IsAbove n) (λ (e : Class). e.methods) (λ (k : Method). bytes_eq k.name name) (line n) (all_above n) m h in
      record {
        class = c.0;
        known = known_is c.0 c.1.there.placed;
        above = is_in n c.0.name c.1.named;
        typed = all-tested (is_method classes c.0) (λ (k : Method). bytes_eq k.name name) c.0.methods c.1.there.typed.methods m c.2;
      }

  methods : (n : ℕ) (c : Class) → IsKnown cs c → machine.is_a cs n c.name ≡ true → (name : List ℕ) (m : Method) → method_named (line_of classes c) name ≡ Some m → Redefines cs n name m
  methods n c known above name m h =
      let r = reaches n c (there c known).placed (in_line n c.name above) in
      let here = methods_along r.front (line_of classes c) (subst IsLine r.is (is_line n)) name m h in
      let found : method_named (line n) name ≡ Some here.method = ap (λ l. method_named l name) r.is ∙ here.found in
      record {
        method = here.method;
        found = ap (λ l. method_named l name) (line_is cs n) ∙ found;
        params = here.sorts.params;
        result = here.sorts.result;
        body = typed_method n name here.method found;
      }

  -- ---- triggers

  from_is : (n : ℕ) → triggers_of cs n ≡ triggers_from (line n)
  from_is n = ap triggers_from (line_is cs n)

  activated : (n : ℕ) (c : Class) → IsKnown cs c → machine.is_a cs n c.name ≡ true → (name : List ℕ) (t : TriggerDecl) → trigger_named (line_of classes c) name ≡ Some t → Inherits cs n name t
  activated n c known above name t h =
      let r = reaches n c (there c known).placed (in_line n c.name above) in
      let below : trigger_named (line n) name ≡ Some t = ap (λ l. trigger_named l name) r.is ∙ triggers_along r.front (line_of classes c) (subst IsLine r.is (is_line n)) name t h in
      let it = map_some (λ (u : Trigger). u.decl) (find (λ (u : Trigger). bytes_eq u.decl.name name) (triggers_from (line n))) t (same_found (line n) (is_line n) name ∙ below) in
      record { trigger = it.0; found = ap (find (λ (u : Trigger). bytes_eq u.decl.name name)) (from_is n) ∙ it.1; same = it.2 }

  -- a trigger is at its place, and its action is typed
  record IsSoundBut (n : ℕ) (t : Trigger) : Type 0 where
    at : trigger_at cs t.class t.place ≡ Some t
    action : IsTypedIn cs n t.decl.params sort.Void t.decl.action
    fresh : IsFresh [] t.decl

  own_at : (c : Class) → IsThere c → (t : Trigger) → IsOwn c t → trigger_at cs t.class t.place ≡ Some t
  own_at c is t own =
      ap (λ o. option_map (λ u. trigger_of t.class (t.place, u)) (option_and_then (λ (e : Class). slice_get e.triggers t.place) o)) (ap (λ m. worlds.class_numbered m cs) own.class ∙ numbered_is c.number cs ∙ is.placed.numbered)
      ∙ ap (option_map (λ u. trigger_of t.class (t.place, u))) own.at

  -- what a line says of a trigger, without the names above
  alone : (above : List Class) (t : TriggerDecl) → IsFresh above t → IsFresh [] t
  alone above t fresh = record { fresh = refl; sorts = fresh.sorts; initial = fresh.initial }

  -- of a class with triggers like these
  record HasTriggers (n : ℕ) (c : Class) : Type 0 where
    here : IsAbove n c
    fresh : AllByRecursion (IsFresh []) c.triggers

  all_fresh : (l : List Class) → IsLine l → AllByRecursion (λ (c : Class). AllByRecursion (IsFresh []) c.triggers) l
  all_fresh [] is = tt
  all_fresh (c ∷ l) is = (all-then (IsFresh l) (IsFresh []) (alone l) c.triggers is.0.triggers, all_fresh l is.1)

  all_have : (n : ℕ) → AllByRecursion (HasTriggers n) (line n)
  all_have n =
      all-then (λ (c : Class). IsAbove n c × AllByRecursion (IsFresh []) c.triggers) (HasTriggers n) (λ c h. record { here = h.0; fresh = h.1 }) (line n)
      (both (IsAbove n) (λ (c : Class). AllByRecursion (IsFresh []) c.triggers) (line n) (all_above n) (all_fresh (line n) (is_line n)))

  own_sound : (n : ℕ) (c : Class) → HasTriggers n c → AllByRecursion (IsSoundBut n) (own_triggers c)
  own_sound n c has =
      let at = member_setting classes c in
      let T : Trigger → Type 0 = λ t. is_trigger classes c t.decl ≡ true in
      let F : Trigger → Type 0 = λ t. IsFresh [] t.decl in
      all-then (λ (t : Trigger). IsOwn c t × (T t × F t)) (IsSoundBut n) (λ t h. record {
        at = own_at c has.here.there t h.0;
        action = record {
          class = c;
          known = known_is c has.here.there.placed;
          above = is_in n c.name has.here.named;
          typed = (and_parts (are_masks t.decl.event (at t.decl.params sort.Void)) (is_body (at t.decl.params sort.Void) t.decl.action) h.1.0).1;
        };
        fresh = h.1.1;
      }) (own_triggers c)
      (both (IsOwn c) (λ (t : Trigger). T t × F t) (own_triggers c) (all_own c)
      (both T F (own_triggers c)
      (all_trees (λ (t : TriggerDecl). is_trigger classes c t ≡ true) c (all_tests (is_trigger classes c) c.triggers has.here.there.typed.triggers))
      (all_trees (IsFresh []) c has.fresh)))

  triggers : (n : ℕ) → AllByRecursion (IsSoundTrigger cs n) (triggers_of cs n)
  triggers n = subst (AllByRecursion (IsSoundTrigger cs n)) (sym (from_is n))
      (all-then (λ (t : Trigger). IsFoundIn (triggers_from (line n)) t × IsSoundBut n t) (IsSoundTrigger cs n) (λ t h. record {
        found = ap (find _) (from_is n) ∙ h.0;
        at = h.1.at;
        action = h.1.action;
        sorts = h.1.fresh.sorts;
        initial = h.1.fresh.initial;
      }) (triggers_from (line n))
      (both (IsFoundIn (triggers_from (line n))) (IsSoundBut n) (triggers_from (line n)) (found_each (line n) (is_line n))
      (all-flat (HasTriggers n) (IsSoundBut n) own_triggers (own_sound n) (reverse (line n)) (all-reverse (HasTriggers n) (line n) (all_have n)))))

  -- a class's own triggers are sound by its number
  own_declared : (c : Class) → IsThere c → AllByRecursion (λ (t : Trigger). IsSoundTrigger cs t.class t) (own_triggers c)
  own_declared c is =
      let from : triggers_of cs c.number ≡ triggers_from (upward (unwrap_or c.parent 0) (reverse classes)) ++ own_triggers c =
      from_is c.number ∙ ap triggers_from is.placed.line ∙ flat-next own_triggers c (upward (unwrap_or c.parent 0) (reverse classes)) in
      let own : AllByRecursion (IsSoundTrigger cs c.number) (own_triggers c) =
      all-right (IsSoundTrigger cs c.number) (triggers_from (upward (unwrap_or c.parent 0) (reverse classes))) (own_triggers c) (subst (AllByRecursion (IsSoundTrigger cs c.number)) from (triggers c.number)) in
      all-then (λ (t : Trigger). IsOwn c t × IsSoundTrigger cs c.number t) (λ (t : Trigger). IsSoundTrigger cs t.class t) (λ t h. subst (λ n. IsSoundTrigger cs n t) (sym h.0.class) h.1) (own_triggers c)
      (both (IsOwn c) (IsSoundTrigger cs c.number) (own_triggers c) (all_own c) own)

  of_declared : (P : Class → Type 0) (ds : List Declared) → AllByRecursion P (checked_classes ds) → AllByRecursion (λ (d : Declared). P d.class) ds
  of_declared P [] all = tt
  of_declared P (d ∷ ds) all = (all.0, of_declared P ds all.1)

  declared : (class place : ℕ) (t : Trigger) → trigger_at cs class place ≡ Some t → IsSoundTrigger cs class t
  declared class place t h =
      let tree = map_some (λ u. trigger_of class (place, u)) (option_and_then (λ (c : Class). slice_get c.triggers place) (worlds.class_numbered class cs)) t h in
      let is : t.class ≡ class = sym (ap (λ (u : Trigger). u.class) tree.2) in
      subst (λ n. IsSoundTrigger cs n t) is
      (all-at (λ (u : Trigger). IsSoundTrigger cs u.class u) cs
      (of_declared (λ (c : Class). AllByRecursion (λ (u : Trigger). IsSoundTrigger cs u.class u) (own_triggers c)) cs
      (all-then IsThere (λ (c : Class). AllByRecursion (λ (u : Trigger). IsSoundTrigger cs u.class u) (own_triggers c)) own_declared classes all_there)) class place t h)

  pub accepted_sound : AreSound cs
  accepted_sound = record {
    inherited = inherited;
    named = named;
    numbered = numbered;
    itself = itself;
    fields = fields;
    apart = apart;
    sorts = λ c known. (there c known).fields.sorts;
    methods = methods;
    activated = activated;
    triggers = triggers;
    declared = declared;
  }

pub ruleset accepted_are_sound = (accepted_sound)
