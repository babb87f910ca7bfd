-- Look-ups of typed statements find something.
use Rattle.std.proofs.Common.{◌≡◌, ◌<◌, ℕ, suc, Bool, true, false, List, [], ◌∷◌, length, Option, Some, None, Ok, refl, sym, ap, ◌∙◌, subst}
use Rattle.std.specs.Prelude.{slice_get}
use Rattle.std.specs.List.{AllByRecursion, AllZip, list_all}
use Rattle.std.specs.Option.{IsSome, IsSomeAnd, option_and_then, option_map_or}
use Rattle.std.proofs.lemmas.Bool.{and_parts}
use Rattle.std.proofs.lemmas.Option.{slice_get_within}
use Rattle.ode_value.specs.declared.binding.Param.{Param}
use Rattle.ode_value.specs.declared.binding.Var.TheVariants.{Local, Own}
use Rattle.ode_value.specs.declared.class.Class.{Class}
use Rattle.ode_value.specs.declared.class.Field.{Field}
use Rattle.ode_value.specs.declared.member.Method.{Method}
use Rattle.ode_value.specs.declared.member.TriggerDecl.{TriggerDecl}
use Rattle.ode_value.specs.declared.statement.Call.{Call}
use Rattle.ode_value.specs.declared.statement.Expr.{Expr}
use Rattle.ode_value.specs.declared.statement.Rhs.{Rhs}
use Rattle.ode_value.specs.declared.statement.Rhs.TheVariants as rhs
use Rattle.ode_value.specs.declared.statement.Sort.{Sort}
use Rattle.ode_value.specs.declared.statement.Sort.TheVariants as sort
use Rattle.ode_value.specs.declared.value.Ref.{Ref}
use Rattle.ode_value.specs.declared.value.Value.TheVariants as value
use Rattle.ode_value.specs.Classes as machine
use Rattle.ode_value.specs.Classes.{Trigger, is_a, trigger_at}
use Rattle.ode_value.specs.Denoting.{denoted, object_of}
use Rattle.ode_value.specs.Evaluation.{Frame}
use Rattle.ode_value.specs.Fitting.{FitsRef, FitsSort, HaveTrigger}
use Rattle.ode_value.specs.Versions.{Version}
use Rattle.ode_value.specs.Worlds as worlds
use Rattle.ode_value.specs.Worlds.{Bones, Entry, Object}
use Rattle.ode_types.specs.Families as families
use Rattle.ode_types.specs.Families.{field_named, line_of}
use Rattle.ode_types.specs.Kept.{Setting, are_fit, is_assigned, is_fit, is_right, is_set, receiver_class, right_sort, sort_in}
use Rattle.ode_types.specs.Sorts.{class_of}
use Rattle.ode_types.specs.Typing.{where_so}
use Rattle.ode_sound_laws.specs.Fits.{Fits, FitsEntry, IsReadable, all_alive}
use Rattle.ode_sound_laws.specs.Sound.{Inherits, IsKnown, Redefines, checked_classes}
use Rattle.ode_sound_laws.proofs.Basics.{and_some, if_some_at, so_some, some_and, then_some, zip_at}
use Rattle.ode_sound_laws.proofs.ExprLaws.{denotes_fit, expr_fits, sort_class}
use Rattle.ode_sound_laws.proofs.FitLaws.{of_live}
use Rattle.ode_sound_laws.proofs.WalkCalls.{above, named_class}
use Rattle.ode_lookup_laws.specs.Receiving.{Receives}

-- ---- as many arguments as parameters

as_many : (at : Setting) (params : List Param) (args : List Expr) → are_fit at params args ≡ true → length params ≡ length args
as_many at [] [] h = refl
as_many at [] (e ∷ es) h = absurd (cc)
as_many at (p ∷ ps) [] h = absurd (cc)
as_many at (p ∷ ps) (e ∷ es) h = ap suc (as_many at ps es (and_parts (is_fit at p.sort e) (are_fit at ps es) h).1)

zip_length : {X Y : Type 0} (R : X → Y → Type 0) (xs : List X) (ys : List Y) → AllZip R xs ys → length xs ≡ length ys
zip_length R [] [] all = refl
zip_length R [] (y ∷ ys) all = absurd all
zip_length R (x ∷ xs) [] all = absurd all
zip_length R (x ∷ xs) (y ∷ ys) all = ap suc (zip_length R xs ys all.1)

is_some_of : {X : Type 0} (o : Option X) (x : X) → o ≡ Some x → IsSome o
is_some_of (Some y) x h = refl
is_some_of None x h = absurd (cc)

-- what is there, of a test of it
some_test : {X : Type 0} (f : X → Bool) (o : Option X) → option_map_or f o false ≡ true → (x : X) × (o ≡ Some x)
some_test f (Some x) h = (x, refl)
some_test f None h = absurd (cc)

module _ (b : Bones) (at : Setting) (frame : Frame) (h : IsReadable b at frame) where
  -- a receiver is a reference of its class
  receives_fit : (of : Option Expr) (c : Class) → receiver_class at of ≡ Some c → (r : Ref) → Receives of b frame r → IsKnown b.classes c × FitsRef (all_alive b) c.name r
  receives_fit None c is r received = (
    if_some_at (IsKnown b.classes) at.class h.here.known c is,
    subst (FitsRef (all_alive b) c.name) received (if_some_at (λ (d : Class). FitsRef (all_alive b) d.name frame.this) at.class h.here.this c is),
  )
  receives_fit (Some e) c is r received =
      let of = then_some (class_of at.classes) (sort_in e at) c is in
      let class = sort_class b h.sound of.0 c (subst (λ cs. class_of cs of.0 ≡ Some c) h.here.classes of.2) in
      (class.0, subst (λ s. Fits b s (value.Reference r)) class.1 (expr_fits e b at frame h of.0 of.1 (value.Reference r) received))

  -- the object that is there is of the receiver's class
  receiver_above : (of : Option Expr) (c : Class) → receiver_class at of ≡ Some c → (r : Ref) → Receives of b frame r → (o : Object) → object_of b r ≡ Some o → IsKnown b.classes c × (is_a b.classes o.class c.name ≡ true)
  receiver_above of c is r received o there =
      let fits = receives_fit of c is r received in
      let live = of_live b r o there in
      (fits.0, above c.name b r (record { fits = fits.1; some = live.0 }) o live.1)

  pub method_found : (call : Call) (s : Option Sort) → right_sort at (rhs.Call call) ≡ Some s → (r : Ref) → Receives call.of b frame r → (o : Object) → object_of b r ≡ Some o
      → IsSomeAnd (machine.method_named b.classes o.class call.method) (λ (m : Method). length m.params ≡ length call.args)
  method_found call s typed r received o there =
      let method = then_some (λ (m : Method). where_so (are_fit at m.params call.args) (Some (Some m.result))) (option_and_then (λ (d : Class). families.method_named (line_of at.classes d) call.method) (receiver_class at call.of)) s typed in
      let class = then_some (λ (d : Class). families.method_named (line_of at.classes d) call.method) (receiver_class at call.of) method.0 method.1 in
      let args = so_some (are_fit at method.0.params call.args) (Some (Some method.0.result)) s method.2 in
      let is = receiver_above call.of class.0 class.1 r received o there in
      let named : families.method_named (line_of (checked_classes b.classes) class.0) call.method ≡ Some method.0 = subst (λ cs. families.method_named (line_of cs class.0) call.method ≡ Some method.0) h.here.classes class.2 in
      let re : Redefines b.classes o.class call.method method.0 = h.sound.methods o.class class.0 is.0 is.1 call.method method.0 named in
      and_some (λ (m : Method). length m.params ≡ length call.args) (machine.method_named b.classes o.class call.method) re.method re.found
      (sym (zip_length (λ (p q : Param). q.sort ≡ p.sort) method.0.params re.method.params re.params) ∙ as_many at method.0.params call.args args.0)

  pub trigger_found : (e : Expr) (name : List ℕ) (args : List Expr) (s : Option Sort) → right_sort at (rhs.Activate e name args) ≡ Some s → (r : Ref) → Receives (Some e) b frame r → (o : Object) → object_of b r ≡ Some o
      → IsSomeAnd (machine.trigger_named b.classes o.class name) (λ (t : Trigger). length t.decl.params ≡ length args)
  trigger_found e name args s typed r received o there =
      let trigger = then_some (λ (t : TriggerDecl). where_so (are_fit at t.params args) (Some (Some sort.Int))) (option_and_then (λ (d : Class). families.trigger_named (line_of at.classes d) name) (receiver_class at (Some e))) s typed in
      let class = then_some (λ (d : Class). families.trigger_named (line_of at.classes d) name) (receiver_class at (Some e)) trigger.0 trigger.1 in
      let are = so_some (are_fit at trigger.0.params args) (Some (Some sort.Int)) s trigger.2 in
      let is = receiver_above (Some e) class.0 class.1 r received o there in
      let named : families.trigger_named (line_of (checked_classes b.classes) class.0) name ≡ Some trigger.0 = subst (λ cs. families.trigger_named (line_of cs class.0) name ≡ Some trigger.0) h.here.classes class.2 in
      let it : Inherits b.classes o.class name trigger.0 = h.sound.activated o.class class.0 is.0 is.1 name trigger.0 named in
      and_some (λ (t : Trigger). length t.decl.params ≡ length args) (machine.trigger_named b.classes o.class name) it.trigger it.found
      (ap (λ (t : TriggerDecl). length t.params) it.same ∙ as_many at trigger.0.params args are.0)

  fields_named : (c : Class) (sets : List (List ℕ × Expr)) → list_all (is_set at c) sets ≡ true → AllByRecursion (λ (set : List ℕ × Expr). IsSome (field_named c.fields set.0)) sets
  fields_named c [] are = tt
  fields_named c (set ∷ sets) are =
      let parts = and_parts (is_set at c set) (list_all (is_set at c) sets) are in
      let field = some_test (λ (f : ℕ × Field). is_fit at f.1.sort set.1) (field_named c.fields set.0) parts.0 in
      (is_some_of (field_named c.fields set.0) field.0 field.1, fields_named c sets parts.1)

  pub class_found : (name : List ℕ) (sets : List (List ℕ × Expr)) (s : Option Sort) → right_sort at (rhs.New name sets) ≡ Some s
      → IsSomeAnd (worlds.class_named name b.classes) (λ (c : Class). AllByRecursion (λ (set : List ℕ × Expr). IsSome (field_named c.fields set.0)) sets)
  class_found name sets s typed =
      let c = then_some (λ (c : Class). where_so (list_all (is_set at c) sets) (Some (Some (sort.Reference name)))) (families.class_named at.classes name) s typed in
      let are = so_some (list_all (is_set at c.0) sets) (Some (Some (sort.Reference name))) s c.2 in
      and_some (λ (d : Class). AllByRecursion (λ (set : List ℕ × Expr). IsSome (field_named d.fields set.0)) sets) (worlds.class_named name b.classes) c.0
      (named_class name b.classes ∙ subst (λ cs. families.class_named cs name ≡ Some c.0) h.here.classes c.1) (fields_named c.0 sets are.0)

  pub field_found : (place : ℕ) (r : Rhs) → is_assigned (Own place) r at ≡ true → (v : Version) → denoted b frame.this ≡ Ok v → place < length v.fields
  field_found place r set v is =
      let field = some_test (λ (f : Field). is_right at f.sort r) (option_and_then (λ (c : Class). slice_get c.fields place) at.class) set in
      let class = then_some (λ (c : Class). slice_get c.fields place) at.class field.0 field.1 in
      let known = if_some_at (IsKnown b.classes) at.class h.here.known class.0 class.1 in
      let this = if_some_at (λ (d : Class). FitsRef (all_alive b) d.name frame.this) at.class h.here.this class.0 class.1 in
      let it = denotes_fit b h.sound h.fit class.0.name frame.this this v is in
      let same = h.sound.fields it.object.class class.0 it.fits.class known it.is it.fits.known place field.0 class.2 in
      let there = zip_at (λ (f : Field). FitsSort (all_alive b) f.sort) it.fits.class.fields v.fields it.version.fields place field.0 same in
      slice_get_within v.fields place there.0 there.1

  pub local_found : (place : ℕ) (r : Rhs) → is_assigned (Local place) r at ≡ true → IsSome (slice_get frame.locals place)
  local_found place r set =
      let held = some_test (λ s. is_right at s r) (option_and_then (λ s. s) (slice_get at.slots place)) set in
      let slot = then_some (λ (s : Option Sort). s) (slice_get at.slots place) held.0 held.1 in
      let there = some_and (Fits b (Some held.0)) (slice_get frame.locals place) (h.here.slots place held.0 (slot.1 ∙ ap Some slot.2)) in
      is_some_of (slice_get frame.locals place) there.0 there.1

pub entry_found : (b : Bones) (e : Entry) → FitsEntry b e → IsSome (trigger_at b.classes e.class e.trigger)
entry_found b e fits = by_trigger (trigger_at b.classes e.class e.trigger) fits.trigger where
  by_trigger : (o : Option Trigger) → HaveTrigger (all_alive b) e.args o → IsSome o
  by_trigger (Some t) has = refl
  by_trigger None has = absurd has
