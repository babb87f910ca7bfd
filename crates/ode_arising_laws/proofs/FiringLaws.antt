-- What arises at a point: the firings are of triggers at their places, and the world stays ordered.
use Rattle.std.proofs.Common.{◌≡◌, ℕ, List, [], ◌∷◌, map, option_map, Option, Some, None, refl, sym, ap, subst, ◌∙◌, arith}
use Rattle.std.specs.Prelude.{◌&&◌, unwrap_or}
use Rattle.std.specs.List.{AllByRecursion, filter, flat_map}
use Rattle.std.specs.Option.{option_map_or}
use Rattle.ode_arising_laws.specs.Arising.{firing_by}
use Rattle.ode_interpreter.specs.Seen.{firing}
use Rattle.ode_laws.proofs.Each.{all-append, all-filter, all-map, all-of, all-then}
use Rattle.ode_laws.proofs.Numbers.{IsPlaced, triggers_placed}
use Rattle.ode_laws.specs.Alike.{NumberTx}
use Rattle.ode_schema.proofs.Agree.{trigger_by}
use Rattle.ode_schema.specs.Parts.{no_trigger, trigger_of, trigger_under}
use Rattle.ode_states.specs.Machine.{checked, fired_as}
use Rattle.ode_states.specs.declared.fired.Fired.{Fired}
use Rattle.ode_value.specs.Acts.{Act, Done, found, go_on}
use Rattle.ode_value.specs.Classes as machine
use Rattle.ode_value.specs.Denoting.{object_at}
use Rattle.ode_value.specs.Firings.{Place, arises, fired, fired_by, fired_in, firing_of, grown_past, is_firing, is_of, new_point, object_after, with_point}
use Rattle.ode_value.specs.GoodWorlds.{RiseFrom}
use Rattle.ode_value.specs.Objects.{Activation}
use Rattle.ode_value.specs.Pasts.{Kept, numbers}
use Rattle.ode_value.specs.Tables.{Table}
use Rattle.ode_value.specs.Transactions.{Firing, with_bones}
use Rattle.ode_value.specs.Worlds.{Declared, Object, kept_at, with_object}
use Rattle.ode_value.specs.declared.class.Class.{Class}
use Rattle.ode_value.specs.declared.event.Kind.{Kind}
use Rattle.ode_value.specs.declared.member.TriggerDecl.{TriggerDecl}
use Rattle.ode_value.specs.declared.value.Value.{Value}
use Rattle.ode_view_laws.proofs.OrderLaws.{changed}
use Rattle.ode_view_laws.specs.Ordering.{IsOrdered}

abbrev NumberKept : Type 0
NumberKept = Kept (Unit {0}) ℕ

-- a firing of an object, of a trigger at its place
pub record IsFiringOf (classes : List Declared) (id : ℕ) (f : Firing) : Type 0 where
  pub object : f.object ≡ id
  pub placed : IsPlaced classes f.trigger

all_flat : {X Y : Type 0} (P : Y → Type 0) (f : X → List Y) (xs : List X) → AllByRecursion (λ x. AllByRecursion P (f x)) xs → AllByRecursion P (flat_map f xs)
all_flat P f [] all = tt
all_flat P f (x ∷ xs) all = all-append P (f x) (flat_map f xs) all.0 (all_flat P f xs all.1)

module _ (by : ℕ → ℕ → Table) (place : Place (Unit {0}) ℕ) (classes : List Declared) (rising : RiseFrom 0 (map (λ (d : Declared). d.class.number) classes)) (o : Object) where
  own_firings : (kept : NumberKept) (t : machine.Trigger) → IsPlaced classes t → AllByRecursion (IsFiringOf classes o.id) (fired_by (numbers by) o kept t)
  own_firings kept t placed =
      let firing_acts = filter (λ a. is_of t a && is_firing (numbers by) kept t a) o.activations in
      all-map (IsFiringOf classes o.id) (firing_of o t) firing_acts (all-of (λ (a : Activation). IsFiringOf classes o.id (firing_of o t a)) (λ a. record { object = refl; placed = placed }) firing_acts)

  all_firings : (kept : NumberKept) → AllByRecursion (IsFiringOf classes o.id) (fired_in (numbers by) place o classes kept)
  all_firings kept =
      let seen = filter place.sees (machine.triggers_of classes o.class) in
      all_flat (IsFiringOf classes o.id) (fired_by (numbers by) o kept) seen
      (all-then (IsPlaced classes) (λ t. AllByRecursion (IsFiringOf classes o.id) (fired_by (numbers by) o kept t)) (own_firings kept) seen
      (all-filter (IsPlaced classes) place.sees (machine.triggers_of classes o.class) (triggers_placed classes rising o.class)))

  kept_firings : (k : Option NumberKept) → AllByRecursion (IsFiringOf classes o.id) (option_map_or (fired_in (numbers by) place o classes) k [])
  kept_firings None = tt
  kept_firings (Some kept) = all_firings kept

-- ---- what an object's point leaves

done_answer : {R : Type 0} (a b : R) (y z : NumberTx) → Done a y ≡ Done b z → a ≡ b
done_answer a b y z is = cc is

done_reached : {R : Type 0} (a b : R) (y z : NumberTx) → Done a y ≡ Done b z → y ≡ z
done_reached a b y z is = cc is

module _ (by : ℕ → ℕ → Table) (place : Place (Unit {0}) ℕ) (id : ℕ) (kind : Kind) (args : List Value) (y : NumberTx) where
  abbrev grown : Object → NumberTx
  grown o = record y { now = with_point (numbers by) place (new_point kind args o) o y.now }

  abbrev firings_of : Object → List Firing
  firings_of o = fired (numbers by) place o (grown o).now

  abbrev end_of : Object → NumberTx
  end_of o = with_bones (λ b. record b { objects = with_object id (object_after (firings_of o)) b.objects }) (grown o)

  abbrev rest_of : Object → Act (Unit {0}) ℕ (List Firing)
  rest_of o z =
      let then = record z { now = with_point (numbers by) place (new_point kind args o) o z.now } in
      let fs = fired (numbers by) place o then.now in
      Done fs (with_bones (λ b. record b { objects = with_object id (object_after fs) b.objects }) then)

  pub none_arise : object_at y.now.bones id ≡ None → arises (numbers by) place id kind args y ≡ go_on (found None y) rest_of
  none_arise none = ap (λ (f : Option Object). go_on (found f y) rest_of) none

  -- the firings are the object's, and the world stays ordered
  pub record HasArisen (firings : List Firing) (z : NumberTx) : Type 0 where
    pub firings_are : AllByRecursion (IsFiringOf y.now.bones.classes id) firings
    pub ordered : IsOrdered z.now

  pub arisen : (o : Object) → object_at y.now.bones id ≡ Some o → o.id ≡ id → RiseFrom 0 (map (λ (d : Declared). d.class.number) y.now.bones.classes) → IsOrdered y.now
      → (firings : List Firing) (z : NumberTx) → arises (numbers by) place id kind args y ≡ Done firings z → HasArisen firings z
  arisen o there number rising ordered firings z is =
      let both : Done (firings_of o) (end_of o) ≡ Done firings z = sym (ap (λ (f : Option Object). go_on (found f y) rest_of) there) ∙ is in
      let same = done_answer (firings_of o) firings (end_of o) z both in
      let end = done_reached (firings_of o) firings (end_of o) z both in
      let all = kept_firings by place y.now.bones.classes rising o (kept_at o.id (grown o).now.pasts) in
      record {
        firings_are = subst (λ (n : ℕ). AllByRecursion (IsFiringOf y.now.bones.classes n) firings) number (subst (AllByRecursion (IsFiringOf y.now.bones.classes o.id)) same all);
        ordered =
            subst (λ (t : NumberTx). IsOrdered t.now) end
            (changed y.now id y.now.bones.next (object_after (firings_of o)) (λ q. refl) o.id (grown_past (numbers by) place (new_point kind args o) y.now.bones.classes o) (omega arith) ordered);
      }

-- ---- by class and place alone

decl_by : (class place : ℕ) (t : machine.Trigger) (u : Option TriggerDecl) → option_map (λ d. machine.trigger_of class (place, d)) u ≡ Some t → t.decl ≡ unwrap_or u no_trigger
decl_by class place t None is = absurd (cc)
decl_by class place t (Some d) is = let same : machine.trigger_of class (place, d) ≡ t = cc in ap (λ (s : machine.Trigger). s.decl) (sym same)

module _ (cs : List Class) (classes : List Declared) (are : checked classes ≡ cs) (id : ℕ) where
  abbrev again : Firing → Firing
  again f = firing (trigger_of cs) (firing_by id (fired_as f))

  same_firing : (f : Firing) → IsFiringOf classes id f → f ≡ again f
  same_firing f is =
      let decl : f.trigger.decl ≡ trigger_of cs f.trigger.class f.trigger.place =
      decl_by f.trigger.class f.trigger.place f.trigger (trigger_under cs f.trigger.class f.trigger.place) (trigger_by cs classes are f.trigger.class f.trigger.place ∙ is.placed) in
      ap (λ n. record f { object = n }) is.object
      ∙ ap (λ (d : TriggerDecl). record f { object = id; trigger = record f.trigger { decl = d } }) decl

  same_firings : (fs : List Firing) → AllByRecursion (IsFiringOf classes id) fs → fs ≡ map (firing (trigger_of cs)) (map (firing_by id) (map fired_as fs))
  same_firings [] all = refl
  same_firings (f ∷ fs) all =
      ap (λ (g : Firing). g ∷ fs) (same_firing f all.0) ∙ ap (λ (gs : List Firing). again f ∷ gs) (same_firings fs all.1)

  pub firings_by : (fs : List Firing) (fired : List Fired) → map fired_as fs ≡ fired → AllByRecursion (IsFiringOf classes id) fs → fs ≡ map (firing (trigger_of cs)) (map (firing_by id) fired)
  firings_by fs fired is all = same_firings fs all ∙ ap (λ (gs : List Fired). map (firing (trigger_of cs)) (map (firing_by id) gs)) is
