-- Acts of typed transactions that make versions, objects and activations; and points, which arise.
use Rattle.std.proofs.Common.{◌≡◌, ℕ, zero, suc, ◌+◌, ◌<◌, ◌≤◌, ◌^◌, true, false, cond, List, [], ◌∷◌, ◌++◌, ◌==◌, Some, None, Ok, refl, sym, ap, ◌∙◌, subst, arith}
use Rattle.std.specs.Prelude.{nat_lt, nat_le}
use Rattle.std.specs.List.{AllByRecursion, AllZip}
use Rattle.std.specs.Option.{IfSome}
use Rattle.std.proofs.lemmas.Bool.{eq-eqb, leb-true}
use Rattle.ode_value.specs.declared.binding.Param.{Param}
use Rattle.ode_value.specs.declared.class.Class.{Class}
use Rattle.ode_value.specs.declared.key.Key.{Key}
use Rattle.ode_value.specs.declared.reason.Reason.TheVariants as reason
use Rattle.ode_value.specs.declared.value.Ref.{Ref}
use Rattle.ode_value.specs.declared.value.Value.{Value}
use Rattle.ode_value.specs.Acts.{Act, ◌>>=◌, ◌>>◌, gives, does, sees, turns, prints, looks}
use Rattle.ode_value.specs.Changes.{holding, changes, object, alters_object, draws_number, draws_version}
use Rattle.ode_value.specs.Classes.{Trigger, is_a}
use Rattle.ode_value.specs.Denoting.{object_numbered, object_at, object_of, denoted}
use Rattle.ode_value.specs.Fitting.{FitsObject, FitsRef, FitsSort, FitFields}
use Rattle.ode_value.specs.Keys.{object_key, version_key, activation_key}
use Rattle.ode_value.specs.Lengths.{values_length, version_size}
use Rattle.ode_value.specs.Limits.{version_limit, args_limit}
use Rattle.ode_value.specs.Making.{stamp_now, with_new, with_active, derived_from, next_version, derives, makes, switches_on, object_with}
use Rattle.ode_value.specs.Pasts.{Past}
use Rattle.ode_value.specs.Statements.{generic}
use Rattle.ode_value.specs.Texts.{new_line, version_line, active_line}
use Rattle.ode_value.specs.Transactions.{Tx, touching, looking, drawing}
use Rattle.ode_value.specs.Versions.{Version, version_of}
use Rattle.ode_value.specs.Worlds.{Object, Bones}
use Rattle.ode_laws.proofs.AlikePairs.{altered_bones}
use Rattle.ode_laws.proofs.Each.{all-then}
use Rattle.ode_laws.proofs.Numbers.{apart}
use Rattle.ode_laws.proofs.Rows.{at_numbered, numbered_id, find-with}
use Rattle.ode_laws.proofs.Sides.{altered, turned}
use Rattle.ode_sound_laws.specs.Growing.{Grows}
use Rattle.ode_sound_laws.specs.Typed.{IsTyped}
use Rattle.ode_sound_laws.specs.Fits.{alive, all_alive, FitsVersion, FitsWorld, AreFit}
use Rattle.ode_sound_laws.specs.Sound.{AreSound, IsKnown, IsSoundTrigger}
use Rattle.ode_sound_laws.proofs.Basics.{if_some_from, found_same}
use Rattle.ode_sound_laws.proofs.ExprLaws.{denotes_fit, version_all}
use Rattle.ode_sound_laws.proofs.FitLaws.{of_alive, ref_follows}
use Rattle.ode_sound_laws.proofs.GrowLaws.{IsMild, changed_fit, stamp_follows, born_follows, derived_mild, derived_fits, derived_last, new_bones, new_grows, new_fit, active_bones, active_grows, active_fit}
use Rattle.ode_sound_laws.proofs.WalkActs.{Any, typed_now, Ends, ends_from, ends_then, ends_done, found_ends, valued_ends, needs_ends, changes_ends, prints_ends, alters_found}

-- what a change leaves at its number
altered_at : (b : Bones) (id : ℕ) (f : Object → Object) → IsMild f → (o : Object) → object_numbered id b.objects ≡ Some o → object_numbered id (altered_bones id f b).objects ≡ Some (f o)
altered_at b id f mild o e = find-with id id f mild.id b.objects o e ∙ ap (λ t. Some (cond t (f o) o)) (eq-eqb id id refl)

-- a reference whose object, where there is one, is of a class that inherits from this one, and whose version was drawn
pub reference_fits : (b : Bones) (class : List ℕ) (r : Ref) (o : Object) → object_numbered r.object b.objects ≡ Some o → FitsObject (all_alive b) class r (alive o) → IfSome (object_of (all_alive b) r) (FitsObject (all_alive b) class r)
reference_fits b class r o e fits = if_some_from (FitsObject (all_alive b) class r) (object_of (all_alive b) r) (λ p there.
    let it = of_alive b r p there in
    let same : o ≡ it.0 = found_same (object_numbered r.object b.objects) o it.0 e it.2 in
    subst (FitsObject (all_alive b) class r) (ap alive same ∙ it.3) fits)

not_zero : (n : ℕ) → (n == 0) ≡ false → 0 < n
not_zero zero z = absurd (cc)
not_zero (suc n) z = omega arith

-- a new object of a class, and the reference to it
pub record IsNew (c : Class) (b : Bones) (id : ℕ) : Type 0 where
  pub some : 0 < id
  pub drawn : id < b.next
  pub object : Object
  pub found : object_numbered id b.objects ≡ Some object
  pub class : object.class ≡ c.number

pub new_later : (c : Class) (b d : Bones) (id : ℕ) → Grows b d → IsNew c b id → IsNew c d id
new_later c b d id grows h =
    let still = grows.stays id h.object h.found in
    record {
      some = h.some;
      drawn = let one : id < b.next = h.drawn in let two : b.next ≤ d.next = grows.follows.next in omega arith;
      object = still.after;
      found = still.found;
      class = still.class ∙ h.class;
    }

pub new_fits : (c : Class) (b : Bones) (id : ℕ) → AreSound b.classes → AreFit b → IsKnown b.classes c → IsNew c b id → FitsRef (all_alive b) c.name (generic id)
new_fits c b id sound fit known h = record {
  is = record { object = let one : id < b.next = h.drawn in let two : b.next ≤ 2 ^ 62 = fit.next.bounded in omega arith; version = tt };
  drawn = h.drawn;
  object = reference_fits b c.name (generic id) h.object h.found (record { fits = ap (λ n. is_a b.classes n c.name) h.class ∙ sound.itself c known; version = tt });
}

-- a reference that fits a class
abbrev pub FitsIn : List ℕ → Bones → Ref → Type 0
FitsIn class b new = FitsRef (all_alive b) class new

-- a number was drawn
abbrev pub IsBelow : Bones → ℕ → Type 0
IsBelow b n = n < b.next

-- the keys of a new object, and of a new activation
abbrev made_keys : ℕ → List Key
made_keys id = object_key id ∷ version_key id 1 ∷ []

abbrev active_keys : ℕ → ℕ → List Key
active_keys id number = activation_key id number ∷ []

module _ {O A : Type 0} where
  -- a new version; the reference to it fits what the reference to the old one fitted
  pub derives_ends : (class : List ℕ) (r : Ref) (x : Tx O A) → IsTyped x → FitsRef (all_alive x.now.bones) class r → Ends x.now.bones (λ b new. FitsRef (all_alive b) class new) (derives r x)
  derives_ends class r x h fits =
      valued_ends x.now.bones (FitsIn class) (denoted x.now.bones r) x h derived (λ v e.
      found_ends x.now.bones (FitsIn class) (object_at x.now.bones r.object) x h (copied v) (λ o there.
      changes_ends x.now.bones (FitsIn class) (keys_of o) (version_size now v.fields) (draws_version o) x h (put now v o) (λ more held.
      made v o e there more held)))
    where
      now : ℕ
      now = stamp_now x.now.bones

      keys_of : Object → List Key
      keys_of o = object_key o.id ∷ version_key o.id (o.last + 1) ∷ []

      put : ℕ → Version → Object → Act O A Ref
      put stamp v o = alters_object o.id (derived_from stamp v) >> (prints (version_line (next_version o)) >> gives (next_version o))

      copied : Version → Object → Act O A Ref
      copied v o = sees stamp_now >>= λ stamp. changes (keys_of o) (version_size stamp v.fields) (draws_version o) >> put stamp v o

      derived : Version → Act O A Ref
      derived v = object r.object >>= copied v

      made : (v : Version) (o : Object) → denoted x.now.bones r ≡ Ok v → object_at x.now.bones r.object ≡ Some o → nat_lt o.last version_limit ≡ true → IsTyped (holding (keys_of o) x)
          → Ends x.now.bones (FitsIn class) (put now v o (holding (keys_of o) x))
      made v o e there more held =
          let d = denotes_fit x.now.bones h.sound h.now class r fits v e in
          let same : d.object ≡ o = found_same (object_at x.now.bones r.object) d.object o d.at there in
          let number : o.id ≡ r.object = numbered_id r.object x.now.bones.objects o (at_numbered x.now.bones r.object o there) in
          let found : object_numbered o.id x.now.bones.objects ≡ Some o = ap (λ n. object_numbered n x.now.bones.objects) number ∙ at_numbered x.now.bones r.object o there in
          let of = subst (λ (p : Object). version_of r.version p.versions ≡ Some v) same d.of in
          let is : is_a x.now.bones.classes o.class class ≡ true = subst (λ (p : Object). is_a x.now.bones.classes p.class class ≡ true) same d.is in
          let c = altered_bones o.id (derived_from now v) x.now.bones in
          let last : o.last + 1 < 2 ^ 32 = derived_last o more in
          let done = alters_found o.id (derived_from now v) (derived_mild now v) (holding (keys_of o) x) held
          (changed_fit x.now.bones o.id (derived_from now v) (derived_mild now v) o found (λ b follows g.
          derived_fits b o now v g (stamp_follows x.now.bones b follows) (born_follows x.now.bones b follows h.now.born o g) (version_all (FitsVersion b g.class o.last) r.version o.versions g.versions v of) last) h.now) in
          let ref : FitsRef (all_alive c) class (next_version o) = record {
            is = record { object = subst (λ n. n < 2 ^ 64) (sym number) fits.is.object; version = (not_zero o.id (ap (λ n. n == 0) number ∙ d.some), omega arith, last) };
            drawn = subst (λ n. n < x.now.bones.next) (sym number) fits.drawn;
            object = reference_fits c class (next_version o) (derived_from now v o) (altered_at x.now.bones o.id (derived_from now v) (derived_mild now v) o found) (record { fits = is; version = omega arith });
          } in
          ends_from x.now.bones c done.1 (FitsIn class) ((prints (version_line (next_version o)) >> gives (next_version o)) (altered o.id (derived_from now v) (holding (keys_of o) x)))
          (ends_then c (Any (Unit {0})) (FitsIn class) (prints (version_line (next_version o)) (altered o.id (derived_from now v) (holding (keys_of o) x))) (prints_ends (version_line (next_version o)) (altered o.id (derived_from now v) (holding (keys_of o) x)) done.0)
          (λ u. gives (next_version o)) (λ u y typed grows is. ends_done (FitsIn class) (next_version o) y typed (ref_follows c y.now.bones grows.follows class (next_version o) ref)))

  module _ (past : Past O A) where
    -- a new object
    pub makes_ends : (c : Class) (fields : List Value) (x : Tx O A) → IsTyped x → IsKnown x.now.bones.classes c → FitFields (all_alive x.now.bones) c.fields fields
        → Ends x.now.bones (IsNew c) (makes past c.number fields x)
    makes_ends c fields x h known fits =
        changes_ends x.now.bones (IsNew c) (made_keys x.now.bones.next) (version_size (stamp_now x.now.bones) fields) draws_number x h put (λ left held.
        let fit = new_fit x.now.bones c fields known.numbered fits left h.now in
        let grows = new_grows x.now.bones c.number fields in
        let made : Tx O A = looking (x.now.bones.next ∷ []) (touching x.now.bones.next (turned (with_new past c.number fields) (holding (made_keys x.now.bones.next) (drawing true x)))) in
        let typed : IsTyped made = typed_now x made h refl refl refl grows fit in
        ends_from x.now.bones (new_bones c.number fields x.now.bones) grows (IsNew c) ((prints (new_line x.now.bones.next) >> gives x.now.bones.next) made)
        (ends_then (new_bones c.number fields x.now.bones) (Any (Unit {0})) (IsNew c) (prints (new_line x.now.bones.next) made) (prints_ends (new_line x.now.bones.next) made typed) (λ u. gives x.now.bones.next) (λ u y later more is.
        ends_done (IsNew c) x.now.bones.next y later (new_later c (new_bones c.number fields x.now.bones) y.now.bones x.now.bones.next more is_new))))
      where
        put : Act O A ℕ
        put = turns (with_new past c.number fields) >> (does (touching x.now.bones.next) >> (looks (x.now.bones.next ∷ []) >> (prints (new_line x.now.bones.next) >> gives x.now.bones.next)))

        none_of : (n : ℕ) (os : List Object) (new : Object) → AllByRecursion (λ (o : Object). o.id < n) os → new.id ≡ n → object_numbered n (os ++ new ∷ []) ≡ Some new
        none_of n [] new all is = ap (λ t. cond t (Some new) None) (eq-eqb new.id n is)
        none_of n (o ∷ os) new all is = ap (λ t. cond t (Some o) (object_numbered n (os ++ new ∷ []))) (apart o.id n all.0) ∙ none_of n os new all.1 is

        is_new : IsNew c (new_bones c.number fields x.now.bones) x.now.bones.next
        is_new = record {
          some = let first : 1 ≤ x.now.bones.next = h.now.next.some in omega arith;
          drawn = omega arith;
          object = object_with (stamp_now x.now.bones) x.now.bones.next c.number fields;
          found = none_of x.now.bones.next x.now.bones.objects (object_with (stamp_now x.now.bones) x.now.bones.next c.number fields)
              (all-then (FitsWorld x.now.bones) (λ (o : Object). o.id < x.now.bones.next) (λ o g. g.number) x.now.bones.objects h.now.objects) refl;
          class = refl;
        }

    -- a new activation of an object whose class has the trigger
    pub switches_on_ends : (id : ℕ) (t : Trigger) (args : List Value) (o : Object) (x : Tx O A) → IsTyped x → object_numbered id x.now.bones.objects ≡ Some o → IsSoundTrigger x.now.bones.classes o.class t
        → AllZip (λ (p : Param). FitsSort (all_alive x.now.bones) p.sort) t.decl.params args → Ends x.now.bones IsBelow (switches_on past id t args x)
    switches_on_ends id t args o x h there sound sorts =
        needs_ends x.now.bones IsBelow (nat_le (values_length args) args_limit) reason.Size x h changed (λ short.
        changes_ends x.now.bones IsBelow (active_keys id x.now.bones.next) 0 draws_number x h put (λ left held.
        let fit = active_fit x.now.bones id t args o there sound (record { sorts = sorts; short = leb-true (values_length args) args_limit short }) left h.now in
        let grows = active_grows x.now.bones id t args in
        let made : Tx O A = turned (with_active past id t args) (holding (active_keys id x.now.bones.next) (drawing true x)) in
        let typed : IsTyped made = typed_now x made h refl refl refl grows fit in
        ends_from x.now.bones (active_bones id t args x.now.bones) grows IsBelow ((prints (active_line x.now.bones.next) >> gives x.now.bones.next) made)
        (ends_then (active_bones id t args x.now.bones) (Any (Unit {0})) IsBelow (prints (active_line x.now.bones.next) made) (prints_ends (active_line x.now.bones.next) made typed) (λ u. gives x.now.bones.next) (λ u y later more is.
        ends_done IsBelow x.now.bones.next y later (let one : x.now.bones.next + 1 ≤ y.now.bones.next = more.follows.next in omega arith)))))
      where
        put : Act O A ℕ
        put = turns (with_active past id t args) >> (prints (active_line x.now.bones.next) >> gives x.now.bones.next)

        changed : Act O A ℕ
        changed = changes (active_keys id x.now.bones.next) 0 draws_number >> put
