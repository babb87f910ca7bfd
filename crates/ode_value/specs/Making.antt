-- Changes of objects, versions and activations. Each is done whole or not at all, and its line comes behind it.
use Rattle.std.specs.Prelude.{ℕ, ◌+◌, List, [], ◌∷◌, ◌++◌, map, length, true, false, cond, nat_lt, nat_le, not, ◌==◌, Some, None, slice_set}
use Rattle.std.specs.List.{filter}
use Rattle.ode_value.specs.declared.reason.Reason.TheVariants.{LastVersion, Size}
use Rattle.ode_value.specs.declared.value.Ref.{Ref}
use Rattle.ode_value.specs.declared.value.Value.{Value}
use Rattle.ode_value.specs.Lengths.{values_length, version_size}
use Rattle.ode_value.specs.Objects.{Activation}
use Rattle.ode_value.specs.Pasts.{Past, Kept}
use Rattle.ode_value.specs.Keys.{object_key, version_key, activation_key}
use Rattle.ode_value.specs.Texts.{new_line, version_line, active_line}
use Rattle.ode_value.specs.Versions.{Version}
use Rattle.ode_value.specs.Acts.{Act, Deed, ◌>>=◌, ◌>>◌, needs, sees, looks, does, turns, gives, prints}
use Rattle.ode_value.specs.Changes.{version_keys, activation_keys, draws_number, draws_version, draws_none, changes, object, version, alters_object}
use Rattle.ode_value.specs.Classes.{Trigger}
use Rattle.ode_value.specs.Limits.{args_limit}
use Rattle.ode_value.specs.Transactions.{touching}
use Rattle.ode_value.specs.Worlds.{Object, Bones, World, with_object, with_kept}

-- the next number is drawn
abbrev pub drawn : Bones → Bones
drawn b = record b { next = b.next + 1 }

-- how many fields were added: the stamp of what is made or set now
abbrev pub stamp_now : Bones → ℕ
stamp_now b = length b.added

-- a version of this number has these fields, with this stamp
abbrev pub with_fields : ℕ → ℕ → List Value → Version → Version
with_fields stamp number fields v = cond (v.number == number) (record v { fields = fields; stamp = stamp }) v

-- the versions without the one of this number
abbrev pub without_version : ℕ → List Version → List Version
without_version number versions = filter (λ (v : Version). not (v.number == number)) versions

-- an activation of this number is off
abbrev pub switched_off : ℕ → Activation → Activation
switched_off number a = cond (a.number == number) (record a { on = false }) a

-- an object with a new version of this stamp, derived from this one
abbrev pub derived_from : ℕ → Version → Object → Object
derived_from stamp v o = record o {
  last = o.last + 1;
  versions = o.versions ++ record { number = o.last + 1; parent = Some v.number; stamp = stamp; fields = v.fields } ∷ [];
}

-- the reference to it
abbrev pub next_version : Object → Ref
next_version o = record { object = o.id; version = Some (o.last + 1) }

-- the reference to the version of a number, of the object behind a reference
abbrev pub pinned : Ref → ℕ → Ref
pinned r number = record { object = r.object; version = Some number }

-- a new object with its first version, of this stamp
abbrev pub object_with : ℕ → ℕ → ℕ → List Value → Object
object_with stamp id class fields = record {
  id = id;
  class = class;
  live = true;
  last = 1;
  activations = [];
  versions = record { number = 1; parent = None; stamp = stamp; fields = fields } ∷ [];
}

-- an object with a new activation
abbrev pub with_activation : Trigger → List Value → ℕ → Object → Object
with_activation t args number o =
    let new : Activation = record { number = number; class = t.class; trigger = t.place; args = args; on = true } in
    record o { activations = o.activations ++ new ∷ [] }

module _ {O A : Type 0} where
  -- a field of the version that a reference denotes is set
  abbrev pub sets_field : Ref → ℕ → Value → Deed O A
  sets_field r place value = do
    v ← version r
    let fields = slice_set v.fields place value
    stamp ← sees stamp_now
    changes (version_key r.object v.number ∷ []) (version_size stamp fields) draws_none
    alters_object r.object (λ o. record o { versions = map (with_fields stamp v.number fields) o.versions })

  -- the same, by a look at the object
  abbrev pub sets_own : Ref → ℕ → Value → Deed O A
  sets_own r place value = looks (r.object ∷ []) >> sets_field r place value

  -- a new version of an object, derived from the one that a reference denotes
  abbrev pub derives : Ref → Act O A Ref
  derives r = do
    v ← version r
    o ← object r.object
    stamp ← sees stamp_now
    changes (object_key o.id ∷ version_key o.id (o.last + 1) ∷ []) (version_size stamp v.fields) (draws_version o)
    alters_object o.id (derived_from stamp v)
    prints (version_line (next_version o))
    gives (next_version o)

  -- the reference to the version that a reference denotes, where it isn't the only one
  abbrev pub spares : Ref → Act O A Ref
  spares r = do
    v ← version r
    o ← object r.object
    needs (LastVersion r.object) (λ x. nat_lt 1 (length o.versions))
    gives (pinned r v.number)

  -- the version that a reference denotes is removed, where it isn't the only one
  abbrev pub drops : Ref → Deed O A
  drops r = do
    v ← version r
    o ← object r.object
    needs (LastVersion o.id) (λ x. nat_lt 1 (length o.versions))
    changes (version_key o.id v.number ∷ []) 0 draws_none
    alters_object o.id (λ o. record o { versions = without_version v.number o.versions })

  -- an object is removed
  abbrev pub removes : ℕ → Deed O A
  removes id = do
    o ← object id
    changes (object_key id ∷ version_keys o ++ activation_keys o) 0 draws_none
    alters_object id (λ o. record o { live = false })

  -- an activation of an object goes off
  abbrev pub switches_off : ℕ → Activation → Deed O A
  switches_off id a = do
    changes (activation_key id a.number ∷ []) 0 draws_none
    alters_object id (λ o. record o { activations = map (switched_off a.number) o.activations })

module _ {O A : Type 0} (past : Past O A) where
  -- the world with a new object
  abbrev pub with_new : ℕ → List Value → World O A → World O A
  with_new class fields w = record {
    bones = let b = w.bones in drawn (record b { objects = b.objects ++ object_with (stamp_now b) b.next class fields ∷ [] });
    pasts = w.pasts ++ (w.bones.next, record { own = past.empty; activations = [] }) ∷ [];
  }

  -- what is kept of an object, with a new activation
  abbrev pub with_past : ℕ → Kept O A → Kept O A
  with_past number kept = record kept { activations = kept.activations ++ (number, past.begin kept.own) ∷ [] }

  -- the world with a new activation
  abbrev pub with_active : ℕ → Trigger → List Value → World O A → World O A
  with_active id t args w = record {
    bones = let b = w.bones in drawn (record b { objects = with_object id (with_activation t args b.next) b.objects });
    pasts = with_kept id (with_past w.bones.next) w.pasts;
  }

  -- a new object of a class with its first version; it counts as touched
  abbrev pub makes : ℕ → List Value → Act O A ℕ
  makes class fields = do
    id ← sees (λ b. b.next)
    stamp ← sees stamp_now
    changes (object_key id ∷ version_key id 1 ∷ []) (version_size stamp fields) draws_number
    turns (with_new class fields)
    does (touching id)
    looks (id ∷ [])
    prints (new_line id)
    gives id

  -- a new activation of an object
  abbrev pub switches_on : ℕ → Trigger → List Value → Act O A ℕ
  switches_on id t args = do
    number ← sees (λ b. b.next)
    needs Size (λ x. nat_le (values_length args) args_limit)
    changes (activation_key id number ∷ []) 0 draws_number
    turns (with_active id t args)
    prints (active_line number)
    gives number
