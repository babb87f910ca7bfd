-- What every change of records asks for, and what acts look at before one.
use Rattle.std.specs.Prelude.{ℕ, ◌+◌, List, [], ◌∷◌, map, length, Bool, true, false, nat_lt, nat_le, ◌&&◌, is_some}
use Rattle.std.specs.List.{fold}
use Rattle.std.specs.Ordering.{match_ordering}
use Rattle.ode_value.specs.declared.key.Key.{Key}
use Rattle.ode_value.specs.declared.reason.Reason.TheVariants.{NoObject, Size, Space}
use Rattle.ode_value.specs.declared.value.Ref.{Ref}
use Rattle.ode_value.specs.Objects.{Activation}
use Rattle.ode_value.specs.Keys.{key_cmp, version_key, activation_key}
use Rattle.ode_value.specs.Versions.{Version}
use Rattle.ode_value.specs.Acts.{Act, Deed, ◌>>=◌, ◌>>◌, needs, does, reads, looks, finds, gives, computes, alters}
use Rattle.ode_value.specs.Limits.{change_limit, value_limit, number_limit, version_limit}
use Rattle.ode_value.specs.Transactions.{Tx, drawing}
use Rattle.ode_value.specs.Worlds.{Object, Bones, with_object}
use Rattle.ode_value.specs.Denoting.{object_at, denoted}

-- a set of keys, in rising order, with one more
abbrev pub with_key : List Key → Key → List Key
with_key [] k = k ∷ []
with_key (l ∷ ls) k = match_ordering (key_cmp k l) (k ∷ l ∷ ls) (l ∷ ls) (l ∷ with_key ls k)

-- the keys of an object's versions
abbrev pub version_keys : Object → List Key
version_keys o = map (λ (v : Version). version_key o.id v.number) o.versions

-- the keys of its activations
abbrev pub activation_keys : Object → List Key
activation_keys o = map (λ (a : Activation). activation_key o.id a.number) o.activations

-- what a change draws: whether one is left, and whether it is a number of an object or an activation
pub record Draw : Type 0 where
  pub left : Bones → Bool
  pub number : Bool

-- a number is left for an object or an activation
abbrev pub has_number : Bones → Bool
has_number b = nat_lt b.next number_limit

-- a number of an object or an activation; a number of a version; nothing
abbrev pub draws_number : Draw
draws_number = record { left = has_number; number = true }

abbrev pub draws_version : Object → Draw
draws_version o = record { left = λ b. nat_lt o.last version_limit; number = false }

abbrev pub draws_none : Draw
draws_none = record { left = λ b. true; number = false }

module _ {O A : Type 0} where
  -- how many keys the change list holds, one for each entry that was collected among them
  abbrev pub key_count : Tx O A → ℕ
  key_count x = length x.keys + x.gathered

  -- holds these keys too
  abbrev pub holding : List Key → Tx O A → Tx O A
  holding keys x = record x { keys = fold with_key x.keys keys }

  -- Every change, by its keys, the length of its longest value and what it draws: first its size, then its space; then its keys are
  -- held.
  abbrev pub changes : List Key → ℕ → Draw → Deed O A
  changes keys size draw = do
    needs Size (λ x. nat_le size value_limit && nat_le (key_count (holding keys x)) change_limit)
    does (drawing draw.number)
    needs Space (λ x. draw.left x.now.bones)
    does (holding keys)

  -- the live object of a number
  abbrev pub object : ℕ → Act O A Object
  object id = finds (λ b. object_at b id)

  -- its class
  abbrev pub class_of : ℕ → Act O A ℕ
  class_of id = do
    o ← object id
    gives o.class

  -- whether it is there
  abbrev pub is_live : ℕ → Tx O A → Bool
  is_live id x = is_some (object_at x.now.bones id)

  -- the same, by a look at it
  abbrev pub asks_live : ℕ → Act O A Bool
  asks_live id = do
    looks (id ∷ [])
    reads (is_live id)

  -- it is there
  abbrev pub there : ℕ → Deed O A
  there id = needs (NoObject id) (is_live id)

  -- the same, by a look at it
  abbrev pub lives : ℕ → Deed O A
  lives id = looks (id ∷ []) >> there id

  -- the version that a reference denotes
  abbrev pub version : Ref → Act O A Version
  version r = computes (λ b. denoted b r)

  -- an object is changed
  abbrev pub alters_object : ℕ → (Object → Object) → Deed O A
  alters_object id change = alters (λ b. record b { objects = with_object id change b.objects })
