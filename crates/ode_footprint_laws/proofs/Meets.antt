-- A relation between two transactions that agree on a footprint, and what keeps it.
use Rattle.std.proofs.Common.{◌≡◌, ℕ, Bool, true, List, [], ◌∷◌, Some}
use Rattle.std.specs.List.{AllByRecursion}
use Rattle.ode_footprint_laws.specs.Agreeing.{Agree, IsAmong}
use Rattle.ode_footprint_laws.specs.Fresh.{IsDrawnKey}
use Rattle.ode_laws.proofs.AlikePairs.{IsGentle}
use Rattle.ode_laws.proofs.Sides.{altered, turned}
use Rattle.ode_laws.specs.Numbered.{HasNumbers}
use Rattle.ode_value.specs.declared.event.Point.{Point}
use Rattle.ode_value.specs.declared.key.Key.{Key}
use Rattle.ode_value.specs.declared.value.Value.{Value}
use Rattle.ode_value.specs.Acts.{with_line, with_statement}
use Rattle.ode_value.specs.Changes.{holding, key_count}
use Rattle.ode_value.specs.Classes.{Trigger}
use Rattle.ode_value.specs.Denoting.{object_at}
use Rattle.ode_value.specs.Firings.{Place, with_point}
use Rattle.ode_value.specs.Footprints.{Footprint}
use Rattle.ode_value.specs.Keys.{activation_key, object_key, version_key}
use Rattle.ode_value.specs.Language.{ListTx}
use Rattle.ode_value.specs.Making.{with_active, with_new}
use Rattle.ode_value.specs.Objects.{Histories, Starts}
use Rattle.ode_value.specs.Pasts.{lists}
use Rattle.ode_value.specs.Posting.{with_deferred, with_entry}
use Rattle.ode_value.specs.Transactions.{Firing, footed, touching}
use Rattle.ode_value.specs.Worlds.{Object}

-- keys of an object, its versions and activations: they were drawn where the object's numbers were
abbrev pub AreKeysOf : Object → List Key → Type 0
AreKeysOf o keys = (next : ℕ) → HasNumbers next o → AllByRecursion (IsDrawnKey next) keys

-- the keys of a new object, and that of a new activation
abbrev pub new_keys : ℕ → List Key
new_keys id = object_key id ∷ version_key id 1 ∷ []

abbrev pub active_keys : ℕ → ℕ → List Key
active_keys id number = activation_key id number ∷ []

-- kept by what a settling does too
pub record Meets (f : Footprint) : Type 1 where
  pub Related : ListTx → ListTx → Type 0
  pub agree : (y x : ListTx) → Related y x → Agree f y x
  pub foot : (y x : ListTx) (change : Footprint → Footprint) → Related y x → Related (footed change y) (footed change x)
  pub line : (y x : ListTx) (line : List ℕ) → Related y x → Related (with_line line y) (with_line line x)
  pub collect : (y x : ListTx) (independent : Bool) (g : Firing) → Related y x → f.queued ≡ true → Related (with_entry independent g y) (with_entry independent g x)
  pub point : (y x : ListTx) (place : Place Histories Starts) (id : ℕ) (p : Point) (o : Object) → Related y x → IsAmong id f.looked → object_at x.now.bones id ≡ Some o
      → Related (turned (with_point lists place p o) y) (turned (with_point lists place p o) x)
  pub alter : (y x : ListTx) (id : ℕ) (change : Object → Object) → Related y x → IsAmong id f.looked → IsGentle change → Related (altered id change y) (altered id change x)

-- and by all that statements do
pub record Steady (f : Footprint) : Type 1 where
  pub meets : Meets f
  pub statement : (y x : ListTx) → meets.Related y x → meets.Related (with_statement y) (with_statement x)
  pub touch : (y x : ListTx) (id : ℕ) → meets.Related y x → IsAmong id f.looked → meets.Related (touching id y) (touching id x)
  pub defer : (y x : ListTx) (g : Firing) → meets.Related y x → meets.Related (with_deferred g y) (with_deferred g x)
  pub hold : (y x : ListTx) (id : ℕ) (o : Object) (keys : List Key) → meets.Related y x → IsAmong id f.looked → object_at x.now.bones id ≡ Some o → AreKeysOf o keys
      → meets.Related (holding keys y) (holding keys x)
  pub new : (y x : ListTx) (class : ℕ) (fields : List Value) → meets.Related y x → f.drew ≡ true → IsAmong x.now.bones.next f.looked
      → meets.Related (turned (with_new lists class fields) (holding (new_keys x.now.bones.next) y)) (turned (with_new lists class fields) (holding (new_keys x.now.bones.next) x))
  pub active : (y x : ListTx) (id : ℕ) (t : Trigger) (args : List Value) → meets.Related y x → f.drew ≡ true → IsAmong id f.looked
      → meets.Related (turned (with_active lists id t args) (holding (active_keys id x.now.bones.next) y)) (turned (with_active lists id t args) (holding (active_keys id x.now.bones.next) x))
  -- whatever the next numbers are
  pub new_count : (y x : ListTx) → meets.Related y x → key_count (holding (new_keys y.now.bones.next) y) ≡ key_count (holding (new_keys x.now.bones.next) x)
  pub active_count : (y x : ListTx) (id : ℕ) → meets.Related y x → key_count (holding (active_keys id y.now.bones.next) y) ≡ key_count (holding (active_keys id x.now.bones.next) x)
