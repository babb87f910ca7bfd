-- A call of the overlay by what it reads.
use Rattle.std.proofs.Common.{◌≡◌, ◌==◌, ℕ, List, Bool, true, false, cond, Option, Ok, Err, sym, subst}
use Rattle.ode_formed_laws.specs.Staying.{StaysFormed}
use Rattle.ode_keep.specs.Entries.{Entries}
use Rattle.ode_objects.specs.declared.tracked.Tracked.{Tracked}
use Rattle.ode_overlay.specs.Answers.{Answer, ◌>>=◌}
use Rattle.ode_overlay.specs.Changing.{activate, activate_with, deactivate, deactivate_with, derive, derive_with, drop_version, drop_with, fresh, put_acts, put_with, remove, remove_with, touch, touch_with, write, write_with}
use Rattle.ode_overlay.specs.Layers.{Layer}
use Rattle.ode_overlay.specs.Reading.{not_null}
use Rattle.ode_overlay.specs.declared.error.OverlayError.TheVariants.{NoObject}
use Rattle.ode_types.specs.declared.running.Running.{Running}
use Rattle.ode_value.specs.Worlds.{Declared}
use Rattle.ode_value.specs.declared.class.Class.{Class}
use Rattle.ode_value.specs.declared.value.Ref.{Ref}
use Rattle.ode_value.specs.declared.value.Value.{Value}

module _ (declared : List Declared) (base : Entries) (classes : List Class) (x : Layer) where
  read_formed : {R : Type 0} (id : ℕ) (new : Option Tracked) (with : Option Tracked → Answer (R × Layer)) → fresh classes base id x ≡ Ok new → StaysFormed declared base (with new)
      → StaysFormed declared base (fresh classes base id x >>= with)
  read_formed id new with read formed = subst (λ (a : Answer (Option Tracked)). StaysFormed declared base (a >>= with)) (sym read) formed

  named_formed : {R : Type 0} (r : Ref) (rest : Answer (R × Layer)) → StaysFormed declared base rest → StaysFormed declared base (not_null r >>= λ _. rest)
  named_formed {R} r rest formed = by_test (r.object == 0) where
    by_test : (b : Bool) → StaysFormed declared base (cond b (Err (NoObject 0)) (Ok tt) >>= λ (_ : Unit {0}). rest)
    by_test true = tt
    by_test false = formed

  pub touch_formed : (id : ℕ) (new : Option Tracked) → fresh classes base id x ≡ Ok new → StaysFormed declared base (touch_with new id x) → StaysFormed declared base (touch classes base id x)
  unfolding touch
  touch_formed id new read formed = read_formed id new (λ t. touch_with t id x) read formed

  pub remove_formed : (id : ℕ) (new : Option Tracked) → fresh classes base id x ≡ Ok new → StaysFormed declared base (remove_with new id x) → StaysFormed declared base (remove classes base id x)
  unfolding remove
  remove_formed id new read formed = read_formed id new (λ t. remove_with t id x) read formed

  pub activate_formed : (id class trigger : ℕ) (args : List Value) (new : Option Tracked) → fresh classes base id x ≡ Ok new → StaysFormed declared base (activate_with new id class trigger args x)
      → StaysFormed declared base (activate classes base id class trigger args x)
  unfolding activate
  activate_formed id class trigger args new read formed = read_formed id new (λ t. activate_with t id class trigger args x) read formed

  pub deactivate_formed : (id number : ℕ) (new : Option Tracked) → fresh classes base id x ≡ Ok new → StaysFormed declared base (deactivate_with new id number x) → StaysFormed declared base (deactivate classes base id number x)
  unfolding deactivate
  deactivate_formed id number new read formed = read_formed id new (λ t. deactivate_with t id number x) read formed

  pub put_formed : (id : ℕ) (rs : List Running) (new : Option Tracked) → fresh classes base id x ≡ Ok new → StaysFormed declared base (put_with new id rs x) → StaysFormed declared base (put_acts classes base id rs x)
  unfolding put_acts
  put_formed id rs new read formed = read_formed id new (λ t. put_with t id rs x) read formed

  module _ (r : Ref) (new : Option Tracked) (read : fresh classes base r.object x ≡ Ok new) where
    pub write_formed : (slot : ℕ) (value : Value) → StaysFormed declared base (write_with new r slot value x) → StaysFormed declared base (write classes base r slot value x)
    unfolding write
    write_formed slot value formed =
        named_formed r (fresh classes base r.object x >>= λ t. write_with t r slot value x) (read_formed r.object new (λ t. write_with t r slot value x) read formed)

    pub derive_formed : StaysFormed declared base (derive_with new r x) → StaysFormed declared base (derive classes base r x)
    unfolding derive
    derive_formed formed = named_formed r (fresh classes base r.object x >>= λ t. derive_with t r x) (read_formed r.object new (λ t. derive_with t r x) read formed)

    pub drop_formed : StaysFormed declared base (drop_with new r x) → StaysFormed declared base (drop_version classes base r x)
    unfolding drop_version
    drop_formed formed = named_formed r (fresh classes base r.object x >>= λ t. drop_with t r x) (read_formed r.object new (λ t. drop_with t r x) read formed)
