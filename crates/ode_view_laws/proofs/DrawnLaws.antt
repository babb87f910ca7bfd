-- The numbers of touched objects were drawn, and go on to be.
use Rattle.std.proofs.Common.{◌≡◌, ℕ, ◌+◌, ◌<◌, Bool, true, false, cond, List, [], ◌∷◌, ◌++◌, Option, Some, None, Ok, Err, refl, arith}
use Rattle.std.specs.List.{AllByRecursion}
use Rattle.ode_laws.proofs.Each.{all-append, all-then}
use Rattle.ode_objects.specs.declared.object.Object.{Object}
use Rattle.ode_objects.specs.declared.tracked.Tracked.{Tracked}
use Rattle.ode_overlay.specs.Answers.{Answer, ◌>>=◌}
use Rattle.ode_overlay.specs.Changing.{activate_with, create, deactivate_with, derive_with, drop_with, live_of, object_of, put_of, put_with, remove_with, switch_off, touch_first, touch_with, write_with}
use Rattle.ode_overlay.specs.Layers.{Layer, is_touched}
use Rattle.ode_types.specs.declared.running.Running.{Running}
use Rattle.ode_value.specs.declared.value.Ref.{Ref}
use Rattle.ode_value.specs.declared.value.Value.{Value}

abbrev pub AreDrawn : Layer → Type 0
AreDrawn x = AllByRecursion (λ id. id < x.next) x.touched

-- what is done leaves them so
abbrev pub Leaves : {R : Type 0} → Answer (R × Layer) → Type 0
Leaves (Ok done) = AreDrawn done.1
Leaves (Err why) = Unit {0}

pub leaves_then : {A R : Type 0} (m : Answer A) (f : A → Answer (R × Layer)) → ((a : A) → Leaves (f a)) → Leaves (m >>= f)
leaves_then (Ok a) f h = h a
leaves_then (Err why) f h = tt

pub one_more : (x : Layer) → AreDrawn x → AllByRecursion (λ id. id < x.next + 1) x.touched
one_more x drawn = all-then (λ id. id < x.next) (λ id. id < x.next + 1) (λ id less. let below : id < x.next = less in omega (arith, below)) x.touched drawn

joined : (next id : ℕ) (touched : List ℕ) (b : Bool) → id < next → AllByRecursion (λ n. n < next) touched → AllByRecursion (λ n. n < next) (cond b touched (touched ++ id ∷ []))
joined next id touched true less drawn = drawn
joined next id touched false less drawn = all-append (λ n. n < next) touched (id ∷ []) drawn (less, tt)

module _ (new : Option Tracked) (x : Layer) (drawn : AreDrawn x) where
  pub write_leaves : (r : Ref) (slot : ℕ) (value : Value) → Leaves (write_with new r slot value x)
  unfolding write_with
  write_leaves r slot value = search (leaves_then, drawn)

  pub derive_leaves : (r : Ref) → Leaves (derive_with new r x)
  unfolding derive_with
  derive_leaves r = search (leaves_then, drawn)

  pub drop_leaves : (r : Ref) → Leaves (drop_with new r x)
  unfolding drop_with
  drop_leaves r = search (leaves_then, drawn)

  pub remove_leaves : (id : ℕ) → Leaves (remove_with new id x)
  unfolding remove_with
  remove_leaves id = search (leaves_then, drawn)

  pub activate_leaves : (id class trigger : ℕ) (args : List Value) → Leaves (activate_with new id class trigger args x)
  unfolding activate_with
  activate_leaves id class trigger args = let more : AllByRecursion (λ n. n < x.next + 1) x.touched = one_more x drawn in search (leaves_then, more)

  off_leaves : (id number : ℕ) (o : Object) (b : Bool) → Leaves (cond b (switch_off new id number o x) (Ok (tt, x)))
  off_leaves id number o true = search (leaves_then, drawn)
  off_leaves id number o false = drawn

  pub deactivate_leaves : (id number : ℕ) → Leaves (deactivate_with new id number x)
  unfolding deactivate_with
  deactivate_leaves id number = search (leaves_then, off_leaves)

  put_leaves_of : (id : ℕ) (rs : List Running) (t : Option Tracked) → Leaves (put_of new id rs t x)
  put_leaves_of id rs None = drawn
  put_leaves_of id rs (Some t) = search (leaves_then, drawn)

  pub put_leaves : (id : ℕ) (rs : List Running) → Leaves (put_with new id rs x)
  unfolding put_with
  put_leaves id rs = put_leaves_of id rs (object_of new id x)

  -- an object that is touched was drawn
  first_leaves : (id : ℕ) (o : Object) → id < x.next → (b : Bool) → Leaves (cond b (Ok (false, x)) (touch_first new id o x))
  first_leaves id o less true = drawn
  first_leaves id o less false = let more = joined x.next id x.touched (is_touched id x) less drawn in search (leaves_then, more)

  touch_leaves_of : (id : ℕ) (t : Option Tracked) → ((u : Tracked) → t ≡ Some u → id < x.next) → Leaves (live_of id t >>= λ o. cond (is_touched id x) (Ok (false, x)) (touch_first new id o x))
  touch_leaves_of id None less = tt
  touch_leaves_of id (Some t) less = leaves_then (live_of id (Some t)) (λ o. cond (is_touched id x) (Ok (false, x)) (touch_first new id o x)) (λ o. first_leaves id o (less t refl) (is_touched id x))

  pub touch_leaves : (id : ℕ) → ((u : Tracked) → object_of new id x ≡ Some u → id < x.next) → Leaves (touch_with new id x)
  unfolding touch_with
  touch_leaves id less = touch_leaves_of id (object_of new id x) less

pub create_leaves : (class : ℕ) (fields : List Value) (x : Layer) → AreDrawn x → Leaves (create class fields x)
unfolding create
create_leaves class fields x drawn = let more = joined (x.next + 1) x.next x.touched (is_touched x.next x) (omega arith) (one_more x drawn) in search (leaves_then, more)
