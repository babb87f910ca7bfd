-- What a call leaves, where it is done.
use Rattle.std.proofs.Common.{◌≡◌, ◌+◌, ℕ, List, [], ◌∷◌, Bool, true, false, cond, length, nat_lt, Option, Some, None, Ok, Err, refl, sym, subst}
use Rattle.std.specs.List.{list_any, slice_set}
use Rattle.ode_keep.specs.Entries.{Entries}
use Rattle.ode_objects.specs.Objects.{activated, activation_keys, dead, derived, is_on, new_active, object_keys, switched_off, values_of, with_states, without, written}
use Rattle.ode_objects.specs.Values.{are_args, are_fields}
use Rattle.ode_objects.specs.declared.object.Object.{Object}
use Rattle.ode_objects.specs.declared.object.Version.{Version}
use Rattle.ode_objects.specs.declared.tracked.Tracked.{Tracked}
use Rattle.ode_overlay.specs.Answers.{Answer, ◌>>=◌}
use Rattle.ode_overlay.specs.Changing.{activate, activate_with, create, created, deactivate, deactivate_with, denoted_in, derive, derive_with, drop_version, drop_with, fields_with, fresh, kept_now, live_of, needs, next_drawn, next_number, object_of, put_acts, put_of, put_with, remove, remove_with, switch_off, touch, touch_first, touch_with, touched_with, with_now, write, write_with}
use Rattle.ode_overlay.specs.Layers.{Layer, holding, is_touched}
use Rattle.ode_overlay.specs.Reading.{not_null}
use Rattle.ode_overlay.specs.declared.error.OverlayError.{OverlayError}
use Rattle.ode_overlay.specs.declared.error.OverlayError.TheVariants.{LastVersion, NoNumber, NoObject, TooLong}
use Rattle.ode_types.specs.declared.running.Running.{Running}
use Rattle.ode_value.specs.Keys.{activation_key, object_key, version_key}
use Rattle.ode_value.specs.Limits.{number_limit, version_limit}
use Rattle.ode_value.specs.declared.class.Class.{Class}
use Rattle.ode_value.specs.declared.key.Key.{Key}
use Rattle.ode_value.specs.declared.value.Ref.{Ref}
use Rattle.ode_value.specs.declared.value.Value.{Value}
use Rattle.ode_version_laws.specs.Leaving.{IfDone}

-- ---- calls in turn

module _ {R : Type 0} (P : Layer → Type 0) where
  bound : {A : Type 0} (a : Answer A) (next : A → Answer (R × Layer)) → ((v : A) → IfDone P (next v)) → IfDone P (a >>= next)
  bound (Ok v) next each = each v
  bound (Err why) next each = tt

  asked : (why : OverlayError) (b : Bool) (next : Unit {0} → Answer (R × Layer)) → (b ≡ true → IfDone P (next tt)) → IfDone P (needs why b >>= next)
  asked why true next each = each refl
  asked why false next each = tt

  read_bound : (a : Answer (Option Tracked)) (new : Option Tracked) (next : Option Tracked → Answer (R × Layer)) → a ≡ Ok new → IfDone P (next new) → IfDone P (a >>= next)
  read_bound a new next is leaves = subst (λ (b : Answer (Option Tracked)). IfDone P (b >>= next)) (sym is) leaves

  live_bound : (id : ℕ) (f : Option Tracked) (next : Object → Answer (R × Layer)) → ((t : Tracked) → f ≡ Some t → IfDone P (next t.current)) → IfDone P (live_of id f >>= next)
  live_bound id None next each = tt
  live_bound id (Some t) next each = by_live t.current.live where
    by_live : (b : Bool) → IfDone P (cond b (Ok t.current) (Err (NoObject id)) >>= next)
    by_live true = each t refl
    by_live false = tt

  -- fields that a record can hold
  kept_bound : (x : Layer) (fields : List Value) (next : ℕ × List Value → Answer (R × Layer)) → (are_fields x.first.added fields ≡ true → IfDone P (next (x.first.added, fields)))
      → IfDone P (kept_now x fields >>= next)
  kept_bound x fields next each = by_fit (are_fields x.first.added fields) refl where
    by_fit : (b : Bool) → are_fields x.first.added fields ≡ b → IfDone P ((needs TooLong b >>= λ _. Ok (x.first.added, fields)) >>= next)
    by_fit true fit = each fit
    by_fit false fit = tt

  fields_bound : (slot : ℕ) (value : Value) (v : Version) (x : Layer) (next : ℕ × List Value → Answer (R × Layer))
      → ((fields : ℕ × List Value) → are_fields fields.0 fields.1 ≡ true → IfDone P (next fields)) → IfDone P (fields_with slot value v x >>= next)
  unfolding fields_with
  fields_bound slot value v x next each =
      let fields = slice_set (values_of v.fields) slot value in
      kept_bound x fields next (each (x.first.added, fields))

  number_bound : (x : Layer) (next : ℕ → Answer (R × Layer)) → IfDone P (next x.next) → IfDone P (next_number x >>= next)
  number_bound x next leaves = by_test (nat_lt x.next number_limit) where
    by_test : (b : Bool) → IfDone P (cond b (Ok x.next) (Err NoNumber) >>= next)
    by_test true = leaves
    by_test false = tt

  choice_bound : (b : Bool) (a c : Answer (R × Layer)) → IfDone P a → IfDone P c → IfDone P (cond b a c)
  choice_bound true a c first second = first
  choice_bound false a c first second = second

-- ---- each call, by what it reads

module _ (P : Layer → Type 0) (classes : List Class) (base : Entries) (x : Layer) where
  -- the object that a call reads, and a layer with another in its place
  abbrev Reads : ℕ → Option Tracked → Type 0
  Reads id new = fresh classes base id x ≡ Ok new

  abbrev Puts : ℕ → Option Tracked → Tracked → Object → Type 0
  Puts id new t o = (keys : List Key) → object_of new id x ≡ Some t → P (with_now id new o keys x)

  pub write_leaves : (r : Ref) (slot : ℕ) (value : Value) (new : Option Tracked) → Reads r.object new
      → ((t : Tracked) (v : Version) (fields : ℕ × List Value) → are_fields fields.0 fields.1 ≡ true → Puts r.object new t (written v.number fields t.current)) → IfDone P (write classes base r slot value x)
  unfolding write write_with
  write_leaves r slot value new read put =
      bound P (not_null r) _ (λ _. read_bound P (fresh classes base r.object x) new _ read (live_bound P r.object (object_of new r.object x) _
      (λ t is. bound P (denoted_in r t.current) _ (λ v. fields_bound P slot value v x _ (λ fields fit. bound P (holding (version_key r.object v.number ∷ []) x) _ (λ keys. put t v fields fit keys is))))))

  pub derive_leaves : (r : Ref) (new : Option Tracked) → Reads r.object new
      → ((t : Tracked) (v : Version) → are_fields x.first.added (values_of v.fields) ≡ true → Puts r.object new t (derived v.number (x.first.added, values_of v.fields) t.current))
      → IfDone P (derive classes base r x)
  unfolding derive derive_with
  derive_leaves r new read put =
      bound P (not_null r) _ (λ _. read_bound P (fresh classes base r.object x) new _ read (live_bound P r.object (object_of new r.object x) _
      (λ t is. bound P (denoted_in r t.current) _ (λ v. kept_bound P x (values_of v.fields) _
      (λ fit. bound P (holding (object_key r.object ∷ version_key r.object (t.current.last + 1) ∷ []) x) _ (λ keys. bound P (needs NoNumber (nat_lt t.current.last version_limit)) _ (λ _. put t v fit keys is)))))))

  pub drop_leaves : (r : Ref) (new : Option Tracked) → Reads r.object new → ((t : Tracked) (v : Version) → nat_lt 1 (length t.current.versions) ≡ true → Puts r.object new t (without v.number t.current))
      → IfDone P (drop_version classes base r x)
  unfolding drop_version drop_with
  drop_leaves r new read put =
      bound P (not_null r) _ (λ _. read_bound P (fresh classes base r.object x) new _ read (live_bound P r.object (object_of new r.object x) _
      (λ t is. bound P (denoted_in r t.current) _ (λ v. asked P (LastVersion r.object) (nat_lt 1 (length t.current.versions)) _
      (λ more. bound P (holding (version_key r.object v.number ∷ []) x) _ (λ keys. put t v more keys is))))))

  pub touch_leaves : (id : ℕ) (new : Option Tracked) → Reads id new → P x → ((t : Tracked) (keys : List Key) → object_of new id x ≡ Some t → P (touched_with new keys id x))
      → IfDone P (touch classes base id x)
  unfolding touch touch_with
  touch_leaves id new read stays put =
      read_bound P (fresh classes base id x) new _ read (live_bound P id (object_of new id x) _
      (λ t is. choice_bound P (is_touched id x) (Ok (false, x)) (touch_first new id t.current x) stays (bound P (holding (activation_keys id t.current.activations) x) _ (λ keys. put t keys is))))

  pub remove_leaves : (id : ℕ) (new : Option Tracked) → Reads id new → ((t : Tracked) → Puts id new t (dead t.current)) → IfDone P (remove classes base id x)
  unfolding remove remove_with
  remove_leaves id new read put =
      read_bound P (fresh classes base id x) new _ read (live_bound P id (object_of new id x) _ (λ t is. bound P (holding (object_keys id t.current) x) _ (λ keys. put t keys is)))

  pub activate_leaves : (id class trigger : ℕ) (args : List Value) (new : Option Tracked) → Reads id new
      → ((t : Tracked) (keys : List Key) → object_of new id x ≡ Some t → P (next_drawn (with_now id new (activated (new_active x.next class trigger args) t.current) keys x)))
      → IfDone P (activate classes base id class trigger args x)
  unfolding activate activate_with
  activate_leaves id class trigger args new read put =
      read_bound P (fresh classes base id x) new _ read (live_bound P id (object_of new id x) _ (λ t is. bound P (needs TooLong (are_args args)) _
      (λ _. bound P (holding (activation_key id x.next ∷ []) x) _ (λ keys. number_bound P x _ (put t keys is)))))

  pub deactivate_leaves : (id number : ℕ) (new : Option Tracked) → Reads id new → P x → ((t : Tracked) → Puts id new t (switched_off number t.current))
      → IfDone P (deactivate classes base id number x)
  unfolding deactivate deactivate_with
  deactivate_leaves id number new read stays put =
      read_bound P (fresh classes base id x) new _ read (live_bound P id (object_of new id x) _ (λ t is. choice_bound P (list_any (is_on number) t.current.activations)
      (switch_off new id number t.current x) (Ok (tt, x)) (bound P (holding (activation_key id number ∷ []) x) _ (λ keys. put t keys is)) stays))

  pub put_leaves : (id : ℕ) (rs : List Running) (new : Option Tracked) → Reads id new → P x → ((t : Tracked) → Puts id new t (with_states rs t.current)) → IfDone P (put_acts classes base id rs x)
  unfolding put_acts put_with
  put_leaves id rs new read stays put = read_bound P (fresh classes base id x) new _ read (by_found (object_of new id x) refl) where
    by_found : (f : Option Tracked) → object_of new id x ≡ f → IfDone P (put_of new id rs f x)
    by_found None is = stays
    by_found (Some t) is = bound P (holding (activation_keys id t.current.activations) x) _ (λ keys. put t keys is)

pub create_leaves : (P : Layer → Type 0) (class : ℕ) (fields : List Value) (x : Layer) → (are_fields x.first.added fields ≡ true → (keys : List Key) → P (created class (x.first.added, fields) keys x))
    → IfDone P (create class fields x)
unfolding create
create_leaves P class fields x put =
    kept_bound P x fields _ (λ fit. bound P (holding (object_key x.next ∷ version_key x.next 1 ∷ []) x) _ (λ keys. number_bound P x _ (put fit keys)))
