-- Activations go on and off, and take over states.
use Rattle.std.proofs.Common.{◌≡◌, ◌==◌, ℕ, List, [], ◌∷◌, ◌++◌, map, Bool, true, false, cond, Option, Some, None, Ok, refl, sym, ap, ◌∙◌}
use Rattle.std.proofs.lemmas.Bool.{eqb-true, false≢true}
use Rattle.std.specs.List.{find, fold, list_any}
use Rattle.ode_formed_laws.proofs.AmongLaws.{active_at, first_out, none_active}
use Rattle.ode_formed_laws.proofs.FormedLaws.{after_by, by_few, by_live, by_need, by_number, formed_then, put_here, put_others, was_formed, was_newest}
use Rattle.ode_formed_laws.proofs.ObjectLaws.{by_form, held_actives, own_active, own_actives}
use Rattle.ode_formed_laws.proofs.SpelledLaws.{same_active, same_object, same_version}
use Rattle.ode_formed_laws.specs.Staying.{IsStored, StaysFormed}
use Rattle.ode_keep.specs.Entries.{Entries, value_under}
use Rattle.ode_objects.specs.Objects.{activated, activation_keys, has_number, is_on, new_active, switched_off, taken_over, turned_off, with_states}
use Rattle.ode_objects.specs.Records.{object_becomes}
use Rattle.ode_objects.specs.Values.{are_args}
use Rattle.ode_objects.specs.declared.object.Active.{Active}
use Rattle.ode_objects.specs.declared.object.Object.{Object}
use Rattle.ode_objects.specs.declared.tracked.Tracked.{Tracked}
use Rattle.ode_overlay.specs.After.{is_among, value_after}
use Rattle.ode_overlay.specs.Answers.{◌>>=◌}
use Rattle.ode_overlay.specs.Changing.{activate_with, deactivate_with, needs, next_drawn, next_number, object_of, put_of, put_with, switch_off, with_now}
use Rattle.ode_overlay.specs.Layers.{Layer, holding}
use Rattle.ode_overlay.specs.declared.error.OverlayError.TheVariants.{TooLong}
use Rattle.ode_settling_laws.specs.Formed.{IsFormed, IsOwn, value_in}
use Rattle.ode_types.specs.declared.running.Running.{Running}
use Rattle.ode_value.specs.Changes.{with_key}
use Rattle.ode_value.specs.Keys.{activation_key}
use Rattle.ode_value.specs.Worlds.{Declared}
use Rattle.ode_value.specs.declared.key.Key.{Key}
use Rattle.ode_value.specs.declared.value.Value.{Value}

-- ---- the activation of another number

found_pushed : (n : ℕ) (acts : List Active) (a : Active) → (a.number == n) ≡ false → find (has_number n) (acts ++ a ∷ []) ≡ find (has_number n) acts
found_pushed n [] a out = ap (λ b. cond b (Some a) None) out
found_pushed n (c ∷ acts) a out = ap (λ (f : Option Active). cond (c.number == n) (Some c) f) (found_pushed n acts a out)

found_turned : (n number : ℕ) (acts : List Active) → (number == n) ≡ false → find (has_number n) (map (turned_off number) acts) ≡ find (has_number n) acts
found_turned n number [] out = refl
found_turned n number (a ∷ acts) out = by_tests (a.number == number) refl (a.number == n) refl (found_turned n number acts out) where
  by_tests : (b : Bool) → (a.number == number) ≡ b → (c : Bool) → (a.number == n) ≡ c → find (has_number n) (map (turned_off number) acts) ≡ find (has_number n) acts
      → find (has_number n) (cond b (record a { on = false }) a ∷ map (turned_off number) acts) ≡ cond c (Some a) (find (has_number n) acts)
  by_tests true is true at more = absurd (false≢true (sym out ∙ ap (λ m. m == n) (sym (eqb-true a.number number is)) ∙ at))
  by_tests true is false at more = ap (λ t. cond t (Some (record a { on = false })) (find (has_number n) (map (turned_off number) acts))) at ∙ more
  by_tests false is c at more = ap (λ t. cond t (Some a) (find (has_number n) (map (turned_off number) acts))) at ∙ ap (λ (f : Option Active). cond c (Some a) f) more

-- one that isn't there isn't there with other states
found_taken : (n : ℕ) (rs : List Running) (acts : List Active) → find (has_number n) acts ≡ None → find (has_number n) (taken_over rs acts) ≡ None
found_taken n [] acts none = none
found_taken n (r ∷ rs) [] none = refl
found_taken n (r ∷ rs) (a ∷ acts) none = by_test (a.number == n) refl none (found_taken n rs acts) where
  by_test : (b : Bool) → (a.number == n) ≡ b → cond b (Some a) (find (has_number n) acts) ≡ None → (find (has_number n) acts ≡ None → find (has_number n) (taken_over rs acts) ≡ None)
      → cond b (Some (record a { state = r.state; on = r.on })) (find (has_number n) (taken_over rs acts)) ≡ None
  by_test true is e more = absurd (cc)
  by_test false is e more = more e

module _ (classes : List Declared) (base : Entries) (x : Layer) (id : ℕ) (new : Option Tracked) (formed : IsFormed classes base x) (read : IsStored classes base id new) where
  -- only activations change, and the keys of these are held
  module _ (t : Tracked) (found : object_of new id x ≡ Some t) (acts : List Active) (ks : List Key)
      (others : (n : ℕ) → is_among (activation_key id n) ks ≡ false → find (has_number n) acts ≡ find (has_number n) t.current.activations) where
    abbrev now : Object
    now = record t.current { activations = acts }

    unheld : (q : Key) → IsOwn q → q.a ≡ id → is_among q ks ≡ false → after_by x q now (value_under base q) ≡ value_in classes q now
    unheld q own at out =
        let same : (object_becomes q now ≡ object_becomes q t.current) × (value_in classes q now ≡ value_in classes q t.current) =
        by_form (λ k. is_among k ks ≡ false → (object_becomes k now ≡ object_becomes k t.current) × (value_in classes k now ≡ value_in classes k t.current)) id
        (λ is. same_object classes id now t.current refl refl refl) (λ n is. same_version classes id n now t.current refl refl refl) (λ n is. same_active classes id n now t.current refl (others n is)) q own at out in
        ap (λ b. cond (is_among q x.keys) (value_after b (value_under base q)) (value_under base q)) same.0
        ∙ was_formed classes base x id new formed read t found q own at ∙ sym same.1

  -- ---- one key

  abbrev one_key : ℕ → List Key
  one_key number = activation_key id number ∷ []

  held_one : (o : Object) (number : ℕ) (q : Key) → IsOwn q → q.a ≡ id → is_among q (one_key number) ≡ true → value_after (object_becomes q o) (value_under base q) ≡ value_in classes q o
  held_one o number q own at among = held_actives classes base id o (new_active number 0 0 [] ∷ []) q own at among

  other_number : (number n : ℕ) → is_among (activation_key id n) (one_key number) ≡ false → (number == n) ≡ false
  other_number number n out = sym (active_at id n number (number == n) refl) ∙ first_out _ _ out

  -- ---- on

  activated_so : (class trigger : ℕ) (args : List Value) (t : Tracked) → object_of new id x ≡ Some t
      → IsFormed classes base (next_drawn (with_now id new (activated (new_active x.next class trigger args) t.current) (fold with_key x.keys (one_key x.next)) x))
  activated_so class trigger args t found =
      let a = new_active x.next class trigger args in
      let o = activated a t.current in
      let keys = fold with_key x.keys (one_key x.next) in
      formed_then classes base x (next_drawn (with_now id new o keys x)) id o (one_key x.next) formed (own_active id x.next, tt) refl refl
      (put_here x id new o keys (was_newest classes base x id new formed read) (was_newest classes base x id new formed read t found).0) (put_others x id new o keys)
      (unheld t found (t.current.activations ++ a ∷ []) (one_key x.next) (λ n out. found_pushed n t.current.activations a (other_number x.next n out)))
      (held_one o x.next)

  pub activate_stays : (class trigger : ℕ) (args : List Value) → StaysFormed classes base (activate_with new id class trigger args x)
  unfolding activate_with
  activate_stays class trigger args =
      by_live classes base id (object_of new id x)
      (λ o. needs TooLong (are_args args) >>= λ _. holding (one_key x.next) x >>= λ keys. next_number x >>= λ number. Ok (number, next_drawn (with_now id new (activated (new_active number class trigger args) o) keys x)))
      (λ t found is_live.
      by_need classes base TooLong (are_args args) (λ _. holding (one_key x.next) x >>= λ keys. next_number x >>= λ number. Ok (number, next_drawn (with_now id new (activated (new_active number class trigger args) t.current) keys x)))
      (by_few classes base x (one_key x.next) (λ keys. next_number x >>= λ number. Ok (number, next_drawn (with_now id new (activated (new_active number class trigger args) t.current) keys x)))
      (by_number classes base x (λ number. Ok (number, next_drawn (with_now id new (activated (new_active number class trigger args) t.current) (fold with_key x.keys (one_key x.next)) x)))
      (activated_so class trigger args t found))))

  -- ---- off

  off_so : (number : ℕ) (t : Tracked) → object_of new id x ≡ Some t → IsFormed classes base (with_now id new (switched_off number t.current) (fold with_key x.keys (one_key number)) x)
  off_so number t found =
      let o = switched_off number t.current in
      let keys = fold with_key x.keys (one_key number) in
      formed_then classes base x (with_now id new o keys x) id o (one_key number) formed (own_active id number, tt) refl refl
      (put_here x id new o keys (was_newest classes base x id new formed read) (was_newest classes base x id new formed read t found).0) (put_others x id new o keys)
      (unheld t found (map (turned_off number) t.current.activations) (one_key number) (λ n out. found_turned n number t.current.activations (other_number number n out)))
      (held_one o number)

  pub deactivate_stays : (number : ℕ) → StaysFormed classes base (deactivate_with new id number x)
  unfolding deactivate_with
  deactivate_stays number =
      by_live classes base id (object_of new id x) (λ o. cond (list_any (is_on number) o.activations) (switch_off new id number o x) (Ok (tt, x)))
      (λ t found is_live. by_on t found (list_any (is_on number) t.current.activations)) where
        by_on : (t : Tracked) → object_of new id x ≡ Some t → (b : Bool) → StaysFormed classes base (cond b (switch_off new id number t.current x) (Ok (tt, x)))
        by_on t found true = by_few classes base x (one_key number) (λ keys. Ok (tt, with_now id new (switched_off number t.current) keys x)) (off_so number t found)
        by_on t found false = formed

  -- ---- states

  put_so : (rs : List Running) (t : Tracked) → object_of new id x ≡ Some t
      → IsFormed classes base (with_now id new (with_states rs t.current) (fold with_key x.keys (activation_keys id t.current.activations)) x)
  put_so rs t found =
      let o = with_states rs t.current in
      let keys = fold with_key x.keys (activation_keys id t.current.activations) in
      formed_then classes base x (with_now id new o keys x) id o (activation_keys id t.current.activations) formed (own_actives id t.current.activations) refl refl
      (put_here x id new o keys (was_newest classes base x id new formed read) (was_newest classes base x id new formed read t found).0) (put_others x id new o keys)
      (unheld t found (taken_over rs t.current.activations) (activation_keys id t.current.activations)
      (λ n out. let none = none_active id n t.current.activations out in found_taken n rs t.current.activations none ∙ sym none))
      (held_actives classes base id o t.current.activations)

  pub put_stays : (rs : List Running) → StaysFormed classes base (put_with new id rs x)
  unfolding put_with
  put_stays rs = by_object (object_of new id x) refl where
    by_object : (f : Option Tracked) → object_of new id x ≡ f → StaysFormed classes base (put_of new id rs f x)
    by_object None is = formed
    by_object (Some t) is = by_few classes base x (activation_keys id t.current.activations) (λ keys. Ok (tt, with_now id new (with_states rs t.current) keys x)) (put_so rs t is)
