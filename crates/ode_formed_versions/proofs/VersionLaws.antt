-- Fields are set, and versions derived and removed.
use Rattle.std.proofs.Common.{◌≡◌, ◌==◌, ◌+◌, ℕ, List, [], ◌∷◌, Bool, true, false, cond, length, Option, Some, Ok, Err, refl, sym, ap, subst, ◌∙◌, inr, arith}
use Rattle.std.proofs.lemmas.Bool.{eqb-true, false≢true}
use Rattle.std.proofs.lemmas.Bool.Decides.{nat_tests}
use Rattle.std.specs.Prelude.{◌||◌, nat_lt}
use Rattle.std.specs.BTreeMap.{is_at}
use Rattle.std.specs.List.{find, fold, slice_set}
use Rattle.ode_formed_laws.proofs.AmongLaws.{first_out, version_at}
use Rattle.ode_formed_laws.proofs.FormedLaws.{after_by, by_few, by_kept, by_live, by_need, formed_then, put_here, put_others, was_formed, was_newest}
use Rattle.ode_formed_laws.proofs.ObjectLaws.{by_form, own_object, own_version}
use Rattle.ode_formed_laws.proofs.SpelledLaws.{IsWritten, same_active, same_object, same_version, spells_active, spells_object, spells_written}
use Rattle.ode_formed_laws.specs.Staying.{IsStored, StaysFormed}
use Rattle.ode_formed_versions.proofs.PlaceLaws.{found_before, found_gone, found_left, found_new, found_other, found_written, newest_derived, newest_left, newest_written}
use Rattle.ode_keep.specs.Entries.{Entries, value_under}
use Rattle.ode_objects.specs.Objects.{derived, is_numbered, values_of, without, written}
use Rattle.ode_objects.specs.Records.{object_becomes}
use Rattle.ode_objects.specs.declared.object.Fields.TheVariants.{Written}
use Rattle.ode_objects.specs.declared.object.Object.{Object}
use Rattle.ode_objects.specs.declared.object.Version.{Version}
use Rattle.ode_objects.specs.declared.tracked.Tracked.{Tracked}
use Rattle.ode_overlay.specs.After.{is_among, value_after}
use Rattle.ode_overlay.specs.Answers.{Answer, ◌>>=◌}
use Rattle.ode_overlay.specs.Changing.{denoted_in, derive_with, drop_with, fields_with, kept_now, needs, new_version, object_of, with_now, write_with}
use Rattle.ode_overlay.specs.Layers.{Layer, holding}
use Rattle.ode_overlay.specs.declared.error.OverlayError.TheVariants.{LastVersion, NoNumber}
use Rattle.ode_overlay_laws.specs.Standing.{object_as}
use Rattle.ode_settling_laws.specs.Formed.{IsFormed, IsOwn, value_in}
use Rattle.ode_value.specs.Changes.{with_key}
use Rattle.ode_value.specs.Keys.{activation_key, key_cmp, object_key, version_key}
use Rattle.ode_value.specs.Limits.{version_limit}
use Rattle.ode_value.specs.Worlds.{Declared}
use Rattle.ode_value.specs.declared.key.Key.{Key}
use Rattle.ode_value.specs.declared.value.Ref.{Ref}
use Rattle.ode_value.specs.declared.value.Value.{Value}
use Rattle.ode_version_laws.specs.Denoting.{HasVersions}

-- a call that goes on with what is found, whatever it is
by_answer : {R F : Type 0} (classes : List Declared) (base : Entries) (a : Answer F) (rest : F → Answer (R × Layer)) → ((f : F) → StaysFormed classes base (rest f)) → StaysFormed classes base (a >>= rest)
by_answer classes base (Ok f) rest formed = formed f
by_answer classes base (Err why) rest formed = tt

module _ (classes : List Declared) (base : Entries) (x : Layer) (r : Ref) (new : Option Tracked) (formed : IsFormed classes base x) (read : IsStored classes base r.object new) where
  abbrev id : ℕ
  id = r.object

  -- only versions change
  module _ (t : Tracked) (found : object_of new id x ≡ Some t) (vs : List Version) (ks : List Key)
      (others : (n : ℕ) → is_among (version_key id n) ks ≡ false → find (is_numbered n) vs ≡ find (is_numbered n) t.current.versions) where
    abbrev now : Object
    now = record t.current { versions = vs }

    unheld : (q : Key) → IsOwn q → q.a ≡ id → is_among q ks ≡ false → after_by x q now (value_under base q) ≡ value_in classes q now
    unheld q own at out =
        let same : (object_becomes q now ≡ object_becomes q t.current) × (value_in classes q now ≡ value_in classes q t.current) =
        by_form (λ k. is_among k ks ≡ false → (object_becomes k now ≡ object_becomes k t.current) × (value_in classes k now ≡ value_in classes k t.current)) id
        (λ is. same_object classes id now t.current refl refl refl) (λ n is. same_version classes id n now t.current refl refl (others n is)) (λ n is. same_active classes id n now t.current refl refl) q own at out in
        ap (λ b. cond (is_among q x.keys) (value_after b (value_under base q)) (value_under base q)) same.0
        ∙ was_formed classes base x id new formed read t found q own at ∙ sym same.1

  -- ---- one version

  abbrev one_key : ℕ → List Key
  one_key number = version_key id number ∷ []

  other_number : (number n : ℕ) → is_among (version_key id n) (one_key number) ≡ false → (number == n) ≡ false
  other_number number n out = sym (version_at id n number (number == n) refl) ∙ first_out (is_at (key_cmp (version_key id number)) (version_key id n)) false out

  held_one : (o : Object) (number : ℕ) → IsWritten (find (is_numbered number) o.versions) → (q : Key) → IsOwn q → q.a ≡ id → is_among q (one_key number) ≡ true
      → value_after (object_becomes q o) (value_under base q) ≡ value_in classes q o
  held_one o number put q own at among =
      by_form (λ k. is_among k (one_key number) ≡ true → value_after (object_becomes k o) (value_under base k) ≡ value_in classes k o) id
      (λ is. absurd (false≢true is))
      (λ n is. by_number n (number == n) refl is)
      (λ n is. absurd (false≢true is)) q own at among where
        by_number : (n : ℕ) (b : Bool) → (number == n) ≡ b → is_among (version_key id n) (one_key number) ≡ true → value_after (object_becomes (version_key id n) o) (value_under base (version_key id n)) ≡ value_in classes (version_key id n) o
        by_number n true same is = spells_written classes id n o (value_under base (version_key id n)) (subst (λ m. IsWritten (find (is_numbered m) o.versions)) (eqb-true number n same) put)
        by_number n false differs is = absurd (false≢true (sym (ap (λ b. b || false) (version_at id n number false differs)) ∙ is))

  -- ---- a field is set

  written_so : (number : ℕ) (fields : ℕ × List Value) (t : Tracked) → fields.0 ≡ x.first.added → object_of new id x ≡ Some t → IsFormed classes base (with_now id new (written number fields t.current) (fold with_key x.keys (one_key number)) x)
  written_so number fields t is found =
      let o = written number fields t.current in
      let keys = fold with_key x.keys (one_key number) in
      formed_then classes base x (with_now id new o keys x) id o (one_key number) formed (own_version id number, tt) refl refl
      (put_here x id new o keys (was_newest classes base x id new formed read) (newest_written number fields x.first.added is t.current.versions (was_newest classes base x id new formed read t found).0)) (put_others x id new o keys)
      (unheld t found o.versions (one_key number) (λ n out. found_other number fields n t.current.versions (other_number number n out)))
      (held_one o number (found_written number fields t.current.versions))

  pub write_stays : (slot : ℕ) (value : Value) → StaysFormed classes base (write_with new r slot value x)
  unfolding write_with fields_with
  write_stays slot value =
      by_live classes base id (object_of new id x)
      (λ o. denoted_in r o >>= λ v. fields_with slot value v x >>= λ fields. holding (one_key v.number) x >>= λ keys. Ok (tt, with_now id new (written v.number fields o) keys x))
      (λ t found is_live.
      by_answer classes base (denoted_in r t.current) (λ v. fields_with slot value v x >>= λ fields. holding (one_key v.number) x >>= λ keys. Ok (tt, with_now id new (written v.number fields t.current) keys x))
      (λ v.
      let fields : ℕ × List Value = (x.first.added, slice_set (values_of v.fields) slot value) in
      by_kept classes base x.first.added (slice_set (values_of v.fields) slot value) (λ kept. holding (one_key v.number) x >>= λ keys. Ok (tt, with_now id new (written v.number kept t.current) keys x))
      (by_few classes base x (one_key v.number) (λ keys. Ok (tt, with_now id new (written v.number fields t.current) keys x)) (written_so v.number fields t refl found))))

  -- ---- a version is removed

  dropped_so : (number : ℕ) (t : Tracked) → object_of new id x ≡ Some t → HasVersions (object_as id t.current) → IsFormed classes base (with_now id new (without number t.current) (fold with_key x.keys (one_key number)) x)
  dropped_so number t found has =
      let o = without number t.current in
      let keys = fold with_key x.keys (one_key number) in
      formed_then classes base x (with_now id new o keys x) id o (one_key number) formed (own_version id number, tt) refl refl
      (put_here x id new o keys (was_newest classes base x id new formed read) (newest_left number x.first.added t.current.versions (was_newest classes base x id new formed read t found).0)) (put_others x id new o keys)
      (unheld t found o.versions (one_key number) (λ n out. found_left number n t.current.versions (other_number number n out)))
      (held_one o number (subst IsWritten (sym (found_gone number 0 t.current.versions has.rising)) tt))

  pub drop_stays : ((t : Tracked) → object_of new id x ≡ Some t → HasVersions (object_as id t.current)) → StaysFormed classes base (drop_with new r x)
  unfolding drop_with
  drop_stays has =
      by_live classes base id (object_of new id x)
      (λ o. denoted_in r o >>= λ v. needs (LastVersion id) (nat_lt 1 (length o.versions)) >>= λ _. holding (one_key v.number) x >>= λ keys. Ok (tt, with_now id new (without v.number o) keys x))
      (λ t found is_live.
      by_answer classes base (denoted_in r t.current) (λ v. needs (LastVersion id) (nat_lt 1 (length t.current.versions)) >>= λ _. holding (one_key v.number) x >>= λ keys. Ok (tt, with_now id new (without v.number t.current) keys x))
      (λ v. by_need classes base (LastVersion id) (nat_lt 1 (length t.current.versions)) (λ _. holding (one_key v.number) x >>= λ keys. Ok (tt, with_now id new (without v.number t.current) keys x))
      (by_few classes base x (one_key v.number) (λ keys. Ok (tt, with_now id new (without v.number t.current) keys x)) (dropped_so v.number t found (has t found)))))

  -- ---- a version is derived

  abbrev two_keys : Object → List Key
  two_keys o = object_key id ∷ version_key id (o.last + 1) ∷ []

  abbrev added : ℕ → ℕ × List Value → Object → Version
  added from fields o = record { number = o.last + 1; parent = Some from; fields = Written fields }

  itself : (n : ℕ) → is_at (key_cmp (object_key n)) (object_key n) ≡ true
  itself n = grind (arith, nat_tests)

  put_here_too : (from : ℕ) (fields : ℕ × List Value) (o : Object) → IsWritten (Some (added from fields o))
  put_here_too from fields o stamp values e = absurd (cc)

  same_number : (number n : ℕ) → is_among (version_key id n) (object_key id ∷ one_key number) ≡ true → number ≡ n
  same_number number n is = by_number (number == n) refl where
    by_number : (b : Bool) → (number == n) ≡ b → number ≡ n
    by_number true same = eqb-true number n same
    by_number false differs = absurd (false≢true (sym (ap (λ b. b || false) (version_at id n number false differs)) ∙ is))

  again : (q : Key) (o was : Object) → object_becomes q o ≡ object_becomes q was → value_in classes q o ≡ value_in classes q was → after_by x q was (value_under base q) ≡ value_in classes q was → after_by x q o (value_under base q) ≡ value_in classes q o
  again q o was becomes value is = ap (λ b. cond (is_among q x.keys) (value_after b (value_under base q)) (value_under base q)) becomes ∙ is ∙ sym value

  derived_so : (from : ℕ) (fields : ℕ × List Value) (t : Tracked) → fields.0 ≡ x.first.added → object_of new id x ≡ Some t → HasVersions (object_as id t.current)
      → IsFormed classes base (with_now id new (derived from fields t.current) (fold with_key x.keys (two_keys t.current)) x)
  derived_so from fields t is found has =
      let was = t.current in
      let o = derived from fields was in
      let keys = fold with_key x.keys (two_keys was) in
      let v = added from fields was in
      formed_then classes base x (with_now id new o keys x) id o (two_keys was) formed (own_object id, (own_version id (was.last + 1), tt)) refl refl
      (put_here x id new o keys (was_newest classes base x id new formed read) (newest_derived x.first.added (added from fields was) is was.versions (was_newest classes base x id new formed read t found).0)) (put_others x id new o keys)
      (λ q own at out. by_form (λ k. is_among k (two_keys was) ≡ false → after_by x k o (value_under base k) ≡ value_in classes k o) id
      (λ is. absurd (false≢true (sym is ∙ ap (λ b. b || is_among (object_key id) (version_key id (was.last + 1) ∷ [])) (itself id))))
      (λ n is.
      let apart : (was.last + 1 == n) ≡ false = other_number (was.last + 1) n is in
      let same = same_version classes id n o was refl refl (found_before n was.versions v apart) in
      again (version_key id n) o was same.0 same.1 (was_formed classes base x id new formed read t found (version_key id n) (own_version id n).0 refl))
      (λ n is. let same = same_active classes id n o was refl refl in again (activation_key id n) o was same.0 same.1 (was_formed classes base x id new formed read t found (activation_key id n) (inr (inr refl)) refl)) q own at out)
      (λ q own at among. by_form (λ k. is_among k (two_keys was) ≡ true → value_after (object_becomes k o) (value_under base k) ≡ value_in classes k o) id
      (λ is. spells_object classes id o (value_under base (object_key id)))
      (λ n is. spells_written classes id n o (value_under base (version_key id n))
      (found_new was.last n was.versions v (sym (same_number (was.last + 1) n is)) has.last (put_here_too from fields was)))
      (λ n is. spells_active classes id n o (value_under base (activation_key id n))) q own at among)

  pub derive_stays : ((t : Tracked) → object_of new id x ≡ Some t → HasVersions (object_as id t.current)) → StaysFormed classes base (derive_with new r x)
  unfolding derive_with
  derive_stays has =
      by_live classes base id (object_of new id x)
      (λ o. denoted_in r o >>= λ v. kept_now x (values_of v.fields) >>= λ fields. holding (two_keys o) x >>= λ keys. needs NoNumber (nat_lt o.last version_limit) >>= λ _.
      Ok (new_version r o, with_now id new (derived v.number fields o) keys x))
      (λ t found is_live.
      by_answer classes base (denoted_in r t.current)
      (λ v. kept_now x (values_of v.fields) >>= λ fields. holding (two_keys t.current) x >>= λ keys. needs NoNumber (nat_lt t.current.last version_limit) >>= λ _.
      Ok (new_version r t.current, with_now id new (derived v.number fields t.current) keys x))
      (λ v.
      let fields : ℕ × List Value = (x.first.added, values_of v.fields) in
      by_kept classes base x.first.added (values_of v.fields)
      (λ kept. holding (two_keys t.current) x >>= λ keys. needs NoNumber (nat_lt t.current.last version_limit) >>= λ _. Ok (new_version r t.current, with_now id new (derived v.number kept t.current) keys x))
      (by_few classes base x (two_keys t.current) (λ keys. needs NoNumber (nat_lt t.current.last version_limit) >>= λ _. Ok (new_version r t.current, with_now id new (derived v.number fields t.current) keys x))
      (by_need classes base NoNumber (nat_lt t.current.last version_limit)
      (λ _. Ok (new_version r t.current, with_now id new (derived v.number fields t.current) (fold with_key x.keys (two_keys t.current)) x))
      (derived_so v.number fields t refl found (has t found))))))
