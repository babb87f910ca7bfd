-- What there is of an object is read of its own records.
use Rattle.std.proofs.Common.{◌≡◌, ℕ, List, true, Option, Some, refl, ap, ◌∙◌, arith}
use Rattle.std.specs.BTreeMap.{is_at}
use Rattle.std.proofs.lemmas.Bool.Decides.{nat_tests}
use Rattle.ode_keep.specs.Entries.{Entries}
use Rattle.ode_value.specs.Keys.{activation_kind, key_cmp, object_key, version_kind}
use Rattle.ode_value.specs.declared.class.Class.{Class}
use Rattle.ode_value.specs.declared.key.Key.{Key}
use Rattle.ode_codec.specs.declared.record.Record.{Record}
use Rattle.ode_codec.specs.declared.record.Record.TheVariants as of
use Rattle.ode_heap.specs.Activations.{activations_in, as_activation, is_activation_of, own_activations}
use Rattle.ode_heap.specs.Answers.{Found, ◌>>=◌}
use Rattle.ode_heap.specs.Answers.{There, Broken}
use Rattle.ode_heap.specs.Looking.{as_version, looked_at, looked_up}
use Rattle.ode_heap.specs.Objects.{head_of, is_of_object, object_in, own_records, versions_in, with_versions}
use Rattle.ode_heap.specs.Walking.{block, is_from, taken}
use Rattle.ode_heap.proofs.Passing.{collected_of_those, value_of_those}

-- ---- objects

object_is_own : (id : ℕ) (q : Key) → is_at (key_cmp (object_key id)) q ≡ true → is_of_object id q ≡ true
object_is_own id q here = grind (arith, nat_tests)

versions_are_own : (id : ℕ) (q : Key) → is_from version_kind id 0 q ≡ true → is_of_object id q ≡ true
versions_are_own id q here = grind (arith, nat_tests)

looked_own : (es : Entries) (id : ℕ) → looked_up (own_records es id) (object_key id) ≡ looked_up es (object_key id)
unfolding looked_up
looked_own es id = ap (looked_at (object_key id)) (value_of_those (is_of_object id) (object_key id) (object_is_own id) es)

own_versions : (es : Entries) (id : ℕ) → versions_in (own_records es id) id ≡ versions_in es id
unfolding block
own_versions es id = collected_of_those (is_of_object id) _ (is_from version_kind id 0) (taken as_version) (versions_are_own id) es

own_head : (es : Entries) (id : ℕ) (found : Option Record) → with_versions (own_records es id) id found ≡ with_versions es id found
own_head es id (Some (of.Object object class last)) = ap (λ (vs : Found _). vs >>= λ vs. There (head_of class last vs)) (own_versions es id)
own_head es id _ = refl

pub object_of_own : (es : Entries) (id : ℕ) → object_in (own_records es id) id ≡ object_in es id
unfolding object_in
object_of_own es id =
    ap (λ (f : Found (Option Record)). f >>= with_versions (own_records es id) id) (looked_own es id) ∙ then_head (looked_up es (object_key id))
  where
    then_head : (f : Found (Option Record)) → (f >>= with_versions (own_records es id) id) ≡ (f >>= with_versions es id)
    then_head (There found) = own_head es id found
    then_head (Broken k) = refl

-- ---- activations

activations_are_own : (id : ℕ) (q : Key) → is_from activation_kind id 0 q ≡ true → is_activation_of id q ≡ true
activations_are_own id q here = grind (arith, nat_tests)

pub activations_of_own : (es : Entries) (id : ℕ) (classes : List Class) → activations_in (own_activations es id) id classes ≡ activations_in es id classes
unfolding block
activations_of_own es id classes =
    collected_of_those (is_activation_of id) _ (is_from activation_kind id 0) (taken (as_activation classes)) (activations_are_own id) es
