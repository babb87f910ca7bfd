-- Keys of objects stand between the counters' key and that of the entry that runs.
use Rattle.std.proofs.Common.{◌≡◌, ◌+◌, ℕ, List, [], ◌∷◌, ◌++◌, length, refl, sym, ap, ◌∙◌, arith, length-append}
use Rattle.std.specs.List.{AllByRecursion, fold}
use Rattle.std.specs.Ordering.{match_ordering}
use Rattle.std.specs.declared.cmp.Ordering.{Ordering}
use Rattle.std.specs.declared.cmp.Ordering.TheVariants.{Less, Equal, Greater}
use Rattle.ode_overlay.specs.Layers.{first_count}
use Rattle.ode_overlay.specs.Objects.{Active, Object, Version, activation_keys, object_keys, version_keys}
use Rattle.ode_overlay.specs.declared.origin.Origin.{Origin}
use Rattle.ode_overlay.specs.declared.origin.Origin.TheVariants as from
use Rattle.ode_overlay_laws.specs.Standing.{last_keys}
use Rattle.ode_value.specs.Changes.{with_key}
use Rattle.ode_value.specs.Keys.{activation_key, counters_key, entry_key, key_cmp, object_key, version_key}
use Rattle.ode_value.specs.declared.key.Key.{Key}

-- behind the counters' key, and before that of an entry
pub record IsPart (k : Key) : Type 0 where
  pub behind : key_cmp k counters_key ≡ Greater
  pub before : (n : ℕ) → key_cmp k (entry_key n) ≡ Less

pub object_part : (id : ℕ) → IsPart (object_key id)
object_part id = record { behind = refl; before = λ n. refl }

pub version_part : (id number : ℕ) → IsPart (version_key id number)
version_part id number = record { behind = refl; before = λ n. refl }

pub activation_part : (id number : ℕ) → IsPart (activation_key id number)
activation_part id number = record { behind = refl; before = λ n. refl }

version_parts : (id : ℕ) (vs : List Version) (more : List Key) → AllByRecursion IsPart more → AllByRecursion IsPart (version_keys id vs ++ more)
version_parts id [] more rest = rest
version_parts id (v ∷ vs) more rest = (version_part id v.number, version_parts id vs more rest)

pub activation_parts : (id : ℕ) (activations : List Active) → AllByRecursion IsPart (activation_keys id activations)
activation_parts id [] = tt
activation_parts id (a ∷ more) = (activation_part id a.number, activation_parts id more)

pub object_parts : (id : ℕ) (o : Object) → AllByRecursion IsPart (object_keys id o)
object_parts id o = (object_part id, version_parts id o.versions (activation_keys id o.activations) (activation_parts id o.activations))

-- one more, before an entry's key
with_before : (n : ℕ) (k : Key) → key_cmp k (entry_key n) ≡ Less → (ks : List Key) → with_key (ks ++ entry_key n ∷ []) k ≡ with_key ks k ++ entry_key n ∷ []
with_before n k less [] = ap (λ o. match_ordering o (k ∷ entry_key n ∷ []) (entry_key n ∷ []) (entry_key n ∷ k ∷ [])) less
with_before n k less (l ∷ ks) = by_order (key_cmp k l) (with_before n k less ks) where
  by_order : (o : Ordering) → with_key (ks ++ entry_key n ∷ []) k ≡ with_key ks k ++ entry_key n ∷ []
      → match_ordering o (k ∷ l ∷ (ks ++ entry_key n ∷ [])) (l ∷ (ks ++ entry_key n ∷ [])) (l ∷ with_key (ks ++ entry_key n ∷ []) k)
      ≡ match_ordering o (k ∷ l ∷ ks) (l ∷ ks) (l ∷ with_key ks k) ++ entry_key n ∷ []
  by_order Less rest = refl
  by_order Equal rest = refl
  by_order Greater rest = ap (λ zs. l ∷ zs) rest

append_none : (ks : List Key) → ks ++ [] ≡ ks
append_none [] = refl
append_none (k ∷ ks) = ap (λ zs. k ∷ zs) (append_none ks)

-- the same before the last keys of any origin
with_last : (origin : Origin) (k : Key) → IsPart k → (ks : List Key) → with_key (ks ++ last_keys origin) k ≡ with_key ks k ++ last_keys origin
with_last (from.Entry number generation) k part ks = with_before number k (part.before number) ks
with_last from.Script k part ks = ap (λ zs. with_key zs k) (append_none ks) ∙ sym (append_none (with_key ks k))
with_last (from.Tick instant object place) k part ks = ap (λ zs. with_key zs k) (append_none ks) ∙ sym (append_none (with_key ks k))
with_last (from.Move instant) k part ks = ap (λ zs. with_key zs k) (append_none ks) ∙ sym (append_none (with_key ks k))

-- between the counters' key and the last keys
between : (origin : Origin) (k : Key) → IsPart k → (ks : List Key) → with_key (counters_key ∷ (ks ++ last_keys origin)) k ≡ counters_key ∷ (with_key ks k ++ last_keys origin)
between origin k part ks =
    ap (λ o. match_ordering o (k ∷ counters_key ∷ (ks ++ last_keys origin)) (counters_key ∷ (ks ++ last_keys origin)) (counters_key ∷ with_key (ks ++ last_keys origin) k)) part.behind
    ∙ ap (λ zs. counters_key ∷ zs) (with_last origin k part ks)

-- many more
pub all_between : (origin : Origin) (new : List Key) → AllByRecursion IsPart new → (ks : List Key)
    → fold with_key (counters_key ∷ (ks ++ last_keys origin)) new ≡ counters_key ∷ (fold with_key ks new ++ last_keys origin)
all_between origin [] parts ks = refl
all_between origin (k ∷ new) parts ks = ap (λ zs. fold with_key zs new) (between origin k parts.0 ks) ∙ all_between origin new parts.1 (with_key ks k)

-- how many there are
last_count : (origin : Origin) → length (last_keys origin) + 1 ≡ first_count origin
last_count (from.Entry number generation) = refl
last_count from.Script = refl
last_count (from.Tick instant object place) = refl
last_count (from.Move instant) = refl

pub counted_between : (origin : Origin) (ks : List Key) → length (counters_key ∷ (ks ++ last_keys origin)) ≡ first_count origin + length ks
counted_between origin ks = omega (arith, length-append ks (last_keys origin), last_count origin)
