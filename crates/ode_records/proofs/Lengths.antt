-- How many records a change leaves.
use Rattle.std.proofs.Common.{◌≡◌, ◌+◌, ℕ, List, [], ◌∷◌, length, Bor, true, false, Option, Some, None, refl, ap, arith}
use Rattle.std.specs.BTreeMap.{insert_entry, is_at}
use Rattle.std.specs.List.{sum_by}
use Rattle.std.specs.Map.{remove_entry, values_of}
use Rattle.std.specs.Prelude.{is_some}
use Rattle.std.specs.Option.{option_copied, option_map, unwrap_or}
use Rattle.std.proofs.lemmas.List.Sums.{sum_by-cons}
use Rattle.std.proofs.lemmas.Map.Entries.{sum_by-insert_entry, sum_by-remove_entry}
use Rattle.ode_value.specs.declared.key.Key.{Key}
use Rattle.ode_value.specs.Keys.{key_cmp}
use Rattle.ode_keep.specs.Entries.{Entries, HasRisingKeys, changed, value_under}
use Rattle.ode_keep.proofs.Applying.{taken_out}
use Rattle.ode_keep.proofs.Keys.{key_total}

-- one, where there is a value
abbrev pub ones : Option (List ℕ) → ℕ
ones None = 0
ones (Some v) = 1

abbrev one : List ℕ → ℕ
one v = 1

all_ones : (es : Entries) → sum_by one (values_of es) ≡ length es
all_ones [] = refl
all_ones (e ∷ es) = omega (arith, sum_by-cons one e.1 (values_of es), all_ones es)

ones_are : (o : Option (List ℕ)) → unwrap_or (option_map one o) 0 ≡ ones o
ones_are None = refl
ones_are (Some v) = refl

pub ones_none : (o : Option (List ℕ)) → is_some o ≡ false → ones o ≡ 0
ones_none None is = refl
ones_none (Some v) is = absurd (cc (is))

pub ones_some : (o : Option (List ℕ)) → is_some o ≡ true → ones o ≡ 1
ones_some None is = absurd (cc (is))
ones_some (Some v) is = refl

pub copied_some : {X : Type 0} (o : Option (Bor X)) → is_some (option_copied o) ≡ is_some o
copied_some None = refl
copied_some (Some v) = refl

-- one more, where there was none under the key
pub put_length : (es : Entries) (k : Key) (v : List ℕ) → HasRisingKeys es → length (insert_entry key_cmp es k v) + ones (value_under es k) ≡ length es + 1
put_length es k v rising =
    omega (arith, sum_by-insert_entry one key_total es k v rising, ones_are (value_under es k), all_ones es, all_ones (insert_entry key_cmp es k v))

-- one less, where there was one
pub taken_length : (es : Entries) (k : Key) → HasRisingKeys es → length (changed es k None) + ones (value_under es k) ≡ length es
taken_length es k rising =
    omega (arith, ap (λ (l : Entries). length l) (taken_out es k rising), sum_by-remove_entry one (is_at (key_cmp k)) es, ones_are (value_under es k), all_ones es, all_ones (remove_entry (is_at (key_cmp k)) es))
