-- What a change weighs, and whether there is room for its fields.
use Rattle.std.proofs.Common.{◌≡◌, ◌<◌, ◌≤◌, ◌+◌, ◌-◌, ◌^◌, ◌++◌, ◌∙◌, ℕ, suc, List, [], ◌∷◌, drop, length, map, min, Some, refl, ap, sym, subst, arith, length-append}
use Rattle.std.specs.BTreeMap.{insert_entry}
use Rattle.std.specs.List.{AllByRecursion, enumerate_from}
use Rattle.std.proofs.Math.Seq.{drop-append_seam}
use Rattle.std.proofs.lemmas.List.{length-map}
use Rattle.ode_change.proofs.Putting.{one_longer}
use Rattle.ode_change.specs.Changing.{IsTaken}
use Rattle.ode_change_laws.specs.Behind.{IsBehind}
use Rattle.ode_changed_laws.specs.Known.{IsKnown, class_by_class}
use Rattle.ode_changed_laws.specs.Records.{added_row_by, count_more, fields_put, new_in, number_named}
use Rattle.ode_class_records.specs.Puts.{with_rows}
use Rattle.ode_codec.specs.declared.record.Counters.{Counters}
use Rattle.ode_good_runs.specs.Reading.{IsReadField, IsReadValue}
use Rattle.ode_heap.specs.Answering.{class_of}
use Rattle.ode_heap_laws.specs.Few.{HasFewParts}
use Rattle.ode_keep.specs.Entries.{Changes}
use Rattle.ode_keep.specs.Growth.{put_bytes}
use Rattle.ode_keep.specs.declared.limits.TheConstants.{MAX_CHANGES}
use Rattle.ode_types.specs.Limits.{field_limit}
use Rattle.ode_value.specs.Changing.{added_as, changed_bones}
use Rattle.ode_value.specs.Keys.{key_cmp}
use Rattle.ode_value.specs.Language.{Language, ListWorld}
use Rattle.ode_value.specs.Limits.{weight_limit}
use Rattle.ode_value.specs.Records.{Row}
use Rattle.ode_value.specs.Weights.{weight}
use Rattle.ode_value.specs.Worlds.{Declared}
use Rattle.ode_value.specs.declared.change.Added.{Added}
use Rattle.ode_value.specs.declared.change.Change.{Change}
use Rattle.ode_value.specs.declared.class.Class.{Class}
use Rattle.ode_value.specs.declared.statement.ClassDecl.{ClassDecl}
use Rattle.ode_value.specs.declared.statement.Sort.{Sort}
use Rattle.ode_value.specs.declared.value.Value.{Value}

abbrev Entered : Type 0
Entered = List ℕ × Sort × Value

-- ---- the new fields

entered : {X : Type 0} (k : ℕ) (xs : List X) → length (enumerate_from k xs) ≡ length xs
entered k [] = refl
entered k (x ∷ xs) = ap suc (entered (k + 1) xs)

new_counted : (classes : List Class) (before : ℕ) (c : Change) → length (new_in classes before c) ≡ length c.fields
new_counted classes before c = length-map (enumerate_from (before + 1) c.fields) (added_as (number_named classes c.class)) ∙ entered (before + 1) c.fields

read_each : (n k : ℕ) (fs : List Entered) → AllByRecursion IsReadField fs → AllByRecursion (λ (a : Added). IsReadValue a.value) (map (added_as n) (enumerate_from k fs))
read_each n k [] all = tt
read_each n k (f ∷ fs) all = (all.0.value, read_each n (k + 1) fs all.1)

-- a sum that is too great for its bytes is too great
too_heavy : (before old put rows more new bytes all : ℕ) → before ≡ old → bytes ≡ min (min (before + min put (2 ^ 64 - 1)) (2 ^ 64 - 1) + more) (2 ^ 64 - 1) → put ≡ rows → more ≡ new → all ≡ old + rows + new → weight_limit < bytes → weight_limit < all
too_heavy before old put rows more new bytes all was sum same count is over = omega (arith, was, sum, same, count, is, over)

not_heavy : (before old put rows more new bytes all : ℕ) → before ≡ old → bytes ≡ min (min (before + min put (2 ^ 64 - 1)) (2 ^ 64 - 1) + more) (2 ^ 64 - 1) → put ≡ rows → more ≡ new → all ≡ old + rows + new → bytes ≤ weight_limit → bytes ≡ all
not_heavy before old put rows more new bytes all was sum same count is below = omega (arith, was, sum, same, count, is, below)

-- those behind the ones that were there
module _ (known behind : List Added) (classes : List Class) (c : Change) (is : behind ≡ known ++ new_in classes (length known) c) where
  pub no_fewer : length known ≤ length behind
  no_fewer =
      let same = ap length is in
      let all = length-append known (new_in classes (length known) c) in
      omega (arith, same, all)

  pub new_behind : drop (length known) behind ≡ new_in classes (length known) c
  new_behind = ap (drop (length known)) is ∙ drop-append_seam known (new_in classes (length known) c)

  pub new_read : AllByRecursion IsReadField c.fields → AllByRecursion (λ (a : Added). IsReadValue a.value) (drop (length known) behind)
  new_read read = subst (AllByRecursion (λ (a : Added). IsReadValue a.value)) (sym new_behind) (read_each (number_named classes c.class) (length known + 1) c.fields read)

  pub all_counted : length behind ≡ length known + length c.fields
  all_counted =
      let same = ap length is in
      let all = length-append known (new_in classes (length known) c) in
      let new = new_counted classes (length known) c in
      omega (arith, same, all, new)

  -- ---- their bytes

  module _ (l : Language) (w : ListWorld) (classes_are : List Declared) (checked : classes ≡ map class_of classes_are) (counters : Counters) (trees : List ClassDecl) (knows : IsKnown w.bones counters trees known)
      (count : length (class_by_class w.bones) ≡ length w.bones.added)
      (weighs : let cs = map class_of classes_are in weight (changed_bones w.bones c classes_are) ≡ weight w.bones + put_bytes (fields_put cs (new_in cs (length w.bones.added) c)) + count_more (length w.bones.added) (length c.fields))
      (batch : Changes) (rows : batch ≡ fields_put classes (drop (length known) behind)) (before bytes : ℕ) (was : before ≡ weight w.bones)
      (sum : bytes ≡ min (min (before + min (put_bytes batch) (2 ^ 64 - 1)) (2 ^ 64 - 1) + count_more counters.added (length (drop (length known) behind))) (2 ^ 64 - 1)) where
    as_many : length known ≡ length w.bones.added
    as_many = ap length knows.added ∙ count

    pub batch_is : batch ≡ fields_put classes (new_in classes (length w.bones.added) c)
    batch_is = rows ∙ ap (fields_put classes) (new_behind ∙ ap (λ (n : ℕ). new_in classes n c) as_many)

    put_is : put_bytes batch ≡ put_bytes (fields_put (map class_of classes_are) (new_in (map class_of classes_are) (length w.bones.added) c))
    put_is = ap put_bytes batch_is ∙ ap (λ (cs : List Class). put_bytes (fields_put cs (new_in cs (length w.bones.added) c))) checked

    more_is : count_more counters.added (length (drop (length known) behind)) ≡ count_more (length w.bones.added) (length c.fields)
    more_is =
        ap (λ (k : Counters). count_more k.added (length (drop (length known) behind))) knows.counters
        ∙ ap (λ (n : ℕ). count_more (length w.bones.added) n) (ap length new_behind ∙ new_counted classes (length known) c)

    -- there is no room for them
    pub heavy_is : weight_limit < bytes → weight_limit < weight (changed_bones w.bones c classes_are)
    heavy_is over = too_heavy before _ _ _ _ _ bytes _ was sum put_is more_is weighs over

    -- there is room
    weighs_is : bytes ≤ weight_limit → bytes ≡ weight (changed_bones w.bones c classes_are)
    weighs_is below = not_heavy before _ _ _ _ _ bytes _ was sum put_is more_is weighs below

    pub taken_is : IsBehind l w.bones c classes_are → AllByRecursion HasFewParts classes_are → bytes ≤ weight_limit → IsTaken l w c classes_are counters classes (length behind) batch bytes
    taken_is is_behind few below = record {
      behind = is_behind;
      few = few;
      counters = knows.counters;
      classes = checked;
      added = all_counted ∙ ap (λ (n : ℕ). n + length c.fields) as_many;
      batch = batch_is;
      weighs = weighs_is below;
      light = subst (λ (n : ℕ). n ≤ weight_limit) (weighs_is below) below;
    }

-- ---- how many changes

rows_longer : (rows : List Row) (changes : Changes) → length (with_rows rows changes) ≤ length changes + length rows
rows_longer [] changes = omega arith
rows_longer (r ∷ rows) changes =
    let here = one_longer changes r.0 (Some r.1) in
    let rest = rows_longer rows (insert_entry key_cmp changes r.0 (Some r.1)) in
    omega (arith, here, rest)

few_fields : (n all rows count : ℕ) → all ≤ 0 + rows → n ≡ all → rows ≡ count → count ≤ field_limit → n < MAX_CHANGES
unfolding field_limit
few_fields n all rows count most same are few = omega (arith, most, same, are, few)

pub few_changes : (classes : List Class) (before : ℕ) (c : Change) (batch : Changes) → batch ≡ fields_put classes (new_in classes before c) → length c.fields ≤ field_limit → length batch < MAX_CHANGES
few_changes classes before c batch is few =
    let rows = map (added_row_by classes) (new_in classes before c) in
    let most = rows_longer rows [] in
    let same = ap (λ (cs : Changes). length cs) is in
    let count = length-map (new_in classes before c) (added_row_by classes) ∙ new_counted classes before c in
    few_fields (length batch) (length (with_rows rows [])) (length rows) (length c.fields) most same count few
