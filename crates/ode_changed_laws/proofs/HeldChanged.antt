-- The changes of a change of a class, over records that hold a world, make records that hold the changed world behind its transaction.
use Rattle.std.proofs.Common.{◌≡◌, ℕ, suc, ◌+◌, Bool, true, false, cond, List, [], ◌∷◌, ◌++◌, length, map, Option, Some, None, refl, ap, sym, ◌∙◌, subst, arith, length-append}
use Rattle.std.specs.Prelude.{◌==◌}
use Rattle.std.specs.List.{AllByRecursion, enumerate_from, flat_map}
use Rattle.std.specs.Option.{IsSome, option_map_or}
use Rattle.std.specs.Str.{bytes_eq}
use Rattle.std.proofs.lemmas.Bool.{eq-eqb}
use Rattle.std.proofs.lemmas.List.{length-map}
use Rattle.ode_change_laws.specs.Behind.{IsBehind}
use Rattle.ode_change_laws.specs.Moves.{new_fields}
use Rattle.ode_change_laws.specs.Rows.{bones_passed, rows_behind, rows_between, world_passed}
use Rattle.ode_change_laws.proofs.FoundStill.{all-found, have-values}
use Rattle.ode_change_laws.proofs.HeldStill.{holds-anew}
use Rattle.ode_change_laws.proofs.PlainClasses.{all-plain-anew, numbered-same}
use Rattle.ode_changed_laws.proofs.Blocks.{rise}
use Rattle.ode_changed_laws.specs.Records.{counters_behind, fields_put, new_in, with_counters}
use Rattle.ode_changed_laws.proofs.Insertions.{between-low, counters-first, counters-replaced, fields-inserted, new-climb, new-put}
use Rattle.ode_changed_laws.proofs.Same.{counters-are, fields-stay, new-is, rows-by}
use Rattle.ode_class_records.specs.Puts.{puts, with_rows}
use Rattle.ode_codec.specs.Spelling.{spelled}
use Rattle.ode_codec.specs.Standing.{HoldsWorld}
use Rattle.ode_codec.specs.StoredRows.{Stored, added_row, added_rows, counters_row, rows}
use Rattle.ode_codec.specs.declared.record.Record.TheVariants as of
use Rattle.ode_heap.specs.Answering.{class_of, counters_of}
use Rattle.ode_heap_laws.specs.Few.{HasFewParts, HoldsCounted}
use Rattle.ode_keep.specs.Entries.{Changes, Entries, applied}
use Rattle.ode_settled_laws.specs.Holding.{IsHeldBy}
use Rattle.ode_value.specs.Changing.{added_as, added_by, changed_bones, changed_number, changed_place, changed_world}
use Rattle.ode_value.specs.Classes.{is_a}
use Rattle.ode_value.specs.GoodWorlds.{AreAdded, IsGood}
use Rattle.ode_value.specs.Language.{Language, ListWorld}
use Rattle.ode_value.specs.Pasts.{lists}
use Rattle.ode_value.specs.Records.{Row}
use Rattle.ode_value.specs.Worlds.{Bones, Declared, class_named, class_numbered}
use Rattle.ode_value.specs.declared.change.Change.{Change}
use Rattle.ode_value.specs.declared.class.Class.{Class}

-- ---- the changed class is there

numbered-named : (name : List ℕ) (ds : List Declared) (k : Class) → class_named name ds ≡ Some k → IsSome (class_numbered k.number ds)
numbered-named name [] k is = absurd (cc (is))
numbered-named name (d ∷ ds) k is = by (bytes_eq d.class.name name) is (numbered-named name ds k)
  where
    among : (t : Bool) → IsSome (class_numbered k.number ds) → IsSome (cond t (Some d.class) (class_numbered k.number ds))
    among true some = refl
    among false some = some

    by : (t : Bool) → cond t (Some d.class) (class_named name ds) ≡ Some k → (class_named name ds ≡ Some k → IsSome (class_numbered k.number ds))
        → IsSome (cond (d.class.number == k.number) (Some d.class) (class_numbered k.number ds))
    by true one rest =
        let same : d.class ≡ k = cc (one) in
        let here : (d.class.number == k.number) ≡ true = eq-eqb d.class.number k.number (ap (λ (c : Class). c.number) same) in
        subst (λ (t : Bool). IsSome (cond t (Some d.class) (class_numbered k.number ds))) (sym here) refl
    by false one rest = among (d.class.number == k.number) (rest one)

-- ---- the records

module _ (l : Language) (b : Bones) (c : Change) (classes : List Declared) (is : IsBehind l b c classes) where
  abbrev number : ℕ
  number = changed_number b c

  abbrev before : ℕ
  before = length b.added

  abbrev checked : List Class
  checked = map class_of classes

  abbrev new_rows : List Row
  new_rows = map (added_row classes) (added_by number before c)

  abbrev then : Bones
  then = bones_passed (changed_bones b c classes)

  by-named : (x : Option Class) → class_named c.class b.classes ≡ x → IsSome x → IsSome (class_numbered (option_map_or (λ (k : Class). k.number) x 0) b.classes)
  by-named None there some = absurd (cc (some))
  by-named (Some k) there some = numbered-named c.class b.classes k there

  there : IsSome (class_numbered number classes)
  there =
      numbered-same b.classes classes (all-plain-anew (changed_place b c) (new_fields b c classes) (λ n. is_a b.classes n c.class) b.classes classes is.behind) number
      (by-named (class_named c.class b.classes) refl is.named)

  entered : {X : Type 0} (k : ℕ) (xs : List X) → length (enumerate_from k xs) ≡ length xs
  entered k [] = refl
  entered k (x ∷ xs) = ap suc (entered (k + 1) xs)

  as-many : before + length c.fields ≡ length then.added
  as-many =
      let all = length-append b.added (added_by number before c) in
      let new : length (added_by number before c) ≡ length c.fields = length-map (enumerate_from (before + 1) c.fields) (added_as number) ∙ entered (before + 1) c.fields in
      omega (arith, all, new)

  pub fields-are : fields_put checked (new_in checked before c) ≡ puts new_rows
  fields-are =
      ap (λ (rs : List Row). with_rows rs []) (rows-by classes (new_in checked before c) ∙ ap (map (added_row classes)) (new-is b c classes is.behind before)) ∙ new-put classes number before c

  changes-are : with_counters (counters_of b) (before + length c.fields) (fields_put checked (new_in checked before c)) ≡ puts (counters_row then ∷ new_rows)
  changes-are =
      ap (with_rows (spelled (of.Counters (counters_behind (counters_of b) (before + length c.fields))) ∷ [])) fields-are
      ∙ ap (λ (r : Row). with_rows (r ∷ []) (puts new_rows)) (counters-are b c classes (before + length c.fields) as-many)
      ∙ counters-first number (before + 1) (before + 1 + length c.fields) (counters_row then).1 new_rows (new-climb classes number before c)

  -- over those of a stored database
  rows-are : (s : Stored) → s.world.bones ≡ b → AreAdded b.classes 1 b.added
      → applied (with_counters (counters_of b) (before + length c.fields) (fields_put checked (new_in checked before c))) (rows s) ≡ rows_behind then (rows_between s)
  rows-are s same are =
      let between = rows_between s in
      let stored : rows s ≡ rows_behind b between = ap (λ (x : Bones). rows_behind x between) same in
      let rising = rise l then.added [] classes 0 (omega arith) is.good in
      ap (λ (cs : Changes). applied cs (rows s)) changes-are
      ∙ ap (applied (puts (counters_row then ∷ new_rows))) stored
      ∙ ap (applied (puts new_rows)) (counters-replaced (counters_row then).1 (counters_row b).1 (between ++ flat_map (added_rows b) b.classes))
      ∙ ap (λ (rs : List Row). applied (puts new_rows) ((counters_row then ∷ between) ++ rs)) (sym (fields-stay b c classes is.behind))
      ∙ fields-inserted classes b.classes b.added number c (counters_row then ∷ between) rising there are (omega arith, between-low s)

-- ---- they hold the changed world

pub held-changed : (l : Language) (base : Entries) (w : ListWorld) (held : HoldsCounted l base w) (c : Change) (classes : List Declared) → IsBehind l w.bones c classes → AllByRecursion HasFewParts classes
    → IsGood l (world_passed (changed_world lists classes c w))
    → let b = w.bones in let cs = map class_of classes in
    IsHeldBy l held.world.stored.tables (applied (with_counters (counters_of b) (length b.added + length c.fields) (fields_put cs (new_in cs (length b.added) c))) base) (world_passed (changed_world lists classes c w))
held-changed l base w held c classes is few good =
    let b = w.bones in
    let cs = map class_of classes in
    let s = held.world.stored in
    let changes : Changes = with_counters (counters_of b) (length b.added + length c.fields) (fields_put cs (new_in cs (length b.added) c)) in
    let after = world_passed (changed_world lists classes c w) in
    let before = held.world.good.bones in
    let found = all-found b c classes before.rising in
    let has = have-values b c classes b.objects before.objects in
    let it = holds-anew l s w c classes held.world.stands is.behind found is.watched has good in
    let records : applied changes base ≡ rows_behind (bones_passed (changed_bones b c classes)) (rows_between s) =
    ap (applied changes) held.world.rows ∙ rows-are l b c classes is s held.world.stands.bones before.added in
    let both = subst (λ (rs : List Row). (now : HoldsWorld l rs after) × (now.stored.tables ≡ s.tables)) (sym records) it in
    record { held = record { world = both.0; few = few }; by = both.1 }
