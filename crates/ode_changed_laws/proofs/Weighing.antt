-- A good world with the fields of a change weighs as much more as their records, and their number in the counters, take.
use Rattle.std.proofs.Common.{◌≡◌, ◌<◌, ℕ, zero, suc, ◌+◌, Bool, true, false, cond, List, [], ◌∷◌, ◌++◌, length, map, refl, ap, ◌∙◌, arith, length-append}
use Rattle.std.specs.Prelude.{◌==◌, ◌&&◌, not}
use Rattle.std.specs.List.{enumerate_from, sum_by}
use Rattle.std.proofs.lemmas.Bool.{eqb-true}
use Rattle.std.proofs.lemmas.Bool.Decides.{nat_tests}
use Rattle.std.proofs.lemmas.List.{length-map}
use Rattle.std.proofs.lemmas.List.Sums.{sum_by-cons}
use Rattle.ode_change_laws.specs.Behind.{IsBehind}
use Rattle.ode_change_laws.proofs.FoundStill.{have-values}
use Rattle.ode_change_laws.proofs.WeighsStill.{weighs-anew}
use Rattle.ode_changed_laws.specs.Records.{count_more, fields_put, new_in}
use Rattle.ode_changed_laws.proofs.HeldChanged.{fields-are}
use Rattle.ode_class_records.specs.Puts.{puts}
use Rattle.ode_codec.specs.StoredRows.{added_row, referred, sort_number, u32}
use Rattle.ode_heap.specs.Answering.{class_of}
use Rattle.ode_keep.specs.Growth.{put_bytes}
use Rattle.std.specs.Int.{w16, to_be_bytes}
use Rattle.ode_value.specs.Changing.{added_as, added_by, changed_bones, changed_number}
use Rattle.ode_value.specs.GoodWorlds.{IsGood}
use Rattle.ode_value.specs.Language.{Language, ListWorld}
use Rattle.ode_value.specs.Lengths.{counters_length, stamp_length, value_length}
use Rattle.ode_value.specs.Records.{byte, spelled_value}
use Rattle.ode_value.specs.Weights.{added_weight, weight}
use Rattle.ode_value.specs.Worlds.{Declared}
use Rattle.ode_value.specs.declared.change.Added.{Added}
use Rattle.ode_value.specs.declared.change.Change.{Change}
use Rattle.ode_value.specs.declared.value.Value.{Value}
use Rattle.ode_value.specs.declared.value.Value.TheVariants as value

-- ---- the records of added fields

value-weighs : (v : Value) → length (spelled_value v) ≡ value_length v
value-weighs (value.Int n) = refl
value-weighs (value.Bool b) = refl
value-weighs (value.Text t) = omega (arith, length-append (byte 2 ++ to_be_bytes w16 (length t)) t)
value-weighs (value.Reference r) = refl

field-weighs : (classes : List Declared) (a : Added) → length (added_row classes a).1 ≡ 6 + length a.name + value_length a.value
field-weighs classes a =
    let n = byte (length a.name) in
    let s = byte (sort_number a.sort) in
    let r = u32 (referred classes a.sort) in
    let one = length-append (n ++ a.name ++ s ++ r) (spelled_value a.value) in
    let two = length-append (n ++ a.name ++ s) r in
    let three = length-append (n ++ a.name) s in
    let four = length-append n a.name in
    let literal = value-weighs a.value in
    omega (arith, one, two, three, four, literal)

fields-weigh : (classes : List Declared) (xs : List Added) → put_bytes (puts (map (added_row classes) xs)) ≡ sum_by added_weight xs
fields-weigh classes [] = refl
fields-weigh classes (a ∷ xs) =
    let here = field-weighs classes a in
    let rest = fields-weigh classes xs in
    omega (arith, here, rest, sum_by-cons added_weight a xs)

-- ---- their number

some-stamp : (n : ℕ) → 0 < n → stamp_length n ≡ 4
some-stamp zero some = absurd (omega (arith, some))
some-stamp (suc n) some = refl

counted-more : (k m : ℕ) → counters_length (k + m) ≡ counters_length k + count_more k m
counted-more k m = by (k == 0) (m == 0) refl refl
  where
    some-number : (n : ℕ) → (n == 0) ≡ false → 0 < n
    some-number n is = grind (arith, nat_tests, is)

    by : (s t : Bool) → (k == 0) ≡ s → (m == 0) ≡ t → counters_length (k + m) ≡ counters_length k + cond (s && not t) 4 0
    by true true first second =
        let none : k ≡ 0 = eqb-true k 0 first in
        let nothing : m ≡ 0 = eqb-true m 0 second in
        let same : k + m ≡ k = omega (arith, nothing) in
        let before = ap stamp_length same in
        omega (arith, before)
    by true false first second =
        let none : k ≡ 0 = eqb-true k 0 first in
        let some : 0 < m = some-number m second in
        let before : stamp_length k ≡ 0 = ap stamp_length none in
        let behind = some-stamp (k + m) (omega (arith, some)) in
        omega (arith, before, behind)
    by false t first second =
        let some : 0 < k = some-number k first in
        let before = some-stamp k some in
        let behind = some-stamp (k + m) (omega (arith, some)) in
        omega (arith, before, behind)

entered : {X : Type 0} (k : ℕ) (xs : List X) → length (enumerate_from k xs) ≡ length xs
entered k [] = refl
entered k (x ∷ xs) = ap suc (entered (k + 1) xs)

-- ---- the whole

pub changes-weigh : (l : Language) (w : ListWorld) (c : Change) (classes : List Declared) → IsGood l w → IsBehind l w.bones c classes
    → let cs = map class_of classes in
    weight (changed_bones w.bones c classes)
    ≡ weight w.bones + put_bytes (fields_put cs (new_in cs (length w.bones.added) c)) + count_more (length w.bones.added) (length c.fields)
changes-weigh l w c classes good is =
    let b = w.bones in
    let cs = map class_of classes in
    let new : List Added = added_by (changed_number b c) (length b.added) c in
    let all = weighs-anew b c classes is.behind (have-values b c classes b.objects good.bones.objects) in
    let put : put_bytes (fields_put cs (new_in cs (length b.added) c)) ≡ sum_by added_weight new = ap put_bytes (fields-are l b c classes is) ∙ fields-weigh classes new in
    let fields : length new ≡ length c.fields = length-map (enumerate_from (length b.added + 1) c.fields) (added_as (changed_number b c)) ∙ entered (length b.added + 1) c.fields in
    let long : length (b.added ++ new) ≡ length b.added + length c.fields = length-append b.added new ∙ ap (λ (n : ℕ). length b.added + n) fields in
    let counters : counters_length (length (b.added ++ new)) ≡ counters_length (length b.added) + count_more (length b.added) (length c.fields) =
    ap counters_length long ∙ counted-more (length b.added) (length c.fields) in
    omega (arith, all, put, counters)
