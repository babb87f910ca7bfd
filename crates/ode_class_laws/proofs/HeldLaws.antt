-- Records that hold a world hold it with one more class.
use Rattle.std.proofs.Common.{◌≡◌, ◌<◌, ◌≤◌, ◌^◌, Bool, true, false, List, [], ◌∷◌, length, map, Ok, Err, refl, sym, ap, ◌∙◌, subst, arith}
use Rattle.std.specs.Prelude.{nat_lt}
use Rattle.std.specs.List.{AllByRecursion, sum_by}
use Rattle.std.specs.Option.{IsSome}
use Rattle.std.proofs.lemmas.Bool.{ltb-false}
use Rattle.std.proofs.lemmas.List.Sums.{sum_by-cons}
use Rattle.ode_codec.specs.Standing.{HoldsWorld}
use Rattle.ode_codec.specs.StoredRows.{Stored, rows}
use Rattle.ode_compile.specs.Compiling.{AreCompiled, size_of_table}
use Rattle.ode_compile.proofs.TriggerLaws.{tables_fewer}
use Rattle.ode_keep.specs.Entries.{applied}
use Rattle.ode_laws.proofs.Each.{all-then}
use Rattle.ode_laws.proofs.GoodNumbers.{good_numbered}
use Rattle.ode_value.specs.Answers.{Answer, ◌>>=◌, ◌>>◌, refuses}
use Rattle.ode_value.specs.ClassLimits.{limits_class, limits_triggers}
use Rattle.ode_value.specs.GoodWorlds.{AreAdded, IsClass, IsObject}
use Rattle.ode_value.specs.Language.{Language, ListWorld}
use Rattle.ode_value.specs.Lengths.{class_records, table_records}
use Rattle.ode_value.specs.Limits.{class_limit, weight_limit}
use Rattle.ode_value.specs.PrintedClasses.{decl_text}
use Rattle.ode_value.specs.Records.{Row}
use Rattle.ode_value.specs.Symbols.{Alphabet}
use Rattle.ode_value.specs.Tables.{Table}
use Rattle.ode_value.specs.Weights.{record_count, table_size, weight}
use Rattle.ode_value.specs.Worlds.{Bones, Declared, Object, class_numbered}
use Rattle.ode_value.specs.declared.member.TriggerDecl.{TriggerDecl}
use Rattle.ode_value.specs.declared.reason.Refusal.{Refusal}
use Rattle.ode_value.specs.declared.reason.Refusal.TheVariants as refusal
use Rattle.ode_class_records.specs.ClassRows.{IsSized, class_rows}
use Rattle.ode_class_records.specs.Puts.{puts}
use Rattle.ode_class_records.proofs.PieceLaws.{sized_by}
use Rattle.ode_class_laws.specs.Declaring.{AreOf, bones_with, stored_with, world_with}
use Rattle.ode_class_laws.proofs.GoodLaws.{classes_before, good_with}
use Rattle.ode_class_laws.proofs.Stands.{as_many, stands_with}
use Rattle.ode_class_laws.proofs.StoredLaws.{class_stored}

-- both parts of an answer that isn't refused
both_ok : {R S : Type 0} (m : Answer R) (next : R → Answer S) (s : S) → m >>= next ≡ Ok s → (r : R) × (m ≡ Ok r) × (next r ≡ Ok s)
both_ok (Ok r) next s h = (r, refl, h)
both_ok (Err e) next s h = absurd (cc)

not_refused : (b : Bool) (why : Refusal) (u : Unit {0}) → refuses b why ≡ Ok u → b ≡ false
not_refused true why u h = absurd (cc)
not_refused false why u h = refl

-- a class within the limits has few records
few_of_limits : (c : Declared) → limits_class c ≡ Ok c → record_count c ≤ class_limit
few_of_limits c h =
    let count = record_count c in
    let first = both_ok (limits_triggers c.class.triggers) (λ _. refuses (nat_lt class_limit count) (refusal.ClassTooLarge count) >> Ok c) c h in
    let second = both_ok (refuses (nat_lt class_limit count) (refusal.ClassTooLarge count)) (λ _. Ok c) c first.2 in
    ltb-false class_limit count (not_refused (nat_lt class_limit count) (refusal.ClassTooLarge count) second.0 second.1)

sized_of_few : (ts : List TriggerDecl) (own : List Table) (alphabets : List Alphabet) → AreCompiled ts own alphabets
    → sum_by table_records (map size_of_table own) < 2 ^ 16 → AllByRecursion IsSized own
sized_of_few [] [] alphabets all few = tt
sized_of_few [] (x ∷ xs) alphabets all few = absurd all
sized_of_few (t ∷ ts) [] alphabets all few = absurd all
sized_of_few (t ∷ ts) (x ∷ xs) [] all few = absurd all
sized_of_few (t ∷ ts) (x ∷ xs) (rows ∷ more) all few =
    let sum = sum_by-cons table_records (size_of_table x) (map size_of_table xs) in
    (sized_by x all.0.whole (omega (arith, sum, few)), sized_of_few ts xs more all.1 (omega (arith, sum, few)))

own_sized : (c : Declared) (own : List Table) (alphabets : List Alphabet) → AreCompiled c.class.triggers own alphabets → limits_class c ≡ Ok c → AllByRecursion IsSized own
unfolding record_count class_limit
own_sized c own alphabets all limits =
    let few : class_records (length (decl_text c.tree)) (map table_size c.class.triggers) ≤ class_limit = few_of_limits c limits in
    let fewer = tables_fewer c.class.triggers own alphabets all in
    sized_of_few c.class.triggers own alphabets all (omega (arith, few, fewer))

pub class_held : (l : Language) (records : List Row) (w : ListWorld) (held : HoldsWorld l records w) (c : Declared) (own : List Table) (alphabets : List Alphabet)
    → IsClass l w.bones.added w.bones.classes c → AreCompiled c.class.triggers own alphabets → weight (bones_with c w.bones) ≤ weight_limit
    → (after : HoldsWorld l (applied (puts (class_rows (stored_with c own held.stored).tables c)) records) (world_with c w)) × (after.stored ≡ stored_with c own held.stored)
class_held l records w held c own alphabets is made light =
    let s : Stored = held.stored in
    let before = classes_before l w.bones.added w.bones.classes c held.good.bones.classes is in
    let stored_before = subst (λ b. AllByRecursion (λ (d : Declared). d.class.number < c.class.number) b.classes) (sym held.stands.bones) before in
    let known : AreOf w.bones.classes w.bones.objects =
    all-then (IsObject w.bones) (λ (o : Object). IsSome (class_numbered o.class w.bones.classes)) (λ o object. object.class) w.bones.objects held.good.bones.objects in
    let stored_known = subst (λ (b : Bones). AreOf b.classes b.objects) (sym held.stands.bones) known in
    let added = subst (λ (b : Bones). AreAdded b.classes 1 b.added) (sym held.stands.bones) held.good.bones.added in (
      record {
        stored = stored_with c own s;
        rows =
            ap (applied (puts (class_rows (stored_with c own s).tables c))) held.rows
            ∙ class_stored s c own (as_many c.class.triggers own alphabets made) (own_sized c own alphabets made is.limits) stored_before stored_known added;
        stands = stands_with s.tables s.world w c own alphabets held.stands (good_numbered l w held.good) before made;
        good = good_with l w c held.good is light;
      },
      refl,
    )
