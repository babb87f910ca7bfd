-- What a declaration comes to.
use Rattle.std.proofs.Common.{◌≡◌, ◌≤◌, ◌+◌, ◌∙◌, ℕ, Bool, true, false, List, [], ◌∷◌, ◌++◌, map, length, Option, Some, None, Ok, Err, ap, sym, subst, arith, refl}
use Rattle.std.specs.Prelude.{nat_lt}
use Rattle.std.specs.List.{AllByRecursion, sum_by}
use Rattle.std.specs.Option.{IsSome, option_map_or}
use Rattle.std.proofs.lemmas.Bool.{ltb-false}
use Rattle.std.proofs.lemmas.List.Sums.{sum_by-append, sum_by-cons}
use Rattle.ode_accepted_laws.specs.Languages.{HasSoundRules}
use Rattle.ode_class_laws.proofs.GoodLaws.{found_more}
use Rattle.ode_class_laws.specs.Declaring.{bones_with}
use Rattle.ode_compile.proofs.TriggerLaws.{records_fewer}
use Rattle.ode_compile.specs.Compiling.{AreCompiled, compiled, size_of_table}
use Rattle.ode_compile.specs.declared.compiling.Compiled.{Compiled}
use Rattle.ode_declare.specs.Declaring.{Declares, IsMade}
use Rattle.ode_language.specs.Texts.{HasText}
use Rattle.ode_good_laws.proofs.GoodAgain.{HaveClasses}
use Rattle.ode_good_laws.specs.Well.{IsWell}
use Rattle.ode_good_runs.proofs.Declaring.{declared_is}
use Rattle.ode_good_runs.specs.Reading.{ReadsWell}
use Rattle.ode_heap_laws.specs.Few.{HasFewParams, HasFewParts}
use Rattle.ode_host.specs.Host.{Printed}
use Rattle.ode_host.specs.View.{View}
use Rattle.ode_keep.specs.Entries.{Entries}
use Rattle.ode_language.specs.Languages.{ode}
use Rattle.ode_machine.specs.Refusals.{classes_in, declared_in}
use Rattle.ode_machine.specs.Works.{declares}
use Rattle.ode_opened.specs.declared.opened.Opened.{Opened}
use Rattle.ode_transact.specs.Output.{heard}
use Rattle.ode_transact.specs.Resting.{IsAtRest}
use Rattle.ode_value.specs.Answers.{Answer, ◌>>=◌, ◌>>◌, checks, refuses}
use Rattle.ode_value.specs.ClassLimits.{limits_class, limits_triggers}
use Rattle.ode_value.specs.GoodWorlds.{IsGood, IsObject}
use Rattle.ode_value.specs.Language.{Language, ListWorld}
use Rattle.ode_value.specs.Lengths.{class_records, object_length}
use Rattle.ode_value.specs.Limits.{class_limit}
use Rattle.ode_value.specs.Pasts.{lists}
use Rattle.ode_value.specs.PrintedClasses.{decl_text}
use Rattle.ode_value.specs.Settling.{transaction}
use Rattle.ode_value.specs.Transactions.{Script}
use Rattle.ode_value.specs.Weights.{activation_weight, class_weight, object_weight, record_count, version_weight, weight}
use Rattle.ode_value.specs.Worlds.{Bones, Declared, Object, class_numbered}
use Rattle.ode_value.specs.declared.class.Class.{Class}
use Rattle.ode_value.specs.declared.reason.Refusal.{Refusal}
use Rattle.ode_value.specs.declared.reason.Refusal.TheVariants as refusal
use Rattle.ode_value.specs.declared.statement.ClassDecl.{ClassDecl}
use Rattle.ode_value.specs.declared.statement.Statement.TheVariants as statement

-- both parts of an answer that isn't refused
both_ok : {R S : Type 0} (m : Answer R) (next : R → Answer S) (s : S) → m >>= next ≡ Ok s → (r : R) × (m ≡ Ok r) × (next r ≡ Ok s)
both_ok (Ok r) next s h = (r, refl, h)
both_ok (Err e) next s h = absurd (cc)

not_refused : (b : Bool) (why : Refusal) (u : Unit {0}) → refuses b why ≡ Ok u → b ≡ false
not_refused true why u h = absurd (cc)
not_refused false why u h = refl

-- a class within the limits has few records
pub few_records : (c : Declared) → limits_class c ≡ Ok c → record_count c ≤ class_limit
few_records c h =
    let count = record_count c in
    let first = both_ok (limits_triggers c.class.triggers) (λ _. refuses (nat_lt class_limit count) (refusal.ClassTooLarge count) >> Ok c) c h in
    let second = both_ok (refuses (nat_lt class_limit count) (refusal.ClassTooLarge count)) (λ _. Ok c) c first.2 in
    ltb-false class_limit count (not_refused (nat_lt class_limit count) (refusal.ClassTooLarge count) second.0 second.1)

-- a compiled one is within them
limits_kept : (k c : Declared) → limits_class k ≡ Ok c → limits_class c ≡ Ok c
limits_kept k c h =
    let count = record_count k in
    let first = both_ok (limits_triggers k.class.triggers) (λ _. refuses (nat_lt class_limit count) (refusal.ClassTooLarge count) >> Ok k) c h in
    let second = both_ok (refuses (nat_lt class_limit count) (refusal.ClassTooLarge count)) (λ _. Ok k) c first.2 in
    let same : k ≡ c = cc (second.2) in
    subst (λ (d : Declared). limits_class d ≡ Ok c) same h

pub limits_of : (known : List Class) (d : ClassDecl) (c : Declared) → compiled known d ≡ Ok c → limits_class c ≡ Ok c
limits_of known d c h =
    let first = both_ok (checks (ode.class_of known [] d)) (λ (k : Class). limits_class (record { class = k; tree = d })) c h in
    limits_kept (record { class = first.0; tree = d }) c first.2

-- the machine declares what is compiled
pub declares_compiled : (b : Bones) (known : List Class) (d : ClassDecl) → known ≡ classes_in b → declared_in ode b d ≡ compiled known d
declares_compiled b known d same = ap (λ (cs : List Class). compiled cs d) (sym same)

-- an object by its class
abbrev weighing : Object → Option Class → ℕ
weighing o found = object_length + sum_by (version_weight (option_map_or (λ (k : Class). k.fields) found [])) o.versions + sum_by activation_weight o.activations

-- where that is there, the object weighs as much with a class more
object_same : (cs : List Declared) (c : Declared) (o : Object) → IsSome (class_numbered o.class cs) → object_weight (cs ++ c ∷ []) o ≡ object_weight cs o
object_same cs c o known = by_class (class_numbered o.class cs) refl known where
  by_class : (found : Option Class) → class_numbered o.class cs ≡ found → IsSome found → object_weight (cs ++ c ∷ []) o ≡ object_weight cs o
  by_class None is some = absurd (cc)
  by_class (Some k) is some = ap (weighing o) (found_more o.class cs (c ∷ []) k is) ∙ ap (weighing o) (sym is)

objects_same : (b : Bones) (c : Declared) (os : List Object) → AllByRecursion (IsObject b) os → sum_by (object_weight (b.classes ++ c ∷ [])) os ≡ sum_by (object_weight b.classes) os
objects_same b c [] are = refl
objects_same b c (o ∷ os) are =
    omega (
      arith,
      sum_by-cons (object_weight (b.classes ++ c ∷ [])) o os,
      sum_by-cons (object_weight b.classes) o os,
      object_same b.classes c o are.0.class,
      objects_same b c os are.1,
    )

-- what a good world weighs with a class more
pub more_weighs : (l : Language) (w : ListWorld) (c : Declared) → IsGood l w → weight (bones_with c w.bones) ≡ weight w.bones + class_weight c
unfolding weight
more_weighs l w c good =
    let all = sum_by-append class_weight w.bones.classes (c ∷ []) in
    let one = sum_by-cons class_weight c [] in
    let objects = objects_same w.bones c w.bones.objects good.bones.objects in
    omega (arith, all, one, objects)

-- one answer is one class
same_declared : (m : Answer Declared) (c d : Declared) → m ≡ Ok c → m ≡ Ok d → c ≡ d
same_declared (Ok k) c d first second =
    let one : k ≡ c = cc (first) in
    let two : k ≡ d = cc (second) in
    sym one ∙ two
same_declared (Err why) c d first second = absurd (cc (first))

-- a declared class isn't refused
pub none_refused : {X : Type 0} (m : Answer Declared) (c : Declared) (why : Refusal) → m ≡ Ok c → m ≡ Err why → X
none_refused m c why declared refused = absurd (cc (declared, refused))

module _ (known : List Class) (d : ClassDecl) (made : Compiled) (answers : compiled known d ≡ Ok (record { class = made.class; tree = d })) (printed : made.text ≡ decl_text d) where
  abbrev pub own : Declared
  own = record { class = made.class; tree = d }

  -- its records are few
  pub few_made : AreCompiled made.class.triggers made.tables made.alphabets → class_records (length made.text) (map size_of_table made.tables) ≤ class_limit
  few_made all =
      let few : record_count own ≤ class_limit = few_records own (limits_of known d own answers) in
      let fewer = records_fewer made.class d made.text made.tables made.alphabets printed all in
      omega (arith, few, fewer)

  module _ (w : ListWorld) (same : known ≡ classes_in w.bones) where
    -- the machine declares it
    pub meant : declared_in ode w.bones d ≡ Ok own
    meant = declares_compiled w.bones known d same ∙ answers

    pub made_is : HasSoundRules ode → ReadsWell ode → HaveClasses ode w.bones.classes w.bones.added → HasText ode (statement.Class d) → HasFewParts own → IsMade ode w own made
    made_is rules reads all text few = record {
      is = declared_is ode rules reads text.0 d text.1 w.bones own all meant;
      few = few;
      class = refl;
      text = sym printed;
    }

    -- whatever it calls the class
    pub made_as : HasSoundRules ode → ReadsWell ode → HaveClasses ode w.bones.classes w.bones.added → HasText ode (statement.Class d) → (AllByRecursion HasFewParams made.class.triggers → HasFewParts own) → (c : Declared) → declared_in ode w.bones d ≡ Ok c → AllByRecursion HasFewParams c.class.triggers → IsMade ode w c made
    made_as rules reads all text parts c is =
        subst (λ (k : Declared). AllByRecursion HasFewParams k.class.triggers → IsMade ode w k made) (same_declared (declared_in ode w.bones d) own c meant is)
        (λ few. made_is rules reads all text (parts few))

module _ {H K : Type 0} (seen : H → View) (held : K → View → Entries → Type 0) (live : K → Bool) (w : ListWorld) (d : ClassDecl) (after : Opened K) (quiet : Bool) (old new : H) where
  -- what is left where a class is declared
  abbrev pub LeavesDeclared : Declared → Type 0
  LeavesDeclared c =
      AllByRecursion HasFewParams c.class.triggers → let s = transaction lists Script (declares c) w in
      IsWell ode s.0 → IsAtRest seen held live ode s.0 after new × Printed (heard quiet s.1) (seen old) (seen new)

  pub declares_made : (c : Declared) → declared_in ode w.bones d ≡ Ok c → LeavesDeclared c → Declares (declared_in ode w.bones d) None (IsAtRest seen held live ode w after new) LeavesDeclared
  declares_made c is done = subst (λ (m : Answer Declared). Declares m None (IsAtRest seen held live ode w after new) LeavesDeclared) (sym is) done

  pub declares_refused : (why : Refusal) → declared_in ode w.bones d ≡ Err why → IsAtRest seen held live ode w after new → Declares (declared_in ode w.bones d) (Some why) (IsAtRest seen held live ode w after new) LeavesDeclared
  declares_refused why is same = subst (λ (m : Answer Declared). Declares m (Some why) (IsAtRest seen held live ode w after new) LeavesDeclared) (sym is) (refl, same)

-- a declaration's answer, in other words
pub declares_so : (m : Answer Declared) (c : Declared) (P : Type 0) (Q : Declared → Type 0) → m ≡ Ok c → Q c → Declares m None P Q
declares_so m c P Q is holds = subst (λ (a : Answer Declared). Declares a None P Q) (sym is) holds

pub refuses_so : (m : Answer Declared) (why : Refusal) (P : Type 0) (Q : Declared → Type 0) → m ≡ Err why → P → Declares m (Some why) P Q
refuses_so m why P Q is holds = subst (λ (a : Answer Declared). Declares a (Some why) P Q) (sym is) (refl, holds)
