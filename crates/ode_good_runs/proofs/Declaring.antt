-- The declaration of a class leaves a good world.
use Rattle.std.proofs.Common.{◌≡◌, ◌≤◌, ◌<◌, ◌+◌, ℕ, Bool, true, false, cond, List, [], ◌∷◌, ◌++◌, map, length, Option, Some, None, Result, Ok, Err, refl, sym, ap, ◌∙◌, subst, arith, append_assoc}
use Rattle.std.specs.Prelude.{◌==◌, nat_le, nat_lt}
use Rattle.std.specs.List.{AllByRecursion}
use Rattle.std.specs.Option.{IsSome}
use Rattle.std.specs.Str.{bytes_eq}
use Rattle.std.proofs.lemmas.Bool.{eqb-true}
use Rattle.std.proofs.lemmas.Bool.Decides.{nat_tests}
use Rattle.std.proofs.lemmas.List.{length-append, map-append, length-map}
use Rattle.ode_value.specs.declared.change.Added.{Added}
use Rattle.ode_value.specs.declared.class.Class.{Class}
use Rattle.ode_value.specs.declared.reason.CheckError.{CheckError}
use Rattle.ode_value.specs.declared.reason.Reason.{Reason}
use Rattle.ode_value.specs.declared.reason.Reason.TheVariants.{Output, Space}
use Rattle.ode_value.specs.declared.reason.Refusal.TheVariants as refusal
use Rattle.ode_value.specs.declared.statement.ClassDecl.{ClassDecl}
use Rattle.ode_value.specs.declared.statement.Sort.{Sort}
use Rattle.ode_value.specs.declared.statement.Sort.TheVariants as sort
use Rattle.ode_value.specs.declared.statement.Statement.TheVariants as statement
use Rattle.ode_value.specs.Acts.{Done, Aborted, go_on, does, with_line}
use Rattle.ode_value.specs.Answers.{checks}
use Rattle.ode_value.specs.Changing.{added_to}
use Rattle.ode_value.specs.ClassLimits.{limits_triggers, limits_class}
use Rattle.ode_value.specs.Completing.{completes}
use Rattle.ode_value.specs.GoodWorlds.{AreAdded, AreClasses, IsClass, IsGood, IsKnownSort, RiseFrom}
use Rattle.ode_value.specs.Keeping.{kept_bones}
use Rattle.ode_value.specs.Language.{Language, ListWorld}
use Rattle.ode_value.specs.Limits.{class_limit, output_limit, transaction_limit, weight_limit}
use Rattle.ode_value.specs.Pasts.{lists}
use Rattle.ode_value.specs.Settling.{posted, commit, abort, settle, transaction}
use Rattle.ode_value.specs.Texts.{class_line}
use Rattle.ode_value.specs.Transactions.{Script, begun}
use Rattle.ode_value.specs.Weights.{weight, record_count}
use Rattle.ode_value.specs.Worlds.{Declared, Bones, class_named, class_numbered}
use Rattle.ode_machine.specs.Refusals.{classes_in, declared_in}
use Rattle.ode_machine.specs.Works.{declares}
use Rattle.ode_accepted_laws.specs.Languages.{AreAccepted, HasSoundRules}
use Rattle.ode_laws.proofs.BornLaws.{classes_born}
use Rattle.ode_laws.proofs.Numbers.{apart}
use Rattle.ode_run_laws.proofs.AlikeClasses.{more_classes, more_found, declared, printable, completes_weighs}
use Rattle.ode_sound_laws.specs.Sound.{AreSound, checked_classes}
use Rattle.ode_sound_laws.specs.Typed.{AreFromOne}
use Rattle.ode_sound_runs.specs.Adding.{AddsSoundly}
use Rattle.ode_sound_runs.proofs.AddLaws.{class_added}
use Rattle.ode_good_laws.specs.Well.{IsWell}
use Rattle.ode_good_laws.proofs.GoodAgain.{HaveClasses, good_classes}
use Rattle.ode_good_runs.specs.Reading.{ReadsWell}
use Rattle.ode_good_runs.proofs.Going.{IsFirst, begun_going, line_going, settles_well, well_first}
use Rattle.ode_good_runs.proofs.Literals.{then_answer, then_ok, ok_same}

-- ---- good classes are accepted, and their numbers are the places

pub classes_accepted : (l : Language) (added : List Added) (earlier cs : List Declared) → AreClasses l added earlier cs → AreAccepted l added (checked_classes earlier) cs
classes_accepted l added earlier [] all = tt
classes_accepted l added earlier (c ∷ cs) all = (
  all.0.checked,
  subst (λ es. AreAccepted l added es cs) (map-append (λ (d : Declared). d.class) earlier (c ∷ [])) (classes_accepted l added (earlier ++ c ∷ []) cs all.1),
)

pub classes_more : (l : Language) (added : List Added) (earlier cs : List Declared) (c : Declared) → AreClasses l added earlier cs → IsClass l added (earlier ++ cs) c → AreClasses l added earlier (cs ++ c ∷ [])
classes_more l added earlier [] c all is = (subst (λ es. IsClass l added es c) (none_behind earlier) is, tt) where
  none_behind : (es : List Declared) → es ++ [] ≡ es
  none_behind [] = refl
  none_behind (e ∷ es) = ap (λ l. e ∷ l) (none_behind es)
classes_more l added earlier (d ∷ cs) c all is =
    (all.0, classes_more l added (earlier ++ d ∷ []) cs c all.1 (subst (λ es. IsClass l added es c) (sym (append_assoc earlier (d ∷ []) cs)) is))

-- what is known by its name stays so where a class is declared
named_more : (cs : List Declared) (c : Declared) (name : List ℕ) → IsSome (class_named name cs) → IsSome (class_named name (cs ++ c ∷ []))
named_more [] c name some = absurd (cc)
named_more (d ∷ cs) c name some = by_test (bytes_eq d.class.name name) some (named_more cs c name) where
  by_test : (t : Bool) → IsSome (cond t (Some d.class) (class_named name cs)) → (IsSome (class_named name cs) → IsSome (class_named name (cs ++ c ∷ []))) → IsSome (cond t (Some d.class) (class_named name (cs ++ c ∷ [])))
  by_test true is rest = refl
  by_test false is rest = rest is

sort_more : (cs : List Declared) (c : Declared) (s : Sort) → IsKnownSort cs s → IsKnownSort (cs ++ c ∷ []) s
sort_more cs c (sort.Reference name) known = named_more cs c name known
sort_more cs c sort.Int known = tt
sort_more cs c sort.Bool known = tt
sort_more cs c sort.Text known = tt
sort_more cs c sort.Void known = tt

-- so do added fields
pub added_more : (cs : List Declared) (c : Declared) (birth : ℕ) (added : List Added) → AreAdded cs birth added → AreAdded (cs ++ c ∷ []) birth added
added_more cs c birth [] all = tt
added_more cs c birth (a ∷ added) all =
    (all.0, record { class = some_more (class_numbered a.class cs) refl all.1.class; name = all.1.name; sort = sort_more cs c a.sort all.1.sort; literal = all.1.literal }, added_more cs c (birth + 1) added all.2) where
      some_more : (m : Option Class) → class_numbered a.class cs ≡ m → IsSome m → IsSome (class_numbered a.class (cs ++ c ∷ []))
      some_more (Some k) at some = subst IsSome (sym (more_found a.class cs (c ∷ []) k at)) refl
      some_more None at some = absurd (cc)

not_there : (m : Option Class) → m ≡ None → IsSome m → ⊥
not_there None is some = absurd (cc)
not_there (Some k) is some = absurd (cc)

-- a class that isn't known has none
none_added : (cs : List Declared) (number birth : ℕ) (added : List Added) → AreAdded cs birth added → class_numbered number cs ≡ None → added_to number added ≡ []
none_added cs number birth [] all new = refl
none_added cs number birth (a ∷ added) all new = by_test (a.class == number) (eqb-true a.class number) (none_added cs number (birth + 1) added all.2 new) where
  by_test : (t : Bool) → (t ≡ true → a.class ≡ number) → added_to number added ≡ [] → cond t (a ∷ added_to number added) (added_to number added) ≡ []
  by_test true same rest = absurd (not_there (class_numbered number cs) new (subst (λ n. IsSome (class_numbered n cs)) (same refl) all.1.class))
  by_test false same rest = rest

-- their numbers are below the next one
numbers_below : (l : Language) (added : List Added) (earlier cs : List Declared) → AreClasses l added earlier cs → AllByRecursion (λ (d : Declared). d.class.number < length earlier + length cs + 1) cs
numbers_below l added earlier [] all = tt
numbers_below l added earlier (c ∷ cs) all =
    let number : c.class.number ≡ length earlier + 1 = all.0.number in
    let longer : length (earlier ++ c ∷ []) ≡ length earlier + 1 = length-append earlier (c ∷ []) in
    let same : length (earlier ++ c ∷ []) + length cs + 1 ≡ length earlier + length (c ∷ cs) + 1 = omega (arith, longer) in
    (omega (arith, number), subst (λ n. AllByRecursion (λ (d : Declared). d.class.number < n) cs) same (numbers_below l added (earlier ++ c ∷ []) cs all.1))

-- and rise
numbers_rise : (l : Language) (added : List Added) (earlier cs : List Declared) → AreClasses l added earlier cs → RiseFrom (length earlier + 1) (map (λ (d : Declared). d.class.number) cs)
numbers_rise l added earlier [] all = tt
numbers_rise l added earlier (c ∷ cs) all =
    let number : c.class.number ≡ length earlier + 1 = all.0.number in
    let longer : length (earlier ++ c ∷ []) ≡ length earlier + 1 = length-append earlier (c ∷ []) in
    let next : length (earlier ++ c ∷ []) + 1 ≡ c.class.number + 1 = omega (arith, longer, number) in
    (omega (arith, number), subst (λ n. RiseFrom n (map (λ (d : Declared). d.class.number) cs)) next (numbers_rise l added (earlier ++ c ∷ []) cs all.1))

-- a number above them all is none of theirs
none_of : (n : ℕ) (cs : List Declared) → AllByRecursion (λ (d : Declared). d.class.number < n) cs → class_numbered n cs ≡ None
none_of n [] all = refl
none_of n (d ∷ ds) all = ap (λ b. cond b (Some d.class) (class_numbered n ds)) (apart d.class.number n all.0) ∙ none_of n ds all.1

lower_numbers : (n : ℕ) (cs : List Declared) → AllByRecursion (λ (d : Declared). d.class.number < n) cs → AllByRecursion (λ m. m < n) (map (λ (d : Declared). d.class.number) cs)
lower_numbers n [] all = tt
lower_numbers n (d ∷ ds) all = (all.0, lower_numbers n ds all.1)

rise_zero : (low : ℕ) (ns : List ℕ) → RiseFrom low ns → RiseFrom 0 ns
rise_zero low [] rise = tt
rise_zero low (n ∷ ns) rise = (omega arith, rise.1)

-- a good world is one of sound classes
pub good_sound : (l : Language) → HasSoundRules l → (w : ListWorld) → IsGood l w → AreSound w.bones.classes
good_sound l rules w good = rules.accepted w.bones.added w.bones.classes (classes_accepted l w.bones.added [] w.bones.classes good.bones.classes)

pub well_of : (l : Language) → HasSoundRules l → (w : ListWorld) → IsGood l w → AreFromOne w.bones → IsWell l w
well_of l rules w good ones = record { good = good; sound = good_sound l rules w good; ones = ones }

-- ---- a class that is declared

module _ (l : Language) (rules : HasSoundRules l) where
  limited : (k c : Declared) → limits_class k ≡ Ok c → k ≡ c
  limited k c f =
      let triggers = then_ok (limits_triggers k.class.triggers) (λ u. then_answer (cond (nat_lt class_limit (record_count k)) (Err (refusal.ClassTooLarge (record_count k))) (Ok tt)) (λ u. Ok k)) c f in
      let records = then_ok (cond (nat_lt class_limit (record_count k)) (Err (refusal.ClassTooLarge (record_count k))) (Ok tt)) (λ u. Ok k) c triggers.2 in
      ok_same k c records.2

  -- all numbers are below the one behind them, which none of them has
  none_next : (added : List Added) (cs : List Declared) → AreClasses l added [] cs → (n : ℕ) → n ≡ length cs + 1 → class_numbered n cs ≡ None
  none_next added cs all n is =
      let next : 0 + length cs + 1 ≡ n = omega (arith, is) in
      none_of n cs (subst (λ m. AllByRecursion (λ (d : Declared). d.class.number < m) cs) next (numbers_below l added [] cs all))

  -- a class that was read and is declared is one behind those of a world
  pub declared_is : ReadsWell l → (piece : List ℕ) (d : ClassDecl) → l.statement_of piece ≡ Ok (statement.Class d) → (b : Bones) (c : Declared) → HaveClasses l b.classes b.added → declared_in l b d ≡ Ok c
      → IsClass l b.added b.classes c
  declared_is reads piece d read b c all e = by_check (l.class_of (classes_in b) [] d) refl e where
    is : (k : Class) → l.class_of (classes_in b) [] d ≡ Ok k → limits_class (record { class = k; tree = d }) ≡ Ok (record { class = k; tree = d }) → IsClass l b.added b.classes (record { class = k; tree = d })
    is k checked limits =
        let numbered = rules.numbered (classes_in b) [] d k checked in
        let number : k.number ≡ length b.classes + 1 = numbered.0 ∙ ap (λ n. n + 1) (length-map b.classes (λ (c : Declared). c.class)) in
        let none : added_to k.number b.added ≡ [] = none_added b.classes k.number 1 b.added all.births (none_next b.added b.classes all.classes k.number number) in
        record {
          number = number;
          low = numbered.1;
          text = reads.again piece d read;
          checked = ap (λ own. l.class_of (classes_in b) own d) none ∙ checked;
          limits = limits;
          fields = rules.fields (length b.added) (classes_in b) [] d k (classes_born l b.added [] b.classes all.classes) tt checked;
        }

    by_check : (r : Result Class CheckError) → l.class_of (classes_in b) [] d ≡ r → then_answer (checks r) (λ k. limits_class (record { class = k; tree = d })) ≡ Ok c → IsClass l b.added b.classes c
    by_check (Ok k) checked f =
        let same : record { class = k; tree = d } ≡ c = limited (record { class = k; tree = d }) c f in
        subst (IsClass l b.added b.classes) same (is k checked (subst (λ x. limits_class (record { class = k; tree = d }) ≡ Ok x) (sym same) f))
    by_check (Err error) checked f = absurd (cc)

  module _ (w : ListWorld) (h : IsWell l w) (left : w.bones.transaction < transaction_limit) (c : Declared) (is : IsClass l w.bones.added w.bones.classes c) where
    old_classes : HaveClasses l w.bones.classes w.bones.added
    old_classes = good_classes l w.bones h.good.bones

    classes : HaveClasses l (w.bones.classes ++ c ∷ []) w.bones.added
    classes = record {
      classes = classes_more l w.bones.added [] w.bones.classes c old_classes.classes is;
      births = added_more w.bones.classes c 1 w.bones.added old_classes.births;
      few = old_classes.few;
    }

    pub adds : AddsSoundly w.bones c
    adds = record {
      sound = rules.accepted w.bones.added (w.bones.classes ++ c ∷ []) (classes_accepted l w.bones.added [] (w.bones.classes ++ c ∷ []) classes.classes);
      new = none_next w.bones.added w.bones.classes old_classes.classes c.class.number is.number;
      born = is.fields;
    }

    -- the world with the class, and the transaction that has declared it, as one from that world
    abbrev with_class : ListWorld
    with_class = record w { bones = more_classes c w.bones }

    old : IsFirst w
    old = well_first l w h

    first : IsFirst with_class
    first = record {
      typed = class_added w.bones c old.typed adds;
      ordered = record { numbered = old.ordered.numbered; versions = old.ordered.versions; live = old.ordered.live };
      numbered = record { classes = rise_zero 1 (map (λ (d : Declared). d.class.number) (w.bones.classes ++ c ∷ [])) (numbers_rise l w.bones.added [] (w.bones.classes ++ c ∷ []) classes.classes); rising = old.numbered.rising; objects = old.numbered.objects };
      counted = record { next = old.counted.next; next_entry = old.counted.next_entry; few = old.counted.few; rising = old.counted.rising; queue = old.counted.queue; lasts = old.counted.lasts };
      distinct = record { distinct = old.distinct.distinct; drawn = old.distinct.drawn };
      pasts = old.pasts;
    }

    abbrev line : List ℕ
    line = class_line c.class.name

    same_commit : (commit lists (with_line line (declared c w))).0 ≡ (commit lists (with_line line (begun Script with_class))).0
    unfolding posted
    same_commit = refl

    same_abort : (reason : Reason) → (abort lists reason (with_line line (declared c w))).0 ≡ (abort lists reason (with_line line (begun Script w))).0
    unfolding posted
    same_abort reason = refl

    same_first : (abort lists Output (declared c w)).0 ≡ (abort lists Output (begun Script w)).0
    unfolding posted
    same_first = refl

    light_by : (m n : ℕ) → nat_le m n ≡ true → m ≤ n
    light_by m n e = grind (arith, nat_tests)

    by_weight : nat_le (length (declared c w).text + length line) output_limit ≡ true → (t : Bool) → nat_le (weight (kept_bones (more_classes c w.bones))) weight_limit ≡ t
        → IsWell l (settle lists (cond t (Done tt (with_line line (declared c w))) (Aborted Space (with_line line (declared c w))))).0
    by_weight fits true e =
        subst (IsWell l) (sym same_commit)
        (settles_well with_class first l classes left h.good.bones.clock (Done tt (with_line line (begun Script with_class))) (line_going with_class first (begun Script with_class) (begun_going with_class first) line fits)
        (light_by (weight (kept_bones (more_classes c w.bones))) weight_limit e))
    by_weight fits false e =
        subst (IsWell l) (sym (same_abort Space))
        (settles_well w old l old_classes left h.good.bones.clock (Aborted Space (with_line line (begun Script w))) (line_going w old (begun Script w) (begun_going w old) line fits) h.good.bones.light)

    by_room : (t : Bool) → nat_le (length (declared c w).text + length line) output_limit ≡ t → IsWell l (settle lists (go_on (go_on (printable t (declared c w)) (λ _. does (with_line line))) (λ _. completes lists))).0
    by_room true fits = subst (λ o. IsWell l (settle lists o).0) (sym (completes_weighs lists c line w)) (by_weight fits (nat_le (weight (kept_bones (more_classes c w.bones))) weight_limit) refl)
    by_room false fits = subst (IsWell l) (sym same_first) (settles_well w old l old_classes left h.good.bones.clock (Aborted Output (begun Script w)) (begun_going w old) h.good.bones.light)

    pub class_well : IsWell l (transaction lists Script (declares c) w).0
    unfolding transaction
    class_well = by_room (nat_le (length (declared c w).text + length line) output_limit) refl
