-- What is built of classes: of one that is accepted, and of one behind others.
use Rattle.std.proofs.Common.{◌≡◌, ◌≤◌, ℕ, List, [], ◌∷◌, ◌++◌, map, length, Bool, true, false, Ok, Err, refl, sym, subst, ◌∙◌, arith, ap}
use Rattle.std.specs.Prelude.{nat_lt}
use Rattle.std.specs.List.{AllByRecursion, sum_by}
use Rattle.std.proofs.lemmas.Bool.Decides.{nat_tests}
use Rattle.std.proofs.lemmas.Grind.{flat_map-append}
use Rattle.std.proofs.lemmas.List.{append-nil, map-append}
use Rattle.std.proofs.lemmas.List.Sums.{sum_by-cons}
use Rattle.ode_compile.specs.Compiling.{AreCompiled, compiled_grown, tree_counts}
use Rattle.ode_compile.specs.declared.compiling.Compiled.{Compiled}
use Rattle.ode_opening.specs.Building.{AreBuilt, HasFewTriggers, IsBuilt, triggers_of}
use Rattle.ode_opening.specs.declared.accepted.Accepted.{Accepted}
use Rattle.ode_types.specs.Static.{check_grown}
use Rattle.ode_value.specs.Answers.{Answer, ◌>>◌, ◌>>=◌, checks, refuses}
use Rattle.ode_value.specs.ClassLimits.{limits_class, limits_triggers}
use Rattle.ode_value.specs.Lengths.{table_records}
use Rattle.ode_value.specs.Limits.{class_limit}
use Rattle.ode_value.specs.Symbols.{Alphabet}
use Rattle.ode_value.specs.Tables.{Table}
use Rattle.ode_value.specs.TreeCount.{tree_count}
use Rattle.ode_value.specs.Weights.{record_count, table_size}
use Rattle.ode_value.specs.Worlds.{Declared}
use Rattle.ode_value.specs.declared.change.Added.{Added}
use Rattle.ode_value.specs.declared.class.Class.{Class}
use Rattle.ode_value.specs.declared.member.TriggerDecl.{TriggerDecl}
use Rattle.ode_value.specs.declared.reason.Refusal.TheVariants as refusal
use Rattle.ode_value.specs.declared.statement.ClassDecl.{ClassDecl}

-- ---- one class

-- each table has a record at least
many_records : (ts : List TriggerDecl) → length ts ≤ sum_by table_records (map table_size ts)
many_records [] = omega arith
many_records (t ∷ ts) = omega (arith, many_records ts, sum_by-cons table_records (table_size t) (map table_size ts))

few_by : (c : Declared) → record_count c ≤ class_limit → HasFewTriggers c.class
unfolding record_count class_limit
few_by c few = omega (arith, few, many_records c.class.triggers)

-- a class within the limits has few triggers
within_limits : (c x : Declared) → limits_class c ≡ Ok x → HasFewTriggers x.class
within_limits c x is = by (limits_triggers c.class.triggers) (nat_lt class_limit (record_count c)) refl is
  where
    by : (m : Answer (Unit {0})) (b : Bool) → nat_lt class_limit (record_count c) ≡ b → (m >> (refuses b (refusal.ClassTooLarge (record_count c)) >> Ok c)) ≡ Ok x → HasFewTriggers x.class
    by (Ok u) true test e = absurd (cc (e))
    by (Ok u) false test e =
        let few : record_count c ≤ class_limit = grind (arith, nat_tests) in
        let same : c ≡ x = cc (e) in
        subst (λ (d : Declared). HasFewTriggers d.class) same (few_by c few)
    by (Err why) b test e = absurd (cc (e))

-- and so has one that compiles
pub few_triggers : (known : List Class) (added : List Added) (d : ClassDecl) (x : Declared) → compiled_grown known added d ≡ Ok x → HasFewTriggers x.class
few_triggers known added d x is = by (checks (check_grown known added d)) is
  where
    by : (m : Answer Class) → (m >>= λ c. limits_class (record { class = c; tree = d })) ≡ Ok x → HasFewTriggers x.class
    by (Ok c) e = within_limits (record { class = c; tree = d }) x e
    by (Err why) e = absurd (cc (e))

-- ---- one behind others

both_compiled : (ts us : List TriggerDecl) (xs ys : List Table) (rows more : List Alphabet) → AreCompiled ts xs rows → AreCompiled us ys more → AreCompiled (ts ++ us) (xs ++ ys) (rows ++ more)
both_compiled [] us [] ys [] more one two = two
both_compiled [] us [] ys (r ∷ rows) more one two = absurd one
both_compiled [] us (x ∷ xs) ys rows more one two = absurd one
both_compiled (t ∷ ts) us [] ys rows more one two = absurd one
both_compiled (t ∷ ts) us (x ∷ xs) ys [] more one two = absurd one
both_compiled (t ∷ ts) us (x ∷ xs) ys (r ∷ rows) more one two = (one.0, both_compiled ts us xs ys rows more one.1 two)

few_more : (cs : List Class) (c : Class) → AllByRecursion HasFewTriggers cs → HasFewTriggers c → AllByRecursion HasFewTriggers (cs ++ c ∷ [])
few_more [] c few one = (one, tt)
few_more (d ∷ cs) c few one = (few.0, few_more cs c few.1 one)

triggers_more : (cs : List Class) (c : Class) → triggers_of (cs ++ c ∷ []) ≡ triggers_of cs ++ c.triggers
triggers_more cs c = flat_map-append (λ (d : Class). d.triggers) cs (c ∷ []) ∙ ap (λ (ts : List TriggerDecl). triggers_of cs ++ ts) (append-nil c.triggers)

pub built_more : (a : Accepted) (made : Compiled) → AreBuilt a → IsBuilt made
    → AreBuilt (record { classes = a.classes ++ made.class ∷ []; tables = a.tables ++ made.tables; alphabets = a.alphabets ++ made.alphabets; counts = a.counts ++ made.counts })
built_more a made are is = record {
  compiled =
      subst (λ (ts : List TriggerDecl). AreCompiled ts (a.tables ++ made.tables) (a.alphabets ++ made.alphabets)) (sym (triggers_more a.classes made.class))
      (both_compiled (triggers_of a.classes) made.class.triggers a.tables made.tables a.alphabets made.alphabets are.compiled is.compiled);
  counts =
      ap (λ (ns : List ℕ). ns ++ made.counts) are.counts
      ∙ ap (λ (ns : List ℕ). tree_counts (triggers_of a.classes) ++ ns) is.counts
      ∙ sym (map-append (λ (t : TriggerDecl). tree_count t.event) (triggers_of a.classes) made.class.triggers)
      ∙ ap tree_counts (sym (triggers_more a.classes made.class));
  few = few_more a.classes made.class are.few is.few;
}
