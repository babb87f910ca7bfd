-- A compiled class, weighed.
use Rattle.std.proofs.Common.{◌≡◌, ◌≤◌, ◌<◌, ◌+◌, ◌-◌, ◌^◌, ◌∙◌, ℕ, Bool, List, Some, Result, length, map, min, ap, sym, subst, arith}
use Rattle.std.specs.Prelude.{IfOk, OnOk}
use Rattle.ode_class_laws.proofs.Stands.{as_many}
use Rattle.ode_class_laws.proofs.StoredLaws.{own_is}
use Rattle.ode_class_laws.specs.Declaring.{bones_with, stored_with}
use Rattle.ode_class_records.specs.ClassRows.{IsStoredBy, class_rows}
use Rattle.ode_class_records.specs.Puts.{puts}
use Rattle.ode_class_records.specs.Weighing.{spare_beside}
use Rattle.ode_codec.specs.StoredRows.{Stored}
use Rattle.ode_compile.specs.Compiling.{AreCompiled, size_of_table, tree_counts}
use Rattle.ode_compile.specs.declared.compiling.Compiled.{Compiled}
use Rattle.ode_declare.proofs.DeclareLaws.{more_weighs}
use Rattle.ode_declare.specs.Declaring.{IsMade, IsTaken}
use Rattle.ode_declared_laws.proofs.Weighing.{class_weighs}
use Rattle.ode_host.specs.Host.{LeavesOnly, Printed}
use Rattle.ode_host.specs.View.{View}
use Rattle.ode_keep.specs.Entries.{Changes, Entries}
use Rattle.ode_keep.specs.Growth.{put_bytes}
use Rattle.ode_machine.specs.Moments.{LeavesSettling}
use Rattle.ode_opened.specs.declared.opened.Opened.{Opened}
use Rattle.ode_transact.specs.Output.{counting, heard}
use Rattle.ode_transact.specs.Resting.{HoldsBy, IsAtRest}
use Rattle.ode_transact.specs.Settling.{Meaning}
use Rattle.ode_transact.specs.declared.error.EngineError.{EngineError}
use Rattle.ode_transact.specs.declared.output.Output.{Output}
use Rattle.ode_good_laws.specs.Well.{IsWell}
use Rattle.ode_value.specs.GoodWorlds.{IsGood}
use Rattle.ode_value.specs.Language.{Language, ListWorld}
use Rattle.ode_value.specs.Lengths.{class_records}
use Rattle.ode_value.specs.Limits.{class_limit, weight_limit}
use Rattle.ode_value.specs.Objects.{Histories, Starts}
use Rattle.ode_value.specs.PrintedClasses.{decl_text}
use Rattle.ode_value.specs.Settling.{Settled}
use Rattle.ode_value.specs.Tables.{Table}
use Rattle.ode_value.specs.Weights.{class_weight, weight}
use Rattle.ode_value.specs.Worlds.{Declared}
use Rattle.ode_value.specs.declared.class.Class.{Class}

-- a stored class, by its text and tables in other words
pub stored_same : (by : ℕ → ℕ → Table) (c : Declared) (class : Class) (text text2 : List ℕ) (own own2 : List Table) → text2 ≡ text → own2 ≡ own → IsStoredBy by c class text own → IsStoredBy by c class text2 own2
stored_same by c class text text2 own own2 same_text same_own is = record { class_is = is.class_is; text_is = is.text_is ∙ sym same_text; tables_are = is.tables_are ∙ sym same_own }

-- and as it was compiled
stored_made : (by : ℕ → ℕ → Table) (c : Declared) (made : Compiled) → c.class ≡ made.class → decl_text c.tree ≡ made.text → IsStoredBy by c c.class (decl_text c.tree) made.tables → IsStoredBy by c made.class made.text made.tables
stored_made by c made class text is =
    subst (λ (k : Class). IsStoredBy by c k made.text made.tables) class (subst (λ (t : List ℕ). IsStoredBy by c c.class t made.tables) text is)

-- so many changes are few
pub few_changes : (text text2 : List ℕ) (own own2 : List Table) (n : ℕ) → text2 ≡ text → own2 ≡ own → n ≡ class_records (length text2) (map size_of_table own2)
    → class_records (length text) (map size_of_table own) ≤ class_limit → n ≤ class_limit
few_changes text text2 own own2 n same_text same_own count few =
    let is : n ≡ class_records (length text) (map size_of_table own) =
    count ∙ ap (λ (t : List ℕ). class_records (length t) (map size_of_table own2)) same_text ∙ ap (λ (ts : List Table). class_records (length text) (map size_of_table ts)) same_own in
    subst (λ (k : ℕ). k ≤ class_limit) (sym is) few

-- the changes that put its rows
abbrev pub PutsMade : Compiled → Changes → Type 0
PutsMade made changes = (by : ℕ → ℕ → Table) (c : Declared) → IsStoredBy by c made.class made.text made.tables → changes ≡ puts (class_rows by c)

module _ (l : Language) (w : ListWorld) (good : IsGood l w) (c : Declared) (made : Compiled) (is : IsMade l w c made) (all : AreCompiled made.class.triggers made.tables made.alphabets) (trees : made.counts ≡ tree_counts made.class.triggers) where
  compiled_is : AreCompiled c.class.triggers made.tables made.alphabets
  compiled_is = subst (λ (k : Class). AreCompiled k.triggers made.tables made.alphabets) (sym is.class) all

  module _ (changes : Changes) (rows : PutsMade made changes) (stored : Stored) (before bytes : ℕ) (was : before ≡ weight w.bones) (sum : bytes ≡ min (before + min (put_bytes changes + spare_beside made.counts made.tables) (2 ^ 64 - 1)) (2 ^ 64 - 1)) where
    puts_weigh : put_bytes changes + spare_beside made.counts made.tables ≡ class_weight c
    puts_weigh =
        let by : ℕ → ℕ → Table = (stored_with c made.tables stored).tables in
        let here : IsStoredBy by c c.class (decl_text c.tree) made.tables = own_is stored c made.tables (as_many c.class.triggers made.tables made.alphabets compiled_is) in
        let own : made.counts ≡ tree_counts c.class.triggers = trees ∙ ap (λ (k : Class). tree_counts k.triggers) (sym is.class) in
        ap (λ n. n + spare_beside made.counts made.tables) (ap put_bytes (rows by c (stored_made by c made is.class is.text here)))
        ∙ ap (λ (ns : List ℕ). put_bytes (puts (class_rows by c)) + spare_beside ns made.tables) own
        ∙ class_weighs by c made.tables made.alphabets here compiled_is

    -- there is no room for it
    pub heavy_is : weight_limit < bytes → weight_limit < weight (bones_with c w.bones)
    heavy_is over =
        let put = puts_weigh in
        let more = more_weighs l w c good in
        omega (arith, was, sum, put, more, over)

    -- there is room
    weighs_is : bytes ≤ weight_limit → bytes ≡ weight (bones_with c w.bones)
    weighs_is below =
        let put = puts_weigh in
        let more = more_weighs l w c good in
        omega (arith, was, sum, put, more, below)

    pub taken_is : bytes ≤ weight_limit → IsTaken l w c made changes bytes
    taken_is below = record {
      declared = record { is = is.is; compiled = compiled_is; few = is.few; light = subst (λ (n : ℕ). n ≤ weight_limit) (weighs_is below) below };
      class = is.class;
      rows = λ by stored_by. rows by c (stored_made by c made is.class is.text stored_by);
      weighs = weighs_is below;
    }

module _ {H K : Type 0} (seen : H → View) (held : K → View → Entries → Type 0) (live : K → Bool) (means : Meaning) where
  -- what is behind a settled transaction that is another one
  pub done_as : (result : Result (Opened K) EngineError) (l : Language) (quiet : Bool) (old new : H) (s t : Settled Histories Starts) → s ≡ t
      → (IsWell l t.0 → IfOk result (λ after. IsAtRest seen held live l t.0 after new) × OnOk result (Printed (heard quiet t.1) (seen old) (seen new)))
      → IsWell l s.0 → IfOk result (λ after. IsAtRest seen held live l s.0 after new) × OnOk result (Printed (heard quiet s.1) (seen old) (seen new))
  done_as result l quiet old new s t same done =
      subst (λ (x : Settled Histories Starts). IsWell l x.0 → IfOk result (λ after. IsAtRest seen held live l x.0 after new) × OnOk result (Printed (heard quiet x.1) (seen old) (seen new))) (sym same) done

  pub leaves_as : (l : Language) (w : ListWorld) (quiet : Bool) (old new : H) (said : List ℕ) (s t : Settled Histories Starts) → s ≡ t
      → (IsWell l t.0 → (seen old).text ≡ Some said → LeavesOnly (seen old) (seen new) (LeavesSettling (HoldsBy l means) w t.0 said (heard quiet t.1)))
      → IsWell l s.0 → (seen old).text ≡ Some said → LeavesOnly (seen old) (seen new) (LeavesSettling (HoldsBy l means) w s.0 said (heard quiet s.1))
  leaves_as l w quiet old new said s t same leaves =
      subst (λ (x : Settled Histories Starts). IsWell l x.0 → (seen old).text ≡ Some said → LeavesOnly (seen old) (seen new) (LeavesSettling (HoldsBy l means) w x.0 said (heard quiet x.1))) (sym same) leaves

-- and what is counted of it
pub counts_as : {R : Type 0} (result : Result R EngineError) (l : Language) (output behind : Output) (s t : Settled Histories Starts) → s ≡ t
    → (IsWell l t.0 → OnOk result (behind ≡ counting output t.1)) → IsWell l s.0 → OnOk result (behind ≡ counting output s.1)
counts_as result l output behind s t same counts =
    subst (λ (x : Settled Histories Starts). IsWell l x.0 → OnOk result (behind ≡ counting output x.1)) (sym same) counts
