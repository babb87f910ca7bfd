-- Triggers compiled one behind the other.
use Rattle.std.proofs.Common.{◌≡◌, ◌<◌, ◌≤◌, ℕ, zero, suc, List, [], ◌∷◌, ◌++◌, get_or, length, map, Ok, refl, sym, ap, subst, ◌∙◌, arith}
use Rattle.std.specs.List.{AllByRecursion, sum_by}
use Rattle.std.proofs.lemmas.List.{length-map}
use Rattle.std.proofs.lemmas.List.Sums.{sum_by-cons}
use Rattle.std.proofs.lemmas.Nat.{mul-le}
use Rattle.ode_value.specs.Answers.{◌>>◌}
use Rattle.ode_value.specs.ClassLimits.{limits_trigger, limits_triggers}
use Rattle.ode_value.specs.Lengths.{class_records, piece_count, table_length, table_records}
use Rattle.ode_value.specs.Limits.{value_limit}
use Rattle.ode_value.specs.PrintedClasses.{decl_text}
use Rattle.ode_value.specs.Symbols.{Alphabet, alphabet}
use Rattle.ode_value.specs.Tables.{Means, Table}
use Rattle.ode_value.specs.TreeCount.{tree_count}
use Rattle.ode_value.specs.Weights.{record_count, table_size}
use Rattle.ode_value.specs.declared.class.Class.{Class}
use Rattle.ode_value.specs.declared.member.TriggerDecl.{TriggerDecl}
use Rattle.ode_value.specs.declared.statement.ClassDecl.{ClassDecl}
use Rattle.ode_table.specs.Whole.{IsWhole}
use Rattle.ode_compile.specs.Compiling.{AreCompiled, IsCompiled, counted_sizes, size_of_table, tree_counts}

pub all_at : {X : Type 0} (P : X → Type 0) (xs : List X) (i : ℕ) (d : X) → AllByRecursion P xs → i < length xs → P (get_or xs i d)
all_at P [] i d all h = absurd (omega arith)
all_at P (x ∷ xs) zero d all h = all.0
all_at P (x ∷ xs) (suc i) d all h = all_at P xs i d all.1 (omega arith)

-- one more trigger
pub compiled_more : (ts : List TriggerDecl) (tables : List Table) (alphabets : List Alphabet) (t : TriggerDecl) (table : Table) (rows : Alphabet)
    → AreCompiled ts tables alphabets → IsCompiled t table rows → AreCompiled (ts ++ t ∷ []) (tables ++ table ∷ []) (alphabets ++ rows ∷ [])
compiled_more [] [] [] t table rows all one = (one, tt)
compiled_more [] [] (a ∷ more) t table rows all one = absurd all
compiled_more [] (x ∷ xs) more t table rows all one = absurd all
compiled_more (s ∷ ss) [] more t table rows all one = absurd all
compiled_more (s ∷ ss) (x ∷ xs) [] t table rows all one = absurd all
compiled_more (s ∷ ss) (x ∷ xs) (a ∷ more) t table rows all one = (all.0, compiled_more ss xs more t table rows all.1 one)

-- the limits of those that are left
pub limits_next : (t : TriggerDecl) (ts : List TriggerDecl) → limits_trigger t ≡ Ok tt → limits_triggers (t ∷ ts) ≡ limits_triggers ts
limits_next t ts h = ap (λ m. m >> limits_triggers ts) h

-- a table with as many states as the event has trees is compiled
pub built_as : (t : TriggerDecl) (table : Table) (rows : Alphabet) → IsWhole table → Means table t.event → table.states ≡ tree_count t.event → rows ≡ alphabet t.event → IsCompiled t table rows
built_as t table rows whole means count own = record { whole = whole; means = means; states = omega (arith, count); alphabet_is = own }

pub as_many : (ts : List TriggerDecl) (tables : List Table) (alphabets : List Alphabet) → AreCompiled ts tables alphabets → length tables ≡ length ts
as_many [] [] [] all = refl
as_many [] [] (a ∷ more) all = absurd all
as_many [] (x ∷ xs) more all = absurd all
as_many (s ∷ ss) [] more all = absurd all
as_many (s ∷ ss) (x ∷ xs) [] all = absurd all
as_many (s ∷ ss) (x ∷ xs) (a ∷ more) all = ap suc (as_many ss xs more all.1)

-- as many tables as counts
pub counts_level : (ts : List TriggerDecl) (tables : List Table) (counts : List ℕ) (alphabets : List Alphabet) → AreCompiled ts tables alphabets
    → counts ≡ tree_counts ts → length counts ≡ length tables
counts_level ts tables counts alphabets all counted =
    ap (λ (ns : List ℕ). length ns) counted ∙ length-map ts (λ (t : TriggerDecl). tree_count t.event) ∙ sym (as_many ts tables alphabets all)

-- the sizes with which tables count are those of their triggers
sizes_are : (ts : List TriggerDecl) (tables : List Table) (alphabets : List Alphabet) → AreCompiled ts tables alphabets
    → counted_sizes (tree_counts ts) tables ≡ map table_size ts
sizes_are [] [] [] all = refl
sizes_are [] [] (a ∷ more) all = absurd all
sizes_are [] (x ∷ xs) more all = absurd all
sizes_are (s ∷ ss) [] more all = absurd all
sizes_are (s ∷ ss) (x ∷ xs) [] all = absurd all
sizes_are (s ∷ ss) (x ∷ xs) (a ∷ more) all =
    ap (λ n. (tree_count s.event, n) ∷ counted_sizes (tree_counts ss) xs) all.0.means.symbols
    ∙ ap (λ sizes. table_size s ∷ sizes) (sizes_are ss xs more all.1)

pub records_are : (c : Class) (d : ClassDecl) (text : List ℕ) (tables : List Table) (counts : List ℕ) (alphabets : List Alphabet)
    → text ≡ decl_text d → counts ≡ tree_counts c.triggers → AreCompiled c.triggers tables alphabets
    → class_records (length text) (counted_sizes counts tables) ≡ record_count (record { class = c; tree = d })
unfolding record_count
records_are c d text tables counts alphabets printed counted all =
    ap (λ (t : List ℕ). class_records (length t) (counted_sizes counts tables)) printed
    ∙ ap (λ (ns : List ℕ). class_records (length (decl_text d)) (counted_sizes ns tables)) counted
    ∙ ap (class_records (length (decl_text d))) (sizes_are c.triggers tables alphabets all)

-- ---- what is stored has no more records

fewer_pieces : (m n : ℕ) → m ≤ n → piece_count m ≤ piece_count n
unfolding value_limit
fewer_pieces m n le = omega (arith, le)

fewer_states : (n most symbols : ℕ) → n ≤ most → table_records (n, symbols) ≤ table_records (most, symbols)
fewer_states n most symbols le =
    let cells = mul-le n symbols most symbols le (omega arith) in
    let pieces = fewer_pieces (table_length n symbols) (table_length most symbols) (omega (arith, cells, le)) in
    omega (arith, pieces)

fewer_of : (t : TriggerDecl) (table : Table) (rows : Alphabet) → IsCompiled t table rows → table_records (size_of_table table) ≤ table_records (table_size t)
fewer_of t table rows is =
    subst (λ (n : ℕ). table_records (size_of_table table) ≤ table_records (tree_count t.event, n)) is.means.symbols
    (fewer_states table.states (tree_count t.event) table.symbols is.states)

pub tables_fewer : (ts : List TriggerDecl) (tables : List Table) (alphabets : List Alphabet) → AreCompiled ts tables alphabets
    → sum_by table_records (map size_of_table tables) ≤ sum_by table_records (map table_size ts)
tables_fewer [] [] [] all = omega arith
tables_fewer [] [] (a ∷ more) all = absurd all
tables_fewer [] (x ∷ xs) more all = absurd all
tables_fewer (s ∷ ss) [] more all = absurd all
tables_fewer (s ∷ ss) (x ∷ xs) [] all = absurd all
tables_fewer (s ∷ ss) (x ∷ xs) (a ∷ more) all =
    let here = fewer_of s x a all.0 in
    let rest = tables_fewer ss xs more all.1 in
    let own = sum_by-cons table_records (size_of_table x) (map size_of_table xs) in
    let most = sum_by-cons table_records (table_size s) (map table_size ss) in
    omega (arith, here, rest, own, most)

pub records_fewer : (c : Class) (d : ClassDecl) (text : List ℕ) (tables : List Table) (alphabets : List Alphabet)
    → text ≡ decl_text d → AreCompiled c.triggers tables alphabets → class_records (length text) (map size_of_table tables) ≤ record_count (record { class = c; tree = d })
unfolding record_count
records_fewer c d text tables alphabets printed all =
    let few = tables_fewer c.triggers tables alphabets all in
    subst (λ (t : List ℕ). class_records (length t) (map size_of_table tables) ≤ class_records (length (decl_text d)) (map table_size c.triggers)) (sym printed)
    (omega (arith, few))
