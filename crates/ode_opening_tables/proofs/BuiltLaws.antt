-- What was built of triggers: alphabets, tables that mean their events, and what stored tables weigh beside their counts.
use Rattle.std.proofs.Common.{◌≡◌, ℕ, zero, suc, ◌+◌, ◌-◌, List, [], ◌∷◌, map, length, Some, refl, ap, subst, ◌∙◌, arith}
use Rattle.std.specs.Prelude.{slice_get}
use Rattle.std.specs.Option.{IsSomeAnd}
use Rattle.ode_class_records.specs.Weighing.{spare_beside}
use Rattle.ode_compile.specs.Compiling.{AreCompiled, tree_counts}
use Rattle.ode_opening_tables.specs.Answers.{AreBeside, AreBuiltFrom}
use Rattle.ode_opening_tables.specs.Tables.{spare_in, spare_of}
use Rattle.ode_value.specs.Lengths.{trigger_length}
use Rattle.ode_value.specs.Symbols.{Alphabet, symbol_count, alphabet}
use Rattle.ode_value.specs.Tables.{Means, Table}
use Rattle.ode_value.specs.TreeCount.{tree_count}
use Rattle.ode_value.specs.declared.member.TriggerDecl.{TriggerDecl}

pub alphabets_are : (ts : List TriggerDecl) (built : List Table) (rows : List Alphabet) → AreCompiled ts built rows → rows ≡ map (λ (t : TriggerDecl). alphabet t.event) ts
alphabets_are [] [] [] all = refl
alphabets_are [] [] (r ∷ rows) all = absurd all
alphabets_are [] (b ∷ built) rows all = absurd all
alphabets_are (t ∷ ts) [] rows all = absurd all
alphabets_are (t ∷ ts) (b ∷ built) [] all = absurd all
alphabets_are (t ∷ ts) (b ∷ built) (r ∷ rows) all =
    ap (λ x. x ∷ rows) all.0.alphabet_is ∙ ap (λ xs. alphabet t.event ∷ xs) (alphabets_are ts built rows all.1)

pub as_many : (ts : List TriggerDecl) (built : List Table) (rows : List Alphabet) → AreCompiled ts built rows → length built ≡ length ts
as_many [] [] [] all = refl
as_many [] [] (r ∷ rows) all = absurd all
as_many [] (b ∷ built) rows all = absurd all
as_many (t ∷ ts) [] rows all = absurd all
as_many (t ∷ ts) (b ∷ built) [] all = absurd all
as_many (t ∷ ts) (b ∷ built) (r ∷ rows) all = ap suc (as_many ts built rows all.1)

-- stored tables weigh beside the counts what they do beside their triggers
pub spare_is : (ts : List TriggerDecl) (built : List Table) (rows : List Alphabet) (stored : List Table) → AreCompiled ts built rows → AreBeside built stored
    → spare_beside (tree_counts ts) stored ≡ spare_in ts stored
spare_is [] built rows [] all beside = refl
spare_is [] built rows (s ∷ stored) all beside = refl
spare_is (t ∷ ts) built rows [] all beside = refl
spare_is (t ∷ ts) [] rows (s ∷ stored) all beside = absurd all
spare_is (t ∷ ts) (b ∷ built) [] (s ∷ stored) all beside = absurd all
spare_is (t ∷ ts) (b ∷ built) (r ∷ rows) (s ∷ stored) all beside =
    let symbols : s.symbols ≡ symbol_count t.event = beside 0 s refl ∙ all.0.means.symbols in
    ap (λ n. (trigger_length (tree_count t.event) n - trigger_length s.states s.symbols) + spare_beside (tree_counts ts) stored) symbols
    ∙ ap (λ n. spare_of t s + n) (spare_is ts built rows stored all.1 (λ at table there. beside (suc at) table there))

-- the table at a trigger's place means its event
means_at : (ts : List TriggerDecl) (built : List Table) (rows : List Alphabet) → AreCompiled ts built rows → (place : ℕ) (t : TriggerDecl) → slice_get ts place ≡ Some t
    → IsSomeAnd (slice_get built place) (λ table. Means table t.event)
means_at [] built rows all place t is = absurd (cc)
means_at (u ∷ ts) [] rows all place t is = absurd all
means_at (u ∷ ts) (b ∷ built) [] all place t is = absurd all
means_at (u ∷ ts) (b ∷ built) (r ∷ rows) all zero t is = let same : u ≡ t = cc in subst (λ (v : TriggerDecl). Means b v.event) same all.0.means
means_at (u ∷ ts) (b ∷ built) (r ∷ rows) all (suc place) t is = means_at ts built rows all.1 place t is

pub built_from : (ts : List TriggerDecl) (built : List Table) (rows : List Alphabet) → AreCompiled ts built rows → AreBuiltFrom built 0 ts
built_from ts built rows all = λ place t is.
    let same : place ≡ 0 + place = omega arith in
    subst (λ (k : ℕ). IsSomeAnd (slice_get built k) (λ table. Means table t.event)) same (means_at ts built rows all place t is)
