-- The rule on tables comes to one thing, as a trigger has one table alone.
use Rattle.std.proofs.Common.{◌≡◌, ℕ, List, [], ◌∷◌, ◌++◌, Ok, Err, refl, sym, ap, subst, ◌∙◌}
use Rattle.std.specs.List.{AllZip}
use Rattle.ode_keep.specs.Entries.{Entries}
use Rattle.ode_opening_tables.specs.Tables.{HasTable, IsStored, LackTable, TablesIn}
use Rattle.ode_passes.specs.Rules.{Ruled}
use Rattle.ode_passes.specs.declared.cause.Cause.{Cause}
use Rattle.ode_passes.specs.declared.cause.Cause.TheVariants as cause
use Rattle.ode_table.specs.Whole.{IsWhole}
use Rattle.ode_value.specs.Classes.{Trigger}
use Rattle.ode_value.specs.Tables.{Table}

-- one table is stored under a class and a place
abbrev pub IsStoredOnce : Type 0
IsStoredOnce = (entries : Entries) (class place : ℕ) (t u : Table) → IsStored entries class place t → IsWhole t → IsStored entries class place u → IsWhole u → t ≡ u

module _ (once : IsStoredOnce) (entries : Entries) where
  -- ---- tables

  table_once : (t : Trigger) (a b : Table) → HasTable entries t a → HasTable entries t b → a ≡ b
  table_once t a b one other = once entries t.class t.place a b one.stored one.whole other.stored other.whole

  tables_once : (ts : List Trigger) (own bs : List Table) → AllZip (HasTable entries) ts own → AllZip (HasTable entries) ts bs → own ≡ bs
  tables_once [] [] [] one other = refl
  tables_once [] [] (b ∷ bs) one other = absurd other
  tables_once [] (a ∷ own) bs one other = absurd one
  tables_once (t ∷ ts) [] bs one other = absurd one
  tables_once (t ∷ ts) (a ∷ own) [] one other = absurd other
  tables_once (t ∷ ts) (a ∷ own) (b ∷ bs) one other =
      ap (λ x. x ∷ own) (table_once t a b one.0 other.0) ∙ ap (λ xs. b ∷ xs) (tables_once ts own bs one.1 other.1)

  -- ---- the first trigger that has none

  -- where each has one, none lacks it
  none_lacks : (ts before : List Trigger) (t : Trigger) (behind : List Trigger) (tables : List Table) → ts ≡ before ++ t ∷ behind → AllZip (HasTable entries) ts tables
      → ((table : Table) → HasTable entries t table → ⊥) → ⊥
  none_lacks [] [] t behind tables are have lacks = cc (are)
  none_lacks [] (b ∷ before) t behind tables are have lacks = cc (are)
  none_lacks (x ∷ ts) before t behind [] are have lacks = have
  none_lacks (x ∷ ts) [] t behind (a ∷ tables) are have lacks =
      let same : x ≡ t = cc (are) in lacks a (subst (λ (y : Trigger). HasTable entries y a) same have.0)
  none_lacks (x ∷ ts) (b ∷ before) t behind (a ∷ tables) are have lacks =
      let rest : ts ≡ before ++ t ∷ behind = cc (are) in none_lacks ts before t behind tables rest have.1 lacks

  -- two first ones are one
  first_once : (b c : List Trigger) (t u : Trigger) (behind last : List Trigger) (own bs : List Table) → b ++ t ∷ behind ≡ c ++ u ∷ last → AllZip (HasTable entries) b own
      → AllZip (HasTable entries) c bs → ((table : Table) → HasTable entries t table → ⊥) → ((table : Table) → HasTable entries u table → ⊥) → t ≡ u
  first_once [] [] t u behind last own bs same one other lacks never = cc (same)
  first_once [] (y ∷ c) t u behind last own [] same one other lacks never = absurd other
  first_once [] (y ∷ c) t u behind last own (b ∷ bs) same one other lacks never =
      let its : y ≡ t = cc (same) in absurd (lacks b (subst (λ (z : Trigger). HasTable entries z b) its other.0))
  first_once (x ∷ b) [] t u behind last [] bs same one other lacks never = absurd one
  first_once (x ∷ b) [] t u behind last (a ∷ own) bs same one other lacks never =
      let its : x ≡ u = cc (same) in absurd (never a (subst (λ (z : Trigger). HasTable entries z a) its one.0))
  first_once (x ∷ b) (y ∷ c) t u behind last [] bs same one other lacks never = absurd one
  first_once (x ∷ b) (y ∷ c) t u behind last (a ∷ own) [] same one other lacks never = absurd other
  first_once (x ∷ b) (y ∷ c) t u behind last (a ∷ own) (d ∷ bs) same one other lacks never =
      let rest : b ++ t ∷ behind ≡ c ++ u ∷ last = cc (same) in first_once b c t u behind last own bs rest one.1 other.1 lacks never

  -- ---- the rule

  module _ (triggers : List Trigger) where
    never_both : (tables : List Table) (why : Cause) → AllZip (HasTable entries) triggers tables → LackTable entries triggers why → ⊥
    never_both tables why have lack = none_lacks triggers lack.before lack.trigger lack.behind tables lack.are have lack.lacks

    cause_once : (why other : Cause) → LackTable entries triggers why → LackTable entries triggers other → why ≡ other
    cause_once why other one two =
        let same = first_once one.before two.before one.trigger two.trigger one.behind two.behind one.tables two.tables (sym one.are ∙ two.are) one.have two.have one.lacks two.lacks in
        one.is ∙ ap (λ (t : Trigger). cause.Table t.class t.place) same ∙ sym two.is

    pub one_thing : (found other : Ruled (List Table)) → TablesIn entries triggers found → TablesIn entries triggers other → found ≡ other
    one_thing (Ok ts) (Ok us) one other = ap Ok (tables_once triggers ts us one other)
    one_thing (Ok ts) (Err why) one other = absurd (never_both ts why one other)
    one_thing (Err why) (Ok ts) one other = absurd (never_both ts why other one)
    one_thing (Err why) (Err because) one other = ap Err (cause_once why because one other)
