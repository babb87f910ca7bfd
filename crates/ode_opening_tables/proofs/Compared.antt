-- A stored table beside the built one, and beside a trigger.
use Rattle.std.proofs.Common.{◌≡◌, ℕ, List, Some, None, sym, subst, ◌∙◌}
use Rattle.ode_keep.specs.Entries.{Entries}
use Rattle.ode_opening_tables.proofs.Once.{IsStoredOnce}
use Rattle.ode_opening_tables.specs.Answers.{TableUnder}
use Rattle.ode_opening_tables.specs.Tables.{HasTable}
use Rattle.ode_value.specs.Classes.{Trigger}
use Rattle.ode_value.specs.Tables.{IsWord, Means, Table}
use Rattle.ode_value.specs.declared.event.EventExpr.{EventExpr}
use Rattle.ode_walk.specs.Relation.{Agrees, IsShortest}

-- a word that tells tables apart
pub told_apart : (stored built : Table) (word : List ℕ) → IsShortest stored built word → Agrees stored built → ⊥
told_apart stored built word is agrees = is.differs (agrees word is.is_word)

module _ (stored built : Table) (e : EventExpr) (same : stored.symbols ≡ built.symbols) (built_means : Means built e) where
  word_there : (word : List ℕ) → IsWord stored.symbols word → IsWord built.symbols word
  word_there word is = subst (λ (n : ℕ). IsWord n word) same is

  -- one that agrees with the built one means what that means,
  pub means_too : Agrees stored built → Means stored e
  means_too agrees = record {
    symbols = same ∙ built_means.symbols;
    answers = λ word is. agrees word is ∙ built_means.answers word (word_there word is);
  }

  -- and only such a one
  pub agrees_too : Means stored e → Agrees stored built
  agrees_too means = λ word is. means.answers word is ∙ sym (built_means.answers word (word_there word is))

module _ (entries : Entries) (t : Trigger) where
  -- a trigger has the table that is stored, where it agrees with the built one
  pub has_table : (stored built : Table) → TableUnder entries t.class t.place (Some stored) → stored.symbols ≡ built.symbols → Agrees stored built → Means built t.decl.event → HasTable entries t stored
  has_table stored built there same agrees means = record { stored = there.0; whole = there.1; means = means_too stored built t.decl.event same means agrees }

  -- it has none where none is stored,
  pub none_there : TableUnder entries t.class t.place None → (table : Table) → HasTable entries t table → ⊥
  none_there none table has = none table has.stored has.whole

  -- or where the stored one doesn't agree with the built one
  pub none_agrees : IsStoredOnce → (stored built : Table) → TableUnder entries t.class t.place (Some stored) → Means built t.decl.event → (stored.symbols ≡ built.symbols → Agrees stored built → ⊥)
      → (table : Table) → HasTable entries t table → ⊥
  none_agrees once stored built there means never table has =
      let same : table ≡ stored = once entries t.class t.place table stored has.stored has.whole there.0 there.1 in
      let stored_means : Means stored t.decl.event = subst (λ (x : Table). Means x t.decl.event) same has.means in
      let symbols : stored.symbols ≡ built.symbols = stored_means.symbols ∙ sym means.symbols in
      never symbols (agrees_too stored built t.decl.event symbols means stored_means)
