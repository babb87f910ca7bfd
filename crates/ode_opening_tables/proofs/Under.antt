-- What is stored under a class and a place, by its head and its pieces.
use Rattle.std.proofs.Common.{◌≡◌, ◌<◌, ◌^◌, ℕ, List, [], ◌∷◌, Option, Some, None, sym, ap, subst, ◌∙◌}
use Rattle.ode_keep.specs.Entries.{Entries, value_under}
use Rattle.ode_codec.specs.StoredRows.{table_bytes}
use Rattle.ode_opening_tables.proofs.StoredOnce.{head_same, joined_once, number_once, sized, value_once}
use Rattle.ode_opening_tables.specs.Answers.{ArePieces, IsHeadOf, IsJoined, Joins, TableOf, TableUnder, heads}
use Rattle.ode_opening_tables.specs.Tables.{IsStored}
use Rattle.ode_table.specs.Whole.{IsWhole}
use Rattle.ode_value.specs.Lengths.{table_length}
use Rattle.ode_value.specs.Tables.{Table}

module _ (entries : Entries) (class place : ℕ) where
  -- without a head there is no table
  pub no_head_there : IsHeadOf entries class place None → TableUnder entries class place None
  no_head_there none = λ t stored whole. none t.states t.symbols stored.rows.0

  module _ (states symbols : ℕ) (low : states < 2 ^ 16) (few : symbols < 2 ^ 8) (head : IsHeadOf entries class place (Some (states, symbols))) where
    -- a stored table has the size of its head
    its_size : (t : Table) → IsStored entries class place t → (t.states ≡ states) × (t.symbols ≡ symbols)
    its_size t stored =
        let same = value_once entries class place _ (heads t.states t.symbols) (heads states symbols) stored.rows.0 head in
        let size = number_once t.states states (t.symbols ∷ []) (symbols ∷ []) stored.states low same in
        (size.0, (head_same t.symbols symbols [] [] size.1).0)

    -- and its bytes are those of its pieces
    its_bytes : (t : Table) → IsStored entries class place t → IsWhole t → IsJoined entries class place (table_length states symbols) (table_bytes t)
    its_bytes t stored whole =
        let size = its_size t stored in
        record {
          count_is = sized t whole ∙ ap (λ n. table_length n t.symbols) size.0 ∙ ap (table_length states) size.1;
          pieces = stored.rows.1;
        }

    -- without all pieces there is none
    pub no_bytes_there : Joins entries class place (table_length states symbols) None → TableUnder entries class place None
    no_bytes_there none = λ t stored whole. none (table_bytes t) (its_bytes t stored whole)

    -- with them there is one where they are those of a table
    pub table_there : (bytes : List ℕ) (found : Option Table) → Joins entries class place (table_length states symbols) (Some bytes) → TableOf states symbols bytes found
        → TableUnder entries class place found
    table_there bytes (Some t) joined is =
        let head_of : value_under entries _ ≡ Some (heads t.states t.symbols) =
        head ∙ sym (ap (λ n. Some (heads n t.symbols)) is.states_are ∙ ap (λ n. Some (heads states n)) is.symbols_are) in (
          record {
            states = subst (λ n. n < 2 ^ 16) (sym is.states_are) low;
            symbols = subst (λ n. n < 2 ^ 8) (sym is.symbols_are) few;
            rows = (head_of, subst (ArePieces entries class place) (sym is.bytes_are) joined.pieces);
          },
          is.whole,
        )
    table_there bytes None joined none = λ t stored whole.
        let size = its_size t stored in
        let own = its_bytes t stored whole in
        let same : table_bytes t ≡ bytes =
        joined_once entries class place (table_bytes t) bytes (table_length states symbols) own.count_is joined.count_is own.pieces joined.pieces in
        none t (record { whole = whole; states_are = size.0; symbols_are = size.1; bytes_are = same })
