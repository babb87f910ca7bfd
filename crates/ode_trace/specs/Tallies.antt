-- How a run is counted.
use Rattle.std.specs.Prelude.{◌≡◌, ◌==◌, ℕ, ◌+◌, ◌-◌, ◌^◌, List, [], ◌∷◌, Bool, length, min, not}
use Rattle.ode_engine.specs.declared.engine.Done.{Done}
use Rattle.ode_engine.specs.declared.engine.Done.TheVariants as done
use Rattle.ode_machine.specs.Runs.{Item, Refuses, Settles, text_of}
use Rattle.ode_script.specs.Cutting.{Ended, Pieces, Then}
use Rattle.ode_trace.specs.declared.tally.Tally.{Tally}

-- a count stops at the most that 64 bits hold
unfoldable pub shown : ℕ → ℕ
shown n = min n (2 ^ 64 - 1)

-- ---- the counts of a whole run

-- the pieces before the ending
abbrev pub count_pieces : Pieces → ℕ
count_pieces (Ended ending) = 0
count_pieces (Then line text rest) = count_pieces rest + 1

-- the settled transactions
abbrev pub count_settled : List Item → ℕ
count_settled [] = 0
count_settled (Settles w text ∷ items) = count_settled items + 1
count_settled (Refuses line ∷ items) = count_settled items

-- the refused pieces
abbrev pub count_refused : List Item → ℕ
count_refused [] = 0
count_refused (Settles w text ∷ items) = count_refused items
count_refused (Refuses line ∷ items) = count_refused items + 1

-- those of a script of these pieces, whose run comes to these items
abbrev pub tally_of : Pieces → List Item → Tally
tally_of ps items = record { pieces = shown (count_pieces ps); settled = shown (count_settled items); refused = shown (count_refused items); bytes = shown (length (text_of items)) }

-- ---- on the way

abbrev pub uncounted : Tally
uncounted = record { pieces = 0; settled = 0; refused = 0; bytes = 0 }

abbrev pub with_piece : Tally → Tally
with_piece t = record t { pieces = shown (t.pieces + 1) }

abbrev pub with_settled : ℕ → Tally → Tally
with_settled count t = record t { settled = shown (t.settled + count) }

abbrev pub with_bytes : ℕ → Tally → Tally
with_bytes count t = record t { bytes = shown (t.bytes + count) }

abbrev pub with_refusal : List ℕ → Tally → Tally
with_refusal line t = record (with_bytes (length line) t) { refused = shown (t.refused + 1) }

abbrev pub was_refused : Tally → Bool
was_refused t = not (t.refused == 0)

-- how many transactions an answer of the engine settled
abbrev pub settled_in : Done → ℕ
settled_in (done.Settled count) = count
settled_in (done.Refused why) = 0

-- So many pieces were taken and came to these items, and this was counted: the lines of refusals in the tally, the texts of what was
-- settled in the engine.
pub record Counts (tally : Tally) (counted taken : ℕ) (items : List Item) : Type 0 where
  pub pieces : tally.pieces ≡ shown taken
  pub settled : tally.settled ≡ shown (count_settled items)
  pub refused : tally.refused ≡ shown (count_refused items)
  pub lines : ℕ
  pub texts : ℕ
  pub all : lines + texts ≡ length (text_of items)
  pub said : tally.bytes ≡ shown lines
  pub kept : counted ≡ shown texts
