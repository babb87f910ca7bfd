-- The trees of classes by their records, and the fields that were added to them.
use Rattle.std.specs.Prelude.{◌≡◌, ℕ, List, [], ◌∷◌, ◌++◌, Option, Some, None, Result, Ok, Err, drop}
use Rattle.ode_codec.specs.declared.record.Record.{Record}
use Rattle.ode_keep.specs.Entries.{Entries}
use Rattle.ode_passes.specs.Complete.{class_count, of_head}
use Rattle.ode_passes.specs.Records.{Found, decoded}
use Rattle.ode_passes.specs.Rules.{Ruled, ◌>>=◌, found, through}
use Rattle.ode_passes.specs.Walking.{within}
use Rattle.ode_passes.specs.declared.cause.Cause.TheVariants as cause
use Rattle.ode_passes.specs.declared.error.OpenError.{OpenError}
use Rattle.ode_passes.specs.declared.error.OpenError.TheVariants.{Memory, DiskFault, BadFile}
use Rattle.ode_value.specs.Keys.{class_head_kind, class_piece_kind}
use Rattle.ode_value.specs.Language.{Language}
use Rattle.ode_value.specs.declared.change.Added.{Added}
use Rattle.ode_value.specs.declared.key.Key.{Key}
use Rattle.ode_value.specs.declared.statement.ClassDecl.{ClassDecl}
use Rattle.ode_opening.specs.Births.{added_in}
use Rattle.ode_opening.specs.Declaring.{read_in, text_in}

module _ (l : Language) where
  -- one more tree where a record is a head, and the records behind the pieces of its text
  abbrev pub tree_by : Option (ℕ × ℕ) → List ClassDecl × Found → Ruled (List ClassDecl × Found)
  tree_by None s = Ok s
  tree_by (Some head) s = do
    text ← text_in head.0 head.1 s.1
    d ← found (cause.Class head.0) (read_in l text.0)
    Ok (s.0 ++ d ∷ [], text.1)

  abbrev pub tree_next : List ClassDecl × Found → Key × Record → Ruled (List ClassDecl × Found)
  tree_next s f = tree_by (of_head f.1) s

  -- all trees, whose texts stand behind the heads
  unfoldable pub trees_of : Found → Ruled (List ClassDecl)
  trees_of records = through tree_next ([], drop (class_count records) records) records >>= λ s. Ok s.0

  -- what the records of classes were declared as, and the fields that were added to them, of which there are to be so many
  unfoldable pub trees_in : ℕ → Entries → Ruled (List ClassDecl × List Added)
  trees_in count entries = do
    records ← decoded (within class_head_kind class_piece_kind entries)
    trees ← trees_of records
    added ← added_in records count entries
    Ok (trees, added)

-- the trees so far, and the place behind the pieces of their texts
abbrev pub Grows : Ruled (List ClassDecl × Found) → List ClassDecl → Found → Result ℕ OpenError → Type 0
Grows meant trees records (Ok at) = meant ≡ Ok (trees, drop at records)
Grows meant trees records (Err (BadFile cause)) = meant ≡ Err cause
Grows meant trees records (Err DiskFault) = Unit {0}
Grows meant trees records (Err Memory) = Unit {0}
