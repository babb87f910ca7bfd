-- The classes that records declare: each text parses, prints to itself, is accepted after the earlier ones, and agrees with its head.
use Rattle.std.specs.Prelude.{ℕ, ◌+◌, ◌-◌, min, List, [], ◌∷◌, ◌++◌, length, drop, codes, Bool, false, cond, nat_le, ◌==◌, ◌&&◌, Option, Some, None, Result, Ok, Err}
use Rattle.std.specs.Option.{unwrap_or}
use Rattle.std.specs.Str.{bytes_eq}
use Rattle.ode_codec.specs.declared.record.Record.{Record}
use Rattle.ode_codec.specs.declared.record.Record.TheVariants as of
use Rattle.ode_compile.specs.Compiling.{compiled_grown}
use Rattle.ode_value.specs.Answers.{Answer}
use Rattle.ode_value.specs.Language.{Language}
use Rattle.ode_value.specs.Lengths.{piece_count}
use Rattle.ode_value.specs.Limits.{class_limit, value_limit}
use Rattle.ode_value.specs.PrintedClasses.{decl_text}
use Rattle.ode_value.specs.declared.class.Class.{Class}
use Rattle.ode_value.specs.declared.key.Key.{Key}
use Rattle.ode_value.specs.declared.reason.Refusal.{Refusal}
use Rattle.ode_value.specs.Worlds.{Declared}
use Rattle.ode_value.specs.declared.statement.ClassDecl.{ClassDecl}
use Rattle.ode_value.specs.declared.statement.Statement.{Statement}
use Rattle.ode_value.specs.declared.statement.Statement.TheVariants as statement
use Rattle.ode_opening.specs.Births.{own_added}
use Rattle.ode_value.specs.declared.change.Added.{Added}
use Rattle.ode_passes.specs.Complete.{class_count, of_head}
use Rattle.ode_passes.specs.Records.{Found}
use Rattle.ode_passes.specs.Rules.{Ruled, ◌>>=◌, found, needs, through}
use Rattle.ode_passes.specs.declared.cause.Cause.TheVariants as cause

-- ---- the text of a class

-- a piece of a text of which so many bytes are left: all pieces but the last are full
abbrev pub piece_in : ℕ → Record → Option (List ℕ)
piece_in left (of.ClassPiece class piece bytes) = cond (length bytes == min left value_limit) (Some bytes) None
piece_in left _ = None

-- a text of so many bytes, and the records behind its pieces
abbrev pub text_in : ℕ → ℕ → Found → Ruled (List ℕ × Found)
text_in class left [] = cond (left == 0) (Ok ([], [])) (Err (cause.Class class))
text_in class left (f ∷ more) = cond (left == 0) (Ok ([], f ∷ more)) do
  bytes ← found (cause.Class class) (piece_in left f.1)
  rest ← text_in class (left - length bytes) more
  Ok (bytes ++ rest.0, rest.1)

-- ---- the class of a text

-- a statement that is a class
abbrev pub class_in : Result Statement Refusal → Option ClassDecl
class_in (Ok (statement.Class d)) = Some d
class_in _ = None

-- what a text was read as, where it was
abbrev pub class_among : Option Statement → Option ClassDecl
class_among (Some s) = class_in (Ok s)
class_among None = None

-- a class is accepted where no static rule and no limit refuses its declaration
abbrev pub accepted_in : Answer Declared → Option Class
accepted_in (Ok d) = Some d.class
accepted_in (Err why) = None

-- its records are within their limit
abbrev pub is_short : List ℕ → Bool
is_short text = nat_le (1 + piece_count (length text)) class_limit

-- its head is that of the class
abbrev pub agrees : Record → Class → Bool
agrees (of.ClassHead class name parent text_length triggers) c =
    class == c.number && (bytes_eq name c.name && (parent == unwrap_or c.parent 0 && triggers == length c.triggers))
agrees _ c = false

-- a text that is read so declares a class, to which these fields were added
abbrev pub declares_as : Option ClassDecl → List Class → List Added → ℕ → Record → List ℕ → Ruled Class
declares_as read known added number head text = do
  d ← found (cause.Class number) read
  _ ← needs (cause.Class number) (bytes_eq (decl_text d) text)
  c ← found (cause.Class number) (accepted_in (compiled_grown known added d))
  _ ← needs (cause.Class number) (agrees head c)
  Ok c

module _ (l : Language) where
  -- how a text is read, which is a statement's but for its semicolon
  abbrev pub read_in : List ℕ → Option ClassDecl
  read_in text = cond (is_short text) (class_in (l.statement_of (text ++ codes ";"))) None

  -- one more class
  abbrev pub adds : List Class → List Added → ℕ → Record → List ℕ → Ruled (List Class)
  adds known added number head text = declares_as (read_in text) known added number head text >>= λ c. Ok (known ++ c ∷ [])

  -- the same where a record is a head, and the records behind its pieces
  abbrev pub declares_by : Option (ℕ × ℕ) → List Added → Record → List Class × Found → Ruled (List Class × Found)
  declares_by None added row s = Ok s
  declares_by (Some head) added row s = do
    text ← text_in head.0 head.1 s.1
    classes ← adds s.0 added head.0 row text.0
    Ok (classes, text.1)

  -- with the fields that were added to it, which come first, and those behind them
  abbrev pub declares_own : List Added → List Added → Key × Record → List Class × Found → Ruled ((List Class × Found) × List Added)
  declares_own own added f s = declares_by (of_head f.1) own f.1 s >>= λ t. Ok (t, drop (length own) added)

  abbrev pub declares_next : (List Class × Found) × List Added → Key × Record → Ruled ((List Class × Found) × List Added)
  declares_next s f = declares_own (own_added (of_head f.1) s.1) s.1 f s.0

  -- all classes, whose pieces stand behind their heads
  unfoldable pub declared_in : List Added → Found → Ruled (List Class)
  declared_in added records = through declares_next (([], drop (class_count records) records), added) records >>= λ s. Ok s.0.0
