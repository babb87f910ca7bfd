-- A class whose text is read and accepted is declared.
use Rattle.std.proofs.Common.{◌≡◌, ℕ, ◌+◌, ◌<◌, ◌^◌, List, [], ◌∷◌, ◌++◌, map, length, codes, Bool, true, false, cond, Option, Some, None, Ok, Err, refl, ap, ◌∙◌, arith}
use Rattle.std.specs.Prelude.{nat_le, ◌==◌, ◌&&◌}
use Rattle.std.specs.List.{AllByRecursion}
use Rattle.std.specs.Option.{unwrap_or}
use Rattle.std.specs.Str.{bytes_eq}
use Rattle.std.proofs.lemmas.Bool.Decides.{nat_tests}
use Rattle.std.proofs.lemmas.Slice.Eq.{bytes_eq-Decides}
use Rattle.ode_codec.specs.Rules.{IsRecord}
use Rattle.ode_codec.specs.Standing.{HasTables}
use Rattle.ode_compile.specs.Compiling.{compiled_grown}
use Rattle.ode_language.specs.Languages.{ode}
use Rattle.ode_opening.specs.Declaring.{accepted_in, adds, agrees, class_in, declares_as, read_in}
use Rattle.ode_passes.specs.Rules.{Ruled, ◌>>=◌, found, needs}
use Rattle.ode_passes.specs.declared.cause.Cause.TheVariants as cause
use Rattle.ode_value.specs.Answers.{Answer}
use Rattle.ode_value.specs.Changing.{added_to}
use Rattle.ode_value.specs.GoodWorlds.{AreClasses, IsClass}
use Rattle.ode_value.specs.Lengths.{piece_count}
use Rattle.ode_value.specs.Limits.{class_limit}
use Rattle.ode_value.specs.PrintedClasses.{decl_text}
use Rattle.ode_value.specs.Tables.{Table}
use Rattle.ode_value.specs.Worlds.{Declared}
use Rattle.ode_value.specs.declared.change.Added.{Added}
use Rattle.ode_value.specs.declared.class.Class.{Class}
use Rattle.ode_value.specs.declared.statement.ClassDecl.{ClassDecl}
use Rattle.ode_opening_laws.specs.Holding.{class_of, head_of}
use Rattle.ode_opening_laws.proofs.Heads.{heads_spelled}
use Rattle.ode_opening_laws.proofs.Limits.{compiles, short_of}
use Rattle.ode_opening_laws.proofs.Sized.{HasSizes, have_sizes}
use Rattle.ode_opening_laws.proofs.Storable.{IsSmall, IsStorable}

-- ---- few records

small_of : (n : ℕ) → nat_le (1 + n) class_limit ≡ true → n < 2 ^ 32
unfolding class_limit
small_of n short = grind (arith, nat_tests)

is_small : (added : List Added) (earlier : List Declared) (d : Declared) → IsClass ode added earlier d → IsSmall d
is_small added earlier d is = record { number = is.low; pieces = small_of (piece_count (length (decl_text d.tree))) (short_of d is.limits) }

pub are_small : (added : List Added) (earlier ds : List Declared) → AreClasses ode added earlier ds → AllByRecursion IsSmall ds
are_small added earlier [] classes = tt
are_small added earlier (d ∷ ds) classes = (is_small added earlier d classes.0, are_small added (earlier ++ d ∷ []) ds classes.1)

-- ---- all that their records need

module _ (tables : ℕ → ℕ → Table) where
  each_storable : (ds : List Declared) → AllByRecursion IsSmall ds → AllByRecursion (λ d. IsRecord (head_of d)) ds → AllByRecursion (HasSizes tables) ds → AllByRecursion (IsStorable tables) ds
  each_storable [] small spelled sized = tt
  each_storable (d ∷ ds) small spelled sized = (record { small = small.0; spelled = spelled.0; sized = sized.0 }, each_storable ds small.1 spelled.1 sized.1)

  pub are_storable : (added : List Added) (ds : List Declared) → AreClasses ode added [] ds → AllByRecursion (HasTables tables) ds → AllByRecursion (IsStorable tables) ds
  are_storable added ds classes mean = each_storable ds (are_small added [] ds classes) (heads_spelled added ds classes) (have_sizes tables added [] ds classes mean)

-- ---- its head agrees

itself : (n : ℕ) → (n == n) ≡ true
itself n = grind (arith, nat_tests)

same_bytes : (xs : List ℕ) → bytes_eq xs xs ≡ true
same_bytes xs = (bytes_eq-Decides xs xs).1 refl

all_true : (a b c d : Bool) → a ≡ true → b ≡ true → c ≡ true → d ≡ true → a && (b && (c && d)) ≡ true
all_true true true true true first second third last = refl
all_true false b c d first second third last = absurd (cc)
all_true true false c d first second third last = absurd (cc)
all_true true true false d first second third last = absurd (cc)
all_true true true true false first second third last = absurd (cc)

head_agrees : (d : Declared) → agrees (head_of d) d.class ≡ true
head_agrees d =
    all_true (d.class.number == d.class.number) (bytes_eq d.class.name d.class.name) (unwrap_or d.class.parent 0 == unwrap_or d.class.parent 0) (length d.class.triggers == length d.class.triggers)
    (itself d.class.number) (same_bytes d.class.name) (itself (unwrap_or d.class.parent 0)) (itself (length d.class.triggers))

-- ---- the class

module _ (added : List Added) (earlier : List Declared) (d : Declared) (is : IsClass ode added earlier d) where
  abbrev text : List ℕ
  text = decl_text d.tree

  abbrev known : List Class
  known = map class_of earlier

  abbrev own : List Added
  own = added_to d.class.number added

  abbrev broken : Ruled Class
  broken = Err (cause.Class d.class.number)

  read : read_in ode text ≡ Some d.tree
  read =
      ap (λ b. cond b (class_in (ode.statement_of (text ++ codes ";"))) None) (short_of d is.limits)
      ∙ ap class_in is.text

  abbrev agreed : Bool → Class → Ruled Class
  agreed b c = needs (cause.Class d.class.number) b >>= λ _. Ok c

  abbrev checked : Option Class → Ruled Class
  checked o = found (cause.Class d.class.number) o >>= λ c. agreed (agrees (head_of d) c) c

  abbrev printed : Bool → Ruled Class
  printed b = needs (cause.Class d.class.number) b >>= λ _. checked (accepted_in (compiled_grown known own d.tree))

  abbrev read_as : Option ClassDecl → Ruled (List Class)
  read_as o = declares_as o known own d.class.number (head_of d) text >>= λ c. Ok (known ++ c ∷ [])

  class_is : declares_as (Some d.tree) known own d.class.number (head_of d) text ≡ Ok d.class
  class_is =
      ap printed (same_bytes text)
      ∙ ap (λ (r : Answer Declared). checked (accepted_in r)) (compiles added earlier d is)
      ∙ ap (λ b. agreed b d.class) (head_agrees d)

  pub is_added : adds ode known own d.class.number (head_of d) text ≡ Ok (known ++ d.class ∷ [])
  is_added = ap read_as read ∙ ap (λ (m : Ruled Class). m >>= λ c. Ok (known ++ c ∷ [])) class_is
