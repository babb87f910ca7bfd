-- The tables of triggers fit together, and their sizes can be counted.
use Rattle.std.proofs.Common.{◌≡◌, ℕ, zero, suc, ◌+◌, ◌*◌, ◌<◌, ◌≤◌, ◌^◌, List, [], ◌∷◌, ◌++◌, length, map, refl, sym, subst, ◌∙◌, arith, length-append}
use Rattle.std.specs.Prelude.{slice_index}
use Rattle.std.specs.List.{AllByRecursion, EachIndex, enumerate_from, flat_map, range_with_len}
use Rattle.std.proofs.lemmas.List.{length-map}
use Rattle.std.proofs.lemmas.Nat.{mul-le}
use Rattle.ode_codec.specs.Standing.{HasTables, IsTableOf}
use Rattle.ode_codec.specs.Standing as standing
use Rattle.ode_codec.specs.StoredRows.{bit, places_of, table_bytes, u16}
use Rattle.ode_language.specs.Languages.{ode}
use Rattle.ode_table.specs.Whole.{IsWhole}
use Rattle.ode_value.specs.Classes.{Trigger, trigger_of}
use Rattle.ode_value.specs.GoodWorlds.{AreClasses, IsClass}
use Rattle.ode_value.specs.Lengths.{piece_count, table_length}
use Rattle.ode_value.specs.Limits.{state_limit, symbol_limit, value_limit}
use Rattle.ode_value.specs.Tables.{Table}
use Rattle.ode_value.specs.Worlds.{Declared}
use Rattle.ode_value.specs.declared.change.Added.{Added}
use Rattle.ode_value.specs.declared.member.TriggerDecl.{TriggerDecl}
use Rattle.ode_opening_laws.proofs.Limits.{IsLimited, few_triggers_of, triggers_limited}

-- ---- whole tables, as both crates say it

each_below : (ns : List ℕ) (most : ℕ) → AllByRecursion (λ q. q < most) ns → EachIndex ns (λ k. slice_index ns k < most)
each_below [] most all k less = absurd (omega (arith, less))
each_below (n ∷ ns) most all zero less = all.0
each_below (n ∷ ns) most all (suc k) less = each_below ns most all.1 k (omega (arith, less))

pub whole_of : (t : Table) → standing.IsWhole t → IsWhole t
whole_of t is = record { some = is.some; rows = is.next; answers = is.yes; numbers = each_below t.next t.states is.in_range }

-- ---- sizes

-- states are counted in two bytes and symbols in one, the bytes are as many as these say, and their pieces are counted in two bytes
pub record IsSized (t : Table) : Type 0 where
  pub states : t.states < 2 ^ 16
  pub symbols : t.symbols < 2 ^ 8
  pub bytes : length (table_bytes t) ≡ table_length t.states t.symbols
  pub few : piece_count (length (table_bytes t)) < 2 ^ 16

states_length : (ns : List ℕ) → length (flat_map u16 ns) ≡ 2 * length ns
states_length [] = refl
states_length (n ∷ ns) = length-append (u16 n) (flat_map u16 ns) ∙ omega (arith, states_length ns)

bytes_of : (t : Table) → standing.IsWhole t → length (table_bytes t) ≡ table_length t.states t.symbols
bytes_of t is = length-append (flat_map u16 t.next) (map bit t.yes) ∙ omega (arith, states_length t.next, length-map t.yes bit, is.next, is.yes)

few_bytes : (states symbols : ℕ) → states ≤ state_limit → symbols ≤ symbol_limit → table_length states symbols ≤ 2 * (state_limit * symbol_limit) + state_limit
few_bytes states symbols s m =
    let product : states * symbols ≤ state_limit * symbol_limit = mul-le states symbols state_limit symbol_limit s m in omega (arith, product, s)

few_pieces : (n : ℕ) → n ≤ 2 * (state_limit * symbol_limit) + state_limit → piece_count n < 2 ^ 16
unfolding value_limit
few_pieces n few = omega (arith, few)

pub sized_of : (tables : ℕ → ℕ → Table) (t : Trigger) → IsTableOf tables t → IsLimited t.decl → IsSized (tables t.class t.place)
sized_of tables t is few =
    let table = tables t.class t.place in
    let states : table.states ≤ state_limit = omega (arith, is.small, few.states) in
    let symbols : table.symbols ≤ symbol_limit = omega (arith, is.means.symbols, few.symbols) in
    let bytes : length (table_bytes table) ≡ table_length table.states table.symbols = bytes_of table is.whole in
    record {
      states = omega (arith, states);
      symbols = omega (arith, symbols);
      bytes = bytes;
      few = subst (λ (n : ℕ). piece_count n < 2 ^ 16) (sym bytes) (few_pieces (table_length table.states table.symbols) (few_bytes table.states table.symbols states symbols));
    }

-- ---- the tables of a class, by their places

-- a place is counted in two bytes, and the table there has a size
pub record IsSizedAt (tables : ℕ → ℕ → Table) (class place : ℕ) : Type 0 where
  pub place_is : place < 2 ^ 16
  pub sized : IsSized (tables class place)

-- a class whose tables have sizes
abbrev pub HasSizes : (ℕ → ℕ → Table) → Declared → Type 0
HasSizes tables d = AllByRecursion (IsSizedAt tables d.class.number) (places_of d)

sized_from : (tables : ℕ → ℕ → Table) (class first : ℕ) (ts : List TriggerDecl) → AllByRecursion (IsTableOf tables) (map (trigger_of class) (enumerate_from first ts))
    → AllByRecursion IsLimited ts → first + length ts ≤ 2 ^ 16 → AllByRecursion (IsSizedAt tables class) (range_with_len first (length ts))
sized_from tables class first [] mean few low = tt
sized_from tables class first (t ∷ ts) mean few low = (
  record { place_is = omega (arith, low); sized = sized_of tables (trigger_of class (first, t)) mean.0 few.0 },
  sized_from tables class (first + 1) ts mean.1 few.1 (omega (arith, low)),
)

has_sizes : (tables : ℕ → ℕ → Table) (added : List Added) (earlier : List Declared) (d : Declared) → IsClass ode added earlier d → HasTables tables d → HasSizes tables d
has_sizes tables added earlier d is mean =
    sized_from tables d.class.number 0 d.class.triggers mean (triggers_limited d is.limits) (omega (arith, few_triggers_of added earlier d is))

pub have_sizes : (tables : ℕ → ℕ → Table) (added : List Added) (earlier ds : List Declared) → AreClasses ode added earlier ds → AllByRecursion (HasTables tables) ds → AllByRecursion (HasSizes tables) ds
have_sizes tables added earlier [] classes mean = tt
have_sizes tables added earlier (d ∷ ds) classes mean = (has_sizes tables added earlier d classes.0 mean.0, have_sizes tables added (earlier ++ d ∷ []) ds classes.1 mean.1)
