-- Pieces of some bytes, and the bytes of tables.
use Rattle.std.proofs.Common.{◌≡◌, ◌<◌, ◌≤◌, ℕ, ◌+◌, ◌-◌, ◌*◌, ◌/◌, ◌^◌, List, [], ◌∷◌, ◌++◌, length, map, refl, ap, sym, ◌∙◌, arith, length-append, subst}
use Rattle.std.specs.List.{AllByRecursion, flat_map, sum_by}
use Rattle.std.proofs.Math.Nat.{le-div_iff_mul-le, div-le_of_le-mul, lt_of_not-le}
use Rattle.std.proofs.lemmas.List.{length-map}
use Rattle.std.proofs.lemmas.List.Sums.{sum_by-cons}
use Rattle.std.proofs.lemmas.Nat.{mul-le}
use Rattle.ode_value.specs.Lengths.{class_records, piece_count, table_length, table_records}
use Rattle.ode_value.specs.Limits.{class_limit, value_limit}
use Rattle.ode_value.specs.Tables.{Table}
use Rattle.ode_codec.specs.StoredRows.{bit, table_bytes, u16}
use Rattle.ode_table.specs.Whole.{IsWhole}
use Rattle.ode_compile.specs.Compiling.{size_of_table}
use Rattle.ode_class_records.specs.ClassRows.{IsSized}

-- what few bytes there are where there are few pieces
pub few_bytes : (v n most : ℕ) → 0 < v → (n + (v - 1)) / v ≤ most → n ≤ most * v
few_bytes v n most some few =
    let never : most * v + 1 ≤ n → ⊥ =
    λ h.
    let split : (most + 1) * v ≡ most * v + v = grind arith in
    let more : (most + 1) * v ≤ n + (v - 1) = omega (arith, h, split, some) in
    let many : most + 1 ≤ (n + (v - 1)) / v = (le-div_iff_mul-le some).1 more in
    omega (arith, many, few) in
    let below : n < most * v + 1 = lt_of_not-le never in
    omega (arith, below)

-- ---- the records of a class

tables_few : (ts : List Table) → length ts ≤ sum_by table_records (map size_of_table ts)
tables_few [] = omega arith
tables_few (t ∷ ts) = omega (arith, tables_few ts, sum_by-cons table_records (size_of_table t) (map size_of_table ts))

-- what fits where there are few of them
pub record AreFew (text : ℕ) (ts : List Table) : Type 0 where
  pub text_fits : text < 2 ^ 32
  pub pieces : piece_count text < 2 ^ 16
  pub tables : length ts < 2 ^ 16

pub few_parts : (text : ℕ) (ts : List Table) → class_records text (map size_of_table ts) ≤ class_limit → AreFew text ts
unfolding class_limit value_limit
few_parts text ts few =
    let pieces : piece_count text ≤ 1021 = omega (arith, few) in
    let most : text ≤ 1021 * value_limit = few_bytes value_limit text 1021 (omega arith) pieces in
    record {
      text_fits = omega (arith, most);
      pieces = omega (arith, pieces);
      tables = omega (arith, few, tables_few ts);
    }

-- ---- tables

states_length : (ns : List ℕ) → length (flat_map u16 ns) ≡ 2 * length ns
states_length [] = refl
states_length (n ∷ ns) = length-append (u16 n) (flat_map u16 ns) ∙ omega (arith, states_length ns)

few_pieces : (states symbols : ℕ) → states < 2 ^ 16 → symbols < 2 ^ 8 → piece_count (table_length states symbols) < 2 ^ 16
unfolding value_limit
few_pieces states symbols s m =
    let product : states * symbols ≤ 65535 * 255 = mul-le states symbols 65535 255 (omega (arith, s)) (omega (arith, m)) in
    let small : table_length states symbols + (value_limit - 1) ≤ value_limit * 65535 = omega (arith, product, s) in
    let few : piece_count (table_length states symbols) ≤ 65535 = div-le_of_le-mul value_limit small in
    omega (arith, few)

pub sized_by : (t : Table) → IsWhole t → piece_count (table_length t.states t.symbols) < 2 ^ 16 → IsSized t
sized_by t whole few = record {
  bytes =
      length-append (flat_map u16 t.next) (map bit t.yes)
      ∙ omega (arith, states_length t.next, length-map t.yes bit, whole.rows, whole.answers);
  few = few;
}

pub table_sized : (t : Table) → IsWhole t → t.states < 2 ^ 16 → t.symbols < 2 ^ 8 → IsSized t
table_sized t whole states symbols = sized_by t whole (few_pieces t.states t.symbols states symbols)

pub pieces_fit : (t : Table) (bytes : List ℕ) → bytes ≡ table_bytes t → IsSized t → piece_count (length bytes) < 2 ^ 16
pieces_fit t bytes is sized = subst (λ n. piece_count n < 2 ^ 16) (sym (ap length is ∙ sized.bytes)) sized.few

pub one_more : {X : Type 0} (P : X → Type 0) (xs : List X) (x : X) → AllByRecursion P xs → P x → AllByRecursion P (xs ++ x ∷ [])
one_more P [] x all here = (here, tt)
one_more P (y ∷ ys) x all here = (all.0, one_more P ys x all.1 here)
