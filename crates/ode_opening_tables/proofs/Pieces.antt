-- Bytes that are read piece by piece.
use Rattle.std.proofs.Common.{◌≡◌, ◌<◌, ◌≤◌, ◌^◌, ℕ, zero, suc, ◌+◌, ◌-◌, ◌*◌, List, ◌++◌, length, min, take, drop, Bool, true, false, cond, Option, Some, None, refl, sym, ap, subst, ◌∙◌, ⊎_elim, arith, length-drop}
use Rattle.std.specs.Prelude.{◌==◌}
use Rattle.std.specs.Option.{option_and_then}
use Rattle.std.proofs.lemmas.Bool.{cases_lt}
use Rattle.std.proofs.lemmas.Bool.Decides.{nat_tests}
use Rattle.std.proofs.lemmas.List.{drop-append-le, length-take, take-append-le, take_all}
use Rattle.std.proofs.lemmas.Nat.{mul-le}
use Rattle.std.proofs.Math.Seq.{drop-append_seam}
use Rattle.ode_codec.specs.declared.record.TheConstants.{TABLE_PLACES}
use Rattle.ode_keep.specs.Entries.{Entries, value_under}
use Rattle.ode_opening_tables.proofs.StoredOnce.{AreThere}
use Rattle.ode_opening_tables.specs.Answers.{IsPiece, Joins, piece_in}
use Rattle.ode_value.specs.Keys.{key, table_piece_kind}
use Rattle.ode_value.specs.Lengths.{piece_count, table_length}
use Rattle.ode_value.specs.Limits.{value_limit}
use Rattle.ode_value.specs.declared.key.Key.{Key}

-- ---- how many pieces

goes_on : (count long piece : ℕ) → long ≡ min (piece * value_limit) count → long < count → long ≡ piece * value_limit
unfolding value_limit
goes_on count long piece is less = omega arith

one_more : (count piece : ℕ) → piece * value_limit < count → piece + 1 ≤ piece_count count
unfolding value_limit
one_more count piece less = omega arith

all_there : (count piece : ℕ) → piece ≤ piece_count count → count ≤ min (piece * value_limit) count → piece_count count ≡ piece
unfolding value_limit
all_there count piece few all = omega arith

longer : (count long own piece : ℕ) → long ≡ piece * value_limit → long < count → own ≡ min (count - long) value_limit → long + own ≡ min ((piece + 1) * value_limit) count
unfolding value_limit
longer count long own piece is less next = omega arith

is_full : (long piece n : ℕ) → long ≡ piece * value_limit → n < piece → value_limit ≤ long - n * value_limit
unfolding value_limit
is_full long piece n is less = omega arith

inside : (long piece n : ℕ) → long ≡ piece * value_limit → n < piece → n * value_limit ≤ long
unfolding value_limit
inside long piece n is less = omega arith

is_short : (own left : ℕ) → own ≡ min left value_limit → own ≤ value_limit
is_short own left is = omega arith

none_yet : (count : ℕ) → 0 ≡ min (0 * value_limit) count
unfolding value_limit
none_yet count = omega arith

-- two bytes count the pieces of a table
pub few_pieces : (states symbols : ℕ) → states < 2 ^ 16 → symbols < 2 ^ 8 → piece_count (table_length states symbols) < 2 ^ 16
unfolding value_limit
few_pieces states symbols low few =
    let product : states * symbols ≤ 65535 * 255 = mul-le states symbols 65535 255 (omega (arith, low)) (omega (arith, few)) in
    omega (arith, product, low)

-- ---- which pieces

-- a piece of so many bytes that are left
pub its_length : (left : ℕ) (value : Option (List ℕ)) (piece : List ℕ) → IsPiece value left (Some piece) → (value ≡ Some piece) × (length piece ≡ min left value_limit)
its_length left None piece is = absurd (cc (is))
its_length left (Some x) piece is = by (length x == min left value_limit) refl is
  where
    by : (b : Bool) → (length x == min left value_limit) ≡ b → Some piece ≡ cond b (Some x) None → (Some x ≡ Some piece) × (length piece ≡ min left value_limit)
    by true test e =
        let same : x ≡ piece = cc (e) in
        let long : length x ≡ min left value_limit = grind (arith, nat_tests) in
        (ap (λ (y : List ℕ). Some y) same, sym (ap length same) ∙ long)
    by false test e = absurd (cc (e))

module _ (left : ℕ) (value : Option (List ℕ)) where
  pub no_value : value ≡ None → IsPiece value left None
  no_value none = sym (ap (option_and_then (piece_in left)) none)

  module _ (piece : List ℕ) (is : value ≡ Some piece) where
    tested : (b : Bool) → (length piece == min left value_limit) ≡ b → option_and_then (piece_in left) value ≡ cond b (Some piece) None
    tested b test = ap (option_and_then (piece_in left)) is ∙ ap (λ t. cond t (Some piece) None) test

    pub is_piece : length piece ≡ min left value_limit → IsPiece value left (Some piece)
    is_piece long = let test : (length piece == min left value_limit) ≡ true = grind (arith, nat_tests) in sym (tested true test)

    pub not_piece : (length piece ≡ min left value_limit → ⊥) → IsPiece value left None
    not_piece other = let test : (length piece == min left value_limit) ≡ false = grind (arith, nat_tests) in sym (tested false test)

-- the same of a key, a length and an answer that are the same
pub piece_as : (entries : Entries) (k l : Key) (n m : ℕ) (o p : Option (List ℕ)) → k ≡ l → n ≡ m → o ≡ p → IsPiece (value_under entries k) n o → IsPiece (value_under entries l) m p
piece_as entries k l n m o p same left found is =
    sym found
    ∙ is
    ∙ ap (λ (q : Key). option_and_then (piece_in n) (value_under entries q)) same
    ∙ ap (λ (x : ℕ). option_and_then (piece_in x) (value_under entries l)) left

-- what is as long is a piece
not_none : (left : ℕ) (value : Option (List ℕ)) (x : List ℕ) → value ≡ Some x → length x ≡ min left value_limit → IsPiece value left None → ⊥
not_none left value x is long none =
    let test : (length x == min left value_limit) ≡ true = grind (arith, nat_tests) in
    let given : option_and_then (piece_in left) value ≡ Some x = ap (option_and_then (piece_in left)) is ∙ ap (λ b. cond b (Some x) None) test in
    cc (none, given)

module _ (entries : Entries) (class place : ℕ) where
  -- the value under a piece's key
  abbrev pub value_at : ℕ → Option (List ℕ)
  value_at n = value_under entries (key table_piece_kind class (place * TABLE_PLACES + n))

  -- a piece of some bytes is there
  abbrev pub HasPiece : List ℕ → ℕ → Type 0
  HasPiece bytes n = value_at n ≡ Some (take value_limit (drop (n * value_limit) bytes))

  are_there : (bytes : List ℕ) (i c : ℕ) → ((n : ℕ) → i ≤ n → n < i + c → HasPiece bytes n) → AreThere entries class place bytes i c
  are_there bytes i zero all = tt
  are_there bytes i (suc c) all = (all i (omega arith) (omega arith), are_there bytes (i + 1) c (λ n from below. all n (omega (arith, from)) (omega (arith, below))))

  is_there : (bytes : List ℕ) (i c : ℕ) → AreThere entries class place bytes i c → (n : ℕ) → i ≤ n → n < i + c → HasPiece bytes n
  is_there bytes i zero all n from below = absurd (omega (arith, from, below))
  is_there bytes i (suc c) all n from below = ⊎_elim
      (λ (after : i < n). is_there bytes (i + 1) c all.1 n (omega (arith, after)) (omega (arith, below)))
      (λ (here : n ≤ i). let same : i ≡ n = omega (arith, from, here) in subst (HasPiece bytes) same all.0)
      (cases_lt i n)

-- so many pieces of so many bytes were read
pub record IsPartly (entries : Entries) (class place count : ℕ) (bytes : List ℕ) (piece : ℕ) : Type 0 where
  pub there : (n : ℕ) → n < piece → HasPiece entries class place bytes n

pub record IsPart (count long piece : ℕ) : Type 0 where
  pub long_is : long ≡ min (piece * value_limit) count
  pub few : piece ≤ piece_count count

pub none_read : (count : ℕ) → IsPart count 0 0
none_read count = record { long_is = none_yet count; few = omega arith }

pub part_more : (count long own piece : ℕ) → IsPart count long piece → long < count → own ≡ min (count - long) value_limit → IsPart count (long + own) (piece + 1)
part_more count long own piece part less next =
    let here = goes_on count long piece part.long_is less in
    record { long_is = longer count long own piece here less next; few = one_more count piece (subst (λ n. n < count) here less) }

pub below_all : (count long piece : ℕ) → IsPart count long piece → long < count → piece < piece_count count
below_all count long piece part less =
    let more = one_more count piece (subst (λ n. n < count) (goes_on count long piece part.long_is less) less) in omega (arith, more)

module _ (entries : Entries) (class place count : ℕ) (bytes : List ℕ) (piece : ℕ) (part : IsPart count (length bytes) piece) where
  -- one piece more
  pub read_more : IsPartly entries class place count bytes piece → length bytes < count → (next : List ℕ) → IsPiece (value_at entries class place piece) (count - length bytes) (Some next)
      → IsPartly entries class place count (bytes ++ next) (piece + 1)
  read_more read less next is =
      let long = goes_on count (length bytes) piece part.long_is less in
      let own = its_length (count - length bytes) (value_at entries class place piece) next is in
      let short : length next ≤ value_limit = is_short (length next) (count - length bytes) own.1 in
      let before : (n : ℕ) → n < piece → HasPiece entries class place (bytes ++ next) n =
      λ n earlier.
      let within = inside (length bytes) piece n long earlier in
      let full : value_limit ≤ length (drop (n * value_limit) bytes) = subst (λ k. value_limit ≤ k) (sym (length-drop (n * value_limit) bytes)) (is_full (length bytes) piece n long earlier) in
      read.there n earlier
      ∙ ap (λ (x : List ℕ). Some x) (sym (ap (take value_limit) (drop-append-le (n * value_limit) bytes next within) ∙ take-append-le value_limit (drop (n * value_limit) bytes) next full)) in
      let last : HasPiece entries class place (bytes ++ next) piece =
      own.0
      ∙ ap (λ (x : List ℕ). Some x)
      (sym (ap (λ k. take value_limit (drop k (bytes ++ next))) (sym long) ∙ ap (take value_limit) (drop-append_seam bytes next) ∙ take_all value_limit next short)) in
      record {
        there = λ n below. ⊎_elim
            (λ (earlier : n < piece). before n earlier)
            (λ (late : piece ≤ n). let same : piece ≡ n = omega (arith, late, below) in subst (HasPiece entries class place (bytes ++ next)) same last)
            (cases_lt n piece);
      }

  -- all were read
  pub all_read : IsPartly entries class place count bytes piece → count ≤ length bytes → Joins entries class place count (Some bytes)
  all_read read all =
      let pieces : piece_count count ≡ piece = all_there count piece part.few (subst (λ n. count ≤ n) part.long_is all) in
      let long : length bytes ≡ count = omega (arith, all, part.long_is) in
      record {
        count_is = long;
        pieces =
            subst (λ n. AreThere entries class place bytes 0 n) (sym (ap piece_count long ∙ pieces))
            (are_there entries class place bytes 0 piece (λ n from below. read.there n (omega (arith, below))));
      }

  -- one isn't there
  pub never_joined : length bytes < count → IsPiece (value_at entries class place piece) (count - length bytes) None → Joins entries class place count None
  never_joined less none = λ other joined.
      let long = goes_on count (length bytes) piece part.long_is less in
      let pieces : AreThere entries class place other 0 (piece_count count) = subst (λ n. AreThere entries class place other 0 (piece_count n)) joined.count_is joined.pieces in
      let at : HasPiece entries class place other piece = is_there entries class place other 0 (piece_count count) pieces piece (omega arith) (omega (arith, below_all count (length bytes) piece part less)) in
      let rest : length (drop (piece * value_limit) other) ≡ count - length bytes =
      length-drop (piece * value_limit) other ∙ ap (λ n. n - piece * value_limit) joined.count_is ∙ ap (λ n. count - n) (sym long) in
      let own : length (take value_limit (drop (piece * value_limit) other)) ≡ min (count - length bytes) value_limit =
      omega (arith, length-take value_limit (drop (piece * value_limit) other), rest) in
      not_none (count - length bytes) (value_at entries class place piece) (take value_limit (drop (piece * value_limit) other)) at own none
