-- What bytes spell: the size of a table, its states and its answers.
use Rattle.std.proofs.Common.{◌≡◌, ◌≢◌, ◌<◌, ◌^◌, ℕ, ◌+◌, ◌*◌, List, [], ◌∷◌, ◌++◌, map, length, take, drop, get_or, Bool, true, false, Option, Some, None, refl, sym, ap, subst, ◌∙◌, arith, length-drop}
use Rattle.std.specs.List.{flat_map}
use Rattle.std.specs.Option.{IfSome}
use Rattle.std.proofs.lemmas.Grind.{flat_map-append}
use Rattle.std.proofs.lemmas.List.{append-nil, map-append, take-append-drop, take_all, take_more}
use Rattle.std.proofs.Math.Seq.{take-add}
use Rattle.ode_codec.specs.StoredRows.{bit, table_bytes, u16}
use Rattle.ode_opening_tables.proofs.StoredOnce.{AreShort, bits_once, each_short, numbers_once, same_table}
use Rattle.ode_opening_tables.specs.Answers.{AreAnswers, IsOfBytes, TableOf, heads}
use Rattle.ode_table.specs.Whole.{IsWhole}
use Rattle.ode_value.specs.Tables.{Table}

-- ---- a size

pub head_is : (v front back : List ℕ) → length v ≡ 3 → front ≡ take 2 (drop 0 v) → back ≡ take 1 (drop 2 v) → v ≡ front ++ back
head_is v front back long one two =
    let last : take 1 (drop 2 v) ≡ drop 2 v = take_all 1 (drop 2 v) (omega (arith, length-drop 2 v, long)) in
    sym (take-append-drop 2 v) ∙ ap (λ xs. xs ++ drop 2 v) (sym one) ∙ ap (λ xs. front ++ xs) (sym (two ∙ last))

pub no_head : (v : List ℕ) → length v ≢ 3 → (states symbols : ℕ) → v ≡ heads states symbols → ⊥
no_head v other states symbols is = other (ap length is)

-- ---- states

pub state_more : (next bytes : List ℕ) (place state : ℕ) → flat_map u16 next ≡ take (2 * place) bytes → u16 state ≡ take 2 (drop (2 * place) bytes)
    → flat_map u16 (next ++ state ∷ []) ≡ take (2 * (place + 1)) bytes
state_more next bytes place state so_far here =
    let twice : 2 * place + 2 ≡ 2 * (place + 1) = omega arith in
    flat_map-append u16 next (state ∷ [])
    ∙ ap (λ xs. flat_map u16 next ++ xs) (append-nil (u16 state))
    ∙ ap (λ xs. xs ++ u16 state) so_far
    ∙ ap (λ xs. take (2 * place) bytes ++ xs) here
    ∙ sym (take-add (2 * place) 2 bytes)
    ∙ ap (λ n. take n bytes) twice

pub short_more : (next : List ℕ) (state : ℕ) → AreShort next → state < 2 ^ 16 → AreShort (next ++ state ∷ [])
short_more [] state short low = (low, tt)
short_more (n ∷ next) state short low = (short.0, short_more next state short.1 low)

-- ---- answers

pub answers_more : (answers : List Bool) (answer : Bool) (bytes : List ℕ) (i : ℕ) → i < length bytes → map bit answers ≡ take i bytes → bit answer ∷ [] ≡ get_or bytes i 0 ∷ []
    → map bit (answers ++ answer ∷ []) ≡ take (i + 1) bytes
answers_more answers answer bytes i inside so_far here =
    map-append bit answers (answer ∷ [])
    ∙ ap (λ xs. xs ++ bit answer ∷ []) so_far
    ∙ ap (λ xs. take i bytes ++ xs) here
    ∙ sym (take_more bytes i 0 inside)

pub no_answer : (byte : ℕ) → byte ≢ 0 → byte ≢ 1 → (answers : List Bool) → map bit answers ≡ byte ∷ [] → ⊥
no_answer byte not_0 not_1 [] is = cc (is)
no_answer byte not_0 not_1 (true ∷ answers) is = let same : byte ≡ 1 = cc (is) in not_1 same
no_answer byte not_0 not_1 (false ∷ answers) is = let same : byte ≡ 0 = cc (is) in not_0 same

-- a byte that is no answer stands at no place of answers
pub no_answers : (bytes front : List ℕ) (byte : ℕ) (rest : List ℕ) → bytes ≡ front ++ byte ∷ rest → AreAnswers (byte ∷ []) None → AreAnswers bytes None
no_answers bytes [] byte rest is none [] spells = cc (is, spells)
no_answers bytes [] byte rest is none (y ∷ answers) spells = let same : bit y ≡ byte = cc (is, spells) in none (y ∷ []) (ap (λ b. b ∷ []) same)
no_answers bytes (f ∷ front) byte rest is none [] spells = cc (is, spells)
no_answers bytes (f ∷ front) byte rest is none (y ∷ answers) spells =
    let more : map bit answers ≡ front ++ byte ∷ rest = cc (is, spells) in no_answers (front ++ byte ∷ rest) front byte rest refl none answers more

-- ---- a table

pub joined_parts : (mid : ℕ) (bytes front back : List ℕ) → front ≡ take mid bytes → back ≡ drop mid bytes → bytes ≡ front ++ back
joined_parts mid bytes front back one two = sym (ap (λ xs. xs ++ back) one ∙ ap (λ xs. take mid bytes ++ xs) two ∙ take-append-drop mid bytes)

pub all_states : (n : ℕ) (next bytes : List ℕ) → flat_map u16 next ≡ take n bytes → length bytes ≡ n → flat_map u16 next ≡ bytes
all_states n next bytes spelled long = spelled ∙ take_all n bytes (omega (arith, long))

module _ (states symbols : ℕ) (bytes next_bytes yes_bytes next : List ℕ) (split : bytes ≡ next_bytes ++ yes_bytes) (spelled : flat_map u16 next ≡ next_bytes) where
  pub table_of : (answers : List Bool) (t : Table) → map bit answers ≡ yes_bytes → IsWhole t → t ≡ record { states = states; symbols = symbols; next = next; yes = answers } → IsOfBytes states symbols bytes t
  table_of answers t spells whole is = record {
    whole = whole;
    states_are = ap (λ (x : Table). x.states) is;
    symbols_are = ap (λ (x : Table). x.symbols) is;
    bytes_are = ap table_bytes is ∙ ap (λ xs. xs ++ map bit answers) spelled ∙ ap (λ xs. next_bytes ++ xs) spells ∙ sym split;
  }

  module _ (low : states < 2 ^ 16) (short : AreShort next) (count : length next ≡ states * symbols) (t : Table) (is : IsOfBytes states symbols bytes t) where
    -- a table of these bytes has these states, and its answers are behind them
    parts : (t.next ≡ next) × (map bit t.yes ≡ yes_bytes)
    parts =
        let rows : length t.next ≡ length next =
        is.whole.rows ∙ ap (λ n. n * t.symbols) is.states_are ∙ ap (λ n. states * n) is.symbols_are ∙ sym count in
        let here : flat_map u16 t.next ++ map bit t.yes ≡ flat_map u16 next ++ yes_bytes = is.bytes_are ∙ split ∙ ap (λ xs. xs ++ yes_bytes) (sym spelled) in
        numbers_once t.next next (map bit t.yes) yes_bytes (each_short t.next t.states (subst (λ n. n < 2 ^ 16) (sym is.states_are) low) is.whole.numbers) short rows here

    pub no_table : AreAnswers yes_bytes None → ⊥
    no_table none = none t.yes parts.1

    pub its_parts : (answers : List Bool) → map bit answers ≡ yes_bytes → t ≡ record { states = states; symbols = symbols; next = next; yes = answers }
    its_parts answers spells =
        let its : Table = record { states = states; symbols = symbols; next = next; yes = answers } in
        same_table t its is.states_are is.symbols_are parts.0 (bits_once t.yes answers (parts.1 ∙ sym spells))

  -- what the parts come to is what the bytes come to
  pub found_of : (low : states < 2 ^ 16) → AreShort next → length next ≡ states * symbols → (answers : List Bool) → map bit answers ≡ yes_bytes → (found : Option Table)
      → IfSome found (λ t. t ≡ record { states = states; symbols = symbols; next = next; yes = answers }) → IfSome found IsWhole
      → (found ≡ None → IsWhole (record { states = states; symbols = symbols; next = next; yes = answers }) → ⊥) → TableOf states symbols bytes found
  found_of low short count answers spells (Some t) is whole never = table_of answers t spells whole is
  found_of low short count answers spells None is whole never = λ t of.
      never refl (subst IsWhole (its_parts low short count t of answers spells) of.whole)
