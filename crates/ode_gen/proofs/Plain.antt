-- A text of plain bytes in which a `;` always comes soon ends by itself.
use Rattle.std.proofs.Common.{◌≡◌, ℕ, zero, suc, ◌+◌, ◌<◌, ◌≤◌, List, [], ◌∷◌, ◌++◌, length, Bool, true, false, refl, ap, ◌∙◌, arith, length-append}
use Rattle.std.specs.Prelude.{◌==◌, ◌||◌, ◌&&◌, not, nat_le, nat_lt, if◌then◌else◌}
use Rattle.std.specs.Str.{byte}
use Rattle.std.proofs.lemmas.Bool.Decides.{nat_tests}
use Rattle.ode_value.specs.Limits.{statement_limit}
use Rattle.ode_script.specs.Cutting.{Pieces, Then, Ended, End, LongStatement, cut, ending_of, is_full}
use Rattle.ode_script.specs.Pieces.{begun, depth_after, has_code, is_leading, line_after, outside_after, with_byte}

-- the byte opens no comment, no text and no brace, and closes none
abbrev pub is_plain : ℕ → Bool
is_plain b = not ((((b == byte "/") || (b == byte "\"")) || (b == byte "{")) || (b == byte "}"))

-- How many bytes stand behind the last `;` at most, with one more byte. At 100, and behind a byte that isn't plain, it is 100 for good.
abbrev pub run_after : (run b : ℕ) → ℕ
run_after run b = if nat_lt run 100 && is_plain b then (if b == byte ";" then 0 else run + 1) else 100

-- the same with a text
abbrev pub run_behind : (run : ℕ) → List ℕ → ℕ
run_behind run [] = run
run_behind run (b ∷ bs) = run_behind (run_after run b) bs

pub run_behind-append : (t u : List ℕ) (run : ℕ) → run_behind run (t ++ u) ≡ run_behind (run_behind run t) u
run_behind-append [] u run = refl
run_behind-append (b ∷ bs) u run = run_behind-append bs u (run_after run b)

too_long : (t : List ℕ) → run_behind 100 t ≡ 100
too_long [] = refl
too_long (b ∷ bs) = too_long bs

-- what holds of a byte behind which the run is short in the end
short : (is : Bool) (run : ℕ) (bs : List ℕ) → run_behind (if is then run else 100) bs < 100 → is ≡ true
short true run bs lt = refl
short false run bs lt = absurd (omega (arith, too_long bs))

pub both : (p q : Bool) → p && q ≡ true → (p ≡ true) × (q ≡ true)
both true q is = (refl, is)
both false q is = cc (is)

-- behind a plain byte the place is outside
place_stays : (slash quote left right : Bool) → not (((slash || quote) || left) || right) ≡ true → (if slash then outside_after (byte "/") else (if quote then outside_after (byte "\"") else (begun 0).place)) ≡ (begun 0).place
place_stays true quote left right plain = cc (plain)
place_stays false true left right plain = cc (plain)
place_stays false false left right plain = refl

-- and no brace is open
depth_stays : (slash quote left right : Bool) → not (((slash || quote) || left) || right) ≡ true → ◌≡◌ {A = ℕ} (if left then 1 else (if right then 0 else 0)) 0
depth_stays true quote left right plain = cc (plain)
depth_stays false true left right plain = cc (plain)
depth_stays false false true right plain = cc (plain)
depth_stays false false false true plain = refl
depth_stays false false false false plain = refl

-- so a piece stays outside comments, texts and braces
stays_open : (first : ℕ) (text : List ℕ) (b : ℕ) → is_plain b ≡ true → with_byte (record (begun first) { text = text }) b ≡ record (begun first) { text = text ++ b ∷ [] }
stays_open first text b plain =
    let place : outside_after b ≡ (begun 0).place = place_stays (b == byte "/") (b == byte "\"") (b == byte "{") (b == byte "}") plain in
    let depth : depth_after (begun 0).place 0 b ≡ 0 = depth_stays (b == byte "/") (b == byte "\"") (b == byte "{") (b == byte "}") plain in
    ap (λ is. record (with_byte (record (begun first) { text = text }) b) { place = is }) place
    ∙ ap (λ (is : ℕ). record (record (begun first) { text = text ++ b ∷ [] }) { depth = is }) depth

-- a short piece isn't full
has_room : (text : List ℕ) (run : ℕ) → length text ≤ run → nat_lt run 100 ≡ true → nat_le statement_limit (length text) ≡ false
unfolding statement_limit
has_room text run bound lt = grind (arith, nat_tests)

-- behind a plain byte other than `;` the run is one longer
run_on : (is ends : Bool) (run : ℕ) → is ≡ true → ends ≡ false → (if is then (if ends then 0 else run + 1) else 100) ≡ run + 1
run_on true false run holds on = refl
run_on true true run holds on = cc (on)
run_on false ends run holds on = cc (holds)

last_ends : (has : Bool) (first : ℕ) (text : List ℕ) → ending_of (if has then Then first text (Ended End) else Ended End) ≡ End
last_ends true first text = refl
last_ends false first text = refl

-- whatever a byte of a short piece does, the script ends by itself where what comes behind it does
byte_ends : (leading full last : Bool) (first : ℕ) (text : List ℕ) (blank behind more : Pieces) → full ≡ false
    → ending_of blank ≡ End → ending_of behind ≡ End → (last ≡ false → ending_of more ≡ End)
    → ending_of (if leading then blank else (if full then Ended LongStatement else (if last then Then first text behind else more))) ≡ End
byte_ends true full last first text blank behind more room a b c = a
byte_ends false true last first text blank behind more room a b c = cc (room)
byte_ends false false true first text blank behind more room a b c = b
byte_ends false false false first text blank behind more room a b c = c refl

-- a text behind a short piece, whose runs are short, ends by itself
pub plain_ends : (t : List ℕ) (first : ℕ) (text : List ℕ) (allowed line run : ℕ) → length text ≤ run → length t ≤ allowed → run_behind run t < 100
    → ending_of (cut (record (begun first) { text = text }) allowed line t) ≡ End
plain_ends [] first text allowed line run bound fits lt = last_ends (has_code (begun 0).place text) first text
plain_ends (b ∷ bs) first text zero line run bound fits lt = absurd (omega arith)
plain_ends (b ∷ bs) first text (suc n) line run bound fits lt =
    let fine = short (nat_lt run 100 && is_plain b) (if b == byte ";" then 0 else run + 1) bs lt in
    let parts = both (nat_lt run 100) (is_plain b) fine in
    let next = line_after line b in
    let behind = plain_ends bs next [] n next (run_after run b) (omega arith) (omega arith) lt in
    byte_ends (is_leading (record (begun first) { text = text }) b) (is_full (record (begun first) { text = text })) (b == byte ";") first (text ++ b ∷ [])
    (cut (begun next) n next bs) (cut (begun next) n next bs) (cut (with_byte (record (begun first) { text = text }) b) n next bs)
    (has_room text run bound parts.0) behind behind
    (λ on.
    let longer : run_after run b ≡ run + 1 = run_on (nat_lt run 100 && is_plain b) (b == byte ";") run fine on in
    ap (λ p. ending_of (cut p n next bs)) (stays_open first text b parts.1)
    ∙ plain_ends bs first (text ++ b ∷ []) n next (run_after run b) (omega (arith, length-append text (b ∷ []))) (omega arith) lt)
