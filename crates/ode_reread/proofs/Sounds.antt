-- What the tokens of a text say: numbers and references in their ranges.
use Rattle.std.proofs.Common.{◌≡◌, ◌≤◌, ◌<◌, ◌^◌, ℕ, zero, suc, ◌+◌, ◌-◌, ℤ, pos, negsuc, Bool, true, false, not, ◌&&◌, ◌||◌, ◌==◌, cond, codes, nat_le, List, [], ◌∷◌, ◌++◌, length, map, drop, Option, Some, None, option_map, option_and_then, arith, refl, sym, ◌∙◌, ap, subst}
use Rattle.std.specs.Char.{is_ascii_digit}
use Rattle.std.specs.List.{list_all, prefix_len, take_while}
use Rattle.std.specs.Str.{bytes_eq}
use Rattle.std.specs.Str.Parse.{digits_value}
use Rattle.std.proofs.lemmas.Bool.{false≢true}
use Rattle.std.proofs.lemmas.Bool.Decides.{nat_tests}
use Rattle.ode_lex.specs.Marks.{mark_at}
use Rattle.ode_lex.specs.Numerals.{is_plain, numeral_at}
use Rattle.ode_lex.specs.Texts.{text_length}
use Rattle.ode_lex.specs.Tokens.{begins_word, gap_at, lexed, lexed_from, number_at, placed, reference_at, reference_to, text_at, token_at, version_at, with_token, word_at, word_follows, Lexed, NoToken, Tokens}
use Rattle.ode_lex.specs.declared.token.Mark.{Mark}
use Rattle.ode_lex.specs.declared.token.Token.{Token}
use Rattle.ode_lex.specs.declared.token.TokenKind.{TokenKind}
use Rattle.ode_lex.specs.declared.token.TokenKind.TheVariants as kind
use Rattle.ode_grammar.specs.declared.terminal.Terminal.{Terminal}
use Rattle.ode_grammar.specs.declared.terminal.Terminal.TheVariants as terminal
use Rattle.ode_grammar.specs.Terminals.{stands_for}
use Rattle.ode_grammar.proofs.TerminalLaws.{stands_for-exactly, stands_for-itself, stands_for-trans}
use Rattle.ode_terminals.specs.declared.seen.Place.{Place}
use Rattle.ode_terminals.specs.declared.seen.Place.TheVariants as place_of
use Rattle.ode_terminals.specs.Seen.{instant_terminal, number_terminal, reference_terminal, seen, terminal_of, this_terminal}
use Rattle.ode_terminals.specs.Words.{free_words, looked_up, rows, word_terminal}
use Rattle.ode_value.specs.Limits.{choose_limit}
use Rattle.ode_value.specs.References.{IsRef}
use Rattle.ode_value.specs.Text.{is_name_byte}
use Rattle.ode_syntax.specs.Kept.{spelled, Spelled}
use Rattle.ode_relex.proofs.WordTokens.{both_true}

-- what a token's kind says is in its range
abbrev pub SoundKind : TokenKind → Type 0
SoundKind kind.Word = Unit {0}
SoundKind (kind.Number n) = (m : ℕ) × (n ≡ pos m) × (m < 2 ^ 63)
SoundKind kind.Text = Unit {0}
SoundKind (kind.Reference r) = (0 < r.object) × IsRef r
SoundKind (kind.Mark m) = Unit {0}

abbrev SoundFound : Option (TokenKind × ℕ) → Type 0
SoundFound None = Unit {0}
SoundFound (Some found) = SoundKind found.0

cond_sound : (c : Bool) (x y : Option (TokenKind × ℕ)) → SoundFound x → SoundFound y → SoundFound (cond c x y)
cond_sound true x y s t = s
cond_sound false x y s t = t

-- ---- numerals

cond_some : (c : Bool) (x y : ℕ × ℕ) → cond {A = Option (ℕ × ℕ)} c (Some x) None ≡ Some y → (c ≡ true) × (x ≡ y)
cond_some true x y e = (refl, cc)
cond_some false x y e = absurd (cc)

within : (least most n : ℕ) → nat_le least n ≡ true → nat_le n most ≡ true → (least ≤ n) × (n ≤ most)
within least most n e f = (grind (arith, nat_tests), grind (arith, nat_tests))

bounded : (least most : ℕ) (bytes : List ℕ) (found : ℕ × ℕ) → numeral_at least most bytes ≡ Some found → (least ≤ found.0) × (found.0 ≤ most)
unfolding numeral_at
bounded least most bytes found e =
    let ds = take_while is_ascii_digit bytes in
    let n = digits_value 10 ds in
    let x = cond_some (is_plain ds && (nat_le least n && nat_le n most)) (n, length ds) found e in
    let y = both_true (is_plain ds) (nat_le least n && nat_le n most) x.0 in
    let z = both_true (nat_le least n) (nat_le n most) y.1 in
    subst (λ (p : ℕ × ℕ). (least ≤ p.0) × (p.0 ≤ most)) x.1 (within least most n z.0 z.1)

-- ---- each row of the table

word_sound : (rest : List ℕ) → SoundFound (word_at rest)
unfolding word_at
word_sound rest =
    let n = 1 + prefix_len is_name_byte rest in
    cond_sound (nat_le n 64) (Some (kind.Word, n)) None tt tt

number_sound : (bytes : List ℕ) → SoundFound (number_at bytes)
unfolding number_at
number_sound bytes = go (numeral_at 0 9223372036854775807 bytes) (λ found e. bounded 0 9223372036854775807 bytes found e)
  where
    go : (o : Option (ℕ × ℕ)) → ((found : ℕ × ℕ) → o ≡ Some found → (0 ≤ found.0) × (found.0 ≤ 9223372036854775807))
        → SoundFound (option_and_then (λ found. cond (word_follows (drop found.1 bytes)) None (Some (kind.Number (pos found.0), found.1))) o)
    go None b = tt
    go (Some f) b = let l = b f refl in cond_sound (word_follows (drop f.1 bytes)) None (Some (kind.Number (pos f.0), f.1)) tt (f.0, refl, omega arith)

text_sound : (rest : List ℕ) → SoundFound (text_at rest)
unfolding text_at
text_sound rest = go (text_length rest)
  where
    go : (o : Option ℕ) → SoundFound (option_map (λ n. (kind.Text, 1 + n)) o)
    go None = tt
    go (Some n) = tt

mapped_some : (o : Option (ℕ × ℕ)) (found : ℕ × ℕ) → option_map {U = ℕ × ℕ} (λ f. (f.0, 1 + f.1)) o ≡ Some found → (f : ℕ × ℕ) × (o ≡ Some f) × (f.0 ≡ found.0)
mapped_some None found e = absurd (cc)
mapped_some (Some f) found e = (f, refl, ap first e)
  where
    first : Option (ℕ × ℕ) → ℕ
    first None = 0
    first (Some p) = p.0

version_bounded : (bytes : List ℕ) (found : ℕ × ℕ) → version_at bytes ≡ Some found → (1 ≤ found.0) × (found.0 ≤ 4294967295)
unfolding version_at
version_bounded [] found e = absurd (cc)
version_bounded (b ∷ rest) found e = cases (b == 64) e
  where
    cases : (c : Bool) → cond c (option_map (λ f. (f.0, 1 + f.1)) (numeral_at 1 4294967295 rest)) None ≡ Some found → (1 ≤ found.0) × (found.0 ≤ 4294967295)
    cases true e =
        let f = mapped_some (numeral_at 1 4294967295 rest) found e in
        subst (λ n. (1 ≤ n) × (n ≤ 4294967295)) f.2 (bounded 1 4294967295 rest f.0 f.1)
    cases false e = absurd (cc)

reference_to_sound : (o n : ℕ) (version : Option (ℕ × ℕ)) → 1 ≤ o → o ≤ 18446744073709551615
    → ((found : ℕ × ℕ) → version ≡ Some found → (1 ≤ found.0) × (found.0 ≤ 4294967295)) → SoundKind (reference_to o n version).0
reference_to_sound o n None some small b = (omega arith, record { object = omega arith; version = tt })
reference_to_sound o n (Some v) some small b = let l = b v refl in (omega arith, record { object = omega arith; version = (omega arith, omega arith, omega arith) })

reference_sound : (rest : List ℕ) → SoundFound (reference_at rest)
unfolding reference_at
reference_sound rest = go (numeral_at 1 18446744073709551615 rest) (λ found e. bounded 1 18446744073709551615 rest found e)
  where
    go : (o : Option (ℕ × ℕ)) → ((found : ℕ × ℕ) → o ≡ Some found → (1 ≤ found.0) × (found.0 ≤ 18446744073709551615))
        → SoundFound (option_map (λ found. reference_to found.0 (1 + found.1) (version_at (drop found.1 rest))) o)
    go None b = tt
    go (Some f) b =
        let l = b f refl in
        reference_to_sound f.0 (1 + f.1) (version_at (drop f.1 rest)) l.0 l.1 (λ found e. version_bounded (drop f.1 rest) found e)

mark_sound : (o : Option (Mark × ℕ)) → SoundFound (option_map (λ found. (kind.Mark found.0, found.1)) o)
mark_sound None = tt
mark_sound (Some f) = tt

token_sound : (bytes : List ℕ) → SoundFound (token_at bytes)
unfolding token_at
token_sound [] = tt
token_sound (b ∷ rest) =
    cond_sound (begins_word b) (word_at rest) _ (word_sound rest)
    (cond_sound (is_ascii_digit b) (number_at (b ∷ rest)) _ (number_sound (b ∷ rest))
    (cond_sound (b == 34) (text_at rest) _ (text_sound rest)
    (cond_sound (b == 35) (reference_at rest) _ (reference_sound rest) (mark_sound (mark_at (b ∷ rest))))))

-- ---- whole texts

abbrev SoundTokens : List Token → Type 0
SoundTokens [] = Unit {0}
SoundTokens (t ∷ ts) = SoundKind t.kind × SoundTokens ts

abbrev SoundLexed : Lexed → Type 0
SoundLexed (Tokens tokens) = SoundTokens tokens
SoundLexed (NoToken at) = Unit {0}

with_sound : (t : Token) (l : Lexed) → SoundKind t.kind → SoundLexed l → SoundLexed (with_token t l)
with_sound t (Tokens ts) s r = (s, r)
with_sound t (NoToken at) s r = tt

placed_sound : (at gap : ℕ) (o : Option (TokenKind × ℕ)) (behind : ℕ → Lexed) → SoundFound o → ((n : ℕ) → SoundLexed (behind n)) → SoundLexed (placed at gap o behind)
placed_sound at (suc n) o behind s r = r n
placed_sound at zero None behind s r = tt
placed_sound at zero (Some f) behind s r = with_sound (record { kind = f.0; start = at; end = at + f.1 }) (behind (f.1 - 1)) s (r (f.1 - 1))

lexed_sound : (at past : ℕ) (bytes : List ℕ) → SoundLexed (lexed_from at past bytes)
unfolding lexed_from
lexed_sound at past [] = tt
lexed_sound at (suc past) (b ∷ rest) = lexed_sound (at + 1) past rest
lexed_sound at zero (b ∷ rest) =
    placed_sound at (gap_at (b ∷ rest)) (token_at (b ∷ rest)) (λ n. lexed_from (at + 1) n rest) (token_sound (b ∷ rest)) (λ n. lexed_sound (at + 1) n rest)

-- the token is seen as its kind and bytes are, or as a name where they may be one, and what it says is in its range
pub record Sound (place : Place) (t : Spelled) : Type 0 where
  pub stands : stands_for (seen place t.bytes t.kind) t.terminal ≡ true
  pub says : SoundKind t.kind

abbrev pub Sounds : Place → List Spelled → Type 0
Sounds place [] = Unit {0}
Sounds place (t ∷ ts) = Sound place t × Sounds place ts

all_sound : (place : Place) (text : List ℕ) (tokens : List Token) → SoundTokens tokens → Sounds place (map (spelled place text) tokens)
all_sound place text [] s = tt
all_sound place text (t ∷ ts) s = (record { stands = stands_for-itself (terminal_of place text t); says = s.0 }, all_sound place text ts s.1)

pub text_sounds : (place : Place) (text : List ℕ) (tokens : List Token) → lexed text ≡ Tokens tokens → Sounds place (map (spelled place text) tokens)
unfolding lexed
text_sounds place text tokens e = all_sound place text tokens (subst SoundLexed e (lexed_sound 0 0 text))

-- what is no name is seen as it is
pub seen_as : (p : Terminal → Bool) → p terminal.Name ≡ false → {place : Place} {t : Spelled} → Sound place t → p t.terminal ≡ true
    → t.terminal ≡ seen place t.bytes t.kind
seen_as p f {place = place} {t = t} s h = sym (stands_for-exactly p f (seen place t.bytes t.kind) t.terminal s.stands h)

-- a token that stands for another is as sound
pub sound_so : (place : Place) (t : Spelled) (k : Terminal) → stands_for t.terminal k ≡ true → Sound place t
    → Sound place (record { terminal = k; kind = t.kind; bytes = t.bytes })
sound_so place t k e s = record { stands = stands_for-trans (seen place t.bytes t.kind) t.terminal k s.stands e; says = s.says }

-- ---- operators are marks

abbrev pub is_operator : Terminal → Bool
is_operator terminal.Not = true
is_operator terminal.Minus = true
is_operator terminal.Plus = true
is_operator terminal.Times = true
is_operator terminal.Compares = true
is_operator terminal.AndAnd = true
is_operator terminal.OrOr = true
is_operator other = false

pub either : (p : Terminal → Bool) (c : Bool) (x y : Terminal) → p x ≡ false → p y ≡ false → p (cond c x y) ≡ false
either p true x y e f = e
either p false x y e f = f

pub never : (p : Terminal → Bool) (rs : List (List ℕ × Terminal)) (w : List ℕ) → list_all (λ (r : List ℕ × Terminal). not (p r.1)) rs ≡ true → p terminal.Name ≡ false
    → p (looked_up rs w) ≡ false
never p [] w e f = f
never p (r ∷ rs) w e f =
    let x = both_true (not (p r.1)) (list_all (λ (r : List ℕ × Terminal). not (p r.1)) rs) e in
    either p (bytes_eq r.0 w) r.1 (looked_up rs w) (is_no (p r.1) x.0) (never p rs w x.1 f)
  where
    is_no : (c : Bool) → not c ≡ true → c ≡ false
    is_no true e = absurd (false≢true e)
    is_no false e = refl

word_no_operator : (w : List ℕ) → is_operator (word_terminal w) ≡ false
unfolding word_terminal
word_no_operator w = never is_operator (rows ++ free_words) w refl refl

this_no_operator : (place : Place) → is_operator (this_terminal place) ≡ false
this_no_operator place_of.Script = refl
this_no_operator place_of.Class = refl
this_no_operator place_of.Change = refl
this_no_operator place_of.Query = refl
this_no_operator place_of.Comparison = refl
this_no_operator place_of.Anywhere = refl

reference_no_operator : (place : Place) → is_operator (reference_terminal place) ≡ false
reference_no_operator place_of.Script = refl
reference_no_operator place_of.Class = refl
reference_no_operator place_of.Change = refl
reference_no_operator place_of.Query = refl
reference_no_operator place_of.Comparison = refl
reference_no_operator place_of.Anywhere = refl

number_no_operator : (n : ℤ) → is_operator (number_terminal n) ≡ false
number_no_operator (pos n) =
    either is_operator (n == 0 || nat_le (2 ^ 32) n) terminal.Number (cond (nat_le n choose_limit) terminal.Count terminal.Seconds) refl
    (either is_operator (nat_le n choose_limit) terminal.Count terminal.Seconds refl refl)
number_no_operator (negsuc n) = refl

text_no_operator : (o : Option ℤ) → is_operator (instant_terminal o) ≡ false
text_no_operator None = refl
text_no_operator (Some n) = refl

pub operator_is_mark : (place : Place) (k : Terminal) (kd : TokenKind) (bytes : List ℕ) → k ≡ seen place bytes kd → is_operator k ≡ true
    → (m : Mark) × (kd ≡ kind.Mark m)
operator_is_mark place k kind.Word bytes e o =
    absurd (false≢true (sym (either is_operator (bytes_eq bytes (codes "this")) (this_terminal place) (word_terminal bytes) (this_no_operator place) (word_no_operator bytes)) ∙ (ap is_operator (sym e) ∙ o)))
operator_is_mark place k (kind.Number n) bytes e o = absurd (false≢true (sym (number_no_operator n) ∙ (ap is_operator (sym e) ∙ o)))
operator_is_mark place k kind.Text bytes e o = absurd (false≢true (sym (text_no_operator _) ∙ (ap is_operator (sym e) ∙ o)))
operator_is_mark place k (kind.Reference r) bytes e o = absurd (false≢true (sym (reference_no_operator place) ∙ (ap is_operator (sym e) ∙ o)))
operator_is_mark place k (kind.Mark m) bytes e o = (m, refl)
