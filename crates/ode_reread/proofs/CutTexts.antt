-- What a text is cut into is what its lexer finds.
use Rattle.std.proofs.Common.{◌≡◌, ℕ, ◌+◌, ◌-◌, ◌<◌, List, [], ◌∷◌, ◌++◌, length, drop, take, map, Some, arith, sym, ◌∙◌, ap, refl, subst, append_assoc}
use Rattle.std.proofs.lemmas.List.{length-append}
use Rattle.ode_lex.specs.Tokens.{gap_at, token_at, lexed, lexed_from, with_token, Tokens}
use Rattle.ode_lex.specs.declared.token.Token.{Token}
use Rattle.ode_lex.specs.declared.token.TokenKind.{TokenKind}
use Rattle.ode_lex.proofs.Lexing.{end_front, gap_front, token_front}
use Rattle.ode_terminals.specs.declared.seen.Place.{Place}
use Rattle.ode_terminals.specs.Seen.{slice_of}
use Rattle.ode_syntax.specs.Kept.{Spelled, spelled}
use Rattle.ode_reread.proofs.Cuts.{spell, Cut, End, Blank}
use Rattle.ode_reread.proofs.Cuts as cuts

-- ---- at the front

blank_front : (at : ℕ) (bytes : List ℕ) → gap_at (32 ∷ bytes) ≡ 1 → lexed_from at 0 (32 ∷ bytes) ≡ lexed_from (at + 1) 0 bytes
blank_front at bytes e = gap_front at 1 (32 ∷ bytes) (omega arith) (omega arith) e

-- ---- pieces of lists

pub drop_front : (xs ys : List ℕ) → drop (length xs) (xs ++ ys) ≡ ys
drop_front [] ys = refl
drop_front (x ∷ xs) ys = drop_front xs ys

pub take_front : (xs ys : List ℕ) → take (length xs) (xs ++ ys) ≡ xs
take_front [] ys = refl
take_front (x ∷ xs) ys = ap (λ zs. x ∷ zs) (take_front xs ys)

-- a token between two parts of a text
between : (front w back : List ℕ) (kind : TokenKind) → slice_of (front ++ (w ++ back)) (record { kind = kind; start = length front; end = length front + length w }) ≡ w
between front w back kind =
    let n : length front + length w - length front ≡ length w = omega arith in
    ap (λ k. take k (drop (length front) (front ++ (w ++ back)))) n ∙ (ap (take (length w)) (drop_front front (w ++ back)) ∙ take_front w back)

-- ---- the whole

pub record IsLexed (place : Place) (front bytes : List ℕ) (ts : List Spelled) : Type 0 where
  pub tokens : List Token
  pub found : lexed_from (length front) 0 bytes ≡ Tokens tokens
  pub same : map (spelled place (front ++ bytes)) tokens ≡ ts

later : (place : Place) (front w bytes : List ℕ) (ts : List Spelled) → IsLexed place (front ++ w) bytes ts
    → (tokens : List Token) × (lexed_from (length front + length w) 0 bytes ≡ Tokens tokens) × (map (spelled place (front ++ (w ++ bytes))) tokens ≡ ts)
later place front w bytes ts l = (
  l.tokens,
  subst (λ n. lexed_from n 0 bytes ≡ Tokens l.tokens) (length-append front w) l.found,
  subst (λ text. map (spelled place text) l.tokens ≡ ts) (append_assoc front w bytes) l.same,
)

token_more : (place : Place) (front w bytes : List ℕ) (ts : List Spelled) (kind : TokenKind) → 0 < length w → gap_at (w ++ bytes) ≡ 0
    → token_at (w ++ bytes) ≡ Some (kind, length w) → IsLexed place (front ++ w) bytes ts → IsLexed place front (w ++ bytes) (spell place kind w ∷ ts)
token_more place front w bytes ts kind some none e l =
    let r = later place front w bytes ts l in
    let t : Token = record { kind = kind; start = length front; end = length front + length w } in
    let full : 0 < length (w ++ bytes) = subst (λ n. 0 < n) (sym (length-append w bytes)) (omega (arith, some)) in
    record {
      tokens = t ∷ r.0;
      found = token_front (length front) (length w) kind (w ++ bytes) full some none e
          ∙ ap (with_token t) (ap (lexed_from (length front + length w) 0) (drop_front w bytes) ∙ r.1);
      same = ap (λ b. spell place kind b ∷ map (spelled place (front ++ (w ++ bytes))) r.0) (between front w bytes kind)
          ∙ ap (λ us. spell place kind w ∷ us) r.2;
    }

blank_more : (place : Place) (front bytes : List ℕ) (ts : List Spelled) → gap_at (32 ∷ bytes) ≡ 1
    → IsLexed place (front ++ 32 ∷ []) bytes ts → IsLexed place front (32 ∷ bytes) ts
blank_more place front bytes ts e l =
    let r = later place front (32 ∷ []) bytes ts l in
    record { tokens = r.0; found = blank_front (length front) bytes e ∙ r.1; same = r.2 }

pub cut_lexed : {place : Place} {bytes : List ℕ} {ts : List Spelled} → Cut place bytes ts → (front : List ℕ) → IsLexed place front bytes ts
cut_lexed End front = record { tokens = []; found = end_front (length front); same = refl }
cut_lexed {place = place} (Blank {bytes = bytes} {ts = ts} e c) front = blank_more place front bytes ts e (cut_lexed c (front ++ 32 ∷ []))
cut_lexed {place = place} (cuts.Token {bytes = bytes} {ts = ts} kind w e c) front =
    token_more place front w bytes ts kind e.some e.no_gap e.found (cut_lexed c (front ++ w))

-- the tokens of the text are these
pub cut_text : (place : Place) (bytes : List ℕ) (ts : List Spelled) → Cut place bytes ts
    → (tokens : List Token) × (lexed bytes ≡ Tokens tokens) × (map (spelled place bytes) tokens ≡ ts)
unfolding lexed
cut_text place bytes ts c = let l = cut_lexed c [] in (l.tokens, l.found, l.same)
