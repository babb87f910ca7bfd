-- What a text is cut into from a place on.
use Rattle.std.proofs.Common.{◌≡◌, ℕ, zero, suc, ◌+◌, ◌-◌, ◌<◌, ◌≤◌, List, [], ◌∷◌, ◌++◌, length, drop, take, Some, None, arith, sym, ◌∙◌, ap, refl}
use Rattle.std.proofs.lemmas.List.{drop-drop, drop_all, append-nil, append_assoc, length-drop}
use Rattle.std.proofs.lemmas.List.Elements.{All-nil, All-push, All-weaker}
use Rattle.std.proofs.lemmas.List.Quantifiers.{all_pairs_push}
use Rattle.std.specs.List.{All, AllPairs}
use Rattle.ode_lex.specs.Tokens.{gap_at, token_at, lexed, lexed_from, with_token, Lexed, Tokens, NoToken, IsTokenOf, IsBefore}
use Rattle.ode_lex.specs.declared.token.Token.{Token}
use Rattle.ode_lex.specs.declared.token.TokenKind.{TokenKind}
use Rattle.ode_lex.specs.declared.token.TokenKind.TheVariants.{Word}
use Rattle.ode_lex.proofs.Words.{word_is_name}
use Rattle.ode_value.specs.Text.{IsName}

-- more tokens in front
abbrev pub prepend : List Token → Lexed → Lexed
prepend front (Tokens tokens) = Tokens (front ++ tokens)
prepend front (NoToken at) = NoToken at

-- bytes that belong to what began before are passed
pub from_past : (at past : ℕ) (bytes : List ℕ) → lexed_from at past bytes ≡ lexed_from (at + past) 0 (drop past bytes)
unfolding lexed_from
from_past at zero [] = refl
from_past at (suc past) [] = refl
from_past at zero (b ∷ rest) = let e : at ≡ at + 0 = omega arith in ap (λ n. lexed_from n 0 (b ∷ rest)) e
from_past at (suc past) (b ∷ rest) =
    let e : at + 1 + past ≡ at + suc past = omega arith in
    from_past (at + 1) past rest ∙ ap (λ n. lexed_from n 0 (drop past rest)) e

passed : (at n : ℕ) (b : ℕ) (rest : List ℕ) → lexed_from (at + 1) n rest ≡ lexed_from (at + suc n) 0 (drop n rest)
passed at n b rest = let e : at + 1 + n ≡ at + suc n = omega arith in from_past (at + 1) n rest ∙ ap (λ k. lexed_from k 0 (drop n rest)) e

pub gap_front : (at n : ℕ) (bytes : List ℕ) → 0 < length bytes → 0 < n → gap_at bytes ≡ n → lexed_from at 0 bytes ≡ lexed_from (at + n) 0 (drop n bytes)
unfolding lexed_from
gap_front at n [] some more e = absurd (omega arith)
gap_front at zero (b ∷ rest) some more e = absurd (omega arith)
gap_front at (suc n) (b ∷ rest) some more e = rw e (passed at n b rest)

pub token_front : (at n : ℕ) (kind : TokenKind) (bytes : List ℕ) → 0 < length bytes → 0 < n → gap_at bytes ≡ 0 → token_at bytes ≡ Some (kind, n) → lexed_from at 0 bytes ≡ with_token (record { kind = kind; start = at; end = at + n }) (lexed_from (at + n) 0 (drop n bytes))
unfolding lexed_from
token_front at n kind [] some more none e = absurd (omega arith)
token_front at zero kind (b ∷ rest) some more none e = absurd (omega arith)
token_front at (suc n) kind (b ∷ rest) some more none e =
    let one : suc n - 1 ≡ n = omega arith in
    rw (none, e, one) (ap (with_token (record { kind = kind; start = at; end = at + suc n })) (passed at n b rest))

stray_front : (at : ℕ) (bytes : List ℕ) → 0 < length bytes → gap_at bytes ≡ 0 → token_at bytes ≡ None → lexed_from at 0 bytes ≡ NoToken at
unfolding lexed_from
stray_front at [] some none e = absurd (omega arith)
stray_front at (b ∷ rest) some none e = rw (none, e)

pub end_front : (at : ℕ) → lexed_from at 0 [] ≡ Tokens []
unfolding lexed_from
end_front at = refl

prepend_token : (front : List Token) (token : Token) (rest : Lexed) → prepend front (with_token token rest) ≡ prepend (front ++ token ∷ []) rest
prepend_token front token (Tokens tokens) = ap Tokens (sym (append_assoc front (token ∷ []) tokens))
prepend_token front token (NoToken at) = refl

prepend_none : (rest : Lexed) → prepend [] rest ≡ rest
prepend_none (Tokens tokens) = refl
prepend_none (NoToken at) = refl

-- these are the tokens of the text up to a place
pub record IsCutTo (text : List ℕ) (at : ℕ) (tokens : List Token) : Type 0 where
  pub inside : at ≤ length text
  pub reads : lexed text ≡ prepend tokens (lexed_from at 0 (drop at text))
  pub each : All (IsTokenOf text) tokens
  pub rising : AllPairs IsBefore tokens
  pub behind : All (λ token. token.end ≤ at) tokens

pub cut_none : (text : List ℕ) → IsCutTo text 0 []
unfolding lexed
cut_none text = record {
  inside = omega arith;
  reads = sym (prepend_none (lexed_from 0 0 text));
  each = All-nil (IsTokenOf text);
  rising = λ i j d low high. absurd (omega arith);
  behind = All-nil (λ token. token.end ≤ 0);
}

pub cut_gap : (text : List ℕ) (at n : ℕ) (tokens : List Token) → IsCutTo text at tokens → at < length text → gap_at (drop at text) ≡ n → 0 < n → n ≤ length (drop at text) → IsCutTo text (at + n) tokens
cut_gap text at n tokens cut inside gap some within =
    let left = length-drop at text in
    let front = gap_front at n (drop at text) (omega arith) some gap ∙ ap (lexed_from (at + n) 0) (drop-drop n at text) in
    record {
      inside = omega arith;
      reads = cut.reads ∙ ap (prepend tokens) front;
      each = cut.each;
      rising = cut.rising;
      behind = All-weaker (λ token. token.end ≤ at) (λ token. token.end ≤ at + n) (λ token h. omega arith) tokens cut.behind;
    }

pub cut_token : (text : List ℕ) (at n : ℕ) (kind : TokenKind) (tokens : List Token) → IsCutTo text at tokens → at < length text → gap_at (drop at text) ≡ 0 → token_at (drop at text) ≡ Some (kind, n) → 0 < n → n ≤ length (drop at text)
    → IsCutTo text (at + n) (tokens ++ record { kind = kind; start = at; end = at + n } ∷ [])
cut_token text at n kind tokens cut inside gap found some within =
    let token : Token = record { kind = kind; start = at; end = at + n } in
    let left = length-drop at text in
    let front = token_front at n kind (drop at text) (omega arith) some gap found ∙ ap (λ rest. with_token token (lexed_from (at + n) 0 rest)) (drop-drop n at text) in
    let size : at + n - at ≡ n = omega arith in
    let word : kind ≡ Word → IsName (take n (drop at text)) = λ e. word_is_name (drop at text) n (found ∙ ap (λ k. Some (k, n)) e) in
    record {
      inside = omega arith;
      reads = cut.reads ∙ (ap (prepend tokens) front ∙ prepend_token tokens token (lexed_from (at + n) 0 (drop (at + n) text)));
      each = All-push (IsTokenOf text) tokens token cut.each (record { some = omega arith; within = omega arith; reads = rw size found; word = rw size word });
      rising = all_pairs_push IsBefore tokens token cut.rising cut.behind;
      behind = All-push (λ token. token.end ≤ at + n) tokens token (All-weaker (λ token. token.end ≤ at) (λ token. token.end ≤ at + n) (λ token h. omega arith) tokens cut.behind) (omega arith);
    }

pub cut_all : (text : List ℕ) (at : ℕ) (tokens : List Token) → IsCutTo text at tokens → length text ≤ at → lexed text ≡ Tokens tokens
cut_all text at tokens cut past =
    cut.reads ∙ (ap (λ rest. prepend tokens (lexed_from at 0 rest)) (drop_all at text past)
    ∙ (ap (prepend tokens) (end_front at) ∙ ap Tokens (append-nil tokens)))

pub cut_stray : (text : List ℕ) (at : ℕ) (tokens : List Token) → IsCutTo text at tokens → at < length text → gap_at (drop at text) ≡ 0 → token_at (drop at text) ≡ None → lexed text ≡ NoToken at
cut_stray text at tokens cut inside gap none =
    let left = length-drop at text in
    cut.reads ∙ ap (prepend tokens) (stray_front at (drop at text) (omega arith) gap none)
