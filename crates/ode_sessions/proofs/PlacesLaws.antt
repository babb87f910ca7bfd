-- The places of refusals lie in their texts, so that they may be moved.
use Rattle.std.proofs.Common.{◌≡◌, ◌+◌, ◌-◌, ◌<◌, ◌≤◌, ◌^◌, ℕ, zero, suc, Bool, true, false, cond, List, [], ◌∷◌, drop, length, length-drop, map, Option, Some, None, Ok, Err, ap, arith, subst}
use Rattle.std.proofs.lemmas.List.Elements.{All-head, All-tail}
use Rattle.std.specs.List.{All, AllByRecursion}
use Rattle.std.specs.Option.{option_map, option_map_or}
use Rattle.ode_eventsyn.specs.Parsing.{byte_of, seen}
use Rattle.ode_grammar.specs.Grammar.{items_of}
use Rattle.ode_grammar.specs.declared.reader.Start.TheVariants as start
use Rattle.ode_heights.specs.Heights.{none}
use Rattle.ode_language.specs.Languages.{statement_by, statement_of}
use Rattle.ode_language.specs.Reading.{deep_at, is_text, trees_of, wrong_at}
use Rattle.ode_lex.specs.Tokens.{IsTokenOf, Lexed, NoToken, Tokens, gap_at, lexed, lexed_from, placed, token_at, with_token}
use Rattle.ode_lex.specs.declared.token.Token.{Token}
use Rattle.ode_lex.specs.declared.token.TokenKind.{TokenKind}
use Rattle.ode_sessions.specs.Speaking.{IsMovable, is_colon, named, session_in}
use Rattle.ode_syntax.specs.Built.{script_tree}
use Rattle.ode_syntax.specs.Kept.{spelled}
use Rattle.ode_syntax.specs.declared.trees.Trees.{Trees}
use Rattle.ode_terminals.specs.Seen.{place_of}
use Rattle.ode_value.specs.Answers.{◌>>=◌}
use Rattle.ode_value.specs.declared.reason.Refusal.{Refusal}
use Rattle.ode_value.specs.declared.reason.Refusal.TheVariants as refusal

-- ---- tokens

-- each token begins within so many bytes, or the place of none lies there
abbrev AreIn : ℕ → Lexed → Type 0
AreIn n (Tokens tokens) = AllByRecursion (λ (t : Token). t.start ≤ n) tokens
AreIn n (NoToken at) = at ≤ n

one_more : (n : ℕ) (token : Token) (l : Lexed) → token.start ≤ n → AreIn n l → AreIn n (with_token token l)
one_more n token (Tokens tokens) less all = (less, all)
one_more n token (NoToken at) less all = all

placed_in : (n at gap : ℕ) (found : Option (TokenKind × ℕ)) (behind : ℕ → Lexed) → at ≤ n → ((k : ℕ) → AreIn n (behind k)) → AreIn n (placed at gap found behind)
placed_in n at (suc k) found behind less all = all k
placed_in n at zero (Some found) behind less all = one_more n (record { kind = found.0; start = at; end = at + found.1 }) (behind (found.1 - 1)) less (all (found.1 - 1))
placed_in n at zero None behind less all = less

lexed_in : (n at past : ℕ) (bytes : List ℕ) → at + length bytes ≤ n → AreIn n (lexed_from at past bytes)
unfolding lexed_from
lexed_in n at zero [] less = tt
lexed_in n at (suc past) [] less = tt
lexed_in n at (suc past) (b ∷ rest) less = lexed_in n (at + 1) past rest (omega (arith, less))
lexed_in n at zero (b ∷ rest) less =
    placed_in n at (gap_at (b ∷ rest)) (token_at (b ∷ rest)) (λ k. lexed_from (at + 1) k rest) (omega (arith, less)) (λ k. lexed_in n (at + 1) k rest (omega (arith, less)))

text_in : (text : List ℕ) → AreIn (length text) (lexed text)
unfolding lexed
text_in text = lexed_in (length text) 0 0 text (omega arith)

-- ---- refusals

-- the place of a refusal lies within so many bytes
abbrev IsIn : ℕ → Refusal → Type 0
IsIn n (refusal.NoToken at) = at ≤ n
IsIn n (refusal.Syntax at) = at ≤ n
IsIn n (refusal.TooDeep at) = at ≤ n
IsIn n why = Unit {0}

byte_in : (text : List ℕ) (tokens : List Token) (i : ℕ) → AllByRecursion (λ (t : Token). t.start ≤ length text) tokens → byte_of text tokens i ≤ length text
byte_in text [] i all = omega arith
byte_in text (t ∷ tokens) zero all = all.0
byte_in text (t ∷ tokens) (suc i) all = byte_in text tokens i all.1

module _ (text : List ℕ) (tokens : List Token) (all : AllByRecursion (λ (t : Token). t.start ≤ length text) tokens) where
  wrong_in : (is_one : Bool) (deep : Option ℕ) (made : Trees) (wrong : ℕ) (why : Refusal)
      → (cond is_one (option_map_or (λ (i : ℕ). Err (refusal.TooDeep (byte_of text tokens i))) deep (Ok made)) (Err (refusal.Syntax (byte_of text tokens wrong))) >>= (λ (t : Trees). Ok (script_tree t.scripts))) ≡ Err why
      → IsIn (length text) why
  wrong_in true None made wrong why is = absurd (cc (is))
  wrong_in true (Some i) made wrong why is =
      let same : refusal.TooDeep (byte_of text tokens i) ≡ why = cc (is) in
      subst (λ (w : Refusal). IsIn (length text) w) same (byte_in text tokens i all)
  wrong_in false deep made wrong why is =
      let same : refusal.Syntax (byte_of text tokens wrong) ≡ why = cc (is) in
      subst (λ (w : Refusal). IsIn (length text) w) same (byte_in text tokens wrong all)

by_tokens : (text : List ℕ) (l : Lexed) → AreIn (length text) l → (why : Refusal) → statement_by text l ≡ Err why → IsIn (length text) why
by_tokens text (NoToken at) all why is =
    let same : refusal.NoToken at ≡ why = cc (is) in
    subst (λ (w : Refusal). IsIn (length text) w) same all
by_tokens text (Tokens tokens) all why is =
    let terminals = seen (place_of text tokens) text tokens in
    wrong_in text tokens all (is_text start.Statement terminals) (deep_at (items_of start.Statement) none terminals) (trees_of start.Statement (map (spelled (place_of text tokens) text) tokens))
    (wrong_at (items_of start.Statement) terminals) why is

-- one of a statement lies in its text
refused_in : (text : List ℕ) (why : Refusal) → statement_of text ≡ Err why → IsIn (length text) why
refused_in text why is = by_tokens text (lexed text) (text_in text) why is

fits_by : (n d : ℕ) (why : Refusal) → IsIn n why → n + d < 2 ^ 32 → IsMovable d why
fits_by n d (refusal.NoToken at) is short = omega (arith, is, short)
fits_by n d (refusal.Syntax at) is short = omega (arith, is, short)
fits_by n d (refusal.TooDeep at) is short = omega (arith, is, short)
fits_by n d refusal.InTransaction is short = tt
fits_by n d refusal.NoTransaction is short = tt
fits_by n d refusal.NumbersSpent is short = tt
fits_by n d (refusal.NoObject object) is short = tt
fits_by n d (refusal.NoVersion ref) is short = tt
fits_by n d (refusal.Check error) is short = tt
fits_by n d (refusal.TooManySymbols trigger count) is short = tt
fits_by n d (refusal.TooManyStates trigger) is short = tt
fits_by n d (refusal.ClassTooLarge count) is short = tt
fits_by n d refusal.BadInstant is short = tt
fits_by n d refusal.ClockBack is short = tt
fits_by n d (refusal.TooManyDue count) is short = tt
fits_by n d refusal.NotBuilt is short = tt

-- so one of what stands behind some bytes of a text may be moved by these
pub may_move : (text rest : List ℕ) (d : ℕ) (why : Refusal) → rest ≡ drop d text → d ≤ length text → length text < 2 ^ 32 → statement_of rest ≡ Err why → IsMovable d why
may_move text rest d why is within short read =
    let left = length-drop d text in
    let same : length rest ≡ length (drop d text) = ap length is in
    fits_by (length rest) d why (refused_in rest why read) (omega (arith, left, same, within, short))

-- ---- the colon

abbrev end_of : Option (ℕ × ℕ) → ℕ
end_of None = 0
end_of (Some session) = session.1

by_colon : (is : Bool) (session : Option ℕ) (end n d : ℕ) → cond is (option_map {U = ℕ × ℕ} (λ (k : ℕ). (k, end)) session) None ≡ Some (n, d) → end ≡ d
by_colon true (Some k) end n d is = ap end_of is
by_colon true None end n d is = absurd (cc (is))
by_colon false session end n d is = absurd (cc (is))

-- it lies in the text
pub colon_within : (text : List ℕ) (tokens : List Token) (n d : ℕ) → All (IsTokenOf text) tokens → named tokens ≡ Some (n, d) → d ≤ length text
colon_within text [] n d each is = absurd (cc (is))
colon_within text (number ∷ []) n d each is = absurd (cc (is))
colon_within text (number ∷ colon ∷ more) n d each is =
    let at : IsTokenOf text colon = All-head (IsTokenOf text) colon more (All-tail (IsTokenOf text) number (colon ∷ more) each) in
    let same : colon.end ≡ d = by_colon (is_colon colon.kind) (session_in number.kind) colon.end n d is in
    subst (λ (e : ℕ). e ≤ length text) same at.within
