-- What a piece says, by its tokens.
use Rattle.std.proofs.Common.{◌≡◌, ◌∙◌, ◌<◌, ◌^◌, ℕ, List, drop, length, length-drop, Option, Some, None, Ok, Err, ap, refl, sym, arith}
use Rattle.ode_language.specs.Texts.{HasText}
use Rattle.ode_language.specs.Languages.{ode, statement_of}
use Rattle.ode_lex.specs.Tokens.{Lexed, NoToken, Tokens, lexed}
use Rattle.ode_lex.specs.declared.token.Token.{Token}
use Rattle.ode_machine.specs.Conversation.{Says}
use Rattle.ode_sessions.specs.Speaking.{named, said_by, spoken, spoken_behind, spoken_by}
use Rattle.ode_value.specs.Answers.{Answer}
use Rattle.ode_value.specs.declared.statement.Statement.{Statement}

-- by its first two tokens
pub spoken_is : (text : List ℕ) (tokens : List Token) (session : Option (ℕ × ℕ)) → lexed text ≡ Tokens tokens → session ≡ named tokens → spoken_behind text session ≡ spoken text
spoken_is text tokens session are is = ap (spoken_behind text) is ∙ ap (spoken_by text) (sym are)

-- what stands behind is no longer
pub behind_short : (text rest : List ℕ) (n : ℕ) → rest ≡ drop n text → length text < 2 ^ 32 → length rest < 2 ^ 32
behind_short text rest n is short =
    let less = length-drop n text in
    let same : length rest ≡ length (drop n text) = ap length is in
    omega (arith, less, same, short)

-- ---- what is said has a text

said_text : (n : ℕ) (s : Statement) (session d : ℕ) (text : List ℕ) (a : Answer Statement) → statement_of text ≡ a → said_by session d a ≡ Says n s → HasText ode s
said_text n s session d text (Ok u) read is = let same : u ≡ s = cc (is) in (text, read ∙ ap Ok same)
said_text n s session d text (Err why) read is = absurd (cc (is))

behind_text : (n : ℕ) (s : Statement) (text : List ℕ) (session : Option (ℕ × ℕ)) → spoken_behind text session ≡ Says n s → HasText ode s
behind_text n s text None is = absurd (cc (is))
behind_text n s text (Some session) is = said_text n s session.0 session.1 (drop session.1 text) (statement_of (drop session.1 text)) refl is

tokens_text : (n : ℕ) (s : Statement) (text : List ℕ) (l : Lexed) → spoken_by text l ≡ Says n s → HasText ode s
tokens_text n s text (NoToken at) is = absurd (cc (is))
tokens_text n s text (Tokens tokens) is = behind_text n s text (named tokens) is

pub spoken_text : (text : List ℕ) (n : ℕ) (s : Statement) → spoken text ≡ Says n s → HasText ode s
spoken_text text n s is = tokens_text n s text (lexed text) is
