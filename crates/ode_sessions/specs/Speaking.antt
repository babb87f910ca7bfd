-- How a piece of a script of sessions is read: `N : statement`, N from 1 to 64.
use Rattle.std.specs.Prelude.{◌≡◌, ◌<◌, ℕ, ◌+◌, ◌^◌, List, ◌∷◌, drop, Bool, true, false, cond, nat_le, ◌&&◌, pos, Option, Some, None, Ok, Err}
use Rattle.std.specs.Option.{option_map}
use Rattle.ode_language.specs.Texts.{HasText}
use Rattle.ode_language.specs.Languages.{ode, statement_of}
use Rattle.ode_lex.specs.Tokens.{Lexed, NoToken, Tokens, lexed}
use Rattle.ode_lex.specs.declared.token.Mark.TheVariants.{Colon}
use Rattle.ode_lex.specs.declared.token.Token.{Token}
use Rattle.ode_lex.specs.declared.token.TokenKind.{TokenKind}
use Rattle.ode_lex.specs.declared.token.TokenKind.TheVariants as kinds
use Rattle.ode_machine.specs.Conversation.{NoSession, Says, Spoken, Unread}
use Rattle.ode_sessions.specs.declared.speaking.Spoken as code
use Rattle.ode_sessions.specs.declared.speaking.Spoken.TheVariants as said
use Rattle.ode_value.specs.Answers.{Answer}
use Rattle.ode_value.specs.Limits.{session_limit}
use Rattle.ode_value.specs.declared.reason.Refusal.{Refusal}
use Rattle.ode_value.specs.declared.reason.Refusal.TheVariants as refusal
use Rattle.ode_value.specs.declared.statement.Statement.{Statement}

-- the number of a session
abbrev pub session_in : TokenKind → Option ℕ
session_in (kinds.Number (pos n)) = cond (nat_le 1 n && nat_le n session_limit) (Some n) None
session_in kind = None

abbrev pub is_colon : TokenKind → Bool
is_colon (kinds.Mark Colon) = true
is_colon kind = false

-- the session that these two tokens name, and where they end
abbrev pub named_by : Token → Token → Option (ℕ × ℕ)
named_by number colon = cond (is_colon colon.kind) (option_map (λ (n : ℕ). (n, colon.end)) (session_in number.kind)) None

abbrev pub named : List Token → Option (ℕ × ℕ)
named (number ∷ colon ∷ more) = named_by number colon
named tokens = None

-- a refusal of what stands behind so many bytes, with its place in the whole
abbrev pub moved : ℕ → Refusal → Refusal
moved d (refusal.NoToken at) = refusal.NoToken (at + d)
moved d (refusal.Syntax at) = refusal.Syntax (at + d)
moved d (refusal.TooDeep at) = refusal.TooDeep (at + d)
moved d why = why

-- that place is one of a text of fewer than 2^32 bytes
abbrev pub IsMovable : ℕ → Refusal → Type 0
IsMovable d (refusal.NoToken at) = at + d < 2 ^ 32
IsMovable d (refusal.Syntax at) = at + d < 2 ^ 32
IsMovable d (refusal.TooDeep at) = at + d < 2 ^ 32
IsMovable d why = Unit {0}

abbrev pub said_by : ℕ → ℕ → Answer Statement → Spoken
said_by n d (Ok s) = Says n s
said_by n d (Err why) = Unread (moved d why)

-- what stands behind the colon is read as a piece of its own
abbrev pub spoken_behind : List ℕ → Option (ℕ × ℕ) → Spoken
spoken_behind text None = NoSession
spoken_behind text (Some session) = said_by session.0 session.1 (statement_of (drop session.1 text))

abbrev pub spoken_by : List ℕ → Lexed → Spoken
spoken_by text (NoToken at) = Unread (refusal.NoToken at)
spoken_by text (Tokens tokens) = spoken_behind text (named tokens)

-- a piece
abbrev pub spoken : List ℕ → Spoken
spoken text = spoken_by text (lexed text)

-- the same, as the code has it
abbrev pub IsSpoken : code.Spoken → Spoken → Type 0
IsSpoken (said.Says n s) (Says session statement) = (n ≡ session) × (s ≡ statement)
IsSpoken said.NoSession NoSession = Unit {0}
IsSpoken (said.Unread why) (Unread refusal) = why ≡ refusal
IsSpoken s t = ⊥

-- a statement has a text
abbrev pub HasSaid : code.Spoken → Type 0
HasSaid (said.Says n s) = HasText ode s
HasSaid s = Unit {0}
