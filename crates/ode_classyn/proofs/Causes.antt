-- Why tokens have no tree is why their text has none.
use Rattle.std.proofs.Common.{◌≡◌, ℕ, List, subst}
use Rattle.ode_lex.specs.declared.token.Token.{Token}
use Rattle.ode_lex.specs.Tokens.{lexed, Tokens}
use Rattle.ode_grammar.specs.declared.reader.Start.{Start}
use Rattle.ode_terminals.specs.declared.seen.Place.{Place}
use Rattle.ode_eventsyn.specs.declared.error.SyntaxError.{SyntaxError}
use Rattle.ode_eventsyn.specs.declared.error.SyntaxError.TheVariants as error
use Rattle.ode_eventsyn.specs.Parsing.{IsWhyWhole}
use Rattle.ode_classyn.specs.Texts.{Standing, IsUnlexed, IsWhyNot}

pub unlexed : (s : Start) (standing : Standing) (text : List ℕ) (e : SyntaxError) → IsUnlexed text e → IsWhyNot s standing text e
unlexed s standing text error.Memory h = tt
unlexed s standing text (error.NoToken at) h = h
unlexed s standing text (error.At at) h = absurd h
unlexed s standing text (error.TooDeep at) h = absurd h

pub unparsed : (s : Start) (standing : Standing) (text : List ℕ) (tokens : List Token) (e : SyntaxError) → lexed text ≡ Tokens tokens
    → IsWhyWhole s (standing text tokens) text tokens e → IsWhyNot s standing text e
unparsed s standing text tokens error.Memory l h = tt
unparsed s standing text tokens (error.NoToken at) l h = absurd h
unparsed s standing text tokens (error.At at) l h = record { tokens = tokens; lexed_as = l; why = h }
unparsed s standing text tokens (error.TooDeep at) l h = record { tokens = tokens; lexed_as = l; why = h }

-- where the tokens stand is worked out first
pub unparsed_at : (s : Start) (standing : Standing) (place : Place) (text : List ℕ) (tokens seen : List Token) (e : SyntaxError) → lexed text ≡ Tokens tokens
    → place ≡ standing text tokens → seen ≡ tokens → IsWhyWhole s place text seen e → IsWhyNot s standing text e
unparsed_at s standing place text tokens seen e l f g h =
    unparsed s standing text tokens e l (subst (λ p. IsWhyWhole s p text tokens e) f (subst (λ ts. IsWhyWhole s place text ts e) g h))

pub ruleset causes = (unlexed, unparsed)
