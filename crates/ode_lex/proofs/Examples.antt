-- What small texts are cut into.
use Rattle.std.proofs.Common.{◌≡◌, ℕ, refl, [], ◌∷◌, Some, None, codes, pos}
use Rattle.ode_lex.specs.Marks.{mark_at}
use Rattle.ode_lex.specs.Numerals.{numeral_at}
use Rattle.ode_lex.specs.Texts.{text_length}
use Rattle.ode_lex.specs.Tokens.{lexed, Tokens, NoToken, token_at, word_at, number_at, text_at, version_at, reference_at, gap_at, lexed_from}
use Rattle.ode_lex.specs.declared.token.Mark.TheVariants as marks
use Rattle.ode_lex.specs.declared.token.Token.{Token}
use Rattle.ode_lex.specs.declared.token.TokenKind.{TokenKind}
use Rattle.ode_lex.specs.declared.token.TokenKind.TheVariants as kinds

abbrev token : TokenKind → ℕ → ℕ → Token
token kind start end = record { kind = kind; start = start; end = end }

pub assignment : lexed (codes "a = 1;") ≡ Tokens (token kinds.Word 0 1 ∷ token (kinds.Mark marks.Assign) 2 3 ∷ token (kinds.Number (pos 1)) 4 5 ∷ token (kinds.Mark marks.Semi) 5 6 ∷ [])
unfolding lexed lexed_from gap_at token_at word_at number_at text_at version_at reference_at text_length numeral_at mark_at
assignment = refl

pub stray : lexed (codes "a $") ≡ NoToken 2
unfolding lexed lexed_from gap_at token_at word_at number_at text_at version_at reference_at text_length numeral_at mark_at
stray = refl

pub leading_digit : lexed (codes "7abc") ≡ NoToken 0
unfolding lexed lexed_from gap_at token_at word_at number_at text_at version_at reference_at text_length numeral_at mark_at
leading_digit = refl

pub leading_zeros : lexed (codes "007") ≡ NoToken 0
unfolding lexed lexed_from gap_at token_at word_at number_at text_at version_at reference_at text_length numeral_at mark_at
leading_zeros = refl

pub digits_before_letter : lexed (codes "12a") ≡ NoToken 0
unfolding lexed lexed_from gap_at token_at word_at number_at text_at version_at reference_at text_length numeral_at mark_at
digits_before_letter = refl

pub specific : lexed (codes "#7@2") ≡ Tokens (token (kinds.Reference (record { object = 7; version = Some 2 })) 0 4 ∷ [])
unfolding lexed lexed_from gap_at token_at word_at number_at text_at version_at reference_at text_length numeral_at mark_at
specific = refl

pub bare_at : token_at (codes "#7@") ≡ Some (kinds.Reference (record { object = 7; version = None }), 2)
unfolding lexed lexed_from gap_at token_at word_at number_at text_at version_at reference_at text_length numeral_at mark_at
bare_at = refl

pub bare_at_whole : lexed (codes "#7@") ≡ NoToken 2
unfolding lexed lexed_from gap_at token_at word_at number_at text_at version_at reference_at text_length numeral_at mark_at
bare_at_whole = refl

pub version_zero : lexed (codes "#7@0") ≡ NoToken 2
unfolding lexed lexed_from gap_at token_at word_at number_at text_at version_at reference_at text_length numeral_at mark_at
version_zero = refl

pub reference_before_word : lexed (codes "#7abc") ≡ Tokens (token (kinds.Reference (record { object = 7; version = None })) 0 2 ∷ token kinds.Word 2 5 ∷ [])
unfolding lexed lexed_from gap_at token_at word_at number_at text_at version_at reference_at text_length numeral_at mark_at
reference_before_word = refl

pub reference_zeros : lexed (codes "#07") ≡ NoToken 0
unfolding lexed lexed_from gap_at token_at word_at number_at text_at version_at reference_at text_length numeral_at mark_at
reference_zeros = refl

pub escaped : lexed (codes "\"a\\\"b\" ==>// c") ≡ Tokens (token kinds.Text 0 6 ∷ token (kinds.Mark marks.Arrow) 7 10 ∷ [])
unfolding lexed lexed_from gap_at token_at word_at number_at text_at version_at reference_at text_length numeral_at mark_at
escaped = refl

pub largest : lexed (codes "9223372036854775807") ≡ Tokens (token (kinds.Number (pos 9223372036854775807)) 0 19 ∷ [])
unfolding lexed lexed_from gap_at token_at word_at number_at text_at version_at reference_at text_length numeral_at mark_at
largest = refl

pub too_large : lexed (codes "9223372036854775808") ≡ NoToken 0
unfolding lexed lexed_from gap_at token_at word_at number_at text_at version_at reference_at text_length numeral_at mark_at
too_large = refl
