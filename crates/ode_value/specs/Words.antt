-- Which words can be names.
use Rattle.std.specs.Prelude.{ℕ, List, [], ◌∷◌, length, Bool, false, ◌&&◌, not, nat_le, codes}
use Rattle.std.specs.List.{list_any, list_all}
use Rattle.std.specs.Str.{bytes_eq}
use Rattle.ode_value.specs.Limits.{name_limit}
use Rattle.ode_value.specs.Text.{is_name_byte}

-- words that the language keeps for itself
unfoldable pub reserved : List (List ℕ)
reserved =
    codes "abort" ∷ codes "activate" ∷ codes "after" ∷ codes "and" ∷ codes "any" ∷ codes "at" ∷ codes "before" ∷ codes "begin"
    ∷ codes "bool" ∷ codes "choose" ∷ codes "class" ∷ codes "clock" ∷ codes "commit" ∷ codes "committed" ∷ codes "constraint"
    ∷ codes "create" ∷ codes "deactivate" ∷ codes "deferred" ∷ codes "delete" ∷ codes "delversion" ∷ codes "dependent"
    ∷ codes "else" ∷ codes "event" ∷ codes "every" ∷ codes "fa" ∷ codes "false" ∷ codes "first" ∷ codes "if" ∷ codes "immediate"
    ∷ codes "independent" ∷ codes "initial" ∷ codes "int" ∷ codes "let" ∷ codes "newversion" ∷ codes "null" ∷ codes "once"
    ∷ codes "or" ∷ codes "pdelete" ∷ codes "perpetual" ∷ codes "pnew" ∷ codes "prior" ∷ codes "ref" ∷ codes "relative"
    ∷ codes "return" ∷ codes "say" ∷ codes "sequence" ∷ codes "show" ∷ codes "soft" ∷ codes "tabort" ∷ codes "tbegin"
    ∷ codes "tcommit" ∷ codes "tcomplete" ∷ codes "text" ∷ codes "this" ∷ codes "time" ∷ codes "trigger" ∷ codes "true"
    ∷ codes "version" ∷ codes "void" ∷ codes "whole" ∷ []

abbrev pub is_digit : ℕ → Bool
is_digit b = nat_le 48 b && nat_le b 57

-- a name byte that is no digit, then name bytes, not too many of them
abbrev pub is_word : List ℕ → Bool
is_word [] = false
is_word (b ∷ bs) = not (is_digit b) && list_all is_name_byte (b ∷ bs) && nat_le (length (b ∷ bs)) name_limit

-- a word that isn't reserved
abbrev pub is_free : List ℕ → Bool
is_free name = is_word name && not (list_any (λ word. bytes_eq word name) reserved)
