-- Printed trees by one level, for code that puts one text behind another.
use Rattle.std.proofs.Common.{◌≡◌, ℕ, List, [], ◌∷◌, ◌++◌, append_assoc, refl}
use Rattle.std.proofs.lemmas.List.{append-nil}
use Rattle.std.specs.Prelude.{codes}
use Rattle.ode_value.specs.PrintedClasses.{in_braces}
use Rattle.ode_print.specs.Joined.{behind}
use Rattle.ode_value.proofs.PrintLaws.{printed_exprs, printed_events, printed_stmts}

pub joined : (xs ys zs : List ℕ) → (xs ++ ys) ++ zs ≡ xs ++ (ys ++ zs)
joined xs ys zs = append_assoc xs ys zs

pub ended : (xs : List ℕ) → xs ++ [] ≡ xs
ended xs = append-nil xs

-- what stands in braces, one blank before each text
pub braces : (texts : List (List ℕ)) → in_braces texts ≡ codes "{" ++ behind (codes " ") texts ++ codes " }"
braces [] = refl
braces (text ∷ texts) = refl

pub ruleset joined_texts = (joined, ended, braces)

pub ruleset joined_exprs = (printed_exprs, joined, ended)

pub ruleset joined_events = (printed_events, joined, ended)

pub ruleset joined_stmts = (printed_stmts, joined, ended, braces)
