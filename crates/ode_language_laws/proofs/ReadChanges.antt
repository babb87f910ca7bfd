-- The fields of a change of a class that is read have names, and literals in their ranges.
use Rattle.std.proofs.Common.{◌≡◌, ℕ, ◌+◌, true, cond, length, List, [], ◌∷◌, Some, None, Ok, refl, ap, ◌∙◌}
use Rattle.std.specs.Prelude.{nat_le}
use Rattle.std.specs.List.{AllByRecursion, list_all, position_from}
use Rattle.std.proofs.lemmas.Bool.{and_parts, leb-true, not-true}
use Rattle.std.proofs.lemmas.Iterator.Adapters.{position_from-zero}
use Rattle.ode_value.specs.declared.change.Change.{Change}
use Rattle.ode_value.specs.declared.statement.Sort.{Sort}
use Rattle.ode_value.specs.declared.value.Value.{Value}
use Rattle.ode_value.specs.declared.value.Value.TheVariants as value
use Rattle.ode_value.specs.Limits.{text_limit}
use Rattle.ode_value.specs.Text.{IsText, is_bad_byte}
use Rattle.ode_value.proofs.FreeNames.{free_name}
use Rattle.ode_syntax.specs.Kept.{is_text, is_text_byte}
use Rattle.ode_reread_classes.proofs.Additions.{GoodField, GoodValue}
use Rattle.ode_reread_classes.proofs.Lists.{Each}
use Rattle.ode_again_laws.proofs.Changed.{change_good}
use Rattle.ode_good_runs.specs.Reading.{IsReadField, IsReadValue}
use Rattle.ode_language.specs.Languages.{change_of}

no_bad_byte : (bytes : List ℕ) (k : ℕ) → list_all is_text_byte bytes ≡ true → position_from is_bad_byte k bytes ≡ None
no_bad_byte [] k all = refl
no_bad_byte (b ∷ bytes) k all =
    let parts = and_parts (is_text_byte b) (list_all is_text_byte bytes) all in
    ap (λ t. cond t (Some k) (position_from is_bad_byte (k + 1) bytes)) (not-true (is_bad_byte b) parts.0) ∙ no_bad_byte bytes (k + 1) parts.1

text_fits : (bytes : List ℕ) → is_text bytes ≡ true → IsText bytes
text_fits bytes is =
    let parts = and_parts (nat_le (length bytes) text_limit) (list_all is_text_byte bytes) is in
    record { short = leb-true (length bytes) text_limit parts.0; each = position_from-zero is_bad_byte bytes ∙ no_bad_byte bytes 0 parts.1 }

value_fits : (v : Value) → GoodValue v → IsReadValue v
value_fits (value.Int n) good = good
value_fits (value.Text t) good = text_fits t good
value_fits (value.Bool b) good = tt
value_fits (value.Reference r) good = tt

fields_fit : (fs : List (List ℕ × Sort × Value)) → Each GoodField fs → AllByRecursion IsReadField fs
fields_fit [] all = tt
fields_fit (f ∷ fs) all = (record { name = free_name f.0 all.0.free; value = value_fits f.2 all.0.value }, fields_fit fs all.1)

pub changes_fit : (piece : List ℕ) (c : Change) → change_of piece ≡ Some (Ok c) → AllByRecursion IsReadField c.fields
changes_fit piece c is = fields_fit c.fields (change_good piece c is).fields
