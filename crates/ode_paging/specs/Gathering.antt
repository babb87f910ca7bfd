-- The entries of pages together.
use Rattle.std.specs.Prelude.{◌≡◌, List, [], ◌∷◌, Some, None}
use Rattle.std.specs.List.{AllByRecursion}
use Rattle.std.specs.BTreeMap.{is_at}
use Rattle.std.specs.Map.{keys_of, lookup}
use Rattle.ode_value.specs.declared.key.Key.{Key}
use Rattle.ode_value.specs.Keys.{key_cmp}
use Rattle.ode_keep.specs.Entries.{Entries, changed}

-- entries, and those of a page among them
abbrev pub joined : Entries → Entries → Entries
joined entries [] = entries
joined entries (e ∷ page) = joined (changed entries e.0 (Some e.1)) page

-- and those of all these pages
abbrev pub gathered : Entries → List Entries → Entries
gathered entries [] = entries
gathered entries (page ∷ pages) = gathered (joined entries page) pages

-- no key of the page stands among the others
abbrev pub AreApart : {X : Type 0} → Entries → List (Key × X) → Type 0
AreApart page others = AllByRecursion (λ k. lookup (is_at (key_cmp k)) others ≡ None) (keys_of page)

-- no key of a page stands among these entries, nor in a page before it
abbrev pub HaveNewKeys : Entries → List Entries → Type 0
HaveNewKeys entries [] = Unit {0}
HaveNewKeys entries (page ∷ pages) = AreApart page entries × HaveNewKeys (joined entries page) pages
