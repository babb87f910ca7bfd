-- An index of keys: under each the number of its page.
use Rattle.std.specs.Prelude.{ℕ, ◌+◌, List, [], ◌∷◌, Option}
use Rattle.std.specs.BTreeMap.{insert_entry, is_at}
use Rattle.std.specs.List.{filter, find}
use Rattle.std.specs.Map.{lookup}
use Rattle.std.specs.Ordering.{is_le}
use Rattle.ode_value.specs.declared.key.Key.{Key}
use Rattle.ode_value.specs.Keys.{key_cmp}
use Rattle.ode_keep.specs.Entries.{Entries}

-- keys and pages, in rising order of the keys
abbrev pub Leads : Type 0
Leads = List (Key × ℕ)

-- the keys of these entries lead to this page from then on
abbrev pub led : ℕ → Leads → Entries → Leads
led page leads [] = leads
led page leads (e ∷ es) = led page (insert_entry key_cmp leads e.0 page) es

-- and those of all these pages, of which the first has this number
abbrev pub indexed : ℕ → Leads → List Entries → Leads
indexed page leads [] = leads
indexed page leads (es ∷ pages) = indexed (page + 1) (led page leads es) pages

-- the page that a key leads to, if it leads to one
abbrev pub page_under : Leads → Key → Option ℕ
page_under leads k = lookup (is_at (key_cmp k)) leads

-- the leads at or above a key
abbrev pub leads_from : Leads → Key → Leads
leads_from leads k = filter (λ e. is_le (key_cmp k e.0)) leads

-- the first key at or above another, and its page
abbrev pub lead_from : Leads → Key → Option (Key × ℕ)
lead_from leads k = find (λ e. is_le (key_cmp k e.0)) leads
