-- A batch in two parts, and the way back from the first.
use Rattle.std.specs.Prelude.{◌≡◌, [], ◌∷◌, not, is_some, IsSome}
use Rattle.std.specs.List.{filter}
use Rattle.std.specs.Option.{IfSome}
use Rattle.ode_keep.specs.Entries.{Changes, Entries, applied, changed, value_under}

-- the changes that put a value
abbrev pub puts : Changes → Changes
puts changes = filter (λ c. is_some c.1) changes

-- the changes that take a record out
abbrev pub removals : Changes → Changes
removals changes = filter (λ c. not (is_some c.1)) changes

-- where a change puts a value, the key has one already
abbrev pub NeedNoRoom : Changes → Entries → Type 0
NeedNoRoom [] entries = Unit {0}
NeedNoRoom (c ∷ cs) entries = IfSome c.1 (λ v. IsSome (value_under entries c.0)) × NeedNoRoom cs (changed entries c.0 c.1)

-- these changes lead back, and need no memory
pub record LeadBack (changes : Changes) (entries old : Entries) : Type 0 where
  pub room : NeedNoRoom changes entries
  pub back : applied changes entries ≡ old
