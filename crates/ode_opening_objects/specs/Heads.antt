-- Objects by their numbers, as records tell of them.
use Rattle.std.specs.Prelude.{ℕ, [], ◌∷◌, Bool, cond, ◌==◌, Option, Some, None}
use Rattle.std.specs.List.{list_any}
use Rattle.std.specs.Option.{option_and_then, option_or}
use Rattle.ode_codec.specs.Reading.{record_under}
use Rattle.ode_codec.specs.declared.record.Record.{Record}
use Rattle.ode_codec.specs.declared.record.Record.TheVariants as of
use Rattle.ode_keep.specs.Entries.{Entries}
use Rattle.ode_value.specs.Records.{Row}
use Rattle.ode_opening_objects.specs.declared.head.Head.{Head}

-- the class of an object, and the last number that a version of it ever had
abbrev pub of_object : Record → Option Head
of_object (of.Object object class last) = Some (record { class = class; last = last })
of_object _ = None

abbrev pub head_under : Row → Option Head
head_under e = option_and_then of_object (record_under e.0 e.1)

-- the object of this number, among the records of objects
abbrev pub head_in : Entries → ℕ → Option Head
head_in [] id = None
head_in (e ∷ es) id = option_or (head_in es id) (cond (e.0.a == id) (head_under e) None)

-- the object of this number has a version, among the records of versions
abbrev pub has_version : Entries → ℕ → Bool
has_version es id = list_any (λ (e : Row). e.0.a == id) es
