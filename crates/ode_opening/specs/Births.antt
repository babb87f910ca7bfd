-- The fields that were added to classes, by their records.
use Rattle.std.specs.Prelude.{◌≡◌, ℕ, ◌-◌, List, [], ◌∷◌, ◌++◌, Bool, false, cond, not, nat_le, ◌==◌, ◌&&◌, ◌||◌, Option, Some, None, Result, Ok, Err}
use Rattle.std.specs.List.{find, list_any, position_from, range_with_len, slice_get}
use Rattle.std.specs.BTreeMap.{BTreeMap, get}
use Rattle.std.specs.Option.{option_and_then, option_map}
use Rattle.std.specs.Ordering.{nat_cmp}
use Rattle.ode_codec.specs.declared.record.Record.{Record}
use Rattle.ode_codec.specs.declared.record.Record.TheVariants as of
use Rattle.ode_codec.specs.declared.record.TheConstants.{BOOL_SORT, INT_SORT, REFERENCE_SORT, TEXT_SORT}
use Rattle.ode_keep.specs.Entries.{Entries}
use Rattle.ode_value.specs.Keys.{added_key, added_kind}
use Rattle.ode_value.specs.declared.change.Added.{Added}
use Rattle.ode_value.specs.declared.key.Key.{Key}
use Rattle.ode_value.specs.declared.statement.Sort.{Sort}
use Rattle.ode_value.specs.declared.statement.Sort.TheVariants as sort
use Rattle.ode_value.specs.declared.value.Ref.{Ref}
use Rattle.ode_value.specs.declared.value.Value.{Value}
use Rattle.ode_value.specs.declared.value.Value.TheVariants as value
use Rattle.ode_passes.specs.Complete.{class_count}
use Rattle.ode_passes.specs.Records.{Found, decoded}
use Rattle.ode_passes.specs.Rules.{Ruled, ◌>>=◌, found, needs}
use Rattle.ode_passes.specs.Walking.{within}
use Rattle.ode_passes.specs.declared.cause.Cause.TheVariants as cause
use Rattle.ode_passes.specs.declared.error.OpenError.{OpenError}
use Rattle.ode_passes.specs.declared.error.OpenError.TheVariants.{Memory, DiskFault, BadFile}

-- ---- births

-- the birth of an added field
abbrev pub birth_of : Record → Option ℕ
birth_of (of.Added class birth name sort refers literal) = Some birth
birth_of _ = None

-- what may be there is this number
abbrev pub is_number : ℕ → Option ℕ → Bool
is_number number (Some n) = n == number
is_number number None = false

-- a record is an added field of this birth
abbrev pub has_birth : ℕ → Record → Bool
has_birth number r = is_number number (birth_of r)

abbrev pub is_born : ℕ → Key × Record → Bool
is_born number f = has_birth number f.1

-- the first birth of so many from one on that no record has
abbrev pub first_missing : Found → ℕ → Option ℕ
first_missing records count = find (λ birth. not (list_any (is_born birth) records)) (range_with_len 1 count)

-- under each birth stands the place of the first record that has it
abbrev pub AreBirthsOf : Found → BTreeMap ℕ ℕ → Type 0
AreBirthsOf records births = (birth : ℕ) → get nat_cmp births birth ≡ position_from (is_born birth) 0 records

-- where a birth stands: where it stood, or at this place, where a record here has it
abbrev pub noted : Option ℕ → ℕ → Bool → Option ℕ
noted (Some first) place has = Some first
noted None place has = cond has (Some place) None

-- ---- the rule of a record

-- the name of the class of a number, by the heads of all classes
abbrev pub name_in : Record → Option (List ℕ)
name_in (of.ClassHead class name parent text_length triggers) = Some name
name_in _ = None

abbrev pub class_name : Found → ℕ → Option (List ℕ)
class_name heads number = cond (number == 0) None (option_and_then (λ (f : Key × Record). name_in f.1) (slice_get heads (number - 1)))

-- a number is that of a class
abbrev pub is_class : Found → ℕ → Bool
is_class heads number = nat_le 1 number && nat_le number (class_count heads)

-- a literal is of a sort as it is stored; of a reference's it is null
abbrev pub is_null : Ref → Bool
is_null r = r.object == 0

abbrev pub fits_literal : ℕ → Value → Bool
fits_literal sort (value.Int n) = sort == INT_SORT
fits_literal sort (value.Bool b) = sort == BOOL_SORT
fits_literal sort (value.Text t) = sort == TEXT_SORT
fits_literal sort (value.Reference r) = sort == REFERENCE_SORT && is_null r

-- an added field has a birth of so many, a known class, also where it refers to one, and a literal of its sort
abbrev pub is_sound : (heads : Found) (count class birth sort refers : ℕ) (literal : Value) → Bool
is_sound heads count class birth sort refers literal =
    (nat_le 1 birth && nat_le birth count) && (is_class heads class && ((not (sort == REFERENCE_SORT) || is_class heads refers) && fits_literal sort literal))

-- and no record before it has its birth
abbrev pub is_kept : Found → Found → ℕ → Record → Bool
is_kept heads before count (of.Added class birth name sort refers literal) =
    not (list_any (is_born birth) before) && is_sound heads count class birth sort refers literal
is_kept heads before count _ = false

-- ---- what records list

-- a sort of a record
abbrev pub sort_in : Found → ℕ → ℕ → Option Sort
sort_in heads number refers =
    cond (number == INT_SORT) (Some sort.Int)
    (cond (number == BOOL_SORT) (Some sort.Bool)
    (cond (number == TEXT_SORT) (Some sort.Text) (option_map sort.Reference (class_name heads refers))))

abbrev pub added_of : Found → Record → Option Added
added_of heads (of.Added class birth name number refers literal) =
    option_map (λ s. record { class = class; birth = birth; name = name; sort = s; value = literal }) (sort_in heads number refers)
added_of heads _ = None

-- one record behind others
abbrev pub list_one : Found → ℕ → Found → Key × Record → Ruled Added
list_one heads count before f = do
  _ ← needs (cause.Record f.0) (is_kept heads before count f.1)
  found (cause.Record f.0) (added_of heads f.1)

-- those behind others
abbrev pub listed : Found → ℕ → Found → Found → Ruled (List Added)
listed heads count before [] = Ok []
listed heads count before (f ∷ more) = do
  a ← list_one heads count before f
  rest ← listed heads count (before ++ f ∷ []) more
  Ok (a ∷ rest)

-- no birth is missing
abbrev pub none_missing : Option ℕ → Ruled (Unit {0})
none_missing None = Ok tt
none_missing (Some birth) = Err (cause.Missing (added_key 0 birth))

-- the fields that were added, class by class and by their births, where there are to be so many, by the heads of all classes
unfoldable pub added_in : Found → ℕ → Entries → Ruled (List Added)
added_in heads count entries = do
  records ← decoded (within added_kind added_kind entries)
  _ ← none_missing (first_missing records count)
  listed heads count [] records

-- what a call answers, which lists them; want of memory and a fault of the disk may come in its place
abbrev pub Lists : Ruled (List Added) → Result (List Added) OpenError → Type 0
Lists meant (Ok added) = meant ≡ Ok added
Lists meant (Err (BadFile why)) = meant ≡ Err why
Lists meant (Err DiskFault) = Unit {0}
Lists meant (Err Memory) = Unit {0}

-- ---- those of a class, which come first

abbrev pub front_of : ℕ → List Added → List Added
front_of class [] = []
front_of class (a ∷ more) = cond (a.class == class) (a ∷ front_of class more) []

abbrev pub own_added : Option (ℕ × ℕ) → List Added → List Added
own_added None added = []
own_added (Some head) added = front_of head.0 added
