-- Instants: texts such as `1970-01-01T00:01:30Z` with a real date, and the Unix second that each is.
use Rattle.std.specs.Prelude.{◌≤◌, ◌<◌, ℕ, zero, suc, ◌+◌, ◌-◌, ◌*◌, ◌/◌, ◌%◌, ℤ, pos, ◌-ℤ◌, List, [], ◌∷◌, ◌++◌, take, sum, slice_index, codes, Bool, cond, not, ◌&&◌, ◌||◌, ◌==◌, nat_le, nat_lt, Option, Some, None}
use Rattle.std.specs.Option.{option_map}
use Rattle.std.specs.Str.{bytes_eq}
use Rattle.ode_value.specs.Instants.{two_digits}
use Rattle.ode_timer.specs.declared.calendar.Date.{Date}

-- every fourth year has a leap day; of the years that 100 divides, those that 400 divides
abbrev pub is_leap : ℕ → Bool
is_leap year = year % 4 == 0 && (not (year % 100 == 0) || year % 400 == 0)

-- the days of the months of a year
abbrev pub months : ℕ → List ℕ
months year = 31 ∷ cond (is_leap year) 29 28 ∷ 31 ∷ 30 ∷ 31 ∷ 30 ∷ 31 ∷ 31 ∷ 30 ∷ 31 ∷ 30 ∷ 31 ∷ []

-- the days of the years before a year, from year 0
unfoldable pub days_before : ℕ → ℕ
days_before zero = 0
days_before (suc year) = days_before year + sum (months year)

-- the days before a date, from year 0
abbrev pub day_of : Date → ℕ
day_of d = days_before d.year + sum (take (d.month - 1) (months d.year)) + (d.day - 1)

-- the seconds before a date, from year 0, and from 1970
abbrev pub seconds_before : Date → ℕ
seconds_before d = day_of d * 86400 + d.hour * 3600 + d.minute * 60 + d.second

abbrev pub second_of : Date → ℤ
second_of d = pos (seconds_before d) -ℤ pos (days_before 1970 * 86400)

-- the calendar has this day, in a year of four digits
abbrev pub is_day : ℕ → ℕ → ℕ → Bool
is_day year month day = nat_le year 9999 && nat_le 1 month && nat_le month 12 && nat_le 1 day && nat_le day (slice_index (months year) (month - 1))

-- a date is real
abbrev pub is_real : Date → Bool
is_real d = is_day d.year d.month d.day && nat_lt d.hour 24 && nat_lt d.minute 60 && nat_lt d.second 60

-- how large the parts of a real date are
pub record IsInRange (d : Date) : Type 0 where
  pub year : d.year ≤ 9999
  pub from_month : 1 ≤ d.month
  pub to_month : d.month ≤ 12
  pub from_day : 1 ≤ d.day
  pub to_day : d.day ≤ 31
  pub hour : d.hour < 24
  pub minute : d.minute < 60
  pub second : d.second < 60

-- a number by its last four digits
abbrev pub four_digits : ℕ → List ℕ
four_digits n = two_digits (n / 100) ++ two_digits n

-- how a date is spelled
abbrev pub spelled : Date → List ℕ
spelled d = four_digits d.year ++ codes "-" ++ two_digits d.month ++ codes "-" ++ two_digits d.day ++ codes "T"
    ++ two_digits d.hour ++ codes ":" ++ two_digits d.minute ++ codes ":" ++ two_digits d.second ++ codes "Z"

-- the number of two digits at a place of a text, and of four
abbrev pub two_at : List ℕ → ℕ → ℕ
two_at text at = (slice_index text at - 48) * 10 + (slice_index text (at + 1) - 48)

abbrev pub four_at : List ℕ → ℕ → ℕ
four_at text at = two_at text at * 100 + two_at text (at + 2)

-- the date that a text spells, if it spells one
abbrev pub date_in : List ℕ → Date
date_in text = record {
  year = four_at text 0;
  month = two_at text 5;
  day = two_at text 8;
  hour = two_at text 11;
  minute = two_at text 14;
  second = two_at text 17;
}

-- the real date that a text spells
abbrev pub date_of : List ℕ → Option Date
date_of text = cond (bytes_eq text (spelled (date_in text)) && is_real (date_in text)) (Some (date_in text)) None

-- an instant is a text that spells a real date, and its second is that date's
unfoldable pub instant_of : List ℕ → Option ℤ
instant_of text = option_map second_of (date_of text)
