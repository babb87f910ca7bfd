-- The text of an instant, a Unix second of a year from 0000 to 9999: `1970-01-01T00:01:30Z`.
use Rattle.std.specs.Prelude.{ℕ, suc, ◌+◌, ◌-◌, ◌*◌, ◌/◌, ◌%◌, ℤ, pos, negsuc, nat_lt, cond, List, [], ◌∷◌, ◌++◌, codes}

-- seconds since 1 March of the year -400, 865,565 days before 1970: so a leap day ends its year, and 400 years have 146,097 days
abbrev pub elapsed : ℤ → ℕ
elapsed (pos n) = 865565 * 86400 + n
elapsed (negsuc n) = 865565 * 86400 - suc n

-- the year of a day of such 400 years, where each year, each 4 and each 100 years end with or without a leap day; and the year's first day
abbrev pub year_in : ℕ → ℕ
year_in day = (day - day / 1460 + day / 36524 - day / 146096) / 365

abbrev pub first_day : ℕ → ℕ
first_day year = 365 * year + year / 4 - year / 100

-- the month of a day of the year, from 0 for March; and the month's first day
abbrev pub month_in : ℕ → ℕ
month_in day = (5 * day + 2) / 153

abbrev pub month_day : ℕ → ℕ
month_day month = (153 * month + 2) / 5

abbrev pub digit : ℕ → ℕ
digit n = 48 + n % 10

abbrev pub two_digits : ℕ → List ℕ
two_digits n = digit (n / 10) ∷ digit n ∷ []

-- a year, a month from 1 and a day from 1
abbrev pub spelled_date : ℕ → ℕ → ℕ → List ℕ
spelled_date year month day = two_digits (year / 100) ++ two_digits year ++ codes "-" ++ two_digits month ++ codes "-" ++ two_digits day

-- the date by these 400 years' number, by the year among them and by the month from March
abbrev pub date_by : ℕ → ℕ → ℕ → ℕ → List ℕ
date_by age year month day =
    cond (nat_lt month 10) (spelled_date (400 * age + year - 400) (month + 3) day) (spelled_date (400 * age + year + 1 - 400) (month - 9) day)

abbrev pub date_in_year : ℕ → ℕ → ℕ → List ℕ
date_in_year age year day = date_by age year (month_in day) (day - month_day (month_in day) + 1)

abbrev pub date_in_age : ℕ → ℕ → List ℕ
date_in_age age day = date_in_year age (year_in day) (day - first_day (year_in day))

abbrev pub date_text : ℕ → List ℕ
date_text day = date_in_age (day / 146097) (day % 146097)

-- by the second of the day
abbrev pub time_text : ℕ → List ℕ
time_text second = two_digits (second / 3600) ++ codes ":" ++ two_digits (second / 60 % 60) ++ codes ":" ++ two_digits (second % 60)

unfoldable pub instant_text : ℤ → List ℕ
instant_text second = date_text (elapsed second / 86400) ++ codes "T" ++ time_text (elapsed second % 86400) ++ codes "Z"
