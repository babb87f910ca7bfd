-- When a count of faults rose, and where a fault may be answered.
use Rattle.std.specs.Prelude.{◌≡◌, ◌⊎◌, ℕ, ◌+◌, ◌-◌, ◌^◌, ◌≤◌, min, Result, Ok, Err}

-- a count is greater than it was, or stands at its last value
abbrev pub Rose : ℕ → ℕ → Type 0
Rose before now = min (before + 1) (2 ^ 64 - 1) ≤ now

-- A count of faults rose where this is so, and only there. It never falls.
pub record RoseIf (failed : Type 0) (before now : ℕ) : Type 0 where
  pub later : before ≤ now
  pub rose : failed → Rose before now
  pub calm : failed ⊎ (now ≡ before)

-- a count of faults is as it was at an `Ok`, and one higher at an `Err` where it can rise
abbrev pub Counted : {T E : Type 0} → Result T E → ℕ → ℕ → Type 0
Counted (Ok x) before now = now ≡ before
Counted (Err e) before now = now ≡ min (before + 1) (2 ^ 64 - 1)
