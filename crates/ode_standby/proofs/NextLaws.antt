-- The number that records tell, behind frames.
use Rattle.std.proofs.Common.{◌≡◌, ◌⊎◌, ⊎_elim, inl, inr, ◌+◌, ◌<◌, ◌≤◌, ℕ, suc, Bool, true, false, cond, if◌then◌else◌, List, [], ◌∷◌, Option, Some, Result, Ok, Err, refl, sym, ◌∙◌, ap, subst, arith}
use Rattle.std.proofs.lemmas.Bool.{lt-ltb, le-ltb, ltb-true, ltb-false}
use Rattle.std.specs.BTreeMap.{is_at}
use Rattle.std.specs.List.{AllByRecursion}
use Rattle.std.specs.Map.{lookup}
use Rattle.std.specs.Option.{unwrap_or}
use Rattle.std.specs.Prelude.{nat_lt}
use Rattle.ode_keep.proofs.Applying.{applied_at}
use Rattle.ode_keep.specs.Entries.{Changes, Entries, applied, record_bytes, value_under}
use Rattle.ode_ship.specs.Frames.{Frame, IsFrame, next_by, next_told}
use Rattle.ode_standby.specs.Courses.{Course, after, course, course_on, next_of, past, step}
use Rattle.ode_standby.specs.declared.error.ShipError.{ShipError}
use Rattle.ode_standby.specs.declared.error.ShipError.TheVariants.{Gap, TooLarge}
use Rattle.ode_value.specs.Keys.{counters_key, key_cmp}

-- ---- one frame

told_at : (b : Bool) (w found : Option (List ℕ)) (changed : Option (Option (List ℕ))) (told : Option ℕ) (n : ℕ) → (told ≡ Some n → next_by (unwrap_or changed found) ≡ Some n)
    → (if b then next_by w else told) ≡ Some n → next_by (unwrap_or (cond b (Some w) changed) found) ≡ Some n
told_at true w found changed told n later is = is
told_at false w found changed told n later is = later is

-- what changes tell counts
told : (cs : Changes) (found : Option (List ℕ)) (n : ℕ) → next_told cs ≡ Some n → next_by (unwrap_or (lookup (is_at (key_cmp counters_key)) cs) found) ≡ Some n
told [] found n is = absurd (cc (is))
told (c ∷ cs) found n is =
    told_at (is_at (key_cmp counters_key) c.0) c.1 found (lookup (is_at (key_cmp counters_key)) cs) (next_told cs) n (told cs found n) is

-- behind a frame records tell the number after its own
pub next_applied : (f : Frame) (entries : Entries) → IsFrame f → next_of (applied f.1 entries) ≡ Some (f.0 + 1)
next_applied f entries form =
    ap next_by (applied_at counters_key f.1 entries form.rising) ∙ told f.1 (value_under entries counters_key) (f.0 + 1) form.next

-- ---- steps

-- the ways of a step that goes on
ways : (a b w : Bool) (p q d : Course) (e g : ShipError) → (if a then Ok p else if b then Err e else if w then Err g else Ok q) ≡ Ok d
    → ((a ≡ true) × (d ≡ p)) ⊎ ((a ≡ false) × (b ≡ false) × (d ≡ q))
ways true b w p q d e g is = inl (refl, cc (is))
ways false true w p q d e g is = absurd (cc (is))
ways false false true p q d e g is = absurd (cc (is))
ways false false false p q d e g is = inr (refl, refl, cc (is))

same_number : (m n : ℕ) → nat_lt m n ≡ false → nat_lt n m ≡ false → m ≡ n
same_number m n first second = omega (arith, ltb-false m n first, ltb-false n m second)

-- a frame was skipped, or was of the next transaction and is applied
pub step_ways : (most : ℕ) (c d : Course) (f : Frame) → step most c f ≡ Ok d → ((f.0 < c.next) × (d ≡ past c f)) ⊎ ((f.0 ≡ c.next) × (d ≡ after c f))
step_ways most c d f is = ⊎_elim
    (λ (way : (nat_lt f.0 c.next ≡ true) × (d ≡ past c f)). inl (ltb-true f.0 c.next way.0, way.1))
    (λ (way : (nat_lt f.0 c.next ≡ false) × (nat_lt c.next f.0 ≡ false) × (d ≡ after c f)). inr (same_number f.0 c.next way.0 way.1, way.2))
    (ways (nat_lt f.0 c.next) (nat_lt c.next f.0) (nat_lt most (record_bytes (applied f.1 c.entries))) (past c f) (after c f) d (Gap f.0 c.next) (TooLarge (record_bytes (applied f.1 c.entries))) is)

skips : (a : Bool) (p : Course) (other : Result Course ShipError) → a ≡ true → (if a then Ok p else other) ≡ Ok p
skips true p other is = refl
skips false p other is = absurd (cc (is))

applies : (a b w : Bool) (p q : Course) (e g : ShipError) → a ≡ false → b ≡ false → w ≡ false → (if a then Ok p else if b then Err e else if w then Err g else Ok q) ≡ Ok q
applies false false false p q e g first second third = refl
applies true b w p q e g first second third = absurd (cc (first))
applies false true w p q e g first second third = absurd (cc (second))
applies false false true p q e g first second third = absurd (cc (third))

-- an earlier frame is skipped
pub step_skips : (most : ℕ) (c : Course) (f : Frame) → f.0 < c.next → step most c f ≡ Ok (past c f)
step_skips most c f less = skips (nat_lt f.0 c.next) (past c f) _ (lt-ltb f.0 c.next less)

-- one of the next transaction is applied where there is room
pub step_applies : (most : ℕ) (c : Course) (f : Frame) → f.0 ≡ c.next → record_bytes (applied f.1 c.entries) ≤ most → step most c f ≡ Ok (after c f)
step_applies most c f is fits =
    applies (nat_lt f.0 c.next) (nat_lt c.next f.0) (nat_lt most (record_bytes (applied f.1 c.entries))) (past c f) (after c f) (Gap f.0 c.next) (TooLarge (record_bytes (applied f.1 c.entries)))
    (le-ltb f.0 c.next (omega (arith, is))) (le-ltb c.next f.0 (omega (arith, is))) (le-ltb most (record_bytes (applied f.1 c.entries)) fits)

-- ---- courses

next_after : (c d : Course) (f : Frame) → IsFrame f → f.0 ≡ c.next → d ≡ after c f → next_of d.entries ≡ Some d.next
next_after c d f form numbered is =
    let one : f.0 + 1 ≡ suc c.next = omega (arith, numbered) in
    subst (λ (x : Course). next_of x.entries ≡ Some x.next) (sym is) (next_applied f c.entries form ∙ ap Some one)

next_step : (most : ℕ) (c d : Course) (f : Frame) → IsFrame f → next_of c.entries ≡ Some c.next → step most c f ≡ Ok d → next_of d.entries ≡ Some d.next
next_step most c d f form known steps = ⊎_elim
    (λ (way : (f.0 < c.next) × (d ≡ past c f)). subst (λ (x : Course). next_of x.entries ≡ Some x.next) (sym way.1) known)
    (λ (way : (f.0 ≡ c.next) × (d ≡ after c f)). next_after c d f form way.0 way.1)
    (step_ways most c d f steps)

next_on : (most : ℕ) (d : Course) (fs : List Frame) (s : Result Course ShipError) → ((c : Course) → s ≡ Ok c → course most c fs ≡ Ok d → next_of d.entries ≡ Some d.next)
    → course_on s (λ c. course most c fs) ≡ Ok d → next_of d.entries ≡ Some d.next
next_on most d fs (Ok c) later ends = later c refl ends
next_on most d fs (Err e) later ends = absurd (cc (ends))

pub next_course : (most : ℕ) (c d : Course) (fs : List Frame) → AllByRecursion IsFrame fs → next_of c.entries ≡ Some c.next → course most c fs ≡ Ok d → next_of d.entries ≡ Some d.next
next_course most c d [] forms known ends = let same : c ≡ d = cc (ends) in subst (λ (x : Course). next_of x.entries ≡ Some x.next) same known
next_course most c d (f ∷ fs) forms known ends =
    next_on most d fs (step most c f) (λ e steps later. next_course most e d fs forms.1 (next_step most c e f forms.0 known steps) later) ends
