-- The records behind the first of shipped frames.
use Rattle.std.proofs.Common.{◌≡◌, ◌≤◌, ℕ, zero, suc, length, take, List, [], ◌∷◌, refl, arith}
use Rattle.ode_keep.specs.Entries.{Entries, applied}
use Rattle.ode_standby.specs.Primary.{after_first}
use Rattle.ode_transact.specs.Logging.{AreKept, AreOf, Kept, behind}
use Rattle.ode_value.specs.Draining.{world_after}
use Rattle.ode_value.specs.Language.{Language, ListWorld, Settlings}

pub holds_after : (l : Language) (k : ℕ) (w : ListWorld) (entries : Entries) (settled : Settlings) (kept : List Kept) → AreOf l entries w → AreKept l w entries settled kept → k ≤ length kept
    → AreOf l (after_first k entries kept) (world_after w (take k settled))
holds_after l zero w entries settled kept before are few = before
holds_after l (suc k) w entries settled [] before are few = absurd (omega (arith, few))
holds_after l (suc k) w entries [] (c ∷ kept) before are few = absurd are
holds_after l (suc k) w entries (s ∷ settled) (c ∷ kept) before are few = holds_after l k s.0 (applied c.1 entries) settled kept are.1 are.2 (omega (arith, few))

pub after_all : (entries : Entries) (kept : List Kept) → after_first (length kept) entries kept ≡ behind entries kept
after_all entries [] = refl
after_all entries (k ∷ kept) = after_all (applied k.1 entries) kept
