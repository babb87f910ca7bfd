-- A whole run of the clock from a good world leaves good ones, where its ticks have their numbers.
use Rattle.std.proofs.Common.{◌≡◌, ℕ, zero, suc, ◌+◌, ◌-◌, ◌<◌, Bool, true, false, cond, List, [], ◌∷◌, length, refl, arith}
use Rattle.std.specs.Prelude.{nat_lt, is_some}
use Rattle.std.specs.List.{AllByRecursion}
use Rattle.std.proofs.lemmas.Bool.{ltb-true}
use Rattle.ode_value.specs.Denoting.{object_at}
use Rattle.ode_value.specs.Draining.{entry_settled, front, drain, with_drain, world_after}
use Rattle.ode_value.specs.GoodWorlds.{IsPosition}
use Rattle.ode_value.specs.Language.{Language, ListWorld, Settlings}
use Rattle.ode_value.specs.Limits.{number_limit, transaction_limit}
use Rattle.ode_value.specs.Objects.{Histories, Starts}
use Rattle.ode_value.specs.Pasts.{lists}
use Rattle.ode_value.specs.Settling.{Settled}
use Rattle.ode_value.specs.Worlds.{Entry, Position}
use Rattle.ode_machine.specs.Works.{tick, move, then_rest, clock_run}
use Rattle.ode_laws.proofs.Each.{all-append, all-then}
use Rattle.ode_sound_laws.specs.Fits.{FitsEntry}
use Rattle.ode_sound_laws.proofs.WorldLaws.{good_typed}
use Rattle.ode_good_laws.specs.Well.{IsWell}
use Rattle.ode_good_laws.proofs.GoodAgain.{entry_well, entry_moves, tick_well, tick_moves, move_well, drain_number, drain_well}

-- a good world with numbers for so many transactions and one more
abbrev pub Has : Language → ℕ → ListWorld → Type 0
Has l k w = IsWell l w × (w.bones.transaction + k < transaction_limit)

abbrev pub AllHave : Language → ℕ → Settlings → Type 0
AllHave l k settled = AllByRecursion (λ (s : Settled Histories Starts). Has l k s.0) settled

abbrev AllWell : Language → Settlings → Type 0
AllWell l settled = AllByRecursion (λ (s : Settled Histories Starts). IsWell l s.0) settled

-- ---- numbers

entry_room : (t u k : ℕ) → u ≡ t + 1 → t < number_limit → number_limit + k < transaction_limit → u + k < transaction_limit
entry_room t u k moved less few = omega (arith, moved, less, few)

tick_room : (t u n : ℕ) → u ≡ t + 1 → t + suc n < transaction_limit → u + n < transaction_limit
tick_room t u n moved room = omega (arith, moved, room)

pub less_room : (t n : ℕ) → t + suc n < transaction_limit → t + n < transaction_limit
less_room t n room = omega (arith, room)

any_room : (t n : ℕ) → t + n < transaction_limit → t < transaction_limit
any_room t n room = omega (arith, room)

-- ---- drains

drain_has : (l : Language) (k : ℕ) → number_limit + k < transaction_limit → (most : ℕ) (w : ListWorld) → Has l k w → AllHave l k (drain lists most w)
unfolding drain
drain_has l k few zero w h = tt
drain_has l k few (suc most) w h = by_queue w.bones.queue (good_typed l w h.0.good h.0.sound h.0.ones).queue (λ s has. (has, drain_has l k few most s.0 has)) where
  by_room : (q : ℕ × Entry) → FitsEntry w.bones q.1 → (t : Bool) → nat_lt w.bones.transaction number_limit ≡ t → ((s : Settled Histories Starts) → Has l k s.0 → AllHave l k (s ∷ drain lists most s.0))
      → AllHave l k (cond t (entry_settled lists w q ∷ drain lists most (entry_settled lists w q).0) [])
  by_room q fits true left rest =
      rest (entry_settled lists w q) (
        entry_well l w h.0 (drain_number w left) q fits,
        entry_room w.bones.transaction (entry_settled lists w q).0.bones.transaction k (entry_moves l w h.0 (drain_number w left) q) (ltb-true w.bones.transaction number_limit left) few,
      )
  by_room q fits false left rest = tt

  by_queue : (qs : List (ℕ × Entry)) → AllByRecursion (λ (q : ℕ × Entry). FitsEntry w.bones q.1) qs → ((s : Settled Histories Starts) → Has l k s.0 → AllHave l k (s ∷ drain lists most s.0))
      → AllHave l k (front lists qs w (λ s. s ∷ drain lists most s.0))
  by_queue [] all rest = tt
  by_queue (q ∷ qs) all rest = by_room q all.0 (nat_lt w.bones.transaction number_limit) refl rest

pub after_has : (l : Language) (k : ℕ) (w : ListWorld) (settled : Settlings) → Has l k w → AllHave l k settled → Has l k (world_after w settled)
after_has l k w [] h all = h
after_has l k w (s ∷ settled) h all = after_has l k s.0 settled all.0 all.1

-- ---- a tick

tick_settles : (l : Language) (p : Position) (k : ℕ) → IsPosition p → number_limit + k < transaction_limit → (most : ℕ) (w : ListWorld) → IsWell l w → w.bones.transaction + suc k < transaction_limit
    → AllHave l k (with_drain lists most (tick lists p w))
tick_settles l p k is few most w h room =
    let left = any_room w.bones.transaction (suc k) room in
    let ticked : Has l k (tick lists p w).0 = (tick_well l w h left p is, tick_room w.bones.transaction (tick lists p w).0.bones.transaction k (tick_moves l w h left p is) room) in
    (ticked, drain_has l k few most (tick lists p w).0 ticked)

-- a tick with its drain, where its object is there, leaves numbers for one transaction less
pub tick_has : (l : Language) (p : Position) (k : ℕ) → IsPosition p → number_limit + k < transaction_limit → (most : ℕ) (w : ListWorld) → Has l (suc k) w
    → Has l k (world_after w (cond (is_some (object_at w.bones p.object)) (with_drain lists most (tick lists p w)) []))
tick_has l p k is few most w h = by_live (is_some (object_at w.bones p.object)) where
  before : Has l k w
  before = (h.0, less_room w.bones.transaction k h.1)

  by_live : (t : Bool) → Has l k (world_after w (cond t (with_drain lists most (tick lists p w)) []))
  by_live true = after_has l k w (with_drain lists most (tick lists p w)) before (tick_settles l p k is few most w h.0 h.1)
  by_live false = before

-- ---- the run

pub clock_well : (l : Language) (ps : List Position) (last : Position) → AllByRecursion IsPosition ps → IsPosition last → number_limit + length ps < transaction_limit → (most : ℕ) (w : ListWorld) → IsWell l w
    → w.bones.transaction + length ps < transaction_limit → AllWell l (clock_run lists ps last most w)
clock_well l [] last all is few most w h room =
    let well : IsWell l (move lists last w).0 = move_well l w h (any_room w.bones.transaction 0 room) last is in
    (well, drain_well l most (move lists last w).0 well)
clock_well l (p ∷ ps) last all is few most w h room =
    by_live (is_some (object_at w.bones p.object)) (λ more v has. clock_well l ps last all.1 is (less_room number_limit (length ps) few) more v has.0 has.1)
  where
    settled : AllHave l (length ps) (with_drain lists most (tick lists p w))
    settled = tick_settles l p (length ps) all.0 (less_room number_limit (length ps) few) most w h room

    by_live : (t : Bool) → ((more : ℕ) (v : ListWorld) → Has l (length ps) v → AllWell l (clock_run lists ps last more v))
        → AllWell l (cond t (then_rest lists (clock_run lists ps last) most w (with_drain lists most (tick lists p w))) (clock_run lists ps last most w))
    by_live true rest =
        all-append (λ (s : Settled Histories Starts). IsWell l s.0) (with_drain lists most (tick lists p w))
        (clock_run lists ps last (most - (length (with_drain lists most (tick lists p w)) - 1)) (world_after w (with_drain lists most (tick lists p w))))
        (all-then (λ (s : Settled Histories Starts). Has l (length ps) s.0) (λ (s : Settled Histories Starts). IsWell l s.0) (λ s has. has.0) (with_drain lists most (tick lists p w)) settled)
        (rest (most - (length (with_drain lists most (tick lists p w)) - 1)) (world_after w (with_drain lists most (tick lists p w)))
        (after_has l (length ps) w (with_drain lists most (tick lists p w)) (h, less_room w.bones.transaction (length ps) room) settled))
    by_live false rest = rest most w (h, less_room w.bones.transaction (length ps) room)
