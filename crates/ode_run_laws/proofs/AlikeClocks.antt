-- A clock's run over numbers goes as over lists.
use Rattle.std.proofs.Common.{◌≡◌, ℕ, ◌-◌, suc, Bool, true, false, cond, List, [], ◌∷◌, ◌++◌, length, refl, sym, ap, subst}
use Rattle.std.specs.Prelude.{is_some}
use Rattle.std.specs.List.{AllZip}
use Rattle.ode_value.specs.Acts.{nothing}
use Rattle.ode_value.specs.Denoting.{object_at}
use Rattle.ode_value.specs.Draining.{with_drain, world_after}
use Rattle.ode_value.specs.Language.{ListWorld}
use Rattle.ode_value.specs.Objects.{Histories, Starts}
use Rattle.ode_value.specs.Pasts.{lists, numbers}
use Rattle.ode_value.specs.Settling.{Settled}
use Rattle.ode_value.specs.Tables.{Table}
use Rattle.ode_value.specs.Transactions.{Clock}
use Rattle.ode_value.specs.Worlds.{Position, Bones}
use Rattle.ode_machine.specs.Works.{ticks, tick, move, then_rest, clock_run}
use Rattle.ode_laws.specs.Alike.{NumberWorld, IsAlike, SettledAs}
use Rattle.ode_laws.proofs.AlikeSettling.{the_work, transaction_alike, drains_run}
use Rattle.ode_laws.proofs.SideActs.{done_alike}
use Rattle.ode_run_laws.proofs.Ticks.{ticks_alike}

module _ (tables : ℕ → ℕ → Table) where
  abbrev Numbers : Type 0
  Numbers = Settled (Unit {0}) ℕ

  abbrev Lists : Type 0
  Lists = Settled Histories Starts

  pub tick_settles : (p : Position) (v : NumberWorld) (w : ListWorld) → IsAlike tables v w → SettledAs tables (tick (numbers tables) p v) (tick lists p w)
  tick_settles p v w alike = transaction_alike tables v w alike (Clock p) 1 (ticks (numbers tables) p) (ticks lists p) (ticks_alike (the_work tables v w alike) p)

  pub move_settles : (p : Position) (v : NumberWorld) (w : ListWorld) → IsAlike tables v w → SettledAs tables (move (numbers tables) p v) (move lists p w)
  move_settles p v w alike = transaction_alike tables v w alike (Clock p) 0 nothing nothing (done_alike (the_work tables v w alike) 0 tt)

  with_drain_alike : (most : ℕ) (s : Numbers) (t : Lists) → SettledAs tables s t → AllZip (SettledAs tables) (with_drain (numbers tables) most s) (with_drain lists most t)
  with_drain_alike most s t settled = (settled, drains_run tables most s.0 t.0 settled.world)

  after_alike : (v : NumberWorld) (w : ListWorld) (ss : List Numbers) (ts : List Lists) → IsAlike tables v w → AllZip (SettledAs tables) ss ts → IsAlike tables (world_after v ss) (world_after w ts)
  after_alike v w [] [] alike zip = alike
  after_alike v w (s ∷ ss) (t ∷ ts) alike zip = after_alike s.0 t.0 ss ts zip.0.world zip.1
  after_alike v w [] (t ∷ ts) alike zip = absurd zip
  after_alike v w (s ∷ ss) [] alike zip = absurd zip

  zip_append : (ss more : List Numbers) (ts rest : List Lists) → AllZip (SettledAs tables) ss ts → AllZip (SettledAs tables) more rest → AllZip (SettledAs tables) (ss ++ more) (ts ++ rest)
  zip_append [] more [] rest zip other = other
  zip_append (s ∷ ss) more (t ∷ ts) rest zip other = (zip.0, zip_append ss more ts rest zip.1 other)
  zip_append [] more (t ∷ ts) rest zip other = absurd zip
  zip_append (s ∷ ss) more [] rest zip other = absurd zip

  zip_length : (ss : List Numbers) (ts : List Lists) → AllZip (SettledAs tables) ss ts → length ss ≡ length ts
  zip_length [] [] zip = refl
  zip_length (s ∷ ss) (t ∷ ts) zip = ap suc (zip_length ss ts zip.1)
  zip_length [] (t ∷ ts) zip = absurd zip
  zip_length (s ∷ ss) [] zip = absurd zip

  pub clock_settles : (ps : List Position) (last : Position) (most : ℕ) (v : NumberWorld) (w : ListWorld) → IsAlike tables v w → AllZip (SettledAs tables) (clock_run (numbers tables) ps last most v) (clock_run lists ps last most w)
  clock_settles [] last most v w alike = with_drain_alike most (move (numbers tables) last v) (move lists last w) (move_settles last v w alike)
  clock_settles (p ∷ ps) last most v w alike =
      subst (λ b. AllZip (SettledAs tables) (cond b (then_rest (numbers tables) (clock_run (numbers tables) ps last) most v (with_drain (numbers tables) most (tick (numbers tables) p v))) (clock_run (numbers tables) ps last most v))
      (cond (is_some (object_at w.bones p.object)) (then_rest lists (clock_run lists ps last) most w (with_drain lists most (tick lists p w))) (clock_run lists ps last most w)))
      (sym (ap (λ (b : Bones). is_some (object_at b p.object)) alike.stands.bones)) (by_live (is_some (object_at w.bones p.object)) (clock_settles ps last))
    where
      by_live : (b : Bool) → ((more : ℕ) (a : NumberWorld) (c : ListWorld) → IsAlike tables a c → AllZip (SettledAs tables) (clock_run (numbers tables) ps last more a) (clock_run lists ps last more c))
          → AllZip (SettledAs tables) (cond b (then_rest (numbers tables) (clock_run (numbers tables) ps last) most v (with_drain (numbers tables) most (tick (numbers tables) p v))) (clock_run (numbers tables) ps last most v))
          (cond b (then_rest lists (clock_run lists ps last) most w (with_drain lists most (tick lists p w))) (clock_run lists ps last most w))
      by_live false rest = rest most v w alike
      by_live true rest =
          let ss : List Numbers = with_drain (numbers tables) most (tick (numbers tables) p v) in
          let ts : List Lists = with_drain lists most (tick lists p w) in
          let zip : AllZip (SettledAs tables) ss ts = with_drain_alike most (tick (numbers tables) p v) (tick lists p w) (tick_settles p v w alike) in
          zip_append ss (clock_run (numbers tables) ps last (most - (length ss - 1)) (world_after v ss)) ts (clock_run lists ps last (most - (length ts - 1)) (world_after w ts)) zip
          (subst (λ n. AllZip (SettledAs tables) (clock_run (numbers tables) ps last (most - (n - 1)) (world_after v ss)) (clock_run lists ps last (most - (length ts - 1)) (world_after w ts))) (sym (zip_length ss ts zip))
          (rest (most - (length ts - 1)) (world_after v ss) (world_after w ts) (after_alike v w ss ts alike zip)))
