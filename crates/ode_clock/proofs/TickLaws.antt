-- A clock command goes on by a tick.
use Rattle.std.proofs.Common.{◌≡◌, ◌∙◌, ℕ, ◌-◌, List, [], ◌∷◌, ◌++◌, length, Bool, true, false, cond, append_assoc, refl, sym, ap, arith}
use Rattle.std.specs.Prelude.{is_some}
use Rattle.ode_clock.specs.Clocking.{tick_settled}
use Rattle.ode_clock.specs.Ticked.{IsTicked}
use Rattle.ode_machine.specs.Works.{clock_run, then_rest, tick}
use Rattle.ode_value.specs.Denoting.{object_at}
use Rattle.ode_value.specs.Draining.{with_drain, world_after}
use Rattle.ode_value.specs.Language.{ListWorld, Settlings}
use Rattle.ode_value.specs.Pasts.{lists}
use Rattle.ode_value.specs.Worlds.{Position}

pub after_both : (w : ListWorld) (xs ys : Settlings) → world_after w (xs ++ ys) ≡ world_after (world_after w xs) ys
after_both w [] ys = refl
after_both w (x ∷ xs) ys = after_both x.0 xs ys

none_ran : (n : ℕ) → n ≡ n - 0
none_ran n = omega arith

-- nothing was done yet
pub ticks_start : (all : List Position) (last : Position) (most : ℕ) (w : ListWorld) → IsTicked all all last most most w w []
ticks_start all last most w = record { whole = refl; world = refl }

module _ (p : Position) (ps : List Position) (last : Position) (left : ℕ) (now : ListWorld) where
  abbrev pub more : Settlings
  more = tick_settled p left now

  -- what is left over after it
  abbrev pub left_then : ℕ
  left_then = left - (length more - 1)

  goes : clock_run lists (p ∷ ps) last left now ≡ more ++ clock_run lists ps last left_then (world_after now more)
  goes = by (is_some (object_at now.bones p.object))
    where
      settles : Settlings
      settles = with_drain lists left (tick lists p now)

      by : (b : Bool) → cond b (then_rest lists (clock_run lists ps last) left now settles) (clock_run lists ps last left now)
          ≡ cond b settles [] ++ clock_run lists ps last (left - (length (cond b settles []) - 1)) (world_after now (cond b settles []))
      by true = refl
      by false = ap (λ (k : ℕ). clock_run lists ps last k now) (none_ran left)

  pub ticked_on : (all : List Position) (most : ℕ) (first : ListWorld) (settled : Settlings) → IsTicked all (p ∷ ps) last most left first now settled
      → IsTicked all ps last most left_then first (world_after now more) (settled ++ more)
  ticked_on all most first settled is = record {
    whole = is.whole ∙ ap (λ (rest : Settlings). settled ++ rest) goes ∙ sym (append_assoc settled more (clock_run lists ps last left_then (world_after now more)));
    world = after_both first settled more ∙ ap (λ (w : ListWorld). world_after w more) is.world;
  }
