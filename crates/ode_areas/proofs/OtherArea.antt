-- The records move to the other area.
use Rattle.std.proofs.Common.{◌≡◌, ◌≢◌, ◌≤◌, ◌+◌, ◌-◌, ◌^◌, ⊎_elim, ℕ, [], ◌∷◌, ◌++◌, Ok, Err, Result, ap, arith, length, length-append, min, subst, ◌∙◌}
use Rattle.std.specs.Prelude.{OnOk}
use Rattle.ode_gate.specs.declared.gate.TheConstants.{SHUT}
use Rattle.ode_gate.specs.declared.header.Header.{Header}
use Rattle.ode_gate.specs.declared.places.TheConstants.{AREA_0, AREA_1}
use Rattle.ode_gate.specs.Headers.{IsOfAreas}
use Rattle.ode_host.specs.View.{View}
use Rattle.ode_keep.specs.Entries.{Entries}
use Rattle.ode_keep.specs.declared.limits.TheConstants.{MAX_RECORD_BYTES}
use Rattle.ode_value.specs.Records.{snapshot}
use Rattle.ode_areas.specs.declared.areas.Areas.{Areas}
use Rattle.ode_areas.specs.declared.plan.Checkpoint.{Checkpoint}
use Rattle.ode_areas.specs.Holding.{AreasHold, held_bytes}
use Rattle.ode_areas.specs.Steps.{IsNext, MovesOver}
use Rattle.ode_areas.proofs.Encoding.{snapshot_fits}

pub on_ok_both : {A E : Type 0} (r : Result A E) (P Q R : Type 0) → (P → Q → R) → OnOk r P → OnOk r Q → OnOk r R
on_ok_both (Ok x) P Q R so p q = so p q
on_ok_both (Err e) P Q R so p q = tt

-- an area that isn't the first is the other
pub second_area : (h : Header) → IsOfAreas h → h.body_at ≢ AREA_0 → h.body_at ≡ AREA_1
second_area h areas other = ⊎_elim (λ first. absurd (other first.0)) (λ second. second.0) areas.area

-- a checkpoint of the records that a keeper holds moves them over
module _ (keeper : Areas) (view : View) (entries : Entries) (h : AreasHold keeper view entries) (within : held_bytes keeper ≤ MAX_RECORD_BYTES) (c : Checkpoint) (size : ℕ)
    (is : size ≡ min (length (snapshot keeper.map)) (2 ^ 64 - 1)) (follows : IsNext keeper.header c.header) (long : c.header.body_len ≡ size)
    (spelled : c.bytes.items ≡ snapshot keeper.map ++ SHUT ∷ []) where
  pub moves : MovesOver keeper.header entries c.header c.bytes.items
  moves =
      subst (λ (l : Entries). MovesOver keeper.header l c.header c.bytes.items) h.map
      (record { follows = follows; long = omega (arith, long, is, snapshot_fits keeper.map within); spelled = spelled })

  pub moves_length : length c.bytes.items ≡ length (snapshot entries) + 1
  moves_length = ap length moves.spelled ∙ length-append (snapshot entries) (0 ∷ [])
