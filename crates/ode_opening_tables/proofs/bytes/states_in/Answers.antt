use Rattle.std.proofs.Common.{◌<◌, ◌^◌, [], ◌∷◌, ap, sym, subst, ◌∙◌, arith, length, length-append}
use Rattle.std.specs.List.{flat_map}
use Rattle.ode_codec.specs.StoredRows.{u16}
use Rattle.ode_opening_tables.proofs.Spelled.{short_more, state_more}
use Rattle.ode_opening_tables.proofs.StoredOnce.{AreShort}
use Rattle.ode_opening_tables.proofs.bytes.states_in.Goals as goal

pub loop-place-preserved : goal.loop-place-preserved
loop-place-preserved c =
    let low : c.in-Some.state < 2 ^ 16 = omega arith in
    record {
      states = ap (flat_map u16) c.in_ok-push.ensures.ok ∙ state_more c.loop-place.next c.args.bytes.now c.loop-place.place c.in-Some.state c.loop-place.invariant.states c.in-Some.ensures.spelled;
      count = omega (arith, ap length c.in_ok-push.ensures.ok, length-append c.loop-place.next (c.in-Some.state ∷ []), c.loop-place.invariant.count);
      short = subst AreShort (sym c.in_ok-push.ensures.ok) (short_more c.loop-place.next c.in-Some.state c.loop-place.invariant.short low);
    }
