use Rattle.std.proofs.Common.{rules, ◌≡◌, ◌++◌, List, ap, sym, ◌∙◌, arith, FitsSigned, to_z, of_z, w64}
use Rattle.std.specs.Int.{int_gap}
use Rattle.std.specs.List.{filter}
use Rattle.std.specs.Prelude.{◌≤ℤ◌, ◌<ℤ◌}
use Rattle.std.proofs.lemmas.Int.{ints}
use Rattle.ode_value.specs.Worlds.{Position}
use Rattle.ode_timer.specs.Due.{due, due_at, is_above}
use Rattle.ode_timer.proofs.Places.{due_before, due_behind, due_split, list_end, list_step}
use Rattle.ode_timer.proofs.ahead.list_due.Goals as goal

pub returns-then-new-old : goal.returns-then-new-old
returns-then-new-old c places =
    let is = ap (λ (p : Position). p.instant) c.old.view_is in
    let test = c.if-new-old.true in
    let order : c.args.new <ℤ c.args.old.now.instant = grind (arith, ints) in
    c.new-events.ensures ∙ sym (due_before c.args.rows.now c.args.old.now c.args.new order)

pub loop-next-init : goal.loop-next-init
loop-next-init c =
    let old = c.args.old.now in
    let is = ap (λ (p : Position). p.instant) c.old.view_is in
    let test = c.if-new-old.false in
    let to = c.ranges.new in
    let fits : FitsSigned w64 c.old.inside.instant = search rules in
    let order : old.instant ≤ℤ c.args.new = grind (arith, ints) in
    let from_is : to_z w64 (of_z w64 c.old.inside.instant) ≡ old.instant = omega (arith, ints) in
    let to_is : to_z w64 (of_z w64 c.args.new) ≡ c.args.new = omega (arith, ints) in
    rw (from_is, to_is) (record {
      from = omega (arith, ints);
      order = order;
      events = λ places.
          let put = c.in_ok-put_second.ensures places in
          due_split c.args.rows.now old c.args.new order
          ∙ ap (λ (ps : List Position). ps ++ filter (is_above old) (due_behind c.args.rows.now old.instant (int_gap old.instant c.args.new)))
          (sym (put ∙ ap (λ (ps : List Position). ps ++ filter (is_above old) (due_at c.args.rows.now (to_z w64 (of_z w64 c.old.inside.instant)))) c.new-events.ensures
          ∙ ap (λ t. filter (is_above old) (due_at c.args.rows.now t)) from_is));
    })

pub loop-next-preserved : goal.loop-next-preserved
loop-next-preserved c =
    let old = c.args.old.now in
    let inv = c.loop-next.invariant in
    let from = inv.from in
    let above = c.in-Some.ensures.within.0 in
    let fits : FitsSigned w64 c.in-Some.next = search rules in
    let next_is : to_z w64 (of_z w64 c.in-Some.next) ≡ c.in-Some.next = omega (arith, ints) in
    rw next_is (record {
      from = grind (arith, ints);
      order = c.in-Some.ensures.within.1;
      events = λ places.
          list_step c.args.rows.now old _ (to_z w64 c.loop-next.second-bits) c.in-Some.next c.loop-next.events _ above c.in-Some.ensures.within.1 c.in-Some.ensures.idle (inv.events places)
          (c.in_ok-put_second-2.ensures places ∙ ap (λ t. c.loop-next.events ++ filter (is_above old) (due_at c.args.rows.now t)) next_is);
    })

pub returns : goal.returns
returns c places =
    let to = c.ranges.new in
    let to_is : to_z w64 (of_z w64 c.args.new) ≡ c.args.new = omega (arith, ints) in
    list_end c.args.rows.now c.args.old.now _ (to_z w64 c.loop-next.second-bits) c.loop-next.events c.in_default.ensures.idle (c.loop-next.invariant.events places)
    ∙ ap (due c.args.rows.now c.args.old.now) to_is
