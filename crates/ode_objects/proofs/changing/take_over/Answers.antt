use Rattle.std.proofs.Common.{◌≡◌, List, length, add-one, arith, ap, set, get_or, take, sym, ◌∙◌}
use Rattle.ode_objects.proofs.TakenOver.{length-taken_over, take_more, take_past}
use Rattle.ode_objects.specs.Objects.{taken_by, taken_over}
use Rattle.ode_objects.specs.declared.object.Active.{Active}
use Rattle.ode_objects.proofs.changing.take_over.Goals as goal
use Rattle.ode_objects.proofs.changing.take_over.Goals.{then-i-len, else-i-len}

pub loop-i-preserved : goal.loop-i-preserved
loop-i-preserved c =
    let acts = c.args.acts.now in
    let xs = c.args.activations.now.items in
    let ys = c.loop-i.activations.items in
    let i = c.loop-i.i in
    let so_far = c.loop-i.invariant in
    let same : length ys ≡ length xs = ap length so_far ∙ length-taken_over (take i acts) xs in
    elim c.if-i-len.branch [
      | then-i-len w ↦
          let r = w.index-acts-i.result in
          let a = w.index_mut.result.now in
          let there : a ≡ get_or (taken_over (take i acts) xs) i a = w.index_mut.ensures.value ∙ ap (λ (zs : List Active). get_or zs i a) so_far in
          rw (w.activations-is, add-one)
          (ap (set ys i) w.take_state.ensures ∙ ap (λ (zs : List Active). set zs i (taken_by r a)) so_far
          ∙ take_more acts xs i r a (omega arith) (omega (arith, same, c.loop-i.activations.ok.0)) w.index-acts-i.is there)
      | else-i-len w ↦ rw (w.activations-is, add-one) (so_far ∙ sym (take_past acts xs i (omega (arith, same, c.loop-i.activations.ok.0))))
    ]
