use Rattle.std.proofs.Common.{arith, rules}
use Rattle.std.proofs.lemmas.Grind.{common_steps}
use Rattle.ode_interpreter.proofs.Stays.{last_stays}
use Rattle.ode_interpreter.proofs.settling.post_each.Goals as goal

pub returns-in_err-post_last-clause-acts : goal.returns-in_err-post_last-clause-acts
returns-in_err-post_last-clause-acts g c = λ classes k d known all.
    let there = c.loop-id.invariant.still classes k d known all c.loop-id.id-index 0 c.loop-id-test.true in
    let kept = c.loop-id.invariant.kept k known in
    let before = c.loop-id.invariant.rest classes k d known all in
    let failed = c.in_err-post_last.ensures.acts classes k d kept there in
    first_of (search rules, grind (arith, common_steps))

pub loop-id-preserved : goal.loop-id-preserved
loop-id-preserved g c = record {
  kept = first_of (search rules, grind (arith, common_steps));
  serves = first_of (search rules, grind (arith, common_steps));
  still = λ classes k d known all j e less.
      let now = c.loop-id.invariant.still classes k d known all in
      let kept = c.loop-id.invariant.kept k known in
      let done = c.in_ok-post_last.ensures.acts classes k d kept (now c.loop-id.id-index 0 c.loop-id-test.true) in
      last_stays _ _ _ _ _ _ _ done (now j e less);
  rest = λ classes k d known all.
      let now = c.loop-id.invariant.still classes k d known all in
      let kept = c.loop-id.invariant.kept k known in
      let before = c.loop-id.invariant.rest classes k d known all in
      let done = c.in_ok-post_last.ensures.acts classes k d kept (now c.loop-id.id-index 0 c.loop-id-test.true) in
      first_of (search rules, grind (arith, common_steps));
}
