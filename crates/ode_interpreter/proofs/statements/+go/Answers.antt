use Rattle.std.proofs.Common.{ℕ, arith, rules}
use Rattle.std.proofs.lemmas.Grind.{common_steps}
use Rattle.ode_value.specs.Executing.{deeper, level}
use Rattle.ode_value.specs.Pasts.{Past, numbers}
use Rattle.ode_value.specs.Statements.{Inner, calls_behind, calls_inside, copies, creates, deletes, drops_version, generic}
use Rattle.ode_interpreter.specs.Seen.{with_classes}
use Rattle.ode_interpreter.proofs.Fronts.{calls_by, calls_found}
use Rattle.ode_interpreter.proofs.Levels.{execute_if}
use Rattle.ode_interpreter.proofs.Stays.{body_stays, denotes_stays, derive_stays, hard_stays, joins_touch, makes_touch, method_stays, post_stays, spare_stays, stand_stays, touches_touch}
use Rattle.ode_interpreter.proofs.Touches.{touched_again, touched_anew}
use Rattle.ode_interpreter.proofs.statements.+go.Goals as goal

pub exec-returns-in-If-clause-acts : goal.exec-returns-in-If-clause-acts
exec-returns-in-If-clause-acts g t c = λ classes k d known.
    let counted = c.in_ok-count.ensures.kept k known in
    rw (c.in-If.is, execute_if, c.in_ok-count.ensures.acts classes k d known)
    (c.choose.ensures.acts classes k d counted)

pub touch-returns-then-branch-clause-acts : goal.touch-returns-then-branch-clause-acts
touch-returns-then-branch-clause-acts g t c = λ classes k d known.
    let joined = c.in_ok-join.ensures.acts classes k d known in
    let kept = c.in_ok-join.ensures.kept k known in
    touched_anew _ _ _ _ _ _ _ _ c.if-branch.true joined (c.post.ensures.acts classes k d kept (joins_touch _ _ _ _ joined))

pub touch-returns-clause-acts : goal.touch-returns-clause-acts
touch-returns-clause-acts g t c = λ classes k d known.
    let joined = c.in_ok-join.ensures.acts classes k d known in
    touched_again _ _ _ _ _ _ c.if-branch.false joined

pub create-returns-in_err-post-clause-acts : goal.create-returns-in_err-post-clause-acts
unfolding creates
create-returns-in_err-post-clause-acts g t c = λ classes k d known.
    let a1 = c.in_ok-object.ensures.acts classes k d known in
    let x1 = with_classes classes (g.T.Acts.view c.make_named.new.tx k) in
    let t1 = makes_touch _ _ _ _ _ _ _ a1 in
    let k1 = c.in_ok-object.ensures.kept k known in
    let a2 = c.in_ok-test_hard.ensures.acts classes k d k1 in
    let x2 = with_classes classes (g.T.Acts.view c.test_hard.new.self k) in
    let t2 = hard_stays c.in_ok-object.object (generic c.in_ok-object.object) x1 x2 a2 t1 in
    let k2 = c.in_ok-test_hard.ensures.kept k k1 in
    let e = c.in_err-post.ensures.acts classes k d k2 t2 in
    first_of (search rules, grind (arith, common_steps))

pub create-returns-clause-acts : goal.create-returns-clause-acts
unfolding creates
create-returns-clause-acts g t c = λ classes k d known.
    let a1 = c.in_ok-object.ensures.acts classes k d known in
    let x1 = with_classes classes (g.T.Acts.view c.make_named.new.tx k) in
    let t1 = makes_touch _ _ _ _ _ _ _ a1 in
    let k1 = c.in_ok-object.ensures.kept k known in
    let a2 = c.in_ok-test_hard.ensures.acts classes k d k1 in
    let x2 = with_classes classes (g.T.Acts.view c.test_hard.new.self k) in
    let t2 = hard_stays c.in_ok-object.object (generic c.in_ok-object.object) x1 x2 a2 t1 in
    let k2 = c.in_ok-test_hard.ensures.kept k k1 in
    let a3 = c.in_ok-post.ensures.acts classes k d k2 t2 in
    let k3 = c.in_ok-post.ensures.kept k k2 in
    first_of (search rules, grind (arith, common_steps))

pub delete-returns-in_err-post-clause-acts : goal.delete-returns-in_err-post-clause-acts
unfolding deletes
delete-returns-in_err-post-clause-acts g t c = λ classes k d known.
    let r = c.in_ok-r.r in
    let a1 = c.in_ok-r.ensures.acts classes k d known in
    let k1 = c.in_ok-r.ensures.kept k known in
    let a2 = c.in_ok-touch.ensures.acts classes k d k1 in
    let x2 = with_classes classes (g.T.Acts.view c.touch.new.tx k) in
    let t2 = touches_touch _ _ _ _ _ a2 in
    let k2 = c.in_ok-touch.ensures.kept k k1 in
    let a3 = c.in_ok-stand.ensures.acts classes k d k2 in
    let x3 = with_classes classes (g.T.Acts.view c.stand.new.self k) in
    let t3 = stand_stays r.object r x2 x3 a3 t2 in
    let k3 = c.in_ok-stand.ensures.kept k k2 in
    let e = c.in_err-post.ensures.acts classes k d k3 t3 in
    first_of (search rules, grind (arith, common_steps))

pub delete-returns-clause-acts : goal.delete-returns-clause-acts
unfolding deletes
delete-returns-clause-acts g t c = λ classes k d known.
    let r = c.in_ok-r.r in
    let a1 = c.in_ok-r.ensures.acts classes k d known in
    let k1 = c.in_ok-r.ensures.kept k known in
    let a2 = c.in_ok-touch.ensures.acts classes k d k1 in
    let x2 = with_classes classes (g.T.Acts.view c.touch.new.tx k) in
    let t2 = touches_touch _ _ _ _ _ a2 in
    let k2 = c.in_ok-touch.ensures.kept k k1 in
    let a3 = c.in_ok-stand.ensures.acts classes k d k2 in
    let x3 = with_classes classes (g.T.Acts.view c.stand.new.self k) in
    let t3 = stand_stays r.object r x2 x3 a3 t2 in
    let k3 = c.in_ok-stand.ensures.kept k k2 in
    let a4 = c.in_ok-post.ensures.acts classes k d k3 t3 in
    let k4 = c.in_ok-post.ensures.kept k k3 in
    let e = c.removed.ensures.acts classes k d k4 in
    first_of (search rules, grind (arith, common_steps))

pub new_version-returns-in_err-post-clause-acts : goal.new_version-returns-in_err-post-clause-acts
unfolding copies
new_version-returns-in_err-post-clause-acts g t c = λ classes k d known.
    let r = c.in_ok-r.r in
    let a1 = c.in_ok-r.ensures.acts classes k d known in
    let k1 = c.in_ok-r.ensures.kept k known in
    let a2 = c.in_ok-touch.ensures.acts classes k d k1 in
    let x2 = with_classes classes (g.T.Acts.view c.touch.new.tx k) in
    let t2 = touches_touch _ _ _ _ _ a2 in
    let k2 = c.in_ok-touch.ensures.kept k k1 in
    let a3 = c.in_ok-made.ensures.acts classes k d k2 in
    let x3 = with_classes classes (g.T.Acts.view c.derive.new.self k) in
    let t3 = derive_stays r.object r c.in_ok-made.made x2 x3 a3 t2 in
    let k3 = c.in_ok-made.ensures.kept k k2 in
    let e = c.in_err-post.ensures.acts classes k d k3 t3 in
    first_of (search rules, grind (arith, common_steps))

pub new_version-returns-clause-acts : goal.new_version-returns-clause-acts
unfolding copies
new_version-returns-clause-acts g t c = λ classes k d known.
    let r = c.in_ok-r.r in
    let a1 = c.in_ok-r.ensures.acts classes k d known in
    let k1 = c.in_ok-r.ensures.kept k known in
    let a2 = c.in_ok-touch.ensures.acts classes k d k1 in
    let x2 = with_classes classes (g.T.Acts.view c.touch.new.tx k) in
    let t2 = touches_touch _ _ _ _ _ a2 in
    let k2 = c.in_ok-touch.ensures.kept k k1 in
    let a3 = c.in_ok-made.ensures.acts classes k d k2 in
    let x3 = with_classes classes (g.T.Acts.view c.derive.new.self k) in
    let t3 = derive_stays r.object r c.in_ok-made.made x2 x3 a3 t2 in
    let k3 = c.in_ok-made.ensures.kept k k2 in
    let a4 = c.in_ok-post.ensures.acts classes k d k3 t3 in
    let k4 = c.in_ok-post.ensures.kept k k3 in
    first_of (search rules, grind (arith, common_steps))

pub drop_version-returns-in_err-post-clause-acts : goal.drop_version-returns-in_err-post-clause-acts
unfolding drops_version
drop_version-returns-in_err-post-clause-acts g t c = λ classes k d known.
    let r = c.in_ok-r.r in
    let a1 = c.in_ok-r.ensures.acts classes k d known in
    let k1 = c.in_ok-r.ensures.kept k known in
    let a2 = c.in_ok-touch.ensures.acts classes k d k1 in
    let x2 = with_classes classes (g.T.Acts.view c.touch.new.tx k) in
    let t2 = touches_touch _ _ _ _ _ a2 in
    let k2 = c.in_ok-touch.ensures.kept k k1 in
    let a3 = c.in_ok-version.ensures.acts classes k d k2 in
    let x3 = with_classes classes (g.T.Acts.view c.spare.new.self k) in
    let t3 = spare_stays r.object r c.in_ok-version.version x2 x3 a3 t2 in
    let k3 = c.in_ok-version.ensures.kept k k2 in
    let e = c.in_err-post.ensures.acts classes k d k3 t3 in
    first_of (search rules, grind (arith, common_steps))

pub drop_version-returns-clause-acts : goal.drop_version-returns-clause-acts
unfolding drops_version
drop_version-returns-clause-acts g t c = λ classes k d known.
    let r = c.in_ok-r.r in
    let a1 = c.in_ok-r.ensures.acts classes k d known in
    let k1 = c.in_ok-r.ensures.kept k known in
    let a2 = c.in_ok-touch.ensures.acts classes k d k1 in
    let x2 = with_classes classes (g.T.Acts.view c.touch.new.tx k) in
    let t2 = touches_touch _ _ _ _ _ a2 in
    let k2 = c.in_ok-touch.ensures.kept k k1 in
    let a3 = c.in_ok-version.ensures.acts classes k d k2 in
    let x3 = with_classes classes (g.T.Acts.view c.spare.new.self k) in
    let t3 = spare_stays r.object r c.in_ok-version.version x2 x3 a3 t2 in
    let k3 = c.in_ok-version.ensures.kept k k2 in
    let a4 = c.in_ok-post.ensures.acts classes k d k3 t3 in
    let k4 = c.in_ok-post.ensures.kept k k3 in
    let e = c.dropped.ensures.acts classes k d k4 in
    first_of (search rules, grind (arith, common_steps))

pub call_inside-returns-in_err-post_around-clause-acts : goal.call_inside-returns-in_err-post_around-clause-acts
unfolding calls_inside
call_inside-returns-in_err-post_around-clause-acts g t c = λ classes k d known.
    let r = c.args.r in
    let a1 = c.in_ok-touch.ensures.acts classes k d known in
    let x1 = with_classes classes (g.T.Acts.view c.touch.new.tx k) in
    let t1 = touches_touch _ _ _ _ _ a1 in
    let k1 = c.in_ok-touch.ensures.kept k known in
    let a2 = c.in_ok-stand.ensures.acts classes k d k1 in
    let x2 = with_classes classes (g.T.Acts.view c.stand.new.self k) in
    let t2 = stand_stays r.object r x1 x2 a2 t1 in
    let k2 = c.in_ok-stand.ensures.kept k k1 in
    let e = c.in_err-post_around.ensures.acts classes k d k2 t2 in
    first_of (search rules, grind (arith, common_steps))

pub call_inside-returns-in_err-method-clause-acts : goal.call_inside-returns-in_err-method-clause-acts
call_inside-returns-in_err-method-clause-acts g t c = λ classes k d known.
    let r = c.args.r in
    let a1 = c.in_ok-touch.ensures.acts classes k d known in
    let x1 = with_classes classes (g.T.Acts.view c.touch.new.tx k) in
    let t1 = touches_touch _ _ _ _ _ a1 in
    let k1 = c.in_ok-touch.ensures.kept k known in
    let a2 = c.in_ok-stand.ensures.acts classes k d k1 in
    let x2 = with_classes classes (g.T.Acts.view c.stand.new.self k) in
    let t2 = stand_stays r.object r x1 x2 a2 t1 in
    let k2 = c.in_ok-stand.ensures.kept k k1 in
    let a3 = c.in_ok-post_around.ensures.acts classes k d k2 t2 in
    let k3 = c.in_ok-post_around.ensures.kept k k2 in
    let past : Past (Unit {0}) ℕ = numbers (g.S.Schema.tables c.args.schema.now) in
    let inner : Inner (Unit {0}) ℕ = level past (deeper past c.args.levels) in
    let e = c.in_err-method.ensures.acts classes k d k3 in
    calls_by past inner c.args.r c.args.name.now c.args.args.now _ _ _ _ _ _ a1 a2 a3 (first_of (search rules, grind (arith, common_steps)))

pub call_inside-returns-clause-acts : goal.call_inside-returns-clause-acts
call_inside-returns-clause-acts g t c = λ classes k d known.
    let r = c.args.r in
    let a1 = c.in_ok-touch.ensures.acts classes k d known in
    let x1 = with_classes classes (g.T.Acts.view c.touch.new.tx k) in
    let t1 = touches_touch _ _ _ _ _ a1 in
    let k1 = c.in_ok-touch.ensures.kept k known in
    let a2 = c.in_ok-stand.ensures.acts classes k d k1 in
    let x2 = with_classes classes (g.T.Acts.view c.stand.new.self k) in
    let t2 = stand_stays r.object r x1 x2 a2 t1 in
    let k2 = c.in_ok-stand.ensures.kept k k1 in
    let a3 = c.in_ok-post_around.ensures.acts classes k d k2 t2 in
    let x3 = with_classes classes (g.T.Acts.view c.post_around.new.tx k) in
    let t3 = post_stays _ r.object c.args.levels _ _ _ _ _ a3 t2 in
    let k3 = c.in_ok-post_around.ensures.kept k k2 in
    let a4 = c.in_ok-method.ensures.acts classes k d k3 in
    let x4 = with_classes classes (g.T.Acts.view c.method_of.new.tx k) in
    let t4 = method_stays r.object r.object c.args.name.now c.in_ok-method.method.now x3 x4 a4 t3 in
    let k4 = c.in_ok-method.ensures.kept k k3 in
    let past : Past (Unit {0}) ℕ = numbers (g.S.Schema.tables c.args.schema.now) in
    let inner : Inner (Unit {0}) ℕ = level past (deeper past c.args.levels) in
    calls_found past inner c.args.r c.args.name.now c.args.args.now _ _ _ _ _ _ _ _ a1 a2 a3 a4 (c.run_method.ensures.acts classes k d k4 t4)

pub run_method-returns-in_err-call_after-clause-acts : goal.run_method-returns-in_err-call_after-clause-acts
run_method-returns-in_err-call_after-clause-acts g t c = λ classes k d known touched.
    let a1 = c.in_ok-v.ensures.acts classes k d known in
    let t1 = body_stays _ c.args.r.object c.args.levels _ _ _ _ _ a1 touched in
    let k1 = c.in_ok-v.ensures.kept k known in
    let e = c.in_err-call_after.ensures.acts classes k d k1 t1 in
    first_of (search rules, grind (arith, common_steps))

pub run_method-returns-clause-acts : goal.run_method-returns-clause-acts
run_method-returns-clause-acts g t c = λ classes k d known touched.
    let a1 = c.in_ok-v.ensures.acts classes k d known in
    let t1 = body_stays _ c.args.r.object c.args.levels _ _ _ _ _ a1 touched in
    let k1 = c.in_ok-v.ensures.kept k known in
    let a2 = c.in_ok-call_after.ensures.acts classes k d k1 t1 in
    let k2 = c.in_ok-call_after.ensures.kept k k1 in
    first_of (search rules, grind (arith, common_steps))

pub call_after-returns-clause-acts : goal.call_after-returns-clause-acts
unfolding calls_behind
call_after-returns-clause-acts g t c = λ classes k d known touched.
    let x0 = with_classes classes (g.T.Acts.view c.args.tx.now k) in
    let a1 = c.in_ok-denotes.ensures.acts classes k d known in
    let x1 = with_classes classes (g.T.Acts.view c.denotes.new.self k) in
    let t1 = denotes_stays c.args.r.object c.args.r _ x0 x1 a1 touched in
    let k1 = c.in_ok-denotes.ensures.kept k known in
    let a2 = c.in_ok-test_hard.ensures.acts classes k d k1 in
    let x2 = with_classes classes (g.T.Acts.view c.test_hard.new.self k) in
    let t2 = hard_stays c.args.r.object c.args.r x1 x2 a2 t1 in
    let k2 = c.in_ok-test_hard.ensures.kept k k1 in
    let e = c.post_around.ensures.acts classes k d k2 t2 in
    first_of (search rules, grind (arith, common_steps))
