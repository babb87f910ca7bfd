use Rattle.std.proofs.Common.{◌≡◌, ℕ, true, subst, sym}
use Rattle.std.specs.List.{All}
use Rattle.ode_value.specs.Acts.{each}
use Rattle.ode_value.specs.Pasts.{Past, numbers}
use Rattle.ode_value.specs.Posting.{is_touched}
use Rattle.ode_value.specs.Settling.{posts_last}
use Rattle.ode_interpreter.proofs.Stays.{all_touched, of_touched}
use Rattle.ode_interpreter.proofs.settling.post_all.Goals as goal
use Rattle.ode_interpreter.specs.Seen.{Ends, with_classes}
use Rattle.ode_interpreter.specs.Settled.{last_place}

pub returns-clause-acts : goal.returns-clause-acts
returns-clause-acts g c = λ classes k d known.
    let past : Past (Unit {0}) ℕ = numbers (g.S.Schema.tables c.args.schema.now) in
    let ids = c.in_ok-ids.ids in
    let before = with_classes classes (g.T.Acts.view c.args.tx.now k) in
    let there = with_classes classes (g.T.Acts.view c.touched.new.self k) in
    let read = c.in_ok-ids.ensures.acts classes k d known in
    let kept = c.in_ok-ids.ensures.kept k known in
    let all = subst (All (λ id. is_touched id there ≡ true)) (sym c.as_slice.ensures) (all_touched ids before there read) in
    of_touched (λ us z. Ends c.post_each.result (with_classes classes (g.T.Acts.view c.post_each.new.tx k)) (each (posts_last past (last_place past c.args.kept) c.args.kind.now) us z)) ids c.as_slice.result.now before there read c.as_slice.ensures
    (c.post_each.ensures.acts classes k d kept all)
