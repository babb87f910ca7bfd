use Rattle.std.proofs.Common.{ℕ, List, Option, ◌++◌, ◌∙◌, ap, length, sym}
use Rattle.std.specs.Int.{w16, to_be_bytes}
use Rattle.ode_journal.specs.Filling.{filled_by}
use Rattle.ode_value.specs.Records.{byte, key_bytes}
use Rattle.ode_keep.specs.Payloads.{spelled_change}
use Rattle.ode_keep.specs.declared.spelling.TheConstants.{PUT, REMOVAL}
use Rattle.ode_areas.proofs.Encoding.{filled_twice}
use Rattle.ode_areas.proofs.encode.push_change.Goals as goal

pub returns-in-None-clause-pushed : goal.returns-in-None-clause-pushed
returns-in-None-clause-pushed c =
    let key = c.args.key in
    filled_twice c.args.frame.now c.push.new.self c.push-in-None.new.self (byte REMOVAL) (key_bytes key) c.key_bytes.result c.push.ensures c.key_bytes.ensures.spelled c.push-in-None.ensures
    ∙ ap (λ (w : Option (List ℕ)). filled_by c.args.frame.now (spelled_change key w)) (sym c.in-None.is)

pub returns-in-Some-clause-pushed : goal.returns-in-Some-clause-pushed
returns-in-Some-clause-pushed c =
    let f = c.args.frame.now in
    let key = c.args.key in
    let v = c.in-Some.value in
    let head = key_bytes key ++ to_be_bytes w16 (length v) in
    let one = filled_twice f c.push-in-Some.new.self c.push-in-Some-2.new.self (byte PUT) head c.row_head.result
    c.push-in-Some.ensures (c.row_head.ensures.spelled ∙ ap (λ (n : ℕ). key_bytes key ++ to_be_bytes w16 n) c.len.ensures) c.push-in-Some-2.ensures in
    filled_twice f c.push-in-Some-2.new.self c.push-in-Some-3.new.self (byte PUT ++ head) v c.as_slice.result.now one c.as_slice.ensures c.push-in-Some-3.ensures
    ∙ ap (λ (w : Option (List ℕ)). filled_by f (spelled_change key w)) (sym c.in-Some.is)
