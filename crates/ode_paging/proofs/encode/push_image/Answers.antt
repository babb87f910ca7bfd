use Rattle.std.proofs.Common.{ℕ, List, ◌++◌, ◌∙◌, ap, length}
use Rattle.std.specs.Int.{w16, w32, to_be_bytes}
use Rattle.ode_journal.specs.Filling.{filled_by}
use Rattle.ode_paging.proofs.Encoding.{filled_twice}
use Rattle.ode_paging.proofs.encode.push_image.Goals as goal

pub returns-clause-pushed : goal.returns-clause-pushed
returns-clause-pushed c =
    let f = c.args.frame.now in
    let page = to_be_bytes w32 c.args.page in
    let v = c.args.used.now in
    let long = to_be_bytes w16 (length v) in
    let one = filled_twice f c.push.new.self c.push-2.new.self page long c.to_be_bytes-2.result
    (c.push.ensures ∙ ap (λ (l : List ℕ). filled_by f l) c.to_be_bytes.ensures)
    (c.to_be_bytes-2.ensures ∙ ap (λ (n : ℕ). to_be_bytes w16 n) c.len.ensures) c.push-2.ensures in
    filled_twice f c.push-2.new.self c.push-3.new.self (page ++ long) v c.as_slice.result.now one c.as_slice.ensures c.push-3.ensures
