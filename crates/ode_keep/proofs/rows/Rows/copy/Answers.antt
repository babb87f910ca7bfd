use Rattle.std.proofs.Common.{◌≡◌, ◌+◌, ℕ, List, [], ◌∷◌, ◌++◌, length, take, ap, sym, ◌∙◌}
use Rattle.std.proofs.lemmas.List.{take_more}
use Rattle.ode_value.specs.Records.{Row}
use Rattle.ode_keep.proofs.Spanning.{copied_more}
use Rattle.ode_keep.proofs.rows.Rows.copy.Goals as goal

pub loop-key-preserved : goal.loop-key-preserved
loop-key-preserved c =
    let rows = c.args.rows.now in
    let i = c.loop-key.key-index in
    let e = c.loop-key-item.result in
    let taken : take (i + 1) rows ≡ take i rows ++ e ∷ [] = take_more rows i e c.loop-key-test.true ∙ ap (λ (r : Row). take i rows ++ r ∷ []) (sym c.loop-key-item.is) in
    let keys : c.push.new.self.items ≡ c.loop-key.keys.items ++ (e.0, length e.1) ∷ [] =
    c.in_ok-push.ensures.items ∙ ap (λ (n : ℕ). c.loop-key.keys.items ++ (e.0, n) ∷ []) c.len.ensures in
    let values : c.extend_from_slice.new.self.items ≡ c.loop-key.bytes.items ++ e.1 =
    c.in_ok-extend_from_slice.ensures.items ∙ ap (λ (v : List ℕ). c.loop-key.bytes.items ++ v) c.as_slice.ensures in
    let more = copied_more c.loop-key.keys.items c.push.new.self.items c.loop-key.bytes.items c.extend_from_slice.new.self.items e.1 e.0 (take i rows) c.loop-key.invariant.0 c.loop-key.invariant.1 keys values in
    (more.0 ∙ sym taken, more.1)
