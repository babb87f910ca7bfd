use Rattle.std.proofs.Common.{◌≡◌, ◌++◌, ◌∷◌, [], ◌∙◌, ap, append_assoc, rules, List}
use Rattle.ode_host.specs.declared.call.Call.{Call}
use Rattle.ode_host.specs.declared.call.Call.TheVariants.{Begin, End}
use Rattle.ode_host.proofs.tape.note_print.Goals as goal

pub returns-clause-ok : goal.returns-clause-ok
returns-clause-ok c =
    let same : c.in_ok-copy.copy.items ≡ c.args.piece.now = search rules in
    let begun : c.push.new.self.items ≡ c.args.calls.now.items ++ Begin c.in_ok-copy.copy ∷ [] = c.in_ok-push.ensures.items in
    let ended : c.push-2.new.self.items ≡ c.push.new.self.items ++ End ∷ [] = search rules in
    let said : c.extend_from_slice.new.self.items ≡ c.args.text.now.items ++ c.args.piece.now = search rules in
    (c.in_ok-copy.copy, same, ended ∙ ap (λ (l : List Call). l ++ End ∷ []) begun ∙ append_assoc c.args.calls.now.items (Begin c.in_ok-copy.copy ∷ []) (End ∷ []), said)
