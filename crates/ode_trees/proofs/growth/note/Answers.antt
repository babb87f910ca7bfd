use Rattle.std.proofs.Common.{refl, subst, ◌≡◌, ◌++◌, ◌∷◌, [], OnOk}
use Rattle.ode_trees.proofs.FoundLaws.{known-ok, new-ok}
use Rattle.ode_trees.proofs.growth.note.Goals as goal

pub returns-in-Some-clause-trees : goal.returns-in-Some-clause-trees
returns-in-Some-clause-trees c = known-ok c.push.result c.args.found.now.trees c.args.found.now.trees c.in-Some.n c.args.s refl c.in-Some.ensures.some

pub returns-in_ok-add-in-None-clause-next : goal.returns-in_ok-add-in-None-clause-next
returns-in_ok-add-in-None-clause-next c =
    new-ok c.push-in-None.result c.args.found.now.trees c.add.new.found.trees c.args.found.now.next c.push-in-None.new.self c.len-n.result c.args.s c.in_ok-add-in-None.ensures.trees c.len-n.ensures
    (subst (λ l. OnOk c.push-in-None.result (c.push-in-None.new.self ≡ l ++ c.len-n.result ∷ [])) c.in_ok-add-in-None.ensures.next c.push-in-None.ensures.ok)
