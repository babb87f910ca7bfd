use Rattle.std.proofs.Common.{refl}
use Rattle.std.specs.Cmp.Lexicographic.{slice_cmp}
use Rattle.std.specs.Ordering.{nat_cmp}
use Rattle.ode_trees.proofs.CoverLaws.{covers-ok}
use Rattle.ode_trees.proofs.growth.add.Goals as goal

pub returns-clause-covers : goal.returns-clause-covers
returns-clause-covers c =
    covers-ok c.args.found.now.numbers.entries c.insert.new.self.entries (λ k. k.items) (λ x y. slice_cmp nat_cmp x.items y.items) (λ x y. refl)
    c.args.found.now.trees c.push.new.self c.args.key c.len-n.result c.args.s c.push.result c.requires.key c.requires.covers c.in_ok-insert.ensures.entries c.push.ensures.ok
