use Rattle.std.proofs.Common.{◌≡◌, ◌++◌, codes, drop, map}
use Rattle.ode_print.specs.Joined.{behind}
use Rattle.ode_print.proofs.listed.put_more.Given as goal

abbrev pub invariant-loop-item : goal.invariant-loop-item
invariant-loop-item g l = l.out.items ++ behind (codes ", ") (map g.L.Listed.text_of (drop l.item-index l.rest)) ≡ l.fn.out.items ++ behind (codes ", ") (map g.L.Listed.text_of l.rest)
