use Rattle.std.proofs.Common.{◌≡◌, ◌++◌, codes, drop, map}
use Rattle.ode_value.specs.PrintedClasses.{member_text}
use Rattle.ode_print.specs.Joined.{behind}
use Rattle.ode_print.proofs.class.put_members.Given as goal

abbrev pub invariant-loop-member : goal.invariant-loop-member
invariant-loop-member l = l.out.items ++ behind (codes " ") (map member_text (drop l.member-index l.members)) ≡ l.fn.out.items ++ codes "{" ++ behind (codes " ") (map member_text l.members)
