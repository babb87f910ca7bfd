use Rattle.std.proofs.Common.{◌≡◌, ℕ, ◌+◌, ◌*◌, List, map, drop, max, Option}
use denote.Param.Weighed.{most}
use Rattle.ode_value.proofs.statement.Stmt.TheLaws.{the_size}
use Rattle.ode_value.specs.Pasts.{Past, numbers}
use Rattle.ode_value.specs.Acts.{each}
use Rattle.ode_value.specs.Executing.{execute, in_turn, deeper, actions_of}
use Rattle.ode_value.specs.Posting.{Body, treats}
use Rattle.ode_value.specs.Statements.{Inner}
use Rattle.ode_value.specs.Worlds.{Declared}
use Rattle.ode_interpreter.specs.Seen.{with_classes, scene, firing}
use Rattle.ode_interpreter.proofs.statements.+go.Given as goal

-- one level of calls has room for the deepest body
abbrev room : ℕ → ℕ
room tallest = 4 * tallest + 20

abbrev pub decreases-act : goal.decreases-act
decreases-act g l = let t = g.S.Schema.longest l.schema.now the_size in l.levels * room t + 4 * t + 3

abbrev pub decreases-fire : goal.decreases-fire
decreases-fire g l = let t = g.S.Schema.longest l.schema.now the_size in l.levels * room t + 4 * t + 4

abbrev pub decreases-fire_all : goal.decreases-fire_all
decreases-fire_all g l = let t = g.S.Schema.longest l.schema.now the_size in l.levels * room t + 4 * t + 5

abbrev pub decreases-post : goal.decreases-post
decreases-post g l = let t = g.S.Schema.longest l.schema.now the_size in l.levels * room t + 4 * t + 6

abbrev pub decreases-touch : goal.decreases-touch
decreases-touch g l = let t = g.S.Schema.longest l.schema.now the_size in l.levels * room t + 4 * t + 8

abbrev pub decreases-new_version : goal.decreases-new_version
decreases-new_version g l = let t = g.S.Schema.longest l.schema.now the_size in l.levels * room t + 4 * t + 9

abbrev pub decreases-drop_version : goal.decreases-drop_version
decreases-drop_version g l = let t = g.S.Schema.longest l.schema.now the_size in l.levels * room t + 4 * t + 9

abbrev pub decreases-activate : goal.decreases-activate
decreases-activate g l = let t = g.S.Schema.longest l.schema.now the_size in l.levels * room t + 4 * t + 9

abbrev pub decreases-call_inside : goal.decreases-call_inside
decreases-call_inside g l = let t = g.S.Schema.longest l.schema.now the_size in l.levels * room t + 8 * t + 18

abbrev pub decreases-enter : goal.decreases-enter
decreases-enter g l = let t = g.S.Schema.longest l.schema.now the_size in l.levels * room t + 4 * most the_size l.body.now + 1

abbrev pub decreases-call_after : goal.decreases-call_after
decreases-call_after g l = let t = g.S.Schema.longest l.schema.now the_size in l.levels * room t + 4 * t + 9

abbrev pub decreases-call : goal.decreases-call
decreases-call g l = let t = g.S.Schema.longest l.schema.now the_size in l.levels * room t + 4 * t + 9

abbrev pub decreases-create : goal.decreases-create
decreases-create g l = let t = g.S.Schema.longest l.schema.now the_size in l.levels * room t + 4 * t + 9

abbrev pub decreases-delete : goal.decreases-delete
decreases-delete g l = let t = g.S.Schema.longest l.schema.now the_size in l.levels * room t + 4 * t + 9

abbrev pub decreases-deactivate : goal.decreases-deactivate
decreases-deactivate g l = let t = g.S.Schema.longest l.schema.now the_size in l.levels * room t + 4 * t + 9

abbrev pub decreases-right : goal.decreases-right
decreases-right g l = let t = g.S.Schema.longest l.schema.now the_size in l.levels * room t + 4 * t + 10

abbrev pub decreases-exec : goal.decreases-exec
decreases-exec g l = let t = g.S.Schema.longest l.schema.now the_size in l.levels * room t + 4 * t + 12 + 4 * the_size l.s.now

abbrev pub decreases-exec_all : goal.decreases-exec_all
decreases-exec_all g l = let t = g.S.Schema.longest l.schema.now the_size in l.levels * room t + 4 * t + 13 + 4 * most the_size l.body.now

abbrev pub decreases-run_body : goal.decreases-run_body
decreases-run_body g l = let t = g.S.Schema.longest l.schema.now the_size in l.levels * room t + 4 * t + 15 + 4 * most the_size l.body.now

abbrev pub decreases-post_around : goal.decreases-post_around
decreases-post_around g l = let t = g.S.Schema.longest l.schema.now the_size in l.levels * room t + 4 * t + 7

abbrev pub decreases-bind : goal.decreases-bind
decreases-bind g l = let t = g.S.Schema.longest l.schema.now the_size in l.levels * room t + 4 * t + 11

abbrev pub decreases-perform : goal.decreases-perform
decreases-perform g l = let t = g.S.Schema.longest l.schema.now the_size in l.levels * room t + 4 * t + 11

abbrev pub decreases-choose : goal.decreases-choose
decreases-choose g l = let t = g.S.Schema.longest l.schema.now the_size in l.levels * room t + 4 * t + 14 + 4 * max (most the_size l.first.now) (most the_size l.second.now)

abbrev pub decreases-show : goal.decreases-show
decreases-show g l = let t = g.S.Schema.longest l.schema.now the_size in l.levels * room t + 4 * t + 11

abbrev pub decreases-run_method : goal.decreases-run_method
decreases-run_method g l = let t = g.S.Schema.longest l.schema.now the_size in l.levels * room t + 4 * t + 16 + 4 * most the_size l.method.now.body

abbrev pub invariant-exec_all-loop-s : goal.invariant-exec_all-loop-s
invariant-exec_all-loop-s g l =
    let past : Past (Unit {0}) ℕ = numbers (g.S.Schema.tables l.schema) in
    let d : Option (Inner (Unit {0}) ℕ) = deeper past l.levels in
    record {
      kept : (k : g.T.Acts.Known) → g.T.Acts.knows l.fn.tx l.schema k → g.T.Acts.knows l.tx l.schema k;
      serves : (b : g.T.Acts.Base) → g.T.Acts.usable l.fn.tx b → g.T.Acts.usable l.tx b;
      rest : (classes : List Declared) (k : g.T.Acts.Known) → g.S.Schema.declares l.schema classes → g.T.Acts.knows l.fn.tx l.schema k
          → in_turn (map (execute past d) (drop l.s-index l.body)) (scene l.on) (with_classes classes (g.T.Acts.view l.tx k))
          ≡ in_turn (map (execute past d) l.fn.body) (scene l.fn.on) (with_classes classes (g.T.Acts.view l.fn.tx k));
    }

abbrev pub invariant-fire_all-loop-f : goal.invariant-fire_all-loop-f
invariant-fire_all-loop-f g l =
    let past : Past (Unit {0}) ℕ = numbers (g.S.Schema.tables l.schema) in
    let d : Option (Body (Unit {0}) ℕ) = actions_of (deeper past l.levels) in
    record {
      kept : (k : g.T.Acts.Known) → g.T.Acts.knows l.fn.tx l.schema k → g.T.Acts.knows l.tx l.schema k;
      serves : (b : g.T.Acts.Base) → g.T.Acts.usable l.fn.tx b → g.T.Acts.usable l.tx b;
      rest : (classes : List Declared) (k : g.T.Acts.Known) → g.S.Schema.declares l.schema classes → g.T.Acts.knows l.fn.tx l.schema k
          → each (treats d) (map (firing (g.S.Schema.trigger l.schema)) (drop l.f-index l.firings)) (with_classes classes (g.T.Acts.view l.tx k))
          ≡ each (treats d) (map (firing (g.S.Schema.trigger l.schema)) l.fn.firings) (with_classes classes (g.T.Acts.view l.fn.tx k));
    }
