use Rattle.std.proofs.Common.{◌≡◌, ℕ, List, drop, true}
use Rattle.std.specs.List.{All}
use Rattle.ode_value.specs.Acts.{each}
use Rattle.ode_value.specs.Firings.{Place}
use Rattle.ode_value.specs.Pasts.{Past, numbers}
use Rattle.ode_value.specs.Posting.{is_touched}
use Rattle.ode_value.specs.Settling.{posts_last}
use Rattle.ode_value.specs.Worlds.{Declared}
use Rattle.ode_interpreter.specs.Seen.{with_classes}
use Rattle.ode_interpreter.specs.Settled.{last_place}
use Rattle.ode_interpreter.proofs.settling.post_each.Given as goal

abbrev pub invariant-loop-id : goal.invariant-loop-id
invariant-loop-id g l =
    let past : Past (Unit {0}) ℕ = numbers (g.S.Schema.tables l.schema) in
    let place : Place (Unit {0}) ℕ = last_place past l.kept in
    record {
      kept : (k : g.T.Acts.Known) → g.T.Acts.knows l.fn.tx l.schema k → g.T.Acts.knows l.tx l.schema k;
      serves : (b : g.T.Acts.Base) → g.T.Acts.usable l.fn.tx b → g.T.Acts.usable l.tx b;
      still : (classes : List Declared) (k : g.T.Acts.Known) → g.S.Schema.declares l.schema classes → g.T.Acts.knows l.fn.tx l.schema k
          → All (λ id. is_touched id (g.T.Acts.view l.fn.tx k) ≡ true) l.fn.ids → All (λ id. is_touched id (g.T.Acts.view l.tx k) ≡ true) l.ids;
      rest : (classes : List Declared) (k : g.T.Acts.Known) → g.S.Schema.declares l.schema classes → g.T.Acts.knows l.fn.tx l.schema k
          → All (λ id. is_touched id (g.T.Acts.view l.fn.tx k) ≡ true) l.fn.ids
          → each (posts_last past place l.kind) (drop l.id-index l.ids) (with_classes classes (g.T.Acts.view l.tx k))
          ≡ each (posts_last past place l.kind) l.fn.ids (with_classes classes (g.T.Acts.view l.fn.tx k));
    }
