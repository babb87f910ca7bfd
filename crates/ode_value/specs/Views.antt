-- Histories of points (Gehani, Jagadish and Shmueli, VLDB 1992).
use Rattle.std.specs.Prelude.{ℕ, List, drop, filter}
use Rattle.std.specs.List.{list_any}
use Rattle.ode_value.specs.declared.event.Kind.{Kind}
use Rattle.ode_value.specs.declared.event.Point.{Point}
use Rattle.ode_value.specs.Same.{same_kind}

-- the points of an object, in their order
abbrev pub History : Type 0
History = List Point

-- those of the kinds that the object's class lists; no others become points
abbrev pub of_kinds : List Kind → History → History
of_kinds kinds history = filter (λ (p : Point). list_any (same_kind p.kind) kinds) history

-- what an activation sees of a history: the part since its start
abbrev pub view : ℕ → History → History
view start history = drop start history
