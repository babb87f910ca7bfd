-- What is kept of the past of an object and of each of its activations: the lists of points and the starts of views, or a state
-- number for each activation alone.
use Rattle.std.specs.Prelude.{ℕ, Bool, cond, List, []}
use Rattle.ode_value.specs.declared.event.EventExpr.{EventExpr}
use Rattle.ode_value.specs.declared.event.Point.{Point}
use Rattle.ode_value.specs.declared.value.Value.{Value}
use Rattle.ode_value.specs.Marks.{marks}
use Rattle.ode_value.specs.Objects.{Histories, Starts, new_starts, view_of, grown, grown_whole, rewound, altered}
use Rattle.ode_value.specs.Points.{fires_on}
use Rattle.ode_value.specs.Symbols.{symbol}
use Rattle.ode_value.specs.Tables.{Table, next_state, says_yes, Stands}

-- what an activation watches for: its trigger, by class and place, its event, whether it sees all points, and its arguments
pub record Watch : Type 0 where
  pub class : ℕ
  pub trigger : ℕ
  pub event : EventExpr
  pub whole : Bool
  pub args : List Value

-- O is kept for an object, and A for an activation
pub record Past (O A : Type 0) : Type 0 where
  -- of a new object, and of a new activation
  pub empty : O
  pub begin : O → A
  -- with one more point, and with one more in the list of all points alone
  pub grow : O → Point → O
  pub step : Watch → A → Point → A
  pub grow_whole : O → Point → O
  pub step_whole : Watch → A → Point → A
  -- after an abort, from what was kept at the start of the transaction and what is kept now
  pub rewind : O → O → O
  pub back : Watch → A → A → A
  -- whether the last point fires the trigger
  pub fires : Watch → O → A → Bool
  -- with a change of every point
  pub alter : (Point → Point) → O → O

-- what is kept of an object beside the world: of its own, and of each of its activations, by number
pub record Kept (O A : Type 0) : Type 0 where
  pub own : O
  pub activations : List (ℕ × A)

-- the lists themselves
abbrev pub lists : Past Histories Starts
lists = record {
  empty = record { whole = []; committed = [] };
  begin = new_starts;
  grow = grown;
  step = λ w start p. start;
  grow_whole = grown_whole;
  step_whole = λ w start p. start;
  rewind = rewound;
  back = λ w first now. first;
  fires = λ w h start. fires_on w.event w.args (view_of w.whole h start);
  alter = altered;
}

-- numbers, by the tables of the triggers
module _ (tables : ℕ → ℕ → Table) where
  abbrev pub table_of : Watch → Table
  table_of w = tables w.class w.trigger

  abbrev pub stepped : Watch → ℕ → Point → ℕ
  stepped w state p = next_state (table_of w) state (symbol w.event w.args p)

  abbrev pub numbers : Past (Unit {0}) ℕ
  numbers = record {
    empty = tt;
    begin = λ u. 0;
    grow = λ u p. tt;
    step = stepped;
    grow_whole = λ u p. tt;
    step_whole = λ w state p. cond w.whole (stepped w state p) state;
    rewind = λ first now. tt;
    back = λ w first now. cond w.whole now first;
    fires = λ w u state. says_yes (table_of w) state;
    alter = λ change u. tt;
  }

  -- an activation's number stands for its view
  abbrev pub StandsFor : Watch → Histories → Starts → ℕ → Type 0
  StandsFor w h start state = Stands (table_of w) state w.event (marks w.event w.args (view_of w.whole h start))
