-- What an object is beside its versions: the lists of its points, and its activations.
use Rattle.std.specs.Prelude.{ℕ, ◌≤◌, Bool, cond, List, [], ◌∷◌, ◌++◌, length, map}
use Rattle.ode_value.specs.declared.event.Point.{Point}
use Rattle.ode_value.specs.declared.value.Value.{Value}
use Rattle.ode_value.specs.Views.{History, view}

-- all points that arose, and those of transactions that committed, with those of the present one
pub record Histories : Type 0 where
  pub whole : History
  pub committed : History

-- where in each list an activation's view begins
pub record Starts : Type 0 where
  pub whole : ℕ
  pub committed : ℕ

-- an activation: its number, its trigger by the class that declares it and the place there, its arguments, and whether it is on
pub record Activation : Type 0 where
  pub number : ℕ
  pub class : ℕ
  pub trigger : ℕ
  pub args : List Value
  pub on : Bool

-- a new activation's view begins behind all points that are there
abbrev pub new_starts : Histories → Starts
new_starts h = record { whole = length h.whole; committed = length h.committed }

-- what an activation sees: the part since its start of the list that its trigger declares
abbrev pub view_of : Bool → Histories → Starts → History
view_of whole h start = cond whole (view start.whole h.whole) (view start.committed h.committed)

-- the starts lie within the lists
pub record IsWithin (start : Starts) (h : Histories) : Type 0 where
  pub whole : start.whole ≤ length h.whole
  pub committed : start.committed ≤ length h.committed

-- with one more point; with one more in the list of all points alone; with the points that an abort leaves; with a change of each
abbrev pub grown : Histories → Point → Histories
grown h p = record { whole = h.whole ++ p ∷ []; committed = h.committed ++ p ∷ [] }

abbrev pub grown_whole : Histories → Point → Histories
grown_whole h p = record { whole = h.whole ++ p ∷ []; committed = h.committed }

abbrev pub rewound : Histories → Histories → Histories
rewound first now = record { whole = now.whole; committed = first.committed }

abbrev pub altered : (Point → Point) → Histories → Histories
altered change h = record { whole = map change h.whole; committed = map change h.committed }
