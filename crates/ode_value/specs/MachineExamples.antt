-- A world of one object with one activation, for examples of the machine.
use Rattle.std.specs.Prelude.{ℕ, ◌+◌, List, [], ◌∷◌, map, Bool, true, false, codes, Option, Some, None}
use Rattle.std.specs.List.{filter}
use Rattle.ode_value.specs.declared.event.EventExpr.TheVariants.{Leaf}
use Rattle.ode_value.specs.declared.event.Kind.{Kind}
use Rattle.ode_value.specs.declared.event.Kind.TheVariants.{Before}
use Rattle.ode_value.specs.declared.event.Mode.{Mode}
use Rattle.ode_value.specs.declared.event.Point.{Point}
use Rattle.ode_value.specs.declared.member.TriggerDecl.{TriggerDecl}
use Rattle.ode_value.specs.declared.reason.Reason.{Reason}
use Rattle.ode_value.specs.declared.reason.Reason.TheVariants.{Asked}
use Rattle.ode_value.specs.declared.value.Value.{Value}
use Rattle.ode_value.specs.Acts.{Outcome, Done, Aborted, Deed, aborts, ◌>>◌}
use Rattle.ode_value.specs.Changes.{Draw}
use Rattle.ode_value.specs.Language.{ListWorld}
use Rattle.ode_value.specs.Executing.{level}
use Rattle.ode_value.specs.Keeping.{is_active}
use Rattle.ode_value.specs.Objects.{Activation, Histories, Starts}
use Rattle.ode_value.specs.Pasts.{lists}
use Rattle.ode_value.specs.Posting.{posts}
use Rattle.ode_value.specs.Statements.{calls_inside, generic}
use Rattle.ode_value.specs.Transactions.{Firing, Script, Tx, begun, touching}
use Rattle.ode_value.specs.Worlds.{Declared, Object, empty_bones}

-- before a call of `m`
abbrev pub before_m : Kind
before_m = Before (codes "m")

-- `trigger once whole deferred t(): before m ==> { }`, and the same with other words
abbrev pub watching : (whole : Bool) → Mode → TriggerDecl
watching whole mode = record {
  name = codes "t";
  initial = false;
  perpetual = false;
  whole = whole;
  mode = mode;
  params = [];
  event = Leaf before_m None;
  action = [];
}

-- a class that lists the kind and has the trigger
abbrev pub watched : TriggerDecl → Declared
watched t = record {
  class = record {
    number = 1;
    name = codes "C";
    parent = None;
    fields = [];
    methods = [];
    constraints = [];
    kinds = before_m ∷ [];
    triggers = t ∷ [];
  };
  tree = record { name = codes "C"; parent = None; members = [] };
}

-- an object of the class with an activation
abbrev pub watched_object : Object
watched_object = record {
  id = 1;
  class = 1;
  live = true;
  last = 1;
  versions = record { number = 1; parent = None; stamp = 0; fields = [] } ∷ [];
  activations = record { number = 2; class = 1; trigger = 0; args = []; on = true } ∷ [];
}

-- the world of both, with this past of the object, when so many transactions have settled
abbrev pub watched_world : (settled : ℕ) → TriggerDecl → Histories → ListWorld
watched_world settled t h = record {
  bones = record empty_bones { classes = watched t ∷ []; objects = watched_object ∷ []; next = 3; transaction = settled + 1 };
  pasts = (1, record { own = h; activations = (2, record { whole = 0; committed = 0 }) ∷ [] }) ∷ [];
}

-- the point before a call
abbrev pub before_call : Point
before_call = record { kind = before_m; args = []; fields = [] }

-- no points
abbrev pub no_points : Histories
no_points = record { whole = []; committed = [] }

-- one point of a transaction that aborted
abbrev pub one_lost_point : Histories
one_lost_point = record { whole = before_call ∷ []; committed = [] }

-- a point arises where no action can run
abbrev pub posts_before : Deed Histories Starts
posts_before = posts lists None 1 before_m []

-- the same, and an abort
abbrev pub posts_and_aborts : Deed Histories Starts
posts_and_aborts = posts_before >> aborts Asked

-- the activations that are on now in a transaction
abbrev pub active : Tx Histories Starts → List (List ℕ)
active x = map (λ (o : Object). map (λ (a : Activation). a.number) (filter is_active o.activations)) x.now.bones.objects

-- the firing there
abbrev pub firing_there : TriggerDecl → Firing
firing_there t = record { object = 1; activation = 2; trigger = record { class = 1; place = 0; decl = t }; args = [] }

-- a call of `m` whose level is the last, of an object that was touched before
abbrev pub call_at_the_last_level : TriggerDecl → Outcome Histories Starts Value
call_at_the_last_level t = calls_inside lists (level lists None) (generic 1) (codes "m") [] (touching 1 (begun Script (watched_world 0 t no_points)))

-- why an act aborted, if it did
abbrev pub aborted_for : {R : Type 0} → Outcome Histories Starts R → Option Reason
aborted_for (Done answer x) = None
aborted_for (Aborted reason x) = Some reason

-- a change that finds no number for an object or an activation
abbrev pub none_left : Draw
none_left = record { left = λ b. false; number = true }
