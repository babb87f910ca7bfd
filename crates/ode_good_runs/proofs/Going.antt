-- A transaction that goes on, from a world that it may begin in.
use Rattle.std.proofs.Common.{◌≡◌, ◌+◌, ℕ, true, List, length, refl, ◌<◌, ◌≤◌}
use Rattle.std.specs.Prelude.{nat_le}
use Rattle.std.specs.List.{AllByRecursion, AllZip}
use Rattle.std.specs.Option.{IfSome}
use Rattle.ode_value.specs.declared.statement.Stmt.{Stmt}
use Rattle.ode_value.specs.declared.value.Ref.{Ref}
use Rattle.ode_value.specs.Acts.{Outcome, Done, Aborted, Deed, with_line}
use Rattle.ode_value.specs.Completing.{completes}
use Rattle.ode_value.specs.Executing.{commands}
use Rattle.ode_value.specs.Footprints.{Footprint}
use Rattle.ode_value.specs.GoodWorlds.{IsPast, IsPosition}
use Rattle.ode_value.specs.Keeping.{kept_bones}
use Rattle.ode_value.specs.Language.{Language, ListWorld, ListTx}
use Rattle.ode_value.specs.Limits.{output_limit, transaction_limit, weight_limit}
use Rattle.ode_value.specs.Objects.{Histories, Starts}
use Rattle.ode_value.specs.Pasts.{Past, lists}
use Rattle.ode_value.specs.Settling.{settle}
use Rattle.ode_value.specs.Transactions.{Script, begun, footed}
use Rattle.ode_value.specs.Weights.{weight}
use Rattle.ode_types.specs.Kept.{IsTypedStatement}
use Rattle.ode_laws.specs.Counted.{AreCounted}
use Rattle.ode_laws.specs.Numbered.{AreNumbered}
use Rattle.ode_laws.proofs.Alone.{Keeps, Alone, alone}
use Rattle.ode_laws.proofs.CountLaws.{Counting, counting_keeps, begun_counted}
use Rattle.ode_laws.proofs.GoodNumbers.{good_numbered, good_counted}
use Rattle.ode_laws.proofs.SideActs.{Alike}
use Rattle.ode_laws.proofs.SideCompleting.{completes_alike}
use Rattle.ode_laws.proofs.SideStatements.{commands_alike}
use Rattle.ode_laws.proofs.Sides.{EndsBy, Sides}
use Rattle.ode_laws.proofs.WeightLaws.{completion_light}
use Rattle.ode_run_laws.specs.Orders.{IsOrdered}
use Rattle.ode_run_laws.proofs.FollowLaws.{Following, following_keeps}
use Rattle.ode_run_laws.proofs.FollowSettling.{StaysHeld, begun_follows, settle_follows}
use Rattle.ode_run_laws.proofs.GoodOrders.{good_ordered}
use Rattle.ode_sound_laws.specs.Fits.{FitsLiteral}
use Rattle.ode_sound_laws.specs.Sound.{checked_classes}
use Rattle.ode_sound_laws.specs.Typed.{IsTypedWorld, IsTyped, StaysTyped}
use Rattle.ode_sound_laws.proofs.WalkActs.{typed_as}
use Rattle.ode_sound_laws.proofs.WorldLaws.{begun_typed, completion_typed, good_typed, settle_typed, statement_typed}
use Rattle.ode_good_laws.specs.Distinct.{AreDistinct}
use Rattle.ode_good_laws.specs.Well.{IsWell}
use Rattle.ode_good_laws.proofs.DistinctLaws.{Withins, begun_distinct, good_distinct, within_keeps}
use Rattle.ode_good_laws.proofs.GoodAgain.{HasKept, HaveClasses, KeepsAll, settled_again}
use Rattle.ode_good_laws.proofs.PastLaws.{Pastings, begun_pasts, pasts_keep}

-- a world that a transaction may begin in, whatever its classes and its weight are
pub record IsFirst (w : ListWorld) : Type 0 where
  pub typed : IsTypedWorld w.bones
  pub ordered : IsOrdered w.bones
  pub numbered : AreNumbered w.bones
  pub counted : AreCounted w.bones
  pub distinct : AreDistinct w.bones
  pub pasts : AllZip IsPast w.bones.objects w.pasts

pub well_first : (l : Language) (w : ListWorld) → IsWell l w → IsFirst w
well_first l w h = record {
  typed = good_typed l w h.good h.sound h.ones;
  ordered = good_ordered l w h.good;
  numbered = good_numbered l w h.good;
  counted = good_counted l w h.good;
  distinct = good_distinct l w h.good;
  pasts = h.good.pasts;
}

module _ (w : ListWorld) (first : IsFirst w) where
  -- a script's transaction from this world, so far
  pub record IsGoing (x : ListTx) : Type 0 where
    pub typed : IsTyped x
    pub kept : HasKept w Script x
    pub follows : Following w.bones lists first.ordered.numbered.objects 0 x

  -- what an act has reached, done or aborted
  abbrev pub Goes : Outcome Histories Starts (Unit {0}) → Type 0
  Goes (Done r x) = IsGoing x
  Goes (Aborted r x) = IsGoing x

  abbrev Kept : (Holds : ℕ → ListTx → Type 0) → Keeps lists Holds → Outcome Histories Starts (Unit {0}) → Type 0
  Kept Holds k p = EndsBy (Alone lists Holds k w.bones.classes 0) (Alone lists Holds k w.bones.classes 0) p p

  -- what follows the world
  abbrev Followings : ℕ → ListTx → Type 0
  Followings = Following w.bones lists first.ordered.numbered.objects

  follows_keep : Keeps lists Followings
  follows_keep = following_keeps w.bones lists first.ordered.numbered.objects

  pub begun_going : IsGoing (begun Script w)
  begun_going = record {
    typed = begun_typed Script w first.typed;
    kept = record {
      classes = refl;
      within = record { first = refl; origin = refl; added = refl; distinct = begun_distinct Script w first.distinct };
      counts = begun_counted Script w first.counted;
      pasts = begun_pasts Script w first.numbered first.pasts;
    };
    follows = begun_follows lists w.bones first.ordered 0 Script w refl;
  }

  goes_by : (p : Outcome Histories Starts (Unit {0})) → StaysTyped p → Kept (Counting lists) (counting_keeps lists) p → Kept (Withins lists w Script) (within_keeps lists w Script) p → Kept Pastings pasts_keep p → Kept Followings follows_keep p
      → Goes p
  goes_by (Done r x) typed counts within pasts follows = record { typed = typed; kept = record { classes = within.1.1; within = within.1.2; counts = counts.1.2; pasts = pasts.1.2 }; follows = follows.1.2 }
  goes_by (Aborted r x) typed counts within pasts follows = record { typed = typed; kept = record { classes = within.1.1; within = within.1.2; counts = counts.1.2; pasts = pasts.1.2 }; follows = follows.1.2 }

  -- what keeps all that each small change keeps
  work_goes : (work : Past Histories Starts → Deed Histories Starts) → ((s : Sides Histories Starts Histories Starts) → Alike s 0 0 (work s.past) (work s.other)) → (x : ListTx) → IsGoing x → StaysTyped (work lists x) → Goes (work lists x)
  work_goes work each x going typed =
      goes_by (work lists x) typed
      (each (alone lists (Counting lists) (counting_keeps lists) w.bones.classes) x x (refl, going.kept.classes, going.kept.counts))
      (each (alone lists (Withins lists w Script) (within_keeps lists w Script) w.bones.classes) x x (refl, going.kept.classes, going.kept.within))
      (each (alone lists Pastings pasts_keep w.bones.classes) x x (refl, going.kept.classes, going.kept.pasts))
      (each (alone lists Followings follows_keep w.bones.classes) x x (refl, going.kept.classes, going.follows))

  pub statement_goes : (x : ListTx) → IsGoing x → (literals : List (Ref × ℕ)) → AllByRecursion (FitsLiteral x.now.bones) literals → (s : Stmt) → IsTypedStatement (checked_classes x.now.bones.classes) literals s → Goes (commands lists s x)
  statement_goes x going literals known s typed =
      work_goes (λ past. commands past s) (λ t. commands_alike t 0 s) x going (statement_typed lists x going.typed literals known s typed)

  pub completion_goes : (x : ListTx) → IsGoing x → Goes (completes lists x)
  completion_goes x going = work_goes completes (λ t. completes_alike t 0) x going (completion_typed lists x going.typed)

  -- a line that there is room for
  pub line_going : (x : ListTx) → IsGoing x → (line : List ℕ) → nat_le (length x.text + length line) output_limit ≡ true → IsGoing (with_line line x)
  line_going x going line fits = record {
    typed = typed_as x (with_line line x) going.typed refl refl refl refl;
    kept = record {
      classes = going.kept.classes;
      within = (within_keeps lists w Script).line 0 x line going.kept.within fits;
      counts = (counting_keeps lists).line 0 x line going.kept.counts fits;
      pasts = pasts_keep.line 0 x line going.kept.pasts fits;
    };
    follows = follows_keep.line 0 x line going.follows fits;
  }

  -- with another footprint
  pub foot_going : (x : ListTx) → IsGoing x → (change : Footprint → Footprint) → IsGoing (footed change x)
  foot_going x going change = record {
    typed = typed_as x (footed change x) going.typed refl refl refl refl;
    kept = record {
      classes = going.kept.classes;
      within = (within_keeps lists w Script).foot 0 x change going.kept.within;
      counts = (counting_keeps lists).foot 0 x change going.kept.counts;
      pasts = pasts_keep.foot 0 x change going.kept.pasts;
    };
    follows = follows_keep.foot 0 x change going.follows;
  }

  -- ---- settling

  -- a done transaction is light, and an aborted one goes back to a light world
  abbrev pub IsLight : Outcome Histories Starts (Unit {0}) → Type 0
  IsLight (Done r x) = weight (kept_bones x.now.bones) ≤ weight_limit
  IsLight (Aborted r x) = weight w.bones ≤ weight_limit

  typed_of : (p : Outcome Histories Starts (Unit {0})) → Goes p → StaysTyped p
  typed_of (Done r x) goes = goes.typed
  typed_of (Aborted r x) goes = goes.typed

  held_of : (p : Outcome Histories Starts (Unit {0})) → Goes p → EndsBy (StaysHeld lists w.bones first.ordered w.bones.classes) (StaysHeld lists w.bones first.ordered w.bones.classes) p p
  held_of (Done r x) goes = (refl, (refl, goes.kept.classes, goes.follows))
  held_of (Aborted r x) goes = (refl, (refl, goes.kept.classes, goes.follows))

  all_of : (p : Outcome Histories Starts (Unit {0})) → Goes p → IsLight p → KeepsAll w Script p
  all_of (Done r x) goes light = (goes.kept, light)
  all_of (Aborted r x) goes light = (goes.kept, light)

  module _ (l : Language) (classes : HaveClasses l w.bones.classes w.bones.added) (left : w.bones.transaction < transaction_limit) (clock : IfSome w.bones.clock IsPosition) where
    pub settles_well : (p : Outcome Histories Starts (Unit {0})) → Goes p → IsLight p → IsWell l (settle lists p).0
    settles_well p goes light =
        settled_again w Script l classes left clock p (all_of p goes light) (settle_follows lists w.bones first.ordered w.bones.classes p (held_of p goes)).ordered
        (settle_typed lists p (typed_of p goes))

    -- its commit, from a world that is light itself
    pub commits_well : weight w.bones ≤ weight_limit → (x : ListTx) → IsGoing x → IsWell l (settle lists (completes lists x)).0
    commits_well light x going = settles_well (completes lists x) (completion_goes x going) (by_outcome (completes lists x) refl) where
      by_outcome : (p : Outcome Histories Starts (Unit {0})) → completes lists x ≡ p → IsLight p
      by_outcome (Done tt y) is = completion_light lists x y is
      by_outcome (Aborted r y) is = light
