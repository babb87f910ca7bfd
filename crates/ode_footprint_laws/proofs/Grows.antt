-- Acts that take nothing off a footprint.
use Rattle.std.proofs.Common.{ℕ, Bool, true, false, cond, List, Option, Some, None, Result, Ok, Err, refl}
use Rattle.std.specs.Prelude.{◌&&◌, nat_le}
use Rattle.ode_footprint_laws.proofs.Among.{among_before, either_right}
use Rattle.ode_footprint_laws.specs.Agreeing.{reached_footprint}
use Rattle.ode_footprint_laws.specs.Growing.{Grown}
use Rattle.ode_value.specs.declared.arithmetic.Fault.{Fault}
use Rattle.ode_value.specs.declared.key.Key.{Key}
use Rattle.ode_value.specs.declared.reason.Reason.{Reason}
use Rattle.ode_value.specs.declared.reason.Reason.TheVariants as reason
use Rattle.ode_value.specs.Acts.{Outcome, Done, Aborted, Act, go_on, ◌>>=◌, ◌>>◌, needs, does, found, valued}
use Rattle.ode_value.specs.Changes.{Draw, changes, holding, key_count}
use Rattle.ode_value.specs.Footprints.{Footprint, with_looks, with_draw, with_queue}
use Rattle.ode_value.specs.Language.{ListTx}
use Rattle.ode_value.specs.Limits.{change_limit, value_limit}
use Rattle.ode_value.specs.Objects.{Histories, Starts}
use Rattle.ode_value.specs.Transactions.{drawing}

-- acts over lists of points
abbrev pub ListAct : Type 0 → Type 0
ListAct X = Act Histories Starts X

abbrev pub ListDeed : Type 0
ListDeed = ListAct (Unit {0})

pub grown_self : (f : Footprint) → Grown f f
grown_self f = record { looked = λ id is. is; drew = λ is. is; queued = λ is. is }

pub grown_then : (f g h : Footprint) → Grown f g → Grown g h → Grown f h
grown_then f g h first second = record {
  looked = λ id is. second.looked id (first.looked id is);
  drew = λ is. second.drew (first.drew is);
  queued = λ is. second.queued (first.queued is);
}

pub looks_grow : (ids : List ℕ) (f : Footprint) → Grown f (with_looks ids f)
looks_grow ids f = record { looked = λ id is. among_before ids id f.looked is; drew = λ is. is; queued = λ is. is }

pub draw_grows : (asked : Bool) (f : Footprint) → Grown f (with_draw asked f)
draw_grows asked f = record { looked = λ id is. is; drew = λ is. either_right asked f.drew is; queued = λ is. is }

pub queue_grows : (f : Footprint) → Grown f (with_queue f)
queue_grows f = record { looked = λ id is. is; drew = λ is. is; queued = λ is. refl }

-- an act that takes nothing off the footprint
abbrev pub Grows : {X : Type 0} → ListAct X → Type 0
Grows a = (x : ListTx) → Grown x.footprint (reached_footprint (a x))

pub grows_on : {X Y : Type 0} (p : Outcome Histories Starts X) (h : X → ListAct Y) → ((r : X) → Grows (h r)) → Grown (reached_footprint p) (reached_footprint (go_on p h))
grows_on (Done r x) h rest = rest r x
grows_on (Aborted r x) h rest = grown_self x.footprint

pub grows_then : {X Y : Type 0} (a : ListAct X) (h : X → ListAct Y) → Grows a → ((r : X) → Grows (h r)) → Grows (a >>= h)
grows_then a h first rest x = grown_then x.footprint (reached_footprint (a x)) (reached_footprint (go_on (a x) h)) (first x) (grows_on (a x) h rest)

-- a test of which the outcome is known
abbrev pub tested : Bool → Reason → ListTx → Outcome Histories Starts (Unit {0})
tested b reason x = cond b (Done tt x) (Aborted reason x)

pub needs_grow : (reason : Reason) (p : ListTx → Bool) → Grows (needs reason p)
needs_grow reason p x = by_test (p x) where
  by_test : (b : Bool) → Grown x.footprint (reached_footprint (tested b reason x))
  by_test true = grown_self x.footprint
  by_test false = grown_self x.footprint

pub found_grow : {X : Type 0} (o : Option X) → Grows (found o)
found_grow (Some a) x = grown_self x.footprint
found_grow None x = grown_self x.footprint

pub valued_grow : {X : Type 0} (v : Result X Fault) → Grows (valued v)
valued_grow (Ok a) x = grown_self x.footprint
valued_grow (Err fault) x = grown_self x.footprint

-- a change fits by its longest value and its keys
abbrev pub fits : ℕ → List Key → ListTx → Bool
fits size keys x = nat_le size value_limit && nat_le (key_count (holding keys x)) change_limit

-- what it does behind that test
abbrev pub spaced : List Key → Draw → ListDeed
spaced keys draw = does (drawing draw.number) >> (needs reason.Space (λ x. draw.left x.now.bones) >> does (holding keys))

pub spaced_grows : (keys : List Key) (draw : Draw) → Grows (spaced keys draw)
spaced_grows keys draw =
    grows_then (does (drawing draw.number)) (λ _. needs reason.Space (λ x. draw.left x.now.bones) >> does (holding keys)) (λ x. draw_grows draw.number x.footprint)
    (λ u. grows_then (needs reason.Space (λ x. draw.left x.now.bones)) (λ _. does (holding keys)) (needs_grow reason.Space (λ x. draw.left x.now.bones)) (λ v x. grown_self x.footprint))

pub changes_grow : (keys : List Key) (size : ℕ) (draw : Draw) → Grows (changes keys size draw)
changes_grow keys size draw = grows_then (needs reason.Size (fits size keys)) (λ _. spaced keys draw) (needs_grow reason.Size (fits size keys)) (λ u. spaced_grows keys draw)
