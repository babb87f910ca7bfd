-- Firings are collected, in the overlay and in the machine.
use Rattle.std.proofs.Common.{◌≡◌, ◌+◌, ℕ, List, [], ◌∷◌, ◌++◌, Bool, true, false, cond, length, map, refl, sym, ap, subst, ◌∙◌, arith}
use Rattle.std.specs.Prelude.{◌&&◌, nat_le, nat_lt}
use Rattle.ode_codec.specs.declared.record.Counters.{Counters}
use Rattle.ode_laws.specs.Alike.{NumberTx}
use Rattle.ode_overlay.specs.Layers.{Layer, generation_of, key_count, queueing}
use Rattle.ode_overlay.specs.Objects.{are_args}
use Rattle.ode_overlay.specs.Settling.{collect, collected_by, has_room, with_entry}
use Rattle.ode_overlay.specs.declared.origin.Origin.{Origin}
use Rattle.ode_overlay.specs.declared.origin.Origin.TheVariants as from
use Rattle.ode_overlay_laws.proofs.KeySets.{counted_between}
use Rattle.ode_overlay_laws.specs.Following.{Collects, entry_by}
use Rattle.ode_overlay_laws.specs.Standing.{Stands, collected_as, origin_as}
use Rattle.ode_value.specs.Acts.{Deed, Outcome, Done, does}
use Rattle.ode_value.specs.Changes as machine
use Rattle.ode_value.specs.Footprints.{with_queue}
use Rattle.ode_value.specs.Limits.{change_limit, generation_limit, number_limit, queue_limit}
use Rattle.ode_value.specs.Posting as posting
use Rattle.ode_value.specs.Posting.{collects, dropped_text}
use Rattle.ode_value.specs.Transactions as transactions
use Rattle.ode_value.specs.Transactions.{Firing}

same_generation : (o : Origin) → transactions.generation_of (origin_as o) ≡ generation_of o
same_generation from.Script = refl
same_generation (from.Entry number generation) = refl
same_generation (from.Tick instant object place) = refl
same_generation (from.Move instant) = refl

length-map : {X Y : Type 0} (f : X → Y) (xs : List X) → length (map f xs) ≡ length xs
length-map f [] = refl
length-map f (x ∷ xs) = omega (arith, length-map f xs)

map_push : {X Y : Type 0} (f : X → Y) (xs : List X) (z : X) → map f xs ++ f z ∷ [] ≡ map f (xs ++ z ∷ [])
map_push f [] z = refl
map_push {X} {Y} f (x ∷ xs) z = ap (λ (ys : List Y). f x ∷ ys) (map_push f xs z)

four : (a b c d : Bool) → (a && b && c && d) ≡ (a && (b && (c && d)))
four true true c d = refl
four true false c d = refl
four false b c d = refl

module _ (x : Layer) (y : NumberTx) (stands : Stands x y) where
  generation : transactions.generation_of y.origin ≡ generation_of x.origin
  generation = ap transactions.generation_of stands.origin ∙ same_generation x.origin

  keys : machine.key_count y ≡ key_count x.keys x
  keys = omega (arith, ap length stands.keys, counted_between x.origin x.keys, stands.gathered)

  collected : length y.collected ≡ length x.collected
  collected = ap length stands.collected ∙ length-map collected_as x.collected

  next : y.first.bones.next_entry ≡ x.first.next_entry
  next = sym (ap (λ (c : Counters). c.next_entry) stands.counters)

  room : posting.has_room y ≡ has_room x
  room =
      let queue : length (posting.waiting y.origin y.first.bones.queue) + length y.collected + 1 ≡ x.queued + length x.collected + 1 = omega (arith, stands.queued, collected) in
      let number : y.first.bones.next_entry + length y.collected ≡ x.first.next_entry + length x.collected = omega (arith, next, collected) in
      four (nat_le (transactions.generation_of y.origin + 1) generation_limit) (nat_lt (machine.key_count y) change_limit)
      (nat_le (length (posting.waiting y.origin y.first.bones.queue) + length y.collected + 1) queue_limit) (nat_lt (y.first.bones.next_entry + length y.collected) number_limit)
      ∙ ap (λ n. nat_le (n + 1) generation_limit && (nat_lt (machine.key_count y) change_limit
      && (nat_le (length (posting.waiting y.origin y.first.bones.queue) + length y.collected + 1) queue_limit && nat_lt (y.first.bones.next_entry + length y.collected) number_limit))) generation
      ∙ ap (λ n. nat_le (generation_of x.origin + 1) generation_limit && (nat_lt n change_limit
      && (nat_le (length (posting.waiting y.origin y.first.bones.queue) + length y.collected + 1) queue_limit && nat_lt (y.first.bones.next_entry + length y.collected) number_limit))) keys
      ∙ ap (λ n. nat_le (generation_of x.origin + 1) generation_limit && (nat_lt (key_count x.keys x) change_limit
      && (nat_le n queue_limit && nat_lt (y.first.bones.next_entry + length y.collected) number_limit))) queue
      ∙ ap (λ n. nat_le (generation_of x.origin + 1) generation_limit && (nat_lt (key_count x.keys x) change_limit
      && (nat_le (x.queued + length x.collected + 1) queue_limit && nat_lt n number_limit))) number

  -- behind the mark that it met the queue
  queued_stands : Stands (queueing x) (transactions.queueing y)
  queued_stands = record {
    origin = stands.origin;
    counters = stands.counters;
    queued = stands.queued;
    next = stands.next;
    added = stands.added;
    tracked = stands.tracked;
    others = stands.others;
    touched = stands.touched;
    collected = stands.collected;
    gathered = stands.gathered;
    keys = stands.keys;
    footprint = ap with_queue stands.footprint;
  }

  then_stands : (f : Firing) (independent : Bool) → Stands (with_entry (entry_by (generation_of x.origin + 1) f) independent (queueing x)) (posting.with_entry independent f (transactions.queueing y))
  then_stands f independent = record {
    origin = stands.origin;
    counters = stands.counters;
    queued = stands.queued;
    next = stands.next;
    added = stands.added;
    tracked = stands.tracked;
    others = stands.others;
    touched = stands.touched;
    collected =
        ap (λ (cs : List transactions.Collected). cs ++ record { entry = posting.entry_of (transactions.generation_of y.origin + 1) f; independent = independent } ∷ []) stands.collected
        ∙ ap (λ (n : ℕ). map collected_as x.collected ++ record { entry = posting.entry_of (n + 1) f; independent = independent } ∷ []) generation
        ∙ map_push collected_as x.collected (collected_by (entry_by (generation_of x.origin + 1) f) independent);
    gathered = ap (λ n. n + 1) stands.gathered;
    keys = stands.keys;
    footprint = ap with_queue stands.footprint;
  }

  -- what is collected where there is room, and what the machine does
  abbrev made : Firing → Bool → Bool → Bool × Layer
  made f independent b = cond (b && are_args f.args) (true, with_entry (entry_by (generation_of x.origin + 1) f) independent (queueing x)) (false, queueing x)

  abbrev Goal : (List ℕ → Deed (Unit {0}) ℕ) → Firing → Bool → Bool → Bool → Type 0
  Goal says f independent b c =
      Collects (made f independent c).0 (made f independent c).1 y (says (dropped_text f) (transactions.queueing y)) (cond b (Done tt (posting.with_entry independent f (transactions.queueing y))) (says (dropped_text f) (transactions.queueing y)))

  by_room : (says : List ℕ → Deed (Unit {0}) ℕ) (f : Firing) (independent : Bool) → are_args f.args ≡ true → (b : Bool) → Goal says f independent b b
  by_room says f independent kept true =
      subst (λ (c : Bool). let m : Bool × Layer = cond c (true, with_entry (entry_by (generation_of x.origin + 1) f) independent (queueing x)) (false, queueing x) in
      Collects m.0 m.1 y (says (dropped_text f) (transactions.queueing y)) (Done tt (posting.with_entry independent f (transactions.queueing y)))) (sym kept)
      (posting.with_entry independent f (transactions.queueing y), (then_stands f independent, (record { first = refl; bones = refl; deferred = refl; text = refl; run = refl }, refl)))
  by_room says f independent kept false = (queued_stands, refl)

  pub collects_law : (says : List ℕ → Deed (Unit {0}) ℕ) (independent : Bool) (f : Firing) → are_args f.args ≡ true
      → let e = entry_by (generation_of x.origin + 1) f in Collects (collect e independent x).0 (collect e independent x).1 y (says (dropped_text f) (transactions.queueing y)) (collects says independent f y)
  unfolding collect
  collects_law says independent f kept =
      subst (λ (o : Outcome (Unit {0}) ℕ (Unit {0})). Collects (made f independent (has_room x)).0 (made f independent (has_room x)).1 y (says (dropped_text f) (transactions.queueing y)) o) (sym machines)
      (subst (λ (b : Bool). Goal says f independent b (has_room x)) (sym room) (by_room says f independent kept (has_room x))) where
        machines : collects says independent f y ≡ cond (posting.has_room y) (Done tt (posting.with_entry independent f (transactions.queueing y))) (says (dropped_text f) (transactions.queueing y))
        machines = by_test (posting.has_room y) where
          by_test : (b : Bool) → cond b (does (posting.with_entry independent f)) (says (dropped_text f)) (transactions.queueing y) ≡ cond b (Done tt (posting.with_entry independent f (transactions.queueing y))) (says (dropped_text f) (transactions.queueing y))
          by_test true = refl
          by_test false = refl
