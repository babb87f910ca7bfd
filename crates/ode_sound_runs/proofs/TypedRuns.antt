-- What ticks, runs of the clock and declarations of classes leave is typed.
use Rattle.std.proofs.Common.{◌≡◌, ℕ, ◌+◌, ◌-◌, Bool, true, false, cond, List, [], ◌∷◌, length, refl, sym, subst}
use Rattle.std.specs.Prelude.{nat_le, is_some, slice_get}
use Rattle.std.specs.List.{AllByRecursion}
use Rattle.ode_value.specs.declared.event.Kind.{Kind}
use Rattle.ode_value.specs.declared.reason.Reason.{Reason}
use Rattle.ode_value.specs.declared.reason.Reason.TheVariants.{Output, Space}
use Rattle.ode_value.specs.Acts.{Done, Aborted, Deed, go_on, ◌>>=◌, ◌>>◌, nothing, does, finds, with_line}
use Rattle.ode_value.specs.Changes.{object, there}
use Rattle.ode_value.specs.Completing.{completes}
use Rattle.ode_value.specs.Denoting.{object_at}
use Rattle.ode_value.specs.Draining.{with_drain, world_after}
use Rattle.ode_value.specs.Executing.{first_actions}
use Rattle.ode_value.specs.Keeping.{kept_bones}
use Rattle.ode_value.specs.Language.{ListWorld, ListTx, Settlings}
use Rattle.ode_value.specs.Limits.{output_limit, weight_limit}
use Rattle.ode_value.specs.Objects.{Histories, Starts}
use Rattle.ode_value.specs.Pasts.{lists}
use Rattle.ode_value.specs.Posting.{posts, touches}
use Rattle.ode_value.specs.Settling.{Settled, posted, commit, abort, settle, transaction}
use Rattle.ode_value.specs.Texts.{class_line}
use Rattle.ode_value.specs.Transactions.{Script, Clock, begun}
use Rattle.ode_value.specs.Weights.{weight}
use Rattle.ode_value.specs.Worlds.{Declared, Position, Object}
use Rattle.ode_machine.specs.TimeRows.{kinds_of}
use Rattle.ode_machine.specs.Works.{declares, ticks, tick, move, then_rest, clock_run}
use Rattle.ode_laws.proofs.Each.{all-append}
use Rattle.ode_run_laws.proofs.AlikeClasses.{more_classes, declared, printable, completes_weighs}
use Rattle.ode_sound_laws.specs.Typed.{IsTypedWorld, IsTyped}
use Rattle.ode_sound_laws.proofs.SettleLaws.{commit_typed, abort_typed}
use Rattle.ode_sound_laws.proofs.WalkActs.{Any, Ends, ends_then, found_ends, typed_as}
use Rattle.ode_sound_laws.proofs.WalkCalls.{there_ends}
use Rattle.ode_sound_laws.proofs.WalkPosting.{posts_ends, touches_ends}
use Rattle.ode_sound_laws.proofs.WalkStatements.{first_fits}
use Rattle.ode_sound_laws.proofs.WorldLaws.{stays, begun_typed, whole_typed, drain_typed}
use Rattle.ode_sound_runs.specs.Adding.{AddsSoundly}
use Rattle.ode_sound_runs.proofs.AddLaws.{class_added}

-- ---- settled transactions

abbrev pub AllTyped : Settlings → Type 0
AllTyped settled = AllByRecursion (λ (s : Settled Histories Starts). IsTypedWorld s.0.bones) settled

after_typed : (w : ListWorld) (settled : Settlings) → IsTypedWorld w.bones → AllTyped settled → IsTypedWorld (world_after w settled).bones
after_typed w [] h all = h
after_typed w (s ∷ settled) h all = after_typed s.0 settled all.0 all.1

with_drain_typed : (most : ℕ) (s : Settled Histories Starts) → IsTypedWorld s.0.bones → AllTyped (with_drain lists most s)
with_drain_typed most s h = (h, drain_typed lists most s.0 h)

-- ---- the clock

ticks_typed : (p : Position) (x : ListTx) → IsTyped x → Ends x.now.bones (Any (Unit {0})) (ticks lists p x)
ticks_typed p x h =
    ends_then x.now.bones (Any (Unit {0})) (Any (Unit {0})) (touches lists (first_actions lists) p.object x) (touches_ends lists (first_actions lists) (first_fits lists) p.object x h) (λ u. there p.object >> of_object) (λ u y h1 g1 is1.
    ends_then y.now.bones (Any (Unit {0})) (Any (Unit {0})) (there p.object y) (there_ends p.object y h1) (λ u. of_object) (λ u z h2 g2 is2.
    found_ends z.now.bones (Any (Unit {0})) (object_at z.now.bones p.object) z h2 of_kind (λ o there.
    found_ends z.now.bones (Any (Unit {0})) (slice_get (kinds_of z.now.bones.classes o.class) p.place) z h2 posted_kind (λ kind at.
    posts_ends lists (first_actions lists) (first_fits lists) p.object kind [] z h2))))
  where
    posted_kind : Kind → Deed Histories Starts
    posted_kind kind = posts lists (first_actions lists) p.object kind []

    of_kind : Object → Deed Histories Starts
    of_kind o = finds (λ b. slice_get (kinds_of b.classes o.class) p.place) >>= posted_kind

    of_object : Deed Histories Starts
    of_object = object p.object >>= of_kind

pub tick_typed : (p : Position) (w : ListWorld) → IsTypedWorld w.bones → IsTypedWorld (tick lists p w).0.bones
tick_typed p w h = whole_typed lists (Clock p) (ticks lists p) w h (stays w.bones (Any (Unit {0})) (ticks lists p (begun (Clock p) w)) (ticks_typed p (begun (Clock p) w) (begun_typed (Clock p) w h)))

pub move_typed : (p : Position) (w : ListWorld) → IsTypedWorld w.bones → IsTypedWorld (move lists p w).0.bones
move_typed p w h = whole_typed lists (Clock p) nothing w h (begun_typed (Clock p) w h)

pub clock_typed : (ps : List Position) (last : Position) (most : ℕ) (w : ListWorld) → IsTypedWorld w.bones → AllTyped (clock_run lists ps last most w)
clock_typed [] last most w h = with_drain_typed most (move lists last w) (move_typed last w h)
clock_typed (p ∷ ps) last most w h = by_live (is_some (object_at w.bones p.object)) (clock_typed ps last) where
  by_live : (t : Bool) → ((more : ℕ) (v : ListWorld) → IsTypedWorld v.bones → AllTyped (clock_run lists ps last more v))
      → AllTyped (cond t (then_rest lists (clock_run lists ps last) most w (with_drain lists most (tick lists p w))) (clock_run lists ps last most w))
  by_live true rest =
      let all : AllTyped (with_drain lists most (tick lists p w)) = with_drain_typed most (tick lists p w) (tick_typed p w h) in
      all-append (λ (s : Settled Histories Starts). IsTypedWorld s.0.bones) (with_drain lists most (tick lists p w))
      (clock_run lists ps last (most - (length (with_drain lists most (tick lists p w)) - 1)) (world_after w (with_drain lists most (tick lists p w)))) all
      (rest (most - (length (with_drain lists most (tick lists p w)) - 1)) (world_after w (with_drain lists most (tick lists p w))) (after_typed w (with_drain lists most (tick lists p w)) h all))
  by_live false rest = rest most w h

-- ---- a class

module _ (c : Declared) (w : ListWorld) (h : IsTypedWorld w.bones) (adds : AddsSoundly w.bones c) where
  -- a transaction whose first world has the class already
  abbrev begun_with : ListTx
  begun_with = with_line (class_line c.class.name) (begun Script (record w { bones = more_classes c w.bones }))

  with_typed : IsTyped begun_with
  with_typed =
      let first : IsTyped (begun Script (record w { bones = more_classes c w.bones })) = begun_typed Script (record w { bones = more_classes c w.bones }) (class_added w.bones c h adds) in
      typed_as (begun Script (record w { bones = more_classes c w.bones })) begun_with first refl refl refl refl

  without_typed : (line : List ℕ) → IsTyped (with_line line (begun Script w))
  without_typed line = typed_as (begun Script w) (with_line line (begun Script w)) (begun_typed Script w h) refl refl refl refl

  same_commit : (commit lists (with_line (class_line c.class.name) (declared c w))).0.bones ≡ (commit lists begun_with).0.bones
  unfolding posted
  same_commit = refl

  same_abort : (reason : Reason) (line : List ℕ) → (abort lists reason (with_line line (declared c w))).0.bones ≡ (abort lists reason (with_line line (begun Script w))).0.bones
  unfolding posted
  same_abort reason line = refl

  same_first : (abort lists Output (declared c w)).0.bones ≡ (abort lists Output (begun Script w)).0.bones
  unfolding posted
  same_first = refl

  by_weight : (t : Bool) → IsTypedWorld (settle lists (cond t (Done tt (with_line (class_line c.class.name) (declared c w))) (Aborted Space (with_line (class_line c.class.name) (declared c w))))).0.bones
  by_weight true = subst IsTypedWorld (sym same_commit) (commit_typed lists begun_with with_typed)
  by_weight false = subst IsTypedWorld (sym (same_abort Space (class_line c.class.name))) (abort_typed lists Space (with_line (class_line c.class.name) (begun Script w)) (without_typed (class_line c.class.name)))

  by_room : (t : Bool) → IsTypedWorld (settle lists (go_on (go_on (printable t (declared c w)) (λ _. does (with_line (class_line c.class.name)))) (λ _. completes lists))).0.bones
  by_room true =
      subst (λ o. IsTypedWorld (settle lists o).0.bones) (sym (completes_weighs lists c (class_line c.class.name) w)) (by_weight (nat_le (weight (kept_bones (more_classes c w.bones))) weight_limit))
  by_room false = subst IsTypedWorld (sym same_first) (abort_typed lists Output (begun Script w) (begun_typed Script w h))

  pub class_typed : IsTypedWorld (transaction lists Script (declares c) w).0.bones
  unfolding transaction
  class_typed = by_room (nat_le (length (declared c w).text + length (class_line c.class.name)) output_limit)
