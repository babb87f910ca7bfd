-- Firings that are collected, or dropped.
use Rattle.std.proofs.Common.{◌≡◌, ◌+◌, ◌++◌, ◌≤◌, ℕ, Bool, true, false, cond, List, length, Result, refl, sym, ap, subst, ◌∙◌, arith}
use Rattle.std.proofs.lemmas.Bool.Decides.{nat_tests}
use Rattle.std.specs.Prelude.{◌&&◌, nat_le, nat_lt}
use Rattle.ode_codec.specs.declared.record.Entry.{Entry}
use Rattle.ode_interpreter.specs.Seen.{Ends}
use Rattle.ode_interpreter.specs.declared.stop.Stop.{Stop}
use Rattle.ode_laws.specs.Alike.{NumberTx, NumberWorld}
use Rattle.ode_objects.specs.Values.{are_args}
use Rattle.ode_overlay.specs.Layers.{Layer, generation_of, key_count, queueing}
use Rattle.ode_overlay.specs.Settling.{collect, has_room, with_entry}
use Rattle.ode_run.specs.Collecting.{Gathers}
use Rattle.ode_run.specs.Knowing.{beside}
use Rattle.ode_states.specs.declared.fired.Fired.{Fired}
use Rattle.ode_value.specs.Acts.{Deed, Outcome, Done}
use Rattle.ode_value.specs.Limits.{change_limit, generation_limit, number_limit, queue_limit}
use Rattle.ode_value.specs.Posting.{collects, dropped_text}
use Rattle.ode_value.specs.Settling.{says}
use Rattle.ode_value.specs.Transactions as transactions
use Rattle.ode_value.specs.Transactions.{Firing}
use Rattle.ode_value.specs.Worlds.{Declared}
use Rattle.ode_view_laws.specs.Showing.{ShowsCollected}
use Rattle.ode_view_laws.specs.Viewing.{running}

-- what the overlay answers
pub gathers : (tells : List ℕ → Deed (Unit {0}) ℕ) (independent : Bool) (f : Firing) (view : Layer → NumberTx) (x x' : Layer) (b : Bool) (pair : Bool × Layer) → (b, x') ≡ pair
    → ShowsCollected pair.0 view pair.1 (view x) (tells (dropped_text f) (transactions.queueing (view x))) (collects tells independent f (view x)) → Gathers tells independent f (view x) (view x') b
gathers tells independent f view x x' b pair is shows =
    by_test b (subst (λ (p : Bool × Layer). ShowsCollected p.0 view p.1 (view x) (tells (dropped_text f) (transactions.queueing (view x))) (collects tells independent f (view x))) (sym is) shows) where
      by_test : (d : Bool) → ShowsCollected d view x' (view x) (tells (dropped_text f) (transactions.queueing (view x))) (collects tells independent f (view x)) → Gathers tells independent f (view x) (view x') d
      by_test true s = s
      by_test false s = s.1 ∙ ap (tells (dropped_text f)) (sym s.0)

-- what follows
pub gathered_then : (tells : List ℕ → Deed (Unit {0}) ℕ) (independent : Bool) (f : Firing) (y z : NumberTx) (b : Bool) → b ≡ true → Gathers tells independent f y z b → collects tells independent f y ≡ Done tt z
gathered_then tells independent f y z b is gathers = subst (Gathers tells independent f y z) is gathers

pub told_then : (tells : List ℕ → Deed (Unit {0}) ℕ) (independent : Bool) (f : Firing) (y z w : NumberTx) (b : Bool) (text : List ℕ) (result : Result (Unit {0}) Stop) → b ≡ false → Gathers tells independent f y z b
    → text ≡ dropped_text f → Ends result w (tells text z) → Ends result w (collects tells independent f y)
told_then tells independent f y z w b text result is gathers line ends =
    let dropped : collects tells independent f y ≡ tells (dropped_text f) z = subst (Gathers tells independent f y z) is gathers in
    subst (λ (o : Outcome (Unit {0}) ℕ (Unit {0})). Ends result w o) (ap (λ t. tells t z) line ∙ sym dropped) ends

-- a line that has no limit
pub said : (all : List Declared) (first : NumberWorld) (x : Layer) (ds : List (ℕ × Fired)) (text t line : List ℕ) (left : ℕ) → t ≡ text ++ line
    → says line (running all first x (beside first ds text left)) ≡ Done tt (running all first x (beside first ds t left))
said all first x ds text t line left is = ap (λ (s : List ℕ). Done tt (running all first x (beside first ds s left))) (sym is)

-- ---- where there is no generation

no_room : (x : Layer) → nat_le (generation_of x.origin + 1) generation_limit ≡ false → has_room x ≡ false
no_room x none =
    ap (λ (b : Bool). b && (nat_lt (key_count x.keys x) change_limit && (nat_le (x.queued + length x.collected + 1) queue_limit && nat_lt (x.first.next_entry + length x.collected) number_limit))) none

-- what is beyond the last generation is dropped, whatever it is
pub collected_alike : (e d : Entry) (independent : Bool) (x : Layer) → (generation_of x.origin + 1 ≤ generation_limit → e ≡ d) → collect e independent x ≡ collect d independent x
unfolding collect
collected_alike e d independent x same = by_generation (nat_le (generation_of x.origin + 1) generation_limit) refl where
  by_room : Entry → Bool → Bool × Layer
  by_room c room = cond (room && are_args c.args) (true, with_entry c independent (queueing x)) (false, queueing x)

  by_generation : (b : Bool) → nat_le (generation_of x.origin + 1) generation_limit ≡ b → by_room e (has_room x) ≡ by_room d (has_room x)
  by_generation true is = let there : generation_of x.origin + 1 ≤ generation_limit = grind (arith, nat_tests) in ap (λ (c : Entry). by_room c (has_room x)) (same there)
  by_generation false is = let none : has_room x ≡ false = no_room x is in ap (by_room e) none ∙ sym (ap (by_room d) none)
