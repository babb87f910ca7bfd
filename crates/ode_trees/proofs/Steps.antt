-- Each form of machine, run on a history, answers at each position as the form's points say.
use Rattle.std.proofs.Common.{◌≡◌, ℕ, zero, suc, ◌+◌, ◌<◌, ◌≤◌, min, Bool, true, false, List, length, refl, ap, sym, ◌∙◌, arith, get_or, rules, ⊎_elim}
use Rattle.std.specs.Prelude.{◌&&◌, ◌||◌, not, ◌==◌, ◌%◌, if◌then◌else◌, Option}
use Rattle.std.proofs.lemmas.Bool.{lt-ltb, cases_lt}
use Rattle.std.proofs.Math.Numerals.{add-one}
use Rattle.std.proofs.Math.Nat.{suc-mod, zero-mod}
use Rattle.std.proofs.lemmas.Bool.Decides.{nat_tests}
use Rattle.ode_value.specs.declared.event.Kind.{Kind}
use Rattle.ode_value.specs.declared.statement.Expr.{Expr}
use Rattle.ode_value.specs.declared.event.EventExpr.TheOpen as o
use Rattle.ode_value.specs.declared.tree.StateTree.TheVariants as tree
use Rattle.ode_value.specs.Marks.{Mark, OfEvent, OfLeaf, no_mark}
use Rattle.ode_value.specs.Points.{Points, some_below, count_below, points_of}
use Rattle.ode_value.specs.Trees.{TreeMachine, machine_of, next_count, next_turn}
use Rattle.ode_trees.proofs.After.{after}
use Rattle.ode_trees.proofs.PartLaws.{left-Seen, bit-Seen, left-Both, right-Both, left-Flag, right-Flag, bit-Flag, left-Count, count-Count, bit-Bit, count-Place, left-Masked, bit-Masked}

-- before the first point there is no answer, and after each point the answer is whether it is one of the points
pub record Runs (machine : TreeMachine) (p : Points) (m : List Mark) : Type 0 where
  pub none : machine.answer machine.first ≡ false
  pub each : (n : ℕ) → n < length m → machine.answer (after machine m (suc n)) ≡ p m n

-- the place is 1 after the first point and 2 after more
abbrev place_after : ℕ → ℕ
place_after zero = 1
place_after (suc n) = 2

first_place : (n : ℕ) → (place_after n == 1) ≡ (n == 0)
first_place zero = refl
first_place (suc n) = search (rules, nat_tests)

-- the numbers up to n + 1, and n + 1 for each above
abbrev capped : ℕ → ℕ → ℕ
capped n x = min x (n + 1)

capped_is : (n x : ℕ) → (min (x + 1) (n + 1) == n) ≡ (x + 1 == n)
capped_is n x = ⊎_elim small large (cases_lt x (n + 1)) where
  small : x < n + 1 → (min (x + 1) (n + 1) == n) ≡ (x + 1 == n)
  small h = let e : min (x + 1) (n + 1) ≡ x + 1 = omega arith in ap (λ k. k == n) e

  large : n + 1 ≤ x → (min (x + 1) (n + 1) == n) ≡ (x + 1 == n)
  large h =
      let e : min (x + 1) (n + 1) ≡ n + 1 = omega arith in
      let over : (n + 1 == n) ≡ false = grind (arith, nat_tests) in
      let far : (x + 1 == n) ≡ false = grind (arith, nat_tests) in
      ap (λ k. k == n) e ∙ over ∙ sym far

next_count-capped : (n x : ℕ) (b : Bool) → next_count n b (capped n x) ≡ capped n (if b then x + 1 else x)
next_count-capped n x true = omega arith
next_count-capped n x false = refl

chosen : (n x : ℕ) (b : Bool) → (b && (capped n (if b then x + 1 else x) == n)) ≡ (b && (x + 1 == n))
chosen n x true = capped_is n x
chosen n x false = refl

capped-zero : (n : ℕ) → 0 ≡ capped n 0
capped-zero n = omega arith

mod-next : (n x : ℕ) → (x + 1) % n ≡ (x % n + 1) % n
mod-next n x = ap (λ y. y % n) (add-one x) ∙ suc-mod x n ∙ ap (λ y. y % n) (sym (add-one (x % n)))

next_turn-mod : (n x : ℕ) (b : Bool) → next_turn n b (x % n) ≡ (if b then x + 1 else x) % n
next_turn-mod n x true = sym (mod-next n x)
next_turn-mod n x false = refl

turned : (n x : ℕ) (b : Bool) → (b && ((if b then x + 1 else x) % n == 0)) ≡ (b && ((x + 1) % n == 0))
turned n x true = refl
turned n x false = refl

module _ (m : List Mark) where
  pub runs_leaf : (k : Kind) (x : Option Expr) → Runs (machine_of (o.Leaf k x)) (points_of (o.Leaf k x)) m
  runs_leaf k x = record {
    none = bit-Bit false;
    each = λ n h. bit-Bit (get_or m n no_mark (OfLeaf k x)) ∙ sym (ap (λ b. b && get_or m n no_mark (OfLeaf k x)) (lt-ltb n (length m) h));
  }

  pub runs_any : Runs (machine_of o.Any) (points_of o.Any) m
  runs_any = record {
    none = bit-Bit false;
    each = λ n h. bit-Bit true ∙ sym (lt-ltb n (length m) h);
  }

  place : (n : ℕ) → after (machine_of o.First) m (suc n) ≡ tree.Place (place_after n)
  place zero = rw count-Place refl
  place (suc zero) = rw (place zero, count-Place) refl
  place (suc (suc n)) = rw (place (suc n), count-Place) refl

  pub runs_first : Runs (machine_of o.First) (points_of o.First) m
  runs_first = record {
    none = rw count-Place refl;
    each = λ n h. rw (place n, count-Place) (first_place n ∙ sym (ap (λ b. b && (n == 0)) (lt-ltb n (length m) h)));
  }

  not_after : (e : TreeMachine) (n : ℕ) → after (machine_of (o.Not e)) m (suc n) ≡ tree.Seen true (after e m (suc n))
  not_after e zero = rw left-Seen refl
  not_after e (suc n) = rw (not_after e n, left-Seen) refl

  pub runs_not : (e : TreeMachine) (p : Points) → Runs e p m → Runs (machine_of (o.Not e)) (points_of (o.Not p)) m
  runs_not e p r = record {
    none = rw bit-Seen refl;
    each = λ n h. rw (not_after e n, bit-Seen, left-Seen, r.each n h) (sym (ap (λ b. b && not (p m n)) (lt-ltb n (length m) h)));
  }

  and_after : (e f : TreeMachine) (n : ℕ) → after (machine_of (o.And e f)) m n ≡ tree.Both (after e m n) (after f m n)
  and_after e f zero = refl
  and_after e f (suc n) = rw (and_after e f n, left-Both, right-Both) refl

  pub runs_and : (e f : TreeMachine) (p q : Points) → Runs e p m → Runs f q m → Runs (machine_of (o.And e f)) (points_of (o.And p q)) m
  runs_and e f p q r s = record {
    none = rw (left-Both, r.none) refl;
    each = λ n h. rw (and_after e f (suc n), left-Both, right-Both, r.each n h, s.each n h) refl;
  }

  or_after : (e f : TreeMachine) (n : ℕ) → after (machine_of (o.Or e f)) m n ≡ tree.Both (after e m n) (after f m n)
  or_after e f zero = refl
  or_after e f (suc n) = rw (or_after e f n, left-Both, right-Both) refl

  pub runs_or : (e f : TreeMachine) (p q : Points) → Runs e p m → Runs f q m → Runs (machine_of (o.Or e f)) (points_of (o.Or p q)) m
  runs_or e f p q r s = record {
    none = rw (left-Both, right-Both, r.none, s.none) refl;
    each = λ n h. rw (or_after e f (suc n), left-Both, right-Both, r.each n h, s.each n h) refl;
  }

  -- whether e answered before the last of the points so far
  flag : TreeMachine → ℕ → Bool
  flag e zero = false
  flag e (suc n) = flag e n || e.answer (after e m n)

  prior_after : (e f : TreeMachine) (n : ℕ) → after (machine_of (o.Prior e f)) m n ≡ tree.Flag (after e m n) (after f m n) (flag e n)
  unfolding flag
  prior_after e f zero = refl
  prior_after e f (suc n) = rw (prior_after e f n, left-Flag, right-Flag, bit-Flag) refl

  flag_is : (e : TreeMachine) (p : Points) → Runs e p m → (n : ℕ) → n ≤ length m → flag e (suc n) ≡ some_below (p m) n
  unfolding flag
  flag_is e p r zero h = r.none
  flag_is e p r (suc n) h = ap (λ b. b || e.answer (after e m (suc n))) (flag_is e p r n (omega arith)) ∙ ap (λ b. some_below (p m) n || b) (r.each n (omega arith))

  pub runs_prior : (e f : TreeMachine) (p q : Points) → Runs e p m → Runs f q m → Runs (machine_of (o.Prior e f)) (points_of (o.Prior p q)) m
  unfolding flag
  runs_prior e f p q r s = record {
    none = rw bit-Flag refl;
    each = λ n h. let before : n ≤ length m = omega arith in rw (prior_after e f (suc n), bit-Flag, right-Flag, s.each n h, flag_is e p r n before) refl;
  }

  -- whether e answered one point before
  abbrev last : TreeMachine → ℕ → Bool
  last e zero = false
  last e (suc n) = e.answer (after e m n)

  sequence_after : (e f : TreeMachine) (n : ℕ) → after (machine_of (o.Sequence e f)) m n ≡ tree.Flag (after e m n) (after f m n) (last e n)
  sequence_after e f zero = refl
  sequence_after e f (suc n) = rw (sequence_after e f n, left-Flag, right-Flag) refl

  pub runs_sequence : (e f : TreeMachine) (p q : Points) → Runs e p m → Runs f q m → Runs (machine_of (o.Sequence e f)) (points_of (o.Sequence p q)) m
  runs_sequence e f p q r s = record {
    none = rw bit-Flag refl;
    each = λ n h. rw (sequence_after e f (suc n), bit-Flag, right-Flag, s.each n h) (here n h);
  } where
    here : (n : ℕ) → n < length m → (e.answer (after e m n) && q m n) ≡ points_of (o.Sequence p q) m n
    here zero h = ap (λ b. b && q m zero) r.none
    here (suc n) h = ap (λ b. b && q m (suc n)) (r.each n (omega arith))

  -- how often e answered, at most n + 1
  counting : TreeMachine → ℕ → ℕ → ℕ
  counting e n zero = 0
  counting e n (suc k) = next_count n (e.answer (after e m (suc k))) (counting e n k)

  choose_after : (e : TreeMachine) (n k : ℕ) → after (machine_of (o.Choose n e)) m k ≡ tree.Count (after e m k) (counting e n k)
  unfolding counting
  choose_after e n zero = refl
  choose_after e n (suc k) = rw (choose_after e n k, left-Count, count-Count) refl

  counting_is : (e : TreeMachine) (p : Points) → Runs e p m → (n k : ℕ) → k ≤ length m → counting e n k ≡ capped n (count_below (p m) k)
  unfolding counting
  counting_is e p r n zero h = capped-zero n
  counting_is e p r n (suc k) h =
      ap (next_count n (e.answer (after e m (suc k)))) (counting_is e p r n k (omega arith))
      ∙ ap (λ b. next_count n b (capped n (count_below (p m) k))) (r.each k (omega arith))
      ∙ next_count-capped n (count_below (p m) k) (p m k)

  pub runs_choose : (e : TreeMachine) (p : Points) (n : ℕ) → Runs e p m → Runs (machine_of (o.Choose n e)) (points_of (o.Choose n p)) m
  runs_choose e p n r = record {
    none = rw (left-Count, r.none) refl;
    each = λ k h. let seen : suc k ≤ length m = omega arith in rw (choose_after e n (suc k), left-Count, count-Count, r.each k h, counting_is e p r n (suc k) seen) (chosen n (count_below (p m) k) (p m k));
  }

  -- how often e answered, modulo n
  turning : TreeMachine → ℕ → ℕ → ℕ
  turning e n zero = 0
  turning e n (suc k) = next_turn n (e.answer (after e m (suc k))) (turning e n k)

  every_after : (e : TreeMachine) (n k : ℕ) → after (machine_of (o.Every n e)) m k ≡ tree.Count (after e m k) (turning e n k)
  unfolding turning
  every_after e n zero = refl
  every_after e n (suc k) = rw (every_after e n k, left-Count, count-Count) refl

  turning_is : (e : TreeMachine) (p : Points) → Runs e p m → (n : ℕ) → (k : ℕ) → k ≤ length m → turning e n k ≡ count_below (p m) k % n
  unfolding turning
  turning_is e p r n zero h = sym (zero-mod n)
  turning_is e p r n (suc k) h =
      ap (next_turn n (e.answer (after e m (suc k)))) (turning_is e p r n k (omega arith))
      ∙ ap (λ b. next_turn n b (count_below (p m) k % n)) (r.each k (omega arith))
      ∙ next_turn-mod n (count_below (p m) k) (p m k)

  pub runs_every : (e : TreeMachine) (p : Points) (n : ℕ) → Runs e p m → Runs (machine_of (o.Every n e)) (points_of (o.Every n p)) m
  runs_every e p n r = record {
    none = rw (left-Count, r.none) refl;
    each = λ k h. let seen : suc k ≤ length m = omega arith in rw (every_after e n (suc k), left-Count, count-Count, r.each k h, turning_is e p r n (suc k) seen) (turned n (count_below (p m) k) (p m k));
  }

  -- whether a mask holds at the last of the points so far
  abbrev holding : Expr → ℕ → Bool
  holding x zero = false
  holding x (suc n) = get_or m n no_mark (OfEvent x)

  masked_after : (e : TreeMachine) (x : Expr) (n : ℕ) → after (machine_of (o.Masked e x)) m n ≡ tree.Masked (after e m n) (holding x n)
  masked_after e x zero = refl
  masked_after e x (suc n) = rw (masked_after e x n, left-Masked) refl

  pub runs_masked : (e : TreeMachine) (p : Points) (x : Expr) → Runs e p m → Runs (machine_of (o.Masked e x)) (points_of (o.Masked p x)) m
  runs_masked e p x r = record {
    none = rw (left-Masked, r.none) refl;
    each = λ n h. rw (masked_after e x (suc n), left-Masked, bit-Masked, r.each n h) refl;
  }
