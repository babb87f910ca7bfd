-- One more statement, by how many are left.
use Rattle.std.proofs.Common.{◌≡◌, ◌+◌, ◌-◌, ◌<◌, ◌≤◌, ℕ, Bool, true, false, cond, List, ap, ◌∙◌, arith}
use Rattle.std.specs.Prelude.{nat_lt}
use Rattle.std.proofs.lemmas.Bool.Decides.{nat_tests}
use Rattle.ode_laws.specs.Alike.{NumberTx, NumberWorld}
use Rattle.ode_overlay.specs.Layers.{Layer}
use Rattle.ode_run.specs.Knowing.{beside}
use Rattle.ode_states.specs.declared.fired.Fired.{Fired}
use Rattle.ode_value.specs.Acts.{Outcome, Done, Aborted, counts, does, go_on, with_statement}
use Rattle.ode_value.specs.Limits.{budget_limit}
use Rattle.ode_value.specs.Worlds.{Declared}
use Rattle.ode_value.specs.declared.reason.Reason.TheVariants.{Budget}
use Rattle.ode_view_laws.specs.Viewing.{running}

module _ (all : List Declared) (first : NumberWorld) (x : Layer) (deferred : List (ℕ × Fired)) (text : List ℕ) where
  abbrev now : ℕ → NumberTx
  now left = running all first x (beside first deferred text left)

  abbrev tested : NumberTx → Bool → Outcome (Unit {0}) ℕ (Unit {0})
  tested y b = cond b (Done tt y) (Aborted Budget y)

  by_test : (y : NumberTx) (b : Bool) → nat_lt y.run budget_limit ≡ b → counts y ≡ go_on (tested y b) (λ _. does with_statement)
  by_test y b is = ap (λ t. go_on (tested y t) (λ _. does with_statement)) is

  pub counted : (left : ℕ) → 0 < left → left ≤ budget_limit → counts (now left) ≡ Done tt (now (left - 1))
  counted left some few =
      let less : budget_limit - left < budget_limit = omega (arith, some, few) in
      let test : nat_lt (budget_limit - left) budget_limit ≡ true = grind (arith, nat_tests) in
      let next : budget_limit - left + 1 ≡ budget_limit - (left - 1) = omega (arith, some, few) in
      by_test (now left) true test ∙ ap (λ (n : ℕ). Done tt (record (now left) { run = n })) next

  pub not_counted : (left : ℕ) → left ≡ 0 → counts (now left) ≡ Aborted Budget (now left)
  not_counted left none =
      let test : nat_lt (budget_limit - left) budget_limit ≡ false = grind (arith, nat_tests) in
      by_test (now left) false test
