-- Answers that follow one another, and those of a declaration.
use Rattle.std.proofs.Common.{◌≡◌, ℕ, List, Result, Ok, Err, ap, sym, ◌∙◌, subst}
use Rattle.ode_value.specs.Answers.{Answer, ◌>>=◌, ◌>>◌, checks}
use Rattle.ode_value.specs.ClassLimits.{limits_class, limits_triggers}
use Rattle.ode_value.specs.Weights.{record_count}
use Rattle.ode_value.specs.Worlds.{Declared}
use Rattle.ode_value.specs.declared.change.Added.{Added}
use Rattle.ode_value.specs.declared.class.Class.{Class}
use Rattle.ode_value.specs.declared.reason.CheckError.{CheckError}
use Rattle.ode_value.specs.declared.statement.ClassDecl.{ClassDecl}
use Rattle.ode_types.specs.Static.{check_grown}
use Rattle.ode_compile.specs.Answers.{Stops}
use Rattle.ode_compile.specs.Compiling.{compiled_grown, few_records}
use Rattle.ode_compile.specs.declared.stop.CompileStop.{CompileStop}
use Rattle.ode_compile.specs.declared.stop.CompileStop.TheVariants as stop

-- what stops a part stops the whole
pub stops_through : {R S : Type 0} (meant : Answer R) (next : R → Answer S) (s : CompileStop) → Stops meant s → Stops (meant >>= next) s
stops_through meant next (stop.Refused why) h = ap (λ m. m >>= next) h
stops_through meant next stop.Memory h = tt

-- and so it does behind a part that is passed
pub stops_behind : {R S : Type 0} (meant : Answer R) (next : R → Answer S) (r : R) (s : CompileStop) → meant ≡ Ok r → Stops (next r) s → Stops (meant >>= next) s
stops_behind meant next r s is h = subst (λ m. Stops (m >>= next) s) (sym is) h

pub checked-ok : {R : Type 0} (m : Result R CheckError) (r : R) → checks m ≡ Ok r → m ≡ Ok r
checked-ok (Ok q) r h = let same : q ≡ r = cc in ap Ok same
checked-ok (Err e) r h = absurd (cc)

module _ (known : List Class) (added : List Added) (d : ClassDecl) where
  abbrev declared : Class → Declared
  declared c = record { class = c; tree = d }

  -- what is meant behind the static rules, and behind the limits of the triggers
  behind_rules : (c : Class) → checks (check_grown known added d) ≡ Ok c → compiled_grown known added d ≡ limits_class (declared c)
  behind_rules c rules = ap (λ m. m >>= (λ k. limits_class (declared k))) rules

  behind_triggers : (c : Class) → checks (check_grown known added d) ≡ Ok c → limits_triggers c.triggers ≡ Ok tt
      → compiled_grown known added d ≡ (few_records (record_count (declared c)) >> Ok (declared c))
  behind_triggers c rules triggers = behind_rules c rules ∙ ap (λ m. m >> (few_records (record_count (declared c)) >> Ok (declared c))) triggers

  pub class_compiled : (c : Class) (count : ℕ) → checks (check_grown known added d) ≡ Ok c → limits_triggers c.triggers ≡ Ok tt
      → count ≡ record_count (declared c) → few_records count ≡ Ok tt → compiled_grown known added d ≡ Ok (declared c)
  class_compiled c count rules triggers is few =
      behind_triggers c rules triggers ∙ ap (λ m. m >> Ok (declared c)) (ap few_records (sym is) ∙ few)

  pub rules_stop : (s : CompileStop) → Stops (checks (check_grown known added d)) s → Stops (compiled_grown known added d) s
  rules_stop s h = stops_through (checks (check_grown known added d)) (λ c. limits_class (declared c)) s h

  pub triggers_stop : (c : Class) (s : CompileStop) → checks (check_grown known added d) ≡ Ok c → Stops (limits_triggers c.triggers) s → Stops (compiled_grown known added d) s
  triggers_stop c s rules h =
      subst (λ m. Stops m s) (sym (behind_rules c rules))
      (stops_through (limits_triggers c.triggers) (λ _. few_records (record_count (declared c)) >> Ok (declared c)) s h)

  pub records_stop : (c : Class) (count : ℕ) (s : CompileStop) → checks (check_grown known added d) ≡ Ok c → limits_triggers c.triggers ≡ Ok tt
      → count ≡ record_count (declared c) → Stops (few_records count) s → Stops (compiled_grown known added d) s
  records_stop c count s rules triggers is h =
      subst (λ m. Stops m s) (sym (behind_triggers c rules triggers))
      (stops_through (few_records (record_count (declared c))) (λ _. Ok (declared c)) s (subst (λ n. Stops (few_records n) s) is h))
