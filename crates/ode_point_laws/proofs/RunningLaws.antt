-- The activations that an overlay gives are those of the object, and it takes over what they become.
use Rattle.std.proofs.Common.{◌≡◌, ℕ, List, [], ◌∷◌, ◌++◌, map, Option, Some, None, Ok, refl, sym, ap, subst, ◌∙◌, append_assoc, append-nil}
use Rattle.ode_objects.specs.Objects.{taken_by, taken_over}
use Rattle.ode_objects.specs.declared.object.Active.{Active}
use Rattle.ode_overlay.specs.Answers.{◌>>=◌}
use Rattle.ode_overlay.specs.Reading.{map_of, or_else, place_from, running_by, running_from}
use Rattle.ode_overlay.specs.declared.error.OverlayError.TheVariants.{Damaged}
use Rattle.ode_overlay_laws.specs.Standing.{active_as}
use Rattle.ode_states.specs.Machine.{activation_of, row_of, state_of}
use Rattle.ode_types.specs.declared.running.Running.{Running}
use Rattle.ode_value.specs.Keys.{activation_key}
use Rattle.ode_value.specs.Objects as objects

-- one from each, with some table
abbrev pub AreRunning : List Active → List Running → Type 0
AreRunning [] [] = Unit {0}
AreRunning (a ∷ more) (r ∷ rs) = ((table : ℕ) × (r ≡ running_by a table)) × AreRunning more rs
AreRunning _ _ = ⊥

running_behind : (maps : List ℕ) (id : ℕ) (done : List Running) (acts : List Active) (rs : List Running) → running_from maps id done acts ≡ Ok rs
    → (more : List Running) × ((rs ≡ done ++ more) × AreRunning acts more)
running_behind maps id done [] rs is = let same : done ≡ rs = cc in ([], (sym same ∙ sym (append-nil done), tt))
running_behind maps id done (a ∷ acts) rs is =
    by_place (place_from a.trigger (map_of maps a.class)) is (λ table e. running_behind maps id (done ++ running_by a table ∷ []) acts rs e) where
      by_place : (place : Option ℕ) → (or_else (Damaged (activation_key id a.number)) place >>= λ table. Ok (running_by a table)) >>= (λ r. running_from maps id (done ++ r ∷ []) acts) ≡ Ok rs
          → ((table : ℕ) → running_from maps id (done ++ running_by a table ∷ []) acts ≡ Ok rs → (more : List Running) × ((rs ≡ (done ++ running_by a table ∷ []) ++ more) × AreRunning acts more))
          → (more : List Running) × ((rs ≡ done ++ more) × AreRunning (a ∷ acts) more)
      by_place None e behind = absurd (cc)
      by_place (Some table) e behind =
          let rest = behind table e in
          (running_by a table ∷ rest.0, (rest.1.0 ∙ append_assoc done (running_by a table ∷ []) rest.0, ((table, refl), rest.1.1)))

pub are_running : (maps : List ℕ) (id : ℕ) (acts : List Active) (rs : List Running) → running_from maps id [] acts ≡ Ok rs → AreRunning acts rs
are_running maps id acts rs is = let all = running_behind maps id [] acts rs is in subst (AreRunning acts) (sym all.1.0) all.1.1

-- ---- what they become

abbrev pub state_row : Active → ℕ × ℕ
state_row a = (a.number, a.state)

-- a change of states, and of what is on, alone
abbrev pub KeepsParts : (Running → Running) → Type 0
KeepsParts f = (r : Running) → f r ≡ record r { state = (f r).state; on = (f r).on }

pub same_rows : (acts : List Active) (rs : List Running) → AreRunning acts rs → map state_row acts ≡ map (row_of state_of) rs
same_rows [] [] are = refl
same_rows (a ∷ acts) (r ∷ rs) are =
    ap (λ (q : Running). row_of state_of q ∷ map state_row acts) (sym are.0.1) ∙ ap (λ (rows : List (ℕ × ℕ)). row_of state_of r ∷ rows) (same_rows acts rs are.1)
same_rows [] (r ∷ rs) are = absurd are
same_rows (a ∷ acts) [] are = absurd are

module _ (f : Running → Running) (keeps : KeepsParts f) where
  pub taken_activations : (acts : List Active) (rs : List Running) → AreRunning acts rs → map active_as (taken_over (map f rs) acts) ≡ map activation_of (map f rs)
  taken_activations [] [] are = refl
  taken_activations (a ∷ acts) (r ∷ rs) are =
      ap (λ (q : objects.Activation). q ∷ map active_as (taken_over (map f rs) acts)) here ∙ ap (λ (qs : List objects.Activation). activation_of (f r) ∷ qs) (taken_activations acts rs are.1) where
        here : active_as (taken_by (f r) a) ≡ activation_of (f r)
        here =
            ap (λ (q : Running). record { number = q.id; class = q.class; trigger = q.trigger; args = q.args; on = (f r).on }) (sym are.0.1)
            ∙ sym (ap activation_of (keeps r))
  taken_activations [] (r ∷ rs) are = absurd are
  taken_activations (a ∷ acts) [] are = absurd are

  pub taken_rows : (acts : List Active) (rs : List Running) → AreRunning acts rs → map state_row (taken_over (map f rs) acts) ≡ map (row_of state_of) (map f rs)
  taken_rows [] [] are = refl
  taken_rows (a ∷ acts) (r ∷ rs) are =
      ap (λ (row : ℕ × ℕ). row ∷ map state_row (taken_over (map f rs) acts)) here ∙ ap (λ (rows : List (ℕ × ℕ)). row_of state_of (f r) ∷ rows) (taken_rows acts rs are.1) where
        here : state_row (taken_by (f r) a) ≡ row_of state_of (f r)
        here = ap (λ (q : Running). (q.id, (f r).state)) (sym are.0.1) ∙ sym (ap (row_of state_of) (keeps r))
  taken_rows [] (r ∷ rs) are = absurd are
  taken_rows (a ∷ acts) [] are = absurd are
