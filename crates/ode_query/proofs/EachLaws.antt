-- Checks of each in order, as a loop makes them.
use Rattle.std.proofs.Common.{◌≡◌, ℕ, ◌+◌, ◌<◌, ◌≤◌, List, [], ◌∷◌, ◌++◌, drop, get_or, length, Ok, Err, refl, ap, sym, ◌∙◌, append_assoc}
use Rattle.std.proofs.lemmas.List.{append-nil}
use Rattle.ode_types.proofs.TurnLaws.{drop_all, drop_at}
use Rattle.ode_types.specs.Answers.{Answers}
use Rattle.ode_types.specs.Checks.{Check, ◌>>=◌, each}
use Rattle.ode_types.specs.declared.stop.CheckStop.{CheckStop}
use Rattle.ode_types.specs.declared.stop.CheckStop.TheVariants as stop

-- what was checked before, and what is checked from here on
abbrev pub behind : {S : Type 0} → List S → Check (List S) → Check (List S)
behind ss check = check >>= (λ rest. Ok (ss ++ rest))

pub none_before : {S : Type 0} (check : Check (List S)) → check ≡ behind [] check
none_before (Ok ss) = refl
none_before (Err e) = refl

one_more : {S : Type 0} (ss : List S) (s : S) (rest : Check (List S)) → behind ss (rest >>= (λ r. Ok (s ∷ r))) ≡ behind (ss ++ s ∷ []) rest
one_more ss s (Ok r) = ap Ok (sym (append_assoc ss (s ∷ []) r))
one_more ss s (Err e) = refl

module _ {R S : Type 0} (check : R → Check S) where
  pub each_step : (all : Check (List S)) (ss : List S) (rs : List R) (i : ℕ) (r : R) (s : S) → i < length rs → r ≡ get_or rs i r
      → all ≡ behind ss (each check (drop i rs)) → check r ≡ Ok s → all ≡ behind (ss ++ s ∷ []) (each check (drop (i + 1) rs))
  each_step all ss rs i r s low is so ok =
      so ∙ ap (λ xs. behind ss (each check xs)) (drop_at rs i r low ∙ ap (λ x. x ∷ drop (i + 1) rs) (sym is))
      ∙ ap (λ m. behind ss (m >>= (λ p. each check (drop (i + 1) rs) >>= (λ q. Ok (p ∷ q))))) ok
      ∙ one_more ss s (each check (drop (i + 1) rs))

  pub each_stop : (all : Check (List S)) (ss : List S) (rs : List R) (i : ℕ) (r : R) (e : CheckStop) → i < length rs → r ≡ get_or rs i r
      → all ≡ behind ss (each check (drop i rs)) → Answers {T = S} (check r) (Err e) → Answers {T = List S} all (Err e)
  each_stop all ss rs i r stop.Memory low is so h = tt
  each_stop all ss rs i r (stop.Broken e) low is so h =
      so ∙ ap (λ xs. behind ss (each check xs)) (drop_at rs i r low ∙ ap (λ x. x ∷ drop (i + 1) rs) (sym is))
      ∙ ap (λ m. behind ss (m >>= (λ p. each check (drop (i + 1) rs) >>= (λ q. Ok (p ∷ q))))) h

  pub each_end : (all : Check (List S)) (ss : List S) (rs : List R) (i : ℕ) → length rs ≤ i → all ≡ behind ss (each check (drop i rs)) → all ≡ Ok ss
  each_end all ss rs i low so = so ∙ ap (λ xs. behind ss (each check xs)) (drop_all rs i low) ∙ ap Ok (append-nil ss)
