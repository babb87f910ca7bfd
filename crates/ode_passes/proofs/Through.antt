-- Steps that follow one another, as a loop makes them.
use Rattle.std.proofs.Common.{◌≡◌, List, [], ◌∷◌, ◌++◌, Ok, Err, refl, sym, ap, ◌∙◌}
use Rattle.ode_passes.specs.Answers.{Answers, Leaves}
use Rattle.ode_passes.specs.Rules.{Ruled, ◌>>=◌, through}
use Rattle.ode_passes.specs.declared.error.OpenError.{OpenError}
use Rattle.ode_passes.specs.declared.error.OpenError.TheVariants as error

-- what stops a part stops the whole
pub stops_through : {X Y : Type 0} (meant : Ruled X) (next : X → Ruled Y) (e : OpenError) → Answers {X = X} meant (Err e) → Answers {X = Y} (meant >>= next) (Err e)
stops_through meant next (error.BadFile cause) h = ap (λ m. m >>= next) h
stops_through meant next error.DiskFault h = tt
stops_through meant next error.Memory h = tt

module _ {S X : Type 0} (step : S → X → Ruled S) where
  bound : (m : Ruled S) (xs ys : List X) → ((t : S) → through step t (xs ++ ys) ≡ (through step t xs >>= λ u. through step u ys))
      → (m >>= λ t. through step t (xs ++ ys)) ≡ ((m >>= λ t. through step t xs) >>= λ u. through step u ys)
  bound (Ok t) xs ys more = more t
  bound (Err cause) xs ys more = refl

  pub through-append : (s : S) (xs ys : List X) → through step s (xs ++ ys) ≡ (through step s xs >>= λ t. through step t ys)
  through-append s [] ys = refl
  through-append s (x ∷ xs) ys = bound (step s x) xs ys (λ t. through-append t xs ys)

  -- a part in front that goes on
  pub goes_by : (s t : S) (xs ys : List X) (all : Ruled S) → through step s xs ≡ Ok t → through step s (xs ++ ys) ≡ all → through step t ys ≡ all
  goes_by s t xs ys all is so_far = sym (through-append s xs ys ∙ ap (λ m. m >>= λ u. through step u ys) is) ∙ so_far

  -- a part in front that is left by an error
  pub stops_by : (Y Z : Type 0) (s t : S) (xs ys : List X) (all : Ruled S) (last : S) (e : OpenError) → Leaves {X = Y} (through step s xs) t (Err e)
      → through step s (xs ++ ys) ≡ all → Leaves {X = Z} all last (Err e)
  stops_by Y Z s t xs ys all last (error.BadFile cause) h so_far = sym so_far ∙ through-append s xs ys ∙ ap (λ m. m >>= λ u. through step u ys) h
  stops_by Y Z s t xs ys all last error.DiskFault h so_far = tt
  stops_by Y Z s t xs ys all last error.Memory h so_far = tt
