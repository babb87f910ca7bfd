-- The first pass over a class, as loops make it.
use Rattle.std.proofs.Common.{◌≡◌, ℕ, zero, suc, ◌+◌, ◌<◌, ◌≤◌, List, [], ◌∷◌, ◌++◌, length, drop, take, get_or, Bool, true, false, Ok, Err, refl, ap, sym, ◌∙◌, arith}
use Rattle.std.specs.Prelude.{◌&&◌}
use Rattle.ode_value.specs.declared.binding.Param.{Param}
use Rattle.ode_value.specs.declared.class.Class.{Class}
use Rattle.ode_value.specs.declared.statement.ClassDecl.{ClassDecl}
use Rattle.ode_value.specs.Same.{same_sort}
use Rattle.ode_types.specs.Answers.{Answers}
use Rattle.ode_types.specs.Checks.{◌>>=◌, through}
use Rattle.ode_types.specs.Declaring.{knows_param, knows_params, next_param, same_params}
use Rattle.ode_types.specs.declared.stop.CheckStop.{CheckStop}
use Rattle.ode_types.specs.declared.stop.CheckStop.TheVariants as stop
use Rattle.ode_types.proofs.TurnLaws.{through-end, through-stops}

-- ---- parameter sorts of two methods

pub same_params-other : (ps qs : List Param) → (length ps ≡ length qs → ⊥) → same_params ps qs ≡ false
same_params-other [] [] other = absurd (other refl)
same_params-other [] (q ∷ qs) other = refl
same_params-other (p ∷ ps) [] other = refl
same_params-other (p ∷ ps) (q ∷ qs) other = by (same_sort p.sort q.sort) (same_params-other ps qs (λ e. other (ap suc e))) where
  by : (b : Bool) → same_params ps qs ≡ false → (b && same_params ps qs) ≡ false
  by true rest = rest
  by false rest = refl

-- ---- parameters

take_one : {X : Type 0} (xs : List X) (i : ℕ) (d : X) → i < length xs → take (i + 1) xs ≡ take i xs ++ get_or xs i d ∷ []
take_one [] i d h = absurd (omega arith)
take_one (y ∷ ys) zero d h = refl
take_one (y ∷ ys) (suc i) d h = let next : suc i + 1 ≡ suc (i + 1) = omega arith in ap (λ n. take n (y ∷ ys)) next ∙ ap (λ zs. y ∷ zs) (take_one ys i d (omega arith))

module _ (known : List Class) (d : ClassDecl) (params : List Param) (i : ℕ) where
  pub params-stop : (p : Param) (e : CheckStop) → i < length params → p ≡ get_or params i p
      → through (next_param known d) [] params ≡ through (next_param known d) (take i params) (drop i params) → Answers {T = Unit {0}} (knows_param known d (take i params) p) (Err e)
      → Answers {T = Unit {0}} (knows_params known d params) (Err e)
  params-stop p stop.Memory low is so h = tt
  params-stop p (stop.Broken e) low is so h =
      through-stops (next_param known d) (through (next_param known d) [] params) (λ _. Ok tt) (take i params) [] params i p (stop.Broken e) low is so (ap (λ m. m >>= (λ _. Ok (take i params ++ p ∷ []))) h)

  pub params-end : length params ≤ i → through (next_param known d) [] params ≡ through (next_param known d) (take i params) (drop i params) → knows_params known d params ≡ Ok tt
  params-end low so = ap (λ m. m >>= (λ _. Ok tt)) (through-end (next_param known d) (through (next_param known d) [] params) (take i params) params i low so)
