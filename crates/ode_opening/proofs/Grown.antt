-- Trees that are read one behind the other.
use Rattle.std.proofs.Common.{◌≡◌, ℕ, List, [], ◌∷◌, ◌++◌, drop, Some, Ok, Err, sym, ap, ◌∙◌}
use Rattle.ode_language.specs.Languages.{ode}
use Rattle.ode_passes.specs.Answers.{Answers}
use Rattle.ode_passes.specs.Records.{Found}
use Rattle.ode_passes.specs.Rules.{Ruled, ◌>>=◌, found, through}
use Rattle.ode_passes.specs.declared.cause.Cause.TheVariants as cause
use Rattle.ode_passes.specs.declared.error.OpenError.{OpenError}
use Rattle.ode_passes.specs.declared.error.OpenError.TheVariants as error
use Rattle.ode_value.specs.declared.statement.ClassDecl.{ClassDecl}
use Rattle.ode_opening.specs.Cutting.{Cuts}
use Rattle.ode_opening.specs.Declaring.{read_in, text_in}
use Rattle.ode_opening.specs.Trees.{Grows, tree_by}

module _ (number length : ℕ) (known : List ClassDecl) (fs records : Found) where
  -- the tree behind its text
  abbrev behind_text : List ℕ × Found → Ruled (List ClassDecl × Found)
  behind_text text = found (cause.Class number) (read_in ode text.0) >>= λ d. Ok (known ++ d ∷ [], text.1)

  pub cut_stops_tree : (trees : List ClassDecl) (e : OpenError) → Cuts (text_in number length fs) records (Err e) → Grows (tree_by ode (Some (number, length)) (known, fs)) trees records (Err e)
  cut_stops_tree trees (error.BadFile why) h = ap (λ m. m >>= behind_text) h
  cut_stops_tree trees error.DiskFault h = tt
  cut_stops_tree trees error.Memory h = tt

  pub read_stops_tree : (trees : List ClassDecl) (text : List ℕ) (at : ℕ) (e : OpenError) → Cuts (text_in number length fs) records (Ok (text, at))
      → Answers {X = ClassDecl} (found (cause.Class number) (read_in ode text)) (Err e) → Grows (tree_by ode (Some (number, length)) (known, fs)) trees records (Err e)
  read_stops_tree trees text at (error.BadFile why) cut h = ap (λ m. m >>= behind_text) cut ∙ ap (λ m. m >>= λ d. Ok (known ++ d ∷ [], drop at records)) h
  read_stops_tree trees text at error.DiskFault cut h = tt
  read_stops_tree trees text at error.Memory cut h = tt

  pub tree_put : (text : List ℕ) (at : ℕ) (d : ClassDecl) → Cuts (text_in number length fs) records (Ok (text, at)) → found (cause.Class number) (read_in ode text) ≡ Ok d
      → tree_by ode (Some (number, length)) (known, fs) ≡ Ok (known ++ d ∷ [], drop at records)
  tree_put text at d cut h = ap (λ m. m >>= behind_text) cut ∙ ap (λ m. m >>= λ t. Ok (known ++ t ∷ [], drop at records)) h

-- one by one
module _ {X : Type 0} (step : List ClassDecl × Found → X → Ruled (List ClassDecl × Found)) (records : Found) where
  pub grows_on : (s : List ClassDecl × Found) (trees : List ClassDecl) (at : ℕ) (x : X) (xs : List X) (all : Ruled (List ClassDecl × Found))
      → Grows (step s x) trees records (Ok at) → through step s (x ∷ xs) ≡ all → through step (trees, drop at records) xs ≡ all
  grows_on s trees at x xs all h so_far = sym (ap (λ m. m >>= λ t. through step t xs) h) ∙ so_far

  pub grows_no_more : (s : List ClassDecl × Found) (trees : List ClassDecl) (x : X) (xs : List X) (all : Ruled (List ClassDecl × Found)) (e : OpenError)
      → Grows (step s x) trees records (Err e) → through step s (x ∷ xs) ≡ all → Answers {X = List ClassDecl} (all >>= λ t. Ok t.0) (Err e)
  grows_no_more s trees x xs all (error.BadFile why) h so_far = ap (λ m. m >>= λ t. Ok t.0) (sym so_far ∙ ap (λ m. m >>= λ t. through step t xs) h)
  grows_no_more s trees x xs all error.DiskFault h so_far = tt
  grows_no_more s trees x xs all error.Memory h so_far = tt
