-- Values that fit sorts have them.
use Rattle.std.proofs.Common.{◌≡◌, List, [], ◌∷◌, true, ap, refl, ◌∙◌}
use Rattle.std.specs.Prelude.{◌&&◌}
use Rattle.std.specs.List.{AllZip}
use Rattle.ode_codec.specs.Sorts.{has_sort}
use Rattle.ode_heap.specs.Activations.{fit_params}
use Rattle.ode_heap.specs.Looking.{fit_fields}
use Rattle.ode_value.specs.Fitting.{FitFields, FitsSort}
use Rattle.ode_value.specs.Worlds.{Bones}
use Rattle.ode_value.specs.declared.binding.Param.{Param}
use Rattle.ode_value.specs.declared.class.Field.{Field}
use Rattle.ode_value.specs.declared.statement.Sort.{Sort}
use Rattle.ode_value.specs.declared.statement.Sort.TheVariants as sort
use Rattle.ode_value.specs.declared.value.Value.{Value}
use Rattle.ode_value.specs.declared.value.Value.TheVariants as value

-- a value that fits a sort has it
pub sort_of : (b : Bones) (s : Sort) (v : Value) → FitsSort b s v → has_sort s v ≡ true
sort_of b sort.Int (value.Int n) fits = refl
sort_of b sort.Bool (value.Bool t) fits = refl
sort_of b sort.Text (value.Text t) fits = refl
sort_of b (sort.Reference class) (value.Reference r) fits = refl
sort_of b sort.Int (value.Bool t) fits = absurd fits
sort_of b sort.Int (value.Text t) fits = absurd fits
sort_of b sort.Int (value.Reference r) fits = absurd fits
sort_of b sort.Bool (value.Int n) fits = absurd fits
sort_of b sort.Bool (value.Text t) fits = absurd fits
sort_of b sort.Bool (value.Reference r) fits = absurd fits
sort_of b sort.Text (value.Int n) fits = absurd fits
sort_of b sort.Text (value.Bool t) fits = absurd fits
sort_of b sort.Text (value.Reference r) fits = absurd fits
sort_of b (sort.Reference class) (value.Int n) fits = absurd fits
sort_of b (sort.Reference class) (value.Bool t) fits = absurd fits
sort_of b (sort.Reference class) (value.Text t) fits = absurd fits
sort_of b sort.Void (value.Int n) fits = absurd fits
sort_of b sort.Void (value.Bool t) fits = absurd fits
sort_of b sort.Void (value.Text t) fits = absurd fits
sort_of b sort.Void (value.Reference r) fits = absurd fits

pub fields_fit : (b : Bones) (fields : List Field) (values : List Value) → FitFields b fields values → fit_fields fields values ≡ true
fields_fit b [] [] all = refl
fields_fit b [] (v ∷ vs) all = absurd all
fields_fit b (f ∷ fs) [] all = absurd all
fields_fit b (f ∷ fs) (v ∷ vs) all = ap (λ t. t && fit_fields fs vs) (sort_of b f.sort v all.0) ∙ fields_fit b fs vs all.1

pub params_fit : (b : Bones) (params : List Param) (args : List Value) → AllZip (λ (p : Param). FitsSort b p.sort) params args → fit_params params args ≡ true
params_fit b [] [] all = refl
params_fit b [] (v ∷ vs) all = absurd all
params_fit b (p ∷ ps) [] all = absurd all
params_fit b (p ∷ ps) (v ∷ vs) all = ap (λ t. t && fit_params ps vs) (sort_of b p.sort v all.0) ∙ params_fit b ps vs all.1
