-- The activations of an object.
use Rattle.std.specs.Prelude.{ℕ, List, [], ◌∷◌, Bool, true, false, cond, ◌==◌, ◌&&◌, Option, Some, None}
use Rattle.std.specs.List.{filter, slice_get}
use Rattle.ode_codec.specs.Sorts.{has_sort}
use Rattle.ode_codec.specs.declared.record.Activation.{Activation}
use Rattle.ode_codec.specs.declared.record.Record.{Record}
use Rattle.ode_codec.specs.declared.record.Record.TheVariants as of
use Rattle.ode_heap.specs.Answers.{Found}
use Rattle.ode_heap.specs.Answers.{There, Broken}
use Rattle.ode_heap.specs.Walking.{block}
use Rattle.ode_keep.specs.Entries.{Entries}
use Rattle.ode_types.specs.Families.{class_numbered}
use Rattle.ode_value.specs.Keys.{activation_kind}
use Rattle.ode_value.specs.declared.binding.Param.{Param}
use Rattle.ode_value.specs.declared.class.Class.{Class}
use Rattle.ode_value.specs.declared.key.Key.{Key}
use Rattle.ode_value.specs.declared.member.TriggerDecl.{TriggerDecl}
use Rattle.ode_value.specs.declared.value.Value.{Value}

-- a value of its sort for each parameter
abbrev pub fit_params : List Param → List Value → Bool
fit_params [] [] = true
fit_params (p ∷ ps) (v ∷ vs) = has_sort p.sort v && fit_params ps vs
fit_params _ _ = false

-- the trigger is there, and the arguments fit it
abbrev pub fit_trigger : Option TriggerDecl → List Value → Bool
fit_trigger None args = false
fit_trigger (Some t) args = fit_params t.params args

abbrev pub fit_class : Option Class → ℕ → List Value → Bool
fit_class None trigger args = false
fit_class (Some c) trigger args = fit_trigger (slice_get c.triggers trigger) args

abbrev pub fits : List Class → Activation → Bool
fits classes a = fit_class (class_numbered classes a.class) a.trigger a.args

abbrev pub as_activation : List Class → Key → Record → Found Activation
as_activation classes k (of.Activation a) = cond (fits classes a) (There a) (Broken k)
as_activation classes k _ = Broken k

-- in the order of their numbers
abbrev pub activations_in : Entries → ℕ → List Class → Found (List Activation)
activations_in entries id classes = block (as_activation classes) activation_kind id 0 entries

-- the records of an object's activations
abbrev pub is_activation_of : ℕ → Key → Bool
is_activation_of id k = k.a == id && k.kind == activation_kind

abbrev pub own_activations : Entries → ℕ → Entries
own_activations entries id = filter (λ e. is_activation_of id e.0) entries
