-- Activations moved on one after another.
use Rattle.std.proofs.Common.{◌≡◌, ℕ, ◌+◌, ◌-◌, ◌<◌, List, ◌++◌, length, map, take, drop, get_or, set, sym, ap, ◌∙◌, arith}
use Rattle.std.proofs.lemmas.List.{get_or-append_right, get_or-drop, get_or-map, length-map, length-take-le}
use Rattle.std.proofs.lemmas.List.Edits.{map_over_more}
use Rattle.ode_types.specs.declared.running.Running.{Running}
use Rattle.ode_states.specs.declared.step.Step.{Step}
use Rattle.ode_states.specs.Advance.{moved}

pub moved_more : (f : Running → Step) (xs ys : List Running) (steps : List Step) (i : ℕ) (a : Running) (d : Step) → i < length xs → steps ≡ map f xs
    → ys ≡ map (λ b. moved b (f b)) (take i xs) ++ drop i xs → a ≡ get_or ys i a
    → set ys i (moved a (get_or steps i d)) ≡ map (λ b. moved b (f b)) (take (i + 1) xs) ++ drop (i + 1) xs
moved_more f xs ys steps i a d within is_steps is read =
    let on : Running → Running = λ b. moved b (f b) in
    let front : length (map on (take i xs)) ≡ i = length-map (take i xs) on ∙ length-take-le i xs (omega arith) in
    let there : get_or ys i a ≡ get_or xs i a =
    ap (λ l. get_or l i a) is ∙ get_or-append_right (map on (take i xs)) (drop i xs) i i a front (omega arith) ∙ get_or-drop i xs (i - i) a ∙ ap (λ k. get_or xs k a) (omega arith) in
    let step : get_or steps i d ≡ f a = ap (λ l. get_or l i d) is_steps ∙ get_or-map f xs i a d within ∙ ap f (sym (read ∙ there)) in
    ap (λ s. set ys i (moved a s)) step ∙ map_over_more on xs ys i a within is read
