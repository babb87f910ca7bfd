-- The limits of a trigger, as what is found tells them.
use Rattle.std.proofs.Common.{◌≡◌, ◌<◌, ◌≤◌, ℕ, List, Ok, Err, ap, sym, ◌∙◌, subst}
use Rattle.std.specs.Prelude.{min, nat_lt}
use Rattle.std.proofs.lemmas.Bool.{lt-ltb, le-ltb}
use Rattle.ode_value.specs.Answers.{refuses}
use Rattle.ode_value.specs.Limits.{class_limit, counted_symbols, state_limit, symbol_limit}
use Rattle.ode_value.specs.Symbols.{symbol_count}
use Rattle.ode_value.specs.TreeCount.{tree_count}
use Rattle.ode_value.specs.declared.member.TriggerDecl.{TriggerDecl}
use Rattle.ode_value.specs.declared.reason.Refusal.{Refusal}
use Rattle.ode_value.specs.declared.reason.Refusal.TheVariants as refusal
use Rattle.ode_compile.specs.Compiling.{few_records, few_states, few_symbols}

-- a number within a limit passes, and one above it is refused
within : (limit n : ℕ) (why : Refusal) → n ≤ limit → refuses (nat_lt limit n) why ≡ Ok tt
within limit n why h = ap (λ b. refuses b why) (le-ltb limit n h)

above : (limit n : ℕ) (why : Refusal) → limit < n → refuses (nat_lt limit n) why ≡ Err why
above limit n why h = ap (λ b. refuses b why) (lt-ltb limit n h)

pub symbols_pass : (t : TriggerDecl) → symbol_count t.event ≤ symbol_limit → few_symbols t ≡ Ok tt
symbols_pass t h = within symbol_limit (symbol_count t.event) (refusal.TooManySymbols t.name (min (symbol_count t.event) counted_symbols)) h

pub symbols_stop : (t : TriggerDecl) (name : List ℕ) (count : ℕ) → name ≡ t.name → symbol_limit < symbol_count t.event
    → count ≡ min (symbol_count t.event) counted_symbols → few_symbols t ≡ Err (refusal.TooManySymbols name count)
symbols_stop t name count named above_limit counted =
    above symbol_limit (symbol_count t.event) (refusal.TooManySymbols t.name (min (symbol_count t.event) counted_symbols)) above_limit
    ∙ ap (λ n. Err (refusal.TooManySymbols t.name n)) (sym counted) ∙ ap (λ n. Err (refusal.TooManySymbols n count)) (sym named)

pub states_pass : (t : TriggerDecl) (states : ℕ) → states ≡ tree_count t.event → states ≤ state_limit → few_states t ≡ Ok tt
states_pass t states is h = within state_limit (tree_count t.event) (refusal.TooManyStates t.name) (subst (λ n. n ≤ state_limit) is h)

pub states_stop : (t : TriggerDecl) (name : List ℕ) → name ≡ t.name → state_limit < tree_count t.event → few_states t ≡ Err (refusal.TooManyStates name)
states_stop t name named h = above state_limit (tree_count t.event) (refusal.TooManyStates t.name) h ∙ ap (λ n. Err (refusal.TooManyStates n)) (sym named)

pub records_stop : (count : ℕ) → class_limit < count → few_records count ≡ Err (refusal.ClassTooLarge count)
records_stop count h = above class_limit count (refusal.ClassTooLarge count) h
