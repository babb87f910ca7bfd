-- What is heard of a run, piece by piece and as a whole.
use Rattle.std.proofs.Common.{◌≡◌, ◌∙◌, ℕ, List, [], ◌∷◌, ◌++◌, Bool, true, false, Result, ap, refl, subst, sym}
use Rattle.std.proofs.lemmas.List.{map-append}
use Rattle.std.specs.Prelude.{OnOk}
use Rattle.ode_host.specs.Host.{LeavesOnly, Printed}
use Rattle.ode_host.specs.View.{View}
use Rattle.ode_machine.specs.Moments.{Holding, IsAfterSome}
use Rattle.ode_machine.specs.Runs.{Item, Refuses, Settles, any_refused, final, item_of, text_of}
use Rattle.ode_run_laws.proofs.JoinLaws.{texts_join}
use Rattle.ode_ends.proofs.ItemLaws.{texts_are}
use Rattle.ode_trace.specs.Hearing.{heard_item, heard_items}
use Rattle.ode_ends.specs.Endings.{EndsWith}
use Rattle.ode_transact.specs.Items.{items_of, texts_of}
use Rattle.ode_transact.specs.Output.{all_heard, heard}
use Rattle.ode_transact.specs.Settling.{Meaning}
use Rattle.ode_transact.specs.declared.error.EngineError.{EngineError}
use Rattle.ode_value.specs.Language.{ListWorld, Settlings}

-- all, of a run that isn't quiet
pub heard_aloud : (items : List Item) → heard_items false items ≡ items
heard_aloud [] = refl
heard_aloud (Settles w text ∷ items) = ap (λ (rest : List Item). Settles w text ∷ rest) (heard_aloud items)
heard_aloud (Refuses line ∷ items) = ap (λ (rest : List Item). Refuses line ∷ rest) (heard_aloud items)

-- and nothing of a quiet one
pub nothing_heard : (items : List Item) → text_of (heard_items true items) ≡ []
nothing_heard [] = refl
nothing_heard (Settles w text ∷ items) = nothing_heard items
nothing_heard (Refuses line ∷ items) = nothing_heard items

-- one stretch behind the other
pub heard_join : (quiet : Bool) (items more : List Item) → heard_items quiet (items ++ more) ≡ heard_items quiet items ++ heard_items quiet more
heard_join quiet items more = map-append (heard_item quiet) items more

pub heard_texts : (quiet : Bool) (items more : List Item) → text_of (heard_items quiet (items ++ more)) ≡ text_of (heard_items quiet items) ++ text_of (heard_items quiet more)
heard_texts quiet items more = ap text_of (heard_join quiet items more) ∙ texts_join (heard_items quiet items) (heard_items quiet more)

-- the refusals and the worlds are the same
pub refused_heard : (quiet : Bool) (items : List Item) → any_refused (heard_items quiet items) ≡ any_refused items
refused_heard quiet [] = refl
refused_heard quiet (Settles w text ∷ items) = refused_heard quiet items
refused_heard quiet (Refuses line ∷ items) = refl

pub final_heard : (quiet : Bool) (w : ListWorld) (items : List Item) → final w (heard_items quiet items) ≡ final w items
final_heard quiet w [] = refl
final_heard quiet w (Settles v text ∷ items) = final_heard quiet v items
final_heard quiet w (Refuses line ∷ items) = final_heard quiet w items

-- ---- settled transactions

items_heard : (quiet : Bool) (settled : Settlings) → items_of (all_heard quiet settled) ≡ heard_items quiet (items_of settled)
items_heard quiet [] = refl
items_heard quiet (s ∷ settled) = ap (λ (rest : List Item). heard_item quiet (item_of s) ∷ rest) (items_heard quiet settled)

texts_heard : (quiet : Bool) (settled : Settlings) → texts_of (all_heard quiet settled) ≡ text_of (heard_items quiet (items_of settled))
texts_heard quiet settled = texts_are (all_heard quiet settled) ∙ ap text_of (items_heard quiet settled)

pub printed_heard : {R : Type 0} (result : Result R EngineError) (quiet : Bool) (settled : Settlings) (old new : View) → OnOk result (Printed (texts_of (all_heard quiet settled)) old new)
    → OnOk result (Printed (text_of (heard_items quiet (items_of settled))) old new)
printed_heard result quiet settled old new printed = subst (λ (text : List ℕ). OnOk result (Printed text old new)) (texts_heard quiet settled) printed

pub moments_heard : (holds : Holding) (quiet : Bool) (settled : Settlings) (more : List Item) (w : ListWorld) (said : List ℕ) (old new : View)
    → LeavesOnly old new (IsAfterSome holds (items_of (all_heard quiet settled) ++ more) w said) → LeavesOnly old new (IsAfterSome holds (heard_items quiet (items_of settled) ++ more) w said)
moments_heard holds quiet settled more w said old new run =
    subst (λ (items : List Item). LeavesOnly old new (IsAfterSome holds (items ++ more) w said)) (items_heard quiet settled) run

-- ---- of an engine that is as quiet as the run

pub ends_as : (means : Meaning) (view : View) (w : ListWorld) (text : List ℕ) (items : List Item) (volume quiet : Bool) → volume ≡ quiet → EndsWith means view w (text ++ text_of (heard_items volume items))
    → EndsWith means view w (text ++ text_of (heard_items quiet items))
ends_as means view w text items volume quiet same ends = subst (λ (q : Bool). EndsWith means view w (text ++ text_of (heard_items q items))) same ends

pub moments_as : (holds : Holding) (items : List Item) (w : ListWorld) (text : List ℕ) (old new : View) (volume quiet : Bool) → volume ≡ quiet → LeavesOnly old new (IsAfterSome holds (heard_items volume items) w text)
    → LeavesOnly old new (IsAfterSome holds (heard_items quiet items) w text)
moments_as holds items w text old new volume quiet same run = subst (λ (q : Bool). LeavesOnly old new (IsAfterSome holds (heard_items q items) w text)) same run

-- ---- one text

pub none_heard : (quiet : Bool) (text : List ℕ) → quiet ≡ true → [] ≡ heard quiet text
none_heard quiet text is = ap (λ (q : Bool). heard q text) (sym is)

pub all_heard_of : (quiet : Bool) (text : List ℕ) → quiet ≡ false → text ≡ heard quiet text
all_heard_of quiet text is = ap (λ (q : Bool). heard q text) (sym is)
