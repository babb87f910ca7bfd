-- Transactions that settle one after the other: their items, their texts, and what a stop leaves.
use Rattle.std.proofs.Common.{◌≡◌, ◌∙◌, ℕ, List, [], ◌∷◌, ◌++◌, Some, ap, append-nil, append_assoc, refl, subst, sym}
use Rattle.ode_transact.specs.Items.{items_of, texts_of}
use Rattle.ode_host.specs.Host.{LeavesOnly, Printed}
use Rattle.ode_host.specs.View.{View}
use Rattle.ode_machine.proofs.MomentLaws.{runs_on, settling_leaves}
use Rattle.ode_machine.specs.Moments.{Holding, IsAfterSome, LeavesSettling}
use Rattle.ode_machine.specs.Runs.{Item, final, item_of, text_of}
use Rattle.ode_value.specs.Draining.{world_after}
use Rattle.ode_value.specs.Language.{ListWorld, Settlings}
use Rattle.ode_value.specs.Objects.{Histories, Starts}
use Rattle.ode_value.specs.Settling.{Settled}

pub final_is : (w : ListWorld) (settled : Settlings) → final w (items_of settled) ≡ world_after w settled
final_is w [] = refl
final_is w (s ∷ settled) = final_is s.0 settled

pub text_is : (settled : Settlings) → text_of (items_of settled) ≡ texts_of settled
text_is [] = refl
text_is (s ∷ settled) = ap (λ (rest : List ℕ). s.1 ++ rest) (text_is settled)

pub items_join : (settled : Settlings) (s : Settled Histories Starts) (more : List Item) → items_of settled ++ item_of s ∷ more ≡ items_of (settled ++ s ∷ []) ++ more
items_join [] s more = refl
items_join (t ∷ settled) s more = ap (λ (rest : List Item). item_of t ∷ rest) (items_join settled s more)

pub texts_join : (settled : Settlings) (s : Settled Histories Starts) → texts_of (settled ++ s ∷ []) ≡ texts_of settled ++ s.1
texts_join [] s = append-nil s.1
texts_join (t ∷ settled) s = ap (λ (rest : List ℕ). t.1 ++ rest) (texts_join settled s) ∙ sym (append_assoc t.1 (texts_of settled) s.1)

pub printed_join : (settled : Settlings) (s : Settled Histories Starts) (old mid new : View) → Printed (texts_of settled) old mid → Printed s.1 mid new → Printed (texts_of (settled ++ s ∷ [])) old new
printed_join settled s old mid new first second text is =
    second (text ++ texts_of settled) (first text is)
    ∙ ap (λ (out : List ℕ). Some out) (append_assoc text (texts_of settled) s.1 ∙ ap (λ (rest : List ℕ). text ++ rest) (sym (texts_join settled s)))

-- What a stop leaves of some transactions, and then of one more from the world that they left, it leaves of all of them.
pub moments_join : (holds : Holding) (settled : Settlings) (s : Settled Histories Starts) (more : List Item) (w now : ListWorld) (said : List ℕ) (old mid new : View) → world_after w settled ≡ now
    → ((items : List Item) → LeavesOnly old mid (IsAfterSome holds (items_of settled ++ items) w said)) → LeavesOnly mid new (LeavesSettling holds now s.0 (said ++ texts_of settled) s.1)
    → LeavesOnly old new (IsAfterSome holds (items_of (settled ++ s ∷ []) ++ more) w said)
moments_join holds settled s more w now said old mid new is first second =
    let one : LeavesOnly mid new (IsAfterSome holds (item_of s ∷ more) now (said ++ texts_of settled)) = settling_leaves holds s.1 more now s.0 (said ++ texts_of settled) mid new second in
    let two : LeavesOnly mid new (IsAfterSome holds (item_of s ∷ more) (final w (items_of settled)) (said ++ texts_of settled)) =
    subst (λ (v : ListWorld). LeavesOnly mid new (IsAfterSome holds (item_of s ∷ more) v (said ++ texts_of settled))) (sym (final_is w settled ∙ is)) one in
    let three : LeavesOnly mid new (IsAfterSome holds (item_of s ∷ more) (final w (items_of settled)) (said ++ text_of (items_of settled))) =
    subst (λ (t : List ℕ). LeavesOnly mid new (IsAfterSome holds (item_of s ∷ more) (final w (items_of settled)) (said ++ t))) (sym (text_is settled)) two in
    subst (λ (items : List Item). LeavesOnly old new (IsAfterSome holds items w said)) (items_join settled s more)
    (runs_on holds (items_of settled) (item_of s ∷ more) w said old mid new (first (item_of s ∷ more)) three)
