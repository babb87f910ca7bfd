-- A whole transaction over a file at rest, and a drain behind it.
use Rattle.std.proofs.Common.{◌≡◌, ◌+◌, ◌++◌, ◌∙◌, ℕ, suc, List, [], ◌∷◌, length, Bool, Option, Some, Result, Ok, Err, append-nil, append_assoc, ap, arith, refl, subst, sym}
use Rattle.std.specs.Prelude.{IfOk, OnOk}
use Rattle.ode_host.proofs.Moments.{joined}
use Rattle.ode_host.specs.Host.{LeavesOnly, Looks, Printed, Stands}
use Rattle.ode_host.specs.View.{View}
use Rattle.ode_keep.specs.Entries.{Entries}
use Rattle.ode_machine.proofs.MomentLaws.{runs_on, settling_leaves}
use Rattle.ode_machine.specs.Moments.{Holding, IsAfterSome, LeavesSettling}
use Rattle.ode_machine.specs.Runs.{Item, item_of}
use Rattle.ode_opened.specs.declared.opened.Opened.{Opened}
use Rattle.ode_transact.proofs.EndingLaws.{before_leaves, looks_leave, printed_behind}
use Rattle.ode_transact.specs.Items.{items_of, texts_of}
use Rattle.ode_transact.specs.Output.{all_heard, counting, heard, heard_of}
use Rattle.ode_transact.specs.Resting.{HoldsBy, IsAtRest}
use Rattle.ode_transact.specs.Settling.{Meaning}
use Rattle.ode_transact.specs.Working.{settled_by}
use Rattle.ode_transact.specs.declared.error.EngineError.{EngineError}
use Rattle.ode_transact.specs.declared.output.Output.{Output}
use Rattle.ode_good_laws.specs.Well.{IsWell}
use Rattle.ode_value.specs.Draining.{world_after}
use Rattle.ode_value.specs.Language.{Language, ListTx, ListWorld, Settlings}
use Rattle.ode_value.specs.Objects.{Histories, Starts}
use Rattle.ode_value.specs.Settling.{Settled}
use Rattle.ode_value.specs.declared.reason.Reason.{Reason}

-- what it settles, in the words of its ending
pub transact_done : {R : Type 0} (result : Result R EngineError) (At : ListWorld → R → Type 0) (l : Language) (quiet : Bool) (s : Settled Histories Starts) (ending : Option Reason) (t : ListTx) (old mid new : View) → s ≡ settled_by ending t
    → (IsWell l (settled_by ending t).0 → IfOk result (At (settled_by ending t).0)) → OnOk result (Printed (heard quiet (settled_by ending t).1) mid new) → Looks old mid → IsWell l s.0
    → IfOk result (At s.0) × OnOk result (Printed (heard quiet s.1) old new)
transact_done result At l quiet s ending t old mid new is done printed looks well =
    subst (λ (v : Settled Histories Starts). IfOk result (At v.0) × OnOk result (Printed (heard quiet v.1) old new)) (sym is)
    (done (subst (λ (v : Settled Histories Starts). IsWell l v.0) is well), printed_behind result (heard quiet (settled_by ending t).1) (heard quiet (settled_by ending t).1) old mid new looks refl printed)

module _ {H K : Type 0} (seen : H → View) (held : K → View → Entries → Type 0) (live : K → Bool) (means : Meaning)
    (stands : (k : K) (h : H) (entries : Entries) → held k (seen h) entries → (file : List ℕ) × Stands file (seen h) × means file entries)
    (text_stands : (h : H) (c o : List ℕ) → (seen h).left (seen h).moment c o → (seen h).text ≡ Some o)
    (l : Language) (w : ListWorld) (rest : Opened K) (old : H) (at : IsAtRest seen held live l w rest old) (well : IsWell l w) (s : Settled Histories Starts) (said : List ℕ) (is : (seen old).text ≡ Some said) where
  -- a stop before it settles
  pub transact_looks : (new : View) → Looks (seen old) new → LeavesOnly (seen old) new (LeavesSettling (HoldsBy l means) w s.0 said s.1)
  transact_looks new looks =
      looks_leave (seen old) new (LeavesSettling (HoldsBy l means) w s.0 said s.1)
      (before_leaves l means at.entries w s.0 said s.1 (seen old) (stands rest.keeper old at.entries at.records) (text_stands old) is at.world well.ones) looks

  -- or when it does
  pub transact_leaves : (ended : Settled Histories Starts) (mid new : View) → s ≡ ended → Looks (seen old) mid
      → LeavesOnly mid new (LeavesSettling (HoldsBy l means) w ended.0 said ended.1) → LeavesOnly (seen old) new (LeavesSettling (HoldsBy l means) w s.0 said s.1)
  transact_leaves ended mid new same looks run =
      joined (seen old) mid new (LeavesSettling (HoldsBy l means) w s.0 said s.1) (transact_looks mid looks)
      (subst (λ (v : Settled Histories Starts). LeavesOnly mid new (LeavesSettling (HoldsBy l means) w v.0 said v.1)) (sym same) run)

-- a settled transaction, and items behind it
pub moments_then : (holds : Holding) (s : Settled Histories Starts) (items : List Item) (w : ListWorld) (said : List ℕ) (old mid new : View) → LeavesOnly old mid (LeavesSettling holds w s.0 said s.1)
    → LeavesOnly mid new (IsAfterSome holds items s.0 (said ++ s.1)) → LeavesOnly old new (IsAfterSome holds (item_of s ∷ items) w said)
moments_then holds s items w said old mid new first second =
    runs_on holds (item_of s ∷ []) items w said old mid new (settling_leaves holds s.1 items w s.0 said old mid first)
    (subst (λ (t : List ℕ). LeavesOnly mid new (IsAfterSome holds items s.0 (said ++ t))) (sym (append-nil s.1)) second)

one_longer : (n ran : ℕ) → ran ≡ n → ran + 1 ≡ suc n
one_longer n ran is = omega (arith, is)

printed_then : (s : Settled Histories Starts) (settled : Settlings) (old mid new : View) → Printed s.1 old mid → Printed (texts_of settled) mid new → Printed (texts_of (s ∷ settled)) old new
printed_then s settled old mid new first second text is =
    second (text ++ s.1) (first text is) ∙ ap (λ (out : List ℕ). Some out) (append_assoc text s.1 (texts_of settled))

-- and a drain behind it, to the output that the transaction left
module _ (output mid_output : Output) (w : ListWorld) (s : Settled Histories Starts) (settled : Settlings) (old mid new : View) (counts : mid_output ≡ counting output s.1) where
  -- which is as quiet
  as_quiet : mid_output.quiet ≡ output.quiet
  as_quiet = ap (λ (o : Output). o.quiet) counts

  drained_heard : Printed (texts_of (all_heard mid_output.quiet settled)) mid new → Printed (texts_of (all_heard output.quiet settled)) mid new
  drained_heard printed = subst (λ (quiet : Bool). Printed (texts_of (all_heard quiet settled)) mid new) as_quiet printed

  pub drain_then : {K : Type 0} (result : Result (K × ℕ) EngineError) (At : ListWorld → K → Type 0) → Printed (heard output.quiet s.1) old mid
      → IfOk result (λ r. At (world_after s.0 settled) r.0 × (r.1 ≡ length settled)) × OnOk result (Printed (texts_of (all_heard mid_output.quiet settled)) mid new)
      → IfOk result (λ r. At (world_after w (s ∷ settled)) r.0 × (r.1 + 1 ≡ length (s ∷ settled))) × OnOk result (Printed (texts_of (all_heard output.quiet (s ∷ settled))) old new)
  drain_then (Ok r) At printed done =
      ((done.0.0, one_longer (length settled) r.1 done.0.1), printed_then (heard_of output.quiet s) (all_heard output.quiet settled) old mid new printed (drained_heard done.1))
  drain_then (Err why) At printed done = (tt, tt)

  pub drain_leaves : (holds : Holding) (more : List Item) (said : List ℕ) → LeavesOnly old mid (LeavesSettling holds w s.0 said (heard output.quiet s.1))
      → LeavesOnly mid new (IsAfterSome holds (items_of (all_heard mid_output.quiet settled) ++ more) s.0 (said ++ heard output.quiet s.1))
      → LeavesOnly old new (IsAfterSome holds (items_of (all_heard output.quiet (s ∷ settled)) ++ more) w said)
  drain_leaves holds more said first second =
      moments_then holds (heard_of output.quiet s) (items_of (all_heard output.quiet settled) ++ more) w said old mid new first
      (subst (λ (quiet : Bool). LeavesOnly mid new (IsAfterSome holds (items_of (all_heard quiet settled) ++ more) s.0 (said ++ heard output.quiet s.1))) as_quiet second)
