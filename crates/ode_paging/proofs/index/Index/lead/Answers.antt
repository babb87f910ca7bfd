use Rattle.std.proofs.Common.{◌≡◌, ℕ, Bool, true, false, Option, Some, None, refl, ap, subst, ◌∙◌}
use Rattle.std.specs.Prelude.{IsTrue, not}
use Rattle.std.specs.BTreeMap.{is_at}
use Rattle.std.specs.Map.{lookup}
use Rattle.std.specs.Option.{is_some}
use Rattle.ode_value.specs.Keys.{key_cmp}
use Rattle.ode_paging.specs.Indexing.{Leads}
use Rattle.ode_paging.proofs.index.Index.lead.Goals as goal

none_told : (found : Option ℕ) (b : Bool) → is_some found ≡ not b → (IsTrue b → found ≡ None) × (found ≡ None → IsTrue b)
none_told None true told = (λ yes. refl, λ none. refl)
none_told None false told = absurd (cc (told))
none_told (Some page) true told = absurd (cc (told))
none_told (Some page) false told = (λ yes. absurd (cc (yes)), λ none. absurd (cc (none)))

pub returns-clause-new : goal.returns-clause-new
returns-clause-new c =
    let old : c.in_ok-old.old ≡ lookup (is_at (key_cmp c.args.key)) c.args.self.now =
    c.in_ok-old.ensures.old ∙ ap (λ (l : Leads). lookup (is_at (key_cmp c.args.key)) l) c.self.view_is in
    subst (λ (found : Option ℕ). (IsTrue c.is_none.result → found ≡ None) × (found ≡ None → IsTrue c.is_none.result)) old
    (none_told c.in_ok-old.old c.is_none.result c.is_none.ensures)
