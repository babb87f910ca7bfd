-- The text of a kind, and of the masks that hold at a number, one after the other.
use Rattle.std.proofs.Common.{◌≡◌, ◌+◌, ◌-◌, ◌/◌, ◌%◌, ◌<◌, ◌++◌, ℕ, zero, suc, [], refl, ap, ◌∙◌, arith, None}
use Rattle.std.specs.Prelude.{◌==◌}
use Rattle.std.proofs.lemmas.List.{append-nil}
use Rattle.ode_value.specs.declared.event.EventExpr.TheVariants.{Leaf}
use Rattle.ode_value.specs.declared.event.Kind.{Kind}
use Rattle.ode_value.specs.Printing.{Printed, event_text, kind_text}
use Rattle.ode_value.proofs.PrintLaws.{event-Leaf}
use Rattle.ode_same.specs.Texts.{mask_text, masks_text}

-- a leaf without a mask is printed as its kind
pub leaf_text : (kind : Kind) → event_text (Leaf kind None) ≡ kind_text kind
leaf_text kind = ap (λ (p : Printed). p.text) (event-Leaf kind) ∙ append-nil (kind_text kind)

pub no_masks : (place n : ℕ) → masks_text zero place n ≡ []
unfolding masks_text
no_masks place n = refl

more_masks : (more place n : ℕ) → masks_text (suc more) place n ≡ mask_text (n % 2 == 1) place ++ masks_text more (place + 1) (n / 2)
unfolding masks_text
more_masks more place n = refl

-- the next one
pub one_more : (place n : ℕ) → place < 8 → masks_text (8 - place) place n ≡ mask_text (n % 2 == 1) place ++ masks_text (8 - (place + 1)) (place + 1) (n / 2)
one_more place n low = let left : 8 - place ≡ suc (8 - (place + 1)) = omega arith in ap (λ k. masks_text k place n) left ∙ more_masks (8 - (place + 1)) place n
