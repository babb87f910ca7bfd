use Rattle.std.proofs.Common.{◌≡◌, ◌+◌, ◌-◌, ◌/◌, ◌%◌, ◌++◌, append_assoc, append-nil, ap, sym, ◌∙◌, arith}
use Rattle.std.specs.Prelude.{◌==◌}
use Rattle.ode_same.specs.Texts.{mask_text, masks_text}
use Rattle.ode_same.proofs.TextLaws.{no_masks, one_more}
use Rattle.ode_same.proofs.text.put_masks.Goals as goal

pub loop-place-preserved : goal.loop-place-preserved
loop-place-preserved c =
    let left = c.loop-place.left in
    let place = c.loop-place.place in
    ap (λ out. out ++ masks_text (8 - (place + 1)) (place + 1) (left / 2)) c.in_ok-put_mask.ensures
    ∙ append_assoc c.loop-place.out.items (mask_text (left % 2 == 1) place) (masks_text (8 - (place + 1)) (place + 1) (left / 2))
    ∙ ap (λ rest. c.loop-place.out.items ++ rest) (sym (one_more place left (omega arith)))
    ∙ c.loop-place.invariant

pub returns : goal.returns
returns c =
    let out = c.loop-place.out.items in
    let place = c.loop-place.place in
    let left = c.loop-place.left in
    let done : 8 - place ≡ 0 = omega arith in
    sym (append-nil out) ∙ ap (λ rest. out ++ rest) (sym (ap (λ k. masks_text k place left) done ∙ no_masks place left)) ∙ c.loop-place.invariant
