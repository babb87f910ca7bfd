use Rattle.std.proofs.Common.{◌≡◌, ◌-◌, ◌++◌}
use Rattle.ode_same.specs.Texts.{masks_text}
use Rattle.ode_same.proofs.text.put_masks.Given as goal

-- the masks so far, and those of what is left, are all
abbrev pub invariant-loop-place : goal.invariant-loop-place
invariant-loop-place l = l.out.items ++ masks_text (8 - l.place) l.place l.left ≡ l.fn.out.items ++ masks_text 8 0 l.number
