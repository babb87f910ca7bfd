-- Images of a payload that are laid one after another.
use Rattle.std.proofs.Common.{◌≡◌, ◌<◌, ℕ, ◌+◌, List, [], ◌∷◌, ◌++◌, Option, Some, refl, sym, ◌∙◌, ap}
use Rattle.std.proofs.lemmas.Cmp.{nat_cmp_total}
use Rattle.std.specs.BTreeMap.{insert_entry}
use Rattle.std.specs.Ordering.{nat_cmp}
use Rattle.ode_keep.proofs.Counted.{AreTakenInTurn, one_more_taken}
use Rattle.ode_keep.specs.Rising.{MayFollow}
use Rattle.ode_paging.specs.Images.{FitsImage, Image, image_bytes}
use Rattle.ode_paging.specs.Overlays.{laid}

-- of a payload these images were read and laid
abbrev pub IsLaid : List ℕ → ℕ → ℕ → List Image → List Image → List ℕ → Option ℕ → Type 0
IsLaid = AreTakenInTurn image_bytes FitsImage nat_cmp laid

laid-push : (over : List Image) (i : Image) (images : List Image) → laid (over ++ i ∷ []) images ≡ insert_entry nat_cmp (laid over images) i.0 i.1
laid-push [] i images = refl
laid-push (j ∷ over) i images = laid-push over i (insert_entry nat_cmp images j.0 j.1)

module _ (payload : List ℕ) (count made : ℕ) (old images : List Image) (rest : List ℕ) (last : Option ℕ) (is : IsLaid payload count made old images rest last) where
  pub laid_more : (i : Image) (more : List ℕ) (next : List Image) → FitsImage i → MayFollow nat_cmp last i.0 → rest ≡ image_bytes i ++ more → next ≡ insert_entry nat_cmp images i.0 i.1
      → made < count → IsLaid payload count (made + 1) old next more (Some i.0)
  laid_more i more next fits after begins change =
      one_more_taken image_bytes FitsImage nat_cmp laid payload count made old images rest last is nat_cmp_total i more next fits after begins
      (change ∙ ap (λ (m : List Image). insert_entry nat_cmp m i.0 i.1) is.state ∙ sym (laid-push is.done i old))
