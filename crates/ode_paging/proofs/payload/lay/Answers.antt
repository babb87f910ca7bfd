use Rattle.std.proofs.Common.{◌≡◌, ◌++◌, true, false, List, [], ◌∷◌, ℕ, length, drop, refl, sym, ap, ◌∙◌, arith}
use Rattle.std.proofs.lemmas.List.{take-append-drop}
use Rattle.std.specs.Prelude.{◌==◌}
use Rattle.std.proofs.lemmas.Bool.{OnFalse_from, OnTrue_from, eqb-true}
use Rattle.std.specs.BTreeMap.{insert_entry}
use Rattle.std.specs.Int.{w32, to_be_bytes}
use Rattle.std.specs.Ordering.{nat_cmp}
use Rattle.ode_keep.proofs.Counted.{all_taken, none_taken, not_other, nothing_left}
use Rattle.ode_paging.specs.Images.{FitsImage, image_bytes}
use Rattle.ode_paging.specs.Overlays.{laid}
use Rattle.ode_paging.specs.Spelling.{same_image_first}
use Rattle.ode_paging.proofs.Laying.{laid_more}
use Rattle.ode_paging.proofs.payload.lay.Goals as goal

empty_from : (l : List ℕ) → (length l == 0) ≡ true → l ≡ []
empty_from [] is = refl
empty_from (x ∷ l) is = let zero : length (x ∷ l) ≡ 0 = eqb-true (length (x ∷ l)) 0 is in absurd (omega (arith, zero))

not_empty : (l : List ℕ) → (length l == 0) ≡ false → length l ≡ 0 → ⊥
not_empty [] is none = cc (is)
not_empty (x ∷ l) is none = absurd (omega (arith, none))

pub images-init : goal.images-init
images-init c =
    none_taken image_bytes FitsImage nat_cmp laid c.args.payload.now c.in-Some.count c.args.images.now c.split_at.result.1.now refl
    (sym (take-append-drop 4 c.args.payload.now) ∙ ap (λ (l : List ℕ). l ++ drop 4 c.args.payload.now) (sym c.in-Some.ensures.spelled)
    ∙ ap (λ (l : List ℕ). to_be_bytes w32 c.in-Some.count ++ l) (sym c.split_at.ensures.back))

pub returns-in_default-next_image-clause-other : goal.returns-in_default-next_image-clause-other
returns-in_default-next_image-clause-other c over form =
    not_other image_bytes FitsImage nat_cmp laid c.args.payload.now c.in-Some.count c.images.made c.args.images.now c.images.images c.images.rest.now c.images.last c.images.invariant
    same_image_first (omega (arith, c.in-Some.ensures)) over form c.images-test.true
    (rw c.in_default-next_image.is at c.next_image.ensures.none)

pub images-preserved : goal.images-preserved
images-preserved c =
    let image = c.in-Some-next_image.image in
    laid_more c.args.payload.now c.in-Some.count c.images.made c.args.images.now c.images.images c.images.rest.now c.images.last c.images.invariant
    (image.page, image.used.now) image.rest.now c.put.new.self
    c.in-Some-next_image.ensures.some.0 c.in-Some-next_image.ensures.follows c.in-Some-next_image.ensures.some.1
    (c.in_ok-put.ensures.ok ∙ ap (λ (v : List ℕ). insert_entry nat_cmp c.images.images image.page v) c.in_ok-used.ensures) c.images-test.true

pub returns-clause-whole : goal.returns-clause-whole
returns-clause-whole c =
    let so_far = c.images.invariant in
    let all : c.images.made ≡ c.in-Some.count = omega (arith, so_far.within, c.images-test.false) in
    OnTrue_from c.is_empty.result _ (λ (empty : c.is_empty.result ≡ true). (
      so_far.done,
      all_taken image_bytes FitsImage nat_cmp laid c.args.payload.now c.in-Some.count c.images.made c.args.images.now c.images.images c.images.rest.now c.images.last so_far (omega (arith, c.in-Some.ensures)) all (empty_from c.images.rest.now (sym c.is_empty.ensures ∙ empty)),
      so_far.state,
    ))

pub returns-clause-other : goal.returns-clause-other
returns-clause-other c =
    let so_far = c.images.invariant in
    let all : c.images.made ≡ c.in-Some.count = omega (arith, so_far.within, c.images-test.false) in
    OnFalse_from c.is_empty.result _ (λ (some : c.is_empty.result ≡ false) over form.
    let none = nothing_left image_bytes FitsImage nat_cmp laid c.args.payload.now c.in-Some.count c.images.made c.args.images.now c.images.images c.images.rest.now c.images.last so_far same_image_first (omega (arith, c.in-Some.ensures)) over form all in
    not_empty c.images.rest.now (sym c.is_empty.ensures ∙ some) none)
