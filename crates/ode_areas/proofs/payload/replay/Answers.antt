use Rattle.std.proofs.Common.{◌≡◌, ◌++◌, true, false, List, [], ◌∷◌, ℕ, length, drop, refl, sym, ap, ◌∙◌, arith}
use Rattle.std.proofs.lemmas.List.{take-append-drop}
use Rattle.std.specs.Prelude.{◌==◌}
use Rattle.std.proofs.lemmas.Bool.{OnFalse_from, OnTrue_from, eqb-true}
use Rattle.std.specs.Int.{w32, to_be_bytes}
use Rattle.std.specs.Option.{option_map}
use Rattle.ode_keep.specs.Entries.{applied}
use Rattle.ode_keep.specs.Payloads.{FitsChange, change_bytes}
use Rattle.ode_value.specs.Keys.{key_cmp}
use Rattle.ode_keep.proofs.Counted.{all_taken, none_taken, not_other, nothing_left}
use Rattle.ode_keep.proofs.Firsts.{same_change_first}
use Rattle.ode_areas.proofs.Loading.{made_more}
use Rattle.ode_areas.proofs.payload.replay.Goals as goal

empty_from : (l : List ℕ) → (length l == 0) ≡ true → l ≡ []
empty_from [] is = refl
empty_from (x ∷ l) is = let zero : length (x ∷ l) ≡ 0 = eqb-true (length (x ∷ l)) 0 is in absurd (omega (arith, zero))

not_empty : (l : List ℕ) → (length l == 0) ≡ false → length l ≡ 0 → ⊥
not_empty [] is none = cc (is)
not_empty (x ∷ l) is none = absurd (omega (arith, none))

pub changes-init : goal.changes-init
changes-init c =
    none_taken change_bytes FitsChange key_cmp applied c.args.payload.now c.in-Some.count c.args.map.now c.split_at.result.1.now refl
    (sym (take-append-drop 4 c.args.payload.now) ∙ ap (λ (l : List ℕ). l ++ drop 4 c.args.payload.now) (sym c.in-Some.ensures.spelled)
    ∙ ap (λ (l : List ℕ). to_be_bytes w32 c.in-Some.count ++ l) (sym c.split_at.ensures.back))

pub returns-in_default-next_change-clause-other : goal.returns-in_default-next_change-clause-other
returns-in_default-next_change-clause-other c changes form =
    not_other change_bytes FitsChange key_cmp applied c.args.payload.now c.in-Some.count c.changes.made c.args.map.now c.changes.map c.changes.rest.now c.changes.last c.changes.invariant
    same_change_first (omega (arith, c.in-Some.ensures)) changes form c.changes-test.true
    (rw c.in_default-next_change.is at c.next_change.ensures.none)

pub changes-preserved : goal.changes-preserved
changes-preserved c =
    let change = c.in-Some-next_change.change in
    made_more c.args.payload.now c.in-Some.count c.changes.made c.args.map.now c.changes.map c.changes.rest.now c.changes.last c.changes.invariant
    (change.key, option_map (λ v. v.now) change.value) change.rest.now c.make.new.map
    c.in-Some-next_change.ensures.some.0 c.in-Some-next_change.ensures.follows c.in-Some-next_change.ensures.some.1
    c.in_ok-make.ensures.ok c.changes-test.true

pub returns-clause-whole : goal.returns-clause-whole
returns-clause-whole c =
    let so_far = c.changes.invariant in
    let all : c.changes.made ≡ c.in-Some.count = omega (arith, so_far.within, c.changes-test.false) in
    OnTrue_from c.is_empty.result _ (λ (empty : c.is_empty.result ≡ true). (
      so_far.done,
      all_taken change_bytes FitsChange key_cmp applied c.args.payload.now c.in-Some.count c.changes.made c.args.map.now c.changes.map c.changes.rest.now c.changes.last so_far (omega (arith, c.in-Some.ensures)) all (empty_from c.changes.rest.now (sym c.is_empty.ensures ∙ empty)),
      so_far.state,
    ))

pub returns-clause-other : goal.returns-clause-other
returns-clause-other c =
    let so_far = c.changes.invariant in
    let all : c.changes.made ≡ c.in-Some.count = omega (arith, so_far.within, c.changes-test.false) in
    OnFalse_from c.is_empty.result _ (λ (some : c.is_empty.result ≡ false) changes form.
    let none = nothing_left change_bytes FitsChange key_cmp applied c.args.payload.now c.in-Some.count c.changes.made c.args.map.now c.changes.map c.changes.rest.now c.changes.last so_far same_change_first (omega (arith, c.in-Some.ensures)) changes form all in
    not_empty c.changes.rest.now (sym c.is_empty.ensures ∙ some) none)
