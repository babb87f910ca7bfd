-- What is left of a settled transaction over records.
use Rattle.std.proofs.Common.{◌≡◌, ◌≤◌, ◌-ℤ◌, ℕ, pos, List, ◌++◌, map, refl, sym, ap, subst, ◌∙◌, arith}
use Rattle.std.proofs.lemmas.Bool.Decides.{nat_tests}
use Rattle.std.proofs.lemmas.Int.{ints}
use Rattle.std.specs.List.{AllByRecursion}
use Rattle.std.specs.Prelude.{◌+ℤ◌, ◌+◌}
use Rattle.ode_codec.specs.Standing.{HoldsWorld}
use Rattle.ode_heap.specs.Answering.{class_of}
use Rattle.ode_heap_laws.specs.Few.{HasFewParts, HoldsCounted}
use Rattle.ode_keep.specs.Entries.{Entries}
use Rattle.ode_laws.specs.Alike.{NumberTx, NumberWorld, SettledAs}
use Rattle.ode_overlay.specs.Layers.{Layer}
use Rattle.ode_overlay.specs.Settling.{bytes_after, bytes_before, growth, growth_told, within}
use Rattle.ode_settled_laws.specs.Holding.{SettledOver}
use Rattle.ode_value.specs.GoodWorlds.{IsGood}
use Rattle.ode_value.specs.Keeping.{kept_bones}
use Rattle.ode_value.specs.Language.{Language, ListWorld}
use Rattle.ode_value.specs.Limits.{weight_limit}
use Rattle.ode_value.specs.Objects.{Histories, Starts}
use Rattle.ode_value.specs.Records.{Row}
use Rattle.ode_value.specs.Settling.{Settled, ends_with}
use Rattle.ode_value.specs.Tables.{Table}
use Rattle.ode_value.specs.Weights.{weight}
use Rattle.ode_value.specs.Worlds.{Bones, Declared}
use Rattle.ode_value.specs.declared.class.Class.{Class}
use Rattle.ode_view_laws.specs.Viewing.{Beside, running, world_now}

-- ---- growth

balanced : (w f a b : ℕ) → pos a -ℤ pos b ≡ pos w -ℤ pos f → a + f ≡ w + b
balanced w f a b is = omega (arith, ints)

-- what is light is told as it is
told : (n : ℕ) → n ≤ weight_limit → within n ≡ n
told n light = grind (arith, nat_tests)

told_grows : (w f a b : ℕ) → pos a -ℤ pos b ≡ pos w -ℤ pos f → b ≤ f → f ≤ weight_limit → w ≤ weight_limit → pos f +ℤ (pos (within a) -ℤ pos (within b)) ≡ pos w
told_grows w f a b is less first light =
    let sum = balanced w f a b is in
    let after = told a (omega (arith, sum, less, light)) in
    let before = told b (omega (arith, less, first)) in
    subst (λ (n : ℕ). pos f +ℤ (pos n -ℤ pos (within b)) ≡ pos w) (sym after)
    (subst (λ (n : ℕ). pos f +ℤ (pos a -ℤ pos n) ≡ pos w) (sym before) (omega (arith, ints, sum)))

-- ---- what is left

-- the first world's classes are those of the view
view_classes : (first : NumberWorld) (now : Layer) (new : Beside) → (running first.bones.classes first now new).now.bones.classes ≡ first.bones.classes
unfolding world_now
view_classes first now new = refl

module _ (l : Language) (base : Entries) (v : ListWorld) (held : HoldsCounted l base v) (now : Layer) (new : Beside) (line : ℕ → List ℕ) where
  abbrev first : NumberWorld
  first = held.world.stored.world

  abbrev tables : ℕ → ℕ → Table
  tables = held.world.stored.tables

  -- its classes
  abbrev kinds : List Class
  kinds = map class_of first.bones.classes

  abbrev view : NumberTx
  view = running first.bones.classes first now new

  -- where the same is left by state numbers
  module _ (s : Settled Histories Starts) (n : Settled (Unit {0}) ℕ) (alike : SettledAs tables n s) (ends : n ≡ ends_with (line first.bones.transaction) view) where
    prints : s.1 ≡ new.text ++ line v.bones.transaction
    prints = sym alike.text ∙ ap (λ (m : Settled (Unit {0}) ℕ). m.1) ends ∙ ap (λ (b : Bones). new.text ++ line b.transaction) held.world.stands.bones

    classes : v.bones.classes ≡ s.0.bones.classes
    classes =
        ap (λ (b : Bones). b.classes) (sym held.world.stands.bones) ∙ sym (view_classes first now new)
        ∙ sym (ap (λ (m : Settled (Unit {0}) ℕ). m.0.bones.classes) ends) ∙ ap (λ (b : Bones). b.classes) alike.world.stands.bones

    -- it weighs what a commit keeps of the view, as the numbers of a settling weigh nothing
    weighs : weight (kept_bones view.now.bones) ≡ weight s.0.bones
    unfolding weight
    weighs = sym (ap (λ (m : Settled (Unit {0}) ℕ). weight m.0.bones) ends) ∙ ap (λ (b : Bones). weight b) alike.world.stands.bones

    first_weighs : weight first.bones ≡ weight v.bones
    first_weighs = ap (λ (b : Bones). weight b) held.world.stands.bones

    grows : growth kinds now ≡ pos (weight (kept_bones view.now.bones)) -ℤ pos (weight first.bones) → bytes_before kinds now ≤ weight first.bones → IsGood l s.0
        → pos (weight v.bones) +ℤ growth_told kinds now ≡ pos (weight s.0.bones)
    grows is less good =
        subst (λ (n : ℕ). pos n +ℤ growth_told kinds now ≡ pos (weight s.0.bones)) first_weighs
        (told_grows (weight s.0.bones) (weight first.bones) (bytes_after kinds now) (bytes_before kinds now) (is ∙ ap (λ (n : ℕ). pos n -ℤ pos (weight first.bones)) weighs) less
        (subst (λ (n : ℕ). n ≤ weight_limit) (sym first_weighs) held.world.good.bones.light) good.bones.light)

    pub settled_over : (records : List Row) → (IsGood l s.0 → (after : HoldsWorld l records s.0) × (after.stored.tables ≡ tables))
        → growth kinds now ≡ pos (weight (kept_bones view.now.bones)) -ℤ pos (weight first.bones) → bytes_before kinds now ≤ weight first.bones
        → SettledOver l tables v (growth_told kinds now) records new.text (line v.bones.transaction) s
    settled_over records holds is less = record {
      prints = prints;
      classes = sym classes;
      grows = grows is less;
      holds = λ good. let after = holds good in record {
        held = record { world = after.0; few = subst (λ (cs : List Declared). AllByRecursion HasFewParts cs) classes held.few };
        by = after.1;
      };
    }
