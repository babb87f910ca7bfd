use Rattle.std.proofs.Common.{◌≡◌, ◌∷◌, List, ℕ, Option, ◌∙◌, ap, sym}
use Rattle.std.specs.BTreeMap.{insert_entry}
use Rattle.ode_keep.specs.Batches.{changes_of}
use Rattle.ode_keep.specs.Entries.{Changes, Entries, applied}
use Rattle.ode_value.specs.Keys.{key_cmp}
use Rattle.ode_areas.specs.Puts.{puts}
use Rattle.ode_areas.proofs.Splitting.{led_one_more, led_same}
use Rattle.ode_areas.proofs.changing.put_all.Goals as goal

pub loop-change-preserved-in-Continue-branch-2 : goal.loop-change-preserved-in-Continue-branch-2
loop-change-preserved-in-Continue-branch-2 c =
    let es = c.loop-change.records in
    let next = changes_of c.next.new.self.rest.now in
    let key = c.in-Some.change.now.key in
    let copied : c.in_ok-copy.copy ≡ c.in-Some-value.value = c.in_ok-copy.ensures ∙ c.as_slice.ensures in
    record {
      ahead =
          ap (λ (l : Entries). applied (puts next) l) (c.in_ok-put_noted.ensures.put ∙ ap (λ (v : List ℕ). insert_entry key_cmp es key v) copied)
          ∙ ap (λ (l : Changes). applied (puts l) es) (sym (ap changes_of c.in-Some.ensures.steps ∙ ap (λ (w : Option (List ℕ)). (key, w) ∷ next) c.in-Some-value.is))
          ∙ c.loop-change.invariant.ahead;
      back = λ old led.
          led_one_more key c.in_ok-copy.copy c.loop-change.notes.items c.put_noted.new.notes.items es c.put_noted.new.records old c.in_ok-put_noted.ensures.rising
          c.in_ok-put_noted.ensures.noted c.in_ok-put_noted.ensures.put (c.loop-change.invariant.back old led);
    }

pub returns-in_err-put_noted-clause-back : goal.returns-in_err-put_noted-clause-back
returns-in_err-put_noted-clause-back c = λ old led.
    led_same c.loop-change.notes.items c.put_noted.new.notes.items c.loop-change.records c.put_noted.new.records old
    c.in_err-put_noted.ensures.no_note c.in_err-put_noted.ensures.same (c.loop-change.invariant.back old led)
