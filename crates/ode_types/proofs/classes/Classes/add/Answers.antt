use Rattle.std.proofs.Common.{◌≡◌, List, [], ◌∷◌, ◌++◌, rules, refl, ap, sym, subst, ◌∙◌}
use Rattle.std.specs.Cmp.Lexicographic.{slice_cmp}
use Rattle.std.specs.Ordering.{nat_cmp}
use Rattle.std.specs.List.{remove}
use Rattle.ode_value.specs.declared.class.Class.{Class}
use Rattle.ode_types.specs.Checked.{AreChecked}
use Rattle.ode_types.proofs.CheckedClasses.{checked-next}
use Rattle.ode_types.proofs.CheckedLists.{more_checked}
use Rattle.ode_types.proofs.Places.{added, kept, remove-last}
use Rattle.ode_types.proofs.classes.Classes.add.Goals as goal

pub invariant_of-self-in-Ok : goal.invariant_of-self-in-Ok
invariant_of-self-in-Ok c =
    let checked : AreChecked c.push.new.self = more_checked c.self.inside.list c.args.class c.push.new.self (search rules) (c.self.invariant.2) (search rules) in
    let two = added (λ k. k.items) (λ k l. slice_cmp nat_cmp k.items l.items) (λ k l. refl) c.self.inside.list c.args.class c.self.inside.places.entries c.in_ok-name.name c.len-place.result c.push.new.self c.put.new.places.entries
    (checked-next c.self.inside.list c.args.class (search rules)) (search rules) (search rules) (search rules) (search rules) (c.self.invariant.0, c.self.invariant.1) in
    (two.0, two.1, checked)

pub invariant_of-self-in-Err : goal.invariant_of-self-in-Err
invariant_of-self-in-Err c =
    let same : c.drop_at.new.classes ≡ c.self.inside.list = c.drop_at.ensures ∙ ap (λ (cs : List Class). remove cs c.len-place.result) c.in_ok-push.ensures.ok ∙ ap (remove (c.self.inside.list ++ c.args.class ∷ [])) c.len-place.ensures ∙ remove-last c.self.inside.list c.args.class in
    let under : c.put.new.places.entries ≡ c.self.inside.places.entries = c.in-Err.ensures.err in
    let two = kept (λ k. k.items) (λ k l. slice_cmp nat_cmp k.items l.items) (λ k l. refl) c.self.inside.list c.self.inside.places.entries c.drop_at.new.classes c.put.new.places.entries same under (c.self.invariant.0, c.self.invariant.1) in
    (two.0, two.1, subst AreChecked (sym same) c.self.invariant.2)

pub returns-in-Err-clause-err : goal.returns-in-Err-clause-err
returns-in-Err-clause-err c =
    c.drop_at.ensures ∙ ap (λ (cs : List Class). remove cs c.len-place.result) c.in_ok-push.ensures.ok ∙ ap (remove (c.self.inside.list ++ c.args.class ∷ [])) c.len-place.ensures ∙ remove-last c.self.inside.list c.args.class ∙ c.self.view_is
