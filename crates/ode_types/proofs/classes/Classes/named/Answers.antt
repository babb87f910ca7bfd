use Rattle.std.proofs.Common.{◌≡◌, ap, sym, ◌∙◌, rules}
use Rattle.std.specs.List.{slice_get}
use Rattle.std.specs.Option.{option_and_then}
use Rattle.std.specs.Str.{bytes_eq}
use Rattle.ode_value.specs.declared.class.Class.{Class}
use Rattle.ode_types.proofs.ClassLists.{find-position}
use Rattle.ode_types.proofs.classes.Classes.named.Goals as goal

pub returns-in-Some : goal.returns-in-Some
returns-in-Some c =
    let f = find-position (λ (x : Class). bytes_eq x.name c.args.name.now) c.args.self.now in
    let list : c.as_slice.result.now ≡ c.args.self.now = search rules in
    c.at.ensures ∙ ap (λ cs. slice_get cs c.in-Some.place) list ∙ ap (option_and_then (slice_get c.args.self.now)) (sym c.in-Some.is ∙ c.place_of.ensures) ∙ sym f

pub returns-in-None : goal.returns-in-None
returns-in-None c =
    let f = find-position (λ (x : Class). bytes_eq x.name c.args.name.now) c.args.self.now in
    ap (option_and_then (slice_get c.args.self.now)) (sym c.in-None.is ∙ c.place_of.ensures) ∙ sym f
