use Rattle.std.proofs.Common.{◌≡◌, ap, sym, ◌∙◌, Some, rules, FitsSigned, w64}
use Rattle.std.specs.Option.{option_map}
use Rattle.std.proofs.lemmas.Int.{to_z-of_z}
use Rattle.ode_timer.specs.Dates.{instant_of, second_of}
use Rattle.ode_timer.proofs.calendar.instant.Goals as goal

pub returns-in-Some : goal.returns-in-Some
unfolding instant_of
returns-in-Some c =
    let fits : FitsSigned w64 c.second_of.result = search rules in
    let second : Some c.second_of.result ≡ instant_of c.args.text.now = ap Some c.second_of.ensures ∙ ap (option_map second_of) (sym c.in-Some.is ∙ c.date_of.ensures.date) in
    simp to_z-of_z second

pub returns-in-None : goal.returns-in-None
unfolding instant_of
returns-in-None c = ap (option_map second_of) (sym c.in-None.is ∙ c.date_of.ensures.date)
