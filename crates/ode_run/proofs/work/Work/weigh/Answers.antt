use Rattle.std.proofs.Common.{rules, ◌≡◌, true, false}
use Rattle.std.specs.Prelude.{◌+ℤ◌, int_le, pos}
use Rattle.ode_overlay.specs.Settling.{growth_told}
use Rattle.ode_run.proofs.ChangeLaws.{heavy_is, light_is, told_by, told_is}
use Rattle.ode_run.proofs.work.Work.weigh.Goals as goal
use Rattle.ode_run.specs.Knowing.{beside}
use Rattle.ode_value.specs.Limits.{weight_limit}
use Rattle.ode_view_laws.specs.Viewing.{running}

pub returns-then-is_light-clause-acts : goal.returns-then-is_light-clause-acts
returns-then-is_light-clause-acts g c = λ k same holds.
    let b = beside k.first c.args.self.now.deferred.now c.args.self.now.text.now c.args.self.now.budget.now in
    let x = c.args.self.now.overlay.now in
    let y = running k.first.bones.classes k.first x b in
    let law = told_by x y k.first c.args.self.now.bytes c.args.classes.now same holds.bytes (c.worlds_known.ensures.light k.first b k.entries x holds.known) in
    let light : int_le (pos c.args.self.now.bytes +ℤ c.unwrap_or-grown.result) (pos weight_limit) ≡ true = search rules in
    light_is y c.args.self.now.bytes c.unwrap_or-grown.result (growth_told c.args.classes.now x) (told_is c.grown.result c.unwrap_or-grown.result (growth_told c.args.classes.now x) c.unwrap_or-grown.ensures c.grown.ensures.grows) law light

pub returns-else-is_light-clause-acts : goal.returns-else-is_light-clause-acts
returns-else-is_light-clause-acts g c = λ k same holds.
    let b = beside k.first c.args.self.now.deferred.now c.args.self.now.text.now c.args.self.now.budget.now in
    let x = c.args.self.now.overlay.now in
    let y = running k.first.bones.classes k.first x b in
    let law = told_by x y k.first c.args.self.now.bytes c.args.classes.now same holds.bytes (c.worlds_known.ensures.light k.first b k.entries x holds.known) in
    let heavy : int_le (pos c.args.self.now.bytes +ℤ c.unwrap_or-grown.result) (pos weight_limit) ≡ false = search rules in
    heavy_is y c.args.self.now.bytes c.unwrap_or-grown.result (growth_told c.args.classes.now x) (told_is c.grown.result c.unwrap_or-grown.result (growth_told c.args.classes.now x) c.unwrap_or-grown.ensures c.grown.ensures.grows) law heavy
