-- What holds behind a call that is done.
use Rattle.std.specs.Prelude.{Ok, Err}
use Rattle.ode_laws.specs.Alike.{NumberTx, NumberWorld}
use Rattle.ode_overlay.specs.Answers.{Answer}
use Rattle.ode_overlay.specs.Layers.{Layer}
use Rattle.ode_overlay_laws.specs.Following.{Continues}
use Rattle.ode_overlay_laws.specs.Standing.{Stands}
use Rattle.ode_version_laws.specs.Denoting.{HaveVersions}
use Rattle.ode_version_laws.specs.Remembering.{Remembers}

abbrev pub IfDone : {R : Type 0} → (Layer → Type 0) → Answer (R × Layer) → Type 0
IfDone P (Ok done) = P done.1
IfDone P (Err why) = Unit {0}

-- the overlay remembers what objects were
abbrev pub StillRemembers : {R : Type 0} → NumberWorld → Answer (R × Layer) → Type 0
StillRemembers w answer = IfDone (λ (x : Layer). Remembers x.objects w) answer

-- each object has versions in every transaction that goes on and for which the overlay stands
abbrev pub StillHaveVersions : {R : Type 0} → NumberTx → Answer (R × Layer) → Type 0
StillHaveVersions y answer = IfDone (λ (x : Layer). (z : NumberTx) → Stands x z → Continues y z → HaveVersions z.now.bones) answer
