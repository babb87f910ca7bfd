use Rattle.ode_language.specs.Languages.{ode}
use Rattle.ode_sessions.proofs.SpokenLaws.{spoken_text}
use Rattle.ode_sessions.specs.Speaking.{spoken}
use Rattle.ode_sessions.proofs.serial.sessions_settle_serially.Goals as goal

pub returns : goal.returns
returns c image script w holds =
    c.runs_of_sessions_are_serial.ensures spoken spoken_text w
    (record { good = holds.held.world.good; sound = c.runs_stay_good.ensures.sound ode c.language_has_sound_rules.ensures w holds.held.world.good; ones = holds.held.ones })
    script
