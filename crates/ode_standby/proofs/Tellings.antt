-- The next number, as a record tells it that may be there.
use Rattle.std.proofs.Common.{ℕ, Option}
use Rattle.ode_codec.specs.Formats.{◌>>=◌}
use Rattle.ode_codec.specs.declared.record.Record.{Record}
use Rattle.ode_ship.specs.Frames.{next_in}

abbrev pub told_by : Option Record → Option ℕ
told_by r = r >>= next_in
