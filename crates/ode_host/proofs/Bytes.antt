-- What writes do to a list of bytes.
pub use Rattle.ode_host.specs.Writing.{length-written_over, same_part, torn_apart, torn_outside, written-torn, wrote_here}
