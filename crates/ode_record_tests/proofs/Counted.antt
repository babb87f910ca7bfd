-- A record that keeps its numbers and lengths has a spelling.
use Rattle.std.proofs.Common.{ℕ, List}
use Rattle.ode_codec.specs.Rules.{IsCounted, IsKept}
use Rattle.ode_codec.specs.declared.record.Record.{Record}
use Rattle.ode_codec.specs.declared.record.Record.TheVariants as of

pub counted : (r : Record) → IsKept r → IsCounted r
unfolding IsKept IsCounted
counted (of.Counters c) kept = tt
counted (of.ClassHead class name parent text_length triggers) kept = tt
counted (of.ClassPiece class piece bytes) kept = tt
counted (of.TableHead class trigger states symbols) kept = tt
counted (of.TablePiece class trigger piece bytes) kept = tt
counted (of.Object object class last) kept = tt
counted (of.Version object number parent stamp fields) kept = kept.0
counted (of.Activation a) kept = tt
counted (of.Entry number e) kept = tt
counted (of.Added class birth name sort refers literal) kept = tt
