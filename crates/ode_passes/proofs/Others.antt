-- Records under keys that aren't those of the counters.
use Rattle.std.proofs.Common.{◌≡◌, ℕ, List, true, false, Option, Some, None, Ok, refl, ap, arith}
use Rattle.std.specs.Prelude.{◌==◌}
use Rattle.std.specs.Option.{is_some}
use Rattle.std.proofs.lemmas.Bool.Decides.{nat_tests}
use Rattle.ode_codec.specs.Reading.{record_under}
use Rattle.ode_codec.specs.Spelling.{key_of, spelled}
use Rattle.ode_codec.specs.declared.record.Counters.{Counters}
use Rattle.ode_codec.specs.declared.record.Record.{Record}
use Rattle.ode_codec.specs.declared.record.Record.TheVariants as of
use Rattle.ode_value.specs.Keys.{counters_kind}
use Rattle.ode_value.specs.declared.key.Key.{Key}
use Rattle.ode_passes.specs.Rules.{◌>>=◌, found}
use Rattle.ode_passes.specs.Tally.{counters_behind, counters_or}
use Rattle.ode_passes.specs.declared.cause.Cause.{Cause}
use Rattle.ode_passes.specs.declared.cause.Cause.TheVariants as cause

-- a key has one kind
no_counters : (k : Key) → k.kind ≡ counters_kind → (k.kind == counters_kind) ≡ false → ⊥
no_counters k is other = grind (arith, nat_tests, is, other)

module _ (before : Option Counters) where
  -- a record under a key of another kind leaves the counters as they were
  left : (k : Key) (bytes : List ℕ) (r : Record) → (k, bytes) ≡ spelled r → (k.kind == counters_kind) ≡ false → counters_or before r ≡ before
  unfolding key_of
  left k bytes (of.Counters c) same other = absurd (no_counters k (ap (λ (p : Key × List ℕ). p.0.kind) same) other)
  left k bytes (of.ClassHead class name parent text triggers) same other = refl
  left k bytes (of.ClassPiece class piece part) same other = refl
  left k bytes (of.TableHead class trigger states symbols) same other = refl
  left k bytes (of.TablePiece class trigger piece part) same other = refl
  left k bytes (of.Object object class last) same other = refl
  left k bytes (of.Version object number parent stamp fields) same other = refl
  left k bytes (of.Activation a) same other = refl
  left k bytes (of.Entry number e) same other = refl
  left k bytes (of.Added class birth name sort refers literal) same other = refl

  stays : (k : Key) (bytes : List ℕ) (read : Option Record) (why : Cause) → ((r : Record) → read ≡ Some r → (k, bytes) ≡ spelled r) → (k.kind == counters_kind) ≡ false
      → is_some read ≡ true → (found why read >>= λ r. Ok (counters_or before r)) ≡ Ok before
  stays k bytes None why same other some = absurd cc
  stays k bytes (Some r) why same other some = ap (λ (c : Option Counters). Ok c) (left k bytes r (same r refl) other)

  -- so where there is such a record, the counters are those before it
  pub other_counters : (k : Key) (bytes : List ℕ) → ((r : Record) → record_under k bytes ≡ Some r → (k, bytes) ≡ spelled r) → (k.kind == counters_kind) ≡ false
      → is_some (record_under k bytes) ≡ true → counters_behind before (k, bytes) ≡ Ok before
  other_counters k bytes same other some = stays k bytes (record_under k bytes) (cause.Record k) same other some
