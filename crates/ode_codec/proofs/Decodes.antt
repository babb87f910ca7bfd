-- What the two calls answer.
use Rattle.std.proofs.Common.{◌≡◌, ℕ, List, Option, Some, None, Result, Ok, Err, sym, ap, ◌∙◌}
use Rattle.std.specs.Prelude.{IfOk, IfSome}
use Rattle.std.specs.declared.alloc.AllocError.{AllocError}
use Rattle.ode_value.specs.declared.key.Key.{Key}
use Rattle.ode_codec.specs.Reading.{record_under}
use Rattle.ode_codec.specs.Rules.{IsRecord}
use Rattle.ode_codec.specs.Spelling.{spelled}
use Rattle.ode_codec.specs.declared.record.Record.{Record}
use Rattle.ode_codec.proofs.FormatLaws.{IsBytes}
use Rattle.ode_codec.proofs.RecordLaws.{IsKey, record_again, record_found}

found_some : (o : Option Record) (k : Key) (bytes : List ℕ) → IsKey k → IsBytes bytes → o ≡ record_under k bytes → IfSome o (λ r. IsRecord r × ((k, bytes) ≡ spelled r))
found_some None k bytes is fits e = tt
found_some (Some r) k bytes is fits e = let found = record_found k bytes r is fits (sym e) in (found.rules, found.same)

pub finds : (x : Result (Option Record) AllocError) (k : Key) (bytes : List ℕ) → IsKey k → IsBytes bytes → IfOk x (λ o. o ≡ record_under k bytes) → IfOk x (λ o. IfSome o (λ r. IsRecord r × ((k, bytes) ≡ spelled r)))
finds (Ok o) k bytes is fits e = found_some o k bytes is fits e
finds (Err u) k bytes is fits e = tt

pub decodes : (x : Result (Option Record) AllocError) (k : Key) (bytes : List ℕ) (r : Record) → IsRecord r → (k, bytes) ≡ spelled r → IfOk x (λ o. o ≡ record_under k bytes) → IfOk x (λ o. o ≡ Some r)
decodes (Ok o) k bytes r is same e = e ∙ ap (λ (p : Key × List ℕ). record_under p.0 p.1) same ∙ record_again r is
decodes (Err u) k bytes r is same e = tt

pub encodes : (x : Result (Key × List ℕ) AllocError) (r : Record) → IsRecord r → IfOk x (λ row. row ≡ spelled r) → IfOk x (λ row. record_under row.0 row.1 ≡ Some r)
encodes (Ok row) r is e = ap (λ (p : Key × List ℕ). record_under p.0 p.1) e ∙ record_again r is
encodes (Err u) r is e = tt
