use Rattle.std.proofs.Common.{◌≡◌, Some, arith, sym, ap, ◌∙◌}
use Rattle.std.proofs.lemmas.Fmt.{decimal_injective}
use Rattle.ode_value.proofs.ReferenceTexts.{object_alone, both_numbers}
use Rattle.ode_value.proofs.reference.parse_numbers.Goals as goal

pub returns-in_err-object-clause-reads : goal.returns-in_err-object-clause-reads
returns-in_err-object-clause-reads c = λ r good some e.
    let alone = object_alone _ r.object r.version good.object e c.in_default.ensures.first in
    absurd (c.in_err-object.ensures.none r.object some (omega (arith, good.object)) alone.1)

pub returns-in_default-clause-reads : goal.returns-in_default-clause-reads
returns-in_default-clause-reads c = λ r good some e.
    let alone = object_alone _ r.object r.version good.object e c.in_default.ensures.first in
    let found = c.in_ok-object.ensures.found in
    let object = decimal_injective _ r.object (omega (arith, found.1)) good.object (sym found.2 ∙ alone.1) in
    λ i. Some (record { object = object i; version = sym alone.0 i })

pub returns-in_err-object-2-clause-reads : goal.returns-in_err-object-2-clause-reads
returns-in_err-object-2-clause-reads c = λ r good some e.
    let both = both_numbers _ r.object r.version _ good.object good.version e c.in-Some.ensures.first in
    absurd (c.in_err-object-2.ensures.none r.object some (omega (arith, good.object)) both.0)

pub returns-in_err-version-clause-reads : goal.returns-in_err-version-clause-reads
returns-in_err-version-clause-reads c = λ r good some e.
    let both = both_numbers _ r.object r.version _ good.object good.version e c.in-Some.ensures.first in
    absurd (c.in_err-version.ensures.none both.1.0 both.1.2 (omega arith) both.1.4)

pub returns-clause-reads : goal.returns-clause-reads
returns-clause-reads c = λ r good some e.
    let both = both_numbers _ r.object r.version _ good.object good.version e c.in-Some.ensures.first in
    let before = c.in_ok-object-2.ensures.found in
    let behind = c.in_ok-version.ensures.found in
    let object = decimal_injective _ r.object (omega (arith, before.1)) good.object (sym before.2 ∙ both.0) in
    let version = decimal_injective _ both.1.0 (omega (arith, behind.1)) (omega arith) (sym behind.2 ∙ both.1.4) in
    let versions : Some c.in_ok-version.version ≡ r.version = ap Some version ∙ sym both.1.1 in
    λ i. Some (record { object = object i; version = versions i })
