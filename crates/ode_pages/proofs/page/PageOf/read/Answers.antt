use Rattle.std.proofs.Common.{◌≡◌, ◌++◌, drop, refl, sym, ◌∙◌}
use Rattle.std.proofs.lemmas.Bool.{false≢true}
use Rattle.std.proofs.lemmas.List.{take_rest}
use Rattle.ode_value.specs.Records.{snapshot}
use Rattle.ode_pages.specs.declared.layout.TheConstants.{COUNT_LEN}
use Rattle.ode_pages.proofs.Decoding.{page_count}
use Rattle.ode_pages.proofs.Keeping.{kept_read, zeros_behind}
use Rattle.ode_pages.proofs.page.PageOf.read.Goals as goal

pub returns-then-not-are_zeros-clause-none : goal.returns-then-not-are_zeros-clause-none
returns-then-not-are_zeros-clause-none g c entries page =
    let bytes = c.args.bytes.now in
    let rest = c.in_ok-rest.rest.now in
    let some = c.in_ok-rest.ensures.some in
    let split : drop COUNT_LEN bytes ≡ snapshot some.0 ++ rest = sym (take_rest bytes COUNT_LEN) ∙ some.3 in
    absurd (false≢true (c.if-not-are_zeros.ensures.1 (
    zeros_behind g.row.N c.requires.least c.requires.most bytes c.told-bytes c.in_ok-count.count c.in_ok-count.ensures.spelled
    some.0 rest some.1 some.2 split entries page (c.in_ok-count.ensures.value.1 ∙ page_count g.row.N entries bytes page))))

pub invariant_of-result : goal.invariant_of-result
invariant_of-result g c =
    let bytes = c.args.bytes.now in
    let rest = c.in_ok-rest.rest.now in
    let some = c.in_ok-rest.ensures.some in
    let split : drop COUNT_LEN bytes ≡ snapshot some.0 ++ rest = sym (take_rest bytes COUNT_LEN) ∙ some.3 in
    kept_read g.row.N c.requires.least c.requires.most bytes c.told-bytes c.in_ok-count.count c.in_ok-count.ensures.spelled
    some.0 rest some.1 some.2 split (c.if-not-are_zeros.ensures.0 refl)

pub returns-clause-some : goal.returns-clause-some
returns-clause-some g c =
    let bytes = c.args.bytes.now in
    let rest = c.in_ok-rest.rest.now in
    let some = c.in_ok-rest.ensures.some in
    let split : drop COUNT_LEN bytes ≡ snapshot some.0 ++ rest = sym (take_rest bytes COUNT_LEN) ∙ some.3 in
    (kept_read g.row.N c.requires.least c.requires.most bytes c.told-bytes c.in_ok-count.count c.in_ok-count.ensures.spelled
    some.0 rest some.1 some.2 split (c.if-not-are_zeros.ensures.0 refl)).page
