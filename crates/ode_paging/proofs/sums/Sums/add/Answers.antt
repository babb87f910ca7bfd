use Rattle.std.proofs.Common.{ap, arith}
use Rattle.ode_value.specs.Keys.{entry_kind}
use Rattle.ode_keep.specs.Entries.{Entries, count_of_kind, record_bytes}
use Rattle.ode_paging.specs.declared.pages.TheConstants.{PAGE_SIZE}
use Rattle.ode_paging.proofs.Summing.{fits_bytes, fits_queued, one_more}
use Rattle.ode_paging.proofs.sums.Sums.add.Goals as goal

pub overflow_add-self-in-Some : goal.overflow_add-self-in-Some
overflow_add-self-in-Some c =
    omega (
      arith,
      ap (λ (l : Entries). record_bytes l) c.in-Some.ensures.some,
      fits_bytes PAGE_SIZE c.args.page.now c.entries.invariant.fits,
      c.entries.invariant.bytes,
      c.requires.bytes,
    )

pub overflow_add-self-in-Some-2 : goal.overflow_add-self-in-Some-2
overflow_add-self-in-Some-2 c =
    omega (
      arith,
      ap (λ (l : Entries). count_of_kind entry_kind l) c.in-Some.ensures.some,
      one_more (c.in-Some.key, c.in-Some.value.now) c.next.new.self,
      fits_queued PAGE_SIZE c.args.page.now c.entries.invariant.fits,
      c.entries.invariant.queued,
      c.one_queued.ensures,
      c.requires.queued,
    )
