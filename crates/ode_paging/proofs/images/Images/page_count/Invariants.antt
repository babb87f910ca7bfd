use Rattle.std.proofs.Common.{◌≡◌, ◌≤◌, ◌^◌}
use Rattle.ode_paging.specs.Standing.{page_count}
use Rattle.ode_paging.proofs.images.Images.page_count.Given as goal

abbrev pub invariant-loop-page : goal.invariant-loop-page
invariant-loop-page l = record {
  exact : page_count l.count l.page-iterator ≡ page_count l.in_place l.self;
  small : l.in_place ≤ 2 ^ 32 → l.count ≤ 2 ^ 32;
}
