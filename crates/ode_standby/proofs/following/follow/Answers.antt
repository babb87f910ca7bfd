use Rattle.std.proofs.Common.{ℕ, Err, ⊎_elim, refl, ◌∙◌, ap, subst, arith}
use Rattle.ode_host.proofs.Calls.{rose_as}
use Rattle.ode_host.proofs.Moments.{joined, started, weaker}
use Rattle.ode_host.specs.Causes.{RoseIf}
use Rattle.ode_standby.proofs.FeedLaws.{some_left}
use Rattle.ode_standby.proofs.FollowLaws.{fed_none, same_calls}
use Rattle.ode_standby.proofs.LoopLaws.{disk_calm, disk_none, disk_on}
use Rattle.ode_standby.specs.Following.{IsDiskFault, IsReadFault}
use Rattle.ode_standby.specs.Taking.{from}
use Rattle.ode_standby.specs.Turns.{StaysSound}
use Rattle.ode_standby.specs.declared.following.Followed.{Followed}
use Rattle.ode_standby.proofs.following.follow.Goals as goal

pub turns-init : goal.turns-init
turns-init g c = record {
  fed = λ most entries next bytes limit held known told.
      fed_none most next entries bytes (g.S.Source.left c.args.source.now) c.args.standby.now.stream (λ after. g.K.Keep.holds c.args.standby.now.heap (g.H.Host.view c.args.host.now) after) held known told c.requires.fresh;
  stops = λ most entries next bytes limit held known told. started (g.H.Host.view c.args.host.now) _;
  sound = λ most entries next limit held known. record { entries = entries; next = next; told = known; holds = held };
  live = c.requires.live;
  few = omega arith;
  calls = disk_none (g.H.Host.view c.args.host.now);
  reads = refl;
}

pub turns-preserved : goal.turns-preserved
turns-preserved g c =
    let so_far = c.turns.invariant in
    record {
      fed = λ most entries next bytes limit held known told. c.in-Ok.ensures.goes most (from entries next 0) bytes limit (so_far.fed most entries next bytes limit held known told);
      stops = λ most entries next bytes limit held known told.
          joined (g.H.Host.view c.args.host.now) (g.H.Host.view c.turns.host) (g.H.Host.view c.turn.new.host) _ (so_far.stops most entries next bytes limit held known told)
          (weaker (g.H.Host.view c.turns.host) (g.H.Host.view c.turn.new.host) _ _
          (λ image out l. some_left g.K.Keep.means most (from entries next 0) bytes (g.H.Host.view c.args.host.now) (g.H.Host.view c.turns.host) image out so_far.calls.text l)
          (c.in-Ok.ensures.any_moment most (from entries next 0) bytes limit (so_far.fed most entries next bytes limit held known told)));
      sound = λ most entries next limit held known. c.in-Ok.ensures.sound most limit (so_far.sound most entries next limit held known);
      live = c.in-Ok.ensures.live;
      few = c.in-Ok.ensures.few;
      calls =
          disk_on ⊥ (g.H.Host.view c.args.host.now) (g.H.Host.view c.turns.host) (g.H.Host.view c.turn.new.host) so_far.calls
          (disk_calm _ (g.H.Host.view c.turns.host) (g.H.Host.view c.turn.new.host) (λ is. absurd (cc (is))) c.in-Ok.ensures.leaves);
      reads = ⊎_elim (λ is. absurd (cc (is))) (λ same. same ∙ so_far.reads) c.in-Ok.ensures.reads.calm;
    }

pub turns-smaller : goal.turns-smaller
turns-smaller g c = omega (arith, c.in-Ok.ensures.further, c.turn.new.standby.stream.short)

pub returns-in-Err-clause-follows : goal.returns-in-Err-clause-follows
returns-in-Err-clause-follows g c most entries next bytes limit held known told =
    c.in-Err.ensures.goes most (from entries next 0) bytes limit (c.turns.invariant.fed most entries next bytes limit held known told)

pub returns-in-Err-clause-any_moment : goal.returns-in-Err-clause-any_moment
returns-in-Err-clause-any_moment g c most entries next bytes limit held known told =
    let so_far = c.turns.invariant in
    joined (g.H.Host.view c.args.host.now) (g.H.Host.view c.turns.host) (g.H.Host.view c.turn.new.host) _ (so_far.stops most entries next bytes limit held known told)
    (weaker (g.H.Host.view c.turns.host) (g.H.Host.view c.turn.new.host) _ _
    (λ image out l. some_left g.K.Keep.means most (from entries next 0) bytes (g.H.Host.view c.args.host.now) (g.H.Host.view c.turns.host) image out so_far.calls.text l)
    (c.in-Err.ensures.any_moment most (from entries next 0) bytes limit (so_far.fed most entries next bytes limit held known told)))

pub returns-in-Err-clause-sound : goal.returns-in-Err-clause-sound
returns-in-Err-clause-sound g c most entries next limit held known key is =
    subst (λ (f : Followed). StaysSound (λ after. g.K.Keep.holds c.turn.new.standby.heap (g.H.Host.view c.turn.new.host) after) (Err f)) is (c.in-Err.ensures.sound most limit (c.turns.invariant.sound most entries next limit held known))

pub returns-in-Err-clause-leaves : goal.returns-in-Err-clause-leaves
returns-in-Err-clause-leaves g c =
    disk_on (IsDiskFault c.in-Err.followed) (g.H.Host.view c.args.host.now) (g.H.Host.view c.turns.host) (g.H.Host.view c.turn.new.host) c.turns.invariant.calls
    (same_calls _ (IsDiskFault c.in-Err.followed) (g.H.Host.view c.turns.host) (g.H.Host.view c.turn.new.host) (λ is. cc (is)) (λ is. ap Err is) c.in-Err.ensures.leaves)

pub returns-in-Err-clause-reads : goal.returns-in-Err-clause-reads
returns-in-Err-clause-reads g c =
    subst (λ (n : ℕ). RoseIf (IsReadFault c.in-Err.followed) n (g.S.Source.faults c.turn.new.source)) c.turns.invariant.reads
    (rose_as _ (IsReadFault c.in-Err.followed) _ _ (λ is. cc (is)) (λ is. ap Err is) c.in-Err.ensures.reads)
