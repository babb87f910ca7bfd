use Rattle.std.proofs.Common.{arith, refl}
use Rattle.std.specs.List.{IsDistinct}
use Rattle.ode_value.specs.Limits.{queue_limit}
use Rattle.ode_value.specs.Weights.{weight}
use Rattle.ode_value.proofs.machine.a_fresh_world_is_good.Goals as goal

pub returns : goal.returns
unfolding weight queue_limit IsDistinct
returns c l = record {
  bones = record {
    classes = tt;
    added = tt;
    few_added = omega arith;
    rising = tt;
    objects = tt;
    numbers = tt;
    next = record { some = omega arith; bounded = omega arith };
    transaction = record { some = omega arith; bounded = omega arith };
    next_entry = record { some = omega arith; bounded = omega arith };
    few = omega arith;
    rising_queue = tt;
    queue = tt;
    clock = tt;
    light = omega arith;
  };
  pasts = tt;
}
