-- A fresh database is a good world.
use Rattle.std.proofs.Common.{[], arith}
use Rattle.std.specs.Prelude.{nat_eq}
use Rattle.std.specs.List.{IsDistinct}
use Rattle.ode_value.specs.GoodWorlds.{IsGood}
use Rattle.ode_value.specs.Language.{Language}
use Rattle.ode_value.specs.Weights.{weight}
use Rattle.ode_value.specs.Worlds.{empty_world}
use Rattle.ode_accepted_laws.specs.Languages.{HasSoundRules}
use Rattle.ode_good_laws.specs.Well.{IsWell}

no_numbers : IsDistinct nat_eq []
unfolding IsDistinct
no_numbers = tt

fresh_good : (l : Language) → IsGood l empty_world
unfolding weight
fresh_good l = record {
  bones = record {
    classes = tt;
    added = tt;
    few_added = omega arith;
    rising = tt;
    objects = tt;
    numbers = no_numbers;
    next = record { some = omega arith; bounded = omega arith };
    transaction = record { some = omega arith; bounded = omega arith };
    next_entry = record { some = omega arith; bounded = omega arith };
    few = omega arith;
    rising_queue = tt;
    queue = tt;
    clock = tt;
    light = omega arith;
  };
  pasts = tt;
}

pub fresh_well : (l : Language) → HasSoundRules l → IsWell l empty_world
fresh_well l rules = record { good = fresh_good l; sound = rules.accepted [] [] tt; ones = tt }
