-- The class is checked.
use Rattle.std.proofs.Common.{◌≡◌, List, [], ap}
use Rattle.std.specs.Prelude.{Ok}
use Rattle.ode_types.specs.Bodies.{body_checked}
use Rattle.ode_types.specs.Checked.{IsChecked}
use Rattle.ode_types.specs.Declaring.{begins, declared}
use Rattle.ode_types.specs.Events.{Listing, listed, listing_of}
use Rattle.ode_types.specs.Limits.{ancestor_limit, classes_limit, field_limit, slot_limit, trigger_limit}
use Rattle.ode_types.specs.Scopes.{Scope}
use Rattle.ode_types.specs.Static.{check_class, check_grown, members_completed, trigger_checked}
use Rattle.ode_value.specs.declared.class.Class.{Class}
use Rattle.ode_value.specs.declared.event.EventExpr.TheVariants as event
use Rattle.ode_value.proofs.PointLaws.{fold-at}
use Rattle.ode_overlay_tests.specs.Watched.{watched, watched_tree}

any_listed : (scope : Scope) → listed event.Any scope ≡ Ok event.Any
unfolding listed
any_listed scope = ap (λ (l : Listing). l scope) (fold-at listing_of event.Any _ event.outs-Any)

checks : check_class [] watched_tree ≡ Ok watched
unfolding check_grown begins declared members_completed trigger_checked body_checked field_limit trigger_limit ancestor_limit classes_limit slot_limit
checks = simp any_listed

pub is_watched : (known : List Class) (c : Class) → known ≡ [] → c ≡ watched → IsChecked known c
is_watched known c none is = rw (none, is) (record { tree = watched_tree; added = []; checks = checks })
