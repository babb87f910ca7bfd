-- Two machines side by side: the work of a tick.
use Rattle.std.specs.Prelude.{slice_get, []}
use Rattle.ode_value.specs.Changes.{object, there}
use Rattle.ode_value.specs.Executing.{first_actions}
use Rattle.ode_value.specs.Posting.{touches}
use Rattle.ode_value.specs.Worlds.{Position}
use Rattle.ode_machine.specs.TimeRows.{kinds_of}
use Rattle.ode_machine.specs.Works.{ticks}
use Rattle.ode_laws.proofs.Sides.{Sides}
use Rattle.ode_laws.proofs.SideActs.{Alike, then_alike, next_alike, finds_alike, object_alike, there_alike}
use Rattle.ode_laws.proofs.SidePosting.{posts_alike, touches_alike}
use Rattle.ode_laws.proofs.SideStatements.{first_alike}

pub ticks_alike : {O A P B : Type 0} (s : Sides O A P B) (p : Position) → Alike s 1 0 (ticks s.past p) (ticks s.other p)
ticks_alike s p =
    next_alike s 1 0 0 (touches s.past (first_actions s.past) p.object) (touches s.other (first_actions s.other) p.object) (touches_alike s 0 (first_actions s.past) (first_actions s.other) (first_alike s) p.object) _ _
    (next_alike s 0 0 0 (there p.object) (there p.object) (there_alike s 0 p.object) _ _
    (then_alike s 0 0 0 (object p.object) (object p.object) (object_alike s 0 p.object) _ _ (λ o.
    finds_alike s 0 0 (λ b. slice_get (kinds_of b.classes o.class) p.place) _ _ (λ kind.
    posts_alike s 0 (first_actions s.past) (first_actions s.other) (first_alike s) p.object kind []))))
