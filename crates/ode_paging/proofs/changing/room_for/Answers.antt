use Rattle.std.proofs.Common.{Some, ap, subst, sym, ◌∙◌}
use Rattle.std.specs.BTreeMap.{is_at}
use Rattle.std.specs.Map.{lookup}
use Rattle.ode_value.specs.Keys.{key_cmp}
use Rattle.ode_paging.specs.Changing.{ArePresent}
use Rattle.ode_paging.specs.Indexing.{Leads}
use Rattle.ode_paging.specs.Making.{all_pointed}
use Rattle.ode_paging.proofs.Changed.{absorbed, on_ok, present_put, room_back, room_there}
use Rattle.ode_paging.proofs.Handled.{absent}
use Rattle.ode_paging.proofs.changing.room_for.Goals as goal

pub returns-in-Some-clause-room : goal.returns-in-Some-clause-room
returns-in-Some-clause-room c =
    on_ok c.add_noted.result c.add_noted.ensures.put
    (λ made. room_there c.args.leads.now.entries c.add_noted.new.leads.entries c.args.key c.in-Some.page c.args.page c.in-Some.is made)

pub returns-in-Some-clause-kept : goal.returns-in-Some-clause-kept
returns-in-Some-clause-kept c =
    on_ok c.add_noted.result c.add_noted.ensures.put
    (λ made moves present. subst (λ (l : Leads). ArePresent moves l) (sym made) (present_put moves c.args.leads.now.entries c.args.key c.in-Some.page present))

pub returns-in-Some-clause-same : goal.returns-in-Some-clause-same
returns-in-Some-clause-same c =
    on_ok c.add_noted.result c.add_noted.ensures.put
    (λ made moves moved.
    ap (λ (l : Leads). all_pointed moves l) made ∙ absorbed moves c.args.leads.now.entries c.args.key (Some c.in-Some.page) c.add_noted.ensures.rising moved)

pub returns-in-Some-clause-back : goal.returns-in-Some-clause-back
returns-in-Some-clause-back c = λ old before.
    room_back c.add_noted.result c.args.leads.now.entries c.add_noted.new.leads.entries c.args.added.now.items c.add_noted.new.added.items c.args.key c.in-Some.page old
    c.add_noted.ensures.put c.add_noted.ensures.noted c.add_noted.ensures.same c.add_noted.ensures.no_note c.add_noted.ensures.rising
    (absent c.contains_key.result (lookup (is_at (key_cmp c.args.key)) c.args.leads.now.entries) c.contains_key.ensures c.if-not-contains_key.true) before
