use Rattle.std.proofs.Common.{Bor, List, Option, ap, sym, ℕ, ◌∙◌}
use Rattle.std.specs.Option.{option_copied}
use Rattle.ode_paging.proofs.Changed.{on_ok}
use Rattle.ode_pagemap.proofs.Reserved.{covered_then, put_there, room_back, still_have}
use Rattle.ode_pagemap.proofs.reserving.room_for.Goals as goal

pub returns-in-None-clause-room : goal.returns-in-None-clause-room
returns-in-None-clause-room c =
    on_ok c.add_noted.result c.add_noted.ensures.put (λ made. put_there c.args.images.now c.add_noted.new.images c.args.page c.new.result made)

pub returns-in-None-clause-kept : goal.returns-in-None-clause-kept
returns-in-None-clause-kept c =
    on_ok c.add_noted.result c.add_noted.ensures.put (λ made over have. still_have over c.args.images.now c.add_noted.new.images c.args.page c.new.result made have)

pub returns-in-None-clause-same : goal.returns-in-None-clause-same
returns-in-None-clause-same c =
    on_ok c.add_noted.result c.add_noted.ensures.put
    (λ made over order has. covered_then c.args.images.now c.add_noted.new.images over c.args.page c.new.result c.add_noted.ensures.rising made order has)

pub returns-in-None-clause-back : goal.returns-in-None-clause-back
returns-in-None-clause-back c = λ old before.
    room_back c.add_noted.result c.args.images.now c.add_noted.new.images c.args.added.now.items c.add_noted.new.added.items c.args.page c.new.result old
    c.add_noted.ensures.put c.add_noted.ensures.noted c.add_noted.ensures.same c.add_noted.ensures.no_note c.add_noted.ensures.rising
    (sym c.get.ensures ∙ ap (λ (o : Option (Bor (List ℕ))). option_copied o) c.in-None.is) before
