use Rattle.std.proofs.Common.{◌++◌, ℕ, List, sym, subst}
use Rattle.ode_value.specs.Symbols.{Alphabet}
use Rattle.ode_value.specs.Tables.{Table}
use Rattle.ode_value.specs.declared.class.Class.{Class}
use Rattle.ode_opening.proofs.Built.{built_more}
use Rattle.ode_opening.specs.Building.{AreBuilt}
use Rattle.ode_opening.proofs.declaring.put_class.Goals as goal

pub returns-clause-built : goal.returns-clause-built
returns-clause-built c = λ are.
    let a = c.args.accepted.now in
    let made = c.args.made in
    let tables = a.tables ++ made.tables in
    let alphabets = a.alphabets ++ made.alphabets in
    let counts = a.counts ++ made.counts in
    subst (λ (ns : List ℕ). AreBuilt (record { classes = c.add.new.self; tables = c.put_behind.new.list; alphabets = c.put_behind-2.new.list; counts = ns }))
    (sym c.in_ok-put_behind-3.ensures)
    (subst (λ (rows : List Alphabet). AreBuilt (record { classes = c.add.new.self; tables = c.put_behind.new.list; alphabets = rows; counts = counts }))
    (sym c.in_ok-put_behind-2.ensures)
    (subst (λ (ts : List Table). AreBuilt (record { classes = c.add.new.self; tables = ts; alphabets = alphabets; counts = counts })) (sym c.in_ok-put_behind.ensures)
    (subst (λ (cs : List Class). AreBuilt (record { classes = cs; tables = tables; alphabets = alphabets; counts = counts })) (sym c.in_ok-add.ensures.ok)
    (built_more a made are c.requires.built))))
