use Rattle.std.proofs.Common.{◌≡◌, ap, sym, ◌∙◌, arith, Global}
use Rattle.std.specs.Vec.{vec_len}
use Rattle.std.specs.declared.vec.Vec.{Vec}
use Rattle.ode_value.specs.Records.{Row}
use Rattle.ode_chunks.proofs.Halving.{empty_there, halved_chunks, halved_rows, still_found}
use Rattle.ode_chunks.proofs.chunks.Chunks.split.Goals as goal

pub take_first-first-requires-clause-within : goal.take_first-first-requires-clause-within
take_first-first-requires-clause-within c =
    let same : c.in-Some-get_mut.rows.now ≡ c.in-Some-get.rows.now =
    still_found c.self.inside.tree.entries c.self.inside.last.items c.args.key c.in-Some.bound c.self.invariant c.in-Some.ensures.found
    c.in-Some-get.rows.now (sym c.in-Some-get.ensures.value) 63 c.index.result.now c.index.ensures (omega (arith, c.len.ensures, c.in-Some-get.rows.now.ok, c.if-len.false))
    c.new.result c.insert.new.self.entries c.in_ok-insert.ensures.entries c.in-Some-get_mut.rows.now (sym c.in-Some-get_mut.ensures.value) in
    omega (arith, ap (λ (v : Vec Row Global). vec_len v) same, c.len.ensures, c.if-len.false)

pub invariant_of-self-in_default-get_mut-2 : goal.invariant_of-self-in_default-get_mut-2
invariant_of-self-in_default-get_mut-2 c =
    absurd (empty_there c.self.inside.tree.entries c.self.inside.last.items c.args.key c.in-Some.bound c.self.invariant c.in-Some.ensures.found
    c.in-Some-get.rows.now (sym c.in-Some-get.ensures.value) 63 c.index.result.now c.index.ensures (omega (arith, c.len.ensures, c.in-Some-get.rows.now.ok, c.if-len.false))
    c.new.result c.insert.new.self.entries c.in_ok-insert.ensures.entries c.in-Some-get_mut.rows.now (sym c.in-Some-get_mut.ensures.value)
    c.take_first-first.new.rows (c.get_mut.follows.lender c.take_first-first.new.rows).entries (c.get_mut.follows.holds c.take_first-first.new.rows).0
    (sym c.in_default-get_mut-2.ensures.value))

pub returns-in_default-get_mut-2 : goal.returns-in_default-get_mut-2
returns-in_default-get_mut-2 c =
    absurd (empty_there c.self.inside.tree.entries c.self.inside.last.items c.args.key c.in-Some.bound c.self.invariant c.in-Some.ensures.found
    c.in-Some-get.rows.now (sym c.in-Some-get.ensures.value) 63 c.index.result.now c.index.ensures (omega (arith, c.len.ensures, c.in-Some-get.rows.now.ok, c.if-len.false))
    c.new.result c.insert.new.self.entries c.in_ok-insert.ensures.entries c.in-Some-get_mut.rows.now (sym c.in-Some-get_mut.ensures.value)
    c.take_first-first.new.rows (c.get_mut.follows.lender c.take_first-first.new.rows).entries (c.get_mut.follows.holds c.take_first-first.new.rows).0
    (sym c.in_default-get_mut-2.ensures.value))

pub invariant_of-self-2 : goal.invariant_of-self-2
invariant_of-self-2 c =
    halved_chunks c.self.inside.tree.entries c.self.inside.last.items c.args.key c.in-Some.bound c.self.invariant c.in-Some.ensures.found
    c.in-Some-get.rows.now (sym c.in-Some-get.ensures.value) 63 c.index.result.now c.index.ensures (omega (arith, c.len.ensures, c.in-Some-get.rows.now.ok, c.if-len.false))
    c.new.result c.insert.new.self.entries c.in_ok-insert.ensures.entries c.in-Some-get_mut.rows.now (sym c.in-Some-get_mut.ensures.value)
    c.take_first-first.new.rows (c.get_mut.follows.lender c.take_first-first.new.rows).entries (c.get_mut.follows.holds c.take_first-first.new.rows).0
    c.take_first-first.result (c.get_mut-2.follows.lender c.take_first-first.result).entries (c.get_mut-2.follows.holds c.take_first-first.result).0
    c.take_first-first.ensures.first c.take_first-first.ensures.rest

pub returns : goal.returns
returns c =
    halved_rows c.self.inside.tree.entries c.self.inside.last.items c.args.key c.in-Some.bound c.self.invariant c.in-Some.ensures.found
    c.in-Some-get.rows.now (sym c.in-Some-get.ensures.value) 63 c.index.result.now c.index.ensures (omega (arith, c.len.ensures, c.in-Some-get.rows.now.ok, c.if-len.false))
    c.new.result c.insert.new.self.entries c.in_ok-insert.ensures.entries c.in-Some-get_mut.rows.now (sym c.in-Some-get_mut.ensures.value)
    c.take_first-first.new.rows (c.get_mut.follows.lender c.take_first-first.new.rows).entries (c.get_mut.follows.holds c.take_first-first.new.rows).0
    c.take_first-first.result (c.get_mut-2.follows.lender c.take_first-first.result).entries (c.get_mut-2.follows.holds c.take_first-first.result).0
    c.take_first-first.ensures.first c.take_first-first.ensures.rest
    ∙ c.self.view_is
