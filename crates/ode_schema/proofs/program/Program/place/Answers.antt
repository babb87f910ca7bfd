use Rattle.std.proofs.Common.{◌≡◌, List, ap, sym, ◌∙◌, ◌+◌, ◌-◌, ℕ, Some, arith, length, get_or}
use Rattle.ode_schema.proofs.TablePlaces.{place_at}
use Rattle.ode_schema.proofs.program.Program.place.Goals as goal

pub overflow_sub-first : goal.overflow_sub-first
overflow_sub-first c =
    let it = place_at c.args.self.now c.tables-fit.ensures.fit c.args.t.class c.args.t.place c.requires in
    it.3.some

pub bounds-as_slice-t : goal.bounds-as_slice-t
bounds-as_slice-t c =
    let it = place_at c.args.self.now c.tables-fit.ensures.fit c.args.t.class c.args.t.place c.requires in
    let maps = ap (λ (l : List ℕ). length l) (c.as_slice.ensures ∙ c.maps.ensures) in
    omega (arith, it.3.within, maps)

pub overflow_add-result : goal.overflow_add-result
overflow_add-result c =
    let it = place_at c.args.self.now c.tables-fit.ensures.fit c.args.t.class c.args.t.place c.requires in
    let maps = ap (λ (l : List ℕ). get_or l (c.args.t.class - 1) 0) (c.as_slice.ensures ∙ c.maps.ensures) in
    omega (arith, it.3.sum, it.2, maps, c.from.ensures)

pub returns : goal.returns
returns c =
    let it = place_at c.args.self.now c.tables-fit.ensures.fit c.args.t.class c.args.t.place c.requires in
    let maps = ap (λ (l : List ℕ). get_or l (c.args.t.class - 1) 0) (c.as_slice.ensures ∙ c.maps.ensures) in
    let sum : get_or c.as_slice.result.now (c.args.t.class - 1) 0 + c.from.result ≡ it.0 = omega (arith, it.3.sum, maps, c.from.ensures) in
    ap (λ (n : ℕ). Some n) sum ∙ sym it.1
