use Rattle.std.proofs.Common.{◌≡◌, ℕ, List, length, take, drop, sym, ap, ◌∙◌, subst, arith, length-take}
use Rattle.std.proofs.lemmas.List.{take_at}
use Rattle.ode_areas.specs.Image.{body_of}
use Rattle.ode_keep.specs.Snapshots.{IsSnapshot}
use Rattle.ode_areas.proofs.start.load_body.Goals as goal

-- a whole read of the body gives it
read_body : (size count at : ℕ) (read to file : List ℕ) → read ≡ to → count ≡ size → take count to ≡ take count (drop at file) → take count read ≡ take size (drop at file)
read_body size count at read to file same full is = ap (λ (l : List ℕ). take count l) same ∙ is ∙ ap (λ (k : ℕ). take k (drop at file)) full

pub returns-in-None-clause-found : goal.returns-in-None-clause-found
returns-in-None-clause-found g c file tells =
    let loaded = rw c.in-None.is at c.in_ok-load_rows.ensures.whole in
    let size : c.len.result ≡ c.args.h.now.body_len = c.len.ensures ∙ c.in_ok-body.ensures.len in
    let to : length c.read_whole.new.to ≡ c.in_ok-body.body.len = c.read_whole.auto.to ∙ c.deref_mut.ensures.len in
    let items : c.deref.result.now ≡ c.read_whole.new.to
    = c.deref.ensures.value ∙ take_at c.read_whole.new.to (drop (length c.read_whole.new.to) c.in_ok-body.body.items) c.in_ok-body.body.len to in
    let long : length c.deref.result.now ≡ c.in_ok-body.body.len = c.deref.ensures.len in
    let full : c.in_ok-count.count ≡ c.args.h.now.body_len = omega (arith, loaded.1, size, c.len.ensures, long, length-take c.in_ok-count.count c.deref.result.now, c.in_ok-count.ensures.within, c.deref_mut.ensures.len) in
    let body : take c.in_ok-count.count c.deref.result.now ≡ body_of c.args.h.now file
    = read_body c.args.h.now.body_len c.in_ok-count.count c.args.h.now.body_at c.deref.result.now c.read_whole.new.to file items full (c.in_ok-count.ensures.bytes file tells) in
    (subst (λ (l : List ℕ). IsSnapshot c.load_rows.new.map l) body loaded.0, ap length (sym body) ∙ loaded.1 ∙ size)
