use Rattle.std.proofs.Common.{◌≡◌, ◌∙◌, ℕ, ◌+◌, ◌^◌, ◌≤◌, List, [], ◌∷◌, ◌++◌, Option, Some, None, sym, ap, ⊎_elim, arith}
use Rattle.std.proofs.lemmas.Result.{err_from_is_err_and}
use Rattle.ode_host.proofs.Moments.{looks_joined}
use Rattle.ode_codec.specs.declared.record.Record.{Record}
use Rattle.ode_value.specs.Keys.{key, version_kind}
use Rattle.ode_value.specs.declared.key.Key.{Key}
use Rattle.ode_heap.specs.Answers.{There}
use Rattle.ode_heap.specs.Looking.{as_version}
use Rattle.ode_heap.specs.Objects.{versions_in}
use Rattle.ode_versions.specs.declared.list.Version.{Version}
use Rattle.ode_heap.specs.Walking.{block, next_in, with_front}
use Rattle.ode_heap.proofs.Fronts.{breaks_alike, form_breaks, goes_further, it_breaks, none_past, nothing_left}
use Rattle.ode_heap.proofs.Walks.{block_breaks, block_done, block_next}
use Rattle.ode_heap.proofs.object.read_versions.Goals as goal

pub returns-in_err-key-clause-value : goal.returns-in_err-key-clause-value
returns-in_err-key-clause-value g c = λ entries holds.
    let law = g.met.K.Keep.stands c.args.keeper.now c.args.host.now entries holds in
    let rising = g.met.K.Keep.rising law.0 entries law.2 in
    let from = c.versions.from in
    let rest = block (as_version) version_kind c.args.id from entries in
    let all = versions_in entries c.args.id in
    let p = err_from_is_err_and c.from_residual.result c.from_residual.ensures.1 in
    rw (p.1, p.2) (breaks_alike c.in_err-key.field-0.0 (next_in entries (key version_kind c.args.id from)) all
    (λ k broken. it_breaks Version c.versions.versions rest all (c.versions.invariant.rest entries holds) k (block_breaks Version (as_version) version_kind c.args.id from entries k rising broken))
    (c.in_err-key.ensures.value entries (c.versions.invariant.holds entries holds)))

pub returns-in_default-clause-value : goal.returns-in_default-clause-value
returns-in_default-clause-value g c = λ entries holds.
    let law = g.met.K.Keep.stands c.args.keeper.now c.args.host.now entries holds in
    let rising = g.met.K.Keep.rising law.0 entries law.2 in
    let from = c.versions.from in
    let none : next_in entries (key version_kind c.args.id from) ≡ There None =
    c.in_ok-key.ensures.value entries (c.versions.invariant.holds entries holds) ∙ ap (λ (o : Option (Key × Record)). There o) c.in_default.is in
    nothing_left Version c.versions.versions (block (as_version) version_kind c.args.id from entries) (versions_in entries c.args.id) (c.versions.invariant.rest entries holds)
    (block_done Version (as_version) version_kind c.args.id from entries rising none)

pub returns-in_err-version-clause-value : goal.returns-in_err-version-clause-value
returns-in_err-version-clause-value g c = λ entries holds.
    let law = g.met.K.Keep.stands c.args.keeper.now c.args.host.now entries holds in
    let rising = g.met.K.Keep.rising law.0 entries law.2 in
    let from = c.versions.from in
    let k = c.in-Some.key in
    let r = c.in-Some.found in
    let all = versions_in entries c.args.id in
    let more = block as_version version_kind c.args.id (k.b + 1) entries in
    let value = c.in_ok-key.ensures.value entries (c.versions.invariant.holds entries holds) in
    let read : next_in entries (key version_kind c.args.id from) ≡ There (Some (k, r)) = cc (value, c.in-Some.is, c.in-Some.key-is, c.in-Some.found-is) in
    let p = err_from_is_err_and c.from_residual-in_err-version.result c.from_residual-in_err-version.ensures.1 in
    rw (p.1, p.2) (breaks_alike c.in_err-version.field-0.0 (as_version k r) all
    (λ l broken. form_breaks Version c.versions.versions (block as_version version_kind c.args.id from entries) all (c.versions.invariant.rest entries holds) l (as_version k r) more
    (block_next Version as_version version_kind c.args.id from entries k r rising read) broken)
    c.in_err-version.ensures.value)

pub returns-in_default-checked_add-clause-value : goal.returns-in_default-checked_add-clause-value
returns-in_default-checked_add-clause-value g c = λ entries holds.
    let law = g.met.K.Keep.stands c.args.keeper.now c.args.host.now entries holds in
    let rising = g.met.K.Keep.rising law.0 entries law.2 in
    let from = c.versions.from in
    let k = c.in-Some.key in
    let r = c.in-Some.found in
    let x = c.in_ok-version.version in
    let all = versions_in entries c.args.id in
    let more = block as_version version_kind c.args.id (k.b + 1) entries in
    let value = c.in_ok-key.ensures.value entries (c.versions.invariant.holds entries holds) in
    let read : next_in entries (key version_kind c.args.id from) ≡ There (Some (k, r)) = cc (value, c.in-Some.is, c.in-Some.key-is, c.in-Some.found-is) in
    let on = goes_further Version c.versions.versions (block as_version version_kind c.args.id from entries) all (c.versions.invariant.rest entries holds) x (as_version k r) more
    (block_next Version as_version version_kind c.args.id from entries k r rising read) c.in_ok-version.ensures.value in
    let last : 2 ^ 64 ≤ k.b + 1 = omega (arith, c.in_default-checked_add.ensures) in
    nothing_left Version (c.versions.versions ++ x ∷ []) more all on (none_past as_version version_kind c.args.id (k.b + 1) entries last)
    ∙ ap (λ (xs : List Version). There xs) (sym c.in_ok-push.ensures.ok)

pub versions-preserved-in-Some-checked_add-4 : goal.versions-preserved-in-Some-checked_add-4
versions-preserved-in-Some-checked_add-4 g c = record {
  live = c.in_ok-key.ensures.usable;
  looks = looks_joined _ _ _ c.versions.invariant.looks c.in_ok-key.ensures.looks;
  faults = ⊎_elim (λ err. cc (err)) (λ same. same ∙ c.versions.invariant.faults) c.in_ok-key.ensures.cause.calm;
  holds = λ entries holds. c.in_ok-key.ensures.holds entries (c.versions.invariant.holds entries holds);
  rest = λ entries holds.
      let law = g.met.K.Keep.stands c.args.keeper.now c.args.host.now entries holds in
      let rising = g.met.K.Keep.rising law.0 entries law.2 in
      let from = c.versions.from in
      let k = c.in-Some.key in
      let r = c.in-Some.found in
      let x = c.in_ok-version.version in
      let all = versions_in entries c.args.id in
      let more = block as_version version_kind c.args.id (k.b + 1) entries in
      let value = c.in_ok-key.ensures.value entries (c.versions.invariant.holds entries holds) in
      let read : next_in entries (key version_kind c.args.id from) ≡ There (Some (k, r)) = cc (value, c.in-Some.is, c.in-Some.key-is, c.in-Some.found-is) in
      let on = goes_further Version c.versions.versions (block as_version version_kind c.args.id from entries) all (c.versions.invariant.rest entries holds) x (as_version k r) more
      (block_next Version as_version version_kind c.args.id from entries k r rising read) c.in_ok-version.ensures.value in
      let next_is : c.in-Some-checked_add.next ≡ k.b + 1 = omega (arith, c.in-Some-checked_add.ensures) in
      ap (λ (xs : List Version). with_front xs (block as_version version_kind c.args.id c.in-Some-checked_add.next entries)) c.in_ok-push.ensures.ok
      ∙ ap (λ (n : ℕ). with_front (c.versions.versions ++ x ∷ []) (block as_version version_kind c.args.id n entries)) next_is
      ∙ on;
}

pub returns-in_default-checked_add-clause-looks : goal.returns-in_default-checked_add-clause-looks
returns-in_default-checked_add-clause-looks g c = looks_joined _ _ _ c.versions.invariant.looks c.in_ok-key.ensures.looks
