use Rattle.std.proofs.Common.{List, ℕ, Option, ◌∙◌, ap, subst, sym}
use Rattle.std.specs.Prelude.{IsSome}
use Rattle.std.specs.BTreeMap.{insert_entry}
use Rattle.std.specs.Option.{IfSome}
use Rattle.ode_value.specs.declared.key.Key.{Key}
use Rattle.ode_keep.specs.Entries.{Entries, changed, value_under}
use Rattle.ode_value.specs.Keys.{key_cmp}
use Rattle.ode_areas.proofs.Splitting.{needs_none, put_undone}
use Rattle.ode_areas.proofs.changing.put_noted.Goals as goal

pub put_back-requires : goal.put_back-requires
put_back-requires c =
    let before = c.args.records.now in
    let after = c.insert.new.self in
    let key = c.args.key in
    subst (λ (p : Key × Option (List ℕ)). IfSome p.1 (λ v. IsSome (value_under after p.0))) (sym c.in-Err.ensures.value_returned)
    (subst (λ (o : Option (List ℕ)). IfSome o (λ v. IsSome (value_under after key))) (sym c.in_ok-old.ensures.old)
    (subst (λ (es : Entries). IfSome (value_under before key) (λ v. IsSome (value_under es key))) (sym c.in_ok-old.ensures.put) (needs_none key c.args.value before)))

pub returns-in-Err-clause-same : goal.returns-in-Err-clause-same
returns-in-Err-clause-same c =
    let before = c.args.records.now in
    let key = c.args.key in
    c.put_back.ensures
    ∙ ap (λ (p : Key × Option (List ℕ)). changed c.insert.new.self p.0 p.1) c.in-Err.ensures.value_returned
    ∙ ap (λ (es : Entries). changed es key c.in_ok-old.old) c.in_ok-old.ensures.put
    ∙ ap (λ (o : Option (List ℕ)). changed (insert_entry key_cmp before key c.args.value) key o) c.in_ok-old.ensures.old
    ∙ put_undone key c.args.value before c.len.ensures.rising
