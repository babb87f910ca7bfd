use Rattle.std.proofs.Common.{◌≡◌, ◌≤◌, ◌<◌, ◌^◌, ◌++◌, ◌∷◌, [], ◌∙◌, List, ℕ, Option, ap, append_assoc, arith, length, subst, sym}
use Rattle.std.proofs.lemmas.Result.{on_ok_weaker}
use Rattle.std.specs.Prelude.{Result, Ok, Err, OnOk, if◌then◌else◌}
use Rattle.std.specs.Option.{IfSome}
use Rattle.std.specs.Result.{is_ok}
use Rattle.ode_value.specs.Records.{key_bytes, row_bytes}
use Rattle.ode_keep.specs.Payloads.{spelled_change}
use Rattle.ode_keep.specs.declared.limits.TheConstants.{MAX_VALUE}
use Rattle.ode_keep.specs.declared.spelling.TheConstants.{PUT, REMOVAL}
use Rattle.ode_ship.proofs.framing.put_change.Goals as goal

-- what an answer leaves where it is one
when_ok : {T E : Type 0} (r : Result T E) (x a b : List ℕ) → x ≡ (if is_ok r then a else b) → OnOk r (x ≡ a)
when_ok (Ok v) x a b is = is
when_ok (Err e) x a b is = tt

pub returns-in_ok-push-in-None-clause-spelled : goal.returns-in_ok-push-in-None-clause-spelled
returns-in_ok-push-in-None-clause-spelled c =
    let to = c.args.to.now.items in
    let key = c.args.key in
    on_ok_weaker c.extend_from_slice.result
    (λ (is : c.extend_from_slice.new.self.items ≡ c.push.new.self.items ++ c.key_bytes.result).
    is ∙ ap (λ (l : List ℕ). l ++ c.key_bytes.result) c.in_ok-push-in-None.ensures.items
    ∙ ap (λ (l : List ℕ). (to ++ REMOVAL ∷ []) ++ l) c.key_bytes.ensures.spelled
    ∙ append_assoc to (REMOVAL ∷ []) (key_bytes key)
    ∙ ap (λ (w : Option (List ℕ)). to ++ spelled_change key w) (sym c.in-None.is))
    (when_ok c.extend_from_slice.result c.extend_from_slice.new.self.items (c.push.new.self.items ++ c.key_bytes.result) c.push.new.self.items c.extend_from_slice.ensures.items)

pub returns-in_ok-push-in-Some-clause-spelled : goal.returns-in_ok-push-in-Some-clause-spelled
returns-in_ok-push-in-Some-clause-spelled c =
    let to = c.args.to.now.items in
    let key = c.args.key in
    let v = c.in-Some.value in
    let short : length v ≤ MAX_VALUE = subst (λ (w : Option (List ℕ)). IfSome w (λ bytes. length bytes ≤ MAX_VALUE)) c.in-Some.is c.requires in
    let at = c.as_slice.result.now in
    on_ok_weaker c.put_row.result
    (λ (is : length at < 2 ^ 16 → c.put_row.new.to.items ≡ c.push-in-Some.new.self.items ++ row_bytes (key, at)).
    is (omega (arith, short, ap length c.as_slice.ensures))
    ∙ ap (λ (l : List ℕ). l ++ row_bytes (key, at)) c.in_ok-push-in-Some.ensures.items
    ∙ ap (λ (l : List ℕ). (to ++ PUT ∷ []) ++ row_bytes (key, l)) c.as_slice.ensures
    ∙ append_assoc to (PUT ∷ []) (row_bytes (key, v))
    ∙ ap (λ (w : Option (List ℕ)). to ++ spelled_change key w) (sym c.in-Some.is))
    c.put_row.ensures
