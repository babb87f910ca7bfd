use Rattle.std.proofs.Common.{◌≡◌, ◌<◌, ◌≤◌, ◌+◌, ◌-◌, ◌++◌, ℕ, List, length, min, Option, ⊎_elim, sym, ap, subst, ◌∙◌, arith, length-append}
use Rattle.std.specs.Option.{IfSome}
use Rattle.ode_host.proofs.Moments.{looks_joined}
use Rattle.ode_value.specs.Limits.{value_limit}
use Rattle.ode_opening_tables.proofs.Pieces.{IsPart, IsPartly, all_read, never_joined, part_more, piece_as, read_more}
use Rattle.ode_opening_tables.specs.Answers.{IsJoined}
use Rattle.ode_opening_tables.proofs.records.read_bytes.Goals as goal

pub returns-in_default-clause-meant : goal.returns-in_default-clause-meant
returns-in_default-clause-meant g c = λ entries holds.
    let bytes = c.loop-place.bytes.items in
    let less : length bytes < c.args.count = omega (arith, c.len.ensures, c.loop-place.bytes.ok.0, c.loop-place-test.true) in
    let long : c.len-in-loop-place.result ≡ length bytes = omega (arith, c.len-in-loop-place.ensures, c.loop-place.bytes.ok.0) in
    let left : c.args.count - c.len-in-loop-place.result ≡ c.args.count - length bytes = ap (λ (n : ℕ). c.args.count - n) long in
    let meant = c.in_ok-next.ensures.meant entries (c.loop-place.invariant.holds entries holds) in
    never_joined entries c.args.place.class c.args.place.trigger c.args.count bytes c.loop-place.piece c.loop-place.invariant.part less
    (piece_as entries _ _ _ _ _ _ c.piece_key.ensures left c.in_default.is meant)

pub loop-place-smaller : goal.loop-place-smaller
unfolding value_limit
loop-place-smaller g c =
    let bytes = c.loop-place.bytes.items in
    let next = c.in-Some.next in
    let less : length bytes < c.args.count = omega (arith, c.len.ensures, c.loop-place.bytes.ok.0, c.loop-place-test.true) in
    let long : c.len-in-loop-place.result ≡ length bytes = omega (arith, c.len-in-loop-place.ensures, c.loop-place.bytes.ok.0) in
    let own : length next ≡ min (c.args.count - c.len-in-loop-place.result) value_limit =
    subst (λ (o : Option (List ℕ)). IfSome o (λ p. length p ≡ min (c.args.count - c.len-in-loop-place.result) value_limit)) c.in-Some.is c.in_ok-next.ensures.long in
    let items : c.extend_from_slice.new.self.items ≡ bytes ++ next = c.in_ok-extend_from_slice.ensures.items ∙ ap (λ (xs : List ℕ). bytes ++ xs) c.as_slice.ensures in
    let grown : length c.extend_from_slice.new.self.items ≡ length bytes + length next = ap length items ∙ length-append bytes next in
    let smaller : c.args.count - length c.extend_from_slice.new.self.items < c.args.count - length bytes = omega (arith, grown, own, long, less) in
    smaller

pub loop-place-preserved : goal.loop-place-preserved
loop-place-preserved g c =
    let bytes = c.loop-place.bytes.items in
    let next = c.in-Some.next in
    let invariant = c.loop-place.invariant in
    let less : length bytes < c.args.count = omega (arith, c.len.ensures, c.loop-place.bytes.ok.0, c.loop-place-test.true) in
    let long : c.len-in-loop-place.result ≡ length bytes = omega (arith, c.len-in-loop-place.ensures, c.loop-place.bytes.ok.0) in
    let left : c.args.count - c.len-in-loop-place.result ≡ c.args.count - length bytes = ap (λ (n : ℕ). c.args.count - n) long in
    let own : length next ≡ min (c.args.count - length bytes) value_limit =
    subst (λ (o : Option (List ℕ)). IfSome o (λ p. length p ≡ min (c.args.count - c.len-in-loop-place.result) value_limit)) c.in-Some.is c.in_ok-next.ensures.long
    ∙ ap (λ (n : ℕ). min n value_limit) left in
    let items : c.extend_from_slice.new.self.items ≡ bytes ++ next = c.in_ok-extend_from_slice.ensures.items ∙ ap (λ (xs : List ℕ). bytes ++ xs) c.as_slice.ensures in
    let grown : length c.extend_from_slice.new.self.items ≡ length bytes + length next = ap length items ∙ length-append bytes next in
    record {
      live = c.in_ok-next.ensures.usable;
      looks = looks_joined _ _ _ invariant.looks c.in_ok-next.ensures.looks;
      faults = ⊎_elim (λ err. cc (err)) (λ same. same ∙ invariant.faults) c.in_ok-next.ensures.cause.calm;
      holds = λ entries holds. c.in_ok-next.ensures.holds entries (invariant.holds entries holds);
      part =
          subst (λ (n : ℕ). IsPart c.args.count n (c.loop-place.piece + 1)) (sym grown)
          (part_more c.args.count (length bytes) (length next) c.loop-place.piece invariant.part less own);
      read = λ entries holds.
          let meant = c.in_ok-next.ensures.meant entries (invariant.holds entries holds) in
          subst (λ (xs : List ℕ). IsPartly entries c.args.place.class c.args.place.trigger c.args.count xs (c.loop-place.piece + 1)) (sym items)
          (read_more entries c.args.place.class c.args.place.trigger c.args.count bytes c.loop-place.piece invariant.part (invariant.read entries holds) less next
          (piece_as entries _ _ _ _ _ _ c.piece_key.ensures left c.in-Some.is meant));
    }

pub returns-clause-meant : goal.returns-clause-meant
returns-clause-meant g c = λ entries holds.
    let bytes = c.loop-place.bytes.items in
    let all : c.args.count ≤ length bytes = omega (arith, c.len.ensures, c.loop-place.bytes.ok.0, c.loop-place-test.false) in
    subst (IsJoined entries c.args.place.class c.args.place.trigger c.args.count) (sym c.from_vec.ensures)
    (all_read entries c.args.place.class c.args.place.trigger c.args.count bytes c.loop-place.piece c.loop-place.invariant.part (c.loop-place.invariant.read entries holds) all)
