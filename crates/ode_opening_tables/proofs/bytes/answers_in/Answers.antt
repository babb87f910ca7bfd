use Rattle.std.proofs.Common.{◌≡◌, ◌+◌, ◌∷◌, ◌++◌, ℕ, List, take, drop, get_or, ap, map, sym, ◌∙◌}
use Rattle.std.proofs.lemmas.List.{drop_more, take-append-drop, take_all}
use Rattle.ode_codec.specs.StoredRows.{bit}
use Rattle.ode_opening_tables.proofs.Spelled.{answers_more, no_answers}
use Rattle.ode_opening_tables.proofs.bytes.answers_in.Goals as goal

pub returns-in_default : goal.returns-in_default
returns-in_default c =
    let bytes = c.args.bytes.now in
    let i = c.loop-byte.byte-index in
    let split : bytes ≡ take i bytes ++ get_or bytes i 0 ∷ drop (i + 1) bytes =
    sym (take-append-drop i bytes) ∙ ap (λ (xs : List ℕ). take i bytes ++ xs) (drop_more bytes i 0 c.loop-byte-test.true) in
    no_answers bytes (take i bytes) (get_or bytes i 0) (drop (i + 1) bytes) split c.in_default.ensures

pub loop-byte-preserved : goal.loop-byte-preserved
loop-byte-preserved c =
    ap (map bit) c.in_ok-push.ensures.ok
    ∙ answers_more c.loop-byte.yes c.in-Some.answer c.args.bytes.now c.loop-byte.byte-index c.loop-byte-test.true c.loop-byte.invariant c.in-Some.ensures

pub returns : goal.returns
returns c = c.loop-byte.invariant ∙ take_all c.loop-byte.byte-index c.args.bytes.now c.loop-byte-test.false
