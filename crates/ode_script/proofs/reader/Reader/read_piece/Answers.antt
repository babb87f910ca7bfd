use Rattle.std.proofs.Common.{◌-◌, [], ◌∷◌, length, refl, sym, ap, ◌∙◌, ⊎_elim, arith, length-append}
use Rattle.std.specs.Prelude.{◌&&◌}
use Rattle.std.proofs.lemmas.Result.{err_from_is_err_and}
use Rattle.ode_script.specs.Cutting.{Then, cut, pieces_from}
use Rattle.ode_script.specs.Left.{starts_blank}
use Rattle.ode_script.specs.Pieces.{line_after, is_empty}
use Rattle.ode_script.proofs.Chunks.{taken_left}
use Rattle.ode_value.specs.Limits.{statement_limit}
use Rattle.ode_script.proofs.Cuts.{bars_same, room_left, ends_by, takes_last, last_within, cut-last, cut-on, is_empty-append, depth_after-le}
use Rattle.ode_script.proofs.reader.Reader.read_piece.Goals as goal

pub returns-in_err-skip_blanks-clause-piece : goal.returns-in_err-skip_blanks-clause-piece
returns-in_err-skip_blanks-clause-piece g c = λ ps left.
    let p = err_from_is_err_and c.from_residual.result c.from_residual.ensures.1 in
    rw (p.1, p.2) (c.in_err-skip_blanks.ensures.blanks ps left)

pub loop-part-init : goal.loop-part-init
loop-part-init g c = record {
  left = λ ps left.
      let skipped = c.in_ok-skip_blanks.ensures.blanks ps left in (
        skipped.0.rest,
        skipped.0.are ∙ ap (λ p. cut p c.skip_blanks.new.self.allowed c.skip_blanks.new.self.line skipped.0.rest) (sym c.new-part.ensures),
        ap (λ p. is_empty p.text && starts_blank skipped.0.rest) c.new-part.ensures ∙ skipped.1,
        skipped.0.left,
      );
  shallow = omega (arith, ap (λ p. p.depth) c.new-part.ensures, c.skip_blanks.new.self.countable);
  within = omega (arith, ap (λ p. length p.text) c.new-part.ensures);
  fewer = omega (arith, ap (λ p. length p.text) c.new-part.ensures, c.in_ok-skip_blanks.ensures.allowed);
  faults = ⊎_elim (λ err. cc (err)) (λ same. same) c.in_ok-skip_blanks.ensures.cause.calm;
}

pub returns-in_err-b-clause-piece : goal.returns-in_err-b-clause-piece
returns-in_err-b-clause-piece g c = λ ps left.
    let so_far = c.loop-part.invariant.left ps left in
    let p = err_from_is_err_and c.from_residual-in_err-b.result c.from_residual-in_err-b.ensures.1 in
    rw (p.1, p.2) (ends_by ps c.loop-part.part c.loop-part.self.allowed c.loop-part.self.line so_far.0 _ so_far.1 (c.in_err-b.ensures.byte so_far.0 so_far.3)
    (bars_same _ _ _ _ _ c.is_full.ensures c.in_err-b.ensures.allowed c.in_err-b.ensures.bars))

pub returns-then-is_last-clause-piece : goal.returns-then-is_last-clause-piece
returns-then-is_last-clause-piece g c = λ ps left.
    let so_far = c.loop-part.invariant.left ps left in
    let next = rw c.in-Some.is at (c.in_ok-b.ensures.byte so_far.0 so_far.3) in
    let counts = c.take.ensures.counts in
    let inside = ap (λ r. is_empty c.loop-part.part.text && starts_blank r) (sym next.1) ∙ so_far.2 in
    rw c.into_statement.ensures (
      pieces_from c.take.new.self.allowed c.take.new.self.line next.0,
      so_far.1 ∙ ap (cut c.loop-part.part c.loop-part.self.allowed c.loop-part.self.line) next.1
          ∙ cut-last c.loop-part.self.allowed c.loop-part.self.line c.take.new.self.allowed c.take.new.self.line c.in-Some.b
          (omega (arith, counts.some, c.in_ok-b.ensures.allowed)) (counts.allowed ∙ ap (λ n. n - 1) c.in_ok-b.ensures.allowed) (counts.line ∙ ap (λ l. line_after l c.in-Some.b) c.in_ok-b.ensures.line) next.0
          c.loop-part.part inside (sym c.is_full.ensures ∙ rw c.in-Some.is at c.in_ok-b.ensures.room refl) (sym c.if-is_last.ensures)
          ∙ ap (λ p. Then p.line p.text (pieces_from c.take.new.self.allowed c.take.new.self.line next.0)) (sym c.in_ok-push.ensures),
      record { rest = next.0; left = taken_left c.peek.new.self c.take.new.self _ c.in-Some.b next.0 c.take.ensures.held next.2; are = refl },
    )

pub loop-part-preserved : goal.loop-part-preserved
loop-part-preserved g c = record {
  left = λ ps left.
      let so_far = c.loop-part.invariant.left ps left in
      let next = rw c.in-Some.is at (c.in_ok-b.ensures.byte so_far.0 so_far.3) in
      let counts = c.take.ensures.counts in
      let inside = ap (λ r. is_empty c.loop-part.part.text && starts_blank r) (sym next.1) ∙ so_far.2 in (
        next.0,
        so_far.1 ∙ ap (cut c.loop-part.part c.loop-part.self.allowed c.loop-part.self.line) next.1
            ∙ cut-on c.loop-part.self.allowed c.loop-part.self.line c.take.new.self.allowed c.take.new.self.line c.in-Some.b
            (omega (arith, counts.some, c.in_ok-b.ensures.allowed)) (counts.allowed ∙ ap (λ n. n - 1) c.in_ok-b.ensures.allowed) (counts.line ∙ ap (λ l. line_after l c.in-Some.b) c.in_ok-b.ensures.line) next.0
            c.loop-part.part inside (sym c.is_full.ensures ∙ rw c.in-Some.is at c.in_ok-b.ensures.room refl) (sym c.if-is_last.ensures)
            ∙ ap (λ p. cut p c.take.new.self.allowed c.take.new.self.line next.0) (sym c.in_ok-push.ensures),
        ap (λ p. is_empty p.text && starts_blank next.0) c.in_ok-push.ensures ∙ ap (λ t. t && starts_blank next.0) (is_empty-append c.loop-part.part.text c.in-Some.b),
        taken_left c.peek.new.self c.take.new.self _ c.in-Some.b next.0 c.take.ensures.held next.2,
      );
  shallow =
      let counts = c.take.ensures.counts in
      omega (arith, counts.some, counts.allowed, c.in_ok-b.ensures.allowed, ap (λ p. p.depth) c.in_ok-push.ensures, depth_after-le c.loop-part.part.place c.loop-part.part.depth c.in-Some.b);
  within = omega (arith, ap (λ p. length p.text) c.in_ok-push.ensures, length-append c.loop-part.part.text (c.in-Some.b ∷ []), room_left c.loop-part.part (sym c.is_full.ensures ∙ rw c.in-Some.is at c.in_ok-b.ensures.room refl));
  fewer =
      let counts = c.take.ensures.counts in
      omega (arith, counts.some, counts.allowed, c.in_ok-b.ensures.allowed, ap (λ p. length p.text) c.in_ok-push.ensures, length-append c.loop-part.part.text (c.in-Some.b ∷ []));
  faults = ⊎_elim (λ err. cc (err)) (λ same. same ∙ c.loop-part.invariant.faults) c.in_ok-b.ensures.cause.calm;
}

pub returns-clause-piece : goal.returns-clause-piece
returns-clause-piece g c = λ ps left.
    let so_far = c.loop-part.invariant.left ps left in
    let none = rw c.in_default.is at (c.in_ok-b.ensures.byte so_far.0 so_far.3) in
    takes_last ps c.peek.new.self _ c.into_last.result
    (so_far.1 ∙ ap (cut c.loop-part.part c.loop-part.self.allowed c.loop-part.self.line) none.0 ∙ c.into_last.ensures.piece) none.1

pub returns-clause-fewer : goal.returns-clause-fewer
returns-clause-fewer g c = λ is. omega (arith, c.into_last.ensures.some is, c.in_ok-b.ensures.allowed)

pub returns-clause-short : goal.returns-clause-short
returns-clause-short g c = last_within c.loop-part.part c.args.self.now.allowed c.into_last.result (omega (arith, c.loop-part.invariant.fewer)) c.into_last.ensures.piece

pub returns-clause-within : goal.returns-clause-within
returns-clause-within g c = last_within c.loop-part.part statement_limit c.into_last.result c.loop-part.invariant.within c.into_last.ensures.piece
