use Rattle.std.proofs.Common.{◌-◌, [], ◌∷◌, refl, sym, ap, ◌∙◌, ⊎_elim, arith}
use Rattle.std.proofs.lemmas.Result.{err_from_is_err_and}
use Rattle.ode_script.specs.Cutting.{pieces_from}
use Rattle.ode_script.specs.Pieces.{begun, line_after}
use Rattle.ode_script.proofs.Chunks.{taken_left}
use Rattle.ode_script.proofs.Cuts.{bars_blank, ends_by, pieces-blank}
use Rattle.ode_script.proofs.reader.Reader.skip_blanks.Goals as goal

pub returns-in_err-b-clause-blanks : goal.returns-in_err-b-clause-blanks
returns-in_err-b-clause-blanks g c = λ ps left.
    let so_far = c.loop-b.invariant.left ps left in
    let p = err_from_is_err_and c.from_residual.result c.from_residual.ensures.1 in
    rw (p.1, p.2) (ends_by ps (begun c.loop-b.self.line) c.loop-b.self.allowed c.loop-b.self.line so_far.rest _ so_far.are (c.in_err-b.ensures.byte so_far.rest so_far.left)
    (bars_blank c.loop-b.self.line _ _ _ c.in_err-b.ensures.allowed c.in_err-b.ensures.bars))

pub loop-b-preserved : goal.loop-b-preserved
loop-b-preserved g c = record {
  left = λ ps left.
      let so_far = c.loop-b.invariant.left ps left in
      let next = rw c.in-Some.is at (c.in_ok-b.ensures.byte so_far.rest so_far.left) in
      let counts = c.take.ensures.counts in
      record {
        rest = next.0;
        left = taken_left c.peek.new.self c.take.new.self _ c.in-Some.b next.0 c.take.ensures.held next.2;
        are = so_far.are ∙ ap (pieces_from c.loop-b.self.allowed c.loop-b.self.line) next.1
            ∙ pieces-blank c.loop-b.self.allowed c.loop-b.self.line c.take.new.self.allowed c.take.new.self.line c.in-Some.b (omega (arith, counts.some, c.in_ok-b.ensures.allowed))
            (counts.allowed ∙ ap (λ n. n - 1) c.in_ok-b.ensures.allowed) (counts.line ∙ ap (λ l. line_after l c.in-Some.b) c.in_ok-b.ensures.line) next.0 (sym c.if-not-is_blank.ensures);
      };
  allowed = omega (arith, c.take.ensures.counts.allowed, c.in_ok-b.ensures.allowed);
  faults = ⊎_elim (λ err. cc (err)) (λ same. same ∙ c.loop-b.invariant.faults) c.in_ok-b.ensures.cause.calm;
}

pub returns-then-not-is_blank-clause-blanks : goal.returns-then-not-is_blank-clause-blanks
returns-then-not-is_blank-clause-blanks g c = λ ps left.
    let so_far = c.loop-b.invariant.left ps left in
    let next = rw c.in-Some.is at (c.in_ok-b.ensures.byte so_far.rest so_far.left) in (
      record {
        rest = c.in-Some.b ∷ next.0;
        left = next.2;
        are = so_far.are ∙ ap (pieces_from c.loop-b.self.allowed c.loop-b.self.line) next.1
            ∙ ap (λ n. pieces_from n c.loop-b.self.line (c.in-Some.b ∷ next.0)) (sym c.in_ok-b.ensures.allowed)
            ∙ ap (λ l. pieces_from c.peek.new.self.allowed l (c.in-Some.b ∷ next.0)) (sym c.in_ok-b.ensures.line);
      },
      sym c.if-not-is_blank.ensures,
    )

pub returns-in_default-clause-blanks : goal.returns-in_default-clause-blanks
returns-in_default-clause-blanks g c = λ ps left.
    let so_far = c.loop-b.invariant.left ps left in
    let none = rw c.in_default.is at (c.in_ok-b.ensures.byte so_far.rest so_far.left) in (
      record {
        rest = [];
        left = none.1;
        are = so_far.are ∙ ap (pieces_from c.loop-b.self.allowed c.loop-b.self.line) none.0
            ∙ ap (λ n. pieces_from n c.loop-b.self.line []) (sym c.in_ok-b.ensures.allowed)
            ∙ ap (λ l. pieces_from c.peek.new.self.allowed l []) (sym c.in_ok-b.ensures.line);
      },
      refl,
    )
