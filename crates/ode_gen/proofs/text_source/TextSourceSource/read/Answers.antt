use Rattle.std.proofs.Common.{◌≡◌, ◌∙◌, ◌++◌, ◌+◌, ◌-◌, [], List, ℕ, length, take, drop, ap, sym, arith, take-append-drop, length-drop}
use Rattle.std.proofs.lemmas.List.{take_all, drop_all, drop-drop}
use Rattle.ode_gen.proofs.text_source.TextSourceSource.read.Goals as goal

pub returns-clause-bytes : goal.returns-clause-bytes
returns-clause-bytes c =
    let text = c.args.self.now.text in
    let at = c.args.self.now.at in
    let n = c.copy_some-count.result in
    let all = c.as_slice.result.now in
    let rest : take (length all - at) (drop at all) ≡ drop at text =
    take_all (length all - at) (drop at all) (omega (arith, length-drop at all)) ∙ ap (λ (l : List ℕ). drop at l) c.as_slice.ensures in
    let later : drop n (drop at text) ≡ drop (at + n) text = drop-drop n at text in (
      sym (take-append-drop n (drop at text)) ∙ ap (λ (l : List ℕ). take n l ++ drop n (drop at text)) (sym rest)
          ∙ ap (λ (l : List ℕ). l ++ drop n (drop at text)) (sym c.copy_some-count.ensures.bytes) ∙ ap (λ (l : List ℕ). take n c.copy_some-count.new.to ++ l) later,
      λ none some. sym later ∙ ap (λ (l : List ℕ). drop n l) (sym rest ∙ c.copy_some-count.ensures.end none (omega (arith, some))) ∙ drop_all n [] (omega arith),
    )
