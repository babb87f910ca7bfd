-- Parameters: a part for each number of them that may still come.
use Rattle.std.proofs.Common.{◌≤◌, ℕ, zero, suc, List, [], ◌∷◌, ◌++◌, refl, arith}
use Rattle.ode_lex.specs.declared.token.Mark.TheVariants as mark
use Rattle.ode_grammar.specs.declared.item.Item.{Item}
use Rattle.ode_grammar.specs.declared.item.Item.TheVariants as item
use Rattle.ode_grammar.specs.declared.item.Part.TheVariants as part
use Rattle.ode_grammar.specs.declared.terminal.Terminal.TheVariants as terminal
use Rattle.ode_grammar.specs.Classes.{one_param}
use Rattle.ode_grammar.specs.Grammar.{row_of}
use Rattle.ode_grammar.specs.Texts.{Next, Rule}
use Rattle.ode_syntax.specs.Kept.{kept_as, Spelled}
use Rattle.ode_reread.proofs.Both.{Both}
use Rattle.ode_reread.proofs.Marked.{marked}
use Rattle.ode_reread.proofs.Prints.{Ds}

-- the item at which at most so many parameters more may come
abbrev pub more_part : ℕ → Item
more_part zero = item.Token terminal.CloseParen
more_part (suc zero) = item.Part part.SixteenthParam
more_part (suc (suc zero)) = item.Part part.FifteenthParam
more_part (suc (suc (suc zero))) = item.Part part.FourteenthParam
more_part (suc (suc (suc (suc zero)))) = item.Part part.ThirteenthParam
more_part (suc (suc (suc (suc (suc zero))))) = item.Part part.TwelfthParam
more_part (suc (suc (suc (suc (suc (suc zero)))))) = item.Part part.EleventhParam
more_part (suc (suc (suc (suc (suc (suc (suc zero))))))) = item.Part part.TenthParam
more_part (suc (suc (suc (suc (suc (suc (suc (suc zero)))))))) = item.Part part.NinthParam
more_part (suc (suc (suc (suc (suc (suc (suc (suc (suc zero))))))))) = item.Part part.EighthParam
more_part (suc (suc (suc (suc (suc (suc (suc (suc (suc (suc zero)))))))))) = item.Part part.SeventhParam
more_part (suc (suc (suc (suc (suc (suc (suc (suc (suc (suc (suc zero))))))))))) = item.Part part.SixthParam
more_part (suc (suc (suc (suc (suc (suc (suc (suc (suc (suc (suc (suc zero)))))))))))) = item.Part part.FifthParam
more_part (suc (suc (suc (suc (suc (suc (suc (suc (suc (suc (suc (suc (suc zero))))))))))))) = item.Part part.FourthParam
more_part (suc (suc (suc (suc (suc (suc (suc (suc (suc (suc (suc (suc (suc (suc zero)))))))))))))) = item.Part part.ThirdParam
more_part (suc (suc (suc (suc (suc (suc (suc (suc (suc (suc (suc (suc (suc (suc (suc zero))))))))))))))) = item.Part part.SecondParam
more_part (suc (suc (suc (suc (suc (suc (suc (suc (suc (suc (suc (suc (suc (suc (suc (suc n)))))))))))))))) = item.Token terminal.CloseParen

pub last_param : (n : ℕ) → n ≤ 15 → (items : List Item) (b : Both) (ts : List Spelled) (out : Both) → Ds items b ts out → Ds (more_part n ∷ items) b (marked mark.CloseParen ∷ ts) out
unfolding row_of kept_as
last_param zero l items b ts out d = Next terminal.CloseParen refl d
last_param (suc zero) l items b ts out d = Rule part.SixteenthParam [] refl d
last_param (suc (suc zero)) l items b ts out d = Rule part.FifteenthParam [] refl d
last_param (suc (suc (suc zero))) l items b ts out d = Rule part.FourteenthParam [] refl d
last_param (suc (suc (suc (suc zero)))) l items b ts out d = Rule part.ThirteenthParam [] refl d
last_param (suc (suc (suc (suc (suc zero))))) l items b ts out d = Rule part.TwelfthParam [] refl d
last_param (suc (suc (suc (suc (suc (suc zero)))))) l items b ts out d = Rule part.EleventhParam [] refl d
last_param (suc (suc (suc (suc (suc (suc (suc zero))))))) l items b ts out d = Rule part.TenthParam [] refl d
last_param (suc (suc (suc (suc (suc (suc (suc (suc zero)))))))) l items b ts out d = Rule part.NinthParam [] refl d
last_param (suc (suc (suc (suc (suc (suc (suc (suc (suc zero))))))))) l items b ts out d = Rule part.EighthParam [] refl d
last_param (suc (suc (suc (suc (suc (suc (suc (suc (suc (suc zero)))))))))) l items b ts out d = Rule part.SeventhParam [] refl d
last_param (suc (suc (suc (suc (suc (suc (suc (suc (suc (suc (suc zero))))))))))) l items b ts out d = Rule part.SixthParam [] refl d
last_param (suc (suc (suc (suc (suc (suc (suc (suc (suc (suc (suc (suc zero)))))))))))) l items b ts out d = Rule part.FifthParam [] refl d
last_param (suc (suc (suc (suc (suc (suc (suc (suc (suc (suc (suc (suc (suc zero))))))))))))) l items b ts out d = Rule part.FourthParam [] refl d
last_param (suc (suc (suc (suc (suc (suc (suc (suc (suc (suc (suc (suc (suc (suc zero)))))))))))))) l items b ts out d = Rule part.ThirdParam [] refl d
last_param (suc (suc (suc (suc (suc (suc (suc (suc (suc (suc (suc (suc (suc (suc (suc zero))))))))))))))) l items b ts out d = Rule part.SecondParam [] refl d
last_param (suc (suc (suc (suc (suc (suc (suc (suc (suc (suc (suc (suc (suc (suc (suc (suc n)))))))))))))))) l items b ts out d = absurd (omega arith)

pub next_param : (n : ℕ) → n ≤ 14 → (items : List Item) (b : Both) (ts : List Spelled) (out : Both) → Ds (one_param (more_part n) ++ items) b ts out
    → Ds (more_part (suc n) ∷ items) b (marked mark.Comma ∷ ts) out
unfolding row_of kept_as
next_param zero l items b ts out d = Rule part.SixteenthParam (one_param (item.Token terminal.CloseParen)) refl d
next_param (suc zero) l items b ts out d = Rule part.FifteenthParam (one_param (item.Part part.SixteenthParam)) refl d
next_param (suc (suc zero)) l items b ts out d = Rule part.FourteenthParam (one_param (item.Part part.FifteenthParam)) refl d
next_param (suc (suc (suc zero))) l items b ts out d = Rule part.ThirteenthParam (one_param (item.Part part.FourteenthParam)) refl d
next_param (suc (suc (suc (suc zero)))) l items b ts out d = Rule part.TwelfthParam (one_param (item.Part part.ThirteenthParam)) refl d
next_param (suc (suc (suc (suc (suc zero))))) l items b ts out d = Rule part.EleventhParam (one_param (item.Part part.TwelfthParam)) refl d
next_param (suc (suc (suc (suc (suc (suc zero)))))) l items b ts out d = Rule part.TenthParam (one_param (item.Part part.EleventhParam)) refl d
next_param (suc (suc (suc (suc (suc (suc (suc zero))))))) l items b ts out d = Rule part.NinthParam (one_param (item.Part part.TenthParam)) refl d
next_param (suc (suc (suc (suc (suc (suc (suc (suc zero)))))))) l items b ts out d = Rule part.EighthParam (one_param (item.Part part.NinthParam)) refl d
next_param (suc (suc (suc (suc (suc (suc (suc (suc (suc zero))))))))) l items b ts out d = Rule part.SeventhParam (one_param (item.Part part.EighthParam)) refl d
next_param (suc (suc (suc (suc (suc (suc (suc (suc (suc (suc zero)))))))))) l items b ts out d = Rule part.SixthParam (one_param (item.Part part.SeventhParam)) refl d
next_param (suc (suc (suc (suc (suc (suc (suc (suc (suc (suc (suc zero))))))))))) l items b ts out d = Rule part.FifthParam (one_param (item.Part part.SixthParam)) refl d
next_param (suc (suc (suc (suc (suc (suc (suc (suc (suc (suc (suc (suc zero)))))))))))) l items b ts out d = Rule part.FourthParam (one_param (item.Part part.FifthParam)) refl d
next_param (suc (suc (suc (suc (suc (suc (suc (suc (suc (suc (suc (suc (suc zero))))))))))))) l items b ts out d = Rule part.ThirdParam (one_param (item.Part part.FourthParam)) refl d
next_param (suc (suc (suc (suc (suc (suc (suc (suc (suc (suc (suc (suc (suc (suc zero)))))))))))))) l items b ts out d = Rule part.SecondParam (one_param (item.Part part.ThirdParam)) refl d
next_param (suc (suc (suc (suc (suc (suc (suc (suc (suc (suc (suc (suc (suc (suc (suc n))))))))))))))) l items b ts out d = absurd (omega arith)
