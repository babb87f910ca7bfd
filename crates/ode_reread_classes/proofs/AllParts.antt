-- What the rows of all parts do, and what whole texts do.
use Rattle.std.proofs.Common.{◌≡◌, ℕ, List, Option, Some, None, refl, sym, ◌∙◌, ap, subst}
use Rattle.std.proofs.lemmas.Option.{none-some, same_Some}
use Rattle.ode_grammar.specs.declared.item.Action.{Action}
use Rattle.ode_grammar.specs.declared.item.Action.TheVariants as action
use Rattle.ode_grammar.specs.declared.item.Item.{Item}
use Rattle.ode_grammar.specs.declared.item.Part.{Part}
use Rattle.ode_grammar.specs.declared.item.Part.TheVariants as part
use Rattle.ode_grammar.specs.declared.terminal.Terminal.{Terminal}
use Rattle.ode_grammar.specs.Grammar.{after, row_of, skipped, standing}
use Rattle.ode_grammar.specs.Texts.{Derives, Done, Next, Make, Rule, Skip}
use Rattle.ode_grammar.proofs.Follows.{IfRow}
use Rattle.ode_grammar.proofs.TerminalLaws.{stands_at}
use Rattle.ode_terminals.specs.declared.seen.Place.{Place}
use Rattle.ode_syntax.specs.Kept.{Spelled}
use Rattle.ode_reread.proofs.AllRows.{left_out, row_does}
use Rattle.ode_reread.proofs.Both.{both, keep, make, Both}
use Rattle.ode_reread.proofs.Effects.{spelt}
use Rattle.ode_reread.proofs.Prints.{nothing}
use Rattle.ode_reread.proofs.Readings.{kept_so}
use Rattle.ode_reread.proofs.Sounds.{sound_so, Sounds}
use Rattle.ode_reread_classes.proofs.ChangeRows.{additions_rows, literal_rows, negative_rows, no_additions}
use Rattle.ode_reread_classes.proofs.Does.{old, parted, Changes, Does, GoodMembers, News, RowDoes}
use Rattle.ode_reread_classes.proofs.MemberRows.{class_rows, second_param_rows, third_param_rows, fourth_param_rows, fifth_param_rows, sixth_param_rows, seventh_param_rows, eighth_param_rows, ninth_param_rows, tenth_param_rows, eleventh_param_rows, twelfth_param_rows, thirteenth_param_rows, fourteenth_param_rows, fifteenth_param_rows, sixteenth_param_rows, field_or_method_rows, initial_rows, lasting_rows, members_rows, mode_rows, more_kinds_rows, no_initial, no_lasting, no_mode, no_parent, no_scope, params_rows, parent_rows, scope_rows, sort_rows}
use Rattle.ode_reread_classes.proofs.Puts.{with_body, with_members}
use Rattle.ode_reread_classes.proofs.ScriptRows.{clock_text_rows, statement_rows}
use Rattle.ode_reread_classes.proofs.SideRows.{args_rows, call_dot_rows, chained_rows, more_args_rows, more_sets_rows, rhs_dot_rows, rhs_dots_rows, rhs_name_rows, rhs_rows, script_rhs_rows, sets_rows}
use Rattle.ode_reread_classes.proofs.StatementRows.{else_rows, inner_name_rows, inners_rows, no_else, return_value_rows}
use Rattle.ode_reread_classes.proofs.Statements.{GoodBody}

-- ---- all parts

any_row : (place : Place) (p : Part) (k : Terminal) (r : Option (List Item)) → ((b w : Both) → News place p b w) → IfRow (RowDoes place p k) r
any_row place p k None f = tt
any_row place p k (Some row) f = λ kd bytes s b w l. f b w

all_rows : (place : Place) → (p : Part) (k : Terminal) → IfRow (RowDoes place p k) (row_of p k)
all_rows place part.Args k = args_rows place k
all_rows place part.MoreArgs k = more_args_rows place k
all_rows place part.Sets k = sets_rows place k
all_rows place part.MoreSets k = more_sets_rows place k
all_rows place part.Chained k = chained_rows place k
all_rows place part.CallDot k = call_dot_rows place k
all_rows place part.Rhs k = rhs_rows place k
all_rows place part.RhsDots k = rhs_dots_rows place k
all_rows place part.RhsDot k = rhs_dot_rows place k
all_rows place part.RhsName k = rhs_name_rows place k
all_rows place part.Inners k = inners_rows place k
all_rows place part.InnerName k = inner_name_rows place k
all_rows place part.ReturnValue k = return_value_rows place k
all_rows place part.Else k = else_rows place k
all_rows place part.Sort k = sort_rows place k
all_rows place part.Params k = params_rows place k
all_rows place part.SecondParam k = second_param_rows place k
all_rows place part.ThirdParam k = third_param_rows place k
all_rows place part.FourthParam k = fourth_param_rows place k
all_rows place part.FifthParam k = fifth_param_rows place k
all_rows place part.SixthParam k = sixth_param_rows place k
all_rows place part.SeventhParam k = seventh_param_rows place k
all_rows place part.EighthParam k = eighth_param_rows place k
all_rows place part.NinthParam k = ninth_param_rows place k
all_rows place part.TenthParam k = tenth_param_rows place k
all_rows place part.EleventhParam k = eleventh_param_rows place k
all_rows place part.TwelfthParam k = twelfth_param_rows place k
all_rows place part.ThirteenthParam k = thirteenth_param_rows place k
all_rows place part.FourteenthParam k = fourteenth_param_rows place k
all_rows place part.FifteenthParam k = fifteenth_param_rows place k
all_rows place part.SixteenthParam k = sixteenth_param_rows place k
all_rows place part.MoreKinds k = more_kinds_rows place k
all_rows place part.Initial k = initial_rows place k
all_rows place part.Lasting k = lasting_rows place k
all_rows place part.Scope k = scope_rows place k
all_rows place part.Mode k = mode_rows place k
all_rows place part.Parent k = parent_rows place k
all_rows place part.Members k = members_rows place k
all_rows place part.FieldOrMethod k = field_or_method_rows place k
all_rows place part.Class k = class_rows place k
all_rows place part.ScriptRhs k = script_rhs_rows place k
all_rows place part.ClockText k = clock_text_rows place k
all_rows place part.Statement k = statement_rows place k
all_rows place part.Literal k = literal_rows place k
all_rows place part.Negative k = negative_rows place k
all_rows place part.Additions k = additions_rows place k
all_rows place other k = any_row place other k (row_of other k) (λ b w. tt)

news_does : (place : Place) (p : Part) (k : Terminal) (row : List Item) → after p k ≡ Some row → RowDoes place p (standing p k) row
news_does place p k row e = subst (IfRow (RowDoes place p (standing p k))) e (all_rows place p (standing p k))

-- ---- parts that are left out

kept_as_is : {X : Type 0} (put : X → ℕ → Both → Both) (P : ℕ → X → Type 0) (b : Both) (a : Action) → Some action.Nothing ≡ Some a → Changes put P b (make a b)
kept_as_is put P b a f = λ x n c is good. record { x = x; n = n; good = good; is = ap (λ y. make y b) (sym (same_Some action.Nothing a f)) ∙ (nothing b ∙ is) }

done_as : (place : Place) (p : Part) (b : Both) (x a : Action) → News place p b (make x b) → Some x ≡ Some a → News place p b (make a b)
done_as place p b x a n f = subst (λ y. News place p b (make y b)) (same_Some x a f) n

left : (place : Place) (p : Part) (a : Action) (b : Both) → skipped p ≡ Some a → News place p b (make a b)
unfolding skipped
left place part.Inners a b e = kept_as_is with_body (GoodBody place) b a e
left place part.Members a b e = kept_as_is with_members (GoodMembers place) b a e
left place part.Else a b e = done_as place part.Else b action.Absent a (no_else place b) e
left place part.Parent a b e = done_as place part.Parent b action.NoParent a (no_parent place b) e
left place part.Initial a b e = done_as place part.Initial b action.NotInitial a (no_initial place b) e
left place part.Lasting a b e = done_as place part.Lasting b action.Once a (no_lasting place b) e
left place part.Scope a b e = done_as place part.Scope b action.Committed a (no_scope place b) e
left place part.Mode a b e = done_as place part.Mode b action.Immediate a (no_mode place b) e
left place part.Additions a b e = done_as place part.Additions b action.Nothing a (no_additions place b) e
left place part.Args a b e = absurd (none-some a e)
left place part.MoreArgs a b e = absurd (none-some a e)
left place part.Sets a b e = absurd (none-some a e)
left place part.MoreSets a b e = absurd (none-some a e)
left place part.Chained a b e = absurd (none-some a e)
left place part.CallDot a b e = absurd (none-some a e)
left place part.Rhs a b e = absurd (none-some a e)
left place part.RhsDots a b e = absurd (none-some a e)
left place part.RhsDot a b e = absurd (none-some a e)
left place part.RhsName a b e = absurd (none-some a e)
left place part.InnerName a b e = absurd (none-some a e)
left place part.ReturnValue a b e = absurd (none-some a e)
left place part.Sort a b e = absurd (none-some a e)
left place part.Params a b e = absurd (none-some a e)
left place part.SecondParam a b e = absurd (none-some a e)
left place part.ThirdParam a b e = absurd (none-some a e)
left place part.FourthParam a b e = absurd (none-some a e)
left place part.FifthParam a b e = absurd (none-some a e)
left place part.SixthParam a b e = absurd (none-some a e)
left place part.SeventhParam a b e = absurd (none-some a e)
left place part.EighthParam a b e = absurd (none-some a e)
left place part.NinthParam a b e = absurd (none-some a e)
left place part.TenthParam a b e = absurd (none-some a e)
left place part.EleventhParam a b e = absurd (none-some a e)
left place part.TwelfthParam a b e = absurd (none-some a e)
left place part.ThirteenthParam a b e = absurd (none-some a e)
left place part.FourteenthParam a b e = absurd (none-some a e)
left place part.FifteenthParam a b e = absurd (none-some a e)
left place part.SixteenthParam a b e = absurd (none-some a e)
left place part.MoreKinds a b e = absurd (none-some a e)
left place part.FieldOrMethod a b e = absurd (none-some a e)
left place part.Class a b e = absurd (none-some a e)
left place part.ScriptRhs a b e = absurd (none-some a e)
left place part.ClockText a b e = absurd (none-some a e)
left place part.Statement a b e = absurd (none-some a e)
left place part.Literal a b e = absurd (none-some a e)
left place part.Negative a b e = absurd (none-some a e)
left place other a b e = tt

-- ---- whole texts

-- a text does what its items do
pub does : {items : List Item} {b : Both} {ts : List Spelled} {out : Both} → (place : Place) → Derives both items b ts out → Sounds place ts → Does place items b out
does place Done s = refl
does {b = b} {out = out} place (Next {items = items} {t = t} k e d) s = (
  t.kind,
  t.bytes,
  sound_so place t k e s.0,
  subst (λ c. Does place items c out) (kept_so t k b e) (does place d s.1),
)
does place (Make a d) s = does place d s
does {b = b} {out = out} place (Rule {items = items} {t = t} p row e d) s =
    let x = parted place row items (keep t b) out (does place d s.1) in
    let k = standing p t.terminal in
    let f = stands_at p t.terminal in
    let sound = sound_so place t k f s.0 in
    let first = subst (λ c. Does place row c x.mid) (kept_so t k b f) x.first in
    let before = row_does place p t.terminal row e t.kind t.bytes sound b x.mid (old place row (keep (spelt k t.kind t.bytes) b) x.mid first) in
    (x.mid, (before, news_does place p t.terminal row e t.kind t.bytes sound b x.mid first), x.behind)
does {b = b} place (Skip p a e d) s = (make a b, (left_out place p a b e, left place p a b e), does place d s)
