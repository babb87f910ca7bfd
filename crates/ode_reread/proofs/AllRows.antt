-- What the rows of all parts do.
use Rattle.std.proofs.Common.{◌≡◌, List, Option, Some, None, sym, ap, ◌∙◌, subst}
use Rattle.std.proofs.lemmas.Option.{none-some, same_Some}
use Rattle.ode_grammar.specs.declared.item.Part.{Part}
use Rattle.ode_grammar.specs.declared.item.Part.TheVariants as part
use Rattle.ode_grammar.specs.declared.item.Action.{Action}
use Rattle.ode_grammar.specs.declared.item.Action.TheVariants as action
use Rattle.ode_grammar.specs.declared.item.Item.{Item}
use Rattle.ode_grammar.specs.declared.terminal.Terminal.{Terminal}
use Rattle.ode_grammar.specs.Grammar.{after, row_of, skipped, standing}
use Rattle.ode_grammar.proofs.Follows.{IfRow}
use Rattle.ode_terminals.specs.declared.seen.Place.{Place}
use Rattle.ode_reread.proofs.Both.{Both, make}
use Rattle.ode_reread.proofs.Effects.{added, ands_rows, compare_rows, dots_rows, expr_rows, factors_rows, ors_rows, sums_rows, unary_rows, Effect, Replaces, RowIs}
use Rattle.ode_reread.proofs.EventRows.{after_what_rows, before_what_rows, event_ands_rows, event_as_is, event_mask_rows, event_ors_rows, event_unary_rows, kind_rows, mask_rows, more_prior_rows, more_relative_rows, more_sequence_rows, no_event_mask, no_mask, period_rows, time_what_rows}
use Rattle.ode_reread.proofs.Prints.{nothing}

-- ---- all parts

any_row : (place : Place) (p : Part) (k : Terminal) (r : Option (List Item)) → ((b w : Both) → Effect place p b w) → IfRow (RowIs place p k) r
any_row place p k None f = tt
any_row place p k (Some row) f = λ kd bytes s b w l. f b w

all_rows : (place : Place) (p : Part) (k : Terminal) → IfRow (RowIs place p k) (row_of p k)
all_rows place part.Expr k = expr_rows place k
all_rows place part.Unary k = unary_rows place k
all_rows place part.Dots k = dots_rows place k
all_rows place part.Factors k = factors_rows place k
all_rows place part.Sums k = sums_rows place k
all_rows place part.Compare k = compare_rows place k
all_rows place part.Ands k = ands_rows place k
all_rows place part.Ors k = ors_rows place k
all_rows place part.EventUnary k = event_unary_rows place k
all_rows place part.EventAnds k = event_ands_rows place k
all_rows place part.EventOrs k = event_ors_rows place k
all_rows place part.MoreRelative k = more_relative_rows place k
all_rows place part.MorePrior k = more_prior_rows place k
all_rows place part.MoreSequence k = more_sequence_rows place k
all_rows place part.Mask k = mask_rows place k
all_rows place part.EventMask k = event_mask_rows place k
all_rows place part.Kind k = kind_rows place k
all_rows place part.AfterWhat k = after_what_rows place k
all_rows place part.BeforeWhat k = before_what_rows place k
all_rows place part.TimeWhat k = time_what_rows place k
all_rows place part.Period k = period_rows place k
all_rows place other k = any_row place other k (row_of other k) (λ b w. tt)

-- ---- parts that are left out

kept_as_is : (place : Place) (b : Both) (a : Action) → Some action.Nothing ≡ Some a → Replaces place b (make a b)
kept_as_is place b a f = λ e h c is good.
    added place c (make a b) e h good (ap (λ x. make x b) (sym (same_Some action.Nothing a f)) ∙ (nothing b ∙ is))

pub left_out : (place : Place) (p : Part) (a : Action) (b : Both) → skipped p ≡ Some a → Effect place p b (make a b)
unfolding skipped
left_out place part.Expr a b e = absurd (none-some a e)
left_out place part.Unary a b e = absurd (none-some a e)
left_out place part.Dots a b e = kept_as_is place b a e
left_out place part.Factors a b e = kept_as_is place b a e
left_out place part.Sums a b e = kept_as_is place b a e
left_out place part.Compare a b e = kept_as_is place b a e
left_out place part.Ands a b e = kept_as_is place b a e
left_out place part.Ors a b e = kept_as_is place b a e
left_out place part.EventAnds a b e = event_as_is place b a e
left_out place part.EventOrs a b e = event_as_is place b a e
left_out place part.Mask a b e = no_mask place b a e
left_out place part.EventMask a b e = no_event_mask place b a e
left_out place part.EventUnary a b e = absurd (none-some a e)
left_out place part.MoreRelative a b e = absurd (none-some a e)
left_out place part.MorePrior a b e = absurd (none-some a e)
left_out place part.MoreSequence a b e = absurd (none-some a e)
left_out place part.Kind a b e = absurd (none-some a e)
left_out place part.AfterWhat a b e = absurd (none-some a e)
left_out place part.BeforeWhat a b e = absurd (none-some a e)
left_out place part.TimeWhat a b e = absurd (none-some a e)
left_out place part.Period a b e = absurd (none-some a e)
left_out place other a b e = tt

-- the row of a part does what the part does
pub row_is : (place : Place) (p : Part) (k : Terminal) (row : List Item) → row_of p k ≡ Some row → RowIs place p k row
row_is place p k row e = subst (IfRow (RowIs place p k)) e (all_rows place p k)

pub row_does : (place : Place) (p : Part) (k : Terminal) (row : List Item) → after p k ≡ Some row → RowIs place p (standing p k) row
row_does place p k row e = row_is place p (standing p k) row e
