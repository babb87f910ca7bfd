-- What the rows of event expressions do: one adds a good event expression.
use Rattle.std.proofs.Common.{◌≡◌, ◌≤◌, ◌<◌, ◌^◌, ℕ, ◌+◌, ℤ, max, Bool, true, false, cond, codes, pos, negsuc, ◌==◌, ◌||◌, nat_le, List, [], ◌∷◌, ◌++◌, Option, Some, None, refl, sym, ◌∙◌, ap, subst, arith}
use Rattle.std.specs.Str.{bytes_eq}
use Rattle.std.proofs.lemmas.Bool.{false≢true}
use Rattle.std.proofs.lemmas.Bool.Decides.{nat_tests}
use Rattle.std.proofs.lemmas.Option.{same_Some}
use Rattle.ode_lex.specs.declared.token.Mark.{Mark}
use Rattle.ode_lex.specs.declared.token.Mark.TheVariants as mark
use Rattle.ode_lex.specs.declared.token.TokenKind.{TokenKind}
use Rattle.ode_lex.specs.declared.token.TokenKind.TheVariants as kind
use Rattle.ode_grammar.specs.declared.item.Part.TheVariants as part
use Rattle.ode_grammar.specs.declared.item.Action.{Action}
use Rattle.ode_grammar.specs.declared.item.Action.TheVariants as action
use Rattle.ode_grammar.specs.declared.item.Item.TheVariants as item
use Rattle.ode_grammar.specs.declared.terminal.Terminal.{Terminal}
use Rattle.ode_grammar.specs.declared.terminal.Terminal.TheVariants as terminal
use Rattle.ode_grammar.specs.Events.{evand, event as whole_event, folded, counted, of_one, of_three, of_two}
use Rattle.ode_grammar.specs.Grammar.{row_of}
use Rattle.ode_grammar.proofs.Follows.{IfRow}
use Rattle.ode_heights.specs.declared.height.Height.{Height}
use Rattle.ode_heights.specs.Heights.{above, in_pair, leaf, raised}
use Rattle.ode_terminals.specs.declared.seen.Place.{Place}
use Rattle.ode_terminals.specs.declared.seen.Place.TheVariants as place_of
use Rattle.ode_terminals.specs.Seen.{instant_terminal, mark_terminal, number_terminal, reference_terminal, seen, this_terminal}
use Rattle.ode_terminals.specs.Words.{free_words, rows, word_terminal}
use Rattle.ode_value.specs.Limits.{choose_limit}
use Rattle.ode_value.specs.declared.event.EventExpr.{EventExpr}
use Rattle.ode_value.specs.declared.event.EventExpr.TheVariants as event
use Rattle.ode_value.specs.declared.event.Kind.{Kind}
use Rattle.ode_value.specs.declared.event.Kind.TheVariants as point
use Rattle.ode_value.specs.declared.statement.Expr.{Expr}
use Rattle.ode_syntax.specs.Built.{built, built_right_side, built_statement, built_event, second_of}
use Rattle.ode_syntax.specs.Kept.{kept_as, leaf_of, name_of}
use Rattle.ode_reread.proofs.Both.{Both, keep, make}
use Rattle.ode_reread.proofs.Effects.{name_free, spelt, AddsEvent, AddsKind, Masks, MasksPair, ReplacesEvent, RowIs}
use Rattle.ode_reread.proofs.EventGoods.{after_method_good, and_good, any_good, before_method_good, choose_good, create_good, delete_good, delversion_good, event_up, every_good, fa_good, faabs_good, first_good, masked_event_good, masked_good, newversion_good, not_good, number_leaf, or_good, pipe_good, plain_good, prior_good, relative_good, relplus_good, sequence_good, small_count, tabort_good, tbegin_good, tcommit_good, tcomplete_good, time_every_good, GoodEvent, GoodInstants}
use Rattle.ode_reread.proofs.EventPrints.{after_method, before_method, choose_counts, create_what, delete_what, delversion_what, every_counts, made_and, made_any, made_at, made_every, made_fa, made_faabs, made_first, made_or, made_pair, made_pipe, made_relplus, made_unmasked, newversion_what, paired, prior_folds, relative_folds, sequence_folds, tabort_what, tbegin_what, tcommit_what, tcomplete_what, with_event, with_kind, with_leaf_on}
use Rattle.ode_reread.proofs.Marked.{with_expr, with_mark_on, with_name}
use Rattle.ode_reread.proofs.Prints.{nothing}
use Rattle.ode_reread.proofs.Sounds.{either, is_operator, never, operator_is_mark, seen_as, Sound}

event_replaced : (place : Place) (b c w : Both) → AddsEvent place b c → ReplacesEvent place c w → AddsEvent place b w
event_replaced place b c w a r = r a.e a.h b a.is a.good

event_finished : (place : Place) (b c w : Both) → AddsEvent place b c → c ≡ w → AddsEvent place b w
event_finished place b c w a e = subst (λ x. AddsEvent place b x) e a

event_added : (place : Place) (b m : Both) (e : EventExpr) (h : Height) → (GoodInstants place → GoodEvent place e h) → m ≡ with_event e h b → AddsEvent place b m
event_added place b m e h good is = record { e = e; h = h; good = good; is = is }

-- an event expression of its three parts
three : (place : Place) (b c d f : Both) → AddsEvent place b c → ReplacesEvent place c d → ReplacesEvent place d f → AddsEvent place b f
three place b c d f x y z = event_replaced place b d f (event_replaced place b c d x y) z

-- ---- operators and brackets

made_not : (m : Mark) (e : EventExpr) (h : Height) (b : Both) → make action.NotEvent (with_event e h (with_mark_on m b)) ≡ with_event (event.Not e) (above h.own) b
unfolding built built_right_side built_statement built_event raised
made_not m e h b = refl

not_after : (place : Place) → RowIs place part.EventUnary terminal.Not (item.Part part.EventUnary ∷ item.Build action.NotEvent ∷ [])
unfolding kept_as
not_after place kd bytes s b w l =
    let m = operator_is_mark place terminal.Not kd bytes (seen_as is_operator refl s refl) refl in
    let a = l.1 in
    let same : keep (spelt terminal.Not kd bytes) b ≡ with_mark_on m.0 b = ap (λ j. keep (spelt terminal.Not j bytes) b) m.1 in
    let is = ap (make action.NotEvent) (a.is ∙ ap (with_event a.e a.h) same) ∙ made_not m.0 a.e a.h b in
    event_finished place b (make action.NotEvent l.0) w (event_added place b (make action.NotEvent l.0) (event.Not a.e) (above a.h.own) (λ i. not_good place a.e a.h (a.good i)) is) l.2

in_brackets_up : (h : Height) → h.own ≤ in_pair h
in_brackets_up h = cases h.bare
  where
    cases : (c : Bool) → h.own ≤ cond c (h.own + 1) h.own
    cases true = omega arith
    cases false = omega arith

paren_after : (place : Place)
    → RowIs place part.EventUnary terminal.OpenParen (whole_event ++ item.Token terminal.CloseParen ∷ item.Build action.EventPair ∷ item.Part part.EventMask ∷ [])
unfolding kept_as
paren_after place kd bytes s b w l =
    let a = three place b l.0 l.2.0 l.2.2.0 l.1 l.2.1 l.2.2.1 in
    let m = l.2.2.2.3 in
    event_finished place b m.0 w (m.1 a.e a.h b (ap (make action.EventPair) a.is ∙ made_pair a.e a.h b) a.good) m.2

any_after : (place : Place) → RowIs place part.EventUnary terminal.Any (item.Build action.Any ∷ [])
unfolding kept_as
any_after place kd bytes s b w l = event_added place b w event.Any leaf (λ i. any_good place) (sym l ∙ made_any b)

first_after : (place : Place) → RowIs place part.EventUnary terminal.First (item.Build action.First ∷ [])
unfolding kept_as
first_after place kd bytes s b w l = event_added place b w event.First leaf (λ i. first_good place) (sym l ∙ made_first b)

and_after : (place : Place) → RowIs place part.EventAnds terminal.And (item.Part part.EventUnary ∷ item.Build action.AndEvents ∷ item.Part part.EventAnds ∷ [])
unfolding kept_as
and_after place kd bytes s b w l = λ e h c is good.
    let a = l.1 in
    let x = event_added place c (make action.AndEvents l.0) (event.And e a.e) (above (max h.own a.h.own)) (λ i. and_good place e a.e h a.h (good i) (a.good i))
    (ap (make action.AndEvents) (a.is ∙ ap (with_event a.e a.h) is) ∙ made_and e a.e h a.h c) in
    event_finished place c l.2.0 w (event_replaced place c (make action.AndEvents l.0) l.2.0 x l.2.1) l.2.2

or_after : (place : Place) → RowIs place part.EventOrs terminal.Or (evand ++ item.Build action.OrEvents ∷ item.Part part.EventOrs ∷ [])
unfolding kept_as
or_after place kd bytes s b w l = λ e h c is good.
    let a = event_replaced place b l.0 l.2.0 l.1 l.2.1 in
    let x = event_added place c (make action.OrEvents l.2.0) (event.Or e a.e) (above (max h.own a.h.own)) (λ i. or_good place e a.e h a.h (good i) (a.good i))
    (ap (make action.OrEvents) (a.is ∙ ap (with_event a.e a.h) is) ∙ made_or e a.e h a.h c) in
    let r = l.2.2 in
    event_finished place c r.0 w (event_replaced place c (make action.OrEvents l.2.0) r.0 x r.1) r.2

-- ---- words with parts in brackets

relative_after : (place : Place) → RowIs place part.EventUnary terminal.Relative (folded (item.Build action.Relative) (item.Part part.MoreRelative))
unfolding kept_as
relative_after place kd bytes s b w l =
    let p = l.3 in
    let first = three place b p.0 p.2.0 p.2.2.0 p.1 p.2.1 p.2.2.1 in
    let q = p.2.2.2.3 in
    let second = three place p.2.2.0 q.0 q.2.0 q.2.2.0 q.1 q.2.1 q.2.2.1 in
    let x = event_added place b (make action.Relative q.2.2.0) (event.Relative first.e second.e) (above (max first.h.own second.h.own)) (λ i. relative_good place first.e second.e first.h second.h (first.good i) (second.good i))
    (ap (make action.Relative) (second.is ∙ ap (with_event second.e second.h) first.is) ∙ relative_folds.made first.e second.e first.h second.h b) in
    let r = q.2.2.2 in
    event_finished place b r.0 w (event_replaced place b (make action.Relative q.2.2.0) r.0 x r.1) r.2

more_relative_after : (place : Place) → RowIs place part.MoreRelative terminal.Comma (whole_event ++ item.Build action.Relative ∷ item.Part part.MoreRelative ∷ [])
unfolding kept_as
more_relative_after place kd bytes s b w l = λ e h c is good.
    let second = three place b l.0 l.2.0 l.2.2.0 l.1 l.2.1 l.2.2.1 in
    let x = event_added place c (make action.Relative l.2.2.0) (event.Relative e second.e) (above (max h.own second.h.own)) (λ i. relative_good place e second.e h second.h (good i) (second.good i))
    (ap (make action.Relative) (second.is ∙ ap (with_event second.e second.h) is) ∙ relative_folds.made e second.e h second.h c) in
    let r = l.2.2.2 in
    event_finished place c r.0 w (event_replaced place c (make action.Relative l.2.2.0) r.0 x r.1) r.2

more_relative_ends : (place : Place) → RowIs place part.MoreRelative terminal.CloseParen []
unfolding kept_as
more_relative_ends place kd bytes s b w l = λ e h c is good. event_added place c w e h good (sym l ∙ is)

prior_after : (place : Place) → RowIs place part.EventUnary terminal.Prior (folded (item.Build action.Prior) (item.Part part.MorePrior))
unfolding kept_as
prior_after place kd bytes s b w l =
    let p = l.3 in
    let first = three place b p.0 p.2.0 p.2.2.0 p.1 p.2.1 p.2.2.1 in
    let q = p.2.2.2.3 in
    let second = three place p.2.2.0 q.0 q.2.0 q.2.2.0 q.1 q.2.1 q.2.2.1 in
    let x = event_added place b (make action.Prior q.2.2.0) (event.Prior first.e second.e) (above (max first.h.own second.h.own)) (λ i. prior_good place first.e second.e first.h second.h (first.good i) (second.good i))
    (ap (make action.Prior) (second.is ∙ ap (with_event second.e second.h) first.is) ∙ prior_folds.made first.e second.e first.h second.h b) in
    let r = q.2.2.2 in
    event_finished place b r.0 w (event_replaced place b (make action.Prior q.2.2.0) r.0 x r.1) r.2

more_prior_after : (place : Place) → RowIs place part.MorePrior terminal.Comma (whole_event ++ item.Build action.Prior ∷ item.Part part.MorePrior ∷ [])
unfolding kept_as
more_prior_after place kd bytes s b w l = λ e h c is good.
    let second = three place b l.0 l.2.0 l.2.2.0 l.1 l.2.1 l.2.2.1 in
    let x = event_added place c (make action.Prior l.2.2.0) (event.Prior e second.e) (above (max h.own second.h.own)) (λ i. prior_good place e second.e h second.h (good i) (second.good i))
    (ap (make action.Prior) (second.is ∙ ap (with_event second.e second.h) is) ∙ prior_folds.made e second.e h second.h c) in
    let r = l.2.2.2 in
    event_finished place c r.0 w (event_replaced place c (make action.Prior l.2.2.0) r.0 x r.1) r.2

more_prior_ends : (place : Place) → RowIs place part.MorePrior terminal.CloseParen []
unfolding kept_as
more_prior_ends place kd bytes s b w l = λ e h c is good. event_added place c w e h good (sym l ∙ is)

sequence_after : (place : Place) → RowIs place part.EventUnary terminal.Sequence (folded (item.Build action.Sequence) (item.Part part.MoreSequence))
unfolding kept_as
sequence_after place kd bytes s b w l =
    let p = l.3 in
    let first = three place b p.0 p.2.0 p.2.2.0 p.1 p.2.1 p.2.2.1 in
    let q = p.2.2.2.3 in
    let second = three place p.2.2.0 q.0 q.2.0 q.2.2.0 q.1 q.2.1 q.2.2.1 in
    let x = event_added place b (make action.Sequence q.2.2.0) (event.Sequence first.e second.e) (above (max first.h.own second.h.own)) (λ i. sequence_good place first.e second.e first.h second.h (first.good i) (second.good i))
    (ap (make action.Sequence) (second.is ∙ ap (with_event second.e second.h) first.is) ∙ sequence_folds.made first.e second.e first.h second.h b) in
    let r = q.2.2.2 in
    event_finished place b r.0 w (event_replaced place b (make action.Sequence q.2.2.0) r.0 x r.1) r.2

more_sequence_after : (place : Place) → RowIs place part.MoreSequence terminal.Comma (whole_event ++ item.Build action.Sequence ∷ item.Part part.MoreSequence ∷ [])
unfolding kept_as
more_sequence_after place kd bytes s b w l = λ e h c is good.
    let second = three place b l.0 l.2.0 l.2.2.0 l.1 l.2.1 l.2.2.1 in
    let x = event_added place c (make action.Sequence l.2.2.0) (event.Sequence e second.e) (above (max h.own second.h.own)) (λ i. sequence_good place e second.e h second.h (good i) (second.good i))
    (ap (make action.Sequence) (second.is ∙ ap (with_event second.e second.h) is) ∙ sequence_folds.made e second.e h second.h c) in
    let r = l.2.2.2 in
    event_finished place c r.0 w (event_replaced place c (make action.Sequence l.2.2.0) r.0 x r.1) r.2

more_sequence_ends : (place : Place) → RowIs place part.MoreSequence terminal.CloseParen []
unfolding kept_as
more_sequence_ends place kd bytes s b w l = λ e h c is good. event_added place c w e h good (sym l ∙ is)

relplus_after : (place : Place) → RowIs place part.EventUnary terminal.RelPlus (of_one (item.Build action.RelPlus))
unfolding kept_as
relplus_after place kd bytes s b w l =
    let p = l.3 in
    let name = name_of bytes in
    let a = three place (with_name name b) p.0 p.2.0 p.2.2.0 p.1 p.2.1 p.2.2.1 in
    let d = p.2.2.0 in
    let made = ap (make action.RelPlus) a.is ∙ made_relplus name a.e a.h b in
    event_finished place b (make action.RelPlus d) w (event_added place b (make action.RelPlus d) (event.RelPlus a.e) (above a.h.own) (λ i. relplus_good place a.e a.h (a.good i)) made) p.2.2.2.3

pipe_after : (place : Place) → RowIs place part.EventUnary terminal.Pipe (of_two (item.Build action.Pipe))
unfolding kept_as
pipe_after place kd bytes s b w l =
    let p = l.3 in
    let name = name_of bytes in
    let x = three place (with_name name b) p.0 p.2.0 p.2.2.0 p.1 p.2.1 p.2.2.1 in
    let q = p.2.2.2.3 in
    let y = three place p.2.2.0 q.0 q.2.0 q.2.2.0 q.1 q.2.1 q.2.2.1 in
    let d = q.2.2.0 in
    let made = ap (make action.Pipe) (y.is ∙ ap (with_event y.e y.h) x.is) ∙ made_pipe name x.e y.e x.h y.h b in
    event_finished place b (make action.Pipe d) w
    (event_added place b (make action.Pipe d) (event.Pipe x.e y.e) (above (max x.h.own y.h.own)) (λ i. pipe_good place x.e y.e x.h y.h (x.good i) (y.good i)) made) q.2.2.2.3

fa_after : (place : Place) → RowIs place part.EventUnary terminal.Fa (of_three (item.Build action.Fa))
unfolding kept_as
fa_after place kd bytes s b w l =
    let p = l.3 in
    let x = three place b p.0 p.2.0 p.2.2.0 p.1 p.2.1 p.2.2.1 in
    let q = p.2.2.2.3 in
    let y = three place p.2.2.0 q.0 q.2.0 q.2.2.0 q.1 q.2.1 q.2.2.1 in
    let r = q.2.2.2.3 in
    let z = three place q.2.2.0 r.0 r.2.0 r.2.2.0 r.1 r.2.1 r.2.2.1 in
    let d = r.2.2.0 in
    let made = ap (make action.Fa) (z.is ∙ ap (with_event z.e z.h) (y.is ∙ ap (with_event y.e y.h) x.is)) ∙ made_fa x.e y.e z.e x.h y.h z.h b in
    event_finished place b (make action.Fa d) w
    (event_added place b (make action.Fa d) (event.Fa x.e y.e z.e) (above (max x.h.own (max y.h.own z.h.own))) (λ i. fa_good place x.e y.e z.e x.h y.h z.h (x.good i) (y.good i) (z.good i)) made)
    r.2.2.2.3

faabs_after : (place : Place) → RowIs place part.EventUnary terminal.FaAbs (of_three (item.Build action.FaAbs))
unfolding kept_as
faabs_after place kd bytes s b w l =
    let p = l.3 in
    let name = name_of bytes in
    let x = three place (with_name name b) p.0 p.2.0 p.2.2.0 p.1 p.2.1 p.2.2.1 in
    let q = p.2.2.2.3 in
    let y = three place p.2.2.0 q.0 q.2.0 q.2.2.0 q.1 q.2.1 q.2.2.1 in
    let r = q.2.2.2.3 in
    let z = three place q.2.2.0 r.0 r.2.0 r.2.2.0 r.1 r.2.1 r.2.2.1 in
    let d = r.2.2.0 in
    let made = ap (make action.FaAbs) (z.is ∙ ap (with_event z.e z.h) (y.is ∙ ap (with_event y.e y.h) x.is)) ∙ made_faabs name x.e y.e z.e x.h y.h z.h b in
    event_finished place b (make action.FaAbs d) w
    (event_added place b (make action.FaAbs d) (event.FaAbs x.e y.e z.e) (above (max x.h.own (max y.h.own z.h.own))) (λ i. faabs_good place x.e y.e z.e x.h y.h z.h (x.good i) (y.good i) (z.good i)) made)
    r.2.2.2.3

-- ---- numbers

abbrev is_count : Terminal → Bool
is_count terminal.Count = true
is_count terminal.Seconds = true
is_count other = false

mark_no_count : (m : Mark) → is_count (mark_terminal m) ≡ false
mark_no_count mark.OpenBrace = refl
mark_no_count mark.CloseBrace = refl
mark_no_count mark.OpenParen = refl
mark_no_count mark.CloseParen = refl
mark_no_count mark.Semi = refl
mark_no_count mark.Comma = refl
mark_no_count mark.Dot = refl
mark_no_count mark.Colon = refl
mark_no_count mark.Assign = refl
mark_no_count mark.Equal = refl
mark_no_count mark.NotEqual = refl
mark_no_count mark.Less = refl
mark_no_count mark.LessEqual = refl
mark_no_count mark.Greater = refl
mark_no_count mark.GreaterEqual = refl
mark_no_count mark.Plus = refl
mark_no_count mark.Minus = refl
mark_no_count mark.Star = refl
mark_no_count mark.Slash = refl
mark_no_count mark.Percent = refl
mark_no_count mark.Not = refl
mark_no_count mark.AndAnd = refl
mark_no_count mark.OrOr = refl
mark_no_count mark.Arrow = refl

word_no_count : (w : List ℕ) → is_count (word_terminal w) ≡ false
unfolding word_terminal
word_no_count w = never is_count (rows ++ free_words) w refl refl

this_no_count : (place : Place) → is_count (this_terminal place) ≡ false
this_no_count place_of.Script = refl
this_no_count place_of.Class = refl
this_no_count place_of.Change = refl
this_no_count place_of.Query = refl
this_no_count place_of.Comparison = refl
this_no_count place_of.Anywhere = refl

reference_no_count : (place : Place) → is_count (reference_terminal place) ≡ false
reference_no_count place_of.Script = refl
reference_no_count place_of.Class = refl
reference_no_count place_of.Change = refl
reference_no_count place_of.Query = refl
reference_no_count place_of.Comparison = refl
reference_no_count place_of.Anywhere = refl

text_no_count : (o : Option ℤ) → is_count (instant_terminal o) ≡ false
text_no_count None = refl
text_no_count (Some n) = refl

-- the token is a number, and not a negative one
number_is : (place : Place) (k : Terminal) (kd : TokenKind) (bytes : List ℕ) → k ≡ seen place bytes kd → is_count k ≡ true
    → (n : ℕ) × (kd ≡ kind.Number (pos n)) × (k ≡ number_terminal (pos n))
number_is place k kind.Word bytes e o =
    absurd (false≢true (sym (either is_count (bytes_eq bytes (codes "this")) (this_terminal place) (word_terminal bytes) (this_no_count place) (word_no_count bytes)) ∙ (ap is_count (sym e) ∙ o)))
number_is place k (kind.Number (pos n)) bytes e o = (n, refl, e)
number_is place k (kind.Number (negsuc n)) bytes e o = absurd (false≢true (ap is_count (sym e) ∙ o))
number_is place k kind.Text bytes e o = absurd (false≢true (sym (text_no_count _) ∙ (ap is_count (sym e) ∙ o)))
number_is place k (kind.Reference r) bytes e o = absurd (false≢true (sym (reference_no_count place) ∙ (ap is_count (sym e) ∙ o)))
number_is place k (kind.Mark m) bytes e o = absurd (false≢true (sym (mark_no_count m) ∙ (ap is_count (sym e) ∙ o)))

count_tests : (c d : Bool) → terminal.Count ≡ cond c terminal.Number (cond d terminal.Count terminal.Seconds) → (c ≡ false) × (d ≡ true)
count_tests true d e = absurd (cc)
count_tests false true e = (refl, refl)
count_tests false false e = absurd (cc)

seconds_tests : (c d : Bool) → terminal.Seconds ≡ cond c terminal.Number (cond d terminal.Count terminal.Seconds) → c ≡ false
seconds_tests true d e = absurd (cc)
seconds_tests false d e = refl

wide : (n : ℕ) → (n == 0 || nat_le (2 ^ 32) n) ≡ false → (0 < n) × (n < 2 ^ 32)
wide n e = (grind (arith, nat_tests), grind (arith, nat_tests))

narrow : (n : ℕ) → nat_le n choose_limit ≡ true → n ≤ choose_limit
narrow n e = grind (arith, nat_tests)

record CountIs (kd : TokenKind) : Type 0 where
  pub n : ℕ
  pub is : kd ≡ kind.Number (pos n)
  pub some : 0 < n
  pub small : n ≤ choose_limit

count_is : (place : Place) (kd : TokenKind) (bytes : List ℕ) → Sound place (spelt terminal.Count kd bytes) → CountIs kd
count_is place kd bytes s =
    let m = number_is place terminal.Count kd bytes (seen_as is_count refl s refl) refl in
    let t = count_tests (m.0 == 0 || nat_le (2 ^ 32) m.0) (nat_le m.0 choose_limit) m.2 in
    record { n = m.0; is = m.1; some = (wide m.0 t.0).0; small = narrow m.0 t.1 }

choose_after : (place : Place) → RowIs place part.EventUnary terminal.Choose (counted (item.Build action.Choose))
unfolding kept_as
choose_after place kd bytes s b w l =
    let m = count_is place l.0 l.1 l.2 in
    let kept : keep (spelt terminal.Count l.0 l.1) b ≡ with_leaf_on (number_leaf m.n) b = ap (λ j. keep (spelt terminal.Count j l.1) b) m.is in
    let p = l.3.3 in
    let a = three place (keep (spelt terminal.Count l.0 l.1) b) p.0 p.2.0 p.2.2.0 p.1 p.2.1 p.2.2.1 in
    let d = p.2.2.0 in
    let made = ap (make action.Choose) (a.is ∙ ap (with_event a.e a.h) kept) ∙ (choose_counts.made (number_leaf m.n) a.e a.h b ∙ ap (λ x. with_event (event.Choose x a.e) (above a.h.own) b) (small_count m.n (omega (arith, m.small)))) in
    event_finished place b (make action.Choose d) w (event_added place b (make action.Choose d) (event.Choose m.n a.e) (above a.h.own) (λ i. choose_good place m.n a.e a.h m.some m.small (a.good i)) made) p.2.2.2.3

every_after : (place : Place) → RowIs place part.EventUnary terminal.Every (counted (item.Build action.Every))
unfolding kept_as
every_after place kd bytes s b w l =
    let m = count_is place l.0 l.1 l.2 in
    let kept : keep (spelt terminal.Count l.0 l.1) b ≡ with_leaf_on (number_leaf m.n) b = ap (λ j. keep (spelt terminal.Count j l.1) b) m.is in
    let p = l.3.3 in
    let a = three place (keep (spelt terminal.Count l.0 l.1) b) p.0 p.2.0 p.2.2.0 p.1 p.2.1 p.2.2.1 in
    let d = p.2.2.0 in
    let made = ap (make action.Every) (a.is ∙ ap (with_event a.e a.h) kept) ∙ (every_counts.made (number_leaf m.n) a.e a.h b ∙ ap (λ x. with_event (event.Every x a.e) (above a.h.own) b) (small_count m.n (omega (arith, m.small)))) in
    event_finished place b (make action.Every d) w (event_added place b (make action.Every d) (event.Every m.n a.e) (above a.h.own) (λ i. every_good place m.n a.e a.h m.some m.small (a.good i)) made) p.2.2.2.3

record PeriodIs (kd : TokenKind) : Type 0 where
  pub n : ℕ
  pub is : kd ≡ kind.Number (pos n)
  pub some : 0 < n
  pub small : n < 2 ^ 32

seconds_is : (place : Place) (kd : TokenKind) (bytes : List ℕ) → Sound place (spelt terminal.Seconds kd bytes) → PeriodIs kd
seconds_is place kd bytes s =
    let m = number_is place terminal.Seconds kd bytes (seen_as is_count refl s refl) refl in
    let t = seconds_tests (m.0 == 0 || nat_le (2 ^ 32) m.0) (nat_le m.0 choose_limit) m.2 in
    let r = wide m.0 t in
    record { n = m.0; is = m.1; some = r.0; small = r.1 }

period_after : (place : Place) (k : Terminal) → ((kd : TokenKind) (bytes : List ℕ) → Sound place (spelt k kd bytes) → PeriodIs kd)
    → ((n : ℕ) (bytes : List ℕ) (b : Both) → keep (spelt k (kind.Number (pos n)) bytes) b ≡ with_leaf_on (number_leaf n) b)
    → RowIs place part.Period k (item.Build action.TimeEvery ∷ [])
period_after place k known kept kd bytes s b w l =
    let m = known kd bytes s in
    let same : keep (spelt k kd bytes) b ≡ with_leaf_on (number_leaf m.n) b = ap (λ j. keep (spelt k j bytes) b) m.is ∙ kept m.n bytes b in
    record {
      k = point.TimeEvery m.n;
      good = λ i. time_every_good place m.n m.some m.small;
      is = sym l ∙ (ap (make action.TimeEvery) same ∙ (made_every (number_leaf m.n) b ∙ ap (λ x. with_kind (point.TimeEvery x) b) (small_count m.n m.small)));
    }

pub period_rows : (place : Place) (k : Terminal) → IfRow (RowIs place part.Period k) (row_of part.Period k)
unfolding row_of kept_as
period_rows place terminal.Seconds = period_after place terminal.Seconds (seconds_is place) (λ n bytes b. refl)
period_rows place terminal.Count = period_after place terminal.Count (λ kd bytes s. let m = count_is place kd bytes s in record { n = m.n; is = m.is; some = m.some; small = omega (arith, m.small) }) (λ n bytes b. refl)
period_rows place other = tt

-- ---- kinds

create_after : (place : Place) → RowIs place part.AfterWhat terminal.Create (item.Build action.AfterCreate ∷ [])
unfolding kept_as
create_after place kd bytes s b w l = record { k = point.Create; good = λ i. create_good place; is = sym l ∙ create_what.made b }

tbegin_after : (place : Place) → RowIs place part.AfterWhat terminal.TBegin (item.Build action.AfterTBegin ∷ [])
unfolding kept_as
tbegin_after place kd bytes s b w l = record { k = point.TBegin; good = λ i. tbegin_good place; is = sym l ∙ tbegin_what.made b }

tcommit_after : (place : Place) → RowIs place part.AfterWhat terminal.TCommit (item.Build action.AfterTCommit ∷ [])
unfolding kept_as
tcommit_after place kd bytes s b w l = record { k = point.TCommit; good = λ i. tcommit_good place; is = sym l ∙ tcommit_what.made b }

tabort_after : (place : Place) → RowIs place part.AfterWhat terminal.TAbort (item.Build action.AfterTAbort ∷ [])
unfolding kept_as
tabort_after place kd bytes s b w l = record { k = point.TAbort; good = λ i. tabort_good place; is = sym l ∙ tabort_what.made b }

newversion_after : (place : Place) → RowIs place part.AfterWhat terminal.NewVersion (item.Build action.AfterNewVersion ∷ [])
unfolding kept_as
newversion_after place kd bytes s b w l = record { k = point.NewVersion; good = λ i. newversion_good place; is = sym l ∙ newversion_what.made b }

delete_after : (place : Place) → RowIs place part.BeforeWhat terminal.Delete (item.Build action.BeforeDelete ∷ [])
unfolding kept_as
delete_after place kd bytes s b w l = record { k = point.Delete; good = λ i. delete_good place; is = sym l ∙ delete_what.made b }

tcomplete_after : (place : Place) → RowIs place part.BeforeWhat terminal.TComplete (item.Build action.BeforeTComplete ∷ [])
unfolding kept_as
tcomplete_after place kd bytes s b w l = record { k = point.TComplete; good = λ i. tcomplete_good place; is = sym l ∙ tcomplete_what.made b }

delversion_after : (place : Place) → RowIs place part.BeforeWhat terminal.DropVersion (item.Build action.BeforeDropVersion ∷ [])
unfolding kept_as
delversion_after place kd bytes s b w l = record { k = point.DropVersion; good = λ i. delversion_good place; is = sym l ∙ delversion_what.made b }

after_method_after : (place : Place) → RowIs place part.AfterWhat terminal.Name (item.Build action.AfterMethod ∷ [])
unfolding kept_as
after_method_after place kd bytes s b w l = record { k = point.After (name_of bytes); good = λ i. after_method_good place (name_of bytes) (name_free bytes); is = sym l ∙ after_method.made (name_of bytes) b }

before_method_after : (place : Place) → RowIs place part.BeforeWhat terminal.Name (item.Build action.BeforeMethod ∷ [])
unfolding kept_as
before_method_after place kd bytes s b w l = record { k = point.Before (name_of bytes); good = λ i. before_method_good place (name_of bytes) (name_free bytes); is = sym l ∙ before_method.made (name_of bytes) b }

every_second_after : (place : Place) → RowIs place part.TimeWhat terminal.Every (item.Part part.Period ∷ [])
unfolding kept_as
every_second_after place kd bytes s b w l = subst (λ x. AddsKind place b x) l.2 l.1

at_after : (place : Place) → RowIs place part.TimeWhat terminal.At (item.Token terminal.Instant ∷ item.Build action.TimeAt ∷ [])
unfolding kept_as
at_after place kd bytes s b w l = record {
  k = point.TimeAt (second_of (leaf_of l.0 l.1));
  good = λ i. i (leaf_of l.0 l.1);
  is = sym l.3 ∙ made_at (leaf_of l.0 l.1) b;
}

-- ---- masks

made_masked : (m : Mark) (k : Kind) (e : Expr) (h : Height) (b : Both)
    → make action.Masked (with_expr e h (with_mark_on m (with_kind k b))) ≡ with_event (event.Leaf k (Some e)) (above (max 1 h.own)) b
unfolding built built_right_side built_statement built_event raised
made_masked m k e h b = refl

mask_after : (place : Place) → RowIs place part.Mask terminal.AndAnd (item.Part part.Expr ∷ item.Build action.Masked ∷ [])
unfolding kept_as
mask_after place kd bytes s b w l = λ k c is good.
    let m = operator_is_mark place terminal.AndAnd kd bytes (seen_as is_operator refl s refl) refl in
    let a = l.1 in
    let same : keep (spelt terminal.AndAnd kd bytes) b ≡ with_mark_on m.0 (with_kind k c) = ap (λ j. keep (spelt terminal.AndAnd j bytes) b) m.1 ∙ ap (with_mark_on m.0) is in
    let made = ap (make action.Masked) (a.is ∙ ap (with_expr a.e a.h) same) ∙ made_masked m.0 k a.e a.h c in
    event_added place c w (event.Leaf k (Some a.e)) (above (max 1 a.h.own)) (λ i. masked_good place k a.e a.h (good i) a.good) (sym l.2 ∙ made)

made_masked_event : (m : Mark) (e : EventExpr) (h : Height) (x : Expr) (k : Height) (b : Both)
    → make action.MaskedEvent (with_expr x k (with_mark_on m (with_event e h b))) ≡ with_event (event.Masked e x) (above (max h.own k.own)) b
unfolding built built_right_side built_statement built_event raised
made_masked_event m e h x k b = refl

event_mask_after : (place : Place) → RowIs place part.EventMask terminal.AndAnd (item.Part part.Expr ∷ item.Build action.MaskedEvent ∷ [])
unfolding kept_as
event_mask_after place kd bytes s b w l = λ e h c is good.
    let m = operator_is_mark place terminal.AndAnd kd bytes (seen_as is_operator refl s refl) refl in
    let a = l.1 in
    let same : keep (spelt terminal.AndAnd kd bytes) b ≡ with_mark_on m.0 (with_event e (paired h) c) = ap (λ j. keep (spelt terminal.AndAnd j bytes) b) m.1 ∙ ap (with_mark_on m.0) is in
    let made = ap (make action.MaskedEvent) (a.is ∙ ap (with_expr a.e a.h) same) ∙ made_masked_event m.0 e (paired h) a.e a.h c in
    event_added place c w (event.Masked e a.e) (above (max (in_pair h) a.h.own)) (λ i. masked_event_good place e h a.e a.h (good i) a.good) (sym l.2 ∙ made)

-- a kind in an event expression
kind_then_mask : (place : Place) (b c d w : Both) → AddsKind place b c → Masks place c d → d ≡ w → AddsEvent place b w
kind_then_mask place b c d w a m e = event_finished place b d w (m a.k b a.is a.good) e

pub event_unary_rows : (place : Place) (k : Terminal) → IfRow (RowIs place part.EventUnary k) (row_of part.EventUnary k)
unfolding row_of kept_as
event_unary_rows place terminal.Not = not_after place
event_unary_rows place terminal.OpenParen = paren_after place
event_unary_rows place terminal.Any = any_after place
event_unary_rows place terminal.First = first_after place
event_unary_rows place terminal.After = λ kd bytes s b w l. kind_then_mask place b l.0 l.2.0 w l.1 l.2.1 l.2.2
event_unary_rows place terminal.Before = λ kd bytes s b w l. kind_then_mask place b l.0 l.2.0 w l.1 l.2.1 l.2.2
event_unary_rows place terminal.Time = λ kd bytes s b w l. kind_then_mask place b l.0 l.2.0 w l.1 l.2.1 l.2.2
event_unary_rows place terminal.Relative = relative_after place
event_unary_rows place terminal.Prior = prior_after place
event_unary_rows place terminal.Sequence = sequence_after place
event_unary_rows place terminal.Choose = choose_after place
event_unary_rows place terminal.Every = every_after place
event_unary_rows place terminal.Fa = fa_after place
event_unary_rows place terminal.FaAbs = faabs_after place
event_unary_rows place terminal.RelPlus = relplus_after place
event_unary_rows place terminal.Pipe = pipe_after place
event_unary_rows place other = tt

pub event_ands_rows : (place : Place) (k : Terminal) → IfRow (RowIs place part.EventAnds k) (row_of part.EventAnds k)
unfolding row_of
event_ands_rows place terminal.And = and_after place
event_ands_rows place other = tt

pub event_ors_rows : (place : Place) (k : Terminal) → IfRow (RowIs place part.EventOrs k) (row_of part.EventOrs k)
unfolding row_of
event_ors_rows place terminal.Or = or_after place
event_ors_rows place other = tt

pub more_relative_rows : (place : Place) (k : Terminal) → IfRow (RowIs place part.MoreRelative k) (row_of part.MoreRelative k)
unfolding row_of
more_relative_rows place terminal.Comma = more_relative_after place
more_relative_rows place terminal.CloseParen = more_relative_ends place
more_relative_rows place other = tt

pub more_prior_rows : (place : Place) (k : Terminal) → IfRow (RowIs place part.MorePrior k) (row_of part.MorePrior k)
unfolding row_of
more_prior_rows place terminal.Comma = more_prior_after place
more_prior_rows place terminal.CloseParen = more_prior_ends place
more_prior_rows place other = tt

pub more_sequence_rows : (place : Place) (k : Terminal) → IfRow (RowIs place part.MoreSequence k) (row_of part.MoreSequence k)
unfolding row_of
more_sequence_rows place terminal.Comma = more_sequence_after place
more_sequence_rows place terminal.CloseParen = more_sequence_ends place
more_sequence_rows place other = tt

pub mask_rows : (place : Place) (k : Terminal) → IfRow (RowIs place part.Mask k) (row_of part.Mask k)
unfolding row_of
mask_rows place terminal.AndAnd = mask_after place
mask_rows place other = tt

pub event_mask_rows : (place : Place) (k : Terminal) → IfRow (RowIs place part.EventMask k) (row_of part.EventMask k)
unfolding row_of
event_mask_rows place terminal.AndAnd = event_mask_after place
event_mask_rows place other = tt

pub kind_rows : (place : Place) (k : Terminal) → IfRow (RowIs place part.Kind k) (row_of part.Kind k)
unfolding row_of kept_as
kind_rows place terminal.After = λ kd bytes s b w l. subst (λ x. AddsKind place b x) l.2 l.1
kind_rows place terminal.Before = λ kd bytes s b w l. subst (λ x. AddsKind place b x) l.2 l.1
kind_rows place terminal.Time = λ kd bytes s b w l. subst (λ x. AddsKind place b x) l.2 l.1
kind_rows place other = tt

pub after_what_rows : (place : Place) (k : Terminal) → IfRow (RowIs place part.AfterWhat k) (row_of part.AfterWhat k)
unfolding row_of
after_what_rows place terminal.Create = create_after place
after_what_rows place terminal.Name = after_method_after place
after_what_rows place terminal.TBegin = tbegin_after place
after_what_rows place terminal.TCommit = tcommit_after place
after_what_rows place terminal.TAbort = tabort_after place
after_what_rows place terminal.NewVersion = newversion_after place
after_what_rows place other = tt

pub before_what_rows : (place : Place) (k : Terminal) → IfRow (RowIs place part.BeforeWhat k) (row_of part.BeforeWhat k)
unfolding row_of
before_what_rows place terminal.Delete = delete_after place
before_what_rows place terminal.Name = before_method_after place
before_what_rows place terminal.TComplete = tcomplete_after place
before_what_rows place terminal.DropVersion = delversion_after place
before_what_rows place other = tt

pub time_what_rows : (place : Place) → (k : Terminal) → IfRow (RowIs place part.TimeWhat k) (row_of part.TimeWhat k)
unfolding row_of
time_what_rows place terminal.Every = every_second_after place
time_what_rows place terminal.At = at_after place
time_what_rows place other = tt

-- ---- parts that are left out

pub event_as_is : (place : Place) (b : Both) (a : Action) → Some action.Nothing ≡ Some a → ReplacesEvent place b (make a b)
event_as_is place b a f = λ e h c is good.
    event_added place c (make a b) e h good (ap (λ x. make x b) (sym (same_Some action.Nothing a f)) ∙ (nothing b ∙ is))

pub no_mask : (place : Place) (b : Both) (a : Action) → Some action.Unmasked ≡ Some a → Masks place b (make a b)
no_mask place b a f = λ k c is good.
    event_added place c (make a b) (event.Leaf k None) leaf (λ i. plain_good place k (good i))
    (ap (λ x. make x b) (sym (same_Some action.Unmasked a f)) ∙ (ap (make action.Unmasked) is ∙ made_unmasked k c))

pub no_event_mask : (place : Place) (b : Both) (a : Action) → Some action.Nothing ≡ Some a → MasksPair place b (make a b)
no_event_mask place b a f = λ e h c is good.
    event_added place c (make a b) e (paired h) (λ i. event_up place e h (paired h) (in_brackets_up h) (omega arith) (good i))
    (ap (λ x. make x b) (sym (same_Some action.Nothing a f)) ∙ (nothing b ∙ is))
