-- What the rows of classes and their members do.
use Rattle.std.proofs.Common.{◌≡◌, ◌≤◌, ℕ, ◌+◌, max, Bool, true, false, cond, codes, List, [], ◌∷◌, ◌++◌, length, Some, None, refl, sym, ◌∙◌, ap, subst, arith, length-append}
use Rattle.std.specs.Str.{bytes_eq}
use Rattle.ode_lex.specs.declared.token.TokenKind.{TokenKind}
use Rattle.ode_grammar.specs.declared.item.Action.TheVariants as action
use Rattle.ode_grammar.specs.declared.item.Item.{Item}
use Rattle.ode_grammar.specs.declared.item.Item.TheVariants as item
use Rattle.ode_grammar.specs.declared.item.Part.{Part}
use Rattle.ode_grammar.specs.declared.item.Part.TheVariants as part
use Rattle.ode_grammar.specs.declared.terminal.Terminal.{Terminal}
use Rattle.ode_grammar.specs.declared.terminal.Terminal.TheVariants as terminal
use Rattle.ode_grammar.specs.Classes.{method, one_param, test, trigger}
use Rattle.ode_grammar.specs.Grammar.{row_of}
use Rattle.ode_grammar.specs.Statements.{class_rest}
use Rattle.ode_grammar.proofs.Follows.{IfRow}
use Rattle.ode_heights.specs.Heights.{raised}
use Rattle.ode_terminals.specs.declared.seen.Place.{Place}
use Rattle.ode_value.specs.Words.{is_free}
use Rattle.ode_value.specs.declared.binding.Param.{Param}
use Rattle.ode_value.specs.declared.event.Kind.{Kind}
use Rattle.ode_value.specs.declared.event.Mode.TheVariants as mode
use Rattle.ode_value.specs.declared.member.Method.{Method}
use Rattle.ode_value.specs.declared.member.TriggerDecl.{TriggerDecl}
use Rattle.ode_value.specs.declared.statement.Member.{Member}
use Rattle.ode_value.specs.declared.statement.Member.TheVariants as member
use Rattle.ode_value.specs.declared.statement.Sort.{Sort}
use Rattle.ode_value.specs.declared.statement.Sort.TheVariants as sort
use Rattle.ode_syntax.specs.Built.{built, built_right_side, built_statement, built_event, built_kind, built_class, built_member, built_script}
use Rattle.ode_syntax.specs.Kept.{kept_as, mode_of, name_of, sort_of}
use Rattle.ode_reread.proofs.Both.{Both, keep, make}
use Rattle.ode_reread.proofs.Effects.{name_free, spelt, AddsEvent, ReplacesEvent}
use Rattle.ode_reread.proofs.EventGoods.{GoodKind}
use Rattle.ode_reread.proofs.EventPrints.{with_event, with_kind}
use Rattle.ode_reread.proofs.InstantKinds.{instants_good}
use Rattle.ode_reread.proofs.Marked.{with_expr, with_name}
use Rattle.ode_reread_classes.proofs.Classes.{GoodClass, GoodParent}
use Rattle.ode_reread_classes.proofs.Does.{given_by, parted, raised_by, Changes, ChangesParams, Does, Gives, GoodMembers, News, Raises, RowDoes}
use Rattle.ode_reread_classes.proofs.Lists.{one_more, weaker}
use Rattle.ode_reread_classes.proofs.Members.{field_items, member_up, GoodKinds, GoodMember, GoodParam, GoodResult, GoodSort}
use Rattle.ode_reread_classes.proofs.Parts.{expr_up}
use Rattle.ode_reread_classes.proofs.Puts.{with_body, with_class, with_flag, with_kinds, with_members, with_mode, with_params, with_parent, with_sort}
use Rattle.ode_reread_classes.proofs.StatementRows.{bodied}
use Rattle.ode_reread_classes.proofs.Statements.{body_up}

-- ---- sorts

pub a_sort : (bytes : List ℕ) → GoodSort (sort_of bytes)
a_sort bytes = either (bytes_eq bytes (codes "int")) sort.Int (cond (bytes_eq bytes (codes "bool")) sort.Bool sort.Text) tt (either (bytes_eq bytes (codes "bool")) sort.Bool sort.Text tt tt)
  where
    either : (c : Bool) (x y : Sort) → GoodSort x → GoodSort y → GoodSort (cond c x y)
    either true x y g h = g
    either false x y g h = h

as_result : (s : Sort) → GoodSort s → GoodResult s
as_result sort.Int g = g
as_result sort.Bool g = g
as_result sort.Text g = g
as_result (sort.Reference class) g = g
as_result sort.Void g = tt

-- the word of a sort
pub worded_sort : (kd : TokenKind) (bytes : List ℕ) (b : Both) → make action.Sort (keep (spelt terminal.SortWord kd bytes) b) ≡ with_sort (sort_of bytes) b
unfolding kept_as built built_right_side built_statement built_event built_kind built_class built_member built_script raised
worded_sort kd bytes b = refl

pub ref_sort : (name : List ℕ) (b : Both) → make action.RefSort (with_name name b) ≡ with_sort (sort.Reference name) b
unfolding built built_right_side built_statement built_event built_kind built_class raised
ref_sort name b = refl

sort_after : (place : Place) → RowDoes place part.Sort terminal.SortWord (item.Build action.Sort ∷ [])
sort_after place kd bytes s b w l = record { x = sort_of bytes; good = a_sort bytes; is = sym l ∙ worded_sort kd bytes b }

ref_after : (place : Place) → RowDoes place part.Sort terminal.Ref (item.Token terminal.Name ∷ item.Build action.RefSort ∷ [])
unfolding kept_as
ref_after place kd bytes s b w l = record { x = sort.Reference (name_of l.1); good = name_free l.1; is = sym l.3 ∙ ref_sort (name_of l.1) b }

pub sort_rows : (place : Place) (k : Terminal) → IfRow (RowDoes place part.Sort k) (row_of part.Sort k)
unfolding row_of
sort_rows place terminal.SortWord = sort_after place
sort_rows place terminal.Ref = ref_after place
sort_rows place other = tt

-- ---- parameters

made_param : (name : List ℕ) (s : Sort) (xs : List Param) (c : Both)
    → make action.Param (with_name name (with_sort s (with_params xs c))) ≡ with_params (xs ++ (record { name = name; sort = s }) ∷ []) c
unfolding built built_right_side built_statement built_event built_kind built_class raised
made_param name s xs c = refl

-- behind a sort: its name, and what may follow
param_named : (place : Place) (k : ℕ) (next : List Item) → ((d w : Both) → Does place next d w → ChangesParams (k + 1) d w)
    → (b d w : Both) → Gives with_sort GoodSort b d → Does place (item.Token terminal.Name ∷ item.Build action.Param ∷ next) d w → ChangesParams k b w
unfolding kept_as
param_named place k next behind b d w a l = λ xs c is few each.
    let name = name_of l.1 in
    let p : Param = record { name = name; sort = a.x } in
    let made = ap (λ x. make action.Param (with_name name x)) (a.is ∙ ap (with_sort a.x) is) ∙ made_param name a.x xs c in
    let m : length (xs ++ p ∷ []) ≤ k + 1 = omega (arith, length-append xs (p ∷ []), few) in
    behind (make action.Param (with_name name d)) w l.3 (xs ++ p ∷ []) c made m (one_more GoodParam xs p each (name_free l.1, a.good))

param_comma : (place : Place) (p : Part) (k : ℕ) (i : Item) → ((b w : Both) → ChangesParams k b w → News place p b w)
    → ((d w : Both) → Does place (i ∷ []) d w → ChangesParams (k + 1) d w) → RowDoes place p terminal.Comma (one_param i)
unfolding kept_as
param_comma place p k i news behind kd bytes s b w l = news b w (param_named place k (i ∷ []) behind b l.0 w l.1.1 l.2)

-- the bracket
params_end : (place : Place) (p : Part) (k : ℕ) → k ≤ 16 → ((b w : Both) → ChangesParams k b w → News place p b w) → RowDoes place p terminal.CloseParen []
unfolding kept_as
params_end place p k m news kd bytes s b w l = news b w (λ xs c is few each. record { x = xs; good = record { few = omega (arith, few, m); each = each }; is = sym l ∙ is })

abbrev param_row : List Item
param_row = item.Token terminal.Name ∷ item.Build action.Param ∷ item.Part part.SecondParam ∷ []

sort_param : (place : Place) → RowDoes place part.Params terminal.SortWord (item.Build action.Sort ∷ param_row)
sort_param place kd bytes s b w l =
    param_named place 0 (item.Part part.SecondParam ∷ []) (λ d v m. subst (λ x. ChangesParams 1 d x) m.2 m.1.1) b (make action.Sort (keep (spelt terminal.SortWord kd bytes) b)) w
    (record { x = sort_of bytes; good = a_sort bytes; is = worded_sort kd bytes b }) l

ref_param : (place : Place) → RowDoes place part.Params terminal.Ref (item.Token terminal.Name ∷ item.Build action.RefSort ∷ param_row)
unfolding kept_as
ref_param place kd bytes s b w l =
    param_named place 0 (item.Part part.SecondParam ∷ []) (λ d v m. subst (λ x. ChangesParams 1 d x) m.2 m.1.1) b (make action.RefSort (with_name (name_of l.1) b)) w
    (record { x = sort.Reference (name_of l.1); good = name_free l.1; is = ref_sort (name_of l.1) b }) l.3

pub params_rows : (place : Place) (k : Terminal) → IfRow (RowDoes place part.Params k) (row_of part.Params k)
unfolding row_of
params_rows place terminal.CloseParen = params_end place part.Params 0 (omega arith) (λ b w f. f)
params_rows place terminal.SortWord = sort_param place
params_rows place terminal.Ref = ref_param place
params_rows place other = tt

last_bracket : (place : Place) (d w : Both) → Does place (item.Token terminal.CloseParen ∷ []) d w → ChangesParams 16 d w
unfolding kept_as
last_bracket place d w l = λ xs c is few each. record { x = xs; good = record { few = few; each = each }; is = sym l.3 ∙ is }

pub second_param_rows : (place : Place) (k : Terminal) → IfRow (RowDoes place part.SecondParam k) (row_of part.SecondParam k)
unfolding row_of
second_param_rows place terminal.Comma = param_comma place part.SecondParam 1 (item.Part part.ThirdParam) (λ b w f. f) (λ d v m. subst (λ x. ChangesParams 2 d x) m.2 m.1.1)
second_param_rows place terminal.CloseParen = params_end place part.SecondParam 1 (omega arith) (λ b w f. f)
second_param_rows place other = tt

pub third_param_rows : (place : Place) (k : Terminal) → IfRow (RowDoes place part.ThirdParam k) (row_of part.ThirdParam k)
unfolding row_of
third_param_rows place terminal.Comma = param_comma place part.ThirdParam 2 (item.Part part.FourthParam) (λ b w f. f) (λ d v m. subst (λ x. ChangesParams 3 d x) m.2 m.1.1)
third_param_rows place terminal.CloseParen = params_end place part.ThirdParam 2 (omega arith) (λ b w f. f)
third_param_rows place other = tt

pub fourth_param_rows : (place : Place) (k : Terminal) → IfRow (RowDoes place part.FourthParam k) (row_of part.FourthParam k)
unfolding row_of
fourth_param_rows place terminal.Comma = param_comma place part.FourthParam 3 (item.Part part.FifthParam) (λ b w f. f) (λ d v m. subst (λ x. ChangesParams 4 d x) m.2 m.1.1)
fourth_param_rows place terminal.CloseParen = params_end place part.FourthParam 3 (omega arith) (λ b w f. f)
fourth_param_rows place other = tt

pub fifth_param_rows : (place : Place) (k : Terminal) → IfRow (RowDoes place part.FifthParam k) (row_of part.FifthParam k)
unfolding row_of
fifth_param_rows place terminal.Comma = param_comma place part.FifthParam 4 (item.Part part.SixthParam) (λ b w f. f) (λ d v m. subst (λ x. ChangesParams 5 d x) m.2 m.1.1)
fifth_param_rows place terminal.CloseParen = params_end place part.FifthParam 4 (omega arith) (λ b w f. f)
fifth_param_rows place other = tt

pub sixth_param_rows : (place : Place) (k : Terminal) → IfRow (RowDoes place part.SixthParam k) (row_of part.SixthParam k)
unfolding row_of
sixth_param_rows place terminal.Comma = param_comma place part.SixthParam 5 (item.Part part.SeventhParam) (λ b w f. f) (λ d v m. subst (λ x. ChangesParams 6 d x) m.2 m.1.1)
sixth_param_rows place terminal.CloseParen = params_end place part.SixthParam 5 (omega arith) (λ b w f. f)
sixth_param_rows place other = tt

pub seventh_param_rows : (place : Place) (k : Terminal) → IfRow (RowDoes place part.SeventhParam k) (row_of part.SeventhParam k)
unfolding row_of
seventh_param_rows place terminal.Comma = param_comma place part.SeventhParam 6 (item.Part part.EighthParam) (λ b w f. f) (λ d v m. subst (λ x. ChangesParams 7 d x) m.2 m.1.1)
seventh_param_rows place terminal.CloseParen = params_end place part.SeventhParam 6 (omega arith) (λ b w f. f)
seventh_param_rows place other = tt

pub eighth_param_rows : (place : Place) (k : Terminal) → IfRow (RowDoes place part.EighthParam k) (row_of part.EighthParam k)
unfolding row_of
eighth_param_rows place terminal.Comma = param_comma place part.EighthParam 7 (item.Part part.NinthParam) (λ b w f. f) (λ d v m. subst (λ x. ChangesParams 8 d x) m.2 m.1.1)
eighth_param_rows place terminal.CloseParen = params_end place part.EighthParam 7 (omega arith) (λ b w f. f)
eighth_param_rows place other = tt

pub ninth_param_rows : (place : Place) (k : Terminal) → IfRow (RowDoes place part.NinthParam k) (row_of part.NinthParam k)
unfolding row_of
ninth_param_rows place terminal.Comma = param_comma place part.NinthParam 8 (item.Part part.TenthParam) (λ b w f. f) (λ d v m. subst (λ x. ChangesParams 9 d x) m.2 m.1.1)
ninth_param_rows place terminal.CloseParen = params_end place part.NinthParam 8 (omega arith) (λ b w f. f)
ninth_param_rows place other = tt

pub tenth_param_rows : (place : Place) (k : Terminal) → IfRow (RowDoes place part.TenthParam k) (row_of part.TenthParam k)
unfolding row_of
tenth_param_rows place terminal.Comma = param_comma place part.TenthParam 9 (item.Part part.EleventhParam) (λ b w f. f) (λ d v m. subst (λ x. ChangesParams 10 d x) m.2 m.1.1)
tenth_param_rows place terminal.CloseParen = params_end place part.TenthParam 9 (omega arith) (λ b w f. f)
tenth_param_rows place other = tt

pub eleventh_param_rows : (place : Place) (k : Terminal) → IfRow (RowDoes place part.EleventhParam k) (row_of part.EleventhParam k)
unfolding row_of
eleventh_param_rows place terminal.Comma = param_comma place part.EleventhParam 10 (item.Part part.TwelfthParam) (λ b w f. f) (λ d v m. subst (λ x. ChangesParams 11 d x) m.2 m.1.1)
eleventh_param_rows place terminal.CloseParen = params_end place part.EleventhParam 10 (omega arith) (λ b w f. f)
eleventh_param_rows place other = tt

pub twelfth_param_rows : (place : Place) (k : Terminal) → IfRow (RowDoes place part.TwelfthParam k) (row_of part.TwelfthParam k)
unfolding row_of
twelfth_param_rows place terminal.Comma = param_comma place part.TwelfthParam 11 (item.Part part.ThirteenthParam) (λ b w f. f) (λ d v m. subst (λ x. ChangesParams 12 d x) m.2 m.1.1)
twelfth_param_rows place terminal.CloseParen = params_end place part.TwelfthParam 11 (omega arith) (λ b w f. f)
twelfth_param_rows place other = tt

pub thirteenth_param_rows : (place : Place) (k : Terminal) → IfRow (RowDoes place part.ThirteenthParam k) (row_of part.ThirteenthParam k)
unfolding row_of
thirteenth_param_rows place terminal.Comma = param_comma place part.ThirteenthParam 12 (item.Part part.FourteenthParam) (λ b w f. f) (λ d v m. subst (λ x. ChangesParams 13 d x) m.2 m.1.1)
thirteenth_param_rows place terminal.CloseParen = params_end place part.ThirteenthParam 12 (omega arith) (λ b w f. f)
thirteenth_param_rows place other = tt

pub fourteenth_param_rows : (place : Place) (k : Terminal) → IfRow (RowDoes place part.FourteenthParam k) (row_of part.FourteenthParam k)
unfolding row_of
fourteenth_param_rows place terminal.Comma = param_comma place part.FourteenthParam 13 (item.Part part.FifteenthParam) (λ b w f. f) (λ d v m. subst (λ x. ChangesParams 14 d x) m.2 m.1.1)
fourteenth_param_rows place terminal.CloseParen = params_end place part.FourteenthParam 13 (omega arith) (λ b w f. f)
fourteenth_param_rows place other = tt

pub fifteenth_param_rows : (place : Place) (k : Terminal) → IfRow (RowDoes place part.FifteenthParam k) (row_of part.FifteenthParam k)
unfolding row_of
fifteenth_param_rows place terminal.Comma = param_comma place part.FifteenthParam 14 (item.Part part.SixteenthParam) (λ b w f. f) (λ d v m. subst (λ x. ChangesParams 15 d x) m.2 m.1.1)
fifteenth_param_rows place terminal.CloseParen = params_end place part.FifteenthParam 14 (omega arith) (λ b w f. f)
fifteenth_param_rows place other = tt

pub sixteenth_param_rows : (place : Place) (k : Terminal) → IfRow (RowDoes place part.SixteenthParam k) (row_of part.SixteenthParam k)
unfolding row_of
sixteenth_param_rows place terminal.Comma = param_comma place part.SixteenthParam 15 (item.Token terminal.CloseParen) (λ b w f. f) (last_bracket place)
sixteenth_param_rows place terminal.CloseParen = params_end place part.SixteenthParam 15 (omega arith) (λ b w f. f)
sixteenth_param_rows place other = tt

-- ---- kinds

made_listed : (k : Kind) (xs : List Kind) (c : Both) → make action.Listed (with_kind k (with_kinds xs c)) ≡ with_kinds (xs ++ k ∷ []) c
unfolding built built_right_side built_statement built_event built_kind built_class raised
made_listed k xs c = refl

more_kinds : (place : Place) (xs : List Kind) (k : Kind) → GoodKinds place xs → GoodKind place k → GoodKinds place (xs ++ k ∷ [])
more_kinds place [] k g h = absurd g
more_kinds place (x ∷ xs) k g h = (g.0, one_more (GoodKind place) xs k g.1 h)

kinds_next : (place : Place) → RowDoes place part.MoreKinds terminal.Comma (item.Part part.Kind ∷ item.Build action.Listed ∷ item.Part part.MoreKinds ∷ [])
unfolding kept_as
kinds_next place kd bytes s b w l = λ xs c is good.
    let a = l.1.0 in
    let made = ap (make action.Listed) (a.is ∙ ap (with_kind a.k) is) ∙ made_listed a.k xs c in
    given_by (l.2.1.1 (xs ++ a.k ∷ []) c made (more_kinds place xs a.k good (a.good (instants_good place)))) l.2.2

kinds_end : (place : Place) → RowDoes place part.MoreKinds terminal.Semi []
unfolding kept_as
kinds_end place kd bytes s b w l = λ xs c is good. record { x = xs; good = good; is = sym l ∙ is }

pub more_kinds_rows : (place : Place) (k : Terminal) → IfRow (RowDoes place part.MoreKinds k) (row_of part.MoreKinds k)
unfolding row_of
more_kinds_rows place terminal.Comma = kinds_next place
more_kinds_rows place terminal.Semi = kinds_end place
more_kinds_rows place other = tt

-- ---- words of triggers

initial_after : (place : Place) → RowDoes place part.Initial terminal.Initial (item.Build action.Initial ∷ [])
unfolding kept_as built built_right_side built_statement built_event built_kind built_class raised
initial_after place kd bytes s b w l = record { x = true; good = tt; is = sym l }

lasting_after : (place : Place) → RowDoes place part.Lasting terminal.Lasting (item.Build action.Lasting ∷ [])
unfolding kept_as built built_right_side built_statement built_event built_kind built_class built_member built_script raised
lasting_after place kd bytes s b w l = record { x = bytes_eq bytes (codes "perpetual"); good = tt; is = sym l }

scope_after : (place : Place) → RowDoes place part.Scope terminal.Scope (item.Build action.Scope ∷ [])
unfolding kept_as built built_right_side built_statement built_event built_kind built_class built_member built_script raised
scope_after place kd bytes s b w l = record { x = bytes_eq bytes (codes "whole"); good = tt; is = sym l }

mode_after : (place : Place) → RowDoes place part.Mode terminal.Mode (item.Build action.Mode ∷ [])
unfolding kept_as built built_right_side built_statement built_event built_kind built_class built_member built_script raised
mode_after place kd bytes s b w l = record { x = mode_of bytes; good = tt; is = sym l }

pub initial_rows : (place : Place) (k : Terminal) → IfRow (RowDoes place part.Initial k) (row_of part.Initial k)
unfolding row_of
initial_rows place terminal.Initial = initial_after place
initial_rows place other = tt

pub lasting_rows : (place : Place) (k : Terminal) → IfRow (RowDoes place part.Lasting k) (row_of part.Lasting k)
unfolding row_of
lasting_rows place terminal.Lasting = lasting_after place
lasting_rows place other = tt

pub scope_rows : (place : Place) (k : Terminal) → IfRow (RowDoes place part.Scope k) (row_of part.Scope k)
unfolding row_of
scope_rows place terminal.Scope = scope_after place
scope_rows place other = tt

pub mode_rows : (place : Place) (k : Terminal) → IfRow (RowDoes place part.Mode k) (row_of part.Mode k)
unfolding row_of
mode_rows place terminal.Mode = mode_after place
mode_rows place other = tt

-- where a word is left out
pub no_initial : (place : Place) (b : Both) → Gives with_flag (λ f. Unit {0}) b (make action.NotInitial b)
unfolding built built_right_side built_statement built_event built_kind built_class raised
no_initial place b = record { x = false; good = tt; is = refl }

pub no_lasting : (place : Place) (b : Both) → Gives with_flag (λ f. Unit {0}) b (make action.Once b)
unfolding built built_right_side built_statement built_event built_kind built_class raised
no_lasting place b = record { x = false; good = tt; is = refl }

pub no_scope : (place : Place) (b : Both) → Gives with_flag (λ f. Unit {0}) b (make action.Committed b)
unfolding built built_right_side built_statement built_event built_kind built_class raised
no_scope place b = record { x = false; good = tt; is = refl }

pub no_mode : (place : Place) (b : Both) → Gives with_mode (λ m. Unit {0}) b (make action.Immediate b)
unfolding built built_right_side built_statement built_event built_kind built_class raised
no_mode place b = record { x = mode.Immediate; good = tt; is = refl }

-- ---- members

-- a member more, and those that follow it
membered : (place : Place) (m : Member) (n : ℕ) → GoodMember place n m → (d w : Both) (xs : List Member) (k : ℕ) (c : Both) → d ≡ with_members (xs ++ m ∷ []) (max k n) c
    → GoodMembers place k xs → Does place (item.Part part.Members ∷ []) d w → Raises with_members (GoodMembers place) c w
membered place m n g d w xs k c is good l =
    raised_by (l.1.1 (xs ++ m ∷ []) (max k n) c is
    (one_more (GoodMember place (max k n)) xs m (weaker (GoodMember place k) (GoodMember place (max k n)) (λ x h. member_up place k (max k n) x (omega arith) h) xs good)
    (member_up place n (max k n) m (omega arith) g))) l.2

-- what follows a sort and a name
fielded : (place : Place) (b d w : Both) → Gives with_sort GoodSort b d
    → Does place (item.Token terminal.Name ∷ item.Part part.FieldOrMethod ∷ item.Part part.Members ∷ []) d w → Changes with_members (GoodMembers place) b w
unfolding kept_as
fielded place b d w a l = λ xs n c is good.
    let name = name_of l.1 in
    let p = l.3 in
    let r = p.1.1 name a.x xs n c (ap (with_name name) (a.is ∙ ap (with_sort a.x) is)) (name_free l.1) a.good good in
    raised_by (p.2.1.1 r.x r.n c r.is r.good) p.2.2

sort_member : (place : Place) → RowDoes place part.Members terminal.SortWord (item.Build action.Sort ∷ field_items)
sort_member place kd bytes s b w l =
    fielded place b (make action.Sort (keep (spelt terminal.SortWord kd bytes) b)) w (record { x = sort_of bytes; good = a_sort bytes; is = worded_sort kd bytes b }) l

ref_member : (place : Place) → RowDoes place part.Members terminal.Ref (item.Token terminal.Name ∷ item.Build action.RefSort ∷ field_items)
unfolding kept_as
ref_member place kd bytes s b w l =
    fielded place b (make action.RefSort (with_name (name_of l.1) b)) w (record { x = sort.Reference (name_of l.1); good = name_free l.1; is = ref_sort (name_of l.1) b }) l.3

field_ends : (place : Place) → RowDoes place part.FieldOrMethod terminal.Semi (item.Build action.FieldMember ∷ [])
unfolding kept_as built built_right_side built_statement built_event built_kind built_class built_member raised
field_ends place kd bytes s b w l = λ m s ms n c is f g good. record {
  x = ms ++ member.Field m s ∷ [];
  n = n;
  good = one_more (GoodMember place n) ms (member.Field m s) good (f, g);
  is = sym l ∙ ap (make action.FieldMember) is;
}

-- parameters and a body behind a bracket
method_made : (place : Place) (b w : Both) → Does place method b w → (m : List ℕ) (s : Sort) (ms : List Member) (n : ℕ) (c : Both) → b ≡ with_name m (with_sort s (with_members ms n c))
    → is_free m ≡ true → GoodResult s → GoodMembers place n ms → Raises with_members (GoodMembers place) c w
unfolding built built_right_side built_statement built_event built_kind built_class built_member raised
method_made place b w l m s ms n c is f g good =
    let ps = l.1.1 [] b refl (omega arith) tt in
    let x = bodied place (item.Build action.Method ∷ []) l.0 w l.2 in
    let y = x.body in
    let k = max n y.n in
    let made : Method = record { name = m; result = s; params = ps.x; body = y.x } in
    record {
      x = ms ++ member.Method made ∷ [];
      n = k;
      good = one_more (GoodMember place k) ms (member.Method made) (weaker (GoodMember place n) (GoodMember place k) (λ z h. member_up place n k z (omega arith) h) ms good)
          (record { name = f; result = g; params = ps.good; body = body_up place y.n k y.x (omega arith) y.good });
      is = sym x.behind ∙ ap (make action.Method) (y.is ∙ ap (with_body y.x y.n) (ps.is ∙ ap (with_params ps.x) is));
    }

method_after : (place : Place) → RowDoes place part.FieldOrMethod terminal.OpenParen method
unfolding kept_as
method_after place kd bytes s b w l = λ m s ms n c is f g good. method_made place b w l m s ms n c is f (as_result s g) good

pub field_or_method_rows : (place : Place) (k : Terminal) → IfRow (RowDoes place part.FieldOrMethod k) (row_of part.FieldOrMethod k)
unfolding row_of
field_or_method_rows place terminal.Semi = field_ends place
field_or_method_rows place terminal.OpenParen = method_after place
field_or_method_rows place other = tt

void_sort : (b : Both) → make action.VoidSort b ≡ with_sort sort.Void b
unfolding built built_right_side built_statement built_event built_kind built_class raised
void_sort b = refl

void_member : (place : Place)
    → RowDoes place part.Members terminal.Void (item.Build action.VoidSort ∷ item.Token terminal.Name ∷ item.Token terminal.OpenParen ∷ method ++ item.Part part.Members ∷ [])
unfolding kept_as
void_member place kd bytes s b w l = λ xs n c is good.
    let name = name_of l.1 in
    let r = parted place method (item.Part part.Members ∷ []) (with_name name (make action.VoidSort b)) w l.3.3 in
    let z = method_made place (with_name name (make action.VoidSort b)) r.mid r.first name sort.Void xs n c (ap (with_name name) (void_sort b ∙ ap (with_sort sort.Void) is)) (name_free l.1) tt good in
    raised_by (r.behind.1.1 z.x z.n c z.is z.good) r.behind.2

-- ---- constraints

hard_member : (place : Place) → RowDoes place part.Members terminal.Constraint (test (item.Build action.Constraint))
unfolding kept_as built built_right_side built_statement built_event built_kind built_class built_member raised
hard_member place kd bytes s b w l = λ xs n c is good.
    let name = name_of l.1 in
    let p = l.3.3 in
    let a = p.1.0 in
    let m = member.Constraint (record { name = name; soft = false; test = a.e }) in
    membered place m a.h.own (record { name = name_free l.1; test = expr_up place a.e a.h a.h.own (omega arith) a.good }) (make action.Constraint p.0) w xs n c
    (ap (make action.Constraint) (a.is ∙ ap (λ x. with_expr a.e a.h (with_name name x)) is)) good p.2.3

soft_member : (place : Place) → RowDoes place part.Members terminal.Soft (item.Token terminal.Constraint ∷ test (item.Build action.SoftConstraint))
unfolding kept_as built built_right_side built_statement built_event built_kind built_class built_member raised
soft_member place kd bytes s b w l = λ xs n c is good.
    let q = l.3 in
    let name = name_of q.1 in
    let p = q.3.3 in
    let a = p.1.0 in
    let m = member.Constraint (record { name = name; soft = true; test = a.e }) in
    membered place m a.h.own (record { name = name_free q.1; test = expr_up place a.e a.h a.h.own (omega arith) a.good }) (make action.SoftConstraint p.0) w xs n c
    (ap (make action.SoftConstraint) (a.is ∙ ap (λ x. with_expr a.e a.h (with_name name x)) is)) good p.2.3

-- ---- lists of kinds

kinds_begun : (b : Both) → make action.Kinds b ≡ with_kinds [] b
unfolding built built_right_side built_statement built_event built_kind built_class raised
kinds_begun b = refl

events_member : (place : Place)
    → RowDoes place part.Members terminal.Event
    (item.Build action.Kinds ∷ item.Part part.Kind ∷ item.Build action.Listed ∷ item.Part part.MoreKinds ∷ item.Build action.Events ∷ item.Part part.Members ∷ [])
unfolding kept_as built built_right_side built_statement built_event built_kind built_class built_member raised
events_member place kd bytes s b w l = λ xs n c is good.
    let a = l.1.0 in
    let p = l.2 in
    let ks = p.1.1 (a.k ∷ []) b (ap (make action.Listed) a.is) (a.good (instants_good place), tt) in
    let same : max n 0 ≡ n = omega arith in
    membered place (member.Events ks.x) 0 ks.good (make action.Events p.0) w xs n c
    (ap (make action.Events) (ks.is ∙ ap (with_kinds ks.x) is) ∙ ap (λ k. with_members (xs ++ member.Events ks.x ∷ []) k c) (sym same)) good p.2

-- ---- triggers

event_of : (place : Place) (b c d f : Both) → AddsEvent place b c → ReplacesEvent place c d → ReplacesEvent place d f → AddsEvent place b f
event_of place b c d f x y z = let a = y x.e x.h b x.is x.good in z a.e a.h b a.is a.good

trigger_member : (place : Place) → RowDoes place part.Members terminal.Trigger (trigger ++ item.Part part.Members ∷ [])
unfolding kept_as built built_right_side built_statement built_event built_kind built_class built_member raised
trigger_member place kd bytes s b w l = λ xs n c is good.
    let i = l.1.1 in
    let l1 = l.2 in
    let p = l1.1.1 in
    let l2 = l1.2 in
    let u = l2.1.1 in
    let l3 = l2.2 in
    let m = l3.1.1 in
    let l4 = l3.2 in
    let name = name_of l4.1 in
    let b5 = with_name name l3.0 in
    let l5 = l4.3.3 in
    let ps = l5.1.1 [] b5 refl (omega arith) tt in
    let l6 = l5.2.3 in
    let e = event_of place l5.0 l6.0 l6.2.0 l6.2.2.0 l6.1.0 l6.2.1.0 l6.2.2.1.0 in
    let l7 = l6.2.2.2.3 in
    let x = bodied place (item.Build action.Trigger ∷ item.Part part.Members ∷ []) l6.2.2.0 w l7 in
    let y = x.body in
    let k = max e.h.own y.n in
    let t : TriggerDecl = record { name = name; initial = i.x; perpetual = p.x; whole = u.x; mode = m.x; params = ps.x; event = e.e; action = y.x } in
    let worded = m.is ∙ ap (with_mode m.x) (u.is ∙ ap (with_flag u.x) (p.is ∙ ap (with_flag p.x) (i.is ∙ ap (with_flag i.x) is))) in
    let evented = e.is ∙ ap (with_event e.e e.h) (ps.is ∙ ap (λ z. with_params ps.x (with_name name z)) worded) in
    let same : max e.h.own (max n y.n) ≡ max n k = omega arith in
    membered place (member.Trigger t) k
    (record { name = name_free l4.1; params = ps.good; height = e.h; event = e.good (instants_good place); low = omega arith; action = body_up place y.n k y.x (omega arith) y.good })
    (make action.Trigger x.mid) w xs n c
    (ap (make action.Trigger) (y.is ∙ ap (with_body y.x y.n) evented) ∙ ap (λ z. with_members (xs ++ member.Trigger t ∷ []) z c) same) good x.behind

pub members_rows : (place : Place) (k : Terminal) → IfRow (RowDoes place part.Members k) (row_of part.Members k)
unfolding row_of
members_rows place terminal.SortWord = sort_member place
members_rows place terminal.Ref = ref_member place
members_rows place terminal.Void = void_member place
members_rows place terminal.Soft = soft_member place
members_rows place terminal.Constraint = hard_member place
members_rows place terminal.Event = events_member place
members_rows place terminal.Trigger = trigger_member place
members_rows place other = tt

-- ---- classes

parent_after : (place : Place) → RowDoes place part.Parent terminal.Colon (item.Token terminal.Name ∷ item.Build action.Parent ∷ [])
unfolding kept_as built built_right_side built_statement built_event built_kind built_class raised
parent_after place kd bytes s b w l = record { x = Some (name_of l.1); good = name_free l.1; is = sym l.3 }

pub parent_rows : (place : Place) (k : Terminal) → IfRow (RowDoes place part.Parent k) (row_of part.Parent k)
unfolding row_of
parent_rows place terminal.Colon = parent_after place
parent_rows place other = tt

pub no_parent : (place : Place) (b : Both) → Gives with_parent GoodParent b (make action.NoParent b)
unfolding built built_right_side built_statement built_event built_kind built_class raised
no_parent place b = record { x = None; good = tt; is = refl }

-- a class behind its first word, and what follows it
pub record Declared (place : Place) (more : List Item) (b w : Both) : Type 0 where
  pub mid : Both
  pub class : Raises with_class (GoodClass place) b mid
  pub behind : Does place more mid w

pub declared : (place : Place) (more : List Item) (b w : Both) → Does place (class_rest ++ more) b w → Declared place more b w
unfolding kept_as built built_right_side built_statement built_event built_kind built_class raised
declared place more b w l =
    let name = name_of l.1 in
    let p = l.3 in
    let r = p.1.1 in
    let q = p.2.3 in
    let m = q.1.1 [] 0 p.0 refl tt in
    record {
      mid = make action.Class q.0;
      class = record {
        x = record { name = name; parent = r.x; members = m.x };
        n = m.n;
        good = record { name = name_free l.1; parent = r.good; members = m.good };
        is = ap (make action.Class) (m.is ∙ ap (with_members m.x m.n) r.is);
      };
      behind = q.2.3;
    }

class_after : (place : Place) → RowDoes place part.Class terminal.Class class_rest
unfolding kept_as
class_after place kd bytes s b w l = let r = declared place [] b w l in raised_by r.class r.behind

pub class_rows : (place : Place) (k : Terminal) → IfRow (RowDoes place part.Class k) (row_of part.Class k)
unfolding row_of
class_rows place terminal.Class = class_after place
class_rows place other = tt
