-- What the rows of changes of classes do, and what a whole change does.
use Rattle.std.proofs.Common.{◌≡◌, ℕ, List, [], ◌∷◌, ◌++◌, refl, sym, ◌∙◌, ap}
use Rattle.ode_lex.specs.declared.token.Mark.{Mark}
use Rattle.ode_lex.specs.declared.token.TokenKind.{TokenKind}
use Rattle.ode_lex.specs.declared.token.TokenKind.TheVariants as kind
use Rattle.ode_grammar.specs.declared.item.Action.TheVariants as action
use Rattle.ode_grammar.specs.declared.item.Item.TheVariants as item
use Rattle.ode_grammar.specs.declared.item.Part.TheVariants as part
use Rattle.ode_grammar.specs.declared.terminal.Terminal.{Terminal}
use Rattle.ode_grammar.specs.declared.terminal.Terminal.TheVariants as terminal
use Rattle.ode_grammar.specs.Changes.{additions, change}
use Rattle.ode_grammar.specs.Grammar.{row_of}
use Rattle.ode_grammar.proofs.Follows.{IfRow}
use Rattle.ode_heights.specs.Heights.{raised}
use Rattle.ode_terminals.specs.declared.seen.Place.{Place}
use Rattle.ode_value.specs.declared.change.Change.{Change}
use Rattle.ode_value.specs.declared.statement.Expr.{Expr}
use Rattle.ode_value.specs.declared.statement.Sort.{Sort}
use Rattle.ode_value.specs.declared.statement.Sort.TheVariants as sort
use Rattle.ode_value.specs.declared.value.Value.{Value}
use Rattle.ode_syntax.specs.Built.{built, built_right_side, built_statement, built_event, built_kind, built_class, built_member, built_script, negative, value_of}
use Rattle.ode_syntax.specs.Kept.{kept_as, leaf_of, name_of, sort_of}
use Rattle.ode_reread.proofs.Both.{Both, keep, make}
use Rattle.ode_reread.proofs.Effects.{name_free, spelt}
use Rattle.ode_reread.proofs.EventPrints.{with_leaf_on}
use Rattle.ode_reread.proofs.Marked.{with_mark_on, with_name}
use Rattle.ode_reread.proofs.Prints.{nothing}
use Rattle.ode_reread.proofs.Sounds.{is_operator, operator_is_mark, seen_as}
use Rattle.ode_reread_classes.proofs.Additions.{leaf_value, negative_good, GoodChange, GoodField}
use Rattle.ode_reread_classes.proofs.Does.{given_by, parted, Does, Gives, News, RowDoes}
use Rattle.ode_reread_classes.proofs.Lists.{one_more}
use Rattle.ode_reread_classes.proofs.MemberRows.{a_sort, ref_sort, worded_sort}
use Rattle.ode_reread_classes.proofs.Members.{GoodSort}
use Rattle.ode_reread_classes.proofs.Puts.{with_change, with_sort}

-- ---- literals

made_negative : (e : Expr) (m : Mark) (c : Both) → make action.Negative (with_leaf_on e (with_mark_on m c)) ≡ with_leaf_on (negative e) c
unfolding built built_right_side built_statement built_event built_kind built_class built_member built_script raised
made_negative e m c = refl

minus_kept : (m : Mark) (bytes : List ℕ) (b : Both) → keep (spelt terminal.Minus (kind.Mark m) bytes) b ≡ with_mark_on m b
unfolding kept_as
minus_kept m bytes b = refl

minus_after : (place : Place) → RowDoes place part.Literal terminal.Minus (item.Part part.Negative ∷ [])
minus_after place kd bytes s b w l =
    let m = operator_is_mark place terminal.Minus kd bytes (seen_as is_operator refl s refl) refl in
    given_by (l.1.1 m.0 b (ap (λ j. keep (spelt terminal.Minus j bytes) b) m.1 ∙ minus_kept m.0 bytes b)) l.2

pub literal_rows : (place : Place) (k : Terminal) → IfRow (RowDoes place part.Literal k) (row_of part.Literal k)
unfolding row_of kept_as
literal_rows place terminal.Leaf = λ kd bytes s b w l. record { x = leaf_of kd bytes; good = leaf_value kd bytes s.says; is = sym l }
literal_rows place terminal.Number = λ kd bytes s b w l. record { x = leaf_of kd bytes; good = leaf_value kd bytes s.says; is = sym l }
literal_rows place terminal.Seconds = λ kd bytes s b w l. record { x = leaf_of kd bytes; good = leaf_value kd bytes s.says; is = sym l }
literal_rows place terminal.Count = λ kd bytes s b w l. record { x = leaf_of kd bytes; good = leaf_value kd bytes s.says; is = sym l }
literal_rows place terminal.Text = λ kd bytes s b w l. record { x = leaf_of kd bytes; good = leaf_value kd bytes s.says; is = sym l }
literal_rows place terminal.Instant = λ kd bytes s b w l. record { x = leaf_of kd bytes; good = leaf_value kd bytes s.says; is = sym l }
literal_rows place terminal.Minus = minus_after place
literal_rows place other = tt

-- a number behind a minus
number_after : (place : Place) (k : Terminal) → ((kd : TokenKind) (bytes : List ℕ) (b : Both) → keep (spelt k kd bytes) b ≡ with_leaf_on (leaf_of kd bytes) b)
    → RowDoes place part.Negative k (item.Build action.Negative ∷ [])
number_after place k kept kd bytes s b w l = λ m c is.
    let e = leaf_of kd bytes in
    record {
      x = negative e;
      good = negative_good e (leaf_value kd bytes s.says);
      is = sym l ∙ (ap (make action.Negative) (kept kd bytes b ∙ ap (with_leaf_on e) is) ∙ made_negative e m c);
    }

pub negative_rows : (place : Place) (k : Terminal) → IfRow (RowDoes place part.Negative k) (row_of part.Negative k)
unfolding row_of kept_as
negative_rows place terminal.Number = number_after place terminal.Number (λ kd bytes b. refl)
negative_rows place terminal.Seconds = number_after place terminal.Seconds (λ kd bytes b. refl)
negative_rows place terminal.Count = number_after place terminal.Count (λ kd bytes b. refl)
negative_rows place other = tt

-- ---- added fields

abbrev with_field : List ℕ × Sort × Value → Change → Change
with_field f x = record { class = x.class; fields = x.fields ++ f ∷ [] }

made_addition : (e : Expr) (name : List ℕ) (s : Sort) (x : Change) (c : Both)
    → make action.Addition (with_leaf_on e (with_name name (with_sort s (with_change x c)))) ≡ with_change (with_field (name, s, value_of e) x) c
unfolding built built_right_side built_statement built_event built_kind built_class built_member built_script raised
made_addition e name s x c = refl

-- behind the sort of one: it, and those behind it
field_added : (place : Place) (b d w : Both) → Gives with_sort GoodSort b d → Does place additions d w → News place part.Additions b w
unfolding kept_as
field_added place b d w a l = λ x c is good.
    let name = name_of l.1 in
    let literal = l.3.3 in
    let v = literal.1.1 in
    let rest = literal.2.3 in
    let f : List ℕ × Sort × Value = (name, a.x, value_of v.x) in
    let made = ap (make action.Addition) v.is ∙ (ap (λ y. make action.Addition (with_leaf_on v.x (with_name name y))) (a.is ∙ ap (with_sort a.x) is) ∙ made_addition v.x name a.x x c) in
    let field : GoodField f = record { free = name_free l.1; sort = a.good; value = v.good } in
    given_by (rest.1.1 (with_field f x) c made (record { free = good.free; fields = one_more GoodField x.fields f good.fields field })) rest.2

pub additions_rows : (place : Place) (k : Terminal) → IfRow (RowDoes place part.Additions k) (row_of part.Additions k)
unfolding row_of kept_as
additions_rows place terminal.SortWord = λ kd bytes s b w l.
    field_added place b (make action.Sort (keep (spelt terminal.SortWord kd bytes) b)) w (record { x = sort_of bytes; good = a_sort bytes; is = worded_sort kd bytes b }) l
additions_rows place terminal.Ref = λ kd bytes s b w l.
    field_added place b (make action.RefSort (with_name (name_of l.1) b)) w (record { x = sort.Reference (name_of l.1); good = name_free l.1; is = ref_sort (name_of l.1) b }) l.3
additions_rows place other = tt

-- and none
pub no_additions : (place : Place) (b : Both) → News place part.Additions b (make action.Nothing b)
no_additions place b = λ x c is good. record { x = x; good = good; is = nothing b ∙ is }

-- ---- a whole change

made_change : (name word : List ℕ) (b : Both) → make action.Change (with_name name (with_name word b)) ≡ with_change (record { class = name; fields = [] }) b
unfolding built built_right_side built_statement built_event built_kind built_class built_member built_script raised
made_change name word b = refl

pub change_does : (place : Place) (b w : Both) → Does place change b w → Gives with_change GoodChange b w
unfolding kept_as
change_does place b w l =
    let named = l.3.3 in
    let name = name_of named.1 in
    let sorted = named.3.3 in
    let p = parted place additions (item.Token terminal.CloseBrace ∷ item.Token terminal.Semi ∷ []) sorted.0 w sorted.2 in
    given_by
    (field_added place (make action.Change (with_name name (with_name (name_of l.1) b))) sorted.0 p.mid sorted.1.1 p.first (record { class = name; fields = [] }) b
    (made_change name (name_of l.1) b) (record { free = name_free named.1; fields = tt }))
    p.behind.3.3
