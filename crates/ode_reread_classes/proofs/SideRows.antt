-- What the rows of right sides do.
use Rattle.std.proofs.Common.{◌≡◌, ℕ, ◌+◌, max, true, List, [], ◌∷◌, ◌++◌, Option, Some, None, refl, sym, ◌∙◌, ap, subst, arith}
use Rattle.ode_lex.specs.declared.token.TokenKind.{TokenKind}
use Rattle.ode_grammar.specs.declared.item.Action.{Action}
use Rattle.ode_grammar.specs.declared.item.Action.TheVariants as action
use Rattle.ode_grammar.specs.declared.item.Item.{Item}
use Rattle.ode_grammar.specs.declared.item.Item.TheVariants as item
use Rattle.ode_grammar.specs.declared.item.Part.{Part}
use Rattle.ode_grammar.specs.declared.item.Part.TheVariants as part
use Rattle.ode_grammar.specs.declared.terminal.Terminal.{Terminal}
use Rattle.ode_grammar.specs.declared.terminal.Terminal.TheVariants as terminal
use Rattle.ode_grammar.specs.Expressions.{arguments, behind_unary, comp, conj, sum, term}
use Rattle.ode_grammar.specs.Grammar.{row_of}
use Rattle.ode_grammar.specs.Statements.{dotted_call, ending, field_set, new}
use Rattle.ode_grammar.proofs.Follows.{IfRow}
use Rattle.ode_heights.specs.declared.height.Height.{Height}
use Rattle.ode_heights.specs.Heights.{above, leaf, raised}
use Rattle.ode_terminals.specs.declared.seen.Place.{Place}
use Rattle.ode_value.specs.Words.{is_free}
use Rattle.ode_value.specs.declared.statement.Expr.{Expr}
use Rattle.ode_value.specs.declared.statement.Expr.TheVariants as expr
use Rattle.ode_value.specs.declared.statement.Rhs.TheVariants as rhs
use Rattle.ode_syntax.specs.Built.{built, built_right_side}
use Rattle.ode_syntax.specs.Kept.{kept_as, name_of}
use Rattle.ode_reread.proofs.AllRows.{row_is}
use Rattle.ode_reread.proofs.Both.{Both, keep, make}
use Rattle.ode_reread.proofs.Effects.{finished, name_free, replaced, spelt, Adds, Effect, Replaces}
use Rattle.ode_reread.proofs.Goods.{field_good, name_good, Good}
use Rattle.ode_reread.proofs.Marked.{with_expr, with_name}
use Rattle.ode_reread.proofs.Sounds.{Sound}
use Rattle.ode_reread_classes.proofs.Chains.{acted, early, leaf_front, name_row, pair_front, version_front}
use Rattle.ode_reread_classes.proofs.Does.{fronted, old, parted, raised_by, unowned, AddsCall, AddsOwned, Changes, Does, News, Raises, RowDoes}
use Rattle.ode_reread_classes.proofs.Parts.{args_up, is_do as is_do_of, expr_up, more_args, more_sets, GoodArgs, GoodOf, GoodSets}
use Rattle.ode_reread_classes.proofs.Puts.{with_args, with_sets}
use Rattle.ode_reread_classes.proofs.Rights.{after_ands, after_compare, after_factors, after_sums, dot_stand, dots_stand, is_held, name_stand, plain_items, Commutes}
use Rattle.ode_reread_classes.proofs.Sides.{args_items}

-- ---- arguments

args_end : (place : Place) (p : Part) → ((b w : Both) → Changes with_args (GoodArgs place) b w → News place p b w) → RowDoes place p terminal.CloseParen []
unfolding kept_as
args_end place p news kd bytes s b w l = news b w (λ xs n c is good. record { x = xs; n = n; good = good; is = sym l ∙ is })

-- an argument, and those that follow it
argued : (place : Place) (b d w : Both) → Adds place b d → Does place args_items d w → Changes with_args (GoodArgs place) b w
unfolding built built_right_side raised
argued place b d w a l = λ xs n c is good.
    let made : make action.Argument d ≡ with_args (xs ++ a.e ∷ []) (max n a.h.own) c = ap (make action.Argument) (a.is ∙ ap (with_expr a.e a.h) is) in
    raised_by (l.1.1 (xs ++ a.e ∷ []) (max n a.h.own) c made (more_args place n xs a.e a.h good a.good)) l.2

args_first : (place : Place) → (k : Terminal) (row : List Item) → row_of part.Expr k ≡ Some row → RowDoes place part.Args k (row ++ args_items)
args_first place k row e kd bytes s b w l =
    let r = parted place row args_items (keep (spelt k kd bytes) b) w l in
    argued place b r.mid w (row_is place part.Expr k row e kd bytes s b r.mid (old place row _ r.mid r.first)) r.behind

args_next : (place : Place) → RowDoes place part.MoreArgs terminal.Comma (item.Part part.Expr ∷ args_items)
unfolding kept_as
args_next place kd bytes s b w l = argued place b l.0 w l.1.0 l.2

abbrev pub leaf_row : List Item
leaf_row = leaf_front ++ item.Part part.Dots ∷ behind_unary

abbrev pub pair_row : List Item
pair_row = pair_front ++ item.Part part.Dots ∷ behind_unary

abbrev pub version_row : List Item
version_row = version_front ++ item.Part part.Dots ∷ behind_unary

abbrev pub variable_row : List Item
variable_row = name_row ++ behind_unary

abbrev pub sign_row : List Item
sign_row = item.Part part.Unary ∷ item.Build action.Sign ∷ behind_unary

pub args_rows : (place : Place) → (k : Terminal) → IfRow (RowDoes place part.Args k) (row_of part.Args k)
unfolding row_of
args_rows place terminal.CloseParen = args_end place part.Args (λ b w f. f)
args_rows place terminal.Leaf = args_first place terminal.Leaf leaf_row refl
args_rows place terminal.Number = args_first place terminal.Number leaf_row refl
args_rows place terminal.Seconds = args_first place terminal.Seconds leaf_row refl
args_rows place terminal.Count = args_first place terminal.Count leaf_row refl
args_rows place terminal.Text = args_first place terminal.Text leaf_row refl
args_rows place terminal.Instant = args_first place terminal.Instant leaf_row refl
args_rows place terminal.OpenParen = args_first place terminal.OpenParen pair_row refl
args_rows place terminal.Version = args_first place terminal.Version version_row refl
args_rows place terminal.Name = args_first place terminal.Name variable_row refl
args_rows place terminal.Minus = args_first place terminal.Minus sign_row refl
args_rows place terminal.Not = args_first place terminal.Not sign_row refl
args_rows place other = tt

pub more_args_rows : (place : Place) (k : Terminal) → IfRow (RowDoes place part.MoreArgs k) (row_of part.MoreArgs k)
unfolding row_of
more_args_rows place terminal.CloseParen = args_end place part.MoreArgs (λ b w f. f)
more_args_rows place terminal.Comma = args_next place
more_args_rows place other = tt

-- ---- fields that are set

sets_end : (place : Place) (p : Part) → ((b w : Both) → Changes with_sets (GoodSets place) b w → News place p b w) → RowDoes place p terminal.CloseParen []
unfolding kept_as
sets_end place p news kd bytes s b w l = news b w (λ xs n c is good. record { x = xs; n = n; good = good; is = sym l ∙ is })

-- behind a field's name
one_set : (place : Place) (name : List ℕ) → is_free name ≡ true → (b w : Both) → Does place field_set (with_name name b) w → Changes with_sets (GoodSets place) b w
unfolding kept_as built built_right_side raised
one_set place name f b w l = λ xs n c is good.
    let p = l.3 in
    let a = p.1.0 in
    let made : make action.AddSet p.0 ≡ with_sets (xs ++ (name, a.e) ∷ []) (max n a.h.own) c = ap (make action.AddSet) (a.is ∙ ap (λ x. with_expr a.e a.h (with_name name x)) is) in
    raised_by (p.2.1.1 (xs ++ (name, a.e) ∷ []) (max n a.h.own) c made (more_sets place n xs name a.e a.h good f a.good)) p.2.2

sets_first : (place : Place) → RowDoes place part.Sets terminal.Name field_set
unfolding kept_as
sets_first place kd bytes s b w l = one_set place (name_of bytes) (name_free bytes) b w l

sets_next : (place : Place) → RowDoes place part.MoreSets terminal.Comma (item.Token terminal.Name ∷ field_set)
unfolding kept_as
sets_next place kd bytes s b w l = one_set place (name_of l.1) (name_free l.1) b w l.3

pub sets_rows : (place : Place) (k : Terminal) → IfRow (RowDoes place part.Sets k) (row_of part.Sets k)
unfolding row_of
sets_rows place terminal.Name = sets_first place
sets_rows place terminal.CloseParen = sets_end place part.Sets (λ b w f. f)
sets_rows place other = tt

pub more_sets_rows : (place : Place) (k : Terminal) → IfRow (RowDoes place part.MoreSets k) (row_of part.MoreSets k)
unfolding row_of
more_sets_rows place terminal.Comma = sets_next place
more_sets_rows place terminal.CloseParen = sets_end place part.MoreSets (λ b w f. f)
more_sets_rows place other = tt

-- ---- calls by a reference

-- the bracket of a call and what stands in it
pub argued_call : (place : Place) (b w : Both) → Does place arguments b w → Raises with_args (GoodArgs place) b w
unfolding built built_right_side raised
argued_call place b w l = raised_by (l.1.1 [] 0 b refl tt) l.2

call_dot_field : (place : Place) → RowDoes place part.CallDot terminal.Dot (item.Build action.Field ∷ item.Token terminal.Name ∷ item.Part part.CallDot ∷ [])
unfolding kept_as built raised
call_dot_field place kd bytes s b w l = λ m e h c is f good.
    let name = name_of l.1 in
    let made = ap (λ x. with_name name (make action.Field x)) is in
    let p = l.3 in
    subst (λ x. AddsCall place c x) p.2 (p.1.1 name (expr.Field e m) (above h.own) c made (name_free l.1) (field_good place e h m f good))

call_dot_ends : (place : Place) → RowDoes place part.CallDot terminal.OpenParen arguments
unfolding kept_as
call_dot_ends place kd bytes s b w l = λ m e h c is f good.
    let a = argued_call place b w l in
    record { e = e; h = h; name = m; args = a.x; n = a.n; good = good; free = f; goods = a.good; is = a.is ∙ ap (with_args a.x a.n) is }

pub call_dot_rows : (place : Place) (k : Terminal) → IfRow (RowDoes place part.CallDot k) (row_of part.CallDot k)
unfolding row_of
call_dot_rows place terminal.Dot = call_dot_field place
call_dot_rows place terminal.OpenParen = call_dot_ends place
call_dot_rows place other = tt

-- behind a chain that was read, a call and what follows it
pub record Called (place : Place) (more : List Item) (b w : Both) : Type 0 where
  pub mid : Both
  pub call : AddsCall place b mid
  pub behind : Does place more mid w

pub called : (place : Place) (more : List Item) (b d w : Both) → Adds place b d → Does place (dotted_call ++ more) d w → Called place more b w
unfolding kept_as
called place more b d w a l =
    let name = name_of l.3.1 in
    let p = l.3.3 in
    record { mid = p.0; call = p.1.1 name a.e a.h b (ap (with_name name) a.is) (name_free l.3.1) a.good; behind = p.2 }

-- an atom begins a part
pub atom_called : (place : Place) → (k : Terminal) (pre more : List Item) → row_of part.Unary k ≡ Some (pre ++ item.Part part.Dots ∷ [])
    → (kd : TokenKind) (bytes : List ℕ) → Sound place (spelt k kd bytes) → (b w : Both) → Does place (pre ++ (dotted_call ++ more)) (keep (spelt k kd bytes) b) w
    → Called place more b w
atom_called place k pre more e kd bytes s b w l =
    let r = parted place pre (dotted_call ++ more) (keep (spelt k kd bytes) b) w l in
    called place more b r.mid w (fronted place k pre e kd bytes s b r.mid r.first) r.behind

chained_by : (place : Place) → (k : Terminal) (pre : List Item) → row_of part.Unary k ≡ Some (pre ++ item.Part part.Dots ∷ [])
    → RowDoes place part.Chained k (pre ++ (dotted_call ++ []))
chained_by place k pre e kd bytes s b w l =
    let r = atom_called place k pre [] e kd bytes s b w l in
    subst (λ x. AddsCall place b x) r.behind r.call

abbrev pub name_front : List Item
name_front = item.Build action.Variable ∷ []

pub chained_rows : (place : Place) → (k : Terminal) → IfRow (RowDoes place part.Chained k) (row_of part.Chained k)
unfolding row_of
chained_rows place terminal.Leaf = chained_by place terminal.Leaf leaf_front refl
chained_rows place terminal.Number = chained_by place terminal.Number leaf_front refl
chained_rows place terminal.Seconds = chained_by place terminal.Seconds leaf_front refl
chained_rows place terminal.Count = chained_by place terminal.Count leaf_front refl
chained_rows place terminal.Text = chained_by place terminal.Text leaf_front refl
chained_rows place terminal.Instant = chained_by place terminal.Instant leaf_front refl
chained_rows place terminal.OpenParen = chained_by place terminal.OpenParen pair_front refl
chained_rows place terminal.Version = chained_by place terminal.Version version_front refl
chained_rows place terminal.Name = chained_by place terminal.Name name_front refl
chained_rows place other = tt

-- ---- expressions as right sides

-- an expression, and its semicolon
made_right : (place : Place) (b d w : Both) → Adds place b d → Does place plain_items d w → AddsOwned place b w
unfolding kept_as built built_right_side raised
made_right place b d w a l =
    raised_by (record { x = rhs.Plain a.e; n = a.h.own; good = (expr_up place a.e a.h a.h.own (omega arith) a.good, refl); is = ap (make action.Plain) a.is }) l.3

-- the parts between an operator's row and the end of its expression
abbrev AllReplace : Place → List Item → Type 0
AllReplace place xs = (c b w : Both) → Adds place c b → Does place xs b w → Adds place c w

none_replace : (place : Place) → AllReplace place []
none_replace place c b w a l = finished place c b w a l

ors_replace : (place : Place) → AllReplace place after_ands
ors_replace place c b w a l = none_replace place c l.0 w (replaced place c b l.0 a l.1.0) l.2

ands_replace : (place : Place) → AllReplace place after_compare
ands_replace place c b w a l = ors_replace place c l.0 w (replaced place c b l.0 a l.1.0) l.2

compare_replaces : (place : Place) → AllReplace place after_sums
compare_replaces place c b w a l = ands_replace place c l.0 w (replaced place c b l.0 a l.1.0) l.2

sums_replace : (place : Place) → AllReplace place after_factors
sums_replace place c b w a l = compare_replaces place c l.0 w (replaced place c b l.0 a l.1.0) l.2

-- what was put off gives a good expression, and so a right side
abbrev Stands : Place → Option Action → Both → Both → Type 0
Stands place o b w = (e : Expr) (h : Height) (c : Both) → acted o b ≡ with_expr e h c → Good place e h → AddsOwned place c w

undone : (place : Place) (o : Option Action) (items : List Item) (b w : Both) → Does place (early o ++ items) b w → Does place items (acted o b) w
undone place None items b w l = l
undone place (Some a) items b w l = l

-- the operators' parts
abbrev IsReplacing : Part → Type 0
IsReplacing q = (place : Place) (b w : Both) → Effect place q b w → Replaces place b w

stands : (place : Place) → (o : Option Action) → Commutes o → (q : Part) → IsReplacing q → (xs : List Item) → AllReplace place xs
    → (k : Terminal) (row : List Item) → row_of q k ≡ Some row → is_held k ≡ true → (kd : TokenKind) (bytes : List ℕ) → Sound place (spelt k kd bytes) → (b w : Both)
    → Does place (early o ++ (row ++ (xs ++ plain_items))) (keep (spelt k kd bytes) b) w → Stands place o b w
stands place o commutes q replacing xs all k row e held kd bytes s b w l = λ x h c is good.
    let t = spelt k kd bytes in
    let y = subst (λ z. Does place (row ++ (xs ++ plain_items)) z w) (commutes k kd bytes b held) (undone place o (row ++ (xs ++ plain_items)) (keep t b) w l) in
    let r = parted place row (xs ++ plain_items) (keep t (acted o b)) w y in
    let f = replacing place (acted o b) r.mid (row_is place q k row e kd bytes s (acted o b) r.mid (old place row _ r.mid r.first)) in
    let p = parted place xs plain_items r.mid w r.behind in
    made_right place c p.mid w (all c r.mid p.mid (f x h c is good) p.first) p.behind

semi_stands : (place : Place) (o : Option Action) → (b w : Both) → Does place (early o ++ item.Build action.Plain ∷ []) b w → Stands place o b w
unfolding built built_right_side raised
semi_stands place o b w l = λ e h c is good.
    let y = undone place o (item.Build action.Plain ∷ []) b w l in
    record { x = rhs.Plain e; n = h.own; good = (expr_up place e h h.own (omega arith) good, refl); is = sym y ∙ ap (make action.Plain) is }

-- at each of the three parts
dots_news : (place : Place) (b w : Both) → Stands place None b w → News place part.RhsDots b w
dots_news place b w f = f

dot_news : (place : Place) (b w : Both) → Stands place (Some action.Field) b w → News place part.RhsDot b w
unfolding built raised
dot_news place b w f = λ m e h c is free good. f (expr.Field e m) (above h.own) c (ap (make action.Field) is) (field_good place e h m free good)

name_news : (place : Place) (b w : Both) → Stands place (Some action.Variable) b w → News place part.RhsName b w
unfolding built raised
name_news place b w f = λ m c is free. unowned (f (expr.Name m) leaf c (ap (make action.Variable) is) (name_good place m free))

abbrev factors_row : List Item
factors_row = item.Part part.Unary ∷ item.Build action.Binary ∷ item.Part part.Factors ∷ []

abbrev sums_row : List Item
sums_row = term ++ item.Build action.Binary ∷ item.Part part.Sums ∷ []

abbrev compare_row : List Item
compare_row = sum ++ item.Build action.Binary ∷ []

abbrev ands_row : List Item
ands_row = comp ++ item.Build action.Binary ∷ item.Part part.Ands ∷ []

abbrev ors_row : List Item
ors_row = conj ++ item.Build action.Binary ∷ item.Part part.Ors ∷ []

-- a dot and a name behind a chain
next_name : (place : Place) (o : Option Action) (b w : Both) → Does place (early o ++ (item.Token terminal.Name ∷ item.Part part.RhsDot ∷ [])) b w → Stands place o b w
unfolding kept_as
next_name place o b w l = λ e h c is good.
    let y = undone place o (item.Token terminal.Name ∷ item.Part part.RhsDot ∷ []) b w l in
    let p = y.3 in
    raised_by (p.1.1 (name_of y.1) e h c (ap (with_name (name_of y.1)) is) (name_free y.1) good) p.2

field_right : (place : Place) → RowDoes place part.RhsDot terminal.OpenParen (arguments ++ item.Build action.Call ∷ ending)
unfolding kept_as built built_right_side raised
field_right place kd bytes s b w l = λ m e h c is f good.
    let r = parted place arguments (item.Build action.Call ∷ ending) b w l in
    let a = argued_call place b r.mid r.first in
    let n = max (h.own + 1) a.n in
    let of : GoodOf place n e = record { h = h; good = good; below = omega arith } in
    raised_by (record {
      x = rhs.Call (record { of = Some e; method = m; args = a.x });
      n = n;
      good = ((of, f, args_up place a.n n a.x (omega arith) a.good), refl);
      is = ap (make action.Call) (a.is ∙ ap (with_args a.x a.n) is);
    })
    r.behind.3

own_right : (place : Place) → RowDoes place part.RhsName terminal.OpenParen (arguments ++ item.Build action.OwnCall ∷ ending)
unfolding kept_as built built_right_side raised
own_right place kd bytes s b w l = λ m c is f.
    let r = parted place arguments (item.Build action.OwnCall ∷ ending) b w l in
    let a = argued_call place b r.mid r.first in
    raised_by (record {
      x = rhs.Call (record { of = None; method = m; args = a.x });
      n = a.n;
      good = (tt, f, a.good);
      is = ap (make action.OwnCall) (a.is ∙ ap (with_args a.x a.n) is);
    })
    r.behind.3

pub rhs_dots_rows : (place : Place) → (k : Terminal) → IfRow (RowDoes place part.RhsDots k) (row_of part.RhsDots k)
unfolding row_of kept_as
rhs_dots_rows place terminal.Dot = λ kd bytes s b w l. dots_news place b w (next_name place None b w l)
rhs_dots_rows place terminal.Semi = λ kd bytes s b w l. dots_news place b w (semi_stands place None b w l)
rhs_dots_rows place terminal.Times = λ kd bytes s b w l.
    dots_news place b w (stands place None dots_stand.commutes part.Factors (λ p c d f. f) after_factors (sums_replace place) terminal.Times factors_row refl refl kd bytes s b w l)
rhs_dots_rows place terminal.Plus = λ kd bytes s b w l.
    dots_news place b w (stands place None dots_stand.commutes part.Sums (λ p c d f. f) after_sums (compare_replaces place) terminal.Plus sums_row refl refl kd bytes s b w l)
rhs_dots_rows place terminal.Minus = λ kd bytes s b w l.
    dots_news place b w (stands place None dots_stand.commutes part.Sums (λ p c d f. f) after_sums (compare_replaces place) terminal.Minus sums_row refl refl kd bytes s b w l)
rhs_dots_rows place terminal.Compares = λ kd bytes s b w l.
    dots_news place b w (stands place None dots_stand.commutes part.Compare (λ p c d f. f) after_compare (ands_replace place) terminal.Compares compare_row refl refl kd bytes s b w l)
rhs_dots_rows place terminal.AndAnd = λ kd bytes s b w l.
    dots_news place b w (stands place None dots_stand.commutes part.Ands (λ p c d f. f) after_ands (ors_replace place) terminal.AndAnd ands_row refl refl kd bytes s b w l)
rhs_dots_rows place terminal.OrOr = λ kd bytes s b w l.
    dots_news place b w (stands place None dots_stand.commutes part.Ors (λ p c d f. f) [] (none_replace place) terminal.OrOr ors_row refl refl kd bytes s b w l)
rhs_dots_rows place other = tt

pub rhs_dot_rows : (place : Place) → (k : Terminal) → IfRow (RowDoes place part.RhsDot k) (row_of part.RhsDot k)
unfolding row_of kept_as
rhs_dot_rows place terminal.Dot = λ kd bytes s b w l. dot_news place b w (next_name place (Some action.Field) b w l)
rhs_dot_rows place terminal.Semi = λ kd bytes s b w l. dot_news place b w (semi_stands place (Some action.Field) b w l)
rhs_dot_rows place terminal.OpenParen = field_right place
rhs_dot_rows place terminal.Times = λ kd bytes s b w l.
    dot_news place b w (stands place (Some action.Field) dot_stand.commutes part.Factors (λ p c d f. f) after_factors (sums_replace place) terminal.Times factors_row refl refl kd bytes s b w l)
rhs_dot_rows place terminal.Plus = λ kd bytes s b w l.
    dot_news place b w (stands place (Some action.Field) dot_stand.commutes part.Sums (λ p c d f. f) after_sums (compare_replaces place) terminal.Plus sums_row refl refl kd bytes s b w l)
rhs_dot_rows place terminal.Minus = λ kd bytes s b w l.
    dot_news place b w (stands place (Some action.Field) dot_stand.commutes part.Sums (λ p c d f. f) after_sums (compare_replaces place) terminal.Minus sums_row refl refl kd bytes s b w l)
rhs_dot_rows place terminal.Compares = λ kd bytes s b w l.
    dot_news place b w (stands place (Some action.Field) dot_stand.commutes part.Compare (λ p c d f. f) after_compare (ands_replace place) terminal.Compares compare_row refl refl kd bytes s b w l)
rhs_dot_rows place terminal.AndAnd = λ kd bytes s b w l.
    dot_news place b w (stands place (Some action.Field) dot_stand.commutes part.Ands (λ p c d f. f) after_ands (ors_replace place) terminal.AndAnd ands_row refl refl kd bytes s b w l)
rhs_dot_rows place terminal.OrOr = λ kd bytes s b w l.
    dot_news place b w (stands place (Some action.Field) dot_stand.commutes part.Ors (λ p c d f. f) [] (none_replace place) terminal.OrOr ors_row refl refl kd bytes s b w l)
rhs_dot_rows place other = tt

pub rhs_name_rows : (place : Place) → (k : Terminal) → IfRow (RowDoes place part.RhsName k) (row_of part.RhsName k)
unfolding row_of kept_as
rhs_name_rows place terminal.Dot = λ kd bytes s b w l. name_news place b w (next_name place (Some action.Variable) b w l)
rhs_name_rows place terminal.Semi = λ kd bytes s b w l. name_news place b w (semi_stands place (Some action.Variable) b w l)
rhs_name_rows place terminal.OpenParen = own_right place
rhs_name_rows place terminal.Times = λ kd bytes s b w l.
    name_news place b w (stands place (Some action.Variable) name_stand.commutes part.Factors (λ p c d f. f) after_factors (sums_replace place) terminal.Times factors_row refl refl kd bytes s b w l)
rhs_name_rows place terminal.Plus = λ kd bytes s b w l.
    name_news place b w (stands place (Some action.Variable) name_stand.commutes part.Sums (λ p c d f. f) after_sums (compare_replaces place) terminal.Plus sums_row refl refl kd bytes s b w l)
rhs_name_rows place terminal.Minus = λ kd bytes s b w l.
    name_news place b w (stands place (Some action.Variable) name_stand.commutes part.Sums (λ p c d f. f) after_sums (compare_replaces place) terminal.Minus sums_row refl refl kd bytes s b w l)
rhs_name_rows place terminal.Compares = λ kd bytes s b w l.
    name_news place b w (stands place (Some action.Variable) name_stand.commutes part.Compare (λ p c d f. f) after_compare (ands_replace place) terminal.Compares compare_row refl refl kd bytes s b w l)
rhs_name_rows place terminal.AndAnd = λ kd bytes s b w l.
    name_news place b w (stands place (Some action.Variable) name_stand.commutes part.Ands (λ p c d f. f) after_ands (ors_replace place) terminal.AndAnd ands_row refl refl kd bytes s b w l)
rhs_name_rows place terminal.OrOr = λ kd bytes s b w l.
    name_news place b w (stands place (Some action.Variable) name_stand.commutes part.Ors (λ p c d f. f) [] (none_replace place) terminal.OrOr ors_row refl refl kd bytes s b w l)
rhs_name_rows place other = tt

-- ---- whole right sides

chain_owned : (place : Place) (k : Terminal) (pre : List Item) → row_of part.Unary k ≡ Some (pre ++ item.Part part.Dots ∷ []) → (kd : TokenKind) (bytes : List ℕ)
    → Sound place (spelt k kd bytes) → (b w : Both) → Does place (pre ++ item.Part part.RhsDots ∷ []) (keep (spelt k kd bytes) b) w → AddsOwned place b w
chain_owned place k pre e kd bytes s b w l =
    let r = parted place pre (item.Part part.RhsDots ∷ []) (keep (spelt k kd bytes) b) w l in
    let a = fronted place k pre e kd bytes s b r.mid r.first in
    raised_by (r.behind.1.1 a.e a.h b a.is a.good) r.behind.2

chain_right : (place : Place) (k : Terminal) (pre : List Item) → row_of part.Unary k ≡ Some (pre ++ item.Part part.Dots ∷ [])
    → RowDoes place part.Rhs k (pre ++ item.Part part.RhsDots ∷ [])
chain_right place k pre e kd bytes s b w l = unowned (chain_owned place k pre e kd bytes s b w l)

sign_owned : (place : Place) (k : Terminal) → row_of part.Expr k ≡ Some sign_row → (kd : TokenKind) (bytes : List ℕ) → Sound place (spelt k kd bytes) → (b w : Both)
    → Does place (sign_row ++ plain_items) (keep (spelt k kd bytes) b) w → AddsOwned place b w
sign_owned place k e kd bytes s b w l =
    let r = parted place sign_row plain_items (keep (spelt k kd bytes) b) w l in
    made_right place b r.mid w (row_is place part.Expr k sign_row e kd bytes s b r.mid (old place sign_row _ r.mid r.first)) r.behind

sign_right : (place : Place) (k : Terminal) → row_of part.Expr k ≡ Some sign_row → RowDoes place part.Rhs k (sign_row ++ plain_items)
sign_right place k e kd bytes s b w l = unowned (sign_owned place k e kd bytes s b w l)

name_right : (place : Place) → RowDoes place part.Rhs terminal.Name (item.Part part.RhsName ∷ [])
unfolding kept_as
name_right place kd bytes s b w l = raised_by (l.1.1 (name_of bytes) b refl (name_free bytes)) l.2

-- a change, and what follows it
pub record Changed (place : Place) (more : List Item) (b w : Both) : Type 0 where
  pub mid : Both
  pub right : AddsOwned place b mid
  pub is_do : is_do_of right.x ≡ true
  pub behind : Does place more mid w

pub pnew_changes : (place : Place) (more : List Item) (kd : TokenKind) (bytes : List ℕ) (b w : Both) → Does place (new ++ more) (keep (spelt terminal.PNew kd bytes) b) w
    → Changed place more b w
unfolding kept_as built built_right_side raised
pnew_changes place more kd bytes b w l =
    let name = name_of l.1 in
    let p = l.3.3 in
    let f = p.1.1 [] 0 (with_name name b) refl tt in
    record {
      mid = make action.New p.0;
      right = record { x = rhs.New name f.x; n = f.n; good = ((name_free l.1, f.good), refl); is = ap (make action.New) f.is };
      is_do = refl;
      behind = p.2;
    }

pub newversion_changes : (place : Place) (more : List Item) (kd : TokenKind) (bytes : List ℕ) (b w : Both)
    → Does place (item.Part part.Expr ∷ item.Build action.NewVersion ∷ more) (keep (spelt terminal.NewVersion kd bytes) b) w → Changed place more b w
unfolding kept_as built built_right_side raised
newversion_changes place more kd bytes b w l =
    let a = l.1.0 in
    record {
      mid = make action.NewVersion l.0;
      right = record { x = rhs.NewVersion a.e; n = a.h.own; good = (expr_up place a.e a.h a.h.own (omega arith) a.good, refl); is = ap (make action.NewVersion) a.is };
      is_do = refl;
      behind = l.2;
    }

pub activate_changes : (place : Place) (more : List Item) (kd : TokenKind) (bytes : List ℕ) (b w : Both)
    → Does place (item.Part part.Chained ∷ item.Build action.Activate ∷ more) (keep (spelt terminal.Activate kd bytes) b) w → Changed place more b w
unfolding kept_as built built_right_side raised
activate_changes place more kd bytes b w l =
    let a = l.1.1 in
    let n = max (a.h.own + 1) a.n in
    let of : GoodOf place n a.e = record { h = a.h; good = a.good; below = omega arith } in
    record {
      mid = make action.Activate l.0;
      right = record { x = rhs.Activate a.e a.name a.args; n = n; good = ((of, a.free, args_up place a.n n a.args (omega arith) a.goods), refl); is = ap (make action.Activate) a.is };
      is_do = refl;
      behind = l.2;
    }

-- a change and its semicolon
change_right : (place : Place) (b w : Both) → Changed place ending b w → AddsOwned place b w
unfolding kept_as
change_right place b w c = raised_by c.right c.behind.3

pub rhs_rows : (place : Place) → (k : Terminal) → IfRow (RowDoes place part.Rhs k) (row_of part.Rhs k)
unfolding row_of
rhs_rows place terminal.Leaf = chain_right place terminal.Leaf leaf_front refl
rhs_rows place terminal.Number = chain_right place terminal.Number leaf_front refl
rhs_rows place terminal.Seconds = chain_right place terminal.Seconds leaf_front refl
rhs_rows place terminal.Count = chain_right place terminal.Count leaf_front refl
rhs_rows place terminal.Text = chain_right place terminal.Text leaf_front refl
rhs_rows place terminal.Instant = chain_right place terminal.Instant leaf_front refl
rhs_rows place terminal.OpenParen = chain_right place terminal.OpenParen pair_front refl
rhs_rows place terminal.Version = chain_right place terminal.Version version_front refl
rhs_rows place terminal.Name = name_right place
rhs_rows place terminal.Minus = sign_right place terminal.Minus refl
rhs_rows place terminal.Not = sign_right place terminal.Not refl
rhs_rows place terminal.PNew = λ kd bytes s b w l. unowned (change_right place b w (pnew_changes place ending kd bytes b w l))
rhs_rows place terminal.NewVersion = λ kd bytes s b w l. unowned (change_right place b w (newversion_changes place ending kd bytes b w l))
rhs_rows place terminal.Activate = λ kd bytes s b w l. unowned (change_right place b w (activate_changes place ending kd bytes b w l))
rhs_rows place other = tt

pub script_rhs_rows : (place : Place) (k : Terminal) → IfRow (RowDoes place part.ScriptRhs k) (row_of part.ScriptRhs k)
unfolding row_of
script_rhs_rows place terminal.Leaf = chain_owned place terminal.Leaf leaf_front refl
script_rhs_rows place terminal.Number = chain_owned place terminal.Number leaf_front refl
script_rhs_rows place terminal.Seconds = chain_owned place terminal.Seconds leaf_front refl
script_rhs_rows place terminal.Count = chain_owned place terminal.Count leaf_front refl
script_rhs_rows place terminal.Text = chain_owned place terminal.Text leaf_front refl
script_rhs_rows place terminal.Instant = chain_owned place terminal.Instant leaf_front refl
script_rhs_rows place terminal.OpenParen = chain_owned place terminal.OpenParen pair_front refl
script_rhs_rows place terminal.Version = chain_owned place terminal.Version version_front refl
script_rhs_rows place terminal.Name = chain_owned place terminal.Name name_front refl
script_rhs_rows place terminal.Minus = sign_owned place terminal.Minus refl
script_rhs_rows place terminal.Not = sign_owned place terminal.Not refl
script_rhs_rows place terminal.PNew = λ kd bytes s b w l. change_right place b w (pnew_changes place ending kd bytes b w l)
script_rhs_rows place terminal.NewVersion = λ kd bytes s b w l. change_right place b w (newversion_changes place ending kd bytes b w l)
script_rhs_rows place terminal.Activate = λ kd bytes s b w l. change_right place b w (activate_changes place ending kd bytes b w l)
script_rhs_rows place other = tt
