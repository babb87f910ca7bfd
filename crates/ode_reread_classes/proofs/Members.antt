-- Members whose printed text is read as they are, no higher than they were read.
use Rattle.std.proofs.Common.{◌≡◌, ◌≤◌, ℕ, zero, suc, max, Bool, true, false, cond, codes, List, [], ◌∷◌, ◌++◌, append_assoc, length, map, refl, sym, ◌∙◌, ap, subst, arith}
use Rattle.std.specs.List.{flat_map}
use Rattle.std.proofs.lemmas.List.{append-nil}
use Rattle.ode_lex.specs.declared.token.Mark.TheVariants as mark
use Rattle.ode_lex.specs.declared.token.TokenKind.TheVariants as kind
use Rattle.ode_grammar.specs.declared.item.Action.TheVariants as action
use Rattle.ode_grammar.specs.declared.item.Item.{Item}
use Rattle.ode_grammar.specs.declared.item.Item.TheVariants as item
use Rattle.ode_grammar.specs.declared.item.Part.TheVariants as part
use Rattle.ode_grammar.specs.declared.terminal.Terminal.TheVariants as terminal
use Rattle.ode_grammar.specs.Classes.{method, test, trigger}
use Rattle.ode_grammar.specs.Events.{event as whole_event}
use Rattle.ode_grammar.specs.Grammar.{row_of, skipped}
use Rattle.ode_grammar.specs.Statements.{body}
use Rattle.ode_grammar.specs.Texts.{Next, Make, Rule, Skip}
use Rattle.ode_heights.specs.declared.height.Height.{Height}
use Rattle.ode_heights.specs.Heights.{raised}
use Rattle.ode_terminals.specs.declared.seen.Place.{Place}
use Rattle.ode_terminals.specs.Words.{word_terminal}
use Rattle.ode_value.specs.Printing.{event_text, kind_text, Printed}
use Rattle.ode_value.specs.PrintedClasses.{body_text, member_text, mode_text, param_text, params_text, sort_text, trigger_words}
use Rattle.ode_value.specs.Words.{is_free}
use Rattle.ode_value.specs.declared.binding.Param.{Param}
use Rattle.ode_value.specs.declared.event.EventExpr.{EventExpr}
use Rattle.ode_value.specs.declared.event.Kind.{Kind}
use Rattle.ode_value.specs.declared.event.Mode.{Mode}
use Rattle.ode_value.specs.declared.event.Mode.TheVariants as mode
use Rattle.ode_value.specs.declared.member.Constraint.{Constraint}
use Rattle.ode_value.specs.declared.member.Method.{Method}
use Rattle.ode_value.specs.declared.member.TriggerDecl.{TriggerDecl}
use Rattle.ode_value.specs.declared.statement.Expr.{Expr}
use Rattle.ode_value.specs.declared.statement.Member.{Member}
use Rattle.ode_value.specs.declared.statement.Member.TheVariants as member
use Rattle.ode_value.specs.declared.statement.Sort.{Sort}
use Rattle.ode_value.specs.declared.statement.Sort.TheVariants as sort
use Rattle.ode_syntax.specs.Built.{built, built_right_side, built_statement, built_event, built_kind, built_class, built_member, built_script}
use Rattle.ode_syntax.specs.Kept.{kept_as, Spelled}
use Rattle.ode_relex.specs.Ends.{opens}
use Rattle.ode_reread.proofs.Both.{Both}
use Rattle.ode_reread.proofs.Cuts.{spell}
use Rattle.ode_reread.proofs.EventGoods.{GoodEvent, GoodKind}
use Rattle.ode_reread.proofs.EventPrints.{with_event, with_kind}
use Rattle.ode_reread.proofs.EventSpells.{words_spell}
use Rattle.ode_reread.proofs.Goods.{free_word}
use Rattle.ode_reread.proofs.Marked.{marked, with_expr, with_name}
use Rattle.ode_reread.proofs.Prints.{regroup, Ds}
use Rattle.ode_reread.proofs.Spells.{ends, ends_stops, no_blank, opens_append, word_spells, Spells}
use Rattle.ode_reread_classes.proofs.Chains.{name_next}
use Rattle.ode_reread_classes.proofs.Derivations.{from, mark_rule, next_mark, with_tokens}
use Rattle.ode_reread_classes.proofs.Lists.{elements, weaker, Each, Element, Elements}
use Rattle.ode_reread_classes.proofs.ParamParts.{last_param, more_part, next_param}
use Rattle.ode_reread_classes.proofs.Parts.{expr_up, up, GoodExpr}
use Rattle.ode_reread_classes.proofs.Pieces.{begun, between_blanks, blank, blanks_behind, closing_mark, expr_spells, join, mark_blank, marks_behind, nothing, of_spells, one_mark, then_blank, to_spells, word, word_begun, worded, Piece}
use Rattle.ode_reread_classes.proofs.Puts.{with_body, with_flag, with_kinds, with_members, with_mode, with_params, with_sort}
use Rattle.ode_reread_classes.proofs.Statements.{body_up, printed_body, GoodBody}

-- ---- sorts

abbrev pub GoodSort : Sort → Type 0
GoodSort (sort.Reference class) = is_free class ≡ true
GoodSort sort.Void = ⊥
GoodSort other = Unit {0}

abbrev pub GoodResult : Sort → Type 0
GoodResult sort.Void = Unit {0}
GoodResult s = GoodSort s

-- the tokens are this sort, wherever a sort may stand
record PrintedSort (place : Place) (s : Sort) : Type 0 where
  pub tokens : List Spelled
  pub spells : Spells place (sort_text s) tokens
  pub sort : (items : List Item) (b : Both) (ts : List Spelled) (out : Both) → Ds items (with_sort s b) ts out → Ds (item.Part part.Sort ∷ items) b (tokens ++ ts) out
  pub member : (items : List Item) (b : Both) (ts : List Spelled) (out : Both)
      → Ds (item.Token terminal.Name ∷ item.Part part.FieldOrMethod ∷ item.Part part.Members ∷ items) (with_sort s b) ts out
      → Ds (item.Part part.Members ∷ items) b (tokens ++ ts) out
  pub param : (items : List Item) (b : Both) (ts : List Spelled) (out : Both)
      → Ds (item.Token terminal.Name ∷ item.Build action.Param ∷ item.Part part.SecondParam ∷ items) (with_sort s b) ts out
      → Ds (item.Part part.Params ∷ items) b (tokens ++ ts) out

abbrev sort_row : List Item → List Item
sort_row more = item.Build action.Sort ∷ more

abbrev pub field_items : List Item
field_items = item.Token terminal.Name ∷ item.Part part.FieldOrMethod ∷ item.Part part.Members ∷ []

abbrev param_items : List Item
param_items = item.Token terminal.Name ∷ item.Build action.Param ∷ item.Part part.SecondParam ∷ []

printed_int : (place : Place) → PrintedSort place sort.Int
unfolding row_of kept_as word_terminal built built_right_side built_statement built_event built_kind built_class built_member built_script raised
printed_int place = record {
  tokens = spell place kind.Word (codes "int") ∷ [];
  spells = word_spells place (codes "int") refl;
  sort = λ items b ts out d. Rule part.Sort (sort_row []) refl (Make action.Sort d);
  member = λ items b ts out d. Rule part.Members (sort_row field_items) refl (Make action.Sort d);
  param = λ items b ts out d. Rule part.Params (sort_row param_items) refl (Make action.Sort d);
}

printed_bool : (place : Place) → PrintedSort place sort.Bool
unfolding row_of kept_as word_terminal built built_right_side built_statement built_event built_kind built_class built_member built_script raised
printed_bool place = record {
  tokens = spell place kind.Word (codes "bool") ∷ [];
  spells = word_spells place (codes "bool") refl;
  sort = λ items b ts out d. Rule part.Sort (sort_row []) refl (Make action.Sort d);
  member = λ items b ts out d. Rule part.Members (sort_row field_items) refl (Make action.Sort d);
  param = λ items b ts out d. Rule part.Params (sort_row param_items) refl (Make action.Sort d);
}

printed_text : (place : Place) → PrintedSort place sort.Text
unfolding row_of kept_as word_terminal built built_right_side built_statement built_event built_kind built_class built_member built_script raised
printed_text place = record {
  tokens = spell place kind.Word (codes "text") ∷ [];
  spells = word_spells place (codes "text") refl;
  sort = λ items b ts out d. Rule part.Sort (sort_row []) refl (Make action.Sort d);
  member = λ items b ts out d. Rule part.Members (sort_row field_items) refl (Make action.Sort d);
  param = λ items b ts out d. Rule part.Params (sort_row param_items) refl (Make action.Sort d);
}

abbrev ref_row : List Item → List Item
ref_row more = item.Token terminal.Name ∷ item.Build action.RefSort ∷ more

printed_ref : (place : Place) (class : List ℕ) → is_free class ≡ true → PrintedSort place (sort.Reference class)
unfolding row_of kept_as word_terminal built built_right_side built_statement built_event built_kind built_class raised
printed_ref place class f = record {
  tokens = spell place kind.Word (codes "ref") ∷ spell place kind.Word class ∷ [];
  spells = words_spell place (codes "ref") class _ refl (word_spells place class (free_word class f));
  sort = λ items b ts out d. Rule part.Sort (ref_row []) refl (name_next place class f (Make action.RefSort d));
  member = λ items b ts out d. Rule part.Members (ref_row field_items) refl (name_next place class f (Make action.RefSort d));
  param = λ items b ts out d. Rule part.Params (ref_row param_items) refl (name_next place class f (Make action.RefSort d));
}

printed_sort : (place : Place) (s : Sort) → GoodSort s → PrintedSort place s
printed_sort place sort.Int g = printed_int place
printed_sort place sort.Bool g = printed_bool place
printed_sort place sort.Text g = printed_text place
printed_sort place (sort.Reference class) g = printed_ref place class g
printed_sort place sort.Void g = absurd g

-- ---- parameters

abbrev pub GoodParam : Param → Type 0
GoodParam p = (is_free p.name ≡ true) × GoodSort p.sort

param_piece : (place : Place) (p : Param) → (f : is_free p.name ≡ true) → (s : PrintedSort place p.sort) → Piece place ends (param_text p) (s.tokens ++ spell place kind.Word p.name ∷ [])
param_piece place p f s =
    join (then_blank (of_spells s.spells) (λ rest. refl)) (record { cuts = λ rest us e c. (word place p.name (free_word p.name f)).cuts rest us (ends_stops rest e) c })
    (λ rest e. word_begun p.name (free_word p.name f) rest (ends_stops rest e))

param_opens : (place : Place) (p : Param) → PrintedSort place p.sort → opens (param_text p) ≡ true
param_opens place p s = opens_append (sort_text p.sort ++ codes " ") p.name (opens_append (sort_text p.sort) (codes " ") s.spells.begins)

-- parameters behind others, and the bracket
record MoreParams (place : Place) (n : ℕ) (ps : List Param) : Type 0 where
  pub tokens : List Spelled
  pub piece : Piece place ends (flat_map (λ t. codes ", " ++ t) (map param_text ps)) tokens
  pub begins : (rest : List ℕ) → ends rest ≡ true → ends (flat_map (λ t. codes ", " ++ t) (map param_text ps) ++ rest) ≡ true
  pub does : (done : List Param) (items : List Item) (b : Both) (ts : List Spelled) (out : Both) → Ds items (with_params (done ++ ps) b) ts out
      → Ds (more_part n ∷ items) (with_params done b) (tokens ++ marked mark.CloseParen ∷ ts) out

no_more_params : (place : Place) (n : ℕ) → n ≤ 15 → MoreParams place n []
no_more_params place n l = record {
  tokens = [];
  piece = nothing place;
  begins = λ rest e. e;
  does = λ done items b ts out d. last_param n l items (with_params done b) ts out (from (ap (λ xs. with_params xs b) (sym (append-nil done))) d);
}

made_param : (done : List Param) (name : List ℕ) (s : Sort) (items : List Item) (b : Both) (ts : List Spelled) (out : Both)
    → Ds items (with_params (done ++ (record { name = name; sort = s }) ∷ []) b) ts out
    → Ds (item.Build action.Param ∷ items) (with_name name (with_sort s (with_params done b))) ts out
unfolding built built_right_side built_statement built_event built_kind built_class raised
made_param done name s items b ts out d = Make action.Param d

one_more_param : (place : Place) (n : ℕ) (p : Param) (ps : List Param) → n ≤ 14 → GoodParam p → MoreParams place n ps → MoreParams place (suc n) (p ∷ ps)
one_more_param place n p ps l g r =
    let s = printed_sort place p.sort g.1 in
    let tokens = s.tokens ++ spell place kind.Word p.name ∷ [] in
    record {
      tokens = marked mark.Comma ∷ (tokens ++ r.tokens);
      piece = join (join (mark_blank place mark.Comma) (param_piece place p g.0 s) (begun (to_spells (param_opens place p s) (param_piece place p g.0 s)))) r.piece r.begins;
      begins = λ rest e. refl;
      does = λ done items b ts out d.
          let close = marked mark.CloseParen ∷ ts in
          let same = ap (λ xs. with_params xs b) (append_assoc done (p ∷ []) ps) in
          let others = r.does (done ++ p ∷ []) items b ts out (from same d) in
          let named = name_next place p.name g.0 (made_param done p.name p.sort (more_part n ∷ items) b (r.tokens ++ close) out others) in
          let sorted = s.sort (item.Token terminal.Name ∷ item.Build action.Param ∷ more_part n ∷ items) (with_params done b) (spell place kind.Word p.name ∷ (r.tokens ++ close)) out named in
          next_param n l items (with_params done b) ((tokens ++ r.tokens) ++ close) out
          (regroup tokens r.tokens close (regroup s.tokens (spell place kind.Word p.name ∷ []) (r.tokens ++ close) sorted));
    }

printed_more : (place : Place) (n : ℕ) (ps : List Param) → length ps ≤ n → n ≤ 15 → Each GoodParam ps → MoreParams place n ps
printed_more place n [] l k g = no_more_params place n k
printed_more place zero (p ∷ ps) l k g = absurd (omega arith)
printed_more place (suc n) (p ∷ ps) l k g = one_more_param place n p ps (omega arith) g.0 (printed_more place n ps (omega arith) (omega arith) g.1)

record PrintedParams (place : Place) (ps : List Param) : Type 0 where
  pub inner : List Spelled
  pub piece : Piece place ends (params_text ps) (marked mark.OpenParen ∷ inner)
  pub does : (items : List Item) (b : Both) (ts : List Spelled) (out : Both) → Ds items (with_params ps b) ts out
      → Ds (item.Part part.Params ∷ items) (with_params [] b) (inner ++ ts) out

no_params : (place : Place) → PrintedParams place []
unfolding row_of kept_as
no_params place = record {
  inner = marked mark.CloseParen ∷ [];
  piece = join (one_mark place mark.OpenParen) (closing_mark place mark.CloseParen) (λ rest e. refl);
  does = λ items b ts out d. Rule part.Params [] refl d;
}

some_params : (place : Place) (p : Param) (ps : List Param) → GoodParam p → MoreParams place 15 ps → PrintedParams place (p ∷ ps)
some_params place p ps g r =
    let s = printed_sort place p.sort g.1 in
    let tokens = s.tokens ++ spell place kind.Word p.name ∷ [] in
    record {
      inner = (tokens ++ r.tokens) ++ marked mark.CloseParen ∷ [];
      piece = join (join (one_mark place mark.OpenParen) (join (param_piece place p g.0 s) r.piece r.begins) (marks_behind (param_text p) _ (param_opens place p s))) (closing_mark place mark.CloseParen) (λ rest e. refl);
      does = λ items b ts out d.
          let close = marked mark.CloseParen ∷ ts in
          let others = r.does (p ∷ []) items b ts out d in
          let named = name_next place p.name g.0 (made_param [] p.name p.sort (item.Part part.SecondParam ∷ items) b (r.tokens ++ close) out others) in
          let sorted = s.param items (with_params [] b) (spell place kind.Word p.name ∷ (r.tokens ++ close)) out named in
          regroup (tokens ++ r.tokens) (marked mark.CloseParen ∷ []) ts
          (regroup tokens r.tokens close (regroup s.tokens (spell place kind.Word p.name ∷ []) (r.tokens ++ close) sorted));
    }

-- at most 16 of them
pub record GoodParams (ps : List Param) : Type 0 where
  pub few : length ps ≤ 16
  pub each : Each GoodParam ps

printed_params : (place : Place) (ps : List Param) → GoodParams ps → PrintedParams place ps
printed_params place [] g = no_params place
printed_params place (p ∷ ps) g = let l = g.few in some_params place p ps g.each.0 (printed_more place 15 ps (omega arith) (omega arith) g.each.1)

-- ---- methods

-- a sort that a method returns, its name and its bracket
record PrintedResult (place : Place) (s : Sort) : Type 0 where
  pub tokens : List Spelled
  pub spells : Spells place (sort_text s) tokens
  pub does : (name : List ℕ) → is_free name ≡ true → (items : List Item) (b : Both) (ts : List Spelled) (out : Both)
      → Ds (method ++ item.Part part.Members ∷ items) (with_name name (with_sort s b)) ts out
      → Ds (item.Part part.Members ∷ items) b (tokens ++ spell place kind.Word name ∷ marked mark.OpenParen ∷ ts) out

void_result : (place : Place) → PrintedResult place sort.Void
unfolding row_of kept_as word_terminal built built_right_side built_statement built_event built_kind built_class raised
void_result place = record {
  tokens = spell place kind.Word (codes "void") ∷ [];
  spells = word_spells place (codes "void") refl;
  does = λ name f items b ts out d.
      Rule part.Members (item.Build action.VoidSort ∷ item.Token terminal.Name ∷ item.Token terminal.OpenParen ∷ method ++ item.Part part.Members ∷ []) refl
      (Make action.VoidSort (name_next place name f (Next terminal.OpenParen refl d)));
}

sort_result : (place : Place) (s : Sort) → PrintedSort place s → PrintedResult place s
unfolding row_of kept_as
sort_result place s p = record {
  tokens = p.tokens;
  spells = p.spells;
  does = λ name f items b ts out d.
      p.member items b (spell place kind.Word name ∷ marked mark.OpenParen ∷ ts) out (name_next place name f (Rule part.FieldOrMethod method refl d));
}

printed_result : (place : Place) (s : Sort) → GoodResult s → PrintedResult place s
printed_result place sort.Int g = sort_result place sort.Int (printed_int place)
printed_result place sort.Bool g = sort_result place sort.Bool (printed_bool place)
printed_result place sort.Text g = sort_result place sort.Text (printed_text place)
printed_result place (sort.Reference class) g = sort_result place (sort.Reference class) (printed_ref place class g)
printed_result place sort.Void g = void_result place

pub record GoodMethod (place : Place) (n : ℕ) (m : Method) : Type 0 where
  pub name : is_free m.name ≡ true
  pub result : GoodResult m.result
  pub params : GoodParams m.params
  pub body : GoodBody place n m.body

-- a member with a blank before it, among others
abbrev PrintedMember : Place → ℕ → Member → Type 0
PrintedMember place n m = Element place with_members (item.Part part.Members) (codes " ") member_text n m

abbrev AsMember : Member → ℕ → List Spelled → Type 0
AsMember m low us = (done : List Member) (k : ℕ) (items : List Item) (b : Both) (ts : List Spelled) (out : Both)
    → Ds (item.Part part.Members ∷ items) (with_members (done ++ m ∷ []) (max k low) b) ts out → Ds (item.Part part.Members ∷ items) (with_members done k b) (us ++ ts) out

member_by : (place : Place) (n : ℕ) (m : Member) (tokens : List Spelled) (low : ℕ) → low ≤ n → Spells place (member_text m) tokens → AsMember m low tokens → PrintedMember place n m
member_by place n m tokens low l s d = record {
  tokens = tokens;
  low = low;
  no_higher = l;
  piece = join (blank place) (of_spells s) (begun s);
  begins = λ rest. refl;
  does = d;
}

method_printed : (place : Place) (n : ℕ) (m : Method) → GoodMethod place n m → PrintedMember place n (member.Method m)
unfolding built built_right_side built_statement built_event built_kind built_class built_member raised
method_printed place n m g =
    let s = printed_result place m.result g.result in
    let ps = printed_params place m.params g.params in
    let x = printed_body place n m.body g.body in
    let w = free_word m.name g.name in
    let front = sort_text m.result ++ codes " " ++ m.name ++ params_text m.params ++ codes " " in
    member_by place n (member.Method m) (((s.tokens ++ spell place kind.Word m.name ∷ []) ++ marked mark.OpenParen ∷ ps.inner) ++ x.tokens) x.low x.no_higher
    (to_spells
    (opens_append front (body_text m.body)
    (opens_append (sort_text m.result ++ codes " " ++ m.name ++ params_text m.params) (codes " ")
    (opens_append (sort_text m.result ++ codes " " ++ m.name) (params_text m.params)
    (opens_append (sort_text m.result ++ codes " ") m.name (opens_append (sort_text m.result) (codes " ") s.spells.begins)))))
    (join
    (then_blank (join (join (then_blank (of_spells s.spells) (λ rest. refl)) (word place m.name w) (word_begun m.name w)) ps.piece (λ rest e. refl)) (λ rest. refl))
    (of_spells x.spells) (begun x.spells)))
    (λ done k items b ts out d.
    let c = with_name m.name (with_sort m.result (with_members done k b)) in
    let bodied = x.does (item.Build action.Method ∷ item.Part part.Members ∷ items) (with_params m.params c) ts out (Make action.Method d) in
    let paramed = ps.does (body ++ item.Build action.Method ∷ item.Part part.Members ∷ items) c (x.tokens ++ ts) out bodied in
    let all = s.does m.name g.name items (with_members done k b) (ps.inner ++ (x.tokens ++ ts)) out (Make action.Params paramed) in
    with_tokens (sym (regrouped s.tokens ps.inner x.tokens ts (spell place kind.Word m.name))) all)
  where
    regrouped : (us vs ws ts : List Spelled) (t : Spelled)
        → (((us ++ t ∷ []) ++ marked mark.OpenParen ∷ vs) ++ ws) ++ ts ≡ us ++ (t ∷ marked mark.OpenParen ∷ (vs ++ (ws ++ ts)))
    regrouped us vs ws ts t = simp append_assoc

field_printed : (place : Place) (n : ℕ) (name : List ℕ) (s : Sort) → is_free name ≡ true → GoodSort s → PrintedMember place n (member.Field name s)
unfolding row_of kept_as built built_right_side built_statement built_event built_kind built_class built_member raised
field_printed place n name s f g =
    let p = printed_sort place s g in
    let w = free_word name f in
    member_by place n (member.Field name s) ((p.tokens ++ spell place kind.Word name ∷ []) ++ marked mark.Semi ∷ []) 0 (omega arith)
    (to_spells (opens_append (sort_text s ++ codes " " ++ name) (codes ";") (opens_append (sort_text s ++ codes " ") name (opens_append (sort_text s) (codes " ") p.spells.begins)))
    (join (join (then_blank (of_spells p.spells) (λ rest. refl)) (word place name w) (word_begun name w)) (closing_mark place mark.Semi) (λ rest e. refl)))
    (λ done k items b ts out d.
    let same : max k 0 ≡ k = omega arith in
    let c = with_name name (with_sort s (with_members done k b)) in
    let semi = mark_rule part.FieldOrMethod mark.Semi (item.Build action.FieldMember ∷ []) refl refl (Make {m = c} action.FieldMember (from (ap (λ m. with_members (done ++ member.Field name s ∷ []) m b) (sym same)) d)) in
    regroup (p.tokens ++ spell place kind.Word name ∷ []) (marked mark.Semi ∷ []) ts
    (regroup p.tokens (spell place kind.Word name ∷ []) (marked mark.Semi ∷ ts)
    (p.member items (with_members done k b) (spell place kind.Word name ∷ marked mark.Semi ∷ ts) out (name_next place name f semi))))

-- ---- constraints

pub record GoodConstraint (place : Place) (n : ℕ) (c : Constraint) : Type 0 where
  pub name : is_free c.name ≡ true
  pub test : GoodExpr place n c.test

hard_printed : (place : Place) (n : ℕ) (name : List ℕ) (e : Expr) → is_free name ≡ true → GoodExpr place n e
    → PrintedMember place n (member.Constraint (record { name = name; soft = false; test = e }))
unfolding row_of kept_as word_terminal built built_right_side built_statement built_event built_kind built_class built_member raised
hard_printed place n name e f g =
    let w = free_word name f in
    member_by place n (member.Constraint (record { name = name; soft = false; test = e }))
    (spell place kind.Word (codes "constraint") ∷ spell place kind.Word name ∷ marked mark.Colon ∷ (g.tokens ++ marked mark.Semi ∷ [])) g.low.own g.no_higher
    (to_spells refl
    (join
    (join (join (join (worded place (codes "constraint") refl) (word place name w) (word_begun name w)) (mark_blank place mark.Colon) (λ rest x. refl)) (of_spells (expr_spells g))
    (begun (expr_spells g)))
    (closing_mark place mark.Semi) (λ rest x. refl)))
    (λ done k items b ts out d.
    let c = with_name name (with_members done k b) in
    let semi = next_mark mark.Semi refl (Make {m = with_expr e g.low c} action.Constraint d) in
    Rule part.Members (test (item.Build action.Constraint)) refl
    (name_next place name f
    (Next terminal.Colon refl
    (regroup g.tokens (marked mark.Semi ∷ []) ts
    (g.prints.whole (item.Token terminal.Semi ∷ item.Build action.Constraint ∷ item.Part part.Members ∷ items) c (marked mark.Semi ∷ ts) out semi)))))

soft_printed : (place : Place) (n : ℕ) (name : List ℕ) (e : Expr) → is_free name ≡ true → GoodExpr place n e
    → PrintedMember place n (member.Constraint (record { name = name; soft = true; test = e }))
unfolding row_of kept_as word_terminal built built_right_side built_statement built_event built_kind built_class built_member raised
soft_printed place n name e f g =
    let w = free_word name f in
    member_by place n (member.Constraint (record { name = name; soft = true; test = e }))
    (spell place kind.Word (codes "soft") ∷ spell place kind.Word (codes "constraint") ∷ spell place kind.Word name ∷ marked mark.Colon ∷ (g.tokens ++ marked mark.Semi ∷ [])) g.low.own
    g.no_higher
    (to_spells refl
    (join
    (join
    (join (join (join (worded place (codes "soft") refl) (worded place (codes "constraint") refl) (λ rest x. refl)) (word place name w) (word_begun name w)) (mark_blank place mark.Colon)
    (λ rest x. refl))
    (of_spells (expr_spells g)) (begun (expr_spells g)))
    (closing_mark place mark.Semi) (λ rest x. refl)))
    (λ done k items b ts out d.
    let c = with_name name (with_members done k b) in
    let semi = next_mark mark.Semi refl (Make {m = with_expr e g.low c} action.SoftConstraint d) in
    Rule part.Members (item.Token terminal.Constraint ∷ test (item.Build action.SoftConstraint)) refl
    (Next terminal.Constraint refl
    (name_next place name f
    (Next terminal.Colon refl
    (regroup g.tokens (marked mark.Semi ∷ []) ts
    (g.prints.whole (item.Token terminal.Semi ∷ item.Build action.SoftConstraint ∷ item.Part part.Members ∷ items) c (marked mark.Semi ∷ ts) out semi))))))

constraint_printed : (place : Place) (n : ℕ) (name : List ℕ) (soft : Bool) (e : Expr) → is_free name ≡ true → GoodExpr place n e
    → PrintedMember place n (member.Constraint (record { name = name; soft = soft; test = e }))
constraint_printed place n name false e f g = hard_printed place n name e f g
constraint_printed place n name true e f g = soft_printed place n name e f g

-- ---- kinds

abbrev put_kinds : List Kind → ℕ → Both → Both
put_kinds xs n b = with_kinds xs b

made_listed : (xs : List Kind) (k : Kind) (items : List Item) (b : Both) (ts : List Spelled) (out : Both) → Ds items (with_kinds (xs ++ k ∷ []) b) ts out
    → Ds (item.Build action.Listed ∷ items) (with_kind k (with_kinds xs b)) ts out
unfolding built built_right_side built_statement built_event built_kind built_class raised
made_listed xs k items b ts out d = Make action.Listed d

a_kind : (place : Place) (k : Kind) → GoodKind place k → Element place put_kinds (item.Part part.MoreKinds) (codes ", ") kind_text 0 k
unfolding row_of kept_as
a_kind place k g = record {
  tokens = marked mark.Comma ∷ g.tokens;
  low = 0;
  no_higher = omega arith;
  piece = join (mark_blank place mark.Comma) (of_spells g.spells) (begun g.spells);
  begins = λ rest. refl;
  does = λ done n items b ts out d.
      Rule part.MoreKinds (item.Part part.Kind ∷ item.Build action.Listed ∷ item.Part part.MoreKinds ∷ []) refl
      (g.prints.alone (item.Build action.Listed ∷ item.Part part.MoreKinds ∷ items) (with_kinds done b) ts out (made_listed done k (item.Part part.MoreKinds ∷ items) b ts out d));
}

events_by : (place : Place) (n : ℕ) (k : Kind) (ks : List Kind) → GoodKind place k → Elements place put_kinds (item.Part part.MoreKinds) (codes ", ") kind_text 0 ks
    → PrintedMember place n (member.Events (k ∷ ks))
unfolding row_of kept_as word_terminal built built_right_side built_statement built_event built_kind built_class built_member raised
events_by place n k ks g r =
    member_by place n (member.Events (k ∷ ks)) (spell place kind.Word (codes "event") ∷ ((g.tokens ++ r.tokens) ++ marked mark.Semi ∷ [])) 0 (omega arith)
    (to_spells refl
    (join (join (worded place (codes "event") refl) (join (of_spells g.spells) r.piece r.begins) (blanks_behind (kind_text k) _ g.spells.begins)) (closing_mark place mark.Semi) (λ rest x. refl)))
    (λ done m items b ts out d.
    let same : max m 0 ≡ m = omega arith in
    let c = with_members done m b in
    let close = marked mark.Semi ∷ ts in
    let behind = item.Build action.Events ∷ item.Part part.Members ∷ items in
    let ended = mark_rule part.MoreKinds mark.Semi [] refl refl (Make {m = with_kinds (k ∷ ks) c} action.Events (from (ap (λ x. with_members (done ++ member.Events (k ∷ ks) ∷ []) x b) (sym same)) d)) in
    let others = r.does (k ∷ []) 0 behind c close out ended in
    let first = g.prints.alone (item.Build action.Listed ∷ item.Part part.MoreKinds ∷ behind) (with_kinds [] c) (r.tokens ++ close) out (made_listed [] k (item.Part part.MoreKinds ∷ behind) c (r.tokens ++ close) out others) in
    Rule part.Members
    (item.Build action.Kinds ∷ item.Part part.Kind ∷ item.Build action.Listed ∷ item.Part part.MoreKinds ∷ item.Build action.Events ∷ item.Part part.Members ∷ []) refl
    (Make action.Kinds (regroup (g.tokens ++ r.tokens) (marked mark.Semi ∷ []) ts (regroup g.tokens r.tokens close first))))

-- at least one
abbrev pub GoodKinds : Place → List Kind → Type 0
GoodKinds place [] = ⊥
GoodKinds place (k ∷ ks) = GoodKind place k × Each (GoodKind place) ks

events_printed : (place : Place) (n : ℕ) (ks : List Kind) → GoodKinds place ks → PrintedMember place n (member.Events ks)
events_printed place n [] g = absurd g
events_printed place n (k ∷ ks) g =
    events_by place n k ks g.0 (elements place put_kinds (item.Part part.MoreKinds) (codes ", ") kind_text 0 ks
    (weaker (GoodKind place) (Element place put_kinds (item.Part part.MoreKinds) (codes ", ") kind_text 0) (λ x h. a_kind place x h) ks g.1))

-- ---- triggers

pub record GoodTrigger (place : Place) (n : ℕ) (t : TriggerDecl) : Type 0 where
  pub name : is_free t.name ≡ true
  pub params : GoodParams t.params
  pub height : Height
  pub event : GoodEvent place t.event height
  pub low : height.own ≤ n
  pub action : GoodBody place n t.action

initial_tokens : Place → Bool → List Spelled
initial_tokens place true = spell place kind.Word (codes "initial") ∷ []
initial_tokens place false = []

initial_piece : (place : Place) (f : Bool) → Piece place no_blank (cond f (codes "initial ") []) (initial_tokens place f)
unfolding initial_tokens
initial_piece place true = worded place (codes "initial") refl
initial_piece place false = record { cuts = λ rest us e c. c }

initial_does : (place : Place) (f : Bool) (items : List Item) (b : Both) (ts : List Spelled) (out : Both) → Ds items (with_flag f b) ts out
    → Ds (item.Part part.Initial ∷ items) b (initial_tokens place f ++ ts) out
unfolding initial_tokens row_of skipped kept_as word_terminal built built_right_side built_statement built_event built_kind built_class raised
initial_does place true items b ts out d = Rule part.Initial (item.Build action.Initial ∷ []) refl (Make action.Initial d)
initial_does place false items b ts out d = Skip part.Initial action.NotInitial refl d

lasting_token : Place → Bool → Spelled
lasting_token place true = spell place kind.Word (codes "perpetual")
lasting_token place false = spell place kind.Word (codes "once")

lasting_piece : (place : Place) (f : Bool) → Piece place no_blank (cond f (codes "perpetual ") (codes "once ")) (lasting_token place f ∷ [])
unfolding lasting_token
lasting_piece place true = worded place (codes "perpetual") refl
lasting_piece place false = worded place (codes "once") refl

lasting_does : (place : Place) (f : Bool) (items : List Item) (b : Both) (ts : List Spelled) (out : Both) → Ds items (with_flag f b) ts out
    → Ds (item.Part part.Lasting ∷ items) b (lasting_token place f ∷ ts) out
unfolding lasting_token row_of kept_as word_terminal built built_right_side built_statement built_event built_kind built_class built_member built_script raised
lasting_does place true items b ts out d = Rule part.Lasting (item.Build action.Lasting ∷ []) refl (Make action.Lasting d)
lasting_does place false items b ts out d = Rule part.Lasting (item.Build action.Lasting ∷ []) refl (Make action.Lasting d)

scope_token : Place → Bool → Spelled
scope_token place true = spell place kind.Word (codes "whole")
scope_token place false = spell place kind.Word (codes "committed")

scope_piece : (place : Place) (f : Bool) → Piece place no_blank (cond f (codes "whole ") (codes "committed ")) (scope_token place f ∷ [])
unfolding scope_token
scope_piece place true = worded place (codes "whole") refl
scope_piece place false = worded place (codes "committed") refl

scope_does : (place : Place) (f : Bool) (items : List Item) (b : Both) (ts : List Spelled) (out : Both) → Ds items (with_flag f b) ts out
    → Ds (item.Part part.Scope ∷ items) b (scope_token place f ∷ ts) out
unfolding scope_token row_of kept_as word_terminal built built_right_side built_statement built_event built_kind built_class built_member built_script raised
scope_does place true items b ts out d = Rule part.Scope (item.Build action.Scope ∷ []) refl (Make action.Scope d)
scope_does place false items b ts out d = Rule part.Scope (item.Build action.Scope ∷ []) refl (Make action.Scope d)

mode_token : Place → Mode → Spelled
mode_token place mode.Immediate = spell place kind.Word (codes "immediate")
mode_token place mode.Deferred = spell place kind.Word (codes "deferred")
mode_token place mode.Dependent = spell place kind.Word (codes "dependent")
mode_token place mode.Independent = spell place kind.Word (codes "independent")

mode_piece : (place : Place) (m : Mode) → Piece place no_blank (mode_text m) (mode_token place m ∷ [])
unfolding mode_token
mode_piece place mode.Immediate = worded place (codes "immediate") refl
mode_piece place mode.Deferred = worded place (codes "deferred") refl
mode_piece place mode.Dependent = worded place (codes "dependent") refl
mode_piece place mode.Independent = worded place (codes "independent") refl

mode_does : (place : Place) (m : Mode) (items : List Item) (b : Both) (ts : List Spelled) (out : Both) → Ds items (with_mode m b) ts out
    → Ds (item.Part part.Mode ∷ items) b (mode_token place m ∷ ts) out
unfolding mode_token row_of kept_as word_terminal built built_right_side built_statement built_event built_kind built_class built_member built_script raised
mode_does place mode.Immediate items b ts out d = Rule part.Mode (item.Build action.Mode ∷ []) refl (Make action.Mode d)
mode_does place mode.Deferred items b ts out d = Rule part.Mode (item.Build action.Mode ∷ []) refl (Make action.Mode d)
mode_does place mode.Dependent items b ts out d = Rule part.Mode (item.Build action.Mode ∷ []) refl (Make action.Mode d)
mode_does place mode.Independent items b ts out d = Rule part.Mode (item.Build action.Mode ∷ []) refl (Make action.Mode d)

initial_begins : (f : Bool) (rest : List ℕ) → no_blank rest ≡ true → no_blank (cond f (codes "initial ") [] ++ rest) ≡ true
initial_begins true rest e = refl
initial_begins false rest e = e

lasting_begins : (f : Bool) (rest : List ℕ) → no_blank (cond f (codes "perpetual ") (codes "once ") ++ rest) ≡ true
lasting_begins true rest = refl
lasting_begins false rest = refl

scope_begins : (f : Bool) (rest : List ℕ) → no_blank (cond f (codes "whole ") (codes "committed ") ++ rest) ≡ true
scope_begins true rest = refl
scope_begins false rest = refl

mode_begins : (m : Mode) (rest : List ℕ) → no_blank (mode_text m ++ rest) ≡ true
mode_begins mode.Immediate rest = refl
mode_begins mode.Deferred rest = refl
mode_begins mode.Dependent rest = refl
mode_begins mode.Independent rest = refl

abbrev words_tokens : Place → TriggerDecl → List Spelled
words_tokens place t =
    (((spell place kind.Word (codes "trigger") ∷ initial_tokens place t.initial) ++ lasting_token place t.perpetual ∷ []) ++ scope_token place t.whole ∷ []) ++ mode_token place t.mode ∷ []

words_piece : (place : Place) (t : TriggerDecl) → Piece place no_blank (trigger_words t) (words_tokens place t)
words_piece place t =
    join
    (join
    (join (join (worded place (codes "trigger") refl) (initial_piece place t.initial) (initial_begins t.initial)) (lasting_piece place t.perpetual) (λ rest e. lasting_begins t.perpetual rest))
    (scope_piece place t.whole) (λ rest e. scope_begins t.whole rest))
    (mode_piece place t.mode) (λ rest e. mode_begins t.mode rest)

event_spells : {place : Place} {e : EventExpr} {h : Height} → (g : GoodEvent place e h) → Spells place (event_text e) g.tokens
event_spells {place = place} g = subst (λ (p : Printed). Spells place p.text g.tokens) (sym g.shown) g.spells

made_trigger : (t : TriggerDecl) (done : List Member) (k e n : ℕ) (bare : Bool) (items : List Item) (b : Both) (ts : List Spelled) (out : Both)
    → Ds items (with_members (done ++ member.Trigger t ∷ []) (max k (max e n)) b) ts out
    → Ds (item.Build action.Trigger ∷ items)
    (with_body t.action n
    (with_event t.event (record { own = e; bare = bare })
    (with_params t.params (with_name t.name (with_mode t.mode (with_flag t.whole (with_flag t.perpetual (with_flag t.initial (with_members done k b)))))))))
    ts out
unfolding built built_right_side built_statement built_event built_kind built_class built_member raised
made_trigger t done k e n bare items b ts out d =
    let same : max e (max k n) ≡ max k (max e n) = omega arith in
    Make action.Trigger (from (ap (λ m. with_members (done ++ member.Trigger t ∷ []) m b) same) d)

trigger_printed : (place : Place) (n : ℕ) (t : TriggerDecl) → GoodTrigger place n t → PrintedMember place n (member.Trigger t)
unfolding row_of kept_as word_terminal built built_right_side built_statement built_event built_kind built_class raised
trigger_printed place n t g =
    let ps = printed_params place t.params g.params in
    let e = g.event in
    let x = printed_body place n t.action g.action in
    let w = free_word t.name g.name in
    let name = spell place kind.Word t.name in
    let l = e.no_higher in
    let m = g.low in
    let o = x.no_higher in
    let words = words_tokens place t in
    member_by place n (member.Trigger t)
    ((((((words ++ name ∷ []) ++ marked mark.OpenParen ∷ ps.inner) ++ marked mark.Colon ∷ []) ++ e.tokens) ++ marked mark.Arrow ∷ []) ++ x.tokens) (max e.low.own x.low) (omega arith)
    (to_spells refl
    (join
    (join
    (join
    (join (join (join (words_piece place t) (word place t.name w) (word_begun t.name w)) ps.piece (λ rest z. refl)) (mark_blank place mark.Colon) (λ rest z. refl))
    (of_spells (event_spells e)) (begun (event_spells e)))
    (between_blanks place mark.Arrow) (λ rest z. refl))
    (of_spells x.spells) (begun x.spells)))
    (λ done k items b ts out d.
    let b3 = with_flag t.whole (with_flag t.perpetual (with_flag t.initial (with_members done k b))) in
    let c = with_name t.name (with_mode t.mode b3) in
    let made = made_trigger t done k e.low.own x.low e.low.bare (item.Part part.Members ∷ items) b ts out d in
    let bodied = x.does (item.Build action.Trigger ∷ item.Part part.Members ∷ items) (with_event t.event e.low (with_params t.params c)) ts out made in
    let behind = body ++ item.Build action.Trigger ∷ item.Part part.Members ∷ items in
    let evented = e.prints.whole (item.Token terminal.Arrow ∷ behind) (with_params t.params c) (marked mark.Arrow ∷ (x.tokens ++ ts)) out (Next terminal.Arrow refl bodied) in
    let colon = next_mark mark.Colon refl evented in
    let more = item.Token terminal.Colon ∷ whole_event ++ item.Token terminal.Arrow ∷ behind in
    let t1 = marked mark.Colon ∷ (e.tokens ++ (marked mark.Arrow ∷ (x.tokens ++ ts))) in
    let paramed = next_mark mark.OpenParen refl (Make {m = c} action.Params (ps.does more c t1 out colon)) in
    let items1 = item.Token terminal.Name ∷ item.Token terminal.OpenParen ∷ item.Build action.Params ∷ item.Part part.Params ∷ more in
    let t2 = marked mark.OpenParen ∷ (ps.inner ++ t1) in
    let moded = mode_does place t.mode items1 b3 (name ∷ t2) out (name_next place t.name g.name paramed) in
    let scoped = scope_does place t.whole (item.Part part.Mode ∷ items1) (with_flag t.perpetual (with_flag t.initial (with_members done k b))) (mode_token place t.mode ∷ name ∷ t2) out moded in
    let lasting = lasting_does place t.perpetual (item.Part part.Scope ∷ item.Part part.Mode ∷ items1) (with_flag t.initial (with_members done k b))
    (scope_token place t.whole ∷ mode_token place t.mode ∷ name ∷ t2) out scoped in
    let initial = initial_does place t.initial (item.Part part.Lasting ∷ item.Part part.Scope ∷ item.Part part.Mode ∷ items1) (with_members done k b)
    (lasting_token place t.perpetual ∷ scope_token place t.whole ∷ mode_token place t.mode ∷ name ∷ t2) out lasting in
    Rule part.Members (trigger ++ item.Part part.Members ∷ []) refl
    (with_tokens (sym (regrouped (initial_tokens place t.initial) ps.inner e.tokens x.tokens ts (lasting_token place t.perpetual) (scope_token place t.whole) (mode_token place t.mode) name)) initial))
  where
    regrouped : (us ps es xs ts : List Spelled) (l s m n : Spelled)
        → (((((((((us ++ l ∷ []) ++ s ∷ []) ++ m ∷ []) ++ n ∷ []) ++ marked mark.OpenParen ∷ ps) ++ marked mark.Colon ∷ []) ++ es) ++ marked mark.Arrow ∷ []) ++ xs) ++ ts
        ≡ us ++ (l ∷ s ∷ m ∷ n ∷ marked mark.OpenParen ∷ (ps ++ (marked mark.Colon ∷ (es ++ (marked mark.Arrow ∷ (xs ++ ts))))))
    regrouped us ps es xs ts l s m n =
        let z1 = xs ++ ts in
        let z2 = es ++ marked mark.Arrow ∷ z1 in
        let z3 = ps ++ marked mark.Colon ∷ z2 in
        let z4 = marked mark.OpenParen ∷ z3 in
        let a1 = us ++ l ∷ [] in
        let a2 = a1 ++ s ∷ [] in
        let a3 = a2 ++ m ∷ [] in
        let a4 = a3 ++ n ∷ [] in
        let a5 = a4 ++ marked mark.OpenParen ∷ ps in
        let a6 = a5 ++ marked mark.Colon ∷ [] in
        let a7 = a6 ++ es in
        append_assoc (a7 ++ marked mark.Arrow ∷ []) xs ts
        ∙ (append_assoc a7 (marked mark.Arrow ∷ []) z1
        ∙ (append_assoc a6 es (marked mark.Arrow ∷ z1)
        ∙ (append_assoc a5 (marked mark.Colon ∷ []) z2
        ∙ (append_assoc a4 (marked mark.OpenParen ∷ ps) (marked mark.Colon ∷ z2)
        ∙ (append_assoc a3 (n ∷ []) z4 ∙ (append_assoc a2 (m ∷ []) (n ∷ z4) ∙ (append_assoc a1 (s ∷ []) (m ∷ n ∷ z4) ∙ append_assoc us (l ∷ []) (s ∷ m ∷ n ∷ z4))))))))

-- ---- all members

abbrev pub GoodMember : Place → ℕ → Member → Type 0
GoodMember place n (member.Field name s) = (is_free name ≡ true) × GoodSort s
GoodMember place n (member.Method m) = GoodMethod place n m
GoodMember place n (member.Constraint c) = GoodConstraint place n c
GoodMember place n (member.Events ks) = GoodKinds place ks
GoodMember place n (member.Trigger t) = GoodTrigger place n t

pub member_up : (place : Place) (n k : ℕ) (m : Member) → n ≤ k → GoodMember place n m → GoodMember place k m
member_up place n k (member.Field name s) l g = g
member_up place n k (member.Method m) l g = record { name = g.name; result = g.result; params = g.params; body = body_up place n k m.body l g.body }
member_up place n k (member.Constraint c) l g = record { name = g.name; test = expr_up place c.test (up n) k l g.test }
member_up place n k (member.Events ks) l g = g
member_up place n k (member.Trigger t) l g = let m = g.low in record {
  name = g.name;
  params = g.params;
  height = g.height;
  event = g.event;
  low = omega arith;
  action = body_up place n k t.action l g.action;
}

pub printed_member : (place : Place) (n : ℕ) (m : Member) → GoodMember place n m → PrintedMember place n m
printed_member place n (member.Field name s) g = field_printed place n name s g.0 g.1
printed_member place n (member.Method m) g = method_printed place n m g
printed_member place n (member.Constraint c) g = constraint_printed place n c.name c.soft c.test g.name g.test
printed_member place n (member.Events ks) g = events_printed place n ks g
printed_member place n (member.Trigger t) g = trigger_printed place n t g
