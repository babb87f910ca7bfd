-- Right sides whose parts are good: their printed texts, cut into tokens that derive them, no higher than they were read.
use Rattle.std.proofs.Common.{◌≡◌, ◌≤◌, ℕ, ◌+◌, max, Bool, true, false, codes, List, [], ◌∷◌, ◌++◌, append_assoc, map, Some, refl, sym, ap, arith}
use Rattle.ode_lex.specs.declared.token.Mark.TheVariants as mark
use Rattle.ode_lex.specs.declared.token.TokenKind.TheVariants as kind
use Rattle.ode_grammar.specs.declared.item.Action.TheVariants as action
use Rattle.ode_grammar.specs.declared.item.Item.{Item}
use Rattle.ode_grammar.specs.declared.item.Item.TheVariants as item
use Rattle.ode_grammar.specs.declared.item.Part.{Part}
use Rattle.ode_grammar.specs.declared.item.Part.TheVariants as part
use Rattle.ode_grammar.specs.declared.terminal.Terminal.{Terminal}
use Rattle.ode_grammar.specs.declared.terminal.Terminal.TheVariants as terminal
use Rattle.ode_grammar.specs.Expressions.{arguments}
use Rattle.ode_grammar.specs.Grammar.{after, row_of}
use Rattle.ode_grammar.specs.Terminals.{named}
use Rattle.ode_grammar.specs.Statements.{field_set}
use Rattle.ode_grammar.specs.Texts.{Next, Make, Rule}
use Rattle.ode_grammar.proofs.Follows.{named_after, IfRow}
use Rattle.ode_heights.specs.Heights.{raised}
use Rattle.ode_terminals.specs.declared.seen.Place.{Place}
use Rattle.ode_value.specs.Printing.{expr_text, in_brackets, operand_text, with_commas}
use Rattle.ode_value.specs.PrintedClasses.{args_text, of_text, set_text}
use Rattle.ode_value.specs.Words.{is_free}
use Rattle.ode_value.specs.declared.statement.Expr.{Expr}
use Rattle.ode_syntax.specs.Built.{built, built_right_side}
use Rattle.ode_syntax.specs.Kept.{kept_as, Spelled}
use Rattle.ode_relex.specs.Ends.{opens}
use Rattle.ode_reread.proofs.Both.{Both}
use Rattle.ode_reread.proofs.Cuts.{spell}
use Rattle.ode_reread.proofs.Goods.{free_word}
use Rattle.ode_reread.proofs.Marked.{as_operand, marked, operand_height, with_expr, with_name}
use Rattle.ode_reread.proofs.Prints.{regroup, Ds}
use Rattle.ode_reread.proofs.Spells.{ends, opens_append, word_opens}
use Rattle.ode_reread_classes.proofs.Chains.{called, name_next, name_rule, operand_of, IsPlace}
use Rattle.ode_reread_classes.proofs.Derivations.{from, mark_rule, known_row, view, with_items, Left, Ruled, View}
use Rattle.ode_reread_classes.proofs.Lists.{elements, weaker, Element, Elements}
use Rattle.ode_reread_classes.proofs.Parts.{GoodArgs, GoodExpr, GoodOf, GoodSet, GoodSets}
use Rattle.ode_reread_classes.proofs.Pieces.{begun, between_blanks, closing_mark, expr_spells, join, mark_blank, marks_behind, of_spells, one_mark, operand_text_spells, retoken, to_spells, word, word_begun_mark, Piece}
use Rattle.ode_reread_classes.proofs.Puts.{with_args, with_sets}
use Rattle.ode_reread_classes.proofs.Rights.{no_expr_skip}

-- ---- a part that begins as another does

abbrev pub Begins : Part → List Item → Type 0
Begins p more = (k : Terminal) → IfRow (λ row. row_of p k ≡ Some (row ++ more)) (row_of part.Expr k)

begins_by : (p : Part) (more items : List Item) → Begins p more → {b out : Both} {ts : List Spelled} → View part.Expr (more ++ items) b out ts → Ds (item.Part p ∷ items) b ts out
begins_by p more items f (Left a e x) = absurd (no_expr_skip a e)
begins_by p more items f (Ruled t row e x) = Rule p (row ++ more) (named_after p t.terminal _ (known_row _ (f (named t.terminal)) e)) (with_items (sym (append_assoc row more items)) x)

pub begins : (p : Part) (more : List Item) → Begins p more → (items : List Item) {b out : Both} {ts : List Spelled} → Ds (item.Part part.Expr ∷ more ++ items) b ts out
    → Ds (item.Part p ∷ items) b ts out
begins p more f items x = begins_by p more items f (view x)

-- ---- arguments

abbrev pub args_items : List Item
args_items = item.Build action.Argument ∷ item.Part part.MoreArgs ∷ []

pub args_begin : Begins part.Args args_items
unfolding row_of
args_begin terminal.Leaf = refl
args_begin terminal.Number = refl
args_begin terminal.Seconds = refl
args_begin terminal.Count = refl
args_begin terminal.Text = refl
args_begin terminal.Instant = refl
args_begin terminal.Name = refl
args_begin terminal.OpenParen = refl
args_begin terminal.Version = refl
args_begin terminal.Minus = refl
args_begin terminal.Not = refl
args_begin other = tt

made_argument : (xs : List Expr) (k n : ℕ) (e : Expr) (bare : Bool) (items : List Item) (b : Both) (ts : List Spelled) (out : Both)
    → Ds items (with_args (xs ++ e ∷ []) (max k n) b) ts out → Ds (item.Build action.Argument ∷ items) (with_expr e (record { own = n; bare = bare }) (with_args xs k b)) ts out
unfolding built built_right_side raised
made_argument xs k n e bare items b ts out d = Make action.Argument d

argument : (place : Place) (n : ℕ) (e : Expr) → GoodExpr place n e → Element place with_args (item.Part part.MoreArgs) (codes ", ") expr_text n e
unfolding row_of kept_as
argument place n e g = record {
  tokens = marked mark.Comma ∷ g.tokens;
  low = g.low.own;
  no_higher = g.no_higher;
  piece = join (mark_blank place mark.Comma) (of_spells (expr_spells g)) (begun (expr_spells g));
  begins = λ rest. refl;
  does = λ done k items b ts out d.
      Rule part.MoreArgs (item.Part part.Expr ∷ args_items) refl
      (g.prints.whole (args_items ++ items) (with_args done k b) ts out (made_argument done k g.low.own e g.low.bare (item.Part part.MoreArgs ∷ items) b ts out d));
}

-- the tokens behind the bracket are these arguments
pub record PrintedArgs (place : Place) (n : ℕ) (xs : List Expr) : Type 0 where
  pub inner : List Spelled
  pub low : ℕ
  pub no_higher : low ≤ n
  pub piece : Piece place ends (args_text xs) (marked mark.OpenParen ∷ inner)
  pub does : (items : List Item) (b : Both) (ts : List Spelled) (out : Both) → Ds items (with_args xs low b) ts out
      → Ds (item.Part part.Args ∷ items) (with_args [] 0 b) (inner ++ ts) out

no_args : (place : Place) (n : ℕ) → PrintedArgs place n []
unfolding row_of kept_as
no_args place n = record {
  inner = marked mark.CloseParen ∷ [];
  low = 0;
  no_higher = omega arith;
  piece = join (one_mark place mark.OpenParen) (closing_mark place mark.CloseParen) (λ rest e. refl);
  does = λ items b ts out d. Rule part.Args [] refl d;
}

some_args : (place : Place) (n : ℕ) (e : Expr) (xs : List Expr) → GoodExpr place n e → Elements place with_args (item.Part part.MoreArgs) (codes ", ") expr_text n xs
    → PrintedArgs place n (e ∷ xs)
unfolding row_of kept_as
some_args place n e xs g r = let p = g.no_higher in let q = r.no_higher in record {
  inner = (g.tokens ++ r.tokens) ++ marked mark.CloseParen ∷ [];
  low = max g.low.own r.low;
  no_higher = omega arith;
  piece = join (join (one_mark place mark.OpenParen) (join (of_spells (expr_spells g)) r.piece r.begins) (marks_behind (expr_text e) _ (expr_spells g).begins)) (closing_mark place mark.CloseParen) (λ rest f. refl);
  does = λ items b ts out d.
      let same : max (max 0 g.low.own) r.low ≡ max g.low.own r.low = omega arith in
      let close = marked mark.CloseParen ∷ ts in
      let ended = mark_rule part.MoreArgs mark.CloseParen [] refl refl (from (ap (λ m. with_args (e ∷ xs) m b) same) d) in
      let others = r.does (e ∷ []) (max 0 g.low.own) items b close out ended in
      let first = g.prints.whole (args_items ++ items) (with_args [] 0 b) (r.tokens ++ close) out (made_argument [] 0 g.low.own e g.low.bare (item.Part part.MoreArgs ∷ items) b (r.tokens ++ close) out others) in
      regroup (g.tokens ++ r.tokens) (marked mark.CloseParen ∷ []) ts (regroup g.tokens r.tokens close (begins part.Args args_items args_begin items first));
}

pub printed_args : (place : Place) (n : ℕ) (xs : List Expr) → GoodArgs place n xs → PrintedArgs place n xs
printed_args place n [] g = no_args place n
printed_args place n (e ∷ xs) g =
    some_args place n e xs g.0 (elements place with_args (item.Part part.MoreArgs) (codes ", ") expr_text n xs
    (weaker (GoodExpr place n) (Element place with_args (item.Part part.MoreArgs) (codes ", ") expr_text n) (λ x h. argument place n x h) xs g.1))

-- ---- fields that are set

abbrev sets_items : List Item
sets_items = item.Build action.AddSet ∷ item.Part part.MoreSets ∷ []

made_set : (xs : List (List ℕ × Expr)) (k n : ℕ) (name : List ℕ) (e : Expr) (bare : Bool) (items : List Item) (b : Both) (ts : List Spelled) (out : Both)
    → Ds items (with_sets (xs ++ (name, e) ∷ []) (max k n) b) ts out
    → Ds (item.Build action.AddSet ∷ items) (with_expr e (record { own = n; bare = bare }) (with_name name (with_sets xs k b))) ts out
unfolding built built_right_side raised
made_set xs k n name e bare items b ts out d = Make action.AddSet d

set_piece : (place : Place) (n : ℕ) (s : List ℕ × Expr) → (g : GoodSet place n s) → Piece place ends (set_text s) (spell place kind.Word s.0 ∷ marked mark.Assign ∷ g.1.tokens)
set_piece place n s g =
    join (join (word place s.0 (free_word s.0 g.0)) (between_blanks place mark.Assign) (λ rest e. refl)) (of_spells (expr_spells g.1)) (begun (expr_spells g.1))

set_opens : (place : Place) (n : ℕ) (s : List ℕ × Expr) → GoodSet place n s → opens (set_text s) ≡ true
set_opens place n s g =
    opens_append (s.0 ++ codes " = ") (expr_text s.1) (opens_append s.0 (codes " = ") (word_opens s.0 (free_word s.0 g.0)))

set_tail : (place : Place) (n : ℕ) (s : List ℕ × Expr) → (g : GoodSet place n s) → (done : List (List ℕ × Expr)) (k : ℕ) (items : List Item) (b : Both) (ts : List Spelled) (out : Both)
    → Ds (item.Part part.MoreSets ∷ items) (with_sets (done ++ s ∷ []) (max k g.1.low.own) b) ts out
    → Ds (field_set ++ items) (with_name s.0 (with_sets done k b)) (marked mark.Assign ∷ (g.1.tokens ++ ts)) out
unfolding kept_as
set_tail place n s g done k items b ts out d =
    Next terminal.Assign refl
    (g.1.prints.whole (sets_items ++ items) (with_name s.0 (with_sets done k b)) ts out (made_set done k g.1.low.own s.0 s.1 g.1.low.bare (item.Part part.MoreSets ∷ items) b ts out d))

field : (place : Place) (n : ℕ) (s : List ℕ × Expr) → GoodSet place n s → Element place with_sets (item.Part part.MoreSets) (codes ", ") set_text n s
unfolding row_of kept_as
field place n s g = record {
  tokens = marked mark.Comma ∷ spell place kind.Word s.0 ∷ marked mark.Assign ∷ g.1.tokens;
  low = g.1.low.own;
  no_higher = g.1.no_higher;
  piece = join (mark_blank place mark.Comma) (set_piece place n s g) (begun (to_spells (set_opens place n s g) (set_piece place n s g)));
  begins = λ rest. refl;
  does = λ done k items b ts out d.
      Rule part.MoreSets (item.Token terminal.Name ∷ field_set) refl (name_next place s.0 g.0 (set_tail place n s g done k items b ts out d));
}

pub record PrintedSets (place : Place) (n : ℕ) (xs : List (List ℕ × Expr)) : Type 0 where
  pub inner : List Spelled
  pub low : ℕ
  pub no_higher : low ≤ n
  pub piece : Piece place ends (in_brackets (with_commas (map set_text xs))) (marked mark.OpenParen ∷ inner)
  pub does : (items : List Item) (b : Both) (ts : List Spelled) (out : Both) → Ds items (with_sets xs low b) ts out
      → Ds (item.Part part.Sets ∷ items) (with_sets [] 0 b) (inner ++ ts) out

no_sets : (place : Place) (n : ℕ) → PrintedSets place n []
unfolding row_of kept_as
no_sets place n = record {
  inner = marked mark.CloseParen ∷ [];
  low = 0;
  no_higher = omega arith;
  piece = join (one_mark place mark.OpenParen) (closing_mark place mark.CloseParen) (λ rest e. refl);
  does = λ items b ts out d. Rule part.Sets [] refl d;
}

some_sets : (place : Place) (n : ℕ) (s : List ℕ × Expr) (xs : List (List ℕ × Expr)) → GoodSet place n s
    → Elements place with_sets (item.Part part.MoreSets) (codes ", ") set_text n xs → PrintedSets place n (s ∷ xs)
unfolding row_of kept_as
some_sets place n s xs g r = let p = g.1.no_higher in let q = r.no_higher in record {
  inner = ((spell place kind.Word s.0 ∷ marked mark.Assign ∷ g.1.tokens) ++ r.tokens) ++ marked mark.CloseParen ∷ [];
  low = max g.1.low.own r.low;
  no_higher = omega arith;
  piece = join (join (one_mark place mark.OpenParen) (join (set_piece place n s g) r.piece r.begins) (marks_behind (set_text s) _ (set_opens place n s g))) (closing_mark place mark.CloseParen) (λ rest f. refl);
  does = λ items b ts out d.
      let same : max (max 0 g.1.low.own) r.low ≡ max g.1.low.own r.low = omega arith in
      let close = marked mark.CloseParen ∷ ts in
      let ended = mark_rule part.MoreSets mark.CloseParen [] refl refl (from (ap (λ m. with_sets (s ∷ xs) m b) same) d) in
      let others = r.does (s ∷ []) (max 0 g.1.low.own) items b close out ended in
      let first = name_rule place s.0 g.0 part.Sets field_set refl (set_tail place n s g [] 0 items b (r.tokens ++ close) out others) in
      let tokens = spell place kind.Word s.0 ∷ marked mark.Assign ∷ g.1.tokens in
      regroup (tokens ++ r.tokens) (marked mark.CloseParen ∷ []) ts (regroup tokens r.tokens close first);
}

pub printed_sets : (place : Place) (n : ℕ) (xs : List (List ℕ × Expr)) → GoodSets place n xs → PrintedSets place n xs
printed_sets place n [] g = no_sets place n
printed_sets place n (s ∷ xs) g =
    some_sets place n s xs g.0 (elements place with_sets (item.Part part.MoreSets) (codes ", ") set_text n xs
    (weaker (GoodSet place n) (Element place with_sets (item.Part part.MoreSets) (codes ", ") set_text n) (λ x h. field place n x h) xs g.1))

-- ---- calls by a reference

-- what a chain, a name and arguments leave
abbrev pub with_call : Expr → ℕ → Bool → List ℕ → List Expr → ℕ → Both → Both
with_call e n bare name args k b = with_args args k (with_name name (with_expr e (record { own = n; bare = bare }) b))

-- the text `of.name(args)`, and what its tokens derive at a part that such a call may begin
pub record PrintedCall (place : Place) (n : ℕ) (e : Expr) (name : List ℕ) (args : List Expr) : Type 0 where
  pub tokens : List Spelled
  pub own : ℕ
  pub bare : Bool
  pub most : ℕ
  pub no_higher : max (own + 1) most ≤ n
  pub piece : Piece place ends (of_text (Some e) ++ name ++ args_text args) tokens
  pub begins : opens (of_text (Some e) ++ name ++ args_text args) ≡ true
  -- where arguments come behind the call's bracket
  pub does : (p q : Part) (items tail more : List Item) → IsPlace p items (item.Part q ∷ tail) → after q terminal.OpenParen ≡ Some (arguments ++ more)
      → (b : Both) (ts : List Spelled) (out : Both) → Ds (more ++ tail) (with_call e own bare name args most b) ts out
      → Ds (item.Part p ∷ items) b (tokens ++ ts) out

pub arguments_next : (place : Place) (n : ℕ) (xs : List Expr) → (a : PrintedArgs place n xs) → (q : Part) (more tail : List Item) → after q terminal.OpenParen ≡ Some (arguments ++ more)
    → (b : Both) (ts : List Spelled) (out : Both) → Ds (more ++ tail) (with_args xs a.low b) ts out → Ds (item.Part q ∷ tail) b (marked mark.OpenParen ∷ (a.inner ++ ts)) out
unfolding kept_as built built_right_side raised
arguments_next place n xs a q more tail e b ts out d = Rule q (arguments ++ more) e (Make action.Arguments (a.does (more ++ tail) b ts out d))

call_tokens : (us ats : List Spelled) (t : Spelled) → ((us ++ marked mark.Dot ∷ []) ++ t ∷ []) ++ ats ≡ us ++ (marked mark.Dot ∷ t ∷ ats)
call_tokens us ats t = simp append_assoc

pub printed_call : (place : Place) (n : ℕ) (e : Expr) (name : List ℕ) (args : List Expr) → GoodOf place n e → is_free name ≡ true → GoodArgs place n args
    → PrintedCall place n e name args
printed_call place n e name args g f h =
    let a = printed_args place n args h in
    let x = g.good in
    let us = as_operand x.is_operator x.tokens in
    let t = spell place kind.Word name in
    let k = operand_height x.is_operator x.low in
    let s = operand_text_spells x in
    let w = free_word name f in
    record {
      tokens = us ++ (marked mark.Dot ∷ t ∷ (marked mark.OpenParen ∷ a.inner));
      own = k.own;
      bare = k.bare;
      most = a.low;
      no_higher = below x.is_operator x.low.own x.low.bare g.h.own n a.low x.no_higher g.below a.no_higher;
      piece = retoken (call_tokens us (marked mark.OpenParen ∷ a.inner) t)
          (join (join (join (of_spells s) (one_mark place mark.Dot) (λ rest e. refl)) (word place name w) (word_begun_mark name w)) a.piece (λ rest e. refl));
      begins = opens_append (of_text (Some e) ++ name) (args_text args) (opens_append (of_text (Some e)) name (opens_append (operand_text e) (codes ".") s.begins));
      does = λ p q items tail more i r b ts out d.
          regroup us (marked mark.Dot ∷ t ∷ (marked mark.OpenParen ∷ a.inner)) ts
          (called i (operand_of x) place name f b (marked mark.OpenParen ∷ (a.inner ++ ts)) out
          (arguments_next place n args a q more tail r (with_name name (with_expr e k b)) ts out d));
    }
  where
    below : (c : Bool) (own : ℕ) (bare : Bool) (h n low : ℕ) → own ≤ h → h + 1 ≤ n → low ≤ n → max ((operand_height c (record { own = own; bare = bare })).own + 1) low ≤ n
    below true own bare h n low x y z = omega arith
    below false own bare h n low x y z = omega arith
