-- Where a chain begins a call: what the rows of an operand derive, other parts derive up to the dot of the call.
use Rattle.std.proofs.Common.{◌≡◌, ◌≤◌, ℕ, zero, suc, Bool, true, false, List, [], ◌∷◌, ◌++◌, append_assoc, length, Option, Some, None, refl, sym, ◌∙◌, ap, arith}
use Rattle.std.proofs.lemmas.Bool.{false≢true}
use Rattle.std.proofs.lemmas.List.{append-nil}
use Rattle.std.proofs.lemmas.Option.{none-some}
use Rattle.ode_lex.specs.declared.token.Mark.TheVariants as mark
use Rattle.ode_lex.specs.declared.token.TokenKind.TheVariants as kind
use Rattle.ode_grammar.specs.declared.item.Action.{Action}
use Rattle.ode_grammar.specs.declared.item.Action.TheVariants as action
use Rattle.ode_grammar.specs.declared.item.Item.{Item}
use Rattle.ode_grammar.specs.declared.item.Item.TheVariants as item
use Rattle.ode_grammar.specs.declared.item.Part.{Part}
use Rattle.ode_grammar.specs.declared.item.Part.TheVariants as part
use Rattle.ode_grammar.specs.declared.terminal.Terminal.{Terminal}
use Rattle.ode_grammar.specs.declared.terminal.Terminal.TheVariants as terminal
use Rattle.ode_grammar.specs.Grammar.{after, row_of, skipped}
use Rattle.ode_grammar.specs.Terminals.{named as as_name, stands_for}
use Rattle.ode_grammar.specs.Statements.{dotted_call}
use Rattle.ode_grammar.specs.Stacks.{top}
use Rattle.ode_grammar.specs.Texts.{Done, Next, Make, Rule}
use Rattle.ode_grammar.proofs.Follows.{named_after, IfRow}
use Rattle.ode_grammar.proofs.TerminalLaws.{stands_for-named}
use Rattle.ode_heights.specs.declared.height.Height.{Height}
use Rattle.ode_heights.specs.Heights.{none as no_heights}
use Rattle.ode_terminals.specs.declared.seen.Place.{Place}
use Rattle.ode_value.specs.Printing.{printed, printed_of, Printed}
use Rattle.ode_value.specs.Words.{is_free}
use Rattle.ode_value.specs.declared.operator.UnOp.{UnOp}
use Rattle.ode_value.specs.declared.statement.Expr.{Expr, fold-roll-Expr}
use Rattle.ode_value.specs.declared.statement.Expr.TheVariants as expr
use Rattle.ode_value.specs.declared.statement.Expr.TheOpen as shape
use Rattle.ode_syntax.specs.Built.{built, mark_on, tree, unary_of}
use Rattle.ode_syntax.specs.Kept.{kept_as, Spelled}
use Rattle.ode_syntax.specs.Trees.{no_trees}
use Rattle.ode_reread.proofs.Both.{Both, keep, make}
use Rattle.ode_reread.proofs.Cuts.{spell}
use Rattle.ode_reread.proofs.Goods.{named, Good}
use Rattle.ode_reread.proofs.Marked.{as_operand, marked, operand_height, with_expr, with_name}
use Rattle.ode_reread.proofs.Prints.{kept_named, no_dots, Ds}
use Rattle.ode_reread_classes.proofs.Derivations.{from, left_nothing, known_row, splits, together, view, with_items, with_tokens, Left, Ruled, View}

-- ---- names

pub name_next : (place : Place) (name : List ℕ) → is_free name ≡ true → {items : List Item} {b : Both} {ts : List Spelled} {out : Both}
    → Ds items (with_name name b) ts out → Ds (item.Token terminal.Name ∷ items) b (spell place kind.Word name ∷ ts) out
name_next place name f {b = b} d = let n = named place name f in Next terminal.Name (stands_for-named _ terminal.Name n.seen) (from (kept_named (spell place kind.Word name) name b n) d)

pub name_rule : (place : Place) (name : List ℕ) → is_free name ≡ true → (p : Part) (row : List Item) → row_of p terminal.Name ≡ Some row
    → {items : List Item} {b : Both} {ts : List Spelled} {out : Both} → Ds (row ++ items) (with_name name b) ts out
    → Ds (item.Part p ∷ items) b (spell place kind.Word name ∷ ts) out
name_rule place name f p row e {b = b} d =
    let n = named place name f in Rule p row (named_after p _ row (ap (row_of p) n.seen ∙ e)) (from (kept_named (spell place kind.Word name) name b n) d)

-- ---- an action that is put off

abbrev pub early : Option Action → List Item
early None = []
early (Some a) = item.Build a ∷ []

abbrev pub acted : Option Action → Both → Both
acted None b = b
acted (Some a) b = make a b

pub late : (o : Option Action) → {items : List Item} {c : Both} {ts : List Spelled} {out : Both} → Ds items (acted o c) ts out → Ds (early o ++ items) c ts out
late None d = d
late (Some a) d = Make a d

undo_one : (a : Action) → {items : List Item} {c : Both} {ts : List Spelled} {out : Both} → Ds (item.Build a ∷ items) c ts out → Ds items (make a c) ts out
undo_one a (Make x d) = d

pub undo : (o : Option Action) → {items : List Item} {c : Both} {ts : List Spelled} {out : Both} → Ds (early o ++ items) c ts out → Ds items (acted o c) ts out
undo None d = d
undo (Some a) d = undo_one a d

-- ---- dots

pub kept_dot : (s : Spelled) (c : Both) → s.terminal ≡ terminal.Dot → keep s c ≡ c
unfolding kept_as
kept_dot s c e = ap (λ k. record { trees = kept_as (as_name k) s.kind s.bytes c.trees; heights = c.heights }) e

abbrev dots_row : List Item
dots_row = item.Token terminal.Name ∷ item.Build action.Field ∷ item.Part part.Dots ∷ []

dots_is : (k : Terminal) → IfRow (λ row. (k ≡ terminal.Dot) × (row ≡ dots_row)) (after part.Dots k)
unfolding row_of
dots_is terminal.Dot = (refl, refl)
dots_is other = tt

pub data DotsView (items : List Item) (d : Both) (out : Both) : List Spelled → Type 0 where
  Ended : {ts : List Spelled} → Ds items d ts out → DotsView items d out ts
  Dotted : {ts : List Spelled} (s t : Spelled) → s.terminal ≡ terminal.Dot → stands_for t.terminal terminal.Name ≡ true
      → Ds (item.Part part.Dots ∷ items) (make action.Field (keep t d)) ts out → DotsView items d out (s ∷ t ∷ ts)

dotted_view : {items : List Item} {d : Both} {ts : List Spelled} {out : Both} → (s : Spelled) → s.terminal ≡ terminal.Dot
    → Ds (dots_row ++ items) d ts out → DotsView items d out (s ∷ ts)
dotted_view s e (Next {t = t} k f (Make a x)) = Dotted s t e f x

no_dots_skip : skipped part.Dots ≡ Some action.Nothing
unfolding skipped
no_dots_skip = refl

viewed : {items : List Item} {d : Both} {ts : List Spelled} {out : Both} → View part.Dots items d out ts → DotsView items d out ts
viewed (Left a e x) = Ended (left_nothing part.Dots no_dots_skip a e x)
viewed {items = items} {d = d} {out = out} (Ruled {ts = ts} s row e x) =
    let r = known_row _ (dots_is s.terminal) e in
    dotted_view s r.0 (from (sym (kept_dot s d r.0)) (with_items (ap (λ zs. zs ++ items) r.1) x))

pub dots_view : {items : List Item} {d : Both} {ts : List Spelled} {out : Both} → Ds (item.Part part.Dots ∷ items) d ts out → DotsView items d out ts
dots_view x = viewed (view x)

-- items at which the dot behind a chain may come: what comes behind the dot's name
pub record IsHead (head tail : List Item) (o : Option Action) : Type 0 where
  pub dot : (s : Spelled) → s.terminal ≡ terminal.Dot → (c : Both) (ts : List Spelled) (out : Both)
      → Ds (early o ++ item.Token terminal.Name ∷ tail) c ts out → Ds head c (s ∷ ts) out

part_head : (p : Part) (tail items : List Item) (o : Option Action) (row : List Item) → after p terminal.Dot ≡ Some row → row ++ items ≡ early o ++ item.Token terminal.Name ∷ tail
    → IsHead (item.Part p ∷ items) tail o
part_head p tail items o row e q = record {
  dot = λ s f c ts out d. Rule p row (ap (after p) f ∙ e) (from (kept_dot s c f) (with_items (sym q) d));
}

pub rhs_dots_head : (items : List Item) → IsHead (item.Part part.RhsDots ∷ items) (item.Part part.RhsDot ∷ items) None
unfolding row_of
rhs_dots_head items = part_head part.RhsDots (item.Part part.RhsDot ∷ items) items None (item.Token terminal.Name ∷ item.Part part.RhsDot ∷ []) refl refl

pub rhs_dot_head : (items : List Item) → IsHead (item.Part part.RhsDot ∷ items) (item.Part part.RhsDot ∷ items) (Some action.Field)
unfolding row_of
rhs_dot_head items =
    part_head part.RhsDot (item.Part part.RhsDot ∷ items) items (Some action.Field) (item.Build action.Field ∷ item.Token terminal.Name ∷ item.Part part.RhsDot ∷ []) refl refl

pub rhs_name_head : (items : List Item) → IsHead (item.Part part.RhsName ∷ items) (item.Part part.RhsDot ∷ items) (Some action.Variable)
unfolding row_of
rhs_name_head items =
    part_head part.RhsName (item.Part part.RhsDot ∷ items) items (Some action.Variable) (item.Build action.Variable ∷ item.Token terminal.Name ∷ item.Part part.RhsDot ∷ []) refl refl

pub call_dot_head : (items : List Item) → IsHead (item.Part part.CallDot ∷ items) (item.Part part.CallDot ∷ items) (Some action.Field)
unfolding row_of
call_dot_head items =
    part_head part.CallDot (item.Part part.CallDot ∷ items) items (Some action.Field) (item.Build action.Field ∷ item.Token terminal.Name ∷ item.Part part.CallDot ∷ []) refl refl

abbrev pub inner_tail : List Item → List Item
inner_tail items = item.Part part.CallDot ∷ item.Build action.Call ∷ item.Token terminal.Semi ∷ item.Build action.Do ∷ items

pub inner_name_head : (items : List Item) → IsHead (item.Part part.InnerName ∷ items) (inner_tail items) (Some action.Variable)
unfolding row_of
inner_name_head items =
    part_head part.InnerName (inner_tail items) items (Some action.Variable) (item.Build action.Variable ∷ item.Token terminal.Name ∷ inner_tail []) refl refl

pub token_head : (items : List Item) → IsHead (dotted_call ++ items) (item.Part part.CallDot ∷ items) None
token_head items = record { dot = λ s f c ts out d. Next terminal.Dot (ap (λ k. stands_for k terminal.Dot) f) (from (kept_dot s c f) d) }

-- a chain, and then the dot and the name of a call
dotted : (n : ℕ) {us : List Spelled} {d e : Both} → DotsView [] d e us → length us ≤ n → {head tail : List Item} {o : Option Action} → IsHead head tail o
    → IsHead tail tail (Some action.Field) → (c : Both) → acted o c ≡ d → (place : Place) (name : List ℕ) → is_free name ≡ true → (ts : List Spelled) (out : Both)
    → Ds tail (with_name name e) ts out → Ds head c (us ++ marked mark.Dot ∷ spell place kind.Word name ∷ ts) out
dotted n (Ended Done) l {o = o} h w c q place name f ts out x =
    h.dot (marked mark.Dot) refl c (spell place kind.Word name ∷ ts) out (late o (from q (name_next place name f x)))
dotted zero (Dotted s t e g y) l h w c q place name f ts out x = absurd (omega arith)
dotted (suc n) {d = d} (Dotted {ts = us} s t e g y) l {o = o} h w c q place name f ts out x =
    let r = dotted n (dots_view y) (omega arith) w w (keep t d) refl place name f ts out x in
    h.dot s e c (t ∷ (us ++ marked mark.Dot ∷ spell place kind.Word name ∷ ts)) out (late o (from q (Next terminal.Name g r)))

-- ---- how an operand begins

abbrev pub is_sign : Terminal → Bool
is_sign terminal.Minus = true
is_sign terminal.Not = true
is_sign other = false

-- a row of a part and the row of an operand that begins with the same token: after what is the same come the operand's dots and the part's head
pub data Begun (p : Part) (items tail : List Item) (k : Terminal) (row : List Item) : Type 0 where
  Chain : (pre : List Item) (o : Option Action) (head : List Item) → row ≡ pre ++ (early o ++ item.Part part.Dots ∷ []) → row_of p k ≡ Some (pre ++ head)
      → IsHead (head ++ items) tail o → Begun p items tail k row
  Signed : is_sign k ≡ true → Begun p items tail k row

pub record IsPlace (p : Part) (items tail : List Item) : Type 0 where
  pub begun : (k : Terminal) → IfRow (Begun p items tail k) (row_of part.Unary k)
  pub again : IsHead tail tail (Some action.Field)

-- a part that an atom may begin, and what follows the atom
pub record IsAtoms (p : Part) (more : List Item) : Type 0 where
  pub leaf : row_of p terminal.Leaf ≡ Some (item.Build action.Leaf ∷ more)
  pub number : row_of p terminal.Number ≡ Some (item.Build action.Leaf ∷ more)
  pub seconds : row_of p terminal.Seconds ≡ Some (item.Build action.Leaf ∷ more)
  pub count : row_of p terminal.Count ≡ Some (item.Build action.Leaf ∷ more)
  pub text : row_of p terminal.Text ≡ Some (item.Build action.Leaf ∷ more)
  pub instant : row_of p terminal.Instant ≡ Some (item.Build action.Leaf ∷ more)
  pub pair : row_of p terminal.OpenParen ≡ Some (item.Part part.Expr ∷ item.Token terminal.CloseParen ∷ item.Build action.Pair ∷ more)
  pub version : row_of p terminal.Version ≡ Some (item.Token terminal.OpenParen ∷ item.Part part.Expr ∷ item.Token terminal.CloseParen ∷ item.Build action.Version ∷ more)

abbrev pub leaf_front : List Item
leaf_front = item.Build action.Leaf ∷ []

abbrev pub pair_front : List Item
pair_front = item.Part part.Expr ∷ item.Token terminal.CloseParen ∷ item.Build action.Pair ∷ []

abbrev pub version_front : List Item
version_front = item.Token terminal.OpenParen ∷ item.Part part.Expr ∷ item.Token terminal.CloseParen ∷ item.Build action.Version ∷ []

abbrev pub name_row : List Item
name_row = item.Build action.Variable ∷ item.Part part.Dots ∷ []

begun_by : (p : Part) (more items tail : List Item) → IsAtoms p more → IsHead (more ++ items) tail None → Begun p items tail terminal.Name name_row
    → (k : Terminal) → IfRow (Begun p items tail k) (row_of part.Unary k)
unfolding row_of
begun_by p more items tail i h n terminal.Leaf = Chain leaf_front None more refl i.leaf h
begun_by p more items tail i h n terminal.Number = Chain leaf_front None more refl i.number h
begun_by p more items tail i h n terminal.Seconds = Chain leaf_front None more refl i.seconds h
begun_by p more items tail i h n terminal.Count = Chain leaf_front None more refl i.count h
begun_by p more items tail i h n terminal.Text = Chain leaf_front None more refl i.text h
begun_by p more items tail i h n terminal.Instant = Chain leaf_front None more refl i.instant h
begun_by p more items tail i h n terminal.OpenParen = Chain pair_front None more refl i.pair h
begun_by p more items tail i h n terminal.Version = Chain version_front None more refl i.version h
begun_by p more items tail i h n terminal.Name = n
begun_by p more items tail i h n terminal.Minus = Signed refl
begun_by p more items tail i h n terminal.Not = Signed refl
begun_by p more items tail i h n other = tt

pub chained_atoms : IsAtoms part.Chained dotted_call
unfolding row_of
chained_atoms = record { leaf = refl; number = refl; seconds = refl; count = refl; text = refl; instant = refl; pair = refl; version = refl }

pub chained_place : (items : List Item) → IsPlace part.Chained items (item.Part part.CallDot ∷ items)
unfolding row_of
chained_place items = record {
  begun = begun_by part.Chained dotted_call items (item.Part part.CallDot ∷ items) chained_atoms (token_head items)
      (Chain (item.Build action.Variable ∷ []) None dotted_call refl refl (token_head items));
  again = call_dot_head items;
}

abbrev pub called_statement : List Item → List Item
called_statement more = dotted_call ++ item.Build action.Call ∷ item.Token terminal.Semi ∷ item.Build action.Do ∷ more

abbrev pub appended : List Item
appended = item.Build action.Append ∷ item.Part part.Inners ∷ []

pub inner_atoms : IsAtoms part.Inners (called_statement appended)
unfolding row_of
inner_atoms = record { leaf = refl; number = refl; seconds = refl; count = refl; text = refl; instant = refl; pair = refl; version = refl }

pub inner_place : (items : List Item) → IsPlace part.Inners items (inner_tail (appended ++ items))
unfolding row_of
inner_place items = record {
  begun = begun_by part.Inners (called_statement appended) items (inner_tail (appended ++ items)) inner_atoms (token_head _)
      (Chain [] (Some action.Variable) (item.Part part.InnerName ∷ appended) refl refl (inner_name_head (appended ++ items)));
  again = call_dot_head _;
}

pub rhs_atoms : IsAtoms part.Rhs (item.Part part.RhsDots ∷ [])
unfolding row_of
rhs_atoms = record { leaf = refl; number = refl; seconds = refl; count = refl; text = refl; instant = refl; pair = refl; version = refl }

pub rhs_place : (items : List Item) → IsPlace part.Rhs items (item.Part part.RhsDot ∷ items)
unfolding row_of
rhs_place items = record {
  begun = begun_by part.Rhs (item.Part part.RhsDots ∷ []) items (item.Part part.RhsDot ∷ items) rhs_atoms (rhs_dots_head items)
      (Chain [] (Some action.Variable) (item.Part part.RhsName ∷ []) refl refl (rhs_name_head items));
  again = rhs_dot_head items;
}

abbrev pub alone : List Item
alone = item.Build action.Simple ∷ []

pub statement_atoms : IsAtoms part.Statement (called_statement alone)
unfolding row_of
statement_atoms = record { leaf = refl; number = refl; seconds = refl; count = refl; text = refl; instant = refl; pair = refl; version = refl }

pub statement_place : (items : List Item) → IsPlace part.Statement items (inner_tail (alone ++ items))
unfolding row_of
statement_place items = record {
  begun = begun_by part.Statement (called_statement alone) items (inner_tail (alone ++ items)) statement_atoms (token_head _)
      (Chain (item.Build action.Variable ∷ []) None (called_statement alone) refl refl (token_head _));
  again = call_dot_head _;
}

pub script_rhs_atoms : IsAtoms part.ScriptRhs (item.Part part.RhsDots ∷ [])
unfolding row_of
script_rhs_atoms = record { leaf = refl; number = refl; seconds = refl; count = refl; text = refl; instant = refl; pair = refl; version = refl }

pub script_rhs_place : (items : List Item) → IsPlace part.ScriptRhs items (item.Part part.RhsDot ∷ items)
unfolding row_of
script_rhs_place items = record {
  begun = begun_by part.ScriptRhs (item.Part part.RhsDots ∷ []) items (item.Part part.RhsDot ∷ items) script_rhs_atoms (rhs_dots_head items)
      (Chain (item.Build action.Variable ∷ []) None (item.Part part.RhsDots ∷ []) refl refl (rhs_dots_head items));
  again = rhs_dot_head items;
}

-- ---- operands

-- the tokens are this operand, and don't begin with a sign
pub record IsOperand (us : List Spelled) (e : Expr) (h : Height) : Type 0 where
  pub closed : (b : Both) → Ds (item.Part part.Unary ∷ []) b us (with_expr e h b)
  pub no_sign : (t : Spelled) (vs : List Spelled) → us ≡ t ∷ vs → is_sign t.terminal ≡ true → ⊥

no_unary_skip : (a : Action) → skipped part.Unary ≡ Some a → ⊥
unfolding skipped
no_unary_skip a e = none-some a e

-- no name is a sign
same_sign : (k : Terminal) → is_sign (as_name k) ≡ is_sign k
same_sign terminal.Leaf = refl
same_sign other = refl

called_by : (p : Part) (items tail : List Item) (us : List Spelled) (b e : Both) → IsPlace p items tail → View part.Unary [] b e us
    → ((t : Spelled) (vs : List Spelled) → us ≡ t ∷ vs → is_sign t.terminal ≡ true → ⊥) → (place : Place) (name : List ℕ) → is_free name ≡ true → (ts : List Spelled) (out : Both)
    → Ds tail (with_name name e) ts out → Ds (item.Part p ∷ items) b (us ++ marked mark.Dot ∷ spell place kind.Word name ∷ ts) out
called_by p items tail us b e i (Left a f x) unsigned place name free ts out d = absurd (no_unary_skip a f)
called_by p items tail us b e i (Ruled {ts = vs} t row f x) unsigned place name free ts out d = cases (known_row _ (i.begun (as_name t.terminal)) f)
  where
    cases : Begun p items tail (as_name t.terminal) row → Ds (item.Part p ∷ items) b (t ∷ (vs ++ marked mark.Dot ∷ spell place kind.Word name ∷ ts)) out
    cases (Signed g) = absurd (unsigned t vs refl (sym (same_sign t.terminal) ∙ g))
    cases (Chain pre o head q r h) =
        let s = splits (with_items (append-nil row ∙ q) x) pre (early o ++ item.Part part.Dots ∷ []) refl in
        let z = marked mark.Dot ∷ spell place kind.Word name ∷ ts in
        let y = dotted (length s.vs) (dots_view (undo o s.behind)) (omega arith) h i.again s.mid refl place name free ts out d in
        Rule p (pre ++ head) (named_after p t.terminal (pre ++ head) r)
        (with_items (sym (append_assoc pre head items)) (with_tokens (sym (append_assoc s.us s.vs z) ∙ ap (λ ws. ws ++ z) s.same) (together s.first y)))

pub called : {p : Part} {items tail : List Item} {us : List Spelled} {e : Expr} {h : Height} → IsPlace p items tail → IsOperand us e h
    → (place : Place) (name : List ℕ) → is_free name ≡ true → (b : Both) (ts : List Spelled) (out : Both) → Ds tail (with_name name (with_expr e h b)) ts out
    → Ds (item.Part p ∷ items) b (us ++ marked mark.Dot ∷ spell place kind.Word name ∷ ts) out
called {p = p} {items = items} {tail = tail} {us = us} {e = e} {h = h} i o place name free b ts out d =
    called_by p items tail us b (with_expr e h b) i (view (o.closed b)) o.no_sign place name free ts out d

-- ---- good operands

abbrev signed_row : List Item
signed_row = item.Part part.Unary ∷ item.Build action.Sign ∷ []

signs : (k : Terminal) → IfRow (λ row. is_sign k ≡ true → row ≡ signed_row) (after part.Unary k)
unfolding row_of
signs terminal.Minus = λ e. refl
signs terminal.Not = λ e. refl
signs terminal.Leaf = λ e. absurd (false≢true e)
signs terminal.Number = λ e. absurd (false≢true e)
signs terminal.Seconds = λ e. absurd (false≢true e)
signs terminal.Count = λ e. absurd (false≢true e)
signs terminal.Text = λ e. absurd (false≢true e)
signs terminal.Instant = λ e. absurd (false≢true e)
signs terminal.OpenParen = λ e. absurd (false≢true e)
signs terminal.Version = λ e. absurd (false≢true e)
signs terminal.Name = λ e. absurd (false≢true e)
signs terminal.By = λ e. absurd (false≢true e)
signs terminal.Change = λ e. absurd (false≢true e)
signs terminal.FaAbs = λ e. absurd (false≢true e)
signs terminal.For = λ e. absurd (false≢true e)
signs terminal.In = λ e. absurd (false≢true e)
signs terminal.Pipe = λ e. absurd (false≢true e)
signs terminal.RelPlus = λ e. absurd (false≢true e)
signs terminal.Same = λ e. absurd (false≢true e)
signs terminal.SuchThat = λ e. absurd (false≢true e)
signs other = tt

-- the last item has made what there is
pub record LastMade (a : Action) (e : Both) : Type 0 where
  pub before : Both
  pub is : make a before ≡ e

pub last_made : {a : Action} {b e : Both} {ts : List Spelled} → Ds (item.Build a ∷ []) b ts e → LastMade a e
last_made {b = b} (Make a Done) = record { before = b; is = refl }

abbrev first_expr : Both → Expr
first_expr b = tree b.trees.exprs

signed_expr : (b : Both) → first_expr (make action.Sign b) ≡ expr.Unary (unary_of (mark_on b.trees.marks)) (tree b.trees.exprs)
unfolding built
signed_expr b = refl

expr_first : (e : Expr) (h : Height) (b : Both) → first_expr (with_expr e h b) ≡ e
expr_first e h b = refl

unary_operator : (op : UnOp) (e : Expr) → (printed (expr.Unary op e)).is_operator ≡ true
unfolding printed
unary_operator op e = ap (λ (p : Printed). p.is_operator) (ap printed (sym (expr.rolls-Unary op e)) ∙ fold-roll-Expr Printed printed_of (shape.Unary op e))

-- what a sign begins is an operator
signed_by : (us : List Spelled) (b : Both) (e : Expr) (h : Height) → View part.Unary [] b (with_expr e h b) us → (t : Spelled) (vs : List Spelled) → us ≡ t ∷ vs
    → is_sign t.terminal ≡ true → (printed e).is_operator ≡ true
signed_by us b e h (Left a f x) t vs q g = absurd (no_unary_skip a f)
signed_by us b e h (Ruled s row f x) t vs q g =
    let same : s ≡ t = ap (top t) q in
    let r = known_row _ (signs s.terminal) f (ap (λ (u : Spelled). is_sign u.terminal) same ∙ g) in
    let p = splits (with_items (append-nil row ∙ r) x) (item.Part part.Unary ∷ []) (item.Build action.Sign ∷ []) refl in
    let m = last_made p.behind in
    let is = sym (expr_first e h b) ∙ (ap first_expr (sym m.is) ∙ signed_expr m.before) in
    ap (λ y. (printed y).is_operator) is ∙ unary_operator _ _

start : Both
start = record { trees = no_trees; heights = no_heights }

no_sign_first : (c : Bool) (tokens : List Spelled) (e : Expr) (h : Height) → (printed e).is_operator ≡ c → Ds (item.Part part.Unary ∷ []) start (as_operand c tokens) (with_expr e h start)
    → (t : Spelled) (vs : List Spelled) → as_operand c tokens ≡ t ∷ vs → is_sign t.terminal ≡ true → ⊥
no_sign_first true tokens e h o d t vs q g = false≢true (ap (λ (u : Spelled). is_sign u.terminal) (ap (top t) q) ∙ g)
no_sign_first false tokens e h o d t vs q g = false≢true (sym o ∙ signed_by tokens start e h (view d) t vs q g)

pub operand_of : {place : Place} {e : Expr} {h : Height} → (g : Good place e h) → IsOperand (as_operand g.is_operator g.tokens) e (operand_height g.is_operator g.low)
operand_of {e = e} g =
    let closed : (b : Both) → Ds (item.Part part.Unary ∷ []) b (as_operand g.is_operator g.tokens) (with_expr e (operand_height g.is_operator g.low) b) =
    λ b. with_tokens (append-nil (as_operand g.is_operator g.tokens)) (g.prints.operand [] b [] (with_expr e (operand_height g.is_operator g.low) b) (no_dots Done)) in
    record {
      closed = closed;
      no_sign = no_sign_first g.is_operator g.tokens e (operand_height g.is_operator g.low) (ap (λ (p : Printed). p.is_operator) g.shown) (closed start);
    }
