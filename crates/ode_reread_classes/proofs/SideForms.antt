-- Each form of a right side, where it stands behind `=` or `show` and where it stands alone.
use Rattle.std.proofs.Common.{◌≡◌, ◌≤◌, ℕ, ◌+◌, max, Bool, true, codes, List, [], ◌∷◌, ◌++◌, Option, Some, None, refl}
use Rattle.std.proofs.lemmas.Bool.{false≢true}
use Rattle.std.proofs.lemmas.List.{append-nil}
use Rattle.ode_lex.specs.declared.token.Mark.TheVariants as mark
use Rattle.ode_lex.specs.declared.token.TokenKind.TheVariants as kind
use Rattle.ode_grammar.specs.declared.item.Action.TheVariants as action
use Rattle.ode_grammar.specs.declared.item.Item.{Item}
use Rattle.ode_grammar.specs.declared.item.Item.TheVariants as item
use Rattle.ode_grammar.specs.declared.item.Part.{Part}
use Rattle.ode_grammar.specs.declared.item.Part.TheVariants as part
use Rattle.ode_grammar.specs.declared.terminal.Terminal.TheVariants as terminal
use Rattle.ode_grammar.specs.Expressions.{arguments}
use Rattle.ode_grammar.specs.Grammar.{after, row_of}
use Rattle.ode_grammar.specs.Statements.{ending, new}
use Rattle.ode_grammar.specs.Texts.{Done, Next, Make, Rule}
use Rattle.ode_heights.specs.Heights.{raised}
use Rattle.ode_terminals.specs.declared.seen.Place.{Place}
use Rattle.ode_terminals.specs.Words.{word_terminal}
use Rattle.ode_value.specs.PrintedClasses.{args_text, of_text, rhs_text}
use Rattle.ode_value.specs.Words.{is_free}
use Rattle.ode_value.specs.declared.statement.Expr.{Expr}
use Rattle.ode_value.specs.declared.statement.Rhs.{Rhs}
use Rattle.ode_value.specs.declared.statement.Rhs.TheVariants as rhs
use Rattle.ode_syntax.specs.Built.{built, built_right_side}
use Rattle.ode_syntax.specs.Kept.{kept_as, Spelled}
use Rattle.ode_reread.proofs.Both.{Both, make}
use Rattle.ode_reread.proofs.Cuts.{spell}
use Rattle.ode_reread.proofs.Goods.{free_word}
use Rattle.ode_reread.proofs.Marked.{marked, with_expr, with_name}
use Rattle.ode_reread.proofs.Prints.{Ds}
use Rattle.ode_reread.proofs.Spells.{opens_append, word_opens, Spells}
use Rattle.ode_reread_classes.proofs.Chains.{alone, appended, chained_place, inner_place, name_next, name_rule, rhs_place, script_rhs_place, statement_place, IsPlace}
use Rattle.ode_reread_classes.proofs.Derivations.{with_tokens}
use Rattle.ode_reread_classes.proofs.Parts.{has_owner, is_do, GoodArgs, GoodExpr, GoodOf, GoodOwner, GoodRight, GoodSets}
use Rattle.ode_reread_classes.proofs.Pieces.{begun, expr_spells, join, of_spells, to_spells, word, word_begun, worded}
use Rattle.ode_reread_classes.proofs.Puts.{with_args, with_right}
use Rattle.ode_reread_classes.proofs.Rights.{plain_right, rhs_right, script_right, IsRight}
use Rattle.ode_reread_classes.proofs.Sides.{arguments_next, printed_args, printed_call, printed_sets, with_call}

-- a part that a change may begin, and what follows it
pub record IsChange (p : Part) (more : List Item) : Type 0 where
  pub pnew : after p terminal.PNew ≡ Some (new ++ more)
  pub newversion : after p terminal.NewVersion ≡ Some (item.Part part.Expr ∷ item.Build action.NewVersion ∷ more)
  pub activate : after p terminal.Activate ≡ Some (item.Part part.Chained ∷ item.Build action.Activate ∷ more)

-- a part of right sides
pub record IsSide (p : Part) : Type 0 where
  pub right : IsRight p
  pub change : IsChange p ending
  pub place : (items : List Item) → IsPlace p items (item.Part part.RhsDot ∷ items)

abbrev pub done : List Item → List Item
done more = item.Token terminal.Semi ∷ item.Build action.Do ∷ more

-- a part that simple statements may begin, and what follows them
pub record IsSimple (p : Part) (more : List Item) : Type 0 where
  pub say : after p terminal.Say ≡ Some (item.Part part.Expr ∷ item.Token terminal.Semi ∷ item.Build action.Say ∷ more)
  pub pdelete : after p terminal.PDelete ≡ Some (item.Part part.Expr ∷ item.Token terminal.Semi ∷ item.Build action.Delete ∷ more)
  pub dropversion : after p terminal.DropVersion ≡ Some (item.Part part.Expr ∷ item.Token terminal.Semi ∷ item.Build action.DropVersion ∷ more)
  pub deactivate : after p terminal.Deactivate
      ≡ Some (item.Part part.Expr ∷ item.Token terminal.Comma ∷ item.Part part.Expr ∷ item.Token terminal.Semi ∷ item.Build action.Deactivate ∷ more)
  pub change : IsChange p (done more)
  pub place : (items : List Item) → IsPlace p items (item.Part part.CallDot ∷ item.Build action.Call ∷ (done more ++ items))

pub inner_side : IsSide part.Rhs
unfolding row_of
inner_side = record { right = rhs_right; change = record { pnew = refl; newversion = refl; activate = refl }; place = rhs_place }

pub inner_simple : IsSimple part.Inners appended
unfolding row_of
inner_simple = record {
  say = refl;
  pdelete = refl;
  dropversion = refl;
  deactivate = refl;
  change = record { pnew = refl; newversion = refl; activate = refl };
  place = inner_place;
}

pub script_side : IsSide part.ScriptRhs
unfolding row_of
script_side = record { right = script_right; change = record { pnew = refl; newversion = refl; activate = refl }; place = script_rhs_place }

pub script_simple : IsSimple part.Statement alone
unfolding row_of
script_simple = record {
  say = refl;
  pdelete = refl;
  dropversion = refl;
  deactivate = refl;
  change = record { pnew = refl; newversion = refl; activate = refl };
  place = statement_place;
}

-- the tokens, and a semicolon, are this right side
abbrev pub AsRight : Part → Rhs → ℕ → List Spelled → Type 0
AsRight p r n us = (items : List Item) (b : Both) (ts : List Spelled) (out : Both) → Ds items (with_right r n b) ts out → Ds (item.Part p ∷ items) b (us ++ marked mark.Semi ∷ ts) out

-- the tokens stand alone
abbrev pub AsDo : Part → List Item → Rhs → ℕ → List Spelled → Type 0
AsDo p more r n us = (items : List Item) (b : Both) (ts : List Spelled) (out : Both) → Ds (done more ++ items) (with_right r n b) ts out → Ds (item.Part p ∷ items) b (us ++ ts) out

pub record PrintedRight (place : Place) (n : ℕ) (r : Rhs) : Type 0 where
  pub tokens : List Spelled
  pub low : ℕ
  pub no_higher : low ≤ n
  pub spells : Spells place (rhs_text r) tokens
  pub right : AsRight part.Rhs r low tokens
  pub side : has_owner r ≡ true → (p : Part) → IsSide p → AsRight p r low tokens
  pub alone : is_do r ≡ true → AsDo part.Inners appended r low tokens
  pub simple : is_do r ≡ true → has_owner r ≡ true → (p : Part) (more : List Item) → IsSimple p more → AsDo p more r low tokens

-- ---- expressions

made_plain : (e : Expr) (n : ℕ) (bare : Bool) (items : List Item) (b : Both) (ts : List Spelled) (out : Both) → Ds items (with_right (rhs.Plain e) n b) ts out
    → Ds items (make action.Plain (with_expr e (record { own = n; bare = bare }) b)) ts out
unfolding built built_right_side raised
made_plain e n bare items b ts out d = d

plain_printed : (place : Place) (n : ℕ) (e : Expr) → GoodExpr place n e → PrintedRight place n (rhs.Plain e)
plain_printed place n e g =
    let side : (p : Part) → IsRight p → AsRight p (rhs.Plain e) g.low.own g.tokens =
    λ p i items b ts out d.
    let closed = with_tokens (append-nil g.tokens) (g.prints.whole [] b [] (with_expr e g.low b) Done) in
    plain_right i closed items ts out (made_plain e g.low.own g.low.bare items b ts out d) in
    record {
      tokens = g.tokens;
      low = g.low.own;
      no_higher = g.no_higher;
      spells = expr_spells g;
      right = side part.Rhs rhs_right;
      side = λ o p s. side p s.right;
      alone = λ f. absurd (false≢true f);
      simple = λ f. absurd (false≢true f);
    }

-- ---- calls

dot_opens : after part.RhsDot terminal.OpenParen ≡ Some (arguments ++ item.Build action.Call ∷ ending)
unfolding row_of
dot_opens = refl

call_opens : after part.CallDot terminal.OpenParen ≡ Some (arguments ++ [])
unfolding row_of
call_opens = refl

made_call : (e : Expr) (own : ℕ) (bare : Bool) (name : List ℕ) (args : List Expr) (most : ℕ) (items : List Item) (b : Both) (ts : List Spelled) (out : Both)
    → Ds items (with_right (rhs.Call (record { of = Some e; method = name; args = args })) (max (own + 1) most) b) ts out
    → Ds (item.Build action.Call ∷ items) (with_call e own bare name args most b) ts out
unfolding built built_right_side raised
made_call e own bare name args most items b ts out d = Make action.Call d

call_printed : (place : Place) (n : ℕ) (e : Expr) (name : List ℕ) (args : List Expr) → GoodOf place n e → is_free name ≡ true → GoodArgs place n args
    → PrintedRight place n (rhs.Call (record { of = Some e; method = name; args = args }))
unfolding kept_as
call_printed place n e name args g f h =
    let c = printed_call place n e name args g f h in
    let r = rhs.Call (record { of = Some e; method = name; args = args }) in
    let side : (p : Part) → ((items : List Item) → IsPlace p items (item.Part part.RhsDot ∷ items)) → AsRight p r (max (c.own + 1) c.most) c.tokens =
    λ p i items b ts out d.
    c.does p part.RhsDot items items (item.Build action.Call ∷ ending) (i items) dot_opens b (marked mark.Semi ∷ ts) out (made_call e c.own c.bare name args c.most (ending ++ items) b (marked mark.Semi ∷ ts) out (Next terminal.Semi refl d)) in
    let simple : (p : Part) (more : List Item) → IsSimple p more → AsDo p more r (max (c.own + 1) c.most) c.tokens =
    λ p more s items b ts out d. c.does p part.CallDot items (item.Build action.Call ∷ (done more ++ items)) [] (s.place items) call_opens b ts out (made_call e c.own c.bare name args c.most (done more ++ items) b ts out d) in
    record {
      tokens = c.tokens;
      low = max (c.own + 1) c.most;
      no_higher = c.no_higher;
      spells = to_spells c.begins c.piece;
      right = side part.Rhs rhs_place;
      side = λ o p s. side p s.place;
      alone = λ o. simple part.Inners appended inner_simple;
      simple = λ o k p more s. simple p more s;
    }

name_opens : after part.RhsName terminal.OpenParen ≡ Some (arguments ++ item.Build action.OwnCall ∷ ending)
unfolding row_of
name_opens = refl

inner_opens : after part.InnerName terminal.OpenParen ≡ Some (arguments ++ item.Build action.OwnCall ∷ done [])
unfolding row_of
inner_opens = refl

rhs_name : after part.Rhs terminal.Name ≡ Some (item.Part part.RhsName ∷ [])
unfolding row_of
rhs_name = refl

pub inners_name : after part.Inners terminal.Name ≡ Some (item.Part part.InnerName ∷ appended)
unfolding row_of
inners_name = refl

made_own_call : (name : List ℕ) (args : List Expr) (n : ℕ) (items : List Item) (b : Both) (ts : List Spelled) (out : Both)
    → Ds items (with_right (rhs.Call (record { of = None; method = name; args = args })) n b) ts out
    → Ds (item.Build action.OwnCall ∷ items) (with_args args n (with_name name b)) ts out
unfolding built built_right_side raised
made_own_call name args n items b ts out d = Make action.OwnCall d

own_call_printed : (place : Place) (n : ℕ) (name : List ℕ) (args : List Expr) → is_free name ≡ true → GoodArgs place n args
    → PrintedRight place n (rhs.Call (record { of = None; method = name; args = args }))
unfolding kept_as
own_call_printed place n name args f h =
    let a = printed_args place n args h in
    let w = free_word name f in
    record {
      tokens = spell place kind.Word name ∷ marked mark.OpenParen ∷ a.inner;
      low = a.low;
      no_higher = a.no_higher;
      spells = to_spells (opens_append name (args_text args) (word_opens name w)) (join (word place name w) a.piece (λ rest e. refl));
      right = λ items b ts out d.
          name_rule place name f part.Rhs (item.Part part.RhsName ∷ []) rhs_name
          (arguments_next place n args a part.RhsName (item.Build action.OwnCall ∷ ending) items name_opens (with_name name b) (marked mark.Semi ∷ ts) out
          (made_own_call name args a.low (ending ++ items) b (marked mark.Semi ∷ ts) out (Next terminal.Semi refl d)));
      side = λ o p s. absurd (false≢true o);
      alone = λ o items b ts out d.
          name_rule place name f part.Inners (item.Part part.InnerName ∷ appended) inners_name
          (arguments_next place n args a part.InnerName (item.Build action.OwnCall ∷ done []) (appended ++ items) inner_opens (with_name name b) ts out
          (made_own_call name args a.low (done appended ++ items) b ts out d));
      simple = λ o k p more s. absurd (false≢true k);
    }

-- ---- what changes the database

abbrev AsChange : Rhs → ℕ → List Spelled → Type 0
AsChange r n us = (p : Part) (more : List Item) → IsChange p more → (items : List Item) (b : Both) (ts : List Spelled) (out : Both) → Ds (more ++ items) (with_right r n b) ts out
    → Ds (item.Part p ∷ items) b (us ++ ts) out

change_printed : (place : Place) (n : ℕ) (r : Rhs) (tokens : List Spelled) (low : ℕ) → low ≤ n → Spells place (rhs_text r) tokens → AsChange r low tokens → PrintedRight place n r
unfolding kept_as
change_printed place n r tokens low l s c =
    let side : (p : Part) → IsChange p ending → AsRight p r low tokens = λ p i items b ts out d. c p ending i items b (marked mark.Semi ∷ ts) out (Next terminal.Semi refl d) in
    record {
      tokens = tokens;
      low = low;
      no_higher = l;
      spells = s;
      right = side part.Rhs inner_side.change;
      side = λ o p s. side p s.change;
      alone = λ o. c part.Inners (done appended) inner_simple.change;
      simple = λ o k p more s. c p (done more) s.change;
    }

new_version_does : (place : Place) (n : ℕ) (e : Expr) → (g : GoodExpr place n e) → AsChange (rhs.NewVersion e) g.low.own (spell place kind.Word (codes "newversion") ∷ g.tokens)
unfolding kept_as word_terminal built built_right_side raised
new_version_does place n e g = λ p more i items b ts out d.
    Rule p (item.Part part.Expr ∷ item.Build action.NewVersion ∷ more) i.newversion (g.prints.whole (item.Build action.NewVersion ∷ (more ++ items)) b ts out (Make action.NewVersion d))

new_version_printed : (place : Place) (n : ℕ) (e : Expr) → GoodExpr place n e → PrintedRight place n (rhs.NewVersion e)
new_version_printed place n e g =
    change_printed place n (rhs.NewVersion e) _ g.low.own g.no_higher
    (to_spells refl (join (worded place (codes "newversion") refl) (of_spells (expr_spells g)) (begun (expr_spells g)))) (new_version_does place n e g)

new_does : (place : Place) (n : ℕ) (class : List ℕ) (fields : List (List ℕ × Expr)) → (f : is_free class ≡ true) → (g : GoodSets place n fields)
    → AsChange (rhs.New class fields) (printed_sets place n fields g).low
    (spell place kind.Word (codes "pnew") ∷ spell place kind.Word class ∷ marked mark.OpenParen ∷ (printed_sets place n fields g).inner)
unfolding kept_as word_terminal built built_right_side raised
new_does place n class fields f g = λ p more i items b ts out d.
    let s = printed_sets place n fields g in
    Rule p (new ++ more) i.pnew
    (name_next place class f (Next terminal.OpenParen refl (Make action.Sets (s.does (item.Build action.New ∷ (more ++ items)) (with_name class b) ts out (Make action.New d)))))

new_printed : (place : Place) (n : ℕ) (class : List ℕ) (fields : List (List ℕ × Expr)) → is_free class ≡ true → GoodSets place n fields → PrintedRight place n (rhs.New class fields)
new_printed place n class fields f g =
    let s = printed_sets place n fields g in
    let w = free_word class f in
    change_printed place n (rhs.New class fields) _ s.low s.no_higher
    (to_spells refl (join (join (worded place (codes "pnew") refl) (word place class w) (word_begun class w)) s.piece (λ rest e. refl))) (new_does place n class fields f g)

activate_printed : (place : Place) (n : ℕ) (e : Expr) (name : List ℕ) (args : List Expr) → GoodOf place n e → is_free name ≡ true → GoodArgs place n args
    → PrintedRight place n (rhs.Activate e name args)
unfolding kept_as word_terminal built built_right_side raised
activate_printed place n e name args g f h =
    let c = printed_call place n e name args g f h in
    let does : AsChange (rhs.Activate e name args) (max (c.own + 1) c.most) (spell place kind.Word (codes "activate") ∷ c.tokens) =
    λ p more i items b ts out d.
    Rule p (item.Part part.Chained ∷ item.Build action.Activate ∷ more) i.activate
    (c.does part.Chained part.CallDot (item.Build action.Activate ∷ (more ++ items)) (item.Build action.Activate ∷ (more ++ items)) [] (chained_place (item.Build action.Activate ∷ (more ++ items))) call_opens b ts out (Make action.Activate d)) in
    change_printed place n (rhs.Activate e name args) _ (max (c.own + 1) c.most) c.no_higher
    (activate_spells place e name args c.tokens (to_spells c.begins c.piece)) does
  where
    activate_spells : (place : Place) (e : Expr) (name : List ℕ) (args : List Expr) (ts : List Spelled)
        → Spells place (of_text (Some e) ++ name ++ args_text args) ts
        → Spells place (rhs_text (rhs.Activate e name args)) (spell place kind.Word (codes "activate") ∷ ts)
    activate_spells place e name args ts s = to_spells refl (join (worded place (codes "activate") refl) (of_spells s) (begun s))

-- ---- all forms

pub printed_right : (place : Place) (n : ℕ) (r : Rhs) → GoodRight place n r → PrintedRight place n r
printed_right place n (rhs.Plain e) g = plain_printed place n e g
printed_right place n (rhs.Call c) g = by_owner c.of g.0
  where
    by_owner : (of : Option Expr) → GoodOwner place n of → PrintedRight place n (rhs.Call (record { of = of; method = c.method; args = c.args }))
    by_owner None x = own_call_printed place n c.method c.args g.1 g.2
    by_owner (Some e) x = call_printed place n e c.method c.args x g.1 g.2
printed_right place n (rhs.New class fields) g = new_printed place n class fields g.0 g.1
printed_right place n (rhs.NewVersion e) g = new_version_printed place n e g
printed_right place n (rhs.Activate of trigger args) g = activate_printed place n of trigger args g.0 g.1 g.2
