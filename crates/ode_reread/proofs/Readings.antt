-- What a whole text makes.
use Rattle.std.proofs.Common.{◌≡◌, ◌≤◌, ℕ, true, List, [], ◌∷◌, ◌++◌, map, refl, sym, ◌∙◌, ap, subst, arith}
use Rattle.std.proofs.lemmas.List.{append-nil}
use Rattle.ode_lex.specs.declared.token.Token.{Token}
use Rattle.ode_grammar.specs.declared.item.Item.{Item}
use Rattle.ode_grammar.specs.declared.item.Item.TheVariants as item
use Rattle.ode_grammar.specs.declared.item.Part.TheVariants as part
use Rattle.ode_grammar.specs.declared.reader.Start.{Start}
use Rattle.ode_grammar.specs.declared.reader.Start.TheVariants as start
use Rattle.ode_grammar.specs.declared.terminal.Terminal.{Terminal}
use Rattle.ode_grammar.specs.Grammar.{items_of, standing}
use Rattle.ode_grammar.specs.Terminals.{stands_for}
use Rattle.ode_grammar.specs.Texts.{Derives, Done, Next, Make, Rule, Skip}
use Rattle.ode_grammar.proofs.Follows.{start_well}
use Rattle.ode_grammar.proofs.Runs.{one_meaning}
use Rattle.ode_grammar.proofs.TerminalLaws.{stands_at, stands_for-same}
use Rattle.ode_heights.specs.declared.height.Height.{Height}
use Rattle.ode_heights.specs.declared.height.Heights.{Heights}
use Rattle.ode_heights.specs.Heights.{heights as of_heights, highest, none}
use Rattle.ode_terminals.specs.declared.seen.Place.{Place}
use Rattle.ode_terminals.specs.Seen.{terminal_of}
use Rattle.ode_value.specs.Printing.{event_text, expr_text}
use Rattle.ode_value.specs.declared.event.EventExpr.{EventExpr}
use Rattle.ode_value.specs.declared.statement.Expr.{Expr}
use Rattle.ode_syntax.specs.declared.trees.Trees.{Trees}
use Rattle.ode_syntax.specs.Built.{event_tree, tree}
use Rattle.ode_syntax.specs.Kept.{kept_as, spelled, Spelled}
use Rattle.ode_syntax.specs.Trees.{no_trees}
use Rattle.ode_reread.proofs.Cuts.{Cut}
use Rattle.ode_reread.proofs.Cuts as cuts
use Rattle.ode_reread.specs.Rereading.{IsRead}
use Rattle.ode_reread.proofs.Both.{its_heights, its_trees, lifted, both, keep, make, seen_of, Both}
use Rattle.ode_reread.proofs.CutTexts.{cut_text}
use Rattle.ode_reread.proofs.AllRows.{left_out, row_does}
use Rattle.ode_reread.proofs.Effects.{spelt, split, Leads}
use Rattle.ode_reread.proofs.EventGoods.{GoodEvent, GoodInstants}
use Rattle.ode_reread.proofs.EventPrints.{with_event}
use Rattle.ode_reread.proofs.Goods.{Good}
use Rattle.ode_reread.proofs.Marked.{with_expr}
use Rattle.ode_reread.proofs.Sounds.{sound_so, text_sounds, Sounds}

-- what a token stands for is kept as it is
pub kept_so : (t : Spelled) (k : Terminal) (b : Both) → stands_for t.terminal k ≡ true → keep t b ≡ keep (spelt k t.kind t.bytes) b
kept_so t k b e = ap (λ j. record { trees = kept_as j t.kind t.bytes b.trees; heights = b.heights }) (stands_for-same t.terminal k e)

-- a text does what its items do
pub leads : {items : List Item} {b : Both} {ts : List Spelled} {out : Both} → (place : Place) → Derives both items b ts out → Sounds place ts → Leads place items b out
leads place Done s = refl
leads {b = b} {out = out} place (Next {items = items} {t = t} k e d) s = (
  t.kind,
  t.bytes,
  sound_so place t k e s.0,
  subst (λ c. Leads place items c out) (kept_so t k b e) (leads place d s.1),
)
leads place (Make a d) s = leads place d s
leads {b = b} {out = out} place (Rule {items = items} {t = t} p row e d) s =
    let x = split place row items (keep t b) out (leads place d s.1) in
    let k = standing p t.terminal in
    let f = stands_at p t.terminal in
    (x.mid, row_does place p t.terminal row e t.kind t.bytes (sound_so place t k f s.0) b x.mid (subst (λ c. Leads place row c x.mid) (kept_so t k b f) x.first), x.behind)
leads {b = b} place (Skip p a e d) s = (make a b, left_out place p a b e, leads place d s)

abbrev pub at_start : Both
at_start = record { trees = no_trees; heights = none }

pub same_seen : (place : Place) (text : List ℕ) (tokens : List Token) → seen_of (map (spelled place text) tokens) ≡ map (terminal_of place text) tokens
same_seen place text [] = refl
same_seen place text (t ∷ ts) = ap (λ ks. terminal_of place text t ∷ ks) (same_seen place text ts)

-- what was read, with its height
pub record Reading (most : ℕ) (s : Start) (place : Place) (made : Trees) : Type 0 where
  pub out : Both
  pub trees : out.trees ≡ made
  pub within : highest out.heights ≤ most
  pub leads : Leads place (items_of s) at_start out

pub reading : (most : ℕ) (s : Start) (place : Place) (text : List ℕ) (made : Trees) → IsRead most s place text made
    → Reading most s place made
reading most s place text made r =
    let x = lifted r.makes none in
    let out : Both = record { trees = made; heights = x.heights } in
    let seen = subst (λ ks. Derives of_heights (items_of s) none ks x.heights) (same_seen place text r.tokens) (its_heights x.derives) in
    let same = one_meaning of_heights (items_of s) none (map (terminal_of place text) r.tokens) r.within.made x.heights (start_well s) r.within.is_text seen in
    record {
      out = out;
      trees = refl;
      within = subst (λ (h : Heights). highest h ≤ most) same r.within.within;
      leads = leads place x.derives (text_sounds place text r.tokens r.lexed_as);
    }

-- a text of these tokens is read so
pub is_read : (most : ℕ) (s : Start) (place : Place) (text : List ℕ) (ts : List Spelled) (out : Both) → Cut place text ts
    → Derives both (items_of s) at_start ts out → highest out.heights ≤ most → IsRead most s place text out.trees
is_read most s place text ts out c d l =
    let x = cut_text place text ts c in
    let made = subst (λ us. Derives both (items_of s) at_start us out) (sym x.2) d in
    record {
      tokens = x.0;
      lexed_as = x.1;
      makes = its_trees made;
      within = record {
        made = out.heights;
        is_text = subst (λ ks. Derives of_heights (items_of s) none ks out.heights) (same_seen place text x.0) (its_heights made);
        within = l;
      };
    }

-- ---- expressions

one_height : (h : Height) (most : ℕ) → h.own ≤ most → highest (record { shaped = h ∷ []; plain = [] }) ≤ most
one_height h most l = omega arith

own_height : (h : Height) (most : ℕ) → highest (record { shaped = h ∷ []; plain = [] }) ≤ most → h.own ≤ most
own_height h most l = omega arith

good_again : (most : ℕ) (place : Place) (e : Expr) (h : Height) → Good place e h → h.own ≤ most
    → (again : Trees) × IsRead most start.Expr place (expr_text e) again × (tree again.exprs ≡ e)
unfolding items_of
good_again most place e h g l =
    let low = g.no_higher in
    let out = with_expr e g.low at_start in
    let cut = subst (λ (x : List ℕ). Cut place x g.tokens) (append-nil g.text)
    (subst (λ us. Cut place (g.text ++ []) us) (append-nil g.tokens) (g.spells.cuts [] [] refl cuts.End)) in
    let derives = subst (λ us. Derives both (item.Part part.Expr ∷ []) at_start us out) (append-nil g.tokens) (g.prints.whole [] at_start [] out Done) in
    let read = is_read most start.Expr place g.text g.tokens out cut derives (one_height g.low most (omega arith)) in
    (out.trees, subst (λ (t : List ℕ). IsRead most start.Expr place t out.trees) (ap (λ p. p.text) (sym g.shown)) read, refl)

pub expr_again : (most : ℕ) (place : Place) (text : List ℕ) (made : Trees) → IsRead most start.Expr place text made
    → (again : Trees) × IsRead most start.Expr place (expr_text (tree made.exprs)) again × (tree again.exprs ≡ tree made.exprs)
unfolding items_of
expr_again most place text made r =
    let x = reading most start.Expr place text made r in
    let l = x.leads in
    let a = l.1 in
    let is : x.out ≡ with_expr a.e a.h at_start = sym l.2 ∙ a.is in
    let same : tree made.exprs ≡ a.e = ap (λ (v : Trees). tree v.exprs) (sym x.trees) ∙ ap (λ (b : Both). tree b.trees.exprs) is in
    let within = own_height a.h most (subst (λ (b : Both). highest b.heights ≤ most) is x.within) in
    subst (λ e. (again : Trees) × IsRead most start.Expr place (expr_text e) again × (tree again.exprs ≡ e)) (sym same) (good_again most place a.e a.h a.good within)

-- ---- event expressions

event_good_again : (most : ℕ) (place : Place) (e : EventExpr) (h : Height) → GoodEvent place e h → h.own ≤ most
    → (again : Trees) × IsRead most start.Event place (event_text e) again × (event_tree again.events ≡ e)
unfolding items_of
event_good_again most place e h g l =
    let low = g.no_higher in
    let out = with_event e g.low at_start in
    let cut = subst (λ (x : List ℕ). Cut place x g.tokens) (append-nil g.text)
    (subst (λ us. Cut place (g.text ++ []) us) (append-nil g.tokens) (g.spells.cuts [] [] refl cuts.End)) in
    let derives = subst (λ us. Derives both (items_of start.Event) at_start us out) (append-nil g.tokens) (g.prints.whole [] at_start [] out Done) in
    let read = is_read most start.Event place g.text g.tokens out cut derives (one_height g.low most (omega arith)) in
    (out.trees, subst (λ (t : List ℕ). IsRead most start.Event place t out.trees) (ap (λ p. p.text) (sym g.shown)) read, refl)

-- an event expression that was read is good, and no higher than it may be
pub record GoodRead (most : ℕ) (place : Place) (e : EventExpr) : Type 0 where
  pub height : Height
  pub good : GoodEvent place e height
  pub within : height.own ≤ most

pub event_is_good : (most : ℕ) (place : Place) (text : List ℕ) (made : Trees) → GoodInstants place
    → IsRead most start.Event place text made → GoodRead most place (event_tree made.events)
unfolding items_of
event_is_good most place text made instants r =
    let x = reading most start.Event place text made r in
    let l = x.leads in
    let a1 = l.1 in
    let a2 = l.2.1 a1.e a1.h at_start a1.is a1.good in
    let a = l.2.2.1 a2.e a2.h at_start a2.is a2.good in
    let is : x.out ≡ with_event a.e a.h at_start = sym l.2.2.2 ∙ a.is in
    let same : event_tree made.events ≡ a.e = ap (λ (v : Trees). event_tree v.events) (sym x.trees) ∙ ap (λ (b : Both). event_tree b.trees.events) is in
    record {
      height = a.h;
      good = subst (λ e. GoodEvent place e a.h) (sym same) (a.good instants);
      within = own_height a.h most (subst (λ (b : Both). highest b.heights ≤ most) is x.within);
    }

pub event_again : (most : ℕ) (place : Place) (text : List ℕ) (made : Trees) → GoodInstants place
    → IsRead most start.Event place text made
    → (again : Trees) × IsRead most start.Event place (event_text (event_tree made.events)) again × (event_tree again.events ≡ event_tree made.events)
event_again most place text made instants r =
    let g = event_is_good most place text made instants r in
    event_good_again most place (event_tree made.events) g.height g.good g.within
