-- A printed event expression is a text of its tree, and its height is that of the tree.
use Rattle.std.proofs.Common.{◌≡◌, ℕ, ◌+◌, ℤ, max, Bool, true, false, List, [], ◌∷◌, ◌++◌, append_assoc, Some, None, refl, sym, ◌∙◌, ap, subst}
use Rattle.ode_lex.specs.declared.token.Mark.TheVariants as mark
use Rattle.ode_grammar.specs.declared.item.Action.{Action}
use Rattle.ode_grammar.specs.declared.item.Part.{Part}
use Rattle.ode_grammar.specs.declared.item.Part.TheVariants as part
use Rattle.ode_grammar.specs.declared.item.Action.TheVariants as action
use Rattle.ode_grammar.specs.declared.item.Item.{Item}
use Rattle.ode_grammar.specs.declared.item.Item.TheVariants as item
use Rattle.ode_grammar.specs.declared.terminal.Terminal.{Terminal}
use Rattle.ode_grammar.specs.declared.terminal.Terminal.TheVariants as terminal
use Rattle.ode_grammar.specs.Events.{evand, event as whole_event, folded, counted, of_one, of_three, of_two}
use Rattle.ode_grammar.specs.Grammar.{after, row_of, skipped}
use Rattle.ode_grammar.specs.Texts.{Next, Make, Rule, Skip}
use Rattle.ode_grammar.specs.Terminals.{named, stands_for}
use Rattle.ode_heights.specs.declared.height.Height.{Height}
use Rattle.ode_heights.specs.Heights.{above, in_pair, leaf, raised}
use Rattle.ode_value.specs.declared.event.EventExpr.{EventExpr}
use Rattle.ode_value.specs.declared.event.EventExpr.TheVariants as event
use Rattle.ode_value.specs.declared.event.Kind.{Kind}
use Rattle.ode_value.specs.declared.event.Kind.TheVariants as point
use Rattle.ode_value.specs.declared.statement.Expr.{Expr}
use Rattle.ode_syntax.specs.Built.{built, built_right_side, built_statement, built_event, built_kind, built_class, built_member, built_script, count_of, second_of}
use Rattle.ode_syntax.specs.Kept.{Spelled, kept_as, name_of}
use Rattle.ode_reread.proofs.Both.{Both, keep, make}
use Rattle.ode_reread.proofs.ExprRows.{begins}
use Rattle.ode_reread.proofs.Marked.{marked, bracketed, as_operand, operand_height, with_expr, with_name, with_mark_on, IsNamed}
use Rattle.ode_reread.proofs.Prints.{at, closed, ended, kept_named, no_dots, nothing, opened, regroup, Ds, Prints}

-- with this event expression on top, with this kind, and with this leaf
abbrev pub with_event : EventExpr → Height → Both → Both
with_event e h b =
    record {
      trees = record b.trees { events = e ∷ b.trees.events };
      heights = record b.heights { shaped = h ∷ b.heights.shaped };
    }

abbrev pub with_kind : Kind → Both → Both
with_kind k b = record { trees = record b.trees { kinds = k ∷ b.trees.kinds }; heights = b.heights }

abbrev pub with_leaf_on : Expr → Both → Both
with_leaf_on e b = record { trees = record b.trees { leaves = e ∷ b.trees.leaves }; heights = b.heights }

-- in brackets
abbrev pub paired : Height → Height
paired h = record { own = in_pair h; bare = true }

-- the token is this word, of which nothing is kept
pub record IsWord (t : Spelled) (k : Terminal) : Type 0 where
  pub seen : t.terminal ≡ k
  pub adds_nothing : (b : Both) → keep t b ≡ b

-- the token is this word, which isn't reserved and is kept as a name
pub record IsEventWord (t : Spelled) (k : Terminal) : Type 0 where
  pub seen : t.terminal ≡ k
  pub adds : (b : Both) → keep t b ≡ with_name (name_of t.bytes) b

abbrev pub AsEventOperand : EventExpr → Height → List Spelled → Type 0
AsEventOperand e h us = (items : List Item) (b : Both) (ts : List Spelled) (out : Both)
    → Ds items (with_event e h b) ts out → Ds (item.Part part.EventUnary ∷ items) b (us ++ ts) out

abbrev pub AsEvent : EventExpr → Height → List Spelled → Type 0
AsEvent e h us = (items : List Item) (b : Both) (ts : List Spelled) (out : Both)
    → Ds items (with_event e h b) ts out → Ds (whole_event ++ items) b (us ++ ts) out

pub record EventPrints (e : EventExpr) (is_operator : Bool) (h : Height) (us : List Spelled) : Type 0 where
  pub operand : AsEventOperand e (operand_height is_operator h) (as_operand is_operator us)
  pub whole : AsEvent e h us

no_event_ands : {items : List Item} {b : Both} {ts : List Spelled} {out : Both} → Ds items b ts out → Ds (item.Part part.EventAnds ∷ items) b ts out
unfolding skipped
no_event_ands {items = items} {b = b} {ts = ts} {out = out} d = Skip part.EventAnds action.Nothing refl (at items ts out (nothing b) d)

no_event_ors : {items : List Item} {b : Both} {ts : List Spelled} {out : Both} → Ds items b ts out → Ds (item.Part part.EventOrs ∷ items) b ts out
unfolding skipped
no_event_ors {items = items} {b = b} {ts = ts} {out = out} d = Skip part.EventOrs action.Nothing refl (at items ts out (nothing b) d)

-- ---- brackets

no_event_mask : {items : List Item} {b : Both} {ts : List Spelled} {out : Both} → Ds items b ts out → Ds (item.Part part.EventMask ∷ items) b ts out
unfolding skipped
no_event_mask {items = items} {b = b} {ts = ts} {out = out} d = Skip part.EventMask action.Nothing refl (at items ts out (nothing b) d)

pub made_pair : (e : EventExpr) (h : Height) (b : Both) → make action.EventPair (with_event e h b) ≡ with_event e (paired h) b
unfolding built built_right_side built_statement built_event built_kind built_class built_member built_script raised
made_pair e h b = refl

abbrev pair_items : List Item → List Item
pair_items items = whole_event ++ item.Token terminal.CloseParen ∷ item.Build action.EventPair ∷ item.Part part.EventMask ∷ items

paren_row : after part.EventUnary terminal.OpenParen ≡ Some (pair_items [])
unfolding row_of
paren_row = refl

-- an event expression in brackets, and what may follow
in_pair_prints : (e : EventExpr) (h : Height) (us : List Spelled) → AsEvent e h us → (items : List Item) (b : Both) (ts : List Spelled) (out : Both)
    → Ds (item.Part part.EventMask ∷ items) (with_event e (paired h) b) ts out → Ds (item.Part part.EventUnary ∷ items) b (bracketed us ++ ts) out
in_pair_prints e h us whole items b ts out d =
    let inner = with_event e h b in
    let mask = item.Part part.EventMask ∷ items in
    let made = Make action.EventPair (at mask ts out (made_pair e h b) d) in
    let close = Next terminal.CloseParen refl (at (item.Build action.EventPair ∷ mask) ts out (closed inner) made) in
    let all = regroup us (marked mark.CloseParen ∷ []) ts (whole (item.Token terminal.CloseParen ∷ item.Build action.EventPair ∷ mask) b (marked mark.CloseParen ∷ ts) out close) in
    Rule part.EventUnary (pair_items []) paren_row (at (pair_items items) ((us ++ marked mark.CloseParen ∷ []) ++ ts) out (opened b) all)

bracketed_operand : (e : EventExpr) (n : ℕ) (us : List Spelled) → AsEvent e (above n) us → AsEventOperand e (record { own = n + 1; bare = true }) (bracketed us)
bracketed_operand e n us whole items b ts out d = in_pair_prints e (above n) us whole items b ts out (no_event_mask d)

an_operator : (e : EventExpr) (n : ℕ) (us : List Spelled) → AsEvent e (above n) us → EventPrints e true (above n) us
an_operator e n us whole = record { operand = bracketed_operand e n us whole; whole = whole }

no_operator : (e : EventExpr) (h : Height) (us : List Spelled) → AsEventOperand e h us → EventPrints e false h us
no_operator e h us operand = record {
  operand = operand;
  whole = λ items b ts out d. operand (item.Part part.EventAnds ∷ item.Part part.EventOrs ∷ items) b ts out (no_event_ands (no_event_ors d));
}

operand_own : (c : Bool) (h : Height) → (operand_height c h).own ≡ h.own
operand_own true h = refl
operand_own false h = refl

-- ---- operators

made_not : (e : EventExpr) (h : Height) (b : Both) → make action.NotEvent (with_event e h (with_mark_on mark.Not b)) ≡ with_event (event.Not e) (above h.own) b
unfolding built built_right_side built_statement built_event raised
made_not e h b = refl

kept_not : (b : Both) → keep (marked mark.Not) b ≡ with_mark_on mark.Not b
unfolding kept_as
kept_not b = refl

not_row : after part.EventUnary terminal.Not ≡ Some (item.Part part.EventUnary ∷ item.Build action.NotEvent ∷ [])
unfolding row_of
not_row = refl

pub not_prints : (e : EventExpr) (c : Bool) (h : Height) (us : List Spelled) → EventPrints e c h us
    → EventPrints (event.Not e) true (above h.own) (marked mark.Not ∷ as_operand c us)
not_prints e c h us p =
    let k = operand_height c h in
    an_operator (event.Not e) h.own (marked mark.Not ∷ as_operand c us) (λ items b ts out d.
    let made = made_not e k b ∙ ap (λ m. with_event (event.Not e) (above m) b) (operand_own c h) in
    let rest = item.Part part.EventAnds ∷ item.Part part.EventOrs ∷ items in
    Rule part.EventUnary (item.Part part.EventUnary ∷ item.Build action.NotEvent ∷ []) not_row
    (at (item.Part part.EventUnary ∷ item.Build action.NotEvent ∷ rest) (as_operand c us ++ ts) out (kept_not b)
    (p.operand (item.Build action.NotEvent ∷ rest) (with_mark_on mark.Not b) ts out
    (Make action.NotEvent (at rest ts out made (no_event_ands (no_event_ors d)))))))

pub made_and : (e f : EventExpr) (h k : Height) (b : Both) → make action.AndEvents (with_event f k (with_event e h b)) ≡ with_event (event.And e f) (above (max h.own k.own)) b
unfolding built built_right_side built_statement built_event raised
made_and e f h k b = refl

pub made_or : (e f : EventExpr) (h k : Height) (b : Both) → make action.OrEvents (with_event f k (with_event e h b)) ≡ with_event (event.Or e f) (above (max h.own k.own)) b
unfolding built built_right_side built_statement built_event raised
made_or e f h k b = refl

and_row : (t : Spelled) → t.terminal ≡ terminal.And → after part.EventAnds t.terminal ≡ Some (item.Part part.EventUnary ∷ item.Build action.AndEvents ∷ item.Part part.EventAnds ∷ [])
unfolding row_of
and_row t e = ap (after part.EventAnds) e

or_row : (t : Spelled) → t.terminal ≡ terminal.Or → after part.EventOrs t.terminal ≡ Some (evand ++ item.Build action.OrEvents ∷ item.Part part.EventOrs ∷ [])
unfolding row_of
or_row t e = ap (after part.EventOrs) e

same_max : (c d : Bool) (h k : Height) → max (operand_height c h).own (operand_height d k).own ≡ max h.own k.own
same_max c d h k = ap (λ m. max m (operand_height d k).own) (operand_own c h) ∙ ap (λ m. max h.own m) (operand_own d k)

pub and_prints : (e f : EventExpr) (c d : Bool) (h k : Height) (us vs : List Spelled) (t : Spelled) → IsWord t terminal.And → EventPrints e c h us → EventPrints f d k vs
    → EventPrints (event.And e f) true (above (max h.own k.own)) (as_operand c us ++ t ∷ as_operand d vs)
and_prints e f c d h k us vs t w p q =
    let g = operand_height c h in
    let l = operand_height d k in
    an_operator (event.And e f) (max h.own k.own) (as_operand c us ++ t ∷ as_operand d vs) (λ items b ts out r.
    let made = made_and e f g l b ∙ ap (λ m. with_event (event.And e f) (above m) b) (same_max c d h k) in
    let ors = item.Part part.EventOrs ∷ items in
    let second = item.Build action.AndEvents ∷ item.Part part.EventAnds ∷ ors in
    regroup (as_operand c us) (t ∷ as_operand d vs) ts
    (p.operand (item.Part part.EventAnds ∷ ors) b (t ∷ as_operand d vs ++ ts) out
    (Rule part.EventAnds (item.Part part.EventUnary ∷ item.Build action.AndEvents ∷ item.Part part.EventAnds ∷ []) (and_row t w.seen)
    (at (item.Part part.EventUnary ∷ second) (as_operand d vs ++ ts) out (w.adds_nothing (with_event e g b))
    (q.operand second (with_event e g b) ts out
    (Make action.AndEvents (at (item.Part part.EventAnds ∷ ors) ts out made (no_event_ands (no_event_ors r)))))))))

pub or_prints : (e f : EventExpr) (c d : Bool) (h k : Height) (us vs : List Spelled) (t : Spelled) → IsWord t terminal.Or → EventPrints e c h us → EventPrints f d k vs
    → EventPrints (event.Or e f) true (above (max h.own k.own)) (as_operand c us ++ t ∷ as_operand d vs)
or_prints e f c d h k us vs t w p q =
    let g = operand_height c h in
    let l = operand_height d k in
    an_operator (event.Or e f) (max h.own k.own) (as_operand c us ++ t ∷ as_operand d vs) (λ items b ts out r.
    let made = made_or e f g l b ∙ ap (λ m. with_event (event.Or e f) (above m) b) (same_max c d h k) in
    let behind = item.Build action.OrEvents ∷ item.Part part.EventOrs ∷ items in
    regroup (as_operand c us) (t ∷ as_operand d vs) ts
    (p.operand (item.Part part.EventAnds ∷ item.Part part.EventOrs ∷ items) b (t ∷ as_operand d vs ++ ts) out
    (no_event_ands (Rule part.EventOrs (evand ++ item.Build action.OrEvents ∷ item.Part part.EventOrs ∷ []) (or_row t w.seen)
    (at (item.Part part.EventUnary ∷ item.Part part.EventAnds ∷ behind) (as_operand d vs ++ ts) out (w.adds_nothing (with_event e g b))
    (q.operand (item.Part part.EventAnds ∷ behind) (with_event e g b) ts out
    (no_event_ands (Make action.OrEvents (at (item.Part part.EventOrs ∷ items) ts out made (no_event_ors r))))))))))

-- ---- what isn't made of parts

pub made_any : (b : Both) → make action.Any b ≡ with_event event.Any leaf b
unfolding built built_right_side built_statement built_event raised
made_any b = refl

pub made_first : (b : Both) → make action.First b ≡ with_event event.First leaf b
unfolding built built_right_side built_statement built_event raised
made_first b = refl

any_row : (t : Spelled) → t.terminal ≡ terminal.Any → after part.EventUnary t.terminal ≡ Some (item.Build action.Any ∷ [])
unfolding row_of
any_row t e = ap (after part.EventUnary) e

first_row : (t : Spelled) → t.terminal ≡ terminal.First → after part.EventUnary t.terminal ≡ Some (item.Build action.First ∷ [])
unfolding row_of
first_row t e = ap (after part.EventUnary) e

pub any_prints : (t : Spelled) → IsWord t terminal.Any → EventPrints event.Any false leaf (t ∷ [])
any_prints t w = no_operator event.Any leaf (t ∷ []) (λ items b ts out d.
    Rule part.EventUnary (item.Build action.Any ∷ []) (any_row t w.seen)
    (at (item.Build action.Any ∷ items) ts out (w.adds_nothing b) (Make action.Any (at items ts out (made_any b) d))))

pub first_prints : (t : Spelled) → IsWord t terminal.First → EventPrints event.First false leaf (t ∷ [])
first_prints t w = no_operator event.First leaf (t ∷ []) (λ items b ts out d.
    Rule part.EventUnary (item.Build action.First ∷ []) (first_row t w.seen)
    (at (item.Build action.First ∷ items) ts out (w.adds_nothing b) (Make action.First (at items ts out (made_first b) d))))

-- ---- two parts in brackets

kept_comma : (b : Both) → keep (marked mark.Comma) b ≡ b
unfolding kept_as
kept_comma b = refl

-- the comma behind a part, and the bracket behind the last
comma : {b : Both} (items : List Item) (ts : List Spelled) (out : Both) → Ds items b ts out → Ds (item.Token terminal.Comma ∷ items) b (marked mark.Comma ∷ ts) out
comma {b = b} items ts out d = Next terminal.Comma refl (at items ts out (kept_comma b) d)

bracket : {b : Both} (items : List Item) (ts : List Spelled) (out : Both) → Ds items b ts out → Ds (item.Token terminal.CloseParen ∷ items) b (marked mark.CloseParen ∷ ts) out
bracket {b = b} items ts out d = Next terminal.CloseParen refl (at items ts out (closed b) d)

paren : {b : Both} (items : List Item) (ts : List Spelled) (out : Both) → Ds items b ts out → Ds (item.Token terminal.OpenParen ∷ items) b (marked mark.OpenParen ∷ ts) out
paren {b = b} items ts out d = Next terminal.OpenParen refl (at items ts out (opened b) d)

-- the three words that take two parts: their terminal, action and what may follow, and what they make
pub record IsFolding (k : Terminal) (a : Action) (more : Item) (make_of : EventExpr → EventExpr → EventExpr) : Type 0 where
  pub row : after part.EventUnary k ≡ Some (folded (item.Build a) more)
  pub made : (e f : EventExpr) (h l : Height) (b : Both) → make a (with_event f l (with_event e h b)) ≡ with_event (make_of e f) (above (max h.own l.own)) b
  pub ends : (items : List Item) (b : Both) (ts : List Spelled) (out : Both) → Ds items b ts out → Ds (more ∷ items) b (marked mark.CloseParen ∷ ts) out

closing : (items : List Item) (b : Both) (ts : List Spelled) (out : Both) → Ds items b ts out → Ds items (keep (marked mark.CloseParen) b) ts out
closing items b ts out d = at items ts out (closed b) d

pub relative_folds : IsFolding terminal.Relative action.Relative (item.Part part.MoreRelative) event.Relative
unfolding row_of built built_right_side built_statement built_event raised
relative_folds = record { row = refl; made = λ e f h l b. refl; ends = λ items b ts out d. Rule part.MoreRelative [] refl (closing items b ts out d) }

pub prior_folds : IsFolding terminal.Prior action.Prior (item.Part part.MorePrior) event.Prior
unfolding row_of built built_right_side built_statement built_event raised
prior_folds = record { row = refl; made = λ e f h l b. refl; ends = λ items b ts out d. Rule part.MorePrior [] refl (closing items b ts out d) }

pub sequence_folds : IsFolding terminal.Sequence action.Sequence (item.Part part.MoreSequence) event.Sequence
unfolding row_of built built_right_side built_statement built_event raised
sequence_folds = record { row = refl; made = λ e f h l b. refl; ends = λ items b ts out d. Rule part.MoreSequence [] refl (closing items b ts out d) }

pub folded_prints : (k : Terminal) (a : Action) (more : Item) (make_of : EventExpr → EventExpr → EventExpr) → IsFolding k a more make_of
    → (e f : EventExpr) (c d : Bool) (h l : Height) (us vs : List Spelled) (t : Spelled) → IsWord t k → EventPrints e c h us → EventPrints f d l vs
    → EventPrints (make_of e f) false (above (max h.own l.own)) (t ∷ bracketed (us ++ marked mark.Comma ∷ vs))
folded_prints k a more make_of i e f c d h l us vs t w p q =
    no_operator (make_of e f) (above (max h.own l.own)) (t ∷ bracketed (us ++ marked mark.Comma ∷ vs)) (λ items b ts out r.
    let inner = us ++ marked mark.Comma ∷ vs in
    let closed_ts = marked mark.CloseParen ∷ ts in
    let behind = item.Build a ∷ more ∷ items in
    let one = with_event e h b in
    let made = Make a (at (more ∷ items) closed_ts out (i.made e f h l b) (i.ends items (with_event (make_of e f) (above (max h.own l.own)) b) ts out r)) in
    let second = q.whole behind one closed_ts out made in
    let first = p.whole (item.Token terminal.Comma ∷ whole_event ++ behind) b (marked mark.Comma ∷ vs ++ closed_ts) out (comma (whole_event ++ behind) (vs ++ closed_ts) out second) in
    let joined = regroup inner (marked mark.CloseParen ∷ []) ts (regroup us (marked mark.Comma ∷ vs) closed_ts first) in
    Rule part.EventUnary (folded (item.Build a) more) (ap (after part.EventUnary) w.seen ∙ i.row)
    (at (folded (item.Build a) more ++ items) (bracketed inner ++ ts) out (w.adds_nothing b)
    (paren (whole_event ++ item.Token terminal.Comma ∷ whole_event ++ behind) ((inner ++ marked mark.CloseParen ∷ []) ++ ts) out joined)))

-- ---- a number and a part

-- the token is a leaf that says this count
pub record IsCount (t : Spelled) (n : ℕ) : Type 0 where
  pub leaf : Expr
  pub seen : t.terminal ≡ terminal.Count
  pub adds : (b : Both) → keep t b ≡ with_leaf_on leaf b
  pub says : count_of leaf ≡ n

pub record IsCounting (k : Terminal) (a : Action) (make_of : ℕ → EventExpr → EventExpr) : Type 0 where
  pub row : after part.EventUnary k ≡ Some (counted (item.Build a))
  pub made : (x : Expr) (e : EventExpr) (h : Height) (b : Both) → make a (with_event e h (with_leaf_on x b)) ≡ with_event (make_of (count_of x) e) (above h.own) b

pub choose_counts : IsCounting terminal.Choose action.Choose event.Choose
unfolding row_of built built_right_side built_statement built_event raised
choose_counts = record { row = refl; made = λ x e h b. refl }

pub every_counts : IsCounting terminal.Every action.Every event.Every
unfolding row_of built built_right_side built_statement built_event raised
every_counts = record { row = refl; made = λ x e h b. refl }

pub counted_prints : (k : Terminal) (a : Action) (make_of : ℕ → EventExpr → EventExpr) → IsCounting k a make_of
    → (n : ℕ) (e : EventExpr) (c : Bool) (h : Height) (us : List Spelled) (s t : Spelled) → IsWord s k → IsCount t n → EventPrints e c h us
    → EventPrints (make_of n e) false (above h.own) (s ∷ t ∷ bracketed us)
counted_prints k a make_of i n e c h us s t w m p = no_operator (make_of n e) (above h.own) (s ∷ t ∷ bracketed us) (λ items b ts out d.
    let one = with_leaf_on m.leaf b in
    let made = i.made m.leaf e h b ∙ ap (λ x. with_event (make_of x e) (above h.own) b) m.says in
    let behind = item.Token terminal.CloseParen ∷ item.Build a ∷ items in
    let inner = p.whole behind one (marked mark.CloseParen ∷ ts) out (bracket (item.Build a ∷ items) ts out (Make a (at items ts out made d))) in
    let all = paren (whole_event ++ behind) ((us ++ marked mark.CloseParen ∷ []) ++ ts) out (regroup us (marked mark.CloseParen ∷ []) ts inner) in
    let number = Next terminal.Count (ap (λ k. stands_for k terminal.Count) m.seen) (at (item.Token terminal.OpenParen ∷ whole_event ++ behind) (bracketed us ++ ts) out (m.adds b) all) in
    Rule part.EventUnary (counted (item.Build a)) (ap (after part.EventUnary) w.seen ∙ i.row)
    (at (counted (item.Build a) ++ items) (t ∷ bracketed us ++ ts) out (w.adds_nothing b) number))

-- ---- one part and two parts, behind a word that isn't reserved

pub made_relplus : (name : List ℕ) (e : EventExpr) (h : Height) (b : Both)
    → make action.RelPlus (with_event e h (with_name name b)) ≡ with_event (event.RelPlus e) (above h.own) b
unfolding built built_right_side built_statement built_event raised
made_relplus name e h b = refl

relplus_row : after part.EventUnary terminal.RelPlus ≡ Some (of_one (item.Build action.RelPlus))
unfolding row_of
relplus_row = refl

pub relplus_prints : (e : EventExpr) (c : Bool) (h : Height) (us : List Spelled) (t : Spelled) → IsEventWord t terminal.RelPlus → EventPrints e c h us
    → EventPrints (event.RelPlus e) false (above h.own) (t ∷ bracketed us)
relplus_prints e c h us t w p = no_operator (event.RelPlus e) (above h.own) (t ∷ bracketed us) (λ items b ts out d.
    let name = name_of t.bytes in
    let last = item.Build action.RelPlus ∷ items in
    let behind = item.Token terminal.CloseParen ∷ last in
    let made = bracket last ts out (Make action.RelPlus (at items ts out (made_relplus name e h b) d)) in
    let inner = p.whole behind (with_name name b) (marked mark.CloseParen ∷ ts) out made in
    let all = paren (whole_event ++ behind) ((us ++ marked mark.CloseParen ∷ []) ++ ts) out (regroup us (marked mark.CloseParen ∷ []) ts inner) in
    Rule part.EventUnary (of_one (item.Build action.RelPlus)) (ap (after part.EventUnary) w.seen ∙ relplus_row)
    (at (of_one (item.Build action.RelPlus) ++ items) (bracketed us ++ ts) out (w.adds b) all))

pub made_pipe : (name : List ℕ) (e f : EventExpr) (h k : Height) (b : Both)
    → make action.Pipe (with_event f k (with_event e h (with_name name b))) ≡ with_event (event.Pipe e f) (above (max h.own k.own)) b
unfolding built built_right_side built_statement built_event raised
made_pipe name e f h k b = refl

pipe_row : after part.EventUnary terminal.Pipe ≡ Some (of_two (item.Build action.Pipe))
unfolding row_of
pipe_row = refl

pub pipe_prints : (e f : EventExpr) (c d : Bool) (h k : Height) (us vs : List Spelled) (t : Spelled) → IsEventWord t terminal.Pipe
    → EventPrints e c h us → EventPrints f d k vs → EventPrints (event.Pipe e f) false (above (max h.own k.own)) (t ∷ bracketed (us ++ marked mark.Comma ∷ vs))
pipe_prints e f c d h k us vs t w p q =
    no_operator (event.Pipe e f) (above (max h.own k.own)) (t ∷ bracketed (us ++ marked mark.Comma ∷ vs)) (λ items b ts out r.
    let inner = us ++ marked mark.Comma ∷ vs in
    let closed_ts = marked mark.CloseParen ∷ ts in
    let last = item.Build action.Pipe ∷ items in
    let behind = item.Token terminal.CloseParen ∷ last in
    let name = name_of t.bytes in
    let named_b = with_name name b in
    let made = bracket last ts out (Make action.Pipe (at items ts out (made_pipe name e f h k b) r)) in
    let second = q.whole behind (with_event e h named_b) closed_ts out made in
    let first = p.whole (item.Token terminal.Comma ∷ whole_event ++ behind) named_b (marked mark.Comma ∷ vs ++ closed_ts) out (comma (whole_event ++ behind) (vs ++ closed_ts) out second) in
    let joined = regroup inner (marked mark.CloseParen ∷ []) ts (regroup us (marked mark.Comma ∷ vs) closed_ts first) in
    Rule part.EventUnary (of_two (item.Build action.Pipe)) (ap (after part.EventUnary) w.seen ∙ pipe_row)
    (at (of_two (item.Build action.Pipe) ++ items) (bracketed inner ++ ts) out (w.adds b)
    (paren (whole_event ++ item.Token terminal.Comma ∷ whole_event ++ behind) ((inner ++ marked mark.CloseParen ∷ []) ++ ts) out joined)))

-- ---- three parts

pub made_fa : (e f g : EventExpr) (h k l : Height) (b : Both)
    → make action.Fa (with_event g l (with_event f k (with_event e h b))) ≡ with_event (event.Fa e f g) (above (max h.own (max k.own l.own))) b
unfolding built built_right_side built_statement built_event raised
made_fa e f g h k l b = refl

pub made_faabs : (name : List ℕ) (e f g : EventExpr) (h k l : Height) (b : Both)
    → make action.FaAbs (with_event g l (with_event f k (with_event e h (with_name name b)))) ≡ with_event (event.FaAbs e f g) (above (max h.own (max k.own l.own))) b
unfolding built built_right_side built_statement built_event raised
made_faabs name e f g h k l b = refl

-- the word that takes three parts, what is kept of it, and what is made
record TakesThree (t : Spelled) (a : Action) (make_of : EventExpr → EventExpr → EventExpr → EventExpr) : Type 0 where
  pub row : after part.EventUnary t.terminal ≡ Some (of_three (item.Build a))
  pub before : Both → Both
  pub adds : (b : Both) → keep t b ≡ before b
  pub made : (e f g : EventExpr) (h k l : Height) (b : Both)
      → make a (with_event g l (with_event f k (with_event e h (before b)))) ≡ with_event (make_of e f g) (above (max h.own (max k.own l.own))) b

three_prints : (t : Spelled) (a : Action) (make_of : EventExpr → EventExpr → EventExpr → EventExpr) → TakesThree t a make_of
    → (e f g : EventExpr) (c d n : Bool) (h k l : Height) (us vs ws : List Spelled) → EventPrints e c h us → EventPrints f d k vs → EventPrints g n l ws
    → EventPrints (make_of e f g) false (above (max h.own (max k.own l.own))) (t ∷ bracketed (us ++ marked mark.Comma ∷ vs ++ marked mark.Comma ∷ ws))
three_prints t a make_of i e f g c d n h k l us vs ws p q r =
    no_operator (make_of e f g) (above (max h.own (max k.own l.own))) (t ∷ bracketed (us ++ marked mark.Comma ∷ vs ++ marked mark.Comma ∷ ws)) (λ items b ts out x.
    let inner = us ++ marked mark.Comma ∷ vs ++ marked mark.Comma ∷ ws in
    let closed_ts = marked mark.CloseParen ∷ ts in
    let start = i.before b in
    let one = with_event e h start in
    let two = with_event f k one in
    let built_items = item.Build a ∷ items in
    let made = bracket built_items ts out (Make a (at items ts out (i.made e f g h k l b) x)) in
    let last = item.Token terminal.CloseParen ∷ built_items in
    let t3 = marked mark.Comma ∷ (ws ++ closed_ts) in
    let t2 = marked mark.Comma ∷ (vs ++ t3) in
    let third = comma (whole_event ++ last) (ws ++ closed_ts) out (r.whole last two closed_ts out made) in
    let middle = item.Token terminal.Comma ∷ whole_event ++ last in
    let second = comma (whole_event ++ middle) (vs ++ t3) out (q.whole middle one t3 out third) in
    let first = p.whole (item.Token terminal.Comma ∷ whole_event ++ middle) start t2 out second in
    let joined = subst (λ zs. Ds (whole_event ++ item.Token terminal.Comma ∷ whole_event ++ middle) start zs out) (sym (regrouped us vs ws ts)) first in
    Rule part.EventUnary (of_three (item.Build a)) i.row
    (at (of_three (item.Build a) ++ items) (bracketed inner ++ ts) out (i.adds b)
    (paren (whole_event ++ item.Token terminal.Comma ∷ whole_event ++ middle) ((inner ++ marked mark.CloseParen ∷ []) ++ ts) out joined)))
  where
    regrouped : (us vs ws ts : List Spelled)
        → ((us ++ marked mark.Comma ∷ vs ++ marked mark.Comma ∷ ws) ++ marked mark.CloseParen ∷ []) ++ ts
        ≡ us ++ (marked mark.Comma ∷ (vs ++ (marked mark.Comma ∷ (ws ++ marked mark.CloseParen ∷ ts))))
    regrouped us vs ws ts = simp append_assoc

fa_row : after part.EventUnary terminal.Fa ≡ Some (of_three (item.Build action.Fa))
unfolding row_of
fa_row = refl

faabs_row : after part.EventUnary terminal.FaAbs ≡ Some (of_three (item.Build action.FaAbs))
unfolding row_of
faabs_row = refl

pub fa_prints : (e f g : EventExpr) (c d n : Bool) (h k l : Height) (us vs ws : List Spelled) (t : Spelled) → IsWord t terminal.Fa
    → EventPrints e c h us → EventPrints f d k vs → EventPrints g n l ws
    → EventPrints (event.Fa e f g) false (above (max h.own (max k.own l.own))) (t ∷ bracketed (us ++ marked mark.Comma ∷ vs ++ marked mark.Comma ∷ ws))
fa_prints e f g c d n h k l us vs ws t w p q r =
    let i : TakesThree t action.Fa event.Fa = record { row = ap (after part.EventUnary) w.seen ∙ fa_row; before = λ b. b; adds = w.adds_nothing; made = made_fa } in
    three_prints t action.Fa event.Fa i e f g c d n h k l us vs ws p q r

pub faabs_prints : (e f g : EventExpr) (c d n : Bool) (h k l : Height) (us vs ws : List Spelled) (t : Spelled) → IsEventWord t terminal.FaAbs
    → EventPrints e c h us → EventPrints f d k vs → EventPrints g n l ws
    → EventPrints (event.FaAbs e f g) false (above (max h.own (max k.own l.own))) (t ∷ bracketed (us ++ marked mark.Comma ∷ vs ++ marked mark.Comma ∷ ws))
faabs_prints e f g c d n h k l us vs ws t w p q r =
    let name = name_of t.bytes in
    let i : TakesThree t action.FaAbs event.FaAbs =
    record { row = ap (after part.EventUnary) w.seen ∙ faabs_row; before = with_name name; adds = w.adds; made = made_faabs name } in
    three_prints t action.FaAbs event.FaAbs i e f g c d n h k l us vs ws p q r

-- ---- kinds, and kinds with masks

pub made_unmasked : (k : Kind) (b : Both) → make action.Unmasked (with_kind k b) ≡ with_event (event.Leaf k None) leaf b
unfolding built built_right_side built_statement built_event raised
made_unmasked k b = refl

made_masked : (k : Kind) (e : Expr) (h : Height) (b : Both)
    → make action.Masked (with_expr e h (with_mark_on mark.AndAnd (with_kind k b))) ≡ with_event (event.Leaf k (Some e)) (above (max 1 h.own)) b
unfolding built built_right_side built_statement built_event raised
made_masked k e h b = refl

-- these tokens are the kind: behind them its mask, in an event expression
pub record KindPrints (k : Kind) (us : List Spelled) : Type 0 where
  pub masked : (items : List Item) (b : Both) (ts : List Spelled) (out : Both) → Ds (item.Part part.Mask ∷ items) (with_kind k b) ts out
      → Ds (item.Part part.EventUnary ∷ items) b (us ++ ts) out
  pub alone : (items : List Item) (b : Both) (ts : List Spelled) (out : Both) → Ds items (with_kind k b) ts out → Ds (item.Part part.Kind ∷ items) b (us ++ ts) out

no_mask : (k : Kind) (items : List Item) (b : Both) (ts : List Spelled) (out : Both) → Ds items (with_event (event.Leaf k None) leaf b) ts out
    → Ds (item.Part part.Mask ∷ items) (with_kind k b) ts out
unfolding skipped
no_mask k items b ts out d = Skip part.Mask action.Unmasked refl (at items ts out (made_unmasked k b) d)

pub leaf_prints : (k : Kind) (us : List Spelled) → KindPrints k us → EventPrints (event.Leaf k None) false leaf us
leaf_prints k us p = no_operator (event.Leaf k None) leaf us (λ items b ts out d. p.masked items b ts out (no_mask k items b ts out d))

mask_row : after part.Mask terminal.AndAnd ≡ Some (item.Part part.Expr ∷ item.Build action.Masked ∷ [])
unfolding row_of
mask_row = refl

kept_and : (b : Both) → keep (marked mark.AndAnd) b ≡ with_mark_on mark.AndAnd b
unfolding kept_as
kept_and b = refl

pub masked_prints : (k : Kind) (us : List Spelled) (e : Expr) (c : Bool) (h : Height) (vs : List Spelled) → KindPrints k us → Prints e c h vs
    → EventPrints (event.Leaf k (Some e)) false (above (max 1 h.own)) (us ++ marked mark.AndAnd ∷ as_operand c vs)
masked_prints k us e c h vs p q =
    let l = operand_height c h in
    no_operator (event.Leaf k (Some e)) (above (max 1 h.own)) (us ++ marked mark.AndAnd ∷ as_operand c vs) (λ items b ts out d.
    let made = made_masked k e l b ∙ ap (λ m. with_event (event.Leaf k (Some e)) (above (max 1 m)) b) (operand_own c h) in
    let marked_b = with_mark_on mark.AndAnd (with_kind k b) in
    let behind = item.Build action.Masked ∷ items in
    let test = begins (q.operand (behind_all behind) marked_b ts out (no_dots (ended (Make action.Masked (at items ts out made d))))) in
    regroup us (marked mark.AndAnd ∷ as_operand c vs) ts
    (p.masked items b (marked mark.AndAnd ∷ as_operand c vs ++ ts) out
    (Rule part.Mask (item.Part part.Expr ∷ item.Build action.Masked ∷ []) mask_row
    (at (item.Part part.Expr ∷ behind) (as_operand c vs ++ ts) out (kept_and (with_kind k b)) test))))
  where
    behind_all : List Item → List Item
    behind_all items = item.Part part.Factors ∷ item.Part part.Sums ∷ item.Part part.Compare ∷ item.Part part.Ands ∷ item.Part part.Ors ∷ items

-- ---- an event expression in brackets with a mask

made_masked_event : (e : EventExpr) (h : Height) (x : Expr) (k : Height) (b : Both)
    → make action.MaskedEvent (with_expr x k (with_mark_on mark.AndAnd (with_event e h b))) ≡ with_event (event.Masked e x) (above (max h.own k.own)) b
unfolding built built_right_side built_statement built_event raised
made_masked_event e h x k b = refl

event_mask_row : after part.EventMask terminal.AndAnd ≡ Some (item.Part part.Expr ∷ item.Build action.MaskedEvent ∷ [])
unfolding row_of
event_mask_row = refl

pub masked_event_prints : (e : EventExpr) (c : Bool) (h : Height) (us : List Spelled) (x : Expr) (d : Bool) (k : Height) (vs : List Spelled)
    → EventPrints e c h us → Prints x d k vs → EventPrints (event.Masked e x) false (above (max (in_pair h) k.own)) (bracketed us ++ marked mark.AndAnd ∷ as_operand d vs)
masked_event_prints e c h us x d k vs p q =
    let l = operand_height d k in
    no_operator (event.Masked e x) (above (max (in_pair h) k.own)) (bracketed us ++ marked mark.AndAnd ∷ as_operand d vs) (λ items b ts out r.
    let of = with_event e (paired h) b in
    let made = made_masked_event e (paired h) x l b ∙ ap (λ m. with_event (event.Masked e x) (above (max (in_pair h) m)) b) (operand_own d k) in
    let behind = item.Build action.MaskedEvent ∷ items in
    let test = begins (q.operand (behind_all behind) (with_mark_on mark.AndAnd of) ts out (no_dots (ended (Make action.MaskedEvent (at items ts out made r))))) in
    let mask = Rule part.EventMask (item.Part part.Expr ∷ item.Build action.MaskedEvent ∷ []) event_mask_row
    (at (item.Part part.Expr ∷ behind) (as_operand d vs ++ ts) out (kept_and of) test) in
    regroup (bracketed us) (marked mark.AndAnd ∷ as_operand d vs) ts
    (in_pair_prints e h us p.whole items b (marked mark.AndAnd ∷ as_operand d vs ++ ts) out mask))
  where
    behind_all : List Item → List Item
    behind_all items = item.Part part.Factors ∷ item.Part part.Sums ∷ item.Part part.Compare ∷ item.Part part.Ands ∷ item.Part part.Ors ∷ items

-- ---- each kind

-- these tokens do what the part does, and leave the kind on top
abbrev pub Tail : Item → Kind → List Spelled → Type 0
Tail what k us = (items : List Item) (b : Both) (ts : List Spelled) (out : Both) → Ds items (with_kind k b) ts out → Ds (what ∷ items) b (us ++ ts) out

-- the first word of a kind
pub record BeginsKind (first : Terminal) (what : Item) : Type 0 where
  pub in_event : after part.EventUnary first ≡ Some (what ∷ item.Part part.Mask ∷ [])
  pub in_list : after part.Kind first ≡ Some (what ∷ [])

pub after_begins : BeginsKind terminal.After (item.Part part.AfterWhat)
unfolding row_of
after_begins = record { in_event = refl; in_list = refl }

pub before_begins : BeginsKind terminal.Before (item.Part part.BeforeWhat)
unfolding row_of
before_begins = record { in_event = refl; in_list = refl }

pub time_begins : BeginsKind terminal.Time (item.Part part.TimeWhat)
unfolding row_of
time_begins = record { in_event = refl; in_list = refl }

pub kind_prints : (first : Terminal) (what : Item) → BeginsKind first what → (k : Kind) (t : Spelled) (us : List Spelled) → IsWord t first → Tail what k us
    → KindPrints k (t ∷ us)
kind_prints first what i k t us w tail = record {
  masked = λ items b ts out d.
      Rule part.EventUnary (what ∷ item.Part part.Mask ∷ []) (ap (after part.EventUnary) w.seen ∙ i.in_event)
      (at (what ∷ item.Part part.Mask ∷ items) (us ++ ts) out (w.adds_nothing b) (tail (item.Part part.Mask ∷ items) b ts out d));
  alone = λ items b ts out d.
      Rule part.Kind (what ∷ []) (ap (after part.Kind) w.seen ∙ i.in_list) (at (what ∷ items) (us ++ ts) out (w.adds_nothing b) (tail items b ts out d));
}

-- a part at which a word makes a kind
pub record IsWhat (p : Part) (second : Terminal) (a : Action) (k : Kind) : Type 0 where
  pub row : after p second ≡ Some (item.Build a ∷ [])
  pub made : (b : Both) → make a b ≡ with_kind k b

pub word_tail : (p : Part) (second : Terminal) (a : Action) (k : Kind) → IsWhat p second a k → (t : Spelled) → IsWord t second → Tail (item.Part p) k (t ∷ [])
word_tail p second a k i t w = λ items b ts out d.
    Rule p (item.Build a ∷ []) (ap (after p) w.seen ∙ i.row) (at (item.Build a ∷ items) ts out (w.adds_nothing b) (Make a (at items ts out (i.made b) d)))

pub create_what : IsWhat part.AfterWhat terminal.Create action.AfterCreate point.Create
unfolding row_of built built_right_side built_statement built_event built_kind raised
create_what = record { row = refl; made = λ b. refl }

pub tbegin_what : IsWhat part.AfterWhat terminal.TBegin action.AfterTBegin point.TBegin
unfolding row_of built built_right_side built_statement built_event built_kind raised
tbegin_what = record { row = refl; made = λ b. refl }

pub tcommit_what : IsWhat part.AfterWhat terminal.TCommit action.AfterTCommit point.TCommit
unfolding row_of built built_right_side built_statement built_event built_kind raised
tcommit_what = record { row = refl; made = λ b. refl }

pub tabort_what : IsWhat part.AfterWhat terminal.TAbort action.AfterTAbort point.TAbort
unfolding row_of built built_right_side built_statement built_event built_kind raised
tabort_what = record { row = refl; made = λ b. refl }

pub newversion_what : IsWhat part.AfterWhat terminal.NewVersion action.AfterNewVersion point.NewVersion
unfolding row_of built built_right_side built_statement built_event built_kind raised
newversion_what = record { row = refl; made = λ b. refl }

pub delete_what : IsWhat part.BeforeWhat terminal.Delete action.BeforeDelete point.Delete
unfolding row_of built built_right_side built_statement built_event built_kind raised
delete_what = record { row = refl; made = λ b. refl }

pub tcomplete_what : IsWhat part.BeforeWhat terminal.TComplete action.BeforeTComplete point.TComplete
unfolding row_of built built_right_side built_statement built_event built_kind raised
tcomplete_what = record { row = refl; made = λ b. refl }

pub delversion_what : IsWhat part.BeforeWhat terminal.DropVersion action.BeforeDropVersion point.DropVersion
unfolding row_of built built_right_side built_statement built_event built_kind raised
delversion_what = record { row = refl; made = λ b. refl }

-- a part at which a name makes a kind
pub record IsNamedWhat (p : Part) (a : Action) (k : List ℕ → Kind) : Type 0 where
  pub row : (k : Terminal) → named k ≡ terminal.Name → after p k ≡ Some (item.Build a ∷ [])
  pub made : (name : List ℕ) (b : Both) → make a (with_name name b) ≡ with_kind (k name) b

pub named_tail : (p : Part) (a : Action) (k : List ℕ → Kind) → IsNamedWhat p a k → (name : List ℕ) (t : Spelled) → IsNamed t name → Tail (item.Part p) (k name) (t ∷ [])
named_tail p a k i name t w = λ items b ts out d.
    Rule p (item.Build a ∷ []) (i.row t.terminal w.seen) (at (item.Build a ∷ items) ts out (kept_named t name b w) (Make a (at items ts out (i.made name b) d)))

pub after_method : IsNamedWhat part.AfterWhat action.AfterMethod point.After
unfolding row_of built built_right_side built_statement built_event built_kind raised
after_method = record { row = λ k e. ap (row_of part.AfterWhat) e; made = λ name b. refl }

pub before_method : IsNamedWhat part.BeforeWhat action.BeforeMethod point.Before
unfolding row_of built built_right_side built_statement built_event built_kind raised
before_method = record { row = λ k e. ap (row_of part.BeforeWhat) e; made = λ name b. refl }

-- the token is a leaf that says this number of seconds, or this second
pub record IsPeriod (t : Spelled) (n : ℕ) : Type 0 where
  pub leaf : Expr
  pub row : after part.Period t.terminal ≡ Some (item.Build action.TimeEvery ∷ [])
  pub adds : (b : Both) → keep t b ≡ with_leaf_on leaf b
  pub says : count_of leaf ≡ n

pub record IsInstant (t : Spelled) (second : ℤ) : Type 0 where
  pub leaf : Expr
  pub seen : t.terminal ≡ terminal.Instant
  pub adds : (b : Both) → keep t b ≡ with_leaf_on leaf b
  pub says : second_of leaf ≡ second

pub made_every : (x : Expr) (b : Both) → make action.TimeEvery (with_leaf_on x b) ≡ with_kind (point.TimeEvery (count_of x)) b
unfolding built built_right_side built_statement built_event built_kind raised
made_every x b = refl

pub made_at : (x : Expr) (b : Both) → make action.TimeAt (with_leaf_on x b) ≡ with_kind (point.TimeAt (second_of x)) b
unfolding built built_right_side built_statement built_event built_kind raised
made_at x b = refl

every_row : after part.TimeWhat terminal.Every ≡ Some (item.Part part.Period ∷ [])
unfolding row_of
every_row = refl

at_row : after part.TimeWhat terminal.At ≡ Some (item.Token terminal.Instant ∷ item.Build action.TimeAt ∷ [])
unfolding row_of
at_row = refl

pub every_tail : (n : ℕ) (s t : Spelled) → IsWord s terminal.Every → IsPeriod t n → Tail (item.Part part.TimeWhat) (point.TimeEvery n) (s ∷ t ∷ [])
every_tail n s t w m = λ items b ts out d.
    let made = made_every m.leaf b ∙ ap (λ x. with_kind (point.TimeEvery x) b) m.says in
    let number = Rule part.Period (item.Build action.TimeEvery ∷ []) m.row (at (item.Build action.TimeEvery ∷ items) ts out (m.adds b) (Make action.TimeEvery (at items ts out made d))) in
    Rule part.TimeWhat (item.Part part.Period ∷ []) (ap (after part.TimeWhat) w.seen ∙ every_row) (at (item.Part part.Period ∷ items) (t ∷ ts) out (w.adds_nothing b) number)

pub at_tail : (second : ℤ) (s t : Spelled) → IsWord s terminal.At → IsInstant t second → Tail (item.Part part.TimeWhat) (point.TimeAt second) (s ∷ t ∷ [])
at_tail second s t w m = λ items b ts out d.
    let made = made_at m.leaf b ∙ ap (λ x. with_kind (point.TimeAt x) b) m.says in
    let instant = Next terminal.Instant (ap (λ k. stands_for k terminal.Instant) m.seen) (at (item.Build action.TimeAt ∷ items) ts out (m.adds b) (Make action.TimeAt (at items ts out made d))) in
    Rule part.TimeWhat (item.Token terminal.Instant ∷ item.Build action.TimeAt ∷ []) (ap (after part.TimeWhat) w.seen ∙ at_row)
    (at (item.Token terminal.Instant ∷ item.Build action.TimeAt ∷ items) (t ∷ ts) out (w.adds_nothing b) instant)
