-- Event expressions whose printed text is read as they are, no higher than they were read.
use Rattle.std.proofs.Common.{◌≡◌, ◌≤◌, ◌<◌, ◌^◌, ℕ, max, Bool, true, false, cond, codes, nat_le, pos, List, [], ◌∷◌, ◌++◌, append_assoc, ◌⊎◌, inl, inr, Some, None, arith, le_trans, refl, sym, ◌∙◌, ap}
use Rattle.std.proofs.lemmas.Bool.Decides.{nat_tests}
use Rattle.std.proofs.lemmas.List.{append-nil}
use Rattle.ode_lex.specs.declared.token.Mark.TheVariants as mark
use Rattle.ode_lex.specs.declared.token.TokenKind.TheVariants as kind
use Rattle.ode_grammar.specs.declared.item.Action.TheVariants as action
use Rattle.ode_grammar.specs.declared.item.Item.TheVariants as item
use Rattle.ode_grammar.specs.declared.item.Part.TheVariants as part
use Rattle.ode_grammar.specs.declared.terminal.Terminal.{Terminal}
use Rattle.ode_grammar.specs.declared.terminal.Terminal.TheVariants as terminal
use Rattle.ode_grammar.specs.Grammar.{after, row_of}
use Rattle.ode_grammar.specs.Terminals.{named as as_name}
use Rattle.ode_heights.specs.declared.height.Height.{Height}
use Rattle.ode_heights.specs.Heights.{above, in_pair, leaf}
use Rattle.ode_terminals.specs.declared.seen.Place.{Place}
use Rattle.ode_terminals.specs.Seen.{number_terminal}
use Rattle.ode_terminals.specs.Words.{word_terminal}
use Rattle.ode_value.specs.Limits.{choose_limit}
use Rattle.ode_value.specs.Decimal.{digits_of}
use Rattle.ode_value.specs.Printing.{in_brackets, kind_text, operand, printed, printed_event, printed_event_of, Printed}
use Rattle.ode_value.specs.Words.{is_free}
use Rattle.ode_value.specs.declared.event.EventExpr.{EventExpr, fold-roll-EventExpr}
use Rattle.ode_value.specs.declared.event.EventExpr.TheOpen as shape
use Rattle.ode_value.specs.declared.event.EventExpr.TheVariants as event
use Rattle.ode_value.specs.declared.event.Kind.{Kind}
use Rattle.ode_value.specs.declared.event.Kind.TheVariants as point
use Rattle.ode_value.specs.declared.statement.Expr.{Expr}
use Rattle.ode_value.specs.declared.statement.Expr.TheVariants as expr
use Rattle.ode_value.specs.declared.value.Value.TheVariants as value
use Rattle.ode_value.proofs.PrintLaws.{event-And, event-Leaf, event-masked, event-Or}
use Rattle.ode_timer.specs.Due.{Recurs}
use Rattle.ode_syntax.specs.declared.trees.Trees.{Trees}
use Rattle.ode_syntax.specs.Built.{count_of, second_of}
use Rattle.ode_syntax.specs.Kept.{kept_as, Spelled}
use Rattle.ode_reread.proofs.Cuts.{spell}
use Rattle.ode_reread.proofs.EventNumbers.{and_numbered, any_numbered, choose_numbered, every_numbered, fa_numbered, faabs_numbered, first_numbered, leaf_numbered, masked_numbered, not_numbered, or_numbered, pipe_numbered, prior_numbered, relative_numbered, relplus_numbered, sequence_numbered, IsNumbered}
use Rattle.ode_reread.proofs.EventPrints.{after_begins, after_method, and_prints, any_prints, before_begins, before_method, choose_counts, counted_prints, create_what, delete_what, delversion_what, every_counts, every_tail, fa_prints, faabs_prints, first_prints, folded_prints, kind_prints, leaf_prints, masked_event_prints, masked_prints, named_tail, newversion_what, not_prints, or_prints, pipe_prints, prior_folds, relative_folds, relplus_prints, sequence_folds, tabort_what, tbegin_what, tcommit_what, tcomplete_what, time_begins, word_tail, EventPrints, IsCount, IsEventWord, IsPeriod, IsWord, KindPrints}
use Rattle.ode_reread.proofs.EventSpells.{between_spells, call_spells, comma_spells, counted_spells, mask_spells, not_spells, number_spells, words_spell}
use Rattle.ode_reread.proofs.Goods.{free_word, named, shown_as, Good}
use Rattle.ode_reread.proofs.Marked.{as_operand, bracketed, marked}
use Rattle.ode_reread.proofs.Spells.{brackets_spell, operand_spells, word_spells, Spells}

-- ---- words

is_and : (place : Place) → IsWord (spell place kind.Word (codes "and")) terminal.And
unfolding word_terminal kept_as
is_and place = record { seen = refl; adds_nothing = λ b. refl }

is_or : (place : Place) → IsWord (spell place kind.Word (codes "or")) terminal.Or
unfolding word_terminal kept_as
is_or place = record { seen = refl; adds_nothing = λ b. refl }

is_any : (place : Place) → IsWord (spell place kind.Word (codes "any")) terminal.Any
unfolding word_terminal kept_as
is_any place = record { seen = refl; adds_nothing = λ b. refl }

is_first : (place : Place) → IsWord (spell place kind.Word (codes "first")) terminal.First
unfolding word_terminal kept_as
is_first place = record { seen = refl; adds_nothing = λ b. refl }

is_after : (place : Place) → IsWord (spell place kind.Word (codes "after")) terminal.After
unfolding word_terminal kept_as
is_after place = record { seen = refl; adds_nothing = λ b. refl }

is_before : (place : Place) → IsWord (spell place kind.Word (codes "before")) terminal.Before
unfolding word_terminal kept_as
is_before place = record { seen = refl; adds_nothing = λ b. refl }

is_create : (place : Place) → IsWord (spell place kind.Word (codes "create")) terminal.Create
unfolding word_terminal kept_as
is_create place = record { seen = refl; adds_nothing = λ b. refl }

is_delete : (place : Place) → IsWord (spell place kind.Word (codes "delete")) terminal.Delete
unfolding word_terminal kept_as
is_delete place = record { seen = refl; adds_nothing = λ b. refl }

is_tbegin : (place : Place) → IsWord (spell place kind.Word (codes "tbegin")) terminal.TBegin
unfolding word_terminal kept_as
is_tbegin place = record { seen = refl; adds_nothing = λ b. refl }

is_tcomplete : (place : Place) → IsWord (spell place kind.Word (codes "tcomplete")) terminal.TComplete
unfolding word_terminal kept_as
is_tcomplete place = record { seen = refl; adds_nothing = λ b. refl }

is_tcommit : (place : Place) → IsWord (spell place kind.Word (codes "tcommit")) terminal.TCommit
unfolding word_terminal kept_as
is_tcommit place = record { seen = refl; adds_nothing = λ b. refl }

is_tabort : (place : Place) → IsWord (spell place kind.Word (codes "tabort")) terminal.TAbort
unfolding word_terminal kept_as
is_tabort place = record { seen = refl; adds_nothing = λ b. refl }

is_newversion : (place : Place) → IsWord (spell place kind.Word (codes "newversion")) terminal.NewVersion
unfolding word_terminal kept_as
is_newversion place = record { seen = refl; adds_nothing = λ b. refl }

is_delversion : (place : Place) → IsWord (spell place kind.Word (codes "delversion")) terminal.DropVersion
unfolding word_terminal kept_as
is_delversion place = record { seen = refl; adds_nothing = λ b. refl }

pub is_time : (place : Place) → IsWord (spell place kind.Word (codes "time")) terminal.Time
unfolding word_terminal kept_as
is_time place = record { seen = refl; adds_nothing = λ b. refl }

is_every : (place : Place) → IsWord (spell place kind.Word (codes "every")) terminal.Every
unfolding word_terminal kept_as
is_every place = record { seen = refl; adds_nothing = λ b. refl }

pub is_at : (place : Place) → IsWord (spell place kind.Word (codes "at")) terminal.At
unfolding word_terminal kept_as
is_at place = record { seen = refl; adds_nothing = λ b. refl }

is_relative : (place : Place) → IsWord (spell place kind.Word (codes "relative")) terminal.Relative
unfolding word_terminal kept_as
is_relative place = record { seen = refl; adds_nothing = λ b. refl }

is_prior : (place : Place) → IsWord (spell place kind.Word (codes "prior")) terminal.Prior
unfolding word_terminal kept_as
is_prior place = record { seen = refl; adds_nothing = λ b. refl }

is_sequence : (place : Place) → IsWord (spell place kind.Word (codes "sequence")) terminal.Sequence
unfolding word_terminal kept_as
is_sequence place = record { seen = refl; adds_nothing = λ b. refl }

is_choose : (place : Place) → IsWord (spell place kind.Word (codes "choose")) terminal.Choose
unfolding word_terminal kept_as
is_choose place = record { seen = refl; adds_nothing = λ b. refl }

is_fa : (place : Place) → IsWord (spell place kind.Word (codes "fa")) terminal.Fa
unfolding word_terminal kept_as
is_fa place = record { seen = refl; adds_nothing = λ b. refl }

is_faabs : (place : Place) → IsEventWord (spell place kind.Word (codes "faabs")) terminal.FaAbs
unfolding word_terminal kept_as
is_faabs place = record { seen = refl; adds = λ b. refl }

is_relplus : (place : Place) → IsEventWord (spell place kind.Word (codes "relplus")) terminal.RelPlus
unfolding word_terminal kept_as
is_relplus place = record { seen = refl; adds = λ b. refl }

is_pipe : (place : Place) → IsEventWord (spell place kind.Word (codes "pipe")) terminal.Pipe
unfolding word_terminal kept_as
is_pipe place = record { seen = refl; adds = λ b. refl }

-- ---- numbers

count_terminal : (n : ℕ) → 0 < n → n ≤ choose_limit → number_terminal (pos n) ≡ terminal.Count
count_terminal n some small = grind (arith, nat_tests)

pub small_count : (n : ℕ) → n < 2 ^ 32 → count_of (expr.Lit (value.Int (pos n))) ≡ n
small_count n small = grind (arith, nat_tests)

abbrev pub number_leaf : ℕ → Expr
number_leaf n = expr.Lit (value.Int (pos n))

count_kept : (n : ℕ) (k : Terminal) (t : Spelled) → t.terminal ≡ k → k ≡ terminal.Count → t.kind ≡ kind.Number (pos n) → (v : Trees) → kept_as (as_name t.terminal) t.kind t.bytes v ≡ record v { leaves = number_leaf n ∷ v.leaves }
unfolding kept_as
count_kept n k t e f g v = ap (λ j. kept_as (as_name j) t.kind t.bytes v) (e ∙ f) ∙ ap (λ j. kept_as terminal.Count j t.bytes v) g

a_count : (place : Place) (n : ℕ) → 0 < n → n ≤ choose_limit → IsCount (spell place (kind.Number (pos n)) (digits_of n)) n
a_count place n some small =
    let seen = count_terminal n some small in
    record {
      leaf = number_leaf n;
      seen = seen;
      adds = λ b. ap (λ v. record { trees = v; heights = b.heights }) (count_kept n (number_terminal (pos n)) (spell place (kind.Number (pos n)) (digits_of n)) refl seen refl b.trees);
      says = small_count n (omega arith);
    }

-- ---- kinds

pub record GoodKind (place : Place) (k : Kind) : Type 0 where
  pub tokens : List Spelled
  pub spells : Spells place (kind_text k) tokens
  pub prints : KindPrints k tokens
  pub recurs : Recurs k

pub create_good : (place : Place) → GoodKind place point.Create
create_good place = record {
  tokens = spell place kind.Word (codes "after") ∷ spell place kind.Word (codes "create") ∷ [];
  spells = words_spell place (codes "after") (codes "create") _ refl (word_spells place (codes "create") refl);
  prints = kind_prints terminal.After (item.Part part.AfterWhat) after_begins point.Create _ _ (is_after place)
      (word_tail part.AfterWhat terminal.Create action.AfterCreate point.Create create_what _ (is_create place));
  recurs = tt;
}

pub tbegin_good : (place : Place) → GoodKind place point.TBegin
tbegin_good place = record {
  tokens = spell place kind.Word (codes "after") ∷ spell place kind.Word (codes "tbegin") ∷ [];
  spells = words_spell place (codes "after") (codes "tbegin") _ refl (word_spells place (codes "tbegin") refl);
  prints = kind_prints terminal.After (item.Part part.AfterWhat) after_begins point.TBegin _ _ (is_after place)
      (word_tail part.AfterWhat terminal.TBegin action.AfterTBegin point.TBegin tbegin_what _ (is_tbegin place));
  recurs = tt;
}

pub tcommit_good : (place : Place) → GoodKind place point.TCommit
tcommit_good place = record {
  tokens = spell place kind.Word (codes "after") ∷ spell place kind.Word (codes "tcommit") ∷ [];
  spells = words_spell place (codes "after") (codes "tcommit") _ refl (word_spells place (codes "tcommit") refl);
  prints = kind_prints terminal.After (item.Part part.AfterWhat) after_begins point.TCommit _ _ (is_after place)
      (word_tail part.AfterWhat terminal.TCommit action.AfterTCommit point.TCommit tcommit_what _ (is_tcommit place));
  recurs = tt;
}

pub tabort_good : (place : Place) → GoodKind place point.TAbort
tabort_good place = record {
  tokens = spell place kind.Word (codes "after") ∷ spell place kind.Word (codes "tabort") ∷ [];
  spells = words_spell place (codes "after") (codes "tabort") _ refl (word_spells place (codes "tabort") refl);
  prints = kind_prints terminal.After (item.Part part.AfterWhat) after_begins point.TAbort _ _ (is_after place)
      (word_tail part.AfterWhat terminal.TAbort action.AfterTAbort point.TAbort tabort_what _ (is_tabort place));
  recurs = tt;
}

pub newversion_good : (place : Place) → GoodKind place point.NewVersion
newversion_good place = record {
  tokens = spell place kind.Word (codes "after") ∷ spell place kind.Word (codes "newversion") ∷ [];
  spells = words_spell place (codes "after") (codes "newversion") _ refl (word_spells place (codes "newversion") refl);
  prints = kind_prints terminal.After (item.Part part.AfterWhat) after_begins point.NewVersion _ _ (is_after place)
      (word_tail part.AfterWhat terminal.NewVersion action.AfterNewVersion point.NewVersion newversion_what _ (is_newversion place));
  recurs = tt;
}

pub delete_good : (place : Place) → GoodKind place point.Delete
delete_good place = record {
  tokens = spell place kind.Word (codes "before") ∷ spell place kind.Word (codes "delete") ∷ [];
  spells = words_spell place (codes "before") (codes "delete") _ refl (word_spells place (codes "delete") refl);
  prints = kind_prints terminal.Before (item.Part part.BeforeWhat) before_begins point.Delete _ _ (is_before place)
      (word_tail part.BeforeWhat terminal.Delete action.BeforeDelete point.Delete delete_what _ (is_delete place));
  recurs = tt;
}

pub tcomplete_good : (place : Place) → GoodKind place point.TComplete
tcomplete_good place = record {
  tokens = spell place kind.Word (codes "before") ∷ spell place kind.Word (codes "tcomplete") ∷ [];
  spells = words_spell place (codes "before") (codes "tcomplete") _ refl (word_spells place (codes "tcomplete") refl);
  prints = kind_prints terminal.Before (item.Part part.BeforeWhat) before_begins point.TComplete _ _ (is_before place)
      (word_tail part.BeforeWhat terminal.TComplete action.BeforeTComplete point.TComplete tcomplete_what _ (is_tcomplete place));
  recurs = tt;
}

pub delversion_good : (place : Place) → GoodKind place point.DropVersion
delversion_good place = record {
  tokens = spell place kind.Word (codes "before") ∷ spell place kind.Word (codes "delversion") ∷ [];
  spells = words_spell place (codes "before") (codes "delversion") _ refl (word_spells place (codes "delversion") refl);
  prints = kind_prints terminal.Before (item.Part part.BeforeWhat) before_begins point.DropVersion _ _ (is_before place)
      (word_tail part.BeforeWhat terminal.DropVersion action.BeforeDropVersion point.DropVersion delversion_what _ (is_delversion place));
  recurs = tt;
}

pub after_method_good : (place : Place) (name : List ℕ) → is_free name ≡ true → GoodKind place (point.After name)
after_method_good place name h = record {
  tokens = spell place kind.Word (codes "after") ∷ spell place kind.Word name ∷ [];
  spells = words_spell place (codes "after") name _ refl (word_spells place name (free_word name h));
  prints = kind_prints terminal.After (item.Part part.AfterWhat) after_begins (point.After name) _ _ (is_after place)
      (named_tail part.AfterWhat action.AfterMethod point.After after_method name _ (named place name h));
  recurs = tt;
}

pub before_method_good : (place : Place) (name : List ℕ) → is_free name ≡ true → GoodKind place (point.Before name)
before_method_good place name h = record {
  tokens = spell place kind.Word (codes "before") ∷ spell place kind.Word name ∷ [];
  spells = words_spell place (codes "before") name _ refl (word_spells place name (free_word name h));
  prints = kind_prints terminal.Before (item.Part part.BeforeWhat) before_begins (point.Before name) _ _ (is_before place)
      (named_tail part.BeforeWhat action.BeforeMethod point.Before before_method name _ (named place name h));
  recurs = tt;
}

-- the instants that leaves say are good kinds
abbrev pub GoodInstants : Place → Type 0
GoodInstants place = (x : Expr) → GoodKind place (point.TimeAt (second_of x))

period_terminal : (n : ℕ) → 0 < n → n < 2 ^ 32 → (number_terminal (pos n) ≡ terminal.Count) ⊎ (number_terminal (pos n) ≡ terminal.Seconds)
period_terminal n some small = cases (nat_le n choose_limit) refl (not_number n some small)
  where
    not_number : (n : ℕ) → 0 < n → n < 2 ^ 32 → number_terminal (pos n) ≡ cond (nat_le n choose_limit) terminal.Count terminal.Seconds
    not_number n some small = grind (arith, nat_tests)

    cases : (c : Bool) → nat_le n choose_limit ≡ c → number_terminal (pos n) ≡ cond (nat_le n choose_limit) terminal.Count terminal.Seconds
        → (number_terminal (pos n) ≡ terminal.Count) ⊎ (number_terminal (pos n) ≡ terminal.Seconds)
    cases true e f = inl (f ∙ ap (λ c. cond c terminal.Count terminal.Seconds) e)
    cases false e f = inr (f ∙ ap (λ c. cond c terminal.Count terminal.Seconds) e)

period_row : (k : Terminal) → (k ≡ terminal.Count) ⊎ (k ≡ terminal.Seconds) → after part.Period k ≡ Some (item.Build action.TimeEvery ∷ [])
unfolding row_of
period_row k (inl e) = ap (after part.Period) e
period_row k (inr e) = ap (after part.Period) e

period_kept : (k : Terminal) (n : ℕ) (bytes : List ℕ) (v : Trees) → (k ≡ terminal.Count) ⊎ (k ≡ terminal.Seconds)
    → kept_as (as_name k) (kind.Number (pos n)) bytes v ≡ record v { leaves = number_leaf n ∷ v.leaves }
unfolding kept_as
period_kept k n bytes v (inl e) = ap (λ j. kept_as (as_name j) (kind.Number (pos n)) bytes v) e
period_kept k n bytes v (inr e) = ap (λ j. kept_as (as_name j) (kind.Number (pos n)) bytes v) e

a_period : (place : Place) (n : ℕ) → 0 < n → n < 2 ^ 32 → IsPeriod (spell place (kind.Number (pos n)) (digits_of n)) n
a_period place n some small =
    let seen = period_terminal n some small in
    record {
      leaf = number_leaf n;
      row = period_row (number_terminal (pos n)) seen;
      adds = λ b. ap (λ v. record { trees = v; heights = b.heights }) (period_kept (number_terminal (pos n)) n (digits_of n) b.trees seen);
      says = small_count n small;
    }

pub time_every_good : (place : Place) (n : ℕ) → 0 < n → n < 2 ^ 32 → GoodKind place (point.TimeEvery n)
time_every_good place n some small = record {
  tokens = spell place kind.Word (codes "time") ∷ spell place kind.Word (codes "every") ∷ spell place (kind.Number (pos n)) (digits_of n) ∷ [];
  spells = words_spell place (codes "time") (codes "every " ++ digits_of n) _ refl (words_spell place (codes "every") (digits_of n) _ refl (number_spells place n (omega arith)));
  prints = kind_prints terminal.Time (item.Part part.TimeWhat) time_begins (point.TimeEvery n) _ _ (is_time place) (every_tail n _ _ (is_every place) (a_period place n some small));
  recurs = omega (arith, some);
}

-- ---- event expressions

pub record GoodEvent (place : Place) (e : EventExpr) (h : Height) : Type 0 where
  pub text : List ℕ
  pub is_operator : Bool
  pub shown : printed_event e ≡ shown_as text is_operator
  pub low : Height
  pub tokens : List Spelled
  pub spells : Spells place text tokens
  pub prints : EventPrints e is_operator low tokens
  pub no_higher : low.own ≤ h.own
  pub in_brackets : in_pair low ≤ in_pair h
  pub numbers : IsNumbered e

pub event_up : (place : Place) (e : EventExpr) (h k : Height) → h.own ≤ k.own → in_pair h ≤ in_pair k → GoodEvent place e h → GoodEvent place e k
event_up place e h k l l2 g = let m = g.no_higher in record {
  text = g.text;
  is_operator = g.is_operator;
  shown = g.shown;
  low = g.low;
  tokens = g.tokens;
  spells = g.spells;
  prints = g.prints;
  no_higher = omega arith;
  in_brackets = le_trans g.in_brackets l2;
  numbers = g.numbers;
}

pub plain_good : (place : Place) (k : Kind) → GoodKind place k → GoodEvent place (event.Leaf k None) leaf
plain_good place k g = record {
  text = kind_text k;
  is_operator = false;
  shown = event-Leaf k ∙ ap (λ t. shown_as t false) (append-nil (kind_text k));
  low = leaf;
  tokens = g.tokens;
  spells = g.spells;
  prints = leaf_prints k g.tokens g.prints;
  no_higher = omega arith;
  in_brackets = omega arith;
  numbers = leaf_numbered k None;
}

pub masked_good : (place : Place) (k : Kind) (x : Expr) (h : Height) → GoodKind place k → Good place x h → GoodEvent place (event.Leaf k (Some x)) (above (max 1 h.own))
masked_good place k x h g r = let m = r.no_higher in record {
  text = kind_text k ++ (codes " && " ++ cond r.is_operator (codes "(" ++ r.text ++ codes ")") r.text);
  is_operator = false;
  shown = event-masked k x (shown_as r.text r.is_operator) r.shown;
  low = above (max 1 r.low.own);
  tokens = g.tokens ++ marked mark.AndAnd ∷ as_operand r.is_operator r.tokens;
  spells = mask_spells place (kind_text k) _ g.tokens _ g.spells (operand_spells place r.is_operator r.text r.tokens r.spells);
  prints = masked_prints k g.tokens x r.is_operator r.low r.tokens g.prints r.prints;
  no_higher = omega arith;
  in_brackets = omega arith;
  numbers = leaf_numbered k (Some x);
}

event-Any : printed_event event.Any ≡ shown_as (codes "any") false
unfolding printed_event
event-Any = ap printed_event (sym event.rolls-Any) ∙ fold-roll-EventExpr Printed printed_event_of shape.Any

event-First : printed_event event.First ≡ shown_as (codes "first") false
unfolding printed_event
event-First = ap printed_event (sym event.rolls-First) ∙ fold-roll-EventExpr Printed printed_event_of shape.First

pub any_good : (place : Place) → GoodEvent place event.Any leaf
any_good place = record {
  text = codes "any";
  is_operator = false;
  shown = event-Any;
  low = leaf;
  tokens = spell place kind.Word (codes "any") ∷ [];
  spells = word_spells place (codes "any") refl;
  prints = any_prints _ (is_any place);
  no_higher = omega arith;
  in_brackets = omega arith;
  numbers = any_numbered;
}

pub first_good : (place : Place) → GoodEvent place event.First leaf
first_good place = record {
  text = codes "first";
  is_operator = false;
  shown = event-First;
  low = leaf;
  tokens = spell place kind.Word (codes "first") ∷ [];
  spells = word_spells place (codes "first") refl;
  prints = first_prints _ (is_first place);
  no_higher = omega arith;
  in_brackets = omega arith;
  numbers = first_numbered;
}

event-Not : (x : EventExpr) (p : Printed) → printed_event x ≡ p → printed_event (event.Not x) ≡ printed_event_of (shape.Not p)
unfolding printed_event
event-Not x p is = ap printed_event (sym (event.rolls-Not x)) ∙ (fold-roll-EventExpr Printed printed_event_of (shape.Not x) ∙ ap (λ q. printed_event_of (shape.Not q)) is)

pub not_good : (place : Place) (e : EventExpr) (h : Height) → GoodEvent place e h → GoodEvent place (event.Not e) (above h.own)
not_good place e h g = let m = g.no_higher in record {
  text = codes "!" ++ cond g.is_operator (codes "(" ++ g.text ++ codes ")") g.text;
  is_operator = true;
  shown = event-Not e (shown_as g.text g.is_operator) g.shown;
  low = above g.low.own;
  tokens = marked mark.Not ∷ as_operand g.is_operator g.tokens;
  spells = not_spells place _ _ (operand_spells place g.is_operator g.text g.tokens g.spells);
  prints = not_prints e g.is_operator g.low g.tokens g.prints;
  no_higher = omega arith;
  in_brackets = omega arith;
  numbers = not_numbered e g.numbers;
}

pub and_good : (place : Place) (e f : EventExpr) (h k : Height) → GoodEvent place e h → GoodEvent place f k → GoodEvent place (event.And e f) (above (max h.own k.own))
and_good place e f h k g r = let m = g.no_higher in let n = r.no_higher in record {
  text = cond g.is_operator (codes "(" ++ g.text ++ codes ")") g.text ++ codes " and " ++ cond r.is_operator (codes "(" ++ r.text ++ codes ")") r.text;
  is_operator = true;
  shown = event-And e f (shown_as g.text g.is_operator) (shown_as r.text r.is_operator) g.shown r.shown;
  low = above (max g.low.own r.low.own);
  tokens = as_operand g.is_operator g.tokens ++ spell place kind.Word (codes "and") ∷ as_operand r.is_operator r.tokens;
  spells = between_spells place (codes "and") _ _ _ _ refl (operand_spells place g.is_operator g.text g.tokens g.spells) (operand_spells place r.is_operator r.text r.tokens r.spells);
  prints = and_prints e f g.is_operator r.is_operator g.low r.low g.tokens r.tokens _ (is_and place) g.prints r.prints;
  no_higher = omega arith;
  in_brackets = omega arith;
  numbers = and_numbered e f g.numbers r.numbers;
}

pub or_good : (place : Place) (e f : EventExpr) (h k : Height) → GoodEvent place e h → GoodEvent place f k → GoodEvent place (event.Or e f) (above (max h.own k.own))
or_good place e f h k g r = let m = g.no_higher in let n = r.no_higher in record {
  text = cond g.is_operator (codes "(" ++ g.text ++ codes ")") g.text ++ codes " or " ++ cond r.is_operator (codes "(" ++ r.text ++ codes ")") r.text;
  is_operator = true;
  shown = event-Or e f (shown_as g.text g.is_operator) (shown_as r.text r.is_operator) g.shown r.shown;
  low = above (max g.low.own r.low.own);
  tokens = as_operand g.is_operator g.tokens ++ spell place kind.Word (codes "or") ∷ as_operand r.is_operator r.tokens;
  spells = between_spells place (codes "or") _ _ _ _ refl (operand_spells place g.is_operator g.text g.tokens g.spells) (operand_spells place r.is_operator r.text r.tokens r.spells);
  prints = or_prints e f g.is_operator r.is_operator g.low r.low g.tokens r.tokens _ (is_or place) g.prints r.prints;
  no_higher = omega arith;
  in_brackets = omega arith;
  numbers = or_numbered e f g.numbers r.numbers;
}

event-Relative : (x y : EventExpr) (p q : Printed) → printed_event x ≡ p → printed_event y ≡ q → printed_event (event.Relative x y) ≡ printed_event_of (shape.Relative p q)
unfolding printed_event
event-Relative x y p q is are =
    ap printed_event (sym (event.rolls-Relative x y)) ∙ (fold-roll-EventExpr Printed printed_event_of (shape.Relative x y) ∙ (λ i. printed_event_of (shape.Relative (is i) (are i))))

pub relative_good : (place : Place) (e f : EventExpr) (h k : Height) → GoodEvent place e h → GoodEvent place f k → GoodEvent place (event.Relative e f) (above (max h.own k.own))
relative_good place e f h k g r = let m = g.no_higher in let n = r.no_higher in record {
  text = codes "relative" ++ (codes "(" ++ (g.text ++ codes ", " ++ r.text) ++ codes ")");
  is_operator = false;
  shown = event-Relative e f (shown_as g.text g.is_operator) (shown_as r.text r.is_operator) g.shown r.shown;
  low = above (max g.low.own r.low.own);
  tokens = spell place kind.Word (codes "relative") ∷ bracketed (g.tokens ++ marked mark.Comma ∷ r.tokens);
  spells = call_spells place (codes "relative") _ _ refl (comma_spells place g.text r.text g.tokens r.tokens g.spells r.spells);
  prints = folded_prints terminal.Relative action.Relative (item.Part part.MoreRelative) event.Relative relative_folds e f g.is_operator r.is_operator g.low r.low g.tokens r.tokens _
      (is_relative place) g.prints r.prints;
  no_higher = omega arith;
  in_brackets = omega arith;
  numbers = relative_numbered e f g.numbers r.numbers;
}

event-Prior : (x y : EventExpr) (p q : Printed) → printed_event x ≡ p → printed_event y ≡ q → printed_event (event.Prior x y) ≡ printed_event_of (shape.Prior p q)
unfolding printed_event
event-Prior x y p q is are =
    ap printed_event (sym (event.rolls-Prior x y)) ∙ (fold-roll-EventExpr Printed printed_event_of (shape.Prior x y) ∙ (λ i. printed_event_of (shape.Prior (is i) (are i))))

pub prior_good : (place : Place) (e f : EventExpr) (h k : Height) → GoodEvent place e h → GoodEvent place f k → GoodEvent place (event.Prior e f) (above (max h.own k.own))
prior_good place e f h k g r = let m = g.no_higher in let n = r.no_higher in record {
  text = codes "prior" ++ (codes "(" ++ (g.text ++ codes ", " ++ r.text) ++ codes ")");
  is_operator = false;
  shown = event-Prior e f (shown_as g.text g.is_operator) (shown_as r.text r.is_operator) g.shown r.shown;
  low = above (max g.low.own r.low.own);
  tokens = spell place kind.Word (codes "prior") ∷ bracketed (g.tokens ++ marked mark.Comma ∷ r.tokens);
  spells = call_spells place (codes "prior") _ _ refl (comma_spells place g.text r.text g.tokens r.tokens g.spells r.spells);
  prints = folded_prints terminal.Prior action.Prior (item.Part part.MorePrior) event.Prior prior_folds e f g.is_operator r.is_operator g.low r.low g.tokens r.tokens _
      (is_prior place) g.prints r.prints;
  no_higher = omega arith;
  in_brackets = omega arith;
  numbers = prior_numbered e f g.numbers r.numbers;
}

event-Sequence : (x y : EventExpr) (p q : Printed) → printed_event x ≡ p → printed_event y ≡ q → printed_event (event.Sequence x y) ≡ printed_event_of (shape.Sequence p q)
unfolding printed_event
event-Sequence x y p q is are =
    ap printed_event (sym (event.rolls-Sequence x y)) ∙ (fold-roll-EventExpr Printed printed_event_of (shape.Sequence x y) ∙ (λ i. printed_event_of (shape.Sequence (is i) (are i))))

pub sequence_good : (place : Place) (e f : EventExpr) (h k : Height) → GoodEvent place e h → GoodEvent place f k → GoodEvent place (event.Sequence e f) (above (max h.own k.own))
sequence_good place e f h k g r = let m = g.no_higher in let n = r.no_higher in record {
  text = codes "sequence" ++ (codes "(" ++ (g.text ++ codes ", " ++ r.text) ++ codes ")");
  is_operator = false;
  shown = event-Sequence e f (shown_as g.text g.is_operator) (shown_as r.text r.is_operator) g.shown r.shown;
  low = above (max g.low.own r.low.own);
  tokens = spell place kind.Word (codes "sequence") ∷ bracketed (g.tokens ++ marked mark.Comma ∷ r.tokens);
  spells = call_spells place (codes "sequence") _ _ refl (comma_spells place g.text r.text g.tokens r.tokens g.spells r.spells);
  prints = folded_prints terminal.Sequence action.Sequence (item.Part part.MoreSequence) event.Sequence sequence_folds e f g.is_operator r.is_operator g.low r.low g.tokens r.tokens _
      (is_sequence place) g.prints r.prints;
  no_higher = omega arith;
  in_brackets = omega arith;
  numbers = sequence_numbered e f g.numbers r.numbers;
}

event-Choose : (n : ℕ) (x : EventExpr) (p : Printed) → printed_event x ≡ p → printed_event (event.Choose n x) ≡ printed_event_of (shape.Choose n p)
unfolding printed_event
event-Choose n x p is = ap printed_event (sym (event.rolls-Choose n x)) ∙ (fold-roll-EventExpr Printed printed_event_of (shape.Choose n x) ∙ ap (λ q. printed_event_of (shape.Choose n q)) is)

pub choose_good : (place : Place) (n : ℕ) (e : EventExpr) (h : Height) → 0 < n → n ≤ choose_limit → GoodEvent place e h → GoodEvent place (event.Choose n e) (above h.own)
choose_good place n e h some small g = let m = g.no_higher in record {
  text = codes "choose " ++ digits_of n ++ codes " " ++ (codes "(" ++ g.text ++ codes ")");
  is_operator = false;
  shown = event-Choose n e (shown_as g.text g.is_operator) g.shown;
  low = above g.low.own;
  tokens = spell place kind.Word (codes "choose") ∷ spell place (kind.Number (pos n)) (digits_of n) ∷ bracketed g.tokens;
  spells = words_spell place (codes "choose") (digits_of n ++ codes " " ++ (codes "(" ++ g.text ++ codes ")")) _ refl (counted_spells place n g.text g.tokens (omega arith) g.spells);
  prints = counted_prints terminal.Choose action.Choose event.Choose choose_counts n e g.is_operator g.low g.tokens _ _ (is_choose place) (a_count place n some small) g.prints;
  no_higher = omega arith;
  in_brackets = omega arith;
  numbers = choose_numbered n e some small g.numbers;
}

event-Every : (n : ℕ) (x : EventExpr) (p : Printed) → printed_event x ≡ p → printed_event (event.Every n x) ≡ printed_event_of (shape.Every n p)
unfolding printed_event
event-Every n x p is = ap printed_event (sym (event.rolls-Every n x)) ∙ (fold-roll-EventExpr Printed printed_event_of (shape.Every n x) ∙ ap (λ q. printed_event_of (shape.Every n q)) is)

pub every_good : (place : Place) (n : ℕ) (e : EventExpr) (h : Height) → 0 < n → n ≤ choose_limit → GoodEvent place e h → GoodEvent place (event.Every n e) (above h.own)
every_good place n e h some small g = let m = g.no_higher in record {
  text = codes "every " ++ digits_of n ++ codes " " ++ (codes "(" ++ g.text ++ codes ")");
  is_operator = false;
  shown = event-Every n e (shown_as g.text g.is_operator) g.shown;
  low = above g.low.own;
  tokens = spell place kind.Word (codes "every") ∷ spell place (kind.Number (pos n)) (digits_of n) ∷ bracketed g.tokens;
  spells = words_spell place (codes "every") (digits_of n ++ codes " " ++ (codes "(" ++ g.text ++ codes ")")) _ refl (counted_spells place n g.text g.tokens (omega arith) g.spells);
  prints = counted_prints terminal.Every action.Every event.Every every_counts n e g.is_operator g.low g.tokens _ _ (is_every place) (a_count place n some small) g.prints;
  no_higher = omega arith;
  in_brackets = omega arith;
  numbers = every_numbered n e some small g.numbers;
}

event-Fa : (x y z : EventExpr) (p q r : Printed) → printed_event x ≡ p → printed_event y ≡ q → printed_event z ≡ r
    → printed_event (event.Fa x y z) ≡ printed_event_of (shape.Fa p q r)
unfolding printed_event
event-Fa x y z p q r is are be =
    ap printed_event (sym (event.rolls-Fa x y z)) ∙ (fold-roll-EventExpr Printed printed_event_of (shape.Fa x y z) ∙ (λ i. printed_event_of (shape.Fa (is i) (are i) (be i))))

pub fa_good : (place : Place) (e f g : EventExpr) (h k l : Height) → GoodEvent place e h → GoodEvent place f k → GoodEvent place g l
    → GoodEvent place (event.Fa e f g) (above (max h.own (max k.own l.own)))
fa_good place e f g h k l x y z = let m = x.no_higher in let n = y.no_higher in let o = z.no_higher in record {
  text = codes "fa" ++ (codes "(" ++ (x.text ++ codes ", " ++ y.text ++ codes ", " ++ z.text) ++ codes ")");
  is_operator = false;
  shown = event-Fa e f g (shown_as x.text x.is_operator) (shown_as y.text y.is_operator) (shown_as z.text z.is_operator) x.shown y.shown z.shown;
  low = above (max x.low.own (max y.low.own z.low.own));
  tokens = spell place kind.Word (codes "fa") ∷ bracketed (x.tokens ++ marked mark.Comma ∷ y.tokens ++ marked mark.Comma ∷ z.tokens);
  spells = call_spells place (codes "fa") _ _ refl
      (comma_spells place (x.text ++ codes ", " ++ y.text) z.text (x.tokens ++ marked mark.Comma ∷ y.tokens) z.tokens (comma_spells place x.text y.text x.tokens y.tokens x.spells y.spells) z.spells);
  prints = fa_prints e f g x.is_operator y.is_operator z.is_operator x.low y.low z.low x.tokens y.tokens z.tokens _ (is_fa place) x.prints y.prints z.prints;
  no_higher = omega arith;
  in_brackets = omega arith;
  numbers = fa_numbered e f g x.numbers y.numbers z.numbers;
}

event-FaAbs : (x y z : EventExpr) (p q r : Printed) → printed_event x ≡ p → printed_event y ≡ q → printed_event z ≡ r
    → printed_event (event.FaAbs x y z) ≡ printed_event_of (shape.FaAbs p q r)
unfolding printed_event
event-FaAbs x y z p q r is are be =
    ap printed_event (sym (event.rolls-FaAbs x y z)) ∙ (fold-roll-EventExpr Printed printed_event_of (shape.FaAbs x y z) ∙ (λ i. printed_event_of (shape.FaAbs (is i) (are i) (be i))))

pub faabs_good : (place : Place) (e f g : EventExpr) (h k l : Height) → GoodEvent place e h → GoodEvent place f k → GoodEvent place g l
    → GoodEvent place (event.FaAbs e f g) (above (max h.own (max k.own l.own)))
faabs_good place e f g h k l x y z = let m = x.no_higher in let n = y.no_higher in let o = z.no_higher in record {
  text = codes "faabs" ++ (codes "(" ++ (x.text ++ codes ", " ++ y.text ++ codes ", " ++ z.text) ++ codes ")");
  is_operator = false;
  shown = event-FaAbs e f g (shown_as x.text x.is_operator) (shown_as y.text y.is_operator) (shown_as z.text z.is_operator) x.shown y.shown z.shown;
  low = above (max x.low.own (max y.low.own z.low.own));
  tokens = spell place kind.Word (codes "faabs") ∷ bracketed (x.tokens ++ marked mark.Comma ∷ y.tokens ++ marked mark.Comma ∷ z.tokens);
  spells = call_spells place (codes "faabs") _ _ refl
      (comma_spells place (x.text ++ codes ", " ++ y.text) z.text (x.tokens ++ marked mark.Comma ∷ y.tokens) z.tokens (comma_spells place x.text y.text x.tokens y.tokens x.spells y.spells) z.spells);
  prints = faabs_prints e f g x.is_operator y.is_operator z.is_operator x.low y.low z.low x.tokens y.tokens z.tokens _ (is_faabs place) x.prints y.prints z.prints;
  no_higher = omega arith;
  in_brackets = omega arith;
  numbers = faabs_numbered e f g x.numbers y.numbers z.numbers;
}

event-RelPlus : (x : EventExpr) (p : Printed) → printed_event x ≡ p → printed_event (event.RelPlus x) ≡ printed_event_of (shape.RelPlus p)
unfolding printed_event
event-RelPlus x p is = ap printed_event (sym (event.rolls-RelPlus x)) ∙ (fold-roll-EventExpr Printed printed_event_of (shape.RelPlus x) ∙ ap (λ q. printed_event_of (shape.RelPlus q)) is)

pub relplus_good : (place : Place) (e : EventExpr) (h : Height) → GoodEvent place e h → GoodEvent place (event.RelPlus e) (above h.own)
relplus_good place e h g = let m = g.no_higher in record {
  text = codes "relplus" ++ (codes "(" ++ g.text ++ codes ")");
  is_operator = false;
  shown = event-RelPlus e (shown_as g.text g.is_operator) g.shown;
  low = above g.low.own;
  tokens = spell place kind.Word (codes "relplus") ∷ bracketed g.tokens;
  spells = call_spells place (codes "relplus") _ _ refl g.spells;
  prints = relplus_prints e g.is_operator g.low g.tokens _ (is_relplus place) g.prints;
  no_higher = omega arith;
  in_brackets = omega arith;
  numbers = relplus_numbered e g.numbers;
}

event-Pipe : (x y : EventExpr) (p q : Printed) → printed_event x ≡ p → printed_event y ≡ q → printed_event (event.Pipe x y) ≡ printed_event_of (shape.Pipe p q)
unfolding printed_event
event-Pipe x y p q is are =
    ap printed_event (sym (event.rolls-Pipe x y)) ∙ (fold-roll-EventExpr Printed printed_event_of (shape.Pipe x y) ∙ (λ i. printed_event_of (shape.Pipe (is i) (are i))))

pub pipe_good : (place : Place) (e f : EventExpr) (h k : Height) → GoodEvent place e h → GoodEvent place f k → GoodEvent place (event.Pipe e f) (above (max h.own k.own))
pipe_good place e f h k g r = let m = g.no_higher in let n = r.no_higher in record {
  text = codes "pipe" ++ (codes "(" ++ (g.text ++ codes ", " ++ r.text) ++ codes ")");
  is_operator = false;
  shown = event-Pipe e f (shown_as g.text g.is_operator) (shown_as r.text r.is_operator) g.shown r.shown;
  low = above (max g.low.own r.low.own);
  tokens = spell place kind.Word (codes "pipe") ∷ bracketed (g.tokens ++ marked mark.Comma ∷ r.tokens);
  spells = call_spells place (codes "pipe") _ _ refl (comma_spells place g.text r.text g.tokens r.tokens g.spells r.spells);
  prints = pipe_prints e f g.is_operator r.is_operator g.low r.low g.tokens r.tokens _ (is_pipe place) g.prints r.prints;
  no_higher = omega arith;
  in_brackets = omega arith;
  numbers = pipe_numbered e f g.numbers r.numbers;
}

event-Masked : (e : EventExpr) (x : Expr) (p q : Printed) → printed_event e ≡ p → printed x ≡ q
    → printed_event (event.Masked e x) ≡ shown_as (in_brackets p.text ++ codes " && " ++ operand q) false
unfolding printed_event
event-Masked e x p q is are =
    ap printed_event (sym (event.rolls-Masked e x))
    ∙ (fold-roll-EventExpr Printed printed_event_of (shape.Masked e x) ∙ (λ i. shown_as (in_brackets (is i).text ++ codes " && " ++ operand (are i)) false))

pub masked_event_good : (place : Place) (e : EventExpr) (h : Height) (x : Expr) (k : Height) → GoodEvent place e h → Good place x k
    → GoodEvent place (event.Masked e x) (above (max (in_pair h) k.own))
masked_event_good place e h x k g r = let m = g.in_brackets in let n = r.no_higher in record {
  text = in_brackets g.text ++ (codes " && " ++ cond r.is_operator (codes "(" ++ r.text ++ codes ")") r.text);
  is_operator = false;
  shown = event-Masked e x (shown_as g.text g.is_operator) (shown_as r.text r.is_operator) g.shown r.shown
      ∙ ap (λ t. shown_as t false) (append_assoc (in_brackets g.text) (codes " && ") (cond r.is_operator (codes "(" ++ r.text ++ codes ")") r.text));
  low = above (max (in_pair g.low) r.low.own);
  tokens = bracketed g.tokens ++ marked mark.AndAnd ∷ as_operand r.is_operator r.tokens;
  spells = mask_spells place (in_brackets g.text) _ (bracketed g.tokens) _ (brackets_spell place g.text g.tokens g.spells)
      (operand_spells place r.is_operator r.text r.tokens r.spells);
  prints = masked_event_prints e g.is_operator g.low g.tokens x r.is_operator r.low r.tokens g.prints r.prints;
  no_higher = omega arith;
  in_brackets = omega arith;
  numbers = masked_numbered e x g.numbers;
}
