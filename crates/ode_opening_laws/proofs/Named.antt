-- The names of classes that are read are names.
use Rattle.std.proofs.Common.{◌≡◌, ℕ, List, [], ◌∷◌, map, codes, Bool, true, false, cond, Option, Some, None, Ok, Err, refl, subst}
use Rattle.std.specs.List.{AllByRecursion}
use Rattle.std.specs.Option.{option_and_then, option_map_or}
use Rattle.ode_value.specs.declared.reason.Refusal.TheVariants as refusal
use Rattle.ode_value.specs.declared.statement.ClassDecl.{ClassDecl}
use Rattle.ode_value.specs.declared.statement.Statement.{Statement}
use Rattle.ode_value.specs.declared.statement.Statement.TheVariants as statement
use Rattle.ode_value.specs.Answers.{Answer, ◌>>=◌}
use Rattle.ode_value.specs.Words.{is_free, reserved}
use Rattle.ode_lex.specs.declared.token.Token.{Token}
use Rattle.ode_lex.specs.declared.token.TokenKind.{TokenKind}
use Rattle.ode_lex.specs.Tokens.{Lexed, lexed, NoToken, Tokens}
use Rattle.ode_grammar.specs.declared.item.Action.{Action}
use Rattle.ode_grammar.specs.declared.item.Action.TheVariants as action
use Rattle.ode_grammar.specs.declared.item.Item.{Item}
use Rattle.ode_grammar.specs.declared.item.Item.TheVariants as item
use Rattle.ode_grammar.specs.declared.reader.Start.{Start}
use Rattle.ode_grammar.specs.declared.reader.Start.TheVariants as start
use Rattle.ode_grammar.specs.declared.terminal.Terminal.{Terminal}
use Rattle.ode_grammar.specs.declared.terminal.Terminal.TheVariants as terminal
use Rattle.ode_grammar.specs.Grammar.{after, items_of, skipped}
use Rattle.ode_grammar.specs.Reading.{by_row, made_after, made_at_end, made_of_skipped, next, run}
use Rattle.ode_grammar.specs.Stacks.{rest, top}
use Rattle.ode_grammar.specs.Terminals.{named as as_name}
use Rattle.ode_heights.specs.Heights.{none}
use Rattle.ode_terminals.specs.declared.seen.Place.{Place}
use Rattle.ode_terminals.specs.Seen.{place_of}
use Rattle.ode_syntax.specs.declared.trees.Trees.{Trees}
use Rattle.ode_syntax.specs.Built.{built, built_class, built_event, built_kind, built_member, built_right_side, built_script, built_statement, declared, script_tree}
use Rattle.ode_syntax.specs.Kept.{Spelled, kept_as, name_of, spelled}
use Rattle.ode_syntax.specs.Trees.{no_trees, trees}
use Rattle.ode_eventsyn.specs.Parsing.{byte_of, seen}
use Rattle.ode_language.specs.Languages.{statement_by, statement_in, statement_of}
use Rattle.ode_language.specs.Reading.{deep_at, is_text, trees_of, wrong_at}

abbrev IsFree : List ℕ → Type 0
IsFree name = is_free name ≡ true

abbrev IsNamedClass : ClassDecl → Type 0
IsNamedClass d = IsFree d.name

abbrev IsNamedScript : Statement → Type 0
IsNamedScript (statement.Class d) = IsNamedClass d
IsNamedScript _ = Unit {0}

-- all names, and those of all classes, are words that aren't reserved
abbrev IsNamed : Trees → Type 0
IsNamed v = AllByRecursion IsFree v.names × AllByRecursion IsNamedClass v.classes × AllByRecursion IsNamedScript v.scripts

all_rest : {X : Type 0} (P : X → Type 0) (xs : List X) → AllByRecursion P xs → AllByRecursion P (rest xs)
all_rest P [] all = tt
all_rest P (x ∷ xs) all = all.1

x_free : is_free (codes "x") ≡ true
unfolding reserved
x_free = refl

free_top : (names : List (List ℕ)) → AllByRecursion IsFree names → IsFree (top (codes "x") names)
free_top [] all = x_free
free_top (n ∷ names) all = all.0

named_declared : (classes : List ClassDecl) → AllByRecursion IsNamedClass classes → IsNamedScript (declared classes)
named_declared [] all = tt
named_declared (c ∷ cs) all = all.0

-- ---- each action

named_script : (a : Action) (v : Trees) → IsNamed v → IsNamed (built_script a v)
unfolding built_script
named_script action.Declare v h = (h.0, all_rest IsNamedClass v.classes h.1, (named_declared v.classes h.1, h.2))
named_script action.Begin v h = (h.0, h.1, (tt, h.2))
named_script action.Commit v h = (h.0, h.1, (tt, h.2))
named_script action.Abort v h = (h.0, h.1, (tt, h.2))
named_script action.Clock v h = (h.0, h.1, (tt, h.2))
named_script action.Simple v h = (h.0, h.1, (tt, h.2))
named_script action.Empty v h = (h.0, h.1, (tt, h.2))
named_script action.Change v h = (all_rest IsFree (rest v.names) (all_rest IsFree v.names h.0), h.1, h.2)
named_script action.Negative v h = (h.0, h.1, h.2)
named_script action.Addition v h = (all_rest IsFree v.names h.0, h.1, h.2)
named_script a v h = h

named_member : (a : Action) (v : Trees) → IsNamed v → IsNamed (built_member a v)
unfolding built_member
named_member action.FieldMember v h = (all_rest IsFree v.names h.0, h.1, h.2)
named_member action.Method v h = (all_rest IsFree v.names h.0, h.1, h.2)
named_member action.Constraint v h = (all_rest IsFree v.names h.0, h.1, h.2)
named_member action.SoftConstraint v h = (all_rest IsFree v.names h.0, h.1, h.2)
named_member action.Events v h = (h.0, h.1, h.2)
named_member action.Trigger v h = (all_rest IsFree v.names h.0, h.1, h.2)
named_member a v h = named_script a v h

named_class : (a : Action) (v : Trees) → IsNamed v → IsNamed (built_class a v)
unfolding built_class
named_class action.RefSort v h = (all_rest IsFree v.names h.0, h.1, h.2)
named_class action.VoidSort v h = (h.0, h.1, h.2)
named_class action.Params v h = (h.0, h.1, h.2)
named_class action.Param v h = (all_rest IsFree v.names h.0, h.1, h.2)
named_class action.Kinds v h = (h.0, h.1, h.2)
named_class action.Listed v h = (h.0, h.1, h.2)
named_class action.Initial v h = (h.0, h.1, h.2)
named_class action.NotInitial v h = (h.0, h.1, h.2)
named_class action.Once v h = (h.0, h.1, h.2)
named_class action.Committed v h = (h.0, h.1, h.2)
named_class action.Immediate v h = (h.0, h.1, h.2)
named_class action.Members v h = (h.0, h.1, h.2)
named_class action.Parent v h = (all_rest IsFree v.names h.0, h.1, h.2)
named_class action.NoParent v h = (h.0, h.1, h.2)
named_class action.Class v h = (all_rest IsFree v.names h.0, (free_top v.names h.0, h.1), h.2)
named_class a v h = named_member a v h

named_kind : (a : Action) (v : Trees) → IsNamed v → IsNamed (built_kind a v)
unfolding built_kind
named_kind action.AfterCreate v h = (h.0, h.1, h.2)
named_kind action.BeforeDelete v h = (h.0, h.1, h.2)
named_kind action.AfterMethod v h = (all_rest IsFree v.names h.0, h.1, h.2)
named_kind action.BeforeMethod v h = (all_rest IsFree v.names h.0, h.1, h.2)
named_kind action.AfterTBegin v h = (h.0, h.1, h.2)
named_kind action.BeforeTComplete v h = (h.0, h.1, h.2)
named_kind action.AfterTCommit v h = (h.0, h.1, h.2)
named_kind action.AfterTAbort v h = (h.0, h.1, h.2)
named_kind action.AfterNewVersion v h = (h.0, h.1, h.2)
named_kind action.BeforeDropVersion v h = (h.0, h.1, h.2)
named_kind action.TimeAt v h = (h.0, h.1, h.2)
named_kind action.TimeEvery v h = (h.0, h.1, h.2)
named_kind a v h = named_class a v h

named_event : (a : Action) (v : Trees) → IsNamed v → IsNamed (built_event a v)
unfolding built_event
named_event action.Any v h = (h.0, h.1, h.2)
named_event action.First v h = (h.0, h.1, h.2)
named_event action.Unmasked v h = (h.0, h.1, h.2)
named_event action.Masked v h = (h.0, h.1, h.2)
named_event action.MaskedEvent v h = (h.0, h.1, h.2)
named_event action.NotEvent v h = (h.0, h.1, h.2)
named_event action.AndEvents v h = (h.0, h.1, h.2)
named_event action.OrEvents v h = (h.0, h.1, h.2)
named_event action.Relative v h = (h.0, h.1, h.2)
named_event action.RelPlus v h = (all_rest IsFree v.names h.0, h.1, h.2)
named_event action.Prior v h = (h.0, h.1, h.2)
named_event action.Sequence v h = (h.0, h.1, h.2)
named_event action.Pipe v h = (all_rest IsFree v.names h.0, h.1, h.2)
named_event action.Choose v h = (h.0, h.1, h.2)
named_event action.Every v h = (h.0, h.1, h.2)
named_event action.Fa v h = (h.0, h.1, h.2)
named_event action.FaAbs v h = (all_rest IsFree v.names h.0, h.1, h.2)
named_event a v h = named_kind a v h

named_statement : (a : Action) (v : Trees) → IsNamed v → IsNamed (built_statement a v)
unfolding built_statement
named_statement action.Body v h = (h.0, h.1, h.2)
named_statement action.Absent v h = (h.0, h.1, h.2)
named_statement action.Append v h = (h.0, h.1, h.2)
named_statement action.Show v h = (h.0, h.1, h.2)
named_statement action.Say v h = (h.0, h.1, h.2)
named_statement action.Delete v h = (h.0, h.1, h.2)
named_statement action.DropVersion v h = (h.0, h.1, h.2)
named_statement action.Deactivate v h = (h.0, h.1, h.2)
named_statement action.Do v h = (h.0, h.1, h.2)
named_statement action.Let v h = (all_rest IsFree v.names h.0, h.1, h.2)
named_statement action.Set v h = (all_rest IsFree v.names h.0, h.1, h.2)
named_statement action.If v h = (h.0, h.1, h.2)
named_statement action.Return v h = (h.0, h.1, h.2)
named_statement action.ReturnNothing v h = (h.0, h.1, h.2)
named_statement action.TAbort v h = (h.0, h.1, h.2)
named_statement a v h = named_event a v h

named_right_side : (a : Action) (v : Trees) → IsNamed v → IsNamed (built_right_side a v)
unfolding built_right_side
named_right_side action.Arguments v h = (h.0, h.1, h.2)
named_right_side action.Argument v h = (h.0, h.1, h.2)
named_right_side action.DropWord v h = (all_rest IsFree v.names h.0, h.1, h.2)
named_right_side action.Sets v h = (h.0, h.1, h.2)
named_right_side action.AddSet v h = (all_rest IsFree v.names h.0, h.1, h.2)
named_right_side action.Call v h = (all_rest IsFree v.names h.0, h.1, h.2)
named_right_side action.OwnCall v h = (all_rest IsFree v.names h.0, h.1, h.2)
named_right_side action.New v h = (all_rest IsFree v.names h.0, h.1, h.2)
named_right_side action.NewVersion v h = (h.0, h.1, h.2)
named_right_side action.Activate v h = (all_rest IsFree v.names h.0, h.1, h.2)
named_right_side action.Plain v h = (h.0, h.1, h.2)
named_right_side a v h = named_statement a v h

pub named_built : (a : Action) (v : Trees) → IsNamed v → IsNamed (built a v)
unfolding built
named_built action.Leaf v h = (h.0, h.1, h.2)
named_built action.Variable v h = (all_rest IsFree v.names h.0, h.1, h.2)
named_built action.Field v h = (all_rest IsFree v.names h.0, h.1, h.2)
named_built action.Version v h = (h.0, h.1, h.2)
named_built action.Sign v h = (h.0, h.1, h.2)
named_built action.Binary v h = (h.0, h.1, h.2)
named_built a v h = named_right_side a v h

-- ---- each token

free_of : (word : List ℕ) (b : Bool) → is_free word ≡ b → IsFree (cond b word (codes "x"))
free_of word true is = is
free_of word false is = x_free

name_free : (word : List ℕ) → IsFree (name_of word)
name_free word = free_of word (is_free word) refl

named_kept : (t : Terminal) (k : TokenKind) (bytes : List ℕ) (v : Trees) → IsNamed v → IsNamed (kept_as t k bytes v)
unfolding kept_as
named_kept terminal.Name k bytes v h = ((name_free bytes, h.0), h.1, h.2)
named_kept terminal.Leaf k bytes v h = (h.0, h.1, h.2)
named_kept terminal.Number k bytes v h = (h.0, h.1, h.2)
named_kept terminal.Seconds k bytes v h = (h.0, h.1, h.2)
named_kept terminal.Count k bytes v h = (h.0, h.1, h.2)
named_kept terminal.Text k bytes v h = (h.0, h.1, h.2)
named_kept terminal.Instant k bytes v h = (h.0, h.1, h.2)
named_kept terminal.Not k bytes v h = (h.0, h.1, h.2)
named_kept terminal.Minus k bytes v h = (h.0, h.1, h.2)
named_kept terminal.Plus k bytes v h = (h.0, h.1, h.2)
named_kept terminal.Times k bytes v h = (h.0, h.1, h.2)
named_kept terminal.Compares k bytes v h = (h.0, h.1, h.2)
named_kept terminal.AndAnd k bytes v h = (h.0, h.1, h.2)
named_kept terminal.OrOr k bytes v h = (h.0, h.1, h.2)
named_kept terminal.SortWord k bytes v h = (h.0, h.1, h.2)
named_kept terminal.Lasting k bytes v h = (h.0, h.1, h.2)
named_kept terminal.Scope k bytes v h = (h.0, h.1, h.2)
named_kept terminal.Mode k bytes v h = (h.0, h.1, h.2)
named_kept _ k bytes v h = h

-- ---- a whole text

named_skipped : (a : Option Action) (v : Trees) → IsNamed v → IsNamed (made_of_skipped trees a v)
named_skipped None v h = h
named_skipped (Some a) v h = named_built a v h

named_after : (items : List Item) (v : Trees) (t : Spelled) → IsNamed v → IsNamed (made_after trees items v t)
named_after [] v t h = h
named_after (item.Token k ∷ items) v t h = named_kept (as_name t.terminal) t.kind t.bytes v h
named_after (item.Build a ∷ items) v t h = named_after items (trees.make a v) t (named_built a v h)
named_after (item.Part p ∷ items) v t h = by_rows (after p t.terminal) (skipped p) (named_after items (made_of_skipped trees (skipped p) v) t (named_skipped (skipped p) v h)) where
  by_rows : (row : Option (List Item)) (skip : Option Action) → IsNamed (made_after trees items (made_of_skipped trees (skipped p) v) t)
      → IsNamed (by_row (λ (items : List Item). trees.keep t v) (made_after trees items (made_of_skipped trees (skipped p) v) t) v row skip)
  by_rows (Some row) skip past = named_kept (as_name t.terminal) t.kind t.bytes v h
  by_rows None (Some a) past = past
  by_rows None None past = h

named_end : (items : List Item) (v : Trees) → IsNamed v → IsNamed (made_at_end trees items v)
named_end [] v h = h
named_end (item.Token k ∷ items) v h = h
named_end (item.Build a ∷ items) v h = named_end items (trees.make a v) (named_built a v h)
named_end (item.Part p ∷ items) v h = named_end items (made_of_skipped trees (skipped p) v) (named_skipped (skipped p) v h)

abbrev NamedRun : Option (List Item × Trees) → Type 0
NamedRun None = Unit {0}
NamedRun (Some r) = IsNamed r.1

named_run : (items : List Item) (v : Trees) (ts : List Spelled) → IsNamed v → NamedRun (run trees items v ts)
named_run items v [] h = h
named_run items v (t ∷ ts) h = by_next (next items t.terminal) (λ more. named_run more (made_after trees items v t) ts (named_after items v t h)) where
  by_next : (o : Option (List Item)) → ((more : List Item) → NamedRun (run trees more (made_after trees items v t) ts)) → NamedRun (option_and_then (λ more. run trees more (made_after trees items v t) ts) o)
  by_next None past = tt
  by_next (Some more) past = past more

named_read : (start : Start) (ts : List Spelled) → IsNamed (trees_of start ts)
named_read start ts = by_run (run trees (items_of start) no_trees ts) (named_run (items_of start) no_trees ts (tt, tt, tt)) where
  by_run : (o : Option (List Item × Trees)) → NamedRun o → IsNamed (option_map_or (λ (r : List Item × Trees). made_at_end trees r.0 r.1) o no_trees)
  by_run None named = (tt, tt, tt)
  by_run (Some r) named = named_end r.0 r.1 named

-- ---- a piece

named_top : (scripts : List Statement) → AllByRecursion IsNamedScript scripts → IsNamedScript (script_tree scripts)
named_top [] all = tt
named_top (s ∷ scripts) all = all.0

abbrev NamedAnswer : Answer Statement → Type 0
NamedAnswer (Ok s) = IsNamedScript s
NamedAnswer (Err refusal) = Unit {0}

named_in : (text : List ℕ) (tokens : List Token) → NamedAnswer (statement_in text tokens)
named_in text tokens = by_text (is_text start.Statement (seen place text tokens)) (deep_at (items_of start.Statement) none (seen place text tokens)) where
  place : Place
  place = place_of text tokens

  made : Trees
  made = trees_of start.Statement (map (spelled place text) tokens)

  made_named : IsNamed made
  made_named = named_read start.Statement (map (spelled place text) tokens)

  by_text : (b : Bool) (deep : Option ℕ)
      → NamedAnswer (cond b (option_map_or (λ i. Err (refusal.TooDeep (byte_of text tokens i))) deep (Ok made)) (Err (refusal.Syntax (byte_of text tokens (wrong_at (items_of start.Statement) (seen place text tokens))))) >>= (λ (m : Trees). Ok (script_tree m.scripts)))
  by_text true None = named_top made.scripts made_named.2
  by_text true (Some i) = tt
  by_text false deep = tt

named_of : (text : List ℕ) → NamedAnswer (statement_of text)
named_of text = by_lexed (lexed text) where
  by_lexed : (l : Lexed) → NamedAnswer (statement_by text l)
  by_lexed (NoToken at) = tt
  by_lexed (Tokens tokens) = named_in text tokens

pub class_is_named : (text : List ℕ) (d : ClassDecl) → statement_of text ≡ Ok (statement.Class d) → is_free d.name ≡ true
class_is_named text d is = subst NamedAnswer is (named_of text)
