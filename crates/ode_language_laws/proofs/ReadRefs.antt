-- The literals of a statement that is read are references.
use Rattle.std.proofs.Common.{◌≡◌, ℕ, List, [], ◌∷◌, map, Bool, true, false, cond, Option, Some, None, Ok, Err, refl, subst}
use Rattle.std.specs.List.{AllByRecursion}
use Rattle.std.specs.Option.{option_and_then, option_map_or}
use Rattle.ode_value.specs.declared.reason.Refusal.TheVariants as refusal
use Rattle.ode_value.specs.declared.statement.Statement.{Statement}
use Rattle.ode_value.specs.declared.statement.Statement.TheVariants as statement
use Rattle.ode_value.specs.declared.statement.Stmt.{Stmt}
use Rattle.ode_value.specs.Answers.{Answer, ◌>>=◌}
use Rattle.ode_lex.specs.declared.token.Token.{Token}
use Rattle.ode_lex.specs.Tokens.{Lexed, lexed, NoToken, Tokens}
use Rattle.ode_grammar.specs.declared.item.Action.{Action}
use Rattle.ode_grammar.specs.declared.item.Item.{Item}
use Rattle.ode_grammar.specs.declared.item.Item.TheVariants as item
use Rattle.ode_grammar.specs.declared.reader.Start.{Start}
use Rattle.ode_grammar.specs.declared.reader.Start.TheVariants as start
use Rattle.ode_grammar.specs.Grammar.{after, items_of, skipped}
use Rattle.ode_grammar.specs.Terminals.{named}
use Rattle.ode_grammar.specs.Reading.{by_row, made_after, made_at_end, made_of_skipped, next, run}
use Rattle.ode_heights.specs.Heights.{none}
use Rattle.ode_terminals.specs.declared.seen.Place.{Place}
use Rattle.ode_terminals.specs.Seen.{place_of}
use Rattle.ode_syntax.specs.declared.trees.Trees.{Trees}
use Rattle.ode_syntax.specs.Built.{script_tree}
use Rattle.ode_syntax.specs.Kept.{Spelled, spelled}
use Rattle.ode_syntax.specs.Trees.{no_trees, trees}
use Rattle.ode_eventsyn.specs.Parsing.{byte_of, seen}
use Rattle.ode_types.specs.Literals.{literals}
use Rattle.ode_value.specs.References.{IsRef}
use Rattle.ode_reread.proofs.Sounds.{Sound, Sounds, text_sounds}
use Rattle.ode_language.specs.Languages.{statement_by, statement_in, statement_of}
use Rattle.ode_language.specs.Reading.{deep_at, is_text, trees_of, wrong_at}
use Rattle.ode_language_laws.proofs.Clean.{CleanScript, IsClean, keep_clean, make_clean}

-- ---- a whole text

no_trees_clean : IsClean no_trees
no_trees_clean = record { leaves_are = tt; exprs_are = tt; args_are = tt; sets_are = tt; rights_are = tt; statements_are = tt; bodies_are = tt; scripts_are = tt }

skipped_clean : (a : Option Action) (v : Trees) → IsClean v → IsClean (made_of_skipped trees a v)
skipped_clean None v h = h
skipped_clean (Some a) v h = make_clean a v h

module _ (place : Place) where
  after_clean : (items : List Item) (v : Trees) (t : Spelled) → Sound place t → IsClean v → IsClean (made_after trees items v t)
  after_clean [] v t sound h = h
  after_clean (item.Token k ∷ items) v t sound h = keep_clean (named t.terminal) t.kind sound.says t.bytes v h
  after_clean (item.Build a ∷ items) v t sound h = after_clean items (trees.make a v) t sound (make_clean a v h)
  after_clean (item.Part p ∷ items) v t sound h = by_rows (after p t.terminal) (skipped p) (after_clean items (made_of_skipped trees (skipped p) v) t sound (skipped_clean (skipped p) v h)) where
    by_rows : (row : Option (List Item)) (skip : Option Action) → IsClean (made_after trees items (made_of_skipped trees (skipped p) v) t)
        → IsClean (by_row (λ (items : List Item). trees.keep t v) (made_after trees items (made_of_skipped trees (skipped p) v) t) v row skip)
    by_rows (Some row) skip past = keep_clean (named t.terminal) t.kind sound.says t.bytes v h
    by_rows None (Some a) past = past
    by_rows None None past = h

  end_clean : (items : List Item) (v : Trees) → IsClean v → IsClean (made_at_end trees items v)
  end_clean [] v h = h
  end_clean (item.Token k ∷ items) v h = h
  end_clean (item.Build a ∷ items) v h = end_clean items (trees.make a v) (make_clean a v h)
  end_clean (item.Part p ∷ items) v h = end_clean items (made_of_skipped trees (skipped p) v) (skipped_clean (skipped p) v h)

  abbrev CleanRun : Option (List Item × Trees) → Type 0
  CleanRun None = Unit {0}
  CleanRun (Some r) = IsClean r.1

  run_clean : (items : List Item) (v : Trees) (ts : List Spelled) → Sounds place ts → IsClean v → CleanRun (run trees items v ts)
  run_clean items v [] sounds h = h
  run_clean items v (t ∷ ts) sounds h = by_next (next items t.terminal) (λ more. run_clean more (made_after trees items v t) ts sounds.1 (after_clean items v t sounds.0 h)) where
    by_next : (o : Option (List Item)) → ((more : List Item) → CleanRun (run trees more (made_after trees items v t) ts)) → CleanRun (option_and_then (λ more. run trees more (made_after trees items v t) ts) o)
    by_next None past = tt
    by_next (Some more) past = past more

  read_clean : (start : Start) (ts : List Spelled) → Sounds place ts → IsClean (trees_of start ts)
  read_clean start ts sounds = by_run (run trees (items_of start) no_trees ts) (run_clean (items_of start) no_trees ts sounds no_trees_clean) where
    by_run : (o : Option (List Item × Trees)) → CleanRun o → IsClean (option_map_or (λ (r : List Item × Trees). made_at_end trees r.0 r.1) o no_trees)
    by_run None clean = no_trees_clean
    by_run (Some r) clean = end_clean r.0 r.1 clean

-- ---- a piece

top_script : (v : Trees) → IsClean v → CleanScript (script_tree v.scripts)
top_script v h = by_stack v.scripts h.scripts_are where
  by_stack : (scripts : List Statement) → AllByRecursion CleanScript scripts → CleanScript (script_tree scripts)
  by_stack [] all = tt
  by_stack (s ∷ scripts) all = all.0

abbrev CleanAnswer : Answer Statement → Type 0
CleanAnswer (Ok s) = CleanScript s
CleanAnswer (Err refusal) = Unit {0}

in_clean : (text : List ℕ) (tokens : List Token) → lexed text ≡ Tokens tokens → CleanAnswer (statement_in text tokens)
in_clean text tokens is = by_text (is_text start.Statement (seen place text tokens)) (deep_at (items_of start.Statement) none (seen place text tokens)) where
  place : Place
  place = place_of text tokens

  made : Trees
  made = trees_of start.Statement (map (spelled place text) tokens)

  made_clean : IsClean made
  made_clean = read_clean place start.Statement (map (spelled place text) tokens) (text_sounds place text tokens is)

  by_text : (b : Bool) (deep : Option ℕ)
      → CleanAnswer (cond b (option_map_or (λ i. Err (refusal.TooDeep (byte_of text tokens i))) deep (Ok made)) (Err (refusal.Syntax (byte_of text tokens (wrong_at (items_of start.Statement) (seen place text tokens))))) >>= (λ (m : Trees). Ok (script_tree m.scripts)))
  by_text true None = top_script made made_clean
  by_text true (Some i) = tt
  by_text false deep = tt

clean_of : (text : List ℕ) → CleanAnswer (statement_of text)
clean_of text = by_lexed (lexed text) refl where
  by_lexed : (l : Lexed) → lexed text ≡ l → CleanAnswer (statement_by text l)
  by_lexed (NoToken at) is = tt
  by_lexed (Tokens tokens) is = in_clean text tokens is

pub literals_are : (text : List ℕ) (s : Stmt) → statement_of text ≡ Ok (statement.Simple s) → AllByRecursion IsRef (literals s)
literals_are text s is = subst CleanAnswer is (clean_of text)
