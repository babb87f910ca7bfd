-- What was read: the tokens, their trees, and their height.
use Rattle.std.proofs.Common.{◌≡◌, ◌≤◌, ℕ, suc, List, [], ◌∷◌, map, Bool, true, false, cond, nat_lt, Option, Some, None, Ok, Err, arith, refl, sym, ◌∙◌, ap, subst}
use Rattle.std.specs.Option.{option_and_then, option_map, option_map_or}
use Rattle.std.proofs.lemmas.Bool.Decides.{nat_tests}
use Rattle.std.proofs.lemmas.Bool.{false≢true}
use Rattle.std.proofs.lemmas.List.{append-nil}
use Rattle.std.proofs.lemmas.Option.{none-some, same_Some}
use Rattle.std.proofs.lemmas.Simd.{map-map}
use Rattle.ode_value.specs.Answers.{Answer, ◌>>=◌}
use Rattle.ode_value.specs.declared.change.Change.{Change}
use Rattle.ode_value.specs.declared.reason.Refusal.TheVariants as refusal
use Rattle.ode_value.specs.declared.statement.Statement.{Statement}
use Rattle.ode_lex.specs.Tokens.{Lexed, lexed, NoToken, Tokens}
use Rattle.ode_lex.specs.declared.token.Token.{Token}
use Rattle.ode_grammar.specs.declared.item.Item.{Item}
use Rattle.ode_grammar.specs.declared.reader.Start.{Start}
use Rattle.ode_grammar.specs.declared.reader.Start.TheVariants as start
use Rattle.ode_grammar.specs.declared.terminal.Terminal.{Terminal}
use Rattle.ode_grammar.specs.Grammar.{items_of}
use Rattle.ode_grammar.specs.Reading.{made_after, made_at_end, may_stop, next, reached, run}
use Rattle.ode_grammar.specs.Texts.{Derives, IsText, plain}
use Rattle.ode_grammar.proofs.Places.{map_same}
use Rattle.ode_grammar.proofs.Runs.{reached_runs, run_derives, stop_derives}
use Rattle.ode_heights.specs.declared.height.Heights.{Heights}
use Rattle.ode_heights.specs.declared.height.TheConstants.{HEIGHT_LIMIT}
use Rattle.ode_heights.specs.Heights.{heights, highest, none}
use Rattle.ode_heights.specs.Lowest.{lowest}
use Rattle.ode_heights.proofs.Depths.{starts_reading, text_within}
use Rattle.ode_terminals.specs.declared.seen.Place.{Place}
use Rattle.ode_terminals.specs.declared.seen.Place.TheVariants as place_in
use Rattle.ode_terminals.specs.Seen.{begins_change, place_of}
use Rattle.ode_syntax.specs.declared.trees.Trees.{Trees}
use Rattle.ode_syntax.specs.Built.{change_tree, script_tree}
use Rattle.ode_syntax.specs.Kept.{Spelled, spelled}
use Rattle.ode_syntax.specs.Trees.{Makes, no_trees, trees}
use Rattle.ode_eventsyn.specs.Parsing.{AreTree, byte_of, seen}
use Rattle.ode_language.specs.Languages.{change_by, change_in, change_of, statement_by, statement_of}
use Rattle.ode_language.specs.Reading.{deep_at, is_deep, is_text, read, trees_of, wrong_at}

pub ok_same : {X : Type 0} (x y : X) → ◌≡◌ {A = Answer X} (Ok x) (Ok y) → x ≡ y
ok_same x y e = cc

-- ---- the height

not_above : (n m : ℕ) → nat_lt n m ≡ false → m ≤ n
not_above n m e = grind (arith, nat_tests)

no_suc : (o : Option ℕ) → option_map suc o ≡ None → o ≡ None
no_suc None f = refl
no_suc (Some n) f = absurd (none-some (suc n) (sym f))

not_deep : (is : List Item) (h : Heights) (ts : List Terminal) (b : Bool) → is_deep is h ≡ b → cond b (Some 0) (option_map suc (deep_at is h ts)) ≡ None
    → (highest (lowest is h) ≤ HEIGHT_LIMIT) × (deep_at is h ts ≡ None)
not_deep is h ts true d f = absurd (none-some 0 (sym f))
not_deep is h ts false d f = (not_above HEIGHT_LIMIT (highest (lowest is h)) d, no_suc (deep_at is h ts) f)

within_read : (items : List Item) (h : Heights) (ts : List Terminal) (more : List Item) (made : Heights) → highest (lowest items h) ≤ HEIGHT_LIMIT → deep_at items h ts ≡ None
    → run heights items h ts ≡ Some (more, made) → highest (lowest more made) ≤ HEIGHT_LIMIT
within_read items h [] more made low deep e =
    subst (λ (x : List Item × Heights). highest (lowest x.0 x.1) ≤ HEIGHT_LIMIT) (same_Some (items, h) (more, made) e) low
within_read items h (t ∷ ts) more made low deep e =
    by_next (next items t) deep e (λ is f g k. within_read is (made_after heights items h t) ts more made f g k)
  where
    by_next : (o : Option (List Item))
        → option_and_then (λ is. cond (is_deep is (made_after heights items h t)) (Some 0) (option_map suc (deep_at is (made_after heights items h t) ts))) o ≡ None
        → option_and_then (λ is. run heights is (made_after heights items h t) ts) o ≡ Some (more, made)
        → ((is : List Item) → highest (lowest is (made_after heights items h t)) ≤ HEIGHT_LIMIT → deep_at is (made_after heights items h t) ts ≡ None
        → run heights is (made_after heights items h t) ts ≡ Some (more, made) → highest (lowest more made) ≤ HEIGHT_LIMIT)
        → highest (lowest more made) ≤ HEIGHT_LIMIT
    by_next None f g rest = absurd (none-some (more, made) g)
    by_next (Some is) f g rest =
        let x = not_deep is (made_after heights items h t) ts (is_deep is (made_after heights items h t)) refl f in
        rest is x.0 x.1 g

-- ---- trees

text_is : (s : Start) (ts : List Terminal) (items : List Item) → reached (items_of s) ts ≡ Some items → may_stop items ≡ true → IsText s ts
text_is s ts items h e =
    let r = reached_runs plain (items_of s) tt ts items (ap (reached (items_of s)) (map_same ts) ∙ h) in
    subst (λ us. IsText s us) (append-nil ts) (run_derives plain (items_of s) tt ts items tt [] tt r.runs (stop_derives plain items tt e))

module _ (s : Start) (place : Place) (text : List ℕ) (tokens : List Token) where
  abbrev ks : List Terminal
  ks = seen place text tokens

  abbrev ts : List Spelled
  ts = map (spelled place text) tokens

  same_seen : map trees.seen ts ≡ ks
  same_seen = map-map trees.seen (spelled place text) tokens

  tree_by : (items : List Item) → reached (items_of s) ks ≡ Some items → may_stop items ≡ true → deep_at (items_of s) none ks ≡ None → AreTree s place text tokens (trees_of s ts)
  tree_by items h e deep =
      let r = reached_runs trees (items_of s) no_trees ts items (ap (reached (items_of s)) same_seen ∙ h) in
      let made : trees_of s ts ≡ made_at_end trees items r.made =
      ap (λ (o : Option (List Item × Trees)). option_map_or (λ (x : List Item × Trees). made_at_end trees x.0 x.1) o no_trees) r.runs in
      let d = run_derives trees (items_of s) no_trees ts items r.made [] (made_at_end trees items r.made) r.runs (stop_derives trees items r.made e) in
      let q = reached_runs heights (items_of s) none ks items (ap (reached (items_of s)) (map_same ks) ∙ h) in
      let begins = starts_reading s (items_of s) none refl refl in
      let low = within_read (items_of s) none ks items q.made begins.within deep q.runs in
      record {
        makes = subst (Makes s ts) (sym made) (subst (λ us. Derives trees (items_of s) no_trees us (made_at_end trees items r.made)) (append-nil ts) d);
        within = text_within s ks items q.made q.runs low (text_is s ks items h e);
      }

  by_reached : (o : Option (List Item)) → reached (items_of s) ks ≡ o → option_map_or may_stop o false ≡ true → deep_at (items_of s) none ks ≡ None → AreTree s place text tokens (trees_of s ts)
  by_reached None h e deep = absurd (false≢true e)
  by_reached (Some items) h e deep = tree_by items h e deep

  -- what is read are the trees of the tokens
  pub read_is_tree : (made : Trees) → read s place text tokens ≡ Ok made → AreTree s place text tokens made
  read_is_tree made e = by_text (is_text s ks) refl (deep_at (items_of s) none ks) refl e where
    by_text : (b : Bool) → is_text s ks ≡ b → (o : Option ℕ) → deep_at (items_of s) none ks ≡ o
        → cond b (option_map_or (λ i. Err (refusal.TooDeep (byte_of text tokens i))) o (Ok (trees_of s ts))) (Err (refusal.Syntax (byte_of text tokens (wrong_at (items_of s) ks)))) ≡ Ok made
        → AreTree s place text tokens made
    by_text true t None deep e = subst (AreTree s place text tokens) (ok_same (trees_of s ts) made e) (by_reached (reached (items_of s) ks) refl t deep)
    by_text true t (Some i) deep e = absurd (cc)
    by_text false t o deep e = absurd (cc)

-- ---- a piece

pub record IsStatement (text : List ℕ) (s : Statement) : Type 0 where
  pub tokens : List Token
  pub lexed_as : lexed text ≡ Tokens tokens
  pub made : Trees
  pub is_tree : AreTree start.Statement (place_of text tokens) text tokens made
  pub same : script_tree made.scripts ≡ s

pub statement_is : (text : List ℕ) (s : Statement) → statement_of text ≡ Ok s → IsStatement text s
statement_is text s e = by_lexed (lexed text) refl e where
  by_read : (tokens : List Token) → lexed text ≡ Tokens tokens → (a : Answer Trees) → read start.Statement (place_of text tokens) text tokens ≡ a
      → (a >>= λ (made : Trees). Ok (script_tree made.scripts)) ≡ Ok s → IsStatement text s
  by_read tokens is (Ok made) r e =
      record {
        tokens = tokens;
        lexed_as = is;
        made = made;
        is_tree = read_is_tree start.Statement (place_of text tokens) text tokens made r;
        same = ok_same (script_tree made.scripts) s e;
      }
  by_read tokens is (Err why) r e = absurd (cc)

  by_lexed : (l : Lexed) → lexed text ≡ l → statement_by text l ≡ Ok s → IsStatement text s
  by_lexed (NoToken at) is e = absurd (cc)
  by_lexed (Tokens tokens) is e = by_read tokens is (read start.Statement (place_of text tokens) text tokens) refl e

-- ---- a change of a class

pub record IsChange (text : List ℕ) (c : Change) : Type 0 where
  pub tokens : List Token
  pub lexed_as : lexed text ≡ Tokens tokens
  pub made : Trees
  pub is_tree : AreTree start.Change place_in.Change text tokens made
  pub same : change_tree made.changes ≡ c

pub change_is : (text : List ℕ) (c : Change) → change_of text ≡ Some (Ok c) → IsChange text c
change_is text c e = by_lexed (lexed text) refl e where
  by_read : (tokens : List Token) → lexed text ≡ Tokens tokens → (a : Answer Trees) → read start.Change place_in.Change text tokens ≡ a
      → (a >>= λ (made : Trees). Ok (change_tree made.changes)) ≡ Ok c → IsChange text c
  by_read tokens is (Ok made) r e =
      record {
        tokens = tokens;
        lexed_as = is;
        made = made;
        is_tree = read_is_tree start.Change place_in.Change text tokens made r;
        same = ok_same (change_tree made.changes) c e;
      }
  by_read tokens is (Err why) r e = absurd (cc)

  by_begin : (tokens : List Token) → lexed text ≡ Tokens tokens → (b : Bool) → cond b (Some (change_in text tokens)) None ≡ Some (Ok c) → IsChange text c
  by_begin tokens is true e = by_read tokens is (read start.Change place_in.Change text tokens) refl (same_Some (change_in text tokens) (Ok c) e)
  by_begin tokens is false e = absurd (none-some (Ok c) e)

  by_lexed : (l : Lexed) → lexed text ≡ l → change_by text l ≡ Some (Ok c) → IsChange text c
  by_lexed (NoToken at) is e = absurd (none-some (Ok c) e)
  by_lexed (Tokens tokens) is e = by_begin tokens is (begins_change text tokens) e
