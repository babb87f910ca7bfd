-- A text that is a simple statement stands in a script: it doesn't begin with `class`.
use Rattle.std.proofs.Common.{◌≡◌, ℕ, zero, suc, ◌+◌, ◌-◌, Bool, true, false, cond, codes, List, [], ◌∷◌, ◌++◌, append_assoc, length, map, take, drop, Option, Some, None, refl, sym, ◌∙◌, ap, subst, arith, length-append}
use Rattle.std.specs.Str.{bytes_eq}
use Rattle.std.proofs.lemmas.List.{append-nil}
use Rattle.std.proofs.lemmas.Option.{none-some, same_Some}
use Rattle.std.proofs.lemmas.Slice.Eq.{bytes_eq-Decides}
use Rattle.ode_lex.specs.Tokens.{gap_at, lexed, lexed_from, placed, token_at, with_token, word_at, Lexed, NoToken, Tokens}
use Rattle.ode_lex.specs.declared.token.Token.{Token}
use Rattle.ode_lex.specs.declared.token.TokenKind.{TokenKind}
use Rattle.ode_lex.specs.declared.token.TokenKind.TheVariants as kind
use Rattle.ode_grammar.specs.declared.item.Action.{Action}
use Rattle.ode_grammar.specs.declared.item.Action.TheVariants as action
use Rattle.ode_grammar.specs.declared.item.Item.{Item}
use Rattle.ode_grammar.specs.declared.item.Item.TheVariants as item
use Rattle.ode_grammar.specs.declared.item.Part.TheVariants as part
use Rattle.ode_grammar.specs.declared.reader.Start.TheVariants as start
use Rattle.ode_grammar.specs.declared.terminal.Terminal.TheVariants as terminal
use Rattle.ode_grammar.specs.Grammar.{after, items_of, row_of, skipped}
use Rattle.ode_grammar.specs.Stacks.{top}
use Rattle.ode_grammar.specs.Statements.{class_rest}
use Rattle.ode_heights.specs.Heights.{none}
use Rattle.ode_terminals.specs.declared.seen.Place.{Place}
use Rattle.ode_terminals.specs.declared.seen.Place.TheVariants.{Class, Script}
use Rattle.ode_terminals.specs.Seen.{place_of, seen, slice_of}
use Rattle.ode_terminals.specs.Words.{word_terminal}
use Rattle.ode_value.specs.declared.statement.ClassDecl.{ClassDecl}
use Rattle.ode_value.specs.declared.statement.Statement.TheVariants as statement
use Rattle.ode_value.specs.declared.statement.Stmt.{Stmt}
use Rattle.ode_syntax.specs.declared.trees.Trees.{Trees}
use Rattle.ode_syntax.specs.Built.{built, built_right_side, built_statement, built_event, built_kind, built_class, built_member, built_script, declared, script_tree}
use Rattle.ode_syntax.specs.Kept.{spelled, Spelled}
use Rattle.ode_syntax.specs.Trees.{Makes}
use Rattle.ode_reread.proofs.Both.{lifted, make, Both}
use Rattle.ode_reread.proofs.CutTexts.{drop_front}
use Rattle.ode_reread.proofs.Longest.{one_lexing}
use Rattle.ode_reread.proofs.Readings.{at_start}
use Rattle.ode_reread_classes.proofs.Chains.{last_made}
use Rattle.ode_reread_classes.proofs.Derivations.{splits, view, with_items, Left, Ruled, View}

-- ---- the first token

word_kind : (c : Bool) (n : ℕ) (found : TokenKind × ℕ) → cond {A = Option (TokenKind × ℕ)} c (Some (kind.Word, n)) None ≡ Some found → found.0 ≡ kind.Word
word_kind true n found e = sym (ap (λ (f : TokenKind × ℕ). f.0) (same_Some (kind.Word, n) found e))
word_kind false n found e = absurd (none-some found e)

letter_word : (rest : List ℕ) (found : TokenKind × ℕ) → token_at (99 ∷ rest) ≡ Some found → found.0 ≡ kind.Word
unfolding token_at word_at
letter_word rest found e = word_kind _ _ found e

-- it begins as a word does
begins_word : (bytes : List ℕ) (n : ℕ) (k : TokenKind) → token_at bytes ≡ Some (k, n) → take n bytes ≡ codes "class" → k ≡ kind.Word
unfolding token_at
begins_word [] n k e s = absurd (none-some (k, n) e)
begins_word (b ∷ rest) zero k e s = absurd (cc)
begins_word (b ∷ rest) (suc n) k e s =
    let is : b ≡ 99 = ap (top 0) s in
    letter_word rest (k, suc n) (subst (λ x. token_at (x ∷ rest) ≡ Some (k, suc n)) is e)

-- the bytes of a token that begins behind these
slice_front : (front bytes : List ℕ) (k : TokenKind) (n : ℕ) → slice_of (front ++ bytes) (record { kind = k; start = length front; end = length front + n }) ≡ take n bytes
slice_front front bytes k n =
    let same : length front + n - length front ≡ n = omega arith in
    ap (λ m. take m (drop (length front) (front ++ bytes))) same ∙ ap (take n) (drop_front front bytes)

first_is : (x t : Token) (ts : List Token) (l : Lexed) → with_token x l ≡ Tokens (t ∷ ts) → x ≡ t
first_is x t ts (Tokens us) e = ap (top t) (one_lexing (x ∷ us) (t ∷ ts) e)
first_is x t ts (NoToken at) e = absurd (cc)

placed_word : (front bytes : List ℕ) (gap : ℕ) (o : Option (TokenKind × ℕ)) (behind : ℕ → Lexed) (t : Token) (ts : List Token) → token_at bytes ≡ o
    → placed (length front) gap o behind ≡ Tokens (t ∷ ts) → ((n : ℕ) → behind n ≡ Tokens (t ∷ ts) → t.kind ≡ kind.Word) → slice_of (front ++ bytes) t ≡ codes "class" → t.kind ≡ kind.Word
placed_word front bytes (suc n) o behind t ts f e later s = later n e
placed_word front bytes zero None behind t ts f e later s = absurd (cc)
placed_word front bytes zero (Some found) behind t ts f e later s =
    let x : Token = record { kind = found.0; start = length front; end = length front + found.1 } in
    let same = first_is x t ts (behind (found.1 - 1)) e in
    let sliced = sym (slice_front front bytes found.0 found.1) ∙ (ap (slice_of (front ++ bytes)) same ∙ s) in
    ap (λ (y : Token). y.kind) (sym same) ∙ begins_word bytes found.1 found.0 f sliced

first_word : (bytes front : List ℕ) (past : ℕ) (t : Token) (ts : List Token) → lexed_from (length front) past bytes ≡ Tokens (t ∷ ts) → slice_of (front ++ bytes) t ≡ codes "class"
    → t.kind ≡ kind.Word
unfolding lexed_from
first_word [] front past t ts e s = absurd (cc)
first_word (b ∷ rest) front (suc past) t ts e s =
    let at : length front + 1 ≡ length (front ++ b ∷ []) = sym (length-append front (b ∷ [])) in
    first_word rest (front ++ b ∷ []) past t ts (subst (λ n. lexed_from n past rest ≡ Tokens (t ∷ ts)) at e)
    (subst (λ x. slice_of x t ≡ codes "class") (sym (append_assoc front (b ∷ []) rest)) s)
first_word (b ∷ rest) front zero t ts e s =
    let at : length front + 1 ≡ length (front ++ b ∷ []) = sym (length-append front (b ∷ [])) in
    placed_word front (b ∷ rest) (gap_at (b ∷ rest)) (token_at (b ∷ rest)) (λ n. lexed_from (length front + 1) n rest) t ts refl e
    (λ n f.
    first_word rest (front ++ b ∷ []) n t ts (subst (λ m. lexed_from m n rest ≡ Tokens (t ∷ ts)) at f)
    (subst (λ x. slice_of x t ≡ codes "class") (sym (append_assoc front (b ∷ []) rest)) s))
    s

-- ---- a statement that begins with `class`

no_statement_skip : (a : Action) → skipped part.Statement ≡ Some a → ⊥
unfolding skipped
no_statement_skip a e = none-some a e

declares : (row : List Item) → after part.Statement terminal.Class ≡ Some row → class_rest ++ item.Token terminal.Semi ∷ item.Build action.Declare ∷ [] ≡ row
unfolding row_of
declares row e = same_Some (class_rest ++ item.Token terminal.Semi ∷ item.Build action.Declare ∷ []) row e

declared_last : (b : Both) → script_tree (make action.Declare b).trees.scripts ≡ declared b.trees.classes
unfolding built built_right_side built_statement built_event built_kind built_class built_member built_script
declared_last b = refl

not_simple : (s : Stmt) (cs : List ClassDecl) → declared cs ≡ statement.Simple s → ⊥
not_simple s [] e = absurd (cc)
not_simple s (c ∷ cs) e = absurd (cc)

class_first : (ts : List Spelled) (b out : Both) (s : Stmt) → View part.Statement [] b out ts → (t : Spelled) (us : List Spelled) → ts ≡ t ∷ us → t.terminal ≡ terminal.Class
    → script_tree out.trees.scripts ≡ statement.Simple s → ⊥
class_first ts b out s (Left a f x) t us q k e = no_statement_skip a f
class_first ts b out s (Ruled u row f x) t us q k e =
    let class = ap (λ (v : Spelled). v.terminal) (ap (top t) q) ∙ k in
    let is = declares row (ap (after part.Statement) (sym class) ∙ f) in
    let p = splits (with_items (append-nil row ∙ sym is) x) (class_rest ++ item.Token terminal.Semi ∷ []) (item.Build action.Declare ∷ []) refl in
    let m = last_made p.behind in
    not_simple s m.before.trees.classes (sym (declared_last m.before) ∙ (ap (λ (v : Both). script_tree v.trees.scripts) m.is ∙ e))

class_word : (place : Place) → seen place (codes "class") kind.Word ≡ terminal.Class
unfolding word_terminal
class_word place = refl

pub in_script : (place : Place) (text : List ℕ) (tokens : List Token) (made : Trees) (s : Stmt) → lexed text ≡ Tokens tokens → Makes start.Statement (map (spelled place text) tokens) made
    → script_tree made.scripts ≡ statement.Simple s → place_of text tokens ≡ Script
unfolding items_of lexed
in_script place text [] made s l d e = refl
in_script place text (t ∷ ts) made s l d e = cases (bytes_eq (slice_of text t) (codes "class")) refl
  where
    cases : (c : Bool) → bytes_eq (slice_of text t) (codes "class") ≡ c → cond c Class Script ≡ Script
    cases false f = refl
    cases true f =
        let sliced = (bytes_eq-Decides (slice_of text t) (codes "class")).0 f in
        let is_word = first_word text [] 0 t ts l sliced in
        let k = ap (λ x. seen place x t.kind) sliced ∙ (ap (seen place (codes "class")) is_word ∙ class_word place) in
        absurd (class_first (map (spelled place text) (t ∷ ts)) at_start (record { trees = made; heights = (lifted d none).heights }) s (view (lifted d none).derives)
        (spelled place text t) (map (spelled place text) ts) refl k e)
