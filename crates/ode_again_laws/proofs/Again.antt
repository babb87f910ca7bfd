-- A class that is read is read again from its printed text.
use Rattle.std.proofs.Common.{◌≡◌, ◌≤◌, ℕ, cond, codes, List, [], ◌∷◌, ◌++◌, map, Ok, arith, refl, sym, ◌∙◌, ap, subst}
use Rattle.ode_lex.specs.Tokens.{lexed, Tokens}
use Rattle.ode_lex.specs.declared.token.Mark.TheVariants as mark
use Rattle.ode_lex.specs.declared.token.Token.{Token}
use Rattle.ode_lex.specs.declared.token.TokenKind.{TokenKind}
use Rattle.ode_lex.specs.declared.token.TokenKind.TheVariants as kind
use Rattle.ode_grammar.specs.declared.item.Action.TheVariants as action
use Rattle.ode_grammar.specs.declared.item.Item.TheVariants as item
use Rattle.ode_grammar.specs.declared.item.Part.TheVariants as part
use Rattle.ode_grammar.specs.declared.reader.Start.TheVariants as start
use Rattle.ode_grammar.specs.declared.terminal.Terminal.TheVariants as terminal
use Rattle.ode_grammar.specs.Grammar.{items_of, row_of}
use Rattle.ode_grammar.specs.Statements.{class_rest}
use Rattle.ode_grammar.specs.Texts.{Derives, Done, Make, Rule}
use Rattle.ode_grammar.proofs.Follows.{start_well}
use Rattle.ode_grammar.proofs.Runs.{one_meaning}
use Rattle.ode_heights.specs.declared.height.Heights.{Heights}
use Rattle.ode_heights.specs.declared.height.TheConstants.{HEIGHT_LIMIT}
use Rattle.ode_heights.specs.Heights.{heights as of_heights, highest, none, raised}
use Rattle.ode_terminals.specs.declared.seen.Place.{Place}
use Rattle.ode_terminals.specs.declared.seen.Place.TheVariants.{Class, Script}
use Rattle.ode_terminals.specs.Seen.{place_of, seen, slice_of, terminal_of}
use Rattle.ode_terminals.specs.Words.{word_terminal}
use Rattle.ode_value.specs.PrintedClasses.{decl_text}
use Rattle.ode_value.specs.Answers.{Answer, ◌>>=◌}
use Rattle.ode_value.specs.declared.statement.ClassDecl.{ClassDecl}
use Rattle.ode_value.specs.declared.statement.Statement.{Statement}
use Rattle.ode_value.specs.declared.statement.Statement.TheVariants as statement
use Rattle.ode_syntax.specs.declared.trees.Trees.{Trees}
use Rattle.ode_syntax.specs.Built.{built, built_class, built_event, built_kind, built_member, built_right_side, built_script, built_statement, script_tree}
use Rattle.ode_syntax.specs.Kept.{kept_as, spelled, Spelled}
use Rattle.ode_eventsyn.specs.Parsing.{AreTree}
use Rattle.ode_language.specs.Languages.{statement_by, statement_in, statement_of}
use Rattle.ode_language.specs.Reading.{read}
use Rattle.ode_language.proofs.ReadingLaws.{tree_is_read}
use Rattle.ode_reread.proofs.Both.{Both, its_heights, its_trees, keep, lifted, make}
use Rattle.ode_reread.proofs.Cuts.{spell}
use Rattle.ode_reread.proofs.CutTexts.{cut_text}
use Rattle.ode_reread.proofs.Effects.{spelt}
use Rattle.ode_reread.proofs.Marked.{marked}
use Rattle.ode_reread.proofs.Prints.{Ds}
use Rattle.ode_reread.proofs.Readings.{at_start, same_seen}
use Rattle.ode_reread.proofs.Sounds.{text_sounds, Sounds}
use Rattle.ode_reread.proofs.Spells.{Spells}
use Rattle.ode_reread_classes.proofs.AllParts.{does}
use Rattle.ode_reread_classes.proofs.Classes.{printed_class, GoodClass, PrintedClass}
use Rattle.ode_reread_classes.proofs.Derivations.{next_mark}
use Rattle.ode_reread_classes.proofs.MemberRows.{declared}
use Rattle.ode_reread_classes.proofs.Pieces.{closing_mark, join, of_spells, to_spells}
use Rattle.ode_reread_classes.proofs.Puts.{with_class}
use Rattle.ode_reread_classes.proofs.Readings.{cut_whole, plain_own}
use Rattle.ode_again_laws.proofs.First.{first_of, IsFirst}
use Rattle.ode_again_laws.proofs.Reading.{statement_is}
use Rattle.ode_again_laws.proofs.Words.{class_bytes}

-- ---- how it was read

-- the trees with their heights
record IsLifted (text : List ℕ) (tokens : List Token) (made : Trees) : Type 0 where
  heights : Heights
  derives : Ds (item.Part part.Statement ∷ []) at_start (map (spelled Class text) tokens) (record { trees = made; heights = heights })
  within : highest heights ≤ HEIGHT_LIMIT

lifted_tree : (text : List ℕ) (tokens : List Token) (made : Trees) → AreTree start.Statement Class text tokens made → IsLifted text tokens made
unfolding items_of
lifted_tree text tokens made tree =
    let x = lifted tree.makes none in
    let seen = subst (λ ks. Derives of_heights (items_of start.Statement) none ks x.heights) (same_seen Class text tokens) (its_heights x.derives) in
    let same = one_meaning of_heights (items_of start.Statement) none (map (terminal_of Class text) tokens) tree.within.made x.heights (start_well start.Statement) tree.within.is_text seen in
    record { heights = x.heights; derives = x.derives; within = subst (λ (h : Heights). highest h ≤ HEIGHT_LIMIT) same tree.within.within }

-- `class` in front, whatever the place
tree_first : (place : Place) (text : List ℕ) (tokens : List Token) (made : Trees) (d : ClassDecl) → AreTree start.Statement place text tokens made
    → script_tree made.scripts ≡ statement.Class d → (out : Both) × (out.trees ≡ made) × IsFirst (map (spelled place text) tokens) out
unfolding items_of
tree_first place text tokens made d tree e =
    let x = lifted tree.makes none in
    let out : Both = record { trees = made; heights = x.heights } in
    (out, refl, first_of (map (spelled place text) tokens) out d x.derives e)

abbrev front : Spelled → List Spelled → Spelled
front t [] = t
front t (u ∷ us) = u

in_class : (place : Place) (text : List ℕ) (tokens : List Token) (t : Spelled) (more : List Spelled) → map (spelled place text) tokens ≡ t ∷ more → t.terminal ≡ terminal.Class
    → place_of text tokens ≡ Class
in_class place text [] t more e f = absurd (cc)
in_class place text (u ∷ tokens) t more e f =
    let same : spelled place text u ≡ t = ap (front t) e in
    ap (λ b. cond b Class Script) (class_bytes place (slice_of text u) u.kind (ap (λ (s : Spelled). s.terminal) same ∙ f))

pub record IsClassRead (text : List ℕ) (d : ClassDecl) : Type 0 where
  tokens : List Token
  lexed_as : lexed text ≡ Tokens tokens
  made : Trees
  is_tree : AreTree start.Statement Class text tokens made
  same : script_tree made.scripts ≡ statement.Class d

pub class_read : (text : List ℕ) (d : ClassDecl) → statement_of text ≡ Ok (statement.Class d) → IsClassRead text d
class_read text d e =
    let s = statement_is text (statement.Class d) e in
    let f = tree_first (place_of text s.tokens) text s.tokens s.made d s.is_tree s.same in
    let place = in_class (place_of text s.tokens) text s.tokens f.2.first f.2.more f.2.is f.2.class in
    record {
      tokens = s.tokens;
      lexed_as = s.lexed_as;
      made = s.made;
      is_tree = subst (λ p. AreTree start.Statement p text s.tokens s.made) place s.is_tree;
      same = s.same;
    }

-- ---- a class that is read

pub record IsGoodRead (d : ClassDecl) : Type 0 where
  pub high : ℕ
  pub good : GoodClass Class high d
  within : high ≤ HEIGHT_LIMIT

-- what a statement of a class comes to
abbrev declares : ClassDecl → ℕ → Both
declares d n = make action.Declare (with_class d n at_start)

declares_class : (d : ClassDecl) (n : ℕ) → script_tree (declares d n).trees.scripts ≡ statement.Class d
unfolding built built_right_side built_statement built_event built_kind built_class built_member built_script
declares_class d n = refl

declares_high : (d : ClassDecl) (n : ℕ) → (declares d n).heights ≡ record { shaped = []; plain = n ∷ [] }
unfolding raised
declares_high d n = refl

same_class : (c d : ClassDecl) → statement.Class c ≡ statement.Class d → c ≡ d
same_class c d e = ap class_of_statement e where
  class_of_statement : Statement → ClassDecl
  class_of_statement (statement.Class x) = x
  class_of_statement other = c

semi_kept : (m : Both) (kd : TokenKind) (bytes : List ℕ) → keep (spelt terminal.Semi kd bytes) m ≡ m
unfolding kept_as
semi_kept m kd bytes = refl

pub good_read : (text : List ℕ) (d : ClassDecl) → IsClassRead text d → IsGoodRead d
good_read text d c =
    let x = lifted_tree text c.tokens c.made c.is_tree in
    let out : Both = record { trees = c.made; heights = x.heights } in
    let f = first_of (map (spelled Class text) c.tokens) out d x.derives c.same in
    let sounds = subst (Sounds Class) f.is (text_sounds Class text c.tokens c.lexed_as) in
    let made = declared Class (item.Token terminal.Semi ∷ item.Build action.Declare ∷ []) at_start out (does Class f.rest sounds.1) in
    let a = made.class in
    let b = made.behind in
    let is : out ≡ declares a.x a.n = sym b.3 ∙ (ap (make action.Declare) (semi_kept made.mid b.0 b.1) ∙ ap (make action.Declare) a.is) in
    let same : a.x ≡ d = same_class a.x d (sym (declares_class a.x a.n) ∙ (sym (ap (λ (v : Both). script_tree v.trees.scripts) is) ∙ c.same)) in
    let high = subst (λ (h : Heights). highest h ≤ HEIGHT_LIMIT) (ap (λ (v : Both). v.heights) is ∙ declares_high a.x a.n) x.within in
    record {
      high = a.n;
      good = subst (GoodClass Class a.n) same a.good;
      within = plain_own a.n HEIGHT_LIMIT high;
    }

-- ---- its printed text

own_plain : (n most : ℕ) → n ≤ most → highest (record { shaped = []; plain = n ∷ [] }) ≤ most
own_plain n most l = omega arith

class_word_seen : (spell Class kind.Word (codes "class")).terminal ≡ terminal.Class
unfolding word_terminal
class_word_seen = refl

module _ (d : ClassDecl) (g : IsGoodRead d) where
  p : PrintedClass Class g.high d
  p = printed_class Class g.high d g.good

  abbrev text : List ℕ
  text = decl_text d ++ codes ";"

  abbrev ts : List Spelled
  ts = spell Class kind.Word (codes "class") ∷ (p.tokens ++ marked mark.Semi ∷ [])

  abbrev out : Both
  out = declares d p.low

  spells : Spells Class text ts
  spells = to_spells refl (join (of_spells p.spells) (closing_mark Class mark.Semi) (λ rest x. refl))

  derives : Ds (item.Part part.Statement ∷ []) at_start ts out
  unfolding row_of word_terminal kept_as
  derives =
      Rule part.Statement (class_rest ++ item.Token terminal.Semi ∷ item.Build action.Declare ∷ []) refl
      (p.does (item.Token terminal.Semi ∷ item.Build action.Declare ∷ []) at_start (marked mark.Semi ∷ []) out (next_mark mark.Semi refl (Make action.Declare Done)))

  -- the text has the tokens
  module _ (tokens : List Token) (is : lexed text ≡ Tokens tokens) (same : map (spelled Class text) tokens ≡ ts) where
    tree_again : AreTree start.Statement Class text tokens out.trees
    unfolding items_of
    tree_again =
        let made = subst (λ us. Ds (item.Part part.Statement ∷ []) at_start us out) (sym same) derives in
        record {
          makes = its_trees made;
          within = record {
            made = out.heights;
            is_text = subst (λ ks. Derives of_heights (item.Part part.Statement ∷ []) none ks out.heights) (same_seen Class text tokens) (its_heights made);
            within = subst (λ (h : Heights). highest h ≤ HEIGHT_LIMIT) (sym (declares_high d p.low)) (own_plain p.low HEIGHT_LIMIT (let low = p.no_higher in let high = g.within in omega (arith, low, high)));
          };
        }

    in_again : statement_in text tokens ≡ Ok (statement.Class d)
    in_again =
        let place = in_class Class text tokens (spell Class kind.Word (codes "class")) (p.tokens ++ marked mark.Semi ∷ []) same class_word_seen in
        let found = subst (λ q. read start.Statement q text tokens ≡ Ok out.trees) (sym place) (tree_is_read start.Statement Class text tokens out.trees tree_again) in
        ap (λ (a : Answer Trees). a >>= λ (made : Trees). Ok (script_tree made.scripts)) found ∙ ap (λ s. Ok s) (declares_class d p.low)

    read_again : statement_of text ≡ Ok (statement.Class d)
    read_again = ap (statement_by text) is ∙ in_again

  printed_again : statement_of text ≡ Ok (statement.Class d)
  printed_again = let x = cut_text Class text ts (cut_whole Class text ts spells) in read_again x.0 x.1 x.2

pub again : (piece : List ℕ) (d : ClassDecl) → statement_of piece ≡ Ok (statement.Class d) → statement_of (decl_text d ++ codes ";") ≡ Ok (statement.Class d)
again piece d e = printed_again d (good_read piece d (class_read piece d e))
