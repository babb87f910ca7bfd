-- Classes whose printed text is read as they are, no higher than they were read.
use Rattle.std.proofs.Common.{◌≡◌, ◌≤◌, ℕ, max, true, codes, List, [], ◌∷◌, ◌++◌, map, Option, Some, None, refl, arith}
use Rattle.ode_lex.specs.declared.token.Mark.TheVariants as mark
use Rattle.ode_lex.specs.declared.token.TokenKind.TheVariants as kind
use Rattle.ode_grammar.specs.declared.item.Action.TheVariants as action
use Rattle.ode_grammar.specs.declared.item.Item.{Item}
use Rattle.ode_grammar.specs.declared.item.Item.TheVariants as item
use Rattle.ode_grammar.specs.declared.item.Part.TheVariants as part
use Rattle.ode_grammar.specs.declared.terminal.Terminal.TheVariants as terminal
use Rattle.ode_grammar.specs.Grammar.{row_of, skipped}
use Rattle.ode_grammar.specs.Statements.{class_rest}
use Rattle.ode_grammar.specs.Texts.{Make, Rule, Skip}
use Rattle.ode_heights.specs.Heights.{raised}
use Rattle.ode_terminals.specs.declared.seen.Place.{Place}
use Rattle.ode_value.specs.PrintedClasses.{decl_text, member_text, parent_text}
use Rattle.ode_value.specs.Words.{is_free}
use Rattle.ode_value.specs.declared.statement.ClassDecl.{ClassDecl}
use Rattle.ode_value.specs.declared.statement.Member.{Member}
use Rattle.ode_syntax.specs.Built.{built, built_right_side, built_statement, built_event, built_kind, built_class}
use Rattle.ode_syntax.specs.Kept.{kept_as, Spelled}
use Rattle.ode_relex.specs.Ends.{stops}
use Rattle.ode_reread.proofs.Both.{Both}
use Rattle.ode_reread.proofs.Cuts.{spell}
use Rattle.ode_reread.proofs.Goods.{free_word}
use Rattle.ode_reread.proofs.Marked.{marked, with_name}
use Rattle.ode_reread.proofs.Prints.{regroup, Ds}
use Rattle.ode_reread.proofs.Spells.{Spells}
use Rattle.ode_reread_classes.proofs.Chains.{name_next}
use Rattle.ode_reread_classes.proofs.Derivations.{next_mark, skip_nothing}
use Rattle.ode_reread_classes.proofs.Lists.{brace_opens, braced, elements, weaker, Each, Element, Elements}
use Rattle.ode_reread_classes.proofs.Members.{printed_member, GoodMember}
use Rattle.ode_reread_classes.proofs.Pieces.{between_blanks, join, then_blank, to_spells, word, word_begun, worded, Piece}
use Rattle.ode_reread_classes.proofs.Puts.{with_class, with_members, with_parent}

abbrev pub GoodParent : Option (List ℕ) → Type 0
GoodParent None = Unit {0}
GoodParent (Some name) = is_free name ≡ true

pub record GoodClass (place : Place) (n : ℕ) (c : ClassDecl) : Type 0 where
  pub name : is_free c.name ≡ true
  pub parent : GoodParent c.parent
  pub members : Each (GoodMember place n) c.members

-- ---- the parent

record PrintedParent (place : Place) (p : Option (List ℕ)) : Type 0 where
  pub tokens : List Spelled
  pub piece : Piece place stops (parent_text p) tokens
  pub begins : (rest : List ℕ) → stops rest ≡ true → stops (parent_text p ++ rest) ≡ true
  pub does : (items : List Item) (b : Both) (ts : List Spelled) (out : Both) → Ds items (with_parent p b) ts out → Ds (item.Part part.Parent ∷ items) b (tokens ++ ts) out

printed_parent : (place : Place) (p : Option (List ℕ)) → GoodParent p → PrintedParent place p
unfolding row_of skipped kept_as built built_right_side built_statement built_event built_kind built_class raised
printed_parent place None g = record {
  tokens = [];
  piece = record { cuts = λ rest us e c. c };
  begins = λ rest e. e;
  does = λ items b ts out d. Skip part.Parent action.NoParent refl d;
}
printed_parent place (Some name) g = record {
  tokens = marked mark.Colon ∷ spell place kind.Word name ∷ [];
  piece = join (between_blanks place mark.Colon) (word place name (free_word name g)) (word_begun name (free_word name g));
  begins = λ rest e. refl;
  does = λ items b ts out d. Rule part.Parent (item.Token terminal.Name ∷ item.Build action.Parent ∷ []) refl (name_next place name g (Make action.Parent d));
}

-- ---- all

pub record PrintedClass (place : Place) (n : ℕ) (c : ClassDecl) : Type 0 where
  pub tokens : List Spelled
  pub low : ℕ
  pub no_higher : low ≤ n
  pub spells : Spells place (decl_text c) (spell place kind.Word (codes "class") ∷ tokens)
  -- behind the first word
  pub does : (items : List Item) (b : Both) (ts : List Spelled) (out : Both) → Ds items (with_class c low b) ts out → Ds (class_rest ++ items) b (tokens ++ ts) out

class_by : (place : Place) (n : ℕ) (name : List ℕ) (p : Option (List ℕ)) (ms : List Member) → is_free name ≡ true → PrintedParent place p
    → Elements place with_members (item.Part part.Members) (codes " ") member_text n ms → PrintedClass place n (record { name = name; parent = p; members = ms })
unfolding skipped kept_as built built_right_side built_statement built_event built_kind built_class raised
class_by place n name p ms f g r =
    let w = free_word name f in
    let inside = marked mark.OpenBrace ∷ (r.tokens ++ marked mark.CloseBrace ∷ []) in
    record {
      tokens = spell place kind.Word name ∷ (g.tokens ++ inside);
      low = max 0 r.low;
      no_higher = lower n r.low r.no_higher;
      spells = to_spells refl
          (join (then_blank (join (join (worded place (codes "class") refl) (word place name w) (word_begun name w)) g.piece g.begins) (λ rest. refl)) (braced place with_members (item.Part part.Members) member_text n ms r) (λ rest e. brace_opens (map member_text ms) rest));
      does = λ items b ts out d.
          let close = marked mark.CloseBrace ∷ ts in
          let c = with_parent p (with_name name b) in
          let ended = skip_nothing part.Members refl (next_mark mark.CloseBrace refl (Make {m = with_members ms (max 0 r.low) c} action.Class d)) in
          let membered = r.does [] 0 (item.Token terminal.CloseBrace ∷ item.Build action.Class ∷ items) c close out ended in
          let opened = next_mark mark.OpenBrace refl (Make {m = c} action.Members (regroup r.tokens (marked mark.CloseBrace ∷ []) ts membered)) in
          let parented = g.does (item.Token terminal.OpenBrace ∷ item.Build action.Members ∷ item.Part part.Members ∷ item.Token terminal.CloseBrace ∷ item.Build action.Class ∷ items)
          (with_name name b) (inside ++ ts) out opened in
          name_next place name f (regroup g.tokens inside ts parented);
    }
  where
    lower : (n low : ℕ) → low ≤ n → max 0 low ≤ n
    lower n low l = omega arith

pub printed_class : (place : Place) (n : ℕ) (c : ClassDecl) → GoodClass place n c → PrintedClass place n c
printed_class place n c g =
    class_by place n c.name c.parent c.members g.name (printed_parent place c.parent g.parent)
    (elements place with_members (item.Part part.Members) (codes " ") member_text n c.members
    (weaker (GoodMember place n) (Element place with_members (item.Part part.Members) (codes " ") member_text n) (λ m x. printed_member place n m x) c.members g.members))
