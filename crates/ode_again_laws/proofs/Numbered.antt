-- The numbers of a class that is read are in their ranges.
use Rattle.std.proofs.Common.{◌≡◌, ℕ, List, [], ◌∷◌, Ok, sym, ◌∙◌, ap, subst}
use Rattle.std.specs.List.{AllByRecursion}
use Rattle.ode_grammar.specs.declared.reader.Start.TheVariants as start
use Rattle.ode_grammar.specs.Grammar.{items_of}
use Rattle.ode_heights.specs.declared.height.TheConstants.{HEIGHT_LIMIT}
use Rattle.ode_terminals.specs.declared.seen.Place.{Place}
use Rattle.ode_terminals.specs.declared.seen.Place.TheVariants.{Class}
use Rattle.ode_terminals.specs.Seen.{place_of}
use Rattle.ode_value.specs.declared.statement.ClassDecl.{ClassDecl}
use Rattle.ode_value.specs.declared.statement.Member.{Member}
use Rattle.ode_value.specs.declared.statement.Member.TheVariants as member
use Rattle.ode_value.specs.declared.statement.Statement.TheVariants as statement
use Rattle.ode_syntax.specs.declared.trees.Trees.{Trees}
use Rattle.ode_syntax.specs.Built.{class_tree, script_tree}
use Rattle.ode_classyn.specs.Texts.{IsClassOf}
use Rattle.ode_language.specs.Languages.{statement_of}
use Rattle.ode_compile.specs.Compiling.{HasNumbers, HaveNumbers}
use Rattle.ode_reread.specs.Rereading.{IsRead}
use Rattle.ode_reread.proofs.Both.{Both}
use Rattle.ode_reread.proofs.Readings.{at_start}
use Rattle.ode_reread_classes.proofs.Classes.{GoodClass}
use Rattle.ode_reread_classes.proofs.Does.{GoodMembers, GoodScript}
use Rattle.ode_reread_classes.proofs.Members.{GoodMember}
use Rattle.ode_reread_classes.proofs.Puts.{with_class, with_script}
use Rattle.ode_reread_classes.proofs.Readings.{reading}
use Rattle.ode_again_laws.proofs.Reading.{statement_is}

member_numbers : (place : Place) (n : ℕ) (m : Member) → GoodMember place n m → HasNumbers m
member_numbers place n (member.Field name s) g = tt
member_numbers place n (member.Method m) g = tt
member_numbers place n (member.Constraint c) g = tt
member_numbers place n (member.Events ks) g = tt
member_numbers place n (member.Trigger t) g = g.event.numbers

members_numbers : (place : Place) (n : ℕ) (ms : List Member) → GoodMembers place n ms → AllByRecursion HasNumbers ms
members_numbers place n [] g = tt
members_numbers place n (m ∷ ms) g = (member_numbers place n m g.0, members_numbers place n ms g.1)

class_numbers : (place : Place) (n : ℕ) (d : ClassDecl) → GoodClass place n d → HaveNumbers d
class_numbers place n d good = members_numbers place n d.members good.members

-- where the class is a text's
pub text_numbers : (text : List ℕ) (d : ClassDecl) → IsClassOf text d → HaveNumbers d
unfolding items_of
text_numbers text d p =
    let read : IsRead HEIGHT_LIMIT start.Class Class text p.0 = record { tokens = p.1.tokens; lexed_as = p.1.lexed_as; makes = p.1.is_tree.makes; within = p.1.is_tree.within } in
    let x = reading HEIGHT_LIMIT start.Class Class text p.0 read in
    let l = x.does in
    let a = l.1.1 in
    let is : x.out ≡ with_class a.x a.n at_start = sym l.2 ∙ a.is in
    let same : d ≡ a.x = p.2 ∙ (ap (λ (v : Trees). class_tree v.classes) (sym x.trees) ∙ ap (λ (b : Both). class_tree b.trees.classes) is) in
    subst HaveNumbers (sym same) (class_numbers Class a.n a.x a.good)

-- a class that is read is one that its text is read as again
pub piece_good : (piece : List ℕ) (d : ClassDecl) → statement_of piece ≡ Ok (statement.Class d) → (place : Place) × (n : ℕ) × GoodClass place n d
unfolding items_of
piece_good piece d e =
    let s = statement_is piece (statement.Class d) e in
    let place = place_of piece s.tokens in
    let read : IsRead HEIGHT_LIMIT start.Statement place piece s.made = record { tokens = s.tokens; lexed_as = s.lexed_as; makes = s.is_tree.makes; within = s.is_tree.within } in
    let x = reading HEIGHT_LIMIT start.Statement place piece s.made read in
    let l = x.does in
    let a = l.1.1 in
    let is : x.out ≡ with_script a.x a.n at_start = sym l.2 ∙ a.is in
    let same : a.x ≡ statement.Class d = sym (ap (λ (b : Both). script_tree b.trees.scripts) is) ∙ (ap (λ (v : Trees). script_tree v.scripts) x.trees ∙ s.same) in
    (place, a.n, subst (GoodScript place a.n) same a.good)

-- where it is a piece's
pub piece_numbers : (piece : List ℕ) (d : ClassDecl) → statement_of piece ≡ Ok (statement.Class d) → HaveNumbers d
piece_numbers piece d e = let good = piece_good piece d e in class_numbers good.0 good.1 d good.2
