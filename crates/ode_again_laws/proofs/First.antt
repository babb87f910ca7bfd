-- A statement that is a class begins with the word `class`.
use Rattle.std.proofs.Common.{◌≡◌, Bool, true, false, ◌||◌, List, [], ◌∷◌, ◌++◌, append-nil, Option, Some, None, refl, sym, ◌∙◌, ap, subst}
use Rattle.std.proofs.lemmas.Bool.{false≢true}
use Rattle.std.proofs.lemmas.Option.{none-some, same_Some}
use Rattle.ode_grammar.specs.declared.item.Action.{Action}
use Rattle.ode_grammar.specs.declared.item.Action.TheVariants as action
use Rattle.ode_grammar.specs.declared.item.Item.{Item}
use Rattle.ode_grammar.specs.declared.item.Item.TheVariants as item
use Rattle.ode_grammar.specs.declared.item.Part.TheVariants as part
use Rattle.ode_grammar.specs.declared.terminal.Terminal.{Terminal}
use Rattle.ode_grammar.specs.declared.terminal.Terminal.TheVariants as terminal
use Rattle.ode_grammar.specs.Grammar.{after, row_of, skipped}
use Rattle.ode_grammar.specs.Terminals.{named}
use Rattle.ode_grammar.specs.Statements.{class_rest}
use Rattle.ode_grammar.specs.Texts.{Derives, Done, Next, Make, Rule, Skip}
use Rattle.ode_value.specs.declared.statement.ClassDecl.{ClassDecl}
use Rattle.ode_value.specs.declared.statement.Statement.{Statement}
use Rattle.ode_value.specs.declared.statement.Statement.TheVariants as statement
use Rattle.ode_syntax.specs.declared.trees.Trees.{Trees}
use Rattle.ode_syntax.specs.Built.{built, built_class, built_event, built_kind, built_member, built_right_side, built_script, built_statement, script_tree}
use Rattle.ode_syntax.specs.Kept.{kept_as, Spelled}
use Rattle.ode_syntax.specs.Trees.{no_trees, trees}
use Rattle.ode_heights.specs.Heights.{none}
use Rattle.ode_terminals.specs.declared.seen.Place.TheVariants.{Class}
use Rattle.ode_reread.proofs.Both.{Both, its_trees, keep}
use Rattle.ode_reread.proofs.Prints.{Ds}
use Rattle.ode_reread.proofs.Readings.{at_start}
use Rattle.ode_reread_classes.proofs.Derivations.{view, with_items, Left, Ruled, View}
use Rattle.ode_again_laws.proofs.Words.{is_class}

-- ---- the last action

-- the action at the end of items, behind an action or none
abbrev last_after : Option Action → List Item → Option Action
last_after o [] = o
last_after o (item.Token k ∷ items) = last_after None items
last_after o (item.Part p ∷ items) = last_after None items
last_after o (item.Build a ∷ items) = last_after (Some a) items

record MadeBy (a : Action) (out : Trees) : Type 0 where
  before : Trees
  is : out ≡ built a before

abbrev Was : Option Action → Trees → Type 0
Was o v = (a : Action) → o ≡ Some a → MadeBy a v

no_action : (v : Trees) → Was None v
no_action v a e = absurd (none-some a e)

last_any : (o : Option Action) (items : List Item) (a : Action) → last_after None items ≡ Some a → last_after o items ≡ Some a
last_any o [] a e = absurd (none-some a e)
last_any o (item.Token k ∷ items) a e = e
last_any o (item.Part p ∷ items) a e = e
last_any o (item.Build b ∷ items) a e = e

last_append : (o : Option Action) (row items : List Item) (a : Action) → last_after None items ≡ Some a → last_after o (row ++ items) ≡ Some a
last_append o [] items a e = last_any o items a e
last_append o (item.Token k ∷ row) items a e = last_append None row items a e
last_append o (item.Part p ∷ row) items a e = last_append None row items a e
last_append o (item.Build b ∷ row) items a e = last_append (Some b) row items a e

ended : {items : List Item} {v : Trees} {ts : List Spelled} {out : Trees} → Derives trees items v ts out → (o : Option Action) → Was o v → (a : Action) → last_after o items ≡ Some a → MadeBy a out
ended Done o was a e = was a e
ended (Next k x d) o was a e = ended d None (no_action _) a e
ended {v = v} (Make b d) o was a e = ended d (Some b) (λ c f. record { before = v; is = ap (λ x. built x v) (same_Some b c f) }) a e
ended (Rule {items = items} p row x d) o was a e = ended d None (no_action _) a (last_append None row items a e)
ended (Skip p b x d) o was a e = ended d None (no_action _) a e

-- ---- statements that are no class

abbrev is_other : Action → Bool
is_other action.Begin = true
is_other action.Commit = true
is_other action.Abort = true
is_other action.Clock = true
is_other action.Empty = true
is_other action.Simple = true
is_other other = false

abbrev other_end : Option Action → Bool
other_end None = false
other_end (Some a) = is_other a

abbrev ends_other : Option (List Item) → Bool
ends_other None = true
ends_other (Some row) = other_end (last_after None row)

others : (k : Terminal) → (is_class k || ends_other (after part.Statement k)) ≡ true
unfolding row_of
others terminal.Class = refl
others other = refl

no_class : (a : Action) (v : Trees) (d : ClassDecl) → is_other a ≡ true → script_tree (built a v).scripts ≡ statement.Class d → ⊥
unfolding built built_right_side built_statement built_event built_kind built_class built_member built_script
no_class action.Begin v d e f = absurd (cc)
no_class action.Commit v d e f = absurd (cc)
no_class action.Abort v d e f = absurd (cc)
no_class action.Clock v d e f = absurd (cc)
no_class action.Empty v d e f = absurd (cc)
no_class action.Simple v d e f = absurd (cc)
no_class other v d e f = absurd (false≢true e)

not_class : (row : List Item) (v : Trees) (ts : List Spelled) (out : Trees) (d : ClassDecl) → Derives trees row v ts out → other_end (last_after None row) ≡ true → script_tree out.scripts ≡ statement.Class d → ⊥
not_class row v ts out d x e f = by_last (last_after None row) refl e where
  by_last : (o : Option Action) → last_after None row ≡ o → other_end o ≡ true → ⊥
  by_last None is g = absurd (false≢true g)
  by_last (Some a) is g =
      let made = ended x None (no_action v) a is in
      no_class a made.before d g (ap (λ (w : Trees). script_tree w.scripts) (sym made.is) ∙ f)

-- ---- `class`

pub record IsFirst (ts : List Spelled) (out : Both) : Type 0 where
  pub first : Spelled
  pub more : List Spelled
  pub is : ts ≡ first ∷ more
  pub class : first.terminal ≡ terminal.Class
  pub rest : Ds (class_rest ++ item.Token terminal.Semi ∷ item.Build action.Declare ∷ []) at_start more out

class_true : (k : Terminal) → is_class k ≡ true → k ≡ terminal.Class
class_true terminal.Class e = refl
class_true other e = absurd (false≢true e)

class_row : after part.Statement terminal.Class ≡ Some (class_rest ++ item.Token terminal.Semi ∷ item.Build action.Declare ∷ [])
unfolding row_of
class_row = refl

class_kept : (t : Spelled) → t.terminal ≡ terminal.Class → keep t at_start ≡ at_start
unfolding kept_as
class_kept t e = ap (λ k. record { trees = kept_as (named k) t.kind t.bytes no_trees; heights = none }) e

no_skip : (a : Action) → skipped part.Statement ≡ Some a → ⊥
unfolding skipped
no_skip a e = none-some a e

first_by : (t : Spelled) (ts : List Spelled) (row : List Item) (out : Both) (d : ClassDecl) → after part.Statement t.terminal ≡ Some row → Ds row (keep t at_start) ts out
    → script_tree out.trees.scripts ≡ statement.Class d → (b : Bool) → is_class t.terminal ≡ b → IsFirst (t ∷ ts) out
first_by t ts row out d e x f true is =
    let class = class_true t.terminal is in
    let same = same_Some row (class_rest ++ item.Token terminal.Semi ∷ item.Build action.Declare ∷ []) (sym e ∙ (ap (after part.Statement) class ∙ class_row)) in
    record {
      first = t;
      more = ts;
      is = refl;
      class = class;
      rest = subst (λ b. Ds (class_rest ++ item.Token terminal.Semi ∷ item.Build action.Declare ∷ []) b ts out) (class_kept t class) (with_items same x);
    }
first_by t ts row out d e x f false is =
    let end = ap ends_other (sym e) ∙ (ap (λ b. b || ends_other (after part.Statement t.terminal)) (sym is) ∙ others t.terminal) in
    absurd (not_class row (keep t at_start).trees ts out.trees d (its_trees x) end f)

first_view : {ts : List Spelled} (out : Both) (d : ClassDecl) → View part.Statement [] at_start out ts → script_tree out.trees.scripts ≡ statement.Class d → IsFirst ts out
first_view out d (Ruled {ts = ts} t row e x) f = first_by t ts row out d e (with_items (append-nil row) x) f (is_class t.terminal) refl
first_view out d (Left a e x) f = absurd (no_skip a e)

pub first_of : (ts : List Spelled) (out : Both) (d : ClassDecl) → Ds (item.Part part.Statement ∷ []) at_start ts out → script_tree out.trees.scripts ≡ statement.Class d → IsFirst ts out
first_of ts out d x f = first_view out d (view x) f
