-- The numbers of a comparison that is read are in their ranges.
use Rattle.std.proofs.Common.{◌≡◌, ℕ, List, Err, Ok, true, refl, sym, ◌∙◌, ap}
use Rattle.ode_asked_laws.specs.Numbers.{HaveNumbers}
use Rattle.ode_asksyn.specs.Parsing.{in_comparison, IsComparisonOf}
use Rattle.ode_asksyn.specs.Reading.{comparison_of, made_by}
use Rattle.ode_again_laws.proofs.Reading.{ok_same, read_is_tree}
use Rattle.ode_grammar.specs.declared.reader.Start.TheVariants as start
use Rattle.ode_grammar.specs.declared.terminal.Terminal.TheVariants as terminal
use Rattle.ode_grammar.specs.Comparisons.{comparison}
use Rattle.ode_grammar.specs.Grammar.{items_of}
use Rattle.ode_grammar.specs.Stacks.{rest}
use Rattle.ode_heights.specs.declared.height.TheConstants.{HEIGHT_LIMIT}
use Rattle.ode_language.specs.Reading.{read}
use Rattle.ode_lex.specs.declared.token.Token.{Token}
use Rattle.ode_lex.specs.Tokens.{Lexed, lexed, NoToken, Tokens}
use Rattle.ode_reread.specs.Rereading.{IsRead}
use Rattle.ode_reread.proofs.Both.{keep, Both}
use Rattle.ode_reread.proofs.Effects.{spelt, AddsEvent, ReplacesEvent}
use Rattle.ode_reread.proofs.EventPrints.{with_event}
use Rattle.ode_reread.proofs.InstantKinds.{instants_good}
use Rattle.ode_reread.proofs.Readings.{at_start}
use Rattle.ode_reread_classes.proofs.Does.{Does}
use Rattle.ode_reread_classes.proofs.Readings.{reading}
use Rattle.ode_syntax.specs.declared.asked.Comparison.{Comparison}
use Rattle.ode_syntax.specs.declared.trees.Trees.{Trees}
use Rattle.ode_syntax.specs.Built.{comparison_tree, event_tree}
use Rattle.ode_syntax.specs.Kept.{kept_as}
use Rattle.ode_terminals.specs.declared.seen.Place.{Place}
use Rattle.ode_terminals.specs.declared.seen.Place.TheVariants as place
use Rattle.ode_value.specs.Answers.{Answer, ◌>>=◌}
use Rattle.ode_value.specs.Numbers.{has_numbers}
use Rattle.ode_value.specs.declared.event.EventExpr.{EventExpr}

-- ---- the two event expressions on top

record Compared (w : Both) : Type 0 where
  first : EventExpr
  second : EventExpr
  first_is : event_tree (rest w.trees.events) ≡ first
  second_is : event_tree w.trees.events ≡ second
  first_numbers : has_numbers first ≡ true
  second_numbers : has_numbers second ≡ true

event_of : (at : Place) (b c d f : Both) → AddsEvent at b c → ReplacesEvent at c d → ReplacesEvent at d f → AddsEvent at b f
event_of at b c d f x y z = let a = y x.e x.h b x.is x.good in z a.e a.h b a.is a.good

comparison_does : (at : Place) (b w : Both) → Does at comparison b w → Compared w
unfolding kept_as
comparison_does at b w l =
    let p = l.3.3.3 in
    let colon = p.2 in
    let q = colon.3 in
    let e = event_of at (keep (spelt terminal.Colon colon.0 colon.1) p.0) q.0 q.2.0 q.2.2.0 q.1.0 q.2.1.0 q.2.2.1.0 in
    let comma = q.2.2.2 in
    let r = comma.3 in
    let f = event_of at (keep (spelt terminal.Comma comma.0 comma.1) q.2.2.0) r.0 r.2.0 r.2.2.0 r.1.0 r.2.1.0 r.2.2.1.0 in
    let is : w ≡ with_event f.e f.h (with_event e.e e.h p.0) = sym r.2.2.2.3 ∙ (f.is ∙ ap (with_event f.e f.h) e.is) in
    let first = e.good (instants_good at) in
    let second = f.good (instants_good at) in
    record {
      first = e.e;
      second = f.e;
      first_is = ap (λ (x : Both). event_tree (rest x.trees.events)) is;
      second_is = ap (λ (x : Both). event_tree x.trees.events) is;
      first_numbers = first.numbers;
      second_numbers = second.numbers;
    }

-- where the comparison is a text's
pub text_numbers : (text : List ℕ) (c : Comparison) → IsComparisonOf text c → HaveNumbers c
unfolding items_of
text_numbers text c p =
    let read : IsRead HEIGHT_LIMIT start.Comparison place.Comparison text p.0 = record { tokens = p.1.tokens; lexed_as = p.1.lexed_as; makes = p.1.is_tree.makes; within = p.1.is_tree.within } in
    let x = reading HEIGHT_LIMIT start.Comparison place.Comparison text p.0 read in
    let a = comparison_does place.Comparison at_start x.out x.does in
    let first : c.first ≡ a.first = ap (λ (v : Comparison). v.first) p.2 ∙ (ap (λ (v : Trees). event_tree (rest v.events)) (sym x.trees) ∙ a.first_is) in
    let second : c.second ≡ a.second = ap (λ (v : Comparison). v.second) p.2 ∙ (ap (λ (v : Trees). event_tree v.events) (sym x.trees) ∙ a.second_is) in
    (ap has_numbers first ∙ a.first_numbers, ap has_numbers second ∙ a.second_numbers)

-- ---- a piece

comparison_is : (piece : List ℕ) (c : Comparison) → comparison_of piece ≡ Ok c → IsComparisonOf piece c
comparison_is piece c e = by_lexed (lexed piece) refl e where
  by_read : (tokens : List Token) → lexed piece ≡ Tokens tokens → (a : Answer Trees) → read start.Comparison place.Comparison piece tokens ≡ a
      → (a >>= λ (made : Trees). Ok (comparison_tree made)) ≡ Ok c → IsComparisonOf piece c
  by_read tokens is (Ok made) r e = (
    made,
    record { tokens = tokens; lexed_as = is; is_tree = read_is_tree start.Comparison place.Comparison piece tokens made r },
    sym (ok_same (comparison_tree made) c e),
  )
  by_read tokens is (Err why) r e = absurd (cc)

  by_lexed : (l : Lexed) → lexed piece ≡ l → made_by start.Comparison in_comparison comparison_tree piece l ≡ Ok c → IsComparisonOf piece c
  by_lexed (NoToken at) is e = absurd (cc)
  by_lexed (Tokens tokens) is e = by_read tokens is (read start.Comparison place.Comparison piece tokens) refl e

pub piece_numbers : (piece : List ℕ) (c : Comparison) → comparison_of piece ≡ Ok c → HaveNumbers c
piece_numbers piece c e = text_numbers piece c (comparison_is piece c e)
