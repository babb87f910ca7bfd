-- A table of an event means it when its masks are moved too, and its states stand for views of points with the new values.
use Rattle.std.proofs.Common.{◌≡◌, ℕ, ◌≤◌, Bool, true, false, List, [], ◌∷◌, ◌++◌, length, map, refl, ap, sym, ◌∙◌, subst}
use Rattle.std.specs.List.{range_with_len}
use Rattle.std.proofs.lemmas.List.{drop-map, length-map, map-append}
use Rattle.ode_value.specs.declared.event.EventExpr.{EventExpr}
use Rattle.ode_value.specs.declared.event.Point.{Point}
use Rattle.ode_value.specs.declared.value.Value.{Value}
use Rattle.ode_value.specs.Changing.{point_with}
use Rattle.ode_value.specs.Marks.{Mark, spelled, marks}
use Rattle.ode_value.specs.Moving.{moved_event, moved_expr}
use Rattle.ode_value.specs.Objects.{Histories, Starts, IsWithin, altered, view_of}
use Rattle.ode_value.specs.Pasts.{Watch, StandsFor, table_of}
use Rattle.ode_value.specs.Points.{fires}
use Rattle.ode_value.specs.Symbols.{symbol_count, symbol_mark}
use Rattle.ode_value.specs.Tables.{Table, Means, Stands, word_marks}
use Rattle.ode_value.specs.TreeCount.{symbol_marks, tree_count}
use Rattle.ode_value.specs.Views.{History}
use Rattle.ode_value.proofs.MovedEvents.{count-stays}
use Rattle.ode_value.proofs.MovedMarks.{symbols-spelled, points-spelled}
use Rattle.ode_trees.proofs.CountLaws.{count-marks}
use Rattle.ode_change_laws.specs.Moves.{moved_watch}
use Rattle.ode_change_laws.proofs.MovedMachines.{count-alike, fires-alike}

module _ (at more : ℕ) (e : EventExpr) where
  abbrev other : EventExpr
  other = moved_event at more e

  word-spelled : (word : List ℕ) → map (spelled other) (word_marks other word) ≡ map (spelled e) (word_marks e word)
  word-spelled [] = refl
  word-spelled (s ∷ word) = λ i. symbols-spelled at more e s i ∷ word-spelled word i

  pub fires-moved : (m n : List Mark) → map (spelled other) m ≡ map (spelled e) n → fires other m ≡ fires e n
  fires-moved m n alike = fires-alike (moved_expr at more) e m n alike

  pub means-moved : (t : Table) → Means t e → Means t other
  means-moved t means = record {
    symbols = means.symbols ∙ sym (count-stays at more e);
    answers = λ word is. means.answers word is ∙ sym (fires-moved (word_marks other word) (word_marks e word) (word-spelled word));
  }

  pub stands-moved : (t : Table) (q : ℕ) (m n : List Mark) → map (spelled other) m ≡ map (spelled e) n → Stands t q e n → Stands t q other m
  stands-moved t q m n alike stands = record {
    word = stands.word;
    symbols = stands.symbols;
    reached = stands.reached;
    answers = λ word is. stands.answers word is ∙ sym (fires-moved (m ++ word_marks other word) (n ++ word_marks e word) (longer word));
  } where
    longer : (word : List ℕ) → map (spelled other) (m ++ word_marks other word) ≡ map (spelled e) (n ++ word_marks e word)
    longer word =
        map-append (spelled other) m (word_marks other word)
        ∙ (λ i. alike i ++ word-spelled word i)
        ∙ sym (map-append (spelled e) n (word_marks e word))

  symbols-listed : (ns : List ℕ) → map (spelled other) (map (symbol_mark other) ns) ≡ map (spelled e) (map (symbol_mark e) ns)
  symbols-listed ns = word-spelled ns

  lists-same : map (spelled other) (symbol_marks other) ≡ map (spelled e) (symbol_marks e)
  lists-same = ap (λ n. map (spelled other) (map (symbol_mark other) (range_with_len 0 n))) (count-stays at more e) ∙ symbols-listed (range_with_len 0 (symbol_count e))

  pub trees-moved : tree_count other ≡ tree_count e
  trees-moved =
      let lists = map (spelled e) (symbol_marks e) in
      sym (count-marks other lists (symbol_marks other) (sym lists-same))
      ∙ count-alike (moved_expr at more) e lists
      ∙ count-marks e lists (symbol_marks e) refl

-- ---- views of points with the new values

module _ (new : List Value) (at : ℕ) where
  abbrev with_new : Point → Point
  with_new = point_with at new

  points-spelled-each : (e : EventExpr) (args : List Value) (points : History)
      → map (spelled (moved_event at (length new) e)) (marks (moved_event at (length new) e) args (map with_new points)) ≡ map (spelled e) (marks e args points)
  points-spelled-each e args [] = refl
  points-spelled-each e args (p ∷ points) = λ i. points-spelled new at e args p i ∷ points-spelled-each e args points i

  view-altered : (whole : Bool) (h : Histories) (start : Starts) → view_of whole (altered with_new h) start ≡ map with_new (view_of whole h start)
  view-altered true h start = drop-map with_new start.whole h.whole
  view-altered false h start = drop-map with_new start.committed h.committed

  pub stands-altered : (tables : ℕ → ℕ → Table) (w : Watch) (h : Histories) (start : Starts) (state : ℕ)
      → StandsFor tables w h start state → StandsFor tables (moved_watch at (length new) w) (altered with_new h) start state
  stands-altered tables w h start state stands =
      let e = w.event in
      let other = moved_event at (length new) e in
      let view = view_of w.whole h start in
      stands-moved at (length new) e (table_of tables w) state (marks other w.args (view_of w.whole (altered with_new h) start)) (marks e w.args view)
      (ap (λ v. map (spelled other) (marks other w.args v)) (view-altered w.whole h start) ∙ points-spelled-each e w.args view)
      stands

pub within-altered : (change : Point → Point) (h : Histories) (start : Starts) → IsWithin start h → IsWithin start (altered change h)
within-altered change h start within = record {
  whole = subst (λ n. start.whole ≤ n) (sym (length-map h.whole change)) within.whole;
  committed = subst (λ n. start.committed ≤ n) (sym (length-map h.committed change)) within.committed;
}
