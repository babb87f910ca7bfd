-- The numbers of activations stand for their views, whatever the machine does with both.
use Rattle.std.proofs.Common.{◌≡◌, ◌<◌, ℕ, Bool, true, false, cond, List, [], ◌∷◌, ◌++◌, refl, sym, ◌∙◌, ap, subst, arith}
use Rattle.std.specs.Prelude.{All}
use Rattle.std.proofs.lemmas.List.{map-append, drop-append-le, append_assoc, append-nil}
use Rattle.std.proofs.Math.Seq.{drop-length}
use Rattle.std.proofs.lemmas.List.Elements.{All-append, All-cons, All-nil}
use Rattle.std.proofs.lemmas.List.Sums.{fold-append}
use Rattle.ode_value.specs.declared.event.EventExpr.{EventExpr}
use Rattle.ode_value.specs.declared.event.Point.{Point}
use Rattle.ode_value.specs.declared.value.Value.{Value}
use Rattle.ode_value.specs.Views.{History}
use Rattle.ode_value.specs.Marks.{Mark, mark, marks}
use Rattle.ode_value.specs.Objects.{Histories, Starts, new_starts, view_of, IsWithin, grown, grown_whole, rewound}
use Rattle.ode_value.specs.Pasts.{Watch, lists, table_of, StandsFor}
use Rattle.ode_value.specs.Points.{fires, fires_on}
use Rattle.ode_value.specs.Symbols.{symbol}
use Rattle.ode_value.specs.Tables.{Table, next_state, says_yes, IsWord, word_marks, Means, Stands}
use Rattle.ode_value.proofs.SymbolLaws.{symbol-below, symbol_mark-symbol}

-- a table's first state stands for the empty history
pub stands_first : (t : Table) (e : EventExpr) → Means t e → Stands t 0 e []
stands_first t e means = record { word = []; symbols = All-nil (λ s. s < t.symbols); reached = refl; answers = means.answers }

-- a symbol before a word
word_more : (symbols s : ℕ) (word : List ℕ) → s < symbols → All (λ x. x < symbols) word → IsWord symbols (s ∷ word)
word_more symbols s word below each = record { some = omega arith; each = All-cons (λ x. x < symbols) s word below each }

-- one more point
module _ (t : Table) (e : EventExpr) (means : Means t e) (q : ℕ) (params : List Value) (h : History) (p : Point) (stands : Stands t q e (marks e params h)) where
  abbrev s : ℕ
  s = symbol e params p

  below : s < t.symbols
  below = subst (λ n. s < n) (sym means.symbols) (symbol-below e params p)

  more_marks : (word : List ℕ) → marks e params h ++ word_marks e (s ∷ word) ≡ marks e params (h ++ p ∷ []) ++ word_marks e word
  more_marks word =
      ap (λ (m : Mark). marks e params h ++ m ∷ word_marks e word) (symbol_mark-symbol e params p)
      ∙ sym (append_assoc (marks e params h) (mark e params p ∷ []) (word_marks e word))
      ∙ ap (λ (ms : List Mark). ms ++ word_marks e word) (sym (map-append (mark e params) h (p ∷ [])))

  pub fires_next : says_yes t (next_state t q s) ≡ fires_on e params (h ++ p ∷ [])
  fires_next =
      stands.answers (s ∷ []) (word_more t.symbols s [] below (All-nil (λ x. x < t.symbols)))
      ∙ ap (fires e) (more_marks [] ∙ append-nil (marks e params (h ++ p ∷ [])))

  pub stands_next : Stands t (next_state t q s) e (marks e params (h ++ p ∷ []))
  stands_next = record {
    word = stands.word ++ s ∷ [];
    symbols = All-append (λ x. x < t.symbols) stands.word (s ∷ []) stands.symbols (All-cons (λ x. x < t.symbols) s [] below (All-nil (λ x. x < t.symbols)));
    reached = fold-append (next_state t) 0 stands.word (s ∷ []) ∙ ap (λ x. next_state t x s) stands.reached;
    answers = λ word is. stands.answers (s ∷ word) (word_more t.symbols s word below is.each) ∙ ap (fires e) (more_marks word);
  }

-- views of new starts, and of histories with one more point
view_new : (whole : Bool) (h : Histories) → view_of whole h (new_starts h) ≡ []
view_new true h = drop-length h.whole
view_new false h = drop-length h.committed

view_grown : (whole : Bool) (h : Histories) (start : Starts) (p : Point) → IsWithin start h → view_of whole (grown h p) start ≡ view_of whole h start ++ p ∷ []
view_grown true h start p within = drop-append-le start.whole h.whole (p ∷ []) within.whole
view_grown false h start p within = drop-append-le start.committed h.committed (p ∷ []) within.committed

-- By tables that mean their events.
module _ (tables : ℕ → ℕ → Table) (w : Watch) (means : Means (table_of tables w) w.event) where
  abbrev StandsBy : ℕ → History → Type 0
  StandsBy state seen = Stands (table_of tables w) state w.event (marks w.event w.args seen)

  pub begin_stands : (h : Histories) → StandsFor tables w h (lists.begin h) 0
  begin_stands h = subst (StandsBy 0) (sym (view_new w.whole h)) (stands_first (table_of tables w) w.event means)

  abbrev after : ℕ → Point → ℕ
  after state p = next_state (table_of tables w) state (symbol w.event w.args p)

  pub step_stands : (h : Histories) (start : Starts) (state : ℕ) (p : Point) → IsWithin start h → StandsFor tables w h start state → StandsFor tables w (grown h p) start (after state p)
  step_stands h start state p within stands =
      subst (StandsBy (after state p)) (sym (view_grown w.whole h start p within))
      (stands_next (table_of tables w) w.event means state w.args (view_of w.whole h start) p stands)

  whole_by : (whole : Bool) (h : Histories) (start : Starts) (state : ℕ) (p : Point) → IsWithin start h → StandsBy state (view_of whole h start)
      → StandsBy (cond whole (after state p) state) (view_of whole (grown_whole h p) start)
  whole_by true h start state p within stands =
      subst (StandsBy (after state p)) (sym (drop-append-le start.whole h.whole (p ∷ []) within.whole))
      (stands_next (table_of tables w) w.event means state w.args (view_of true h start) p stands)
  whole_by false h start state p within stands = stands

  pub whole_stands : (h : Histories) (start : Starts) (state : ℕ) (p : Point) → IsWithin start h → StandsFor tables w h start state
      → StandsFor tables w (grown_whole h p) start (cond w.whole (after state p) state)
  whole_stands = whole_by w.whole

  back_by : (whole : Bool) (first now : Histories) (start : Starts) (old state : ℕ) → StandsBy old (view_of whole first start) → StandsBy state (view_of whole now start)
      → StandsBy (cond whole state old) (view_of whole (rewound first now) start)
  back_by true first now start old state before stands = stands
  back_by false first now start old state before stands = before

  pub back_stands : (first now : Histories) (start : Starts) (old state : ℕ) → StandsFor tables w first start old → StandsFor tables w now start state
      → StandsFor tables w (rewound first now) start (cond w.whole state old)
  back_stands = back_by w.whole

  pub step_fires : (h : Histories) (start : Starts) (state : ℕ) (p : Point) → IsWithin start h → StandsFor tables w h start state
      → says_yes (table_of tables w) (after state p) ≡ fires_on w.event w.args (view_of w.whole (grown h p) start)
  step_fires h start state p within stands =
      fires_next (table_of tables w) w.event means state w.args (view_of w.whole h start) p stands ∙ ap (fires_on w.event w.args) (sym (view_grown w.whole h start p within))

  whole_fires_by : (whole : Bool) (h : Histories) (start : Starts) (state : ℕ) (p : Point) → whole ≡ true → IsWithin start h → StandsBy state (view_of whole h start)
      → says_yes (table_of tables w) (cond whole (after state p) state) ≡ fires_on w.event w.args (view_of whole (grown_whole h p) start)
  whole_fires_by true h start state p is within stands =
      fires_next (table_of tables w) w.event means state w.args (view_of true h start) p stands
      ∙ ap (fires_on w.event w.args) (sym (drop-append-le start.whole h.whole (p ∷ []) within.whole))
  whole_fires_by false h start state p is within stands = absurd (cc)

  pub whole_fires : (h : Histories) (start : Starts) (state : ℕ) (p : Point) → w.whole ≡ true → IsWithin start h → StandsFor tables w h start state
      → says_yes (table_of tables w) (cond w.whole (after state p) state) ≡ fires_on w.event w.args (view_of w.whole (grown_whole h p) start)
  whole_fires = whole_fires_by w.whole
