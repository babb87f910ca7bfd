-- Looks, and what they leave.
use Rattle.std.proofs.Common.{◌≡◌, ◌+◌, ◌<◌, ℕ, Bool, List, [], ◌∷◌, drop, get_or, length, Result, sym, ap, subst, ◌∙◌}
use Rattle.std.proofs.lemmas.List.{drop_more}
use Rattle.ode_host.specs.View.{View}
use Rattle.ode_interpreter.specs.Seen.{Ends}
use Rattle.ode_interpreter.specs.declared.stop.Stop.{Stop}
use Rattle.ode_keep.specs.Entries.{Entries}
use Rattle.ode_known_laws.proofs.KnownLaws.{footed_known}
use Rattle.ode_laws.specs.Alike.{NumberTx, NumberWorld}
use Rattle.ode_overlay.specs.Layers.{Layer, looking}
use Rattle.ode_run.specs.Knowing.{Holds, Known}
use Rattle.ode_value.specs.Acts.{Act, Done, ◌>>◌, each, looks}
use Rattle.ode_value.specs.Completing.{tests_all, tests_touched}
use Rattle.ode_value.specs.Footprints.{with_looks}
use Rattle.ode_value.specs.Transactions as transactions
use Rattle.ode_value.specs.Worlds.{Declared}
use Rattle.ode_view_laws.specs.Viewing.{Beside, running, world_now}

-- of an overlay, on the view
pub looked : (all : List Declared) (first : NumberWorld) (b : Beside) (x x' : Layer) (ids : List ℕ) → x' ≡ looking ids x → looks ids (running all first x b) ≡ Done tt (running all first x' b)
unfolding world_now
looked all first b x x' ids is = ap (λ (q : Layer). Done tt (running all first q b)) (sym is)

-- what is known goes on
pub looked_holds : {H : Type 0} (seen : H → View) (held : Entries → Type 0) (live : Bool) (now : H) (x x' : Layer) (left size : ℕ) (k : Known H) (ids : List ℕ) → x' ≡ looking ids x
    → Holds seen held live now x left size k → Holds seen held live now x' left size k
looked_holds seen held live now x x' left size k ids is holds =
    subst (λ (q : Layer). Holds seen held live now q left size k) (sym is) (record {
      usable = holds.usable;
      records = holds.records;
      looks = holds.looks;
      faults = holds.faults;
      known = footed_known k.entries k.first x (with_looks ids x.footprint) holds.known;
      budget = holds.budget;
      bytes = holds.bytes;
    })

-- an act behind them
pub behind_looks : {R : Type 0} (ids : List ℕ) (act : Act (Unit {0}) ℕ R) (result : Result R Stop) (y z w : NumberTx) → looks ids y ≡ Done tt z → Ends result w (act z) → Ends result w ((looks ids >> act) y)
behind_looks ids act result y z w looked ends =
    let seen : transactions.looking ids y ≡ z = cc looked in
    subst (λ (q : NumberTx). Ends result w (act q)) (sym seen) ends

-- one after another
pub looks_next : (d : ℕ) (ids : List ℕ) (i : ℕ) (y z : NumberTx) → i < length ids → looks (get_or ids i d ∷ []) y ≡ Done tt z → looks (drop i ids) y ≡ looks (drop (i + 1) ids) z
looks_next d ids i y z less looked =
    let seen : transactions.looking (get_or ids i d ∷ []) y ≡ z = cc looked in
    ap (λ (rs : List ℕ). looks rs y) (drop_more ids i d less) ∙ ap (looks (drop (i + 1) ids)) seen

-- the soft constraints behind a look at all touched objects
pub soft_behind : (ids : List ℕ) (y z w : NumberTx) (result : Result (Unit {0}) Stop) → ids ≡ y.touched → looks ids y ≡ Done tt z → Ends result w (each tests_touched ids z) → Ends result w (tests_all y)
unfolding tests_all
soft_behind ids y z w result same looked ends =
    let seen : transactions.looking ids y ≡ z = cc looked in
    subst (λ (ts : List ℕ). Ends result w (each tests_touched ts (transactions.looking ts y))) same
    (subst (λ (q : NumberTx). Ends result w (each tests_touched ids q)) (sym seen) ends)
