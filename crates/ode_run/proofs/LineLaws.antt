-- Lines and deferred firings, by what there is room for.
use Rattle.std.proofs.Common.{◌≡◌, ◌+◌, ◌-◌, ◌<◌, ◌≤◌, ℕ, Bool, true, false, cond, List, [], ◌∷◌, ◌++◌, length, map, Result, Err, refl, sym, ap, subst, ◌∙◌, arith}
use Rattle.std.specs.Prelude.{nat_le, nat_lt}
use Rattle.std.proofs.lemmas.Bool.Decides.{nat_tests}
use Rattle.std.proofs.lemmas.List.{map-append}
use Rattle.ode_interpreter.specs.Seen.{Ends, firing}
use Rattle.ode_interpreter.specs.declared.stop.Stop.{Stop}
use Rattle.ode_interpreter.specs.declared.stop.Stop.TheVariants as stop
use Rattle.ode_interpreter.specs.declared.firing.Firing as code
use Rattle.ode_known_laws.specs.Knowing.{declared_in}
use Rattle.ode_laws.specs.Alike.{NumberTx, NumberWorld}
use Rattle.ode_overlay.specs.Layers.{Layer}
use Rattle.ode_overlay_laws.specs.Following.{tells_new}
use Rattle.ode_run.specs.Knowing.{beside, deferred_as}
use Rattle.ode_schema.specs.Parts.{trigger_of}
use Rattle.ode_states.specs.declared.fired.Fired.{Fired}
use Rattle.ode_value.specs.Acts.{Outcome, Done, Aborted, does, gives, go_on, looks, prints, with_line}
use Rattle.ode_value.specs.Limits.{cascade_limit, output_limit}
use Rattle.ode_value.specs.Posting.{defers, with_deferred}
use Rattle.ode_value.specs.Texts.{new_line}
use Rattle.ode_value.specs.Transactions.{Firing, looking}
use Rattle.ode_value.specs.Worlds.{Declared}
use Rattle.ode_value.specs.declared.class.Class.{Class}
use Rattle.ode_value.specs.declared.reason.Reason.{Reason}
use Rattle.ode_value.specs.declared.reason.Reason.TheVariants.{Cascade, Output}
use Rattle.ode_view_laws.specs.Viewing.{running}

abbrev tested : Reason → NumberTx → Bool → Outcome (Unit {0}) ℕ (Unit {0})
tested why y b = cond b (Done tt y) (Aborted why y)

same_length : {X Y : Type 0} (f : X → Y) (xs : List X) → length (map f xs) ≡ length xs
same_length f [] = refl
same_length f (x ∷ xs) = omega (arith, same_length f xs)

module _ (all : List Declared) (first : NumberWorld) (x : Layer) (deferred : List (ℕ × Fired)) (text : List ℕ) (left : ℕ) where
  abbrev now : List (ℕ × Fired) → List ℕ → NumberTx
  now ds t = running all first x (beside first ds t left)

  by_line : (line : List ℕ) (b : Bool) → nat_le (length text + length line) output_limit ≡ b → prints line (now deferred text) ≡ go_on (tested Output (now deferred text) b) (λ _. does (with_line line))
  by_line line b is = ap (λ t. go_on (tested Output (now deferred text) t) (λ _. does (with_line line))) is

  pub printed : (line t : List ℕ) → length line ≤ output_limit → length text ≤ output_limit - length line → t ≡ text ++ line → prints line (now deferred text) ≡ Done tt (now deferred t)
  printed line t short room is =
      let fits : nat_le (length text + length line) output_limit ≡ true = grind (arith, nat_tests) in
      by_line line true fits ∙ ap (λ (s : List ℕ). Done tt (now deferred s)) (sym is)

  pub not_printed : (line : List ℕ) → output_limit < length text + length line → prints line (now deferred text) ≡ Aborted Output (now deferred text)
  not_printed line long =
      let full : nat_le (length text + length line) output_limit ≡ false = grind (arith, nat_tests) in
      by_line line false full

  module _ (classes : List Class) (same : classes ≡ declared_in first) (f : code.Firing) where
    abbrev new : ℕ × Fired
    new = (f.object, record { activation = f.activation; class = f.trigger.class; trigger = f.trigger.place; args = f.args })

    abbrev seen : Firing
    seen = firing (trigger_of classes) f

    same_firing : deferred_as (declared_in first) new ≡ seen
    same_firing = ap (λ (cs : List Class). firing (trigger_of cs) f) (sym same)

    by_room : (b : Bool) → nat_lt (length (now deferred text).deferred) cascade_limit ≡ b → defers seen (now deferred text) ≡ go_on (tested Cascade (now deferred text) b) (λ _. does (with_deferred seen))
    by_room b is = ap (λ t. go_on (tested Cascade (now deferred text) t) (λ _. does (with_deferred seen))) is

    pub deferred_then : (ds : List (ℕ × Fired)) → length deferred < cascade_limit → ds ≡ deferred ++ new ∷ [] → defers seen (now deferred text) ≡ Done tt (now ds text)
    deferred_then ds room is =
        let count : length (map (deferred_as (declared_in first)) deferred) ≡ length deferred = same_length (deferred_as (declared_in first)) deferred in
        let fits : nat_lt (length (map (deferred_as (declared_in first)) deferred)) cascade_limit ≡ true = grind (arith, nat_tests) in
        let more : map (deferred_as (declared_in first)) ds ≡ map (deferred_as (declared_in first)) deferred ++ seen ∷ [] =
        ap (map (deferred_as (declared_in first))) is ∙ map-append (deferred_as (declared_in first)) deferred (new ∷ [])
        ∙ ap (λ (q : Firing). map (deferred_as (declared_in first)) deferred ++ q ∷ []) same_firing in
        by_room true fits ∙ ap (λ (qs : List Firing). Done tt (record (now deferred text) { deferred = qs })) (sym more)

    pub not_deferred : cascade_limit ≤ length deferred → defers seen (now deferred text) ≡ Aborted Cascade (now deferred text)
    not_deferred full =
        let count : length (map (deferred_as (declared_in first)) deferred) ≡ length deferred = same_length (deferred_as (declared_in first)) deferred in
        let none : nat_lt (length (map (deferred_as (declared_in first)) deferred)) cascade_limit ≡ false = grind (arith, nat_tests) in
        by_room false none

-- ---- lines before an answer

module _ {R : Type 0} (n m : R) (text line : List ℕ) (y z : NumberTx) where
  pub told : text ≡ line → m ≡ n → prints text y ≡ Done tt z → go_on (prints line y) (λ _. gives n) ≡ Done m z
  told same is done = ap (λ (t : List ℕ). go_on (prints t y) (λ _. gives n)) (sym same) ∙ ap (λ (q : Outcome (Unit {0}) ℕ (Unit {0})). go_on q (λ _. gives n)) done ∙ ap (λ (a : R). Done a z) (sym is)

  pub not_told : (why : Stop) (result : Result (Unit {0}) Stop) → text ≡ line → Ends result z (prints text y) → result ≡ Err why → Ends {R = R} (Err why) z (go_on (prints line y) (λ _. gives n))
  not_told stop.Memory result same ends e = tt
  not_told stop.DiskFault result same ends e = tt
  not_told (stop.Damaged key) result same ends e = tt
  not_told (stop.Abort why) result same ends e =
      let aborted : prints text y ≡ Aborted why z = subst (λ (q : Result (Unit {0}) Stop). Ends q z (prints text y)) e ends in
      ap (λ (t : List ℕ). go_on (prints t y) (λ _. gives n)) (sym same) ∙ ap (λ (q : Outcome (Unit {0}) ℕ (Unit {0})). go_on q (λ _. gives n)) aborted

-- a look at a new object before its line
pub told_new : (n m : ℕ) (text : List ℕ) (x y z : NumberTx) → text ≡ new_line n → m ≡ n → looks (n ∷ []) x ≡ Done tt y → prints text y ≡ Done tt z → tells_new n x ≡ Done m z
told_new n m text x y z same is looked done =
    let seen : looking (n ∷ []) x ≡ y = cc looked in
    ap (λ (q : NumberTx). go_on (prints (new_line n) q) (λ _. gives n)) seen ∙ told n m text (new_line n) y z same is done

pub not_told_new : (n : ℕ) (text : List ℕ) (x y z : NumberTx) (why : Stop) (result : Result (Unit {0}) Stop) → text ≡ new_line n → looks (n ∷ []) x ≡ Done tt y → Ends result z (prints text y) → result ≡ Err why
    → Ends {R = ℕ} (Err why) z (tells_new n x)
not_told_new n text x y z why result same looked ends e =
    let seen : looking (n ∷ []) x ≡ y = cc looked in
    subst (λ (q : NumberTx). Ends {R = ℕ} (Err why) z (go_on (prints (new_line n) q) (λ _. gives n))) (sym seen) (not_told n n text (new_line n) y z why result same ends e)
