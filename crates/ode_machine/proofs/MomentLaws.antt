-- What a stop leaves of a run.
use Rattle.std.proofs.Common.{◌≡◌, ◌⊎◌, ⊎_elim, ℕ, zero, suc, List, [], ◌∷◌, ◌++◌, take, drop, refl, sym, ap, ◌∙◌, subst, append_assoc, append-nil}
use Rattle.std.proofs.lemmas.List.{take-append-drop}
use Rattle.ode_host.specs.Host.{LeavesCut, LeavesOnly}
use Rattle.ode_host.specs.View.{View}
use Rattle.ode_host.proofs.Moments.{joined, weaker}
use Rattle.ode_machine.specs.Moments.{Holding, IsAfterSome, LeavesSettling}
use Rattle.ode_machine.specs.Runs.{Item, Settles, Refuses, final, text_of, text_until, world_at}
use Rattle.ode_value.specs.Language.{ListWorld}

-- so many settled transactions, and those of these items before them
abbrev settled_with : List Item → ℕ → ℕ
settled_with [] k = k
settled_with (Settles w text ∷ items) k = suc (settled_with items k)
settled_with (Refuses line ∷ items) k = settled_with items k

after_none : (w : ListWorld) (items : List Item) → world_at 0 w items ≡ w
after_none w [] = refl
after_none w (Settles v text ∷ items) = refl
after_none w (Refuses line ∷ items) = after_none w items

after_behind : (k : ℕ) (w : ListWorld) (before items : List Item) → world_at (settled_with before k) w (before ++ items) ≡ world_at k (final w before) items
after_behind k w [] items = refl
after_behind k w (Settles v text ∷ before) items = after_behind k v before items
after_behind k w (Refuses line ∷ before) items = after_behind k w before items

text_behind : (k : ℕ) (before items : List Item) → text_until (settled_with before k) (before ++ items) ≡ text_of before ++ text_until k items
text_behind k [] items = refl
text_behind k (Settles v text ∷ before) items = ap (λ (l : List ℕ). text ++ l) (text_behind k before items) ∙ sym (append_assoc text (text_of before) (text_until k items))
text_behind k (Refuses line ∷ before) items = ap (λ (l : List ℕ). line ++ l) (text_behind k before items) ∙ sym (append_assoc line (text_of before) (text_until k items))

module _ (holds : Holding) where
  -- nothing was done yet
  pub at_start : (items : List Item) (w : ListWorld) (text image : List ℕ) → holds image w → IsAfterSome holds items w text image text
  at_start items w text image held = record {
    settled = 0;
    held = subst (λ (u : ListWorld). holds image u) (sym (after_none w items)) held;
    front = [];
    rest = text_until 0 items;
    is_front = refl;
    printed = sym (append-nil text);
  }

  -- the line of a refusal is printed in part
  pub in_refusal : (n : ℕ) (line : List ℕ) (more : List Item) (w : ListWorld) (text image out : List ℕ) → holds image w → out ≡ text ++ take n line
      → IsAfterSome holds (Refuses line ∷ more) w text image out
  in_refusal n line more w text image out held printed = record {
    settled = 0;
    held = subst (λ (u : ListWorld). holds image u) (sym (after_none w more)) held;
    front = take n line;
    rest = drop n line ++ text_until 0 more;
    is_front = ap (λ (l : List ℕ). l ++ text_until 0 more) (sym (take-append-drop n line)) ∙ append_assoc (take n line) (drop n line) (text_until 0 more);
    printed = printed;
  }

  -- a transaction is in the file, and its text is printed in part
  in_settled : (n : ℕ) (said : List ℕ) (more : List Item) (w v : ListWorld) (text image out : List ℕ) → holds image v → out ≡ text ++ take n said
      → IsAfterSome holds (Settles v said ∷ more) w text image out
  in_settled n said more w v text image out held printed = record {
    settled = 1;
    held = subst (λ (u : ListWorld). holds image u) (sym (after_none v more)) held;
    front = take n said;
    rest = drop n said ++ text_until 0 more;
    is_front = ap (λ (l : List ℕ). l ++ text_until 0 more) (sym (take-append-drop n said)) ∙ append_assoc (take n said) (drop n said) (text_until 0 more);
    printed = printed;
  }

  -- at a moment of a settling
  pub at_settling : (said : List ℕ) (more : List Item) (w v : ListWorld) (text image out : List ℕ) → LeavesSettling holds w v text said image out
      → IsAfterSome holds (Settles v said ∷ more) w text image out
  at_settling said more w v text image out left = ⊎_elim
      (λ was. subst (λ (o : List ℕ). IsAfterSome holds (Settles v said ∷ more) w text image o) (sym was.1) (at_start (Settles v said ∷ more) w text image was.0))
      (λ now. in_settled now.1 said more w v text image out now.0 now.2)
      left

  -- behind some items
  pub behind : (before items : List Item) (w : ListWorld) (text image out : List ℕ) → IsAfterSome holds items (final w before) (text ++ text_of before) image out
      → IsAfterSome holds (before ++ items) w text image out
  behind before items w text image out some = record {
    settled = settled_with before some.settled;
    held = subst (λ (u : ListWorld). holds image u) (sym (after_behind some.settled w before items)) some.held;
    front = text_of before ++ some.front;
    rest = some.rest;
    is_front = text_behind some.settled before items ∙ ap (λ (l : List ℕ). text_of before ++ l) some.is_front ∙ sym (append_assoc (text_of before) some.front some.rest);
    printed = some.printed ∙ append_assoc text (text_of before) some.front;
  }

  -- a run of some items, and of those behind them
  pub runs_on : (before items : List Item) (w : ListWorld) (text : List ℕ) (old mid new : View) → LeavesOnly old mid (IsAfterSome holds (before ++ items) w text)
      → LeavesOnly mid new (IsAfterSome holds items (final w before) (text ++ text_of before)) → LeavesOnly old new (IsAfterSome holds (before ++ items) w text)
  runs_on before items w text old mid new first rest =
      joined old mid new (IsAfterSome holds (before ++ items) w text) first
      (weaker mid new (IsAfterSome holds items (final w before) (text ++ text_of before)) (IsAfterSome holds (before ++ items) w text)
      (λ c o left. behind before items w text c o left) rest)

  -- a settling's moments are those of its item
  pub settling_leaves : (said : List ℕ) (more : List Item) (w v : ListWorld) (text : List ℕ) (old new : View) → LeavesOnly old new (LeavesSettling holds w v text said)
      → LeavesOnly old new (IsAfterSome holds (Settles v said ∷ more) w text)
  settling_leaves said more w v text old new run =
      weaker old new (LeavesSettling holds w v text said) (IsAfterSome holds (Settles v said ∷ more) w text) (λ c o left. at_settling said more w v text c o left) run

  -- and so are those of a refusal's line, over a file that holds the world
  pub refusal_leaves : (line : List ℕ) (more : List Item) (w : ListWorld) (file text : List ℕ) (old new : View) → holds file w
      → LeavesOnly old new (LeavesCut file text line) → LeavesOnly old new (IsAfterSome holds (Refuses line ∷ more) w text)
  refusal_leaves line more w file text old new held run =
      weaker old new (LeavesCut file text line) (IsAfterSome holds (Refuses line ∷ more) w text)
      (λ c o left. in_refusal left.1 line more w text c o (subst (λ (f : List ℕ). holds f w) (sym left.0) held) left.2) run
