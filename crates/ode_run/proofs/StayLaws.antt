-- An object is there when it is made, and stays where it has one more activation.
use Rattle.std.proofs.Common.{◌≡◌, ◌∙◌, ℕ, Bool, true, false, cond, List, [], ◌∷◌, length, Option, Some, None, Result, Ok, Err, refl, sym, ap, subst}
use Rattle.std.specs.Prelude.{IfOk, ◌+◌, ◌&&◌, nat_le}
use Rattle.std.specs.Option.{option_and_then}
use Rattle.std.proofs.lemmas.Bool.{eq-eqb}
use Rattle.ode_interpreter.specs.Seen.{Ends}
use Rattle.ode_interpreter.specs.declared.stop.Stop.{Stop}
use Rattle.ode_laws.proofs.Rows.{find-with}
use Rattle.ode_laws.specs.Alike.{NumberTx, NumberWorld}
use Rattle.ode_overlay.specs.Layers.{Layer}
use Rattle.ode_overlay_laws.proofs.MakingLaws.{numbered_push}
use Rattle.ode_run.specs.Activating.{IsOfClass}
use Rattle.ode_value.specs.Acts.{Act, Outcome, Done, Aborted, ◌>>◌, does, gives, go_on, looks, needs, nothing, prints, turns, with_line}
use Rattle.ode_value.specs.Changes.{Draw, changes, draws_number, holding, key_count}
use Rattle.ode_value.specs.Classes.{Trigger}
use Rattle.ode_value.specs.Denoting.{if_live, object_at, object_numbered}
use Rattle.ode_value.specs.Keys.{activation_key, object_key, version_key}
use Rattle.ode_value.specs.Lengths.{version_size}
use Rattle.ode_value.specs.Limits.{args_limit, change_limit, output_limit, value_limit}
use Rattle.ode_value.specs.Making.{makes, object_with, stamp_now, switches_on, with_activation, with_active, with_new}
use Rattle.ode_value.specs.Pasts.{numbers}
use Rattle.ode_value.specs.Statements.{activates_initial}
use Rattle.ode_value.specs.Tables.{Table}
use Rattle.ode_value.specs.Texts.{active_line, new_line}
use Rattle.ode_value.specs.Transactions.{drawing, looking, touching}
use Rattle.ode_value.specs.Worlds.{Declared, Object}
use Rattle.ode_value.specs.declared.key.Key.{Key}
use Rattle.ode_value.specs.declared.reason.Reason.{Reason}
use Rattle.ode_value.specs.declared.reason.Reason.TheVariants.{Output, Size, Space}
use Rattle.ode_value.specs.declared.value.Value.{Value}
use Rattle.ode_view_laws.proofs.ActLaws.{is_new}
use Rattle.ode_view_laws.proofs.ViewLaws.{view_stands}
use Rattle.ode_view_laws.specs.Showing.{IsViewed}
use Rattle.ode_view_laws.specs.Viewing.{Beside, running}

-- what an act leads to, where it is done
abbrev Leads : {R : Type 0} → (R → NumberTx → Type 0) → Outcome (Unit {0}) ℕ R → Type 0
Leads P (Done r x) = P r x
Leads P (Aborted why x) = Unit {0}

led : {R : Type 0} (P : R → NumberTx → Type 0) (o : Outcome (Unit {0}) ℕ R) (r : R) (x : NumberTx) → o ≡ Done r x → Leads P o → P r x
led P o r x is leads = subst (Leads P) is leads

leads_on : {R S : Type 0} (P : R → NumberTx → Type 0) (Q : S → NumberTx → Type 0) (o : Outcome (Unit {0}) ℕ R) (next : R → Act (Unit {0}) ℕ S)
    → Leads P o → ((r : R) (x : NumberTx) → P r x → Leads Q (next r x)) → Leads Q (go_on o next)
leads_on P Q (Done r x) next leads rest = rest r x leads
leads_on P Q (Aborted why x) next leads rest = tt

-- a test
abbrev tested : Reason → NumberTx → Bool → Outcome (Unit {0}) ℕ (Unit {0})
tested why y b = cond b (Done tt y) (Aborted why y)

-- a change holds its keys, and nothing else is another
changes_lead : (ks : List Key) (size : ℕ) (draw : Draw) (y : NumberTx) → Leads (λ _ x. x ≡ holding ks (drawing draw.number y)) (changes ks size draw y)
changes_lead ks size draw y = by_size (nat_le size value_limit && nat_le (key_count (holding ks y)) change_limit) where
  by_space : (b : Bool) → Leads (λ _ x. x ≡ holding ks (drawing draw.number y)) (go_on (tested Space (drawing draw.number y) b) (λ _. does (holding ks)))
  by_space true = refl
  by_space false = tt

  by_size : (b : Bool) → Leads (λ _ x. x ≡ holding ks (drawing draw.number y)) (go_on (tested Size y b) (λ _. does (drawing draw.number) >> (needs Space (λ (x : NumberTx). draw.left x.now.bones) >> does (holding ks))))
  by_size true = by_space (draw.left y.now.bones)
  by_size false = tt

-- a line leaves the world
prints_lead : (line : List ℕ) (y : NumberTx) → Leads (λ _ x. x.now ≡ y.now) (prints line y)
prints_lead line y = by_room (nat_le (length y.text + length line) output_limit) where
  by_room : (b : Bool) → Leads (λ _ x. x.now ≡ y.now) (go_on (tested Output y b) (λ _. does (with_line line)))
  by_room true = refl
  by_room false = tt

of_now : (y z : NumberTx) (id n : ℕ) → z.now ≡ y.now → IsOfClass y id n → IsOfClass z id n
of_now y z id n same of = record {
  object = of.object;
  there = ap (λ (w : NumberWorld). object_at w.bones id) same ∙ of.there;
  class = of.class;
}

-- ---- a new object

module _ (tables : ℕ → ℕ → Table) (class : ℕ) (fields : List Value) (y : NumberTx) (none : object_numbered y.now.bones.next y.now.bones.objects ≡ None) where
  abbrev id : ℕ
  id = y.now.bones.next

  abbrev stamp : ℕ
  stamp = stamp_now y.now.bones

  abbrev keys : List Key
  keys = object_key id ∷ version_key id 1 ∷ []

  -- the transaction with it
  abbrev made : NumberTx → NumberTx
  made x = touching id (record x { now = with_new (numbers tables) class fields x.now })

  made_now : IsOfClass (made (holding keys (drawing true y))) id class
  made_now = record {
    object = object_with stamp id class fields;
    there = ap (option_and_then if_live) (numbered_push id y.now.bones.objects (object_with stamp id class fields) (eq-eqb id id refl) none);
    class = refl;
  }

  lined : (x : NumberTx) → x ≡ holding keys (drawing true y) → Leads (λ n w. IsOfClass w n class) (go_on (prints (new_line id) (looking (id ∷ []) (made x))) (λ _. gives id))
  lined x same =
      leads_on (λ _ w. w.now ≡ (made x).now) (λ n w. IsOfClass w n class) (prints (new_line id) (looking (id ∷ []) (made x))) (λ _. gives id) (prints_lead (new_line id) (looking (id ∷ []) (made x)))
      (λ _ w now. of_now (made x) w id class now (subst (λ (u : NumberTx). IsOfClass (made u) id class) (sym same) made_now))

  pub made_there : (z : NumberTx) (n : ℕ) → makes (numbers tables) class fields y ≡ Done n z → IsOfClass z n class
  made_there z n is =
      led (λ m w. IsOfClass w m class) (makes (numbers tables) class fields y) n z is
      (leads_on (λ _ x. x ≡ holding keys (drawing true y)) (λ m w. IsOfClass w m class) (changes keys (version_size stamp fields) draws_number y)
      (λ _. turns (with_new (numbers tables) class fields) >> (does (touching id) >> (looks (id ∷ []) >> (prints (new_line id) >> gives id)))) (changes_lead keys (version_size stamp fields) draws_number y)
      (λ _ x same. lined x same))

-- no object has the next number
pub none_next : (all : List Declared) (first : NumberWorld) (beside : Beside) (x : Layer) → IsViewed first x
    → object_numbered (running all first x beside).now.bones.next (running all first x beside).now.bones.objects ≡ None
none_next all first beside x viewed =
    subst (λ (n : ℕ). object_numbered n (running all first x beside).now.bones.objects ≡ None) (sym (view_stands all first x beside viewed.over).next) (is_new all first beside x viewed).object

-- one that was made
pub made_by : (tables : ℕ → ℕ → Table) (class : ℕ) (fields : List Value) (y z : NumberTx) → object_numbered y.now.bones.next y.now.bones.objects ≡ None → (result : Result ℕ Stop)
    → Ends result z (makes (numbers tables) class fields y) → IfOk result (λ n. IsOfClass z n class)
made_by tables class fields y z none (Ok n) ends = made_there tables class fields y none z n ends
made_by tables class fields y z none (Err why) ends = tt

-- ---- one more activation

module _ (tables : ℕ → ℕ → Table) (id class : ℕ) (t : Trigger) (y : NumberTx) (o : Object) (found : object_numbered id y.now.bones.objects ≡ Some o) (live : o.live ≡ true) (same : o.class ≡ class) where
  abbrev number : ℕ
  number = y.now.bones.next

  abbrev key_of : List Key
  key_of = activation_key id number ∷ []

  abbrev on : Object → Object
  on = with_activation t [] number

  abbrev switched : NumberTx → NumberTx
  switched x = record x { now = with_active (numbers tables) id t [] x.now }

  switched_now : IsOfClass (switched (holding key_of (drawing true y))) id class
  switched_now = record {
    object = on o;
    there =
        ap (option_and_then if_live) (find-with id id on (λ p. refl) y.now.bones.objects o found ∙ ap (λ (b : Bool). Some (cond b (on o) o)) (eq-eqb id id refl))
        ∙ ap (λ (b : Bool). cond b (Some (on o)) None) live;
    class = same;
  }

  behind_line : (x : NumberTx) → x ≡ holding key_of (drawing true y) → Leads (λ _ w. IsOfClass w id class) (go_on (prints (active_line number) (switched x)) (λ _. gives number))
  behind_line x is =
      leads_on (λ _ w. w.now ≡ (switched x).now) (λ _ w. IsOfClass w id class) (prints (active_line number) (switched x)) (λ _. gives number) (prints_lead (active_line number) (switched x))
      (λ _ w now. of_now (switched x) w id class now (subst (λ (u : NumberTx). IsOfClass (switched u) id class) (sym is) switched_now))

  pub switched_there : (z : NumberTx) → activates_initial (numbers tables) id t y ≡ Done tt z → IsOfClass z id class
  unfolding args_limit
  switched_there z is =
      led (λ _ w. IsOfClass w id class) (activates_initial (numbers tables) id t y) tt z is
      (leads_on (λ _ w. IsOfClass w id class) (λ _ w. IsOfClass w id class) (switches_on (numbers tables) id t [] y) (λ _. nothing)
      (leads_on (λ _ x. x ≡ holding key_of (drawing true y)) (λ _ w. IsOfClass w id class) (changes key_of 0 draws_number y)
      (λ _. turns (with_active (numbers tables) id t []) >> (prints (active_line number) >> gives number)) (changes_lead key_of 0 draws_number y) (λ _ x held. behind_line x held))
      (λ _ w there. there))

-- an object that is there is one of its number
record IsNumbered (y : NumberTx) (id class : ℕ) : Type 0 where
  object : Object
  found : object_numbered id y.now.bones.objects ≡ Some object
  live : object.live ≡ true
  class_is : object.class ≡ class

numbered : (y : NumberTx) (id class : ℕ) → IsOfClass y id class → IsNumbered y id class
numbered y id class of = by_object (object_numbered id y.now.bones.objects) refl of.there where
  by_live : (o : Object) (b : Bool) → o.live ≡ b → object_numbered id y.now.bones.objects ≡ Some o → cond b (Some o) None ≡ Some of.object → IsNumbered y id class
  by_live o true live found e =
      let same : o ≡ of.object = cc e in
      record { object = o; found = found; live = live; class_is = ap (λ (q : Object). q.class) same ∙ of.class }
  by_live o false live found e = absurd (cc e)

  by_object : (f : Option Object) → object_numbered id y.now.bones.objects ≡ f → option_and_then if_live f ≡ Some of.object → IsNumbered y id class
  by_object None found e = absurd (cc e)
  by_object (Some o) found e = by_live o o.live refl found e

pub switched_by : (tables : ℕ → ℕ → Table) (n class : ℕ) (t : Trigger) (y z : NumberTx) → IsOfClass y n class → (result : Result (Unit {0}) Stop)
    → Ends result z (activates_initial (numbers tables) n t y) → IfOk result (λ done. IsOfClass z n class)
switched_by tables n class t y z of (Ok done) ends =
    let there = numbered y n class of in
    switched_there tables n class t y there.object there.found there.live there.class_is z ends
switched_by tables n class t y z of (Err why) ends = tt
