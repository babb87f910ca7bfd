-- The queue of a good world, and the references in its entries' arguments, keep the rules of an opening.
use Rattle.std.proofs.Common.{◌≡◌, ℕ, ◌≤◌, List, [], ◌∷◌, map, length, drop, cond, true, Option, Some, None, Ok, refl, sym, ap, subst, ◌∙◌}
use Rattle.std.specs.Prelude.{◌&&◌, nat_le, nat_lt}
use Rattle.std.specs.List.{AllByRecursion}
use Rattle.std.specs.Option.{IfSome, IsSome, option_and_then, option_map, option_map_or}
use Rattle.std.proofs.lemmas.List.{drop_all, length-map, take_all}
use Rattle.ode_codec.specs.StoredRows.{entry_row, object_row}
use Rattle.ode_codec.specs.declared.record.Record.{Record}
use Rattle.ode_heap.specs.Answering.{IsReadableEntry, IsReadableObject, counters_of, entry_of}
use Rattle.ode_keep.specs.Entries.{Entries}
use Rattle.ode_opening_laws.specs.Holding.{class_of}
use Rattle.ode_opening_laws.proofs.Decoding.{Again}
use Rattle.ode_opening_laws.proofs.Each.{all_then}
use Rattle.ode_opening_objects.specs.Fitting.{descends}
use Rattle.ode_opening_objects.specs.Heads.{head_in}
use Rattle.ode_opening_objects.specs.Objects.{references_fit, references_keep}
use Rattle.ode_opening_objects.specs.Triggers.{at_most, entry_fits, entry_keeps, has_turn, have_trigger, none_over, waits}
use Rattle.ode_opening_objects.specs.declared.head.Head.{Head}
use Rattle.ode_passes.specs.Rules.{Ruled, ◌>>=◌, each, found, needs}
use Rattle.ode_passes.specs.declared.cause.Cause.TheVariants as cause
use Rattle.ode_sound_laws.specs.Typed.{AreFromOne}
use Rattle.ode_value.specs.Classes.{Trigger, trigger_at}
use Rattle.ode_value.specs.Denoting.{if_live, object_at, object_numbered}
use Rattle.ode_value.specs.Fitting.{trigger_in}
use Rattle.ode_value.specs.GoodWorlds.{AreBones, IsEntry, IsObject, activation_of}
use Rattle.ode_value.specs.Language.{Language}
use Rattle.ode_value.specs.Limits.{generation_limit, queue_limit}
use Rattle.ode_value.specs.Records.{Row}
use Rattle.ode_value.specs.Worlds.{Bones, Entry, Object, World}
use Rattle.ode_value.specs.declared.class.Class.{Class}
use Rattle.ode_opened_laws.proofs.Keeping.{both, each_map, less, numbered_all, tells, upto}
use Rattle.ode_opened_laws.proofs.Telling.{entry_reads, head_of}
use Rattle.ode_opened_laws.proofs.Triggered.{IsGiven, descends_to, given, trigger_refers, trigger_there}

module _ (l : Language) (w : World (Unit {0}) ℕ) (are : AreBones l w.bones) (again : Again) (reads : AllByRecursion (IsReadableObject w) w.bones.objects) (ones : AreFromOne w.bones) where
  abbrev b : Bones
  b = w.bones

  abbrev classes : List Class
  classes = map class_of b.classes

  abbrev heads : ℕ → Option Head
  heads = head_in (map object_row b.objects)

  abbrev entries : Entries
  entries = map entry_row b.queue

  -- ---- an entry

  record IsWaiting (q : ℕ × Entry) : Type 0 where
    is : IsEntry b q
    reads_it : IsReadableEntry q

  all_waiting : (qs : List (ℕ × Entry)) → AllByRecursion (IsEntry b) qs → AllByRecursion IsReadableEntry qs → AllByRecursion IsWaiting qs
  all_waiting [] one two = tt
  all_waiting (q ∷ qs) one two = (record { is = one.0; reads_it = two.0 }, all_waiting qs one.1 two.1)

  -- the trigger's class is its object's or an ancestor, where the object is there
  descends_there : (e : Entry) (g : Option Object) → object_numbered e.object b.objects ≡ g → IfSome (option_and_then if_live g) (λ o. IsSome (trigger_in b.classes o.class (activation_of e)))
      → option_map_or (λ (h : Head). descends classes h.class e.class) (option_map head_of g) true ≡ true
  descends_there e None there has = refl
  descends_there e (Some o) there has =
      let live : o.live ≡ true = numbered_all (λ (p : Object). p.live ≡ true) b.objects e.object o (all_then (IsObject b) (λ (p : Object). p.live ≡ true) (λ p is. is.live) b.objects are.objects) there in
      by (trigger_in b.classes o.class (activation_of e)) refl (subst (λ t. IfSome (cond t (Some o) None) (λ p. IsSome (trigger_in b.classes p.class (activation_of e)))) live has)
    where
      by : (g : Option Trigger) → trigger_in b.classes o.class (activation_of e) ≡ g → IsSome g → descends classes o.class e.class ≡ true
      by None is some = absurd (cc)
      by (Some t) is some = descends_to l b.added b.classes are.classes o.class (activation_of e) t is

  object_there : (e : Entry) → IfSome (object_at b e.object) (λ o. IsSome (trigger_in b.classes o.class (activation_of e)))
      → option_map_or (λ (h : Head). descends classes h.class e.class) (heads e.object) true ≡ true
  object_there e has =
      ap (λ (g : Option Head). option_map_or (λ (h : Head). descends classes h.class e.class) g true) (tells l w are again reads ones e.object)
      ∙ descends_there e (object_numbered e.object b.objects) refl has

  waiting : (q : ℕ × Entry) → IsWaiting q → waits (counters_of b) classes heads q.0 (entry_of q.1) ≡ true
  waiting q it =
      let e = q.1 in
      let t : IsGiven b e.args (trigger_at b.classes e.class e.trigger) = given b e.args (trigger_at b.classes e.class e.trigger) it.is.trigger in
      both (has_turn (counters_of b) q.0 (entry_of e)) (have_trigger classes e.class e.trigger e.args && (nat_lt e.object b.next && option_map_or (λ (h : Head). descends classes h.class e.class) (heads e.object) true))
      (both (nat_lt q.0 b.next_entry) (nat_le 1 e.generation && nat_le e.generation generation_limit) (less q.0 b.next_entry it.is.number)
      (both (nat_le 1 e.generation) (nat_le e.generation generation_limit) (upto 1 e.generation it.is.generation.0) (upto e.generation generation_limit it.is.generation.1)))
      (both (have_trigger classes e.class e.trigger e.args) (nat_lt e.object b.next && option_map_or (λ (h : Head). descends classes h.class e.class) (heads e.object) true)
      (trigger_there l w are again e.class e.trigger e.args t.trigger t.is t.fits)
      (both (nat_lt e.object b.next) (option_map_or (λ (h : Head). descends classes h.class e.class) (heads e.object) true) (less e.object b.next it.is.object) (object_there e it.is.fits)))

  entry_kept : (q : ℕ × Entry) → IsWaiting q → entry_keeps (counters_of b) classes heads (entry_row q) ≡ Ok tt
  entry_kept q it =
      let why = cause.Record (entry_row q).0 in
      ap (λ (g : Option Record). found why g >>= λ r. needs why (entry_fits (counters_of b) classes heads r)) (entry_reads again q it.reads_it)
      ∙ ap (needs why) (waiting q it)

  entry_refers : (q : ℕ × Entry) → IsWaiting q → references_keep b.next classes heads (entry_row q) ≡ Ok tt
  entry_refers q it =
      let why = cause.Record (entry_row q).0 in
      let e = q.1 in
      let t : IsGiven b e.args (trigger_at b.classes e.class e.trigger) = given b e.args (trigger_at b.classes e.class e.trigger) it.is.trigger in
      ap (λ (g : Option Record). found why g >>= λ r. needs why (references_fit b.next classes heads r)) (entry_reads again q it.reads_it)
      ∙ ap (needs why) (trigger_refers l w are again reads ones e.class e.trigger e.args t.trigger t.is t.fits)

  -- ---- the queue

  module _ (queue : AllByRecursion IsReadableEntry b.queue) where
    waiting_all : AllByRecursion IsWaiting b.queue
    waiting_all = all_waiting b.queue are.queue queue

    pub queue_kept : at_most queue_limit (entry_keeps (counters_of b) classes heads) entries ≡ Ok tt
    queue_kept =
        let rule : Row → Ruled (Unit {0}) = entry_keeps (counters_of b) classes heads in
        let few : length entries ≤ queue_limit = subst (λ (n : ℕ). n ≤ queue_limit) (sym (length-map b.queue entry_row)) are.few in
        ap (λ (es : Entries). each rule es >>= λ _. none_over (drop queue_limit entries)) (take_all queue_limit entries few)
        ∙ ap (λ (m : Ruled (Unit {0})). m >>= λ _. none_over (drop queue_limit entries))
        (each_map rule entry_row b.queue (all_then IsWaiting (λ (q : ℕ × Entry). rule (entry_row q) ≡ Ok tt) entry_kept b.queue waiting_all))
        ∙ ap none_over (drop_all queue_limit entries few)

    pub entry_references_kept : each (references_keep b.next classes heads) entries ≡ Ok tt
    entry_references_kept =
        each_map (references_keep b.next classes heads) entry_row b.queue
        (all_then IsWaiting (λ (q : ℕ × Entry). references_keep b.next classes heads (entry_row q) ≡ Ok tt) entry_refers b.queue waiting_all)
