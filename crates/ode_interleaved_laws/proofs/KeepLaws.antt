-- What a settling keeps of a good world is as it was, but for what was looked at.
use Rattle.std.proofs.Common.{◌≡◌, ℕ, Bool, true, false, cond, List, [], ◌∷◌, map, ◌==◌, Option, Some, None, refl, sym, ap, ◌∙◌}
use Rattle.std.proofs.lemmas.Bool.{eq-eqb}
use Rattle.std.specs.List.{AllByRecursion, AllZip, filter, list_any}
use Rattle.std.specs.Option.{option_and_then, option_map, option_map_or}
use Rattle.ode_footprint_laws.proofs.Among.{either_left, either_right}
use Rattle.ode_footprint_laws.proofs.KeptLaws.{Past, back_to, numbered_kept, numbered_last, past_of, rows_kept_at, rows_rewound_at}
use Rattle.ode_footprint_laws.specs.Agreeing.{IsAmong}
use Rattle.ode_footprint_laws.specs.Growing.{Grown}
use Rattle.ode_footprint_laws.specs.Staying.{StaysBut}
use Rattle.ode_laws.proofs.AlikePairs.{all_found}
use Rattle.ode_laws.proofs.Each.{all-then}
use Rattle.ode_laws.proofs.Rows.{id_of, numbered_id}
use Rattle.ode_value.specs.Denoting.{if_live, object_at, object_numbered}
use Rattle.ode_value.specs.Firings.{changed_row, watch_at}
use Rattle.ode_value.specs.Footprints.{Footprint}
use Rattle.ode_value.specs.GoodWorlds.{IsActivation, IsGood, IsObject, IsPast, IsStart, RiseFrom}
use Rattle.ode_value.specs.Keeping.{back, has_activation, is_active, kept_bones, kept_object, kept_world, rewound_past, rewound_world, with_last}
use Rattle.ode_value.specs.Language.{Language, ListWorld}
use Rattle.ode_value.specs.Objects.{Activation, Histories, Starts}
use Rattle.ode_value.specs.Pasts.{Watch, lists}
use Rattle.ode_value.specs.Worlds.{Declared, Object, kept_at}

pub stays_more : (f g : Footprint) (v w : ListWorld) → Grown f g → StaysBut f v w → StaysBut g v w
stays_more f g v w grown s = record {
  classes = s.classes;
  added = s.added;
  objects = λ id none. s.objects id (λ among. none (grown.looked id among));
  next = λ none. by_draw f.drew refl none;
}
  where
    by_draw : (b : Bool) → f.drew ≡ b → g.drew ≡ false → w.bones.next ≡ v.bones.next
    by_draw true is none = let clash : true ≡ false = sym (grown.drew is) ∙ none in absurd (cc)
    by_draw false is none = s.next is

pub stays_then : (f : Footprint) (u v w : ListWorld) → StaysBut f u v → StaysBut f v w → StaysBut f u w
stays_then f u v w first second = record {
  classes = second.classes ∙ first.classes;
  added = second.added ∙ first.added;
  objects = λ id none. record {
    object = (second.objects id none).object ∙ (first.objects id none).object;
    past = (second.objects id none).past ∙ (first.objects id none).past;
  };
  next = λ none. second.next none ∙ first.next none;
}

-- what the greater one didn't queue the other didn't
pub grown_none : (f g : Footprint) → Grown f g → g.queued ≡ false → f.queued ≡ false
grown_none f g grown none = by_queue f.queued refl where
  by_queue : (b : Bool) → f.queued ≡ b → b ≡ false
  by_queue true is = let clash : true ≡ false = sym (grown.queued is) ∙ none in absurd (cc)
  by_queue false is = refl

-- ---- an object that is there with all its activations on

all_pass : {X : Type 0} (p : X → Bool) (xs : List X) → AllByRecursion (λ x. p x ≡ true) xs → filter p xs ≡ xs
all_pass p [] all = refl
all_pass p (x ∷ xs) all = ap (λ t. cond t (x ∷ filter p xs) (filter p xs)) all.0 ∙ ap (λ rest. x ∷ rest) (all_pass p xs all.1)

abbrev has_number : List Activation → ℕ → Bool
has_number activations number = list_any (λ (a : Activation). a.number == number) activations

all_numbered : (activations : List Activation) → AllByRecursion (λ (a : Activation). has_number activations a.number ≡ true) activations
all_numbered [] = tt
all_numbered (a ∷ more) = (
  either_left (a.number == a.number) (has_number more a.number) (eq-eqb a.number a.number refl),
  all-then (λ (b : Activation). has_number more b.number ≡ true) (λ (b : Activation). has_number (a ∷ more) b.number ≡ true)
      (λ b is. either_right (a.number == b.number) (has_number more b.number) is) more (all_numbered more),
)

rows_numbered : (h : Histories) (all activations : List Activation) (rows : List (ℕ × Starts)) → AllByRecursion (λ (a : Activation). has_number all a.number ≡ true) activations → AllZip (IsStart h) activations rows
    → AllByRecursion (λ (row : ℕ × Starts). has_number all row.0 ≡ true) rows
rows_numbered h all [] [] numbered zip = tt
rows_numbered h all (a ∷ activations) (row ∷ rows) numbered zip = (ap (has_number all) zip.0.number ∙ numbered.0, rows_numbered h all activations rows numbered.1 zip.1)
rows_numbered h all [] (row ∷ rows) numbered zip = absurd zip
rows_numbered h all (a ∷ activations) [] numbered zip = absurd zip

-- an object's past, where the object is there
abbrev IsPastOf : Option Object → Option Past → Type 0
IsPastOf (Some o) (Some k) = AllZip (IsStart k.own) o.activations k.activations
IsPastOf None None = Unit {0}
IsPastOf (Some o) None = ⊥
IsPastOf None (Some k) = ⊥

past_at : (n : ℕ) (os : List Object) (rows : List (ℕ × Past)) → AllZip IsPast os rows → IsPastOf (object_numbered n os) (kept_at n rows)
past_at n [] [] zip = tt
past_at n (o ∷ os) (row ∷ rows) zip = by_tests (o.id == n) (row.0 == n) (sym (ap (λ i. i == n) zip.0.number)) (past_at n os rows zip.1) where
  by_tests : (a b : Bool) → a ≡ b → IsPastOf (object_numbered n os) (kept_at n rows) → IsPastOf (cond a (Some o) (object_numbered n os)) (cond b (Some row.1) (kept_at n rows))
  by_tests true true e more = zip.0.starts
  by_tests false false e more = more
  by_tests true false e more = absurd (cc)
  by_tests false true e more = absurd (cc)
past_at n [] (row ∷ rows) zip = absurd zip
past_at n (o ∷ os) [] zip = absurd zip

-- ---- what an abort goes back to where nothing came since

rows_back : (now : List (ℕ × Starts)) (watch : ℕ → Option Watch) (rows : List (ℕ × Starts)) → map (changed_row (back lists now) watch) rows ≡ rows
rows_back now watch [] = refl
rows_back now watch (row ∷ rows) = by_watch (watch row.0) (rows_back now watch rows) where
  by_watch : (o : Option Watch) → map (changed_row (back lists now) watch) rows ≡ rows → ((row.0, option_map_or (λ w. row.1) o row.1) ∷ map (changed_row (back lists now) watch) rows) ≡ row ∷ rows
  by_watch None more = ap (λ rest. row ∷ rest) more
  by_watch (Some w) more = ap (λ rest. row ∷ rest) more

rewound_self : (cs : List Declared) (k : Past) (o : Object) → rewound_past lists cs k k o ≡ k
rewound_self cs k o = ap (λ rows. record k { activations = rows }) (rows_back k.activations (watch_at cs o) k.activations)

back_self : (cs : List Declared) (o : Option Object) (k : Option Past) → option_map (back_to cs o k) k ≡ k
back_self cs o None = refl
back_self cs None (Some k) = refl
back_self cs (Some o) (Some k) = ap Some (rewound_self cs k o)

module _ (l : Language) (w : ListWorld) (good : IsGood l w) where
  object_whole : (n : ℕ) (o : Option Object) → object_numbered n w.bones.objects ≡ o → option_map kept_object (option_and_then if_live o) ≡ o
  object_whole n None is = refl
  object_whole n (Some o) is =
      let object : IsObject w.bones o = all_found (IsObject w.bones) n w.bones.objects good.bones.objects o is in
      ap (λ b. option_map kept_object (cond b (Some o) None)) object.live
      ∙ ap (λ activations. Some (record o { activations = activations }))
      (all_pass is_active o.activations (all-then (IsActivation w.bones o.class) (λ (a : Activation). a.on ≡ true) (λ a active. active.on) o.activations object.activations))

  past_whole : (n : ℕ) (o : Option Object) (k : Option Past) → object_numbered n w.bones.objects ≡ o → IsPastOf o k → past_of (option_and_then if_live o) k ≡ k
  past_whole n None None is of = refl
  past_whole n (Some o) (Some k) is of =
      let object : IsObject w.bones o = all_found (IsObject w.bones) n w.bones.objects good.bones.objects o is in
      ap (λ b. past_of (cond b (Some o) None) (Some k)) object.live
      ∙ ap (λ rows. Some (record k { activations = rows }))
      (all_pass (λ (row : ℕ × Starts). has_activation o row.0) k.activations (rows_numbered k.own o.activations o.activations k.activations (all_numbered o.activations) of))
  past_whole n (Some o) None is of = absurd of
  past_whole n None (Some k) is of = absurd of

  -- ---- what a settling keeps of a world that came of this one

  module _ (f : Footprint) (v : ListWorld) (stays : StaysBut f w v) where
    pub kept_stays : RiseFrom 0 (map id_of v.bones.objects) → StaysBut f w (kept_world v)
    kept_stays rising = record {
      classes = stays.classes;
      added = stays.added;
      objects = λ n none. record {
        object = same n none;
        past =
            rows_kept_at n (kept_bones v.bones) v.pasts
            ∙ ap (λ o. past_of (option_and_then if_live o) (kept_at n v.pasts)) (same n none)
            ∙ ap (past_of (object_at w.bones n)) (stays.objects n none).past
            ∙ past_whole n (object_numbered n w.bones.objects) (kept_at n w.pasts) refl (past_at n w.bones.objects w.pasts good.pasts);
      };
      next = stays.next;
    }
      where
        same : (n : ℕ) → (IsAmong n f.looked → ⊥) → object_numbered n (kept_bones v.bones).objects ≡ object_numbered n w.bones.objects
        same n none =
            numbered_kept n 0 v.bones.objects rising
            ∙ ap (λ o. option_map kept_object (option_and_then if_live o)) (stays.objects n none).object
            ∙ object_whole n (object_numbered n w.bones.objects) refl

    last_whole : (n : ℕ) (o : Option Object) → object_numbered n w.bones.objects ≡ o → object_numbered n v.bones.objects ≡ o → option_map (with_last v.bones) o ≡ o
    last_whole n None is there = refl
    last_whole n (Some o) is there =
        ap (λ p. Some (record o { last = option_map_or (λ (q : Object). q.last) p o.last })) (ap (λ i. object_numbered i v.bones.objects) (numbered_id n w.bones.objects o is) ∙ there)

    pub rewound_stays : StaysBut f w (rewound_world lists w v)
    rewound_stays = record {
      classes = refl;
      added = refl;
      objects = λ n none. record {
        object = numbered_last n v.bones w.bones.objects ∙ last_whole n (object_numbered n w.bones.objects) refl (stays.objects n none).object;
        past =
            rows_rewound_at n w v w.pasts
            ∙ ap (λ k. option_map (back_to w.bones.classes (object_at w.bones n) k) (kept_at n w.pasts)) (stays.objects n none).past
            ∙ back_self w.bones.classes (object_at w.bones n) (kept_at n w.pasts);
      };
      next = stays.next;
    }
