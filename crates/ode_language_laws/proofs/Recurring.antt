-- The clock events of good worlds come again after at least a second.
use Rattle.std.proofs.Common.{◌≡◌, ℕ, Bool, true, false, cond, codes, List, [], ◌∷◌, ◌++◌, map, Option, Some, None, Ok, refl}
use Rattle.std.specs.List.{All, AllByRecursion, flat_map}
use Rattle.std.specs.Option.{option_map_or}
use Rattle.std.specs.Prelude.{◌==◌, ◌<◌, ◌^◌, ℤ, FitsSigned, length}
use Rattle.std.specs.Int.{w64}
use Rattle.std.proofs.lemmas.List.Elements.{All-cons, All-from_recursion, All-nil}
use Rattle.ode_value.specs.declared.change.Added.{Added}
use Rattle.ode_value.specs.declared.class.Class.{Class}
use Rattle.ode_value.specs.declared.event.Kind.{Kind}
use Rattle.ode_value.specs.declared.statement.ClassDecl.{ClassDecl}
use Rattle.ode_value.specs.declared.statement.Member.{Member}
use Rattle.ode_value.specs.declared.statement.Member.TheVariants as member
use Rattle.ode_value.specs.declared.statement.Statement.TheVariants as statement
use Rattle.ode_value.specs.GoodWorlds.{AreClasses, IsGood, IsPosition}
use Rattle.ode_value.specs.Language.{ListWorld}
use Rattle.ode_value.specs.PrintedClasses.{decl_text}
use Rattle.ode_value.specs.Worlds.{Declared, Object, Position, class_numbered}
use Rattle.ode_timer.specs.declared.clock.TimeRow.{TimeRow}
use Rattle.ode_timer.specs.Due.{AllRecur, HasPlaces, Recurs, due}
use Rattle.ode_machine.specs.TimeRows.{kinds_of, time_row, time_rows}
use Rattle.ode_terminals.specs.declared.seen.Place.{Place}
use Rattle.ode_terminals.specs.declared.seen.Place.TheVariants as place
use Rattle.ode_laws.proofs.Each.{all-append, all-then}
use Rattle.ode_reread.proofs.EventGoods.{GoodKind}
use Rattle.ode_reread_classes.proofs.Lists.{Each}
use Rattle.ode_reread_classes.proofs.Members.{GoodKinds, GoodMember}
use Rattle.ode_again_laws.proofs.Again.{class_read, good_read}
use Rattle.ode_accepted_laws.proofs.Listing.{HasAll, ListsAll, kinds_have, kinds_in}
use Rattle.ode_good_runs.proofs.Declaring.{classes_accepted}
use Rattle.ode_good_runs.proofs.DueLaws.{FitsRow}
use Rattle.ode_good_runs.proofs.GoodRuns.{due_counts, time_fits}
use Rattle.ode_language.specs.Languages.{ode, statement_of}
use Rattle.ode_language_laws.proofs.LanguageRuns.{reads_well, sound_rules}

-- ---- a class that is read

each_recurs : (p : Place) (ks : List Kind) → Each (GoodKind p) ks → AllByRecursion Recurs ks
each_recurs p [] all = tt
each_recurs p (k ∷ ks) all = (all.0.recurs, each_recurs p ks all.1)

member_recurs : (p : Place) (n : ℕ) (m : Member) → GoodMember p n m → AllByRecursion Recurs (kinds_in m)
member_recurs p n (member.Field name s) good = tt
member_recurs p n (member.Method m) good = tt
member_recurs p n (member.Constraint c) good = tt
member_recurs p n (member.Events []) good = tt
member_recurs p n (member.Events (k ∷ ks)) good = (good.0.recurs, each_recurs p ks good.1)
member_recurs p n (member.Trigger t) good = tt

members_recur : (p : Place) (n : ℕ) (ms : List Member) → Each (GoodMember p n) ms → AllByRecursion Recurs (flat_map kinds_in ms)
members_recur p n [] all = tt
members_recur p n (m ∷ ms) all = all-append Recurs (kinds_in m) (flat_map kinds_in ms) (member_recurs p n m all.0) (members_recur p n ms all.1)

pub read_recurs : (piece : List ℕ) (d : ClassDecl) → statement_of piece ≡ Ok (statement.Class d) → ListsAll Recurs d
read_recurs piece d is = let read = good_read piece d (class_read piece d is) in members_recur place.Class read.high d.members read.good.members

-- ---- a good world

trees_recur : (added : List Added) (earlier cs : List Declared) → AreClasses ode added earlier cs → AllByRecursion (λ (c : Declared). ListsAll Recurs c.tree) cs
trees_recur added earlier [] all = tt
trees_recur added earlier (c ∷ cs) all = (read_recurs (decl_text c.tree ++ codes ";") c.tree all.0.text, trees_recur added (earlier ++ c ∷ []) cs all.1)

classes_recur : (w : ListWorld) → IsGood ode w → AllByRecursion (λ (c : Declared). HasAll Recurs c.class) w.bones.classes
classes_recur w good =
    kinds_have ode (record { class_of = refl; checked = refl }) w.bones.added Recurs [] w.bones.classes tt (classes_accepted ode w.bones.added [] w.bones.classes good.bones.classes)
    (trees_recur w.bones.added [] w.bones.classes good.bones.classes)

kinds_recur : (cs : List Declared) → AllByRecursion (λ (c : Declared). HasAll Recurs c.class) cs → (n : ℕ) → AllByRecursion Recurs (kinds_of cs n)
kinds_recur [] all n = tt
kinds_recur (c ∷ cs) all n = by_number (c.class.number == n) all.0 (kinds_recur cs all.1 n) where
  by_number : (b : Bool) → HasAll Recurs c.class → AllByRecursion Recurs (kinds_of cs n) → AllByRecursion Recurs (option_map_or (λ (k : Class). k.kinds) (cond b (Some c.class) (class_numbered n cs)) [])
  by_number true one rest = one
  by_number false one rest = rest

rows_recur : (cs : List Declared) → AllByRecursion (λ (c : Declared). HasAll Recurs c.class) cs → (os : List Object) → AllRecur (map (time_row cs) os)
rows_recur cs all [] = All-nil (λ (row : TimeRow). All Recurs row.kinds)
rows_recur cs all (o ∷ os) = All-cons (λ (row : TimeRow). All Recurs row.kinds) (time_row cs o) (map (time_row cs) os) (All-from_recursion Recurs (kinds_of cs o.class) (kinds_recur cs all o.class)) (rows_recur cs all os)

pub times_recur : (w : ListWorld) → IsGood ode w → AllRecur (time_rows w.bones)
times_recur w good = rows_recur w.bones.classes (classes_recur w good) w.bones.objects

-- ---- its rows

pub times_have_places : (w : ListWorld) → IsGood ode w → All HasPlaces (time_rows w.bones)
times_have_places w good = All-from_recursion HasPlaces (time_rows w.bones) (all-then FitsRow HasPlaces (λ row fits. fits.places) (time_rows w.bones) (time_fits ode sound_rules reads_well w good))

pub due_are_counted : (w : ListWorld) → IsGood ode w → (old : Position) → IsPosition old → (t : ℤ) → FitsSigned w64 t → length (due (time_rows w.bones) old t) < 2 ^ 128
due_are_counted = due_counts ode sound_rules reads_well
