-- A class is taken in.
use Rattle.std.proofs.Common.{◌≡◌, ◌∙◌, ℕ, List, [], ◌∷◌, ◌++◌, map, length, Bool, true, IsTrue, Result, Ok, Err, ap, sym, subst}
use Rattle.std.specs.Prelude.{IfOk, IsErrOf}
use Rattle.std.specs.List.{AllByRecursion}
use Rattle.std.proofs.lemmas.List.{map-append}
use Rattle.ode_class_laws.specs.Declaring.{bones_with, tables_with}
use Rattle.ode_compile.specs.declared.compiling.Compiled.{Compiled}
use Rattle.ode_declared_laws.specs.Adding.{parts_with, tables_in}
use Rattle.ode_declared_laws.specs.Declared.{DeclaredOver}
use Rattle.ode_heap.specs.Answering.{class_of}
use Rattle.ode_host.proofs.Calls.{rose_as}
use Rattle.ode_host.specs.Causes.{RoseIf}
use Rattle.ode_host.specs.View.{View}
use Rattle.ode_keep.specs.Entries.{Changes, Entries, applied}
use Rattle.ode_laws.specs.Alike.{AgreesOn}
use Rattle.ode_opened.specs.declared.opened.Opened.{Opened}
use Rattle.ode_schema.specs.Parts.{AreFit, Parts}
use Rattle.ode_settled_laws.specs.Holding.{IsHeldBy}
use Rattle.ode_transact.proofs.BeginLaws.{damaged_before}
use Rattle.ode_transact.proofs.EndingLaws.{none_rose}
use Rattle.ode_transact.proofs.RestLaws.{rests}
use Rattle.ode_transact.specs.Errors.{OnDamaged}
use Rattle.ode_transact.specs.Resting.{IsAtRest, resting_parts, resting_tables}
use Rattle.ode_transact.specs.declared.error.EngineError.{EngineError}
use Rattle.ode_transact.specs.declared.error.EngineError.TheVariants as engine
use Rattle.ode_value.specs.GoodWorlds.{IsGood}
use Rattle.ode_value.specs.Language.{Language, ListWorld}
use Rattle.ode_value.specs.Objects.{Histories, Starts}
use Rattle.ode_value.specs.Settling.{Settled}
use Rattle.ode_value.specs.Symbols.{Alphabet}
use Rattle.ode_value.specs.Tables.{Table}
use Rattle.ode_value.specs.Weights.{weight}
use Rattle.ode_value.specs.Worlds.{Bones, Declared}
use Rattle.ode_value.specs.declared.class.Class.{Class}

module _ {H K : Type 0} (seen : H → View) (held : K → View → Entries → Type 0) (live : K → Bool) where
  -- the classes of a file at rest
  pub classes_are : (l : Language) (w : ListWorld) (o : Opened K) (host : H) → IsAtRest seen held live l w o host → o.classes ≡ map class_of w.bones.classes
  classes_are l w o host is = is.classes ∙ ap (λ (b : Bones). map class_of b.classes) is.world.world.stands.bones

  -- the file behind a declaration
  pub declared_rests : (l : Language) (w : ListWorld) (c : Declared) (made : Compiled) (rest prepared after : Opened K) (old host : H) (records : Entries) (s : Settled Histories Starts) → IsAtRest seen held live l w rest old
      → c.class ≡ made.class → resting_parts prepared ≡ parts_with made.class made.tables made.alphabets (resting_parts rest) → resting_parts after ≡ resting_parts prepared → after.bytes ≡ weight (bones_with c w.bones)
      → DeclaredOver l (resting_tables prepared) records w c s → IsGood l s.0 → live after.keeper ≡ true → held after.keeper (seen host) records → AreFit (resting_parts prepared)
      → IsAtRest seen held live l s.0 after host
  declared_rests l w c made rest prepared after old host records s is class parts same bytes over good usable here fit =
      let by = over.holds good in
      let tables : resting_tables prepared ≡ resting_tables after = ap tables_in (sym same) in
      let more : rest.classes ++ made.class ∷ [] ≡ map class_of (w.bones.classes ++ c ∷ []) =
      ap (λ (cs : List Class). cs ++ made.class ∷ []) (classes_are l w rest old is) ∙ ap (λ (k : Class). map class_of w.bones.classes ++ k ∷ []) (sym class) ∙ sym (map-append class_of w.bones.classes (c ∷ [])) in
      rests seen held live l records s.0 after host (subst (λ (ts : ℕ → ℕ → Table). IsHeldBy l ts records s.0) tables by) usable here
      (ap (λ (p : Parts). p.classes) (same ∙ parts) ∙ more ∙ ap (map class_of) (sym over.classes))
      (subst AreFit (sym same) fit)
      (bytes ∙ sym over.weighs)

  -- the same, where it ended so
  pub taken_rests : (result : Result (Opened K) EngineError) (l : Language) (w : ListWorld) (c : Declared) (made : Compiled) (rest prepared : Opened K) (old mid host : H) (entries : Entries) (changes : Changes) (s : Settled Histories Starts) → IsAtRest seen held live l w rest old
      → c.class ≡ made.class → resting_parts prepared ≡ parts_with made.class made.tables made.alphabets (resting_parts rest) → prepared.bytes ≡ weight (bones_with c w.bones)
      → DeclaredOver l (resting_tables prepared) (applied changes entries) w c s → IsGood l s.0 → held prepared.keeper (seen mid) entries → AreFit (resting_parts prepared)
      → IfOk result (λ after. (resting_parts after ≡ resting_parts prepared) × (after.bytes ≡ prepared.bytes))
      → IfOk result (λ after. (es : Entries) → held prepared.keeper (seen mid) es → held after.keeper (seen host) (applied changes es))
      → IfOk result (λ after. IsTrue (live after.keeper)) → IfOk result (λ after. IsAtRest seen held live l s.0 after host)
  taken_rests (Err why) l w c made rest prepared old mid host entries changes s is class parts bytes over good here fit same done usable = tt
  taken_rests (Ok after) l w c made rest prepared old mid host entries changes s is class parts bytes over good here fit same done usable =
      declared_rests l w c made rest prepared after old host (applied changes entries) s is class parts same.0 (same.1 ∙ bytes) over good usable (done entries here) fit

-- a class put behind the others of a file
pub parts_with_class : {K : Type 0} (o rest after : Opened K) (made : Compiled) (bytes : ℕ) → resting_parts o ≡ resting_parts rest
    → after ≡ record o { classes = o.classes ++ made.class ∷ []; tables = o.tables ++ made.tables; alphabets = o.alphabets ++ made.alphabets; maps = o.maps ++ length o.tables ∷ []; bytes = bytes }
    → resting_parts after ≡ parts_with made.class made.tables made.alphabets (resting_parts rest)
parts_with_class o rest after made bytes same is = ap resting_parts is ∙ ap (parts_with made.class made.tables made.alphabets) same

-- and its keeper
pub keeper_kept : {K : Type 0} (P : K → Type 0) (o p after : Opened K) (made : Compiled) (bytes : ℕ) → o ≡ p
    → after ≡ record o { classes = o.classes ++ made.class ∷ []; tables = o.tables ++ made.tables; alphabets = o.alphabets ++ made.alphabets; maps = o.maps ++ length o.tables ∷ []; bytes = bytes }
    → P p.keeper → P after.keeper
keeper_kept {K = K} P o p after made bytes same is here =
    subst (λ (x : Opened K). P x.keeper) (sym is) (subst (λ (x : Opened K). P x.keeper) (sym same) here)

-- a file with the same parts
pub parts_kept : {K : Type 0} (P : Parts → Type 0) (result : Result (Opened K) EngineError) (p : Parts) → P p → IfOk result (λ after. resting_parts after ≡ p) → IfOk result (λ after. P (resting_parts after))
parts_kept P (Ok after) p all same = subst P (sym same) all
parts_kept P (Err why) p all same = tt

-- and the same bytes
pub parts_alone : {K : Type 0} (result : Result (Opened K) EngineError) (p : Parts) (bytes : ℕ) → IfOk result (λ after. (resting_parts after ≡ p) × (after.bytes ≡ bytes)) → IfOk result (λ after. resting_parts after ≡ p)
parts_alone (Ok after) p bytes same = same.0
parts_alone (Err why) p bytes same = tt

-- the same error
failed_as : {R S : Type 0} (first : Result R EngineError) (result : Result S EngineError) (why e : EngineError) → first ≡ Err why → result ≡ Err why → IsErrOf first e → IsErrOf result e
failed_as first result why e is same failed = let one : why ≡ e = cc (is, failed) in same ∙ ap (λ (x : EngineError). Err x) one

-- a count of faults behind calls that went well
pub calm_ok : {R : Type 0} (r : R) (a b : ℕ) → RoseIf (IsErrOf (Ok r) engine.DiskFault) a b → b ≡ a
calm_ok r a b rose = none_rose (IsErrOf (Ok r) engine.DiskFault) a b (λ failed. cc (failed)) rose

-- a count of faults that hadn't risen before calls that ended by this error
pub rose_behind : {S T : Type 0} (first : Result S EngineError) (result : Result T EngineError) (why : EngineError) (a b n : ℕ) → b ≡ a → first ≡ Err why → result ≡ Err why
    → RoseIf (IsErrOf first engine.DiskFault) b n → RoseIf (IsErrOf result engine.DiskFault) a n
rose_behind first result why a b n calm is same rose =
    subst (λ (k : ℕ). RoseIf (IsErrOf result engine.DiskFault) k n) calm
    (rose_as (IsErrOf first engine.DiskFault) (IsErrOf result engine.DiskFault) b n (failed_as first result why engine.DiskFault is same) (failed_as result first why engine.DiskFault same is) rose)

-- the stored tables are those of the file behind the class
pub agree_behind : (classes : List Declared) (c : Declared) (own : List Table) (alphabets : List Alphabet) (p after : Parts) (class : Class) (stored : ℕ → ℕ → Table) → stored ≡ tables_in p → c.class ≡ class → after ≡ parts_with class own alphabets p
    → AllByRecursion (AgreesOn (tables_with c.class.number own (tables_in p)) (tables_in (parts_with c.class own alphabets p))) classes → AllByRecursion (AgreesOn (tables_with c.class.number own stored) (tables_in after)) classes
agree_behind classes c own alphabets p after class stored is same parts agree =
    subst (λ (ts : ℕ → ℕ → Table). AllByRecursion (AgreesOn (tables_with c.class.number own ts) (tables_in after)) classes) (sym is)
    (subst (λ (q : Parts). AllByRecursion (AgreesOn (tables_with c.class.number own (tables_in p)) (tables_in q)) classes) (ap (λ (k : Class). parts_with k own alphabets p) same ∙ sym parts) agree)

-- what is known of a call before where a record is damaged
pub damaged_as : {R S : Type 0} (first : Result R EngineError) (result : Result S EngineError) (why : EngineError) (P Q : Type 0) → first ≡ Err why → result ≡ Err why → OnDamaged first P → (P → Q) → OnDamaged result Q
damaged_as {R} {S} first result why P Q is same damaged to = damaged_before R S result why same P Q to (subst (λ (r : Result R EngineError). OnDamaged r P) is damaged)
