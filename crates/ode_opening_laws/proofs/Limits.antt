-- What the limits on a class say of its text, its triggers and what it compiles to.
use Rattle.std.proofs.Common.{◌≡◌, ℕ, ◌+◌, ◌<◌, ◌≤◌, ◌^◌, List, [], ◌∷◌, map, length, Bool, true, false, Ok, Err, refl, ap, ◌∙◌, arith}
use Rattle.std.specs.Prelude.{Result, nat_le, nat_lt}
use Rattle.std.specs.List.{AllByRecursion, sum_by}
use Rattle.std.proofs.lemmas.Bool.Decides.{nat_tests}
use Rattle.ode_compile.specs.Compiling.{compiled_grown}
use Rattle.ode_language.specs.Languages.{ode}
use Rattle.ode_opening.proofs.Built.{few_triggers}
use Rattle.ode_opening.specs.Declaring.{is_short}
use Rattle.ode_value.specs.Answers.{Answer, ◌>>=◌, ◌>>◌, checks, refuses}
use Rattle.ode_value.specs.Changing.{added_to}
use Rattle.ode_value.specs.ClassLimits.{limits_class, limits_trigger, limits_triggers}
use Rattle.ode_value.specs.GoodWorlds.{IsClass}
use Rattle.ode_value.specs.Lengths.{piece_count, table_records}
use Rattle.ode_value.specs.Limits.{class_limit, state_limit, symbol_limit}
use Rattle.ode_value.specs.PrintedClasses.{decl_text}
use Rattle.ode_value.specs.Symbols.{symbol_count}
use Rattle.ode_value.specs.TreeCount.{tree_count}
use Rattle.ode_value.specs.Weights.{record_count, table_size}
use Rattle.ode_value.specs.Worlds.{Declared}
use Rattle.ode_value.specs.declared.change.Added.{Added}
use Rattle.ode_value.specs.declared.class.Class.{Class}
use Rattle.ode_value.specs.declared.member.TriggerDecl.{TriggerDecl}
use Rattle.ode_value.specs.declared.reason.CheckError.{CheckError}
use Rattle.ode_value.specs.declared.reason.Refusal.{Refusal}
use Rattle.ode_value.specs.declared.reason.Refusal.TheVariants as refusal
use Rattle.ode_opening_laws.specs.Holding.{class_of}

-- ---- one limit behind another

not_refused : {S : Type 0} (b : Bool) (r : Refusal) (next : Answer S) (s : S) → (refuses b r >> next) ≡ Ok s → (b ≡ false) × (next ≡ Ok s)
not_refused true r next s is = absurd (cc)
not_refused false r next s is = (refl, is)

behind : {S : Type 0} (m : Answer (Unit {0})) (next : Answer S) (s : S) → (m >> next) ≡ Ok s → (m ≡ Ok tt) × (next ≡ Ok s)
behind (Ok u) next s is = (refl, is)
behind (Err e) next s is = absurd (cc)

upto : (most n : ℕ) → nat_lt most n ≡ false → n ≤ most
upto most n test = grind (arith, nat_tests)

-- ---- records

few_of : (d : Declared) → limits_class d ≡ Ok d → record_count d ≤ class_limit
few_of d limits =
    let triggers = behind (limits_triggers d.class.triggers) (refuses (nat_lt class_limit (record_count d)) (refusal.ClassTooLarge (record_count d)) >> Ok d) d limits in
    upto class_limit (record_count d) (not_refused (nat_lt class_limit (record_count d)) (refusal.ClassTooLarge (record_count d)) (Ok d) d triggers.1).0

fewer : (n m : ℕ) → 1 + n + m ≤ class_limit → nat_le (1 + n) class_limit ≡ true
fewer n m few = grind (arith, nat_tests)

pub short_of : (d : Declared) → limits_class d ≡ Ok d → is_short (decl_text d.tree) ≡ true
unfolding record_count
short_of d limits = fewer (piece_count (length (decl_text d.tree))) (sum_by table_records (map table_size d.class.triggers)) (few_of d limits)

-- ---- triggers

-- a trigger has few symbols and few states
pub record IsLimited (t : TriggerDecl) : Type 0 where
  pub symbols : symbol_count t.event ≤ symbol_limit
  pub states : tree_count t.event ≤ state_limit

limited : (t : TriggerDecl) → limits_trigger t ≡ Ok tt → IsLimited t
limited t is =
    let one = not_refused (nat_lt symbol_limit (symbol_count t.event)) _ _ tt is in
    let other = by (nat_lt state_limit (tree_count t.event)) _ one.1 in
    record { symbols = upto symbol_limit (symbol_count t.event) one.0; states = upto state_limit (tree_count t.event) other }
  where
    by : (b : Bool) (r : Refusal) → refuses b r ≡ Ok tt → b ≡ false
    by true r is = absurd (cc)
    by false r is = refl

all_limited : (ts : List TriggerDecl) → limits_triggers ts ≡ Ok tt → AllByRecursion IsLimited ts
all_limited [] is = tt
all_limited (t ∷ ts) is = let both = behind (limits_trigger t) (limits_triggers ts) tt is in (limited t both.0, all_limited ts both.1)

pub triggers_limited : (d : Declared) → limits_class d ≡ Ok d → AllByRecursion IsLimited d.class.triggers
triggers_limited d limits =
    all_limited d.class.triggers (behind (limits_triggers d.class.triggers) (refuses (nat_lt class_limit (record_count d)) (refusal.ClassTooLarge (record_count d)) >> Ok d) d limits).0

-- ---- what it compiles to

pub compiles : (added : List Added) (earlier : List Declared) (d : Declared) → IsClass ode added earlier d
    → compiled_grown (map class_of earlier) (added_to d.class.number added) d.tree ≡ Ok d
compiles added earlier d is = ap (λ (r : Result Class CheckError). checks r >>= λ c. limits_class (record { class = c; tree = d.tree })) is.checked ∙ is.limits

pub few_triggers_of : (added : List Added) (earlier : List Declared) (d : Declared) → IsClass ode added earlier d → length d.class.triggers < 2 ^ 16
few_triggers_of added earlier d is = few_triggers (map class_of earlier) (added_to d.class.number added) d.tree d (compiles added earlier d is)
