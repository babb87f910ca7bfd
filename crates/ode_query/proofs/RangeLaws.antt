-- The ranges of variables.
use Rattle.std.proofs.Common.{◌≡◌, ◌∙◌, ◌<◌, ◌≤◌, ◌+◌, ℕ, List, [], ◌∷◌, ◌++◌, append_assoc, ◌-◌, drop, length, map, slice_index_or, take, Bool, true, false, Option, Result, Ok, Err, refl, sym, ap, subst, arith}
use Rattle.std.proofs.lemmas.List.{append-nil, drop_all, drop_more, length-drop, length_push, map-append, take_all}
use Rattle.std.proofs.lemmas.List.Elements.{All-from_recursion}
use Rattle.std.specs.List.{AllByRecursion, filter}
use Rattle.std.specs.Option.{IfSome}
use Rattle.ode_asksyn.specs.declared.query.Query.{Query}
use Rattle.ode_query.specs.Answers.{Gives, Says, behind}
use Rattle.ode_query.specs.Lookups.{AreEnough, AreRanges, IsLookup, IsRange, numbers_of}
use Rattle.ode_query.specs.Rows.{all_instances, all_of, begun_by, instances, is_in, row_of, rows_from}
use Rattle.ode_query.specs.declared.error.QueryError.{QueryError}
use Rattle.ode_query.specs.declared.error.QueryError.TheVariants as error
use Rattle.ode_query.specs.declared.lookup.Lookup.{Lookup}
use Rattle.ode_query.specs.declared.lookup.Range.{Range}
use Rattle.ode_query.specs.declared.row.Row.{Row}
use Rattle.ode_value.specs.GoodWorlds.{RiseFrom}
use Rattle.ode_value.specs.Worlds.{Bones, Object}
use Rattle.ode_value.specs.declared.arithmetic.Fault.{Fault}
use Rattle.ode_value.specs.declared.statement.Expr.{Expr}
use Rattle.ode_value.specs.declared.value.Value.{Value}

-- ---- the numbers of a class's objects rise

lower : (low high : ℕ) (ns : List ℕ) → low ≤ high → RiseFrom high ns → RiseFrom low ns
lower low high [] le rise = tt
lower low high (n ∷ ns) le rise = (omega (arith, le, rise.0), rise.1)

kept_rise : (p : Object → Bool) (low : ℕ) (os : List Object) → RiseFrom low (map (λ (o : Object). o.id) os) → RiseFrom low (map (λ (o : Object). o.id) (filter p os))
kept_rise p low [] rise = tt
kept_rise p low (o ∷ os) rise = by (p o) refl (kept_rise p (o.id + 1) os rise.1) where
  by : (c : Bool) → p o ≡ c → RiseFrom (o.id + 1) (map (λ (o : Object). o.id) (filter p os)) → RiseFrom low (map (λ (o : Object). o.id) (filter p (o ∷ os)))
  by true e more = rw e (rise.0, more)
  by false e more = rw e (lower low (o.id + 1) (map (λ (o : Object). o.id) (filter p os)) (omega (arith, rise.0)) more)

pub instances_rise : (b : Bones) (over : List (List ℕ × List ℕ)) → RiseFrom 0 (map (λ (o : Object). o.id) b.objects) → AllByRecursion (RiseFrom 0) (map (λ (v : List ℕ × List ℕ). instances b v.1) over)
instances_rise b [] rise = tt
instances_rise b (v ∷ over) rise = (kept_rise (is_in b v.1) 0 b.objects rise, instances_rise b over rise)

-- ---- enough of them give the same rows

pub same_rows : (b : Bones) (q : Query) (chosen few all : List ℕ) (lists : List (List ℕ)) (done : List (List Value × Row)) → AreEnough b q.test chosen few all
    → behind done (rows_from b q (begun_by chosen (few ∷ lists))) ≡ behind done (rows_from b q (begun_by chosen (all ∷ lists)))
same_rows b q chosen few all lists done enough = ap (λ (kept : List (List ℕ)). behind done (all_of (row_of b q) kept)) (enough lists)

-- ---- one more of them

pub range_more : (b : Bones) (test : Option Expr) (variable : ℕ) (ranges : List Range) (range : Range) → AreRanges b test variable ranges → IsRange b test (variable + length ranges) range
    → AreRanges b test variable (ranges ++ range ∷ [])
range_more b test variable [] range are is =
    let place : variable + 0 ≡ variable = omega arith in
    (subst (λ k. IsRange b test k range) place is, tt)
range_more b test variable (first ∷ ranges) range are is =
    let place : variable + length (first ∷ ranges) ≡ (variable + 1) + length ranges = omega arith in
    (are.0, range_more b test (variable + 1) ranges range are.1 (subst (λ k. IsRange b test k range) place is))

-- behind one more number
pub behind_one : (b : Bones) (test : Option Expr) (chosen more : List ℕ) (n : ℕ) (ranges : List Range) → more ≡ chosen ++ n ∷ [] → AreRanges b test (length chosen + 1) ranges → AreRanges b test (length more) ranges
behind_one b test chosen more n ranges is are = subst (λ k. AreRanges b test k ranges) (sym (ap (λ (ns : List ℕ). length ns) is ∙ length_push chosen n)) are

-- the lists that were read rise
pub lists_rise : (b : Bones) (q : Query) (lists slice : List (List ℕ)) → RiseFrom 0 (map (λ (o : Object). o.id) b.objects) → Says (Ok (all_instances b q)) (Ok lists) → slice ≡ lists → AllByRecursion (RiseFrom 0) slice
lists_rise b q lists slice rise says is =
    let read : all_instances b q ≡ lists = cc (says) in
    subst (AllByRecursion (RiseFrom 0)) (read ∙ sym is) (instances_rise b q.over rise)

-- the one of a loop
pub list_rises : (lists : List (List ℕ)) (i : ℕ) (numbers : List ℕ) → AllByRecursion (RiseFrom 0) lists → i < length lists → numbers ≡ slice_index_or lists i numbers → RiseFrom 0 numbers
list_rises lists i numbers rise inside is = subst (RiseFrom 0) (sym is) (All-from_recursion (RiseFrom 0) lists rise i numbers inside)

pub numbers_more : (lists : List (List ℕ)) (i : ℕ) (ranges : List Range) (numbers : List ℕ) (range : Range) → i < length lists → numbers ≡ slice_index_or lists i numbers → range.numbers ≡ numbers
    → numbers_of ranges ++ drop i lists ≡ lists → numbers_of (ranges ++ range ∷ []) ++ drop (i + 1) lists ≡ lists
numbers_more lists i ranges numbers range inside is same so =
    let split : drop i lists ≡ numbers ∷ drop (i + 1) lists = drop_more lists i numbers inside ∙ ap (λ (ns : List ℕ). ns ∷ drop (i + 1) lists) (sym is) in
    ap (λ (ls : List (List ℕ)). ls ++ drop (i + 1) lists) (map-append (λ (r : Range). r.numbers) ranges (range ∷ []))
    ∙ append_assoc (numbers_of ranges) (range.numbers ∷ []) (drop (i + 1) lists)
    ∙ ap (λ (ns : List ℕ). numbers_of ranges ++ ns ∷ drop (i + 1) lists) same
    ∙ ap (λ (ls : List (List ℕ)). numbers_of ranges ++ ls) (sym split) ∙ so

pub numbers_all : (lists : List (List ℕ)) (i : ℕ) (ranges : List Range) → length lists ≤ i → numbers_of ranges ++ drop i lists ≡ lists → numbers_of ranges ≡ lists
numbers_all lists i ranges end so = sym (append-nil (numbers_of ranges)) ∙ ap (λ (ls : List (List ℕ)). numbers_of ranges ++ ls) (sym (drop_all i lists end)) ∙ so

pub made_range : (b : Bones) (test : Option Expr) (variable k : ℕ) (numbers slice copy : List ℕ) (lookup : Option Lookup) → variable ≡ k → slice ≡ numbers → copy ≡ slice → RiseFrom 0 numbers
    → IfSome lookup (IsLookup b test variable slice) → IsRange b test k (record { numbers = copy; lookup = lookup })
made_range b test variable k numbers slice copy lookup place sliced copied rise is = record {
  rising = subst (RiseFrom 0) (sym (copied ∙ sliced)) rise;
  lookup = subst (λ v. IfSome lookup (IsLookup b test v copy)) place (subst (λ (ns : List ℕ). IfSome lookup (IsLookup b test variable ns)) (sym copied) is);
}

-- the first of them, and the rest
pub first_range : (ranges : List Range) (range : Range) → 0 < length ranges → range ≡ slice_index_or ranges 0 range → ranges ≡ range ∷ take (length ranges - 1) (drop 1 ranges)
first_range ranges range some is =
    drop_more ranges 0 range some ∙ ap (λ (r : Range). r ∷ drop 1 ranges) (sym is)
    ∙ ap (λ (rest : List Range). range ∷ rest) (sym (take_all (length ranges - 1) (drop 1 ranges) (omega (arith, length-drop 1 ranges))))

-- what gives nothing is what stopped it
pub nothing_given : {X Y : Type 0} (P : X → Type 0) (meant : Result Y Fault) (why : QueryError) → Gives P (Err why) → Says meant (Err why)
nothing_given P meant error.Memory h = tt
nothing_given P meant (error.TooManyRows count) h = absurd h
nothing_given P meant (error.Fault fault) h = absurd h
nothing_given P meant error.Output h = absurd h
nothing_given P meant error.DiskFault h = tt
nothing_given P meant (error.Damaged key) h = absurd h
