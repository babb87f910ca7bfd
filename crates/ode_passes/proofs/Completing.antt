-- Expected keys, as loops go over them.
use Rattle.std.proofs.Common.{◌≡◌, ℕ, zero, suc, ◌+◌, ◌-◌, ◌<◌, List, [], ◌∷◌, ◌++◌, map, take, length, get_or, Bool, true, false, cond, Ok, Err, refl, sym, ap, ◌∙◌, arith}
use Rattle.std.specs.List.{count_by, range_with_len}
use Rattle.std.proofs.lemmas.List.Sums.{count_by_more_no, count_by_more_yes}
use Rattle.ode_codec.specs.declared.record.Record.{Record}
use Rattle.ode_value.specs.declared.key.Key.{Key}
use Rattle.ode_passes.specs.Complete.{complete, head_keys, is_head, keys_by, keys_of, next_are, next_is, none_left}
use Rattle.ode_passes.specs.Records.{Found}
use Rattle.ode_passes.specs.Rules.{Ruled, ◌>>=◌}
use Rattle.ode_passes.specs.declared.cause.Cause.{Cause}
use Rattle.ode_passes.specs.declared.completeness.Part.{Part}
use Rattle.ode_passes.specs.declared.completeness.Part.TheVariants as part
use Rattle.ode_passes.proofs.Through.{through-append}

-- ---- how many heads

pub count_more : (records : Found) (i : ℕ) (d : Key × Record) → i < length records
    → count_by is_head (take (i + 1) records) ≡ count_by is_head (take i records) + cond (is_head (get_or records i d)) 1 0
count_more records i d inside = by (is_head (get_or records i d)) refl
  where
    by : (b : Bool) → is_head (get_or records i d) ≡ b → count_by is_head (take (i + 1) records) ≡ count_by is_head (take i records) + cond b 1 0
    by true is = count_by_more_yes is_head records i d inside is
    by false is = count_by_more_no is_head records i d inside is ∙ omega arith

-- ---- a run of numbers

module _ (f : ℕ → Key) where
  -- what is expected of the numbers from one on, up to a count
  abbrev pub left : ℕ → ℕ → List Key
  left at count = map f (range_with_len at count)

  pub one_left : (at count : ℕ) → 0 < count → left at count ≡ f at ∷ left (at + 1) (count - 1)
  one_left at (suc n) some = let same : suc n - 1 ≡ n = omega arith in ap (λ (m : ℕ). f at ∷ left (at + 1) m) (sym same)
  one_left at zero some = absurd (omega arith)

  pub none_of : (at count : ℕ) → count ≡ 0 → left at count ≡ []
  none_of at count none = ap (left at) none

  pub run_goes : (at count : ℕ) (records next : Found) (all : Ruled Found) → 0 < count → next_is (f at) records ≡ Ok next
      → next_are (left at count) records ≡ all → next_are (left (at + 1) (count - 1)) next ≡ all
  run_goes at count records next all some is so_far =
      sym (ap (λ m. m >>= λ more. next_are (left (at + 1) (count - 1)) more) is)
      ∙ sym (ap (λ (ks : List Key). next_are ks records) (one_left at count some)) ∙ so_far

  pub run_stops : (at count : ℕ) (records : Found) (all : Ruled Found) (cause : Cause) → 0 < count → next_is (f at) records ≡ Err cause
      → next_are (left at count) records ≡ all → all ≡ Err cause
  run_stops at count records all cause some is so_far =
      sym so_far ∙ ap (λ (ks : List Key). next_are ks records) (one_left at count some)
      ∙ ap (λ m. m >>= λ more. next_are (left (at + 1) (count - 1)) more) is

  pub run_ends : (at count : ℕ) (records : Found) (all : Ruled Found) → count ≡ 0 → next_are (left at count) records ≡ all → all ≡ Ok records
  run_ends at count records all none so_far = sym so_far ∙ ap (λ (ks : List Key). next_are ks records) (none_of at count none)

-- ---- what each record brings

module _ (p : Part) where
  pub part_goes : (f : Key × Record) (fs records next : Found) (all : Ruled Found) → next_are (keys_by p f.1) records ≡ Ok next
      → next_are (keys_of p (f ∷ fs)) records ≡ all → next_are (keys_of p fs) next ≡ all
  part_goes f fs records next all is so_far =
      sym (through-append (λ more k. next_is k more) records (keys_by p f.1) (keys_of p fs) ∙ ap (λ m. m >>= λ more. next_are (keys_of p fs) more) is) ∙ so_far

  pub part_stops : (f : Key × Record) (fs records : Found) (all : Ruled Found) (cause : Cause) → next_are (keys_by p f.1) records ≡ Err cause
      → next_are (keys_of p (f ∷ fs)) records ≡ all → all ≡ Err cause
  part_stops f fs records all cause is so_far =
      sym so_far ∙ through-append (λ more k. next_is k more) records (keys_by p f.1) (keys_of p fs) ∙ ap (λ m. m >>= λ more. next_are (keys_of p fs) more) is

-- ---- all of them

abbrev pub in_parts : Found → Ruled (Unit {0})
in_parts records =
    (((next_are (head_keys records) records >>= λ r. next_are (keys_of part.Texts records) r)
    >>= λ r. next_are (keys_of part.TableHeads records) r)
    >>= λ r. next_are (keys_of part.Tables records) r)
    >>= none_left

pub complete_in_parts : (records : Found) → complete records ≡ in_parts records
unfolding complete
complete_in_parts records =
    let step : Found → Key → Ruled Found = λ more k. next_is k more in
    let heads = head_keys records in
    let texts = keys_of part.Texts records in
    let table_heads = keys_of part.TableHeads records in
    let tables = keys_of part.Tables records in
    ap (λ m. m >>= none_left) (
    through-append step records (heads ++ texts ++ table_heads) tables
    ∙ ap (λ m. m >>= λ r. next_are tables r) (
    through-append step records (heads ++ texts) table_heads
    ∙ ap (λ m. m >>= λ r. next_are table_heads r) (through-append step records heads texts)
    )
    )
