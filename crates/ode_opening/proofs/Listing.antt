-- The fields that records list, one behind the other, and those of a class, which come first.
use Rattle.std.proofs.Common.{◌≡◌, ℕ, suc, ◌+◌, ◌≤◌, List, [], ◌∷◌, ◌++◌, length, drop, take, Bool, true, false, cond, Option, Some, None, Ok, Err, refl, sym, ap, subst, ◌∙◌, append_assoc, arith}
use Rattle.std.specs.Prelude.{◌==◌, Result}
use Rattle.std.proofs.lemmas.List.{append-nil, drop_all}
use Rattle.ode_codec.specs.declared.record.Record.{Record}
use Rattle.ode_keep.specs.Entries.{Entries}
use Rattle.ode_value.specs.Keys.{added_key, added_kind}
use Rattle.ode_value.specs.declared.change.Added.{Added}
use Rattle.ode_value.specs.declared.key.Key.{Key}
use Rattle.ode_passes.specs.Answers.{Answers, Leaves}
use Rattle.ode_passes.specs.Records.{Found, decoded, with_record}
use Rattle.ode_passes.specs.Rules.{Ruled, ◌>>=◌, found, needs, through}
use Rattle.ode_passes.specs.Walking.{within}
use Rattle.ode_passes.specs.declared.cause.Cause.TheVariants as cause
use Rattle.ode_passes.specs.declared.error.OpenError.{OpenError}
use Rattle.ode_passes.specs.declared.error.OpenError.TheVariants as error
use Rattle.ode_opening.specs.Births.{Lists, added_in, added_of, first_missing, front_of, is_kept, list_one, listed, none_missing, own_added}

-- behind those that were listed before
abbrev pub with_listed : List Added → Ruled (List Added) → Ruled (List Added)
with_listed front m = m >>= λ rest. Ok (front ++ rest)

pub none_listed : (m : Ruled (List Added)) → with_listed [] m ≡ m
none_listed (Ok rest) = refl
none_listed (Err why) = refl

one_listed : (front : List Added) (a : Added) (m : Ruled (List Added)) → with_listed front (m >>= λ rest. Ok (a ∷ rest)) ≡ with_listed (front ++ a ∷ []) m
one_listed front a (Ok rest) = let same : front ++ a ∷ rest ≡ front ++ a ∷ [] ++ rest = simp append_assoc in ap (λ (all : List Added). Ok all) same
one_listed front a (Err why) = refl

-- one record, by whether it keeps its rule
module _ (heads : Found) (count : ℕ) (before : Found) (f : Key × Record) where
  abbrev by_rule : Bool → Ruled Added
  by_rule b = needs (cause.Record f.0) b >>= λ _. found (cause.Record f.0) (added_of heads f.1)

  pub list_broken : is_kept heads before count f.1 ≡ false → list_one heads count before f ≡ Err (cause.Record f.0)
  list_broken broken = ap by_rule broken

  pub list_kept : is_kept heads before count f.1 ≡ true → list_one heads count before f ≡ found (cause.Record f.0) (added_of heads f.1)
  list_kept kept = ap by_rule kept

module _ (heads : Found) (count : ℕ) (before : Found) (f : Key × Record) (more : Found) (front : List Added) (all : Ruled (List Added))
    (so_far : with_listed front (listed heads count before (f ∷ more)) ≡ all) where
  pub lists_on : (a : Added) → Answers (list_one heads count before f) (Ok a) → with_listed (front ++ a ∷ []) (listed heads count (before ++ f ∷ []) more) ≡ all
  lists_on a is =
      sym (one_listed front a (listed heads count (before ++ f ∷ []) more))
      ∙ sym (ap (λ (m : Ruled Added). with_listed front (m >>= λ x. listed heads count (before ++ f ∷ []) more >>= λ rest. Ok (x ∷ rest))) is)
      ∙ so_far

  pub lists_no_more : (e : OpenError) → Answers {X = Added} (list_one heads count before f) (Err e) → Lists all (Err e)
  lists_no_more (error.BadFile why) is =
      sym so_far ∙ ap (λ (m : Ruled Added). with_listed front (m >>= λ x. listed heads count (before ++ f ∷ []) more >>= λ rest. Ok (x ∷ rest))) is
  lists_no_more error.DiskFault is = tt
  lists_no_more error.Memory is = tt

pub lists_all : (heads : Found) (count : ℕ) (before : Found) (front : List Added) (all : Ruled (List Added)) → with_listed front (listed heads count before []) ≡ all → all ≡ Ok front
lists_all heads count before front all so_far = sym so_far ∙ ap (λ (xs : List Added). Ok xs) (append-nil front)

-- ---- the walk over them, and what stands behind it

pub walk_stops : (heads : Found) (count : ℕ) (entries : Entries) (records : Found) (e : OpenError)
    → Leaves {X = Unit {0}} (through with_record [] (within added_kind added_kind entries)) records (Err e) → Lists (added_in heads count entries) (Err e)
unfolding added_in
walk_stops heads count entries records (error.BadFile why) stopped =
    ap (λ (m : Ruled Found). m >>= λ rs. none_missing (first_missing rs count) >>= λ _. listed heads count [] rs) stopped
walk_stops heads count entries records error.DiskFault stopped = tt
walk_stops heads count entries records error.Memory stopped = tt

module _ (heads : Found) (count : ℕ) (entries : Entries) (records : Found) (read : decoded (within added_kind added_kind entries) ≡ Ok records) where
  abbrev behind_missing : Option ℕ → Ruled (List Added)
  behind_missing o = none_missing o >>= λ _. listed heads count [] records

  as_read : added_in heads count entries ≡ behind_missing (first_missing records count)
  unfolding added_in
  as_read = ap (λ (m : Ruled Found). m >>= λ rs. none_missing (first_missing rs count) >>= λ _. listed heads count [] rs) read

  pub missing_stops : (birth : ℕ) → first_missing records count ≡ Some birth → added_in heads count entries ≡ Err (cause.Missing (added_key 0 birth))
  missing_stops birth missing = as_read ∙ ap behind_missing missing

  pub lists_found : (r : Result (List Added) OpenError) → first_missing records count ≡ None → Lists (listed heads count [] records) r → Lists (added_in heads count entries) r
  lists_found r none lists = subst (λ (m : Ruled (List Added)). Lists m r) (sym (as_read ∙ ap behind_missing none)) lists

-- ---- those of a class

pub front_first : (class : ℕ) (added : List Added) → take (length (front_of class added)) added ≡ front_of class added
front_first class [] = refl
front_first class (a ∷ more) = by (a.class == class) (front_first class more)
  where
    by : (b : Bool) → take (length (front_of class more)) more ≡ front_of class more
        → take (length (cond b (a ∷ front_of class more) [])) (a ∷ more) ≡ cond b (a ∷ front_of class more) []
    by true same = ap (λ (rest : List Added). a ∷ rest) same
    by false same = refl

pub own_first : (head : Option (ℕ × ℕ)) (added : List Added) → take (length (own_added head added)) added ≡ own_added head added
own_first None added = refl
own_first (Some h) added = front_first h.0 added

module _ (class count : ℕ) (a : Added) (more : List Added) (all : ℕ) (so_far : all ≡ count + length (front_of class (a ∷ more))) where
  pub front_on : (a.class == class) ≡ true → all ≡ count + 1 + length (front_of class more)
  front_on own =
      let more_of : length (front_of class (a ∷ more)) ≡ suc (length (front_of class more)) = ap (λ (b : Bool). length (cond b (a ∷ front_of class more) [])) own in
      omega (arith, so_far, more_of)

  pub front_ends : (a.class == class) ≡ false → all ≡ count
  front_ends other =
      let none : length (front_of class (a ∷ more)) ≡ 0 = ap (λ (b : Bool). length (cond b (a ∷ front_of class more) [])) other in
      omega (arith, so_far, none)

-- behind the last one
pub front_done : (class count : ℕ) (added : List Added) (all : ℕ) → length added ≤ count → all ≡ count + length (front_of class (drop count added)) → count ≡ length added → length added ≡ all
front_done class count added all past so_far same =
    let none : drop count added ≡ [] = drop_all count added past in
    let empty : length (front_of class (drop count added)) ≡ 0 = ap (λ (xs : List Added). length (front_of class xs)) none in
    omega (arith, so_far, same, empty)
