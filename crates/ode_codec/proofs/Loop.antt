-- Reading values one behind the other, as a loop does.
use Rattle.std.proofs.Common.{◌≡◌, ℕ, suc, ◌-◌, ◌+◌, ◌≤◌, ◌<◌, List, [], ◌∷◌, ◌++◌, Option, Some, None, refl, sym, ap, ◌∙◌, append_assoc, arith}
use Rattle.std.proofs.lemmas.List.{append-nil}
use Rattle.ode_value.specs.declared.value.Value.{Value}
use Rattle.ode_codec.specs.declared.outside.Unread.{Unread}
use Rattle.ode_codec.specs.declared.outside.Unread.TheVariants.{Memory, Outside}
use Rattle.ode_codec.specs.Formats.{◌>>=◌, Fails, behind}
use Rattle.ode_codec.specs.Values.{value_in, values_in}

-- what was read before, and what is still read
abbrev pub with_front : List Value → Option (List Value × List ℕ) → Option (List Value × List ℕ)
with_front front read = read >>= λ x. Some (front ++ x.0, x.1)

one_more : (front : List Value) (v : Value) (read : Option (List Value × List ℕ)) → with_front front (read >>= λ x. Some (v ∷ x.0, x.1)) ≡ with_front (front ++ v ∷ []) read
one_more front v (Some x) = ap (λ (vs : List Value). Some (vs, x.1)) (simp append_assoc)
one_more front v None = refl

pub goes_on : (front : List Value) (count i : ℕ) (bytes : List ℕ) (v : Value) (after : List ℕ) (all : Option (List Value × List ℕ)) → i < count → value_in bytes ≡ Some (v, after)
    → with_front front (values_in (count - i) bytes) ≡ all → with_front (front ++ v ∷ []) (values_in (count - (i + 1)) after) ≡ all
unfolding values_in
goes_on front count i bytes v after all lt read so_far =
    let k : count - i ≡ suc (count - (i + 1)) = omega arith in
    let one : with_front front (values_in (count - i) bytes) ≡ with_front (front ++ v ∷ []) (values_in (count - (i + 1)) after) = rw (k, read) (one_more front v (values_in (count - (i + 1)) after)) in
    sym one ∙ so_far

pub ends : (e : Unread) (front : List Value) (count i : ℕ) (bytes : List ℕ) (all : Option (List Value × List ℕ)) → i < count → Fails e (value_in bytes)
    → with_front front (values_in (count - i) bytes) ≡ all → Fails e all
unfolding values_in
ends Memory front count i bytes all lt read so_far = tt
ends Outside front count i bytes all lt read so_far =
    let k : count - i ≡ suc (count - (i + 1)) = omega arith in
    let one : with_front front (values_in (count - i) bytes) ≡ None = rw (k, read) refl in
    sym so_far ∙ one

pub is_done : (front : List Value) (count i : ℕ) (bytes : List ℕ) (all : Option (List Value × List ℕ)) → count ≤ i → with_front front (values_in (count - i) bytes) ≡ all → all ≡ Some (front, bytes)
unfolding values_in
is_done front count i bytes all le so_far =
    let k : count - i ≡ 0 = omega arith in
    let one : with_front front (values_in (count - i) bytes) ≡ Some (front, bytes) = rw k (ap (λ (vs : List Value). Some (vs, bytes)) (append-nil front)) in
    sym so_far ∙ one

-- ---- where values end

behind_first : (v : Option (Value × List ℕ)) (n : ℕ) → behind (v >>= λ first. values_in n first.1 >>= λ others. Some (first.0 ∷ others.0, others.1)) ≡ (behind v >>= λ rest. behind (values_in n rest))
behind_first None n = refl
behind_first (Some x) n = by (values_in n x.1)
  where
    by : (o : Option (List Value × List ℕ)) → behind (o >>= λ others. Some (x.0 ∷ others.0, others.1)) ≡ behind o
    by None = refl
    by (Some y) = refl

behind_next : (count i : ℕ) (bytes : List ℕ) → i < count → behind (values_in (count - i) bytes) ≡ (behind (value_in bytes) >>= λ rest. behind (values_in (count - (i + 1)) rest))
unfolding values_in
behind_next count i bytes lt =
    let k : count - i ≡ suc (count - (i + 1)) = omega arith in
    rw k (behind_first (value_in bytes) (count - (i + 1)))

pub passes_on : (count i : ℕ) (bytes after : List ℕ) (all : Option (List ℕ)) → i < count → behind (value_in bytes) ≡ Some after
    → behind (values_in (count - i) bytes) ≡ all → behind (values_in (count - (i + 1)) after) ≡ all
passes_on count i bytes after all lt read so_far =
    sym (behind_next count i bytes lt ∙ ap (λ o. o >>= λ (rest : List ℕ). behind (values_in (count - (i + 1)) rest)) read) ∙ so_far

pub passes_no_more : (count i : ℕ) (bytes : List ℕ) (all : Option (List ℕ)) → i < count → behind (value_in bytes) ≡ None → behind (values_in (count - i) bytes) ≡ all → all ≡ None
passes_no_more count i bytes all lt read so_far =
    sym so_far ∙ behind_next count i bytes lt ∙ ap (λ o. o >>= λ (rest : List ℕ). behind (values_in (count - (i + 1)) rest)) read

pub has_passed : (count i : ℕ) (bytes : List ℕ) (all : Option (List ℕ)) → count ≤ i → behind (values_in (count - i) bytes) ≡ all → all ≡ Some bytes
unfolding values_in
has_passed count i bytes all le so_far =
    let k : count - i ≡ 0 = omega arith in
    let one : behind (values_in (count - i) bytes) ≡ Some bytes = rw k refl in
    sym so_far ∙ one
