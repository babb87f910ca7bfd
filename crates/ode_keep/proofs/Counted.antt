-- Items behind their number that are taken one after another.
use Rattle.std.proofs.Common.{◌≡◌, ◌<◌, ◌≤◌, ◌^◌, ℕ, ◌+◌, ⊎_elim, List, [], ◌∷◌, ◌++◌, length, take, drop, Option, Some, None, refl, sym, ◌∙◌, ap, subst, arith, append_assoc, length-append}
use Rattle.std.proofs.lemmas.List.{append-nil, flat_map_more}
use Rattle.std.proofs.lemmas.Nat.{from_be_bytes-to_be_bytes_4}
use Rattle.std.specs.Prelude.{◌⊎◌}
use Rattle.std.specs.Cmp.{IsTotalOrder}
use Rattle.std.specs.Int.{w32, to_be_bytes, from_be_bytes}
use Rattle.std.specs.List.{AllByRecursion, flat_map}
use Rattle.std.specs.List.Sorted.{IsStrictlySortedBy}
use Rattle.std.specs.Map.{keys_of}
use Rattle.std.specs.declared.cmp.Ordering.{Ordering}
use Rattle.ode_host.proofs.Determinacy.{AreFirstOnce, IsAhead, NextSpelled, Reads, forked, one_list, spelled_once, spelled_reads}
use Rattle.ode_keep.specs.Counted.{IsCountedList}
use Rattle.ode_keep.specs.Rising.{MayFollow, follows, last_of, last_of-push, rising_push}
use Rattle.ode_keep.specs.declared.spelling.TheConstants.{COUNT_LEN}
use Rattle.ode_keep.proofs.Lists.{all_push}

pub spelled_push : {X : Type 0} (spell : X → List ℕ) (xs : List X) (x : X) (rest : List ℕ) → flat_map spell (xs ++ x ∷ []) ++ rest ≡ flat_map spell xs ++ (spell x ++ rest)
spelled_push spell xs x rest = ap (λ (l : List ℕ). l ++ rest) (sym (flat_map_more spell [] xs x)) ∙ append_assoc (flat_map spell xs) (spell x) rest

none_read : {X : Type 0} (Next : List ℕ → X → List ℕ → Type 0) (others : List X) (s t : List ℕ) → length others ≡ 0 → Reads Next s others t → s ≡ t
none_read Next [] s t none reads = reads
none_read Next (x ∷ others) s t none reads = absurd (omega (arith, none))

module _ {K V : Type 0} (spell : K × V → List ℕ) (Fits : K × V → Type 0) (cmp : K → K → Ordering) where
  -- Of bytes these items were taken, the last of them under this key, and this is left. All of them make the new state of the old.
  pub record AreTakenInTurn {S : Type 0} (all : List (K × V) → S → S) (bytes : List ℕ) (count made : ℕ) (old new : S) (rest : List ℕ) (last : Option K) : Type 0 where
    pub done : List (K × V)
    pub split : bytes ≡ to_be_bytes w32 count ++ (flat_map spell done ++ rest)
    pub each : AllByRecursion Fits done
    pub rising : IsStrictlySortedBy cmp (keys_of done)
    pub last_is : last ≡ last_of None done
    pub many : made ≡ length done
    pub within : made ≤ count
    pub state : new ≡ all done old

  -- bytes spell one list of items, where each has some
  pub one_counted : AreFirstOnce spell Fits → ((x : K × V) (rest : List ℕ) → [] ≡ spell x ++ rest → ⊥) → (xs ys : List (K × V)) (bytes : List ℕ)
      → IsCountedList spell Fits cmp xs bytes → IsCountedList spell Fits cmp ys bytes → xs ≡ ys
  one_counted once some xs ys bytes first second =
      one_list spell Fits once some xs ys first.each second.each (ap (λ (l : List ℕ). drop COUNT_LEN l) (sym first.spelled ∙ second.spelled))

  abbrev Next : List ℕ → K × V → List ℕ → Type 0
  Next = NextSpelled spell Fits

  module _ {S : Type 0} (all : List (K × V) → S → S) where
    pub none_taken : (bytes : List ℕ) (count : ℕ) (old : S) (rest : List ℕ) → old ≡ all [] old → bytes ≡ to_be_bytes w32 count ++ rest → AreTakenInTurn all bytes count 0 old old rest None
    unfolding IsStrictlySortedBy
    none_taken bytes count old rest same split = record { done = []; split = split; each = tt; rising = tt; last_is = refl; many = refl; within = omega arith; state = same }

    module _ (bytes : List ℕ) (count made : ℕ) (old new : S) (rest : List ℕ) (last : Option K) (is : AreTakenInTurn all bytes count made old new rest last) where
      pub one_more_taken : IsTotalOrder cmp → (x : K × V) (more : List ℕ) (next : S) → Fits x → MayFollow cmp last x.0 → rest ≡ spell x ++ more → next ≡ all (is.done ++ x ∷ []) old
          → made < count → AreTakenInTurn all bytes count (made + 1) old next more (Some x.0)
      one_more_taken total x more next fits after begins state room = record {
        done = is.done ++ x ∷ [];
        split = is.split ∙ ap (λ (l : List ℕ). to_be_bytes w32 count ++ l) (ap (λ (l : List ℕ). flat_map spell is.done ++ l) begins ∙ sym (spelled_push spell is.done x more));
        each = all_push Fits is.done x is.each fits;
        rising = rising_push total is.done x is.rising (subst (λ (l : Option K). MayFollow cmp l x.0) is.last_is after);
        last_is = sym (last_of-push None is.done x);
        many = omega (arith, is.many, length-append is.done (x ∷ []));
        within = omega (arith, room);
        state = state;
      }

      module _ (once : AreFirstOnce spell Fits) (fit : count < 2 ^ 32) (items : List (K × V)) (form : IsCountedList spell Fits cmp items bytes) where
        count_is : length items ≡ count
        count_is =
            sym (from_be_bytes-to_be_bytes_4 (length items) form.few)
            ∙ ap (λ (l : List ℕ). from_be_bytes w32 (take COUNT_LEN l)) (sym form.spelled ∙ is.split)
            ∙ from_be_bytes-to_be_bytes_4 count fit

        same_behind : flat_map spell is.done ++ rest ≡ flat_map spell items ++ []
        same_behind = ap (λ (l : List ℕ). drop COUNT_LEN l) (sym is.split ∙ form.spelled) ∙ sym (append-nil (flat_map spell items))

        split_either : IsAhead Next is.done rest items [] ⊎ IsAhead Next items [] is.done rest
        split_either =
            forked Next (spelled_once spell Fits once) is.done items (flat_map spell is.done ++ rest) rest [] (spelled_reads spell Fits is.done rest is.each)
            (subst (λ (l : List ℕ). Reads Next l items []) (sym same_behind) (spelled_reads spell Fits items [] form.each))

        -- where items are left, one of them is next
        no_more : (others : List (K × V)) → items ≡ is.done ++ others → Reads Next rest others [] → made < count
            → ((x : K × V) (more : List ℕ) → Fits x → MayFollow cmp last x.0 → rest ≡ spell x ++ more → ⊥) → ⊥
        no_more [] pieces reads room none = absurd (omega (arith, ap length pieces, length-append is.done [], count_is, is.many))
        no_more (x ∷ others) pieces reads room none =
            none x reads.0 reads.1.0
            (subst (λ (l : Option K). MayFollow cmp l x.0) (sym is.last_is) (follows cmp is.done x others (subst (λ (l : List (K × V)). IsStrictlySortedBy cmp (keys_of l)) pieces form.rising)))
            reads.1.1

        pub not_other : made < count → ((x : K × V) (more : List ℕ) → Fits x → MayFollow cmp last x.0 → rest ≡ spell x ++ more → ⊥) → ⊥
        not_other room none = ⊎_elim
            (λ (ahead : IsAhead Next is.done rest items []). no_more ahead.others ahead.items ahead.reads room none)
            (λ (ahead : IsAhead Next items [] is.done rest). absurd (omega (arith, room, ap length ahead.items, length-append items ahead.others, count_is, is.many)))
            split_either

        -- where all are taken, nothing is left
        pub nothing_left : made ≡ count → length rest ≡ 0
        nothing_left whole = ⊎_elim
            (λ (ahead : IsAhead Next is.done rest items []).
            ap length (none_read Next ahead.others rest [] (omega (arith, whole, ap length ahead.items, length-append is.done ahead.others, count_is, is.many)) ahead.reads))
            (λ (ahead : IsAhead Next items [] is.done rest).
            ap length (sym (none_read Next ahead.others [] rest (omega (arith, whole, ap length ahead.items, length-append items ahead.others, count_is, is.many)) ahead.reads)))
            split_either

      -- all items are taken, and nothing is left
      pub all_taken : count < 2 ^ 32 → made ≡ count → rest ≡ [] → IsCountedList spell Fits cmp is.done bytes
      all_taken fit whole empty = record {
        spelled =
            is.split ∙ ap (λ (l : List ℕ). to_be_bytes w32 count ++ (flat_map spell is.done ++ l)) empty
            ∙ ap (λ (l : List ℕ). to_be_bytes w32 count ++ l) (append-nil (flat_map spell is.done))
            ∙ ap (λ (n : ℕ). to_be_bytes w32 n ++ flat_map spell is.done) (sym whole ∙ is.many);
        few = omega (arith, fit, whole, is.many);
        each = is.each;
        rising = is.rising;
      }
