-- A text that is cut out of records piece by piece.
use Rattle.std.proofs.Common.{◌≡◌, ℕ, ◌+◌, ◌-◌, ◌<◌, List, [], ◌∷◌, ◌++◌, length, drop, false, cond, Option, Some, None, Ok, Err, refl, sym, ap, ◌∙◌, append_assoc, arith}
use Rattle.std.specs.Prelude.{◌==◌, slice_get}
use Rattle.std.specs.Option.{option_and_then}
use Rattle.std.proofs.lemmas.Bool.Decides.{nat_tests}
use Rattle.std.proofs.lemmas.List.{append-nil}
use Rattle.ode_codec.specs.declared.record.Record.{Record}
use Rattle.ode_types.proofs.TurnLaws.{drop_none, drop_there}
use Rattle.ode_value.specs.declared.key.Key.{Key}
use Rattle.ode_passes.specs.Records.{Found}
use Rattle.ode_passes.specs.Rules.{Ruled, ◌>>=◌, found}
use Rattle.ode_passes.specs.declared.cause.Cause.TheVariants as cause
use Rattle.ode_opening.specs.Declaring.{piece_in, text_in}

-- behind what was cut before
abbrev pub with_front : List ℕ → Ruled (List ℕ × Found) → Ruled (List ℕ × Found)
with_front front m = m >>= λ p. Ok (front ++ p.0, p.1)

pub no_front : (m : Ruled (List ℕ × Found)) → with_front [] m ≡ m
no_front (Ok p) = refl
no_front (Err e) = refl

more_front : (front bytes : List ℕ) (m : Ruled (List ℕ × Found)) → with_front front (m >>= λ rest. Ok (bytes ++ rest.0, rest.1)) ≡ with_front (front ++ bytes) m
more_front front bytes (Ok p) = let same : front ++ (bytes ++ p.0) ≡ front ++ bytes ++ p.0 = simp append_assoc in ap (λ (text : List ℕ). Ok (text, p.1)) same
more_front front bytes (Err e) = refl

not_0 : (n : ℕ) → 0 < n → (n == 0) ≡ false
not_0 n some = grind (arith, nat_tests)

module _ (class left : ℕ) (some : 0 < left) where
  -- what there is of a text of which bytes are left
  one_more : (f : Key × Record) (more : Found) → text_in class left (f ∷ more)
      ≡ (found (cause.Class class) (piece_in left f.1) >>= λ bytes. text_in class (left - length bytes) more >>= λ rest. Ok (bytes ++ rest.0, rest.1))
  one_more f more =
      ap (λ b. cond b (Ok ([], f ∷ more)) (found (cause.Class class) (piece_in left f.1) >>= λ bytes. text_in class (left - length bytes) more >>= λ rest. Ok (bytes ++ rest.0, rest.1)))
      (not_0 left some)

  none_more : text_in class left [] ≡ Err (cause.Class class)
  none_more = ap (λ b. cond b (Ok ([], [])) (Err (cause.Class class))) (not_0 left some)

  module _ (records : Found) (at : ℕ) (front : List ℕ) (all : Ruled (List ℕ × Found)) (so_far : with_front front (text_in class left (drop at records)) ≡ all) where
    abbrev Goes : List ℕ → Type 0
    Goes bytes = with_front (front ++ bytes) (text_in class (left - length bytes) (drop (at + 1) records)) ≡ all

    goes_by : (bytes : List ℕ) (o : Option (Key × Record)) → slice_get records at ≡ o → option_and_then (λ f. piece_in left f.1) o ≡ Some bytes → Goes bytes
    goes_by bytes None is piece = absurd (cc)
    goes_by bytes (Some f) is piece =
        let split : drop at records ≡ f ∷ drop (at + 1) records = drop_there records at f is in
        let cut : text_in class left (drop at records) ≡ (text_in class (left - length bytes) (drop (at + 1) records) >>= λ rest. Ok (bytes ++ rest.0, rest.1)) =
        ap (text_in class left) split ∙ one_more f (drop (at + 1) records)
        ∙ ap (λ (o : Option (List ℕ)). found (cause.Class class) o >>= λ b. text_in class (left - length b) (drop (at + 1) records) >>= λ rest. Ok (b ++ rest.0, rest.1)) piece in
        sym (more_front front bytes (text_in class (left - length bytes) (drop (at + 1) records))) ∙ sym (ap (with_front front) cut) ∙ so_far

    pub cut_goes : (bytes : List ℕ) → option_and_then (λ f. piece_in left f.1) (slice_get records at) ≡ Some bytes → Goes bytes
    cut_goes bytes piece = goes_by bytes (slice_get records at) refl piece

    stops_by : (o : Option (Key × Record)) → slice_get records at ≡ o → option_and_then (λ f. piece_in left f.1) o ≡ None → all ≡ Err (cause.Class class)
    stops_by None is piece =
        sym so_far ∙ ap (λ (fs : Found). with_front front (text_in class left fs)) (drop_none records at is) ∙ ap (with_front front) none_more
    stops_by (Some f) is piece =
        sym so_far ∙ ap (λ (fs : Found). with_front front (text_in class left fs)) (drop_there records at f is) ∙ ap (with_front front) (one_more f (drop (at + 1) records))
        ∙ ap (λ (o : Option (List ℕ)). with_front front (found (cause.Class class) o >>= λ b. text_in class (left - length b) (drop (at + 1) records) >>= λ rest. Ok (b ++ rest.0, rest.1))) piece

    pub cut_stops : option_and_then (λ f. piece_in left f.1) (slice_get records at) ≡ None → all ≡ Err (cause.Class class)
    cut_stops piece = stops_by (slice_get records at) refl piece

ends_by : (class : ℕ) (front : List ℕ) (fs : Found) → with_front front (text_in class 0 fs) ≡ Ok (front, fs)
ends_by class front [] = ap (λ (text : List ℕ). Ok (text, [])) (append-nil front)
ends_by class front (f ∷ fs) = ap (λ (text : List ℕ). Ok (text, f ∷ fs)) (append-nil front)

pub cut_ends : (class left : ℕ) (fs : Found) (front : List ℕ) (all : Ruled (List ℕ × Found)) → left ≡ 0 → with_front front (text_in class left fs) ≡ all → all ≡ Ok (front, fs)
cut_ends class left fs front all none so_far = sym so_far ∙ ap (λ (n : ℕ). with_front front (text_in class n fs)) none ∙ ends_by class front fs
