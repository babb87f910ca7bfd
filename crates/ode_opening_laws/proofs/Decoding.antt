-- Records that are decoded one behind the other.
use Rattle.std.proofs.Common.{◌≡◌, ℕ, List, [], ◌∷◌, ◌++◌, Option, Some, Ok, sym, ap, ◌∙◌, append_assoc}
use Rattle.std.proofs.lemmas.List.{append-nil}
use Rattle.ode_codec.specs.Reading.{record_under}
use Rattle.ode_codec.specs.Rules.{IsRecord}
use Rattle.ode_codec.specs.Spelling.{key_of, value_of}
use Rattle.ode_codec.specs.declared.record.Record.{Record}
use Rattle.ode_passes.specs.Records.{Found, with_record}
use Rattle.ode_passes.specs.Rules.{◌>>=◌, found, through}
use Rattle.ode_passes.specs.declared.cause.Cause.TheVariants as cause
use Rattle.ode_value.specs.Records.{Row}
use Rattle.ode_value.specs.declared.key.Key.{Key}

-- each record is read from its spelling
abbrev pub Again : Type 0
Again = (r : Record) → IsRecord r → record_under (key_of r) (value_of r) ≡ Some r

pub decodes_one : Again → (r : Record) (k : Key) (v : List ℕ) → IsRecord r → k ≡ key_of r → v ≡ value_of r → record_under k v ≡ Some r
decodes_one again r k v is key value =
    ap (λ (q : Key). record_under q v) key ∙ ap (λ (w : List ℕ). record_under (key_of r) w) value ∙ again r is

-- row by row
abbrev pub Decode : List Row → Found → Type 0
Decode [] [] = Unit {0}
Decode (e ∷ es) (f ∷ fs) = (e.0 ≡ f.0) × (record_under e.0 e.1 ≡ Some f.1) × Decode es fs
Decode _ _ = ⊥

pub decode_append : (es ds : List Row) (fs gs : Found) → Decode es fs → Decode ds gs → Decode (es ++ ds) (fs ++ gs)
decode_append [] ds [] gs first second = second
decode_append [] ds (f ∷ fs) gs first second = absurd first
decode_append (e ∷ es) ds [] gs first second = absurd first
decode_append (e ∷ es) ds (f ∷ fs) gs first second = (first.0, first.1, decode_append es ds fs gs first.2 second)

pub decodes_all : (es : List Row) (fs front : Found) → Decode es fs → through with_record front es ≡ Ok (front ++ fs)
decodes_all [] [] front all = let same : front ≡ front ++ [] = sym (append-nil front) in ap (λ (xs : Found). Ok xs) same
decodes_all [] (f ∷ fs) front all = absurd all
decodes_all (e ∷ es) [] front all = absurd all
decodes_all (e ∷ es) (f ∷ fs) front all =
    let same : front ++ f ∷ [] ++ fs ≡ front ++ f ∷ fs = simp append_assoc in
    ap (λ (o : Option Record). found (cause.Record e.0) o >>= (λ r. Ok (front ++ (e.0, r) ∷ [])) >>= λ t. through with_record t es) all.1
    ∙ ap (λ (k : Key). through with_record (front ++ (k, f.1) ∷ []) es) all.0
    ∙ decodes_all es fs (front ++ f ∷ []) all.2
    ∙ ap (λ (xs : Found). Ok xs) same
