-- Of the records, and of the changes, that some bytes begin with there is one at most.
use Rattle.std.proofs.Common.{◌≡◌, ℕ, List, ◌++◌, length, take, drop, Option, Some, None, refl, sym, ap, ◌∙◌}
use Rattle.std.specs.Int.{w16, w64}
use Rattle.std.proofs.lemmas.List.{take_at, drop_at}
use Rattle.std.proofs.lemmas.Nat.{from_be_bytes-to_be_bytes_2, from_be_bytes-to_be_bytes_8}
use Rattle.std.specs.Prelude.{slice_index}
use Rattle.ode_host.specs.Fields.{number_at}
use Rattle.ode_value.specs.declared.key.Key.{Key}
use Rattle.ode_value.specs.Records.{Row, key_bytes, row_bytes}
use Rattle.ode_value.specs.Keys.{key}
use Rattle.ode_keep.specs.Snapshots.{FitsKey, FitsRow}
use Rattle.ode_keep.specs.Payloads.{FitsChange, change_bytes, spelled_change}
use Rattle.ode_keep.specs.declared.spelling.TheConstants.{KEY_LEN, PUT, REMOVAL, ROW_HEAD}

-- the key that bytes begin with
abbrev key_of : List ℕ → Key
key_of bytes = key (slice_index bytes 0) (number_at w64 bytes 1) (number_at w64 bytes 9)

pub key_first : (k : Key) (rest : List ℕ) → FitsKey k → key_of (key_bytes k ++ rest) ≡ k
key_first k rest fits =
    let a : number_at w64 (key_bytes k ++ rest) 1 ≡ k.a = from_be_bytes-to_be_bytes_8 k.a fits.a in
    let b : number_at w64 (key_bytes k ++ rest) 9 ≡ k.b = from_be_bytes-to_be_bytes_8 k.b fits.b in
    λ i. record { kind = k.kind; a = a i; b = b i }

pub same_key_first : (k l : Key) (rest more : List ℕ) → FitsKey k → FitsKey l → key_bytes k ++ rest ≡ key_bytes l ++ more → (k ≡ l) × (rest ≡ more)
same_key_first k l rest more fits_k fits_l same = (sym (key_first k rest fits_k) ∙ ap key_of same ∙ key_first l more fits_l, ap (drop KEY_LEN) same)

length_first : (r : Row) (rest : List ℕ) → FitsRow r → number_at w16 (row_bytes r ++ rest) KEY_LEN ≡ length r.1
length_first r rest fits = from_be_bytes-to_be_bytes_2 (length r.1) fits.value

pub same_row_first : (r s : Row) (rest more : List ℕ) → FitsRow r → FitsRow s → row_bytes r ++ rest ≡ row_bytes s ++ more → (r ≡ s) × (rest ≡ more)
same_row_first r s rest more fits_r fits_s same =
    let keys : r.0 ≡ s.0 = sym (key_first r.0 (drop KEY_LEN (row_bytes r ++ rest)) fits_r.key) ∙ ap key_of same ∙ key_first s.0 (drop KEY_LEN (row_bytes s ++ more)) fits_s.key in
    let long : length r.1 ≡ length s.1 = sym (length_first r rest fits_r) ∙ ap (λ (bs : List ℕ). number_at w16 bs KEY_LEN) same ∙ length_first s more fits_s in
    let behind : r.1 ++ rest ≡ s.1 ++ more = ap (drop ROW_HEAD) same in
    let values : r.1 ≡ s.1 = sym (take_at r.1 rest (length r.1) refl) ∙ ap (take (length r.1)) behind ∙ take_at s.1 more (length r.1) (sym long) in
    let rests : rest ≡ more = sym (drop_at r.1 rest (length r.1) refl) ∙ ap (drop (length r.1)) behind ∙ drop_at s.1 more (length r.1) (sym long) in
    (λ i. (keys i, values i), rests)

same_spelled : (k l : Key) (v w : Option (List ℕ)) (rest more : List ℕ) → FitsChange (k, v) → FitsChange (l, w) → spelled_change k v ++ rest ≡ spelled_change l w ++ more
    → (k ≡ l) × (v ≡ w) × (rest ≡ more)
same_spelled k l None None rest more fits_k fits_l same =
    let both = same_key_first k l rest more fits_k.key fits_l.key (ap (drop 1) same) in
    (both.0, refl, both.1)
same_spelled k l (Some v) (Some w) rest more fits_k fits_l same =
    let both = same_row_first (k, v) (l, w) rest more (record { key = fits_k.key; value = fits_k.value }) (record { key = fits_l.key; value = fits_l.value }) (ap (drop 1) same) in
    (ap (λ (r : Row). r.0) both.0, ap (λ (r : Row). Some r.1) both.0, both.1)
same_spelled k l None (Some w) rest more fits_k fits_l same = let marks : REMOVAL ≡ PUT = ap (λ (bs : List ℕ). slice_index bs 0) same in absurd (cc (marks))
same_spelled k l (Some v) None rest more fits_k fits_l same = let marks : PUT ≡ REMOVAL = ap (λ (bs : List ℕ). slice_index bs 0) same in absurd (cc (marks))

pub same_change_first : (c d : Key × Option (List ℕ)) (rest more : List ℕ) → FitsChange c → FitsChange d → change_bytes c ++ rest ≡ change_bytes d ++ more → (c ≡ d) × (rest ≡ more)
same_change_first c d rest more fits_c fits_d same =
    let all = same_spelled c.0 d.0 c.1 d.1 rest more fits_c fits_d same in
    (λ i. (all.0 i, all.1 i), all.2)
