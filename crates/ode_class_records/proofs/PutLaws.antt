-- Rows that are put one behind the other.
use Rattle.std.proofs.Common.{◌≡◌, ℕ, ◌+◌, List, [], ◌∷◌, ◌++◌, Some, refl, ap, sym, ◌∙◌, subst, append_assoc}
use Rattle.std.proofs.lemmas.List.{append-nil}
use Rattle.std.specs.BTreeMap.{insert_entry}
use Rattle.std.specs.List.{enumerate_from, flat_map}
use Rattle.ode_keep.specs.Entries.{Changes, HasRisingKeys}
use Rattle.ode_keep.specs.Rising.{above_all, follows, inserted_last, rising_front}
use Rattle.ode_keep.proofs.Keys.{key_total}
use Rattle.ode_value.specs.Keys.{key_cmp}
use Rattle.ode_value.specs.Records.{Row}
use Rattle.ode_value.specs.Tables.{Table}
use Rattle.ode_class_records.specs.ClassRows.{pieces_at}
use Rattle.ode_class_records.specs.Puts.{put_of, puts, with_rows}

pub rows_behind : (rs ss : List Row) (cs : Changes) → with_rows (rs ++ ss) cs ≡ with_rows ss (with_rows rs cs)
rows_behind [] ss cs = refl
rows_behind (r ∷ rs) ss cs = rows_behind rs ss (insert_entry key_cmp cs r.0 (Some r.1))

-- one row more
pub row_more : (rs : List Row) (r : Row) (old cs new : Changes) → cs ≡ with_rows rs old → new ≡ with_rows (r ∷ []) cs → new ≡ with_rows (rs ++ r ∷ []) old
row_more rs r old cs new so more = more ∙ ap (with_rows (r ∷ [])) so ∙ sym (rows_behind rs (r ∷ []) old)

pub tables_next : (class i : ℕ) (t : Table) (left rest : List Table) (cs new : Changes) → left ≡ t ∷ rest → new ≡ with_rows (pieces_at class (i, t)) cs
    → with_rows (flat_map (pieces_at class) (enumerate_from (i + 1) rest)) new ≡ with_rows (flat_map (pieces_at class) (enumerate_from i left)) cs
tables_next class i t left rest cs new split more =
    ap (with_rows (flat_map (pieces_at class) (enumerate_from (i + 1) rest))) more
    ∙ sym (rows_behind (pieces_at class (i, t)) (flat_map (pieces_at class) (enumerate_from (i + 1) rest)) cs)
    ∙ ap (λ (ts : List Table). with_rows (flat_map (pieces_at class) (enumerate_from i ts)) cs) (sym split)

-- rows whose keys rise come one behind the other
pub rising_rows : (rs : List Row) (cs : Changes) → HasRisingKeys (cs ++ puts rs) → with_rows rs cs ≡ cs ++ puts rs
rising_rows [] cs rising = sym (append-nil cs)
rising_rows (r ∷ rs) cs rising =
    let last : insert_entry key_cmp cs r.0 (Some r.1) ≡ cs ++ put_of r ∷ [] =
    inserted_last key_total cs r.0 (Some r.1)
    (above_all key_total cs r.0 (rising_front key_cmp cs (puts (r ∷ rs)) rising) (follows key_cmp cs (put_of r) (puts rs) rising)) in
    let moved : (cs ++ put_of r ∷ []) ++ puts rs ≡ cs ++ puts (r ∷ rs) = append_assoc cs (put_of r ∷ []) (puts rs) in
    ap (with_rows rs) last ∙ rising_rows rs (cs ++ put_of r ∷ []) (subst HasRisingKeys (sym moved) rising) ∙ moved
