-- What a write does to a list of bytes: a whole one is one of those that a stop cuts short.
use Rattle.std.proofs.Common.{◌≡◌, ◌≤◌, ◌⊎◌, ⊎_elim, ℕ, ◌+◌, ◌-◌, min, max, List, ◌++◌, length, take, drop, replicate, sym, ◌∙◌, ap, arith, append_assoc, length-append, length-drop}
use Rattle.std.proofs.lemmas.List.{take_at, drop_at, drop-take, take-take, take_min, length-take, length-replicate, drop-drop}
use Rattle.ode_host.specs.Host.{Torn, written_over}

module _ (at : ℕ) (bytes old : List ℕ) where
  front : List ℕ
  front = take at old ++ replicate (at - length old) 0

  rest : List ℕ
  rest = drop (at + length bytes) old

  length-front : length front ≡ at
  unfolding front
  length-front = omega (arith, length-append (take at old) (replicate (at - length old) 0), length-take at old, length-replicate {A = ℕ} (at - length old) 0)

  pub length-written_over : length (written_over old at bytes) ≡ max (length old) (at + length bytes)
  unfolding front
  length-written_over = omega (arith, length-append (front ++ bytes) (drop (at + length bytes) old), length-append front bytes, length-front, length-drop (at + length bytes) old)

  -- a whole write is one of the torn ones
  pub written-torn : Torn at (length bytes) old (written_over old at bytes)
  unfolding front
  written-torn = record {
    before =
        ap (λ (l : List ℕ). take (min at (length old)) l)
        (ap (λ (l : List ℕ). l ++ drop (at + length bytes) old) (append_assoc (take at old) (replicate (at - length old) 0) bytes)
        ∙ append_assoc (take at old) (replicate (at - length old) 0 ++ bytes) (drop (at + length bytes) old))
        ∙ take_at (take at old) ((replicate (at - length old) 0 ++ bytes) ++ drop (at + length bytes) old) (min at (length old)) (length-take at old);
    after = drop_at (front ++ bytes) (drop (at + length bytes) old) (at + length bytes) (omega (arith, length-append front bytes, length-front));
    no_shorter = omega (arith, length-written_over);
    no_longer = omega (arith, length-written_over);
  }

  -- where it was made stand the bytes
  pub wrote_here : drop at (written_over old at bytes) ≡ bytes ++ drop (at + length bytes) old
  unfolding front
  wrote_here = ap (λ (l : List ℕ). drop at l) (append_assoc front bytes (drop (at + length bytes) old)) ∙ drop_at front (bytes ++ drop (at + length bytes) old) at length-front

-- past a write the file is as it was
pub torn_outside : (at n end : ℕ) (file c : List ℕ) → at + n ≤ end → Torn at n file c → drop end c ≡ drop end file
torn_outside at n end file c within torn =
    let is : end ≡ at + n + (end - (at + n)) = omega arith in
    ap (λ (k : ℕ). drop k c) is ∙ sym (drop-drop (end - (at + n)) (at + n) c) ∙ ap (λ (l : List ℕ). drop (end - (at + n)) l) torn.after ∙ drop-drop (end - (at + n)) (at + n) file ∙ ap (λ (k : ℕ). drop k file) (sym is)

-- A part of a window that two files share.
pub same_part : (m d n : ℕ) (file c : List ℕ) → d + n ≤ m → take m c ≡ take m file → take n (drop d c) ≡ take n (drop d file)
same_part m d n file c within same =
    let of : (l : List ℕ) → drop d (take (d + n) (take m l)) ≡ take n (drop d l) =
    λ l. ap (λ (k : List ℕ). drop d k) (take-take (d + n) m l within) ∙ drop-take d n l in
    sym (of c) ∙ ap (λ (l : List ℕ). drop d (take (d + n) l)) same ∙ of file

-- A read outside a torn range is unchanged: n bytes of the file from a place on, before the range or past it.
pub torn_apart : (at m place n : ℕ) (file c : List ℕ) → Torn at m file c → ((place + n ≤ at) × (place + n ≤ length file)) ⊎ (at + m ≤ place)
    → take n (drop place c) ≡ take n (drop place file)
torn_apart at m place n file c torn apart = ⊎_elim
    (λ (before : (place + n ≤ at) × (place + n ≤ length file)).
    let end = min at (length file) in
    same_part end place n file c (omega (arith, before)) (torn.before ∙ sym (take_min at file)))
    (λ (past : at + m ≤ place). ap (λ (l : List ℕ). take n l) (torn_outside at m place file c past torn))
    apart
