-- The counters behind a settling.
use Rattle.std.proofs.Common.{◌≡◌, ◌+◌, ℕ, List, [], ◌∷◌, map, length, Bool, true, false, cond, Option, Some, None, refl, sym, ap, ◌∙◌, append_assoc, arith}
use Rattle.std.specs.BTreeMap.{is_at}
use Rattle.ode_codec.specs.Spelling.{value_of}
use Rattle.ode_codec.specs.StoredRows.{counters_row}
use Rattle.ode_codec.specs.declared.record.Counters.{Counters}
use Rattle.ode_codec.specs.declared.record.Record.TheVariants as of
use Rattle.ode_heap.specs.Answering.{counters_of}
use Rattle.ode_keep.proofs.Keys.{key_total}
use Rattle.ode_keep.proofs.Maps.{back}
use Rattle.ode_keep.specs.Entries.{value_under}
use Rattle.ode_laws.specs.Alike.{NumberTx}
use Rattle.ode_overlay.specs.After.{counted_after}
use Rattle.ode_overlay.specs.Layers.{Layer}
use Rattle.ode_overlay.specs.Records.{counters_after, with_clock}
use Rattle.ode_overlay.specs.declared.origin.Origin.{Origin}
use Rattle.ode_overlay.specs.declared.origin.Origin.TheVariants as from
use Rattle.ode_overlay_laws.specs.Standing.{Stands, collected_as, origin_as}
use Rattle.ode_value.specs.Keys.{counters_key, key_cmp}
use Rattle.ode_value.specs.Settling.{clock_after, settled_world}
use Rattle.ode_value.specs.Transactions as transactions
use Rattle.ode_value.specs.Worlds.{Bones, Position}
use Rattle.ode_value.specs.declared.change.Added.{Added}
use Rattle.ode_value.specs.declared.key.Key.{Key}

-- ---- their spelling

clocked : (b : Bones) (clock : Option Position) → (counters_row (record b { clock = clock })).1 ≡ value_of (of.Counters (counters_of (record b { clock = clock })))
unfolding value_of
clocked b None = simp append_assoc
clocked b (Some p) = simp append_assoc

-- ---- what they become

with_position : (origin : Origin) (b : Bones) → counters_of (record b { clock = clock_after (origin_as origin) b.clock }) ≡ with_clock origin (counters_of b)
with_position from.Script b = refl
with_position (from.Entry number generation) b = refl
with_position (from.Tick instant object place) b = refl
with_position (from.Move instant) b = refl

-- what a transaction draws, but for the clock
abbrev drawn : Layer → Counters → Counters
drawn x c = record c { next_number = x.next; next_transaction = c.next_transaction + 1; next_entry = c.next_entry + length x.collected }

length-map : {X Y : Type 0} (f : X → Y) (xs : List X) → length (map f xs) ≡ length xs
length-map f [] = refl
length-map f (x ∷ xs) = omega (arith, length-map f xs)

module _ (x : Layer) (y : NumberTx) (stands : Stands x y) where
  abbrev after : Bones
  after = (settled_world y).bones

  -- the bones of the first world with the numbers that were drawn, and the fields that were added by now
  abbrev numbered : ℕ → ℕ → Bones
  numbered next count =
      let b = y.first.bones in
      record b { added = y.now.bones.added; next = next; transaction = b.transaction + 1; next_entry = b.next_entry + count }

  counters_drawn : counters_of after ≡ counters_after x
  counters_drawn =
      ap (λ (o : transactions.Origin). counters_of (record (numbered y.now.bones.next (length y.collected)) { clock = clock_after o y.first.bones.clock })) stands.origin
      ∙ with_position x.origin (numbered y.now.bones.next (length y.collected))
      ∙ ap (λ n. with_clock x.origin (counters_of (numbered n (length y.collected)))) stands.next
      ∙ ap (λ n. with_clock x.origin (counters_of (numbered x.next n))) (ap length stands.collected ∙ length-map collected_as x.collected)
      ∙ ap (λ (added : List Added). with_clock x.origin (counters_of (record (numbered x.next (length x.collected)) { added = added }))) stands.added
      ∙ ap (λ (c : Counters). with_clock x.origin (drawn x c)) (sym stands.counters)

  pub counters_left : (q : Key) → counted_after x q (value_under (counters_row y.first.bones ∷ []) q) ≡ value_under (counters_row after ∷ []) q
  counters_left q = by_test (is_at (key_cmp counters_key) q) refl where
    value : (counters_row after).1 ≡ value_of (of.Counters (counters_after x))
    value = clocked after after.clock ∙ ap (λ (c : Counters). value_of (of.Counters c)) counters_drawn

    same : is_at (key_cmp counters_key) q ≡ is_at (key_cmp q) counters_key
    same = back key_total counters_key q

    by_test : (b : Bool) → is_at (key_cmp counters_key) q ≡ b
        → cond b (Some (value_of (of.Counters (counters_after x)))) (cond (is_at (key_cmp q) counters_key) (Some (counters_row y.first.bones).1) None)
        ≡ cond (is_at (key_cmp q) counters_key) (Some (counters_row after).1) None
    by_test true at =
        ap (λ (v : List ℕ). Some v) (sym value) ∙ sym (ap (λ t. cond t (Some (counters_row after).1) None) (sym same ∙ at))
    by_test false out =
        ap (λ t. cond t (Some (counters_row y.first.bones).1) None) (sym same ∙ out) ∙ sym (ap (λ t. cond t (Some (counters_row after).1) None) (sym same ∙ out))
