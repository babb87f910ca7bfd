-- The order of keys is total, and keys that it holds equal are equal.
use Rattle.std.proofs.Common.{◌≡◌, true, sym}
use Rattle.std.specs.BTreeMap.{is_at}
use Rattle.std.specs.Cmp.{Equal-is, IsTotalOrder}
use Rattle.std.specs.List.{IsDistinct}
use Rattle.std.specs.Ordering.{is_eq, eq_by_cmp, nat_cmp, ordering_then}
use Rattle.std.specs.declared.cmp.Ordering.{Ordering}
use Rattle.std.specs.declared.cmp.Ordering.TheVariants.{Less, Equal, Greater}
use Rattle.std.proofs.Common.{refl, List}
use Rattle.std.specs.Map.{keys_of}
use Rattle.std.proofs.lemmas.Cmp.{nat_cmp_total, on_total, then_total}
use Rattle.std.proofs.lemmas.Map.Keys.{IsDistinct-from_sorted}
use Rattle.std.proofs.lemmas.Map.Lookups.{exact_unsigned}
use Rattle.ode_value.specs.declared.key.Key.{Key}
use Rattle.ode_keep.specs.Entries.{HasRisingKeys}
use Rattle.ode_value.specs.Keys.{key_cmp}

pub key_total : IsTotalOrder key_cmp
key_total = then_total (on_total (λ (k : Key). k.kind) nat_cmp_total) (then_total (on_total (λ (k : Key). k.a) nat_cmp_total) (on_total (λ (k : Key). k.b) nat_cmp_total))

then_both : (r s : Ordering) → is_eq (ordering_then r s) ≡ true → (is_eq r ≡ true) × (is_eq s ≡ true)
then_both Less s h = absurd (cc)
then_both Equal s h = (refl, h)
then_both Greater s h = absurd (cc)

pub same_key : (q k : Key) → is_at (key_cmp q) k ≡ true → k ≡ q
same_key q k h =
    let one = then_both (nat_cmp q.kind k.kind) (ordering_then (nat_cmp q.a k.a) (nat_cmp q.b k.b)) h in
    let two = then_both (nat_cmp q.a k.a) (nat_cmp q.b k.b) one.1 in
    let kind : k.kind ≡ q.kind = sym (exact_unsigned q.kind k.kind ((Equal-is (nat_cmp q.kind k.kind)).0 one.0)) in
    let a : k.a ≡ q.a = sym (exact_unsigned q.a k.a ((Equal-is (nat_cmp q.a k.a)).0 two.0)) in
    let b : k.b ≡ q.b = sym (exact_unsigned q.b k.b ((Equal-is (nat_cmp q.b k.b)).0 two.1)) in
    λ i. record { kind = kind i; a = a i; b = b i }

-- keys that rise differ
pub distinct_keys : {X : Type 0} (es : List (Key × X)) → HasRisingKeys es → IsDistinct (eq_by_cmp key_cmp) (keys_of es)
distinct_keys es s = IsDistinct-from_sorted key_cmp (keys_of es) s
