-- Keys that lead to their pages.
use Rattle.std.proofs.Common.{◌≡◌, ℕ, ◌+◌, List, [], ◌∷◌, ◌++◌, Bool, true, false, cond, Option, Some, None, refl, sym, ap, subst, ◌∙◌, append_assoc}
use Rattle.std.proofs.lemmas.List.{append-nil}
use Rattle.std.specs.BTreeMap.{insert_entry, is_at}
use Rattle.std.specs.List.{AllByRecursion}
use Rattle.std.specs.Map.{lookup, keys_of}
use Rattle.std.specs.Ordering.{is_eq, match_ordering}
use Rattle.std.specs.declared.cmp.Ordering.{Ordering}
use Rattle.std.specs.declared.cmp.Ordering.TheVariants.{Less, Equal, Greater}
use Rattle.ode_value.specs.declared.key.Key.{Key}
use Rattle.ode_value.specs.Keys.{key_cmp}
use Rattle.ode_value.specs.Records.{Row}
use Rattle.ode_keep.specs.Entries.{Entries, HasRisingKeys, changed}
use Rattle.ode_keep.specs.Rising.{above_all, follows, rising_front}
use Rattle.ode_keep.proofs.Keys.{key_total}
use Rattle.ode_keep.proofs.Maps.{lookup_put}
use Rattle.ode_paging.specs.Gathering.{AreApart, gathered, joined}
use Rattle.ode_paging.specs.Indexing.{Leads, indexed, led}

-- The keys that an insertion leaves, by those that there were.
put_key : List Key → Key → List Key
put_key [] k = k ∷ []
put_key (q ∷ qs) k = match_ordering (key_cmp k q) (k ∷ q ∷ qs) (q ∷ qs) (q ∷ put_key qs k)

module _ {X : Type 0} where
  keys_at : (k : Key) (v : X) (e : Key × X) (es rest : List (Key × X)) (more : List Key) → keys_of rest ≡ more → (r : Ordering)
      → keys_of (match_ordering r ((k, v) ∷ e ∷ es) ((e.0, v) ∷ es) (e ∷ rest)) ≡ match_ordering r (k ∷ e.0 ∷ keys_of es) (e.0 ∷ keys_of es) (e.0 ∷ more)
  keys_at k v e es rest more same Less = refl
  keys_at k v e es rest more same Equal = refl
  keys_at k v e es rest more same Greater = ap (λ (l : List Key). e.0 ∷ l) same

  keys_put : (es : List (Key × X)) (k : Key) (v : X) → keys_of (insert_entry key_cmp es k v) ≡ put_key (keys_of es) k
  unfolding put_key
  keys_put [] k v = refl
  keys_put (e ∷ es) k v = keys_at k v e es (insert_entry key_cmp es k v) (put_key (keys_of es) k) (keys_put es k v) (key_cmp k e.0)

same_keys_put : (leads : Leads) (entries : Entries) (k : Key) (page : ℕ) (v : List ℕ) → keys_of leads ≡ keys_of entries → keys_of (insert_entry key_cmp leads k page) ≡ keys_of (insert_entry key_cmp entries k v)
same_keys_put leads entries k page v same = keys_put leads k page ∙ ap (λ (l : List Key). put_key l k) same ∙ sym (keys_put entries k v)

led_keys : (page : ℕ) (leads : Leads) (entries es : Entries) → keys_of leads ≡ keys_of entries → keys_of (led page leads es) ≡ keys_of (joined entries es)
led_keys page leads entries [] same = same
led_keys page leads entries (e ∷ es) same = led_keys page (insert_entry key_cmp leads e.0 page) (changed entries e.0 (Some e.1)) es (same_keys_put leads entries e.0 page e.1 same)

-- the keys of an index are those of the entries of its pages
pub indexed_keys : (page : ℕ) (leads : Leads) (entries : Entries) (pages : List Entries) → keys_of leads ≡ keys_of entries → keys_of (indexed page leads pages) ≡ keys_of (gathered entries pages)
indexed_keys page leads entries [] same = same
indexed_keys page leads entries (es ∷ pages) same = indexed_keys (page + 1) (led page leads es) (joined entries es) pages (led_keys page leads entries es same)

-- Where the keys are the same, the same ones are missing.
module _ {X Y : Type 0} (test : Key → Bool) where
  none_at : (p q : Bool) → p ≡ q → (x : X) (y : Y) (r : Option X) (s : Option Y) → (r ≡ None → s ≡ None) → cond p (Some x) r ≡ None → cond q (Some y) s ≡ None
  none_at true true same x y r s more none = absurd (cc (none))
  none_at false false same x y r s more none = more none
  none_at true false same x y r s more none = absurd (cc (same))
  none_at false true same x y r s more none = absurd (cc (same))

  pub same_none : (xs : List (Key × X)) (ys : List (Key × Y)) → keys_of xs ≡ keys_of ys → lookup test xs ≡ None → lookup test ys ≡ None
  same_none [] [] same none = refl
  same_none [] (b ∷ ys) same none = absurd (cc (same))
  same_none (a ∷ xs) [] same none = absurd (cc (same))
  same_none (a ∷ xs) (b ∷ ys) same none =
      let head : a.0 ≡ b.0 = cc (same) in
      let tail : keys_of xs ≡ keys_of ys = cc (same) in
      none_at (test a.0) (test b.0) (ap test head) a.1 b.1 (lookup test xs) (lookup test ys) (same_none xs ys tail) none

pub same_apart : {X Y : Type 0} (page : Entries) (xs : List (Key × X)) (ys : List (Key × Y)) → keys_of xs ≡ keys_of ys → AreApart page xs → AreApart page ys
same_apart [] xs ys same apart = tt
same_apart (e ∷ page) xs ys same apart = (same_none (is_at (key_cmp e.0)) xs ys same apart.0, same_apart page xs ys same apart.1)

-- keys below another leave it alone
led_other : (page : ℕ) (es : Entries) (leads : Leads) (k : Key) → AllByRecursion (λ y. key_cmp y k ≡ Less) (keys_of es) → lookup (is_at (key_cmp k)) (led page leads es) ≡ lookup (is_at (key_cmp k)) leads
led_other page [] leads k below = refl
led_other page (e ∷ es) leads k below =
    led_other page es (insert_entry key_cmp leads e.0 page) k below.1
    ∙ lookup_put key_total e.0 page k leads
    ∙ ap (λ (r : Ordering). cond (is_eq r) (Some page) (lookup (is_at (key_cmp k)) leads)) below.0

led_push : (page : ℕ) (es : Entries) (e : Row) (leads : Leads) → led page leads (es ++ e ∷ []) ≡ insert_entry key_cmp (led page leads es) e.0 page
led_push page [] e leads = refl
led_push page (d ∷ es) e leads = led_push page es e (insert_entry key_cmp leads d.0 page)

apart_at : {X : Type 0} (es : Entries) (e : Row) (more : Entries) (others : List (Key × X)) → AreApart (es ++ e ∷ more) others → lookup (is_at (key_cmp e.0)) others ≡ None
apart_at [] e more others apart = apart.0
apart_at (d ∷ es) e more others apart = apart_at es e more others apart.1

apart_push : {X : Type 0} (es : Entries) (e : Row) (others : List (Key × X)) → AreApart es others → lookup (is_at (key_cmp e.0)) others ≡ None → AreApart (es ++ e ∷ []) others
apart_push [] e others apart none = (none, tt)
apart_push (d ∷ es) e others apart none = (apart.0, apart_push es e others apart.1 none)

-- Of a page these entries' keys lead to it, and this is left.
pub record IsAdded (page : ℕ) (all : Entries) (old leads : Leads) (rest : Entries) : Type 0 where
  pub done : Entries
  pub split : all ≡ done ++ rest
  pub leads_are : leads ≡ led page old done
  pub apart : AreApart done old
  pub rising : HasRisingKeys all

pub added_none : (page : ℕ) (all rest : Entries) (old : Leads) → rest ≡ all → HasRisingKeys all → IsAdded page all old old rest
added_none page all rest old same rising = record { done = []; split = sym same; leads_are = refl; apart = tt; rising = rising }

module _ (page : ℕ) (all : Entries) (old leads : Leads) (rest : Entries) (is : IsAdded page all old leads rest) (e : Row) (more : Entries) (first : rest ≡ e ∷ more) where
  whole : all ≡ is.done ++ e ∷ more
  whole = is.split ∙ ap (λ (l : Entries). is.done ++ l) first

  alike : lookup (is_at (key_cmp e.0)) leads ≡ lookup (is_at (key_cmp e.0)) old
  alike =
      let rising = subst (λ (l : Entries). HasRisingKeys l) whole is.rising in
      ap (λ (l : Leads). lookup (is_at (key_cmp e.0)) l) is.leads_are
      ∙ led_other page is.done old e.0 (above_all key_total is.done e.0 (rising_front key_cmp is.done (e ∷ more) rising) (follows key_cmp is.done e more rising))

  pub not_apart : (lookup (is_at (key_cmp e.0)) leads ≡ None → ⊥) → AreApart all old → ⊥
  not_apart there apart = there (alike ∙ apart_at is.done e more old (subst (λ (l : Entries). AreApart l old) whole apart))

  pub added_more : (next : Leads) → lookup (is_at (key_cmp e.0)) leads ≡ None → next ≡ insert_entry key_cmp leads e.0 page → IsAdded page all old next more
  added_more next none made = record {
    done = is.done ++ e ∷ [];
    split = whole ∙ sym (append_assoc is.done (e ∷ []) more);
    leads_are = made ∙ ap (λ (l : Leads). insert_entry key_cmp l e.0 page) is.leads_are ∙ sym (led_push page is.done e old);
    apart = apart_push is.done e old is.apart (sym alike ∙ none);
    rising = is.rising;
  }

pub added_all : (page : ℕ) (all : Entries) (old leads : Leads) (rest : Entries) → IsAdded page all old leads rest → rest ≡ [] → AreApart all old × (leads ≡ led page old all)
added_all page all old leads rest is none =
    let whole : is.done ≡ all = sym (append-nil is.done) ∙ ap (λ (l : Entries). is.done ++ l) (sym none) ∙ sym is.split in
    (subst (λ (l : Entries). AreApart l old) whole is.apart, is.leads_are ∙ ap (λ (l : Entries). led page old l) whole)
