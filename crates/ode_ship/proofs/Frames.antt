-- Frames are spelled in one way, and told apart in a stream.
use Rattle.std.proofs.Common.{◌≡◌, ◌<◌, ◌≤◌, ◌^◌, ◌+◌, ◌*◌, ◌++◌, ⊎_elim, ℕ, Bool, List, [], ◌∷◌, Option, Some, None, true, false, length, take, drop, refl, sym, ap, subst, leb, ◌∙◌, arith, append_assoc, append-nil, length-append}
use Rattle.std.proofs.lemmas.Bool.{le-leb, leb-true}
use Rattle.std.proofs.lemmas.List.{drop_at, take_at}
use Rattle.std.proofs.lemmas.List.Elements.{All-cons, All-nil}
use Rattle.std.proofs.lemmas.Nat.{from_be_bytes-to_be_bytes_4, from_be_bytes-to_be_bytes_8}
use Rattle.std.specs.Prelude.{◌⊎◌, ◌&&◌}
use Rattle.std.specs.Int.{w32, w64, from_be_bytes, to_be_bytes}
use Rattle.std.specs.List.{AllByRecursion, flat_map}
use Rattle.std.specs.Map.{values_of}
use Rattle.std.specs.Option.{IfSome}
use Rattle.ode_host.proofs.Determinacy.{NextSpelled, Reads, Stops, one_reading, spelled_once, spelled_reads}
use Rattle.ode_value.specs.Keys.{key_cmp}
use Rattle.ode_value.specs.Records.{key_bytes}
use Rattle.ode_value.specs.declared.key.Key.{Key}
use Rattle.ode_keep.proofs.Counted.{one_counted}
use Rattle.ode_keep.specs.Counted.{IsCountedList}
use Rattle.ode_keep.specs.Entries.{Changes}
use Rattle.ode_keep.specs.Payloads.{change_bytes, payload_of, spelled_change}
use Rattle.ode_keep.specs.ShortValues.{HasShortValues}
use Rattle.ode_keep.specs.declared.limits.TheConstants.{MAX_CHANGE_LEN, MAX_VALUE}
use Rattle.ode_ship.specs.Frames.{Frame, IsFrame, IsPayloadOf, IsShipped, IsStored, frame_bytes, is_length, next_told, shipped_payload}
use Rattle.ode_ship.specs.Payloads.{AreShipped}
use Rattle.ode_ship.specs.Streams.{AreFrames, HasNoForm, HasNoLength, IsBad, IsBegun, IsWhole, told}
use Rattle.ode_ship.specs.declared.framing.TheConstants.{HEAD_LEN, MAX_LENGTH, MIN_LENGTH, NUMBER_LEN}
use Rattle.ode_ship.proofs.Taking.{once}

-- ---- lengths

change_long : (k : Key) (v : Option (List ℕ)) → IsStored k v → length (spelled_change k v) ≤ MAX_CHANGE_LEN
change_long k None stored = omega arith
change_long k (Some v) stored = omega (arith, length-append (key_bytes k) v, stored.0)

changes_long : (cs : Changes) → AllByRecursion IsShipped cs → length (flat_map change_bytes cs) ≤ MAX_CHANGE_LEN * length cs
changes_long [] each = omega arith
changes_long (c ∷ cs) each =
    omega (arith, length-append (change_bytes c) (flat_map change_bytes cs), change_long c.0 c.1 each.0.stored, changes_long cs each.1)

pub frame_long : (f : Frame) → IsFrame f → is_length (length (shipped_payload f)) ≡ true
frame_long f form =
    let long = changes_long f.1 form.each in
    ap (λ (b : Bool). b && leb (length (shipped_payload f)) MAX_LENGTH) (le-leb MIN_LENGTH (length (shipped_payload f)) (omega arith))
    ∙ le-leb (length (shipped_payload f)) MAX_LENGTH (omega (arith, long, form.few))

-- a keeper takes the values of a frame
short_value : (k : Key) (v : Option (List ℕ)) → IsStored k v → IfSome v (λ bytes. length bytes ≤ MAX_VALUE)
short_value k None stored = tt
short_value k (Some v) stored = stored.0

short_each : (cs : Changes) → AllByRecursion IsShipped cs → HasShortValues cs
short_each [] each = All-nil (λ (value : Option (List ℕ)). IfSome value (λ bytes. length bytes ≤ MAX_VALUE))
short_each (c ∷ cs) each =
    All-cons (λ (value : Option (List ℕ)). IfSome value (λ bytes. length bytes ≤ MAX_VALUE)) c.1 (values_of cs) (short_value c.0 c.1 each.0.stored) (short_each cs each.1)

pub short_frame : (f : Frame) → IsFrame f → HasShortValues f.1
short_frame f form = short_each f.1 form.each

-- ---- one spelling

both : (a b : Bool) → (a && b) ≡ true → (a ≡ true) × (b ≡ true)
both true true is = (refl, refl)
both false b is = absurd (cc (is))
both true false is = absurd (cc (is))

small : (n : ℕ) → is_length n ≡ true → n < 2 ^ 32
small n long = omega (arith, leb-true n MAX_LENGTH (both (leb MIN_LENGTH n) (leb n MAX_LENGTH) long).1)

some_bytes : (k : Key) (v : Option (List ℕ)) (rest : List ℕ) → [] ≡ spelled_change k v ++ rest → ⊥
some_bytes k None rest is = absurd (omega (arith, ap length is))
some_bytes k (Some v) rest is = absurd (omega (arith, ap length is))

pub counted_of : (f : Frame) → IsFrame f → IsCountedList change_bytes IsShipped key_cmp f.1 (payload_of f.1)
counted_of f form = record { spelled = refl; few = omega (arith, form.few); each = form.each; rising = form.rising }

-- a number that stands in front of changes is one, and the changes are
pub same_frame : (f g : Frame) → IsFrame f → IsFrame g → shipped_payload f ≡ shipped_payload g → f ≡ g
same_frame f g form_f form_g same =
    let numbers : f.0 ≡ g.0 =
    sym (from_be_bytes-to_be_bytes_8 f.0 form_f.number) ∙ ap (λ (l : List ℕ). from_be_bytes w64 (take NUMBER_LEN l)) same ∙ from_be_bytes-to_be_bytes_8 g.0 form_g.number in
    let behind : payload_of f.1 ≡ payload_of g.1 = ap (drop NUMBER_LEN) same in
    let other = counted_of g form_g in
    let changes : f.1 ≡ g.1 =
    one_counted change_bytes IsShipped key_cmp once (λ c rest is. some_bytes c.0 c.1 rest is) f.1 g.1 (payload_of f.1) (counted_of f form_f)
    (record { spelled = behind; few = other.few; each = other.each; rising = other.rising }) in
    λ i. (numbers i, changes i)

-- the length that bytes begin with, where a payload stands behind its length
pub told_is : (payload rest : List ℕ) → is_length (length payload) ≡ true → told (to_be_bytes w32 (length payload) ++ (payload ++ rest)) ≡ length payload
told_is payload rest long = from_be_bytes-to_be_bytes_4 (length payload) (small (length payload) long)

-- of two payloads that the same bytes begin with both are one
pub one_whole : (bytes p q rest more : List ℕ) → IsWhole bytes p rest → IsWhole bytes q more → (p ≡ q) × (rest ≡ more)
one_whole bytes p q rest more first second =
    let long : length p ≡ length q = sym (told_is p rest first.long) ∙ ap told (sym first.spelled ∙ second.spelled) ∙ told_is q more second.long in
    let behind : p ++ rest ≡ q ++ more = ap (drop HEAD_LEN) (sym first.spelled ∙ second.spelled) in (
      sym (take_at p rest (length p) refl) ∙ ap (take (length p)) behind ∙ take_at q more (length p) (sym long),
      sym (drop_at p rest (length p) refl) ∙ ap (drop (length p)) behind ∙ drop_at q more (length p) (sym long),
    )

-- a frame that bytes begin with is whole
pub frame_whole : (f : Frame) (bytes rest : List ℕ) → IsFrame f → bytes ≡ frame_bytes f ++ rest → IsWhole bytes (shipped_payload f) rest
frame_whole f bytes rest form is = record {
  long = frame_long f form;
  spelled = is ∙ append_assoc (to_be_bytes w32 (length (shipped_payload f))) (shipped_payload f) rest;
}

-- and a whole payload of the form is a frame
pub whole_is : (f : Frame) (bytes payload rest : List ℕ) → IsWhole bytes payload rest → IsPayloadOf f payload → AreFrames bytes (f ∷ []) rest
whole_is f bytes payload rest whole of_frame = record {
  spelled =
      whole.spelled
      ∙ ap (λ (p : List ℕ). to_be_bytes w32 (length p) ++ (p ++ rest)) of_frame.spelled
      ∙ sym (append_assoc (to_be_bytes w32 (length (shipped_payload f))) (shipped_payload f) rest)
      ∙ ap (λ (l : List ℕ). l ++ rest) (sym (append-nil (frame_bytes f)));
  form = (of_frame.form, tt);
}

-- ---- one cutting

pub one_first : (f g : Frame) (rest more : List ℕ) → IsFrame f → IsFrame g → frame_bytes f ++ rest ≡ frame_bytes g ++ more → (f ≡ g) × (rest ≡ more)
one_first f g rest more form_f form_g same =
    let one = one_whole (frame_bytes f ++ rest) (shipped_payload f) (shipped_payload g) rest more (frame_whole f (frame_bytes f ++ rest) rest form_f refl) (frame_whole g (frame_bytes f ++ rest) more form_g same) in
    (same_frame f g form_f form_g one.0, one.1)

-- where a frame is begun, or what begins is bad, no frame of the form stands
pub none_stands : (bytes : List ℕ) → IsBegun bytes ⊎ IsBad bytes → Stops (NextSpelled frame_bytes IsFrame) bytes
none_stands bytes either f rest next =
    let whole = frame_whole f bytes rest next.0 next.1 in
    let length_is : told bytes ≡ length (shipped_payload f) = ap told whole.spelled ∙ told_is (shipped_payload f) rest whole.long in
    let count : length bytes ≡ HEAD_LEN + (length (shipped_payload f) + length rest) = ap length whole.spelled ∙ omega (arith, length-append (shipped_payload f) rest) in
    ⊎_elim
    (λ (begun : IsBegun bytes). ⊎_elim
    (λ (short : length bytes < HEAD_LEN). absurd (omega (arith, short, count)))
    (λ (short : (is_length (told bytes) ≡ true) × (length bytes < HEAD_LEN + told bytes)). absurd (omega (arith, short.1, count, length_is)))
    begun)
    (λ (bad : IsBad bytes). ⊎_elim
    (λ (none : HasNoLength bytes). let other : true ≡ false = sym whole.long ∙ ap is_length (sym length_is) ∙ none.outside in absurd (cc (other)))
    (λ (none : HasNoForm bytes). none.outside f (record { spelled = (one_whole bytes none.payload (shipped_payload f) none.rest rest none.whole whole).0; form = next.0 }))
    bad)
    either

-- a stream has one list of whole frames, up to where none stands
pub one_cutting : (bytes : List ℕ) (fs gs : List Frame) (rest more : List ℕ) → AreFrames bytes fs rest → AreFrames bytes gs more
    → IsBegun rest ⊎ IsBad rest → IsBegun more ⊎ IsBad more → (fs ≡ gs) × (rest ≡ more)
one_cutting bytes fs gs rest more first second end_f end_g =
    one_reading (NextSpelled frame_bytes IsFrame) (spelled_once frame_bytes IsFrame one_first) fs gs (flat_map frame_bytes fs ++ rest) rest more
    (spelled_reads frame_bytes IsFrame fs rest first.form)
    (subst (λ (l : List ℕ). Reads (NextSpelled frame_bytes IsFrame) l gs more) (sym second.spelled ∙ first.spelled) (spelled_reads frame_bytes IsFrame gs more second.form))
    (none_stands rest end_f) (none_stands more end_g)

-- no frame has a payload whose changes tell another number
pub not_told : (number : ℕ) (changes : Changes) (payload rest : List ℕ) → number < 2 ^ 64 → to_be_bytes w64 number ≡ take NUMBER_LEN payload → rest ≡ drop NUMBER_LEN payload → AreShipped changes rest
    → (next_told changes ≡ Some (number + 1) → ⊥) → (f : Frame) → IsPayloadOf f payload → ⊥
not_told number changes payload rest fits head behind shipped other f is =
    let numbers : number ≡ f.0 =
    sym (from_be_bytes-to_be_bytes_8 number fits) ∙ ap (λ (l : List ℕ). from_be_bytes w64 l) (head ∙ ap (λ (l : List ℕ). take NUMBER_LEN l) is.spelled) ∙ from_be_bytes-to_be_bytes_8 f.0 is.form.number in
    let counted = counted_of f is.form in
    let all : changes ≡ f.1 =
    one_counted change_bytes IsShipped key_cmp once (λ c more none. some_bytes c.0 c.1 more none) changes f.1 rest shipped.spelled
    (record { spelled = behind ∙ ap (λ (l : List ℕ). drop NUMBER_LEN l) is.spelled; few = counted.few; each = counted.each; rising = counted.rising }) in
    other (ap next_told all ∙ is.form.next ∙ ap (λ (n : ℕ). Some (n + 1)) (sym numbers))
