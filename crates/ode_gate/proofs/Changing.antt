-- The three writes of a change of the header: before each of them, while it is made and behind it one header counts.
use Rattle.std.proofs.Common.{◌≡◌, ◌⊎◌, inl, inr, ⊎_elim, ℕ, ◌+◌, List, [], ◌∷◌, get_or, take, drop, None, Some, refl, sym, ◌∙◌, ap, subst, arith}
use Rattle.std.specs.Prelude.{is_some}
use Rattle.ode_host.specs.View.{View}
use Rattle.ode_host.specs.Host.{LeavesOnly, LeavesTorn, Looks, Stands, Torn, written_over}
use Rattle.ode_host.proofs.Moments.{joined, looks_on, stands_looks, started, torn-same, weaker}
use Rattle.ode_gate.specs.declared.header.Header.{Header}
use Rattle.ode_gate.specs.Changes.{IsChanged, LeavesHeader, MayReplace}
use Rattle.ode_gate.specs.Headers.{header_bytes, next_generation}
use Rattle.ode_gate.specs.Slots.{Counts, HoldsHeader, IsOpen, IsShut, IsSlot, bytes_of, open_body, other_slot, place_of}
use Rattle.ode_gate.proofs.Slotted.{Around, around_of, opens, own, same_behind, same_beside, shut_any, torn_body_around, torn_gate_around, wrote_body_around, wrote_gate_around}
use Rattle.ode_gate.proofs.Spelling.{length-header_bytes}
use Rattle.ode_gate.specs.declared.gate.TheConstants.{OPEN, SHUT}
use Rattle.ode_gate.specs.declared.places.TheConstants.{HEADER_LEN}

pub shut_or_open : (bytes : List ℕ) → IsShut bytes ⊎ IsOpen bytes
shut_or_open [] = inl refl
shut_or_open (gate ∷ body) = ⊎_elim
    (λ (shut : open_body (gate ∷ body) ≡ None). inl shut)
    (λ (opened : (gate ≡ OPEN) × (open_body (gate ∷ body) ≡ Some body)). inr (ap is_some opened.1))
    (opens gate body)

module _ (image : List ℕ) (older h : Header) (follows : MayReplace image older h) (is_slot : IsSlot h.slot) where
  pub front : List ℕ
  front = take (place_of h.slot) image

  pub rest : List ℕ
  rest = drop (place_of h.slot + 1 + HEADER_LEN) image

  pub gate : ℕ
  gate = get_or image (place_of h.slot) 0

  pub body : List ℕ
  body = take HEADER_LEN (drop (place_of h.slot + 1) image)

  first : Around h.slot front rest gate body image
  unfolding front rest gate body
  first = around_of h.slot image is_slot follows.long

  -- the old header stands beside
  beside : older.slot ≡ other_slot h.slot
  beside = omega (arith, is_slot, follows.beside, follows.counts.slot)

  beside_older : h.slot ≡ other_slot older.slot
  beside_older = omega (arith, is_slot, follows.beside, follows.counts.slot)

  module _ (gate' : ℕ) (body' c : List ℕ) (around : Around h.slot front rest gate' body' c) where
    older_holds : HoldsHeader (bytes_of older.slot c) older
    older_holds = subst (λ (l : List ℕ). HoldsHeader l older) (sym (same_beside h.slot is_slot front rest gate gate' body body' image c first around older.slot beside)) follows.counts.leads.holds

    -- the old header counts where the slot is shut
    stays_shut : IsShut (gate' ∷ body') → Counts c older
    stays_shut shut = record {
      slot = follows.counts.slot;
      leads = record {
        holds = older_holds;
        over = inl (subst (λ (k : ℕ). IsShut (bytes_of k c)) beside_older (ap open_body (own h.slot is_slot front rest gate' body' c around) ∙ shut));
      };
    }

    -- or is as it was
    stays_same : gate' ∷ body' ≡ gate ∷ body → Counts c older
    stays_same same =
        let mine : bytes_of h.slot c ≡ bytes_of h.slot image = own h.slot is_slot front rest gate' body' c around ∙ same ∙ sym (own h.slot is_slot front rest gate body image first) in
        let is : bytes_of (other_slot older.slot) c ≡ bytes_of (other_slot older.slot) image = subst (λ (k : ℕ). bytes_of k c ≡ bytes_of k image) beside_older mine in
        record {
          slot = follows.counts.slot;
          leads = record {
            holds = older_holds;
            over = subst (λ (l : List ℕ). IsShut l ⊎ ((o : Header) × HoldsHeader l o × (older.generation ≡ next_generation o.generation))) (sym is) follows.counts.leads.over;
          };
        }

    -- the new header counts where the slot is open and spells it
    becomes : open_body (gate' ∷ body') ≡ Some (header_bytes h) → Counts c h
    becomes spells = record {
      slot = is_slot;
      leads = record {
        holds = record { spells = ap open_body (own h.slot is_slot front rest gate' body' c around) ∙ spells; rules = follows.rules };
        over = inr (older, subst (λ (k : ℕ). HoldsHeader (bytes_of k c) older) beside older_holds, follows.next);
      };
    }

    leaves : (old : View) (o : List ℕ) → Counts c older ⊎ Counts c h → old.text ≡ Some o → LeavesHeader image older h old c o
    leaves old o counts text = record {
      counts = counts;
      same = same_behind h.slot is_slot front rest gate gate' body body' image c first around;
      text = text;
    }

  -- while the open gate is closed
  closes : (old : View) → IsOpen (bytes_of h.slot image) → (c o : List ℕ) → LeavesTorn (place_of h.slot) 1 image old c o → LeavesHeader image older h old c o
  closes old opened c o left =
      let gate' = get_or c (place_of h.slot) 0 in
      let around = torn_gate_around h.slot is_slot front rest gate body image first c left.0 in
      leaves gate' body c around old o (inl (⊎_elim
      (λ (shut : open_body (gate' ∷ body) ≡ None). stays_shut gate' body c around shut)
      (λ (now : (gate' ≡ OPEN) × (open_body (gate' ∷ body) ≡ Some body)). stays_same gate' body c around
      (⊎_elim
      (λ (was_shut : open_body (gate ∷ body) ≡ None).
      let no : IsOpen (gate ∷ body) = subst IsOpen (own h.slot is_slot front rest gate body image first) opened in
      absurd (shut_open (gate ∷ body) was_shut no))
      (λ (was : (gate ≡ OPEN) × (open_body (gate ∷ body) ≡ Some body)). ap (λ (k : ℕ). k ∷ body) (now.0 ∙ sym was.0))
      (opens gate body)))
      (opens gate' body))) left.1
    where
      shut_open : (bytes : List ℕ) → IsShut bytes → IsOpen bytes → ⊥
      shut_open bytes shut opened = cc (shut, opened)

  -- the slot is closed
  pub record IsReady (v : View) : Type 0 where
    pub now : List ℕ
    pub shut_gate : ℕ
    pub stands : Stands now v
    pub around : Around h.slot front rest shut_gate body now
    pub shut : IsShut (shut_gate ∷ body)

  ready_same : (v : View) → Stands image v → IsShut (bytes_of h.slot image) → IsReady v
  ready_same v stands shut = record {
    now = image;
    shut_gate = gate;
    stands = stands;
    around = first;
    shut = sym (ap open_body (own h.slot is_slot front rest gate body image first)) ∙ shut;
  }

  ready_closed : (v : View) → Stands (written_over image (place_of h.slot) (SHUT ∷ [])) v → IsReady v
  ready_closed v stands = record {
    now = written_over image (place_of h.slot) (SHUT ∷ []);
    shut_gate = SHUT;
    stands = stands;
    around = wrote_gate_around h.slot is_slot front rest gate body image first SHUT;
    shut = refl;
  }

  -- while the slot is filled
  pub fills : (old mid : View) (ready : IsReady mid) → mid.text ≡ old.text → (c o : List ℕ) → LeavesTorn (place_of h.slot + 1) HEADER_LEN ready.now mid c o → LeavesHeader image older h old c o
  fills old mid ready text c o left =
      let body' = take HEADER_LEN (drop (place_of h.slot + 1) c) in
      let around = torn_body_around h.slot is_slot front rest ready.shut_gate body ready.now ready.around c left.0 in
      leaves ready.shut_gate body' c around old o (inl (stays_shut ready.shut_gate body' c around (shut_any ready.shut_gate body body' ready.shut))) (sym text ∙ left.1)

  -- the slot is filled
  pub record IsFilled (v : View) : Type 0 where
    pub now : List ℕ
    pub some_gate : ℕ
    pub stands : Stands now v
    pub around : Around h.slot front rest some_gate (header_bytes h) now

  pub filled : (mid v : View) (ready : IsReady mid) → Stands (written_over ready.now (place_of h.slot + 1) (header_bytes h)) v → IsFilled v
  filled mid v ready stands = record {
    now = written_over ready.now (place_of h.slot + 1) (header_bytes h);
    some_gate = ready.shut_gate;
    stands = stands;
    around = wrote_body_around h.slot is_slot front rest ready.shut_gate body ready.now ready.around (header_bytes h) (length-header_bytes h);
  }

  -- while its gate is opened
  pub opens_slot : (old mid : View) (full : IsFilled mid) → mid.text ≡ old.text → (c o : List ℕ) → LeavesTorn (place_of h.slot) 1 full.now mid c o → LeavesHeader image older h old c o
  opens_slot old mid full text c o left =
      let gate' = get_or c (place_of h.slot) 0 in
      let around = torn_gate_around h.slot is_slot front rest full.some_gate (header_bytes h) full.now full.around c left.0 in
      leaves gate' (header_bytes h) c around old o
      (⊎_elim
      (λ (shut : open_body (gate' ∷ header_bytes h) ≡ None). inl (stays_shut gate' (header_bytes h) c around shut))
      (λ (now : (gate' ≡ OPEN) × (open_body (gate' ∷ header_bytes h) ≡ Some (header_bytes h))). inr (becomes gate' (header_bytes h) c around now.1))
      (opens gate' (header_bytes h)))
      (sym text ∙ left.1)

  -- and behind it
  pub changed : (mid v : View) (full : IsFilled mid) → Stands (written_over full.now (place_of h.slot) (OPEN ∷ [])) v → (next : List ℕ) × Stands next v × IsChanged image h next
  changed mid v full stands =
      let next = written_over full.now (place_of h.slot) (OPEN ∷ []) in
      let around = wrote_gate_around h.slot is_slot front rest full.some_gate (header_bytes h) full.now full.around OPEN in (
        next,
        stands,
        record {
          counts = becomes OPEN (header_bytes h) next around refl;
          same = same_behind h.slot is_slot front rest gate OPEN body (header_bytes h) image next first around;
        },
      )

  -- the slot is closed, where it was open
  pub closing : (old mid : View) → ((c o : List ℕ) → old.left old.moment c o → old.text ≡ Some o) → Stands image old
      → (IsShut (bytes_of h.slot image) → Looks old mid) → LeavesOnly old mid (LeavesTorn (place_of h.slot) 1 image old) → LeavesOnly old mid (LeavesHeader image older h old)
  closing old mid text_stands stands nothing torn = ⊎_elim
      (λ (shut : IsShut (bytes_of h.slot image)).
      looks_on old old mid (LeavesHeader image older h old) (started old (LeavesHeader image older h old))
      (λ c o left.
      let is : c ≡ image = stands.only c o left in
      subst (λ (l : List ℕ). LeavesHeader image older h old l o) (sym is)
      (record { counts = inl follows.counts; same = record { long = refl; behind = refl }; text = text_stands c o left }))
      (nothing shut))
      (λ (opened : IsOpen (bytes_of h.slot image)). weaker old mid (LeavesTorn (place_of h.slot) 1 image old) (LeavesHeader image older h old) (closes old opened) torn)
      (shut_or_open (bytes_of h.slot image))

  pub ready : (old mid : View) → Stands image old → (IsShut (bytes_of h.slot image) → Looks old mid)
      → (IsOpen (bytes_of h.slot image) → Stands (written_over image (place_of h.slot) (SHUT ∷ [])) mid) → IsReady mid
  ready old mid stands nothing closed = ⊎_elim
      (λ (shut : IsShut (bytes_of h.slot image)). ready_same mid (stands_looks image old mid (nothing shut) stands) shut)
      (λ (opened : IsOpen (bytes_of h.slot image)). ready_closed mid (closed opened))
      (shut_or_open (bytes_of h.slot image))

-- a write at an offset after calls that wrote nothing
pub torn_later : (at n : ℕ) (image : List ℕ) (old mid new : View) → ((c o : List ℕ) → old.left old.moment c o → old.text ≡ Some o) → Stands image old
    → Looks old mid → (Stands image mid → LeavesOnly mid new (LeavesTorn at n image mid)) → LeavesOnly old new (LeavesTorn at n image old)
torn_later at n image old mid new text_stands stands looks torn =
    joined old mid new (LeavesTorn at n image old)
    (looks_on old old mid (LeavesTorn at n image old) (started old (LeavesTorn at n image old))
    (λ c o left.
    let is : c ≡ image = stands.only c o left in
    (subst (λ (l : List ℕ). Torn at n image l) (sym is) (torn-same at n image), text_stands c o left))
    looks)
    (weaker mid new (LeavesTorn at n image mid) (LeavesTorn at n image old) (λ c o left. (left.0, sym looks.text ∙ left.1)) (torn (stands_looks image old mid looks stands)))
