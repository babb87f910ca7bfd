-- What is behind an evaluation that began with a heap and a host.
use Rattle.std.proofs.Common.{◌≡◌, ℕ, List, Bool, Option, None, refl, sym, subst, inr, arith}
use Rattle.std.specs.Prelude.{IsTrue}
use Rattle.ode_host.proofs.Moments.{looks_none}
use Rattle.ode_host.specs.View.{View}
use Rattle.ode_keep.specs.Entries.{Entries}
use Rattle.ode_overlay.specs.Layers.{Layer}
use Rattle.ode_run_frame.specs.Knowing.{Behind, Follows, Shown, Since}
use Rattle.ode_run_frame.specs.Reads.{Reads}
use Rattle.ode_run_frame.specs.declared.unread.Unread.{Unread}
use Rattle.ode_value.specs.Worlds.{Bones}
use Rattle.ode_value.specs.declared.class.Class.{Class}

module _ {H K : Type 0} (seen : H → View) (holds : K → View → Entries → Type 0) (live : K → Bool) where
  -- at first
  pub begins : (heap_name host_name looked_name : ℕ) (h : H) (k : K) (classes : List Class) (x : Layer) (base : Entries) (b : Bones) → IsTrue (live k) → holds k (seen h) base → Reads classes base x b
      → Shown seen (holds k (seen h)) (live k) heap_name host_name looked_name h None classes x (record { heap = heap_name; host = host_name; looked = looked_name; began = h; entries = base; bones = b })
  begins heap_name host_name looked_name h k classes x base b usable held reads = record {
    heap = refl;
    host = refl;
    looked = refl;
    behind = record {
      sound = tt;
      looks = looks_none (seen h);
      faults = record { later = omega arith; rose = λ is. absurd (cc is); calm = inr refl };
      keeps = record { usable = usable; records = held };
    };
    reads = reads;
  }

  -- where the heap and the host are what the frame left of them
  pub ends : (before : View) (k k' : K) (h h' : H) (s s' : Option Unread) (base : Entries) → k ≡ k' → h ≡ h' → s' ≡ s
      → Behind before (seen h') (holds k' (seen h')) (live k') s' base → Behind before (seen h) (holds k (seen h)) (live k) s base
  ends before k k' h h' s s' base heap host stopped behind =
      subst (λ g. Behind before (seen g) (holds k (seen g)) (live k) s base) (sym host)
      (subst (λ q. Behind before (seen h') (holds q (seen h')) (live q) s base) (sym heap)
      (subst (λ t. Behind before (seen h') (holds k' (seen h')) (live k') t base) stopped behind))

module _ {H K : Type 0} (seen : H → View) (live : K → Bool) where
  -- at first, where no records are known
  pub begins_plain : (heap_name host_name looked_name : ℕ) (h : H) (k : K) → IsTrue (live k)
      → Follows seen (live k) heap_name host_name looked_name h None (record { heap = heap_name; host = host_name; looked = looked_name; began = h })
  begins_plain heap_name host_name looked_name h k usable = record {
    heap = refl;
    host = refl;
    looked = refl;
    since = record {
      looks = looks_none (seen h);
      faults = record { later = omega arith; rose = λ is. absurd (cc is); calm = inr refl };
      usable = usable;
    };
  }

  -- where the heap and the host are what the frame left of them
  pub ends_plain : (before : View) (k k' : K) (h h' : H) (s s' : Option Unread) → k ≡ k' → h ≡ h' → s' ≡ s
      → Since before (seen h') (live k') s' → Since before (seen h) (live k) s
  ends_plain before k k' h h' s s' heap host stopped since =
      subst (λ g. Since before (seen g) (live k) s) (sym host)
      (subst (λ q. Since before (seen h') (live q) s) (sym heap)
      (subst (λ t. Since before (seen h') (live k') t) stopped since))
