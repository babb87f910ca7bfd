-- One more class that was checked against those that are there.
use Rattle.std.proofs.Common.{◌≡◌, List, [], ◌∷◌, ◌++◌, sym, subst, append-nil, append_assoc}
use Rattle.ode_value.specs.declared.class.Class.{Class}
use Rattle.ode_types.specs.Checked.{AreChecked, AreCheckedBehind, IsChecked}

behind : (cs known : List Class) (c : Class) → AreCheckedBehind known cs → IsChecked (known ++ cs) c → AreCheckedBehind known (cs ++ c ∷ [])
behind [] known c all is = (subst (λ (ks : List Class). IsChecked ks c) (append-nil known) is, tt)
behind (e ∷ cs) known c all is = (all.0, behind cs (known ++ e ∷ []) c all.1 (subst (λ (ks : List Class). IsChecked ks c) (sym (append_assoc known (e ∷ []) cs)) is))

pub more_checked : (cs : List Class) (c : Class) (all : List Class) → all ≡ cs ++ c ∷ [] → AreChecked cs → IsChecked cs c → AreChecked all
more_checked cs c all is checked one = subst AreChecked (sym is) (behind cs [] c checked one)
