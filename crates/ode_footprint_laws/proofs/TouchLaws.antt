-- One transaction that looked at all the objects that it touched: statements keep it so.
use Rattle.std.proofs.Common.{◌≡◌, ℕ, Bool, true, false, List, [], ◌∷◌, ◌++◌, ap, refl, sym, subst}
use Rattle.std.proofs.lemmas.Bool.{eqb-true}
use Rattle.std.specs.List.{list_any}
use Rattle.std.specs.Prelude.{◌||◌, nat_eq}
use Rattle.ode_footprint_laws.proofs.AgreeLaws.{agree_self}
use Rattle.ode_footprint_laws.proofs.Among.{Within, within_rest}
use Rattle.ode_footprint_laws.proofs.Meets.{Steady, active_keys, new_keys}
use Rattle.ode_footprint_laws.specs.Agreeing.{Agree, IsAmong}
use Rattle.ode_laws.proofs.Sides.{altered, turned}
use Rattle.ode_value.specs.Acts.{with_line, with_statement}
use Rattle.ode_value.specs.Changes.{holding, key_count}
use Rattle.ode_value.specs.Firings.{with_point}
use Rattle.ode_value.specs.Footprints.{Footprint}
use Rattle.ode_value.specs.Language.{ListTx}
use Rattle.ode_value.specs.Making.{with_active, with_new}
use Rattle.ode_value.specs.Pasts.{lists}
use Rattle.ode_value.specs.Posting.{with_deferred, with_entry}
use Rattle.ode_value.specs.Transactions.{footed, touching}

-- one more of them
within_more : (xs : List ℕ) (id : ℕ) (all : List ℕ) → Within xs all → IsAmong id all → Within (xs ++ id ∷ []) all
within_more [] id all within here n is = by_test (nat_eq n id) refl is where
  by_test : (b : Bool) → nat_eq n id ≡ b → (b || false) ≡ true → IsAmong n all
  by_test true e one = subst (λ i. IsAmong i all) (sym (eqb-true n id e)) here
  by_test false e one = absurd (cc)
within_more (x ∷ xs) id all within here n is = by_test (nat_eq n x) refl is (within_more xs id all (within_rest x xs all within) here n) where
  by_test : (b : Bool) → nat_eq n x ≡ b → (b || list_any (nat_eq n) (xs ++ id ∷ [])) ≡ true → (IsAmong n (xs ++ id ∷ []) → IsAmong n all) → IsAmong n all
  by_test true e one more = within n (subst (λ b. (b || list_any (nat_eq n) xs) ≡ true) (sym e) refl)
  by_test false e one more = more one

module _ (f : Footprint) where
  abbrev pub Looking : ListTx → ListTx → Type 0
  Looking y x = (y ≡ x) × Within x.touched f.looked

  pub looking_agree : (y x : ListTx) → Looking y x → Agree f y x
  looking_agree y x r = subst (λ z. Agree f z x) (sym r.0) (agree_self f x)

  pub touched_more : (x : ListTx) (id : ℕ) → Within x.touched f.looked → IsAmong id f.looked → Within (touching id x).touched f.looked
  touched_more x id within among = within_more x.touched id f.looked within among

  abbrev pub touched : Steady f
  touched = record {
    meets = record {
      Related = Looking;
      agree = looking_agree;
      foot = λ y x change r. (ap (footed change) r.0, r.1);
      line = λ y x line r. (ap (with_line line) r.0, r.1);
      collect = λ y x independent g r queued. (ap (with_entry independent g) r.0, r.1);
      point = λ y x place id p o r among there. (ap (turned (with_point lists place p o)) r.0, r.1);
      alter = λ y x id change r among gentle. (ap (altered id change) r.0, r.1);
    };
    statement = λ y x r. (ap with_statement r.0, r.1);
    touch = λ y x id r among. (ap (touching id) r.0, touched_more x id r.1 among);
    defer = λ y x g r. (ap (with_deferred g) r.0, r.1);
    hold = λ y x id o keys r among there of. (ap (holding keys) r.0, r.1);
    new = λ y x class fields r drew among. (ap (λ z. turned (with_new lists class fields) (holding (new_keys x.now.bones.next) z)) r.0, r.1);
    active = λ y x id t args r drew among. (ap (λ z. turned (with_active lists id t args) (holding (active_keys id x.now.bones.next) z)) r.0, r.1);
    new_count = λ y x r. ap (λ (z : ListTx). key_count (holding (new_keys z.now.bones.next) z)) r.0;
    active_count = λ y x id r. ap (λ (z : ListTx). key_count (holding (active_keys id z.now.bones.next) z)) r.0;
  }
