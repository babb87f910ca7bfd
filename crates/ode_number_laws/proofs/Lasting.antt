-- The last points of a transaction keep its first world.
use Rattle.std.proofs.Common.{◌≡◌, ℕ, true, List, [], Option, Some, None, refl, sym, ap, subst}
use Rattle.ode_laws.proofs.SideSettling.{Settlings, posted_related}
use Rattle.ode_laws.proofs.Sides.{EndsBy, same_self}
use Rattle.ode_value.specs.Acts.{◌>>=◌, ◌>>◌, Act, found, gives, go_on, reads, turns, with_line}
use Rattle.ode_value.specs.Changes.{alters_object}
use Rattle.ode_value.specs.Denoting.{object_at}
use Rattle.ode_value.specs.Firings.{Place, arises, fired, new_point, object_after, with_point}
use Rattle.ode_value.specs.Pasts.{Past}
use Rattle.ode_value.specs.Posting.{with_entry}
use Rattle.ode_value.specs.Settling.{posted}
use Rattle.ode_value.specs.Transactions.{Firing, Tx, footed}
use Rattle.ode_value.specs.Worlds.{Declared, Object, World}
use Rattle.ode_value.specs.declared.event.Kind.{Kind}

module _ {O A : Type 0} (past : Past O A) (place : Place O A) (cs : List Declared) (first : World O A) where
  -- it has these classes and began with this world
  abbrev Stays : Tx O A → Type 0
  Stays x = (x.now.bones.classes ≡ cs) × (x.first ≡ first)

  abbrev Alone : Tx O A → Tx O A → Type 0
  Alone y x = (y ≡ x) × Stays x

  abbrev pointing : ℕ → Kind → Object → Act O A (List Firing)
  pointing id kind o =
      turns (with_point past place (new_point kind [] o) o) >> (reads (λ z. fired past place o z.now) >>= λ firings. alters_object id (object_after firings) >> gives firings)

  point_stays : (x : Tx O A) (id : ℕ) (kind : Kind) → Stays x → EndsBy Alone Alone (arises past place id kind [] x) (arises past place id kind [] x)
  point_stays x id kind is = by_found (object_at x.now.bones id) where
    by_found : (a : Option Object) → EndsBy Alone Alone (go_on (found a x) (pointing id kind)) (go_on (found a x) (pointing id kind))
    by_found (Some o) = (refl, (refl, is))
    by_found None = (refl, (refl, is))

  abbrev staying : Settlings O A O A
  staying = record {
    past = past;
    other = past;
    classes = cs;
    place = place;
    other_place = place;
    Related = Alone;
    same = λ y x r. same_self cs y x r.0 r.1.0;
    foot = λ y x change r. (ap (footed change) r.0, r.1);
    line = λ y x line r. (ap (with_line line) r.0, r.1);
    collect = λ y x f r room. (ap (with_entry true f) r.0, r.1);
    point = λ y x id kind r. subst (λ z. EndsBy Alone Alone (arises past place id kind [] z) (arises past place id kind [] x)) (sym r.0) (point_stays x id kind r.1);
  }

  pub posted_stays : (kind : Kind) (x : Tx O A) → Stays x → Stays (posted past place kind x)
  posted_stays kind x is = (posted_related staying kind x x (refl, is)).1
