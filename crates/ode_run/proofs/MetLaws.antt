-- What a settling looked at and met, over state numbers and over lists of points.
use Rattle.std.proofs.Common.{◌≡◌, ◌∙◌, ◌++◌, [], ℕ, Bool, true, false, not, List, map, Option, Some, None, ap, refl, subst, sym}
use Rattle.std.specs.List.{filter, filter_map}
use Rattle.std.specs.Option.{is_some}
use Rattle.ode_commit_laws.proofs.CleanLast.{posted_same}
use Rattle.ode_commit_laws.proofs.CleanWorlds.{world_twice}
use Rattle.ode_laws.proofs.AlikePairs.{Pair}
use Rattle.ode_laws.proofs.AlikeRows.{Places, both_places, whole_places}
use Rattle.ode_laws.proofs.AlikeSettling.{pair_of}
use Rattle.ode_laws.proofs.AlikeWork.{Held, collect_same, point_held}
use Rattle.ode_laws.proofs.KeptRows.{kept_numbered, kept_pair, rewound_pair}
use Rattle.ode_laws.proofs.SideSettling.{Settlings, posted_related}
use Rattle.ode_laws.proofs.Sides.{told}
use Rattle.ode_laws.specs.Alike.{NumberTx, NumberWorld, RunsAs}
use Rattle.ode_laws.specs.Numbered.{AreNumbered}
use Rattle.ode_run.specs.Ending.{ended_by, last_points}
use Rattle.ode_value.specs.Acts.{with_line}
use Rattle.ode_value.specs.Firings.{Place, both_lists, whole_list}
use Rattle.ode_value.specs.Keeping.{kept_bones, kept_row, with_last}
use Rattle.ode_value.specs.Language.{ListTx, ListWorld}
use Rattle.ode_value.specs.Objects.{Histories, Starts}
use Rattle.ode_value.specs.Pasts.{lists, numbers}
use Rattle.ode_value.specs.Settling.{aborted, committed, ended, is_independent, posted}
use Rattle.ode_value.specs.Tables.{Table}
use Rattle.ode_value.specs.Transactions.{footed}
use Rattle.ode_value.specs.Worlds.{Bones, Declared}
use Rattle.ode_value.specs.declared.event.Kind.{Kind}
use Rattle.ode_value.specs.declared.event.Kind.TheVariants.{TAbort, TCommit}
use Rattle.ode_value.specs.declared.reason.Reason.{Reason}

module _ (tables : ℕ → ℕ → Table) (y : NumberTx) (x : ListTx) (r : RunsAs tables y x) where
  abbrev classes : List Declared
  classes = x.first.bones.classes

  -- alike, as far as the last points go
  abbrev Last : NumberTx → ListTx → Type 0
  Last p q = Held tables classes r.first.stands.mean r.first.numbered.classes y.first x.first (λ (w : ListWorld). Unit {0}) p q

  abbrev settling : (k : Place (Unit {0}) ℕ) (l : Place Histories Starts) → Places tables classes r.first.stands.mean k l → Settlings (Unit {0}) ℕ Histories Starts
  settling k l places = record {
    past = numbers tables;
    other = lists;
    classes = classes;
    place = k;
    other_place = l;
    Related = Last;
    same = λ p q h. h.same;
    foot = λ p q change h. record {
      same = told classes p q h.same (footed change p) (footed change q) refl refl refl refl h.same.origin h.same.touched h.same.deferred h.same.collected h.same.gathered h.same.text h.same.run h.same.keys (ap change h.same.footprint);
      pair = h.pair;
      first_y = h.first_y;
      first_x = h.first_x;
      hold = tt;
    };
    line = λ p q line h. record {
      same = told classes p q h.same (with_line line p) (with_line line q) refl refl refl refl h.same.origin h.same.touched h.same.deferred h.same.collected h.same.gathered (ap (λ (t : List ℕ). t ++ line) h.same.text) h.same.run h.same.keys h.same.footprint;
      pair = h.pair;
      first_y = h.first_y;
      first_x = h.first_x;
      hold = tt;
    };
    collect = λ p q f h room. record { same = collect_same tables classes r.first.stands.mean r.first.numbered.classes y.first x.first p q true f h.same; pair = h.pair; first_y = h.first_y; first_x = h.first_x; hold = tt };
    point = λ p q id kind h.
        point_held tables classes r.first.stands.mean r.first.numbered.classes y.first x.first (λ w. Unit {0}) (λ w id f g u. tt) k l places (λ w p ds o u. tt) p q id kind [] h;
  }

  posted_met : (k : Place (Unit {0}) ℕ) (l : Place Histories Starts) → Places tables classes r.first.stands.mean k l → (kind : Kind) (p : NumberTx) (q : ListTx) → Last p q
      → (posted (numbers tables) k kind p).footprint ≡ (posted lists l kind q).footprint
  posted_met k l places kind p q h = (posted_related (settling k l places) kind p q h).same.footprint

  -- ---- what they begin with

  now_pair : Pair tables classes x.now.bones y.now.pasts x.now.pasts
  now_pair = pair_of tables classes y.now x.now r.classes r.now

  committed_last : Last (committed (numbers tables) y) (committed lists x)
  committed_last = record {
    same = record {
      bones = ap kept_bones r.now.stands.bones;
      classes = r.classes;
      first = r.first.stands.bones;
      origin = r.origin;
      touched = r.touched;
      deferred = r.deferred;
      collected = r.collected;
      gathered = r.gathered;
      text = r.text;
      run = r.run;
      keys = r.keys;
      footprint = r.footprint;
    };
    pair =
        subst (λ b. Pair tables classes (kept_bones x.now.bones) (filter_map (kept_row (kept_bones b)) y.now.pasts) (filter_map (kept_row (kept_bones x.now.bones)) x.now.pasts)) (sym r.now.stands.bones)
        (kept_pair tables classes x.now.bones y.now.pasts x.now.pasts now_pair);
    first_y = refl;
    first_x = refl;
    hold = tt;
  }

  abbrev back_bones : Bones → Bones → Bones
  back_bones first now = record first { next = now.next; objects = map (with_last now) first.objects }

  aborted_last : Last (aborted (numbers tables) y) (aborted lists x)
  aborted_last = record {
    same = record {
      bones = ap (λ (b : Bones). back_bones b y.now.bones) r.first.stands.bones ∙ ap (back_bones x.first.bones) r.now.stands.bones;
      classes = refl;
      first = r.first.stands.bones;
      origin = r.origin;
      touched = r.touched;
      deferred = r.deferred;
      collected = ap (filter is_independent) r.collected;
      gathered = r.gathered;
      text = r.text;
      run = r.run;
      keys = r.keys;
      footprint = r.footprint;
    };
    pair =
        rewound_pair tables classes r.first.stands.mean y.first y.now x.first x.now r.first.stands.bones refl (pair_of tables classes y.first x.first refl r.first) now_pair r.stays r.next;
    first_y = refl;
    first_x = refl;
    hold = tt;
  }

  -- a commit may drop what is gone behind its last points
  clean_met : (posted (numbers tables) (both_lists (numbers tables)) TCommit y).footprint ≡ (posted (numbers tables) (both_lists (numbers tables)) TCommit (committed (numbers tables) y)).footprint
  clean_met =
      let numbered : AreNumbered y.now.bones = subst AreNumbered (sym r.now.stands.bones) r.now.numbered in
      let last = posted_same (numbers tables) (both_lists (numbers tables)) TCommit (committed (numbers tables) y) y (record {
        same = ap (λ (w : NumberWorld). record y { now = w }) (world_twice y.now);
        numbered = kept_numbered y.now.bones numbered;
        numbered_too = numbered;
      }) in
      sym (ap (λ (z : NumberTx). z.footprint) last.same)

  -- ---- as it settles

  points_met : (ending : Option Reason) (kept : Bool) → is_some ending ≡ not kept → (last_points tables kept y).footprint ≡ (ended lists (ended_by ending x)).footprint
  points_met None true is =
      clean_met ∙ posted_met (both_lists (numbers tables)) (both_lists lists) (both_places tables classes r.first.stands.mean) TCommit (committed (numbers tables) y) (committed lists x) committed_last
  points_met (Some why) false is =
      posted_met (whole_list (numbers tables)) (whole_list lists) (whole_places tables classes r.first.stands.mean) TAbort (aborted (numbers tables) y) (aborted lists x) aborted_last
  points_met None false is = absurd (cc (is))
  points_met (Some why) true is = absurd (cc (is))

  pub left_met : (left : NumberTx) (ending : Option Reason) (kept : Bool) → left ≡ last_points tables kept y → is_some ending ≡ not kept → left.footprint ≡ (ended lists (ended_by ending x)).footprint
  left_met left ending kept points is = ap (λ (z : NumberTx). z.footprint) points ∙ points_met ending kept is
