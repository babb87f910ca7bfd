use Rattle.std.proofs.Common.{◌≡◌, sym, subst, ap, refl, ◌∙◌}
use Rattle.std.specs.Prelude.{cond, map, Bool, List, Ok}
use Rattle.std.specs.List.{filter}
use Rattle.ode_arising_laws.specs.Arising.{live_in}
use Rattle.ode_interpreter.specs.Seen.{firing}
use Rattle.ode_overlay.specs.Changing.{put_acts}
use Rattle.ode_overlay.specs.Layers.{Layer}
use Rattle.ode_point_laws.specs.Points.{all_behind, all_fired, point_of, sees_whole, whole_behind, whole_fired}
use Rattle.ode_run.proofs.ArisingLaws.{arises_so, by_either, touched_same}
use Rattle.ode_run.proofs.EndLaws.{same_view}
use Rattle.ode_run.proofs.work.Work.turn.Goals as goal
use Rattle.ode_run.specs.Knowing.{beside}
use Rattle.ode_schema.specs.Parts.{table_by, trigger_of}
use Rattle.ode_states.specs.Advance.{advanced, fired_in}
use Rattle.ode_types.specs.Checked.{AreChecked}
use Rattle.ode_types.specs.declared.running.Running.{Running}
use Rattle.ode_value.specs.Acts.{Done}
use Rattle.ode_value.specs.Firings.{arises, both_lists, whole_list}
use Rattle.ode_value.specs.Pasts.{numbers}
use Rattle.ode_value.specs.declared.class.Class.{Class}
use Rattle.ode_view_laws.specs.Viewing.{running}

pub returns-in_err-put_back-clause-lent : goal.returns-in_err-put_back-clause-lent
returns-in_err-put_back-clause-lent g c = λ k lent. c.put_back.ensures.lent k (c.activations.ensures.lent k lent)

pub returns-clause-lent : goal.returns-clause-lent
returns-clause-lent g c = λ k lent. c.put_back.ensures.lent k (c.activations.ensures.lent k lent)

pub returns-clause-acts : goal.returns-clause-acts
returns-clause-acts g c = λ all k are same holds touched o found.
    let x = c.args.self.now.overlay.now in
    let x1 = c.activations.new.self.overlay.now in
    let left = c.put_back.new.self.overlay.now in
    let b = beside k.first c.args.self.now.deferred.now c.args.self.now.text.now c.args.self.now.budget.now in
    let p = c.args.program.now in
    let id = c.args.id in
    let kind = c.args.kind.now in
    let args = c.args.args.now in
    let point = point_of id o kind args in
    let there = c.in_ok-there.there in
    let next = c.go_on_by.new.there in
    let by = numbers (table_by p.tables p.maps) in
    let s = c.in_ok-there.ensures.same in
    let r = c.in_ok-put_back.ensures.same in
    let runs = c.in_ok-there.ensures.kept k same holds in
    let puts = c.in_ok-put_back.ensures.puts k (c.classes-2.ensures ∙ same) runs in
    let put = subst (λ (q : Layer). put_acts p.classes k.entries id next q ≡ Ok (tt, left)) s.0 (subst (λ (cs : List Class). put_acts cs k.entries id next x1 ≡ Ok (tt, left)) c.classes-2.ensures puts) in
    let view = same_view all k.first left left c.args.self.now.deferred.now c.put_back.new.self.deferred.now c.args.self.now.text.now c.put_back.new.self.text.now c.args.self.now.budget.now c.put_back.new.self.budget.now
    refl (r.0 ∙ s.1) (r.1 ∙ s.2) (r.2 ∙ s.3) in
    let still = ap (live_in id) s.0 ∙ found in
    let moved = c.in_ok-firings.ensures.acts o still in
    let told = c.in_ok-firings.ensures.fired o still in
    let fits = subst AreChecked c.classes.ensures c.as_slice-checked.ensures.checked in
    let value = c.in_ok-there.ensures.value k same holds in
    let going = c.in_ok-there.ensures.going k same holds o found in
    by_either (λ place. arises by place id kind args (running all k.first x b) ≡ Done (map (firing (trigger_of p.classes)) c.in_ok-firings.firings) (running all k.first left b)) c.args.whole (whole_list by) (both_lists by)
    (λ is.
    let at : next ≡ whole_behind p.tables p.alphabets all point there =
    moved ∙ ap (λ (w : Bool). cond w (map (λ a. cond (sees_whole p.classes a) (advanced p.tables p.alphabets p.classes point a) a) there) (map (advanced p.tables p.alphabets p.classes point) there)) is
    ∙ ap (λ (cs : List Class). map (λ a. cond (sees_whole cs a) (advanced p.tables p.alphabets cs point a) a) there) (sym are) in
    let fires : fired_in p.tables p.alphabets p.classes point (cond c.args.whole (filter (sees_whole p.classes) there) there) ≡ whole_fired p.tables p.alphabets all point there =
    ap (λ (w : Bool). fired_in p.tables p.alphabets p.classes point (cond w (filter (sees_whole p.classes) there) there)) is
    ∙ ap (λ (cs : List Class). fired_in p.tables p.alphabets cs point (filter (sees_whole cs) there)) (sym are) in
    arises_so (firing (trigger_of p.classes)) id (fired_in p.tables p.alphabets p.classes point (cond c.args.whole (filter (sees_whole p.classes) there) there)) (whole_fired p.tables p.alphabets all point there) c.in_ok-firings.firings
    (arises by (whole_list by) id kind args (running all k.first x b)) (running all k.first left b)
    (c.points_show.ensures.whole all k.first b x holds.known.viewed holds.known.keys holds.known.numbered.now p fits are k.entries id kind args o there (touched_same id x.touched touched) found value going left
    (subst (λ (rs : List Running). put_acts p.classes k.entries id rs x ≡ Ok (tt, left)) at put)) fires told)
    (λ is.
    let at : next ≡ all_behind p.tables p.alphabets all point there =
    moved ∙ ap (λ (w : Bool). cond w (map (λ a. cond (sees_whole p.classes a) (advanced p.tables p.alphabets p.classes point a) a) there) (map (advanced p.tables p.alphabets p.classes point) there)) is
    ∙ ap (λ (cs : List Class). map (advanced p.tables p.alphabets cs point) there) (sym are) in
    let fires : fired_in p.tables p.alphabets p.classes point (cond c.args.whole (filter (sees_whole p.classes) there) there) ≡ all_fired p.tables p.alphabets all point there =
    ap (λ (w : Bool). fired_in p.tables p.alphabets p.classes point (cond w (filter (sees_whole p.classes) there) there)) is
    ∙ ap (λ (cs : List Class). fired_in p.tables p.alphabets cs point there) (sym are) in
    arises_so (firing (trigger_of p.classes)) id (fired_in p.tables p.alphabets p.classes point (cond c.args.whole (filter (sees_whole p.classes) there) there)) (all_fired p.tables p.alphabets all point there) c.in_ok-firings.firings
    (arises by (both_lists by) id kind args (running all k.first x b)) (running all k.first left b)
    (c.points_show.ensures.both all k.first b x holds.known.viewed holds.known.keys holds.known.numbered.now p fits are k.entries id kind args o there (touched_same id x.touched touched) found value going left
    (subst (λ (rs : List Running). put_acts p.classes k.entries id rs x ≡ Ok (tt, left)) at put)) fires told)
    ∙ ap (Done (map (firing (trigger_of p.classes)) c.in_ok-firings.firings)) view
