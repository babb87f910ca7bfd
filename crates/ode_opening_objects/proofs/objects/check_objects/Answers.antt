use Rattle.std.proofs.Common.{◌≡◌, ℕ, List, Bool, [], Err, sym, subst, ap, ◌∙◌}
use Rattle.std.proofs.lemmas.Result.{err_from_is_err_and}
use Rattle.ode_host.proofs.Moments.{looks_joined}
use Rattle.ode_keep.specs.Entries.{HasRisingKeys}
use Rattle.ode_passes.specs.Answers.{Answers}
use Rattle.ode_passes.specs.Rules.{Ruled, ◌>>=◌}
use Rattle.ode_passes.specs.Walking.{within}
use Rattle.ode_passes.proofs.Through.{stops_through}
use Rattle.ode_value.specs.Keys.{activation_kind}
use Rattle.ode_opening_objects.specs.Known.{Known}
use Rattle.ode_opening_objects.specs.Numbers.{numbers_from}
use Rattle.ode_opening_objects.specs.Scenes.{objects_kept, scene_in, scene_kept}
use Rattle.ode_opening_objects.specs.Triggers.{is_reached_in}
use Rattle.ode_opening_objects.specs.declared.head.Head.{Head}
use Rattle.ode_opening_objects.proofs.Checking.{in_passes, next_is}
use Rattle.ode_opening_objects.proofs.objects.check_objects.Goals as goal

abbrev known_by : Known → List (ℕ × Bool) → List (ℕ × Head) → Known
known_by s numbers heads = record s { numbers = numbers; heads = heads }

pub returns-in_err-scene-clause-meant : goal.returns-in_err-scene-clause-meant
returns-in_err-scene-clause-meant g c = λ entries holds.
    let p = err_from_is_err_and c.from_residual-in_err-scene.result c.from_residual-in_err-scene.ensures.1 in
    let e = c.in_err-scene.field-0.0 in
    let law = g.met.K.Keep.stands c.args.keeper.now c.args.host.now entries holds in
    let rising : HasRisingKeys entries = g.met.K.Keep.rising law.0 entries law.2 in
    let s : Known = scene_in c.args.counters c.args.classes.now c.in_ok-states.states entries in
    let n : numbers_from [] (within activation_kind activation_kind entries) ≡ c.in_ok-numbers.numbers = cc (c.in_ok-numbers.ensures.meant entries holds) in
    let same : s ≡ known_by s c.in_ok-numbers.numbers c.new.result =
    ap (λ (numbers : List (ℕ × Bool)). known_by s numbers []) n ∙ sym (ap (λ (heads : List (ℕ × Head)). known_by s c.in_ok-numbers.numbers heads) c.new.ensures) in
    rw (p.1, p.2) (subst (λ (r : Ruled (Unit {0})). Answers r (Err e))
    (in_passes c.args.counters (is_reached_in c.args.tables.now c.args.maps.now) c.args.classes.now c.in_ok-states.states c.in_ok-states.ensures entries rising)
    (stops_through (objects_kept entries s) (scene_kept entries) e
    (subst (λ (known : Known). Answers {X = Known} (objects_kept entries known) (Err e)) (sym same)
    (c.in_err-scene.ensures.meant entries (c.in_ok-numbers.ensures.holds entries holds)))))

pub returns-in_err-check_scene-clause-meant : goal.returns-in_err-check_scene-clause-meant
returns-in_err-check_scene-clause-meant g c = λ entries holds.
    let p = err_from_is_err_and c.from_residual-in_err-check_scene.result c.from_residual-in_err-check_scene.ensures.1 in
    let e = c.in_err-check_scene.field-0.0 in
    let law = g.met.K.Keep.stands c.args.keeper.now c.args.host.now entries holds in
    let rising : HasRisingKeys entries = g.met.K.Keep.rising law.0 entries law.2 in
    let s : Known = scene_in c.args.counters c.args.classes.now c.in_ok-states.states entries in
    let t = c.in_ok-scene.scene in
    let n : numbers_from [] (within activation_kind activation_kind entries) ≡ c.in_ok-numbers.numbers = cc (c.in_ok-numbers.ensures.meant entries holds) in
    let same : s ≡ known_by s c.in_ok-numbers.numbers c.new.result =
    ap (λ (numbers : List (ℕ × Bool)). known_by s numbers []) n ∙ sym (ap (λ (heads : List (ℕ × Head)). known_by s c.in_ok-numbers.numbers heads) c.new.ensures) in
    let holds_1 = c.in_ok-numbers.ensures.holds entries holds in
    rw (p.1, p.2) (subst (λ (r : Ruled (Unit {0})). Answers r (Err e))
    (in_passes c.args.counters (is_reached_in c.args.tables.now c.args.maps.now) c.args.classes.now c.in_ok-states.states c.in_ok-states.ensures entries rising)
    (next_is (objects_kept entries s) t (scene_kept entries) (ap (λ (known : Known). objects_kept entries known) same ∙ c.in_ok-scene.ensures.meant entries holds_1) (Err e)
    (c.in_err-check_scene.ensures.meant entries (c.in_ok-scene.ensures.holds entries holds_1))))

pub returns-clause-meant : goal.returns-clause-meant
returns-clause-meant g c = λ entries holds.
    let law = g.met.K.Keep.stands c.args.keeper.now c.args.host.now entries holds in
    let rising : HasRisingKeys entries = g.met.K.Keep.rising law.0 entries law.2 in
    let s : Known = scene_in c.args.counters c.args.classes.now c.in_ok-states.states entries in
    let n : numbers_from [] (within activation_kind activation_kind entries) ≡ c.in_ok-numbers.numbers = cc (c.in_ok-numbers.ensures.meant entries holds) in
    let same : s ≡ known_by s c.in_ok-numbers.numbers c.new.result =
    ap (λ (numbers : List (ℕ × Bool)). known_by s numbers []) n ∙ sym (ap (λ (heads : List (ℕ × Head)). known_by s c.in_ok-numbers.numbers heads) c.new.ensures) in
    let holds_1 = c.in_ok-numbers.ensures.holds entries holds in
    sym (in_passes c.args.counters (is_reached_in c.args.tables.now c.args.maps.now) c.args.classes.now c.in_ok-states.states c.in_ok-states.ensures entries rising)
    ∙ ap (λ (m : Ruled Known). m >>= scene_kept entries) (ap (λ (known : Known). objects_kept entries known) same ∙ c.in_ok-scene.ensures.meant entries holds_1)
    ∙ c.in_ok-check_scene.ensures.meant entries (c.in_ok-scene.ensures.holds entries holds_1)

pub returns-in_err-check_scene-clause-looks : goal.returns-in_err-check_scene-clause-looks
returns-in_err-check_scene-clause-looks g c = looks_joined _ _ _ c.in_ok-numbers.ensures.looks (looks_joined _ _ _ c.in_ok-scene.ensures.looks c.in_err-check_scene.ensures.looks)

pub returns-clause-looks : goal.returns-clause-looks
returns-clause-looks g c = looks_joined _ _ _ c.in_ok-numbers.ensures.looks (looks_joined _ _ _ c.in_ok-scene.ensures.looks c.in_ok-check_scene.ensures.looks)
