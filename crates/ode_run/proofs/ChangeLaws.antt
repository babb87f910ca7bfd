-- Fields are set, and lines behind new versions.
use Rattle.std.proofs.Common.{◌≡◌, ℕ, Bool, true, false, cond, pos, List, Result, Ok, Err, sym, ap, subst, ◌∙◌}
use Rattle.std.specs.Prelude.{◌+ℤ◌, ℤ, int_le, nat_le}
use Rattle.std.specs.Result.{result_unwrap_or}
use Rattle.ode_interpreter.specs.Seen.{Ends}
use Rattle.ode_interpreter.specs.declared.stop.Stop.{Stop}
use Rattle.ode_interpreter.specs.declared.stop.Stop.TheVariants as stop
use Rattle.ode_known_laws.specs.Knowing.{declared_in}
use Rattle.ode_laws.specs.Alike.{NumberTx, NumberWorld}
use Rattle.ode_overlay.specs.Layers.{Layer}
use Rattle.ode_overlay.specs.Settling.{growth_told}
use Rattle.ode_overlay.specs.declared.error.OverlayError.{OverlayError}
use Rattle.ode_run.specs.Telling.{EndsThen}
use Rattle.ode_value.specs.Acts.{Outcome, Done, Aborted, gives, go_on, prints}
use Rattle.ode_value.specs.Completing.{weighs}
use Rattle.ode_value.specs.Keeping.{kept_bones}
use Rattle.ode_value.specs.Limits.{weight_limit}
use Rattle.ode_value.specs.Texts.{version_line}
use Rattle.ode_value.specs.Weights.{weight}
use Rattle.ode_value.specs.declared.class.Class.{Class}
use Rattle.ode_value.specs.declared.reason.Reason.TheVariants as reason
use Rattle.ode_value.specs.declared.value.Ref.{Ref}
use Rattle.ode_version_laws.specs.Denoting.{tells_version}

-- ---- new versions

pub told_version : (y z : NumberTx) (r : Ref) (text : List ℕ) (o : Outcome (Unit {0}) ℕ Ref) → o ≡ tells_version r y → text ≡ version_line r → prints text y ≡ Done tt z → o ≡ Done r z
told_version y z r text o is line done = is ∙ ap (λ t. go_on (prints t y) (λ _. gives r)) (sym line) ∙ ap (λ q. go_on q (λ _. gives r)) done

pub not_told_version : (y z : NumberTx) (r : Ref) (text : List ℕ) (o : Outcome (Unit {0}) ℕ Ref) (why : Stop) (result : Result (Unit {0}) Stop) → o ≡ tells_version r y → text ≡ version_line r → result ≡ Err why
    → Ends result z (prints text y) → Ends {R = Ref} (Err why) z o
not_told_version y z r text o stop.Memory result is line e ends = tt
not_told_version y z r text o stop.DiskFault result is line e ends = tt
not_told_version y z r text o (stop.Damaged key) result is line e ends = tt
not_told_version y z r text o (stop.Abort why) result is line e ends =
    let aborted : prints text y ≡ Aborted why z = subst (λ (q : Result (Unit {0}) Stop). Ends q z (prints text y)) e ends in
    is ∙ ap (λ t. go_on (prints t y) (λ _. gives r)) (sym line) ∙ ap (λ q. go_on q (λ _. gives r)) aborted

pub not_derived : (z : NumberTx) (o : Outcome (Unit {0}) ℕ Ref) (why : Stop) (result : Result Ref Stop) → result ≡ Err why → EndsThen tells_version result z o → Ends {R = Ref} (Err why) z o
not_derived z o stop.Memory result e ends = tt
not_derived z o stop.DiskFault result e ends = tt
not_derived z o (stop.Damaged key) result e ends = tt
not_derived z o (stop.Abort why) result e ends = subst (λ (q : Result Ref Stop). EndsThen tells_version q z o) e ends

-- ---- the weight

abbrev tested : NumberTx → Bool → Outcome (Unit {0}) ℕ (Unit {0})
tested y b = cond b (Done tt y) (Aborted reason.Space y)

weighed : (y : NumberTx) (b : Bool) → nat_le (weight (kept_bones y.now.bones)) weight_limit ≡ b → weighs y ≡ tested y b
unfolding weighs
weighed y b is = ap (tested y) is

pub told_is : (answer : Result ℤ OverlayError) (grown told : ℤ) → grown ≡ result_unwrap_or answer (pos 0) → answer ≡ Ok told → grown ≡ told
told_is answer grown told is tells = is ∙ ap (λ (a : Result ℤ OverlayError). result_unwrap_or a (pos 0)) tells

-- the growth that is told by the first world's classes, over its weight
pub told_by : (x : Layer) (y : NumberTx) (first : NumberWorld) (bytes : ℕ) (classes : List Class) → classes ≡ declared_in first → bytes ≡ weight first.bones
    → int_le (pos (weight first.bones) +ℤ growth_told (declared_in first) x) (pos weight_limit) ≡ nat_le (weight (kept_bones y.now.bones)) weight_limit
    → int_le (pos bytes +ℤ growth_told classes x) (pos weight_limit) ≡ nat_le (weight (kept_bones y.now.bones)) weight_limit
told_by x y first bytes classes same heavy law =
    ap (λ (n : ℕ). int_le (pos n +ℤ growth_told classes x) (pos weight_limit)) heavy
    ∙ ap (λ (cs : List Class). int_le (pos (weight first.bones) +ℤ growth_told cs x) (pos weight_limit)) same ∙ law

pub light_is : (y : NumberTx) (bytes : ℕ) (grown told : ℤ) → grown ≡ told → int_le (pos bytes +ℤ told) (pos weight_limit) ≡ nat_le (weight (kept_bones y.now.bones)) weight_limit
    → int_le (pos bytes +ℤ grown) (pos weight_limit) ≡ true → weighs y ≡ Done tt y
light_is y bytes grown told is law light = weighed y true (sym law ∙ ap (λ n. int_le (pos bytes +ℤ n) (pos weight_limit)) (sym is) ∙ light)

pub heavy_is : (y : NumberTx) (bytes : ℕ) (grown told : ℤ) → grown ≡ told → int_le (pos bytes +ℤ told) (pos weight_limit) ≡ nat_le (weight (kept_bones y.now.bones)) weight_limit
    → int_le (pos bytes +ℤ grown) (pos weight_limit) ≡ false → weighs y ≡ Aborted reason.Space y
heavy_is y bytes grown told is law heavy = weighed y false (sym law ∙ ap (λ n. int_le (pos bytes +ℤ n) (pos weight_limit)) (sym is) ∙ heavy)
