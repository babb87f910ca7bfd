-- Through an overlay the bones of its view are read.
use Rattle.std.proofs.Common.{◌≡◌, ℕ, List, Result, Ok, Err, refl, subst}
use Rattle.ode_expr.specs.Answers as expr
use Rattle.ode_keep.specs.Entries.{Entries}
use Rattle.ode_overlay.specs.Layers.{Layer}
use Rattle.ode_overlay.specs.Reading.{ReadsAs, read}
use Rattle.ode_run_frame.specs.Reads.{Reads, number_read}
use Rattle.ode_value.specs.Denoting.{denoted}
use Rattle.ode_value.specs.Evaluation.{field_of}
use Rattle.ode_value.specs.Versions.{Version}
use Rattle.ode_value.specs.Worlds.{Bones}
use Rattle.ode_value.specs.declared.arithmetic.Fault.{Fault}
use Rattle.ode_value.specs.declared.class.Class.{Class}
use Rattle.ode_value.specs.declared.value.Ref.{Ref}
use Rattle.ode_version_laws.specs.Showing.{number_in, number_seen}

same_number : (d : Result Version Fault) → number_in d ≡ expr.number_in d
same_number (Ok v) = refl
same_number (Err why) = refl

pub reads_bones : (classes : List Class) (base : Entries) (x : Layer) (b : Bones)
    → ((r : Ref) (slot : ℕ) → ReadsAs (read classes base r slot x) (field_of b slot r))
    → ((r : Ref) → ReadsAs (number_seen base r x) (number_in (denoted b r))) → Reads classes base x b
unfolding number_read
reads_bones classes base x b fields numbers = record {
  field = fields;
  number = λ r. subst (ReadsAs (number_seen base r x)) (same_number (denoted b r)) (numbers r);
}
