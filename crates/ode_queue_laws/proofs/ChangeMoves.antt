-- A change of a class keeps the entries of the queue.
use Rattle.std.proofs.Common.{inl, ℕ, ◌+◌, Bool, true, false, List, length, refl}
use Rattle.std.specs.Prelude.{nat_le}
use Rattle.ode_value.specs.declared.change.Change.{Change}
use Rattle.ode_value.specs.declared.reason.Reason.TheVariants.{Output, Space}
use Rattle.ode_value.specs.Acts.{◌>>◌, go_on, does, needs, turns, with_line}
use Rattle.ode_value.specs.Changing.{changed_bones, changed_world}
use Rattle.ode_value.specs.Completing.{completes}
use Rattle.ode_value.specs.Language.{ListWorld, ListTx}
use Rattle.ode_value.specs.Limits.{output_limit, weight_limit}
use Rattle.ode_value.specs.Pasts.{lists}
use Rattle.ode_value.specs.Settling.{settle, transaction}
use Rattle.ode_value.specs.Texts.{changed_line}
use Rattle.ode_value.specs.Transactions.{Script, begun}
use Rattle.ode_value.specs.Weights.{weight}
use Rattle.ode_value.specs.Worlds.{Declared}
use Rattle.ode_machine.specs.Works.{changes_class}
use Rattle.ode_laws.proofs.SideCompleting.{completes_alike}
use Rattle.ode_queue_laws.proofs.Collecting.{Leaves, Collecting, abort_leaves, begun_collecting, collected_by, settle_leaves}
use Rattle.ode_queue_laws.proofs.Moves.{Moves}

module _ (classes : List Declared) (c : Change) (w : ListWorld) where
  abbrev line : List ℕ
  line = changed_line c.class

  abbrev printed : ListTx
  printed = with_line line (begun Script w)

  abbrev turned_tx : ListTx
  turned_tx = record printed { now = changed_world lists classes c w }

  abbrev fits : ListTx → Bool
  fits x = nat_le (weight (changed_bones x.now.bones c classes)) weight_limit

  printed_collecting : Collecting Script w.bones printed
  printed_collecting = record { is_from = refl; first = refl; collected = tt }

  turned_collecting : Collecting Script w.bones turned_tx
  turned_collecting = record { is_from = refl; first = refl; collected = tt }

  by_space : (b : Bool) → Leaves Script w.bones (settle lists (go_on (go_on (needs Space (λ (x : ListTx). b) printed) (λ _. turns (changed_world lists classes c))) (λ _. completes lists))).0.bones
  by_space true =
      settle_leaves Script w.bones lists classes (completes lists turned_tx)
      (completes_alike (collected_by Script w.bones lists classes) 0 turned_tx turned_tx (refl, refl, turned_collecting))
  by_space false = abort_leaves Script w.bones lists Space printed printed_collecting

  by_room : (b : Bool) → Leaves Script w.bones (settle lists
      (go_on (go_on (go_on (needs Output (λ (x : ListTx). b) (begun Script w)) (λ _. does (with_line line))) (λ _. needs Space fits >> turns (changed_world lists classes c)))
      (λ _. completes lists))).0.bones
  by_room true = by_space (fits printed)
  by_room false = abort_leaves Script w.bones lists Output (begun Script w) (begun_collecting Script w.bones w refl)

  pub change_moves : Moves w (transaction lists Script (changes_class lists classes c) w)
  unfolding transaction
  change_moves = inl (by_room (nat_le (length (begun Script w).text + length line) output_limit))
