-- What passes on a tape of calls elapses for its host, whatever its counts are.
use Rattle.std.proofs.Common.{◌≡◌, List, ℕ, sym, subst, length, true, Some}
use Rattle.ode_host.specs.declared.call.Call.{Call}
use Rattle.ode_host.specs.Host.{Step, Elapses}
use Rattle.ode_host.specs.Replay.{LeftAt, Passes}
use Rattle.ode_host.specs.View.{View}

abbrev view_of : (start : List ℕ) (calls : List Call) (image text : List ℕ) (written fetched disk_faults print_faults : ℕ) → View
view_of start calls image text written fetched disk_faults print_faults = record {
  honest = true;
  image = Some image;
  text = Some text;
  moment = length calls;
  left = LeftAt start calls;
  written = written;
  fetched = fetched;
  disk_faults = disk_faults;
  print_faults = print_faults;
}

module _ (st : Step) (start : List ℕ) (old new : List Call) (image text : List ℕ) (w f d p : ℕ) (image' text' : List ℕ) (w' f' d' p' : ℕ) where
  here : Passes st start old new → Elapses st (view_of start old image text w f d p) (view_of start new image' text' w' f' d' p')
  here run = record { later = run.later; keeps = run.keeps; stays = run.stays; steps = run.steps }

  pub elapses_of : (start' : List ℕ) → start' ≡ start → Passes st start old new → Elapses st (view_of start old image text w f d p) (view_of start' new image' text' w' f' d' p')
  elapses_of start' is run = subst (λ (l : List ℕ). Elapses st (view_of start old image text w f d p) (view_of l new image' text' w' f' d' p')) (sym is) (here run)
