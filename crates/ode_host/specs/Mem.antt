-- What is to be seen of a host in memory.
use Rattle.std.specs.Prelude.{◌≡◌, ◌≤◌, true, ℕ, ◌+◌, ◌⊎◌, List, [], length, Option, Some, None}
use Rattle.ode_host.specs.declared.mem_host.MemHost.{MemHost}
use Rattle.ode_host.specs.declared.plan.Plan.{Plan}
use Rattle.ode_host.specs.declared.stop.Torn.{Torn}
use Rattle.ode_host.specs.View.{View}
use Rattle.ode_host.specs.Causes.{Rose}
use Rattle.ode_host.specs.Disk.{Disk, settled, written_on}
use Rattle.ode_host.specs.Host.{Stands}
use Rattle.ode_host.specs.Replay.{disk_after, LeftAt}
use Rattle.ode_host.specs.Tears.{IsPlanned, IsStop}

-- the disk: as it reads, as the last sync left it, and what is pending
abbrev pub disk_of : MemHost → Disk
disk_of host = disk_after host.tape.start.items host.tape.calls.items

abbrev pub image_of : MemHost → List ℕ
image_of host = host.tape.image.items

abbrev pub text_of : MemHost → List ℕ
text_of host = host.tape.text.items

-- the number of the next call, from 0
abbrev pub call_number : MemHost → ℕ
call_number host = host.numbering.exact.value

abbrev pub disk_fails_of : MemHost → List ℕ
disk_fails_of host = host.plan.disk_fails.items

abbrev pub print_fails_of : MemHost → List ℕ
print_fails_of host = host.plan.print_fails.items

abbrev pub stop_of : MemHost → Option (ℕ × Torn)
stop_of host = host.plan.stop

-- how many calls found no memory
abbrev pub refused_of : MemHost → ℕ
refused_of host = host.refused

abbrev pub mem_view : MemHost → View
mem_view host = record {
  honest = true;
  image = Some (image_of host);
  text = Some (text_of host);
  moment = length host.tape.calls.items;
  left = LeftAt host.tape.start.items host.tape.calls.items;
  written = host.written.value;
  fetched = host.fetched.value;
  disk_faults = host.disk_faults;
  print_faults = host.print_faults;
}

-- the next call is the plan's stop
abbrev pub IsNextStop : MemHost → Type 0
IsNextStop host = IsStop (stop_of host) (call_number host)

-- the count of calls that found no memory rose
abbrev pub WasRefused : MemHost → MemHost → Type 0
WasRefused old new = Rose (refused_of old) (refused_of new)

-- a call fails, where these numbers are planned for its kind: by the plan, or since the count of refusals rose in it
abbrev pub Fails : List ℕ → MemHost → MemHost → Type 0
Fails planned old new = IsPlanned planned (stop_of old) (call_number old) ⊎ WasRefused old new

-- the next call has the next number, by the same plan, and the count of refusals doesn't fall
pub record GoesOn (old new : MemHost) : Type 0 where
  pub number : call_number new ≡ call_number old + 1
  pub refused : refused_of old ≤ refused_of new
  pub disk_fails : disk_fails_of new ≡ disk_fails_of old
  pub print_fails : print_fails_of new ≡ print_fails_of old
  pub stop : stop_of new ≡ stop_of old

-- a write at this offset is pending
abbrev pub IsPending : ℕ → List ℕ → MemHost → MemHost → Type 0
IsPending at bytes old new = disk_of new ≡ written_on (disk_of old) at bytes

-- a host on which no call was made: it holds this image, and a stop leaves nothing else
pub record IsFresh (image : List ℕ) (host : MemHost) : Type 0 where
  pub stands : Stands image (mem_view host)
  pub disk : disk_of host ≡ settled image
  pub reads : image_of host ≡ image
  pub text : text_of host ≡ []
  pub number : call_number host ≡ 0
  pub refused : refused_of host ≡ 0
  pub moment : (mem_view host).moment ≡ 0
  pub written : (mem_view host).written ≡ 0
  pub fetched : (mem_view host).fetched ≡ 0
  pub disk_faults : (mem_view host).disk_faults ≡ 0
  pub print_faults : (mem_view host).print_faults ≡ 0

-- its calls fail by this plan
pub record Follows (plan : Plan) (host : MemHost) : Type 0 where
  pub disk_fails : disk_fails_of host ≡ plan.disk_fails.items
  pub print_fails : print_fails_of host ≡ plan.print_fails.items
  pub stop : stop_of host ≡ plan.stop

-- no call of it fails by a plan
pub record IsUnplanned (host : MemHost) : Type 0 where
  pub disk_fails : disk_fails_of host ≡ []
  pub print_fails : print_fails_of host ≡ []
  pub stop : stop_of host ≡ None
