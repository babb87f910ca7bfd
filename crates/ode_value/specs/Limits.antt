-- The limits of the machine, each once. Those that code counts up to or a definition counts down from don't unfold by themselves.
use Rattle.std.specs.Prelude.{ℕ, ◌+◌, ◌-◌, ◌^◌}

-- the bytes of a name
abbrev pub name_limit : ℕ
name_limit = 64

-- the bytes of a text
abbrev pub text_limit : ℕ
text_limit = 2048

-- calls of methods and actions, one inside the other
unfoldable pub depth_limit : ℕ
depth_limit = 32

-- the statements that a transaction runs
unfoldable pub budget_limit : ℕ
budget_limit = 100000

-- its deferred firings
unfoldable pub cascade_limit : ℕ
cascade_limit = 256

-- the bytes of its text before its last lines
unfoldable pub output_limit : ℕ
output_limit = 1048576

-- the records that it changes
unfoldable pub change_limit : ℕ
change_limit = 1024

-- the bytes of a record's value
unfoldable pub value_limit : ℕ
value_limit = 3968

-- the bytes of an activation's arguments
unfoldable pub args_limit : ℕ
args_limit = 768

-- the bytes of all records but for the queue's entries
abbrev pub weight_limit : ℕ
weight_limit = 268435456

-- the same in a file of the first format
abbrev pub first_weight_limit : ℕ
first_weight_limit = 8388608

-- the next number of an object or an activation, the next transaction's, and the next entry's
abbrev pub number_limit : ℕ
number_limit = 2 ^ 62

-- the next transaction's number in a file: as many entries as one statement drains may have run past the limit
abbrev pub transaction_limit : ℕ
transaction_limit = 2 ^ 62 + 65536

-- an object's last version
unfoldable pub version_limit : ℕ
version_limit = 2 ^ 32 - 1

-- the generation of a firing that waits
unfoldable pub generation_limit : ℕ
generation_limit = 16

-- how many firings wait
unfoldable pub queue_limit : ℕ
queue_limit = 4096

-- how many of them run behind one statement
unfoldable pub drain_limit : ℕ
drain_limit = 65536

-- the number of a `choose` or an `every`
abbrev pub choose_limit : ℕ
choose_limit = 65535

-- the symbols of a trigger
abbrev pub symbol_limit : ℕ
symbol_limit = 64

-- the symbols that a refusal counts up to
abbrev pub counted_symbols : ℕ
counted_symbols = 65536

-- the states of a trigger
abbrev pub state_limit : ℕ
state_limit = 512

-- the records of a class
unfoldable pub class_limit : ℕ
class_limit = 1022

-- the clock events that one command may find due
unfoldable pub due_limit : ℕ
due_limit = 10000

-- the bytes of a statement
unfoldable pub statement_limit : ℕ
statement_limit = 65536

-- the bytes of a script
unfoldable pub script_limit : ℕ
script_limit = 67108864

-- the sessions of a script of sessions
abbrev pub session_limit : ℕ
session_limit = 64
