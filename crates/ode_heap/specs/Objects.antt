-- What there is of an object.
use Rattle.std.specs.Prelude.{◌≡◌, ◌⊎◌, ℕ, List, Bool, ◌==◌, ◌&&◌, ◌||◌, Option, Some, None}
use Rattle.std.specs.List.{filter}
use Rattle.ode_codec.specs.declared.record.Record.{Record}
use Rattle.ode_codec.specs.declared.record.Record.TheVariants as of
use Rattle.ode_heap.specs.Answers.{Found, ◌>>=◌}
use Rattle.ode_heap.specs.Answers.{There, Broken}
use Rattle.ode_heap.specs.Looking.{as_version, looked_up}
use Rattle.ode_heap.specs.Walking.{block}
use Rattle.ode_heap.specs.declared.object.ObjectHead.{ObjectHead}
use Rattle.ode_keep.specs.Entries.{Entries}
use Rattle.ode_value.specs.Keys.{object_key, object_kind, version_kind}
use Rattle.ode_value.specs.declared.key.Key.{Key}
use Rattle.ode_versions.specs.declared.list.Version.{Version}

-- the versions of an object, in the order of their numbers
abbrev pub versions_in : Entries → ℕ → Found (List Version)
versions_in entries id = block as_version version_kind id 0 entries

-- its class, and its versions with the last number
abbrev pub head_of : ℕ → ℕ → List Version → Option ObjectHead
head_of class last vs = Some (record { class = class; versions = record { versions = vs; last = last } })

abbrev pub with_versions : Entries → ℕ → Option Record → Found (Option ObjectHead)
with_versions entries id None = There None
with_versions entries id (Some (of.Object object class last)) = versions_in entries id >>= λ vs. There (head_of class last vs)
with_versions entries id _ = Broken (object_key id)

unfoldable pub object_in : Entries → ℕ → Found (Option ObjectHead)
object_in entries id = looked_up entries (object_key id) >>= with_versions entries id

-- the key of an object or of one of its versions
abbrev pub IsOfObject : ℕ → Key → Type 0
IsOfObject id k = (k ≡ object_key id) ⊎ ((k.kind ≡ version_kind) × (k.a ≡ id))

-- the records of an object and of its versions
abbrev pub is_of_object : ℕ → Key → Bool
is_of_object id k = k.a == id && (k.kind == object_kind || k.kind == version_kind)

abbrev pub own_records : Entries → ℕ → Entries
own_records entries id = filter (λ e. is_of_object id e.0) entries
