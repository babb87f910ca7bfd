-- What is to be seen of a source in memory.
use Rattle.std.specs.Prelude.{◌≡◌, ℕ, ◌+◌, List, drop}
use Rattle.ode_host.specs.declared.mem_source.MemSource.{MemSource}

-- what is left of its bytes
abbrev pub rest_of : MemSource → List ℕ
rest_of source = drop source.at source.text.items

-- the numbers of the reads that fail
abbrev pub fails_of : MemSource → List ℕ
fails_of source = source.fails.items

-- how many bytes a read gives at most
abbrev pub most_of : MemSource → ℕ
most_of source = source.most

-- the number of the next read, from 0
abbrev pub read_number_of : MemSource → ℕ
read_number_of source = source.numbering.exact.value

-- a source of which nothing was read
pub record IsUnread (text planned : List ℕ) (limit : ℕ) (source : MemSource) : Type 0 where
  pub rest : rest_of source ≡ text
  pub fails : fails_of source ≡ planned
  pub most : most_of source ≡ limit
  pub number : read_number_of source ≡ 0
  pub faults : source.faults ≡ 0

-- the next read has the next number, by the same plan
pub record ReadsOn (old new : MemSource) : Type 0 where
  pub number : read_number_of new ≡ read_number_of old + 1
  pub fails : fails_of new ≡ fails_of old
  pub most : most_of new ≡ most_of old
