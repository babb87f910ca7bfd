-- Files that mean the same under a header.
use Rattle.std.specs.Prelude.{◌≡◌, ◌≤◌, ℕ, ◌+◌, ◌-◌, List, length, take, drop, None}
use Rattle.ode_gate.specs.declared.header.Header.{Header}
use Rattle.ode_gate.specs.declared.places.TheConstants.{PAGE_LEN}
use Rattle.ode_paging.specs.Images.{Image}
use Rattle.ode_paging.specs.Standing.{image_of}
use Rattle.ode_pagemap.specs.Placing.{in_place, place_at}

-- each page that is in place and has no image is as it was
abbrev pub HaveSamePages : List Image → List ℕ → List ℕ → Type 0
HaveSamePages images file c = (page : ℕ) → place_at page + PAGE_LEN ≤ length file → image_of images page ≡ None → in_place c page ≡ in_place file page

-- the bytes from the journal's start up to a gate, this one too
abbrev pub journal_bytes : Header → ℕ → List ℕ → List ℕ
journal_bytes header gate file = take (gate + 1 - header.journal_at) (drop header.journal_at file)

-- the journal is the same up to this gate, and so are the pages that have no image
pub record AreAlike (header : Header) (gate : ℕ) (images : List Image) (file c : List ℕ) : Type 0 where
  pub journal : journal_bytes header gate c ≡ journal_bytes header gate file
  pub pages : HaveSamePages images file c
