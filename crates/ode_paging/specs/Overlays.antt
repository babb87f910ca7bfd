-- Images that are laid over others: a later one takes the place of an earlier one of its page.
use Rattle.std.specs.Prelude.{List, [], ◌∷◌}
use Rattle.std.specs.BTreeMap.{insert_entry}
use Rattle.std.specs.Ordering.{nat_cmp}
use Rattle.ode_paging.specs.Images.{Image}

-- after these images, the first of them first
abbrev pub laid : List Image → List Image → List Image
laid [] images = images
laid (i ∷ over) images = laid over (insert_entry nat_cmp images i.0 i.1)
