use Rattle.ode_view_laws.proofs.OrderLaws.{arises_tidy, derive_tidy, drop_tidy, initial_tidy, join_tidy, makes_tidy, named_tidy, off_tidy, remove_tidy, set_tidy}
use Rattle.ode_view_laws.proofs.order.acts_keep_order.Goals as goal

pub returns-clause-set : goal.returns-clause-set
returns-clause-set c = set_tidy

pub returns-clause-derive : goal.returns-clause-derive
returns-clause-derive c = derive_tidy

pub returns-clause-drop : goal.returns-clause-drop
returns-clause-drop c = drop_tidy

pub returns-clause-remove : goal.returns-clause-remove
returns-clause-remove c = remove_tidy

pub returns-clause-make : goal.returns-clause-make
returns-clause-make c = makes_tidy

pub returns-clause-join : goal.returns-clause-join
returns-clause-join c = join_tidy

pub returns-clause-activate : goal.returns-clause-activate
returns-clause-activate c = named_tidy

pub returns-clause-initial : goal.returns-clause-initial
returns-clause-initial c = initial_tidy

pub returns-clause-deactivate : goal.returns-clause-deactivate
returns-clause-deactivate c = off_tidy

pub returns-clause-arise : goal.returns-clause-arise
returns-clause-arise c = arises_tidy
