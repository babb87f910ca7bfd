use Rattle.ode_pagemap.proofs.Alikes.{alike, means_in}
use Rattle.ode_pagemap.proofs.laws.alike_files.Goals as goal

pub returns-clause-same : goal.returns-clause-same
returns-clause-same c header place images pages file other has like = alike header place images pages file has other like

pub returns-clause-means : goal.returns-clause-means
returns-clause-means c header place images pages file other has like counts = means_in header place images pages other (alike header place images pages file has other like) counts
