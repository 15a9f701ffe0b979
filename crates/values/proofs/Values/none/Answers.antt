-- Arrays of nothing are the tables of nothing, by computing. Assumes nothing.
use mathlib.Core.Path.{refl}
use Rattle.sets.specs.Arrays.{tabulate}
use Rattle.values.specs.Values.{values_for}
use Rattle.values.proofs.Values.none.Goals as goal

pub returns : goal.returns
unfolding values_for tabulate
returns c = refl
