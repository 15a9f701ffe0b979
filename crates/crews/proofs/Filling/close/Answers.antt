-- The fields are the definition's. Assumes nothing.
use mathlib.Core.Path.{refl}
use Rattle.crews.specs.Filling.{close_of}
use Rattle.crews.proofs.Filling.close.Goals as goal

pub returns : goal.returns
unfolding close_of
returns c = refl
