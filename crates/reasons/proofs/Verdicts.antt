-- What a match on the named question's verdict leaves for its last arm. Assumes nothing.
use mathlib.Core.Logic.{◌≢◌}
use Rattle.roster.specs.declared.Refusal.{Refusal}
use Rattle.roster.specs.declared.Verdict.{Verdict}
use Rattle.roster.specs.declared.Verdict.TheVariants.{Crews, None, Refused}

pub record Left (v : Verdict) : Type 0 where
  pub refused : (refusal : Refusal) → v ≢ Refused refusal
  pub crews : v ≢ Crews
  pub none : v ≢ None
