-- The reply to a named absence that a filling comes to: the rows "crews", "none" and "undecided" of the table of replies. Only proofs need
-- it: what may be replied stands in Named.
use Rattle.roster.specs.declared.Verdict.{Verdict}
use Rattle.roster.specs.declared.Verdict.TheVariants as verdict
use Rattle.roster.specs.declared.Reply.{Reply}
use Rattle.roster.specs.Replies.{reply_with}
use Rattle.crews.specs.declared.Ending.{Ending}
use Rattle.crews.specs.declared.Ending.TheVariants.{Complete, Exhausted, Undecided}
use Rattle.crews.specs.declared.Filled.{Filled}

abbrev pub verdict_of : Ending → Verdict
verdict_of Complete = verdict.Crews
verdict_of Exhausted = verdict.None
verdict_of Undecided = verdict.Undecided

abbrev pub replied_of : Filled → Reply
replied_of filled = reply_with filled.crews 0 filled.units filled.units (verdict_of filled.ending)
