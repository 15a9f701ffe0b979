-- 01, the table of "What comes back": which values go with each verdict. Nothing here is proved: these are definitions.
use Rattle.std.specs.Prelude.{◌≡◌, List, [], ◌∷◌, ℕ, ◌≤◌, length, get_or}
use Rattle.roster.specs.Limits.{crew_limit}
use Rattle.roster.specs.declared.Verdict.{Verdict}
use Rattle.roster.specs.declared.Verdict.TheVariants.{Yes, No, Undecided, Crews, None, Refused}
use Rattle.roster.specs.declared.Reply.{Reply}

-- "all 0"
abbrev pub no_crews : List ℕ
no_crews = 0 ∷ 0 ∷ 0 ∷ 0 ∷ 0 ∷ 0 ∷ 0 ∷ 0 ∷ []

-- "Crews are eight sets; those past d are 0."
pub record Eight (d : ℕ) (crews : List ℕ) : Type 0 where
  pub many : length crews ≡ crew_limit
  pub past : (j : ℕ) → d ≤ j → get_or crews j 0 ≡ 0

-- the reply with this verdict, where the first list of crews, the first blocker, the need and the allowance are these
abbrev pub reply_with : (crews : List ℕ) (blocker need allowance : ℕ) → Verdict → Reply
reply_with crews blocker need allowance Yes = record { verdict = Yes; crews = crews; blocker = 0; units = need }
reply_with crews blocker need allowance No = record { verdict = No; crews = no_crews; blocker = blocker; units = need }
reply_with crews blocker need allowance Undecided = record { verdict = Undecided; crews = no_crews; blocker = 0; units = allowance }
reply_with crews blocker need allowance Crews = record { verdict = Crews; crews = crews; blocker = 0; units = need }
reply_with crews blocker need allowance None = record { verdict = None; crews = no_crews; blocker = 0; units = need }
reply_with crews blocker need allowance (Refused refusal) = record { verdict = Refused refusal; crews = no_crews; blocker = 0; units = 0 }
