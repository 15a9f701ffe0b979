-- What a match on a verdict leaves for its last arm. Assumes nothing.
use mathlib.Core.Path.{◌≡◌, refl}
use mathlib.Core.Logic.{◌≢◌}
use mathlib.Core.List.{List, [], ◌∷◌}
use Prim.Native.Nat.{ℕ}
use Rattle.roster.specs.declared.Reply.{Reply}
use Rattle.roster.specs.declared.Verdict.{Verdict}
use Rattle.roster.specs.declared.Verdict.TheVariants.{Yes, No, Undecided, Crews, None, Refused}
use Rattle.text.specs.Text.{dash}
use Rattle.lines.specs.Lines.{verdict_word, sets_text}

pub no_word : (v : Verdict) → v ≢ Yes → v ≢ No → v ≢ Undecided → verdict_word v ≡ []
unfolding verdict_word
no_word Yes y n u = absurd (y refl)
no_word No y n u = absurd (n refl)
no_word Undecided y n u = absurd (u refl)
no_word Crews y n u = refl
no_word None y n u = refl
no_word (Refused refusal) y n u = refl

pub no_sets : (numbers : List ℕ) (reply : Reply) (v : Verdict) → v ≢ Yes → v ≢ No → sets_text numbers reply v ≡ dash ∷ []
unfolding sets_text
no_sets numbers reply Yes y n = absurd (y refl)
no_sets numbers reply No y n = absurd (n refl)
no_sets numbers reply Undecided y n = refl
no_sets numbers reply Crews y n = refl
no_sets numbers reply None y n = refl
no_sets numbers reply (Refused refusal) y n = refl
