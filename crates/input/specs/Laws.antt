-- That the definitions mean what they should. Assumes nothing.
use Rattle.std.specs.Prelude.{◌≡◌, refl, Result, Ok, Err, ℕ}
use Rattle.input.specs.declared.Progress.TheVariants.{Whole, More}
use Rattle.input.specs.Input.{grown_by, after_read}

-- the decision after a read at its edges, by running it: a failed read at the front and later, the end of the input, a part of it, one byte less
-- than there is room for, a full buffer in two reads and in one, and a buffer of no bytes
pub decisions : {E : Type 0} → (e : E) → (after_read 1093 0 (Err e) ≡ Err e)
    × (after_read 1093 60 (Err e) ≡ Err e)
    × (after_read {E = E} 1093 60 (Ok 0) ≡ Ok (Whole 60))
    × (after_read {E = E} 1093 0 (Ok 60) ≡ Ok (More 60))
    × (after_read {E = E} 1093 60 (Ok 1032) ≡ Ok (More 1092))
    × (after_read {E = E} 1093 1092 (Ok 1) ≡ Ok (Whole 1093))
    × (after_read {E = E} 1093 0 (Ok 1093) ≡ Ok (Whole 1093))
    × (after_read {E = E} 0 0 (Ok 0) ≡ Ok (Whole 0))
unfolding after_read grown_by
decisions e = (refl, refl, refl, refl, refl, refl, refl, refl)
