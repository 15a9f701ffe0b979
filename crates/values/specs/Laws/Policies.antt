-- What is refused of a policy by itself: 2 exactly where P is zero, and else 3, 4, 5 or 25, always if s, d, t or the edition is past its byte.
-- Assumes nothing.
use Rattle.std.specs.Prelude.{◌≡◌, refl, Bool, true, false, eqb, ltb, Err, Ok, Result}
use Rattle.std.proofs.Common.{inl, inr, arith}
use Rattle.roster.specs.Limits.{away_limit, crew_limit, size_limit, edition_limit}
use Rattle.roster.specs.Refusals.{number_of, refused_if, outside, policy_ruling, own_ruling}
use Rattle.roster.proofs.Laws.Rulings.{policy_within}
use Rattle.roster.specs.declared.Policy.{Policy}
use Rattle.roster.specs.declared.Refusal.TheVariants.{Task, Away, Crews, Size, Edition}
use Rattle.values.specs.Promises.{Wide, ByteNumber}
use Rattle.roster.specs.declared.Refusal.{Refusal}

-- what may be ruled of a policy whose P is zero or not
abbrev pub MayRule : Bool → Result Unit Refusal → Type 0
MayRule zeroTask (Ok tt) = zeroTask ≡ false
MayRule true (Err refusal) = refusal ≡ Task
MayRule false (Err refusal) = ByteNumber (number_of refusal)

pub own_ruling_lem : (p : Policy) → MayRule (eqb p.task 0) (own_ruling p)
unfolding policy_ruling
own_ruling_lem p =
    go (eqb p.task 0) (ltb away_limit p.away) (outside crew_limit p.crews) (outside size_limit p.size) (outside edition_limit p.edition)
  where
    go : (a b c f g : Bool) → MayRule a (refused_if a Task (refused_if b Away (refused_if c Crews (refused_if f Size (refused_if g Edition (Ok tt))))))
    go true b c f g = refl
    go false true c f g = inl (omega arith, omega arith)
    go false false true f g = inl (omega arith, omega arith)
    go false false false true g = inl (omega arith, omega arith)
    go false false false false true = inr refl
    go false false false false false = refl

-- a number past its byte is never admitted
pub wide_not_admitted : (p : Policy) → Wide p → own_ruling p ≡ Ok tt → ⊥
wide_not_admitted p w e = go w
  where
    go : Wide p → ⊥
    go (inl s) = omega (arith, (policy_within _ _ _ _ _ _ e).away)
    go (inr (inl d)) = omega (arith, (policy_within _ _ _ _ _ _ e).few)
    go (inr (inr (inl t))) = omega (arith, (policy_within _ _ _ _ _ _ e).small)
    go (inr (inr (inr ed))) = omega (arith, (policy_within _ _ _ _ _ _ e).edition.1)
