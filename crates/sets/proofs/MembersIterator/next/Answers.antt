-- What is left begins with its least member. Assumes nothing.
use Rattle.std.proofs.Common.{◌≡◌, ◌≢◌, ℕ, ◌^◌, ◌<◌, ◌%◌, ◌*◌, ◌∷◌, ap, length, arith}
use Rattle.std.specs.Int.Count.{count_trailing_zeros}
use Rattle.std.specs.Int.Bits.{bit_xor}
use Rattle.sets.specs.Members.{members}
use Rattle.sets.specs.Sets.{trailing_least, shl_one}
use Rattle.sets.proofs.Laws.Members.{members-least, members-empty}
use Rattle.sets.proofs.MembersIterator.next.Goals as goal

-- the least comes first, and the others after it
taken : (m : ℕ) → m < 2 ^ 64 → m ≢ 0 → members 0 64 m ≡ count_trailing_zeros 64 m ∷ members 0 64 (bit_xor m ((1 * 2 ^ count_trailing_zeros 64 m) % 2 ^ 64))
taken m h n = rw (shl_one 64 (count_trailing_zeros 64 m) (trailing_least 64 m h (omega arith)).below) (members-least 64 m h n)

pub returns-then-self-eq0-clause-steps : goal.returns-then-self-eq0-clause-steps
returns-then-self-eq0-clause-steps c = rw c.if-self-eq0.true (members-empty 64, members-empty 64)

pub returns-clause-steps : goal.returns-clause-steps
returns-clause-steps c = taken c.args.self.now.left (omega arith) c.if-self-eq0.false

pub returns-clause-goes : goal.returns-clause-goes
returns-clause-goes c =
    let e = ap length (taken c.args.self.now.left (omega arith) c.if-self-eq0.false) in
    record { on = λ _. (tt, tt, omega arith); keeps = tt; rests = λ _. tt }
