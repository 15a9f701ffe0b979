-- What is replied is the one reply that is allowed (`policy_asked_same`), and it has eight crews. Assumes nothing.
use mathlib.Core.Path.{◌≡◌, ap}
use Prim.Native.Nat.{ℕ, ◌^◌, ◌<◌}
use Rattle.roster.specs.declared.Reply.{Reply}
use Rattle.accounts.specs.declared.Accounts.{Accounts}
use Rattle.questions.specs.Asked.{PolicyAsked}
use Rattle.questions.specs.Replied.{policy_answer_of}
use Rattle.questions.specs.Laws.Replies.{policy_answered, policy_asked_same}
use Rattle.lines.specs.Lines.{line_of}
use Rattle.lines.specs.Sheet.{allowance, way, answer_to}
use Rattle.text.specs.Laws.Appends.{read_as}
use borrow.Author.Rules.{rules}
use Rattle.lines.proofs.asked.Goals as goal
use Rattle.lines.proofs.asked.Goals.{Start}

module _ (a : Accounts) (P s d t ed : ℕ) (wide : P < 2 ^ 32) (r : Reply) (may : PolicyAsked way a P s d t ed allowance r) where
  -- no other reply is allowed
  only : r ≡ policy_answer_of way a P s d t ed allowance
  only = policy_asked_same way a P s d t ed allowance wide r (policy_answer_of way a P s d t ed allowance) may (policy_answered way a P s d t ed allowance wide)

-- P is a `u32`
wide : (c : Start) → c.args.policy.task < 2 ^ 32
wide c = search rules

pub returns : goal.returns
returns c =
    let a = c.args in
    -- the reply and the line
    let answered : line_of a.numbers.now a.index c.reply_of-reply.result ≡ line_of a.numbers.now a.index (answer_to a.accounts a.policy) =
    ap (line_of a.numbers.now a.index)
    (only a.accounts a.policy.task a.policy.away a.policy.crews a.policy.size a.policy.edition (wide (goal.at.returns c).Start) c.reply_of-reply.result c.reply_of-reply.ensures) in
    read_as answered c.line.ensures
