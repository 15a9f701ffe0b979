-- Every named-absence question has a reply: `named_reply_of` is allowed, whatever the table and the numbers. With
-- `named_same` it is the only one. Assumes nothing.
use Rattle.std.specs.Prelude.{◌≡◌, true, false, ℕ, ◌^◌, ◌≤◌, ◌<◌}
use Rattle.std.proofs.Common.{ap, ◌∙◌, le-leb}
use Rattle.std.proofs.lemmas.Bool.{lt-leb}
use Rattle.roster.specs.declared.Table.{Table}
use Rattle.roster.specs.declared.Verdict.TheVariants.{Undecided, Crews, None}
use Rattle.roster.specs.declared.Reply.{Reply}
use Rattle.roster.specs.Replies.{reply_with}
use Rattle.crews.specs.Filling.{Outcome, filling}
use Rattle.crews.specs.Named.{NamedReply, verdict_by, reply_by, named_reply_of}
use Rattle.crews.proofs.Laws.Named.{allowed_by, named_same}

over : (allowance : ℕ) (o : Outcome) → allowance < o.need → verdict_by allowance o ≡ Undecided
over allowance o l = rw (lt-leb o.need allowance l, verdict_by)

complete : (allowance : ℕ) (o : Outcome) → o.need ≤ allowance → o.found ≡ true → verdict_by allowance o ≡ Crews
complete allowance o l f = rw (le-leb o.need allowance l, f, verdict_by)

exhausted : (allowance : ℕ) (o : Outcome) → o.need ≤ allowance → o.found ≡ false → verdict_by allowance o ≡ None
exhausted allowance o l f = rw (le-leb o.need allowance l, f, verdict_by)

module _ (table : Table) (P d t ed A allowance : ℕ) (wide : P < 2 ^ 32) where
  pub named_allowed : NamedReply table P d t ed A allowance (named_reply_of table P d t ed A allowance)
  named_allowed =
      let o = filling table P d t ed A in
      allowed_by table P d t ed A allowance wide (named_reply_of table P d t ed A allowance)
      (λ refusal e. ap (reply_by allowance o) e)
      (λ e l. ap (reply_by allowance o) e ∙ ap (reply_with o.crews 0 o.need allowance) (over allowance o l))
      (λ e l f. ap (reply_by allowance o) e ∙ ap (reply_with o.crews 0 o.need allowance) (complete allowance o l f))
      (λ e l f. ap (reply_by allowance o) e ∙ ap (reply_with o.crews 0 o.need allowance) (exhausted allowance o l f))

  -- a reply that is allowed is this one
  pub named_is : (r : Reply) → NamedReply table P d t ed A allowance r → r ≡ named_reply_of table P d t ed A allowance
  named_is r a = named_same table P d t ed A allowance wide r (named_reply_of table P d t ed A allowance) a named_allowed
