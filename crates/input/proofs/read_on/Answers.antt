-- The read is handed what lies behind the bytes that are there, and its answer is within that. Assumes nothing.
use Rattle.std.proofs.Common.{◌≡◌, refl, sym, subst, inl, inr, Bool, true, false, ℕ, zero, suc, ◌+◌, ◌-◌, ◌≤◌, ◌<◌, Result, Ok, Err, ltb, length, rules, arith}
use borrow.Author.Tests.{ltb-true, ltb-false}
use borrow.Rule.Slice.PartMut.{take_put}
use Rattle.input.specs.Input.{grown_by, after_read, Moved, Onward}
use Rattle.input.specs.declared.Progress.TheVariants.{Whole, More}
use Rattle.input.proofs.read_on.Goals as goal

-- what a read's answer says goes on from where the input stood
by_room : (E : Type 0) (room have there : ℕ) → have < there → there ≤ room → (b : Bool) → ltb there room ≡ b
    → Onward {E = E} room have (Ok (elim b [ true ↦ More there | false ↦ Whole there ]))
by_room E room have there more fits true e = (more, ltb-true there room e)
by_room E room have there more fits false e = inr (omega (arith, ltb-false there room e))

goes_on : {E : Type 0} (room have : ℕ) (got : Result ℕ E) → have ≤ room → Moved (room - have) got → Onward room have (after_read room have got)
unfolding after_read grown_by
goes_on {E} room have (Ok zero) h m = inl refl
goes_on {E} room have (Ok (suc k)) h m = by_room E room have (have + suc k) (omega arith) (omega arith) (ltb (have + suc k) room) refl
goes_on {E} room have (Err e) h m = tt

pub returns : goal.returns
returns g c =
    let have = c.args.have in
    let room = length c.args.buffer.now in
    record {
      kept = take_put have (room - have) c.args.buffer.now c.read-got.new.buf (omega (arith, c.requires));
      long = search rules;
      onward = subst (Onward room have) (sym c.after_read.ensures) (goes_on room have c.read-got.result c.requires (search rules));
    }
