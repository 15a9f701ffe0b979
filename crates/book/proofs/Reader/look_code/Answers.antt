-- Each test is the fault that it looks for, in their order. Assumes nothing.
use mathlib.Core.Path.{refl, sym, ap}
use mathlib.Core.List.{[]}
use lib.ListN.{length}
use Rattle.book.specs.Layout.{code_widths}
use Rattle.book.specs.Reading.{placed, entry_look, fields_at}
use Rattle.book.specs.declared.Fault.TheVariants.{Short, Code}
use Rattle.book.specs.Laws.First.{amiss_here, past_amiss, faulty_at, past_fault}
use Rattle.book.proofs.Fields.{was_cut, cut-first}
use Rattle.book.proofs.Reader.look_code.Goals as goal

pub returns-then-cut : goal.returns-then-cut
unfolding entry_look
returns-then-cut c = let a = c.args in
    let short = was_cut (length a.self.bytes.now) a.cursor.at 2 c.cut.ensures c.if-cut.true in
    faulty_at Short _ c.cut.ensures c.if-cut.true (sym (cut-first 2 [] (length a.self.bytes.now) a.cursor.at short))

pub returns-then-stays : goal.returns-then-stays
unfolding entry_look fields_at
returns-then-stays c = past_fault Short _ c.cut.ensures c.if-cut.false
    (ap (placed code_widths c.args.cursor.at) (amiss_here Code 0 _ c.stays.ensures c.if-stays.true))

pub returns : goal.returns
unfolding entry_look fields_at
returns c = past_fault Short _ c.cut.ensures c.if-cut.false
    (ap (placed code_widths c.args.cursor.at) (past_amiss Code 0 c.stays.ensures c.if-stays.false refl))
