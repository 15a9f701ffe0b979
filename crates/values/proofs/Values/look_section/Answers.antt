-- A faulty count ends it; a sound one has its entries after it, and no more than there is room for. Assumes nothing.
use mathlib.Core.Path.{◌≡◌, sym, ap, ◌∙◌}
use Rattle.std.specs.Prelude.{Ok}
use Rattle.book.specs.Inner.Steps.{count_amiss_in}
use Rattle.values.specs.Inner.Looks.{count_of, entry_looks, told}
use Rattle.values.proofs.Looks.{first_faulty, first_sound, count_told}
use Rattle.values.proofs.Values.look_section.Goals as goal
use Rattle.values.proofs.Values.look_section.Goals.{In_default}

-- nothing is amiss with a count of which this is told
sound : (c : In_default) → let a = c.args in count_amiss_in a.section (count_of a.self.now a.section) ≡ Ok tt
sound c = count_told c.args.section _ c.count_amiss.ensures c.count_of-count.ensures c.in_default.is

pub returns-in-Err : goal.returns-in-Err
returns-in-Err c = let a = c.args in
    sym (ap told (first_faulty (entry_looks a.self.now a.section)
    (count_told a.section _ c.count_amiss.ensures c.count_of-count.ensures c.in-Err.is)))

pub returns : goal.returns
returns c = let a = c.args in
    c.look_values.ensures ∙ sym (ap told (first_sound (entry_looks a.self.now a.section) (sound (goal.at.returns c).In_default)))
