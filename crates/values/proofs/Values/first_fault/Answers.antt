-- The first section with a fault has the first fault. Assumes nothing.
use mathlib.Core.Path.{◌≡◌, sym, ap, ◌∙◌}
use mathlib.Core.List.{◌++◌}
use Rattle.std.specs.Prelude.{Ok}
use Rattle.book.specs.declared.Section.TheVariants.{Permissions, Rows, Policies}
use Rattle.book.proofs.Looks.{passed_up}
use Rattle.values.specs.Values.{contents_for}
use Rattle.values.specs.Writing.{first_of, fault_in}
use Rattle.values.specs.Inner.Looks.{section_looks, first_look, told}
use Rattle.values.specs.declared.Values.{Values}
use Rattle.values.proofs.Looks.{append_by, told_faulty, told_sound, fault_by_sections}
use Rattle.values.proofs.Values.first_fault.Goals as goal

-- past the codes the rest decides
past-codes : (v : Values) → first_look (section_looks v Permissions) ≡ Ok tt → fault_in (contents_for v) ≡ first_of (section_looks v Rows ++ section_looks v Policies)
past-codes v e = fault_by_sections v ∙ append_by (section_looks v Permissions) _ (told_sound _ e)

pub returns-in_err-look_section : goal.returns-in_err-look_section
returns-in_err-look_section c = let v = c.args.self.now in
    let here = told_faulty _ (sym c.look_section.ensures ∙ c.in_err-look_section.was) in
    passed_up _ c.from_residual.ensures.1
    ∙ sym (ap told (fault_by_sections v ∙ append_by (section_looks v Permissions) _ here))

pub returns-in_err-look_section-2 : goal.returns-in_err-look_section-2
returns-in_err-look_section-2 c = let v = c.args.self.now in
    let here = told_faulty _ (sym c.look_section-2.ensures ∙ c.in_err-look_section-2.was) in
    passed_up _ c.from_residual-in_err-look_section-2.ensures.1
    ∙ sym (ap told (past-codes v (sym c.look_section.ensures ∙ c.in_ok-look_section.was) ∙ append_by (section_looks v Rows) _ here))

pub returns : goal.returns
returns c = let v = c.args.self.now in
    let none_here = told_sound _ (sym c.look_section-2.ensures ∙ c.in_ok-look_section-2.was) in
    c.look_section-3.ensures ∙ sym (ap told (past-codes v (sym c.look_section.ensures ∙ c.in_ok-look_section.was) ∙ append_by (section_looks v Rows) _ none_here))
