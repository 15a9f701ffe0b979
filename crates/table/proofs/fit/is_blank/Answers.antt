-- `all` recurses over the line as the definition does. Assumes nothing.
use Rattle.std.proofs.Common.{◌&&◌, eqb, refl, ◌∙◌, rules, tests}
use Rattle.std.specs.List.{list_all}
use Rattle.std.proofs.lemmas.Iterator.{YieldsList-from_slice}
use Rattle.std.proofs.lemmas.Iterator.Search.{all_from_yields_List}
use Rattle.std.proofs.lemmas.List.Recursion.{same_from_clauses}
use Rattle.text.specs.Text.{comma}
use Rattle.table.specs.Understood.{blank}
use Rattle.table.proofs.fit.is_blank.Goals as goal

pub returns : goal.returns
unfolding blank
returns c =
    let line = c.args.line.now in
    let e = all_from_yields_List (λ x. eqb x comma) _ _ _ c.all.ensures.ran (YieldsList-from_slice line cc) (λ x b q k. search (rules, tests)) in
    e ∙ same_from_clauses (list_all (λ x. eqb x comma)) blank (λ x b. eqb x comma && b) refl (λ x l. refl) (λ x l. refl) line
