-- Nobody absent first, at what an absence costs; if that does not block, the sizes from 1 on at what it took. Assumes nothing.
use mathlib.Core.Path.{◌∙◌}
use Rattle.absences.proofs.Replied.{within_first, all_open, all_stopped}
use Rattle.absences.proofs.Search.reply.Goals as goal

pub returns-in_default : goal.returns-in_default
returns-in_default c of = let s = c.args.self.now in
    c.reply_of.ensures
    ∙ all_stopped of.way of.table of.edition s c.args.most _ (c.fill-first.ensures of) c.walked_by-tried.result c.walked_by-tried.ensures _ c.in_default.is

pub by_size-requires : goal.by_size-requires
by_size-requires c = let p = c.requires.0 in
    let s = c.args.self.now in
    (p, c.requires.1, within_first p.way p.table p.edition s c.args.most _ (c.fill-first.ensures p) c.walked_by-tried.result c.walked_by-tried.ensures _ c.in-Ok.is)

pub returns : goal.returns
returns c of = let s = c.args.self.now in
    c.reply_of-2.ensures
    ∙ all_open of.way of.table of.edition s c.args.most _ (c.fill-first.ensures of) c.walked_by-tried.result c.walked_by-tried.ensures c.by_size.result _ c.in-Ok.is
    (c.by_size.ensures of)
