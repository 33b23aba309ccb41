use Rattle.std.proofs.Common.{rules, arith, ◌≡◌, cond, replicate}
use Rattle.std.specs.Int.{div_ceil}
use Rattle.xv_dirty.proofs.Kept.{whole_summed}
use Rattle.xv_dirty.proofs.set.DirtySet.of.Goals as goal

pub invariant_of-result : goal.invariant_of-result
invariant_of-result c =
    let pages : c.in-Ok.page_level ≡ replicate c.args.pages c.args.all = search rules in
    let words : c.in-Ok-of.word_level ≡ replicate (div_ceil c.args.pages 64) c.args.all = search rules in
    let groups : c.in-Ok-of-2.group_level ≡ replicate (div_ceil (div_ceil c.args.pages 64) 64) c.args.all = search rules in
    let count : c.if-all.result ≡ cond c.args.all c.args.pages 0 = grind arith in
    rw (pages, words, groups, count) (whole_summed c.args.pages c.args.all (search rules))
