use Rattle.std.proofs.Common.{rules}
use Rattle.xv_dirty.proofs.Words.{whole_set, whole_kept, cut_set, cut_kept}
use Rattle.xv_dirty.proofs.level.clear_past.Goals as goal

pub returns-then-len-eq0 : goal.returns-then-len-eq0
returns-then-len-eq0 c = rw c.requires (record {
  bits = whole_kept c.args.len c.if-len-eq0.true (search rules);
  all = whole_set c.args.len c.if-len-eq0.true;
})

pub returns : goal.returns
returns c = rw c.requires (record {
  bits = cut_kept c.args.len c.low_bits.result c.if-len-eq0.false (search rules) (search rules) c.low_bits.ensures.there c.low_bits.ensures.none_past;
  all = cut_set c.args.len c.low_bits.result c.if-len-eq0.false (search rules) (search rules) c.low_bits.ensures.there c.low_bits.ensures.none_past;
})
