use Rattle.std.proofs.Common.{arith}
use Rattle.xv_dirty.proofs.Words.{some_bit, there_is_word, word_read, found_in}
use Rattle.xv_dirty.proofs.level.Level.first_of.Goals as goal

pub index-requires : goal.index-requires
index-requires c = omega (arith, there_is_word c.self.inside.words.items c.args.word (some_bit _ _ _ _ c.self.invariant c.self.view_is c.requires), c.self.inside.words.ok.0)

pub lowest_bit-bit-requires : goal.lowest_bit-bit-requires
lowest_bit-bit-requires c =
    omega (arith, some_bit _ _ _ _ c.self.invariant c.self.view_is c.requires, word_read _ _ _ _ _ c.self.invariant c.self.view_is c.requires c.index.ensures)

pub overflow_mul-result : goal.overflow_mul-result
overflow_mul-result c = omega (arith, (found_in _ _ _ _ _ _ c.self.invariant c.self.view_is c.requires c.index.ensures c.lowest_bit-bit.ensures.within c.lowest_bit-bit.ensures.there c.lowest_bit-bit.ensures.first).small)

pub overflow_add-result : goal.overflow_add-result
overflow_add-result c = omega (arith, (found_in _ _ _ _ _ _ c.self.invariant c.self.view_is c.requires c.index.ensures c.lowest_bit-bit.ensures.within c.lowest_bit-bit.ensures.there c.lowest_bit-bit.ensures.first).small)

pub returns : goal.returns
returns c =
    let f = found_in _ _ _ _ _ _ c.self.invariant c.self.view_is c.requires c.index.ensures c.lowest_bit-bit.ensures.within c.lowest_bit-bit.ensures.there c.lowest_bit-bit.ensures.first in
    record { first = f.first; within = f.within }
