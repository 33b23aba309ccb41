use Rattle.std.proofs.Common.{rules, arith}
use Rattle.xv_dirty.proofs.Words.{word_in, writes, write_clear}
use Rattle.xv_dirty.proofs.level.Level.remove.Goals as goal

pub index-requires : goal.index-requires
index-requires c = omega (arith, word_in _ _ _ _ c.self.invariant c.self.view_is c.requires, c.self.inside.words.ok.0)

pub index_mut-requires : goal.index_mut-requires
index_mut-requires c = omega (arith, word_in _ _ _ _ c.self.invariant c.self.view_is c.requires, c.self.inside.words.ok.0)

pub invariant_of-self : goal.invariant_of-self
invariant_of-self c =
    (writes _ _ _ _ _ _ _ c.self.invariant c.self.view_is c.requires c.index.ensures c.without_bit-word.ensures.gone (λ k b other. c.without_bit-word.ensures.others k b other) (search rules)).keeps

pub returns : goal.returns
returns c =
    let w = writes _ _ _ _ _ _ _ c.self.invariant c.self.view_is c.requires c.index.ensures c.without_bit-word.ensures.gone (λ k b other. c.without_bit-word.ensures.others k b other) (search rules) in
    record { gone = w.bits; clear = write_clear _ _ _ _ (word_in _ _ _ _ c.self.invariant c.self.view_is c.requires) w.keeps }
