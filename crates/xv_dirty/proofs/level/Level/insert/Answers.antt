use Rattle.std.proofs.Common.{rules, arith}
use Rattle.xv_dirty.proofs.Words.{word_in, writes}
use Rattle.xv_dirty.proofs.level.Level.insert.Goals as goal

pub index-requires : goal.index-requires
index-requires c = omega (arith, word_in _ _ _ _ c.self.invariant c.self.view_is c.requires, c.self.inside.words.ok.0)

pub index_mut-requires : goal.index_mut-requires
index_mut-requires c = omega (arith, word_in _ _ _ _ c.self.invariant c.self.view_is c.requires, c.self.inside.words.ok.0)

pub invariant_of-self : goal.invariant_of-self
invariant_of-self c =
    (writes _ _ _ _ _ _ _ c.self.invariant c.self.view_is c.requires c.index.ensures c.with_bit.ensures.there (λ k _ other. c.with_bit.ensures.others k other) (search rules)).keeps

pub returns : goal.returns
returns c =
    (writes _ _ _ _ _ _ _ c.self.invariant c.self.view_is c.requires c.index.ensures c.with_bit.ensures.there (λ k _ other. c.with_bit.ensures.others k other) (search rules)).bits
