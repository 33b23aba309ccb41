use Rattle.std.proofs.Common.{◌∙◌, arith}
use Rattle.xv_dirty.proofs.Words.{word_in, reads}
use Rattle.xv_dirty.proofs.level.Level.has.Goals as goal

pub index-requires : goal.index-requires
index-requires c = omega (arith, word_in _ _ _ _ c.self.invariant c.self.view_is c.requires, c.self.inside.words.ok.0)

pub returns : goal.returns
returns c = c.has_bit.ensures ∙ reads _ _ _ _ _ c.self.invariant c.self.view_is c.requires c.index.ensures
