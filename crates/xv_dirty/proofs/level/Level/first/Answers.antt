use Rattle.std.proofs.Common.{◌<◌, ◌≤◌, length, ◌∙◌, arith}
use Rattle.std.proofs.lemmas.List.{get_or_read}
use Rattle.xv_dirty.proofs.Words.{not_clear, least_of, none_of}
use Rattle.xv_dirty.proofs.level.Level.first.Goals as goal

pub first_of-requires : goal.first_of-requires
first_of-requires c =
    let there : c.loop-word.word < length c.self.inside.words.items = omega (arith, c.self.inside.words.ok.0, c.len-word-end.ensures) in
    let read = get_or_read _ _ _ there c.index.ensures 0 in
    not_clear _ _ _ _ c.self.invariant c.self.view_is (λ none. c.if-index-ne0.true (read ∙ none))

pub returns-then-index-ne0 : goal.returns-then-index-ne0
returns-then-index-ne0 c = least_of _ _ _ _ _ c.self.invariant c.self.view_is c.loop-word.invariant c.first_of.ensures.first

pub returns : goal.returns
returns c =
    let all : length c.self.inside.words.items ≤ c.loop-word.word = omega (arith, c.self.inside.words.ok.0, c.len-word-end.ensures) in
    none_of _ _ _ _ c.self.invariant c.self.view_is all c.loop-word.invariant
