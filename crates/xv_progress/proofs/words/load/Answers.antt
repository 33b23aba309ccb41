use Rattle.std.proofs.Common.{◌<◌, arith}
use Rattle.xv_progress.proofs.Kept.{loads}
use Rattle.xv_progress.proofs.words.load.Goals as goal

pub load-requires : goal.load-requires
load-requires c =
    let word_in : c.args.word < c.args.words.now.shared.table_id.words = omega arith in
    (c.requires.own.0, word_in, rw c.requires.reading.2 (loads _ _ _ _ c.requires.reading.0 c.requires.word_in c.requires.reading.1))
