use Rattle.std.proofs.Common.{◌<◌, arith}
use Rattle.xv_progress.proofs.Kept.{raises}
use Rattle.xv_progress.proofs.words.raise.Goals as goal

pub fetch_max-requires : goal.fetch_max-requires
fetch_max-requires c =
    let word_in : c.args.word < c.args.words.now.shared.table_id.words = omega arith in
    (c.requires.own.0, word_in, rw c.requires.writing.2 (raises _ _ _ _ _ c.requires.writing.0 c.requires.word_in c.requires.writing.1 c.requires.rises c.requires.fits))
