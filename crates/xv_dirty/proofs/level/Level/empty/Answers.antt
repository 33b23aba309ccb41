use Rattle.std.proofs.Common.{◌≡◌, rules}
use Rattle.std.specs.Int.{div_ceil}
use Rattle.xv_dirty.proofs.Words.{zeros, none_set}
use Rattle.xv_dirty.proofs.level.Level.empty.Goals as goal

pub returns : goal.returns
returns c =
    let words : c.in-Ok.words.items ≡ zeros (div_ceil c.args.len 64) = search rules in
    rw words (none_set (div_ceil c.args.len 64) c.args.len)
