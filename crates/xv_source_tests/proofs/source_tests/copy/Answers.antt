use Rattle.std.proofs.Common.{arith}
use Rattle.xv_source_tests.proofs.Stays.{read-stays, advance-keeps-disks, stays-uncopied, few-none}
use Rattle.xv_source_tests.proofs.source_tests.copy.Goals as goal

pub advance-requires-clause-disk_in : goal.advance-requires-clause-disk_in
advance-requires-clause-disk_in c =
    let stays = read-stays 0 c.read-read.result c.args.half.now c.read-read.new.self c.read-read.ensures.step in
    omega (arith, stays.disks, c.requires.new.disks)

pub advance-requires-clause-few : goal.advance-requires-clause-few
advance-requires-clause-few c =
    let half = c.args.half.now in
    let read = c.read-read.new.self in
    few-none read 3 (stays-uncopied _ half read c.requires.new (read-stays 0 c.read-read.result half read c.read-read.ensures.step)).issued

pub returns : goal.returns
returns c =
    let half = c.args.half.now in
    let read = c.read-read.new.self in
    let stays = read-stays 0 c.read-read.result half read c.read-read.ensures.step in
    let same = advance-keeps-disks 0 7 c.advance.result read c.advance.new.self c.advance.ensures.step in
    omega (arith, same, stays.disks, c.requires.new.disks)
