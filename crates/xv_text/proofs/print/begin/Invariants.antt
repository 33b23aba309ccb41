use Rattle.std.proofs.Common.{◌≡◌, ◌≤◌, ◌+◌, ◌*◌, ◌++◌, length, take, map, decimal}
use Rattle.xv_text.specs.Print.{spaced}
use Rattle.xv_text.proofs.print.begin.Given as goal

abbrev pub invariant-loop-n : goal.invariant-loop-n
invariant-loop-n l = record {
  written : l.line ≡ l.word ++ spaced (map decimal (take l.n-index l.numbers));
  short : length l.line ≤ 16 + 11 * l.n-index;
}
