use Rattle.std.proofs.Common.{◌≡◌, ◌++◌, take}
use Rattle.std.specs.Prelude.{vec_capacity}
use Rattle.xv_core.proofs.ending.with_bytes.Given as goal

-- the first of the bytes are appended, in the memory that was there
abbrev pub invariant-loop-byte : goal.invariant-loop-byte
invariant-loop-byte l = record {
  so_far : l.reads.items ≡ l.initial.reads.items ++ take l.byte-index l.bytes;
  reserved : vec_capacity l.reads ≡ vec_capacity l.initial.reads;
}
