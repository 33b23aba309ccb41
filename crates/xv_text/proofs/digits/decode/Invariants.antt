use Rattle.std.proofs.Common.{◌≡◌, ◌*◌, true, take}
use Rattle.std.specs.List.{list_all}
use Rattle.xv_text.specs.Fields.{is_hex_digit, hex_bytes}
use Rattle.xv_text.proofs.digits.decode.Given as goal

abbrev pub invariant-loop-i : goal.invariant-loop-i
invariant-loop-i l = record {
  digits : list_all is_hex_digit (take (2 * l.i) l.digits) ≡ true;
  bytes : take l.i l.into ≡ hex_bytes (take (2 * l.i) l.digits);
}
