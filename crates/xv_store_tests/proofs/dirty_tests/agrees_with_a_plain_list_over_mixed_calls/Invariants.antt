use Rattle.std.proofs.Common.{◌≡◌, length, vec_len}
use Rattle.xv_store_tests.proofs.dirty_tests.agrees_with_a_plain_list_over_mixed_calls.Given as goal

abbrev pub invariant-loop-step : goal.invariant-loop-step
invariant-loop-step g l = record { set : length l.set ≡ 4200; plain : vec_len l.plain ≡ 4200 }
