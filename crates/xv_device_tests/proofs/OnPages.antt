-- An operation that a test carries out on the second of two pages is legal.
use Rattle.std.specs.Prelude.{◌≡◌, ◌≤◌, ℕ, List, [], Option}
use Rattle.xv_base.specs.Units.{Shape, shape_of}
use Rattle.xv_base.specs.Legal.{IsLegal}
use Rattle.xv_device.proofs.OnPages.{on_second_page}

pub on_page : (s : Shape) (offset : ℕ) (write : Option (List ℕ)) → s ≡ shape_of 2 16 [] → offset ≤ 13
    → IsLegal s (record { unit = record { 0 = 1 }; offset = offset; len = 3; write = write })
on_page = on_second_page
