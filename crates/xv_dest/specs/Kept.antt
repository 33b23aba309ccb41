-- The fields of the half as what is seen of it, and what it keeps of them.
use Rattle.std.specs.Prelude.{◌≡◌, ℕ, List, length}
use Rattle.xv_base.specs.Units.{Shape, max_size}
use Rattle.xv_base.specs.Layout.{IsGood}
use Rattle.xv_device.specs.Told.{Told}
use Rattle.xv_hold.specs.Messages.{Hold, heads, contents}
use Rattle.xv_dest.specs.Half.{Dest}

abbrev pub dest_of : Shape → Told → ℕ → Hold → ℕ → Dest
dest_of s told faults hold freed = record {
  shape = s;
  limit = hold.limit;
  held = heads hold.messages;
  contents = contents hold.messages;
  applied = hold.applied;
  recorded = hold.recorded;
  freed = freed;
  told = told;
  faults = faults;
}

pub record IsKept (s : Shape) (told : Told) (hold : Hold) (unit : List ℕ) : Type 0 where
  pub good : IsGood s
  pub layout : told.shape ≡ s
  pub hold_of : hold.shape ≡ s
  pub unit_room : length unit ≡ max_size s
