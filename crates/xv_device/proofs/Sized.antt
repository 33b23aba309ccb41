-- A device in memory has a content and a number of writes for each unit.
use Rattle.std.proofs.Common.{ℕ, List, length, ap, ◌∙◌}
use Rattle.xv_base.specs.Units.{Shape}
use Rattle.xv_base.specs.Calls.{Planned}
use Rattle.xv_device.specs.Told.{IsSized}
use Rattle.xv_device.specs.Pieces.{pieces}
use Rattle.xv_device.specs.Memory.{IsWhole, told}
use Rattle.xv_device.proofs.Pieces.{length-pieces, content-pieces, length-piece}

pub whole-sized : (s : Shape) (b w : List ℕ) → IsWhole s b w → (r p f : Planned)
    → IsSized (told (record { shape = s; contents = pieces s b; writes = w; reading = r; writing = p; flushing = f }))
whole-sized s b w h r p f = record {
  writes_each = h.counted_each;
  contents_each = length-pieces s b;
  full = λ u l. ap length (content-pieces s b u l) ∙ length-piece s h.good b u h.all_there l;
}
