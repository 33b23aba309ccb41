-- A source's half of which nothing is copied, as the tests have one.
use Rattle.std.specs.Prelude.{◌≡◌, ℕ, length, replicate}
use Rattle.xv_base.specs.Units.{Shape, units}
use Rattle.xv_source.specs.Half.{Source}

-- each disk of the layout has its copy, and no version was made
pub record IsUncopied (s : Shape) (h : Source) : Type 0 where
  pub shape : h.shape ≡ s
  pub disks : length h.disks ≡ length s.disks
  pub issued : h.issued ≡ replicate (units s) 0
