use Rattle.std.specs.Prelude.{ℕ, ◌+◌}
use Rattle.std.proofs.Common.{ap, ap₂}
use Rattle.xv_source.specs.Half.{Source}
use Rattle.xv_source.proofs.OneDisk.{unit-at}
use Rattle.xv_source.proofs.Reading.{next-in}
use Rattle.xv_source.proofs.source.SourceHalf.next_block.Goals as goal

pub returns-clause-in_range : goal.returns-clause-in_range
returns-clause-in_range g c =
    (next-in c.args.self.now c.args.disk c.unit_of_block.result.0 c.copy-copy.result.now c.requires.goes_on c.copy-copy.ensures.numbers c.copy-copy.ensures.kept c.copy-copy.ensures.disk_in
    (unit-at c.self.inside.layout c.args.self.now.shape c.args.disk _ _ _ c.unit_of_block.ensures.exactly (ap (λ (h : Source). h.shape) c.self.view_is) (ap₂ (λ (m n : ℕ). m + n) c.cursor.ensures.exactly c.read.ensures.exactly))).0

pub returns-clause-size : goal.returns-clause-size
returns-clause-size g c =
    (next-in c.args.self.now c.args.disk c.unit_of_block.result.0 c.copy-copy.result.now c.requires.goes_on c.copy-copy.ensures.numbers c.copy-copy.ensures.kept c.copy-copy.ensures.disk_in
    (unit-at c.self.inside.layout c.args.self.now.shape c.args.disk _ _ _ c.unit_of_block.ensures.exactly (ap (λ (h : Source). h.shape) c.self.view_is) (ap₂ (λ (m n : ℕ). m + n) c.cursor.ensures.exactly c.read.ensures.exactly))).1
