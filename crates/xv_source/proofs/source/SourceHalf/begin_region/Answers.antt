use Rattle.std.specs.Prelude.{ℕ, List, []}
use Rattle.std.proofs.Common.{refl, ap}
use Rattle.xv_region.specs.Copying.{Copying}
use Rattle.xv_model.specs.View.{Disk}
use Rattle.xv_source.specs.Kept.{numbers_of}
use Rattle.xv_source.proofs.OneDisk.{changed}
use Rattle.xv_source.proofs.source.SourceHalf.begin_region.Goals as goal

pub returns-clause-begun : goal.returns-clause-begun
returns-clause-begun g c =
    changed (λ (k : Disk). record k { region = c.begin.result; got = 0 }) (λ (bs : List (List ℕ)). []) _ _ c.self.inside.disks.items c.args.disk c.index_mut-copy.result.now _
    c.self.view_is refl refl c.requires.disk_in c.index_mut-copy.ensures.value
    (ap (λ (r : Copying). numbers_of (record { region = r; queue = c.index_mut-copy.result.now.queue })) c.begin.ensures.begun)
    (ap (λ (r : Copying). r.read) c.begin.ensures.begun)
