-- The fields of the half as what is seen of it, and what it keeps of them.
use Rattle.std.specs.Prelude.{◌≡◌, ◌≤◌, ◌<◌, ℕ, ◌+◌, Bool, List, [], length, map, get_or}
use Rattle.xv_base.specs.Units.{Shape, units, blocks, block_size, max_size}
use Rattle.xv_base.specs.Layout.{IsGood}
use Rattle.xv_base.specs.declared.limits.Config.{Config}
use Rattle.xv_base.specs.declared.operation.Waiting.{Waiting}
use Rattle.xv_credit.specs.Counts.{Count}
use Rattle.xv_device.specs.Told.{Told}
use Rattle.xv_frame.specs.Frame.{Each}
use Rattle.xv_model.specs.View.{Disk}
use Rattle.xv_outbox.specs.Messages.{Outbox, heads, contents}
use Rattle.xv_region.specs.Copying.{fresh}
use Rattle.xv_source.specs.declared.disk.DiskCopy.{DiskCopy}
use Rattle.xv_source.specs.Half.{Source}
use Rattle.xv_source.specs.Limits.{AreLimits}

-- the copy of a disk in numbers
abbrev pub numbers_of : DiskCopy → Disk
numbers_of d = record { cursor = d.region.cursor; region = d.region.region; got = length d.region.read; queue = d.queue }

abbrev pub source_of : Shape → Config → Told → ℕ → List DiskCopy → List Bool → List Bool → ℕ → Outbox → Count → Source
source_of s config told faults disks dirty to_send rounds outbox credit = record {
  shape = s;
  config = config;
  disks = map numbers_of disks;
  regions = map (λ d. d.region.read) disks;
  dirty = dirty;
  to_send = to_send;
  rounds = rounds;
  messages = heads outbox.messages;
  contents = contents outbox.messages;
  issued = outbox.issued;
  credit = credit.left;
  told = told;
  faults = faults;
}

-- what stands for a disk that is not there
abbrev pub no_copy : DiskCopy
no_copy = record { region = fresh 0 0; queue = [] }

-- who waits in a queue waits to write a block
pub record IsQueued (s : Shape) (w : Waiting) : Type 0 where
  pub no_page : s.pages ≤ w.unit.0
  pub in_range : w.unit.0 < units s

-- the copy is of this disk: its region lies in it, and has room for the limit of its blocks; blocks wait for it
pub record IsCopyOf (s : Shape) (most disk : ℕ) (copy : DiskCopy) : Type 0 where
  pub within : copy.region.cursor + copy.region.region ≤ blocks s.disks disk
  pub room : copy.region.most ≡ most
  pub size : copy.region.size ≡ block_size s.disks disk
  pub queued : Each (IsQueued s) copy.queue

pub record IsKept (s : Shape) (config : Config) (told : Told) (disks : List DiskCopy) (dirty to_send : List Bool) (outbox : Outbox) (credit : Count) (unit : List ℕ) : Type 0 where
  pub good : IsGood s
  pub layout : told.shape ≡ s
  pub limits : AreLimits config
  pub each_disk : length disks ≡ length s.disks
  pub copies : (d : ℕ) → d < length disks → IsCopyOf s config.region d (get_or disks d no_copy)
  pub dirty_pages : length dirty ≡ s.pages
  pub pages_to_send : length to_send ≡ s.pages
  pub outbox_of : (outbox.shape ≡ s) × (outbox.limit ≡ config.outbox)
  pub made : Each (λ m. 1 ≤ m.head.version) outbox.messages
  pub whole : credit.whole ≡ config.credit
  pub unit_room : length unit ≡ max_size s
