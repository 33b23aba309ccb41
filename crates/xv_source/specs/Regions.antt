-- What the copy of a disk does to the half, where it goes on.
use Rattle.std.specs.Prelude.{◌≡◌, ℕ, ◌+◌, List, [], ◌∷◌, ◌++◌, set, get_or, IfSome}
use Rattle.xv_base.specs.Units.{size, unit_of_block}
use Rattle.xv_device.specs.Device.{range_of}
use Rattle.xv_model.specs.View.{Outbox, no_disk}
use Rattle.xv_model.specs.Effect.{made_run}
use Rattle.xv_source.specs.declared.disk.DiskCopy.{DiskCopy}
use Rattle.xv_source.specs.Half.{Source, next_unit}

-- one block more is read of a disk's region
abbrev pub with_block : Source → ℕ → List ℕ → Source
with_block h d content = record h {
  disks = set h.disks d (record (get_or h.disks d no_disk) { got = (get_or h.disks d no_disk).got + 1 });
  regions = set h.regions d (get_or h.regions d [] ++ content ∷ []);
}

-- a block more is read of a disk's region: the unit's content, where the device tells it
pub record ReadsBlock (old : Source) (d : ℕ) (new : Source) : Type 0 where
  pub content : List ℕ
  pub part : new ≡ with_block (record old { told = new.told; faults = new.faults }) d content
  pub gives : IfSome old.told.contents (λ contents. content ≡ range_of (next_unit old d) 0 (size old.shape (next_unit old d)) contents)

-- the messages made and not sent as the machine has them, but for what it alone keeps of a unit's first message
abbrev pub box_of : Source → Outbox
box_of h = record { messages = h.messages; issued = h.issued; first = [] }

-- a disk's region, of which all is read, is sent off: a message for each block, and the cursor behind them
abbrev pub sent_off : Source → ℕ → ℕ → Source
sent_off h d at = record h {
  disks = set h.disks d (record (get_or h.disks d no_disk) { cursor = (get_or h.disks d no_disk).cursor + (get_or h.disks d no_disk).region; region = 0; got = 0 });
  regions = set h.regions d [];
  messages = (made_run (box_of h) (unit_of_block h.shape d (get_or h.disks d no_disk).cursor) at (get_or h.disks d no_disk).region).messages;
  contents = h.contents ++ get_or h.regions d [];
  issued = (made_run (box_of h) (unit_of_block h.shape d (get_or h.disks d no_disk).cursor) at (get_or h.disks d no_disk).region).issued;
}

-- a copy whose region is given up: the cursor and the queue stay
pub record IsGivenUp (old new : DiskCopy) : Type 0 where
  pub region : new.region ≡ record old.region { region = 0; read = []; next = new.region.next }
  pub queue : new.queue ≡ old.queue
