-- What is seen of the source's half of a migration, and that it is the part that a view and its contents have of it.
use Rattle.std.specs.Prelude.{◌≡◌, ◌<◌, ℕ, ◌+◌, ◌==◌, Bool, true, List, [], length, get_or, unwrap_or, is_some, count_by}
use Rattle.xv_base.specs.Units.{Shape, units, size, unit_of_block}
use Rattle.xv_base.specs.declared.limits.Config.{Config}
use Rattle.xv_device.specs.Told.{Told}
use Rattle.xv_model.specs.Job.{Job}
use Rattle.xv_model.specs.View.{View, Disk, UnitHead, no_disk}
use Rattle.xv_model.specs.Contents.{Contents}

-- the layout and the limits; the copy and the queue of each disk; the blocks read of each disk's region; the pages to be
-- sent later and in this round, and the rounds begun; the messages made and not sent, with the content of each, and for
-- each unit the versions made; the credit; and what the device tells
pub record Source : Type 0 where
  pub shape : Shape
  pub config : Config
  pub disks : List Disk
  pub regions : List (List (List ℕ))
  pub dirty : List Bool
  pub to_send : List Bool
  pub rounds : ℕ
  pub messages : List UnitHead
  pub contents : List (List ℕ)
  pub issued : List ℕ
  pub credit : ℕ
  pub told : Told
  pub faults : ℕ

-- a job of this layout, which is copied as it is, and of these limits, a view with all that the half has of it, and contents with
-- all that it has of them, where its device tells what it holds
abbrev pub with_limits : Job → Source → Job
with_limits job h = record job { shape = h.shape; copy = h.shape; config = h.config }

abbrev pub with_source : View → Source → View
with_source v h = record v {
  disks = h.disks;
  dirty = h.dirty;
  to_send = h.to_send;
  rounds = h.rounds;
  outbox = record { messages = h.messages; issued = h.issued; first = v.outbox.first };
  credit = h.credit;
}

abbrev pub with_source_bytes : Contents → Source → Contents
with_source_bytes c h = record c { source = unwrap_or h.told.contents []; regions = h.regions; outbox = h.contents }

-- the half is the source's part of a job's view, and of contents
pub record IsSourceOf (job : Job) (v : View) (h : Source) : Type 0 where
  pub limits : with_limits job h ≡ job
  pub part : with_source v h ≡ v

pub record HasSourceBytes (c : Contents) (h : Source) : Type 0 where
  pub told : is_some h.told.contents ≡ true
  pub part : with_source_bytes c h ≡ c

-- each unit's content has the unit's size
pub record AreWhole (s : Shape) (contents : List (List ℕ)) : Type 0 where
  pub whole : (unit : ℕ) → unit < units s → length (get_or contents unit []) ≡ size s unit

-- the messages of a unit that are not sent
abbrev pub unsent : Source → ℕ → ℕ
unsent h unit = count_by (λ m. m.unit.0 == unit) h.messages

-- the unit of the next block that is to be read of a disk's region
abbrev pub next_unit : Source → ℕ → ℕ
next_unit h d = unit_of_block h.shape d (get_or h.disks d no_disk).cursor + (get_or h.disks d no_disk).got
