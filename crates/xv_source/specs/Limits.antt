-- The limits of a job as far as the source's half keeps to them, how it begins, and what it keeps.
use Rattle.std.specs.Prelude.{◌≤◌, ℕ, true, false, [], map, replicate}
use Rattle.xv_base.specs.Units.{Shape, units}
use Rattle.xv_base.specs.declared.limits.TheConstants.{MOST_STREAMS, MOST_CREDIT, MOST_OUTBOX, MOST_REGION, MOST_ROUNDS, MOST_DIRTY}
use Rattle.xv_base.specs.declared.limits.Config.{Config}
use Rattle.xv_device.specs.Told.{Told}
use Rattle.xv_model.specs.View.{no_disk}
use Rattle.xv_source.specs.Half.{Source}

pub record AreLimits (config : Config) : Type 0 where
  pub streams : (1 ≤ config.streams) × (config.streams ≤ MOST_STREAMS)
  pub credit : (1 ≤ config.credit) × (config.credit ≤ MOST_CREDIT)
  pub outbox : (1 ≤ config.outbox) × (config.outbox ≤ MOST_OUTBOX)
  pub region : (1 ≤ config.region) × (config.region ≤ MOST_REGION) × (config.region ≤ config.outbox)
  pub rounds : (1 ≤ config.rounds) × (config.rounds ≤ MOST_ROUNDS)
  pub dirty : config.dirty ≤ MOST_DIRTY

-- nothing is copied, every page is to be sent, and all credit is there
abbrev pub fresh : Shape → Config → Told → ℕ → Source
fresh s config told faults = record {
  shape = s;
  config = config;
  disks = map (λ _. no_disk) s.disks;
  regions = map (λ _. []) s.disks;
  dirty = replicate s.pages true;
  to_send = replicate s.pages false;
  rounds = 0;
  messages = [];
  contents = [];
  issued = replicate (units s) 0;
  credit = config.credit;
  told = told;
  faults = faults;
}
