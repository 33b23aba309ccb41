-- The events that leave the history alone and make no message: a region begun or read on, rounds, acknowledgements,
-- the stun, and a migration given up.
use Rattle.std.specs.Prelude.{◌≡◌, ◌<◌, ℕ, ◌+◌, Bool, true, false, List, [], ◌∷◌, ◌++◌, length, drop}
use Rattle.std.proofs.Common.{arith, refl}
use Rattle.xv_model.specs.Job.{Job, IsGoodJob, blocks}
use Rattle.xv_model.specs.View.{View, Phase, disk, number, is_running, is_live, is_switched}
use Rattle.xv_model.specs.Effect.{begun, block_read, round_begun, acknowledged, credited, stunned, given_up, cursor_unit, no_pages}
use Rattle.xv_model.specs.Invariant.{IsViewOf}
use Rattle.xv_model.specs.Contents.{Contents, HoldsContents, begin_moves, read_moves, give_up_moves, region_content}
use Rattle.xv_model.proofs.GoesOn.{ReadGoes, running_is_live, live_not_switched}
use Rattle.xv_model.proofs.Layouts.{is_block_after}
use Rattle.xv_model.proofs.Contents.Regions.{AreRegions, regions-set, region-none, region-more, regions-given_up}

-- the regions of contents that hold
pub regions_of : (job : Job) (v : View) (c : Contents) → HoldsContents job v c → AreRegions job v.history v.disks c.regions
regions_of job v c holds = record {
  one_each = holds.regions_length;
  region = λ d lt. record { read = holds.region_length d lt; each = λ k l. holds.region_is d k lt l };
}

pub contents-begun : (job : Job) (v : View) (c : Contents) (d : ℕ) → HoldsContents job v c → HoldsContents job (begun job v d) (begin_moves d c)
contents-begun job v c d holds =
    let are = regions-set job v.history v.disks c.regions d _ [] (regions_of job v c holds) (region-none job v.history d _ refl) in
    record {
      source_length = holds.source_length;
      dest_length = holds.dest_length;
      source_is = holds.source_is;
      outbox_is = holds.outbox_is;
      streams_are = holds.streams_are;
      held_is = holds.held_is;
      dest_is = holds.dest_is;
      regions_length = are.one_each;
      region_length = λ i lt. (are.region i lt).read;
      region_is = λ i k lt l. (are.region i lt).each k l;
      dest_switched = holds.dest_switched;
      source_switched = holds.source_switched;
      reads_are = holds.reads_are;
    }

pub contents-block_read : (job : Job) (v : View) (c : Contents) (d : ℕ) → IsGoodJob job → IsViewOf job v → d < length job.copy.disks → ReadGoes job v d → HoldsContents job v c → HoldsContents job (block_read v d) (read_moves job v d c)
contents-block_read job v c d good inv lt goes holds =
    let in_disks : d < length v.disks = let l = inv.lists.disks in omega arith in
    let region = (regions_of job v c holds).region d in_disks in
    let fits : (disk v d).cursor + (disk v d).got < blocks job.copy.disks d = let a = inv.regions.cursor_fits d in_disks in let b = goes.not_read in omega arith in
    let block = is_block_after job.copy d (disk v d).cursor (disk v d).got lt fits in
    let read = holds.source_is (cursor_unit job v d + (disk v d).got) block.in_range (live_not_switched v.phase (running_is_live v.phase goes.running)) in
    let are = regions-set job v.history v.disks c.regions d _ _ (regions_of job v c holds) (region-more job v.history d (disk v d) (record (disk v d) { got = (disk v d).got + 1 }) (region_content c d) _ region refl refl read) in
    record {
      source_length = holds.source_length;
      dest_length = holds.dest_length;
      source_is = holds.source_is;
      outbox_is = holds.outbox_is;
      streams_are = holds.streams_are;
      held_is = holds.held_is;
      dest_is = holds.dest_is;
      regions_length = are.one_each;
      region_length = λ i l. (are.region i l).read;
      region_is = λ i k l m. (are.region i l).each k m;
      dest_switched = holds.dest_switched;
      source_switched = holds.source_switched;
      reads_are = holds.reads_are;
    }

-- numbers that no content stands for may change
other_numbers : (job : Job) (v : View) (c : Contents) (dirty to_send : List Bool) (rounds credit freed : ℕ) (acks : List ℕ) → HoldsContents job v c → HoldsContents job (record v { dirty = dirty; to_send = to_send; rounds = rounds; credit = credit; freed = freed; acks = acks }) c
other_numbers job v c dirty to_send rounds credit freed acks holds = record {
  source_length = holds.source_length;
  dest_length = holds.dest_length;
  source_is = holds.source_is;
  outbox_is = holds.outbox_is;
  streams_are = holds.streams_are;
  held_is = holds.held_is;
  dest_is = holds.dest_is;
  regions_length = holds.regions_length;
  region_length = holds.region_length;
  region_is = holds.region_is;
  dest_switched = holds.dest_switched;
  source_switched = holds.source_switched;
  reads_are = holds.reads_are;
}

pub contents-round_begun : (job : Job) (v : View) (c : Contents) → HoldsContents job v c → HoldsContents job (round_begun v) c
contents-round_begun job v c holds = other_numbers job v c (no_pages v.dirty) v.dirty (v.rounds + 1) v.credit v.freed v.acks holds

pub contents-acknowledged : (job : Job) (v : View) (c : Contents) → HoldsContents job v c → HoldsContents job (acknowledged v) c
contents-acknowledged job v c holds = other_numbers job v c v.dirty v.to_send v.rounds v.credit 0 (v.acks ++ v.freed ∷ []) holds

pub contents-credited : (job : Job) (v : View) (c : Contents) → HoldsContents job v c → HoldsContents job (credited v) c
contents-credited job v c holds = other_numbers job v c v.dirty v.to_send v.rounds (v.credit + number v.acks 0) v.freed (drop 1 v.acks) holds

-- a guest that runs is not on the destination, nor is one that is stunned
pub contents-stunned : (job : Job) (v : View) (c : Contents) → is_running v.phase ≡ true → HoldsContents job v c → HoldsContents job (stunned v) c
contents-stunned job v c running holds =
    let here = live_not_switched v.phase (running_is_live v.phase running) in
    record {
      source_length = holds.source_length;
      dest_length = holds.dest_length;
      source_is = λ unit lt off. holds.source_is unit lt here;
      outbox_is = holds.outbox_is;
      streams_are = holds.streams_are;
      held_is = holds.held_is;
      dest_is = λ unit lt off. holds.dest_is unit lt here;
      regions_length = holds.regions_length;
      region_length = holds.region_length;
      region_is = holds.region_is;
      dest_switched = λ unit lt on. absurd (cc);
      source_switched = λ unit lt on. absurd (cc);
      reads_are = holds.reads_are;
    }

-- the phase in which a migration is given up is not the switched one
pub contents-given_up : (job : Job) (v : View) (c : Contents) (phase : Phase) → is_live v.phase ≡ true → is_switched phase ≡ false → HoldsContents job v c → HoldsContents job (given_up v phase) (give_up_moves c)
contents-given_up job v c phase live off holds =
    let here = live_not_switched v.phase live in
    let are = regions-given_up job v.history v.disks c.regions (regions_of job v c holds) in
    record {
      source_length = holds.source_length;
      dest_length = holds.dest_length;
      source_is = λ unit lt away. holds.source_is unit lt here;
      outbox_is = holds.outbox_is;
      streams_are = holds.streams_are;
      held_is = holds.held_is;
      dest_is = λ unit lt away. holds.dest_is unit lt here;
      regions_length = are.one_each;
      region_length = λ i lt. (are.region i lt).read;
      region_is = λ i k lt l. (are.region i lt).each k l;
      dest_switched = λ unit lt on. absurd (cc);
      source_switched = λ unit lt on. absurd (cc);
      reads_are = holds.reads_are;
    }
