-- Regions stay in their disks and within the limit, and are there only while the guest runs.
use Rattle.std.proofs.Common.{◌≡◌, ℕ, zero, suc, ◌+◌, ◌-◌, ◌<◌, ◌≤◌, ◌==◌, min, Bool, true, false, List, [], ◌∷◌, length, map, set, get_or, refl, sym, ap, subst, ◌∙◌, arith}
use Rattle.std.proofs.lemmas.List.{length-set, length-map}
use Rattle.std.proofs.lemmas.Bool.{eqb-true, and_parts, true≢false}
use Rattle.xv_model.specs.Job.{Job, IsGoodJob, UnitOp, Shape, blocks, disk_of}
use Rattle.xv_model.specs.View.{View, Disk, Phase, disk, no_disk, is_running, is_copied, all_copied_by}
use Rattle.xv_model.specs.Wait.{Event, Aim, Alone, Store, Join, Mirror, next_operation, next_aim, fits}
use Rattle.xv_model.specs.Effect.{guest_by, region_length, joined, front_gone, given_up, without_region}
use Rattle.xv_model.specs.Step.{step}
use Rattle.xv_model.specs.Invariant.{RegionsFit, IsViewOf}
use Rattle.xv_base.specs.declared.event.Phase.TheVariants.{Cancelled, Failed}
use Rattle.xv_model.proofs.Layouts.{kept_by, no_regions}
use Rattle.xv_model.proofs.GoesOn.{stunned_not_running}
use Rattle.xv_model.proofs.Steps.{EffectsKeep, step_keeps}

-- a disk that fits, as number d
pub record DiskFits (shape : Shape) (limit : ℕ) (running : Bool) (d : ℕ) (k : Disk) : Type 0 where
  pub cursor : k.cursor + k.region ≤ blocks shape.disks d
  pub region : k.region ≤ limit
  pub read : k.got ≤ k.region
  pub only : running ≡ false → k.region ≡ 0

-- what holds of each disk of a list holds after one is put in the place of another, if it holds of that one
pub each_after : (P : ℕ → Disk → Type 0) (ds : List Disk) (d : ℕ) (new : Disk) (i : ℕ) → P i (get_or ds i no_disk) → (i ≡ d → P i new) → P i (get_or (set ds d new) i no_disk)
each_after P [] d new i h l = h
each_after P (x ∷ ds) zero new zero h l = l refl
each_after P (x ∷ ds) zero new (suc i) h l = h
each_after P (x ∷ ds) (suc d) new zero h l = h
each_after P (x ∷ ds) (suc d) new (suc i) h l = each_after (λ j. P (suc j)) ds d new i h (λ e. l (ap suc e))

-- the point after one disk is put in the place of another
set_regions : (shape : Shape) (limit : ℕ) (p : Phase) (ds : List Disk) (d : ℕ) (new : Disk) → RegionsFit shape limit p ds → d < length ds → DiskFits shape limit (is_running p) d new → RegionsFit shape limit p (set ds d new)
set_regions shape limit p ds d new r m f = record {
  cursor_fits = λ i l. each_after (λ j k. j < length ds → k.cursor + k.region ≤ blocks shape.disks j) ds d new i (r.cursor_fits i) (λ e _. subst (λ j. new.cursor + new.region ≤ blocks shape.disks j) (sym e) f.cursor) (subst (λ n. i < n) (length-set ds d new) l);
  region_fits = λ i. each_after (λ j k. k.region ≤ limit) ds d new i (r.region_fits i) (λ _. f.region);
  read_fits = λ i. each_after (λ j k. k.got ≤ k.region) ds d new i (r.read_fits i) (λ _. f.read);
  only_running = λ i stop. each_after (λ j k. k.region ≡ 0) ds d new i (r.only_running i stop) (λ _. f.only stop);
}

-- the same with the same numbers and another queue, wherever it is
queue_regions : (shape : Shape) (limit : ℕ) (p : Phase) (ds : List Disk) (d : ℕ) (new : Disk) → RegionsFit shape limit p ds → new.cursor ≡ (get_or ds d no_disk).cursor → new.region ≡ (get_or ds d no_disk).region → new.got ≡ (get_or ds d no_disk).got → RegionsFit shape limit p (set ds d new)
queue_regions shape limit p ds d new r c n g =
    let cursors = kept_by (λ k. k.cursor) ds d new no_disk in
    let regions = kept_by (λ k. k.region) ds d new no_disk in
    let gots = kept_by (λ k. k.got) ds d new no_disk in
    record {
      cursor_fits = λ i l. subst (λ x. x ≤ blocks shape.disks i) (sym (ap (λ x. x + (get_or (set ds d new) i no_disk).region) (cursors i c) ∙ ap (λ x. (get_or ds i no_disk).cursor + x) (regions i n))) (r.cursor_fits i (subst (λ m. i < m) (length-set ds d new) l));
      region_fits = λ i. subst (λ x. x ≤ limit) (sym (regions i n)) (r.region_fits i);
      read_fits = λ i. subst (λ x. x ≤ (get_or (set ds d new) i no_disk).region) (sym (gots i g)) (subst (λ x. (get_or ds i no_disk).got ≤ x) (sym (regions i n)) (r.read_fits i));
      only_running = λ i stop. regions i n ∙ r.only_running i stop;
    }

-- with every region given up
no_region : (ds : List Disk) (i : ℕ) → (get_or (map without_region ds) i no_disk).region ≡ 0
no_region [] i = refl
no_region (d ∷ ds) zero = refl
no_region (d ∷ ds) (suc i) = no_region ds i

nothing_read : (ds : List Disk) (i : ℕ) → (get_or (map without_region ds) i no_disk).got ≡ 0
nothing_read [] i = refl
nothing_read (d ∷ ds) zero = refl
nothing_read (d ∷ ds) (suc i) = nothing_read ds i

given_up_regions : (job : Job) (v : View) (p : Phase) → IsViewOf job v → RegionsFit job.copy job.config.region p (given_up v p).disks
given_up_regions job v p i =
    let r = i.regions in
    record {
      cursor_fits = λ d l. omega (arith, no_regions v.disks d, no_region v.disks d, r.cursor_fits d (subst (λ n. d < n) (length-map v.disks without_region) l));
      region_fits = λ d. omega (arith, no_region v.disks d);
      read_fits = λ d. omega (arith, nothing_read v.disks d);
      only_running = λ d stop. no_region v.disks d;
    }

-- a disk that is copied has no region
copied_region : (ns : List ℕ) (ds : List Disk) (d : ℕ) → length ds ≡ length ns → all_copied_by ns ds ≡ true → (get_or ds d no_disk).region ≡ 0
copied_region ns [] d e h = refl
copied_region [] (k ∷ ds) d e h = absurd (omega arith)
copied_region (n ∷ ns) (k ∷ ds) zero e h = eqb-true k.region 0 (and_parts (k.cursor == n) (k.region == 0) (and_parts (is_copied n k) (all_copied_by ns ds) h).0).1
copied_region (n ∷ ns) (k ∷ ds) (suc d) e h = copied_region ns ds d (omega arith) (and_parts (is_copied n k) (all_copied_by ns ds) h).1

guest_regions : (job : Job) (v : View) (g : ℕ) (op : UnitOp) (a : Aim) → IsViewOf job v → RegionsFit job.copy job.config.region v.phase (guest_by job v g op a).disks
guest_regions job v g op Alone i = i.regions
guest_regions job v g op Store i = i.regions
guest_regions job v g op Join i = queue_regions job.copy job.config.region v.phase v.disks (disk_of job.copy op.unit.0) (joined (disk v (disk_of job.copy op.unit.0)) g op.unit.0) i.regions refl refl refl
guest_regions job v g op Mirror i = i.regions

begun_fits : (cursor region limit all : ℕ) → cursor + region ≤ all → (cursor + min limit (all - cursor) ≤ all) × (min limit (all - cursor) ≤ limit)
begun_fits cursor region limit all h = (omega arith, omega arith)

stops : (running : Bool) (k : ℕ) → running ≡ true → running ≡ false → k ≡ 0
stops running k h s = absurd (true≢false (sym h ∙ s))

pub regions-keep : (job : Job) (v : View) → IsGoodJob job → IsViewOf job v → EffectsKeep (λ w. RegionsFit job.copy job.config.region w.phase w.disks) job v
regions-keep job v good i =
    let r = i.regions in
    let in_view = λ (d : ℕ) (l : d < length job.copy.disks). subst (λ n. d < n) (sym i.lists.disks) l in
    record {
      guest = λ g m goes. guest_regions job v g (next_operation job v g) (next_aim job v g) i;
      guest_fault = λ g m goes. r;
      begin = λ d l goes.
          let f = begun_fits (disk v d).cursor (disk v d).region job.config.region (blocks job.copy.disks d) (r.cursor_fits d (in_view d l)) in
          set_regions job.copy job.config.region v.phase v.disks d (record (disk v d) { region = region_length job v d; got = 0 }) r (in_view d l) (record {
            cursor = f.0;
            region = f.1;
            read = omega arith;
            only = stops (is_running v.phase) (region_length job v d) goes.running;
          });
      read = λ d l goes.
          set_regions job.copy job.config.region v.phase v.disks d (record (disk v d) { got = (disk v d).got + 1 }) r (in_view d l) (record {
            cursor = r.cursor_fits d (in_view d l);
            region = r.region_fits d;
            read = omega (arith, goes.not_read);
            only = r.only_running d;
          });
      advance = λ d l goes.
          set_regions job.copy job.config.region v.phase v.disks d (record (disk v d) { cursor = (disk v d).cursor + (disk v d).region; region = 0; got = 0 }) r (in_view d l) (record {
            cursor = omega (arith, r.cursor_fits d (in_view d l));
            region = omega arith;
            read = omega arith;
            only = λ _. refl;
          });
      release = λ d l goes. queue_regions job.copy job.config.region v.phase v.disks d (front_gone (disk v d)) r refl refl refl;
      release_fault = λ d l goes. queue_regions job.copy job.config.region v.phase v.disks d (front_gone (disk v d)) r refl refl refl;
      round = λ goes. r;
      page = λ goes. r;
      send = λ s m goes. r;
      deliver = λ s m goes. r;
      apply = λ goes. r;
      ack = λ goes. r;
      credit = λ goes. r;
      stun = λ goes. record {
        cursor_fits = r.cursor_fits;
        region_fits = r.region_fits;
        read_fits = r.read_fits;
        only_running = λ d stop. copied_region (map (λ s. s.blocks) job.copy.disks) v.disks d (i.lists.disks ∙ sym (length-map job.copy.disks (λ s. s.blocks))) goes.copied;
      };
      switch = λ goes. record {
        cursor_fits = r.cursor_fits;
        region_fits = r.region_fits;
        read_fits = r.read_fits;
        only_running = λ d stop. r.only_running d (stunned_not_running v.phase goes.stunned);
      };
      cancel = λ goes. given_up_regions job v Cancelled i;
      fail = λ live. given_up_regions job v Failed i;
    }

pub regions-step : (job : Job) (v : View) (e : Event) (flag : Bool) → IsGoodJob job → fits job e ≡ true → IsViewOf job v → RegionsFit job.copy job.config.region (step job v e flag).phase (step job v e flag).disks
regions-step job v e flag good f i = step_keeps (λ w. RegionsFit job.copy job.config.region w.phase w.disks) job v e flag f i.regions (regions-keep job v good i)
