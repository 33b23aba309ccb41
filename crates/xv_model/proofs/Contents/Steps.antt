-- The first contents hold, and every step keeps the contents.
use Rattle.std.specs.Prelude.{◌≡◌, ◌<◌, ℕ, zero, suc, Bool, true, false, List, [], length, map, replicate, Option, Some, None}
use Rattle.std.proofs.Common.{arith, refl, sym, ◌∙◌}
use Rattle.std.proofs.lemmas.Bool.{ltb-true}
use Rattle.std.proofs.lemmas.List.{length-map, get_or-map, get_or-replicate}
use Rattle.std.proofs.lemmas.List.FromFn.{length-map-range_with_len, get_or-map-range_with_len}
use Rattle.xv_base.specs.declared.unit.DiskShape.{DiskShape}
use Rattle.xv_model.specs.Job.{Job, IsGoodJob, units, unit_count}
use Rattle.xv_model.specs.Guest.{initial}
use Rattle.xv_model.specs.View.{View, Disk, no_disk, number, first_view}
use Rattle.xv_model.specs.Wait.{Event, Why, wait, fits}
use Rattle.xv_model.specs.Effect.{effect, fault_effect}
use Rattle.xv_model.specs.Step.{view_by, step, breaks}
use Rattle.xv_model.specs.Invariant.{IsViewOf}
use Rattle.xv_model.specs.Contents.{Contents, HoldsContents, first_contents, moves, fault_moves, contents_by, step_contents, message_content}
use Rattle.xv_model.proofs.GoesOn.{guest_goes, begin_goes, read_goes, advance_goes, release_goes, round_goes, page_goes, send_goes, deliver_goes, apply_goes, ack_goes, credit_goes, stun_goes, switch_goes, cancel_goes, running_is_live, stunned_is_live}
use Rattle.xv_model.proofs.Contents.Regions.{AreRegions, region-none}
use Rattle.xv_model.proofs.Contents.Copying.{contents-begun, contents-block_read, contents-round_begun, contents-acknowledged, contents-credited, contents-stunned, contents-given_up}
use Rattle.xv_model.proofs.Contents.Sending.{contents-advanced, contents-page_sent_off, contents-sent, contents-delivered}
use Rattle.xv_model.proofs.Contents.Applying.{contents-applied}
use Rattle.xv_model.proofs.Contents.Switching.{contents-switched}
use Rattle.xv_model.proofs.Contents.Operations.{contents-guest_done, contents-guest_failed, contents-released, contents-release_failed}
use Rattle.xv_base.specs.declared.event.Phase.TheVariants.{Cancelled, Failed}
use Rattle.xv_base.specs.declared.event.Event.TheVariants.{Guest, Begin, Read, Advance, Release, Round, Page, Send, Deliver, Apply, Ack, Credit, Stun, Switch, Cancel}

map-replicate_none : {X Y : Type 0} (f : List X → List Y) (n : ℕ) → f [] ≡ [] → replicate n [] ≡ map f (replicate n [])
map-replicate_none f zero none = refl
map-replicate_none f (suc n) none = rw (none, ← map-replicate_none f n none)

first_regions : (job : Job) → AreRegions job [] (map (λ _. no_disk) job.copy.disks) (map (λ _. []) job.copy.disks)
first_regions job = record {
  one_each = length-map job.copy.disks (λ _. []) ∙ sym (length-map job.copy.disks (λ _. no_disk));
  region = λ d lt.
      let there : d < length job.copy.disks = let l = length-map job.copy.disks (λ (_ : DiskShape). no_disk) in omega arith in
      rw (get_or-map {Y = Disk} (λ (s : DiskShape). no_disk) job.copy.disks d (record { blocks = 0; block_size = 0 }) no_disk there, get_or-map {Y = List (List ℕ)} (λ (s : DiskShape). []) job.copy.disks d (record { blocks = 0; block_size = 0 }) [] there)
      (region-none job [] d no_disk refl);
}

pub contents-first : (job : Job) (dest : List (List ℕ)) → IsGoodJob job → length dest ≡ unit_count job → HoldsContents job (first_view job) (first_contents job dest)
contents-first job dest good same =
    let are = first_regions job in
    record {
      source_length = length-map-range_with_len (initial job) 0 (units job.shape) ∙ good.same_units;
      dest_length = same;
      source_is = λ unit lt off. get_or-map-range_with_len (initial job) 0 (units job.shape) unit unit [] (omega (arith, lt, good.same_units)) (omega arith);
      outbox_is = refl;
      streams_are = map-replicate_none (map (map (message_content job []))) job.config.streams refl;
      held_is = refl;
      dest_is = λ unit lt off some.
          let none : number (replicate (unit_count job) 0) unit ≡ 0 = get_or-replicate (unit_count job) unit 0 0 lt in
          let more : 0 < number (replicate (unit_count job) 0) unit = some in
          absurd (omega arith);
      regions_length = are.one_each;
      region_length = λ d lt. (are.region d lt).read;
      region_is = λ d k lt l. (are.region d lt).each k l;
      dest_switched = λ unit lt on. absurd (cc);
      source_switched = λ unit lt on. absurd (cc);
      reads_are = refl;
    }

-- an event that went on
went_on : (job : Job) (v : View) (c : Contents) (e : Event) (flag : Bool) → IsGoodJob job → fits job e ≡ true → IsViewOf job v → HoldsContents job v c → wait job v e flag ≡ None → HoldsContents job (effect job v e) (moves job v e c)
went_on job v c (Guest g) flag good fit inv holds goes = contents-guest_done job v c g.0 good inv (guest_goes job v g.0 flag goes) holds
went_on job v c (Begin d) flag good fit inv holds goes = contents-begun job v c d holds
went_on job v c (Read d) flag good fit inv holds goes = contents-block_read job v c d good inv (ltb-true d (length job.copy.disks) fit) (read_goes job v d flag goes) holds
went_on job v c (Advance d) flag good fit inv holds goes = contents-advanced job v c d inv (ltb-true d (length job.copy.disks) fit) (advance_goes job v d flag goes) holds
went_on job v c (Release d) flag good fit inv holds goes = contents-released job v c d inv (release_goes job v d flag goes) holds
went_on job v c Round flag good fit inv holds goes = contents-round_begun job v c holds
went_on job v c Page flag good fit inv holds goes = contents-page_sent_off job v c inv (page_goes job v flag goes) holds
went_on job v c (Send s) flag good fit inv holds goes = contents-sent job v c s holds
went_on job v c (Deliver s) flag good fit inv holds goes = contents-delivered job v c s holds
went_on job v c Apply flag good fit inv holds goes = contents-applied job v c inv (apply_goes job v flag goes) holds
went_on job v c Ack flag good fit inv holds goes = contents-acknowledged job v c holds
went_on job v c Credit flag good fit inv holds goes = contents-credited job v c holds
went_on job v c Stun flag good fit inv holds goes = contents-stunned job v c (stun_goes job v flag goes).running holds
went_on job v c Switch flag good fit inv holds goes = contents-switched job v c inv (switch_goes job v flag goes) holds
went_on job v c Cancel flag good fit inv holds goes = contents-given_up job v c Cancelled (cancel_goes job v flag goes).live refl holds

-- an event whose call failed
failed : (job : Job) (v : View) (c : Contents) (e : Event) (flag : Bool) → IsViewOf job v → HoldsContents job v c → wait job v e flag ≡ None → HoldsContents job (fault_effect v e) (fault_moves e c)
failed job v c (Guest g) flag inv holds goes = contents-guest_failed job v c g.0 inv holds
failed job v c (Begin d) flag inv holds goes = contents-given_up job v c Failed (running_is_live v.phase (begin_goes job v d flag goes).running) refl holds
failed job v c (Read d) flag inv holds goes = contents-given_up job v c Failed (running_is_live v.phase (read_goes job v d flag goes).running) refl holds
failed job v c (Advance d) flag inv holds goes = contents-given_up job v c Failed (running_is_live v.phase (advance_goes job v d flag goes).running) refl holds
failed job v c (Release d) flag inv holds goes = contents-release_failed job v c d inv holds
failed job v c Round flag inv holds goes = contents-given_up job v c Failed (running_is_live v.phase (round_goes job v flag goes).running) refl holds
failed job v c Page flag inv holds goes = contents-given_up job v c Failed (page_goes job v flag goes).live refl holds
failed job v c (Send s) flag inv holds goes = contents-given_up job v c Failed (send_goes job v s flag goes).live refl holds
failed job v c (Deliver s) flag inv holds goes = contents-given_up job v c Failed (deliver_goes job v s flag goes).live refl holds
failed job v c Apply flag inv holds goes = contents-given_up job v c Failed (apply_goes job v flag goes).live refl holds
failed job v c Ack flag inv holds goes = contents-given_up job v c Failed (ack_goes job v flag goes).live refl holds
failed job v c Credit flag inv holds goes = contents-given_up job v c Failed (credit_goes job v flag goes).live refl holds
failed job v c Stun flag inv holds goes = contents-given_up job v c Failed (running_is_live v.phase (stun_goes job v flag goes).running) refl holds
failed job v c Switch flag inv holds goes = contents-given_up job v c Failed (stunned_is_live v.phase (switch_goes job v flag goes).stunned) refl holds
failed job v c Cancel flag inv holds goes = contents-given_up job v c Failed (cancel_goes job v flag goes).live refl holds

stepped : (job : Job) (v : View) (c : Contents) (e : Event) (flag : Bool) (why : Option Why) (broken : Bool) → IsGoodJob job → fits job e ≡ true → IsViewOf job v → HoldsContents job v c → wait job v e flag ≡ why → HoldsContents job (view_by why broken job v e) (contents_by why broken job v e c)
stepped job v c e flag (Some why) broken good fit inv holds goes = holds
stepped job v c e flag None false good fit inv holds goes = went_on job v c e flag good fit inv holds goes
stepped job v c e flag None true good fit inv holds goes = failed job v c e flag inv holds goes

pub contents-step : (job : Job) (v : View) (c : Contents) (e : Event) (flag : Bool) → IsGoodJob job → fits job e ≡ true → IsViewOf job v → HoldsContents job v c → HoldsContents job (step job v e flag) (step_contents job v e flag c)
contents-step job v c e flag good fit inv holds = stepped job v c e flag (wait job v e flag) (breaks job v e flag) good fit inv holds refl
