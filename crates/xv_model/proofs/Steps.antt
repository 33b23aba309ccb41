-- A step by cases: what every event that goes on keeps, and what giving up keeps, every step keeps.
use Rattle.std.proofs.Common.{◌≡◌, ℕ, ◌<◌, ◌&&◌, Bool, true, false, length, Option, Some, None, refl}
use Rattle.std.proofs.lemmas.Bool.{ltb-true}
use Rattle.xv_model.specs.Job.{Job, guest_count}
use Rattle.xv_model.specs.View.{View, is_live}
use Rattle.xv_model.specs.Wait.{Event, Why, wait, fits}
use Rattle.xv_model.specs.Effect.{effect, fault_effect, guest_done, begun, block_read, advanced, released, round_begun, page_sent_off, sent, delivered, applied_next, acknowledged, credited, stunned, switched, given_up, ended_as}
use Rattle.xv_base.specs.declared.operation.Outcome.TheVariants.{Faulted}
use Rattle.xv_model.specs.Step.{step, view_by, breaks}
use Rattle.xv_base.specs.declared.event.Phase.TheVariants.{Cancelled, Failed}
use Rattle.xv_base.specs.declared.event.Event.TheVariants.{Guest, Begin, Read, Advance, Release, Round, Page, Send, Deliver, Apply, Ack, Credit, Stun, Switch, Cancel}
use Rattle.xv_model.proofs.GoesOn.{GuestGoes, BeginGoes, ReadGoes, AdvanceGoes, ReleaseGoes, RoundGoes, PageGoes, SendGoes, DeliverGoes, ApplyGoes, AckGoes, CreditGoes, StunGoes, SwitchGoes, CancelGoes, guest_goes, begin_goes, read_goes, advance_goes, release_goes, round_goes, page_goes, send_goes, deliver_goes, apply_goes, ack_goes, credit_goes, stun_goes, switch_goes, cancel_goes, running_is_live, stunned_is_live}

-- what each event does keeps P
pub record EffectsKeep (P : View → Type 0) (job : Job) (v : View) : Type 0 where
  pub guest : (g : ℕ) → g < guest_count job → GuestGoes job v g → P (guest_done job v g)
  pub guest_fault : (g : ℕ) → g < guest_count job → GuestGoes job v g → P (ended_as v g Faulted)
  pub begin : (d : ℕ) → d < length job.copy.disks → BeginGoes job v d → P (begun job v d)
  pub read : (d : ℕ) → d < length job.copy.disks → ReadGoes job v d → P (block_read v d)
  pub advance : (d : ℕ) → d < length job.copy.disks → AdvanceGoes job v d → P (advanced job v d)
  pub release : (d : ℕ) → d < length job.copy.disks → ReleaseGoes job v d → P (released v d)
  pub release_fault : (d : ℕ) → d < length job.copy.disks → ReleaseGoes job v d → P (fault_effect v (Release d))
  pub round : RoundGoes job v → P (round_begun v)
  pub page : PageGoes job v → P (page_sent_off v)
  pub send : (s : ℕ) → s < job.config.streams → SendGoes job v → P (sent job v s)
  pub deliver : (s : ℕ) → s < job.config.streams → DeliverGoes job v s false → P (delivered v s)
  pub apply : ApplyGoes job v → P (applied_next v)
  pub ack : AckGoes job v → P (acknowledged v)
  pub credit : CreditGoes job v false → P (credited v)
  pub stun : StunGoes job v → P (stunned v)
  pub switch : SwitchGoes job v → P (switched v)
  pub cancel : CancelGoes job v → P (given_up v Cancelled)
  pub fail : is_live v.phase ≡ true → P (given_up v Failed)

-- the three ways that an event may go
ways : (P : View → Type 0) (w : Option Why) (b : Bool) (job : Job) (v : View) (e : Event) → P v → (w ≡ None → b ≡ false → P (effect job v e)) → (w ≡ None → b ≡ true → P (fault_effect v e)) → P (view_by w b job v e)
ways P (Some why) b job v e here goes breaks = here
ways P None false job v e here goes breaks = goes refl refl
ways P None true job v e here goes breaks = breaks refl refl

flag_false : (flag : Bool) → (flag && true) ≡ false → flag ≡ false
flag_false true h = h
flag_false false h = refl

flagged : (job : Job) (v : View) (s : ℕ) (flag : Bool) → flag ≡ false → wait job v (Deliver s) flag ≡ None → DeliverGoes job v s false
flagged job v s true f w = absurd (cc)
flagged job v s false f w = deliver_goes job v s false w

flagged_credit : (job : Job) (v : View) (flag : Bool) → flag ≡ false → wait job v Credit flag ≡ None → CreditGoes job v false
flagged_credit job v true f w = absurd (cc)
flagged_credit job v false f w = credit_goes job v false w

went : (P : View → Type 0) (job : Job) (v : View) (e : Event) (flag : Bool) → EffectsKeep P job v → fits job e ≡ true → wait job v e flag ≡ None → breaks job v e flag ≡ false → P (effect job v e)
went P job v (Guest g) flag k f w b = k.guest g.0 (ltb-true g.0 (guest_count job) f) (guest_goes job v g.0 flag w)
went P job v (Begin d) flag k f w b = k.begin d (ltb-true d _ f) (begin_goes job v d flag w)
went P job v (Read d) flag k f w b = k.read d (ltb-true d _ f) (read_goes job v d flag w)
went P job v (Advance d) flag k f w b = k.advance d (ltb-true d _ f) (advance_goes job v d flag w)
went P job v (Release d) flag k f w b = k.release d (ltb-true d _ f) (release_goes job v d flag w)
went P job v Round flag k f w b = k.round (round_goes job v flag w)
went P job v Page flag k f w b = k.page (page_goes job v flag w)
went P job v (Send s) flag k f w b = k.send s (ltb-true s _ f) (send_goes job v s flag w)
went P job v (Deliver s) flag k f w b = k.deliver s (ltb-true s _ f) (flagged job v s flag (flag_false flag b) w)
went P job v Apply flag k f w b = k.apply (apply_goes job v flag w)
went P job v Ack flag k f w b = k.ack (ack_goes job v flag w)
went P job v Credit flag k f w b = k.credit (flagged_credit job v flag (flag_false flag b) w)
went P job v Stun flag k f w b = k.stun (stun_goes job v flag w)
went P job v Switch flag k f w b = k.switch (switch_goes job v flag w)
went P job v Cancel flag k f w b = k.cancel (cancel_goes job v flag w)

broke : (P : View → Type 0) (job : Job) (v : View) (e : Event) (flag : Bool) → EffectsKeep P job v → fits job e ≡ true → wait job v e flag ≡ None → P (fault_effect v e)
broke P job v (Guest g) flag k f w = k.guest_fault g.0 (ltb-true g.0 (guest_count job) f) (guest_goes job v g.0 flag w)
broke P job v (Release d) flag k f w = k.release_fault d (ltb-true d _ f) (release_goes job v d flag w)
broke P job v (Begin d) flag k f w = k.fail (running_is_live v.phase (begin_goes job v d flag w).running)
broke P job v (Read d) flag k f w = k.fail (running_is_live v.phase (read_goes job v d flag w).running)
broke P job v (Advance d) flag k f w = k.fail (running_is_live v.phase (advance_goes job v d flag w).running)
broke P job v Round flag k f w = k.fail (running_is_live v.phase (round_goes job v flag w).running)
broke P job v Page flag k f w = k.fail (page_goes job v flag w).live
broke P job v (Send s) flag k f w = k.fail (send_goes job v s flag w).live
broke P job v (Deliver s) flag k f w = k.fail (deliver_goes job v s flag w).live
broke P job v Apply flag k f w = k.fail (apply_goes job v flag w).live
broke P job v Ack flag k f w = k.fail (ack_goes job v flag w).live
broke P job v Credit flag k f w = k.fail (credit_goes job v flag w).live
broke P job v Stun flag k f w = k.fail (running_is_live v.phase (stun_goes job v flag w).running)
broke P job v Switch flag k f w = k.fail (stunned_is_live v.phase (switch_goes job v flag w).stunned)
broke P job v Cancel flag k f w = k.fail (cancel_goes job v flag w).live

-- what all effects keep, a step keeps
pub step_keeps : (P : View → Type 0) (job : Job) (v : View) (e : Event) (flag : Bool) → fits job e ≡ true → P v → EffectsKeep P job v → P (step job v e flag)
step_keeps P job v e flag f here k =
    ways P (wait job v e flag) (breaks job v e flag) job v e here (λ w b. went P job v e flag k f w b) (λ w b. broke P job v e flag k f w)

-- what holds of the view, of the effect and of the effect of a failed call holds of the step
pub step_cases : (P : View → Type 0) (job : Job) (v : View) (e : Event) (flag : Bool) → P v → (wait job v e flag ≡ None → breaks job v e flag ≡ false → P (effect job v e)) → (wait job v e flag ≡ None → breaks job v e flag ≡ true → P (fault_effect v e)) → P (step job v e flag)
step_cases P job v e flag here goes fails = ways P (wait job v e flag) (breaks job v e flag) job v e here goes fails
