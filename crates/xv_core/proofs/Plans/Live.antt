-- Where messages may move after an event, they could before it, and no call on a wire failed; and a take that went on had
-- something to take.
use Rattle.std.specs.Prelude.{◌≡◌, ◌<◌, ℕ, zero, suc, Bool, true, false, List, [], ◌∷◌, length, map, get_or, Option, Some, None, is_some}
use Rattle.std.proofs.Common.{arith, refl, ap, sym, ◌∙◌, subst}
use Rattle.std.proofs.lemmas.Bool.{false≢true}
use Rattle.std.proofs.lemmas.List.{length-map}
use Rattle.xv_model.specs.Job.{Job}
use Rattle.xv_model.specs.View.{View, is_live, stream, is_switched}
use Rattle.xv_model.specs.Wait.{Event, Why, wait, next_operation, next_aim, is_join}
use Rattle.xv_model.specs.Effect.{Turn, effect, fault_effect}
use Rattle.xv_model.specs.Step.{Call, Put, Take, AckPut, AckTake, call, guest_call, is_call, breaks, step, view_by, is_flagged}
use Rattle.xv_model.specs.Outside.{kind, outside}
use Rattle.xv_model.proofs.Outside.Calls.{kind-call}
use Rattle.xv_model.proofs.GoesOn.{running_is_live, deliver_goes, credit_goes, stun_goes}
use Rattle.xv_base.specs.declared.event.Event.TheVariants.{Guest, Release, Deliver, Credit, Stun, Switch, Cancel}
use Rattle.xv_streams.specs.Streamed.{LaneSeen, no_lane, lane}
use Rattle.xv_streams.specs.Fronts.{heads_of, heads_on}
use Rattle.xv_job.specs.Written.{job_of}
use Rattle.xv_core.specs.State.{State, IsRunning, view}
use Rattle.xv_core.specs.Happening.{Happened}
use Rattle.xv_core.proofs.Counting.Rises.{went}

-- phases
effect-live : (job : Job) (v : View) (e : Event) (flag : Bool) → wait job v e flag ≡ None → is_live (effect job v e).phase ≡ true → is_live v.phase ≡ true
effect-live job v (Stun) flag w h = running_is_live v.phase (stun_goes job v flag w).running
effect-live job v (Switch) flag w h = absurd (cc)
effect-live job v (Cancel) flag w h = absurd (cc)
effect-live job v e flag w h = h

fault-live : (v : View) (e : Event) → is_live (fault_effect v e).phase ≡ true → is_live v.phase ≡ true
fault-live v (Guest g) h = h
fault-live v (Release d) h = h
fault-live v e h = absurd (cc)

live-by : (why : Option Why) (b : Bool) (job : Job) (v : View) (e : Event) (flag : Bool) → wait job v e flag ≡ None → is_live (view_by why b job v e).phase ≡ true → is_live v.phase ≡ true
live-by (Some why) b job v e flag w h = h
live-by None false job v e flag w h = effect-live job v e flag w h
live-by None true job v e flag w h = fault-live v e h

-- a call on a wire that failed ends the migration
abbrev pub is_on_wires : Call → Bool
is_on_wires (Put s) = true
is_on_wires (Take s) = true
is_on_wires AckPut = true
is_on_wires AckTake = true
is_on_wires c = false

guest-elsewhere : (q s w : Bool) → is_on_wires (guest_call q s w) ≡ false
guest-elsewhere true s w = refl
guest-elsewhere false true true = refl
guest-elsewhere false true false = refl
guest-elsewhere false false true = refl
guest-elsewhere false false false = refl

failed-ends : (job : Job) (v : View) (e : Event) → is_on_wires (call job v e) ≡ true → is_live (fault_effect v e).phase ≡ false
failed-ends job v (Guest g) h = absurd (false≢true (sym (guest-elsewhere (is_join (next_aim job v g.0)) (is_switched v.phase) (is_some (next_operation job v g.0).write)) ∙ h))
failed-ends job v (Release d) h = absurd (cc)
failed-ends job v e h = refl

are-calls : (c : Call) → is_on_wires c ≡ true → is_call c ≡ true
are-calls (Put s) h = refl
are-calls (Take s) h = refl
are-calls AckPut h = refl
are-calls AckTake h = refl
are-calls c h = absurd (cc)

unfailed-by : (why : Option Why) (flag b : Bool) (job : Job) (v : View) (e : Event) → why ≡ None → b ≡ breaks job v e flag → is_on_wires (call job v e) ≡ true → is_live (view_by why b job v e).phase ≡ true → flag ≡ false
unfailed-by (Some why) flag b job v e none is on h = absurd (cc)
unfailed-by None false b job v e none is on h = refl
unfailed-by None true true job v e none is on h = absurd (false≢true (sym (failed-ends job v e on) ∙ h))
unfailed-by None true false job v e none is on h = absurd (false≢true (is ∙ are-calls (call job v e) on))

-- what a stream shows of its groups
pub heads-at : (lanes : List LaneSeen) (k : ℕ) → get_or (heads_on lanes) k [] ≡ map heads_of (get_or lanes k no_lane).groups
heads-at [] k = refl
heads-at (l ∷ ls) zero = refl
heads-at (l ∷ ls) (suc k) = heads-at ls k

-- an event that takes
guest-takes-none : (q s w : Bool) (c : Call) → is_on_wires c ≡ true → guest_call q s w ≡ c → ⊥
guest-takes-none q s w c on e = false≢true (sym (guest-elsewhere q s w) ∙ ap is_on_wires e ∙ on)

takes-some : (job : Job) (v : View) (e : Event) (flag : Bool) (k : ℕ) → wait job v e flag ≡ None → call job v e ≡ Take k → flag ≡ false → 0 < length (stream v k)
takes-some job v (Guest g) flag k w e n = absurd (guest-takes-none (is_join (next_aim job v g.0)) (is_switched v.phase) (is_some (next_operation job v g.0).write) (Take k) refl e)
takes-some job v (Deliver s) flag k w e n = let same : s ≡ k = cc in subst (λ (i : ℕ). 0 < length (stream v i)) same ((deliver_goes job v s flag w).some_group n)
takes-some job v event flag k w e n = absurd (cc)

credits-some : (job : Job) (v : View) (e : Event) (flag : Bool) → wait job v e flag ≡ None → call job v e ≡ AckTake → flag ≡ false → 0 < length v.acks
credits-some job v (Guest g) flag w e n = absurd (guest-takes-none (is_join (next_aim job v g.0)) (is_switched v.phase) (is_some (next_operation job v g.0).write) AckTake refl e)
credits-some job v (Credit) flag w e n = (credit_goes job v flag w).some_ack n
credits-some job v event flag w e n = absurd (cc)

take-live : (job : Job) (v : View) (e : Event) (flag : Bool) (k : ℕ) → wait job v e flag ≡ None → call job v e ≡ Take k → is_live v.phase ≡ true
take-live job v (Guest g) flag k w e = absurd (guest-takes-none (is_join (next_aim job v g.0)) (is_switched v.phase) (is_some (next_operation job v g.0).write) (Take k) refl e)
take-live job v (Deliver s) flag k w e = (deliver_goes job v s flag w).live
take-live job v event flag k w e = absurd (cc)

credit-live : (job : Job) (v : View) (e : Event) (flag : Bool) → wait job v e flag ≡ None → call job v e ≡ AckTake → is_live v.phase ≡ true
credit-live job v (Guest g) flag w e = absurd (guest-takes-none (is_join (next_aim job v g.0)) (is_switched v.phase) (is_some (next_operation job v g.0).write) AckTake refl e)
credit-live job v (Credit) flag w e = (credit_goes job v flag w).live
credit-live job v event flag w e = absurd (cc)

-- of an event that happened
module _ (s t : State) (e : Event) (a : Turn) (running : IsRunning s) (h : Happened s e a t) where
  abbrev job : Job
  job = job_of s.job

  phase-is : s.phase ≡ (view s).phase
  phase-is = ap (λ (v : View). v.phase) running.shows

  phase-then : t.phase ≡ (step job (view s) e (is_flagged a)).phase
  phase-then = ap (λ (v : View). v.phase) h.shows

  kind-is : (c : Call) → kind (outside (job_of s.job) (view s) e) ≡ c → call job (view s) e ≡ c
  kind-is c k = sym (kind-call job (view s) e) ∙ k

  pub live-before : is_live t.phase ≡ true → is_live s.phase ≡ true
  live-before live =
      ap is_live phase-is ∙ live-by (wait job (view s) e (is_flagged a)) (breaks job (view s) e (is_flagged a)) job (view s) e (is_flagged a) (went s t e a h) (sym (ap is_live phase-then) ∙ live)

  pub unfailed : (c : Call) → kind (outside (job_of s.job) (view s) e) ≡ c → is_on_wires c ≡ true → is_live t.phase ≡ true → is_flagged a ≡ false
  unfailed c k on live =
      unfailed-by (wait job (view s) e (is_flagged a)) (is_flagged a) (breaks job (view s) e (is_flagged a)) job (view s) e (went s t e a h) refl (ap is_on_wires (kind-is c k) ∙ on) (sym (ap is_live phase-then) ∙ live)

  pub some-group : (k : ℕ) → kind (outside (job_of s.job) (view s) e) ≡ Take k → is_flagged a ≡ false → 0 < length (lane s.streams k).groups
  some-group k take n =
      let shown : stream (view s) k ≡ map heads_of (lane s.streams k).groups = sym (ap (λ (v : View). stream v k) running.shows) ∙ heads-at s.streams.lanes k in
      let there : 0 < length (stream (view s) k) = takes-some job (view s) e (is_flagged a) k (went s t e a h) (kind-is (Take k) take) n in
      let same : length (stream (view s) k) ≡ length (lane s.streams k).groups = ap length shown ∙ length-map (lane s.streams k).groups heads_of in
      omega (arith, there, same)

  pub some-count : kind (outside (job_of s.job) (view s) e) ≡ AckTake → is_flagged a ≡ false → 0 < length s.back.counts
  some-count take n =
      let shown : s.back.counts ≡ (view s).acks = ap (λ (v : View). v.acks) running.shows in
      let there : 0 < length (view s).acks = credits-some job (view s) e (is_flagged a) (went s t e a h) (kind-is AckTake take) n in
      let same : length s.back.counts ≡ length (view s).acks = ap length shown in
      omega (arith, there, same)

  pub live-take : (k : ℕ) → kind (outside (job_of s.job) (view s) e) ≡ Take k → is_live s.phase ≡ true
  live-take k take = ap is_live phase-is ∙ take-live job (view s) e (is_flagged a) k (went s t e a h) (kind-is (Take k) take)

  pub live-credit : kind (outside (job_of s.job) (view s) e) ≡ AckTake → is_live s.phase ≡ true
  live-credit take = ap is_live phase-is ∙ credit-live job (view s) e (is_flagged a) (went s t e a h) (kind-is AckTake take)
