-- From messages that were sent to the machine's step.
use Rattle.std.specs.Prelude.{◌≡◌, ◌≤◌, ℕ, zero, suc, ◌-◌, ◌==◌, min, Bool, true, false, List, [], ◌∷◌, length, take, drop, get_or, None, if◌then◌else◌}
use Rattle.std.proofs.Common.{refl, sym, ap, subst, ◌∙◌, arith, inl, inr}
use Rattle.std.proofs.lemmas.Bool.{eqb-false}
use Rattle.std.proofs.lemmas.List.{length-take-le}
use Rattle.xv_base.specs.declared.answer.Cause.TheVariants.{Put}
use Rattle.xv_base.specs.declared.answer.Turn.TheVariants.{Failed}
use Rattle.xv_base.specs.declared.answer.Why.TheVariants.{NothingThere, NoCredit}
use Rattle.xv_base.specs.declared.event.Event.TheVariants.{Send}
use Rattle.xv_model.specs.Job.{Job}
use Rattle.xv_model.specs.View.{View, UnitHead, no_message, is_empty}
use Rattle.xv_model.specs.Wait.{unless}
use Rattle.xv_model.specs.Effect.{Turn, note, group_note, sent}
use Rattle.xv_model.specs.Step.{is_flagged, is_wait}
use Rattle.xv_model.specs.Contents.{send_moves}
use Rattle.xv_source.specs.Half.{Source, with_limits, with_source, with_source_bytes, IsSourceOf, HasSourceBytes}
use Rattle.xv_source.specs.Step.{Allows, StepsSource, IsMost, batch_of}
use Rattle.xv_source.specs.Waits.{own_wait}
use Rattle.xv_source.specs.Batches.{past, told_of}
use Rattle.xv_source.proofs.Steps.{Does, steps-does, steps-failed}
use Rattle.xv_source.proofs.Waits.{own-goes}
use Rattle.xv_source.proofs.Acting.{part-bytes}

-- what is told of the messages
first-taken : (ms : List UnitHead) (n : ℕ) → 1 ≤ n → get_or (take n ms) 0 no_message ≡ get_or ms 0 no_message
first-taken ms zero some = absurd (omega arith)
first-taken [] (suc n) some = refl
first-taken (m ∷ ms) (suc n) some = refl

note-of : (one : Bool) (ms : List UnitHead) (n : ℕ) → 1 ≤ n → n ≤ length ms →
    (if one then note (get_or ms 0 no_message).unit.0 (get_or ms 0 no_message).version else note n (get_or ms 0 no_message).unit.0)
    ≡ (if one then note (get_or (take n ms) 0 no_message).unit.0 (get_or (take n ms) 0 no_message).version else note (length (take n ms)) (get_or (take n ms) 0 no_message).unit.0)
note-of true ms n some there = ap (λ (m : UnitHead). note m.unit.0 m.version) (sym (first-taken ms n some))
note-of false ms n some there =
    ap (λ (k : ℕ). note k (get_or ms 0 no_message).unit.0) (sym (length-take-le n ms there))
    ∙ ap (λ (m : UnitHead). note (length (take n ms)) m.unit.0) (sym (first-taken ms n some))

told-done : (one : Bool) (a b k l : ℕ) → (is_flagged (if one then note a b else note k l) ≡ false) × (is_wait (if one then note a b else note k l) ≡ false)
told-done true a b k l = (refl, refl)
told-done false a b k l = (refl, refl)

-- how many the machine sends
batch-is : (job : Job) (v : View) (old : Source) (format most : ℕ) → job.format ≡ format → job.group ≡ most →
    batch_of format most old ≡ (if job.format == 1 then 1 else min job.group (min (length old.messages) old.credit))
batch-is job v old format most is_format is_most =
    ap (λ (f : ℕ). if f == 1 then 1 else min most (min (length old.messages) old.credit)) (sym is_format)
    ∙ ap (λ (k : ℕ). if job.format == 1 then 1 else min k (min (length old.messages) old.credit)) (sym is_most)

pub sends-done : (job : Job) (v : View) (s : ℕ) (t : Turn) (old new : Source) (format most n : ℕ) → Allows job v (Send s) old → own_wait false old (Send s) ≡ None → job.format ≡ format → job.group ≡ most →
    n ≡ batch_of format most old → 1 ≤ n → n ≤ length old.messages → new ≡ past n old → t ≡ told_of format n (get_or old.messages 0 no_message) → StepsSource job v (Send s) t old new
sends-done job v s t old new format most n allows goes is_format is_most count some there after answers =
    let same : n ≡ (if job.format == 1 then 1 else min job.group (min (length old.messages) old.credit)) = count ∙ batch-is job v old format most is_format is_most in
    let J = with_limits job old in
    let V = with_source v old in
    let P : ℕ → Type 0 = λ k. IsSourceOf J (record V {
      outbox = record V.outbox { messages = drop k old.messages };
      streams = (sent J V s).streams;
      credit = old.credit - k;
    }) (past n old) in
    let does : Does job v (Send s) t old new = record {
      answers =
          answers ∙ ap (λ (f : ℕ). if f == 1 then note (get_or old.messages 0 no_message).unit.0 (get_or old.messages 0 no_message).version else note n (get_or old.messages 0 no_message).unit.0) (sym is_format)
          ∙ note-of (job.format == 1) old.messages n some there
          ∙ ap (λ (k : ℕ). group_note J (take k old.messages)) same;
      part = subst (λ (h : Source). IsSourceOf J (sent J V s) h) (sym after) (subst P same (record { limits = refl; part = refl }));
      bytes = λ c tells whole.
          subst (λ (h : Source). HasSourceBytes (send_moves J V s (with_source_bytes c old)) h) (sym after)
          (record { told = tells; part = part-bytes (send_moves J V s (with_source_bytes c old)) (past n old) refl refl (ap (λ (k : ℕ). drop k old.contents) same) });
    } in
    steps-does job v (Send s) t old new allows.of (own-goes job v (Send s) old false allows allows.lets refl goes)
    (ap (λ (x : Turn). is_flagged x) answers ∙ (told-done (format == 1) _ _ _ _).0) (ap (λ (x : Turn). is_wait x) answers ∙ (told-done (format == 1) _ _ _ _).1) does

pub sends-failed : (job : Job) (v : View) (s : ℕ) (old : Source) → Allows job v (Send s) old → own_wait false old (Send s) ≡ None → StepsSource job v (Send s) (Failed (Put s)) old old
sends-failed job v s old allows goes =
    steps-failed job v (Send s) (Failed (Put s)) old old (own-goes job v (Send s) old true allows allows.lets refl goes) refl refl refl refl allows.of (λ c before. before)

-- where it goes on there is a message and credit, so that one is sent at least
goes-by : (ms : List UnitHead) (none : Bool) → unless (is_empty ms) NothingThere (unless none NoCredit None) ≡ None → (1 ≤ length ms) × (none ≡ false)
goes-by [] none goes = absurd (cc)
goes-by (m ∷ ms) false goes = (omega arith, refl)
goes-by (m ∷ ms) true goes = absurd (cc)

pub batch-some : (format most s : ℕ) (h : Source) → IsMost format most → own_wait false h (Send s) ≡ None → (1 ≤ batch_of format most h) × (batch_of format most h ≤ length h.messages)
batch-some format most s h (inl one) goes =
    let g = goes-by h.messages (h.credit == 0) goes in
    let same : batch_of format most h ≡ 1 = ap (λ (f : ℕ). if f == 1 then 1 else min most (min (length h.messages) h.credit)) one.0 in
    (omega arith, omega (arith, g.0))
batch-some format most s h (inr more) goes =
    let g = goes-by h.messages (h.credit == 0) goes in
    let same : batch_of format most h ≡ min most (min (length h.messages) h.credit) = ap (λ (f : ℕ). if f == 1 then 1 else min most (min (length h.messages) h.credit)) more.0 in
    let some : (h.credit ≡ 0 → ⊥) = eqb-false h.credit 0 g.1 in
    let paid : 1 ≤ h.credit = omega arith in
    (omega (arith, g.0, more.1), omega arith)
