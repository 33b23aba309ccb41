-- Where a journal's entries of each kind follow the numbers that the faults name, it is faithful to the faults.
use Rattle.std.specs.Prelude.{◌≡◌, ℕ, ◌+◌, ◌==◌, ◌&&◌, ◌||◌, nat_lt, Bool, true, false, List, [], ◌∷◌, ◌++◌, map, filter, Option, Some, None, is_some, count_by, if◌then◌else◌}
use Rattle.std.specs.List.{list_all, list_any}
use Rattle.std.proofs.Common.{refl, sym, ap, ◌∙◌, arith}
use Rattle.std.proofs.lemmas.Bool.{and_parts, eq-eqb}
use Rattle.std.proofs.lemmas.List.Sums.{sum_by_push}
use Rattle.xv_base.specs.declared.event.Event.TheVariants.{Guest, Begin, Read, Advance, Release, Round, Page, Send, Deliver, Apply, Ack, Credit, Stun, Switch, Cancel}
use Rattle.xv_base.specs.declared.answer.Turn.TheVariants.{Done, Queued, Faulted, Failed}
use Rattle.xv_base.specs.Calls.{is_listed}
use Rattle.xv_model.specs.Job.{Job, Fault}
use Rattle.xv_model.specs.View.{View, is_switched}
use Rattle.xv_model.specs.Wait.{Event, Why, wait, fits, next_operation, next_aim, is_join}
use Rattle.xv_model.specs.Effect.{Turn}
use Rattle.xv_model.specs.Step.{Entry, Call, NoCall, SourceRead, SourceWrite, DestRead, DestWrite, DestFlush, Put, Take, AckPut, AckTake, guest_call, call, same_call, is_call, step, turn, turn_by, is_flagged, same_turn, same_truth, is_run_from, fault_call, fault_number, is_planned, is_faithful_from}
use Rattle.xv_core.specs.Plans.{follows_from}
use Rattle.xv_parts.specs.Plans.{is_of_kind, numbers_of}
use Rattle.xv_core.proofs.Stepped.After.{plain-answer}

-- a number is listed of a kind exactly where the faults name that call of it
listed-more : (here : Bool) (f : Fault) (fs : List Fault) (n : ℕ) (rest : Bool) → is_listed (map fault_number fs) n ≡ rest → is_listed (map fault_number (if here then f ∷ fs else fs)) n ≡ ((here && (fault_number f == n)) || rest)
listed-more true f fs n rest h = ap (λ (x : Bool). (fault_number f == n) || x) h
listed-more false f fs n rest h = h

listed-any : (faults : List Fault) (c : Call) (n : ℕ) → is_listed (numbers_of faults c) n ≡ list_any (λ f. same_call (fault_call f) c && (fault_number f == n)) faults
listed-any [] c n = refl
listed-any (f ∷ fs) c n = listed-more (is_of_kind c f) f (filter (is_of_kind c) fs) n _ (listed-any fs c n)

listed-planned : (faults : List Fault) (made : List Call) (c : Call) → is_call c ≡ true → is_listed (numbers_of faults c) (count_by (same_call c) made + 1) ≡ is_planned faults made c
listed-planned faults made c some =
    listed-any faults c (count_by (same_call c) made + 1)
    ∙ sym (ap (λ (b : Bool). b && list_any (λ f. same_call (fault_call f) c && (fault_number f == count_by (same_call c) made + 1)) faults) some)

unplanned : (faults : List Fault) (made : List Call) (c : Call) → is_call c ≡ false → is_planned faults made c ≡ false
unplanned faults made c none = ap (λ (b : Bool). b && list_any (λ f. same_call (fault_call f) c && (fault_number f == count_by (same_call c) made + 1)) faults) none

-- a call is of its own kind
own-kind : (c : Call) → same_call c c ≡ true
own-kind NoCall = refl
own-kind SourceRead = refl
own-kind SourceWrite = refl
own-kind DestRead = refl
own-kind DestWrite = refl
own-kind DestFlush = refl
own-kind (Put s) = eq-eqb s s refl
own-kind (Take s) = eq-eqb s s refl
own-kind AckPut = refl
own-kind AckTake = refl

-- an entry of a run whose event makes no call is not flagged
same-flag : (a b : Turn) → same_turn a b ≡ true → is_flagged a ≡ is_flagged b
same-flag (Done m) (Done n) h = refl
same-flag Queued Queued h = refl
same-flag Faulted Faulted h = refl
same-flag (Failed c) (Failed d) h = refl
same-flag a b h = absurd (cc)

unflagged-by : (w : Option Why) (flag calls : Bool) (job : Job) (v : View) (e : Event) → calls ≡ false → is_flagged (turn_by w (flag && calls) job v e) ≡ false
unflagged-by (Some why) flag calls job v e none = refl
unflagged-by None true true job v e none = absurd (cc)
unflagged-by None true false job v e none = (plain-answer job v e).1
unflagged-by None false calls job v e none = (plain-answer job v e).1

no-call : (job : Job) (v : View) (e : Entry) → same_turn e.turn (turn job v e.event (is_flagged e.turn)) ≡ true → is_call (call job v e.event) ≡ false → is_flagged e.turn ≡ false
no-call job v e same none =
    same-flag e.turn (turn job v e.event (is_flagged e.turn)) same
    ∙ unflagged-by (wait job v e.event (is_flagged e.turn)) (is_flagged e.turn) (is_call (call job v e.event)) job v e.event none

-- a call of one of the job's streams, or of no stream
abbrev pub is_in_job : ℕ → Call → Bool
is_in_job streams NoCall = true
is_in_job streams SourceRead = true
is_in_job streams SourceWrite = true
is_in_job streams DestRead = true
is_in_job streams DestWrite = true
is_in_job streams DestFlush = true
is_in_job streams (Put s) = nat_lt s streams
is_in_job streams (Take s) = nat_lt s streams
is_in_job streams AckPut = true
is_in_job streams AckTake = true

guest-in : (streams : ℕ) (queued switched writes : Bool) → is_in_job streams (guest_call queued switched writes) ≡ true
guest-in streams true switched writes = refl
guest-in streams false true true = refl
guest-in streams false true false = refl
guest-in streams false false true = refl
guest-in streams false false false = refl

in-job : (job : Job) (v : View) (e : Event) → fits job e ≡ true → is_in_job job.config.streams (call job v e) ≡ true
in-job job v (Guest g) fit = guest-in job.config.streams (is_join (next_aim job v g.0)) (is_switched v.phase) (is_some (next_operation job v g.0).write)
in-job job v (Begin d) fit = refl
in-job job v (Read d) fit = refl
in-job job v (Advance d) fit = refl
in-job job v (Release d) fit = refl
in-job job v Round fit = refl
in-job job v Page fit = refl
in-job job v (Send s) fit = fit
in-job job v (Deliver s) fit = fit
in-job job v Apply fit = refl
in-job job v Ack fit = refl
in-job job v Credit fit = refl
in-job job v Stun fit = refl
in-job job v Switch fit = refl
in-job job v Cancel fit = refl

-- what each kind follows
abbrev pub AllFollow : Job → View → List Call → List Entry → Type 0
AllFollow job v made es = (c : Call) → is_in_job job.config.streams c ≡ true → is_call c ≡ true → follows_from c (numbers_of job.faults c) job v (count_by (same_call c) made) es ≡ true

one-more : (c d : Call) (made : List Call) (b : Bool) → same_call c d ≡ b → count_by (same_call c) (made ++ d ∷ []) ≡ count_by (same_call c) made + (if b then 1 else 0)
one-more c d made b is = sum_by_push (λ (k : Call). if same_call c k then 1 else 0) made d ∙ ap (λ (x : Bool). count_by (same_call c) made + (if x then 1 else 0)) is

module _ (job : Job) (v : View) (made : List Call) (e : Entry) (es : List Entry) (all : AllFollow job v made (e ∷ es)) where
  abbrev here : Call
  here = call job v e.event

  abbrev later : View
  later = step job v e.event (is_flagged e.turn)

  -- the first entry, and those behind it
  first-flag : is_in_job job.config.streams here ≡ true → same_turn e.turn (turn job v e.event (is_flagged e.turn)) ≡ true → (some : Bool) → is_call here ≡ some → same_truth (is_flagged e.turn) (is_planned job.faults made here) ≡ true
  first-flag fit same true some =
      let n = count_by (same_call here) made in
      let fails = numbers_of job.faults here in
      let both : (same_truth (is_flagged e.turn) (is_listed fails (n + 1)) && follows_from here fails job later (n + 1) es) ≡ true =
      sym (ap (λ (b : Bool). if b then same_truth (is_flagged e.turn) (is_listed fails (n + 1)) && follows_from here fails job later (n + 1) es else follows_from here fails job later n es) (own-kind here)) ∙ all here fit some in
      ap (same_truth (is_flagged e.turn)) (sym (listed-planned job.faults made here some))
      ∙ (and_parts (same_truth (is_flagged e.turn) (is_listed fails (n + 1))) (follows_from here fails job later (n + 1) es) both).0
  first-flag fit same false none =
      ap (same_truth (is_flagged e.turn)) (unplanned job.faults made here none)
      ∙ ap (λ (f : Bool). same_truth f false) (no-call job v e same none)

  rest-follows : AllFollow job later (made ++ here ∷ []) es
  rest-follows c fit some = by-kind (same_call c here) refl
    where
      n : ℕ
      n = count_by (same_call c) made

      fails : List ℕ
      fails = numbers_of job.faults c

      by-kind : (b : Bool) → same_call c here ≡ b → follows_from c fails job later (count_by (same_call c) (made ++ here ∷ [])) es ≡ true
      by-kind true is =
          let both : (same_truth (is_flagged e.turn) (is_listed fails (n + 1)) && follows_from c fails job later (n + 1) es) ≡ true =
          sym (ap (λ (b : Bool). if b then same_truth (is_flagged e.turn) (is_listed fails (n + 1)) && follows_from c fails job later (n + 1) es else follows_from c fails job later n es) is) ∙ all c fit some in
          ap (λ (k : ℕ). follows_from c fails job later k es) (one-more c here made true is)
          ∙ (and_parts (same_truth (is_flagged e.turn) (is_listed fails (n + 1))) (follows_from c fails job later (n + 1) es) both).1
      by-kind false is =
          let same : count_by (same_call c) (made ++ here ∷ []) ≡ n = omega (arith, one-more c here made false is) in
          ap (λ (k : ℕ). follows_from c fails job later k es) same
          ∙ sym (ap (λ (b : Bool). if b then same_truth (is_flagged e.turn) (is_listed fails (n + 1)) && follows_from c fails job later (n + 1) es else follows_from c fails job later n es) is)
          ∙ all c fit some

both : (a b : Bool) → a ≡ true → b ≡ true → (a && b) ≡ true
both a b h k = ap (λ (x : Bool). x && b) h ∙ k

pub faithful-from : (job : Job) (v : View) (made : List Call) (es : List Entry) → list_all (λ e. fits job e.event) es ≡ true → is_run_from job v es ≡ true → AllFollow job v made es → is_faithful_from job v made es ≡ true
faithful-from job v made [] fitting run all = refl
faithful-from job v made (e ∷ es) fitting run all =
    let fit = and_parts (fits job e.event) (list_all (λ (x : Entry). fits job x.event) es) fitting in
    let w = step job v e.event (is_flagged e.turn) in
    let ran = and_parts (same_turn e.turn (turn job v e.event (is_flagged e.turn))) (is_run_from job w es) run in
    let c = call job v e.event in
    both (same_truth (is_flagged e.turn) (is_planned job.faults made c)) (is_faithful_from job w (made ++ c ∷ []) es)
    (first-flag job v made e es all (in-job job v e.event fit.0) ran.0 (is_call c) refl)
    (faithful-from job w (made ++ c ∷ []) es fit.1 ran.1 (rest-follows job v made e es all))
