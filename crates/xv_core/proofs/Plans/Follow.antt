-- A journal that follows the plans that are told goes on to follow them.
use Rattle.std.specs.Prelude.{◌≡◌, ℕ, ◌+◌, ◌&&◌, Bool, true, false, List, [], ◌∷◌, ◌++◌, Option, Some, None, IfSome, count_by, if◌then◌else◌}
use Rattle.std.proofs.Common.{arith, refl, ap, sym, ◌∙◌, subst}
use Rattle.std.proofs.lemmas.List.Sums.{sum_by-cons}
use Rattle.xv_base.specs.Calls.{is_listed}
use Rattle.xv_device.specs.Device.{Counted as DeviceCounted}
use Rattle.xv_wire.specs.Wire.{Counted as WireCounted}
use Rattle.xv_model.specs.Job.{Job}
use Rattle.xv_model.specs.View.{View, first_view}
use Rattle.xv_model.specs.Wait.{Event}
use Rattle.xv_model.specs.Effect.{Turn}
use Rattle.xv_model.specs.Step.{Entry, Call, SourceRead, SourceWrite, DestRead, DestWrite, DestFlush, Put, Take, AckPut, AckTake, call, same_call, step, after, run, is_flagged, calls_from, same_truth}
use Rattle.xv_model.specs.Outside.{kind, outside, calls_of_kind}
use Rattle.xv_model.proofs.Outside.Calls.{kind-call}
use Rattle.xv_job.specs.Written.{job_of}
use Rattle.xv_streams.specs.Streamed.{lane}
use Rattle.xv_core.specs.Seen.{OnWire, wire}
use Rattle.xv_core.specs.State.{State, IsRunning, view, seen_of, on_back}
use Rattle.xv_core.specs.Happening.{Happened}
use Rattle.xv_core.specs.Counting.{is_of_source, is_of_dest}
use Rattle.xv_core.specs.Plans.{follows_from, follows, takes_met, FollowsIf, FollowsPlans, ArePieces, AllCarried}
use Rattle.xv_core.specs.Rising.{BothTold}
use Rattle.xv_core.proofs.Counting.Steps.{bit, Added, step-adds, step-read-planned, step-write-planned, step-flush-planned}
use Rattle.xv_core.proofs.Counting.Wires.{WireStep, PutAdded, wire-adds, wire-put-planned, wire-is}
use Rattle.xv_core.proofs.Counting.Journal.{then-same, kind-more}
use Rattle.xv_core.proofs.Counting.Fit.{at-source, at-dest, at-wire, at-back}
use Rattle.xv_core.proofs.Plans.Pieces.{MetBy, met-at, back-met}

-- one entry more
and_assoc : (x y z : Bool) → (x && (y && z)) ≡ ((x && y) && z)
and_assoc true y z = refl
and_assoc false y z = refl

and-true : (x : Bool) → (x && true) ≡ x
and-true true = refl
and-true false = refl

abbrev one : Bool → Bool → List ℕ → ℕ → Bool
one same flagged fails n = if same then same_truth flagged (is_listed fails (n + 1)) else true

goes-on : (b here : Bool) (n k m : ℕ) (whole front last : ℕ → Bool) → m ≡ bit b + k → ((i : ℕ) → whole i ≡ (front i && last (i + k)))
    → (if b then here && whole (n + 1) else whole n) ≡ ((if b then here && front (n + 1) else front n) && last (n + m))
goes-on true here n k m whole front last e h =
    let same : n + 1 + k ≡ n + m = omega arith in
    ap (λ (x : Bool). here && x) (h (n + 1)) ∙ and_assoc here (front (n + 1)) (last (n + 1 + k)) ∙ ap (λ (i : ℕ). (here && front (n + 1)) && last i) same
goes-on false here n k m whole front last e h =
    let same : n + k ≡ n + m = omega arith in
    h n ∙ ap (λ (i : ℕ). front n && last i) same

last-one : (same flagged : Bool) (fails : List ℕ) (n : ℕ) → (if same then same_truth flagged (is_listed fails (n + 1)) && true else true) ≡ (true && one same flagged fails (n + 0))
last-one true flagged fails n = let none : n ≡ n + 0 = omega arith in and-true (same_truth flagged (is_listed fails (n + 1))) ∙ ap (λ (k : ℕ). same_truth flagged (is_listed fails (k + 1))) none
last-one false flagged fails n = refl

follows_from-one : (c : Call) (fails : List ℕ) (job : Job) (v : View) (n : ℕ) (es : List Entry) (e : Entry)
    → follows_from c fails job v n (es ++ e ∷ []) ≡ (follows_from c fails job v n es && one (same_call c (call job (after job v es) e.event)) (is_flagged e.turn) fails (n + count_by (same_call c) (calls_from job v es)))
follows_from-one c fails job v n [] e = last-one (same_call c (call job v e.event)) (is_flagged e.turn) fails n
follows_from-one c fails job v n (x ∷ es) e =
    let w = step job v x.event (is_flagged x.turn) in
    goes-on (same_call c (call job v x.event)) (same_truth (is_flagged x.turn) (is_listed fails (n + 1))) n
    (count_by (same_call c) (calls_from job w es)) (count_by (same_call c) (call job v x.event ∷ calls_from job w es))
    (λ i. follows_from c fails job w i (es ++ e ∷ [])) (λ i. follows_from c fails job w i es) (λ i. one (same_call c (call job (after job w es) e.event)) (is_flagged e.turn) fails i)
    (sum_by-cons (λ (k : Call). bit (same_call c k)) (call job v x.event) (calls_from job w es))
    (λ i. follows_from-one c fails job w i es e)

pub follows-one : (c : Call) (fails : List ℕ) (job : Job) (journal : List Entry) (e : Entry)
    → follows c fails job (journal ++ e ∷ []) ≡ (follows c fails job journal && (if same_call c (call job (run job journal) e.event) then same_truth (is_flagged e.turn) (is_listed fails (calls_of_kind job journal c + 1)) else true))
follows-one c fails job journal e =
    let none : 0 + calls_of_kind job journal c ≡ calls_of_kind job journal c = omega arith in
    follows_from-one c fails job (first_view job) 0 journal e
    ∙ ap (λ (k : ℕ). follows c fails job journal && one (same_call c (call job (run job journal) e.event)) (is_flagged e.turn) fails k) none

-- it follows the plan still
truths : (f l : Bool) → f ≡ l → same_truth f l ≡ true
truths true l e = sym e
truths false true e = absurd (cc)
truths false false e = refl

one-follows : (same flagged : Bool) (fails : List ℕ) (n : ℕ) → (same ≡ true → flagged ≡ is_listed fails (n + 1)) → one same flagged fails n ≡ true
one-follows true flagged fails n h = truths flagged (is_listed fails (n + 1)) (h refl)
one-follows false flagged fails n h = refl

under : {A : Type 0} (o : Option A) (X : Type 0) (S : A → Type 0) → (X → IfSome o S) → IfSome o (λ a. X → S a)
under None X S h = tt
under (Some a) X S h = h

flagged-of : (f m x : Bool) → m ≡ true → (f && m) ≡ x → f ≡ x
flagged-of f m x e h = sym (ap (λ (b : Bool). f && b) e ∙ and-true f) ∙ h

module _ (s t : State) (e : Event) (a : Turn) (h : Happened s e a t) where
  abbrev job : Job
  job = job_of s.job

  abbrev kind-made : Call
  kind-made = kind (outside (job_of s.job) (view s) e)

  follow-at : (c : Call) (fails : List ℕ) (n m : ℕ) → m ≡ n + bit (same_call c kind-made) → (same_call c kind-made ≡ true → is_flagged a ≡ is_listed fails (n + 1))
      → FollowsIf n c fails job s.journal → FollowsIf m c fails (job_of t.job) t.journal
  follow-at c fails n m more planned old = λ all.
      let was : n ≡ calls_of_kind job s.journal c = back n m (calls_of_kind job s.journal c) (calls_of_kind (job_of t.job) t.journal c) (bit (same_call c kind-made)) more (kind-more s t e a h c) all in
      let front : follows c fails job s.journal ≡ true = old was in
      let last : one (same_call c kind-made) (is_flagged a) fails (calls_of_kind job s.journal c) ≡ true =
      subst (λ (k : ℕ). one (same_call c kind-made) (is_flagged a) fails k ≡ true) was (one-follows (same_call c kind-made) (is_flagged a) fails n planned) in
      then-same s t e a h (λ j es. follows c fails j es)
      ∙ follows-one c fails job s.journal (record { event = e; turn = a })
      ∙ ap (λ (k : Call). follows c fails job s.journal && one (same_call c k) (is_flagged a) fails (calls_of_kind job s.journal c)) (sym (kind-call job (view s) e))
      ∙ (λ i. front i && last i)
    where
      back : (n m k l b : ℕ) → m ≡ n + b → l ≡ k + b → m ≡ l → n ≡ k
      back n m k l b p q r = omega arith

  follows-told : {A : Type 0} (R : A → A → Type 0) (number : A → ℕ) (fails : A → List ℕ) (k : Call) (o p : Option A) → BothTold R o p
      → ((c d : A) → R c d → fails d ≡ fails c) → ((c d : A) → R c d → number d ≡ number c + bit (same_call k kind-made))
      → IfSome o (λ c. same_call k kind-made ≡ true → is_flagged a ≡ is_listed (fails c) (number c + 1))
      → IfSome o (λ c. FollowsIf (number c) k (fails c) job s.journal) → IfSome p (λ d. FollowsIf (number d) k (fails d) (job_of t.job) t.journal)
  follows-told R number fails k None None r same more planned old = tt
  follows-told R number fails k None (Some d) r same more planned old = absurd r
  follows-told R number fails k (Some c) None r same more planned old = absurd r
  follows-told R number fails k (Some c) (Some d) r same more planned old =
      subst (λ (xs : List ℕ). FollowsIf (number d) k xs (job_of t.job) t.journal) (sym (same c d r)) (follow-at k (fails c) (number c) (number d) (more c d r) planned old)

  -- of a device
  source-read : (c : Call) → same_call SourceRead c ≡ true → is_of_source c ≡ true
  source-read SourceRead e = refl
  source-read c e = absurd (cc)

  source-write : (c : Call) → same_call SourceWrite c ≡ true → is_of_source c ≡ true
  source-write SourceWrite e = refl
  source-write c e = absurd (cc)

  dest-read : (c : Call) → same_call DestRead c ≡ true → is_of_dest c ≡ true
  dest-read DestRead e = refl
  dest-read c e = absurd (cc)

  dest-write : (c : Call) → same_call DestWrite c ≡ true → is_of_dest c ≡ true
  dest-write DestWrite e = refl
  dest-write c e = absurd (cc)

  dest-flush : (c : Call) → same_call DestFlush c ≡ true → is_of_dest c ≡ true
  dest-flush DestFlush e = refl
  dest-flush c e = absurd (cc)

  flags : (o : Option DeviceCounted) (mine : Bool) (fails : DeviceCounted → List ℕ) (number : DeviceCounted → ℕ) → mine ≡ true
      → IfSome o (λ c. (is_flagged a && mine) ≡ is_listed (fails c) (number c + 1)) → IfSome o (λ c. is_flagged a ≡ is_listed (fails c) (number c + 1))
  flags None mine fails number is p = tt
  flags (Some c) mine fails number is p = flagged-of (is_flagged a) mine (is_listed (fails c) (number c + 1)) is p

  -- of a wire
  puts-follow : (k : Call) (take mine : Bool) (old new : OnWire) → WireStep (same_call k kind-made) take mine (is_flagged a) old new
      → IfSome old.told.counted (λ c. FollowsIf c.puts k c.plan.puts job s.journal) → IfSome new.told.counted (λ c. FollowsIf c.puts k c.plan.puts (job_of t.job) t.journal)
  puts-follow k take mine old new w was =
      follows-told (PutAdded (same_call k kind-made)) (λ c. c.puts) (λ c. c.plan.puts) k old.told.counted new.told.counted (wire-adds _ take mine (is_flagged a) old new w)
      (λ c d ad. ap (λ p. p.puts) ad.plan) (λ c d ad. ad.puts)
      (under old.told.counted (same_call k kind-made ≡ true) (λ c. is_flagged a ≡ is_listed c.plan.puts (c.puts + 1)) (wire-put-planned _ take mine (is_flagged a) old new w)) was

  takes-follow : (k : Call) (o p : Option WireCounted) → BothTold (MetBy (same_call k kind-made) (is_flagged a)) o p
      → IfSome o (λ c. FollowsIf (takes_met c) k c.plan.takes job s.journal) → IfSome p (λ c. FollowsIf (takes_met c) k c.plan.takes (job_of t.job) t.journal)
  takes-follow k o p met was =
      follows-told (MetBy (same_call k kind-made) (is_flagged a)) takes_met (λ c. c.plan.takes) k o p met (λ c d m. ap (λ p. p.takes) m.plan) (λ c d m. m.met) (planned o p met) was
    where
      planned : (o p : Option WireCounted) → BothTold (MetBy (same_call k kind-made) (is_flagged a)) o p → IfSome o (λ c. same_call k kind-made ≡ true → is_flagged a ≡ is_listed c.plan.takes (takes_met c + 1))
      planned None p m = tt
      planned (Some c) None m = absurd m
      planned (Some c) (Some d) m = m.planned

  pub met-wire : (k : ℕ) → BothTold (MetBy (same_call (Take k) kind-made) (is_flagged a)) (lane s.streams k).wire.counted (lane t.streams k).wire.counted
      → BothTold (MetBy (same_call (Take k) kind-made) (is_flagged a)) (wire (seen_of s) k).told.counted (wire (seen_of t) k).told.counted
  met-wire k m =
      subst (λ (w : OnWire). BothTold (MetBy (same_call (Take k) kind-made) (is_flagged a)) w.told.counted (wire (seen_of t) k).told.counted) (sym (wire-is s.streams.lanes k))
      (subst (λ (w : OnWire). BothTold (MetBy (same_call (Take k) kind-made) (is_flagged a)) (lane s.streams k).wire.counted w.told.counted) (sym (wire-is t.streams.lanes k)) m)

  pub follows-plans : IsRunning s → AllCarried (job_of s.job) s → AllCarried (job_of s.job) t → ArePieces s → FollowsPlans (seen_of s) → FollowsPlans (seen_of t)
  follows-plans running cs ct p f =
      let src = at-source s t e a h in
      let dst = at-dest s t e a h in
      record {
        source_reads = follows-told (Added _ _ false) (λ c. c.calls.reads) (λ c. c.plan.reads) SourceRead s.source.told.counted t.source.told.counted (step-adds _ _ _ _ _ _ _ src)
            (λ c d ad. ap (λ p. p.reads) ad.plan) (λ c d ad. ad.reads)
            (under s.source.told.counted (same_call SourceRead kind-made ≡ true) (λ c. is_flagged a ≡ is_listed c.plan.reads (c.calls.reads + 1))
            (λ is. flags s.source.told.counted (is_of_source kind-made) (λ c. c.plan.reads) (λ c. c.calls.reads) (source-read kind-made is) (step-read-planned _ _ _ _ _ _ _ src is))) f.source_reads;
        source_writes = follows-told (Added _ _ false) (λ c. c.calls.writes) (λ c. c.plan.writes) SourceWrite s.source.told.counted t.source.told.counted (step-adds _ _ _ _ _ _ _ src)
            (λ c d ad. ap (λ p. p.writes) ad.plan) (λ c d ad. ad.writes)
            (under s.source.told.counted (same_call SourceWrite kind-made ≡ true) (λ c. is_flagged a ≡ is_listed c.plan.writes (c.calls.writes + 1))
            (λ is. flags s.source.told.counted (is_of_source kind-made) (λ c. c.plan.writes) (λ c. c.calls.writes) (source-write kind-made is) (step-write-planned _ _ _ _ _ _ _ src is))) f.source_writes;
        dest_reads = follows-told (Added _ _ _) (λ c. c.calls.reads) (λ c. c.plan.reads) DestRead s.dest.told.counted t.dest.told.counted (step-adds _ _ _ _ _ _ _ dst)
            (λ c d ad. ap (λ p. p.reads) ad.plan) (λ c d ad. ad.reads)
            (under s.dest.told.counted (same_call DestRead kind-made ≡ true) (λ c. is_flagged a ≡ is_listed c.plan.reads (c.calls.reads + 1))
            (λ is. flags s.dest.told.counted (is_of_dest kind-made) (λ c. c.plan.reads) (λ c. c.calls.reads) (dest-read kind-made is) (step-read-planned _ _ _ _ _ _ _ dst is))) f.dest_reads;
        dest_writes = follows-told (Added _ _ _) (λ c. c.calls.writes) (λ c. c.plan.writes) DestWrite s.dest.told.counted t.dest.told.counted (step-adds _ _ _ _ _ _ _ dst)
            (λ c d ad. ap (λ p. p.writes) ad.plan) (λ c d ad. ad.writes)
            (under s.dest.told.counted (same_call DestWrite kind-made ≡ true) (λ c. is_flagged a ≡ is_listed c.plan.writes (c.calls.writes + 1))
            (λ is. flags s.dest.told.counted (is_of_dest kind-made) (λ c. c.plan.writes) (λ c. c.calls.writes) (dest-write kind-made is) (step-write-planned _ _ _ _ _ _ _ dst is))) f.dest_writes;
        flushes = follows-told (Added _ _ _) (λ c. c.calls.flushes) (λ c. c.plan.flushes) DestFlush s.dest.told.counted t.dest.told.counted (step-adds _ _ _ _ _ _ _ dst)
            (λ c d ad. ap (λ p. p.flushes) ad.plan) (λ c d ad. ad.flushes)
            (under s.dest.told.counted (same_call DestFlush kind-made ≡ true) (λ c. is_flagged a ≡ is_listed c.plan.flushes (c.calls.flushes + 1))
            (λ is. flags s.dest.told.counted (is_of_dest kind-made) (λ c. c.plan.flushes) (λ c. c.calls.flushes) (dest-flush kind-made is) (step-flush-planned _ _ _ _ _ _ _ dst is))) f.flushes;
        puts = λ k. puts-follow (Put k) _ _ (wire (seen_of s) k) (wire (seen_of t) k) (at-wire s t e a h k) (f.puts k);
        takes = λ k. takes-follow (Take k) (wire (seen_of s) k).told.counted (wire (seen_of t) k).told.counted (met-wire k (met-at s t e a running h cs ct p k)) (f.takes k);
        back_puts = puts-follow AckPut _ _ (on_back s.back) (on_back t.back) (at-back s t e a h) f.back_puts;
        back_takes = takes-follow AckTake s.back.wire.counted t.back.wire.counted (back-met s t e a running h cs ct p) f.back_takes;
      }
