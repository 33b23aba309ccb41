-- No number of the report is a float.
use Rattle.std.proofs.Common.{◌≡◌, ℕ, Bool, true, false, ◌||◌, true≢false, List, [], ◌∷◌, ◌++◌, Ordering, Less, Equal, Greater, nat_cmp, Option, Some, None, refl, ap, ◌∙◌}
use Rattle.std.specs.Cmp.Lexicographic.{slice_cmp}
use Rattle.std.specs.Ordering.{match_ordering}
use Rattle.serde_json.specs.Data.{Members, no_members, member, Data, put}
use Rattle.serde_json.specs.Written.{has_float, members_have_float, compact_text}
use Rattle.xv_base.specs.declared.event.Totals.{Totals}
use Rattle.xv_report.specs.declared.counts.Count.{Count}
use Rattle.xv_report.specs.Json.{number_value, stun_value, put_workers, workers_value, report_value, report_json}
use Rattle.xv_report.specs.Workers.{Tally, worker_name}

-- both sides of a false choice are false
left-false : (a b : Bool) → (a || b) ≡ false → a ≡ false
left-false true b h = h
left-false false b h = refl

right-false : (a b : Bool) → (a || b) ≡ false → b ≡ false
right-false true b h = absurd (true≢false h)
right-false false b h = h

-- wherever a key goes, no float comes
put-whole-at : (o : Ordering) (k l : List ℕ) (n : ℕ) (e : Data) (ms later : Members) → has_float e ≡ false → members_have_float ms ≡ false → members_have_float later ≡ false
    → members_have_float (match_ordering o (member k (number_value n) (member l e ms)) (member l (number_value n) ms) (member l e later)) ≡ false
put-whole-at Less k l n e ms later h r q = ap (λ (b : Bool). b || members_have_float ms) h ∙ r
put-whole-at Equal k l n e ms later h r q = r
put-whole-at Greater k l n e ms later h r q = ap (λ (b : Bool). b || members_have_float later) h ∙ q

put-whole : (k : List ℕ) (n : ℕ) (ms : Members) → members_have_float ms ≡ false → members_have_float (put k (number_value n) ms) ≡ false
put-whole k n no_members h = refl
put-whole k n (member l e ms) h =
    let here = left-false (has_float e) (members_have_float ms) h in
    let rest = right-false (has_float e) (members_have_float ms) h in
    put-whole-at (slice_cmp nat_cmp k l) k l n e ms (put k (number_value n) ms) here rest (put-whole k n ms rest)

-- the workers' object, the stun and the report have no float
workers-whole : (cs : List Count) (ms : Members) → members_have_float ms ≡ false → members_have_float (put_workers cs ms) ≡ false
workers-whole [] ms h = h
workers-whole (c ∷ cs) ms h = workers-whole cs (put (worker_name c.worker) (number_value c.steps) ms) (put-whole (worker_name c.worker) c.steps ms h)

stun-whole : (o : Option ℕ) → has_float (stun_value o) ≡ false
stun-whole None = refl
stun-whole (Some n) = refl

pub value-whole : (t : Totals) (counts : Option Tally) → has_float (report_value t counts) ≡ false
value-whole t None = ap (λ (b : Bool). b || false) (stun-whole t.stun)
value-whole t (Some tally) =
    ap (λ (b : Bool). b || (has_float (workers_value tally.workers) || false)) (stun-whole t.stun) ∙ ap (λ (b : Bool). b || false) (workers-whole tally.workers no_members refl)

-- so the text is that of the object, and a line feed ends it
pub line-text : (t : Totals) (counts : Option Tally) (report : Data) (text line : List ℕ) → report ≡ report_value t counts → (has_float report ≡ false → text ≡ compact_text report) → line ≡ text ++ 10 ∷ [] → line ≡ report_json t counts
line-text t counts report text line e whole ended =
    ended ∙ ap (λ (r : List ℕ). r ++ 10 ∷ []) (whole (ap has_float e ∙ value-whole t counts) ∙ ap compact_text e)
