-- The lines of a good job are read one by one: each line from the draft before it.
use Rattle.std.proofs.Common.{◌≡◌, ℕ, ◌+◌, ◌^◌, ◌<◌, ◌≤◌, ◌==◌, ◌&&◌, ◌||◌, Bool, true, false, List, [], ◌∷◌, ◌++◌, length, Option, Some, None, sum_by, nat_lt, nat_le, codes, decimal, refl, sym, ap, ◌∙◌, subst, arith, inl, inr, ◌⊎◌, lit<}
use Rattle.std.specs.List.{list_any}
use Rattle.std.proofs.lemmas.Bool.{and_parts, and_from, cases_lt}
use Rattle.std.proofs.lemmas.Bool.Decides.{nat_tests}
use Rattle.std.proofs.lemmas.Fmt.{decimal_digit}
use Rattle.xv_base.specs.declared.text.LineWhy.TheVariants.{Limit, Order, OutOfRange, TooMany}
use Rattle.xv_base.specs.declared.unit.DiskShape.{DiskShape}
use Rattle.xv_base.specs.declared.limits.Config.{Config}
use Rattle.xv_base.specs.declared.limits.Fault.{Fault}
use Rattle.xv_base.specs.declared.limits.Fault.TheVariants.{SourceRead, SourceWrite, DestRead, DestWrite, Flush, Put, Take, AckPut, AckTake}
use Rattle.xv_base.specs.declared.pattern.Init.{Init}
use Rattle.xv_base.specs.Hex.{hex}
use Rattle.xv_base.specs.Units.{Shape, shape_of, units}
use Rattle.xv_base.specs.Layout.{IsGood}
use Rattle.xv_text.specs.Fields.{fault_if, IsPattern}
use Rattle.xv_trace.specs.declared.op.Op.{Op}
use Rattle.xv_trace.specs.declared.op.Op.TheVariants.{Store, Load, Write, Fetch}
use Rattle.xv_trace.specs.declared.op.Verb.{Verb}
use Rattle.xv_trace.specs.Operations.{op_fault, op_count, count_all}
use Rattle.xv_trace.specs.OpText.{head, tail, op_fields, IsGoodOp}
use Rattle.xv_job.specs.declared.word.Word.{Word}
use Rattle.xv_job.specs.declared.word.Word.TheVariants.{Job as JobWord, Pages, Disk, Streams, Credit, Outbox, Region, Rounds, Dirty, Group, Cancel, Fault as FaultWord, Init as InitWord, Guest, Operation, End}
use Rattle.xv_job.specs.Words.{needed, may_come, call_of, word_of}
use Rattle.xv_job.specs.Draft.{Draft, first_draft, draft_by, next_draft, line_fault, word_fault, is_in_traces, is_complete, outside, planned_fault, faults_said, has_bad_number, plan_fault, operation_fault, operations_so_far, after_last, exceeds, with_op, region_fault}
use Rattle.xv_job.specs.JobText.{fault_fields, init_fields, disk_fields}
use Rattle.xv_job.specs.Written.{Written, fault_number}
use Rattle.xv_model.specs.Job.{is_good_fault}
use Rattle.xv_job.proofs.Args.{says_one, says_two, says_bytes, op_says, verb_in}
use Rattle.xv_job.proofs.Parts.{IsFine, fine_back, both_none, there_not, within}
use Rattle.xv_job.proofs.Shapes.{pages_pass, disk_passes, above_not}
use Rattle.xv_job.proofs.Head.{IsFormat, Between, config_of, head_job, draft_at}
use Rattle.xv_job.proofs.Lists.{with_op_is}

-- a line that is read from one draft to the next
pub record IsStep (d : Draft) (l : List (List ℕ)) (e : Draft) : Type 0 where
  pub more : is_complete d ≡ false
  pub no_fault : line_fault d l ≡ None
  pub next : next_draft d l ≡ e

-- and lines one after another
abbrev pub Reads : Draft → List (List (List ℕ)) → Draft → Type 0
Reads d [] e = d ≡ e
Reads d (l ∷ ls) e = (is_complete d ≡ false) × (line_fault d l ≡ None) × Reads (next_draft d l) ls e

pub reads_then : (d : Draft) (ls more : List (List (List ℕ))) (m e : Draft) → Reads d ls m → Reads m more e → Reads d (ls ++ more) e
reads_then d [] more m e h k = let P : Draft → Type 0 = λ x. Reads x more e in subst P (sym h) k
reads_then d (l ∷ ls) more m e h k = (h.0, h.1, reads_then (next_draft d l) ls more m e h.2 k)

pub reads_one : (d : Draft) (l : List (List ℕ)) (ls : List (List (List ℕ))) (m e : Draft) → IsStep d l m → Reads m ls e → Reads d (l ∷ ls) e
reads_one d l ls m e s k = let P : Draft → Type 0 = λ x. Reads x ls e in (s.more, s.no_fault, subst P (sym s.next) k)

-- a line passes all tests
pub step : (d : Draft) (word : List ℕ) (args : List (List ℕ)) (w : Word) (e : Draft) → is_complete d ≡ false → word_of (is_in_traces d) word ≡ Some w → IsFine d w args → draft_by d (Some w) args ≡ e → IsStep d (word ∷ args) e
step d word args w e more is h next =
    let P : Option Word → Type 0 = λ o. word_fault d o args ≡ None in
    record {
      more = more;
      no_fault = subst P (sym is) (fine_back d w args h);
      next = ap (λ (o : Option Word). draft_by d o args) is ∙ next;
    }

-- the format
one_is : codes "1" ≡ decimal 1
one_is = sym (decimal_digit 1 (lit< tt))

two_is : codes "2" ≡ decimal 2
two_is = sym (decimal_digit 2 (lit< tt))

job_one : IsStep first_draft (codes "job" ∷ codes "1" ∷ []) (draft_at 1 1 (shape_of 0 0 []) (config_of 0 0 0 0 0 0))
job_one = step first_draft (codes "job") (codes "1" ∷ []) JobWord _ refl refl (record { comes = refl; said_well = refl; numbers = refl }) refl

job_two : IsStep first_draft (codes "job" ∷ codes "2" ∷ []) (draft_at 1 2 (shape_of 0 0 []) (config_of 0 0 0 0 0 0))
job_two = step first_draft (codes "job") (codes "2" ∷ []) JobWord _ refl refl (record { comes = refl; said_well = refl; numbers = refl }) refl

pub step_job : (f : ℕ) → IsFormat f → IsStep first_draft (codes "job" ∷ decimal f ∷ []) (draft_at 1 f (shape_of 0 0 []) (config_of 0 0 0 0 0 0))
step_job f (inl e) =
    let P : ℕ → Type 0 = λ n. IsStep first_draft (codes "job" ∷ decimal n ∷ []) (draft_at 1 n (shape_of 0 0 []) (config_of 0 0 0 0 0 0)) in
    let Q : List ℕ → Type 0 = λ t. IsStep first_draft (codes "job" ∷ t ∷ []) (draft_at 1 1 (shape_of 0 0 []) (config_of 0 0 0 0 0 0)) in
    subst P (sym e) (subst Q one_is job_one)
step_job f (inr e) =
    let P : ℕ → Type 0 = λ n. IsStep first_draft (codes "job" ∷ decimal n ∷ []) (draft_at 1 n (shape_of 0 0 []) (config_of 0 0 0 0 0 0)) in
    let Q : List ℕ → Type 0 = λ t. IsStep first_draft (codes "job" ∷ t ∷ []) (draft_at 1 2 (shape_of 0 0 []) (config_of 0 0 0 0 0 0)) in
    subst P (sym e) (subst Q two_is job_two)

any_format : (f : ℕ) → (f == 2 || true) ≡ true
any_format f = grind (arith, nat_tests)

-- the pages
pub step_pages : (f p z : ℕ) → IsGood (shape_of p z []) → p < 2 ^ 32 → z < 2 ^ 32 → IsStep (draft_at 1 f (shape_of 0 0 []) (config_of 0 0 0 0 0 0)) (codes "pages" ∷ decimal p ∷ decimal z ∷ []) (draft_at 2 f (shape_of p z []) (config_of 0 0 0 0 0 0))
step_pages f p z good hp hz =
    let d = draft_at 1 f (shape_of 0 0 []) (config_of 0 0 0 0 0 0) in
    let says = says_two p z hp hz in
    let args = decimal p ∷ decimal z ∷ [] in
    step d (codes "pages") args Pages _ refl refl
    (record {
      comes = rw (any_format f) refl;
      said_well = says.0;
      numbers = rw (says.1, says.2) (pages_pass d.job p z refl good);
    })
    (rw (says.1, says.2) refl)

-- the tests of ranks at the ranks that may be there
ends_later : (last : ℕ) → (last ≡ 2) ⊎ (last ≡ 3) → (last == 15) ≡ false
ends_later last (inl e) = rw e refl
ends_later last (inr e) = rw e refl

disk_comes : (f last : ℕ) → (last ≡ 2) ⊎ (last ≡ 3) → may_come f last Disk ≡ true
disk_comes f last (inl e) = rw (e, any_format f) refl
disk_comes f last (inr e) = rw (e, any_format f) refl

streams_come : (f last : ℕ) → (last ≡ 2) ⊎ (last ≡ 3) → may_come f last Streams ≡ true
streams_come f last (inl e) = rw (e, any_format f) refl
streams_come f last (inr e) = rw (e, any_format f) refl

-- a disk; the drafts behind the pages and behind a disk differ in their rank alone
pub step_disk : (last f p z : ℕ) (ds : List DiskShape) (x : DiskShape) (more : List DiskShape) → (last ≡ 2) ⊎ (last ≡ 3) → IsGood (shape_of p z (ds ++ x ∷ more)) → 1 ≤ x.blocks → x.blocks < 2 ^ 32 → x.block_size < 2 ^ 32 → IsStep (draft_at last f (shape_of p z ds) (config_of 0 0 0 0 0 0)) (disk_fields x) (draft_at 3 f (shape_of p z (ds ++ x ∷ [])) (config_of 0 0 0 0 0 0))
step_disk last f p z ds x more at good some hb hz =
    let d = draft_at last f (shape_of p z ds) (config_of 0 0 0 0 0 0) in
    let says = says_two x.blocks x.block_size hb hz in
    let args = decimal x.blocks ∷ decimal x.block_size ∷ [] in
    step d (codes "disk") args Disk _ (ends_later last at) refl
    (record {
      comes = disk_comes f last at;
      said_well = says.0;
      numbers = rw (says.1, says.2) (disk_passes d.job x more good some);
    })
    (rw (says.1, says.2) refl)

-- a limit
pub step_streams : (last f : ℕ) (s : Shape) (a : ℕ) → (last ≡ 2) ⊎ (last ≡ 3) → Between 1 8 a → IsStep (draft_at last f s (config_of 0 0 0 0 0 0)) (codes "streams" ∷ decimal a ∷ []) (draft_at 4 f s (config_of a 0 0 0 0 0))
step_streams last f s a at ha =
    let says = says_one a (omega (arith, ha.1)) in
    step (draft_at last f s (config_of 0 0 0 0 0 0)) (codes "streams") (decimal a ∷ []) Streams _ (ends_later last at) refl
    (record { comes = streams_come f last at; said_well = says.0; numbers = rw says.1 (within 8 1 8 a ha.0 ha.1) })
    (rw says.1 refl)

pub step_credit : (f : ℕ) (s : Shape) (a b : ℕ) → Between 1 1024 b → IsStep (draft_at 4 f s (config_of a 0 0 0 0 0)) (codes "credit" ∷ decimal b ∷ []) (draft_at 5 f s (config_of a b 0 0 0 0))
step_credit f s a b hb =
    let says = says_one b (omega (arith, hb.1)) in
    step (draft_at 4 f s (config_of a 0 0 0 0 0)) (codes "credit") (decimal b ∷ []) Credit _ refl refl
    (record { comes = rw (any_format f) refl; said_well = says.0; numbers = rw says.1 (within 9 1 1024 b hb.0 hb.1) })
    (rw says.1 refl)

pub step_outbox : (f : ℕ) (s : Shape) (a b c : ℕ) → Between 1 1024 c → IsStep (draft_at 5 f s (config_of a b 0 0 0 0)) (codes "outbox" ∷ decimal c ∷ []) (draft_at 6 f s (config_of a b c 0 0 0))
step_outbox f s a b c hc =
    let says = says_one c (omega (arith, hc.1)) in
    step (draft_at 5 f s (config_of a b 0 0 0 0)) (codes "outbox") (decimal c ∷ []) Outbox _ refl refl
    (record { comes = rw (any_format f) refl; said_well = says.0; numbers = rw says.1 (within 10 1 1024 c hc.0 hc.1) })
    (rw says.1 refl)

region_passes : (w : Written) (n : ℕ) → Between 1 256 n → n ≤ w.config.outbox → region_fault w n ≡ None
region_passes w n h le = both_none (outside 11 1 256 n) (fault_if (nat_lt w.config.outbox n) (Limit 11)) (within 11 1 256 n h.0 h.1) (there_not (nat_lt w.config.outbox n) (Limit 11) (above_not n w.config.outbox le))

pub step_region : (f : ℕ) (s : Shape) (a b c d : ℕ) → Between 1 256 d → d ≤ c → IsStep (draft_at 6 f s (config_of a b c 0 0 0)) (codes "region" ∷ decimal d ∷ []) (draft_at 7 f s (config_of a b c d 0 0))
step_region f s a b c d hd less =
    let says = says_one d (omega (arith, hd.1)) in
    step (draft_at 6 f s (config_of a b c 0 0 0)) (codes "region") (decimal d ∷ []) Region _ refl refl
    (record { comes = rw (any_format f) refl; said_well = says.0; numbers = rw says.1 (region_passes (head_job f s (config_of a b c 0 0 0)) d hd less) })
    (rw says.1 refl)

pub step_rounds : (f : ℕ) (s : Shape) (a b c d m : ℕ) → Between 1 64 m → IsStep (draft_at 7 f s (config_of a b c d 0 0)) (codes "rounds" ∷ decimal m ∷ []) (draft_at 8 f s (config_of a b c d m 0))
step_rounds f s a b c d m hm =
    let says = says_one m (omega (arith, hm.1)) in
    step (draft_at 7 f s (config_of a b c d 0 0)) (codes "rounds") (decimal m ∷ []) Rounds _ refl refl
    (record { comes = rw (any_format f) refl; said_well = says.0; numbers = rw says.1 (within 12 1 64 m hm.0 hm.1) })
    (rw says.1 refl)

pub step_dirty : (f : ℕ) (s : Shape) (a b c d m t : ℕ) → t ≤ 2 ^ 20 → IsStep (draft_at 8 f s (config_of a b c d m 0)) (codes "dirty" ∷ decimal t ∷ []) (draft_at 9 f s (config_of a b c d m t))
step_dirty f s a b c d m t ht =
    let says = says_one t (omega (arith, ht)) in
    step (draft_at 8 f s (config_of a b c d m 0)) (codes "dirty") (decimal t ∷ []) Dirty _ refl refl
    (record { comes = rw (any_format f) refl; said_well = says.0; numbers = rw says.1 (within 13 0 (2 ^ 20) t (omega arith) ht) })
    (rw says.1 refl)

-- drafts behind the limits
abbrev pub draft_in : ℕ → Shape → ℕ → ℕ → Config → List Fault → List Init → List (List Op) → Draft
draft_in last shape format group config faults inits traces =
    record { last = last; job = record { shape = shape; format = format; group = group; config = config; faults = faults; init = inits; traces = traces } }

pub step_group : (s : Shape) (g : ℕ) (k : Config) → Between 1 16 g → IsStep (draft_in 9 s 2 1 k [] [] []) (codes "group" ∷ decimal g ∷ []) (draft_in 10 s 2 g k [] [] [])
step_group s g k hg =
    let says = says_one g (omega (arith, hg.1)) in
    step (draft_in 9 s 2 1 k [] [] []) (codes "group") (decimal g ∷ []) Group _ refl refl
    (record { comes = refl; said_well = says.0; numbers = rw says.1 (within 18 1 16 g hg.0 hg.1) })
    (rw says.1 refl)

-- where a body's lines may come
pub record IsBehind (format last : ℕ) : Type 0 where
  pub low : 9 ≤ last
  pub high : last ≤ 14
  pub first : last ≡ 9 → format ≡ 1

needed_body : (f last : ℕ) → 9 ≤ last → last ≤ 13 → (last ≡ 9 → f ≡ 1) → needed f last ≡ 14
needed_body f last l h first = grind (arith, nat_tests)

le_test : (a b : ℕ) → a ≤ b → nat_le a b ≡ true
le_test a b h = grind (arith, nat_tests)

eq_test : (a b : ℕ) → a ≡ b → (a == b) ≡ true
eq_test a b h = grind (arith, nat_tests)

or_last : (a b r c : Bool) → b ≡ true → r ≡ true → c ≡ true → ((a || (b && r)) && c) ≡ true
or_last true b r c e f g = rw g refl
or_last false b r c e f g = rw (e, f, g) refl

body_comes : (f last n : ℕ) (r : Bool) → IsBehind f last → last ≤ 13 → 11 ≤ n → n ≤ 14 → ((last < n) ⊎ ((last ≡ n) × (r ≡ true))) → ((nat_lt last n || (last == n && r)) && nat_le n (needed f last)) ≡ true
body_comes f last n r b high low few (inl lt) =
    let first = b.first in
    let l = b.low in
    let a : nat_lt last n ≡ true = grind (arith, nat_tests) in
    let needed_is = needed_body f last l high first in
    let c : nat_le n (needed f last) ≡ true = rw needed_is (le_test n 14 few) in
    rw (a, c) refl
body_comes f last n r b high low few (inr (e, k)) =
    let l = b.low in
    let first = b.first in
    let needed_is = needed_body f last l high first in
    let c : nat_le n (needed f last) ≡ true = rw needed_is (le_test n 14 few) in
    or_last (nat_lt last n) (last == n) r (nat_le n (needed f last)) (eq_test last n e) k c

goes_on : (last : ℕ) → last ≤ 14 → (last == 15) ≡ false
goes_on last h = grind (arith, nat_tests)

least_not : (n m : ℕ) → n < m → nat_le m n ≡ false
least_not n m h = grind (arith, nat_tests)

up_to : (last n : ℕ) → last ≤ n → (last < n) ⊎ ((last ≡ n) × (true ≡ true))
up_to last n h = elim (cases_lt last n) [
  | inl lt ↦ inl lt
  | inr ge ↦ inr (omega arith, refl)
]

cancel_comes : (f last : ℕ) → IsBehind f last → last < 11 → may_come f last Cancel ≡ true
cancel_comes f last b h = and_from _ _ (body_comes f last 11 false b (omega arith) (omega arith) (omega arith) (inl h)) (any_format f)

fault_comes : (f last : ℕ) → IsBehind f last → last ≤ 12 → may_come f last FaultWord ≡ true
fault_comes f last b h = and_from _ _ (body_comes f last 12 true b (omega arith) (omega arith) (omega arith) (up_to last 12 h)) (any_format f)

init_comes : (f last : ℕ) → IsBehind f last → last ≤ 13 → may_come f last InitWord ≡ true
init_comes f last b h = and_from _ _ (body_comes f last 13 true b (omega arith) (omega arith) (omega arith) (up_to last 13 h)) (any_format f)

guest_comes : (f last : ℕ) → IsBehind f last → may_come f last Guest ≡ true
guest_comes f last b = elim (cases_lt last 14) [
  | inl lt ↦ and_from _ _ (body_comes f last 14 true b (omega arith) (omega arith) (omega arith) (inl lt)) (any_format f)
  | inr ge ↦ let high = b.high in let e : last ≡ 14 = omega arith in rw (e, any_format f) refl
]

-- a cancel number
pub step_cancel : (last : ℕ) (s : Shape) (f g : ℕ) (k : Config) (n : ℕ) → IsBehind f last → last < 11 → n < 2 ^ 32 → IsStep (draft_in last s f g k [] [] []) (codes "cancel" ∷ decimal n ∷ []) (draft_in 11 s f g (record k { cancel = Some n }) [] [] [])
step_cancel last s f g k n b before small =
    let says = says_one n small in
    step (draft_in last s f g k [] [] []) (codes "cancel") (decimal n ∷ []) Cancel _ (goes_on last b.high) refl
    (record { comes = cancel_comes f last b before; said_well = says.0; numbers = refl })
    (rw says.1 refl)

-- a planned fault
pub record IsFaultSaid (x : Fault) : Type 0 where
  pub said_well : planned_fault (call_of (head (tail (fault_fields x)))) (tail (tail (fault_fields x))) ≡ None
  pub said : faults_said (call_of (head (tail (fault_fields x)))) (tail (tail (fault_fields x))) ≡ x ∷ []
  pub word : fault_fields x ≡ codes "fault" ∷ tail (fault_fields x)

lt_of : (a b : ℕ) → nat_lt a b ≡ true → a < b
lt_of a b h = grind (arith, nat_tests)

stream_small : (s k streams : ℕ) → streams ≤ 8 → (nat_lt 0 k && nat_lt s streams) ≡ true → s < 2 ^ 32
stream_small s k streams few h =
    let a : nat_lt s streams ≡ true = (and_parts (nat_lt 0 k) (nat_lt s streams) h).1 in
    let b = lt_of s streams a in
    omega arith

zero_not : (k : ℕ) → nat_lt 0 k ≡ true → ((k == 0) || false) ≡ false
zero_not k h = grind (arith, nat_tests)

pub fault_said : (x : Fault) → fault_number x < 2 ^ 32 → (streams : ℕ) → streams ≤ 8 → is_good_fault streams x ≡ true → IsFaultSaid x
fault_said (SourceRead k) h streams few good = let says = says_one k h in record { said_well = says.0; said = rw says.1 refl; word = refl }
fault_said (SourceWrite k) h streams few good = let says = says_one k h in record { said_well = says.0; said = rw says.1 refl; word = refl }
fault_said (DestRead k) h streams few good = let says = says_one k h in record { said_well = says.0; said = rw says.1 refl; word = refl }
fault_said (DestWrite k) h streams few good = let says = says_one k h in record { said_well = says.0; said = rw says.1 refl; word = refl }
fault_said (Flush k) h streams few good = let says = says_one k h in record { said_well = says.0; said = rw says.1 refl; word = refl }
fault_said (Put s k) h streams few good =
    let a = stream_small s k streams few good in
    let says = says_two s k a h in record { said_well = says.0; said = rw (says.1, says.2) refl; word = refl }
fault_said (Take s k) h streams few good =
    let a = stream_small s k streams few good in
    let says = says_two s k a h in record { said_well = says.0; said = rw (says.1, says.2) refl; word = refl }
fault_said (AckPut k) h streams few good = let says = says_one k h in record { said_well = says.0; said = rw says.1 refl; word = refl }
fault_said (AckTake k) h streams few good = let says = says_one k h in record { said_well = says.0; said = rw says.1 refl; word = refl }

pub no_bad_number : (streams : ℕ) (x : Fault) → is_good_fault streams x ≡ true → has_bad_number streams x ≡ false
no_bad_number streams (SourceRead k) h = zero_not k h
no_bad_number streams (SourceWrite k) h = zero_not k h
no_bad_number streams (DestRead k) h = zero_not k h
no_bad_number streams (DestWrite k) h = zero_not k h
no_bad_number streams (Flush k) h = zero_not k h
no_bad_number streams (Put s k) h = let a = and_parts (nat_lt 0 k) (nat_lt s streams) h in rw a.1 (zero_not k a.0)
no_bad_number streams (Take s k) h = let a = and_parts (nat_lt 0 k) (nat_lt s streams) h in rw a.1 (zero_not k a.0)
no_bad_number streams (AckPut k) h = zero_not k h
no_bad_number streams (AckTake k) h = zero_not k h

plan_passes : (w : Written) (said : List Fault) (x : Fault) → said ≡ x ∷ [] → length w.faults < 32 → is_good_fault w.config.streams x ≡ true → plan_fault w said ≡ None
plan_passes w said x e few good =
    let none : has_bad_number w.config.streams x ≡ false = no_bad_number w.config.streams x good in
    let any : list_any (has_bad_number w.config.streams) said ≡ false = ap (list_any (has_bad_number w.config.streams)) e ∙ rw none refl in
    both_none (fault_if (nat_le 32 (length w.faults)) (Limit 15)) (fault_if (list_any (has_bad_number w.config.streams) said) (Limit 16)) (there_not (nat_le 32 (length w.faults)) (Limit 15) (least_not (length w.faults) 32 few)) (there_not (list_any (has_bad_number w.config.streams) said) (Limit 16) any)

pub step_fault : (last : ℕ) (s : Shape) (f g : ℕ) (k : Config) (fs : List Fault) (x : Fault) → IsBehind f last → last ≤ 12 → k.streams ≤ 8 → fault_number x < 2 ^ 32 → is_good_fault k.streams x ≡ true → length fs < 32 → IsStep (draft_in last s f g k fs [] []) (fault_fields x) (draft_in 12 s f g k (fs ++ x ∷ []) [] [])
step_fault last s f g k fs x b before streams small good few =
    let d = draft_in last s f g k fs [] [] in
    let said = fault_said x small k.streams streams good in
    let P : List (List ℕ) → Type 0 = λ l. IsStep d l (draft_in 12 s f g k (fs ++ x ∷ []) [] []) in
    subst P (sym said.word)
    (step d (codes "fault") (tail (fault_fields x)) FaultWord _ (goes_on last b.high) refl
    (record { comes = fault_comes f last b before; said_well = said.said_well; numbers = plan_passes d.job (faults_said (call_of (head (tail (fault_fields x)))) (tail (tail (fault_fields x)))) x said.said few good })
    (ap (λ (ys : List Fault). draft_in 12 s f g k (fs ++ ys) [] []) said.said))

-- a first content
pub step_init : (last : ℕ) (s : Shape) (f g : ℕ) (k : Config) (fs : List Fault) (is : List Init) (x : Init) → IsBehind f last → last ≤ 13 → IsGood s → x.unit.0 < units s → units s ≤ 2 ^ 20 → after_last is ≤ x.unit.0 → IsPattern x.pattern → IsStep (draft_in last s f g k fs is []) (init_fields x) (draft_in 13 s f g k fs (is ++ x ∷ []) [])
step_init last s f g k fs is x b before good there few rises pattern =
    let d = draft_in last s f g k fs is [] in
    let says = says_bytes x.unit.0 x.pattern (omega arith) pattern in
    step d (codes "init") (decimal x.unit.0 ∷ hex x.pattern ∷ []) InitWord _ (goes_on last b.high) refl
    (record {
      comes = init_comes f last b before;
      said_well = says.0;
      numbers = rw says.1 (both_none (fault_if (nat_le (units s) x.unit.0) OutOfRange) (fault_if (nat_lt x.unit.0 (after_last is)) Order) (there_not _ OutOfRange (least_not x.unit.0 (units s) there)) (there_not _ Order (above_not (after_last is) x.unit.0 rises)));
    })
    (rw (says.1, says.2) refl)

-- a guest, and its operations
pub step_guest : (last : ℕ) (s : Shape) (f g : ℕ) (k : Config) (fs : List Fault) (is : List Init) (ts : List (List Op)) → IsBehind f last → length ts < 16 → IsStep (draft_in last s f g k fs is ts) (codes "guest" ∷ []) (draft_in 14 s f g k fs is (ts ++ [] ∷ []))
step_guest last s f g k fs is ts b few =
    step (draft_in last s f g k fs is ts) (codes "guest") [] Guest _ (goes_on last b.high) refl
    (record { comes = guest_comes f last b; said_well = refl; numbers = there_not (nat_le 16 (length ts)) (Limit 17) (least_not (length ts) 16 few) })
    refl

op_word : (op : Op) → word_of true (head (op_fields op)) ≡ Some (Operation (verb_in op))
op_word (Store addr len pat) = refl
op_word (Load addr len) = refl
op_word (Write disk block count pat) = refl
op_word (Fetch disk block offset len) = refl

op_split : (op : Op) → op_fields op ≡ head (op_fields op) ∷ tail (op_fields op)
op_split (Store addr len pat) = refl
op_split (Load addr len) = refl
op_split (Write disk block count pat) = refl
op_split (Fetch disk block offset len) = refl

verb_comes : (f : ℕ) (v : Verb) → may_come f 14 (Operation v) ≡ true
verb_comes f v = rw (any_format f) refl

op_passes : (w : Written) (op : Op) → op_fault w.shape op ≡ None → operations_so_far w + op_count op ≤ 2 ^ 20 → operation_fault w op ≡ None
op_passes w op acts few = both_none (op_fault w.shape op) (fault_if (nat_lt (2 ^ 20) (operations_so_far w + op_count op)) TooMany) acts (there_not (nat_lt (2 ^ 20) (operations_so_far w + op_count op)) TooMany (above_not (operations_so_far w + op_count op) (2 ^ 20) few))

pub step_op : (s : Shape) (f g : ℕ) (k : Config) (fs : List Fault) (is : List Init) (front : List (List Op)) (before : List Op) (op : Op) → IsGoodOp s op → sum_by count_all (front ++ before ∷ []) + op_count op ≤ 2 ^ 20 → IsStep (draft_in 14 s f g k fs is (front ++ before ∷ [])) (op_fields op) (draft_in 14 s f g k fs is (front ++ (before ++ op ∷ []) ∷ []))
step_op s f g k fs is front before op good few =
    let d = draft_in 14 s f g k fs is (front ++ before ∷ []) in
    let e = draft_in 14 s f g k fs is (front ++ (before ++ op ∷ []) ∷ []) in
    let says = op_says s op good in
    let args = tail (op_fields op) in
    let P : List (List ℕ) → Type 0 = λ l. IsStep d l e in
    let Q : Op → Type 0 = λ o. operation_fault d.job o ≡ None in
    subst P (sym (op_split op))
    (step d (head (op_fields op)) args (Operation (verb_in op)) e refl (op_word op)
    (record {
      comes = verb_comes f (verb_in op);
      said_well = says.0;
      numbers = subst Q (sym says.1) (op_passes d.job op good.acts few);
    })
    (ap (λ (o : Op). draft_in 14 s f g k fs is (with_op (front ++ before ∷ []) o)) says.1 ∙ ap (λ (ts : List (List Op)). draft_in 14 s f g k fs is ts) (with_op_is front before op)))

-- the end
pub step_end : (s : Shape) (f g : ℕ) (k : Config) (fs : List Fault) (is : List Init) (ts : List (List Op)) → exceeds k.cancel (sum_by count_all ts) ≡ false → IsStep (draft_in 14 s f g k fs is ts) (codes "end" ∷ []) (draft_in 15 s f g k fs is ts)
step_end s f g k fs is ts fits =
    step (draft_in 14 s f g k fs is ts) (codes "end") [] End _ refl refl
    (record { comes = rw (any_format f) refl; said_well = refl; numbers = there_not (exceeds k.cancel (sum_by count_all ts)) (Limit 14) fits })
    refl
