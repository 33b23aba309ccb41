-- What is known of a draft where a word may come.
use Rattle.std.proofs.Common.{◌≡◌, ℕ, ◌^◌, ◌≤◌, true, false, List, [], ◌∷◌, ◌++◌, length, Option, Some, None, refl, sym, ap, ◌∙◌, subst, arith}
use Rattle.std.proofs.lemmas.List.{append-nil, append_assoc, length-map}
use Rattle.xv_base.specs.declared.text.LineWhy.{LineWhy}
use Rattle.xv_base.specs.Layout.{IsGood}
use Rattle.xv_trace.specs.declared.op.Verb.{Verb}
use Rattle.xv_trace.specs.OpText.{Program}
use Rattle.xv_job.specs.declared.word.Word.{Word}
use Rattle.xv_job.specs.declared.word.Word.TheVariants.{Pages, Disk, Operation}
use Rattle.xv_job.specs.Written.{Written}
use Rattle.xv_job.specs.Words.{may_come, rank, word_of, is_operation}
use Rattle.xv_job.specs.Draft.{Draft, first_draft, next_draft, line_fault, is_in_traces, is_complete, operations_so_far, said}
use Rattle.xv_job.specs.Held.{Leads, IsReached, behind_fault}
use Rattle.xv_text.specs.Reading.{Stops}
use Rattle.xv_job.specs.Written.{ops_held}
use Rattle.xv_text.specs.declared.reading.Stop.{Stop}
use Rattle.xv_job.proofs.Parts.{comes}
use Rattle.xv_job.proofs.Head.{at_start, at_job, at_pages, at_disk, at_streams, at_credit, at_outbox, at_region, at_rounds, at_dirty}
use Rattle.xv_job.proofs.Backward.{Reached, in_head, in_body, at_end, step_line, operation_at}

-- a draft that lines lead to
pub leads_on : (lines : List (List (List ℕ))) (d e : Draft) (before : List (List (List ℕ))) → Reached d before → Leads d lines e → Reached e (before ++ lines)
leads_on [] d e before r h = let P : Draft → Type 0 = λ x. Reached x (before ++ []) in let Q : List (List (List ℕ)) → Type 0 = λ ls. Reached d ls in subst P h (subst Q (sym (append-nil before)) r)
leads_on (l ∷ lines) d e before r h =
    let P : List (List (List ℕ)) → Type 0 = λ ls. Reached e ls in
    subst P (append_assoc before (l ∷ []) lines) (leads_on lines (next_draft d l) e (before ++ l ∷ []) (step_line d before l r h.0 h.1) h.2)

pub reached : (d : Draft) → IsReached d → (ls : List (List (List ℕ))) × Reached d ls
reached d h = (h.0, leads_on h.0 first_draft d [] (in_head at_start) h.1)

pub lead_further : (lines : List (List (List ℕ))) (d e : Draft) (l : List (List ℕ)) → Leads d lines e → is_complete e ≡ false → line_fault e l ≡ None → Leads d (lines ++ l ∷ []) (next_draft e l)
lead_further [] d e l h more fine =
    let P : Draft → Type 0 = λ x. Leads x (l ∷ []) (next_draft e l) in
    subst P (sym h) (more, fine, refl)
lead_further (m ∷ lines) d e l h more fine = (h.0, h.1, lead_further lines (next_draft d m) e l h.2 more fine)

pub reach_next : (d : Draft) (l : List (List ℕ)) → IsReached d → is_complete d ≡ false → line_fault d l ≡ None → IsReached (next_draft d l)
reach_next d l h more fine = (h.0 ++ l ∷ [], lead_further h.0 first_draft d l h.1 more fine)

-- where the pages may come
pub record HasNoDisks (d : Draft) : Type 0 where
  pub disks : d.job.shape.disks ≡ []
  pub traces : d.job.traces ≡ []

pub at_pages_word : (d : Draft) (ls : List (List (List ℕ))) → Reached d ls → may_come d.job.format d.last Pages ≡ true → HasNoDisks d
at_pages_word d ls (in_head at_start) h = absurd (cc)
at_pages_word d ls (in_head (at_job f i)) h = record { disks = refl; traces = refl }
at_pages_word d ls (in_head (at_pages f p z m)) h = absurd (cc)
at_pages_word d ls (in_head (at_disk f s m)) h = absurd (cc)
at_pages_word d ls (in_head (at_streams f s a m ha)) h = absurd (cc)
at_pages_word d ls (in_head (at_credit f s a b m ha hb)) h = absurd (cc)
at_pages_word d ls (in_head (at_outbox f s a b c m ha hb hc)) h = absurd (cc)
at_pages_word d ls (in_head (at_region f s a b c r m ha hb hc hd less)) h = absurd (cc)
at_pages_word d ls (in_head (at_rounds f s a b c r e m ha hb hc hd less he)) h = absurd (cc)
at_pages_word d ls (in_head (at_dirty f s a b c r e t m ha hb hc hd less he ht)) h = absurd (cc)
at_pages_word d ls (in_body b) h = let o = (comes d.job.format d.last Pages h).order in let low = b.low in absurd (omega arith)
at_pages_word d ls (at_end e) h = let o = (comes d.job.format d.last Pages h).order in let ended = e.ended in absurd (omega arith)

-- where a disk may come
pub record HasMachine (d : Draft) : Type 0 where
  pub good : IsGood d.job.shape
  pub traces : d.job.traces ≡ []

pub at_disk_word : (d : Draft) (ls : List (List (List ℕ))) → Reached d ls → may_come d.job.format d.last Disk ≡ true → HasMachine d
at_disk_word d ls (in_head at_start) h = absurd (cc)
at_disk_word d ls (in_head (at_job f i)) h = absurd (cc)
at_disk_word d ls (in_head (at_pages f p z m)) h = record { good = m.good; traces = refl }
at_disk_word d ls (in_head (at_disk f s m)) h = record { good = m.good; traces = refl }
at_disk_word d ls (in_head (at_streams f s a m ha)) h = absurd (cc)
at_disk_word d ls (in_head (at_credit f s a b m ha hb)) h = absurd (cc)
at_disk_word d ls (in_head (at_outbox f s a b c m ha hb hc)) h = absurd (cc)
at_disk_word d ls (in_head (at_region f s a b c r m ha hb hc hd less)) h = absurd (cc)
at_disk_word d ls (in_head (at_rounds f s a b c r e m ha hb hc hd less he)) h = absurd (cc)
at_disk_word d ls (in_head (at_dirty f s a b c r e t m ha hb hc hd less he ht)) h = absurd (cc)
at_disk_word d ls (in_body b) h = let o = (comes d.job.format d.last Disk h).order in let low = b.low in absurd (omega arith)
at_disk_word d ls (at_end e) h = let o = (comes d.job.format d.last Disk h).order in let ended = e.ended in absurd (omega arith)

-- behind the limits the machine is there
pub behind_limits : (d : Draft) (ls : List (List (List ℕ))) (w : Word) → Reached d ls → 13 ≤ rank w → rank w ≤ 14 → may_come d.job.format d.last w ≡ true → IsGood d.job.shape
behind_limits d ls w (in_head at_start) low high h = let o = (comes 1 0 w h).next in absurd (omega arith)
behind_limits d ls w (in_head (at_job f i)) low high h = let o = (comes f 1 w h).next in absurd (omega arith)
behind_limits d ls w (in_head (at_pages f p z m)) low high h = m.good
behind_limits d ls w (in_head (at_disk f s m)) low high h = m.good
behind_limits d ls w (in_head (at_streams f s a m ha)) low high h = m.good
behind_limits d ls w (in_head (at_credit f s a b m ha hb)) low high h = m.good
behind_limits d ls w (in_head (at_outbox f s a b c m ha hb hc)) low high h = m.good
behind_limits d ls w (in_head (at_region f s a b c r m ha hb hc hd less)) low high h = m.good
behind_limits d ls w (in_head (at_rounds f s a b c r e m ha hb hc hd less he)) low high h = m.good
behind_limits d ls w (in_head (at_dirty f s a b c r e t m ha hb hc hd less he ht)) low high h = m.good
behind_limits d ls w (in_body b) low high h = b.fixed.good
behind_limits d ls w (at_end e) low high h = e.good.limits.machine

-- in the traces there is one, and there are not too many operations
pub record HasTraces (d : Draft) : Type 0 where
  pub some : 1 ≤ length d.job.traces
  pub few : operations_so_far d.job ≤ 2 ^ 20

pub in_traces : (d : Draft) (ls : List (List (List ℕ))) → Reached d ls → d.last ≡ 14 → HasTraces d
in_traces d ls (in_body b) e = record { some = b.listed.some_trace (omega arith); few = b.listed.few_ops }
in_traces d ls (at_end w) e = let ended = w.ended in absurd (omega arith)
in_traces d ls (in_head at_start) e = absurd (omega arith)
in_traces d ls (in_head (at_job f i)) e = absurd (omega arith)
in_traces d ls (in_head (at_pages f p z m)) e = absurd (omega arith)
in_traces d ls (in_head (at_disk f s m)) e = absurd (omega arith)
in_traces d ls (in_head (at_streams f s a m ha)) e = absurd (omega arith)
in_traces d ls (in_head (at_credit f s a b m ha hb)) e = absurd (omega arith)
in_traces d ls (in_head (at_outbox f s a b c m ha hb hc)) e = absurd (omega arith)
in_traces d ls (in_head (at_region f s a b c r m ha hb hc hd less)) e = absurd (omega arith)
in_traces d ls (in_head (at_rounds f s a b c r t m ha hb hc hd less he)) e = absurd (omega arith)
in_traces d ls (in_head (at_dirty f s a b c r m t n ha hb hc hd less he ht)) e = absurd (omega arith)

-- traces that are held
pub none_held : (ts : List Program) → ops_held ts ≡ [] → ts ≡ []
none_held [] e = refl
none_held (t ∷ ts) e = absurd (cc)

pub count_held : (ts : List Program) → length (ops_held ts) ≡ length ts
count_held ts = length-map ts (λ (t : Program). t.ops)

-- the tests of a line in their order
pub fault_behind : (d : Draft) (l : List (List ℕ)) (first : List ℕ) (args : List (List ℕ)) (w : Word) → l ≡ first ∷ args → word_of (is_in_traces d) first ≡ Some w → may_come d.job.format d.last w ≡ true → line_fault d l ≡ behind_fault d.job w args
fault_behind d l first args w e o c = rw (e, o, c) refl

pub next_is : (d : Draft) (l : List (List ℕ)) (first : List ℕ) (args : List (List ℕ)) (w : Word) → l ≡ first ∷ args → word_of (is_in_traces d) first ≡ Some w → record { last = rank w; job = said d.job w args } ≡ next_draft d l
next_is d l first args w e o = sym (rw (e, o) refl)

pub last_few : (d : Draft) (ls : List (List (List ℕ))) → Reached d ls → d.last ≤ 15
last_few d ls (in_body b) = let high = b.high in omega arith
last_few d ls (at_end w) = let ended = w.ended in omega arith
last_few d ls (in_head at_start) = omega arith
last_few d ls (in_head (at_job f i)) = omega arith
last_few d ls (in_head (at_pages f p z m)) = omega arith
last_few d ls (in_head (at_disk f s m)) = omega arith
last_few d ls (in_head (at_streams f s a m ha)) = omega arith
last_few d ls (in_head (at_credit f s a b m ha hb)) = omega arith
last_few d ls (in_head (at_outbox f s a b c m ha hb hc)) = omega arith
last_few d ls (in_head (at_region f s a b c r m ha hb hc hd less)) = omega arith
last_few d ls (in_head (at_rounds f s a b c r t m ha hb hc hd less he)) = omega arith
last_few d ls (in_head (at_dirty f s a b c r m t n ha hb hc hd less he ht)) = omega arith

pub op_in_traces : (d : Draft) (text : List ℕ) (w : Word) → word_of (is_in_traces d) text ≡ Some w → is_operation w ≡ true → d.last ≡ 14
op_in_traces d text (Operation v) e h = operation_at d text (Operation v) e v refl
op_in_traces d text _ e h = absurd (cc)

-- where the word of a line is one of these
pub pages_there : (d : Draft) (w : Word) → IsReached d → w ≡ Pages → may_come d.job.format d.last w ≡ true → HasNoDisks d
pages_there d w r e h = let l = reached d r in at_pages_word d l.0 l.1 (rw e at h)

pub disk_there : (d : Draft) (w : Word) → IsReached d → w ≡ Disk → may_come d.job.format d.last w ≡ true → HasMachine d
disk_there d w r e h = let l = reached d r in at_disk_word d l.0 l.1 (rw e at h)

pub machine_there : (d : Draft) (w u : Word) → IsReached d → w ≡ u → 13 ≤ rank u → rank u ≤ 14 → may_come d.job.format d.last w ≡ true → IsGood d.job.shape
machine_there d w u r e low high h = let l = reached d r in behind_limits d l.0 u l.1 low high (rw e at h)

pub traces_there : (d : Draft) → IsReached d → d.last ≡ 14 → HasTraces d
traces_there d r e = let l = reached d r in in_traces d l.0 l.1 e

pub last_there : (d : Draft) → IsReached d → d.last ≤ 15
last_there d r = let l = reached d r in last_few d l.0 l.1

pub is_op_word : (w : Word) (v : Verb) → w ≡ Operation v → is_operation w ≡ true
is_op_word w v e = rw e refl

-- an error of what was read behind the word is that of the line
pub stops_as : (a b : Option LineWhy) (stop : Stop) → a ≡ b → Stops b stop → Stops a stop
stops_as a b stop e h = let P : Option LineWhy → Type 0 = λ x. Stops x stop in subst P (sym e) h

-- the draft after a line
draft_is : (new : Draft) (n : ℕ) (w : Written) → new.last ≡ n → new.job ≡ w → new ≡ record { last = n; job = w }
draft_is new n w e f =
    let first : new ≡ record { last = n; job = new.job } = ap (λ (k : ℕ). let d : Draft = record { last = k; job = new.job } in d) e in
    first ∙ ap (λ (j : Written). let d : Draft = record { last = n; job = j } in d) f

pub reached_by : (d new : Draft) (l : List (List ℕ)) (first : List ℕ) (args : List (List ℕ)) (w : Word) → new.last ≡ rank w → new.job ≡ said d.job w args → l ≡ first ∷ args → word_of (is_in_traces d) first ≡ Some w → IsReached d → is_complete d ≡ false → line_fault d l ≡ None → IsReached new
reached_by d new l first args w e f s o r more fine =
    let P : Draft → Type 0 = λ x. IsReached x in
    subst P (sym (draft_is new (rank w) (said d.job w args) e f ∙ next_is d l first args w s o)) (reach_next d l r more fine)
