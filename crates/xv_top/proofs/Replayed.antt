-- Lines that were played on a migration in memory: its journal and their text are those of a play of the job.
use Rattle.std.proofs.Common.{◌≡◌, ℕ, Bool, true, List, [], ◌∷◌, ◌++◌, length, drop, refl, sym, ap, ◌∙◌, subst, append_assoc, append-nil}
use Rattle.std.specs.Prelude.{nat_lt}
use Rattle.std.specs.List.{list_all}
use Rattle.std.proofs.lemmas.Bool.{and_parts}
use Rattle.xv_model.specs.Job.{Job, unit_count}
use Rattle.xv_model.specs.Guest.{read_bytes}
use Rattle.xv_model.specs.View.{View}
use Rattle.xv_model.specs.Wait.{Event, fits}
use Rattle.xv_model.specs.Effect.{Turn}
use Rattle.xv_model.specs.Step.{Call, Entry, run, calls, step, turn, flag, call_of, entry_of, entries_of, turns_from}
use Rattle.xv_model.specs.Report.{probe}
use Rattle.xv_script.specs.Lines.{turn_line, probe_line, events_of}
use Rattle.xv_script.specs.Script.{is_in}
use Rattle.xv_script.specs.declared.line.Line.{Line}
use Rattle.xv_script.specs.declared.line.Line.TheVariants.{Step, Ask}
use Rattle.xv_job.specs.Written.{Written, job_of}
use Rattle.xv_core.specs.Seen.{Seen, view_of}
use Rattle.xv_parts.specs.Memory.{IsInMemory}
use Rattle.xv_top.specs.Playing.{IsEventPlayed, ArePlayed}
use Rattle.xv_top.specs.Replay.{transcript_from}
use Rattle.xv_parts.proofs.Staying.{stays}
use Rattle.xv_parts.proofs.Planned.{answered-as, left-as, called-as}
use Rattle.xv_parts.proofs.Reading.{read-on}

-- the entries that events make of a job from a view on, after these calls
abbrev pub play_from : Job → View → List Call → List Event → List Entry
play_from job v calls events = entries_of events (turns_from job v calls events)

-- whether the call of an event fails as planned where a migration stands, what it answers and where it leads
abbrev fails_at : Written → Seen → Event → Bool
fails_at w m e = flag (job_of w) (run (job_of w) m.journal) (calls (job_of w) m.journal) e

abbrev turn_at : Written → Seen → Event → Turn
turn_at w m e = turn (job_of w) (run (job_of w) m.journal) e (fails_at w m e)

abbrev view_at : Written → Seen → Event → View
view_at w m e = step (job_of w) (run (job_of w) m.journal) e (fails_at w m e)

-- one event more: it failed as planned, its entry stands in the journal, and its line is the transcript's
record IsNext (w : Written) (m n : Seen) (e : Event) (text : List ℕ) : Type 0 where
  of_job : n.job ≡ w
  in_memory : IsInMemory n
  view : run (job_of w) n.journal ≡ view_at w m e
  journal : n.journal ≡ m.journal ++ entry_of e (turn_at w m e)
  called : calls (job_of w) n.journal ≡ calls (job_of w) m.journal ++ call_of (job_of w) (run (job_of w) m.journal) e (turn_at w m e)
  line : text ≡ turn_line e (turn_at w m e) (read_bytes (job_of w) (view_at w m e).history (length (run (job_of w) m.journal).history))

next : (m n : Seen) (e : Event) (text : List ℕ) → IsInMemory m → IsEventPlayed m e n text → IsNext m.job m n e text
next m n e text inside played =
    let w = m.job in
    let job = job_of w in
    let v = run job m.journal in
    let cs = calls job m.journal in
    let answer : played.answer ≡ turn_at w m e = answered-as m n e played.answer inside played.stepped played.kept in
    let left : view_of n ≡ view_at w m e = left-as m n e played.answer inside played.stepped played.kept in
    record {
      of_job = played.stepped.job;
      in_memory = stays m n e played.answer inside played.stepped played.kept;
      view = subst (λ (x : Written). run (job_of x) n.journal ≡ view_at w m e) played.stepped.job left;
      journal = played.stepped.journal ∙ ap (λ (u : Turn). m.journal ++ entry_of e u) answer;
      called = called-as m n e played.answer inside played.stepped played.kept ∙ ap (λ (u : Turn). cs ++ call_of job v e u) answer;
      line =
          played.line
          ∙ (ap (λ (u : Turn). turn_line e u (drop (length m.reads) n.reads)) answer
          ∙ ap (λ (bytes : List ℕ). turn_line e (turn_at w m e) bytes) (read-on m n e played.answer inside played.stepped played.kept
          ∙ ap (λ (x : View). read_bytes job x.history (length v.history)) left));
    }

-- what lines that were played have made, and written
pub record IsReplay (w : Written) (m n : Seen) (lines : List Line) (text : List ℕ) : Type 0 where
  pub of_job : n.job ≡ w
  pub in_memory : IsInMemory n
  pub journal : n.journal ≡ m.journal ++ play_from (job_of w) (run (job_of w) m.journal) (calls (job_of w) m.journal) (events_of lines)
  pub transcript : text ≡ transcript_from (job_of w) (run (job_of w) m.journal) (calls (job_of w) m.journal) lines

replay-none : (w : Written) (m n : Seen) (text : List ℕ) → m.job ≡ w → IsInMemory m → (n ≡ m) × (text ≡ []) → IsReplay w m n [] text
replay-none w m n text of inside (same, none) = rw same (record { of_job = of; in_memory = inside; journal = sym (append-nil m.journal); transcript = none })

replay-step : (w : Written) (m mid n : Seen) (e : Event) (lines : List Line) (text first rest : List ℕ) → IsNext w m mid e first → IsReplay w mid n lines rest → text ≡ first ++ rest → IsReplay w m n (Step e ∷ lines) text
replay-step w m mid n e lines text first rest one others is =
    let job = job_of w in
    let v = run job m.journal in
    let cs = calls job m.journal ++ call_of job v e (turn_at w m e) in
    let here = entry_of e (turn_at w m e) in
    let after = view_at w m e in
    let line = turn_line e (turn_at w m e) (read_bytes job after.history (length v.history)) in
    let journal : n.journal ≡ m.journal ++ (here ++ play_from job after cs (events_of lines)) =
    others.journal
    ∙ (ap (λ (js : List Entry). js ++ play_from job (run job mid.journal) (calls job mid.journal) (events_of lines)) one.journal
    ∙ (ap (λ (x : View). (m.journal ++ here) ++ play_from job x (calls job mid.journal) (events_of lines)) one.view
    ∙ (ap (λ (xs : List Call). (m.journal ++ here) ++ play_from job after xs (events_of lines)) one.called
    ∙ append_assoc m.journal here (play_from job after cs (events_of lines))))) in
    let behind : rest ≡ transcript_from job after cs lines =
    others.transcript
    ∙ (ap (λ (x : View). transcript_from job x (calls job mid.journal) lines) one.view
    ∙ ap (λ (xs : List Call). transcript_from job after xs lines) one.called) in
    record {
      of_job = others.of_job;
      in_memory = others.in_memory;
      journal = journal;
      transcript = is ∙ (ap (λ (xs : List ℕ). xs ++ rest) one.line ∙ ap (λ (ys : List ℕ). line ++ ys) behind);
    }

replay-ask : (w : Written) (m mid n : Seen) (unit : ℕ) (lines : List Line) (text first rest : List ℕ) → mid ≡ m → first ≡ probe_line (probe (job_of w) (run (job_of w) m.journal) unit) → IsReplay w mid n lines rest → text ≡ first ++ rest → IsReplay w m n (Ask (record { 0 = unit }) ∷ lines) text
replay-ask w m mid n unit lines text first rest same asked others is =
    let now : IsReplay w m n lines rest = subst (λ (x : Seen). IsReplay w x n lines rest) same others in
    record {
      of_job = now.of_job;
      in_memory = now.in_memory;
      journal = now.journal;
      transcript = is ∙ (ap (λ (xs : List ℕ). xs ++ rest) asked ∙ ap (λ (ys : List ℕ). probe_line (probe (job_of w) (run (job_of w) m.journal) unit) ++ ys) now.transcript);
    }

pub replay-is : (w : Written) (lines : List Line) (m n : Seen) (text : List ℕ) → m.job ≡ w → IsInMemory m → list_all (is_in (job_of w)) lines ≡ true → ArePlayed m lines n text → IsReplay w m n lines text
replay-is w [] m n text of inside fit played = replay-none w m n text of inside played
replay-is w (Step e ∷ ls) m n text of inside fit (mid, first, rest, line, others, is) =
    let parts = and_parts (fits (job_of w) e) (list_all (is_in (job_of w)) ls) fit in
    let one : IsNext w m mid e first = subst (λ (x : Written). IsNext x m mid e first) of (next m mid e first inside line) in
    replay-step w m mid n e ls text first rest one (replay-is w ls mid n rest one.of_job one.in_memory parts.1 others) is
replay-is w (Ask unit ∷ ls) m n text of inside fit (mid, first, rest, (same, asked), others, is) =
    let parts = and_parts (nat_lt unit.0 (unit_count (job_of w))) (list_all (is_in (job_of w)) ls) fit in
    let said : first ≡ probe_line (probe (job_of w) (run (job_of w) m.journal) unit.0) =
    subst (λ (x : Written). first ≡ probe_line (probe (job_of x) (run (job_of x) m.journal) unit.0)) of asked in
    replay-ask w m mid n unit.0 ls text first rest same said
    (replay-is w ls mid n rest (ap (λ (x : Seen). x.job) same ∙ of) (subst IsInMemory (sym same) inside) parts.1 others) is

-- a transcript begins with that of its first lines
pub transcript-front : (job : Job) (lines more : List Line) (v : View) (cs : List Call) → (rest : List ℕ) × (transcript_from job v cs (lines ++ more) ≡ transcript_from job v cs lines ++ rest)
transcript-front job [] more v cs = (transcript_from job v cs more, refl)
transcript-front job (Step e ∷ ls) more v cs =
    let f = flag job v cs e in
    let t = turn job v e f in
    let line = turn_line e t (read_bytes job (step job v e f).history (length v.history)) in
    let (rest, is) = transcript-front job ls more (step job v e f) (cs ++ call_of job v e t) in
    (rest, ap (λ (xs : List ℕ). line ++ xs) is ∙ sym (append_assoc line (transcript_from job (step job v e f) (cs ++ call_of job v e t) ls) rest))
transcript-front job (Ask unit ∷ ls) more v cs =
    let line = probe_line (probe job v unit.0) in
    let (rest, is) = transcript-front job ls more v cs in
    (rest, ap (λ (xs : List ℕ). line ++ xs) is ∙ sym (append_assoc line (transcript_from job v cs ls) rest))
