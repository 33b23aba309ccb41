-- What is printed and left, by what the journal tells.
use Rattle.std.specs.Prelude.{◌≡◌, ◌<◌, ℕ, true, List, [], ◌∷◌, ◌++◌, length, drop, codes, Option, Some, None, IfSome, unwrap_or, ◌^◌, decimal}
use Rattle.std.proofs.Common.{refl, ap, sym, subst, ◌∙◌, arith, append_assoc}
use Rattle.std.proofs.lemmas.List.FromFn.{get_or-map-range_with_len}
use Rattle.xv_base.specs.Units.{size}
use Rattle.xv_base.specs.declared.answer.Turn.{Turn}
use Rattle.xv_base.specs.declared.answer.Turn.TheVariants.{Done, Queued, Faulted, Wait, Failed}
use Rattle.xv_device.specs.Memory.{first_content}
use Rattle.xv_model.specs.Job.{unit_count, trace}
use Rattle.xv_model.specs.Guest.{ended}
use Rattle.xv_model.specs.View.{is_switched}
use Rattle.xv_model.specs.Wait.{Event}
use Rattle.xv_model.specs.Step.{Entry, entry_of}
use Rattle.xv_model.specs.Work.{is_finished}
use Rattle.xv_model.specs.Story.{Story}
use Rattle.xv_model.proofs.Left.{guest_ended}
use Rattle.xv_model.proofs.Finished.{finished}
use Rattle.xv_model.proofs.Story.Runs.{story-is}
use Rattle.xv_text.specs.Lines.{text_of}
use Rattle.xv_script.specs.Lines.{turn_line, script_text}
use Rattle.xv_script.specs.Script.{IsScriptOf}
use Rattle.xv_script.proofs.Ends.{before-end, input-parts}
use Rattle.xv_script.specs.declared.line.Line.{Line}
use Rattle.xv_script.specs.declared.line.Line.TheVariants.{Step, Ask}
use Rattle.xv_job.specs.Written.{Written, job_of}
use Rattle.xv_core.specs.Seen.{Seen, view_of}
use Rattle.xv_core.specs.Keeping.{IsKept, tells, told_contents}
use Rattle.xv_core.specs.Losing.{LosesNothing, read_between}
use Rattle.xv_core.proofs.Losing.{loses-nothing, leaves-unwritten, reads-told}
use Rattle.xv_parts.specs.Memory.{IsInMemory, begun_in_memory}
use Rattle.xv_io.specs.Io.{TookMore}
use Rattle.xv_io.proofs.Took.{took-both}
use Rattle.xv_model.specs.Report.{totals}
use Rattle.xv_report.specs.Texts.{image_text}
use Rattle.xv_parts.specs.Sides.{sources, dests}
use Rattle.xv_parts.proofs.Holding.{source-holds, dest-holds}
use Rattle.xv_top.specs.Top.{IsInput}
use Rattle.xv_top.specs.Replay.{input_text, totals_text, result_text}
use Rattle.std.proofs.lemmas.Fmt.{decimal_injective}
use Rattle.xv_top.specs.Command.{words_of}
use Rattle.xv_top.specs.declared.command.Command.TheVariants.{Drive}
use Rattle.xv_top.specs.declared.command.Form.{Form}
use Rattle.xv_top.specs.declared.program.Left.TheVariants.{First}
use Rattle.xv_top.specs.Playing.{ArePlayed}
use Rattle.xv_top.specs.Driven.{HasHandedOver}
use Rattle.xv_top.specs.Printed.{adds, PrintsJournal, IsPrinted, PrintsAll, IsOfInput, IsZeroElsewhere, HasEndedAll}

adds-is : (e : Event) (a : Turn) → entry_of e a ≡ adds e a
adds-is e (Done n) = refl
adds-is e Queued = refl
adds-is e Faulted = refl
adds-is e (Wait why) = refl
adds-is e (Failed cause) = refl

pub lines-answered : (old new : Seen) (lines : List Line) (text : List ℕ) → IsKept old → tells old.source ≡ true → tells old.dest ≡ true → ArePlayed old lines new text → PrintsJournal (job_of old.job) old.journal lines new.journal text
lines-answered old new [] text kept source dest played = (ap (λ (m : Seen). m.journal) played.0, played.1)
lines-answered old new (Step e ∷ ls) text kept source dest (mid, first, rest, one, later, is) =
    let s = one.stepped in
    let job = job_of old.job in
    let journal : mid.journal ≡ old.journal ++ adds e one.answer = s.journal ∙ ap (λ (es : List Entry). old.journal ++ es) (adds-is e one.answer) in
    let on = lines-answered mid new ls rest one.kept (s.tells.source ∙ source) (s.tells.dest ∙ dest) later in
    let on_job = subst (λ (w : Written). PrintsJournal (job_of w) mid.journal ls new.journal rest) s.job on in
    let on_journal = subst (λ (es : List Entry). PrintsJournal job es ls new.journal rest) journal on_job in
    let read : drop (length old.reads) mid.reads ≡ read_between job old.journal (old.journal ++ adds e one.answer) =
    reads-told old mid e one.answer kept one.kept s source dest ∙ ap (read_between job old.journal) journal in
    (one.answer, rest, on_journal, is ∙ ap (λ (line : List ℕ). line ++ rest) (one.line ∙ ap (turn_line e one.answer) read))
lines-answered old new (Ask unit ∷ ls) text kept source dest (mid, first, rest, one, later, is) =
    let here = subst (λ (m : Seen). ArePlayed m ls new rest) one.0 later in
    (first, rest, lines-answered old new ls rest kept source dest here, is)

pub loses-in-memory : (m : Seen) → IsInMemory m → LosesNothing m
loses-in-memory m h = loses-nothing m h.kept h.origin.tells.source h.origin.tells.dest

pub zero-elsewhere : (m : Seen) → IsInMemory m → IsZeroElsewhere m
zero-elsewhere m h = record {
  units = λ unit there off none.
      (leaves-unwritten (begun_in_memory m.job) m h.kept h.origin.unwritten).units unit off none
      ∙ get_or-map-range_with_len (λ (u : ℕ). first_content [] (size m.job.shape u) u) 0 (unit_count (job_of m.job)) unit unit [] there (omega arith);
}

pub ended-all : (m : Seen) → IsKept m → is_finished (job_of m.job) (view_of m) ≡ true → HasHandedOver m → HasEndedAll m
ended-all m kept done over =
    let job = job_of m.job in
    let same = story-is job m.journal kept.is_run in
    let all = (finished job (view_of m) done).all in
    record {
      switched = ap (λ (s : Story). s.switched) same ∙ ap is_switched over.switched;
      ended = λ guest.
          let most = kept.view.history.legal guest in
          let least = guest_ended job (view_of m).history guest all in
          let here : ended (view_of m).history guest ≡ length (trace job guest) = omega arith in
          ap (λ (s : Story). ended s.history guest) same ∙ here;
    }

-- the answers, and behind them the report and the image
pub sides-told : (m : Seen) → IsInMemory m → image_text (sources (job_of m.job) (view_of m)) (dests (job_of m.job) (view_of m)) ≡ image_text (told_contents m.source) (told_contents m.dest)
sides-told m h =
    let source : sources (job_of m.job) (view_of m) ≡ told_contents m.source = sym (ap (λ (o : Option (List (List ℕ))). unwrap_or o []) (source-holds m h)) in
    let dest : dests (job_of m.job) (view_of m) ≡ told_contents m.dest = sym (ap (λ (o : Option (List (List ℕ))). unwrap_or o []) (dest-holds m h)) in
    ap (λ (xs : List (List ℕ)). image_text xs (dests (job_of m.job) (view_of m))) source ∙ ap (λ (ys : List (List ℕ)). image_text (told_contents m.source) ys) dest

printed-begun : (form : Form) (w : Written) (m : Seen) (lines : List Line) (text : List ℕ) (a b c : Option (List ℕ)) → IsKept (begun_in_memory w) → m.job ≡ w → IsInMemory m → ArePlayed (begun_in_memory w) lines m text → TookMore a b text → TookMore b c (result_text form (job_of m.job) m.journal) → IsPrinted lines a c m
printed-begun form w m lines text a b c kept of_job inside played first rest =
    let report = totals_text form (totals (job_of m.job) (view_of m) (length m.journal)) in
    let image = image_text (sources (job_of m.job) (view_of m)) (dests (job_of m.job) (view_of m)) in
    record {
      answers = text;
      report = report;
      answered = subst (λ (x : Written). PrintsJournal (job_of x) [] lines m.journal text) (sym of_job) (lines-answered (begun_in_memory w) m lines text kept refl refl played);
      output =
          subst (λ (taken : List ℕ). TookMore a c taken)
          (sym (append_assoc text report image) ∙ ap (λ (xs : List ℕ). (text ++ report) ++ xs) (sides-told m inside))
          (took-both a b c text (report ++ image) first rest);
    }

pub printed-is : (form : Form) (w : Written) (start m : Seen) (lines : List Line) (text : List ℕ) (a b c : Option (List ℕ)) → start ≡ begun_in_memory w → IsKept start → m.job ≡ w → IsInMemory m → ArePlayed start lines m text → TookMore a b text → TookMore b c (result_text form (job_of m.job) m.journal) → IsPrinted lines a c m
printed-is form w start m lines text a b c is kept of_job inside played first rest =
    printed-begun form w m lines text a b c (subst IsKept is kept) of_job inside (subst (λ (s : Seen). ArePlayed s lines m text) is played) first rest

-- what is said of a migration that is left
pub left-one : (P : Seen → Type 0) (m n : Seen) → First m ≡ First n → P m → P n
left-one P m n same p = let is : m ≡ n = cc in subst P is p

-- the lines that were answered are those behind the line that ends the job
pub prints-all : (bytes old new : Option (List ℕ)) (w : Written) (m : Seen) (lines : List Line) → m.job ≡ w → IsScriptOf (job_of w) lines → IfSome bytes (λ xs. IsInput xs w lines) → IsPrinted lines old new m → PrintsAll bytes old new m
prints-all bytes old new w m lines of_job script input printed = record {
  lines = lines;
  script = subst (λ (x : Written). IsScriptOf (job_of x) lines) (sym of_job) script;
  input = behind bytes input;
  printed = printed;
}
  where
    behind : (o : Option (List ℕ)) → IfSome o (λ xs. IsInput xs w lines) → IfSome o (λ xs. (front : List ℕ) × (xs ≡ front ++ (codes "end" ++ 10 ∷ script_text lines)))
    behind None read = tt
    behind (Some xs) read = (text_of (before-end w), read.text ∙ input-parts w lines)

pub of-input : (bytes : Option (List ℕ)) (w : Written) (m : Seen) (lines : List Line) → m.job ≡ w → IfSome bytes (λ xs. IsInput xs w lines) → IsOfInput bytes m
of-input None w m lines of_job input = tt
of-input (Some xs) w m lines of_job input = (lines, input.text ∙ ap (λ (x : Written). input_text x lines) (sym of_job))

-- a number that is said in words is one
pub said-number : (words : List (List ℕ)) (n k : ℕ) → n < 2 ^ 16 → k < 2 ^ 16 → words ≡ words_of (Drive n) → words ≡ words_of (Drive k) → n ≡ k
said-number words n k small few is same =
    let said : decimal n ≡ decimal k = cc in
    decimal_injective n k (omega arith) (omega arith) said
