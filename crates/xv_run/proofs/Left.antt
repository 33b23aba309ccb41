-- What a run of a job writes and leaves, from what its functions say.
use Rattle.std.proofs.Common.{◌≡◌, ℕ, false, List, sym, ap, subst, ◌∙◌, refl, Option, Some, None, inl, inr}
use Rattle.std.specs.Prelude.{◌⊎◌, IfSome}
use Rattle.xv_io.specs.Io.{TookMore, TookFront}
use Rattle.xv_job.specs.JobText.{job_text}
use Rattle.xv_job.specs.Written.{Written, job_of}
use Rattle.xv_core.specs.Seen.{Seen, view_of}
use Rattle.xv_parts.specs.Memory.{IsInMemory}
use Rattle.xv_top.specs.Outcome.{Outcome, ReadsAll, ReadsQuietly, WritesQuietly, WriteFails}
use Rattle.xv_top.specs.Promises.{IsOutOfMemory}
use Rattle.xv_top.specs.declared.command.Form.{Form}
use Rattle.xv_top.specs.declared.command.Form.TheVariants.{Json}
use Rattle.xv_top.specs.declared.program.Left.TheVariants.{First}
use Rattle.xv_run.specs.Journal.{journal_text}
use Rattle.xv_run.specs.Refused.{IsJob}
use Rattle.xv_run.specs.Run.{run_text, report_of, HasEnded, IsRun, IsRunCut, IsRunShort, IsRunTaken, IsRunBegun, IsRunListed}
use Rattle.xv_run.specs.Promise.{PrintsRun}
use Rattle.xv_run.proofs.Printing.{text-told}

pub run-taken : (form : Form) (w : Written) (m : Seen) (finish : ℕ) (a b : Option (List ℕ)) → HasEnded w m finish → TookMore a b (run_text form (job_of m.job) m.journal finish) → IsRunTaken form w a b m
run-taken form w m finish a b ended taken = record {
  finish = finish;
  ended = ended;
  taken = subst (λ (x : Written). TookMore a b (run_text form (job_of x) m.journal finish)) ended.of_job taken;
}

pub run-begun : (form : Form) (w : Written) (m : Seen) (finish : ℕ) (a b : Option (List ℕ)) → HasEnded w m finish → TookFront a b (run_text form (job_of m.job) m.journal finish) → IsRunBegun form w a b
run-begun form w m finish a b ended front = record {
  migration = m;
  finish = finish;
  ended = ended;
  taken = subst (λ (x : Written). TookFront a b (run_text form (job_of x) m.journal finish)) ended.of_job front;
}

pub run-listed : (form : Form) (w : Written) (m : Seen) (finish : ℕ) (a b : Option (List ℕ)) → form ≡ Json → HasEnded w m finish → TookMore a b (journal_text (job_of m.job) m.journal) → IsRunListed form w a b
run-listed form w m finish a b json ended lines = record {
  json = json;
  migration = m;
  finish = finish;
  ended = ended;
  taken = subst (λ (x : Written). TookMore a b (journal_text (job_of x) m.journal)) ended.of_job lines;
}

-- a run whose output was taken, of the job that was read
pub is-run : (form : Form) (o : Outcome) (w : Written) (m : Seen) → IsRunTaken form w o.output.before o.output.after m → IfSome o.input.before (λ xs. IsJob xs w) → ReadsAll o.input → o.output.keeps_back ≡ false → WritesQuietly o.output → o.left ≡ First m → IsRun form (view_of m).phase o
is-run form o w m run input read handed_on quiet left = record {
  written = w;
  migration = m;
  finish = run.finish;
  read = read;
  input = input;
  ended = run.ended;
  phase_is = refl;
  output = record { taken = run.taken; handed_on = handed_on; quiet = quiet };
  is_left = left;
}

pub is-run-cut : (form : Form) (o : Outcome) (w : Written) → IsRunBegun form w o.output.before o.output.after → IfSome o.input.before (λ xs. IsJob xs w) → WriteFails o.output → IsRunCut form o
is-run-cut form o w run input failed = record {
  written = w;
  migration = run.migration;
  finish = run.finish;
  input = input;
  ended = run.ended;
  output = record { front = run.taken; failed = failed };
}

-- for want of memory nothing was written, or the journal's lines alone
pub short-or-none : (form : Form) (o : Outcome) (w : Written) → (o.output.after ≡ o.output.before) ⊎ IsRunListed form w o.output.before o.output.after → IfSome o.input.before (λ xs. IsJob xs w) → ReadsQuietly o.input → WritesQuietly o.output → IsOutOfMemory o ⊎ IsRunShort form o
short-or-none form o w (inl stays) input read quiet = inl (record { input = read; output = record { stays = stays; quiet = quiet } })
short-or-none form o w (inr run) input read quiet = inr (record {
  json = run.json;
  written = w;
  migration = run.migration;
  finish = run.finish;
  input = input;
  ended = run.ended;
  output = run.taken;
  quiet_input = read;
  quiet_output = quiet;
})

pub prints-run : (form : Form) (w : Written) (m : Seen) (bytes a b : Option (List ℕ)) → IsRunTaken form w a b m → IsInMemory m → IfSome bytes (λ xs. IsJob xs w) → PrintsRun bytes a b m
prints-run form w m bytes a b run inside input = record {
  input = read bytes input;
  report = report_of form (job_of m.job) m.journal run.finish;
  output =
      subst (λ (xs : List ℕ). TookMore a b xs) (text-told form m run.finish inside)
      (subst (λ (x : Written). TookMore a b (run_text form (job_of x) m.journal run.finish)) (sym run.ended.of_job) run.taken);
}
  where
    read : (o : Option (List ℕ)) → IfSome o (λ xs. IsJob xs w) → IfSome o (λ xs. xs ≡ job_text m.job)
    read None h = tt
    read (Some xs) h = h.text ∙ ap job_text (sym run.ended.of_job)
