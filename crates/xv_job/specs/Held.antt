-- A draft as the reader holds it, and what is refused of a line whose word may come.
use Rattle.std.specs.Prelude.{◌≡◌, ℕ, false, List, [], ◌∷◌, Option, Some, None}
use Rattle.xv_base.specs.declared.text.LineWhy.{LineWhy}
use Rattle.xv_base.specs.declared.text.LineWhy.TheVariants.{Limit}
use Rattle.xv_base.specs.declared.layout.LayoutFault.{LayoutFault}
use Rattle.xv_base.specs.declared.layout.LayoutFault.TheVariants.{NoPage, BadSize, TooManyUnits, TooManyBytes}
use Rattle.xv_base.specs.Units.{Shape, shape_of}
use Rattle.xv_text.specs.Fields.{or_else}
use Rattle.xv_job.specs.declared.word.Word.{Word}
use Rattle.xv_job.specs.declared.held.Held.{Held}
use Rattle.xv_job.specs.Written.{Written, ops_held, AreTraces}
use Rattle.xv_job.specs.Draft.{Draft, first_draft, next_draft, line_fault, is_complete, args_fault, numbers_fault, said, after_last, operations_so_far}

-- the machine so far
abbrev pub shape_or_none : Option Shape → Shape
shape_or_none None = shape_of 0 0 []
shape_or_none (Some shape) = shape

-- the job and the draft that are held
abbrev pub job_held : Held → Written
job_held h = record {
  shape = shape_or_none h.layout;
  format = h.format;
  group = h.group;
  config = h.config;
  faults = h.faults.items;
  init = h.init.items;
  traces = ops_held h.traces.items;
}

abbrev pub draft_held : Held → Draft
draft_held h = record { last = h.last; job = job_held h }

-- what is held twice is the same: the disks, the shapes of the traces, and the counts
pub record IsConsistent (h : Held) : Type 0 where
  pub disks : h.disks.items ≡ (shape_or_none h.layout).disks
  pub shapes : AreTraces (shape_or_none h.layout) h.traces.items
  pub operations : h.operations ≡ operations_so_far (job_held h)
  pub after_last : h.after_last ≡ after_last h.init.items

-- a draft that lines without a fault lead to
abbrev pub Leads : Draft → List (List (List ℕ)) → Draft → Type 0
Leads d [] e = d ≡ e
Leads d (l ∷ ls) e = (is_complete d ≡ false) × (line_fault d l ≡ None) × Leads (next_draft d l) ls e

abbrev pub IsReached : Draft → Type 0
IsReached d = (lines : List (List (List ℕ))) × Leads first_draft lines d

-- what is wrong with a line whose word may come: what follows the word, and then its numbers
abbrev pub behind_fault : Written → Word → List (List ℕ) → Option LineWhy
behind_fault w word args = or_else (args_fault word args) (numbers_fault w word args)

-- what a line without a fault does to what is held
pub record IsTaken (word : Word) (args : List (List ℕ)) (old new : Held) : Type 0 where
  pub no_fault : behind_fault (job_held old) word args ≡ None
  pub said : job_held new ≡ said (job_held old) word args
  pub consistent : IsConsistent new
  pub last : new.last ≡ old.last

-- the limit that a layout's fault is of
abbrev pub limit_of : LayoutFault → LineWhy
limit_of NoPage = Limit 2
limit_of (BadSize n) = Limit 3
limit_of TooManyUnits = Limit 6
limit_of TooManyBytes = Limit 7
