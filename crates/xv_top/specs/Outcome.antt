-- What contracts see of a call of the program: its input and its output, each before and after, the status that it answers
-- and what it leaves.
use Rattle.std.specs.Prelude.{◌≡◌, ◌⊎◌, ℕ, ◌+◌, Bool, false, List, Option}
use Rattle.xv_base.specs.Calls.{CountRose}
use Rattle.xv_base.specs.declared.status.Status.{Status}
use Rattle.xv_io.specs.Io.{IsAtEnd, GaveAtLeast, GaveAtMost, TookMore, TookFront}
use Rattle.xv_top.specs.Refused.{input_limit}
use Rattle.xv_top.specs.declared.program.Left.{Left}

-- the bytes that an input has left, where it tells them, and how many of its calls have failed
pub record OnInput : Type 0 where
  pub before : Option (List ℕ)
  pub after : Option (List ℕ)
  pub faults_before : ℕ
  pub faults_after : ℕ

-- the bytes that an output has taken, where it tells them, how many of its calls have failed, and whether in the end it may
-- not have handed on all
pub record OnOutput : Type 0 where
  pub before : Option (List ℕ)
  pub after : Option (List ℕ)
  pub faults_before : ℕ
  pub faults_after : ℕ
  pub keeps_back : Bool

pub record Outcome : Type 0 where
  pub input : OnInput
  pub output : OnOutput
  pub status : Status
  pub left : Left

abbrev pub input_over : {I : Type 0} → (I → Option (List ℕ)) → (I → ℕ) → I → I → OnInput
input_over left faults old new = record { before = left old; after = left new; faults_before = faults old; faults_after = faults new }

abbrev pub output_over : {O : Type 0} → (O → Option (List ℕ)) → (O → ℕ) → (O → Bool) → O → O → OnOutput
output_over taken faults keeps_back old new = record {
  before = taken old;
  after = taken new;
  faults_before = faults old;
  faults_after = faults new;
  keeps_back = keeps_back new;
}

abbrev pub outcome : OnInput → OnOutput → Status → Left → Outcome
outcome input output status left = record { input = input; output = output; status = status; left = left }

-- no call of the input failed
abbrev pub ReadsQuietly : OnInput → Type 0
ReadsQuietly i = i.faults_after ≡ i.faults_before

-- the input is as it was
pub record ReadsNothing (i : OnInput) : Type 0 where
  pub stays : i.after ≡ i.before
  pub quiet : ReadsQuietly i

-- at most one byte more was taken of it than an input may have
abbrev pub ReadsWithin : OnInput → Type 0
ReadsWithin i = GaveAtMost (input_limit + 1) i.before i.after

-- it was read to its end
pub record ReadsAll (i : OnInput) : Type 0 where
  pub ended : IsAtEnd i.after
  pub quiet : ReadsQuietly i

-- it was read to its end, or past what an input may have
pub record ReadsEnough (i : OnInput) : Type 0 where
  pub enough : IsAtEnd i.after ⊎ GaveAtLeast (input_limit + 1) i.before i.after
  pub quiet : ReadsQuietly i

-- a call of it failed
abbrev pub ReadFails : OnInput → Type 0
ReadFails i = CountRose i.faults_before i.faults_after

-- no call of the output failed
abbrev pub WritesQuietly : OnOutput → Type 0
WritesQuietly o = o.faults_after ≡ o.faults_before

-- the output took nothing
pub record WritesNothing (o : OnOutput) : Type 0 where
  pub stays : o.after ≡ o.before
  pub quiet : WritesQuietly o

-- it took a whole text, and handed all on
pub record WritesAll (o : OnOutput) (text : List ℕ) : Type 0 where
  pub taken : TookMore o.before o.after text
  pub handed_on : o.keeps_back ≡ false
  pub quiet : WritesQuietly o

-- a call of it failed
abbrev pub WriteFails : OnOutput → Type 0
WriteFails o = CountRose o.faults_before o.faults_after

-- a call of it failed, and it took a front of a text
pub record WritesFront (o : OnOutput) (text : List ℕ) : Type 0 where
  pub front : TookFront o.before o.after text
  pub failed : WriteFails o
