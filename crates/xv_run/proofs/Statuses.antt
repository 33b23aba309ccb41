-- A promise, from what is said at the status that a call answers.
use Rattle.std.proofs.Common.{◌≡◌, ◌≢◌, ℕ, suc, List, length, ap, arith, refl, sym, ◌∙◌, subst, inl, inr}
use Rattle.std.specs.Prelude.{◌⊎◌}
use Rattle.xv_base.specs.declared.event.Phase.{Phase}
use Rattle.xv_base.specs.declared.event.Phase.TheVariants.{Switched as SwitchedPhase, Cancelled as CancelledPhase, Failed as FailedPhase}
use Rattle.xv_base.specs.declared.status.Status.{Status}
use Rattle.xv_base.specs.declared.status.Status.TheVariants.{Fine, BadWords, BadInput, ReadFault, WriteFault, NoMemory, Failed, Cancelled, FileFault}
use Rattle.xv_top.specs.Outcome.{Outcome, ReadsQuietly, ReadsWithin, WriteFails}
use Rattle.xv_top.specs.Promises.{IsRefusedBy, IsRefusalCut, IsReadFailed, IsOutOfMemory}
use Rattle.xv_top.specs.declared.command.Form.{Form}
use Rattle.xv_top.specs.declared.command.Form.TheVariants.{Rows, Json}
use Rattle.xv_top.specs.Command.{form_words}
use Rattle.xv_run.specs.Words.{run_words}
use Rattle.xv_top.specs.declared.program.Left.TheVariants.{Nothing}
use Rattle.xv_top.proofs.Statuses.{not-refused}
use Rattle.xv_run.specs.Refused.{run_fault}
use Rattle.xv_run.specs.Run.{IsRun, IsRunCut, IsRunShort, EndsAs}
use Rattle.xv_run.specs.Promise.{RunPromise, IsOver}

-- what is said at each status
abbrev pub Says : Type 0 → Type 0 → Type 0 → Type 0 → Type 0 → Type 0 → Type 0 → Status → Type 0
Says F E C I R W M Fine = F
Says F E C I R W M BadWords = ⊥
Says F E C I R W M BadInput = I
Says F E C I R W M ReadFault = R
Says F E C I R W M WriteFault = W
Says F E C I R W M NoMemory = M
Says F E C I R W M Failed = E
Says F E C I R W M Cancelled = C
Says F E C I R W M FileFault = ⊥

pub record SaysEach (F E C I R W M : Type 0) (s : Status) : Type 0 where
  pub fine : s ≡ Fine → F
  pub failed : s ≡ Failed → E
  pub cancelled : s ≡ Cancelled → C
  pub bad_input : s ≡ BadInput → I
  pub read_fault : s ≡ ReadFault → R
  pub write_fault : s ≡ WriteFault → W
  pub no_memory : s ≡ NoMemory → M
  pub complete : (I → ⊥) → (R → ⊥) → (W → ⊥) → IsOver s ⊎ (s ≡ NoMemory)
  pub no_other : (s ≢ BadWords) × (s ≢ FileFault)

says-each : (F E C I R W M : Type 0) (s : Status) → Says F E C I R W M s → SaysEach F E C I R W M s
says-each F E C I R W M Fine says = record {
  fine = λ _. says;
  failed = λ is. absurd (cc);
  cancelled = λ is. absurd (cc);
  bad_input = λ is. absurd (cc);
  read_fault = λ is. absurd (cc);
  write_fault = λ is. absurd (cc);
  no_memory = λ is. absurd (cc);
  complete = λ _ _ _. inl (inl refl);
  no_other = ((λ is. cc), (λ is. cc));
}
says-each F E C I R W M BadWords says = absurd says
says-each F E C I R W M BadInput says = record {
  fine = λ is. absurd (cc);
  failed = λ is. absurd (cc);
  cancelled = λ is. absurd (cc);
  bad_input = λ _. says;
  read_fault = λ is. absurd (cc);
  write_fault = λ is. absurd (cc);
  no_memory = λ is. absurd (cc);
  complete = λ not _ _. absurd (not says);
  no_other = ((λ is. cc), (λ is. cc));
}
says-each F E C I R W M ReadFault says = record {
  fine = λ is. absurd (cc);
  failed = λ is. absurd (cc);
  cancelled = λ is. absurd (cc);
  bad_input = λ is. absurd (cc);
  read_fault = λ _. says;
  write_fault = λ is. absurd (cc);
  no_memory = λ is. absurd (cc);
  complete = λ _ not _. absurd (not says);
  no_other = ((λ is. cc), (λ is. cc));
}
says-each F E C I R W M WriteFault says = record {
  fine = λ is. absurd (cc);
  failed = λ is. absurd (cc);
  cancelled = λ is. absurd (cc);
  bad_input = λ is. absurd (cc);
  read_fault = λ is. absurd (cc);
  write_fault = λ _. says;
  no_memory = λ is. absurd (cc);
  complete = λ _ _ not. absurd (not says);
  no_other = ((λ is. cc), (λ is. cc));
}
says-each F E C I R W M NoMemory says = record {
  fine = λ is. absurd (cc);
  failed = λ is. absurd (cc);
  cancelled = λ is. absurd (cc);
  bad_input = λ is. absurd (cc);
  read_fault = λ is. absurd (cc);
  write_fault = λ is. absurd (cc);
  no_memory = λ _. says;
  complete = λ _ _ _. inr refl;
  no_other = ((λ is. cc), (λ is. cc));
}
says-each F E C I R W M Failed says = record {
  fine = λ is. absurd (cc);
  failed = λ _. says;
  cancelled = λ is. absurd (cc);
  bad_input = λ is. absurd (cc);
  read_fault = λ is. absurd (cc);
  write_fault = λ is. absurd (cc);
  no_memory = λ is. absurd (cc);
  complete = λ _ _ _. inl (inr (inl refl));
  no_other = ((λ is. cc), (λ is. cc));
}
says-each F E C I R W M Cancelled says = record {
  fine = λ is. absurd (cc);
  failed = λ is. absurd (cc);
  cancelled = λ _. says;
  bad_input = λ is. absurd (cc);
  read_fault = λ is. absurd (cc);
  write_fault = λ is. absurd (cc);
  no_memory = λ is. absurd (cc);
  complete = λ _ _ _. inl (inr (inr refl));
  no_other = ((λ is. cc), (λ is. cc));
}
says-each F E C I R W M FileFault says = absurd says

abbrev pub RunSays : Form → Outcome → Status → Type 0
RunSays form o s =
    Says (IsRun form SwitchedPhase o) (IsRun form FailedPhase o) (IsRun form CancelledPhase o) (IsRefusedBy run_fault o) (IsReadFailed o)
    (ReadsQuietly o.input × (WriteFails o.output × (IsRefusalCut run_fault o ⊎ IsRunCut form o))) (IsOutOfMemory o ⊎ IsRunShort form o) s

pub run-promise : (form : Form) (o : Outcome) → ReadsWithin o.input → ((IsOver o.status → ⊥) → o.left ≡ Nothing) → RunSays form o o.status → RunPromise form o
run-promise form o reads left says =
    let each = says-each _ _ _ _ _ _ _ o.status says in
    record {
      reads = reads;
      fine = each.fine;
      failed = each.failed;
      cancelled = each.cancelled;
      bad_input = each.bad_input;
      read_fault = each.read_fault;
      write_fault = λ is. ((each.write_fault is).0, (each.write_fault is).1.1);
      no_memory = each.no_memory;
      complete = λ good held. each.complete (not-refused run_fault o good) (λ failed. held.input failed.input) (λ failed. held.output failed.1.0);
      left = left;
      no_other = each.no_other;
    }

-- a run that ended in a phase, with the status that says it
pub run-says : (form : Form) (o : Outcome) (phase : Phase) (s : Status) → EndsAs phase s → IsRun form phase o → RunSays form o s
run-says form o phase s (inl (at, is)) run = rw is (subst (λ (p : Phase). IsRun form p o) at run)
run-says form o phase s (inr (inl (at, is))) run = rw is (subst (λ (p : Phase). IsRun form p o) at run)
run-says form o phase s (inr (inr (at, is))) run = rw is (subst (λ (p : Phase). IsRun form p o) at run)

pub ends-over : (phase : Phase) (s : Status) → EndsAs phase s → IsOver s
ends-over phase s (inl (at, is)) = inl is
ends-over phase s (inr (inl (at, is))) = inr (inl is)
ends-over phase s (inr (inr (at, is))) = inr (inr is)

-- no words ask for two forms
same-form : (f g : Form) → length (form_words f) ≡ length (form_words g) → f ≡ g
same-form Rows Rows is = refl
same-form Rows Json is = absurd (let apart : 0 ≡ 1 = is in omega (arith, apart))
same-form Json Rows is = absurd (let apart : 1 ≡ 0 = is in omega (arith, apart))
same-form Json Json is = refl

pub promise-of : (words : List (List ℕ)) (f g : Form) (o : Outcome) → words ≡ run_words f → words ≡ run_words g → RunPromise f o → RunPromise g o
promise-of words f g o found is promise =
    let long : suc (length (form_words f)) ≡ suc (length (form_words g)) = ap (λ (ws : List (List ℕ)). length ws) (sym found ∙ is) in
    subst (λ (x : Form). RunPromise x o) (same-form f g (omega (arith, long))) promise
