-- Fresh halves, empty streams and an empty way back are a running migration.
use Rattle.std.specs.Prelude.{◌≡◌, ℕ, true, List, [], ◌∷◌, length, replicate, Option, Some, None, IfSome, is_some, unwrap_or}
use Rattle.std.proofs.Common.{refl, ap, sym, subst, ◌∙◌}
use Rattle.std.proofs.lemmas.Bool.{and_parts}
use Rattle.xv_base.specs.declared.event.Phase.TheVariants.{Running}
use Rattle.xv_device.specs.Told.{Told}
use Rattle.xv_frame.specs.Frame.{Each}
use Rattle.xv_streams.specs.Streamed.{LaneSeen}
use Rattle.xv_streams.specs.Fronts.{heads_on, contents_on}
use Rattle.xv_model.specs.Job.{Job, IsGoodJob, unit_count}
use Rattle.xv_model.specs.Guest.{reads}
use Rattle.xv_model.specs.View.{View, UnitHead, first_view}
use Rattle.xv_model.specs.Step.{Entry, run, is_run}
use Rattle.xv_model.specs.Wait.{fits}
use Rattle.xv_model.specs.Contents.{HoldsContents, first_source, first_contents}
use Rattle.xv_job.specs.Written.{job_of}
use Rattle.std.specs.List.{list_all}
use Rattle.xv_source.specs.Half.{Source, with_source, with_source_bytes}
use Rattle.xv_source.specs.Limits.{fresh as fresh_source}
use Rattle.xv_dest.specs.Half.{Dest, with_dest, with_dest_bytes, fresh as fresh_dest}
use Rattle.xv_core.specs.State.{State, view, shown, both_tell, contents_of, ArePartsOf, IsRunning}
use Rattle.xv_model.proofs.Contents.Steps.{contents-first}
use Rattle.xv_core.proofs.Keeping.Joined.{joined, joined-contents}

-- streams with nothing on them
abbrev pub AreEmpty : List LaneSeen → Type 0
AreEmpty lanes = Each (λ l. l.groups ≡ []) lanes

no-heads : (lanes : List LaneSeen) → AreEmpty lanes → replicate (length lanes) [] ≡ heads_on lanes
no-heads [] none = refl
no-heads (l ∷ lanes) none = rw (none.0, ← no-heads lanes none.1) refl

no-contents : (lanes : List LaneSeen) → AreEmpty lanes → replicate (length lanes) [] ≡ contents_on lanes
no-contents [] none = refl
no-contents (l ∷ lanes) none = rw (none.0, ← no-contents lanes none.1) refl

-- what is told
told-is : {A : Type 0} (o : Option A) (other x : A) → is_some o ≡ true → IfSome o (λ y. y ≡ x) → unwrap_or o other ≡ x
told-is None other x some is = absurd (cc)
told-is (Some y) other x some is = is

told-length : {A : Type 0} (o : Option (List A)) (n : ℕ) → is_some o ≡ true → IfSome o (λ xs. length xs ≡ n) → length (unwrap_or o []) ≡ n
told-length None n some is = absurd (cc)
told-length (Some xs) n some is = is

-- the halves at the beginning are parts of the first view and of the first contents
first-source : (job : Job) (h : Source) (told : Told) (faults : ℕ) → h ≡ fresh_source job.copy job.config told faults → with_source (first_view job) h ≡ first_view job
first-source job h told faults e = subst (λ (k : Source). with_source (first_view job) k ≡ first_view job) (sym e) refl

first-dest : (job : Job) (h : Dest) (told : Told) (faults : ℕ) → h ≡ fresh_dest job.copy job.config.credit told faults → with_dest (first_view job) h ≡ first_view job
first-dest job h told faults e = subst (λ (k : Dest). with_dest (first_view job) k ≡ first_view job) (sym e) refl

first-source-bytes : (job : Job) (dest : List (List ℕ)) (h : Source) (told : Told) (faults : ℕ) → h ≡ fresh_source job.copy job.config told faults → unwrap_or told.contents [] ≡ first_source job → with_source_bytes (first_contents job dest) h ≡ first_contents job dest
first-source-bytes job dest h told faults e is =
    subst (λ (k : Source). with_source_bytes (first_contents job dest) k ≡ first_contents job dest) (sym e)
    (ap (λ (source : List (List ℕ)). record (first_contents job dest) { source = source }) is)

first-dest-bytes : (job : Job) (h : Dest) (told : Told) (faults : ℕ) → h ≡ fresh_dest job.copy job.config.credit told faults → with_dest_bytes (first_contents job (unwrap_or told.contents [])) h ≡ first_contents job (unwrap_or told.contents [])
first-dest-bytes job h told faults e = subst (λ (k : Dest). with_dest_bytes (first_contents job (unwrap_or told.contents [])) k ≡ first_contents job (unwrap_or told.contents [])) (sym e) refl

-- how a migration begins
pub record Begins (s : State) (source dest : Told) (source_faults dest_faults : ℕ) : Type 0 where
  pub good : IsGoodJob (job_of s.job)
  pub journal : s.journal ≡ []
  pub history : s.history ≡ []
  pub phase : s.phase ≡ Running
  pub stun : s.stun ≡ None
  pub reads : s.reads ≡ []
  pub source_half : s.source ≡ fresh_source (job_of s.job).copy (job_of s.job).config source source_faults
  pub dest_half : s.dest ≡ fresh_dest (job_of s.job).copy (job_of s.job).config.credit dest dest_faults
  pub empty : AreEmpty s.streams.lanes
  pub no_counts : s.back.counts ≡ []
  pub parts : ArePartsOf (job_of s.job) s.source s.dest s.streams s.back
  pub source_told : IfSome source.contents (λ contents. contents ≡ first_source (job_of s.job))
  pub dest_told : IfSome dest.contents (λ contents. length contents ≡ unit_count (job_of s.job))

first-shown : (s : State) (source dest : Told) (m n : ℕ) → Begins s source dest m n → shown s (first_view (job_of s.job)) ≡ first_view (job_of s.job)
first-shown s source dest m n b =
    let job = job_of s.job in
    let streams : replicate job.config.streams [] ≡ heads_on s.streams.lanes = ap (λ (k : ℕ). replicate {A = List (List UnitHead)} k []) (sym b.parts.each_stream) ∙ no-heads s.streams.lanes b.empty in
    joined s (first_view job) (sym b.history) (sym b.stun) (sym b.phase) streams (sym b.no_counts) (first-source job s.source source m b.source_half) (first-dest job s.dest dest n b.dest_half)

first-held : (s : State) (source dest : Told) (m n : ℕ) → Begins s source dest m n → both_tell s ≡ true → HoldsContents (job_of s.job) (first_view (job_of s.job)) (contents_of s)
first-held s source dest m n b both =
    let job = job_of s.job in
    let tell = and_parts (is_some s.source.told.contents) (is_some s.dest.told.contents) both in
    let source_tells : is_some source.contents ≡ true = sym (ap (λ (h : Source). is_some h.told.contents) b.source_half) ∙ tell.0 in
    let dest_tells : is_some dest.contents ≡ true = sym (ap (λ (h : Dest). is_some h.told.contents) b.dest_half) ∙ tell.1 in
    let there = unwrap_or dest.contents [] in
    let streams : replicate job.config.streams [] ≡ contents_on s.streams.lanes = ap (λ (k : ℕ). replicate {A = List (List (List ℕ))} k []) (sym b.parts.each_stream) ∙ no-contents s.streams.lanes b.empty in
    let same : contents_of s ≡ first_contents job there = joined-contents s (first_contents job there) streams (sym b.reads)
    (first-source-bytes job there s.source source m b.source_half (told-is source.contents [] (first_source job) source_tells b.source_told)) (first-dest-bytes job s.dest dest n b.dest_half) in
    subst (HoldsContents job (first_view job)) (sym same) (contents-first job there b.good (told-length dest.contents (unit_count job) dest_tells b.dest_told))

pub starts : (s : State) (source dest : Told) (m n : ℕ) → Begins s source dest m n → IsRunning s
starts s source dest m n b =
    let job = job_of s.job in
    let first : first_view job ≡ view s = sym (ap (run job) b.journal) in
    record {
      good = b.good;
      fitting = ap (list_all (λ (e : Entry). fits job e.event)) b.journal;
      is_run = ap (is_run job) b.journal;
      parts = b.parts;
      shows = subst (λ (v : View). shown s v ≡ v) first (first-shown s source dest m n b);
      contents = λ both. subst (λ (v : View). HoldsContents job v (contents_of s)) first (first-held s source dest m n b both);
      reads_long =
          ap {B = ℕ} (λ (bytes : List ℕ). length bytes) b.reads
          ∙ ap {B = ℕ} (λ (v : View). length (reads job v.history (length v.history))) first;
    }
