-- The report as JSON is the line that is spelled out.
use Rattle.std.proofs.Common.{◌≡◌, ℕ, List, [], ◌∷◌, ◌++◌, Option, Some, None, codes, decimal, refl, ap, ◌∙◌, append_assoc}
use Rattle.serde_json.specs.Data.{string}
use Rattle.serde_json.specs.Written.{compact_text}
use Rattle.serde_json.proofs.OnLiterals.{serde_json_on_literals}
use Rattle.xv_base.specs.declared.event.Totals.{Totals}
use Rattle.xv_base.specs.declared.event.Phase.{Phase}
use Rattle.xv_base.specs.declared.event.Phase.TheVariants.{Running, Stunned, Switched, Cancelled, Failed}
use Rattle.xv_report.specs.Texts.{phase_word, owner_word}
use Rattle.xv_report.specs.Workers.{Tally}
use Rattle.xv_report.specs.Json.{stun_value, stun_json, finish_json, workers_json, report_value, report_json, spelled_json}

-- a word in quotation marks is itself: it has nothing to escape
quoted_phase : (p : Phase) → compact_text (string (phase_word p)) ≡ 34 ∷ (phase_word p ++ 34 ∷ [])
unfolding serde_json_on_literals
quoted_phase Running = refl
quoted_phase Stunned = refl
quoted_phase Switched = refl
quoted_phase Cancelled = refl
quoted_phase Failed = refl

quoted_owner : (p : Phase) → compact_text (string (owner_word p)) ≡ 34 ∷ (owner_word p ++ 34 ∷ [])
unfolding serde_json_on_literals
quoted_owner Running = refl
quoted_owner Stunned = refl
quoted_owner Switched = refl
quoted_owner Cancelled = refl
quoted_owner Failed = refl

stun_text : (o : Option ℕ) → compact_text (stun_value o) ≡ stun_json o
unfolding serde_json_on_literals
stun_text None = refl
stun_text (Some n) = refl

-- the same line, each part before all that follows it
abbrev nested : Totals → List ℕ → List ℕ → List ℕ → List ℕ → List ℕ → List ℕ
nested t finish owner phase stun workers =
    let sent : List ℕ = codes ",\"rounds\":" ++ (decimal t.rounds ++ (codes ",\"stun\":" ++ (stun ++ (workers ++ codes "}")))) in
    let stated : List ℕ = codes ",\"owner\":" ++ (owner ++ (codes ",\"phase\":" ++ (phase ++ sent))) in
    let counted : List ℕ = codes ",\"messages\":" ++ (decimal t.messages ++ (codes ",\"mirrors\":" ++ (decimal t.mirrors ++ stated))) in
    let noted : List ℕ = codes ",\"history\":" ++ (decimal t.history ++ (codes ",\"journal\":" ++ (decimal t.journal ++ counted))) in
    let begun : List ℕ = codes ",\"credit\":" ++ (decimal t.credit ++ (codes ",\"faulted\":" ++ (decimal t.faulted ++ (finish ++ noted)))) in
    codes "{\"applied\":" ++ (decimal t.applied ++ (codes ",\"copied\":" ++ (decimal t.copied ++ begun)))

-- the value's text is that line
nested-value : (t : Totals) (counts : Option Tally)
    → compact_text (report_value t counts) ≡ nested t (finish_json counts) (compact_text (string (owner_word t.phase))) (compact_text (string (phase_word t.phase))) (compact_text (stun_value t.stun)) (workers_json counts)
unfolding serde_json_on_literals
nested-value t None = refl
nested-value t (Some tally) = refl

-- and the line, regrouped, is the one spelled out
nested-spelled : (t : Totals) (counts : Option Tally)
    → nested t (finish_json counts) (34 ∷ (owner_word t.phase ++ 34 ∷ [])) (34 ∷ (phase_word t.phase ++ 34 ∷ [])) (stun_json t.stun) (workers_json counts) ++ 10 ∷ [] ≡ spelled_json t counts
nested-spelled t counts = simp append_assoc

pub json-spelled : (t : Totals) (counts : Option Tally) → report_json t counts ≡ spelled_json t counts
json-spelled t counts =
    let with_owner = ap (λ (o : List ℕ). nested t (finish_json counts) o (compact_text (string (phase_word t.phase))) (compact_text (stun_value t.stun)) (workers_json counts)) (quoted_owner t.phase) in
    let with_phase = ap (λ (p : List ℕ). nested t (finish_json counts) (34 ∷ (owner_word t.phase ++ 34 ∷ [])) p (compact_text (stun_value t.stun)) (workers_json counts)) (quoted_phase t.phase) in
    let with_stun = ap (λ (s : List ℕ). nested t (finish_json counts) (34 ∷ (owner_word t.phase ++ 34 ∷ [])) (34 ∷ (phase_word t.phase ++ 34 ∷ [])) s (workers_json counts)) (stun_text t.stun) in
    ap (λ (r : List ℕ). r ++ 10 ∷ []) (nested-value t counts ∙ with_owner ∙ with_phase ∙ with_stun) ∙ nested-spelled t counts
