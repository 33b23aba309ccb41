-- No text of a script begins that of another, and one that is cut short misses a line.
use Rattle.std.proofs.Common.{◌≡◌, ◌≢◌, ℕ, ◌+◌, List, [], ◌∷◌, ◌++◌, length, Some, None, refl, sym, ap, ◌∙◌, arith, append-nil}
use Rattle.xv_base.specs.declared.text.LineWhy.TheVariants.{Unended}
use Rattle.xv_text.specs.Lines.{whole_lines}
use Rattle.xv_text.specs.Reading.{at_line}
use Rattle.xv_handover.specs.Lines.{script_text}
use Rattle.xv_handover.specs.Script.{first_script, reader, text_fault, IsScript}
use Rattle.xv_handover.specs.declared.world.WorldEvent.{WorldEvent}
use Rattle.xv_handover.proofs.Fronts.{cut-in, text-cut}
use Rattle.xv_handover.proofs.Scripts.{script_is_read}

pub cut-short : (front rest : List ℕ) → text_fault (front ++ rest) ≡ None → rest ≢ [] → text_fault front ≡ Some (at_line (length (whole_lines front) + 1) Unended)
cut-short front [] none some = absurd (some refl)
cut-short front (b ∷ rest) none some =
    text-cut reader first_script 1 (length (whole_lines front) + 1) front (front ++ b ∷ rest) (cut-in front b rest) none (omega arith)

pub script-cut-short : (events : List WorldEvent) (front rest : List ℕ) → IsScript events → script_text events ≡ front ++ rest → rest ≢ [] → text_fault front ≡ Some (at_line (length (whole_lines front) + 1) Unended)
script-cut-short events front rest script is some =
    cut-short front rest (script_is_read (front ++ rest) events script (sym is)).0 some

-- so nothing stands behind a script's text
nothing-behind : (events others : List WorldEvent) (rest : List ℕ) → IsScript events → IsScript others → script_text events ++ rest ≡ script_text others → rest ≡ []
nothing-behind events others [] script other is = refl
nothing-behind events others (b ∷ rest) script other is =
    let whole : text_fault (script_text events) ≡ None = (script_is_read (script_text events) events script refl).0 in
    let more : (b ∷ rest) ≢ [] = λ none. absurd (cc) in
    let cut = script-cut-short others (script_text events) (b ∷ rest) other (sym is) more in
    absurd (cc)

pub one_beginning : (events others : List WorldEvent) (rest : List ℕ) → IsScript events → IsScript others → script_text events ++ rest ≡ script_text others → (events ≡ others) × (rest ≡ [])
one_beginning events others rest script other is =
    let none = nothing-behind events others rest script other is in
    let same : script_text events ≡ script_text others = sym (append-nil (script_text events)) ∙ (ap (λ (xs : List ℕ). script_text events ++ xs) (sym none) ∙ is) in
    let read = (script_is_read (script_text events) events script refl).1 in
    let read_too = (script_is_read (script_text events) others other same).1 in
    (sym read ∙ read_too, none)
