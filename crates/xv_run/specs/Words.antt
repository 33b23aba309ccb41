-- The words that call the command: its name, and those of the form of its report.
use Rattle.std.specs.Prelude.{◌≡◌, ◌≢◌, ℕ, List, ◌∷◌, codes}
use Rattle.xv_top.specs.Command.{form_words}
use Rattle.xv_top.specs.declared.command.Form.{Form}

abbrev pub run_words : Form → List (List ℕ)
run_words form = codes "run" ∷ form_words form

-- these words do not call it
abbrev pub IsNoRun : List (List ℕ) → Type 0
IsNoRun words = (form : Form) → words ≢ run_words form

-- they call it
abbrev pub IsRunWords : List (List ℕ) → Type 0
IsRunWords words = (form : Form) × (words ≡ run_words form)
