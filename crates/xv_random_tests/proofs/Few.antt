-- A text has no more lines than bytes.
use Rattle.std.specs.Prelude.{◌≤◌, ℕ, List, length}
use Rattle.xv_text.specs.Lines.{whole_lines}
use Rattle.xv_script.proofs.Few.{few_lines}

pub few : (text : List ℕ) → length (whole_lines text) ≤ length text
few text = few_lines text
