-- The table of commands: the words that call each.
use Rattle.std.specs.Prelude.{◌≡◌, ◌≢◌, ◌<◌, ◌^◌, ℕ, List, [], ◌∷◌, codes, decimal, ⊤}
use Rattle.xv_top.specs.declared.command.Command.{Command}
use Rattle.xv_top.specs.declared.command.Command.TheVariants.{Replay, Gen, Handover, Drive}
use Rattle.xv_top.specs.declared.command.Form.{Form}
use Rattle.xv_top.specs.declared.command.Form.TheVariants.{Rows, Json}

-- a form's words, behind the command's name
abbrev pub form_words : Form → List (List ℕ)
form_words Rows = []
form_words Json = codes "--json" ∷ []

abbrev pub words_of : Command → List (List ℕ)
words_of (Replay form) = codes "replay" ∷ form_words form
words_of (Gen number) = codes "gen" ∷ decimal number ∷ []
words_of Handover = codes "handover" ∷ []
words_of (Drive number) = codes "drive" ∷ decimal number ∷ []

-- a command's number is below 2^16
abbrev pub IsGoodCommand : Command → Type 0
IsGoodCommand (Replay form) = ⊤
IsGoodCommand (Gen number) = number < 2 ^ 16
IsGoodCommand Handover = ⊤
IsGoodCommand (Drive number) = number < 2 ^ 16

-- these words call no command
abbrev pub IsNoCommand : List (List ℕ) → Type 0
IsNoCommand words = (command : Command) → IsGoodCommand command → words ≢ words_of command

-- they call one
abbrev pub IsCommand : List (List ℕ) → Type 0
IsCommand words = (command : Command) × IsGoodCommand command × (words ≡ words_of command)
