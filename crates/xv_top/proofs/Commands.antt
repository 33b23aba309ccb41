-- No words call two commands.
use Rattle.std.proofs.Common.{◌≡◌, ℕ, suc, ◌<◌, List, [], ◌∷◌, length, refl, sym, ap, ◌∙◌, subst, arith}
use Rattle.std.specs.Prelude.{◌^◌, codes, decimal}
use Rattle.std.proofs.lemmas.Fmt.{decimal_injective}
use Rattle.xv_top.specs.Command.{form_words, words_of, IsGoodCommand}
use Rattle.xv_base.specs.declared.status.Status.{Status}
use Rattle.xv_top.specs.Outcome.{Outcome, OnInput, OnOutput, outcome}
use Rattle.xv_top.specs.declared.program.Left.{Left}
use Rattle.xv_top.specs.declared.program.Left.TheVariants.{Nothing}
use Rattle.xv_top.specs.Promises.{PromiseOf}
use Rattle.xv_top.specs.declared.command.Command.{Command}
use Rattle.xv_top.specs.declared.command.Command.TheVariants.{Replay, Gen, Handover, Drive}
use Rattle.xv_top.specs.declared.command.Form.{Form}
use Rattle.xv_top.specs.declared.command.Form.TheVariants.{Rows, Json}

-- the first word, in which commands differ, and the second
abbrev first : List (List ℕ) → List ℕ
first [] = []
first (word ∷ words) = word

abbrev second : List (List ℕ) → List ℕ
second [] = []
second (word ∷ []) = []
second (word ∷ more ∷ words) = more

same-form : (f g : Form) → length (form_words f) ≡ length (form_words g) → f ≡ g
same-form Rows Rows is = refl
same-form Rows Json is = absurd (let apart : 0 ≡ 1 = is in omega (arith, apart))
same-form Json Rows is = absurd (let apart : 1 ≡ 0 = is in omega (arith, apart))
same-form Json Json is = refl

same-number : (m n : ℕ) → m < 2 ^ 16 → n < 2 ^ 16 → decimal m ≡ decimal n → m ≡ n
same-number m n below within is = decimal_injective m n (omega (arith, below)) (omega (arith, within)) is

same-command : (c d : Command) → IsGoodCommand c → IsGoodCommand d → words_of c ≡ words_of d → c ≡ d
same-command (Replay f) (Replay g) good fine is =
    let long : suc (length (form_words f)) ≡ suc (length (form_words g)) = ap (λ (ws : List (List ℕ)). length ws) is in
    ap Replay (same-form f g (omega (arith, long)))
same-command (Replay f) (Gen n) good fine is = absurd (let apart : codes "replay" ≡ codes "gen" = ap first is in cc)
same-command (Replay f) Handover good fine is = absurd (let apart : codes "replay" ≡ codes "handover" = ap first is in cc)
same-command (Replay f) (Drive n) good fine is = absurd (let apart : codes "replay" ≡ codes "drive" = ap first is in cc)
same-command (Gen m) (Replay g) good fine is = absurd (let apart : codes "gen" ≡ codes "replay" = ap first is in cc)
same-command (Gen m) (Gen n) good fine is = ap Gen (same-number m n good fine (ap second is))
same-command (Gen m) Handover good fine is = absurd (let apart : codes "gen" ≡ codes "handover" = ap first is in cc)
same-command (Gen m) (Drive n) good fine is = absurd (let apart : codes "gen" ≡ codes "drive" = ap first is in cc)
same-command Handover (Replay g) good fine is = absurd (let apart : codes "handover" ≡ codes "replay" = ap first is in cc)
same-command Handover (Gen n) good fine is = absurd (let apart : codes "handover" ≡ codes "gen" = ap first is in cc)
same-command Handover Handover good fine is = refl
same-command Handover (Drive n) good fine is = absurd (let apart : codes "handover" ≡ codes "drive" = ap first is in cc)
same-command (Drive m) (Replay g) good fine is = absurd (let apart : codes "drive" ≡ codes "replay" = ap first is in cc)
same-command (Drive m) (Gen n) good fine is = absurd (let apart : codes "drive" ≡ codes "gen" = ap first is in cc)
same-command (Drive m) Handover good fine is = absurd (let apart : codes "drive" ≡ codes "handover" = ap first is in cc)
same-command (Drive m) (Drive n) good fine is = ap Drive (same-number m n good fine (ap second is))

-- what the command that the words call promises is promised of each command that they call
pub promise-of : (words : List (List ℕ)) (c d : Command) (o : Outcome) → IsGoodCommand c → words ≡ words_of c → PromiseOf c o → IsGoodCommand d → words ≡ words_of d → PromiseOf d o
promise-of words c d o good found promise fine is =
    subst (λ (x : Command). PromiseOf x o) (same-command c d good fine (sym found ∙ is)) promise

-- what is promised where a call leaves nothing, where nothing is left
pub nothing-left : (P : Outcome → Type 0) (input : OnInput) (output : OnOutput) (status : Status) (left : Left) → left ≡ Nothing → P (outcome input output status Nothing) → P (outcome input output status left)
nothing-left P input output status left is promise = subst (λ (l : Left). P (outcome input output status l)) (sym is) promise
