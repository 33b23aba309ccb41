-- The number that a word says.
use Rattle.std.specs.Prelude.{◌≡◌, ℕ, List, [], ◌++◌, decimal}
use Rattle.std.proofs.Common.{sym, ap, ◌∙◌}

-- what is spelled of a number is the word that says it
pub spelled-word : (empty spelled word : List ℕ) (pushed parsed n : ℕ) → empty ≡ [] → spelled ≡ empty ++ decimal pushed → pushed ≡ parsed → parsed ≡ n → word ≡ decimal n → spelled ≡ word
spelled-word empty spelled word pushed parsed n new exactly same is says =
    exactly ∙ ap (λ (xs : List ℕ). xs ++ decimal pushed) new ∙ ap decimal (same ∙ is) ∙ sym says
