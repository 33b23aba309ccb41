use Rattle.std.proofs.Common.{◌≡◌, ℕ, List, [], ◌∷◌, ◌++◌, map, decimal, OnOk, ap, ◌∙◌, subst}
use Rattle.xv_base.specs.Hex.{hex}
use Rattle.xv_text.specs.Lines.{line}
use Rattle.xv_text.proofs.Prints.{line_with}
use Rattle.xv_text.proofs.print.push_line_with.Goals as goal

pub returns-clause-ok : goal.returns-clause-ok
returns-clause-ok c =
    let whole : c.bytes-2.result.now ≡ line (c.args.word.now ∷ (map decimal c.args.numbers.now ++ hex c.args.pattern.now ∷ [])) =
    c.bytes-2.ensures.exactly ∙ c.push-2.ensures
    ∙ ap (λ xs. xs ++ 10 ∷ [])
    (c.push_hex.ensures.exactly ∙ ap (λ xs. xs ++ hex c.bytes.result.now) c.push.ensures
    ∙ ap (λ p. (c.begin.new.line ++ 32 ∷ []) ++ hex p) c.bytes.ensures.exactly)
    ∙ line_with c.begin.new.line c.args.word.now (hex c.args.pattern.now) (map decimal c.args.numbers.now) c.begin.ensures.fields in
    subst (λ (xs : List ℕ). OnOk c.push_bytes.result (c.push_bytes.new.out.items ≡ c.args.out.now.items ++ xs)) whole c.push_bytes.ensures.ok
