use Rattle.std.proofs.Common.{◌≡◌, ℕ, ◌++◌, List, [], ◌∷◌, drop, sym, ◌∙◌, ap, arith, refl, length-append, replicate}
use Rattle.std.proofs.lemmas.List.{drop_all, append-nil}
use Rattle.xv_frame.specs.Fields.{word_bytes}
use Rattle.xv_frame.proofs.Numbers.{word-is, length-word}
use Rattle.xv_frame.proofs.Putting.{begins, begins-more, two-fields}
use Rattle.xv_frame.proofs.encode.put_ack.Goals as goal

pub returns : goal.returns
returns c =
    let old = c.args.into.now in
    let start = begins old (1 ∷ 2 ∷ 0 ∷ 0 ∷ 0 ∷ 0 ∷ 0 ∷ 0 ∷ []) _ _ c.put-at.ensures.end c.put-at.ensures.written in
    let count = begins-more old _ _ _ (word_bytes c.args.count) _ _ _ start (word-is c.args.count _ c.to_be_bytes.ensures) c.put-at-2.ensures.end c.put-at-2.ensures.written in
    let all = begins-more old _ _ _ (replicate 12 0) _ _ _ count refl c.put.ensures.end c.put.ensures.written in
    let end : c.put.result ≡ 24 = sym all.long ∙ simp (length-append, length-word) in
    let none : drop c.put.result old ≡ [] = drop_all c.put.result old (omega arith) in
    let p : List ℕ = 1 ∷ 2 ∷ 0 ∷ 0 ∷ 0 ∷ 0 ∷ 0 ∷ 0 ∷ [] in
    let zeros : List ℕ = replicate 12 0 in
    all.written ∙ ap (λ (xs : List ℕ). ((p ++ word_bytes c.args.count) ++ zeros) ++ xs) none ∙ two-fields p (word_bytes c.args.count) zeros []
    ∙ ap (λ (xs : List ℕ). p ++ xs) (append-nil (word_bytes c.args.count ++ zeros))
