use Rattle.std.proofs.Common.{◌≡◌, ℕ, ◌++◌, List, [], ◌∷◌, drop, sym, ◌∙◌, ap, arith, refl, length-append, replicate}
use Rattle.std.proofs.lemmas.List.{drop_all, append-nil}
use Rattle.xv_frame.specs.Fields.{short_bytes, word_bytes}
use Rattle.xv_frame.proofs.Numbers.{short-is, word-is, length-short, length-word}
use Rattle.xv_frame.proofs.Putting.{begins, begins-more, three-more}
use Rattle.xv_frame.proofs.encode.put_group_head.Goals as goal

pub returns : goal.returns
returns c =
    let old = c.args.into.now in
    let start = begins old (2 ∷ 1 ∷ []) _ _ c.put-at.ensures.end c.put-at.ensures.written in
    let count = begins-more old _ _ _ (short_bytes c.args.count) _ _ _ start (short-is c.args.count _ c.to_be_bytes.ensures) c.put-at-2.ensures.end c.put-at-2.ensures.written in
    let bytes = begins-more old _ _ _ (word_bytes c.args.bytes) _ _ _ count (word-is c.args.bytes _ c.to_be_bytes-2.ensures) c.put-at-3.ensures.end c.put-at-3.ensures.written in
    let all = begins-more old _ _ _ (replicate 16 0) _ _ _ bytes refl c.put.ensures.end c.put.ensures.written in
    let end : c.put.result ≡ 24 = sym all.long ∙ simp (length-append, length-short, length-word) in
    let none : drop c.put.result old ≡ [] = drop_all c.put.result old (omega arith) in
    let p : List ℕ = 2 ∷ 1 ∷ [] in
    let zeros : List ℕ = replicate 16 0 in
    all.written ∙ ap (λ (xs : List ℕ). (((p ++ short_bytes c.args.count) ++ word_bytes c.args.bytes) ++ zeros) ++ xs) none
    ∙ append-nil (((p ++ short_bytes c.args.count) ++ word_bytes c.args.bytes) ++ zeros) ∙ three-more p (short_bytes c.args.count) (word_bytes c.args.bytes) zeros
