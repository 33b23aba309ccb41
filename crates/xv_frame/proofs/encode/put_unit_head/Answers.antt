use Rattle.std.proofs.Common.{◌≡◌, ℕ, ◌++◌, List, [], ◌∷◌, drop, sym, ◌∙◌, ap, length-append}
use Rattle.xv_frame.specs.Fields.{word_bytes, long_bytes}
use Rattle.xv_frame.proofs.Numbers.{word-is, long-is, length-word, length-long}
use Rattle.xv_frame.proofs.Putting.{begins, begins-more, four-fields}
use Rattle.xv_frame.proofs.encode.put_unit_head.Goals as goal

pub returns-clause-written : goal.returns-clause-written
returns-clause-written c =
    let h = c.args.head in
    let old = c.args.into.now in
    let start = begins old (1 ∷ 1 ∷ 0 ∷ 0 ∷ []) _ _ c.put-at.ensures.end c.put-at.ensures.written in
    let unit = begins-more old _ _ _ (word_bytes h.unit.0) _ _ _ start (word-is h.unit.0 _ c.to_be_bytes.ensures) c.put-at-2.ensures.end c.put-at-2.ensures.written in
    let version = begins-more old _ _ _ (word_bytes h.version) _ _ _ unit (word-is h.version _ c.to_be_bytes-2.ensures) c.put-at-3.ensures.end c.put-at-3.ensures.written in
    let size = begins-more old _ _ _ (word_bytes c.args.size) _ _ _ version (word-is c.args.size _ c.to_be_bytes-3.ensures) c.put-at-4.ensures.end c.put-at-4.ensures.written in
    let all = begins-more old _ _ _ (long_bytes h.at) _ _ _ size (long-is h.at _ c.to_be_bytes-4.ensures) c.put.ensures.end c.put.ensures.written in
    let end : c.put.result ≡ 24 = sym all.long ∙ simp (length-append, length-word, length-long) in
    let p : List ℕ = 1 ∷ 1 ∷ 0 ∷ 0 ∷ [] in
    all.written ∙ ap (λ (k : ℕ). ((((p ++ word_bytes h.unit.0) ++ word_bytes h.version) ++ word_bytes c.args.size) ++ long_bytes h.at) ++ drop k old) end
    ∙ four-fields p (word_bytes h.unit.0) (word_bytes h.version) (word_bytes c.args.size) (long_bytes h.at) (drop 24 old)
