use Rattle.std.proofs.Common.{◌≡◌, ℕ, ◌++◌, List, [], ◌∷◌, drop, sym, ◌∙◌, ap, refl, length-append}
use Rattle.xv_frame.specs.Fields.{word_bytes, long_bytes}
use Rattle.xv_frame.proofs.Numbers.{word-is, long-is, length-word, length-long}
use Rattle.xv_frame.proofs.Putting.{Begins, begins-more, three-fields}
use Rattle.xv_frame.proofs.encode.put_entry_head.Goals as goal

pub returns-clause-written : goal.returns-clause-written
returns-clause-written c =
    let h = c.args.head in
    let old = c.args.into.now in
    let none : Begins old [] old 0 = record { long = refl; written = refl } in
    let unit = begins-more old _ _ _ (word_bytes h.unit.0) _ _ _ none (word-is h.unit.0 _ c.to_be_bytes.ensures) c.put-at.ensures.end c.put-at.ensures.written in
    let version = begins-more old _ _ _ (word_bytes h.version) _ _ _ unit (word-is h.version _ c.to_be_bytes-2.ensures) c.put-at-2.ensures.end c.put-at-2.ensures.written in
    let at = begins-more old _ _ _ (long_bytes h.at) _ _ _ version (long-is h.at _ c.to_be_bytes-3.ensures) c.put-at-3.ensures.end c.put-at-3.ensures.written in
    let all = begins-more old _ _ _ (c.args.mark ∷ 0 ∷ 0 ∷ 0 ∷ []) _ _ _ at refl c.put.ensures.end c.put.ensures.written in
    let end : c.put.result ≡ 20 = sym all.long ∙ simp (length-append, length-word, length-long) in
    let last : List ℕ = c.args.mark ∷ 0 ∷ 0 ∷ 0 ∷ [] in
    all.written ∙ ap (λ (k : ℕ). ((((word_bytes h.unit.0) ++ word_bytes h.version) ++ long_bytes h.at) ++ last) ++ drop k old) end
    ∙ three-fields (word_bytes h.unit.0) (word_bytes h.version) (long_bytes h.at) last (drop 20 old)
