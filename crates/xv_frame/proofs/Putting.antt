-- Bytes written one after another from the start of others.
use Rattle.std.proofs.Common.{◌≡◌, ℕ, ◌+◌, List, ◌++◌, length, take, drop, sym, ap, ◌∙◌, arith, append_assoc, length-append}
use Rattle.std.proofs.lemmas.List.{take_at, drop_at, drop-drop}

-- the bytes begin with these, behind which the old ones stand
pub record Begins (old p now : List ℕ) (end : ℕ) : Type 0 where
  pub long : length p ≡ end
  pub written : now ≡ p ++ drop end old

-- these bytes are the first
pub begins : (old b now : List ℕ) (end : ℕ) → end ≡ 0 + length b → now ≡ take 0 old ++ (b ++ drop end old) → Begins old b now end
begins old b now end e w = record { long = omega arith; written = w }

-- they follow what was written
pub begins-more : (old p now b c next : List ℕ) (n end : ℕ) → Begins old p now n → b ≡ c → end ≡ n + length b → next ≡ take n now ++ (b ++ drop end now)
    → Begins old (p ++ c) next end
begins-more old p now b c next n end h s e put =
    let front : take n now ≡ p = ap (take n) h.written ∙ take_at p (drop n old) n h.long in
    let behind : drop end now ≡ drop end old =
    ap (λ k. drop k now) e ∙ sym (drop-drop (length b) n now) ∙ ap (λ xs. drop (length b) (drop n xs)) h.written ∙ ap (drop (length b)) (drop_at p (drop n old) n h.long)
    ∙ drop-drop (length b) n old ∙ ap (λ k. drop k old) (sym e) in
    record {
      long = omega (arith, length-append p c, ap length s, h.long);
      written = put ∙ (λ i. front i ++ (s i ++ behind i)) ∙ sym (append_assoc p c (drop end old));
    }

-- the fields as they stand in a spelling
pub four-fields : (p a b c d rest : List ℕ) → ((((p ++ a) ++ b) ++ c) ++ d) ++ rest ≡ p ++ ((a ++ (b ++ (c ++ d))) ++ rest)
four-fields p a b c d rest = simp append_assoc

pub three-fields : (a b c d rest : List ℕ) → (((a ++ b) ++ c) ++ d) ++ rest ≡ (a ++ (b ++ (c ++ d))) ++ rest
three-fields a b c d rest = simp append_assoc

pub two-fields : (p a b rest : List ℕ) → ((p ++ a) ++ b) ++ rest ≡ p ++ ((a ++ b) ++ rest)
two-fields p a b rest = simp append_assoc

pub three-more : (p a b c : List ℕ) → ((p ++ a) ++ b) ++ c ≡ p ++ (a ++ (b ++ c))
three-more p a b c = simp append_assoc
