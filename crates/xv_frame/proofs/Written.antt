-- Heads and entries without a fault are written as they were read.
use Rattle.std.proofs.Common.{◌≡◌, ℕ, ◌+◌, ◌≤◌, List, [], ◌∷◌, ◌++◌, length, get_or, take, drop, sym, ap, ◌∙◌, arith, true, replicate, length-drop}
use Rattle.std.proofs.Math.Seq.{take-add}
use Rattle.std.proofs.lemmas.List.{get_or-drop, drop-drop, take_all}
use Rattle.xv_frame.specs.Fields.{short_at, word_at, zero_at}
use Rattle.xv_frame.specs.Frame.{unit_head, ack, group_head, entry_head}
use Rattle.xv_frame.specs.Reading.{front_head, entry_numbers}
use Rattle.xv_frame.proofs.Numbers.{AreBytes, word-written, long-written, short-written}
use Rattle.xv_frame.proofs.WhatTestsSay.{zeros-stand, two-stand, one-stands}

-- parts of a list that lie one after another are one part
pub parts : (b : List ℕ) (k m n : ℕ) → take (m + n) (drop k b) ≡ take m (drop k b) ++ take n (drop (k + m) b)
parts b k m n = take-add m n (drop k b) ∙ ap (λ xs. take m (drop k b) ++ take n xs) (drop-drop m k b)

pub unit-head-written : (b : List ℕ) → AreBytes b → length b ≡ 24 → get_or b 0 0 ≡ 1 → get_or b 1 0 ≡ 1 → zero_at b 2 2 ≡ true
    → b ≡ unit_head (front_head b) (word_at b 12)
unit-head-written b h l format kind zeros =
    let first : take 2 (drop 0 b) ≡ 1 ∷ 1 ∷ [] = two-stand b (omega arith) ∙ (λ i. format i ∷ kind i ∷ []) in
    let zero' : take 2 (drop 2 b) ≡ 0 ∷ 0 ∷ [] = zeros-stand b 2 2 (omega arith) zeros in
    let unit = sym (word-written b 4 h (omega arith)) in
    let version = sym (word-written b 8 h (omega arith)) in
    let size = sym (word-written b 12 h (omega arith)) in
    let at = sym (long-written b 16 h (omega arith)) in
    let all : take 24 (drop 0 b) ≡ b = take_all 24 b (omega arith) in
    sym all ∙ parts b 0 2 22 ∙ ap (λ xs. take 2 (drop 0 b) ++ xs) (parts b 2 2 20 ∙ ap (λ xs. take 2 (drop 2 b) ++ xs) (parts b 4 4 16 ∙ ap (λ xs. take 4 (drop 4 b) ++ xs) (parts b 8 4 12 ∙ ap (λ xs. take 4 (drop 8 b) ++ xs) (parts b 12 4 8))))
    ∙ (λ i. first i ++ (zero' i ++ (unit i ++ (version i ++ (size i ++ at i)))))

pub ack-written : (b : List ℕ) → AreBytes b → length b ≡ 24 → get_or b 0 0 ≡ 1 → get_or b 1 0 ≡ 2 → zero_at b 2 6 ≡ true → zero_at b 12 12 ≡ true
    → b ≡ ack (word_at b 8)
ack-written b h l format kind zeros more =
    let first : take 2 (drop 0 b) ≡ 1 ∷ 2 ∷ [] = two-stand b (omega arith) ∙ (λ i. format i ∷ kind i ∷ []) in
    let zero' : take 6 (drop 2 b) ≡ replicate 6 0 = zeros-stand b 2 6 (omega arith) zeros in
    let last : take 12 (drop 12 b) ≡ replicate 12 0 = zeros-stand b 12 12 (omega arith) more in
    let count = sym (word-written b 8 h (omega arith)) in
    let all : take 24 (drop 0 b) ≡ b = take_all 24 b (omega arith) in
    sym all ∙ parts b 0 2 22 ∙ ap (λ xs. take 2 (drop 0 b) ++ xs) (parts b 2 6 16 ∙ ap (λ xs. take 6 (drop 2 b) ++ xs) (parts b 8 4 12))
    ∙ (λ i. first i ++ (zero' i ++ (count i ++ last i)))

pub group-head-written : (b : List ℕ) → AreBytes b → 24 ≤ length b → get_or b 0 0 ≡ 2 → get_or b 1 0 ≡ 1 → zero_at b 8 16 ≡ true
    → take 24 b ≡ group_head (short_at b 2) (word_at b 4)
group-head-written b h l format kind zeros =
    let first : take 2 (drop 0 b) ≡ 2 ∷ 1 ∷ [] = two-stand b (omega arith) ∙ (λ i. format i ∷ kind i ∷ []) in
    let last : take 16 (drop 8 b) ≡ replicate 16 0 = zeros-stand b 8 16 (omega arith) zeros in
    let count = sym (short-written b 2 h (omega arith)) in
    let bytes = sym (word-written b 4 h (omega arith)) in
    parts b 0 2 22 ∙ ap (λ xs. take 2 (drop 0 b) ++ xs) (parts b 2 2 20 ∙ ap (λ xs. take 2 (drop 2 b) ++ xs) (parts b 4 4 16))
    ∙ (λ i. first i ++ (count i ++ (bytes i ++ last i)))

pub entry-head-written : (b : List ℕ) → AreBytes b → 20 ≤ length b → zero_at b 17 3 ≡ true
    → take 20 b ≡ entry_head (entry_numbers b) (get_or b 16 0)
entry-head-written b h l zeros =
    let unit = sym (word-written b 0 h (omega arith)) in
    let version = sym (word-written b 4 h (omega arith)) in
    let at = sym (long-written b 8 h (omega arith)) in
    let mark : take 1 (drop 16 b) ≡ get_or b 16 0 ∷ [] =
    one-stands (drop 16 b) (omega (arith, length-drop 16 b)) ∙ ap (λ x. x ∷ []) (get_or-drop 16 b 0 0) in
    let last : take 3 (drop 17 b) ≡ replicate 3 0 = zeros-stand b 17 3 (omega arith) zeros in
    parts b 0 4 16 ∙ ap (λ xs. take 4 (drop 0 b) ++ xs) (parts b 4 4 12 ∙ ap (λ xs. take 4 (drop 4 b) ++ xs) (parts b 8 8 4 ∙ ap (λ xs. take 8 (drop 8 b) ++ xs) (parts b 16 1 3)))
    ∙ (λ i. unit i ++ (version i ++ (at i ++ (mark i ++ last i))))
