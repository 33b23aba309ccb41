-- The places of the blocks lie one after another in one list of bytes.
use Rattle.std.proofs.Common.{◌≡◌, ℕ, zero, suc, refl, ◌+◌, ◌-◌, ◌*◌, ◌<◌, ◌≤◌, List, [], ◌∷◌, ◌++◌, length, get_or, take, drop, sym, ap, ap₂, ◌∙◌, arith, replicate, mul-le-mul_right}
use Rattle.std.proofs.lemmas.List.{same_lists, length-drop, length-append, take-take, drop-take, take_at, drop_at, take-append-le, append_assoc, length-take-le, take-replicate}
use Rattle.std.proofs.lemmas.List.FromFn.{length-map-range_with_len, get_or-map-range_with_len, map-range_with_len_more}
use Rattle.std.specs.List.{refill}
use Rattle.xv_region.specs.Copying.{Copying, with_next, place_of, places_of}

-- as many blocks were read as are counted, each is what stands in its place, and one more is the next
pub length_places : (size : ℕ) (bytes : List ℕ) (n : ℕ) → length (places_of size bytes n) ≡ n
length_places size bytes n = length-map-range_with_len (place_of size bytes) 0 n

pub place_at : (size : ℕ) (bytes : List ℕ) (n i : ℕ) (d : List ℕ) → i < n → get_or (places_of size bytes n) i d ≡ place_of size bytes i
place_at size bytes n i d h = get_or-map-range_with_len (place_of size bytes) 0 n i i d h (omega arith)

pub places_more : (size : ℕ) (bytes : List ℕ) (n : ℕ) → places_of size bytes (n + 1) ≡ places_of size bytes n ++ place_of size bytes n ∷ []
places_more size bytes n = map-range_with_len_more (place_of size bytes) 0 n n (omega arith)

-- a place lies within the bytes
pub place_fits : (bytes : List ℕ) (most size i : ℕ) → length bytes ≡ most * size → i < most → i * size + size ≤ length bytes
place_fits bytes most size i all h = grind arith

-- a part of the bytes up to some number is a part of them all
part-cut : (b : List ℕ) (at k z : ℕ) → k + z ≤ at → take z (drop k (take at b)) ≡ take z (drop k b)
part-cut b at k z h =
    let e : at ≡ k + (at - k) = omega arith in
    ap (λ (n : ℕ). take z (drop k (take n b))) e ∙ ap (take z) (drop-take k (at - k) b) ∙ take-take z (at - k) (drop k b) (omega arith)

-- a block that was read is below the count
pub place_read : (size : ℕ) (bytes : List ℕ) (n i : ℕ) → i < length (places_of size bytes n) → i < n
place_read size bytes n i h = omega (arith, length_places size bytes n)

-- where a block of the region is left to read, its place is there
pub place_left : (region most size : ℕ) (bytes : List ℕ) (n : ℕ) → length (places_of size bytes n) < region → region ≤ most → n < most
place_left region most size bytes n left fits = omega (arith, length_places size bytes n)

-- a place is of a block's size
pub length_place : (size : ℕ) (bytes : List ℕ) (i : ℕ) → i * size + size ≤ length bytes → length (place_of size bytes i) ≡ size
length_place size bytes i fits = length-take-le size (drop (i * size) bytes) (omega (arith, length-drop (i * size) bytes))

-- two lists of bytes that begin alike have the same places there
part-same : (b b' : List ℕ) (at k z : ℕ) → take at b' ≡ take at b → k + z ≤ at → take z (drop k b') ≡ take z (drop k b)
part-same b b' at k z same h =
    sym (part-cut b' at k z h) ∙ ap (λ (x : List ℕ). take z (drop k x)) same ∙ part-cut b at k z h

-- and so the same blocks
pub places-same : (size : ℕ) (b b' : List ℕ) (n : ℕ) → take (n * size) b' ≡ take (n * size) b → places_of size b' n ≡ places_of size b n
places-same size b b' n same = same_lists _ _
    (length_places size b' n ∙ sym (length_places size b n))
    (λ i d h.
    let below : i < n = omega (arith, length_places size b' n) in
    place_at size b' n i d below
    ∙ part-same b b' (n * size) (i * size) size same (grind arith)
    ∙ sym (place_at size b n i d below))

-- bytes laid over a part reach no further than its end
refill-cut : (size : ℕ) (b w : List ℕ) → take size (w ++ drop (length w) b) ≡ refill size (take size b) w
refill-cut zero b w = refl
refill-cut (suc size) b [] = sym (take-take (suc size) (suc size) b (omega arith))
refill-cut (suc size) [] (x ∷ w) = refl
refill-cut (suc size) (y ∷ b) (x ∷ w) = ap (λ (r : List ℕ). x ∷ r) (refill-cut size b w)

-- `w` laid over `b` from `at` on, cut to the length of `b`
abbrev pub laid_over : ℕ → List ℕ → ℕ → List ℕ → List ℕ
laid_over n b at w =
    let ws = take at b ++ (w ++ drop (length w) (drop at b)) in
    take n (ws ++ drop (length ws) b)

-- what stands before it stays, and the place of the next block is filled from it
laid_over-before : (n : ℕ) (b : List ℕ) (at : ℕ) (w : List ℕ) → n ≡ length b → at ≤ n → take at (laid_over n b at w) ≡ take at b
laid_over-before n b at w len h =
    let ws = w ++ drop (length w) (drop at b) in
    let rest = drop (length (take at b ++ ws)) b in
    take-take at n ((take at b ++ ws) ++ rest) h
    ∙ ap (take at) (append_assoc (take at b) ws rest)
    ∙ take_at (take at b) (ws ++ rest) at (length-take-le at b (omega arith))

laid_over-there : (n : ℕ) (b : List ℕ) (at size : ℕ) (w : List ℕ) → n ≡ length b → at + size ≤ n → take size (drop at (laid_over n b at w)) ≡ refill size (take size (drop at b)) w
laid_over-there n b at size w len h =
    let ws = w ++ drop (length w) (drop at b) in
    let rest = drop (length (take at b ++ ws)) b in
    let e : n ≡ at + (n - at) = omega arith in
    let long : size ≤ length ws = omega (arith, length-append w (drop (length w) (drop at b)), length-drop (length w) (drop at b), length-drop at b) in
    ap (λ (m : ℕ). take size (drop at (take m ((take at b ++ ws) ++ rest)))) e
    ∙ ap (take size) (drop-take at (n - at) ((take at b ++ ws) ++ rest))
    ∙ take-take size (n - at) (drop at ((take at b ++ ws) ++ rest)) (omega arith)
    ∙ ap (λ (x : List ℕ). take size (drop at x)) (append_assoc (take at b) ws rest)
    ∙ ap (take size) (drop_at (take at b) (ws ++ rest) at (length-take-le at b (omega arith)))
    ∙ take-append-le size ws rest long
    ∙ refill-cut size (drop at b) w

-- the copy after `w` was laid over the place of the next block
abbrev pub copying_of : ℕ → ℕ → ℕ → ℕ → ℕ → List ℕ → Copying
copying_of at len n m z b = record { cursor = at; region = len; read = places_of z b n; next = place_of z b n; most = m; size = z }

pub lent : (at len n m z k : ℕ) (b w : List ℕ) → k ≡ length b → length b ≡ m * z → n < m → copying_of at len n m z (laid_over k b (n * z) w) ≡ with_next (copying_of at len n m z b) w
lent at len n m z k b w same all here =
    let fits : n * z + z ≤ k = omega (arith, place_fits b m z n all here) in
    let before = places-same z b (laid_over k b (n * z) w) n (laid_over-before k b (n * z) w same (omega (arith, fits))) in
    let there = laid_over-there k b (n * z) z w same fits in
    ap₂ (λ (r : List (List ℕ)) (x : List ℕ). record (copying_of at len n m z b) { read = r; next = x }) before there

-- what fills the place is what stands there then
pub refill_whole : (size : ℕ) (b w : List ℕ) → length w ≡ size → refill size b w ≡ w
refill_whole size b w h = take_at w (drop (length w) b) size h

-- the first place of zeros
pub first_zeros : (most size n : ℕ) → 0 < most → n ≡ most * size → place_of size (replicate n 0) 0 ≡ replicate size 0
first_zeros most size n some e =
    let fits : size ≤ n = omega (arith, e, mul-le-mul_right size some) in
    let none : 0 * size ≡ 0 = omega arith in
    ap (λ (k : ℕ). take size (drop k (replicate n 0))) none ∙ take-replicate size n 0 fits
