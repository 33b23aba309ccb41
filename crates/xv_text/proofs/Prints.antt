-- Lines that are put together field by field.
use Rattle.std.proofs.Common.{◌≡◌, ◌<◌, ℕ, ◌+◌, List, [], ◌∷◌, ◌++◌, length, take, map, get_or, decimal, refl, sym, ap, ◌∙◌, append_assoc}
use Rattle.std.proofs.lemmas.List.{take_more, append-nil, map-append}
use Rattle.std.proofs.lemmas.List.Concat.{flat_map-append}
use Rattle.xv_text.specs.Lines.{line}
use Rattle.xv_text.specs.Print.{spaced}

pub spaced-append : (xs ys : List (List ℕ)) → spaced (xs ++ ys) ≡ spaced xs ++ spaced ys
spaced-append xs ys = flat_map-append (λ field. 32 ∷ field) xs ys

-- one number more
pub spaced_more : (line word : List ℕ) (ns : List ℕ) (i : ℕ) → i < length ns → line ≡ word ++ spaced (map decimal (take i ns))
    → (line ++ 32 ∷ []) ++ decimal (get_or ns i 0) ≡ word ++ spaced (map decimal (take (i + 1) ns))
spaced_more line word ns i h e =
    let more : map decimal (take (i + 1) ns) ≡ map decimal (take i ns) ++ decimal (get_or ns i 0) ∷ [] =
    ap (map decimal) (take_more ns i 0 h) ∙ map-append decimal (take i ns) (get_or ns i 0 ∷ []) in
    let last : spaced (decimal (get_or ns i 0) ∷ []) ≡ 32 ∷ decimal (get_or ns i 0) = append-nil (32 ∷ decimal (get_or ns i 0)) in
    append_assoc line (32 ∷ []) (decimal (get_or ns i 0))
    ∙ ap (λ xs. xs ++ 32 ∷ decimal (get_or ns i 0)) e
    ∙ append_assoc word (spaced (map decimal (take i ns))) (32 ∷ decimal (get_or ns i 0))
    ∙ ap (λ xs. word ++ xs) (ap (λ xs. spaced (map decimal (take i ns)) ++ xs) (sym last) ∙ sym (spaced-append (map decimal (take i ns)) (decimal (get_or ns i 0) ∷ [])) ∙ ap spaced (sym more))

-- a word, and fields with a space before each, are a line
pub line_of_spaced : (word : List ℕ) (fs : List (List ℕ)) → line (word ∷ fs) ≡ word ++ (spaced fs ++ 10 ∷ [])
line_of_spaced word [] = refl
line_of_spaced word (f ∷ fs) =
    ap (λ xs. word ++ 32 ∷ xs) (line_of_spaced f fs ∙ sym (append_assoc f (spaced fs) (10 ∷ [])))

pub line_is : (line' word : List ℕ) (fs : List (List ℕ)) → line' ≡ word ++ spaced fs → line' ++ 10 ∷ [] ≡ line (word ∷ fs)
line_is line' word fs e = ap (λ xs. xs ++ 10 ∷ []) e ∙ append_assoc word (spaced fs) (10 ∷ []) ∙ sym (line_of_spaced word fs)

-- with a last field behind them
pub line_with : (line' word last : List ℕ) (fs : List (List ℕ)) → line' ≡ word ++ spaced fs
    → ((line' ++ 32 ∷ []) ++ last) ++ 10 ∷ [] ≡ line (word ∷ (fs ++ last ∷ []))
line_with line' word last fs e =
    line_is ((line' ++ 32 ∷ []) ++ last) word (fs ++ last ∷ [])
    (append_assoc line' (32 ∷ []) last
    ∙ ap (λ xs. xs ++ 32 ∷ last) e
    ∙ append_assoc word (spaced fs) (32 ∷ last)
    ∙ ap (λ xs. word ++ xs) (ap (λ xs. spaced fs ++ xs) (sym (append-nil (32 ∷ last))) ∙ sym (spaced-append fs (last ∷ []))))
