-- The messages of a run of blocks, in the outbox and in the machine's.
use Rattle.std.specs.Prelude.{◌≡◌, ◌≢◌, ◌≤◌, ◌<◌, ℕ, zero, suc, ◌+◌, List, [], ◌∷◌, ◌++◌, length, set, take, get_or}
use Rattle.std.proofs.Common.{refl, sym, ap, ◌∙◌, arith, add-one, append_assoc}
use Rattle.std.proofs.lemmas.List.{length_push, get_or-set_other, map-append, append-nil, take_more}
use Rattle.xv_model.specs.View.{number, UnitHead}
use Rattle.xv_model.specs.Effect.{made_run}
use Rattle.xv_outbox.specs.Messages.{Outbox, Message, made, heads, contents}
use Rattle.xv_source.specs.Making.{made_blocks}

module _ (box : Outbox) (unit at : ℕ) (blocks : List (List ℕ)) where
  pub made-shape : (n : ℕ) → (made_blocks box unit at blocks n).shape ≡ box.shape
  made-shape zero = refl
  made-shape (suc n) = made-shape n

  pub made-limit : (n : ℕ) → (made_blocks box unit at blocks n).limit ≡ box.limit
  made-limit zero = refl
  made-limit (suc n) = made-limit n

  pub made-length : (n : ℕ) → length (made_blocks box unit at blocks n).messages ≡ length box.messages + n
  made-length zero = omega arith
  made-length (suc n) = let h = made-length n in length_push (made_blocks box unit at blocks n).messages _ ∙ omega arith

  -- the versions of the units to come are as they were
  pub made-issued : (n k : ℕ) → n ≤ k → number (made_blocks box unit at blocks n).issued (unit + k) ≡ number box.issued (unit + k)
  made-issued zero k le = refl
  made-issued (suc n) k le =
      let other : (unit + k) ≢ (unit + n) = omega arith in
      get_or-set_other (made_blocks box unit at blocks n).issued (unit + n) (unit + k) _ 0 other ∙ made-issued n k (omega arith)

  -- one more
  pub made-more : (n : ℕ) → made_blocks box unit at blocks (n + 1) ≡ made (made_blocks box unit at blocks n) (unit + n) at (get_or blocks n [])
  made-more n = ap (made_blocks box unit at blocks) (add-one n)

  -- they are the machine's, whatever that keeps of a unit's first message
  pub issued-made : (first : List ℕ) (n : ℕ) → (made_blocks box unit at blocks n).issued ≡ (made_run (record { messages = heads box.messages; issued = box.issued; first = first }) unit at n).issued
  issued-made first zero = refl
  issued-made first (suc n) = ap (λ (ns : List ℕ). set ns (unit + n) (number ns (unit + n) + 1)) (issued-made first n)

  pub heads-made : (first : List ℕ) (n : ℕ) → heads (made_blocks box unit at blocks n).messages ≡ (made_run (record { messages = heads box.messages; issued = box.issued; first = first }) unit at n).messages
  heads-made first zero = refl
  heads-made first (suc n) =
      map-append (λ (m : Message). m.head) (made_blocks box unit at blocks n).messages _
      ∙ ap (λ (ms : List UnitHead). ms ++ record { unit = record { 0 = unit + n }; version = number (made_blocks box unit at blocks n).issued (unit + n) + 1; at = at } ∷ []) (heads-made first n)
      ∙ ap (λ (ns : List ℕ). (made_run (record { messages = heads box.messages; issued = box.issued; first = first }) unit at n).messages ++ record { unit = record { 0 = unit + n }; version = number ns (unit + n) + 1; at = at } ∷ []) (issued-made first n)

  -- with the blocks as their contents
  pub contents-made : (n : ℕ) → n ≤ length blocks → contents (made_blocks box unit at blocks n).messages ≡ contents box.messages ++ take n blocks
  contents-made zero le = sym (append-nil (contents box.messages))
  contents-made (suc n) le =
      let lt : n < length blocks = omega arith in
      map-append (λ (m : Message). m.content) (made_blocks box unit at blocks n).messages _
      ∙ ap (λ (cs : List (List ℕ)). cs ++ get_or blocks n [] ∷ []) (contents-made n (omega arith))
      ∙ append_assoc (contents box.messages) (take n blocks) (get_or blocks n [] ∷ [])
      ∙ ap (λ (cs : List (List ℕ)). contents box.messages ++ cs) (sym (take_more blocks n [] lt) ∙ ap (λ (k : ℕ). take k blocks) (add-one n))

pub ruleset makes = (made-shape, made-limit, made-length, made-issued, made-more)
