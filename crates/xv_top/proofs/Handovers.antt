-- How far the answers of a handover have been written.
use Rattle.std.proofs.Common.{◌≡◌, ℕ, ◌+◌, ◌<◌, List, ◌∷◌, ◌++◌, length, drop, get_or, sym, ap, ◌∙◌, append_assoc, add-one, drop-cons, Option}
use Rattle.xv_io.specs.Io.{TookMore, TookFront}
use Rattle.xv_io.proofs.Took.{took-both, front-then}
use Rattle.xv_handover.specs.Lines.{reply_line, transcript}
use Rattle.xv_handover.specs.declared.message.Reply.{Reply}
use Rattle.xv_handover.specs.declared.world.WorldEvent.{WorldEvent}

-- the lines of the first n events were taken, and those of the others are still to come
pub record IsTold (events : List WorldEvent) (replies : List Reply) (n : ℕ) (old now : Option (List ℕ)) : Type 0 where
  pub text : List ℕ
  pub taken : TookMore old now text
  pub to_come : text ++ transcript (drop n events) (drop n replies) ≡ transcript events replies

transcript_at : (events : List WorldEvent) (replies : List Reply) (n : ℕ) (e : WorldEvent) (r : Reply) → n < length events → n < length replies → e ≡ get_or events n e → r ≡ get_or replies n r
    → transcript (drop n events) (drop n replies) ≡ reply_line e r ++ transcript (drop (n + 1) events) (drop (n + 1) replies)
transcript_at events replies n e r there told is_e is_r =
    let es : drop n events ≡ (get_or events n e ∷ drop (n + 1) events) = rw add-one (drop-cons events n e there) in
    let rs : drop n replies ≡ (get_or replies n r ∷ drop (n + 1) replies) = rw add-one (drop-cons replies n r told) in
    ap (λ (xs : List WorldEvent). transcript xs (drop n replies)) (es ∙ ap (λ (x : WorldEvent). x ∷ drop (n + 1) events) (sym is_e))
    ∙ ap (λ (ys : List Reply). transcript (e ∷ drop (n + 1) events) ys) (rs ∙ ap (λ (y : Reply). y ∷ drop (n + 1) replies) (sym is_r))

-- one line more
pub told_more : (events : List WorldEvent) (replies : List Reply) (n : ℕ) (old now next : Option (List ℕ)) (e : WorldEvent) (r : Reply) → n < length events → n < length replies → e ≡ get_or events n e → r ≡ get_or replies n r
    → IsTold events replies n old now → TookMore now next (reply_line e r) → IsTold events replies (n + 1) old next
told_more events replies n old now next e r there told is_e is_r so_far line = record {
  text = so_far.text ++ reply_line e r;
  taken = took-both old now next so_far.text (reply_line e r) so_far.taken line;
  to_come =
      append_assoc so_far.text (reply_line e r) (transcript (drop (n + 1) events) (drop (n + 1) replies))
      ∙ (ap (λ (xs : List ℕ). so_far.text ++ xs) (sym (transcript_at events replies n e r there told is_e is_r)) ∙ so_far.to_come);
}

-- where a line is not taken whole, a front of all lines has been taken
pub told_front : (events : List WorldEvent) (replies : List Reply) (n : ℕ) (old now next : Option (List ℕ)) (e : WorldEvent) (r : Reply) → n < length events → n < length replies → e ≡ get_or events n e → r ≡ get_or replies n r
    → IsTold events replies n old now → TookFront now next (reply_line e r) → TookFront old next (transcript events replies)
told_front events replies n old now next e r there told is_e is_r so_far line =
    front-then old now next so_far.text (reply_line e r) (transcript events replies) so_far.taken line (transcript (drop (n + 1) events) (drop (n + 1) replies))
    (sym so_far.to_come ∙ ap (λ (xs : List ℕ). so_far.text ++ xs) (transcript_at events replies n e r there told is_e is_r))
