-- One more entry is counted by one more, for its guest and for no other.
use Rattle.std.proofs.Common.{◌≡◌, ◌≢◌, ℕ, ◌+◌, ◌^◌, ◌<◌, ◌≤◌, ◌==◌, Bool, cond, List, [], ◌∷◌, ◌++◌, length, slice_set, slice_index, get_or, count_by, refl, sym, ap, subst, ◌∙◌, arith, inl, inr, eq-eqb, ne_eqb}
use Rattle.std.proofs.lemmas.List.{get_or_read, length-set, get_or-set_same, get_or-set_other, length_push}
use Rattle.std.proofs.lemmas.List.Sums.{count_by-le-length, sum_by-append}
use Rattle.std.proofs.lemmas.Bool.{cases_eq}
use Rattle.xv_base.specs.declared.operation.Ended.{Ended}
use Rattle.xv_guest.specs.Log.{ended, faulted, is_faulted, fault_count, IsCounted}

-- a count of a list with one more
count_by-push : {X : Type 0} (p : X → Bool) (xs : List X) (x : X) → count_by p (xs ++ x ∷ []) ≡ count_by p xs + cond (p x) 1 0
count_by-push p xs x = sum_by-append (λ y. cond (p y) 1 0) xs (x ∷ []) ∙ omega arith

ended-own : (entries : List Ended) (e : Ended) → ended (entries ++ e ∷ []) e.guest.0 ≡ ended entries e.guest.0 + 1
ended-own entries e = count_by-push (λ x. x.guest.0 == e.guest.0) entries e ∙ ap (λ b. ended entries e.guest.0 + cond b 1 0) (eq-eqb e.guest.0 e.guest.0 refl)

ended-other : (entries : List Ended) (e : Ended) (guest : ℕ) → e.guest.0 ≢ guest → ended (entries ++ e ∷ []) guest ≡ ended entries guest
ended-other entries e guest h = count_by-push (λ x. x.guest.0 == guest) entries e ∙ ap (λ b. ended entries guest + cond b 1 0) (ne_eqb e.guest.0 guest h) ∙ omega arith

ended_below : (entries : List Ended) (guest : ℕ) → ended entries guest ≤ length entries
ended_below entries guest = count_by-le-length (λ e. e.guest.0 == guest) entries

-- a count fits 32 bits, as does one more
pub count_fits : (entries : List Ended) (room capacity : ℕ) (counts : List ℕ) (faults guest count : ℕ)
    → IsCounted entries room capacity counts faults → length entries < room → guest < 2 ^ 8
    → count ≡ get_or counts guest count → count + 1 < 2 ^ 32
count_fits entries room capacity counts faults guest count h r g is =
    let e : count ≡ slice_index counts guest = get_or_read counts guest count (omega (arith, h.guests)) is 0 in
    omega (arith, e, h.per_guest guest g, ended_below entries guest, h.small)

faulted-push : (entries : List Ended) (e : Ended) → faulted (entries ++ e ∷ []) ≡ faulted entries + fault_count e.outcome
faulted-push entries e = count_by-push (λ x. is_faulted x.outcome) entries e

pub counted-push : (entries : List Ended) (room capacity more : ℕ) (counts : List ℕ) (faults : ℕ) (e : Ended) (count one : ℕ)
    → IsCounted entries room capacity counts faults → length entries < room → more ≡ capacity → e.guest.0 < 2 ^ 8
    → count ≡ get_or counts e.guest.0 count → one ≡ fault_count e.outcome
    → IsCounted (entries ++ e ∷ []) room more (slice_set counts e.guest.0 (count + 1)) (faults + one)
counted-push entries room capacity more counts faults e count one h below stays small is one_is = record {
  small = h.small;
  fits = omega (arith, length_push entries e);
  reserved = stays ∙ h.reserved;
  guests = length-set counts e.guest.0 (count + 1) ∙ h.guests;
  per_guest = λ guest l. elim (cases_eq e.guest.0 guest) [
    | inl own ↦
        let at : slice_index (slice_set counts e.guest.0 (count + 1)) e.guest.0 ≡ count + 1 = get_or-set_same counts e.guest.0 (count + 1) 0 (omega (arith, h.guests)) in
        let before : count ≡ ended entries e.guest.0 = get_or_read counts e.guest.0 count (omega (arith, h.guests)) is 0 ∙ h.per_guest e.guest.0 small in
        let now : slice_index (slice_set counts e.guest.0 (count + 1)) e.guest.0 ≡ ended (entries ++ e ∷ []) e.guest.0 =
        at ∙ ap (λ n. n + 1) before ∙ sym (ended-own entries e) in
        subst (λ g. slice_index (slice_set counts e.guest.0 (count + 1)) g ≡ ended (entries ++ e ∷ []) g) own now
    | inr other ↦
        get_or-set_other counts e.guest.0 guest (count + 1) 0 (λ same. other (sym same)) ∙ h.per_guest guest l ∙ sym (ended-other entries e guest other)
  ];
  faults_are = ap (λ n. n + one) h.faults_are ∙ ap (λ n. faulted entries + n) one_is ∙ sym (faulted-push entries e);
}
