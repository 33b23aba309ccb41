-- A scan of the heads finds the place of the message that is ready.
use Rattle.std.proofs.Common.{◌≡◌, ℕ, Bool, nat_lt, List, length, set, remove, Some, None, sym, ap, ◌∙◌, ⊎_elim}
use Rattle.std.specs.Prelude.{position}
use Rattle.std.specs.List.{position_or_len}
use Rattle.std.proofs.lemmas.List.{length-set}
use Rattle.xv_hold.specs.Messages.{Hold, UnitHead, heads, is_next, ready_place, ready_message, written}
use Rattle.xv_engine_tests.specs.Beside.{IsBeside}
use Rattle.xv_hold.proofs.FirstReady.{true_or_false}
use Rattle.xv_hold.proofs.Heads.{ready_place-heads, heads-written}

place-of : {X : Type 0} (p : X → Bool) (xs : List X) (i : ℕ) → position p xs ≡ Some i → i ≡ position_or_len p xs
place-of p xs i is = ⊎_elim
    (λ yes. let e : Some (position_or_len p xs) ≡ Some i = rw yes at is in cc)
    (λ no. let e : None ≡ Some i = rw no at is in absurd cc)
    (true_or_false (nat_lt (position_or_len p xs) (length xs)))

-- the message that is ready was written, and its head taken out at the place that the scan found
pub written-beside : (hold : Hold) (held : List UnitHead) (versions : List ℕ) (place : ℕ) (head : UnitHead) → IsBeside hold held versions
    → position (is_next versions) held ≡ Some place → head ≡ (ready_message hold).head
    → IsBeside (written hold) (remove held place) (set versions head.unit.0 head.version)
written-beside hold held versions place head b is same =
    let at : place ≡ ready_place hold =
    place-of (is_next versions) held place is
    ∙ ap (position_or_len (is_next versions)) (sym b.heads)
    ∙ ap (λ w. position_or_len (is_next w) (heads hold.messages)) (sym b.versions)
    ∙ sym (ready_place-heads hold) in
    record {
      shape = b.shape;
      limit = b.limit;
      heads = heads-written hold ∙ ap (λ hs. remove hs (ready_place hold)) b.heads ∙ ap (remove held) (sym at);
      versions = ap (λ w. set w (ready_message hold).head.unit.0 (ready_message hold).head.version) b.versions ∙ ap (λ (x : UnitHead). set versions x.unit.0 x.version) (sym same);
      each = length-set versions head.unit.0 head.version ∙ b.each;
    }
