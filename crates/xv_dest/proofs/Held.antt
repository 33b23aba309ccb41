-- A hold's messages as heads and contents: which is ready, and what is left where it is written.
use Rattle.std.proofs.Common.{◌≡◌, ℕ, suc, ◌+◌, Bool, true, false, not, cond, List, [], ◌∷◌, length, set, remove, get_or, Option, Some, None, refl, sym, ap, ◌∙◌, arith}
use Rattle.std.specs.Prelude.{nat_lt, is_some, if◌then◌else◌}
use Rattle.std.specs.List.{position_or_len}
use Rattle.std.proofs.lemmas.List.{length-map}
use Rattle.xv_base.specs.Units.{Shape, size}
use Rattle.xv_device.specs.Told.{Told}
use Rattle.xv_hold.specs.Messages.{Hold, UnitHead, heads, contents, is_next, ready_slot, ready_message, written}
use Rattle.xv_hold.specs.Messages.{ready_place as place_in, is_ready as is_ready_in}
use Rattle.xv_hold.proofs.Heads.{ready_place-heads, head-ready, content-ready, heads-written, contents-written}
use Rattle.xv_model.specs.View.{View, first_next, is_ready, no_message}
use Rattle.xv_dest.specs.Half.{Dest, with_dest}
use Rattle.xv_dest.specs.Step.{ready_place}
use Rattle.xv_dest.specs.Kept.{dest_of}

-- the message that is ready, as the half has it
abbrev pub ready_head : Dest → UnitHead
ready_head h = get_or h.held (ready_place h) no_message

abbrev pub ready_content : Dest → List ℕ
ready_content h = get_or h.contents (ready_place h) []

-- whether one is
abbrev pub has_ready : Dest → Bool
has_ready h = nat_lt (ready_place h) (length h.held)

by_test : (b : Bool) (m n : ℕ) → m ≡ n → cond (not b) (1 + m) 0 ≡ (if b then 0 else suc n)
by_test true m n e = refl
by_test false m n e = omega arith

first_next-position : (applied : List ℕ) (ms : List UnitHead) → position_or_len (is_next applied) ms ≡ first_next applied ms
first_next-position applied [] = refl
first_next-position applied (m ∷ ms) = by_test (is_next applied m) (position_or_len (is_next applied) ms) (first_next applied ms) (first_next-position applied ms)

same_place : (hold : Hold) → place_in hold ≡ first_next hold.applied (heads hold.messages)
same_place hold = ready_place-heads hold ∙ first_next-position hold.applied (heads hold.messages)

same_ready : (s : Shape) (told : Told) (faults freed : ℕ) (hold : Hold) → is_ready_in hold ≡ has_ready (dest_of s told faults hold freed)
same_ready s told faults freed hold = ap (λ n. nat_lt n (length hold.messages)) (same_place hold) ∙ ap (nat_lt (first_next hold.applied (heads hold.messages))) (sym (length-map hold.messages (λ m. m.head)))

slot_if : (b : Bool) (slot n : ℕ) → (if b then Some n else None) ≡ Some slot → b ≡ true
slot_if true slot n e = refl
slot_if false slot n e = absurd (cc)

none_if : (b : Bool) (n : ℕ) → (if b then Some n else None) ≡ None → b ≡ false
none_if true n e = absurd (cc)
none_if false n e = refl

-- none is ready in a half
pub record HasNoneReady (h : Dest) : Type 0 where
  pub none : has_ready h ≡ false

pub ready-none : (s : Shape) (told : Told) (faults freed : ℕ) (hold : Hold) → None ≡ ready_slot hold → HasNoneReady (dest_of s told faults hold freed)
ready-none s told faults freed hold e = record { none = sym (same_ready s told faults freed hold) ∙ none_if (is_ready_in hold) _ (sym e) }

-- the message that is ready in a half, and its content
pub record IsReady (h : Dest) (head : UnitHead) (content : List ℕ) : Type 0 where
  pub has : has_ready h ≡ true
  pub head_is : head ≡ ready_head h
  pub content_is : content ≡ ready_content h

pub ready-some : (s : Shape) (told : Told) (faults freed slot : ℕ) (hold : Hold) (head : UnitHead) (content : List ℕ) → Some slot ≡ ready_slot hold → head ≡ (ready_message hold).head → content ≡ (ready_message hold).content
    → IsReady (dest_of s told faults hold freed) head content
ready-some s told faults freed slot hold head content e h c = record {
  has = sym (same_ready s told faults freed hold) ∙ slot_if (is_ready_in hold) slot _ (sym e);
  head_is = h ∙ head-ready hold ∙ ap (λ n. get_or (heads hold.messages) n no_message) (same_place hold);
  content_is = c ∙ content-ready hold ∙ ap (λ n. get_or (contents hold.messages) n []) (same_place hold);
}

-- it has its unit's size
pub ready-whole : (told : Told) (faults freed : ℕ) (hold : Hold) (s : Shape) (head : UnitHead) (content : List ℕ) → hold.shape ≡ s → head ≡ (ready_message hold).head → length content ≡ size hold.shape (ready_message hold).head.unit.0 →
    IsReady (dest_of s told faults hold freed) head content → length (ready_content (dest_of s told faults hold freed)) ≡ size s (ready_head (dest_of s told faults hold freed)).unit.0
ready-whole told faults freed hold s head content of is whole ready =
    ap (λ (b : List ℕ). length b) (sym ready.content_is) ∙ whole ∙ ap (λ (t : Shape). size t (ready_message hold).head.unit.0) of
    ∙ ap (λ (m : UnitHead). size s m.unit.0) (sym is ∙ ready.head_is)

-- the half once that message is written, and what the device tells then
abbrev pub written_dest : Dest → Told → ℕ → Dest
written_dest h told faults = record {
  shape = h.shape;
  limit = h.limit;
  held = remove h.held (ready_place h);
  contents = remove h.contents (ready_place h);
  applied = set h.applied (ready_head h).unit.0 (ready_head h).version;
  recorded = set h.recorded (ready_head h).unit.0 (ready_head h).at;
  freed = h.freed + 1;
  told = told;
  faults = faults;
}

pub dest-written : (s : Shape) (told later : Told) (faults more freed one_more : ℕ) (hold new : Hold) → new ≡ written hold → one_more ≡ freed + 1
    → dest_of s later more new one_more ≡ written_dest (dest_of s told faults hold freed) later more
dest-written s told later faults more freed one_more hold new e f =
    let h = dest_of s told faults hold freed in
    let head : (ready_message hold).head ≡ ready_head h = head-ready hold ∙ ap (λ n. get_or (heads hold.messages) n no_message) (same_place hold) in
    let held : heads (written hold).messages ≡ remove h.held (ready_place h) = heads-written hold ∙ ap (remove h.held) (same_place hold) in
    let bytes : contents (written hold).messages ≡ remove h.contents (ready_place h) = contents-written hold ∙ ap (remove h.contents) (same_place hold) in
    let applied : (written hold).applied ≡ set h.applied (ready_head h).unit.0 (ready_head h).version = ap (λ (m : UnitHead). set h.applied m.unit.0 m.version) head in
    let recorded : (written hold).recorded ≡ set h.recorded (ready_head h).unit.0 (ready_head h).at = ap (λ (m : UnitHead). set h.recorded m.unit.0 m.at) head in
    rw (e, f, held, bytes, applied, recorded) refl

-- whether one is, as a view with the half's part says it
some_if : (b : Bool) (n : ℕ) → is_some (if b then Some n else None) ≡ b
some_if true n = refl
some_if false n = refl

pub ready-seen : (s : Shape) (told : Told) (faults freed : ℕ) (hold : Hold) (v : View) (found : Option ℕ) (b : Bool) → b ≡ is_some found → found ≡ ready_slot hold → with_dest v (dest_of s told faults hold freed) ≡ v → b ≡ is_ready v.hold
ready-seen s told faults freed hold v found b e f part =
    e ∙ ap is_some f ∙ some_if (is_ready_in hold) _ ∙ same_ready s told faults freed hold ∙ ap (λ (x : View). is_ready x.hold) part
