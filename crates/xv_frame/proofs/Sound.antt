-- What is accepted is a spelling.
use Rattle.std.proofs.Common.{◌≡◌, ℕ, ◌<◌, ◌≤◌, List, length, get_or, sym, ap, ◌∙◌, arith, refl, Bool, true, false, not, ◌&&◌, ◌||◌, eqb, ltb, Option, Some, None, Result, subst}
use Rattle.std.specs.Prelude.{if◌then◌else◌, IfOk}
use Rattle.std.proofs.lemmas.Bool.{eqb-true, ltb-true, ltb-false}
use Rattle.std.proofs.lemmas.Bool.Decides.{eqb_tells}
use Rattle.xv_base.specs.Units.{Shape, units, size}
use Rattle.xv_frame.specs.declared.heads.Head.{Head}
use Rattle.xv_frame.specs.declared.heads.Head.TheVariants.{Unit as UnitHeadOf, Ack}
use Rattle.xv_frame.specs.declared.heads.FrameFault.{FrameFault}
use Rattle.xv_frame.specs.declared.heads.FrameFault.TheVariants as fault
use Rattle.xv_frame.specs.Fields.{word_at, zero_at}
use Rattle.xv_frame.specs.Frame.{unit_head}
use Rattle.xv_frame.specs.Heads.{IsHead, head_spelled}
use Rattle.xv_frame.specs.Faults.{unit_fault, ack_fault, head_fault, head_or, read_head}
use Rattle.xv_frame.specs.Reading.{front_head}
use Rattle.xv_frame.proofs.Numbers.{AreBytes, word-fits, long-fits}
use Rattle.xv_frame.proofs.WhatTestsSay.{no-fault, not-false, both-true, both-false}
use Rattle.xv_frame.proofs.Written.{unit-head-written, ack-written}

abbrev Sound : Shape → List ℕ → Head → Type 0
Sound s b it = IsHead s it × (b ≡ head_spelled s it)

unit-sound : (s : Shape) (b : List ℕ) → AreBytes b → length b ≡ 24 → get_or b 0 0 ≡ 1 → get_or b 1 0 ≡ 1 → unit_fault s b ≡ None → Sound s b (UnitHeadOf (front_head b))
unit-sound s b h l format kind none =
    let zeros = no-fault (not (zero_at b 2 2)) fault.NotZero _ none in
    let unit = no-fault (not (ltb (word_at b 4) (units s))) fault.BadUnit _ zeros.1 in
    let version = no-fault (eqb (word_at b 8) 0) fault.BadVersion _ unit.1 in
    let long = no-fault (not (eqb (word_at b 12) (size s (word_at b 4)))) fault.BadLength None version.1 in
    let in' : word_at b 4 < units s = ltb-true (word_at b 4) (units s) (not-false _ unit.0) in
    let made : 1 ≤ word_at b 8 = grind (arith, eqb_tells (word_at b 8) 0, version.0) in
    let same : word_at b 12 ≡ size s (word_at b 4) = eqb-true (word_at b 12) (size s (word_at b 4)) (not-false _ long.0) in
    ((in', made, word-fits b 8 h, long-fits b 16 h), unit-head-written b h l format kind (not-false _ zeros.0) ∙ ap (unit_head (front_head b)) same)

ack-sound : (s : Shape) (b : List ℕ) → AreBytes b → length b ≡ 24 → get_or b 0 0 ≡ 1 → get_or b 1 0 ≡ 2 → ack_fault b ≡ None → Sound s b (Ack (word_at b 8))
ack-sound s b h l format kind none =
    let zeros = no-fault (not (zero_at b 2 6 && zero_at b 12 12)) fault.NotZero _ none in
    let count = no-fault (eqb (word_at b 8) 0 || ltb 1024 (word_at b 8)) fault.BadCount None zeros.1 in
    let both = both-true (zero_at b 2 6) (zero_at b 12 12) (not-false _ zeros.0) in
    let range = both-false (eqb (word_at b 8) 0) (ltb 1024 (word_at b 8)) count.0 in
    let some : 1 ≤ word_at b 8 = grind (arith, eqb_tells (word_at b 8) 0, range.0) in
    ((some, ltb-false 1024 (word_at b 8) range.1), ack-written b h l format kind both.0 both.1)

-- by the kind
kind-sound : (s : Shape) (b : List ℕ) → AreBytes b → length b ≡ 24 → get_or b 0 0 ≡ 1 → (one two : Bool) → eqb (get_or b 1 0) 1 ≡ one → eqb (get_or b 1 0) 2 ≡ two
    → (if one then unit_fault s b else (if two then ack_fault b else Some fault.BadKind)) ≡ None
    → Sound s b (if two then Ack (word_at b 8) else UnitHeadOf (front_head b))
kind-sound s b h l format true true e d none = absurd (omega (arith, eqb-true (get_or b 1 0) 1 e, eqb-true (get_or b 1 0) 2 d))
kind-sound s b h l format true false e d none = unit-sound s b h l format (eqb-true (get_or b 1 0) 1 e) none
kind-sound s b h l format false true e d none = ack-sound s b h l format (eqb-true (get_or b 1 0) 2 d) none
kind-sound s b h l format false false e d none = cc

accepted-sound : (s : Shape) (b : List ℕ) → AreBytes b → length b ≡ 24 → (f : Option FrameFault) → head_fault s b ≡ f
    → IfOk (head_or f (if eqb (get_or b 1 0) 2 then Ack (word_at b 8) else UnitHeadOf (front_head b))) (Sound s b)
accepted-sound s b h l (Some f) e = tt
accepted-sound s b h l None e =
    let format = no-fault (not (eqb (get_or b 0 0) 1)) fault.BadFormat _ e in
    kind-sound s b h l (eqb-true (get_or b 0 0) 1 (not-false _ format.0)) (eqb (get_or b 1 0) 1) (eqb (get_or b 1 0) 2) refl refl format.1

pub head-sound : (s : Shape) (b : List ℕ) (r : Result Head FrameFault) → AreBytes b → length b ≡ 24 → r ≡ read_head s b
    → IfOk r (λ it. IsHead s it × (b ≡ head_spelled s it))
head-sound s b r h l e = subst (λ q. IfOk q (Sound s b)) (sym e) (accepted-sound s b h l (head_fault s b) refl)
