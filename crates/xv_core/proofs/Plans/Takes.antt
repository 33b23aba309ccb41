-- What the takes of one frame, and a put, do to the pieces that a wire counts.
use Rattle.std.specs.Prelude.{◌≡◌, ◌≤◌, ◌<◌, ℕ, ◌+◌, ◌-◌, ◌==◌, ◌&&◌, nat_lt, not, Bool, true, false, List, [], ◌∷◌, ◌++◌, length, drop, Option, Some, None, option_map, IfSome, if◌then◌else◌}
use Rattle.std.proofs.Common.{arith, refl, ap, sym, ◌∙◌, subst, inl, inr}
use Rattle.std.proofs.lemmas.Bool.{lt-ltb, cases_lt, false≢true, eq-eqb, ne_eqb, and_right}
use Rattle.std.proofs.lemmas.List.{length_push}
use Rattle.xv_base.specs.Calls.{is_listed}
use Rattle.xv_wire.specs.Wire.{PutBytes, TakeBytes, Counted, left_past, is_inside, left_after, met_past, counted_after, front_piece, is_planned}
use Rattle.xv_wire.specs.Told.{Told, told_after}
use Rattle.xv_wire.specs.Lengths.{total, AreWide}
use Rattle.xv_wire.proofs.Passing.{left-within, left-over, left-none, inside-over}
use Rattle.xv_streams.specs.Taking.{first_left, AreOfOnePiece, TakesMade}
use Rattle.xv_core.specs.Plans.{takes_met, IsPieces}
use Rattle.xv_core.specs.Rising.{BothTold}
use Rattle.xv_core.proofs.Counting.Steps.{bit}

-- as many bytes as the first piece has, and fewer
zero-or-not : (n : ℕ) → 0 < n → (n == 0) ≡ false
zero-or-not n h = ne_eqb n 0 (λ e. absurd (omega arith))

left-of-whole : (p : ℕ) (ps : List ℕ) → 0 < p → AreWide ps → left_after p (p ∷ ps) ≡ ps
left-of-whole p ps some wide =
    ap (λ (b : Bool). if b then p ∷ ps else left_past p (p ∷ ps)) (zero-or-not p some)
    ∙ left-over p p ps (omega arith)
    ∙ (let none : p - p ≡ 0 = omega arith in ap (λ (k : ℕ). left_past k ps) none)
    ∙ left-none ps wide

none-inside : (ps : List ℕ) → AreWide ps → is_inside 0 ps ≡ false
none-inside [] wide = refl
none-inside (p ∷ ps) wide = ap (λ (b : Bool). if b then nat_lt 0 0 else is_inside (0 - p) ps) (lt-ltb 0 p (omega (arith, wide.0)))

met-of-whole : (p : ℕ) (met : Bool) (ps : List ℕ) → 0 < p → AreWide ps → met_past p met (p ∷ ps) ≡ false
met-of-whole p met ps some wide =
    ap (λ (b : Bool). if b then met else is_inside p (p ∷ ps)) (zero-or-not p some)
    ∙ inside-over p p ps (omega arith)
    ∙ (let none : p - p ≡ 0 = omega arith in ap (λ (k : ℕ). is_inside k ps) none)
    ∙ none-inside ps wide

left-of-part : (n p : ℕ) (ps : List ℕ) → n < p → length (left_after n (p ∷ ps)) ≡ length (p ∷ ps)
left-of-part n p ps part = elim (cases_lt 0 n) [
  | inl some ↦ ap length (ap (λ (b : Bool). if b then p ∷ ps else left_past n (p ∷ ps)) (zero-or-not n some) ∙ left-within n p ps part)
  | inr none ↦ ap (λ (b : Bool). length (if b then p ∷ ps else left_past n (p ∷ ps))) (eq-eqb n 0 (omega arith))
]

-- a frame was taken, of pieces of these lengths, or a take of it failed: one take more met a piece, and it failed by the plan
-- of takes
pub record TakenPiece (lengths : List ℕ) (failed : Bool) (before later : Counted) : Type 0 where
  pub plan : later.plan ≡ before.plan
  pub met_more : takes_met later ≡ takes_met before + 1
  pub planned : failed ≡ is_listed before.plan.takes (takes_met before + 1)
  pub pieces : failed ≡ false → IsPieces (drop 1 lengths) later

met-more : (pieces was now : ℕ) (before later : Bool) → was ≤ pieces → before ≡ false → now + 1 ≡ was + bit later → (pieces - now) + bit later ≡ (pieces - was) + bit before + 1
met-more pieces was now before true fewer none one = rw none (omega arith)
met-more pieces was now before false fewer none one = rw none (omega arith)

all-true : (x y m l : Bool) → x ≡ true → y ≡ true → m ≡ false → (x && ((y && not m) && l)) ≡ l
all-true true true false l e f g = refl
all-true false y m l e f g = absurd (cc)
all-true true false m l e f g = absurd (cc)
all-true true true true l e f g = absurd (cc)

pub none-there : (x m l : Bool) (n : ℕ) → n ≡ 0 → (x && ((nat_lt 0 n && not m) && l)) ≡ false
none-there x m l n e = and_right x ((nat_lt 0 n && not m) && l) (ap (λ (k : ℕ). (nat_lt 0 k && not m) && l) e)

front-is : (pieces left : ℕ) (met : Bool) → left ≤ pieces → met ≡ false → pieces + 1 - left ≡ (pieces - left) + bit met + 1
front-is pieces left met fewer e = rw e (omega arith)

module _ (n want : ℕ) (t : Told) (c : Counted) where
  fails-by-plan : (p : ℕ) (ps : List ℕ) (failed : Bool) → IsPieces (p ∷ ps) c → 24 ≤ p → length t.transit ≡ total (p ∷ ps) → want ≡ p
      → (AreOfOnePiece want t c → failed ≡ (nat_lt 0 want && is_planned (TakeBytes 0) t.transit c)) → failed ≡ is_listed c.plan.takes (takes_met c + 1)
  fails-by-plan p ps failed is wide long w planned =
      let one : want ≤ first_left c.left = omega (arith, ap first_left is.left) in
      planned (λ there. one)
      ∙ all-true (nat_lt 0 want) (nat_lt 0 (length t.transit)) c.met (is_listed c.plan.takes (front_piece c)) (lt-ltb 0 want (omega arith)) (lt-ltb 0 (length t.transit) (omega arith)) is.unmet
      ∙ ap (is_listed c.plan.takes) (front-is c.pieces (length c.left) c.met is.fewer is.unmet)

  taken-piece : (lengths : List ℕ) (failed : Bool) → IsPieces lengths c → AreWide lengths → length t.transit ≡ total lengths
      → (failed ≡ false → 0 < length lengths) → (0 < length lengths → want ≡ first_left lengths) → (failed ≡ true → n < want) → (failed ≡ false → n ≡ first_left lengths)
      → (AreOfOnePiece want t c → failed ≡ (nat_lt 0 want && is_planned (TakeBytes 0) t.transit c))
      → TakenPiece lengths failed c (counted_after (TakeBytes n) failed c)
  taken-piece [] failed is wide long some wants early whole planned =
      let none : failed ≡ false = planned (λ there. absurd (omega arith)) ∙ none-there (nat_lt 0 want) c.met (is_listed c.plan.takes (front_piece c)) (length t.transit) long in
      absurd (omega (arith, some none))
  taken-piece (p ∷ ps) false is wide long some wants early whole planned =
      let size : n ≡ p = whole refl in
      let left : left_after n c.left ≡ ps = (λ i. left_after (size i) (is.left i)) ∙ left-of-whole p ps (omega (arith, wide.0)) wide.1 in
      let met : met_past n c.met c.left ≡ false = (λ i. met_past (size i) c.met (is.left i)) ∙ met-of-whole p c.met ps (omega (arith, wide.0)) wide.1 in
      let was : length c.left ≡ length ps + 1 = ap length is.left ∙ omega arith in
      let now : length (left_after n c.left) ≡ length ps = ap length left in
      let same : bit (met_past n c.met c.left) ≡ 0 = ap bit met in
      record {
        plan = refl;
        met_more = met-more c.pieces (length c.left) (length (left_after n c.left)) c.met (met_past n c.met c.left) is.fewer is.unmet (omega (arith, was, now, same));
        planned = fails-by-plan p ps false is wide.0 long (wants (omega arith)) planned;
        pieces = λ _. record { left = left; unmet = met; fewer = omega (arith, was, now, is.fewer) };
      }
  taken-piece (p ∷ ps) true is wide long some wants early whole planned =
      let w : want ≡ p = wants (omega arith) in
      let now : length (left_after n c.left) ≡ length c.left = ap (λ (xs : List ℕ). length (left_after n xs)) is.left ∙ left-of-part n p ps (omega (arith, early refl)) ∙ sym (ap length is.left) in
      record {
        plan = refl;
        met_more = met-more c.pieces (length c.left) (length (left_after n c.left)) c.met true is.fewer is.unmet (omega (arith, now));
        planned = fails-by-plan p ps true is wide.0 long w planned;
        pieces = λ e. absurd (false≢true (sym e));
      }

pub takes-piece : (lengths : List ℕ) (failed : Bool) (n want : ℕ) (t u : Told) (f g : ℕ) → TakesMade n failed want t u f g → AreWide lengths → length t.transit ≡ total lengths
    → (failed ≡ false → 0 < length lengths) → (0 < length lengths → want ≡ first_left lengths) → (failed ≡ false → n ≡ first_left lengths)
    → IfSome t.counted (IsPieces lengths) → BothTold (TakenPiece lengths failed) t.counted u.counted
takes-piece lengths failed n want t u f g made wide long some wants whole is =
    subst (λ (o : Option Counted). BothTold (TakenPiece lengths failed) t.counted o) (sym (ap (λ (x : Told). x.counted) made.told)) (by t.counted is made.planned)
  where
    by : (o : Option Counted) → IfSome o (IsPieces lengths) → IfSome o (λ c. AreOfOnePiece want t c → failed ≡ (nat_lt 0 want && is_planned (TakeBytes 0) t.transit c))
        → BothTold (TakenPiece lengths failed) o (option_map (counted_after (TakeBytes n) failed) o)
    by None p q = tt
    by (Some c) p q = taken-piece n want t c lengths failed p wide long some wants made.early whole q

-- a put is one piece more at the end, and meets none
pub record PutPiece (size : ℕ) (failed : Bool) (before later : Counted) : Type 0 where
  pub plan : later.plan ≡ before.plan
  pub met_same : takes_met later ≡ takes_met before
  pub pieces : (lengths : List ℕ) → failed ≡ false → IsPieces lengths before → IsPieces (lengths ++ size ∷ []) later

put-piece : (bytes : List ℕ) (failed : Bool) (c : Counted) → PutPiece (length bytes) failed c (counted_after (PutBytes bytes) failed c)
put-piece bytes true c = record { plan = refl; met_same = refl; pieces = λ lengths e is. absurd (false≢true (sym e)) }
put-piece bytes false c =
    let one : length (c.left ++ length bytes ∷ []) ≡ length c.left + 1 = length_push c.left (length bytes) in
    record {
      plan = refl;
      met_same = let same : (c.pieces + 1) - length (c.left ++ length bytes ∷ []) ≡ c.pieces - length c.left = omega arith in ap (λ (k : ℕ). k + bit c.met) same;
      pieces = λ lengths e is. record { left = ap (λ (xs : List ℕ). xs ++ length bytes ∷ []) is.left; unmet = is.unmet; fewer = omega (arith, one, is.fewer) };
    }

pub puts-piece : (bytes : List ℕ) (failed : Bool) (t u : Told) → u ≡ told_after (PutBytes bytes) failed t → BothTold (PutPiece (length bytes) failed) t.counted u.counted
puts-piece bytes failed t u e = subst (λ (o : Option Counted). BothTold (PutPiece (length bytes) failed) t.counted o) (sym (ap (λ (x : Told). x.counted) e)) (by t.counted)
  where
    by : (o : Option Counted) → BothTold (PutPiece (length bytes) failed) o (option_map (counted_after (PutBytes bytes) failed) o)
    by None = tt
    by (Some c) = put-piece bytes failed c
