-- One frame gathered: first its head, then the rest.
use Rattle.std.proofs.Common.{◌≡◌, ℕ, ◌+◌, ◌-◌, ◌<◌, ◌≤◌, List, [], ◌∷◌, ◌++◌, length, take, drop, sym, ap, ◌∙◌, arith, refl, subst, append_assoc, length-append, length-drop, Bool, true, false, Some}
use Rattle.std.specs.Prelude.{min, max, is_some}
use Rattle.std.proofs.lemmas.Bool.{false≢true}
use Rattle.std.proofs.lemmas.List.{take-append-drop, take-append-le, length-take}
use Rattle.xv_base.specs.Units.{Shape}
use Rattle.xv_base.specs.Layout.{IsGood}
use Rattle.xv_frame.specs.Frame.{Frame, Each, IsFrame, spelled, all_spelled}
use Rattle.xv_frame.specs.Reading.{frames_in}
use Rattle.xv_frame.specs.Size.{frame_size}
use Rattle.xv_frame.proofs.Accepted.{length-spelled}
use Rattle.xv_frame.proofs.Faultless.{size-at-front}
use Rattle.xv_wire.specs.Told.{Told}
use Rattle.xv_streams.specs.Taking.{TakesMade}
use Rattle.xv_streams.specs.Lanes.{front_size, wanted, IsLane, FrameTaken}
use Rattle.xv_streams.proofs.Takes.{Taking, failed-of-more, go-on, takes-after}

-- bytes gathered until there are so many
pub record Fills (old new : List ℕ) (have count want : ℕ) (failed : Bool) (before later : Told) (faults more : ℕ) : Type 0 where
  pub old_long : length old ≡ have
  pub new_long : length new ≡ count
  pub grown : have ≤ count
  pub most : count ≤ want
  pub there : count - have ≤ length before.transit
  pub gathered : new ≡ old ++ take (count - have) before.transit
  pub made : TakesMade (count - have) failed (want - have) before later faults more
  pub enough : failed ≡ false → count ≡ min want (have + length before.transit)

-- no byte is lost
pub fills-move : (old new : List ℕ) (have count want : ℕ) (failed : Bool) (t u : Told) (f g : ℕ) → Fills old new have count want failed t u f g → new ++ u.transit ≡ old ++ t.transit
fills-move old new have count want failed t u f g h =
    let n : ℕ = count - have in
    (λ i. h.gathered i ++ ap (λ (s : Told). s.transit) h.made.told i) ∙ append_assoc old (take n t.transit) (drop n t.transit) ∙ ap (λ xs. old ++ xs) (take-append-drop n t.transit)

-- a lane with no frame, and one with a first frame
record IsEmpty (old transit : List ℕ) : Type 0 where
  none_gathered : length old ≡ 0
  none_left : length transit ≡ 0

empty-lane : (old transit : List ℕ) → [] ≡ old ++ transit → IsEmpty old transit
empty-lane old transit e = record { none_gathered = omega (arith, ap length e, length-append old transit); none_left = omega (arith, ap length e, length-append old transit) }

record HasFirst (s : Shape) (room : ℕ) (f : Frame) (rest : List Frame) (old transit : List ℕ) : Type 0 where
  stands : old ++ transit ≡ spelled f ++ all_spelled rest
  frame : IsFrame s f
  part : length old ≤ length (spelled f)
  fits : length (spelled f) ≤ room
  there : length (spelled f) ≤ length old + length transit

first-lane : (s : Shape) (room : ℕ) (f : Frame) (rest : List Frame) (old transit : List ℕ) → IsLane s room old transit → frames_in s (old ++ transit) ≡ f ∷ rest → HasFirst s room f rest old transit
first-lane s room f rest old transit h e =
    let stands : old ++ transit ≡ spelled f ++ all_spelled rest = sym h.stand ∙ ap all_spelled e in
    let each : Each (IsFrame s) (f ∷ rest) = subst (Each (IsFrame s)) e h.each in
    let fit : Each (λ x. length (spelled x) ≤ room) (f ∷ rest) = subst (Each (λ x. length (spelled x) ≤ room)) e h.fit in
    record {
      stands = stands;
      frame = each.0;
      part = subst (λ fs. length old ≤ front_size fs) e h.part;
      fits = fit.0;
      there = omega (arith, ap length stands, length-append old transit, length-append (spelled f) (all_spelled rest));
    }

-- the answer, where the list of frames is known
record TakenOf (fs : List Frame) (old new : List ℕ) (failed : Bool) (before later : Told) (faults more : ℕ) : Type 0 where
  moved : new ++ later.transit ≡ old ++ before.transit
  grown : length old ≤ length new
  part : length new ≤ front_size fs
  whole : failed ≡ false → length new ≡ front_size fs
  made : TakesMade (length new - length old) failed (wanted fs (length old)) before later faults more

taken-of : (s : Shape) (old new : List ℕ) (failed : Bool) (t u : Told) (f g : ℕ) → TakenOf (frames_in s (old ++ t.transit)) old new failed t u f g → FrameTaken s old new failed t u f g
taken-of s old new failed t u f g h = record { moved = h.moved; grown = h.grown; part = h.part; whole = h.whole; made = h.made }

-- the number of bytes by the lengths of the lists
made-by : (n m want more : ℕ) (failed : Bool) (t u : Told) (f g : ℕ) → TakesMade n failed want t u f g → n ≡ m → want ≡ more → TakesMade m failed more t u f g
made-by n m want more failed t u f g h e d = subst (λ k. TakesMade m failed k t u f g) d (subst (λ k. TakesMade k failed want t u f g) e h)

empty-taken : (old new : List ℕ) (have count want : ℕ) (failed : Bool) (t u : Told) (f g : ℕ) → Fills old new have count want failed t u f g → want ≡ max have 24 → IsEmpty old t.transit → TakenOf [] old new failed t u f g
empty-taken old new have count want failed t u f g h w e =
    let none : count ≡ 0 = omega (arith, h.there, h.old_long, e.none_gathered, e.none_left, h.grown) in
    record {
      moved = fills-move old new have count want failed t u f g h;
      grown = omega (arith, e.none_gathered);
      part = omega (arith, h.new_long);
      whole = λ _. omega (arith, h.new_long);
      made = made-by (count - have) (length new - length old) (want - have) 24 failed t u f g h.made (omega (arith, h.new_long, h.old_long)) (omega (arith, h.old_long, e.none_gathered));
    }

-- the head is not whole, or a take failed before it was
pub head-failed : (s : Shape) (room : ℕ) (old new : List ℕ) (have count want : ℕ) (t u : Told) (f g : ℕ) → IsLane s room old t.transit → Fills old new have count want true t u f g → want ≡ max have 24
    → FrameTaken s old new true t u f g
head-failed s room old new have count want t u f g l h w = taken-of s old new true t u f g (by (frames_in s (old ++ t.transit)) refl)
  where
    by : (fs : List Frame) → frames_in s (old ++ t.transit) ≡ fs → TakenOf fs old new true t u f g
    by [] e = empty-taken old new have count want true t u f g h w (empty-lane old t.transit (ap all_spelled (sym e) ∙ l.stand))
    by (x ∷ rest) e =
        let first = first-lane s room x rest old t.transit l e in
        let short : want ≤ length (spelled x) = omega (arith, length-spelled x, first.part, h.old_long) in
        record {
          moved = fills-move old new have count want true t u f g h;
          grown = omega (arith, h.grown, h.old_long, h.new_long);
          part = omega (arith, h.most, h.new_long);
          whole = λ c. absurd (false≢true (sym c));
          made = made-by (count - have) (length new - length old) (length (spelled x) - have) (length (spelled x) - length old) true t u f g
              (failed-of-more (count - have) (want - have) (length (spelled x) - have) t u f g h.made (omega arith)) (omega (arith, h.new_long, h.old_long)) (omega (arith, h.old_long));
        }

pub head-none : (s : Shape) (room : ℕ) (old new : List ℕ) (have count want : ℕ) (t u : Told) (f g : ℕ) → IsLane s room old t.transit → Fills old new have count want false t u f g → want ≡ max have 24 → count < 24
    → FrameTaken s old new false t u f g
head-none s room old new have count want t u f g l h w few = taken-of s old new false t u f g (by (frames_in s (old ++ t.transit)) refl)
  where
    by : (fs : List Frame) → frames_in s (old ++ t.transit) ≡ fs → TakenOf fs old new false t u f g
    by [] e = empty-taken old new have count want false t u f g h w (empty-lane old t.transit (ap all_spelled (sym e) ∙ l.stand))
    by (x ∷ rest) e =
        let first = first-lane s room x rest old t.transit l e in
        absurd (omega (arith, h.enough refl, length-spelled x, first.there, h.old_long))

-- a whole head: there is a first frame, and the head tells its size
pub record HeadKnown (s : Shape) (room : ℕ) (old new transit : List ℕ) (count size : ℕ) : Type 0 where
  pub fits : size ≤ room
  pub within : count ≤ size
  pub first : front_size (frames_in s (old ++ transit)) ≡ size
  pub wants : wanted (frames_in s (old ++ transit)) (length old) ≡ size - length old
  pub there : size ≤ length old + length transit

size-some : (a b : ℕ) → Some a ≡ Some b → a ≡ b
size-some a b e = cc

pub head-known : (s : Shape) (room : ℕ) (old new : List ℕ) (have count want size : ℕ) (t u : Told) (f g : ℕ) → IsGood s → IsLane s room old t.transit → Fills old new have count want false t u f g → want ≡ max have 24 → 24 ≤ count
    → frame_size s (take 24 new) ≡ Some size → HeadKnown s room old new t.transit count size
head-known s room old new have count want size t u f g good l h w many told = by (frames_in s (old ++ t.transit)) refl
  where
    by : (fs : List Frame) → frames_in s (old ++ t.transit) ≡ fs → HeadKnown s room old new t.transit count size
    by [] e =
        let none = empty-lane old t.transit (ap all_spelled (sym e) ∙ l.stand) in
        absurd (omega (arith, h.there, h.old_long, none.none_gathered, none.none_left))
    by (x ∷ rest) e =
        let first = first-lane s room x rest old t.transit l e in
        let front : take 24 new ≡ take 24 (spelled x ++ all_spelled rest) =
        sym (take-append-le 24 new u.transit (omega (arith, h.new_long))) ∙ ap (take 24) (fills-move old new have count want false t u f g h ∙ first.stands) in
        let is : size ≡ length (spelled x) = size-some size (length (spelled x)) (sym told ∙ ap (frame_size s) front ∙ size-at-front s x (all_spelled rest) good first.frame) in
        record {
          fits = omega (arith, is, first.fits);
          within = omega (arith, is, h.most, length-spelled x, first.part, h.old_long);
          first = ap front_size e ∙ sym is;
          wants = ap (λ fs. wanted fs (length old)) e ∙ ap (λ k. k - length old) (sym is);
          there = omega (arith, is, first.there);
        }

pub size-known : (s : Shape) (room : ℕ) (old new : List ℕ) (have count want : ℕ) (t u : Told) (f g : ℕ) → IsGood s → IsLane s room old t.transit → Fills old new have count want false t u f g → want ≡ max have 24 → 24 ≤ count
    → is_some (frame_size s (take 24 new)) ≡ true
size-known s room old new have count want t u f g good l h w many = by (frames_in s (old ++ t.transit)) refl
  where
    by : (fs : List Frame) → frames_in s (old ++ t.transit) ≡ fs → is_some (frame_size s (take 24 new)) ≡ true
    by [] e =
        let none = empty-lane old t.transit (ap all_spelled (sym e) ∙ l.stand) in
        absurd (omega (arith, h.there, h.old_long, none.none_gathered, none.none_left))
    by (x ∷ rest) e =
        let first = first-lane s room x rest old t.transit l e in
        let front : take 24 new ≡ take 24 (spelled x ++ all_spelled rest) =
        sym (take-append-le 24 new u.transit (omega (arith, h.new_long))) ∙ ap (take 24) (fills-move old new have count want false t u f g h ∙ first.stands) in
        ap is_some (ap (frame_size s) front ∙ size-at-front s x (all_spelled rest) good first.frame)

-- the rest of the frame
pub rest-taken : (s : Shape) (room : ℕ) (old mid new : List ℕ) (have count want size last : ℕ) (failed : Bool) (t u v : Told) (f g k : ℕ)
    → Fills old mid have count want false t u f g → HeadKnown s room old mid t.transit count size → want ≡ max have 24 → 24 ≤ count → Fills mid new count last size failed u v g k
    → FrameTaken s old new failed t v f k
rest-taken s room old mid new have count want size last failed t u v f g k h known w many rest =
    let n : ℕ = count - have in
    let whole : count ≡ want = omega (arith, h.enough refl, h.most, known.there, known.within, h.old_long) in
    let long : length u.transit ≡ length t.transit - n = ap length (ap (λ (s' : Told). s'.transit) h.made.told) ∙ length-drop n t.transit in
    let begun : Taking n (size - have) t u f g = go-on n (want - have) (size - have) t u f g h.made (omega arith) (omega (arith, known.within)) in
    let took : TakesMade (n + (last - count)) failed (size - have) t v f k =
    takes-after n (last - count) (size - have) failed t u v f g k begun h.there (omega (arith, known.within))
    (made-by (last - count) (last - count) (size - count) (size - have - n) failed u v g k rest.made refl (omega (arith, h.grown))) in
    record {
      moved = fills-move mid new count last size failed u v g k rest ∙ fills-move old mid have count want false t u f g h;
      grown = omega (arith, h.grown, rest.grown, h.old_long, rest.new_long);
      part = omega (arith, known.first, rest.most, rest.new_long);
      whole = λ c. omega (arith, rest.enough c, known.first, known.there, rest.new_long, h.old_long, long, h.grown, h.there, known.within, rest.most);
      made = made-by (n + (last - count)) (length new - length old) (size - have) (wanted (frames_in s (old ++ t.transit)) (length old)) failed t v f k took
          (omega (arith, h.grown, rest.grown, h.old_long, rest.new_long)) (omega (arith, known.wants, h.old_long));
    }

pub fills-from : (buffer next : List ℕ) (have count want : ℕ) (failed : Bool) (t u : Told) (f g : ℕ) → have ≤ count → count ≤ want → want ≤ length buffer → length next ≡ length buffer
    → count - have ≤ length t.transit → take count next ≡ take have buffer ++ take (count - have) t.transit → TakesMade (count - have) failed (want - have) t u f g
    → (failed ≡ false → count ≡ min want (have + length t.transit)) → Fills (take have buffer) (take count next) have count want failed t u f g
fills-from buffer next have count want failed t u f g grown most room same there gathered made enough = record {
  old_long = omega (arith, length-take have buffer);
  new_long = omega (arith, length-take count next);
  grown = grown;
  most = most;
  there = there;
  gathered = gathered;
  made = made;
  enough = enough;
}
