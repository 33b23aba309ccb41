-- A lane after a frame was put, gathered in part, and taken off.
use Rattle.std.proofs.Common.{◌≡◌, ℕ, suc, ◌+◌, ◌-◌, ◌*◌, ◌<◌, ◌≤◌, List, [], ◌∷◌, ◌++◌, length, take, drop, sym, ap, ◌∙◌, arith, refl, subst, append_assoc, length-append, Bool, false}
use Rattle.std.proofs.lemmas.List.{take_at, drop_at, append-nil}
use Rattle.std.proofs.lemmas.List.{length_push}
use Rattle.xv_base.specs.Units.{Shape}
use Rattle.xv_base.specs.Layout.{IsGood}
use Rattle.xv_frame.specs.Frame.{Frame, Each, IsFrame, spelled, all_spelled}
use Rattle.xv_frame.specs.Reading.{frames_in}
use Rattle.xv_frame.proofs.Accepted.{list-back, length-spelled}
use Rattle.xv_wire.specs.Told.{Told}
use Rattle.xv_streams.specs.Gathered.{Gathered}
use Rattle.xv_streams.specs.Lanes.{front_size, FrameTaken}
use Rattle.xv_streams.specs.Streamed.{format_of, frame_room, IsLaneOf}

each-push : {A : Type 0} (P : A → Type 0) (xs : List A) (x : A) → Each P xs → P x → Each P (xs ++ x ∷ [])
each-push P [] x h p = (p, tt)
each-push P (y ∷ xs) x h p = (h.0, each-push P xs x h.1 p)

spelled-push : (fs : List Frame) (f : Frame) → all_spelled (fs ++ f ∷ []) ≡ all_spelled fs ++ spelled f
spelled-push [] f = append-nil (spelled f)
spelled-push (g ∷ fs) f = ap (λ xs. spelled g ++ xs) (spelled-push fs f) ∙ sym (append_assoc (spelled g) (all_spelled fs) (spelled f))

front-kept : (fs : List Frame) (f : Frame) (n : ℕ) → n ≤ front_size fs → n ≤ front_size (fs ++ f ∷ [])
front-kept [] f n h = omega arith
front-kept (g ∷ fs) f n h = h

-- each frame has 24 bytes or more
pub many-bytes : (fs : List Frame) → 24 * length fs ≤ length (all_spelled fs)
many-bytes [] = omega arith
many-bytes (f ∷ fs) = omega (arith, many-bytes fs, length-spelled f, length-append (spelled f) (all_spelled fs))

lane-by : (s : Shape) (format : ℕ) (told : Told) (l : Gathered) (fs : List Frame) → IsGood s → l.bytes ++ told.transit ≡ all_spelled fs → Each (IsFrame s) fs → length l.bytes ≤ front_size fs
    → Each (λ f. length (spelled f) ≤ l.room) fs → Each (λ f. format_of f ≡ format) fs → l.waiting ≡ length fs → l.room ≡ frame_room s format → IsLaneOf s format told l
lane-by s format told l fs good stands each part fit kinds counted roomy =
    let is : frames_in s (l.bytes ++ told.transit) ≡ fs = ap (frames_in s) stands ∙ list-back s fs good each in
    record {
      lane = record {
        stand = ap all_spelled is ∙ sym stands;
        each = subst (Each (IsFrame s)) (sym is) each;
        part = subst (λ xs. length l.bytes ≤ front_size xs) (sym is) part;
        fit = subst (Each (λ f. length (spelled f) ≤ l.room)) (sym is) fit;
      };
      kinds = subst (Each (λ f. format_of f ≡ format)) (sym is) kinds;
      counted = counted ∙ ap length (sym is);
      roomy = roomy;
    }

frames-by : (s : Shape) (bytes : List ℕ) (fs : List Frame) → IsGood s → bytes ≡ all_spelled fs → Each (IsFrame s) fs → frames_in s bytes ≡ fs
frames-by s bytes fs good stands each = ap (frames_in s) stands ∙ list-back s fs good each

-- a frame more is on the way
pub frames-more : (s : Shape) (format : ℕ) (t u : Told) (l : Gathered) (f : Frame) → IsGood s → IsLaneOf s format t l → IsFrame s f → u.transit ≡ t.transit ++ spelled f
    → frames_in s (l.bytes ++ u.transit) ≡ frames_in s (l.bytes ++ t.transit) ++ f ∷ []
frames-more s format t u l f good h i e =
    let fs = frames_in s (l.bytes ++ t.transit) in
    frames-by s (l.bytes ++ u.transit) (fs ++ f ∷ []) good
    (ap (λ xs. l.bytes ++ xs) e ∙ sym (append_assoc l.bytes t.transit (spelled f)) ∙ ap (λ xs. xs ++ spelled f) (sym h.lane.stand) ∙ sym (spelled-push fs f)) (each-push (IsFrame s) fs f h.lane.each i)

pub lane-more : (s : Shape) (format : ℕ) (t u : Told) (l : Gathered) (f : Frame) → IsGood s → IsLaneOf s format t l → IsFrame s f → format_of f ≡ format → length (spelled f) ≤ l.room → u.transit ≡ t.transit ++ spelled f
    → IsLaneOf s format u (record l { waiting = l.waiting + 1 })
lane-more s format t u l f good h i kind fits e =
    let fs = frames_in s (l.bytes ++ t.transit) in
    lane-by s format u (record l { waiting = l.waiting + 1 }) (fs ++ f ∷ []) good
    (ap (λ xs. l.bytes ++ xs) e ∙ sym (append_assoc l.bytes t.transit (spelled f)) ∙ ap (λ xs. xs ++ spelled f) (sym h.lane.stand) ∙ sym (spelled-push fs f))
    (each-push (IsFrame s) fs f h.lane.each i) (front-kept fs f (length l.bytes) h.lane.part) (each-push (λ x. length (spelled x) ≤ l.room) fs f h.lane.fit fits)
    (each-push (λ x. format_of x ≡ format) fs f h.kinds kind) (omega (arith, h.counted, length_push fs f)) h.roomy

-- bytes were gathered
pub lane-kept : (s : Shape) (format : ℕ) (t u : Told) (l : Gathered) (new : List ℕ) (failed : Bool) (f g : ℕ) → IsLaneOf s format t l → FrameTaken s l.bytes new failed t u f g
    → IsLaneOf s format u (record l { bytes = new })
lane-kept s format t u l new failed f g h taken =
    let same : new ++ u.transit ≡ l.bytes ++ t.transit = taken.moved in
    record {
      lane = record {
        stand = subst (λ b. all_spelled (frames_in s b) ≡ b) (sym same) h.lane.stand;
        each = subst (λ b. Each (IsFrame s) (frames_in s b)) (sym same) h.lane.each;
        part = subst (λ b. length new ≤ front_size (frames_in s b)) (sym same) taken.part;
        fit = subst (λ b. Each (λ x. length (spelled x) ≤ l.room) (frames_in s b)) (sym same) h.lane.fit;
      };
      kinds = subst (λ b. Each (λ x. format_of x ≡ format) (frames_in s b)) (sym same) h.kinds;
      counted = subst (λ b. l.waiting ≡ length (frames_in s b)) (sym same) h.counted;
      roomy = h.roomy;
    }

-- the first frame was gathered whole
pub record Whole (s : Shape) (format : ℕ) (fs : List Frame) (new rest : List ℕ) (l : Gathered) (u : Told) (f : Frame) (others : List Frame) : Type 0 where
  pub list : fs ≡ f ∷ others
  pub front : new ≡ spelled f
  pub left : u.transit ≡ all_spelled others
  pub frame : IsFrame s f
  pub kind : format_of f ≡ format
  pub behind : frames_in s ([] ++ u.transit) ≡ others
  pub lane : IsLaneOf s format u (record l { bytes = []; waiting = l.waiting - 1 })
  pub some : 0 < l.waiting

whole-list : (s : Shape) (format : ℕ) (fs : List Frame) (old new : List ℕ) (l : Gathered) (t u : Told) → IsGood s → IsLaneOf s format t l → frames_in s (l.bytes ++ t.transit) ≡ fs
    → new ++ u.transit ≡ l.bytes ++ t.transit → length new ≡ front_size fs → 0 < length new → (f : Frame) (others : List Frame) → fs ≡ f ∷ others → Whole s format (frames_in s (l.bytes ++ t.transit)) new new l u f others
whole-list s format fs old new l t u good h is same long some f others e =
    let list : frames_in s (l.bytes ++ t.transit) ≡ f ∷ others = is ∙ e in
    let n : length new ≡ length (spelled f) = long ∙ ap front_size e in
    let stands : new ++ u.transit ≡ spelled f ++ all_spelled others = same ∙ sym h.lane.stand ∙ ap all_spelled list in
    let each : Each (IsFrame s) (f ∷ others) = subst (Each (IsFrame s)) list h.lane.each in
    let fit : Each (λ x. length (spelled x) ≤ l.room) (f ∷ others) = subst (Each (λ x. length (spelled x) ≤ l.room)) list h.lane.fit in
    let kinds : Each (λ x. format_of x ≡ format) (f ∷ others) = subst (Each (λ x. format_of x ≡ format)) list h.kinds in
    let left : u.transit ≡ all_spelled others = sym (drop_at new u.transit (length (spelled f)) n) ∙ ap (drop (length (spelled f))) stands ∙ drop_at (spelled f) (all_spelled others) (length (spelled f)) refl in
    let counted : l.waiting ≡ suc (length others) = h.counted ∙ ap length list in
    record {
      list = list;
      front = sym (take_at new u.transit (length (spelled f)) n) ∙ ap (take (length (spelled f))) stands ∙ take_at (spelled f) (all_spelled others) (length (spelled f)) refl;
      left = left;
      frame = each.0;
      kind = kinds.0;
      behind = frames-by s ([] ++ u.transit) others good left each.1;
      lane = lane-by s format u (record l { bytes = []; waiting = l.waiting - 1 }) others good left each.1 (omega arith) fit.1 kinds.1 (omega (arith, counted)) h.roomy;
      some = omega (arith, counted);
    }

-- which frame it was
pub record WholeFrame (s : Shape) (format : ℕ) (fs : List Frame) (new : List ℕ) (l : Gathered) (u : Told) : Type 0 where
  pub f : Frame
  pub others : List Frame
  pub is : Whole s format fs new new l u f others

whole-by : (s : Shape) (format : ℕ) (fs : List Frame) (new : List ℕ) (l : Gathered) (t u : Told) → IsGood s → IsLaneOf s format t l → frames_in s (l.bytes ++ t.transit) ≡ fs
    → new ++ u.transit ≡ l.bytes ++ t.transit → length new ≡ front_size fs → 0 < length new → WholeFrame s format (frames_in s (l.bytes ++ t.transit)) new l u
whole-by s format [] new l t u good h is same long some = absurd (omega arith)
whole-by s format (f ∷ others) new l t u good h is same long some = record { f = f; others = others; is = whole-list s format (f ∷ others) new new l t u good h is same long some f others refl }

pub whole-frame : (s : Shape) (format : ℕ) (new : List ℕ) (l : Gathered) (t u : Told) (f g : ℕ) → IsGood s → IsLaneOf s format t l → FrameTaken s l.bytes new false t u f g → 0 < length new
    → WholeFrame s format (frames_in s (l.bytes ++ t.transit)) new l u
whole-frame s format new l t u f g good h taken some = whole-by s format (frames_in s (l.bytes ++ t.transit)) new l t u good h refl taken.moved (taken.whole refl) some
