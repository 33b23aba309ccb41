-- Lines that were taken one after another.
use Rattle.std.proofs.Common.{◌≡◌, ℕ, ◌+◌, ◌≤◌, true, List, [], ◌++◌, length, take, drop, get_or, Option, refl, sym, ap, subst, ◌∙◌, arith, append_assoc, append-nil}
use Rattle.std.specs.Prelude.{◌<◌, nat_le, false, Bool}
use Rattle.std.specs.List.{list_all}
use Rattle.std.proofs.lemmas.List.{drop_more, drop_all}
use Rattle.std.proofs.lemmas.List.Folds.{list_all_at}
use Rattle.std.proofs.lemmas.List.{length-take}
use Rattle.xv_base.specs.declared.answer.Entry.{Entry}
use Rattle.xv_io.specs.Io.{TookMore, TookFront}
use Rattle.xv_io.proofs.Took.{took-both, front-then}
use Rattle.xv_script.specs.Lines.{turn_line}
use Rattle.xv_run.specs.Journal.{bytes_read, is_short, lines_with}

-- a text was taken but for what is left of it
pub record AreTaken (old new : Option (List ℕ)) (whole rest : List ℕ) : Type 0 where
  pub text : List ℕ
  pub taken : TookMore old new text
  pub parts : whole ≡ text ++ rest

pub all-taken : (a b : Option (List ℕ)) (whole rest : List ℕ) → rest ≡ [] → AreTaken a b whole rest → TookMore a b whole
all-taken a b whole rest none h =
    subst (λ (t : List ℕ). TookMore a b t) (sym (h.parts ∙ (ap (λ (t : List ℕ). h.text ++ t) none ∙ append-nil h.text))) h.taken

line-taken : (a b c : Option (List ℕ)) (whole line rest : List ℕ) → AreTaken a b whole (line ++ rest) → TookMore b c line → AreTaken a c whole rest
line-taken a b c whole line rest h more = record {
  text = h.text ++ line;
  taken = took-both a b c h.text line h.taken more;
  parts = h.parts ∙ sym (append_assoc h.text line rest);
}

line-cut : (a b c : Option (List ℕ)) (whole line rest : List ℕ) → AreTaken a b whole (line ++ rest) → TookFront b c line → TookFront a c whole
line-cut a b c whole line rest h front = front-then a b c h.text line whole h.taken front rest h.parts

-- the line of an entry, and those behind it
abbrev one : Entry → List ℕ → List ℕ
one e rest = turn_line e.event e.turn (take (bytes_read e) rest)

entry-first : (journal : List Entry) (rest : List ℕ) (i : ℕ) (d : Entry) → i < length journal → lines_with (drop i journal) rest ≡ one (get_or journal i d) rest ++ lines_with (drop (i + 1) journal) (drop (bytes_read (get_or journal i d)) rest)
entry-first journal rest i d there = ap (λ (es : List Entry). lines_with es rest) (drop_more journal i d there)

pub entry-taken : (a b c : Option (List ℕ)) (whole : List ℕ) (journal : List Entry) (rest later : List ℕ) (i : ℕ) (d e : Entry) → i < length journal → e ≡ get_or journal i d → later ≡ drop (bytes_read e) rest
    → AreTaken a b whole (lines_with (drop i journal) rest) → TookMore b c (turn_line e.event e.turn (take (bytes_read e) rest)) → AreTaken a c whole (lines_with (drop (i + 1) journal) later)
entry-taken a b c whole journal rest later i d e there is behind h more =
    let whole_line : AreTaken a b whole (one e rest ++ lines_with (drop (i + 1) journal) (drop (bytes_read e) rest)) =
    subst (λ (x : Entry). AreTaken a b whole (one x rest ++ lines_with (drop (i + 1) journal) (drop (bytes_read x) rest))) (sym is)
    (subst (λ (t : List ℕ). AreTaken a b whole t) (entry-first journal rest i d there) h) in
    subst (λ (bs : List ℕ). AreTaken a c whole (lines_with (drop (i + 1) journal) bs)) (sym behind)
    (line-taken a b c whole (one e rest) (lines_with (drop (i + 1) journal) (drop (bytes_read e) rest)) whole_line more)

pub entry-cut : (a b c : Option (List ℕ)) (whole : List ℕ) (journal : List Entry) (rest : List ℕ) (i : ℕ) (d e : Entry) → i < length journal → e ≡ get_or journal i d
    → AreTaken a b whole (lines_with (drop i journal) rest) → TookFront b c (turn_line e.event e.turn (take (bytes_read e) rest)) → TookFront a c whole
entry-cut a b c whole journal rest i d e there is h front =
    let whole_line : AreTaken a b whole (one e rest ++ lines_with (drop (i + 1) journal) (drop (bytes_read e) rest)) =
    subst (λ (x : Entry). AreTaken a b whole (one x rest ++ lines_with (drop (i + 1) journal) (drop (bytes_read x) rest))) (sym is)
    (subst (λ (t : List ℕ). AreTaken a b whole t) (entry-first journal rest i d there) h) in
    line-cut a b c whole (one e rest) (lines_with (drop (i + 1) journal) (drop (bytes_read e) rest)) whole_line front

-- a read is short where all are
le-of : (m n : ℕ) → nat_le m n ≡ true → m ≤ n
le-of m n is = grind (arith, nat_le, is)

pub entry-short : (journal : List Entry) (i : ℕ) (d : Entry) (rest : List ℕ) → i < length journal → list_all is_short journal ≡ true → length (take (bytes_read (get_or journal i d)) rest) ≤ 64
entry-short journal i d rest there all =
    let read = bytes_read (get_or journal i d) in
    omega (arith, length-take read rest, le-of read 64 (by (is_short (get_or journal i d)) refl))
  where
    by : (b : Bool) → is_short (get_or journal i d) ≡ b → is_short (get_or journal i d) ≡ true
    by true is = is
    by false is = absurd (let none : false ≡ true = sym (list_all_at is_short journal i d there is) ∙ all in cc)

-- the same, as a turn of the writer has them
pub turn-taken : (a b c : Option (List ℕ)) (whole : List ℕ) (journal : List Entry) (rest read later : List ℕ) (count i : ℕ) (d : Entry) → i < length journal → count ≡ bytes_read (get_or journal i d) → read ≡ take count rest → later ≡ drop count rest
    → AreTaken a b whole (lines_with (drop i journal) rest) → TookMore b c (turn_line (get_or journal i d).event (get_or journal i d).turn read) → AreTaken a c whole (lines_with (drop (i + 1) journal) later)
turn-taken a b c whole journal rest read later count i d there counts front behind h more =
    let e = get_or journal i d in
    entry-taken a b c whole journal rest later i d e there refl (behind ∙ ap (λ (n : ℕ). drop n rest) counts) h
    (subst (λ (bs : List ℕ). TookMore b c (turn_line e.event e.turn bs)) (front ∙ ap (λ (n : ℕ). take n rest) counts) more)

pub turn-cut : (a b c : Option (List ℕ)) (whole : List ℕ) (journal : List Entry) (rest read : List ℕ) (count i : ℕ) (d : Entry) → i < length journal → count ≡ bytes_read (get_or journal i d) → read ≡ take count rest
    → AreTaken a b whole (lines_with (drop i journal) rest) → TookFront b c (turn_line (get_or journal i d).event (get_or journal i d).turn read) → TookFront a c whole
turn-cut a b c whole journal rest read count i d there counts front h cut =
    let e = get_or journal i d in
    entry-cut a b c whole journal rest i d e there refl h
    (subst (λ (bs : List ℕ). TookFront b c (turn_line e.event e.turn bs)) (front ∙ ap (λ (n : ℕ). take n rest) counts) cut)

pub turn-short : (journal : List Entry) (rest read : List ℕ) (count i : ℕ) (d : Entry) → i < length journal → count ≡ bytes_read (get_or journal i d) → read ≡ take count rest → list_all is_short journal ≡ true → length read ≤ 64
turn-short journal rest read count i d there counts front all =
    subst (λ (bs : List ℕ). length bs ≤ 64) (sym (front ∙ ap (λ (n : ℕ). take n rest) counts)) (entry-short journal i d rest there all)

pub ends-taken : (a b : Option (List ℕ)) (whole : List ℕ) (journal : List Entry) (rest : List ℕ) (i : ℕ) → length journal ≤ i → AreTaken a b whole (lines_with (drop i journal) rest) → TookMore a b whole
ends-taken a b whole journal rest i over h = all-taken a b whole (lines_with (drop i journal) rest) (ap (λ (es : List Entry). lines_with es rest) (drop_all i journal over)) h
