-- One line more is played, and how far its text was taken.
use Rattle.std.proofs.Common.{◌≡◌, ℕ, ◌+◌, ◌<◌, ◌≤◌, true, List, [], ◌∷◌, ◌++◌, length, take, drop, get_or, refl, sym, ap, ◌∙◌, subst, append_assoc, append-nil, add-one, drop-cons, length-append, arith, Option}
use Rattle.std.specs.Prelude.{Result, Ok, Err, OnOk, OnErr}
use Rattle.std.specs.List.{list_all}
use Rattle.std.proofs.lemmas.Bool.{and_parts}
use Rattle.std.proofs.Math.Seq.{drop-append_seam}
use Rattle.std.proofs.lemmas.List.{take-append-drop, take_more, take_all}
use Rattle.xv_io.specs.Io.{TookMore}
use Rattle.xv_io.proofs.Took.{took-both, took-none}
use Rattle.xv_model.specs.Wait.{Event}
use Rattle.xv_model.specs.Effect.{Turn}
use Rattle.xv_script.specs.Lines.{turn_line}
use Rattle.xv_script.specs.Script.{is_in}
use Rattle.xv_script.specs.declared.line.Line.{Line}
use Rattle.xv_job.specs.Written.{Written, job_of}
use Rattle.xv_core.specs.Seen.{Seen}
use Rattle.xv_core.specs.Stepped.{IsStep}
use Rattle.xv_core.specs.Keeping.{IsKept}
use Rattle.xv_top.specs.Playing.{IsEventPlayed, IsLinePlayed, IsLineWritten, IsLineCut, ArePlayed, IsCutShort}

-- the bytes read stand behind those read before
pub reads-grow : (old new : Seen) (e : Event) (a : Turn) (before now : List ℕ) → IsStep old e a new → before ≡ old.reads → now ≡ new.reads → length before ≤ length now
reads-grow old new e a before now s was is =
    omega (arith, ap (λ (bytes : List ℕ). length bytes) s.reads.behind, length-append old.reads s.reads.bytes, ap (λ (bytes : List ℕ). length bytes) was, ap (λ (bytes : List ℕ). length bytes) is)

read-cut : (old new : Seen) (before now read : List ℕ) → before ≡ old.reads → now ≡ new.reads → read ≡ drop (length before) now → read ≡ drop (length old.reads) new.reads
read-cut old new before now read was is cut =
    cut ∙ (ap (λ (bytes : List ℕ). drop (length bytes) now) was ∙ ap (λ (bytes : List ℕ). drop (length old.reads) bytes) is)

pub reads-few : (old new : Seen) (e : Event) (a : Turn) (before now read : List ℕ) → IsStep old e a new → before ≡ old.reads → now ≡ new.reads → read ≡ drop (length before) now → length read ≤ 64
reads-few old new e a before now read s was is cut =
    let more : read ≡ s.reads.bytes =
    read-cut old new before now read was is cut
    ∙ (ap (λ (bytes : List ℕ). drop (length old.reads) bytes) s.reads.behind ∙ drop-append_seam old.reads s.reads.bytes) in
    omega (arith, ap (λ (bytes : List ℕ). length bytes) more, s.reads.few)

-- what was appended to an empty line is the line
pub line-begun : (bytes line was text : List ℕ) → bytes ≡ line → line ≡ was ++ text → was ≡ [] → bytes ≡ text
line-begun bytes line was text is appended begun = is ∙ (appended ∙ ap (λ (xs : List ℕ). xs ++ text) begun)

-- the line that is printed is the event's
pub event-played : (old new : Seen) (e : Event) (a : Turn) (before now read text : List ℕ) → IsStep old e a new → IsKept new → before ≡ old.reads → now ≡ new.reads → read ≡ drop (length before) now → text ≡ turn_line e a read → IsEventPlayed old e new text
event-played old new e a before now read text s kept was is cut line = record {
  answer = a;
  stepped = s;
  kept = kept;
  line = line ∙ ap (λ (bytes : List ℕ). turn_line e a bytes) (read-cut old new before now read was is cut);
}

-- behind lines that were played one more was
pub played-more : (old mid new : Seen) (ls : List Line) (l : Line) (text last : List ℕ) → ArePlayed old ls mid text → IsLinePlayed mid l new last → ArePlayed old (ls ++ l ∷ []) new (text ++ last)
played-more old mid new [] l text last (same, none) one =
    let here : IsLinePlayed old l new last = subst (λ (m : Seen). IsLinePlayed m l new last) same one in
    (new, last, [], here, (refl, refl), ap (λ (xs : List ℕ). xs ++ last) none ∙ sym (append-nil last))
played-more old mid new (k ∷ ks) l text last (next, first, rest, one, others, is) line =
    (next, first, rest ++ last, one, played-more next mid new ks l rest last others line, ap (λ (xs : List ℕ). xs ++ last) is ∙ append_assoc first rest last)

-- how far lines have been played: their first n, and all their text was taken
pub record IsPlaying (old : Seen) (lines : List Line) (n : ℕ) (now : Seen) (before after : Option (List ℕ)) : Type 0 where
  pub text : List ℕ
  pub played : ArePlayed old (take n lines) now text
  pub taken : TookMore before after text

pub playing-begins : (m : Seen) (lines : List Line) (t : Option (List ℕ)) → IsPlaying m lines 0 m t t
playing-begins m lines t = record { text = []; played = (refl, refl); taken = took-none t }

-- the line at a place, with those before it and behind it
rest-at : (lines : List Line) (n : ℕ) (d : Line) → n < length lines → drop n lines ≡ get_or lines n d ∷ drop (n + 1) lines
rest-at lines n d there = rw add-one (drop-cons lines n d there)

parts-at : (lines : List Line) (n : ℕ) (d : Line) → n < length lines → lines ≡ take n lines ++ get_or lines n d ∷ drop (n + 1) lines
parts-at lines n d there = sym (take-append-drop n lines) ∙ ap (λ (ls : List Line). take n lines ++ ls) (rest-at lines n d there)

-- it is in the job, and so are those behind it
pub line-in_job : (w now : Written) (lines : List Line) (n : ℕ) (d : Line) → now ≡ w → n < length lines → list_all (is_in (job_of w)) (drop n lines) ≡ true → (is_in (job_of now) (get_or lines n d) ≡ true) × (list_all (is_in (job_of w)) (drop (n + 1) lines) ≡ true)
line-in_job w now lines n d same there all =
    let parts = and_parts (is_in (job_of w) (get_or lines n d)) (list_all (is_in (job_of w)) (drop (n + 1) lines)) (ap (λ (ls : List Line). list_all (is_in (job_of w)) ls) (sym (rest-at lines n d there)) ∙ all) in
    (ap (λ (x : Written). is_in (job_of x) (get_or lines n d)) same ∙ parts.0, parts.1)

pub playing-more : (old mid new : Seen) (lines : List Line) (n : ℕ) (d : Line) (a b c : Option (List ℕ)) → n < length lines → IsPlaying old lines n mid a b → IsLineWritten mid (get_or lines n d) new b c → IsPlaying old lines (n + 1) new a c
playing-more old mid new lines n d a b c there playing (last, line, took) = record {
  text = playing.text ++ last;
  played = subst (λ (ls : List Line). ArePlayed old ls new (playing.text ++ last)) (sym (take_more lines n d there)) (played-more old mid new (take n lines) (get_or lines n d) playing.text last playing.played line);
  taken = took-both a b c playing.text last playing.taken took;
}

pub playing-cut : (old mid new : Seen) (lines : List Line) (n : ℕ) (d : Line) (a b c : Option (List ℕ)) → n < length lines → IsPlaying old lines n mid a b → IsLineCut mid (get_or lines n d) new b c → IsCutShort old lines new a c
playing-cut old mid new lines n d a b c there playing (last, line, (front, within, took)) = record {
  done = take n lines;
  last = get_or lines n d;
  behind = drop (n + 1) lines;
  parts = parts-at lines n d there;
  mid = mid;
  text = playing.text;
  text_of_last = last;
  played = playing.played;
  last_played = line;
  front = front;
  within = within;
  taken = took-both a b c playing.text (take front last) playing.taken took;
}

pub playing-all : (old new : Seen) (lines : List Line) (n : ℕ) (a b : Option (List ℕ)) → length lines ≤ n → IsPlaying old lines n new a b → (text : List ℕ) × ArePlayed old lines new text × TookMore a b text
playing-all old new lines n a b all playing =
    let whole = take_all n lines all in
    (playing.text, subst (λ (ls : List Line). ArePlayed old ls new playing.text) whole playing.played, playing.taken)

-- what holds of a result that is no error, or is one
pub ok-with : {T E : Type 0} → (result : Result T E) (P Q : Type 0) → (P → Q) → OnOk result P → OnOk result Q
ok-with (Ok v) P Q f p = f p
ok-with (Err e) P Q f p = tt

pub err-with : {T E : Type 0} → (result : Result T E) (P : Type 0) → P → OnErr result P
err-with (Ok v) P p = tt
err-with (Err e) P p = p
