-- No line of a script's text ends with `end`, as a job's text does, so an input is parted at one place.
use Rattle.std.proofs.Common.{◌≡◌, ◌==◌, ◌<◌, ◌≤◌, ◌&&◌, ◌||◌, if◌then◌else◌, ℕ, zero, suc, ◌+◌, ◌/◌, ◌%◌, Bool, true, false, List, [], ◌∷◌, ◌++◌, map, get_or, drop, codes, decimal, refl, sym, ap, ◌∙◌, subst, arith, append_assoc, inl, inr, mod-lt}
use Rattle.std.specs.List.{flat_map}
use Rattle.std.specs.Fmt.{digit_glyph, digits_onto, digits}
use Rattle.std.proofs.lemmas.Bool.{cases_Bool, or_right, ne_eqb, lt-ltb}
use Rattle.xv_base.specs.declared.event.Event.TheVariants.{Guest, Begin, Read, Advance, Release, Round, Page, Send, Deliver, Apply, Ack, Credit, Stun, Switch, Cancel}
use Rattle.xv_text.specs.Lines.{text_of}
use Rattle.xv_text.proofs.Apart.{text_of-append}
use Rattle.xv_job.specs.Written.{Written}
use Rattle.xv_job.specs.JobText.{machine_lines, limit_lines, group_lines, cancel_lines, fault_fields, init_fields, guest_lines, job_lines, job_text}
use Rattle.xv_script.specs.Lines.{line_words, script_text}
use Rattle.xv_script.specs.declared.line.Line.{Line}
use Rattle.xv_script.specs.declared.line.Line.TheVariants.{Step, Ask}

-- how much of `end` stands before a place, after one byte more
abbrev after_byte : ℕ → ℕ → ℕ
after_byte n x = if x == 101 then 1 else (if (x == 110) && (n == 1) then 2 else (if (x == 100) && (n == 2) then 3 else 0))

-- whether some line ends with `end`, where so much of it stands before these bytes
abbrev ends : ℕ → List ℕ → Bool
ends n [] = false
ends n (x ∷ xs) = ((x == 10) && (n == 3)) || ends (after_byte n x) xs

-- a line that ends so is found wherever it is
found : (front rest : List ℕ) (n : ℕ) → ends n (front ++ (codes "end" ++ 10 ∷ rest)) ≡ true
found [] rest n = refl
found (x ∷ front) rest n = or_right ((x == 10) && (n == 3)) _ (found front rest (after_byte n x))

-- digits are passed by
digit_passes : (x : ℕ) (xs : List ℕ) → 10 < x → x ≤ 57 → ends 0 (x ∷ xs) ≡ ends 0 xs
digit_passes x xs low high =
    let feed : (x == 10) ≡ false = ne_eqb x 10 (λ e. omega (arith, e, low)) in
    let e : (x == 101) ≡ false = ne_eqb x 101 (λ e. omega (arith, e, high)) in
    let n : (x == 110) ≡ false = ne_eqb x 110 (λ e. omega (arith, e, high)) in
    let d : (x == 100) ≡ false = ne_eqb x 100 (λ e. omega (arith, e, high)) in
    rw (feed, e, n, d) refl

glyph_is : (d : ℕ) → d < 10 → digit_glyph false d ≡ 48 + d
glyph_is d h = rw (lt-ltb d 10 h) refl

glyph_passes : (n : ℕ) (xs : List ℕ) → ends 0 (digit_glyph false (n % 10) ∷ xs) ≡ ends 0 xs
glyph_passes n xs =
    let small : n % 10 < 10 = mod-lt n (omega arith) in
    let is = glyph_is (n % 10) small in
    digit_passes (digit_glyph false (n % 10)) xs (omega (arith, is)) (omega (arith, is, small))

digits_pass : (k n : ℕ) (digits rest : List ℕ) → ends 0 (digits_onto k 10 false n digits ++ rest) ≡ ends 0 (digits ++ rest)
digits_pass zero n digits rest = refl
digits_pass (suc k) n digits rest =
    let glyph = digit_glyph false (n % 10) in
    let one = glyph_passes n (digits ++ rest) in
    elim (cases_Bool (n / 10 == 0)) [
      | inl last ↦ rw last one
      | inr more ↦ rw more (digits_pass k (n / 10) (glyph ∷ digits) rest ∙ one)
    ]

decimal_passes : (n : ℕ) (rest : List ℕ) → ends 0 (decimal n ++ rest) ≡ ends 0 rest
unfolding digits
decimal_passes n rest = digits_pass 64 n [] rest

-- and so is each line of a script
line_passes : (l : Line) (rest : List ℕ) → ends 0 (line_words l ++ 10 ∷ rest) ≡ ends 0 rest
line_passes (Step (Guest g)) rest = decimal_passes g.0 (10 ∷ rest)
line_passes (Step (Begin d)) rest = decimal_passes d (10 ∷ rest)
line_passes (Step (Read d)) rest = decimal_passes d (10 ∷ rest)
line_passes (Step (Advance d)) rest = decimal_passes d (10 ∷ rest)
line_passes (Step (Release d)) rest = decimal_passes d (10 ∷ rest)
line_passes (Step Round) rest = refl
line_passes (Step Page) rest = refl
line_passes (Step (Send s)) rest = decimal_passes s (10 ∷ rest)
line_passes (Step (Deliver s)) rest = decimal_passes s (10 ∷ rest)
line_passes (Step Apply) rest = refl
line_passes (Step Ack) rest = refl
line_passes (Step Credit) rest = refl
line_passes (Step Stun) rest = refl
line_passes (Step Switch) rest = refl
line_passes (Step Cancel) rest = refl
line_passes (Ask unit) rest = decimal_passes unit.0 (10 ∷ rest)

script_passes : (lines : List Line) → ends 0 (script_text lines) ≡ false
script_passes [] = refl
script_passes (l ∷ ls) = line_passes l (script_text ls) ∙ script_passes ls

ends-not : (text front rest : List ℕ) → ends 0 text ≡ false → text ≡ front ++ (codes "end" ++ 10 ∷ rest) → ⊥
ends-not text front rest none is =
    let both : true ≡ false = sym (found front rest 0) ∙ ap (λ (t : List ℕ). ends 0 t) (sym is) ∙ none in
    cc

pub no-end : (lines : List Line) (front rest : List ℕ) → script_text lines ≡ front ++ (codes "end" ++ 10 ∷ rest) → ⊥
no-end lines front rest is = ends-not (script_text lines) front rest (script_passes lines) is

-- texts that have no such line, each behind one: both are parted at the same place
behind : (front xs ys : List ℕ) → ends 0 xs ≡ false → codes "end" ++ 10 ∷ xs ≡ front ++ (codes "end" ++ 10 ∷ ys) → (front ≡ []) × (xs ≡ ys)
behind [] xs ys none is = (refl, ap (λ (t : List ℕ). drop 4 t) is)
behind (a ∷ []) xs ys none is = absurd (let apart : 110 ≡ 101 = ap (λ (t : List ℕ). get_or t 1 0) is in omega (arith, apart))
behind (a ∷ b ∷ []) xs ys none is = absurd (let apart : 100 ≡ 101 = ap (λ (t : List ℕ). get_or t 2 0) is in omega (arith, apart))
behind (a ∷ b ∷ c ∷ []) xs ys none is = absurd (let apart : 10 ≡ 101 = ap (λ (t : List ℕ). get_or t 3 0) is in omega (arith, apart))
behind (a ∷ b ∷ c ∷ d ∷ front) xs ys none is = absurd (ends-not xs front ys none (ap (λ (t : List ℕ). drop 4 t) is))

one-place : (front other xs ys : List ℕ) → ends 0 xs ≡ false → ends 0 ys ≡ false → front ++ (codes "end" ++ 10 ∷ xs) ≡ other ++ (codes "end" ++ 10 ∷ ys) → (front ≡ other) × (xs ≡ ys)
one-place [] other xs ys none no_more is =
    let both = behind other xs ys none is in
    (sym both.0, both.1)
one-place (a ∷ front) [] xs ys none no_more is =
    let both = behind (a ∷ front) ys xs no_more (sym is) in
    (both.0, sym both.1)
one-place (a ∷ front) (b ∷ other) xs ys none no_more is =
    let first : a ≡ b = ap (λ (t : List ℕ). get_or t 0 0) is in
    let later = one-place front other xs ys none no_more (ap (λ (t : List ℕ). drop 1 t) is) in
    (ap (λ (c : ℕ). c ∷ front) first ∙ ap (λ (t : List ℕ). b ∷ t) later.0, later.1)

-- a job's text ends with its line `end`
abbrev pub before-end : Written → List (List (List ℕ))
before-end w = (machine_lines w ++ (limit_lines w.config ++ group_lines w)) ++ (cancel_lines w.config.cancel ++ (map fault_fields w.faults ++ (map init_fields w.init ++ flat_map guest_lines w.traces)))

regroup : {X : Type 0} (m k g c f i t e : List X) → ((m ++ (k ++ g)) ++ (c ++ (f ++ (i ++ t)))) ++ e ≡ m ++ (k ++ (g ++ (c ++ (f ++ (i ++ (t ++ e))))))
regroup m k g c f i t e = simp append_assoc

pub job-ends : (w : Written) → job_text w ≡ text_of (before-end w) ++ (codes "end" ++ 10 ∷ [])
job-ends w =
    let end : List (List (List ℕ)) = (codes "end" ∷ []) ∷ [] in
    let lines : job_lines w ≡ before-end w ++ end =
    sym (regroup (machine_lines w) (limit_lines w.config) (group_lines w) (cancel_lines w.config.cancel) (map fault_fields w.faults) (map init_fields w.init) (flat_map guest_lines w.traces) end) in
    ap (λ (ls : List (List (List ℕ))). text_of ls) lines ∙ text_of-append (before-end w) end

-- and a script behind it stands behind that line
pub input-parts : (w : Written) (lines : List Line) → job_text w ++ script_text lines ≡ text_of (before-end w) ++ (codes "end" ++ 10 ∷ script_text lines)
input-parts w lines = ap (λ (text : List ℕ). text ++ script_text lines) (job-ends w) ∙ append_assoc (text_of (before-end w)) (codes "end" ++ 10 ∷ []) (script_text lines)

pub one-script : (w : Written) (lines others : List Line) (front : List ℕ) → job_text w ++ script_text lines ≡ front ++ (codes "end" ++ 10 ∷ script_text others) → (job_text w ≡ front ++ (codes "end" ++ 10 ∷ [])) × (script_text lines ≡ script_text others)
one-script w lines others front is =
    let both = one-place (text_of (before-end w)) front (script_text lines) (script_text others) (script_passes lines) (script_passes others) (sym (input-parts w lines) ∙ is) in
    (job-ends w ∙ ap (λ (text : List ℕ). text ++ (codes "end" ++ 10 ∷ [])) both.0, both.1)
