-- The lines of a job up to its dirty limit, read one by one: what has been read is the front of a good job's lines.
use Rattle.std.proofs.Common.{◌≡◌, ℕ, ◌^◌, ◌≤◌, ◌==◌, ◌&&◌, ◌||◌, Bool, true, false, List, [], ◌∷◌, ◌++◌, length, Some, None, nat_lt, codes, decimal, refl, sym, ap, ◌∙◌, subst, arith, if◌then◌else◌, inl, inr, ◌⊎◌, lit<}
use Rattle.std.specs.List.{AllByRecursion}
use Rattle.std.proofs.lemmas.List.{map-append}
use Rattle.std.proofs.lemmas.Bool.{and_parts}
use Rattle.std.proofs.lemmas.Bool.Decides.{nat_tests}
use Rattle.std.specs.Cmp.Lexicographic.{same_text}
use Rattle.std.proofs.lemmas.Fmt.{decimal_digit}
use Rattle.xv_base.specs.declared.text.LineWhy.TheVariants.{Limit}
use Rattle.xv_base.specs.declared.unit.DiskShape.{DiskShape}
use Rattle.xv_base.specs.declared.limits.Config.{Config}
use Rattle.xv_base.specs.Units.{Shape, shape_of}
use Rattle.xv_base.specs.Layout.{IsGood}
use Rattle.xv_text.specs.declared.row.Kind.TheVariants.{Number}
use Rattle.xv_text.specs.Fields.{values, number_at, fault_if}
use Rattle.xv_trace.specs.OpText.{head}
use Rattle.xv_text.specs.Words.{is_spelled}
use Rattle.xv_job.specs.declared.word.Word.{Word}
use Rattle.xv_job.specs.declared.word.Word.TheVariants.{Job as JobWord, Pages, Disk, Streams, Credit, Outbox, Region, Rounds, Dirty}
use Rattle.xv_job.specs.Draft.{Draft, first_draft, format_fault, draft_by, outside, region_fault, with_disk}
use Rattle.xv_job.specs.JobText.{disk_fields, machine_lines}
use Rattle.xv_job.specs.Written.{Written}
use Rattle.xv_job.proofs.Args.{one_number, two_numbers}
use Rattle.xv_job.proofs.Parts.{IsFine, spelling, neither, not_there, no_no, inside}
use Rattle.xv_job.proofs.Shapes.{pages_good, disk_good, not_above}

-- the format that a line says
abbrev pub format_said : List (List ℕ) → ℕ
format_said args = if is_spelled (codes "2") (head args) then 2 else 1

abbrev pub IsFormat : ℕ → Type 0
IsFormat f = (f ≡ 1) ⊎ (f ≡ 2)

pub record IsFormatLine (args : List (List ℕ)) : Type 0 where
  pub format : IsFormat (format_said args)
  pub written : args ≡ decimal (format_said args) ∷ []

format_cases : (a : List ℕ) (one two : Bool) → is_spelled (codes "1") a ≡ one → is_spelled (codes "2") a ≡ two → (one || two) ≡ true → IsFormatLine (a ∷ [])
format_cases a one true e f h =
    let text : codes "2" ≡ a = same_text (codes "2") a (sym f) in
    record { format = rw f (inr refl); written = rw f (ap (λ (t : List ℕ). t ∷ []) (sym text ∙ sym (decimal_digit 2 (lit< tt)))) }
format_cases a true false e f h =
    let text : codes "1" ≡ a = same_text (codes "1") a (sym e) in
    record { format = rw f (inl refl); written = rw f (ap (λ (t : List ℕ). t ∷ []) (sym text ∙ sym (decimal_digit 1 (lit< tt)))) }
format_cases a false false e f h = absurd (cc)

one_field : (args : List (List ℕ)) (b : Bool) → (length args == 1 && b) ≡ true → length args ≡ 1
one_field args b h = let e : (length args == 1) ≡ true = (and_parts (length args == 1) b h).0 in grind (arith, nat_tests)

format_of : (args : List (List ℕ)) → length args ≡ 1 → (is_spelled (codes "1") (head args) || is_spelled (codes "2") (head args)) ≡ true → IsFormatLine args
format_of [] e h = absurd (omega arith)
format_of (a ∷ []) e h = format_cases a (is_spelled (codes "1") a) (is_spelled (codes "2") a) refl refl h
format_of (a ∷ b ∷ more) e h = absurd (omega arith)

pub format_read : (args : List (List ℕ)) → format_fault args ≡ None → IsFormatLine args
format_read args h =
    let a = no_no _ (not_there _ _ h) in
    let b = and_parts (length args == 1) (is_spelled (codes "1") (head args) || is_spelled (codes "2") (head args)) a in
    format_of args (one_field args (is_spelled (codes "1") (head args) || is_spelled (codes "2") (head args)) a) b.1

-- drafts whose lists are still empty
abbrev pub config_of : ℕ → ℕ → ℕ → ℕ → ℕ → ℕ → Config
config_of s c q r m t = record { streams = s; credit = c; outbox = q; region = r; rounds = m; dirty = t; cancel = None }

abbrev pub head_job : ℕ → Shape → Config → Written
head_job format shape config = record { shape = shape; format = format; group = 1; config = config; faults = []; init = []; traces = [] }

abbrev pub draft_at : ℕ → ℕ → Shape → Config → Draft
draft_at last format shape config = record { last = last; job = head_job format shape config }

-- the lines of the machine, and those of the limits
abbrev pub machine : ℕ → Shape → List (List (List ℕ))
machine format shape = machine_lines (head_job format shape (config_of 0 0 0 0 0 0))

abbrev pub limit_line : List ℕ → ℕ → List (List (List ℕ))
limit_line word n = (word ∷ decimal n ∷ []) ∷ []

abbrev pub Between : ℕ → ℕ → ℕ → Type 0
Between least most n = (least ≤ n) × (n ≤ most)

pub record IsMachine (format : ℕ) (shape : Shape) : Type 0 where
  pub is_format : IsFormat format
  pub good : IsGood shape
  pub some_blocks : AllByRecursion (λ disk. 1 ≤ disk.blocks) shape.disks

-- the lines up to each limit
abbrev pub to_streams : ℕ → Shape → ℕ → List (List (List ℕ))
to_streams f s a = machine f s ++ limit_line (codes "streams") a

abbrev pub to_credit : ℕ → Shape → ℕ → ℕ → List (List (List ℕ))
to_credit f s a b = to_streams f s a ++ limit_line (codes "credit") b

abbrev pub to_outbox : ℕ → Shape → ℕ → ℕ → ℕ → List (List (List ℕ))
to_outbox f s a b c = to_credit f s a b ++ limit_line (codes "outbox") c

abbrev pub to_region : ℕ → Shape → ℕ → ℕ → ℕ → ℕ → List (List (List ℕ))
to_region f s a b c d = to_outbox f s a b c ++ limit_line (codes "region") d

abbrev pub to_rounds : ℕ → Shape → ℕ → ℕ → ℕ → ℕ → ℕ → List (List (List ℕ))
to_rounds f s a b c d e = to_region f s a b c d ++ limit_line (codes "rounds") e

abbrev pub to_dirty : ℕ → Shape → ℕ → ℕ → ℕ → ℕ → ℕ → ℕ → List (List (List ℕ))
to_dirty f s a b c d e t = to_rounds f s a b c d e ++ limit_line (codes "dirty") t

-- the drafts so far, with what has been read
pub data Head : Draft → List (List (List ℕ)) → Type 0 where
  at_start : Head first_draft []
  at_job : (f : ℕ) → IsFormat f → Head (draft_at 1 f (shape_of 0 0 []) (config_of 0 0 0 0 0 0)) ((codes "job" ∷ decimal f ∷ []) ∷ [])
  at_pages : (f p z : ℕ) → IsMachine f (shape_of p z []) → Head (draft_at 2 f (shape_of p z []) (config_of 0 0 0 0 0 0)) (machine f (shape_of p z []))
  at_disk : (f : ℕ) (s : Shape) → IsMachine f s → Head (draft_at 3 f s (config_of 0 0 0 0 0 0)) (machine f s)
  at_streams : (f : ℕ) (s : Shape) (a : ℕ) → IsMachine f s → Between 1 8 a → Head (draft_at 4 f s (config_of a 0 0 0 0 0)) (to_streams f s a)
  at_credit : (f : ℕ) (s : Shape) (a b : ℕ) → IsMachine f s → Between 1 8 a → Between 1 1024 b → Head (draft_at 5 f s (config_of a b 0 0 0 0)) (to_credit f s a b)
  at_outbox : (f : ℕ) (s : Shape) (a b c : ℕ) → IsMachine f s → Between 1 8 a → Between 1 1024 b → Between 1 1024 c → Head (draft_at 6 f s (config_of a b c 0 0 0)) (to_outbox f s a b c)
  at_region : (f : ℕ) (s : Shape) (a b c d : ℕ) → IsMachine f s → Between 1 8 a → Between 1 1024 b → Between 1 1024 c → Between 1 256 d → d ≤ c → Head (draft_at 7 f s (config_of a b c d 0 0)) (to_region f s a b c d)
  at_rounds : (f : ℕ) (s : Shape) (a b c d e : ℕ) → IsMachine f s → Between 1 8 a → Between 1 1024 b → Between 1 1024 c → Between 1 256 d → d ≤ c → Between 1 64 e → Head (draft_at 8 f s (config_of a b c d e 0)) (to_rounds f s a b c d e)
  at_dirty : (f : ℕ) (s : Shape) (a b c d e t : ℕ) → IsMachine f s → Between 1 8 a → Between 1 1024 b → Between 1 1024 c → Between 1 256 d → d ≤ c → Between 1 64 e → t ≤ 2 ^ 20 → Head (draft_at 9 f s (config_of a b c d e t)) (to_dirty f s a b c d e t)

-- a line more, as what its numbers are written by
as_read : (d : Draft) (ls : List (List (List ℕ))) (word : List ℕ) (args written : List (List ℕ)) → args ≡ written → Head d (ls ++ (word ∷ written) ∷ []) → Head d (ls ++ (word ∷ args) ∷ [])
as_read d ls word args written e h =
    let P : List (List ℕ) → Type 0 = λ a. Head d (ls ++ (word ∷ a) ∷ []) in
    subst P (sym e) h

pub step_start : (w : Word) (args : List (List ℕ)) → IsFine first_draft w args → Head (draft_by first_draft (Some w) args) ([] ++ (spelling w ∷ args) ∷ [])
step_start JobWord args h =
    let l = format_read args h.said_well in
    as_read _ [] (codes "job") args (decimal (format_said args) ∷ []) l.written (at_job (format_said args) l.format)
step_start _ args h = let e = h.comes in absurd (cc)

pub step_job : (f : ℕ) → IsFormat f → (w : Word) (args : List (List ℕ)) → IsFine (draft_at 1 f (shape_of 0 0 []) (config_of 0 0 0 0 0 0)) w args → Head (draft_by (draft_at 1 f (shape_of 0 0 []) (config_of 0 0 0 0 0 0)) (Some w) args) (((codes "job" ∷ decimal f ∷ []) ∷ []) ++ (spelling w ∷ args) ∷ [])
step_job f is Pages args h =
    let l = two_numbers args h.said_well in
    let p = number_at (values (Number ∷ Number ∷ []) args) 0 in
    let z = number_at (values (Number ∷ Number ∷ []) args) 1 in
    let good = pages_good (head_job f (shape_of 0 0 []) (config_of 0 0 0 0 0 0)) p z refl h.numbers in
    as_read _ ((codes "job" ∷ decimal f ∷ []) ∷ []) (codes "pages") args (decimal p ∷ decimal z ∷ []) l.0 (at_pages f p z (record { is_format = is; good = good; some_blocks = tt }))
step_job f is _ args h = let e = h.comes in absurd (cc)

-- one more disk
disks_push : (ds : List DiskShape) (d : DiskShape) → AllByRecursion (λ disk. 1 ≤ disk.blocks) ds → 1 ≤ d.blocks → AllByRecursion (λ disk. 1 ≤ disk.blocks) (ds ++ d ∷ [])
disks_push [] d h some = (some, tt)
disks_push (e ∷ ds) d h some = (h.0, disks_push ds d h.1 some)

machine_push : (f : ℕ) (s : Shape) (b z : ℕ) → machine f s ++ (codes "disk" ∷ decimal b ∷ decimal z ∷ []) ∷ [] ≡ machine f (with_disk s b z)
machine_push f s b z =
    ap (λ (ls : List (List (List ℕ))). (codes "job" ∷ decimal f ∷ []) ∷ (codes "pages" ∷ decimal s.pages ∷ decimal s.page_size ∷ []) ∷ ls)
    (sym (map-append disk_fields s.disks (record { blocks = b; block_size = z } ∷ [])))

-- a disk's line, or that of the streams
disk_line : (last f : ℕ) (s : Shape) → IsMachine f s → (args : List (List ℕ)) → IsFine (draft_at last f s (config_of 0 0 0 0 0 0)) Disk args → Head (draft_by (draft_at last f s (config_of 0 0 0 0 0 0)) (Some Disk) args) (machine f s ++ (codes "disk" ∷ args) ∷ [])
disk_line last f s is args h =
    let l = two_numbers args h.said_well in
    let b = number_at (values (Number ∷ Number ∷ []) args) 0 in
    let z = number_at (values (Number ∷ Number ∷ []) args) 1 in
    let good = disk_good (head_job f s (config_of 0 0 0 0 0 0)) b z is.good h.numbers in
    let next = at_disk f (with_disk s b z) (record { is_format = is.is_format; good = good.good; some_blocks = disks_push s.disks (record { blocks = b; block_size = z }) is.some_blocks good.some }) in
    let P : List (List (List ℕ)) → Type 0 = λ ls. Head (draft_at 3 f (with_disk s b z) (config_of 0 0 0 0 0 0)) ls in
    as_read _ (machine f s) (codes "disk") args (decimal b ∷ decimal z ∷ []) l.0 (subst P (sym (machine_push f s b z)) next)

streams_line : (last f : ℕ) (s : Shape) → IsMachine f s → (args : List (List ℕ)) → IsFine (draft_at last f s (config_of 0 0 0 0 0 0)) Streams args → Head (draft_by (draft_at last f s (config_of 0 0 0 0 0 0)) (Some Streams) args) (machine f s ++ (codes "streams" ∷ args) ∷ [])
streams_line last f s is args h =
    let l = one_number args h.said_well in
    let n = number_at (values (Number ∷ []) args) 0 in
    as_read _ (machine f s) (codes "streams") args (decimal n ∷ []) l.0 (at_streams f s n is (inside 8 1 8 n h.numbers))

pub step_pages : (f : ℕ) (s : Shape) → IsMachine f s → (w : Word) (args : List (List ℕ)) → IsFine (draft_at 2 f s (config_of 0 0 0 0 0 0)) w args → Head (draft_by (draft_at 2 f s (config_of 0 0 0 0 0 0)) (Some w) args) (machine f s ++ (spelling w ∷ args) ∷ [])
step_pages f s is Disk args h = disk_line 2 f s is args h
step_pages f s is Streams args h = streams_line 2 f s is args h
step_pages f s is _ args h = let e = h.comes in absurd (cc)

pub step_disk : (f : ℕ) (s : Shape) → IsMachine f s → (w : Word) (args : List (List ℕ)) → IsFine (draft_at 3 f s (config_of 0 0 0 0 0 0)) w args → Head (draft_by (draft_at 3 f s (config_of 0 0 0 0 0 0)) (Some w) args) (machine f s ++ (spelling w ∷ args) ∷ [])
step_disk f s is Disk args h = disk_line 3 f s is args h
step_disk f s is Streams args h = streams_line 3 f s is args h
step_disk f s is _ args h = let e = h.comes in absurd (cc)

region_inside : (w : Written) (n : ℕ) → region_fault w n ≡ None → Between 1 256 n × (n ≤ w.config.outbox)
region_inside w n h =
    let a = neither (outside 11 1 256 n) (fault_if (nat_lt w.config.outbox n) (Limit 11)) h in
    (inside 11 1 256 n a.0, not_above n w.config.outbox (not_there (nat_lt w.config.outbox n) (Limit 11) a.1))

pub step_streams : (f : ℕ) (s : Shape) (a : ℕ) → IsMachine f s → Between 1 8 a → (w : Word) (args : List (List ℕ)) → IsFine (draft_at 4 f s (config_of a 0 0 0 0 0)) w args → Head (draft_by (draft_at 4 f s (config_of a 0 0 0 0 0)) (Some w) args) (to_streams f s a ++ (spelling w ∷ args) ∷ [])
step_streams f s a is ha Credit args h =
    let l = one_number args h.said_well in
    let n = number_at (values (Number ∷ []) args) 0 in
    as_read (draft_by (draft_at 4 f s (config_of a 0 0 0 0 0)) (Some Credit) args) (to_streams f s a) (codes "credit") args (decimal n ∷ []) l.0 (at_credit f s a n is ha (inside 9 1 1024 n h.numbers))
step_streams f s a is ha _ args h = let k = h.comes in absurd (cc)

pub step_credit : (f : ℕ) (s : Shape) (a b : ℕ) → IsMachine f s → Between 1 8 a → Between 1 1024 b → (w : Word) (args : List (List ℕ)) → IsFine (draft_at 5 f s (config_of a b 0 0 0 0)) w args → Head (draft_by (draft_at 5 f s (config_of a b 0 0 0 0)) (Some w) args) (to_credit f s a b ++ (spelling w ∷ args) ∷ [])
step_credit f s a b is ha hb Outbox args h =
    let l = one_number args h.said_well in
    let n = number_at (values (Number ∷ []) args) 0 in
    as_read (draft_by (draft_at 5 f s (config_of a b 0 0 0 0)) (Some Outbox) args) (to_credit f s a b) (codes "outbox") args (decimal n ∷ []) l.0 (at_outbox f s a b n is ha hb (inside 10 1 1024 n h.numbers))
step_credit f s a b is ha hb _ args h = let k = h.comes in absurd (cc)

pub step_outbox : (f : ℕ) (s : Shape) (a b c : ℕ) → IsMachine f s → Between 1 8 a → Between 1 1024 b → Between 1 1024 c → (w : Word) (args : List (List ℕ)) → IsFine (draft_at 6 f s (config_of a b c 0 0 0)) w args → Head (draft_by (draft_at 6 f s (config_of a b c 0 0 0)) (Some w) args) (to_outbox f s a b c ++ (spelling w ∷ args) ∷ [])
step_outbox f s a b c is ha hb hc Region args h =
    let l = one_number args h.said_well in
    let n = number_at (values (Number ∷ []) args) 0 in
    let r = region_inside (head_job f s (config_of a b c 0 0 0)) n h.numbers in
    as_read (draft_by (draft_at 6 f s (config_of a b c 0 0 0)) (Some Region) args) (to_outbox f s a b c) (codes "region") args (decimal n ∷ []) l.0 (at_region f s a b c n is ha hb hc r.0 r.1)
step_outbox f s a b c is ha hb hc _ args h = let k = h.comes in absurd (cc)

pub step_region : (f : ℕ) (s : Shape) (a b c d : ℕ) → IsMachine f s → Between 1 8 a → Between 1 1024 b → Between 1 1024 c → Between 1 256 d → d ≤ c → (w : Word) (args : List (List ℕ)) → IsFine (draft_at 7 f s (config_of a b c d 0 0)) w args → Head (draft_by (draft_at 7 f s (config_of a b c d 0 0)) (Some w) args) (to_region f s a b c d ++ (spelling w ∷ args) ∷ [])
step_region f s a b c d is ha hb hc hd less Rounds args h =
    let l = one_number args h.said_well in
    let n = number_at (values (Number ∷ []) args) 0 in
    as_read (draft_by (draft_at 7 f s (config_of a b c d 0 0)) (Some Rounds) args) (to_region f s a b c d) (codes "rounds") args (decimal n ∷ []) l.0 (at_rounds f s a b c d n is ha hb hc hd less (inside 12 1 64 n h.numbers))
step_region f s a b c d is ha hb hc hd less _ args h = let k = h.comes in absurd (cc)

pub step_rounds : (f : ℕ) (s : Shape) (a b c d e : ℕ) → IsMachine f s → Between 1 8 a → Between 1 1024 b → Between 1 1024 c → Between 1 256 d → d ≤ c → Between 1 64 e → (w : Word) (args : List (List ℕ)) → IsFine (draft_at 8 f s (config_of a b c d e 0)) w args → Head (draft_by (draft_at 8 f s (config_of a b c d e 0)) (Some w) args) (to_rounds f s a b c d e ++ (spelling w ∷ args) ∷ [])
step_rounds f s a b c d e is ha hb hc hd less he Dirty args h =
    let l = one_number args h.said_well in
    let n = number_at (values (Number ∷ []) args) 0 in
    as_read (draft_by (draft_at 8 f s (config_of a b c d e 0)) (Some Dirty) args) (to_rounds f s a b c d e) (codes "dirty") args (decimal n ∷ []) l.0 (at_dirty f s a b c d e n is ha hb hc hd less he ((inside 13 0 (2 ^ 20) n h.numbers).1))
step_rounds f s a b c d e is ha hb hc hd less he _ args h = let k = h.comes in absurd (cc)
