-- The tests of a line one by one.
use Rattle.std.proofs.Common.{◌≡◌, ℕ, ◌<◌, ◌≤◌, List, codes, Option, Some, None, true, false, Bool, not, ◌&&◌, ◌||◌, nat_lt, nat_le, refl, sym, ap, ◌∙◌, arith, if◌then◌else◌, inl, inr, ◌⊎◌, ◌==◌}
use Rattle.std.proofs.lemmas.Bool.{and_parts}
use Rattle.std.proofs.lemmas.Bool.Decides.{nat_tests}
use Rattle.std.specs.Cmp.Lexicographic.{same_text}
use Rattle.xv_base.specs.declared.text.LineWhy.{LineWhy}
use Rattle.xv_base.specs.declared.text.LineWhy.TheVariants.{Order}
use Rattle.xv_text.specs.Fields.{or_else, fault_if}
use Rattle.xv_trace.specs.declared.op.Verb.{Verb}
use Rattle.xv_trace.specs.declared.op.Verb.TheVariants.{Store as StoreVerb, Load as LoadVerb, Write as WriteVerb, Fetch as FetchVerb}
use Rattle.xv_trace.specs.OpText.{verb_of}
use Rattle.xv_text.specs.Words.{is_spelled}
use Rattle.xv_job.specs.declared.word.Word.{Word}
use Rattle.xv_job.specs.declared.word.Word.TheVariants.{Job, Pages, Disk, Streams, Credit, Outbox, Region, Rounds, Dirty, Group, Cancel, Fault, Init, Guest, Operation, End}
use Rattle.xv_job.specs.Words.{own_word, or_operation, word_of, rank, repeats, needed, is_group, may_come}
use Rattle.xv_job.specs.Draft.{Draft, word_fault, args_fault, numbers_fault, outside}

-- two tests that find nothing
pub neither : (a b : Option LineWhy) → or_else a b ≡ None → (a ≡ None) × (b ≡ None)
neither None b h = (refl, h)
neither (Some why) b h = absurd (cc)

pub both_none : (a b : Option LineWhy) → a ≡ None → b ≡ None → or_else a b ≡ None
both_none a b e f = rw e f

pub not_there : (t : Bool) (why : LineWhy) → fault_if t why ≡ None → t ≡ false
not_there true why h = absurd (cc)
not_there false why h = refl

pub there_not : (t : Bool) (why : LineWhy) → t ≡ false → fault_if t why ≡ None
there_not t why e = rw e refl

pub no_no : (t : Bool) → not t ≡ false → t ≡ true
no_no true h = refl
no_no false h = absurd (cc)

pub neither_test : (a b : Bool) → (a || b) ≡ false → (a ≡ false) × (b ≡ false)
neither_test false b h = (refl, h)
neither_test true b h = absurd (cc)

-- a number within its limits
pub inside : (limit least most n : ℕ) → outside limit least most n ≡ None → (least ≤ n) × (n ≤ most)
inside limit least most n h =
    let e = neither_test (nat_lt n least) (nat_lt most n) (not_there _ _ h) in
    let low : nat_lt n least ≡ false = e.0 in
    let high : nat_lt most n ≡ false = e.1 in
    (grind (arith, nat_tests), grind (arith, nat_tests))

pub within : (limit least most n : ℕ) → least ≤ n → n ≤ most → outside limit least most n ≡ None
within limit least most n l h =
    let low : nat_lt n least ≡ false = grind (arith, nat_tests) in
    let high : nat_lt most n ≡ false = grind (arith, nat_tests) in
    rw (low, high) refl

-- the spelling of each word
abbrev pub verb_spelling : Verb → List ℕ
verb_spelling StoreVerb = codes "st"
verb_spelling LoadVerb = codes "ld"
verb_spelling WriteVerb = codes "wr"
verb_spelling FetchVerb = codes "rd"

abbrev pub spelling : Word → List ℕ
spelling Job = codes "job"
spelling Pages = codes "pages"
spelling Disk = codes "disk"
spelling Streams = codes "streams"
spelling Credit = codes "credit"
spelling Outbox = codes "outbox"
spelling Region = codes "region"
spelling Rounds = codes "rounds"
spelling Dirty = codes "dirty"
spelling Group = codes "group"
spelling Cancel = codes "cancel"
spelling Fault = codes "fault"
spelling Init = codes "init"
spelling Guest = codes "guest"
spelling (Operation verb) = verb_spelling verb
spelling End = codes "end"

pub either : (b : Bool) → (b ≡ true) ⊎ (b ≡ false)
either true = inl refl
either false = inr refl

-- one choice of a chain of words
pub some_once : {W : Type 0} (a b : W) → ◌≡◌ {A = Option W} (Some a) (Some b) → a ≡ b
some_once a b e = cc

pub chosen : {W : Type 0} (spell : W → List ℕ) (word text : List ℕ) (here : W) (later : Option W) (w : W) → word ≡ spell here → (later ≡ Some w → text ≡ spell w) → (if is_spelled word text then Some here else later) ≡ Some w → text ≡ spell w
chosen spell word text here later w s f e =
    elim (either (is_spelled word text)) [
      | inl hit ↦ let same : word ≡ text = same_text word text (sym hit) in let k : Some here ≡ Some w = (rw hit at e) in sym same ∙ s ∙ ap spell (some_once here w k)
      | inr miss ↦ f (rw miss at e)
    ]

never : (text : List ℕ) (w : Word) → ◌≡◌ {A = Option Word} None (Some w) → text ≡ spelling w
never text w e = absurd (cc)

pub own_spelled : (text : List ℕ) (w : Word) → own_word text ≡ Some w → text ≡ spelling w
own_spelled text w =
    chosen spelling _ text Job _ w refl
    (chosen spelling _ text Pages _ w refl
    (chosen spelling _ text Disk _ w refl
    (chosen spelling _ text Streams _ w refl
    (chosen spelling _ text Credit _ w refl
    (chosen spelling _ text Outbox _ w refl
    (chosen spelling _ text Region _ w refl
    (chosen spelling _ text Rounds _ w refl
    (chosen spelling _ text Dirty _ w refl
    (chosen spelling _ text Group _ w refl
    (chosen spelling _ text Cancel _ w refl
    (chosen spelling _ text Fault _ w refl
    (chosen spelling _ text Init _ w refl
    (chosen spelling _ text Guest _ w refl
    (chosen spelling _ text End _ w refl (never text w)))))))))))))))

never_verb : (text : List ℕ) (v : Verb) → ◌≡◌ {A = Option Verb} None (Some v) → text ≡ verb_spelling v
never_verb text v e = absurd (cc)

pub verb_spelled : (text : List ℕ) (v : Verb) → verb_of text ≡ Some v → text ≡ verb_spelling v
verb_spelled text v =
    chosen verb_spelling _ text StoreVerb _ v refl
    (chosen verb_spelling _ text LoadVerb _ v refl
    (chosen verb_spelling _ text WriteVerb _ v refl
    (chosen verb_spelling _ text FetchVerb _ v refl (never_verb text v))))

or_spelled : (text : List ℕ) (own : Option Word) (verb : Option Verb) (w : Word) → ((u : Word) → own ≡ Some u → text ≡ spelling u) → ((v : Verb) → verb ≡ Some v → text ≡ verb_spelling v) → or_operation own verb ≡ Some w → text ≡ spelling w
or_spelled text (Some u) verb w f g e = f u refl ∙ ap spelling (some_once u w e)
or_spelled text None (Some v) w f g e = g v refl ∙ ap spelling (some_once (Operation v) w e)
or_spelled text None None w f g e = absurd (cc)

verb_if : (b : Bool) (text : List ℕ) (v : Verb) → (if b then verb_of text else None) ≡ Some v → text ≡ verb_spelling v
verb_if true text v e = verb_spelled text v e
verb_if false text v e = absurd (cc)

pub spelled : (b : Bool) (text : List ℕ) (w : Word) → word_of b text ≡ Some w → text ≡ spelling w
spelled b text w e = or_spelled text (own_word text) (if b then verb_of text else None) w (own_spelled text) (verb_if b text) e

-- what a line without a fault has
pub record IsFine (d : Draft) (w : Word) (args : List (List ℕ)) : Type 0 where
  pub comes : may_come d.job.format d.last w ≡ true
  pub said_well : args_fault w args ≡ None
  pub numbers : numbers_fault d.job w args ≡ None

pub fine : (d : Draft) (w : Word) (args : List (List ℕ)) → word_fault d (Some w) args ≡ None → IsFine d w args
fine d w args h =
    let a = neither (fault_if (not (may_come d.job.format d.last w)) Order) (or_else (args_fault w args) (numbers_fault d.job w args)) h in
    let b = neither (args_fault w args) (numbers_fault d.job w args) a.1 in
    record { comes = no_no _ (not_there _ _ a.0); said_well = b.0; numbers = b.1 }

pub fine_back : (d : Draft) (w : Word) (args : List (List ℕ)) → IsFine d w args → word_fault d (Some w) args ≡ None
fine_back d w args h = rw (h.comes, h.said_well, h.numbers) refl

nat_le_true : (a b : ℕ) → nat_le a b ≡ true → a ≤ b
nat_le_true a b h = grind (arith, nat_tests)

-- when a word may come
pub record Comes (format last : ℕ) (w : Word) : Type 0 where
  pub order : last ≤ rank w
  pub once : last ≡ rank w → repeats w ≡ true
  pub next : rank w ≤ needed format last
  pub group : is_group w ≡ true → format ≡ 2

or_cases : (a b : Bool) → (a || b) ≡ true → (a ≡ true) ⊎ (b ≡ true)
or_cases true b h = inl refl
or_cases false b h = inr h

order_of : (last n : ℕ) (r : Bool) → (nat_lt last n || (last == n && r)) ≡ true → (last ≤ n) × (last ≡ n → r ≡ true)
order_of last n r h = elim (or_cases (nat_lt last n) (last == n && r) h) [
  | inl less ↦ let lt : last < n = grind (arith, nat_tests) in (omega arith, λ e. absurd (omega arith))
  | inr more ↦ let b = and_parts (last == n) r more in let same : (last == n) ≡ true = b.0 in let eq : last ≡ n = grind (arith, nat_tests) in (omega arith, λ e. b.1)
]

group_of : (format : ℕ) (g : Bool) → (format == 2 || not g) ≡ true → g ≡ true → format ≡ 2
group_of format g h e = elim (or_cases (format == 2) (not g) h) [
  | inl hit ↦ grind (arith, nat_tests)
  | inr miss ↦ let k : not true ≡ true = (rw e at miss) in absurd (cc)
]

pub comes : (format last : ℕ) (w : Word) → may_come format last w ≡ true → Comes format last w
comes format last w h =
    let a = and_parts ((nat_lt last (rank w) || (last == rank w && repeats w)) && nat_le (rank w) (needed format last)) (format == 2 || not (is_group w)) h in
    let b = and_parts (nat_lt last (rank w) || (last == rank w && repeats w)) (nat_le (rank w) (needed format last)) a.0 in
    let o = order_of last (rank w) (repeats w) b.0 in
    let le : nat_le (rank w) (needed format last) ≡ true = b.1 in
    record { order = o.0; once = o.1; next = nat_le_true _ _ le; group = group_of format (is_group w) a.1 }
