-- The words of a script one by one: how each is spelled, what it says, and by which word each line is said.
use Rattle.std.proofs.Common.{◌≡◌, ℕ, zero, suc, ◌<◌, ◌^◌, Bool, true, List, [], ◌∷◌, ◌++◌, length, codes, decimal, Option, Some, None, refl, sym, subst, arith, inl, inr, lt-ltb, ltb-true}
use Rattle.xv_base.specs.declared.event.Event.{Event}
use Rattle.xv_base.specs.declared.event.Event.TheVariants.{Guest, Begin, Read, Advance, Release, Round, Page, Send, Deliver, Apply, Ack, Credit, Stun, Switch, Cancel}
use Rattle.xv_text.specs.Lines.{line}
use Rattle.xv_text.specs.Fields.{values, number_at, fields_fault}
use Rattle.xv_text.specs.declared.row.Kind.TheVariants.{Number}
use Rattle.xv_text.proofs.Apart.{IsPlain, ArePlain, decimal_plain}
use Rattle.xv_text.proofs.Numbers.{number-decimal}
use Rattle.xv_text.proofs.Found.{found_spelled}
use Rattle.xv_text.proofs.Spelled.{spelled-values, fields_fault-spelled}
use Rattle.xv_model.specs.Job.{Job, guest_count, unit_count}
use Rattle.xv_script.specs.Lines.{line_words}
use Rattle.xv_script.specs.Words.{spelling, words, word_of, named, kinds, line_said}
use Rattle.xv_script.specs.Script.{counts_of, count_of, is_in}
use Rattle.xv_script.specs.declared.counts.Counts.{Counts}
use Rattle.xv_script.specs.declared.line.Line.{Line}
use Rattle.xv_script.specs.declared.line.Line.TheVariants.{Step, Ask}
use Rattle.xv_script.specs.declared.word.Named.{Named}
use Rattle.xv_script.specs.declared.word.Named.TheVariants.{Nothing, OfGuests, OfDisks, OfStreams, OfUnits}
use Rattle.xv_script.specs.declared.word.Word.{Word}
use Rattle.xv_script.specs.declared.word.Word.TheVariants.{Guest as GuestWord, Begin as BeginWord, Read as ReadWord, Advance as AdvanceWord, Release as ReleaseWord, Round as RoundWord, Page as PageWord, Send as SendWord, Deliver as DeliverWord, Apply as ApplyWord, Ack as AckWord, Credit as CreditWord, Stun as StunWord, Switch as SwitchWord, Cancel as CancelWord, Probe as ProbeWord, Stop as StopWord}

-- a word is known by its spelling alone
pub spelled : (field : List ℕ) (word : Word) → word_of field ≡ Some word → field ≡ spelling word
unfolding word_of
spelled field word h = found_spelled spelling words field word h

pub word_of-spelling : (word : Word) → word_of (spelling word) ≡ Some word
unfolding word_of
word_of-spelling GuestWord = refl
word_of-spelling BeginWord = refl
word_of-spelling ReadWord = refl
word_of-spelling AdvanceWord = refl
word_of-spelling ReleaseWord = refl
word_of-spelling RoundWord = refl
word_of-spelling PageWord = refl
word_of-spelling SendWord = refl
word_of-spelling DeliverWord = refl
word_of-spelling ApplyWord = refl
word_of-spelling AckWord = refl
word_of-spelling CreditWord = refl
word_of-spelling StunWord = refl
word_of-spelling SwitchWord = refl
word_of-spelling CancelWord = refl
word_of-spelling ProbeWord = refl
word_of-spelling StopWord = refl

spelling_plain : (word : Word) → IsPlain (spelling word)
spelling_plain GuestWord = record { no_space = refl; no_feed = refl }
spelling_plain BeginWord = record { no_space = refl; no_feed = refl }
spelling_plain ReadWord = record { no_space = refl; no_feed = refl }
spelling_plain AdvanceWord = record { no_space = refl; no_feed = refl }
spelling_plain ReleaseWord = record { no_space = refl; no_feed = refl }
spelling_plain RoundWord = record { no_space = refl; no_feed = refl }
spelling_plain PageWord = record { no_space = refl; no_feed = refl }
spelling_plain SendWord = record { no_space = refl; no_feed = refl }
spelling_plain DeliverWord = record { no_space = refl; no_feed = refl }
spelling_plain ApplyWord = record { no_space = refl; no_feed = refl }
spelling_plain AckWord = record { no_space = refl; no_feed = refl }
spelling_plain CreditWord = record { no_space = refl; no_feed = refl }
spelling_plain StunWord = record { no_space = refl; no_feed = refl }
spelling_plain SwitchWord = record { no_space = refl; no_feed = refl }
spelling_plain CancelWord = record { no_space = refl; no_feed = refl }
spelling_plain ProbeWord = record { no_space = refl; no_feed = refl }
spelling_plain StopWord = record { no_space = refl; no_feed = refl }

-- the fields behind a word that names these
abbrev pub behind : Named → ℕ → List (List ℕ)
behind Nothing n = []
behind OfGuests n = decimal n ∷ []
behind OfDisks n = decimal n ∷ []
behind OfStreams n = decimal n ∷ []
behind OfUnits n = decimal n ∷ []

abbrev pub fields_said : Word → ℕ → List (List ℕ)
fields_said word n = spelling word ∷ behind (named word) n

-- the text of what a word says
abbrev pub text_said : Option Line → List ℕ
text_said None = codes "stop" ++ 10 ∷ []
text_said (Some l) = line_words l ++ 10 ∷ []

pub line-fields_said : (word : Word) (n : ℕ) → line (fields_said word n) ≡ text_said (line_said word n)
line-fields_said GuestWord n = refl
line-fields_said BeginWord n = refl
line-fields_said ReadWord n = refl
line-fields_said AdvanceWord n = refl
line-fields_said ReleaseWord n = refl
line-fields_said RoundWord n = refl
line-fields_said PageWord n = refl
line-fields_said SendWord n = refl
line-fields_said DeliverWord n = refl
line-fields_said ApplyWord n = refl
line-fields_said AckWord n = refl
line-fields_said CreditWord n = refl
line-fields_said StunWord n = refl
line-fields_said SwitchWord n = refl
line-fields_said CancelWord n = refl
line-fields_said ProbeWord n = refl
line-fields_said StopWord n = refl

-- fields without a fault are those of the number that they say
pub behind_read : (names : Named) (args : List (List ℕ)) → fields_fault (kinds names) args ≡ None → args ≡ behind names (number_at (values (kinds names) args) 0)
behind_read Nothing args h = spelled-values [] args h refl
behind_read OfGuests args h = spelled-values (Number ∷ []) args h refl
behind_read OfDisks args h = spelled-values (Number ∷ []) args h refl
behind_read OfStreams args h = spelled-values (Number ∷ []) args h refl
behind_read OfUnits args h = spelled-values (Number ∷ []) args h refl

-- and the fields of a number have no fault, and say it
pub record IsSaid (names : Named) (n : ℕ) : Type 0 where
  pub no_fault : fields_fault (kinds names) (behind names n) ≡ None
  pub says : number_at (values (kinds names) (behind names n)) 0 ≡ n
  pub plain : ArePlain (behind names n)

one_fits : (n : ℕ) → n < 2 ^ 32 → (i : ℕ) → number_at (record { numbers = n ∷ []; pattern = [] }) i < 2 ^ 32
one_fits n h zero = h
one_fits n h (suc i) = omega arith

one_number : (n : ℕ) → n < 2 ^ 32 → fields_fault (Number ∷ []) (decimal n ∷ []) ≡ None
one_number n h = fields_fault-spelled (Number ∷ []) (record { numbers = n ∷ []; pattern = [] }) (record { numbers_fit = one_fits n h; pattern = λ bytes. absurd (cc) })

-- the numbers of a job are small
pub record AreSmall (counts : Counts) : Type 0 where
  pub guests : counts.guests < 2 ^ 32
  pub disks : counts.disks < 2 ^ 32
  pub streams : counts.streams < 2 ^ 32
  pub units : counts.units < 2 ^ 32

pub behind_said : (counts : Counts) (names : Named) (n : ℕ) → AreSmall counts → n < count_of counts names → IsSaid names n
behind_said counts Nothing n small h = record { no_fault = refl; says = omega arith; plain = tt }
behind_said counts OfGuests n small h =
    let fits : n < 2 ^ 32 = omega (arith, small.guests) in
    record { no_fault = one_number n fits; says = number-decimal n fits; plain = (decimal_plain n (omega arith), tt) }
behind_said counts OfDisks n small h =
    let fits : n < 2 ^ 32 = omega (arith, small.disks) in
    record { no_fault = one_number n fits; says = number-decimal n fits; plain = (decimal_plain n (omega arith), tt) }
behind_said counts OfStreams n small h =
    let fits : n < 2 ^ 32 = omega (arith, small.streams) in
    record { no_fault = one_number n fits; says = number-decimal n fits; plain = (decimal_plain n (omega arith), tt) }
behind_said counts OfUnits n small h =
    let fits : n < 2 ^ 32 = omega (arith, small.units) in
    record { no_fault = one_number n fits; says = number-decimal n fits; plain = (decimal_plain n (omega arith), tt) }

-- a number of something that is there names something of the job
abbrev pub said_in : Job → Option Line → Bool
said_in job None = true
said_in job (Some l) = is_in job l

pub said_in-job : (job : Job) (word : Word) (n : ℕ) → n < count_of (counts_of job) (named word) → said_in job (line_said word n) ≡ true
said_in-job job GuestWord n h = lt-ltb n (guest_count job) h
said_in-job job BeginWord n h = lt-ltb n (length job.copy.disks) h
said_in-job job ReadWord n h = lt-ltb n (length job.copy.disks) h
said_in-job job AdvanceWord n h = lt-ltb n (length job.copy.disks) h
said_in-job job ReleaseWord n h = lt-ltb n (length job.copy.disks) h
said_in-job job RoundWord n h = refl
said_in-job job PageWord n h = refl
said_in-job job SendWord n h = lt-ltb n job.config.streams h
said_in-job job DeliverWord n h = lt-ltb n job.config.streams h
said_in-job job ApplyWord n h = refl
said_in-job job AckWord n h = refl
said_in-job job CreditWord n h = refl
said_in-job job StunWord n h = refl
said_in-job job SwitchWord n h = refl
said_in-job job CancelWord n h = refl
said_in-job job ProbeWord n h = lt-ltb n (unit_count job) h
said_in-job job StopWord n h = refl

-- the word and the number of a line
abbrev pub event_word : Event → Word
event_word (Guest x) = GuestWord
event_word (Begin x) = BeginWord
event_word (Read x) = ReadWord
event_word (Advance x) = AdvanceWord
event_word (Release x) = ReleaseWord
event_word Round = RoundWord
event_word Page = PageWord
event_word (Send x) = SendWord
event_word (Deliver x) = DeliverWord
event_word Apply = ApplyWord
event_word Ack = AckWord
event_word Credit = CreditWord
event_word Stun = StunWord
event_word Switch = SwitchWord
event_word Cancel = CancelWord

abbrev pub event_number : Event → ℕ
event_number (Guest x) = x.0
event_number (Begin x) = x
event_number (Read x) = x
event_number (Advance x) = x
event_number (Release x) = x
event_number Round = 0
event_number Page = 0
event_number (Send x) = x
event_number (Deliver x) = x
event_number Apply = 0
event_number Ack = 0
event_number Credit = 0
event_number Stun = 0
event_number Switch = 0
event_number Cancel = 0

abbrev pub word_in : Line → Word
word_in (Step event) = event_word event
word_in (Ask unit) = ProbeWord

abbrev pub number_in : Line → ℕ
number_in (Step event) = event_number event
number_in (Ask unit) = unit.0

event_back : (event : Event) → line_said (event_word event) (event_number event) ≡ Some (Step event)
event_back (Guest x) = refl
event_back (Begin x) = refl
event_back (Read x) = refl
event_back (Advance x) = refl
event_back (Release x) = refl
event_back Round = refl
event_back Page = refl
event_back (Send x) = refl
event_back (Deliver x) = refl
event_back Apply = refl
event_back Ack = refl
event_back Credit = refl
event_back Stun = refl
event_back Switch = refl
event_back Cancel = refl

pub line_back : (l : Line) → line_said (word_in l) (number_in l) ≡ Some l
line_back (Step event) = event_back event
line_back (Ask unit) = refl

event_there : (job : Job) (event : Event) → is_in job (Step event) ≡ true → event_number event < count_of (counts_of job) (named (event_word event))
event_there job (Guest x) h = ltb-true x.0 (guest_count job) h
event_there job (Begin x) h = ltb-true x (length job.copy.disks) h
event_there job (Read x) h = ltb-true x (length job.copy.disks) h
event_there job (Advance x) h = ltb-true x (length job.copy.disks) h
event_there job (Release x) h = ltb-true x (length job.copy.disks) h
event_there job Round h = omega arith
event_there job Page h = omega arith
event_there job (Send x) h = ltb-true x job.config.streams h
event_there job (Deliver x) h = ltb-true x job.config.streams h
event_there job Apply h = omega arith
event_there job Ack h = omega arith
event_there job Credit h = omega arith
event_there job Stun h = omega arith
event_there job Switch h = omega arith
event_there job Cancel h = omega arith

pub line_there : (job : Job) (l : Line) → is_in job l ≡ true → number_in l < count_of (counts_of job) (named (word_in l))
line_there job (Step event) h = event_there job event h
line_there job (Ask unit) h = ltb-true unit.0 (unit_count job) h

-- the fields of a line
abbrev pub line_fields : Line → List (List ℕ)
line_fields l = fields_said (word_in l) (number_in l)

pub fields_plain : (counts : Counts) (word : Word) (n : ℕ) → AreSmall counts → n < count_of counts (named word) → ArePlain (fields_said word n)
fields_plain counts word n small h = (spelling_plain word, (behind_said counts (named word) n small h).plain)
