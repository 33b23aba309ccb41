-- The words of a script, how each is spelled, what follows it, and the line that it says.
use Rattle.std.specs.Prelude.{ℕ, List, [], ◌∷◌, codes, Option, Some, None, find}
use Rattle.xv_base.specs.declared.event.Event.TheVariants.{Guest, Begin, Read, Advance, Release, Round, Page, Send, Deliver, Apply, Ack, Credit, Stun, Switch, Cancel}
use Rattle.xv_text.specs.declared.row.Kind.{Kind}
use Rattle.xv_text.specs.declared.row.Kind.TheVariants.{Number}
use Rattle.xv_text.specs.Words.{is_spelled}
use Rattle.xv_script.specs.declared.line.Line.{Line}
use Rattle.xv_script.specs.declared.line.Line.TheVariants.{Step, Ask}
use Rattle.xv_script.specs.declared.word.Named.{Named}
use Rattle.xv_script.specs.declared.word.Named.TheVariants.{Nothing, OfGuests, OfDisks, OfStreams, OfUnits}
use Rattle.xv_script.specs.declared.word.Word.{Word}
use Rattle.xv_script.specs.declared.word.Word.TheVariants.{Guest as GuestWord, Begin as BeginWord, Read as ReadWord, Advance as AdvanceWord, Release as ReleaseWord, Round as RoundWord, Page as PageWord, Send as SendWord, Deliver as DeliverWord, Apply as ApplyWord, Ack as AckWord, Credit as CreditWord, Stun as StunWord, Switch as SwitchWord, Cancel as CancelWord, Probe as ProbeWord, Stop as StopWord}

abbrev pub spelling : Word → List ℕ
spelling GuestWord = codes "guest"
spelling BeginWord = codes "begin"
spelling ReadWord = codes "read"
spelling AdvanceWord = codes "advance"
spelling ReleaseWord = codes "release"
spelling RoundWord = codes "round"
spelling PageWord = codes "page"
spelling SendWord = codes "send"
spelling DeliverWord = codes "deliver"
spelling ApplyWord = codes "apply"
spelling AckWord = codes "ack"
spelling CreditWord = codes "credit"
spelling StunWord = codes "stun"
spelling SwitchWord = codes "switch"
spelling CancelWord = codes "cancel"
spelling ProbeWord = codes "probe"
spelling StopWord = codes "stop"

-- all words
abbrev pub words : List Word
words =
    GuestWord
    ∷ BeginWord
    ∷ ReadWord
    ∷ AdvanceWord
    ∷ ReleaseWord
    ∷ RoundWord
    ∷ PageWord
    ∷ SendWord
    ∷ DeliverWord
    ∷ ApplyWord
    ∷ AckWord
    ∷ CreditWord
    ∷ StunWord
    ∷ SwitchWord
    ∷ CancelWord
    ∷ ProbeWord
    ∷ StopWord
    ∷ []

-- the word that a field is, where it is one
unfoldable pub word_of : List ℕ → Option Word
word_of field = find (λ word. is_spelled (spelling word) field) words

-- what the number behind a word names; behind a word that names nothing stands no number
abbrev pub named : Word → Named
named GuestWord = OfGuests
named BeginWord = OfDisks
named ReadWord = OfDisks
named AdvanceWord = OfDisks
named ReleaseWord = OfDisks
named RoundWord = Nothing
named PageWord = Nothing
named SendWord = OfStreams
named DeliverWord = OfStreams
named ApplyWord = Nothing
named AckWord = Nothing
named CreditWord = Nothing
named StunWord = Nothing
named SwitchWord = Nothing
named CancelWord = Nothing
named ProbeWord = OfUnits
named StopWord = Nothing

abbrev pub kinds : Named → List Kind
kinds Nothing = []
kinds OfGuests = Number ∷ []
kinds OfDisks = Number ∷ []
kinds OfStreams = Number ∷ []
kinds OfUnits = Number ∷ []

-- the line that a word and its number say; none where the script stops
abbrev pub line_said : Word → ℕ → Option Line
line_said GuestWord n = Some (Step (Guest (record { 0 = n })))
line_said BeginWord n = Some (Step (Begin n))
line_said ReadWord n = Some (Step (Read n))
line_said AdvanceWord n = Some (Step (Advance n))
line_said ReleaseWord n = Some (Step (Release n))
line_said RoundWord n = Some (Step Round)
line_said PageWord n = Some (Step Page)
line_said SendWord n = Some (Step (Send n))
line_said DeliverWord n = Some (Step (Deliver n))
line_said ApplyWord n = Some (Step Apply)
line_said AckWord n = Some (Step Ack)
line_said CreditWord n = Some (Step Credit)
line_said StunWord n = Some (Step Stun)
line_said SwitchWord n = Some (Step Switch)
line_said CancelWord n = Some (Step Cancel)
line_said ProbeWord n = Some (Ask (record { 0 = n }))
line_said StopWord n = None
