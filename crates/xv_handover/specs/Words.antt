-- The words of a handover's script, how each is spelled, what follows it, and the event that it says.
use Rattle.std.specs.Prelude.{ℕ, List, [], ◌∷◌, codes, Option, Some, None, find, if◌then◌else◌}
use Rattle.xv_base.specs.declared.text.LineWhy.{LineWhy}
use Rattle.xv_base.specs.declared.text.LineWhy.TheVariants.{BadWord}
use Rattle.xv_text.specs.declared.row.Kind.TheVariants.{Number}
use Rattle.xv_text.specs.Fields.{fields_fault, number_at, values}
use Rattle.xv_text.specs.Words.{is_spelled}
use Rattle.xv_handover.specs.declared.word.Word.{Word}
use Rattle.xv_handover.specs.declared.word.Word.TheVariants.{Write as WriteWord, Image as ImageWord, Offer as OfferWord, Withdraw as WithdrawWord, Resend as ResendWord, Restart as RestartWord, Pass as PassWord, Stop as StopWord}
use Rattle.xv_handover.specs.declared.word.NodeName.{NodeName}
use Rattle.xv_handover.specs.declared.word.NodeName.TheVariants.{A, B}
use Rattle.xv_handover.specs.declared.world.WorldEvent.{WorldEvent}
use Rattle.xv_handover.specs.declared.world.WorldEvent.TheVariants.{WriteA, WriteB, Image, Offer, Withdraw, ResendA, ResendB, RestartA, RestartB, Pass}

abbrev pub spelling : Word → List ℕ
spelling WriteWord = codes "write"
spelling ImageWord = codes "image"
spelling OfferWord = codes "offer"
spelling WithdrawWord = codes "withdraw"
spelling ResendWord = codes "resend"
spelling RestartWord = codes "restart"
spelling PassWord = codes "pass"
spelling StopWord = codes "stop"

-- all words
abbrev pub words : List Word
words = WriteWord ∷ ImageWord ∷ OfferWord ∷ WithdrawWord ∷ ResendWord ∷ RestartWord ∷ PassWord ∷ StopWord ∷ []

-- the word that a field is, where it is one
unfoldable pub word_of : List ℕ → Option Word
word_of field = find (λ word. is_spelled (spelling word) field) words

-- the node that fields name: one field, `a` or `b`
abbrev pub node_name : NodeName → List ℕ
node_name A = codes "a"
node_name B = codes "b"

abbrev pub node_of : List ℕ → Option NodeName
node_of field = if is_spelled (node_name A) field then Some A else (if is_spelled (node_name B) field then Some B else None)

abbrev pub node_in : List (List ℕ) → Option NodeName
node_in [] = None
node_in (field ∷ []) = node_of field
node_in (field ∷ next ∷ more) = None

abbrev pub node_fault : Option NodeName → Option LineWhy
node_fault None = Some BadWord
node_fault (Some node) = None

-- one number, and no field
abbrev pub number_fault : List (List ℕ) → Option LineWhy
number_fault args = fields_fault (Number ∷ []) args

abbrev pub number_in : List (List ℕ) → ℕ
number_in args = number_at (values (Number ∷ []) args) 0

abbrev pub alone_fault : List (List ℕ) → Option LineWhy
alone_fault args = fields_fault [] args

-- what is wrong first with the fields behind a word: behind some stands a node, behind some a number, and behind the
-- others nothing
abbrev pub args_fault : Word → List (List ℕ) → Option LineWhy
args_fault WriteWord args = node_fault (node_in args)
args_fault ImageWord args = number_fault args
args_fault OfferWord args = alone_fault args
args_fault WithdrawWord args = alone_fault args
args_fault ResendWord args = node_fault (node_in args)
args_fault RestartWord args = node_fault (node_in args)
args_fault PassWord args = number_fault args
args_fault StopWord args = alone_fault args

-- the event of the node that is named
abbrev pub at_node : WorldEvent → WorldEvent → Option NodeName → WorldEvent
at_node at_a at_b None = at_a
at_node at_a at_b (Some A) = at_a
at_node at_a at_b (Some B) = at_b

-- the event that a word and the fields behind it say; none where the script stops
abbrev pub event_said : Word → List (List ℕ) → Option WorldEvent
event_said WriteWord args = Some (at_node WriteA WriteB (node_in args))
event_said ImageWord args = Some (Image (number_in args))
event_said OfferWord args = Some Offer
event_said WithdrawWord args = Some Withdraw
event_said ResendWord args = Some (at_node ResendA ResendB (node_in args))
event_said RestartWord args = Some (at_node RestartA RestartB (node_in args))
event_said PassWord args = Some (Pass (number_in args))
event_said StopWord args = None
