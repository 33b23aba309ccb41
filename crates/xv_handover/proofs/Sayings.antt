-- The lines of a handover's script one by one: what fields say, and by which fields each event is said.
use Rattle.std.proofs.Common.{◌≡◌, ℕ, zero, suc, ◌<◌, ◌^◌, Bool, true, List, [], ◌∷◌, ◌++◌, codes, decimal, nat_lt, Option, Some, None, refl, sym, ap, ◌∙◌, subst, arith, inl, inr, lt-ltb, ltb-true}
use Rattle.std.specs.Cmp.Lexicographic.{same_text}
use Rattle.std.proofs.lemmas.Bool.{cases_Bool}
use Rattle.xv_text.specs.Lines.{line}
use Rattle.xv_text.specs.Fields.{number_at}
use Rattle.xv_text.specs.declared.row.Kind.TheVariants.{Number}
use Rattle.xv_text.proofs.Apart.{IsPlain, ArePlain, decimal_plain}
use Rattle.xv_text.proofs.Numbers.{number-decimal}
use Rattle.xv_text.proofs.Rows.{values_row}
use Rattle.xv_text.proofs.Found.{found_spelled}
use Rattle.xv_text.proofs.Spelled.{spelled-values, fields_fault-spelled}
use Rattle.xv_handover.specs.Lines.{event_words}
use Rattle.xv_handover.specs.Words.{spelling, words, word_of, node_name, node_of, node_in, node_fault, number_fault, number_in, alone_fault, args_fault, at_node, event_said}
use Rattle.xv_text.specs.Words.{is_spelled}
use Rattle.xv_handover.specs.Script.{is_written}
use Rattle.xv_handover.specs.declared.word.Word.{Word}
use Rattle.xv_handover.specs.declared.word.Word.TheVariants.{Write as WriteWord, Image as ImageWord, Offer as OfferWord, Withdraw as WithdrawWord, Resend as ResendWord, Restart as RestartWord, Pass as PassWord, Stop as StopWord}
use Rattle.xv_handover.specs.declared.word.NodeName.{NodeName}
use Rattle.xv_handover.specs.declared.word.NodeName.TheVariants.{A, B}
use Rattle.xv_handover.specs.declared.world.WorldEvent.{WorldEvent}
use Rattle.xv_handover.specs.declared.world.WorldEvent.TheVariants.{WriteA, WriteB, Image, Offer, Withdraw, ResendA, ResendB, RestartA, RestartB, Pass}

-- a word is known by its spelling alone, and so is a node
spelled : (field : List ℕ) (word : Word) → word_of field ≡ Some word → field ≡ spelling word
unfolding word_of
spelled field word h = found_spelled spelling words field word h

named : (field : List ℕ) (node : NodeName) → node_of field ≡ Some node → field ≡ node_name node
named field node h = elim (cases_Bool (is_spelled (node_name A) field)) [
  | inl a ↦
      let found : Some A ≡ Some node = rw a at h in
      let same : A ≡ node = cc in
      sym (same_text (node_name A) field (sym a)) ∙ ap node_name same
  | inr not_a ↦ elim (cases_Bool (is_spelled (node_name B) field)) [
    | inl b ↦
        let found : Some B ≡ Some node = rw (not_a, b) at h in
        let same : B ≡ node = cc in
        sym (same_text (node_name B) field (sym b)) ∙ ap node_name same
    | inr not_b ↦ let none : None ≡ Some node = rw (not_a, not_b) at h in absurd (cc)
  ]
]

named_in : (args : List (List ℕ)) (node : NodeName) → node_in args ≡ Some node → args ≡ node_name node ∷ []
named_in [] node h = absurd (cc)
named_in (field ∷ []) node h = ap (λ f. f ∷ []) (named field node h)
named_in (field ∷ next ∷ more) node h = absurd (cc)

-- the fields that say an event, and those of `stop`
abbrev pub event_fields : WorldEvent → List (List ℕ)
event_fields WriteA = codes "write" ∷ codes "a" ∷ []
event_fields WriteB = codes "write" ∷ codes "b" ∷ []
event_fields (Image n) = codes "image" ∷ decimal n ∷ []
event_fields Offer = codes "offer" ∷ []
event_fields Withdraw = codes "withdraw" ∷ []
event_fields ResendA = codes "resend" ∷ codes "a" ∷ []
event_fields ResendB = codes "resend" ∷ codes "b" ∷ []
event_fields RestartA = codes "restart" ∷ codes "a" ∷ []
event_fields RestartB = codes "restart" ∷ codes "b" ∷ []
event_fields (Pass n) = codes "pass" ∷ decimal n ∷ []

abbrev pub said_fields : Option WorldEvent → List (List ℕ)
said_fields None = codes "stop" ∷ []
said_fields (Some e) = event_fields e

pub line-event_fields : (e : WorldEvent) → line (event_fields e) ≡ event_words e ++ 10 ∷ []
line-event_fields WriteA = refl
line-event_fields WriteB = refl
line-event_fields (Image n) = refl
line-event_fields Offer = refl
line-event_fields Withdraw = refl
line-event_fields ResendA = refl
line-event_fields ResendB = refl
line-event_fields RestartA = refl
line-event_fields RestartB = refl
line-event_fields (Pass n) = refl

abbrev pub said_written : Option WorldEvent → Bool
said_written None = true
said_written (Some e) = is_written e

-- a word and fields without a fault are the one spelling of what they say
pub record IsSaid (fields : List (List ℕ)) (said : Option WorldEvent) : Type 0 where
  pub spelled : fields ≡ said_fields said
  pub written : said_written said ≡ true

by_node : (word : Word) (at_a at_b : WorldEvent) (args : List (List ℕ)) (found : Option NodeName) → node_in args ≡ found → node_fault found ≡ None
    → spelling word ∷ codes "a" ∷ [] ≡ event_fields at_a → spelling word ∷ codes "b" ∷ [] ≡ event_fields at_b → is_written at_a ≡ true → is_written at_b ≡ true
    → IsSaid (spelling word ∷ args) (Some (at_node at_a at_b found))
by_node word at_a at_b args None is h a b fa fb = absurd (cc)
by_node word at_a at_b args (Some A) is h a b fa fb = record { spelled = ap (λ xs. spelling word ∷ xs) (named_in args A is) ∙ a; written = fa }
by_node word at_a at_b args (Some B) is h a b fa fb = record { spelled = ap (λ xs. spelling word ∷ xs) (named_in args B is) ∙ b; written = fb }

numbered : (args : List (List ℕ)) → number_fault args ≡ None → args ≡ decimal (number_in args) ∷ []
numbered args h = spelled-values (Number ∷ []) args h refl

number_fits : (args : List (List ℕ)) → number_fault args ≡ None → nat_lt (number_in args) (2 ^ 32) ≡ true
number_fits args h = lt-ltb (number_in args) (2 ^ 32) ((values_row (Number ∷ []) args h).numbers_fit 0)

alone : (args : List (List ℕ)) → alone_fault args ≡ None → args ≡ []
alone args h = spelled-values [] args h refl

args_sound : (word : Word) (args : List (List ℕ)) → args_fault word args ≡ None → IsSaid (spelling word ∷ args) (event_said word args)
args_sound WriteWord args h = by_node WriteWord WriteA WriteB args (node_in args) refl h refl refl refl refl
args_sound ImageWord args h = record { spelled = ap (λ xs. codes "image" ∷ xs) (numbered args h); written = number_fits args h }
args_sound OfferWord args h = record { spelled = ap (λ xs. codes "offer" ∷ xs) (alone args h); written = refl }
args_sound WithdrawWord args h = record { spelled = ap (λ xs. codes "withdraw" ∷ xs) (alone args h); written = refl }
args_sound ResendWord args h = by_node ResendWord ResendA ResendB args (node_in args) refl h refl refl refl refl
args_sound RestartWord args h = by_node RestartWord RestartA RestartB args (node_in args) refl h refl refl refl refl
args_sound PassWord args h = record { spelled = ap (λ xs. codes "pass" ∷ xs) (numbered args h); written = number_fits args h }
args_sound StopWord args h = record { spelled = ap (λ xs. codes "stop" ∷ xs) (alone args h); written = refl }

pub word_sound : (field : List ℕ) (word : Word) (args : List (List ℕ)) → word_of field ≡ Some word → args_fault word args ≡ None → IsSaid (field ∷ args) (event_said word args)
word_sound field word args is h =
    let P : List ℕ → Type 0 = λ f. IsSaid (f ∷ args) (event_said word args) in
    subst P (sym (spelled field word is)) (args_sound word args h)

-- the fields of an event that can be written have no fault, and say it
pub record IsSpelt (fields : List (List ℕ)) (said : Option WorldEvent) : Type 0 where
  pub word : Word
  pub field : List ℕ
  pub args : List (List ℕ)
  pub is : fields ≡ field ∷ args
  pub known : word_of field ≡ Some word
  pub no_fault : args_fault word args ≡ None
  pub says : event_said word args ≡ said
  pub plain : ArePlain fields

one_fits : (n : ℕ) → n < 2 ^ 32 → (i : ℕ) → number_at (record { numbers = n ∷ []; pattern = [] }) i < 2 ^ 32
one_fits n h zero = h
one_fits n h (suc i) = omega arith

one_number : (n : ℕ) → n < 2 ^ 32 → number_fault (decimal n ∷ []) ≡ None
one_number n h = fields_fault-spelled (Number ∷ []) (record { numbers = n ∷ []; pattern = [] }) (record { numbers_fit = one_fits n h; pattern = λ bytes. absurd (cc) })

spelt : (word : Word) (args : List (List ℕ)) (said : Option WorldEvent) → word_of (spelling word) ≡ Some word → args_fault word args ≡ None → event_said word args ≡ said
    → IsPlain (spelling word) → ArePlain args → IsSpelt (spelling word ∷ args) said
spelt word args said known none says first behind = record { word = word; field = spelling word; args = args; is = refl; known = known; no_fault = none; says = says; plain = (first, behind) }

abbrev plain_a : ArePlain (codes "a" ∷ [])
plain_a = (record { no_space = refl; no_feed = refl }, tt)

abbrev plain_b : ArePlain (codes "b" ∷ [])
plain_b = (record { no_space = refl; no_feed = refl }, tt)

pub event_spelt : (e : WorldEvent) → is_written e ≡ true → IsSpelt (event_fields e) (Some e)
unfolding word_of
event_spelt WriteA h = spelt WriteWord (codes "a" ∷ []) (Some WriteA) refl refl refl (record { no_space = refl; no_feed = refl }) plain_a
event_spelt WriteB h = spelt WriteWord (codes "b" ∷ []) (Some WriteB) refl refl refl (record { no_space = refl; no_feed = refl }) plain_b
event_spelt (Image n) h =
    let fits : n < 2 ^ 32 = ltb-true n (2 ^ 32) h in
    spelt ImageWord (decimal n ∷ []) (Some (Image n)) refl (one_number n fits) (ap (λ k. Some (Image k)) (number-decimal n fits)) (record { no_space = refl; no_feed = refl }) (decimal_plain n (omega arith), tt)
event_spelt Offer h = spelt OfferWord [] (Some Offer) refl refl refl (record { no_space = refl; no_feed = refl }) tt
event_spelt Withdraw h = spelt WithdrawWord [] (Some Withdraw) refl refl refl (record { no_space = refl; no_feed = refl }) tt
event_spelt ResendA h = spelt ResendWord (codes "a" ∷ []) (Some ResendA) refl refl refl (record { no_space = refl; no_feed = refl }) plain_a
event_spelt ResendB h = spelt ResendWord (codes "b" ∷ []) (Some ResendB) refl refl refl (record { no_space = refl; no_feed = refl }) plain_b
event_spelt RestartA h = spelt RestartWord (codes "a" ∷ []) (Some RestartA) refl refl refl (record { no_space = refl; no_feed = refl }) plain_a
event_spelt RestartB h = spelt RestartWord (codes "b" ∷ []) (Some RestartB) refl refl refl (record { no_space = refl; no_feed = refl }) plain_b
event_spelt (Pass n) h =
    let fits : n < 2 ^ 32 = ltb-true n (2 ^ 32) h in
    spelt PassWord (decimal n ∷ []) (Some (Pass n)) refl (one_number n fits) (ap (λ k. Some (Pass k)) (number-decimal n fits)) (record { no_space = refl; no_feed = refl }) (decimal_plain n (omega arith), tt)

pub stop_spelt : IsSpelt (said_fields None) None
unfolding word_of
stop_spelt = spelt StopWord [] None refl refl refl (record { no_space = refl; no_feed = refl }) tt
