-- What is done to a hold, as said of the heads of its messages and of their contents.
use Rattle.std.proofs.Common.{◌≡◌, ℕ, zero, suc, ◌+◌, Bool, not, cond, List, [], ◌∷◌, ◌++◌, map, take, drop, get_or, remove, count_by, sym, refl, ap, ◌∙◌}
use Rattle.std.specs.List.{position_or_len}
use Rattle.std.proofs.lemmas.List.{map-append, take-map, drop-map, map_push}
use Rattle.std.proofs.lemmas.List.Sums.{sum_by-cons}
use Rattle.xv_hold.specs.Messages.{Hold, UnitHead, heads, contents, no_head, no_message, is_next, is_version, copies, ready_place, ready_message, arrived, written}

pub map-remove : {X Y : Type 0} (f : X → Y) (xs : List X) (i : ℕ) → map f (remove xs i) ≡ remove (map f xs) i
map-remove f xs i =
    map-append f (take i xs) (drop (suc i) xs)
    ∙ ap (λ a. a ++ map f (drop (suc i) xs)) (sym (take-map f i xs))
    ∙ ap (λ b. take i (map f xs) ++ b) (sym (drop-map f (suc i) xs))

at-map : {X Y : Type 0} (f : X → Y) (xs : List X) (i : ℕ) (d : X) → f (get_or xs i d) ≡ get_or (map f xs) i (f d)
at-map f [] i d = refl
at-map f (x ∷ xs) zero d = refl
at-map f (x ∷ xs) (suc i) d = at-map f xs i d

place-map : {X Y : Type 0} (f : X → Y) (p : Y → Bool) (xs : List X) → position_or_len (λ x. p (f x)) xs ≡ position_or_len p (map f xs)
place-map f p [] = refl
place-map f p (x ∷ xs) = ap (λ n. cond (not (p (f x))) (1 + n) 0) (place-map f p xs)

count-map : {X Y : Type 0} (f : X → Y) (p : Y → Bool) (xs : List X) → count_by (λ x. p (f x)) xs ≡ count_by p (map f xs)
count-map f p [] = refl
count-map f p (x ∷ xs) =
    sum_by-cons (λ y. cond (p (f y)) 1 0) x xs
    ∙ ap (λ n. cond (p (f x)) 1 0 + n) (count-map f p xs)
    ∙ sym (sum_by-cons (λ y. cond (p y) 1 0) (f x) (map f xs))

-- a message that arrives is the last
pub heads-arrived : (h : Hold) (slot : ℕ) (head : UnitHead) (content : List ℕ) → heads (arrived h slot head content).messages ≡ heads h.messages ++ head ∷ []
heads-arrived h slot head content = map_push (λ m. m.head) h.messages (record { slot = slot; head = head; content = content })

pub contents-arrived : (h : Hold) (slot : ℕ) (head : UnitHead) (content : List ℕ) → contents (arrived h slot head content).messages ≡ contents h.messages ++ content ∷ []
contents-arrived h slot head content = map_push (λ m. m.content) h.messages (record { slot = slot; head = head; content = content })

-- the message that is ready stands at the first place whose head is its unit's next version
pub ready_place-heads : (h : Hold) → ready_place h ≡ position_or_len (is_next h.applied) (heads h.messages)
ready_place-heads h = place-map (λ m. m.head) (is_next h.applied) h.messages

pub head-ready : (h : Hold) → (ready_message h).head ≡ get_or (heads h.messages) (ready_place h) no_head
head-ready h = at-map (λ m. m.head) h.messages (ready_place h) no_message

pub content-ready : (h : Hold) → (ready_message h).content ≡ get_or (contents h.messages) (ready_place h) []
content-ready h = at-map (λ m. m.content) h.messages (ready_place h) no_message

-- and is taken out there
pub heads-written : (h : Hold) → heads (written h).messages ≡ remove (heads h.messages) (ready_place h)
heads-written h = map-remove (λ m. m.head) h.messages (ready_place h)

pub contents-written : (h : Hold) → contents (written h).messages ≡ remove (contents h.messages) (ready_place h)
contents-written h = map-remove (λ m. m.content) h.messages (ready_place h)

-- what is counted is counted by the heads
pub copies-heads : (h : Hold) (unit version : ℕ) → copies h unit version ≡ count_by (is_version unit version) (heads h.messages)
copies-heads h unit version = count-map (λ m. m.head) (is_version unit version) h.messages
