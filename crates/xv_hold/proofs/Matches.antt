-- The matches of a tournament: played again from one place up, and what the first place then has.
use Rattle.std.proofs.Common.{◌∷◌, ◌≡◌, ℕ, zero, suc, ◌+◌, ◌-◌, ◌*◌, ◌/◌, ◌<◌, ◌≤◌, ◌⊎◌, List, length, get_or, set, drop, map, replicate, Option, Some, None, sym, refl, ap, ◌∙◌, arith, inl, inr, ⊎_elim, subst}
use Rattle.std.proofs.lemmas.List.{drop-set-add, drop-replicate, map-set, get_or-map, get_or-drop, get_or_past, length-map, length-drop}
use Rattle.std.proofs.lemmas.Bool.{cases_lt, cases_eq, lt-ltb, le-ltb}
use Rattle.xv_hold.specs.declared.ready.Entry.{Entry}
use Rattle.xv_hold.specs.Tournament.{place, entry_of, arrival_of, arrivals_of, earlier, IsWonBut, IsTournament, NoneReady, IsEarliest}

-- the matches are played but for that above one place, and the last places stay
pub record IsReplayed (count : ℕ) (before places : List (Option Entry)) (at : ℕ) : Type 0 where
  pub size : length places ≡ count + count
  pub within : at < count + count
  pub some : 0 < at
  pub won : IsWonBut count places (at / 2)
  pub below : drop count places ≡ drop count before

-- of two entries, the first is there where the second is, and arrived no later
abbrev NotAfter : Option Entry → Option Entry → Type 0
NotAfter a None = Unit {0}
NotAfter None (Some b) = ⊥
NotAfter (Some a) (Some b) = a.arrival ≤ b.arrival

itself : (a : Option Entry) → NotAfter a a
itself None = tt
itself (Some a) = omega arith

chain : (a b c : Option Entry) → NotAfter a b → NotAfter b c → NotAfter a c
chain a b None p q = tt
chain None None (Some c) p q = q
chain (Some a) None (Some c) p q = absurd q
chain None (Some b) (Some c) p q = p
chain (Some a) (Some b) (Some c) p q = omega arith

earlier-left : (a b : Option Entry) → NotAfter (earlier a b) a
earlier-left None b = tt
earlier-left (Some a) None = omega arith
earlier-left (Some a) (Some b) = elim (cases_lt b.arrival a.arrival) [
  | inl l ↦ rw (lt-ltb b.arrival a.arrival l) (omega arith)
  | inr g ↦ rw (le-ltb b.arrival a.arrival g) (omega arith)
]

earlier-right : (a b : Option Entry) → NotAfter (earlier a b) b
earlier-right None b = itself b
earlier-right (Some a) None = tt
earlier-right (Some a) (Some b) = elim (cases_lt b.arrival a.arrival) [
  | inl l ↦ rw (lt-ltb b.arrival a.arrival l) (omega arith)
  | inr g ↦ rw (le-ltb b.arrival a.arrival g) (omega arith)
]

-- the earlier of two entries is one of them
earlier-one : (a b : Option Entry) → (earlier a b ≡ a) ⊎ (earlier a b ≡ b)
earlier-one None b = inr refl
earlier-one (Some a) None = inl refl
earlier-one (Some a) (Some b) = elim (cases_lt b.arrival a.arrival) [
  | inl l ↦ rw (lt-ltb b.arrival a.arrival l) (inr refl)
  | inr g ↦ rw (le-ltb b.arrival a.arrival g) (inl refl)
]

-- the place above another has no later entry
above : (count : ℕ) (ps : List (Option Entry)) → IsWonBut count ps 0 → (i : ℕ) → 1 < i → i < count + count → NotAfter (place ps (i / 2)) (place ps i)
above count ps won i low high =
    let up : place ps (i / 2) ≡ earlier (place ps (i / 2 + i / 2)) (place ps (i / 2 + i / 2 + 1)) = won (i / 2) (omega arith) (omega arith) (λ h. omega arith) in
    elim (cases_eq i (i / 2 + i / 2)) [
      | inl even ↦ rw (up, ← even) (earlier-left (place ps i) (place ps (i + 1)))
      | inr odd ↦
          let same : i ≡ i / 2 + i / 2 + 1 = omega arith in
          rw (up, ← same) (earlier-right (place ps (i / 2 + i / 2)) (place ps i))
    ]

-- the first place has no later entry than any
first-least : (count : ℕ) (ps : List (Option Entry)) → IsWonBut count ps 0 → (fuel i : ℕ) → i ≤ fuel → 0 < i → i < count + count → NotAfter (place ps 1) (place ps i)
first-least count ps won zero i f low high = absurd (omega arith)
first-least count ps won (suc fuel) i f low high = elim (cases_eq i 1) [
  | inl one ↦ rw one (itself (place ps 1))
  | inr more ↦ chain (place ps 1) (place ps (i / 2)) (place ps i)
      (first-least count ps won fuel (i / 2) (omega arith) (omega arith) (omega arith))
      (above count ps won i (omega arith) high)
]

-- the entry of each place is that of some slot
some-slot : (count : ℕ) (ps : List (Option Entry)) → IsWonBut count ps 0 → (fuel i : ℕ) → count + count ≤ i + fuel → 0 < i → i < count + count
    → (k : ℕ) × (k < count) × (place ps i ≡ place ps (count + k))
some-slot count ps won zero i f low high = absurd (omega arith)
some-slot count ps won (suc fuel) i f low high = elim (cases_lt i count) [
  | inl inner ↦
      let left = some-slot count ps won fuel (i + i) (omega arith) (omega arith) (omega arith) in
      let right = some-slot count ps won fuel (i + i + 1) (omega arith) (omega arith) (omega arith) in
      let is = won i low inner (λ h. omega arith) in
      ⊎_elim
      (λ h. (left.0, left.1, is ∙ h ∙ left.2))
      (λ h. (right.0, right.1, is ∙ h ∙ right.2))
      (earlier-one (place ps (i + i)) (place ps (i + i + 1)))
  | inr leaf ↦
      let e : i ≡ count + (i - count) = omega arith in
      (i - count, omega arith, ap (place ps) e)
]

-- what is seen of a slot
length-seen : (count : ℕ) (ps : List (Option Entry)) → length ps ≡ count + count → length (arrivals_of count ps) ≡ count
length-seen count ps l = omega (arith, length-map (drop count ps) arrival_of, length-drop count ps)

seen : (count : ℕ) (ps : List (Option Entry)) (k : ℕ) → length ps ≡ count + count → k < count → get_or (arrivals_of count ps) k None ≡ arrival_of (place ps (count + k))
seen count ps k l h =
    get_or-map arrival_of (drop count ps) k None None (omega (arith, length-drop count ps)) ∙ ap arrival_of (get_or-drop count ps k None)

-- at first no slot is ready
map-replicate : {X Y : Type 0} (f : X → Y) (n : ℕ) (x : X) → map f (replicate n x) ≡ replicate n (f x)
map-replicate f zero x = refl
map-replicate f (suc n) x = ap (λ ys. f x ∷ ys) (map-replicate f n x)

pub none-seen : (count : ℕ) (ps : List (Option Entry)) → ps ≡ replicate (2 * count) None → arrivals_of count ps ≡ replicate count None
none-seen count ps is =
    ap (arrivals_of count) is
    ∙ ap (map arrival_of) (drop-replicate count (2 * count) None)
    ∙ map-replicate arrival_of (2 * count - count) None
    ∙ ap (λ n. replicate n None) (omega arith)

arrival-entry : (k : ℕ) (arrival : Option ℕ) → arrival_of (entry_of k arrival) ≡ arrival
arrival-entry k None = refl
arrival-entry k (Some n) = refl

-- a slot set, after the matches were played again
pub set-seen : (count : ℕ) (before ps : List (Option Entry)) (k : ℕ) (arrival : Option ℕ)
    → drop count ps ≡ drop count (set before (count + k) (entry_of k arrival)) → arrivals_of count ps ≡ set (arrivals_of count before) k arrival
set-seen count before ps k arrival is =
    ap (map arrival_of) (is ∙ drop-set-add count before k (entry_of k arrival))
    ∙ map-set arrival_of (drop count before) k (entry_of k arrival)
    ∙ ap (set (arrivals_of count before) k) (arrival-entry k arrival)

-- with no entry in the first place no slot is ready
none-later : (e : Option Entry) → NotAfter None e → e ≡ None
none-later None h = refl
none-later (Some e) h = absurd h

pub none-ready : (count : ℕ) (ps : List (Option Entry)) → IsTournament count ps → place ps 1 ≡ None → NoneReady (arrivals_of count ps)
none-ready count ps t is k = elim (cases_lt k count) [
  | inl l ↦
      let least : NotAfter None (place ps (count + k)) = subst (λ e. NotAfter e (place ps (count + k))) is (first-least count ps t.won (count + k) (count + k) (omega arith) (omega arith) (omega arith)) in
      seen count ps k t.size l ∙ ap arrival_of (none-later (place ps (count + k)) least)
  | inr g ↦ get_or_past (arrivals_of count ps) k None (omega (arith, length-seen count ps t.size))
]

-- an entry that is there is of its slot
own-entry : (k : ℕ) (e : Option Entry) (f : Entry) → e ≡ entry_of k (arrival_of e) → e ≡ Some f → f.slot ≡ k
own-entry k None f own is = cc
own-entry k (Some e) f own is = cc

no-later : (e : Entry) (f : Option Entry) (n : ℕ) → NotAfter (Some e) f → arrival_of f ≡ Some n → e.arrival ≤ n
no-later e None n h is = cc
no-later e (Some f) n h is = let same : f.arrival ≡ n = cc in omega arith

-- the entry in the first place is the earliest
pub earliest : (count : ℕ) (ps : List (Option Entry)) (e : Entry) → IsTournament count ps → 0 < count → place ps 1 ≡ Some e → IsEarliest (arrivals_of count ps) e.slot
earliest count ps e t some is =
    let home = some-slot count ps t.won (count + count) 1 (omega arith) (omega arith) (omega arith) in
    let there : place ps (count + home.0) ≡ Some e = sym home.2 ∙ is in
    let slot : e.slot ≡ home.0 = own-entry home.0 (place ps (count + home.0)) e (t.own home.0 home.1) there in
    record {
      within = omega (arith, home.1, slot, length-seen count ps t.size);
      arrival = e.arrival;
      is_ready = ap (λ k. get_or (arrivals_of count ps) k None) slot ∙ seen count ps home.0 t.size home.1 ∙ ap arrival_of there;
      no_earlier = λ k n h. elim (cases_lt k count) [
        | inl l ↦
            let least : NotAfter (Some e) (place ps (count + k)) = subst (λ x. NotAfter x (place ps (count + k))) is (first-least count ps t.won (count + k) (count + k) (omega arith) (omega arith) (omega arith)) in
            no-later e (place ps (count + k)) n least (sym (seen count ps k t.size l) ∙ h)
        | inr g ↦
            let past : get_or (arrivals_of count ps) k None ≡ None = get_or_past (arrivals_of count ps) k None (omega (arith, length-seen count ps t.size)) in
            cc
      ];
    }
