-- What stands on the streams as heads and as contents where one of them changed, and what a wire's calls leave of it.
use Rattle.std.specs.Prelude.{◌≡◌, ℕ, List, [], ◌∷◌, ◌++◌, length, map, take, drop, set, get_or}
use Rattle.std.proofs.Common.{arith, refl, ap, sym, ◌∙◌}
use Rattle.std.proofs.Math.ListN.{get_or-map}
use Rattle.std.proofs.Math.Seq.{map-set_same}
use Rattle.std.proofs.lemmas.List.{map-set, map_push, drop-map, take-map}
use Rattle.xv_base.specs.declared.operation.UnitHead.{UnitHead}
use Rattle.xv_frame.specs.Frame.{Message}
use Rattle.xv_streams.specs.Streamed.{LaneSeen, no_lane}
use Rattle.xv_streams.specs.Fronts.{heads_of, contents_of, heads_on, contents_on}
use Rattle.xv_source.specs.Step.{joined_messages}

-- one of some streams, which is as many as before
pub heads-set : (lanes : List LaneSeen) (k : ℕ) (l : LaneSeen) → heads_on (set lanes k l) ≡ set (heads_on lanes) k (map heads_of l.groups)
heads-set lanes k l = map-set (λ (x : LaneSeen). map heads_of x.groups) lanes k l

pub heads-at : (lanes : List LaneSeen) (k : ℕ) → get_or (heads_on lanes) k [] ≡ map heads_of (get_or lanes k no_lane).groups
heads-at lanes k = get_or-map (λ (x : LaneSeen). map heads_of x.groups) lanes k no_lane

pub contents-set : (lanes : List LaneSeen) (k : ℕ) (l : LaneSeen) → contents_on (set lanes k l) ≡ set (contents_on lanes) k (map contents_of l.groups)
contents-set lanes k l = map-set (λ (x : LaneSeen). map contents_of x.groups) lanes k l

pub contents-at : (lanes : List LaneSeen) (k : ℕ) → get_or (contents_on lanes) k [] ≡ map contents_of (get_or lanes k no_lane).groups
contents-at lanes k = get_or-map (λ (x : LaneSeen). map contents_of x.groups) lanes k no_lane

-- a stream that has the same groups as before
pub heads-same : (lanes : List LaneSeen) (k : ℕ) (l : LaneSeen) → l.groups ≡ (get_or lanes k no_lane).groups → heads_on (set lanes k l) ≡ heads_on lanes
heads-same lanes k l e = map-set_same (λ (x : LaneSeen). map heads_of x.groups) lanes k l no_lane (ap (map heads_of) e)

pub contents-same : (lanes : List LaneSeen) (k : ℕ) (l : LaneSeen) → l.groups ≡ (get_or lanes k no_lane).groups → contents_on (set lanes k l) ≡ contents_on lanes
contents-same lanes k l e = map-set_same (λ (x : LaneSeen). map contents_of x.groups) lanes k l no_lane (ap (map contents_of) e)

-- a stream with one group more
pub heads-put : (lanes : List LaneSeen) (k : ℕ) (l : LaneSeen) (group : List Message) → l.groups ≡ (get_or lanes k no_lane).groups ++ group ∷ [] →
    heads_on (set lanes k l) ≡ set (heads_on lanes) k (get_or (heads_on lanes) k [] ++ heads_of group ∷ [])
heads-put lanes k l group e =
    heads-set lanes k l
    ∙ ap (set (heads_on lanes) k) (ap (map heads_of) e ∙ map_push heads_of (get_or lanes k no_lane).groups group ∙ ap (λ (gs : List (List UnitHead)). gs ++ heads_of group ∷ []) (sym (heads-at lanes k)))

pub contents-put : (lanes : List LaneSeen) (k : ℕ) (l : LaneSeen) (group : List Message) → l.groups ≡ (get_or lanes k no_lane).groups ++ group ∷ [] →
    contents_on (set lanes k l) ≡ set (contents_on lanes) k (get_or (contents_on lanes) k [] ++ contents_of group ∷ [])
contents-put lanes k l group e =
    contents-set lanes k l
    ∙ ap (set (contents_on lanes) k) (ap (map contents_of) e ∙ map_push contents_of (get_or lanes k no_lane).groups group ∙ ap (λ (gs : List (List (List ℕ))). gs ++ contents_of group ∷ []) (sym (contents-at lanes k)))

-- a stream without its first group
pub heads-taken : (lanes : List LaneSeen) (k : ℕ) (l : LaneSeen) → l.groups ≡ drop 1 (get_or lanes k no_lane).groups →
    heads_on (set lanes k l) ≡ set (heads_on lanes) k (drop 1 (get_or (heads_on lanes) k []))
heads-taken lanes k l e =
    heads-set lanes k l
    ∙ ap (set (heads_on lanes) k) (ap (map heads_of) e ∙ sym (drop-map heads_of 1 (get_or lanes k no_lane).groups) ∙ ap (λ (gs : List (List UnitHead)). drop 1 gs) (sym (heads-at lanes k)))

pub contents-taken : (lanes : List LaneSeen) (k : ℕ) (l : LaneSeen) → l.groups ≡ drop 1 (get_or lanes k no_lane).groups →
    contents_on (set lanes k l) ≡ set (contents_on lanes) k (drop 1 (get_or (contents_on lanes) k []))
contents-taken lanes k l e =
    contents-set lanes k l
    ∙ ap (set (contents_on lanes) k) (ap (map contents_of) e ∙ sym (drop-map contents_of 1 (get_or lanes k no_lane).groups) ∙ ap (λ (gs : List (List (List ℕ))). drop 1 gs) (sym (contents-at lanes k)))

-- each stream's capacity, where that of the one is as before
pub capacity-same : (lanes : List LaneSeen) (k : ℕ) (l : LaneSeen) (j : ℕ) → l.wire.capacity ≡ (get_or lanes k no_lane).wire.capacity →
    (get_or (set lanes k l) j no_lane).wire.capacity ≡ (get_or lanes j no_lane).wire.capacity
capacity-same lanes k l j e =
    let capacity = λ (x : LaneSeen). x.wire.capacity in
    sym (get_or-map capacity (set lanes k l) j no_lane) ∙ ap (λ (ns : List ℕ). get_or ns j 0) (map-set_same capacity lanes k l no_lane e) ∙ get_or-map capacity lanes j no_lane

-- the heads and the contents of messages made of as many of both, and of the first of them
heads-joined : (ms : List UnitHead) (cs : List (List ℕ)) → length cs ≡ length ms → heads_of (joined_messages ms cs) ≡ ms
heads-joined [] cs e = refl
heads-joined (m ∷ ms) [] e = absurd (omega arith)
heads-joined (m ∷ ms) (c ∷ cs) e = ap (λ (xs : List UnitHead). m ∷ xs) (heads-joined ms cs (omega arith))

contents-joined : (ms : List UnitHead) (cs : List (List ℕ)) → length cs ≡ length ms → contents_of (joined_messages ms cs) ≡ cs
contents-joined [] [] e = refl
contents-joined [] (c ∷ cs) e = absurd (omega arith)
contents-joined (m ∷ ms) [] e = absurd (omega arith)
contents-joined (m ∷ ms) (c ∷ cs) e = ap (λ (xs : List (List ℕ)). c ∷ xs) (contents-joined ms cs (omega arith))

pub heads-first : (n : ℕ) (ms : List UnitHead) (cs : List (List ℕ)) → length cs ≡ length ms → heads_of (take n (joined_messages ms cs)) ≡ take n ms
heads-first n ms cs e = sym (take-map (λ (m : Message). m.head) n (joined_messages ms cs)) ∙ ap (take n) (heads-joined ms cs e)

pub contents-first : (n : ℕ) (ms : List UnitHead) (cs : List (List ℕ)) → length cs ≡ length ms → contents_of (take n (joined_messages ms cs)) ≡ take n cs
contents-first n ms cs e = sym (take-map (λ (m : Message). m.content) n (joined_messages ms cs)) ∙ ap (take n) (contents-joined ms cs e)
