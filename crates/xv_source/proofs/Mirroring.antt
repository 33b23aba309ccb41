-- Where a block stands decides what becomes of a write.
use Rattle.std.specs.Prelude.{◌≡◌, ◌<◌, ◌≤◌, ◌⊎◌, ℕ, ◌+◌, ◌&&◌, not, nat_le, Bool, true, false, List, length, get_or, Option, Some, None, is_some, if◌then◌else◌}
use Rattle.std.proofs.Common.{refl, sym, ap, subst, ◌∙◌, inl, inr}
use Rattle.std.proofs.lemmas.Bool.{leb-true, leb-false}
use Rattle.xv_base.specs.declared.answer.Turn.TheVariants.{Wait}
use Rattle.xv_base.specs.declared.answer.Why.TheVariants.{Throttled}
use Rattle.xv_base.specs.declared.event.Event.TheVariants.{Guest}
use Rattle.xv_base.specs.declared.event.Side.{Side}
use Rattle.xv_base.specs.declared.event.Side.TheVariants.{Ahead, Inside, Behind, Dirty, Waiting, Clean}
use Rattle.xv_base.specs.declared.unit.GuestId.{GuestId}
use Rattle.xv_base.specs.Units.{is_page, disk_of, block_of}
use Rattle.xv_model.specs.Job.{Job, UnitOp, IsLegal}
use Rattle.xv_model.specs.View.{View, no_disk, block_side, is_behind, is_inside, is_running}
use Rattle.xv_model.specs.Wait.{Why, Alone, Store, Mirror, unless, wait, next_operation, next_aim, is_mirror}
use Rattle.xv_model.specs.Effect.{Turn}
use Rattle.xv_model.specs.Step.{is_flagged}
use Rattle.xv_source.specs.Half.{Source, with_limits, with_source}
use Rattle.xv_source.specs.Step.{Allows, StepsSource}
use Rattle.xv_source.specs.Operations.{acted, mirrored, HasActed}
use Rattle.xv_source.proofs.Steps.{steps-waits}
use Rattle.xv_source.proofs.Acting.{aim_at, aim_of_write, aim-running, acts-running, guest-wait, guest-acted, leaves-mirror}

-- what a side says of the two tests
abbrev pub IsNeither : Side → Type 0
IsNeither s = (s ≡ Ahead) ⊎ ((s ≡ Dirty) ⊎ ((s ≡ Waiting) ⊎ (s ≡ Clean)))

behind-by : (x y : Bool) → Behind ≡ (if x then Behind else (if y then Inside else Ahead)) → x ≡ true
behind-by true y is = refl
behind-by false true is = absurd (cc)
behind-by false false is = absurd (cc)

neither-by : (x y : Bool) (s : Side) → s ≡ (if x then Behind else (if y then Inside else Ahead)) → IsNeither s → (x ≡ false) × (y ≡ false)
neither-by false false s is other = (refl, refl)
neither-by false true s is (inl same) = absurd (cc)
neither-by false true s is (inr (inl same)) = absurd (cc)
neither-by false true s is (inr (inr (inl same))) = absurd (cc)
neither-by false true s is (inr (inr (inr same))) = absurd (cc)
neither-by true y s is (inl same) = absurd (cc)
neither-by true y s is (inr (inl same)) = absurd (cc)
neither-by true y s is (inr (inr (inl same))) = absurd (cc)
neither-by true y s is (inr (inr (inr same))) = absurd (cc)

-- the aims by the tests
mirror-by : (writes page behind inside : Bool) → writes ≡ true → page ≡ false → behind ≡ true → aim_of_write writes page behind inside ≡ Mirror
mirror-by true false true inside e f g = refl
mirror-by false page behind inside e f g = absurd (cc)
mirror-by true true behind inside e f g = absurd (cc)
mirror-by true false false inside e f g = absurd (cc)

alone-by : (writes page behind inside : Bool) → page ≡ false → behind ≡ false → inside ≡ false → aim_of_write writes page behind inside ≡ Alone
alone-by false page behind inside e f g = refl
alone-by true false false false e f g = refl
alone-by true true behind inside e f g = absurd (cc)
alone-by true false true inside e f g = absurd (cc)
alone-by true false false true e f g = absurd (cc)

store-by : (writes page behind inside : Bool) → writes ≡ true → page ≡ true → aim_of_write writes page behind inside ≡ Store
store-by true true behind inside e f = refl
store-by false page behind inside e f = absurd (cc)
store-by true false behind inside e f = absurd (cc)

-- a read, a store, a write behind, and a write ahead
pub aim-read : (h : Source) (op : UnitOp) → is_some op.write ≡ false → aim_at h op ≡ Alone
aim-read h op reads =
    ap (λ (b : Bool). aim_of_write b (is_page h.shape op.unit.0) (is_behind (get_or h.disks (disk_of h.shape op.unit.0) no_disk) (block_of h.shape op.unit.0))
    (is_inside (get_or h.disks (disk_of h.shape op.unit.0) no_disk) (block_of h.shape op.unit.0))) reads

pub aim-store : (h : Source) (op : UnitOp) → is_some op.write ≡ true → is_page h.shape op.unit.0 ≡ true → aim_at h op ≡ Store
aim-store h op writes page = store-by (is_some op.write) (is_page h.shape op.unit.0) _ _ writes page

aim-mirror : (h : Source) (op : UnitOp) → is_some op.write ≡ true → is_page h.shape op.unit.0 ≡ false → Behind ≡ block_side (get_or h.disks (disk_of h.shape op.unit.0) no_disk) (block_of h.shape op.unit.0) → aim_at h op ≡ Mirror
aim-mirror h op writes block is = mirror-by (is_some op.write) (is_page h.shape op.unit.0) _ _ writes block (behind-by _ _ is)

pub aim-ahead : (h : Source) (op : UnitOp) (s : Side) → is_page h.shape op.unit.0 ≡ false → s ≡ block_side (get_or h.disks (disk_of h.shape op.unit.0) no_disk) (block_of h.shape op.unit.0) → IsNeither s → aim_at h op ≡ Alone
aim-ahead h op s block is other =
    let n = neither-by (is_behind (get_or h.disks (disk_of h.shape op.unit.0) no_disk) (block_of h.shape op.unit.0)) (is_inside (get_or h.disks (disk_of h.shape op.unit.0) no_disk) (block_of h.shape op.unit.0)) s is other in
    alone-by (is_some op.write) (is_page h.shape op.unit.0) _ _ block n.0 n.1

-- a write behind, by whether there is room for its message
guest-throttled : (job : Job) (v : View) (g : GuestId) (old : Source) → Allows job v (Guest g) old → next_aim (with_limits job old) (with_source v old) g.0 ≡ Mirror → nat_le old.config.outbox (length old.messages) ≡ true →
    StepsSource job v (Guest g) (Wait Throttled) old old
guest-throttled job v g old allows is full =
    steps-waits job v (Guest g) Throttled old allows.of (guest-wait job v g old Mirror false allows is ∙ ap (λ (b : Bool). unless b Throttled None) full)

by-room : (full : Bool) (job : Job) (v : View) (g : GuestId) (t : Turn) (old new : Source) (op : UnitOp) (pattern : List ℕ) → nat_le old.config.outbox (length old.messages) ≡ full → Allows job v (Guest g) old → is_running v.phase ≡ true →
    next_operation job v g.0 ≡ op → IsLegal old.shape op → op.write ≡ Some pattern → is_page old.shape op.unit.0 ≡ false → aim_at old op ≡ Mirror →
    (old.config.outbox ≤ length old.messages → (t ≡ Wait Throttled) × (new ≡ old)) →
    (length old.messages < old.config.outbox → (t ≡ acted op (is_flagged t)) × HasActed op (is_flagged t) old (if is_flagged t then old else mirrored op (length v.history + 1) old) new) →
    StepsSource job v (Guest g) t old new
by-room true job v g t old new op pattern full allows running next legal writes block is throttled done =
    let w = throttled (leb-true old.config.outbox (length old.messages) full) in
    subst (λ (x : Turn). StepsSource job v (Guest g) x old new) (sym w.0)
    (subst (λ (n : Source). StepsSource job v (Guest g) (Wait Throttled) old n) (sym w.1) (guest-throttled job v g old allows (aim-running job v g op old next running ∙ is) full))
by-room false job v g t old new op pattern full allows running next legal writes block is throttled done =
    let d = done (leb-false old.config.outbox (length old.messages) full) in
    guest-acted (is_flagged t) job v g t old (mirrored op (length v.history + 1) old) new op Mirror
    (acts-running job v g op Mirror old allows running next legal is refl full)
    (leaves-mirror job v g op pattern old legal d.1.layout (d.1.sized (ap (λ (w : Option (List ℕ)). is_some w) writes)) writes block) d.1 d.0

pub guest-mirrored : (job : Job) (v : View) (g : GuestId) (t : Turn) (old new : Source) (op : UnitOp) (pattern : List ℕ) (n : ℕ) → Allows job v (Guest g) old → is_running v.phase ≡ true → next_operation job v g.0 ≡ op → length v.history ≡ n →
    IsLegal old.shape op → op.write ≡ Some pattern → is_page old.shape op.unit.0 ≡ false → Behind ≡ block_side (get_or old.disks (disk_of old.shape op.unit.0) no_disk) (block_of old.shape op.unit.0) →
    (old.config.outbox ≤ length old.messages → (t ≡ Wait Throttled) × (new ≡ old)) →
    (length old.messages < old.config.outbox → (t ≡ acted op (is_flagged t)) × HasActed op (is_flagged t) old (if is_flagged t then old else mirrored op (n + 1) old) new) →
    StepsSource job v (Guest g) t old new
guest-mirrored job v g t old new op pattern n allows running next is_length legal writes block is throttled done =
    by-room (nat_le old.config.outbox (length old.messages)) job v g t old new op pattern refl allows running next legal writes block
    (aim-mirror old op (ap (λ (w : Option (List ℕ)). is_some w) writes) block is) throttled
    (λ room. subst (λ (k : ℕ). (t ≡ acted op (is_flagged t)) × HasActed op (is_flagged t) old (if is_flagged t then old else mirrored op (k + 1) old) new) (sym is_length) (done room))

-- what waits for room
room-tests : (writes page behind inside full : Bool) → (writes && (not page && (behind && full))) ≡ (is_mirror (aim_of_write writes page behind inside) && full)
room-tests false page behind inside full = refl
room-tests true true behind inside full = refl
room-tests true false true inside full = refl
room-tests true false false true full = refl
room-tests true false false false full = refl

pub guest-waits : (job : Job) (v : View) (g : GuestId) (old : Source) (op : UnitOp) (b : Bool) (why : Option Why) → Allows job v (Guest g) old → is_running v.phase ≡ true → next_operation job v g.0 ≡ op →
    b ≡ (is_some op.write && (not (is_page old.shape op.unit.0) && (is_behind (get_or old.disks (disk_of old.shape op.unit.0) no_disk) (block_of old.shape op.unit.0) && nat_le old.config.outbox (length old.messages)))) →
    why ≡ unless b Throttled None → why ≡ wait job v (Guest g) false
guest-waits job v g old op b why allows running next is waits =
    waits
    ∙ ap (λ (x : Bool). unless x Throttled None) (is ∙ room-tests (is_some op.write) (is_page old.shape op.unit.0) (is_behind (get_or old.disks (disk_of old.shape op.unit.0) no_disk) (block_of old.shape op.unit.0))
    (is_inside (get_or old.disks (disk_of old.shape op.unit.0) no_disk) (block_of old.shape op.unit.0)) (nat_le old.config.outbox (length old.messages)))
    ∙ sym (guest-wait job v g old (aim_at old op) false allows (aim-running job v g op old next running))
