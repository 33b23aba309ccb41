-- The work left as a sum of four numbers, and what lowers it.
use Rattle.std.proofs.Common.{◌≡◌, ◌⊎◌, ℕ, zero, suc, ◌+◌, ◌-◌, ◌*◌, ◌<◌, ◌≤◌, true, false, if◌then◌else◌, List, [], ◌∷◌, length, map, set, get_or, refl, ap, inl, inr, arith}
use Rattle.xv_base.specs.declared.unit.DiskShape.{DiskShape}
use Rattle.xv_model.specs.Job.{Job, IsGoodJob, blocks}
use Rattle.xv_model.specs.View.{View, Phase, Disk, no_disk, members, is_running, is_stunned, is_live}
use Rattle.xv_model.specs.Outstanding.{any, count_streams}
use Rattle.xv_model.specs.Effect.{without_region}
use Rattle.xv_model.specs.Work.{waiting_count, copy_left, copies_left, operation_weight, dirty_weight}
use Rattle.xv_base.specs.declared.event.Phase.TheVariants.{Running, Stunned, Switched, Cancelled, Failed}

-- the work left in a phase: in operations, copies and messages, and in so many rounds
abbrev pub work_of : Phase → ℕ → ℕ → ℕ → ℕ → ℕ
work_of p operations copies messages rounds =
    operations + (if is_running p then copies else 0) + (if is_live p then messages else 0) + (if is_running p then rounds + 2 else (if is_stunned p then 1 else 0))

abbrev pub copies_of : Job → List Disk → ℕ
copies_of job ds = copies_left (map (λ s. s.blocks) job.copy.disks) ds

abbrev pub messages_of : Job → View → ℕ
messages_of job v =
    6 * members v.to_send + dirty_weight job.format * members v.dirty + 5 * length v.outbox.messages
    + 4 * count_streams any v.streams + 3 * length v.hold.held + 2 * v.freed + length v.acks

-- in any phase, operations less
pub lower_operations : (p : Phase) (o o' c m r : ℕ) → o' + 1 ≤ o → work_of p o' c m r + 1 ≤ work_of p o c m r
lower_operations p o o' c m r h = omega arith

-- while the guest runs, the sum
pub lower_running : (p : Phase) (o o' c c' m m' r r' : ℕ) → is_running p ≡ true → o' + c' + m' + r' + 1 ≤ o + c + m + r → work_of p o' c' m' r' + 1 ≤ work_of p o c m r
lower_running Running o o' c c' m m' r r' e h = omega arith
lower_running Stunned o o' c c' m m' r r' e h = absurd (cc)
lower_running Switched o o' c c' m m' r r' e h = absurd (cc)
lower_running Cancelled o o' c c' m m' r r' e h = absurd (cc)
lower_running Failed o o' c c' m m' r r' e h = absurd (cc)

-- while messages move, what they weigh
pub lower_messages : (p : Phase) (o c m m' r : ℕ) → is_live p ≡ true → m' + 1 ≤ m → work_of p o c m' r + 1 ≤ work_of p o c m r
lower_messages Running o c m m' r e h = omega arith
lower_messages Stunned o c m m' r e h = omega arith
lower_messages Switched o c m m' r e h = absurd (cc)
lower_messages Cancelled o c m m' r e h = absurd (cc)
lower_messages Failed o c m m' r e h = absurd (cc)

-- an operation that makes a message while the guest runs
pub lower_released : (p : Phase) (o o' c m m' r : ℕ) → o' + 6 ≤ o → m' ≡ m + (if is_running p then 5 else 0) → work_of p o' c m' r + 1 ≤ work_of p o c m r
lower_released Running o o' c m m' r h e = omega arith
lower_released Stunned o o' c m m' r h e = omega arith
lower_released Switched o o' c m m' r h e = omega arith
lower_released Cancelled o o' c m m' r h e = omega arith
lower_released Failed o o' c m m' r h e = omega arith

-- the stun, and the end of the migration
pub lower_stunned : (p : Phase) (o c m m' r : ℕ) → is_running p ≡ true → m' ≤ m → work_of Stunned o c m' r + 1 ≤ work_of p o c m r
lower_stunned Running o c m m' r e h = omega arith
lower_stunned Stunned o c m m' r e h = absurd (cc)
lower_stunned Switched o c m m' r e h = absurd (cc)
lower_stunned Cancelled o c m m' r e h = absurd (cc)
lower_stunned Failed o c m m' r e h = absurd (cc)

lower_live : (p : Phase) (o c m r : ℕ) → is_live p ≡ true → o + 1 ≤ work_of p o c m r
lower_live Running o c m r e = omega arith
lower_live Stunned o c m r e = omega arith
lower_live Switched o c m r e = absurd (cc)
lower_live Cancelled o c m r e = absurd (cc)
lower_live Failed o c m r e = absurd (cc)

over : (p : Phase) (o c m r : ℕ) → is_live p ≡ false → work_of p o c m r ≡ o
over Running o c m r e = absurd (cc)
over Stunned o c m r e = absurd (cc)
over Switched o c m r e = omega arith
over Cancelled o c m r e = omega arith
over Failed o c m r e = omega arith

pub lower_over : (p p' : Phase) (o c c' m m' r : ℕ) → is_live p ≡ true → is_live p' ≡ false → work_of p' o c' m' r + 1 ≤ work_of p o c m r
lower_over p p' o c c' m m' r live ends = omega (arith, over p' o c' m' r ends, lower_live p o c m r live)

-- the weights of the two job formats
pub record Weights (operation dirty : ℕ) : Type 0 where
  pub known : ((operation ≡ 7) × (dirty ≡ 6)) ⊎ ((operation ≡ 8) × (dirty ≡ 7))

pub weights : (job : Job) → IsGoodJob job → Weights (operation_weight job.format) (dirty_weight job.format)
weights job good = elim good.formats [
  | inl one ↦ rw one.0 (record { known = inl (refl, refl) })
  | inr two ↦ rw two.0 (record { known = inr (refl, refl) })
]

-- an operation that ends, from outside a queue and from its front, and one that joins a queue
pub ended_weighs : (w d n h q : ℕ) → Weights w d → h + 1 + q ≤ n → w * (n - (h + 1)) - q + d + 1 ≤ w * (n - h) - q
ended_weighs w d n h q k l = elim k.known [
  | inl e ↦ rw (e.0, e.1) (omega arith)
  | inr e ↦ rw (e.0, e.1) (omega arith)
]

pub released_weighs : (w d n h q q' : ℕ) → Weights w d → q ≡ q' + 1 → h + 1 + q' ≤ n → w * (n - (h + 1)) - q' + 6 ≤ w * (n - h) - q
released_weighs w d n h q q' k e l = elim k.known [
  | inl f ↦ rw f.0 (omega arith)
  | inr f ↦ rw f.0 (omega arith)
]

pub joined_weighs : (w d n h q : ℕ) → Weights w d → h + (q + 1) ≤ n → w * (n - h) - (q + 1) + 1 ≤ w * (n - h) - q
joined_weighs w d n h q k l = elim k.known [
  | inl f ↦ rw f.0 (omega arith)
  | inr f ↦ rw f.0 (omega arith)
]

-- a dirty page that is sent weighs no more, and in job format 2 one less
pub dirty_weighs : (w d n : ℕ) → Weights w d → 6 * n ≤ d * n
dirty_weighs w d n k = elim k.known [
  | inl f ↦ rw f.1 (omega arith)
  | inr f ↦ rw f.1 (omega arith)
]

pub dirty_more : (w d n n' : ℕ) → Weights w d → n' ≤ n + 1 → d * n' ≤ d * n + d
dirty_more w d n n' k l = elim k.known [
  | inl f ↦ rw f.1 (omega arith)
  | inr f ↦ rw f.1 (omega arith)
]

pub dirty_limit : (w d : ℕ) → Weights w d → (6 ≤ d) × (d ≤ 7)
dirty_limit w d k = elim k.known [
  | inl f ↦ (omega (arith, f.1), omega (arith, f.1))
  | inr f ↦ (omega (arith, f.1), omega (arith, f.1))
]

-- those that wait, after one disk is put in the place of another, and after every region is given up
pub waiting_count-set : (ds : List Disk) (d : ℕ) (new : Disk) → d < length ds → waiting_count (set ds d new) + length (get_or ds d no_disk).queue ≡ waiting_count ds + length new.queue
waiting_count-set [] d new l = absurd (omega arith)
waiting_count-set (k ∷ ds) zero new l = omega arith
waiting_count-set (k ∷ ds) (suc d) new l = omega (arith, waiting_count-set ds d new (omega arith))

pub waiting_count-without : (ds : List Disk) → waiting_count (map without_region ds) ≡ waiting_count ds
waiting_count-without [] = refl
waiting_count-without (k ∷ ds) = ap (λ n. length k.queue + n) (waiting_count-without ds)

-- the work left in the copies, after one disk is put in the place of another
copies_left-set : (ss : List DiskShape) (ds : List Disk) (d : ℕ) (new : Disk) → d < length ss → length ds ≡ length ss →
    copies_left (map (λ s. s.blocks) ss) (set ds d new) + copy_left (blocks ss d) (get_or ds d no_disk) ≡ copies_left (map (λ s. s.blocks) ss) ds + copy_left (blocks ss d) new
copies_left-set [] ds d new l e = absurd (omega arith)
copies_left-set (s ∷ ss) [] d new l e = absurd (omega arith)
copies_left-set (s ∷ ss) (k ∷ ds) zero new l e = omega arith
copies_left-set (s ∷ ss) (k ∷ ds) (suc d) new l e = omega (arith, copies_left-set ss ds d new (omega arith) (omega arith))

pub copies-set : (job : Job) (ds : List Disk) (d : ℕ) (new : Disk) → d < length job.copy.disks → length ds ≡ length job.copy.disks →
    copies_of job (set ds d new) + copy_left (blocks job.copy.disks d) (get_or ds d no_disk) ≡ copies_of job ds + copy_left (blocks job.copy.disks d) new
copies-set job ds d new l e = copies_left-set job.copy.disks ds d new l e
