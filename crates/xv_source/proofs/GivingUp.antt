-- Every region is given up, in the fields and as the machine has it.
use Rattle.std.specs.Prelude.{◌≡◌, ◌<◌, ℕ, suc, List, [], ◌∷◌, length, map, get_or}
use Rattle.std.proofs.Common.{refl, sym, ap, ap₂, subst, ◌∙◌, arith}
use Rattle.xv_model.specs.Job.{Job}
use Rattle.xv_model.specs.View.{View, Disk, Phase, Waiting}
use Rattle.xv_model.specs.Effect.{without_region, given_up}
use Rattle.xv_model.specs.Contents.{Contents, give_up_moves}
use Rattle.xv_region.specs.Copying.{Copying}
use Rattle.xv_source.specs.declared.disk.DiskCopy.{DiskCopy}
use Rattle.xv_source.specs.Half.{Source, IsSourceOf, HasSourceBytes}
use Rattle.xv_source.specs.Kept.{numbers_of, no_copy}
use Rattle.xv_source.specs.Regions.{IsGivenUp}
use Rattle.xv_source.proofs.OneDisk.{blocks_of}
use Rattle.xv_source.proofs.Steps.{along}

abbrev AreGivenUp : List DiskCopy → List DiskCopy → Type 0
AreGivenUp old new = (d : ℕ) → d < length old → IsGivenUp (get_or old d no_copy) (get_or new d no_copy)

one-gone : (old new : DiskCopy) → IsGivenUp old new → numbers_of new ≡ without_region (numbers_of old)
one-gone old new gone =
    ap (λ (r : Copying). numbers_of (record new { region = r })) gone.region ∙ ap (λ (ws : List Waiting). record (without_region (numbers_of old)) { queue = ws }) gone.queue

pub numbers-gone : (old new : List DiskCopy) → length new ≡ length old → AreGivenUp old new → map numbers_of new ≡ map without_region (map numbers_of old)
numbers-gone [] [] same gone = refl
numbers-gone [] (y ∷ new) same gone = absurd (omega arith)
numbers-gone (x ∷ old) [] same gone = absurd (omega arith)
numbers-gone (x ∷ old) (y ∷ new) same gone =
    ap₂ (λ (k : Disk) (ks : List Disk). k ∷ ks) (one-gone x y (gone 0 (omega arith))) (numbers-gone old new (omega arith) (λ d lt. gone (suc d) (omega arith)))

pub blocks-gone : (old new : List DiskCopy) → length new ≡ length old → AreGivenUp old new → map blocks_of new ≡ map (λ (bs : List (List ℕ)). []) (map blocks_of old)
blocks-gone [] [] same gone = refl
blocks-gone [] (y ∷ new) same gone = absurd (omega arith)
blocks-gone (x ∷ old) [] same gone = absurd (omega arith)
blocks-gone (x ∷ old) (y ∷ new) same gone =
    ap₂ (λ (b : List (List ℕ)) (bs : List (List (List ℕ))). b ∷ bs) (ap (λ (r : Copying). r.read) (gone 0 (omega arith)).region) (blocks-gone old new (omega arith) (λ d lt. gone (suc d) (omega arith)))

-- the half without its regions
abbrev pub without_regions : Source → Source
without_regions h = record h { disks = map without_region h.disks; regions = map (λ (bs : List (List ℕ)). []) h.regions }

pub all-gone : (was old : Source) (copies slice new after : List DiskCopy) → was ≡ old → was.disks ≡ map numbers_of copies → was.regions ≡ map blocks_of copies → slice ≡ copies → length new ≡ length slice → AreGivenUp slice new → after ≡ new →
    record was { disks = map numbers_of after; regions = map blocks_of after } ≡ without_regions old
all-gone was old copies slice new after same disks regions is long gone held =
    ap (λ (cs : List DiskCopy). record was { disks = map numbers_of cs; regions = map blocks_of cs }) held ∙
    ap (λ (ds : List Disk). record was { disks = ds; regions = map blocks_of new }) (numbers-gone slice new long gone ∙ ap (λ (cs : List DiskCopy). map without_region (map numbers_of cs)) is ∙ ap (map without_region) (sym disks))
    ∙ ap (λ (rs : List (List (List ℕ))). record was { disks = map without_region was.disks; regions = rs })
    (blocks-gone slice new long gone ∙ ap (λ (cs : List DiskCopy). map (λ (bs : List (List ℕ)). []) (map blocks_of cs)) is ∙ ap (map (λ (bs : List (List ℕ)). [])) (sym regions))
    ∙ ap without_regions same

-- so it is the source's part of the view that is given up, and of its contents
pub part-given_up : (job : Job) (v : View) (phase : Phase) (old new : Source) → IsSourceOf job v old → new ≡ without_regions old → IsSourceOf job (given_up v phase) new
part-given_up job v phase old new of is =
    subst (λ (h : Source). IsSourceOf job (given_up v phase) h) (sym is)
    (along (λ (j : Job) (w : View). IsSourceOf j (given_up w phase) (without_regions old)) job v old of (record { limits = refl; part = refl }))

pub bytes-given_up : (c : Contents) (old new : Source) → HasSourceBytes c old → new ≡ without_regions old → HasSourceBytes (give_up_moves c) new
bytes-given_up c old new has is =
    subst (λ (h : Source). HasSourceBytes (give_up_moves c) h) (sym is)
    (subst (λ (x : Contents). HasSourceBytes (give_up_moves x) (without_regions old)) has.part (record { told = has.told; part = refl }))
