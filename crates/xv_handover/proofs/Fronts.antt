-- A proper front of a text that is read to its end is refused, since a line is missing.
use Rattle.std.proofs.Common.{◌≡◌, ◌==◌, ℕ, ◌+◌, Bool, true, false, List, [], ◌∷◌, ◌++◌, length, map, Option, Some, None, refl, sym, ap, ◌∙◌, arith, inl, inr}
use Rattle.std.specs.Prelude.{if◌then◌else◌}
use Rattle.std.specs.List.{list_any}
use Rattle.std.proofs.lemmas.Bool.{cases_Bool}
use Rattle.std.proofs.lemmas.List.{length-map, map-append}
use Rattle.xv_base.specs.declared.text.LineFault.{LineFault}
use Rattle.xv_base.specs.declared.text.LineWhy.{LineWhy}
use Rattle.xv_base.specs.declared.text.LineWhy.TheVariants.{Order, Unended}
use Rattle.xv_text.specs.Lines.{before_first, whole_lines, has_rest, fields, lines_of}
use Rattle.xv_text.specs.Reading.{Reader, first_fault, at_line, at_line_or}
use Rattle.xv_text.proofs.Apart.{some_line}

-- the whole lines of a front are the first ones of the text, and behind them stands a line or a rest
pub record IsCutIn (front text : List ℕ) : Type 0 where
  pub more : List (List ℕ)
  pub lines : whole_lines text ≡ whole_lines front ++ more
  pub some : more ≡ [] → has_rest text ≡ true

before-append : (b : ℕ) (xs ys zs : List (List ℕ)) → zs ≡ xs ++ ys → (more : List (List ℕ)) × (before_first b zs ≡ before_first b xs ++ more) × (more ≡ [] → ys ≡ [])
before-append b [] ys zs is = (before_first b ys, ap (before_first b) is, no-item ys)
  where
    no-item : (items : List (List ℕ)) → before_first b items ≡ [] → items ≡ []
    no-item [] none = refl
    no-item (item ∷ items) none = absurd (cc)
before-append b (x ∷ xs) ys zs is = (ys, ap (before_first b) is, λ none. none)

rest-stays : (b : ℕ) (text : List ℕ) → has_rest text ≡ true → has_rest (b ∷ text) ≡ true
rest-stays b text there = elim (cases_Bool (list_any (λ x. x == 10) (b ∷ text))) [
  | inl feed ↦ rw feed there
  | inr none ↦ rw none refl
]

all-rest : (b : ℕ) (text : List ℕ) → whole_lines (b ∷ text) ≡ [] → has_rest (b ∷ text) ≡ true
all-rest b text none = elim (cases_Bool (list_any (λ x. x == 10) (b ∷ text))) [
  | inl feed ↦ absurd (omega (arith, some_line (b ∷ text) feed, ap length none))
  | inr lacks ↦ rw lacks refl
]

pub cut-in : (front : List ℕ) (b : ℕ) (rest : List ℕ) → IsCutIn front (front ++ b ∷ rest)
cut-in [] b rest = record { more = whole_lines (b ∷ rest); lines = refl; some = all-rest b rest }
cut-in (a ∷ front) b rest =
    let behind = cut-in front b rest in
    elim (cases_Bool (a == 10)) [
      | inl feed ↦ record {
        more = behind.more;
        lines = rw feed (ap (λ (ls : List (List ℕ)). [] ∷ ls) behind.lines);
        some = λ none. rest-stays a (front ++ b ∷ rest) (behind.some none);
      }
      | inr other ↦
          let (more, lines, none_behind) = before-append a (whole_lines front) behind.more (whole_lines (front ++ b ∷ rest)) behind.lines in
          record {
            more = more;
            lines = rw other lines;
            some = λ none. rest-stays a (front ++ b ∷ rest) (behind.some (none_behind none));
          }
    ]

-- lines that are read without a fault to the end, and that of a front of them
end-cut : (ended : Bool) (n : ℕ) (rest : Bool) → (if ended then (if rest then Some (at_line n Order) else None) else Some (at_line n Unended)) ≡ None → rest ≡ true → ⊥
end-cut true n true is there = absurd (cc)
end-cut true n false is there = absurd (cc)
end-cut false n rest is there = absurd (cc)

pub missing : {S : Type 0} (r : Reader S) (s : S) (n : ℕ) (more : List (List (List ℕ))) (rest left : Bool) → (more ≡ [] → rest ≡ true) → first_fault r true s n more rest ≡ None → first_fault r true s n [] left ≡ Some (at_line n Unended)
missing r s n [] rest left some none = absurd (end-cut (r.is_ended s) n rest none (some refl))
missing r s n (l ∷ more) rest left some none = elim (cases_Bool (r.is_ended s)) [
  | inl ended ↦ let fault : Some (at_line n Order) ≡ None = rw ended at none in absurd (cc)
  | inr going ↦ rw going refl
]

later_none : (n : ℕ) (why : Option LineWhy) (later : Option LineFault) → at_line_or n why later ≡ None → (why ≡ None) × (later ≡ None)
later_none n None later h = (refl, h)
later_none n (Some why) later h = absurd (cc)

pub lines-cut : {S : Type 0} (r : Reader S) (s : S) (n m : ℕ) (lines more : List (List (List ℕ))) (rest left : Bool) → (more ≡ [] → rest ≡ true) → first_fault r true s n (lines ++ more) rest ≡ None → m ≡ n + length lines → first_fault r true s n lines left ≡ Some (at_line m Unended)
lines-cut r s n m [] more rest left some none at =
    let same : n ≡ m = omega (arith, at) in
    missing r s n more rest left some none ∙ ap (λ (k : ℕ). Some (at_line k Unended)) same
lines-cut r s n m (l ∷ lines) more rest left some none at = elim (cases_Bool (r.is_ended s)) [
  | inl ended ↦ let fault : Some (at_line n Order) ≡ None = rw ended at none in absurd (cc)
  | inr going ↦
      let parts = later_none n (r.fault s l) (first_fault r true (r.next s l) (n + 1) (lines ++ more) rest) (rw going at none) in
      rw (going, parts.0) (lines-cut r (r.next s l) (n + 1) m lines more rest left some parts.1 (omega (arith, at)))
]

-- so is a text cut anywhere
pub lines-of-cut : (front text : List ℕ) (cut : IsCutIn front text) → lines_of text ≡ lines_of front ++ map fields cut.more
lines-of-cut front text cut = ap (map fields) cut.lines ∙ map-append fields (whole_lines front) cut.more

no-fields : (lines : List (List ℕ)) → map fields lines ≡ [] → lines ≡ []
no-fields [] is = refl
no-fields (l ∷ lines) is = absurd (cc)

pub some-of-cut : (front text : List ℕ) (cut : IsCutIn front text) → map fields cut.more ≡ [] → has_rest text ≡ true
some-of-cut front text cut none = cut.some (no-fields cut.more none)

pub count-of-cut : (front : List ℕ) → length (lines_of front) ≡ length (whole_lines front)
count-of-cut front = length-map (whole_lines front) fields

pub text-cut : {S : Type 0} (r : Reader S) (s : S) (n m : ℕ) (front text : List ℕ) → IsCutIn front text → first_fault r true s n (lines_of text) (has_rest text) ≡ None → m ≡ n + length (whole_lines front) → first_fault r true s n (lines_of front) (has_rest front) ≡ Some (at_line m Unended)
text-cut r s n m front text cut none at =
    let whole : first_fault r true s n (lines_of front ++ map fields cut.more) (has_rest text) ≡ None =
    ap (λ (ls : List (List (List ℕ))). first_fault r true s n ls (has_rest text)) (sym (lines-of-cut front text cut)) ∙ none in
    lines-cut r s n m (lines_of front) (map fields cut.more) (has_rest text) (has_rest front) (some-of-cut front text cut) whole (omega (arith, at, count-of-cut front))
