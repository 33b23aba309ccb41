-- A page that is sent off, in the fields.
use Rattle.std.specs.Prelude.{◌≡◌, ◌<◌, ℕ, ◌+◌, ◌-◌, Bool, false, List, [], ◌∷◌, ◌++◌, set, IfSome, if◌then◌else◌}
use Rattle.std.proofs.Common.{sym, ap, subst, ◌∙◌}
use Rattle.std.proofs.lemmas.Bool.{lt-ltb}
use Rattle.std.proofs.lemmas.List.{map-append}
use Rattle.xv_base.specs.Units.{Shape, size, block_size_at}
use Rattle.xv_device.specs.Device.{range_of}
use Rattle.xv_device.specs.Told.{Told}
use Rattle.xv_model.specs.View.{UnitHead, number}
use Rattle.xv_outbox.specs.Messages.{Outbox, Message, made, heads, contents}
use Rattle.xv_source.specs.Half.{Source}
use Rattle.xv_source.specs.Rounds.{with_page, SendsPage}

-- a page has the size of all pages
pub size_page : (s : Shape) (page : ℕ) → page < s.pages → size s page ≡ s.page_size
size_page s page lt = ap (λ (b : Bool). if b then s.page_size else block_size_at s.disks (page - s.pages)) (lt-ltb page s.pages lt)

module _ (was old : Source) (box new : Outbox) (to_send : List Bool) (page at : ℕ) (content : List ℕ) (told : Told) (faults : ℕ) where
  abbrev pub sent : Source
  sent = record was { to_send = to_send; messages = heads new.messages; contents = contents new.messages; issued = new.issued; told = told; faults = faults }

  page-sent : was ≡ old → was.messages ≡ heads box.messages → was.contents ≡ contents box.messages → was.issued ≡ box.issued → to_send ≡ set was.to_send page false → new ≡ made box page at content →
      sent ≡ with_page (record old { told = told; faults = faults }) page at content
  page-sent same messages their issued left is =
      let gone = set was.to_send page false in
      ap (λ (ts : List Bool). record sent { to_send = ts }) left ∙
      ap (λ (o : Outbox). record was { to_send = gone; messages = heads o.messages; contents = contents o.messages; issued = o.issued; told = told; faults = faults }) is
      ∙ ap (λ (ms : List UnitHead). record was { to_send = gone; messages = ms; contents = contents (made box page at content).messages; issued = set box.issued page (number box.issued page + 1); told = told; faults = faults })
      (map-append (λ (m : Message). m.head) box.messages _ ∙ ap (λ (ms : List UnitHead). ms ++ record { unit = record { 0 = page }; version = number box.issued page + 1; at = at } ∷ []) (sym messages))
      ∙ ap (λ (cs : List (List ℕ)). record was {
        to_send = gone;
        messages = was.messages ++ record { unit = record { 0 = page }; version = number box.issued page + 1; at = at } ∷ [];
        contents = cs;
        issued = set box.issued page (number box.issued page + 1);
        told = told;
        faults = faults;
      })
      (map-append (λ (m : Message). m.content) box.messages _ ∙ ap (λ (cs : List (List ℕ)). cs ++ content ∷ []) (sym their))
      ∙ ap (λ (ns : List ℕ). with_page (record was { to_send = was.to_send; issued = ns; told = told; faults = faults }) page at content) (sym issued)
      ∙ ap (λ (h : Source). with_page (record h { told = told; faults = faults }) page at content) same

  pub sends-page : was ≡ old → was.messages ≡ heads box.messages → was.contents ≡ contents box.messages → was.issued ≡ box.issued → to_send ≡ set was.to_send page false → new ≡ made box page at content →
      (n : ℕ) → n ≡ was.shape.page_size → page < old.shape.pages → IfSome was.told.contents (λ cs. content ≡ range_of page 0 n cs) → SendsPage old page at sent
  sends-page same messages their issued left is n count page_in gives = record {
    content = content;
    part = page-sent same messages their issued left is;
    gives =
        subst (λ (k : ℕ). IfSome old.told.contents (λ cs. content ≡ range_of page 0 k cs)) (count ∙ ap (λ (o : Source). o.shape.page_size) same ∙ sym (size_page old.shape page page_in))
        (subst (λ (o : Source). IfSome o.told.contents (λ cs. content ≡ range_of page 0 n cs)) same gives);
  }
