-- What the rounds of pages do to the half, where they go on.
use Rattle.std.specs.Prelude.{◌≡◌, ℕ, ◌+◌, List, [], ◌∷◌, ◌++◌, false, set, IfSome}
use Rattle.xv_base.specs.Units.{size}
use Rattle.xv_device.specs.Device.{range_of}
use Rattle.xv_model.specs.View.{number}
use Rattle.xv_model.specs.Effect.{no_pages}
use Rattle.xv_source.specs.Half.{Source}

-- all dirty pages are to be sent, and none is dirty
abbrev pub with_dirty_taken : Source → Source
with_dirty_taken h = record h { dirty = no_pages h.dirty; to_send = h.dirty }

-- a page has left those that are to be sent, and its next message is made
abbrev pub with_page : Source → ℕ → ℕ → List ℕ → Source
with_page h page at content = record h {
  to_send = set h.to_send page false;
  messages = h.messages ++ record { unit = record { 0 = page }; version = number h.issued page + 1; at = at } ∷ [];
  contents = h.contents ++ content ∷ [];
  issued = set h.issued page (number h.issued page + 1);
}

-- with its content, where the device tells it
pub record SendsPage (old : Source) (page at : ℕ) (new : Source) : Type 0 where
  pub content : List ℕ
  pub part : new ≡ with_page (record old { told = new.told; faults = new.faults }) page at content
  pub gives : IfSome old.told.contents (λ contents. content ≡ range_of page 0 (size old.shape page) contents)
