-- What an event does to the numbers of a device, as one device call: none, where its call is not of that device.
use Rattle.std.specs.Prelude.{◌≡◌, ◌≤◌, ◌<◌, ℕ, ◌+◌, ◌==◌, ◌&&◌, Bool, true, false, List, length, set, Option, Some, None, option_map, IfSome, if◌then◌else◌}
use Rattle.std.proofs.Common.{arith, refl, ap, sym, ◌∙◌, subst, inl, inr}
use Rattle.std.proofs.lemmas.Bool.{and_right, cases_eq, cases_lt, eq-eqb, ne_eqb}
use Rattle.std.proofs.lemmas.List.{get_or-set_same, get_or-set_other, set_past}
use Rattle.xv_base.specs.Calls.{is_listed}
use Rattle.xv_device.specs.Device.{DeviceCall, NoCall as NothingAsked, ReadRange, PatchRange, WriteUnit, FlushAll, Counted, write_count, writes_after, calls_after, is_planned}
use Rattle.xv_device.specs.Told.{Told}
use Rattle.xv_model.specs.Step.{SourceRead, SourceWrite, DestRead, DestWrite, DestFlush, same_call}
use Rattle.xv_model.specs.Outside.{Part, Outside, NoOutside, ReadSource, WriteSource, ReadDest, WriteDest, FlushDest, PutOn, TakeFrom, PutBack, TakeBack, kind, is_source_write, is_dest_write}
use Rattle.xv_core.specs.Seen.{OnDevice}
use Rattle.xv_core.specs.Calls.{Made, write_call, CallsSource, CallsDest}
use Rattle.xv_core.specs.Counting.{is_of_source, is_of_dest}
use Rattle.xv_core.specs.Rising.{BothTold}

abbrev pub bit : Bool → ℕ
bit b = if b then 1 else 0

-- from one told value to the one after it
pub if-some : {A : Type 0} (P Q : A → Type 0) (o : Option A) → IfSome o P → ((a : A) → P a → Q a) → IfSome o Q
if-some P Q None h f = tt
if-some P Q (Some a) h f = f a h

pub carry : {A : Type 0} (P Q : A → Type 0) (R : A → A → Type 0) (o p : Option A) → BothTold R o p → IfSome o P → ((a b : A) → R a b → P a → Q b) → IfSome p Q
carry P Q R None None r h f = tt
carry P Q R None (Some b) r h f = absurd r
carry P Q R (Some a) None r h f = absurd r
carry P Q R (Some a) (Some b) r h f = f a b r h

-- of what kind a device call is, and whether it writes to a unit
abbrev pub is_read : DeviceCall → Bool
is_read NothingAsked = false
is_read (ReadRange unit offset len) = true
is_read (PatchRange unit offset bytes) = false
is_read (WriteUnit unit bytes) = false
is_read FlushAll = false

abbrev pub is_write : DeviceCall → Bool
is_write NothingAsked = false
is_write (ReadRange unit offset len) = false
is_write (PatchRange unit offset bytes) = true
is_write (WriteUnit unit bytes) = true
is_write FlushAll = false

abbrev pub is_flush : DeviceCall → Bool
is_flush NothingAsked = false
is_flush (ReadRange unit offset len) = false
is_flush (PatchRange unit offset bytes) = false
is_flush (WriteUnit unit bytes) = false
is_flush FlushAll = true

abbrev pub is_write_of : ℕ → DeviceCall → Bool
is_write_of u NothingAsked = false
is_write_of u (ReadRange unit offset len) = false
is_write_of u (PatchRange unit offset bytes) = unit == u
is_write_of u (WriteUnit unit bytes) = unit == u
is_write_of u FlushAll = false

-- one call, of these kinds or of none, that writes to the units that the test names
pub record DeviceStep (read write flush : Bool) (on : ℕ → Bool) (failed : Bool) (before later : OnDevice) : Type 0 where
  pub asked : DeviceCall
  pub read_is : is_read asked ≡ read
  pub write_is : is_write asked ≡ write
  pub flush_is : is_flush asked ≡ flush
  pub on_is : (unit : ℕ) → is_write_of unit asked ≡ on unit
  pub made : Made asked failed before later

-- an untouched device had no call
same-contents : (o : Option (List (List ℕ))) → o ≡ option_map (λ c. c) o
same-contents None = refl
same-contents (Some c) = refl

same-counted : (o : Option Counted) → o ≡ option_map (λ c. record { plan = c.plan; calls = c.calls }) o
same-counted None = refl
same-counted (Some c) = refl

none-planned : (o : Option Counted) → IfSome o (λ c. false ≡ is_planned NothingAsked c)
none-planned None = tt
none-planned (Some c) = refl

none-made : (b : OnDevice) → Made NothingAsked false b b
none-made b = record {
  told = λ i. record { shape = b.told.shape; writes = b.told.writes; contents = same-contents b.told.contents i; counted = same-counted b.told.counted i };
  planned = none-planned b.told.counted;
  cause = omega arith;
  never_falls = omega arith;
}

and-true : (b : Bool) → b ≡ (b && true)
and-true true = refl
and-true false = refl

stays : (failed : Bool) (b l : OnDevice) → l ≡ b → DeviceStep false false false (λ u. false) (failed && false) b l
stays failed b l e = record {
  asked = NothingAsked;
  read_is = refl;
  write_is = refl;
  flush_is = refl;
  on_is = λ u. refl;
  made = subst (λ (x : OnDevice). Made NothingAsked (failed && false) b x) (sym e) (subst (λ (f : Bool). Made NothingAsked f b b) (sym (and_right failed false refl)) (none-made b));
}

calls : (asked : DeviceCall) (failed : Bool) (b l : OnDevice) → Made asked failed b l → DeviceStep (is_read asked) (is_write asked) (is_flush asked) (λ u. is_write_of u asked) (failed && true) b l
calls asked failed b l h = record {
  asked = asked;
  read_is = refl;
  write_is = refl;
  flush_is = refl;
  on_is = λ u. refl;
  made = subst (λ (f : Bool). Made asked f b l) (and-true failed) h;
}

writes-part : (patches : Bool) (p : Part) (bytes : List ℕ) (failed : Bool) (b l : OnDevice) → Made (write_call patches p bytes) failed b l → DeviceStep false true false (λ u. p.unit == u) (failed && true) b l
writes-part true p bytes failed b l h = calls (PatchRange p.unit p.offset bytes) failed b l h
writes-part false p bytes failed b l h = calls (WriteUnit p.unit bytes) failed b l h

pub source-step : (o : Outside) (failed : Bool) (b l : OnDevice) → CallsSource o failed b l → DeviceStep (same_call SourceRead (kind o)) (same_call SourceWrite (kind o)) false (λ u. is_source_write u o) (failed && is_of_source (kind o)) b l
source-step NoOutside failed b l h = stays failed b l h
source-step (ReadSource p) failed b l h = calls (ReadRange p.unit p.offset p.len) failed b l h
source-step (WriteSource p) failed b l h = writes-part h.patches p h.bytes failed b l h.made
source-step (ReadDest p) failed b l h = stays failed b l h
source-step (WriteDest p) failed b l h = stays failed b l h
source-step FlushDest failed b l h = stays failed b l h
source-step (PutOn s) failed b l h = stays failed b l h
source-step (TakeFrom s) failed b l h = stays failed b l h
source-step PutBack failed b l h = stays failed b l h
source-step TakeBack failed b l h = stays failed b l h

pub dest-step : (o : Outside) (failed : Bool) (b l : OnDevice) → CallsDest o failed b l → DeviceStep (same_call DestRead (kind o)) (same_call DestWrite (kind o)) (same_call DestFlush (kind o)) (λ u. is_dest_write u o) (failed && is_of_dest (kind o)) b l
dest-step NoOutside failed b l h = stays failed b l h
dest-step (ReadSource p) failed b l h = stays failed b l h
dest-step (WriteSource p) failed b l h = stays failed b l h
dest-step (ReadDest p) failed b l h = calls (ReadRange p.unit p.offset p.len) failed b l h
dest-step (WriteDest p) failed b l h = writes-part h.patches p h.bytes failed b l h.made
dest-step FlushDest failed b l h = calls FlushAll failed b l h
dest-step (PutOn s) failed b l h = stays failed b l h
dest-step (TakeFrom s) failed b l h = stays failed b l h
dest-step PutBack failed b l h = stays failed b l h
dest-step TakeBack failed b l h = stays failed b l h

-- the numbers of calls after it
pub record Added (read write flush : Bool) (before later : Counted) : Type 0 where
  pub plan : later.plan ≡ before.plan
  pub reads : later.calls.reads ≡ before.calls.reads + bit read
  pub writes : later.calls.writes ≡ before.calls.writes + bit write
  pub flushes : later.calls.flushes ≡ before.calls.flushes + bit flush

call-adds : (asked : DeviceCall) (c : Counted) → Added (is_read asked) (is_write asked) (is_flush asked) c (record { plan = c.plan; calls = calls_after asked c.calls })
call-adds NothingAsked c = record { plan = refl; reads = omega arith; writes = omega arith; flushes = omega arith }
call-adds (ReadRange unit offset len) c = record { plan = refl; reads = omega arith; writes = omega arith; flushes = omega arith }
call-adds (PatchRange unit offset bytes) c = record { plan = refl; reads = omega arith; writes = omega arith; flushes = omega arith }
call-adds (WriteUnit unit bytes) c = record { plan = refl; reads = omega arith; writes = omega arith; flushes = omega arith }
call-adds FlushAll c = record { plan = refl; reads = omega arith; writes = omega arith; flushes = omega arith }

told-adds : (asked : DeviceCall) (o : Option Counted) → BothTold (Added (is_read asked) (is_write asked) (is_flush asked)) o (option_map (λ c. record { plan = c.plan; calls = calls_after asked c.calls }) o)
told-adds asked None = tt
told-adds asked (Some c) = call-adds asked c

module _ (r w f : Bool) (on : ℕ → Bool) (failed : Bool) (b l : OnDevice) (h : DeviceStep r w f on failed b l) where
  pub step-adds : BothTold (Added r w f) b.told.counted l.told.counted
  step-adds =
      let counted : l.told.counted ≡ option_map (λ c. record { plan = c.plan; calls = calls_after h.asked c.calls }) b.told.counted = ap (λ (t : Told). t.counted) h.made.told in
      subst (λ (o : Option Counted). BothTold (Added r w f) b.told.counted o) (sym counted)
      (subst (λ (k : Bool). BothTold (Added r w k) b.told.counted (option_map (λ c. record { plan = c.plan; calls = calls_after h.asked c.calls }) b.told.counted)) h.flush_is
      (subst (λ (k : Bool). BothTold (Added r k (is_flush h.asked)) b.told.counted (option_map (λ c. record { plan = c.plan; calls = calls_after h.asked c.calls }) b.told.counted)) h.write_is
      (subst (λ (k : Bool). BothTold (Added k (is_write h.asked) (is_flush h.asked)) b.told.counted (option_map (λ c. record { plan = c.plan; calls = calls_after h.asked c.calls }) b.told.counted)) h.read_is
      (told-adds h.asked b.told.counted))))

  -- the writes of a unit after it, as many as the list has room for
  pub step-writes-most : (u : ℕ) → write_count l.told.writes u ≤ write_count b.told.writes u + (if failed then 0 else bit (on u))
  step-writes-most u =
      let writes : l.told.writes ≡ (if failed then b.told.writes else writes_after h.asked b.told.writes) = ap (λ (t : Told). t.writes) h.made.told in
      subst (λ (ws : List ℕ). write_count ws u ≤ write_count b.told.writes u + (if failed then 0 else bit (on u))) (sym writes)
      (subst (λ (k : Bool). write_count (if failed then b.told.writes else writes_after h.asked b.told.writes) u ≤ write_count b.told.writes u + (if failed then 0 else bit k)) (h.on_is u)
      (writes-most failed h.asked b.told.writes u))
    where
      set-most : (ws : List ℕ) (at u : ℕ) → write_count (set ws at (write_count ws at + 1)) u ≤ write_count ws u + bit (at == u)
      set-most ws at u = elim (cases_eq at u) [
        | inl e ↦ subst (λ (k : ℕ). write_count (set ws k (write_count ws k + 1)) u ≤ write_count ws u + bit (k == u)) (sym e) (elim (cases_lt u (length ws)) [
          | inl there ↦ omega (arith, get_or-set_same ws u (write_count ws u + 1) 0 there, ap bit (eq-eqb u u refl))
          | inr past ↦ omega (arith, ap (λ (xs : List ℕ). write_count xs u) (set_past ws u (write_count ws u + 1) past))
        ])
        | inr other ↦ omega (arith, get_or-set_other ws at u (write_count ws at + 1) 0 (λ e. other (sym e)))
      ]

      writes-most : (failed : Bool) (asked : DeviceCall) (ws : List ℕ) (u : ℕ) → write_count (if failed then ws else writes_after asked ws) u ≤ write_count ws u + (if failed then 0 else bit (is_write_of u asked))
      writes-most true asked ws u = omega arith
      writes-most false NothingAsked ws u = omega arith
      writes-most false (ReadRange unit offset len) ws u = omega arith
      writes-most false (PatchRange unit offset bytes) ws u = set-most ws unit u
      writes-most false (WriteUnit unit bytes) ws u = set-most ws unit u
      writes-most false FlushAll ws u = omega arith

  -- and exactly so many where each unit that is written has a number
  pub step-writes : (u : ℕ) → (on u ≡ true → u < length b.told.writes) → write_count l.told.writes u ≡ write_count b.told.writes u + (if failed then 0 else bit (on u))
  step-writes u there =
      let writes : l.told.writes ≡ (if failed then b.told.writes else writes_after h.asked b.told.writes) = ap (λ (t : Told). t.writes) h.made.told in
      subst (λ (ws : List ℕ). write_count ws u ≡ write_count b.told.writes u + (if failed then 0 else bit (on u))) (sym writes)
      (subst (λ (k : Bool). write_count (if failed then b.told.writes else writes_after h.asked b.told.writes) u ≡ write_count b.told.writes u + (if failed then 0 else bit k)) (h.on_is u)
      (writes-are failed h.asked b.told.writes u (λ e. there (sym (h.on_is u) ∙ e))))
    where
      none-more : (n : ℕ) → n ≡ n + 0
      none-more n = omega arith

      set-is : (ws : List ℕ) (at u : ℕ) → ((at == u) ≡ true → u < length ws) → write_count (set ws at (write_count ws at + 1)) u ≡ write_count ws u + bit (at == u)
      set-is ws at u there = elim (cases_eq at u) [
        | inl e ↦
            let same : (at == u) ≡ true = eq-eqb at u e in
            let now : write_count (set ws at (write_count ws at + 1)) u ≡ write_count ws u + 1 =
            subst (λ (k : ℕ). write_count (set ws k (write_count ws k + 1)) u ≡ write_count ws u + 1) (sym e) (get_or-set_same ws u (write_count ws u + 1) 0 (there same)) in
            now ∙ ap (λ (k : Bool). write_count ws u + bit k) (sym same)
        | inr other ↦ get_or-set_other ws at u (write_count ws at + 1) 0 (λ e. other (sym e)) ∙ none-more (write_count ws u) ∙ ap (λ (k : Bool). write_count ws u + bit k) (sym (ne_eqb at u other))
      ]

      writes-are : (failed : Bool) (asked : DeviceCall) (ws : List ℕ) (u : ℕ) → (is_write_of u asked ≡ true → u < length ws) → write_count (if failed then ws else writes_after asked ws) u ≡ write_count ws u + (if failed then 0 else bit (is_write_of u asked))
      writes-are true asked ws u there = none-more (write_count ws u)
      writes-are false NothingAsked ws u there = none-more (write_count ws u)
      writes-are false (ReadRange unit offset len) ws u there = none-more (write_count ws u)
      writes-are false (PatchRange unit offset bytes) ws u there = set-is ws unit u there
      writes-are false (WriteUnit unit bytes) ws u there = set-is ws unit u there
      writes-are false FlushAll ws u there = none-more (write_count ws u)

  -- a call of a kind fails by that kind's plan
  pub step-read-planned : r ≡ true → IfSome b.told.counted (λ c. failed ≡ is_listed c.plan.reads (c.calls.reads + 1))
  step-read-planned is = if-some (λ c. failed ≡ is_planned h.asked c) (λ c. failed ≡ is_listed c.plan.reads (c.calls.reads + 1)) b.told.counted h.made.planned (λ c e. e ∙ by-reads h.asked c (h.read_is ∙ is))
    where
      by-reads : (asked : DeviceCall) (c : Counted) → is_read asked ≡ true → is_planned asked c ≡ is_listed c.plan.reads (c.calls.reads + 1)
      by-reads (ReadRange unit offset len) c e = refl
      by-reads asked c e = absurd (cc)

  pub step-write-planned : w ≡ true → IfSome b.told.counted (λ c. failed ≡ is_listed c.plan.writes (c.calls.writes + 1))
  step-write-planned is = if-some (λ c. failed ≡ is_planned h.asked c) (λ c. failed ≡ is_listed c.plan.writes (c.calls.writes + 1)) b.told.counted h.made.planned (λ c e. e ∙ by-writes h.asked c (h.write_is ∙ is))
    where
      by-writes : (asked : DeviceCall) (c : Counted) → is_write asked ≡ true → is_planned asked c ≡ is_listed c.plan.writes (c.calls.writes + 1)
      by-writes (PatchRange unit offset bytes) c e = refl
      by-writes (WriteUnit unit bytes) c e = refl
      by-writes asked c e = absurd (cc)

  pub step-flush-planned : f ≡ true → IfSome b.told.counted (λ c. failed ≡ is_listed c.plan.flushes (c.calls.flushes + 1))
  step-flush-planned is = if-some (λ c. failed ≡ is_planned h.asked c) (λ c. failed ≡ is_listed c.plan.flushes (c.calls.flushes + 1)) b.told.counted h.made.planned (λ c e. e ∙ by-flushes h.asked c (h.flush_is ∙ is))
    where
      by-flushes : (asked : DeviceCall) (c : Counted) → is_flush asked ≡ true → is_planned asked c ≡ is_listed c.plan.flushes (c.calls.flushes + 1)
      by-flushes FlushAll c e = refl
      by-flushes asked c e = absurd (cc)
