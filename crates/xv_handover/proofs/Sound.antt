-- Every event keeps the facts, and hands over as was offered.
use Rattle.std.proofs.Common.{◌≡◌, ◌≢◌, ◌+◌, ◌<◌, ◌≤◌, ◌==◌, ◌||◌, ◌&&◌, ℕ, zero, suc, Bool, true, false, nat_lt, nat_le, List, [], ◌∷◌, ◌++◌, length, take, Option, None, Some, if◌then◌else◌, slice_get, Contains, refl, sym, ◌∙◌, subst, inl, inr, ⊎_elim, le_refl, add-one, arith}
use Rattle.std.proofs.lemmas.Bool.{false≢true, eqb-true, ltb-true, leb-true}
use Rattle.std.proofs.lemmas.List.Elements.{Contains-append_left, Contains-append_right, Contains-append_cases}
use Rattle.std.proofs.lemmas.Option.{slice_get_within, get_or_from_slice_get}
use Rattle.xv_handover.specs.declared.message.Message.{Message}
use Rattle.xv_handover.specs.declared.message.Kind.{Kind}
use Rattle.xv_handover.specs.declared.message.Kind.TheVariants.{Prepare, Ready, Commit, Abort}
use Rattle.xv_handover.specs.declared.kept.KeptA.{KeptA}
use Rattle.xv_handover.specs.declared.kept.KeptB.{KeptB}
use Rattle.xv_handover.specs.declared.kept.Stage.{Stage}
use Rattle.xv_handover.specs.declared.kept.Stage.TheVariants.{Idle, Prepared, Owner}
use Rattle.xv_handover.specs.declared.world.WorldEvent.{WorldEvent}
use Rattle.xv_handover.specs.declared.world.WorldEvent.TheVariants.{WriteA, WriteB, Image, Offer, Withdraw, ResendA, ResendB, RestartA, RestartB, Pass}
use Rattle.xv_handover.specs.Tables.{message, is_of, most, write_a, offer_a, withdraw_a, resend_a, receive_a, image_b, write_b, resend_b, prepares, ends, prepare_b, commit_b, abort_b}
use Rattle.xv_handover.specs.World.{Both, first_world, side_a, posted, by_a, by_b, to_node, delivered, step, world_after}
use Rattle.xv_handover.specs.Safe.{IsMet, IsBound, IsTrueOf, IsSound, HandsOver, AlwaysHandsOver}

-- the facts hold after, and a handover is as was offered
pub record Goes (before after : Both) : Type 0 where
  pub sound : IsSound after.a after.offered after.b after.sent
  pub hands : HandsOver before after

abbrev pub Holds : Both → Type 0
Holds w = IsSound w.a w.offered w.b w.sent

on_test : {X : Type 0} (P : X → Type 0) (t : Bool) (x y : X) → (t ≡ true → P x) → (t ≡ false → P y) → P (if t then x else y)
on_test P true x y hit miss = hit refl
on_test P false x y hit miss = miss refl

none_true : (s t : Bool) → (s || t) ≡ false → (s ≡ false) × (t ≡ false)
none_true true t e = absurd (false≢true (sym e))
none_true false t e = (refl, e)

both_true : (s t : Bool) → (s && t) ≡ true → (s ≡ true) × (t ≡ true)
both_true true t e = (refl, e)
both_true false t e = absurd (false≢true e)

in_one : (m k : Message) → Contains (k ∷ []) m → k ≡ m
in_one m k (zero, h, e) = e
in_one m k (suc i, h, e) = absurd (omega arith)

-- another message is sent, and what it tells is so
posts : (a : KeptA) (offered : Bool) (b : KeptB) (sent : List Message) (k : Message) → IsSound a offered b sent → IsTrueOf a offered b k → IsSound a offered b (sent ++ k ∷ [])
posts a offered b sent k s true_of = record {
  safe = s.safe;
  not_both = s.not_both;
  attempt = s.attempt;
  told = λ m has. ⊎_elim (λ (old : Contains sent m). s.told m old) (λ (new : Contains (k ∷ []) m). subst (IsTrueOf a offered b) (in_one m k new) true_of) (Contains-append_cases sent (k ∷ []) m has);
  offer = λ bound. Contains-append_left sent (k ∷ []) _ (s.offer bound);
}

posts_any : (a : KeptA) (offered : Bool) (b : KeptB) (sent : List Message) (sends : Option Message) → IsSound a offered b sent → ((k : Message) → sends ≡ Some k → IsTrueOf a offered b k) → IsSound a offered b (posted sent sends)
posts_any a offered b sent None s h = s
posts_any a offered b sent (Some k) s h = posts a offered b sent k s (h k refl)

-- node A neither has offered nor has let the guest go
rests : (a a' : KeptA) (offered : Bool) (b : KeptB) (sent : List Message) → IsSound a offered b sent → a.gone ≡ false → a'.gone ≡ false → a'.attempt ≡ a.attempt → IsSound a' false b sent
rests a a' offered b sent s stays stays' same = record {
  safe = record { one_owner = λ _. s.safe.one_owner stays; met = λ gone. absurd (false≢true (sym stays' ∙ gone)); owner = λ owner. absurd (s.safe.one_owner stays owner) };
  not_both = λ offered. absurd (false≢true offered);
  attempt = let h = s.attempt in omega arith;
  told = λ m has. let t = s.told m has in record {
    attempt = let h = t.attempt in omega arith;
    commit = λ kind. absurd (false≢true (sym stays ∙ (t.commit kind).0));
    abort = λ kind bound. absurd (free bound);
    prepare = λ kind bound. absurd (free bound);
    ready = λ kind bound. absurd (free bound);
  };
  offer = λ bound. absurd (free bound);
} where
  free : IsBound a' false → ⊥
  free (inl offered) = false≢true offered
  free (inr gone) = false≢true (sym stays' ∙ gone)

-- node B changes, and stays met where node A is bound
turns : (a : KeptA) (offered : Bool) (b b' : KeptB) (sent : List Message) → IsSound a offered b sent → b'.attempt ≤ a.attempt → (IsBound a offered → IsMet a b → IsMet a b') → (b'.stage ≡ Owner → a.gone ≡ true) → IsSound a offered b' sent
turns a offered b b' sent s low met owner = record {
  safe = record { one_owner = λ stays owns. false≢true (sym stays ∙ owner owns); met = λ gone. met (inr gone) (s.safe.met gone); owner = owner };
  not_both = s.not_both;
  attempt = low;
  told = λ m has. let t = s.told m has in record { attempt = t.attempt; commit = t.commit; abort = t.abort; prepare = t.prepare; ready = λ kind bound same_attempt same_number. met bound (t.ready kind bound same_attempt same_number) };
  offer = s.offer;
}

-- node A offers in a new attempt
offers : (a : KeptA) (b : KeptB) (sent : List Message) → IsSound a false b sent → a.gone ≡ false
    → IsSound (record a { attempt = a.attempt + 1 }) true b (sent ++ message Prepare (a.attempt + 1) a.number ∷ [])
offers a b sent s stays = record {
  safe = record { one_owner = s.safe.one_owner; met = λ gone. absurd (false≢true (sym stays ∙ gone)); owner = s.safe.owner };
  not_both = λ _ gone. false≢true (sym stays ∙ gone);
  attempt = let h = s.attempt in omega arith;
  told = λ m has. ⊎_elim (λ (old : Contains sent m). earlier m old) (λ (new : Contains (offer ∷ []) m). subst (IsTrueOf a' true b) (in_one m offer new) told_by_offer) (Contains-append_cases sent (offer ∷ []) m has);
  offer = λ _. Contains-append_right sent (offer ∷ []) offer (0, omega arith, refl);
} where
  a' : KeptA
  a' = record a { attempt = a.attempt + 1 }

  offer : Message
  offer = message Prepare (a.attempt + 1) a.number

  told_by_offer : IsTrueOf a' true b offer
  told_by_offer = record { attempt = le_refl _; commit = λ kind. cc; abort = λ kind. cc; prepare = λ _ _ _. refl; ready = λ kind. cc }

  earlier : (m : Message) → Contains sent m → IsTrueOf a' true b m
  earlier m has = let t = s.told m has in let low = t.attempt in record {
    attempt = omega arith;
    commit = λ kind. absurd (false≢true (sym stays ∙ (t.commit kind).0));
    abort = λ kind bound same. omega arith;
    prepare = λ kind bound same. absurd (omega arith);
    ready = λ kind bound same. absurd (omega arith);
  }

-- node A lets the guest go, which node B waits for
lets_go : (a : KeptA) (b : KeptB) (sent : List Message) → IsSound a true b sent → IsMet a b → IsSound (record a { gone = true }) false b (sent ++ message Commit a.attempt a.number ∷ [])
lets_go a b sent s met = record {
  safe = record { one_owner = λ stays. absurd (false≢true (sym stays)); met = λ _. met'; owner = λ _. refl };
  not_both = λ offered. absurd (false≢true offered);
  attempt = s.attempt;
  told = λ m has. ⊎_elim (λ (old : Contains sent m). earlier m old) (λ (new : Contains (commit ∷ []) m). subst (IsTrueOf a' false b) (in_one m commit new) told_by_commit) (Contains-append_cases sent (commit ∷ []) m has);
  offer = λ _. Contains-append_left sent (commit ∷ []) _ (s.offer (inl refl));
} where
  a' : KeptA
  a' = record a { gone = true }

  met' : IsMet a' b
  met' = record { attempt = met.attempt; number = met.number }

  commit : Message
  commit = message Commit a.attempt a.number

  told_by_commit : IsTrueOf a' false b commit
  told_by_commit = record { attempt = le_refl _; commit = λ _. (refl, refl, refl); abort = λ kind. cc; prepare = λ kind. cc; ready = λ kind. cc }

  earlier : (m : Message) → Contains sent m → IsTrueOf a' false b m
  earlier m has = let t = s.told m has in record {
    attempt = t.attempt;
    commit = λ kind. absurd (s.not_both refl (t.commit kind).0);
    abort = λ kind _. t.abort kind (inl refl);
    prepare = λ kind _. t.prepare kind (inl refl);
    ready = λ kind _ _ _. met';
  }

-- nothing changes
stays : (w : Both) → Holds w → Goes w w
stays w s = record { sound = s; hands = λ before after. absurd (before after) }

-- node A's calls
write_goes : (w : Both) → Holds w → Goes w (by_a w (write_a (side_a w))).0
write_goes w s = on_test (λ move. Goes w (by_a w move).0) (w.offered || (w.a.gone || (w.a.number == most))) _ _ (λ _. stays w s)
    (λ free. let here = none_true w.offered _ free in let gone = none_true w.a.gone _ here.1 in record {
      sound = rw here.0 (rests w.a (record w.a { number = w.a.number + 1 }) w.offered w.b w.sent s gone.0 gone.0 refl);
      hands = λ before after. absurd (before after);
    })

offer_goes : (w : Both) → Holds w → Goes w (by_a w (offer_a (side_a w))).0
offer_goes w s = on_test (λ move. Goes w (by_a w move).0) (w.offered || (w.a.gone || (w.a.attempt == most))) _ _ (λ _. stays w s)
    (λ free. let here = none_true w.offered _ free in let gone = none_true w.a.gone _ here.1 in record {
      sound = offers w.a w.b w.sent (subst (λ (o : Bool). IsSound w.a o w.b w.sent) here.0 s) gone.0;
      hands = λ before after. absurd (before after);
    })

-- an offer does not stand any more
forgets : (w : Both) → Holds w → IsSound w.a false w.b w.sent
forgets w s = at_offer w.offered refl where
  at_offer : (offered : Bool) → w.offered ≡ offered → IsSound w.a false w.b w.sent
  at_offer true is = not_gone w.a.gone refl where
    not_gone : (gone : Bool) → w.a.gone ≡ gone → IsSound w.a false w.b w.sent
    not_gone true g = absurd (s.not_both is g)
    not_gone false g = rests w.a w.a w.offered w.b w.sent s g g refl
  at_offer false is = subst (λ (o : Bool). IsSound w.a o w.b w.sent) is s

withdraw_goes : (w : Both) → Holds w → Goes w (by_a w (withdraw_a (side_a w))).0
withdraw_goes w s = on_test (λ move. Goes w (by_a w move).0) w.offered _ _
    (λ stood. record {
      sound = posts w.a false w.b w.sent (message Abort w.a.attempt 0) (forgets w s) (abort_is_true stood);
      hands = λ before after. absurd (before after);
    })
    (λ _. stays w s) where
      abort_is_true : w.offered ≡ true → IsTrueOf w.a false w.b (message Abort w.a.attempt 0)
      abort_is_true stood = record {
        attempt = le_refl _;
        commit = λ kind. cc;
        abort = λ kind bound. ⊎_elim (λ (o : false ≡ true). absurd (false≢true o)) (λ (g : w.a.gone ≡ true). absurd (s.not_both stood g)) bound;
        prepare = λ kind. cc;
        ready = λ kind. cc;
      }

prepare_is_true : (a : KeptA) (offered : Bool) (b : KeptB) → IsTrueOf a offered b (message Prepare a.attempt a.number)
prepare_is_true a offered b = record { attempt = le_refl _; commit = λ kind. cc; abort = λ kind. cc; prepare = λ _ _ _. refl; ready = λ kind. cc }

commit_is_true : (a : KeptA) (offered : Bool) (b : KeptB) → a.gone ≡ true → IsTrueOf a offered b (message Commit a.attempt a.number)
commit_is_true a offered b gone = record { attempt = le_refl _; commit = λ _. (gone, refl, refl); abort = λ kind. cc; prepare = λ kind. cc; ready = λ kind. cc }

said : (w : Both) (k : Message) → Holds w → IsTrueOf w.a w.offered w.b k → Goes w (record w { sent = w.sent ++ k ∷ [] })
said w k s h = record { sound = posts w.a w.offered w.b w.sent k s h; hands = λ before after. absurd (before after) }

resend_a_goes : (w : Both) → Holds w → Goes w (by_a w (resend_a (side_a w))).0
resend_a_goes w s = on_test (λ move. Goes w (by_a w move).0) w.offered _ _ (λ _. said w _ s (prepare_is_true w.a w.offered w.b))
    (λ _. on_test (λ move. Goes w (by_a w move).0) w.a.gone _ _ (λ gone. said w _ s (commit_is_true w.a w.offered w.b gone)) (λ _. stays w s))

is_of_means : (m : Message) (attempt number : ℕ) → is_of m attempt number ≡ true → (m.attempt ≡ attempt) × (m.number ≡ number)
is_of_means m attempt number e = let both = both_true _ _ e in (eqb-true _ _ both.0, eqb-true _ _ both.1)

receive_a_goes : (w : Both) (m : Message) → Holds w → Contains w.sent m → m.kind ≡ Ready → Goes w (by_a w (receive_a (side_a w) m)).0
receive_a_goes w m s has kind = on_test (λ move. Goes w (by_a w move).0) (is_of m w.a.attempt w.a.number && (w.offered || w.a.gone)) _ _
    (λ fits. let both = both_true _ _ fits in let same = is_of_means m w.a.attempt w.a.number both.0 in
    on_test (λ move. Goes w (by_a w move).0) w.offered _ _
    (λ stood. record {
      sound = lets_go w.a w.b w.sent (subst (λ (o : Bool). IsSound w.a o w.b w.sent) stood s) ((s.told m has).ready kind (inl stood) same.0 same.1);
      hands = λ before after. absurd (before after);
    })
    (λ lost. said w _ s (commit_is_true w.a w.offered w.b (subst (λ (o : Bool). (o || w.a.gone) ≡ true) lost both.1))))
    (λ _. stays w s)

-- node B's calls
b_goes : (w : Both) (b' : KeptB) (sends : Option Message) → Holds w → b'.attempt ≤ w.a.attempt → (IsBound w.a w.offered → IsMet w.a w.b → IsMet w.a b') → (b'.stage ≢ Owner)
    → ((k : Message) → sends ≡ Some k → IsTrueOf w.a w.offered b' k) → Goes w (record w { b = b'; sent = posted w.sent sends })
b_goes w b' sends s low met not_owner told = record {
  sound = posts_any w.a w.offered b' w.sent sends (turns w.a w.offered w.b b' w.sent s low met (λ owner. absurd (not_owner owner))) told;
  hands = λ _ owner. absurd (not_owner owner);
}

idle_is_not_met : (a : KeptA) (b : KeptB) → b.stage ≡ Idle → IsMet a b → ⊥
idle_is_not_met a b idle met = ⊎_elim (λ (p : (b.stage ≡ Prepared) × (b.number ≡ a.number)). let q = p.0 in cc) (λ (p : (b.stage ≡ Owner) × (a.number ≤ b.number)). let q = p.0 in cc) met.number

image_goes : (w : Both) (number : ℕ) (stage : Stage) → w.b.stage ≡ stage → Holds w → Goes w (by_b w (image_b stage w.b number)).0
image_goes w number Idle is s = b_goes w (record w.b { number = number }) None s s.attempt (λ _ met. absurd (idle_is_not_met w.a w.b is met)) (λ owner. let h : w.b.stage ≡ Owner = owner in cc) (λ k none. cc)
image_goes w number Prepared is s = stays w s
image_goes w number Owner is s = stays w s

write_b_goes : (w : Both) (stage : Stage) → w.b.stage ≡ stage → Holds w → Goes w (by_b w (write_b stage w.b)).0
write_b_goes w Idle is s = stays w s
write_b_goes w Prepared is s = stays w s
write_b_goes w Owner is s = on_test (λ move. Goes w (by_b w move).0) (w.b.number == most) _ _ (λ _. stays w s)
    (λ _. record {
      sound = turns w.a w.offered w.b (record w.b { number = w.b.number + 1 }) w.sent s s.attempt
          (λ _ met. record { attempt = met.attempt; number = ⊎_elim (λ (p : (w.b.stage ≡ Prepared) × (w.b.number ≡ w.a.number)). let q = p.0 in cc) (λ (p : (w.b.stage ≡ Owner) × (w.a.number ≤ w.b.number)). let q = p.1 in inr (is, omega arith)) met.number })
          s.safe.owner;
      hands = λ before _. absurd (before is);
    })

ready_is_true : (a : KeptA) (offered : Bool) (b : KeptB) → b.stage ≡ Prepared → b.attempt ≤ a.attempt → IsTrueOf a offered b (message Ready b.attempt b.number)
ready_is_true a offered b is low = record { attempt = low; commit = λ kind. cc; abort = λ kind. cc; prepare = λ kind. cc; ready = λ _ _ same_attempt same_number. record { attempt = same_attempt; number = inl (is, same_number) } }

resend_b_goes : (w : Both) (stage : Stage) → w.b.stage ≡ stage → Holds w → Goes w (by_b w (resend_b stage w.b)).0
resend_b_goes w Idle is s = stays w s
resend_b_goes w Prepared is s = said w _ s (ready_is_true w.a w.offered w.b is s.attempt)
resend_b_goes w Owner is s = stays w s

prepares_goes : (w : Both) (m : Message) → Holds w → m.attempt ≤ w.a.attempt → (IsBound w.a w.offered → IsMet w.a w.b → ⊥) → Goes w (by_b w (Some (prepares w.b m.attempt))).0
prepares_goes w m s low unmet = b_goes w (record w.b { stage = Prepared; attempt = m.attempt }) (Some (message Ready m.attempt w.b.number)) s low (λ bound met. absurd (unmet bound met)) (λ owner. cc)
    (λ k is. subst (IsTrueOf w.a w.offered (record w.b { stage = Prepared; attempt = m.attempt })) (some_is is) (ready_is_true w.a w.offered (record w.b { stage = Prepared; attempt = m.attempt }) refl low)) where
      some_is : {x y : Message} → Some x ≡ Some y → x ≡ y
      some_is e = cc

-- a node B whose attempt is below one that was made is not met
behind : (a : KeptA) (b : KeptB) (n : ℕ) → b.attempt < n → n ≤ a.attempt → IsMet a b → ⊥
behind a b n low high met = let h = met.attempt in omega arith

ends_goes : (w : Both) (n : ℕ) → Holds w → n ≤ w.a.attempt → (IsBound w.a w.offered → IsMet w.a w.b → ⊥) → Goes w (by_b w (Some (ends w.b n))).0
ends_goes w n s low unmet = b_goes w (record w.b { stage = Idle; attempt = n }) None s low (λ bound met. absurd (unmet bound met)) (λ owner. cc) (λ k is. cc)

prepare_goes : (w : Both) (m : Message) (stage : Stage) → w.b.stage ≡ stage → Holds w → m.attempt ≤ w.a.attempt → Goes w (by_b w (Some (prepare_b stage w.b m))).0
prepare_goes w m Idle is s low = on_test (λ move. Goes w (by_b w (Some move)).0) (nat_lt w.b.attempt m.attempt && (m.number == w.b.number)) _ _
    (λ fits. prepares_goes w m s low (λ _ met. idle_is_not_met w.a w.b is met)) (λ _. stays w s)
prepare_goes w m Prepared is s low = on_test (λ move. Goes w (by_b w (Some move)).0) (nat_lt w.b.attempt m.attempt) _ _
    (λ newer. let unmet = λ (_ : IsBound w.a w.offered). behind w.a w.b m.attempt (ltb-true _ _ newer) low in
    on_test (λ move. Goes w (by_b w (Some move)).0) (m.number == w.b.number) _ _ (λ _. prepares_goes w m s low unmet) (λ _. ends_goes w w.b.attempt s s.attempt unmet))
    (λ _. on_test (λ move. Goes w (by_b w (Some move)).0) (is_of m w.b.attempt w.b.number) _ _ (λ _. said w _ s (ready_is_true w.a w.offered w.b is s.attempt)) (λ _. stays w s))
prepare_goes w m Owner is s low = stays w s

commit_goes : (w : Both) (m : Message) (stage : Stage) → w.b.stage ≡ stage → Holds w → Contains w.sent m → m.kind ≡ Commit → Goes w (by_b w (Some (commit_b stage w.b m))).0
commit_goes w m Idle is s has kind = stays w s
commit_goes w m Prepared is s has kind = on_test (λ move. Goes w (by_b w (Some move)).0) (is_of m w.b.attempt w.b.number) _ _
    (λ fits. owns (is_of_means m w.b.attempt w.b.number fits) ((s.told m has).commit kind)) (λ _. stays w s) where
      b' : KeptB
      b' = record w.b { stage = Owner }

      owns : (m.attempt ≡ w.b.attempt) × (m.number ≡ w.b.number) → (w.a.gone ≡ true) × (m.attempt ≡ w.a.attempt) × (m.number ≡ w.a.number) → Goes w (record w { b = b' })
      owns same tells =
          let attempt : w.b.attempt ≡ w.a.attempt = sym same.0 ∙ tells.1 in
          let number : w.b.number ≡ w.a.number = sym same.1 ∙ tells.2 in
          let met : IsMet w.a b' = record { attempt = attempt; number = inr (refl, omega arith) } in record {
            sound = turns w.a w.offered w.b b' w.sent s s.attempt (λ _ _. met) (λ _. tells.0);
            hands = λ _ _. record {
              number = number;
              offer = rw (attempt, number) (s.offer (inr tells.0));
              only = λ k sent prepare of_attempt. (s.told k sent).prepare prepare (inr tells.0) (of_attempt ∙ attempt) ∙ sym number;
            };
          }
commit_goes w m Owner is s has kind = stays w s

abort_goes : (w : Both) (m : Message) (stage : Stage) → w.b.stage ≡ stage → Holds w → Contains w.sent m → m.kind ≡ Abort → Goes w (by_b w (Some (abort_b stage w.b m))).0
abort_goes w m Idle is s has kind = on_test (λ move. Goes w (by_b w (Some move)).0) (nat_lt w.b.attempt m.attempt) _ _
    (λ _. ends_goes w m.attempt s (s.told m has).attempt (λ _ met. idle_is_not_met w.a w.b is met)) (λ _. stays w s)
abort_goes w m Prepared is s has kind = on_test (λ move. Goes w (by_b w (Some move)).0) (nat_le w.b.attempt m.attempt) _ _
    (λ ended. ends_goes w m.attempt s (s.told m has).attempt
    (λ bound met. let high = leb-true w.b.attempt m.attempt ended in let low = (s.told m has).attempt in let same = met.attempt in
    (s.told m has).abort kind bound (omega arith)))
    (λ _. stays w s)
abort_goes w m Owner is s has kind = stays w s

to_node_goes : (w : Both) (m : Message) (kind : Kind) → m.kind ≡ kind → Holds w → Contains w.sent m → Goes w (to_node kind w m).0
to_node_goes w m Ready is s has = receive_a_goes w m s has is
to_node_goes w m Prepare is s has = prepare_goes w m w.b.stage refl s (s.told m has).attempt
to_node_goes w m Commit is s has = commit_goes w m w.b.stage refl s has is
to_node_goes w m Abort is s has = abort_goes w m w.b.stage refl s has is

deliver_goes : (w : Both) (number : ℕ) (found : Option Message) → slice_get w.sent number ≡ found → Holds w → Goes w (delivered w found).0
deliver_goes w number None is s = stays w s
deliver_goes w number (Some m) is s = to_node_goes w m m.kind refl s (number, slice_get_within w.sent number m is, get_or_from_slice_get w.sent number m m is)

restart_goes : (w : Both) → Holds w → Goes w (record w { offered = false })
restart_goes w s = record { sound = forgets w s; hands = λ before after. absurd (before after) }

pub step_goes : (w : Both) (e : WorldEvent) → Holds w → Goes w (step w e).0
step_goes w WriteA s = write_goes w s
step_goes w WriteB s = write_b_goes w w.b.stage refl s
step_goes w (Image number) s = image_goes w number w.b.stage refl s
step_goes w Offer s = offer_goes w s
step_goes w Withdraw s = withdraw_goes w s
step_goes w ResendA s = resend_a_goes w s
step_goes w ResendB s = resend_b_goes w w.b.stage refl s
step_goes w RestartA s = restart_goes w s
step_goes w RestartB s = stays w s
step_goes w (Pass number) s = deliver_goes w number (slice_get w.sent number) refl s

pub after_holds : (w : Both) (es : List WorldEvent) → Holds w → Holds (world_after w es)
after_holds w [] s = s
after_holds w (e ∷ es) s = after_holds (step w e).0 es (step_goes w e s).sound

pub first_holds : Holds first_world
first_holds = record {
  safe = record { one_owner = λ _ owner. cc; met = λ gone. absurd (false≢true gone); owner = λ owner. cc };
  not_both = λ offered. absurd (false≢true offered);
  attempt = le_refl 0;
  told = λ m has. let h = has.1 in absurd (omega arith);
  offer = λ bound. ⊎_elim (λ (o : false ≡ true). absurd (false≢true o)) (λ (g : false ≡ true). absurd (false≢true g)) bound;
}

-- between two following fronts of the events one event lies
pub next_goes : (w : Both) (es : List WorldEvent) (n : ℕ) → n < length es → Holds w → Goes (world_after w (take n es)) (world_after w (take (suc n) es))
next_goes w [] n h s = absurd (omega arith)
next_goes w (e ∷ es) zero h s = step_goes w e s
next_goes w (e ∷ es) (suc n) h s = next_goes (step w e).0 es n (omega arith) (step_goes w e s).sound

pub always_hands_over : (es : List WorldEvent) → AlwaysHandsOver es
always_hands_over es = record { next = λ n h. rw add-one (next_goes first_world es n h first_holds).hands }
