-- Where the FMUs stand after an asking.
use Rattle.std.proofs.Common.{◌≡◌, ◌≢◌, ℕ, suc, ◌+◌, ◌-◌, ◌<◌, ◌≤◌, ◌==◌, Bool, true, false, not, List, [], ◌∷◌, ◌++◌, Some, Result, Ok, Err, refl, sym, ap, ap₂, ◌∙◌, subst, arith, get_or, map}
use Rattle.std.specs.Prelude.{MatchResult, ◌&&◌, if◌then◌else◌}
use Rattle.std.specs.List.{slice_get}
use Rattle.std.specs.Option.{option_map}
use Rattle.std.proofs.lemmas.Bool.Decides.{nat_tests}
use Rattle.std.proofs.lemmas.List.Elements.{All-head, All-tail}
use Rattle.std.proofs.lemmas.Option.{slice_get-map, get_or_from_slice_get}
use Rattle.value_types.specs.declared.shape.Shape.{Shape}
use Rattle.fmi_calls.specs.declared.call.BadStatus.{BadStatus}
use Rattle.fmi_calls.specs.declared.call.Call.{Call}
use Rattle.fmi_calls.specs.declared.call.Call.TheVariants as C
use Rattle.fmi_calls.specs.declared.call.Content.TheVariants as A
use Rattle.fmi_calls.specs.declared.call.Grade.TheVariants as G
use Rattle.fmi_calls.specs.declared.call.Kind.{Kind}
use Rattle.fmi_calls.specs.declared.call.Kind.TheVariants as K
use Rattle.fmi_calls.specs.declared.call.Reply.{Reply}
use Rattle.fmi_calls.specs.declared.call.Reply.TheVariants as R
use Rattle.fmi_calls.specs.Next.{end_of}
use Rattle.fmi_calls.specs.Worth.{grade_of}
use Rattle.fmu_peer.specs.declared.peer.Exchange.{Exchange}
use Rattle.fmu_peer.specs.declared.peer.PeerFault.{PeerFault}
use Rattle.fmu_peer.specs.Talk.{IsGood}
use Rattle.slot_calls.specs.Log.{Sent, part}
use Rattle.slot_calls.proofs.CallerLemmas.{part_append}
use Rattle.step_agreement.specs.Agreement.{Asks, Stand, end_by, is_away, moved, shapes_in, stand_by, stands_by, stands_from}
use Rattle.step_agreement.specs.Ends.{AreEnds, EndsAs, EndsSo, Fmu}
use Rattle.step_agreement.proofs.Lists.{Each}
use Rattle.step_agreement.proofs.Rounds.{OneIf, part_of}

-- ---- one good step

refused_step : (shape : Shape) (at size : ℕ) (kind : Kind) (status : BadStatus) → grade_of shape (C.DoStep at size) (R.Refused kind status) ≡ G.Good → ⊥
refused_step shape at size K.DoStep status h = absurd (cc)
refused_step shape at size kind status h = absurd (cc)

-- it ends after its beginning, at its bound at most, and before it only where the FMU might return early
pub record IsEnd (shape : Shape) (at size end : ℕ) : Type 0 where
  pub later : at < end
  pub within : end ≤ at + size
  pub whole : shape.might_return_early ≡ false → end ≡ at + size

reply_end : (shape : Shape) (at size : ℕ) (reply : Reply) → grade_of shape (C.DoStep at size) reply ≡ G.Good → IsEnd shape at size (end_of reply at)
reply_end shape at size (R.Done w (A.DoStep event_needed terminate flag end)) good = record {
  later = grind (arith, nat_tests);
  within = grind (arith, nat_tests);
  whole = λ early. grind (arith, nat_tests);
}
reply_end shape at size (R.Done w content) good = absurd (cc)
reply_end shape at size (R.Refused kind status) good = absurd (refused_step shape at size kind status good)

pub good_end : (shape : Shape) (at size : ℕ) (e : Exchange) → IsGood shape e → e.call ≡ C.DoStep at size → IsEnd shape at size (end_by at e.result)
good_end shape at size e good is = by e.result (subst (λ (c : Call). MatchResult e.result (λ reply. grade_of shape c reply ≡ G.Good) (λ fault. ⊥)) is good) where
  by : (r : Result Reply PeerFault) → MatchResult r (λ reply. grade_of shape (C.DoStep at size) reply ≡ G.Good) (λ fault. ⊥) → IsEnd shape at size (end_by at r)
  by (Ok reply) h = reply_end shape at size reply h
  by (Err fault) h = absurd h

-- ---- what one has of an asking

-- nothing, a step from where it stands, or a step after a Restore
pub data Own (t e : ℕ) (b : Bool) (s : Stand) (es : List Exchange) : Type 0 where
  Skips : b ≡ false → es ≡ [] → Own t e b s es
  FromHere : b ≡ true → s.point ≡ t → (x : Exchange) → es ≡ x ∷ [] → x.call ≡ C.DoStep t (e - t) → IsGood s.shape x → Own t e b s es
  FromAway : b ≡ true → s.point ≢ t → (y x : Exchange) → es ≡ y ∷ x ∷ [] → y.call ≡ C.Restore → IsGood s.shape y → x.call ≡ C.DoStep t (e - t) → IsGood s.shape x → Own t e b s es

equal : (a b : ℕ) → (a == b) ≡ true → a ≡ b
equal a b q = grind (arith, nat_tests)

unequal : (a b : ℕ) → (a == b) ≡ false → a ≢ b
unequal a b q = grind (arith, nat_tests)

pub same_number : (a b : ℕ) → a ≡ b → (a == b) ≡ true
same_number a b h = grind (arith)

pub other_number : (a b : ℕ) → a ≢ b → (a == b) ≡ false
other_number a b h = grind (arith)

shape_at : (stands : List Stand) (i : ℕ) (s : Stand) (d : Shape) → slice_get stands i ≡ Some s → get_or (shapes_in stands) i d ≡ s.shape
shape_at stands i s d at =
    get_or_from_slice_get (shapes_in stands) i s.shape d (slice_get-map (λ (x : Stand). x.shape) stands i ∙ ap (option_map (λ (x : Stand). x.shape)) at)

module _ (t step : ℕ) (sized test : Stand → Bool) (e : ℕ) (stands : List Stand) (log : List Sent) (asks : Asks t step sized test e stands log) (i : ℕ) (s : Stand) (at : slice_get stands i ≡ Some s) where
  good_here : (x : Exchange) → ((d : Shape) → IsGood (get_or (shapes_in stands) i d) x) → IsGood s.shape x
  good_here x h = subst (λ (z : Shape). IsGood z x) (shape_at stands i s s.shape at) (h s.shape)

  own_by : (b here : Bool) → test s ≡ b → (s.point == t) ≡ here → OneIf (shapes_in stands) i C.Restore (b && not here) (part i asks.backs) → OneIf (shapes_in stands) i (C.DoStep t (e - t)) b (part i asks.steps) →
      Own t e (test s) s (part i asks.backs ++ part i asks.steps)
  own_by false here q p back steps = Skips q (ap₂ (λ (a b : List Exchange). a ++ b) back steps)
  own_by true true q p back steps =
      FromHere q (equal s.point t p) steps.exchange (ap₂ (λ (a b : List Exchange). a ++ b) back steps.is) steps.call_is (good_here steps.exchange steps.good)
  own_by true false q p back steps =
      FromAway q (unequal s.point t p) back.exchange steps.exchange (ap₂ (λ (a b : List Exchange). a ++ b) back.is steps.is) back.call_is (good_here back.exchange back.good) steps.call_is (good_here steps.exchange steps.good)

  pub own : Own t e (test s) s (part i log)
  own =
      let backs = part_of (is_away t test) C.Restore (shapes_in stands) stands asks.backs asks.back i s at in
      let steps = part_of test (C.DoStep t (e - t)) (shapes_in stands) stands asks.steps asks.stepped i s at in
      subst (λ (es : List Exchange). Own t e (test s) s es) (sym (ap (part i) asks.log_is ∙ part_append i asks.backs asks.steps))
      (own_by (test s) (s.point == t) refl refl
      (subst (λ (b : Bool). OneIf (shapes_in stands) i C.Restore b (part i asks.backs)) refl backs) steps)

-- where one that was asked stands is its end
pub own_is_end : (t e : ℕ) (b : Bool) (s : Stand) (es : List Exchange) → Own t e b s es → b ≡ true → IsEnd s.shape t (e - t) (stand_by t s es).point
own_is_end t e b s es (Skips un is) h = absurd (cc)
own_is_end t e b s es (FromHere asked home x is call good) h =
    subst (IsEnd s.shape t (e - t)) (sym (ap (λ (xs : List Exchange). (stand_by t s xs).point) is ∙ ap (λ (c : Call). (moved t s c x.result).point) call)) (good_end s.shape t (e - t) x good call)
own_is_end t e b s es (FromAway asked away y x is back y_good call good) h =
    subst (IsEnd s.shape t (e - t)) (sym (ap (λ (xs : List Exchange). (stand_by t s xs).point) is ∙ ap (λ (c : Call). (moved t (moved t s y.call y.result) c x.result).point) call)) (good_end s.shape t (e - t) x good call)

-- ---- where it stands then

-- after an asking for e
abbrev pub asked_stand : ℕ → Bool → ℕ → Stand → Stand
asked_stand e b end s = record { shape = s.shape; point = if b then end else s.point; ask = if b then e else s.ask }

module _ (t e : ℕ) (later : t < e) (f : Fmu) (b : Bool) (s : Stand) where
  sized : t + (e - t) ≡ e
  sized = omega (arith, later)

  step_end : (x : Exchange) → x.call ≡ C.DoStep t (e - t) → ((size : ℕ) → x.call ≡ C.DoStep t size → end_by t x.result ≡ f.end (t + size)) → end_by t x.result ≡ f.end e
  step_end x is h = h (e - t) is ∙ ap f.end sized

  stepped_stand : (s : Stand) (x : Exchange) → x.call ≡ C.DoStep t (e - t) → end_by t x.result ≡ f.end e → moved t s x.call x.result ≡ record { shape = s.shape; point = f.end e; ask = e }
  stepped_stand s x is end =
      ap (λ (c : Call). moved t s c x.result) is
      ∙ ap₂ (λ (p q : ℕ). record { shape = s.shape; point = p; ask = q }) end sized

  pub own_stand : (es : List Exchange) → Own t e b s es → EndsAs t f es → stand_by t s es ≡ asked_stand e b (f.end e) s
  own_stand es (Skips un is) ends = ap (stand_by t s) is ∙ ap (λ (c : Bool). asked_stand e c (f.end e) s) (sym un)
  own_stand es (FromHere asked here x is call good) ends =
      let own_end = All-head (EndsSo t f) x [] (subst (EndsAs t f) is ends) in
      ap (stand_by t s) is ∙ stepped_stand s x call (step_end x call own_end) ∙ ap (λ (c : Bool). asked_stand e c (f.end e) s) (sym asked)
  own_stand es (FromAway asked away y x is back y_good call good) ends =
      let own_end = All-head (EndsSo t f) x [] (All-tail (EndsSo t f) y (x ∷ []) (subst (EndsAs t f) is ends)) in
      ap (stand_by t s) is
      ∙ ap (λ (z : Stand). moved t z x.call x.result) (ap (λ (c : Call). moved t s c y.result) back)
      ∙ stepped_stand (record s { point = t }) x call (step_end x call own_end) ∙ ap (λ (c : Bool). asked_stand e c (f.end e) s) (sym asked)

  -- the end of one that was asked
  pub own_end : (es : List Exchange) → Own t e b s es → EndsAs t f es → b ≡ true → IsEnd s.shape t (e - t) (f.end e)
  own_end es (Skips un is) ends h = absurd (cc)
  own_end es (FromHere asked here x is call good) ends h =
      let own = All-head (EndsSo t f) x [] (subst (EndsAs t f) is ends) in
      subst (λ (n : ℕ). IsEnd s.shape t (e - t) n) (step_end x call own) (good_end s.shape t (e - t) x good call)
  own_end es (FromAway asked away y x is back y_good call good) ends h =
      let own = All-head (EndsSo t f) x [] (All-tail (EndsSo t f) y (x ∷ []) (subst (EndsAs t f) is ends)) in
      subst (λ (n : ℕ). IsEnd s.shape t (e - t) n) (step_end x call own) (good_end s.shape t (e - t) x good call)

-- ---- where all stand

pub stands_map : (t k : ℕ) (log : List Sent) (fs : List Fmu) (s h : Fmu → Stand) → ((i : ℕ) (f : Fmu) → slice_get fs i ≡ Some f → stand_by t (s f) (part (k + i) log) ≡ h f) →
    stands_from t k (map s fs) log ≡ map h fs
stands_map t k log [] s h is = refl
stands_map t k log (f ∷ fs) s h is =
    let place : k + 0 ≡ k = omega arith in
    ap₂ ◌∷◌ (ap (λ (n : ℕ). stand_by t (s f) (part n log)) (sym place) ∙ is 0 f refl)
    (stands_map t (suc k) log fs s h (λ i g at. let here : suc k + i ≡ k + suc i = omega arith in ap (λ (n : ℕ). stand_by t (s g) (part n log)) here ∙ is (suc i) g at))

module _ (t step : ℕ) (sized test : Stand → Bool) (e : ℕ) (fmus : List Fmu) (s : Fmu → Stand) (log : List Sent) (asks : Asks t step sized test e (map s fmus) log) (ends : AreEnds t fmus log) (later : t < e) where
  stand_at : (i : ℕ) (f : Fmu) → slice_get fmus i ≡ Some f → slice_get (map s fmus) i ≡ Some (s f)
  stand_at i f at = slice_get-map s fmus i ∙ ap (option_map s) at

  pub all_moved : stands_by t (map s fmus) log ≡ map (λ (f : Fmu). asked_stand e (test (s f)) (f.end e) (s f)) fmus
  all_moved = stands_map t 0 log fmus s (λ (f : Fmu). asked_stand e (test (s f)) (f.end e) (s f)) (λ i f at.
      let place : 0 + i ≡ i = omega arith in
      ap (λ (n : ℕ). stand_by t (s f) (part n log)) place
      ∙ own_stand t e later f (test (s f)) (s f) (part i log) (own t step sized test e (map s fmus) log asks i (s f) (stand_at i f at)) (ends i f at))

  pub all_ends : Each (λ (f : Fmu). test (s f) ≡ true → IsEnd (s f).shape t (e - t) (f.end e)) fmus
  all_ends i f at h = own_end t e later f (test (s f)) (s f) (part i log) (own t step sized test e (map s fmus) log asks i (s f) (stand_at i f at)) (ends i f at) h
