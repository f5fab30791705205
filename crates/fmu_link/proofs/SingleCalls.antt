-- Calls that go over the wire one by one.
use Rattle.std.proofs.Common.{◌≡◌, ℕ, suc, ◌+◌, ◌<◌, List, [], ◌∷◌, ◌++◌, length, take, drop, get_or, set, refl, sym, ap, ◌∙◌, subst, arith, Ok, Err}
use Rattle.std.proofs.Math.Seq.{drop-cons}
use Rattle.std.proofs.lemmas.List.{length-take, take-append-drop, take_more, take_more_set}
use Rattle.fmi_calls.specs.declared.call.Call.{Call}
use Rattle.fmi_calls.specs.declared.call.Reply.{Reply}
use Rattle.fmu_peer.specs.declared.peer.PeerFault.{PeerFault}
use Rattle.fmu_link.specs.Batches.{BreaksSingly, GoSingly}
use Rattle.fmu_link.specs.Exchange.{Exchanged, LineView}

singly_push : (old mid new : LineView) (cs : List Call) (rs : List Reply) (c : Call) (r : Reply) (name token : List ℕ) → length rs ≡ length cs → GoSingly old cs rs mid → Exchanged c name token mid new (Ok r) →
    GoSingly old (cs ++ c ∷ []) (rs ++ r ∷ []) new
singly_push old mid new [] [] c r name token len went one = (name, token, new, subst (λ (m : LineView). Exchanged c name token m new (Ok r)) went one, refl)
singly_push old mid new [] (x ∷ rs) c r name token len went one = absurd (omega (arith, len))
singly_push old mid new (d ∷ cs) [] c r name token len went one = absurd went
singly_push old mid new (d ∷ cs) (x ∷ rs) c r name token len (n, t, m, is, rest) one = (n, t, m, is, singly_push m mid new cs rs c r name token (omega (arith, len)) rest one)

module _ (old mid new : LineView) (cs : List Call) (rs : List Reply) (i : ℕ) (d : Call) (name token : List ℕ) (len : length rs ≡ length cs) (lt : i < length cs) (went : GoSingly old (take i cs) (take i rs) mid) where
  -- one more
  pub singly_more : (r : Reply) → Exchanged (get_or cs i d) name token mid new (Ok r) → GoSingly old (take (i + 1) cs) (take (i + 1) (set rs i r)) new
  singly_more r one =
      let even : length (take i rs) ≡ length (take i cs) = omega (arith, len, length-take i cs, length-take i rs) in
      subst (λ (xs : List Call). GoSingly old xs (take (i + 1) (set rs i r)) new) (sym (take_more cs i d lt))
      (subst (λ (ys : List Reply). GoSingly old (take i cs ++ get_or cs i d ∷ []) ys new) (sym (take_more_set rs i r (omega (arith, len, lt))))
      (singly_push old mid new (take i cs) (take i rs) (get_or cs i d) r name token even went one))

  -- the next gets a fault
  pub singly_breaks : (fault : PeerFault) → Exchanged (get_or cs i d) name token mid new (Err fault) → BreaksSingly cs old fault new
  singly_breaks fault one = record {
    prefix = take i cs;
    call = get_or cs i d;
    left = drop (suc i) cs;
    calls_are = sym (take-append-drop i cs) ∙ ap (λ (xs : List Call). take i cs ++ xs) (drop-cons cs i d lt);
    replies = take i rs;
    mid = mid;
    went = went;
    name = name;
    token = token;
    broke = one;
  }
