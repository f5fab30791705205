-- The first answer of a run that isn't good.
use Rattle.std.proofs.Common.{◌≡◌, ◌⊎◌, inl, inr, List, [], ◌∷◌, ◌++◌, refl, sym, ap, ◌∙◌, subst, arith}
use Rattle.std.specs.Prelude.{All, MatchResult, Result, Ok, Err}
use Rattle.std.proofs.lemmas.List.Elements.{All-head, All-tail}
use Rattle.std.proofs.lemmas.Grind.{common_steps}
use Rattle.value_types.specs.declared.shape.Shape.{Shape}
use Rattle.fmi_calls.specs.Kinds.{bad_status_of}
use Rattle.fmi_calls.specs.Worth.{grade_of}
use Rattle.fmi_calls.specs.declared.call.BadStatus.{BadStatus}
use Rattle.fmi_calls.specs.declared.call.Call.{Call}
use Rattle.fmi_calls.specs.declared.call.Grade.{Grade}
use Rattle.fmi_calls.specs.declared.call.Grade.TheVariants as G
use Rattle.fmi_calls.specs.declared.call.Reply.{Reply}
use Rattle.fmu_peer.specs.declared.ended.Why.{Why}
use Rattle.fmu_peer.specs.declared.ended.Why.TheVariants.{Refused, Misreply, Link}
use Rattle.fmu_peer.specs.declared.peer.Exchange.{Exchange}
use Rattle.fmu_peer.specs.declared.peer.PeerFault.{PeerFault}
use Rattle.fmu_peer.specs.Answer.{IsWhy, IsFirstBad}
use Rattle.fmu_peer.specs.Talk as T
use Rattle.slot_calls.specs.SavedStates.{IsOfClosing, IsParted, Talk}

good_at : (shape : Shape) (e : Exchange) (call : Call) (reply : Reply) → e.call ≡ call → e.result ≡ Ok reply → T.IsGood shape e → grade_of shape call reply ≡ G.Good
good_at shape e call reply c r good =
    subst (λ (k : Call). grade_of shape k reply ≡ G.Good) c
    (subst (λ (x : Result Reply PeerFault). MatchResult x (λ reply. grade_of shape e.call reply ≡ G.Good) (λ fault. ⊥)) r good)

refused_good : (g : Grade) → g ≡ G.Refused → g ≡ G.Good → ⊥
refused_good g a b = grind (arith, common_steps)

misreply_good : (g : Grade) → g ≡ G.Misreply → g ≡ G.Good → ⊥
misreply_good g a b = grind (arith, common_steps)

-- the exchange that is why isn't good
why_bad : (shape : Shape) (why : Why) (e : Exchange) → IsWhy shape why e → T.IsGood shape e → ⊥
why_bad shape (Refused call status) e w good = refused_good (grade_of shape call w.0) w.4 (good_at shape e call w.0 w.1 w.2 good)
why_bad shape (Misreply call reply) e w good = misreply_good (grade_of shape call reply) w.2 (good_at shape e call reply w.0 w.1 good)
why_bad shape (Link call fault) e w good =
    subst (λ (x : Result Reply PeerFault). MatchResult x (λ reply. grade_of shape e.call reply ≡ G.Good) (λ fault. ⊥)) w.1 good

-- ---- the first answer that isn't good decides

-- an element of a whole stands in its first part or in its second
tails : {X : Type 0} (y z : X) (xs ys : List X) → y ∷ xs ≡ z ∷ ys → xs ≡ ys
tails y z xs ys e = cc

heads : {X : Type 0} (y z : X) (xs ys : List X) → y ∷ xs ≡ z ∷ ys → y ≡ z
heads y z xs ys e = cc

abbrev Parted : {X : Type 0} → List X → List X → List X → List X → X → Type 0
Parted {X = X} a b c d x = ((rest : List X) × (a ≡ c ++ x ∷ rest)) ⊎ ((more : List X) × (c ≡ a ++ more) × (b ≡ more ++ x ∷ d))

parted_under : {X : Type 0} (y z : X) (a b c d : List X) (x : X) → y ≡ z → Parted a b c d x → Parted (y ∷ a) b (z ∷ c) d x
parted_under y z a b c d x e (inl h) = inl (h.0, ap (λ xs. y ∷ xs) h.1 ∙ ap (λ w. w ∷ (c ++ x ∷ h.0)) e)
parted_under y z a b c d x e (inr h) = inr (h.0, ap (λ xs. z ∷ xs) h.1 ∙ ap (λ w. w ∷ (a ++ h.0)) (sym e), h.2)

parted : {X : Type 0} (a b c d : List X) (x : X) → a ++ b ≡ c ++ x ∷ d → Parted a b c d x
parted [] b c d x e = inr (c, refl, e)
parted (y ∷ a) b [] d x e = inl (a, ap (λ w. w ∷ a) (heads y x (a ++ b) d e))
parted (y ∷ a) b (z ∷ c) d x e = parted_under y z a b c d x (heads y z (a ++ b) (c ++ x ∷ d) e) (parted a b c d x (tails y z (a ++ b) (c ++ x ∷ d) e))

-- what holds of each holds of one in the middle
at_middle : {X : Type 0} (P : X → Type 0) (a : List X) (x : X) (b : List X) → All P (a ++ x ∷ b) → P x
at_middle P [] x b h = All-head P x b h
at_middle P (y ∷ a) x b h = at_middle P a x b (All-tail P y (a ++ x ∷ b) h)

-- an exchange of a talk that is none of the closing's stands in the run
pub in_run : (talks : List Talk) (shape : Shape) (run closing talk prefix rest : List Exchange) (last : Exchange) → talk ≡ run ++ closing → IsParted talks shape run closing → talk ≡ prefix ++ last ∷ rest → (IsOfClosing talks shape prefix last.call rest → ⊥) →
    (after : List Exchange) × (run ≡ prefix ++ last ∷ after)
in_run talks shape run closing talk prefix rest last parts apart is of_run = choose (parted run closing prefix rest last (sym parts ∙ is))
  where
    choose : ((after : List Exchange) × (run ≡ prefix ++ last ∷ after)) ⊎ ((more : List Exchange) × (prefix ≡ run ++ more) × (closing ≡ more ++ last ∷ rest)) →
        (after : List Exchange) × (run ≡ prefix ++ last ∷ after)
    choose (inl h) = h
    choose (inr h) = absurd (of_run (subst (λ (es : List Exchange). IsOfClosing talks shape es last.call rest) (sym h.1) (apart.of_closing h.0 rest last h.2)))

-- a run of good answers has none that isn't
pub no_bad : {A : Type 0} (shape : Shape) (run : List Exchange) (why : Why) (prefix rest : List Exchange) (last : Exchange) → T.AllGood shape run → run ≡ prefix ++ last ∷ rest → IsWhy shape why last → A
no_bad shape run why prefix rest last good is bad =
    absurd (why_bad shape why last bad (at_middle (T.IsGood shape) prefix last rest (subst (T.AllGood shape) is good)))

-- an exchange is one why alone
abbrev SameResult : Result Reply PeerFault → Result Reply PeerFault → Type 0
SameResult a b = a ≡ b

ok_same : (x y : Reply) → SameResult (Ok x) (Ok y) → x ≡ y
ok_same x y e = cc

err_same : (x y : PeerFault) → SameResult (Err x) (Err y) → x ≡ y
err_same x y e = cc

ok_err : (x : Reply) (f : PeerFault) → SameResult (Ok x) (Err f) → ⊥
ok_err x f e = cc

grades_apart : (g : Grade) → g ≡ G.Refused → g ≡ G.Misreply → ⊥
grades_apart g p q = grind (arith, common_steps)

same_refusal : (c d : Call) (s t : BadStatus) (x y : Reply) → c ≡ d → x ≡ y → s ≡ bad_status_of x → t ≡ bad_status_of y → Refused c s ≡ Refused d t
same_refusal c d s t x y call reply p q =
    ap (λ (k : Call). Refused k s) call ∙ ap (λ (b : BadStatus). Refused d b) (p ∙ ap bad_status_of reply ∙ sym q)

one_why : (shape : Shape) (w u : Why) (e : Exchange) → IsWhy shape w e → IsWhy shape u e → w ≡ u
one_why shape (Refused c s) (Refused d t) e a b = same_refusal c d s t a.0 b.0 (sym a.1 ∙ b.1) (ok_same a.0 b.0 (sym a.2 ∙ b.2)) a.3 b.3
one_why shape (Refused c s) (Misreply d r) e a b =
    let call : c ≡ d = sym a.1 ∙ b.0 in
    let reply : a.0 ≡ r = ok_same a.0 r (sym a.2 ∙ b.1) in
    absurd (grades_apart (grade_of shape d r) (subst (λ (x : Reply). grade_of shape d x ≡ G.Refused) reply (subst (λ (k : Call). grade_of shape k a.0 ≡ G.Refused) call a.4)) b.2)
one_why shape (Refused c s) (Link d f) e a b = absurd (ok_err a.0 f (sym a.2 ∙ b.1))
one_why shape (Misreply c r) (Refused d t) e a b =
    let call : d ≡ c = sym b.1 ∙ a.0 in
    let reply : b.0 ≡ r = ok_same b.0 r (sym b.2 ∙ a.1) in
    absurd (grades_apart (grade_of shape c r) (subst (λ (x : Reply). grade_of shape c x ≡ G.Refused) reply (subst (λ (k : Call). grade_of shape k b.0 ≡ G.Refused) call b.4)) a.2)
one_why shape (Misreply c r) (Misreply d s) e a b =
    ap (λ (k : Call). Misreply k r) (sym a.0 ∙ b.0) ∙ ap (λ (x : Reply). Misreply d x) (ok_same r s (sym a.1 ∙ b.1))
one_why shape (Misreply c r) (Link d f) e a b = absurd (ok_err r f (sym a.1 ∙ b.1))
one_why shape (Link c f) (Refused d t) e a b = absurd (ok_err b.0 f (sym b.2 ∙ a.1))
one_why shape (Link c f) (Misreply d r) e a b = absurd (ok_err r f (sym b.1 ∙ a.1))
one_why shape (Link c f) (Link d h) e a b =
    ap (λ (k : Call). Link k f) (sym a.0 ∙ b.0) ∙ ap (λ (x : PeerFault). Link d x) (err_same f h (sym a.1 ∙ b.1))

-- two first answers that aren't good are one
pub one_bad : (shape : Shape) (run prefix rest : List Exchange) (last : Exchange) (w u : Why) → IsFirstBad shape w run → run ≡ prefix ++ last ∷ rest → T.AllGood shape prefix → IsWhy shape u last → w ≡ u
one_bad shape run prefix rest last w u b is good bad = choose (parted b.prefix (b.last ∷ []) prefix rest last (sym b.is ∙ is))
  where
    last_of : (more : List Exchange) (b : Exchange) → b ∷ [] ≡ more ++ last ∷ rest → b ≡ last
    last_of [] b e = cc
    last_of (x ∷ []) b e = absurd (cc)
    last_of (x ∷ (y ∷ more)) b e = absurd (cc)

    choose : ((after : List Exchange) × (b.prefix ≡ prefix ++ last ∷ after)) ⊎ ((more : List Exchange) × (prefix ≡ b.prefix ++ more) × (b.last ∷ [] ≡ more ++ last ∷ rest)) → w ≡ u
    choose (inl h) = no_bad shape b.prefix u prefix h.0 last b.good h.1 bad
    choose (inr h) = one_why shape w u last (subst (IsWhy shape w) (last_of h.0 b.last h.2) b.bad) bad
