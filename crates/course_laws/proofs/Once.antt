-- Calls of one component one after the other, of which none stands twice where it isn't needed.
use Rattle.std.proofs.Common.{◌≡◌, ℕ, ◌<◌, ◌≤◌, Bool, true, false, List, [], ◌∷◌, ◌++◌, refl, sym, ap, ◌∙◌, subst, append_assoc, append-nil, arith}
use Rattle.std.specs.Prelude.{All, IfSome, Option, None, Some, if◌then◌else◌}
use Rattle.std.proofs.lemmas.List.Elements.{All-append, All-cons, All-head, All-nil, All-tail, All-weaker}
use Rattle.fmi_calls.specs.declared.call.Call.{Call}
use Rattle.fmi_calls.specs.declared.call.Call.TheVariants as C
use Rattle.fmi_calls.specs.declared.call.Kind.{Kind}
use Rattle.fmi_calls.specs.KindFacts.{IsRunCall, may_repeat, moves_on}
use Rattle.fmi_calls.specs.Kinds.{kind_of}
use Rattle.fmu_peer.specs.Lean.{NoneTwiceAfter, SizesFall, StepsFall, seen_after, without_value}
use Rattle.event_iteration.specs.WalkCalls.{AreNew, IsUse, Span, use_in}
use Rattle.event_iteration.proofs.ByLog.{Differ, seen_after_all, twice_on, use_kept, use_stays}
use Rattle.course_laws.specs.Laws.{AreNeeded}

-- ---- lists

pub seen_append : (seen a b : List Call) → seen_after_all seen (a ++ b) ≡ seen_after_all (seen_after_all seen a) b
seen_append seen [] b = refl
seen_append seen (c ∷ a) b = seen_append (seen_after seen c) a b

twice_prefix : (seen a b : List Call) → NoneTwiceAfter seen (a ++ b) → NoneTwiceAfter seen a
twice_prefix seen [] b h = tt
twice_prefix seen (c ∷ a) b h = (h.0, twice_prefix (seen_after seen c) a b h.1)

-- calls that leave the FMU where it is are seen beside those before them
seen_staying : (P : Call → Type 0) (cs seen : List Call) → All (λ (c : Call). moves_on c ≡ false) cs → All P cs → All P seen → All P (seen_after_all seen cs)
seen_staying P [] seen stay mine all = all
seen_staying P (c ∷ cs) seen stay mine all =
    seen_staying P cs (seen_after seen c) (All-tail (λ (d : Call). moves_on d ≡ false) c cs stay) (All-tail P c cs mine)
    (subst (All P) (sym (ap (λ (b : Bool). if b then c ∷ [] else c ∷ seen) (All-head (λ (d : Call). moves_on d ≡ false) c cs stay))) (All-cons P c seen (All-head P c cs mine) all))

pub prefix_all : (P : Call → Type 0) (a b : List Call) → All P (a ++ b) → All P a
prefix_all P [] b all = All-nil P
prefix_all P (c ∷ a) b all = All-cons P c a (All-head P c (a ++ b) all) (prefix_all P a b (All-tail P c (a ++ b) all))

-- ---- the sizes of steps after a Save

-- where a state is saved, the size of the last step since, below which the next has to be
abbrev pub Open : Type 0
Open = Option (Option ℕ)

abbrev pub open_by : Call → Open → Open
open_by C.Save kept = Some None
open_by C.Free kept = None
open_by (C.DoStep at size) (Some bound) = Some (Some size)
open_by call kept = kept

abbrev pub IsBelow : Call → Open → Type 0
IsBelow (C.DoStep at size) (Some bound) = IfSome bound (λ b. size < b)
IsBelow call kept = Unit {0}

-- after calls, and each step of them is below
abbrev pub open_after : Open → List Call → Open
open_after kept [] = kept
open_after kept (c ∷ cs) = open_after (open_by c kept) cs

abbrev pub AreBelow : Open → List Call → Type 0
AreBelow kept [] = Unit {0}
AreBelow kept (c ∷ cs) = IsBelow c kept × AreBelow (open_by c kept) cs

sizes_fall : (bound : Option ℕ) (cs : List Call) → AreBelow (Some bound) cs → SizesFall bound cs
sizes_fall bound [] below = tt
sizes_fall bound (C.DoStep at size ∷ cs) below = (below.0, sizes_fall (Some size) cs below.1)
sizes_fall bound (C.Save ∷ cs) below = tt
sizes_fall bound (C.Free ∷ cs) below = tt
sizes_fall bound (c ∷ cs) below = sizes_fall bound cs below.1

steps_fall : (kept : Open) (cs : List Call) → AreBelow kept cs → StepsFall cs
steps_fall kept [] below = tt
steps_fall kept (C.Save ∷ cs) below = (sizes_fall None cs below.1, steps_fall (Some None) cs below.1)
steps_fall kept (c ∷ cs) below = steps_fall (open_by c kept) cs below.1

pub open_append : (kept : Open) (a b : List Call) → open_after kept (a ++ b) ≡ open_after (open_after kept a) b
open_append kept [] b = refl
open_append kept (c ∷ a) b = open_append (open_by c kept) a b

pub below_append : (kept : Open) (a b : List Call) → AreBelow kept a → AreBelow (open_after kept a) b → AreBelow kept (a ++ b)
below_append kept [] b below more = more
below_append kept (c ∷ a) b below more = (below.0, below_append (open_by c kept) a b below.1 more)

below_prefix : (kept : Open) (a b : List Call) → AreBelow kept (a ++ b) → AreBelow kept a
below_prefix kept [] b below = tt
below_prefix kept (c ∷ a) b below = (below.0, below_prefix (open_by c kept) a b below.1)

-- a call that names a port leaves that
use_open : (c : Call) (kept : Open) → 0 < use_in c → IsBelow c kept × (open_by c kept ≡ kept)
use_open C.Save kept h = absurd (omega (arith, h))
use_open C.Free kept h = absurd (omega (arith, h))
use_open (C.DoStep at size) kept h = absurd (omega (arith, h))
use_open c kept h = (tt, refl)

uses_open : (cs : List Call) (kept : Open) → All (λ (c : Call). 0 < use_in c) cs → AreBelow kept cs × (open_after kept cs ≡ kept)
uses_open [] kept all = (tt, refl)
uses_open (c ∷ cs) kept all =
    let own = use_open c kept (All-head (λ (d : Call). 0 < use_in d) c cs all) in
    let more = uses_open cs kept (All-tail (λ (d : Call). 0 < use_in d) c cs all) in
    ((own.0, subst (λ (o : Open). AreBelow o cs) (sym own.1) more.0), ap (λ (o : Open). open_after o cs) own.1 ∙ more.1)

-- ---- what stands since the last call that moved the FMU on

-- of which kinds the calls are that name no port, before which point the steps, and below which use the others; and whether a state is saved
pub record Limit : Type 0 where
  pub kinds : Kind → Bool
  pub t : ℕ
  pub below : ℕ
  pub kept : Open

abbrev pub IsBefore : ℕ → Call → Type 0
IsBefore t (C.DoStep at size) = at < t
IsBefore t call = Unit {0}

pub data IsSeen (l : Limit) (c : Call) : Type 0 where
  NamesNone : use_in c ≡ 0 → l.kinds (kind_of c) ≡ true → IsBefore l.t c → IsSeen l c
  NamesPort : 0 < use_in c → use_in c < l.below → IsSeen l c

-- what is seen by the one is seen by the other
abbrev pub Keep : Limit → Limit → Type 0
Keep l m = (c : Call) → IsSeen l c → IsSeen m c

-- calls of a run, none of which stands twice where it isn't needed; these hold of those since the last that moved the FMU on
pub record CallsSince (l : Limit) (calls : List Call) : Type 0 where
  pub runs : All IsRunCall calls
  pub once : NoneTwiceAfter [] calls
  pub seen : All (IsSeen l) (seen_after_all [] calls)
  pub below : AreBelow None calls
  pub kept : open_after None calls ≡ l.kept

pub needed_prefix : (l : Limit) (prefix log left : List Call) → CallsSince l (prefix ++ (log ++ left)) → AreNeeded (prefix ++ log)
needed_prefix l prefix log left so =
    let same : prefix ++ (log ++ left) ≡ (prefix ++ log) ++ left = sym (append_assoc prefix log left) in
    let runs : All IsRunCall (prefix ++ log) = prefix_all IsRunCall (prefix ++ log) left (subst (All IsRunCall) same so.runs) in
    record { runs = runs; lean = (twice_prefix [] (prefix ++ log) left (subst (NoneTwiceAfter []) same so.once), steps_fall None (prefix ++ log) (below_prefix None (prefix ++ log) left (subst (AreBelow None) same so.below))) }

pub needed : (l : Limit) (calls : List Call) → CallsSince l calls → AreNeeded calls
needed l calls so = record { runs = so.runs; lean = (so.once, steps_fall None calls so.below) }

kind_kept : (c : Call) → kind_of (without_value c) ≡ kind_of c
kind_kept (C.Set kind reference x) = refl
kind_kept c = refl

-- a call of another kind, which names no port
pub differ_by : (l : Limit) (call : Call) → use_in call ≡ 0 → l.kinds (kind_of call) ≡ false → (c : Call) → IsSeen l c → Differ c call
differ_by l call none other c (NamesNone u is before) e =
    let same : kind_of c ≡ kind_of call = sym (kind_kept c) ∙ ap kind_of e ∙ kind_kept call in
    absurd (let wrong : true ≡ false = sym is ∙ ap l.kinds same ∙ other in cc)
differ_by l call none other c (NamesPort u less) e = absurd (let same : use_in c ≡ use_in call = sym (use_kept c) ∙ ap use_in e ∙ use_kept call in omega (arith, u, same, none))

-- an earlier step
at_of : (a b x y : ℕ) → C.DoStep a x ≡ C.DoStep b y → a ≡ b
at_of a b x y e = cc

step_before : (t size : ℕ) (c : Call) → IsBefore t c → Differ c (C.DoStep t size)
step_before t size (C.DoStep at other) before e = absurd (let same = at_of at t other size e in omega (arith, same, before))
step_before t size c before e = absurd (cc)

pub differ_step : (l : Limit) (size : ℕ) (c : Call) → IsSeen l c → Differ c (C.DoStep l.t size)
differ_step l size c (NamesNone u is before) e = step_before l.t size c before e
differ_step l size c (NamesPort u less) e = absurd (let same : use_in c ≡ 0 = sym (use_kept c) ∙ ap use_in e in omega (arith, u, same))

use_runs : (c : Call) → 0 < use_in c → IsRunCall c
use_runs (C.Get kind reference) h = refl
use_runs (C.Set kind reference x) h = refl
use_runs (C.GetClock reference) h = refl
use_runs (C.SetClock reference) h = refl
use_runs (C.GetInterval reference) h = refl
use_runs (C.GetShift reference) h = refl
use_runs c h = absurd (omega (arith, h))

-- ---- one part after others

module _ (l m : Limit) (calls : List Call) (so : CallsSince l calls) where
  pub weaker : Keep l m → l.kept ≡ m.kept → CallsSince m calls
  weaker h same = record { runs = so.runs; once = so.once; seen = All-weaker (IsSeen l) (IsSeen m) h (seen_after_all [] calls) so.seen; below = so.below; kept = so.kept ∙ same }

  -- one call
  pub called : (call : Call) → IsRunCall call → (may_repeat call ≡ false → (c : Call) → IsSeen l c → Differ c call) → IsSeen m call → (moves_on call ≡ false → Keep l m) → IsBelow call l.kept → open_by call l.kept ≡ m.kept → CallsSince m (calls ++ call ∷ [])
  called call run other is stays below kept = record {
    runs = All-append IsRunCall calls (call ∷ []) so.runs (All-cons IsRunCall call [] run (All-nil IsRunCall));
    once = twice_on [] calls (call ∷ []) so.once ((λ once. All-weaker (IsSeen l) (λ (c : Call). Differ c call) (other once) (seen_after_all [] calls) so.seen), tt);
    seen = subst (All (IsSeen m)) (sym (seen_append [] calls (call ∷ []))) (last (moves_on call) refl);
    below = below_append None calls (call ∷ []) so.below (subst (IsBelow call) (sym so.kept) below, tt);
    kept = open_append None calls (call ∷ []) ∙ ap (open_by call) so.kept ∙ kept;
  } where
    last : (b : Bool) → moves_on call ≡ b → All (IsSeen m) (if b then call ∷ [] else call ∷ seen_after_all [] calls)
    last true moves = All-cons (IsSeen m) call [] is (All-nil (IsSeen m))
    last false moves = All-cons (IsSeen m) call (seen_after_all [] calls) is (All-weaker (IsSeen l) (IsSeen m) (stays moves) (seen_after_all [] calls) so.seen)

  -- or none
  pub switched : (b : Bool) (call : Call) → IsRunCall call → (may_repeat call ≡ false → (c : Call) → IsSeen l c → Differ c call) → IsSeen m call → (moves_on call ≡ false → Keep l m) → IsBelow call l.kept → (b ≡ false → Keep l m) →
      (if b then open_by call l.kept else l.kept) ≡ m.kept → CallsSince m (calls ++ (if b then call ∷ [] else []))
  switched true call run other is stays below h kept = called call run other is stays below kept
  switched false call run other is stays below h kept = subst (CallsSince m) (sym (append-nil calls)) (weaker (h refl) kept)

-- calls that name ports
pub named : (l : Limit) (span : Span) (calls cs : List Call) → CallsSince l calls → l.below ≤ span.from → span.from ≤ span.below → AreNew span cs → CallsSince (record l { below = span.below }) (calls ++ cs)
named l span calls cs so low high new = record {
  runs = All-append IsRunCall calls cs so.runs (All-weaker (IsUse span) IsRunCall (λ c u. use_runs c (above c u)) cs new.uses);
  once = twice_on [] calls cs so.once (new.once (seen_after_all [] calls) (All-weaker (IsSeen l) (λ (c : Call). use_in c < span.from) early (seen_after_all [] calls) so.seen));
  seen = subst (All (IsSeen (record l { below = span.below }))) (sym (seen_append [] calls cs))
      (seen_staying (IsSeen (record l { below = span.below })) cs (seen_after_all [] calls) (All-weaker (IsUse span) (λ (c : Call). moves_on c ≡ false) (λ c u. use_stays c (above c u)) cs new.uses)
      (All-weaker (IsUse span) (IsSeen (record l { below = span.below })) (λ c u. NamesPort (above c u) u.below) cs new.uses) (All-weaker (IsSeen l) (IsSeen (record l { below = span.below })) later (seen_after_all [] calls) so.seen));
  below = below_append None calls cs so.below (uses_open cs (open_after None calls) (All-weaker (IsUse span) (λ (c : Call). 0 < use_in c) above cs new.uses)).0;
  kept = open_append None calls cs ∙ (uses_open cs (open_after None calls) (All-weaker (IsUse span) (λ (c : Call). 0 < use_in c) above cs new.uses)).1 ∙ so.kept;
} where
  above : (c : Call) → IsUse span c → 0 < use_in c
  above c u = let n = new.names in let f = u.from in omega (arith, n, f)

  early : (c : Call) → IsSeen l c → use_in c < span.from
  early c (NamesNone u is before) = let n = new.names in omega (arith, u, n)
  early c (NamesPort u less) = omega (arith, less, low)

  later : (c : Call) → IsSeen l c → IsSeen (record l { below = span.below }) c
  later c (NamesNone u is before) = NamesNone u is before
  later c (NamesPort u less) = NamesPort u (omega (arith, less, low, high))
