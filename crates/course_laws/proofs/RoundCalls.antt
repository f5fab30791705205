-- The calls of one FMU in an agreement: each is needed.
use Rattle.std.proofs.Common.{◌≡◌, ℕ, ◌<◌, Bool, true, false, List, [], ◌∷◌, ◌++◌, ◌⊎◌, inl, inr, Option, Some, None, refl, sym, ap, ◌∙◌, subst, arith}
use Rattle.std.specs.Prelude.{All, IfSome, if◌then◌else◌}
use Rattle.std.proofs.lemmas.List.Elements.{All-append, All-cons, All-head, All-nil, All-tail, All-weaker}
use Rattle.fmi_calls.specs.declared.call.Call.{Call}
use Rattle.fmi_calls.specs.declared.call.Call.TheVariants as C
use Rattle.fmi_calls.specs.declared.call.Kind.TheVariants as K
use Rattle.fmi_calls.specs.KindFacts.{IsRunCall, moves_on}
use Rattle.fmu_peer.specs.Lean.{NoneTwiceAfter, SizesFall, seen_after}
use Rattle.event_iteration.proofs.ByLog.{Differ, seen_after_all, twice_on}
use Rattle.step_agreement.proofs.CallerLemmas.{Alternates}
use Rattle.course_laws.proofs.Once.{AreBelow, CallsSince, IsSeen, Keep, Limit, NamesNone, Open, below_append, differ_step, open_after, open_append, open_by, seen_append}

-- ---- none stands twice

-- it is none of the Restores and of the shorter steps from t that may follow
record IsEarly (t : ℕ) (bound : Option ℕ) (stepped : Bool) (c : Call) : Type 0 where
  step : (size : ℕ) → IfSome bound (λ b. size < b) → Differ c (C.DoStep t size)
  back : stepped ≡ true → Differ c C.Restore

size_of : (a b x y : ℕ) → C.DoStep a x ≡ C.DoStep b y → x ≡ y
size_of a b x y e = cc

longer : (t size : ℕ) → IsEarly t (Some size) true (C.DoStep t size)
longer t size = record {
  step = λ other less same. absurd (let e = size_of t t size other same in omega (arith, e, less));
  back = λ stepped same. absurd (cc);
}

went_back : (t : ℕ) (bound : Option ℕ) → IsEarly t bound false C.Restore
went_back t bound = record { step = λ size less same. absurd (cc); back = λ stepped. absurd (cc) }

rounds_once : (t : ℕ) (cs seen : List Call) (bound : Option ℕ) (stepped : Bool) → Alternates t stepped cs → SizesFall bound cs → All (IsEarly t bound stepped) seen → NoneTwiceAfter seen cs
rounds_once t [] seen bound stepped alt fall all = tt
rounds_once t (C.DoStep at size ∷ cs) seen bound stepped (from, alt) (less, fall) all =
    subst (λ (n : ℕ). NoneTwiceAfter seen (C.DoStep n size ∷ cs)) (sym from) (
      (λ once. All-weaker (IsEarly t bound stepped) (λ (c : Call). Differ c (C.DoStep t size)) (λ c early. early.step size less) seen all),
      rounds_once t cs (C.DoStep t size ∷ []) (Some size) true alt fall (All-cons (IsEarly t (Some size) true) (C.DoStep t size) [] (longer t size) (All-nil (IsEarly t (Some size) true))),
    )
rounds_once t (C.Restore ∷ cs) seen bound stepped (was, alt) fall all = (
  (λ once. All-weaker (IsEarly t bound stepped) (λ (c : Call). Differ c C.Restore) (λ c early. early.back was) seen all),
  rounds_once t cs (C.Restore ∷ seen) bound false alt fall
      (All-cons (IsEarly t bound false) C.Restore seen (went_back t bound) (All-weaker (IsEarly t bound stepped) (IsEarly t bound false) (λ c early. record { step = early.step; back = λ none. absurd (cc) }) seen all)),
)
rounds_once t (c ∷ cs) seen bound stepped alt fall all = absurd alt

-- ---- what is seen of them

module _ (P : Call → Type 0) where
  seen_one : (c : Call) (seen : List Call) → P c → All P seen → All P (seen_after seen c)
  seen_one c seen p all = by (moves_on c) where
    by : (b : Bool) → All P (if b then c ∷ [] else c ∷ seen)
    by true = All-cons P c [] p (All-nil P)
    by false = All-cons P c seen p all

  seen_all : (cs seen : List Call) → All P seen → All P cs → All P (seen_after_all seen cs)
  seen_all [] seen all mine = all
  seen_all (c ∷ cs) seen all mine = seen_all cs (seen_after seen c) (seen_one c seen (All-head P c cs mine) all) (All-tail P c cs mine)

  -- after the first step nothing else is
  seen_alone : (t : ℕ) (cs seen : List Call) → Alternates t false cs → (cs ≡ [] → ⊥) → All P cs → All P (seen_after_all seen cs)
  seen_alone t [] seen alt some mine = absurd (some refl)
  seen_alone t (C.DoStep at size ∷ cs) seen alt some mine =
      seen_all cs (C.DoStep at size ∷ []) (All-cons P (C.DoStep at size) [] (All-head P (C.DoStep at size) cs mine) (All-nil P)) (All-tail P (C.DoStep at size) cs mine)
  seen_alone t (C.Restore ∷ cs) seen alt some mine = absurd (let wrong : false ≡ true = alt.0 in cc)
  seen_alone t (c ∷ cs) seen alt some mine = absurd alt

-- each is a step from t, or a Restore
pub calls_all : (P : Call → Type 0) (t : ℕ) → ((size : ℕ) → P (C.DoStep t size)) → P C.Restore → (cs : List Call) (stepped : Bool) → Alternates t stepped cs → All P cs
calls_all P t step back [] stepped alt = All-nil P
calls_all P t step back (C.DoStep at size ∷ cs) stepped (from, alt) = All-cons P (C.DoStep at size) cs (subst (λ (n : ℕ). P (C.DoStep n size)) (sym from) (step size)) (calls_all P t step back cs true alt)
calls_all P t step back (C.Restore ∷ cs) stepped (was, alt) = All-cons P C.Restore cs back (calls_all P t step back cs false alt)
calls_all P t step back (c ∷ cs) stepped alt = absurd alt

-- ---- the sizes of steps after a Save

-- where none is saved, none is kept; else some size is
pub data IsKeptSo : Open → Open → Type 0 where
  NoneKept : IsKeptSo None None
  SomeKept : (a b : Option ℕ) → IsKeptSo (Some a) (Some b)

rounds_open : (t : ℕ) (cs : List Call) (bound : Option ℕ) (stepped : Bool) → Alternates t stepped cs → SizesFall bound cs → AreBelow (Some bound) cs × (b : Option ℕ) × (open_after (Some bound) cs ≡ Some b)
rounds_open t [] bound stepped alt fall = (tt, bound, refl)
rounds_open t (C.DoStep at size ∷ cs) bound stepped (from, alt) (less, fall) = let more = rounds_open t cs (Some size) true alt fall in ((less, more.0), more.1, more.2)
rounds_open t (C.Restore ∷ cs) bound stepped (was, alt) fall = let more = rounds_open t cs bound false alt fall in ((tt, more.0), more.1, more.2)
rounds_open t (c ∷ cs) bound stepped alt fall = absurd alt

rounds_closed : (t : ℕ) (cs : List Call) (stepped : Bool) → Alternates t stepped cs → AreBelow None cs × (open_after None cs ≡ None)
rounds_closed t [] stepped alt = (tt, refl)
rounds_closed t (C.DoStep at size ∷ cs) stepped (from, alt) = let more = rounds_closed t cs true alt in ((tt, more.0), more.1)
rounds_closed t (C.Restore ∷ cs) stepped (was, alt) = let more = rounds_closed t cs false alt in ((tt, more.0), more.1)
rounds_closed t (c ∷ cs) stepped alt = absurd alt

-- ---- after other calls

-- as the limit says, with some size kept where one was
pub record IsSomehow (l m : Limit) (calls : List Call) : Type 0 where
  pub kept : Open
  pub kept_so : IsKeptSo l.kept kept
  pub so : CallsSince (record m { kept = kept }) calls

-- those that save, restore and free a state are calls of a run, too
pub save_runs : IsRunCall C.Save
save_runs = refl

pub restore_runs : IsRunCall C.Restore
restore_runs = refl

pub free_runs : IsRunCall C.Free
free_runs = refl

none_kept : (x o : Open) → IsKeptSo x o → x ≡ None → o ≡ None
none_kept _ _ NoneKept none = refl
none_kept _ _ (SomeKept a b) none = absurd (cc)

-- after a Free none is kept
pub freed_kept : (saved : Bool) (o : Open) → IsKeptSo (if saved then Some None else None) o → (if saved then open_by C.Free o else o) ≡ None
freed_kept true o kept = refl
freed_kept false o kept = none_kept None o kept refl

module _ (l m : Limit) (calls cs : List Call) (so : CallsSince l calls) (alt : Alternates l.t false cs) (fall : SizesFall None cs) (steps : m.kinds K.DoStep ≡ true) (backs : m.kinds K.Restore ≡ true) (after : l.t < m.t) (begun : (cs ≡ [] → ⊥) ⊎ ((k : Open) → Keep l (record m { kept = k }))) where
  with_kept : (k : Open) → IsKeptSo l.kept k → AreBelow l.kept cs → open_after l.kept cs ≡ k → IsSomehow l m (calls ++ cs)
  with_kept k kept_so below k_is = record {
    kept = k;
    kept_so = kept_so;
    so = record {
      runs = All-append IsRunCall calls cs so.runs (calls_all IsRunCall l.t (λ size. refl) restore_runs cs false alt);
      once = twice_on [] calls cs so.once (rounds_once l.t cs (seen_after_all [] calls) None false alt fall (All-weaker (IsSeen l) (IsEarly l.t None false) early (seen_after_all [] calls) so.seen));
      seen = subst (All (IsSeen (record m { kept = k }))) (sym (seen_append [] calls cs)) (by begun);
      below = below_append None calls cs so.below (subst (λ (o : Open). AreBelow o cs) (sym so.kept) below);
      kept = open_append None calls cs ∙ ap (λ (o : Open). open_after o cs) so.kept ∙ k_is;
    };
  } where
    early : (c : Call) → IsSeen l c → IsEarly l.t None false c
    early c seen = record { step = λ size less. differ_step l size c seen; back = λ none. absurd (cc) }

    mine : All (IsSeen (record m { kept = k })) cs
    mine = calls_all (IsSeen (record m { kept = k })) l.t (λ size. NamesNone refl steps after) (NamesNone refl backs tt) cs false alt

    by : (cs ≡ [] → ⊥) ⊎ ((k : Open) → Keep l (record m { kept = k })) → All (IsSeen (record m { kept = k })) (seen_after_all (seen_after_all [] calls) cs)
    by (inl some) = seen_alone (IsSeen (record m { kept = k })) l.t cs (seen_after_all [] calls) alt some mine
    by (inr keep) = seen_all (IsSeen (record m { kept = k })) cs (seen_after_all [] calls) (All-weaker (IsSeen l) (IsSeen (record m { kept = k })) (keep k) (seen_after_all [] calls) so.seen) mine

  pub rounds_so : (l.kept ≡ None) ⊎ (l.kept ≡ Some None) → IsSomehow l m (calls ++ cs)
  rounds_so (inl none) =
      let r = rounds_closed l.t cs false alt in
      with_kept None (subst (λ (o : Open). IsKeptSo o None) (sym none) NoneKept) (subst (λ (o : Open). AreBelow o cs) (sym none) r.0) (ap (λ (o : Open). open_after o cs) none ∙ r.1)
  rounds_so (inr some) =
      let r = rounds_open l.t cs None false alt fall in
      with_kept (Some r.1) (subst (λ (o : Open). IsKeptSo o (Some r.1)) (sym some) (SomeKept None r.1)) (subst (λ (o : Open). AreBelow o cs) (sym some) r.0) (ap (λ (o : Open). open_after o cs) some ∙ r.2)
