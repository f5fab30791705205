-- What a checkpoint begins with is one plan, and it breaks off at one byte.
use Rattle.std.proofs.Common.{◌≡◌, ◌⊎◌, ℕ, ◌+◌, ◌<◌, ◌≤◌, ◌^◌, List, ◌++◌, length, take, drop, sym, ap, subst, ◌∙◌, inl, inr, arith}
use Rattle.std.proofs.lemmas.Bool.{cases_lt}
use Rattle.std.proofs.lemmas.List.{length-append, take-take}
use Rattle.std.proofs.Math.Seq.{take-append_seam}
use Rattle.system_model.specs.declared.plan.Plan.{Plan}
use Rattle.system_model.specs.declared.system.System.{System}
use Rattle.exact_parts.specs.declared.taken.Taken.{Taken}
use Rattle.exact_parts.specs.declared.taken.Taken.TheVariants.{Got, NeedMore, Bad}
use Rattle.exact_parts.specs.Taking.{Begins}
use Rattle.exact_parts.proofs.CallerLemmas.{begins_cut, only_one}
use Rattle.system_checkpoint.specs.declared.first.First.{First}
use Rattle.system_checkpoint.specs.declared.snapshot.Snapshot.{Snapshot}
use Rattle.system_checkpoint.specs.First.{HasNone, HasPlan, IsFirst, count_max, first_of}
use Rattle.system_checkpoint.specs.Whole.{Checkpoint, IsBad}
use Rattle.system_checkpoint.proofs.FirstLemmas.{first_single}
use Rattle.system_checkpoint.proofs.PartLemmas.{within}

same_first : (one other : First) (m n : ℕ) → Got one m ≡ Got other n → one ≡ other
same_first one other m n e = cc

pub one_plan : (bytes : List ℕ) (plan other : Plan) → HasPlan bytes plan → HasPlan bytes other → plan ≡ other
one_plan bytes plan other h k =
    ap (λ (first : First). first.plan)
    (same_first (first_of plan h.point) (first_of other k.point) h.length k.length (only_one IsFirst first_single bytes (Got (first_of plan h.point) h.length) (Got (first_of other k.point) k.length) h.stands k.stands))

pub counts_seconds : (bytes : List ℕ) (plan : Plan) → HasPlan bytes plan → (1 ≤ plan.resolution) × (plan.resolution ≤ 2 ^ 62)
counts_seconds bytes plan h =
    let numbers = h.stands.spelled.is_next in
    let made = numbers.is_next.is_next.is_next.is_next.is_next in
    let same : plan.resolution ≡ numbers.number = ap (λ (first : First). first.plan.resolution) made.is in
    let w = within 1 count_max numbers.number numbers.is_first.span in
    (omega (arith, same, w.from), omega (arith, same, w.up_to))

pub begins_with_plan : (system : System) (header : List ℕ) (held : Snapshot) (bytes : List ℕ) → Checkpoint system header held bytes → HasPlan bytes held.plan
begins_with_plan system header held bytes h =
    let kept = h.is_next.is_next.is_next.is_next.is_next.is_next in
    let plan_is : held.plan ≡ h.number.plan = ap (λ (s : Snapshot). s.plan) kept.is in
    let prefix : take (length h.prefix) bytes ≡ h.prefix = ap (take (length h.prefix)) h.both ∙ take-append_seam h.prefix h.rest in
    subst (HasPlan bytes) (sym plan_is) (record {
      point = h.number.point;
      length = length h.prefix;
      stands = record {
        within = let all = ap (λ (xs : List ℕ). length xs) h.both ∙ length-append h.prefix h.rest in omega (arith, all);
        spelled = subst (IsFirst h.number) (sym prefix) h.is_first;
      };
    })

-- two bytes at which nothing goes on are one
module _ {V : Type 0} (frame : V → List ℕ → Type 0) (bytes : List ℕ) where
  not_before : (at other : ℕ) → at < other → other ≤ length bytes → (at < length bytes → Begins frame (take (at + 1) bytes) → ⊥) → Begins frame (take other bytes) → ⊥
  not_before at other lt within next prefix =
      next (omega (arith, lt, within)) (subst (Begins frame) (take-take (at + 1) other bytes (omega (arith, lt))) (begins_cut frame (at + 1) (take other bytes) prefix))

  pub breaks_once : (at other : ℕ) → at ≤ length bytes → other ≤ length bytes → (at < length bytes → Begins frame (take (at + 1) bytes) → ⊥) → (other < length bytes → Begins frame (take (other + 1) bytes) → ⊥) →
      Begins frame (take at bytes) → Begins frame (take other bytes) → at ≡ other
  breaks_once at other within_at within_other next_at next_other prefix_at prefix_other = by (cases_lt at other)
    where
      by : (at < other) ⊎ (other ≤ at) → at ≡ other
      by (inl l) = absurd (not_before at other l within_other next_at prefix_other)
      by (inr g) = here (cases_lt other at)
        where
          here : (other < at) ⊎ (at ≤ other) → at ≡ other
          here (inl l) = absurd (not_before other at l within_at next_other prefix_at)
          here (inr h) = omega (arith, g, h)

pub lacks_at_one : (bytes : List ℕ) (at other : ℕ) → HasNone bytes at → HasNone bytes other → at ≡ other
lacks_at_one bytes at other h k = breaks_once IsFirst bytes at other h.within k.within h.next k.next h.prefix k.prefix

pub breaks_at_one : (system : System) (header bytes : List ℕ) (at other : ℕ) → IsBad system header bytes at → IsBad system header bytes other → at ≡ other
breaks_at_one system header bytes at other h k = breaks_once (Checkpoint system header) bytes at other h.within k.within h.next k.next h.prefix k.prefix
