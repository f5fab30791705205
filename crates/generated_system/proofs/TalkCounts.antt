-- The phase after a talk has its numbers of exchanges and of Restore calls.
use Rattle.std.proofs.Common.{◌≡◌, ℕ, suc, ◌+◌, ◌-◌, ◌^◌, cond, List, [], ◌∷◌, length, min, refl, sym, ◌∙◌, ap, arith, add_assoc, zero-add}
use Rattle.std.specs.Prelude.{Option, Some, None, count_by}
use Rattle.std.specs.Result.{result_ok}
use Rattle.std.proofs.lemmas.List.Sums.{sum_by-cons}
use Rattle.value_types.specs.declared.shape.Shape.{Shape}
use Rattle.fmi_calls.specs.declared.call.Call.{Call}
use Rattle.fmi_calls.specs.declared.call.Call.TheVariants as C
use Rattle.fmi_calls.specs.declared.call.Reply.{Reply}
use Rattle.fmi_calls.specs.declared.call.Grade.{Grade}
use Rattle.fmi_calls.specs.declared.call.Grade.TheVariants.{Good, Refused, Misreply}
use Rattle.fmi_calls.specs.declared.phase.Phase.{Phase}
use Rattle.fmi_calls.specs.Next.{counted, entered, fresh, graded, next_of, one_more, restores_after}
use Rattle.fmi_calls.specs.Worth.{grade_of}
use Rattle.fmu_peer.specs.declared.peer.Exchange.{Exchange}
use Rattle.fmu_peer.specs.Talk.{next_by, phase_after, phase_from}
use Rattle.generated_system.specs.Counts.{IsCounted, is_restore}

-- a phase has both counts of another
abbrev HasCountsOf : Phase → Phase → Type 0
HasCountsOf p q = (p.exchanges ≡ q.exchanges) × (p.restores ≡ q.restores)

entered_keeps : (shape : Shape) (phase : Phase) (call : Call) (reply : Reply) → HasCountsOf (entered shape phase call reply) phase
entered_keeps shape phase (C.Instantiate event_mode early_return batches) reply = (refl, refl)
entered_keeps shape phase _ reply = (refl, refl)

graded_keeps : (shape : Shape) (phase : Phase) (call : Call) (reply : Reply) (grade : Grade) → HasCountsOf (graded shape phase call reply grade) phase
graded_keeps shape phase call reply Good = entered_keeps shape phase call reply
graded_keeps shape phase call reply Refused = (refl, refl)
graded_keeps shape phase call reply Misreply = (refl, refl)

next_counts : (shape : Shape) (phase : Phase) (call : Call) (r : Option Reply) → HasCountsOf (next_of shape phase call r) (counted phase call)
next_counts shape phase call None = (refl, refl)
next_counts shape phase call (Some reply) = graded_keeps shape (counted phase call) call reply (grade_of shape call reply)

restores_more : (b : ℕ) (call : Call) → restores_after (min b (2 ^ 64 - 1)) call ≡ min (b + cond (is_restore call) 1 0) (2 ^ 64 - 1)
restores_more b C.Restore = omega arith
restores_more b _ = ap (λ k. min k (2 ^ 64 - 1)) (let e : b ≡ b + 0 = omega arith in e)

abbrev restores_in : List Exchange → ℕ
restores_in talk = count_by (λ (e : Exchange). is_restore e.call) talk

-- after a talk that begins after a exchanges, b of them Restore calls
record Goes (shape : Shape) (talk : List Exchange) (phase : Phase) (a b : ℕ) : Type 0 where
  exchanges : (phase_from shape phase talk).exchanges ≡ min (a + length talk) (2 ^ 64 - 1)
  restores : (phase_from shape phase talk).restores ≡ min (b + restores_in talk) (2 ^ 64 - 1)

one_exchange : (a : ℕ) → one_more (min a (2 ^ 64 - 1)) ≡ min (a + 1) (2 ^ 64 - 1)
one_exchange a = omega arith

capped : (a b : ℕ) → a ≡ b → min a (2 ^ 64 - 1) ≡ min b (2 ^ 64 - 1)
capped a b e = ap (λ k. min k (2 ^ 64 - 1)) e

longer : (a n : ℕ) → a + 1 + n ≡ a + suc n
longer a n = omega arith

counts_from : (shape : Shape) (talk : List Exchange) (phase : Phase) (a b : ℕ) → phase.exchanges ≡ min a (2 ^ 64 - 1) → phase.restores ≡ min b (2 ^ 64 - 1) → Goes shape talk phase a b
counts_from shape [] phase a b is_a is_b = record { exchanges = is_a ∙ capped a (a + 0) (omega arith); restores = is_b ∙ capped b (b + 0) (omega arith) }
counts_from shape (e ∷ es) phase a b is_a is_b =
    let next : HasCountsOf (next_by shape phase e) (counted phase e.call) = next_counts shape phase e.call (result_ok e.result) in
    let one : ℕ = cond (is_restore e.call) 1 0 in
    let rest : Goes shape es (next_by shape phase e) (a + 1) (b + one) =
    counts_from shape es (next_by shape phase e) (a + 1) (b + one) (next.0 ∙ ap one_more is_a ∙ one_exchange a) (next.1 ∙ ap (λ k. restores_after k e.call) is_b ∙ restores_more b e.call) in
    record {
      exchanges = rest.exchanges ∙ capped (a + 1 + length es) (a + suc (length es)) (longer a (length es));
      restores = rest.restores ∙ capped (b + one + restores_in es) (b + restores_in (e ∷ es)) (add_assoc b one (restores_in es) ∙ ap (λ k. b + k) (sym (sum_by-cons (λ (x : Exchange). cond (is_restore x.call) 1 0) e es)));
    }

pub talk_counted : (shape : Shape) (talk : List Exchange) → IsCounted (phase_after shape talk) talk
talk_counted shape talk =
    let counts : Goes shape talk (fresh shape) 0 0 = counts_from shape talk (fresh shape) 0 0 refl refl in
    record {
      exchanges = counts.exchanges ∙ capped (0 + length talk) (length talk) (zero-add (length talk));
      restores = counts.restores ∙ capped (0 + restores_in talk) (restores_in talk) (zero-add (restores_in talk));
    }
