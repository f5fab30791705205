-- The first bad answer of a round, from each place on.
use Rattle.std.proofs.Common.{◌≡◌, ℕ, suc, ◌+◌, ◌<◌, ◌≤◌, List, Option, Some, None, sym, ap, ◌∙◌, arith, length, get_or, drop}
use Rattle.std.proofs.Math.Seq.{drop-cons}
use Rattle.std.proofs.lemmas.List.{drop_all}
use Rattle.fmu_peer.specs.declared.ended.Why.{Why}
use Rattle.fmu_peer.specs.declared.peer.Peer.{Ghosts}
use Rattle.fmu_peer.specs.declared.slot.Slot.{Slot}
use Rattle.parallel_step.specs.Lifted.{bad_from, bad_of, bad_or}
use Rattle.parallel_step.specs.Round.{call_in}

module _ {L : Type 0} {g : Ghosts L} (slots : List (Slot L g)) (i : ℕ) (s : Slot L g) (within : i < length slots) (is : s ≡ get_or slots i s) where
  here : (k : ℕ) → bad_from k (drop i slots) ≡ bad_or k (bad_of (call_in s.job) s.answer) (bad_from (suc k) (drop (suc i) slots))
  here k =
      ap (bad_from k) (drop-cons slots i s within)
      ∙ ap (λ (x : Slot L g). bad_or k (bad_of (call_in x.job) x.answer) (bad_from (suc k) (drop (suc i) slots))) (sym is)

  next : suc i ≡ i + 1
  next = omega arith

  pub bad_later : bad_of (call_in s.job) s.answer ≡ None → bad_from i (drop i slots) ≡ bad_from (i + 1) (drop (i + 1) slots)
  bad_later none =
      here i ∙ ap (λ (o : Option Why). bad_or i o (bad_from (suc i) (drop (suc i) slots))) none ∙ ap (λ (n : ℕ). bad_from n (drop n slots)) next

  pub bad_here : (why : Why) → bad_of (call_in s.job) s.answer ≡ Some why → bad_from i (drop i slots) ≡ Some (record { component = record { 0 = i }; why = why })
  bad_here why some = here i ∙ ap (λ (o : Option Why). bad_or i o (bad_from (suc i) (drop (suc i) slots))) some

pub bad_last : {L : Type 0} {g : Ghosts L} (slots : List (Slot L g)) (i k : ℕ) → length slots ≤ i → bad_from k (drop i slots) ≡ None
bad_last slots i k h = ap (bad_from k) (drop_all i slots h)
