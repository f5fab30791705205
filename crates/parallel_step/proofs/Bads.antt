-- Whether one of the answers of a round isn't good.
use Rattle.std.proofs.Common.{◌≡◌, ℕ, suc, Bool, List, [], ◌∷◌, Option, Some, None, refl, sym, ap, ◌∙◌, is_some}
use Rattle.std.specs.Prelude.{◌||◌}
use Rattle.std.specs.List.{list_any}
use Rattle.fmu_peer.specs.declared.ended.Why.{Why}
use Rattle.fmu_peer.specs.declared.peer.Peer.{Ghosts}
use Rattle.fmu_peer.specs.declared.slot.Slot.{Slot}
use Rattle.slot_calls.specs.declared.bad_answer.BadAnswer.{BadAnswer}
use Rattle.parallel_step.specs.Lifted.{bad_from, bad_of, bad_or}
use Rattle.parallel_step.specs.Round.{call_in}

some_or : (k : ℕ) (o : Option Why) (rest : Option BadAnswer) → is_some (bad_or k o rest) ≡ (is_some o || is_some rest)
some_or k None rest = refl
some_or k (Some why) rest = refl

pub any_bad : {L : Type 0} {g : Ghosts L} (k : ℕ) (slots : List (Slot L g)) → list_any (λ (s : Slot L g). is_some (bad_of (call_in s.job) s.answer)) slots ≡ is_some (bad_from k slots)
any_bad k [] = refl
any_bad k (s ∷ slots) =
    ap (λ (b : Bool). is_some (bad_of (call_in s.job) s.answer) || b) (any_bad (suc k) slots)
    ∙ sym (some_or k (bad_of (call_in s.job) s.answer) (bad_from (suc k) slots))
