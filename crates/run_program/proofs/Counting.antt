-- The numbers of a run by the peers that are left of it.
use Rattle.std.proofs.Common.{◌≡◌, ◌∙◌, ℕ, ◌+◌, List, [], ◌∷◌, refl, sym, ap, length, map}
use Rattle.std.specs.Prelude.{All, count_by}
use Rattle.std.specs.List.{sum_by}
use Rattle.std.proofs.lemmas.List.Elements.{All-head, All-tail}
use Rattle.std.proofs.lemmas.List.Sums.{sum_by-cons}
use Rattle.value_types.specs.declared.shape.Shape.{Shape}
use Rattle.fmi_calls.specs.declared.phase.Phase.{Phase}
use Rattle.fmu_peer.specs.declared.peer.Exchange.{Exchange}
use Rattle.fmu_peer.specs.Talk.{phase_after}
use Rattle.fmu_peer.specs.View.{View}
use Rattle.generated_system.specs.Counts.{IsCounted, is_restore}
use Rattle.generated_system.specs.declared.counts.CallCounts.{CallCounts}
use Rattle.step_master.specs.Sessions.{Account, Session}
use Rattle.step_master.specs.Histories.{IsPeerHistory, PeerHistory, shape_in, talk_in}
use Rattle.run_program.specs.declared.outcome.Numbers.{Numbers}
use Rattle.run_program.specs.Bench.{AreNumbersOf, counted}

-- those of a run that didn't begin
abbrev pub no_numbers : Numbers
no_numbers = record { instants = 0; calls = 0; rollbacks = 0 }

abbrev pub numbers_of : ℕ → CallCounts → Numbers
numbers_of instants counts = record { instants = instants; calls = counts.calls; rollbacks = counts.rollbacks }

sum_mapped : {A B : Type 0} (f : A → B) (g : B → ℕ) (xs : List A) → sum_by (λ x. g (f x)) xs ≡ sum_by g (map f xs)
sum_mapped f g [] = refl
sum_mapped f g (x ∷ xs) = sum_by-cons (λ x. g (f x)) x xs ∙ ap (λ (n : ℕ). g (f x) + n) (sum_mapped f g xs) ∙ sym (sum_by-cons g (f x) (map f xs))

-- what phases count is what is told of their talks
sum_histories : (count : Phase → ℕ) (told : List Exchange → ℕ) → ((shape : Shape) (talk : List Exchange) → count (phase_after shape talk) ≡ told talk) →
    (histories : List PeerHistory) → All IsPeerHistory histories → sum_by (λ (v : View). count v.phase) (map (λ (l : PeerHistory). l.new) histories) ≡ sum_by (λ (l : PeerHistory). told (talk_in l)) histories
sum_histories count told law [] each = refl
sum_histories count told law (l ∷ ls) each =
    let one : count l.new.phase ≡ told (talk_in l) = ap count (All-head IsPeerHistory l ls each).phase ∙ law (shape_in l) (talk_in l) in
    sum_by-cons (λ (v : View). count v.phase) l.new (map (λ (x : PeerHistory). x.new) ls)
    ∙ ap (λ (n : ℕ). n + sum_by (λ (v : View). count v.phase) (map (λ (x : PeerHistory). x.new) ls)) one
    ∙ ap (λ (n : ℕ). told (talk_in l) + n) (sum_histories count told law ls (All-tail IsPeerHistory l ls each))
    ∙ sym (sum_by-cons (λ (x : PeerHistory). told (talk_in x)) l ls)

module _ {L : Type 0} (view : L → View) (peers : List L) (counts : CallCounts) (a : Account) (session : Session a) (news : a.news ≡ map view peers)
    (law : (shape : Shape) (talk : List Exchange) → IsCounted (phase_after shape talk) talk) where
  summed : (count : Phase → ℕ) (told : List Exchange → ℕ) → ((shape : Shape) (talk : List Exchange) → count (phase_after shape talk) ≡ told talk) →
      sum_by (λ (p : L). count (view p).phase) peers ≡ sum_by (λ (l : PeerHistory). told (talk_in l)) session.histories
  summed count told by =
      sum_mapped view (λ (v : View). count v.phase) peers ∙ ap (sum_by (λ (v : View). count v.phase)) (sym news ∙ sym session.are.news_are) ∙ sum_histories count told by session.histories session.are.each

  pub are_numbers : (asked : List L) → asked ≡ peers → (instants : ℕ) → instants ≡ a.instants →
      counts.calls ≡ sum_by (λ (p : L). (view p).phase.exchanges) asked → counts.rollbacks ≡ sum_by (λ (p : L). (view p).phase.restores) asked → AreNumbersOf (numbers_of instants counts) session.is session.histories
  are_numbers asked same instants is calls rollbacks = record {
    instants = is ∙ session.counted;
    calls = calls ∙ ap (sum_by (λ (p : L). (view p).phase.exchanges)) same ∙ summed (λ (p : Phase). p.exchanges) (λ (es : List Exchange). counted (length es)) (λ shape talk. (law shape talk).exchanges);
    rollbacks = rollbacks ∙ ap (sum_by (λ (p : L). (view p).phase.restores)) same ∙ summed (λ (p : Phase). p.restores) (λ (es : List Exchange). counted (count_by (λ (e : Exchange). is_restore e.call) es)) (λ shape talk. (law shape talk).restores);
  }
