-- The lemmas of this crate that others may cite.
use Rattle.std.proofs.Common.{◌≡◌, ℕ, zero, suc, List, [], ◌∷◌, Some, length, sym, ◌∙◌, ap, subst, arith}
use Rattle.std.proofs.lemmas.Option.{none-some as none_some, same_Some}
use Rattle.std.specs.List.{slice_get}
use Rattle.std.specs.Option.{option_map}
use Rattle.fmu_peer.specs.Machine.{Machine}
use Rattle.fmu_peer.specs.View.{View}
use Rattle.system_model.specs.declared.system.Component.{Component}
use Rattle.command_line.specs.Line.{Asked, Check, IsAsked, IsLine, Line, OfBench, OfCheckpoint, OfResume, OfTrace, One, bench_row, check_row, checkpoint_row, one_row, resume_row, run_row, trace_check_row}
use Rattle.command_line.specs.Line as L
use Rattle.run_program.specs.Happened.{Happened}
use Rattle.run_program.specs.Peers.{AreStarted}
use Rattle.run_program.specs.Rows.{KeepsSystemRows}
use Rattle.run_program.specs.TraceCheck.{ForBench, ForCheckpoint, ForResume, ForTrace, IsOfOther, KeepsRows}

head_same : {X : Type 0} (x y : X) (xs ys : List X) → x ∷ xs ≡ y ∷ ys → x ≡ y
head_same x y xs ys e = cc

-- ---- a line of a system is none of another command

abbrev first_of_word : List ℕ → ℕ
first_of_word [] = 0
first_of_word (x ∷ xs) = x

name_same : (words : List (List ℕ)) (x y : List ℕ) (xs ys : List (List ℕ)) → words ≡ x ∷ xs → words ≡ y ∷ ys → x ≡ y
name_same words x y xs ys a b = head_same x y xs ys (sym a ∙ b)

abbrev pub row_name : Line → List ℕ
row_name (One line) = one_row.name
row_name (L.Run line) = run_row.name
row_name (Check line) = check_row.name

named : (words : List (List ℕ)) (line : Line) (x : IsLine words line) → x.name ≡ row_name line
named words (One line) x = x.asks.0
named words (L.Run line) x = x.asks.0
named words (Check line) x = x.asks.0

not_trace_row : (line : Line) → row_name line ≡ trace_check_row.name → ⊥
not_trace_row (One line) e = let first = ap first_of_word e in omega (arith, first)
not_trace_row (L.Run line) e = let first = ap first_of_word e in omega (arith, first)
not_trace_row (Check line) e = let first = ap first_of_word e in omega (arith, first)

not_bench_row : (line : Line) → row_name line ≡ bench_row.name → ⊥
not_bench_row (One line) e = let first = ap first_of_word e in omega (arith, first)
not_bench_row (L.Run line) e = let first = ap first_of_word e in omega (arith, first)
not_bench_row (Check line) e = let first = ap first_of_word e in omega (arith, first)

not_checkpoint_row : (line : Line) → row_name line ≡ checkpoint_row.name → ⊥
not_checkpoint_row (One line) e = let size = ap (λ (w : List ℕ). length w) e in omega (arith, size)
not_checkpoint_row (L.Run line) e = let size = ap (λ (w : List ℕ). length w) e in omega (arith, size)
not_checkpoint_row (Check line) e = let size = ap (λ (w : List ℕ). length w) e in omega (arith, size)

not_resume_row : (line : Line) → row_name line ≡ resume_row.name → ⊥
not_resume_row (One line) e = let size = ap (λ (w : List ℕ). length w) e in omega (arith, size)
not_resume_row (L.Run line) e = let size = ap (λ (w : List ℕ). length w) e in omega (arith, size)
not_resume_row (Check line) e = let size = ap (λ (w : List ℕ). length w) e in omega (arith, size)

pub system_rows : (h : Happened) (line : Line) → KeepsRows h → IsLine h.words line → KeepsSystemRows h
system_rows h line keeps x = keeps.system other
  where
    named_so : (asked : Asked) (y : IsAsked h.words asked) → row_name line ≡ y.name
    named_so asked y = sym (named h.words line x) ∙ name_same h.words x.name y.name x.is.rest y.is.rest x.is.begins y.is.begins

    other : IsOfOther h → ⊥
    other (ForTrace trace y) = not_trace_row line (named_so (OfTrace trace) y ∙ y.asks.0)
    other (ForBench bench y) = not_bench_row line (named_so (OfBench bench) y ∙ y.asks.0)
    other (ForCheckpoint held y) = not_checkpoint_row line (named_so (OfCheckpoint held) y ∙ y.asks.0)
    other (ForResume rest y) = not_resume_row line (named_so (OfResume rest) y ∙ y.asks.0)

-- ---- peers that were started

-- the state of a peer that was started is the first of its machine
pub first_state : (host : List ℕ) (folders : List (List ℕ)) (cs : List Component) (vs : List View) (k : ℕ) (v : View) → AreStarted host folders cs vs → slice_get vs k ≡ Some v →
    v.state ≡ option_map (λ (m : Machine). m.first) v.fixed.machine
first_state host folders cs [] k v are here = absurd (none_some v here)
first_state host folders [] (w ∷ vs) k v are here = absurd are
first_state host [] (c ∷ cs) (w ∷ vs) k v are here = absurd are
first_state host (f ∷ folders) (c ∷ cs) (w ∷ vs) zero v are here = subst (λ (x : View). x.state ≡ option_map (λ (m : Machine). m.first) x.fixed.machine) (same_Some w v here) are.0.state
first_state host (f ∷ folders) (c ∷ cs) (w ∷ vs) (suc k) v are here = first_state host folders cs vs k v are.1 here
