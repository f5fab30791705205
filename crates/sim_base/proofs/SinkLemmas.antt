-- Bytes and the pieces that they are cut into.
use Rattle.std.proofs.Common.{◌≡◌, ◌+◌, ◌-◌, ◌^◌, ◌<◌, ℕ, List, [], ◌∷◌, ◌++◌, length, drop, sum, refl, length-drop, arith}
use Rattle.std.proofs.lemmas.List.{append-nil, replicate_more}
use Rattle.std.proofs.lemmas.List.Sums.{sum_by-cons}
use Rattle.std.proofs.lemmas.Grind.{common_steps}
use Rattle.std.specs.Prelude.{replicate}
use Rattle.std.proofs.lemmas.Bool.Decides.{nat_tests}
use Rattle.std.specs.Prelude.{Some}
use Rattle.sim_base.specs.Pieces.{cut}
use Rattle.sim_base.specs.Sink.{SinkView, with_fault}

-- one more piece after the whole
pub cut_push : (ns bytes piece : List ℕ) (n : ℕ) → sum ns ≡ length bytes → n ≡ length piece → cut (ns ++ n ∷ []) (bytes ++ piece) ≡ cut ns bytes ++ piece ∷ []
cut_push [] [] piece n whole is_n = grind (arith, common_steps)
cut_push [] (b ∷ bytes) piece n whole is_n = absurd (omega arith)
cut_push (m ∷ ns) bytes piece n whole is_n =
    let rest = cut_push ns (drop m bytes) piece n (simp length-drop (omega (arith, sum_by-cons (λ x. x) m ns))) is_n in
    grind (arith, common_steps, rest)

-- so goes on what a sink tells that has had no put past its room
pub pieces_push : (ns bytes piece : List ℕ) (n k : ℕ) → sum ns ≡ length bytes → n ≡ length piece → k ≡ 0 → cut (ns ++ n ∷ []) (bytes ++ piece) ++ replicate k [] ≡ (cut ns bytes ++ replicate k []) ++ piece ∷ []
pieces_push ns bytes piece n k whole is_n none = grind (arith, common_steps, cut_push ns bytes piece n whole is_n)

-- what a sink tells that tells its bytes and these pieces
abbrev pub told : List ℕ → List (List ℕ) → ℕ → SinkView
told bytes pieces faults = record { content = Some bytes; puts = Some pieces; faults = faults }

-- a fault that adds no bytes
noted : (bytes : List ℕ) (old new : List (List ℕ)) (faults : ℕ) → faults < 2 ^ 64 - 1 → new ≡ old ++ [] ∷ [] → told bytes new (faults + 1) ≡ with_fault (told bytes old faults) []
noted bytes old new faults counts grows = grind (arith, common_steps, nat_tests, append-nil)

-- its empty piece has a length
pub noted_within : (ns ms bytes : List ℕ) (k faults : ℕ) → sum ns ≡ length bytes → ms ≡ ns ++ 0 ∷ [] → faults < 2 ^ 64 - 1 → told bytes (cut ms bytes ++ replicate k []) (faults + 1) ≡ with_fault (told bytes (cut ns bytes ++ replicate k []) faults) []
noted_within ns ms bytes k faults whole grows counts =
    let pushed = cut_push ns bytes [] 0 whole refl in
    noted bytes _ _ faults counts (grind (arith, common_steps, append-nil, replicate_more, pushed))

-- or is counted
pub noted_beyond : (ns bytes : List ℕ) (k faults : ℕ) → faults < 2 ^ 64 - 1 → told bytes (cut ns bytes ++ replicate (k + 1) []) (faults + 1) ≡ with_fault (told bytes (cut ns bytes ++ replicate k []) faults) []
noted_beyond ns bytes k faults counts =
    noted bytes _ _ faults counts (grind (arith, common_steps))

-- a length of nothing leaves the sum
pub sum-empty : (ns ms : List ℕ) (n : ℕ) → sum ns ≡ n → ms ≡ ns ++ 0 ∷ [] → sum ms ≡ n
sum-empty ns ms n whole grows = grind (arith, common_steps)
