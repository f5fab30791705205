-- Parts of bytes that are shared.
use Rattle.std.proofs.Common.{◌≡◌, ℕ, ◌+◌, ◌-◌, ◌≤◌, List, length, take, drop, sym, ap, ◌∙◌, arith, length-take}
use Rattle.std.proofs.lemmas.List.{drop-drop, drop-take, take-take, length-drop}

-- a part has as many bytes as it counts
pub part_len : (whole : List ℕ) (start count : ℕ) → start + count ≤ length whole → length (take count (drop start whole)) ≡ count
part_len whole start count within = (let taken = length-take count (drop start whole) in let dropped = length-drop start whole in omega (arith, within, taken, dropped))

-- the first bytes of a part
pub prefix_is : (whole : List ℕ) (start count few : ℕ) → few ≤ count → take few (drop start whole) ≡ take few (take count (drop start whole))
prefix_is whole start count few le = sym (take-take few count (drop start whole) le)

-- what comes after them
pub after_is : (whole : List ℕ) (start count few : ℕ) → few ≤ count → take (count - few) (drop (start + few) whole) ≡ drop few (take count (drop start whole))
after_is whole start count few le =
    let parts : few + (count - few) ≡ count = omega (arith, le) in
    ap (take (count - few)) (sym (drop-drop few start whole)) ∙ sym (drop-take few (count - few) (drop start whole)) ∙ ap (λ n. drop few (take n (drop start whole))) parts
