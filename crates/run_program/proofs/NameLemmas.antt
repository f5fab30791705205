-- Names that are written after what stands in a text.
use Rattle.std.proofs.Common.{◌≡◌, ℕ, ◌+◌, ◌-◌, ◌*◌, ◌≤◌, List, [], ◌∷◌, ◌++◌, length, take, length-append, length-take, refl, sym, ap, ◌∙◌, arith}
use Rattle.std.proofs.lemmas.Bool.Decides.{nat_tests}
use Rattle.std.proofs.Math.Seq.{take-append-add}
use Rattle.std.proofs.lemmas.List.{take-take}
use Rattle.std.proofs.lemmas.Slice.{take-put_mid}
use borrow.Rule.Slice.PartMut.{put_mid}
use Rattle.sim_base.specs.Escape.{escaped, escaped_byte}

escaped_byte_short : (byte : ℕ) → length (escaped_byte byte) ≤ 3
escaped_byte_short byte = grind (arith, nat_tests)

-- a name takes at most three bytes for each of its own
pub escaped_short : (name : List ℕ) → length (escaped name) ≤ 3 * length name
escaped_short [] = omega arith
escaped_short (byte ∷ name) =
    let here = escaped_byte_short byte in
    let rest = escaped_short name in
    omega (arith, length-append (escaped_byte byte) (escaped name))

-- what stands up to the end, once all after a place is written
over_all : (at : ℕ) (xs ys : List ℕ) → at ≤ length xs → length ys ≡ length xs - at → take (at + length ys) (put_mid at (length xs - at) xs ys) ≡ take at xs ++ ys
over_all at xs ys within same = take-put_mid at (length xs - at) xs ys (at + length ys) refl within

prefix_of : (at k : ℕ) (xs ys text : List ℕ) → at ≤ length xs → k ≤ length ys → take (at + length ys) text ≡ take at xs ++ ys → take (at + k) text ≡ take at xs ++ take k ys
prefix_of at k xs ys text within short whole =
    let count : length (take at xs) ≡ at = simp length-take (omega arith) in
    let n : at + k ≤ at + length ys = omega arith in
    sym (take-take (at + k) (at + length ys) text n) ∙ ap (take (at + k)) whole ∙ ap (λ (m : ℕ). take (m + k) (take at xs ++ ys)) (sym count) ∙ take-append-add (take at xs) ys k

-- a name that is written to the start of what comes after a place
pub name_after : (at k : ℕ) (xs ys name : List ℕ) → at ≤ length xs → length ys ≡ length xs - at → k ≤ length ys → take k ys ≡ escaped name →
    take (at + k) (put_mid at (length xs - at) xs ys) ≡ take at xs ++ escaped name
name_after at k xs ys name within same short prefix =
    prefix_of at k xs ys (put_mid at (length xs - at) xs ys) within short (over_all at xs ys within same) ∙ ap (λ (tail : List ℕ). take at xs ++ tail) prefix
