-- What the loop that escapes a name has written so far.
use Rattle.std.proofs.Common.{◌≡◌, ℕ, ◌+◌, ◌*◌, ◌<◌, ◌≤◌, List, ◌++◌, length, take, drop, get_or, arith}
use Rattle.std.proofs.lemmas.Grind.{common_steps}
use Rattle.std.proofs.lemmas.Slice.{overwrites}
use borrow.Rule.Slice.PartMut.{put_mid}
use Rattle.sim_base.specs.Escape.{escaped, escaped_byte}

-- a part of a name stands escaped at the start of a slice, and what is after it is as it was
pub record Written (name : List ℕ) (count len : ℕ) (old new : List ℕ) : Type 0 where
  pub counted : len ≡ length (escaped name)
  pub small : len ≤ 3 * count
  pub prefix : take len new ≡ escaped name
  pub after : drop len new ≡ drop len old

-- one more byte
pub escaped_more : (name : List ℕ) (i : ℕ) → i < length name → escaped (take (i + 1) name) ≡ escaped (take i name) ++ escaped_byte (get_or name i 0)
escaped_more name i within = grind (arith, common_steps)

-- the start of a slice goes on by a text that is written after it
pub written_more : (name old out text : List ℕ) (i len byte : ℕ) → Written (take i name) i len old out → i < length name → byte ≡ get_or name i 0 → text ≡ escaped_byte byte → length text ≤ 3 → length out ≡ length old → 3 * length name ≤ length old → (k : ℕ) → k ≡ length text → Written (take (i + 1) name) (i + 1) (len + length text) old (put_mid len k out text)
written_more name old out text i len byte so_far within is_byte is_text short same room k is_k = record {
  counted = grind (arith, common_steps, escaped_more);
  small = omega arith;
  prefix = grind (arith, common_steps, overwrites, escaped_more);
  after = grind (arith, common_steps, overwrites);
}
