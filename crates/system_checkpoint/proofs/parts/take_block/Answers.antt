use Rattle.std.proofs.Common.{◌≡◌, true, false, List, ℕ, length, refl, take, sym, subst, inl, inr}
use Rattle.std.proofs.lemmas.Bool.{cases_lt}
use Rattle.exact_parts.specs.Each.{Block}
use Rattle.exact_parts.specs.Taking.{Gets, IsPrefix}
use Rattle.system_checkpoint.proofs.PartLemmas.{block_got, block_prefix}
use Rattle.system_checkpoint.proofs.parts.take_block.Goals as goal

never : false ≡ true → ⊥
never e = cc

pub returns-then-not-has_bytes : goal.returns-then-not-has_bytes
returns-then-not-has_bytes c =
    elim (cases_lt (length c.as_slice.result.now) c.args.size) [
      | inl lt ↦ subst (IsPrefix (Block c.args.size)) c.as_slice.ensures (block_prefix c.args.size c.as_slice.result.now lt c.has_bytes.ensures.are_bytes)
      | inr le ↦ absurd (never (c.if-not-has_bytes.ensures.enough.1 le))
    ]

pub returns : goal.returns
returns c =
    let size = c.args.size in
    let got = block_got size c.as_slice.result.now (c.if-not-has_bytes.ensures.enough.0 refl) c.has_bytes.ensures.are_bytes in
    subst (λ (v : List ℕ). Gets (Block size) c.args.bytes.now v size) (sym c.in_ok-value.ensures)
    (subst (λ (xs : List ℕ). Gets (Block size) xs (take size xs) size) c.as_slice.ensures got)
