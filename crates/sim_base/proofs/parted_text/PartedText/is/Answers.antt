use Rattle.std.proofs.Common.{◌≡◌, ◌≢◌, ◌++◌, ◌+◌, ℕ, List, [], Some, None, sym, ap, ◌∙◌, append_assoc, length, ◌==◌, refl, arith}
use Rattle.std.proofs.lemmas.Bool.{false≢true}
use Rattle.std.proofs.lemmas.Bool.Decides.{Decides-eqb}
use Rattle.std.proofs.lemmas.Grind.{common_steps}
use Rattle.std.proofs.lemmas.List.{append_cancel_left, nil_from_length}
use Rattle.std.proofs.lemmas.Slice.Eq.{strip_prefix_is}
use Rattle.sim_base.proofs.parted_text.PartedText.is.Goals as goal

pub loop-part-init : goal.loop-part-init
loop-part-init c = ([], sym c.parts-parts.ensures.text, refl)

pub loop-part-smaller : goal.loop-part-smaller
loop-part-smaller c = let fewer = c.in-Some.ensures.count in omega (arith, fewer)

pub loop-part-preserved : goal.loop-part-preserved
loop-part-preserved c =
    let was = c.loop-part.invariant in
    let part = c.in-Some.part.now in
    let rest = c.in-Some-strip_prefix.rest in
    let begins : c.loop-part.left.now ≡ c.as_bytes.result.now ++ rest.now = strip_prefix_is Decides-eqb c.loop-part.left.now c.as_bytes.result.now (Some rest) c.in-Some-strip_prefix.ensures.cases in (
      was.0 ++ part,
      was.1 ∙ ap (λ z. was.0 ++ z) c.in-Some.ensures.text ∙ sym (append_assoc was.0 part c.next.new.self.0),
      was.2 ∙ ap (λ z. was.0 ++ z) (begins ∙ ap (λ z. z ++ rest.now) c.as_bytes.ensures.value) ∙ sym (append_assoc was.0 part rest.now),
    )

pub returns-in-None : goal.returns-in-None
returns-in-None c =
    let was = c.loop-part.invariant in
    let other : (rest : List ℕ) → c.loop-part.left.now ≢ c.as_bytes.result.now ++ rest = strip_prefix_is Decides-eqb c.loop-part.left.now c.as_bytes.result.now None c.in-None.ensures.cases in (
      λ no. absurd (false≢true no),
      λ same.
          let ends : c.loop-part.parts.0 ≡ c.loop-part.left.now = append_cancel_left was.0 c.loop-part.parts.0 c.loop-part.left.now (sym was.1 ∙ same ∙ was.2) in
          absurd (other c.next.new.self.0 (sym ends ∙ c.in-Some.ensures.text ∙ ap (λ z. z ++ c.next.new.self.0) (sym c.as_bytes.ensures.value))),
    )

pub returns : goal.returns
returns c =
    let was = c.loop-part.invariant in
    let left = c.loop-part.left.now in
    let nothing : c.loop-part.parts.0 ≡ [] = c.in_default.ensures.end refl in
    let tells = c.is_empty.ensures in (
      λ yes.
          let none : left ≡ [] = nil_from_length left (grind (arith, common_steps, tells, yes)) in
          was.1 ∙ ap (λ z. was.0 ++ z) (nothing ∙ sym none) ∙ sym was.2,
      λ same.
          let none : left ≡ [] = sym (append_cancel_left was.0 c.loop-part.parts.0 left (sym was.1 ∙ same ∙ was.2)) ∙ nothing in
          tells ∙ ap (λ (z : List ℕ). length z == 0) none,
    )
