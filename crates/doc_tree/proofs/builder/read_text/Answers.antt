use Rattle.std.proofs.Common.{◌≡◌, ◌∷◌, [], ◌++◌, length, refl, sym, ap, ◌∙◌, subst, take, drop, ◌-◌, ◌<◌, ◌^◌, arith}
use Rattle.doc_grammar.specs.Grammar.{strict}
use Rattle.doc_grammar.specs.Characters.{class}
use Rattle.doc_grammar.specs.Machine.{step}
use Rattle.doc_grammar.specs.Nodes.{nodes_after}
use Rattle.doc_events.specs.View.{state_of, events_at}
use Rattle.doc_events.specs.Answers.{Faults}
use Rattle.doc_events.proofs.CallerLemmas.{moved, step_text, step_place, whole_text, ended, early, slice_left, slice_fault, refused_fits, refused_fault}
use Rattle.doc_tree.proofs.Told.{built_tree, built_more}
use Rattle.doc_tree.proofs.builder.read_text.Goals as goal

pub loop-at-init : goal.loop-at-init
loop-at-init c =
    let d = c.into_iter-at-iterator.ensures.into_iter_gives in (
      [],
      [],
      sym (ap (λ z. z.rest.now) d ∙ c.char_indices-at-items.ensures.rest),
      ap (λ z. z.at) d ∙ c.char_indices-at-items.ensures.offset,
      (sym c.new-reader.ensures, refl),
      λ more. ap (λ z. nodes_after more z.0 z.1) c.new-builder.ensures,
    )

pub loop-at-preserved-in-Nothing : goal.loop-at-preserved-in-Nothing
loop-at-preserved-in-Nothing c =
    let b = c.in-Some.ensures.steps in
    let i = c.loop-at.invariant in
    let es = events_at c.in-Ok.token c.take.new.self in
    let none : es ≡ [] = ap (λ k. events_at k c.take.new.self) c.in-Nothing.is in
    let built = c.loop-at.builder in (
      i.0 ++ c.in-Some.c ∷ [],
      i.1 ++ es,
      step_text c.args.text.now i.0 c.loop-at.at-iterator.rest.now c.next.new.self.rest.now c.in-Some.c i.2 b.1,
      step_place i.0 c.in-Some.c c.loop-at.at-iterator.at c.next.new.self.at i.3 b.2,
      moved i.0 (state_of c.loop-at.reader) c.in-Some.c c.in-Ok.token c.take.new.self i.1 i.4 c.in-Ok.ensures,
      built_more i.1 es built.0 built.0 built.1 built.1 i.5 (λ more. ap (λ z. nodes_after (z ++ more) built.0 built.1) (sym none)),
    )

pub loop-at-preserved : goal.loop-at-preserved
loop-at-preserved c =
    let b = c.in-Some.ensures.steps in
    let i = c.loop-at.invariant in
    let es = events_at c.in-Ok.token c.take.new.self in (
      i.0 ++ c.in-Some.c ∷ [],
      i.1 ++ es,
      step_text c.args.text.now i.0 c.loop-at.at-iterator.rest.now c.next.new.self.rest.now c.in-Some.c i.2 b.1,
      step_place i.0 c.in-Some.c c.loop-at.at-iterator.at c.next.new.self.at i.3 b.2,
      moved i.0 (state_of c.loop-at.reader) c.in-Some.c c.in-Ok.token c.take.new.self i.1 i.4 c.in-Ok.ensures,
      built_more i.1 es c.loop-at.builder.0 c.in-Ok-take.builder.0 c.loop-at.builder.1 c.in-Ok-take.builder.1 i.5 c.in-Ok-take.ensures,
    )

pub returns-then-is_final-clause-found : goal.returns-then-is_final-clause-found
returns-then-is_final-clause-found c =
    let i = c.loop-at.invariant in
    let w = whole_text c.args.text.now i.0 c.loop-at.at-iterator.rest.now i.2 c.in-None.ensures.steps.0 in (
      i.1,
      ended c.args.text.now i.0 (state_of c.loop-at.reader) i.1 w i.4 (c.is_final.ensures.yes c.if-is_final.true),
      ap (λ z. z.1) c.builder-2.view_is ∙ built_tree i.1 c.loop-at.builder.0 c.loop-at.builder.1 i.5,
    )

pub returns-clause-fault : goal.returns-clause-fault
returns-clause-fault c =
    let i = c.loop-at.invariant in
    let w = whole_text c.args.text.now i.0 c.loop-at.at-iterator.rest.now i.2 c.in-None.ensures.steps.0 in
    early c.args.text.now i.0 (state_of c.loop-at.reader) i.1 c.utf8.text w i.4 (c.is_final.ensures.no c.if-is_final.false)

pub refusal-requires : goal.refusal-requires
refusal-requires c =
    let b = c.in-Some.ensures.steps in
    let i = c.loop-at.invariant in
    let text = c.args.text.now in
    let bytes = c.as_bytes.result.now in
    let rest = take (length bytes - c.in-Some.at) (drop c.in-Some.at bytes) in
    let left : rest ≡ drop c.in-Some.at text = slice_left bytes c.in-Some.at ∙ ap (drop c.in-Some.at) c.as_bytes.ensures.value in
    let s = state_of c.loop-at.reader in
    let few : length text < 2 ^ 64 = omega arith in
    refused_fits text rest c.in-Some.at c.in-Err.stop (step strict s (class c.in-Some.c) c.in-Some.c)
    (slice_fault text i.0 c.loop-at.at-iterator.rest.now c.next.new.self.rest.now rest c.in-Some.c c.in-Some.at s i.1 c.utf8.text i.2 b.1 (b.0 ∙ i.3) i.4 left) c.in-Err.ensures few

pub returns-in-Err-clause-fault : goal.returns-in-Err-clause-fault
returns-in-Err-clause-fault c =
    let b = c.in-Some.ensures.steps in
    let i = c.loop-at.invariant in
    let text = c.args.text.now in
    let bytes = c.as_bytes.result.now in
    let rest = take (length bytes - c.in-Some.at) (drop c.in-Some.at bytes) in
    let left : rest ≡ drop c.in-Some.at text = slice_left bytes c.in-Some.at ∙ ap (drop c.in-Some.at) c.as_bytes.ensures.value in
    let s = state_of c.loop-at.reader in
    subst (λ z. Faults z text) (sym c.refusal.ensures) (refused_fault text rest c.in-Some.at c.in-Err.stop (step strict s (class c.in-Some.c) c.in-Some.c)
    (slice_fault text i.0 c.loop-at.at-iterator.rest.now c.next.new.self.rest.now rest c.in-Some.c c.in-Some.at s i.1 c.utf8.text i.2 b.1 (b.0 ∙ i.3) i.4 left) c.in-Err.ensures)
