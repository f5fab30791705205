use Rattle.std.proofs.Common.{◌≡◌, ◌+◌, ◌∙◌, ℕ, Some, slice_get, List, Option, length, sym, ap, subst, arith}
use Rattle.std.proofs.lemmas.List.{length-append}
use Rattle.name_prefixes.specs.Prefixes.{AreLinks, BeginsAt, Entry, FindsLastBelow}
use Rattle.name_prefixes.proofs.StepLemmas.{links_push}
use Rattle.name_prefixes.proofs.prefixes.link_prefixes.Goals as goal

pub loop-init : goal.loop-init
loop-init c = record {
  len = ap length c.in_ok-shorter.ensures.items;
  links = subst (AreLinks c.args.sorted.now) (sym c.in_ok-shorter.ensures.items) (λ i e last there link. cc);
}

pub last_prefix-last-requires-clause-next : goal.last_prefix-last-requires-clause-next
last_prefix-last-requires-clause-next c = omega (arith, ap length c.deref.ensures.value, c.loop.invariant.len)

pub last_prefix-last-requires-clause-links : goal.last_prefix-last-requires-clause-links
last_prefix-last-requires-clause-links c = subst (AreLinks c.args.sorted.now) (sym c.deref.ensures.value) c.loop.invariant.links

pub loop-preserved : goal.loop-preserved
loop-preserved c = record {
  len = ap length c.in_ok-push.ensures.items ∙ length-append c.loop.shorter.items _ ∙ ap (λ n. n + 1) c.loop.invariant.len;
  links = subst (AreLinks c.args.sorted.now) (sym c.in_ok-push.ensures.items) (links_push c.args.sorted.now c.loop.shorter.items c.last_prefix-last.result c.loop.invariant.links (subst (λ (xs : List (Option ℕ)). (e : Entry) → slice_get c.args.sorted.now (length xs) ≡ Some e → FindsLastBelow (BeginsAt c.args.sorted.now e.0.now) (length xs) c.last_prefix-last.result) c.deref.ensures.value c.last_prefix-last.ensures));
}

pub returns-clause-len : goal.returns-clause-len
returns-clause-len c = omega (arith, c.loop.invariant.len, c.loop-test.false, c.loop.auto.counter-end)

pub returns-clause-links : goal.returns-clause-links
returns-clause-links c = c.loop.invariant.links
